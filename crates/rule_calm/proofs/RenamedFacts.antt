-- A box in which columns of one quantifier become those of another over the same box: what is inferred of it, and that it is settled.
use Rattle.std.proofs.Common.{ℕ, zero, suc, ◌==◌, ◌≡◌, ◌≤◌, ◌<◌, ◌+◌, ◌||◌, cond, Bool, true, false, List, get_or, refl, sym, ap, subst, ◌∙◌, eqb-true, inl, inr, arith}
use Rattle.std.specs.List.{list_all, list_any}
use Rattle.std.proofs.lemmas.Bool.{cases_Bool, or_cases, or_left, or_parts, or_right}
use Rattle.list_laws.specs.Lists.{In}
use Rattle.list_laws.proofs.Booleans.{clash}
use Rattle.qgm_core.specs.Boxes.{owns}
use Rattle.qgm_core.specs.Kinds.{is_S, width_by}
use Rattle.qgm_core.specs.declared.node.Node.{Node}
use Rattle.qgm_core.specs.declared.owned.OwnedQuant.{OwnedQuant}
use Rattle.qgm_meaning.specs.Scope.{put_node}
use Rattle.qgm_meaning.specs.Searches.{names, names_cond}
use Rattle.qgm_meaning.specs.Tags.{columns_from}
use Rattle.qgm_terms.specs.Named.{columns_in}
use Rattle.qgm_terms.specs.Substitution.{cell_at, column_substituted, substituted}
use Rattle.qgm_terms.specs.Terms.{Term, col, null_int}
use Rattle.qgm_terms.specs.declared.named.Column.{Column}
use Rattle.qgm_wellformed.specs.Columns.{columns_of}
use Rattle.qgm_wellformed.specs.Shapes.{node_fits, nodes_of}
use Rattle.qgm_edit_laws.specs.Graph as graph
use Rattle.qgm_edit_laws.specs.Graph.{Sound}
use Rattle.qgm_edit_laws.specs.Rebuilds.{IsOwned}
use Rattle.qgm_edit_laws.proofs.Edits.{length-map}
use Rattle.qgm_props.specs.Calm.{calm_column, is_closed}
use Rattle.qgm_props.specs.Inferred.{Closed, Facts, error_free_under}
use Rattle.rule_calm.specs.Settled.{IsFirm, SettledBox}
use Rattle.rule_calm.proofs.BehindFacts.{single-put}
use Rattle.rule_calm.proofs.Framed.{Carried, Covers, Names, back, back-carried, column-still, range-is}
use Rattle.rule_calm.proofs.FreeTerms.{cl_of, ef_of, free_with, one_of}
use Rattle.rule_calm.proofs.HeadPlaces.{columns-single}
use Rattle.rule_calm.proofs.MovedFacts.{ColumnsMoved, Moved, moved-covers, moved-settled}
use Rattle.rule_calm.proofs.MovedTerms.{puts-renamed, puts-renamed-conds}
use Rattle.rule_calm.proofs.OuterFacts.{later-free}

-- a column in a cell of the columns of p is that column
pub cell-is : (c : Column) (p w k : ℕ) → In c (columns_in (cell_at k (columns_from p 1 w))) → (c.quant ≡ p) × ((c.place ≡ k) × ((1 ≤ k) × (k ≤ w)))
cell-is c p w zero i = elim i [ ]
cell-is c p w (suc k) i = let x = at 1 w k i in let e = x.1.0 in let l = x.1.1 in (x.0, ((omega (arith, e)), (omega arith, omega (arith, l))))
  where
    at : (s w k : ℕ) → In c (columns_in (get_or (columns_from p s w) k null_int)) → (c.quant ≡ p) × ((c.place ≡ s + k) × (k < w))
    at s zero k i = elim i [ ]
    at s (suc w) zero i = elim i [ inl e ↦ (ap (λ (z : Column). z.quant) (sym e), (ap (λ (z : Column). z.place) (sym e) ∙ (let z : s ≡ s + 0 = omega arith in z), omega arith)) | inr n ↦ elim n [ ] ]
    at s (suc w) (suc k) i = let x = at (suc s) w k i in let e = x.1.0 in let l = x.1.1 in (x.0, (omega (arith, e), omega (arith, l)))

-- ---- the box

-- columns of a, which ranges over one of the boxes, become those of p, which ranges over it after
pub record Renaming (bs hs : List Node) (kept : ℕ → Bool) (a p : ℕ) : Type 0 where
  pub was : OwnedQuant
  pub was_owned : IsOwned bs was
  pub was_is : was.id ≡ a
  pub now : OwnedQuant
  pub now_owned : IsOwned hs now
  pub now_is : now.id ≡ p
  pub same : now.over ≡ was.over
  pub over : kept was.over ≡ true

module _ (bs hs : List Node) (root : ℕ) (w : Sound bs root) (v : Sound hs root) (kept : ℕ → Bool) (a p wide : ℕ) (renaming : Renaming bs hs kept a p) (n : Node) (s : Names bs hs kept n) (apart : owns a n ≡ false)
    (i : In (put_node a (columns_from p 1 wide) n) hs) (shut : is_closed hs n.id ≡ is_closed bs n.id) (shut_over : (r : OwnedQuant) → In r n.quants → is_closed hs r.over ≡ is_closed bs r.over) where
  abbrev cells : List Term
  cells = columns_from p 1 wide

  abbrev n' : Node
  n' = put_node a (columns_from p 1 wide) n

  abbrev φ : ℕ → ℕ → Term
  φ = column_substituted a (columns_from p 1 wide)

  -- no node of it is of a
  bare : (list_any (names a) n.parts.head ≡ false) × (list_any (names_cond a) n.parts.conds.items ≡ false)
  bare = or_parts (list_any (names a) n.parts.head) (list_any (names_cond a) n.parts.conds.items)
      (elim (cases_Bool (graph.nodes_in a n)) [ inr e ↦ e | inl e ↦ absurd (clash (owns a n) (w.own_nodes n s.before a e).0 apart) ])

  moved : Moved bs hs φ n n'
  moved = record {
    before = s.before;
    after = i;
    id = refl;
    kind = refl;
    role = refl;
    quants = refl;
    head = puts-renamed a cells n.parts.head bare.0;
    conds = puts-renamed-conds a cells n.parts.conds.items bare.1;
    wide = ap (width_by n.parts.kind) (length-map (substituted a cells) n.parts.head);
    single = λ r j. single-put a cells (columns-single p 1 wide) (col r j) refl;
    shut = shut;
    shut_over = shut_over;
  }

  module _ (f g : Facts) (c : Carried f g kept) where
    renames : (k : ℕ) → error_free_under bs f a k ≡ true → error_free_under hs g p k ≡ true
    renames k h = subst (λ q. error_free_under hs g q k ≡ true) renaming.now_is (range-is hs root v (λ b. g.error_free b k) renaming.now renaming.now_owned
        ∙ subst (λ b. g.error_free b k ≡ true) (sym renaming.same) (c.error_free renaming.was.over k renaming.over (sym (range-is bs root w (λ b. f.error_free b k) renaming.was renaming.was_owned) ∙ subst (λ q. error_free_under bs f q k ≡ true) (sym renaming.was_is) h)))

    columns : ColumnsMoved bs hs f g φ n
    columns y two j h = elim (cases_Bool (y.quant == a)) [
      | inl e ↦ ap (λ b. free_with (ef_of hs g) (cl_of hs g) (one_of hs g) two (cond b (cell_at y.place cells) (col y.quant y.place))) e
          ∙ later-free (ef_of hs g) (cl_of hs g) (one_of hs g) two p 0 wide y.place (λ k l. subst (λ t. error_free_under hs g p t ≡ true) (let z : y.place ≡ 0 + y.place = omega arith in z) (renames y.place (subst (λ q. error_free_under bs f q y.place ≡ true) (eqb-true y.quant a e) h)))
      | inr e ↦ ap (λ b. free_with (ef_of hs g) (cl_of hs g) (one_of hs g) two (cond b (cell_at y.place cells) (col y.quant y.place))) e
          ∙ column-still bs hs root w v kept f g c n s y j h
    ]

    -- a column that stands in the place of another
    stands : (y : Column) → In y (columns_of n) → (owns y.quant n || error_free_under bs f y.quant y.place) ≡ true → (o : Column) → In o (columns_in (φ y.quant y.place)) → calm_column hs g n' o ≡ true
    stands y j h o k = elim (cases_Bool (y.quant == a)) [
      | inl e ↦ by-a (eqb-true y.quant a e) (subst (λ b. In o (columns_in (cond b (cell_at y.place cells) (col y.quant y.place)))) e k)
      | inr e ↦ elim (subst (λ b. In o (columns_in (cond b (cell_at y.place cells) (col y.quant y.place)))) e k) [ inl t ↦ subst (λ (u : Column). calm_column hs g n' u ≡ true) t other | inr t ↦ elim t [ ] ]
    ]
      where
        by-a : y.quant ≡ a → In o (columns_in (cell_at y.place cells)) → calm_column hs g n' o ≡ true
        by-a e k = elim (or_cases (owns y.quant n) (error_free_under bs f y.quant y.place) h) [
          | inl t ↦ absurd (clash (owns a n) (subst (λ q. owns q n ≡ true) e t) apart)
          | inr t ↦ (
              let u = cell-is o p wide y.place k in
              or_right (owns o.quant n) (error_free_under hs g o.quant o.place) (subst (λ q. error_free_under hs g q o.place ≡ true) (sym u.0) (subst (λ k. error_free_under hs g p k ≡ true) (sym u.1.0) (renames y.place (subst (λ q. error_free_under bs f q y.place ≡ true) e t)))))
        ]

        other : calm_column hs g n' y ≡ true
        other = elim (or_cases (owns y.quant n) (error_free_under bs f y.quant y.place) h) [
          | inl t ↦ or_left (owns y.quant n) (error_free_under hs g y.quant y.place) t
          | inr t ↦ or_right (owns y.quant n) (error_free_under hs g y.quant y.place) (column-still bs hs root w v kept f g c n s y j t)
        ]

  module _ (fit : list_all (node_fits n.quants) (nodes_of n) ≡ true) (f g : Facts) (closed : Closed hs g) (number : kept n.id ≡ true) (single : (r : OwnedQuant) → In r n.quants → is_S r.kind ≡ true → g.at_most_one r.over ≡ true) (x : SettledBox bs f root n) where
    -- it is covered
    pub put-covers : Covers bs hs f g kept n
    put-covers = moved-covers bs hs root w v kept f g closed φ n n' moved s.over fit single number x.no_single (columns (back bs hs f g kept) g (back-carried bs hs f g kept))

    -- and settled
    pub put-settled : Carried f g kept → ((r : OwnedQuant) → In r n.quants → is_S r.kind ≡ true → IsFirm hs r.over) → ((b : ℕ) → IsFirm hs b → g.at_most_one b ≡ true) → SettledBox hs g root n'
    put-settled c firm one = moved-settled bs hs root w v kept f g closed φ n n' moved s.over fit single number c x firm one (stands f g c)
