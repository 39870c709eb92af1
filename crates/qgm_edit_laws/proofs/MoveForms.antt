-- The check finds nothing more where a conjunct moves, as it is or as P1 pushes it.
use Rattle.std.proofs.Common.{ℕ, ◌==◌, ◌≡◌, ◌&&◌, ◌||◌, ◌-◌, cond, Bool, true, false, List, [], ◌∷◌, ◌++◌, length, map, Some, None, refl, sym, ap, subst, ◌∙◌, eqb-true, ◌⊎◌, inl, inr}
use Rattle.std.specs.Prelude.{slice_get}
use Rattle.std.specs.List.{list_all, list_any, remove}
use Rattle.std.proofs.lemmas.Bool.{and_parts, cases_Bool, eq-eqb, or_cases, or_left, or_parts, or_right}
use Rattle.qgm_core.specs.Boxes.{QueryGraph, is_box, is_quant, numbers, width}
use Rattle.qgm_core.specs.Edits.{conds_in, move_conjunct, put_cond_found, with_cond, without_cond}
use Rattle.qgm_core.specs.Kinds.{is_F}
use Rattle.list_laws.specs.Lists.{EachOnce, In, change}
use Rattle.qgm_core.specs.declared.node.Node.{Node}
use Rattle.qgm_core.specs.declared.owned.OwnedQuant.{OwnedQuant}
use Rattle.qgm_terms.specs.Named.{nodes_in_cond}
use Rattle.qgm_terms.specs.Terms.{Cond, Term}
use Rattle.qgm_terms.specs.Wanted.{has_aggregate_cond, reads, reads_at, reads_at_cond, reads_cond}
use Rattle.qgm_wellformed.specs.Types.{cond_fits, lookup_of}
use Rattle.qgm_wellformed.specs.WellFormed.{fault}
use Rattle.qgm_meaning.specs.Scope.{loose}
use Rattle.qgm_meaning.specs.Searches.{names, names_cond}
use Rattle.qgm_edit_laws.specs.Changes.{Reparts}
use Rattle.qgm_edit_laws.specs.Checked.{own_seen}
use Rattle.qgm_edit_laws.specs.FormedEdits.{MayMoveConjunct}
use Rattle.qgm_edit_laws.specs.Graph.{BareBy, Sound}
use Rattle.qgm_edit_laws.specs.FedOpen.{FedOpen}
use Rattle.qgm_edit_laws.specs.Shaped.{Shaped, Typed}
use Rattle.qgm_edit_laws.proofs.ConjunctForms.{less-form, more-form, names-none, node-of, old-conds, old-fits, put_items, unfolded-was}
use Rattle.qgm_edit_laws.proofs.Edits.{any-append, once-each}
use Rattle.qgm_edit_laws.proofs.Formed.{same-quant, sound-checked}
use Rattle.qgm_edit_laws.proofs.OneBox.{at, change-at, once-map}
use Rattle.qgm_edit_laws.proofs.PartForms.{PartForm, at-all, parts-open}
use Rattle.qgm_edit_laws.proofs.PlacedLists.{any-more}
use Rattle.qgm_edit_laws.proofs.Ranks.{same-box}
use Rattle.qgm_edit_laws.proofs.Read.{at_cond, at_all, columns-found, cond-nodes, is_of}
use Rattle.qgm_edit_laws.proofs.Scope.{in-first}
use Rattle.qgm_edit_laws.proofs.Scoped.{scoped-of}
use Rattle.qgm_edit_laws.proofs.CondTypes.{all-mid}
use Rattle.list_laws.proofs.Booleans.{clash, or-false}
use Rattle.list_laws.proofs.Membership.{any-from, any-in, eq-itself}

-- ---- lists

get-mid : (ps : List Cond) (p : Cond) (qs : List Cond) → slice_get (ps ++ p ∷ qs) (length ps) ≡ Some p
get-mid [] p qs = refl
get-mid (x ∷ ps) p qs = get-mid ps p qs

remove-mid : (ps : List Cond) (p : Cond) (qs : List Cond) → remove (ps ++ p ∷ qs) (length ps) ≡ ps ++ qs
remove-mid [] p qs = refl
remove-mid (x ∷ ps) p qs = ap (λ z. x ∷ z) (remove-mid ps p qs)

pub map-map : (f h : Node → Node) (ns : List Node) → map f (map h ns) ≡ map (λ y. f (h y)) ns
map-map f h [] = refl
map-map f h (n ∷ ns) = ap (λ z. f (h n) ∷ z) (map-map f h ns)

module _ (g : QueryGraph) (u : EachOnce (numbers g.boxes)) (f : fault g ≡ None) (b c : Node) (ps : List Cond) (p : Cond) (qs : List Cond) (m : MayMoveConjunct g b c ps p qs) where
  abbrev bs : List Node
  bs = g.boxes

  ok : Sound bs g.root × Typed bs × Shaped bs g.root
  ok = (sound-checked g u).0 f

  w : Sound bs g.root
  w = ok.0

  abbrev off : Node → Node
  off = without_cond (length ps)

  abbrev on : Node → Node
  on = with_cond p

  abbrev h : Node → Node
  h y = at c.id on (at b.id off y)

  -- the graph after it
  moved : (move_conjunct b.id (length ps) c.id g).boxes ≡ map h bs
  moved =
      ap (λ o. put_cond_found c.id (slice_get (conds_in o) (length ps)) (change (is_box b.id) off bs)) (in-first b bs w.ordered m.in_b)
      ∙ ap (λ cs. put_cond_found c.id (slice_get cs (length ps)) (change (is_box b.id) off bs)) m.conds
      ∙ ap (λ o. put_cond_found c.id o (change (is_box b.id) off bs)) (get-mid ps p qs)
      ∙ ap (change (is_box c.id) on) (change-at b.id off bs (once-each bs w.ordered))
      ∙ change-at c.id on (map (at b.id off) bs) (once-map (at b.id off) (λ y. at-all b.id off (λ z. z.id) (λ z. refl) y) bs (once-each bs w.ordered))
      ∙ map-map (at c.id on) (at b.id off) bs

  all : {X : Type 0} (P : Node → X) → ((y : Node) → P (on y) ≡ P y) → ((y : Node) → P (off y) ≡ P y) → (y : Node) → P (h y) ≡ P y
  all P e d y = at-all c.id on P e (at b.id off y) ∙ at-all b.id off P d y

  abbrev kb : ℕ
  kb = b.parts.conds.spare

  abbrev kc : ℕ
  kc = c.parts.conds.spare - 1

  abbrev b' : Node
  b' = put_items (ps ++ qs) kb b

  abbrev c' : Node
  c' = put_items (c.parts.conds.items ++ p ∷ []) kc c

  cases : (y : Node) → In y bs → ((y ≡ b) × (h y ≡ b')) ⊎ (((y ≡ c) × (h y ≡ c')) ⊎ (h y ≡ y))
  cases y i = elim (cases_Bool (y.id == b.id)) [
    | inl t ↦ (
        let e : y ≡ b = same-box bs y b w.ordered i m.in_b (eqb-true y.id b.id t) in
        let n : (b.id == c.id) ≡ false = (elim (cases_Bool (b.id == c.id)) [ inr n ↦ n | inl t ↦ absurd (clash (c.id == b.id) (eq-eqb c.id b.id (sym (eqb-true b.id c.id t))) m.apart) ]) in
        inl (e, ap h e ∙ ap (λ (z : Bool). at c.id on (cond z (off b) b)) (eq-itself b.id) ∙ ap (λ (z : Bool). cond z (on (off b)) (off b)) n ∙ ap (λ cs. put_items cs kb b) (ap (λ cs. remove cs (length ps)) m.conds ∙ remove-mid ps p qs)))
    | inr n ↦ elim (cases_Bool (y.id == c.id)) [
      | inl t ↦ (let e : y ≡ c = same-box bs y c w.ordered i m.in_c (eqb-true y.id c.id t) in
          inr (inl (e, ap h e ∙ ap (λ (z : Bool). at c.id on (cond z (off c) c)) m.apart ∙ ap (λ (z : Bool). cond z (on c) c) (eq-itself c.id))))
      | inr k ↦ inr (inr (ap (λ (z : Bool). at c.id on (cond z (off y) y)) n ∙ ap (λ (z : Bool). cond z (on y) y) k))
    ]
  ]

  -- a search of a box after it finds in the box before, or in p
  found : (H : Term → Bool) (D : Cond → Bool) (y : Node) → In y bs → (list_any H (h y).parts.head || list_any D (h y).parts.conds.items) ≡ true → ((list_any H y.parts.head || list_any D y.parts.conds.items) ≡ true) ⊎ ((y ≡ c) × (D p ≡ true))
  found H D y i t = elim (cases y i) [
    | inl e ↦ inl (subst (λ (z : Node). (list_any H z.parts.head || list_any D z.parts.conds.items) ≡ true) (sym e.0) (elim (or_cases (list_any H b.parts.head) (list_any D (ps ++ qs)) (subst (λ (z : Node). (list_any H z.parts.head || list_any D z.parts.conds.items) ≡ true) e.1 t)) [
      | inl a ↦ or_left (list_any H b.parts.head) (list_any D b.parts.conds.items) a
      | inr a ↦ or_right (list_any H b.parts.head) (list_any D b.parts.conds.items) (ap (list_any D) m.conds ∙ any-more D ps p qs ∙ or_right (D p) (list_any D (ps ++ qs)) a)
    ]))
    | inr z ↦ elim z [
      | inr e ↦ inl (subst (λ (z : Node). (list_any H z.parts.head || list_any D z.parts.conds.items) ≡ true) e t)
      | inl e ↦ elim (or_cases (list_any H c.parts.head) (list_any D (c.parts.conds.items ++ p ∷ [])) (subst (λ (z : Node). (list_any H z.parts.head || list_any D z.parts.conds.items) ≡ true) e.1 t)) [
        | inl a ↦ inl (subst (λ (z : Node). (list_any H z.parts.head || list_any D z.parts.conds.items) ≡ true) (sym e.0) (or_left (list_any H c.parts.head) (list_any D c.parts.conds.items) a))
        | inr a ↦ elim (any-append D c.parts.conds.items (p ∷ []) a) [
          | inl x ↦ inl (subst (λ (z : Node). (list_any H z.parts.head || list_any D z.parts.conds.items) ≡ true) (sym e.0) (or_right (list_any H c.parts.head) (list_any D c.parts.conds.items) x))
          | inr x ↦ inr (e.0, sym (or-false (D p)) ∙ x)
        ]
      ]
    ]
  ]

  -- p stood in b
  in-b : (D : Cond → Bool) → D p ≡ true → list_any D b.parts.conds.items ≡ true
  in-b D t = ap (list_any D) m.conds ∙ any-more D ps p qs ∙ or_left (D p) (list_any D (ps ++ qs)) t

  reparts : Reparts bs h
  reparts = record {
    id = all (λ z. z.id) (λ z. refl) (λ z. refl);
    kind = λ y i. all (λ z. z.parts.kind) (λ z. refl) (λ z. refl) y;
    quants = λ y i. all (λ z. z.quants) (λ z. refl) (λ z. refl) y;
    wide = λ y i. all width (λ z. refl) (λ z. refl) y;
    reads = λ y i q t. elim (found (reads q) (reads_cond q) y i t) [
      | inl a ↦ (scoped-of bs g.root w y i).own q a
      | inr a ↦ subst (λ (z : Node). (own_seen z.parts.kind z q || loose bs z.id q) ≡ true) (sym a.0) (m.reads q a.1)
    ];
    fits = λ y i q k t. elim (found (reads_at q k) (reads_at_cond q k) y i t) [
      | inl a ↦ w.fits y i q k a
      | inr a ↦ w.fits b m.in_b q k (or_right (list_any (reads_at q k) b.parts.head) (list_any (reads_at_cond q k) b.parts.conds.items) (in-b (reads_at_cond q k) a.1))
    ];
    own_nodes = λ y i q t. elim (found (names q) (names_cond q) y i t) [
      | inl a ↦ w.own_nodes y i q a
      | inr a ↦ absurd (clash (names_cond q p) a.1 (names-none p m.node_free q))
    ];
    bare = λ y i. elim (cases y i) [
      | inl e ↦ subst (λ (z : Node). BareBy z.parts.kind (h y)) (sym e.0) (subst (λ k. BareBy k (h y)) (sym m.select_b) tt)
      | inr z ↦ elim z [
        | inl e ↦ subst (λ (z : Node). BareBy z.parts.kind (h y)) (sym e.0) (subst (λ k. BareBy k (h y)) (sym m.select_c) tt)
        | inr e ↦ subst (λ z. BareBy y.parts.kind z) (sym e) (w.bare y i)
      ]
    ];
  }

  unread : (r : OwnedQuant) → In r c.quants → is_F r.kind ≡ false → reads_cond r.id p ≡ false
  unread r j n = elim (cases_Bool (reads_cond r.id p)) [
    | inr a ↦ a
    | inl t ↦ absurd (elim (or_cases (own_seen c.parts.kind c r.id) (loose bs c.id r.id) (m.reads r.id t)) [
      | inr l ↦ clash (loose bs c.id r.id) l (w.settled c m.in_c r.id (any-from (is_quant r.id) r c.quants j (eq-itself r.id)))
      | inl o ↦ (
          let x = any-in (λ (s : OwnedQuant). is_F s.kind && is_quant r.id s) c.quants (subst (λ k. own_seen k c r.id ≡ true) m.select_c o) in
          let y = and_parts (is_F x.0.kind) (is_quant r.id x.0) x.1.1 in
          let e : x.0 ≡ r = same-quant bs w.ordered w.once c m.in_c x.0 r x.1.0 j (eqb-true x.0.id r.id y.1) in
          clash (is_F r.kind) (subst (λ (s : OwnedQuant). is_F s.kind ≡ true) e y.0) n)
    ])
  ]

  pub conjunct-formed : fault (move_conjunct b.id (length ps) c.id g) ≡ None
  conjunct-formed = subst (λ z. fault (record g { boxes = z }) ≡ None) (sym moved)
      (parts-open g u f h reparts
      (λ y i. elim (cases y i) [
        | inl e ↦ inr (subst (λ z. PartForm bs g.root z (h y)) (sym e.0) (subst (λ z. PartForm bs g.root b z) (sym e.1) (less-form bs g.root w ok.1 ok.2 b m.in_b m.select_b ps p qs m.conds kb)))
        | inr z ↦ elim z [
          | inr e ↦ inl e
          | inl e ↦ inr (subst (λ z. PartForm bs g.root z (h y)) (sym e.0) (subst (λ z. PartForm bs g.root c z) (sym e.1) (more-form bs g.root w ok.1 ok.2 c m.in_c m.select_c m.not_fed p kc
              (all-mid (cond_fits (lookup_of bs)) ps p qs (ap (list_all (cond_fits (lookup_of bs))) (sym m.conds) ∙ old-conds bs g.root w ok.1 ok.2 b m.in_b))
              (λ x k t. old-fits bs g.root w ok.1 ok.2 x k b m.in_b (columns-found x k b ∙ or_right (list_any (at_all x k) b.parts.head) (list_any (at_cond x k) b.parts.conds.items) (in-b (at_cond x k) t)))
              (or_parts (has_aggregate_cond p) (list_any has_aggregate_cond (ps ++ qs)) (sym (any-more has_aggregate_cond ps p qs) ∙ ap (list_any has_aggregate_cond) (sym m.conds) ∙ (unfolded-was bs g.root w ok.1 ok.2 b m.in_b m.select_b b.parts.conds.items kb).1)).0
              (λ x j. absurd (let q = node-of x in clash (list_any (is_of q.0) (nodes_in_cond p)) (any-from (is_of q.0) x (nodes_in_cond p) j q.1) (cond-nodes q.0 p ∙ names-none p m.node_free q.0)))
              unread)))
        ]
      ])
      (subst FedOpen moved m.fed_open))
