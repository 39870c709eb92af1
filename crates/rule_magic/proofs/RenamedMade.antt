-- A renamed box is as one that is made.
use Rattle.std.proofs.Common.{ℕ, zero, suc, ◌==◌, ◌≡◌, ◌≤◌, ◌<◌, ◌+◌, ◌||◌, not, Bool, true, false, List, ◌∷◌, get_or, refl, sym, ap, ap₂, subst, ◌∙◌, eqb-true, ◌⊎◌, inl, inr, arith}
use Rattle.std.specs.List.{list_all}
use Rattle.std.proofs.lemmas.Bool.{and_parts, cases_Bool, eq-eqb, or_cases, or_left, or_right}
use Rattle.qgm_core.specs.Boxes.{owns, width}
use Rattle.list_laws.specs.Lists.{In}
use Rattle.qgm_core.specs.declared.node.Node.{Node}
use Rattle.qgm_core.specs.declared.owned.OwnedQuant.{OwnedQuant}
use Rattle.qgm_meaning.specs.Scope.{loose, put_node, read_by}
use Rattle.qgm_meaning.specs.Searches.{bare, looking}
use Rattle.qgm_meaning.specs.Tags.{columns_from}
use Rattle.qgm_terms.specs.Substitution.{cell_at}
use Rattle.qgm_terms.specs.Terms.{Term, col, null_int}
use Rattle.qgm_terms.specs.Wanted.{Wanted, any_in, reads, reads_at}
use Rattle.qgm_edit_laws.specs.Graph.{ArmsBy, Fits, Sound}
use Rattle.qgm_edit_laws.specs.Rebuilds.{MadeIn}
use Rattle.qgm_edit_laws.specs.Scoped.{Scoped, shows_by}
use Rattle.qgm_edit_laws.specs.Checked.{own_seen}
use Rattle.qgm_edit_laws.proofs.Adds.{reads-at-read}
use Rattle.qgm_edit_laws.proofs.FreeLoose.{looks-asked}
use Rattle.qgm_edit_laws.proofs.ReadKept.{put-hit}
use Rattle.qgm_edit_laws.proofs.Scoped.{scoped-of}
use Rattle.qgm_edit_laws.proofs.ShapedPut.{conds-same, heads-same}
use Rattle.rule_magic.specs.Renamed.{MayRename, RenamedIsMade}
use Rattle.rule_feed.proofs.FeedReads.{columns-cell}
use Rattle.rule_feed.proofs.FeedScope.{bare-kept, none-true, put-found, put-node_of, put-read_at, seen-same, shows-owned}
use Rattle.rule_magic.proofs.MagicWidth.{read-place}
use Rattle.list_laws.proofs.Booleans.{clash}
use Rattle.list_laws.proofs.Membership.{eq-false-sym, eq-itself, in-right}

pub bare-columns : (q k w : ℕ) → list_all bare (columns_from q k w) ≡ true
bare-columns q k zero = refl
bare-columns q k (suc w) = bare-columns q (suc k) w

col-at : (p j w i : ℕ) → i < w → get_or (columns_from p j w) i null_int ≡ col p (j + i)
col-at p j zero i h = absurd (omega arith)
col-at p j (suc w) zero h = ap (col p) (omega arith)
col-at p j (suc w) (suc i) h = col-at p (suc j) w i (omega (arith, h)) ∙ ap (col p) (omega arith)

pub columns-hit : (p w k : ℕ) → 1 ≤ k → k ≤ w → cell_at k (columns_from p 1 w) ≡ col p k
columns-hit p w zero l h = absurd (omega (arith, l))
columns-hit p w (suc i) l h = col-at p 1 w i (omega (arith, h)) ∙ ap (col p) (omega arith)

module _ (bs hs : List Node) (root : ℕ) (look : ℕ → ℕ → Bool) (a p w : ℕ) (n : Node) (sound : Sound bs root) (m : MayRename bs hs look a p w n) (wide : width (put_node a (columns_from p 1 w) n) ≡ width n) where
  abbrev cells : List Term
  cells = columns_from p 1 w

  abbrev z : Node
  z = put_node a (columns_from p 1 w) n

  sc : Scoped (loose bs) n
  sc = scoped-of bs root sound n m.within

  own-a : owns a n ≡ true → ⊥
  own-a o = clash (loose bs n.id a) m.opened (sound.settled n m.within a o)

  -- what reads a column of a cell reads p
  cell-p : (q j : ℕ) → reads q (cell_at j (columns_from p 1 w)) ≡ true → p ≡ q
  cell-p q j h = eqb-true p q (columns-cell (reads q) p w 0 j refl h).0

  -- a read after is one of before, of another quantifier than a, or of p
  read-was : (q : ℕ) → read_by z q ≡ true → ((read_by n q ≡ true) × ((q == a) ≡ false)) ⊎ ((p ≡ q) × (read_by n a ≡ true))
  read-was q t = elim (put-found a cells (λ r k. r == q) (λ r. false) (λ r. false) (λ r. not (r == q)) ((q == a) ≡ false) (λ r k f e. subst (λ u. (u == a) ≡ false) (eqb-true r q e) f) (λ r f e. none-true e) (λ r f e. none-true e) n m.no_node t) [
    | inl x ↦ inl x
    | inr x ↦ inr (cell-p q x.0 x.1.1, reads-at-read a x.0 n x.1.0)
  ]

  scoped : Scoped look z
  scoped = record {
    under = λ done r rest e q h. (
        let j : In r n.quants = subst (λ (k : List OwnedQuant). In r k) (sym e) (in-right r done (r ∷ rest) (inl refl)) in
        elim ((m.under r j).to q h) [
          | inl x ↦ elim (or_cases (shows_by n.parts.kind n.quants done r a) (loose bs n.id a) (sc.under done r rest e a x.1)) [
            | inl y ↦ absurd (own-a (shows-owned n.parts.kind n.quants done r rest a e y))
            | inr y ↦ or_right (shows_by n.parts.kind n.quants done r q) (look n.id q) (subst (λ k. look n.id k ≡ true) (sym x.0) (m.itself.own y))
          ]
          | inr x ↦ elim (or_cases (shows_by n.parts.kind n.quants done r q) (loose bs n.id q) (sc.under done r rest e q x.1)) [
            | inl y ↦ or_left (shows_by n.parts.kind n.quants done r q) (look n.id q) y
            | inr y ↦ or_right (shows_by n.parts.kind n.quants done r q) (look n.id q) (m.itself.other q x.0 y)
          ]
        ]);
    own = λ q h. ap (λ (k : Bool). k || look n.id q) (seen-same n.parts.kind n z q refl) ∙ elim (read-was q h) [
      | inl x ↦ elim (or_cases (own_seen n.parts.kind n q) (loose bs n.id q) (sc.own q x.0)) [
        | inl y ↦ or_left (own_seen n.parts.kind n q) (look n.id q) y
        | inr y ↦ or_right (own_seen n.parts.kind n q) (look n.id q) (m.itself.other q x.1 y)
      ]
      | inr x ↦ or_right (own_seen n.parts.kind n q) (look n.id q) (subst (λ k. look n.id k ≡ true) x.0 (m.itself.own m.opened))
    ];
  }

  settled : (q : ℕ) → owns q n ≡ true → look n.id q ≡ false
  settled q o = elim (cases_Bool (look n.id q)) [
    | inr f ↦ f
    | inl t ↦ absurd (elim (m.itself.to q t) [
      | inl x ↦ clash (owns p n) (subst (λ k. owns k n ≡ true) x.0 o) m.unowned
      | inr x ↦ clash (loose bs n.id q) x.1 (sound.settled n m.within q o)
    ])
  ]

  -- what was read of a is read of p, and what was read of another quantifier still is
  hit : read_by n a ≡ true → read_by z p ≡ true
  hit h =
      let k = read-place a n h in
      let at = m.places k.0 k.1 in
      put-hit a p k.0 cells n (subst (λ (x : Term). reads p x ≡ true) (sym (columns-hit p w k.0 at.0 at.1)) (eq-itself p)) m.no_node m.unnamed k.1

  abbrev reading : ℕ → Wanted
  reading q = looking (λ r k. r == q) (λ r. false) (λ r. false) (λ r. not (r == q))

  still : (q : ℕ) → (q == a) ≡ false → (q == p) ≡ false → read_by n q ≡ true → read_by z q ≡ true
  still q f g h = ap₂ (λ x y. x || y) (heads-same a cells (reading q) alike n.parts.head) (conds-same a cells (reading q) alike n.parts.conds.items) ∙ h
    where
      alike : (k : ℕ) → any_in (reading q) (cell_at k cells) ≡ (a == q)
      alike k = elim (cases_Bool (any_in (reading q) (cell_at k cells))) [
        | inr e ↦ e ∙ sym (eq-false-sym q a f)
        | inl t ↦ absurd (clash (q == p) (eq-eqb q p (sym (cell-p q k t))) g)
      ]

  pub renamed-made : MadeIn hs look z
  renamed-made = record {
    scoped = scoped;
    settled = settled;
    asks = λ q h. elim (m.itself.to q h) [
      | inl x ↦ (
          let k = looks-asked bs root sound n m.within a m.opened in
          subst (λ q. (owns q n ≡ false) × ((read_by z q ≡ true) ⊎ ((r : OwnedQuant) × (In r n.quants × (look r.over q ≡ true))))) (sym x.0)
          (m.unowned, elim k.1 [ inl y ↦ inl (hit y) | inr y ↦ inr (y.0, (y.1.0, (m.under y.0 y.1.0).own y.1.1)) ]))
      | inr x ↦ (
          let k = looks-asked bs root sound n m.within q x.1 in
          let g : (q == p) ≡ false = elim (cases_Bool (q == p)) [ inr f ↦ f | inl e ↦ absurd (clash (loose bs n.id p) (subst (λ i. loose bs n.id i ≡ true) (eqb-true q p e) x.1) (m.unlooked n.id)) ] in
          (k.0, elim k.1 [ inl y ↦ inl (still q x.0 g y) | inr y ↦ inr (y.0, (y.1.0, (m.under y.0 y.1.0).other q x.0 y.1.1)) ]))
    ];
    fits = λ q k h. elim (put-read_at a cells n q k m.no_node h) [
      | inl x ↦ m.fits q k x.1 x.0
      | inr x ↦ (
          let c = columns-cell (reads_at q k) p w 0 x.0 refl x.1.1 in
          let b = and_parts (p == q) (0 + x.0 == k) c.0 in
          let f : 0 + x.0 ≡ k = eqb-true (0 + x.0) k b.1 in
          let e : x.0 ≡ k = omega (arith, f) in
          subst (λ q. Fits hs q k) (eqb-true p q b.0) (m.fits_p k (subst (λ i. 1 ≤ i) e c.1.0) (subst (λ i. i ≤ w) e c.1.1)))
    ];
    own_nodes = λ q h. sound.own_nodes n m.within q (put-node_of a cells n q (bare-columns p 1 w) m.no_node h);
    bare = bare-kept n.parts.kind a cells n (sound.bare n m.within);
    arms = λ u r j i e. subst (λ v. ArmsBy n.parts.kind (width u) v) (sym wide) (m.arms u r j i e);
  }

pub renamed-is-made : RenamedIsMade
renamed-is-made = λ bs hs root look a p w n sound m wide. renamed-made bs hs root look a p w n sound m wide
