-- Edits of the quantifiers of one box keep a graph sound.
use Rattle.std.proofs.Common.{ℕ, zero, suc, ◌==◌, ◌≡◌, ◌&&◌, ◌||◌, ◌+◌, ◌≤◌, cond, not, Bool, true, false, List, [], ◌∷◌, ◌++◌, map, take, insert, refl, sym, ap, ap₂, subst, ◌∙◌, eqb-true, ◌⊎◌, inl, inr, arith}
use Rattle.std.specs.List.{list_any}
use Rattle.std.proofs.lemmas.Bool.{and_parts, cases_Bool, eq-eqb, not-true, or_cases, or_from, or_left, or_parts, or_right}
use Rattle.qgm_core.specs.declared.node.Node.{Node}
use Rattle.qgm_core.specs.declared.owned.OwnedQuant.{OwnedQuant}
use Rattle.qgm_core.specs.declared.parts.BoxParts.{BoxParts}
use Rattle.qgm_core.specs.declared.kinds.BoxKind.{BoxKind}
use Rattle.qgm_core.specs.declared.kinds.BoxKind.TheVariants.{Base, Select, Group, SetOp, OuterJoin}
use Rattle.qgm_core.specs.Boxes.{ids_in, ids_of, is_quant, overs_of, owns, width}
use Rattle.qgm_core.specs.Edits.{on_quant, put_range, without_quant}
use Rattle.qgm_core.specs.Kinds.{is_F}
use Rattle.list_laws.specs.Lists.{In, holds, times, without}
use Rattle.qgm_meaning.specs.Scope.{loose, read_by}
use Rattle.qgm_edit_laws.specs.Adds.{at}
use Rattle.qgm_edit_laws.specs.Changes.{Changes, LosesQuant, PutsQuant, Redirects, TurnsQuants}
use Rattle.qgm_edit_laws.specs.Checked.{own_seen}
use Rattle.qgm_edit_laws.specs.Graph.{ArmsBy, BareBy, Sound, binds_row, nodes_in, reads_in}
use Rattle.qgm_edit_laws.specs.Placed.{Below}
use Rattle.qgm_edit_laws.specs.Scoped.{NearlySound, Scoped, shows_by}
use Rattle.qgm_edit_laws.proofs.Adds.{loose-owned, read-owned, reads-at-read}
use Rattle.qgm_edit_laws.proofs.Changes.{changed-nearly}
use Rattle.qgm_edit_laws.proofs.Compact.{nearly}
use Rattle.qgm_edit_laws.proofs.Interposed.{over_now, turned, turned-any, turned-ids, turned-in, turned-split, turned-times}
use Rattle.qgm_edit_laws.proofs.OneBox.{owns-ids, ranked}
use Rattle.qgm_edit_laws.proofs.PlacedOne.{any-put, counted, g-cases, g-id, in-less, in-put, less-in, same-ids, times-less, times-put, unowned-times}
use Rattle.qgm_edit_laws.proofs.Ranks.{same-box}
use Rattle.qgm_edit_laws.proofs.Scoped.{bounded, few-ids, scoped-of, sound-of}
use Rattle.qgm_edit_laws.proofs.Turns.{first-own}
use Rattle.list_laws.proofs.Counting.{times-in}
use Rattle.list_laws.proofs.Membership.{any-from, any-in, any-none, any-not, eq-itself, in-map}
use Rattle.list_laws.proofs.Booleans.{clash}

-- ---- lists of quantifiers

times-put-by : (f : OwnedQuant → ℕ) (x i : ℕ) (r : OwnedQuant) (rs : List OwnedQuant) → times x (map f (insert rs i r)) ≡ times x (map f rs) + times x (f r ∷ [])
times-put-by f x zero r [] = omega arith
times-put-by f x (suc i) r [] = omega arith
times-put-by f x zero r (s ∷ rs) = omega arith
times-put-by f x (suc i) r (s ∷ rs) = let h = times-put-by f x i r rs in omega arith

-- what is asked of any, with one more
any-insert : (p : OwnedQuant → Bool) (i : ℕ) (r : OwnedQuant) (rs : List OwnedQuant) → p r ≡ false → list_any p rs ≡ false → list_any p (insert rs i r) ≡ false
any-insert p zero r [] h k = or_from (p r) false h k
any-insert p (suc i) r [] h k = or_from (p r) false h k
any-insert p zero r (s ∷ rs) h k = or_from (p r) (list_any p (s ∷ rs)) h k
any-insert p (suc i) r (s ∷ rs) h k = let n = or_parts (p s) (list_any p rs) k in or_from (p s) (list_any p (insert rs i r)) n.0 (any-insert p i r rs h n.1)

-- a split with one more is a split of the others, or at the new one
abbrev Split : List OwnedQuant → List OwnedQuant → OwnedQuant → (ℕ → Bool) → Type 0
Split rs done x pass = (before : List OwnedQuant) × ((after : List OwnedQuant) × ((rs ≡ before ++ x ∷ after) × ((p : ℕ) → pass p ≡ true → binds_row p before ≡ true → binds_row p done ≡ true)))

insert-split : (i : ℕ) (r : OwnedQuant) (rs done : List OwnedQuant) (x : OwnedQuant) (rest : List OwnedQuant) → insert rs i r ≡ done ++ x ∷ rest → (r ≡ x) ⊎ Split rs done x (λ p. true)
insert-split zero r [] [] x rest e = inl (cc)
insert-split zero r [] (d ∷ []) x rest e = absurd (let z : ⊥ = cc in z)
insert-split zero r [] (d ∷ (d2 ∷ done)) x rest e = absurd (let z : ⊥ = cc in z)
insert-split (suc i) r [] [] x rest e = inl (cc)
insert-split (suc i) r [] (d ∷ []) x rest e = absurd (let z : ⊥ = cc in z)
insert-split (suc i) r [] (d ∷ (d2 ∷ done)) x rest e = absurd (let z : ⊥ = cc in z)
insert-split zero r (s ∷ rs) [] x rest e = inl (cc)
insert-split zero r (s ∷ rs) (d ∷ done) x rest e = let k : s ∷ rs ≡ done ++ x ∷ rest = cc in inr (done, (rest, (k, λ p t h. or_right (is_F d.kind && is_quant p d) (binds_row p done) h)))
insert-split (suc i) r (s ∷ rs) [] x rest e = let h : s ≡ x = cc in inr ([], (rs, (ap (λ z. z ∷ rs) h, λ p t h. h)))
insert-split (suc i) r (s ∷ rs) (d ∷ done) x rest e =
    let h : s ≡ d = cc in let k : insert rs i r ≡ done ++ x ∷ rest = cc in
    elim (insert-split i r rs done x rest k) [
      | inl y ↦ inl y
      | inr y ↦ inr (
        s ∷ y.0,
        (
          y.1.0,
          (
            ap (λ z. s ∷ z) y.1.1.0,
            λ p t b. elim (or_cases (is_F s.kind && is_quant p s) (binds_row p y.0) b) [
              | inl a ↦ or_left (is_F d.kind && is_quant p d) (binds_row p done) (subst (λ (z : OwnedQuant). (is_F z.kind && is_quant p z) ≡ true) h a)
              | inr a ↦ or_right (is_F d.kind && is_quant p d) (binds_row p done) (y.1.1.1 p t a)
            ],
          ),
        ),
      )
    ]

-- a split with one less is a split of all
less-split : (q : ℕ) (rs done : List OwnedQuant) (x : OwnedQuant) (rest : List OwnedQuant) → without (is_quant q) rs ≡ done ++ x ∷ rest → Split rs done x (λ p. not (p == q))
less-split q [] [] x rest e = absurd (let z : ⊥ = cc in z)
less-split q [] (d ∷ done) x rest e = absurd (let z : ⊥ = cc in z)
less-split q (s ∷ rs) done x rest e = elim (cases_Bool (s.id == q)) [
  | inl t ↦ (
      let k : rs ≡ done ++ x ∷ rest = sym (ap (λ (b : Bool). cond b rs (s ∷ without (is_quant q) rs)) t) ∙ e in (
        s ∷ done,
        (
          rest,
          (
            ap (λ z. s ∷ z) k,
            λ p n b. elim (or_cases (is_F s.kind && is_quant p s) (binds_row p done) b) [
              | inr a ↦ a
              | inl a ↦ absurd (let y = and_parts (is_F s.kind) (s.id == p) a in clash (p == q) (eq-eqb p q (sym (eqb-true s.id p y.1) ∙ eqb-true s.id q t)) (not-true (p == q) n))
            ],
          ),
        ),
      ))
  | inr f ↦ at-head done (λ d u k. less-split q rs d x rest k) (sym (ap (λ (b : Bool). cond b rs (s ∷ without (is_quant q) rs)) f) ∙ e)
]
  where
    at-head : (done : List OwnedQuant) → ((d : List OwnedQuant) (u : OwnedQuant) → without (is_quant q) rs ≡ d ++ x ∷ rest → Split rs d x (λ p. not (p == q))) → s ∷ without (is_quant q) rs ≡ done ++ x ∷ rest → Split (s ∷ rs) done x (λ p. not (p == q))
    at-head [] again e = let h : s ≡ x = cc in ([], (rs, (ap (λ z. z ∷ rs) h, λ p t h. h)))
    at-head (d ∷ done) again e =
        let h : s ≡ d = cc in let k : without (is_quant q) rs ≡ done ++ x ∷ rest = cc in
        let y = again done x k in (
          s ∷ y.0,
          (
            y.1.0,
            (
              ap (λ z. s ∷ z) y.1.1.0,
              λ p t b. elim (or_cases (is_F s.kind && is_quant p s) (binds_row p y.0) b) [
                | inl a ↦ or_left (is_F d.kind && is_quant p d) (binds_row p done) (subst (λ (z : OwnedQuant). (is_F z.kind && is_quant p z) ≡ true) h a)
                | inr a ↦ or_right (is_F d.kind && is_quant p d) (binds_row p done) (y.1.1.1 p t a)
              ],
            ),
          ),
        )

less-any : (p : OwnedQuant → Bool) (q : ℕ) (rs : List OwnedQuant) → ((r : OwnedQuant) → p r ≡ true → (r.id == q) ≡ false) → list_any p rs ≡ true → list_any p (without (is_quant q) rs) ≡ true
less-any p q rs h t = let x = any-in p rs t in any-from p x.0 (without (is_quant q) rs) (less-in (is_quant q) rs x.0 x.1.0 (h x.0 x.1.1)) x.1.1

-- ---- one box

module _ (bs : List Node) (root : ℕ) (w : Sound bs root) (o : Node) (i : In o bs) (f : Node → Node) (same : (y : Node) → (f y).id ≡ y.id) (keeps : (f o).parts ≡ o.parts) where
  abbrev pub gf : Node → Node
  gf = at o.id f

  pub cases-at : (y : Node) → In y bs → ((y ≡ o) × (gf y ≡ f o)) ⊎ (((y.id == o.id) ≡ false) × (gf y ≡ y))
  cases-at = g-cases bs w.ordered o i f same

  pub parts-at : (y : Node) → In y bs → (gf y).parts ≡ y.parts
  parts-at y j = elim (cases-at y j) [ inl e ↦ ap (λ (z : Node). z.parts) e.1 ∙ keeps ∙ ap (λ (z : Node). z.parts) (sym e.0) | inr e ↦ ap (λ (z : Node). z.parts) e.1 ]

  pub kind-at : (y : Node) → In y bs → (gf y).parts.kind ≡ y.parts.kind
  kind-at y j = ap (λ (p : BoxParts). p.kind) (parts-at y j)

  pub width-at : (y : Node) → In y bs → width (gf y) ≡ width y
  width-at y j = ap (λ (p : BoxParts). width (record y { parts = p })) (parts-at y j)

  -- where its new quantifiers are each an old one, or one that isn't read before and has the columns that are
  module _ (over : (r : OwnedQuant) → In r (f o).quants → Below bs o.id r.over) (once : (q : ℕ) → times q (ids_in (map gf bs)) ≤ 1) (top : times root (overs_of (f o)) ≡ 0)
      (fit : (q k : ℕ) (n : Node) → In n bs → reads_in q k n ≡ true → (r : OwnedQuant) → In r (f o).quants → r.id ≡ q → (z : Node) → In z bs → z.id ≡ r.over → (1 ≤ k) × (k ≤ width z))
      (nodes : (q : ℕ) → nodes_in q o ≡ true → (owns q (f o) ≡ true) × (binds_row q (f o).quants ≡ false)) (bare : BareBy o.parts.kind (f o))
      (arm : (r : OwnedQuant) (z : Node) → In r (f o).quants → In z bs → z.id ≡ r.over → ArmsBy o.parts.kind (width z) (width o)) where
    pub changes-at : Changes bs root gf
    changes-at = record {
      id = g-id bs w.ordered o i f same;
      over = λ y r j k. elim (cases-at y j) [
        | inl e ↦ subst (λ (z : Node). Below bs z.id r.over) (sym e.0) (over r (subst (λ (z : Node). In r z.quants) e.1 k))
        | inr e ↦ ranked bs w.ordered y r j (subst (λ (z : Node). In r z.quants) e.1 k)
      ];
      once = once;
      top = (let a = counted bs w.ordered o i f same overs_of root in let b = w.top in omega arith);
      fits = λ n j q k t. (
          let u : reads_in q k n ≡ true = subst (λ p. reads_in q k (record n { parts = p }) ≡ true) (parts-at n j) t in
          λ y z r iy jr e iz v. (
          let h : (1 ≤ k) × (k ≤ width z) = (elim (cases-at y iy) [
            | inl x ↦ fit q k n j u r (subst (λ (z : Node). In r z.quants) x.1 jr) e z iz v
            | inr x ↦ w.fits n j q k u y r z iy (subst (λ (z : Node). In r z.quants) x.1 jr) e iz v
          ]) in (h.0, subst (λ a. k ≤ a) (sym (width-at z iz)) h.1)));
      own_nodes = λ y j q t. (
          let u : nodes_in q y ≡ true = subst (λ p. nodes_in q (record y { parts = p }) ≡ true) (parts-at y j) t in
          elim (cases-at y j) [
            | inl x ↦ subst (λ (z : Node). (owns q z ≡ true) × (binds_row q z.quants ≡ false)) (sym x.1) (nodes q (subst (λ z. nodes_in q z ≡ true) x.0 u))
            | inr x ↦ subst (λ (z : Node). (owns q z ≡ true) × (binds_row q z.quants ≡ false)) (sym x.1) (w.own_nodes y j q u)
          ]);
      bare = λ y j. subst (λ k. BareBy k (gf y)) (sym (kind-at y j)) (elim (cases-at y j) [
        | inl x ↦ subst (λ z. BareBy y.parts.kind z) (sym x.1) (subst (λ (z : Node). BareBy z.parts.kind (f o)) (sym x.0) bare)
        | inr x ↦ subst (λ z. BareBy y.parts.kind z) (sym x.1) (w.bare y j)
      ]);
      arms = λ y z r j k iz v. subst (λ a. ArmsBy (gf y).parts.kind a (width (gf y))) (sym (width-at z iz)) (subst (λ a. ArmsBy (gf y).parts.kind (width z) a) (sym (width-at y j)) (subst (λ a. ArmsBy a (width z) (width y)) (sym (kind-at y j)) (elim (cases-at y j) [
        | inl x ↦ subst (λ (u : Node). ArmsBy u.parts.kind (width z) (width u)) (sym x.0) (arm r z (subst (λ (z : Node). In r z.quants) x.1 k) iz v)
        | inr x ↦ w.arms y z r j (subst (λ (z : Node). In r z.quants) x.1 k) iz v
      ])));
    }

    -- what is looked up doesn't grow
    pub nearly-at : Scoped (loose bs) (f o) → ((q : ℕ) → owns q (f o) ≡ true → loose bs o.id q ≡ false) → ((b q : ℕ) → loose bs b q ≡ true → times b (overs_of (f o)) ≤ times b (overs_of o)) → NearlySound (map gf bs) root
    nearly-at s settled few = changed-nearly bs root gf w.ordered w.rooted changes-at (loose bs)
        (λ y j. elim (cases-at y j) [ inl e ↦ subst (λ z. Scoped (loose bs) z) (sym e.1) s | inr e ↦ subst (λ z. Scoped (loose bs) z) (sym e.1) (scoped-of bs root w y j) ])
        (λ y j q t. elim (cases-at y j) [ inl e ↦ subst (λ (z : Node). loose bs z.id q ≡ false) (sym e.0) (settled q (subst (λ z. owns q z ≡ true) e.1 t)) | inr e ↦ w.settled y j q (subst (λ z. owns q z ≡ true) e.1 t) ])
        (λ b q t. (let a = counted bs w.ordered o i f same overs_of b in let c = w.used b q t in let d = few b q t in omega arith))
        (nearly bs root w).none_at_root

    pub sound-at : Scoped (loose bs) (f o) → ((q : ℕ) → owns q (f o) ≡ true → loose bs o.id q ≡ false) → ((b q : ℕ) → loose bs b q ≡ true → times b (overs_of (f o)) ≡ times b (overs_of o)) → Sound (map gf bs) root
    sound-at s settled uses = sound-of (map gf bs) root (nearly-at s settled (λ b q t. (let a = uses b q t in omega arith))) (λ b q t. (
        let l : loose bs b q ≡ true = bounded (loose bs) (map gf bs) once (λ n j. (let x = in-map gf n bs j in subst (λ z. Scoped (loose bs) z) x.1.1 (elim (cases-at x.0 x.1.0) [ inl e ↦ subst (λ z. Scoped (loose bs) z) (sym e.1) s | inr e ↦ subst (λ z. Scoped (loose bs) z) (sym e.1) (scoped-of bs root w x.0 x.1.0) ]))) b q t in
        let a = counted bs w.ordered o i f same overs_of b in let c = w.used b q l in let d = uses b q l in omega arith))

-- ---- a quantifier put

module _ (bs : List Node) (root : ℕ) (w : Sound bs root) (o : Node) (i : ℕ) (r : OwnedQuant) (m : PutsQuant bs root o i r) where
  abbrev fp : Node → Node
  fp = put_range i r

  absent : (n : Node) → In n bs → owns r.id n ≡ false
  absent n j = any-none (owns r.id) n bs m.new j

  not-new : (q : ℕ) → list_any (owns q) bs ≡ true → (r.id == q) ≡ false
  not-new q h = elim (cases_Bool (r.id == q)) [ inr f ↦ f | inl t ↦ absurd (clash (list_any (owns r.id) bs) (subst (λ z. list_any (owns z) bs ≡ true) (sym (eqb-true r.id q t)) h) m.new) ]

  put-once : (q : ℕ) → times q (ids_in (map (at o.id fp) bs)) ≤ 1
  put-once q =
      let a = counted bs w.ordered o m.within fp (λ y. refl) ids_of q in
      let c = times-put q i r o.quants in
      let d = w.once q in
      elim (cases_Bool (r.id == q)) [
        | inl t ↦ (let e : times q (ids_in bs) ≡ 0 = subst (λ z. times z (ids_in bs) ≡ 0) (eqb-true r.id q t) (unowned-times r.id bs m.new) in
            let k : ◌≡◌ {A = ℕ} (cond (r.id == q) 1 0) 1 = ap (λ (b : Bool). cond {A = ℕ} b 1 0) t in omega arith)
        | inr n ↦ (let k : ◌≡◌ {A = ℕ} (cond (r.id == q) 1 0) 0 = ap (λ (b : Bool). cond {A = ℕ} b 1 0) n in omega arith)
      ]

  shown-more : (k : BoxKind) (q : ℕ) (done before : List OwnedQuant) (x : OwnedQuant) → (binds_row q before ≡ true → binds_row q done ≡ true) → (shows_by k o.quants before x q || loose bs o.id q) ≡ true → (shows_by k (insert o.quants i r) done x q || loose bs o.id q) ≡ true
  shown-more (Base t) q done before x h u = u
  shown-more Select q done before x h u = elim (is_F x.kind) as (λ f. (cond f (binds_row q before) (binds_row q o.quants) || loose bs o.id q) ≡ true → (cond f (binds_row q done) (binds_row q (insert o.quants i r)) || loose bs o.id q) ≡ true) [
    | true ↦ λ u. elim (or_cases (binds_row q before) (loose bs o.id q) u) [ inl a ↦ or_left (binds_row q done) (loose bs o.id q) (h a) | inr a ↦ or_right (binds_row q done) (loose bs o.id q) a ]
    | false ↦ λ u. elim (or_cases (binds_row q o.quants) (loose bs o.id q) u) [ inl a ↦ or_left (binds_row q (insert o.quants i r)) (loose bs o.id q) (any-put (λ x. is_F x.kind && is_quant q x) i r o.quants a) | inr a ↦ or_right (binds_row q (insert o.quants i r)) (loose bs o.id q) a ]
  ] u
  shown-more (Group n) q done before x h u = u
  shown-more (SetOp form v) q done before x h u = u
  shown-more OuterJoin q done before x h u = u

  pub put-scoped : Scoped (loose bs) (fp o)
  put-scoped = record {
    under = λ done x rest e q t. elim (insert-split i r o.quants done x rest e) [
      | inl y ↦ absurd (clash (loose bs r.over q) (subst (λ (z : OwnedQuant). loose bs z.over q ≡ true) (sym y) t) (m.closed q))
      | inr y ↦ shown-more o.parts.kind q done y.0 x (y.1.1.1 q refl) ((scoped-of bs root w o m.within).under y.0 x y.1.0 y.1.1.0 q t)
    ];
    own = λ q t. elim (or_cases (own_seen o.parts.kind o q) (loose bs o.id q) ((scoped-of bs root w o m.within).own q t)) [
      | inl a ↦ or_left (own_seen o.parts.kind (fp o) q) (loose bs o.id q) (m.seen q t a)
      | inr a ↦ or_right (own_seen o.parts.kind (fp o) q) (loose bs o.id q) a
    ];
  }

  pub put-sound : Sound (map (at o.id (put_range i r)) bs) root
  put-sound = sound-at bs root w o m.within fp (λ y. refl) refl
      (λ s j. elim (in-put i r o.quants s j) [ inl e ↦ subst (λ (z : OwnedQuant). Below bs o.id z.over) e m.below | inr k ↦ ranked bs w.ordered o s m.within k ])
      put-once
      (let a = times-put-by (λ (r : OwnedQuant). r.over) root i r o.quants in let b : times root (overs_of o) ≡ 0 = (let c = times-in overs_of root o bs m.within in let d = w.top in omega arith) in
      let k : ◌≡◌ {A = ℕ} (cond (r.over == root) 1 0) 0 = ap (λ (b : Bool). cond {A = ℕ} b 1 0) m.not_root in omega arith)
      (λ q k n j t s l e z iz v. elim (in-put i r o.quants s l) [
        | inl x ↦ absurd (clash (r.id == q) (eq-eqb r.id q (ap (λ (z : OwnedQuant). z.id) x ∙ e)) (not-new q (read-owned bs root w n q j (reads-at-read q k n t))))
        | inr x ↦ w.fits n j q k t o s z m.within x e iz v
      ])
      (λ q t. (let h = w.own_nodes o m.within q t in let n = not-new q (any-from (owns q) o bs m.within h.0) in
      (any-put (is_quant q) i r o.quants h.0, any-insert (λ x. is_F x.kind && is_quant q x) i r o.quants (off (is_F r.kind) (r.id == q) n) h.1)))
      m.bare
      (λ s z l iz v. elim (in-put i r o.quants s l) [ inl x ↦ m.arms z iz (v ∙ ap (λ (z : OwnedQuant). z.over) (sym x)) | inr x ↦ w.arms o z s m.within x iz v ])
      put-scoped
      (λ q t. elim (cases_Bool (owns q o)) [
        | inl y ↦ w.settled o m.within q y
        | inr n ↦ elim (cases_Bool (loose bs o.id q)) [
          | inr f ↦ f
          | inl l ↦ absurd (
              clash (r.id == q) (elim (cases_Bool (r.id == q)) [ inl y ↦ y | inr f ↦ absurd (clash (list_any (is_quant q) (insert o.quants i r)) t (any-insert (is_quant q) i r o.quants f n)) ]) (not-new q (loose-owned bs root w o.id q l)))
        ]
      ])
      (λ b q t. (let a = times-put-by (λ (r : OwnedQuant). r.over) b i r o.quants in
      let n : (r.over == b) ≡ false = (elim (cases_Bool (r.over == b)) [ inr f ↦ f | inl y ↦ absurd (clash (loose bs r.over q) (subst (λ z. loose bs z q ≡ true) (sym (eqb-true r.over b y)) t) (m.closed q)) ]) in
      let k : ◌≡◌ {A = ℕ} (cond (r.over == b) 1 0) 0 = ap (λ (b : Bool). cond {A = ℕ} b 1 0) n in omega arith))
    where
      off : (a b : Bool) → b ≡ false → (a && b) ≡ false
      off true b h = h
      off false b h = refl

-- ---- a quantifier lost

-- what no box reads no box looks up
pub unlooked : (bs : List Node) (q : ℕ) → ((p : ℕ) → times p (ids_in bs) ≤ 1) → ((n : Node) → In n bs → read_by n q ≡ false) → (b : ℕ) → loose bs b q ≡ false
unlooked bs q once none b = elim (cases_Bool (loose bs b q)) [
  | inr f ↦ f
  | inl t ↦ absurd (clash (q == q) (eq-itself q) (not-true (q == q) (bounded (λ b p. not (p == q)) bs once (λ n i. record {
    under = λ done r rest e p u. or_right (shows_by n.parts.kind n.quants done r p) (not (p == q)) u;
    own = λ p u. or_right (own_seen n.parts.kind n p) (not (p == q)) (let e : (p == q) ≡ false = (elim (cases_Bool (p == q)) [ inr f ↦ f | inl y ↦ absurd (clash (read_by n p) u (subst (λ z. read_by n z ≡ false) (sym (eqb-true p q y)) (none n i))) ]) in ap not e);
  }) b q t)))
]

module _ (bs : List Node) (root : ℕ) (w : Sound bs root) (o : Node) (q : ℕ) (m : LosesQuant bs o q) where
  abbrev fl : Node → Node
  fl = without_quant q

  apart-from : (p b : ℕ) → loose bs b p ≡ true → (p == q) ≡ false
  apart-from p b t = elim (cases_Bool (p == q)) [ inr f ↦ f | inl y ↦ absurd (clash (loose bs b p) t (subst (λ z. loose bs b z ≡ false) (sym (eqb-true p q y)) (unlooked bs q w.once m.unread b))) ]

  bound-less : (p : ℕ) → (p == q) ≡ false → binds_row p o.quants ≡ true → binds_row p (without (is_quant q) o.quants) ≡ true
  bound-less p n t = less-any (λ x. is_F x.kind && is_quant p x) q o.quants (λ x h. (let y = and_parts (is_F x.kind) (x.id == p) h in elim (cases_Bool (x.id == q)) [ inr f ↦ f | inl z ↦ absurd (clash (p == q) (eq-eqb p q (sym (eqb-true x.id p y.1) ∙ eqb-true x.id q z)) n) ])) t

  shown-less : (k : BoxKind) (p : ℕ) (done before : List OwnedQuant) (x : OwnedQuant) → (p == q) ≡ false → (binds_row p before ≡ true → binds_row p done ≡ true) → (shows_by k o.quants before x p || loose bs o.id p) ≡ true → (shows_by k (without (is_quant q) o.quants) done x p || loose bs o.id p) ≡ true
  shown-less (Base t) p done before x n h u = u
  shown-less Select p done before x n h u = elim (is_F x.kind) as (λ f. (cond f (binds_row p before) (binds_row p o.quants) || loose bs o.id p) ≡ true → (cond f (binds_row p done) (binds_row p (without (is_quant q) o.quants)) || loose bs o.id p) ≡ true) [
    | true ↦ λ u. elim (or_cases (binds_row p before) (loose bs o.id p) u) [ inl a ↦ or_left (binds_row p done) (loose bs o.id p) (h a) | inr a ↦ or_right (binds_row p done) (loose bs o.id p) a ]
    | false ↦ λ u. elim (or_cases (binds_row p o.quants) (loose bs o.id p) u) [ inl a ↦ or_left (binds_row p (without (is_quant q) o.quants)) (loose bs o.id p) (bound-less p n a) | inr a ↦ or_right (binds_row p (without (is_quant q) o.quants)) (loose bs o.id p) a ]
  ] u
  shown-less (Group v) p done before x n h u = u
  shown-less (SetOp form v) p done before x n h u = u
  shown-less OuterJoin p done before x n h u = u

  pub less-scoped : Scoped (loose bs) (fl o)
  less-scoped = record {
    under = λ done x rest e p t. (
        let y = less-split q o.quants done x rest e in let n = apart-from p x.over t in
        shown-less o.parts.kind p done y.0 x n (y.1.1.1 p (ap not n)) ((scoped-of bs root w o m.within).under y.0 x y.1.0 y.1.1.0 p t));
    own = λ p t. elim (or_cases (own_seen o.parts.kind o p) (loose bs o.id p) ((scoped-of bs root w o m.within).own p t)) [
      | inl a ↦ or_left (own_seen o.parts.kind (fl o) p) (loose bs o.id p) (m.seen p t a)
      | inr a ↦ or_right (own_seen o.parts.kind (fl o) p) (loose bs o.id p) a
    ];
  }

  bare-less : (k : BoxKind) → BareBy k o → BareBy k (fl o)
  bare-less (Base t) b = (ap (without (is_quant q)) b.0, b.1, b.2)
  bare-less Select b = tt
  bare-less (Group n) b = tt
  bare-less (SetOp form v) b = b
  bare-less OuterJoin b = tt

  less-any-false : (p : OwnedQuant → Bool) → list_any p o.quants ≡ false → list_any p (without (is_quant q) o.quants) ≡ false
  less-any-false p h = any-not p (without (is_quant q) o.quants) (λ x j. any-none p x o.quants h (in-less (is_quant q) o.quants x j))

  once-less : (p : ℕ) → times p (ids_in (map (at o.id fl) bs)) ≤ 1
  once-less p = let a = counted bs w.ordered o m.within fl (λ y. refl) ids_of p in let c = times-less p (is_quant q) (λ r. r.id) o.quants in let d = w.once p in omega arith

  top-less : times root (overs_of (fl o)) ≡ 0
  top-less = let a = times-less root (is_quant q) (λ r. r.over) o.quants in let c = times-in overs_of root o bs m.within in let d = w.top in omega arith

  node-kept : (p : ℕ) → nodes_in p o ≡ true → (owns p (fl o) ≡ true) × (binds_row p (fl o).quants ≡ false)
  node-kept p t =
      let h = w.own_nodes o m.within p t in
      let n : (p == q) ≡ false = (elim (cases_Bool (p == q)) [ inr f ↦ f | inl y ↦ absurd (clash (nodes_in p o) t (subst (λ z. nodes_in z o ≡ false) (sym (eqb-true p q y)) m.no_node)) ]) in
      (less-any (is_quant p) q o.quants (λ x h. elim (cases_Bool (x.id == q)) [ inr f ↦ f | inl z ↦ absurd (clash (p == q) (eq-eqb p q (sym (eqb-true x.id p h) ∙ eqb-true x.id q z)) n) ]) h.0, less-any-false (λ x. is_F x.kind && is_quant p x) h.1)

  settled-less : (p : ℕ) → owns p (fl o) ≡ true → loose bs o.id p ≡ false
  settled-less p t = w.settled o m.within p (elim (cases_Bool (owns p o)) [ inl y ↦ y | inr n ↦ absurd (clash (owns p (fl o)) t (less-any-false (is_quant p) n)) ])

  pub less-nearly : NearlySound (map (at o.id (without_quant q)) bs) root
  less-nearly = nearly-at bs root w o m.within fl (λ y. refl) refl
      (λ s j. ranked bs w.ordered o s m.within (in-less (is_quant q) o.quants s j)) once-less top-less
      (λ p k n j t s l e z iz v. w.fits n j p k t o s z m.within (in-less (is_quant q) o.quants s l) e iz v)
      node-kept (bare-less o.parts.kind (w.bare o m.within))
      (λ s z l iz v. w.arms o z s m.within (in-less (is_quant q) o.quants s l) iz v)
      less-scoped settled-less (λ b p t. times-less b (is_quant q) (λ r. r.over) o.quants)

  times-lost : (b : ℕ) (rs : List OwnedQuant) → ((s : OwnedQuant) → In s rs → s.id ≡ q → (s.over == b) ≡ false) → times b (map (λ (r : OwnedQuant). r.over) (without (is_quant q) rs)) ≡ times b (map (λ (r : OwnedQuant). r.over) rs)
  times-lost b [] h = refl
  times-lost b (s ∷ rs) h = elim (cases_Bool (s.id == q)) [
    | inl t ↦ (let k : ◌≡◌ {A = ℕ} (cond (s.over == b) 1 0) 0 = ap (λ (b : Bool). cond {A = ℕ} b 1 0) (h s (inl refl) (eqb-true s.id q t)) in
        let e : times b (map (λ (r : OwnedQuant). r.over) (cond (s.id == q) rs (s ∷ without (is_quant q) rs))) ≡ times b (map (λ (r : OwnedQuant). r.over) rs) = ap (λ (c : Bool). times b (map (λ (r : OwnedQuant). r.over) (cond c rs (s ∷ without (is_quant q) rs)))) t in omega arith)
    | inr f ↦ ap (λ (c : Bool). times b (map (λ (r : OwnedQuant). r.over) (cond c rs (s ∷ without (is_quant q) rs)))) f ∙ ap (λ z. cond (s.over == b) 1 0 + z) (times-lost b rs (λ x i. h x (inr i)))
  ]

  -- where its box looks nothing up, or there is none
  pub less-sound : ((s : OwnedQuant) → In s o.quants → s.id ≡ q → (p : ℕ) → loose bs s.over p ≡ false) → Sound (map (at o.id (without_quant q)) bs) root
  less-sound closed = sound-at bs root w o m.within fl (λ y. refl) refl
      (λ s j. ranked bs w.ordered o s m.within (in-less (is_quant q) o.quants s j)) once-less top-less
      (λ p k n j t s l e z iz v. w.fits n j p k t o s z m.within (in-less (is_quant q) o.quants s l) e iz v)
      node-kept (bare-less o.parts.kind (w.bare o m.within))
      (λ s z l iz v. w.arms o z s m.within (in-less (is_quant q) o.quants s l) iz v)
      less-scoped settled-less
      (λ b p t. times-lost b o.quants (λ s j e. elim (cases_Bool (s.over == b)) [ inr f ↦ f | inl y ↦ absurd (clash (loose bs s.over p) (subst (λ z. loose bs z p ≡ true) (sym (eqb-true s.over b y)) t) (closed s j e p)) ]))

-- ---- kinds and order of quantifiers

module _ (bs : List Node) (root : ℕ) (w : Sound bs root) (o : Node) (f : Node → Node) (m : TurnsQuants bs o f) where
  pub owned-same : (q : ℕ) → owns q (f o) ≡ owns q o
  owned-same q = owns-ids q (f o).quants ∙ ap (holds q) m.ids ∙ sym (owns-ids q o.quants)

  bare-turned : (k : BoxKind) → BareBy k o → BareBy k (f o)
  bare-turned (Base t) b = (none (f o).quants (m.ids ∙ ap (map (λ (r : OwnedQuant). r.id)) b.0), ap (λ (p : BoxParts). p.head) m.parts ∙ b.1, ap (λ (p : BoxParts). p.conds.items) m.parts ∙ b.2)
    where
      none : (rs : List OwnedQuant) → map (λ (r : OwnedQuant). r.id) rs ≡ [] → rs ≡ []
      none [] e = refl
      none (r ∷ rs) e = absurd (let z : ⊥ = cc in z)
  bare-turned Select b = tt
  bare-turned (Group n) b = tt
  bare-turned (SetOp form v) b = (ap (λ (p : BoxParts). p.head) m.parts ∙ b.0, ap (λ (p : BoxParts). p.conds.items) m.parts ∙ b.1)
  bare-turned OuterJoin b = tt

  pub turned-sound : Sound (map (at o.id f) bs) root
  turned-sound = sound-at bs root w o m.within f m.id m.parts
      (λ s j. (let x = m.same s j in subst (λ z. Below bs o.id z) x.1.1.1 (ranked bs w.ordered o x.0 m.within x.1.0)))
      (λ q. (let a = same-ids bs w.ordered o m.within f m.id m.ids q in let b = w.once q in omega arith))
      (ap (times root) m.overs ∙ (let c = times-in overs_of root o bs m.within in let d = w.top in omega arith))
      (λ q k n j t s l e z iz v. (let x = m.same s l in w.fits n j q k t o x.0 z m.within x.1.0 (x.1.1.0 ∙ e) iz (v ∙ sym x.1.1.1)))
      (λ q t. (owned-same q ∙ (w.own_nodes o m.within q t).0, m.no_rows q t))
      (bare-turned o.parts.kind (w.bare o m.within))
      (λ s z l iz v. (let x = m.same s l in w.arms o z x.0 m.within x.1.0 iz (v ∙ sym x.1.1.1)))
      m.scoped (λ q t. w.settled o m.within q (sym (owned-same q) ∙ t)) (λ b q t. ap (times b) m.overs)

-- ---- a quantifier over another box

module _ (bs : List Node) (root : ℕ) (w : Sound bs root) (o : Node) (r : OwnedQuant) (c : Node) (m : Redirects bs root o r c) where
  abbrev fr : Node → Node
  fr = on_quant r.id (over_now c.id)

  few-o : times r.id (ids_of o) ≤ 1
  few-o = few-ids bs o r.id (w.once r.id) m.within

  -- of o's quantifiers those that are as they were, and the one that moved
  now-in : (s : OwnedQuant) → In s (fr o).quants → In s o.quants ⊎ ((s.over ≡ c.id) × (s.id ≡ r.id))
  now-in s j = elim (turned-in r.id c.id o.quants s j) [ inl a ↦ inl a | inr a ↦ inr (ap (λ (z : OwnedQuant). z.over) (sym a.1.1.1), ap (λ (z : OwnedQuant). z.id) (sym a.1.1.1) ∙ a.1.1.0) ]

  times-now : (b : ℕ) → times b (overs_of (fr o)) + times b (r.over ∷ []) ≡ times b (overs_of o) + times b (c.id ∷ [])
  times-now b = turned-times r.id c.id b o.quants r (first-own r o.quants few-o m.owned)

  zero-now : (b : ℕ) → (c.id == b) ≡ false → times b (c.id ∷ []) ≡ 0
  zero-now b n = (let k : ◌≡◌ {A = ℕ} (cond (c.id == b) 1 0) 0 = ap (λ (b : Bool). cond {A = ℕ} b 1 0) n in omega arith)

  not-c : (b q : ℕ) → loose bs b q ≡ true → (c.id == b) ≡ false
  not-c b q t = elim (cases_Bool (c.id == b)) [ inr f ↦ f | inl y ↦ absurd (clash (loose bs b q) t (subst (λ z. loose bs z q ≡ false) (eqb-true c.id b y) (m.closed q))) ]

  taken-now : (k q : ℕ) (rs : List OwnedQuant) → list_any (is_quant q) (take k (turned r.id c.id rs)) ≡ list_any (is_quant q) (take k rs)
  taken-now zero q rs = refl
  taken-now (suc k) q [] = refl
  taken-now (suc k) q (x ∷ rs) = elim (x.id == r.id) as (λ t. list_any (is_quant q) (take (suc k) (cond t (over_now c.id x ∷ rs) (x ∷ turned r.id c.id rs))) ≡ list_any (is_quant q) (take (suc k) (x ∷ rs))) [
    | true ↦ refl
    | false ↦ ap (λ z. is_quant q x || z) (taken-now k q rs)
  ]

  seen-now : (k : BoxKind) (q : ℕ) → own_seen k (fr o) q ≡ own_seen k o q
  seen-now (Base t) q = refl
  seen-now Select q = turned-any r.id c.id (λ x. is_F x.kind && is_quant q x) (λ x. refl) o.quants
  seen-now (Group n) q = taken-now 1 q o.quants
  seen-now (SetOp form v) q = refl
  seen-now OuterJoin q = taken-now 2 q o.quants

  shown-now : (k : BoxKind) (q : ℕ) (done : List OwnedQuant) (x : OwnedQuant) (before : List OwnedQuant) (p : OwnedQuant) → binds_row q done ≡ binds_row q before → x.kind ≡ p.kind
      → (shows_by k o.quants before p q || loose bs o.id q) ≡ true → (shows_by k (turned r.id c.id o.quants) done x q || loose bs o.id q) ≡ true
  shown-now (Base t) q done x before p e k h = h
  shown-now Select q done x before p e k h =
      ap₂ (λ (b : Bool) (d : Bool). cond b d (binds_row q (turned r.id c.id o.quants)) || loose bs o.id q) (ap is_F k) e
      ∙ ap (λ d. cond (is_F p.kind) (binds_row q before) d || loose bs o.id q) (turned-any r.id c.id (λ x. is_F x.kind && is_quant q x) (λ x. refl) o.quants) ∙ h
  shown-now (Group n) q done x before p e k h = h
  shown-now (SetOp form v) q done x before p e k h = h
  shown-now OuterJoin q done x before p e k h = h

  pub scoped-now : Scoped (loose bs) (fr o)
  scoped-now = record {
    under = λ done x rest e q t. (
        let z = turned-split r.id c.id o.quants done x rest e in
        let old : loose bs z.1.0.over q ≡ true = (elim z.1.1.1.1.1.1 [
          | inl same ↦ subst (λ (u : OwnedQuant). loose bs u.over q ≡ true) same t
          | inr turn ↦ absurd (clash (loose bs c.id q) (subst (λ u. loose bs u q ≡ true) turn.1 t) (m.closed q))
        ]) in
        shown-now o.parts.kind q done x z.0 z.1.0 (z.1.1.1.1.0 q) z.1.1.1.1.1.0 ((scoped-of bs root w o m.within).under z.0 z.1.0 z.1.1.0 z.1.1.1.0 q old));
    own = λ q t. subst (λ u. (u || loose bs o.id q) ≡ true) (sym (seen-now o.parts.kind q)) ((scoped-of bs root w o m.within).own q t);
  }

  bare-now : (k : BoxKind) → BareBy k o → BareBy k (fr o)
  bare-now (Base t) b = (ap (turned r.id c.id) b.0, b.1, b.2)
  bare-now Select b = tt
  bare-now (Group n) b = tt
  bare-now (SetOp form v) b = b
  bare-now OuterJoin b = tt

  same-one : (z : Node) → In z bs → z.id ≡ c.id → z ≡ c
  same-one z iz e = same-box bs z c w.ordered iz m.in_c e

  over-now : (s : OwnedQuant) → In s (fr o).quants → Below bs o.id s.over
  over-now s j = elim (now-in s j) [ inl a ↦ ranked bs w.ordered o s m.within a | inr a ↦ subst (λ z. Below bs o.id z) (sym a.0) m.below ]

  once-now : (q : ℕ) → times q (ids_in (map (at o.id fr) bs)) ≤ 1
  once-now q = let a = same-ids bs w.ordered o m.within fr (λ y. refl) (turned-ids r.id c.id o.quants) q in let b = w.once q in omega arith

  top-now : times root (overs_of (fr o)) ≡ 0
  top-now = let a = times-now root in let b = zero-now root m.not_root in let d = times-in overs_of root o bs m.within in let e = w.top in omega arith

  fit-now : (q k : ℕ) (n : Node) → In n bs → reads_in q k n ≡ true → (s : OwnedQuant) → In s (fr o).quants → s.id ≡ q → (z : Node) → In z bs → z.id ≡ s.over → (1 ≤ k) × (k ≤ width z)
  fit-now q k n j t s l e z iz v = elim (now-in s l) [
    | inl a ↦ w.fits n j q k t o s z m.within a e iz v
    | inr a ↦ (let h = m.fits n j k (subst (λ u. reads_in u k n ≡ true) (sym e ∙ a.1) t) in (h.0, subst (λ (u : Node). k ≤ width u) (sym (same-one z iz (v ∙ a.0))) h.1))
  ]

  nodes-now : (q : ℕ) → nodes_in q o ≡ true → (owns q (fr o) ≡ true) × (binds_row q (fr o).quants ≡ false)
  nodes-now q t = let h = w.own_nodes o m.within q t in (turned-any r.id c.id (is_quant q) (λ x. refl) o.quants ∙ h.0, turned-any r.id c.id (λ x. is_F x.kind && is_quant q x) (λ x. refl) o.quants ∙ h.1)

  arm-now : (s : OwnedQuant) (z : Node) → In s (fr o).quants → In z bs → z.id ≡ s.over → ArmsBy o.parts.kind (width z) (width o)
  arm-now s z l iz v = elim (now-in s l) [
    | inl a ↦ w.arms o z s m.within a iz v
    | inr a ↦ subst (λ (u : Node). ArmsBy o.parts.kind (width u) (width o)) (sym (same-one z iz (v ∙ a.0))) m.arms
  ]

  settled-now : (q : ℕ) → owns q (fr o) ≡ true → loose bs o.id q ≡ false
  settled-now q t = w.settled o m.within q (sym (turned-any r.id c.id (is_quant q) (λ x. refl) o.quants) ∙ t)

  pub redirect-nearly : NearlySound (map (at o.id (on_quant r.id (λ s. record s { over = c.id }))) bs) root
  redirect-nearly = nearly-at bs root w o m.within fr (λ y. refl) refl over-now once-now top-now fit-now nodes-now (bare-now o.parts.kind (w.bare o m.within)) arm-now scoped-now settled-now
      (λ b q t. (let a = times-now b in let d = zero-now b (not-c b q t) in omega arith))

  -- where the box that it left looks nothing up
  pub redirect-sound : ((q : ℕ) → loose bs r.over q ≡ false) → Sound (map (at o.id (on_quant r.id (λ s. record s { over = c.id }))) bs) root
  redirect-sound closed = sound-at bs root w o m.within fr (λ y. refl) refl over-now once-now top-now fit-now nodes-now (bare-now o.parts.kind (w.bare o m.within)) arm-now scoped-now settled-now
      (λ b q t. (
      let a = times-now b in let d = zero-now b (not-c b q t) in
      let n : (r.over == b) ≡ false = (elim (cases_Bool (r.over == b)) [ inr f ↦ f | inl y ↦ absurd (clash (loose bs b q) t (subst (λ z. loose bs z q ≡ false) (eqb-true r.over b y) (closed q))) ]) in
      let k : ◌≡◌ {A = ℕ} (cond (r.over == b) 1 0) 0 = ap (λ (b : Bool). cond {A = ℕ} b 1 0) n in omega arith))
