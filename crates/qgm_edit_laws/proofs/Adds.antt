-- A box added keeps a graph sound, and so does one put under a quantifier.
use Rattle.std.proofs.Common.{ℕ, zero, suc, ◌==◌, ◌≡◌, ◌&&◌, cond, Bool, true, false, List, [], ◌∷◌, ◌++◌, map, take, refl, sym, ap, subst, ◌∙◌, eqb-true, inl, inr, arith}
use Rattle.std.specs.List.{list_any}
use Rattle.std.proofs.lemmas.Bool.{and_parts, cases_Bool, eq-eqb, or_cases, or_left, or_right}
use Rattle.qgm_terms.specs.Wanted.{reads, reads_at, reads_at_cond, reads_cond}
use Rattle.qgm_edit_laws.proofs.AnyPut.{conds-more, heads-more}
use Rattle.std.specs.Prelude as p
use Rattle.qgm_core.specs.declared.node.Node.{Node}
use Rattle.qgm_core.specs.declared.owned.OwnedQuant.{OwnedQuant}
use Rattle.qgm_core.specs.declared.kinds.BoxKind.{BoxKind}
use Rattle.qgm_core.specs.declared.kinds.BoxKind.TheVariants.{Base, Select, Group, SetOp, OuterJoin}
use Rattle.qgm_core.specs.Boxes.{has_box, ids_of, is_box, is_quant, overs_of, owns, width}
use Rattle.list_laws.specs.Lists.{In, times}
use Rattle.qgm_meaning.specs.Scope.{loose, read_by}
use Rattle.qgm_edit_laws.specs.Adds.{Adds}
use Rattle.qgm_edit_laws.specs.Checked.{own_seen}
use Rattle.qgm_edit_laws.specs.Graph.{ArmsBy, BareBy, Sound, binds_row, nodes_in, reads_in}
use Rattle.qgm_edit_laws.specs.Scoped.{Local, Scoped}
use Rattle.qgm_edit_laws.proofs.OneBox.{owns-ids}
use Rattle.qgm_edit_laws.proofs.PlacedLists.{any-more, in-more, ordered-more, times-more}
use Rattle.qgm_edit_laws.proofs.PlacedOne.{times-holds, unowned-times}
use Rattle.qgm_edit_laws.proofs.Ranks.{has-in}
use Rattle.qgm_edit_laws.proofs.Scope.{bound-above, bound-owned, loose-held}
use Rattle.qgm_edit_laws.proofs.Scoped.{scoped-of, sound-by}
use Rattle.qgm_core.proofs.Reaching.{in-has, overs-held}
use Rattle.list_laws.proofs.Membership.{any-from, in-right}
use Rattle.list_laws.proofs.Booleans.{clash}

-- ---- what is read has an owner

taken : (q k : ℕ) (rs : List OwnedQuant) → list_any (is_quant q) (take k rs) ≡ true → list_any (is_quant q) rs ≡ true
taken q zero rs h = absurd (let z : ⊥ = cc in z)
taken q (suc k) [] h = h
taken q (suc k) (r ∷ rs) h = elim (or_cases (is_quant q r) (list_any (is_quant q) (take k rs)) h) [ inl a ↦ or_left (is_quant q r) (list_any (is_quant q) rs) a | inr b ↦ or_right (is_quant q r) (list_any (is_quant q) rs) (taken q k rs b) ]

pub seen-owned : (k : BoxKind) (n : Node) (q : ℕ) → own_seen k n q ≡ true → owns q n ≡ true
seen-owned (Base t) n q h = absurd (let z : ⊥ = cc in z)
seen-owned Select n q h = bound-owned q n.quants h
seen-owned (Group k) n q h = taken q 1 n.quants h
seen-owned (SetOp form w) n q h = absurd (let z : ⊥ = cc in z)
seen-owned OuterJoin n q h = taken q 2 n.quants h

module _ (bs : List Node) (root : ℕ) (w : Sound bs root) where
  pub loose-owned : (b q : ℕ) → loose bs b q ≡ true → list_any (owns q) bs ≡ true
  loose-owned b q h = let x = bound-above bs root w b q h in any-from (owns q) x.0 bs x.1.0 (bound-owned q x.0.quants x.1.1.0)

  pub read-owned : (n : Node) (q : ℕ) → In n bs → read_by n q ≡ true → list_any (owns q) bs ≡ true
  read-owned n q i t = elim (or_cases (own_seen n.parts.kind n q) (loose bs n.id q) ((scoped-of bs root w n i).own q t)) [
    | inl y ↦ any-from (owns q) n bs i (seen-owned n.parts.kind n q y)
    | inr y ↦ loose-owned n.id q y
  ]

-- column k of q is read: q is read
pub reads-at-read : (q k : ℕ) (n : Node) → reads_in q k n ≡ true → read_by n q ≡ true
reads-at-read q k n h = elim (or_cases (list_any (reads_at q k) n.parts.head) (list_any (reads_at_cond q k) n.parts.conds.items) h) [
  | inl a ↦ or_left (list_any (reads q) n.parts.head) (list_any (reads_cond q) n.parts.conds.items) (heads-more (λ r j. (r == q) && (j == k)) (λ r j. r == q) (λ r. false) (λ r. false) (λ r. false) (λ r. false) (λ r. p.not (r == q)) (λ r. p.not (r == q)) (λ r j h. (and_parts (r == q) (j == k) h).0) (λ r h. h) (λ r h. h) (λ r h. h) n.parts.head a)
  | inr a ↦ or_right (list_any (reads q) n.parts.head) (list_any (reads_cond q) n.parts.conds.items) (conds-more (λ r j. (r == q) && (j == k)) (λ r j. r == q) (λ r. false) (λ r. false) (λ r. false) (λ r. false) (λ r. p.not (r == q)) (λ r. p.not (r == q)) (λ r j h. (and_parts (r == q) (j == k) h).0) (λ r h. h) (λ r h. h) (λ r h. h) n.parts.conds.items a)
]

-- ---- a box more

module _ (xs ys : List Node) (root : ℕ) (w : Sound (xs ++ ys) root) (s : Node) (m : Adds xs ys root s) where
  abbrev bs : List Node
  bs = xs ++ ys

  abbrev pub hs : List Node
  hs = xs ++ s ∷ ys

  unowned : (q : ℕ) → owns q s ≡ true → (n : Node) → In n bs → read_by n q ≡ true → ⊥
  unowned q o n i t = clash (list_any (owns q) bs) (read-owned bs root w n q i t) (m.new q o)

  pub not-s : (n : Node) (r : OwnedQuant) → In n bs → In r n.quants → r.over ≡ s.id → ⊥
  not-s n r i j e = clash (has_box bs s.id) (subst (λ z. has_box bs z ≡ true) e (overs-held bs n r w.ordered i j)) m.fresh

  pub s-own : (r : OwnedQuant) → In r s.quants → r.over ≡ s.id → ⊥
  s-own r j e = clash (has_box bs s.id) (subst (λ z. has_box bs z ≡ true) e (in-ys r.over (m.over r j))) m.fresh
    where
      in-ys : (b : ℕ) → has_box ys b ≡ true → has_box bs b ≡ true
      in-ys b h = let x = has-in b ys h in subst (λ z. has_box bs z ≡ true) x.1.1 (in-has x.0 bs (in-right x.0 xs ys x.1.0))

  pub added-local : Local hs root
  added-local = record {
    ordered = ordered-more xs s ys w.ordered m.fresh m.over;
    rooted = any-more (is_box root) xs s ys ∙ or_right (s.id == root) (has_box bs root) w.rooted;
    once = λ q. (let a = times-more ids_of q xs s ys in let b = w.once q in let c = m.once q in elim (cases_Bool (owns q s)) [
      | inl t ↦ (let d = unowned-times q bs (m.new q t) in omega arith)
      | inr f ↦ (let d = times-holds q (ids_of s) (sym (owns-ids q s.quants) ∙ f) in omega arith)
    ]);
    top = (let a = times-more overs_of root xs s ys in let b = w.top in let c : times root (overs_of s) ≡ 0 = none s.quants (λ r i. m.not_root r i) in omega arith);
    fits = λ n i q k t. (λ a r c ia ir e ic v. elim (in-more xs s ys n i) [
      | inl x ↦ m.fits q k (subst (λ (z : Node). reads_in q k z ≡ true) (sym x) t) a c r ia ir e (old-over a r c ia ir ic v) v
      | inr j ↦ elim (in-more xs s ys a ia) [
        | inl y ↦ absurd (unowned q (subst (λ (z : Node). owns q z ≡ true) (sym y) (any-from (is_quant q) r a.quants ir (eq-eqb r.id q e))) n j (reads-at-read q k n t))
        | inr ja ↦ w.fits n j q k t a r c ja ir e (old-over a r c ia ir ic v) v
      ]
    ]);
    own_nodes = λ n i q t. elim (in-more xs s ys n i) [
      | inl x ↦ subst (λ (z : Node). (owns q z ≡ true) × (binds_row q z.quants ≡ false)) x (m.own_nodes q (subst (λ (z : Node). nodes_in q z ≡ true) (sym x) t))
      | inr j ↦ w.own_nodes n j q t
    ];
    bare = λ n i. elim (in-more xs s ys n i) [ inl x ↦ subst (λ (z : Node). BareBy z.parts.kind z) x m.bare | inr j ↦ w.bare n j ];
    arms = λ n c r i j ic v. (
        let k = old-over n r c i j ic v in
        elim (in-more xs s ys n i) [
          | inl x ↦ subst (λ (z : Node). ArmsBy z.parts.kind (width c) (width z)) x (m.arms c r (subst (λ (z : Node). In r z.quants) (sym x) j) k v)
          | inr l ↦ w.arms n c r l j k v
        ]);
  }
    where
      none : (rs : List OwnedQuant) → ((r : OwnedQuant) → In r rs → (r.over == root) ≡ false) → times root (map (λ (r : OwnedQuant). r.over) rs) ≡ 0
      none [] h = refl
      none (r ∷ rs) h = let a = none rs (λ x i. h x (inr i)) in let b : ◌≡◌ {A = ℕ} (cond (r.over == root) 1 0) 0 = ap (λ (b : Bool). cond {A = ℕ} b 1 0) (h r (inl refl)) in omega arith

      old-over : (n : Node) (r : OwnedQuant) (c : Node) → In n hs → In r n.quants → In c hs → c.id ≡ r.over → In c bs
      old-over n r c i j ic v = elim (in-more xs s ys c ic) [
        | inr k ↦ k
        | inl x ↦ elim (in-more xs s ys n i) [
          | inl y ↦ absurd (s-own r (subst (λ (z : Node). In r z.quants) (sym y) j) (sym v ∙ ap (λ (z : Node). z.id) (sym x)))
          | inr l ↦ absurd (not-s n r l j (sym v ∙ ap (λ (z : Node). z.id) (sym x)))
        ]
      ]

  -- nothing is looked up in a box that isn't there
  pub none-new : (q : ℕ) → loose bs s.id q ≡ false
  none-new q = elim (cases_Bool (loose bs s.id q)) [ inr f ↦ f | inl t ↦ absurd (clash (has_box bs s.id) (loose-held bs s.id q t) m.fresh) ]

  -- A NEW BOX over boxes that look nothing up, which reads its own alone
  pub added-sound : Scoped (loose bs) s → ((r : OwnedQuant) → In r s.quants → (q : ℕ) → loose bs r.over q ≡ false) → Sound hs root
  added-sound sc closed = sound-by (loose bs) hs root added-local
      (λ n i. elim (in-more xs s ys n i) [ inl x ↦ subst (λ z. Scoped (loose bs) z) x sc | inr j ↦ scoped-of bs root w n j ])
      (λ n i q o. elim (in-more xs s ys n i) [ inl x ↦ subst (λ (z : Node). loose bs z.id q ≡ false) x (none-new q) | inr j ↦ w.settled n j q o ])
      (λ b q t. (
      let a = times-more overs_of b xs s ys in let c = w.used b q t in
      let d : times b (overs_of s) ≡ 0 = apart s.quants b (λ r i. elim (cases_Bool (r.over == b)) [ inr f ↦ f | inl y ↦ absurd (clash (loose bs b q) t (subst (λ z. loose bs z q ≡ false) (eqb-true r.over b y) (closed r i q))) ]) in omega arith))
    where
      apart : (rs : List OwnedQuant) (b : ℕ) → ((r : OwnedQuant) → In r rs → (r.over == b) ≡ false) → times b (map (λ (r : OwnedQuant). r.over) rs) ≡ 0
      apart [] b h = refl
      apart (r ∷ rs) b h = let a = apart rs b (λ x i. h x (inr i)) in let c : ◌≡◌ {A = ℕ} (cond (r.over == b) 1 0) 0 = ap (λ (b : Bool). cond {A = ℕ} b 1 0) (h r (inl refl)) in omega arith
