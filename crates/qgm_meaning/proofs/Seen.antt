-- What a box sees as a set it reads by some and every.
use Rattle.std.specs.Prelude as p
use Rattle.std.proofs.Common.{ℕ, ◌==◌, ◌≡◌, ◌&&◌, ◌||◌, cond, Bool, true, false, List, [], ◌∷◌, Option, Some, None, refl, sym, ap, ap₂, ◌∙◌, eqb-true, inl, inr}
use Rattle.std.specs.List.{list_any}
use Rattle.std.proofs.lemmas.Bool.{and_parts, cases_Bool}
use Rattle.qgm_core.specs.Boxes.{is_quant}
use Rattle.qgm_core.specs.Kinds.{is_F, is_F_or_S, is_S, is_select}
use Rattle.list_laws.specs.Lists.{In, first}
use Rattle.qgm_core.specs.declared.kinds.BoxKind.{BoxKind}
use Rattle.qgm_core.specs.declared.kinds.BoxKind.TheVariants.{Base, Select, Group, SetOp, OuterJoin}
use Rattle.qgm_core.specs.declared.kinds.QuantKind.{QuantKind}
use Rattle.qgm_core.specs.declared.kinds.QuantKind.TheVariants.{F, E, A, S}
use Rattle.qgm_core.specs.declared.node.Node.{Node}
use Rattle.qgm_core.specs.declared.owned.OwnedQuant.{OwnedQuant}
use Rattle.qgm_meaning.specs.AsSets.{ReadsSetsBy, ReadsWhatItSees, SeesNoSet, is_S_found, is_set, over_found, scalar_in, scalar_in_arms, scalar_in_cond}
use Rattle.qgm_terms.specs.Terms.{Term, int, text, null_int, null_text, col, both, minus_of, choose, count_all, fold, scalar, Arms, no_arm, arm, Cond, always, compare, is_null, and, or, not, some, every}
use Rattle.list_laws.proofs.Booleans.{neither-left, neither-right}

-- a scalar of one of fewer stands within only where one of more does
module _ (few many : ℕ → Bool) (within : (q : ℕ) → many q ≡ false → few q ≡ false) where
  neither : {x y : Bool} → x ≡ false → y ≡ false → (x || y) ≡ false
  neither h k = ap₂ (λ (a b : Bool). a || b) h k

  mutual
    fewer : (x : Term) → scalar_in many x ≡ false → scalar_in few x ≡ false
    fewer (int n) h = refl
    fewer (text w) h = refl
    fewer null_int h = refl
    fewer null_text h = refl
    fewer (col q k) h = refl
    fewer (both o x y) h = neither (fewer x (neither-left (scalar_in many x) (scalar_in many y) h)) (fewer y (neither-right (scalar_in many x) (scalar_in many y) h))
    fewer (minus_of x) h = fewer x h
    fewer (choose w x) h = neither (fewer-arms w (neither-left (scalar_in_arms many w) (scalar_in many x) h)) (fewer x (neither-right (scalar_in_arms many w) (scalar_in many x) h))
    fewer count_all h = refl
    fewer (fold f t x) h = fewer x h
    fewer (scalar r) h = within r h

    fewer-arms : (w : Arms) → scalar_in_arms many w ≡ false → scalar_in_arms few w ≡ false
    fewer-arms no_arm h = refl
    fewer-arms (arm c z w) h =
        let rest = neither-right (scalar_in_cond many c) (scalar_in many z || scalar_in_arms many w) h in
        neither (fewer-cond c (neither-left (scalar_in_cond many c) (scalar_in many z || scalar_in_arms many w) h))
        (neither (fewer z (neither-left (scalar_in many z) (scalar_in_arms many w) rest)) (fewer-arms w (neither-right (scalar_in many z) (scalar_in_arms many w) rest)))

    fewer-cond : (c : Cond) → scalar_in_cond many c ≡ false → scalar_in_cond few c ≡ false
    fewer-cond always h = refl
    fewer-cond (compare sign x y) h = neither (fewer x (neither-left (scalar_in many x) (scalar_in many y) h)) (fewer y (neither-right (scalar_in many x) (scalar_in many y) h))
    fewer-cond (is_null x) h = fewer x h
    fewer-cond (and c d) h = neither (fewer-cond c (neither-left (scalar_in_cond many c) (scalar_in_cond many d) h)) (fewer-cond d (neither-right (scalar_in_cond many c) (scalar_in_cond many d) h))
    fewer-cond (or c d) h = neither (fewer-cond c (neither-left (scalar_in_cond many c) (scalar_in_cond many d) h)) (fewer-cond d (neither-right (scalar_in_cond many c) (scalar_in_cond many d) h))
    fewer-cond (not c) h = fewer-cond c h
    fewer-cond (some r c) h = fewer-cond c h
    fewer-cond (every r c) h = fewer-cond c h

  fewer-heads : (xs : List Term) → list_any (scalar_in many) xs ≡ false → list_any (scalar_in few) xs ≡ false
  fewer-heads [] h = refl
  fewer-heads (x ∷ xs) h = neither (fewer x (neither-left (scalar_in many x) (list_any (scalar_in many) xs) h)) (fewer-heads xs (neither-right (scalar_in many x) (list_any (scalar_in many) xs) h))

  fewer-conds : (xs : List Cond) → list_any (scalar_in_cond many) xs ≡ false → list_any (scalar_in_cond few) xs ≡ false
  fewer-conds [] h = refl
  fewer-conds (x ∷ xs) h = neither (fewer-cond x (neither-left (scalar_in_cond many x) (list_any (scalar_in_cond many) xs) h)) (fewer-conds xs (neither-right (scalar_in_cond many x) (list_any (scalar_in_cond many) xs) h))

-- ---- quantifiers

F-counts : (k : QuantKind) → is_F k ≡ true → is_F_or_S k ≡ true
F-counts F h = refl
F-counts E h = cc h
F-counts A h = cc h
F-counts S h = cc h

S-counts : (k : QuantKind) → is_S k ≡ true → is_F_or_S k ≡ true
S-counts F h = refl
S-counts E h = cc h
S-counts A h = cc h
S-counts S h = refl

not-false : (b : Bool) → p.not b ≡ false → b ≡ true
not-false true h = refl
not-false false h = cc h

-- the quantifier that is found is one of them
found-in : (q : ℕ) (rs : List OwnedQuant) (r : OwnedQuant) → first (is_quant q) rs ≡ Some r → In r rs
found-in q [] r h = absurd (let z : ⊥ = cc in z)
found-in q (t ∷ rs) r h = elim (t.id == q) as (λ b. ◌≡◌ {A = Option OwnedQuant} (cond b (Some t) (first (is_quant q) rs)) (Some r) → In r (t ∷ rs)) [
  | true ↦ λ h. inl (let e : t ≡ r = cc in e)
  | false ↦ λ h. inr (found-in q rs r h)
] h

module _ (sets : ℕ → Bool) (n : Node) (h : SeesNoSet sets n) where
  -- where a quantifier that counts rows is found
  unless-counted : (o : Option OwnedQuant) → ((r : OwnedQuant) → o ≡ Some r → is_F_or_S r.kind ≡ true) → ((r : OwnedQuant) → o ≡ Some r → In r n.quants) → over_found sets o ≡ false
  unless-counted None k i = refl
  unless-counted (Some r) k i = h.unseen r (i r refl) (k r refl)

  -- a quantifier of these that binds rows, by its number
  binding : (rs : List OwnedQuant) (q : ℕ) → list_any (λ r. is_F r.kind && is_quant q r) rs ≡ true → ((r : OwnedQuant) → In r rs → In r n.quants) → (r : OwnedQuant) × (In r n.quants) × (is_F r.kind ≡ true) × (r.id ≡ q)
  binding [] q t i = cc t
  binding (r ∷ rs) q t i = elim (cases_Bool (is_F r.kind && (r.id == q))) [
    | inl b ↦
        let both = and_parts (is_F r.kind) (r.id == q) b in
        (r, i r (inl refl), both.0, eqb-true r.id q both.1)
    | inr b ↦ binding rs q (sym (ap (λ (x : Bool). x || list_any (λ r. is_F r.kind && is_quant q r) rs) b) ∙ t) (λ r k. i r (inr k))
  ]

  rows-unseen : (q : ℕ) → list_any (λ r. is_F r.kind && is_quant q r) n.quants ≡ true → is_set sets n q ≡ false
  rows-unseen q t =
      let b = binding n.quants q t (λ r i. i) in
      let held : first (is_quant q) n.quants ≡ Some b.0 = ap (λ (x : ℕ). first (is_quant x) n.quants) (sym b.3) ∙ h.once b.0 b.1 in
      ap (over_found sets) held ∙ h.unseen b.0 b.1 (F-counts b.0.kind b.2)

  scalars-unseen : (q : ℕ) → p.not (is_S_found (first (is_quant q) n.quants)) ≡ false → is_set sets n q ≡ false
  scalars-unseen q t = by (first (is_quant q) n.quants) refl (not-false (is_S_found (first (is_quant q) n.quants)) t)
    where
      by : (o : Option OwnedQuant) → first (is_quant q) n.quants ≡ o → is_S_found o ≡ true → over_found sets o ≡ false
      by None e s = refl
      by (Some r) e s = h.unseen r (found-in q n.quants r e) (S-counts r.kind s)

  all-unseen : is_select n.parts.kind ≡ false → (q : ℕ) → is_set sets n q ≡ false
  all-unseen k q = by (first (is_quant q) n.quants) refl
    where
      by : (o : Option OwnedQuant) → first (is_quant q) n.quants ≡ o → over_found sets o ≡ false
      by None e = refl
      by (Some r) e = let i = found-in q n.quants r e in h.unseen r i (F-counts r.kind (h.others k r i))

  reads-by : (kind : BoxKind) → (is_select kind ≡ false → is_select n.parts.kind ≡ false) → ReadsSetsBy kind sets n
  reads-by (Base table) k = tt
  reads-by Select k = record {
    rows = rows-unseen;
    cells = fewer-heads (is_set sets n) (λ q. p.not (is_S_found (first (is_quant q) n.quants))) scalars-unseen n.parts.head h.cells;
    conditions = fewer-conds (is_set sets n) (λ q. p.not (is_S_found (first (is_quant q) n.quants))) scalars-unseen n.parts.conds.items h.conditions;
  }
  reads-by (Group keys) k = all-unseen (k refl)
  reads-by (SetOp form types) k = all-unseen (k refl)
  reads-by OuterJoin k = all-unseen (k refl)

pub reads-what_it_sees : ReadsWhatItSees
reads-what_it_sees = λ sets n h. reads-by sets n h n.parts.kind (λ e. e)
