-- What all absorbing rules have in a settled graph: the fed box isn't the root and isn't firm, it and the box under it are clean; and what is below both is closed: it ranges over and names no other box.
use Rattle.std.proofs.Common.{ℕ, ◌==◌, ◌≡◌, ◌&&◌, ◌||◌, cond, nat_le, nat_lt, not, Bool, true, false, List, [], ◌∷◌, refl, sym, ap, subst, ◌∙◌, eqb-true, inl, inr, arith}
use Rattle.std.specs.List.{list_all}
use Rattle.std.proofs.lemmas.Bool.{and_from, and_parts, cases_Bool, eq-eqb, not-true, or_cases}
use Rattle.list_laws.specs.Lists.{EachOnce, In, holds, times}
use Rattle.list_laws.proofs.Booleans.{clash}
use Rattle.list_laws.proofs.Membership.{eq-false-sym}
use Rattle.qgm_core.specs.Boxes.{QueryGraph, numbers, overs_in, width}
use Rattle.qgm_core.specs.Free.{named_by}
use Rattle.qgm_core.specs.Kinds.{is_F, is_magic}
use Rattle.qgm_core.specs.declared.kinds.BoxKind.TheVariants.{Group, Select}
use Rattle.qgm_core.specs.declared.kinds.Role.TheVariants.{Fed, Plain}
use Rattle.qgm_core.specs.declared.node.Node.{Node}
use Rattle.qgm_core.specs.declared.owned.OwnedQuant.{OwnedQuant}
use Rattle.qgm_meaning.specs.Scope.{loose}
use Rattle.qgm_wellformed.specs.Columns.{columns_of}
use Rattle.qgm_wellformed.specs.Sentences.{WellFormed}
use Rattle.qgm_edit_laws.specs.Graph.{Sound}
use Rattle.qgm_edit_laws.specs.Rebuilds.{IsOwned}
use Rattle.qgm_edit_laws.proofs.FreeLoose.{free-looks}
use Rattle.qgm_edit_laws.proofs.Ranks.{same-box}
use Rattle.qgm_edit_laws.proofs.Scope.{in-first}
use Rattle.qgm_props.specs.Calm.{calm_column, calm_magic, calm_scalar, clean_below}
use Rattle.qgm_props.specs.Inferred.{Facts, all_under_F, clean, clean_by, error_free, free_by, of_box}
use Rattle.qgm_props.specs.Laws.{Tells}
use Rattle.qgm_props.proofs.Settled.{founded}
use Rattle.rule_magic.specs.Places.{MayAbsorb}
use Rattle.rule_magic.proofs.AbsorbFacts as fed
use Rattle.rule_magic.proofs.AbsorbSelectFormed as made
use Rattle.rule_calm.specs.Settled.{IsFirm, SettledBox, grouped, joined}
use Rattle.rule_calm.proofs.PartFacts.{above-not-under, under, under-itself, under-named, under-over}

-- what is calm of a box
module _ (bs : List Node) (f : Facts) (root : ℕ) (n : Node) (x : SettledBox bs f root n) where
  both-calm : (clean_below bs f root n && list_all (calm_column bs f n) (columns_of n)) ≡ true
  both-calm = (and_parts (clean_below bs f root n && list_all (calm_column bs f n) (columns_of n)) (list_all (calm_scalar bs f) n.quants && (not (is_magic n.parts.role) || calm_magic bs f n)) x.calm).0

  pub below-calm : clean_below bs f root n ≡ true
  below-calm = (and_parts (clean_below bs f root n) (list_all (calm_column bs f n) (columns_of n)) both-calm).0

  pub magic-calm : (not (is_magic n.parts.role) || calm_magic bs f n) ≡ true
  magic-calm = (and_parts (list_all (calm_scalar bs f) n.quants) (not (is_magic n.parts.role) || calm_magic bs f n) (and_parts (clean_below bs f root n && list_all (calm_column bs f n) (columns_of n)) (list_all (calm_scalar bs f) n.quants && (not (is_magic n.parts.role) || calm_magic bs f n)) x.calm).1).1

  pub columns-calm : list_all (calm_column bs f n) (columns_of n) ≡ true
  columns-calm = (and_parts (clean_below bs f root n) (list_all (calm_column bs f n) (columns_of n)) both-calm).1

-- what is told of a box is what a sentence infers
module _ (bs : List Node) (f : Facts) (tells : Tells f bs) (root : ℕ) (w : Sound bs root) (n : Node) (i : In n bs) where
  pub clean-by : f.clean n.id ≡ true → clean_by bs f n.parts.kind n ≡ true
  clean-by h = sym (ap (of_box false (λ m. clean_by bs f m.parts.kind m)) (in-first n bs w.ordered i)) ∙ founded bs f tells (clean n.id) ((tells (clean n.id)).0 h)

  pub free-by : (k : ℕ) → f.error_free n.id k ≡ true → ((nat_lt 0 k && nat_le k (width n)) ≡ true) × (free_by bs f n.parts.kind n k ≡ true)
  free-by k h = and_parts (nat_lt 0 k && nat_le k (width n)) (free_by bs f n.parts.kind n k)
      (sym (ap (of_box false (λ m. (nat_lt 0 k && nat_le k (width m)) && free_by bs f m.parts.kind m k)) (in-first n bs w.ordered i)) ∙ founded bs f tells (error_free n.id k) ((tells (error_free n.id k)).0 h))

-- two F quantifiers
pub F-two : (f : ℕ → Bool) (a r : OwnedQuant) → is_F a.kind ≡ true → is_F r.kind ≡ true → all_under_F f (a ∷ (r ∷ [])) ≡ true → (f a.over ≡ true) × (f r.over ≡ true)
F-two f a r x y h =
    let p = and_parts (f a.over) (cond (is_F r.kind) (f r.over && true) true) (subst (λ z. cond z (f a.over && cond (is_F r.kind) (f r.over && true) true) (cond (is_F r.kind) (f r.over && true) true) ≡ true) x h) in
    (p.0, (and_parts (f r.over) true (subst (λ z. cond z (f r.over && true) true ≡ true) y p.1)).0)

-- an F quantifier more
pub F-more : (f : ℕ → Bool) (a : OwnedQuant) (rs : List OwnedQuant) → is_F a.kind ≡ true → f a.over ≡ true → all_under_F f rs ≡ true → all_under_F f (a ∷ rs) ≡ true
F-more f a rs x h k = subst (λ z. cond z (f a.over && all_under_F f rs) (all_under_F f rs) ≡ true) (sym x) (and_from (f a.over) (all_under_F f rs) h k)

fed-plain : Fed ≡ Plain → ⊥
fed-plain e = cc e

group-select : (k : ℕ) → Group k ≡ Select → ⊥
group-select k e = cc e

module _ (g : QueryGraph) (once : EachOnce (numbers g.boxes)) (wf : WellFormed g) (known : Facts) (tells : Tells known g.boxes) (d : Node) (may : MayAbsorb g.boxes known d) where
  w : Sound g.boxes g.root
  w = fed.w g once wf known tells d may

  abbrev c : Node
  c = may.c

  pub d-not-root : (d.id == g.root) ≡ false
  d-not-root = not-true (d.id == g.root) (fed.parts g once wf known tells d may).not_root

  pub c-not-root : (c.id == g.root) ≡ false
  c-not-root = elim (cases_Bool (c.id == g.root)) [
    | inr f ↦ f
    | inl e ↦ absurd (let y = w.top in let u = fed.used-c g once wf known tells d may in let k : times c.id (overs_in g.boxes) ≡ 0 = subst (λ b. times b (overs_in g.boxes) ≡ 0) (sym (eqb-true c.id g.root e)) y in omega (arith, u, k))
  ]

  -- a fed box isn't firm
  not-firm-by : (b : ℕ) → IsFirm g.boxes b → b ≡ d.id → ⊥
  not-firm-by _ (grouped n r i j k) e = group-select 0 (sym k ∙ ap (λ (z : Node). z.parts.kind) (same-box g.boxes n d w.ordered i may.in_d e) ∙ fed.kind_d g once wf known tells d may)
  not-firm-by _ (joined n i k p s under shut) e = fed-plain (sym may.is_fed ∙ ap (λ (z : Node). z.parts.role) (sym (same-box g.boxes n d w.ordered i may.in_d e)) ∙ p)

  pub not-firm : IsFirm g.boxes d.id → ⊥
  not-firm x = not-firm-by d.id x refl

  -- both are clean
  module _ (each : (n : Node) → In n g.boxes → SettledBox g.boxes known g.root n) where
    below : (n : Node) → In n g.boxes → (n.id == g.root) ≡ false → known.clean n.id ≡ true
    below n i f = elim (or_cases (n.id == g.root) (known.clean n.id) (below-calm g.boxes known g.root n (each n i))) [ inl t ↦ absurd (clash (n.id == g.root) t f) | inr t ↦ t ]

    pub d-clean : known.clean d.id ≡ true
    d-clean = below d may.in_d d-not-root

    pub c-clean : known.clean c.id ≡ true
    c-clean = below c may.in_c c-not-root

  -- ---- what is below them

  abbrev pub low : ℕ → Bool
  low b = under g.boxes d.id b && (not (b == d.id) && not (b == c.id))

  low-from : (b : ℕ) → under g.boxes d.id b ≡ true → (b ≡ d.id → ⊥) → (b ≡ c.id → ⊥) → low b ≡ true
  low-from b u x y = and_from (under g.boxes d.id b) (not (b == d.id) && not (b == c.id)) u (and_from (not (b == d.id)) (not (b == c.id)) (apart b d.id x) (apart b c.id y))
    where
      apart : (b e : ℕ) → (b ≡ e → ⊥) → not (b == e) ≡ true
      apart b e n = elim (cases_Bool (b == e)) [ inr f ↦ ap not f | inl t ↦ absurd (n (eqb-true b e t)) ]

  pub low-under : (b : ℕ) → low b ≡ true → under g.boxes d.id b ≡ true
  low-under b h = (and_parts (under g.boxes d.id b) (not (b == d.id) && not (b == c.id)) h).0

  pub low-not-d : (b : ℕ) → low b ≡ true → (b == d.id) ≡ false
  low-not-d b h = not-true (b == d.id) (and_parts (not (b == d.id)) (not (b == c.id)) (and_parts (under g.boxes d.id b) (not (b == d.id) && not (b == c.id)) h).1).0

  pub low-not-c : (b : ℕ) → low b ≡ true → (b == c.id) ≡ false
  low-not-c b h = not-true (b == c.id) (and_parts (not (b == d.id)) (not (b == c.id)) (and_parts (under g.boxes d.id b) (not (b == d.id) && not (b == c.id)) h).1).1

  same-d : (n : Node) → n ≡ d → (n.id == d.id) ≡ false → ⊥
  same-d n e f = clash (n.id == d.id) (eq-eqb n.id d.id (ap (λ (z : Node). z.id) e)) f

  -- a box there but the fed one ranges over what is below both
  pub low-over : (n : Node) (s : OwnedQuant) → In n g.boxes → under g.boxes d.id n.id ≡ true → (n.id == d.id) ≡ false → In s n.quants → low s.over ≡ true
  low-over n s i u f j = low-from s.over (under-over g.boxes g.root w d.id n s i j u)
      (λ e. above-not-under g.boxes g.root w d.id n s i j e u)
      (λ e. same-d n (fed.only-d g once wf known tells d may n s i j e) f)

  -- and names it alone
  pub low-named : (n : Node) (s : OwnedQuant) → In n g.boxes → under g.boxes d.id n.id ≡ true → (n.id == d.id) ≡ false → holds s.id (named_by n) ≡ true → IsOwned g.boxes s → low s.over ≡ true
  low-named n s i u f h o = elim (under-named g.boxes g.root w d.id n s i u h o) [
    | inl x ↦ absurd (clash (loose g.boxes d.id s.id) (free-looks g.boxes g.root w d.id s.id x) (fed.closed-d g once wf known tells d may s.id))
    | inr x ↦ low-from s.over (under-over g.boxes g.root w d.id o.0 s o.1.0 o.1.1 x)
        (λ e. above-not-under g.boxes g.root w d.id o.0 s o.1.0 o.1.1 e x)
        (λ e. elim (made.of-d g once wf known tells d may s (subst (λ (z : Node). In s z.quants) (fed.only-d g once wf known tells d may o.0 s o.1.0 o.1.1 e) o.1.1)) [
          | inl y ↦ clash (may.a.over == c.id) (eq-eqb may.a.over c.id (ap (λ (z : OwnedQuant). z.over) (sym y) ∙ e)) (fed.a-not-c g once wf known tells d may)
          | inr y ↦ made.r-unnamed g once wf known tells d may n i f (subst (λ (z : OwnedQuant). holds z.id (named_by n) ≡ true) y h)
        ])
  ]

  pub c-under : under g.boxes d.id c.id ≡ true
  c-under = subst (λ b. under g.boxes d.id b ≡ true) (sym may.over_c) (under-over g.boxes g.root w d.id d may.r may.in_d (fed.in-r g once wf known tells d may) (under-itself g.boxes g.root w d.id))

  pub c-not-d : (c.id == d.id) ≡ false
  c-not-d = eq-false-sym d.id c.id (fed.d-not-c g once wf known tells d may)

  -- the magic box
  pub m-low : low may.m.id ≡ true
  m-low = low-from may.m.id
      (subst (λ b. under g.boxes d.id b ≡ true) (sym may.over_m) (under-over g.boxes g.root w d.id d may.a may.in_d (fed.in-a g once wf known tells d may) (under-itself g.boxes g.root w d.id)))
      (λ e. above-not-under g.boxes g.root w d.id d may.a may.in_d (fed.in-a g once wf known tells d may) (sym may.over_m ∙ e) (under-itself g.boxes g.root w d.id))
      (λ e. clash (may.m.id == c.id) (eq-eqb may.m.id c.id e) (fed.m-not-c g once wf known tells d may))
