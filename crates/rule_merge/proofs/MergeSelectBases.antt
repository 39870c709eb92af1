-- In a base nothing is free, and M1 has places only at a select that isn't fed and has an F.
use Rattle.std.proofs.Common.{ℕ, ◌==◌, ◌&&◌, ◌||◌, ◌≡◌, not, cond, Bool, true, false, List, [], ◌∷◌, ◌++◌, filter, Option, Some, None, refl, ap, subst, ◌∙◌, eqb-true, inl, inr}
use Rattle.std.specs.List.{flat_map, list_any}
use Rattle.std.proofs.Math.Bool.{and-false}
use Rattle.std.proofs.lemmas.Bool.{and_from, and_parts, cases_Bool}
use Rattle.qgm_core.proofs.Reaching.{reached-reaches}
use Rattle.qgm_wellformed.proofs.Faults.{finds-none}
use Rattle.qgm_wellformed.specs.Sentences.{WellFormed}
use Rattle.qgm_wellformed.specs.Shapes.{all_F}
use Rattle.qgm_core.specs.Boxes.{QueryGraph, box_of, is_box, numbers, overs_in, owns, quants_in, quants_of}
use Rattle.qgm_core.specs.Free.{Reaches, free, is_owned, itself, named_by, named_where, put_each, reached, through}
use Rattle.qgm_core.specs.Kinds.{is_F, is_base, is_fed, is_magic, is_plain, is_select}
use Rattle.list_laws.specs.Lists.{EachOnce, In, first, holds, times}
use Rattle.qgm_core.specs.declared.kinds.BoxKind.{BoxKind}
use Rattle.qgm_core.specs.declared.kinds.BoxKind.TheVariants.{Base, Group, OuterJoin, Select, SetOp}
use Rattle.qgm_core.specs.declared.node.Node.{Node}
use Rattle.qgm_core.specs.declared.owned.OwnedQuant.{OwnedQuant}
use Rattle.qgm_edit_laws.specs.Graph.{BareBy, Sound}
use Rattle.qgm_edit_laws.proofs.Formed.{sound-checked}
use Rattle.qgm_edit_laws.proofs.Levels.{some-in}
use Rattle.qgm_edit_laws.proofs.Ranks.{same-box}
use Rattle.qgm_terms.specs.Named.{names_in, names_in_cond}
use Rattle.rule_api.specs.Picks.{picks}
use Rattle.rule_facts.proofs.Picked.{none-picked}
use Rattle.rule_facts.specs.FedClosed.{any_fed_closed}
use Rattle.rule_merge.specs.MergeSelect.{any_under, base_found, cells_free, cells_stand, copies_little, distinct_fits, has_lateral, is_lateral, is_plain_select, may_at, may_go_in, may_have, may_in, may_merge, may_over, may_stand, merged_with, over_base, parts_fit}
use Rattle.list_laws.proofs.Membership.{any-from}
use Rattle.list_laws.proofs.Booleans.{clash}

-- a base names nothing and owns no quantifier
bare-of : (k : BoxKind) (n : Node) → is_base k ≡ true → BareBy k n → (n.quants ≡ []) × (named_by n ≡ [])
bare-of (Base table) n h x = (x.0, ap (λ xs. flat_map names_in xs ++ flat_map names_in_cond n.parts.conds.items) x.1 ∙ ap (flat_map names_in_cond) x.2)
bare-of Select n h x = absurd (let z : ⊥ = cc in z)
bare-of (Group keys) n h x = absurd (let z : ⊥ = cc in z)
bare-of (SetOp operator types) n h x = absurd (let z : ⊥ = cc in z)
bare-of OuterJoin n h x = absurd (let z : ⊥ = cc in z)

found-base : (found : Option Node) → base_found found ≡ true → (n : Node) × ((found ≡ Some n) × (is_base n.parts.kind ≡ true))
found-base None h = absurd (let z : ⊥ = cc in z)
found-base (Some n) h = (n, (refl, h))

none-in : {X Y : Type 0} (f : X → List Y) (xs : List X) → ((x : X) → In x xs → f x ≡ []) → flat_map f xs ≡ []
none-in f [] h = refl
none-in f (x ∷ xs) h = ap (λ z. z ++ flat_map f xs) (h x (inl refl)) ∙ none-in f xs (λ y i. h y (inr i))

module _ (g : QueryGraph) (sound : Sound g.boxes g.root) (n : Node) (in-n : In n g.boxes) (no-quant : n.quants ≡ []) (no-name : named_by n ≡ []) where
  abbrev marks : List ℕ
  marks = reached (n.id ∷ []) g.boxes

  -- it reaches itself alone
  alone : (x y : ℕ) → Reaches g.boxes x y → x ≡ n.id → y ≡ n.id
  alone x y (itself z) e = e
  alone x y (through m r z i j h) e =
      let s : m ≡ n = same-box g.boxes m n sound.ordered i in-n e in
      elim (subst (λ z. In r z) no-quant (subst (λ (z : Node). In r z.quants) s j)) [ ]

  named-none : (m : Node) → In m g.boxes → named_where marks m ≡ []
  named-none m i = elim (cases_Bool (holds m.id marks)) [
    | inl t ↦ (
        let s : m ≡ n = same-box g.boxes m n sound.ordered i in-n (alone n.id m.id ((reached-reaches g.boxes sound.ordered n.id m.id).0 t) refl) in
        ap (λ z. cond z (named_by m) []) t ∙ ap named_by s ∙ no-name)
    | inr f ↦ ap (λ z. cond z (named_by m) []) f
  ]

  none-free : free n.id g ≡ []
  none-free = ap (λ z. put_each [] (filter (λ q. not (is_owned marks g.boxes q)) z)) (none-in (named_where marks) g.boxes named-none)

pub base_apart : (g : QueryGraph) → EachOnce (numbers g.boxes) → WellFormed g → (c : Node) (s : OwnedQuant) → over_base g s ≡ true → is_lateral g c s ≡ false
base_apart g u w c s h =
    let sound : Sound g.boxes g.root = ((sound-checked g u).0 ((finds-none g u).1 w)).0 in
    let x = found-base (box_of s.over g) h in
    let i = some-in (is_box s.over) g.boxes x.0 x.1.0 in
    let e = bare-of x.0.parts.kind x.0 x.1.1 (sound.bare x.0 i.0) in
    let f : free s.over g ≡ [] = subst (λ z. free z g ≡ []) (eqb-true x.0.id s.over i.1) (none-free g sound x.0 i.0 e.0 e.1) in
    ap (λ z. is_F s.kind && list_any (λ q. owns q c && not (q == s.id)) z) f ∙ and-false (is_F s.kind)

-- ---- places

not-at : (g : QueryGraph) (b : Node) → may_have b ≡ false → (r : OwnedQuant) → In r b.quants → may_at g b r ≡ false
not-at g b h r i = elim (cases_Bool (may_at g b r)) [
  | inr f ↦ f
  | inl t ↦ (
      let a = and_parts (is_select b.parts.kind && not (is_fed b.parts.role) && is_F r.kind) (may_over g b r (box_of r.over g)) t in
      let d = and_parts (is_select b.parts.kind && not (is_fed b.parts.role)) (is_F r.kind) a.0 in
      absurd (clash (may_have b) (and_from (is_select b.parts.kind && not (is_fed b.parts.role)) (list_any (λ (x : OwnedQuant). is_F x.kind) b.quants) d.0 (any-from (λ (x : OwnedQuant). is_F x.kind) r b.quants i d.1)) h))
]

none_there : (g : QueryGraph) (b : Node) → may_have b ≡ false → picks (may_at g b) 1 b.quants ≡ []
none_there g b h = none-picked (may_at g b) 1 b.quants (not-at g b h)

pub none_found : (g : QueryGraph) (b : ℕ) (n : Node) → box_of b g ≡ Some n → may_have n ≡ false → picks (may_merge g b) 1 (quants_of b g) ≡ []
none_found g b n e h = ap (λ z. picks (may_in g z) 1 (quants_in z)) e ∙ none_there g n h

-- a plain select
abbrev lies : Node → Bool
lies c = is_select c.parts.kind && is_plain c.parts.role

over-then : (g : QueryGraph) (b : Node) (r : OwnedQuant) (found : Option Node) → may_over g b r found ≡ true → (c : Node) × ((found ≡ Some c) × (lies c ≡ true))
over-then g b r None h = absurd (let z : ⊥ = cc in z)
over-then g b r (Some c) h =
    let a0 = and_parts (may_go_in g b r c) (copies_little g r c) h in
    let a1 = and_parts (may_stand g b r c && distinct_fits g b c) (not (any_fed_closed (merged_with g b c r.id))) a0.0 in
    let a2 = and_parts (may_stand g b r c) (distinct_fits g b c) a1.0 in
    let a3 = and_parts (cells_stand g b r c) (not (has_lateral g c)) a2.0 in
    let a4 = and_parts (parts_fit b c && (times c.id (overs_in g.boxes) == 1)) (cells_free b.id r.id g.boxes 1 c.parts.head) a3.0 in
    let a5 = and_parts (parts_fit b c) (times c.id (overs_in g.boxes) == 1) a4.0 in
    let a6 = and_parts (lies c) (not (is_magic b.parts.role) || all_F c.quants) a5.0 in
    (c, (refl, a6.0))

not-under : (g : QueryGraph) (b : Node) → any_under b.quants g.boxes ≡ false → (r : OwnedQuant) → In r b.quants → may_at g b r ≡ false
not-under g b h r i = elim (cases_Bool (may_at g b r)) [
  | inr f ↦ f
  | inl t ↦ (
      let x = over-then g b r (box_of r.over g) (and_parts (is_select b.parts.kind && not (is_fed b.parts.role) && is_F r.kind) (may_over g b r (box_of r.over g)) t).1 in
      absurd (clash (any_under b.quants g.boxes) (any-from (λ (s : OwnedQuant). is_plain_select (first (is_box s.over) g.boxes)) r b.quants i (ap is_plain_select x.1.0 ∙ x.1.1)) h))
]

pub none_under : (g : QueryGraph) (b : ℕ) (n : Node) → box_of b g ≡ Some n → any_under n.quants g.boxes ≡ false → picks (may_merge g b) 1 (quants_of b g) ≡ []
none_under g b n e h = ap (λ z. picks (may_in g z) 1 (quants_in z)) e ∙ none-picked (may_at g n) 1 n.quants (not-under g n h)
