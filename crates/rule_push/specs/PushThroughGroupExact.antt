-- P2 has exactly the places where it may fire, in order.
use Rattle.std.proofs.Common.{ℕ, zero, suc, ◌≡◌, ◌&&◌, nat_le, nat_lt, Bool, true, false, List, ◌∷◌, Some, refl, sym, ap, ap₂, subst, ◌∙◌, take, arith, []}
use Rattle.std.specs.Prelude.{◌↔◌}
use Rattle.std.specs.List.{list_all}
use Rattle.std.proofs.lemmas.Bool.{and_from, and_parts, le-leb, leb-true, lt-ltb}
use Rattle.qgm_core.specs.Boxes.{QueryGraph, box_of, numbers}
use Rattle.qgm_core.specs.Edits.{conds_in}
use Rattle.list_laws.specs.Lists.{EachOnce, In}
use Rattle.qgm_core.specs.declared.kinds.BoxKind.{BoxKind}
use Rattle.qgm_core.specs.declared.kinds.BoxKind.TheVariants.{Base, Select, Group, SetOp, OuterJoin}
use Rattle.qgm_core.specs.declared.node.Node.{Node}
use Rattle.qgm_core.specs.declared.owned.OwnedQuant.{OwnedQuant}
use Rattle.qgm_props.specs.Inferred.{Facts, clean, clean_by, cond_free, is_free}
use Rattle.qgm_terms.specs.Terms.{Cond}
use Rattle.qgm_wellformed.specs.Sentences.{WellFormed}
use Rattle.qgm_edit_laws.proofs.Levels.{number-of}
use Rattle.rule_api.specs.PickLaws.{picks_ascending}
use Rattle.rule_api.specs.Rules.{Ascending}
use Rattle.rule_api.specs.declared.place.Place.{Place}
use Rattle.rule_facts.specs.Places.{in_box}
use Rattle.rule_push.specs.Decided.{clean-is, decided, facts-are, facts_in, tells-in}
use Rattle.rule_push.specs.PushExact.{push-exact}
use Rattle.rule_push.specs.PushThroughGroup.{IsGroupUnder, MayPushThroughGroup, group_passes, of_group, over_keys, push_through_group_pairs}
use Rattle.rule_push.specs.PushPlaces.{MayPush, is_input, leaves, reads_only}
use Rattle.rule_push.specs.PushTests.{input-from, input-to, reads-only-is}
use Rattle.rule_push.specs.Small.{is_small_below, is_small_through}

group-is : (t : ℕ → Bool) (k : BoxKind) → of_group t k ≡ true → (keys : ℕ) × ((k ≡ Group keys) × (t keys ≡ true))
group-is t (Base table) h = absurd (let z : ⊥ = cc in z)
group-is t Select h = absurd (let z : ⊥ = cc in z)
group-is t (Group keys) h = (keys, (refl, h))
group-is t (SetOp operator types) h = absurd (let z : ⊥ = cc in z)
group-is t OuterJoin h = absurd (let z : ⊥ = cc in z)

module _ (g : QueryGraph) (p : Cond) (r : OwnedQuant) (c : Node) (found : box_of r.over g ≡ Some c) where
  abbrev known : Facts
  known = facts_in g.boxes

  found-c : box_of c.id g ≡ Some c
  found-c = subst (λ z. box_of z g ≡ Some c) (sym (number-of g.boxes r.over c found)) found

  from-keys : (keys : ℕ) (rs : List OwnedQuant) → c.parts.kind ≡ Group keys → c.quants ≡ rs → over_keys g p r c.parts.head rs keys ≡ true → decided g p c ≡ true → IsGroupUnder g known p r c
  from-keys keys [] kind e h d = absurd (let z : ⊥ = cc in z)
  from-keys zero (s ∷ []) kind e h d = absurd (let a = and_parts (is_input g s) false h in let z : ⊥ = cc in z)
  from-keys (suc k) (s ∷ []) kind e h d =
      let a = and_parts (is_input g s) (nat_lt 0 (suc k) && (reads_only (λ j. nat_le j (suc k)) r.id p && is_small_below g p r.id c.parts.head s)) h in
      let l = and_parts (nat_lt 0 (suc k)) (reads_only (λ j. nat_le j (suc k)) r.id p && is_small_below g p r.id c.parts.head s) a.1 in
      let few = and_parts (reads_only (λ j. nat_le j (suc k)) r.id p) (is_small_below g p r.id c.parts.head s) l.1 in
      let i = input-from g s a.0 in
      let both = and_parts (known.clean c.id) (cond_free g.boxes known false p) d in
      let said : clean_by g.boxes known (Group (suc k)) (record c { quants = s ∷ [] }) ≡ true =
      sym (ap₂ (λ (x : BoxKind) (y : List OwnedQuant). clean_by g.boxes known x (record c { quants = y })) kind e) ∙ (clean-is g known (tells-in g.boxes) c found-c).0 both.0 in
      let parts = and_parts (known.clean s.over) (list_all (is_free g.boxes known false) (take (suc k) c.parts.head)) said in
      record {
        k = k;
        s = s;
        n = i.0;
        kind = kind;
        alone = e;
        input = i.1;
        small = sym (ap (in_box (λ (n : Node). is_small_through r.id c.parts.head s.id n.parts.head p)) i.1.under) ∙ few.1;
        keys = λ j t. leb-true j (suc k) ((reads-only-is c (λ j. nat_le j (suc k)) r.id p).0 few.0 j t);
        keys_free = parts.1;
        p_free = both.1;
        clean = (tells-in g.boxes (clean i.0.id)).0 (subst (λ z. known.clean z ≡ true) (sym (number-of g.boxes s.over i.0 i.1.under)) parts.0);
      }
  from-keys keys (s ∷ (t ∷ ts)) kind e h d = absurd (let z : ⊥ = cc in z)

  pub is-so : (group_passes g p r c ≡ true) ↔ IsGroupUnder g known p r c
  is-so = (
    λ h. (
        let a = and_parts (of_group (over_keys g p r c.parts.head c.quants) c.parts.kind) (decided g p c) h in
        let b = group-is (over_keys g p r c.parts.head c.quants) c.parts.kind a.0 in
        from-keys b.0 c.quants b.1.0 refl b.1.1 a.1),
    λ m. and_from (of_group (over_keys g p r c.parts.head c.quants) c.parts.kind) (decided g p c)
        (ap₂ (λ (x : List OwnedQuant) (y : BoxKind). of_group (over_keys g p r c.parts.head x) y) m.alone m.kind
        ∙ and_from (is_input g m.s) (nat_lt 0 (suc m.k) && (reads_only (λ j. nat_le j (suc m.k)) r.id p && is_small_below g p r.id c.parts.head m.s)) (input-to g m.s m.n m.input) (and_from (nat_lt 0 (suc m.k)) (reads_only (λ j. nat_le j (suc m.k)) r.id p && is_small_below g p r.id c.parts.head m.s) (lt-ltb 0 (suc m.k) (omega arith))
        (and_from (reads_only (λ j. nat_le j (suc m.k)) r.id p) (is_small_below g p r.id c.parts.head m.s) ((reads-only-is c (λ j. nat_le j (suc m.k)) r.id p).1 (λ j l. le-leb j (suc m.k) (m.keys j l)))
        (ap (in_box (λ (n : Node). is_small_through r.id c.parts.head m.s.id n.parts.head p)) m.input.under ∙ m.small))))
        (and_from (known.clean c.id) (cond_free g.boxes known false p)
        ((clean-is g known (tells-in g.boxes) c found-c).1
        (ap₂ (λ (x : BoxKind) (y : List OwnedQuant). clean_by g.boxes known x (record c { quants = y })) m.kind m.alone
        ∙ and_from (known.clean m.s.over) (list_all (is_free g.boxes known false) (take (suc m.k) c.parts.head)) (subst (λ z. known.clean z ≡ true) (number-of g.boxes m.s.over m.n m.input.under) ((tells-in g.boxes (clean m.n.id)).1 m.clean)) m.keys_free))
        m.p_free),
  )

-- at one of its places it may fire
pub push_through_group_given : (g : QueryGraph) → WellFormed g → (at : Place) → In (at.i, at.j) (push_through_group_pairs g at.at) → MayPush (IsGroupUnder g (facts_in g.boxes)) at g
unfolding push_through_group_pairs
push_through_group_given g w at h = (push-exact g w (group_passes g) (IsGroupUnder g (facts_in g.boxes)) (is-so g) at.at at.i at.j).0 h

pub push_through_group_exact : (g : QueryGraph) (b i j : ℕ) → EachOnce (numbers g.boxes) → WellFormed g → In (i, j) (push_through_group_pairs g b) ↔ MayPushThroughGroup (record { at = b; i = i; j = j }) g
unfolding push_through_group_pairs MayPushThroughGroup
push_through_group_exact g b i j once w =
    let e = push-exact g w (group_passes g) (IsGroupUnder g (facts_in g.boxes)) (is-so g) b i j in (
      λ h. record { known = facts_in g.boxes; tells = tells-in g.boxes; may = e.0 h },
      λ m. e.1 (subst (λ (k : Facts). MayPush (IsGroupUnder g k) (record { at = b; i = i; j = j }) g) (facts-are g.boxes m.known m.tells) m.may),
    )

pub push_through_group_ascending : (g : QueryGraph) (b : ℕ) → Ascending (push_through_group_pairs g b)
unfolding push_through_group_pairs
push_through_group_ascending g b = picks_ascending (leaves (group_passes g) g (box_of b g)) 1 (conds_in (box_of b g))
