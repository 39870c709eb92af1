-- P4 has exactly the places where it may fire, in order.
use Rattle.std.proofs.Common.{ℕ, ◌≡◌, ◌&&◌, true, List, ◌∷◌, refl, sym, ap, ◌∙◌, eqb-true, []}
use Rattle.std.specs.Prelude.{◌↔◌}
use Rattle.std.proofs.lemmas.Bool.{and_from, and_parts, eq-eqb}
use Rattle.qgm_core.specs.Boxes.{QueryGraph, box_of, numbers}
use Rattle.qgm_core.specs.Edits.{conds_in}
use Rattle.list_laws.specs.Lists.{EachOnce, In}
use Rattle.qgm_core.specs.declared.kinds.BoxKind.{BoxKind}
use Rattle.qgm_core.specs.declared.kinds.BoxKind.TheVariants.{Base, Select, Group, SetOp, OuterJoin}
use Rattle.qgm_core.specs.declared.node.Node.{Node}
use Rattle.qgm_core.specs.declared.owned.OwnedQuant.{OwnedQuant}
use Rattle.qgm_terms.specs.Substitution.{cell_at}
use Rattle.qgm_terms.specs.Terms.{Cond, Term, int, text, null_int, null_text, col, scalar, both, minus_of, choose, count_all, fold}
use Rattle.qgm_wellformed.specs.Sentences.{WellFormed}
use Rattle.rule_api.specs.PickLaws.{picks_ascending}
use Rattle.rule_api.specs.Rules.{Ascending}
use Rattle.rule_api.specs.declared.place.Place.{Place}
use Rattle.rule_facts.specs.Places.{in_box}
use Rattle.rule_push.specs.PushExact.{push-exact}
use Rattle.rule_push.specs.PushIntoLeft.{IsOuterJoinUnder, MayPushIntoLeft, is_column_of, is_outer_join, left_arm, left_passes, push_into_left_pairs}
use Rattle.rule_push.specs.PushPlaces.{MayPush, is_input, leaves, reads_only}
use Rattle.rule_push.specs.PushTests.{input-from, input-to, reads-only-is}
use Rattle.rule_push.specs.Small.{is_small_below, is_small_through}

outer-join-is : (k : BoxKind) → is_outer_join k ≡ true → k ≡ OuterJoin
outer-join-is (Base table) h = absurd (let z : ⊥ = cc in z)
outer-join-is Select h = absurd (let z : ⊥ = cc in z)
outer-join-is (Group keys) h = absurd (let z : ⊥ = cc in z)
outer-join-is (SetOp operator types) h = absurd (let z : ⊥ = cc in z)
outer-join-is OuterJoin h = refl

column-is : (q : ℕ) (x : Term) → is_column_of q x ≡ true → (i : ℕ) × (x ≡ col q i)
column-is q (int n) h = absurd (let z : ⊥ = cc in z)
column-is q (text s) h = absurd (let z : ⊥ = cc in z)
column-is q null_int h = absurd (let z : ⊥ = cc in z)
column-is q null_text h = absurd (let z : ⊥ = cc in z)
column-is q (col r k) h = (k, ap (λ z. col z k) (eqb-true r q h))
column-is q (scalar r) h = absurd (let z : ⊥ = cc in z)
column-is q (both o x y) h = absurd (let z : ⊥ = cc in z)
column-is q (minus_of x) h = absurd (let z : ⊥ = cc in z)
column-is q (choose s x) h = absurd (let z : ⊥ = cc in z)
column-is q count_all h = absurd (let z : ⊥ = cc in z)
column-is q (fold f d x) h = absurd (let z : ⊥ = cc in z)

module _ (g : QueryGraph) (p : Cond) (r : OwnedQuant) (c : Node) where
  from-arms : (rs : List OwnedQuant) → c.parts.kind ≡ OuterJoin → c.quants ≡ rs → left_arm g p r c.parts.head rs ≡ true → IsOuterJoinUnder g p r c
  from-arms [] kind e h = absurd (let z : ⊥ = cc in z)
  from-arms (s ∷ []) kind e h = absurd (let z : ⊥ = cc in z)
  from-arms (s ∷ (t ∷ [])) kind e h =
      let a = and_parts (is_input g s) (reads_only (λ k. is_column_of s.id (cell_at k c.parts.head)) r.id p && is_small_below g p r.id c.parts.head s) h in
      let d = and_parts (reads_only (λ k. is_column_of s.id (cell_at k c.parts.head)) r.id p) (is_small_below g p r.id c.parts.head s) a.1 in
      let i = input-from g s a.0 in
      record {
        s = s;
        t = t;
        n = i.0;
        kind = kind;
        two = e;
        input = i.1;
        small = sym (ap (in_box (λ (n : Node). is_small_through r.id c.parts.head s.id n.parts.head p)) i.1.under) ∙ d.1;
        lefts = λ k l. column-is s.id (cell_at k c.parts.head) ((reads-only-is c (λ k. is_column_of s.id (cell_at k c.parts.head)) r.id p).0 d.0 k l);
      }
  from-arms (s ∷ (t ∷ (v ∷ vs))) kind e h = absurd (let z : ⊥ = cc in z)

  pub is-so : (left_passes g p r c ≡ true) ↔ IsOuterJoinUnder g p r c
  is-so = (
    λ h. (let a = and_parts (is_outer_join c.parts.kind) (left_arm g p r c.parts.head c.quants) h in from-arms c.quants (outer-join-is c.parts.kind a.0) refl a.1),
    λ m. and_from (is_outer_join c.parts.kind) (left_arm g p r c.parts.head c.quants) (ap is_outer_join m.kind)
        (ap (left_arm g p r c.parts.head) m.two
        ∙ and_from (is_input g m.s) (reads_only (λ k. is_column_of m.s.id (cell_at k c.parts.head)) r.id p && is_small_below g p r.id c.parts.head m.s) (input-to g m.s m.n m.input)
        (and_from (reads_only (λ k. is_column_of m.s.id (cell_at k c.parts.head)) r.id p) (is_small_below g p r.id c.parts.head m.s)
        ((reads-only-is c (λ k. is_column_of m.s.id (cell_at k c.parts.head)) r.id p).1 (λ k l. ap (is_column_of m.s.id) (m.lefts k l).1 ∙ eq-eqb m.s.id m.s.id refl))
        (ap (in_box (λ (n : Node). is_small_through r.id c.parts.head m.s.id n.parts.head p)) m.input.under ∙ m.small))),
  )

pub push_into_left_exact : (g : QueryGraph) (b i j : ℕ) → EachOnce (numbers g.boxes) → WellFormed g → In (i, j) (push_into_left_pairs g b) ↔ MayPushIntoLeft (record { at = b; i = i; j = j }) g
unfolding push_into_left_pairs MayPushIntoLeft
push_into_left_exact g b i j once w = push-exact g w (left_passes g) (IsOuterJoinUnder g) (λ p r c h. is-so g p r c) b i j

pub push_into_left_ascending : (g : QueryGraph) (b : ℕ) → Ascending (push_into_left_pairs g b)
unfolding push_into_left_pairs
push_into_left_ascending g b = picks_ascending (leaves (left_passes g) g (box_of b g)) 1 (conds_in (box_of b g))

-- at one of its places it may fire
pub push_into_left_given : (g : QueryGraph) → WellFormed g → (at : Place) → In (at.i, at.j) (push_into_left_pairs g at.at) → MayPush (IsOuterJoinUnder g) at g
unfolding push_into_left_pairs
push_into_left_given g w at h = (push-exact g w (left_passes g) (IsOuterJoinUnder g) (λ p r c h. is-so g p r c) at.at at.i at.j).0 h
