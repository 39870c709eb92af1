-- The places of L1 are exactly those where it may fire.
use Rattle.std.proofs.Common.{ℕ, ◌==◌, ◌≡◌, ◌&&◌, ◌||◌, cond, Bool, true, false, List, [], ◌∷◌, refl, sym, ap, subst, ◌∙◌}
use Rattle.std.specs.Prelude.{◌↔◌}
use Rattle.std.specs.List.{list_all}
use Rattle.std.proofs.lemmas.Bool.{and_from, and_parts}
use mathlib.Core.Path.{fun_ext}
use Rattle.qgm_core.specs.Boxes.{Ordered, QueryGraph, has_box, is_box, numbers, width}
use Rattle.qgm_core.specs.Edits.{set_distinct, with_distinct}
use Rattle.qgm_core.specs.Kinds.{is_enforce}
use Rattle.list_laws.specs.Lists.{EachOnce, In, change}
use Rattle.qgm_core.specs.declared.kinds.Distinct.{Distinct}
use Rattle.qgm_core.specs.declared.kinds.Distinct.TheVariants.{Preserve}
use Rattle.qgm_core.specs.declared.node.Node.{Node}
use Rattle.qgm_core.specs.declared.owned.OwnedQuant.{OwnedQuant}
use Rattle.qgm_wellformed.specs.Sentences.{WellFormed}
use Rattle.qgm_wellformed.proofs.Faults.{finds-none}
use Rattle.qgm_props.specs.InferredKeys.{places_to}
use Rattle.qgm_edit_laws.proofs.CheckedParts.{sound}
use Rattle.rule_api.specs.Rules.{Ascending}
use Rattle.rule_api.specs.declared.place.Place.{Place}
use Rattle.rule_facts.specs.Told.{infers_key, told-key}
use Rattle.rule_facts.specs.Places.{is_plain_select, box-from, box-to, plain-from, plain-to, ArePlaces, boxes-ascend}
use Rattle.rule_distinct.specs.DropKeyDistinct.{MayDropKeyDistinct, may_drop_key_distinct, drop_key_distinct_pairs}
use Rattle.qgm_core.proofs.KindTests.{enforce-is}

abbrev place : ℕ → ℕ → ℕ → Place
place b i j = record { at = b; i = i; j = j }

has-same : (b : ℕ) (d : Distinct) (ns : List Node) (x : ℕ) → has_box (change (is_box b) (with_distinct d) ns) x ≡ has_box ns x
has-same b d [] x = refl
has-same b d (n ∷ ns) x = elim (n.id == b) as (λ t. has_box (cond t (with_distinct d n ∷ ns) (n ∷ change (is_box b) (with_distinct d) ns)) x ≡ has_box (n ∷ ns) x) [ true ↦ refl | false ↦ ap (λ t. (n.id == x) || t) (has-same b d ns x) ]

ordered-same : (b : ℕ) (d : Distinct) (ns : List Node) → Ordered ns → Ordered (change (is_box b) (with_distinct d) ns)
ordered-same b d [] o = tt
ordered-same b d (n ∷ ns) o = elim (n.id == b) as (λ t. Ordered (cond t (with_distinct d n ∷ ns) (n ∷ change (is_box b) (with_distinct d) ns))) [
  | true ↦ o
  | false ↦ (has-same b d ns n.id ∙ o.0, subst (λ f. list_all (λ (r : OwnedQuant). f r.over) n.quants ≡ true) (sym (fun_ext (has-same b d ns))) o.1, ordered-same b d ns o.2)
]

-- the numbers of boxes are each once, so that an inferred key is one by ranks
pub drop-key-distinct-exact : (g : QueryGraph) → EachOnce (numbers g.boxes) → WellFormed g → (b i j : ℕ) → In (i, j) (drop_key_distinct_pairs g b) ↔ MayDropKeyDistinct (place b i j) g
unfolding drop_key_distinct_pairs MayDropKeyDistinct
drop-key-distinct-exact g u w b i j = (
  λ h.
      let x = box-from (may_drop_key_distinct g) g b i j h in
      let n = x.n in
      let key : Bool = infers_key (set_distinct n.id Preserve g).boxes n.id (places_to (width n)) in
      let a = and_parts (is_plain_select n) (is_enforce n.parts.distinct && key) x.passes in
      let c = and_parts (is_enforce n.parts.distinct) key a.1 in
      let k = plain-from n a.0 in (
        n,
        record {
          box = record { no_first = x.first; no_second = x.second; at = x.found; select = k.0; plain = k.1 };
          enforced = enforce-is n.parts.distinct c.0;
          key = (told-key (set_distinct n.id Preserve g).boxes (ordered n) n.id (places_to (width n))).0 c.1;
        },
      ),
  λ h.
      let n = h.0 in
      let m = h.1 in
      let key : Bool = infers_key (set_distinct n.id Preserve g).boxes n.id (places_to (width n)) in
      box-to (may_drop_key_distinct g) g b i j n m.box.no_first m.box.no_second m.box.at
      (and_from (is_plain_select n) (is_enforce n.parts.distinct && key) (plain-to n m.box.select m.box.plain)
      (and_from (is_enforce n.parts.distinct) key (ap is_enforce m.enforced)
      ((told-key (set_distinct n.id Preserve g).boxes (ordered n) n.id (places_to (width n))).1 m.key))),
)
  where
    ordered : (n : Node) → Ordered (set_distinct n.id Preserve g).boxes
    ordered n = ordered-same n.id Preserve g.boxes (sound g u ((finds-none g u).1 w)).ordered

drop-key-distinct-ascend : (g : QueryGraph) (b : ℕ) → Ascending (drop_key_distinct_pairs g b)
unfolding drop_key_distinct_pairs
drop-key-distinct-ascend g b = boxes-ascend (may_drop_key_distinct g) g b

-- in order, exactly the places where it may fire
pub drop-key-distinct-places : ArePlaces drop_key_distinct_pairs MayDropKeyDistinct
drop-key-distinct-places g u w b = (drop-key-distinct-ascend g b, λ i j. drop-key-distinct-exact g u w b i j)

pub drop_key_distinct_exact : (g : QueryGraph) (b i j : ℕ) → EachOnce (numbers g.boxes) → WellFormed g → In (i, j) (drop_key_distinct_pairs g b) ↔ MayDropKeyDistinct (record { at = b; i = i; j = j }) g
drop_key_distinct_exact g b i j u w = drop-key-distinct-exact g u w b i j
