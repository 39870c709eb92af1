-- M1 at an ENFORCE select keeps that types agree.
use Rattle.std.proofs.Common.{◌≡◌, ◌&&◌, true, List, map, refl, ap₂, subst, ◌∙◌, ◌++◌}
use Rattle.std.specs.List.{list_all}
use Rattle.qgm_core.specs.Boxes.{QueryGraph}
use Rattle.qgm_core.specs.Edits.{compact, on_boxes, with_distinct}
use Rattle.qgm_core.specs.declared.kinds.Distinct.TheVariants.{Preserve}
use Rattle.qgm_core.specs.declared.node.Node.{Node}
use Rattle.qgm_core.specs.declared.owned.OwnedQuant.{OwnedQuant}
use Rattle.qgm_wellformed.specs.Types.{Lookup, arms_agree, cond_fits, is_known, lookup_of, term_type, types_agree, types_of}
use Rattle.qgm_wellformed.specs.declared.types.Typed.{Typed}
use Rattle.qgm_edit_laws.specs.Graph.{Sound}
use Rattle.rule_merge.specs.Merged.{merge_node, merged_in}
use Rattle.rule_merge.specs.MergesDistinct.{MergesDistinct}
use Rattle.rule_merge.specs.MergesPermit.{MergesAny}
use Rattle.qgm_edit_laws.specs.Shaped as shaped
use Rattle.rule_merge.proofs.MergeSelectOfDistinct.{any-of, by-all, loosened, merges, sound, without-map}
use Rattle.rule_merge.proofs.MergeSelectTyped.{merge-typed}
use Rattle.qgm_edit_laws.proofs.CondTypes.{lookup-map, tables-map}
use Rattle.list_laws.proofs.Membership.{in-map}

module _ (bs : List Node) (c : Node) where
  abbrev g : Node → Node
  g = loosened c.id

  tables : types_of (map g bs) ≡ types_of bs
  tables = tables-map g (by-all c.id (λ n. n.id) (λ y. refl)) (by-all c.id (λ n. n.parts.kind) (λ y. refl)) (by-all c.id (λ n. n.parts.head) (λ y. refl)) (by-all c.id (λ n. n.quants) (λ y. refl)) bs

  looks : lookup_of (map g bs) ≡ lookup_of bs
  looks = lookup-map g (by-all c.id (λ n. n.id) (λ y. refl)) (by-all c.id (λ n. n.parts.kind) (λ y. refl)) (by-all c.id (λ n. n.parts.head) (λ y. refl)) (by-all c.id (λ n. n.quants) (λ y. refl)) bs

  typed-loosened : shaped.Typed bs → shaped.Typed (map g bs)
  typed-loosened t n i =
      let x = in-map g n bs i in
      subst (λ (z : Node). types_agree (map g bs) z ≡ true) x.1.1 (
      ap₂ (λ (l : Lookup) (table : List Typed). list_all (λ x. is_known (term_type l x)) (g x.0).parts.head && (list_all (cond_fits l) (g x.0).parts.conds.items && arms_agree table (g x.0).parts.kind (g x.0).quants)) looks tables
      ∙ by-all c.id (λ n. types_agree bs n) (λ y. refl) x.0 ∙ t x.0 x.1.0)

pub merge-any-typed : (h : QueryGraph) → Sound h.boxes h.root → shaped.Typed h.boxes → (b c : Node) (us : List OwnedQuant) (rq : OwnedQuant) (vs : List OwnedQuant) → MergesAny h.boxes b c us rq vs → shaped.Typed (merged_in b c us rq vs h).boxes
merge-any-typed h w t b c us rq vs m =
    subst (λ z. shaped.Typed (compact (on_boxes (λ bs. map (merge_node b.id rq.id c (us ++ (c.quants ++ vs))) z) h)).boxes) (without-map c.id h.boxes w.ordered)
    (merge-typed (on_boxes (map (loosened c.id)) h) (sound h.boxes h.root w b c us rq vs m) (typed-loosened h.boxes c t) b (with_distinct Preserve c) us rq vs (merges h.boxes h.root w b c us rq vs m))

pub merge-distinct-typed : (h : QueryGraph) → Sound h.boxes h.root → shaped.Typed h.boxes → (b c : Node) (us : List OwnedQuant) (rq : OwnedQuant) (vs : List OwnedQuant) → MergesDistinct h.boxes b c us rq vs → shaped.Typed (merged_in b c us rq vs h).boxes
merge-distinct-typed h w t b c us rq vs m = merge-any-typed h w t b c us rq vs (any-of h.boxes b c us rq vs m)
