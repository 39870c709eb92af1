-- A plain select of another distinctness may stand in the place of it.
use Rattle.std.proofs.Common.{ℕ, ◌≡◌, true, false, List, map, None, Some, refl, sym, ap, subst, ◌∙◌}
use Rattle.std.proofs.lemmas.Bool.{and_from, and_parts}
use Rattle.std.specs.Prelude.{ℕ, ◌≡◌, true, false, List, map, None}
use Rattle.row_bag.specs.declared.tables.Table.{Table}
use Rattle.qgm_core.specs.Boxes.{QueryGraph, is_box, numbers, box_of}
use Rattle.qgm_core.specs.Edits.{on_boxes, set_distinct, with_distinct}
use Rattle.qgm_core.specs.Kinds.{is_F_or_S, is_enforce, is_permit}
use Rattle.list_laws.specs.Lists.{EachOnce, In, change}
use Rattle.qgm_core.specs.declared.kinds.BoxKind.TheVariants.{Select}
use Rattle.qgm_core.specs.declared.kinds.Distinct.{Distinct}
use Rattle.qgm_core.specs.declared.node.Node.{Node}
use Rattle.qgm_core.specs.declared.owned.OwnedQuant.{OwnedQuant}
use Rattle.qgm_core.specs.declared.kinds.Role.TheVariants.{Plain}
use Rattle.qgm_wellformed.specs.Shapes.{is_unfolded, kind_fits, role_fits, shape_fits}
use Rattle.qgm_wellformed.specs.WellFormed.{fault}
use Rattle.qgm_meaning.specs.Meaning.{Family, given_by, once_if, over_each, quant_rows, rows_by, rows_of}
use Rattle.qgm_meaning.specs.Scope.{loose, loose_by, loose_of, quant_looks}
use Rattle.qgm_meaning.specs.Values.{Bag, Environment}
use Rattle.qgm_edit_laws.specs.Adds.{at}
use Rattle.qgm_edit_laws.specs.Graph.{Sound}
use Rattle.qgm_edit_laws.specs.Shaped.{Shaped, Typed}
use Rattle.qgm_edit_laws.proofs.BoxForms.{counted-seen, scalar-column}
use Rattle.qgm_edit_laws.proofs.Edits.{once-each}
use Rattle.qgm_edit_laws.proofs.OneBox.{change-at}
use Rattle.qgm_edit_laws.proofs.ShapeParts.{shape-from, shape-parts}
use Rattle.qgm_edit_laws.specs.PutsBox.{PutsBox}
use Rattle.qgm_edit_laws.proofs.MovedLast.{each-walk}
use Rattle.qgm_edit_laws.proofs.CheckedParts.{sound}
use Rattle.rule_api.specs.Rules.{Preserves}
use Rattle.rule_api.specs.declared.place.Place.{Place}
use Rattle.rule_facts.proofs.FactsThere.{here-at}
use Rattle.rule_distinct.specs.PlainAt.{PlainAt}

-- a plain select
pub record PlainSelect (bs : List Node) (o : Node) : Type 0 where
  pub within : In o bs
  pub select : o.parts.kind ≡ Select
  pub plain : o.parts.role ≡ Plain

-- ---- the box

module _ (bs : List Node) (root : ℕ) (w : Sound bs root) (ty : Typed bs) (sh : Shaped bs root) (o : Node) (p : PlainSelect bs o) (d : Distinct)
    (permit : is_permit d ≡ true → (o.id ≡ root → ⊥) × ((y : Node) (r : OwnedQuant) → In y bs → In r y.quants → r.over ≡ o.id → is_F_or_S r.kind ≡ false)) where
  shape-d : shape_fits root bs (with_distinct d o) ≡ true
  shape-d =
      let s = shape-parts root bs o (sh.shapes o p.within) in
      let a = and_parts (is_unfolded o) (role_fits root bs o o.parts.role) (subst (λ k. kind_fits root bs o k ≡ true) p.select s.kind) in
      shape-from root bs (with_distinct d o) (record {
        kind = subst (λ k. kind_fits root bs (with_distinct d o) k ≡ true) (sym p.select) (and_from (is_unfolded o) (role_fits root bs (with_distinct d o) o.parts.role) a.0 (subst (λ k. role_fits root bs (with_distinct d o) k ≡ true) (sym p.plain) refl));
        nodes = s.nodes;
        placed = s.placed;
        scalar = s.scalar;
      })

  looks-d : (q : ℕ) → loose_of (with_distinct d o) (loose bs) q ≡ loose_of o (loose bs) q
  looks-d q =
      ap (λ k. loose_by k (with_distinct d o) (loose bs) q) p.select
      ∙ each-walk (λ x. quant_looks o (loose bs) x q) q (with_distinct d o) (loose bs) (λ x. refl) o.quants
      ∙ sym (each-walk (λ x. quant_looks o (loose bs) x q) q o (loose bs) (λ x. refl) o.quants)
      ∙ sym (ap (λ k. loose_by k o (loose bs) q) p.select)

  pub puts : PutsBox bs root o (with_distinct d)
  puts = record {
    within = p.within;
    id = λ y. refl;
    select = p.select;
    ids = λ q. refl;
    overs = λ b. refl;
    was = λ r j. (r, (j, (refl, refl)));
    looks = looks-d;
    wide = refl;
    stay = refl;
    magic = refl;
    types = ty o p.within;
    columns = sh.columns o p.within;
    shape = shape-d;
    scalars = λ z r j t k v. scalar-column bs root ty sh o z r p.within j t k v;
    unseen = λ z r j t k v. counted-seen bs root ty sh o z r p.within j t k v;
    permit = permit;
  }

-- its rows, with DISTINCT or without
module _ (tables : List Table) (F : Family) (o : Node) (select : o.parts.kind ≡ Select) (e : Environment) where
  abbrev pub raw : Bag
  raw = over_each o.quants (quant_rows o F) (given_by (quant_rows o F) o) e

  pub rows-of : (d : Distinct) → rows_of tables (with_distinct d o) F e ≡ once_if (is_enforce d) raw
  rows-of d = ap (λ k. rows_by k tables (with_distinct d o) (quant_rows o F) e) select

  pub rows-own : rows_of tables o F e ≡ once_if (is_enforce o.parts.distinct) raw
  rows-own = ap (λ k. rows_by k tables o (quant_rows o F) e) select

module _ (g : QueryGraph) (u : EachOnce (numbers g.boxes)) (k : fault g ≡ None) (o : Node) (p : PlainSelect g.boxes o) where
  abbrev bs : List Node
  bs = g.boxes

  w : Sound bs g.root
  w = sound g u k

  pub set-is : (d : Distinct) → change (is_box o.id) (with_distinct d) bs ≡ map (at o.id (with_distinct d)) bs
  set-is d = change-at o.id (with_distinct d) bs (once-each bs w.ordered)

  pub set-back : (d : Distinct) → Preserves g (on_boxes (map (at o.id (with_distinct d))) g) → Preserves g (set_distinct o.id d g)
  set-back d h = subst (λ z. Preserves g (record g { boxes = z })) (sym (set-is d)) h

-- a plain select of a place
pub plain-of : (g : QueryGraph) → EachOnce (numbers g.boxes) → fault g ≡ None → (p : Place) (b : Node) → PlainAt p g b → PlainSelect g.boxes b
plain-of g u f p b m = record { within = here-at g u f b p.at m.at; select = m.select; plain = m.plain }

-- the box of a place is one
pub same-place : (g : QueryGraph) (n : ℕ) (a b : Node) → box_of n g ≡ Some a → box_of n g ≡ Some b → a ≡ b
same-place g n a b h k = let e : Some a ≡ Some b = sym h ∙ k in cc
