-- Types of the columns of a box, and of those of a quantifier over it.
use Rattle.std.proofs.Common.{ℕ, suc, ◌≡◌, true, List, [], ◌∷◌, map, refl, sym, ap, ◌∙◌}
use Rattle.std.specs.List.{list_all}
use Rattle.std.proofs.lemmas.Bool.{and_parts}
use Rattle.sql_value.specs.declared.order_key.SqlType.{SqlType}
use Rattle.qgm_core.specs.Boxes.{width}
use Rattle.list_laws.specs.Lists.{In}
use Rattle.qgm_core.specs.declared.kinds.BoxKind.{BoxKind}
use Rattle.qgm_core.specs.declared.kinds.BoxKind.TheVariants.{Base, Group, OuterJoin, Select, SetOp}
use Rattle.qgm_core.specs.declared.node.Node.{Node}
use Rattle.qgm_core.specs.declared.owned.OwnedQuant.{OwnedQuant}
use Rattle.qgm_wellformed.specs.Types.{is_known, lookup_of, term_type, types_by}
use Rattle.qgm_wellformed.specs.Types as types
use Rattle.qgm_edit_laws.specs.Graph.{Sound}
use Rattle.qgm_edit_laws.specs.Reforms.{types_at}
use Rattle.qgm_edit_laws.specs.Shaped.{Typed}
use Rattle.qgm_edit_laws.proofs.Follow.{settled-types}
use Rattle.qgm_edit_laws.proofs.Reformed.{wide-types}
use Rattle.qgm_edit_laws.proofs.TypedKept.{found-under}
use Rattle.qgm_edit_laws.proofs.TypesBy.{agrees-as, found_by, looked}
use Rattle.qgm_meaning.specs.Tags.{columns_from}
use Rattle.rule_magic.proofs.AbsorbSelectFormed.{columns-types, found-suc}
use Rattle.rule_magic.proofs.PairFormed.{known-map}

module _ (bs : List Node) (root : ℕ) (w : Sound bs root) where
  -- all columns of a quantifier have the types of the box under it
  pub types-under : (o n : Node) (q : OwnedQuant) → In o bs → In q o.quants → In n bs → n.id ≡ q.over → map (term_type (lookup_of bs)) (columns_from q.id 1 (width n)) ≡ types_at bs n.id
  types-under o n q io iq i e =
      ap (λ z. map (term_type (lookup_of bs)) (columns_from q.id 1 z)) (sym (wide-types bs root w n i))
      ∙ columns-types (lookup_of bs) q.id [] (types_at bs n.id) (λ j. looked bs q.id (suc j) ∙ ap (found_by (types_at bs) (suc j)) (found-under bs root w q.id (record { owner = o; quant = q; box = n; owner_in = io; quant_in = iq; is_q = refl; box_in = i; is_over = e })) ∙ found-suc (types_at bs) j n)

  -- all columns of a box have types
  pub types-known : Typed bs → (n : Node) → In n bs → list_all is_known (types_at bs n.id) ≡ true
  types-known ty n i = ap (list_all is_known) (settled-types bs root w n i) ∙ by n.parts.kind
    where
      known-each : (ts : List SqlType) → list_all is_known (types.known ts) ≡ true
      known-each [] = refl
      known-each (t ∷ ts) = known-each ts

      heads : list_all is_known (map (term_type (lookup_of bs)) n.parts.head) ≡ true
      heads = sym (known-map (lookup_of bs) n.parts.head) ∙ (and_parts (list_all (λ y. is_known (term_type (lookup_of bs) y)) n.parts.head) _ (sym (agrees-as bs n) ∙ ty n i)).0

      by : (k : BoxKind) → list_all is_known (types_by (lookup_of bs) k n.parts.head) ≡ true
      by (Base table) = known-each table.types
      by Select = heads
      by (Group keys) = heads
      by (SetOp form types) = known-each types
      by OuterJoin = heads
