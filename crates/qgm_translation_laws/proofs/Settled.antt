-- What a box has of columns from some step on it has after as many steps as there are boxes.
use Rattle.std.proofs.Common.{◌≤◌, ℕ, ◌+◌, List, length, sym, ◌∙◌, arith}
use Rattle.sql_value.specs.declared.order_key.SqlType.{SqlType}
use Rattle.qgm_core.specs.Boxes.{Ordered, ids_in}
use Rattle.list_laws.specs.Lists.{times}
use Rattle.qgm_core.specs.declared.node.Node.{Node}
use Rattle.qgm_edit_laws.proofs.Settled.{settled-soon, stays}
use Rattle.qgm_translation_laws.proofs.Levels as levels

module _ (bs : List Node) (ordered : Ordered bs) (once : (q : ℕ) → times q (ids_in bs) ≤ 1) where
  pub over-soon : (e b : ℕ) (types : List SqlType) → levels.Over bs ordered once e b types → levels.Over bs ordered once (length bs) b types
  over-soon e b types h =
      let s = settled-soon bs ordered once e b h.0 in
      (s, λ j u. stays bs ordered once (length bs) b j s u ∙ sym (stays bs ordered once (length bs) b (j + e) s (omega arith)) ∙ h.1 (j + e) (omega arith))
