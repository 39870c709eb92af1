-- G2: the select, whose first quantifier is over the magic box.
use Rattle.std.proofs.Common.{◌≡◌, ℕ, ◌==◌, ◌||◌, cond, Bool, true, false, List, [], ◌∷◌, ◌++◌, length, refl, ap, sym, ◌∙◌}
use Rattle.std.specs.List.{list_any}
use mathlib.Core.Path.{fun_ext}
use Rattle.row_bag.specs.Bags.{Alike, bind, keep, unit}
use Rattle.row_bag.specs.Sets.{same_cells}
use Rattle.row_bag.specs.Tags.{led}
use Rattle.row_bag.specs.declared.tables.Table.{Table}
use Rattle.row_bag.proofs.Agreement.{alike-refl, alike-same, alike-trans}
use Rattle.row_bag.proofs.Binds.{bind-bind, keep-bind, unit-bind}
use Rattle.qgm_core.specs.Kinds.{is_F, is_enforce}
use Rattle.qgm_core.specs.declared.kinds.BoxKind.TheVariants.{Select}
use Rattle.qgm_core.specs.declared.node.Node.{Node}
use Rattle.qgm_core.specs.declared.owned.OwnedQuant.{OwnedQuant}
use Rattle.qgm_meaning.specs.Meaning.{Family, given_by, once_if, over_each, rows_by}
use Rattle.qgm_meaning.specs.Tags.{columns_from}
use Rattle.qgm_meaning.specs.Values.{Bag, Environment, all_true, bound, head_cells, row_of}
use Rattle.rule_magic.specs.Boxes.{absorbed_box}
use Rattle.rule_magic.specs.UnderTags.{AreTags, SelectsUnderTags}
use Rattle.qgm_meaning.proofs.LedSets.{Tuple}
use Rattle.rule_magic.proofs.TaggedRows.{distinct-under}
use Rattle.rule_magic.proofs.TaggedWidths.{bind-wide, head-append, other-row, own-row, whole-row}
use Rattle.row_bag.proofs.Counts.{agree-from_alike}

-- a level, and a tag put before
pub keep-lead : (l : _) (u h : Tuple) → keep l (unit (u ++ h)) ≡ bind (keep l (unit h)) (λ c. unit (u ++ c))
keep-lead l u h = ap (keep l) (sym (unit-bind h (λ c. unit (u ++ c)))) ∙ keep-bind l (unit h) (λ c. unit (u ++ c))

module _ (tables : List Table) (s : Family) (b w : ℕ) (a : OwnedQuant) (c : Node) where
  abbrev n : Node
  n = absorbed_box b a w c

  -- for each combination of the other rows, where a is bound to a row
  each-led : (u : Tuple) → length u ≡ w → (rs : List OwnedQuant) → list_any (λ r. r.id == a.id) rs ≡ false → (e : Environment) → row_of a.id e ≡ u
      → over_each rs s (given_by s n) e ≡ bind (over_each rs s (given_by s c) e) (λ x. unit (u ++ x))
  each-led u l [] apart e h =
      ap (λ (x : Tuple). keep (all_true (λ q. s q e) c.parts.conds.items e).t (unit x)) (head-append (λ q. s q e) (columns_from a.id 1 w) c.parts.head e
      ∙ ap (λ (x : Tuple). x ++ head_cells (λ q. s q e) c.parts.head e) (whole-row (λ q. s q e) a.id w e u h l))
      ∙ keep-lead (all_true (λ q. s q e) c.parts.conds.items e).t u (head_cells (λ q. s q e) c.parts.head e)
  each-led u l (r ∷ rs) apart e h =
      let other : (r.id == a.id) ≡ false = none-left (r.id == a.id) (list_any (λ r. r.id == a.id) rs) apart in
      let rest : list_any (λ r. r.id == a.id) rs ≡ false = none-right (r.id == a.id) (list_any (λ r. r.id == a.id) rs) apart in
      elim (is_F r.kind) as (λ t. ◌≡◌ {A = Bag}
      (cond t (bind (s r.id e) (λ cells. over_each rs s (given_by s n) (bound r.id cells e))) (over_each rs s (given_by s n) e))
      (bind (cond t (bind (s r.id e) (λ cells. over_each rs s (given_by s c) (bound r.id cells e))) (over_each rs s (given_by s c) e)) (λ x. unit (u ++ x)))) [
        | true ↦ ap (bind (s r.id e)) (fun_ext (λ cells. each-led u l rs rest (bound r.id cells e) (other-row a.id r.id cells e other ∙ h)))
            ∙ sym (bind-bind (s r.id e) (λ cells. over_each rs s (given_by s c) (bound r.id cells e)) (λ x. unit (u ++ x)))
        | false ↦ each-led u l rs rest e h
      ]
    where
      none-left : (x y : Bool) → (x || y) ≡ false → x ≡ false
      none-left true y h = absurd (let z : ⊥ = cc in z)
      none-left false y h = refl

      none-right : (x y : Bool) → (x || y) ≡ false → y ≡ false
      none-right true y h = absurd (let z : ⊥ = cc in z)
      none-right false y h = h

  select-led : (env : Environment) → is_F a.kind ≡ true → list_any (λ r. r.id == a.id) c.quants ≡ false → AreTags w (s a.id env)
      → Alike (rows_by Select tables n s env) (led (s a.id env) (λ u. rows_by Select tables c s (bound a.id u env)))
  select-led env f apart are =
      let plain : over_each (a ∷ c.quants) s (given_by s n) env ≡ led (s a.id env) (λ u. over_each c.quants s (given_by s c) (bound a.id u env)) =
      ap (λ t. cond t (bind (s a.id env) (λ cells. over_each c.quants s (given_by s n) (bound a.id cells env))) (over_each c.quants s (given_by s n) env)) f
      ∙ bind-wide w (s a.id env) (λ cells. over_each c.quants s (given_by s n) (bound a.id cells env)) (λ u. bind (over_each c.quants s (given_by s c) (bound a.id u env)) (λ x. unit (u ++ x))) are.wide
      (λ u l. each-led u l c.quants apart (bound a.id u env) (own-row a.id u env)) in
      alike-trans (alike-same (ap (once_if (is_enforce c.parts.distinct)) plain)) (once (is_enforce c.parts.distinct))
    where
      once : (t : Bool) → Alike (once_if t (led (s a.id env) (λ u. over_each c.quants s (given_by s c) (bound a.id u env)))) (led (s a.id env) (λ u. once_if t (over_each c.quants s (given_by s c) (bound a.id u env))))
      once true = distinct-under w (s a.id env) are (λ u. over_each c.quants s (given_by s c) (bound a.id u env))
      once false = alike-refl (led (s a.id env) (λ u. over_each c.quants s (given_by s c) (bound a.id u env)))

pub selects-tags : SelectsUnderTags
selects-tags = λ tables s b w a c env f apart are. agree-from_alike same_cells (select-led tables s b w a c env f apart are)
