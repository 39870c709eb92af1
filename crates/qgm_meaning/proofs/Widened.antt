-- Rows of a box have as many cells as the box has columns.
use Rattle.std.proofs.Common.{ℕ, zero, suc, ◌==◌, ◌≡◌, ◌+◌, ◌-◌, min, nat_eq, cond, Bool, true, false, List, [], ◌∷◌, ◌++◌, take, drop, length, Option, Some, None, refl, sym, ap, ap₂, subst, ◌∙◌, arith}
use Rattle.std.proofs.lemmas.List.{length-append, length-map, take-append-drop}
use Rattle.row_bag.specs.Bags.{bind, if_there, keep, row, unit}
use Rattle.row_bag.specs.Errors.{error_among, error_in}
use Rattle.row_bag.specs.Sets as sets
use Rattle.row_bag.specs.Sets.{copies, distinct, error_or_bag, failed_cells, level_in, multiplicity, of_group, once, same_cells}
use Rattle.row_bag.specs.declared.tables.Table.{Table}
use Rattle.sql_value.specs.declared.cell.Cell.{Cell}
use Rattle.sql_value.specs.declared.cell.Kind.{Kind}
use Rattle.sql_value.specs.declared.level.Level.{Level}
use Rattle.sql_value.specs.declared.level.Level.TheVariants.{No, Cardinality, Division, Overflow, Yes}
use Rattle.qgm_core.specs.declared.kinds.BoxKind.{BoxKind}
use Rattle.qgm_core.specs.declared.kinds.BoxKind.TheVariants.{Base, Select, Group, SetOp, OuterJoin}
use Rattle.qgm_core.specs.declared.kinds.SetOperator.{SetOperator}
use Rattle.qgm_core.specs.declared.kinds.SetOperator.TheVariants.{UnionAll, Union, IntersectAll, Intersect, ExceptAll, Except}
use Rattle.qgm_core.specs.declared.node.Node.{Node}
use Rattle.qgm_core.specs.declared.owned.OwnedQuant.{OwnedQuant}
use Rattle.list_laws.specs.Lists.{first}
use Rattle.qgm_core.specs.Kinds.{is_F, is_enforce}
use Rattle.qgm_core.specs.Boxes.{is_quant}
use Rattle.row_bag.specs.Joins.{how_many, or_else}
use Rattle.qgm_meaning.specs.Meaning.{Family, bag_in, combined, fold_cell, fold_cells, given, given_by, grouped_rows, groups, key_cells, nothing, of_one, of_two, once_if, outer_rows, over_each, quant_rows, rows_by, rows_found, rows_of}
use Rattle.qgm_terms.specs.Terms.{Term}
use Rattle.qgm_meaning.specs.Values.{Bag, Environment, bound, head_cells, value}
use Rattle.qgm_meaning.specs.Widths.{Arms, ArmsOf, Even, Filled, FilledBy, Wide, width_in}
use Rattle.qgm_core.specs.Boxes.{width}
use Rattle.qgm_core.specs.Kinds.{width_by}

wide-append : (w : ℕ) (xs ys : Bag) → Wide w xs → Wide w ys → Wide w (xs ++ ys)
wide-append w [] ys h k = k
wide-append w (x ∷ xs) ys h k = (h.0, wide-append w xs ys h.1 k)

wide-keep : (w : ℕ) (l : Level) (xs : Bag) → Wide w xs → Wide w (keep l xs)
wide-keep w l [] h = tt
wide-keep w l (x ∷ xs) h = (h.0, wide-keep w l xs h.1)

wide-bind : (v w : ℕ) (xs : Bag) (f : List Cell → Bag) → Wide v xs → ((c : List Cell) → length c ≡ v → Wide w (f c)) → Wide w (bind xs f)
wide-bind v w [] f h k = tt
wide-bind v w (x ∷ xs) f h k = wide-append w (keep x.level (f x.cells)) (bind xs f) (wide-keep w x.level (f x.cells) (k x.cells h.0)) (wide-bind v w xs f h.1 k)

-- of rows of any width
wide-bind_any : (w : ℕ) (xs : Bag) (f : List Cell → Bag) → ((c : List Cell) → Wide w (f c)) → Wide w (bind xs f)
wide-bind_any w [] f k = tt
wide-bind_any w (x ∷ xs) f k = wide-append w (keep x.level (f x.cells)) (bind xs f) (wide-keep w x.level (f x.cells) (k x.cells)) (wide-bind_any w xs f k)

wide-once : (w : ℕ) (xs : Bag) → Wide w xs → Wide w (once same_cells xs)
wide-once w [] h = tt
wide-once w (x ∷ xs) h = wide-append w (if_there [] (λ c l. cond (nat_eq (multiplicity same_cells c xs) 0) (unit c) []) x.cells x.level) (once same_cells xs) (at x.level) (wide-once w xs h.1)
  where
    one : (b : Bool) → Wide w (cond b (unit x.cells) [])
    one true = (h.0, tt)
    one false = tt

    at : (l : Level) → Wide w (if_there [] (λ c l. cond (nat_eq (multiplicity same_cells c xs) 0) (unit c) []) x.cells l)
    at No = tt
    at Cardinality = one (nat_eq (multiplicity same_cells x.cells xs) 0)
    at Division = one (nat_eq (multiplicity same_cells x.cells xs) 0)
    at Overflow = one (nat_eq (multiplicity same_cells x.cells xs) 0)
    at Yes = one (nat_eq (multiplicity same_cells x.cells xs) 0)

wide-copies : (w n : ℕ) (c : List Cell) → length c ≡ w → Wide w (copies n c)
wide-copies w zero c h = tt
wide-copies w (suc n) c h = (h, wide-copies w n c h)

wide-distinct : (w : ℕ) (xs : Bag) → Wide w xs → Wide w (distinct same_cells xs)
wide-distinct w xs h = wide-bind w w (once same_cells xs) (λ c. row c (level_in same_cells c xs) ∷ []) (wide-once w xs h) (λ c k. (k, tt))

failed-long : (w : ℕ) (k : Kind) → length (failed_cells w k) ≡ w
failed-long zero k = refl
failed-long (suc w) k = let h = failed-long w k in omega (arith, h)

wide-or_error : (w : ℕ) (o : Option Kind) (xs : Bag) → Wide w xs → Wide w (error_or_bag (failed_cells w) o xs)
wide-or_error w None xs h = h
wide-or_error w (Some k) xs h = (failed-long w k, tt)

wide-combined : (form : SetOperator) (w : ℕ) (xs ys : Bag) → Wide w xs → Wide w ys → Wide w (combined form w xs ys)
wide-combined UnionAll w xs ys h k = wide-append w xs ys h k
wide-combined Union w xs ys h k = wide-distinct w (xs ++ ys) (wide-append w xs ys h k)
wide-combined IntersectAll w xs ys h k =
    wide-or_error w (error_among error_in (xs ++ ys)) (sets.intersect_all same_cells xs ys)
    (wide-bind w w (once same_cells xs) (λ c. copies (min (multiplicity same_cells c xs) (multiplicity same_cells c ys)) c) (wide-once w xs h) (λ c e. wide-copies w (min (multiplicity same_cells c xs) (multiplicity same_cells c ys)) c e))
wide-combined Intersect w xs ys h k =
    wide-or_error w (error_among error_in (xs ++ ys)) (sets.intersect same_cells xs ys)
    (wide-bind w w (once same_cells xs) (λ c. copies (min 1 (multiplicity same_cells c ys)) c) (wide-once w xs h) (λ c e. wide-copies w (min 1 (multiplicity same_cells c ys)) c e))
wide-combined ExceptAll w xs ys h k =
    wide-or_error w (error_among error_in (xs ++ ys)) (sets.except_all same_cells xs ys)
    (wide-bind w w (once same_cells xs) (λ c. copies (multiplicity same_cells c xs - multiplicity same_cells c ys) c) (wide-once w xs h) (λ c e. wide-copies w (multiplicity same_cells c xs - multiplicity same_cells c ys) c e))
wide-combined Except w xs ys h k =
    wide-or_error w (error_among error_in (xs ++ ys)) (sets.except same_cells xs ys)
    (wide-bind w w (once same_cells xs) (λ c. copies (1 - multiplicity same_cells c ys) c) (wide-once w xs h) (λ c e. wide-copies w (1 - multiplicity same_cells c ys) c e))

head-long : (rows : ℕ → Bag) (head : List Term) (env : Environment) → length (head_cells rows head env) ≡ length head
head-long rows head env = length-map head (λ x. value rows x env)

wide-each : (w : ℕ) (rs : List OwnedQuant) (s : Family) (give : Environment → Bag) → ((env : Environment) → Wide w (give env)) → (env : Environment) → Wide w (over_each rs s give env)
wide-each w [] s give h env = h env
wide-each w (r ∷ rs) s give h env =
    elim (is_F r.kind) as (λ t. Wide w (cond t (bind (s r.id env) (λ cells. over_each rs s give (bound r.id cells env))) (over_each rs s give env))) [
      | true ↦ wide-bind_any w (s r.id env) (λ cells. over_each rs s give (bound r.id cells env)) (λ cells. wide-each w rs s give h (bound r.id cells env))
      | false ↦ wide-each w rs s give h env
    ]

wide-if : (w : ℕ) (once : Bool) (xs : Bag) → Wide w xs → Wide w (once_if once xs)
wide-if w true xs h = wide-distinct w xs h
wide-if w false xs h = h

wide-groups : (k : ℕ) (head : List Term) (q : ℕ) (env : Environment) (rows : Bag) → Wide (length head) (groups k head q env rows)
wide-groups zero head q env rows = (length-map head (fold_cell q env rows), tt)
wide-groups (suc k) head q env rows =
    wide-bind (length (take (suc k) head)) (length head) (once same_cells (bind rows (λ c. unit (key c)))) (λ c. unit (c ++ fold_cells (suc k) head q env (of_group same_cells key c rows)))
    (wide-once (length (take (suc k) head)) (bind rows (λ c. unit (key c))) (wide-bind_any (length (take (suc k) head)) rows (λ c. unit (key c)) (λ c. (head-long nothing (take (suc k) head) (bound q c env), tt))))
    (λ c h. (
      length-append c (fold_cells (suc k) head q env (of_group same_cells key c rows))
          ∙ ap₂ (λ (a b : ℕ). a + b) h (length-map (drop (suc k) head) (fold_cell q env (of_group same_cells key c rows)))
          ∙ sym (length-append (take (suc k) head) (drop (suc k) head)) ∙ ap (λ (xs : List Term). length xs) (take-append-drop (suc k) head),
      tt,
    ))
  where
    key : List Cell → List Cell
    key = key_cells (suc k) head q env

wide-one : (w : ℕ) (rs : List OwnedQuant) (f : ℕ → Bag) → ((q : ℕ) → Wide w (f q)) → Wide w (of_one rs f)
wide-one w [] f h = tt
wide-one w (r ∷ rs) f h = h r.id

wide-two : (w : ℕ) (rs : List OwnedQuant) (f : ℕ → ℕ → Bag) → ((p q : ℕ) → Wide w (f p q)) → Wide w (of_two rs f)
wide-two w [] f h = tt
wide-two w (r ∷ rs) f h = wide-one w rs (f r.id) (h r.id)

wide-else : (w : ℕ) (xs ys : Bag) → Wide w xs → Wide w ys → Wide w (or_else xs ys)
wide-else w xs ys h k = elim (nat_eq (how_many xs) 0) as (λ b. Wide w (cond b ys xs)) [ true ↦ k | false ↦ h ]

module _ (tables : List Table) where
  wide-found : (w : ℕ) (ns : List Node) (rs : List OwnedQuant) (q : ℕ) (env : Environment) → Arms w ns rs → ((b : ℕ) → Wide (width_in ns b) (bag_in tables ns b env)) → Wide w (rows_found (first (is_quant q) rs) (bag_in tables ns) env)
  wide-found w ns [] q env a h = tt
  wide-found w ns (r ∷ rs) q env a h = elim (r.id == q) as (λ t. Wide w (rows_found (cond t (Some r) (first (is_quant q) rs)) (bag_in tables ns) env)) [
    | true ↦ subst (λ (v : ℕ). Wide v (bag_in tables ns r.over env)) a.0 (h r.over)
    | false ↦ wide-found w ns rs q env a.1 h
  ]

  wide-rows : (kind : BoxKind) (n : Node) (ns : List Node) (env : Environment) → FilledBy kind tables → ArmsOf kind n ns → ((b : ℕ) → Wide (width_in ns b) (bag_in tables ns b env)) → Wide (width_by kind (length n.parts.head)) (rows_by kind tables n (quant_rows n (bag_in tables ns)) env)
  wide-rows (Base table) n ns env filled a h = filled
  wide-rows Select n ns env filled a h =
      wide-if (length n.parts.head) (is_enforce n.parts.distinct) (over_each n.quants s (given_by s n) env) (wide-each (length n.parts.head) n.quants s (given_by s n) (λ e. (head-long (λ q. s q e) n.parts.head e, tt)) env)
    where
      s : Family
      s = quant_rows n (bag_in tables ns)
  wide-rows (Group k) n ns env filled a h =
      wide-one (length n.parts.head) n.quants (λ q. grouped_rows k n.parts.head q env (quant_rows n (bag_in tables ns) q env))
      (λ q. wide-or_error (length n.parts.head) (error_among (λ cells. error_in (key_cells k n.parts.head q env cells)) (quant_rows n (bag_in tables ns) q env)) (groups k n.parts.head q env (quant_rows n (bag_in tables ns) q env)) (wide-groups k n.parts.head q env (quant_rows n (bag_in tables ns) q env)))
  wide-rows (SetOp form types) n ns env filled a h =
      wide-two (length types) n.quants (λ p q. combined form (length types) (quant_rows n (bag_in tables ns) p env) (quant_rows n (bag_in tables ns) q env))
      (λ p q. wide-combined form (length types) _ _ (wide-found (length types) ns n.quants p env a h) (wide-found (length types) ns n.quants q env a h))
  wide-rows OuterJoin n ns env filled a h =
      wide-two (length n.parts.head) n.quants (outer_rows n (quant_rows n (bag_in tables ns)) env)
      (λ p q. wide-bind_any (length n.parts.head) (quant_rows n (bag_in tables ns) p env) (λ c. or_else (bind (quant_rows n (bag_in tables ns) q env) (λ d. given nothing n (bound q d (bound p c env)))) (unit (head_cells nothing n.parts.head (bound q [] (bound p c env)))))
      (λ c. wide-else (length n.parts.head) (bind (quant_rows n (bag_in tables ns) q env) (λ d. given nothing n (bound q d (bound p c env)))) (unit (head_cells nothing n.parts.head (bound q [] (bound p c env))))
      (wide-bind_any (length n.parts.head) (quant_rows n (bag_in tables ns) q env) (λ d. given nothing n (bound q d (bound p c env))) (λ d. (head-long nothing n.parts.head (bound q d (bound p c env)), tt)))
      (head-long nothing n.parts.head (bound q [] (bound p c env)), tt)))

  pub wide-boxes : (ns : List Node) → Filled tables ns → Even ns → (b : ℕ) (env : Environment) → Wide (width_in ns b) (bag_in tables ns b env)
  wide-boxes [] f e b env = tt
  wide-boxes (n ∷ ns) f e b env = elim (n.id == b) as (λ t. Wide (cond t (width n) (width_in ns b)) (cond t (rows_of tables n (bag_in tables ns)) (bag_in tables ns b) env)) [
    | true ↦ wide-rows n.parts.kind n ns env f.0 e.0 (λ b. wide-boxes ns f.1 e.1 b env)
    | false ↦ wide-boxes ns f.1 e.1 b env
  ]
