-- Right rows of an outer join: those that an equality rejects are no partners.
use Rattle.std.proofs.Common.{ℕ, ◌≡◌, ◌≤◌, List, [], Option, Some, None, ◌∙◌, ap, sym, subst, take, true}
use Rattle.std.specs.Borrow.{Bor}
use Rattle.std.specs.Option.{option_copied}
use Rattle.std.specs.Prelude.{IfSome}
use Rattle.list_laws.specs.Lists.{In}
use Rattle.row_bag.specs.Bags.{Alike, bind, keep, unit}
use Rattle.row_bag.proofs.Agreement.{alike-keep_no, alike-same, alike-trans}
use Rattle.row_bag.proofs.Binds.{keep-yes}
use Rattle.sql_value.specs.declared.cell.Cell.{Cell}
use Rattle.sql_value.specs.declared.level.Level.{Level}
use Rattle.sql_value.specs.declared.level.Level.TheVariants.{No, Yes}
use Rattle.sql_value.specs.declared.truth.Truth.{Truth}
use Rattle.qgm_core.specs.declared.node.Node.{Node}
use Rattle.qgm_meaning.specs.Meaning.{given, nothing}
use Rattle.qgm_meaning.specs.Values.{Bag, Environment, all_true, bound, head_cells, truth}
use Rattle.qgm_terms.specs.Terms.{Cond}
use Rattle.box_exec.specs.Early.{is_none}
use Rattle.box_exec.specs.Equalities.{IsKey, other_of, own_of}
use Rattle.box_exec.specs.Lookup.{Leads, RejectsBy}
use Rattle.box_exec.specs.Outer.{rejects_on}
use Rattle.box_exec.specs.Sources.{held_by}
use Rattle.box_exec.specs.declared.key.Key.{Key}
use Rattle.row_index.specs.Ways.{StandsFrom, place}
use Rattle.row_index.specs.declared.ways.Cursor.{Cursor}
use Rattle.row_index.specs.declared.ways.Way.{Way}
use Rattle.qgm_terms.specs.Shown as shown
use Rattle.box_exec.proofs.Equalities.{apart-none}
use Rattle.box_exec.proofs.Lookups.{ended, stepped}
use Rattle.box_exec.proofs.Rejections.{all-no, none-no}

-- one of the conditions is the key's
pub on-rejects : (n : Node) (c : Cond) (q : ℕ) (key : Key) → In c n.parts.conds.items → IsKey q c key → RejectsBy (rejects_on n) q key
on-rejects n c q key stands is cells env own other apart =
    let no : (truth (held_by []) c (bound q cells env)).t ≡ No = ap (λ (x : Truth). x.t) (is (held_by []) cells env) ∙ none-no _ (apart-none key.by (own_of q (shown.term key.own.now) cells) (other_of (shown.term key.other.now) env) own other apart) in
    ap is_none (all-no (held_by []) (bound q cells env) c n.parts.conds.items stands no)

no-partner : (n : Node) (env : Environment) → rejects_on n env ≡ true → Alike (given nothing n env) []
no-partner n env h =
    alike-trans (alike-same (ap (λ (l : Level). keep l (unit (head_cells nothing n.parts.head env))) (none-no (all_true nothing n.parts.conds.items env).t h)))
    (alike-keep_no (unit (head_cells nothing n.parts.head env)))

at-yes : (made rows : Bag) → Alike made rows → Alike made (keep Yes rows)
at-yes made rows h = alike-trans h (alike-same (sym (keep-yes rows)))

of-yes : (made rows : Bag) → Alike made (keep Yes rows) → Alike made rows
of-yes made rows h = alike-trans h (alike-same (keep-yes rows))

module _ (n : Node) (q : ℕ) (rows : Bag) (env : Environment) (w : Way) (leads : Leads (rejects_on n) q rows env w) where
  abbrev partner : List Cell → Bag
  partner cells = given nothing n (bound q cells env)

  -- places that a way passes over
  pub partners-stepped : (made : Bag) (from : ℕ) (c : Cursor) → from ≤ w.end → StandsFrom w from c → Alike made (bind (take from rows) partner) → Alike made (bind (take (place c) rows) partner)
  partners-stepped made from c le s h =
      of-yes made (bind (take (place c) rows) partner)
      (stepped (rejects_on n) q rows env w leads partner (λ cells no. no-partner n (bound q cells env) no) Yes [] made from c le s (at-yes made (bind (take from rows) partner) h))

  -- and none are past its end
  pub partners-ended : (made : Bag) (i : ℕ) → w.end ≤ i → Alike made (bind (take i rows) partner) → Alike made (bind rows partner)
  partners-ended made i over h =
      of-yes made (bind rows partner)
      (ended (rejects_on n) q rows env w leads partner (λ cells no. no-partner n (bound q cells env) no) Yes [] made i over (at-yes made (bind (take i rows) partner) h))

-- what is said of a value is said of a reference to it
pub if-borrowed : {X : Type 0} (P : X → Type 0) (o : Option (Bor X)) (p : Option X) → option_copied o ≡ p → IfSome p P → IfSome o (λ x. P x.now)
if-borrowed P None p e h = tt
if-borrowed P (Some x) p e h = subst (λ (p : Option _). IfSome p P) (sym e) h
