use Rattle.std.proofs.Common.{◌≡◌, drop}
use Rattle.std.specs.List.{list_all, list_any}
use Rattle.qgm_core.specs.Boxes.{is_quant}
use Rattle.qgm_terms.specs.declared.named.Column.{Column}
use Rattle.rule_feed.proofs.feed.split.are_of.Given as goal

-- what is left decides
abbrev pub invariant-loop-x : goal.invariant-loop-x
invariant-loop-x l = list_all (λ (x : Column). list_any (is_quant x.quant) l.list) (drop l.x-index l.columns) ≡ list_all (λ (x : Column). list_any (is_quant x.quant) l.list) l.columns
