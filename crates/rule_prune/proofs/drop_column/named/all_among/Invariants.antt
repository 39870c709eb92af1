use Rattle.std.proofs.Common.{ℕ, ◌≡◌, ◌≤◌, true}
use Rattle.list_laws.specs.Lists.{holds}
use Rattle.rule_prune.specs.DropColumn.{may_lose}
use Rattle.rule_prune.proofs.drop_column.named.all_among.Given as goal

-- those so far are among them
abbrev pub invariant-loop-k : goal.invariant-loop-k
invariant-loop-k l = (j : ℕ) → 1 ≤ j → j ≤ l.k → may_lose l.node j ≡ true → holds j l.named ≡ true
