use Rattle.std.proofs.Common.{◌≡◌, ◌==◌, [], length}
use denote.Text.{Utf8}
use denote.Shadow.{shadow}
use Rattle.std.specs.List.{slice_split}
use Rattle.command_line.specs.Classes.{classes_with}
use Rattle.command_line.proofs.classes.classes_listed.Given as goal

abbrev pub invariant-loop-name : goal.invariant-loop-name
invariant-loop-name l = shadow (Utf8 l.rest) × (classes_with [] (slice_split (λ b. b == 44) l.fn.text) ≡ classes_with l.classes (slice_split (λ b. b == 44) l.rest))

abbrev pub decreases-loop-name : goal.decreases-loop-name
decreases-loop-name l = length l.rest
