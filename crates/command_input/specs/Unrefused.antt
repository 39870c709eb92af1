-- `gen` asks a valid question, whatever its numbers are.
use Rattle.std.specs.Prelude.{ℕ, ◌≡◌, Ok}
use Rattle.command_input.specs.Generated.{generated}
use Rattle.command_input.specs.Questions.{Question}

abbrev pub NoneRefused : Type 0
NoneRefused = (seed rows : ℕ) → (q : Question) × (generated seed rows ≡ Ok q)
