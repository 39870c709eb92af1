-- What the outcome of reading says of the trees that spell the tokens.
use Rattle.std.proofs.Common.{◌≡◌, Option, Some, Result, Ok, Err, sym, ◌∙◌}
use Rattle.std.specs.Prelude.{IfOk, IsErrOf}
use Rattle.sql_parser.specs.declared.refusal.ParseRefusal.{ParseRefusal}
use Rattle.sql_parser.specs.declared.refusal.ParseRefusal.TheVariants.{OverLimit, Syntax, Memory}
use Rattle.sql_parser.specs.Words.{Gives}
use Rattle.sql_parser.proofs.Steps.{some_inj, none_some}

-- where `read` is the tree for which `Spells` holds
module _ {X Y : Type 0} (seen : X → Y) (Spells : Y → Type 0) (read : Option Y) where
  pub found_of : ((y : Y) → read ≡ Some y → Spells y) → (r : Result X ParseRefusal) → Gives seen r read → IfOk r (λ x. Spells (seen x))
  found_of sound (Ok x) h = sound (seen x) h
  found_of sound (Err e) h = tt

  pub only_of : ((y : Y) → Spells y → read ≡ Some y) → (r : Result X ParseRefusal) → Gives seen r read → IfOk r (λ x. (other : Y) → Spells other → other ≡ seen x)
  only_of complete (Ok x) h = λ other spells. some_inj other (seen x) (sym (complete other spells) ∙ h)
  only_of complete (Err e) h = tt

  pub none_of : ((y : Y) → Spells y → read ≡ Some y) → (r : Result X ParseRefusal) → Gives seen r read → IsErrOf r Syntax → (y : Y) → Spells y → ⊥
  none_of complete (Ok x) h e = λ y spells. cc
  none_of complete (Err Syntax) h e = λ y spells. none_some y (sym h ∙ complete y spells)
  none_of complete (Err Memory) h e = λ y spells. cc
  none_of complete (Err OverLimit) h e = λ y spells. h
