-- What a text with a comma, and one with none, name.
use Rattle.std.proofs.Common.{◌≡◌, ◌==◌, ℕ, List, refl, false, Option, Some, None, lit<}
use Rattle.std.specs.Prelude.{option_and_then}
use Rattle.std.specs.Borrow.{Bor}
use Rattle.std.specs.List.{All, slice_split}
use Rattle.std.proofs.lemmas.Bool.{ne_eqb}
use Rattle.std.proofs.lemmas.List.Elements.{All-from_get_or}
use Rattle.std.proofs.lemmas.List.Splits.{slice_split_first, slice_split_none}
use Rattle.std.proofs.lemmas.Str.Pattern.{IsSplitOnceResult, split_once_first, split_parts}
use Rattle.rule_plan.specs.declared.classes.Class.{Class}
use Rattle.command_line.specs.Classes.{classes_with, with_class}

one : (o : Option (List Class)) → option_and_then (λ more. Some more) o ≡ o
one None = refl
one (Some x) = refl

pub last_name : (classes : List Class) (bs : List ℕ) (r : Option (Bor (List ℕ) × Bor (List ℕ))) → IsSplitOnceResult 44 bs r → r ≡ None
    → classes_with classes (slice_split (λ b. b == 44) bs) ≡ with_class classes bs
last_name classes bs None h is =
    let lacks = split_parts 44 bs None h (lit< tt) in
    let none : All (λ b. (b == 44) ≡ false) bs = All-from_get_or (λ b. (b == 44) ≡ false) bs 0 (λ i lt. ne_eqb _ _ (lacks i lt)) in
    rw (slice_split_none (λ b. b == 44) bs none) (one (with_class classes bs))
last_name classes bs (Some x) h is = cc

pub next_name : (classes : List Class) (bs : List ℕ) (r : Option (Bor (List ℕ) × Bor (List ℕ))) (x : Bor (List ℕ) × Bor (List ℕ)) → IsSplitOnceResult 44 bs r → r ≡ Some x
    → classes_with classes (slice_split (λ b. b == 44) bs)
    ≡ option_and_then (λ more. classes_with more (slice_split (λ b. b == 44) x.1.now)) (with_class classes x.0.now)
next_name classes bs None x h is = cc
next_name classes bs (Some y) x h is =
    let cut = split_once_first 44 bs (Some y) h (lit< tt) in
    let same : y ≡ x = cc in
    rw (← same, slice_split_first (λ b. b == 44) bs 0 cut.0, cut.1, cut.2) refl
