-- States, where a row more is taken.
use Rattle.std.proofs.Common.{◌≡◌, ◌⊎◌, ℕ, ◌+◌, true, false, [], ◌∷◌, ◌++◌, Option, refl, sym, ap, ap₂, ◌∙◌, subst, inl, inr}
use Rattle.row_bag.specs.Aggregates.{folded, unless_null}
use Rattle.row_bag.specs.Arguments.{IsTotalOf}
use Rattle.row_bag.specs.Bags.{row, unit}
use Rattle.row_bag.specs.Errors.{error_among, error_at}
use Rattle.row_bag.specs.Verdict.{those_there}
use Rattle.row_bag.proofs.Answered.{alike-there}
use Rattle.row_bag.proofs.FoldLaws.{folded-alike}
use Rattle.sql_value.specs.Arithmetic.{error_or}
use Rattle.sql_value.specs.Cells.{error_of, worst_of}
use Rattle.sql_value.specs.declared.aggregate.Aggregate.{Aggregate}
use Rattle.sql_value.specs.declared.aggregate.Aggregate.TheVariants as aggregate
use Rattle.sql_value.specs.declared.aggregate.Taken.TheVariants.{All, Distinct}
use Rattle.sql_value.specs.declared.cell.Cell.{Cell}
use Rattle.sql_value.specs.declared.cell.Cell.TheVariants.{Int, Text, Null, Err}
use Rattle.sql_value.specs.declared.cell.Kind.{Kind}
use Rattle.sql_value.specs.declared.level.Level.{Level}
use Rattle.sql_value.specs.declared.level.Level.TheVariants.{No, Cardinality, Division, Overflow, Yes}
use Rattle.group_states.specs.Folds.{cell_of}
use Rattle.group_states.specs.Running.{IsRunning, counting, finished}
use Rattle.group_states.specs.States.{HasTaken, IsAfter, IsAfterBy, is_there}
use Rattle.group_states.specs.declared.fold.Fold.{Fold}
use Rattle.group_states.specs.declared.fold.Fold.TheVariants.{Rows, Of, Nothing}
use Rattle.group_states.specs.declared.state.State.{State}
use Rattle.group_states.proofs.Taking.{Cells, error-absent, error-there, finished-is, many-absent, many-there, running-absent, running-added, running-passed, those-absent, those-there}

not_no : (l : Level) → is_there l ≡ true → l ≡ No → ⊥
not_no No h e = cc h
not_no Cardinality h e = cc e
not_no Division h e = cc e
not_no Overflow h e = cc e
not_no Yes h e = cc e

-- an argument counts or doesn't
null-or_not : (c : Cell) → (unless_null c ≡ []) ⊎ (unless_null c ≡ unit c)
null-or_not (Int n) = inr refl
null-or_not (Text t) = inr refl
null-or_not Null = inl refl
null-or_not (Err k) = inr refl

counts-or_not : (f : Aggregate) (c : Cell) → (counting f c ≡ []) ⊎ (counting f c ≡ unit c)
counts-or_not aggregate.Single c = inr refl
counts-or_not aggregate.Count c = null-or_not c
counts-or_not aggregate.Sum c = null-or_not c
counts-or_not aggregate.Avg c = null-or_not c
counts-or_not aggregate.Min c = null-or_not c
counts-or_not aggregate.Max c = null-or_not c

-- ---- a row more

pub state-absent : (s : State) (cells : Cells) (c : Cell) (l : Level) → is_there l ≡ false → IsAfter cells s → IsAfter (cells ++ row c l ∷ []) s
state-absent s cells c Cardinality is so = cc is
state-absent s cells c Division is so = cc is
state-absent s cells c Overflow is so = cc is
state-absent s cells c Yes is so = cc is
state-absent s cells c No is so = by s.fold so
  where
    by : (f : Fold) → IsAfterBy f cells s → IsAfterBy f (cells ++ row c No ∷ []) s
    by Rows h = h ∙ sym (many-absent cells c)
    by (Of f All) h = (h.0 ∙ sym (error-absent cells c), running-absent cells c f s.running h.1)
    by (Of f Distinct) h = h ∙ sym (those-absent cells c)
    by Nothing h = h

pub state-counted : (s new : State) (cells : Cells) (c : Cell) (l : Level) → is_there l ≡ true → s.fold ≡ Rows → new.fold ≡ s.fold → new.running.count ≡ s.running.count + 1 → IsAfter cells s → IsAfter (cells ++ row c l ∷ []) new
state-counted s new cells c l some is same more so =
    subst (λ (f : Fold). IsAfterBy f (cells ++ row c l ∷ []) new) (sym (same ∙ is))
    (more ∙ ap (λ (n : ℕ). n + 1) (subst (λ (f : Fold). IsAfterBy f cells s) is so) ∙ sym (many-there cells c l (not_no l some)))

pub state-listed : (s new : State) (f : Aggregate) (cells : Cells) (c : Cell) (l : Level) → is_there l ≡ true → s.fold ≡ Of f Distinct → new.fold ≡ s.fold → new.cells.items ≡ s.cells.items ++ row c l ∷ [] → IsAfter cells s → IsAfter (cells ++ row c l ∷ []) new
state-listed s new f cells c l some is same more so =
    subst (λ (g : Fold). IsAfterBy g (cells ++ row c l ∷ []) new) (sym (same ∙ is))
    (more ∙ ap (λ (xs : Cells). xs ++ row c l ∷ []) (subst (λ (g : Fold). IsAfterBy g cells s) is so) ∙ sym (those-there cells c l (not_no l some)))

pub state-taken : (s new : State) (f : Aggregate) (cells : Cells) (c : Cell) (l : Level) → is_there l ≡ true → s.fold ≡ Of f All → HasTaken f c l s new → IsAfter cells s → IsAfter (cells ++ row c l ∷ []) new
state-taken s new f cells c l some is h so =
    subst (λ (g : Fold). IsAfterBy g (cells ++ row c l ∷ []) new) (sym (h.fold ∙ is))
    (h.error ∙ ap (λ (e : Option Kind). worst_of e (worst_of (error_at l) (error_of c))) before.0 ∙ sym (error-there cells c l (not_no l some)), running)
  where
    before : (s.error ≡ error_among error_of cells) × IsRunning f cells s.running
    before = subst (λ (g : Fold). IsAfterBy g cells s) is so

    running : IsRunning f (cells ++ row c l ∷ []) new.running
    running = elim (counts-or_not f c) [
      | inl none ↦ subst (IsRunning f (cells ++ row c l ∷ [])) (sym (h.passed none)) (running-passed cells c l f s.running none before.1)
      | inr one ↦ running-added cells c l f s.running new.running (not_no l some) one before.1 (h.added one)
    ]

-- ---- what comes of a state

pub state-value : (s : State) (f : Aggregate) (cells : Cells) (v : Cell) → s.fold ≡ Of f All → (IsTotalOf s.running.count s.running.total → v ≡ error_or s.error (finished f s.running)) → IsAfter cells s → v ≡ cell_of s.fold cells
state-value s f cells v is h so =
    h before.1.within ∙ ap₂ error_or before.0 (finished-is f cells s.running before.1) ∙ sym (ap (λ (g : Fold). cell_of g cells) is)
  where
    before : (s.error ≡ error_among error_of cells) × IsRunning f cells s.running
    before = subst (λ (g : Fold). IsAfterBy g cells s) is so

pub state-distinct : (s : State) (f : Aggregate) (cells : Cells) (v : Cell) → s.fold ≡ Of f Distinct → v ≡ folded f Distinct s.cells.items → IsAfter cells s → v ≡ cell_of s.fold cells
state-distinct s f cells v is h so =
    h
    ∙ ap (folded f Distinct) (subst (λ (g : Fold). IsAfterBy g cells s) is so)
    ∙ sym (folded-alike f Distinct cells (those_there cells) (alike-there cells))
    ∙ sym (ap (λ (g : Fold). cell_of g cells) is)
