-- What a read of a record does to the list of those that are left.
use Rattle.std.proofs.Common.{ℕ, zero, suc, ◌+◌, ◌<◌, ◌≡◌, ◌∙◌, ◌⊎◌, inl, inr, Bool, true, false, List, [], ◌∷◌, Option, Some, None, IsSome, length, refl, sym, ap, arith, add-one}
use Rattle.std.proofs.lemmas.Bool.{cases_Bool}
use Rattle.csv.specs.Machine.{Read, ends_at_end, field_after, fields_after, is_end, next_record, step}
use Rattle.csv.specs.Reading.{ReadRecord, Reached, Ready, default_config, has_failed, reader_trim, records_from, records_next, source_of}
use Rattle.csv.specs.declared.reader.Trim.TheVariants as trim
use Rattle.std.specs.Bool.{MatchBool}
use Rattle.std.proofs.lemmas.Bool.{true≢false}
use Rattle.csv.specs.declared.parser.Config.{Config}
use Rattle.csv.specs.declared.parser.State.{State}
use Rattle.csv.specs.declared.parser.State.TheVariants as st
use Rattle.csv.specs.declared.reader.Reader.{Reader}
use Rattle.csv.proofs.ReadFacts.{rows-end, rows-more}
use Rattle.csv_tables.specs.Records.{Fields, FailedOrPlain, IsPlain, left_of, records_left}

-- a record takes a byte, or is the last
shrinks : (cfg : Config) (s : State) (fs : Fields) (f xs : List ℕ) (q : Read) → next_record cfg s fs f xs ≡ Some q
    → (length q.2 < length xs) ⊎ ((q.1 ≡ st.StartRecord) × (q.2 ≡ []))
unfolding next_record
shrinks cfg s fs f [] q e = elim (cases_Bool (ends_at_end s)) [
  | inl ends ↦ let h = rw ends at e in inr (cc h, cc h)
  | inr goes ↦ let h = rw goes at e in cc h
]
shrinks cfg s fs f (c ∷ rest) q e = elim (cases_Bool (is_end (step cfg s c).1)) [
  | inl ends ↦ let h = rw ends at e in let same : rest ≡ q.2 = cc h in inl (rw (← same) (omega arith))
  | inr goes ↦ elim (shrinks cfg (step cfg s c).0 (fields_after (step cfg s c).1 fs f) (field_after (step cfg s c).1 c f) rest q (rw goes at e)) [
    | inl less ↦ inl (omega arith)
    | inr last ↦ inr last
  ]
]

-- at the end of the text there is no record
none-left : (cfg : Config) (n : ℕ) → records_from cfg n st.StartRecord [] ≡ []
unfolding records_from next_record
none-left cfg zero = refl
none-left cfg (suc n) = refl

-- more turns than bytes are enough
enough : (cfg : Config) (n m : ℕ) (s : State) (xs : List ℕ) → length xs < n → length xs < m → records_from cfg n s xs ≡ records_from cfg m s xs
unfolding records_from
enough cfg zero m s xs p q = absurd (omega arith)
enough cfg (suc n) zero s xs p q = absurd (omega arith)
enough cfg (suc n) (suc m) s xs p q =
    (elim (next_record cfg s [] [] xs) as (λ o. next_record cfg s [] [] xs ≡ o → records_next (records_from cfg n) o ≡ records_next (records_from cfg m) o) [
      | None ↦ λ e. refl
      | Some r ↦ λ e. ap (λ (t : List Fields). r.0 ∷ t) (elim (shrinks cfg s [] [] xs r e) [
        | inl less ↦ enough cfg n m r.1 r.2 (omega arith) (omega arith)
        | inr last ↦ rw (last.0, last.1) (none-left cfg n ∙ sym (none-left cfg m))
      ])
    ]) refl

-- what is left after a record
left-after : (cfg : Config) (s : State) (xs : List ℕ) (r : Read) → next_record cfg s [] [] xs ≡ Some r
    → records_from cfg (length xs + 1) s xs ≡ r.0 ∷ records_from cfg (length r.2 + 1) r.1 r.2
unfolding records_from
left-after cfg s xs r e = rw (add-one, e) (ap (λ (t : List Fields). r.0 ∷ t) (elim (shrinks cfg s [] [] xs r e) [
  | inl less ↦ enough cfg (length xs) (length r.2 + 1) r.1 r.2 less (omega arith)
  | inr last ↦ rw (last.0, last.1) (none-left cfg (length xs) ∙ sym (none-left cfg (0 + 1)))
]))

some-is : {A : Type 0} (o : Option A) → IsSome o → (a : A) × (o ≡ Some a)
some-is None h = absurd (cc h)
some-is (Some a) h = (a, refl)

first-of : (sa sb : Option (List ℕ)) (a b : State) (f : Fields) (y z : List ℕ) (p : Read) → sa ≡ Some y → sb ≡ Some z → next_record default_config a [] [] y ≡ Some p
    → f ≡ p.0 → p.1 ≡ b → p.2 ≡ z → left_of sa a ≡ f ∷ left_of sb b
first-of sa sb a b f y z p source after next is state rest = rw (source, after, is, ← state, ← rest) (left-after default_config a y p next)

-- a read that found a record took the first
pub read-first : {R : Type 0} (rem : R → Option (List ℕ)) (a b : Reader R) (f : Fields) → IsPlain rem a → ReadRecord rem a b true f → records_left rem a ≡ f ∷ records_left rem b
unfolding Reached
read-first rem a b f plain r =
    let (y, source) = some-is (source_of rem a) plain.4 in
    let (z, after, (p, next, is, (state, rest))) = rows-more rem a b f default_config a.state y y [] plain.0 source (refl, refl) r in
    first-of (source_of rem a) (source_of rem b) a.state b.state f y z p source after next is state rest

-- a read that found none was at the end
pub read-none : {R : Type 0} (rem : R → Option (List ℕ)) (a b : Reader R) (f : Fields) → IsPlain rem a → ReadRecord rem a b false f → records_left rem a ≡ []
unfolding records_from
read-none rem a b f plain r =
    let (y, source) = some-is (source_of rem a) plain.4 in
    rw (source, add-one, rows-end rem a b f default_config y plain.0 source r) refl

-- what a read leaves, of a reader that has failed or reads on
pub read-left : {R : Type 0} (rem : R → Option (List ℕ)) (a b : Reader R) (f : Fields) (found : Bool) (v : List Fields) → FailedOrPlain rem a
    → (has_failed a ≡ true → found ≡ false) → (reader_trim a ≡ trim.None → Ready a → ReadRecord rem a b found f) → records_left rem a ≡ v
    → MatchBool found (v ≡ f ∷ records_left rem b) (v ≡ [])
read-left rem a b f true v (inl failed) stops reads is = absurd (true≢false (stops failed))
read-left rem a b f true v (inr plain) stops reads is = sym is ∙ read-first rem a b f plain (reads plain.1 plain.3)
read-left rem a b f false v (inl failed) stops reads is = sym is ∙ rw failed refl
read-left rem a b f false v (inr plain) stops reads is = sym is ∙ read-none rem a b f plain (reads plain.1 plain.3)
