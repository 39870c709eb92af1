-- The place of the first column of a name.
use Rattle.std.proofs.Common.{◌≡◌, ℕ, suc, ◌+◌, ◌<◌, Bool, true, false, cond, List, [], ◌∷◌, ◌++◌, Option, Some, None, length, nat_lt, option_map, refl, ap, sym, ◌∙◌, arith}
use Rattle.std.specs.List.{position_or_len}
use Rattle.std.proofs.lemmas.Bool.{ltb-true}
use Rattle.sql_meaning.specs.Scopes.{Shape, first_of, is_named}
use Rattle.sql_meaning.specs.Occurrences.{Indexes, first_place, told_of}
use Rattle.sql_meaning.specs.declared.column_index.Occurrence.{Occurrence}
use Rattle.sql_meaning.proofs.Occurrences.{place_of_first, position_more}
use Rattle.sql_names.specs.Places.{further, names_in, place_in, place_named}

one_further : (o : Option ℕ) → option_map suc o ≡ further 1 o
one_further None = refl
one_further (Some n) = ap Some (omega arith)

pub place_first : (name : List ℕ) (column : Option (List ℕ)) (columns : List (Option (List ℕ))) → place_named name (column ∷ columns) ≡ cond (is_named name column) (Some 0) (further 1 (place_named name columns))
place_first name column columns = position_more (is_named name) column columns ∙ ap (cond (is_named name column) (Some 0)) (one_further (place_named name columns))

further_twice : (m n k : ℕ) → k ≡ m + n → (o : Option ℕ) → further m (further n o) ≡ further k o
further_twice m n k e None = refl
further_twice m n k e (Some p) = ap Some (omega arith)

further_none : (o : Option ℕ) → further 0 o ≡ o
further_none None = refl
further_none (Some p) = ap Some (omega arith)

one_later : (o : Option ℕ) (n : ℕ) (p : Option ℕ) → further 1 (first_of o (further n p)) ≡ first_of (further 1 o) (further (suc n) p)
one_later None n p = further_twice 1 n (suc n) (omega arith) p
one_later (Some k) n p = refl

-- the place among the columns of ranges side by side
pub place_append : (name : List ℕ) (cs ds : List (Option (List ℕ))) → place_named name (cs ++ ds) ≡ first_of (place_named name cs) (further (length cs) (place_named name ds))
place_append name [] ds = sym (further_none (place_named name ds))
place_append name (c ∷ cs) ds =
    place_first name c (cs ++ ds)
    ∙ elim (is_named name c) as (λ b. cond b (Some 0) (further 1 (place_named name (cs ++ ds))) ≡ first_of (cond b (Some 0) (further 1 (place_named name cs))) (further (suc (length cs)) (place_named name ds))) [
      | true ↦ refl
      | false ↦ ap (further 1) (place_append name cs ds) ∙ one_later (place_named name cs) (length cs) (place_named name ds)
    ]
    ∙ ap (λ (o : Option ℕ). first_of o (further (suc (length cs)) (place_named name ds))) (sym (place_first name c cs))

pub in_ranges : (name : List ℕ) (ranges : Shape) → place_named name (names_in ranges) ≡ place_in name ranges
in_ranges name [] = refl
in_ranges name (range ∷ ranges) = place_append name range.1 (names_in ranges) ∙ ap (λ (o : Option ℕ). first_of (place_named name range.1) (further (length range.1) o)) (in_ranges name ranges)

-- a place that is found is the place of a column
pub named_within : (name : List ℕ) (columns : List (Option (List ℕ))) (place : ℕ) → place_named name columns ≡ Some place → place < length columns
named_within name columns place h = by (nat_lt (position_or_len (is_named name) columns) (length columns)) refl h
  where
    by : (b : Bool) → nat_lt (position_or_len (is_named name) columns) (length columns) ≡ b → cond b (Some (position_or_len (is_named name) columns)) None ≡ Some place → place < length columns
    by true e found = let low = ltb-true _ _ e in let same : position_or_len (is_named name) columns ≡ place = cc in omega (arith, low, same)
    by false e found = absurd (cc)

-- what an index of the columns tells of the place of a name
pub place_told : (name : List ℕ) (ranges : Shape) (index : List (List ℕ × Occurrence) × ℕ) → Indexes (names_in ranges) index → first_place (told_of index.0 name) ≡ place_in name ranges
place_told name ranges index h = ap first_place (h.0 name) ∙ place_of_first name (names_in ranges) ∙ in_ranges name ranges
