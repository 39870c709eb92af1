-- The columns of a range that was found.
use Rattle.std.proofs.Common.{◌≡◌, ℕ, true, false, cond, List, [], ◌∷◌, length, Option, Some, None, refl, ap, sym, ◌∙◌}
use Rattle.sql_ast.specs.Names.{same_name}
use Rattle.sql_meaning.specs.Scopes.{Shape, columns_in, columns_of_range, first_of}
use Rattle.sql_names.specs.Places.{Span, onward, outward, span_in, span_of}

abbrev pub span_columns : Option Span → List (Option (List ℕ))
span_columns None = []
span_columns (Some s) = s.columns

abbrev or_these : Option (List (Option (List ℕ))) → List (Option (List ℕ)) → List (Option (List ℕ))
or_these o others = elim o as (λ _. List (Option (List ℕ))) [ Some columns ↦ columns | None ↦ others ]

abbrev names_of : Option Span → Option (List (Option (List ℕ)))
names_of None = None
names_of (Some s) = Some s.columns

onward_names : (n : ℕ) (o : Option Span) → names_of (onward n o) ≡ names_of o
onward_names n None = refl
onward_names n (Some s) = refl

in_names : (name : List ℕ) (ranges : Shape) → names_of (span_in name ranges) ≡ columns_in name ranges
in_names name [] = refl
in_names name (range ∷ ranges) =
    elim (same_name range.0 name) as (λ b. names_of (cond b (Some (record { scope = 0; first = 0; columns = range.1 })) (onward (length range.1) (span_in name ranges))) ≡ cond b (Some range.1) (columns_in name ranges)) [
      | true ↦ refl
      | false ↦ onward_names (length range.1) (span_in name ranges) ∙ in_names name ranges
    ]

outward_columns : (o : Option Span) → span_columns (outward o) ≡ span_columns o
outward_columns None = refl
outward_columns (Some s) = refl

first_columns : (o p : Option Span) → span_columns (first_of o p) ≡ or_these (names_of o) (span_columns p)
first_columns None p = refl
first_columns (Some s) p = refl

pub columns_spanned : (name : List ℕ) (shapes : List Shape) → columns_of_range name shapes ≡ span_columns (span_of name shapes)
columns_spanned name [] = refl
columns_spanned name (ranges ∷ shapes) =
    ap (or_these (columns_in name ranges)) (columns_spanned name shapes ∙ sym (outward_columns (span_of name shapes)))
    ∙ ap (λ (o : Option (List (Option (List ℕ)))). or_these o (span_columns (outward (span_of name shapes)))) (sym (in_names name ranges))
    ∙ sym (first_columns (span_in name ranges) (outward (span_of name shapes)))
