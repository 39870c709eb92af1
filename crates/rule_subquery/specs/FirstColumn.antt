-- The first column of a quantifier in the place of its scalar, in the parts of chains and of CASE.
use Rattle.std.specs.Prelude.{ℕ, List, map}
use Rattle.qgm_meaning.specs.Searches.{as_column, as_column_cond}
use Rattle.qgm_terms.specs.Terms.{Choice, Link}

abbrev pub column_link : ℕ → Link → Link
column_link q l = record { op = l.op; right = as_column q l.right }

abbrev pub column_links : ℕ → List Link → List Link
column_links q ls = map (column_link q) ls

abbrev pub column_choice : ℕ → Choice → Choice
column_choice q c = record { when = as_column_cond q c.when; then = as_column q c.then }

abbrev pub column_choices : ℕ → List Choice → List Choice
column_choices q cs = map (column_choice q) cs
