-- The column and the literal that a condition equates.
use Rattle.std.specs.Prelude.{ℕ, ℤ, ◌+◌, ◌&&◌, Bool, true, false, List, [], ◌∷◌, Option, Some, None, nat_eq}
use Rattle.std.specs.Cmp.Lexicographic.{pointwise}
use Rattle.std.specs.List.{list_any}
use Rattle.std.specs.Ordering.{int_eq}
use Rattle.qgm_terms.specs.Terms.{Cond, Term, both, choose, col, count_all, fold, int, minus_of, null_int, null_text, scalar, text}
use Rattle.qgm_terms.specs.declared.named.Column.{Column}
use Rattle.rule_trans.specs.Equalities.{column_of, is_same, sides}
use Rattle.rule_trans.specs.declared.literals.FixedColumn.{FixedColumn}
use Rattle.rule_trans.specs.declared.literals.FixedConjunct.{FixedConjunct}
use Rattle.rule_trans.specs.declared.literals.Literal.{Literal}
use Rattle.rule_trans.specs.declared.literals.Literal.TheVariants as code

-- an integer or a text
pub data LiteralValue : Type 0 where
  of_int : ℤ → LiteralValue
  of_text : List ℕ → LiteralValue

-- its expression
abbrev pub term_of : LiteralValue → Term
term_of (of_int n) = int n
term_of (of_text s) = text s

abbrev pub same_literal : LiteralValue → LiteralValue → Bool
same_literal (of_int m) (of_int n) = int_eq m n
same_literal (of_int m) (of_text t) = false
same_literal (of_text s) (of_int n) = false
same_literal (of_text s) (of_text t) = pointwise nat_eq s t

-- the literal that an expression is
abbrev pub literal_of : Term → Option LiteralValue
literal_of (int n) = Some (of_int n)
literal_of (text s) = Some (of_text s)
literal_of null_int = None
literal_of null_text = None
literal_of (col q k) = None
literal_of (scalar q) = None
literal_of (both o x y) = None
literal_of (minus_of x) = None
literal_of (choose s x) = None
literal_of count_all = None
literal_of (fold f d x) = None

-- a column, and the literal that it equals
abbrev pub FixedPair : Type 0
FixedPair = Column × LiteralValue

abbrev pub fixed_as : Option Column → Option LiteralValue → Option FixedPair
fixed_as None l = None
fixed_as (Some a) None = None
fixed_as (Some a) (Some l) = Some (a, l)

abbrev pub either : Option FixedPair → Option FixedPair → Option FixedPair
either None o = o
either (Some f) o = Some f

abbrev pub fixed_of : Option (Term × Term) → Option FixedPair
fixed_of None = None
fixed_of (Some p) = either (fixed_as (column_of p.0) (literal_of p.1)) (fixed_as (column_of p.1) (literal_of p.0))

-- the column and the literal of an equality, in either order
abbrev pub fixed : Cond → Option FixedPair
fixed c = fixed_of (sides c)

abbrev pub is_some : Option FixedPair → Bool
is_some None = false
is_some (Some f) = true

-- one of these conditions equates a column and a literal
abbrev pub has_fixed : List Cond → Bool
has_fixed cs = list_any (λ c. is_some (fixed c)) cs

abbrev pub is_of : Column → LiteralValue → Option FixedPair → Bool
is_of a l None = false
is_of a l (Some f) = is_same a f.0 && same_literal l f.1

-- one of these conditions equates a and l
abbrev pub is_there : Column → LiteralValue → List Cond → Bool
is_there a l cs = list_any (λ e. is_of a l (fixed e)) cs

-- a conjunct that equates a column and a literal, by its number
abbrev pub NumberedPair : Type 0
NumberedPair = ℕ × FixedPair

abbrev pub numbered_if : ℕ → Option FixedPair → List NumberedPair → List NumberedPair
numbered_if i None fs = fs
numbered_if i (Some f) fs = (i, f) ∷ fs

-- those of these, numbered from first on
abbrev pub numbered : ℕ → List Cond → List NumberedPair
numbered first [] = []
numbered first (c ∷ cs) = numbered_if first (fixed c) (numbered (first + 1) cs)

-- one of these equates a and l
abbrev pub has_literal : Column → LiteralValue → List NumberedPair → Bool
has_literal a l fs = list_any (λ f. is_of a l (Some f.1)) fs

-- ---- as the code has them

abbrev pub shown : Literal → LiteralValue
shown (code.Int n) = of_int n
shown (code.Text s) = of_text s.now

abbrev pub shown_fixed : FixedColumn → FixedPair
shown_fixed f = (f.column, shown f.literal)

abbrev pub shown_conjunct : FixedConjunct → NumberedPair
shown_conjunct f = (f.place, shown_fixed f.fixed)
