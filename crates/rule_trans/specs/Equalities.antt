-- What a condition equates: two expressions, two columns.
use Rattle.std.specs.Prelude.{◌==◌, ◌&&◌, ◌||◌, if◌then◌else◌, Bool, true, false, List, [], ◌∷◌, Option, Some, None}
use Rattle.std.specs.List.{list_any}
use Rattle.qgm_terms.specs.Terms.{Cond, Sign, Term, always, and, both, choose, col, compare, count_all, every, fold, int, is_null, minus_of, null_int, null_text, or, scalar, some, text, equal, unequal, below, at_most, above, at_least, same, like}
use Rattle.qgm_terms.specs.Terms as t
use Rattle.qgm_terms.specs.declared.named.Column.{Column}
use Rattle.rule_trans.specs.declared.equalities.Equality.{Equality}

-- the column that an expression is
abbrev pub column_of : Term → Option Column
column_of (int n) = None
column_of (text s) = None
column_of null_int = None
column_of null_text = None
column_of (col q k) = Some (record { quant = q; place = k })
column_of (scalar q) = None
column_of (both o x y) = None
column_of (minus_of x) = None
column_of (choose s x) = None
column_of count_all = None
column_of (fold f d x) = None

abbrev pub both_of : Option Column → Option Column → Option Equality
both_of None y = None
both_of (Some x) None = None
both_of (Some x) (Some y) = Some (record { left = x; right = y })

-- the two expressions that a condition equates
abbrev pub sides_by : Sign → Term → Term → Option (Term × Term)
sides_by equal x y = Some (x, y)
sides_by unequal x y = None
sides_by below x y = None
sides_by at_most x y = None
sides_by above x y = None
sides_by at_least x y = None
sides_by same x y = None
sides_by like x y = None

abbrev pub sides : Cond → Option (Term × Term)
sides always = None
sides (compare s x y) = sides_by s x y
sides (is_null x) = None
sides (and a b) = None
sides (or a b) = None
sides (t.not a) = None
sides (some q a) = None
sides (every q a) = None

abbrev pub equated_of : Option (Term × Term) → Option Equality
equated_of None = None
equated_of (Some p) = both_of (column_of p.0) (column_of p.1)

-- the columns of an equality of two
abbrev pub equated : Cond → Option Equality
equated c = equated_of (sides c)

abbrev pub is_some : Option Equality → Bool
is_some None = false
is_some (Some e) = true

abbrev pub is_equality : Cond → Bool
is_equality c = is_some (equated c)

-- two of these conditions are equalities of two columns
abbrev pub has_two : List Cond → Bool
has_two [] = false
has_two (c ∷ cs) = if is_equality c then list_any is_equality cs else has_two cs

-- there is none
abbrev pub no_more : List Cond → Bool
no_more [] = true
no_more (c ∷ cs) = false

abbrev pub is_same : Column → Column → Bool
is_same a b = (a.quant == b.quant) && (a.place == b.place)

-- e is the equality of a and c, in either order
abbrev pub is_of : Column → Column → Equality → Bool
is_of a c e = (is_same a e.left && is_same c e.right) || (is_same c e.left && is_same a e.right)

abbrev pub equates : Column → Column → Option Equality → Bool
equates a c None = false
equates a c (Some e) = is_of a c e

-- one of these conditions equates a and c
abbrev pub is_there : Column → Column → List Cond → Bool
is_there a c cs = list_any (λ e. equates a c (equated e)) cs
