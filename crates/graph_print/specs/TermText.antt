-- How expressions and conditions are written: each in brackets, its word first. `at` gives the number of a quantifier.
use Rattle.std.specs.Prelude.{ℕ, zero, suc, ◌==◌, ◌++◌, if◌then◌else◌, List, [], ◌∷◌, codes, decimal}
use Rattle.std.specs.Fmt.{signed_decimal}
use Rattle.std.specs.List.{flat_map}
use Rattle.qgm_terms.specs.Terms.{Term, int, text, null_int, null_text, col, scalar, both, minus_of, choose, count_all, fold, Arms, no_arm, arm, Link, Choice}
use Rattle.qgm_terms.specs.Terms.{Cond, always, compare, is_null, and, or, not, some, every}
use Rattle.qgm_terms.specs.Terms.{Aggregate, single, count, sum, avg, least, greatest, Taken, all_of, each_once}
use Rattle.qgm_terms.specs.Terms.{Sign, equal, unequal, below, at_most, above, at_least, same, like}
use Rattle.qgm_terms.specs.declared.tree.Op.{Op}
use Rattle.qgm_terms.specs.declared.tree.Op.TheVariants.{Add, Sub, Mul, Div, Cat}

-- each such mark twice
abbrev pub doubled : ℕ → List ℕ → List ℕ
doubled mark [] = []
doubled mark (c ∷ cs) = if c == mark then c ∷ c ∷ doubled mark cs else c ∷ doubled mark cs

abbrev pub open_op : Op → List ℕ
open_op Add = codes "(add "
open_op Sub = codes "(sub "
open_op Mul = codes "(mul "
open_op Div = codes "(div "
open_op Cat = codes "(cat "

abbrev pub open_sign : Sign → List ℕ
open_sign equal = codes "(eq "
open_sign unequal = codes "(ne "
open_sign below = codes "(lt "
open_sign at_most = codes "(le "
open_sign above = codes "(gt "
open_sign at_least = codes "(ge "
open_sign same = codes "(same "
open_sign like = codes "(like "

abbrev pub open_aggregate : Aggregate → Taken → List ℕ
open_aggregate single all_of = codes "(single "
open_aggregate count all_of = codes "(count "
open_aggregate sum all_of = codes "(sum "
open_aggregate avg all_of = codes "(avg "
open_aggregate least all_of = codes "(min "
open_aggregate greatest all_of = codes "(max "
open_aggregate single each_once = codes "(single-distinct "
open_aggregate count each_once = codes "(count-distinct "
open_aggregate sum each_once = codes "(sum-distinct "
open_aggregate avg each_once = codes "(avg-distinct "
open_aggregate least each_once = codes "(min-distinct "
open_aggregate greatest each_once = codes "(max-distinct "

abbrev mutual
  pub term_text : (ℕ → ℕ) → Term → List ℕ
  term_text at (int n) = codes "(int " ++ signed_decimal n ++ codes ")"
  term_text at (text s) = codes "(text '" ++ doubled 39 s ++ codes "')"
  term_text at null_int = codes "(null int)"
  term_text at null_text = codes "(null text)"
  term_text at (col q k) = codes "(col " ++ decimal (at q) ++ codes " " ++ decimal k ++ codes ")"
  term_text at (scalar q) = codes "(scalar " ++ decimal (at q) ++ codes ")"
  term_text at (both op x y) = open_op op ++ term_text at x ++ codes " " ++ term_text at y ++ codes ")"
  term_text at (minus_of x) = codes "(neg " ++ term_text at x ++ codes ")"
  term_text at (choose a x) = codes "(case " ++ arms_text at a ++ codes "else " ++ term_text at x ++ codes ")"
  term_text at count_all = codes "(count-all)"
  term_text at (fold f t x) = open_aggregate f t ++ term_text at x ++ codes ")"

  pub arms_text : (ℕ → ℕ) → Arms → List ℕ
  arms_text at no_arm = []
  arms_text at (arm c x a) = cond_text at c ++ codes " " ++ term_text at x ++ codes " " ++ arms_text at a

  pub cond_text : (ℕ → ℕ) → Cond → List ℕ
  cond_text at always = codes "(true)"
  cond_text at (compare sign x y) = open_sign sign ++ term_text at x ++ codes " " ++ term_text at y ++ codes ")"
  cond_text at (is_null x) = codes "(isnull " ++ term_text at x ++ codes ")"
  cond_text at (and c d) = codes "(and " ++ cond_text at c ++ codes " " ++ cond_text at d ++ codes ")"
  cond_text at (or c d) = codes "(or " ++ cond_text at c ++ codes " " ++ cond_text at d ++ codes ")"
  cond_text at (not c) = codes "(not " ++ cond_text at c ++ codes ")"
  cond_text at (some q c) = codes "(some " ++ decimal (at q) ++ codes " " ++ cond_text at c ++ codes ")"
  cond_text at (every q c) = codes "(every " ++ decimal (at q) ++ codes " " ++ cond_text at c ++ codes ")"

-- ---- the same of lists, as the code has them

-- what opens the left nest of a chain, from the outermost in
abbrev pub open_links : List Link → List ℕ
open_links [] = []
open_links (l ∷ ls) = open_links ls ++ open_op l.op

-- a word so often
abbrev pub repeated : List ℕ → ℕ → List ℕ
repeated word zero = []
repeated word (suc n) = repeated word n ++ word

-- an operand behind a first one, and what closes its operator
abbrev pub link_text : (ℕ → ℕ) → Link → List ℕ
link_text at l = codes " " ++ term_text at l.right ++ codes ")"

abbrev pub links_text : (ℕ → ℕ) → List Link → List ℕ
links_text at ls = flat_map (link_text at) ls

-- a condition behind a first one, and what closes its AND or OR
abbrev pub next_text : (ℕ → ℕ) → Cond → List ℕ
next_text at c = codes " " ++ cond_text at c ++ codes ")"

abbrev pub conds_text : (ℕ → ℕ) → List Cond → List ℕ
conds_text at cs = flat_map (next_text at) cs

abbrev pub choice_text : (ℕ → ℕ) → Choice → List ℕ
choice_text at c = cond_text at c.when ++ codes " " ++ term_text at c.then ++ codes " "

abbrev pub choices_text : (ℕ → ℕ) → List Choice → List ℕ
choices_text at cs = flat_map (choice_text at) cs
