-- What is put into the parts of chains and of CASE.
use Rattle.std.specs.Prelude.{ℕ, List, map}
use Rattle.qgm_terms.specs.Terms.{Choice, Cond, Link}
use Rattle.rule_feed.specs.Feed.{fed_cond, fed_term}

abbrev pub fed_link : ℕ → ℕ → Cond → Link → Link
fed_link i n k l = record { op = l.op; right = fed_term i n k l.right }

abbrev pub fed_links : ℕ → ℕ → Cond → List Link → List Link
fed_links i n k ls = map (fed_link i n k) ls

abbrev pub fed_choice : ℕ → ℕ → Cond → Choice → Choice
fed_choice i n k c = record { when = fed_cond i n k c.when; then = fed_term i n k c.then }

abbrev pub fed_choices : ℕ → ℕ → Cond → List Choice → List Choice
fed_choices i n k cs = map (fed_choice i n k) cs
