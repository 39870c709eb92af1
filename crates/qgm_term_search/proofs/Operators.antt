-- An operator of the program, shown and read back, is itself.
use Rattle.std.proofs.Common.{◌≡◌, refl}
use Rattle.qgm_term_search.specs.Postfix.{aggregate_of, sign_of, taken_of}
use Rattle.qgm_terms.specs.Shown.{aggregate, sign, taken}
use Rattle.qgm_terms.specs.declared.tree.Aggregate.{Aggregate}
use Rattle.qgm_terms.specs.declared.tree.Aggregate.TheVariants.{Single, Count, Sum, Avg, Min, Max}
use Rattle.qgm_terms.specs.declared.tree.Sign.{Sign}
use Rattle.qgm_terms.specs.declared.tree.Sign.TheVariants.{Eq, Ne, Lt, Le, Gt, Ge, Same, Like}
use Rattle.qgm_terms.specs.declared.tree.Taken.{Taken}
use Rattle.qgm_terms.specs.declared.tree.Taken.TheVariants.{All, Once}

pub aggregate_back : (g : Aggregate) → aggregate_of (aggregate g) ≡ g
aggregate_back Single = refl
aggregate_back Count = refl
aggregate_back Sum = refl
aggregate_back Avg = refl
aggregate_back Min = refl
aggregate_back Max = refl

pub taken_back : (e : Taken) → taken_of (taken e) ≡ e
taken_back All = refl
taken_back Once = refl

pub sign_back : (s : Sign) → sign_of (sign s) ≡ s
sign_back Eq = refl
sign_back Ne = refl
sign_back Lt = refl
sign_back Le = refl
sign_back Gt = refl
sign_back Ge = refl
sign_back Same = refl
sign_back Like = refl
