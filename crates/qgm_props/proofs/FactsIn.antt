-- What is inferred, fact by fact, in an environment that fits.
use Rattle.std.proofs.Common.{ℕ, ◌≡◌, true, List}
use Rattle.row_bag.specs.declared.tables.Table.{Table}
use Rattle.qgm_core.specs.declared.node.Node.{Node}
use Rattle.qgm_meaning.specs.Fits.{fits}
use Rattle.qgm_meaning.specs.Meaning.{bag_in}
use Rattle.qgm_meaning.specs.Values.{Environment}
use Rattle.qgm_props.specs.Facts.{HasAtMostOne, HasExactlyOne, IsClean, IsErrorFree}
use Rattle.qgm_props.specs.Inferred.{Facts, Inferred, at_most_one, clean, error_free, exactly_one}
use Rattle.qgm_props.specs.Laws.{Premises, Tells}
use Rattle.qgm_props.proofs.Environments.{columns-sound}
use Rattle.qgm_props.proofs.FactsFit.{facts-fit}
use Rattle.qgm_props.proofs.Fitted.{fits-in}
use Rattle.qgm_props.proofs.Settled.{inferred-in}
use Rattle.qgm_props.proofs.Terms.{SoundColumns}

module _ (tables : List Table) (ns : List Node) (given : Premises tables ns) (e : Environment) (fit : fits (bag_in tables ns) ns e ≡ true) where
  pub clean-in : (b : ℕ) → Inferred ns (clean b) → IsClean (bag_in tables ns b e)
  clean-in b h = (facts-fit tables ns given e fit).clean b h

  pub free-in : (b k : ℕ) → Inferred ns (error_free b k) → IsErrorFree k (bag_in tables ns b e)
  free-in b k h = (facts-fit tables ns given e fit).error_free b k h

  pub single-in : (b : ℕ) → Inferred ns (at_most_one b) → HasAtMostOne (bag_in tables ns b e)
  single-in b h = (facts-fit tables ns given e fit).at_most_one b h

  pub exactly-in : (b : ℕ) → Inferred ns (exactly_one b) → HasExactlyOne (bag_in tables ns b e)
  exactly-in b h = (facts-fit tables ns given e fit).exactly_one b h

  -- columns that are known to be error-free are no errors, also of quantifiers that aren't bound
  pub sound-in : (known : Facts) → Tells known ns → SoundColumns ns known e
  sound-in known tells = columns-sound true tables ns known given (λ fact s. inferred-in true tables ns given fact ((tells fact).0 s)) e (fits-in tables ns given e fit)
