-- What is inferred holds.
use Rattle.row_bag.specs.Errors.{error_among, error_in}
use Rattle.sql_value.specs.declared.cell.Cell.{Cell}
use Rattle.sql_value.specs.declared.order_key.SqlType.{SqlType}
use Rattle.qgm_core.specs.declared.kinds.BoxKind.TheVariants.{Select, SetOp}
use Rattle.qgm_core.specs.declared.kinds.SetOperator.{SetOperator}
use Rattle.qgm_core.specs.declared.parts.BoxParts.{BoxParts}
use Rattle.qgm_meaning.specs.Exists.{each_box, some_box}
use Rattle.qgm_terms.specs.Terms.{Cond, Term}
use Rattle.std.specs.Prelude.{ℕ, ◌≡◌, ◌≤◌, ◌++◌, ◌↔◌, Bool, true, List, length, IfSome, None, Option, Some}
use Rattle.row_bag.specs.Keys.{HasKey}
use Rattle.row_bag.specs.declared.tables.Table.{Table}
use Rattle.qgm_core.specs.Boxes.{Ordered, ids_of, owns, range_in}
use Rattle.qgm_core.specs.Edits.{with_distinct}
use Rattle.list_laws.specs.Lists.{EachOnce, In, first}
use Rattle.qgm_core.specs.declared.kinds.Distinct.{Distinct}
use Rattle.qgm_core.specs.declared.node.Node.{Node}
use Rattle.qgm_core.specs.declared.owned.OwnedQuant.{OwnedQuant}
use Rattle.qgm_meaning.specs.Fits.{fits}
use Rattle.qgm_meaning.specs.Meaning.{bag_in, quant_rows, rows_by, rows_of}
use Rattle.qgm_meaning.specs.Satisfies.{Satisfies}
use Rattle.qgm_meaning.specs.Values.{Environment, bound}
use Rattle.qgm_meaning.specs.Widths.{Even}
use Rattle.qgm_props.specs.Facts.{HasAtMostOne, HasExactlyOne, IsClean, IsErrorFree}
use Rattle.qgm_props.specs.Holding.{Holds, OfRows}
use Rattle.qgm_props.specs.Inferred.{Fact, Facts, Inferred, at_most_one, clean, error_free, exactly_one, inferred_once, says}
use Rattle.qgm_props.specs.InferredKeys.{KeyAmong}
use Rattle.qgm_props.specs.Keys.{holds_key}
use Rattle.qgm_props.specs.Table.{facts_of}
use Rattle.qgm_props.specs.declared.facts.BoxFacts.{BoxFacts}

-- over tables that satisfy the bases, in boxes by rank
pub record Premises (tables : List Table) (ns : List Node) : Type 0 where
  pub bases : Satisfies tables ns
  pub ordered : Ordered ns
  -- no two quantifiers of a box have one number, and by its number each is found among all
  pub apart : (n : Node) → In n ns → EachOnce (ids_of n)
  pub found : (n : Node) (r : OwnedQuant) → In n ns → In r n.quants → range_in r.id (first (owns r.id) ns) ≡ Some r
  pub even : Even ns

-- what a sentence infers of facts that are inferred is inferred
abbrev pub Least : Type 0
Least = (ns : List Node) (known : Facts) → ((fact : Fact) → says known fact ≡ true → Inferred ns fact) → (fact : Fact) → says (inferred_once ns known) fact ≡ true → Inferred ns fact

-- what a sentence infers of facts that hold holds
abbrev pub StepHolds : Type 0
StepHolds = (tables : List Table) (ns : List Node) → Premises tables ns → (known : Facts) → ((fact : Fact) → says known fact ≡ true → Holds tables ns fact) → (fact : Fact) → says (inferred_once ns known) fact ≡ true → Holds tables ns fact

-- what is inferred holds
abbrev pub InferredHolds : Type 0
InferredHolds = (tables : List Table) (ns : List Node) → Premises tables ns → (fact : Fact) → Inferred ns fact → Holds tables ns fact

-- a box that is inferred to be clean is so in each environment that fits, whichever quantifiers are bound there, and whether it has DISTINCT or not
abbrev pub CleanFits : Type 0
CleanFits =
    (tables : List Table) (ns : List Node) → Premises tables ns → (n : Node) → In n ns → Inferred ns (clean n.id) → (d : Distinct) (env : Environment) → fits (bag_in tables ns) ns env ≡ true
    → IsClean (rows_of tables (with_distinct d n) (bag_in tables ns) env)

-- over facts that hold, keys hold
abbrev pub KeysHold : Type 0
KeysHold =
    (tables : List Table) (ns : List Node) → Premises tables ns → (known : Facts) → ((fact : Fact) → says known fact ≡ true → Holds tables ns fact) → (b : ℕ) (ks : List ℕ)
    → holds_key known.at_most_one ns b ks ≡ true → OfRows tables ns b (HasKey ks)

-- columns hold a key exactly where an inferred key is among them
abbrev pub KeysExact : Type 0
KeysExact = (single : ℕ → Bool) (boxes : List Node) → Ordered boxes → (b : ℕ) (ks : List ℕ) → (holds_key single boxes b ks ≡ true) ↔ KeyAmong single boxes b ks

-- facts are those that are inferred of the boxes, all and no others
abbrev pub Tells : Facts → List Node → Type 0
Tells known ns = (fact : Fact) → (says known fact ≡ true) ↔ Inferred ns fact

-- what is kept of a graph, if anything: what is inferred of its boxes
pub record Kept : Type 0 where
  pub facts : Option (List BoxFacts)

-- what is kept, if anything, is what is inferred of these boxes
abbrev pub KeptOf : Kept → List Node → Type 0
KeptOf kept ns = IfSome kept.facts (λ table. Tells (facts_of table) ns)

-- there are such facts
abbrev pub AllTold : Type 0
AllTold = (ns : List Node) → (known : Facts) × Tells known ns

-- what is inferred a sentence infers of them
abbrev pub Founded : Type 0
Founded = (ns : List Node) (known : Facts) → Tells known ns → (fact : Fact) → Inferred ns fact → says (inferred_once ns known) fact ≡ true

-- no two rows that are there agree on these columns, over all tables that satisfy the bases
abbrev pub KeyHolds : List Node → ℕ → List ℕ → Type 0
KeyHolds ns b ks = (tables : List Table) → Premises tables ns → OfRows tables ns b (HasKey ks)

-- by the graph alone: over the facts that are inferred, an inferred key is among these columns
abbrev pub KeyInferred : List Node → ℕ → List ℕ → Type 0
KeyInferred ns b ks = (known : Facts) → Tells known ns → KeyAmong known.at_most_one ns b ks

-- an answer over facts that are those of boxes by rank: true exactly where an inferred key is among these columns
abbrev pub TellsKey : Bool → Facts → List Node → ℕ → List ℕ → Type 0
TellsKey answer known ns b ks = Tells known ns → Ordered ns → (answer ≡ true) ↔ KeyInferred ns b ks

-- what is inferred holds in an environment that fits, whichever quantifiers are bound there
pub record FactsThere (tables : List Table) (ns : List Node) (env : Environment) : Type 0 where
  pub clean : (b : ℕ) → Inferred ns (clean b) → IsClean (bag_in tables ns b env)
  pub error_free : (b k : ℕ) → Inferred ns (error_free b k) → IsErrorFree k (bag_in tables ns b env)
  pub at_most_one : (b : ℕ) → Inferred ns (at_most_one b) → HasAtMostOne (bag_in tables ns b env)
  pub exactly_one : (b : ℕ) → Inferred ns (exactly_one b) → HasExactlyOne (bag_in tables ns b env)
  pub keys : (b : ℕ) (ks : List ℕ) → KeyInferred ns b ks → HasKey ks (bag_in tables ns b env)

abbrev pub FactsFit : Type 0
FactsFit = (tables : List Table) (ns : List Node) → Premises tables ns → (env : Environment) → fits (bag_in tables ns) ns env ≡ true → FactsThere tables ns env

-- arms of a set operation that are inferred clean, with error-free columns, hold no error there
abbrev pub ArmsFit : Type 0
ArmsFit =
    (tables : List Table) (ns : List Node) → Premises tables ns → (n : Node) (form : SetOperator) (types : List SqlType) (p q : OwnedQuant) → In n ns → n.parts.kind ≡ SetOp form types → In p n.quants → In q n.quants
    → Inferred ns (clean p.over) → Inferred ns (clean q.over) → ((k : ℕ) → 1 ≤ k → k ≤ length types → Inferred ns (error_free p.over k) × Inferred ns (error_free q.over k))
    → (env : Environment) → fits (bag_in tables ns) ns env ≡ true → error_among error_in (bag_in tables ns p.over env ++ bag_in tables ns q.over env) ≡ None

-- a select that is inferred clean has clean rows, too, where the conjunct of a some is in the place of the some and its quantifier an F behind all others; nothing beside the some looks the quantifier up
abbrev pub JoinedFits : Type 0
JoinedFits =
    (tables : List Table) (ns : List Node) → Premises tables ns → (b : ℕ) (p : BoxParts) (d : Distinct) (us : List OwnedQuant) (i over : ℕ) (vs : List OwnedQuant) (xs : List Cond) (c : Cond) (ys : List Cond) (head : List Term)
    → In (some_box b p d us i over vs xs c ys head) ns → Inferred ns (clean b) → ((q : ℕ) (cells : List Cell) (env : Environment) → quant_rows (some_box b p d us i over vs xs c ys head) (bag_in tables ns) q (bound i cells env) ≡ quant_rows (some_box b p d us i over vs xs c ys head) (bag_in tables ns) q env)
    → (after : Distinct) (env : Environment) → fits (bag_in tables ns) ns env ≡ true
    → IsClean (rows_by Select tables (each_box b p after us i over vs xs c ys head) (quant_rows (some_box b p d us i over vs xs c ys head) (bag_in tables ns)) env)
