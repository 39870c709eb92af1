-- The facts of boxes as a table.
use Rattle.std.specs.Prelude.{ℕ, zero, suc, ◌≡◌, ◌||◌, ◌==◌, ◌-◌, ◌+◌, slice_set, if◌then◌else◌, Bool, false, List, [], ◌∷◌, ◌++◌, Option, Some, None, slice_get, map}
use Rattle.qgm_core.specs.Boxes.{width}
use Rattle.list_laws.specs.Lists.{first}
use Rattle.qgm_core.specs.declared.node.Node.{Node}
use Rattle.qgm_props.specs.Inferred.{Facts, at_most_one_by, clean_by, exactly_one_by, free_by, not_null_by}
use Rattle.qgm_props.specs.declared.facts.BoxFacts.{BoxFacts}

-- the element at a place, from 1
abbrev pub element : {X : Type 0} → ℕ → List X → Option X
element k xs = if k == 0 then None else slice_get xs (k - 1)

abbrev pub is_of : ℕ → BoxFacts → Bool
is_of b f = f.id == b

abbrev pub found : (BoxFacts → Bool) → Option BoxFacts → Bool
found said None = false
found said (Some f) = said f

abbrev pub joined : Option Bool → Bool
joined None = false
joined (Some flag) = flag

-- the flag of column k, from 1
abbrev pub flag_at : ℕ → List Bool → Bool
flag_at k flags = if k == 0 then false else joined (slice_get flags (k - 1))

-- the facts that a table has
abbrev pub facts_of : List BoxFacts → Facts
facts_of table = record {
  clean = λ b. found (λ f. f.clean) (first (is_of b) table);
  error_free = λ b k. found (λ f. flag_at k f.error_free) (first (is_of b) table);
  not_null = λ b k. found (λ f. flag_at k f.not_null) (first (is_of b) table);
  at_most_one = λ b. found (λ f. f.at_most_one) (first (is_of b) table);
  exactly_one = λ b. found (λ f. f.exactly_one) (first (is_of b) table);
}

-- ---- what is inferred of a box from the facts of a table

-- what a test says of each column, from 1
abbrev pub flags : ℕ → (ℕ → Bool) → List Bool
flags zero test = []
flags (suc w) test = flags w test ++ test (suc w) ∷ []

-- flags of either, column by column
abbrev pub either_flags : List Bool → List Bool → List Bool
either_flags [] bs = []
either_flags (a ∷ rest) [] = []
either_flags (a ∷ rest) (b ∷ bs) = (a || b) ∷ either_flags rest bs

-- what was known and what is inferred
abbrev pub improved : List Node → Facts → Node → BoxFacts → BoxFacts
improved boxes known n f = record {
  id = f.id;
  clean = f.clean || clean_by boxes known n.parts.kind n;
  at_most_one = f.at_most_one || (known.exactly_one n.id || at_most_one_by boxes known n.parts.kind n);
  exactly_one = f.exactly_one || exactly_one_by boxes known n.parts.kind n;
  error_free = either_flags f.error_free (flags (width n) (free_by boxes known n.parts.kind n));
  not_null = either_flags f.not_null (flags (width n) (not_null_by boxes known n.parts.kind n));
}

-- nothing is known of a box
abbrev pub nothing_of : Node → BoxFacts
nothing_of n = record {
  id = n.id;
  clean = false;
  at_most_one = false;
  exactly_one = false;
  error_free = flags (width n) (λ k. false);
  not_null = flags (width n) (λ k. false);
}

-- the facts of the box of rank i, improved
abbrev pub improved_at : List Node → List BoxFacts → ℕ → Node → BoxFacts → List BoxFacts
improved_at boxes table i n f = slice_set table i (improved boxes (facts_of table) n f)

-- one box after another improved, from what is known of nothing
pub data Improves (boxes : List Node) : List BoxFacts → Type 0 where
  begun : Improves boxes (map nothing_of boxes)
  gone : (table : List BoxFacts) (i : ℕ) (n : Node) (f : BoxFacts) → Improves boxes table → slice_get boxes i ≡ Some n → slice_get table i ≡ Some f → Improves boxes (improved_at boxes table i n f)

-- the box of rank i doesn't improve, and none does
abbrev pub StableAt : List Node → List BoxFacts → ℕ → Type 0
StableAt boxes table i = (n : Node) (f : BoxFacts) → slice_get boxes i ≡ Some n → slice_get table i ≡ Some f → improved boxes (facts_of table) n f ≡ f

abbrev pub Stable : List Node → List BoxFacts → Type 0
Stable boxes table = (i : ℕ) → StableAt boxes table i

-- how much isn't known
abbrev pub unknown_flags : List Bool → ℕ
unknown_flags [] = 0
unknown_flags (b ∷ bs) = (if b then 0 else 1) + unknown_flags bs

abbrev pub unknown_of : BoxFacts → ℕ
unknown_of f = unknown_flags (f.clean ∷ f.at_most_one ∷ f.exactly_one ∷ []) + (unknown_flags f.error_free + unknown_flags f.not_null)

abbrev pub unknown_in : List BoxFacts → ℕ
unknown_in [] = 0
unknown_in (f ∷ fs) = unknown_of f + unknown_in fs
