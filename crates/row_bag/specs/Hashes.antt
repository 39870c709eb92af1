-- Hashes of tuples, and tuples found by them.
use Rattle.std.specs.Prelude.{◌≡◌, ◌≢◌, ℕ, ◌-◌, ◌<◌, ◌≤◌, ◌%◌, fold, get_or, length, List, map}
use Rattle.std.specs.Hash as fed
use Rattle.std.specs.Hash.FoldHasher.{finish, initial, write}
use Rattle.std.specs.declared.hash.FoldHasher.{FoldHasher}
use Rattle.sql_value.specs.declared.cell.Cell.{Cell}
use Rattle.sql_value.specs.declared.cell.Cell.TheVariants.{Int, Text, Null, Err}
use Rattle.row_bag.specs.Matched.{often}
use Rattle.row_bag.specs.declared.row.Row.{Row}

-- what a hasher is fed of a cell
abbrev pub cell_writes : Cell → fed.HashWrites
cell_writes (Int z) = fed.i64 z
cell_writes (Text text) = fed.slice fed.char text
cell_writes Null = fed.u8 0
cell_writes (Err k) = fed.u8 1

-- a hasher that is fed one more cell
unfoldable pub fed_with : FoldHasher → Cell → FoldHasher
fed_with hasher cell = fold write hasher (cell_writes cell)

-- the hash of a tuple
unfoldable pub hash_of : List Cell → ℕ
hash_of cells = finish (fold fed_with initial cells)

-- the hashes of tuples
abbrev pub hashes_of : List (List Cell) → List ℕ
hashes_of tuples = map hash_of tuples

-- the chain of each hash, of so many chains
abbrev pub chains_of : ℕ → List ℕ → List ℕ
chains_of chains hashes = map (λ h. h % chains) hashes

-- the last place of a chain below a bound, counted from 1; 0 where it has none there
pub record IsLastOf (chains : List ℕ) (chain bound place : ℕ) : Type 0 where
  pub within : place ≤ bound
  pub own : 0 < place → get_or chains (place - 1) 0 ≡ chain
  pub others : (k : ℕ) → place ≤ k → k < bound → get_or chains k 0 ≢ chain

-- each chain leads from the place of its last hash to that of the one before it, and so on
pub record AreChained (heads befores hashes : List ℕ) : Type 0 where
  pub some : 0 < length heads
  pub last : (chain : ℕ) → chain < length heads → IsLastOf (chains_of (length heads) hashes) chain (length hashes) (get_or heads chain 0)
  pub before : (k : ℕ) → k < length hashes → IsLastOf (chains_of (length heads) hashes) (get_or (chains_of (length heads) hashes) k 0) k (get_or befores k 0)

-- the tuples of rows
abbrev pub tuples_of : List (Row (List Cell)) → List (List Cell)
tuples_of rows = map (λ r. r.cells) rows

-- no tuple stands twice among these
abbrev pub AreDifferent : List (List Cell) → Type 0
AreDifferent tuples = (c : List Cell) → often c tuples ≤ 1
