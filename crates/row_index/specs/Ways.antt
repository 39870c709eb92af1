-- Ways through rows: those that have a hash, and those that every look-up sees.
use Rattle.std.specs.Prelude.{ℕ, ◌≡◌, ◌<◌, ◌==◌, ◌||◌, Bool, true, false, min, get_or, length, map, List, Option, Some, None, ⊤}
use Rattle.std.specs.Borrow.{Bor}
use Rattle.std.specs.List.{list_all}
use Rattle.row_index.specs.Chains.{IsNextOf}
use Rattle.row_index.specs.declared.rows.RowIndex.{RowIndex}
use Rattle.row_index.specs.declared.ways.Cursor.{Cursor}
use Rattle.row_index.specs.declared.ways.Way.{Way}

-- ---- rows that have a hash, or none

-- every look-up sees the row at this place
abbrev pub is_marked : Option (List ℕ) → ℕ → Bool
is_marked None k = false
is_marked (Some marks) k = get_or marks k 0 == 1

-- the row at this place has this hash; or it has none, and every look-up sees it
abbrev pub StandsAs : RowIndex → ℕ → Option ℕ → Type 0
StandsAs ix k None = is_marked ix.marks k ≡ true
StandsAs ix k (Some h) = (get_or ix.hashes k 0 ≡ h) × (is_marked ix.marks k ≡ false)

abbrev pub AreAsMany : Option (List ℕ) → ℕ → Type 0
AreAsMany None n = ⊤
AreAsMany (Some marks) n = length marks ≡ n

-- 1 of a row without a hash, else 0
abbrev pub mark : Option ℕ → ℕ
mark None = 1
mark (Some h) = 0

-- the marks of rows, if some have no hash
abbrev pub AreMarks : List (Option ℕ) → Option (List ℕ) → Type 0
AreMarks keys None = list_all (λ o. mark o == 0) keys ≡ true
AreMarks keys (Some marks) = marks ≡ map mark keys

-- an index of rows, each of which has one of these hashes, or none
pub record Indexes (keys : List (Option ℕ)) (ix : RowIndex) : Type 0 where
  pub hashes : length ix.hashes ≡ length keys
  pub marks : AreAsMany ix.marks (length keys)
  pub each : (k : ℕ) (o : Option ℕ) → k < length keys → o ≡ get_or keys k o → StandsAs ix k o

-- ---- ways

-- the row at this place has the hash that is looked for
abbrev pub has_hash : Option ℕ → List ℕ → ℕ → Bool
has_hash None hashes k = false
has_hash (Some h) hashes k = get_or hashes k 0 == h

-- the row at this place is seen: without an index each is
abbrev pub sees_by : Option (Bor RowIndex) → Option ℕ → ℕ → Bool
sees_by None hash k = true
sees_by (Some ix) hash k = has_hash hash ix.now.hashes k || is_marked ix.now.marks k

abbrev pub sees : Way → ℕ → Bool
sees w k = sees_by w.index w.hash k

-- an index is of as many rows as there are
abbrev pub Spans : Option (Bor RowIndex) → ℕ → Type 0
Spans None n = ⊤
Spans (Some ix) n = (length ix.now.hashes ≡ n) × AreAsMany ix.now.marks n

-- ---- cursors

-- the first place of the hash that is looked for from a place on, and the first that every look-up sees; the number of all where there is none
abbrev pub IsNextOwn : Option ℕ → List ℕ → ℕ → ℕ → Type 0
IsNextOwn None hashes from at = at ≡ length hashes
IsNextOwn (Some h) hashes from at = IsNextOf hashes h from at

abbrev pub IsNextMarked : Option (List ℕ) → ℕ → ℕ → ℕ → Type 0
IsNextMarked None n from at = at ≡ n
IsNextMarked (Some marks) n from at = IsNextOf marks 1 from at

abbrev pub place : Cursor → ℕ
place c = min c.own c.marked

abbrev pub StandsBy : Option (Bor RowIndex) → Option ℕ → ℕ → ℕ → Cursor → Type 0
StandsBy None hash end from c = (c.own ≡ from) × (c.marked ≡ end)
StandsBy (Some ix) hash end from c = IsNextOwn hash ix.now.hashes from c.own × IsNextMarked ix.now.marks end from c.marked

-- a cursor of a way, where it was looked for from a place on
abbrev pub StandsFrom : Way → ℕ → Cursor → Type 0
StandsFrom w from c = StandsBy w.index w.hash w.end from c
