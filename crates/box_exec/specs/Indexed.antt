-- Indexes of the rows of E and A quantifiers.
use Rattle.std.specs.Prelude.{ℕ, ◌≡◌, ◌<◌, List, get_or, length, slice_get, Option, Some}
use Rattle.qgm_core.specs.declared.owned.OwnedQuant.{OwnedQuant}
use Rattle.qgm_meaning.specs.Values.{Bag}
use Rattle.qgm_terms.specs.Shown.{cond}
use Rattle.box_exec.specs.Idle.{HashesIdle}
use Rattle.box_exec.specs.declared.idle_index.IdleIndex.{IdleIndex}

-- an index of these rows, by keys of its condition
abbrev pub IsIdleIndex : Bag → IdleIndex → Type 0
IsIdleIndex rows x = HashesIdle x.holds x.quant (cond x.condition.now) rows x.hashed

-- of the rows of the boxes that quantifiers range over
abbrev pub AllIdle : List OwnedQuant → (ℕ → Bag) → List (Option IdleIndex) → Type 0
AllIdle rs rows xs = (i : ℕ) (r : OwnedQuant) (x : IdleIndex) → i < length rs → r ≡ get_or rs i r → slice_get xs i ≡ Some (Some x) → IsIdleIndex (rows r.over) x
