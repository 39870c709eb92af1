-- Rows of selects over kept boxes, found by the hashes of the cells that equalities ask for.
use Rattle.std.specs.Prelude.{ℕ, ◌≡◌, ◌<◌, ◌+◌, false, All, List, get_or, length, filter, slice_get, Option, Some}
use Rattle.qgm_core.specs.declared.node.Node.{Node}
use Rattle.qgm_meaning.specs.Values.{Environment}
use Rattle.box_exec.specs.Early.{is_open, rejects}
pub use Rattle.box_exec.specs.Lasting.{rows_kept}
use Rattle.box_exec.specs.Indexed.{IsIdleIndex}
use Rattle.box_exec.specs.Lookup.{Hashes, Leads}
use Rattle.box_exec.specs.Outer.{rejects_on}
use Rattle.box_exec.specs.Plans.{Bound, family}
use Rattle.box_exec.specs.Ready.{Fit, SubsOf, isnt_F}
use Rattle.box_exec.specs.declared.boxes.At.{At}
use Rattle.box_exec.specs.declared.hashed.Whole.{Whole}
use Rattle.box_exec.specs.declared.idle_index.IdleIndex.{IdleIndex}
use Rattle.box_exec.specs.declared.lookup.Hashed.{Hashed}
use Rattle.row_index.specs.declared.ways.Way.{Way}
use Rattle.box_exec.specs.declared.under.Loop.{Loop}
use Rattle.box_exec.specs.declared.under.Under.{Under}

-- ---- kept rows with indexes

-- the index at a place, if there is one, is of the rows that are kept
abbrev pub IdleUnder : List (Option IdleIndex) → ℕ → Under → Type 0
IdleUnder xs i under = (x : IdleIndex) → slice_get xs i ≡ Some (Some x) → IsIdleIndex (rows_kept under) x

abbrev pub AllIdleUnder : List Loop → List (Option IdleIndex) → Type 0
AllIdleUnder ls xs = (i : ℕ) (l : Loop) → i < length ls → l ≡ get_or ls i l → IdleUnder xs i l.under

-- of the rows that are kept under the second quantifier of an outer join, by keys among its conditions
abbrev pub HashesRight : Node → List Loop → Hashed → Type 0
HashesRight n ls h = (q : Loop) → 1 < length ls → q ≡ get_or ls 1 q → Hashes (rejects_on n) q.range.id (rows_kept q.under) h

-- a way through its rows passes over such alone as one of these conditions rejects
abbrev pub LeadsAt : At → ℕ → Loop → Environment → Way → Type 0
LeadsAt at i l env way = Leads (rejects at.early.now (i + 1)) l.range.id (rows_kept l.under) env way

-- ---- a select of kept rows

abbrev pub AllKept : List Loop → Type 0
AllKept ls = All (λ l. is_open l.under ≡ false) ls

pub record KeptPlan (w : Whole) : Type 0 where
  pub bound : Bound w.at.now
  pub fit : Fit w.at.now.node.now w.at.now.below.now
  pub kept : AllKept w.at.now.loops.now
  pub subs : (env : Environment) → SubsOf (family w.at.now) env (filter isnt_F w.at.now.node.now.quants) w.subs.now
