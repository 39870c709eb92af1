-- What the program holds of scopes, slots and types, as the words by which boxes show a query.
use Rattle.std.specs.Prelude.{List, [], ◌∷◌, map, Option, Some, None}
use Rattle.qgm_core.specs.declared.owned.OwnedQuant.{OwnedQuant}
use Rattle.qgm_translation.specs.Leaves.{Slots, rest_of}
use Rattle.qgm_translation.specs.Maps.{Frame, Map, Ref, nothing, none_counted, column}
use Rattle.qgm_build_terms.specs.declared.seen.Seen.{Seen}
use Rattle.qgm_build_terms.specs.declared.seen.Seen.TheVariants.{Nothing, NoneCounted, At}
use Rattle.qgm_build_terms.specs.declared.seen.Scopes.{Scopes, Outermost, Inside'}
use Rattle.qgm_build_terms.specs.declared.slots.Slots.{Slots as Written}

abbrev pub ref_of : Seen → Ref
ref_of Nothing = nothing
ref_of NoneCounted = none_counted
ref_of (At q k) = column q k

abbrev pub frame_of : List Seen → Frame
frame_of xs = map ref_of xs

abbrev pub ref_or : Option Seen → Ref
ref_or None = nothing
ref_or (Some x) = ref_of x

-- the frames of the enclosing blocks
abbrev pub map_of : Scopes → Map
map_of Outermost = []
map_of (Inside' frame _ outer) = frame_of frame.now ∷ map_of outer

-- the numbers of quantifiers, and where aggregates are seen
abbrev pub slots_with : List OwnedQuant → List Seen → Slots
slots_with os cells = record { quants = map (λ (o : OwnedQuant). o.id) os; cells = frame_of cells }

-- the numbers of quantifiers, and where aggregates are seen, as a frame
abbrev pub slots_from : List OwnedQuant → Frame → Slots
slots_from os cells = record { quants = map (λ (o : OwnedQuant). o.id) os; cells = cells }

abbrev pub slots_of : Written → Slots
slots_of s = slots_with s.quants.now s.cells.now

-- without the first
abbrev pub without_quant : Slots → Slots
without_quant s = record s { quants = rest_of s.quants }

abbrev pub without_cell : Slots → Slots
without_cell s = record s { cells = rest_of s.cells }
