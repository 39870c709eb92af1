use Rattle.std.proofs.Common.{◌≡◌, ◌++◌, drop}
use Rattle.std.specs.List.{flat_map}
use Rattle.sql_names.specs.Places as places
use Rattle.sql_names.proofs.grouping.all_places.Given as goal

abbrev pub invariant-loop-d : goal.invariant-loop-d
invariant-loop-d l = l.out ++ flat_map (λ d. places.places_meant d (places.columns_in l.scope)) (drop l.d-index l.by) ≡ flat_map (λ d. places.places_meant d (places.columns_in l.scope)) l.by
