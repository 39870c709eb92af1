-- Whether what is known of a box improves, as a test of it.
use Rattle.std.specs.Prelude.{◌&&◌, ◌||◌, not, Bool, true, false, List, [], ◌∷◌}
use Rattle.qgm_core.specs.Boxes.{width}
use Rattle.qgm_core.specs.declared.node.Node.{Node}
use Rattle.qgm_props.specs.Inferred.{Facts, at_most_one_by, clean_by, exactly_one_by, free_by, not_null_by}
use Rattle.qgm_props.specs.Table.{flags}
use Rattle.qgm_props.specs.declared.facts.BoxFacts.{BoxFacts}

-- there is a flag beside each of these, and it is set only where that is
abbrev pub settled_flags : List Bool → List Bool → Bool
settled_flags [] bs = true
settled_flags (a ∷ rest) [] = false
settled_flags (a ∷ rest) (b ∷ bs) = (a || not b) && settled_flags rest bs

-- nothing is inferred of a box that isn't known
abbrev pub is_settled : List Node → Facts → Node → BoxFacts → Bool
is_settled boxes known n f =
    ((((f.clean || not (clean_by boxes known n.parts.kind n))
    && (f.at_most_one || not (known.exactly_one n.id || at_most_one_by boxes known n.parts.kind n)))
    && (f.exactly_one || not (exactly_one_by boxes known n.parts.kind n)))
    && settled_flags f.error_free (flags (width n) (free_by boxes known n.parts.kind n)))
    && settled_flags f.not_null (flags (width n) (not_null_by boxes known n.parts.kind n))
