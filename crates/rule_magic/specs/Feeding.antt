-- A fed box with the boxes under it, and what G2 to G5 ask of it by what is inferred, as a test.
use Rattle.std.specs.Prelude.{ℕ, ◌&&◌, if◌then◌else◌, not, nat_le, Bool, false, List, [], ◌∷◌, Option, Some, None, length}
use Rattle.qgm_core.specs.Boxes.{QueryGraph, box_of, is_box, width}
use Rattle.qgm_core.specs.Kinds.{is_fed}
use Rattle.list_laws.specs.Lists.{first}
use Rattle.qgm_core.specs.declared.node.Node.{Node}
use Rattle.qgm_core.specs.declared.owned.OwnedQuant.{OwnedQuant}
use Rattle.qgm_props.specs.Calm.{is_closed}
use Rattle.qgm_props.specs.Inferred.{Facts, all_places, at_most_one, clean, error_free, exactly_one, not_null}
use Rattle.rule_api.specs.Picks.{picked}
use Rattle.rule_api.specs.Rules.{Pair}
use Rattle.rule_facts.specs.Told.{infers}
use Rattle.rule_magic.specs.declared.fed.Fed.{Fed}

-- ---- what is found

-- a fed box d with its quantifiers a over m and r over c
pub record Feeding : Type 0 where
  pub d : Node
  pub a : OwnedQuant
  pub m : Node
  pub r : OwnedQuant
  pub c : Node

-- what the code holds
abbrev pub as_feeding : Fed → Feeding
as_feeding f = record { d = f.d.now; a = f.a; m = f.m.now; r = f.r; c = f.c.now }

abbrev pub both_found : Node → OwnedQuant → OwnedQuant → Option Node → Option Node → Option Feeding
both_found d a r None c = None
both_found d a r (Some m) None = None
both_found d a r (Some m) (Some c) = Some (record { d = d; a = a; m = m; r = r; c = c })

-- of two quantifiers that are all
abbrev pub under_two : List Node → Node → List OwnedQuant → Option Feeding
under_two bs d [] = None
under_two bs d (a ∷ []) = None
under_two bs d (a ∷ (r ∷ [])) = both_found d a r (first (is_box a.over) bs) (first (is_box r.over) bs)
under_two bs d (a ∷ (r ∷ (s ∷ rs))) = None

abbrev pub feeding_found : List Node → Option Node → Option Feeding
feeding_found bs None = None
feeding_found bs (Some d) = if is_fed d.parts.role then under_two bs d d.quants else None

-- box b, if it is fed
abbrev pub feeding : QueryGraph → ℕ → Option Feeding
feeding g b = feeding_found g.boxes (box_of b g)

-- ---- what is asked of it

-- all that is inferred of the boxes
abbrev pub inferred_facts : List Node → Facts
inferred_facts bs = record {
  clean = λ b. infers bs (clean b);
  error_free = λ b k. infers bs (error_free b k);
  not_null = λ b k. infers bs (not_null b k);
  at_most_one = λ b. infers bs (at_most_one b);
  exactly_one = λ b. infers bs (exactly_one b);
}

-- m is inferred clean, and its columns error-free
abbrev pub is_faultless : List Node → Node → Bool
is_faultless bs m = infers bs (clean m.id) && all_places (width m) (λ k. infers bs (error_free m.id k))

-- so is the magic box, which is closed, and the other box is open
abbrev pub is_ready : List Node → Feeding → Bool
is_ready bs f = is_faultless bs f.m && (is_closed bs f.m.id && not (is_closed bs f.c.id))

-- new boxes may still be added
abbrev pub are_few : List Node → Bool
are_few bs = nat_le (length bs) 65530

-- ---- places

-- a test of a fed box that is found
abbrev pub of_feeding : (Feeding → Bool) → Option Feeding → Bool
of_feeding t None = false
of_feeding t (Some f) = t f

-- box b is a place, if it is fed and passes
abbrev pub feeding_pairs : (QueryGraph → Feeding → Bool) → QueryGraph → ℕ → List Pair
feeding_pairs t g b = picked (of_feeding (t g) (feeding g b)) 0 0
