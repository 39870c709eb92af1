-- Keys as they are found and indexed, against the equalities that conditions are.
use Rattle.std.specs.Prelude.{ℕ, suc, ◌≡◌, ◌<◌, ◌+◌, ◌++◌, ◌==◌, not, if◌then◌else◌, true, List, [], ◌∷◌, Option, Some, None, filter, get_or, length, map, slice_get}
use Rattle.std.specs.List.{flat_map}
use Rattle.qgm_core.specs.Kinds.{is_F}
use Rattle.qgm_core.specs.declared.node.Node.{Node}
use Rattle.qgm_core.specs.declared.owned.OwnedQuant.{OwnedQuant}
use Rattle.qgm_terms.specs.Shown.{cond, term}
use Rattle.qgm_terms.specs.Terms.{Cond, Term}
use Rattle.box_exec.specs.Early.{names_any, reads_any}
use Rattle.box_exec.specs.Taken.{Match, matched, one_way}
use Rattle.box_exec.specs.declared.early.Early.{Early}
use Rattle.box_exec.specs.declared.key.Equality.{Equality}
use Rattle.box_exec.specs.declared.key.Key.{Key}
use Rattle.box_exec.specs.declared.lookup.Keyed.{Keyed}
use Rattle.box_exec.specs.declared.under.Loop.{Loop}

-- ---- keys

abbrev pub shown_key : Key → Match
shown_key key = record { own = term key.own.now; other = term key.other.now; by = key.by }

abbrev pub shown_keys : List Key → List Match
shown_keys keys = map shown_key keys

-- the key that is found, if one is
abbrev pub shown_if : Option Key → List Match
shown_if None = []
shown_if (Some key) = shown_key key ∷ []

-- what two expressions ask of rows of q, by an equality, if there is one
abbrev pub either_way : ℕ → Option Equality → Term → Term → List Match
either_way q None a b = []
either_way q (Some by) a b = one_way q by a b ++ one_way q by b a

-- those that are made, if there are any
abbrev pub keys_made : Option Keyed → List Match
keys_made None = []
keys_made (Some k) = shown_keys k.keys.items

abbrev pub keys_in : Option (Option Keyed) → List Match
keys_in None = []
keys_in (Some o) = keys_made o

-- those at a place
abbrev pub keys_at : List (Option Keyed) → ℕ → List Match
keys_at ks i = keys_in (slice_get ks i)

-- ---- conditions that are tested early

-- the first place from which on a condition reads none of these
abbrev pub place_in : Cond → List OwnedQuant → ℕ
place_in c [] = 0
place_in c (r ∷ rs) = if reads_any c (r ∷ rs) then suc (place_in c rs) else 0

-- a condition at its place
abbrev pub shown_early : Early → ℕ × Cond
shown_early e = (e.place, cond e.cond.now)

abbrev pub placed_early : List OwnedQuant → Cond → ℕ × Cond
placed_early rs c = (place_in c rs, c)

-- the conditions of the box that name none of its quantifiers in nodes, each at its place
abbrev pub AreEarly : Node → List OwnedQuant → List Early → Type 0
AreEarly n rs es = map shown_early es ≡ map (placed_early rs) (filter (λ c. not (names_any c n.quants)) n.parts.conds.items)

-- what a condition asks of rows of q, if it is tested at this place
abbrev pub matched_at : ℕ → ℕ → ℕ × Cond → List Match
matched_at place q e = if e.0 == place then matched q e.1 else []

abbrev pub tested_at : List Early → ℕ → ℕ → List Match
tested_at es place q = flat_map (λ e. matched_at place q (shown_early e)) es

-- ---- keys that are asked for

-- each F quantifier has all keys that are tested when it is bound
abbrev pub AllAsked : List Early → List Loop → List (Option Keyed) → Type 0
AllAsked es ls ks = (i : ℕ) (l : Loop) → i < length ls → l ≡ get_or ls i l → is_F l.range.kind ≡ true → keys_at ks i ≡ tested_at es (i + 1) l.range.id
