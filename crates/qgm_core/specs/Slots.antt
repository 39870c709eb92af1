-- The slots of boxes: a box's number is its slot.
use Rattle.std.specs.Prelude.{ℕ, ◌≡◌, ◌<◌, ◌+◌, ◌++◌, ◌&&◌, nat_lt, if◌then◌else◌, Bool, true, false, not, List, [], ◌∷◌, Option, Some, None, filter, length, slice_index_or}
use Rattle.std.specs.List.{flat_map, list_all, list_any}
use Rattle.qgm_core.specs.Boxes.{ids_of, numbers, overs_in}
use Rattle.qgm_core.specs.Free.{free_in, named_by, put_each, reached}
use Rattle.qgm_core.specs.Numbered.{Numbered}
use Rattle.list_laws.specs.Lists.{holds, times}
use Rattle.qgm_core.specs.declared.node.Node.{Node}
use Rattle.qgm_core.specs.declared.owned.OwnedQuant.{OwnedQuant}

-- by slot, how many quantifiers range over the box, and its free quantifiers where they are kept; and the slots that no box has
pub record SlotTable : Type 0 where
  pub uses : List ℕ
  pub lists : List (Option (List ℕ))
  pub vacant : List ℕ

-- what is kept of a box: none is stale
abbrev pub kept : ℕ → SlotTable → Option (List ℕ)
kept b t = slice_index_or t.lists b None

-- how often a number is a slot
abbrev pub slot_times : ℕ → SlotTable → ℕ
slot_times x t = if nat_lt x (length t.lists) then 1 else 0

-- each slot is vacant or one box's, once, and no other number is
abbrev pub EachSlotOnce : SlotTable → List Node → Type 0
EachSlotOnce t boxes = (x : ℕ) → times x t.vacant + times x (numbers boxes) ≡ slot_times x t

-- the kept numbers are those of the quantifiers over each box
abbrev pub CountsUses : List ℕ → List Node → Type 0
CountsUses uses boxes = (x : ℕ) → x < length uses → slice_index_or uses x 0 ≡ times x (overs_in boxes)

-- each list that is kept is the box's free quantifiers
abbrev pub KeepsFree : SlotTable → List Node → Type 0
KeepsFree t boxes = (b : ℕ) (qs : List ℕ) → kept b t ≡ Some qs → free_in boxes b ≡ qs

-- the table is right for these boxes
abbrev pub Stored : SlotTable → List Node → Type 0
Stored t boxes = EachSlotOnce t boxes × CountsUses t.uses boxes × KeepsFree t boxes

-- boxes with numbers of their own, all of them slots, quantifiers with numbers below the next, and the table is right
abbrev pub Sound : SlotTable → ℕ → List Node → Type 0
Sound t next_quant boxes = Numbered (length t.lists) next_quant boxes × Stored t boxes

-- ---- what a call makes of a table

-- one of these stands among those
abbrev pub meets : List ℕ → List ℕ → Bool
meets cs marks = list_any (λ m. holds m cs) marks

-- the lists of all that reach box c are stale, and no other
abbrev pub Marked : ℕ → List Node → SlotTable → SlotTable → Type 0
Marked c boxes t u = (u.uses ≡ t.uses) × (u.vacant ≡ t.vacant) × (length u.lists ≡ length t.lists)
    × ((b : ℕ) → kept b u ≡ (if holds c (reached (b ∷ []) boxes) then None else kept b t))

-- the lists of all that reach one of these boxes are stale, and no other
abbrev pub EachMarked : List ℕ → List Node → SlotTable → SlotTable → Type 0
EachMarked cs boxes t u = (u.uses ≡ t.uses) × (u.vacant ≡ t.vacant) × (length u.lists ≡ length t.lists)
    × ((b : ℕ) → kept b u ≡ (if meets cs (reached (b ∷ []) boxes) then None else kept b t))

-- the uses are those of these boxes
abbrev pub Recounted : List Node → SlotTable → SlotTable → Type 0
Recounted boxes t u = (u.vacant ≡ t.vacant) × (u.lists ≡ t.lists) × CountsUses u.uses boxes

-- so many slots, with no list
abbrev pub Cleared : ℕ → SlotTable → Type 0
Cleared m t = (t.vacant ≡ []) × (length t.lists ≡ m) × ((b : ℕ) → kept b t ≡ None)

-- ---- stale lists

abbrev pub is_stale : Option (List ℕ) → Bool
is_stale None = true
is_stale (Some qs) = false

-- how many of these boxes have a stale list
abbrev pub stale_in : SlotTable → List Node → ℕ
stale_in t [] = 0
stale_in t (n ∷ ns) = (if is_stale (kept n.id t) then 1 else 0) + stale_in t ns

-- the list that is kept, else this one
abbrev pub list_or : List ℕ → Option (List ℕ) → List ℕ
list_or qs None = qs
list_or qs (Some rs) = rs

-- a quantifier ranges over a marked box whose list is kept
abbrev pub is_kept_behind : SlotTable → List ℕ → OwnedQuant → Bool
is_kept_behind t behind r = holds r.over behind && not (is_stale (kept r.over t))

-- what a box names, and what is kept as free in those under it
abbrev pub told_names : SlotTable → Node → List ℕ
told_names t n = named_by n ++ flat_map (λ r. list_or [] (kept r.over t)) n.quants

-- a box ranges over marked boxes whose lists are kept, and these quantifiers aren't among the names
abbrev pub is_told : SlotTable → List ℕ → List ℕ → Node → Bool
is_told t behind owned n = list_all (is_kept_behind t behind) n.quants && not (list_any (λ q. holds q owned) (told_names t n))

-- these names, ascending, each once, without those that the box owns
abbrev pub told : SlotTable → Node → List ℕ
told t n = put_each [] (filter (λ q. not (holds q (ids_of n))) (told_names t n))

-- a box is marked too, where those that it ranges over are
abbrev pub behind_with : Node → List ℕ → List ℕ
behind_with n behind = if list_all (λ r. holds r.over behind) n.quants then behind ++ n.id ∷ [] else behind

-- and its quantifiers are
abbrev pub owned_with : Node → List ℕ → List ℕ → List ℕ
owned_with n behind owned = if list_all (λ r. holds r.over behind) n.quants then owned ++ ids_of n else owned

-- no slot is another, and no list is lost
abbrev pub Refreshed : SlotTable → SlotTable → Type 0
Refreshed t u = (u.uses ≡ t.uses) × (u.vacant ≡ t.vacant) × (length u.lists ≡ length t.lists) × ((b : ℕ) (qs : List ℕ) → kept b t ≡ Some qs → kept b u ≡ Some qs)
