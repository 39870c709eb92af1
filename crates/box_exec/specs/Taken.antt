-- How many rows selects take for their F quantifiers: by look-ups in indexes, and by loops where there is none.
use Rattle.std.specs.Prelude.{ℕ, suc, zero, ◌+◌, ◌==◌, ◌&&◌, ◌||◌, ◌++◌, not, if◌then◌else◌, Bool, true, List, [], ◌∷◌, Option, Some, None, drop, filter, length, take}
use Rattle.std.specs.List.{flat_map, list_all, list_any, position, remove}
use Rattle.std.specs.Ordering.{is_eq}
use Rattle.row_bag.specs.Bags.{total}
use Rattle.row_bag.specs.declared.tables.Table.{Table}
use Rattle.list_laws.specs.Lists.{holds}
use Rattle.qgm_core.specs.Boxes.{QueryGraph, is_quant}
use Rattle.qgm_core.specs.Free.{free_in, reached}
use Rattle.qgm_core.specs.Kinds.{is_F}
use Rattle.qgm_core.specs.declared.kinds.BoxKind.{BoxKind}
use Rattle.qgm_core.specs.declared.kinds.BoxKind.TheVariants.{Base, Select, Group, SetOp, OuterJoin}
use Rattle.qgm_core.specs.declared.node.Node.{Node}
use Rattle.qgm_core.specs.declared.owned.OwnedQuant.{OwnedQuant}
use Rattle.qgm_meaning.specs.Meaning.{Family, bag}
use Rattle.qgm_meaning.specs.Plain.{Counts, under_each, under_rows}
use Rattle.qgm_meaning.specs.Ranks.{by_rank}
use Rattle.qgm_meaning.specs.Values.{Environment, bound}
use Rattle.qgm_terms.specs.Named.{columns_in}
use Rattle.qgm_terms.specs.Terms.{Cond, Term, Sign, equal, unequal, below, at_most, above, at_least, same, like, always, compare, is_null, and, or, some, every}
use Rattle.qgm_terms.specs.Terms as terms
use Rattle.qgm_terms.specs.Wanted.{node_free, reads}
use Rattle.sql_value.specs.Cells.{cell_compare}
use Rattle.sql_value.specs.declared.cell.Cell.{Cell}
use Rattle.box_exec.specs.Early.{names_any, reads_any}
use Rattle.box_exec.specs.Equalities.{is_nowhere, is_plain, other_of, own_of}
use Rattle.box_exec.specs.Kept.{is_nil}
use Rattle.box_exec.specs.declared.key.Equality.{Equality}
use Rattle.box_exec.specs.declared.key.Equality.TheVariants.{Same, Equal}

-- ---- keys

-- an equality by which rows are looked up: an expression over the row that is looked up, and one without it
pub record Match : Type 0 where
  pub own : Term
  pub other : Term
  pub by : Equality

-- an expression reads the row of q and of no other quantifier; no scalar, some or every stands within
abbrev pub is_own : ℕ → Term → Bool
is_own q x = node_free x && (reads q x && list_all (λ k. k.quant == q) (columns_in x))

-- an expression doesn't read the row of q; no scalar, some or every stands within
abbrev pub is_other : ℕ → Term → Bool
is_other q x = node_free x && not (reads q x)

abbrev pub one_way : ℕ → Equality → Term → Term → List Match
one_way q by a b = if is_own q a && is_other q b then record { own = a; other = b; by = by } ∷ [] else []

abbrev pub matched_by : ℕ → Sign → Term → Term → List Match
matched_by q equal a b = one_way q Equal a b ++ one_way q Equal b a
matched_by q same a b = one_way q Same a b ++ one_way q Same b a
matched_by q unequal a b = []
matched_by q below a b = []
matched_by q at_most a b = []
matched_by q above a b = []
matched_by q at_least a b = []
matched_by q like a b = []

-- what a condition asks of rows of q, if it is such an equality
abbrev pub matched : ℕ → Cond → List Match
matched q (compare sign a b) = matched_by q sign a b
matched q always = []
matched q (is_null x) = []
matched q (and c d) = []
matched q (or c d) = []
matched q (terms.not c) = []
matched q (some r c) = []
matched q (every r c) = []

-- what the conditions of a box ask of rows of r that read none of rs, which are bound later
abbrev pub matches : Node → OwnedQuant → List OwnedQuant → List Match
matches n r rs = flat_map (matched r.id) (filter (λ c. not (names_any c n.quants || reads_any c rs)) n.parts.conds.items)

-- ---- look-ups

-- a key lets a row of q pass: one with an error in its own cell; else, where the other cell isn't null beside `=`, each if that is an error, and one whose own cell is the other one
abbrev pub passes : ℕ → Environment → List Cell → Match → Bool
passes q env cells m =
    not (is_plain m.by (own_of q m.own cells))
    || (not (is_nowhere m.by (other_of m.other env)) && (not (is_plain m.by (other_of m.other env)) || is_eq (cell_compare (own_of q m.own cells) (other_of m.other env))))

-- a look-up takes a row that all keys let pass
abbrev pub takes : List Match → ℕ → Environment → List Cell → Bool
takes ms q env cells = list_all (passes q env cells) ms

-- ---- ways to choose rows

-- a row of r is taken, before those of rs are bound: of a closed box, one that a look-up by its keys takes; of an open one, each
abbrev pub is_taken : (ℕ → Bool) → Node → OwnedQuant → List OwnedQuant → Environment → List Cell → Bool
is_taken closed n r rs env cells = not (closed r.over) || takes (matches n r rs) r.id env cells

-- the ways to choose rows for the first F quantifier of these, for the first two, and so on up to all, each row one that is taken for those before it
abbrev pub ways : (ℕ → Bool) → Node → List OwnedQuant → Family → Environment → ℕ
ways closed n [] bags env = 0
ways closed n (r ∷ rs) bags env =
    if is_F r.kind
    then total ◌+◌ 0 (λ cells level. if is_taken closed n r rs env cells then 1 + ways closed n rs bags (bound r.id cells env) else 0) (bags r.over env)
    else ways closed n rs bags env

-- ---- the order in which quantifiers are bound

-- an expression reads a row, and none of these
abbrev pub reads_others : List OwnedQuant → Term → Bool
reads_others left x = list_any (λ k. true) (columns_in x) && not (list_any (λ k. list_any (is_quant k.quant) left) (columns_in x))

-- a condition of the box is a key of r to others than these
abbrev pub has_key : Node → List OwnedQuant → OwnedQuant → Bool
has_key n left r = list_any (λ c. list_any (λ m. reads_others left m.other) (matched r.id c)) n.parts.conds.items

-- the place that is found, else the first
abbrev pub or_first : Option ℕ → ℕ
or_first None = 0
or_first (Some place) = place

-- the place of the first of those that are left which has a key to others; without one the first place
abbrev pub next_place : Node → List OwnedQuant → ℕ
next_place n left = or_first (position (has_key n left) left)

-- so many of those that are left, one after the other
abbrev pub in_turn : Node → ℕ → List OwnedQuant → List OwnedQuant
in_turn n zero left = []
in_turn n (suc many) left = take 1 (drop (next_place n left) left) ++ in_turn n many (remove left (next_place n left))

-- of a select: in turn where all its quantifiers range over closed boxes, else as in its text
abbrev pub bound_order : (ℕ → Bool) → Node → List OwnedQuant
bound_order closed n = if list_all (λ r. closed r.over) n.quants then in_turn n (length n.quants) n.quants else n.quants

-- ---- evaluations

-- one evaluation of a box, over those of the boxes below it
abbrev pub taken_by : (ℕ → Bool) → BoxKind → Node → Family → Counts → Environment → ℕ
taken_by closed (Base table) n bags count env = 0
taken_by closed Select n bags count env = ways closed n (bound_order closed n) bags env + under_rows n.quants n.quants bags count env
taken_by closed (Group keys) n bags count env = under_each n.quants count env
taken_by closed (SetOp operator types) n bags count env = under_each n.quants count env
taken_by closed OuterJoin n bags count env = under_each n.quants count env

-- a closed box counts by itself, once
abbrev pub unless_closed : (ℕ → Bool) → Counts → Counts
unless_closed closed count b env = if closed b then 0 else count b env

-- one evaluation of a box among these, which evaluates the open boxes below it
abbrev pub taken : (ℕ → Bool) → Family → List Node → Counts
taken closed bags ns b env = by_rank {X = Environment → ℕ} (λ env. 0) (λ n behind env. taken_by closed n.parts.kind n bags (unless_closed closed behind) env) ns b env

-- each of these boxes that is reached and closed, once
abbrev pub taken_among : (ℕ → Bool) → Family → List Node → List ℕ → List Node → ℕ
taken_among closed bags boxes marks [] = 0
taken_among closed bags boxes marks (n ∷ ns) =
    (if holds n.id marks && closed n.id then taken closed bags boxes n.id [] else 0) + taken_among closed bags boxes marks ns

-- summed over the evaluations of selects that `plain` counts
abbrev pub ways_number : List Table → QueryGraph → ℕ
ways_number tables g = taken_among (λ b. is_nil (free_in g.boxes b)) (bag tables g) g.boxes (reached (g.root ∷ []) g.boxes) g.boxes
