-- How often boxes are evaluated by loops that skip nothing.
use Rattle.std.specs.Prelude.{ℕ, ◌+◌, if◌then◌else◌, List, [], ◌∷◌}
use Rattle.row_bag.specs.Bags.{total}
use Rattle.row_bag.specs.declared.tables.Table.{Table}
use Rattle.qgm_core.specs.Boxes.{QueryGraph}
use Rattle.qgm_core.specs.Free.{free_in, reached}
use Rattle.qgm_core.specs.Kinds.{is_F}
use Rattle.list_laws.specs.Lists.{holds}
use Rattle.qgm_core.specs.declared.kinds.BoxKind.{BoxKind}
use Rattle.qgm_core.specs.declared.kinds.BoxKind.TheVariants.{Base, Select, Group, SetOp, OuterJoin}
use Rattle.qgm_core.specs.declared.node.Node.{Node}
use Rattle.qgm_core.specs.declared.owned.OwnedQuant.{OwnedQuant}
use Rattle.qgm_meaning.specs.Meaning.{Family, bag}
use Rattle.qgm_meaning.specs.Ranks.{by_rank}
use Rattle.qgm_meaning.specs.Values.{Environment, bound}

-- how many evaluations of boxes one evaluation of a box takes, by its number
abbrev pub Counts : Type 0
Counts = ℕ → Environment → ℕ

-- of the boxes under each of these
abbrev pub under_each : List OwnedQuant → Counts → Environment → ℕ
under_each [] count env = 0
under_each (r ∷ rs) count env = count r.over env + under_each rs count env

-- of the boxes under the E, A and S quantifiers among these
abbrev pub under_others : List OwnedQuant → Counts → Environment → ℕ
under_others [] count env = 0
under_others (r ∷ rs) count env = (if is_F r.kind then 0 else count r.over env) + under_others rs count env

-- of the boxes under the F quantifiers among these, each once for each combination of rows of those before it, and of the boxes under others, once for each combination of all
abbrev pub under_rows : List OwnedQuant → List OwnedQuant → Family → Counts → Environment → ℕ
under_rows [] all bags count env = under_others all count env
under_rows (r ∷ rs) all bags count env =
    if is_F r.kind
    then count r.over env + total ◌+◌ 0 (λ cells level. under_rows rs all bags count (bound r.id cells env)) (bags r.over env)
    else under_rows rs all bags count env

abbrev pub counted_by : BoxKind → Node → Family → Counts → Environment → ℕ
counted_by (Base table) n bags count env = 1
counted_by Select n bags count env = 1 + under_rows n.quants n.quants bags count env
counted_by (Group keys) n bags count env = 1 + under_each n.quants count env
counted_by (SetOp operator types) n bags count env = 1 + under_each n.quants count env
counted_by OuterJoin n bags count env = 1 + under_each n.quants count env

-- a closed box counts by itself, once
abbrev pub if_open : List ℕ → ℕ → ℕ
if_open [] count = 0
if_open (q ∷ free) count = count

-- one evaluation of a box among these, which evaluates the open boxes below it
abbrev pub counted : List Node → Family → List Node → Counts
counted boxes bags ns b env = by_rank {X = Environment → ℕ} (λ env. 0) (λ n below env. counted_by n.parts.kind n bags (λ c env. if_open (free_in boxes c) (below c env)) env) ns b env

abbrev pub if_closed : List ℕ → ℕ → ℕ
if_closed [] count = count
if_closed (q ∷ free) count = 0

-- each of these boxes that is reached and closed, once
abbrev pub closed_among : List Node → Family → List ℕ → List Node → ℕ
closed_among boxes bags marks [] = 0
closed_among boxes bags marks (n ∷ ns) =
    (if holds n.id marks then if_closed (free_in boxes n.id) (counted boxes bags boxes n.id []) else 0) + closed_among boxes bags marks ns

-- the evaluations of boxes by loops that skip nothing: each reached closed box once, and with each evaluation of a box that of the open box under each of its quantifiers, once, in a select once for each combination of rows
abbrev pub plain : List Table → QueryGraph → ℕ
plain tables g = closed_among g.boxes (bag tables g) (reached (g.root ∷ []) g.boxes) g.boxes
