-- Plans and rows that are taken, from the last box.
use Rattle.std.proofs.Common.{ℕ, suc, zero, ◌≡◌, ◌<◌, ◌≤◌, ◌+◌, ◌++◌, Bool, cond, List, [], ◌∷◌, drop, get_or, length, slice_get, Option, Some, None, refl, sym, ◌∙◌, ap, subst, arith}
use Rattle.row_bag.specs.declared.tables.Table.{Table}
use Rattle.qgm_core.specs.Boxes.{Ordered}
use Rattle.qgm_core.specs.declared.node.Node.{Node}
use Rattle.qgm_meaning.specs.Meaning.{bag_in}
use Rattle.box_exec.specs.Costs.{Between}
use Rattle.box_exec.specs.Taken.{taken_by}
use Rattle.box_exec.specs.Takings.{AllSeek, PlanSeeks, asked_takings, kept_takings}
use Rattle.box_exec.specs.declared.plan.Plan.{Plan}
use Rattle.box_exec.proofs.Entries.{get-before, get-end, here}
use Rattle.box_exec.proofs.Takings.{ordered-drop}

-- ---- plans from the last box

seek-longer : (kept : ℕ → Bool) (plans : List (Option Plan)) (p : Option Plan) (ns : List Node) → length ns ≤ length plans → AllSeek kept plans ns → AllSeek kept (plans ++ p ∷ []) ns
seek-longer kept plans p [] l h = tt
seek-longer kept plans p (n ∷ ns) l h = (subst (PlanSeeks kept n) (sym (get-before plans p (length ns) (omega (arith, l)))) h.0, seek-longer kept plans p ns (omega (arith, l)) h.1)

-- of one box more
pub seek-more : (kept : ℕ → Bool) (plans : List (Option Plan)) (p : Option Plan) (ns : List Node) (i j : ℕ) (n : Node) → j ≡ i + 1 → i < length ns → n ≡ get_or ns i n → length plans ≡ length (drop j ns) → PlanSeeks kept n (Some p) → AllSeek kept plans (drop j ns)
    → AllSeek kept (plans ++ p ∷ []) (drop i ns)
seek-more kept plans p ns i j n e l at many fits h =
    subst (AllSeek kept (plans ++ p ∷ [])) (sym (here ns i j n e l at))
    (subst (PlanSeeks kept n) (sym (get-end plans p (length (drop j ns)) (sym many))) fits, seek-longer kept plans p (drop j ns) (omega (arith, many)) h)

get-past : {X : Type 0} (xs : List X) (i : ℕ) → i ≡ length xs → slice_get xs i ≡ None
get-past [] i e = refl
get-past (x ∷ xs) zero e = absurd (omega (arith, e))
get-past (x ∷ xs) (suc i) e = get-past xs i (omega (arith, e))

-- none is made yet of the box before them
pub seek-first : (kept : ℕ → Bool) (plans : List (Option Plan)) (n : Node) (ns : List Node) → length plans ≡ length ns → AllSeek kept plans ns → AllSeek kept plans (n ∷ ns)
seek-first kept plans n ns many h = (subst (PlanSeeks kept n) (sym (get-past plans (length ns) (sym many))) tt, h)

pub ordered-here : (ns : List Node) (i j : ℕ) (n : Node) → j ≡ i + 1 → i < length ns → n ≡ get_or ns i n → Ordered ns → Ordered (n ∷ drop j ns)
ordered-here ns i j n e l at h = subst Ordered (here ns i j n e l at) (ordered-drop ns i h)

-- one more box is evaluated, if it is kept
pub kept-taken : (tables : List Table) (kept : ℕ → Bool) (ns : List Node) (i j : ℕ) (n : Node) → j ≡ i + 1 → i < length ns → n ≡ get_or ns i n → (keep : Bool) → keep ≡ kept n.id → (old s new : ℕ) → Between 0 (kept_takings tables kept (drop j ns)) old s
    → Between 0 (cond keep (taken_by kept n.parts.kind n (bag_in tables (drop j ns)) (asked_takings tables kept (drop j ns)) []) 0) s new → Between 0 (kept_takings tables kept (drop i ns)) old new
kept-taken tables kept ns i j n e l at keep flag old s new h k =
    let one : ℕ = taken_by kept n.parts.kind n (bag_in tables (drop j ns)) (asked_takings tables kept (drop j ns)) [] in
    let sum : kept_takings tables kept (drop i ns) ≡ cond keep one 0 + kept_takings tables kept (drop j ns) =
    ap (kept_takings tables kept) (here ns i j n e l at) ∙ ap (λ (b : Bool). cond b one 0 + kept_takings tables kept (drop j ns)) (sym flag) in
    (omega (arith, h.0, k.0), omega (arith, h.1, k.1, sum))
