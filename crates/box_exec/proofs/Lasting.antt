-- What is made once of a box: kept rows, indexes of them, and plans from the last box.
use Rattle.std.proofs.Common.{ℕ, suc, zero, ◌≡◌, ◌<◌, ◌≤◌, ◌+◌, ◌++◌, ◌==◌, ◌||◌, All, Bool, true, false, cond, List, [], ◌∷◌, drop, get_or, length, position, slice_get, Option, Some, None, add-one, refl, sym, ◌∙◌, ap, ap₂, subst, arith, inl, inr}
use Rattle.std.proofs.lemmas.Bool.{cases_Bool}
use Rattle.std.proofs.lemmas.List.Quantifiers.{position-Some}
use Rattle.qgm_core.specs.Boxes.{has_box, is_box, is_quant}
use Rattle.qgm_core.specs.declared.node.Node.{Node}
use Rattle.qgm_core.specs.declared.owned.OwnedQuant.{OwnedQuant}
use Rattle.qgm_meaning.specs.Values.{Bag}
use Rattle.box_exec.specs.Costs.{is_held}
use Rattle.box_exec.specs.Early.{IsEarly, is_open, rejects}
use Rattle.box_exec.specs.Hashed.{AllIdleUnder, HashesRight, IdleUnder}
use Rattle.box_exec.specs.Indexed.{AllIdle, IsIdleIndex}
use Rattle.box_exec.specs.Outer.{rejects_on}
use Rattle.box_exec.specs.declared.idle_index.IdleIndex.{IdleIndex}
use Rattle.box_exec.specs.Lasting.{AllIndexed, AllKeyed, AllPlanned, FitsPlan, IsOrder, IsPlan, KeyedAt, PlanFits, RightIndexed, rows_in, rows_kept, rows_stored}
use Rattle.box_exec.specs.Lookup.{FitsKeys, Hashes}
use Rattle.box_exec.specs.Plans.{Bound, Planned, StandsAt, ranges, stored, tables_of}
use Rattle.box_exec.specs.Sought.{OpensAs}
use Rattle.box_exec.specs.Ready.{Fit, Held, Ready, Stands, weight, weight_under}
use Rattle.box_exec.specs.declared.under.Under.{Under}
use Rattle.box_exec.specs.declared.under.Under.TheVariants.{Kept, Open, Nothing}
use Rattle.box_exec.specs.declared.boxes.At.{At}
use Rattle.box_exec.specs.declared.early.Early.{Early}
use Rattle.box_exec.specs.declared.lookup.Hashed.{Hashed}
use Rattle.box_exec.specs.declared.lookup.Keyed.{Keyed}
use Rattle.list_laws.specs.Lists.{first}
use Rattle.box_exec.specs.declared.order.Order.{Order}
use Rattle.box_exec.specs.declared.plan.Plan.{Plan}
use Rattle.row_bag.specs.declared.operand.Operand.{Operand}
use Rattle.box_exec.specs.declared.under.Loop.{Loop}
use Rattle.box_exec.proofs.Entries.{get-before, get-end, here}
use Rattle.box_exec.proofs.Places.{not-there}
use Rattle.box_exec.proofs.Quantifiers.{range-at, range-within}

-- ---- kept rows

stored-first : (memo : List (Option Operand)) (ns : List Node) (b i : ℕ) (d : Node) → i < length ns → is_box b (get_or ns i d) ≡ true → ((k : ℕ) → k < i → is_box b (get_or ns k d) ≡ false)
    → rows_stored memo ns b ≡ rows_in (slice_get memo (length (drop (suc i) ns)))
stored-first memo [] b i d l t before = absurd (omega (arith, l))
stored-first memo (n ∷ ns) b zero d l t before = ap (λ (x : Bool). cond x (rows_in (slice_get memo (length ns))) (rows_stored memo ns b)) t
stored-first memo (n ∷ ns) b (suc i) d l t before =
    ap (λ (x : Bool). cond x (rows_in (slice_get memo (length ns))) (rows_stored memo ns b)) (before zero (omega arith))
    ∙ stored-first memo ns b i d (omega (arith, l)) t (λ k m. before (suc k) (omega (arith, m)))

-- of a box that stands among these
pub stored-at : (memo : List (Option Operand)) (ns behind : List Node) (b i : ℕ) → position (is_box b) ns ≡ Some i → behind ≡ drop (i + 1) ns → rows_stored memo ns b ≡ rows_in (slice_get memo (length behind))
stored-at memo [] behind b i e is = absurd (let z : ⊥ = cc in z)
stored-at memo (n ∷ ns) behind b i e is =
    let h = position-Some (is_box b) (n ∷ ns) i n e in
    stored-first memo (n ∷ ns) b i n h.0 h.1 h.2
    ∙ ap (λ (k : ℕ). rows_in (slice_get memo (length (drop k (n ∷ ns))))) (sym (add-one i))
    ∙ ap (λ (ms : List Node). rows_in (slice_get memo (length ms))) (sym is)

stored-absent : (memo : List (Option Operand)) (ns : List Node) (b : ℕ) → has_box ns b ≡ false → rows_stored memo ns b ≡ []
stored-absent memo [] b h = refl
stored-absent memo (n ∷ ns) b h =
    elim (cases_Bool (n.id == b)) [
      | inl t ↦ absurd (let z : true ≡ false = sym (ap (λ (x : Bool). x || has_box ns b) t) ∙ h in let y : ⊥ = cc in y)
      | inr t ↦ ap (λ (x : Bool). cond x (rows_in (slice_get memo (length ns))) (rows_stored memo ns b)) t ∙ stored-absent memo ns b (sym (ap (λ (x : Bool). x || has_box ns b) t) ∙ h)
    ]

-- of one that doesn't
pub stored-none : (memo : List (Option Operand)) (ns : List Node) (b : ℕ) → position (is_box b) ns ≡ None → rows_stored memo ns b ≡ []
stored-none memo ns b e = stored-absent memo ns b (not-there ns b e)

pub held-in : (o : Option (Option Operand)) (rows : Bag) → Held o rows → rows ≡ rows_in o
held-in None rows h = absurd h
held-in (Some None) rows h = absurd h
held-in (Some (Some s)) rows h = h

pub none-in : (o : Option (Option Operand)) → is_held o ≡ false → [] ≡ rows_in o
none-in None h = refl
none-in (Some None) h = refl
none-in (Some (Some s)) h = absurd (let z : ⊥ = cc in z)

stored-longer : (memo : List (Option Operand)) (o : Option Operand) (ns : List Node) (b : ℕ) → length ns ≤ length memo → rows_stored memo ns b ≡ rows_stored (memo ++ o ∷ []) ns b
stored-longer memo o [] b l = refl
stored-longer memo o (n ∷ ns) b l =
    ap₂ (λ (x y : Bag). cond (n.id == b) x y) (ap rows_in (sym (get-before memo o (length ns) (omega (arith, l))))) (stored-longer memo o ns b (omega (arith, l)))

-- ---- indexes

-- a loop for each range
pub loop-at : (ls : List Loop) (i : ℕ) (r : OwnedQuant) → i < length (ranges ls) → r ≡ get_or (ranges ls) i r → (l : Loop) × ((i < length ls) × (l ≡ get_or ls i l) × (l.range ≡ r))
loop-at [] i r h e = absurd (omega (arith, h))
loop-at (m ∷ ls) zero r h e = (m, (omega arith, refl, sym e))
loop-at (m ∷ ls) (suc i) r h e = let x = loop-at ls i r (omega (arith, h)) e in let inside = x.1.0 in (x.0, (omega (arith, inside), x.1.1, x.1.2))

all-indexed : (rows : ℕ → Bag) (ls : List Loop) (es : List Early) (hs : List (Option Keyed)) → All (λ l. rows_kept l.under ≡ rows l.range.over) ls → AllKeyed es ls hs → AllIndexed es (ranges ls) rows hs
all-indexed rows ls es hs kept keyed i r h l at is =
    let x = loop-at ls i r l at in
    let m = x.0 in
    let same : rows_kept m.under ≡ rows m.range.over = subst (λ (y : Loop). rows_kept y.under ≡ rows y.range.over) (sym x.1.1) (kept i m x.1.0) in
    subst (λ (q : OwnedQuant). FitsKeys (rejects es (i + 1)) q.id (rows q.over) h) x.1.2
    (subst (λ (b : Bag). FitsKeys (rejects es (i + 1)) m.range.id b h) same (keyed i m h x.1.0 x.1.1 is))

pub indexed-of : (rs : List OwnedQuant) (rows : ℕ → Bag) (ls : List Loop) (es : List Early) (hs : List (Option Keyed)) → ranges ls ≡ rs → All (λ l. rows_kept l.under ≡ rows l.range.over) ls → AllKeyed es ls hs → AllIndexed es rs rows hs
indexed-of rs rows ls es hs e kept keyed = subst (λ (xs : List OwnedQuant). AllIndexed es xs rows hs) e (all-indexed rows ls es hs kept keyed)

-- the keys of a quantifier of a box
pub keyed-at : (at : At) → Bound at → (i : ℕ) (l : Loop) → i < length at.loops.now → l ≡ get_or at.loops.now i l → (h : Keyed) → slice_get at.keyed.now i ≡ Some (Some h) → KeyedAt at.early.now i l h
keyed-at at b i l inside is h found =
    let ls = at.loops.now in
    let same : rows_kept l.under ≡ stored at l.range.over = subst (λ (y : Loop). rows_kept y.under ≡ stored at y.range.over) (sym is) (b.rows i l inside) in
    subst (λ (rs : Bag). FitsKeys (rejects at.early.now (i + 1)) l.range.id rs h) (sym same) (b.plan.indexed i l.range h (range-within ls i inside) (range-at ls i l inside is) found)

-- ---- indexes of the rows of E and A quantifiers, and of the right rows of an outer join

all-idle : (rows : ℕ → Bag) (ls : List Loop) (xs : List (Option IdleIndex)) → All (λ l. rows_kept l.under ≡ rows l.range.over) ls → AllIdleUnder ls xs → AllIdle (ranges ls) rows xs
all-idle rows ls xs kept idle i r h l at is =
    let x = loop-at ls i r l at in
    let m = x.0 in
    let same : rows_kept m.under ≡ rows m.range.over = subst (λ (y : Loop). rows_kept y.under ≡ rows y.range.over) (sym x.1.1) (kept i m x.1.0) in
    subst (λ (q : OwnedQuant). IsIdleIndex (rows q.over) h) x.1.2
    (subst (λ (b : Bag). IsIdleIndex b h) same (idle i m x.1.0 x.1.1 h is))

pub idle-of : (rs : List OwnedQuant) (rows : ℕ → Bag) (ls : List Loop) (xs : List (Option IdleIndex)) → ranges ls ≡ rs → All (λ l. rows_kept l.under ≡ rows l.range.over) ls → AllIdleUnder ls xs → AllIdle rs rows xs
idle-of rs rows ls xs e kept idle = subst (λ (ys : List OwnedQuant). AllIdle ys rows xs) e (all-idle rows ls xs kept idle)

-- what stands under a quantifier of a box
pub stands-at : (at : At) → Planned at → (i : ℕ) (l : Loop) → i < length at.loops.now → l ≡ get_or at.loops.now i l → StandsAt at l
stands-at at p i l inside is = subst (λ (x : Loop). StandsAt at x) (sym is) (p.stand i l inside)

-- the index of a quantifier of a box
pub idle-at : (at : At) → Planned at → (i : ℕ) (l : Loop) → i < length at.loops.now → l ≡ get_or at.loops.now i l → IdleUnder at.idle.now i l.under
idle-at at p i l inside is x here =
    let ls = at.loops.now in
    let same : rows_kept l.under ≡ stored at l.range.over = subst (λ (y : Loop). rows_kept y.under ≡ stored at y.range.over) (sym is) (p.rows i l inside) in
    subst (λ (rs : Bag). IsIdleIndex rs x) (sym same) (p.idle i l.range x (range-within ls i inside) (range-at ls i l inside is) here)

right-of : (n : Node) (rows : ℕ → Bag) (ls : List Loop) (h : Hashed) → ranges ls ≡ n.quants → All (λ l. rows_kept l.under ≡ rows l.range.over) ls → HashesRight n ls h → RightIndexed n rows h
right-of n rows ls h e kept right = subst (λ (rs : List OwnedQuant). (q : OwnedQuant) → 1 < length rs → q ≡ get_or rs 1 q → Hashes (rejects_on n) q.id (rows q.over) h) e
    (λ q l at.
    let x = loop-at ls 1 q l at in
    let m = x.0 in
    let same : rows_kept m.under ≡ rows m.range.over = subst (λ (y : Loop). rows_kept y.under ≡ rows y.range.over) (sym x.1.1) (kept 1 m x.1.0) in
    subst (λ (r : OwnedQuant). Hashes (rejects_on n) r.id (rows r.over) h) x.1.2
    (subst (λ (b : Bag). Hashes (rejects_on n) m.range.id b h) same (right m x.1.0 x.1.1)))

pub rights-of : (n : Node) (rows : ℕ → Bag) (ls : List Loop) (hs : List Hashed) → ranges ls ≡ n.quants → All (λ l. rows_kept l.under ≡ rows l.range.over) ls → All (λ h. HashesRight n ls h) hs → All (λ h. RightIndexed n rows h) hs
rights-of n rows ls hs e kept all k d inside = right-of n rows ls (get_or hs k d) e kept (all k d inside)

pub right-at : (at : At) → Planned at → (q : Loop) → 1 < length at.loops.now → q ≡ get_or at.loops.now 1 q → (h : Hashed) → RightIndexed at.node.now (stored at) h → Hashes (rejects_on at.node.now) q.range.id (rows_kept q.under) h
right-at at p q inside is h right =
    let ls = at.loops.now in
    let same : rows_kept q.under ≡ stored at q.range.over = subst (λ (y : Loop). rows_kept y.under ≡ stored at y.range.over) (sym is) (p.rows 1 q inside) in
    subst (λ (rs : Bag). Hashes (rejects_on at.node.now) q.range.id rs h) (sym same)
    (subst (λ (rs : List OwnedQuant). 1 < length rs → q.range ≡ get_or rs 1 q.range → Hashes (rejects_on at.node.now) q.range.id (stored at q.range.over) h) (sym p.ranged) (right q.range) (range-within ls 1 inside) (range-at ls 1 q inside is))

pub one-all : {X : Type 0} (P : X → Type 0) (xs : List X) (x : X) → xs ≡ x ∷ [] → P x → All P xs
one-all {X = X} P xs x e p = subst (All P) (sym e) (λ k d l. one k d l)
  where
    one : (k : ℕ) (d : X) → k < length (x ∷ []) → P (get_or (x ∷ []) k d)
    one zero d l = p
    one (suc k) d l = absurd (omega (arith, l))

-- how much there is to go through under a quantifier
pub open-weight : (u : Under) → is_open u ≡ true → 0 < weight_under u
open-weight (Kept rows) h = absurd (let z : ⊥ = cc in z)
open-weight (Open n behind) h = omega arith
open-weight Nothing h = absurd (let z : ⊥ = cc in z)

pub under-weight : (at : At) (b : ℕ) (u : Under) → Stands (tables_of at) at.run.now.memo.now at.below.now b u → weight_under u ≤ weight at.below.now
under-weight at b (Kept rows) s = omega arith
under-weight at b (Open n behind) s = s.less
under-weight at b Nothing s = omega arith

-- ---- plans

nothing-at : (i : ℕ) (h : Keyed) → slice_get [] i ≡ Some (Some h) → ⊥
nothing-at i h e = let z : ⊥ = cc in z

-- one of nothing
pub none-planned : (n : Node) (rs : List OwnedQuant) (rows : ℕ → Bag) (es : List Early) (hs : List (Option Keyed)) → es ≡ [] → hs ≡ [] → IsPlan n rs rows es hs
none-planned n rs rows es hs ee eh = record {
  early = subst (All (λ e. IsEarly n rs e)) (sym ee) (λ k d l. absurd (omega (arith, l)));
  indexed = λ i r h l at is. absurd (nothing-at i h (subst (λ (xs : List (Option Keyed)). slice_get xs i ≡ Some (Some h)) eh is));
}

-- a box whose quantifiers are bound in this order
pub bound-by : (at : At) (ls : List Loop) (o : Order) → at.loops.now ≡ ls → at.early.now ≡ o.early.items → at.keyed.now ≡ o.keyed.items → ranges ls ≡ o.ranges.items
    → All (λ l. first (is_quant l.range.id) at.node.now.quants ≡ Some l.range) ls → All (λ l. StandsAt at l) ls → All (λ l. rows_kept l.under ≡ stored at l.range.over) ls
    → IsPlan at.node.now o.ranges.items (stored at) o.early.items o.keyed.items → Bound at
bound-by at ls o el ee eh ranged own stand rows plan = record {
  own = subst (All (λ l. first (is_quant l.range.id) at.node.now.quants ≡ Some l.range)) (sym el) own;
  stand = subst (All (λ l. StandsAt at l)) (sym el) stand;
  rows = subst (All (λ l. rows_kept l.under ≡ stored at l.range.over)) (sym el) rows;
  plan = subst (λ (rs : List OwnedQuant). IsPlan at.node.now rs (stored at) at.early.now at.keyed.now) (sym (ap ranges el ∙ ranged))
      (subst (λ (xs : List Early). IsPlan at.node.now o.ranges.items (stored at) xs at.keyed.now) (sym ee) (subst (IsPlan at.node.now o.ranges.items (stored at) o.early.items) (sym eh) plan));
}

-- a box that is evaluated by a plan
pub planned-by : (at : At) (ls : List Loop) (p : Plan) → at.loops.now ≡ ls → at.early.now ≡ p.early.items → at.keyed.now ≡ p.keyed.items → at.orders.now ≡ p.orders.items → at.idle.now ≡ p.idle.items → at.right.now ≡ p.right.items → ranges ls ≡ at.node.now.quants
    → All (λ l. StandsAt at l) ls → All (λ l. OpensAs at.run.now.memo.now at.below.now l.range.over l.under) ls → All (λ l. rows_kept l.under ≡ stored at l.range.over) ls → Fit at.node.now at.below.now → FitsPlan at.node.now (stored at) p
    → AllPlanned at.run.now.memo.now at.run.now.plans.now at.below.now → Ready (tables_of at) at.run.now.memo.now at.below.now → Planned at
planned-by at ls p el ee eh eo ei er ranged stand opens rows fit plan plans ready =
    let text : ranges at.loops.now ≡ at.node.now.quants = ap ranges el ∙ ranged in
    record {
      ranged = text;
      stand = subst (All (λ l. StandsAt at l)) (sym el) stand;
      opens = subst (All (λ l. OpensAs at.run.now.memo.now at.below.now l.range.over l.under)) (sym el) opens;
      rows = subst (All (λ l. rows_kept l.under ≡ stored at l.range.over)) (sym el) rows;
      fit = fit;
      plan = subst (λ (rs : List OwnedQuant). IsPlan at.node.now rs (stored at) at.early.now at.keyed.now) (sym text)
          (subst (λ (xs : List Early). IsPlan at.node.now at.node.now.quants (stored at) xs at.keyed.now) (sym ee) (subst (IsPlan at.node.now at.node.now.quants (stored at) p.early.items) (sym eh) plan.text));
      orders = subst (All (λ o. IsOrder at.node.now (stored at) o)) (sym eo) plan.orders;
      idle = subst (λ (rs : List OwnedQuant). AllIdle rs (stored at) at.idle.now) (sym text) (subst (AllIdle at.node.now.quants (stored at)) (sym ei) plan.idle);
      right = subst (All (λ h. RightIndexed at.node.now (stored at) h)) (sym er) plan.right;
      ready = ready;
      plans = plans;
    }

-- a plan of rows is one of others that are the same
plan-same : (n : Node) (rs : List OwnedQuant) (rows others : ℕ → Bag) (es : List Early) (hs : List (Option Keyed)) → ((b : ℕ) → rows b ≡ others b) → IsPlan n rs rows es hs → IsPlan n rs others es hs
plan-same n rs rows others es hs same h = record {
  early = h.early;
  indexed = λ i r x inside at is. subst (λ (b : Bag). FitsKeys (rejects es (i + 1)) r.id b x) (same r.over) (h.indexed i r x inside at is);
}

plan-longer : (memo : List (Option Operand)) (o : Option Operand) (n : Node) (ns : List Node) (p : Option (Option Plan)) → length ns ≤ length memo → PlanFits memo n ns p → PlanFits (memo ++ o ∷ []) n ns p
plan-longer memo o n ns None l h = tt
plan-longer memo o n ns (Some None) l h = tt
plan-longer memo o n ns (Some (Some p)) l h =
    let same = λ (b : ℕ). stored-longer memo o ns b l in
    record {
      text = plan-same n n.quants (rows_stored memo ns) (rows_stored (memo ++ o ∷ []) ns) p.early.items p.keyed.items same h.text;
      orders = λ k d inside.
          let x = get_or p.orders.items k d in
          let it = h.orders k d inside in
          record { reordered = it.reordered; plan = plan-same n x.ranges.items (rows_stored memo ns) (rows_stored (memo ++ o ∷ []) ns) x.early.items x.keyed.items same it.plan };
      idle = λ i r x inside at is. subst (λ (b : Bag). IsIdleIndex b x) (same r.over) (h.idle i r x inside at is);
      right = λ k d inside. λ q within at. subst (λ (b : Bag). Hashes (rejects_on n) q.id b (get_or p.right.items k d)) (same q.over) (h.right k d inside q within at);
    }

plans-longer : (memo : List (Option Operand)) (o : Option Operand) (plans : List (Option Plan)) (p : Option Plan) (ns : List Node) → length ns ≤ length memo → length ns ≤ length plans → AllPlanned memo plans ns → AllPlanned (memo ++ o ∷ []) (plans ++ p ∷ []) ns
plans-longer memo o plans p [] l k h = tt
plans-longer memo o plans p (n ∷ ns) l k h = (
  subst (PlanFits (memo ++ o ∷ []) n ns) (sym (get-before plans p (length ns) (omega (arith, k)))) (plan-longer memo o n ns (slice_get plans (length ns)) (omega (arith, l)) h.0),
  plans-longer memo o plans p ns (omega (arith, l)) (omega (arith, k)) h.1,
)

-- of one box more
pub plans-more : (memo : List (Option Operand)) (o : Option Operand) (plans : List (Option Plan)) (p : Option Plan) (ns : List Node) (i j : ℕ) (n : Node) → j ≡ i + 1 → i < length ns → n ≡ get_or ns i n → length memo ≡ length (drop j ns) → length plans ≡ length (drop j ns)
    → PlanFits memo n (drop j ns) (Some p) → AllPlanned memo plans (drop j ns) → AllPlanned (memo ++ o ∷ []) (plans ++ p ∷ []) (drop i ns)
plans-more memo o plans p ns i j n e l at long many fits h =
    subst (AllPlanned (memo ++ o ∷ []) (plans ++ p ∷ [])) (sym (here ns i j n e l at)) (
      subst (PlanFits (memo ++ o ∷ []) n (drop j ns)) (sym (get-end plans p (length (drop j ns)) (sym many))) (plan-longer memo o n (drop j ns) (Some p) (omega (arith, long)) fits),
      plans-longer memo o plans p (drop j ns) (omega (arith, long)) (omega (arith, many)) h,
    )

get-past : {X : Type 0} (xs : List X) (i : ℕ) → i ≡ length xs → slice_get xs i ≡ None
get-past [] i e = refl
get-past (x ∷ xs) zero e = absurd (omega (arith, e))
get-past (x ∷ xs) (suc i) e = get-past xs i (omega (arith, e))

-- none is made yet of the box before them
pub plans-first : (memo : List (Option Operand)) (plans : List (Option Plan)) (n : Node) (ns : List Node) → length plans ≡ length ns → AllPlanned memo plans ns → AllPlanned memo plans (n ∷ ns)
plans-first memo plans n ns many h = (subst (PlanFits memo n ns) (sym (get-past plans (length ns) (sym many))) tt, h)
