-- The rows that are kept, from the last box.
use Rattle.std.proofs.Common.{ℕ, suc, zero, ◌≡◌, ◌<◌, ◌≤◌, ◌+◌, ◌++◌, ◌==◌, ◌&&◌, Bool, true, false, cond, List, [], ◌∷◌, drop, get_or, length, map, slice_get, Option, Some, refl, sym, ◌∙◌, ap, ap₂, subst, arith}
use Rattle.std.proofs.lemmas.List.{length_push}
use Rattle.row_bag.specs.Bags.{Alike}
use Rattle.row_bag.specs.declared.tables.Table.{Table}
use Rattle.row_bag.proofs.Agreement.{alike-same, alike-trans}
use Rattle.qgm_core.specs.declared.node.Node.{Node}
use Rattle.qgm_meaning.specs.Meaning.{bag_in, rows_of}
use Rattle.qgm_meaning.specs.Scope.{loose, loose_of}
use Rattle.qgm_meaning.specs.Values.{Bag, Environment}
use Rattle.qgm_meaning.proofs.Frames.{SameRows, bag-framed}
use Rattle.box_exec.specs.Beyond.{LooksNowhere, beyond, beyond_of, beyonds}
use Rattle.box_exec.specs.Ready.{AllFit, Entry, Fit, Ready}
use Rattle.list_laws.specs.Lists.{holds}
use Rattle.qgm_meaning.specs.Plain.{counted_by}
use Rattle.box_exec.specs.Costs.{Between, Keeps, asked, is_held}
use Rattle.box_exec.specs.Kept.{KeptAs, is_nil, kept_costs, kept_number}
use Rattle.row_bag.specs.declared.operand.Operand.{Operand}
use Rattle.box_exec.proofs.Loops.{from}
use Rattle.box_exec.proofs.Places.{fit-drop}
use Rattle.list_laws.proofs.Membership.{eq-itself}

-- a box that looks nothing up gives the same rows everywhere
nowhere-same : (tables : List Table) (n : Node) (ns : List Node) (env : Environment) → LooksNowhere n ns → rows_of tables n (bag_in tables ns) [] ≡ rows_of tables n (bag_in tables ns) env
nowhere-same tables n ns env closed =
    let own : n.id == n.id ≡ true = eq-itself n.id in
    let here : (e : Environment) → bag_in tables (n ∷ ns) n.id e ≡ rows_of tables n (bag_in tables ns) e = λ e. ap (λ (b : Bool). cond b (rows_of tables n (bag_in tables ns)) (bag_in tables ns n.id) e) own in
    let none : (q : ℕ) → loose (n ∷ ns) n.id q ≡ false = λ q. ap (λ (b : Bool). cond b (loose_of n (loose ns)) (loose ns n.id) q) own ∙ closed q in
    let same : SameRows (loose (n ∷ ns) n.id) [] env = record { rows = λ q h. absurd (let z : true ≡ false = sym h ∙ none q in let y : ⊥ = cc in y) } in
    sym (here []) ∙ bag-framed tables (n ∷ ns) n.id [] env same ∙ here env

pub kept-everywhere : (tables : List Table) (n : Node) (ns : List Node) (rows : Bag) → LooksNowhere n ns → Alike rows (rows_of tables n (bag_in tables ns) []) → (env : Environment) → Alike rows (rows_of tables n (bag_in tables ns) env)
kept-everywhere tables n ns rows closed h env = alike-trans h (alike-same (nowhere-same tables n ns env closed))

-- ---- one more entry

pub get-before : {X : Type 0} (xs : List X) (y : X) (i : ℕ) → i < length xs → slice_get (xs ++ y ∷ []) i ≡ slice_get xs i
get-before [] y i l = absurd (omega (arith, l))
get-before (x ∷ xs) y zero l = refl
get-before (x ∷ xs) y (suc i) l = get-before xs y i (omega (arith, l))

pub get-end : {X : Type 0} (xs : List X) (y : X) (i : ℕ) → i ≡ length xs → slice_get (xs ++ y ∷ []) i ≡ Some y
get-end [] y i e = ap (slice_get (y ∷ [])) e
get-end (x ∷ xs) y zero e = absurd (omega (arith, e))
get-end (x ∷ xs) y (suc i) e = get-end xs y i (omega (arith, e))

ready-longer : (tables : List Table) (memo : List (Option Operand)) (o : Option Operand) (ns : List Node) → length ns ≤ length memo → Ready tables memo ns → Ready tables (memo ++ o ∷ []) ns
ready-longer tables memo o [] l h = tt
ready-longer tables memo o (n ∷ ns) l h =
    (h.0, subst (Entry tables n ns) (sym (get-before memo o (length ns) (omega (arith, l)))) h.1, ready-longer tables memo o ns (omega (arith, l)) h.2)

-- the boxes from a place on, with one more
pub here : (ns : List Node) (i j : ℕ) (n : Node) → j ≡ i + 1 → i < length ns → n ≡ get_or ns i n → drop i ns ≡ n ∷ drop j ns
here ns i j n e l at = from ns i n l ∙ ap (λ (m : Node). m ∷ drop (i + 1) ns) (sym at) ∙ ap (λ (k : ℕ). n ∷ drop k ns) (sym e)

pub fit-here : (ns : List Node) (i j : ℕ) (n : Node) → j ≡ i + 1 → i < length ns → n ≡ get_or ns i n → AllFit ns → Fit n (drop j ns) × AllFit (drop j ns)
fit-here ns i j n e l at h = subst AllFit (here ns i j n e l at) (fit-drop ns i h)

pub ready-more : (tables : List Table) (memo : List (Option Operand)) (o : Option Operand) (ns : List Node) (i j : ℕ) (n : Node) → j ≡ i + 1 → i < length ns → n ≡ get_or ns i n → AllFit ns → length memo ≡ length (drop j ns)
    → Entry tables n (drop j ns) (Some o) → Ready tables memo (drop j ns) → Ready tables (memo ++ o ∷ []) (drop i ns)
ready-more tables memo o ns i j n e l at fit long entry ready =
    subst (Ready tables (memo ++ o ∷ [])) (sym (here ns i j n e l at)) (
      (fit-here ns i j n e l at fit).0,
      subst (Entry tables n (drop j ns)) (sym (get-end memo o (length (drop j ns)) (sym long))) entry,
      ready-longer tables memo o (drop j ns) (omega (arith, long)) ready,
    )

pub long-more : {X : Type 0} (memo : List X) (o : X) (ns : List Node) (i j : ℕ) (n : Node) → j ≡ i + 1 → i < length ns → n ≡ get_or ns i n → length memo ≡ length (drop j ns) → length (memo ++ o ∷ []) ≡ length (drop i ns)
long-more memo o ns i j n e l at long =
    let h = length_push memo o in
    let k : length (drop i ns) ≡ length (n ∷ drop j ns) = ap length (here ns i j n e l at) in
    omega (arith, h, k, long)

pub beyonds-more : (ns : List Node) (i j : ℕ) (n : Node) (xs : List (List ℕ)) (x : List ℕ) → j ≡ i + 1 → i < length ns → n ≡ get_or ns i n → xs ≡ beyonds (drop j ns) → x ≡ beyond_of n (beyond (drop j ns)) → xs ++ x ∷ [] ≡ beyonds (drop i ns)
beyonds-more ns i j n xs x e l at is one = ap₂ (λ (a : List (List ℕ)) (b : List ℕ). a ++ b ∷ []) is one ∙ sym (ap beyonds (here ns i j n e l at))

pub map-push : {X Y : Type 0} (f : X → Y) (xs : List X) (x : X) → map f (xs ++ x ∷ []) ≡ map f xs ++ f x ∷ []
map-push f [] x = refl
map-push {Y = Y} f (y ∷ xs) x = ap (λ (zs : List Y). f y ∷ zs) (map-push f xs x)

-- ---- which are kept

keeps-longer : (memo : List (Option Operand)) (o : Option Operand) (kept : ℕ → Bool) (ns : List Node) → length ns ≤ length memo → Keeps memo kept ns → Keeps (memo ++ o ∷ []) kept ns
keeps-longer memo o kept [] l h = tt
keeps-longer memo o kept (n ∷ ns) l h = (ap is_held (get-before memo o (length ns) (omega (arith, l))) ∙ h.0, keeps-longer memo o kept ns (omega (arith, l)) h.1)

pub keeps-more : (memo : List (Option Operand)) (o : Option Operand) (kept : ℕ → Bool) (ns : List Node) (i j : ℕ) (n : Node) → j ≡ i + 1 → i < length ns → n ≡ get_or ns i n → length memo ≡ length (drop j ns) → is_held (Some o) ≡ kept n.id → Keeps memo kept (drop j ns) → Keeps (memo ++ o ∷ []) kept (drop i ns)
keeps-more memo o kept ns i j n e l at long flag h =
    subst (Keeps (memo ++ o ∷ []) kept) (sym (here ns i j n e l at))
    (ap is_held (get-end memo o (length (drop j ns)) (sym long)) ∙ flag, keeps-longer memo o kept (drop j ns) (omega (arith, long)) h)

kept-drop : (kept : ℕ → Bool) (marks : List ℕ) (ns : List Node) (i : ℕ) → KeptAs kept marks ns → KeptAs kept marks (drop i ns)
kept-drop kept marks ns zero h = h
kept-drop kept marks [] (suc i) h = h
kept-drop kept marks (n ∷ ns) (suc i) h = kept-drop kept marks ns i h.1

pub kept-here : (kept : ℕ → Bool) (marks : List ℕ) (ns : List Node) (i j : ℕ) (n : Node) → j ≡ i + 1 → i < length ns → n ≡ get_or ns i n → KeptAs kept marks ns → kept n.id ≡ (is_nil (beyond_of n (beyond (drop j ns))) && holds n.id marks)
kept-here kept marks ns i j n e l at h = (subst (KeptAs kept marks) (here ns i j n e l at) (kept-drop kept marks ns i h)).0

pub kept-took : (tables : List Table) (kept : ℕ → Bool) (ns : List Node) (i j : ℕ) (n : Node) → j ≡ i + 1 → i < length ns → n ≡ get_or ns i n → (keep : Bool) → keep ≡ kept n.id → (old s new : ℕ) → Between (kept_number kept (drop j ns)) (kept_costs tables kept (drop j ns)) old s
    → Between (cond keep 1 0) (cond keep (counted_by n.parts.kind n (bag_in tables (drop j ns)) (asked tables kept (drop j ns)) []) 0) s new → Between (kept_number kept (drop i ns)) (kept_costs tables kept (drop i ns)) old new
kept-took tables kept ns i j n e l at keep flag old s new h k =
    let number : kept_number kept (drop i ns) ≡ cond keep 1 0 + kept_number kept (drop j ns) = ap (kept_number kept) (here ns i j n e l at) ∙ ap (λ (b : Bool). cond b 1 0 + kept_number kept (drop j ns)) (sym flag) in
    let cost : kept_costs tables kept (drop i ns) ≡ cond keep (counted_by n.parts.kind n (bag_in tables (drop j ns)) (asked tables kept (drop j ns)) []) 0 + kept_costs tables kept (drop j ns) =
    ap (kept_costs tables kept) (here ns i j n e l at) ∙ ap (λ (b : Bool). cond b (counted_by n.parts.kind n (bag_in tables (drop j ns)) (asked tables kept (drop j ns)) []) 0 + kept_costs tables kept (drop j ns)) (sym flag) in
    (omega (arith, h.0, k.0, number), omega (arith, h.1, k.1, cost))
