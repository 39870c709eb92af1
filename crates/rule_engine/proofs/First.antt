-- What stands first in lists behind each other, and the earliest where no rule ranks before its own.
use Rattle.std.proofs.Common.{ℕ, zero, suc, ◌≡◌, ◌<◌, ◌≤◌, ◌+◌, ◌&&◌, true, false, cond, List, [], ◌∷◌, ◌++◌, drop, length, take, refl, sym, ◌∙◌, ap, append-nil, append_assoc, arith, Option, Some, None, inl, inr, subst, nat_lt, nat_le, is_some}
use Rattle.std.proofs.lemmas.Bool.{leb-true, ltb-true}
use Rattle.std.specs.List.{flat_map, list_all}
use Rattle.std.specs.Prelude.{slice_get, slice_index_or}
use Rattle.qgm_core.specs.Boxes.{QueryGraph}
use Rattle.list_laws.specs.Lists.{In}
use Rattle.qgm_core.specs.Walk.{walk}
use Rattle.rule_plan.specs.declared.plan.Plan.{Plan}
use Rattle.rule_api.specs.declared.place.Firing.{Firing}
use Rattle.rule_api.specs.declared.rule_id.RuleId.{RuleId}
use Rattle.rule_engine.specs.Control.{Pairs, at_box, candidates, earliest, enabled, is_foremost, ranks_first}
use Rattle.rule_api.specs.RuleIds.{rank_of}
use Rattle.rule_engine.proofs.Chosen.{at-to, in-flat_map}
use Rattle.rule_engine.proofs.Earliest.{best, best-earliest, better}

-- ---- what stands first

first-here : {X : Type 0} (xs ys : List X) → is_some (slice_get xs 0) ≡ true → slice_get (xs ++ ys) 0 ≡ slice_get xs 0
first-here [] ys h = absurd (let q : ⊥ = cc in q)
first-here (x ∷ xs) ys h = refl

first-behind : {X : Type 0} (xs ys : List X) → is_some (slice_get xs 0) ≡ false → slice_get (xs ++ ys) 0 ≡ slice_get ys 0
first-behind [] ys h = refl
first-behind (x ∷ xs) ys h = absurd (let q : ⊥ = cc in q)

-- of the lists from place k on
here-at : {X Y : Type 0} (f : X → List Y) (k : ℕ) (xs : List X) (d : X) → k < length xs → is_some (slice_get (f (slice_index_or xs k d)) 0) ≡ true → slice_get (flat_map f (drop k xs)) 0 ≡ slice_get (f (slice_index_or xs k d)) 0
here-at f k [] d l h = absurd (omega arith)
here-at f zero (x ∷ xs) d l h = first-here (f x) (flat_map f xs) h
here-at f (suc k) (x ∷ xs) d l h = here-at f k xs d (omega arith) h

behind-at : {X Y : Type 0} (f : X → List Y) (k : ℕ) (xs : List X) (d : X) → k < length xs → is_some (slice_get (f (slice_index_or xs k d)) 0) ≡ false → slice_get (flat_map f (drop (suc k) xs)) 0 ≡ slice_get (flat_map f (drop k xs)) 0
behind-at f k [] d l h = absurd (omega arith)
behind-at f zero (x ∷ xs) d l h = sym (first-behind (f x) (flat_map f xs) h)
behind-at f (suc k) (x ∷ xs) d l h = behind-at f k xs d (omega arith) h

-- o, which stands first in list k, stands first in those from there on
pub found-here : {X Y : Type 0} (f : X → List Y) (k : ℕ) (xs : List X) (d : X) (o w : Option Y) → k < length xs → o ≡ slice_get (f (slice_index_or xs k d)) 0 → is_some o ≡ true → slice_get (flat_map f (drop k xs)) 0 ≡ w → o ≡ w
found-here f k xs d o w l e h r = e ∙ sym (here-at f k xs d l (ap is_some (sym e) ∙ h)) ∙ r

-- where list k is empty, those behind it decide
pub found-behind : {X Y : Type 0} (f : X → List Y) (k : ℕ) (xs : List X) (d : X) (o w : Option Y) → k < length xs → o ≡ slice_get (f (slice_index_or xs k d)) 0 → is_some o ≡ false → slice_get (flat_map f (drop k xs)) 0 ≡ w → slice_get (flat_map f (drop (k + 1) xs)) 0 ≡ w
found-behind f k xs d o w l e h r =
    let n : k + 1 ≡ suc k = omega arith in
    ap (λ m. slice_get (flat_map f (drop m xs)) 0) n ∙ behind-at f k xs d l (ap is_some (sym e) ∙ h) ∙ r

-- ---- the candidates

pub candidates-of : (pairs : Pairs) (plan : Plan) (g : QueryGraph) (rs : List RuleId) (bs : List ℕ) → rs ≡ enabled plan.classes → bs ≡ walk plan.walk g → flat_map (at_box pairs rs g) bs ≡ candidates pairs plan g
unfolding candidates
candidates-of pairs plan g rs bs r b = ap (λ z. flat_map (at_box pairs z g) bs) r ∙ ap (flat_map (at_box pairs (enabled plan.classes) g)) b

-- ---- the earliest

best-append : (o : Option Firing) (xs ys : List Firing) → best o (xs ++ ys) ≡ best (best o xs) ys
best-append o [] ys = refl
best-append o (x ∷ xs) ys = best-append (better o x) xs ys

best-stays : (f : Firing) (ys : List Firing) → ((y : Firing) → In y ys → rank_of f.rule ≤ rank_of y.rule) → best (Some f) ys ≡ Some f
best-stays f [] h = refl
best-stays f (y ∷ ys) h =
    elim (nat_lt (rank_of y.rule) (rank_of f.rule)) as (λ b. nat_lt (rank_of y.rule) (rank_of f.rule) ≡ b → best (cond b (Some y) (Some f)) ys ≡ Some f) [
      | true ↦ λ k. absurd (let l = ltb-true (rank_of y.rule) (rank_of f.rule) k in let m = h y (inl refl) in omega arith)
      | false ↦ λ k. best-stays f ys (λ z i. h z (inr i))
    ] refl

ranks-all : (f : Firing) (rs : List RuleId) → is_foremost rs f ≡ true → (r : RuleId) → In r rs → rank_of f.rule ≤ rank_of r
ranks-all f [] h r i = elim i [ ]
ranks-all f (s ∷ rs) h r i =
    (elim (nat_le (rank_of f.rule) (rank_of s)) as (λ b. nat_le (rank_of f.rule) (rank_of s) ≡ b → (b && list_all (λ r. nat_le (rank_of f.rule) (rank_of r)) rs) ≡ true → rank_of f.rule ≤ rank_of r) [
      | true ↦ λ k h. elim i [
        | inl e ↦ subst (λ z. rank_of f.rule ≤ rank_of z) e (leb-true (rank_of f.rule) (rank_of s) k)
        | inr j ↦ ranks-all f rs h r j
      ]
      | false ↦ λ k h. absurd (let q : ⊥ = cc in q)
    ]) refl h

settled : (o : Option Firing) (rs : List RuleId) (ys : List Firing) → ranks_first rs o ≡ true → ((y : Firing) → In y ys → In y.rule rs) → best o ys ≡ o
settled None rs ys h i = absurd (let q : ⊥ = cc in q)
settled (Some f) rs ys h i = best-stays f ys (λ y j. ranks-all f rs h y.rule (i y j))

-- no later candidate of these rules is earlier
pub earliest-settled : (pairs : Pairs) (rs : List RuleId) (g : QueryGraph) (xs : List Firing) (bs : List ℕ) → ranks_first rs (earliest xs) ≡ true → earliest (xs ++ flat_map (at_box pairs rs g) bs) ≡ earliest xs
earliest-settled pairs rs g xs bs h =
    let ys = flat_map (at_box pairs rs g) bs in
    sym (best-earliest (xs ++ ys))
    ∙ best-append None xs ys
    ∙ ap (λ o. best o ys) (best-earliest xs)
    ∙ settled (earliest xs) rs ys h (λ y i. (let b = in-flat_map (at_box pairs rs g) bs y i in (at-to pairs rs g b.0 y b.1.1).0))

flat-split : {X Y : Type 0} (f : X → List Y) (k : ℕ) (xs : List X) → flat_map f xs ≡ flat_map f (take k xs) ++ flat_map f (drop k xs)
flat-split f zero [] = refl
flat-split f zero (x ∷ xs) = refl
flat-split f (suc k) [] = refl
flat-split f (suc k) (x ∷ xs) = ap (λ z. f x ++ z) (flat-split f k xs) ∙ sym (append_assoc (f x) (flat_map f (take k xs)) (flat_map f (drop k xs)))

-- the lists before place k, and list k
flat-more : {X Y : Type 0} (f : X → List Y) (k : ℕ) (xs : List X) (d : X) → k < length xs → flat_map f (take k xs) ++ f (slice_index_or xs k d) ≡ flat_map f (take (suc k) xs)
flat-more f k [] d l = absurd (omega arith)
flat-more f zero (x ∷ []) d l = sym (append-nil (f x))
flat-more f zero (x ∷ (y ∷ xs)) d l = sym (append-nil (f x))
flat-more f (suc k) (x ∷ xs) d l = append_assoc (f x) (flat_map f (take k xs)) (f (slice_index_or xs k d)) ∙ ap (λ z. f x ++ z) (flat-more f k xs d (omega arith))

-- at box k no later one is earlier than the earliest of all so far
pub stop-at : (pairs : Pairs) (rs : List RuleId) (g : QueryGraph) (k : ℕ) (bs : List ℕ) (before xs : List Firing) → k < length bs → before ≡ flat_map (at_box pairs rs g) (take k bs) → xs ≡ before ++ at_box pairs rs g (slice_index_or bs k 0) → ranks_first rs (earliest xs) ≡ true → earliest xs ≡ earliest (flat_map (at_box pairs rs g) bs)
stop-at pairs rs g k bs before xs l b e h =
    let f : ℕ → List Firing = at_box pairs rs g in
    let made : xs ≡ flat_map f (take (suc k) bs) = e ∙ ap (λ z. z ++ f (slice_index_or bs k 0)) b ∙ flat-more f k bs 0 l in
    sym (earliest-settled pairs rs g xs (drop (suc k) bs) h) ∙ ap (λ z. earliest (z ++ flat_map f (drop (suc k) bs))) made ∙ ap earliest (sym (flat-split f (suc k) bs))
