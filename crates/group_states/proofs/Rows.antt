-- States of a group, of which each takes an argument of a row.
use Rattle.std.proofs.Common.{◌≡◌, ℕ, ◌+◌, ◌<◌, ◌≤◌, add-zero, nat_eq, eqb-true, List, [], ◌∷◌, ◌++◌, append_assoc, map, length, drop, get_or, set, refl, sym, ap, ap₂, ◌∙◌, subst, arith, inl, inr}
use Rattle.std.proofs.lemmas.Bool.{cases_Bool, eqb-false}
use Rattle.std.proofs.lemmas.Grind.{get_or-set_at}
use Rattle.std.proofs.lemmas.List.{get_or-drop, get_or-set_other, get_or_append_left, get_or_push, length-set, length-map, length_push, map_push}
use Rattle.row_bag.specs.Bags.{row}
use Rattle.row_bag.specs.declared.row.Row.{Row}
use Rattle.sql_value.specs.declared.cell.Cell.{Cell}
use Rattle.sql_value.specs.declared.cell.Cell.TheVariants.{Null}
use Rattle.sql_value.specs.declared.level.Level.{Level}
use Rattle.group_states.specs.Folds.{cell_of}
use Rattle.group_states.specs.Groups.{AreAfter, Bag, argument, cells_from}
use Rattle.group_states.specs.States.{IsAfter}
use Rattle.group_states.specs.declared.fold.Fold.{Fold}
use Rattle.group_states.specs.declared.state.State.{State}

-- the first states, so many, have taken their argument of a row more
abbrev pub TakenTo : ℕ → Bag → Row (List Cell) → ℕ → List State → Type 0
TakenTo n rows r i states = (j : ℕ) (d : State) → j < length states
    → (j < i → IsAfter (map (argument (n + j)) (rows ++ r ∷ [])) (get_or states j d)) × (i ≤ j → IsAfter (map (argument (n + j)) rows) (get_or states j d))

pub taken-begins : (n : ℕ) (rows : Bag) (r : Row (List Cell)) (states : List State) → AreAfter n rows states → TakenTo n rows r 0 states
taken-begins n rows r states so j d within = (λ low. absurd (omega (arith, low)), λ _. so j d within)

pub taken-ends : (n : ℕ) (rows : Bag) (r : Row (List Cell)) (i : ℕ) (states : List State) → length states ≤ i → TakenTo n rows r i states → AreAfter n (rows ++ r ∷ []) states
taken-ends n rows r i states all so j d within = (so j d within).0 (omega (arith, all, within))

pub taken-goes : (n : ℕ) (rows : Bag) (r : Row (List Cell)) (i : ℕ) (states : List State) (old new : State) (arguments : List Cell) (c : Cell) (level : Level) → drop n r.cells ≡ arguments → r.level ≡ level
    → c ≡ get_or arguments i Null → i < length states → old ≡ get_or states i old
    → ((cells : List (Row Cell)) → IsAfter cells old → IsAfter (cells ++ row c level ∷ []) new)
    → TakenTo n rows r i states → TakenTo n rows r (i + 1) (set states i new)
taken-goes n rows r i states old new arguments c level ea el ec inside is step so j d within = elim (cases_Bool (nat_eq j i)) [
  | inl same ↦ own (eqb-true j i same)
  | inr other ↦ others (eqb-false j i other)
]
  where
    shown : map (argument (n + i)) rows ++ row c level ∷ [] ≡ map (argument (n + i)) (rows ++ r ∷ [])
    shown =
        ap₂ (λ (d : Cell) (l : Level). map (argument (n + i)) rows ++ row d l ∷ []) (ec ∙ ap (λ (xs : List Cell). get_or xs i Null) (sym ea) ∙ get_or-drop n r.cells i Null) (sym el)
        ∙ sym (map_push (argument (n + i)) rows r)

    now : IsAfter (map (argument (n + i)) (rows ++ r ∷ [])) new
    now = subst (λ (xs : List (Row Cell)). IsAfter xs new) shown (step (map (argument (n + i)) rows) (subst (λ (s : State). IsAfter (map (argument (n + i)) rows) s) (sym is) ((so i old inside).1 (omega arith))))

    own : j ≡ i → (j < i + 1 → IsAfter (map (argument (n + j)) (rows ++ r ∷ [])) (get_or (set states i new) j d)) × (i + 1 ≤ j → IsAfter (map (argument (n + j)) rows) (get_or (set states i new) j d))
    own e = (
      λ _. subst (λ (s : State). IsAfter (map (argument (n + j)) (rows ++ r ∷ [])) s) (sym (get_or-set_at states i j new d e inside)) (subst (λ (k : ℕ). IsAfter (map (argument (n + k)) (rows ++ r ∷ [])) new) (sym e) now),
      λ past. absurd (omega (arith, e, past)),
    )

    within' : j < length states
    within' = subst (λ (k : ℕ). j < k) (length-set states i new) within

    others : (j ≡ i → ⊥) → (j < i + 1 → IsAfter (map (argument (n + j)) (rows ++ r ∷ [])) (get_or (set states i new) j d)) × (i + 1 ≤ j → IsAfter (map (argument (n + j)) rows) (get_or (set states i new) j d))
    others not = (
      λ low. subst (λ (s : State). IsAfter (map (argument (n + j)) (rows ++ r ∷ [])) s) (sym (get_or-set_other states i j new d not)) ((so j d within').0 (omega (arith, low, not))),
      λ past. subst (λ (s : State). IsAfter (map (argument (n + j)) rows) s) (sym (get_or-set_other states i j new d not)) ((so j d within').1 (omega (arith, past))),
    )

-- ---- the cells of a group, one more

pub cells-pushed : (k : ℕ) (folds : List Fold) (f : Fold) (rows : Bag) → cells_from k (folds ++ f ∷ []) rows ≡ cells_from k folds rows ++ cell_of f (map (argument (k + length folds)) rows) ∷ []
cells-pushed k [] f rows = ap (λ (m : ℕ). cell_of f (map (argument m) rows) ∷ []) (sym (add-zero k))
cells-pushed k (g ∷ folds) f rows =
    let e : k + 1 + length folds ≡ k + length (g ∷ folds) = omega arith in
    ap (λ (cells : List Cell). cell_of g (map (argument k) rows) ∷ cells) (cells-pushed (k + 1) folds f rows ∙ ap (λ (m : ℕ). cells_from (k + 1) folds rows ++ cell_of f (map (argument m) rows) ∷ []) e)

abbrev folds_of : List State → List Fold
folds_of states = map (λ (s : State). s.fold) states

pub values-more : (n : ℕ) (rows : Bag) (done : List State) (s : State) (v : Cell) (first out new : List Cell) → new ≡ out ++ v ∷ [] → ((cells : List (Row Cell)) → IsAfter cells s → v ≡ cell_of s.fold cells)
    → (AreAfter n rows done → out ≡ first ++ cells_from n (map (λ (s : State). s.fold) done) rows)
    → AreAfter n rows (done ++ s ∷ []) → new ≡ first ++ cells_from n (map (λ (s : State). s.fold) (done ++ s ∷ [])) rows
values-more n rows done s v first out new made value before so =
    made
    ∙ ap₂ (λ (xs : List Cell) (c : Cell). xs ++ c ∷ []) (before others) (value (map (argument (n + length done)) rows) own)
    ∙ append_assoc first (cells_from n (folds_of done) rows) (cell_of s.fold (map (argument (n + length done)) rows) ∷ [])
    ∙ ap (λ (xs : List Cell). first ++ xs)
    (ap (λ (m : ℕ). cells_from n (folds_of done) rows ++ cell_of s.fold (map (argument (n + m)) rows) ∷ []) (sym (length-map done (λ (s : State). s.fold)))
    ∙ sym (cells-pushed n (folds_of done) s.fold rows)
    ∙ ap (λ (fs : List Fold). cells_from n fs rows) (sym (map_push (λ (s : State). s.fold) done s)))
  where
    long : length (done ++ s ∷ []) ≡ length done + 1
    long = length_push done s

    others : AreAfter n rows done
    others j d within = subst (λ (t : State). IsAfter (map (argument (n + j)) rows) t) (get_or_append_left done (s ∷ []) d j within) (so j d (omega (arith, long, within)))

    own : IsAfter (map (argument (n + length done)) rows) s
    own = subst (λ (t : State). IsAfter (map (argument (n + length done)) rows) t) (get_or_push done s s (length done) refl) (so (length done) s (omega (arith, long)))
