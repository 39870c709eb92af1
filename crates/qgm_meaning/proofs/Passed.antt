-- What passes by its key may pass before the grouping.
use Rattle.std.proofs.Common.{ℕ, zero, suc, ◌≡◌, ◌≤◌, ◌+◌, nat_eq, cond, Bool, true, false, List, [], ◌∷◌, ◌++◌, take, length, Option, Some, None, refl, sym, ap, ap₂, subst, ◌∙◌, ◌⊎◌, inl, inr, arith}
use Rattle.std.proofs.lemmas.Bool.{cases_Bool}
use Rattle.std.proofs.lemmas.List.{length-map, length-take-le, take-append-le}
use Rattle.std.proofs.Math.Nat.{le_refl}
use mathlib.Core.Path.{fun_ext}
use Rattle.row_bag.specs.Bags.{Alike, bind, if_there, keep, row, unit}
use Rattle.row_bag.specs.Errors.{error_among, error_at, error_in}
use Rattle.row_bag.specs.Sets.{grouped, multiplicity, of_group, once, same_cells}
use Rattle.row_bag.specs.declared.row.Row.{Row}
use Rattle.row_bag.proofs.Agreement.{alike-append, alike-bind, alike-keep_no, alike-refl, alike-same, alike-sym, alike-trans}
use Rattle.row_bag.proofs.Binds.{bind-bind, bind-append, keep-bind, unit-bind}
use Rattle.row_bag.proofs.Levels.{least-no, least-yes}
use Rattle.row_bag.proofs.TupleBags.{same_cells-decides}
use Rattle.sql_value.specs.Cells.{worst_of}
use Rattle.sql_value.specs.Level.{least}
use Rattle.sql_value.specs.declared.cell.Cell.{Cell}
use Rattle.sql_value.specs.declared.cell.Kind.{Kind}
use Rattle.sql_value.specs.declared.level.Level.{Level}
use Rattle.sql_value.specs.declared.level.Level.TheVariants.{No, Cardinality, Division, Overflow, Yes}
use Rattle.qgm_meaning.specs.Meaning.{fold_cells, grouped_rows, key_cells, nothing}
use Rattle.qgm_meaning.specs.Rules.{passing}
use Rattle.qgm_terms.specs.Terms.{Term}
use Rattle.qgm_meaning.specs.Values.{Bag, Environment, bound, value}

-- ---- the tuples that occur, of those that pass

-- a level is yes or no
abbrev Plain : (List Cell → Level) → Type 0
Plain level = (cells : List Cell) → (level cells ≡ Yes) ⊎ (level cells ≡ No)

module _ (level : List Cell → Level) (plain : Plain level) where
  one-passing : (r : Row (List Cell)) (rows : Bag) → passing level (r ∷ rows) ≡ row r.cells (least r.level (least (level r.cells) Yes)) ∷ passing level rows
  one-passing r rows = refl

  often-passing : (c : List Cell) → level c ≡ Yes → (rows : Bag) → multiplicity same_cells c (passing level rows) ≡ multiplicity same_cells c rows
  often-passing c y [] = refl
  often-passing c y (r ∷ rows) = ap₂ (λ (a b : ℕ). a + b) (at r.cells r.level (plain r.cells)) (often-passing c y rows)
    where
      at : (k : List Cell) (l : Level) → ((level k ≡ Yes) ⊎ (level k ≡ No))
          → if_there {M = ℕ} 0 (λ k l. cond (same_cells k c) 1 0) k (least l (least (level k) Yes)) ≡ if_there {M = ℕ} 0 (λ k l. cond (same_cells k c) 1 0) k l
      at k l (inl e) = rw (ap (λ (m : Level). least l (least m Yes)) e ∙ least-yes l) refl
      at k l (inr e) = rw (ap (λ (m : Level). least l (least m Yes)) e ∙ least-no l) (none l (differs (cases_Bool (same_cells k c))))
        where
          differs : ((same_cells k c ≡ true) ⊎ (same_cells k c ≡ false)) → same_cells k c ≡ false
          differs (inl t) = absurd (let s : level k ≡ level c = ap level ((same_cells-decides k c).0 t) in let z : ⊥ = cc in z)
          differs (inr t) = t

          none : (l : Level) → same_cells k c ≡ false → ◌≡◌ {A = ℕ} 0 (if_there 0 (λ k l. cond (same_cells k c) 1 0) k l)
          none No d = refl
          none Cardinality d = rw d refl
          none Division d = rw d refl
          none Overflow d = rw d refl
          none Yes d = rw d refl

  -- the tuples that pass, each once
  pub once-passing : (rows : Bag) → Alike (once same_cells (passing level rows)) (bind (once same_cells rows) (λ c. keep (level c) (unit c)))
  once-passing [] = alike-refl []
  once-passing (r ∷ rows) =
      alike-trans (alike-append (at r.cells r.level (plain r.cells)) (once-passing rows))
      (alike-same (sym (bind-append (if_there [] (λ c l. cond (nat_eq (multiplicity same_cells c rows) 0) (unit c) []) r.cells r.level) (once same_cells rows) (λ c. keep (level c) (unit c)))))
    where
      gone : (k : List Cell) (m : Bool) → level k ≡ No → Alike [] (bind (cond m (unit k) []) (λ c. keep (level c) (unit c)))
      gone k true e = alike-sym (alike-trans (alike-same (unit-bind k (λ c. keep (level c) (unit c)) ∙ ap (λ (l : Level). keep l (unit k)) e)) (alike-keep_no (unit k)))
      gone k false e = alike-refl []

      stays : (k : List Cell) (m : Bool) → level k ≡ Yes → cond m (unit k) [] ≡ bind (cond m (unit k) []) (λ c. keep (level c) (unit c))
      stays k true e = sym (unit-bind k (λ c. keep (level c) (unit c)) ∙ ap (λ (l : Level). keep l (unit k)) e)
      stays k false e = refl

      at : (k : List Cell) (l : Level) → ((level k ≡ Yes) ⊎ (level k ≡ No))
          → Alike (if_there [] (λ c l. cond (nat_eq (multiplicity same_cells c (passing level rows)) 0) (unit c) []) k (least l (least (level k) Yes)))
          (bind (if_there [] (λ c l. cond (nat_eq (multiplicity same_cells c rows) 0) (unit c) []) k l) (λ c. keep (level c) (unit c)))
      at k l (inl e) = rw (ap (λ (m : Level). least l (least m Yes)) e ∙ least-yes l) (alike-same (each l))
        where
          each : (l : Level) → if_there [] (λ c l. cond (nat_eq (multiplicity same_cells c (passing level rows)) 0) (unit c) []) k l ≡ bind (if_there [] (λ c l. cond (nat_eq (multiplicity same_cells c rows) 0) (unit c) []) k l) (λ c. keep (level c) (unit c))
          each No = refl
          each Cardinality = rw (often-passing k e rows) (stays k (nat_eq (multiplicity same_cells k rows) 0) e)
          each Division = rw (often-passing k e rows) (stays k (nat_eq (multiplicity same_cells k rows) 0) e)
          each Overflow = rw (often-passing k e rows) (stays k (nat_eq (multiplicity same_cells k rows) 0) e)
          each Yes = rw (often-passing k e rows) (stays k (nat_eq (multiplicity same_cells k rows) 0) e)
      at k l (inr e) = rw (ap (λ (m : Level). least l (least m Yes)) e ∙ least-no l) (each l)
        where
          each : (l : Level) → Alike [] (bind (if_there [] (λ c l. cond (nat_eq (multiplicity same_cells c rows) 0) (unit c) []) k l) (λ c. keep (level c) (unit c)))
          each No = alike-refl []
          each Cardinality = gone k (nat_eq (multiplicity same_cells k rows) 0) e
          each Division = gone k (nat_eq (multiplicity same_cells k rows) 0) e
          each Overflow = gone k (nat_eq (multiplicity same_cells k rows) 0) e
          each Yes = gone k (nat_eq (multiplicity same_cells k rows) 0) e

-- ---- groups

-- the key of a row, if it occurs in no later row
abbrev first-key : (List Cell → List Cell) → Bag → List Cell → Level → Bag
first-key key rows c l = if_there [] (λ c l. cond (nat_eq (multiplicity same_cells c (bind rows (λ c. unit (key c)))) 0) (unit c) []) (key c) l

-- of the keys that occur only what is given of keys of rows matters
pub once-keys : (key : List Cell → List Cell) (rows : Bag) (f g : List Cell → Bag) → ((c : List Cell) → f (key c) ≡ g (key c)) → bind (once same_cells (bind rows (λ c. unit (key c)))) f ≡ bind (once same_cells (bind rows (λ c. unit (key c)))) g
once-keys key [] f g h = refl
once-keys key (r ∷ rows) f g h =
    bind-append (first-key key rows r.cells (least r.level Yes)) (once same_cells (bind rows (λ c. unit (key c)))) f
    ∙ ap₂ (λ (us vs : Bag). us ++ vs) (at r.cells (least r.level Yes)) (once-keys key rows f g h)
    ∙ sym (bind-append (first-key key rows r.cells (least r.level Yes)) (once same_cells (bind rows (λ c. unit (key c)))) g)
  where
    one : (c : List Cell) (m : Bool) → bind (cond m (unit (key c)) []) f ≡ bind (cond m (unit (key c)) []) g
    one c true = unit-bind (key c) f ∙ h c ∙ sym (unit-bind (key c) g)
    one c false = refl

    at : (c : List Cell) (l : Level) → bind (first-key key rows c l) f ≡ bind (first-key key rows c l) g
    at c No = refl
    at c Cardinality = one c (nat_eq (multiplicity same_cells (key c) (bind rows (λ c. unit (key c)))) 0)
    at c Division = one c (nat_eq (multiplicity same_cells (key c) (bind rows (λ c. unit (key c)))) 0)
    at c Overflow = one c (nat_eq (multiplicity same_cells (key c) (bind rows (λ c. unit (key c)))) 0)
    at c Yes = one c (nat_eq (multiplicity same_cells (key c) (bind rows (λ c. unit (key c)))) 0)

-- what a row gives that a level keeps
kept-bind : (l : Level) (c : List Cell) (f : List Cell → Bag) → bind (keep l (unit c)) f ≡ keep l (f c)
kept-bind l c f = sym (keep-bind l (unit c) f) ∙ ap (keep l) (unit-bind c f)

module _ (level : List Cell → Level) (plain : Plain level) (key : List Cell → List Cell) (agg : List Cell → Bag → List Cell) (rows : Bag) where
  abbrev keys : Bag
  keys = bind rows (λ c. unit (key c))

  abbrev passed : Bag
  passed = passing (λ c. level (key c)) rows

  abbrev group_of : List Cell → Bag → Bag
  group_of k bag = of_group same_cells key k bag

  passed-keys : bind passed (λ c. unit (key c)) ≡ passing level keys
  passed-keys =
      bind-bind rows (λ c. keep (level (key c)) (unit c)) (λ c. unit (key c))
      ∙ ap (bind rows) (fun_ext (λ c. kept-bind (level (key c)) c (λ c. unit (key c)) ∙ sym (unit-bind (key c) (λ k. keep (level k) (unit k)))))
      ∙ sym (bind-bind rows (λ c. unit (key c)) (λ k. keep (level k) (unit k)))

  -- the group of a key that passes is whole
  whole-group : (k : List Cell) → level k ≡ Yes → group_of k passed ≡ group_of k rows
  whole-group k y =
      bind-bind rows (λ c. keep (level (key c)) (unit c)) (λ c. cond (same_cells (key c) k) (unit c) [])
      ∙ ap (bind rows) (fun_ext (λ c. kept-bind (level (key c)) c (λ c. cond (same_cells (key c) k) (unit c) []) ∙ of_row c (cases_Bool (same_cells (key c) k))))
    where
      of_row : (c : List Cell) → (same_cells (key c) k ≡ true) ⊎ (same_cells (key c) k ≡ false) → keep (level (key c)) (cond (same_cells (key c) k) (unit c) []) ≡ cond (same_cells (key c) k) (unit c) []
      of_row c (inl t) = rw t (ap (λ (l : Level). keep l (unit c)) (ap level ((same_cells-decides (key c) k).0 t) ∙ y))
      of_row c (inr t) = rw t refl

  at-key : (k : List Cell) → (level k ≡ Yes) ⊎ (level k ≡ No) → Alike (keep (level k) (unit (agg k (group_of k rows)))) (keep (level k) (unit (agg k (group_of k passed))))
  at-key k (inl y) = alike-same (ap (λ (bag : Bag). keep (level k) (unit (agg k bag))) (sym (whole-group k y)))
  at-key k (inr n) = rw n (alike-trans (alike-keep_no (unit (agg k (group_of k rows)))) (alike-sym (alike-keep_no (unit (agg k (group_of k passed))))))

  pub grouped-passing : Alike (bind (once same_cells keys) (λ k. keep (level k) (unit (agg k (group_of k rows))))) (grouped same_cells key agg passed)
  grouped-passing =
      alike-trans (alike-bind (alike-refl (once same_cells keys)) (λ k. at-key k (plain k)))
      (alike-trans
      (alike-same (sym (bind-bind (once same_cells keys) (λ k. keep (level k) (unit k)) (λ k. unit (agg k (group_of k passed)))
      ∙ ap (bind (once same_cells keys)) (fun_ext (λ k. kept-bind (level k) k (λ k. unit (agg k (group_of k passed))))))))
      (alike-bind (alike-trans (alike-sym (once-passing level plain keys)) (alike-same (ap (once same_cells) (sym passed-keys)))) (λ k. alike-refl (unit (agg k (group_of k passed))))))

-- ---- errors

pub no-worst : (a b : Option Kind) → worst_of a b ≡ None → (a ≡ None) × (b ≡ None)
no-worst None b h = (refl, h)
no-worst (Some j) None h = cc h
no-worst (Some j) (Some k) h = cc h

pub no-error-passing : (held : List Cell → Option Kind) (level : List Cell → Level) → Plain level → (rows : Bag) → error_among held rows ≡ None → error_among held (passing level rows) ≡ None
no-error-passing held level plain [] h = refl
no-error-passing held level plain (r ∷ rows) h =
    let parts = no-worst (if_there None (λ cells l. worst_of (error_at l) (held cells)) r.cells r.level) (error_among held rows) h in
    ap₂ worst_of (at r.cells r.level (plain r.cells) parts.0) (no-error-passing held level plain rows parts.1)
  where
    at : (c : List Cell) (l : Level) → ((level c ≡ Yes) ⊎ (level c ≡ No)) → if_there None (λ cells l. worst_of (error_at l) (held cells)) c l ≡ None
        → if_there None (λ cells l. worst_of (error_at l) (held cells)) c (least l (least (level c) Yes)) ≡ None
    at c l (inl e) t = rw (ap (λ (m : Level). least l (least m Yes)) e ∙ least-yes l) t
    at c l (inr e) t = rw (ap (λ (m : Level). least l (least m Yes)) e ∙ least-no l) refl

-- ---- the rule

module _ (k : ℕ) (head : List Term) (q : ℕ) (env : Environment) (rows : Bag) (level : List Cell → Level) (plain : Plain level) (long : suc k ≤ length head) where
  abbrev key : List Cell → List Cell
  key c = key_cells (suc k) head q env c

  abbrev agg : List Cell → Bag → List Cell
  agg c members = c ++ fold_cells (suc k) head q env members

  pub key-first : (c more : List Cell) → take (suc k) (key c ++ more) ≡ key c
  key-first c more =
      take-append-le (suc k) (key c) more (subst (λ (m : ℕ). suc k ≤ m) (sym (long-key c)) (le_refl (suc k)))
      ∙ take-all (suc k) (key c) (long-key c)
    where
      long-key : (c : List Cell) → length (key c) ≡ suc k
      long-key c = length-map (take (suc k) head) (λ x. value nothing x (bound q c env)) ∙ length-take-le (suc k) head long

      take-all : (n : ℕ) (xs : List Cell) → length xs ≡ n → take n xs ≡ xs
      take-all zero [] h = refl
      take-all zero (x ∷ xs) h = cc h
      take-all (suc n) [] h = refl
      take-all (suc n) (x ∷ xs) h = ap (λ (ys : List Cell). x ∷ ys) (take-all n xs (omega (arith, h)))

  pub passes : error_among (λ cells. error_in (key cells)) rows ≡ None
      → Alike (passing (λ cells. level (take (suc k) cells)) (grouped_rows (suc k) head q env rows)) (grouped_rows (suc k) head q env (passing (λ cells. level (key cells)) rows))
  passes none =
      rw (none, no-error-passing (λ cells. error_in (key cells)) (λ c. level (key c)) (λ c. plain (key c)) rows none)
      (alike-trans
      (alike-same (
      bind-bind (once same_cells (bind rows (λ c. unit (key c)))) (λ c. unit (agg c (of_group same_cells key c rows))) (λ cells. keep (level (take (suc k) cells)) (unit cells))
      ∙ ap (bind (once same_cells (bind rows (λ c. unit (key c))))) (fun_ext (λ c. unit-bind (agg c (of_group same_cells key c rows)) (λ cells. keep (level (take (suc k) cells)) (unit cells))))
      ∙ once-keys key rows (λ c. keep (level (take (suc k) (agg c (of_group same_cells key c rows)))) (unit (agg c (of_group same_cells key c rows)))) (λ c. keep (level c) (unit (agg c (of_group same_cells key c rows))))
      (λ c. ap (λ (cells : List Cell). keep (level cells) (unit (agg (key c) (of_group same_cells key (key c) rows)))) (key-first c (fold_cells (suc k) head q env (of_group same_cells key (key c) rows))))))
      (grouped-passing level plain key agg rows))
