-- In an environment that fits, what is known of columns holds of the rows that are bound.
use Rattle.std.proofs.Common.{ℕ, ◌≡◌, ◌≢◌, ◌==◌, ◌||◌, cond, Bool, true, false, List, [], ◌∷◌, map, Option, Some, None, eqb-true, refl, sym, ap, subst, ◌∙◌, arith, inl, inr}
use Rattle.std.proofs.lemmas.Bool.{eq-eqb, or_left, or_right}
use Rattle.row_bag.specs.Order.{cell_of}
use Rattle.row_bag.specs.declared.tables.Table.{Table}
use Rattle.sql_value.specs.declared.cell.Cell.TheVariants.{Null}
use Rattle.qgm_core.specs.Boxes.{is_quant, owns, range_in}
use Rattle.list_laws.specs.Lists.{EachOnce, In, first, holds}
use Rattle.qgm_core.specs.declared.node.Node.{Node}
use Rattle.qgm_core.specs.declared.owned.OwnedQuant.{OwnedQuant}
use Rattle.qgm_meaning.specs.Meaning.{Family, bag_in, quant_rows, rows_found}
use Rattle.qgm_meaning.specs.Values.{Bag, Environment, row_of}
use Rattle.qgm_props.specs.Facts.{HasAtMostOne, IsClean, IsErrorFree, is_sound}
use Rattle.qgm_props.proofs.EachClean.{clean-each}
use Rattle.qgm_props.specs.Holding.{is_bound}
use Rattle.qgm_props.specs.Inferred.{Fact, Facts, at_most_one, clean, error_free, error_free_under, not_null, not_null_under, of_over, says}
use Rattle.qgm_props.specs.Laws.{Premises}
use Rattle.qgm_props.proofs.Partial.{AllBoundIn, FittingIn, HoldsIn, is_bound_in}
use Rattle.qgm_props.proofs.Rows.{occurs-each}
use Rattle.qgm_props.proofs.Terms.{SoundColumns, SoundRows, no-cell}

-- what is found stands there and passes
pub first-in : {X : Type 0} (p : X → Bool) (xs : List X) (x : X) → first p xs ≡ Some x → In x xs × (p x ≡ true)
first-in p [] x e = absurd (let z : ⊥ = cc in z)
first-in {X} p (y ∷ xs) x e = one (first-in p xs x) (p y) refl e
  where
    one : (first p xs ≡ Some x → In x xs × (p x ≡ true)) → (b : Bool) → p y ≡ b → cond b (Some y) (first p xs) ≡ Some x → In x (y ∷ xs) × (p x ≡ true)
    one i true w e = let h : y ≡ x = cc in (inl h, subst (λ (z : X). p z ≡ true) h w)
    one i false w e = let h = i e in (inr h.0, h.1)

-- of quantifiers with different numbers each is found by its number
pub found-first : (rs : List OwnedQuant) (r : OwnedQuant) → EachOnce (map (λ r. r.id) rs) → In r rs → first (is_quant r.id) rs ≡ Some r
found-first [] r d i = elim i [ ]
found-first (t ∷ rs) r d i = elim i [
  | inl e ↦ subst (λ (u : OwnedQuant). first (is_quant u.id) (t ∷ rs) ≡ Some u) e (ap (λ b. cond b (Some t) (first (is_quant t.id) rs)) (eq-eqb t.id t.id refl))
  | inr j ↦ one (t.id == r.id) refl (found-first rs r d.1 j) j
]
  where
    held : (rs : List OwnedQuant) (r : OwnedQuant) → In r rs → holds r.id (map (λ r. r.id) rs) ≡ true
    held [] r i = elim i [ ]
    held (u ∷ rs) r i = elim i [
      | inl e ↦ or_left (u.id == r.id) (holds r.id (map (λ r. r.id) rs)) (eq-eqb u.id r.id (ap (λ (v : OwnedQuant). v.id) e))
      | inr j ↦ or_right (u.id == r.id) (holds r.id (map (λ r. r.id) rs)) (held rs r j)
    ]

    one : (b : Bool) → (t.id == r.id) ≡ b → first (is_quant r.id) rs ≡ Some r → In r rs → cond b (Some t) (first (is_quant r.id) rs) ≡ Some r
    one true w h j = absurd (let x : holds t.id (map (λ r. r.id) rs) ≡ true = subst (λ p. holds p (map (λ r. r.id) rs) ≡ true) (sym (eqb-true t.id r.id w)) (held rs r j) in let y : true ≡ false = sym x ∙ d.0 in let z : ⊥ = cc in z)
    one false w h j = h

module _ (partial : Bool) (tables : List Table) (ns : List Node) (known : Facts) (given : Premises tables ns) (all : (fact : Fact) → says known fact ≡ true → HoldsIn partial tables ns fact) where
  abbrev pub bags : Family
  bags = bag_in tables ns

  pub columns-sound : (env : Environment) → FittingIn partial bags ns env → SoundColumns ns known env
  columns-sound [] f q k e = no-cell k
  columns-sound (binding ∷ env) f q k e = one (columns-sound env f.1 q k e) (binding.0 == q) refl
    where
      one : is_sound (cell_of k (row_of q env)) ≡ true → (b : Bool) → (binding.0 == q) ≡ b → is_sound (cell_of k (cond b binding.1 (row_of q env))) ≡ true
      one i true w =
          let h : error_free_under ns known binding.0 k ≡ true = subst (λ p. error_free_under ns known p k ≡ true) (sym (eqb-true binding.0 q w)) e in
          let t : known.error_free f.0.range.over k ≡ true = sym (ap (of_over false (λ b. known.error_free b k)) f.0.owned) ∙ h in
          occurs-each (λ cells. is_sound (cell_of k cells) ≡ true) (bags f.0.range.over env) (all (error_free f.0.range.over k) t env f.1 f.0.before) binding.1 f.0.row
      one i false w = i

  pub columns-filled : partial ≡ false → (env : Environment) → FittingIn partial bags ns env → (q k : ℕ) → is_bound_in partial q env ≡ true → not_null_under ns known q k ≡ true → cell_of k (row_of q env) ≢ Null
  columns-filled whole env f q k b e = filled env f (subst (λ p. (p || is_bound q env) ≡ true) whole b)
    where
      filled : (env : Environment) → FittingIn partial bags ns env → is_bound q env ≡ true → cell_of k (row_of q env) ≢ Null
      filled [] f b = absurd (let z : ⊥ = cc in z)
      filled (binding ∷ env) f b = one (filled env f.1) (binding.0 == q) refl b
        where
          one : (is_bound q env ≡ true → cell_of k (row_of q env) ≢ Null) → (b : Bool) → (binding.0 == q) ≡ b → (b || is_bound q env) ≡ true → cell_of k (cond b binding.1 (row_of q env)) ≢ Null
          one i true w x =
              let h : not_null_under ns known binding.0 k ≡ true = subst (λ p. not_null_under ns known p k ≡ true) (sym (eqb-true binding.0 q w)) e in
              let t : known.not_null f.0.range.over k ≡ true = sym (ap (of_over false (λ b. known.not_null b k)) f.0.owned) ∙ h in
              occurs-each (λ cells. cell_of k cells ≢ Null) (bags f.0.range.over env) (all (not_null f.0.range.over k) t whole env f.1 f.0.before) binding.1 f.0.row
          one i false w x = i x

  -- ---- a box among these

  module _ (n : Node) (here : In n ns) where
    abbrev pub rows : Family
    rows = quant_rows n bags

    -- what a quantifier of the box gives
    pub rows-are : (r : OwnedQuant) → In r n.quants → (env : Environment) → rows r.id env ≡ bags r.over env
    rows-are r i env = ap (λ o. rows_found o bags env) (found-first n.quants r (given.apart n here) i)

    -- what is known of the box under a quantifier
    pub known-of : (r : OwnedQuant) → In r n.quants → (said : ℕ → Bool) → of_over false said (range_in r.id (first (owns r.id) ns)) ≡ said r.over
    known-of r i said = ap (of_over false said) (given.found n r here i)

    -- what is known of the boxes under its quantifiers holds of their rows, where what these look up is bound
    pub rows-sound : (env : Environment) → FittingIn partial bags ns env → ((r : OwnedQuant) → In r n.quants → AllBoundIn partial ns r.over env) → SoundRows ns known (λ q. rows q env)
    rows-sound env f b = record {
      clean = λ q h. clean-each (rows q env) (at IsClean known.clean (λ c k. all (clean c) k env f) q refl h);
      free = λ q k h. at (IsErrorFree k) (λ c. known.error_free c k) (λ c j. all (error_free c k) j env f) q tt h;
      single = λ q h. at HasAtMostOne known.at_most_one (λ c k. all (at_most_one c) k env f) q (omega (arith)) h;
    }
      where
        at : (P : Bag → Type 0) (said : ℕ → Bool) → ((c : ℕ) → said c ≡ true → AllBoundIn partial ns c env → P (bags c env)) → (q : ℕ) → P [] → of_over false said (range_in q (first (owns q) ns)) ≡ true → P (rows q env)
        at P said holds q none h = one (first (is_quant q) n.quants) refl
          where
            one : (o : Option OwnedQuant) → first (is_quant q) n.quants ≡ o → P (rows_found o bags env)
            one None w = none
            one (Some r) w =
                let i = first-in (is_quant q) n.quants r w in
                let e : r.id ≡ q = eqb-true r.id q i.1 in
                let k : of_over false said (range_in r.id (first (owns r.id) ns)) ≡ true = subst (λ p. of_over false said (range_in p (first (owns p) ns)) ≡ true) (sym e) h in
                holds r.over (sym (known-of r i.0 said) ∙ k) (b r i.0)
