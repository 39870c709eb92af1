-- The rows of a select whose quantifiers are turned, and whose conditions stand in another order.
use Rattle.std.proofs.Common.{ℕ, ◌≡◌, cond, not, Bool, true, false, List, [], ◌∷◌, ◌++◌, filter, refl, sym, ap, ◌∙◌, inl, inr}
use Rattle.std.proofs.lemmas.Bool.{cases_Bool}
use Rattle.std.specs.Prelude.{⊤}
use Rattle.row_bag.specs.Bags.{Alike}
use Rattle.row_bag.specs.declared.tables.Table.{Table}
use Rattle.row_bag.proofs.Agreement.{alike-refl, alike-same, alike-sym, alike-trans}
use Rattle.sql_value.specs.Level.{least}
use Rattle.row_bag.proofs.Levels.{least-associative, least-commutative}
use Rattle.sql_value.specs.declared.level.Level.{Level}
use Rattle.qgm_core.specs.declared.kinds.BoxKind.TheVariants.{Select}
use Rattle.qgm_core.specs.declared.kinds.Distinct.{Distinct}
use Rattle.qgm_core.specs.declared.owned.OwnedQuant.{OwnedQuant}
use Rattle.qgm_core.specs.declared.parts.BoxParts.{BoxParts}
use Rattle.qgm_meaning.specs.Meaning.{Family, rows_by}
use Rattle.qgm_meaning.specs.Quantifiers.{Apart, LooksRows}
use Rattle.qgm_meaning.specs.Rules.{selecting}
use Rattle.qgm_meaning.specs.Values.{Bag, Environment, all_true, head_cells}
use Rattle.qgm_meaning.proofs.Joined.{all_true-append}
use Rattle.qgm_meaning.proofs.Quantifiers.{moves}
use Rattle.qgm_terms.specs.Terms.{Cond, Term}
use Rattle.list_laws.proofs.Membership.{append-one}
use Rattle.rule_feed.specs.Turn.{failing}

-- ---- conditions

module _ (rows : ℕ → Bag) (env : Environment) (k : Cond → Bool) where
  abbrev T : List Cond → Level
  T cs = (all_true rows cs env).t

  turn : (a b c : Level) → least a (least b c) ≡ least b (least a c)
  turn a b c = sym (least-associative a b c) ∙ ap (λ z. least z c) (least-commutative a b) ∙ least-associative b a c

  pub true-sifted : (cs : List Cond) → T (failing k cs ++ filter k cs) ≡ T cs
  true-sifted [] = refl
  true-sifted (c ∷ cs) =
      elim (k c) as (λ b. T (cond (not b) (c ∷ failing k cs) (failing k cs) ++ cond b (c ∷ filter k cs) (filter k cs)) ≡ T (c ∷ cs)) [
        | true ↦ all_true-append rows (failing k cs) (c ∷ filter k cs) env ∙ turn (T (failing k cs)) (Rattle.qgm_meaning.specs.Values.truth rows c env).t (T (filter k cs))
            ∙ ap (least (Rattle.qgm_meaning.specs.Values.truth rows c env).t) (sym (all_true-append rows (failing k cs) (filter k cs) env) ∙ true-sifted cs)
        | false ↦ ap (least (Rattle.qgm_meaning.specs.Values.truth rows c env).t) (true-sifted cs)
      ]

-- ---- quantifiers

module _ (t : OwnedQuant → Bool) (s : Family) where
  -- each that fails is apart from those behind it that pass
  abbrev pub MayTurn : List OwnedQuant → Type 0
  MayTurn [] = ⊤
  MayTurn (r ∷ rs) = (t r ≡ false → Apart s r (filter t rs)) × MayTurn rs

  module _ (looks : LooksRows s) (tables : List Table) (b : ℕ) (p : BoxParts) (d : Distinct) (conds : List Cond) (head : List Term) (env : Environment) where
    abbrev R : List OwnedQuant → Bag
    R qs = rows_by Select tables (selecting b p d conds head qs) s env

    pub rows-turned : (us rs : List OwnedQuant) → MayTurn rs → Alike (R (us ++ (filter t rs ++ failing t rs))) (R (us ++ rs))
    rows-turned us [] h = alike-refl (R (us ++ []))
    rows-turned us (r ∷ rs) h = elim (cases_Bool (t r)) [
      | inl e ↦ alike-trans (alike-same (ap R (ap (λ c. us ++ (cond c (r ∷ filter t rs) (filter t rs) ++ cond (not c) (r ∷ failing t rs) (failing t rs))) e ∙ sym (append-one us r (filter t rs ++ failing t rs)))))
          (alike-trans (rows-turned (us ++ r ∷ []) rs h.1) (alike-same (ap R (append-one us r rs))))
      | inr e ↦ alike-trans (alike-same (ap R (ap (λ c. us ++ (cond c (r ∷ filter t rs) (filter t rs) ++ cond (not c) (r ∷ failing t rs) (failing t rs))) e)))
          (alike-trans (alike-sym (moves s looks tables b p d conds head us r (filter t rs) (failing t rs) env (h.0 e)))
          (alike-trans (alike-same (ap R (sym (append-one us r (filter t rs ++ failing t rs))))) (alike-trans (rows-turned (us ++ r ∷ []) rs h.1) (alike-same (ap R (append-one us r rs))))))
    ]
