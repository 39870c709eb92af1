-- What fits stays fit.
use Rattle.std.specs.List.{list_any}
use Rattle.std.proofs.Common.{ℕ, ◌==◌, ◌≡◌, ◌&&◌, Bool, true, List, [], ◌∷◌, ◌++◌, refl, sym, ◌∙◌, append_assoc, subst}
use Rattle.std.proofs.lemmas.Bool.{and_from, eq-eqb, or_left, or_right}
use Rattle.sql_value.specs.declared.cell.Cell.{Cell}
use Rattle.qgm_core.specs.declared.node.Node.{Node}
use Rattle.qgm_core.specs.declared.owned.OwnedQuant.{OwnedQuant}
use Rattle.qgm_core.specs.Boxes.{is_quant, owns}
use Rattle.qgm_meaning.specs.Fits.{fits, has_row}
use Rattle.qgm_meaning.specs.Laws.{AllStay, Stays, occurs}
use Rattle.qgm_meaning.specs.Meaning.{Family, quant_rows}
use Rattle.qgm_meaning.specs.Values.{Environment}

module _ (f : Family) (ns : List Node) where
  stays : (n : Node) → ((q : ℕ) (cells : List Cell) (env : Environment) → owns q n ≡ true → occurs cells (quant_rows n f q env) ≡ true → has_row f ns q cells env ≡ true)
      → (rs : List OwnedQuant) → ((q : ℕ) → list_any (is_quant q) rs ≡ true → owns q n ≡ true) → Stays (fits f ns) (quant_rows n f) rs
  stays n there [] own = tt
  stays n there (r ∷ rs) own = (
    (λ env cells k p o. and_from (has_row f ns r.id cells env) (fits f ns env) (there r.id cells env (own r.id (or_left (r.id == r.id) (list_any (is_quant r.id) rs) (eq-eqb r.id r.id refl))) o) p),
    stays n there rs (λ q t. own q (or_right (r.id == q) (list_any (is_quant q) rs) t)),
  )

  all-stay : (before after : List Node) → ns ≡ before ++ after → AllStay (fits f ns) f after
  all-stay before [] e = tt
  all-stay before (n ∷ after) e = (stays n (λ q cells env o there. at q cells env o there) n.quants (λ q t. t), all-stay (before ++ n ∷ []) after (e ∙ sym (append_assoc before (n ∷ []) after)))
    where
      among : (p : Node → Bool) (before : List Node) → p n ≡ true → list_any p (before ++ n ∷ after) ≡ true
      among p [] t = or_left (p n) (list_any p after) t
      among p (m ∷ before) t = or_right (p m) (list_any p (before ++ n ∷ after)) (among p before t)

      at : (q : ℕ) (cells : List Cell) (env : Environment) → owns q n ≡ true → occurs cells (quant_rows n f q env) ≡ true → has_row f ns q cells env ≡ true
      at q cells env o there = subst (λ (ms : List Node). has_row f ms q cells env ≡ true) (sym e) (among (λ n. owns q n && occurs cells (quant_rows n f q env)) before (and_from (owns q n) (occurs cells (quant_rows n f q env)) o there))

pub hereditary : (f : Family) (ns : List Node) → AllStay (fits f ns) f ns
hereditary f ns = all-stay f ns [] ns refl
