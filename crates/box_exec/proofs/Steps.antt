-- One element more of a list that is gone through.
use Rattle.std.proofs.Common.{refl, [], ℕ, ◌+◌, ◌<◌, ◌≡◌, ◌∙◌, List, drop, length, get_or, sym, ap, add-one, drop-cons, ◌∷◌, true, false}
use Rattle.row_bag.specs.Bags.{if_there, total}
use Rattle.row_bag.specs.declared.row.Row.{Row}
use Rattle.sql_value.specs.declared.level.Level.{Level}
use Rattle.row_bag.proofs.Chains.{and_joins, or_joins}
use Rattle.qgm_terms.specs.Terms.{Term, Cond, both, and, or, linked, anded, ored}
use Rattle.qgm_terms.specs.Terms as tt
use Rattle.qgm_terms.specs.Shown.{cond, conds, links, term}
use Rattle.qgm_terms.specs.declared.tree.Gc.{Gc}
use Rattle.qgm_terms.specs.declared.tree.Link.{Link}
use Rattle.sql_value.specs.Truths as t
use Rattle.sql_value.specs.declared.cell.Cell.{Cell}
use Rattle.sql_value.specs.declared.truth.Truth.{Truth}
use Rattle.box_exec.specs.Lists as lists
use Rattle.qgm_meaning.specs.Values.{Bag, Environment, operate, truth, value}

from : {X : Type 0} (xs : List X) (i : ℕ) (d : X) → i < length xs → get_or xs i d ≡ d → drop i xs ≡ d ∷ drop (i + 1) xs
from xs i d l h = drop-cons xs i d l ∙ ap (λ n. get_or xs i d ∷ drop n xs) (sym (add-one i)) ∙ ap (λ a. a ∷ drop (i + 1) xs) h

pub chain_more : (s : ℕ → Bag) (env : Environment) (xs : List Link) (i : ℕ) (d : Link) (x y z r : Cell) → i < length xs → get_or xs i d ≡ d →
    y ≡ value s (term d.right) env → z ≡ operate d.op x y → lists.chained s x (links (drop i xs)) env ≡ r →
    lists.chained s z (links (drop (i + 1) xs)) env ≡ r
chain_more s env xs i d x y z r l h ey ez e =
    ap (λ (c : Cell). lists.chained s c (links (drop (i + 1) xs)) env) (ez ∙ ap (operate d.op x) ey)
    ∙ sym (ap (λ ys. lists.chained s x (links ys) env) (from xs i d l h)) ∙ e

pub all_more : (s : ℕ → Bag) (env : Environment) (xs : List Gc) (i : ℕ) (d : Gc) (x y z r : Truth) → i < length xs → get_or xs i d ≡ d →
    y ≡ truth s (cond d) env → z ≡ t.and x y → lists.all_of s x (conds (drop i xs)) env ≡ r → lists.all_of s z (conds (drop (i + 1) xs)) env ≡ r
all_more s env xs i d x y z r l h ey ez e =
    ap (λ (c : Truth). lists.all_of s c (conds (drop (i + 1) xs)) env) (ez ∙ ap (t.and x) ey) ∙ sym (ap (λ ys. lists.all_of s x (conds ys) env) (from xs i d l h)) ∙ e

pub any_more : (s : ℕ → Bag) (env : Environment) (xs : List Gc) (i : ℕ) (d : Gc) (x y z r : Truth) → i < length xs → get_or xs i d ≡ d →
    y ≡ truth s (cond d) env → z ≡ t.or x y → lists.any_of s x (conds (drop i xs)) env ≡ r → lists.any_of s z (conds (drop (i + 1) xs)) env ≡ r
any_more s env xs i d x y z r l h ey ez e =
    ap (λ (c : Truth). lists.any_of s c (conds (drop (i + 1) xs)) env) (ez ∙ ap (t.or x) ey) ∙ sym (ap (λ ys. lists.any_of s x (conds ys) env) (from xs i d l h)) ∙ e

pub some_more : (f : List Cell → Level → Truth) (rows : List (Row (List Cell))) (i : ℕ) (d : Row (List Cell)) (x y z r : Truth) → i < length rows → get_or rows i d ≡ d →
    y ≡ if_there (t.truth_of false) f d.cells d.level → z ≡ t.or x y → t.or x (total t.or (t.truth_of false) f (drop i rows)) ≡ r →
    t.or z (total t.or (t.truth_of false) f (drop (i + 1) rows)) ≡ r
some_more f rows i d x y z r l h ey ez e =
    let rest = total t.or (t.truth_of false) f (drop (i + 1) rows) in
    ap (λ (c : Truth). t.or c rest) (ez ∙ ap (t.or x) ey) ∙ or_joins x (if_there (t.truth_of false) f d.cells d.level) rest
    ∙ sym (ap (λ ys. t.or x (total t.or (t.truth_of false) f ys)) (from rows i d l h)) ∙ e

pub every_more : (f : List Cell → Level → Truth) (rows : List (Row (List Cell))) (i : ℕ) (d : Row (List Cell)) (x y z r : Truth) → i < length rows → get_or rows i d ≡ d →
    y ≡ if_there (t.truth_of true) f d.cells d.level → z ≡ t.and x y → t.and x (total t.and (t.truth_of true) f (drop i rows)) ≡ r →
    t.and z (total t.and (t.truth_of true) f (drop (i + 1) rows)) ≡ r
every_more f rows i d x y z r l h ey ez e =
    let rest = total t.and (t.truth_of true) f (drop (i + 1) rows) in
    ap (λ (c : Truth). t.and c rest) (ez ∙ ap (t.and x) ey) ∙ and_joins x (if_there (t.truth_of true) f d.cells d.level) rest
    ∙ sym (ap (λ ys. t.and x (total t.and (t.truth_of true) f ys)) (from rows i d l h)) ∙ e

-- chains and lists of conditions, operand by operand
pub value_linked : (s : ℕ → Bag) (x : Term) (ls : List tt.Link) (env : Environment) → value s (linked x ls) env ≡ lists.chained s (value s x env) ls env
value_linked s x [] env = refl
value_linked s x (l ∷ ls) env = value_linked s (both l.op x l.right) ls env

pub truth_anded : (s : ℕ → Bag) (p : Cond) (ps : List Cond) (env : Environment) → truth s (anded p ps) env ≡ lists.all_of s (truth s p env) ps env
truth_anded s p [] env = refl
truth_anded s p (q ∷ ps) env = truth_anded s (and p q) ps env

pub truth_ored : (s : ℕ → Bag) (p : Cond) (ps : List Cond) (env : Environment) → truth s (ored p ps) env ≡ lists.any_of s (truth s p env) ps env
truth_ored s p [] env = refl
truth_ored s p (q ∷ ps) env = truth_ored s (or p q) ps env
