-- EXISTS as a join where nothing makes the rows distinct.
use Rattle.std.proofs.Common.{ℕ, ◌≤◌, ◌≡◌, Bool, true, false, List, [], ◌∷◌, ◌++◌, sym, ap, ◌∙◌}
use Rattle.row_bag.specs.Bags.{Alike, bind}
use Rattle.row_bag.specs.Joins.{how_many}
use Rattle.row_bag.specs.Sets.{SameLevels, same_cells}
use Rattle.row_bag.specs.declared.tables.Table.{Table}
use Rattle.row_bag.proofs.Agreement.{alike-same, alike-trans}
use Rattle.row_bag.proofs.GreatestLevels.{levels-distinct, levels-sym, levels-trans}
use Rattle.row_bag.proofs.TupleBags.{same_cells-decides}
use Rattle.qgm_core.specs.Kinds.{is_enforce}
use Rattle.qgm_core.specs.declared.kinds.BoxKind.TheVariants.{Select}
use Rattle.qgm_core.specs.declared.kinds.Distinct.{Distinct}
use Rattle.qgm_core.specs.declared.owned.OwnedQuant.{OwnedQuant}
use Rattle.qgm_core.specs.declared.parts.BoxParts.{BoxParts}
use Rattle.qgm_meaning.specs.Exists.{JoinsLevels, Unread}
use Rattle.qgm_meaning.specs.Laws.{Stays}
use Rattle.qgm_meaning.specs.Meaning.{Family, given_by, once_if, over_each, rows_by}
use Rattle.qgm_meaning.specs.Rules.{as_E, as_F, selecting}
use Rattle.qgm_meaning.specs.Values.{Bag, Environment, bound}
use Rattle.qgm_terms.specs.Terms.{Cond, Term, some}
use Rattle.qgm_meaning.proofs.Alikes.{once_if-alike}
use Rattle.qgm_meaning.proofs.Joined.{joined-levels, one-row-each, over_each-append}
use Rattle.qgm_meaning.proofs.Merged.{over_each-within}

once_if-levels : (once : Bool) (xs ys : Bag) → SameLevels same_cells xs ys → SameLevels same_cells (once_if once xs) (once_if once ys)
once_if-levels true xs ys h = levels-trans same_cells (levels-distinct same_cells same_cells-decides xs) (levels-trans same_cells h (levels-sym same_cells (levels-distinct same_cells same_cells-decides ys)))
once_if-levels false xs ys h = h

pub joins-levels : JoinsLevels
joins-levels = λ tables s b p d us vs i over xs ys c head env u.
    once_if-levels (is_enforce d)
    (over_each (us ++ as_E i over ∷ vs) s (given_by s (selecting b p d (xs ++ some i c ∷ ys) head (us ++ as_E i over ∷ vs))) env)
    (over_each ((us ++ vs) ++ as_F i over ∷ []) s (given_by s (selecting b p d (xs ++ c ∷ ys) head ((us ++ vs) ++ as_F i over ∷ []))) env)
    (joined-levels s i xs ys c head u.below u.cells u.before u.behind us vs over env)

module _ (tables : List Table) (s : Family) (b : ℕ) (p : BoxParts) (d : Distinct) (us vs : List OwnedQuant) (i over : ℕ) (xs ys : List Cond) (c : Cond) (head : List Term) (passes : Environment → Bool) (u : Unread s i xs ys head)
    (stays : Stays passes s (us ++ vs)) (one : (env : Environment) → passes env ≡ true → how_many (s i env) ≤ 1) where
  pub joins-of_one : (env : Environment) → passes env ≡ true
      → Alike (rows_by Select tables (selecting b p d (xs ++ some i c ∷ ys) head (us ++ as_E i over ∷ vs)) s env) (rows_by Select tables (selecting b p d (xs ++ c ∷ ys) head ((us ++ vs) ++ as_F i over ∷ [])) s env)
  joins-of_one env pass = once_if-alike (is_enforce d) (
      alike-trans (alike-same (ap (λ (k : Environment → Bag). k env) (over_each-append us (as_E i over ∷ vs) s (given_by s (selecting b p d (xs ++ some i c ∷ ys) head (us ++ as_E i over ∷ vs))) ∙ sym (over_each-append us vs s (given_by s (selecting b p d (xs ++ some i c ∷ ys) head (us ++ as_E i over ∷ vs)))))))
      (alike-trans (over_each-within passes s (given_by s (selecting b p d (xs ++ some i c ∷ ys) head (us ++ as_E i over ∷ vs))) (λ e. bind (s i e) (λ cells. given_by s (selecting b p d (xs ++ c ∷ ys) head ((us ++ vs) ++ as_F i over ∷ [])) (bound i cells e))) (us ++ vs) stays
      (λ e pe. one-row-each s i xs ys c head u.below u.cells u.before u.behind e (one e pe)) env pass)
      (alike-same (ap (λ (k : Environment → Bag). k env) (sym (over_each-append (us ++ vs) (as_F i over ∷ []) s (given_by s (selecting b p d (xs ++ c ∷ ys) head ((us ++ vs) ++ as_F i over ∷ [])))))))))
