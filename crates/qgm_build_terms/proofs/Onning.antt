-- The ON conditions of a FROM, one operand after the other.
use Rattle.std.proofs.Common.{◌≡◌, ◌<◌, ◌+◌, ℕ, List, ◌++◌, append_assoc, length, drop, get_or, ap, ap₂, sym, ◌∙◌}
use Rattle.sql_meaning.specs.ResolvedShown as shown
use Rattle.sql_meaning.specs.ResolvedTrees.{From, Test}
use Rattle.sql_meaning.specs.ResolvedTrees as q
use Rattle.sql_meaning.specs.declared.resolved.From.{From as Held}
use Rattle.qgm_core.specs.declared.owned.OwnedQuant.{OwnedQuant}
use Rattle.qgm_terms.specs.Terms.{Cond}
use Rattle.qgm_translation.specs.Leaves.{Leaf, Slots, after}
use Rattle.qgm_translation.specs.Maps.{Frame, Map}
use Rattle.qgm_translation.specs.Shown.{all_on_leaves, all_ons, frame, on_leaves, ons, past}
use Rattle.qgm_translation.specs.Sources.{Sources}
use Rattle.qgm_translation.specs.Terms.{cond, split}
use Rattle.qgm_translation.specs.Folds.{all_on_folds, on_folds}
use Rattle.qgm_build_terms.proofs.Afters.{after_append}
use Rattle.qgm_build_terms.proofs.Steps.{next_there}

-- a join, whose parts are read anew where they are used
pub joined_read : (all : Sources) (m : Map) (a b c d e f : From) (p r : Test) (os rest : List OwnedQuant) (s t u : Slots) (fr seen : Frame) (start left both new : List Cond) (on : Cond)
    → c ≡ a → d ≡ b → e ≡ a → f ≡ b → r ≡ p → seen ≡ fr
    → left ≡ start ++ ons all m c os s → t ≡ after (on_leaves all c os) s → rest ≡ past all c os
    → both ≡ left ++ ons all m d rest t → u ≡ after (on_leaves all d rest) t
    → fr ≡ frame all e os ++ frame all f (past all e os)
    → on ≡ cond all seen m u r → new ≡ both ++ split on
    → new ≡ start ++ ons all m (q.joined a b p) os s
joined_read all m a b c d e f p r os rest s t u fr seen start left both new on ca db ea fb rp sf lefts ts rests boths us frs ons_is news =
    let end : rest ≡ past all a os = rests ∙ ap (λ z. past all z os) ca in
    let mid : t ≡ after (on_leaves all a os) s = ts ∙ ap (λ z. after (on_leaves all z os) s) ca in
    let last : u ≡ after (on_leaves all b (past all a os)) (after (on_leaves all a os) s) = us ∙ ap (λ z. after (on_leaves all z rest) t) db ∙ ap₂ (λ o y. after (on_leaves all b o) y) end mid in
    let where_seen : seen ≡ frame all a os ++ frame all b (past all a os) = sf ∙ frs ∙ ap₂ (λ z y. frame all z os ++ frame all y (past all z os)) ea fb in
    let first : left ≡ start ++ ons all m a os s = lefts ∙ ap (λ z. start ++ ons all m z os s) ca in
    let second : ons all m d rest t ≡ ons all m b (past all a os) (after (on_leaves all a os) s) = ap (λ z. ons all m z rest t) db ∙ ap₂ (ons all m b) end mid in
    let third : on ≡ cond all (frame all a os ++ frame all b (past all a os)) m (after (on_leaves all b (past all a os)) (after (on_leaves all a os) s)) p
    = ons_is ∙ ap₂ (λ g y. cond all g m y r) where_seen last ∙ ap (cond all (frame all a os ++ frame all b (past all a os)) m (after (on_leaves all b (past all a os)) (after (on_leaves all a os) s))) rp in
    news ∙ ap₂ (λ x y. x ++ split y) (boths ∙ ap₂ (λ x y. x ++ y) first second) third
    ∙ append_assoc (start ++ ons all m a os s) (ons all m b (past all a os) (after (on_leaves all a os) s)) _ ∙ append_assoc start (ons all m a os s) _

module _ (all : Sources) (m : Map) (xs : List Held) (i : ℕ) (x : Held) (low : i < length xs) (is : x ≡ get_or xs i x) where
  pub conds_step : (os rest : List OwnedQuant) (s t : Slots) (old new end : List Cond) → new ≡ old ++ ons all m (shown.from x) os s → rest ≡ past all (shown.from x) os → t ≡ after (on_leaves all (shown.from x) os) s
      → old ++ all_ons all m (shown.from_list (drop i xs)) os s ≡ end → new ++ all_ons all m (shown.from_list (drop (i + 1) xs)) rest t ≡ end
  conds_step os rest s t old new end e f g so_far =
      ap₂ (λ o y. new ++ all_ons all m (shown.from_list (drop (i + 1) xs)) o y) f g ∙ ap (λ zs. zs ++ all_ons all m (shown.from_list (drop (i + 1) xs)) (past all (shown.from x) os) (after (on_leaves all (shown.from x) os) s)) e
      ∙ append_assoc old (ons all m (shown.from x) os s) _ ∙ ap (λ (ys : List Held). old ++ all_ons all m (shown.from_list ys) os s) (sym (next_there xs i x low is)) ∙ so_far

  pub leaves_step : (os rest : List OwnedQuant) (s t end : Slots) → rest ≡ past all (shown.from x) os → t ≡ after (on_leaves all (shown.from x) os) s
      → after (all_on_leaves all (shown.from_list (drop i xs)) os) s ≡ end → after (all_on_leaves all (shown.from_list (drop (i + 1) xs)) rest) t ≡ end
  leaves_step os rest s t end f g so_far =
      ap₂ (λ o y. after (all_on_leaves all (shown.from_list (drop (i + 1) xs)) o) y) f g
      ∙ sym (after_append (on_leaves all (shown.from x) os) (all_on_leaves all (shown.from_list (drop (i + 1) xs)) (past all (shown.from x) os)) s)
      ∙ ap (λ (ys : List Held). after (all_on_leaves all (shown.from_list ys) os) s) (sym (next_there xs i x low is)) ∙ so_far

pub folds_step : (xs : List Held) (i : ℕ) (x : Held) (old new end : List Leaf) → i < length xs → x ≡ get_or xs i x → new ≡ old ++ on_folds (shown.from x)
    → old ++ all_on_folds (shown.from_list (drop i xs)) ≡ end → new ++ all_on_folds (shown.from_list (drop (i + 1) xs)) ≡ end
folds_step xs i x old new end low is e so_far =
    ap (λ zs. zs ++ all_on_folds (shown.from_list (drop (i + 1) xs))) e ∙ append_assoc old (on_folds (shown.from x)) _
    ∙ ap (λ (ys : List Held). old ++ all_on_folds (shown.from_list ys)) (sym (next_there xs i x low is)) ∙ so_far
