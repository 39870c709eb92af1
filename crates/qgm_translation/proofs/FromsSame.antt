-- What a FROM is in quantifiers goes by how many columns names have, and its conditions by the types of the columns of quantifiers.
use Rattle.std.proofs.Common.{◌≡◌, ◌<◌, ℕ, ◌+◌, List, ◌++◌, refl, ap, ap₂, ◌∙◌}
use Rattle.sql_meaning.specs.ResolvedTrees.{Test, From, Froms}
use Rattle.sql_meaning.specs.ResolvedTrees as q
use Rattle.qgm_core.specs.declared.owned.OwnedQuant.{OwnedQuant}
use Rattle.qgm_terms.specs.Terms.{Term}
use Rattle.qgm_translation.specs.Lays.{TypedUnder, Under, UnderIn}
use Rattle.qgm_translation.specs.Leaves.{Leaf, Slots, after, test_leaves}
use Rattle.qgm_translation.specs.Maps.{Frame, Map}
use Rattle.qgm_translation.specs.Shown.{first_id, refs}
use Rattle.qgm_translation.specs.Shown as w
use Rattle.qgm_translation.specs.Sources.{Sources, from_width}
use Rattle.qgm_translation.specs.Terms.{split}
use Rattle.qgm_translation.specs.Terms as l
use Rattle.qgm_translation.proofs.Numbers.{under_in-left, under_in-right}
use Rattle.qgm_translation.proofs.TermsSame.{cond-same}
use Rattle.qgm_translation.proofs.TermsUnder.{SlotsUnder, after-under}

module _ (one other : Sources) (counts : (name : List ℕ) → one.columns name ≡ other.columns name) where
  pub width-same : (x : From) → from_width one x ≡ from_width other x
  width-same (q.named name) = counts name
  width-same (q.derived query) = refl
  width-same (q.crossed x y) = ap₂ (λ a b. a + b) (width-same x) (width-same y)
  width-same (q.joined x y p) = ap₂ (λ a b. a + b) (width-same x) (width-same y)
  width-same (q.left_joined x y n p) = ap (λ a. a + n) (width-same x)

  pub past-same : (x : From) (os : List OwnedQuant) → w.past one x os ≡ w.past other x os
  past-same (q.named name) os = refl
  past-same (q.derived query) os = refl
  past-same (q.crossed x y) os = ap (w.past one y) (past-same x os) ∙ past-same y (w.past other x os)
  past-same (q.joined x y p) os = ap (w.past one y) (past-same x os) ∙ past-same y (w.past other x os)
  past-same (q.left_joined x y n p) os = refl

  pub frame-same : (x : From) (os : List OwnedQuant) → w.frame one x os ≡ w.frame other x os
  frame-same (q.named name) os = ap (refs (first_id os) 1) (counts name)
  frame-same (q.derived query) os = refl
  frame-same (q.crossed x y) os = ap₂ (λ a b. a ++ b) (frame-same x os) (ap (w.frame one y) (past-same x os) ∙ frame-same y (w.past other x os))
  frame-same (q.joined x y p) os = ap₂ (λ a b. a ++ b) (frame-same x os) (ap (w.frame one y) (past-same x os) ∙ frame-same y (w.past other x os))
  frame-same (q.left_joined x y n p) os = ap (λ a. refs (first_id os) 1 (a + n)) (width-same x)

  pub frames-same : (xs : Froms) (os : List OwnedQuant) → w.frame_all one xs os ≡ w.frame_all other xs os
  frames-same q.no_from os = refl
  frames-same (q.one_from x xs) os = ap₂ (λ a b. a ++ b) (frame-same x os) (ap (w.frame_all one xs) (past-same x os) ∙ frames-same xs (w.past other x os))

  pub on_leaves-same : (x : From) (os : List OwnedQuant) → w.on_leaves one x os ≡ w.on_leaves other x os
  on_leaves-same (q.named name) os = refl
  on_leaves-same (q.derived query) os = refl
  on_leaves-same (q.crossed x y) os = ap₂ (λ a b. a ++ b) (on_leaves-same x os) (ap (w.on_leaves one y) (past-same x os) ∙ on_leaves-same y (w.past other x os))
  on_leaves-same (q.joined x y p) os =
      ap₂ (λ a b. a ++ b) (on_leaves-same x os)
      (ap₂ (λ a b. a ++ b) (ap (w.on_leaves one y) (past-same x os) ∙ on_leaves-same y (w.past other x os)) (ap (λ fr. test_leaves fr p) (frame-same (q.joined x y p) os)))
  on_leaves-same (q.left_joined x y n p) os = refl

  pub on_leaves_all-same : (xs : Froms) (os : List OwnedQuant) → w.all_on_leaves one xs os ≡ w.all_on_leaves other xs os
  on_leaves_all-same q.no_from os = refl
  on_leaves_all-same (q.one_from x xs) os = ap₂ (λ a b. a ++ b) (on_leaves-same x os) (ap (w.all_on_leaves one xs) (past-same x os) ∙ on_leaves_all-same xs (w.past other x os))

  pub all_leaves-same : (from : Froms) (by : Test) (heads : Frame → List Leaf) (os : List OwnedQuant) → w.all_leaves one from by heads os ≡ w.all_leaves other from by heads os
  all_leaves-same from by heads os = ap₂ (λ fr ls. heads fr ++ (ls ++ test_leaves fr by)) (frames-same from os) (on_leaves_all-same from os)

  module _ (n : ℕ) (some : 0 < n) (agree : (x : Term) → TypedUnder n x → one.typed x ≡ other.typed x) (m : Map) (v : Under n m) where
    ons-same : (x : From) (os : List OwnedQuant) (s : Slots) → UnderIn n (w.frame other x os) → SlotsUnder n s → w.ons one m x os s ≡ w.ons other m x os s
    ons-same (q.named name) os s u h = refl
    ons-same (q.derived query) os s u h = refl
    ons-same (q.crossed x y) os s u h =
        ap₂ (λ a b. a ++ b) (ons-same x os s (under_in-left n (w.frame other x os) (w.frame other y (w.past other x os)) u) h)
        (ap₂ (λ p ls. w.ons one m y p (after ls s)) (past-same x os) (on_leaves-same x os)
        ∙ ons-same y (w.past other x os) (after (w.on_leaves other x os) s) (under_in-right n (w.frame other x os) (w.frame other y (w.past other x os)) u) (after-under n (w.on_leaves other x os) s h))
    ons-same (q.joined x y p) os s u h =
        let past = w.past other x os in
        let mid = after (w.on_leaves other x os) s in
        let low = after-under n (w.on_leaves other x os) s h in
        let end = after (w.on_leaves other y past) mid in
        ap₂ (λ a b. a ++ b) (ons-same x os s (under_in-left n (w.frame other x os) (w.frame other y past) u) h)
        (ap₂ (λ a b. a ++ b)
        (ap₂ (λ p ls. w.ons one m y p (after ls s)) (past-same x os) (on_leaves-same x os) ∙ ons-same y past mid (under_in-right n (w.frame other x os) (w.frame other y past) u) low)
        (ap₂ (λ fr t. split (l.cond one fr m t p)) (frame-same (q.joined x y p) os)
        (ap₂ (λ ls ks. after ls (after ks s)) (ap (w.on_leaves one y) (past-same x os) ∙ on_leaves-same y past) (on_leaves-same x os))
        ∙ ap split (cond-same one other n some agree (w.frame other (q.joined x y p) os) m u v end (after-under n (w.on_leaves other y past) mid low) p)))
    ons-same (q.left_joined x y k p) os s u h = refl

    ons_all-same : (xs : Froms) (os : List OwnedQuant) (s : Slots) → UnderIn n (w.frame_all other xs os) → SlotsUnder n s → w.all_ons one m xs os s ≡ w.all_ons other m xs os s
    ons_all-same q.no_from os s u h = refl
    ons_all-same (q.one_from x xs) os s u h =
        ap₂ (λ a b. a ++ b) (ons-same x os s (under_in-left n (w.frame other x os) (w.frame_all other xs (w.past other x os)) u) h)
        (ap₂ (λ p ls. w.all_ons one m xs p (after ls s)) (past-same x os) (on_leaves-same x os)
        ∙ ons_all-same xs (w.past other x os) (after (w.on_leaves other x os) s) (under_in-right n (w.frame other x os) (w.frame_all other xs (w.past other x os)) u) (after-under n (w.on_leaves other x os) s h))

    pub conds-same : (from : Froms) (by : Test) (heads : Frame → List Leaf) (os : List OwnedQuant) (s : Slots) → UnderIn n (w.frame_all other from os) → SlotsUnder n s
        → w.conds_of one from by heads m os s ≡ w.conds_of other from by heads m os s
    conds-same from by heads os s u h =
        let fr = w.frame_all other from os in
        let mid = after (heads fr) s in
        let low = after-under n (heads fr) s h in
        ap₂ (λ a b. a ++ b)
        (ap (λ f. w.all_ons one m from os (after (heads f) s)) (frames-same from os) ∙ ons_all-same from os mid u low)
        (ap₂ (λ f ls. split (l.cond one f m (after ls (after (heads f) s)) by)) (frames-same from os) (on_leaves_all-same from os)
        ∙ ap split (cond-same one other n some agree fr m u v (after (w.all_on_leaves other from os) mid) (after-under n (w.all_on_leaves other from os) mid low) by))
