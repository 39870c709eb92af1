-- The columns of a FROM are seen in the same places, whatever boxes names share and types expressions have.
use Rattle.std.proofs.Common.{◌≡◌, ℕ, ◌+◌, List, ◌++◌, ap, ap₂, refl, ◌∙◌}
use Rattle.sql_value.specs.declared.order_key.SqlType.{SqlType}
use Rattle.sql_meaning.specs.ResolvedTrees.{From, Froms, Test}
use Rattle.sql_meaning.specs.ResolvedTrees as q
use Rattle.qgm_core.specs.declared.owned.OwnedQuant.{OwnedQuant}
use Rattle.qgm_terms.specs.Terms.{Term}
use Rattle.qgm_translation.specs.Leaves.{Leaf, test_leaves}
use Rattle.qgm_translation.specs.Maps.{Frame}
use Rattle.qgm_translation.specs.Shown.{all_leaves, all_on_leaves, first_id, frame, frame_all, on_leaves, past, refs}
use Rattle.qgm_translation.specs.Sources.{Sources, from_width}

module _ (k : Sources) (shared : List ℕ → ℕ) (typed : Term → SqlType) where
  abbrev pub also : Sources
  also = record k { shared = shared; typed = typed }

  pub width_same : (x : From) → from_width also x ≡ from_width k x
  width_same (q.named name) = refl
  width_same (q.derived query) = refl
  width_same (q.crossed x y) = ap₂ (λ a b. a + b) (width_same x) (width_same y)
  width_same (q.joined x y p) = ap₂ (λ a b. a + b) (width_same x) (width_same y)
  width_same (q.left_joined x y n p) = ap (λ a. a + n) (width_same x)

  pub past_same : (x : From) (os : List OwnedQuant) → past also x os ≡ past k x os
  past_same (q.named name) os = refl
  past_same (q.derived query) os = refl
  past_same (q.crossed x y) os = past_same y (past also x os) ∙ ap (past k y) (past_same x os)
  past_same (q.joined x y p) os = past_same y (past also x os) ∙ ap (past k y) (past_same x os)
  past_same (q.left_joined x y n p) os = refl

  pub frame_same : (x : From) (os : List OwnedQuant) → frame also x os ≡ frame k x os
  frame_same (q.named name) os = refl
  frame_same (q.derived query) os = refl
  frame_same (q.crossed x y) os = ap₂ (λ a b. a ++ b) (frame_same x os) (frame_same y (past also x os) ∙ ap (frame k y) (past_same x os))
  frame_same (q.joined x y p) os = ap₂ (λ a b. a ++ b) (frame_same x os) (frame_same y (past also x os) ∙ ap (frame k y) (past_same x os))
  frame_same (q.left_joined x y n p) os = ap (λ a. refs (first_id os) 1 (a + n)) (width_same x)

  pub frame_all_same : (xs : Froms) (os : List OwnedQuant) → frame_all also xs os ≡ frame_all k xs os
  frame_all_same q.no_from os = refl
  frame_all_same (q.one_from x xs) os = ap₂ (λ a b. a ++ b) (frame_same x os) (frame_all_same xs (past also x os) ∙ ap (frame_all k xs) (past_same x os))

  -- the columns of both operands of a join
  pub both_same : (x y : From) (os : List OwnedQuant) → frame also x os ++ frame also y (past also x os) ≡ frame k x os ++ frame k y (past k x os)
  both_same x y os = ap₂ (λ a b. a ++ b) (frame_same x os) (frame_same y (past also x os) ∙ ap (frame k y) (past_same x os))

  pub on_leaves_same : (x : From) (os : List OwnedQuant) → on_leaves also x os ≡ on_leaves k x os
  on_leaves_same (q.named name) os = refl
  on_leaves_same (q.derived query) os = refl
  on_leaves_same (q.crossed x y) os = ap₂ (λ a b. a ++ b) (on_leaves_same x os) (on_leaves_same y (past also x os) ∙ ap (on_leaves k y) (past_same x os))
  on_leaves_same (q.joined x y p) os =
      ap₂ (λ a b. a ++ b) (on_leaves_same x os)
      (ap₂ (λ a b. a ++ b) (on_leaves_same y (past also x os) ∙ ap (on_leaves k y) (past_same x os)) (ap (λ fr. test_leaves fr p) (both_same x y os)))
  on_leaves_same (q.left_joined x y n p) os = refl

  pub all_on_leaves_same : (xs : Froms) (os : List OwnedQuant) → all_on_leaves also xs os ≡ all_on_leaves k xs os
  all_on_leaves_same q.no_from os = refl
  all_on_leaves_same (q.one_from x xs) os = ap₂ (λ a b. a ++ b) (on_leaves_same x os) (all_on_leaves_same xs (past also x os) ∙ ap (all_on_leaves k xs) (past_same x os))

  pub all_leaves_same : (from : Froms) (by : Test) (heads : Frame → List Leaf) (os : List OwnedQuant) → all_leaves also from by heads os ≡ all_leaves k from by heads os
  all_leaves_same from by heads os =
      ap₂ (λ fr ls. heads fr ++ (ls ++ test_leaves fr by)) (frame_all_same from os) (all_on_leaves_same from os)

pub ruleset frames_same = (frame_all_same, both_same, width_same)
