-- A FROM reads its own quantifiers alone.
use Rattle.std.proofs.Common.{◌≡◌, List, [], ◌++◌, append_assoc, refl, ap, ap₂, sym, ◌∙◌}
use Rattle.sql_meaning.specs.ResolvedTrees.{Test, From, Froms, Query}
use Rattle.sql_meaning.specs.ResolvedTrees as q
use Rattle.qgm_core.specs.declared.owned.OwnedQuant.{OwnedQuant}
use Rattle.qgm_translation.specs.Maps.{Map}
use Rattle.qgm_translation.specs.Leaves.{Slots, after, test_leaves}
use Rattle.qgm_translation.specs.Terms.{cond, split}
use Rattle.qgm_translation.specs.Shown as w
use Rattle.qgm_translation.specs.Sources.{Sources}

module _ (sources : Sources) where
  pub record Fills (x : From) (a : List OwnedQuant) : Type 0 where
    pub past : (more : List OwnedQuant) → w.past sources x (a ++ more) ≡ more
    pub frame : (more : List OwnedQuant) → w.frame sources x (a ++ more) ≡ w.frame sources x a
    pub leaves : (more : List OwnedQuant) → w.on_leaves sources x (a ++ more) ≡ w.on_leaves sources x a
    pub ons : (m : Map) (s : Slots) (more : List OwnedQuant) → w.ons sources m x (a ++ more) s ≡ w.ons sources m x a s

  pub record FillsAll (x : Froms) (a : List OwnedQuant) : Type 0 where
    pub past : (more : List OwnedQuant) → w.past_all sources x (a ++ more) ≡ more
    pub frame : (more : List OwnedQuant) → w.frame_all sources x (a ++ more) ≡ w.frame_all sources x a
    pub leaves : (more : List OwnedQuant) → w.all_on_leaves sources x (a ++ more) ≡ w.all_on_leaves sources x a
    pub ons : (m : Map) (s : Slots) (more : List OwnedQuant) → w.all_ons sources m x (a ++ more) s ≡ w.all_ons sources m x a s

  module _ (a b : List OwnedQuant) (past : List OwnedQuant → List OwnedQuant) (passed : (more : List OwnedQuant) → past (a ++ more) ≡ more) where
    past-both : (later : List OwnedQuant → List OwnedQuant) → ((more : List OwnedQuant) → later (b ++ more) ≡ more) → (more : List OwnedQuant) → later (past (a ++ b ++ more)) ≡ more
    past-both later h more = ap (λ os. later (past os)) (append_assoc a b more) ∙ ap later (passed (b ++ more)) ∙ h more

    left : {Z : Type 0} (f : List OwnedQuant → Z) → ((more : List OwnedQuant) → f (a ++ more) ≡ f a) → (more : List OwnedQuant) → f (a ++ b ++ more) ≡ f (a ++ b)
    left f h more = ap f (append_assoc a b more) ∙ h (b ++ more) ∙ sym (h b)

    right : {Z : Type 0} (f : List OwnedQuant → Z) → ((more : List OwnedQuant) → f (b ++ more) ≡ f b) → (more : List OwnedQuant) → f (past (a ++ b ++ more)) ≡ f (past (a ++ b))
    right f h more = ap (λ os. f (past os)) (append_assoc a b more) ∙ ap f (passed (b ++ more)) ∙ h more ∙ sym (ap f (passed b))

  pub fills-crossed : (x y : From) (a b : List OwnedQuant) → Fills x a → Fills y b → Fills (q.crossed x y) (a ++ b)
  fills-crossed x y a b h k =
      let past = w.past sources x in
      let on = left a b past h.past (w.on_leaves sources x) h.leaves in
      record {
        past = past-both a b past h.past (w.past sources y) k.past;
        frame = λ more. ap₂ (λ f g. f ++ g) (left a b past h.past (w.frame sources x) h.frame more) (right a b past h.past (w.frame sources y) k.frame more);
        leaves = λ more. ap₂ (λ f g. f ++ g) (on more) (right a b past h.past (w.on_leaves sources y) k.leaves more);
        ons = λ m s more. ap₂ (λ f g. f ++ g) (left a b past h.past (λ os. w.ons sources m x os s) (h.ons m s) more)
            (right a b past h.past (λ os. w.ons sources m y os (after (w.on_leaves sources x (a ++ b ++ more)) s)) (k.ons m (after (w.on_leaves sources x (a ++ b ++ more)) s)) more
            ∙ ap (λ ls. w.ons sources m y (past (a ++ b)) (after ls s)) (on more));
      }

  pub fills-joined : (x y : From) (p : Test) (a b : List OwnedQuant) → Fills x a → Fills y b → Fills (q.joined x y p) (a ++ b)
  fills-joined x y p a b h k =
      let past = w.past sources x in
      let on = left a b past h.past (w.on_leaves sources x) h.leaves in
      let also = right a b past h.past (w.on_leaves sources y) k.leaves in
      let both : (more : List OwnedQuant) → w.frame sources (q.joined x y p) (a ++ b ++ more) ≡ w.frame sources (q.joined x y p) (a ++ b)
      = λ more. ap₂ (λ f g. f ++ g) (left a b past h.past (w.frame sources x) h.frame more) (right a b past h.past (w.frame sources y) k.frame more) in
      record {
        past = past-both a b past h.past (w.past sources y) k.past;
        frame = both;
        leaves = λ more. ap₂ (λ f g. f ++ g) (on more) (ap₂ (λ f g. f ++ g) (also more) (ap (λ fr. test_leaves fr p) (both more)));
        ons = λ m s more. ap₂ (λ f g. f ++ g) (left a b past h.past (λ os. w.ons sources m x os s) (h.ons m s) more)
            (ap₂ (λ f g. f ++ g) (right a b past h.past (λ os. w.ons sources m y os (after (w.on_leaves sources x (a ++ b ++ more)) s)) (k.ons m (after (w.on_leaves sources x (a ++ b ++ more)) s)) more
            ∙ ap (λ ls. w.ons sources m y (past (a ++ b)) (after ls s)) (on more))
            (ap₂ (λ fr t. split (cond sources fr m t p)) (both more) (ap₂ (λ ls ks. after ls (after ks s)) (also more) (on more))));
      }

  pub fills-none : FillsAll q.no_from []
  fills-none = record { past = λ more. refl; frame = λ more. refl; leaves = λ more. refl; ons = λ m s more. refl }

  pub fills-next : (x : From) (xs : Froms) (a b : List OwnedQuant) → Fills x a → FillsAll xs b → FillsAll (q.one_from x xs) (a ++ b)
  fills-next x xs a b h k =
      let past = w.past sources x in
      let on = left a b past h.past (w.on_leaves sources x) h.leaves in
      record {
        past = past-both a b past h.past (w.past_all sources xs) k.past;
        frame = λ more. ap₂ (λ f g. f ++ g) (left a b past h.past (w.frame sources x) h.frame more) (right a b past h.past (w.frame_all sources xs) k.frame more);
        leaves = λ more. ap₂ (λ f g. f ++ g) (on more) (right a b past h.past (w.all_on_leaves sources xs) k.leaves more);
        ons = λ m s more. ap₂ (λ f g. f ++ g) (left a b past h.past (λ os. w.ons sources m x os s) (h.ons m s) more)
            (right a b past h.past (λ os. w.all_ons sources m xs os (after (w.on_leaves sources x (a ++ b ++ more)) s)) (k.ons m (after (w.on_leaves sources x (a ++ b ++ more)) s)) more
            ∙ ap (λ ls. w.all_ons sources m xs (past (a ++ b)) (after ls s)) (on more));
      }
