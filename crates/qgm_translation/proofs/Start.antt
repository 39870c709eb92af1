-- Tables and views stand, one after the other, before a query is made into boxes.
use Rattle.std.proofs.Common.{◌≡◌, ◌<◌, ◌⊎◌, inl, inr, ℕ, suc, Bool, true, false, List, [], ◌∷◌, length, Option, Some, None, refl, ap, sym, ◌∙◌, subst, arith}
use Rattle.std.proofs.lemmas.Bool.{eq-eqb, ne_eqb}
use Rattle.sql_meaning.specs.ResolvedTrees.{Query}
use Rattle.sql_meaning.specs.ResolvedTrees as q
use Rattle.qgm_core.specs.declared.kinds.BoxKind.TheVariants.{Base}
use Rattle.qgm_core.specs.declared.node.Node.{Node}
use Rattle.qgm_translation.specs.Buildable.{Buildable}
use Rattle.qgm_translation.specs.Maps.{Map}
use Rattle.qgm_translation.specs.Shown as w
use Rattle.qgm_translation.specs.Shown.{Thing, of_operand, of_query}
use Rattle.qgm_translation.specs.Sources.{Sources}
use Rattle.qgm_translation.specs.Lays.{Made, OneMore, Ready, laid_over, lay_base}
use Rattle.qgm_translation.specs.Lay.{Boxes, plain_box}
use Rattle.qgm_translation.proofs.LaidAll.{laid}
use Rattle.qgm_translation.proofs.Made.{shows-as}

pub nothing-ready : (sources : Sources) (s : Boxes) → Ready sources (λ name. false) s []
nothing-ready sources s = record { known = λ name h. absurd (cc h); sourced = λ name h m. absurd (cc h); under = tt }

-- what is shown of a body is shown of its view
source-as : (sources : Sources) (name : List ℕ) (body : Query) (found : Option Query) (below : ℕ → Thing → Map → Type 0) (n : Node) → found ≡ Some body → w.ShowsQuery sources below body [] n → w.ShowsSource sources below name found n
source-as sources name body found below n e h = subst (λ z. w.ShowsSource sources below name z n) (sym e) h

pub base-as : (sources : Sources) (name : List ℕ) (found : Option Query) (below : ℕ → Thing → Map → Type 0) (n : Node) → found ≡ None → w.ShowsBase sources below name n → w.ShowsSource sources below name found n
base-as sources name found below n e h = subst (λ z. w.ShowsSource sources below name z n) (sym e) h

module _ (sources : Sources) (has more : List ℕ → Bool) (name : List ℕ) (one : OneMore has name more) where
  pub view-ready : (body : Query) (s : Boxes) → sources.body name ≡ Some body → sources.shared name ≡ (laid_over sources body [] s).top → Buildable sources has body → Ready sources has s []
      → Ready sources more (laid_over sources body [] s).boxes []
  view-ready body s found number fit r =
      let made : Made sources has (of_query body) [] s (laid_over sources body [] s) = laid sources has body [] s fit r in
      record {
        known = λ n h. known n made (one n h);
        sourced = λ n h m. sourced n m made (one n h);
        under = tt;
      }
    where
      known : (n : List ℕ) → Made sources has (of_query body) [] s (laid_over sources body [] s) → (n ≡ name) ⊎ (has n ≡ true) → sources.shared n < (laid_over sources body [] s).boxes.box
      known n made (inl e) = subst (λ b. b < (laid_over sources body [] s).boxes.box) (sym (ap sources.shared e ∙ number)) made.known
      known n made (inr h) = (let x = r.known n h in let y = made.keeps.boxes in omega arith)

      sourced : (n : List ℕ) (m : Map) → Made sources has (of_query body) [] s (laid_over sources body [] s) → (n ≡ name) ⊎ (has n ≡ true)
          → w.Shows sources (laid_over sources body [] s).boxes.made (sources.shared n) (of_operand (q.named n)) m
      sourced n m made (inl e) =
          subst (λ z. w.Shows sources (laid_over sources body [] s).boxes.made (sources.shared z) (of_operand (q.named z)) m) (sym e)
          (subst (λ b. w.Shows sources (laid_over sources body [] s).boxes.made b (of_operand (q.named name)) m) (sym number)
          (shows-as sources has (of_query body) (of_operand (q.named name)) [] m (laid_over sources body [] s).top
          (λ below k i h. (i ∙ sym number, source-as sources name body (sources.body name) below k found h)) (laid_over sources body [] s).boxes.made made.shows))
      sourced n m made (inr h) = made.keeps.same (sources.shared n) (of_operand (q.named n)) m (r.known n h) (r.sourced n h m)

  pub base-ready : (s : Boxes) → sources.body name ≡ None → sources.shared name ≡ s.box → (sources.stored name).name ≡ name → length (sources.stored name).types ≡ sources.columns name → Ready sources has s []
      → Ready sources more (lay_base sources name s).boxes []
  base-ready s found number named types r = record {
    known = λ n h. known n (one n h);
    sourced = λ n h m. sourced n m (one n h);
    under = tt;
  }
    where
      box : Node
      box = plain_box s.box (Base (sources.stored name)) false [] [] []

      known : (n : List ℕ) → (n ≡ name) ⊎ (has n ≡ true) → sources.shared n < suc s.box
      known n (inl e) = (let x : sources.shared n ≡ s.box = ap sources.shared e ∙ number in omega arith)
      known n (inr h) = (let x = r.known n h in omega arith)

      there : (m : Map) → w.Shows sources (box ∷ s.made) s.box (of_operand (q.named name)) m
      there m =
          rw (eq-eqb s.box s.box refl) (
            sym number,
            base-as sources name (sources.body name) (w.Shows sources s.made) box found (record {
              kind = refl;
              named = named;
              types = types;
              plain = record { distinctness = refl; role = refl; numbered = (refl, refl) };
              bare = (refl, refl);
              quants = refl;
            }),
          )

      sourced : (n : List ℕ) (m : Map) → (n ≡ name) ⊎ (has n ≡ true) → w.Shows sources (box ∷ s.made) (sources.shared n) (of_operand (q.named n)) m
      sourced n m (inl e) =
          subst (λ z. w.Shows sources (box ∷ s.made) (sources.shared z) (of_operand (q.named z)) m) (sym e)
          (subst (λ b. w.Shows sources (box ∷ s.made) b (of_operand (q.named name)) m) (sym number) (there m))
      sourced n m (inr h) =
          rw (ne_eqb s.box (sources.shared n) (λ (e : s.box ≡ sources.shared n). absurd (let x = r.known n h in omega arith))) (r.sourced n h m)
