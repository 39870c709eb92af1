-- The group by tags and keys over the fed box: what is inferred of it, and that it is settled.
use Rattle.std.proofs.Common.{ℕ, suc, ◌==◌, ◌≡◌, ◌≤◌, ◌+◌, ◌&&◌, Bool, true, false, List, [], ◌++◌, map, take, refl, sym, ap, subst, ◌∙◌, inl, inr, arith}
use Rattle.std.specs.List.{flat_map, list_all}
use Rattle.std.proofs.lemmas.Bool.{and_from, and_parts, or_left, or_right}
use Rattle.list_laws.specs.Lists.{In}
use Rattle.list_laws.proofs.Membership.{all-from, all-in, any-from, eq-itself, holds-in, in-append}
use Rattle.qgm_core.specs.Boxes.{owns}
use Rattle.qgm_core.specs.Edits.{range}
use Rattle.qgm_core.specs.Free.{named_by}
use Rattle.qgm_core.specs.Kinds.{is_S}
use Rattle.qgm_core.specs.declared.kinds.QuantKind.TheVariants.{F}
use Rattle.qgm_core.specs.declared.node.Node.{Node}
use Rattle.qgm_core.specs.declared.owned.OwnedQuant.{OwnedQuant}
use Rattle.qgm_meaning.specs.Searches.{names}
use Rattle.qgm_meaning.specs.Tags.{columns_from}
use Rattle.qgm_terms.specs.Named.{columns_in, names_in}
use Rattle.qgm_terms.specs.Substitution.{substituted}
use Rattle.qgm_terms.specs.Terms.{Term}
use Rattle.qgm_terms.specs.declared.named.Column.{Column}
use Rattle.qgm_wellformed.specs.Columns.{columns_of}
use Rattle.qgm_wellformed.specs.Shapes as shape
use Rattle.qgm_edit_laws.specs.Graph.{Sound}
use Rattle.qgm_edit_laws.specs.Shaped.{Shaped}
use Rattle.qgm_edit_laws.proofs.Read.{column-named, is_at}
use Rattle.qgm_edit_laws.proofs.ShapedPut.{all-joined}
use Rattle.qgm_edit_laws.proofs.ShapeParts.{shape-parts}
use Rattle.qgm_props.specs.Calm.{calm_column, calm_magic}
use Rattle.qgm_props.specs.Inferred.{Closed, Facts, at_place, error_free_under, is_free, under_first}
use Rattle.rule_magic.specs.Boxes.{behind, keyed, keyed_box, later}
use Rattle.rule_magic.proofs.BehindColumns.{take-map}
use Rattle.rule_magic.proofs.TaggedWidths.{columns-length, take-plus}
use Rattle.rule_calm.specs.Settled.{IsFirm, SettledBox, has_no_single, single_free}
use Rattle.rule_calm.proofs.BehindFacts.{all-map, behind-free, place-map, singles-put}
use Rattle.rule_calm.proofs.Framed.{firm-single, known-clean, known-free, range-is, settled-from}
use Rattle.rule_calm.proofs.HeadPlaces.{columns-single, in-columns, place-left, place-range, place-right}
use Rattle.rule_calm.proofs.SameFacts.{in-take}

module _ (bs hs : List Node) (root : ℕ) (v : Sound hs root) (shaped : Shaped hs root) (f g : Facts) (closed : Closed hs g) (b keys q p w len : ℕ) (head : List Term) (x : ℕ) (i : In (keyed_box b keys q p w len head x) hs)
    (own : (t : Term) → In t head → (c : Column) → In c (columns_in t) → c.quant ≡ q) (bare : (t : Term) → In t head → (r : ℕ) → names r t ≡ false) (single : list_all single_free head ≡ true)
    (cols : (k : ℕ) → 1 ≤ k → k ≤ len → error_free_under bs f q k ≡ true → g.error_free x (w + k) ≡ true) (first : (k : ℕ) → 1 ≤ k → k ≤ w → g.error_free x k ≡ true) where
  abbrev n : Node
  n = keyed_box b keys q p w len head x

  under-p : (k : ℕ) → error_free_under hs g p k ≡ g.error_free x k
  under-p k = range-is hs root v (λ z. g.error_free z k) (range p F x) (n, (i, inl refl))

  -- a cell that was free, moved
  cell-moved : (t : Term) → In t head → (s two : Bool) → is_free bs f s t ≡ true → is_free hs g two (substituted q (later p w len) t) ≡ true
  cell-moved t j s two h = behind-free bs hs f g q p w len t (own t j) (bare t j) (all-in single_free t head single j) (λ k m l e. under-p (w + k) ∙ cols k m l e) s two h

  pub keyed-clean : (k : ℕ) → keys ≡ w + k → g.clean x ≡ true → list_all (is_free bs f false) (take k head) ≡ true → g.clean b ≡ true
  keyed-clean k e c h = known-clean hs v.ordered g closed n i (and_from (g.clean x) (list_all (is_free hs g false) (take keys (keyed q p w len head))) c
      (subst (λ (z : List Term). list_all (is_free hs g false) z ≡ true) (sym taken) (all-joined (is_free hs g false) (columns_from p 1 w) (map (substituted q (later p w len)) (take k head)) tags
      (all-map (substituted q (later p w len)) (is_free bs f false) (is_free hs g false) (take k head) (λ t j. cell-moved t (in-take t k head j) false false) h))))
    where
      taken : take keys (keyed q p w len head) ≡ columns_from p 1 w ++ map (substituted q (later p w len)) (take k head)
      taken = take-plus (columns_from p 1 w) (behind q p w len head) k keys (e ∙ ap (λ z. z + k) (sym (columns-length p 1 w))) ∙ ap (λ (z : List Term). columns_from p 1 w ++ z) (take-map (substituted q (later p w len)) k head)

      tags : list_all (is_free hs g false) (columns_from p 1 w) ≡ true
      tags = all-from (is_free hs g false) (columns_from p 1 w) (λ t j. (
          let y = in-columns t p 1 w j in
          let most = y.1.1.1 in
          subst (λ (z : Term). is_free hs g false z ≡ true) (sym y.1.0) (under-p y.0 ∙ first y.0 y.1.1.0 (omega (arith, most)))))

  at-free : (k : ℕ) → g.clean b ≡ true → at_place (is_free hs g (under_first g.at_most_one n.quants)) (keyed q p w len head) k ≡ true → g.error_free b k ≡ true
  at-free k c h = known-free hs v.ordered g closed n i k (place-range (is_free hs g (under_first g.at_most_one n.quants)) (keyed q p w len head) k h) (and_from (g.clean b) (at_place (is_free hs g (under_first g.at_most_one n.quants)) (keyed q p w len head) k) c h)

  pub keyed-first : g.clean b ≡ true → (k : ℕ) → 1 ≤ k → k ≤ w → g.error_free b k ≡ true
  keyed-first c k m l = at-free k c (place-left (is_free hs g (under_first g.at_most_one n.quants)) p w (behind q p w len head) k m l (under-p k ∙ first k m l))

  pub keyed-second : g.clean b ≡ true → (j k : ℕ) → k ≡ w + j → (s : Bool) → at_place (is_free bs f s) head j ≡ true → g.error_free b k ≡ true
  keyed-second c j k e s h = at-free k c (place-right (is_free hs g (under_first g.at_most_one n.quants)) p w (behind q p w len head) j k e
      (place-map (substituted q (later p w len)) (is_free bs f s) (is_free hs g (under_first g.at_most_one n.quants)) head j (λ t m. cell-moved t m s (under_first g.at_most_one n.quants)) h))

  pub keyed-settled : g.clean b ≡ true → SettledBox hs g root n
  keyed-settled c = settled-from hs g root n (or_right (b == root) (g.clean b) c) columns (or_left true (calm_magic hs g n) refl) no-single scalars (firm-single hs v.ordered g closed)
    where
      all-own : shape.head_is_own n ≡ true
      all-own = (and_parts (shape.are_F 1 n.quants && shape.is_none n.parts.conds.items && true && shape.head_folds keys n.parts.head) (shape.head_is_own n) (shape-parts root hs n (shaped.shapes n i)).kind).1

      columns : list_all (calm_column hs g n) (columns_of n) ≡ true
      columns = all-from (calm_column hs g n) (columns_of n) (λ y j. (
          let m = column-named y.quant y.place n (any-from (is_at y.quant y.place) y (columns_of n) j (and_from (y.quant == y.quant) (y.place == y.place) (eq-itself y.quant) (eq-itself y.place))) in
          or_left (owns y.quant n) (error_free_under hs g y.quant y.place) (elim (in-append y.quant (flat_map names_in n.parts.head) [] (holds-in y.quant (named_by n) m)) [
            | inl z ↦ all-in (λ r. owns r n) y.quant (flat_map names_in n.parts.head) all-own z
            | inr z ↦ absurd z
          ])))

      no-single : has_no_single n ≡ true
      no-single = and_from (list_all single_free (keyed q p w len head)) true (all-joined single_free (columns_from p 1 w) (behind q p w len head) (columns-single p 1 w) (singles-put q (later p w len) (columns-single p (suc w) len) head single)) refl

      scalars : (r : OwnedQuant) → In r n.quants → is_S r.kind ≡ true → IsFirm hs r.over
      scalars r j t = elim j [
        | inl e ↦ absurd (let z : is_S F ≡ true = ap (λ (s : OwnedQuant). is_S s.kind) e ∙ t in let y : ⊥ = cc in y)
        | inr z ↦ elim z [ ]
      ]
