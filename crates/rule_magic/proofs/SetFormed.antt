-- A set operation over two closed boxes, as it is made.
use Rattle.std.proofs.Common.{ℕ, ◌==◌, ◌≡◌, ◌&&◌, nat_lt, Bool, true, false, List, ◌∷◌, length, refl, sym, ap, subst, ◌∙◌, inl, inr}
use Rattle.std.specs.List.{list_all}
use Rattle.std.proofs.lemmas.Bool.{and_from, eq-eqb}
use Rattle.sql_value.specs.declared.order_key.SqlType.{SqlType}
use Rattle.qgm_core.specs.Boxes.{Ordered, is_box, width}
use Rattle.qgm_core.specs.Edits.{range}
use Rattle.qgm_core.specs.Kinds.{is_S, is_permit}
use Rattle.list_laws.specs.Lists.{In, first}
use Rattle.qgm_core.specs.declared.kinds.QuantKind.TheVariants.{F}
use Rattle.qgm_core.specs.declared.kinds.SetOperator.{SetOperator}
use Rattle.qgm_core.specs.declared.node.Node.{Node}
use Rattle.qgm_core.specs.declared.owned.OwnedQuant.{OwnedQuant}
use Rattle.qgm_wellformed.specs.Shapes as shape
use Rattle.qgm_wellformed.specs.Shapes.{arm_fits, width_found}
use Rattle.qgm_wellformed.specs.Types.{all_agree, known}
use Rattle.qgm_edit_laws.specs.Graph.{Sound}
use Rattle.qgm_edit_laws.specs.Rebuilds.{HasForm, MadeIn}
use Rattle.qgm_edit_laws.specs.TypesBy.{Types}
use Rattle.qgm_edit_laws.proofs.OwnShapes.{rows-placed}
use Rattle.qgm_edit_laws.proofs.Ranks.{same-box}
use Rattle.qgm_edit_laws.proofs.Scope.{in-first}
use Rattle.qgm_edit_laws.proofs.ShapeParts.{shape-from}
use Rattle.rule_magic.specs.Boxes.{set_box}
use Rattle.list_laws.proofs.Booleans.{clash}
use Rattle.list_laws.proofs.Membership.{in-right}

-- box n of these is the set operation of left and right
pub record IsSet (hs : List Node) (look : ℕ → ℕ → Bool) (n left right : Node) (types : List SqlType) : Type 0 where
  pub ordered : Ordered hs
  pub in_n : In n hs
  pub in_left : In left hs
  pub in_right : In right hs
  pub closed_left : (p : ℕ) → look left.id p ≡ false
  pub closed_right : (p : ℕ) → look right.id p ≡ false
  pub nothing : (p : ℕ) → look n.id p ≡ false
  pub wide_left : width left ≡ length types
  pub wide_right : width right ≡ length types

module _ (hs : List Node) (look : ℕ → ℕ → Bool) (b l r : ℕ) (form : SetOperator) (types : List SqlType) (left right : Node) (is : IsSet hs look (set_box b form types l left.id r right.id) left right types) where
  abbrev n : Node
  n = set_box b form types l left.id r right.id

  -- its quantifiers range over these two
  of-two : (P : OwnedQuant → Type 0) → P (range l F left.id) → P (range r F right.id) → (s : OwnedQuant) → In s n.quants → P s
  of-two P x y s j = elim j [ inl e ↦ subst P e x | inr k ↦ elim k [ inl e ↦ subst P e y | inr z ↦ elim z [ ] ] ]

  under-two : (P : Node → Type 0) → P left → P right → (u : Node) (s : OwnedQuant) → In s n.quants → In u hs → u.id ≡ s.over → P u
  under-two P x y u s j i e = of-two (λ (s : OwnedQuant). u.id ≡ s.over → P u) (λ e. subst P (same-box hs left u is.ordered is.in_left i (sym e)) x) (λ e. subst P (same-box hs right u is.ordered is.in_right i (sym e)) y) s j e

  pub set-made : MadeIn hs look n
  set-made = record {
    scoped = record {
      under = λ done s rest e p h. absurd (of-two (λ (s : OwnedQuant). look s.over p ≡ true → ⊥) (λ h. clash (look left.id p) h (is.closed_left p)) (λ h. clash (look right.id p) h (is.closed_right p)) s
          (subst (λ (z : List OwnedQuant). In s z) (sym e) (in-right s done (s ∷ rest) (inl refl))) h);
      own = λ p h. absurd (let z : ⊥ = cc in z);
    };
    settled = λ p o. is.nothing p;
    asks = λ p h. absurd (clash (look b p) h (is.nothing p));
    fits = λ p k h. absurd (let z : ⊥ = cc in z);
    own_nodes = λ p h. absurd (let z : ⊥ = cc in z);
    bare = (refl, refl);
    arms = λ u s j i e. under-two (λ (z : Node). width z ≡ length types) is.wide_left is.wide_right u s j i e;
  }

  module _ (root : ℕ) (v : Sound hs root) (T : Types) (typed : T b ≡ known types) (agree_left : all_agree (T left.id) (known types) ≡ true) (agree_right : all_agree (T right.id) (known types) ≡ true) (some : nat_lt 0 (length types) ≡ true)
      (seen_left : is_permit left.parts.distinct ≡ false) (seen_right : is_permit right.parts.distinct ≡ false) where
    fits-left : (width_found (first (is_box left.id) hs) == length types) ≡ true
    fits-left = eq-eqb (width_found (first (is_box left.id) hs)) (length types) (ap width_found (in-first left hs is.ordered is.in_left) ∙ is.wide_left)

    fits-right : (width_found (first (is_box right.id) hs) == length types) ≡ true
    fits-right = eq-eqb (width_found (first (is_box right.id) hs)) (length types) (ap width_found (in-first right hs is.ordered is.in_right) ∙ is.wide_right)

    kind-fits : shape.is_set_op hs n ≡ true
    kind-fits =
        let A : Bool = shape.are_F 2 n.quants in
        let B : Bool = list_all (arm_fits hs (width n)) n.quants in
        let C : Bool = nat_lt 0 (width n) in
        let two : B ≡ true = and_from (width_found (first (is_box left.id) hs) == length types) ((width_found (first (is_box right.id) hs) == length types) && true) fits-left (and_from (width_found (first (is_box right.id) hs) == length types) true fits-right refl) in
        and_from (A && B && C && true && true) true (and_from (A && B && C && true) true (and_from (A && B && C) true (and_from (A && B) C (and_from A B refl two) some) refl) refl) refl

    pub set-form : HasForm hs root T n
    set-form = record {
      columns_typed = typed;
      agrees = and_from (all_agree (T left.id) (known types)) (all_agree (T right.id) (known types) && true) agree_left (and_from (all_agree (T right.id) (known types)) true agree_right refl);
      columns = refl;
      shape = shape-from root hs n (record { kind = kind-fits; nodes = refl; placed = rows-placed n refl; scalar = λ h. some });
      hidden = λ p. absurd (clash false p refl);
      unseen = λ s u j k i e. under-two (λ (z : Node). is_permit z.parts.distinct ≡ false) seen_left seen_right u s j i e;
      scalars = λ s u j k i e. absurd (of-two (λ (s : OwnedQuant). is_S s.kind ≡ true → ⊥) (λ h. (let z : ⊥ = cc in z)) (λ h. (let z : ⊥ = cc in z)) s j k);
    }
