-- Expressions and conditions whose columns are of types have the types that are tested.
use Rattle.std.proofs.Common.{◌≡◌, ◌≤◌, ℕ, ◌&&◌, true, List, [], ◌∷◌, length, map, Option, Some, refl, ap, ap₂, sym, ◌∙◌}
use Rattle.std.proofs.lemmas.Bool.{and_from}
use Rattle.sql_value.specs.declared.order_key.SqlType.{SqlType}
use Rattle.sql_value.specs.declared.order_key.SqlType.TheVariants.{Integer, Varchar}
use Rattle.qgm_core.specs.declared.kinds.BoxKind.{BoxKind}
use Rattle.qgm_core.specs.declared.kinds.BoxKind.TheVariants.{Base, Select, Group, SetOp, OuterJoin}
use Rattle.qgm_core.specs.declared.node.Node.{Node}
use Rattle.qgm_terms.specs.Terms as t
use Rattle.qgm_terms.specs.Terms.{Term, Arms, Cond, Sign}
use Rattle.qgm_terms.specs.declared.named.QuantNode.{QuantNode}
use Rattle.qgm_terms.specs.declared.tree.Op.{Op}
use Rattle.qgm_terms.specs.declared.tree.Op.TheVariants.{Add, Sub, Mul, Div, Cat}
use Rattle.qgm_wellformed.specs.Types.{Lookup, agree, aggregate_type, arms_fit, cond_fits, integer_if, is_integer, is_known, is_varchar, known, op_type, sign_fits, term_type, type_if, types_by}
use Rattle.qgm_translation.specs.Maps.{Map}
use Rattle.qgm_translation.specs.Sources.{Sources}
use Rattle.qgm_translation_laws.proofs.Boxes as boxes
use Rattle.qgm_translation_laws.proofs.Parts as p
use Rattle.qgm_translation.specs.Typing.{op_type as op_of}
use Rattle.qgm_translation_laws.proofs.Parts.{Signed}

pub operated : (op : Op) (a : SqlType) (x y : Option SqlType) → a ≡ op_of op → x ≡ Some a → y ≡ Some a → op_type op x y ≡ Some a
operated Add a x y e h k = rw (h, k, e) refl
operated Sub a x y e h k = rw (h, k, e) refl
operated Mul a x y e h k = rw (h, k, e) refl
operated Div a x y e h k = rw (h, k, e) refl
operated Cat a x y e h k = rw (h, k, e) refl

pub agreeing : (a : SqlType) → agree (Some a) (Some a) ≡ true
agreeing Integer = refl
agreeing Varchar = refl

pub signs : (sign : Sign) (a : SqlType) (x y : Option SqlType) → Signed sign a → x ≡ Some a → y ≡ Some a → sign_fits sign x y ≡ true
signs t.equal a x y s h k = ap₂ agree h k ∙ agreeing a
signs t.unequal a x y s h k = ap₂ agree h k ∙ agreeing a
signs t.below a x y s h k = ap₂ agree h k ∙ agreeing a
signs t.at_most a x y s h k = ap₂ agree h k ∙ agreeing a
signs t.above a x y s h k = ap₂ agree h k ∙ agreeing a
signs t.at_least a x y s h k = ap₂ agree h k ∙ agreeing a
signs t.same a x y s h k = ap₂ agree h k ∙ agreeing a
signs t.like a x y s h k = ap₂ (λ u v. is_varchar u && is_varchar v) (h ∙ ap Some s) (k ∙ ap Some s)

module _ (K : ℕ → ℕ → SqlType → Type 0) (N : QuantNode → Type 0) (J : ℕ → SqlType → Type 0) where
  abbrev Is : Term → SqlType → Type 0
  Is = p.Is K N J

  abbrev ArmsAre : Arms → SqlType → Type 0
  ArmsAre = p.ArmsAre K N J

  abbrev Fit : Cond → Type 0
  Fit = p.Fit K N J

  abbrev Inner : ℕ → Cond → Type 0
  Inner = p.Inner K N J

  pub folded-typed : (f : t.Aggregate) (v a : SqlType) → p.Folds K N J f v a → aggregate_type f (Some v) ≡ Some a
  folded-typed t.single v a h = ap Some (sym h)
  folded-typed t.count v a h = ap Some (sym h)
  folded-typed t.sum v a h = ap (λ z. integer_if (is_integer (Some z))) h.0 ∙ ap Some (sym h.1)
  folded-typed t.avg v a h = ap (λ z. integer_if (is_integer (Some z))) h.0 ∙ ap Some (sym h.1)
  folded-typed t.least v a h = ap Some (sym h)
  folded-typed t.greatest v a h = ap Some (sym h)

  module _ (at : Lookup) (column : (q k : ℕ) (a : SqlType) → K q k a → at q k ≡ Some a) (inner : (q : ℕ) (a : SqlType) → J q a → at q 1 ≡ Some a) where
    mutual
      pub type-is : (x : Term) (a : SqlType) → Is x a → term_type at x ≡ Some a
      type-is (t.int n) a h = ap Some (sym h)
      type-is (t.text x) a h = ap Some (sym h)
      type-is t.null_int a h = ap Some (sym h)
      type-is t.null_text a h = ap Some (sym h)
      type-is (t.col q k) a h = column q k a h
      type-is (t.scalar q) a h = inner q a h.1
      type-is (t.both op x y) a h = operated op a (term_type at x) (term_type at y) h.0 (type-is x a h.1) (type-is y a h.2)
      type-is (t.minus_of x) a h = ap (λ z. integer_if (is_integer z)) (type-is x Integer h.1) ∙ ap Some (sym h.0)
      type-is (t.choose s x) a h = ap₂ type_if (arms-are s a (term_type at x) (type-is x a h.1) h.0) (type-is x a h.1)
      type-is t.count_all a h = absurd h
      type-is (t.fold f e x) a h = absurd h

      arms-are : (s : Arms) (a : SqlType) (z : Option SqlType) → z ≡ Some a → ArmsAre s a → arms_fit at z s ≡ true
      arms-are t.no_arm a z e h = refl
      arms-are (t.arm c x s) a z e h = and_from (cond_fits at c) _ (fit-is c h.0) (and_from (agree (term_type at x) z) (arms_fit at z s) (ap₂ agree (type-is x a h.1) e ∙ agreeing a) (arms-are s a z e h.2))

      pub fit-is : (c : Cond) → Fit c → cond_fits at c ≡ true
      fit-is t.always h = refl
      fit-is (t.compare sign x y) h = signs sign h.0 (term_type at x) (term_type at y) h.1.2 (type-is x h.0 h.1.0) (type-is y h.0 h.1.1)
      fit-is (t.is_null x) h = ap is_known (type-is x h.0 h.1)
      fit-is (t.and c d) h = and_from (cond_fits at c) (cond_fits at d) (fit-is c h.0) (fit-is d h.1)
      fit-is (t.or c d) h = and_from (cond_fits at c) (cond_fits at d) (fit-is c h.0) (fit-is d h.1)
      fit-is (t.not c) h = fit-is c h
      fit-is (t.some q c) h = inner-is q c h.1
      fit-is (t.every q c) h = inner-is q c h.1

      inner-is : (q : ℕ) (c : Cond) → Inner q c → cond_fits at c ≡ true
      inner-is q t.always h = refl
      inner-is q (t.compare sign x y) h = signs sign h.0 (term_type at x) (term_type at y) h.1.3 (type-is x h.0 h.1.0) (ap (term_type at) h.1.1 ∙ inner q h.0 h.1.2)
      inner-is q (t.is_null x) h = absurd h
      inner-is q (t.and c d) h = absurd h
      inner-is q (t.or c d) h = absurd h
      inner-is q (t.not c) h = absurd h
      inner-is q (t.some r c) h = absurd h
      inner-is q (t.every r c) h = absurd h

    -- ---- the cells of heads

    pub heads-typed : (xs : List Term) (types : List SqlType) → p.Heads K N J xs types → map (term_type at) xs ≡ known types
    heads-typed [] types h = ap known (sym h)
    heads-typed (x ∷ xs) [] h = absurd h
    heads-typed (x ∷ xs) (a ∷ types) h = ap₂ (λ z zs. z ∷ zs) (type-is x a h.0) (heads-typed xs types h.1)

    cell-typed : (x : Term) (a : SqlType) → p.CellIs K N J x a → term_type at x ≡ Some a
    cell-typed (t.int n) a h = ap Some (sym h)
    cell-typed (t.text x) a h = ap Some (sym h)
    cell-typed t.null_int a h = ap Some (sym h)
    cell-typed t.null_text a h = ap Some (sym h)
    cell-typed (t.col n k) a h = type-is (t.col n k) a h
    cell-typed (t.scalar n) a h = type-is (t.scalar n) a h
    cell-typed (t.both op x y) a h = type-is (t.both op x y) a h
    cell-typed (t.minus_of x) a h = type-is (t.minus_of x) a h
    cell-typed (t.choose s x) a h = type-is (t.choose s x) a h
    cell-typed t.count_all a h = ap Some (sym h)
    cell-typed (t.fold f d x) a h = ap (aggregate_type f) (type-is x h.0 h.1.0) ∙ folded-typed f h.0 a h.1.1

    pub cells-typed : (xs : List Term) (types : List SqlType) → p.Cells K N J xs types → map (term_type at) xs ≡ known types
    cells-typed [] types h = ap known (sym h)
    cells-typed (x ∷ xs) [] h = absurd h
    cells-typed (x ∷ xs) (a ∷ types) h = ap₂ (λ z zs. z ∷ zs) (cell-typed x a h.0) (cells-typed xs types h.1)

-- the columns of a box that is of these types have them
module _ (kinds : List ℕ → List SqlType) (sources : Sources) (counted : (name : List ℕ) → length (kinds name) ≡ sources.columns name) (Over : ℕ → ℕ → List SqlType → Type 0)
    (more : (d e b : ℕ) (types : List SqlType) → d ≤ e → Over d b types → Over e b types) (Ranges : ℕ → ℕ → Type 0) where
  pub local-follows : (e : ℕ) (m : Map) (n : Node) (types : List SqlType) (kind : BoxKind) → boxes.LocalBy kinds sources counted Over more Ranges e m n types kind → (at : Lookup)
      → ((q k : ℕ) (a : SqlType) → boxes.Column kinds sources counted Over more Ranges e q k a → at q k ≡ Some a) → types_by at kind n.parts.head ≡ known types
  local-follows e m n types (Base table) h at f = ap known (sym h.0)
  local-follows e m n types Select h at f =
      heads-typed (boxes.Kn kinds sources counted Over more Ranges e n.quants m) (boxes.Nn kinds sources counted Over more Ranges e n.quants) (boxes.Jn kinds sources counted Over more Ranges e) at (λ q k a z. f q k a z.0) (λ q a z. f q 1 a z) n.parts.head types h.0
  local-follows e m n types (Group keys) h at f =
      cells-typed (boxes.Kn kinds sources counted Over more Ranges e n.quants m) (boxes.Nn kinds sources counted Over more Ranges e n.quants) (boxes.Jn kinds sources counted Over more Ranges e) at (λ q k a z. f q k a z.0) (λ q a z. f q 1 a z) n.parts.head types h.0
  local-follows e m n types (SetOp operator columns) h at f = ap known h.0
  local-follows e m n types OuterJoin h at f =
      heads-typed (boxes.Kn kinds sources counted Over more Ranges e n.quants m) (boxes.Nn kinds sources counted Over more Ranges e n.quants) (boxes.Jn kinds sources counted Over more Ranges e) at (λ q k a z. f q k a z.0) (λ q a z. f q 1 a z) n.parts.head types h.0
