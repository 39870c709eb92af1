-- Expressions that differ in numbers alone have the same types, where the columns of quantifiers that stand for one another have.
use Rattle.std.proofs.Common.{◌≡◌, ◌≤◌, ℕ, ◌&&◌, true, List, [], ◌∷◌, length, map, Option, Some, refl, ap, ap₂, sym, subst, ◌∙◌}
use Rattle.std.proofs.lemmas.Bool.{and_from}
use Rattle.sql_value.specs.declared.order_key.SqlType.{SqlType}
use Rattle.sql_value.specs.declared.order_key.SqlType.TheVariants.{Integer}
use Rattle.qgm_core.specs.declared.kinds.BoxKind.{BoxKind}
use Rattle.qgm_core.specs.declared.kinds.BoxKind.TheVariants.{Base, Select, Group, SetOp, OuterJoin}
use Rattle.qgm_core.specs.declared.node.Node.{Node}
use Rattle.qgm_terms.specs.Terms as t
use Rattle.qgm_terms.specs.Terms.{Term, Arms, Cond}
use Rattle.qgm_terms.specs.declared.named.QuantNode.{QuantNode}
use Rattle.qgm_wellformed.specs.Types.{Lookup, agree, aggregate_type, arms_fit, cond_fits, integer_if, is_integer, is_known, known, term_type, type_if, types_by}
use Rattle.qgm_translation.specs.Maps.{Map}
use Rattle.qgm_translation.specs.Sources.{Sources}
use Rattle.graph_alike.specs.Alike.{Like, LikeArms, LikeCond, LikeHeads, like_always, like_and, like_arm, like_both, like_choose, like_col, like_compare, like_count, like_every, like_fold, like_int, like_is_null, like_minus, like_no_arm, like_not, like_null_int, like_null_text, like_or, like_scalar, like_some, like_text}
use Rattle.qgm_translation_laws.proofs.Boxes as boxes
use Rattle.qgm_translation_laws.proofs.Parts as parts
use Rattle.qgm_translation_laws.proofs.TypesFollow.{agreeing, folded-typed, operated, signs}

module _ (R : ℕ → ℕ → Type 0) (K : ℕ → ℕ → SqlType → Type 0) (N : QuantNode → Type 0) (J : ℕ → SqlType → Type 0) (at : Lookup) (column : (q r k : ℕ) (a : SqlType) → R q r → K q k a → at r k ≡ Some a) (inner : (q r : ℕ) (a : SqlType) → R q r → J q a → at r 1 ≡ Some a) where
  -- column 1 of a quantifier that is asked for
  asked : (q : ℕ) (x y : Term) (a : SqlType) → Like R x y → x ≡ t.col q 1 → J q a → term_type at y ≡ Some a
  asked q x y a (like_int n) e j = absurd (cc e)
  asked q x y a (like_text s) e j = absurd (cc e)
  asked q x y a like_null_int e j = absurd (cc e)
  asked q x y a like_null_text e j = absurd (cc e)
  asked q x y a (like_col u r k h) e j = let same : u ≡ q = cc in let one : k ≡ 1 = cc in subst (λ z. at r z ≡ Some a) (sym one) (inner u r a h (subst (λ z. J z a) (sym same) j))
  asked q x y a (like_scalar u r h) e j = absurd (cc e)
  asked q x y a (like_both op b c d f g h) e j = absurd (cc e)
  asked q x y a (like_minus b c g) e j = absurd (cc e)
  asked q x y a (like_choose s w b c g h) e j = absurd (cc e)
  asked q x y a like_count e j = absurd (cc e)
  asked q x y a (like_fold f d b c g) e j = absurd (cc e)

  mutual
    pub type-like : (x y : Term) (a : SqlType) → Like R x y → parts.Is K N J x a → term_type at y ≡ Some a
    type-like x y a (like_int n) h = ap Some (sym h)
    type-like x y a (like_text s) h = ap Some (sym h)
    type-like x y a like_null_int h = ap Some (sym h)
    type-like x y a like_null_text h = ap Some (sym h)
    type-like x y a (like_col q r k l) h = column q r k a l h
    type-like x y a (like_scalar q r l) h = inner q r a l h.1
    type-like x y a (like_both op b c d e l m) h = operated op a (term_type at d) (term_type at e) h.0 (type-like b d a l h.1) (type-like c e a m h.2)
    type-like x y a (like_minus b c l) h = ap (λ z. integer_if (is_integer z)) (type-like b c Integer l h.1) ∙ ap Some (sym h.0)
    type-like x y a (like_choose s w b c l m) h = let e = type-like b c a m h.1 in ap₂ type_if (arms-like s w a (term_type at c) l e h.0) e
    type-like x y a like_count h = absurd h
    type-like x y a (like_fold f d b c l) h = absurd h

    arms-like : (s w : Arms) (a : SqlType) (z : Option SqlType) → LikeArms R s w → z ≡ Some a → parts.ArmsAre K N J s a → arms_fit at z w ≡ true
    arms-like s w a z like_no_arm e h = refl
    arms-like s w a z (like_arm c d b x v u k l m) e h =
        and_from (cond_fits at d) (agree (term_type at x) z && arms_fit at z u) (cond-like c d k h.0)
        (and_from (agree (term_type at x) z) (arms_fit at z u) (ap₂ agree (type-like b x a l h.1) e ∙ agreeing a) (arms-like v u a z m e h.2))

    cond-like : (c d : Cond) → LikeCond R c d → parts.Fit K N J c → cond_fits at d ≡ true
    cond-like c d like_always h = refl
    cond-like c d (like_compare sign a b x y l m) h = signs sign h.0 (term_type at x) (term_type at y) h.1.2 (type-like a x h.0 l h.1.0) (type-like b y h.0 m h.1.1)
    cond-like c d (like_is_null a x l) h = ap is_known (type-like a x h.0 l h.1)
    cond-like c d (like_and a b x y l m) h = and_from (cond_fits at x) (cond_fits at y) (cond-like a x l h.0) (cond-like b y m h.1)
    cond-like c d (like_or a b x y l m) h = and_from (cond_fits at x) (cond_fits at y) (cond-like a x l h.0) (cond-like b y m h.1)
    cond-like c d (like_not a x l) h = cond-like a x l h
    cond-like c d (like_some q r a x i l) h = inner-like q a x l h.1
    cond-like c d (like_every q r a x i l) h = inner-like q a x l h.1

    inner-like : (q : ℕ) (c d : Cond) → LikeCond R c d → parts.Inner K N J q c → cond_fits at d ≡ true
    inner-like q c d like_always h = refl
    inner-like q c d (like_compare sign a b x y l m) h = signs sign h.0 (term_type at x) (term_type at y) h.1.3 (type-like a x h.0 l h.1.0) (asked q b y h.0 m h.1.1 h.1.2)
    inner-like q c d (like_is_null a x l) h = absurd h
    inner-like q c d (like_and a b x y l m) h = absurd h
    inner-like q c d (like_or a b x y l m) h = absurd h
    inner-like q c d (like_not a x l) h = absurd h
    inner-like q c d (like_some u r a x i l) h = absurd h
    inner-like q c d (like_every u r a x i l) h = absurd h

  heads-like : (xs ys : List Term) (types : List SqlType) → LikeHeads R xs ys → parts.Heads K N J xs types → map (term_type at) ys ≡ known types
  heads-like [] [] types l h = ap known (sym h)
  heads-like [] (y ∷ ys) types l h = absurd l
  heads-like (x ∷ xs) [] types l h = absurd l
  heads-like (x ∷ xs) (y ∷ ys) [] l h = absurd h
  heads-like (x ∷ xs) (y ∷ ys) (a ∷ types) l h = ap₂ (λ z zs. z ∷ zs) (type-like x y a l.0 h.0) (heads-like xs ys types l.1 h.1)

  cell-like : (x y : Term) (a : SqlType) → Like R x y → parts.CellIs K N J x a → term_type at y ≡ Some a
  cell-like x y a (like_int n) h = ap Some (sym h)
  cell-like x y a (like_text s) h = ap Some (sym h)
  cell-like x y a like_null_int h = ap Some (sym h)
  cell-like x y a like_null_text h = ap Some (sym h)
  cell-like x y a (like_col q r k l) h = column q r k a l h
  cell-like x y a (like_scalar q r l) h = inner q r a l h.1
  cell-like x y a (like_both op b c d e l m) h = type-like (t.both op b c) (t.both op d e) a (like_both op b c d e l m) h
  cell-like x y a (like_minus b c l) h = type-like (t.minus_of b) (t.minus_of c) a (like_minus b c l) h
  cell-like x y a (like_choose s w b c l m) h = type-like (t.choose s b) (t.choose w c) a (like_choose s w b c l m) h
  cell-like x y a like_count h = ap Some (sym h)
  cell-like x y a (like_fold f d b c l) h = ap (aggregate_type f) (type-like b c h.0 l h.1.0) ∙ folded-typed K N J f h.0 a h.1.1

  cells-like : (xs ys : List Term) (types : List SqlType) → LikeHeads R xs ys → parts.Cells K N J xs types → map (term_type at) ys ≡ known types
  cells-like [] [] types l h = ap known (sym h)
  cells-like [] (y ∷ ys) types l h = absurd l
  cells-like (x ∷ xs) [] types l h = absurd l
  cells-like (x ∷ xs) (y ∷ ys) [] l h = absurd h
  cells-like (x ∷ xs) (y ∷ ys) (a ∷ types) l h = ap₂ (λ z zs. z ∷ zs) (cell-like x y a l.0 h.0) (cells-like xs ys types l.1 h.1)

-- a box that differs in numbers alone from one of these types has columns of them
module _ (kinds : List ℕ → List SqlType) (sources : Sources) (counted : (name : List ℕ) → length (kinds name) ≡ sources.columns name) (Over : ℕ → ℕ → List SqlType → Type 0)
    (more : (d e b : ℕ) (types : List SqlType) → d ≤ e → Over d b types → Over e b types) (Ranges : ℕ → ℕ → Type 0) (R : ℕ → ℕ → Type 0) where
  pub local-like : (e : ℕ) (m : Map) (n k : Node) (types : List SqlType) (kind : BoxKind) → boxes.LocalBy kinds sources counted Over more Ranges e m n types kind → LikeHeads R n.parts.head k.parts.head → (at : Lookup)
      → ((q r i : ℕ) (a : SqlType) → R q r → boxes.Column kinds sources counted Over more Ranges e q i a → at r i ≡ Some a) → types_by at kind k.parts.head ≡ known types
  local-like e m n k types (Base table) h l at f = ap known (sym h.0)
  local-like e m n k types Select h l at f =
      heads-like R (boxes.Kn kinds sources counted Over more Ranges e n.quants m) (boxes.Nn kinds sources counted Over more Ranges e n.quants) (boxes.Jn kinds sources counted Over more Ranges e) at (λ q r i a u z. f q r i a u z.0) (λ q r a u z. f q r 1 a u z) n.parts.head k.parts.head types l h.0
  local-like e m n k types (Group keys) h l at f =
      cells-like R (boxes.Kn kinds sources counted Over more Ranges e n.quants m) (boxes.Nn kinds sources counted Over more Ranges e n.quants) (boxes.Jn kinds sources counted Over more Ranges e) at (λ q r i a u z. f q r i a u z.0) (λ q r a u z. f q r 1 a u z) n.parts.head k.parts.head types l h.0
  local-like e m n k types (SetOp operator columns) h l at f = ap known h.0
  local-like e m n k types OuterJoin h l at f =
      heads-like R (boxes.Kn kinds sources counted Over more Ranges e n.quants m) (boxes.Nn kinds sources counted Over more Ranges e n.quants) (boxes.Jn kinds sources counted Over more Ranges e) at (λ q r i a u z. f q r i a u z.0) (λ q r a u z. f q r 1 a u z) n.parts.head k.parts.head types l h.0
