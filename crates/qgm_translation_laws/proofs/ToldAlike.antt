-- Expressions that differ in numbers alone have one type, where columns of quantifiers that stand for one another have.
use Rattle.std.proofs.Common.{◌≡◌, ℕ, refl, ap}
use Rattle.sql_value.specs.declared.order_key.SqlType.{SqlType}
use Rattle.qgm_terms.specs.Terms.{Term}
use Rattle.qgm_translation.specs.Typing.{aggregate_type}
use Rattle.graph_alike.specs.Alike.{Like, like_both, like_choose, like_col, like_count, like_fold, like_int, like_minus, like_null_int, like_null_text, like_scalar, like_text}
use Rattle.qgm_translation_laws.specs.Alike.{type_by}

module _ (R : ℕ → ℕ → Type 0) (at to : ℕ → ℕ → SqlType) (same : (q p k : ℕ) → R q p → at q k ≡ to p k) where
  pub type-alike : (x y : Term) → Like R x y → type_by at x ≡ type_by to y
  type-alike x y (like_int n) = refl
  type-alike x y (like_text t) = refl
  type-alike x y like_null_int = refl
  type-alike x y like_null_text = refl
  type-alike x y (like_col q p k r) = same q p k r
  type-alike x y (like_scalar q p r) = same q p 1 r
  type-alike x y (like_both op a b c d e f) = refl
  type-alike x y (like_minus a c e) = refl
  type-alike x y (like_choose s w a c e f) = type-alike a c f
  type-alike x y like_count = refl
  type-alike x y (like_fold f d a c e) = ap (aggregate_type f) (type-alike a c e)
