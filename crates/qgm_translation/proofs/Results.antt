-- A null is null, of whatever type.
use Rattle.std.proofs.Common.{◌≡◌, ℕ, cond, Bool, true, false, List, Option, Some, None, refl, sym, ◌∙◌}
use Rattle.sql_value.specs.declared.cell.Cell.{Cell}
use Rattle.sql_value.specs.declared.cell.Cell.TheVariants.{Null}
use Rattle.sql_value.specs.declared.order_key.SqlType.{SqlType}
use Rattle.sql_value.specs.declared.order_key.SqlType.TheVariants.{Integer, Varchar}
use Rattle.sql_meaning.specs.Groups.{Group}
use Rattle.sql_meaning.specs.ResolvedMeaning as k
use Rattle.sql_meaning.specs.ResolvedTrees.{Value}
use Rattle.sql_meaning.specs.ResolvedTrees as q
use Rattle.qgm_terms.specs.Terms.{Term}
use Rattle.qgm_meaning.specs.Values.{Bag, Environment, value}
use Rattle.qgm_translation.specs.Terms.{is_untyped, null_as, null_of, result_as}

pub as-null : (s : ℕ → Bag) (env : Environment) (type : SqlType) → value s (null_as type) env ≡ Null
as-null s env Integer = refl
as-null s env Varchar = refl

pub of-null : (s : ℕ → Bag) (env : Environment) (type : Option SqlType) → value s (null_of type) env ≡ Null
of-null s env None = refl
of-null s env (Some type) = as-null s env type

untyped-null : (known : List ℕ → Bag) (x : Value) (scopes : k.Scopes) (group : Group (List Cell)) → is_untyped x ≡ true → k.value known x scopes group ≡ Null
untyped-null known (q.null None) scopes group h = refl
untyped-null known (q.null (Some type)) scopes group h = refl
untyped-null known (q.number n) scopes group h = absurd (cc h)
untyped-null known (q.text x) scopes group h = absurd (cc h)
untyped-null known (q.column scope place) scopes group h = absurd (cc h)
untyped-null known (q.sum x xs) scopes group h = absurd (cc h)
untyped-null known (q.product x xs) scopes group h = absurd (cc h)
untyped-null known (q.negative x) scopes group h = absurd (cc h)
untyped-null known (q.searched xs last) scopes group h = absurd (cc h)
untyped-null known (q.simple x xs last) scopes group h = absurd (cc h)
untyped-null known (q.coalesce x xs) scopes group h = absurd (cc h)
untyped-null known (q.null_if x y) scopes group h = absurd (cc h)
untyped-null known (q.scalar query) scopes group h = absurd (cc h)
untyped-null known q.count_all scopes group h = absurd (cc h)
untyped-null known (q.aggregate f distinct x) scopes group h = absurd (cc h)

either-means : (s : ℕ → Bag) (env : Environment) (type : SqlType) (b : Bool) (y : Term) (v : Cell) → (b ≡ true → v ≡ Null) → value s y env ≡ v → value s (cond b (null_as type) y) env ≡ v
either-means s env type true y v h e = as-null s env type ∙ sym (h refl)
either-means s env type false y v h e = e

pub result-means : (known : List ℕ → Bag) (s : ℕ → Bag) (env : Environment) (scopes : k.Scopes) (group : Group (List Cell)) (type : SqlType) (x : Value) (y : Term)
    → value s y env ≡ k.value known x scopes group → value s (result_as type x y) env ≡ k.value known x scopes group
result-means known s env scopes group type x y e = either-means s env type (is_untyped x) y (k.value known x scopes group) (untyped-null known x scopes group) e
