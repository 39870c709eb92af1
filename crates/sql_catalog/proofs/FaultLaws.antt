-- Laws of what refuses a schema.
use Rattle.std.proofs.Common.{◌≡◌, refl, sym, ap, subst, ◌∙◌, ℕ, Bool, true, false, cond, not, ◌||◌, List, [], ◌∷◌, ◌++◌, map}
use Rattle.std.specs.List.{list_any}
use Rattle.sql_catalog.specs.declared.key.Key.{Key}
use Rattle.sql_ast.specs.Names.{contains, has_twins}
use Rattle.std.specs.Prelude.{if◌then◌else◌, Option, Some, None, Result, Ok, Err}
use Rattle.sql_catalog.specs.Nesting.{readers_of, is_recursive}
use Rattle.sql_ast.specs.Declarations.{Declared, known_names}
use Rattle.sql_catalog.specs.Catalog.{reads_unknown, has_duplicate, is_bad_key, has_bad_key, passes_limits, fault, all_of, unless, declared}
use Rattle.sql_ast.specs.Syntax as s
use Rattle.sql_catalog.proofs.NameLaws.{any_same}

pub bad_key_same : (a b : List (List ℕ)) → ((n : List ℕ) → contains a n ≡ contains b n) → (k : Key) → is_bad_key a k ≡ is_bad_key b k
bad_key_same a b same k = ap (λ (t : Bool). t || has_twins k.columns) (any_same (λ n. not (contains a n)) (λ n. not (contains b n)) (λ n. ap not (same n)) k.columns)

pub bad_keys_same : (a b : List (List ℕ)) → ((n : List ℕ) → contains a n ≡ contains b n) → (keys : List Key) → list_any (is_bad_key a) keys ≡ list_any (is_bad_key b) keys
bad_keys_same a b same keys = any_same (is_bad_key a) (is_bad_key b) (bad_key_same a b same) keys

pub fault_limits : (d : Declared) → reads_unknown (known_names d) (readers_of d.views) ≡ false → is_recursive (readers_of d.views) ≡ false → has_duplicate d ≡ false →
    list_any has_bad_key d.tables ≡ false → (over : Bool) → passes_limits d.tables (readers_of d.views) ≡ over → fault d ≡ (if over then Some 10 else None)
fault_limits d unknown recursive duplicate bad over limits = rw (unknown, recursive, duplicate, bad, limits) refl

pub declared_ok : (x : s.Schema) (d : Declared) → d ≡ all_of x → fault d ≡ None → declared x ≡ Ok d
declared_ok x d same none = subst (λ (y : Declared). unless y (fault y) ≡ Ok d) same (ap (unless d) none)

pub declared_err : (x : s.Schema) (d : Declared) (n : ℕ) → d ≡ all_of x → fault d ≡ Some n → declared x ≡ Err n
declared_err x d n same some = subst (λ (y : Declared). unless y (fault y) ≡ Err n) same (ap (unless d) some)

-- ---- a test that gives no number, before others

pub not_given : (b : Bool) (n : ℕ) (o : Option ℕ) → cond b (Some n) o ≡ None → b ≡ false
not_given true n o h = absurd (cc)
not_given false n o h = refl

pub but_none : (b : Bool) (n : ℕ) (o : Option ℕ) → cond b (Some n) o ≡ None → o ≡ None
but_none true n o h = absurd (cc)
but_none false n o h = h
