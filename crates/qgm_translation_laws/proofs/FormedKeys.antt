-- Types at places, quantifiers that are a box's own, and the types of keys and aggregates.
use Rattle.std.proofs.Common.{inl, inr, ◌≡◌, ℕ, zero, suc, ◌+◌, ◌==◌, ◌&&◌, ◌||◌, nat_eq, cond, Bool, true, false, List, [], ◌∷◌, ◌++◌, length, Option, Some, None, refl, ap, ap₂, sym, ◌∙◌, subst, arith}
use Rattle.std.specs.List.{list_any}
use Rattle.std.proofs.lemmas.Bool.{eq-eqb, eqb-true, not-false, or_right}
use Rattle.sql_ast.specs.declared.word.SetFunction.{SetFunction}
use Rattle.sql_ast.specs.declared.word.SetFunction.TheVariants as function
use Rattle.sql_value.specs.declared.order_key.SqlType.{SqlType}
use Rattle.sql_value.specs.declared.order_key.SqlType.TheVariants.{Integer}
use Rattle.sql_meaning.specs.ResolvedTrees as q
use Rattle.qgm_core.specs.Boxes.{is_quant}
use Rattle.list_laws.specs.Lists.{In}
use Rattle.qgm_core.specs.declared.owned.OwnedQuant.{OwnedQuant}
use Rattle.qgm_core.specs.declared.kinds.QuantKind.{QuantKind}
use Rattle.qgm_terms.specs.declared.named.QuantNode.{QuantNode}
use Rattle.qgm_translation.specs.Leaves as w
use Rattle.qgm_translation.specs.Leaves.{Leaf}
use Rattle.qgm_wellformed.specs.View.{is_row}
use Rattle.qgm_translation.specs.Maps.{Frame, column, fresh_in, is_apart, none_counted, nothing}
use Rattle.qgm_translation.specs.Shown as v
use Rattle.qgm_translation_laws.specs.Typed.{ArePlaces, FoldsTo, IsOf, Scope}
use Rattle.qgm_translation_laws.proofs.Parts.{Folds}
use Rattle.qgm_translation_laws.proofs.Frames.{At, LeavesAre}

-- ---- lists

pub at-left : (xs ys : List SqlType) (i : ℕ) (a : SqlType) → At xs i a → At (xs ++ ys) i a
at-left [] ys i a h = absurd h
at-left (x ∷ xs) ys zero a h = h
at-left (x ∷ xs) ys (suc i) a h = at-left xs ys i a h

pub at-right : (xs ys : List SqlType) (i : ℕ) (a : SqlType) → At ys i a → At (xs ++ ys) (length xs + i) a
at-right [] ys i a h = let e : i ≡ zero + i = omega arith in subst (λ z. At ys z a) e h
at-right (x ∷ xs) ys i a h = let e : suc (length xs + i) ≡ suc (length xs) + i = omega arith in subst (λ z. At (x ∷ xs ++ ys) z a) e (at-right xs ys i a h)

pub at-padded : (xs : List SqlType) (i : ℕ) (a : SqlType) → At xs i a → At (v.padded Integer xs) i a
at-padded [] i a h = absurd h
at-padded (x ∷ xs) i a h = h

abbrev pub Ins : List OwnedQuant → List OwnedQuant → Type 0
Ins [] os = Unit {0}
Ins (r ∷ rs) os = In r os × Ins rs os

pub ins-more : (o : OwnedQuant) (rs os : List OwnedQuant) → Ins rs os → Ins rs (o ∷ os)
ins-more o [] os h = tt
ins-more o (r ∷ rs) os h = (inr h.0, ins-more o rs os h.1)

pub ins-all : (os : List OwnedQuant) → Ins os os
ins-all [] = tt
ins-all (o ∷ os) = (inl refl, ins-more o os os (ins-all os))

pub ins-rest : (rs os : List OwnedQuant) → Ins rs os → Ins (w.rest_of rs) os
ins-rest [] os h = tt
ins-rest (r ∷ rs) os h = h.1

pub among : (p : QuantKind → Bool) (o : OwnedQuant) (os : List OwnedQuant) → In o os → p o.kind ≡ true → list_any (λ r. is_quant o.id r && p r.kind) os ≡ true
among p o [] h k = absurd h
among p o (r ∷ os) (inl e) k = ap (λ z. ((z.id == o.id) && p z.kind) || list_any (λ r. is_quant o.id r && p r.kind) os) e ∙ ap₂ (λ a b. (a && b) || list_any (λ r. is_quant o.id r && p r.kind) os) (eq-eqb o.id o.id refl) k
among p o (r ∷ os) (inr e) k = or_right ((r.id == o.id) && p r.kind) (list_any (λ r. is_quant o.id r && p r.kind) os) (among p o os e k)

pub append-none : (xs : List SqlType) → xs ++ [] ≡ xs
append-none [] = refl
append-none (x ∷ xs) = ap (λ (z : List SqlType). x ∷ z) (append-none xs)

pub either-false : (X : Type 0) (a b : Bool) → (a && b) ≡ false → (a ≡ false → X) → (b ≡ false → X) → X
either-false X true b h f g = g h
either-false X false b h f g = f refl

-- what is seen in keys is of the quantifier over the groups
key-apart : (u k : ℕ) (places : List ℕ) (i n : ℕ) → is_apart n (v.key_ref u k places i) ≡ false → (u == n) ≡ true
key-apart u k [] i n h = absurd (cc h)
key-apart u k (p ∷ places) i n h = by_case (nat_eq i p) h (key-apart u (suc k) places i n)
  where
    by_case : (b : Bool) → is_apart n (cond b (column u k) (v.key_ref u (suc k) places i)) ≡ false → (is_apart n (v.key_ref u (suc k) places i) ≡ false → (u == n) ≡ true) → (u == n) ≡ true
    by_case true h f = not-false (u == n) h
    by_case false h f = f h

keys-apart : (u : ℕ) (places : List ℕ) (i w n : ℕ) → fresh_in n (v.key_frame u places i w) ≡ false → (u == n) ≡ true
keys-apart u places i zero n h = absurd (cc h)
keys-apart u places i (suc w) n h = either-false ((u == n) ≡ true) (is_apart n (v.key_ref u 1 places i)) (fresh_in n (v.key_frame u places (i + 1) w)) h (key-apart u 1 places i n) (keys-apart u places (i + 1) w n)

pub keys-owned : (u : ℕ) (places : List ℕ) (i w : ℕ) (os : List OwnedQuant) → is_row u os ≡ true → (n : ℕ) → fresh_in n (v.key_frame u places i w) ≡ false → is_row n os ≡ true
keys-owned u places i w os h n k = ap (λ z. is_row z os) (sym (eqb-true u n (keys-apart u places i w n k))) ∙ h

-- all of a frame are columns
abbrev pub Refs : Frame → Type 0
Refs [] = Unit {0}
Refs (nothing ∷ fr) = ⊥
Refs (none_counted ∷ fr) = ⊥
Refs (column n k ∷ fr) = Refs fr

-- ---- keys and aggregates

abbrev pub key_types : (row : Scope) (places : List ℕ) → ArePlaces row places → List SqlType
key_types row [] h = []
key_types row (place ∷ places) h = h.0 ∷ key_types row places h.1.1

pub keys-length : (row : Scope) (places : List ℕ) (h : ArePlaces row places) → length (key_types row places h) ≡ length places
keys-length row [] h = refl
keys-length row (place ∷ places) h = ap suc (keys-length row places h.1.1)

abbrev pub or_row : Scope → Option Scope → Scope
or_row row None = row
or_row row (Some z) = z

module _ (kinds : List ℕ → List SqlType) (row : Scope) where
  -- each aggregate has a type over an argument that has one
  abbrev pub FoldHas : SetFunction → q.Value → Type 0
  FoldHas f x = (u : SqlType) × ((a : SqlType) × (IsOf kinds None (row ∷ []) x u × FoldsTo f u a))

  abbrev pub Folded : List Leaf → Type 0
  Folded [] = Unit {0}
  Folded (w.sub f kind query ∷ ls) = Folded ls
  Folded (w.fold f distinct x ∷ ls) = FoldHas f x × Folded ls
  Folded (w.count ∷ ls) = Folded ls

  abbrev pub arg_types : (ls : List Leaf) → Folded ls → List SqlType
  arg_types [] h = []
  arg_types (w.sub f kind query ∷ ls) h = arg_types ls h
  arg_types (w.fold f distinct x ∷ ls) h = h.0.0 ∷ arg_types ls h.1
  arg_types (w.count ∷ ls) h = arg_types ls h

  abbrev pub agg_types : (ls : List Leaf) → Folded ls → List SqlType
  agg_types [] h = []
  agg_types (w.sub f kind query ∷ ls) h = agg_types ls h
  agg_types (w.fold f distinct x ∷ ls) h = h.0.1.0 ∷ agg_types ls h.1
  agg_types (w.count ∷ ls) h = Integer ∷ agg_types ls h

  pub folded : (V : Frame → List Scope → Type 0) (ls : List Leaf) → LeavesAre kinds V (Some row) ls → Folded ls
  folded V [] h = tt
  folded V (w.sub f kind query ∷ ls) h = folded V ls h.1
  folded V (w.fold f distinct x ∷ ls) h = ((h.0.1.1.0, (h.0.1.1.1.0, (subst (λ (z : Scope). IsOf kinds None (z ∷ []) x h.0.1.1.0) (sym (ap (or_row row) h.0.1.0)) h.0.1.1.1.1.0, h.0.1.1.1.1.1))), folded V ls h.1)
  folded V (w.count ∷ ls) h = folded V ls h.1

pub folds-to : (K : ℕ → ℕ → SqlType → Type 0) (N : QuantNode → Type 0) (J : ℕ → SqlType → Type 0) (f : SetFunction) (u a : SqlType) → FoldsTo f u a → Folds K N J (v.aggregate f) u a
folds-to K N J function.Count u a h = h
folds-to K N J function.Sum u a h = h
folds-to K N J function.Avg u a h = h
folds-to K N J function.Min u a h = h
folds-to K N J function.Max u a h = h
