-- The types of the columns of quantifiers and of boxes, as more are known.
use Rattle.std.proofs.Common.{◌≡◌, ◌≤◌, ◌<◌, ℕ, zero, suc, List, [], ◌∷◌, ◌++◌, append_assoc, append-nil, get_or, length, map, refl, ap, ap₂, sym, ◌∙◌, subst, arith}
use Rattle.sql_value.specs.declared.order_key.SqlType.{SqlType}
use Rattle.qgm_core.specs.declared.kinds.BoxKind.{BoxKind}
use Rattle.qgm_core.specs.declared.kinds.BoxKind.TheVariants.{Base, Select, Group, SetOp, OuterJoin}
use Rattle.qgm_core.specs.declared.node.Node.{Node}
use Rattle.qgm_core.specs.declared.owned.OwnedQuant.{OwnedQuant}
use Rattle.qgm_terms.specs.Terms.{Term}
use Rattle.qgm_terms.specs.Terms as t
use Rattle.qgm_translation.specs.Lay.{Boxes, SharedBox, column_types}
use Rattle.qgm_translation.specs.Lays.{Begins, Counted, EachHasTypes, EachRanges, HasTypes, HeadUnder, Ranges, TypedUnder}
use Rattle.qgm_translation.specs.Typing.{aggregate_type, type_at, typed_by}

pub begins-refl : (xs : List (List SqlType)) → Begins xs xs
begins-refl xs = record { more = []; is = sym (append-nil xs) }

pub begins-more : (xs ys : List (List SqlType)) → Begins xs (xs ++ ys)
begins-more xs ys = record { more = ys; is = refl }

pub begins-trans : {xs ys zs : List (List SqlType)} → Begins xs ys → Begins ys zs → Begins xs zs
begins-trans {xs} {ys} {zs} h k = record { more = h.more ++ k.more; is = k.is ∙ ap (λ z. z ++ k.more) h.is ∙ append_assoc xs h.more k.more }

-- more rows are known, and the same tables and views were laid
pub record Further (xs ys : List (List SqlType)) (p q : List SharedBox) : Type 0 where
  pub rows : Begins xs ys
  pub shared : q ≡ p

pub further-refl : (xs : List (List SqlType)) (p : List SharedBox) → Further xs xs p p
further-refl xs p = record { rows = begins-refl xs; shared = refl }

pub further-trans : {xs ys zs : List (List SqlType)} {p q r : List SharedBox} → Further xs ys p q → Further ys zs q r → Further xs zs p r
further-trans h k = record { rows = begins-trans h.rows k.rows; shared = k.shared ∙ h.shared }

get-before : (xs more : List (List SqlType)) (k : ℕ) → k < length xs → get_or (xs ++ more) k [] ≡ get_or xs k []
get-before [] more k l = absurd (omega arith)
get-before (x ∷ xs) more zero l = refl
get-before (x ∷ xs) more (suc k) l = get-before xs more k (omega arith)

pub get-begins : {xs ys : List (List SqlType)} → Begins xs ys → (k : ℕ) → k < length xs → get_or ys k [] ≡ get_or xs k []
get-begins {xs} {ys} h k l = ap (λ zs. get_or zs k []) h.is ∙ get-before xs h.more k l

get-end : (xs : List (List SqlType)) (x : List SqlType) → get_or (xs ++ (x ∷ [])) (length xs) [] ≡ x
get-end [] x = refl
get-end (y ∷ xs) x = get-end xs x

pub get-last : (xs : List (List SqlType)) (x : List SqlType) (k : ℕ) → length xs ≡ k → get_or (xs ++ (x ∷ [])) k [] ≡ x
get-last xs x k e = subst (λ z. get_or (xs ++ (x ∷ [])) z [] ≡ x) e (get-end xs x)

pub length-one : (xs : List (List SqlType)) (x : List SqlType) (k : ℕ) → length xs ≡ k → length (xs ++ (x ∷ [])) ≡ suc k
length-one [] x k e = ap suc e
length-one (y ∷ xs) x zero e = absurd (omega arith)
length-one (y ∷ xs) x (suc k) e = ap suc (length-one xs x k (omega arith))

-- ---- expressions

-- an expression has the type that it had
pub typed-begins : {xs ys : List (List SqlType)} (n : ℕ) → Begins xs ys → length xs ≡ n → (x : Term) → TypedUnder n x → typed_by ys x ≡ typed_by xs x
typed-begins n h e (t.int k) u = refl
typed-begins n h e (t.text x) u = refl
typed-begins n h e t.null_int u = refl
typed-begins n h e t.null_text u = refl
typed-begins n h e (t.col q k) u = ap (λ row. type_at row k) (get-begins h q (let l : q < n = u in omega arith))
typed-begins n h e (t.scalar q) u = ap (λ row. type_at row 1) (get-begins h q (let l : q < n = u in omega arith))
typed-begins n h e (t.both op x y) u = refl
typed-begins n h e (t.minus_of x) u = refl
typed-begins n h e (t.choose arms x) u = typed-begins n h e x u
typed-begins n h e t.count_all u = refl
typed-begins n h e (t.fold f taken x) u = ap (aggregate_type f) (typed-begins n h e x u)

pub typed-all : {xs ys : List (List SqlType)} (n : ℕ) → Begins xs ys → length xs ≡ n → (head : List Term) → HeadUnder n head → map (typed_by ys) head ≡ map (typed_by xs) head
typed-all n h e [] u = refl
typed-all n h e (x ∷ head) u = ap₂ (λ t ts. t ∷ ts) (typed-begins n h e x u.0) (typed-all n h e head u.1)

column_types-begins : {xs ys : List (List SqlType)} (n : ℕ) → Begins xs ys → length xs ≡ n → (kind : BoxKind) (head : List Term) → HeadUnder n head → column_types ys kind head ≡ column_types xs kind head
column_types-begins n h e (Base table) head u = refl
column_types-begins n h e Select head u = typed-all n h e head u
column_types-begins n h e (Group keys) head u = typed-all n h e head u
column_types-begins n h e (SetOp form types) head u = refl
column_types-begins n h e OuterJoin head u = typed-all n h e head u

pub typed_under-more : (n k : ℕ) → n ≤ k → (x : Term) → TypedUnder n x → TypedUnder k x
typed_under-more n k l (t.int i) u = tt
typed_under-more n k l (t.text x) u = tt
typed_under-more n k l t.null_int u = tt
typed_under-more n k l t.null_text u = tt
typed_under-more n k l (t.col q i) u = (let v : q < n = u in omega arith)
typed_under-more n k l (t.scalar q) u = (let v : q < n = u in omega arith)
typed_under-more n k l (t.both op x y) u = tt
typed_under-more n k l (t.minus_of x) u = tt
typed_under-more n k l (t.choose arms x) u = typed_under-more n k l x u
typed_under-more n k l t.count_all u = tt
typed_under-more n k l (t.fold f taken x) u = typed_under-more n k l x u

pub head_under-more : (n k : ℕ) → n ≤ k → (head : List Term) → HeadUnder n head → HeadUnder k head
head_under-more n k l [] u = tt
head_under-more n k l (x ∷ head) u = (typed_under-more n k l x u.0, head_under-more n k l head u.1)

-- ---- quantifiers and boxes

-- more is known after b than after a
pub record Later (a b : Boxes) : Type 0 where
  pub boxes : a.box ≤ b.box
  pub quants : a.quant ≤ b.quant
  pub rows : Begins a.rows b.rows
  pub types : Begins a.types b.types

pub ranges-later : (a b : Boxes) → Counted a → Later a b → (o : OwnedQuant) → Ranges a o → Ranges b o
ranges-later a b c l o h = record {
  drawn = (let x = h.drawn in let y = l.quants in omega arith);
  laid = (let x = h.laid in let y = l.boxes in omega arith);
  types = get-begins l.rows o.id (let x = h.drawn in let y = c.rows in omega arith) ∙ h.types ∙ sym (get-begins l.types o.over (let x = h.laid in let y = c.types in omega arith));
}

pub each_ranges-later : (a b : Boxes) → Counted a → Later a b → (os : List OwnedQuant) → EachRanges a os → EachRanges b os
each_ranges-later a b c l [] h = tt
each_ranges-later a b c l (o ∷ os) h = (ranges-later a b c l o h.0, each_ranges-later a b c l os h.1)

pub each_ranges-append : (s : Boxes) (os ps : List OwnedQuant) → EachRanges s os → EachRanges s ps → EachRanges s (os ++ ps)
each_ranges-append s [] ps h k = k
each_ranges-append s (o ∷ os) ps h k = (h.0, each_ranges-append s os ps h.1 k)

has_types-later : (a b : Boxes) → Counted a → Later a b → (n : Node) → HasTypes a n → HasTypes b n
has_types-later a b c l n h = record {
  laid = (let x = h.laid in let y = l.boxes in omega arith);
  quants = each_ranges-later a b c l n.quants h.quants;
  head = head_under-more a.quant b.quant l.quants n.parts.head h.head;
  types = get-begins l.types n.id (let x = h.laid in let y = c.types in omega arith) ∙ h.types ∙ sym (column_types-begins a.quant l.rows c.rows n.parts.kind n.parts.head h.head);
}

pub each_has_types-later : (a b : Boxes) → Counted a → Later a b → (ns : List Node) → EachHasTypes a ns → EachHasTypes b ns
each_has_types-later a b c l [] h = tt
each_has_types-later a b c l (n ∷ ns) h = (has_types-later a b c l n h.0, each_has_types-later a b c l ns h.1)
