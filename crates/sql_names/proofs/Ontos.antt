-- Lists of the program before the rest of a list of a tree, with one more part at their end.
use Rattle.std.proofs.Common.{◌≡◌, ℕ, suc, ◌+◌, ◌-◌, ◌<◌, List, [], ◌∷◌, ◌++◌, drop, get_or, length, refl, ap, sym, ◌∙◌, arith}
use Rattle.std.proofs.lemmas.List.{drop_more}
use Rattle.sql_meaning.specs.declared.resolved.Arm.{Arm}
use Rattle.sql_meaning.specs.declared.resolved.Choice.{Choice}
use Rattle.sql_meaning.specs.declared.resolved.From.{From}
use Rattle.sql_meaning.specs.declared.resolved.Value.{Value}
use Rattle.sql_meaning.specs.ResolvedShown as shown
use Rattle.sql_meaning.specs.ResolvedTrees as q
use Rattle.sql_ast.specs.declared.tree.Item.{Item}
use Rattle.sql_ast.specs.Shown as written
use Rattle.sql_meaning.specs.Scopes.{Shape}
use Rattle.sql_names.specs.Onto.{arms_onto, choices_onto, froms_onto, values_onto}
use Rattle.sql_names.specs.Resolved.{Columns, append, columns_from}
use Rattle.sql_names.specs.Resolved as spec

pub values_more : (xs : List Value) (y : Value) (rest : q.Values) → values_onto (xs ++ y ∷ []) rest ≡ values_onto xs (q.one_value (shown.value y) rest)
values_more [] y rest = refl
values_more (x ∷ xs) y rest = ap (q.one_value (shown.value x)) (values_more xs y rest)

pub values_whole : (xs : List Value) → shown.value_list xs ≡ values_onto xs q.no_value
values_whole [] = refl
values_whole (x ∷ xs) = ap (q.one_value (shown.value x)) (values_whole xs)

pub arms_more : (xs : List Arm) (y : Arm) (rest : q.Arms) → arms_onto (xs ++ y ∷ []) rest ≡ arms_onto xs (q.one_arm (shown.test y.when) (shown.value y.then) rest)
arms_more [] y rest = refl
arms_more (x ∷ xs) y rest = ap (q.one_arm (shown.test x.when) (shown.value x.then)) (arms_more xs y rest)

pub arms_whole : (xs : List Arm) → shown.arm_list xs ≡ arms_onto xs q.no_arm
arms_whole [] = refl
arms_whole (x ∷ xs) = ap (q.one_arm (shown.test x.when) (shown.value x.then)) (arms_whole xs)

pub choices_more : (xs : List Choice) (y : Choice) (rest : q.Choices) → choices_onto (xs ++ y ∷ []) rest ≡ choices_onto xs (q.one_choice (shown.value y.when) (shown.value y.then) rest)
choices_more [] y rest = refl
choices_more (x ∷ xs) y rest = ap (q.one_choice (shown.value x.when) (shown.value x.then)) (choices_more xs y rest)

pub choices_whole : (xs : List Choice) → shown.choice_list xs ≡ choices_onto xs q.no_choice
choices_whole [] = refl
choices_whole (x ∷ xs) = ap (q.one_choice (shown.value x.when) (shown.value x.then)) (choices_whole xs)

pub froms_more : (xs : List From) (y : From) (rest : q.Froms) → froms_onto (xs ++ y ∷ []) rest ≡ froms_onto xs (q.one_from (shown.from y) rest)
froms_more [] y rest = refl
froms_more (x ∷ xs) y rest = ap (q.one_from (shown.from x)) (froms_more xs y rest)

pub froms_whole : (xs : List From) → shown.from_list xs ≡ froms_onto xs q.no_from
froms_whole [] = refl
froms_whole (x ∷ xs) = ap (q.one_from (shown.from x)) (froms_whole xs)

-- ---- lists of values side by side

pub append_append : (xs ys zs : q.Values) → append (append xs ys) zs ≡ append xs (append ys zs)
append_append q.no_value ys zs = refl
append_append (q.one_value x xs) ys zs = ap (q.one_value x) (append_append xs ys zs)

pub append_none : (xs : q.Values) → append xs q.no_value ≡ xs
append_none q.no_value = refl
append_none (q.one_value x xs) = ap (q.one_value x) (append_none xs)

-- one column, and those after it
pub columns_step : (scope first i n : ℕ) (rest : q.Values) → i < n → append (columns_from scope (first + i) (n - i)) rest ≡ q.one_value (q.column scope (first + i)) (append (columns_from scope (first + (i + 1)) (n - (i + 1))) rest)
columns_step scope first i n rest low =
    let less : n - i ≡ suc (n - (i + 1)) = omega arith in
    let next : suc (first + i) ≡ first + (i + 1) = omega arith in
    ap (λ (m : ℕ). append (columns_from scope (first + i) m) rest) less
    ∙ ap (λ (p : ℕ). q.one_value (q.column scope (first + i)) (append (columns_from scope p (n - (i + 1))) rest)) next

-- ---- items of a list

next_there : (xs : List Item) (i : ℕ) (x : Item) → i < length xs → x ≡ get_or xs i x → drop i xs ≡ x ∷ drop (i + 1) xs
next_there xs i x low is = drop_more xs i x low ∙ ap (λ (y : Item). y ∷ drop (i + 1) xs) (sym is)

-- the columns of one more item
pub item_pushed : (columns : Columns) (shapes : List Shape) (items : List Item) (i : ℕ) (x : Item) (old new first : List Value) → i < length items → x ≡ get_or items i x
    → ((rest : q.Values) → values_onto new rest ≡ values_onto old (append (spec.item columns shapes (written.item x)) rest))
    → ((rest : q.Values) → values_onto old (append (spec.items columns shapes (written.item_list (drop i items))) rest) ≡ values_onto first (append (spec.items columns shapes (written.item_list items)) rest))
    → (rest : q.Values) → values_onto new (append (spec.items columns shapes (written.item_list (drop (i + 1) items))) rest) ≡ values_onto first (append (spec.items columns shapes (written.item_list items)) rest)
item_pushed columns shapes items i x old new first low is pushed so_far rest =
    pushed (append (spec.items columns shapes (written.item_list (drop (i + 1) items))) rest)
    ∙ ap (values_onto old) (sym (append_append (spec.item columns shapes (written.item x)) (spec.items columns shapes (written.item_list (drop (i + 1) items))) rest))
    ∙ ap (λ (xs : List Item). values_onto old (append (spec.items columns shapes (written.item_list xs)) rest)) (sym (next_there items i x low is))
    ∙ so_far rest
