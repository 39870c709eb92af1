-- A recursion on a count of turns, beside a loop that counts up: of columns, of tables and of queries.
use Rattle.std.proofs.Common.{◌≡◌, ℕ, zero, suc, ◌-◌, length, List, [], ◌∷◌, ◌++◌, false, Some, None, ap, ◌∙◌, sym, refl}
use Rattle.std.proofs.lemmas.List.{append-nil, append_assoc}
use Rattle.sql_text.specs.Tokens.{token_list}
use Rattle.sql_text.specs.declared.token.Spanned.{Spanned}
use Rattle.sql_text.specs.declared.token.Token.{Token}
use Rattle.sql_text.specs.declared.token.Token.TheVariants as t
use Rattle.sql_text.specs.declared.key.Key.TheVariants as k
use Rattle.sql_ast.specs.declared.text.Sort.{Sort}
use Rattle.sql_ast.specs.declared.tree.Item.{Item}
use Rattle.sql_ast.specs.declared.tree.Query.{Query}
use Rattle.sql_ast.specs.declared.tree.SelectList.{SelectList}
use Rattle.sql_ast.specs.declared.tree.TableRef.{TableRef}
use Rattle.sql_ast.specs.declared.word.SetOperator.{SetOperator}
use Rattle.sql_parser.specs.declared.word.JoinKind.{JoinKind}
use denote.Bor.{Bor}
use Rattle.std.specs.Global.{Box}
use Rattle.sql_ast.specs.Shown as shown
use Rattle.sql_ast.specs.Syntax as s
use Rattle.sql_parser.specs.Read.{starts_comma, starts_intersect, starts_star, listed, select_list, join_after, more_joins, tref, tables, more_tables, item, items, more_items, qprim, intersected, more_qprims, qterm, united, more_qterms, combined}
use Rattle.sql_parser.specs.ReadText.{more_sorts}
use Rattle.sql_parser.proofs.Turns.{found_then, no_turn}
use Rattle.sql_parser.specs.Words.{Parsed, Parser, ◌>>=◌, mapped, join_at, all_at, set_operator_at, more_columns}

-- ---- lists that are plain

pub first_item : {A : Type 0} (x : A) (m : Parsed (List A)) → (m >>= (λ xs. λ vs. Some (x ∷ xs, vs))) ≡ mapped (λ xs. (x ∷ []) ++ xs) m
first_item x None = refl
first_item x (Some r) = refl

pub next_item : {A : Type 0} (out : List A) (x : A) (m : Parsed (List A)) → mapped (λ xs. out ++ xs) (m >>= (λ xs. λ vs. Some (x ∷ xs, vs))) ≡ mapped (λ xs. (out ++ x ∷ []) ++ xs) m
next_item out x None = refl
next_item out x (Some r) = ap (λ xs. Some (xs, r.1)) (sym (append_assoc out (x ∷ []) r.0))

pub no_item : {A : Type 0} (out : List A) (ts : List Token) → mapped (λ xs. out ++ xs) (Some ([], ts)) ≡ Some (out, ts)
no_item out ts = ap (λ xs. Some (xs, ts)) (append-nil out)

pub columns_stop : (n : ℕ) (ts : List Token) → starts_comma ts ≡ false → more_columns n ts ≡ Some ([], ts)
columns_stop zero ts h = refl
columns_stop (suc n) (t.Comma ∷ ts) h = absurd (cc)
columns_stop (suc n) ts h = refl

pub sorts_stop : (n : ℕ) (ts : List Token) → starts_comma ts ≡ false → more_sorts n ts ≡ Some ([], ts)
sorts_stop zero ts h = refl
sorts_stop (suc n) (t.Comma ∷ ts) h = absurd (cc)
sorts_stop (suc n) ts h = refl

-- ---- loops of the grammar that end early

module _ (e : Parser s.Expr) (c : Parser s.Cond) (q : Parser s.Query) (j : Parser s.TableRef) where
  pub joins_stop : (n : ℕ) (left : s.TableRef) (ts : List Token) → join_at ts ≡ None → more_joins e c q j n left ts ≡ Some (left, ts)
  joins_stop zero left ts h = refl
  joins_stop (suc n) left ts h = ap (λ o. elim o as (λ _. Parsed s.TableRef) [ None ↦ Some (left, ts) | Some r ↦ join_after e c q j left r.0 r.1 >>= more_joins e c q j n ]) h

  pub joins_next : (n : ℕ) (left : s.TableRef) (ts : List Token) (r : JoinKind × List Token) → Some r ≡ join_at ts → more_joins e c q j (suc n) left ts ≡ (join_after e c q j left r.0 r.1 >>= more_joins e c q j n)
  joins_next n left ts r h = ap (λ o. elim o as (λ _. Parsed s.TableRef) [ None ↦ Some (left, ts) | Some r ↦ join_after e c q j left r.0 r.1 >>= more_joins e c q j n ]) (sym h)

  pub tables_stop : (n : ℕ) (ts : List Token) → starts_comma ts ≡ false → more_tables e c q j n ts ≡ Some (s.no_table, ts)
  tables_stop zero ts h = refl
  tables_stop (suc n) (t.Comma ∷ ts) h = absurd (cc)
  tables_stop (suc n) ts h = refl

  pub items_stop : (n : ℕ) (ts : List Token) → starts_comma ts ≡ false → more_items e c q j n ts ≡ Some (s.no_item, ts)
  items_stop zero ts h = refl
  items_stop (suc n) (t.Comma ∷ ts) h = absurd (cc)
  items_stop (suc n) ts h = refl

  pub no_star : (ts : List Token) → starts_star ts ≡ false → listed e c q j ts ≡ select_list e c q j ts
  no_star [] h = refl
  no_star (t.Star ∷ ts) h = absurd (cc)
  no_star (_ ∷ ts) h = refl

  pub qprims_stop : (n : ℕ) (left : s.Query) (ts : List Token) → starts_intersect ts ≡ false → more_qprims e c q j n left ts ≡ Some (left, ts)
  qprims_stop zero left ts h = refl
  qprims_stop (suc n) left (t.Key k.Intersect ∷ ts) h = absurd (cc)
  qprims_stop (suc n) left ts h = refl

  pub qprims_next : (n : ℕ) (left : s.Query) (ts us : List Token) → ts ≡ t.Key k.Intersect ∷ us → more_qprims e c q j (suc n) left ts ≡ (intersected e c q j left us >>= more_qprims e c q j n)
  qprims_next n left ts us h = rw (h) (found_then (qprim e c q j (all_at us).1) (s.intersect left (all_at us).0) (more_qprims e c q j n))

  pub qterms_stop : (n : ℕ) (left : s.Query) (ts : List Token) → set_operator_at ts ≡ None → more_qterms e c q j n left ts ≡ Some (left, ts)
  qterms_stop zero left ts h = refl
  qterms_stop (suc n) left ts h = ap (λ o. elim o as (λ _. Parsed s.Query) [ None ↦ Some (left, ts) | Some r ↦ qterm e c q j (all_at r.1).1 >>= (λ right. more_qterms e c q j n (s.combine left r.0 (all_at r.1).0 right)) ]) h

  pub qterms_next : (n : ℕ) (left : s.Query) (ts : List Token) (r : SetOperator × List Token) → Some r ≡ set_operator_at ts → more_qterms e c q j (suc n) left ts ≡ (united e c q j left r.0 r.1 >>= more_qterms e c q j n)
  qterms_next n left ts r h =
      ap (λ o. elim o as (λ _. Parsed s.Query) [ None ↦ Some (left, ts) | Some r ↦ qterm e c q j (all_at r.1).1 >>= (λ right. more_qterms e c q j n (s.combine left r.0 (all_at r.1).0 right)) ]) (sym h)
      ∙ found_then (qterm e c q j (all_at r.1).1) (s.combine left r.0 (all_at r.1).0) (more_qterms e c q j n)

-- ---- how a call's answer is seen

abbrev pub query_seen : Box Query × Bor (List Spanned) → s.Query × List Token
query_seen x = (shown.query x.0.value, token_list x.1.now)

abbrev pub table_seen : Box TableRef × Bor (List Spanned) → s.TableRef × List Token
table_seen x = (shown.table x.0.value, token_list x.1.now)

abbrev pub sort_seen : Sort × Bor (List Spanned) → Sort × List Token
sort_seen x = (x.0, token_list x.1.now)

abbrev pub sorts_seen : List Sort × Bor (List Spanned) → List Sort × List Token
sorts_seen x = (x.0, token_list x.1.now)

abbrev pub list_seen : SelectList × Bor (List Spanned) → s.SelectList × List Token
list_seen x = (shown.select_list x.0, token_list x.1.now)

abbrev pub tables_seen : List TableRef × Bor (List Spanned) → s.TableRefs × List Token
tables_seen x = (shown.table_list x.0, token_list x.1.now)

abbrev pub item_seen : Item × Bor (List Spanned) → s.Item × List Token
item_seen x = (shown.item x.0, token_list x.1.now)

abbrev pub items_seen : List Item × Bor (List Spanned) → s.Items × List Token
items_seen x = (shown.item_list x.0, token_list x.1.now)

-- ---- tables, one by one

abbrev pub append_tables : s.TableRefs → s.TableRefs → s.TableRefs
append_tables s.no_table ys = ys
append_tables (s.one_table x xs) ys = s.one_table x (append_tables xs ys)

append_no_table : (xs : s.TableRefs) → append_tables xs s.no_table ≡ xs
append_no_table s.no_table = refl
append_no_table (s.one_table x xs) = ap (s.one_table x) (append_no_table xs)

append_one_table : (xs ys : s.TableRefs) (x : s.TableRef) → append_tables xs (s.one_table x ys) ≡ append_tables (append_tables xs (s.one_table x s.no_table)) ys
append_one_table s.no_table ys x = refl
append_one_table (s.one_table y xs) ys x = ap (s.one_table y) (append_one_table xs ys x)

pub table_one : (xs : List TableRef) (x : TableRef) → shown.table_list (xs ++ x ∷ []) ≡ append_tables (shown.table_list xs) (s.one_table (shown.table x) s.no_table)
table_one [] x = refl
table_one (y ∷ xs) x = ap (s.one_table (shown.table y)) (table_one xs x)

first_table : (x : s.TableRef) (m : Parsed s.TableRefs) → (m >>= (λ xs. λ vs. Some (s.one_table x xs, vs))) ≡ mapped (append_tables (s.one_table x s.no_table)) m
first_table x None = refl
first_table x (Some r) = refl

pub next_table : (out : s.TableRefs) (x : s.TableRef) (m : Parsed s.TableRefs)
    → mapped (append_tables out) (m >>= (λ xs. λ vs. Some (s.one_table x xs, vs))) ≡ mapped (append_tables (append_tables out (s.one_table x s.no_table))) m
next_table out x None = refl
next_table out x (Some r) = ap (λ xs. Some (xs, r.1)) (append_one_table out r.0 x)

pub no_more_tables : (out : s.TableRefs) (ts : List Token) → mapped (append_tables out) (Some (s.no_table, ts)) ≡ Some (out, ts)
no_more_tables out ts = ap (λ xs. Some (xs, ts)) (append_no_table out)

-- ---- items of a select list, one by one

abbrev pub append_items : s.Items → s.Items → s.Items
append_items s.no_item ys = ys
append_items (s.one_item x xs) ys = s.one_item x (append_items xs ys)

append_no_item : (xs : s.Items) → append_items xs s.no_item ≡ xs
append_no_item s.no_item = refl
append_no_item (s.one_item x xs) = ap (s.one_item x) (append_no_item xs)

append_one_item : (xs ys : s.Items) (x : s.Item) → append_items xs (s.one_item x ys) ≡ append_items (append_items xs (s.one_item x s.no_item)) ys
append_one_item s.no_item ys x = refl
append_one_item (s.one_item y xs) ys x = ap (s.one_item y) (append_one_item xs ys x)

pub item_one : (xs : List Item) (x : Item) → shown.item_list (xs ++ x ∷ []) ≡ append_items (shown.item_list xs) (s.one_item (shown.item x) s.no_item)
item_one [] x = refl
item_one (y ∷ xs) x = ap (s.one_item (shown.item y)) (item_one xs x)

first_item_of : (x : s.Item) (m : Parsed s.Items) → (m >>= (λ xs. λ vs. Some (s.one_item x xs, vs))) ≡ mapped (append_items (s.one_item x s.no_item)) m
first_item_of x None = refl
first_item_of x (Some r) = refl

pub next_item_of : (out : s.Items) (x : s.Item) (m : Parsed s.Items)
    → mapped (append_items out) (m >>= (λ xs. λ vs. Some (s.one_item x xs, vs))) ≡ mapped (append_items (append_items out (s.one_item x s.no_item))) m
next_item_of out x None = refl
next_item_of out x (Some r) = ap (λ xs. Some (xs, r.1)) (append_one_item out r.0 x)

pub no_more_items : (out : s.Items) (ts : List Token) → mapped (append_items out) (Some (s.no_item, ts)) ≡ Some (out, ts)
no_more_items out ts = ap (λ xs. Some (xs, ts)) (append_no_item out)

module _ (e : Parser s.Expr) (c : Parser s.Cond) (q : Parser s.Query) (j : Parser s.TableRef) where
  pub tables_begin : (ts : List Token) (x : s.TableRef) (spans : List Spanned) → tref e c q j ts ≡ Some (x, token_list spans)
      → tables e c q j ts ≡ mapped (append_tables (s.one_table x s.no_table)) (more_tables e c q j (length spans - 0) (token_list spans))
  tables_begin ts x spans h =
      ap (λ m. m >>= (λ x. λ us. more_tables e c q j (length us) us >>= (λ xs. λ vs. Some (s.one_table x xs, vs)))) h
      ∙ first_table x (more_tables e c q j (length (token_list spans)) (token_list spans))
      ∙ (no_turn (λ n. mapped (append_tables (s.one_table x s.no_table)) (more_tables e c q j n (token_list spans))) spans)

  pub items_begin : (ts : List Token) (x : s.Item) (spans : List Spanned) → item e c q j ts ≡ Some (x, token_list spans)
      → items e c q j ts ≡ mapped (append_items (s.one_item x s.no_item)) (more_items e c q j (length spans - 0) (token_list spans))
  items_begin ts x spans h =
      ap (λ m. m >>= (λ x. λ us. more_items e c q j (length us) us >>= (λ xs. λ vs. Some (s.one_item x xs, vs)))) h
      ∙ first_item_of x (more_items e c q j (length (token_list spans)) (token_list spans))
      ∙ (no_turn (λ n. mapped (append_items (s.one_item x s.no_item)) (more_items e c q j n (token_list spans))) spans)

  pub qterm_begin : (spans : List Spanned) (left : s.Query) (rest : List Token) → qprim e c q j (token_list spans) ≡ Some (left, rest)
      → qterm e c q j (token_list spans) ≡ more_qprims e c q j (length spans - 0) left rest
  qterm_begin spans left rest h = ap (λ m. m >>= more_qprims e c q j (length (token_list spans))) h ∙ (no_turn (λ n. more_qprims e c q j n left rest) spans)

  pub combined_begin : (spans : List Spanned) (left : s.Query) (rest : List Token) → qterm e c q j (token_list spans) ≡ Some (left, rest)
      → combined e c q j (token_list spans) ≡ more_qterms e c q j (length spans - 0) left rest
  combined_begin spans left rest h = ap (λ m. m >>= more_qterms e c q j (length (token_list spans))) h ∙ (no_turn (λ n. more_qterms e c q j n left rest) spans)
