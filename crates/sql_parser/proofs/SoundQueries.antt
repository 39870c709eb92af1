-- What is read is spelled so: SELECT and the operators on queries.
use Rattle.std.proofs.Common.{◌≡◌, ℕ, zero, suc, Bool, true, List, ◌∷◌, Option, Some, None, refl, ◌∙◌, ap, length}
use Rattle.std.specs.Prelude.{◌&&◌}
use Rattle.sql_text.specs.declared.key.Key.TheVariants as k
use Rattle.sql_text.specs.declared.token.Token.{Token}
use Rattle.sql_text.specs.declared.token.Token.TheVariants as t
use Rattle.sql_ast.specs.declared.word.SetOperator.{SetOperator}
use Rattle.sql_ast.specs.declared.word.SetQuantifier.{SetQuantifier}
use Rattle.sql_ast.specs.Grammatical.{is_qterm, is_qprim, some_item, is_expr, is_cond, is_filter, is_item, are_items, is_list, is_table, is_query}
use Rattle.sql_ast.specs.Spelling as sp
use Rattle.sql_ast.specs.Syntax as s
use Rattle.sql_parser.specs.Read as read
use Rattle.sql_parser.specs.Words.{Parsed, Parser, ◌>>=◌, set_operator_at, set_quantifier_at, all_at, group_by, alias_at, all_of_at}
use Rattle.sql_parser.proofs.Steps.{bind_ok, and_true, and_ok}
use Rattle.sql_parser.proofs.SoundSteps.{Takes, Sound, found}
use Rattle.sql_parser.proofs.SoundWords as word
use Rattle.sql_parser.proofs.SoundExpressions as expressions
use Rattle.sql_parser.proofs.SoundConditions as conditions
use Rattle.sql_parser.proofs.SoundTables as tables
use Rattle.sql_parser.proofs.SoundTables.{ok_tables}

-- ---- the lines of the grammar

abbrev pub ok_items : s.Items → Bool
ok_items xs = some_item xs && are_items xs

abbrev pub ok_qprim : s.Query → Bool
ok_qprim x = is_qprim x && is_query x

abbrev pub ok_qterm : s.Query → Bool
ok_qterm x = is_qterm x && is_query x

qprim_qterm : (x : s.Query) → ok_qprim x ≡ true → ok_qterm x ≡ true
qprim_qterm (s.combine a op all b) h = absurd (cc)
qprim_qterm (s.intersect a all b) h = absurd (cc)
qprim_qterm _ h = h

module _ (e : Parser s.Expr) (c : Parser s.Cond) (q : Parser s.Query) (j : Parser s.TableRef) (se : Sound is_expr sp.expr e) (sc : Sound is_cond sp.cond c) (sq : Sound is_query sp.query q) (sj : Sound is_table sp.table j) where
  -- ---- what SELECT asks for

  item_at : (o : Parsed (List ℕ)) (ts : List Token) (x : s.Item × List Token) → all_of_at ts ≡ o
      → elim o as (λ _. Parsed s.Item) [ None ↦ read.sum e c q j ts >>= (λ a. λ us. Some (s.item a (alias_at us).0, (alias_at us).1)) | Some r ↦ Some (s.all_of r.0, r.1) ] ≡ Some x
      → Takes is_item sp.item ts x
  item_at None ts x look h =
      let b = bind_ok (read.sum e c q j ts) (λ a. λ us. Some (s.item a (alias_at us).0, (alias_at us).1)) x h in
      let p = expressions.sum_sound e c q j se sc sq sj ts b.0 b.1 in
      found is_item sp.item _ (s.item b.0.0 (alias_at b.0.1).0, (alias_at b.0.1).1) x
      (record { grammatical = p.grammatical; tokens = p.tokens ∙ ap (sp.expr b.0.0) (word.alias_sound b.0.1) }) b.2
  item_at (Some name) ts x look h = found is_item sp.item _ (s.all_of name.0, name.1) x (record { grammatical = refl; tokens = word.all_of_sound ts name look }) h

  item_sound : (ts : List Token) (x : s.Item × List Token) → read.item e c q j ts ≡ Some x → Takes is_item sp.item ts x
  item_sound ts x h = item_at (all_of_at ts) ts x refl h

  more_items_sound : (n : ℕ) (ts : List Token) (x : s.Items × List Token) → read.more_items e c q j n ts ≡ Some x → Takes are_items sp.more_items ts x
  more_items_sound zero ts x h = found are_items sp.more_items _ (s.no_item, ts) x (record { grammatical = refl; tokens = refl }) h
  more_items_sound (suc n) (t.Comma ∷ ts) x h =
      let b = bind_ok (read.item e c q j ts) (λ y. λ us. read.more_items e c q j n us >>= (λ ys. λ vs. Some (s.one_item y ys, vs))) x h in
      let m = bind_ok (read.more_items e c q j n b.0.1) (λ ys. λ vs. Some (s.one_item b.0.0 ys, vs)) x b.2 in
      let first = item_sound ts b.0 b.1 in
      let rest = more_items_sound n b.0.1 m.0 m.1 in
      found are_items sp.more_items _ (s.one_item b.0.0 m.0.0, m.0.1) x
      (record { grammatical = and_true _ _ first.grammatical rest.grammatical; tokens = ap (λ u. t.Comma ∷ u) (first.tokens ∙ ap (sp.item b.0.0) rest.tokens) }) m.2
  more_items_sound (suc n) ts x h = found are_items sp.more_items _ (s.no_item, ts) x (record { grammatical = refl; tokens = refl }) h

  items_sound : (ts : List Token) (x : s.Items × List Token) → read.items e c q j ts ≡ Some x → Takes ok_items sp.items ts x
  items_sound ts x h =
      let b = bind_ok (read.item e c q j ts) (λ y. λ us. read.more_items e c q j (length us) us >>= (λ ys. λ vs. Some (s.one_item y ys, vs))) x h in
      let m = bind_ok (read.more_items e c q j (length b.0.1) b.0.1) (λ ys. λ vs. Some (s.one_item b.0.0 ys, vs)) x b.2 in
      let first = item_sound ts b.0 b.1 in
      let rest = more_items_sound (length b.0.1) b.0.1 m.0 m.1 in
      found ok_items sp.items _ (s.one_item b.0.0 m.0.0, m.0.1) x
      (record { grammatical = and_true _ _ first.grammatical rest.grammatical; tokens = first.tokens ∙ ap (sp.item b.0.0) rest.tokens }) m.2

  list_sound : (ts : List Token) (x : s.SelectList × List Token) → read.select_list e c q j ts ≡ Some x → Takes is_list sp.select_list ts x
  list_sound (t.Star ∷ ts) x h = found is_list sp.select_list _ (s.star, ts) x (record { grammatical = refl; tokens = refl }) h
  list_sound ts x h =
      let b = bind_ok (read.items e c q j ts) (λ xs. λ us. Some (s.items xs, us)) x h in
      let p = items_sound ts b.0 b.1 in
      found is_list sp.select_list _ (s.items b.0.0, b.0.1) x (record { grammatical = p.grammatical; tokens = p.tokens }) b.2

  -- ---- SELECT

  -- after WHERE
  group_on_sound : (each : Option SetQuantifier) (list : s.SelectList) (from : s.TableRefs) (by : s.Filter) (ts : List Token) (x : s.Query × List Token)
      → is_list list ≡ true → ok_tables from ≡ true → is_filter by ≡ true
      → (group_by ts >>= (λ group. λ us. read.having_filter e c q j us >>= (λ having. λ vs. Some (s.block each list from by group having, vs)))) ≡ Some x
      → Takes ok_qprim sp.query (t.Key k.Select ∷ sp.set_quantifier each (sp.select_list list (tables.spell_from from (sp.filter k.Where by ts)))) x
  group_on_sound each list from by ts x gl gf gb h =
      let b = bind_ok (group_by ts) (λ group. λ us. read.having_filter e c q j us >>= (λ having. λ vs. Some (s.block each list from by group having, vs))) x h in
      let m = bind_ok (read.having_filter e c q j b.0.1) (λ having. λ vs. Some (s.block each list from by b.0.0 having, vs)) x b.2 in
      let first = word.group_by_sound ts b.0 b.1 in
      let rest = conditions.having_sound e c q j se sc sq sj b.0.1 m.0 m.1 in
      found ok_qprim sp.query _ (s.block each list from by b.0.0 m.0.0, m.0.1) x
      (record {
        grammatical = and_true _ _ gl (and_true _ _ gf (and_true _ _ gb rest.grammatical));
        tokens =
            ap (λ u. t.Key k.Select ∷ sp.set_quantifier each (sp.select_list list (tables.spell_from from (sp.filter k.Where by u)))) (first ∙ ap (sp.group_by b.0.0) rest.tokens);
      }) m.2

  block_end_sound : (each : Option SetQuantifier) (list : s.SelectList) (from : s.TableRefs) (ts : List Token) (x : s.Query × List Token) → is_list list ≡ true → ok_tables from ≡ true
      → read.block_end e c q j each list from ts ≡ Some x
      → Takes ok_qprim sp.query (t.Key k.Select ∷ sp.set_quantifier each (sp.select_list list (tables.spell_from from ts))) x
  block_end_sound each list from ts x gl gf h =
      let b = bind_ok (read.where_filter e c q j ts) (λ by. λ us. group_by us >>= (λ group. λ vs. read.having_filter e c q j vs >>= (λ having. λ ws. Some (s.block each list from by group having, ws)))) x h in
      let p = conditions.where_sound e c q j se sc sq sj ts b.0 b.1 in
      let m = group_on_sound each list from b.0.0 b.0.1 x gl gf p.grammatical b.2 in
      record { grammatical = m.grammatical; tokens = ap (λ u. t.Key k.Select ∷ sp.set_quantifier each (sp.select_list list (tables.spell_from from u))) p.tokens ∙ m.tokens }

  from_on_sound : (each : Option SetQuantifier) (list : s.SelectList) (ts : List Token) (x : s.Query × List Token) → is_list list ≡ true
      → (read.from e c q j ts >>= (λ from. λ us. read.block_end e c q j each list from us)) ≡ Some x
      → Takes ok_qprim sp.query (t.Key k.Select ∷ sp.set_quantifier each (sp.select_list list ts)) x
  from_on_sound each list ts x g h =
      let b = bind_ok (read.from e c q j ts) (λ from. λ us. read.block_end e c q j each list from us) x h in
      let p = tables.from_sound e c q j se sc sq sj ts b.0 b.1 in
      let m = block_end_sound each list b.0.0 b.0.1 x g p.grammatical b.2 in
      record { grammatical = m.grammatical; tokens = ap (λ u. t.Key k.Select ∷ sp.set_quantifier each (sp.select_list list u)) p.tokens ∙ m.tokens }

  list_on_sound : (each : Option SetQuantifier) (ts : List Token) (x : s.Query × List Token)
      → (read.select_list e c q j ts >>= (λ list. λ us. read.from e c q j us >>= (λ from. λ vs. read.block_end e c q j each list from vs))) ≡ Some x
      → Takes ok_qprim sp.query (t.Key k.Select ∷ sp.set_quantifier each ts) x
  list_on_sound each ts x h =
      let b = bind_ok (read.select_list e c q j ts) (λ list. λ us. read.from e c q j us >>= (λ from. λ vs. read.block_end e c q j each list from vs)) x h in
      let p = list_sound ts b.0 b.1 in
      let m = from_on_sound each b.0.0 b.0.1 x p.grammatical b.2 in
      record { grammatical = m.grammatical; tokens = ap (λ u. t.Key k.Select ∷ sp.set_quantifier each u) p.tokens ∙ m.tokens }

  block_sound : (ts : List Token) (x : s.Query × List Token) → read.block e c q j ts ≡ Some x → Takes ok_qprim sp.query (t.Key k.Select ∷ ts) x
  block_sound ts x h =
      let m = list_on_sound (set_quantifier_at ts).0 (set_quantifier_at ts).1 x h in
      record { grammatical = m.grammatical; tokens = ap (λ u. t.Key k.Select ∷ u) (word.set_quantifier_sound ts) ∙ m.tokens }

  -- ---- operators on queries

  enclosed_sound : (ts : List Token) (x : s.Query × List Token) → read.sub e c q j s.enclosed ts ≡ Some x → Takes ok_qprim sp.query ts x
  enclosed_sound ts x h =
      let i = expressions.sub_sound e c q j se sc sq sj s.enclosed ts x h in
      record { grammatical = ap ok_qprim i.is ∙ i.grammatical; tokens = rw i.is i.tokens }

  qprim_sound : (ts : List Token) (x : s.Query × List Token) → read.qprim e c q j ts ≡ Some x → Takes ok_qprim sp.query ts x
  qprim_sound (t.Key k.Select ∷ ts) x h = block_sound ts x h
  qprim_sound ts x h = enclosed_sound ts x h

  qprims_sound : (n : ℕ) (left : s.Query) (ts : List Token) (x : s.Query × List Token) → ok_qterm left ≡ true → read.more_qprims e c q j n left ts ≡ Some x
      → Takes ok_qterm sp.query (sp.query left ts) x
  qprims_sound zero left ts x g h = found ok_qterm sp.query _ (left, ts) x (record { grammatical = g; tokens = refl }) h
  qprims_sound (suc n) left (t.Key k.Intersect ∷ ts) x g h =
      let b = bind_ok (read.qprim e c q j (all_at ts).1) (λ right. read.more_qprims e c q j n (s.intersect left (all_at ts).0 right)) x h in
      let p = qprim_sound (all_at ts).1 b.0 b.1 in
      let m = qprims_sound n (s.intersect left (all_at ts).0 b.0.0) b.0.1 x (and_true _ _ g p.grammatical) b.2 in
      record {
        grammatical = m.grammatical;
        tokens = ap (λ u. sp.query left (t.Key k.Intersect ∷ u)) (word.all_sound ts ∙ ap (sp.optional k.All (all_at ts).0) p.tokens) ∙ m.tokens;
      }
  qprims_sound (suc n) left ts x g h = found ok_qterm sp.query _ (left, ts) x (record { grammatical = g; tokens = refl }) h

  qterm_sound : (ts : List Token) (x : s.Query × List Token) → read.qterm e c q j ts ≡ Some x → Takes ok_qterm sp.query ts x
  qterm_sound ts x h =
      let b = bind_ok (read.qprim e c q j ts) (read.more_qprims e c q j (length ts)) x h in
      let p = qprim_sound ts b.0 b.1 in
      let m = qprims_sound (length ts) b.0.0 b.0.1 x (qprim_qterm b.0.0 p.grammatical) b.2 in
      record { grammatical = m.grammatical; tokens = p.tokens ∙ m.tokens }

  qterm_turn : (o : Parsed SetOperator) (n : ℕ) (left : s.Query) (ts : List Token) (x : s.Query × List Token)
      → ((l : s.Query) (us : List Token) → is_query l ≡ true → read.more_qterms e c q j n l us ≡ Some x → Takes is_query sp.query (sp.query l us) x)
      → is_query left ≡ true → set_operator_at ts ≡ o
      → elim o as (λ _. Parsed s.Query) [ None ↦ Some (left, ts) | Some r ↦ read.qterm e c q j (all_at r.1).1 >>= (λ right. read.more_qterms e c q j n (s.combine left r.0 (all_at r.1).0 right)) ] ≡ Some x
      → Takes is_query sp.query (sp.query left ts) x
  qterm_turn None n left ts x more g a h = found is_query sp.query _ (left, ts) x (record { grammatical = g; tokens = refl }) h
  qterm_turn (Some op) n left ts x more g a h =
      let b = bind_ok (read.qterm e c q j (all_at op.1).1) (λ right. read.more_qterms e c q j n (s.combine left op.0 (all_at op.1).0 right)) x h in
      let p = qterm_sound (all_at op.1).1 b.0 b.1 in
      let m = more (s.combine left op.0 (all_at op.1).0 b.0.0) b.0.1 (and_true _ _ g p.grammatical) b.2 in
      let right = word.all_sound op.1 ∙ ap (sp.optional k.All (all_at op.1).0) p.tokens in
      record { grammatical = m.grammatical; tokens = ap (sp.query left) (word.set_operator_sound ts op a ∙ ap (λ u. sp.set_operator op.0 ∷ u) right) ∙ m.tokens }

  qterms_sound : (n : ℕ) (left : s.Query) (ts : List Token) (x : s.Query × List Token) → is_query left ≡ true → read.more_qterms e c q j n left ts ≡ Some x
      → Takes is_query sp.query (sp.query left ts) x
  qterms_sound zero left ts x g h = found is_query sp.query _ (left, ts) x (record { grammatical = g; tokens = refl }) h
  qterms_sound (suc n) left ts x g h = qterm_turn (set_operator_at ts) n left ts x (λ l us gl hl. qterms_sound n l us x gl hl) g refl h

  pub combined_sound : (ts : List Token) (x : s.Query × List Token) → read.combined e c q j ts ≡ Some x → Takes is_query sp.query ts x
  combined_sound ts x h =
      let b = bind_ok (read.qterm e c q j ts) (read.more_qterms e c q j (length ts)) x h in
      let p = qterm_sound ts b.0 b.1 in
      let m = qterms_sound (length ts) b.0.0 b.0.1 x (and_ok (is_qterm b.0.0) _ p.grammatical).1 b.2 in
      record { grammatical = m.grammatical; tokens = p.tokens ∙ m.tokens }
