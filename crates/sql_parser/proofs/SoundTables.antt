-- What is read is spelled so: tables and their joins.
use Rattle.std.proofs.Common.{◌≡◌, ℕ, zero, suc, Bool, true, false, List, ◌∷◌, Some, None, refl, ◌∙◌, ap, length}
use Rattle.std.specs.Prelude.{◌&&◌, not, if◌then◌else◌}
use Rattle.sql_text.specs.declared.key.Key.TheVariants as k
use Rattle.sql_text.specs.declared.token.Token.{Token}
use Rattle.sql_text.specs.declared.token.Token.TheVariants as t
use Rattle.sql_ast.specs.Grammatical.{cond_without_sub, is_tprim, some_table, is_expr, is_cond, is_table, are_tables, is_query}
use Rattle.sql_ast.specs.Spelling as sp
use Rattle.sql_ast.specs.Syntax as s
use Rattle.sql_parser.specs.Ahead.{at_query}
use Rattle.sql_parser.specs.Read as read
use Rattle.sql_parser.specs.Read.{close_join, name_derived}
use Rattle.sql_parser.specs.declared.word.JoinKind.{JoinKind}
use Rattle.sql_parser.specs.declared.word.JoinKind.TheVariants as join_of
use Rattle.sql_parser.specs.Words.{Parsed, Parser, ◌>>=◌, correlation, optional_correlation, join_at}
use Rattle.sql_parser.proofs.Steps.{none_some, bind_ok, and_true, and_ok}
use Rattle.sql_parser.proofs.SoundSteps.{Takes, Sound, found}
use Rattle.sql_parser.proofs.SoundWords as word
use Rattle.sql_parser.proofs.SoundWords.{join_words}
use Rattle.sql_parser.proofs.SoundConditions as below

-- ---- the lines of the grammar

abbrev pub ok_tprim : s.TableRef → Bool
ok_tprim x = is_tprim x && is_table x

abbrev pub ok_tables : s.TableRefs → Bool
ok_tables xs = some_table xs && are_tables xs

-- ON and its condition
abbrev spell_on : s.Cond → List Token → List Token
spell_on x ts = t.Key k.On ∷ sp.cond x ts

-- FROM and its tables
abbrev pub spell_from : s.TableRefs → List Token → List Token
spell_from xs ts = t.Key k.From ∷ sp.tables xs ts

-- ---- what closes a bracket

derived_sound : (x : s.Query) (ts : List Token) (y : s.TableRef × List Token) → is_query x ≡ true → name_derived x ts ≡ Some y → Takes ok_tprim sp.table (t.LeftParen ∷ sp.query x ts) y
derived_sound x (t.RightParen ∷ ts) y g h =
    let b = bind_ok (correlation ts) (λ c. λ us. Some (s.derived x c, us)) y h in
    found ok_tprim sp.table _ (s.derived x b.0.0, b.0.1) y
    (record { grammatical = g; tokens = ap (λ u. t.LeftParen ∷ sp.query x (t.RightParen ∷ u)) (word.correlation_sound ts b.0 b.1) }) b.2
derived_sound x _ y g h = absurd (none_some y h)

close_join_at : (b : Bool) (x : s.TableRef) (ts : List Token) (y : s.TableRef × List Token) → is_tprim x ≡ b → is_table x ≡ true
    → (if b then None else Some (s.joined x, ts)) ≡ Some y → Takes ok_tprim sp.table (t.LeftParen ∷ sp.table x (t.RightParen ∷ ts)) y
close_join_at true x ts y p g h = absurd (none_some y h)
close_join_at false x ts y p g h = found ok_tprim sp.table _ (s.joined x, ts) y (record { grammatical = and_true _ _ (ap not p) g; tokens = refl }) h

close_join_sound : (x : s.TableRef) (ts : List Token) (y : s.TableRef × List Token) → is_table x ≡ true → close_join x ts ≡ Some y → Takes ok_tprim sp.table (t.LeftParen ∷ sp.table x ts) y
close_join_sound x (t.RightParen ∷ ts) y g h = close_join_at (is_tprim x) x ts y refl g h
close_join_sound x _ y g h = absurd (none_some y h)

module _ (e : Parser s.Expr) (c : Parser s.Cond) (q : Parser s.Query) (j : Parser s.TableRef) (se : Sound is_expr sp.expr e) (sc : Sound is_cond sp.cond c) (sq : Sound is_query sp.query q) (sj : Sound is_table sp.table j) where
  tprim_at : (b : Bool) (ts : List Token) (x : s.TableRef × List Token) → (if b then (q ts >>= name_derived) else (j ts >>= close_join)) ≡ Some x → Takes ok_tprim sp.table (t.LeftParen ∷ ts) x
  tprim_at true ts x h =
      let b = bind_ok (q ts) name_derived x h in
      let p = sq.holds ts b.0 b.1 in
      let m = derived_sound b.0.0 b.0.1 x p.grammatical b.2 in
      record { grammatical = m.grammatical; tokens = ap (λ u. t.LeftParen ∷ u) p.tokens ∙ m.tokens }
  tprim_at false ts x h =
      let b = bind_ok (j ts) close_join x h in
      let p = sj.holds ts b.0 b.1 in
      let m = close_join_sound b.0.0 b.0.1 x p.grammatical b.2 in
      record { grammatical = m.grammatical; tokens = ap (λ u. t.LeftParen ∷ u) p.tokens ∙ m.tokens }

  tprim_sound : (ts : List Token) (x : s.TableRef × List Token) → read.tprim e c q j ts ≡ Some x → Takes ok_tprim sp.table ts x
  tprim_sound (t.Name n ∷ ts) x h =
      let b = bind_ok (optional_correlation ts) (λ y. λ us. Some (s.named n y, us)) x h in
      found ok_tprim sp.table _ (s.named n b.0.0, b.0.1) x (record { grammatical = refl; tokens = ap (λ u. t.Name n ∷ u) (word.optional_correlation_sound ts b.0 b.1) }) b.2
  tprim_sound (t.LeftParen ∷ ts) x h = tprim_at (at_query ts) ts x h
  tprim_sound _ x h = absurd (none_some x h)

  -- ---- joins

  on_sound : (ts : List Token) (x : s.Cond × List Token) → read.on e c q j ts ≡ Some x → Takes is_cond spell_on ts x
  on_sound (t.Key k.On ∷ ts) x h =
      let p = below.disj_sound e c q j se sc sq sj ts x h in
      record { grammatical = p.grammatical; tokens = ap (λ u. t.Key k.On ∷ u) p.tokens }
  on_sound _ x h = absurd (none_some x h)

  inner_sound : (left : s.TableRef) (inner : Bool) (right : s.TableRef) (ts : List Token) (x : s.TableRef × List Token) → is_table left ≡ true → ok_tprim right ≡ true
      → (read.on e c q j ts >>= (λ y. λ us. Some (s.join left inner right y, us))) ≡ Some x
      → Takes is_table sp.table (sp.table left (join_words (join_of.Inner inner) (sp.table right ts))) x
  inner_sound left inner right ts x gl gr h =
      let b = bind_ok (read.on e c q j ts) (λ y. λ us. Some (s.join left inner right y, us)) x h in
      let p = on_sound ts b.0 b.1 in
      found is_table sp.table _ (s.join left inner right b.0.0, b.0.1) x
      (record {
        grammatical = and_true _ _ gl (and_true _ _ gr p.grammatical);
        tokens = ap (λ u. sp.table left (join_words (join_of.Inner inner) (sp.table right u))) p.tokens;
      }) b.2

  left_at : (b : Bool) (left : s.TableRef) (outer : Bool) (right : s.TableRef) (y : s.Cond) (ts : List Token) (x : s.TableRef × List Token)
      → is_table left ≡ true → ok_tprim right ≡ true → is_cond y ≡ true → cond_without_sub y ≡ b
      → (if b then Some (s.left_join left outer right y, ts) else None) ≡ Some x
      → Takes is_table sp.table (sp.table left (join_words (join_of.Left outer) (sp.table right (spell_on y ts)))) x
  left_at true left outer right y ts x gl gr gy alone h =
      found is_table sp.table _ (s.left_join left outer right y, ts) x
      (record { grammatical = and_true _ _ gl (and_true _ _ gr (and_true _ _ gy alone)); tokens = refl }) h
  left_at false left outer right y ts x gl gr gy alone h = absurd (none_some x h)

  left_sound : (left : s.TableRef) (outer : Bool) (right : s.TableRef) (ts : List Token) (x : s.TableRef × List Token) → is_table left ≡ true → ok_tprim right ≡ true
      → (read.on e c q j ts >>= read.left_joined e c q j left outer right) ≡ Some x
      → Takes is_table sp.table (sp.table left (join_words (join_of.Left outer) (sp.table right ts))) x
  left_sound left outer right ts x gl gr h =
      let b = bind_ok (read.on e c q j ts) (read.left_joined e c q j left outer right) x h in
      let p = on_sound ts b.0 b.1 in
      let m = left_at (cond_without_sub b.0.0) left outer right b.0.0 b.0.1 x gl gr p.grammatical refl b.2 in
      record { grammatical = m.grammatical; tokens = ap (λ u. sp.table left (join_words (join_of.Left outer) (sp.table right u))) p.tokens ∙ m.tokens }

  join_after_sound : (left : s.TableRef) (kind : JoinKind) (ts : List Token) (x : s.TableRef × List Token) → is_table left ≡ true → read.join_after e c q j left kind ts ≡ Some x
      → Takes is_table sp.table (sp.table left (join_words kind ts)) x
  join_after_sound left (join_of.Inner inner) ts x g h =
      let b = bind_ok (read.tprim e c q j ts) (λ right. λ us. read.on e c q j us >>= (λ y. λ vs. Some (s.join left inner right y, vs))) x h in
      let p = tprim_sound ts b.0 b.1 in
      let m = inner_sound left inner b.0.0 b.0.1 x g p.grammatical b.2 in
      record { grammatical = m.grammatical; tokens = ap (λ u. sp.table left (join_words (join_of.Inner inner) u)) p.tokens ∙ m.tokens }
  join_after_sound left (join_of.Left outer) ts x g h =
      let b = bind_ok (read.tprim e c q j ts) (λ right. λ us. read.on e c q j us >>= read.left_joined e c q j left outer right) x h in
      let p = tprim_sound ts b.0 b.1 in
      let m = left_sound left outer b.0.0 b.0.1 x g p.grammatical b.2 in
      record { grammatical = m.grammatical; tokens = ap (λ u. sp.table left (join_words (join_of.Left outer) u)) p.tokens ∙ m.tokens }
  join_after_sound left join_of.Cross ts x g h =
      let b = bind_ok (read.tprim e c q j ts) (λ right. λ us. Some (s.cross_join left right, us)) x h in
      let p = tprim_sound ts b.0 b.1 in
      found is_table sp.table _ (s.cross_join left b.0.0, b.0.1) x
      (record { grammatical = and_true _ _ g p.grammatical; tokens = ap (λ u. sp.table left (join_words join_of.Cross u)) p.tokens }) b.2

  join_turn : (o : Parsed JoinKind) (n : ℕ) (left : s.TableRef) (ts : List Token) (x : s.TableRef × List Token)
      → ((l : s.TableRef) (us : List Token) → is_table l ≡ true → read.more_joins e c q j n l us ≡ Some x → Takes is_table sp.table (sp.table l us) x)
      → is_table left ≡ true → join_at ts ≡ o
      → elim o as (λ _. Parsed s.TableRef) [ None ↦ Some (left, ts) | Some r ↦ read.join_after e c q j left r.0 r.1 >>= read.more_joins e c q j n ] ≡ Some x
      → Takes is_table sp.table (sp.table left ts) x
  join_turn None n left ts x more g a h = found is_table sp.table _ (left, ts) x (record { grammatical = g; tokens = refl }) h
  join_turn (Some kind) n left ts x more g a h =
      let b = bind_ok (read.join_after e c q j left kind.0 kind.1) (read.more_joins e c q j n) x h in
      let p = join_after_sound left kind.0 kind.1 b.0 g b.1 in
      let m = more b.0.0 b.0.1 p.grammatical b.2 in
      record { grammatical = m.grammatical; tokens = ap (sp.table left) (word.join_sound ts kind a) ∙ p.tokens ∙ m.tokens }

  joins_sound : (n : ℕ) (left : s.TableRef) (ts : List Token) (x : s.TableRef × List Token) → is_table left ≡ true → read.more_joins e c q j n left ts ≡ Some x
      → Takes is_table sp.table (sp.table left ts) x
  joins_sound zero left ts x g h = found is_table sp.table _ (left, ts) x (record { grammatical = g; tokens = refl }) h
  joins_sound (suc n) left ts x g h = join_turn (join_at ts) n left ts x (λ l us gl hl. joins_sound n l us x gl hl) g refl h

  pub tref_sound : (ts : List Token) (x : s.TableRef × List Token) → read.tref e c q j ts ≡ Some x → Takes is_table sp.table ts x
  tref_sound ts x h =
      let b = bind_ok (read.tprim e c q j ts) (read.more_joins e c q j (length ts)) x h in
      let p = tprim_sound ts b.0 b.1 in
      let m = joins_sound (length ts) b.0.0 b.0.1 x (and_ok (is_tprim b.0.0) _ p.grammatical).1 b.2 in
      record { grammatical = m.grammatical; tokens = p.tokens ∙ m.tokens }

  -- ---- FROM

  more_tables_sound : (n : ℕ) (ts : List Token) (x : s.TableRefs × List Token) → read.more_tables e c q j n ts ≡ Some x → Takes are_tables sp.more_tables ts x
  more_tables_sound zero ts x h = found are_tables sp.more_tables _ (s.no_table, ts) x (record { grammatical = refl; tokens = refl }) h
  more_tables_sound (suc n) (t.Comma ∷ ts) x h =
      let b = bind_ok (read.tref e c q j ts) (λ y. λ us. read.more_tables e c q j n us >>= (λ ys. λ vs. Some (s.one_table y ys, vs))) x h in
      let m = bind_ok (read.more_tables e c q j n b.0.1) (λ ys. λ vs. Some (s.one_table b.0.0 ys, vs)) x b.2 in
      let first = tref_sound ts b.0 b.1 in
      let rest = more_tables_sound n b.0.1 m.0 m.1 in
      found are_tables sp.more_tables _ (s.one_table b.0.0 m.0.0, m.0.1) x
      (record { grammatical = and_true _ _ first.grammatical rest.grammatical; tokens = ap (λ u. t.Comma ∷ u) (first.tokens ∙ ap (sp.table b.0.0) rest.tokens) }) m.2
  more_tables_sound (suc n) ts x h = found are_tables sp.more_tables _ (s.no_table, ts) x (record { grammatical = refl; tokens = refl }) h

  tables_sound : (ts : List Token) (x : s.TableRefs × List Token) → read.tables e c q j ts ≡ Some x → Takes ok_tables sp.tables ts x
  tables_sound ts x h =
      let b = bind_ok (read.tref e c q j ts) (λ y. λ us. read.more_tables e c q j (length us) us >>= (λ ys. λ vs. Some (s.one_table y ys, vs))) x h in
      let m = bind_ok (read.more_tables e c q j (length b.0.1) b.0.1) (λ ys. λ vs. Some (s.one_table b.0.0 ys, vs)) x b.2 in
      let first = tref_sound ts b.0 b.1 in
      let rest = more_tables_sound (length b.0.1) b.0.1 m.0 m.1 in
      found ok_tables sp.tables _ (s.one_table b.0.0 m.0.0, m.0.1) x
      (record { grammatical = and_true _ _ first.grammatical rest.grammatical; tokens = first.tokens ∙ ap (sp.table b.0.0) rest.tokens }) m.2

  pub from_sound : (ts : List Token) (x : s.TableRefs × List Token) → read.from e c q j ts ≡ Some x → Takes ok_tables spell_from ts x
  from_sound (t.Key k.From ∷ ts) x h =
      let p = tables_sound ts x h in
      record { grammatical = p.grammatical; tokens = ap (λ u. t.Key k.From ∷ u) p.tokens }
  from_sound _ x h = absurd (none_some x h)
