-- What is read of a schema is spelled so.
use Rattle.std.proofs.Common.{◌≡◌, ℕ, zero, suc, Bool, true, List, [], ◌∷◌, Option, Some, None, refl, sym, ◌∙◌, ap, length}
use Rattle.std.specs.Option.{option_map, option_and_then}
use Rattle.std.specs.Prelude.{◌&&◌}
use Rattle.sql_text.specs.declared.key.Key.TheVariants as k
use Rattle.sql_text.specs.declared.token.Token.{Token}
use Rattle.sql_text.specs.declared.token.Token.TheVariants as t
use Rattle.sql_ast.specs.declared.schema.Element.{Element}
use Rattle.sql_ast.specs.declared.schema.Element.TheVariants as el
use Rattle.sql_ast.specs.Grammatical.{SpellsSchema, is_query, is_element, are_elements, is_statement, are_statements, some_of}
use Rattle.sql_ast.specs.Spelling as sp
use Rattle.sql_ast.specs.Syntax as s
use Rattle.sql_parser.specs.ReadSchema as r
use Rattle.sql_parser.specs.ReadSchema.{schema_tree}
use Rattle.sql_parser.specs.Words as w
use Rattle.sql_parser.specs.Words.{Parsed, ◌>>=◌, closed}
use Rattle.sql_parser.proofs.Steps.{some_inj, none_some, bind_ok, closed_ok, and_true}
use Rattle.sql_parser.proofs.SoundSteps.{Takes, Made, in_bracket, inside, found}
use Rattle.sql_parser.proofs.SoundWords.{names_sound, column_list_sound, data_type_sound}
use Rattle.sql_parser.proofs.Sound.{query_reads}

map_ok : {A B : Type 0} (f : A → B) (m : Option A) (y : B) → option_map f m ≡ Some y → (x : A) × (m ≡ Some x) × (y ≡ f x)
map_ok f None y h = absurd (none_some y h)
map_ok f (Some x) y h = (x, refl, sym (some_inj (f x) y h))

-- names before ")"
names_in : {B : Type 0} (f : List (List ℕ) → B) (ts : List Token) (y : B × List Token) → (w.names ts >>= closed f) ≡ Some y → Made some_of (in_bracket sp.names) f ts y
names_in f ts y h = inside some_of sp.names w.names (record { holds = names_sound }) f ts y h

-- ---- tables

constraints_sound : (ts : List Token) → ts ≡ sp.constraints (r.constraints ts).0 (r.constraints ts).1
constraints_sound (t.Key k.Not ∷ t.Key k.Null ∷ ts) = ap (λ us. t.Key k.Not ∷ t.Key k.Null ∷ us) (constraints_sound ts)
constraints_sound (t.Key k.Primary ∷ t.Key k.Key ∷ ts) = ap (λ us. t.Key k.Primary ∷ t.Key k.Key ∷ us) (constraints_sound ts)
constraints_sound (t.Key k.Unique ∷ ts) = ap (λ us. t.Key k.Unique ∷ us) (constraints_sound ts)
constraints_sound ts = refl

column_sound : (n : List ℕ) (ts : List Token) (x : Element × List Token) → r.column_decl n ts ≡ Some x → Takes is_element sp.element (t.Name n ∷ ts) x
column_sound n ts x h =
    let b = bind_ok (w.data_type ts) (λ d. λ us. Some (el.Column (record { name = n; data_type = d; constraints = (r.constraints us).0 }), (r.constraints us).1)) x h in
    let d = data_type_sound ts b.0 b.1 in
    found is_element sp.element _ (el.Column (record { name = n; data_type = b.0.0; constraints = (r.constraints b.0.1).0 }), (r.constraints b.0.1).1) x
    (record { grammatical = refl; tokens = ap (λ us. t.Name n ∷ us) (d ∙ ap (sp.data_type b.0.0) (constraints_sound b.0.1)) }) b.2

primary_sound : (ts : List Token) (x : Element × List Token) → r.key_names el.PrimaryKey ts ≡ Some x → Takes is_element sp.element (t.Key k.Primary ∷ t.Key k.Key ∷ ts) x
primary_sound (t.LeftParen ∷ ts) x h =
    let i = names_in el.PrimaryKey ts x h in
    record { grammatical = ap is_element i.is ∙ i.grammatical; tokens = rw i.is (ap (λ us. t.Key k.Primary ∷ t.Key k.Key ∷ t.LeftParen ∷ us) i.tokens) }
primary_sound _ x h = absurd (none_some x h)

unique_sound : (ts : List Token) (x : Element × List Token) → r.key_names el.Unique ts ≡ Some x → Takes is_element sp.element (t.Key k.Unique ∷ ts) x
unique_sound (t.LeftParen ∷ ts) x h =
    let i = names_in el.Unique ts x h in
    record { grammatical = ap is_element i.is ∙ i.grammatical; tokens = rw i.is (ap (λ us. t.Key k.Unique ∷ t.LeftParen ∷ us) i.tokens) }
unique_sound _ x h = absurd (none_some x h)

element_sound : (ts : List Token) (x : Element × List Token) → r.element ts ≡ Some x → Takes is_element sp.element ts x
element_sound (t.Name n ∷ ts) x h = column_sound n ts x h
element_sound (t.Key k.Primary ∷ t.Key k.Key ∷ ts) x h = primary_sound ts x h
element_sound (t.Key k.Unique ∷ ts) x h = unique_sound ts x h
element_sound _ x h = absurd (none_some x h)

more_elements_sound : (n : ℕ) (ts : List Token) (x : List Element × List Token) → r.more_elements n ts ≡ Some x → Takes are_elements sp.more_elements ts x
more_elements_sound zero ts x h = found are_elements sp.more_elements _ ([], ts) x (record { grammatical = refl; tokens = refl }) h
more_elements_sound (suc n) (t.Comma ∷ ts) x h =
    let b = bind_ok (r.element ts) (λ y. λ us. r.more_elements n us >>= (λ ys. λ vs. Some (y ∷ ys, vs))) x h in
    let m = bind_ok (r.more_elements n b.0.1) (λ ys. λ vs. Some (b.0.0 ∷ ys, vs)) x b.2 in
    let first = element_sound ts b.0 b.1 in
    let rest = more_elements_sound n b.0.1 m.0 m.1 in
    found are_elements sp.more_elements _ (b.0.0 ∷ m.0.0, m.0.1) x
    (record {
      grammatical = and_true _ _ first.grammatical rest.grammatical;
      tokens = ap (λ us. t.Comma ∷ us) (first.tokens ∙ ap (sp.element b.0.0) rest.tokens);
    }) m.2
more_elements_sound (suc n) ts x h = found are_elements sp.more_elements _ ([], ts) x (record { grammatical = refl; tokens = refl }) h

abbrev OkElements : List Element → Bool
OkElements xs = some_of xs && are_elements xs

elements_sound : (ts : List Token) (x : List Element × List Token) → r.elements ts ≡ Some x → Takes OkElements sp.elements ts x
elements_sound ts x h =
    let b = bind_ok (r.element ts) (λ y. λ us. r.more_elements (length us) us >>= (λ ys. λ vs. Some (y ∷ ys, vs))) x h in
    let m = bind_ok (r.more_elements (length b.0.1) b.0.1) (λ ys. λ vs. Some (b.0.0 ∷ ys, vs)) x b.2 in
    let first = element_sound ts b.0 b.1 in
    let rest = more_elements_sound (length b.0.1) b.0.1 m.0 m.1 in
    found OkElements sp.elements _ (b.0.0 ∷ m.0.0, m.0.1) x
    (record { grammatical = and_true _ _ first.grammatical rest.grammatical; tokens = first.tokens ∙ ap (sp.element b.0.0) rest.tokens }) m.2

table_sound : (ts : List Token) (x : s.Statement × List Token) → r.table_decl ts ≡ Some x → Takes is_statement sp.statement (t.Key k.Create ∷ t.Key k.Table ∷ ts) x
table_sound (t.Name n ∷ t.LeftParen ∷ ts) x h =
    let b = bind_ok (r.elements ts) (closed (λ xs. s.table (record { name = n; elements = xs }))) x h in
    let list = elements_sound ts b.0 b.1 in
    let e = closed_ok (λ xs. s.table (record { name = n; elements = xs })) b.0.0 b.0.1 x b.2 in
    record {
      grammatical = ap is_statement e.0 ∙ list.grammatical;
      tokens = rw e.0 (ap (λ us. t.Key k.Create ∷ t.Key k.Table ∷ t.Name n ∷ t.LeftParen ∷ us) (list.tokens ∙ ap (sp.elements b.0.0) e.1));
    }
table_sound _ x h = absurd (none_some x h)

-- ---- statements

semicolon_sound : (x : s.Statement) (ts : List Token) (y : s.Statement × List Token) → r.semicolon x ts ≡ Some y → (y.0 ≡ x) × (ts ≡ t.Semicolon ∷ y.1)
semicolon_sound x (t.Semicolon ∷ ts) y h = (cc, cc)
semicolon_sound x _ y h = absurd (none_some y h)

turn_ok : (n : ℕ) (m : Parsed s.Statement) (xs : List s.Statement) → option_and_then (λ x. option_map (λ xs. x.0 ∷ xs) (r.statements n x.1)) m ≡ Some xs
    → (y : s.Statement × List Token) × (ys : List s.Statement) × (m ≡ Some y) × (r.statements n y.1 ≡ Some ys) × (xs ≡ y.0 ∷ ys)
turn_ok n None xs h = absurd (none_some xs h)
turn_ok n (Some y) xs h = let ys = map_ok (λ ys. y.0 ∷ ys) (r.statements n y.1) xs h in (y, ys.0, refl, ys.1, ys.2)

view_query_sound : (ts : List Token) (x : s.Query × List Token) → r.view_query ts ≡ Some x → (is_query x.0 ≡ true) × (ts ≡ t.Key k.As ∷ sp.query x.0 x.1)
view_query_sound (t.Key k.As ∷ ts) x h = let q = query_reads 65 ts x.0 x.1 h in (q.0, ap (λ us. t.Key k.As ∷ us) q.1)
view_query_sound _ x h = absurd (none_some x h)

view_sound : (ts : List Token) (x : s.Statement × List Token) → r.view_decl ts ≡ Some x → Takes is_statement sp.statement (t.Key k.Create ∷ t.Key k.View ∷ ts) x
view_sound (t.Name n ∷ ts) x h =
    let b = bind_ok (w.column_list ts) (λ ns. λ us. r.view_query us >>= (λ q. λ vs. Some (s.view (record { name = n; columns = ns; query = q }), vs))) x h in
    let m = bind_ok (r.view_query b.0.1) (λ q. λ vs. Some (s.view (record { name = n; columns = b.0.0; query = q }), vs)) x b.2 in
    let columns = column_list_sound ts b.0 b.1 in
    let q = view_query_sound b.0.1 m.0 m.1 in
    found is_statement sp.statement _ (s.view (record { name = n; columns = b.0.0; query = m.0.0 }), m.0.1) x
    (record {
      grammatical = q.0;
      tokens = ap (λ us. t.Key k.Create ∷ t.Key k.View ∷ t.Name n ∷ us) (columns ∙ ap (sp.column_list b.0.0) q.1);
    }) m.2
view_sound _ x h = absurd (none_some x h)

statement_sound : (ts : List Token) (x : s.Statement × List Token) → r.statement ts ≡ Some x → Takes is_statement sp.statement ts x
statement_sound (t.Key k.Create ∷ t.Key k.Table ∷ ts) x h = table_sound ts x h
statement_sound (t.Key k.Create ∷ t.Key k.View ∷ ts) x h = view_sound ts x h
statement_sound _ x h = absurd (none_some x h)

ended_sound : (ts : List Token) (x : s.Statement × List Token) → r.ended ts ≡ Some x → (is_statement x.0 ≡ true) × (ts ≡ sp.statement x.0 (t.Semicolon ∷ x.1))
ended_sound ts x h =
    let b = bind_ok (r.statement ts) r.semicolon x h in
    let one = statement_sound ts b.0 b.1 in
    let e = semicolon_sound b.0.0 b.0.1 x b.2 in
    rw e.0 (one.grammatical, one.tokens ∙ ap (sp.statement b.0.0) e.1)

statements_sound : (n : ℕ) (ts : List Token) (xs : List s.Statement) → r.statements n ts ≡ Some xs → (are_statements xs ≡ true) × (ts ≡ sp.statements xs)
statements_sound n [] xs h = rw (sym (some_inj [] xs h)) (refl, refl)
statements_sound zero (u ∷ ts) xs h = absurd (none_some xs h)
statements_sound (suc n) (u ∷ ts) xs h =
    let b = turn_ok n (r.ended (u ∷ ts)) xs h in
    let first = ended_sound (u ∷ ts) b.0 b.2 in
    let rest = statements_sound n b.0.1 b.1 b.3 in
    rw b.4 (and_true _ _ first.0 rest.0, first.1 ∙ ap (λ us. sp.statement b.0.0 (t.Semicolon ∷ us)) rest.1)

pub schema_sound : (ts : List Token) (x : s.Schema) → schema_tree ts ≡ Some x → SpellsSchema x ts
unfolding schema_tree
schema_sound ts x h =
    let read = map_ok (λ xs. record { statements = xs }) (r.statements (length ts) ts) x h in
    let all = statements_sound (length ts) ts read.0 read.1 in
    rw read.2 (record { grammatical = all.0; spelled = all.1 })
