-- What is read is spelled so: the text of a query.
use Rattle.std.proofs.Common.{◌≡◌, ℕ, zero, suc, Bool, true, false, List, [], ◌∷◌, Option, Some, None, refl, ◌∙◌, ap, subst, length}
use Rattle.sql_text.specs.declared.key.Key.TheVariants as k
use Rattle.sql_text.specs.declared.token.Token.{Token}
use Rattle.sql_text.specs.declared.token.Token.TheVariants as t
use Rattle.sql_ast.specs.declared.text.Sort.{Sort}
use Rattle.sql_ast.specs.declared.text.SortKey.{SortKey}
use Rattle.sql_ast.specs.declared.text.SortKey.TheVariants as sort_key
use Rattle.sql_ast.specs.Grammatical.{is_query, SpellsQuery}
use Rattle.sql_ast.specs.Spelling as sp
use Rattle.sql_ast.specs.Syntax as s
use Rattle.sql_parser.specs.Read.{query}
use Rattle.sql_parser.specs.ReadText as read
use Rattle.sql_parser.specs.ReadText.{direction_at, last_semicolon, ended, ordered, query_end, query_tree}
use Rattle.sql_parser.specs.Words.{Parsed, ◌>>=◌}
use Rattle.sql_parser.proofs.Steps.{some_inj, none_some, bind_ok}
use Rattle.sql_parser.proofs.Sound.{query_reads}
use Rattle.sql_parser.proofs.SoundWords.{told, sign}

-- ---- ORDER BY

direction_sound : (ts : List Token) → ts ≡ sp.direction (direction_at ts).0 (direction_at ts).1
direction_sound (t.Key k.Asc ∷ ts) = refl
direction_sound (t.Key k.Desc ∷ ts) = refl
direction_sound ts = refl

sort_key_sound : (ts : List Token) (x : SortKey × List Token) → read.sort_key_at ts ≡ Some x → ts ≡ sp.sort_token x.0 ∷ x.1
sort_key_sound (t.Name n ∷ ts) x h = told (sign sp.sort_token) _ (sort_key.Name n, ts) x refl h
sort_key_sound (t.Number n ∷ ts) x h = told (sign sp.sort_token) _ (sort_key.Number n, ts) x refl h
sort_key_sound _ x h = absurd (none_some x h)

sort_sound : (ts : List Token) (x : Sort × List Token) → read.sort ts ≡ Some x → ts ≡ sp.sort x.0 x.1
sort_sound ts x h =
    let b = bind_ok (read.sort_key_at ts) (λ y. λ us. Some (record { key = y; direction = (direction_at us).0 }, (direction_at us).1)) x h in
    told sp.sort _ (record { key = b.0.0; direction = (direction_at b.0.1).0 }, (direction_at b.0.1).1) x
    (sort_key_sound ts b.0 b.1 ∙ ap (λ us. sp.sort_token b.0.0 ∷ us) (direction_sound b.0.1)) b.2

more_sorts_sound : (n : ℕ) (ts : List Token) (x : List Sort × List Token) → read.more_sorts n ts ≡ Some x → ts ≡ sp.more_sorts x.0 x.1
more_sorts_sound zero ts x h = told sp.more_sorts _ ([], ts) x refl h
more_sorts_sound (suc n) (t.Comma ∷ ts) x h =
    let b = bind_ok (read.sort ts) (λ y. λ us. read.more_sorts n us >>= (λ ys. λ vs. Some (y ∷ ys, vs))) x h in
    let m = bind_ok (read.more_sorts n b.0.1) (λ ys. λ vs. Some (b.0.0 ∷ ys, vs)) x b.2 in
    let first = sort_sound ts b.0 b.1 in
    let rest = more_sorts_sound n b.0.1 m.0 m.1 in
    told sp.more_sorts _ (b.0.0 ∷ m.0.0, m.0.1) x (ap (λ us. t.Comma ∷ us) (first ∙ ap (sp.sort b.0.0) rest)) m.2
more_sorts_sound (suc n) ts x h = told sp.more_sorts _ ([], ts) x refl h

sorts_sound : (ts : List Token) (x : List Sort × List Token) → read.sorts ts ≡ Some x → t.Key k.Order ∷ t.Key k.By ∷ ts ≡ sp.order_by x.0 x.1
sorts_sound ts x h =
    let b = bind_ok (read.sort ts) (λ y. λ us. read.more_sorts (length us) us >>= (λ ys. λ vs. Some (y ∷ ys, vs))) x h in
    let m = bind_ok (read.more_sorts (length b.0.1) b.0.1) (λ ys. λ vs. Some (b.0.0 ∷ ys, vs)) x b.2 in
    let first = sort_sound ts b.0 b.1 in
    let rest = more_sorts_sound (length b.0.1) b.0.1 m.0 m.1 in
    told sp.order_by _ (b.0.0 ∷ m.0.0, m.0.1) x (ap (λ us. t.Key k.Order ∷ t.Key k.By ∷ us) (first ∙ ap (sp.sort b.0.0) rest)) m.2

order_by_sound : (ts : List Token) (x : List Sort × List Token) → read.order_by ts ≡ Some x → ts ≡ sp.order_by x.0 x.1
order_by_sound (t.Key k.Order ∷ t.Key k.By ∷ ts) x h = sorts_sound ts x h
order_by_sound ts x h = told sp.order_by _ ([], ts) x refl h

-- ---- the end

semicolon_sound : (ts : List Token) (b : Bool) → last_semicolon ts ≡ Some b → ts ≡ sp.semicolon b
semicolon_sound [] b h = ap sp.semicolon (some_inj false b h)
semicolon_sound (t.Semicolon ∷ []) b h = ap sp.semicolon (some_inj true b h)
semicolon_sound _ b h = absurd (none_some b h)

-- the parts of a text, from how each was read
ended_ok : (q : s.Query) (order : List Sort) (o : Option Bool) (x : s.QueryText) → ended q order o ≡ Some x → (x.query ≡ q) × (x.order ≡ order) × (o ≡ Some x.semicolon)
ended_ok q order None x h = absurd (none_some x h)
ended_ok q order (Some b) x h =
    subst (λ y. (y.query ≡ q) × (y.order ≡ order) × (Some b ≡ Some y.semicolon)) (some_inj (record { query = q; order = order; semicolon = b }) x h) (refl, refl, refl)

ordered_sound : (q : s.Query) (f : Parsed (List Sort)) (ts : List Token) (x : s.QueryText) → read.order_by ts ≡ f → ordered q f ≡ Some x
    → (x.query ≡ q) × (ts ≡ sp.order_by x.order (sp.semicolon x.semicolon))
ordered_sound q None ts x look h = absurd (none_some x h)
ordered_sound q (Some r) ts x look h =
    let b = ended_ok q r.0 (last_semicolon r.1) x h in
    let p = order_by_sound ts r look ∙ ap (sp.order_by r.0) (semicolon_sound r.1 x.semicolon b.2) in
    (b.0, rw b.1 p)

query_end_sound : (f : Parsed s.Query) (ts : List Token) (x : s.QueryText) → query 65 ts ≡ f → query_end f ≡ Some x → SpellsQuery x ts
query_end_sound None ts x look h = absurd (none_some x h)
query_end_sound (Some r) ts x look h =
    let m = ordered_sound r.0 (read.order_by r.1) r.1 x refl h in
    let p = query_reads 65 ts r.0 r.1 look in
    record { grammatical = ap is_query m.0 ∙ p.0; spelled = p.1 ∙ rw m.0 (ap (sp.query r.0) m.1) }

-- a text that was read is spelled by its tree, and the tree is the grammar's
pub query_sound : (ts : List Token) (x : s.QueryText) → query_tree ts ≡ Some x → SpellsQuery x ts
unfolding query_tree
query_sound ts x h = query_end_sound (query 65 ts) ts x refl h
