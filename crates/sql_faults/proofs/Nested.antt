-- Views by their nesting depth.
use Rattle.std.proofs.Common.{◌≡◌, ◌+◌, ℕ, suc, Bool, not, ◌&&◌, ◌||◌, List, [], ◌∷◌, map, filter, Option, refl, ap, inl, inr}
use Rattle.std.proofs.Math.Numerals.{add-one}
use Rattle.std.specs.List.{list_any}
use Rattle.std.proofs.Math.Bool.{and-false, and-true}
use Rattle.std.proofs.lemmas.Bool.{cases_Bool}
use Rattle.sql_ast.specs.Syntax as s
use Rattle.sql_ast.specs.Declarations.{Declared}
use Rattle.sql_ast.specs.Names.{contains}
use Rattle.sql_catalog.specs.Nesting.{nests_over, reader_of, readers_of}
use Rattle.sql_catalog.specs.declared.reader.Reader.{Reader}
use Rattle.sql_meaning.specs.Scopes.{first_of}
use Rattle.sql_faults.specs.Depths.{over, reads_marked, refused_marked}
use Rattle.sql_faults.specs.Scopes.{Heads}
use Rattle.sql_faults.specs.Views.{heads_of, heads_with, refused_among, refused_to, refusal_of, view_head, view_heads, views_at}
use Rattle.sql_faults.specs.declared.view.ViewHead.{ViewHead}

marked-read : (reads : List (List ℕ)) (views : List Reader) (p : Reader → Bool) → reads_marked reads views (map p views) ≡ list_any p (filter (λ (w : Reader). contains reads w.name) views)
marked-read reads [] p = refl
marked-read reads (w ∷ views) p = elim (cases_Bool (contains reads w.name)) [
  | inl e ↦ rw (e, and-true (p w)) (ap (λ b. p w || b) (marked-read reads views p))
  | inr e ↦ rw (e, and-false (p w)) (marked-read reads views p)
]

marks-more : (all : List Reader) (views : List Reader) (n : ℕ) → map (λ (v : Reader). reads_marked v.reads all (over all n)) views ≡ map (nests_over all (suc n)) views
marks-more all [] n = refl
marks-more all (v ∷ views) n = rw (marked-read v.reads all (nests_over all n), marks-more all views n) refl

-- the marks of one more depth
pub over_more : (all : List Reader) (n : ℕ) → map (λ (v : Reader). reads_marked v.reads all (over all n)) all ≡ over all (n + 1)
over_more all n = rw (add-one n) (marks-more all all n)

marked-views : (heads : Heads) (views : List s.ViewDecl) (p q : Reader → Bool)
    → refused_marked heads views (map p (map reader_of views)) (map q (map reader_of views)) ≡ refused_among heads (filter (λ (v : s.ViewDecl). p (reader_of v) && not (q (reader_of v))) views)
marked-views heads [] p q = refl
marked-views heads (v ∷ views) p q = elim (cases_Bool (p (reader_of v) && not (q (reader_of v)))) [
  | inl e ↦ rw (e) (ap (first_of (refusal_of heads v)) (marked-views heads views p q))
  | inr e ↦ rw (e) (marked-views heads views p q)
]

-- the views of one more depth
pub views_more : (catalog : Declared) (depth : ℕ) (below : List ViewHead) → below ≡ views_at catalog depth → map (view_head (heads_with catalog below)) catalog.views ≡ views_at catalog (depth + 1)
views_more catalog depth below h = rw (add-one depth) (ap (λ (views : List ViewHead). map (view_head (heads_with catalog views)) catalog.views) h)

-- the refusal of one more depth
pub refused_more : (catalog : Declared) (n : ℕ)
    → first_of (refused_to catalog n) (refused_marked (heads_of catalog) catalog.views (over (readers_of catalog.views) n) (over (readers_of catalog.views) (n + 1))) ≡ refused_to catalog (n + 1)
refused_more catalog n = rw (add-one n) (ap (first_of (refused_to catalog n)) (marked-views (heads_of catalog) catalog.views (nests_over (readers_of catalog.views) n) (nests_over (readers_of catalog.views) (suc n))))

-- one more depth, from what the lesser ones have
pub refused_step : (catalog : Declared) (n : ℕ) (views : List ViewHead) (all : List Reader) (found : Option (List ℕ × ℕ)) (marks deeper : List Bool)
    → views ≡ view_heads catalog → all ≡ readers_of catalog.views → found ≡ refused_to catalog n → marks ≡ over all n → deeper ≡ over all (n + 1)
    → first_of found (refused_marked (heads_with catalog views) catalog.views marks deeper) ≡ refused_to catalog (n + 1)
refused_step catalog n views all found marks deeper views_are all_are found_is marks_are deeper_are = rw (deeper_are, marks_are, found_is, all_are, views_are) (refused_more catalog n)
