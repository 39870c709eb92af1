-- Views that nest no deeper than a number, and the views that these read.
use Rattle.std.proofs.Common.{◌≡◌, ◌∙◌, ℕ, suc, Bool, true, false, ◌&&◌, List, Option, Some, None, refl, sym, ap}
use Rattle.std.specs.Prelude.{⊤}
use Rattle.std.specs.List.{list_any}
use Rattle.std.specs.Cmp.Lexicographic.{same_text}
use Rattle.sql_ast.specs.Declarations.{Declared, view_named}
use Rattle.sql_ast.specs.Names.{contains, same_name}
use Rattle.sql_ast.specs.Syntax as s
use Rattle.sql_catalog.specs.Nesting.{nests_over, reader_of, readers_of}
use Rattle.sql_catalog.specs.TableNames as t
use Rattle.sql_catalog.specs.declared.reader.Reader.{Reader}
use Rattle.sql_catalog.proofs.EachLaws.{Each, each_in, found_any, found_passes}
use Rattle.sql_catalog.proofs.NestingLaws.{any_filter}

and_passed : (a b : Bool) → (a && b) ≡ false → a ≡ true → b ≡ false
and_passed true b h e = h
and_passed false b h e = absurd (cc)

module _ (catalog : Declared) where
  -- the view of a name nests no deeper than this; there may be none
  abbrev pub Shallow : ℕ → Option s.ViewDecl → Type 0
  Shallow depth None = ⊤
  Shallow depth (Some view) = nests_over (readers_of catalog.views) depth (reader_of view) ≡ false

  abbrev pub ShallowName : ℕ → List ℕ → Type 0
  ShallowName depth name = Shallow depth (view_named catalog.views name)

  pub all_shallow : (depth : ℕ) → list_any (nests_over (readers_of catalog.views) depth) (readers_of catalog.views) ≡ false → (name : List ℕ) → ShallowName depth name
  all_shallow depth none name = at (view_named catalog.views name) refl
    where
      at : (o : Option s.ViewDecl) → view_named catalog.views name ≡ o → Shallow depth o
      at None e = tt
      at (Some view) e = found_any (nests_over (readers_of catalog.views) depth) reader_of (λ (v : s.ViewDecl). same_name v.name name) catalog.views view e none

  -- the views that a view reads nest one less
  pub nested : (depth : ℕ) (view : s.ViewDecl) → Shallow (suc depth) (Some view) → Each (ShallowName depth) (t.in_query view.query)
  nested depth view none = each_in (ShallowName depth) (t.in_query view.query) (λ name there. at name there (view_named catalog.views name) refl)
    where
      at : (name : List ℕ) → contains (t.in_query view.query) name ≡ true → (o : Option s.ViewDecl) → view_named catalog.views name ≡ o → Shallow depth o
      at name there None e = tt
      at name there (Some w) e =
          let called : w.name ≡ name = same_text w.name name (sym (found_passes (λ (v : s.ViewDecl). same_name v.name name) catalog.views w e)) in
          and_passed (contains (t.in_query view.query) w.name) (nests_over (readers_of catalog.views) depth (reader_of w))
          (found_any (λ (x : Reader). contains (t.in_query view.query) x.name && nests_over (readers_of catalog.views) depth x) reader_of (λ (v : s.ViewDecl). same_name v.name name) catalog.views w e
          (sym (any_filter (λ (x : Reader). contains (t.in_query view.query) x.name) (nests_over (readers_of catalog.views) depth) (readers_of catalog.views)) ∙ none))
          (ap (contains (t.in_query view.query)) called ∙ there)
