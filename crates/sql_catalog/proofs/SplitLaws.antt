-- Laws of the tables and views among statements.
use Rattle.std.proofs.Common.{◌≡◌, refl, sym, ap, ◌∙◌, List, [], ◌∷◌, ◌++◌, map, reverse}
use Rattle.std.proofs.lemmas.List.{append_assoc, reverse-append, reverse-reverse}
use Rattle.sql_ast.specs.declared.schema.TableDecl.{TableDecl}
use Rattle.sql_ast.specs.Shown as shown
use Rattle.sql_ast.specs.Syntax as s
use Rattle.sql_ast.specs.declared.schema.Statement.{Statement}
use Rattle.sql_ast.specs.declared.schema.Statement.TheVariants.{Table, View}
use Rattle.sql_ast.specs.Declarations.{tables_of, views_of}

-- an item that moves from the end of one list to the end of another
pub item_moved : {X : Type 0} (old new : List X) (x : X) (items next all : List X) → old ≡ new ++ x ∷ [] → next ≡ items ++ x ∷ [] → items ++ reverse old ≡ all → next ++ reverse new ≡ all
item_moved old new x items next all e f h =
    ap (λ ys. ys ++ reverse new) f ∙ append_assoc items (x ∷ []) (reverse new) ∙ ap (λ ys. items ++ ys) (sym (ap (λ ys. reverse ys) e ∙ reverse-append new (x ∷ []))) ∙ h

one_table : (x : Statement) (ys : List Statement) → tables_of (map shown.statement (x ∷ ys)) ≡ tables_of (shown.statement x ∷ []) ++ tables_of (map shown.statement ys)
one_table (Table t) ys = refl
one_table (View v) ys = refl

one_view : (x : Statement) (ys : List Statement) → views_of (map shown.statement (x ∷ ys)) ≡ views_of (shown.statement x ∷ []) ++ views_of (map shown.statement ys)
one_view (Table t) ys = refl
one_view (View v) ys = refl

-- what is left, where the last is taken
first_left : (old new : List Statement) (x : Statement) → old ≡ new ++ x ∷ [] → reverse old ≡ x ∷ reverse new
first_left old new x e = ap (λ ys. reverse ys) e ∙ reverse-append new (x ∷ [])

pub tables_first : (left xs : List Statement) (tables : List TableDecl) → left ≡ reverse xs → tables ≡ [] → tables ++ tables_of (map shown.statement (reverse left)) ≡ tables_of (map shown.statement xs)
tables_first left xs tables e none = rw none (ap (λ ys. tables_of (map shown.statement ys)) (ap (λ ys. reverse ys) e ∙ reverse-reverse xs))

pub views_first : (left xs : List Statement) (views : List s.ViewDecl) → left ≡ reverse xs → views ≡ [] → views ++ views_of (map shown.statement (reverse left)) ≡ views_of (map shown.statement xs)
views_first left xs views e none = rw none (ap (λ ys. views_of (map shown.statement ys)) (ap (λ ys. reverse ys) e ∙ reverse-reverse xs))

pub table_added : (old new : List Statement) (x : Statement) (tables next all : List TableDecl) → old ≡ new ++ x ∷ [] → next ≡ tables ++ tables_of (shown.statement x ∷ [])
    → tables ++ tables_of (map shown.statement (reverse old)) ≡ all → next ++ tables_of (map shown.statement (reverse new)) ≡ all
table_added old new x tables next all e f h =
    let rest = tables_of (map shown.statement (reverse new)) in
    ap (λ ts. ts ++ rest) f ∙ append_assoc tables (tables_of (shown.statement x ∷ [])) rest
    ∙ ap (λ ts. tables ++ ts) (sym (ap (λ ys. tables_of (map shown.statement ys)) (first_left old new x e) ∙ one_table x (reverse new))) ∙ h

pub view_added : (old new : List Statement) (x : Statement) (views next all : List s.ViewDecl) → old ≡ new ++ x ∷ [] → next ≡ views ++ views_of (shown.statement x ∷ [])
    → views ++ views_of (map shown.statement (reverse old)) ≡ all → next ++ views_of (map shown.statement (reverse new)) ≡ all
view_added old new x views next all e f h =
    let rest = views_of (map shown.statement (reverse new)) in
    ap (λ vs. vs ++ rest) f ∙ append_assoc views (views_of (shown.statement x ∷ [])) rest
    ∙ ap (λ vs. views ++ vs) (sym (ap (λ ys. views_of (map shown.statement ys)) (first_left old new x e) ∙ one_view x (reverse new))) ∙ h
