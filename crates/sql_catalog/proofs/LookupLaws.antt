-- Laws of look-ups by name.
use Rattle.std.proofs.Common.{◌≡◌, refl, sym, ap, ◌∙◌, ℕ, Bool, true, false, List, [], ◌∷◌, map, Option, Some, None, Bor}
use Rattle.std.specs.Prelude.{find, option_map, cond}
use Rattle.sql_ast.specs.declared.schema.ViewDecl.{ViewDecl}
use Rattle.sql_ast.specs.Shown as shown
use Rattle.sql_ast.specs.Names.{same_name}
use Rattle.sql_ast.specs.Declarations.{view_named}

pub first_shown : (b : Bool) (v : ViewDecl) (o : Option ViewDecl) → option_map shown.view (cond b (Some v) o) ≡ cond b (Some (shown.view v)) (option_map shown.view o)
first_shown true v o = refl
first_shown false v o = refl

pub find_shown : (views : List ViewDecl) (name : List ℕ) → option_map shown.view (find (λ (v : ViewDecl). same_name v.name name) views) ≡ view_named (map shown.view views) name
find_shown [] name = refl
find_shown (v ∷ vs) name = first_shown (same_name v.name name) v (find (λ (w : ViewDecl). same_name w.name name) vs) ∙ ap (λ o. cond (same_name v.name name) (Some (shown.view v)) o) (find_shown vs name)

pub shown_now : (r : Option (Bor ViewDecl)) → option_map (λ (v : Bor ViewDecl). shown.view v.now) r ≡ option_map shown.view (option_map (λ (v : Bor ViewDecl). v.now) r)
shown_now None = refl
shown_now (Some v) = refl

pub view_found : (r : Option (Bor ViewDecl)) (views : List ViewDecl) (name : List ℕ) → option_map (λ (v : Bor ViewDecl). v.now) r ≡ find (λ (v : ViewDecl). same_name v.name name) views →
    option_map (λ (v : Bor ViewDecl). shown.view v.now) r ≡ view_named (map shown.view views) name
view_found r views name e = shown_now r ∙ (ap (option_map shown.view) e ∙ find_shown views name)
