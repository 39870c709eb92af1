-- The lists in a tree are those that the code has.
use Rattle.std.proofs.Common.{◌≡◌, refl, List, ◌∷◌, ap, ◌∙◌, Vec}
use Rattle.qgm_terms.specs.Shown.{choices, cond, conds, links, row_choices, row_conds, row_links, term}
use Rattle.qgm_terms.specs.Terms as t
use Rattle.qgm_terms.specs.declared.tree.Arm.{Arm}
use Rattle.qgm_terms.specs.declared.tree.Gc.{Gc, Row_of-Gc, end_of-Gc, more_of-Gc, items-the_row-Gc, items_hidden-the_row-Gc-0}
use Rattle.qgm_terms.specs.declared.tree.Gc.TheBlock.{hidden-the_row-Gc-0, hidden-the_row-Link-1, hidden-the_row-Arm-2}
use Rattle.qgm_terms.specs.declared.tree.Gx.{Row_of-Link, end_of-Link, more_of-Link, Row_of-Arm, end_of-Arm, more_of-Arm}
use Rattle.qgm_terms.specs.declared.tree.Gx.{items-the_row-Link, items-the_row-Arm, items_hidden-the_row-Link-1, items_hidden-the_row-Arm-2}
use Rattle.qgm_terms.specs.declared.tree.Link.{Link}

links_items : (n : _) (row : Row_of-Link n) → row_links row ≡ links (items-the_row-Link n row)
links_items _ end_of-Link = refl
links_items _ (more_of-Link op a ls) = ap (λ (xs : List t.Link). (record { op = op; right = term a }) ∷ xs) (links_items _ ls)

choices_items : (n : _) (row : Row_of-Arm n) → row_choices row ≡ choices (items-the_row-Arm n row)
choices_items _ end_of-Arm = refl
choices_items _ (more_of-Arm c a s) = ap (λ (xs : List t.Choice). (record { when = cond c; then = term a }) ∷ xs) (choices_items _ s)

conds_items : (n : _) (row : Row_of-Gc n) → row_conds row ≡ conds (items-the_row-Gc n row)
conds_items _ end_of-Gc = refl
conds_items _ (more_of-Gc p ps) = ap (λ (xs : List t.Cond). cond p ∷ xs) (conds_items _ ps)

pub links_hidden : (v : Vec Link _) → row_links (hidden-the_row-Link-1 v) ≡ links v.items
links_hidden v = links_items _ (hidden-the_row-Link-1 v) ∙ ap links (items_hidden-the_row-Link-1 v)

pub choices_hidden : (v : Vec Arm _) → row_choices (hidden-the_row-Arm-2 v) ≡ choices v.items
choices_hidden v = choices_items _ (hidden-the_row-Arm-2 v) ∙ ap choices (items_hidden-the_row-Arm-2 v)

pub conds_hidden : (v : Vec Gc _) → row_conds (hidden-the_row-Gc-0 v) ≡ conds v.items
conds_hidden v = conds_items _ (hidden-the_row-Gc-0 v) ∙ ap conds (items_hidden-the_row-Gc-0 v)

pub ruleset lists = (links_hidden, choices_hidden, conds_hidden)
