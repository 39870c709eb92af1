-- Quantifiers that go between two boxes of which one stands just below the other.
use Rattle.std.proofs.Common.{ℕ, ◌==◌, ◌≡◌, ◌||◌, Bool, true, false, List, [], ◌∷◌, ◌++◌, Option, Some, cond, insert, refl, sym, ap, ◌∙◌}
use Rattle.std.specs.List.{list_any}
use Rattle.qgm_core.specs.Boxes.{is_box, is_quant, owns, range_in}
use Rattle.qgm_core.specs.Edits.{on_quant, put_range, put_range_found, quant_moved, without_quant}
use Rattle.list_laws.specs.Lists.{change, first, without}
use Rattle.qgm_core.specs.declared.node.Node.{Node}
use Rattle.qgm_core.specs.declared.owned.OwnedQuant.{OwnedQuant}
use Rattle.rule_magic.proofs.Amid.{change-amid, change-second, first-amid, none-append}
use Rattle.list_laws.proofs.Membership.{append-one, eq-itself}

-- ---- one of a box's quantifiers

pub first-here : (q : OwnedQuant) (rs : List OwnedQuant) → first (is_quant q.id) (q ∷ rs) ≡ Some q
first-here q rs = ap (λ b. cond b (Some q) (first (is_quant q.id) rs)) (eq-itself q.id)

pub first-there : (i : ℕ) (z : OwnedQuant) (rs : List OwnedQuant) → (z.id == i) ≡ false → first (is_quant i) (z ∷ rs) ≡ first (is_quant i) rs
first-there i z rs f = ap (λ b. cond b (Some z) (first (is_quant i) rs)) f

pub without-here : (q : OwnedQuant) (rs : List OwnedQuant) → without (is_quant q.id) (q ∷ rs) ≡ rs
without-here q rs = ap (λ b. cond b rs (q ∷ without (is_quant q.id) rs)) (eq-itself q.id)

pub without-there : (i : ℕ) (z : OwnedQuant) (rs : List OwnedQuant) → (z.id == i) ≡ false → without (is_quant i) (z ∷ rs) ≡ z ∷ without (is_quant i) rs
without-there i z rs f = ap (λ b. cond b rs (z ∷ without (is_quant i) rs)) f

pub change-here : (h : OwnedQuant → OwnedQuant) (q : OwnedQuant) (rs : List OwnedQuant) → change (is_quant q.id) h (q ∷ rs) ≡ h q ∷ rs
change-here h q rs = ap (λ b. cond b (h q ∷ rs) (q ∷ change (is_quant q.id) h rs)) (eq-itself q.id)

pub change-there : (h : OwnedQuant → OwnedQuant) (i : ℕ) (z : OwnedQuant) (rs : List OwnedQuant) → (z.id == i) ≡ false → change (is_quant i) h (z ∷ rs) ≡ z ∷ change (is_quant i) h rs
change-there h i z rs f = ap (λ b. cond b (h z ∷ rs) (z ∷ change (is_quant i) h rs)) f

insert-first : (q : OwnedQuant) (rs : List OwnedQuant) → insert rs 0 q ≡ q ∷ rs
insert-first q [] = refl
insert-first q (r ∷ rs) = refl

first-second : {X : Type 0} (p : X → Bool) (us : List X) (x y : X) (vs : List X) → list_any p us ≡ false → p x ≡ false → p y ≡ true → first p (us ++ x ∷ (y ∷ vs)) ≡ Some y
first-second p us x y vs n k t = ap (first p) (sym (append-one us x (y ∷ vs))) ∙ first-amid p (us ++ x ∷ []) y vs (none-append p us (x ∷ []) n (ap (λ b. b || false) k)) t

-- ---- between d and c

module _ (up low : List Node) (d c : Node) (no-d : list_any (is_box d.id) up ≡ false) (no-c : list_any (is_box c.id) up ≡ false) (apart : (d.id == c.id) ≡ false) where
  -- d has these quantifiers, and c those
  abbrev pub at_two : List OwnedQuant → List OwnedQuant → List Node
  at_two ds cs = up ++ record d { quants = ds } ∷ (record c { quants = cs } ∷ low)

  pub to-first : (q : OwnedQuant) (ds cs rest : List OwnedQuant) → list_any (owns q.id) up ≡ false → list_any (is_quant q.id) ds ≡ false → list_any (is_quant q.id) cs ≡ true → first (is_quant q.id) cs ≡ Some q → without (is_quant q.id) cs ≡ rest
      → quant_moved q.id d.id 0 (up ++ record d { quants = ds } ∷ (record c { quants = cs } ∷ low)) ≡ up ++ record d { quants = q ∷ ds } ∷ (record c { quants = rest } ∷ low)
  to-first q ds cs rest n not has found left =
      ap (λ (o : Option Node). put_range_found d.id 0 (range_in q.id o) (change (owns q.id) (without_quant q.id) (at_two ds cs))) (first-second (owns q.id) up (record d { quants = ds }) (record c { quants = cs }) low n not has)
      ∙ ap (λ (o : Option OwnedQuant). put_range_found d.id 0 o (change (owns q.id) (without_quant q.id) (at_two ds cs))) found
      ∙ ap (change (is_box d.id) (put_range 0 q)) (change-second (owns q.id) (without_quant q.id) up (record d { quants = ds }) (record c { quants = cs }) low n not has ∙ ap (λ (rs : List OwnedQuant). at_two ds rs) left)
      ∙ change-amid (is_box d.id) (put_range 0 q) up (record d { quants = ds }) (record c { quants = rest } ∷ low) no-d (eq-itself d.id)
      ∙ ap (λ (rs : List OwnedQuant). at_two rs rest) (insert-first q ds)

  pub to-second : (q : OwnedQuant) (ds cs rest : List OwnedQuant) → list_any (owns q.id) up ≡ false → list_any (is_quant q.id) ds ≡ true → first (is_quant q.id) ds ≡ Some q → without (is_quant q.id) ds ≡ rest
      → quant_moved q.id c.id 0 (up ++ record d { quants = ds } ∷ (record c { quants = cs } ∷ low)) ≡ up ++ record d { quants = rest } ∷ (record c { quants = q ∷ cs } ∷ low)
  to-second q ds cs rest n has found left =
      ap (λ (o : Option Node). put_range_found c.id 0 (range_in q.id o) (change (owns q.id) (without_quant q.id) (at_two ds cs))) (first-amid (owns q.id) up (record d { quants = ds }) (record c { quants = cs } ∷ low) n has)
      ∙ ap (λ (o : Option OwnedQuant). put_range_found c.id 0 o (change (owns q.id) (without_quant q.id) (at_two ds cs))) found
      ∙ ap (change (is_box c.id) (put_range 0 q)) (change-amid (owns q.id) (without_quant q.id) up (record d { quants = ds }) (record c { quants = cs } ∷ low) n has ∙ ap (λ (rs : List OwnedQuant). at_two rs cs) left)
      ∙ change-second (is_box c.id) (put_range 0 q) up (record d { quants = rest }) (record c { quants = cs }) low no-c apart (eq-itself c.id)
      ∙ ap (λ (rs : List OwnedQuant). at_two rest rs) (insert-first q cs)

  pub change-first : (i : ℕ) (h : OwnedQuant → OwnedQuant) (ds cs rest : List OwnedQuant) → list_any (owns i) up ≡ false → list_any (is_quant i) ds ≡ true → change (is_quant i) h ds ≡ rest
      → change (owns i) (on_quant i h) (up ++ record d { quants = ds } ∷ (record c { quants = cs } ∷ low)) ≡ up ++ record d { quants = rest } ∷ (record c { quants = cs } ∷ low)
  change-first i h ds cs rest n has e = change-amid (owns i) (on_quant i h) up (record d { quants = ds }) (record c { quants = cs } ∷ low) n has ∙ ap (λ (rs : List OwnedQuant). at_two rs cs) e

  pub change-next : (i : ℕ) (h : OwnedQuant → OwnedQuant) (ds cs rest : List OwnedQuant) → list_any (owns i) up ≡ false → list_any (is_quant i) ds ≡ false → list_any (is_quant i) cs ≡ true → change (is_quant i) h cs ≡ rest
      → change (owns i) (on_quant i h) (up ++ record d { quants = ds } ∷ (record c { quants = cs } ∷ low)) ≡ up ++ record d { quants = ds } ∷ (record c { quants = rest } ∷ low)
  change-next i h ds cs rest n not has e = change-second (owns i) (on_quant i h) up (record d { quants = ds }) (record c { quants = cs }) low n not has ∙ ap (λ (rs : List OwnedQuant). at_two ds rs) e
