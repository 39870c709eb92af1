-- The rows of the root.
use Rattle.std.proofs.Common.{ℕ, suc, zero, ◌≡◌, ◌<◌, ◌≤◌, ◌+◌, Bool, true, false, cond, List, [], ◌∷◌, add-one, arith, length, drop, get_or, position, Some, None, refl, sym, ◌∙◌, ap, ap₂, subst}
use Rattle.row_bag.specs.Bags.{Agree, Alike}
use Rattle.row_bag.specs.Sets.{same_cells}
use Rattle.row_bag.specs.declared.tables.Table.{Table}
use Rattle.row_bag.proofs.Agreement.{alike-same, alike-trans}
use Rattle.row_bag.proofs.Counts.{agree-from_alike}
use Rattle.std.proofs.lemmas.List.Quantifiers.{position-Some}
use Rattle.qgm_core.specs.Boxes.{Ordered, has_box, is_box}
use Rattle.qgm_core.specs.Free.{reached}
use Rattle.qgm_core.specs.declared.node.Node.{Node}
use Rattle.qgm_meaning.specs.Meaning.{bag_in, rows_of}
use Rattle.qgm_meaning.specs.Values.{Bag}
use Rattle.box_exec.specs.Ready.{AllFit, Fit}
use Rattle.box_exec.proofs.Entries.{fit-here}
use Rattle.qgm_meaning.specs.Plain.{counted_by}
use Rattle.box_exec.specs.Costs.{Between, asked, costs}
use Rattle.box_exec.specs.Kept.{KeptAs, behind, kept_costs, kept_number}
use Rattle.box_exec.specs.Taken.{taken_by}
use Rattle.box_exec.specs.Takings.{asked_takings, kept_takings, takings}
use Rattle.box_exec.proofs.Evaluations.{costs-at}
use Rattle.box_exec.proofs.Takings.{ordered-at, takings-at}
use Rattle.box_exec.proofs.Places.{bag-at, fit-drop, inside, not-there, nothing-under}

module _ (boxes nodes : List Node) (root r : ℕ) (same : nodes ≡ boxes) (named : r ≡ root) where
  pub root-none : (tables : List Table) (made : Bag) → position (is_box r) nodes ≡ None → made ≡ [] → Agree same_cells made (bag_in tables boxes root [])
  root-none tables made e is =
      agree-from_alike same_cells (alike-same (is ∙ sym (nothing-under tables nodes r e []) ∙ ap₂ (λ (ns : List Node) (b : ℕ). bag_in tables ns b []) same named))

  pub root-rows : (tables : List Table) (i : ℕ) (n : Node) (behind : List Node) (rows : Bag) → position (is_box r) nodes ≡ Some i → n ≡ get_or nodes i n → behind ≡ drop (i + 1) nodes → Alike rows (rows_of tables n (bag_in tables behind) [])
      → Agree same_cells rows (bag_in tables boxes root [])
  root-rows tables i n behind rows e at is h =
      agree-from_alike same_cells
      (alike-trans h
      (alike-same (ap (λ (ns : List Node). rows_of tables n (bag_in tables ns) []) is ∙ sym (bag-at tables nodes r i n e at []) ∙ ap₂ (λ (ns : List Node) (b : ℕ). bag_in tables ns b []) same named)))

  pub root-behind : (i : ℕ) (behind : List Node) → behind ≡ drop (i + 1) nodes → AllFit boxes → AllFit behind
  root-behind i behind is fit = subst AllFit (sym is) (fit-drop nodes (i + 1) (subst AllFit (sym same) fit))

  pub root-fit : (i : ℕ) (n : Node) (behind : List Node) → position (is_box r) nodes ≡ Some i → n ≡ get_or nodes i n → behind ≡ drop (i + 1) nodes → AllFit boxes → Fit n behind
  root-fit i n behind e at is fit = subst (Fit n) (sym is) (fit-here nodes i (i + 1) n refl (inside nodes r i n e) at (subst AllFit (sym same) fit)).0

-- ---- how many evaluations

behind-first : (ns : List Node) (b i : ℕ) (d : Node) → i < length ns → is_box b (get_or ns i d) ≡ true → ((k : ℕ) → k < i → is_box b (get_or ns k d) ≡ false) → behind b ns ≡ drop (suc i) ns
behind-first [] b i d l t before = absurd (omega (arith, l))
behind-first (n ∷ ns) b zero d l t before = ap (λ (x : Bool). cond x ns (behind b ns)) t
behind-first (n ∷ ns) b (suc i) d l t before = ap (λ (x : Bool). cond x ns (behind b ns)) (before zero (omega arith)) ∙ behind-first ns b i d (omega (arith, l)) t (λ k m. before (suc k) (omega (arith, m)))

behind-at : (ns : List Node) (b i : ℕ) (n : Node) → position (is_box b) ns ≡ Some i → behind b ns ≡ drop (i + 1) ns
behind-at ns b i n e = let h = position-Some (is_box b) ns i n e in behind-first ns b i n h.0 h.1 h.2 ∙ ap (λ (k : ℕ). drop k ns) (sym (add-one i))

module _ (boxes nodes : List Node) (root r : ℕ) (same : nodes ≡ boxes) (named : r ≡ root) where
  pub root-there : position (is_box r) nodes ≡ None → has_box boxes root ≡ true → ⊥
  root-there e has = let z : false ≡ true = sym (not-there nodes r e) ∙ ap₂ has_box same named ∙ has in let y : ⊥ = cc in y

  pub root-took : (tables : List Table) (i : ℕ) (n : Node) (bs : List Node) (marks : List ℕ) (kept : ℕ → Bool) → position (is_box r) nodes ≡ Some i → n ≡ get_or nodes i n → bs ≡ drop (i + 1) nodes → marks ≡ reached (r ∷ []) nodes → KeptAs kept (reached (root ∷ []) boxes) (behind root boxes)
      → KeptAs kept marks bs × ((x y z : ℕ) → Between (kept_number kept bs) (kept_costs tables kept bs) x y → Between 1 (counted_by n.parts.kind n (bag_in tables bs) (asked tables kept bs) []) y z
      → Between (1 + kept_number kept (behind root boxes)) (costs tables kept boxes root [] + kept_costs tables kept (behind root boxes)) x z)
  root-took tables i n bs marks kept e at is marked how =
      let rest : behind root boxes ≡ bs = sym (ap₂ behind named same) ∙ behind-at nodes r i n e ∙ sym is in
      let same_marks : reached (root ∷ []) boxes ≡ marks = sym (marked ∙ ap₂ (λ (b : ℕ) (ns : List Node). reached (b ∷ []) ns) named same) in
      let own : costs tables kept boxes root [] ≡ counted_by n.parts.kind n (bag_in tables bs) (asked tables kept bs) [] =
      sym (ap₂ (λ (ns : List Node) (b : ℕ). costs tables kept ns b []) same named) ∙ costs-at tables kept nodes r i n [] e at ∙ ap (λ (ns : List Node). counted_by n.parts.kind n (bag_in tables ns) (asked tables kept ns) []) (sym is) in
      let number : kept_number kept (behind root boxes) ≡ kept_number kept bs = ap (kept_number kept) rest in
      let cost : kept_costs tables kept (behind root boxes) ≡ kept_costs tables kept bs = ap (kept_costs tables kept) rest in (
        subst (KeptAs kept marks) rest (subst (λ (ms : List ℕ). KeptAs kept ms (behind root boxes)) same_marks how),
        λ x y z h k. (omega (arith, h.0, k.0, number), omega (arith, h.1, k.1, own, cost)),
      )

  pub root-takes : (tables : List Table) (i : ℕ) (n : Node) (bs : List Node) (marks : List ℕ) (kept : ℕ → Bool) → position (is_box r) nodes ≡ Some i → n ≡ get_or nodes i n → bs ≡ drop (i + 1) nodes → marks ≡ reached (r ∷ []) nodes → KeptAs kept (reached (root ∷ []) boxes) (behind root boxes)
      → KeptAs kept marks bs × ((x y z : ℕ) → Between 0 (kept_takings tables kept bs) x y → Between 0 (taken_by kept n.parts.kind n (bag_in tables bs) (asked_takings tables kept bs) []) y z
      → z ≤ x + (takings tables kept boxes root [] + kept_takings tables kept (behind root boxes)))
  root-takes tables i n bs marks kept e at is marked how =
      let rest : behind root boxes ≡ bs = sym (ap₂ behind named same) ∙ behind-at nodes r i n e ∙ sym is in
      let same_marks : reached (root ∷ []) boxes ≡ marks = sym (marked ∙ ap₂ (λ (b : ℕ) (ns : List Node). reached (b ∷ []) ns) named same) in
      let own : takings tables kept boxes root [] ≡ taken_by kept n.parts.kind n (bag_in tables bs) (asked_takings tables kept bs) [] =
      sym (ap₂ (λ (ns : List Node) (b : ℕ). takings tables kept ns b []) same named) ∙ takings-at tables kept nodes r i n [] e at ∙ ap (λ (ns : List Node). taken_by kept n.parts.kind n (bag_in tables ns) (asked_takings tables kept ns) []) (sym is) in
      let cost : kept_takings tables kept (behind root boxes) ≡ kept_takings tables kept bs = ap (kept_takings tables kept) rest in (
        subst (KeptAs kept marks) rest (subst (λ (ms : List ℕ). KeptAs kept ms (behind root boxes)) same_marks how),
        λ x y z h k. omega (arith, h.1, k.1, own, cost),
      )

  pub root-ordered : (i : ℕ) (n : Node) (bs : List Node) → position (is_box r) nodes ≡ Some i → n ≡ get_or nodes i n → bs ≡ drop (i + 1) nodes → Ordered boxes → Ordered (n ∷ bs)
  root-ordered i n bs e at is ordered = subst (λ (ms : List Node). Ordered (n ∷ ms)) (sym is) (ordered-at nodes i n (inside nodes r i n e) at (subst Ordered (sym same) ordered))
