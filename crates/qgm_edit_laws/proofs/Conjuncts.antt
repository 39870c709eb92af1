-- A conjunct that reads the columns of one quantifier alone, as a filter.
use Rattle.std.proofs.Common.{ℕ, ◌==◌, ◌≡◌, cond, Bool, true, false, List, [], ◌∷◌, ◌++◌, refl, sym, ap, subst, ◌∙◌, inl, inr}
use Rattle.std.specs.List.{list_any}
use Rattle.std.proofs.lemmas.Bool.{or_left, or_right}
use mathlib.Core.Path.{fun_ext}
use Rattle.row_bag.specs.Bags.{bind, keep, unit}
use Rattle.row_bag.proofs.Binds.{keep-bind, keep-keep, unit-bind}
use Rattle.row_bag.proofs.Levels.{least-associative, least-commutative, least-yes}
use Rattle.sql_value.specs.Level.{least}
use Rattle.sql_value.specs.declared.cell.Cell.{Cell}
use Rattle.sql_value.specs.declared.level.Level.{Level}
use Rattle.sql_value.specs.declared.truth.Truth.{Truth}
use Rattle.list_laws.specs.Lists.{In}
use Rattle.qgm_core.specs.declared.node.Node.{Node}
use Rattle.qgm_core.specs.declared.owned.OwnedQuant.{OwnedQuant}
use Rattle.qgm_meaning.specs.Meaning.{Family, given_by, nothing}
use Rattle.qgm_meaning.specs.Ranks.{SameUnder}
use Rattle.qgm_meaning.specs.Searches.{binds_cond, names, names_cond}
use Rattle.qgm_meaning.specs.Values.{Bag, Environment, all_true, bound, head_cells, row_of, truth}
use Rattle.qgm_meaning.proofs.Frames.{truth-framed}
use Rattle.qgm_meaning.proofs.Joined.{all_true-append}
use Rattle.qgm_meaning.proofs.Nodes.{all_true-nodes, head-nodes, truth-nodes}
use Rattle.qgm_meaning.proofs.Puts.{inlined-first, truth-put}
use Rattle.qgm_terms.specs.Substitution.{substituted_cond}
use Rattle.qgm_terms.specs.Terms.{Cond}
use Rattle.qgm_terms.specs.Wanted.{reads_cond}
use Rattle.qgm_edit_laws.specs.Graph.{nodes_in}
use Rattle.qgm_edit_laws.specs.Conditioned.{conditioned}
use Rattle.qgm_edit_laws.proofs.AnyPut.{conds-names}
use Rattle.qgm_edit_laws.proofs.PlacedLists.{any-more}
use Rattle.list_laws.proofs.Booleans.{clash, or-false}
use Rattle.list_laws.proofs.Membership.{eq-itself}

-- how far p is true of a row of q
abbrev pub test : ℕ → Cond → List Cell → Level
test q p cells = (truth nothing p (bound q cells [])).t

-- the row, at that level
abbrev pub passed : ℕ → Cond → List Cell → Bag
passed q p cells = keep (test q p cells) (unit cells)

-- the rows of boxes, of which those of box c are filtered
module _ (f : Family) (c : ℕ) (k : List Cell → Bag) where
  abbrev pub filtered : Family
  filtered x e = cond (x == c) (bind (f x e) k) (f x e)

  pub filtered-was : (x : ℕ) → (x == c) ≡ false → filtered x ≡ f x
  filtered-was x n = fun_ext (λ e. ap (λ (t : Bool). cond t (bind (f x e) k) (f x e)) n)

  pub filtered-own : (e : Environment) → filtered c e ≡ bind (f c e) k
  filtered-own e = ap (λ (t : Bool). cond t (bind (f c e) k) (f c e)) (eq-itself c)

  pub filtered-under : (rs : List OwnedQuant) → ((x : OwnedQuant) → In x rs → (x.over == c) ≡ false) → SameUnder rs filtered f
  filtered-under [] h = tt
  filtered-under (x ∷ rs) h = (filtered-was x.over (h x (inl refl)), filtered-under rs (λ z j. h z (inr j)))

module _ (q : ℕ) (p : Cond) (no_node : (x : ℕ) → names_cond x p ≡ false) (own : (x : ℕ) → reads_cond x p ≡ true → x ≡ q) where
  pub truth-is : (rows : ℕ → Bag) (e : Environment) → (truth rows p e).t ≡ test q p (row_of q e)
  truth-is rows e = ap (λ (z : Truth). z.t) (truth-nodes rows nothing p e (λ x t. absurd (clash (names_cond x p) t (no_node x)))
      ∙ truth-framed nothing p e (bound q (row_of q e) []) (record { rows = λ x t. subst (λ z. row_of z e ≡ row_of z (bound q (row_of q e) [])) (sym (own x t)) (sym (ap (λ (t : Bool). cond t (row_of q e) []) (eq-itself q))) }))

  -- a box that has it behind its conditions, cells of its head in it, gives what passes
  pub given-more : (s : Family) (c : Node) (e : Environment) → given_by s (conditioned (c.parts.conds.items ++ substituted_cond q c.parts.head p ∷ []) c) e ≡ bind (given_by s c e) (passed q p)
  given-more s c e =
      let p' : Cond = substituted_cond q c.parts.head p in
      let rows : ℕ → Bag = λ x. s x e in
      let V : List Cell = head_cells rows c.parts.head e in
      let A : Level = (all_true rows c.parts.conds.items e).t in
      let put : (truth rows p' e).t ≡ test q p V = ap (λ (z : Truth). z.t) (truth-put rows q c.parts.head p e (bound q V e) (inlined-first rows q c.parts.head e) (λ x t. absurd (clash (names_cond x p) (bound-named x t) (no_node x))))
      ∙ truth-is rows (bound q V e) ∙ ap (test q p) (ap (λ (t : Bool). cond t V (row_of q e)) (eq-itself q)) in
      ap (λ l. keep l (unit V)) (all_true-append rows c.parts.conds.items (p' ∷ []) e ∙ ap (least A) (least-yes (truth rows p' e).t ∙ put))
      ∙ sym (keep-keep A (test q p V) (unit V)) ∙ ap (keep A) (sym (unit-bind V (passed q p))) ∙ keep-bind A (unit V) (passed q p)
    where
      bound-named : (x : ℕ) → binds_cond x p ≡ true → names_cond x p ≡ true
      bound-named x t = sym (or-false (names_cond x p)) ∙ conds-names x (p ∷ []) (or_left (binds_cond x p) false t)

  -- what a box without it gives, at its level, is what the box gives
  pub given-less : (s' s : Family) (b : Node) (ps qs : List Cond) → b.parts.conds.items ≡ ps ++ p ∷ qs → (e : Environment) → ((x : ℕ) → nodes_in x b ≡ true → s' x e ≡ s x e)
      → keep (test q p (row_of q e)) (given_by s' (conditioned (ps ++ qs) b) e) ≡ given_by s b e
  given-less s' s b ps qs conds e same =
      let rows : ℕ → Bag = λ x. s x e in
      let H : List Cell = head_cells rows b.parts.head e in
      let T : Level = test q p (row_of q e) in
      let P : Level = (all_true rows ps e).t in
      let Q : Level = (all_true rows qs e).t in
      let in-conds : (x : ℕ) → list_any (names_cond x) (ps ++ qs) ≡ true → nodes_in x b ≡ true = λ x t. or_right (list_any (names x) b.parts.head) (list_any (names_cond x) b.parts.conds.items) (ap (list_any (names_cond x)) conds ∙ any-more (names_cond x) ps p qs ∙ or_right (names_cond x p) (list_any (names_cond x) (ps ++ qs)) t) in
      ap (λ l. keep T (keep l (unit (head_cells (λ x. s' x e) b.parts.head e)))) (ap (λ (z : Truth). z.t) (all_true-nodes (λ x. s' x e) rows (ps ++ qs) e (λ x t. same x (in-conds x t))) ∙ all_true-append rows ps qs e)
      ∙ ap (λ h. keep T (keep (least P Q) (unit h))) (head-nodes (λ x. s' x e) rows b.parts.head e (λ x t. same x (or_left (list_any (names x) b.parts.head) (list_any (names_cond x) b.parts.conds.items) t)))
      ∙ keep-keep T (least P Q) (unit H)
      ∙ ap (λ l. keep l (unit H)) (sym (least-associative T P Q) ∙ ap (λ l. least l Q) (least-commutative T P) ∙ least-associative P T Q
      ∙ sym (ap (λ z. (all_true rows z e).t) conds ∙ all_true-append rows ps (p ∷ qs) e ∙ ap (λ l. least P (least l Q)) (truth-is rows e)))
