-- What boxes name, and what is free in them, where names of columns shift.
use Rattle.std.proofs.Common.{ℕ, ◌≡◌, ◌&&◌, ◌||◌, not, cond, Bool, List, [], ◌∷◌, ◌++◌, filter, map, refl, ap, ap₂, ◌∙◌}
use Rattle.std.specs.List.{flat_map}
use Rattle.qgm_core.specs.Boxes.{owns}
use Rattle.qgm_core.specs.Edits.{shift_boxes, shift_node}
use Rattle.qgm_core.specs.Free.{free_among, free_in, is_owned, marked, named_by, named_where, put_each, reached}
use Rattle.list_laws.specs.Lists.{each, holds}
use Rattle.qgm_core.specs.declared.node.Node.{Node}
use Rattle.qgm_core.proofs.Untouched.{filter-alike}
use Rattle.qgm_terms.specs.Gathered.{listed_arms}
use Rattle.qgm_terms.specs.Named.{names, names_in, names_in_cond}
use Rattle.qgm_terms.specs.Shift.{shifted, shifted_arms, shifted_cond}
use Rattle.qgm_terms.specs.Terms.{Term, int, text, null_int, null_text, col, both, minus_of, choose, count_all, fold, scalar, Arms, no_arm, arm, Cond, always, compare, is_null, and, or, some, every}
use Rattle.qgm_terms.specs.Terms as t

module _ (k p : ℕ) where
  -- ---- terms

  mutual
    term-names : (x : Term) → names_in (shifted p k x) ≡ names_in x
    term-names (int n) = refl
    term-names (text v) = refl
    term-names null_int = refl
    term-names null_text = refl
    term-names (col r j) = refl
    term-names (both o x y) = ap₂ (λ u v. u ++ v) (term-names x) (term-names y)
    term-names (minus_of x) = term-names x
    term-names (choose a x) = ap₂ (λ u v. u ++ v) (arms-names a) (term-names x)
    term-names count_all = refl
    term-names (fold f u x) = term-names x
    term-names (scalar r) = refl

    arms-names : (a : Arms) → listed_arms names (shifted_arms p k a) ≡ listed_arms names a
    arms-names no_arm = refl
    arms-names (arm c x a) = ap₂ (λ u v. u ++ v) (cond-names c) (ap₂ (λ u v. u ++ v) (term-names x) (arms-names a))

    cond-names : (c : Cond) → names_in_cond (shifted_cond p k c) ≡ names_in_cond c
    cond-names always = refl
    cond-names (compare sign x y) = ap₂ (λ u v. u ++ v) (term-names x) (term-names y)
    cond-names (is_null x) = term-names x
    cond-names (and c d) = ap₂ (λ u v. u ++ v) (cond-names c) (cond-names d)
    cond-names (or c d) = ap₂ (λ u v. u ++ v) (cond-names c) (cond-names d)
    cond-names (t.not c) = cond-names c
    cond-names (some r c) = ap (λ (qs : List ℕ). r ∷ qs) (cond-names c)
    cond-names (every r c) = ap (λ (qs : List ℕ). r ∷ qs) (cond-names c)

  heads-names : (xs : List Term) → flat_map names_in (map (shifted p k) xs) ≡ flat_map names_in xs
  heads-names [] = refl
  heads-names (x ∷ xs) = ap₂ (λ u v. u ++ v) (term-names x) (heads-names xs)

  conds-names : (cs : List Cond) → flat_map names_in_cond (map (shifted_cond p k) cs) ≡ flat_map names_in_cond cs
  conds-names [] = refl
  conds-names (c ∷ cs) = ap₂ (λ u v. u ++ v) (cond-names c) (conds-names cs)

  -- ---- boxes

  node-names : (n : Node) → named_by (shift_node k p n) ≡ named_by n
  node-names n = ap₂ (λ u v. u ++ v) (heads-names n.parts.head) (conds-names n.parts.conds.items)

  reached-shift : (ns : List Node) (marks : List ℕ) → reached marks (shift_boxes k p ns) ≡ reached marks ns
  reached-shift [] marks = refl
  reached-shift (n ∷ ns) marks = reached-shift ns (marked marks n)

  named-shift : (marks : List ℕ) (ns : List Node) → flat_map (named_where marks) (shift_boxes k p ns) ≡ flat_map (named_where marks) ns
  named-shift marks [] = refl
  named-shift marks (n ∷ ns) = ap₂ (λ u v. u ++ v) (ap (λ (qs : List ℕ). cond (holds n.id marks) qs []) (node-names n)) (named-shift marks ns)

  owned-shift : (marks : List ℕ) (ns : List Node) (q : ℕ) → is_owned marks (shift_boxes k p ns) q ≡ is_owned marks ns q
  owned-shift marks [] q = refl
  owned-shift marks (n ∷ ns) q = ap (λ (t : Bool). (holds n.id marks && owns q n) || t) (owned-shift marks ns q)

  free-shift : (ns : List Node) (b : ℕ) → free_in (shift_boxes k p ns) b ≡ free_in ns b
  free-shift ns b =
      let marks = reached (b ∷ []) ns in
      let ms = shift_boxes k p ns in
      ap (λ (rs : List ℕ). free_among rs ms) (reached-shift ns (b ∷ []))
      ∙ ap (put_each []) (
      filter-alike (λ q. not (is_owned marks ms q)) (λ q. not (is_owned marks ns q)) (flat_map (named_where marks) ms) (λ q. ap not (owned-shift marks ns q))
      ∙ ap (λ (qs : List ℕ). filter (λ q. not (is_owned marks ns q)) qs) (named-shift marks ns))

pub free-shifted : (k : ℕ) (qs : List ℕ) (ns : List Node) (b : ℕ) → free_in (each (shift_boxes k) qs ns) b ≡ free_in ns b
free-shifted k [] ns b = refl
free-shifted k (q ∷ qs) ns b = free-shifted k qs (shift_boxes k q ns) b ∙ free-shift k q ns b
