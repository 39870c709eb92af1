-- From M1's bounds on copies and levels to nodes and levels of the graph after it.
use Rattle.std.proofs.Common.{ℕ, zero, suc, ◌≡◌, ◌≤◌, ◌==◌, ◌+◌, ◌-◌, ◌*◌, ◌++◌, ◌⊎◌, ◌||◌, cond, true, false, List, [], ◌∷◌, Some, get_or, length, map, max, inl, inr, refl, sym, ap, ap₂, subst, ◌∙◌, eqb-true, arith}
use Rattle.std.specs.List.{flat_map}
use Rattle.std.proofs.Math.Nat.{mul-add}
use Rattle.std.proofs.lemmas.Bool.{cases_Bool}
use Rattle.list_laws.specs.Lists.{EachOnce, first, holds, times, without}
use Rattle.qgm_box_size.specs.Nodes.{box_levels, box_size, boxes_levels, boxes_size, cells_size, conjuncts_size, deepest_conjunct, named_columns}
use Rattle.qgm_box_size.proofs.Nodes.{conjuncts-append, put-box, some-levels, some-size}
use Rattle.qgm_core.specs.Boxes.{QueryGraph, box_of, is_box, numbers}
use Rattle.qgm_core.specs.Free.{reached}
use Rattle.qgm_core.specs.declared.node.Node.{Node}
use Rattle.qgm_core.specs.declared.owned.OwnedQuant.{OwnedQuant}
use Rattle.qgm_edit_laws.proofs.Levels.{some-in}
use Rattle.qgm_meaning.specs.Scope.{put_node}
use Rattle.qgm_term_size.specs.Levels.{cell_levels, cond_levels, deepest, put_levels}
use Rattle.qgm_term_size.specs.Size.{cell_size, put_size}
use Rattle.qgm_term_size.proofs.PutLevels.{cell-deepest, cell-levels, cond-deepest, cond-levels}
use Rattle.qgm_term_size.proofs.PutSizes.{put-append}
use Rattle.qgm_terms.specs.Depth.{room}
use Rattle.qgm_terms.specs.Named.{columns_in, columns_in_cond}
use Rattle.qgm_terms.specs.Substitution.{cell_at, substituted, substituted_cond}
use Rattle.qgm_terms.specs.Terms.{Cond, Term, null_int}
use Rattle.qgm_terms.specs.declared.named.Column.{Column}
use Rattle.rule_api.specs.declared.place.Place.{Place}
use Rattle.rule_merge.specs.MergeSelect.{IsMergeable, MayMergeSelect, MergesSelect}
use Rattle.rule_merge.specs.MergeSelectCopies.{copied, cut, levels_of, most_copied, name_of, names_in, names_in_box, names_in_cell, names_in_cond, places_of}
use Rattle.rule_merge.specs.Merged.{merge_node, merged, merged_in}
use Rattle.rule_merge.specs.declared.merge_select.names.Name.{Name}

-- ---- names of columns, by their places

places-append : (q : ℕ) (ns ms : List Name) → places_of q (ns ++ ms) ≡ places_of q ns ++ places_of q ms
places-append q [] ms = refl
places-append q (n ∷ ns) ms =
    ap (λ (z : List ℕ). cond (n.quant == q) (n.place ∷ z) z) (places-append q ns ms)
    ∙ elim (n.quant == q) as (λ t. cond t (n.place ∷ (places_of q ns ++ places_of q ms)) (places_of q ns ++ places_of q ms) ≡ cond t (n.place ∷ places_of q ns) (places_of q ns) ++ places_of q ms) [ true ↦ refl | false ↦ refl ]

-- what the cells for these columns have above the columns
abbrev weigh : List Term → List ℕ → ℕ
weigh cells [] = 0
weigh cells (k ∷ ks) = (cell_size (cell_at k cells) - 1) + weigh cells ks

weigh-append : (cells : List Term) (ks js : List ℕ) → weigh cells (ks ++ js) ≡ weigh cells ks + weigh cells js
weigh-append cells [] js = omega arith
weigh-append cells (k ∷ ks) js = let h : weigh cells (ks ++ js) ≡ weigh cells ks + weigh cells js = weigh-append cells ks js in omega (arith, h)

module _ (q : ℕ) (cells : List Term) where
  columns-weigh : (l : ℕ) (cs : List Column) → put_size q cells cs ≡ weigh cells (places_of q (map (name_of l) cs))
  columns-weigh l [] = refl
  columns-weigh l (c ∷ cs) =
      ap (λ z. cond (c.quant == q) (cell_size (cell_at c.place cells) - 1) 0 + z) (columns-weigh l cs)
      ∙ elim (c.quant == q) as (λ t. cond t (cell_size (cell_at c.place cells) - 1) 0 + weigh cells (places_of q (map (name_of l) cs)) ≡ weigh cells (cond t (c.place ∷ places_of q (map (name_of l) cs)) (places_of q (map (name_of l) cs)))) [
        | true ↦ refl
        | false ↦ omega arith
      ]

  -- one list behind another
  names-weigh : (cs ds : List Column) (ns ms : List Name) → put_size q cells cs ≡ weigh cells (places_of q ns) → put_size q cells ds ≡ weigh cells (places_of q ms) → put_size q cells (cs ++ ds) ≡ weigh cells (places_of q (ns ++ ms))
  names-weigh cs ds ns ms e f =
      put-append q cells cs ds ∙ ap₂ (λ (x y : ℕ). x + y) e f ∙ sym (weigh-append cells (places_of q ns) (places_of q ms)) ∙ sym (ap (weigh cells) (places-append q ns ms))

  cells-weigh : (xs : List Term) → put_size q cells (flat_map columns_in xs) ≡ weigh cells (places_of q (flat_map names_in_cell xs))
  cells-weigh [] = refl
  cells-weigh (x ∷ xs) = names-weigh (columns_in x) (flat_map columns_in xs) (names_in_cell x) (flat_map names_in_cell xs) (columns-weigh (cell_levels x) (columns_in x)) (cells-weigh xs)

  conds-weigh : (cs : List Cond) → put_size q cells (flat_map columns_in_cond cs) ≡ weigh cells (places_of q (flat_map names_in_cond cs))
  conds-weigh [] = refl
  conds-weigh (c ∷ cs) = names-weigh (columns_in_cond c) (flat_map columns_in_cond cs) (names_in_cond c) (flat_map names_in_cond cs) (columns-weigh (cond_levels c) (columns_in_cond c)) (conds-weigh cs)

  box-weighs : (n : Node) → put_size q cells (named_columns n) ≡ weigh cells (places_of q (names_in_box n))
  box-weighs n =
      names-weigh (flat_map columns_in n.parts.head) (flat_map columns_in_cond n.parts.conds.items) (flat_map names_in_cell n.parts.head) (flat_map names_in_cond n.parts.conds.items)
      (cells-weigh n.parts.head) (conds-weigh n.parts.conds.items)

  -- of all boxes
  abbrev put_in : List Node → ℕ
  put_in [] = 0
  put_in (n ∷ ns) = put_size q cells (named_columns n) + put_in ns

  boxes-weigh : (ns : List Node) → put_in ns ≡ weigh cells (places_of q (names_in ns))
  boxes-weigh [] = refl
  boxes-weigh (n ∷ ns) =
      ap₂ (λ (x y : ℕ). x + y) (box-weighs n) (boxes-weigh ns)
      ∙ sym (weigh-append cells (places_of q (names_in_box n)) (places_of q (names_in ns)))
      ∙ sym (ap (weigh cells) (places-append q (names_in_box n) (names_in ns)))

-- ---- nodes that come, and those that are counted as copies

-- each cell as often as its column is named
abbrev each : List ℕ → ℕ → List Term → ℕ
each named k [] = 0
each named k (x ∷ xs) = cell_size x * times k named + each named (suc k) xs

-- the cell for column p, where these stand for the columns from k on
abbrev one_at : ℕ → ℕ → List Term → ℕ
one_at p k [] = 0
one_at p k (x ∷ xs) = cell_size x * cond (p == k) 1 0 + one_at p (suc k) xs

each-more : (p : ℕ) (ps : List ℕ) (k : ℕ) (cells : List Term) → each (p ∷ ps) k cells ≡ one_at p k cells + each ps k cells
each-more p ps k [] = refl
each-more p ps k (x ∷ xs) =
    let h : each (p ∷ ps) (suc k) xs ≡ one_at p (suc k) xs + each ps (suc k) xs = each-more p ps (suc k) xs in
    let e = mul-add (cell_size x) (cond (p == k) 1 0) (times k ps) in
    omega (arith, h, e)

-- the i-th of cells that stand for the columns from k on
nth-there : (i k : ℕ) (cells : List Term) → cell_size (get_or cells i null_int) - 1 ≤ one_at (k + i) k cells
nth-there i k [] = omega arith
nth-there zero k (x ∷ xs) =
    let e : (k + 0 == k) ≡ true = grind arith in
    let f : cell_size x * cond (k + 0 == k) 1 0 ≡ cell_size x = ap (λ b. cell_size x * cond b 1 0) e ∙ omega arith in
    omega (arith, f)
nth-there (suc i) k (x ∷ xs) =
    let h = nth-there i (suc k) xs in
    let e : suc k + i ≡ k + suc i = omega arith in
    let f = ap (λ z. one_at z (suc k) xs) e in
    omega (arith, h, f)

place-there : (p : ℕ) (cells : List Term) → cell_size (cell_at p cells) - 1 ≤ one_at p 1 cells
place-there zero cells = omega arith
place-there (suc i) cells =
    let h = nth-there i 1 cells in
    let e : 1 + i ≡ suc i = omega arith in
    let f = ap (λ z. one_at z 1 cells) e in
    omega (arith, h, f)

weigh-each : (cells : List Term) (ps : List ℕ) → weigh cells ps ≤ each ps 1 cells
weigh-each cells [] = omega arith
weigh-each cells (p ∷ ps) =
    let h : weigh cells ps ≤ each ps 1 cells = weigh-each cells ps in
    let i = place-there p cells in
    let e = each-more p ps 1 cells in
    omega (arith, h, i, e)

-- all but one of so many
but-one : (s t : ℕ) → s * t ≤ s * (t - 1) + s
but-one s zero = omega arith
but-one s (suc t) =
    let n : suc t ≡ t + 1 = omega arith in
    let e : s * suc t ≡ s * t + s * 1 = ap (λ z. s * z) n ∙ mul-add s t 1 in
    let m : suc t - 1 ≡ t = omega arith in
    let f : s * (suc t - 1) ≡ s * t = ap (λ z. s * z) m in
    omega (arith, e, f)

each-copied : (ps : List ℕ) (k : ℕ) (cells : List Term) → each ps k cells ≤ copied ps k cells + cells_size cells
each-copied ps k [] = omega arith
each-copied ps k (x ∷ xs) =
    let h : each ps (suc k) xs ≤ copied ps (suc k) xs + cells_size xs = each-copied ps (suc k) xs in
    let i = but-one (cell_size x) (times k ps) in
    omega (arith, h, i)

-- ---- the boxes

module _ (b q : ℕ) (c : Node) (quants : List OwnedQuant) where
  abbrev one_b : ℕ → ℕ
  one_b i = cond (i == b) 1 0

  merged-size : (n : Node) → box_size (merge_node b q c quants n) ≤ box_size n + put_size q c.parts.head (named_columns n) + conjuncts_size c.parts.conds.items * one_b n.id
  merged-size n =
      let h = put-box q c.parts.head n in
      let e = conjuncts-append (map (substituted_cond q c.parts.head) n.parts.conds.items) c.parts.conds.items in
      elim (n.id == b) as (λ t. box_size (cond t (merged q c quants n) (put_node q c.parts.head n)) ≤ box_size n + put_size q c.parts.head (named_columns n) + conjuncts_size c.parts.conds.items * cond t 1 0) [
        | true ↦ omega (arith, h, e)
        | false ↦ omega (arith, h)
      ]

  boxes-size : (ns : List Node) → boxes_size (map (merge_node b q c quants) ns) ≤ boxes_size ns + put_in q c.parts.head ns + conjuncts_size c.parts.conds.items * times b (numbers ns)
  boxes-size [] = omega arith
  boxes-size (n ∷ ns) =
      let h = merged-size n in
      let i : boxes_size (map (merge_node b q c quants) ns) ≤ boxes_size ns + put_in q c.parts.head ns + conjuncts_size c.parts.conds.items * times b (numbers ns) = boxes-size ns in
      let e = mul-add (conjuncts_size c.parts.conds.items) (one_b n.id) (times b (numbers ns)) in
      omega (arith, h, i, e)

some-is : {X : Type 0} (x y : X) → Some x ≡ Some y → x ≡ y
some-is x y e = cc

-- without the first box of a number
taken-size : (p : ℕ) (c : Node) (ns : List Node) → first (is_box p) ns ≡ Some c → boxes_size ns ≡ boxes_size (without (is_box p) ns) + box_size c
taken-size p c [] e = absurd (let z : ⊥ = cc in z)
taken-size p c (n ∷ ns) e = elim (cases_Bool (n.id == p)) [
  | inl t ↦ (
      let s : n ≡ c = some-is n c (ap (λ z. cond z (Some n) (first (is_box p) ns)) (sym t) ∙ e) in
      let f : boxes_size (without (is_box p) (n ∷ ns)) ≡ boxes_size ns = ap (λ z. boxes_size (cond z ns (n ∷ without (is_box p) ns))) t in
      let g : box_size n ≡ box_size c = ap box_size s in
      omega (arith, f, g))
  | inr t ↦ (
      let h = taken-size p c ns (ap (λ z. cond z (Some n) (first (is_box p) ns)) (sym t) ∙ e) in
      let f : boxes_size (without (is_box p) (n ∷ ns)) ≡ box_size n + boxes_size (without (is_box p) ns) = ap (λ z. boxes_size (cond z ns (n ∷ without (is_box p) ns))) t in
      omega (arith, f, h))
]

taken-put : (q : ℕ) (cells : List Term) (p : ℕ) (ns : List Node) → put_in q cells (without (is_box p) ns) ≤ put_in q cells ns
taken-put q cells p [] = omega arith
taken-put q cells p (n ∷ ns) =
    let h : put_in q cells (without (is_box p) ns) ≤ put_in q cells ns = taken-put q cells p ns in
    elim (n.id == p) as (λ t. put_in q cells (cond t ns (n ∷ without (is_box p) ns)) ≤ put_size q cells (named_columns n) + put_in q cells ns) [ true ↦ omega arith | false ↦ omega (arith, h) ]

taken-times : (b p : ℕ) (ns : List Node) → times b (numbers (without (is_box p) ns)) ≤ times b (numbers ns)
taken-times b p [] = omega arith
taken-times b p (n ∷ ns) =
    let h : times b (numbers (without (is_box p) ns)) ≤ times b (numbers ns) = taken-times b p ns in
    elim (n.id == p) as (λ t. times b (numbers (cond t ns (n ∷ without (is_box p) ns))) ≤ cond (n.id == b) 1 0 + times b (numbers ns)) [ true ↦ omega arith | false ↦ omega (arith, h) ]

none-times : (b : ℕ) (xs : List ℕ) → holds b xs ≡ false → times b xs ≡ 0
none-times b [] e = refl
none-times b (x ∷ xs) e = elim (x == b) as (λ v. (v || holds b xs) ≡ false → cond v 1 0 + times b xs ≡ 0) [
  | true ↦ λ f. absurd (let z : ⊥ = cc in z)
  | false ↦ λ f. (let h = none-times b xs f in omega (arith, h))
] e

once-times : (b : ℕ) (xs : List ℕ) → EachOnce xs → times b xs ≤ 1
once-times b [] u = omega arith
once-times b (x ∷ xs) u =
    let h = once-times b xs u.1 in
    elim (x == b) as (λ v. (x == b) ≡ v → cond v 1 0 + times b xs ≤ 1) [
      | true ↦ λ f. (let i = none-times b xs (subst (λ z. holds z xs ≡ false) (eqb-true x b f) u.0) in omega (arith, i))
      | false ↦ λ f. omega (arith, h)
    ] refl

at-most-once : (s t : ℕ) → t ≤ 1 → s * t ≤ s
at-most-once s zero h = omega arith
at-most-once s (suc zero) h = omega arith
at-most-once s (suc (suc t)) h = absurd (omega (arith, h))

-- ---- levels

levels-append : (q : ℕ) (ns ms : List Name) → levels_of q (ns ++ ms) ≡ max (levels_of q ns) (levels_of q ms)
levels-append q [] ms = omega arith
levels-append q (n ∷ ns) ms = let h : levels_of q (ns ++ ms) ≡ max (levels_of q ns) (levels_of q ms) = levels-append q ns ms in omega (arith, h)

module _ (q : ℕ) (cells : List Term) where
  -- no column of q is named, or one is, where there are so many levels
  named-or-not : (l : ℕ) (cs : List Column) → (put_levels q cells cs ≡ 0) ⊎ (cut l ≤ levels_of q (map (name_of l) cs))
  named-or-not l [] = inl refl
  named-or-not l (c ∷ cs) = elim (named-or-not l cs) [
    | inl e ↦ (elim (c.quant == q) as (λ t. (max (cond t (cell_levels (cell_at c.place cells)) 0) (put_levels q cells cs) ≡ 0) ⊎ (cut l ≤ max (cond t (cut l) 0) (levels_of q (map (name_of l) cs)))) [
      | true ↦ inr (omega arith)
      | false ↦ inl (omega (arith, e))
    ])
    | inr h ↦ inr (omega (arith, h))
  ]

  fits : (l m : ℕ) (cs : List Column) → m ≤ l + put_levels q cells cs → m ≤ l + deepest cells → levels_of q (map (name_of l) cs) + deepest cells ≤ room → m ≤ max l room
  fits l m cs h i w = elim (named-or-not l cs) [
    | inl e ↦ omega (arith, h, e)
    | inr k ↦ omega (arith, i, k, w)
  ]

  cells-fit : (xs : List Term) → levels_of q (flat_map names_in_cell xs) + deepest cells ≤ room → deepest (map (substituted q cells) xs) ≤ max (deepest xs) room
  cells-fit [] w = omega arith
  cells-fit (x ∷ xs) w =
      let e = levels-append q (names_in_cell x) (flat_map names_in_cell xs) in
      let h = fits (cell_levels x) (cell_levels (substituted q cells x)) (columns_in x) (cell-levels q cells x) (cell-deepest q cells x) (omega (arith, w, e)) in
      let i : deepest (map (substituted q cells) xs) ≤ max (deepest xs) room = cells-fit xs (omega (arith, w, e)) in
      omega (arith, h, i)

  conds-fit : (cs : List Cond) → levels_of q (flat_map names_in_cond cs) + deepest cells ≤ room → deepest_conjunct (map (substituted_cond q cells) cs) ≤ max (deepest_conjunct cs) room
  conds-fit [] w = omega arith
  conds-fit (c ∷ cs) w =
      let e = levels-append q (names_in_cond c) (flat_map names_in_cond cs) in
      let h = fits (cond_levels c) (cond_levels (substituted_cond q cells c)) (columns_in_cond c) (cond-levels q cells c) (cond-deepest q cells c) (omega (arith, w, e)) in
      let i : deepest_conjunct (map (substituted_cond q cells) cs) ≤ max (deepest_conjunct cs) room = conds-fit cs (omega (arith, w, e)) in
      omega (arith, h, i)

  box-fits : (n : Node) → levels_of q (names_in_box n) + deepest cells ≤ room → box_levels (put_node q cells n) ≤ max (box_levels n) room
  box-fits n w =
      let e = levels-append q (flat_map names_in_cell n.parts.head) (flat_map names_in_cond n.parts.conds.items) in
      let h = cells-fit n.parts.head (omega (arith, w, e)) in
      let i = conds-fit n.parts.conds.items (omega (arith, w, e)) in
      omega (arith, h, i)

deepest-append : (cs ds : List Cond) → deepest_conjunct (cs ++ ds) ≡ max (deepest_conjunct cs) (deepest_conjunct ds)
deepest-append [] ds = omega arith
deepest-append (c ∷ cs) ds = let h : deepest_conjunct (cs ++ ds) ≡ max (deepest_conjunct cs) (deepest_conjunct ds) = deepest-append cs ds in omega (arith, h)

module _ (b q : ℕ) (c : Node) (quants : List OwnedQuant) where
  merged-fits : (n : Node) → levels_of q (names_in_box n) + deepest c.parts.head ≤ room → box_levels (merge_node b q c quants n) ≤ max (max (box_levels n) room) (box_levels c)
  merged-fits n w =
      let h = box-fits q c.parts.head n w in
      let e = deepest-append (map (substituted_cond q c.parts.head) n.parts.conds.items) c.parts.conds.items in
      elim (n.id == b) as (λ t. box_levels (cond t (merged q c quants n) (put_node q c.parts.head n)) ≤ max (max (box_levels n) room) (box_levels c)) [
        | true ↦ omega (arith, h, e)
        | false ↦ omega (arith, h)
      ]

  boxes-fit : (ns : List Node) → levels_of q (names_in ns) + deepest c.parts.head ≤ room → boxes_levels (map (merge_node b q c quants) ns) ≤ max (max (boxes_levels ns) room) (box_levels c)
  boxes-fit [] w = omega arith
  boxes-fit (n ∷ ns) w =
      let e = levels-append q (names_in_box n) (names_in ns) in
      let h = merged-fits n (omega (arith, w, e)) in
      let i : boxes_levels (map (merge_node b q c quants) ns) ≤ max (max (boxes_levels ns) room) (box_levels c) = boxes-fit ns (omega (arith, w, e)) in
      omega (arith, h, i)

taken-names : (q p : ℕ) (ns : List Node) → levels_of q (names_in (without (is_box p) ns)) ≤ levels_of q (names_in ns)
taken-names q p [] = omega arith
taken-names q p (n ∷ ns) =
    let h : levels_of q (names_in (without (is_box p) ns)) ≤ levels_of q (names_in ns) = taken-names q p ns in
    let e = levels-append q (names_in_box n) (names_in ns) in
    let f = levels-append q (names_in_box n) (names_in (without (is_box p) ns)) in
    elim (n.id == p) as (λ t. levels_of q (names_in (cond t ns (n ∷ without (is_box p) ns))) ≤ levels_of q (names_in_box n ++ names_in ns)) [ true ↦ omega (arith, e) | false ↦ omega (arith, h, e, f) ]

taken-levels : (p : ℕ) (c : Node) (ns : List Node) → first (is_box p) ns ≡ Some c → max (boxes_levels (without (is_box p) ns)) (box_levels c) ≤ boxes_levels ns
taken-levels p c [] e = absurd (let z : ⊥ = cc in z)
taken-levels p c (n ∷ ns) e = elim (cases_Bool (n.id == p)) [
  | inl t ↦ (
      let s : n ≡ c = some-is n c (ap (λ z. cond z (Some n) (first (is_box p) ns)) (sym t) ∙ e) in
      let f : boxes_levels (without (is_box p) (n ∷ ns)) ≡ boxes_levels ns = ap (λ z. boxes_levels (cond z ns (n ∷ without (is_box p) ns))) t in
      let g : box_levels n ≡ box_levels c = ap box_levels s in
      omega (arith, f, g))
  | inr t ↦ (
      let h = taken-levels p c ns (ap (λ z. cond z (Some n) (first (is_box p) ns)) (sym t) ∙ e) in
      let f : boxes_levels (without (is_box p) (n ∷ ns)) ≡ max (box_levels n) (boxes_levels (without (is_box p) ns)) = ap (λ z. boxes_levels (cond z ns (n ∷ without (is_box p) ns))) t in
      omega (arith, f, h))
]

-- ---- the graph after M1

module _ (g : QueryGraph) (b c : Node) (us : List OwnedQuant) (r : OwnedQuant) (vs : List OwnedQuant) (m : IsMergeable g b c us r vs) where
  abbrev quants : List OwnedQuant
  quants = us ++ (c.quants ++ vs)

  same-c : c.id ≡ r.over
  same-c = eqb-true c.id r.over (some-in (is_box r.over) g.boxes c m.under).1

  found-c : first (is_box c.id) g.boxes ≡ Some c
  found-c = ap (λ z. first (is_box z) g.boxes) same-c ∙ m.under

  abbrev after : List Node
  after = map (merge_node b.id r.id c quants) (without (is_box c.id) g.boxes)

  few-after : EachOnce (numbers g.boxes) → boxes_size after ≤ boxes_size g.boxes + most_copied
  few-after u =
      let rest = without (is_box c.id) g.boxes in
      let h = boxes-size b.id r.id c quants rest in
      let i = taken-size c.id c g.boxes found-c in
      let j = taken-put r.id c.parts.head c.id g.boxes in
      let k = boxes-weigh r.id c.parts.head g.boxes in
      let l = weigh-each c.parts.head (places_of r.id (names_in g.boxes)) in
      let n = each-copied (places_of r.id (names_in g.boxes)) 1 c.parts.head in
      let o = taken-times b.id c.id g.boxes in
      let p = once-times b.id (numbers g.boxes) u in
      let s = at-most-once (conjuncts_size c.parts.conds.items) (times b.id (numbers rest)) (omega (arith, o, p)) in
      let w = m.few_copies in
      omega (arith, h, i, j, k, l, n, s, w)

  fits-after : boxes_levels after ≤ max (boxes_levels g.boxes) room
  fits-after =
      let rest = without (is_box c.id) g.boxes in
      let o = taken-names r.id c.id g.boxes in
      let w = m.levels_fit in
      let h = boxes-fit b.id r.id c quants rest (omega (arith, o, w)) in
      let i = taken-levels c.id c g.boxes found-c in
      omega (arith, h, i)

  pub merge-few : EachOnce (numbers g.boxes) → boxes_size (merged_in b c us r vs g).boxes ≤ boxes_size g.boxes + most_copied
  merge-few u = let h = few-after u in let i = some-size (λ n. holds n.id (reached (g.root ∷ []) after)) after in omega (arith, h, i)

  pub merge-fits : boxes_levels (merged_in b c us r vs g).boxes ≤ max (boxes_levels g.boxes) room
  merge-fits = let h = fits-after in let i = some-levels (λ n. holds n.id (reached (g.root ∷ []) after)) after in omega (arith, h, i)

-- ---- at a place

-- one list is split once at one place
split-once : {X : Type 0} (us vs xs ys : List X) (r s : X) → us ++ r ∷ vs ≡ xs ++ s ∷ ys → length us ≡ length xs → (us ≡ xs) × ((r ≡ s) × (vs ≡ ys))
split-once [] vs [] ys r s e l =
    let a : r ≡ s = cc in
    let b : vs ≡ ys = cc in
    (refl, (a, b))
split-once [] vs (x ∷ xs) ys r s e l = absurd (let z : ⊥ = omega (arith, l) in z)
split-once (u ∷ us) vs [] ys r s e l = absurd (let z : ⊥ = omega (arith, l) in z)
split-once {X = X} (u ∷ us) vs (x ∷ xs) ys r s e l =
    let a : us ++ r ∷ vs ≡ xs ++ s ∷ ys = cc in
    let n : length us ≡ length xs = omega (arith, l) in
    let h = split-once us vs xs ys r s a n in
    let d : u ≡ x = cc in
    (ap₂ (λ (z : X) (zs : List X). z ∷ zs) d h.0, h.1)

-- what M1 leads to is the one graph that its condition tells
pub merge-only : (p : Place) (g h : QueryGraph) → MayMergeSelect p g → MergesSelect p g h
    → (b : Node) × ((c : Node) × ((us : List OwnedQuant) × ((r : OwnedQuant) × ((vs : List OwnedQuant) × (IsMergeable g b c us r vs × (h ≡ merged_in b c us r vs g))))))
unfolding MayMergeSelect MergesSelect
merge-only p g h may (b, (c, (us, (r, (vs, a))))) =
    let n = may.1 in
    let m = n.1.1.1.1.1.2 in
    let same-b : n.0 ≡ b = some-is n.0 b (sym n.1.1.1.1.1.0 ∙ a.at) in
    let s = split-once n.1.1.0 n.1.1.1.1.0 us vs n.1.1.1.0 r (sym m.split ∙ ap (λ (x : Node). x.quants) same-b ∙ a.split) (let x = n.1.1.1.1.1.1 in let y = a.nth in omega (arith, x, y)) in
    let same-c : n.1.0 ≡ c = some-is n.1.0 c (sym m.under ∙ ap (λ (x : OwnedQuant). box_of x.over g) s.1.0 ∙ a.under) in (
      b,
      (
        c,
        (
          us,
          (
            r,
            (
              vs,
              (
                subst (λ x. IsMergeable g x c us r vs) same-b (subst (λ x. IsMergeable g n.0 x us r vs) same-c (subst (λ x. IsMergeable g n.0 n.1.0 x r vs) s.0 (subst (λ x. IsMergeable g n.0 n.1.0 n.1.1.0 x vs) s.1.0 (subst (λ x. IsMergeable g n.0 n.1.0 n.1.1.0 n.1.1.1.0 x) s.1.1 m)))),
                a.after,
              ),
            ),
          ),
        ),
      ),
    )

pub place-few : (p : Place) (g h : QueryGraph) → EachOnce (numbers g.boxes) → MayMergeSelect p g → MergesSelect p g h → boxes_size h.boxes ≤ boxes_size g.boxes + most_copied
place-few p g h u may act =
    let o = merge-only p g h may act in
    let i = merge-few g o.0 o.1.0 o.1.1.0 o.1.1.1.0 o.1.1.1.1.0 o.1.1.1.1.1.0 u in
    let e = ap (λ (x : QueryGraph). boxes_size x.boxes) o.1.1.1.1.1.1 in
    omega (arith, i, e)

pub place-fits : (p : Place) (g h : QueryGraph) → MayMergeSelect p g → MergesSelect p g h → boxes_levels h.boxes ≤ max (boxes_levels g.boxes) room
place-fits p g h may act =
    let o = merge-only p g h may act in
    let i = merge-fits g o.0 o.1.0 o.1.1.0 o.1.1.1.0 o.1.1.1.1.0 o.1.1.1.1.1.0 in
    let e = ap (λ (x : QueryGraph). boxes_levels x.boxes) o.1.1.1.1.1.1 in
    omega (arith, i, e)
