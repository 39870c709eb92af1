-- What a split asks for its bags follows from what it asks for soundness.
use Rattle.std.proofs.Common.{ℕ, ◌==◌, ◌≡◌, ◌&&◌, ◌||◌, not, nat_lt, nat_le, cond, Bool, true, false, List, [], ◌∷◌, ◌++◌, refl, sym, ap, ◌∙◌, inl, inr, arith}
use Rattle.std.specs.List.{list_any}
use Rattle.std.proofs.lemmas.Bool.{and_from, cases_Bool, eq-eqb, le-leb, lt-ltb, not-true, or_from, or_parts}
use Rattle.qgm_core.specs.Boxes.{is_quant, owns}
use Rattle.list_laws.specs.Lists.{In}
use Rattle.qgm_core.specs.declared.node.Node.{Node}
use Rattle.qgm_core.specs.declared.owned.OwnedQuant.{OwnedQuant}
use Rattle.qgm_wellformed.specs.Columns.{columns_of}
use Rattle.qgm_meaning.specs.Searches.{binds, binds_cond, names, names_cond}
use Rattle.qgm_terms.specs.Terms.{Cond}
use Rattle.qgm_terms.specs.Wanted.{any_in, any_in_cond}
use Rattle.qgm_edit_laws.specs.Graph.{Sound}
use Rattle.qgm_edit_laws.proofs.AnyPut.{conds-names, heads-names}
use Rattle.qgm_edit_laws.proofs.Ranks.{has-in}
use Rattle.qgm_edit_laws.proofs.Read.{column-named, is_at, unbound-reads}
use Rattle.qgm_edit_laws.proofs.TypedKept.{found}
use Rattle.qgm_edit_laws.proofs.ReadKept.{search-is}
use Rattle.rule_feed.specs.Split.{MaySplit, MaySplitSound, SplitRows, sizes_of, stays_in, strays}
use Rattle.rule_feed.proofs.SplitBag.{split-bags}
use Rattle.rule_feed.proofs.SplitReads.{in-sizes, size, size-of}
use Rattle.rule_feed.proofs.SplitSound as split
use Rattle.list_laws.proofs.Membership.{any-from, in-left, in-right}
use Rattle.list_laws.proofs.Booleans.{clash}

stays-of : (ws : List (ℕ × ℕ)) (q r j : ℕ) → list_any (λ p. p.0 == r) ws ≡ true → stays_in ws q r j ≡ (nat_lt 0 j && nat_le j (size ws r))
stays-of [] q r j h = absurd (let z : ⊥ = cc in z)
stays-of (p ∷ ws) q r j h = elim (cases_Bool (p.0 == r)) [
  | inl t ↦ ap (λ b. cond b (nat_lt 0 j && nat_le j p.1) (stays_in ws q r j)) t ∙ sym (ap (λ b. nat_lt 0 j && nat_le j (cond b p.1 (size ws r))) t)
  | inr t ↦ ap (λ b. cond b (nat_lt 0 j && nat_le j p.1) (stays_in ws q r j)) t ∙ stays-of ws q r j (sym (ap (λ b. b || list_any (λ (p : ℕ × ℕ). p.0 == r) ws) t) ∙ h) ∙ sym (ap (λ b. nat_lt 0 j && nat_le j (cond b p.1 (size ws r))) t)
]

stays-none : (ws : List (ℕ × ℕ)) (q r j : ℕ) → list_any (λ p. p.0 == r) ws ≡ false → stays_in ws q r j ≡ not (r == q)
stays-none [] q r j h = refl
stays-none (p ∷ ws) q r j h =
    let n = or_parts (p.0 == r) (list_any (λ (p : ℕ × ℕ). p.0 == r) ws) h in
    ap (λ b. cond b (nat_lt 0 j && nat_le j p.1) (stays_in ws q r j)) n.0 ∙ stays-none ws q r j n.1

module _ (xs ys : List Node) (root : ℕ) (b : Node) (wide : OwnedQuant → ℕ) (q s : ℕ) (us ps vs : List OwnedQuant) (rest taken : List Cond) (w : Sound (xs ++ ys) root) (m : MaySplitSound xs ys b wide q s us ps vs rest taken) where
  abbrev bs : List Node
  bs = xs ++ ys

  abbrev ws : List (ℕ × ℕ)
  ws = sizes_of wide ps

  abbrev P : ℕ → Bool
  P k = list_any (is_quant k) ps

  none-sub : (u v : Bool) → (u ≡ true → v ≡ true) → v ≡ false → u ≡ false
  none-sub u v h e = elim (cases_Bool u) [ inr t ↦ t | inl t ↦ absurd (clash v (h t) e) ]

  stays : (y : Node) → In y bs → (r j : ℕ) → list_any (is_at r j) (columns_of y) ≡ true → stays_in ws q r j ≡ true
  stays y jy r j h = elim (cases_Bool (P r)) [
    | inr t ↦ (
        let u = found bs root w y jy r (column-named r j y h) in
        let held : list_any (owns r) bs ≡ true = any-from (owns r) u.owner bs u.owner_in (any-from (is_quant r) u.quant u.owner.quants u.quant_in (eq-eqb u.quant.id r u.is_q)) in
        stays-none ws q r j (in-sizes wide ps r ∙ t) ∙ ap not (split.not-q xs ys root b wide q s us ps vs rest taken w m r held))
    | inl t ↦ (
        let n = or_parts (list_any (names r) y.parts.head) (list_any (names_cond r) y.parts.conds.items) (split.nodes-none xs ys root b wide q s us ps vs rest taken w m y jy r t) in
        let rd = unbound-reads r j y (or_from (list_any (binds r) y.parts.head) (list_any (binds_cond r) y.parts.conds.items)
        (none-sub (list_any (binds r) y.parts.head) (list_any (names r) y.parts.head) (heads-names r y.parts.head) n.0)
        (none-sub (list_any (binds_cond r) y.parts.conds.items) (list_any (names_cond r) y.parts.conds.items) (conds-names r y.parts.conds.items) n.1)) h in
        let z = size-of wide ps r t in
        let o = has-in z.0.over ys (m.below z.0 z.1.0) in
        let in-o = in-right o.0 xs ys o.1.0 in
        let fit = w.fits y jy r j rd b z.0 o.0 (in-left b xs ys m.above) (split.old-quant xs ys root b wide q s us ps vs rest taken w m z.0 (inr (inl z.1.0))) z.1.1.0 in-o o.1.1 in
        let wd = m.widths z.0 o.0 z.1.0 in-o o.1.1 in
        let sz = z.1.1.1 in let lo = fit.0 in let hi = fit.1 in
        stays-of ws q r j (in-sizes wide ps r ∙ t) ∙ and_from (nat_lt 0 j) (nat_le j (size ws r)) (lt-ltb 0 j (omega (arith, lo))) (le-leb j (size ws r) (omega (arith, hi, wd, sz))))
  ]

  fit-all : (y : Node) → In y bs → (list_any (any_in (strays ws q)) y.parts.head ≡ false) × (list_any (any_in_cond (strays ws q)) y.parts.conds.items ≡ false)
  fit-all y jy = or_parts (list_any (any_in (strays ws q)) y.parts.head) (list_any (any_in_cond (strays ws q)) y.parts.conds.items) (elim (cases_Bool (list_any (any_in (strays ws q)) y.parts.head || list_any (any_in_cond (strays ws q)) y.parts.conds.items)) [
    | inr e ↦ e
    | inl e ↦ absurd (
        let u = search-is (λ r j. not (stays_in ws q r j)) (λ r. true) y e in
        clash (stays_in ws q u.0 u.1.0) (stays y jy u.0 u.1.0 u.1.1.1) (not-true (stays_in ws q u.0 u.1.0) u.1.1.0))
  ])

  pub may : MaySplit xs ys b ws q s us ps vs rest taken
  may = record {
    in_b = in-left b xs ys m.above;
    a_select = m.a_select;
    quants = m.quants;
    conds = m.conds;
    new_s = m.new_s;
    not_q = λ y j. or_parts (list_any (names q) y.parts.head) (list_any (names_cond q) y.parts.conds.items) (split.no-q xs ys root b wide q s us ps vs rest taken w m y j).1;
    fit = fit-all;
  }

pub split-rows : SplitRows
split-rows = λ xs ys root b wide q s us ps vs rest taken w m tables e.
    split-bags xs ys root b (sizes_of wide ps) q s us ps vs rest taken w.ordered (may xs ys root b wide q s us ps vs rest taken w m) (split.sound-after xs ys root b wide q s us ps vs rest taken w m) (split.one-after xs ys root b wide q s us ps vs rest taken w m) tables e
