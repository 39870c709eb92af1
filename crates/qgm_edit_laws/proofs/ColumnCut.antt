-- A box that isn't fed keeps its shape without a column that is no key.
use Rattle.std.proofs.Common.{ℕ, zero, suc, ◌≡◌, ◌&&◌, ◌||◌, ◌-◌, ◌≤◌, ◌<◌, not, Bool, true, false, List, [], ◌∷◌, take, drop, length, refl, ap, ◌∙◌, inl, inr, arith}
use Rattle.std.specs.Prelude.{nat_le}
use Rattle.std.specs.List.{flat_map, list_all, list_any, remove}
use Rattle.std.proofs.lemmas.Bool.{and_from, and_parts, cases_Bool, le-leb, lt-ltb, not-true, or_cases, or_left, or_right}
use Rattle.qgm_core.specs.Boxes.{owns, width}
use Rattle.qgm_core.specs.Edits.{without_cell}
use Rattle.qgm_core.specs.Kinds.{is_F, is_fed, is_plain, width_by}
use Rattle.qgm_core.specs.declared.kinds.BoxKind.{BoxKind}
use Rattle.qgm_core.specs.declared.kinds.BoxKind.TheVariants.{Base, Group, OuterJoin, Select, SetOp}
use Rattle.qgm_core.specs.declared.kinds.Role.{Role}
use Rattle.qgm_core.specs.declared.kinds.Role.TheVariants.{Fed, Magic, Plain}
use Rattle.qgm_core.specs.declared.node.Node.{Node}
use Rattle.qgm_core.specs.declared.owned.OwnedQuant.{OwnedQuant}
use Rattle.qgm_terms.specs.Named.{names_in, nodes_in, nodes_in_cond}
use Rattle.qgm_terms.specs.Terms.{Term}
use Rattle.qgm_terms.specs.Wanted.{has_aggregate, has_aggregate_cond, reads, reads_cond}
use Rattle.qgm_wellformed.specs.Shapes.{are_F, head_folds, head_is_own, is_aggregate, is_column, is_none, is_scalar, is_unfolded, kind_fits, looks_up, node_fits, role_fits, shape_fits}
use Rattle.qgm_edit_laws.specs.FormedColumn.{keys_of}
use Rattle.qgm_edit_laws.specs.Graph.{BareBy}
use Rattle.qgm_edit_laws.proofs.Column.{length-remove}
use Rattle.qgm_edit_laws.proofs.ColumnTypes.{all-less}
use Rattle.qgm_edit_laws.proofs.Naming.{any-remove}
use Rattle.qgm_edit_laws.proofs.ShapedPut.{all-joined, all-parts}
use Rattle.qgm_edit_laws.proofs.ShapeParts.{shape-from, shape-parts}
use Rattle.list_laws.proofs.Membership.{all-from, all-in}
use Rattle.list_laws.proofs.Booleans.{clash}

-- ---- lists with an element less

none-less : (f : Term → Bool) (i : ℕ) (xs : List Term) → not (list_any f xs) ≡ true → not (list_any f (remove xs i)) ≡ true
none-less f i xs h = elim (cases_Bool (list_any f (remove xs i))) [
  | inr n ↦ ap not n
  | inl t ↦ absurd (clash (not (list_any f xs)) h (ap not (any-remove f i xs t)))
]

flat-less : {X : Type 0} (p : X → Bool) (f : Term → List X) (xs : List Term) (i : ℕ) → list_all p (flat_map f xs) ≡ true → list_all p (flat_map f (remove xs i)) ≡ true
flat-less p f [] zero h = refl
flat-less p f [] (suc i) h = refl
flat-less p f (x ∷ xs) zero h = (all-parts p (f x) (flat_map f xs) h).1
flat-less p f (x ∷ xs) (suc i) h = let a = all-parts p (f x) (flat_map f xs) h in all-joined p (f x) (flat_map f (remove xs i)) a.0 (flat-less p f xs i a.1)

-- behind the first n
take-less : (xs : List Term) (n i : ℕ) → n ≤ i → take n (remove xs i) ≡ take n xs
take-less xs zero i h = refl
take-less [] (suc n) zero h = refl
take-less [] (suc n) (suc i) h = refl
take-less (x ∷ xs) (suc n) zero h = absurd (omega arith)
take-less (x ∷ xs) (suc n) (suc i) h = ap (λ z. x ∷ z) (take-less xs n i (omega arith))

drop-less : (p : Term → Bool) (xs : List Term) (n i : ℕ) → n ≤ i → list_all p (drop n xs) ≡ true → list_all p (drop n (remove xs i)) ≡ true
drop-less p xs zero i h a = all-less p xs i a
drop-less p [] (suc n) zero h a = refl
drop-less p [] (suc n) (suc i) h a = refl
drop-less p (x ∷ xs) (suc n) zero h a = absurd (omega arith)
drop-less p (x ∷ xs) (suc n) (suc i) h a = drop-less p xs n i (omega arith) a

module _ (root : ℕ) (bs : List Node) (b : Node) (k : ℕ) (bare : BareBy b.parts.kind b) (one : 1 ≤ k) (last : k ≤ length b.parts.head)
    (not_fed : is_fed b.parts.role ≡ false) (no_key : keys_of b.parts.kind < k) (left : is_scalar bs b.id ≡ true → 2 ≤ length b.parts.head) where
  abbrev less : Node
  less = without_cell (k - 1) b

  empty : b.parts.head ≡ [] → ⊥
  empty e = let a : length b.parts.head ≡ 0 = ap length e in omega arith

  unfolded-less : is_unfolded b ≡ true → is_unfolded less ≡ true
  unfolded-less h =
      let a = and_parts (not (list_any has_aggregate b.parts.head)) (not (list_any has_aggregate_cond b.parts.conds.items)) h in
      and_from (not (list_any has_aggregate less.parts.head)) (not (list_any has_aggregate_cond b.parts.conds.items)) (none-less has_aggregate (k - 1) b.parts.head a.0) a.1

  own-less : head_is_own b ≡ true → head_is_own less ≡ true
  own-less h = flat-less (λ q. owns q b) names_in b.parts.head (k - 1) h

  folds-less : (keys : ℕ) → keys < k → head_folds keys b.parts.head ≡ true → head_folds keys less.parts.head ≡ true
  folds-less keys l h =
      let a = and_parts (nat_le keys (length b.parts.head) && not (list_any has_aggregate (take keys b.parts.head))) (list_all is_aggregate (drop keys b.parts.head)) h in
      let d = and_parts (nat_le keys (length b.parts.head)) (not (list_any has_aggregate (take keys b.parts.head))) a.0 in
      let e = length-remove b.parts.head (k - 1) (omega arith) in
      and_from (nat_le keys (length less.parts.head) && not (list_any has_aggregate (take keys less.parts.head))) (list_all is_aggregate (drop keys less.parts.head))
      (and_from (nat_le keys (length less.parts.head)) (not (list_any has_aggregate (take keys less.parts.head))) (le-leb keys (length less.parts.head) (omega arith)) (ap (λ z. not (list_any has_aggregate z)) (take-less b.parts.head keys (k - 1) (omega arith)) ∙ d.1))
      (drop-less is_aggregate b.parts.head keys (k - 1) (omega arith) a.1)

  role-less : (r : Role) → is_fed r ≡ false → role_fits root bs b r ≡ true → role_fits root bs less r ≡ true
  role-less Plain n h = refl
  role-less Magic n h = h
  role-less Fed n h = absurd (let z : ⊥ = cc in z)

  kind-less : (n : BoxKind) → BareBy n b → keys_of n < k → kind_fits root bs b n ≡ true → kind_fits root bs less n ≡ true
  kind-less (Base table) x l h = absurd (empty x.1)
  kind-less Select x l h =
      let a = and_parts (is_unfolded b) (role_fits root bs b b.parts.role) h in
      and_from (is_unfolded less) (role_fits root bs less b.parts.role) (unfolded-less a.0) (role-less b.parts.role not_fed a.1)
  kind-less (Group keys) x l h =
      let a = and_parts (are_F 1 b.quants && is_none b.parts.conds.items && is_plain b.parts.role && head_folds keys b.parts.head) (head_is_own b) h in
      let d = and_parts (are_F 1 b.quants && is_none b.parts.conds.items && is_plain b.parts.role) (head_folds keys b.parts.head) a.0 in
      and_from (are_F 1 b.quants && is_none b.parts.conds.items && is_plain b.parts.role && head_folds keys less.parts.head) (head_is_own less)
      (and_from (are_F 1 b.quants && is_none b.parts.conds.items && is_plain b.parts.role) (head_folds keys less.parts.head) d.0 (folds-less keys l d.1)) (own-less a.1)
  kind-less (SetOp form types) x l h = absurd (empty x.0)
  kind-less OuterJoin x l h =
      let a = and_parts (are_F 2 b.quants && list_all is_column b.parts.head && head_is_own b && is_unfolded b) (is_plain b.parts.role) h in
      let d = and_parts (are_F 2 b.quants && list_all is_column b.parts.head && head_is_own b) (is_unfolded b) a.0 in
      let e = and_parts (are_F 2 b.quants && list_all is_column b.parts.head) (head_is_own b) d.0 in
      let f = and_parts (are_F 2 b.quants) (list_all is_column b.parts.head) e.0 in
      and_from (are_F 2 b.quants && list_all is_column less.parts.head && head_is_own less && is_unfolded less) (is_plain b.parts.role)
      (and_from (are_F 2 b.quants && list_all is_column less.parts.head && head_is_own less) (is_unfolded less)
      (and_from (are_F 2 b.quants && list_all is_column less.parts.head) (head_is_own less)
      (and_from (are_F 2 b.quants) (list_all is_column less.parts.head) f.0 (all-less is_column b.parts.head (k - 1) f.1)) (own-less e.1)) (unfolded-less d.1)) a.1

  looks-less : (q : ℕ) → looks_up q b ≡ false → looks_up q less ≡ false
  looks-less q n = elim (cases_Bool (looks_up q less)) [
    | inr f ↦ f
    | inl t ↦ absurd (clash (looks_up q b) (elim (or_cases (list_any (reads q) less.parts.head) (list_any (reads_cond q) b.parts.conds.items) t) [
      | inl a ↦ or_left (list_any (reads q) b.parts.head) (list_any (reads_cond q) b.parts.conds.items) (any-remove (reads q) (k - 1) b.parts.head a)
      | inr a ↦ or_right (list_any (reads q) b.parts.head) (list_any (reads_cond q) b.parts.conds.items) a
    ]) n)
  ]

  wide-less : (n : BoxKind) → BareBy n b → is_scalar bs b.id ≡ true → 1 ≤ width_by n (length less.parts.head)
  wide-less n x t = by n x
    where
      long : 1 ≤ length less.parts.head
      long = let e = length-remove b.parts.head (k - 1) (omega arith) in let l = left t in omega arith

      by : (n : BoxKind) → BareBy n b → 1 ≤ width_by n (length less.parts.head)
      by (Base table) x = absurd (empty x.1)
      by Select x = long
      by (Group keys) x = long
      by (SetOp form types) x = absurd (empty x.0)
      by OuterJoin x = long

  pub cut-fits : shape_fits root bs b ≡ true → shape_fits root bs less ≡ true
  cut-fits h =
      let s = shape-parts root bs b h in
      let a = all-parts (node_fits b.quants) (flat_map nodes_in b.parts.head) (flat_map nodes_in_cond b.parts.conds.items) s.nodes in
      shape-from root bs less (record {
        kind = kind-less b.parts.kind bare no_key s.kind;
        nodes = all-joined (node_fits b.quants) (flat_map nodes_in less.parts.head) (flat_map nodes_in_cond b.parts.conds.items) (flat-less (node_fits b.quants) nodes_in b.parts.head (k - 1) a.0) a.1;
        placed = all-from (λ (r : OwnedQuant). is_F r.kind || not (looks_up r.id less)) b.quants (λ r i. (
            let d = all-in (λ (r : OwnedQuant). is_F r.kind || not (looks_up r.id b)) r b.quants s.placed i in
            elim (or_cases (is_F r.kind) (not (looks_up r.id b)) d) [
              | inl f ↦ or_left (is_F r.kind) (not (looks_up r.id less)) f
              | inr f ↦ or_right (is_F r.kind) (not (looks_up r.id less)) (ap not (looks-less r.id (not-true (looks_up r.id b) f)))
            ]));
        scalar = λ t. lt-ltb 0 (width less) (wide-less b.parts.kind bare t);
      })
