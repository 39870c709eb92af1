-- Quantifiers move from a box to the one that it ranges over alone, which has its bag and its width.
use Rattle.std.proofs.Common.{length, ℕ, zero, suc, ◌==◌, ◌≡◌, ◌&&◌, ◌||◌, ◌+◌, ◌≤◌, ◌<◌, cond, Bool, true, false, List, [], ◌∷◌, map, take, Some, None, refl, sym, ap, ap₂, subst, ◌∙◌, eqb-true, inl, inr, arith}
use Rattle.std.specs.List.{list_any, flat_map}
use Rattle.std.proofs.lemmas.Bool.{cases_Bool}
use Rattle.row_bag.specs.Bags.{bind}
use Rattle.row_bag.specs.declared.tables.Table.{Table}
use Rattle.qgm_core.specs.declared.node.Node.{Node}
use Rattle.qgm_core.specs.declared.owned.OwnedQuant.{OwnedQuant}
use Rattle.qgm_core.specs.declared.kinds.BoxKind.{BoxKind}
use Rattle.qgm_core.specs.declared.kinds.BoxKind.TheVariants.{Base, Select, Group, SetOp, OuterJoin}
use Rattle.qgm_core.specs.Boxes.{Ordered, has_box, is_quant, owns, overs_of, ids_of, overs_in, ids_in, width}
use Rattle.list_laws.specs.Lists.{first, In, times}
use Rattle.qgm_core.specs.Kinds.{is_F, is_enforce}
use Rattle.qgm_meaning.specs.Meaning.{Family, bag_in, combined, given_by, grouped_rows, of_one, of_two, once_if, outer_rows, over_each, quant_rows, rows_by, rows_found, rows_of}
use Rattle.qgm_meaning.specs.Scope.{loose, loose_by, loose_each, loose_of, looks_found, read_by, under_any}
use Rattle.qgm_meaning.specs.Values.{Bag, Environment, bound}
use Rattle.qgm_edit_laws.specs.Ranges.{moved, moved_range}
use Rattle.qgm_edit_laws.proofs.Edits.{boxes_without, in-without, without-in, times-without, ordered-edit}
use Rattle.qgm_edit_laws.specs.Graph.{binds_row, Fits, BareBy, ArmsBy, reads_in, nodes_in, Sound}
use Rattle.qgm_edit_laws.proofs.Ranks.{has-in, place, place-under, same-box}
use Rattle.qgm_edit_laws.proofs.Scope.{loose-held, only-bag, only-loose, unfold-bag, unfold-loose}
use Rattle.std.specs.Prelude as p
use mathlib.Core.Path.{fun_ext}
use Rattle.qgm_core.proofs.Reaching.{in-has, overs-held}
use Rattle.list_laws.proofs.Counting.{times-append, times-in}
use Rattle.list_laws.proofs.Membership.{eq-false-sym, eq-itself, in-map, map-in}

-- ---- what doesn't change where quantifiers range over other boxes

module _ (b c : ℕ) where
  pub any-moved : (p : OwnedQuant → Bool) (rs : List OwnedQuant) → ((r : OwnedQuant) → p (moved_range b c r) ≡ p r) → list_any p (map (moved_range b c) rs) ≡ list_any p rs
  any-moved p [] h = refl
  any-moved p (r ∷ rs) h = ap₂ (λ x y. x || y) (h r) (any-moved p rs h)

  pub binds-moved : (q : ℕ) (rs : List OwnedQuant) → binds_row q (map (moved_range b c) rs) ≡ binds_row q rs
  binds-moved q rs = any-moved (λ r. is_F r.kind && is_quant q r) rs (λ r. refl)

  -- two families that are one at the box that a quantifier ranged over and at the one that it ranges over now
  abbrev pub SameBoxes : {X : Type 0} → (ℕ → X) → (ℕ → X) → List OwnedQuant → Type 0
  SameBoxes f g rs = (r : OwnedQuant) → In r rs → f (moved_range b c r).over ≡ g r.over

  found-moved : (f g : Family) (q : ℕ) (rs : List OwnedQuant) → SameBoxes f g rs → rows_found (first (is_quant q) (map (moved_range b c) rs)) f ≡ rows_found (first (is_quant q) rs) g
  found-moved f g q [] h = refl
  found-moved f g q (r ∷ rs) h = elim (r.id == q) as (λ t. ◌≡◌ {A = Environment → Bag} (rows_found (cond t (Some (moved_range b c r)) (first (is_quant q) (map (moved_range b c) rs))) f) (rows_found (cond t (Some r) (first (is_quant q) rs)) g)) [
    | true ↦ h r (inl refl)
    | false ↦ found-moved f g q rs (λ r i. h r (inr i))
  ]

  each-moved : (s : Family) (give : Environment → Bag) (rs : List OwnedQuant) (e : Environment) → over_each (map (moved_range b c) rs) s give e ≡ over_each rs s give e
  each-moved s give [] e = refl
  each-moved s give (r ∷ rs) e = elim (is_F r.kind) as (λ t. ◌≡◌ {A = Bag}
      (cond t (bind (s r.id e) (λ cells. over_each (map (moved_range b c) rs) s give (bound r.id cells e))) (over_each (map (moved_range b c) rs) s give e))
      (cond t (bind (s r.id e) (λ cells. over_each rs s give (bound r.id cells e))) (over_each rs s give e))) [
        | true ↦ ap (bind (s r.id e)) (fun_ext (λ v. each-moved s give rs (bound r.id v e)))
        | false ↦ each-moved s give rs e
      ]

  one-moved : (rs : List OwnedQuant) (give : ℕ → Bag) → of_one (map (moved_range b c) rs) give ≡ of_one rs give
  one-moved [] give = refl
  one-moved (r ∷ rs) give = refl

  two-moved : (rs : List OwnedQuant) (give : ℕ → ℕ → Bag) → of_two (map (moved_range b c) rs) give ≡ of_two rs give
  two-moved [] give = refl
  two-moved (r ∷ rs) give = one-moved rs (give r.id)

  kind-moved : (k : BoxKind) (tables : List Table) (n : Node) (s : Family) (e : Environment) → rows_by k tables (moved b c n) s e ≡ rows_by k tables n s e
  kind-moved (Base name) tables n s e = refl
  kind-moved Select tables n s e = ap (once_if (is_enforce n.parts.distinct)) (each-moved s (given_by s n) n.quants e)
  kind-moved (Group k) tables n s e = one-moved n.quants (λ q. grouped_rows k n.parts.head q e (s q e))
  kind-moved (SetOp form w) tables n s e = two-moved n.quants (λ p q. combined form (length w) (s p e) (s q e))
  kind-moved OuterJoin tables n s e = two-moved n.quants (outer_rows n s e)

  pub rows-moved : (tables : List Table) (n : Node) (f g : Family) → SameBoxes f g n.quants → (e : Environment) → rows_of tables (moved b c n) f e ≡ rows_of tables n g e
  rows-moved tables n f g h e = ap (λ (s : Family). rows_by n.parts.kind tables (moved b c n) s e) (fun_ext (λ q. found-moved f g q n.quants h)) ∙ kind-moved n.parts.kind tables n (quant_rows n g) e

  -- ---- what is looked up

  module _ (u v : ℕ → ℕ → Bool) (q : ℕ) where
    under-moved : (rs : List OwnedQuant) → SameBoxes u v rs → under_any (map (moved_range b c) rs) u q ≡ under_any rs v q
    under-moved [] h = refl
    under-moved (r ∷ rs) h = ap₂ (λ x y. x || y) (ap (λ (k : ℕ → Bool). k q) (h r (inl refl))) (under-moved rs (λ r i. h r (inr i)))

    looks-moved : (x : ℕ) (rs : List OwnedQuant) → SameBoxes u v rs → looks_found (first (is_quant x) (map (moved_range b c) rs)) u q ≡ looks_found (first (is_quant x) rs) v q
    looks-moved x [] h = refl
    looks-moved x (r ∷ rs) h = elim (r.id == x) as (λ t. ◌≡◌ {A = Bool} (looks_found (cond t (Some (moved_range b c r)) (first (is_quant x) (map (moved_range b c) rs))) u q) (looks_found (cond t (Some r) (first (is_quant x) rs)) v q)) [
      | true ↦ ap (λ (k : ℕ → Bool). k q) (h r (inl refl))
      | false ↦ looks-moved x rs (λ r i. h r (inr i))
    ]

    own-moved : (k : ℕ) (rs : List OwnedQuant) → list_any (is_quant q) (take k (map (moved_range b c) rs)) ≡ list_any (is_quant q) (take k rs)
    own-moved zero rs = refl
    own-moved (suc k) [] = refl
    own-moved (suc k) (r ∷ rs) = ap (λ y. (r.id == q) || y) (own-moved k rs)

    loose_each-moved : (rs : List OwnedQuant) (n : Node) → SameBoxes u v n.quants → loose_each (map (moved_range b c) rs) (moved b c n) u q ≡ loose_each rs n v q
    loose_each-moved [] n h = ap (λ y. read_by n q || y) (under-moved n.quants h)
    loose_each-moved (r ∷ rs) n h = ap₂ (λ x y. cond (is_F r.kind) (x || (p.not (r.id == q) && y)) y) (looks-moved r.id n.quants h) (loose_each-moved rs n h)

    loose_by-moved : (k : BoxKind) (n : Node) → SameBoxes u v n.quants → loose_by k (moved b c n) u q ≡ loose_by k n v q
    loose_by-moved (Base name) n h = refl
    loose_by-moved Select n h = loose_each-moved n.quants n h
    loose_by-moved (Group k) n h = ap₂ (λ x y. x || (p.not y && read_by n q)) (under-moved n.quants h) (own-moved 1 n.quants)
    loose_by-moved (SetOp form w) n h = under-moved n.quants h
    loose_by-moved OuterJoin n h = ap₂ (λ x y. x || (p.not y && read_by n q)) (under-moved n.quants h) (own-moved 2 n.quants)

  pub loose-moved : (n : Node) (u v : ℕ → ℕ → Bool) → SameBoxes u v n.quants → loose_of (moved b c n) u ≡ loose_of n v
  loose-moved n u v h = fun_ext (λ q. loose_by-moved u v q n.parts.kind n h)

-- b's only quantifier is rq, an F over c, and b gives what c gives
pub record Copies (bs : List Node) (root : ℕ) (nb nc : Node) (rq : OwnedQuant) : Type 0 where
  pub in_b : In nb bs
  pub in_c : In nc bs
  pub a_select : nb.parts.kind ≡ Select
  pub alone : nb.quants ≡ rq ∷ []
  pub is_f : is_F rq.kind ≡ true
  pub over_c : rq.over ≡ nc.id
  pub not_root : (root == nb.id) ≡ false
  pub reads_own : (p : ℕ) → (rq.id == p) ≡ false → read_by nb p ≡ false
  pub widths : width nb ≡ width nc

module _ (bs : List Node) (root : ℕ) (w : Sound bs root) (nb nc : Node) (rq : OwnedQuant) (m : Copies bs root nb nc rq) where
  abbrev pub hm : List Node
  hm = map (moved nb.id nc.id) (boxes_without nb.id bs)

  b-above : place bs nb.id < place bs nc.id
  b-above = subst (λ z. place bs nb.id < place bs z) m.over_c (place-under bs nb rq w.ordered m.in_b (subst (λ z. In rq z) (sym m.alone) (inl refl)))

  c-not-b : (nc.id == nb.id) ≡ false
  c-not-b = elim (cases_Bool (nc.id == nb.id)) [ inl t ↦ (let a = b-above in let e : place bs nc.id ≡ place bs nb.id = ap (place bs) (eqb-true nc.id nb.id t) in absurd (omega arith)) | inr f ↦ f ]

  -- where families are one at b and at c
  both-boxes : {X : Type 0} (f : ℕ → X) → f nb.id ≡ f nc.id → (rs : List OwnedQuant) → SameBoxes nb.id nc.id f f rs
  both-boxes f e rs r i = elim (cases_Bool (r.over == nb.id)) [
    | inl t ↦ ap (λ (b : Bool). f (cond b nc.id r.over)) t ∙ sym e ∙ ap f (sym (eqb-true r.over nb.id t))
    | inr n ↦ ap (λ (b : Bool). f (cond b nc.id r.over)) n
  ]

  same-loose : loose bs nb.id ≡ loose bs nc.id
  same-loose = fun_ext (λ q.
      let u = loose bs in
      ap (λ (k : ℕ → Bool). k q) (unfold-loose bs nb w.ordered m.in_b) ∙ ap (λ k. loose_by k nb u q) m.a_select ∙ ap (λ rs. loose_each rs nb u q) m.alone
      ∙ ap (λ rs. cond (is_F rq.kind) (looks_found (first (is_quant rq.id) rs) u q || (p.not (rq.id == q) && (read_by nb q || under_any rs u q))) (read_by nb q || under_any rs u q)) m.alone
      ∙ ap₂ (λ f t. cond f (looks_found (cond t (Some rq) None) u q || (p.not (rq.id == q) && (read_by nb q || (u rq.over q || false)))) (read_by nb q || (u rq.over q || false))) m.is_f (eq-itself rq.id)
      ∙ ap (λ o. u o q || (p.not (rq.id == q) && (read_by nb q || (u o q || false)))) m.over_c
      ∙ alone (u nc.id q) (rq.id == q) (read_by nb q) (m.reads_own q))
    where
      alone : (l e r : Bool) → (e ≡ false → r ≡ false) → (l || (p.not e && (r || (l || false)))) ≡ l
      alone true e r h = refl
      alone false true r h = refl
      alone false false r h = ap (λ x. x || false) (h refl)

  ordered-m : Ordered hm
  ordered-m = ordered-edit (moved nb.id nc.id) nb.id (λ y. refl) bs w.ordered (λ y r i f j. (
      let x = in-map (moved_range nb.id nc.id) r y.quants j in
      let held = overs-held bs y x.0 w.ordered i x.1.0 in
      let less : place bs y.id < place bs x.0.over = place-under bs y x.0 w.ordered i x.1.0 in
      subst (λ (r : OwnedQuant). (has_box bs r.over ≡ true) × (place bs y.id < place bs r.over) × ((r.over == nb.id) ≡ false)) x.1.1 (elim (cases_Bool (x.0.over == nb.id)) [
        | inl t ↦ subst (λ (b : Bool). (has_box bs (cond b nc.id x.0.over) ≡ true) × (place bs y.id < place bs (cond b nc.id x.0.over)) × ((cond b nc.id x.0.over == nb.id) ≡ false)) (sym t)
            (let e : place bs x.0.over ≡ place bs nb.id = ap (place bs) (eqb-true x.0.over nb.id t) in let a = b-above in (in-has nc bs m.in_c, (omega arith), c-not-b))
        | inr n ↦ subst (λ (b : Bool). (has_box bs (cond b nc.id x.0.over) ≡ true) × (place bs y.id < place bs (cond b nc.id x.0.over)) × ((cond b nc.id x.0.over == nb.id) ≡ false)) (sym n) (held, less, n)
      ])))

  pub in-m : (n : Node) → In n hm → (y : Node) × (In y bs × (((y.id == nb.id) ≡ false) × (moved nb.id nc.id y ≡ n)))
  in-m n i = let x = in-map (moved nb.id nc.id) n (boxes_without nb.id bs) i in let j = in-without nb.id x.0 bs x.1.0 in (x.0, (j.0, (j.1, x.1.1)))

  rooted-m : has_box hm root ≡ true
  rooted-m = let x = has-in root bs w.rooted in subst (λ z. has_box hm z ≡ true) x.1.1 (in-has (moved nb.id nc.id x.0) hm (map-in (moved nb.id nc.id) x.0 (boxes_without nb.id bs) (without-in nb.id x.0 bs x.1.0 (subst (λ z. (z == nb.id) ≡ false) (sym x.1.1) m.not_root))))

  -- the root's bag, where b and c have one bag
  pub moved-bag : (tables : List Table) → ((e : Environment) → bag_in tables bs nb.id e ≡ bag_in tables bs nc.id e) → (env : Environment) → bag_in tables hm root env ≡ bag_in tables bs root env
  moved-bag tables same env = only-bag tables (bag_in tables bs) hm ordered-m (λ n i e. (
      let y = in-m n i in
      subst (λ (z : Node). rows_of tables z (bag_in tables bs) e ≡ bag_in tables bs z.id e) y.1.1.1
      (rows-moved nb.id nc.id tables y.0 (bag_in tables bs) (bag_in tables bs) (both-boxes (bag_in tables bs) (fun_ext same) y.0.quants) e ∙ sym (unfold-bag tables bs y.0 w.ordered y.1.0 e)))) root rooted-m env

  loose-m : (i : ℕ) → has_box hm i ≡ true → loose hm i ≡ loose bs i
  loose-m i held = only-loose (loose bs) hm ordered-m (λ n j. (
      let y = in-m n j in
      subst (λ (z : Node). loose_of z (loose bs) ≡ loose bs z.id) y.1.1.1
      (loose-moved nb.id nc.id y.0 (loose bs) (loose bs) (both-boxes (loose bs) same-loose y.0.quants) ∙ sym (unfold-loose bs y.0 w.ordered y.1.0)))) i held

  times-moved : (x : ℕ) → (x == nb.id) ≡ false → (ns : List Node) → times x (flat_map overs_of (map (moved nb.id nc.id) ns)) ≡ times x (flat_map overs_of ns) + cond (nc.id == x) (times nb.id (flat_map overs_of ns)) 0
  times-moved x n ns = elim (cases_Bool (nc.id == x)) [
    | inl t ↦ all-c t ns ∙ sym (ap (λ (b : Bool). times x (flat_map overs_of ns) + cond b (times nb.id (flat_map overs_of ns)) 0) t)
    | inr f ↦ (let a = all-other f ns in let e : cond (nc.id == x) (times nb.id (flat_map overs_of ns)) 0 ≡ 0 = ap (λ (b : Bool). cond b (times nb.id (flat_map overs_of ns)) 0) f in omega arith)
  ]
    where
      one : (t : (nc.id == x) ≡ true) (rs : List OwnedQuant) → times x (map (λ (r : OwnedQuant). r.over) (map (moved_range nb.id nc.id) rs)) ≡ times x (map (λ (r : OwnedQuant). r.over) rs) + times nb.id (map (λ (r : OwnedQuant). r.over) rs)
      one t [] = omega arith
      one t (r ∷ rs) = let h = one t rs in elim (cases_Bool (r.over == nb.id)) [
        | inl u ↦ (let v : (r.over == x) ≡ false = subst (λ z. (z == x) ≡ false) (sym (eqb-true r.over nb.id u)) (eq-false-sym x nb.id n) in rw (u, v, t) (omega arith))
        | inr u ↦ rw u (omega arith)
      ]

      all-c : (t : (nc.id == x) ≡ true) (ns : List Node) → times x (flat_map overs_of (map (moved nb.id nc.id) ns)) ≡ times x (flat_map overs_of ns) + times nb.id (flat_map overs_of ns)
      all-c t [] = omega arith
      all-c t (y ∷ ns) =
          let h = all-c t ns in let o = one t y.quants in
          let a = times-append x (overs_of (moved nb.id nc.id y)) (flat_map overs_of (map (moved nb.id nc.id) ns)) in
          let c = times-append x (overs_of y) (flat_map overs_of ns) in let d = times-append nb.id (overs_of y) (flat_map overs_of ns) in omega arith

      two : (f : (nc.id == x) ≡ false) (rs : List OwnedQuant) → times x (map (λ (r : OwnedQuant). r.over) (map (moved_range nb.id nc.id) rs)) ≡ times x (map (λ (r : OwnedQuant). r.over) rs)
      two f [] = refl
      two f (r ∷ rs) = let h = two f rs in elim (cases_Bool (r.over == nb.id)) [
        | inl u ↦ (let v : (r.over == x) ≡ false = subst (λ z. (z == x) ≡ false) (sym (eqb-true r.over nb.id u)) (eq-false-sym x nb.id n) in rw (u, v, f) (omega arith))
        | inr u ↦ rw u (omega arith)
      ]

      all-other : (f : (nc.id == x) ≡ false) (ns : List Node) → times x (flat_map overs_of (map (moved nb.id nc.id) ns)) ≡ times x (flat_map overs_of ns)
      all-other f [] = refl
      all-other f (y ∷ ns) =
          let h = all-other f ns in let o = two f y.quants in
          let a = times-append x (overs_of (moved nb.id nc.id y)) (flat_map overs_of (map (moved nb.id nc.id) ns)) in
          let c = times-append x (overs_of y) (flat_map overs_of ns) in omega arith

  times-ids : (x : ℕ) (ns : List Node) → times x (ids_in (map (moved nb.id nc.id) ns)) ≡ times x (ids_in ns)
  times-ids x [] = refl
  times-ids x (y ∷ ns) =
      let h = times-ids x ns in let o : times x (map (λ (r : OwnedQuant). r.id) (map (moved_range nb.id nc.id) y.quants)) ≡ times x (map (λ (r : OwnedQuant). r.id) y.quants) = each y.quants in
      let a = times-append x (map (λ (r : OwnedQuant). r.id) (map (moved_range nb.id nc.id) y.quants)) (ids_in (map (moved nb.id nc.id) ns)) in
      let c = times-append x (map (λ (r : OwnedQuant). r.id) y.quants) (ids_in ns) in omega arith
    where
      each : (rs : List OwnedQuant) → times x (map (λ (r : OwnedQuant). r.id) (map (moved_range nb.id nc.id) rs)) ≡ times x (map (λ (r : OwnedQuant). r.id) rs)
      each [] = refl
      each (r ∷ rs) = ap (λ k. cond (r.id == x) 1 0 + k) (each rs)

  -- how often a box is used after
  used-after : (i : ℕ) → (i == nb.id) ≡ false → times i (overs_in hm) + cond (nc.id == i) 1 0 ≡ times i (overs_in bs) + cond (nc.id == i) (times nb.id (overs_in bs)) 0
  used-after i n =
      let a = times-moved i n (boxes_without nb.id bs) in
      let b = times-without overs_of i nb bs w.ordered m.in_b in
      let c : times i (overs_of nb) ≡ cond (nc.id == i) 1 0 + 0 = ap (λ rs. times i (map (λ (r : OwnedQuant). r.over) rs)) m.alone ∙ ap (λ z. cond (z == i) 1 0 + 0) m.over_c in
      let d = times-without overs_of nb.id nb bs w.ordered m.in_b in
      let e : times nb.id (overs_of nb) ≡ 0 = ap (λ rs. times nb.id (map (λ (r : OwnedQuant). r.over) rs)) m.alone ∙ ap (λ z. cond (z == nb.id) 1 0 + 0) m.over_c ∙ ap (λ (b : Bool). cond b 1 0 + 0) c-not-b in
      let k : cond (nc.id == i) (times nb.id (flat_map overs_of (boxes_without nb.id bs))) 0 ≡ cond (nc.id == i) (times nb.id (overs_in bs)) 0 = ap (λ t. cond (nc.id == i) t 0) (omega arith) in
      omega arith

  used-m : (i q : ℕ) → loose hm i q ≡ true → times i (overs_in hm) ≡ 1
  used-m i q l =
      let held = loose-held hm i q l in
      let x = has-in i hm held in
      let y = in-m x.0 x.1.0 in
      let n : (i == nb.id) ≡ false = subst (λ z. (z == nb.id) ≡ false) (ap (λ (z : Node). z.id) y.1.1.1 ∙ x.1.1) y.1.1.0 in
      let old : loose bs i q ≡ true = sym (ap (λ (k : ℕ → Bool). k q) (loose-m i held)) ∙ l in
      let one = w.used i q old in
      let u = used-after i n in
      elim (cases_Bool (nc.id == i)) [
        | inl t ↦ (
            let ob : times nb.id (overs_in bs) ≡ 1 = w.used nb.id q (ap (λ k. k q) same-loose ∙ subst (λ z. loose bs z q ≡ true) (sym (eqb-true nc.id i t)) old) in
            let e1 : ◌≡◌ {A = ℕ} (cond (nc.id == i) 1 0) 1 = ap (λ (b : Bool). cond {A = ℕ} b 1 0) t in
            let e2 : cond (nc.id == i) (times nb.id (overs_in bs)) 0 ≡ times nb.id (overs_in bs) = ap (λ (b : Bool). cond b (times nb.id (overs_in bs)) 0) t in omega arith)
        | inr f ↦ (
            let e1 : ◌≡◌ {A = ℕ} (cond (nc.id == i) 1 0) 0 = ap (λ (b : Bool). cond {A = ℕ} b 1 0) f in
            let e2 : cond (nc.id == i) (times nb.id (overs_in bs)) 0 ≡ 0 = ap (λ (b : Bool). cond b (times nb.id (overs_in bs)) 0) f in omega arith)
      ]

  top-m : times root (overs_in hm) ≡ 0
  top-m =
      let u = used-after root m.not_root in
      let z = w.top in
      let in-b : 1 ≤ times nc.id (overs_in bs) = (
      let a = times-in overs_of nc.id nb bs m.in_b in
      let b : times nc.id (overs_of nb) ≡ cond (nc.id == nc.id) 1 0 + 0 = ap (λ rs. times nc.id (map (λ (r : OwnedQuant). r.over) rs)) m.alone ∙ ap (λ z. cond (z == nc.id) 1 0 + 0) m.over_c in
      let c : ◌≡◌ {A = ℕ} (cond (nc.id == nc.id) 1 0) 1 = ap (λ (b : Bool). cond {A = ℕ} b 1 0) (eq-itself nc.id) in omega arith) in
      elim (cases_Bool (nc.id == root)) [
        | inl t ↦ (let e : times nc.id (overs_in bs) ≡ times root (overs_in bs) = ap (λ z. times z (overs_in bs)) (eqb-true nc.id root t) in absurd (omega arith))
        | inr f ↦ (
            let e2 : cond (nc.id == root) (times nb.id (overs_in bs)) 0 ≡ 0 = ap (λ (b : Bool). cond b (times nb.id (overs_in bs)) 0) f in omega arith)
      ]

  fits-m : (q k : ℕ) → Fits bs q k → Fits hm q k
  fits-m q k f n r o i j e u v =
      let y = in-m n i in
      let z = in-m o u in
      let x = in-map (moved_range nb.id nc.id) r y.0.quants (subst (λ (n : Node). In r n.quants) (sym y.1.1.1) j) in
      let idx : x.0.id ≡ q = ap (λ (r : OwnedQuant). r.id) x.1.1 ∙ e in
      let wide : width z.0 ≡ width o = ap width z.1.1.1 in
      elim (cases_Bool (x.0.over == nb.id)) [
        | inl t ↦ (
            let g = f y.0 x.0 nb y.1.0 x.1.0 idx m.in_b (sym (eqb-true x.0.over nb.id t)) in
            let over : r.over ≡ nc.id = sym (ap (λ (r : OwnedQuant). r.over) x.1.1) ∙ ap (λ (b : Bool). cond b nc.id x.0.over) t in
            let same : z.0 ≡ nc = same-box bs z.0 nc w.ordered z.1.0 m.in_c (ap (λ (n : Node). n.id) z.1.1.1 ∙ v ∙ over) in
            let wn : width nc ≡ width o = sym (ap width same) ∙ wide in
            (g.0, subst (λ s. k ≤ s) (m.widths ∙ wn) g.1))
        | inr nn ↦ (
            let over : r.over ≡ x.0.over = sym (ap (λ (r : OwnedQuant). r.over) x.1.1) ∙ ap (λ (b : Bool). cond b nc.id x.0.over) nn in
            let g = f y.0 x.0 z.0 y.1.0 x.1.0 idx z.1.0 (ap (λ (n : Node). n.id) z.1.1.1 ∙ v ∙ over) in
            (g.0, subst (λ s. k ≤ s) wide g.1))
      ]

  -- a box that is kept ranges now where it ranged, or over c where it ranged over b, of the same width
  arms-m : (n o : Node) (r : OwnedQuant) → In n hm → In r n.quants → In o hm → o.id ≡ r.over → ArmsBy n.parts.kind (width o) (width n)
  arms-m n o r i j u v =
      let y = in-m n i in
      let z = in-m o u in
      let x = in-map (moved_range nb.id nc.id) r y.0.quants (subst (λ (n : Node). In r n.quants) (sym y.1.1.1) j) in
      let wide : width z.0 ≡ width o = ap width z.1.1.1 in
      subst (λ (n : Node). ArmsBy n.parts.kind (width o) (width n)) y.1.1.1 (elim (cases_Bool (x.0.over == nb.id)) [
        | inl t ↦ (
            let over : r.over ≡ nc.id = sym (ap (λ (r : OwnedQuant). r.over) x.1.1) ∙ ap (λ (b : Bool). cond b nc.id x.0.over) t in
            let same : z.0 ≡ nc = same-box bs z.0 nc w.ordered z.1.0 m.in_c (ap (λ (n : Node). n.id) z.1.1.1 ∙ v ∙ over) in
            subst (λ a. ArmsBy y.0.parts.kind a (width y.0)) (m.widths ∙ sym (ap width same) ∙ wide) (w.arms y.0 nb x.0 y.1.0 x.1.0 m.in_b (sym (eqb-true x.0.over nb.id t))))
        | inr nn ↦ (
            let over : r.over ≡ x.0.over = sym (ap (λ (r : OwnedQuant). r.over) x.1.1) ∙ ap (λ (b : Bool). cond b nc.id x.0.over) nn in
            subst (λ a. ArmsBy y.0.parts.kind a (width y.0)) wide (w.arms y.0 z.0 x.0 y.1.0 x.1.0 z.1.0 (ap (λ (n : Node). n.id) z.1.1.1 ∙ v ∙ over)))
      ])

  bare-m : (k : BoxKind) (n : Node) → BareBy k n → BareBy k (moved nb.id nc.id n)
  bare-m (Base name) n e = (ap (map (moved_range nb.id nc.id)) e.0, e.1, e.2)
  bare-m Select n e = tt
  bare-m (Group k) n e = tt
  bare-m (SetOp form v) n e = e
  bare-m OuterJoin n e = tt

  pub moved-sound : Sound hm root
  moved-sound = record {
    ordered = ordered-m;
    rooted = rooted-m;
    once = λ q. (let a = times-ids q (boxes_without nb.id bs) in let b = times-without ids_of q nb bs w.ordered m.in_b in let c = w.once q in omega arith);
    settled = λ n i q o. ap (λ (k : ℕ → Bool). k q) (loose-m n.id (in-has n hm i)) ∙ (let y = in-m n i in subst (λ (z : Node). loose bs z.id q ≡ false) y.1.1.1 (w.settled y.0 y.1.0 q
        (sym (any-moved nb.id nc.id (is_quant q) y.0.quants (λ r. refl)) ∙ subst (λ (z : Node). owns q z ≡ true) (sym y.1.1.1) o)));
    used = used-m;
    top = top-m;
    fits = λ n i q k t. (let y = in-m n i in fits-m q k (w.fits y.0 y.1.0 q k (subst (λ (z : Node). reads_in q k z ≡ true) (sym y.1.1.1) t)));
    own_nodes = λ n i q t. (let y = in-m n i in let o = w.own_nodes y.0 y.1.0 q (subst (λ (z : Node). nodes_in q z ≡ true) (sym y.1.1.1) t) in
        subst (λ (z : Node). (owns q z ≡ true) × (binds_row q z.quants ≡ false)) y.1.1.1 (any-moved nb.id nc.id (is_quant q) y.0.quants (λ r. refl) ∙ o.0, binds-moved nb.id nc.id q y.0.quants ∙ o.1));
    bare = λ n i. (let y = in-m n i in subst (λ (z : Node). BareBy z.parts.kind z) y.1.1.1 (bare-m y.0.parts.kind y.0 (w.bare y.0 y.1.0)));
    arms = arms-m;
  }
