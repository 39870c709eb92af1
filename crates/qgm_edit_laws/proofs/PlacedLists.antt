-- I1 to I3 where boxes are added, moved or dropped, and where a quantifier or a conjunct goes to another box.
use Rattle.std.proofs.Common.{ℕ, zero, suc, ◌==◌, ◌≡◌, ◌||◌, ◌+◌, ◌-◌, ◌≤◌, ◌<◌, cond, Bool, true, false, List, [], ◌∷◌, ◌++◌, map, insert, slice_get, Option, Some, None, refl, sym, ap, ap₂, subst, ◌∙◌, eqb-true, ◌⊎◌, inl, inr, arith}
use Rattle.std.specs.List.{list_any, flat_map}
use Rattle.std.proofs.lemmas.Bool.{cases_Bool, eq-eqb, or_from, or_left, or_parts, or_right}
use Rattle.sql_value.specs.declared.order_key.OrderKey.{OrderKey}
use Rattle.qgm_core.specs.declared.node.Node.{Node}
use Rattle.qgm_core.specs.declared.owned.OwnedQuant.{OwnedQuant}
use Rattle.qgm_core.specs.declared.parts.BoxParts.{BoxParts}
use Rattle.qgm_core.specs.Boxes.{HasBox, HasQuant, Ordered, QueryGraph, bare_box, graph_of_one, has_box, ids_of, is_box, is_quant, owns, put_at, range_in}
use Rattle.qgm_core.specs.Edits.{compact, cond_at, conds_in, drop_column, move_below, move_conjunct, move_quant, on_box, on_boxes, put_cond_found, put_found, put_range, put_range_found, quants_over, shift_boxes, shift_node, with_box, with_cond, without_cell, without_cond, without_quant}
use Rattle.qgm_core.specs.Free.{named_by, reached}
use Rattle.list_laws.specs.Lists.{In, change, each, first, holds, put_below, times, without}
use Rattle.qgm_terms.specs.Terms.{Cond}
use Rattle.qgm_edit_laws.specs.EditLaws.{IsPlaced, Knows, Owned, Stays}
use Rattle.qgm_edit_laws.specs.Placed.{Below, Placed, place}
use Rattle.qgm_edit_laws.proofs.Compact.{has-kept, in-kept, kept, kept-in, ordered-kept, reaches, times-kept}
use Rattle.qgm_edit_laws.proofs.Edits.{boxes_without, once-each, times-same, times-without, without-one}
use Rattle.qgm_edit_laws.proofs.Naming.{any-remove, cond-any, conds-shift, heads-shift, named-any, naming, says, says_cond}
use Rattle.qgm_edit_laws.proofs.OneBox.{at, below-map, change-at, has-map, ordered-map, ranked}
use Rattle.qgm_edit_laws.proofs.PlacedEdits.{less, less-is, less-named, less-ordered, less-owned, less-rooted, lost, named-conds, named-head, named-parts, parts-by, put-cond, take-cond}
use Rattle.qgm_edit_laws.proofs.PlacedOne.{any-put, b-after, counted, g-cases, g-id, in-after, in-less, in-put, less-in, ordered-after, other-after, times-put}
use Rattle.qgm_edit_laws.proofs.Ranks.{has-in, same-box}
use Rattle.qgm_core.proofs.Reaching.{in-has}
use Rattle.list_laws.proofs.Counting.{times-append}
use Rattle.list_laws.proofs.Membership.{all-from, all-in, any-from, any-in, any-none, any-not, eq-false-sym, eq-itself, in-map, other}
use Rattle.list_laws.proofs.Booleans.{clash}

-- ---- a box more

-- what is asked of any element, with one more among them
pub any-more : {X : Type 0} (p : X → Bool) (xs : List X) (n : X) (ys : List X) → list_any p (xs ++ n ∷ ys) ≡ (p n || list_any p (xs ++ ys))
any-more p [] n ys = refl
any-more p (x ∷ xs) n ys = ap (λ z. p x || z) (any-more p xs n ys) ∙ swap (p x) (p n) (list_any p (xs ++ ys))
  where
    swap : (a b c : Bool) → (a || (b || c)) ≡ (b || (a || c))
    swap true true c = refl
    swap true false c = refl
    swap false true c = refl
    swap false false c = refl

pub in-more : {X : Type 0} (xs : List X) (n : X) (ys : List X) (m : X) → In m (xs ++ n ∷ ys) → (n ≡ m) ⊎ In m (xs ++ ys)
in-more [] n ys m i = i
in-more (x ∷ xs) n ys m i = elim i [ inl e ↦ inr (inl e) | inr j ↦ elim (in-more xs n ys m j) [ inl e ↦ inl e | inr k ↦ inr (inr k) ] ]

pub more-own : {X : Type 0} (xs : List X) (n : X) (ys : List X) → In n (xs ++ n ∷ ys)
more-own [] n ys = inl refl
more-own (x ∷ xs) n ys = inr (more-own xs n ys)

pub more-in : {X : Type 0} (xs : List X) (n : X) (ys : List X) (m : X) → In m (xs ++ ys) → In m (xs ++ n ∷ ys)
more-in [] n ys m i = inr i
more-in (x ∷ xs) n ys m i = elim i [ inl e ↦ inl e | inr j ↦ inr (more-in xs n ys m j) ]

pub times-more : (f : Node → List ℕ) (x : ℕ) (xs : List Node) (n : Node) (ys : List Node) → times x (flat_map f (xs ++ n ∷ ys)) ≡ times x (flat_map f (xs ++ ys)) + times x (f n)
times-more f x [] n ys = let a = times-append x (f n) (flat_map f ys) in omega arith
times-more f x (y ∷ xs) n ys =
    let a = times-append x (f y) (flat_map f (xs ++ n ∷ ys)) in let b = times-append x (f y) (flat_map f (xs ++ ys)) in let c = times-more f x xs n ys in omega arith

pub ordered-more : (xs : List Node) (n : Node) (ys : List Node) → Ordered (xs ++ ys) → has_box (xs ++ ys) n.id ≡ false → ((r : OwnedQuant) → In r n.quants → has_box ys r.over ≡ true) → Ordered (xs ++ n ∷ ys)
ordered-more [] n ys o f h = (f, all-from (λ r. has_box ys r.over) n.quants h, o)
ordered-more (x ∷ xs) n ys o f h =
    let g = or_parts (x.id == n.id) (has_box (xs ++ ys) n.id) f in (
      any-more (is_box x.id) xs n ys ∙ or_from (n.id == x.id) (has_box (xs ++ ys) x.id) (eq-false-sym x.id n.id g.0) o.0,
      all-from (λ r. has_box (xs ++ n ∷ ys) r.over) x.quants (λ r i. any-more (is_box r.over) xs n ys ∙ or_right (n.id == r.over) (has_box (xs ++ ys) r.over) (all-in (λ r. has_box (xs ++ ys) r.over) r x.quants o.1 i)),
      ordered-more xs n ys o.2 g.1 h,
    )

-- where a new box goes
pub put-split : (below : Option ℕ) (n : Node) (bs : List Node) → (xs : List Node) × ((ys : List Node) × ((bs ≡ xs ++ ys) × (put_at below n bs ≡ xs ++ n ∷ ys)))
put-split None n bs = (bs, ([], (none bs, refl)))
  where
    none : (xs : List Node) → xs ≡ xs ++ []
    none [] = refl
    none (x ∷ xs) = ap (λ z. x ∷ z) (none xs)
put-split (Some c) n bs = by bs
  where
    by : (bs : List Node) → (xs : List Node) × ((ys : List Node) × ((bs ≡ xs ++ ys) × (put_below (is_box c) n bs ≡ xs ++ n ∷ ys)))
    by [] = ([], ([], (refl, refl)))
    by (y ∷ bs) = elim (y.id == c) as (λ t. (xs : List Node) × ((ys : List Node) × ((y ∷ bs ≡ xs ++ ys) × (cond t (y ∷ (n ∷ bs)) (y ∷ put_below (is_box c) n bs) ≡ xs ++ n ∷ ys)))) [
      | true ↦ (y ∷ [], (bs, (refl, refl)))
      | false ↦ (let s = by bs in (y ∷ s.0, (s.1.0, (ap (λ z. y ∷ z) s.1.1.0, ap (λ z. y ∷ z) s.1.1.1))))
    ]

placed-more : (xs : List Node) (n : Node) (ys : List Node) (root : ℕ) → Placed (xs ++ ys) root → has_box (xs ++ ys) n.id ≡ false → n.quants ≡ [] → ((q : ℕ) → holds q (named_by n) ≡ true → list_any (owns q) (xs ++ ys) ≡ true) → Placed (xs ++ n ∷ ys) root
placed-more xs n ys root w f e k = record {
  rooted = any-more (is_box root) xs n ys ∙ or_right (n.id == root) (has_box (xs ++ ys) root) w.rooted;
  ordered = ordered-more xs n ys w.ordered f (λ r i. elim (subst (λ z. In r z) e i) [ ]);
  once = λ q. (let a = times-more ids_of q xs n ys in let b : times q (ids_of n) ≡ 0 = ap (λ z. times q (map (λ (r : OwnedQuant). r.id) z)) e in let c = w.once q in omega arith);
  known = λ m i q t. any-more (owns q) xs n ys ∙ or_right (owns q n) (list_any (owns q) (xs ++ ys)) (elim (in-more xs n ys m i) [ inl e ↦ k q (subst (λ z. holds q (named_by z) ≡ true) (sym e) t) | inr j ↦ w.known m j q t ]);
}

pub add-box : (g : QueryGraph) → IsPlaced g → (below : Option ℕ) (b : ℕ) (parts : BoxParts) → (HasBox b g → ⊥) → Knows parts g → IsPlaced (with_box below (bare_box b parts) g)
add-box g w below b parts fresh k =
    let n = bare_box b parts in
    let s = put-split below n g.boxes in
    let e = s.1.1.0 in
    let absent : has_box g.boxes b ≡ false = (elim (cases_Bool (has_box g.boxes b)) [ inl t ↦ absurd (fresh t) | inr f ↦ f ]) in
    subst (λ z. Placed z g.root) (sym s.1.1.1) (placed-more s.0 n s.1.0 g.root (subst (λ z. Placed z g.root) e w) (subst (λ z. has_box z b ≡ false) e absent) refl (λ q t. subst (λ z. list_any (owns q) z ≡ true) e (k q t)))

pub new-placed : (b : ℕ) (parts : BoxParts) (names : List (Option (List ℕ))) (order : List OrderKey) → ((q : ℕ) → holds q (named_by (bare_box b parts)) ≡ false) → IsPlaced (graph_of_one b parts names order)
new-placed b parts names order none = record {
  rooted = or_left (b == b) false (eq-itself b);
  ordered = (refl, refl, tt);
  once = λ q. (omega arith);
  known = λ n i q t. elim i [ inl e ↦ absurd (clash (holds q (named_by (bare_box b parts))) (subst (λ z. holds q (named_by z) ≡ true) (sym e) t) (none q)) | inr z ↦ elim z [ ] ];
}

-- ---- a box moved

has-less : (c : ℕ) (ns : List Node) (b : ℕ) → has_box ns b ≡ true → (c == b) ≡ false → has_box (without (is_box c) ns) b ≡ true
has-less c ns b h f =
    let x = has-in b ns h in
    subst (λ z. has_box (without (is_box c) ns) z ≡ true) x.1.1 (in-has x.0 (without (is_box c) ns) (less-in (is_box c) ns x.0 x.1.0 (eq-false-sym c x.0.id (subst (λ z. (c == z) ≡ false) (sym x.1.1) f))))

less-has : (c : ℕ) (ns : List Node) (b : ℕ) → has_box ns b ≡ false → has_box (without (is_box c) ns) b ≡ false
less-has c ns b h = any-not (is_box b) (without (is_box c) ns) (λ y i. any-none (is_box b) y ns h (in-less (is_box c) ns y i))

gone : (c : ℕ) (ns : List Node) → Ordered ns → has_box (without (is_box c) ns) c ≡ false
gone c [] o = refl
gone c (n ∷ ns) o = elim (cases_Bool (n.id == c)) [
  | inl t ↦ ap (λ b. has_box (cond b ns (n ∷ without (is_box c) ns)) c) t ∙ subst (λ z. has_box ns z ≡ false) (eqb-true n.id c t) o.0
  | inr f ↦ ap (λ b. has_box (cond b ns (n ∷ without (is_box c) ns)) c) f ∙ or_from (n.id == c) (has_box (without (is_box c) ns) c) f (gone c ns o.2)
]

ordered-less : (c : ℕ) (ns : List Node) → Ordered ns → ((n : Node) (r : OwnedQuant) → In n ns → In r n.quants → (c == r.over) ≡ false) → Ordered (without (is_box c) ns)
ordered-less c [] o h = tt
ordered-less c (n ∷ ns) o h = elim (n.id == c) as (λ t. Ordered (cond t ns (n ∷ without (is_box c) ns))) [
  | true ↦ o.2
  | false ↦ (
    less-has c ns n.id o.0,
    all-from (λ r. has_box (without (is_box c) ns) r.over) n.quants (λ r i. has-less c ns r.over (all-in (λ r. has_box ns r.over) r n.quants o.1 i) (h n r (inl refl) i)),
    ordered-less c ns o.2 (λ m r i. h m r (inr i)),
  )
]

module _ (nc : Node) (d : ℕ) where
  abbrev c : ℕ
  c = nc.id

  abbrev pub moved : List Node → List Node
  moved ns = put_below (is_box d) nc (without (is_box c) ns)

  in-below : (ns : List Node) (m : Node) → In m (put_below (is_box d) nc ns) → (nc ≡ m) ⊎ In m ns
  in-below [] m i = elim i [ inl e ↦ inl e | inr z ↦ elim z [ ] ]
  in-below (n ∷ ns) m i = elim (n.id == d) as (λ t. In m (cond t (n ∷ (nc ∷ ns)) (n ∷ put_below (is_box d) nc ns)) → (nc ≡ m) ⊎ In m (n ∷ ns)) [
    | true ↦ λ i. elim i [ inl e ↦ inr (inl e) | inr j ↦ elim j [ inl e ↦ inl e | inr k ↦ inr (inr k) ] ]
    | false ↦ λ i. elim i [ inl e ↦ inr (inl e) | inr j ↦ elim (in-below ns m j) [ inl e ↦ inl e | inr k ↦ inr (inr k) ] ]
  ] i

  below-any : (p : Node → Bool) (ns : List Node) → list_any p (put_below (is_box d) nc ns) ≡ (p nc || list_any p ns)
  below-any p [] = refl
  below-any p (n ∷ ns) = elim (n.id == d) as (λ t. list_any p (cond t (n ∷ (nc ∷ ns)) (n ∷ put_below (is_box d) nc ns)) ≡ (p nc || list_any p (n ∷ ns))) [
    | true ↦ any-more p (n ∷ []) nc ns
    | false ↦ ap (λ z. p n || z) (below-any p ns) ∙ any-more p (n ∷ []) nc ns
  ]

  times-below : (f : Node → List ℕ) (x : ℕ) (ns : List Node) → times x (flat_map f (put_below (is_box d) nc ns)) ≡ times x (flat_map f ns) + times x (f nc)
  times-below f x [] = let a = times-append x (f nc) [] in omega arith
  times-below f x (n ∷ ns) = elim (n.id == d) as (λ t. times x (flat_map f (cond t (n ∷ (nc ∷ ns)) (n ∷ put_below (is_box d) nc ns))) ≡ times x (flat_map f (n ∷ ns)) + times x (f nc)) [
    | true ↦ times-more f x (n ∷ []) nc ns
    | false ↦ (let a = times-append x (f n) (flat_map f (put_below (is_box d) nc ns)) in let b = times-append x (f n) (flat_map f ns) in let e = times-below f x ns in omega arith)
  ]

  -- the same boxes are there
  pub moved-any : (p : Node → Bool) (ns : List Node) → Ordered ns → In nc ns → list_any p (moved ns) ≡ list_any p ns
  moved-any p ns o i = below-any p (without (is_box c) ns) ∙ back ns o i
    where
      back : (ns : List Node) → Ordered ns → In nc ns → (p nc || list_any p (without (is_box c) ns)) ≡ list_any p ns
      back [] o i = elim i [ ]
      back (n ∷ ns) o i = elim (cases_Bool (n.id == c)) [
        | inl t ↦ (
            let same : n ≡ nc = same-box (n ∷ ns) n nc o (inl refl) i (eqb-true n.id c t) in
            ap (λ b. p nc || list_any p (cond b ns (n ∷ without (is_box c) ns))) t ∙ ap (λ (z : Node). p z || list_any p ns) (sym same))
        | inr f ↦ (
            let j : In nc ns = (elim i [ inl e ↦ absurd (clash (n.id == c) (eq-eqb n.id c (ap (λ (z : Node). z.id) e)) f) | inr j ↦ j ]) in
            ap (λ b. p nc || list_any p (cond b ns (n ∷ without (is_box c) ns))) f ∙ swap (p nc) (p n) (list_any p (without (is_box c) ns)) ∙ ap (λ z. p n || z) (back ns o.2 j))
      ]
        where
          swap : (a b c : Bool) → (a || (b || c)) ≡ (b || (a || c))
          swap true true c = refl
          swap true false c = refl
          swap false true c = refl
          swap false false c = refl

  pub moved-in : (ns : List Node) → In nc ns → (m : Node) → In m (moved ns) → In m ns
  moved-in ns i m j = elim (in-below (without (is_box c) ns) m j) [ inl e ↦ subst (λ z. In z ns) e i | inr k ↦ in-less (is_box c) ns m k ]

  pub moved-times : (f : Node → List ℕ) (x : ℕ) (ns : List Node) → Ordered ns → In nc ns → times x (flat_map f (moved ns)) ≡ times x (flat_map f ns)
  moved-times f x ns o i =
      let a = times-below f x (without (is_box c) ns) in
      let b = times-without f x nc ns o i in
      let e : times x (flat_map f (boxes_without c ns)) ≡ times x (flat_map f (without (is_box c) ns)) = ap (λ z. times x (flat_map f z)) (without-one c ns o) in omega arith

  pub moved-ordered : (ns : List Node) → Ordered ns → In nc ns → Below ns d c → ((n : Node) (r : OwnedQuant) → In n ns → In r n.quants → r.over ≡ c → place ns n.id ≤ place ns d) → Ordered (moved ns)
  moved-ordered [] o i h k = elim i [ ]
  moved-ordered (x ∷ ns) o i h k =
      let less : place (x ∷ ns) d < place (x ∷ ns) c = h.1 in
      let xc : (x.id == c) ≡ false = (elim (cases_Bool (x.id == c)) [ inr f ↦ f | inl t ↦ (let z : place (x ∷ ns) c ≡ 0 = ap (λ (t : Bool). cond t 0 (suc (place ns c))) t in absurd (omega arith)) ]) in
      let j : In nc ns = (elim i [ inl e ↦ absurd (clash (x.id == c) (eq-eqb x.id c (ap (λ (z : Node). z.id) e)) xc) | inr j ↦ j ]) in
      let pc : place (x ∷ ns) c ≡ suc (place ns c) = ap (λ (t : Bool). cond t 0 (suc (place ns c))) xc in
      let deep : (n : Node) → In n ns → place (x ∷ ns) n.id ≡ suc (place ns n.id) = (λ n l. ap (λ (t : Bool). cond t 0 (suc (place ns n.id))) (other (has_box ns) x.id n.id o.0 (in-has n ns l))) in
      subst (λ (b : Bool). Ordered (put_below (is_box d) nc (cond b ns (x ∷ without (is_box c) ns)))) (sym xc) (elim (cases_Bool (x.id == d)) [
        | inl t ↦ (
            let pd : place (x ∷ ns) d ≡ 0 = ap (λ (t : Bool). cond t 0 (suc (place ns d))) t in
            let apart : (n : Node) (r : OwnedQuant) → In n ns → In r n.quants → (c == r.over) ≡ false = (λ n r l u. elim (cases_Bool (c == r.over)) [
              | inr f ↦ f
              | inl y ↦ (let a = k n r (inr l) u (sym (eqb-true c r.over y)) in let b = deep n l in absurd (omega arith))
            ]) in
            subst (λ (b : Bool). Ordered (cond b (x ∷ (nc ∷ without (is_box c) ns)) (x ∷ put_below (is_box d) nc (without (is_box c) ns)))) (sym t) (
              or_from (c == x.id) (has_box (without (is_box c) ns) x.id) (eq-false-sym x.id c xc) (less-has c ns x.id o.0),
              all-from (λ r. has_box (nc ∷ without (is_box c) ns) r.over) x.quants (λ r u. held r.over (all-in (λ r. has_box ns r.over) r x.quants o.1 u)),
              (
                gone c ns o.2,
                all-from (λ r. has_box (without (is_box c) ns) r.over) nc.quants (λ r u. has-less c ns r.over (ranked ns o.2 nc r j u).0 (apart nc r j u)),
                ordered-less c ns o.2 apart,
              ),
            ))
        | inr f ↦ (
            let pd : place (x ∷ ns) d ≡ suc (place ns d) = ap (λ (t : Bool). cond t 0 (suc (place ns d))) f in
            let rest : Ordered (moved ns) = moved-ordered ns o.2 j (in-has nc ns j, (omega arith)) (λ n r l u e. (let a = k n r (inr l) u e in let b = deep n l in omega arith)) in
            subst (λ (b : Bool). Ordered (cond b (x ∷ (nc ∷ without (is_box c) ns)) (x ∷ put_below (is_box d) nc (without (is_box c) ns)))) (sym f) (
              moved-any (is_box x.id) ns o.2 j ∙ o.0,
              all-from (λ r. has_box (moved ns) r.over) x.quants (λ r u. moved-any (is_box r.over) ns o.2 j ∙ all-in (λ r. has_box ns r.over) r x.quants o.1 u),
              rest,
            ))
      ])
    where
      held : (b : ℕ) → has_box ns b ≡ true → has_box (nc ∷ without (is_box c) ns) b ≡ true
      held b t = elim (cases_Bool (c == b)) [ inl y ↦ or_left (c == b) (has_box (without (is_box c) ns) b) y | inr n ↦ or_right (c == b) (has_box (without (is_box c) ns) b) (has-less c ns b t n) ]

pub first-in : {X : Type 0} (p : X → Bool) (xs : List X) → list_any p xs ≡ true → (x : X) × ((first p xs ≡ Some x) × (In x xs × (p x ≡ true)))
first-in p [] h = absurd (let z : ⊥ = cc in z)
first-in p (x ∷ xs) h = elim (cases_Bool (p x)) [
  | inl t ↦ (x, (ap (λ b. cond b (Some x) (first p xs)) t, (inl refl, t)))
  | inr f ↦ (let r = first-in p xs (subst (λ b. (b || list_any p xs) ≡ true) f h) in (r.0, (ap (λ b. cond b (Some x) (first p xs)) f ∙ r.1.0, (inr r.1.1.0, r.1.1.1))))
]

pub box-moved : (g : QueryGraph) → IsPlaced g → (c d : ℕ) → Below g.boxes d c → ((n : Node) (r : OwnedQuant) → In n g.boxes → In r n.quants → r.over ≡ c → place g.boxes n.id ≤ place g.boxes d) → IsPlaced (move_below c d g)
box-moved g w c d h k =
    let x = first-in (is_box c) g.boxes h.0 in
    let nc = x.0 in
    let i : In nc g.boxes = x.1.1.0 in
    let e : nc.id ≡ c = eqb-true nc.id c x.1.1.1 in
    subst (λ o. Placed (put_found d o (without (is_box c) g.boxes)) g.root) (sym x.1.0) (
    subst (λ z. Placed (put_below (is_box d) nc (without (is_box z) g.boxes)) g.root) e (record {
      rooted = moved-any nc d (is_box g.root) g.boxes w.ordered i ∙ w.rooted;
      ordered = moved-ordered nc d g.boxes w.ordered i (subst (λ z. Below g.boxes d z) (sym e) h) (λ n r l u v. k n r l u (v ∙ e));
      once = λ q. (let a = moved-times nc d ids_of q g.boxes w.ordered i in let b = w.once q in omega arith);
      known = λ n j q t. moved-any nc d (owns q) g.boxes w.ordered i ∙ w.known n (moved-in nc d g.boxes i n j) q t;
    }))

-- ---- boxes dropped
pub boxes-dropped : (g : QueryGraph) → IsPlaced g → ((n m : Node) (q : ℕ) → In n g.boxes → Stays g n → holds q (named_by n) ≡ true → Owned g m q → Stays g m) → IsPlaced (compact g)
boxes-dropped g w k =
    let keep : ℕ → Bool = λ b. holds b (reached (g.root ∷ []) g.boxes) in
    let d = reaches g.boxes g.root w.ordered in record {
      rooted = has-kept keep g.boxes g.root w.rooted d.root_kept;
      ordered = ordered-kept keep g.boxes w.ordered d.closed;
      once = λ q. (let a = times-kept ids_of q keep g.boxes in let b = w.once q in omega arith);
      known = λ n i q t. (
          let x = in-kept keep n g.boxes i in
          let o = any-in (owns q) g.boxes (w.known n x.0 q t) in
          any-from (owns q) o.0 (kept keep g.boxes) (kept-in keep o.0 g.boxes o.1.0 (k n o.0 q x.0 x.1 t (o.1.0, o.1.1))) o.1.1);
    }

-- ---- a quantifier to another box
times-taken : (x q : ℕ) (rs : List OwnedQuant) (r : OwnedQuant) → first (is_quant q) rs ≡ Some r → times x (map (λ (r : OwnedQuant). r.id) (without (is_quant q) rs)) + times x (r.id ∷ []) ≡ times x (map (λ (r : OwnedQuant). r.id) rs)
times-taken x q [] r h = absurd (let z : ⊥ = cc in z)
times-taken x q (s ∷ rs) r h = elim (s.id == q) as (λ t. ◌≡◌ {A = Option OwnedQuant} (cond t (Some s) (first (is_quant q) rs)) (Some r) → times x (map (λ (r : OwnedQuant). r.id) (cond t rs (s ∷ without (is_quant q) rs))) + times x (r.id ∷ []) ≡ times x (map (λ (r : OwnedQuant). r.id) (s ∷ rs))) [
  | true ↦ λ h. (let e : s ≡ r = cc in let a : times x (s.id ∷ []) ≡ times x (r.id ∷ []) = ap (λ (z : OwnedQuant). times x (z.id ∷ [])) e in omega arith)
  | false ↦ λ h. (let a = times-taken x q rs r h in omega arith)
] h

pub quant-moved : (g : QueryGraph) → IsPlaced g → (q b i : ℕ) → HasQuant q g → HasBox b g → ((n : Node) (r : OwnedQuant) → In n g.boxes → In r n.quants → r.id ≡ q → Below g.boxes b r.over) → IsPlaced (move_quant q b i g)
quant-moved g w q b i h hb over =
    let o = first-in (owns q) g.boxes h in
    let io = o.1.1.0 in let ho = o.1.1.1 in
    let r = first-in (is_quant q) o.0.quants ho in
    let rid : r.0.id ≡ q = eqb-true r.0.id q r.1.1.1 in
    let f = put_range i r.0 in
    let ls = less g w q o.0 io ho in
    let lid = g-id g.boxes w.ordered o.0 io (lost g w q o.0 io ho) (λ y. refl) in
    let lo = less-ordered g w q o.0 io ho in
    let hl : has_box ls b ≡ true = has-map (at o.0.id (lost g w q o.0 io ho)) lid g.boxes b ∙ hb in
    let x = has-in b ls hl in
    let below : Below ls x.0.id r.0.over = subst (λ z. Below ls z r.0.over) (sym x.1.1) (below-map (at o.0.id (lost g w q o.0 io ho)) lid g.boxes b r.0.over (over o.0 r.0 io r.1.1.0 rid)) in
    let same : (y : Node) → (f y).id ≡ y.id = (λ y. refl) in
    let done : Placed (map (at x.0.id f) ls) g.root = record {
      rooted = has-map (at x.0.id f) (g-id ls lo x.0 x.1.0 f same) ls g.root ∙ less-rooted g w q o.0 io ho;
      ordered = ordered-after ls lo x.0 x.1.0 f same (λ s j. elim (in-put i r.0 x.0.quants s j) [
        | inl e ↦ subst (λ (z : OwnedQuant). Below ls x.0.id z.over) e below
        | inr k ↦ ranked ls lo x.0 s x.1.0 k
      ]);
      once = λ p. (
          let a = counted ls lo x.0 x.1.0 f same ids_of p in
          let c = times-put p i r.0 x.0.quants in
          let d = counted g.boxes w.ordered o.0 io (lost g w q o.0 io ho) (λ y. refl) ids_of p in
          let e = times-taken p q o.0.quants r.0 r.1.0 in
          let u = w.once p in omega arith);
      known = λ n j p t. (
          let y : (y : Node) × (In y ls × (holds p (named_by y) ≡ true)) = (elim (in-after ls lo x.0 x.1.0 f same n j) [ inl e ↦ (x.0, (x.1.0, subst (λ z. holds p (named_by z) ≡ true) (sym e) t)) | inr e ↦ (n, (e.0, t)) ]) in
          let z = less-named g w q o.0 io ho y.0 y.1.0 p y.1.1 in
          elim (cases_Bool (q == p)) [
            | inl e ↦ any-from (owns p) (f x.0) (map (at x.0.id f) ls) (b-after ls lo x.0 x.1.0 f same) (any-from (is_quant p) r.0 (insert x.0.quants i r.0) (put-own i x.0.quants r.0) (eq-eqb r.0.id p (rid ∙ eqb-true q p e)))
            | inr n ↦ (
                let u = any-in (owns p) ls (less-owned g w q o.0 io ho p n (w.known z.0 z.1.0 p z.1.1)) in
                elim (g-cases ls lo x.0 x.1.0 f same u.0 u.1.0) [
                  | inl e ↦ any-from (owns p) (f x.0) (map (at x.0.id f) ls) (b-after ls lo x.0 x.1.0 f same) (any-put (is_quant p) i r.0 x.0.quants (subst (λ z. owns p z ≡ true) e.0 u.1.1))
                  | inr e ↦ any-from (owns p) u.0 (map (at x.0.id f) ls) (other-after ls lo x.0 x.1.0 f same u.0 u.1.0 e.0) u.1.1
                ])
          ]);
    } in
    subst (λ k. Placed (put_range_found b i (range_in q k) (change (owns q) (without_quant q) g.boxes)) g.root) (sym o.1.0)
    (subst (λ k. Placed (put_range_found b i k (change (owns q) (without_quant q) g.boxes)) g.root) (sym r.1.0)
    (subst (λ k. Placed (change (is_box b) f k) g.root) (sym (less-is g w q o.0 io ho))
    (subst (λ k. Placed k g.root) (sym (change-at b f ls (once-each ls lo))) (subst (λ z. Placed (map (at z f) ls) g.root) x.1.1 done))))
  where
    put-own : (i : ℕ) (rs : List OwnedQuant) (r : OwnedQuant) → In r (insert rs i r)
    put-own zero [] r = inl refl
    put-own (suc i) [] r = inl refl
    put-own zero (s ∷ rs) r = inl refl
    put-own (suc i) (s ∷ rs) r = inr (put-own i rs r)

-- ---- a conjunct to another box
any-change : (P : Node → Bool) (p : Node → Bool) (f : Node → Node) → ((y : Node) → P (f y) ≡ P y) → (ns : List Node) → list_any P (change p f ns) ≡ list_any P ns
any-change P p f same [] = refl
any-change P p f same (n ∷ ns) = elim (p n) as (λ t. list_any P (cond t (f n ∷ ns) (n ∷ change p f ns)) ≡ list_any P (n ∷ ns)) [
  | true ↦ ap (λ z. z || list_any P ns) (same n)
  | false ↦ ap (λ z. P n || z) (any-change P p f same ns)
]

get-any : (P : Cond → Bool) (xs : List Cond) (i : ℕ) (c : Cond) → slice_get xs i ≡ Some c → P c ≡ true → list_any P xs ≡ true
get-any P [] i c h t = absurd (let z : ⊥ = cc in z)
get-any P (x ∷ xs) zero c h t = or_left (P x) (list_any P xs) (let e : x ≡ c = cc in subst (λ z. P z ≡ true) (sym e) t)
get-any P (x ∷ xs) (suc i) c h t = or_right (P x) (list_any P xs) (get-any P xs i c h t)

pub conjunct-moved : (g : QueryGraph) → IsPlaced g → (b i to : ℕ) → HasBox b g → HasBox to g → IsPlaced (move_conjunct b i to g)
conjunct-moved g w b i to hb ht =
    let x = first-in (is_box b) g.boxes hb in
    let h = on_box b (without_cond i) g in
    let taken : IsPlaced h = take-cond g w b i hb in
    by (cond_at b i g.boxes) taken (λ c e. put-cond h taken to c (any-change (is_box to) (is_box b) (without_cond i) (λ y. refl) g.boxes ∙ ht) (λ q t.
    any-change (owns q) (is_box b) (without_cond i) (λ y. refl) g.boxes
    ∙ w.known x.0 x.1.1.0 q (named-conds q x.0 (get-any (says_cond q) x.0.parts.conds.items i c (sym (ap (λ o. slice_get (conds_in o) i) x.1.0) ∙ e) (sym (cond-any q c) ∙ t)))))
  where
    by : (o : Option Cond) → IsPlaced (on_box b (without_cond i) g) → ((c : Cond) → o ≡ Some c → IsPlaced (on_box to (with_cond c) (on_box b (without_cond i) g))) → IsPlaced (on_boxes (λ boxes. put_cond_found to o (change (is_box b) (without_cond i) boxes)) g)
    by None t k = t
    by (Some c) t k = k c refl

-- ---- a column dropped
shift-placed : (k q : ℕ) (bs : List Node) (root : ℕ) → Placed bs root → Placed (shift_boxes k q bs) root
shift-placed k q bs root w =
    let f = shift_node k q in
    let same : (y : Node) → (f y).id ≡ y.id = (λ y. refl) in
    let owned : (p : ℕ) (ns : List Node) → list_any (owns p) (map f ns) ≡ list_any (owns p) ns = all in record {
      rooted = has-map f same bs root ∙ w.rooted;
      ordered = ordered-map f same bs w.ordered (λ y r i j. ranked bs w.ordered y r i j);
      once = λ p. (let a = times-same ids_of f p bs (λ y i. refl) in let b = w.once p in omega arith);
      known = λ n i p t. (
          let x = in-map f n bs i in
          owned p bs ∙ w.known x.0 x.1.0 p (named-any p x.0
          ∙ sym (ap₂ (λ a b. a || b) (heads-shift q k (naming p) (λ r i j. refl) x.0.parts.head) (conds-shift q k (naming p) (λ r i j. refl) x.0.parts.conds.items))
          ∙ sym (named-any p (f x.0)) ∙ subst (λ z. holds p (named_by z) ≡ true) (sym x.1.1) t));
    }
  where
    all : (p : ℕ) (ns : List Node) → list_any (owns p) (map (shift_node k q) ns) ≡ list_any (owns p) ns
    all p [] = refl
    all p (n ∷ ns) = ap (λ z. owns p n || z) (all p ns)

pub column-dropped : (g : QueryGraph) → IsPlaced g → (b k : ℕ) → HasBox b g → IsPlaced (drop_column b k g)
column-dropped g w b k h =
    every (quants_over b (change (is_box b) (without_cell (k - 1)) g.boxes)) (change (is_box b) (without_cell (k - 1)) g.boxes) (parts-by g w b (without_cell (k - 1)) h (λ y. refl) (λ y. refl) (λ y i e q t. w.known y i q (elim (named-parts q (without_cell (k - 1) y) t) [
      | inl a ↦ named-head q y (any-remove (says q) (k - 1) y.parts.head a)
      | inr a ↦ named-conds q y a
    ])))
  where
    every : (qs : List ℕ) (bs : List Node) → Placed bs g.root → Placed (each (shift_boxes k) qs bs) g.root
    every [] bs w = w
    every (q ∷ qs) bs w = every qs (shift_boxes k q bs) (shift-placed k q bs g.root w)
