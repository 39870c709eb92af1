-- Edits of lists at what stands amid them.
use Rattle.std.proofs.Common.{◌≡◌, ◌||◌, Bool, true, false, List, [], ◌∷◌, ◌++◌, Some, append_assoc, cond, sym, ap, subst, ◌∙◌, inl, inr}
use Rattle.std.specs.List.{list_any}
use Rattle.qgm_core.specs.Boxes.{Ordered, has_box, is_box}
use Rattle.list_laws.specs.Lists.{In, change, first, put_below, without}
use Rattle.qgm_core.specs.declared.node.Node.{Node}
use Rattle.qgm_core.specs.declared.owned.OwnedQuant.{OwnedQuant}
use Rattle.qgm_edit_laws.proofs.Ranks.{has-in, same-box}
use Rattle.list_laws.proofs.Booleans.{neither-left, neither-right}
use Rattle.list_laws.proofs.Membership.{all-in, any-not, append-one, eq-false-sym, in-right}
use Rattle.rule_magic.proofs.AbsorbSelectFormed.{ordered-apart, ordered-tail}

module _ {X : Type 0} (p : X → Bool) where
  pub change-amid : (f : X → X) (us : List X) (x : X) (vs : List X) → list_any p us ≡ false → p x ≡ true → change p f (us ++ x ∷ vs) ≡ us ++ f x ∷ vs
  change-amid f [] x vs n t = ap (λ b. cond b (f x ∷ vs) (x ∷ change p f vs)) t
  change-amid f (u ∷ us) x vs n t =
      ap (λ b. cond b (f u ∷ (us ++ x ∷ vs)) (u ∷ change p f (us ++ x ∷ vs))) (neither-left (p u) (list_any p us) n)
      ∙ ap (λ (zs : List X). u ∷ zs) (change-amid f us x vs (neither-right (p u) (list_any p us) n) t)

  pub without-amid : (us : List X) (x : X) (vs : List X) → list_any p us ≡ false → p x ≡ true → without p (us ++ x ∷ vs) ≡ us ++ vs
  without-amid [] x vs n t = ap (λ b. cond b vs (x ∷ without p vs)) t
  without-amid (u ∷ us) x vs n t =
      ap (λ b. cond b (us ++ x ∷ vs) (u ∷ without p (us ++ x ∷ vs))) (neither-left (p u) (list_any p us) n)
      ∙ ap (λ (zs : List X). u ∷ zs) (without-amid us x vs (neither-right (p u) (list_any p us) n) t)

  pub first-amid : (us : List X) (x : X) (vs : List X) → list_any p us ≡ false → p x ≡ true → first p (us ++ x ∷ vs) ≡ Some x
  first-amid [] x vs n t = ap (λ b. cond b (Some x) (first p vs)) t
  first-amid (u ∷ us) x vs n t = ap (λ b. cond b (Some u) (first p (us ++ x ∷ vs))) (neither-left (p u) (list_any p us) n) ∙ first-amid us x vs (neither-right (p u) (list_any p us) n) t

  pub put-amid : (y : X) (us : List X) (x : X) (vs : List X) → list_any p us ≡ false → p x ≡ true → put_below p y (us ++ x ∷ vs) ≡ us ++ x ∷ (y ∷ vs)
  put-amid y [] x vs n t = ap (λ b. cond b (x ∷ (y ∷ vs)) (x ∷ put_below p y vs)) t
  put-amid y (u ∷ us) x vs n t =
      ap (λ b. cond b (u ∷ (y ∷ (us ++ x ∷ vs))) (u ∷ put_below p y (us ++ x ∷ vs))) (neither-left (p u) (list_any p us) n)
      ∙ ap (λ (zs : List X). u ∷ zs) (put-amid y us x vs (neither-right (p u) (list_any p us) n) t)

  pub none-append : (us vs : List X) → list_any p us ≡ false → list_any p vs ≡ false → list_any p (us ++ vs) ≡ false
  none-append [] vs n k = k
  none-append (u ∷ us) vs n k = ap (λ b. b || list_any p (us ++ vs)) (neither-left (p u) (list_any p us) n) ∙ none-append us vs (neither-right (p u) (list_any p us) n) k

  -- one behind it, and one behind that
  none-two : (us : List X) (x : X) → list_any p us ≡ false → p x ≡ false → list_any p (us ++ x ∷ []) ≡ false
  none-two us x n f = none-append us (x ∷ []) n (ap (λ b. b || false) f)

  pub change-second : (f : X → X) (us : List X) (x y : X) (vs : List X) → list_any p us ≡ false → p x ≡ false → p y ≡ true → change p f (us ++ x ∷ (y ∷ vs)) ≡ us ++ x ∷ (f y ∷ vs)
  change-second f us x y vs n k t = ap (change p f) (sym (append-one us x (y ∷ vs))) ∙ change-amid f (us ++ x ∷ []) y vs (none-two us x n k) t ∙ append-one us x (f y ∷ vs)

  pub put-second : (z : X) (us : List X) (x y : X) (vs : List X) → list_any p us ≡ false → p x ≡ false → p y ≡ true → put_below p z (us ++ x ∷ (y ∷ vs)) ≡ us ++ x ∷ (y ∷ (z ∷ vs))
  put-second z us x y vs n k t = ap (put_below p z) (sym (append-one us x (y ∷ vs))) ∙ put-amid z (us ++ x ∷ []) y vs (none-two us x n k) t ∙ append-one us x (y ∷ (z ∷ vs))

  pub change-third : (f : X → X) (us : List X) (w x y : X) (vs : List X) → list_any p us ≡ false → p w ≡ false → p x ≡ false → p y ≡ true → change p f (us ++ w ∷ (x ∷ (y ∷ vs))) ≡ us ++ w ∷ (x ∷ (f y ∷ vs))
  change-third f us w x y vs n h k t = ap (change p f) (sym (append-one us w (x ∷ (y ∷ vs)))) ∙ change-second f (us ++ w ∷ []) x y vs (none-two us w n h) k t ∙ append-one us w (x ∷ (f y ∷ vs))

  pub put-third : (z : X) (us : List X) (w x y : X) (vs : List X) → list_any p us ≡ false → p w ≡ false → p x ≡ false → p y ≡ true → put_below p z (us ++ w ∷ (x ∷ (y ∷ vs))) ≡ us ++ w ∷ (x ∷ (y ∷ (z ∷ vs)))
  put-third z us w x y vs n h k t = ap (put_below p z) (sym (append-one us w (x ∷ (y ∷ vs)))) ∙ put-second z (us ++ w ∷ []) x y vs (none-two us w n h) k t ∙ append-one us w (x ∷ (y ∷ (z ∷ vs)))

  -- one behind these, two more, and others
  module _ (us : List X) (w x : X) (vs : List X) (y : X) (ys : List X) where
    far : (us ++ w ∷ (x ∷ vs)) ++ y ∷ ys ≡ us ++ w ∷ (x ∷ (vs ++ y ∷ ys))
    far = append_assoc us (w ∷ (x ∷ vs)) (y ∷ ys)

    none-far : list_any p us ≡ false → p w ≡ false → p x ≡ false → list_any p vs ≡ false → list_any p (us ++ w ∷ (x ∷ vs)) ≡ false
    none-far n h k m = none-append us (w ∷ (x ∷ vs)) n (ap (λ b. b || (p x || list_any p vs)) h ∙ ap (λ b. b || list_any p vs) k ∙ m)

    pub first-far : list_any p us ≡ false → p w ≡ false → p x ≡ false → list_any p vs ≡ false → p y ≡ true → first p (us ++ w ∷ (x ∷ (vs ++ y ∷ ys))) ≡ Some y
    first-far n h k m t = ap (first p) (sym far) ∙ first-amid (us ++ w ∷ (x ∷ vs)) y ys (none-far n h k m) t

    pub change-far : (f : X → X) → list_any p us ≡ false → p w ≡ false → p x ≡ false → list_any p vs ≡ false → p y ≡ true → change p f (us ++ w ∷ (x ∷ (vs ++ y ∷ ys))) ≡ us ++ w ∷ (x ∷ (vs ++ f y ∷ ys))
    change-far f n h k m t = ap (change p f) (sym far) ∙ change-amid f (us ++ w ∷ (x ∷ vs)) y ys (none-far n h k m) t ∙ append_assoc us (w ∷ (x ∷ vs)) (f y ∷ ys)

    pub without-far : list_any p us ≡ false → p w ≡ false → p x ≡ false → list_any p vs ≡ false → p y ≡ true → without p (us ++ w ∷ (x ∷ (vs ++ y ∷ ys))) ≡ us ++ w ∷ (x ∷ (vs ++ ys))
    without-far n h k m t = ap (without p) (sym far) ∙ without-amid (us ++ w ∷ (x ∷ vs)) y ys (none-far n h k m) t ∙ append_assoc us (w ∷ (x ∷ vs)) ys

-- ---- a box amid the boxes

pub in-split : (n : Node) (ns : List Node) → In n ns → (us : List Node) × ((vs : List Node) × (ns ≡ us ++ n ∷ vs))
in-split n [] i = elim i [ ]
in-split n (m ∷ ns) (inl e) = ([], (ns, ap (λ (z : Node). z ∷ ns) e))
in-split n (m ∷ ns) (inr i) = let x = in-split n ns i in (m ∷ x.0, (x.1.0, ap (λ (zs : List Node). m ∷ zs) x.1.1))

-- a box stands before those that its quantifiers range over
pub record Behind (ns : List Node) (d c : Node) : Type 0 where
  pub up : List Node
  pub l1 : List Node
  pub l2 : List Node
  pub before : ns ≡ up ++ d ∷ (l1 ++ c ∷ l2)

pub behind : (ns : List Node) → Ordered ns → (d c : Node) (r : OwnedQuant) → In d ns → In c ns → In r d.quants → c.id ≡ r.over → Behind ns d c
behind ns o d c r i j k e =
    let x = in-split d ns i in
    let o2 : Ordered (x.0 ++ d ∷ x.1.0) = subst Ordered x.1.1 o in
    let tail : Ordered (d ∷ x.1.0) = ordered-tail x.0 (d ∷ x.1.0) o2 in
    let y = has-in r.over x.1.0 (all-in (λ (s : OwnedQuant). has_box x.1.0 s.over) r d.quants tail.1 k) in
    let iy : In y.0 ns = subst (In y.0) (sym x.1.1) (in-right y.0 x.0 (d ∷ x.1.0) (inr y.1.0)) in
    let same : y.0 ≡ c = same-box ns y.0 c o iy j (y.1.1 ∙ sym e) in
    let z = in-split c x.1.0 (subst (λ (n : Node). In n x.1.0) same y.1.0) in
    record { up = x.0; l1 = z.0; l2 = z.1.0; before = x.1.1 ∙ ap (λ (zs : List Node). x.0 ++ d ∷ zs) z.1.1 }

-- no box before it has its number
pub none-before : (up ys : List Node) (x : Node) → Ordered (up ++ ys) → In x ys → list_any (is_box x.id) up ≡ false
none-before up ys x o i = any-not (is_box x.id) up (λ n j. eq-false-sym x.id n.id (ordered-apart up ys o n x j i))
