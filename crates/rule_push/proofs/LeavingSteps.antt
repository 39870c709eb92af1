-- What is found at a place of P1 to P4, and what the steps of an action do there.
use Rattle.std.proofs.Common.{ℕ, suc, ◌==◌, ◌≡◌, ◌-◌, ◌≤◌, ◌<◌, false, List, ◌∷◌, ◌++◌, length, Some, None, slice_get, refl, sym, ap, ap₂, subst, ◌∙◌, eqb-true, arith, inl, inr, []}
use Rattle.std.proofs.lemmas.Bool.{cases_Bool}
use Rattle.qgm_core.specs.Boxes.{HasBox, QueryGraph, box_of, is_box, numbers}
use Rattle.qgm_core.specs.Edits.{compact}
use Rattle.list_laws.specs.Lists.{EachOnce, In, first}
use Rattle.qgm_core.specs.declared.node.Node.{Node}
use Rattle.qgm_core.specs.declared.owned.OwnedQuant.{OwnedQuant}
use Rattle.qgm_wellformed.specs.Sentences.{WellFormed}
use Rattle.qgm_wellformed.proofs.Faults.{finds-none}
use Rattle.qgm_edit_laws.specs.ConjunctEdits.{put_conjunct, with_conjuncts}
use Rattle.qgm_edit_laws.specs.Graph.{Sound}
use Rattle.qgm_edit_laws.proofs.Formed.{sound-checked}
use Rattle.qgm_edit_laws.proofs.Levels.{number-of, some-in}
use Rattle.qgm_edit_laws.proofs.OneUse as used
use Rattle.qgm_edit_laws.proofs.Ranks.{place}
use Rattle.qgm_terms.specs.Substitution.{substituted_cond}
use Rattle.qgm_terms.specs.Terms.{Cond}
use Rattle.rule_api.specs.declared.place.Place.{Place}
use Rattle.rule_push.specs.Leaving.{first_range, second_range}
use Rattle.rule_push.specs.Moves.{arms_plan, push_plan, push_steps}
use Rattle.rule_push.specs.PushExact.{apart, first-read}
use Rattle.rule_push.specs.PushPlaces.{MayPush, is_read}
use Rattle.rule_push.specs.declared.moves.PushPlan.{PushPlan}
use Rattle.rule_push.proofs.MoveSteps.{ordered-put, steps-push}
use Rattle.qgm_core.proofs.Reaching.{in-has}

get-mid : {X : Type 0} (ps : List X) (p : X) (qs : List X) → slice_get (ps ++ p ∷ qs) (length ps) ≡ Some p
get-mid [] p qs = refl
get-mid (x ∷ ps) p qs = get-mid ps p qs

long-mid : {X : Type 0} (ps : List X) (p : X) (qs : List X) → suc (length ps) ≤ length (ps ++ p ∷ qs)
long-mid [] p qs = let e : length (p ∷ qs) ≡ suc (length qs) = refl in omega (arith, e)
long-mid (x ∷ ps) p qs = let h = long-mid ps p qs in let e : length (x ∷ (ps ++ p ∷ qs)) ≡ suc (length (ps ++ p ∷ qs)) = refl in let d : length (x ∷ ps) ≡ suc (length ps) = refl in omega (arith, h, e, d)

in-mid : {X : Type 0} (us : List X) (r : X) (vs : List X) → In r (us ++ r ∷ vs)
in-mid [] r vs = inl refl
in-mid (u ∷ us) r vs = inr (in-mid us r vs)

module _ {P : Cond → OwnedQuant → Node → Type 0} (g : QueryGraph) (w : WellFormed g) (pl : Place) (m : MayPush P pl g) where
  -- ---- what is found

  pub b-is : (b : Node) → first (is_box pl.at) g.boxes ≡ Some b → b ≡ m.b
  b-is b e = let x : Some b ≡ Some m.b = sym e ∙ m.found in cc

  pub from-one : 1 ≤ pl.i
  from-one = let e = m.nth in omega (arith, e)

  pub within : (b : Node) → b ≡ m.b → pl.i ≤ length b.parts.conds.items
  within b e = subst (λ (z : Node). pl.i ≤ length z.parts.conds.items) (sym e) (subst (λ z. pl.i ≤ length z) (sym m.pushable.from.conds) (let l = long-mid m.ps m.p m.qs in let d = m.nth in omega (arith, l, d)))

  pub place-is : pl.i - 1 ≡ length m.ps
  place-is = let e = m.nth in omega (arith, e)

  pub p-is : (b : Node) → b ≡ m.b → (p : Cond) → slice_get b.parts.conds.items (pl.i - 1) ≡ Some p → p ≡ m.p
  p-is b e p f = let x : Some p ≡ Some m.p = sym f ∙ ap (λ (z : Node). slice_get z.parts.conds.items (pl.i - 1)) e ∙ ap₂ slice_get m.pushable.from.conds place-is ∙ get-mid m.ps m.p m.qs in cc

  read-is : first (is_read m.p) m.b.quants ≡ Some m.r
  read-is = ap (first (is_read m.p)) m.pushable.from.split ∙ first-read m.p m.us m.r m.vs m.pushable.from.is_f m.pushable.some m.pushable.from.own (apart g w m.b m.pushable.from.in_b m.us m.r m.vs m.pushable.from.split)

  found-read : (b : Node) → b ≡ m.b → (p : Cond) → p ≡ m.p → first (is_read p) b.quants ≡ Some m.r
  found-read b e p f = ap₂ (λ (x : Cond) (y : Node). first (is_read x) y.quants) f e ∙ read-is

  pub r-is : (b : Node) → b ≡ m.b → (p : Cond) → p ≡ m.p → (r : OwnedQuant) → first (is_read p) b.quants ≡ Some r → r ≡ m.r
  r-is b e p f r h = let x : Some r ≡ Some m.r = sym h ∙ found-read b e p f in cc

  found-under : (r : OwnedQuant) → r ≡ m.r → first (is_box r.over) g.boxes ≡ Some m.c
  found-under r e = ap (λ (z : OwnedQuant). first (is_box z.over) g.boxes) e ∙ m.pushable.under

  pub c-is : (r : OwnedQuant) → r ≡ m.r → (c : Node) → first (is_box r.over) g.boxes ≡ Some c → c ≡ m.c
  c-is r e c k = let x : Some c ≡ Some m.c = sym k ∙ found-under r e in cc

  pub no-box : first (is_box pl.at) g.boxes ≡ None → ⊥
  no-box k = let x : None ≡ Some m.b = sym k ∙ m.found in let z : ⊥ = cc in z

  pub no-quant : (b : Node) → b ≡ m.b → (p : Cond) → p ≡ m.p → first (is_read p) b.quants ≡ None → ⊥
  no-quant b e p f h = let x : None ≡ Some m.r = sym h ∙ found-read b e p f in let z : ⊥ = cc in z

  pub no-under : (r : OwnedQuant) → r ≡ m.r → first (is_box r.over) g.boxes ≡ None → ⊥
  no-under r e k = let x : None ≡ Some m.c = sym k ∙ found-under r e in let z : ⊥ = cc in z

  -- ---- where boxes stand

  module _ (u : EachOnce (numbers g.boxes)) where
    pub sound : Sound g.boxes g.root
    sound = ((sound-checked g u).0 ((finds-none g u).1 w)).0

    pub in-c : In m.c g.boxes
    in-c = (some-in (is_box m.r.over) g.boxes m.c m.pushable.under).0

    pub in-r : In m.r m.b.quants
    in-r = subst (λ z. In m.r z) (sym m.pushable.from.split) (in-mid m.us m.r m.vs)

    pub over-c : m.r.over ≡ m.c.id
    over-c = sym (number-of g.boxes m.r.over m.c m.pushable.under)

    pub b-not-c : (m.b.id == m.c.id) ≡ false
    b-not-c = used.apart g.boxes g.root sound m.b m.r m.pushable.from.in_b in-r m.c.id over-c

    -- a box under a quantifier of c
    module _ (s : OwnedQuant) (in-s : In s m.c.quants) (n : Node) (under : box_of s.over g ≡ Some n) where
      pub in-n : In n g.boxes
      in-n = (some-in (is_box s.over) g.boxes n under).0

      pub over-n : s.over ≡ n.id
      over-n = sym (number-of g.boxes s.over n under)

      pub b-not-n : (m.b.id == n.id) ≡ false
      b-not-n = elim (cases_Bool (m.b.id == n.id)) [
        | inr z ↦ z
        | inl z ↦ absurd (
            let x : place g.boxes m.b.id < place g.boxes m.c.id = subst (λ z. place g.boxes m.b.id < place g.boxes z) over-c (used.below g.boxes g.root sound m.b m.r m.pushable.from.in_b in-r) in
            let y : place g.boxes m.c.id < place g.boxes n.id = subst (λ z. place g.boxes m.c.id < place g.boxes z) over-n (used.below g.boxes g.root sound m.c s in-c in-s) in
            let e : place g.boxes m.b.id ≡ place g.boxes n.id = ap (place g.boxes) (eqb-true m.b.id n.id z) in let q : ⊥ = omega arith in q)
      ]

    -- ---- one box gets it

    module _ (n : Node) (in-n : In n g.boxes) (b-not-n : (m.b.id == n.id) ≡ false) (p : Cond) (x : PushPlan) (plans : x ≡ push_plan m.b (length m.ps) n p) where
      pub from-there : HasBox x.b g
      from-there = subst (λ (z : PushPlan). HasBox z.b g) (sym plans) (in-has m.b g.boxes m.pushable.from.in_b)

      pub to-there : HasBox x.n g
      to-there = subst (λ (z : PushPlan). HasBox z.n g) (sym plans) (in-has n g.boxes in-n)

      pub done : push_steps x g ≡ compact (with_conjuncts m.b (m.ps ++ m.qs) (put_conjunct n p g))
      done = ap (λ (z : PushPlan). push_steps z g) plans ∙ steps-push g sound.ordered (λ n p. ordered-put g sound.ordered n p) m.b n m.pushable.from.in_b in-n b-not-n m.ps m.p m.qs m.pushable.from.conds p

-- ---- boxes below

pub first-is : (rs : List OwnedQuant) (s : OwnedQuant) (others : List OwnedQuant) → rs ≡ s ∷ others → (x : OwnedQuant) → Some x ≡ first_range rs → x ≡ s
first-is rs s others e x h = let y : Some x ≡ Some s = h ∙ ap first_range e in cc

pub no-first : (rs : List OwnedQuant) (s : OwnedQuant) (others : List OwnedQuant) → rs ≡ s ∷ others → None ≡ first_range rs → ⊥
no-first rs s others e h = let y : None ≡ Some s = h ∙ ap first_range e in let z : ⊥ = cc in z

pub second-is : (rs : List OwnedQuant) (s t : OwnedQuant) (others : List OwnedQuant) → rs ≡ s ∷ (t ∷ others) → (x : OwnedQuant) → Some x ≡ second_range rs → x ≡ t
second-is rs s t others e x h = let y : Some x ≡ Some t = h ∙ ap second_range e in cc

pub no-second : (rs : List OwnedQuant) (s t : OwnedQuant) (others : List OwnedQuant) → rs ≡ s ∷ (t ∷ others) → None ≡ second_range rs → ⊥
no-second rs s t others e h = let y : None ≡ Some t = h ∙ ap second_range e in let z : ⊥ = cc in z

pub under-is : (bs : List Node) (s x : OwnedQuant) (n k : Node) → first (is_box s.over) bs ≡ Some n → x ≡ s → Some k ≡ first (is_box x.over) bs → k ≡ n
under-is bs s x n k under e h = let y : Some k ≡ Some n = h ∙ ap (λ (z : OwnedQuant). first (is_box z.over) bs) e ∙ under in cc

pub nothing-under : (bs : List Node) (s x : OwnedQuant) (n : Node) → first (is_box s.over) bs ≡ Some n → x ≡ s → None ≡ first (is_box x.over) bs → ⊥
nothing-under bs s x n under e h = let y : None ≡ Some n = h ∙ ap (λ (z : OwnedQuant). first (is_box z.over) bs) e ∙ under in let z : ⊥ = cc in z

-- ---- what is planned

pub put-is : (r s : OwnedQuant) (c d : Node) (p q : Cond) → r ≡ s → c ≡ d → p ≡ q → substituted_cond r.id c.parts.head p ≡ substituted_cond s.id d.parts.head q
put-is r s c d p q e f h = ap₂ (λ (x : OwnedQuant) (y : Node). substituted_cond x.id y.parts.head p) e f ∙ ap (substituted_cond s.id d.parts.head) h

pub plan-is : (b d : Node) (i j : ℕ) (n o : Node) (p q : Cond) → b ≡ d → i ≡ j → n ≡ o → p ≡ q → push_plan b i n p ≡ push_plan d j o q
plan-is b d i j n o p q e f h k = ap₂ (λ (x : Node) (y : ℕ). push_plan x y n p) e f ∙ ap₂ (λ (x : Node) (y : Cond). push_plan d j x y) h k

pub arms-are : (b d : Node) (i j : ℕ) (n o : Node) (p q : Cond) (m l : Node) (x y : Cond) → b ≡ d → i ≡ j → n ≡ o → p ≡ q → m ≡ l → x ≡ y → arms_plan b i n p m x ≡ arms_plan d j o q l y
arms-are b d i j n o p q m l x y e f h k v w =
    ap₂ (λ (z : Node) (w : ℕ). arms_plan z w n p m x) e f ∙ ap₂ (λ (z : Node) (w : Cond). arms_plan d j z w m x) h k ∙ ap₂ (λ (z : Node) (w : Cond). arms_plan d j o q z w) v w
