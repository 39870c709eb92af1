-- The places of P1 to P4 are exactly those where a conjunct may go down.
use Rattle.std.proofs.Common.{ℕ, ◌+◌, ◌==◌, ◌≡◌, ◌&&◌, ◌≤◌, not, cond, Bool, true, false, List, ◌∷◌, ◌++◌, map, length, Option, Some, None, refl, sym, ap, subst, ◌∙◌, eqb-true, arith, inl, inr, []}
use Rattle.std.specs.Prelude.{◌↔◌}
use Rattle.std.specs.List.{list_any}
use Rattle.std.proofs.lemmas.Bool.{and_from, and_parts, cases_Bool, eq-eqb, not-true}
use Rattle.qgm_core.specs.Boxes.{QueryGraph, box_of, ids_in, ids_of, is_box, overs_in}
use Rattle.qgm_core.specs.Edits.{conds_in}
use Rattle.qgm_core.specs.Kinds.{is_F, is_plain, is_select}
use Rattle.list_laws.specs.Lists.{In, first, times}
use Rattle.qgm_core.specs.declared.node.Node.{Node}
use Rattle.qgm_core.specs.declared.owned.OwnedQuant.{OwnedQuant}
use Rattle.qgm_wellformed.specs.Sentences.{WellFormed}
use Rattle.qgm_wellformed.specs.declared.clause.Clause.TheVariants.{I2}
use Rattle.qgm_meaning.specs.Searches.{looking}
use Rattle.qgm_terms.specs.Named.{names_in_cond}
use Rattle.qgm_terms.specs.Terms.{Cond}
use Rattle.qgm_terms.specs.Wanted.{any_in_cond, reads_cond, wanted}
use Rattle.qgm_terms.specs.declared.sought.Sought.TheVariants as sought
use Rattle.qgm_edit_laws.proofs.AnyPut.{conds-more}
use Rattle.qgm_edit_laws.proofs.Edits.{split-once}
use Rattle.qgm_edit_laws.proofs.Levels.{some-in}
use Rattle.qgm_edit_laws.proofs.Naming.{cond-any}
use Rattle.qgm_edit_laws.proofs.Turns.{split-in}
use Rattle.rule_api.specs.PickLaws.{picks_exact}
use Rattle.rule_api.specs.Picks.{Passes}
use Rattle.rule_push.specs.PushPlaces.{Anywhere, MayPush, alone_of, goes, into_box, is_alone, is_read, leaves, may_leave, push_pairs, reads_other, way_out}
use Rattle.rule_api.specs.declared.place.Place.{Place}
use Rattle.rule_push.specs.Pushable.{Pushable}
use Rattle.list_laws.proofs.Counting.{times-in}
use Rattle.list_laws.proofs.Membership.{any-from, any-not, holds-in}
use Rattle.list_laws.proofs.Booleans.{clash, or-false}
use Rattle.qgm_core.proofs.KindTests.{plain-is, select-is}

-- ---- the numbers that pass

passes-from : {X : Type 0} (p : X → Bool) (first : ℕ) (rs : List X) (i : ℕ) → Passes p first rs i → (us : List X) × ((r : X) × ((vs : List X) × ((rs ≡ us ++ r ∷ vs) × (i ≡ length us + first) × (p r ≡ true))))
passes-from p first [] i h = elim h [ ]
passes-from p first (r ∷ rs) i h = elim h [
  | inl k ↦ ([], (r, (rs, (refl, (let e = k.0 in omega arith), k.1))))
  | inr k ↦ (let x = passes-from p (first + 1) rs i k in (r ∷ x.0, (x.1.0, (x.1.1.0, (ap (λ z. r ∷ z) x.1.1.1.0, (let e = x.1.1.1.1 in omega arith), x.1.1.1.2)))))
]

passes-to : {X : Type 0} (p : X → Bool) (first : ℕ) (us : List X) (r : X) (vs : List X) (i : ℕ) → i ≡ length us + first → p r ≡ true → Passes p first (us ++ r ∷ vs) i
passes-to p first [] r vs i e h = inl ((omega arith), h)
passes-to p first (u ∷ us) r vs i e h = inr (passes-to p (first + 1) us r vs i (omega arith) h)

-- ---- what is read is named

pub read-named : (q : ℕ) (p : Cond) → reads_cond q p ≡ true → In q (names_in_cond p)
read-named q p h =
    let l : list_any (any_in_cond (wanted (sought.Row q))) (p ∷ []) ≡ true = or-false (any_in_cond (wanted (sought.Row q)) p) ∙ h in
    let m = conds-more (λ r j. r == q) (λ r j. r == q) (λ r. false) (λ r. r == q) (λ r. false) (λ r. r == q) (λ r. not (r == q)) (λ r. true) (λ r j h. h) (λ r h. absurd (let z : ⊥ = cc in z)) (λ r h. absurd (let z : ⊥ = cc in z)) (λ r h. refl) (p ∷ []) l in
    holds-in q (names_in_cond p) (cond-any q p ∙ (sym (or-false (any_in_cond (looking (λ r j. r == q) (λ r. r == q) (λ r. r == q) (λ r. true)) p)) ∙ m))

-- ---- tests that give a quantifier

if-some : {X : Type 0} (t : Bool) (o : Option X) (x : X) → cond t o None ≡ Some x → (t ≡ true) × (o ≡ Some x)
if-some true o x h = (refl, h)
if-some false o x h = absurd (let z : ⊥ = cc in z)

if-true : {X : Type 0} (t : Bool) (o : Option X) → t ≡ true → cond t o None ≡ o
if-true t o h = ap (λ (b : Bool). cond b o None) h

alone-some : (g : QueryGraph) (p : Cond) (o : Option OwnedQuant) (r : OwnedQuant) → alone_of g p o ≡ Some r → (o ≡ Some r) × (is_alone g p r ≡ true)
alone-some g p None r h = absurd (let z : ⊥ = cc in z)
alone-some g p (Some x) r h =
    let a = if-some (is_alone g p x) (Some x) r h in
    (a.1, subst (λ z. is_alone g p z ≡ true) (let e : Some x ≡ Some r = a.1 in let d : x ≡ r = cc in d) a.0)

-- the first that is read, where no other is
pub first-read : (p : Cond) (us : List OwnedQuant) (r : OwnedQuant) (vs : List OwnedQuant) → is_F r.kind ≡ true → reads_cond r.id p ≡ true → ((q : ℕ) → reads_cond q p ≡ true → q ≡ r.id)
    → ((x : OwnedQuant) → In x us → (x.id == r.id) ≡ false) → first (is_read p) (us ++ r ∷ vs) ≡ Some r
first-read p [] r vs f t own apart = ap (λ (z : Bool). cond z (Some r) (first (is_read p) vs)) (and_from (is_F r.kind) (reads_cond r.id p) f t)
first-read p (u ∷ us) r vs f t own apart =
    ap (λ (z : Bool). cond z (Some u) (first (is_read p) (us ++ r ∷ vs))) not-read ∙ first-read p us r vs f t own (λ x i. apart x (inr i))
  where
    not-read : is_read p u ≡ false
    not-read = elim (cases_Bool (is_read p u)) [ inr n ↦ n | inl y ↦ absurd (clash (u.id == r.id) (eq-eqb u.id r.id (own u.id (and_parts (is_F u.kind) (reads_cond u.id p) y).1)) (apart u (inl refl))) ]

module _ (g : QueryGraph) (w : WellFormed g) where
  -- quantifiers before r in its box have other numbers
  pub apart : (b : Node) → In b g.boxes → (us : List OwnedQuant) (r : OwnedQuant) (vs : List OwnedQuant) → b.quants ≡ us ++ r ∷ vs → (x : OwnedQuant) → In x us → (x.id == r.id) ≡ false
  apart b i us r vs e x j =
      let once : times r.id (ids_in g.boxes) ≡ 1 = w.kept I2 b i r (subst (λ z. In r z) (sym e) (mid us)) in
      let few = times-in ids_of r.id b g.boxes i in
      let own : times r.id (map (λ (x : OwnedQuant). x.id) (us ++ r ∷ vs)) ≤ 1 = subst (λ z. times r.id (map (λ (x : OwnedQuant). x.id) z) ≤ 1) e (omega (arith, once, few)) in
      split-once (λ (x : OwnedQuant). x.id) us r vs own x (inl j)
    where
      mid : (xs : List OwnedQuant) → In r (xs ++ r ∷ vs)
      mid [] = inl refl
      mid (x ∷ xs) = inr (mid xs)

module _ (g : QueryGraph) (w : WellFormed g) (passes : Cond → OwnedQuant → Node → Bool) (P : Cond → OwnedQuant → Node → Type 0) (says : (p : Cond) (r : OwnedQuant) (c : Node) → box_of r.over g ≡ Some c → (passes p r c ≡ true) ↔ P p r c) where
  abbrev Leaves : Node → List Cond → Cond → List Cond → Type 0
  Leaves b ps p qs = (c : Node) × ((us : List OwnedQuant) × ((r : OwnedQuant) × ((vs : List OwnedQuant) × (Pushable g b c ps p qs us r vs × P p r c))))

  in-box : (b : ℕ) (found : Option Node) (p : Cond) → leaves passes g found p ≡ true → (n : Node) × ((found ≡ Some n) × (may_leave passes g n p ≡ true))
  in-box b None p h = absurd (let z : ⊥ = cc in z)
  in-box b (Some n) p h = (n, (refl, h))

  in-way : (found : Option OwnedQuant) (p : Cond) → goes passes g p found ≡ true → (r : OwnedQuant) × ((found ≡ Some r) × (into_box passes p r (box_of r.over g) ≡ true))
  in-way None p h = absurd (let z : ⊥ = cc in z)
  in-way (Some r) p h = (r, (refl, h))

  in-under : (found : Option Node) (p : Cond) (r : OwnedQuant) → into_box passes p r found ≡ true → (c : Node) × ((found ≡ Some c) × (passes p r c ≡ true))
  in-under None p r h = absurd (let z : ⊥ = cc in z)
  in-under (Some c) p r h = (c, (refl, h))

  leaves-from : (b : Node) → In b g.boxes → (ps : List Cond) (p : Cond) (qs : List Cond) → b.parts.conds.items ≡ ps ++ p ∷ qs → may_leave passes g b p ≡ true → Leaves b ps p qs
  leaves-from b i ps p qs e h =
      let x = in-way (way_out g b p) p h in
      let r : OwnedQuant = x.0 in
      let t = if-some (is_select b.parts.kind && is_plain b.parts.role) (alone_of g p (first (is_read p) b.quants)) r x.1.0 in
      let d = and_parts (is_select b.parts.kind) (is_plain b.parts.role) t.0 in
      let a = alone-some g p (first (is_read p) b.quants) r t.1 in
      let k = some-in (is_read p) b.quants r a.0 in
      let read = and_parts (is_F r.kind) (reads_cond r.id p) k.1 in
      let c = in-under (box_of r.over g) p r x.1.1 in
      let l = and_parts (not (any_in_cond (wanted sought.Node) p) && not (reads_other r.id p (names_in_cond p))) (times r.over (overs_in g.boxes) == 1) a.1 in
      let m = and_parts (not (any_in_cond (wanted sought.Node) p)) (not (reads_other r.id p (names_in_cond p))) l.0 in
      let s = split-in r b.quants k.0 in (
        c.0,
        (
          s.0,
          (
            r,
            (
              s.1.0,
              (
                record {
                  plain = plain-is b.parts.role d.1;
                  from = record {
                    in_b = i;
                    select_b = select-is b.parts.kind d.0;
                    split = s.1.1;
                    is_f = read.0;
                    one_use = eqb-true (times r.over (overs_in g.boxes)) 1 l.1;
                    conds = e;
                    node_free = not-true (any_in_cond (wanted sought.Node) p) m.0;
                    own = λ q t. elim (cases_Bool (q == r.id)) [
                      | inl y ↦ eqb-true q r.id y
                      | inr n ↦ absurd (clash (reads_other r.id p (names_in_cond p)) (any-from (λ x. not (x == r.id) && reads_cond x p) q (names_in_cond p) (read-named q p t) (and_from (not (q == r.id)) (reads_cond q p) (ap not n) t)) (not-true (reads_other r.id p (names_in_cond p)) m.1))
                    ];
                  };
                  some = read.1;
                  under = c.1.0;
                },
                (says p r c.0 c.1.0).0 c.1.1,
              ),
            ),
          ),
        ),
      )

  leaves-to : (b : Node) (ps : List Cond) (p : Cond) (qs : List Cond) (c : Node) (us : List OwnedQuant) (r : OwnedQuant) (vs : List OwnedQuant) → Pushable g b c ps p qs us r vs → P p r c → may_leave passes g b p ≡ true
  leaves-to b ps p qs c us r vs m fits =
      ap (goes passes g p) (if-true (is_select b.parts.kind && is_plain b.parts.role) (alone_of g p (first (is_read p) b.quants)) (and_from (is_select b.parts.kind) (is_plain b.parts.role) (ap is_select m.from.select_b) (ap is_plain m.plain))
      ∙ ap (λ z. alone_of g p (first (is_read p) z)) m.from.split
      ∙ ap (alone_of g p) (first-read p us r vs m.from.is_f m.some m.from.own (apart g w b m.from.in_b us r vs m.from.split))
      ∙ if-true (is_alone g p r) (Some r) alone)
      ∙ ap (into_box passes p r) m.under ∙ (says p r c m.under).1 fits
    where
      none-other : reads_other r.id p (names_in_cond p) ≡ false
      none-other = any-not (λ x. not (x == r.id) && reads_cond x p) (names_in_cond p) (λ x i. elim (cases_Bool (not (x == r.id) && reads_cond x p)) [
        | inr n ↦ n
        | inl t ↦ absurd (let y = and_parts (not (x == r.id)) (reads_cond x p) t in clash (x == r.id) (eq-eqb x r.id (m.from.own x y.1)) (not-true (x == r.id) y.0))
      ])

      alone : is_alone g p r ≡ true
      alone =
          and_from (not (any_in_cond (wanted sought.Node) p) && not (reads_other r.id p (names_in_cond p))) (times r.over (overs_in g.boxes) == 1)
          (and_from (not (any_in_cond (wanted sought.Node) p)) (not (reads_other r.id p (names_in_cond p))) (ap not m.from.node_free) (ap not none-other))
          (eq-eqb (times r.over (overs_in g.boxes)) 1 m.from.one_use)

  exact-to : (b i j : ℕ) → In (i, j) (push_pairs passes g b) → MayPush P (record { at = b; i = i; j = j }) g
  exact-to b i j h =
      let a = (picks_exact (leaves passes g (box_of b g)) 1 (conds_in (box_of b g)) i j).0 h in
      let x = passes-from (leaves passes g (box_of b g)) 1 (conds_in (box_of b g)) i a.1 in
      let n = in-box b (box_of b g) x.1.0 x.1.1.1.2 in
      let e : n.0.parts.conds.items ≡ x.0 ++ x.1.0 ∷ x.1.1.0 = sym (ap conds_in n.1.0) ∙ x.1.1.1.0 in
      let m = leaves-from n.0 (some-in (is_box b) g.boxes n.0 n.1.0).0 x.0 x.1.0 x.1.1.0 e n.1.1 in
      record {
        no_second = a.0;
        b = n.0;
        c = m.0;
        ps = x.0;
        p = x.1.0;
        qs = x.1.1.0;
        us = m.1.0;
        r = m.1.1.0;
        vs = m.1.1.1.0;
        found = n.1.0;
        nth = let d = x.1.1.1.1 in omega (arith, d);
        pushable = m.1.1.1.1.0;
        fits = m.1.1.1.1.1;
      }

  exact-from : (b i j : ℕ) → MayPush P (record { at = b; i = i; j = j }) g → In (i, j) (push_pairs passes g b)
  exact-from b i j m =
      let t : leaves passes g (box_of b g) m.p ≡ true = ap (λ z. leaves passes g z m.p) m.found ∙ leaves-to m.b m.ps m.p m.qs m.c m.us m.r m.vs m.pushable m.fits in
      let e : conds_in (box_of b g) ≡ m.ps ++ m.p ∷ m.qs = ap conds_in m.found ∙ m.pushable.from.conds in
      (picks_exact (leaves passes g (box_of b g)) 1 (conds_in (box_of b g)) i j).1
      (m.no_second, subst (λ z. Passes (leaves passes g (box_of b g)) 1 z i) (sym e) (passes-to (leaves passes g (box_of b g)) 1 m.ps m.p m.qs i (let d = m.nth in omega (arith, d)) t))

  pub push-exact : (b i j : ℕ) → In (i, j) (push_pairs passes g b) ↔ MayPush P (record { at = b; i = i; j = j }) g
  push-exact b i j = (exact-to b i j, exact-from b i j)

-- ---- what a rule's condition is not asked for

abbrev pub weaker : {P Q : Cond → OwnedQuant → Node → Type 0} (at : Place) (g : QueryGraph) → ((p : Cond) (r : OwnedQuant) (c : Node) → P p r c → Q p r c) → MayPush P at g → MayPush Q at g
weaker at g f m = record { no_second = m.no_second; b = m.b; c = m.c; ps = m.ps; p = m.p; qs = m.qs; us = m.us; r = m.r; vs = m.vs; found = m.found; nth = m.nth; pushable = m.pushable; fits = f m.p m.r m.c m.fits }

abbrev pub anywhere : {P : Cond → OwnedQuant → Node → Type 0} (at : Place) (g : QueryGraph) → MayPush P at g → MayPush Anywhere at g
anywhere at g m = weaker at g (λ p r c x. tt) m
