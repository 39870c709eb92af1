-- What the passes over boxes by rank mark: the boxes that are reached, and those that see a quantifier.
use Rattle.std.proofs.Common.{inl, inr, ◌≡◌, ◌<◌, ℕ, ◌+◌, ◌==◌, ◌&&◌, ◌||◌, not, Bool, true, false, cond, List, [], ◌∷◌, ◌++◌, filter, map, refl, ap, ap₂, sym, ◌∙◌, subst, arith}
use Rattle.std.specs.Prelude.{◌⊎◌, nat_lt}
use Rattle.std.specs.List.{flat_map, list_all}
use Rattle.std.proofs.lemmas.Bool.{and_parts, cases_Bool, eq-eqb, eqb-true, or_cases, or_left, or_right}
use Rattle.qgm_core.specs.Boxes.{Ordered, has_box, is_quant, overs_in, overs_of}
use Rattle.qgm_core.specs.Free.{Reaches, itself, through, free_in, is_owned, named_by, named_where, put_each, reached}
use Rattle.qgm_core.specs.Kinds.{is_F, is_select}
use Rattle.list_laws.specs.Lists.{In, holds, times}
use Rattle.qgm_core.specs.declared.node.Node.{Node}
use Rattle.qgm_core.specs.declared.owned.OwnedQuant.{OwnedQuant}
use Rattle.qgm_wellformed.specs.View.{is_row, scoped, shown_by, viewers}
use Rattle.qgm_wellformed.specs.WellFormed.{is_empty}
use Rattle.qgm_translation.specs.Shown.{over_in, uses}
use Rattle.qgm_translation_laws.proofs.Reached.{holds-append, lt-false, lt-true, not-later, only-one, over-none, over-some, overs-apart, unused}
use Rattle.list_laws.proofs.Counting.{times-append}
use Rattle.list_laws.proofs.Membership.{eq-itself}
use Rattle.list_laws.proofs.Booleans.{clash}

-- ---- marks

pub holds-left : (b : ℕ) (xs ys : List ℕ) → holds b xs ≡ true → holds b (xs ++ ys) ≡ true
holds-left b [] ys h = absurd (cc h)
holds-left b (x ∷ xs) ys h = elim (or_cases (x == b) (holds b xs) h) [ inl t ↦ or_left (x == b) (holds b (xs ++ ys)) t | inr t ↦ or_right (x == b) (holds b (xs ++ ys)) (holds-left b xs ys t) ]

pub holds-right : (b : ℕ) (xs ys : List ℕ) → holds b ys ≡ true → holds b (xs ++ ys) ≡ true
holds-right b [] ys h = h
holds-right b (x ∷ xs) ys h = or_right (x == b) (holds b (xs ++ ys)) (holds-right b xs ys h)

pub over-held : (o : OwnedQuant) (os : List OwnedQuant) → In o os → holds o.over (map (λ r. r.over) os) ≡ true
over-held o [] i = absurd i
over-held o (r ∷ os) (inl e) = or_left (r.over == o.over) (holds o.over (map (λ r. r.over) os)) (ap (λ (z : OwnedQuant). r.over == z.over) (sym e) ∙ eq-itself r.over)
over-held o (r ∷ os) (inr j) = or_right (r.over == o.over) (holds o.over (map (λ r. r.over) os)) (over-held o os j)

-- ---- what is reached

pub reached-more : (b : ℕ) (marks : List ℕ) (ns : List Node) → holds b marks ≡ true → holds b (reached marks ns) ≡ true
reached-more b marks [] h = h
reached-more b marks (n ∷ ns) h = elim (holds n.id marks) as (λ c. holds b (reached (cond c (marks ++ overs_of n) marks) ns) ≡ true) [
  | true ↦ reached-more b (marks ++ overs_of n) ns (holds-left b marks (overs_of n) h)
  | false ↦ reached-more b marks ns h
]

-- what a marked box ranges over is marked
pub reached-under : (marks : List ℕ) (ns : List Node) → Ordered ns → (n : Node) → In n ns → (o : OwnedQuant) → In o n.quants → holds n.id (reached marks ns) ≡ true → holds o.over (reached marks ns) ≡ true
reached-under marks [] k n i o j h = absurd i
reached-under marks (c ∷ cs) k n (inl e) o j h =
    elim (holds c.id marks) as (λ z. holds c.id marks ≡ z → holds n.id (reached (cond z (marks ++ overs_of c) marks) cs) ≡ true → holds o.over (reached (cond z (marks ++ overs_of c) marks) cs) ≡ true) [
      | true ↦ (λ t h. reached-more o.over (marks ++ overs_of c) cs (holds-right o.over marks (overs_of c) (subst (λ (z : Node). holds o.over (overs_of z) ≡ true) (sym e) (over-held o n.quants j))))
      | false ↦ (λ t h. absurd (clash (holds c.id marks) (not-later c.id marks cs k.2 k.0 (subst (λ (z : Node). holds z.id (reached marks cs) ≡ true) (sym e) h)) t))
    ] refl h
reached-under marks (c ∷ cs) k n (inr i) o j h =
    elim (holds c.id marks) as (λ z. holds n.id (reached (cond z (marks ++ overs_of c) marks) cs) ≡ true → holds o.over (reached (cond z (marks ++ overs_of c) marks) cs) ≡ true) [
      | true ↦ (λ h. reached-under (marks ++ overs_of c) cs k.2 n i o j h)
      | false ↦ (λ h. reached-under marks cs k.2 n i o j h)
    ] h

-- where each box but the root is used, the root reaches all
module _ (bs : List Node) (root : ℕ) where
  walk : (ns : List Node) (marks : List ℕ) → Ordered ns → list_all (λ n. (n.id == root) || nat_lt 0 (uses n.id bs)) ns ≡ true
      → ((b : ℕ) → ((b == root) ≡ true) ⊎ (uses b ns < uses b bs) → has_box ns b ≡ true → holds b marks ≡ true) → (n : Node) → In n ns → holds n.id (reached marks ns) ≡ true
  walk [] marks o u inv n i = absurd i
  walk (c ∷ cs) marks o u inv n i =
      let p = and_parts ((c.id == root) || nat_lt 0 (uses c.id bs)) (list_all (λ n. (n.id == root) || nat_lt 0 (uses n.id bs)) cs) u in
      let none : uses c.id (c ∷ cs) ≡ 0 = (let x = over-none c.id cs c.quants o.1 o.0 in let y = unused c.id cs o.2 o.0 in omega arith) in
      let wanted : ((c.id == root) ≡ true) ⊎ (uses c.id (c ∷ cs) < uses c.id bs) = elim (or_cases (c.id == root) (nat_lt 0 (uses c.id bs)) p.0) [
        | inl t ↦ inl t
        | inr t ↦ (let l = lt-true 0 (uses c.id bs) t in inr (omega arith))
      ] in
      let here = inv c.id wanted (ap (λ z. z || has_box cs c.id) (eq-itself c.id)) in
      subst (λ (z : List ℕ). holds n.id (reached z cs) ≡ true) (sym (ap (λ (z : Bool). cond z (marks ++ overs_of c) marks) here))
      (elim i [
        | inl e ↦ subst (λ (z : Node). holds z.id (reached (marks ++ overs_of c) cs) ≡ true) e (reached-more c.id (marks ++ overs_of c) cs (holds-left c.id marks (overs_of c) here))
        | inr j ↦ walk cs (marks ++ overs_of c) o.2 p.1 (λ b w h. next c cs marks o inv b w h) n j
      ])
    where
      next : (c : Node) (cs : List Node) (marks : List ℕ) → Ordered (c ∷ cs) → ((b : ℕ) → ((b == root) ≡ true) ⊎ (uses b (c ∷ cs) < uses b bs) → has_box (c ∷ cs) b ≡ true → holds b marks ≡ true)
          → (b : ℕ) → ((b == root) ≡ true) ⊎ (uses b cs < uses b bs) → has_box cs b ≡ true → holds b (marks ++ overs_of c) ≡ true
      next c cs marks o inv b w h =
          let there : has_box (c ∷ cs) b ≡ true = or_right (c.id == b) (has_box cs b) h in
          elim w [
            | inl t ↦ holds-left b marks (overs_of c) (inv b (inl t) there)
            | inr l ↦ elim (cases_Bool (nat_lt 0 (over_in b c.quants))) [
              | inl t ↦ (let r = over-some b c.quants (lt-true 0 (over_in b c.quants) t) in holds-right b marks (overs_of c) (subst (λ z. holds z (overs_of c) ≡ true) r.1.1 (over-held r.0 c.quants r.1.0)))
              | inr t ↦ (let z = lt-false (over_in b c.quants) t in holds-left b marks (overs_of c) (inv b (inr (omega arith)) there))
            ]
          ]

  pub all-reached : Ordered bs → list_all (λ n. (n.id == root) || nat_lt 0 (uses n.id bs)) bs ≡ true → (n : Node) → In n bs → holds n.id (reached (root ∷ []) bs) ≡ true
  all-reached o u n i = walk bs (root ∷ []) o u (λ b w h. elim w [ inl t ↦ or_left (root == b) false (eq-eqb root b (sym (eqb-true b root t))) | inr l ↦ absurd (omega arith) ]) n i

-- nothing is free where what marked boxes name is owned by marked ones
pub none-free : (bs : List Node) (b : ℕ) → ((n : Node) → In n bs → holds n.id (reached (b ∷ []) bs) ≡ true → list_all (is_owned (reached (b ∷ []) bs) bs) (named_by n) ≡ true) → is_empty (free_in bs b) ≡ true
none-free bs b h = ap (λ z. is_empty (put_each [] z)) (all-owned (flat_map (named_where (reached (b ∷ []) bs)) bs) (each bs (λ n i. i)))
  where
    M : List ℕ
    M = reached (b ∷ []) bs

    all-both : (p : ℕ → Bool) (xs ys : List ℕ) → list_all p xs ≡ true → list_all p ys ≡ true → list_all p (xs ++ ys) ≡ true
    all-both p [] ys h k = k
    all-both p (x ∷ xs) ys h k = let u = and_parts (p x) (list_all p xs) h in ap₂ ◌&&◌ u.0 (all-both p xs ys u.1 k)

    each : (ns : List Node) → ((n : Node) → In n ns → In n bs) → list_all (is_owned (reached (b ∷ []) bs) bs) (flat_map (named_where (reached (b ∷ []) bs)) ns) ≡ true
    each [] sub = refl
    each (n ∷ ns) sub =
        all-both (is_owned (reached (b ∷ []) bs) bs) (named_where (reached (b ∷ []) bs) n) (flat_map (named_where (reached (b ∷ []) bs)) ns)
        (elim (holds n.id (reached (b ∷ []) bs)) as (λ c. holds n.id (reached (b ∷ []) bs) ≡ c → list_all (is_owned (reached (b ∷ []) bs) bs) (cond c (named_by n) []) ≡ true) [ true ↦ (λ e. h n (sub n (inl refl)) e) | false ↦ (λ e. refl) ] refl)
        (each ns (λ k i. sub k (inr i)))

    all-owned : (qs : List ℕ) → list_all (is_owned (reached (b ∷ []) bs) bs) qs ≡ true → filter (λ q. not (is_owned (reached (b ∷ []) bs) bs q)) qs ≡ []
    all-owned [] k = refl
    all-owned (q ∷ qs) k = let u = and_parts (is_owned (reached (b ∷ []) bs) bs q) (list_all (is_owned (reached (b ∷ []) bs) bs) qs) k in ap (λ (z : Bool). cond (not z) (q ∷ filter (λ q. not (is_owned (reached (b ∷ []) bs) bs q)) qs) (filter (λ q. not (is_owned (reached (b ∷ []) bs) bs q)) qs)) u.0 ∙ all-owned qs u.1

-- ---- what sees a quantifier

pub viewers-more : (q b : ℕ) (marks : List ℕ) (ns : List Node) → holds b marks ≡ true → holds b (viewers q marks ns) ≡ true
viewers-more q b marks [] h = h
viewers-more q b marks (n ∷ ns) h = viewers-more q b (marks ++ shown_by q marks n) ns (holds-left b marks (shown_by q marks n) h)

-- what is shown is a box under a quantifier
scoped-over : (q b : ℕ) (own met : Bool) (os : List OwnedQuant) → holds b (scoped q own met os) ≡ true → holds b (map (λ r. r.over) os) ≡ true
scoped-over q b own met [] h = h
scoped-over q b own met (o ∷ os) h =
    let rest = scoped q own (met || (is_quant q o && is_F o.kind)) os in
    elim (holds-append b (cond (cond (is_F o.kind) met own) (o.over ∷ []) []) rest h) [
      | inl t ↦ or_left (o.over == b) (holds b (map (λ r. r.over) os)) (first (cond (is_F o.kind) met own) t)
      | inr t ↦ or_right (o.over == b) (holds b (map (λ r. r.over) os)) (scoped-over q b own (met || (is_quant q o && is_F o.kind)) os t)
    ]
  where
    first : (c : Bool) → holds b (cond c (o.over ∷ []) []) ≡ true → (o.over == b) ≡ true
    first true t = eq-eqb o.over b (only-one o.over b t)
    first false t = absurd (cc t)

shown-over : (q b : ℕ) (marks : List ℕ) (n : Node) → holds b (shown_by q marks n) ≡ true → holds b (overs_of n) ≡ true
shown-over q b marks n h = by_case (holds n.id marks) (is_select n.parts.kind) h
  where
    by_case : (c d : Bool) → holds b (cond c (overs_of n) (cond d (scoped q (is_row q n.quants) false n.quants) [])) ≡ true → holds b (overs_of n) ≡ true
    by_case true d h = h
    by_case false true h = scoped-over q b (is_row q n.quants) false n.quants h
    by_case false false h = absurd (cc h)

not-seen-later : (q b : ℕ) (marks : List ℕ) (ns : List Node) → Ordered ns → has_box ns b ≡ false → holds b (viewers q marks ns) ≡ true → holds b marks ≡ true
not-seen-later q b marks [] o k h = h
not-seen-later q b marks (n ∷ ns) o k h =
    let f = sides (n.id == b) (has_box ns b) k in
    elim (holds-append b marks (shown_by q marks n) (not-seen-later q b (marks ++ shown_by q marks n) ns o.2 f.1 h)) [
      | inl t ↦ t
      | inr t ↦ absurd (clash (holds b (overs_of n)) (shown-over q b marks n t) (overs-apart b ns n.quants o.1 f.1))
    ]
  where
    sides : (a b : Bool) → (a || b) ≡ false → (a ≡ false) × (b ≡ false)
    sides true b h = absurd (cc h)
    sides false b h = (refl, h)

-- what a box sees, the boxes under it see
pub viewers-under : (q : ℕ) (marks : List ℕ) (ns : List Node) → Ordered ns → (n : Node) → In n ns → (o : OwnedQuant) → In o n.quants → holds n.id (viewers q marks ns) ≡ true → holds o.over (viewers q marks ns) ≡ true
viewers-under q marks [] k n i o j h = absurd i
viewers-under q marks (c ∷ cs) k n (inl e) o j h =
    let seen : holds c.id (marks ++ shown_by q marks c) ≡ true = not-seen-later q c.id (marks ++ shown_by q marks c) cs k.2 k.0 (subst (λ (z : Node). holds z.id (viewers q (marks ++ shown_by q marks c) cs) ≡ true) (sym e) h) in
    let here : holds c.id marks ≡ true = elim (holds-append c.id marks (shown_by q marks c) seen) [ inl t ↦ t | inr t ↦ absurd (clash (holds c.id (overs_of c)) (shown-over q c.id marks c t) (overs-apart c.id cs c.quants k.1 k.0)) ] in
    viewers-more q o.over (marks ++ shown_by q marks c) cs
    (holds-right o.over marks (shown_by q marks c)
    (subst (λ (z : List ℕ). holds o.over z ≡ true) (sym (ap (λ (z : Bool). cond z (overs_of c) (cond (is_select c.parts.kind) (scoped q (is_row q c.quants) false c.quants) [])) here)) (subst (λ (z : Node). holds o.over (overs_of z) ≡ true) (sym e) (over-held o n.quants j))))
viewers-under q marks (c ∷ cs) k n (inr i) o j h = viewers-under q (marks ++ shown_by q marks c) cs k.2 n i o j h

-- under a quantifier that isn't F a row of the select is seen
scoped-all : (q : ℕ) (met : Bool) (os : List OwnedQuant) (o : OwnedQuant) → In o os → is_F o.kind ≡ false → holds o.over (scoped q true met os) ≡ true
scoped-all q met [] o i f = absurd i
scoped-all q met (r ∷ os) o (inl e) f =
    holds-left o.over (cond (cond (is_F r.kind) met true) (r.over ∷ []) []) (scoped q true (met || (is_quant q r && is_F r.kind)) os)
    (ap (λ (z : Bool). holds o.over (cond (cond z met true) (r.over ∷ []) [])) (ap (λ (z : OwnedQuant). is_F z.kind) e ∙ f) ∙ or_left (r.over == o.over) false (ap (λ (z : OwnedQuant). r.over == z.over) (sym e) ∙ eq-itself r.over))
scoped-all q met (r ∷ os) o (inr j) f = holds-right o.over (cond (cond (is_F r.kind) met true) (r.over ∷ []) []) (scoped q true (met || (is_quant q r && is_F r.kind)) os) (scoped-all q (met || (is_quant q r && is_F r.kind)) os o j f)

pub viewers-own : (q : ℕ) (marks : List ℕ) (ns : List Node) → (n : Node) → In n ns → is_select n.parts.kind ≡ true → is_row q n.quants ≡ true → (o : OwnedQuant) → In o n.quants → is_F o.kind ≡ false → holds o.over (viewers q marks ns) ≡ true
viewers-own q marks [] n i s r o j f = absurd i
viewers-own q marks (c ∷ cs) n (inl e) s r o j f =
    viewers-more q o.over (marks ++ shown_by q marks c) cs (holds-right o.over marks (shown_by q marks c) (subst (λ (z : Node). holds o.over (shown_by q marks z) ≡ true) (sym e) (by_case (holds n.id marks))))
  where
    by_case : (b : Bool) → holds o.over (cond b (overs_of n) (cond (is_select n.parts.kind) (scoped q (is_row q n.quants) false n.quants) [])) ≡ true
    by_case true = over-held o n.quants j
    by_case false = ap₂ (λ a b. holds o.over (cond a (scoped q b false n.quants) [])) s r ∙ scoped-all q false n.quants o j f
viewers-own q marks (c ∷ cs) n (inr i) s r o j f = viewers-own q (marks ++ shown_by q marks c) cs n i s r o j f

-- ---- how often a box is used

over-times : (b : ℕ) (os : List OwnedQuant) → times b (map (λ r. r.over) os) ≡ over_in b os
over-times b [] = refl
over-times b (o ∷ os) = ap (λ z. cond {A = ℕ} (o.over == b) 1 0 + z) (over-times b os)

pub uses-times : (b : ℕ) (ns : List Node) → times b (overs_in ns) ≡ uses b ns
uses-times b [] = refl
uses-times b (n ∷ ns) = times-append b (overs_of n) (overs_in ns) ∙ ap₂ ◌+◌ (over-times b n.quants) (uses-times b ns)

-- ---- the same, of the relation

reach-then : (bs : List Node) (b c d : ℕ) → Reaches bs b c → Reaches bs c d → Reaches bs b d
reach-then bs b c d (itself a) k = k
reach-then bs b c d (through n r x i j h) k = through n r d i j (reach-then bs r.over x d h k)

module _ (bs : List Node) (root : ℕ) where
  reach-all : (ns : List Node) → ((n : Node) → In n ns → In n bs) → Ordered ns → list_all (λ n. (n.id == root) || nat_lt 0 (uses n.id bs)) ns ≡ true
      → ((b : ℕ) → ((b == root) ≡ true) ⊎ (uses b ns < uses b bs) → has_box ns b ≡ true → Reaches bs root b) → (n : Node) → In n ns → Reaches bs root n.id
  reach-all [] sub o u inv n i = absurd i
  reach-all (c ∷ cs) sub o u inv n i =
      let p = and_parts ((c.id == root) || nat_lt 0 (uses c.id bs)) (list_all (λ n. (n.id == root) || nat_lt 0 (uses n.id bs)) cs) u in
      let none : uses c.id (c ∷ cs) ≡ 0 = (let x = over-none c.id cs c.quants o.1 o.0 in let y = unused c.id cs o.2 o.0 in omega arith) in
      let wanted : ((c.id == root) ≡ true) ⊎ (uses c.id (c ∷ cs) < uses c.id bs) = elim (or_cases (c.id == root) (nat_lt 0 (uses c.id bs)) p.0) [
        | inl t ↦ inl t
        | inr t ↦ (let l = lt-true 0 (uses c.id bs) t in inr (omega arith))
      ] in
      let here = inv c.id wanted (or_left (c.id == c.id) (has_box cs c.id) (eq-itself c.id)) in
      elim i [
        | inl e ↦ subst (λ (z : Node). Reaches bs root z.id) e here
        | inr j ↦ reach-all cs (λ z k. sub z (inr k)) o.2 p.1 (λ b w h. next c cs (sub c (inl refl)) inv here b w h) n j
      ]
    where
      next : (c : Node) (cs : List Node) → In c bs → ((b : ℕ) → ((b == root) ≡ true) ⊎ (uses b (c ∷ cs) < uses b bs) → has_box (c ∷ cs) b ≡ true → Reaches bs root b) → Reaches bs root c.id
          → (b : ℕ) → ((b == root) ≡ true) ⊎ (uses b cs < uses b bs) → has_box cs b ≡ true → Reaches bs root b
      next c cs i inv here b w h =
          let there : has_box (c ∷ cs) b ≡ true = or_right (c.id == b) (has_box cs b) h in
          elim w [
            | inl t ↦ inv b (inl t) there
            | inr l ↦ elim (cases_Bool (nat_lt 0 (over_in b c.quants))) [
              | inl t ↦ (let r = over-some b c.quants (lt-true 0 (over_in b c.quants) t) in subst (Reaches bs root) r.1.1 (reach-then bs root c.id r.0.over here (through c r.0 r.0.over i r.1.0 (itself r.0.over))))
              | inr t ↦ (let z = lt-false (over_in b c.quants) t in inv b (inr (omega arith)) there)
            ]
          ]

  pub root-reaches : Ordered bs → list_all (λ n. (n.id == root) || nat_lt 0 (uses n.id bs)) bs ≡ true → (n : Node) → In n bs → Reaches bs root n.id
  root-reaches o u n i = reach-all bs (λ z k. k) o u (λ b w h. elim w [ inl t ↦ subst (Reaches bs root) (sym (eqb-true b root t)) (itself root) | inr l ↦ absurd (omega arith) ]) n i
