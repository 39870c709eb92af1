-- The fault that is found is the least clause that fails, at the least box.
use Rattle.std.proofs.Common.{ℕ, ◌==◌, ◌≡◌, ◌<◌, ◌≤◌, ◌||◌, min, nat_lt, cond, Bool, true, false, List, [], ◌∷◌, ◌++◌, Option, Some, None, refl, sym, ap, subst, ◌∙◌, ◌⊎◌, inl, inr, ◌↔◌, arith}
use Rattle.std.specs.List.{list_all}
use Rattle.std.specs.Prelude.{⊤}
use Rattle.std.proofs.lemmas.Bool.{cases_Bool, ltb-true, ltb-false}
use Rattle.qgm_core.specs.Boxes.{HasBox, Ordered, QueryGraph, has_box, numbers}
use Rattle.list_laws.specs.Lists.{EachOnce, In, holds}
use Rattle.qgm_core.specs.declared.node.Node.{Node}
use Rattle.qgm_wellformed.specs.Sentences.{FailsAt, IsFault, WellFormed, number}
use Rattle.qgm_wellformed.specs.WellFormed.{at_no_box, clauses, fault, fault_or, faults, first_fault, keeps, least, least_with}
use Rattle.qgm_wellformed.specs.declared.clause.Clause.{Clause}
use Rattle.qgm_wellformed.specs.declared.clause.Clause.TheVariants.{I1, I2, I3, I4, I5, I6, I7, I8, I9}
use Rattle.qgm_wellformed.specs.declared.clause.Fault.{Fault}
use Rattle.qgm_wellformed.proofs.Kept.{Needs, kept-is}
use Rattle.list_laws.proofs.Booleans.{clash}
use Rattle.list_laws.proofs.Membership.{all-in, append-one, in-right}

-- ---- the least number

least-none : (xs : List ℕ) → least xs ≡ None → (b : ℕ) → In b xs → ⊥
least-none [] e b i = elim i [ ]
least-none (x ∷ xs) e b i = elim (least xs) as (λ o. least_with x o ≡ None → ⊥) [ None ↦ λ e. (let z : ⊥ = cc in z) | Some y ↦ λ e. (let z : ⊥ = cc in z) ] e

none-least : (xs : List ℕ) → ((b : ℕ) → In b xs → ⊥) → least xs ≡ None
none-least [] h = refl
none-least (x ∷ xs) h = absurd (h x (inl refl))

least-some : (xs : List ℕ) (b : ℕ) → least xs ≡ Some b → In b xs × ((c : ℕ) → In c xs → b ≤ c)
least-some [] b e = absurd (let z : ⊥ = cc in z)
least-some (x ∷ xs) b e = elim (least xs) as (λ o. least xs ≡ o → least_with x o ≡ Some b → In b (x ∷ xs) × ((c : ℕ) → In c (x ∷ xs) → b ≤ c)) [
  | None ↦ λ n e. (let p : x ≡ b = cc in (inl p, λ c i. elim i [ inl q ↦ omega arith | inr j ↦ absurd (least-none xs n c j) ]))
  | Some y ↦ λ n e. (
      let p : min x y ≡ b = cc in
      let t = least-some xs y n in
      elim (cases_Bool (nat_lt y x)) [
        | inl l ↦ (let l = ltb-true y x l in let q : y ≡ b = omega arith in (inr (subst (λ z. In z xs) q t.0), λ c i. elim i [ inl r ↦ omega arith | inr j ↦ (let m = t.1 c j in omega arith) ]))
        | inr l ↦ (let l = ltb-false y x l in let q : x ≡ b = omega arith in (inl q, λ c i. elim i [ inl r ↦ omega arith | inr j ↦ (let m = t.1 c j in omega arith) ]))
      ])
] refl e

some-least : (xs : List ℕ) (b : ℕ) → In b xs → ((c : ℕ) → In c xs → b ≤ c) → least xs ≡ Some b
some-least xs b i h = elim (least xs) as (λ o. least xs ≡ o → least xs ≡ Some b) [
  | None ↦ λ e. absurd (least-none xs e b i)
  | Some y ↦ λ e. (let t = least-some xs y e in let k = t.1 b i in let l = h y t.0 in let q : y ≡ b = omega arith in e ∙ ap (λ (z : ℕ). Some z) q)
] refl

-- ---- the clauses

-- each has a lower number than those behind it
abbrev Ascend : List Clause → Type 0
Ascend [] = ⊤
Ascend (c ∷ cs) = (list_all (λ d. nat_lt (number c) (number d)) cs ≡ true) × Ascend cs

ascend : Ascend clauses
ascend = (refl, (refl, (refl, (refl, (refl, (refl, (refl, (refl, (refl, tt)))))))))

all-clauses : (c : Clause) → In c clauses
all-clauses I1 = inl refl
all-clauses I2 = inr (inl refl)
all-clauses I3 = inr (inr (inl refl))
all-clauses I4 = inr (inr (inr (inl refl)))
all-clauses I5 = inr (inr (inr (inr (inl refl))))
all-clauses I6 = inr (inr (inr (inr (inr (inl refl)))))
all-clauses I7 = inr (inr (inr (inr (inr (inr (inl refl))))))
all-clauses I8 = inr (inr (inr (inr (inr (inr (inr (inl refl)))))))
all-clauses I9 = inr (inr (inr (inr (inr (inr (inr (inr (inl refl))))))))

later : (c d : Clause) (cs : List Clause) → list_all (λ d. nat_lt (number c) (number d)) cs ≡ true → In d cs → number c < number d
later c d cs a i = ltb-true (number c) (number d) (all-in (λ d. nat_lt (number c) (number d)) d cs a i)

abbrev fault_of : Clause → ℕ → Fault
fault_of c b = record { clause = c; at = b }

-- ---- boxes

in-split : (n : Node) (ns : List Node) → In n ns → (up : List Node) × ((low : List Node) × (ns ≡ up ++ n ∷ low))
in-split n [] i = elim i [ ]
in-split n (m ∷ ns) i = elim i [
  | inl e ↦ ([], (ns, ap (λ (z : Node). z ∷ ns) e))
  | inr j ↦ (let x = in-split n ns j in (m ∷ x.0, (x.1.0, ap (λ (z : List Node). m ∷ z) x.1.1)))
]

no-box : (b : ℕ) (ns : List Node) → holds b (numbers ns) ≡ false → has_box ns b ≡ false
no-box b [] h = refl
no-box b (n ∷ ns) h = elim (n.id == b) as (λ t. (t || holds b (numbers ns)) ≡ false → (t || has_box ns b) ≡ false) [
  | true ↦ λ h. h
  | false ↦ λ h. no-box b ns h
] h

module _ (g : QueryGraph) where
  abbrev bs : List Node
  bs = g.boxes

  abbrev failing : Clause → List ℕ
  failing c = faults c g.root bs bs

  -- ---- the boxes at which a clause fails

  -- a box that fails the test of a clause
  abbrev Broken : Clause → ℕ → Type 0
  Broken c b = (n : Node) × ((up : List Node) × ((low : List Node) × ((bs ≡ up ++ n ∷ low) × ((keeps c g.root bs low n ≡ false) × (n.id ≡ b)))))

  faults-if : Bool → Clause → Node → List Node → List ℕ
  faults-if t c n ns = cond t (faults c g.root bs ns) (n.id ∷ faults c g.root bs ns)

  in-faults : (c : Clause) (up ns : List Node) → bs ≡ up ++ ns → (b : ℕ) → In b (faults c g.root bs ns) → In b (at_no_box c g.root bs) ⊎ Broken c b
  unfolding faults-if
  in-faults c up [] e b i = inl i
  in-faults c up (n ∷ ns) e b i =
      let rest : In b (faults c g.root bs ns) → In b (at_no_box c g.root bs) ⊎ Broken c b = λ j. in-faults c (up ++ n ∷ []) ns (e ∙ sym (append-one up n ns)) b j in
      elim (cases_Bool (keeps c g.root bs ns n)) [
        | inl t ↦ rest (subst (λ z. In b (faults-if z c n ns)) t i)
        | inr f ↦ elim (subst (λ z. In b (faults-if z c n ns)) f i) [ inl p ↦ inr (n, (up, (ns, (e, (f, p))))) | inr j ↦ rest j ]
      ]

  none-in : (c : Clause) (ns : List Node) (b : ℕ) → In b (at_no_box c g.root bs) → In b (faults c g.root bs ns)
  unfolding faults-if
  none-in c [] b i = i
  none-in c (n ∷ ns) b i = elim (cases_Bool (keeps c g.root bs ns n)) [
    | inl t ↦ subst (λ z. In b (faults-if z c n ns)) (sym t) (none-in c ns b i)
    | inr f ↦ subst (λ z. In b (faults-if z c n ns)) (sym f) (inr (none-in c ns b i))
  ]

  split-in : (c : Clause) (up : List Node) (n : Node) (low : List Node) → keeps c g.root bs low n ≡ false → In n.id (faults c g.root bs (up ++ n ∷ low))
  unfolding faults-if
  split-in c [] n low f = subst (λ z. In n.id (faults-if z c n low)) (sym f) (inl refl)
  split-in c (m ∷ up) n low f = elim (cases_Bool (keeps c g.root bs (up ++ n ∷ low) m)) [
    | inl t ↦ subst (λ z. In n.id (faults-if z c m (up ++ n ∷ low))) (sym t) (split-in c up n low f)
    | inr k ↦ subst (λ z. In n.id (faults-if z c m (up ++ n ∷ low))) (sym k) (inr (split-in c up n low f))
  ]

  broken-in : (c : Clause) (n : Node) (up low : List Node) → bs ≡ up ++ n ∷ low → keeps c g.root bs low n ≡ false → In n.id (failing c)
  broken-in c n up low e f = subst (λ z. In n.id (faults c g.root bs z)) (sym e) (split-in c up n low f)

  at-none : (c : Clause) (b : ℕ) → In b (at_no_box c g.root bs) → (c ≡ I1) × ((b ≡ 18446744073709551615) × (HasBox g.root g → ⊥))
  at-none I1 b i = elim (has_box bs g.root) as (λ t. has_box bs g.root ≡ t → In b (cond t [] (18446744073709551615 ∷ [])) → (I1 ≡ I1) × ((b ≡ 18446744073709551615) × (has_box bs g.root ≡ true → ⊥))) [
    | true ↦ λ t i. elim i [ ]
    | false ↦ λ t i. (refl, (elim i [ inl e ↦ sym e | inr z ↦ elim z [ ] ], λ h. clash (has_box bs g.root) h t))
  ] refl i
  at-none I2 b i = elim i [ ]
  at-none I3 b i = elim i [ ]
  at-none I4 b i = elim i [ ]
  at-none I5 b i = elim i [ ]
  at-none I6 b i = elim i [ ]
  at-none I7 b i = elim i [ ]
  at-none I8 b i = elim i [ ]
  at-none I9 b i = elim i [ ]

  none-at : (b : ℕ) → b ≡ 18446744073709551615 → (HasBox g.root g → ⊥) → In b (at_no_box I1 g.root bs)
  none-at b e h = elim (has_box bs g.root) as (λ t. has_box bs g.root ≡ t → In b (cond t [] (18446744073709551615 ∷ []))) [
    | true ↦ λ t. absurd (h t)
    | false ↦ λ t. inl (sym e)
  ] refl

  module _ (u : EachOnce (numbers bs)) where
    in-fails : (c : Clause) → Needs c bs → (b : ℕ) → In b (failing c) → FailsAt c g b
    in-fails c w b i = elim (in-faults c [] bs refl b i) [
      | inl a ↦ inr (at-none c b a)
      | inr x ↦ (
          let n = x.0 in
          let e = x.1.1.1.0 in
          inl (n, (subst (λ z. In n z) (sym e) (in-right n x.1.0 (n ∷ x.1.1.0) (inl refl)), (x.1.1.1.1.1, λ k. clash (keeps c g.root bs x.1.1.0 n) ((kept-is g u c w n x.1.0 x.1.1.0 e).1 k) x.1.1.1.1.0))))
    ]

    fails-in : (c : Clause) → Needs c bs → (b : ℕ) → FailsAt c g b → In b (failing c)
    fails-in c w b k = elim k [
      | inl x ↦ (
          let n = x.0 in
          let s = in-split n bs x.1.0 in
          elim (cases_Bool (keeps c g.root bs s.1.0 n)) [
            | inl t ↦ absurd (x.1.1.1 ((kept-is g u c w n s.0 s.1.0 s.1.1).0 t))
            | inr f ↦ subst (λ z. In z (failing c)) x.1.1.0 (broken-in c n s.0 s.1.0 s.1.1 f)
          ])
      | inr x ↦ none-in c bs b (subst (λ z. In b (at_no_box z g.root bs)) (sym x.0) (none-at b x.1.0 x.1.1))
    ]

    ordered-from : (up ns : List Node) → bs ≡ up ++ ns → EachOnce (numbers ns) → least (failing I3) ≡ None → Ordered ns
    ordered-from up [] e v h = tt
    ordered-from up (n ∷ ns) e v h = (
      no-box n.id ns v.0,
      (elim (cases_Bool (keeps I3 g.root bs ns n)) [ inl t ↦ t | inr f ↦ absurd (least-none (failing I3) h n.id (broken-in I3 n up ns e f)) ]),
      ordered-from (up ++ n ∷ []) ns (e ∙ sym (append-one up n ns)) v.1 h,
    )

    -- where I3 holds, each clause has what it needs
    needs : (c : Clause) → (number I3 < number c → least (failing I3) ≡ None) → Needs c bs
    needs I1 h = tt
    needs I2 h = tt
    needs I3 h = tt
    needs I4 h = tt
    needs I5 h = tt
    needs I6 h = ordered-from [] bs refl u (h (omega arith))
    needs I7 h = ordered-from [] bs refl u (h (omega arith))
    needs I8 h = tt
    needs I9 h = tt

    -- ---- the first clause

    first-if : Option ℕ → Clause → List Clause → Option Fault
    first-if o c cs = fault_or c o (first_fault cs g.root bs)

    first-none : (cs : List Clause) → first_fault cs g.root bs ≡ None → (c : Clause) → In c cs → least (failing c) ≡ None
    unfolding first-if
    first-none [] h c i = elim i [ ]
    first-none (d ∷ cs) h c i = elim (least (failing d)) as (λ o. least (failing d) ≡ o → first-if o d cs ≡ None → least (failing c) ≡ None) [
      | None ↦ λ e h. elim i [ inl p ↦ subst (λ z. least (failing z) ≡ None) p e | inr j ↦ first-none cs h c j ]
      | Some b ↦ λ e h. absurd (let z : ⊥ = cc in z)
    ] refl h

    none-first : (cs : List Clause) → ((c : Clause) → In c cs → least (failing c) ≡ None) → first_fault cs g.root bs ≡ None
    unfolding first-if
    none-first [] h = refl
    none-first (c ∷ cs) h = ap (λ (o : Option ℕ). first-if o c cs) (h c (inl refl)) ∙ none-first cs (λ d i. h d (inr i))

    abbrev First : List Clause → Fault → Type 0
    First cs f = In f.clause cs × ((least (failing f.clause) ≡ Some f.at) × ((c : Clause) → In c cs → number c < number f.clause → least (failing c) ≡ None))

    first-some : (cs : List Clause) → Ascend cs → (f : Fault) → first_fault cs g.root bs ≡ Some f → First cs f
    unfolding first-if
    first-some [] a f h = absurd (let z : ⊥ = cc in z)
    first-some (d ∷ cs) a f h = elim (least (failing d)) as (λ o. least (failing d) ≡ o → first-if o d cs ≡ Some f → First (d ∷ cs) f) [
      | None ↦ λ e h. (
          let x = first-some cs a.1 f h in
          (inr x.0, (x.1.0, λ c i l. elim i [ inl p ↦ subst (λ z. least (failing z) ≡ None) p e | inr j ↦ x.1.1 c j l ])))
      | Some b ↦ λ e h. (
          let p : ◌≡◌ {A = Fault} (record { clause = d; at = b }) f = cc in
          let q : d ≡ f.clause = ap (λ (z : Fault). z.clause) p in (
            inl q,
            (
              subst (λ (z : Fault). least (failing z.clause) ≡ Some z.at) p e,
              λ c i l. elim i [
                | inl r ↦ absurd (let m : number c ≡ number f.clause = ap number (sym r ∙ q) in omega arith)
                | inr j ↦ absurd (let k = later d c cs a.0 j in let m : number d ≡ number f.clause = ap number q in omega arith)
              ],
            ),
          ))
    ] refl h

    some-first : (cs : List Clause) → Ascend cs → (f : Fault) → First cs f → first_fault cs g.root bs ≡ Some f
    unfolding first-if
    some-first [] a f x = elim x.0 [ ]
    some-first (d ∷ cs) a f x = elim x.0 [
      | inl e ↦ (
          let h : least (failing d) ≡ Some f.at = subst (λ z. least (failing z) ≡ Some f.at) (sym e) x.1.0 in
          ap (λ (o : Option ℕ). first-if o d cs) h ∙ ap (λ (c : Clause). Some (fault_of c f.at)) e)
      | inr j ↦ ap (λ (o : Option ℕ). first-if o d cs) (x.1.1 d (inl refl) (later d f.clause cs a.0 j)) ∙ some-first cs a.1 f (j, (x.1.0, λ c i l. x.1.1 c (inr i) l))
    ]

    -- ---- the fault

    no-fails : WellFormed g → (c : Clause) (b : ℕ) → FailsAt c g b → ⊥
    no-fails w c b k = elim k [ inl x ↦ x.1.1.1 (w.kept c x.0 x.1.0) | inr x ↦ x.1.1 w.rooted ]

    none-well : fault g ≡ None → WellFormed g
    none-well h =
        let all : (c : Clause) → least (failing c) ≡ None = λ c. first-none clauses h c (all-clauses c) in
        record {
          rooted = elim (cases_Bool (has_box bs g.root)) [
            | inl t ↦ t
            | inr f ↦ absurd (least-none (failing I1) (all I1) 18446744073709551615 (none-in I1 bs 18446744073709551615 (none-at 18446744073709551615 refl (λ t. clash (has_box bs g.root) t f))))
          ];
          kept = λ c n i. (
              let s = in-split n bs i in
              elim (cases_Bool (keeps c g.root bs s.1.0 n)) [
                | inl t ↦ (kept-is g u c (needs c (λ l. all I3)) n s.0 s.1.0 s.1.1).0 t
                | inr f ↦ absurd (least-none (failing c) (all c) n.id (broken-in c n s.0 s.1.0 s.1.1 f))
              ]);
        }

    well-none : WellFormed g → fault g ≡ None
    well-none w =
        let third : least (failing I3) ≡ None = none-least (failing I3) (λ b i. no-fails w I3 b (in-fails I3 tt b i)) in
        none-first clauses (λ c j. none-least (failing c) (λ b i. no-fails w c b (in-fails c (needs c (λ l. third)) b i)))

    pub well-ordered : WellFormed g → Ordered bs
    well-ordered w = ordered-from [] bs refl u (none-least (failing I3) (λ b i. no-fails w I3 b (in-fails I3 tt b i)))

    pub finds-none : (fault g ≡ None) ↔ WellFormed g
    finds-none = (none-well, well-none)

    some-fault : (f : Fault) → fault g ≡ Some f → IsFault g f
    some-fault f h =
        let x = first-some clauses ascend f h in
        let below : (c : Clause) → number c < number f.clause → least (failing c) ≡ None = λ c l. x.1.1 c (all-clauses c) l in
        let w : Needs f.clause bs = needs f.clause (λ l. below I3 l) in
        let m = least-some (failing f.clause) f.at x.1.0 in
        record {
          fails = in-fails f.clause w f.at m.0;
          least = λ b k. m.1 b (fails-in f.clause w b k);
          first = λ c l b k. least-none (failing c) (below c l) b (fails-in c (needs c (λ t. below I3 (omega arith))) b k);
        }

    fault-some : (f : Fault) → IsFault g f → fault g ≡ Some f
    fault-some f w =
        let third : number I3 < number f.clause → least (failing I3) ≡ None = λ l. none-least (failing I3) (λ b i. w.first I3 l b (in-fails I3 tt b i)) in
        let here : Needs f.clause bs = needs f.clause third in
        some-first clauses ascend f (
          all-clauses f.clause,
          (
            some-least (failing f.clause) f.at (fails-in f.clause here f.at w.fails) (λ b i. w.least b (in-fails f.clause here b i)),
            λ c j l. none-least (failing c) (λ b i. w.first c l b (in-fails c (needs c (λ t. third (omega arith))) b i)),
          ),
        )

    pub finds-fault : (f : Fault) → (fault g ≡ Some f) ↔ IsFault g f
    finds-fault f = (some-fault f, fault-some f)
