-- What a box names and what is free in those under it tell what is free in it.
use Rattle.std.proofs.Common.{ℕ, suc, ◌==◌, ◌≡◌, ◌<◌, ◌-◌, ◌∙◌, arith, drop, take, Option, None, Some, ◌||◌, ◌&&◌, ◌⊎◌, ◌++◌, cond, not, Bool, true, false, List, [], ◌∷◌, ap, filter, inl, inr, refl, subst, sym}
use Rattle.std.specs.Prelude.{IfSome, slice_get}
use Rattle.std.specs.List.{flat_map, list_all, list_any}
use Rattle.std.proofs.lemmas.Bool.{and_from, and_parts, cases_Bool, eqb-true, not-true, or_right}
use Rattle.std.proofs.lemmas.List.Folds.{list_any-append}
use Rattle.list_laws.specs.Lists.{EachOnce, In, holds}
use Rattle.list_laws.proofs.Booleans.{clash}
use Rattle.list_laws.proofs.Indexed.{drop-more, split-at}
use Rattle.list_laws.proofs.Membership.{all-in, any-from, any-in, any-none, eq-false-sym, eq-itself, filter-in, flat-in, holds-in, in-append, in-filter, in-flat, in-holds, in-left, in-map, in-right, map-in}
use Rattle.qgm_core.specs.Boxes.{ids_of, is_quant, numbers, overs_of, owns}
use Rattle.qgm_core.specs.Free.{free_in, is_owned, marked, named_by, named_where, reached}
use Rattle.qgm_core.specs.Slots.{KeepsFree, SlotTable, behind_with, is_kept_behind, is_stale, is_told, kept, list_or, meets, owned_with, told, told_names}
use Rattle.qgm_core.specs.declared.node.Node.{Node}
use Rattle.qgm_core.specs.declared.owned.OwnedQuant.{OwnedQuant}
use Rattle.qgm_core.proofs.Flagged.{meets-one, reaches-some, reaches-them, reaching}
use Rattle.qgm_core.proofs.Ascending.{each-same}
use Rattle.qgm_core.proofs.PutOnce.{each-in, in-each}

-- ---- numbers that stand once

-- a number of the later boxes is none of the earlier ones
earlier-not : (us ws : List Node) (c : ℕ) → EachOnce (numbers (us ++ ws)) → holds c (numbers ws) ≡ true → holds c (numbers us) ≡ false
earlier-not [] ws c once h = refl
earlier-not (u ∷ us) ws c once h = elim (cases_Bool (u.id == c)) [
  | inl t ↦ absurd (clash (holds u.id (numbers (us ++ ws))) (subst (λ (k : ℕ). holds k (numbers (us ++ ws)) ≡ true) (sym (eqb-true u.id c t)) later) once.0)
  | inr f ↦ ap (λ (t : Bool). t || holds c (numbers us)) f ∙ earlier-not us ws c once.1 h
]
  where
    later : holds c (numbers (us ++ ws)) ≡ true
    later =
        let i = in-map (λ (n : Node). n.id) c ws (holds-in c (numbers ws) h) in
        in-holds c (numbers (us ++ ws)) (subst (λ (k : ℕ). In k (numbers (us ++ ws))) i.1.1 (map-in (λ (n : Node). n.id) i.0 (us ++ ws) (in-right i.0 us ws i.1.0)))

later-once : (us ws : List Node) → EachOnce (numbers (us ++ ws)) → EachOnce (numbers ws)
later-once [] ws once = once
later-once (u ∷ us) ws once = later-once us ws once.1

-- the box of a number is the one that stands here
pub same-box : (ns : List Node) → EachOnce (numbers ns) → (n m : Node) → In n ns → In m ns → m.id ≡ n.id → m ≡ n
same-box [] once n m i j e = elim i [ ]
same-box (x ∷ xs) once n m i j e = elim i [
  | inl here ↦ elim j [
    | inl there ↦ sym there ∙ here
    | inr there ↦ absurd (clash (holds x.id (numbers xs)) (in-holds x.id (numbers xs) (subst (λ (k : ℕ). In k (numbers xs)) (e ∙ ap (λ (y : Node). y.id) (sym here)) (map-in (λ (y : Node). y.id) m xs there))) once.0)
  ]
  | inr later ↦ elim j [
    | inl there ↦ absurd (clash (holds x.id (numbers xs)) (in-holds x.id (numbers xs) (subst (λ (k : ℕ). In k (numbers xs)) (sym e ∙ ap (λ (y : Node). y.id) (sym there)) (map-in (λ (y : Node). y.id) n xs later))) once.0)
    | inr there ↦ same-box xs once.1 n m later there e
  ]
]

-- ---- a pass over boxes none of which is marked

passed : (c : ℕ) (us : List Node) → holds c (numbers us) ≡ false → reached (c ∷ []) us ≡ c ∷ []
passed c [] h = refl
passed c (u ∷ us) h = elim (cases_Bool (u.id == c)) [
  | inl t ↦ absurd (clash (u.id == c) t (first-no (u.id == c) (holds c (numbers us)) h))
  | inr f ↦ (
      ap (λ (t : Bool). reached (cond (t || false) ((c ∷ []) ++ overs_of u) (c ∷ [])) us) (eq-false-sym u.id c f)
      ∙ passed c us (second-no (u.id == c) (holds c (numbers us)) h))
]
  where
    first-no : (a b : Bool) → (a || b) ≡ false → a ≡ false
    first-no true b e = e
    first-no false b e = refl

    second-no : (a b : Bool) → (a || b) ≡ false → b ≡ false
    second-no true b e = absurd (let z : ⊥ = cc in z)
    second-no false b e = e

reached-append : (marks : List ℕ) (us ws : List Node) → reached marks (us ++ ws) ≡ reached (reached marks us) ws
reached-append marks [] ws = refl
reached-append marks (u ∷ us) ws = reached-append (marked marks u) us ws

-- what marks reach, one of them reaches
reached-by : (x : ℕ) (marks : List ℕ) (vs : List Node) → In x (reached marks vs) → (c : ℕ) × (In c marks × In x (reached (c ∷ []) vs))
reached-by x marks vs i =
    let some : meets (reaching (x ∷ []) vs) marks ≡ true = sym (meets-one x (reached marks vs) ∙ reaches-some (x ∷ []) vs marks) ∙ in-holds x (reached marks vs) i in
    let c = any-in (λ m. holds m (reaching (x ∷ []) vs)) marks some in
    (c.0, (c.1.0, holds-in x (reached (c.0 ∷ []) vs) (meets-one x (reached (c.0 ∷ []) vs) ∙ reaches-them (x ∷ []) vs c.0 ∙ c.1.1)))

reached-from : (x c : ℕ) (marks : List ℕ) (vs : List Node) → In c marks → In x (reached (c ∷ []) vs) → In x (reached marks vs)
reached-from x c marks vs i j =
    let one : holds c (reaching (x ∷ []) vs) ≡ true = sym (meets-one x (reached (c ∷ []) vs) ∙ reaches-them (x ∷ []) vs c) ∙ in-holds x (reached (c ∷ []) vs) j in
    holds-in x (reached marks vs) (meets-one x (reached marks vs) ∙ reaches-some (x ∷ []) vs marks ∙ any-from (λ m. holds m (reaching (x ∷ []) vs)) c marks i one)

-- ---- boxes behind, passed in order

-- each is one of these, ranges over such boxes, and its quantifiers are marked
pub record Passed (behind owned : List ℕ) (ws : List Node) : Type 0 where
  pub here : (x : ℕ) → holds x behind ≡ true → holds x (numbers ws) ≡ true
  pub overs : (m : Node) (r : OwnedQuant) → In m ws → holds m.id behind ≡ true → In r m.quants → holds r.over behind ≡ true
  pub own : (m : Node) (q : ℕ) → In m ws → holds m.id behind ≡ true → owns q m ≡ true → holds q owned ≡ true

pub passed-none : (ws : List Node) → Passed [] [] ws
passed-none ws = record { here = λ x h. absurd (let z : ⊥ = cc in z); overs = λ m r i h j. absurd (let z : ⊥ = cc in z); own = λ m q i h o. absurd (let z : ⊥ = cc in z) }

held-append : (x : ℕ) (xs ys : List ℕ) → holds x (xs ++ ys) ≡ (holds x xs || holds x ys)
held-append x xs ys = list_any-append (λ m. m == x) xs ys

held-left : (x : ℕ) (xs ys : List ℕ) → holds x xs ≡ true → holds x (xs ++ ys) ≡ true
held-left x xs ys h = in-holds x (xs ++ ys) (in-left x xs ys (holds-in x xs h))

owned-held : (q : ℕ) (n : Node) → owns q n ≡ true → holds q (ids_of n) ≡ true
owned-held q n o =
    let r = any-in (is_quant q) n.quants o in
    in-holds q (ids_of n) (subst (λ (k : ℕ). In k (ids_of n)) (eqb-true r.0.id q r.1.1) (map-in (λ (r : OwnedQuant). r.id) r.0 n.quants r.1.0))

held-owned : (q : ℕ) (n : Node) → holds q (ids_of n) ≡ true → owns q n ≡ true
held-owned q n h =
    let r = in-map (λ (r : OwnedQuant). r.id) q n.quants (holds-in q (ids_of n) h) in
    any-from (is_quant q) r.0 n.quants r.1.0 (subst (λ (k : ℕ). (r.0.id == k) ≡ true) r.1.1 (eq-itself r.0.id))

node-held : (m : Node) (ws : List Node) → In m ws → holds m.id (numbers ws) ≡ true
node-held m ws i = in-holds m.id (numbers ws) (map-in (λ (y : Node). y.id) m ws i)

module _ (n : Node) (ws : List Node) (behind owned : List ℕ) (new : holds n.id (numbers ws) ≡ false) (p : Passed behind owned ws) where
  -- a box that isn't marked
  stays : Passed behind owned (n ∷ ws)
  stays = record {
    here = λ x h. or_right (n.id == x) (holds x (numbers ws)) (p.here x h);
    overs = λ m r i h j. elim i [
      | inl e ↦ absurd (clash (holds n.id (numbers ws)) (p.here n.id (subst (λ (z : Node). holds z.id behind ≡ true) (sym e) h)) new)
      | inr k ↦ p.overs m r k h j
    ];
    own = λ m q i h o. elim i [
      | inl e ↦ absurd (clash (holds n.id (numbers ws)) (p.here n.id (subst (λ (z : Node). holds z.id behind ≡ true) (sym e) h)) new)
      | inr k ↦ p.own m q k h o
    ];
  }

  module _ (all : list_all (λ r. holds r.over behind) n.quants ≡ true) where
    -- it is n, or one that was marked
    which : (x : ℕ) → holds x (behind ++ n.id ∷ []) ≡ true → (n.id ≡ x) ⊎ (holds x behind ≡ true)
    which x h = elim (in-append x behind (n.id ∷ []) (holds-in x (behind ++ n.id ∷ []) h)) [
      | inl i ↦ inr (in-holds x behind i)
      | inr i ↦ elim i [ inl e ↦ inl e | inr z ↦ elim z [ ] ]
    ]

    before : (m : Node) → In m ws → holds m.id (behind ++ n.id ∷ []) ≡ true → holds m.id behind ≡ true
    before m i h = elim (which m.id h) [
      | inl e ↦ absurd (clash (holds n.id (numbers ws)) (subst (λ (k : ℕ). holds k (numbers ws) ≡ true) (sym e) (node-held m ws i)) new)
      | inr k ↦ k
    ]

    joins : Passed (behind ++ n.id ∷ []) (owned ++ ids_of n) (n ∷ ws)
    joins = record {
      here = λ x h. elim (which x h) [
        | inl e ↦ ap (λ (t : Bool). t || holds x (numbers ws)) (subst (λ (k : ℕ). (n.id == k) ≡ true) e (eq-itself n.id))
        | inr k ↦ or_right (n.id == x) (holds x (numbers ws)) (p.here x k)
      ];
      overs = λ m r i h j. held-left r.over behind (n.id ∷ []) (elim i [
        | inl e ↦ all-in (λ (r : OwnedQuant). holds r.over behind) r n.quants all (subst (λ (z : Node). In r z.quants) (sym e) j)
        | inr k ↦ p.overs m r k (before m k h) j
      ]);
      own = λ m q i h o. elim i [
        | inl e ↦ in-holds q (owned ++ ids_of n) (in-right q owned (ids_of n) (holds-in q (ids_of n) (owned-held q n (subst (λ (z : Node). owns q z ≡ true) (sym e) o))))
        | inr k ↦ held-left q owned (ids_of n) (p.own m q k (before m k h) o)
      ];
    }

  pub passed-more : Passed (behind_with n behind) (owned_with n behind owned) (n ∷ ws)
  passed-more = elim (cases_Bool (list_all (λ (r : OwnedQuant). holds r.over behind) n.quants)) [
    | inl t ↦ subst (λ (b : Bool). Passed (cond b (behind ++ n.id ∷ []) behind) (cond b (owned ++ ids_of n) owned) (n ∷ ws)) (sym t) (joins t)
    | inr f ↦ subst (λ (b : Bool). Passed (cond b (behind ++ n.id ∷ []) behind) (cond b (owned ++ ids_of n) owned) (n ∷ ws)) (sym f) stays
  ]

-- from marked boxes marked ones are reached
stays-behind : (behind owned : List ℕ) (ws : List Node) → Passed behind owned ws → (marks : List ℕ) (xs : List Node) → ((m : Node) → In m xs → In m ws) → ((x : ℕ) → In x marks → holds x behind ≡ true) →
    (x : ℕ) → In x (reached marks xs) → holds x behind ≡ true
stays-behind behind owned ws p marks [] w h x i = h x i
stays-behind behind owned ws p marks (u ∷ us) w h x i = stays-behind behind owned ws p (marked marks u) us (λ m j. w m (inr j)) more x i
  where
    more : (x : ℕ) → In x (marked marks u) → holds x behind ≡ true
    more x j = elim (cases_Bool (holds u.id marks)) [
      | inr f ↦ h x (subst (λ (b : Bool). In x (cond b (marks ++ overs_of u) marks)) f j)
      | inl t ↦ elim (in-append x marks (overs_of u) (subst (λ (b : Bool). In x (cond b (marks ++ overs_of u) marks)) t j)) [
        | inl k ↦ h x k
        | inr k ↦ (
            let r = in-map (λ (r : OwnedQuant). r.over) x u.quants k in
            subst (λ (y : ℕ). holds y behind ≡ true) r.1.1 (p.overs u r.0 (w u (inl refl)) (h u.id (holds-in u.id marks t)) r.1.0))
      ]
    ]

module _ (us vs : List Node) (n : Node) where
  abbrev ns : List Node
  ns = us ++ n ∷ vs

  abbrev from : ℕ → List ℕ
  from b = reached (b ∷ []) ns

  abbrev unowned : ℕ → ℕ → Bool
  unowned b q = not (is_owned (from b) ns q)

  module _ (once : EachOnce (numbers ns)) where
    not-behind : holds n.id (numbers vs) ≡ false
    not-behind = (later-once us (n ∷ vs) once).0

    -- a box behind n reaches what it reaches there
    behind-reaches : (c : ℕ) → holds c (numbers vs) ≡ true → from c ≡ reached (c ∷ []) vs
    behind-reaches c h =
        reached-append (c ∷ []) us (n ∷ vs)
        ∙ ap (λ (ms : List ℕ). reached ms (n ∷ vs)) (passed c us (earlier-not us (n ∷ vs) c once (or_right (n.id == c) (holds c (numbers vs)) h)))
        ∙ ap (λ (t : Bool). reached (cond (t || false) ((c ∷ []) ++ overs_of n) (c ∷ [])) vs) other
      where
        other : (c == n.id) ≡ false
        other = elim (cases_Bool (c == n.id)) [
          | inl t ↦ absurd (clash (holds n.id (numbers vs)) (subst (λ (k : ℕ). holds k (numbers vs) ≡ true) (eqb-true c n.id t) h) not-behind)
          | inr f ↦ f
        ]

    own-reaches : from n.id ≡ reached (n.id ∷ overs_of n) vs
    own-reaches =
        reached-append (n.id ∷ []) us (n ∷ vs)
        ∙ ap (λ (ms : List ℕ). reached ms (n ∷ vs)) (passed n.id us (earlier-not us (n ∷ vs) n.id once (ap (λ (t : Bool). t || holds n.id (numbers vs)) (eq-itself n.id))))
        ∙ ap (λ (t : Bool). reached (cond (t || false) ((n.id ∷ []) ++ overs_of n) (n.id ∷ [])) vs) (eq-itself n.id)

    module _ (behind owned : List ℕ) (p : Passed behind owned vs) (t : SlotTable) (right : KeepsFree t ns) (are : list_all (is_kept_behind t behind) n.quants ≡ true) (none : list_any (λ q. holds q owned) (told_names t n) ≡ false) where
      abbrev list-of : OwnedQuant → List ℕ
      list-of r = list_or [] (kept r.over t)

      one : (r : OwnedQuant) → In r n.quants → (holds r.over behind ≡ true) × (list-of r ≡ free_in ns r.over)
      one r i =
          let ps = and_parts (holds r.over behind) (not (is_stale (kept r.over t))) (all-in (is_kept_behind t behind) r n.quants are i) in
          (ps.0, is-kept (kept r.over t) ps.1 (right r.over))
        where
          is-kept : (o : Option (List ℕ)) → not (is_stale o) ≡ true → ((qs : List ℕ) → o ≡ Some qs → free_in ns r.over ≡ qs) → list_or [] o ≡ free_in ns r.over
          is-kept None h f = absurd (let z : ⊥ = cc in z)
          is-kept (Some qs) h f = sym (f qs refl)

      under : (c : ℕ) → In c (overs_of n) → holds c behind ≡ true
      under c i = let r = in-map (λ (r : OwnedQuant). r.over) c n.quants i in subst (λ (k : ℕ). holds k behind ≡ true) r.1.1 (one r.0 r.1.0).0

      -- what n reaches is n, or is reached by a box under it
      reached-then : (x : ℕ) → In x (from n.id) → (x ≡ n.id) ⊎ ((c : ℕ) × (In c (overs_of n) × In x (from c)))
      reached-then x i = by (reached-by x (n.id ∷ overs_of n) vs (subst (λ (ms : List ℕ). In x ms) own-reaches i))
        where
          by : ((c : ℕ) × (In c (n.id ∷ overs_of n) × In x (reached (c ∷ []) vs))) → (x ≡ n.id) ⊎ ((c : ℕ) × (In c (overs_of n) × In x (from c)))
          by (c, (inl e, j)) = elim (subst (λ (ms : List ℕ). In x ms) (passed n.id vs not-behind) (subst (λ (k : ℕ). In x (reached (k ∷ []) vs)) (sym e) j)) [ inl d ↦ inl (sym d) | inr z ↦ elim z [ ] ]
          by (c, (inr k, j)) = inr (c, (k, subst (λ (ms : List ℕ). In x ms) (sym (behind-reaches c (p.here c (under c k)))) j))

      then-reached : (x c : ℕ) → In c (overs_of n) → In x (from c) → In x (from n.id)
      then-reached x c i j =
          subst (λ (ms : List ℕ). In x ms) (sym own-reaches)
          (reached-from x c (n.id ∷ overs_of n) vs (inr i) (subst (λ (ms : List ℕ). In x ms) (behind-reaches c (p.here c (under c i))) j))

      itself : In n.id (from n.id)
      itself = subst (λ (ms : List ℕ). In n.id ms) (sym own-reaches) (reached-from n.id n.id (n.id ∷ overs_of n) vs (inl refl) (subst (λ (ms : List ℕ). In n.id ms) (sym (passed n.id vs not-behind)) (inl refl)))

      n-here : In n ns
      n-here = in-right n us (n ∷ vs) (inl refl)

      -- what a box under n reaches and owns, n reaches
      owned-then : (q c : ℕ) → In c (overs_of n) → is_owned (from c) ns q ≡ true → is_owned (from n.id) ns q ≡ true
      owned-then q c i h =
          let m = any-in (λ (m : Node). holds m.id (from c) && owns q m) ns h in
          let ps = and_parts (holds m.0.id (from c)) (owns q m.0) m.1.1 in
          any-from (λ (m : Node). holds m.id (from n.id) && owns q m) m.0 ns m.1.0
          (and_from (holds m.0.id (from n.id)) (owns q m.0) (in-holds m.0.id (from n.id) (then-reached m.0.id c i (holds-in m.0.id (from c) ps.0))) ps.1)

      -- what is free in a box under n is one of the names
      under-named : (q : ℕ) (r : OwnedQuant) → In r n.quants → In q (free_in ns r.over) → In q (told_names t n)
      under-named q r i j = in-right q (named_by n) (flat_map list-of n.quants) (flat-in list-of r q n.quants i (subst (λ (xs : List ℕ). In q xs) (sym (one r i).1) j))

      free-from : (b q : ℕ) (m : Node) → In m ns → holds m.id (from b) ≡ true → In q (named_by m) → is_owned (from b) ns q ≡ false → In q (free_in ns b)
      free-from b q m i h j f = each-in q [] (filter (unowned b) (flat_map (named_where (from b)) ns)) (inr (
          filter-in (unowned b) q (flat_map (named_where (from b)) ns)
          (flat-in (named_where (from b)) m q ns i (subst (λ (t : Bool). In q (cond t (named_by m) [])) (sym h) j))
          (ap not f)))

      free-parts : (b q : ℕ) → In q (free_in ns b) → ((m : Node) × (In m ns × ((holds m.id (from b) ≡ true) × In q (named_by m)))) × (is_owned (from b) ns q ≡ false)
      free-parts b q i = elim (in-each q [] (filter (unowned b) (flat_map (named_where (from b)) ns)) i) [
        | inl z ↦ elim z [ ]
        | inr k ↦ (
            let f = in-filter (unowned b) q (flat_map (named_where (from b)) ns) k in
            let m = in-flat (named_where (from b)) q ns f.0 in
            ((m.0, (m.1.0, named m.0 m.1.1)), not-true (is_owned (from b) ns q) f.1))
      ]
        where
          named : (m : Node) → In q (named_where (from b) m) → (holds m.id (from b) ≡ true) × In q (named_by m)
          named m j = elim (cases_Bool (holds m.id (from b))) [
            | inl h ↦ (h, subst (λ (t : Bool). In q (cond t (named_by m) [])) h j)
            | inr h ↦ elim (subst (λ (t : Bool). In q (cond t (named_by m) [])) h j) [ ]
          ]

      -- what is free in n is named, and n doesn't own it
      free-named : (q : ℕ) → In q (free_in ns n.id) → In q (told_names t n)
      free-named q i =
          let f = free-parts n.id q i in
          let m = f.0.0 in
          elim (reached-then m.id (holds-in m.id (from n.id) f.0.1.1.0)) [
            | inl e ↦ in-left q (named_by n) (flat_map list-of n.quants) (subst (λ (z : Node). In q (named_by z)) (same-box ns once n m n-here f.0.1.0 e) f.0.1.1.1)
            | inr c ↦ (
                let r = in-map (λ (r : OwnedQuant). r.over) c.0 n.quants c.1.0 in
                under-named q r.0 r.1.0 (subst (λ (k : ℕ). In q (free_in ns k)) (sym r.1.1) (free-from c.0 q m f.0.1.0 (in-holds m.id (from c.0) c.1.1) f.0.1.1.1 (no-owner c.0 c.1.0 f.1))))
          ]
        where
          no-owner : (c : ℕ) → In c (overs_of n) → is_owned (from n.id) ns q ≡ false → is_owned (from c) ns q ≡ false
          no-owner c i f = elim (cases_Bool (is_owned (from c) ns q)) [
            | inl y ↦ absurd (clash (is_owned (from n.id) ns q) (owned-then q c i y) f)
            | inr g ↦ g
          ]

      free-not-own : (q : ℕ) → In q (free_in ns n.id) → holds q (ids_of n) ≡ false
      free-not-own q i = elim (cases_Bool (holds q (ids_of n))) [
        | inr f ↦ f
        | inl h ↦ (
            absurd (clash (is_owned (from n.id) ns q)
            (any-from (λ (m : Node). holds m.id (from n.id) && owns q m) n ns n-here (and_from (holds n.id (from n.id)) (owns q n) (in-holds n.id (from n.id) itself) (held-owned q n h)))
            (free-parts n.id q i).1))
      ]

      -- a name that n doesn't own, no box under n owns
      names-unowned : (q : ℕ) → In q (told_names t n) → holds q (ids_of n) ≡ false → is_owned (from n.id) ns q ≡ false
      names-unowned q i f = elim (cases_Bool (is_owned (from n.id) ns q)) [
        | inr g ↦ g
        | inl h ↦ (
            let m = any-in (λ (m : Node). holds m.id (from n.id) && owns q m) ns h in
            let ps = and_parts (holds m.0.id (from n.id)) (owns q m.0) m.1.1 in
            absurd (owner m.0 m.1.0 ps.1 (reached-then m.0.id (holds-in m.0.id (from n.id) ps.0))))
      ]
        where
          owner : (m : Node) → In m ns → owns q m ≡ true → (m.id ≡ n.id) ⊎ ((c : ℕ) × (In c (overs_of n) × In m.id (from c))) → ⊥
          owner m j o (inl e) = clash (holds q (ids_of n)) (owned-held q n (subst (λ (z : Node). owns q z ≡ true) (same-box ns once n m n-here j e) o)) f
          owner m j o (inr c) =
              let k = under c.0 c.1.0 in
              let b = stays-behind behind owned vs p (c.0 ∷ []) vs (λ m i. i) (λ x i. elim i [ inl e ↦ subst (λ (y : ℕ). holds y behind ≡ true) e k | inr z ↦ elim z [ ] ]) m.id (subst (λ (ms : List ℕ). In m.id ms) (behind-reaches c.0 (p.here c.0 k)) c.1.1) in
              let v = in-map (λ (y : Node). y.id) m.id vs (holds-in m.id (numbers vs) (p.here m.id b)) in
              let e = same-box ns once m v.0 j (in-right v.0 us (n ∷ vs) (inr v.1.0)) v.1.1 in
              clash (holds q owned) (p.own m q (subst (λ (z : Node). In z vs) e v.1.0) b o) (any-none (λ q. holds q owned) q (told_names t n) none i)

      named-free : (q : ℕ) → In q (told_names t n) → holds q (ids_of n) ≡ false → In q (free_in ns n.id)
      named-free q i f = elim (in-append q (named_by n) (flat_map list-of n.quants) i) [
        | inl j ↦ free-from n.id q n n-here (in-holds n.id (from n.id) itself) j (names-unowned q i f)
        | inr j ↦ (
            let r = in-flat list-of q n.quants j in
            let m = (free-parts r.0.over q (subst (λ (xs : List ℕ). In q xs) (one r.0 r.1.0).1 r.1.1)).0 in
            free-from n.id q m.0 m.1.0 (in-holds m.0.id (from n.id) (then-reached m.0.id r.0.over (map-in (λ (r : OwnedQuant). r.over) r.0 n.quants r.1.0) (holds-in m.0.id (from r.0.over) m.1.1.0))) m.1.1.1 (names-unowned q i f))
      ]

      pub is-told : free_in ns n.id ≡ told t n
      is-told = each-same (filter (unowned n.id) (flat_map (named_where (from n.id)) ns)) (filter (λ q. not (holds q (ids_of n))) (told_names t n)) there back
        where
          there : (q : ℕ) → In q (free_in ns n.id) → In q (told t n)
          there q i = each-in q [] (filter (λ q. not (holds q (ids_of n))) (told_names t n)) (inr (filter-in (λ q. not (holds q (ids_of n))) q (told_names t n) (free-named q i) (ap not (free-not-own q i))))

          back : (q : ℕ) → In q (told t n) → In q (free_in ns n.id)
          back q i = elim (in-each q [] (filter (λ q. not (holds q (ids_of n))) (told_names t n)) i) [
            | inl z ↦ elim z [ ]
            | inr k ↦ (
                let f = in-filter (λ q. not (holds q (ids_of n))) q (told_names t n) k in
                named-free q f.0 (not-true (holds q (ids_of n)) f.1))
          ]

-- ---- by places

pub told-right : (t : SlotTable) (ns : List Node) (k : ℕ) (n : Node) (behind owned : List ℕ) → slice_get ns k ≡ Some n → EachOnce (numbers ns) → KeepsFree t ns
    → Passed behind owned (drop (suc k) ns) → is_told t behind owned n ≡ true → free_in ns n.id ≡ told t n
told-right t ns k n behind owned at once right p h =
    let split : ns ≡ take k ns ++ n ∷ drop (suc k) ns = split-at k ns n at in
    let both = and_parts (list_all (is_kept_behind t behind) n.quants) (not (list_any (λ q. holds q owned) (told_names t n))) h in
    subst (λ (zs : List Node). free_in zs n.id ≡ told t n) (sym split)
    (is-told (take k ns) (drop (suc k) ns) n (subst (λ (zs : List Node). EachOnce (numbers zs)) split once) behind owned p t
    (λ b qs e. subst (λ (zs : List Node). free_in zs b ≡ qs) split (right b qs e)) both.0 (not-true (list_any (λ q. holds q owned) (told_names t n)) both.1))

-- the box at a place is none of those behind it
pub new-at : (ns : List Node) (k : ℕ) (n : Node) → slice_get ns k ≡ Some n → EachOnce (numbers ns) → holds n.id (numbers (drop (suc k) ns)) ≡ false
new-at ns k n at once = not-behind (take k ns) (drop (suc k) ns) n (subst (λ (zs : List Node). EachOnce (numbers zs)) (split-at k ns n at) once)

pub some-then : {A : Type 0} (o : Option A) (P Q R : A → Type 0) → ((a : A) → P a → Q a → R a) → IfSome o P → IfSome o Q → IfSome o R
some-then None P Q R f p q = tt
some-then (Some a) P Q R f p q = f a p q

-- ---- one box more, from the last

pub drop-back : (ms : List Node) (i : ℕ) (n : Node) → 0 < i → slice_get ms (i - 1) ≡ Some n → drop (i - 1) ms ≡ n ∷ drop i ms
drop-back ms i n l e = let s : suc (i - 1) ≡ i = omega (arith, l) in drop-more (i - 1) ms n e ∙ ap (λ (k : ℕ). n ∷ drop k ms) s
