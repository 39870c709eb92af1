-- Each box of a graph that is built of a query with types shows something with types.
use Rattle.std.proofs.Common.{inl, inr, ◌≡◌, ◌≤◌, ◌<◌, ℕ, suc, ◌+◌, ◌==◌, ◌||◌, Bool, true, false, cond, List, [], ◌∷◌, ◌++◌, map, length, Some, refl, ap, sym, ◌∙◌, subst, arith}
use Rattle.std.specs.Prelude.{◌⊎◌, nat_lt}
use Rattle.std.proofs.lemmas.Bool.{and_parts, cases_Bool, eqb-true, or_cases, or_parts, or_right}
use Rattle.sql_value.specs.declared.order_key.SqlType.{SqlType}
use Rattle.sql_meaning.specs.ResolvedTrees as q
use Rattle.qgm_core.specs.Boxes.{Ordered, all_over, has_box, ids_in, is_box, overs_of}
use Rattle.qgm_core.specs.Free.{reached}
use Rattle.qgm_core.specs.Kinds.{is_F, is_select}
use Rattle.list_laws.specs.Lists.{In, holds, times}
use Rattle.qgm_wellformed.specs.View.{is_row}
use Rattle.qgm_core.specs.declared.node.Node.{Node}
use Rattle.qgm_core.specs.declared.owned.OwnedQuant.{OwnedQuant}
use Rattle.qgm_terms.specs.Terms.{Term}
use Rattle.qgm_translation.specs.Maps.{Map, fresh}
use Rattle.qgm_translation.specs.Shown as v
use Rattle.qgm_translation.specs.Shown.{Shows, ShowsBox, Thing, over_in, uses}
use Rattle.qgm_translation.specs.Sources.{Sources}
use Rattle.qgm_wellformed.specs.Types.{column_type, term_type, types_after}
use Rattle.qgm_translation_laws.specs.Typed.{Scope}
use Rattle.qgm_translation_laws.proofs.Parts.{Is}
use Rattle.qgm_translation_laws.proofs.TermsAre.{MapIs}
use Rattle.qgm_translation_laws.proofs.Boxes as boxes
use Rattle.qgm_translation_laws.proofs.Levels as levels
use Rattle.list_laws.proofs.Membership.{all-in, eq-itself}
use Rattle.list_laws.proofs.Booleans.{clash}

-- how many steps what is shown among these boxes takes, where so many were taken before
abbrev pub lev : List Node → ℕ → ℕ
lev [] e = e
lev (n ∷ ns) e = suc (lev ns (lev ns e))

pub lev-ups : (ns : List Node) (e : ℕ) → e ≤ lev ns e
lev-ups [] e = omega arith
lev-ups (n ∷ ns) e = let a = lev-ups ns e in let b = lev-ups ns (lev ns e) in omega arith

-- ---- uses

pub over-none : (b : ℕ) (ns : List Node) (os : List OwnedQuant) → all_over ns os ≡ true → has_box ns b ≡ false → over_in b os ≡ 0
over-none b ns [] h k = refl
over-none b ns (o ∷ os) h k =
    let p = and_parts (has_box ns o.over) (all_over ns os) h in
    let f : (o.over == b) ≡ false = elim (cases_Bool (o.over == b)) [ inl t ↦ absurd (clash (has_box ns b) (subst (λ z. has_box ns z ≡ true) (eqb-true o.over b t) p.0) k) | inr f ↦ f ] in
    ap (λ c. cond {A = ℕ} c 1 0 + over_in b os) f ∙ (let r = over-none b ns os p.1 k in omega arith)

pub unused : (b : ℕ) (ns : List Node) → Ordered ns → has_box ns b ≡ false → uses b ns ≡ 0
unused b [] o h = refl
unused b (n ∷ ns) o h =
    let k : has_box ns b ≡ false = elim (cases_Bool (has_box ns b)) [ inl t ↦ absurd (clash (has_box (n ∷ ns) b) (ap (λ z. is_box b n || z) t ∙ or-true (is_box b n)) h) | inr f ↦ f ] in
    let x = over-none b ns n.quants o.1 k in
    let y = unused b ns o.2 k in
    omega arith
  where
    or-true : (c : Bool) → (c || true) ≡ true
    or-true true = refl
    or-true false = refl

pub over-some : (b : ℕ) (os : List OwnedQuant) → 1 ≤ over_in b os → (o : OwnedQuant) × (In o os × (o.over ≡ b))
over-some b [] h = absurd (omega arith)
over-some b (o ∷ os) h = elim (cases_Bool (o.over == b)) [
  | inl t ↦ (o, (inl refl, eqb-true o.over b t))
  | inr f ↦ (let g : 1 ≤ 0 + over_in b os = subst (λ (c : Bool). 1 ≤ cond c 1 0 + over_in b os) f h in let r = over-some b os (omega arith) in (r.0, (inr r.1.0, r.1.1)))
]

pub lt-true : (a b : ℕ) → nat_lt a b ≡ true → a < b
lt-true a b h = grind (arith, h)

pub lt-false : (a : ℕ) → nat_lt 0 a ≡ false → a ≡ 0
lt-false a h = grind (arith, h)

-- ---- marks

pub holds-append : (b : ℕ) (xs ys : List ℕ) → holds b (xs ++ ys) ≡ true → (holds b xs ≡ true) ⊎ (holds b ys ≡ true)
holds-append b [] ys h = inr h
holds-append b (x ∷ xs) ys h = elim (or_cases (x == b) (holds b (xs ++ ys)) h) [
  | inl t ↦ inl (ap (λ z. z || holds b xs) t)
  | inr t ↦ elim (holds-append b xs ys t) [ inl u ↦ inl (or_right (x == b) (holds b xs) u) | inr u ↦ inr u ]
]

pub held-over : (b : ℕ) (os : List OwnedQuant) → holds b (map (λ r. r.over) os) ≡ true → (o : OwnedQuant) × (In o os × (o.over ≡ b))
held-over b [] h = absurd (cc h)
held-over b (o ∷ os) h = elim (or_cases (o.over == b) (holds b (map (λ r. r.over) os)) h) [
  | inl t ↦ (o, (inl refl, eqb-true o.over b t))
  | inr t ↦ (let r = held-over b os t in (r.0, (inr r.1.0, r.1.1)))
]

pub only-one : (s b : ℕ) → holds b (s ∷ []) ≡ true → s ≡ b
only-one s b h = elim (or_cases (s == b) false h) [ inl t ↦ eqb-true s b t | inr t ↦ absurd (let z : true ≡ false = sym t in let w : ⊥ = cc in w) ]

-- a quantifier of these ranges over none but those
pub overs-apart : (b : ℕ) (ns : List Node) (os : List OwnedQuant) → all_over ns os ≡ true → has_box ns b ≡ false → holds b (map (λ r. r.over) os) ≡ false
overs-apart b ns os h k = elim (cases_Bool (holds b (map (λ r. r.over) os))) [
  | inr f ↦ f
  | inl t ↦ (let r = held-over b os t in absurd (clash (has_box ns b) (subst (λ z. has_box ns z ≡ true) r.1.1 (all-in (λ o. has_box ns o.over) r.0 os h r.1.0)) k))
]

-- a box that isn't among these isn't marked by them
pub not-later : (b : ℕ) (marks : List ℕ) (ns : List Node) → Ordered ns → has_box ns b ≡ false → holds b (reached marks ns) ≡ true → holds b marks ≡ true
not-later b marks [] o k h = h
not-later b marks (n ∷ ns) o k h =
    let f = or_parts (n.id == b) (has_box ns b) k in
    elim (holds n.id marks) as (λ c. holds b (reached (cond c (marks ++ overs_of n) marks) ns) ≡ true → holds b marks ≡ true) [
      | true ↦ (λ h. elim (holds-append b marks (overs_of n) (not-later b (marks ++ overs_of n) ns o.2 f.1 h)) [ inl t ↦ t | inr t ↦ absurd (clash (holds b (overs_of n)) t (overs-apart b ns n.quants o.1 f.1)) ])
      | false ↦ (λ h. not-later b marks ns o.2 f.1 h)
    ] h

-- ---- boxes

module _ (bs : List Node) (ordered : Ordered bs) (once : (q : ℕ) → times q (ids_in bs) ≤ 1) (kinds : List ℕ → List SqlType) (sources : Sources) (counted : (name : List ℕ) → length (kinds name) ≡ sources.columns name) where
  abbrev pub Over : ℕ → ℕ → List SqlType → Type 0
  Over = levels.Over bs ordered once

  abbrev pub Column : ℕ → ℕ → ℕ → SqlType → Type 0
  Column = levels.Column bs ordered once kinds sources counted

  abbrev pub LocalIs : ℕ → Map → Node → List SqlType → Type 0
  LocalIs = levels.LocalIs bs ordered once kinds sources counted

  abbrev pub ThingIs : List Scope → Thing → List SqlType → Type 0
  ThingIs = boxes.ThingIs kinds sources counted Over (levels.more bs ordered once) (levels.Ranges bs ordered once)

  abbrev pub Child : (ℕ → Thing → Map → Type 0) → Node → Map → OwnedQuant → Type 0
  Child = boxes.Child kinds sources counted Over (levels.more bs ordered once) (levels.Ranges bs ordered once)

  abbrev pub Each : (ℕ → Thing → Map → Type 0) → Node → Map → List OwnedQuant → Type 0
  Each = boxes.Each kinds sources counted Over (levels.more bs ordered once) (levels.Ranges bs ordered once)

  module _ (named : (name : List ℕ) → boxes.SourceIs kinds sources counted Over (levels.more bs ordered once) (levels.Ranges bs ordered once) name (sources.body name))
      (told : (j : ℕ) (x : Term) (a : SqlType) → term_type (column_type bs (types_after j bs)) x ≡ Some a → sources.typed x ≡ a) where
    told-of : (e : ℕ) (os : List OwnedQuant) (m : Map) (x : Term) (a : SqlType)
        → Is (levels.Kn bs ordered once kinds sources counted e os m) (levels.Nn bs ordered once kinds sources counted e os) (levels.Jn bs ordered once kinds sources counted e) x a → sources.typed x ≡ a
    told-of e os m x a h =
        told e x a (levels.term-typed bs ordered once kinds sources counted e os m (column_type bs (types_after e bs))
        (λ n k a z. levels.column-at bs ordered once kinds sources counted e n k a z.0 e (omega arith)) (λ n a z. levels.column-at bs ordered once kinds sources counted e n 1 a z e (omega arith)) x a h)

    -- what a box is that shows a thing, over boxes that have the types of what they show
    whole : (ns : List Node) (n : Node) → In n bs
        → ((b : ℕ) (thing : Thing) (m : Map) (scopes : List Scope) (types : List SqlType) (e : ℕ) → Shows sources ns b thing m → MapIs (Column e) m scopes → ThingIs scopes thing types → Over (lev ns e) b types)
        → (thing : Thing) (m : Map) (scopes : List Scope) (e : ℕ) (types : List SqlType) → ShowsBox sources (Shows sources ns) thing m n → MapIs (Column e) m scopes → ThingIs scopes thing types
        → LocalIs (lev ns (lev ns e)) (boxes.map_of thing m) n types × Each (Shows sources ns) n (boxes.map_of thing m) n.quants
    whole ns n i are thing m scopes e types h round g =
        boxes.thing-is kinds sources counted Over (levels.more bs ordered once) (levels.Ranges bs ordered once) told-of (Shows sources ns) (lev ns) (lev-ups ns) are n (levels.ranges-of bs ordered once n i) named thing m scopes e types h round g

    pub over : (ns : List Node) → ((n : Node) → In n ns → In n bs) → (b : ℕ) (thing : Thing) (m : Map) (scopes : List Scope) (types : List SqlType) (e : ℕ)
        → Shows sources ns b thing m → MapIs (Column e) m scopes → ThingIs scopes thing types → Over (lev ns e) b types
    over [] sub b thing m scopes types e h round g = absurd h
    over (n ∷ ns) sub b thing m scopes types e h round g =
        elim (n.id == b) as (λ own. (n.id == b) ≡ own → v.Either own (ShowsBox sources (Shows sources ns) thing m n) (Shows sources ns b thing m) → Over (suc (lev ns (lev ns e))) b types) [
          | true ↦ (λ same h.
              subst (λ z. Over (suc (lev ns (lev ns e))) z types) (eqb-true n.id b same)
              (levels.close bs ordered once kinds sources counted (lev ns (lev ns e)) (boxes.map_of thing m) n types (sub n (inl refl))
              (whole ns n (sub n (inl refl)) (over ns (λ k i. sub k (inr i))) thing m scopes e types h round g).0))
          | false ↦ (λ same h.
              let x = lev-ups ns (lev ns e) in
              levels.more bs ordered once (lev ns e) (suc (lev ns (lev ns e))) b types (omega arith) (over ns (λ k i. sub k (inr i)) b thing m scopes types e h round g))
        ] refl h

    -- what is seen in a box by its quantifier o is seen in the box, or is a row of it that a select shows
    abbrev pub Visible : Node → Map → OwnedQuant → Map → Type 0
    Visible n m o x = (q : ℕ) → fresh q x ≡ false → (fresh q m ≡ false) ⊎ ((is_F o.kind ≡ false) × (is_row q n.quants ≡ true) × (is_select n.parts.kind ≡ true))

    -- V: what is said of a box and the map that it is seen through
    module _ (V : ℕ → Map → Type 0) (none : (b : ℕ) (m : Map) → V b m → V b []) (child : (n : Node) → In n bs → (m : Map) → V n.id m → (o : OwnedQuant) → In o n.quants → (x : Map) → Visible n m o x → V o.over x) where
      -- a box shows something with types
      abbrev pub Some_thing : List Node → ℕ → Type 0
      Some_thing ns b =
          (thing : Thing) × ((m : Map) × ((scopes : List Scope) × ((types : List SqlType) × ((e : ℕ) × (Shows sources ns b thing m × MapIs (Column e) m scopes × ThingIs scopes thing types × V b m)))))

      -- what a box shows, its types, and what its quantifiers range over
      abbrev pub ShownBox : Node → List Node → Type 0
      ShownBox n ns =
          (thing : Thing) × ((m : Map) × ((e : ℕ) × ((types : List SqlType)
          × (ShowsBox sources (Shows sources ns) thing m n × LocalIs e (boxes.map_of thing m) n types × Each (Shows sources ns) n (boxes.map_of thing m) n.quants
          × ((scopes : List Scope) × ThingIs scopes thing types) × V n.id (boxes.map_of thing m)))))

      -- each that is marked does so
      abbrev pub EachShown : List ℕ → List Node → Type 0
      EachShown marks [] = Unit {0}
      EachShown marks (n ∷ ns) = (holds n.id marks ≡ true → ShownBox n ns) × EachShown marks ns

      seen-through : (b : ℕ) (thing : Thing) (m : Map) → V b m → V b (boxes.map_of thing m)
      seen-through b (v.of_query x) m h = h
      seen-through b (v.of_operand (q.named name)) m h = none b m h
      seen-through b (v.of_operand (q.derived query)) m h = h
      seen-through b (v.of_operand (q.crossed x y)) m h = h
      seen-through b (v.of_operand (q.joined x y p)) m h = h
      seen-through b (v.of_operand (q.left_joined x y n p)) m h = h
      seen-through b (v.of_rows from by places ls) m h = h
      seen-through b (v.of_groups from by places ls) m h = h

      known-of : (ns : List Node) (n : Node) → ((k : Node) → In k (n ∷ ns) → In k bs) → Some_thing (n ∷ ns) n.id → ShownBox n ns
      known-of ns n sub p =
          let h : ShowsBox sources (Shows sources ns) p.0 p.1.0 n = subst (λ own. v.Either own (ShowsBox sources (Shows sources ns) p.0 p.1.0 n) (Shows sources ns n.id p.0 p.1.0)) (eq-itself n.id) p.1.1.1.1.1.0 in
          let e = p.1.1.1.1.0 in
          let w = whole ns n (sub n (inl refl)) (over ns (λ k i. sub k (inr i))) p.0 p.1.0 p.1.1.0 e p.1.1.1.0 h p.1.1.1.1.1.1 p.1.1.1.1.1.2 in
          (p.0, (p.1.0, (lev ns (lev ns e), (p.1.1.1.0, (h, w.0, w.1, (p.1.1.0, p.1.1.1.1.1.2), seen-through n.id p.0 p.1.0 p.1.1.1.1.1.3)))))

      child-thing : (ns : List Node) (n : Node) → In n bs → (m : Map) → V n.id m → (os : List OwnedQuant) → ((o : OwnedQuant) → In o os → In o n.quants) → Each (Shows sources ns) n m os → (o : OwnedQuant) → In o os → Some_thing ns o.over
      child-thing ns n here m k [] sub h o i = absurd i
      child-thing ns n here m k (x ∷ os) sub h o (inl same) =
          subst (λ (z : OwnedQuant). Some_thing ns z.over) same (
            h.0.0,
            (
              h.0.1.0,
              (
                h.0.1.1.0,
                (
                  h.0.1.1.1.0,
                  (
                    h.0.1.1.1.1.0,
                    (h.0.1.1.1.1.1.0, h.0.1.1.1.1.1.1, h.0.1.1.1.1.1.2, child n here m k x (sub x (inl refl)) h.0.1.0 h.0.1.1.1.1.1.3),
                  ),
                ),
              ),
            ),
          )
      child-thing ns n here m k (x ∷ os) sub h o (inr j) = child-thing ns n here m k os (λ z i. sub z (inr i)) h.1 o j

      behind : (n : Node) (ns : List Node) (b : ℕ) → (n.id == b) ≡ false → Some_thing (n ∷ ns) b → Some_thing ns b
      behind n ns b f p = (
        p.0,
        (
          p.1.0,
          (
            p.1.1.0,
            (
              p.1.1.1.0,
              (
                p.1.1.1.1.0,
                (subst (λ own. v.Either own (ShowsBox sources (Shows sources ns) p.0 p.1.0 n) (Shows sources ns b p.0 p.1.0)) f p.1.1.1.1.1.0, p.1.1.1.1.1.1, p.1.1.1.1.1.2, p.1.1.1.1.1.3),
              ),
            ),
          ),
        ),
      )

      still : (n : Node) (ns : List Node) → Ordered (n ∷ ns) → (marks : List ℕ) → ((b : ℕ) → holds b marks ≡ true → has_box (n ∷ ns) b ≡ true → Some_thing (n ∷ ns) b) → (b : ℕ) → holds b marks ≡ true → has_box ns b ≡ true → Some_thing ns b
      still n ns o marks inv b h i =
          let f : (n.id == b) ≡ false = elim (cases_Bool (n.id == b)) [ inl t ↦ absurd (clash (has_box ns b) i (subst (λ z. has_box ns z ≡ false) (eqb-true n.id b t) o.0)) | inr f ↦ f ] in
          behind n ns b f (inv b h (ap (λ z. z || has_box ns b) f ∙ i))

      -- what is marked so far shows something
      walk : (ns : List Node) → ((n : Node) → In n ns → In n bs) → Ordered ns → (marks : List ℕ) → ((b : ℕ) → holds b marks ≡ true → has_box ns b ≡ true → Some_thing ns b) → EachShown (reached marks ns) ns
      walk [] sub o marks inv = tt
      walk (n ∷ ns) sub o marks inv =
          elim (holds n.id marks) as (λ c. holds n.id marks ≡ c → (holds n.id (reached (cond c (marks ++ overs_of n) marks) ns) ≡ true → ShownBox n ns) × EachShown (reached (cond c (marks ++ overs_of n) marks) ns) ns) [
            | true ↦ (λ e.
                let k = known-of ns n sub (inv n.id e (ap (λ z. z || has_box ns n.id) (eq-itself n.id))) in
                let kid = child-thing ns n (sub n (inl refl)) (boxes.map_of k.0 k.1.0) k.1.1.1.1.4 n.quants (λ o i. i) k.1.1.1.1.2 in
                ((λ _. k), walk ns (λ c i. sub c (inr i)) o.2 (marks ++ overs_of n) (λ b h i. next n ns o marks inv kid b (holds-append b marks (overs_of n) h) i)))
            | false ↦ (λ e. (
              (λ h. absurd (clash (holds n.id marks) (not-later n.id marks ns o.2 o.0 h) e)),
              walk ns (λ c i. sub c (inr i)) o.2 marks (λ b h i. still n ns o marks inv b h i),
            ))
          ] refl
        where
          next : (n : Node) (ns : List Node) → Ordered (n ∷ ns) → (marks : List ℕ) → ((b : ℕ) → holds b marks ≡ true → has_box (n ∷ ns) b ≡ true → Some_thing (n ∷ ns) b)
              → ((o : OwnedQuant) → In o n.quants → Some_thing ns o.over) → (b : ℕ) → (holds b marks ≡ true) ⊎ (holds b (overs_of n) ≡ true) → has_box ns b ≡ true → Some_thing ns b
          next n ns o marks inv kid b (inl h) i = still n ns o marks inv b h i
          next n ns o marks inv kid b (inr h) i = let r = held-over b n.quants h in subst (λ z. Some_thing ns z) r.1.1 (kid r.0 r.1.0)

      pub from-here : (s : ℕ) → Some_thing bs s → EachShown (reached (s ∷ []) bs) bs
      from-here s p = walk bs (λ n i. i) ordered (s ∷ []) (λ b h i. subst (λ z. Some_thing bs z) (only-one s b h) p)
