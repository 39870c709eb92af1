-- A graph of which some boxes stay and others are made anew.
use Rattle.std.proofs.Common.{ℕ, ◌+◌, ◌==◌, ◌≡◌, ◌≤◌, ◌&&◌, ◌-◌, nat_lt, cond, Bool, true, false, List, [], ◌∷◌, map, Some, None, refl, sym, ap, subst, ◌∙◌, eqb-true, inl, inr, arith}
use Rattle.std.specs.Prelude.{slice_get}
use Rattle.std.specs.List.{list_all}
use Rattle.std.proofs.lemmas.Bool.{and_parts, cases_Bool, eq-eqb, or_cases, or_left, or_right}
use Rattle.qgm_core.specs.Boxes.{has_box, ids_in, ids_of, is_box, width}
use Rattle.qgm_core.specs.Free.{free_in, named_by}
use Rattle.qgm_core.specs.Kinds.{is_F_or_S, is_S, is_fed, is_magic, is_permit}
use Rattle.list_laws.specs.Lists.{In, first, holds, times}
use Rattle.qgm_core.specs.declared.kinds.BoxKind.{BoxKind}
use Rattle.qgm_core.specs.declared.kinds.BoxKind.TheVariants.{Base, Select, Group, SetOp, OuterJoin}
use Rattle.qgm_core.specs.declared.node.Node.{Node}
use Rattle.qgm_core.specs.declared.owned.OwnedQuant.{OwnedQuant}
use Rattle.qgm_wellformed.specs.Shapes.{fed_by, is_scalar, is_scalar_in, magic_found, only, width_found}
use Rattle.qgm_wellformed.specs.Types.{all_agree, cond_fits, is_known, joined_column, known, lookup_of, term_type}
use Rattle.qgm_meaning.specs.Scope.{loose}
use Rattle.qgm_edit_laws.specs.Checked.{own_seen}
use Rattle.qgm_edit_laws.specs.Graph.{ArmsBy, Sound}
use Rattle.qgm_edit_laws.specs.Reforms.{types_at}
use Rattle.qgm_edit_laws.specs.Scoped.{Local, Scoped, shows_by}
use Rattle.qgm_edit_laws.specs.Shaped.{Shaped, Typed}
use Rattle.qgm_edit_laws.proofs.Adds.{reads-at-read}
use Rattle.qgm_edit_laws.proofs.BoxForms.{scalar-column}
use Rattle.qgm_edit_laws.proofs.Facts.{looks-stay}
use Rattle.qgm_edit_laws.proofs.Follow.{all-alike, settled-types}
use Rattle.qgm_edit_laws.proofs.Formed.{sound-checked}
use Rattle.qgm_edit_laws.proofs.FreeLoose.{alone-from, alone-to, looks-asked}
use Rattle.qgm_edit_laws.proofs.Ranks.{has-in}
use Rattle.qgm_edit_laws.proofs.Read.{read-named}
use Rattle.qgm_edit_laws.proofs.Reformed.{columns-moved}
use Rattle.qgm_edit_laws.proofs.Scope.{in-first}
use Rattle.qgm_edit_laws.proofs.Scoped.{bounded, few-ids, scoped-of, sound-by}
use Rattle.qgm_edit_laws.proofs.ShapeParts.{fed-parts, shape-moved, shape-parts, two-parts}
use Rattle.qgm_edit_laws.proofs.TypedKept.{Ranging, found, found-under}
use Rattle.qgm_edit_laws.proofs.TypesBy.{Types, agrees-alike, agrees-as, arms_by, found_by, head-alike, looked, typed-by, via}
use Rattle.qgm_edit_laws.proofs.WellFormedKept.{numbers-once}
use Rattle.qgm_edit_laws.specs.Rebuilds.{HasForm, IsOwned, Rebuilds, RebuiltLooks, RebuiltSound, RebuiltWellFormed, StaysIn}
use Rattle.qgm_core.proofs.Reaching.{overs-held}
use Rattle.list_laws.proofs.Counting.{in-times, times-once}
use Rattle.list_laws.proofs.Membership.{any-in, in-right}
use Rattle.list_laws.proofs.Booleans.{clash}

-- two quantifiers of one number in one list
one-number : (q : ℕ) (rs : List OwnedQuant) → times q (map (λ (r : OwnedQuant). r.id) rs) ≤ 1 → (a b : OwnedQuant) → In a rs → In b rs → a.id ≡ q → b.id ≡ q → a ≡ b
one-number q [] l a b u v h k = elim u [ ]
one-number q (r ∷ rs) l a b u v h k = elim u [
  | inl e ↦ elim v [
    | inl d ↦ sym e ∙ d
    | inr j ↦ absurd (two r.id rs (ap (λ (z : OwnedQuant). z.id) e ∙ h) (subst (λ z. 1 ≤ times z (map (λ (r : OwnedQuant). r.id) rs)) k (in-times (λ (r : OwnedQuant). r.id) b rs j)) l)
  ]
  | inr j ↦ elim v [
    | inl d ↦ absurd (two r.id rs (ap (λ (z : OwnedQuant). z.id) d ∙ k) (subst (λ z. 1 ≤ times z (map (λ (r : OwnedQuant). r.id) rs)) h (in-times (λ (r : OwnedQuant). r.id) a rs j)) l)
    | inr m ↦ one-number q rs (let z : cond (r.id == q) 1 0 + times q (map (λ (r : OwnedQuant). r.id) rs) ≤ 1 = l in omega (arith, z)) a b j m h k
  ]
]
  where
    two : (i : ℕ) (rs : List OwnedQuant) → i ≡ q → 1 ≤ times q (map (λ (r : OwnedQuant). r.id) rs) → cond (i == q) 1 0 + times q (map (λ (r : OwnedQuant). r.id) rs) ≤ 1 → ⊥
    two i rs e m l =
        let n : 1 + times q (map (λ (r : OwnedQuant). r.id) rs) ≤ 1 = subst (λ (t : Bool). cond t 1 0 + times q (map (λ (r : OwnedQuant). r.id) rs) ≤ 1) (eq-eqb i q e) l in
        omega (arith, m, n)

-- and in boxes
pub one-quant : (hs : List Node) → ((q : ℕ) → times q (ids_in hs) ≤ 1) → (a b : OwnedQuant) → IsOwned hs a → IsOwned hs b → a.id ≡ b.id → a ≡ b
one-quant hs once a b x y e =
    let same : x.0 ≡ y.0 = times-once ids_of b.id x.0 y.0 hs (once b.id) x.1.0 y.1.0
    (subst (λ z. 1 ≤ times z (ids_of x.0)) e (in-times (λ (r : OwnedQuant). r.id) a x.0.quants x.1.1)) (in-times (λ (r : OwnedQuant). r.id) b y.0.quants y.1.1) in
    one-number b.id y.0.quants (few-ids hs y.0 b.id (once b.id) y.1.0) a b (subst (λ (z : Node). In a z.quants) same x.1.1) y.1.1 e refl

module _ (bs hs : List Node) (root : ℕ) (kept : ℕ → Bool) (look : ℕ → ℕ → Bool) (fresh : ℕ → Bool) (w : Sound bs root) (m : Rebuilds bs hs root kept look fresh) where
  -- the box under a quantifier that a box which stays names, before and after
  pub record Under (q : ℕ) : Type 0 where
    pub was : Ranging bs q
    pub stays : kept was.quant.over ≡ true
    pub quant : OwnedQuant
    pub owned : IsOwned hs quant
    pub is_q : quant.id ≡ q
    pub same_over : quant.over ≡ was.quant.over
    pub box : Node
    pub box_in : In box hs
    pub is_over : box.id ≡ quant.over

  under : (n : Node) → StaysIn bs hs kept look n → (q : ℕ) → holds q (named_by n) ≡ true → Under q
  under n s q h =
      let f = found bs root w n s.within q h in
      let x = s.named f.quant (subst (λ z. holds z (named_by n) ≡ true) (sym f.is_q) h) (f.owner, (f.owner_in, f.quant_in)) in
      let b = has-in x.1.0.over hs (overs-held hs x.1.1.0.0 x.1.0 m.ordered x.1.1.0.1.0 x.1.1.0.1.1) in
      record { was = f; stays = x.0; quant = x.1.0; owned = x.1.1.0; is_q = x.1.1.1.0 ∙ f.is_q; same_over = x.1.1.1.1; box = b.0; box_in = b.1.0; is_over = b.1.1 }

  same-number : (q : ℕ) (u : Under q) → u.was.box.id ≡ u.box.id
  same-number q u = u.was.is_over ∙ sym u.same_over ∙ sym u.is_over

  kept-box : (q : ℕ) (u : Under q) → kept u.was.box.id ≡ true
  kept-box q u = subst (λ z. kept z ≡ true) (sym u.was.is_over) u.stays

  local : Local hs root
  local = record {
    ordered = m.ordered;
    rooted = m.rooted;
    once = m.once;
    top = m.top;
    fits = λ n i q k t. elim (m.each n i) [
      | inr x ↦ (m.made n i x).fits q k t
      | inl s ↦ λ o r u io jr e iu l. (
          let x = under n s q (read-named q n (reads-at-read q k n t)) in
          let one : r ≡ x.quant = one-quant hs m.once r x.quant (o, (io, jr)) x.owned (e ∙ sym x.is_q) in
          let number : x.was.box.id ≡ u.id = same-number q x ∙ x.is_over ∙ ap (λ (z : OwnedQuant). z.over) (sym one) ∙ sym l in
          let wide = m.wide x.was.box u x.was.box_in iu (kept-box q x) number in
          let f = w.fits n s.within q k t x.was.owner x.was.quant x.was.box x.was.owner_in x.was.quant_in x.was.is_q x.was.box_in x.was.is_over in
          (f.0, subst (λ z. k ≤ z) (sym wide) f.1))
    ];
    own_nodes = λ n i q t. elim (m.each n i) [ inr x ↦ (m.made n i x).own_nodes q t | inl s ↦ w.own_nodes n s.within q t ];
    bare = λ n i. elim (m.each n i) [ inr x ↦ (m.made n i x).bare | inl s ↦ w.bare n s.within ];
    arms = λ n u r i j iu l. elim (m.each n i) [
      | inr x ↦ (m.made n i x).arms u r j iu l
      | inl s ↦ (
          let b = has-in r.over bs (overs-held bs n r w.ordered s.within j) in
          let wide = m.wide b.0 u b.1.0 iu (subst (λ z. kept z ≡ true) (sym b.1.1) (s.over r j).0) (b.1.1 ∙ sym l) in
          subst (λ z. ArmsBy n.parts.kind z (width n)) (sym wide) (w.arms n b.0 r s.within j b.1.0 b.1.1))
    ];
  }

  scoped : (n : Node) → In n hs → Scoped look n
  scoped n i = elim (m.each n i) [
    | inr x ↦ (m.made n i x).scoped
    | inl s ↦ record {
      under = λ done r rest e q t. (
          let j : In r n.quants = subst (λ (z : List OwnedQuant). In r z) (sym e) (in-right r done (r ∷ rest) (inl refl)) in
          elim (or_cases (shows_by n.parts.kind n.quants done r q) (loose bs n.id q) ((scoped-of bs root w n s.within).under done r rest e q (sym ((s.over r j).1 q) ∙ t))) [
            | inl y ↦ or_left (shows_by n.parts.kind n.quants done r q) (look n.id q) y
            | inr y ↦ or_right (shows_by n.parts.kind n.quants done r q) (look n.id q) (s.same q ∙ y)
          ]);
      own = λ q t. elim (or_cases (own_seen n.parts.kind n q) (loose bs n.id q) ((scoped-of bs root w n s.within).own q t)) [
        | inl y ↦ or_left (own_seen n.parts.kind n q) (look n.id q) y
        | inr y ↦ or_right (own_seen n.parts.kind n q) (look n.id q) (s.same q ∙ y)
      ];
    }
  ]

  pub rebuilt : Sound hs root
  rebuilt = sound-by look hs root local scoped
      (λ n i q o. elim (m.each n i) [ inr x ↦ (m.made n i x).settled q o | inl s ↦ s.same q ∙ w.settled n s.within q o ])
      m.used

  less : (b q : ℕ) → loose hs b q ≡ true → look b q ≡ true
  less = bounded look hs m.once scoped

  more : (b q : ℕ) → has_box hs b ≡ true → look b q ≡ true → loose hs b q ≡ true
  more = looks-stay look hs m.ordered local.bare (λ n i. elim (m.each n i) [
    | inr x ↦ (m.made n i x).asks
    | inl s ↦ λ q t. (
        let a = looks-asked bs root w n s.within q (sym (s.same q) ∙ t) in
        (a.0, elim a.1 [ inl y ↦ inl y | inr y ↦ inr (y.0, (y.1.0, (s.over y.0 y.1.0).1 q ∙ y.1.1)) ]))
  ])

  pub looks-exact : (b q : ℕ) → has_box hs b ≡ true → loose hs b q ≡ look b q
  looks-exact b q h = at (loose hs b q) (look b q) refl refl
    where
      at : (x y : Bool) → loose hs b q ≡ x → look b q ≡ y → x ≡ y
      at true true e f = refl
      at false false e f = refl
      at true false e f = sym (less b q e) ∙ f
      at false true e f = sym e ∙ more b q h f

  -- ---- types and shapes

  module _ (t : Typed bs) (sh : Shaped bs root) (T : Types) (same : (u : Node) → In u bs → kept u.id ≡ true → T u.id ≡ types_at bs u.id) (form : (n : Node) → In n hs → fresh n.id ≡ true → HasForm hs root T n) where
    abbrev v : Sound hs root
    v = rebuilt

    abbrev after-found : (q : ℕ) (x : Under q) → Ranging hs q
    after-found q x = record { owner = x.owned.0; quant = x.quant; box = x.box; owner_in = x.owned.1.0; quant_in = x.owned.1.1; is_q = x.is_q; box_in = x.box_in; is_over = x.is_over }

    alike : (n : Node) → StaysIn bs hs kept look n → (q : ℕ) → holds q (named_by n) ≡ true → (k : ℕ) → via T hs q k ≡ lookup_of bs q k
    alike n s q h k =
        let x = under n s q h in
        ap (found_by T k) (found-under hs root rebuilt q (after-found q x))
        ∙ ap (λ z. cond (k == 0) None (joined_column (slice_get z (k - 1)))) (ap T (sym (same-number q x)) ∙ same x.was.box x.was.box_in (kept-box q x))
        ∙ sym (ap (found_by (types_at bs) k) (found-under bs root w q x.was)) ∙ sym (looked bs q k)

    old-over : (n : Node) → StaysIn bs hs kept look n → (r : OwnedQuant) → In r n.quants → (u : Node) × (In u bs × (u.id ≡ r.over))
    old-over n s r j = has-in r.over bs (overs-held bs n r w.ordered s.within j)

    arms-same : (n : Node) → StaysIn bs hs kept look n → (k : BoxKind) (rs : List OwnedQuant) → ((r : OwnedQuant) → In r rs → In r n.quants) → arms_by T k rs ≡ arms_by (types_at bs) k rs
    arms-same n s (Base f) rs sub = refl
    arms-same n s Select rs sub = refl
    arms-same n s (Group k) rs sub = refl
    arms-same n s (SetOp f ts) rs sub = all-alike (λ r. all_agree (T r.over) (known ts)) (λ r. all_agree (types_at bs r.over) (known ts)) rs (λ r j. (
        let u = old-over n s r (sub r j) in
        ap (λ z. all_agree z (known ts)) (ap T (sym u.1.1) ∙ same u.0 u.1.0 (subst (λ z. kept z ≡ true) (sym u.1.1) (s.over r (sub r j)).0) ∙ ap (types_at bs) u.1.1)))
    arms-same n s OuterJoin rs sub = refl

    pub typed-rebuilt : Typed hs
    typed-rebuilt = typed-by hs root rebuilt T
        (λ n i. elim (m.each n i) [
          | inr x ↦ (form n i x).columns_typed
          | inl s ↦ same n s.within s.number ∙ settled-types bs root w n s.within ∙ sym (head-alike (via T hs) (lookup_of bs) n (alike n s))
        ])
        (λ n i. elim (m.each n i) [
          | inr x ↦ (form n i x).agrees
          | inl s ↦ agrees-alike (via T hs) (lookup_of bs) n (alike n s) T
              ∙ ap (λ z. list_all (λ x. is_known (term_type (lookup_of bs) x)) n.parts.head && (list_all (cond_fits (lookup_of bs)) n.parts.conds.items && z)) (arms-same n s n.parts.kind n.quants (λ r j. j))
              ∙ sym (agrees-as bs n) ∙ t n s.within
        ])

    -- the box of a kept number, before and after
    boxes : (n : Node) → StaysIn bs hs kept look n → (r : OwnedQuant) → In r n.quants → (u : Node) × ((x : Node) × ((first (is_box r.over) bs ≡ Some u) × ((first (is_box r.over) hs ≡ Some x) × ((width x ≡ width u) × (is_magic x.parts.role ≡ is_magic u.parts.role)))))
    boxes n s r j =
        let u = old-over n s r j in
        let k : kept u.0.id ≡ true = subst (λ z. kept z ≡ true) (sym u.1.1) (s.over r j).0 in
        let x = has-in u.0.id hs (m.held u.0 u.1.0 k) in (
          u.0,
          (
            x.0,
            (
              subst (λ b. first (is_box b) bs ≡ Some u.0) u.1.1 (in-first u.0 bs w.ordered u.1.0),
              (
                subst (λ b. first (is_box b) hs ≡ Some x.0) (x.1.1 ∙ u.1.1) (in-first x.0 hs m.ordered x.1.0),
                (m.wide u.0 x.0 u.1.0 x.1.0 k (sym x.1.1), m.magic u.0 x.0 u.1.0 x.1.0 k (sym x.1.1)),
              ),
            ),
          ),
        )

    scalar-wide : (n : Node) → StaysIn bs hs kept look n → In n hs → is_scalar hs n.id ≡ true → nat_lt 0 (width n) ≡ true
    scalar-wide n s i h =
        let o = any-in (λ (o : Node). is_scalar_in o.quants n.id) hs h in
        let r = any-in (λ (r : OwnedQuant). (r.over == n.id) && is_S r.kind) o.0.quants o.1.1 in
        let k = and_parts (r.0.over == n.id) (is_S r.0.kind) r.1.1 in
        let e : n.id ≡ r.0.over = sym (eqb-true r.0.over n.id k.0) in
        elim (m.each o.0 o.1.0) [
          | inr x ↦ (form o.0 o.1.0 x).scalars r.0 n r.1.0 k.1 i e
          | inl y ↦ scalar-column bs root t sh o.0 n r.0 y.within r.1.0 k.1 s.within e
        ]

    fed-alone : (n : Node) → StaysIn bs hs kept look n → is_fed n.parts.role ≡ true → (a d : OwnedQuant) → n.quants ≡ a ∷ (d ∷ []) → only a.id (free_in hs d.over) ≡ true
    fed-alone n s f a d e =
        let p = fed-parts root bs n f (shape-parts root bs n (sh.shapes n s.within)).kind in
        let old = alone-to bs root w d.over a.id (two-parts bs n.parts.head a d (ap (fed_by bs n.parts.head) (sym e) ∙ p.fed)).alone in
        let j : In d n.quants = subst (λ z. In d z) (sym e) (inr (inl refl)) in
        let k = (s.over d j).0 in
        let u = old-over n s d j in
        let there : has_box hs d.over ≡ true = subst (λ z. has_box hs z ≡ true) u.1.1 (m.held u.0 u.1.0 (subst (λ z. kept z ≡ true) (sym u.1.1) k)) in
        alone-from hs root rebuilt d.over a.id (more d.over a.id there ((s.over d j).1 a.id ∙ old.0)) (λ q h. old.1 q (sym ((s.over d j).1 q) ∙ less d.over q h))

    pub shaped-rebuilt : Shaped hs root
    shaped-rebuilt = record {
      columns = λ n i. elim (m.each n i) [
        | inr x ↦ (form n i x).columns
        | inl s ↦ columns-moved bs hs n (λ q h. (
            let x = under n s q h in
            (x.was.box, (x.box, (found-under bs root w q x.was, (found-under hs root rebuilt q (after-found q x), m.wide x.was.box x.box x.was.box_in x.box_in (kept-box q x) (same-number q x))))))) (sh.columns n s.within)
      ];
      unseen = λ n i p. elim (m.each n i) [
        | inr x ↦ (form n i x).hidden p
        | inl s ↦ (
          (sh.unseen n s.within p).0,
          λ o r io jr e. elim (m.each o io) [
            | inl y ↦ (sh.unseen n s.within p).1 o r y.within jr e
            | inr y ↦ elim (cases_Bool (is_F_or_S r.kind)) [ inr f ↦ f | inl c ↦ absurd (clash (is_permit n.parts.distinct) p ((form o io y).unseen r n jr c i (sym e))) ]
          ],
        )
      ];
      shapes = λ n i. elim (m.each n i) [
        | inr x ↦ (form n i x).shape
        | inl s ↦ shape-moved root bs hs n
            (λ r j c. (let b = boxes n s r j in ap width_found b.1.1.1.0 ∙ b.1.1.1.1.0 ∙ sym (ap width_found b.1.1.0)))
            (λ r j. (let b = boxes n s r j in ap magic_found b.1.1.1.0 ∙ b.1.1.1.1.1 ∙ sym (ap magic_found b.1.1.0)))
            (fed-alone n s) (scalar-wide n s i) (sh.shapes n s.within)
      ];
    }

pub rebuilt-sound : RebuiltSound
rebuilt-sound = λ bs hs root kept look fresh w m. rebuilt bs hs root kept look fresh w m

pub rebuilt-looks : RebuiltLooks
rebuilt-looks = λ bs hs root kept look fresh w m b q h. looks-exact bs hs root kept look fresh w m b q h

pub rebuilt-formed : RebuiltWellFormed
rebuilt-formed = λ g h kept look fresh T once f e m same form. (
    let p = (sound-checked g once).0 f in
    let v = rebuilt g.boxes h.boxes g.root kept look fresh p.0 m in
    let made : (n : Node) → In n h.boxes → fresh n.id ≡ true → HasForm h.boxes g.root T n = λ n i x. form n i v x in
    (sound-checked h (numbers-once h.boxes v.ordered)).1
    (subst (λ r. Sound h.boxes r) (sym e) v, typed-rebuilt g.boxes h.boxes g.root kept look fresh p.0 m p.1 p.2 T same made, subst (λ r. Shaped h.boxes r) (sym e) (shaped-rebuilt g.boxes h.boxes g.root kept look fresh p.0 m p.1 p.2 T same made)))
