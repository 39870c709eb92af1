-- Scope by bounds: what a bound gives, and that what a sound graph looks up is one.
use Rattle.std.proofs.Common.{ℕ, ◌≡◌, ◌&&◌, ◌||◌, ◌≤◌, cond, not, Bool, true, false, List, [], ◌∷◌, ◌++◌, take, refl, sym, ap, subst, ◌∙◌, inl, inr, arith}
use Rattle.std.specs.List.{list_any}
use Rattle.std.proofs.lemmas.Bool.{and_parts, cases_Bool, not-true, or_cases, or_left, or_right}
use Rattle.qgm_core.specs.declared.node.Node.{Node}
use Rattle.qgm_core.specs.declared.owned.OwnedQuant.{OwnedQuant}
use Rattle.qgm_core.specs.declared.kinds.BoxKind.{BoxKind}
use Rattle.qgm_core.specs.declared.kinds.BoxKind.TheVariants.{Base, Select, Group, SetOp, OuterJoin}
use Rattle.qgm_core.specs.Boxes.{Ordered, is_quant, owns, ids_of, overs_in, ids_in}
use Rattle.qgm_core.specs.Kinds.{is_F}
use Rattle.list_laws.specs.Lists.{In, times}
use Rattle.qgm_meaning.specs.Scope.{loose, loose_by, loose_each, loose_of, looks_found, read_beyond, read_by, under_any}
use Rattle.qgm_edit_laws.specs.Checked.{own_seen}
use Rattle.qgm_edit_laws.specs.Graph.{BareBy, Sound, binds_row}
use Rattle.qgm_edit_laws.specs.Scoped.{Bounds, Local, NearlySound, Scoped, shows_by}
use Rattle.qgm_edit_laws.proofs.Checked.{looks-up}
use Rattle.qgm_edit_laws.proofs.Looks.{each-cases}
use Rattle.qgm_edit_laws.proofs.Scope.{climb-by, loose-within, unfold-loose}
use Rattle.qgm_edit_laws.proofs.Turns.{any-parts, each-turn, first-own, split-in}
use Rattle.list_laws.proofs.Counting.{times-in}
use Rattle.list_laws.proofs.Membership.{any-from, any-in, in-right}
use Rattle.list_laws.proofs.Booleans.{clash}

pub few-ids : (bs : List Node) (n : Node) (q : ℕ) → times q (ids_in bs) ≤ 1 → In n bs → times q (ids_of n) ≤ 1
few-ids bs n q o i = let a = times-in ids_of q n bs i in omega arith

right-of : (a b : Bool) → a ≡ false → (a || b) ≡ true → b ≡ true
right-of a b f t = elim (or_cases a b t) [ inl y ↦ absurd (clash a y f) | inr y ↦ y ]

append-none : (xs : List OwnedQuant) → xs ++ [] ≡ xs
append-none [] = refl
append-none (x ∷ xs) = ap (λ z. x ∷ z) (append-none xs)

-- ---- what a bound gives

module _ (look : ℕ → ℕ → Bool) (n : Node) (s : Scoped look n) (few : (q : ℕ) → times q (ids_of n) ≤ 1) (under : ℕ → ℕ → Bool) (hu : (b q : ℕ) → under b q ≡ true → look b q ≡ true) (q : ℕ) where
  at-split : (k : BoxKind) → n.parts.kind ≡ k → (done : List OwnedQuant) (r : OwnedQuant) (rest : List OwnedQuant) → n.quants ≡ done ++ r ∷ rest → shows_by k n.quants done r q ≡ false → under r.over q ≡ true → look n.id q ≡ true
  at-split k e done r rest split f t = right-of (shows_by n.parts.kind n.quants done r q) (look n.id q) (subst (λ z. shows_by z n.quants done r q ≡ false) (sym e) f) (s.under done r rest split q (hu r.over q t))

  by-read : (k : BoxKind) → n.parts.kind ≡ k → own_seen k n q ≡ false → read_by n q ≡ true → look n.id q ≡ true
  by-read k e f t = right-of (own_seen n.parts.kind n q) (look n.id q) (subst (λ z. own_seen z n q ≡ false) (sym e) f) (s.own q t)

  by-under : (k : BoxKind) → n.parts.kind ≡ k → ((done : List OwnedQuant) (r : OwnedQuant) (rest : List OwnedQuant) → n.quants ≡ done ++ r ∷ rest → shows_by k n.quants done r q ≡ false) → under_any n.quants under q ≡ true → look n.id q ≡ true
  by-under k e f t =
      let x = any-in (λ (r : OwnedQuant). under r.over q) n.quants t in
      let p = split-in x.0 n.quants x.1.0 in
      at-split k e p.0 x.0 p.1.0 p.1.1 (f p.0 x.0 p.1.0 p.1.1) x.1.1

  beyond : (k : ℕ) (kind : BoxKind) → n.parts.kind ≡ kind → own_seen kind n q ≡ list_any (is_quant q) (take k n.quants) → read_beyond (take k n.quants) (read_by n) q ≡ true → look n.id q ≡ true
  beyond k kind e o t = let ps = and_parts (not (list_any (is_quant q) (take k n.quants))) (read_by n q) t in by-read kind e (o ∙ not-true (list_any (is_quant q) (take k n.quants)) ps.0) ps.1

  in-turn : n.parts.kind ≡ Select → loose_each n.quants n under q ≡ true → look n.id q ≡ true
  in-turn k t = elim (each-cases n under q n.quants [] (subst (λ z. loose_each z n under q ≡ true) (sym (append-none n.quants)) t)) [
    | inl e ↦ (
        let r = e.1.0 in
        let j : In r n.quants = subst (λ z. In r z) (sym e.1.1.1.0) (in-right r e.0 (r ∷ e.1.1.0) (inl refl)) in
        at-split Select k e.0 r e.1.1.0 e.1.1.1.0 (subst (λ (f : Bool). cond f (binds_row q e.0) (binds_row q n.quants) ≡ false) (sym e.1.1.1.1.0) e.1.1.1.1.1.0)
        (subst (λ o. looks_found o under q ≡ true) (first-own r n.quants (few r.id) j) e.1.1.1.1.1.1))
    | inr e ↦ elim (or_cases (read_by n q) (under_any n.quants under q) e.1) [
      | inl a ↦ by-read Select k e.0 a
      | inr a ↦ by-under Select k (λ done r rest split. shown done r rest split e.0) a
    ]
  ]
    where
      shown : (done : List OwnedQuant) (r : OwnedQuant) (rest : List OwnedQuant) → n.quants ≡ done ++ r ∷ rest → binds_row q n.quants ≡ false → shows_by Select n.quants done r q ≡ false
      shown done r rest split f = elim (is_F r.kind) as (λ t. cond t (binds_row q done) (binds_row q n.quants) ≡ false) [
        | true ↦ (any-parts (λ r. is_F r.kind && is_quant q r) done (r ∷ rest) (subst (λ z. binds_row q z ≡ false) split f)).0
        | false ↦ f
      ]

  looks-by : (k : BoxKind) → n.parts.kind ≡ k → loose_by k n under q ≡ true → look n.id q ≡ true
  looks-by (Base name) e t = absurd (let z : ⊥ = cc in z)
  looks-by Select e t = in-turn e t
  looks-by (Group k) e t = elim (or_cases (under_any n.quants under q) (read_beyond (take 1 n.quants) (read_by n) q) t) [
    | inl a ↦ by-under (Group k) e (λ done r rest split. refl) a
    | inr a ↦ beyond 1 (Group k) e refl a
  ]
  looks-by (SetOp form w) e t = by-under (SetOp form w) e (λ done r rest split. refl) t
  looks-by OuterJoin e t = elim (or_cases (under_any n.quants under q) (read_beyond (take 2 n.quants) (read_by n) q) t) [
    | inl a ↦ by-under OuterJoin e (λ done r rest split. refl) a
    | inr a ↦ beyond 2 OuterJoin e refl a
  ]

  pub scoped-looks : loose_of n under q ≡ true → look n.id q ≡ true
  scoped-looks t = looks-by n.parts.kind refl t

-- what boxes look up is within the bound
pub bounded : (look : ℕ → ℕ → Bool) (bs : List Node) → ((q : ℕ) → times q (ids_in bs) ≤ 1) → ((n : Node) → In n bs → Scoped look n) → (b q : ℕ) → loose bs b q ≡ true → look b q ≡ true
bounded look bs once s = loose-within (λ b q. look b q ≡ true) bs (λ n i under hu q t. scoped-looks look n (s n i) (λ x. few-ids bs n x (once x) i) under hu q t)

-- a graph is nearly sound by any bound, and sound where what it bounds is used
module _ (look : ℕ → ℕ → Bool) (bs : List Node) (root : ℕ) (l : Local bs root) where
  none-where : (b q : ℕ) → (loose bs b q ≡ true → look b q ≡ true) → look b q ≡ false → loose bs b q ≡ false
  none-where b q h f = elim (cases_Bool (loose bs b q)) [ inr n ↦ n | inl t ↦ absurd (clash (look b q) (h t) f) ]

  pub sound-by : ((n : Node) → In n bs → Scoped look n) → ((n : Node) → In n bs → (q : ℕ) → owns q n ≡ true → look n.id q ≡ false) → ((b q : ℕ) → look b q ≡ true → times b (overs_in bs) ≡ 1) → Sound bs root
  sound-by s settled used =
      let h = bounded look bs l.once s in record {
        ordered = l.ordered;
        rooted = l.rooted;
        once = l.once;
        settled = λ n i q o. none-where n.id q (h n.id q) (settled n i q o);
        used = λ b q t. used b q (h b q t);
        top = l.top;
        fits = l.fits;
        own_nodes = l.own_nodes;
        bare = l.bare;
        arms = l.arms;
      }

-- ---- what a sound graph looks up bounds it

pub scoped-own : (bs : List Node) → Ordered bs → (n : Node) → In n bs → BareBy n.parts.kind n → (q : ℕ) → read_by n q ≡ true → (own_seen n.parts.kind n q || loose bs n.id q) ≡ true
scoped-own bs o n i bare q t = elim (cases_Bool (own_seen n.parts.kind n q)) [
  | inl y ↦ or_left (own_seen n.parts.kind n q) (loose bs n.id q) y
  | inr f ↦ or_right (own_seen n.parts.kind n q) (loose bs n.id q) (ap (λ (h : ℕ → Bool). h q) (unfold-loose bs n o i) ∙ looks-up bs o n.parts.kind n q bare t f)
]

module _ (bs : List Node) (o : Ordered bs) (once : (q : ℕ) → times q (ids_in bs) ≤ 1) (n : Node) (i : In n bs) (bare : BareBy n.parts.kind n) where
  under-own : (k : BoxKind) → n.parts.kind ≡ k → BareBy k n → (done : List OwnedQuant) (r : OwnedQuant) (rest : List OwnedQuant) → n.quants ≡ done ++ r ∷ rest → (q : ℕ) → loose bs r.over q ≡ true → (shows_by k n.quants done r q || loose bs n.id q) ≡ true
  under-own k e b done r rest split q t = elim (cases_Bool (shows_by k n.quants done r q)) [
    | inl y ↦ or_left (shows_by k n.quants done r q) (loose bs n.id q) y
    | inr f ↦ or_right (shows_by k n.quants done r q) (loose bs n.id q) (ap (λ (h : ℕ → Bool). h q) (unfold-loose bs n o i) ∙ ap (λ z. loose_by z n (loose bs) q) e ∙ up k b f)
  ]
    where
      j : In r n.quants
      j = subst (λ z. In r z) (sym split) (in-right r done (r ∷ rest) (inl refl))

      any : under_any n.quants (loose bs) q ≡ true
      any = any-from (λ (r : OwnedQuant). loose bs r.over q) r n.quants j t

      turn : (f : Bool) → is_F r.kind ≡ f → cond f (binds_row q done) (binds_row q n.quants) ≡ false → loose_each n.quants n (loose bs) q ≡ true
      turn true f g = subst (λ z. loose_each z n (loose bs) q ≡ true) (sym split) (each-turn n (loose bs) q done r rest f g (ap (λ o. looks_found o (loose bs) q) (first-own r n.quants (few-ids bs n r.id (once r.id) i) j) ∙ t))
      turn false f g = climb-by Select n (loose bs) q tt (λ e. g) any

      up : (k : BoxKind) → BareBy k n → shows_by k n.quants done r q ≡ false → loose_by k n (loose bs) q ≡ true
      up (Base name) b f = climb-by (Base name) n (loose bs) q b (λ e. absurd (let z : ⊥ = cc in z)) any
      up Select b f = turn (is_F r.kind) refl f
      up (Group keys) b f = climb-by (Group keys) n (loose bs) q b (λ e. absurd (let z : ⊥ = cc in z)) any
      up (SetOp form w) b f = climb-by (SetOp form w) n (loose bs) q b (λ e. absurd (let z : ⊥ = cc in z)) any
      up OuterJoin b f = climb-by OuterJoin n (loose bs) q b (λ e. absurd (let z : ⊥ = cc in z)) any

  pub scoped-by : Scoped (loose bs) n
  scoped-by = record { under = λ done r rest split q t. under-own n.parts.kind refl bare done r rest split q t; own = scoped-own bs o n i bare }

pub scoped-of : (bs : List Node) (root : ℕ) → Sound bs root → (n : Node) → In n bs → Scoped (loose bs) n
scoped-of bs root w n i = scoped-by bs w.ordered w.once n i (w.bare n i)

pub sound-of : (bs : List Node) (root : ℕ) → NearlySound bs root → ((b q : ℕ) → loose bs b q ≡ true → times b (overs_in bs) ≡ 1) → Sound bs root
sound-of bs root w used = record {
  ordered = w.local.ordered;
  rooted = w.local.rooted;
  once = w.local.once;
  settled = w.settled;
  used = used;
  top = w.local.top;
  fits = w.local.fits;
  own_nodes = w.local.own_nodes;
  bare = w.local.bare;
  arms = w.local.arms;
}

-- any bound shows that a graph is nearly sound
pub nearly-by : (look : ℕ → ℕ → Bool) (bs : List Node) (root : ℕ) → Local bs root → Bounds look bs root → NearlySound bs root
nearly-by look bs root l u =
    let h = bounded look bs l.once u.scoped in record {
      local = l;
      settled = λ n i q o. none-where look bs root l n.id q (h n.id q) (u.settled n i q o);
      few = λ b q t. u.few b q (h b q t);
      none_at_root = λ q. none-where look bs root l root q (h root q) (u.none_at_root q);
    }
