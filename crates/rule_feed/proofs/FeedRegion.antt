-- The boxes that the fed box reaches: what they look up, and that they are reached by one quantifier alone.
use Rattle.std.proofs.Common.{ℕ, zero, suc, ◌==◌, ◌≡◌, ◌||◌, ◌≤◌, ◌<◌, cond, Bool, true, false, List, ◌∷◌, ◌++◌, map, Some, refl, sym, ap, subst, ◌∙◌, eqb-true, inl, inr, arith}
use Rattle.std.specs.List.{list_any}
use Rattle.std.proofs.lemmas.Bool.{cases_Bool, eq-eqb, or_cases, or_left, or_right}
use Rattle.qgm_core.specs.Boxes.{has_box, ids_of, is_quant, overs_in, owns, width}
use Rattle.list_laws.specs.Lists.{In, first, times}
use Rattle.qgm_core.specs.declared.node.Node.{Node}
use Rattle.qgm_core.specs.declared.owned.OwnedQuant.{OwnedQuant}
use Rattle.qgm_core.proofs.Reaching.{reached-reaches}
use Rattle.qgm_meaning.specs.Scope.{introduces, loose, put_node}
use Rattle.qgm_meaning.specs.Searches.{binds, binds_cond, names, names_cond}
use Rattle.qgm_meaning.specs.Tags.{columns_from}
use Rattle.qgm_edit_laws.specs.Graph.{Sound}
use Rattle.qgm_edit_laws.specs.Placed.{place}
use Rattle.qgm_edit_laws.proofs.AnyPut.{conds-names, heads-names}
use Rattle.qgm_edit_laws.proofs.Compact.{Drops, reaches}
use Rattle.qgm_edit_laws.proofs.Edits.{split-once}
use Rattle.qgm_edit_laws.proofs.Ranks.{place-under}
use Rattle.qgm_edit_laws.proofs.Scope.{bound-owned, climb, one-owner, one-parent}
use Rattle.qgm_edit_laws.proofs.Scoped.{few-ids}
use Rattle.qgm_edit_laws.proofs.Turns.{first-own, split-in}
use Rattle.rule_feed.specs.Feed.{Numbers, fed_below, fed_node, fed_owner, how_many, inside, named_below}
use Rattle.rule_feed.specs.FeedLaws.{FeedsOne}
use Rattle.rule_feed.proofs.FeedLists.{below-reach}
use Rattle.list_laws.proofs.Counting.{times-in}
use Rattle.list_laws.proofs.Membership.{any-from, any-none, eq-false-sym, eq-itself, in-append, in-left, in-right, other}
use Rattle.list_laws.proofs.Booleans.{clash}

module _ (xs ys : List Node) (root : ℕ) (w : Sound (xs ++ ys) root) (b s c : Node) (rp ri : OwnedQuant) (x : Numbers) (m : FeedsOne xs ys root b s c rp ri x) where
  abbrev pub bs : List Node
  bs = xs ++ ys

  abbrev pub p : ℕ
  p = rp.id

  abbrev pub i : ℕ
  i = ri.id

  abbrev pub named : ℕ → Bool
  named = named_below (xs ++ ys) c.id rp.id

  abbrev pub ins : ℕ → Bool
  ins = inside (xs ++ ys) c.id

  abbrev pub wd : ℕ
  wd = width s

  abbrev pub n : ℕ
  n = how_many (named_below (xs ++ ys) c.id rp.id) 1 (width s)

  abbrev pub v : ℕ
  v = width c

  pub in-b : In b (xs ++ ys)
  in-b = in-left b xs ys m.in_b

  pub in-s : In s (xs ++ ys)
  in-s = in-right s xs ys m.in_s

  pub in-c : In c (xs ++ ys)
  in-c = in-right c xs ys m.in_c

  pub drops : Drops ins bs c.id
  drops = reaches bs c.id w.ordered

  pub own : (y : Node) (r : OwnedQuant) → In r y.quants → owns r.id y ≡ true
  own y r j = any-from (is_quant r.id) r y.quants j (eq-itself r.id)

  pub few : (y : Node) (q : ℕ) → In y bs → times q (ids_of y) ≤ 1
  few y q j = few-ids bs y q (w.once q) j

  pub b-above-c : place bs b.id < place bs c.id
  b-above-c = subst (λ z. place bs b.id < place bs z) m.over_c (place-under bs b ri w.ordered in-b m.owned_i)

  -- c doesn't reach b
  pub ins-b : ins b.id ≡ false
  ins-b = elim (cases_Bool (ins b.id)) [
    | inr f ↦ f
    | inl t ↦ absurd (let u = below-reach bs w.ordered c.id b.id ((reached-reaches bs w.ordered c.id b.id).0 t) in let z = b-above-c in omega arith)
  ]

  pub not-b : (y : Node) → ins y.id ≡ true → b ≡ y → ⊥
  not-b y t e = clash (ins b.id) (subst (λ (z : Node). ins z.id ≡ true) (sym e) t) ins-b

  -- two quantifiers of b
  pub apart-ids : (i == p) ≡ false
  apart-ids = elim (cases_Bool (i == p)) [
    | inr f ↦ f
    | inl t ↦ absurd (
        let e : i ≡ p = eqb-true i p t in
        let one = first-own ri b.quants (few b ri.id in-b) m.owned_i in
        let two = first-own rp b.quants (few b rp.id in-b) m.owned_p in
        let same : Some ri ≡ Some rp = sym one ∙ ap (λ z. first (is_quant z) b.quants) e ∙ two in
        let quants : ri ≡ rp = cc in
        let boxes : c.id ≡ s.id = sym m.over_c ∙ ap (λ (r : OwnedQuant). r.over) quants ∙ m.over_s in
        clash (loose bs c.id p) m.opened (ap (λ z. loose bs z p) boxes ∙ m.closed p))
  ]

  pub used-c : times c.id (overs_in bs) ≡ 1
  used-c = w.used c.id p m.opened

  -- what is looked up where c reaches, and is owned where it doesn't, is looked up in c
  pub climb-by : (k z q : ℕ) → place bs z < k → ins z ≡ true → loose bs z q ≡ true → ((y : Node) → In y bs → ins y.id ≡ true → owns q y ≡ false) → loose bs c.id q ≡ true
  climb-by zero z q l t h out = absurd (omega arith)
  climb-by (suc k) z q l t h out = elim (drops.under z t) [
    | inl e ↦ subst (λ y. loose bs y q ≡ true) e h
    | inr u ↦ (
        let r = u.1.1.1.0 in
        let over : r.over ≡ z = u.1.1.1.1.1 in
        let up : place bs u.0.id < place bs z = subst (λ y. place bs u.0.id < place bs y) over (place-under bs u.0 r w.ordered u.1.0 u.1.1.1.1.0) in
        elim (climb bs root w u.0 r q u.1.0 u.1.1.1.1.0 (subst (λ y. loose bs y q ≡ true) (sym over) h)) [
          | inl a ↦ absurd (clash (owns q u.0) (bound-owned q u.0.quants a.1) (out u.0 u.1.0 u.1.1.0))
          | inr a ↦ climb-by k u.0.id q (omega arith) u.1.1.0 a out
        ])
  ]

  pub climb-in : (z q : ℕ) → ins z ≡ true → loose bs z q ≡ true → ((y : Node) → In y bs → ins y.id ≡ true → owns q y ≡ false) → q ≡ p
  climb-in z q t h out = m.alone q (climb-by (suc (place bs z)) z q (omega arith) t h out)

  -- what b owns no box owns that c reaches
  pub owned-out : (q : ℕ) → owns q b ≡ true → (y : Node) → In y bs → ins y.id ≡ true → owns q y ≡ false
  owned-out q o y j t = elim (cases_Bool (owns q y)) [ inr f ↦ f | inl u ↦ absurd (not-b y t (one-owner bs root w q b y in-b j o u)) ]

  pub ins-i : (z : ℕ) → ins z ≡ true → loose bs z i ≡ false
  ins-i z t = elim (cases_Bool (loose bs z i)) [
    | inr f ↦ f
    | inl h ↦ absurd (clash (i == p) (eq-eqb i p (climb-in z i t h (owned-out i (own b ri m.owned_i)))) apart-ids)
  ]

  -- a box that c reaches, under a quantifier of a box that it doesn't reach, looks nothing up; that of b beside i
  pub out-closed : (y : Node) (r : OwnedQuant) → In y bs → In r y.quants → ins y.id ≡ false → ((y ≡ b) → (r.id == i) ≡ false) → ins r.over ≡ true → (q : ℕ) → loose bs r.over q ≡ false
  out-closed y r j k out other t q = elim (cases_Bool (loose bs r.over q)) [
    | inr f ↦ f
    | inl h ↦ absurd (
        let one = w.used r.over q h in
        elim (drops.under r.over t) [
          | inr u ↦ (
              let e : y ≡ u.0 = one-parent bs root w r.over y u.0 r u.1.1.1.0 (omega arith) j u.1.0 k u.1.1.1.1.0 refl u.1.1.1.1.1 in
              clash (ins y.id) (subst (λ (z : Node). ins z.id ≡ true) (sym e) u.1.1.0) out)
          | inl e ↦ (
              let uc = used-c in
              let same : y ≡ b = one-parent bs root w c.id y b r ri (omega arith) j in-b k m.owned_i e m.over_c in
              let rb : In r b.quants = subst (λ (z : Node). In r z.quants) same k in
              let sp = split-in ri b.quants m.owned_i in
              let few-over : times ri.over (map (λ (r : OwnedQuant). r.over) (sp.0 ++ ri ∷ sp.1.0)) ≤ 1 =
              subst (λ z. times ri.over (map (λ (r : OwnedQuant). r.over) z) ≤ 1) sp.1.1 (
              let le : times ri.over (map (λ (r : OwnedQuant). r.over) b.quants) ≤ times ri.over (overs_in bs) = times-in (λ (n : Node). map (λ (r : OwnedQuant). r.over) n.quants) ri.over b bs in-b in
              let eq : times ri.over (overs_in bs) ≡ 1 = ap (λ z. times z (overs_in bs)) m.over_c ∙ used-c in omega arith) in
              elim (in-append r sp.0 (ri ∷ sp.1.0) (subst (λ z. In r z) sp.1.1 rb)) [
                | inl a ↦ clash (r.over == ri.over) (eq-eqb r.over ri.over (e ∙ sym m.over_c)) (split-once (λ (r : OwnedQuant). r.over) sp.0 ri sp.1.0 few-over r (inl a))
                | inr a ↦ elim a [
                  | inl z ↦ clash (r.id == i) (eq-eqb r.id i (ap (λ (r : OwnedQuant). r.id) (sym z))) (other same)
                  | inr z ↦ clash (r.over == ri.over) (eq-eqb r.over ri.over (e ∙ sym m.over_c)) (split-once (λ (r : OwnedQuant). r.over) sp.0 ri sp.1.0 few-over r (inr z))
                ]
              ])
        ])
  ]

  -- a box of the graph isn't a new one
  pub old-d : (z : ℕ) → has_box bs z ≡ true → (z == x.d) ≡ false
  old-d z h = eq-false-sym x.d z (other (has_box bs) x.d z m.new_d h)

  pub old-m : (z : ℕ) → has_box bs z ≡ true → (z == x.m) ≡ false
  old-m z h = eq-false-sym x.m z (other (has_box bs) x.m z m.new_m h)

  -- what a node introduces it owns
  pub introduced-own : (y : Node) → In y bs → (q : ℕ) → introduces y q ≡ true → owns q y ≡ true
  introduced-own y j q h = elim (or_cases (owns q y) (list_any (binds q) y.parts.head || list_any (binds_cond q) y.parts.conds.items) h) [
    | inl o ↦ o
    | inr a ↦ (w.own_nodes y j q (elim (or_cases (list_any (binds q) y.parts.head) (list_any (binds_cond q) y.parts.conds.items) a) [
      | inl u ↦ or_left (list_any (names q) y.parts.head) (list_any (names_cond q) y.parts.conds.items) (heads-names q y.parts.head u)
      | inr u ↦ or_right (list_any (names q) y.parts.head) (list_any (names_cond q) y.parts.conds.items) (conds-names q y.parts.conds.items u)
    ])).0
  ]

  pub not-new : (q : ℕ) → list_any (owns q) bs ≡ false → (y : Node) → In y bs → (z : ℕ) → owns z y ≡ true → (z == q) ≡ false
  not-new q h y j z o = elim (cases_Bool (z == q)) [
    | inr f ↦ f
    | inl t ↦ absurd (clash (owns q y) (subst (λ k. owns k y ≡ true) (eqb-true z q t) o) (any-none (owns q) y bs h j))
  ]

  abbrev pub g : Node → Node
  g = fed_node (xs ++ ys) b s c rp ri x

  pub g-b : (y : Node) → (y.id == b.id) ≡ true → g y ≡ fed_owner named p ri x.d wd y
  g-b y t = ap (λ (z : Bool). cond z (fed_owner named p ri x.d wd y) (cond (ins y.id) (fed_below named c.id p x.dm wd y) (put_node i (columns_from i (suc n) v) y))) t

  pub g-in : (y : Node) → (y.id == b.id) ≡ false → ins y.id ≡ true → g y ≡ fed_below named c.id p x.dm wd y
  g-in y t u =
      ap (λ (z : Bool). cond z (fed_owner named p ri x.d wd y) (cond (ins y.id) (fed_below named c.id p x.dm wd y) (put_node i (columns_from i (suc n) v) y))) t
      ∙ ap (λ (z : Bool). cond z (fed_below named c.id p x.dm wd y) (put_node i (columns_from i (suc n) v) y)) u

  pub g-out : (y : Node) → (y.id == b.id) ≡ false → ins y.id ≡ false → g y ≡ put_node i (columns_from i (suc n) v) y
  g-out y t u =
      ap (λ (z : Bool). cond z (fed_owner named p ri x.d wd y) (cond (ins y.id) (fed_below named c.id p x.dm wd y) (put_node i (columns_from i (suc n) v) y))) t
      ∙ ap (λ (z : Bool). cond z (fed_below named c.id p x.dm wd y) (put_node i (columns_from i (suc n) v) y)) u

  pub g-id : (y : Node) → (g y).id ≡ y.id
  g-id y = elim (cases_Bool (y.id == b.id)) [
    | inl t ↦ ap (λ (z : Node). z.id) (g-b y t)
    | inr t ↦ elim (cases_Bool (ins y.id)) [ inl u ↦ ap (λ (z : Node). z.id) (g-in y t u) | inr u ↦ ap (λ (z : Node). z.id) (g-out y t u) ]
  ]
