-- What is looked up, and by what it is bounded.
use Rattle.std.proofs.Common.{ℕ, suc, zero, ◌==◌, ◌≡◌, ◌&&◌, ◌||◌, ◌≤◌, ◌<◌, cond, Bool, true, false, List, [], ◌∷◌, take, Some, refl, sym, ap, ap₂, subst, ◌∙◌, eqb-true, ◌⊎◌, inl, inr, arith}
use Rattle.std.specs.List.{list_any}
use Rattle.std.proofs.lemmas.Bool.{and_parts, cases_Bool, or_cases, or_from, or_left, or_parts, or_right}
use Rattle.row_bag.specs.declared.tables.Table.{Table}
use Rattle.qgm_core.specs.declared.node.Node.{Node}
use Rattle.qgm_core.specs.declared.owned.OwnedQuant.{OwnedQuant}
use Rattle.qgm_core.specs.declared.kinds.BoxKind.{BoxKind}
use Rattle.qgm_core.specs.declared.kinds.BoxKind.TheVariants.{Base, Select, Group, SetOp, OuterJoin}
use Rattle.qgm_core.specs.Boxes.{Ordered, has_box, is_box, is_quant, owns, overs_of, ids_of, overs_in}
use Rattle.qgm_core.specs.Kinds.{is_F}
use Rattle.list_laws.specs.Lists.{first, In, times}
use Rattle.qgm_meaning.specs.Laws.{GivesBack}
use Rattle.qgm_meaning.specs.Meaning.{Family, bag_in, rows_of}
use Rattle.qgm_meaning.specs.Scope.{loose, loose_by, loose_each, loose_of, read_by, under_any}
use Rattle.qgm_terms.specs.Wanted.{reads, reads_cond}
use Rattle.qgm_meaning.specs.Values.{Environment}
use Rattle.qgm_meaning.proofs.ExistsJoined.{inner}
use Rattle.qgm_meaning.proofs.Ranked.{GivenBack, only-rank}
use Rattle.qgm_meaning.proofs.Within.{loose-local, loose-unfold}
use Rattle.qgm_edit_laws.specs.Graph.{binds_row, BareBy, Sound}
use Rattle.qgm_edit_laws.proofs.Ranks.{place, place-under}
use Rattle.std.specs.Prelude as p
use Rattle.qgm_meaning.proofs.Unfold as u
use Rattle.list_laws.proofs.Booleans.{clash, neither-right}
use Rattle.qgm_core.proofs.Reaching.{in-has}
use Rattle.list_laws.proofs.Counting.{in-times, times-map, times-once, times-some}
use Rattle.list_laws.proofs.Membership.{any-from, any-in, eq-itself, other}

-- ---- the laws of box_meaning, of boxes that stand in a list

pub in-first : (n : Node) (ns : List Node) → Ordered ns → In n ns → first (is_box n.id) ns ≡ Some n
in-first n [] o i = elim i [ ]
in-first n (m ∷ ns) o i = elim i [
  | inl e ↦ ap (λ (t : Bool). cond t (Some m) (first (is_box n.id) ns)) (subst (λ (z : Node). (m.id == z.id) ≡ true) e (eq-itself m.id)) ∙ ap Some e
  | inr j ↦ ap (λ (t : Bool). cond t (Some m) (first (is_box n.id) ns)) (other (has_box ns) m.id n.id o.0 (in-has n ns j)) ∙ in-first n ns o.2 j
]

pub unfold-bag : (tables : List Table) (ns : List Node) (n : Node) → Ordered ns → In n ns → (env : Environment) → bag_in tables ns n.id env ≡ rows_of tables n (bag_in tables ns) env
unfold-bag tables ns n o i env = u.unfold-bag tables ns n.id n env o (in-first n ns o i)

pub unfold-loose : (ns : List Node) (n : Node) → Ordered ns → In n ns → loose ns n.id ≡ loose_of n (loose ns)
unfold-loose ns n o i = loose-unfold ns n.id n o (in-first n ns o i)

pub only-bag : (tables : List Table) (f : Family) (ns : List Node) → Ordered ns → ((n : Node) → In n ns → (env : Environment) → rows_of tables n f env ≡ f n.id env) → (b : ℕ) → has_box ns b ≡ true → (env : Environment) → bag_in tables ns b env ≡ f b env
only-bag tables f ns o s b h env = u.only tables f ns o (back ns s) b h env
  where
    back : (ks : List Node) → ((n : Node) → In n ks → (env : Environment) → rows_of tables n f env ≡ f n.id env) → GivesBack tables f ks
    back [] s = tt
    back (n ∷ ks) s = (s n (inl refl), back ks (λ m i. s m (inr i)))

pub only-loose : (f : ℕ → ℕ → Bool) (ns : List Node) → Ordered ns → ((n : Node) → In n ns → loose_of n f ≡ f n.id) → (b : ℕ) → has_box ns b ≡ true → loose ns b ≡ f b
only-loose f ns o s b h = only-rank (λ q. false) loose_of loose-local f ns o (back ns s) b h
  where
    back : (ks : List Node) → ((n : Node) → In n ks → loose_of n f ≡ f n.id) → GivenBack (λ q. false) loose_of loose-local f ks
    back [] s = tt
    back (n ∷ ks) s = (s n (inl refl), back ks (λ m i. s m (inr i)))

-- ---- bounds

-- what each box keeps to, where those below it do, bounds what is looked up
pub loose-within : (L : ℕ → ℕ → Type 0) (bs : List Node) → ((n : Node) → In n bs → (under : ℕ → ℕ → Bool) → ((b q : ℕ) → under b q ≡ true → L b q) → (q : ℕ) → loose_of n under q ≡ true → L n.id q)
    → (b q : ℕ) → loose bs b q ≡ true → L b q
loose-within L [] s b q h = absurd (let z : ⊥ = cc in z)
loose-within L (n ∷ ns) s b q h = elim (cases_Bool (n.id == b)) [
  | inl t ↦ subst (λ z. L z q) (eqb-true n.id b t) (s n (inl refl) (loose ns) (loose-within L ns (λ m i. s m (inr i))) q (sym (ap (λ (t : Bool). cond t (loose_of n (loose ns)) (loose ns b) q) t) ∙ h))
  | inr f ↦ loose-within L ns (λ m i. s m (inr i)) b q (sym (ap (λ (t : Bool). cond t (loose_of n (loose ns)) (loose ns b) q) f) ∙ h)
]

-- what is looked up is looked up in a box of the graph
pub loose-held : (bs : List Node) (b q : ℕ) → loose bs b q ≡ true → has_box bs b ≡ true
loose-held bs b q h = loose-within (λ b q. has_box bs b ≡ true) bs (λ n i under k q t. in-has n bs i) b q h

-- a box reads q itself, or one below it looks it up
abbrev pub touches : Node → (ℕ → ℕ → Bool) → ℕ → Bool
touches n under q = read_by n q || under_any n.quants under q

-- what is looked up below a box, and isn't bound by it as a select, it looks up
pub climb-by : (kind : BoxKind) (n : Node) (look : ℕ → ℕ → Bool) (q : ℕ) → BareBy kind n → (kind ≡ Select → binds_row q n.quants ≡ false) → under_any n.quants look q ≡ true → loose_by kind n look q ≡ true
climb-by (Base name) n look q none f t = absurd (let z : under_any [] look q ≡ true = subst (λ rs. under_any rs look q ≡ true) none.0 t in let y : ⊥ = cc in y)
climb-by Select n look q none f t = elim (cases_Bool (loose_each n.quants n look q)) [
  | inl e ↦ e
  | inr e ↦ absurd (clash (under_any n.quants look q) t (neither-right (read_by n q) (under_any n.quants look q) (inner n look q n.quants (f refl) e)))
]
climb-by (Group k) n look q none f t = or_left (under_any n.quants look q) _ t
climb-by (SetOp form w) n look q none f t = t
climb-by OuterJoin n look q none f t = or_left (under_any n.quants look q) _ t

take-none : (q k : ℕ) (rs : List OwnedQuant) → list_any (is_quant q) rs ≡ false → list_any (is_quant q) (take k rs) ≡ false
take-none q zero rs h = refl
take-none q (suc k) [] h = refl
take-none q (suc k) (r ∷ rs) h = let n = or_parts (is_quant q r) (list_any (is_quant q) rs) h in or_from (is_quant q r) (list_any (is_quant q) (take k rs)) n.0 (take-none q k rs n.1)

pub bound-owned : (q : ℕ) (rs : List OwnedQuant) → binds_row q rs ≡ true → list_any (is_quant q) rs ≡ true
bound-owned q rs h = let x = any-in (λ r. is_F r.kind && is_quant q r) rs h in any-from (is_quant q) x.0 rs x.1.0 (and_parts (is_F x.0.kind) (is_quant q x.0) x.1.1).1

pub owned-times : (q : ℕ) (n : Node) → owns q n ≡ true → 1 ≤ times q (ids_of n)
owned-times q n h = let x = any-in (is_quant q) n.quants h in subst (λ z. 1 ≤ times z (ids_of n)) (eqb-true x.0.id q x.1.1) (in-times (λ (r : OwnedQuant). r.id) x.0 n.quants x.1.0)

-- what a box touches it owns or looks up
pub touched-by : (kind : BoxKind) (n : Node) (look : ℕ → ℕ → Bool) (q : ℕ) → BareBy kind n → owns q n ≡ false → touches n look q ≡ true → loose_by kind n look q ≡ true
touched-by (Base name) n look q bare f t = absurd (let z : touches n look q ≡ false = ap₂ (λ h c. (list_any (reads q) h || list_any (reads_cond q) c) || under_any n.quants look q) bare.1 bare.2 ∙ ap (λ rs. under_any rs look q) bare.0 in clash (touches n look q) t z)
touched-by Select n look q bare f t = elim (cases_Bool (loose_each n.quants n look q)) [
  | inl e ↦ e
  | inr e ↦ absurd (clash (touches n look q) t (inner n look q n.quants (unbound n.quants f) e))
]
  where
    unbound : (rs : List OwnedQuant) → list_any (is_quant q) rs ≡ false → binds_row q rs ≡ false
    unbound rs f = elim (cases_Bool (binds_row q rs)) [ inr g ↦ g | inl g ↦ absurd (clash (list_any (is_quant q) rs) (bound-owned q rs g) f) ]
touched-by (Group k) n look q bare f t = elim (or_cases (read_by n q) (under_any n.quants look q) t) [
  | inr u ↦ or_left (under_any n.quants look q) _ u
  | inl u ↦ or_right (under_any n.quants look q) _ (ap₂ (λ x y. p.not x && y) (take-none q 1 n.quants f) u)
]
touched-by (SetOp form w) n look q bare f t = ap₂ (λ h c. (list_any (reads q) h || list_any (reads_cond q) c) || under_any n.quants look q) (sym bare.0) (sym bare.1) ∙ t
touched-by OuterJoin n look q bare f t = elim (or_cases (read_by n q) (under_any n.quants look q) t) [
  | inr u ↦ or_left (under_any n.quants look q) _ u
  | inl u ↦ or_right (under_any n.quants look q) _ (ap₂ (λ x y. p.not x && y) (take-none q 2 n.quants f) u)
]

-- a select, or a box of another kind
is_select : (k : BoxKind) → (k ≡ Select) ⊎ (k ≡ Select → ⊥)
is_select Select = inl refl
is_select (Base name) = inr (λ e. let z : ⊥ = cc in z)
is_select (Group k) = inr (λ e. let z : ⊥ = cc in z)
is_select (SetOp form w) = inr (λ e. let z : ⊥ = cc in z)
is_select OuterJoin = inr (λ e. let z : ⊥ = cc in z)

module _ (bs : List Node) (root : ℕ) (w : Sound bs root) where
  pub one-owner : (q : ℕ) (n m : Node) → In n bs → In m bs → owns q n ≡ true → owns q m ≡ true → n ≡ m
  one-owner q n m i j h k = times-once ids_of q n m bs (w.once q) i j (owned-times q n h) (owned-times q m k)

  pub parent : (b q : ℕ) → loose bs b q ≡ true → (n : Node) × (In n bs × ((r : OwnedQuant) × (In r n.quants × (r.over ≡ b))))
  parent b q h =
      let one : times b (overs_in bs) ≡ 1 = w.used b q h in
      let x = times-some overs_of b bs (omega arith) in
      (x.0, (x.1.0, times-map (λ (r : OwnedQuant). r.over) b x.0.quants x.1.1))

  pub one-parent : (b : ℕ) (n m : Node) (r s : OwnedQuant) → times b (overs_in bs) ≤ 1 → In n bs → In m bs → In r n.quants → In s m.quants → r.over ≡ b → s.over ≡ b → n ≡ m
  one-parent b n m r s u i j k l e f =
      times-once overs_of b n m bs u i j
      (subst (λ z. 1 ≤ times z (overs_of n)) e (in-times (λ (r : OwnedQuant). r.over) r n.quants k))
      (subst (λ z. 1 ≤ times z (overs_of m)) f (in-times (λ (r : OwnedQuant). r.over) s m.quants l))

  -- what is looked up under a box is an F quantifier of it, as a Select, or is looked up in it
  pub climb : (n : Node) (r : OwnedQuant) (q : ℕ) → In n bs → In r n.quants → loose bs r.over q ≡ true → ((n.parts.kind ≡ Select) × (binds_row q n.quants ≡ true)) ⊎ (loose bs n.id q ≡ true)
  climb n r q i j h = elim (cases_Bool (binds_row q n.quants)) [
    | inr f ↦ inr (up (λ e. f))
    | inl t ↦ elim (is_select n.parts.kind) [ inl e ↦ inl (e, t) | inr differs ↦ inr (up (λ e. absurd (differs e))) ]
  ]
    where
      up : (n.parts.kind ≡ Select → binds_row q n.quants ≡ false) → loose bs n.id q ≡ true
      up f = ap (λ (k : ℕ → Bool). k q) (unfold-loose bs n w.ordered i) ∙ climb-by n.parts.kind n (loose bs) q (w.bare n i) f (any-from (λ (r : OwnedQuant). loose bs r.over q) r n.quants j h)

  pub touched : (n : Node) (q : ℕ) → In n bs → touches n (loose bs) q ≡ true → (owns q n ≡ true) ⊎ (loose bs n.id q ≡ true)
  touched n q i t = elim (cases_Bool (owns q n)) [
    | inl o ↦ inl o
    | inr o ↦ inr (ap (λ (k : ℕ → Bool). k q) (unfold-loose bs n w.ordered i) ∙ touched-by n.parts.kind n (loose bs) q (w.bare n i) o t)
  ]

  above-by : (k b q : ℕ) → place bs b < k → loose bs b q ≡ true → (n : Node) × (In n bs × ((binds_row q n.quants ≡ true) × ((n.parts.kind ≡ Select) × (place bs n.id < place bs b))))
  above-by zero b q f h = absurd (omega arith)
  above-by (suc k) b q f h =
      let p = parent b q h in
      let r = p.1.1.0 in
      let up : place bs p.0.id < place bs b = subst (λ z. place bs p.0.id < place bs z) p.1.1.1.1 (place-under bs p.0 r w.ordered p.1.0 p.1.1.1.0) in
      elim (climb p.0 r q p.1.0 p.1.1.1.0 (subst (λ z. loose bs z q ≡ true) (sym p.1.1.1.1) h)) [
        | inl t ↦ (p.0, (p.1.0, (t.1, (t.0, up))))
        | inr t ↦ (
            let x = above-by k p.0.id q (omega arith) t in
            let less : place bs x.0.id < place bs p.0.id = x.1.1.1.1 in
            (x.0, (x.1.0, (x.1.1.0, (x.1.1.1.0, (omega arith))))))
      ]

  -- WHAT IS LOOKED UP IS BOUND ABOVE
  pub bound-above : (b q : ℕ) → loose bs b q ≡ true → (n : Node) × (In n bs × ((binds_row q n.quants ≡ true) × ((n.parts.kind ≡ Select) × (place bs n.id < place bs b))))
  bound-above b q h = above-by (suc (place bs b)) b q (omega arith) h

  pub above-owner : (b q : ℕ) → loose bs b q ≡ true → (n : Node) → In n bs → owns q n ≡ true → place bs n.id < place bs b
  above-owner b q h n i s = let x = bound-above b q h in subst (λ (z : Node). place bs z.id < place bs b) (one-owner q x.0 n x.1.0 i (bound-owned q x.0.quants x.1.1.0) s) x.1.1.1.1

  -- the root looks nothing up
  pub closed-root : (q : ℕ) → loose bs root q ≡ true → ⊥
  closed-root q h = let a = w.used root q h in let b = w.top in omega arith
