-- Dropping the boxes that the root doesn't reach keeps all.
use Rattle.std.proofs.Common.{ℕ, ◌≡◌, ◌≤◌, cond, Bool, true, false, List, [], ◌∷◌, ◌++◌, map, filter, refl, sym, ap, subst, ◌∙◌, ◌⊎◌, inl, inr, arith}
use Rattle.std.specs.List.{flat_map}
use Rattle.list_laws.specs.Lists.{holds, In, times}
use Rattle.qgm_core.specs.Free.{marked, reached}
use Rattle.qgm_core.specs.declared.node.Node.{Node}
use Rattle.qgm_core.specs.declared.owned.OwnedQuant.{OwnedQuant}
use Rattle.qgm_core.specs.Boxes.{Ordered, has_box, is_box, overs_in}
use Rattle.qgm_meaning.specs.Scope.{loose}
use Rattle.std.proofs.lemmas.Bool.{cases_Bool}
use Rattle.qgm_edit_laws.specs.Graph.{Sound}
use Rattle.qgm_edit_laws.specs.Scoped.{Local, NearlySound}
use Rattle.row_bag.specs.declared.tables.Table.{Table}
use Rattle.qgm_meaning.specs.Meaning.{bag_in}
use Rattle.qgm_meaning.specs.Values.{Environment}
use Rattle.qgm_edit_laws.proofs.Ranks.{has-in}
use Rattle.qgm_edit_laws.proofs.Scope.{only-bag, only-loose, unfold-bag, unfold-loose, loose-held, closed-root}
use Rattle.list_laws.proofs.Membership.{all-from, all-in, any-none, any-not, holds-in, in-append, in-holds, in-left, in-map}
use Rattle.qgm_core.proofs.Reaching.{closes, in-has, stays}
use Rattle.list_laws.proofs.Counting.{in-times, times-append, times-in}
use Rattle.list_laws.proofs.Booleans.{clash}

-- WHAT IS KEPT

-- the boxes whose numbers pass
abbrev pub kept : (ℕ → Bool) → List Node → List Node
kept keep ns = filter (λ n. keep n.id) ns

-- the boxes that the root reaches
abbrev pub reached_boxes : ℕ → List Node → List Node
reached_boxes root bs = kept (λ b. holds b (reached (root ∷ []) bs)) bs

pub in-kept : (keep : ℕ → Bool) (n : Node) (ns : List Node) → In n (kept keep ns) → In n ns × (keep n.id ≡ true)
in-kept keep n [] i = elim i [ ]
in-kept keep n (m ∷ ns) i = elim (keep m.id) as (λ t. keep m.id ≡ t → In n (cond t (m ∷ kept keep ns) (kept keep ns)) → In n (m ∷ ns) × (keep n.id ≡ true)) [
  | true ↦ λ t i. elim i [ inl e ↦ (inl e, subst (λ (z : Node). keep z.id ≡ true) e t) | inr j ↦ (let r = in-kept keep n ns j in (inr r.0, r.1)) ]
  | false ↦ λ t i. (let r = in-kept keep n ns i in (inr r.0, r.1))
] refl i

pub kept-in : (keep : ℕ → Bool) (n : Node) (ns : List Node) → In n ns → keep n.id ≡ true → In n (kept keep ns)
kept-in keep n [] i k = elim i [ ]
kept-in keep n (m ∷ ns) i k = elim (keep m.id) as (λ t. keep m.id ≡ t → In n (cond t (m ∷ kept keep ns) (kept keep ns))) [
  | true ↦ λ t. elim i [ inl e ↦ inl e | inr j ↦ inr (kept-in keep n ns j k) ]
  | false ↦ λ t. elim i [ inl e ↦ absurd (clash (keep n.id) k (subst (λ (z : Node). keep z.id ≡ false) e t)) | inr j ↦ kept-in keep n ns j k ]
] refl

pub times-kept : (f : Node → List ℕ) (x : ℕ) (keep : ℕ → Bool) (ns : List Node) → times x (flat_map f (kept keep ns)) ≤ times x (flat_map f ns)
times-kept f x keep [] = omega arith
times-kept f x keep (m ∷ ns) =
    let h = times-kept f x keep ns in
    let a = times-append x (f m) (flat_map f ns) in
    elim (keep m.id) as (λ t. times x (flat_map f (cond t (m ∷ kept keep ns) (kept keep ns))) ≤ times x (f m ++ flat_map f ns)) [
      | true ↦ (let b = times-append x (f m) (flat_map f (kept keep ns)) in omega arith)
      | false ↦ omega arith
    ]

pub has-kept : (keep : ℕ → Bool) (ns : List Node) (b : ℕ) → has_box ns b ≡ true → keep b ≡ true → has_box (kept keep ns) b ≡ true
has-kept keep ns b h k = let x = has-in b ns h in subst (λ z. has_box (kept keep ns) z ≡ true) x.1.1 (in-has x.0 (kept keep ns) (kept-in keep x.0 ns x.1.0 (subst (λ z. keep z ≡ true) (sym x.1.1) k)))

pub ordered-kept : (keep : ℕ → Bool) (ns : List Node) → Ordered ns → ((n : Node) (r : OwnedQuant) → In n ns → keep n.id ≡ true → In r n.quants → keep r.over ≡ true) → Ordered (kept keep ns)
ordered-kept keep [] o h = tt
ordered-kept keep (n ∷ ns) o h =
    let rest : Ordered (kept keep ns) = ordered-kept keep ns o.2 (λ m r i. h m r (inr i)) in
    elim (keep n.id) as (λ t. keep n.id ≡ t → Ordered (cond t (n ∷ kept keep ns) (kept keep ns))) [
      | true ↦ λ t. (
        any-not (is_box n.id) (kept keep ns) (λ y i. any-none (is_box n.id) y ns o.0 (in-kept keep y ns i).0),
        all-from (λ r. has_box (kept keep ns) r.over) n.quants (λ r i. has-kept keep ns r.over (all-in (λ r. has_box ns r.over) r n.quants o.1 i) (h n r (inl refl) t i)),
        rest,
      )
      | false ↦ λ t. rest
    ] refl

-- BOXES DROPPED: what is kept is closed, and each box that is kept is the root or stands under one that is kept
pub record Drops (keep : ℕ → Bool) (bs : List Node) (root : ℕ) : Type 0 where
  pub root_kept : keep root ≡ true
  pub closed : (n : Node) (r : OwnedQuant) → In n bs → keep n.id ≡ true → In r n.quants → keep r.over ≡ true
  pub under : (b : ℕ) → keep b ≡ true → (b ≡ root) ⊎ ((n : Node) × (In n bs × ((keep n.id ≡ true) × ((r : OwnedQuant) × (In r n.quants × (r.over ≡ b))))))

module _ (keep : ℕ → Bool) (bs : List Node) (root : ℕ) (w : NearlySound bs root) (d : Drops keep bs root) where
  abbrev ks : List Node
  ks = kept keep bs

  ordered-k : Ordered ks
  ordered-k = ordered-kept keep bs w.local.ordered d.closed

  loose-kept : (b : ℕ) → has_box ks b ≡ true → loose ks b ≡ loose bs b
  loose-kept b h = only-loose (loose bs) ks ordered-k (λ n i. sym (unfold-loose bs n w.local.ordered (in-kept keep n bs i).0)) b h

  kept-loose : (b q : ℕ) → loose ks b q ≡ true → loose bs b q ≡ true
  kept-loose b q l = sym (ap (λ (k : ℕ → Bool). k q) (loose-kept b (loose-held ks b q l))) ∙ l

  used-k : (b q : ℕ) → loose ks b q ≡ true → times b (overs_in ks) ≡ 1
  used-k b q l =
      let held = loose-held ks b q l in
      let x = has-in b ks held in
      let k : keep b ≡ true = subst (λ z. keep z ≡ true) x.1.1 (in-kept keep x.0 bs x.1.0).1 in
      let m : loose bs b q ≡ true = kept-loose b q l in
      let one = w.few b q m in
      let few = times-kept (λ (n : Node). map (λ (r : OwnedQuant). r.over) n.quants) b keep bs in
      elim (d.under b k) [
        | inl e ↦ absurd (clash (loose bs root q) (subst (λ z. loose bs z q ≡ true) e m) (w.none_at_root q))
        | inr n ↦ (
            let r = n.1.1.1.0 in
            let a : 1 ≤ times b (map (λ (r : OwnedQuant). r.over) n.0.quants) = subst (λ z. 1 ≤ times z (map (λ (r : OwnedQuant). r.over) n.0.quants)) n.1.1.1.1.1 (in-times (λ (r : OwnedQuant). r.over) r n.0.quants n.1.1.1.1.0) in
            let c = times-in (λ (n : Node). map (λ (r : OwnedQuant). r.over) n.quants) b n.0 ks (kept-in keep n.0 bs n.1.0 n.1.1.0) in
            omega arith)
      ]

  pub dropped-sound : Sound ks root
  dropped-sound = record {
    ordered = ordered-k;
    rooted = has-kept keep bs root w.local.rooted d.root_kept;
    once = λ q. (let a = times-kept (λ (n : Node). map (λ (r : OwnedQuant). r.id) n.quants) q keep bs in let b = w.local.once q in omega arith);
    settled = λ n i q o. ap (λ (k : ℕ → Bool). k q) (loose-kept n.id (in-has n ks i)) ∙ w.settled n (in-kept keep n bs i).0 q o;
    used = used-k;
    top = (let a = times-kept (λ (n : Node). map (λ (r : OwnedQuant). r.over) n.quants) root keep bs in let b = w.local.top in omega arith);
    fits = λ n i q k h. (λ a r c ia ir e ic f. w.local.fits n (in-kept keep n bs i).0 q k h a r c (in-kept keep a bs ia).0 ir e (in-kept keep c bs ic).0 f);
    own_nodes = λ n i. w.local.own_nodes n (in-kept keep n bs i).0;
    bare = λ n i. w.local.bare n (in-kept keep n bs i).0;
    arms = λ n m r i j k. w.local.arms n m r (in-kept keep n bs i).0 j (in-kept keep m bs k).0;
  }

  pub dropped-bag : (tables : List Table) (env : Environment) → bag_in tables ks root env ≡ bag_in tables bs root env
  dropped-bag tables env = only-bag tables (bag_in tables bs) ks ordered-k (λ n i env. sym (unfold-bag tables bs n w.local.ordered (in-kept keep n bs i).0 env)) root (has-kept keep bs root w.local.rooted d.root_kept) env

more : (b : ℕ) (marks : List ℕ) (n : Node) → In b marks → In b (marked marks n)
more b marks n i = elim (holds n.id marks) as (λ t. In b (cond t (marks ++ map (λ (r : OwnedQuant). r.over) n.quants) marks)) [ true ↦ in-left b marks (map (λ (r : OwnedQuant). r.over) n.quants) i | false ↦ i ]

-- a mark that a box set
by-mark : (b : ℕ) (marks : List ℕ) (n : Node) → In b (marked marks n) → In b marks ⊎ ((holds n.id marks ≡ true) × ((r : OwnedQuant) × (In r n.quants × (r.over ≡ b))))
by-mark b marks n i = elim (holds n.id marks) as (λ t. holds n.id marks ≡ t → In b (cond t (marks ++ map (λ (r : OwnedQuant). r.over) n.quants) marks) → In b marks ⊎ ((holds n.id marks ≡ true) × ((r : OwnedQuant) × (In r n.quants × (r.over ≡ b))))) [
  | true ↦ λ t i. elim (in-append b marks (map (λ (r : OwnedQuant). r.over) n.quants) i) [ inl a ↦ inl a | inr c ↦ inr (t, in-map (λ (r : OwnedQuant). r.over) b n.quants c) ]
  | false ↦ λ t i. inl i
] refl i

pub come : (b : ℕ) (marks : List ℕ) (ns : List Node) → In b (reached marks ns) → In b marks ⊎ ((n : Node) × (In n ns × ((In n.id (reached marks ns)) × ((r : OwnedQuant) × (In r n.quants × (r.over ≡ b))))))
come b marks [] i = inl i
come b marks (n ∷ ns) i = elim (come b (marked marks n) ns i) [
  | inl a ↦ elim (by-mark b marks n a) [
    | inl c ↦ inl c
    | inr c ↦ inr (n, (inl refl, (stays n.id (marked marks n) ns (more n.id marks n (holds-in n.id marks c.0)), c.1)))
  ]
  | inr x ↦ inr (x.0, (inr x.1.0, x.1.1))
]

pub reaches : (bs : List Node) (root : ℕ) → Ordered bs → Drops (λ b. holds b (reached (root ∷ []) bs)) bs root
reaches bs root o = record {
  root_kept = in-holds root (reached (root ∷ []) bs) (stays root (root ∷ []) bs (inl refl));
  closed = λ n r i k j. in-holds r.over (reached (root ∷ []) bs) (closes (root ∷ []) bs o n r i (holds-in n.id (reached (root ∷ []) bs) k) j);
  under = λ b k. elim (come b (root ∷ []) bs (holds-in b (reached (root ∷ []) bs) k)) [
    | inl a ↦ elim a [ inl e ↦ inl (sym e) | inr z ↦ elim z [ ] ]
    | inr x ↦ inr (x.0, (x.1.0, (in-holds x.0.id (reached (root ∷ []) bs) x.1.1.0, x.1.1.1)))
  ];
}

-- COMPACT KEEPS
pub local-of : (bs : List Node) (root : ℕ) → Sound bs root → Local bs root
local-of bs root w = record {
  ordered = w.ordered;
  rooted = w.rooted;
  once = w.once;
  top = w.top;
  fits = w.fits;
  own_nodes = w.own_nodes;
  bare = w.bare;
  arms = w.arms;
}

pub nearly : (bs : List Node) (root : ℕ) → Sound bs root → NearlySound bs root
nearly bs root w = record {
  local = local-of bs root w;
  settled = w.settled;
  few = λ b q t. (let a = w.used b q t in omega arith);
  none_at_root = λ q. elim (cases_Bool (loose bs root q)) [ inr f ↦ f | inl t ↦ absurd (closed-root bs root w q t) ];
}

-- what isn't reached may look up what it likes
pub nearly-compact : (bs : List Node) (root : ℕ) → NearlySound bs root → Sound (reached_boxes root bs) root
nearly-compact bs root w = dropped-sound (λ b. holds b (reached (root ∷ []) bs)) bs root w (reaches bs root w.local.ordered)

pub nearly-bag : (bs : List Node) (root : ℕ) → NearlySound bs root → (tables : List Table) (env : Environment) → bag_in tables (reached_boxes root bs) root env ≡ bag_in tables bs root env
nearly-bag bs root w tables env = dropped-bag (λ b. holds b (reached (root ∷ []) bs)) bs root w (reaches bs root w.local.ordered) tables env

pub compact-sound : (bs : List Node) (root : ℕ) → Sound bs root → Sound (reached_boxes root bs) root
compact-sound bs root w = nearly-compact bs root (nearly bs root w)

pub compact-bag : (bs : List Node) (root : ℕ) → Sound bs root → (tables : List Table) (env : Environment) → bag_in tables (reached_boxes root bs) root env ≡ bag_in tables bs root env
compact-bag bs root w tables env = nearly-bag bs root (nearly bs root w) tables env
