-- G1, its first steps: where an S is settled, and quantifiers and conditions of a box are turned, a graph stays settled.
use Rattle.std.proofs.Common.{ℕ, ◌==◌, ◌≡◌, ◌&&◌, ◌||◌, cond, nat_le, nat_lt, not, Bool, true, false, List, [], ◌∷◌, ◌++◌, filter, map, length, None, ◌⊎◌, refl, sym, ap, subst, ◌∙◌, eqb-true, inl, inr}
use Rattle.std.specs.List.{flat_map, list_all, list_any}
use Rattle.std.proofs.lemmas.Bool.{and_from, and_parts, cases_Bool, eq-eqb, not-true, or_cases, or_left, or_right}
use Rattle.list_laws.specs.Lists.{EachOnce, In, holds}
use Rattle.list_laws.proofs.Booleans.{clash}
use Rattle.list_laws.proofs.Membership.{all-from, all-in, any-none, flat-in, in-append, in-filter, in-left, in-map, in-right}
use Rattle.qgm_core.specs.Boxes.{QueryGraph, numbers, owns}
use Rattle.qgm_core.specs.Free.{IsFree, named_by}
use Rattle.qgm_core.specs.Kinds.{is_F, is_S, is_magic, width_by}
use Rattle.qgm_core.specs.declared.kinds.BoxKind.{BoxKind}
use Rattle.qgm_core.specs.declared.kinds.BoxKind.TheVariants.{Select}
use Rattle.qgm_core.specs.declared.node.Node.{Node}
use Rattle.qgm_core.specs.declared.owned.OwnedQuant.{OwnedQuant}
use Rattle.qgm_meaning.specs.Rules.{as_F}
use Rattle.qgm_meaning.specs.Scope.{loose}
use Rattle.qgm_meaning.specs.Searches.{as_column, as_column_cond}
use Rattle.qgm_terms.specs.Named.{columns_in, columns_in_cond, nodes_in, nodes_in_cond}
use Rattle.qgm_terms.specs.Terms.{Cond, Term}
use Rattle.qgm_terms.specs.Wanted.{has_aggregate, has_aggregate_cond}
use Rattle.qgm_terms.specs.declared.named.Column.{Column}
use Rattle.qgm_wellformed.specs.Columns.{columns_of}
use Rattle.qgm_wellformed.specs.Shapes.{is_unfolded, kind_fits, node_fits, nodes_of, role_fits}
use Rattle.qgm_wellformed.specs.WellFormed.{fault}
use Rattle.qgm_edit_laws.specs.Graph.{Sound}
use Rattle.qgm_edit_laws.specs.Rebuilds.{IsOwned}
use Rattle.qgm_edit_laws.specs.Shaped.{Shaped}
use Rattle.qgm_edit_laws.proofs.CheckedParts.{shaped, sound}
use Rattle.qgm_edit_laws.proofs.Ranks.{same-box}
use Rattle.qgm_edit_laws.proofs.ShapeParts.{shape-parts}
use Rattle.qgm_props.specs.Calm.{calm_column, calm_magic, clean_below, is_closed}
use Rattle.qgm_props.specs.Inferred.{Closed, Facts, all_under_F, at_place, clean_by, cond_free, error_free_under, free_by, is_free}
use Rattle.qgm_props.proofs.Settled.{all-told}
use Rattle.rule_api.specs.declared.place.Place.{Place}
use Rattle.rule_magic.proofs.AbsorbShared.{closed-looks}
use Rattle.rule_magic.proofs.CalmFires.{closed-is}
use Rattle.rule_feed.specs.FeedActs.{settled_node}
use Rattle.rule_feed.specs.FeedMay.{MayFeedAt}
use Rattle.rule_feed.specs.Turn.{failing}
use Rattle.rule_feed.proofs.FeedPlaced as placed
use Rattle.rule_feed.proofs.FeedSettled as feeding
use Rattle.rule_feed.proofs.TurnLists.{in-turned, turned-in}
use Rattle.rule_subquery.specs.ScalarToJoin.{column_box}
use Rattle.rule_calm.specs.Settled.{IsFirm, IsSettled, SettledBox, has_no_single, single_free, single_free_cond}
use Rattle.rule_calm.proofs.BehindFacts.{place-map}
use Rattle.rule_calm.proofs.ClosedParts.{closed-own, open-not-firm, over-clean, strict-named, strict-over}
use Rattle.rule_calm.proofs.FedSettled.{below-calm, clean-by, free-by}
use Rattle.rule_calm.proofs.Framed.{Carried, Names, OwnedAs, Still, column-still, firm-single, firm-stays, known-clean, known-free, names-owning, nodes-still, settled-from, still-firm, told-closed}
use Rattle.rule_calm.proofs.FreeTerms.{SameColumns, SameNodes, cl_of, cond-is, ef_of, free-is, one_of, same-cond, same-free}
use Rattle.rule_calm.proofs.HeadPlaces.{place-range}
use Rattle.rule_calm.proofs.MovedTerms.{bare-single, bare-single-cond, column-cond, column-free}
use Rattle.rule_calm.proofs.PartFacts.{part-carried, under, under-itself}
use Rattle.rule_calm.proofs.RebuiltSettled.{carries, nodes-fit, still-is-settled}
use Rattle.rule_calm.proofs.SameFacts.{place-of}
use Rattle.rule_calm.proofs.Shut.{shut-same}

-- what passes under each F quantifier
pub all-F-from : (p : ℕ → Bool) (rs : List OwnedQuant) → ((r : OwnedQuant) → In r rs → is_F r.kind ≡ true → p r.over ≡ true) → all_under_F p rs ≡ true
all-F-from p [] h = refl
all-F-from p (r ∷ rs) h = one (is_F r.kind) refl (all-F-from p rs (λ s i. h s (inr i)))
  where
    one : (b : Bool) → is_F r.kind ≡ b → all_under_F p rs ≡ true → cond b (p r.over && all_under_F p rs) (all_under_F p rs) ≡ true
    one true e i = and_from (p r.over) (all_under_F p rs) (h r (inl refl) e) i
    one false e i = i

-- a select holds no `single`
pub select-single : (bs : List Node) (root : ℕ) → Shaped bs root → (n : Node) → In n bs → n.parts.kind ≡ Select → has_no_single n ≡ true
select-single bs root sh n i k =
    let u : is_unfolded n ≡ true = (and_parts (is_unfolded n) (role_fits root bs n n.parts.role) (subst (λ (z : BoxKind). kind_fits root bs n z ≡ true) k (shape-parts root bs n (sh.shapes n i)).kind)).0 in
    let p = and_parts (not (list_any has_aggregate n.parts.head)) (not (list_any has_aggregate_cond n.parts.conds.items)) u in
    and_from (list_all single_free n.parts.head) (list_all single_free_cond n.parts.conds.items)
    (all-from single_free n.parts.head (λ x j. bare-single x (any-none has_aggregate x n.parts.head (not-true (list_any has_aggregate n.parts.head) p.0) j)))
    (all-from single_free_cond n.parts.conds.items (λ x j. bare-single-cond x (any-none has_aggregate_cond x n.parts.conds.items (not-true (list_any has_aggregate_cond n.parts.conds.items) p.1) j)))

module _ (g : QueryGraph) (u : EachOnce (numbers g.boxes)) (f : fault g ≡ None) (p : Place) (b : Node) (us : List OwnedQuant) (r : OwnedQuant) (vs : List OwnedQuant) (m : MayFeedAt p g b us r vs)
    (above below : List Node) (stands : g.boxes ≡ above ++ b ∷ below) (q s : ℕ) (settled : IsSettled g) where
  abbrev bs : List Node
  bs = g.boxes

  abbrev b1 : Node
  b1 = placed.b1 g u f p b us r vs m above below stands q s

  abbrev b2 : Node
  b2 = placed.b2 g u f p b us r vs m above below stands q s

  abbrev i : OwnedQuant
  i = placed.i g u f p b us r vs m above below stands q s

  abbrev t : OwnedQuant → Bool
  t = placed.t g u f p b us r vs m above below stands q s

  abbrev k : Cond → Bool
  k = placed.k g u f p b us r vs m above below stands q s

  abbrev hs : List Node
  hs = (above ++ placed.b2 g u f p b us r vs m above below stands q s ∷ []) ++ below

  abbrev h2 : QueryGraph
  h2 = record g { boxes = (above ++ placed.b2 g u f p b us r vs m above below stands q s ∷ []) ++ below }

  w : Sound bs g.root
  w = sound g u f

  v : Sound hs g.root
  v = placed.w2 g u f p b us r vs m above below stands q s

  sh : Shaped bs g.root
  sh = shaped g u f

  shh : Shaped hs g.root
  shh = shaped h2 (placed.once2 g u f p b us r vs m above below stands q s) (placed.f2 g u f p b us r vs m above below stands q s)

  abbrev fs : Facts
  fs = settled.known

  abbrev gs : Facts
  gs = (all-told hs).0

  closed : Closed hs gs
  closed = told-closed hs gs (all-told hs).1

  in-b : In b bs
  in-b = placed.in-b g u f p b us r vs m above below stands q s

  in-r : In r b.quants
  in-r = subst (λ (z : List OwnedQuant). In r z) (sym m.split) (in-right r us (r ∷ vs) (inl refl))

  in-b2 : In b2 hs
  in-b2 = in-left b2 (above ++ b2 ∷ []) below (in-right b2 above (b2 ∷ []) (inl refl))

  look : (z y : ℕ) → loose hs z y ≡ loose bs z y
  look = placed.look2 g u f p b us r vs m above below stands q s

  -- another box stands where it stood
  to-hs : (n : Node) → In n bs → (n.id == b.id) ≡ false → In n hs
  to-hs n j e = elim (in-append n above (b ∷ below) (subst (λ (z : List Node). In n z) stands j)) [
    | inl x ↦ in-left n (above ++ b2 ∷ []) below (in-left n above (b2 ∷ []) x)
    | inr x ↦ elim x [ inl y ↦ absurd (clash (n.id == b.id) (eq-eqb n.id b.id (ap (λ (z : Node). z.id) (sym y))) e) | inr y ↦ in-right n (above ++ b2 ∷ []) below y ]
  ]

  from-hs : (n : Node) → In n hs → (n ≡ b2) ⊎ In n bs
  from-hs n j = elim (in-append n (above ++ b2 ∷ []) below j) [
    | inr x ↦ inr (placed.in-g g u f p b us r vs m above below stands q s n (inr x))
    | inl x ↦ elim (in-append n above (b2 ∷ []) x) [ inl y ↦ inr (placed.in-g g u f p b us r vs m above below stands q s n (inl y)) | inr y ↦ elim y [ inl e ↦ inl (sym e) | inr z ↦ elim z [ ] ] ]
  ]

  e1 : feeding.Settles g u f p b us r vs m (settled_node us r vs) i
  e1 = placed.e1 g u f p b us r vs m above below stands q s

  -- the quantifiers of b are there after
  owned-b : (x : OwnedQuant) → In x b.quants → OwnedAs hs x
  owned-b x j = elim (cases_Bool (is_S r.kind)) [
    | inr e ↦ (x, ((b2, (in-b2, turned-in t x b1.quants (subst (λ z. In x (cond z (column_box us r vs b) b).quants) (sym e) j))), (refl, refl)))
    | inl e ↦ elim (in-append x us (r ∷ vs) (subst (λ (z : List OwnedQuant). In x z) m.split j)) [
      | inl y ↦ (x, ((b2, (in-b2, turned-in t x b1.quants (subst (λ z. In x (cond z (column_box us r vs b) b).quants) (sym e) (in-left x (us ++ vs) (as_F r.id r.over ∷ []) (in-left x us vs y))))), (refl, refl)))
      | inr y ↦ elim y [
        | inr y ↦ (x, ((b2, (in-b2, turned-in t x b1.quants (subst (λ z. In x (cond z (column_box us r vs b) b).quants) (sym e) (in-left x (us ++ vs) (as_F r.id r.over ∷ []) (in-right x us vs y))))), (refl, refl)))
        | inl y ↦ subst (OwnedAs hs) y (i, ((b2, (in-b2, turned-in t i b1.quants e1.owned)), (e1.number, e1.over)))
      ]
    ]
  ]

  owned-any : (x : OwnedQuant) → IsOwned bs x → OwnedAs hs x
  owned-any x o = elim (cases_Bool (o.0.id == b.id)) [
    | inl e ↦ owned-b x (subst (λ (z : Node). In x z.quants) (same-box bs o.0 b w.ordered o.1.0 in-b (eqb-true o.0.id b.id e)) o.1.1)
    | inr e ↦ (x, ((o.0, (to-hs o.0 o.1.0 e, o.1.1)), (refl, refl)))
  ]

  shut : (z : ℕ) → is_closed hs z ≡ is_closed bs z
  shut z = shut-same bs hs g.root w v z (look z)

  stays : (kept : ℕ → Bool) (n : Node) → In n bs → (n.id == b.id) ≡ false → kept n.id ≡ true → ((x : OwnedQuant) → In x n.quants → kept x.over ≡ true) → ((x : OwnedQuant) → holds x.id (named_by n) ≡ true → IsOwned bs x → kept x.over ≡ true) → Still bs hs kept n
  stays kept n j e k over named = record {
    before = j;
    after = to-hs n j e;
    number = k;
    over = over;
    named = λ x h o. (named x h o, owned-any x o);
    shut = shut n.id;
    shut_over = λ x h. shut x.over;
  }

  abbrev always : ℕ → Bool
  always z = true

  still : (n : Node) → In n bs → (n.id == b.id) ≡ false → Still bs hs always n
  still n j e = stays always n j e refl (λ x h. refl) (λ x h o. refl)

  not-firm : IsFirm bs b.id → ⊥
  not-firm = open-not-firm bs g.root w b in-b m.select m.closed r in-r m.opened

  firm : (z : ℕ) → IsFirm bs z → IsFirm hs z
  firm z x = firm-stays bs hs always (λ n j k. elim (cases_Bool (n.id == b.id)) [ inl e ↦ inr (λ y. not-firm (subst (IsFirm bs) (eqb-true n.id b.id e) y)) | inr e ↦ inl (still-firm bs hs always n (still n j e)) ]) z x refl

  single : (z : ℕ) → IsFirm hs z → gs.at_most_one z ≡ true
  single = firm-single hs v.ordered gs closed

  -- ---- below b

  not-free : (y : ℕ) → IsFree bs b.id y → ⊥
  not-free = closed-is bs w.ordered b.id m.closed

  abbrev part : ℕ → Bool
  part z = under bs b.id z && not (z == b.id)

  part-not-b : (z : ℕ) → part z ≡ true → (z == b.id) ≡ false
  part-not-b z h = not-true (z == b.id) (and_parts (under bs b.id z) (not (z == b.id)) h).1

  below-b : Carried fs gs part
  below-b = part-carried bs hs g.root w v sh fs gs settled.tells closed settled.each always (λ z x k. firm z x) part (λ z h. refl) (λ n j h. (
      let under-n = (and_parts (under bs b.id n.id) (not (n.id == b.id)) h).0 in
      inl (stays part n j (part-not-b n.id h) h (λ x k. strict-over bs g.root w b in-b not-free n x j under-n k) (λ x k o. strict-named bs g.root w b in-b not-free n x j under-n k o))))

  under-b : under bs b.id b.id ≡ true
  under-b = under-itself bs g.root w b.id

  names-b : Names bs hs part b
  names-b = record {
    before = in-b;
    over = λ x k. strict-over bs g.root w b in-b not-free b x in-b under-b k;
    owned = λ x k. owned-b x k;
    named = λ x k o. (strict-named bs g.root w b in-b not-free b x in-b under-b k o, owned-any x o);
  }

  fit : list_all (node_fits b.quants) (nodes_of b) ≡ true
  fit = nodes-fit bs g.root sh b in-b

  ones : (x : OwnedQuant) → In x b.quants → is_S x.kind ≡ true → gs.at_most_one x.over ≡ true
  ones x k e = single x.over (firm x.over ((settled.each b in-b).scalars x k e))

  same-columns : SameColumns (ef_of bs fs) (ef_of hs gs) (cl_of bs fs) (cl_of hs gs) (one_of bs fs) (one_of hs gs) (columns_of b)
  same-columns = column-still bs hs g.root w v part fs gs below-b b names-b

  same-nodes : SameNodes (ef_of bs fs) (ef_of hs gs) (cl_of bs fs) (cl_of hs gs) (one_of bs fs) (one_of hs gs) (nodes_of b)
  same-nodes = nodes-still bs hs g.root w v part fs gs below-b b (names-owning bs hs part b names-b) fit ones

  no-single : (list_all single_free b.parts.head ≡ true) × (list_all single_free_cond b.parts.conds.items ≡ true)
  no-single = and_parts (list_all single_free b.parts.head) (list_all single_free_cond b.parts.conds.items) (settled.each b in-b).no_single

  -- ---- b itself

  head-columns : (x : Term) → In x b.parts.head → (y : Column) → In y (columns_in x) → In y (columns_of b)
  head-columns x j y k = in-left y (flat_map columns_in b.parts.head) (flat_map columns_in_cond b.parts.conds.items) (flat-in columns_in x y b.parts.head j k)

  cond-columns : (x : Cond) → In x b.parts.conds.items → (y : Column) → In y (columns_in_cond x) → In y (columns_of b)
  cond-columns x j y k = in-right y (flat_map columns_in b.parts.head) (flat_map columns_in_cond b.parts.conds.items) (flat-in columns_in_cond x y b.parts.conds.items j k)

  cell-now : (x : Term) → In x b.parts.head → is_free bs fs false x ≡ true → (is_free hs gs false x ≡ true) × (is_free hs gs false (as_column r.id x) ≡ true)
  cell-now x j h =
      let e = sym (free-is bs fs false x) ∙ h in
      let n = all-in single_free x b.parts.head no-single.0 j in (
        free-is hs gs false x ∙ same-free (ef_of bs fs) (ef_of hs gs) (cl_of bs fs) (cl_of hs gs) (one_of bs fs) (one_of hs gs) false false x
            (λ y k. same-columns y (head-columns x j y k)) (λ y k. same-nodes y (in-left y (flat_map nodes_in b.parts.head) (flat_map nodes_in_cond b.parts.conds.items) (flat-in nodes_in x y b.parts.head j k))) n e,
        free-is hs gs false (as_column r.id x) ∙ column-free (ef_of bs fs) (ef_of hs gs) (cl_of bs fs) (cl_of hs gs) (one_of bs fs) (one_of hs gs) r.id false false x
            (λ y k. same-columns y (head-columns x j y k)) (λ y k. same-nodes y (in-left y (flat_map nodes_in b.parts.head) (flat_map nodes_in_cond b.parts.conds.items) (flat-in nodes_in x y b.parts.head j k))) n e,
      )

  cond-now : (x : Cond) → In x b.parts.conds.items → cond_free bs fs false x ≡ true → (cond_free hs gs false x ≡ true) × (cond_free hs gs false (as_column_cond r.id x) ≡ true)
  cond-now x j h =
      let e = sym (cond-is bs fs false x) ∙ h in
      let n = all-in single_free_cond x b.parts.conds.items no-single.1 j in (
        cond-is hs gs false x ∙ same-cond (ef_of bs fs) (ef_of hs gs) (cl_of bs fs) (cl_of hs gs) (one_of bs fs) (one_of hs gs) false false x
            (λ y k. same-columns y (cond-columns x j y k)) (λ y k. same-nodes y (in-right y (flat_map nodes_in b.parts.head) (flat_map nodes_in_cond b.parts.conds.items) (flat-in nodes_in_cond x y b.parts.conds.items j k))) n e,
        cond-is hs gs false (as_column_cond r.id x) ∙ column-cond (ef_of bs fs) (ef_of hs gs) (cl_of bs fs) (cl_of hs gs) (one_of bs fs) (one_of hs gs) r.id false false x
            (λ y k. same-columns y (cond-columns x j y k)) (λ y k. same-nodes y (in-right y (flat_map nodes_in b.parts.head) (flat_map nodes_in_cond b.parts.conds.items) (flat-in nodes_in_cond x y b.parts.conds.items j k))) n e,
      )

  cond-1 : list_all (cond_free bs fs false) b.parts.conds.items ≡ true → (d : Cond) → In d b1.parts.conds.items → cond_free hs gs false d ≡ true
  cond-1 h d j = elim (cases_Bool (is_S r.kind)) [
    | inr e ↦ (let k : In d b.parts.conds.items = subst (λ z. In d (cond z (column_box us r vs b) b).parts.conds.items) e j in (cond-now d k (all-in (cond_free bs fs false) d b.parts.conds.items h k)).0)
    | inl e ↦ (
        let k : In d (map (as_column_cond r.id) b.parts.conds.items) = subst (λ z. In d (cond z (column_box us r vs b) b).parts.conds.items) e j in
        let x = in-map (as_column_cond r.id) d b.parts.conds.items k in
        subst (λ (z : Cond). cond_free hs gs false z ≡ true) x.1.1 (cond-now x.0 x.1.0 (all-in (cond_free bs fs false) x.0 b.parts.conds.items h x.1.0)).1)
  ]

  place-1 : (k : ℕ) → at_place (is_free bs fs false) b.parts.head k ≡ true → at_place (is_free hs gs false) b1.parts.head k ≡ true
  place-1 k h = elim (cases_Bool (is_S r.kind)) [
    | inr e ↦ subst (λ z. at_place (is_free hs gs false) (cond z (column_box us r vs b) b).parts.head k ≡ true) (sym e) (place-of (is_free bs fs false) (is_free hs gs false) b.parts.head k (λ x j y. (cell-now x j y).0) h)
    | inl e ↦ subst (λ z. at_place (is_free hs gs false) (cond z (column_box us r vs b) b).parts.head k ≡ true) (sym e) (place-map (as_column r.id) (is_free bs fs false) (is_free hs gs false) b.parts.head k (λ x j y. (cell-now x j y).1) h)
  ]

  kind-2 : b2.parts.kind ≡ Select
  kind-2 = e1.select

  rows-2 : (x : OwnedQuant) → In x b2.quants → gs.clean x.over ≡ true
  rows-2 x j = elim (e1.was x (in-turned t x b1.quants j)) [
    | inr k ↦ below-b.clean x.over (strict-over bs g.root w b in-b not-free b x in-b under-b k) (over-clean bs g.root w fs settled.each b x in-b k)
    | inl k ↦ subst (λ z. gs.clean z ≡ true) (sym (ap (λ (y : OwnedQuant). y.over) k ∙ e1.over)) (below-b.clean r.over (strict-over bs g.root w b in-b not-free b r in-b under-b in-r) (over-clean bs g.root w fs settled.each b r in-b in-r))
  ]

  now-clean : fs.clean b.id ≡ true → gs.clean b.id ≡ true
  now-clean h =
      let x = and_parts (all_under_F fs.clean b.quants) (list_all (cond_free bs fs false) b.parts.conds.items) (subst (λ (z : BoxKind). clean_by bs fs z b ≡ true) m.select (clean-by bs fs settled.tells g.root w b in-b h)) in
      subst (λ z. gs.clean z ≡ true) (e1.id b) (known-clean hs v.ordered gs closed b2 in-b2 (subst (λ (z : BoxKind). clean_by hs gs z b2 ≡ true) (sym kind-2)
      (and_from (all_under_F gs.clean b2.quants) (list_all (cond_free hs gs false) b2.parts.conds.items) (all-F-from gs.clean b2.quants (λ y j e. rows-2 y j))
      (all-from (cond_free hs gs false) b2.parts.conds.items (λ d j. cond-1 x.1 d (turned-cond d j))))))
    where
      turned-cond : (d : Cond) → In d b2.parts.conds.items → In d b1.parts.conds.items
      turned-cond d j = elim (in-append d (failing k b1.parts.conds.items) (filter k b1.parts.conds.items) j) [ inl x ↦ (in-filter (λ e. not (k e)) d b1.parts.conds.items x).0 | inr x ↦ (in-filter k d b1.parts.conds.items x).0 ]

  now-free : (k : ℕ) → fs.error_free b.id k ≡ true → gs.error_free b.id k ≡ true
  now-free k h =
      let x = free-by bs fs settled.tells g.root w b in-b k h in
      let y = place-1 k (subst (λ (z : BoxKind). free_by bs fs z b k ≡ true) m.select x.1) in
      subst (λ z. gs.error_free z k ≡ true) (e1.id b) (known-free hs v.ordered gs closed b2 in-b2 k
      (subst (λ (z : BoxKind). (nat_lt 0 k && nat_le k (width_by z (length b2.parts.head))) ≡ true) (sym kind-2) (place-range (is_free hs gs false) b2.parts.head k y))
      (subst (λ (z : BoxKind). free_by hs gs z b2 k ≡ true) (sym kind-2) y))

  -- ---- all boxes after it

  pub turn-carried : Carried fs gs always
  turn-carried = carries bs hs g.root w v sh always fs gs closed settled.each (λ z x k. firm z x) settled.tells (λ n j. elim (cases_Bool (n.id == b.id)) [
    | inr e ↦ inl (still n j e)
    | inl e ↦ (
        let id = eqb-true n.id b.id e in
        inr (record { clean = λ k y z. subst (λ o. gs.clean o ≡ true) (sym id) (now-clean (subst (λ o. fs.clean o ≡ true) id y)); error_free = λ o k y l z. subst (λ c. gs.error_free c o ≡ true) (sym id) (now-free o (subst (λ c. fs.error_free c o ≡ true) id y)) }))
  ])

  settled-2 : SettledBox hs gs g.root b2
  settled-2 = settled-from hs gs g.root b2 clean columns (or_left (not (is_magic b2.parts.role)) (calm_magic hs gs b2) (ap (λ z. not (is_magic z)) e1.plain)) (select-single hs g.root shh b2 in-b2 kind-2) scalars single
    where
      clean : clean_below hs gs g.root b2 ≡ true
      clean = subst (λ z. (z == g.root || gs.clean z) ≡ true) (sym (e1.id b)) (elim (or_cases (b.id == g.root) (fs.clean b.id) (below-calm bs fs g.root b (settled.each b in-b))) [
        | inl e ↦ or_left (b.id == g.root) (gs.clean b.id) e
        | inr e ↦ or_right (b.id == g.root) (gs.clean b.id) (now-clean e)
      ])

      columns : list_all (calm_column hs gs b2) (columns_of b2) ≡ true
      columns = all-from (calm_column hs gs b2) (columns_of b2) (λ y j. or_left (owns y.quant b2) (error_free_under hs gs y.quant y.place) (closed-own hs g.root v b2 in-b2 (λ z. look b2.id z ∙ ap (λ o. loose bs o z) (e1.id b) ∙ closed-looks bs g.root w b.id m.closed z) y j))

      scalars : (x : OwnedQuant) → In x b2.quants → is_S x.kind ≡ true → IsFirm hs x.over
      scalars x j e = elim (e1.was x (in-turned t x b1.quants j)) [
        | inr k ↦ firm x.over ((settled.each b in-b).scalars x k e)
        | inl k ↦ absurd (clash (is_S i.kind) (ap (λ (y : OwnedQuant). is_S y.kind) (sym k) ∙ e) e1.not_scalar)
      ]

  pub turn-each : (n : Node) → In n hs → SettledBox hs gs g.root n
  turn-each n j = elim (from-hs n j) [
    | inl e ↦ subst (SettledBox hs gs g.root) (sym e) settled-2
    | inr k ↦ elim (cases_Bool (n.id == b.id)) [
      | inr e ↦ still-is-settled bs hs g.root w v sh always fs gs closed settled.each (λ z x k. firm z x) turn-carried n (still n k e)
      | inl e ↦ subst (SettledBox hs gs g.root) (same-box hs b2 n v.ordered in-b2 j (e1.id b ∙ sym (eqb-true n.id b.id e))) settled-2
    ]
  ]

  pub turn-settled : IsSettled h2
  turn-settled = record { known = gs; tells = (all-told hs).1; each = turn-each }
