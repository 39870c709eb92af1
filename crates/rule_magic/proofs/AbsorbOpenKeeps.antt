-- G4 with an open right operand preserves.
use Rattle.std.proofs.Common.{ℕ, ◌==◌, ◌≡◌, ◌&&◌, ◌||◌, cond, true, false, List, [], ◌∷◌, ◌++◌, map, refl, sym, ap, subst, ◌∙◌, inl, inr}
use Rattle.std.specs.List.{list_any}
use Rattle.std.proofs.lemmas.Bool.{cases_Bool, or_cases, or_left, or_right}
use Rattle.row_bag.specs.Bags.{Agree}
use Rattle.row_bag.specs.Sets.{same_cells}
use Rattle.row_bag.specs.declared.tables.Table.{Table}
use Rattle.sql_value.specs.declared.order_key.SqlType.{SqlType}
use Rattle.qgm_core.specs.Boxes.{QueryGraph, is_quant, owns, width}
use Rattle.qgm_core.specs.Edits.{compact}
use Rattle.list_laws.specs.Lists.{In}
use Rattle.qgm_core.specs.declared.kinds.Role.{Role}
use Rattle.qgm_core.specs.declared.kinds.SetOperator.{SetOperator}
use Rattle.qgm_core.specs.declared.node.Node.{Node}
use Rattle.qgm_core.specs.declared.owned.OwnedQuant.{OwnedQuant}
use Rattle.qgm_edit_laws.specs.Graph.{Sound}
use Rattle.qgm_edit_laws.proofs.AnyPut.{conds-names, heads-names}
use Rattle.qgm_edit_laws.proofs.FreeLoose.{free-looks}
use Rattle.qgm_edit_laws.proofs.Scope.{closed-root}
use Rattle.qgm_edit_laws.proofs.WellFormedKept.{numbers-once}
use Rattle.qgm_meaning.specs.Meaning.{root_bag}
use Rattle.qgm_meaning.specs.Satisfies.{Satisfies, SatisfiesBy}
use Rattle.qgm_meaning.specs.Scope.{introduces, loose, put_node}
use Rattle.qgm_meaning.specs.Searches.{binds, binds_cond, names, names_cond}
use Rattle.qgm_meaning.specs.Tags.{columns_from}
use Rattle.qgm_props.specs.Inferred.{Facts}
use Rattle.rule_api.specs.Rules.{Preserves}
use Rattle.rule_magic.specs.AbsorbArms.{HasArms, IsStill, Renames, role_over}
use Rattle.rule_magic.specs.AbsorbSetOperation.{SetAt, SetOpenPreserves, renamed_set}
use Rattle.rule_magic.specs.Boxes.{pair_box, set_box}
use Rattle.rule_magic.specs.Places.{MayAbsorb}
use Rattle.rule_magic.specs.Region.{IsRegion, is_below}
use Rattle.rule_magic.proofs.AbsorbArmBags.{absorbs-sets}
use Rattle.rule_magic.proofs.AbsorbFacts as fed
use Rattle.rule_magic.proofs.AbsorbOpenFormed.{open-formed}
use Rattle.rule_magic.proofs.AbsorbOpenSet as after
use Rattle.rule_magic.proofs.AbsorbOpenSet.{and-none}
use Rattle.rule_magic.proofs.AbsorbSelectFormed as one
use Rattle.rule_magic.proofs.AbsorbSetFacts.{sets-given}
use Rattle.rule_magic.proofs.AbsorbSetFormed as made
use Rattle.rule_magic.proofs.AbsorbShared.{IsRoleOver, role-over-is, satisfies-both, satisfies-left, satisfies-right, then-compact}
use Rattle.list_laws.proofs.Booleans.{clash}
use Rattle.list_laws.proofs.Membership.{any-in}

module _ (g : QueryGraph) (known : Facts) (d : Node) (may : MayAbsorb g.boxes known d) (form : SetOperator) (ts mt : List SqlType) (l r1 : OwnedQuant) (x y : Node) (s u p : ℕ) (lr rr : Role) (up l1 l2 : List Node) (at : SetAt g known d may form ts mt l r1 x y s u p up l1 l2) (opened : loose g.boxes y.id may.a.id ≡ true) where
  abbrev m : Node
  m = may.m

  abbrev c : Node
  c = may.c

  abbrev a : OwnedQuant
  a = may.a

  abbrev r : OwnedQuant
  r = may.r

  abbrev h : QueryGraph
  h = renamed_set g known d may form mt l r1 x y s u p lr rr up l1 l2

  abbrev ren : Node → Node
  ren n = cond (is_below g.boxes r1.over n.id) (put_node may.a.id (columns_from p 1 (width may.m)) n) n

  w : Sound g.boxes g.root
  w = made.w g known d may form ts mt l r1 x y s u p lr rr up l1 l2 at

  v : Sound h.boxes g.root
  v = after.sound-after g known d may form ts mt l r1 x y s u p lr rr up l1 l2 at opened

  region : IsRegion g.boxes r1 a.id
  region = after.region g known d may form ts mt l r1 x y s u p lr rr up l1 l2 at opened

  p-new : (z : OwnedQuant) (n : Node) → In n g.boxes → In z n.quants → (z.id == p) ≡ false
  p-new = made.new-id g known d may form ts mt l r1 x y s u p lr rr up l1 l2 at p at.p_new

  -- a box that is marked and closed, or isn't marked, doesn't change
  still : (b : ℕ) → (is_below g.boxes r1.over b ≡ true → loose g.boxes b a.id ≡ false) → (is_below g.boxes r1.over b && loose g.boxes b a.id) ≡ false
  still b f = elim (cases_Bool (is_below g.boxes r1.over b)) [ inr t ↦ ap (λ z. z && loose g.boxes b a.id) t | inl t ↦ ap (λ z. is_below g.boxes r1.over b && z) (f t) ∙ and-none (is_below g.boxes r1.over b) ]

  arms : HasArms g d m c x y a l r1 (λ b. is_below g.boxes r1.over b)
  arms = record {
    in_x = at.in_x;
    in_y = at.in_y;
    two = at.two;
    over_x = at.over_x;
    over_y = at.over_y;
    apart = made.l-not-r1 g known d may form ts mt l r1 x y s u p lr rr up l1 l2 at;
    m_not_c = made.m-not-c g known d may form ts mt l r1 x y s u p lr rr up l1 l2 at;
    d_not_c = made.d-not-c g known d may form ts mt l r1 x y s u p lr rr up l1 l2 at;
    x_not_c = made.x-not-c g known d may form ts mt l r1 x y s u p lr rr up l1 l2 at;
    y_not_c = made.y-not-c g known d may form ts mt l r1 x y s u p lr rr up l1 l2 at;
    m_still = still m.id (λ t. fed.closed-m g at.once at.formed known at.tells d may a.id);
    d_still = still d.id (λ t. one.closed-d g at.once at.formed known at.tells d may a.id);
    c_unmarked = after.not-below-c g known d may form ts mt l r1 x y s u p lr rr up l1 l2 at opened;
    x_still = still x.id (λ t. after.x-closed-below g known d may form ts mt l r1 x y s u p lr rr up l1 l2 at opened t a.id);
    y_marked = inl (after.below-y g known d may form ts mt l r1 x y s u p lr rr up l1 l2 at opened);
    y_alone = made.arm-alone g known d may form ts mt l r1 x y s u p lr rr up l1 l2 at r1 y (made.in-r1 g known d may form ts mt l r1 x y s u p lr rr up l1 l2 at) at.over_y;
  }

  renames : Renames g a.id p (λ b. is_below g.boxes r1.over b)
  renames = record {
    under = λ n i k z j. region.under n z i k j;
    apart = λ n i k. (region.apart n i k, elim (cases_Bool (introduces n p)) [ inr f ↦ f | inl t ↦ absurd (unowned n i (bound n i t)) ]);
  }
    where
      unowned : (n : Node) → In n g.boxes → owns p n ≡ true → ⊥
      unowned n i o = let z = any-in (is_quant p) n.quants o in clash (z.0.id == p) z.1.1 (p-new z.0 n i z.1.0)

      bound : (n : Node) → In n g.boxes → introduces n p ≡ true → owns p n ≡ true
      bound n i t = elim (or_cases (owns p n) (list_any (binds p) n.parts.head || list_any (binds_cond p) n.parts.conds.items) t) [
        | inl o ↦ o
        | inr o ↦ (w.own_nodes n i p (elim (or_cases (list_any (binds p) n.parts.head) (list_any (binds_cond p) n.parts.conds.items) o) [
          | inl k ↦ or_left (list_any (names p) n.parts.head) (list_any (names_cond p) n.parts.conds.items) (heads-names p n.parts.head k)
          | inr k ↦ or_right (list_any (names p) n.parts.head) (list_any (names_cond p) n.parts.conds.items) (conds-names p n.parts.conds.items k)
        ])).0
      ]

  bags : (tables : List Table) → Satisfies tables g.boxes → Agree same_cells (root_bag tables h) (root_bag tables g)
  bags tables t = absorbs-sets tables g h d m c x y a r l r1 p l.id r1.id r.id u s (λ b. is_below g.boxes r1.over b) form ts mt lr rr (fed.is-fed-at g at.once at.formed known at.tells d may tables t) arms renames at.a_set (after.ordered g known d may form ts mt l r1 x y s u p lr rr up l1 l2 at opened)
      (made.l-not-a g known d may form ts mt l r1 x y s u p lr rr up l1 l2 at) (p-new r1 c may.in_c (made.in-r1 g known d may form ts mt l r1 x y s u p lr rr up l1 l2 at)) (made.new-id g known d may form ts mt l r1 x y s u p lr rr up l1 l2 at u at.u_new r d may.in_d (made.in-r g known d may form ts mt l r1 x y s u p lr rr up l1 l2 at)) at.s_new (after.not-below-s g known d may form ts mt l r1 x y s u p lr rr up l1 l2 at opened)
      (sets-given g at.once at.formed known at.tells d may tables t form ts l r1 at.a_set at.two (made.l-not-r1 g known d may form ts mt l r1 x y s u p lr rr up l1 l2 at) x y at.over_x at.over_y)
      (λ n i. elim (after.each-in g known d may form ts mt l r1 x y s u p lr rr up l1 l2 at opened n i) [
        | inl z ↦ inr (inr (inl z))
        | inr z ↦ elim z [
          | inl z ↦ inr (inr (inr (inr z)))
          | inr z ↦ elim z [
            | inl z ↦ inr (inr (inr (inl z)))
            | inr z ↦ elim (cases_Bool (is_below g.boxes r1.over z.0.id)) [
              | inl k ↦ inr (inl (record { was = z.0; within = z.1.0; marks = k; is = z.1.1.1.1 ∙ ap (λ b. cond b (put_node may.a.id (columns_from p 1 (width may.m)) z.0) z.0) k }))
              | inr k ↦ inl (subst (λ (n : Node). IsStill g d c a.id (λ b. is_below g.boxes r1.over b) n) (sym (z.1.1.1.1 ∙ ap (λ b. cond b (put_node may.a.id (columns_from p 1 (width may.m)) z.0) z.0) k))
                  (record { within = z.1.0; unmarked = k; not_d = z.1.1.0; not_c = z.1.1.1.0; elsewhere = λ q j. (made.elsewhere g known d may form ts mt l r1 x y s u p lr rr up l1 l2 at z.0 q z.1.0 z.1.1.0 j, still q.over (λ e. after.beside-closed g known d may form ts mt l r1 x y s u p lr rr up l1 l2 at opened z.0 q z.1.0 z.1.1.1.0 k j e a.id)) }))
            ]
          ]
        ]
      ])
      g.root w.rooted v.rooted (made.root-not-c g known d may form ts mt l r1 x y s u p lr rr up l1 l2 at) (still g.root (λ k. root-closed)) []
    where
      root-closed : loose g.boxes g.root a.id ≡ false
      root-closed = elim (cases_Bool (loose g.boxes g.root a.id)) [ inr f ↦ f | inl e ↦ absurd (closed-root g.boxes g.root w a.id e) ]

  renamed-bases : (tables : List Table) (ns : List Node) → Satisfies tables ns → Satisfies tables (map (λ (n : Node). cond (is_below g.boxes r1.over n.id) (put_node may.a.id (columns_from p 1 (width may.m)) n) n) ns)
  renamed-bases tables [] t = tt
  renamed-bases tables (n ∷ ns) t = (subst (λ k. SatisfiesBy k tables) (sym kind) t.0, renamed-bases tables ns t.1)
    where
      kind : (ren n).parts.kind ≡ n.parts.kind
      kind = elim (cases_Bool (is_below g.boxes r1.over n.id)) [ inl e ↦ ap (λ b. (cond b (put_node may.a.id (columns_from p 1 (width may.m)) n) n).parts.kind) e | inr e ↦ ap (λ b. (cond b (put_node may.a.id (columns_from p 1 (width may.m)) n) n).parts.kind) e ]

  bases : (tables : List Table) → Satisfies tables g.boxes → Satisfies tables h.boxes
  bases tables t =
      let all : Satisfies tables (up ++ d ∷ (l1 ++ c ∷ l2)) = subst (Satisfies tables) at.before t in
      let low = (satisfies-right tables up (d ∷ (l1 ++ c ∷ l2)) all).1 in
      renamed-bases tables (up ++ (set_box d.id form mt may.r.id may.c.id u s ∷ (pair_box s rr p may.m.id (width may.m) r1.id y.id (width y) ∷ (pair_box may.c.id lr may.a.id may.m.id (width may.m) l.id x.id (width x) ∷ (l1 ++ l2)))))
      (satisfies-both tables up (set_box d.id form mt may.r.id may.c.id u s ∷ (pair_box s rr p may.m.id (width may.m) r1.id y.id (width y) ∷ (pair_box may.c.id lr may.a.id may.m.id (width may.m) l.id x.id (width x) ∷ (l1 ++ l2))))
      (satisfies-left tables up (d ∷ (l1 ++ c ∷ l2)) all)
      (tt, (tt, (tt, satisfies-both tables l1 l2 (satisfies-left tables l1 (c ∷ l2) low) (satisfies-right tables l1 (c ∷ l2) low).1))))

  -- where the roles of both selects fit, the check finds nothing after it
  pub preserves : IsRoleOver g.boxes x.id lr → IsRoleOver g.boxes y.id rr → Preserves g (compact h)
  preserves left right = then-compact g h (open-formed g known d may form ts mt l r1 x y s u p lr rr up l1 l2 at opened left right) (numbers-once h.boxes (after.ordered g known d may form ts mt l r1 x y s u p lr rr up l1 l2 at opened)) bags bases refl refl

pub set-open-preserves : SetOpenPreserves
set-open-preserves = λ g known d may form ts mt l r1 x y s u p up l1 l2 at h. (
    let lr = role_over g.boxes x.id in
    let rr = role_over g.boxes y.id in
    let w = made.w g known d may form ts mt l r1 x y s u p lr rr up l1 l2 at in
    preserves g known d may form ts mt l r1 x y s u p lr rr up l1 l2 at (free-looks g.boxes g.root w y.id may.a.id h) (role-over-is g.boxes g.root w x.id) (role-over-is g.boxes g.root w y.id))
