-- A renamed box below an open operand has its form in the graph after it.
use Rattle.std.proofs.Common.{ℕ, ◌-◌, ◌==◌, ◌≡◌, ◌&&◌, nat_lt, cond, not, Bool, true, false, List, [], ◌∷◌, Option, Some, None, refl, sym, ap, subst, ◌∙◌, eqb-true, inl, inr}
use Rattle.std.specs.Prelude.{slice_get}
use Rattle.std.proofs.lemmas.Bool.{and_from, and_parts, cases_Bool, eq-eqb, or_cases, or_left, or_right}
use Rattle.sql_value.specs.declared.order_key.SqlType.{SqlType}
use Rattle.qgm_core.specs.Boxes.{is_box, is_quant, owns, width}
use Rattle.qgm_core.specs.Free.{free_in, named_by}
use Rattle.qgm_core.specs.Kinds.{is_F_or_S, is_S, is_fed, is_permit, width_by}
use Rattle.list_laws.specs.Lists.{In, first, holds}
use Rattle.qgm_core.specs.declared.node.Node.{Node}
use Rattle.qgm_core.specs.declared.owned.OwnedQuant.{OwnedQuant}
use Rattle.qgm_core.proofs.Reaching.{overs-held}
use Rattle.qgm_meaning.specs.Scope.{loose, put_node, read_by}
use Rattle.qgm_meaning.specs.Tags.{columns_from}
use Rattle.qgm_terms.specs.Substitution.{substituted}
use Rattle.qgm_wellformed.specs.Columns.{box_under}
use Rattle.qgm_wellformed.specs.Shapes.{fed_by, is_scalar, is_scalar_in, magic_found, only, width_found}
use Rattle.qgm_wellformed.specs.Types.{joined_column}
use Rattle.qgm_edit_laws.specs.Graph.{Sound, nodes_in}
use Rattle.qgm_edit_laws.specs.Rebuilds.{HasForm}
use Rattle.qgm_edit_laws.specs.Reforms.{types_at}
use Rattle.qgm_edit_laws.specs.Shaped.{Shaped, Typed}
use Rattle.qgm_edit_laws.specs.TypesBy.{Types, found_by}
use Rattle.qgm_edit_laws.proofs.BoxForms.{counted-seen, scalar-column}
use Rattle.qgm_edit_laws.proofs.Edits.{length-map}
use Rattle.qgm_edit_laws.proofs.FreeLoose.{alone-from, alone-to}
use Rattle.qgm_edit_laws.proofs.Ranks.{has-in, same-box}
use Rattle.qgm_edit_laws.proofs.Read.{named-split}
use Rattle.qgm_edit_laws.proofs.Scope.{in-first, touched}
use Rattle.qgm_edit_laws.proofs.ShapeParts.{fed-parts, shape-moved, shape-parts, two-parts}
use Rattle.qgm_edit_laws.proofs.TypedKept.{Ranging, found-under}
use Rattle.qgm_edit_laws.proofs.TypesBy.{looked}
use Rattle.rule_magic.specs.Region.{IsArm, IsRegion, RegionForms, RenamesBelow, RetypesBelow, is_below}
use Rattle.rule_magic.specs.Renamed.{IsRetyped, MayRetype}
use Rattle.rule_magic.proofs.Region.{arm-has-region, region-renames}
use Rattle.rule_magic.proofs.RenamedTyped.{renamed-is-typed}
use Rattle.list_laws.proofs.Booleans.{clash}
use Rattle.list_laws.proofs.Membership.{any-from, any-in}

module _ (bs hs : List Node) (root : ℕ) (o : Node) (r : OwnedQuant) (a p w : ℕ) (kept : ℕ → Bool) (look : ℕ → ℕ → Bool) (T : Types) (m : Node) (sound : Sound bs root) (ty : Typed bs) (sh : Shaped bs root) (arm : IsArm bs o r a) (g : RenamesBelow bs hs kept look r.over a p w)
    (t : RetypesBelow bs hs root T m r.over a p w) where
  region : IsRegion bs r a
  region = arm-has-region bs root o r a sound arm

  abbrev put : Node → Node
  put n = put_node a (columns_from p 1 w) n

  wide : (n : Node) → width (put_node a (columns_from p 1 w) n) ≡ width n
  wide n = ap (width_by n.parts.kind) (length-map (substituted a (columns_from p 1 w)) n.parts.head)

  -- the box under a quantifier of one of these, before and after
  pub record IsUnder (s : OwnedQuant) : Type 0 where
    pub was : Node
    pub within : In was bs
    pub number : was.id ≡ s.over
    pub below : is_below bs r.over was.id ≡ true
    pub stands : In (put_node a (columns_from p 1 w) was) hs

  module _ (n : Node) (i : In n bs) (b : is_below bs r.over n.id ≡ true) where
    under : (s : OwnedQuant) → In s n.quants → IsUnder s
    under s j =
        let v = has-in s.over bs (overs-held bs n s sound.ordered i j) in
        let e : is_below bs r.over v.0.id ≡ true = subst (λ k. is_below bs r.over k ≡ true) (sym v.1.1) (region.under n s i b j) in
        record { was = v.0; within = v.1.0; number = v.1.1; below = e; stands = g.stand v.0 v.1.0 e }

    first-was : (s : OwnedQuant) (u : IsUnder s) → first (is_box s.over) bs ≡ Some u.was
    first-was s u = subst (λ k. first (is_box k) bs ≡ Some u.was) u.number (in-first u.was bs sound.ordered u.within)

    first-after : (s : OwnedQuant) (u : IsUnder s) → first (is_box s.over) hs ≡ Some (put u.was)
    first-after s u = subst (λ k. first (is_box k) hs ≡ Some (put u.was)) u.number (in-first (put u.was) hs g.ordered u.stands)

    -- what is named, but a, one of these boxes owns
    owner : (q : ℕ) → holds q (named_by n) ≡ true → (q == a) ≡ false → (x : Node) × (In x bs × ((is_below bs r.over x.id ≡ true) × (owns q x ≡ true)))
    owner q h f = elim (or_cases (read_by n q) (nodes_in q n) (named-split q n h)) [
      | inr z ↦ (n, (i, (b, (sound.own_nodes n i q z).0)))
      | inl z ↦ elim (touched bs root sound n q i (or_left (read_by n q) _ z)) [
        | inl z ↦ (n, (i, (b, z)))
        | inr z ↦ elim (region.looks n.id q b z) [ inl e ↦ absurd (clash (q == a) (eq-eqb q a e) f) | inr x ↦ x ]
      ]
    ]

  -- a quantifier of one of these, with the box under it before and after
  pub record IsFound (q : ℕ) : Type 0 where
    pub was : Ranging bs q
    pub after : Ranging hs q
    pub below : is_below bs r.over was.box.id ≡ true
    pub same : after.box ≡ put_node a (columns_from p 1 w) was.box

  module _ (n : Node) (i : In n bs) (b : is_below bs r.over n.id ≡ true) (opened : loose bs n.id a ≡ true) where
    named : (q : ℕ) → holds q (named_by n) ≡ true → (q == a) ≡ false → IsFound q
    named q h f =
        let x = owner n i b q h f in
        let s = any-in (is_quant q) x.0.quants x.1.1.1 in
        let u = under x.0 x.1.0 x.1.1.0 s.0 s.1.0 in
        let e = eqb-true s.0.id q s.1.1 in
        record {
          was = record { owner = x.0; quant = s.0; box = u.was; owner_in = x.1.0; quant_in = s.1.0; is_q = e; box_in = u.within; is_over = u.number };
          after = record { owner = put x.0; quant = s.0; box = put u.was; owner_in = g.stand x.0 x.1.0 x.1.1.0; quant_in = s.1.0; is_q = e; box_in = u.stands; is_over = u.number };
          below = u.below;
          same = refl;
        }

    under-was : (q : ℕ) (x : IsFound q) → box_under bs q ≡ Some x.was.box
    under-was q x = found-under bs root sound q x.was

    under-after : (q : ℕ) (x : IsFound q) → box_under hs q ≡ Some (put_node a (columns_from p 1 w) x.was.box)
    under-after q x = found-under hs root t.sound q x.after ∙ ap (λ (z : Node). Some z) x.same

    abbrev at_place : ℕ → List (Option SqlType) → Option SqlType
    at_place k ts = cond (k == 0) None (joined_column (slice_get ts (k - 1)))

    retype : MayRetype bs hs T a p w n
    retype = record {
      own = t.types n.id b;
      arms = λ s j. t.types s.over (region.under n s i b j);
      lookups = λ q h f k. (
          let x = named q h f in
          ap (found_by T k) (under-after q x) ∙ ap (at_place k) (t.types x.was.box.id x.below) ∙ sym (ap (found_by (types_at bs) k) (under-was q x)) ∙ sym (looked bs q k));
      tags = λ k lo hi. ap (found_by T k) t.under_p ∙ ap (at_place k) t.types_m ∙ sym (ap (found_by (types_at bs) k) t.under_a) ∙ sym (looked bs a k);
      unders = λ q h f. (let x = named q h f in (x.was.box, (put x.was.box, (under-was q x, (under-after q x, wide x.was.box)))));
      under_p = (m, (t.under_p, t.wide));
    }

    typed : IsRetyped bs hs root T (put_node a (columns_from p 1 w) n)
    typed = renamed-is-typed bs hs root look T a p w n sound ty sh t.sound (region-renames bs hs root o r a p w kept look sound arm g n i b opened) retype (g.stand n i b)

    -- who ranges over it did before
    user : (x : Node) (s : OwnedQuant) → In x hs → In s x.quants → s.over ≡ n.id → (v : Node) × ((k : OwnedQuant) × (In v bs × (In k v.quants × ((k.over ≡ s.over) × (k.kind ≡ s.kind)))))
    user x s j k e = t.users x s j k (subst (λ z. is_below bs r.over z ≡ true) (sym e) b) (subst (λ z. loose bs z a ≡ true) (sym e) opened)

    scalar-wide : is_scalar hs n.id ≡ true → nat_lt 0 (width (put_node a (columns_from p 1 w) n)) ≡ true
    scalar-wide h =
        let x = any-in (λ (x : Node). is_scalar_in x.quants n.id) hs h in
        let s = any-in (λ (s : OwnedQuant). (s.over == n.id) && is_S s.kind) x.0.quants x.1.1 in
        let k = and_parts (s.0.over == n.id) (is_S s.0.kind) s.1.1 in
        let e = eqb-true s.0.over n.id k.0 in
        let v = user x.0 s.0 x.1.0 s.1.0 e in
        ap (nat_lt 0) (wide n) ∙ scalar-column bs root ty sh v.0 n v.1.0 v.1.1.0 v.1.1.1.0 (subst (λ z. is_S z ≡ true) (sym v.1.1.1.1.1) k.1) i (sym (v.1.1.1.1.0 ∙ e))

    -- the second box of a fed one looks its first quantifier up, alone
    fed-alone : is_fed n.parts.role ≡ true → (c d : OwnedQuant) → n.quants ≡ c ∷ (d ∷ []) → only c.id (free_in hs d.over) ≡ true
    fed-alone h c d e =
        let j : In c n.quants = subst (λ (z : List OwnedQuant). In c z) (sym e) (inl refl) in
        let k = region.under n d i b (subst (λ (z : List OwnedQuant). In d z) (sym e) (inr (inl refl))) in
        let f = fed-parts root bs n h (shape-parts root bs n (sh.shapes n i)).kind in
        let old = alone-to bs root sound d.over c.id (two-parts bs n.parts.head c d (ap (fed_by bs n.parts.head) (sym e) ∙ f.fed)).alone in
        let apart : (c.id == a) ≡ false = (elim (cases_Bool (c.id == a)) [ inr f ↦ f | inl y ↦ absurd (clash (owns a n) (any-from (is_quant a) c n.quants j y) (region.apart n i b)) ]) in
        alone-from hs root t.sound d.over c.id
        (t.looks d.over c.id k ∙ or_right ((c.id == p) && loose bs d.over a) (not (c.id == a) && loose bs d.over c.id) (and_from (not (c.id == a)) (loose bs d.over c.id) (ap not apart) old.0))
        (λ q l. elim (or_cases ((q == p) && loose bs d.over a) (not (q == a) && loose bs d.over q) (sym (t.looks d.over q k) ∙ l)) [
          | inl z ↦ absurd (clash (c.id == a) (eq-eqb c.id a (sym (old.1 a (and_parts (q == p) (loose bs d.over a) z).1))) apart)
          | inr z ↦ old.1 q (and_parts (not (q == a)) (loose bs d.over q) z).1
        ])

    -- the box under a quantifier of it
    after : (s : OwnedQuant) (u : Node) → In s n.quants → In u hs → u.id ≡ s.over → (x : IsUnder s) × (u ≡ put_node a (columns_from p 1 w) x.was)
    after s u j k e = let x = under n i b s j in (x, same-box hs u (put x.was) g.ordered k x.stands (e ∙ sym x.number))

    pub renamed-form : HasForm hs root T (put_node a (columns_from p 1 w) n)
    renamed-form = record {
      columns_typed = typed.columns_typed;
      agrees = typed.agrees;
      columns = typed.columns;
      shape = shape-moved root bs hs (put n)
          (λ s j c. (let x = under n i b s j in ap width_found (first-after n i b s x) ∙ wide x.was ∙ sym (ap width_found (first-was n i b s x))))
          (λ s j. (let x = under n i b s j in ap magic_found (first-after n i b s x) ∙ sym (ap magic_found (first-was n i b s x))))
          fed-alone scalar-wide typed.shape;
      hidden = λ h. ((sh.unseen n i h).0, λ x s j k e. (let v = user x s j k e in ap is_F_or_S (sym v.1.1.1.1.1) ∙ (sh.unseen n i h).1 v.0 v.1.0 v.1.1.0 v.1.1.1.0 (v.1.1.1.1.0 ∙ e)));
      unseen = λ s u j k l e. (let x = after s u j l e in ap (λ (z : Node). is_permit z.parts.distinct) x.1 ∙ counted-seen bs root ty sh n x.0.was s i j k x.0.within x.0.number);
      scalars = λ s u j k l e. (let x = after s u j l e in ap (λ (z : Node). nat_lt 0 (width z)) x.1 ∙ ap (nat_lt 0) (wide x.0.was) ∙ scalar-column bs root ty sh n x.0.was s i j k x.0.within x.0.number);
    }

pub region-forms : RegionForms
region-forms = λ bs hs root o r a p w kept look T m sound ty sh arm g t n i b h. renamed-form bs hs root o r a p w kept look T m sound ty sh arm g t n i b h
