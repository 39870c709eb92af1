-- A box that shows a thing ranges over boxes behind it, and doesn't look up its own quantifiers.
use Rattle.std.proofs.Common.{◌≡◌, ◌≤◌, ℕ, ◌==◌, ◌||◌, Bool, true, false, List, [], ◌∷◌, Option, Some, None, refl, ap, subst, arith}
use Rattle.std.specs.List.{list_all, list_any}
use Rattle.std.proofs.lemmas.Bool.{and_parts, eqb-true, ne_eqb}
use Rattle.sql_meaning.specs.ResolvedTrees.{Test, From, Froms, Query}
use Rattle.sql_meaning.specs.ResolvedTrees as q
use Rattle.qgm_core.specs.Boxes.{all_over, has_box, is_quant, owns}
use Rattle.qgm_core.specs.declared.node.Node.{Node}
use Rattle.qgm_core.specs.declared.owned.OwnedQuant.{OwnedQuant}
use Rattle.qgm_core.specs.declared.kinds.Distinct.{Distinct}
use Rattle.qgm_terms.specs.Terms.{Term}
use Rattle.qgm_meaning.specs.Scope.{loose_of}
use Rattle.qgm_translation.specs.Leaves.{Leaf, Slots, count, fold, rest_of, sub}
use Rattle.qgm_translation.specs.Maps.{Frame, Map, fresh}
use Rattle.qgm_translation.specs.Shown.{Shows, ShowsBox, Thing, key_places, of_groups, of_operand, of_query, of_rows}
use Rattle.qgm_translation.specs.Shown as w
use Rattle.qgm_translation.specs.Sources.{Sources}
use Rattle.qgm_translation.proofs.Loose.{source-clear, thing-clear}
use Rattle.qgm_translation.specs.Lays.{Low}

-- a box that shows something is there
pub shows-has : (sources : Sources) (ns : List Node) (b : ℕ) (thing : Thing) (m : Map) → Shows sources ns b thing m → has_box ns b ≡ true
shows-has sources [] b thing m h = absurd h
shows-has sources (n ∷ ns) b thing m h =
    elim (n.id == b) as (λ own. w.Either own (ShowsBox sources (Shows sources ns) thing m n) (Shows sources ns b thing m) → (own || has_box ns b) ≡ true) [
      | true ↦ (λ h. refl)
      | false ↦ (λ h. shows-has sources ns b thing m h)
    ] h

pub low-more : (k j : ℕ) (ns : List Node) → k ≤ j → Low k ns → Low j ns
low-more k j [] l h = tt
low-more k j (n ∷ ns) l h = (let x = h.0 in omega arith, low-more k j ns l h.1)

pub low-not : (k : ℕ) (ns : List Node) → Low k ns → has_box ns k ≡ false
low-not k [] h = refl
low-not k (n ∷ ns) h =
    let x = h.0 in
    let e = ne_eqb n.id k (λ (t : n.id ≡ k). absurd (omega arith)) in
    let r = low-not k ns h.1 in rw (e, r) refl

module _ (sources : Sources) (ns : List Node) (Below : ℕ → Thing → Map → Type 0) (there : (b : ℕ) (thing : Thing) (m : Map) → Below b thing m → has_box ns b ≡ true) where
  abbrev Over : List OwnedQuant → Type 0
  Over os = all_over ns os ≡ true

  over-next : (o : OwnedQuant) (os : List OwnedQuant) → has_box ns o.over ≡ true → Over os → Over (o ∷ os)
  over-next o os h k = rw (h, k) refl

  subs-over : (m : Map) (ls : List Leaf) (os : List OwnedQuant) → w.ShowsSubs sources Below m ls os → Over os
  subs-over m [] os h = ap (all_over ns) h
  subs-over m (sub f kind x ∷ ls) [] h = absurd h
  subs-over m (sub f kind x ∷ ls) (o ∷ os) h = over-next o os (there o.over (of_query x) (f ∷ m) h.3) (subs-over m ls os h.4)
  subs-over m (fold f distinct x ∷ ls) os h = subs-over m ls os h
  subs-over m (count ∷ ls) os h = subs-over m ls os h

  one-over : (x : From) (m : Map) (os : List OwnedQuant) → w.ShowsOne sources Below x m os → Over (rest_of os) → Over os
  one-over x m [] h u = absurd h
  one-over x m (o ∷ os) h u = over-next o os (there o.over (of_operand x) m h.1) u

  from-over : (x : From) (m : Map) (os : List OwnedQuant) → w.ShowsFrom sources Below x m os → Over (w.past sources x os) → Over os
  from-over (q.named name) m os h u = one-over (q.named name) m os h u
  from-over (q.derived query) m os h u = one-over (q.derived query) m os h u
  from-over (q.crossed x y) m os h u = from-over x m os h.0 (from-over y m (w.past sources x os) h.1 u)
  from-over (q.joined x y p) m os h u = from-over x m os h.0 (from-over y m (w.past sources x os) h.1 u)
  from-over (q.left_joined x y n p) m os h u = one-over (q.left_joined x y n p) m os h u

  froms-over : (xs : Froms) (m : Map) (os : List OwnedQuant) → w.ShowsFroms sources Below xs m os → Over (w.past_all sources xs os) → Over os
  froms-over q.no_from m os h u = u
  froms-over (q.one_from x xs) m os h u = from-over x m os h.0 (froms-over xs m (w.past sources x os) h.1 u)

  select-over : (d : Distinct) (from : Froms) (by : Test) (heads : Frame → List Leaf) (list : Frame → Slots → List Term) (m : Map) (b : Node) → w.ShowsSelect sources Below d from by heads list m b → Over b.quants
  select-over d from by heads list m b h = froms-over from m b.quants h.froms (subs-over m (w.all_leaves sources from by heads b.quants) (w.past_all sources from b.quants) h.subs)

  two-over : (P : OwnedQuant → OwnedQuant → Type 0) (os : List OwnedQuant) → w.Two os P → ((p r : OwnedQuant) → P p r → (has_box ns p.over ≡ true) × (has_box ns r.over ≡ true)) → Over os
  two-over P [] h f = absurd h
  two-over P (p ∷ []) h f = absurd h
  two-over P (p ∷ r ∷ []) h f = let x = f p r h.2 in over-next p (r ∷ []) x.0 (over-next r [] x.1 refl)
  two-over P (p ∷ r ∷ o ∷ os) h f = absurd h

  one_box-over : (P : OwnedQuant → Type 0) (os : List OwnedQuant) → w.One os P → ((p : OwnedQuant) → P p → has_box ns p.over ≡ true) → Over os
  one_box-over P [] h f = absurd h
  one_box-over P (p ∷ []) h f = over-next p [] (f p h.1) refl
  one_box-over P (p ∷ r ∷ os) h f = absurd h

  upper-over : (list : q.Values) (from : Froms) (by : Test) (places : List ℕ) (n : ℕ) (having : Test) (m : Map) (b : Node) (os : List OwnedQuant) → w.Upper sources Below list from by places n having m b os → Over os
  upper-over list from by places n having m b [] h = absurd h
  upper-over list from by places n having m b (u ∷ os) h =
      over-next u os (there u.over (of_groups from by places (w.upper_leaves (w.key_frame u.id places 0 n) list having)) m h.groups)
      (subs-over m (w.upper_leaves (w.key_frame u.id places 0 n) list having) os h.subs)

  query-over : (x : Query) (m : Map) (b : Node) → w.ShowsQuery sources Below x m b → Over b.quants
  query-over (q.block distinct list from by) m b h = select-over _ from by _ _ m b h
  query-over (q.grouped distinct list from by places n having) m b h = upper-over list from by (key_places places) n having m b b.quants h.upper
  query-over (q.combine x op all n y) m b h =
      two-over (λ p r. Below p.over (of_query x) m × Below r.over (of_query y) m) b.quants h.quants (λ p r e. (there p.over (of_query x) m e.0, there r.over (of_query y) m e.1))
  query-over (q.intersect x all n y) m b h =
      two-over (λ p r. Below p.over (of_query x) m × Below r.over (of_query y) m) b.quants h.quants (λ p r e. (there p.over (of_query x) m e.0, there r.over (of_query y) m e.1))

  source-over : (name : List ℕ) (view : Option Query) (b : Node) → w.ShowsSource sources Below name view b → Over b.quants
  source-over name None b h = ap (all_over ns) h.quants
  source-over name (Some view) b h = query-over view [] b h

  operand-over : (x : From) (m : Map) (b : Node) → w.ShowsOperand sources Below x m b → Over b.quants
  operand-over (q.named name) m b h = source-over name (sources.body name) b h.1
  operand-over (q.derived query) m b h = query-over query m b h
  operand-over (q.crossed x y) m b h = select-over _ _ _ _ _ m b h
  operand-over (q.joined x y p) m b h = select-over _ _ _ _ _ m b h
  operand-over (q.left_joined x y n p) m b h =
      two-over (λ a r. w.ShowsSides sources Below x y n p m b a r) b.quants h.quants (λ a r e. (there a.over (of_operand x) m e.left, there r.over (of_operand y) m e.right))

  pub thing-over : (thing : Thing) (m : Map) (b : Node) → ShowsBox sources Below thing m b → all_over ns b.quants ≡ true
  thing-over (of_query x) m b h = query-over x m b h
  thing-over (of_operand x) m b h = operand-over x m b h
  thing-over (of_rows from by places ls) m b h = select-over _ _ _ _ _ m b h.rows
  thing-over (of_groups from by places ls) m b h =
      one_box-over (λ p. Below p.over (of_rows from by places ls) m × (b.parts.head ≡ w.groups_list places ls p.id)) b.quants h.quants (λ p e. there p.over (of_rows from by places ls) m e.0)

-- ---- a box doesn't look up its own quantifiers

own-fresh : (q : ℕ) (m : Map) (os : List OwnedQuant) → list_all (λ o. fresh o.id m) os ≡ true → list_any (is_quant q) os ≡ true → fresh q m ≡ true
own-fresh q m [] h k = absurd (cc k)
own-fresh q m (o ∷ os) h k = by_case (o.id == q) refl (and_parts (fresh o.id m) (list_all (λ o. fresh o.id m) os) h) k (λ g j. own-fresh q m os g j)
  where
    by_case : (b : Bool) → (o.id == q) ≡ b → (fresh o.id m ≡ true) × (list_all (λ o. fresh o.id m) os ≡ true) → (b || list_any (is_quant q) os) ≡ true → (list_all (λ o. fresh o.id m) os ≡ true → list_any (is_quant q) os ≡ true → fresh q m ≡ true) → fresh q m ≡ true
    by_case true e p k f = subst (λ z. fresh z m ≡ true) (eqb-true o.id q e) p.0
    by_case false e p k f = f p.1 k

module _ (sources : Sources) (n : ℕ) (below : ℕ → ℕ → Bool) (Below : ℕ → Thing → Map → Type 0) (clear : (b : ℕ) (thing : Thing) (m : Map) → Below b thing m → fresh n m ≡ true → below b n ≡ false) where
  numbered-settled : (thing : Thing) (m : Map) (b : Node) → ShowsBox sources Below thing m b → w.Numbered m b.quants → owns n b ≡ true → loose_of b below n ≡ false
  numbered-settled thing m b h numbered own = thing-clear n below sources Below clear thing m b h (own-fresh n m b.quants numbered.1 own)

  query-settled : (x : Query) (m : Map) (b : Node) → w.ShowsQuery sources Below x m b → owns n b ≡ true → loose_of b below n ≡ false
  query-settled (q.block distinct list from by) m b h own = numbered-settled (of_query (q.block distinct list from by)) m b h h.plain.numbered own
  query-settled (q.grouped distinct list from by places i having) m b h own = numbered-settled (of_query (q.grouped distinct list from by places i having)) m b h h.plain.numbered own
  query-settled (q.combine x op all i y) m b h own = numbered-settled (of_query (q.combine x op all i y)) m b h h.plain.numbered own
  query-settled (q.intersect x all i y) m b h own = numbered-settled (of_query (q.intersect x all i y)) m b h h.plain.numbered own

  pub thing-settled : (thing : Thing) (m : Map) (b : Node) → ShowsBox sources Below thing m b → owns n b ≡ true → loose_of b below n ≡ false
  thing-settled (of_query x) m b h own = query-settled x m b h own
  thing-settled (of_operand (q.named name)) m b h own = source-clear n below sources Below clear name (sources.body name) b h.1
  thing-settled (of_operand (q.derived query)) m b h own = query-settled query m b h own
  thing-settled (of_operand (q.crossed x y)) m b h own = numbered-settled (of_operand (q.crossed x y)) m b h h.plain.numbered own
  thing-settled (of_operand (q.joined x y p)) m b h own = numbered-settled (of_operand (q.joined x y p)) m b h h.plain.numbered own
  thing-settled (of_operand (q.left_joined x y i p)) m b h own = numbered-settled (of_operand (q.left_joined x y i p)) m b h h.plain.numbered own
  thing-settled (of_rows from by places ls) m b h own = numbered-settled (of_rows from by places ls) m b h h.rows.plain.numbered own
  thing-settled (of_groups from by places ls) m b h own = numbered-settled (of_groups from by places ls) m b h h.plain.numbered own
