-- A box that shows a query has as many columns as the query.
use Rattle.std.proofs.Common.{◌≡◌, ℕ, zero, suc, ◌+◌, ◌==◌, cond, true, false, List, [], ◌∷◌, ◌++◌, map, length, Option, Some, None, refl, ap, ap₂, ◌∙◌, arith}
use Rattle.std.proofs.lemmas.List.{length-append}
use Rattle.sql_meaning.specs.ResolvedTrees.{Values, From, Froms, Query}
use Rattle.sql_meaning.specs.ResolvedTrees as q
use Rattle.qgm_core.specs.declared.node.Node.{Node}
use Rattle.qgm_core.specs.declared.owned.OwnedQuant.{OwnedQuant}
use Rattle.qgm_meaning.specs.Widths.{width_in}
use Rattle.qgm_core.specs.Kinds.{width_by}
use Rattle.qgm_translation.specs.Leaves.{Slots, after, leaves, list_leaves}
use Rattle.qgm_translation.specs.Maps.{Frame, Map, ref_term}
use Rattle.qgm_translation.specs.Shown.{Shows, ShowsBox, Thing, of_groups, of_operand, of_query, of_rows, refs}
use Rattle.qgm_translation.specs.Shown as w
use Rattle.qgm_translation.specs.Sources.{Sources, from_width, how_many_values, width}
use Rattle.qgm_translation.specs.Terms as l
use Rattle.qgm_translation.specs.Law.{Counts, ViewsCounted}
use Rattle.qgm_translation.proofs.Wide.{map-length}

terms-length : (sources : Sources) (fr : Frame) (m : Map) (s : Slots) (xs : Values) → length (l.terms sources fr m s xs) ≡ how_many_values xs
terms-length sources fr m s q.no_value = refl
terms-length sources fr m s (q.one_value x xs) = ap suc (terms-length sources fr m (after (leaves fr x) s) xs)

refs-length : (q k n : ℕ) → length (refs q k n) ≡ n
refs-length q k zero = refl
refs-length q k (suc n) = ap suc (refs-length q (suc k) n)

types-length : {X : Type 0} (f : _ → X) (q k n : ℕ) → length (map f (w.columns_of q k n)) ≡ n
types-length f q k n = map-length f (w.columns_of q k n) ∙ map-length ref_term (refs q k n) ∙ refs-length q k n

frame-length : (sources : Sources) (x : From) (os : List OwnedQuant) → length (w.frame sources x os) ≡ from_width sources x
frame-length sources (q.named name) os = refs-length (w.first_id os) 1 (sources.columns name)
frame-length sources (q.derived query) os = refs-length (w.first_id os) 1 (width query)
frame-length sources (q.crossed x y) os =
    length-append (w.frame sources x os) (w.frame sources y (w.past sources x os)) ∙ ap₂ ◌+◌ (frame-length sources x os) (frame-length sources y (w.past sources x os))
frame-length sources (q.joined x y p) os =
    length-append (w.frame sources x os) (w.frame sources y (w.past sources x os)) ∙ ap₂ ◌+◌ (frame-length sources x os) (frame-length sources y (w.past sources x os))
frame-length sources (q.left_joined x y n p) os = refs-length (w.first_id os) 1 (from_width sources x + n)

module _ (sources : Sources) (counted : ViewsCounted sources) (Below : ℕ → Thing → Map → Type 0) where
  abbrev columns_by : Node → ℕ
  columns_by b = width_by b.parts.kind (length b.parts.head)

  query-counted : (x : Query) (m : Map) (b : Node) → w.ShowsQuery sources Below x m b → columns_by b ≡ width x
  query-counted (q.block distinct list from by) m b h =
      ap (λ kind. width_by kind (length b.parts.head)) h.kind ∙ ap length h.head
      ∙ terms-length sources (w.frame_all sources from b.quants) m (w.slots_of (w.all_leaves sources from by (λ fr. list_leaves fr list) b.quants) (w.past_all sources from b.quants)) list
  query-counted (q.grouped distinct list from by places n having) m b h =
      ap (λ kind. width_by kind (length b.parts.head)) h.kind ∙ upper b.quants h.upper
    where
      upper : (os : List OwnedQuant) → w.Upper sources Below list from by (w.key_places places) n having m b os → length b.parts.head ≡ how_many_values list
      upper [] h = absurd h
      upper (u ∷ os) h = ap length h.head ∙ terms-length sources (w.key_frame u.id (w.key_places places) 0 n) m _ list
  query-counted (q.combine x op all n y) m b h = ap (λ kind. width_by kind (length b.parts.head)) h.kind ∙ types-length sources.typed (w.first_id b.quants) 1 n
  query-counted (q.intersect x all n y) m b h = ap (λ kind. width_by kind (length b.parts.head)) h.kind ∙ types-length sources.typed (w.first_id b.quants) 1 n

  source-counted : (name : List ℕ) (view : Option Query) (b : Node) → w.ShowsSource sources Below name view b → Counts sources name view → columns_by b ≡ sources.columns name
  source-counted name None b h c = ap (λ kind. width_by kind (length b.parts.head)) h.kind ∙ h.types
  source-counted name (Some view) b h c = query-counted view [] b h ∙ c

  flat-counted : (x : From) (m : Map) (b : Node) → w.ShowsFlat sources Below x m b → columns_by b ≡ from_width sources x
  flat-counted x m b h =
      ap (λ kind. width_by kind (length b.parts.head)) h.kind ∙ ap length h.head ∙ map-length ref_term (w.frame_all sources (q.one_from x q.no_from) b.quants)
      ∙ length-append (w.frame sources x b.quants) [] ∙ (let e : length (w.frame sources x b.quants) + 0 ≡ length (w.frame sources x b.quants) = omega arith in e) ∙ frame-length sources x b.quants

  outer-counted : (x y : From) (n : ℕ) (p : q.Test) (m : Map) (b : Node) (os : List OwnedQuant) → w.Two os (λ a r. w.ShowsSides sources Below x y n p m b a r) → length b.parts.head ≡ from_width sources x + n
  outer-counted x y n p m b [] h = absurd h
  outer-counted x y n p m b (a ∷ []) h = absurd h
  outer-counted x y n p m b (a ∷ r ∷ o ∷ os) h = absurd h
  outer-counted x y n p m b (a ∷ r ∷ []) h =
      ap length h.2.head ∙ map-length ref_term (refs a.id 1 (from_width sources x) ++ refs r.id 1 n) ∙ length-append (refs a.id 1 (from_width sources x)) (refs r.id 1 n)
      ∙ ap₂ ◌+◌ (refs-length a.id 1 (from_width sources x)) (refs-length r.id 1 n)

  pub operand-counted : (x : From) (m : Map) (b : Node) → w.ShowsOperand sources Below x m b → columns_by b ≡ from_width sources x
  operand-counted (q.named name) m b h = source-counted name (sources.body name) b h.1 (counted name)
  operand-counted (q.derived query) m b h = query-counted query m b h
  operand-counted (q.crossed x y) m b h = flat-counted (q.crossed x y) m b h
  operand-counted (q.joined x y p) m b h = flat-counted (q.joined x y p) m b h
  operand-counted (q.left_joined x y n p) m b h = ap (λ kind. width_by kind (length b.parts.head)) h.kind ∙ outer-counted x y n p m b b.quants h.quants

pub shown-counted : (sources : Sources) → ViewsCounted sources → (ns : List Node) (b : ℕ) (x : Query) (m : Map) → Shows sources ns b (of_query x) m → width_in ns b ≡ width x
shown-counted sources counted [] b x m h = absurd h
shown-counted sources counted (n ∷ ns) b x m h =
    elim (n.id == b) as (λ own. w.Either own (ShowsBox sources (Shows sources ns) (of_query x) m n) (Shows sources ns b (of_query x) m) → cond own (width_by n.parts.kind (length n.parts.head)) (width_in ns b) ≡ width x) [
      | true ↦ (λ h. query-counted sources counted (Shows sources ns) x m n h)
      | false ↦ (λ h. shown-counted sources counted ns b x m h)
    ] h

pub operand-shown : (sources : Sources) → ViewsCounted sources → (ns : List Node) (b : ℕ) (x : From) (m : Map) → Shows sources ns b (of_operand x) m → width_in ns b ≡ from_width sources x
operand-shown sources counted [] b x m h = absurd h
operand-shown sources counted (n ∷ ns) b x m h =
    elim (n.id == b) as (λ own. w.Either own (ShowsBox sources (Shows sources ns) (of_operand x) m n) (Shows sources ns b (of_operand x) m) → cond own (width_by n.parts.kind (length n.parts.head)) (width_in ns b) ≡ from_width sources x) [
      | true ↦ (λ h. operand-counted sources counted (Shows sources ns) x m n h)
      | false ↦ (λ h. operand-shown sources counted ns b x m h)
    ] h
