-- What is built of a query with types is well-formed.
use Rattle.std.proofs.Common.{inl, inr, ◌≡◌, ◌≤◌, ℕ, ◌==◌, ◌&&◌, ◌||◌, not, Bool, true, false, cond, List, [], ◌∷◌, Option, Some, None, refl, ap, ap₂, sym, ◌∙◌, subst, arith}
use Rattle.std.specs.Prelude.{nat_lt}
use Rattle.std.specs.List.{list_all, list_any}
use Rattle.std.proofs.lemmas.Bool.{and_parts, cases_Bool, eqb-true, or_cases, or_left, or_right}
use Rattle.sql_value.specs.declared.order_key.OrderKey.{OrderKey}
use Rattle.sql_value.specs.declared.order_key.SqlType.{SqlType}
use Rattle.sql_meaning.specs.ResolvedTrees.{Query}
use Rattle.sql_meaning.specs.ResolvedTrees as q
use Rattle.qgm_core.specs.Boxes.{Ordered, QueryGraph, has_box, ids_in, ids_of, is_box, is_quant, overs_in, owns, width}
use Rattle.qgm_core.specs.Free.{free_in, is_owned, named_by, reached as reached_by}
use Rattle.qgm_core.specs.Kinds.{is_A, is_E, is_F, is_S}
use Rattle.list_laws.specs.Lists.{In, first, holds}
use Rattle.qgm_core.specs.declared.node.Node.{Node}
use Rattle.qgm_core.specs.declared.owned.OwnedQuant.{OwnedQuant}
use Rattle.qgm_core.specs.declared.kinds.BoxKind.{BoxKind}
use Rattle.qgm_core.specs.declared.kinds.BoxKind.TheVariants.{Base}
use Rattle.qgm_core.specs.declared.kinds.QuantKind.{QuantKind}
use Rattle.qgm_terms.specs.declared.named.QuantNode.{QuantNode}
use Rattle.qgm_terms.specs.declared.named.QuantNode.TheVariants as node
use Rattle.qgm_wellformed.specs.Columns.{columns_fit, places_fit}
use Rattle.qgm_wellformed.specs.Shapes.{is_scalar, is_scalar_in, node_fits, shape_fits}
use Rattle.qgm_wellformed.specs.View.{in_view, is_row, viewers}
use Rattle.qgm_wellformed.specs.WellFormed.{at_no_box, clauses, fault, fault_or, faults, first_fault, ids_known, is_counted, is_empty, keeps, least, names_in_view, once, opened_once, owned_once, permit_unseen}
use Rattle.qgm_wellformed.specs.declared.clause.Clause.{Clause}
use Rattle.qgm_wellformed.specs.declared.clause.Clause.TheVariants.{I1, I2, I3, I4, I5, I6, I7, I8, I9}
use Rattle.qgm_translation.specs.Maps.{Map, fresh}
use Rattle.qgm_translation.specs.Shown as v
use Rattle.qgm_translation.specs.Shown.{Shows, Thing, of_operand, of_query, uses}
use Rattle.qgm_translation.specs.Sources.{Sources}
use Rattle.qgm_edit_laws.proofs.Scope.{in-first}
use Rattle.qgm_translation_laws.specs.Formed.{BuiltTyped, BuiltWhole}
use Rattle.qgm_translation_laws.proofs.Agreed as agreed
use Rattle.qgm_translation_laws.proofs.Agreed.{shows-has}
use Rattle.qgm_translation_laws.proofs.Boxes as boxes
use Rattle.qgm_translation_laws.proofs.Clauses.{columns-all, holds-none, names-all, names-owned, nodes-all, once-of, wide}
use Rattle.qgm_translation_laws.proofs.Frames.{map-none}
use Rattle.qgm_translation_laws.proofs.Levels as levels
use Rattle.qgm_translation_laws.proofs.Parts.{node_of}
use Rattle.qgm_translation_laws.proofs.Passes.{none-free, reached-more, reached-under, uses-times}
use Rattle.qgm_translation_laws.proofs.Reached as reached
use Rattle.qgm_translation_laws.proofs.Reached.{lt-true, unused}
use Rattle.qgm_translation_laws.proofs.Shaped.{lt-some, placed, thing-plain, thing-shape}
use Rattle.qgm_core.proofs.Reaching.{overs-held}
use Rattle.list_laws.proofs.Counting.{in-times, times-in}
use Rattle.list_laws.proofs.Membership.{all-from, any-from, any-in, eq-itself}
use Rattle.list_laws.proofs.Booleans.{clash}

-- ---- quantifiers of a box

row-owned : (q : ℕ) (os : List OwnedQuant) → is_row q os ≡ true → list_any (is_quant q) os ≡ true
row-owned q os h = let r = any-in (λ o. is_quant q o && is_F o.kind) os h in any-from (is_quant q) r.0 os r.1.0 (and_parts (is_quant q r.0) (is_F r.0.kind) r.1.1).0

kind-owned : (p : QuantKind → Bool) (q : ℕ) (os : List OwnedQuant) → list_any (λ o. is_quant q o && p o.kind) os ≡ true → list_any (is_quant q) os ≡ true
kind-owned p q os h = let r = any-in (λ o. is_quant q o && p o.kind) os h in any-from (is_quant q) r.0 os r.1.0 (and_parts (is_quant q r.0) (p r.0.kind) r.1.1).0

node-owned : (x : QuantNode) (os : List OwnedQuant) → node_fits os x ≡ true → list_any (is_quant (node_of x)) os ≡ true
node-owned (node.Scalar q) os h = kind-owned is_S q os h
node-owned (node.Some q) os h = kind-owned is_E q os h
node-owned (node.Every q) os h = kind-owned is_A q os h

module _ (kinds : List ℕ → List SqlType) (sources : Sources) (query : Query) (types : List SqlType) (names : List (Option (List ℕ))) (order : List OrderKey) (g : QueryGraph) (whole : BuiltWhole kinds sources query types names order g) where
  abbrev b : BuiltTyped kinds sources query types names order g
  b = whole.typed

  abbrev bs : List Node
  bs = g.boxes

  -- ---- nothing is free in what sees nothing

  module _ (s : ℕ) where
    abbrev R : List ℕ
    R = reached_by (s ∷ []) bs

    abbrev Owned : ℕ → Map → Type 0
    Owned c m = (holds c R ≡ true) × ((q : ℕ) → fresh q m ≡ false → is_owned R bs q ≡ true)

    owned-none : (c : ℕ) (m : Map) → Owned c m → Owned c []
    owned-none c m h = (h.0, λ q k. absurd (cc k))

    owned-here : (n : Node) → In n bs → holds n.id R ≡ true → (q : ℕ) → list_any (is_quant q) n.quants ≡ true → is_owned R bs q ≡ true
    owned-here n i h q k = any-from (λ n. holds n.id R && owns q n) n bs i (ap₂ ◌&&◌ h k)

    owned-child : (n : Node) → In n bs → (m : Map) → Owned n.id m → (o : OwnedQuant) → In o n.quants → (x : Map) → reached.Visible bs b.ordered b.once kinds sources b.typed.counted b.typed.named b.told n m o x → Owned o.over x
    owned-child n i m w o j x vis =
        (reached-under (s ∷ []) bs b.ordered n i o j w.0, λ q k. elim (vis q k) [ inl f ↦ w.1 q f | inr f ↦ owned-here n i w.0 q (row-owned q n.quants f.1) ])

    abbrev EachOwned : List Node → Type 0
    EachOwned ns = reached.EachShown bs b.ordered b.once kinds sources b.typed.counted b.typed.named b.told Owned owned-none owned-child R ns

    each-owned : (ns : List Node) → ((n : Node) → In n ns → In n bs) → EachOwned ns → (n : Node) → In n ns → holds n.id R ≡ true → list_all (is_owned R bs) (named_by n) ≡ true
    each-owned [] sub h n i r = absurd i
    each-owned (c ∷ cs) sub h n (inr j) r = each-owned cs (λ z k. sub z (inr k)) h.1 n j r
    each-owned (c ∷ cs) sub h n (inl e) r =
        let k = h.0 (subst (λ (z : Node). holds z.id R ≡ true) (sym e) r) in
        let i = sub c (inl refl) in
        let w = k.1.1.1.1.4 in
        subst (λ (z : Node). list_all (is_owned R bs) (named_by z) ≡ true) e
        (names-all bs b.ordered b.once kinds sources b.typed.counted k.1.1.0 (boxes.map_of k.0 k.1.0) c k.1.1.1.0 k.1.1.1.1.1 (is_owned R bs)
        (λ q p a z. elim z.1 [ inl f ↦ owned-here c i w.0 q (row-owned q c.quants f) | inr f ↦ w.1 q f ]) (λ x z. owned-here c i w.0 (node_of x) (node-owned x c.quants z.0)))

    closed : (thing : Thing) (found : List SqlType) → Shows sources bs s thing []
        → boxes.ThingIs kinds sources b.typed.counted (levels.Over bs b.ordered b.once) (levels.more bs b.ordered b.once) (levels.Ranges bs b.ordered b.once) [] thing found → is_empty (free_in bs s) ≡ true
    closed thing found shows is =
        none-free bs s (λ n i r. each-owned bs (λ z j. j)
        (reached.from-here bs b.ordered b.once kinds sources b.typed.counted b.typed.named b.told Owned owned-none owned-child s
        (thing, ([], ([], (found, (0, (shows, map-none (levels.Column bs b.ordered b.once kinds sources b.typed.counted 0), is, (reached-more s (s ∷ []) bs (or_left (s == s) false (eq-itself s)), λ q k. absurd (cc k)))))))))
        n i r)

  root-closed : is_empty (free_in bs g.root) ≡ true
  root-closed = closed g.root (of_query query) types b.built.shows b.gives

  -- ---- the clauses, box by box

  all-known : (n : Node) → In n bs → ids_known bs n ≡ true
  all-known n i =
      let k = (agreed.known-box kinds sources query types names order g b n i).1.0 in
      ap₂ ◌&&◌ (all-from (λ r. has_box bs r.over) n.quants (λ r j. overs-held bs n r b.ordered i j)) (names-owned bs b.ordered b.once kinds sources b.typed.counted k.1.1.0 (boxes.map_of k.0 k.1.0) n k.1.1.1.0 k.1.1.1.1.1)

  all-once : (n : Node) → In n bs → owned_once bs n ≡ true
  all-once n i =
      all-from (λ r. once r.id (ids_in bs)) n.quants (λ r j.
      let few = b.once r.id in
      let some = in-times (λ (r : OwnedQuant). r.id) r n.quants j in
      let less = times-in ids_of r.id n bs i in
      once-of r.id (ids_in bs) (omega arith))

  base-fits : (e : ℕ) (m : Map) (n : Node) (found : List SqlType) (thing : Thing) (c : Map) (ns : List Node) → v.ShowsBox sources (Shows sources ns) thing c n → (kind : BoxKind) → n.parts.kind ≡ kind → ((name : List ℕ) → places_fit (Base (sources.stored name)) ≡ true) → places_fit n.parts.kind ≡ true
  base-fits e m n found thing c ns h kind k f = thing-fits thing h
    where
      query-fits : (x : Query) (c : Map) → v.ShowsQuery sources (Shows sources ns) x c n → places_fit n.parts.kind ≡ true
      query-fits (q.block distinct list from by) c h = ap places_fit h.kind
      query-fits (q.grouped distinct list from by places w having) c h = ap places_fit h.kind
      query-fits (q.combine x op all w y) c h = ap places_fit h.kind
      query-fits (q.intersect x all w y) c h = ap places_fit h.kind

      source-fits : (name : List ℕ) (view : Option Query) → v.ShowsSource sources (Shows sources ns) name view n → places_fit n.parts.kind ≡ true
      source-fits name None h = ap places_fit h.kind ∙ f name
      source-fits name (Some body) h = query-fits body [] h

      thing-fits : (thing : Thing) → v.ShowsBox sources (Shows sources ns) thing c n → places_fit n.parts.kind ≡ true
      thing-fits (of_query x) h = query-fits x c h
      thing-fits (of_operand (q.named name)) h = source-fits name (sources.body name) h.1
      thing-fits (of_operand (q.derived x)) h = query-fits x c h
      thing-fits (of_operand (q.crossed x y)) h = ap places_fit h.kind
      thing-fits (of_operand (q.joined x y p)) h = ap places_fit h.kind
      thing-fits (of_operand (q.left_joined x y w p)) h = ap places_fit h.kind
      thing-fits (v.of_rows from by places ls) h = ap places_fit h.rows.kind
      thing-fits (v.of_groups from by places ls) h = ap places_fit h.kind

  all-columns : (n : Node) → In n bs → columns_fit bs n ≡ true
  all-columns n i =
      let x = agreed.known-box kinds sources query types names order g b n i in
      let k = x.1.0 in
      ap₂ ◌&&◌ (base-fits k.1.1.0 (boxes.map_of k.0 k.1.0) n k.1.1.1.0 k.0 k.1.0 x.0 k.1.1.1.1.0 n.parts.kind refl whole.placed)
      (columns-all bs b.ordered b.once kinds sources b.typed.counted k.1.1.0 (boxes.map_of k.0 k.1.0) n k.1.1.1.0 k.1.1.1.1.1)

  all-in-view : (n : Node) → In n bs → names_in_view g.root bs n ≡ true
  all-in-view n i =
      let k = (agreed.known-box kinds sources query types names order g b n i).1.0 in
      ap₂ ◌&&◌
      (names-all bs b.ordered b.once kinds sources b.typed.counted k.1.1.0 (boxes.map_of k.0 k.1.0) n k.1.1.1.0 k.1.1.1.1.1 (in_view bs n)
      (λ q p a z. elim z.1 [ inl f ↦ or_left (owns q n) (holds n.id (viewers q [] bs)) (row-owned q n.quants f) | inr f ↦ or_right (owns q n) (holds n.id (viewers q [] bs)) (k.1.1.1.1.4 q f) ])
      (λ x z. or_left (owns (node_of x) n) (holds n.id (viewers (node_of x) [] bs)) (node-owned x n.quants z.0)))
      (elim (cases_Bool (n.id == g.root)) [
        | inr e ↦ ap (λ z. not z || is_empty (free_in bs n.id)) e
        | inl e ↦ or_right (not (n.id == g.root)) (is_empty (free_in bs n.id)) (ap (λ z. is_empty (free_in bs z)) (eqb-true n.id g.root e) ∙ root-closed)
      ])

  all-plain : (n : Node) → In n bs → permit_unseen g.root bs n ≡ true
  all-plain n i =
      let x = agreed.known-box kinds sources query types names order g b n i in
      let k = x.1.0 in
      ap (λ z. not z || not ((n.id == g.root) || is_counted bs n.id)) (thing-plain sources (Shows sources x.0) n k.0 k.1.0 k.1.1.1.1.0).permit

  -- ---- uses

  root-unused : uses g.root bs ≡ 0
  root-unused = first_is bs b.ordered b.built.used (shows-has sources bs g.root (of_query query) [] b.built.shows)
    where
      first_is : (ns : List Node) → Ordered ns → list_all (λ n. (n.id == g.root) || nat_lt 0 (uses n.id ns)) ns ≡ true → has_box ns g.root ≡ true → uses g.root ns ≡ 0
      first_is [] o u h = refl
      first_is (c ∷ cs) o u h =
          let none : uses c.id (c ∷ cs) ≡ 0 = (let x = reached.over-none c.id cs c.quants o.1 o.0 in let y = unused c.id cs o.2 o.0 in omega arith) in
          elim (or_cases (c.id == g.root) (nat_lt 0 (uses c.id (c ∷ cs))) (and_parts ((c.id == g.root) || nat_lt 0 (uses c.id (c ∷ cs))) (list_all (λ n. (n.id == g.root) || nat_lt 0 (uses n.id (c ∷ cs))) cs) u).0) [
            | inl t ↦ subst (λ z. uses z (c ∷ cs) ≡ 0) (eqb-true c.id g.root t) none
            | inr t ↦ absurd (let l = lt-true 0 (uses c.id (c ∷ cs)) t in omega arith)
          ]

  used-some : (ns : List Node) → list_all (λ n. (n.id == g.root) || nat_lt 0 (uses n.id bs)) ns ≡ true → (n : Node) → In n ns → (n.id == g.root) ≡ false → 1 ≤ uses n.id bs
  used-some [] u n i e = absurd i
  used-some (c ∷ cs) u n (inl s) e =
      subst (λ (z : Node). 1 ≤ uses z.id bs) s
      (elim (or_cases (c.id == g.root) (nat_lt 0 (uses c.id bs)) (and_parts ((c.id == g.root) || nat_lt 0 (uses c.id bs)) (list_all (λ n. (n.id == g.root) || nat_lt 0 (uses n.id bs)) cs) u).0) [
        | inl t ↦ absurd (clash (n.id == g.root) (ap (λ (z : Node). z.id == g.root) (sym s) ∙ t) e)
        | inr t ↦ (let l = lt-true 0 (uses c.id bs) t in omega arith)
      ])
  used-some (c ∷ cs) u n (inr j) e = used-some cs (and_parts ((c.id == g.root) || nat_lt 0 (uses c.id bs)) (list_all (λ n. (n.id == g.root) || nat_lt 0 (uses n.id bs)) cs) u).1 n j e

  all-opened : (n : Node) → In n bs → opened_once g.root bs n ≡ true
  all-opened n i = elim (n.id == g.root) as (λ c. (n.id == g.root) ≡ c → cond c (not (holds n.id (overs_in bs))) (is_empty (free_in bs n.id) || once n.id (overs_in bs)) ≡ true) [
    | true ↦ (λ e. ap (λ z. not (holds z (overs_in bs))) (eqb-true n.id g.root e) ∙ ap not (holds-none g.root (overs_in bs) (uses-times g.root bs ∙ root-unused)))
    | false ↦ (λ e. elim (whole.apart n.id) [
      | inl few ↦ (let some = used-some bs b.built.used n i e in let t = uses-times n.id bs in or_right (is_empty (free_in bs n.id)) (once n.id (overs_in bs)) (once-of n.id (overs_in bs) (omega arith)))
      | inr shared ↦ or_left (is_empty (free_in bs n.id)) (once n.id (overs_in bs)) (closed n.id (of_operand (q.named shared.0)) (kinds shared.0) shared.1 refl)
    ])
  ] refl

  -- ---- shapes

  scalar-wide : (n : Node) → In n bs → is_scalar bs n.id ≡ true → nat_lt 0 (width n) ≡ true
  scalar-wide n i h =
      let a = any-in (λ c. is_scalar_in c.quants n.id) bs h in
      let o = any-in (λ r. (r.over == n.id) && is_S r.kind) a.0.quants a.1.1 in
      let both = and_parts (o.0.over == n.id) (is_S o.0.kind) o.1.1 in
      let x = agreed.known-box kinds sources query types names order g b a.0 a.1.0 in
      let k = x.1.0 in
      child x.0 x.1.1 a.0 (boxes.map_of k.0 k.1.0) a.0.quants k.1.1.1.1.2 o.0 o.1.0 (eqb-true o.0.over n.id both.0) both.1
    where
      child : (ns : List Node) → ((z : Node) → In z ns → In z bs) → (c : Node) (m : Map) (os : List OwnedQuant) → reached.Each bs b.ordered b.once kinds sources b.typed.counted (Shows sources ns) c m os → (o : OwnedQuant) → In o os → o.over ≡ n.id → is_S o.kind ≡ true → nat_lt 0 (width n) ≡ true
      child ns sub c m [] h o i e s = absurd i
      child ns sub c m (x ∷ os) h o (inr j) e s = child ns sub c m os h.1 o j e s
      child ns sub c m (x ∷ os) h o (inl same) e s =
          let f = h.0 in
          let over = reached.over bs b.ordered b.once kinds sources b.typed.counted b.typed.named b.told ns sub x.over f.0 f.1.0 f.1.1.0 f.1.1.1.0 f.1.1.1.1.0 f.1.1.1.1.1.0 f.1.1.1.1.1.1 f.1.1.1.1.1.2 in
          let at : x.over ≡ n.id = ap (λ (z : OwnedQuant). z.over) same ∙ e in
          lt-some f.1.1.1.0 (width n) (f.1.1.1.1.1.4 (ap (λ (z : OwnedQuant). is_S z.kind) same ∙ s))
          (wide bs b.ordered b.once (reached.lev ns f.1.1.1.1.0) x.over f.1.1.1.0 n over (ap (λ z. first (is_box z) bs) at ∙ in-first n bs b.ordered i))

  all-shaped : (n : Node) → In n bs → shape_fits g.root bs n ≡ true
  all-shaped n i =
      let x = agreed.known-box kinds sources query types names order g b n i in
      let k = x.1.0 in
      let plain = thing-plain sources (Shows sources x.0) n k.0 k.1.0 k.1.1.1.1.0 in
      let m = boxes.map_of k.0 k.1.0 in
      ap₂ (λ a c. a && c) (ap₂ ◌&&◌ (ap₂ ◌&&◌
      (thing-shape bs b.ordered b.once kinds sources b.typed.counted b.typed.named g.root (Shows sources x.0) k.0 k.1.1.0 k.1.0 k.1.1.1.1.3.0 n k.1.1.1.0 k.1.1.1.1.0 k.1.1.1.1.3.1 k.1.1.1.1.1)
      (nodes-all bs b.ordered b.once kinds sources b.typed.counted k.1.1.0 m n k.1.1.1.0 k.1.1.1.1.1))
      (placed bs b.ordered b.once kinds sources b.typed.counted b.typed.named g.root k.1.1.0 m n k.1.1.1.0 plain.numbered k.1.1.1.1.1))
      (elim (cases_Bool (is_scalar bs n.id)) [ inr e ↦ ap (λ z. not z || nat_lt 0 (width n)) e | inl e ↦ or_right (not (is_scalar bs n.id)) (nat_lt 0 (width n)) (scalar-wide n i e) ])

  -- ---- all clauses

  kept : (c : Clause) (ns : List Node) → ((n : Node) → In n ns → In n bs) → Ordered ns → (n : Node) (rest : List Node) → ns ≡ n ∷ rest → keeps c g.root bs rest n ≡ true
  kept I1 ns sub o n rest e = all-known n (sub n (subst (In n) (sym e) (inl refl)))
  kept I2 ns sub o n rest e = all-once n (sub n (subst (In n) (sym e) (inl refl)))
  kept I3 ns sub o n rest e = (subst Ordered e o).1
  kept I4 ns sub o n rest e = all-columns n (sub n (subst (In n) (sym e) (inl refl)))
  kept I5 ns sub o n rest e = agreed.types-kept kinds sources query types names order g b n (sub n (subst (In n) (sym e) (inl refl)))
  kept I6 ns sub o n rest e = all-in-view n (sub n (subst (In n) (sym e) (inl refl)))
  kept I7 ns sub o n rest e = all-opened n (sub n (subst (In n) (sym e) (inl refl)))
  kept I8 ns sub o n rest e = all-plain n (sub n (subst (In n) (sym e) (inl refl)))
  kept I9 ns sub o n rest e = all-shaped n (sub n (subst (In n) (sym e) (inl refl)))

  at-none : (c : Clause) → at_no_box c g.root bs ≡ []
  at-none I1 = ap (λ (z : Bool). cond z [] (18446744073709551615 ∷ [])) (shows-has sources bs g.root (of_query query) [] b.built.shows)
  at-none I2 = refl
  at-none I3 = refl
  at-none I4 = refl
  at-none I5 = refl
  at-none I6 = refl
  at-none I7 = refl
  at-none I8 = refl
  at-none I9 = refl

  faults-none : (c : Clause) (ns : List Node) → ((n : Node) → In n ns → In n bs) → Ordered ns → faults c g.root bs ns ≡ []
  faults-none c [] sub o = at-none c
  faults-none c (n ∷ ns) sub o =
      ap (λ (z : Bool). cond z (faults c g.root bs ns) (n.id ∷ faults c g.root bs ns)) (kept c (n ∷ ns) sub o n ns refl) ∙ faults-none c ns (λ z i. sub z (inr i)) o.2

  none-of : (cs : List Clause) → first_fault cs g.root bs ≡ None
  none-of [] = refl
  none-of (c ∷ cs) = ap (λ z. fault_or c (least z) (first_fault cs g.root bs)) (faults-none c bs (λ n i. i) b.ordered) ∙ none-of cs

  pub well-formed : fault g ≡ None
  well-formed = none-of clauses
