-- L3: under a union alone the root's bag means the same.
use Rattle.std.proofs.Common.{ℕ, ◌==◌, ◌≡◌, cond, true, false, List, [], ◌∷◌, ◌++◌, map, length, None, Some, refl, sym, ap, ap₂, subst, ◌∙◌, eqb-true, inl, inr, arith}
use Rattle.std.specs.List.{list_any}
use Rattle.std.proofs.lemmas.Bool.{cases_Bool, or_parts}
use Rattle.std.specs.Prelude.{ℕ, ◌≡◌, ◌++◌, true, false, List, [], ◌∷◌, map, None}
use Rattle.sql_value.specs.declared.order_key.SqlType.{SqlType}
use Rattle.row_bag.specs.Bags.{Agree, Alike}
use Rattle.row_bag.specs.Sets.{SameLevels, distinct, same_cells}
use Rattle.row_bag.specs.declared.tables.Table.{Table}
use Rattle.row_bag.proofs.Agreement.{alike-same}
use Rattle.row_bag.proofs.Counts.{agree-from_alike}
use Rattle.row_bag.proofs.GreatestLevels.{distinct-levels, levels-append, levels-distinct, levels-refl, levels-sym}
use Rattle.row_bag.proofs.TupleBags.{same_cells-decides}
use Rattle.qgm_core.specs.Boxes.{QueryGraph, ids_of, is_quant, numbers, overs_in}
use Rattle.qgm_core.specs.Edits.{set_distinct, with_distinct}
use Rattle.qgm_core.specs.Kinds.{is_enforce}
use Rattle.list_laws.specs.Lists.{EachOnce, In, first, times}
use Rattle.qgm_core.specs.declared.kinds.BoxKind.TheVariants.{SetOp}
use Rattle.qgm_core.specs.declared.kinds.SetOperator.TheVariants.{Union}
use Rattle.qgm_core.specs.declared.kinds.Distinct.TheVariants.{Enforce, Preserve}
use Rattle.qgm_core.specs.declared.node.Node.{Node}
use Rattle.qgm_core.specs.declared.owned.OwnedQuant.{OwnedQuant}
use Rattle.qgm_wellformed.specs.WellFormed.{fault}
use Rattle.qgm_meaning.specs.Laws.{AgreesBack}
use Rattle.qgm_meaning.specs.Meaning.{Family, bag_in, combined, of_two, once_if, quant_rows, rows_by, rows_found, rows_of}
use Rattle.qgm_meaning.specs.Ranks.{SameUnder}
use Rattle.qgm_meaning.specs.Values.{Bag, Environment}
use Rattle.qgm_meaning.proofs.Alikes.{only-alike}
use Rattle.qgm_meaning.proofs.ExistsJoined.{stays-all}
use Rattle.qgm_meaning.proofs.Unfold.{rows-local}
use Rattle.qgm_edit_laws.specs.Adds.{at}
use Rattle.qgm_edit_laws.specs.Graph.{Sound}
use Rattle.qgm_edit_laws.specs.Placed.{place}
use Rattle.qgm_edit_laws.proofs.Ranks.{place-under}
use Rattle.qgm_edit_laws.proofs.Scope.{one-parent, unfold-bag}
use Rattle.qgm_edit_laws.proofs.Turns.{first-own}
use Rattle.qgm_edit_laws.specs.PutsBox.{PutsBox}
use Rattle.qgm_edit_laws.proofs.CheckedParts.{shaped, sound, typed}
use Rattle.qgm_edit_laws.proofs.PutsBox.{cases, put-sound}
use Rattle.rule_api.specs.Rules.{Preserves}
use Rattle.rule_facts.proofs.Actions.{preserves-put}
use Rattle.rule_distinct.proofs.OtherDistinct.{PlainSelect, puts, raw, rows-of, rows-own, set-back}
use Rattle.list_laws.proofs.Membership.{any-in, any-not, eq-itself, in-map}
use Rattle.list_laws.proofs.Counting.{times-in}

-- an ENFORCE select with one quantifier over it, of a union
pub record UnderUnion (bs : List Node) (o p : Node) (r : OwnedQuant) (types : List SqlType) : Type 0 where
  pub enforced : o.parts.distinct ≡ Enforce
  pub in_p : In p bs
  pub owned : In r p.quants
  pub over : r.over ≡ o.id
  pub union : p.parts.kind ≡ SetOp Union types
  pub one_use : times o.id (overs_in bs) ≡ 1

module _ (g : QueryGraph) (u : EachOnce (numbers g.boxes)) (k : fault g ≡ None) (o : Node) (p : PlainSelect g.boxes o) where
  abbrev bs : List Node
  bs = g.boxes

  w : Sound bs g.root
  w = sound g u k

  module _ (enforced : o.parts.distinct ≡ Enforce) (users : (y : Node) (r : OwnedQuant) → In y bs → In r y.quants → r.over ≡ o.id → (types : List SqlType) × (y.parts.kind ≡ SetOp Union types)) (away : (g.root == o.id) ≡ false) where
    put3 : PutsBox bs g.root o (with_distinct Preserve)
    put3 = puts bs g.root w (typed g u k) (shaped g u k) o p Preserve (λ h. absurd (let z : ⊥ = cc in z))

    abbrev f : Node → Node
    f = with_distinct Preserve

    abbrev hs : List Node
    hs = map (at o.id f) bs

    v3 : Sound hs g.root
    v3 = put-sound bs g.root w o f put3

    module _ (tables : List Table) where
      abbrev F : Family
      F = bag_in tables bs

      abbrev now : Environment → Bag
      now e = raw tables F o p.select e

      -- the bags after, each as before but o's
      abbrev G : Family
      G x = cond (x == o.id) now (F x)

      G-other : (x : ℕ) → (x == o.id) ≡ false → G x ≡ F x
      G-other x n = ap (λ t. cond t now (F x)) n

      G-own : G o.id ≡ now
      G-own = ap (λ t. cond t now (F o.id)) (eq-itself o.id)

      own-is : (e : Environment) → F o.id e ≡ distinct same_cells (now e)
      own-is e = unfold-bag tables bs o w.ordered p.within e ∙ rows-own tables F o p.select e ∙ ap (λ d. once_if (is_enforce d) (now e)) enforced

      levels : (x : ℕ) (e : Environment) → SameLevels same_cells (G x e) (F x e)
      levels x e = elim (cases_Bool (x == o.id)) [
        | inr n ↦ subst (λ (h : Environment → Bag). SameLevels same_cells (h e) (F x e)) (sym (G-other x n)) (levels-refl same_cells (F x e))
        | inl t ↦ subst (λ z. SameLevels same_cells (G z e) (F z e)) (sym (eqb-true x o.id t))
            (subst (λ (h : Environment → Bag). SameLevels same_cells (h e) (F o.id e)) (sym G-own)
            (subst (λ z. SameLevels same_cells (now e) z) (sym (own-is e)) (levels-sym same_cells (levels-distinct same_cells same_cells-decides (now e)))))
      ]

      same-under : (rs : List OwnedQuant) → list_any (λ (r : OwnedQuant). r.over == o.id) rs ≡ false → SameUnder rs G F
      same-under [] h = tt
      same-under (r ∷ rs) h = let n = or_parts (r.over == o.id) (list_any (λ (r : OwnedQuant). r.over == o.id) rs) h in (G-other r.over n.0, same-under rs n.1)

      -- a box that doesn't range over o gives the same
      local : (y : Node) → list_any (λ (r : OwnedQuant). r.over == o.id) y.quants ≡ false → (e : Environment) → rows_of tables y G e ≡ rows_of tables y F e
      local y h e = ap (λ (h : Environment → Bag). h e) (rows-local tables y G F (same-under y.quants h))

      -- a union gives what agrees
      at-union : (y : Node) → In y bs → (types : List SqlType) → y.parts.kind ≡ SetOp Union types → (e : Environment) → Alike (rows_of tables y G e) (rows_of tables y F e)
      at-union y j types kind e = two y.quants refl
        where
          few : (r : OwnedQuant) → In r y.quants → first (is_quant r.id) y.quants ≡ Some r
          few r i = first-own r y.quants (let a = times-in ids_of r.id y bs j in let b = w.once r.id in omega arith) i

          both : (a b : OwnedQuant) (rest : List OwnedQuant) → y.quants ≡ a ∷ (b ∷ rest) → (H : Family) → rows_of tables y H e ≡ distinct same_cells (H a.over e ++ H b.over e)
          both a b rest q H =
              ap (λ k. rows_by k tables y (quant_rows y H) e) kind
              ∙ ap (λ rs. of_two rs (λ s t. combined Union (length types) (quant_rows y H s e) (quant_rows y H t e))) q
              ∙ ap₂ (λ s t. distinct same_cells (rows_found s H e ++ rows_found t H e)) (few a (subst (λ z. In a z) (sym q) (inl refl))) (few b (subst (λ z. In b z) (sym q) (inr (inl refl))))

          none : (rs : List OwnedQuant) → y.quants ≡ rs → ((H : Family) → of_two rs (λ s t. combined Union (length types) (quant_rows y H s e) (quant_rows y H t e)) ≡ []) → Alike (rows_of tables y G e) (rows_of tables y F e)
          none rs q z = alike-same (empty G ∙ sym (empty F))
            where
              empty : (H : Family) → rows_of tables y H e ≡ []
              empty H = ap (λ k. rows_by k tables y (quant_rows y H) e) kind ∙ ap (λ rs. of_two rs (λ s t. combined Union (length types) (quant_rows y H s e) (quant_rows y H t e))) q ∙ z H

          two : (rs : List OwnedQuant) → y.quants ≡ rs → Alike (rows_of tables y G e) (rows_of tables y F e)
          two [] q = none [] q (λ H. refl)
          two (a ∷ []) q = none (a ∷ []) q (λ H. refl)
          two (a ∷ (b ∷ rest)) q =
              subst (λ z. Alike z (rows_of tables y F e)) (sym (both a b rest q G))
              (subst (λ z. Alike (distinct same_cells (G a.over e ++ G b.over e)) z) (sym (both a b rest q F))
              (distinct-levels same_cells same_cells-decides (levels-append same_cells (levels a.over e) (levels b.over e))))

      back-at : (x : Node) → In x hs → (e : Environment) → Agree same_cells (rows_of tables x G e) (G x.id e)
      back-at x i e =
          let y = in-map (at o.id f) x bs i in
          subst (λ (z : Node). Agree same_cells (rows_of tables z G e) (G z.id e)) y.1.1 (elim (cases bs g.root w o f put3 y.0 y.1.0) [
            | inl c ↦ subst (λ (z : Node). Agree same_cells (rows_of tables z G e) (G z.id e)) (sym c.1) (agree-from_alike same_cells (alike-same (
                local (f o) not-own e ∙ rows-of tables F o p.select e Preserve ∙ sym (ap (λ (h : Environment → Bag). h e) G-own))))
            | inr c ↦ subst (λ (z : Node). Agree same_cells (rows_of tables z G e) (G z.id e)) (sym c.1) (agree-from_alike same_cells (
                subst (λ z. Alike (rows_of tables y.0 G e) z) (unfold' y.0 y.1.0 c.0) (elim (cases_Bool (list_any (λ (r : OwnedQuant). r.over == o.id) y.0.quants)) [
                  | inr n ↦ alike-same (local y.0 n e)
                  | inl t ↦ (
                      let r = any-in (λ (r : OwnedQuant). r.over == o.id) y.0.quants t in
                      let s = users y.0 r.0 y.1.0 r.1.0 (eqb-true r.0.over o.id r.1.1) in
                      at-union y.0 y.1.0 s.0 s.1 e)
                ])))
          ])
        where
          unfold' : (y : Node) → In y bs → (y.id == o.id) ≡ false → rows_of tables y F e ≡ G y.id e
          unfold' y j n = sym (unfold-bag tables bs y w.ordered j e) ∙ sym (ap (λ (h : Environment → Bag). h e) (G-other y.id n))

          not-own : list_any (λ (r : OwnedQuant). r.over == o.id) o.quants ≡ false
          not-own = any-not (λ (r : OwnedQuant). r.over == o.id) o.quants (λ r j. elim (cases_Bool (r.over == o.id)) [
            | inr n ↦ n
            | inl t ↦ absurd (let less = place-under bs o r w.ordered p.within j in let same : place bs r.over ≡ place bs o.id = ap (place bs) (eqb-true r.over o.id t) in omega arith)
          ])

      back3 : (ns : List Node) → ((x : Node) → In x ns → In x hs) → AgreesBack (λ e. true) tables G ns
      back3 [] sub = tt
      back3 (x ∷ ns) sub = (stays-all (quant_rows x G) x.quants, (λ e t. back-at x (sub x (inl refl)) e), back3 ns (λ y j. sub y (inr j)))

      agree : Agree same_cells (bag_in tables hs g.root []) (F g.root [])
      agree = subst (λ (h : Environment → Bag). Agree same_cells (bag_in tables hs g.root []) (h [])) (G-other g.root away)
          (agree-from_alike same_cells (only-alike tables G (λ e. true) hs v3.ordered (back3 hs (λ x i. i)) g.root v3.rooted [] refl))

    pub union-preserves : Preserves g (set_distinct o.id Preserve g)
    union-preserves = set-back g u k o p Preserve (preserves-put g u k o f put3 (λ tables s. agree tables))

  pub under-union : (q : Node) (r : OwnedQuant) (types : List SqlType) → UnderUnion bs o q r types → Preserves g (set_distinct o.id Preserve g)
  under-union q r types m = union-preserves m.enforced users away
    where
      users : (y : Node) (s : OwnedQuant) → In y bs → In s y.quants → s.over ≡ o.id → (types : List SqlType) × (y.parts.kind ≡ SetOp Union types)
      users y s j i e = (types, ap (λ (z : Node). z.parts.kind) (one-parent bs g.root w o.id y q s r (let a = m.one_use in omega arith) j m.in_p i m.owned e m.over) ∙ m.union)

      away : (g.root == o.id) ≡ false
      away = elim (cases_Bool (g.root == o.id)) [
        | inr n ↦ n
        | inl t ↦ absurd (let a = m.one_use in let b = w.top in let c : times g.root (overs_in bs) ≡ times o.id (overs_in bs) = ap (λ z. times z (overs_in bs)) (eqb-true g.root o.id t) in omega arith)
      ]
