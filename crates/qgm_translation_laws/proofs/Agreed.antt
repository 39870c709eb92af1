-- The types of what is built agree.
use Rattle.std.proofs.Common.{inl, inr, ◌≡◌, ◌≤◌, ℕ, ◌==◌, ◌&&◌, ◌||◌, map, true, false, List, [], ◌∷◌, length, Option, Some, refl, ap, ap₂, ◌∙◌, subst, arith}
use Rattle.std.specs.List.{list_all}
use Rattle.sql_value.specs.declared.order_key.OrderKey.{OrderKey}
use Rattle.sql_value.specs.declared.order_key.SqlType.{SqlType}
use Rattle.sql_value.specs.declared.order_key.SqlType.TheVariants.{Integer, Varchar}
use Rattle.sql_meaning.specs.ResolvedTrees.{Query}
use Rattle.qgm_core.specs.Boxes.{Ordered, QueryGraph, has_box, ids_in}
use Rattle.list_laws.specs.Lists.{In, holds, times}
use Rattle.qgm_core.specs.declared.node.Node.{Node}
use Rattle.qgm_core.specs.declared.owned.OwnedQuant.{OwnedQuant}
use Rattle.qgm_core.specs.declared.kinds.BoxKind.{BoxKind}
use Rattle.qgm_core.specs.declared.kinds.BoxKind.TheVariants.{Base, Select, Group, SetOp, OuterJoin}
use Rattle.qgm_terms.specs.Terms.{Cond, Term}
use Rattle.qgm_wellformed.specs.Types.{Lookup, all_agree, arm_agrees, arms_agree, column_type, cond_fits, is_known, known, term_type, types_after, types_agree, types_of}
use Rattle.qgm_core.specs.Free.{reached as reached_by}
use Rattle.qgm_wellformed.specs.View.{viewers}
use Rattle.qgm_translation.specs.Maps.{Map, fresh}
use Rattle.qgm_translation.specs.Shown as v
use Rattle.qgm_translation.specs.Shown.{Shows, ShowsBox, Thing, of_query}
use Rattle.qgm_translation.specs.Sources.{Sources}
use Rattle.qgm_translation_laws.specs.Formed.{BuiltTyped, TypesFound}
use Rattle.qgm_translation_laws.proofs.Boxes as boxes
use Rattle.qgm_translation_laws.proofs.Frames.{map-none}
use Rattle.qgm_translation_laws.proofs.Levels as levels
use Rattle.qgm_translation_laws.proofs.Parts.{FitAll}
use Rattle.qgm_translation_laws.proofs.Passes.{all-reached, viewers-own, viewers-under}
use Rattle.qgm_translation_laws.proofs.Reached as reached
use Rattle.qgm_translation_laws.proofs.Settled.{over-soon}
use Rattle.list_laws.proofs.Membership.{all-from}

pub shows-has : (sources : Sources) (ns : List Node) (b : ℕ) (thing : Thing) (m : Map) → Shows sources ns b thing m → has_box ns b ≡ true
shows-has sources [] b thing m h = absurd h
shows-has sources (n ∷ ns) b thing m h =
    elim (n.id == b) as (λ own. v.Either own (ShowsBox sources (Shows sources ns) thing m n) (Shows sources ns b thing m) → (own || has_box ns b) ≡ true) [
      | true ↦ (λ h. refl)
      | false ↦ (λ h. shows-has sources ns b thing m h)
    ] h

agree-same : (types : List SqlType) → all_agree (known types) (known types) ≡ true
agree-same [] = refl
agree-same (Integer ∷ types) = agree-same types
agree-same (Varchar ∷ types) = agree-same types

all-known : (at : Lookup) (xs : List Term) (types : List SqlType) → map (term_type at) xs ≡ known types → list_all (λ x. is_known (term_type at x)) xs ≡ true
all-known at [] types h = refl
all-known at (x ∷ xs) [] h = absurd (cc h)
all-known at (x ∷ xs) (a ∷ types) h = ap₂ ◌&&◌ (ap is_known (first_of h)) (all-known at xs types (rest h))
  where
    head_or : List (Option SqlType) → Option SqlType
    head_or [] = Some a
    head_or (y ∷ ys) = y

    tail_or : List (Option SqlType) → List (Option SqlType)
    tail_or [] = []
    tail_or (y ∷ ys) = ys

    first_of : map (term_type at) (x ∷ xs) ≡ known (a ∷ types) → term_type at x ≡ Some a
    first_of e = ap head_or e

    rest : map (term_type at) (x ∷ xs) ≡ known (a ∷ types) → map (term_type at) xs ≡ known types
    rest e = ap tail_or e

module _ (bs : List Node) (ordered : Ordered bs) (once : (q : ℕ) → times q (ids_in bs) ≤ 1) (kinds : List ℕ → List SqlType) (sources : Sources) (counted : (name : List ℕ) → length (kinds name) ≡ sources.columns name) where
  abbrev soon : ℕ → ℕ → Option SqlType
  soon = column_type bs (types_after (length bs) bs)

  pub column-soon : (e q k : ℕ) (a : SqlType) → levels.Column bs ordered once kinds sources counted e q k a → soon q k ≡ Some a
  column-soon e q k a h =
      levels.column-at bs ordered once kinds sources counted (length bs) q k a (h.0, (h.1.0, (h.1.1.0, (over-soon bs ordered once e h.0 h.1.1.0 h.1.1.1.0, h.1.1.1.1)))) (length bs) (omega arith)

  conds-fit : (e : ℕ) (os : List OwnedQuant) (m : Map) (cs : List Cond)
      → FitAll (levels.Kn bs ordered once kinds sources counted e os m) (levels.Nn bs ordered once kinds sources counted e os) (levels.Jn bs ordered once kinds sources counted e) cs → list_all (cond_fits soon) cs ≡ true
  conds-fit e os m [] h = refl
  conds-fit e os m (c ∷ cs) h =
      ap₂ ◌&&◌ (levels.cond-typed bs ordered once kinds sources counted e os m soon (λ q k a z. column-soon e q k a z.0) (λ q a z. column-soon e q 1 a z) c h.0) (conds-fit e os m cs h.1)

  arms-fit : (e : ℕ) (os : List OwnedQuant) (types : List SqlType) → boxes.Arms kinds sources counted (levels.Over bs ordered once) (levels.more bs ordered once) (levels.Ranges bs ordered once) e os types
      → list_all (arm_agrees (types_of bs) types) os ≡ true
  arms-fit e [] types h = refl
  arms-fit e (o ∷ os) types h =
      ap₂ ◌&&◌ (ap (λ z. all_agree z (known types)) ((over-soon bs ordered once e o.over types h.0).1 (length bs) (omega arith)) ∙ agree-same types) (arms-fit e os types h.1)

  by-kind : (e : ℕ) (m : Map) (n : Node) (types : List SqlType) (kind : BoxKind) → levels.LocalBy bs ordered once kinds sources counted e m n types kind
      → (list_all (λ x. is_known (term_type soon x)) n.parts.head && (list_all (cond_fits soon) n.parts.conds.items && arms_agree (types_of bs) kind n.quants)) ≡ true
  by-kind e m n types (Base table) h = ap₂ (λ hs cs. list_all (λ x. is_known (term_type soon x)) hs && (list_all (cond_fits soon) cs && true)) h.1.1 h.1.0
  by-kind e m n types Select h =
      ap₂ (λ a b. a && (b && true)) (all-known soon n.parts.head types (levels.local-typed bs ordered once kinds sources counted e m n types Select h soon (column-soon e))) (conds-fit e n.quants m n.parts.conds.items h.1)
  by-kind e m n types (Group keys) h =
      ap₂ (λ a cs. a && (list_all (cond_fits soon) cs && true)) (all-known soon n.parts.head types (levels.local-typed bs ordered once kinds sources counted e m n types (Group keys) h soon (column-soon e))) h.1
  by-kind e m n types (SetOp operator columns) h =
      ap₂ (λ hs cs. list_all (λ x. is_known (term_type soon x)) hs && (list_all (cond_fits soon) cs && list_all (arm_agrees (types_of bs) columns) n.quants)) h.1.1 h.1.0
      ∙ ap (λ z. list_all (arm_agrees (types_of bs) z) n.quants) h.0 ∙ arms-fit e n.quants types h.2
  by-kind e m n types OuterJoin h =
      ap₂ (λ a b. a && (b && true)) (all-known soon n.parts.head types (levels.local-typed bs ordered once kinds sources counted e m n types OuterJoin h soon (column-soon e))) (conds-fit e n.quants m n.parts.conds.items h.1)

-- each box of what is built is known
module _ (kinds : List ℕ → List SqlType) (sources : Sources) (query : Query) (types : List SqlType) (names : List (Option (List ℕ))) (order : List OrderKey) (g : QueryGraph) (b : BuiltTyped kinds sources query types names order g) where
  abbrev pub bs : List Node
  bs = g.boxes

  -- a box sees what is seen in its map
  abbrev pub Seen : ℕ → Map → Type 0
  Seen c m = (q : ℕ) → fresh q m ≡ false → holds c (viewers q [] bs) ≡ true

  pub seen-none : (c : ℕ) (m : Map) → Seen c m → Seen c []
  seen-none c m h q k = absurd (cc k)

  pub seen-child : (n : Node) → In n bs → (m : Map) → Seen n.id m → (o : OwnedQuant) → In o n.quants → (x : Map) → reached.Visible bs b.ordered b.once kinds sources b.typed.counted b.typed.named b.told n m o x → Seen o.over x
  seen-child n i m s o j x vis q k = elim (vis q k) [
    | inl f ↦ viewers-under q [] bs b.ordered n i o j (s q f)
    | inr f ↦ viewers-own q [] bs n i f.2 f.1 o j f.0
  ]

  abbrev pub ShownBox : Node → List Node → Type 0
  ShownBox = reached.ShownBox bs b.ordered b.once kinds sources b.typed.counted b.typed.named b.told Seen seen-none seen-child

  pub all-boxes : reached.EachShown bs b.ordered b.once kinds sources b.typed.counted b.typed.named b.told Seen seen-none seen-child (reached_by (g.root ∷ []) bs) bs
  all-boxes =
      reached.from-here bs b.ordered b.once kinds sources b.typed.counted b.typed.named b.told Seen seen-none seen-child g.root
      (of_query query, ([], ([], (types, (0, (b.built.shows, map-none (levels.Column bs b.ordered b.once kinds sources b.typed.counted 0), b.gives, λ q k. absurd (cc k)))))))

  find : (ns : List Node) → ((n : Node) → In n ns → In n bs) → reached.EachShown bs b.ordered b.once kinds sources b.typed.counted b.typed.named b.told Seen seen-none seen-child (reached_by (g.root ∷ []) bs) ns → (n : Node) → In n ns
      → (rest : List Node) × (ShownBox n rest × ((k : Node) → In k rest → In k bs))
  find [] sub h n i = absurd i
  find (c ∷ cs) sub h n (inl e) =
      let k = h.0 (all-reached bs g.root b.ordered b.built.used c (sub c (inl refl))) in
      subst (λ (z : Node). (rest : List Node) × (ShownBox z rest × ((k : Node) → In k rest → In k bs))) e (cs, (k, λ z j. sub z (inr j)))
  find (c ∷ cs) sub h n (inr j) = find cs (λ z i. sub z (inr i)) h.1 n j

  pub known-box : (n : Node) → In n bs → (rest : List Node) × (ShownBox n rest × ((k : Node) → In k rest → In k bs))
  known-box n i = find bs (λ z j. j) all-boxes n i

  pub types-kept : (n : Node) → In n bs → types_agree bs n ≡ true
  types-kept n i = let k = (known-box n i).1.0 in by-kind bs b.ordered b.once kinds sources b.typed.counted k.1.1.0 (boxes.map_of k.0 k.1.0) n k.1.1.1.0 n.parts.kind k.1.1.1.1.1

  pub types-found : TypesFound types g
  types-found = record {
    agree = all-from (types_agree bs) bs types-kept;
    root =
        (over-soon bs b.ordered b.once (reached.lev bs 0) g.root types
        (reached.over bs b.ordered b.once kinds sources b.typed.counted b.typed.named b.told bs (λ n i. i) g.root (of_query query) [] [] types 0 b.built.shows (map-none (levels.Column bs b.ordered b.once kinds sources b.typed.counted 0)) b.gives)).1
        (length bs) (omega arith);
  }
