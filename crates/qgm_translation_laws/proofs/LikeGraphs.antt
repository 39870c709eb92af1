-- Two graphs that are built of one query differ in numbers alone.
use Rattle.std.proofs.Common.{inl, inr, ◌≡◌, ℕ, zero, suc, ◌==◌, true, false, List, [], ◌∷◌, Option, refl, sym, ◌∙◌, subst}
use Rattle.std.proofs.lemmas.Bool.{eqb-true}
use Rattle.sql_value.specs.declared.order_key.OrderKey.{OrderKey}
use Rattle.sql_value.specs.declared.order_key.SqlType.{SqlType}
use Rattle.sql_meaning.specs.ResolvedTrees.{Query}
use Rattle.qgm_core.specs.Boxes.{Ordered, QueryGraph}
use Rattle.qgm_core.specs.Free.{Reaches, itself, through}
use Rattle.list_laws.specs.Lists.{In}
use Rattle.qgm_core.specs.declared.node.Node.{Node}
use Rattle.qgm_core.specs.declared.owned.OwnedQuant.{OwnedQuant}
use Rattle.qgm_terms.specs.Terms.{Term}
use Rattle.qgm_translation.specs.Law.{IsBuiltOf}
use Rattle.qgm_translation.specs.Maps.{Map}
use Rattle.qgm_translation.specs.Shown as v
use Rattle.qgm_translation.specs.Shown.{Shows, ShowsBox, Thing, of_query}
use Rattle.qgm_translation.specs.Sources.{Sources}
use Rattle.qgm_edit_laws.proofs.Ranks.{same-box}
use Rattle.graph_alike.specs.Alike.{Like, LikeBox, Meets, OwnedAt, SameButNumbers, Stands, roots, stands, under}
use Rattle.qgm_translation_laws.proofs.LikeBoxes.{thing-like}
use Rattle.qgm_translation_laws.proofs.LikeKids.{thing-kids}
use Rattle.qgm_translation_laws.proofs.LikeParts as parts
use Rattle.qgm_translation_laws.proofs.LikeParts.{LikeThing, Pairs, same_query, types-same}
use Rattle.qgm_translation_laws.proofs.LikeTerms.{LikeMap, Parted}
use Rattle.sql_catalog.proofs.EachLaws.{Each}
use Rattle.qgm_translation_laws.proofs.Passes.{root-reaches}

-- the box that shows a thing, over those behind it
abbrev pub BoxShows : Sources → List Node → ℕ → Thing → Map → Type 0
BoxShows sources bs b thing m = (n : Node) × ((rest : List Node) × (In n bs × (n.id ≡ b) × ShowsBox sources (Shows sources rest) thing m n × ((k : Node) → In k rest → In k bs)))

pub found : (sources : Sources) (bs ns : List Node) → ((n : Node) → In n ns → In n bs) → (b : ℕ) (thing : Thing) (m : Map) → Shows sources ns b thing m → BoxShows sources bs b thing m
found sources bs [] sub b thing m h = absurd h
found sources bs (n ∷ ns) sub b thing m h =
    elim (n.id == b) as (λ own. (n.id == b) ≡ own → v.Either own (ShowsBox sources (Shows sources ns) thing m n) (Shows sources ns b thing m) → BoxShows sources bs b thing m) [
      | true ↦ (λ e h. (n, (ns, (sub n (inl refl), eqb-true n.id b e, h, λ k i. sub k (inr i)))))
      | false ↦ (λ e h. found sources bs ns (λ k i. sub k (inr i)) b thing m h)
    ] refl h

pub place-of : (o : OwnedQuant) (os : List OwnedQuant) → In o os → (i : ℕ) × OwnedAt i o os
place-of o [] j = absurd j
place-of o (p ∷ os) (inl e) = (zero, e)
place-of o (p ∷ os) (inr j) = let r = place-of o os j in (suc r.0, r.1)

module _ (s : Sources) (shared : List ℕ → ℕ) (typed : Term → SqlType) (query : Query) (names : List (Option (List ℕ))) (order : List OrderKey) (g h : QueryGraph) where
  abbrev z : Sources
  z = record s { shared = shared; typed = typed }

  abbrev R : ℕ → ℕ → Type 0
  R = Stands g h

  module _ (first : IsBuiltOf s query names order g) (second : IsBuiltOf (record s { shared = shared; typed = typed }) query names order h) (one : Ordered g.boxes) (two : Ordered h.boxes) where
    -- what two boxes at one place show
    abbrev pub StandAlike : ℕ → ℕ → Type 0
    StandAlike b c = (thing : Thing) × ((other : Thing) × ((x : Map) × ((y : Map) × (LikeThing R thing other × LikeMap R x y × BoxShows s g.boxes b thing x × BoxShows z h.boxes c other y))))

    abbrev Kids : List Node → List Node → List OwnedQuant → List OwnedQuant → Type 0
    Kids ns ks = parts.Kids R s shared typed (Shows s ns) (Shows z ks)

    -- what two such boxes show, over those behind them, and what their quantifiers range over
    pub record Pair (n k : Node) : Type 0 where
      pub ns : List Node
      pub ks : List Node
      pub thing : Thing
      pub other : Thing
      pub x : Map
      pub y : Map
      pub pairs : Pairs R n.quants k.quants
      pub same : LikeThing R thing other
      pub round : LikeMap R x y
      pub shown : ShowsBox s (Shows s ns) thing x n
      pub shows : ShowsBox (record s { shared = shared; typed = typed }) (Shows (record s { shared = shared; typed = typed }) ks) other y k
      pub kids : Kids ns ks n.quants k.quants
      pub sub : (j : Node) → In j ns → In j g.boxes
      pub tub : (j : Node) → In j ks → In j h.boxes

    both : (n k : Node) → In n g.boxes → In k h.boxes → Meets g h n.id k.id → StandAlike n.id k.id → Pair n k
    both n k i j meets p =
        let f = p.1.1.1.1.2 in
        let d = p.1.1.1.1.3 in
        let same : f.0 ≡ n = same-box g.boxes f.0 n one f.1.1.0 i f.1.1.1 in
        let equal : d.0 ≡ k = same-box h.boxes d.0 k two d.1.1.0 j d.1.1.1 in
        let pairs : Pairs R n.quants k.quants = λ a o q at to. stands n k a o q meets i j at to in
        let shown = subst (ShowsBox s (Shows s f.1.0) p.0 p.1.1.0) same f.1.1.2 in
        let shows = subst (ShowsBox z (Shows z d.1.0) p.1.0 p.1.1.1.0) equal d.1.1.2 in
        record {
          ns = f.1.0;
          ks = d.1.0;
          thing = p.0;
          other = p.1.0;
          x = p.1.1.0;
          y = p.1.1.1.0;
          pairs = pairs;
          same = p.1.1.1.1.0;
          round = p.1.1.1.1.1;
          shown = shown;
          shows = shows;
          kids = thing-kids R s shared typed (Shows s f.1.0) (Shows z d.1.0) n k pairs p.0 p.1.0 p.1.1.0 p.1.1.1.0 p.1.1.1.1.0 p.1.1.1.1.1 shown shows;
          sub = f.1.1.3;
          tub = d.1.1.3;
        }

    kid-at : (ns ks : List Node) → ((j : Node) → In j ns → In j g.boxes) → ((j : Node) → In j ks → In j h.boxes) → (os ps : List OwnedQuant) → Kids ns ks os ps → (i : ℕ) (o p : OwnedQuant) → OwnedAt i o os → OwnedAt i p ps → StandAlike o.over p.over
    kid-at ns ks sub tub [] ps r i o p at to = absurd at
    kid-at ns ks sub tub (x ∷ os) [] r i o p at to = absurd to
    kid-at ns ks sub tub (x ∷ os) (y ∷ ps) r zero o p at to =
        subst (λ (e : OwnedQuant). StandAlike e.over p.over) at
        (subst (λ (e : OwnedQuant). StandAlike x.over e.over) to
        (r.2.0, (r.2.1.0, (r.2.1.1.0, (r.2.1.1.1.0, (r.2.1.1.1.1.2, r.2.1.1.1.1.3, found s g.boxes ns sub x.over r.2.0 r.2.1.1.0 r.2.1.1.1.1.0, found z h.boxes ks tub y.over r.2.1.0 r.2.1.1.1.0 r.2.1.1.1.1.1))))))
    kid-at ns ks sub tub (x ∷ os) (y ∷ ps) r (suc i) o p at to = kid-at ns ks sub tub os ps r.3 i o p at to

    pub meet : (b c : ℕ) → Meets g h b c → StandAlike b c
    meet b c roots =
        (of_query query, (of_query query, ([], ([], (same_query query, tt, found s g.boxes g.boxes (λ n i. i) g.root (of_query query) [] first.shows, found z h.boxes h.boxes (λ n i. i) h.root (of_query query) [] second.shows)))))
    meet b c (under n k i o p m in_n in_k at to) =
        let r = both n k in_n in_k m (meet n.id k.id m) in
        kid-at r.ns r.ks r.sub r.tub n.quants k.quants r.kids i o p at to

    pub pair : (n k : Node) → In n g.boxes → In k h.boxes → Meets g h n.id k.id → Pair n k
    pair n k i j m = both n k i j m (meet n.id k.id m)

    -- quantifiers are as many
    other-at : (ns ks : List Node) (os ps : List OwnedQuant) → Kids ns ks os ps → (i : ℕ) (o : OwnedQuant) → OwnedAt i o os → (p : OwnedQuant) × OwnedAt i p ps
    other-at ns ks [] ps r i o at = absurd at
    other-at ns ks (x ∷ os) [] r i o at = absurd r
    other-at ns ks (x ∷ os) (y ∷ ps) r zero o at = (y, refl)
    other-at ns ks (x ∷ os) (y ∷ ps) r (suc i) o at = other-at ns ks os ps r.3 i o at

    below : (b c d : ℕ) → Meets g h b c → Reaches g.boxes b d → (e : ℕ) × Meets g h d e
    below b c d m (itself a) = (c, m)
    below b c d m (through n r x i j k) =
        let p = meet n.id c m in
        let q = p.1.1.1.1.3 in
        let at : Meets g h n.id q.0.id = subst (λ y. Meets g h n.id y) (sym q.1.1.1) m in
        let w = pair n q.0 i q.1.1.0 at in
        let l = place-of r n.quants j in
        let o = other-at w.ns w.ks n.quants q.0.quants w.kids l.0 r l.1 in
        below r.over o.0.over d (under n q.0 l.0 r o.0 at i q.1.1.0 l.1 o.1) k

    -- the box of the second graph
    pub met-by : (b c : ℕ) → Meets g h b c → (k : Node) × (In k h.boxes × (k.id ≡ c))
    met-by b c m = let d = (meet b c m).1.1.1.1.3 in (d.0, (d.1.1.0, d.1.1.1))

    pub meets-some : (n : Node) → In n g.boxes → (k : Node) × (In k h.boxes × Meets g h n.id k.id)
    meets-some n i =
        let r = below g.root h.root n.id roots (root-reaches g.boxes g.root one first.used n i) in
        let d = met-by n.id r.0 r.1 in
        (d.0, (d.1.0, subst (λ y. Meets g h n.id y) (sym d.1.1) r.1))

    -- the graphs differ in numbers alone where their boxes at one place do
    pub same-graphs : ((n k : Node) → In n g.boxes → In k h.boxes → Meets g h n.id k.id → LikeBox R n k) → SameButNumbers g h
    same-graphs like = record { alike = like; met = meets-some; names = first.named ∙ sym second.named; order = first.ordered ∙ sym second.ordered }

    -- sources that tell one type of all alike expressions
    module _ (told : (x y : Term) → Like (Stands g h) x y → s.typed x ≡ typed y) where
      any-parts : Parted (λ x. Unit {0}) (λ s. Unit {0}) (λ c. Unit {0})
      any-parts = record {
        null = tt;
        both = λ op x y h. (tt, tt);
        minus = λ x h. tt;
        choose = λ s x h. (tt, tt);
        arm = λ c x s h. (tt, tt, tt);
        always = tt;
        compare = λ sign x y h. (tt, tt);
        is_null = λ x h. tt;
        and = λ c d h. (tt, tt);
        anded = λ c d h k. tt;
        or = λ c d h. (tt, tt);
        not = λ c h. tt;
        some = λ q sign x y h. tt;
        every = λ q sign x y h. tt;
      }

      any : {A : Type 0} (xs : List A) → Each (λ x. Unit {0}) xs
      any [] = tt
      any (x ∷ xs) = (tt, any xs)

      like-all : (n k : Node) → In n g.boxes → In k h.boxes → Meets g h n.id k.id → LikeBox R n k
      like-all n k i j m =
          let p = pair n k i j m in
          thing-like R s shared typed (Shows s p.ns) (Shows z p.ks) (λ x. Unit {0}) (λ s. Unit {0}) (λ c. Unit {0}) any-parts (λ x y t l. told x y l) n k p.pairs p.kids (λ e. any n.parts.head) (any n.parts.conds.items)
          (λ form u o b q d e f w. types-same R s shared typed told o.id q.id 1 u (p.pairs zero o q (subst (OwnedAt zero o) (sym f) refl) (subst (OwnedAt zero q) (sym w) refl)))
          p.thing p.other p.x p.y p.same p.round p.shown p.shows

      pub same-but-numbers : SameButNumbers g h
      same-but-numbers = same-graphs like-all
