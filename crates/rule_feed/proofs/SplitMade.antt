-- The edits of a split come to G1's action.
use Rattle.std.proofs.Common.{ℕ, ◌==◌, ◌≡◌, ◌≤◌, cond, Bool, true, false, List, [], ◌∷◌, ◌++◌, map, filter, None, refl, sym, ap, ap₂, subst, ◌∙◌, eqb-true, inl, inr, arith}
use Rattle.std.specs.List.{list_any}
use Rattle.std.proofs.lemmas.Bool.{cases_Bool, eq-eqb, or_parts}
use Rattle.qgm_terms.specs.Terms.{Cond}
use Rattle.qgm_terms.specs.Wanted.{any_in, any_in_cond}
use Rattle.qgm_core.specs.Boxes.{Ordered, QueryGraph, bare_box, has_box, ids_of, is_box, is_quant, numbers, owns}
use Rattle.qgm_core.specs.Edits.{put_range, range, with_terms}
use Rattle.list_laws.specs.Lists.{EachOnce, In, change, holds, times}
use Rattle.qgm_core.specs.declared.kinds.Distinct.TheVariants.{Preserve}
use Rattle.qgm_core.specs.declared.kinds.QuantKind.TheVariants.{F}
use Rattle.qgm_core.specs.declared.kinds.Role.TheVariants.{Plain}
use Rattle.qgm_core.specs.declared.node.Node.{Node}
use Rattle.qgm_core.specs.declared.owned.OwnedQuant.{OwnedQuant}
use Rattle.qgm_meaning.specs.Searches.{names, names_cond}
use Rattle.qgm_wellformed.specs.WellFormed.{fault}
use Rattle.qgm_edit_laws.specs.Graph.{Sound}
use Rattle.qgm_edit_laws.proofs.Edits.{map-append}
use Rattle.qgm_edit_laws.proofs.OneBox.{owns-ids}
use Rattle.qgm_edit_laws.proofs.PlacedOne.{times-holds}
use Rattle.qgm_edit_laws.proofs.Read.{any-both}
use Rattle.qgm_edit_laws.proofs.Scope.{one-owner}
use Rattle.qgm_edit_laws.proofs.WellFormedKept.{numbers-once}
use Rattle.rule_api.specs.declared.place.Place.{Place}
use Rattle.rule_feed.specs.FeedActs as act
use Rattle.rule_feed.specs.FeedActs.{settled_node}
use Rattle.rule_feed.specs.FeedCode.{SplitComes}
use Rattle.rule_feed.specs.FeedMay.{MayFeedAt, feeds, width_of}
use Rattle.rule_feed.specs.FeedSteps.{Parted, moved_all, parted, renamed_all, select_parts, split_edits}
use Rattle.rule_feed.specs.Split.{MaySplitSound, heads, into, renamed_node, sizes_of, split_box, split_boxes, split_owner, strays}
use Rattle.rule_feed.specs.Turn.{from_first}
use Rattle.rule_feed.proofs.FeedEditSteps.{held-same}
use Rattle.rule_feed.proofs.FeedPlaced as placed
use Rattle.rule_feed.proofs.FeedSettled.{once-above}
use Rattle.rule_feed.proofs.SplitEdits.{There, change-here, insert-before, less, less-is, moves, put-here, renamed-is, renamed_in, times-both}
use Rattle.rule_feed.proofs.SplitRows as rows
use Rattle.rule_feed.proofs.SplitSound as split
use Rattle.rule_feed.proofs.SplitSound.{split-sound}
use Rattle.rule_feed.proofs.SplitSteps.{Bare, Other, put-into, put_all}
use Rattle.rule_feed.proofs.TurnLists.{passing-from, together, turned-in}
use Rattle.list_laws.proofs.Booleans.{clash, neither-left}
use Rattle.list_laws.proofs.Membership.{any-from, any-none, any-not, append-one, eq-itself, in-left, in-right}

pub spread : {X Y : Type 0} (h : X → Y) (xs : List X) (x : X) (zs : List Y) → map h (xs ++ x ∷ []) ++ zs ≡ map h xs ++ h x ∷ zs
spread h xs x zs = ap (λ l. l ++ zs) (map-append h xs (x ∷ [])) ∙ append-one (map h xs) (h x) zs

pub keep : (h : Node → Node) → ((y : Node) → (h y).id ≡ y.id) → (ys : List Node) → numbers (map h ys) ≡ numbers ys
keep h e [] = refl
keep h e (y ∷ ys) = ap₂ (λ (x : ℕ) (xs : List ℕ). x ∷ xs) (e y) (keep h e ys)

pub lead : (h : Node → Node) → ((y : Node) → (h y).id ≡ y.id) → (xs ys zs : List Node) → numbers ys ≡ numbers zs → numbers (map h xs ++ ys) ≡ numbers (xs ++ zs)
lead h e [] ys zs k = k
lead h e (x ∷ xs) ys zs k = ap₂ (λ (v : ℕ) (vs : List ℕ). v ∷ vs) (e x) (lead h e xs ys zs k)

module _ (g : QueryGraph) (u : EachOnce (numbers g.boxes)) (f : fault g ≡ None) (p : Place) (b : Node) (us : List OwnedQuant) (r : OwnedQuant) (vs : List OwnedQuant) (m : MayFeedAt p g b us r vs)
    (above below : List Node) (stands : g.boxes ≡ above ++ b ∷ below) (q s : ℕ) (new-s : has_box g.boxes s ≡ false) (new-q : list_any (owns q) g.boxes ≡ false) where
  abbrev b1 : Node
  b1 = settled_node us r vs b

  abbrev b2 : Node
  b2 = placed.b2 g u f p b us r vs m above below stands q s

  abbrev bs2 : List Node
  bs2 = (above ++ b2 ∷ []) ++ below

  abbrev t : OwnedQuant → Bool
  t = feeds g.boxes r.over

  abbrev ps : List OwnedQuant
  ps = act.feeding g.boxes b1 r.over q s

  abbrev before : List OwnedQuant
  before = act.before g.boxes b1 r.over q s

  abbrev from : List OwnedQuant
  from = from_first t b1.quants

  abbrev behind : List OwnedQuant
  behind = act.behind g.boxes b1 r.over q s

  abbrev rest : List Cond
  rest = act.staying g.boxes b1 r.over q s

  abbrev taken : List Cond
  taken = act.taken g.boxes b1 r.over q s

  abbrev wide : OwnedQuant → ℕ
  wide x = width_of g.boxes x.over

  abbrev ws : List (ℕ × ℕ)
  ws = sizes_of wide ps

  abbrev rq : OwnedQuant
  rq = range q F s

  abbrev ids : List ℕ
  ids = numbers g.boxes

  w2 : Sound bs2 g.root
  w2 = placed.w2 g u f p b us r vs m above below stands q s

  ms : MaySplitSound (above ++ b2 ∷ []) below b2 wide q s before ps behind rest taken
  ms = placed.may-split g u f p b us r vs m above below stands q s new-s new-q

  abbrev h : Node → Node
  h = act.after_split g.boxes b1 r.over q s

  in-b2 : In b2 bs2
  in-b2 = in-left b2 (above ++ b2 ∷ []) below ms.above

  in-above : (y : Node) → In y above → In y bs2
  in-above y j = in-left y (above ++ b2 ∷ []) below (in-left y above (b2 ∷ []) j)

  in-below : (y : Node) → In y below → In y bs2
  in-below y j = in-right y (above ++ b2 ∷ []) below j

  once : (has_box above b1.id ≡ false) × (has_box below b1.id ≡ false)
  once = once-above above b2 below (subst Ordered (append-one above b2 below) w2.ordered)

  apart : (b1.id == s) ≡ false
  apart = any-none (is_box s) b2 bs2 ms.new_s in-b2

  new : list_any (is_box s) above ≡ false
  new = any-not (is_box s) above (λ z j. any-none (is_box s) z bs2 ms.new_s (in-above z j))

  own : (x : OwnedQuant) → In x ps → owns x.id b2 ≡ true
  own x i = split.own-P (above ++ b2 ∷ []) below g.root b2 wide q s before ps behind rest taken w2 ms x.id (split.P-in (above ++ b2 ∷ []) below g.root b2 wide q s before ps behind rest taken w2 ms x i)

  out : (x : OwnedQuant) → In x ps → list_any (owns x.id) above ≡ false
  out x i = any-not (owns x.id) above (λ z j. elim (cases_Bool (owns x.id z)) [
    | inr e ↦ e
    | inl e ↦ absurd (
        let same : z ≡ b2 = one-owner bs2 g.root w2 x.id z b2 (in-above z j) in-b2 e (own x i) in
        clash (is_box b1.id z) (ap (λ (n : Node). n.id == b1.id) same ∙ eq-itself b1.id) (any-none (is_box b1.id) z above once.0 j))
  ])

  not-own : list_any (is_quant q) b1.quants ≡ false
  not-own = any-not (is_quant q) b1.quants (λ x j. any-none (is_quant q) x b2.quants (any-none (owns q) b2 bs2 ms.new_q in-b2) (turned-in t x b1.quants j))

  few : (z : ℕ) → times z (map (λ (x : OwnedQuant). x.id) ((before ++ rq ∷ []) ++ from)) ≤ 1
  few z =
      let a = times-both z (before ++ rq ∷ []) from in
      let c = times-both z before (rq ∷ []) in
      let d = times-both z before from in
      let e : times z (map (λ (x : OwnedQuant). x.id) (before ++ from)) ≡ times z (ids_of b1) = ap (λ (l : List OwnedQuant). times z (map (λ (x : OwnedQuant). x.id) l)) (together t b1.quants) in
      let k = placed.few1 g u f p b us r vs m above below stands q s z in
      elim (cases_Bool (q == z)) [
        | inl y ↦ (
            let none : times z (ids_of b1) ≡ 0 = subst (λ v. times v (ids_of b1) ≡ 0) (eqb-true q z y) (times-holds q (ids_of b1) (sym (owns-ids q b1.quants) ∙ not-own)) in
            let one : ◌≡◌ {A = ℕ} (cond (q == z) 1 0) 1 = ap (λ b. cond {A = ℕ} b 1 0) y in omega arith)
        | inr y ↦ (let zero : ◌≡◌ {A = ℕ} (cond (q == z) 1 0) 0 = ap (λ b. cond {A = ℕ} b 1 0) y in omega arith)
      ]

  left : less ps (before ++ rq ∷ from) ≡ before ++ rq ∷ behind
  left =
      ap₂ less (sym (passing-from t b1.quants)) (sym (append-one before rq from))
      ∙ (less-is t (before ++ rq ∷ []) from few).0
      ∙ append-one before rq behind

  there : There ps (before ++ rq ∷ from)
  there = subst (λ z. There z (before ++ rq ∷ from)) (passing-from t b1.quants) (subst (λ z. There (filter t from) z) (append-one before rq from) (less-is t (before ++ rq ∷ []) from few).1)

  -- ---- the boxes after each edit

  abbrev s0 : Node
  s0 = bare_box s (record (select_parts Preserve Plain [] (heads ws)) { conds = record { items = taken; spare = 0 } })

  abbrev s4 : Node
  s4 = split_box s ws ps taken

  abbrev b3 : Node
  b3 = record b1 { parts = record b1.parts { conds = record b1.parts.conds { items = rest } }; quants = before ++ rq ∷ from }

  abbrev b4 : Node
  b4 = record b1 { parts = record b1.parts { conds = record b1.parts.conds { items = rest } }; quants = before ++ rq ∷ behind }

  abbrev boxes4 : List Node
  boxes4 = above ++ b4 ∷ (s4 ∷ below)

  abbrev of : Parted
  of = parted g.boxes b1 r.over

  put : change (is_box b1.id) (with_terms of.staying of.own) (change (is_box b1.id) (put_range of.place rq) (above ++ b1 ∷ (s0 ∷ below))) ≡ above ++ b3 ∷ (s0 ∷ below)
  put =
      ap (change (is_box b1.id) (with_terms of.staying of.own)) (change-here (is_box b1.id) (put_range of.place rq) above b1 (s0 ∷ below) once.0 (eq-itself b1.id) ∙ ap (λ (z : List OwnedQuant). above ++ record b1 { quants = z } ∷ (s0 ∷ below)) (insert-before t rq b1.quants))
      ∙ change-here (is_box b1.id) (with_terms of.staying of.own) above (record b1 { quants = before ++ rq ∷ from }) (s0 ∷ below) once.0 (eq-itself b1.id)

  moved : split_edits ids g.boxes b1.id of s q (record g { boxes = above ++ b1 ∷ below }) ≡ renamed_all ids q 0 ws (record g { boxes = boxes4 })
  moved =
      ap (λ (z : List Node). renamed_all ids q 0 ws (moved_all s ps (record g { boxes = change (is_box b1.id) (with_terms of.staying of.own) (change (is_box b1.id) (put_range of.place rq) z) }))) (put-here (is_box b1.id) s0 above b1 below once.0 (eq-itself b1.id))
      ∙ ap (λ (z : List Node). renamed_all ids q 0 ws (moved_all s ps (record g { boxes = z }))) put
      ∙ ap (renamed_all ids q 0 ws) (moves g above below b3 s0 apart new ps (before ++ rq ∷ from) [] out there)
      ∙ ap (λ (z : List OwnedQuant). renamed_all ids q 0 ws (record g { boxes = above ++ record b4 { quants = z } ∷ (s4 ∷ below) })) left

  -- ---- columns

  id-h : (y : Node) → (h y).id ≡ y.id
  id-h = split.id (above ++ b2 ∷ []) below g.root b2 wide q s before ps behind rest taken w2 ms

  once4 : EachOnce (numbers boxes4)
  once4 =
      let o = numbers-once (split_boxes (above ++ b2 ∷ []) below ws b2.id q s before ps behind rest taken) (split-sound (above ++ b2 ∷ []) below g.root b2 wide q s before ps behind rest taken w2 ms).0.ordered in
      subst EachOnce (ap numbers (spread h above b2 (s4 ∷ map h below)) ∙ lead h id-h above (h b2 ∷ (s4 ∷ map h below)) (b4 ∷ (s4 ∷ below)) (ap₂ (λ (v : ℕ) (l : List ℕ). v ∷ (s ∷ l)) (id-h b2) (keep h id-h below))) o

  other : (rs : List OwnedQuant) → ((x : OwnedQuant) → In x rs → In x ps) → Other q (sizes_of wide rs)
  other [] j = tt
  other (x ∷ rs) j = (
    (let e = split.P-not-q (above ++ b2 ∷ []) below g.root b2 wide q s before ps behind rest taken w2 ms x.id (split.P-in (above ++ b2 ∷ []) below g.root b2 wide q s before ps behind rest taken w2 ms x (j x (inl refl))) in turned q x.id e),
    other rs (λ y i. j y (inr i)),
  )
    where
      turned : (v w : ℕ) → (w == v) ≡ false → (v == w) ≡ false
      turned v w e = elim (cases_Bool (v == w)) [ inr k ↦ k | inl k ↦ absurd (clash (w == v) (eq-eqb w v (sym (eqb-true v w k))) e) ]

  bare : (y : Node) (rs : List OwnedQuant) → ((x : OwnedQuant) → In x rs → (list_any (names x.id) y.parts.head ≡ false) × (list_any (names_cond x.id) y.parts.conds.items ≡ false)) → Bare (sizes_of wide rs) y
  bare y [] j = tt
  bare y (x ∷ rs) j = (j x (inl refl), bare y rs (λ z i. j z (inr i)))

  none : (y : Node) → In y bs2 → (x : OwnedQuant) → In x ps → (list_any (names x.id) y.parts.head ≡ false) × (list_any (names_cond x.id) y.parts.conds.items ≡ false)
  none y j x i =
      or_parts (list_any (names x.id) y.parts.head) (list_any (names_cond x.id) y.parts.conds.items)
      (split.nodes-none (above ++ b2 ∷ []) below g.root b2 wide q s before ps behind rest taken w2 ms y j x.id (split.P-in (above ++ b2 ∷ []) below g.root b2 wide q s before ps behind rest taken w2 ms x i))

  fit : (y : Node) → In y bs2 → (list_any (any_in (strays ws q)) y.parts.head ≡ false) × (list_any (any_in_cond (strays ws q)) y.parts.conds.items ≡ false)
  fit = (rows.may (above ++ b2 ∷ []) below g.root b2 wide q s before ps behind rest taken w2 ms).fit

  abbrev k : Node → Node
  k = renamed_in ids q 0 ws

  one : (y : Node) → In y bs2 → (y.id == b1.id) ≡ false → holds y.id ids ≡ true → k y ≡ h y
  one y j e l =
      ap (λ c. cond c (put_all q 0 ws y) y) l
      ∙ put-into q ws y (other ps (λ x i. i)) (bare y ps (none y j)) (fit y j)
      ∙ sym (split.g-other (above ++ b2 ∷ []) below g.root b2 wide q s before ps behind rest taken w2 ms y e)

  others : (ns : List Node) → ((y : Node) → In y ns → k y ≡ h y) → map k ns ≡ map h ns
  others [] j = refl
  others (n ∷ ns) j = ap₂ (λ (x : Node) (y : List Node). x ∷ y) (j n (inl refl)) (others ns (λ y i. j y (inr i)))

  part-left : (x : OwnedQuant) → In x ps → (list_any (names x.id) b4.parts.head ≡ false) × (list_any (names_cond x.id) b4.parts.conds.items ≡ false)
  part-left x i = let n = none b2 in-b2 x i in (n.0, neither-left (list_any (names_cond x.id) rest) (list_any (names_cond x.id) taken) (sym (any-both (names_cond x.id) rest taken) ∙ n.1))

  at-b : k b4 ≡ h b1
  at-b =
      ap (λ c. cond c (put_all q 0 ws b4) b4) held
      ∙ put-into q ws b4 (other ps (λ x i. i)) (bare b4 ps part-left) (
      let n = fit b2 in-b2 in (n.0, neither-left (list_any (any_in_cond (strays ws q)) rest) (list_any (any_in_cond (strays ws q)) taken) (sym (any-both (any_in_cond (strays ws q)) rest taken) ∙ n.1)))
      ∙ sym (ap (λ c. cond c (split_owner ws q before (rq ∷ behind) rest b1) (renamed_node (into ws q) b1)) (eq-itself b1.id))
    where
      held : holds b1.id ids ≡ true
      held = subst (λ z. holds z ids ≡ true) (sym ((placed.e1 g u f p b us r vs m above below stands q s).id b)) (held-same b.id g.boxes ∙ any-from (is_box b.id) b g.boxes (placed.in-b g u f p b us r vs m above below stands q s) (eq-itself b.id))

  at-s : k s4 ≡ s4
  at-s = ap (λ c. cond c (put_all q 0 ws s4) s4) (held-same s g.boxes ∙ new-s)

  held-in : (y : Node) → In y g.boxes → holds y.id ids ≡ true
  held-in y j = held-same y.id g.boxes ∙ any-from (is_box y.id) y g.boxes j (eq-itself y.id)

  all-named : map k boxes4 ≡ act.split_up g.boxes b1 r.over q s above below
  all-named =
      map-append k above (b4 ∷ (s4 ∷ below))
      ∙ ap₂ (λ (v w : List Node). v ++ w)
      (others above (λ y j. one y (in-above y j) (any-none (is_box b1.id) y above once.0 j) (held-in y (placed.in-g g u f p b us r vs m above below stands q s y (inl j)))))
      (ap₂ (λ (v : Node) (w : List Node). v ∷ w) at-b (
      ap₂ (λ (v : Node) (w : List Node). v ∷ w) at-s (others below (λ y j. one y (in-below y j) (any-none (is_box b1.id) y below once.1 j) (held-in y (placed.in-g g u f p b us r vs m above below stands q s y (inr j)))))))
      ∙ sym (spread h above b1 (s4 ∷ map h below))

  pub made : split_edits ids g.boxes b1.id of s q (record g { boxes = above ++ b1 ∷ below }) ≡ record g { boxes = act.split_up g.boxes b1 r.over q s above below }
  made = moved ∙ renamed-is ids q 0 ws (record g { boxes = boxes4 }) u once4 ∙ ap (λ (z : List Node). record g { boxes = z }) all-named

pub split-comes : SplitComes
split-comes = λ g u f p b us r vs m above below stands q s new-s new-q. made g u f p b us r vs m above below stands q s new-s new-q
