-- Two boxes that show one thing: their quantifiers, and what is seen in them, in place of one another.
use Rattle.std.proofs.Common.{◌≡◌, ℕ, zero, suc, ◌+◌, nat_eq, cond, Bool, true, false, List, [], ◌∷◌, ◌++◌, map, refl, ap, ap₂, sym, ◌∙◌, subst}
use Rattle.sql_ast.specs.declared.word.SetFunction.{SetFunction}
use Rattle.sql_ast.specs.declared.word.SetFunction.TheVariants as function
use Rattle.sql_value.specs.declared.order_key.SqlType.{SqlType}
use Rattle.sql_meaning.specs.ResolvedTrees.{From, Froms, Query, Test, Values}
use Rattle.sql_meaning.specs.ResolvedTrees as q
use Rattle.qgm_core.specs.declared.owned.OwnedQuant.{OwnedQuant}
use Rattle.qgm_terms.specs.Terms as t
use Rattle.qgm_terms.specs.Terms.{Cond, Term}
use Rattle.qgm_translation.specs.Leaves as w
use Rattle.qgm_translation.specs.Leaves.{Leaf, Slots, after}
use Rattle.qgm_translation.specs.Maps.{Frame, Map, Ref, column, ref_term}
use Rattle.qgm_translation.specs.Shown as v
use Rattle.qgm_translation.specs.Shown.{Thing, of_groups, of_operand, of_query, of_rows, refs}
use Rattle.qgm_translation.specs.Sources.{Sources, from_width, width}
use Rattle.qgm_translation.specs.Terms as l
use Rattle.graph_alike.specs.Alike.{Like, LikeConds, LikeHeads, LikeQuants, OwnedAt, like_col, like_count, like_fold}
use Rattle.sql_catalog.proofs.EachLaws.{Each, each_left, each_right}
use Rattle.qgm_translation_laws.proofs.LikeTerms.{LikeFrame, LikeLeaves, LikeMap, LikeRef, Parted, Served, cond-like, conds-both, leaves-both, like_aggregate, like_counted, like_sub, no_leaf, ref-like, served-both, split-like, test-like, unsplit}

module _ (R : ℕ → ℕ → Type 0) where
  -- quantifiers at one place stand for one another
  abbrev pub Pairs : List OwnedQuant → List OwnedQuant → Type 0
  Pairs os ps = (i : ℕ) (o p : OwnedQuant) → OwnedAt i o os → OwnedAt i p ps → R o.id p.id

  pub rest-pairs : (os ps : List OwnedQuant) → Pairs os ps → Pairs (w.rest_of os) (w.rest_of ps)
  rest-pairs [] [] h i o p j k = absurd j
  rest-pairs [] (p ∷ ps) h i o x j k = absurd j
  rest-pairs (o ∷ os) [] h i x p j k = absurd k
  rest-pairs (o ∷ os) (p ∷ ps) h i x y j k = h (suc i) x y j k

  pub frame-both : (a b c d : Frame) → LikeFrame R a c → LikeFrame R b d → LikeFrame R (a ++ b) (c ++ d)
  frame-both [] b [] d h k = k
  frame-both [] b (y ∷ c) d h k = absurd h
  frame-both (x ∷ a) b [] d h k = absurd h
  frame-both (x ∷ a) b (y ∷ c) d h k = (h.0, frame-both a b c d h.1 k)

  pub refs-like : (a c i u : ℕ) → R a c → LikeFrame R (refs a i u) (refs c i u)
  refs-like a c i zero h = tt
  refs-like a c i (suc u) h = ((h, refl), refs-like a c (suc i) u h)

  pub frame-heads : (f g : Frame) → LikeFrame R f g → LikeHeads R (map ref_term f) (map ref_term g)
  frame-heads [] [] h = tt
  frame-heads [] (r ∷ g) h = absurd h
  frame-heads (r ∷ f) [] h = absurd h
  frame-heads (r ∷ f) (p ∷ g) h = (ref-like R r p h.0, frame-heads f g h.1)

  pub heads-both : (a b c d : List Term) → LikeHeads R a c → LikeHeads R b d → LikeHeads R (a ++ b) (c ++ d)
  heads-both [] b [] d h k = k
  heads-both [] b (y ∷ c) d h k = absurd h
  heads-both (x ∷ a) b [] d h k = absurd h
  heads-both (x ∷ a) b (y ∷ c) d h k = (h.0, heads-both a b c d h.1 k)

  -- ---- keys and aggregates

  key-like : (a c k : ℕ) (places : List ℕ) (i : ℕ) → R a c → LikeRef R (v.key_ref a k places i) (v.key_ref c k places i)
  key-like a c k [] i h = tt
  key-like a c k (p ∷ places) i h = by_case (nat_eq i p) (key-like a c (suc k) places i h)
    where
      by_case : (b : Bool) → LikeRef R (v.key_ref a (suc k) places i) (v.key_ref c (suc k) places i) → LikeRef R (cond b (column a k) (v.key_ref a (suc k) places i)) (cond b (column c k) (v.key_ref c (suc k) places i))
      by_case true g = (h, refl)
      by_case false g = g

  pub keys-like : (a c : ℕ) (places : List ℕ) (i u : ℕ) → R a c → LikeFrame R (v.key_frame a places i u) (v.key_frame c places i u)
  keys-like a c places i zero h = tt
  keys-like a c places i (suc u) h = (key-like a c 1 places i h, keys-like a c places (i + 1) u h)

  -- the columns of aggregates
  abbrev CellsLike : List Leaf → List Ref → List Ref → Type 0
  CellsLike [] cs ds = Unit {0}
  CellsLike (w.sub f kind x ∷ ls) cs ds = CellsLike ls cs ds
  CellsLike (w.fold f d x ∷ ls) cs ds = LikeRef R (w.first_cell cs) (w.first_cell ds) × CellsLike ls (w.rest_of cs) (w.rest_of ds)
  CellsLike (w.count ∷ ls) cs ds = LikeRef R (w.first_cell cs) (w.first_cell ds) × CellsLike ls (w.rest_of cs) (w.rest_of ds)

  ungrouped-like : (f : SetFunction) → LikeRef R (v.ungrouped f) (v.ungrouped f)
  ungrouped-like function.Count = tt
  ungrouped-like function.Sum = tt
  ungrouped-like function.Avg = tt
  ungrouped-like function.Min = tt
  ungrouped-like function.Max = tt

  pub plain-cells : (ls ms : List Leaf) → LikeLeaves R ls ms → CellsLike ls (v.ungrouped_cells ls) (v.ungrouped_cells ms)
  plain-cells ls ms no_leaf = tt
  plain-cells ls ms (like_sub f g kind x xs ys e h) = plain-cells xs ys h
  plain-cells ls ms (like_aggregate f d x xs ys h) = (ungrouped-like f, plain-cells xs ys h)
  plain-cells ls ms (like_counted xs ys h) = (tt, plain-cells xs ys h)

  pub fold-cells : (a c j : ℕ) (ls ms : List Leaf) → R a c → LikeLeaves R ls ms → CellsLike ls (v.fold_refs a j ls) (v.fold_refs c j ms)
  fold-cells a c j ls ms r no_leaf = tt
  fold-cells a c j ls ms r (like_sub f g kind x xs ys e h) = fold-cells a c j xs ys r h
  fold-cells a c j ls ms r (like_aggregate f d x xs ys h) = ((r, refl), fold-cells a c (suc j) xs ys r h)
  fold-cells a c j ls ms r (like_counted xs ys h) = ((r, refl), fold-cells a c (suc j) xs ys r h)

  pub fold-terms : (a c j : ℕ) (ls ms : List Leaf) → R a c → LikeLeaves R ls ms → LikeHeads R (v.fold_terms a j ls) (v.fold_terms c j ms)
  fold-terms a c j ls ms r no_leaf = tt
  fold-terms a c j ls ms r (like_sub f g kind x xs ys e h) = fold-terms a c j xs ys r h
  fold-terms a c j ls ms r (like_aggregate f d x xs ys h) = (like_fold (v.aggregate f) (v.taken d) (t.col a j) (t.col c j) (like_col a c j r), fold-terms a c (suc j) xs ys r h)
  fold-terms a c j ls ms r (like_counted xs ys h) = (like_count, fold-terms a c j xs ys r h)

  pub like-heads : (a b c d : List Term) → a ≡ c → b ≡ d → LikeHeads R c d → LikeHeads R a b
  like-heads a b c d e f h = subst (λ y. LikeHeads R y b) (sym e) (subst (λ y. LikeHeads R c y) (sym f) h)

  pub like-conds : (a b c d : List Cond) → a ≡ c → b ≡ d → LikeConds R c d → LikeConds R a b
  like-conds a b c d e f h = subst (λ y. LikeConds R y b) (sym e) (subst (λ y. LikeConds R c y) (sym f) h)

  -- one thing, in two boxes
  pub data LikeThing : Thing → Thing → Type 0 where
    same_query : (x : Query) → LikeThing (of_query x) (of_query x)
    same_operand : (x : From) → LikeThing (of_operand x) (of_operand x)
    like_rows : (from : Froms) (by : Test) (places : List ℕ) (ls ms : List Leaf) → LikeLeaves R ls ms → LikeThing (of_rows from by places ls) (of_rows from by places ms)
    like_groups : (from : Froms) (by : Test) (places : List ℕ) (ls ms : List Leaf) → LikeLeaves R ls ms → LikeThing (of_groups from by places ls) (of_groups from by places ms)

  -- ---- two boxes, through two maps

  module _ (s : Sources) (shared : List ℕ → ℕ) (typed : Term → SqlType) where
    abbrev pub z : Sources
    z = record s { shared = shared; typed = typed }

    pub width-same : (x : From) → from_width s x ≡ from_width z x
    width-same (q.named name) = refl
    width-same (q.derived query) = refl
    width-same (q.crossed x y) = ap₂ ◌+◌ (width-same x) (width-same y)
    width-same (q.joined x y p) = ap₂ ◌+◌ (width-same x) (width-same y)
    width-same (q.left_joined x y n p) = ap (λ u. u + n) (width-same x)

    pub types-same : ((x y : Term) → Like R x y → s.typed x ≡ typed y) → (a c i u : ℕ) → R a c → map s.typed (v.columns_of a i u) ≡ map typed (v.columns_of c i u)
    types-same told a c i zero h = refl
    types-same told a c i (suc u) h = ap₂ (λ y ys. y ∷ ys) (told (t.col a i) (t.col c i) (like_col a c i h)) (types-same told a c (suc i) u h)

    module _ (Below Above : ℕ → Thing → Map → Type 0) where
      -- what two quantifiers range over
      abbrev pub Kid : OwnedQuant → OwnedQuant → Type 0
      Kid o p = (thing : Thing) × ((other : Thing) × ((x : Map) × ((y : Map) × (Below o.over thing x × Above p.over other y × LikeThing thing other × LikeMap R x y))))

      abbrev pub Kids : List OwnedQuant → List OwnedQuant → Type 0
      Kids [] [] = Unit {0}
      Kids [] (p ∷ ps) = ⊥
      Kids (o ∷ os) [] = ⊥
      Kids (o ∷ os) (p ∷ ps) = (o.kind ≡ p.kind) × R o.id p.id × Kid o p × Kids os ps

      module _ (m n : Map) (round : LikeMap R m n) where
        pub first-pair : (x : From) (os ps : List OwnedQuant) → v.ShowsOne s Below x m os → v.ShowsOne z Above x n ps → Pairs os ps → R (v.first_id os) (v.first_id ps)
        first-pair x [] ps h k e = absurd h
        first-pair x (o ∷ os) [] h k e = absurd k
        first-pair x (o ∷ os) (p ∷ ps) h k e = e zero o p refl refl

        past-pairs : (x : From) (os ps : List OwnedQuant) → Pairs os ps → Pairs (v.past s x os) (v.past z x ps)
        past-pairs (q.named name) os ps e = rest-pairs os ps e
        past-pairs (q.derived query) os ps e = rest-pairs os ps e
        past-pairs (q.crossed x y) os ps e = past-pairs y (v.past s x os) (v.past z x ps) (past-pairs x os ps e)
        past-pairs (q.joined x y p) os ps e = past-pairs y (v.past s x os) (v.past z x ps) (past-pairs x os ps e)
        past-pairs (q.left_joined x y u p) os ps e = rest-pairs os ps e

        pub past-all-pairs : (xs : Froms) (os ps : List OwnedQuant) → Pairs os ps → Pairs (v.past_all s xs os) (v.past_all z xs ps)
        past-all-pairs q.no_from os ps e = e
        past-all-pairs (q.one_from x xs) os ps e = past-all-pairs xs (v.past s x os) (v.past z x ps) (past-pairs x os ps e)

        from-like : (x : From) (os ps : List OwnedQuant) → v.ShowsFrom s Below x m os → v.ShowsFrom z Above x n ps → Pairs os ps → LikeFrame R (v.frame s x os) (v.frame z x ps)
        from-like (q.named name) os ps h k e = refs-like (v.first_id os) (v.first_id ps) 1 (s.columns name) (first-pair (q.named name) os ps h k e)
        from-like (q.derived query) os ps h k e = refs-like (v.first_id os) (v.first_id ps) 1 (width query) (first-pair (q.derived query) os ps h k e)
        from-like (q.crossed x y) os ps h k e =
            frame-both (v.frame s x os) (v.frame s y (v.past s x os)) (v.frame z x ps) (v.frame z y (v.past z x ps)) (from-like x os ps h.0 k.0 e) (from-like y (v.past s x os) (v.past z x ps) h.1 k.1 (past-pairs x os ps e))
        from-like (q.joined x y p) os ps h k e =
            frame-both (v.frame s x os) (v.frame s y (v.past s x os)) (v.frame z x ps) (v.frame z y (v.past z x ps)) (from-like x os ps h.0 k.0 e) (from-like y (v.past s x os) (v.past z x ps) h.1 k.1 (past-pairs x os ps e))
        from-like (q.left_joined x y u p) os ps h k e =
            subst (λ i. LikeFrame R (refs (v.first_id os) 1 (from_width s x + u)) (refs (v.first_id ps) 1 (i + u))) (width-same x) (refs-like (v.first_id os) (v.first_id ps) 1 (from_width s x + u) (first-pair (q.left_joined x y u p) os ps h k e))

        pub froms-like : (xs : Froms) (os ps : List OwnedQuant) → v.ShowsFroms s Below xs m os → v.ShowsFroms z Above xs n ps → Pairs os ps → LikeFrame R (v.frame_all s xs os) (v.frame_all z xs ps)
        froms-like q.no_from os ps h k e = tt
        froms-like (q.one_from x xs) os ps h k e =
            frame-both (v.frame s x os) (v.frame_all s xs (v.past s x os)) (v.frame z x ps) (v.frame_all z xs (v.past z x ps)) (from-like x os ps h.0 k.0 e) (froms-like xs (v.past s x os) (v.past z x ps) h.1 k.1 (past-pairs x os ps e))

        on-leaves-like : (x : From) (os ps : List OwnedQuant) → v.ShowsFrom s Below x m os → v.ShowsFrom z Above x n ps → Pairs os ps → LikeLeaves R (v.on_leaves s x os) (v.on_leaves z x ps)
        on-leaves-like (q.named name) os ps h k e = no_leaf
        on-leaves-like (q.derived query) os ps h k e = no_leaf
        on-leaves-like (q.crossed x y) os ps h k e = leaves-both R (on-leaves-like x os ps h.0 k.0 e) (on-leaves-like y (v.past s x os) (v.past z x ps) h.1 k.1 (past-pairs x os ps e))
        on-leaves-like (q.joined x y p) os ps h k e =
            leaves-both R (on-leaves-like x os ps h.0 k.0 e)
            (leaves-both R (on-leaves-like y (v.past s x os) (v.past z x ps) h.1 k.1 (past-pairs x os ps e))
            (test-like R (v.frame s x os ++ v.frame s y (v.past s x os)) (v.frame z x ps ++ v.frame z y (v.past z x ps)) (from-like (q.joined x y p) os ps h k e) p))
        on-leaves-like (q.left_joined x y u p) os ps h k e = no_leaf

        pub all-on-like : (xs : Froms) (os ps : List OwnedQuant) → v.ShowsFroms s Below xs m os → v.ShowsFroms z Above xs n ps → Pairs os ps → LikeLeaves R (v.all_on_leaves s xs os) (v.all_on_leaves z xs ps)
        all-on-like q.no_from os ps h k e = no_leaf
        all-on-like (q.one_from x xs) os ps h k e = leaves-both R (on-leaves-like x os ps h.0 k.0 e) (all-on-like xs (v.past s x os) (v.past z x ps) h.1 k.1 (past-pairs x os ps e))

        module _ (T : Term → Type 0) (S : t.Arms → Type 0) (C : Cond → Type 0) (parted : Parted T S C) (told : (x y : Term) → T x → Like R x y → s.typed x ≡ typed y) where
          pub on-like : (f g : Frame) (sl tl : Slots) (p : Test) → LikeFrame R f g → Served R (w.test_leaves f p) sl tl → Each C (l.split (l.cond s f m sl p)) → LikeConds R (l.split (l.cond s f m sl p)) (l.split (l.cond z g n tl p))
          on-like f g sl tl p own h i = split-like R (l.cond s f m sl p) (l.cond z g n tl p) (cond-like R s z T S C parted told f g m n own round sl tl p h (unsplit T S C parted (l.cond s f m sl p) i))

          ons-like : (x : From) (os ps : List OwnedQuant) (sl tl : Slots) → v.ShowsFrom s Below x m os → v.ShowsFrom z Above x n ps → Pairs os ps → Served R (v.on_leaves s x os) sl tl → Each C (v.ons s m x os sl)
              → LikeConds R (v.ons s m x os sl) (v.ons z n x ps tl)
          ons-like (q.named name) os ps sl tl h k e g i = tt
          ons-like (q.derived query) os ps sl tl h k e g i = tt
          ons-like (q.crossed x y) os ps sl tl h k e g i =
              let a = served-both R (v.on_leaves s x os) (v.on_leaves z x ps) (v.on_leaves s y (v.past s x os)) sl tl (on-leaves-like x os ps h.0 k.0 e) g in
              let sm = after (v.on_leaves s x os) sl in
              let tm = after (v.on_leaves z x ps) tl in
              conds-both R (v.ons s m x os sl) (v.ons s m y (v.past s x os) sm) (v.ons z n x ps tl) (v.ons z n y (v.past z x ps) tm) (ons-like x os ps sl tl h.0 k.0 e a.0 (each_left C (v.ons s m x os sl) (v.ons s m y (v.past s x os) sm) i))
              (ons-like y (v.past s x os) (v.past z x ps) sm tm h.1 k.1 (past-pairs x os ps e) a.1 (each_right C (v.ons s m x os sl) (v.ons s m y (v.past s x os) sm) i))
          ons-like (q.joined x y p) os ps sl tl h k e g i =
              let po = v.past s x os in
              let pp = v.past z x ps in
              let f = v.frame s x os ++ v.frame s y po in
              let d = v.frame z x ps ++ v.frame z y pp in
              let a = served-both R (v.on_leaves s x os) (v.on_leaves z x ps) (v.on_leaves s y po ++ w.test_leaves f p) sl tl (on-leaves-like x os ps h.0 k.0 e) g in
              let sm = after (v.on_leaves s x os) sl in
              let tm = after (v.on_leaves z x ps) tl in
              let c = served-both R (v.on_leaves s y po) (v.on_leaves z y pp) (w.test_leaves f p) sm tm (on-leaves-like y po pp h.1 k.1 (past-pairs x os ps e)) a.1 in
              let sn = after (v.on_leaves s y po) sm in
              let tn = after (v.on_leaves z y pp) tm in
              let on = l.split (l.cond s f m sn p) in
              let rest = each_right C (v.ons s m x os sl) (v.ons s m y po sm ++ on) i in
              conds-both R (v.ons s m x os sl) (v.ons s m y po sm ++ on) (v.ons z n x ps tl) (v.ons z n y pp tm ++ l.split (l.cond z d n tn p))
              (ons-like x os ps sl tl h.0 k.0 e a.0 (each_left C (v.ons s m x os sl) (v.ons s m y po sm ++ on) i))
              (conds-both R (v.ons s m y po sm) on (v.ons z n y pp tm) (l.split (l.cond z d n tn p)) (ons-like y po pp sm tm h.1 k.1 (past-pairs x os ps e) c.0 (each_left C (v.ons s m y po sm) on rest))
              (on-like f d sn tn p (from-like (q.joined x y p) os ps h k e) c.1 (each_right C (v.ons s m y po sm) on rest)))
          ons-like (q.left_joined x y u p) os ps sl tl h k e g i = tt

          pub all-ons-like : (xs : Froms) (os ps : List OwnedQuant) (sl tl : Slots) → v.ShowsFroms s Below xs m os → v.ShowsFroms z Above xs n ps → Pairs os ps → Served R (v.all_on_leaves s xs os) sl tl → Each C (v.all_ons s m xs os sl)
              → LikeConds R (v.all_ons s m xs os sl) (v.all_ons z n xs ps tl)
          all-ons-like q.no_from os ps sl tl h k e g i = tt
          all-ons-like (q.one_from x xs) os ps sl tl h k e g i =
              let a = served-both R (v.on_leaves s x os) (v.on_leaves z x ps) (v.all_on_leaves s xs (v.past s x os)) sl tl (on-leaves-like x os ps h.0 k.0 e) g in
              let sm = after (v.on_leaves s x os) sl in
              let tm = after (v.on_leaves z x ps) tl in
              conds-both R (v.ons s m x os sl) (v.all_ons s m xs (v.past s x os) sm) (v.ons z n x ps tl) (v.all_ons z n xs (v.past z x ps) tm)
              (ons-like x os ps sl tl h.0 k.0 e a.0 (each_left C (v.ons s m x os sl) (v.all_ons s m xs (v.past s x os) sm) i))
              (all-ons-like xs (v.past s x os) (v.past z x ps) sm tm h.1 k.1 (past-pairs x os ps e) a.1 (each_right C (v.ons s m x os sl) (v.all_ons s m xs (v.past s x os) sm) i))

        -- ---- subqueries

        pub subs-served : (ls ms : List Leaf) (os ps : List OwnedQuant) (cs ds : List Ref) → LikeLeaves R ls ms → v.ShowsSubs s Below m ls os → v.ShowsSubs z Above n ms ps → Pairs os ps → CellsLike ls cs ds
            → Served R ls (record { quants = map (λ o. o.id) os; cells = cs }) (record { quants = map (λ o. o.id) ps; cells = ds })
        subs-served ls ms os ps cs ds no_leaf h k e c = tt
        subs-served ls ms [] ps cs ds (like_sub f g kind x xs ys j i) h k e c = absurd h
        subs-served ls ms (o ∷ os) [] cs ds (like_sub f g kind x xs ys j i) h k e c = absurd k
        subs-served ls ms (o ∷ os) (p ∷ ps) cs ds (like_sub f g kind x xs ys j i) h k e c = (e zero o p refl refl, subs-served xs ys os ps cs ds i h.4 k.4 (rest-pairs (o ∷ os) (p ∷ ps) e) c)
        subs-served ls ms os ps cs ds (like_aggregate f d x xs ys i) h k e c = (c.0, subs-served xs ys os ps (w.rest_of cs) (w.rest_of ds) i h k e c.1)
        subs-served ls ms os ps cs ds (like_counted xs ys i) h k e c = (c.0, subs-served xs ys os ps (w.rest_of cs) (w.rest_of ds) i h k e c.1)

        pub subs-kids : (ls ms : List Leaf) (os ps : List OwnedQuant) → LikeLeaves R ls ms → v.ShowsSubs s Below m ls os → v.ShowsSubs z Above n ms ps → Pairs os ps → Kids os ps
        subs-kids ls ms os ps no_leaf h k e = subst (λ y. Kids y ps) (sym h) (subst (λ y. Kids [] y) (sym k) tt)
        subs-kids ls ms [] ps (like_sub f g kind x xs ys j i) h k e = absurd h
        subs-kids ls ms (o ∷ os) [] (like_sub f g kind x xs ys j i) h k e = absurd k
        subs-kids ls ms (o ∷ os) (p ∷ ps) (like_sub f g kind x xs ys j i) h k e =
            (h.0 ∙ sym k.0, e zero o p refl refl, (of_query x, (of_query x, (f ∷ m, (g ∷ n, (h.3, k.3, same_query x, (j, round)))))), subs-kids xs ys os ps i h.4 k.4 (rest-pairs (o ∷ os) (p ∷ ps) e))
        subs-kids ls ms os ps (like_aggregate f d x xs ys i) h k e = subs-kids xs ys os ps i h k e
        subs-kids ls ms os ps (like_counted xs ys i) h k e = subs-kids xs ys os ps i h k e

        one-kid : (x : From) (os ps : List OwnedQuant) → v.ShowsOne s Below x m os → v.ShowsOne z Above x n ps → Pairs os ps → Kids (w.rest_of os) (w.rest_of ps) → Kids os ps
        one-kid x [] ps h k e r = absurd h
        one-kid x (o ∷ os) [] h k e r = absurd k
        one-kid x (o ∷ os) (p ∷ ps) h k e r = (h.0 ∙ sym k.0, e zero o p refl refl, (of_operand x, (of_operand x, (m, (n, (h.1, k.1, same_operand x, round))))), r)

        from-kids : (x : From) (os ps : List OwnedQuant) → v.ShowsFrom s Below x m os → v.ShowsFrom z Above x n ps → Pairs os ps → Kids (v.past s x os) (v.past z x ps) → Kids os ps
        from-kids (q.named name) os ps h k e r = one-kid (q.named name) os ps h k e r
        from-kids (q.derived query) os ps h k e r = one-kid (q.derived query) os ps h k e r
        from-kids (q.crossed x y) os ps h k e r = from-kids x os ps h.0 k.0 e (from-kids y (v.past s x os) (v.past z x ps) h.1 k.1 (past-pairs x os ps e) r)
        from-kids (q.joined x y p) os ps h k e r = from-kids x os ps h.0 k.0 e (from-kids y (v.past s x os) (v.past z x ps) h.1 k.1 (past-pairs x os ps e) r)
        from-kids (q.left_joined x y u p) os ps h k e r = one-kid (q.left_joined x y u p) os ps h k e r

        pub froms-kids : (xs : Froms) (os ps : List OwnedQuant) → v.ShowsFroms s Below xs m os → v.ShowsFroms z Above xs n ps → Pairs os ps → Kids (v.past_all s xs os) (v.past_all z xs ps) → Kids os ps
        froms-kids q.no_from os ps h k e r = r
        froms-kids (q.one_from x xs) os ps h k e r = from-kids x os ps h.0 k.0 e (froms-kids xs (v.past s x os) (v.past z x ps) h.1 k.1 (past-pairs x os ps e) r)

      pub like-quants : (os ps : List OwnedQuant) → Kids os ps → LikeQuants R os ps
      like-quants [] [] h = tt
      like-quants [] (p ∷ ps) h = absurd h
      like-quants (o ∷ os) [] h = absurd h
      like-quants (o ∷ os) (p ∷ ps) h = (h.0, h.1, like-quants os ps h.3)
