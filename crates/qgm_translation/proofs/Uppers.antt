-- The upper select of a grouped block, over the box of its groups.
use Rattle.std.proofs.Common.{◌≡◌, ℕ, suc, ◌==◌, not, true, false, cond, List, [], ◌∷◌, ◌++◌, map, length, replicate, get_or, append_assoc, refl, ap, ap₂, sym, ◌∙◌, Option}
use Rattle.std.specs.List.{list_all}
use Rattle.std.proofs.lemmas.Bool.{and_parts, not-true}
use Rattle.row_bag.specs.Bags.{bind, keep, unit}
use Rattle.row_bag.specs.Order.{cell_of}
use Rattle.sql_meaning.specs.Groups.{Group, Grouped, aggregated, count_all, failed, members, no_group}
use Rattle.sql_meaning.specs.Joins.{selected}
use Rattle.sql_value.specs.declared.cell.Cell.{Cell}
use Rattle.sql_value.specs.declared.cell.Cell.TheVariants.{Null, Err}
use Rattle.sql_value.specs.declared.truth.Truth.{Truth}
use Rattle.sql_meaning.specs.ResolvedMeaning as k
use Rattle.sql_meaning.specs.ResolvedMeaning.{masked_from}
use Rattle.sql_meaning.specs.ResolvedTrees.{Values, Test, From, Froms}
use Rattle.qgm_meaning.specs.Values.{Bag, Environment, bound, head_cells, row_of, truth}
use Rattle.qgm_meaning.specs.Meaning.{Family, over_each}
use Rattle.qgm_core.specs.declared.node.Node.{Node}
use Rattle.qgm_core.specs.declared.owned.OwnedQuant.{OwnedQuant}
use Rattle.qgm_translation.proofs.Bridge.{given_of}
use Rattle.qgm_core.specs.Kinds.{is_F}
use Rattle.qgm_translation.specs.Maps.{Frame, Map, Ref, fresh, ref_cell, seen, seen_in}
use Rattle.qgm_translation.specs.Leaves.{Leaf, Slots, after, count, fold, list_leaves, sub, test_leaves}
use Rattle.qgm_translation.specs.Terms.{split, terms}
use Rattle.qgm_translation.specs.Terms as l
use Rattle.qgm_translation.specs.Shown.{Thing, HasKey, of_operand, of_groups, distinct_ids, fold_refs, key_frame, key_places}
use Rattle.qgm_translation.proofs.Things.{filtered}
use Rattle.qgm_translation.specs.Shown as w
use Rattle.qgm_translation.specs.Sources.{Sources, from_width}
use Rattle.qgm_translation.proofs.Things.{thing_rows}
use Rattle.qgm_translation.proofs.TermLaws.{Mean, all-split, cond-means, mean-append, row-same, terms-mean}
use Rattle.qgm_translation.proofs.Froms.{HaveBags, gives, map-fresh, row-other}
use Rattle.qgm_translation.proofs.Groups.{groups-bind, totals}
use Rattle.qgm_translation.proofs.Keys.{cell-prefix, follows-all, follows-one, mask-seen, picked, push-length}
use Rattle.qgm_translation.proofs.Selects.{FitAll, FoldsMean, skip, subs-mean}
use Rattle.qgm_translation.proofs.Wide.{Wide, map-length, replicate-length}

module _ (known : List ℕ → Bag) (sources : Sources) (bag : Family)
    (Below : ℕ → Thing → Map → Type 0)
    (bags : (b : ℕ) (thing : Thing) (m : Map) → Below b thing m → (env : Environment) → bag b env ≡ thing_rows known thing (seen env m))
    (wides : (b : ℕ) (x : From) (m : Map) → Below b (of_operand x) m → (scopes : k.Scopes) → Wide (from_width sources x) (k.from_rows known x scopes)) where
  apart-all : (u : ℕ) (m : Map) (os : List OwnedQuant) → list_all (λ p. not (u == p.id)) os ≡ true
      → FitAll known sources bag Below bags wides (λ _ _. []) m [] (λ n f. (fresh n (f ∷ m) ≡ true) × ((u == n) ≡ false)) (λ _ _. Unit {0}) no_group os
  apart-all u m [] h = tt
  apart-all u m (o ∷ os) h = let p = and_parts (not (u == o.id)) (list_all (λ p. not (u == p.id)) os) h in ((λ f x. (x, not-true (u == o.id) p.0)), apart-all u m os p.1)

  module _ (s : Family) (m : Map) (u : ℕ) (e : Environment) (row : List Cell) (group : Group (List Cell)) where
    abbrev Reads : Ref → Cell → Type 0
    Reads r v = (d : Environment) → row_of u d ≡ row → ref_cell d r ≡ v

    abbrev Fits : ℕ → Frame → Type 0
    Fits n f = (fresh n (f ∷ m) ≡ true) × ((u == n) ≡ false)

    folds-mean : (ls : List Leaf) (j : ℕ) (pre : List Cell) → row ≡ pre ++ totals known ls group → j ≡ suc (length pre) → FoldsMean known sources bag Below bags wides s m e Fits Reads group ls (fold_refs u j ls)
    folds-mean [] j pre h x = tt
    folds-mean (sub f kind y ∷ ls) j pre h x = folds-mean ls j pre h x
    folds-mean (fold f distinct y ∷ ls) j pre h x =
        let v = aggregated f distinct (λ cells. k.value known y (cells ∷ []) no_group) group in (
          (λ d r. ap (cell_of j) (r ∙ h) ∙ cell-prefix pre v (totals known ls group) j x),
          folds-mean ls (suc j) (pre ++ v ∷ []) (h ∙ sym (append_assoc pre (v ∷ []) (totals known ls group))) (ap suc (x ∙ sym (push-length pre v))),
        )
    folds-mean (count ∷ ls) j pre h x =
        let v = count_all group in (
          (λ d r. ap (cell_of j) (r ∙ h) ∙ cell-prefix pre v (totals known ls group) j x),
          folds-mean ls (suc j) (pre ++ v ∷ []) (h ∙ sym (append_assoc pre (v ∷ []) (totals known ls group))) (ap suc (x ∙ sym (push-length pre v))),
        )

    abbrev Good : Frame → Environment → Type 0
    Good fr d = (seen d (fr ∷ m) ≡ seen e (fr ∷ m)) × (row_of u d ≡ row)

    abbrev MeanUp : List Leaf → Slots → Type 0
    MeanUp ls sl = Mean known (λ n. s n e) (λ f. seen e (f ∷ m)) Fits Reads group ls sl

    module _ (here : row_of u e ≡ row) (fr : Frame) where
      stays : (n : ℕ) → Fits n fr → (d : Environment) (cells : List Cell) → Good fr d → Good fr (bound n cells d)
      stays n fit d cells g = (map-fresh n cells d (fr ∷ m) fit.0 ∙ g.0, row-other n u cells d fit.1 ∙ g.1)

      up-test : (sl : Slots) (p : Test) → MeanUp (test_leaves fr p) sl → truth (λ n. s n e) (l.cond sources fr m sl p) e ≡ k.truth known p (seen e (fr ∷ m)) group
      up-test sl p h = cond-means known (λ n. s n e) (λ f. seen e (f ∷ m)) Fits Reads group sources fr m (Good fr) (λ d g. g.0) stays (λ r v h d g. h d g.1) sl p h e (refl, here)

      up-list : (sl : Slots) (xs : Values) → MeanUp (list_leaves fr xs) sl → head_cells (λ n. s n e) (terms sources fr m sl xs) e ≡ k.cells known xs (seen e (fr ∷ m)) group
      up-list sl xs h = terms-mean known (λ n. s n e) (λ f. seen e (f ∷ m)) Fits Reads group sources fr m (Good fr) (λ d g. g.0) stays (λ r v h d g. h d g.1) sl xs h e (refl, here)

  -- one row of the groups
  upper-row : (places : List ℕ) (n : ℕ) (list : Values) (having : Test) (m : Map) (b : Node) (u : OwnedQuant) (os : List OwnedQuant) (s : Family) (env : Environment) (key row : List Cell) (group : Group (List Cell)) (c : ℕ → Cell)
      → distinct_ids (u ∷ os) ≡ true → fresh u.id m ≡ true → HaveBags s bag os
      → w.ShowsSubs sources Below m (w.upper_leaves (key_frame u.id places 0 n) list having) os
      → b.parts.conds.items ≡ split (l.cond sources (key_frame u.id places 0 n) m (after (list_leaves (key_frame u.id places 0 n) list) (w.upper_slots u.id (suc (length places)) (w.upper_leaves (key_frame u.id places 0 n) list having) os)) having)
      → b.parts.head ≡ terms sources (key_frame u.id places 0 n) m (w.upper_slots u.id (suc (length places)) (w.upper_leaves (key_frame u.id places 0 n) list having) os) list
      → row ≡ map c places ++ totals known (w.upper_leaves (key_frame u.id places 0 n) list having) group
      → seen_in (bound u.id row env) (key_frame u.id places 0 n) ≡ key
      → keep (k.truth known having (key ∷ seen env m) group).t (unit (k.cells known list (key ∷ seen env m) group)) ≡ over_each os s (given_of b.parts.conds.items b.parts.head s) (bound u.id row env)
  upper-row places n list having m b u os s env key row group c apart new gives subs conds head is see =
      let fr = key_frame u.id places 0 n in
      let ls = w.upper_leaves fr list having in
      let sl = w.upper_slots u.id (suc (length places)) ls os in
      let e = bound u.id row env in
      let here = row-same u.id row env in
      let d = and_parts (list_all (λ p. not (u.id == p.id)) os) (distinct_ids os) apart in
      let scopes : seen e (fr ∷ m) ≡ key ∷ seen env m = ap₂ (λ a z. a ∷ z) see (map-fresh u.id row env m new) in
      let mean = subs-mean known sources bag Below bags wides s m e (λ n f. (fresh n (f ∷ m) ≡ true) × ((u.id == n) ≡ false)) (Reads s m u.id e row group) group ls os (fold_refs u.id (suc (length places)) ls) subs gives
      (apart-all u.id m os d.0) (folds-mean s m u.id e row group ls (suc (length places)) (map c places) is (ap suc (sym (map-length c places)))) in
      let a = mean-append known (λ q. s q e) (λ f. seen e (f ∷ m)) (λ n f. (fresh n (f ∷ m) ≡ true) × ((u.id == n) ≡ false)) (Reads s m u.id e row group) group (list_leaves fr list) (test_leaves fr having) sl mean in
      let end = after (list_leaves fr list) sl in
      sym (skip known sources bag Below bags wides m ls os s (given_of b.parts.conds.items b.parts.head s) e subs
      ∙ ap₂ (λ cs hs. given_of cs hs s e) conds head
      ∙ ap₂ (λ (p : Truth) (cells : List Cell). keep p.t (unit cells))
      (all-split (λ q. s q e) (l.cond sources fr m end having) e ∙ up-test s m u.id e row group here fr end having a.1 ∙ ap (λ z. k.truth known having z group) scopes)
      (up-list s m u.id e row group here fr sl list a.0 ∙ ap (λ z. k.cells known list z group) scopes))

  pub upper-rows : (list : Values) (from : Froms) (by : Test) (places : Option (List ℕ)) (n : ℕ) (having : Test) (m : Map) (b : Node) (qs : List OwnedQuant) (s : Family)
      → HasKey places → w.Numbered m qs → HaveBags s bag qs → ((c : ℕ) (ls : List Leaf) → Below c (of_groups from by (key_places places) ls) m → (scopes : k.Scopes) → Wide n (filtered known from by scopes))
      → w.Upper sources Below list from by (key_places places) n having m b qs → (env : Environment)
      → over_each qs s (given_of b.parts.conds.items b.parts.head s) env
      ≡ selected (λ one. k.truth known having (one.key ∷ seen env m) one.group) (λ one. k.cells known list (one.key ∷ seen env m) one.group) (k.groups places n (filtered known from by (seen env m)))
  upper-rows list from by places n having m b [] s has numbered gives kept-wide h env = absurd h
  upper-rows list from by places n having m b (u ∷ os) s has numbered gives kept-wide h env =
      let ps = key_places places in
      let fr = key_frame u.id ps 0 n in
      let ls = w.upper_leaves fr list having in
      let new = and_parts (fresh u.id m) (list_all (λ o. fresh o.id m) os) numbered.1 in
      let f : Grouped (List Cell) → Bag = λ one. keep (k.truth known having (one.key ∷ seen env m) one.group).t (unit (k.cells known list (one.key ∷ seen env m) one.group)) in
      let g : List Cell → Bag = λ cells. over_each os s (given_of b.parts.conds.items b.parts.head s) (bound u.id cells env) in
      ap (λ kind. cond kind (bind (s u.id env) g) (over_each os s (given_of b.parts.conds.items b.parts.head s) env)) (ap is_F h.kind)
      ∙ ap (λ rows. bind rows g) (gives.0 env ∙ bags u.over (of_groups from by ps ls) m h.groups env)
      ∙ sym (groups-bind known places ls 0 [] has n (filtered known from by (seen env m)) (kept-wide u.over ls h.groups (seen env m)) f g
      (λ a len rows.
      upper-row ps n list having m b u os s env (masked_from 0 ps a) (picked ps a ++ totals known ls (members rows)) (members rows) (λ place. get_or a place Null) numbered.0 new.0 gives.1 h.subs h.conds h.head refl
      (ap (λ z. seen_in (bound u.id (picked ps a ++ totals known ls (members rows)) env) (key_frame u.id ps 0 z)) (sym len)
      ∙ mask-seen u.id (bound u.id (picked ps a ++ totals known ls (members rows)) env) (λ place. get_or a place Null) ps (totals known ls (members rows)) (row-same u.id (picked ps a ++ totals known ls (members rows)) env) 0 a (follows-all a)))
      (λ kind.
      let row = map (λ _. Err kind) ps ++ totals known ls (failed kind) in
      upper-row ps n list having m b u os s env (masked_from 0 ps (replicate n (Err kind))) row (failed kind) (λ _. Err kind) numbered.0 new.0 gives.1 h.subs h.conds h.head refl
      (ap (λ z. seen_in (bound u.id row env) (key_frame u.id ps 0 z)) (sym (replicate-length n (Err kind)))
      ∙ mask-seen u.id (bound u.id row env) (λ _. Err kind) ps (totals known ls (failed kind)) (row-same u.id row env) 0 (replicate n (Err kind)) (follows-one (Err kind) 0 n))))
