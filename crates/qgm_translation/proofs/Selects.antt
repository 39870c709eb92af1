-- A select box that shows a FROM, a WHERE and a list gives what they select.
use Rattle.std.proofs.Common.{◌≡◌, ℕ, Bool, true, false, cond, List, [], ◌∷◌, ◌++◌, map, refl, ap, ap₂, sym, ◌∙◌}
use Rattle.row_bag.specs.Bags.{bind, keep, unit}
use Rattle.row_bag.proofs.Binds.{keep-and}
use Rattle.sql_ast.specs.declared.word.SetFunction.{SetFunction}
use Rattle.sql_ast.specs.declared.word.SetFunction.TheVariants as function
use Rattle.sql_meaning.specs.Groups.{Group, aggregated, count_all, no_group}
use Rattle.sql_meaning.specs.Joins.{selected}
use Rattle.sql_value.proofs.Laws.{and-associative}
use Rattle.sql_value.specs.Truths as t
use Rattle.sql_value.specs.declared.cell.Cell.{Cell}
use Rattle.sql_value.specs.declared.truth.Truth.{Truth}
use Rattle.sql_meaning.specs.ResolvedMeaning as k
use Rattle.sql_meaning.specs.ResolvedTrees.{Value, Values, Test, From, Froms, Query}
use Rattle.sql_meaning.specs.ResolvedTrees as q
use Rattle.qgm_meaning.specs.Values.{Bag, Environment, all_true, bound, head_cells, truth}
use Rattle.qgm_terms.specs.Terms.{Term}
use Rattle.qgm_meaning.specs.Meaning.{Family, over_each}
use Rattle.qgm_core.specs.declared.node.Node.{Node}
use Rattle.qgm_core.specs.declared.owned.OwnedQuant.{OwnedQuant}
use Rattle.qgm_translation.proofs.Bridge.{given_of, rows_in}
use Rattle.qgm_core.specs.Kinds.{is_F}
use Rattle.qgm_translation.specs.Maps.{Frame, Map, Ref, fresh, ref_cell, ref_term, seen, seen_in}
use Rattle.qgm_translation.specs.Leaves.{Leaf, Slots, after, count, fold, rest_of, first_cell, sub, test_leaves}
use Rattle.qgm_core.specs.declared.kinds.Distinct.{Distinct}
use Rattle.qgm_translation.specs.Terms.{split}
use Rattle.qgm_translation.specs.Terms as l
use Rattle.qgm_translation.specs.Shown.{Thing, of_operand, of_query, ungrouped, ungrouped_cells, fold_refs}
use Rattle.qgm_translation.specs.Shown as w
use Rattle.qgm_translation.specs.Sources.{Sources, from_width}
use Rattle.qgm_translation.proofs.Things.{thing_rows}
use Rattle.qgm_translation.proofs.TermLaws.{Mean, all-append, all-split, cond-means, mean-append, ref-means}
use Rattle.qgm_translation.proofs.Froms.{HaveBags, Ready, all_on_truth, gives, map-fresh, on_truth, ready-all, tail-same, through-all, unseen-first}
use Rattle.qgm_translation.proofs.Wide.{Wide}

ungrouped-reads : (f : SetFunction) (distinct : Bool) (argument : List Cell → Cell) (env : Environment) → ref_cell env (ungrouped f) ≡ aggregated f distinct argument no_group
ungrouped-reads function.Count true argument env = refl
ungrouped-reads function.Count false argument env = refl
ungrouped-reads function.Sum true argument env = refl
ungrouped-reads function.Sum false argument env = refl
ungrouped-reads function.Avg true argument env = refl
ungrouped-reads function.Avg false argument env = refl
ungrouped-reads function.Min true argument env = refl
ungrouped-reads function.Min false argument env = refl
ungrouped-reads function.Max true argument env = refl
ungrouped-reads function.Max false argument env = refl

pub refs-head : (s : ℕ → Bag) (env : Environment) (fr : Frame) → head_cells s (map ref_term fr) env ≡ seen_in env fr
refs-head s env [] = refl
refs-head s env (r ∷ fr) = ap₂ (λ a b. a ∷ b) (ref-means s env r) (refs-head s env fr)

module _ (known : List ℕ → Bag) (sources : Sources) (bag : Family)
    (Below : ℕ → Thing → Map → Type 0)
    (bags : (b : ℕ) (thing : Thing) (m : Map) → Below b thing m → (env : Environment) → bag b env ≡ thing_rows known thing (seen env m))
    (wides : (b : ℕ) (x : From) (m : Map) → Below b (of_operand x) m → (scopes : k.Scopes) → Wide (from_width sources x) (k.from_rows known x scopes)) where
  abbrev pub Subs : Map → List Leaf → List OwnedQuant → Type 0
  Subs = w.ShowsSubs sources Below

  -- E, A and S quantifiers are not bound
  pub skip : (m : Map) (ls : List Leaf) (os : List OwnedQuant) (s : Family) (give : Environment → Bag) (env : Environment) → Subs m ls os → over_each os s give env ≡ give env
  skip m [] os s give env h = ap (λ rs. over_each rs s give env) h
  skip m (sub fr kind x ∷ ls) [] s give env h = absurd h
  skip m (sub fr kind x ∷ ls) (o ∷ os) s give env h =
      ap (λ b. cond b (bind (s o.id env) (λ cells. over_each os s give (bound o.id cells env))) (over_each os s give env)) (ap is_F h.0 ∙ h.1) ∙ skip m ls os s give env h.4
  skip m (fold f distinct x ∷ ls) os s give env h = skip m ls os s give env h
  skip m (count ∷ ls) os s give env h = skip m ls os s give env h

  -- ---- where all F quantifiers are bound

  abbrev pub Fresh : Map → ℕ → Frame → Type 0
  Fresh m n f = fresh n (f ∷ m) ≡ true

  module _ (s : Family) (m : Map) (e : Environment) (Fits : ℕ → Frame → Type 0) (Reads : Ref → Cell → Type 0) (group : Group (List Cell)) where
    -- numbers of these quantifiers, if they don't stand in a frame, fit it
    abbrev pub FitAll : List OwnedQuant → Type 0
    FitAll [] = Unit {0}
    FitAll (o ∷ os) = ((f : Frame) → fresh o.id (f ∷ m) ≡ true → Fits o.id f) × FitAll os

    abbrev pub MeanHere : List Leaf → Slots → Type 0
    MeanHere ls sl = Mean known (λ n. s n e) (λ f. seen e (f ∷ m)) Fits Reads group ls sl

    abbrev pub FoldsMean : List Leaf → List Ref → Type 0
    FoldsMean [] cells = Unit {0}
    FoldsMean (sub f kind x ∷ ls) cells = FoldsMean ls cells
    FoldsMean (fold f distinct x ∷ ls) cells = Reads (first_cell cells) (aggregated f distinct (λ row. k.value known x (row ∷ []) no_group) group) × FoldsMean ls (rest_of cells)
    FoldsMean (count ∷ ls) cells = Reads (first_cell cells) (count_all group) × FoldsMean ls (rest_of cells)

    pub subs-mean : (ls : List Leaf) (os : List OwnedQuant) (cells : List Ref) → Subs m ls os → HaveBags s bag os → FitAll os → FoldsMean ls cells → MeanHere ls (record { quants = map (λ o. o.id) os; cells = cells })
    subs-mean [] os cells h g fit f = tt
    subs-mean (sub fr kind x ∷ ls) [] cells h g fit f = absurd h
    subs-mean (sub fr kind x ∷ ls) (o ∷ os) cells h g fit f = (g.0 e ∙ bags o.over (of_query x) (fr ∷ m) h.3 e, fit.0 fr h.2, subs-mean ls os cells h.4 g.1 fit.1 f)
    subs-mean (fold n distinct x ∷ ls) os cells h g fit f = (f.0, subs-mean ls os (rest_of cells) h g fit f.1)
    subs-mean (count ∷ ls) os cells h g fit f = (f.0, subs-mean ls os (rest_of cells) h g fit f.1)

  -- ---- blocks that aren't grouped

  abbrev pub Always : Ref → Cell → Type 0
  Always r v = (d : Environment) → ref_cell d r ≡ v

  module _ (s : Family) (m : Map) (e : Environment) where
    abbrev pub Plain : List Leaf → Slots → Type 0
    Plain ls sl = MeanHere s m e (Fresh m) Always no_group ls sl

    pub all-fresh : (os : List OwnedQuant) → FitAll s m e (Fresh m) Always no_group os
    all-fresh [] = tt
    all-fresh (o ∷ os) = ((λ f h. h), all-fresh os)

    pub folds-plain : (ls : List Leaf) → FoldsMean s m e (Fresh m) Always no_group ls (ungrouped_cells ls)
    folds-plain [] = tt
    folds-plain (sub f kind x ∷ ls) = folds-plain ls
    folds-plain (fold f distinct x ∷ ls) = ((λ d. ungrouped-reads f distinct (λ row. k.value known x (row ∷ []) no_group) d), folds-plain ls)
    folds-plain (count ∷ ls) = ((λ d. refl), folds-plain ls)

    pub test-means : (fr : Frame) (sl : Slots) (p : Test) → Plain (test_leaves fr p) sl → truth (λ n. s n e) (l.cond sources fr m sl p) e ≡ k.truth known p (seen e (fr ∷ m)) no_group
    test-means fr sl p h =
        cond-means known (λ n. s n e) (λ f. seen e (f ∷ m)) (Fresh m) Always no_group sources fr m (λ d. seen d (fr ∷ m) ≡ seen e (fr ∷ m)) (λ d g. g)
        (λ n f d cells g. map-fresh n cells d (fr ∷ m) f ∙ g) (λ r v h d g. h d) sl p h e refl

    plain-append : (xs ys : List Leaf) (sl : Slots) → Plain (xs ++ ys) sl → Plain xs sl × Plain ys (after xs sl)
    plain-append xs ys sl h = mean-append known (λ n. s n e) (λ f. seen e (f ∷ m)) (Fresh m) Always no_group xs ys sl h

    abbrev on : From → List OwnedQuant → Truth
    on x os = on_truth known sources s bag (λ _. []) Below bags wides (seen e m) x os e

    ons-mean : (x : From) (os : List OwnedQuant) (sl : Slots) → Plain (w.on_leaves sources x os) sl → all_true (λ n. s n e) (w.ons sources m x os sl) e ≡ on x os
    ons-mean (q.named name) os sl h = refl
    ons-mean (q.derived query) os sl h = refl
    ons-mean (q.crossed x y) os sl h =
        let xl = w.on_leaves sources x os in
        let past = w.past sources x os in
        let a = plain-append xl (w.on_leaves sources y past) sl h in
        all-append (λ n. s n e) (w.ons sources m x os sl) (w.ons sources m y past (after xl sl)) e ∙ ap₂ t.and (ons-mean x os sl a.0) (ons-mean y past (after xl sl) a.1)
    ons-mean (q.joined x y p) os sl h =
        let xl = w.on_leaves sources x os in
        let past = w.past sources x os in
        let yl = w.on_leaves sources y past in
        let fr = w.frame sources x os ++ w.frame sources y past in
        let a = plain-append xl (yl ++ test_leaves fr p) sl h in
        let b = plain-append yl (test_leaves fr p) (after xl sl) a.1 in
        let end = after yl (after xl sl) in
        all-append (λ n. s n e) (w.ons sources m x os sl) (w.ons sources m y past (after xl sl) ++ split (l.cond sources fr m end p)) e
        ∙ ap₂ t.and (ons-mean x os sl a.0)
        (all-append (λ n. s n e) (w.ons sources m y past (after xl sl)) (split (l.cond sources fr m end p)) e
        ∙ ap₂ t.and (ons-mean y past (after xl sl) b.0) (all-split (λ n. s n e) (l.cond sources fr m end p) e ∙ test-means fr end p b.1))
        ∙ sym (and-associative (on x os) (on y past) (k.truth known p (seen e (fr ∷ m)) no_group))
    ons-mean (q.left_joined x y n p) os sl h = refl

    pub all-ons-mean : (xs : Froms) (os : List OwnedQuant) (sl : Slots) → Plain (w.all_on_leaves sources xs os) sl
        → all_true (λ n. s n e) (w.all_ons sources m xs os sl) e ≡ all_on_truth known sources s bag (λ _. []) Below bags wides (seen e m) xs os e
    all-ons-mean q.no_from os sl h = refl
    all-ons-mean (q.one_from x xs) os sl h =
        let xl = w.on_leaves sources x os in
        let past = w.past sources x os in
        let a = plain-append xl (w.all_on_leaves sources xs past) sl h in
        all-append (λ n. s n e) (w.ons sources m x os sl) (w.all_ons sources m xs past (after xl sl)) e
        ∙ ap₂ t.and (ons-mean x os sl a.0) (all-ons-mean xs past (after xl sl) a.1)

  -- ---- a select

  -- lister: what the list gives of a row of the FROM
  pub select-rows : (from : Froms) (by : Test) (heads : Frame → List Leaf) (list : Frame → Slots → List Term) (m : Map) (n : Node) (lister : k.Scopes → List Cell → List Cell) (d : Distinct)
      → w.ShowsSelect sources Below d from by heads list m n
      → ((e : Environment) (sl : Slots) → Plain (rows_in n.quants bag) m e (heads (w.frame_all sources from n.quants)) sl → head_cells (λ q. rows_in n.quants bag q e) (list (w.frame_all sources from n.quants) sl) e ≡ lister (seen e m) (seen_in e (w.frame_all sources from n.quants)))
      → (env : Environment)
      → over_each n.quants (rows_in n.quants bag) (given_of n.parts.conds.items n.parts.head (rows_in n.quants bag)) env
      ≡ selected (λ row. k.truth known by (row ∷ seen env m) no_group) (lister (seen env m)) (k.frames known from (seen env m))
  select-rows from by heads list m n lister d h means env =
      let os = n.quants in
      let s : Family = rows_in os bag in
      let give : Environment → Bag = given_of n.parts.conds.items n.parts.head s in
      let fr = w.frame_all sources from os in
      let rest = w.past_all sources from os in
      let ls = w.all_leaves sources from by heads os in
      let sl = w.slots_of ls rest in
      let hl = heads fr in
      let ol = w.all_on_leaves sources from os in
      let ready : Ready s bag [] m os = record { distinct = h.plain.numbered.0; unseen = unseen-first m os h.plain.numbered.1; gives = gives bag os h.plain.numbered.0 } in
      let done = ready-all known sources s bag give Below bags wides (seen env m) from [] m os ready in
      through-all known sources s bag give Below bags wides (seen env m) from os [] m ready h.froms
      (λ row. keep (k.truth known by (row ∷ seen env m) no_group).t (unit (lister (seen env m) row))) env refl
      (λ e same.
      let see : seen e m ≡ seen env m = tail-same same in
      let mean = subs-mean s m e (Fresh m) Always no_group ls rest (ungrouped_cells ls) h.subs done.gives (all-fresh s m e rest) (folds-plain s m e ls) in
      let a = plain-append s m e hl (ol ++ test_leaves fr by) sl mean in
      let b = plain-append s m e ol (test_leaves fr by) (after hl sl) a.1 in
      let end = after ol (after hl sl) in
      skip m ls rest s give e h.subs
      ∙ ap₂ (λ cs hs. given_of cs hs s e) h.conds h.head
      ∙ ap₂ (λ (p : Truth) (cells : List Cell). keep p.t (unit cells))
      (all-append (λ q. s q e) (w.all_ons sources m from os (after hl sl)) (split (l.cond sources fr m end by)) e
      ∙ ap₂ t.and (all-ons-mean s m e from os (after hl sl) b.0 ∙ ap (λ z. all_on_truth known sources s bag give Below bags wides z from os e) see)
      (all-split (λ q. s q e) (l.cond sources fr m end by) e ∙ test-means s m e fr end by b.1 ∙ ap (λ z. k.truth known by (seen_in e fr ∷ z) no_group) see))
      (means e sl a.0 ∙ ap (λ z. lister z (seen_in e fr)) see)
      ∙ sym (keep-and (all_on_truth known sources s bag give Below bags wides (seen env m) from os e) (k.truth known by (seen_in e fr ∷ seen env m) no_group) (unit (lister (seen env m) (seen_in e fr)))))
