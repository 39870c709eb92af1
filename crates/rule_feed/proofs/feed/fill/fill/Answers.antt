use Rattle.std.proofs.Common.{ℕ, suc, ◌≡◌, ◌++◌, Bool, List, ap, ap₂, sym, ◌∙◌}
use Rattle.qgm_core.specs.Boxes.{QueryGraph, box_of}
use Rattle.qgm_core.specs.Edits.{put_terms, redirect, set_distinct}
use Rattle.qgm_core.specs.declared.owned.OwnedQuant.{OwnedQuant}
use Rattle.qgm_core.specs.declared.parts.BoxParts.{BoxParts}
use Rattle.qgm_terms.specs.Terms.{Cond}
use Rattle.qgm_meaning.specs.Tags.{columns_from}
use Rattle.rule_feed.specs.Feed.{Numbers, inside}
use Rattle.rule_feed.specs.FeedSteps.{put_each}
use Rattle.rule_feed.specs.FillSteps.{as_numbers, fed_cells, fed_conjuncts, is_beside, joined, many, named, wide, with_fed, with_magic}
use Rattle.rule_feed.specs.NamedColumns.{cells_by, count, flags, joins_by, picked_by}
use Rattle.rule_feed.proofs.FillFound.{conds-is, head-is, held-filtered, made-same}
use Rattle.rule_feed.proofs.NamedSteps.{cells-is, count-is, joins-is, picked-is}
use Rattle.rule_feed.proofs.feed.fill.fill.Goals as goal

pub put_names-requires-clause-reached : goal.put_names-requires-clause-reached
put_names-requires-clause-reached c =
    λ y j. c.in_ok-new.ensures.kept.0 y (c.in_ok-magic.ensures.kept.0 y (held-filtered (inside c.args.graph.now.boxes c.args.i.over) c.args.graph.now.boxes c.in_ok-x.x.reached.items c.in_ok-x.ensures.1.1.0 y j))

pub put_names-requires-clause-beside : goal.put_names-requires-clause-beside
put_names-requires-clause-beside c =
    λ y j. c.in_ok-new.ensures.kept.0 y (c.in_ok-magic.ensures.kept.0 y (held-filtered (is_beside c.args.graph.now.boxes c.args.i.over c.args.b) c.args.graph.now.boxes c.in_ok-x.x.beside.items c.in_ok-x.ensures.1.1.1.0 y j))

pub returns-clause-graph : goal.returns-clause-graph
returns-clause-graph c =
    let g : QueryGraph = c.args.graph.now in
    let b : ℕ = c.args.b in
    let s : ℕ = c.args.split.s in
    let q : ℕ = c.args.split.q in
    let i : OwnedQuant = c.args.i in
    let x : Numbers = as_numbers c.in_ok-new.new in
    let fs : List Bool = c.in_ok-x.x.flags.items in
    let all : List Bool = flags (named g b s q i) 1 (wide g b s q i) in
    let n : ℕ = c.in_ok-x.x.many in
    let v : ℕ = c.in_ok-x.x.deep in
    let is : fs ≡ all = c.in_ok-x.ensures.0 in
    let how : count all ≡ many g b s q i = count-is (named g b s q i) 1 (wide g b s q i) in
    let join : joins_by all q i.id 1 1 ≡ joined g b s q i = joins-is (named g b s q i) q i.id 1 1 (wide g b s q i) in
    let p : BoxParts = c.parts.result.now in
    let own : c.deref.result.now ≡ all = c.deref.ensures.value ∙ is in
    let magic : c.add_magic.new.graph ≡ with_magic b s x.m x.mq (picked_by fs x.mq 1) g = c.in_ok-magic.ensures.graph
    ∙ ap₂ (λ (m mq : ℕ). with_magic b s m mq (picked_by c.deref-2.result.now mq 1) g) (sym c.in_ok-new.ensures.same_m) (sym c.in_ok-new.ensures.same_mq)
    ∙ ap (λ (l : List Bool). with_magic b s x.m x.mq (picked_by l x.mq 1) g) c.deref-2.ensures.value in
    let new : c.add_fed.new.graph ≡ with_fed b i.over x (columns_from x.dm 1 n ++ columns_from x.dc 1 v) (with_magic b s x.m x.mq (picked_by fs x.mq 1) g) = c.in_ok-new.ensures.graph
    ∙ ap (λ (h : QueryGraph). with_fed b i.over x (columns_from x.dm 1 n ++ columns_from x.dc 1 v) h) magic in
    c.put_own.ensures
    ∙ ap (λ (h : QueryGraph). redirect i.id x.d (put_terms b c.in_ok-own.own.conds c.in_ok-own.own.head (set_distinct i.over c.in_ok-x.x.distinct h)))
    (c.in_ok-put_names.ensures.graph ∙ ap (λ (h : QueryGraph). put_each c.in_ok-x.x.beside.items i.id (columns_from i.id (suc n) v) (put_each c.in_ok-x.x.reached.items q (cells_by fs x.dm 1) h)) new)
    ∙ made-same g b s q i x (picked_by fs x.mq 1) _ (cells_by fs x.dm 1) _ n _ v _ c.in_ok-x.x.reached.items _ c.in_ok-x.x.beside.items _ c.in_ok-x.x.distinct _ c.in_ok-own.own.conds _ c.in_ok-own.own.head _
    (ap (λ (l : List Bool). picked_by l x.mq 1) is ∙ picked-is (named g b s q i) x.mq 1 (wide g b s q i))
    (ap (λ (l : List Bool). cells_by l x.dm 1) is ∙ cells-is (named g b s q i) x.dm 1 1 (wide g b s q i))
    (c.in_ok-x.ensures.1.0 ∙ how)
    c.in_ok-x.ensures.1.1.1.1.0
    c.in_ok-x.ensures.1.1.0
    c.in_ok-x.ensures.1.1.1.0
    c.in_ok-x.ensures.1.1.1.1.1
    (c.in_ok-own.ensures.conds ∙ ap (λ (l : List Bool). fed_conjuncts i (count l) (joins_by l q i.id 1 1) p.conds) own ∙ ap₂ (λ (n : ℕ) (j : List Cond). fed_conjuncts i n j p.conds) how join ∙ ap (fed_conjuncts i (many g b s q i) (joined g b s q i)) (conds-is p (box_of b g) c.parts.ensures))
    (c.in_ok-own.ensures.head ∙ ap (λ (l : List Bool). fed_cells i (count l) (joins_by l q i.id 1 1) p.head) own ∙ ap₂ (λ (n : ℕ) (j : List Cond). fed_cells i n j p.head) how join ∙ ap (fed_cells i (many g b s q i) (joined g b s q i)) (head-is p (box_of b g) c.parts.ensures))
