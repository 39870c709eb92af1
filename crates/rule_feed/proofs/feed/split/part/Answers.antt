use Rattle.std.proofs.Common.{ℕ, ◌≡◌, List, ap, ap₂, filter, length, ◌∙◌}
use Rattle.qgm_terms.specs.Terms.{Cond}
use Rattle.qgm_core.specs.Free.{free_in}
use Rattle.qgm_core.specs.declared.node.Node.{Node}
use Rattle.qgm_core.specs.declared.owned.OwnedQuant.{OwnedQuant}
use Rattle.qgm_props.specs.Inferred.{Facts}
use Rattle.qgm_props.specs.Table.{facts_of}
use Rattle.rule_feed.specs.FeedActs.{takes}
use Rattle.rule_feed.specs.FeedCode.{feeds_by, stays-is, stays_by}
use Rattle.rule_feed.specs.FeedMay.{feeders}
use Rattle.rule_feed.specs.FeedSteps.{sizes_in}
use Rattle.rule_feed.specs.Knowing.{facts-are, facts_in}
use Rattle.rule_feed.specs.Split.{heads}
use Rattle.rule_feed.specs.Turn.{before_first}
use Rattle.rule_feed.proofs.feed.split.part.Goals as goal

pub returns : goal.returns
returns c =
    let bs : List Node = c.args.graph.now.boxes in
    let free : c.in_ok-free.free.items ≡ free_in bs c.args.c = c.in_ok-free.ensures in
    let list : c.in_ok-list.list.items ≡ feeders bs c.args.c c.args.b.now.quants = c.in_ok-list.ensures ∙ ap₂ (λ (f : List ℕ) (l : List OwnedQuant). filter (feeds_by f) l) (c.deref.ensures.value ∙ free) c.as_slice.ensures in
    let known : facts_of c.args.facts.now ≡ facts_in bs = facts-are bs (facts_of c.args.facts.now) c.requires in (
      c.before-2.ensures ∙ ap₂ (λ (f : List ℕ) (l : List OwnedQuant). length (before_first (feeds_by f) l)) (c.deref-5.ensures.value ∙ free) c.as_slice-2.ensures,
      (
        list,
        (
          ap₂ (λ (a : List Cond) (n : ℕ). record { items = a; spare = n }) (c.in_ok-taken.ensures.items ∙ ap₂ (λ (k : Facts) (l : List OwnedQuant). filter (takes bs k l) c.args.b.now.parts.conds.items) known (c.deref-3.ensures.value ∙ list)) c.in_ok-taken.ensures.spare,
          (
            c.in_ok-head.ensures ∙ ap₂ (λ (n : List Node) (l : List OwnedQuant). heads (sizes_in n l)) c.nodes.ensures (c.deref-2.ensures.value ∙ list),
            (
              c.in_ok-staying.ensures ∙ ap₂ (λ (k : Facts) (l : List OwnedQuant). record c.args.b.now.parts.conds { items = filter (stays_by bs k l) c.args.b.now.parts.conds.items }) known (c.deref-4.ensures.value ∙ list)
                  ∙ ap (λ (z : List Cond). record c.args.b.now.parts.conds { items = z }) (stays-is bs (facts_in bs) (feeders bs c.args.c c.args.b.now.quants) c.args.b.now.parts.conds.items),
              c.in_ok-own.ensures,
            ),
          ),
        ),
      ),
    )
