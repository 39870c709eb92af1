use Rattle.std.proofs.Common.{◌∷◌, [], ◌∙◌, List, refl, sym, ap, subst, inl}
use Rattle.qgm_core.specs.Edits.{on_boxes}
use Rattle.list_laws.specs.Lists.{In}
use Rattle.qgm_core.specs.declared.node.Node.{Node}
use Rattle.rule_merge.specs.MergeSelectSteps.{put_all}
use Rattle.rule_merge.specs.declared.merge_select.action.NewTerms.{NewTerms}
use Rattle.rule_merge.proofs.MergeSelectPut.{put-last}
use Rattle.rule_merge.proofs.merge_select.action.put_all.Goals as goal
use Rattle.list_laws.proofs.Membership.{in-left, in-right}

pub put_terms-requires : goal.put_terms-requires
put_terms-requires c =
    let t : NewTerms = c.in-Some.t in
    c.loop-t.invariant.held t (subst (λ (z : List NewTerms). In t z) (sym c.in-Some.ensures.items) (in-right t c.pop.new.self.items (t ∷ []) (inl refl)))

pub loop-t-preserved : goal.loop-t-preserved
loop-t-preserved c =
    let t : NewTerms = c.in-Some.t in
    let left : List NewTerms = c.pop.new.self.items in
    record {
      rest =
          ap (on_boxes (put_all left)) c.put_terms.ensures.graph
          ∙ ap (λ (z : List Node). record c.loop-t.graph { boxes = z }) (sym (put-last left t c.loop-t.graph.boxes))
          ∙ ap (λ z. on_boxes (put_all z) c.loop-t.graph) (sym c.in-Some.ensures.items)
          ∙ c.loop-t.invariant.rest;
      held = λ s j. c.put_terms.ensures.kept.0 s.at (c.loop-t.invariant.held s (subst (λ (z : List NewTerms). In s z) (sym c.in-Some.ensures.items) (in-left s left (t ∷ []) j)));
    }
