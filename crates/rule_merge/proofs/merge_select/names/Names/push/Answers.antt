use Rattle.std.proofs.Common.{◌≡◌, ◌++◌, ◌∷◌, [], ◌∙◌, ℕ, List, ap, max, sym, arith}
use Rattle.std.proofs.lemmas.Grind.{common_steps}
use Rattle.qgm_core.proofs.ByNumber.{read-within}
use Rattle.rule_merge.proofs.MergeSelectNames.{levels-more, places-more}
use Rattle.rule_merge.specs.MergeSelectCopies.{levels_of, places_of}
use Rattle.rule_merge.specs.declared.merge_select.names.Name.{Name}
use Rattle.rule_merge.proofs.merge_select.names.Names.push.Goals as goal

pub invariant_of-self-2 : goal.invariant_of-self-2
invariant_of-self-2 c =
    let ns : List Name = c.self.inside.list.items in
    let n : Name = c.args.name in
    let long = c.reach_places.new.table.items in
    let high = c.reach_levels.new.table.items in
    let v = c.index_mut.result.now in
    let here : v ≡ places_of n.quant ns = c.index_mut.ensures.value ∙ read-within long n.quant v [] c.in_ok-reach_places.ensures.within ∙ c.in_ok-reach_places.ensures.same n.quant ∙ (c.self.invariant n.quant).0 in
    let put : c.push-2.new.self ≡ v ++ n.place ∷ [] = grind (arith, common_steps) in
    let top : c.max-levels.result ≡ max (levels_of n.quant ns) n.levels = c.max-levels.ensures ∙ ap (λ (k : ℕ). max k n.levels) (c.index.ensures ∙ read-within high n.quant c.index.result.now 0 c.in_ok-reach_levels.ensures.within ∙ c.in_ok-reach_levels.ensures.same n.quant ∙ (c.self.invariant n.quant).1) in
    let all : c.push.new.self.items ≡ ns ++ n ∷ [] = grind (arith, common_steps) in
    λ q. (
      places-more ns c.self.inside.places.items long n c.push-2.new.self (λ y. (c.self.invariant y).0) c.in_ok-reach_places.ensures.same c.in_ok-reach_places.ensures.within (put ∙ ap (λ (z : List ℕ). z ++ n.place ∷ []) here) q ∙ ap (places_of q) (sym all),
      levels-more ns c.self.inside.levels.items high n c.max-levels.result (λ y. (c.self.invariant y).1) c.in_ok-reach_levels.ensures.same c.in_ok-reach_levels.ensures.within top q ∙ ap (levels_of q) (sym all),
    )
