use Rattle.std.proofs.Common.{◌≡◌, ◌<◌, ◌+◌, ◌++◌, ℕ, List, [], drop, get_or, length, map, ap, sym, ◌∙◌, Option, Bor, option_map, arith}
use Rattle.std.proofs.Math.ListN.{drop_of_length-le, get_or-append}
use Rattle.std.proofs.lemmas.List.{append-nil, length-append}
use Rattle.qgm_core.specs.Boxes.{is_box, quants_in}
use Rattle.list_laws.specs.Lists.{first}
use Rattle.qgm_core.specs.Walk.{news, under}
use Rattle.qgm_core.specs.declared.node.Node.{Node}
use Rattle.qgm_core.specs.declared.owned.OwnedQuant.{OwnedQuant}
use Rattle.qgm_core.proofs.Visited.{level-step}
use Rattle.qgm_core.proofs.walks.add_level.Goals.{in-Some+in_ok-add_news, in_default}
use Rattle.qgm_core.proofs.walks.add_level.Goals as goal

pub loop-i-preserved : goal.loop-i-preserved
loop-i-preserved c =
    let start = c.args.seen.now in
    let seen = c.loop-i.seen in
    let kept = c.loop-i.invariant in
    let i = c.loop-i.i in
    let b = get_or c.as_slice.result.now i 0 in
    let more = news seen (map (λ (r : OwnedQuant). r.over) (quants_in (first (is_box b) c.args.nodes.now))) in
    let over = λ (rs : List OwnedQuant). seen ++ news seen (map (λ r. r.over) rs) in
    let found = sym c.node_at.ensures in
    let e : c.match-node_at.seen ≡ seen ++ more = elim c.match-node_at.branch [
      | in-Some+in_ok-add_news w ↦
          w.seen-is ∙ w.in_ok-add_news.ensures
          ∙ ap over (w.as_slice-in-Some.ensures ∙ sym (ap (λ (o : Option Node). quants_in o) (found ∙ ap (λ (o : Option (Bor Node)). option_map (λ n. n.now) o) w.in-Some.is)))
      | in_default w ↦
          w.seen-is ∙ sym (append-nil seen)
          ∙ sym (ap over (ap (λ (o : Option Node). quants_in o) (found ∙ ap (λ (o : Option (Bor Node)). option_map (λ n. n.now) o) w.in_default.is)))
    ] in
    let t = c.loop-i-test.true in
    let n : length c.as_slice-i-end.result.now ≡ length start = ap (λ (xs : List ℕ). length xs) c.as_slice-i-end.ensures in
    let l : i < length start = omega (arith, t, n) in
    let m : length c.match-node_at.seen ≡ length seen + length more = ap (λ (xs : List ℕ). length xs) e ∙ length-append seen more in
    let long = kept.long in
    record {
      long = omega (arith, m, long);
      stays = λ k d h. ap (λ (xs : List ℕ). get_or xs k d) e ∙ get_or-append seen more d k (omega (arith, h, long)) ∙ kept.stays k d h;
      left = level-step c.args.nodes.now start seen c.match-node_at.seen i b l (ap (λ (xs : List ℕ). get_or xs i 0) c.as_slice.ensures ∙ kept.stays i 0 l) e ∙ kept.left;
    }

pub returns : goal.returns
returns c =
    let start = c.args.seen.now in
    let seen = c.loop-i.seen in
    let t = c.loop-i-test.false in
    let n : length c.as_slice-i-end.result.now ≡ length start = ap (λ (xs : List ℕ). length xs) c.as_slice-i-end.ensures in
    let none : drop c.loop-i.i start ≡ [] = drop_of_length-le start (omega (arith, t, n)) in
    sym (append-nil seen) ∙ ap (λ (bs : List ℕ). seen ++ news seen (under c.args.nodes.now bs)) (sym none) ∙ c.loop-i.invariant.left
