use Rattle.std.proofs.Common.{All, List, ◌≡◌, ◌<◌, ◌++◌, ◌∷◌, [], arith, length, refl, subst, sym}
use Rattle.qgm_core.specs.declared.owned.OwnedQuant.{OwnedQuant}
use Rattle.box_exec.specs.Lasting.{Reorders}
use Rattle.box_exec.specs.Seekers.{IsSeeker, left_ranges}
use Rattle.box_exec.specs.Taken.{in_turn, next_place}
use Rattle.box_exec.specs.declared.order.Seeker.{Seeker}
use Rattle.box_exec.proofs.Turns.{all-removed, turn-done, turn-next, turn-reorders, many-left}
use Rattle.box_exec.proofs.order.in_turn.Goals as goal

pub turns-preserved : goal.turns-preserved
turns-preserved c =
    let n = c.args.node.now in
    let left = c.turns.left.items in
    let made = c.turns.made.items in
    let i = c.in_ok-i.i in
    let s = c.remove-s.result in
    let whole = in_turn n (length n.quants) n.quants in
    let inside : i < length left = subst (λ (xs : List Seeker). i < length xs) c.deref.ensures.value c.in_ok-i.ensures.within in
    let next : i ≡ next_place n (left_ranges left) = subst (λ (xs : List Seeker). i ≡ next_place n (left_ranges xs)) c.deref.ensures.value (c.in_ok-i.ensures.next n (subst (All (λ (s : Seeker). IsSeeker n s)) (sym c.deref.ensures.value) c.turns.invariant.others)) in
    record {
      others = subst (All (λ (s : Seeker). IsSeeker n s)) (sym c.remove-s.ensures.items) (all-removed (λ (s : Seeker). IsSeeker n s) left i c.turns.invariant.others);
      turn = subst (λ (xs : List OwnedQuant). xs ++ in_turn n (length (left_ranges c.remove-s.new.self.items)) (left_ranges c.remove-s.new.self.items) ≡ whole) (sym c.in_ok-push.ensures.items)
          (subst (λ (xs : List Seeker). (made ++ s.range ∷ []) ++ in_turn n (length (left_ranges xs)) (left_ranges xs) ≡ whole) (sym c.remove-s.ensures.items) (turn-next n left made i s whole inside c.remove-s.ensures.value next c.turns.invariant.turn));
    }

pub returns-clause-turn : goal.returns-clause-turn
returns-clause-turn c =
    let none = c.turns-test.false in
    let len = c.len.ensures in
    let many = many-left c.turns.left.items in
    turn-done c.args.node.now (left_ranges c.turns.left.items) c.turns.made.items _ (omega (arith, none, len, many)) c.turns.invariant.turn

pub returns-clause-reorders : goal.returns-clause-reorders
returns-clause-reorders c = subst (Reorders c.args.node.now.quants) (sym (returns-clause-turn c)) (turn-reorders c.args.node.now (length c.args.node.now.quants) c.args.node.now.quants refl)
