use Rattle.std.proofs.Common.{◌∙◌, ◌++◌, ap, ap₂, arith, length, length-append}
use Rattle.row_bag.proofs.Cutting.{both-cut, both-size}
use Rattle.row_bag.proofs.grid.Grid.append.Goals as goal

pub invariant_of-self-2 : goal.invariant_of-self-2
invariant_of-self-2 c =
    let first = c.self.invariant.1 in
    let second = c.more.invariant.1 in
    let size = ap length c.in_ok-append.ensures.items ∙ length-append c.self.inside.cells.items c.more.inside.cells.items in (
      both-size c.self.inside.width c.more.inside.width c.args.width c.self.inside.count c.more.inside.count c.self.inside.cells.items c.more.inside.cells.items c.append.new.self.items c.in_ok-append.ensures.items (rw c.self.view_is c.requires.own) c.self.invariant.0
          (rw c.more.view_is c.requires.others) c.more.invariant.0,
      omega (arith, first, second, size),
    )

pub returns : goal.returns
returns c =
    both-cut c.self.inside.width c.more.inside.width c.args.width c.self.inside.count c.more.inside.count c.self.inside.cells.items c.more.inside.cells.items c.append.new.self.items c.in_ok-append.ensures.items (rw c.self.view_is c.requires.own) c.self.invariant.0
    (rw c.more.view_is c.requires.others) c.more.invariant.0
    ∙ ap₂ (λ xs ys. xs ++ ys) c.self.view_is c.more.view_is
