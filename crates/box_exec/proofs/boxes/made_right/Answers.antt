use Rattle.std.proofs.Common.{◌≡◌, arith, false, rules, subst, sym}
use Rattle.box_exec.specs.Early.{is_open}
use Rattle.box_exec.specs.Lasting.{RightIndexed}
use Rattle.box_exec.specs.Plans.{stored}
use Rattle.box_exec.specs.declared.lookup.Hashed.{Hashed}
use Rattle.box_exec.proofs.Lasting.{right-at}
use Rattle.box_exec.proofs.boxes.made_right.Goals as goal

pub returns-in-len1-up : goal.returns-in-len1-up
returns-in-len1-up c =
    let at = c.args.at.now in
    let q = c.args.q.now in
    let h = c.h-item.result in
    let many = c.in-len1-up.len_at_least in
    let closed : is_open q.under ≡ false = search rules in
    let right : RightIndexed at.node.now (stored at) h = subst (λ (x : Hashed). RightIndexed at.node.now (stored at) x) (sym c.h-item.is) (c.requires.planned.right 0 h (omega (arith, many))) in
    (closed, right-at at c.requires.planned q c.requires.within c.requires.at h right)
