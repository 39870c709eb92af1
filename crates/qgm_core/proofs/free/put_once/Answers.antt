use Rattle.std.proofs.Common.{◌<◌, length, sym, ◌∙◌, arith}
use Rattle.qgm_core.proofs.Ascending.{put_new, put_old}
use Rattle.qgm_core.proofs.free.put_once.Goals.{else-i-len-via-then-i-len+else-index-q, else-i-len-via-else-i-len}
use Rattle.qgm_core.proofs.Fresh.{or_ok}
use Rattle.qgm_core.proofs.free.put_once.Goals as goal

pub returns-then-index-q : goal.returns-then-index-q
returns-then-index-q c =
    let xs = c.args.out.now.items in
    let i = c.place_for-i.result in
    let p = rw c.deref.ensures.value at c.place_for-i.ensures in
    let l : i < length xs = omega (arith, c.args.out.now.ok) in
    put_old c.args.q xs i c.index.result.now l p.less (sym c.index.ensures ∙ c.if-index-q.true)

pub returns : goal.returns
returns c =
    let xs = c.args.out.now.items in
    let q = c.args.q in
    let i = c.place_for-i.result in
    let p = rw c.deref.ensures.value at c.place_for-i.ensures in
    rw c.or.ensures (or_ok c.insert.result _ _ _ _ _ c.insert.ensures.items (elim c.else-i-len.branch [
      | else-i-len-via-then-i-len+else-index-q w ↦
          put_new q xs i w.index.result.now p.within p.less
          (λ l. let a = p.not_less w.index.result.now l in let b = w.index.ensures in let d = w.if-index-q.false in omega (arith, a, b, d))
      | else-i-len-via-else-i-len w ↦
          put_new q xs i 0 p.within p.less (λ l. let a = w.if-i-len.false in absurd (omega (arith, l, a, c.args.out.now.ok)))
    ]))
