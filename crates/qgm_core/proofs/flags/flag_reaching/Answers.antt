use Rattle.std.proofs.lemmas.List.{length-replicate}
use Rattle.std.proofs.lemmas.Grind.{common_steps}
use Rattle.std.proofs.Common.{◌≡◌, ◌∷◌, [], ◌∙◌, ℕ, List, Bool, false, get_or, length, replicate, ap, sym, arith}
use Rattle.qgm_core.specs.Free.{reached}
use Rattle.qgm_core.proofs.Flagged.{flag-put, meets-one, no-flags}
use Rattle.qgm_core.proofs.flags.flag_reaching.Goals as goal

pub returns-clause-flags : goal.returns-clause-flags
returns-clause-flags c = λ x.
    let none = c.fill.new.self.items in
    let m = length c.args.flags.now.items in
    let same : none ≡ replicate m false = grind (arith, common_steps) in
    let long : length none ≡ m = ap (λ (fs : List Bool). length fs) same ∙ length-replicate m false in
    let start : (y : ℕ) → get_or none y false ≡ false = λ y. ap (λ (fs : List Bool). get_or fs y false) same ∙ no-flags m y in
    c.spread.ensures.flags (c.args.c ∷ []) (flag-put none c.args.c [] (rw long c.requires.below) start) x ∙ sym (meets-one c.args.c (reached (x ∷ []) c.args.nodes.now))
