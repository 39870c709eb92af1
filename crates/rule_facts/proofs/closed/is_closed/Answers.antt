use Rattle.std.proofs.Common.{◌≡◌, ℕ, Bool, true, false, List, [], ◌∷◌, refl}
use Rattle.std.specs.Prelude.{IsTrue, ◌↔◌}
use Rattle.std.proofs.lemmas.Result.{IfOk-weaker}
use Rattle.qgm_core.specs.Free.{free}
use Rattle.qgm_wellformed.specs.WellFormed.{is_empty}
use Rattle.rule_facts.proofs.closed.is_closed.Goals as goal

empty-where : (closed : Bool) (qs : List ℕ) → (IsTrue closed ↔ (qs ≡ [])) → closed ≡ is_empty qs
empty-where true [] h = refl
empty-where true (q ∷ qs) h = absurd (let e = h.0 refl in let z : ⊥ = cc in z)
empty-where false [] h = absurd (let e = h.1 refl in let z : ⊥ = cc in z)
empty-where false (q ∷ qs) h = refl

pub returns : goal.returns
returns c = IfOk-weaker c.is_closed.result _ _ (λ closed h. empty-where closed (free c.args.b c.args.graph.now) h) c.is_closed.ensures
