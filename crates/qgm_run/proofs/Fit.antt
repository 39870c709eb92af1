-- A well-formed graph is fit to be executed, and its quantifiers are bound in it.
use Rattle.std.proofs.Common.{ℕ, ◌≡◌, ◌≤◌, ◌+◌, List, arith}
use Rattle.box_exec.specs.Closed.{AllClosed, NamesBound, closed_number, reached_number}
use Rattle.box_exec.specs.Ready.{AllFit}
use Rattle.box_exec.specs.Settled.{BoundIfTouched, FitIfSettled, Settled}
use Rattle.qgm_wellformed.proofs.Faults.{finds-none}
use Rattle.qgm_wellformed.specs.Sentences.{WellFormed}
use Rattle.qgm_core.specs.Boxes.{QueryGraph, numbers}
use Rattle.list_laws.specs.Lists.{EachOnce}
use Rattle.qgm_edit_laws.specs.Graph.{Sound}
use Rattle.qgm_edit_laws.proofs.Formed.{sound-checked}
use Rattle.qgm_edit_laws.proofs.Scope.{touched}
use Rattle.qgm_meaning.specs.Plain.{plain}
use Rattle.row_bag.specs.declared.tables.Table.{Table}
use Rattle.qgm_run.specs.Answers.{Evaluates}

sound_of_formed : (g : QueryGraph) → EachOnce (numbers g.boxes) → WellFormed g → Sound g.boxes g.root
sound_of_formed g once formed = ((sound-checked g once).0 ((finds-none g once).1 formed)).0

settled_of_sound : (g : QueryGraph) → Sound g.boxes g.root → Settled g.boxes
settled_of_sound g w = record {
  ordered = w.ordered;
  once = w.once;
  own_nodes = λ n i q h. (w.own_nodes n i q h).1;
  settled = w.settled;
}

bound_of_sound : BoundIfTouched → (g : QueryGraph) → Sound g.boxes g.root → NamesBound g
bound_of_sound bound g w =
    bound g (settled_of_sound g w) w.rooted
    (λ n i q h. (w.own_nodes n i q h).0)
    (λ n q i h. touched g.boxes g.root w n q i h)
    (λ q h. (let used = w.used g.root q h in let top = w.top in absurd (omega arith)))

pub fit_of_formed : FitIfSettled → (g : QueryGraph) → EachOnce (numbers g.boxes) → WellFormed g → AllFit g.boxes
fit_of_formed fit g once formed = fit g.boxes (settled_of_sound g (sound_of_formed g once formed))

-- where it is well-formed, the clauses of an execution on the count have no premise left
pub evaluates_of_formed : BoundIfTouched → (tables : List Table) (g : QueryGraph) (before after : ℕ) →
    EachOnce (numbers g.boxes) → WellFormed g
    → (NamesBound g → AllClosed g → after ≡ before + reached_number g)
    → (NamesBound g → before + closed_number g ≤ after)
    → (NamesBound g → after ≤ before + plain tables g)
    → Evaluates tables g before after
evaluates_of_formed bound tables g before after once formed exact least most =
    let names : NamesBound g = bound_of_sound bound g (sound_of_formed g once formed) in
    record { exact = exact names; at_least = least names; at_most = most names }
