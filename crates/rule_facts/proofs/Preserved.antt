-- What an action owes the law of a rule, of what edits keep.
use Rattle.std.proofs.Common.{ℕ, ◌==◌, ◌≡◌, cond, Bool, true, false, List, [], ◌∷◌, map, None, sym, subst}
use Rattle.row_bag.specs.declared.tables.Table.{Table}
use Rattle.qgm_core.specs.Boxes.{QueryGraph, numbers}
use Rattle.list_laws.specs.Lists.{EachOnce}
use Rattle.qgm_core.specs.declared.node.Node.{Node}
use Rattle.qgm_wellformed.specs.WellFormed.{fault}
use Rattle.qgm_wellformed.proofs.Faults.{finds-none}
use Rattle.qgm_meaning.specs.Satisfies.{Satisfies, SatisfiesBy}
use Rattle.qgm_meaning.proofs.Satisfying.{of-satisfying}
use Rattle.qgm_edit_laws.specs.Keeps.{Keeps}
use Rattle.qgm_edit_laws.proofs.Compact.{kept}
use Rattle.qgm_edit_laws.proofs.Edits.{boxes_without}
use Rattle.rule_api.specs.Rules.{Preserves}

pub satisfies-kept : (tables : List Table) (keep : ℕ → Bool) (ns : List Node) → Satisfies tables ns → Satisfies tables (kept keep ns)
satisfies-kept tables keep [] h = tt
satisfies-kept tables keep (n ∷ ns) h = elim (keep n.id) as (λ t. Satisfies tables (cond t (n ∷ kept keep ns) (kept keep ns))) [
  | true ↦ (h.0, satisfies-kept tables keep ns h.1)
  | false ↦ satisfies-kept tables keep ns h.1
]

pub satisfies-without : (tables : List Table) (b : ℕ) (ns : List Node) → Satisfies tables ns → Satisfies tables (boxes_without b ns)
satisfies-without tables b [] h = tt
satisfies-without tables b (n ∷ ns) h = elim (n.id == b) as (λ t. Satisfies tables (cond t (boxes_without b ns) (n ∷ boxes_without b ns))) [
  | true ↦ satisfies-without tables b ns h.1
  | false ↦ (h.0, satisfies-without tables b ns h.1)
]

pub satisfies-map : (tables : List Table) (f : Node → Node) → ((n : Node) → (f n).parts.kind ≡ n.parts.kind) → (ns : List Node) → Satisfies tables ns → Satisfies tables (map f ns)
satisfies-map tables f same [] h = tt
satisfies-map tables f same (n ∷ ns) h = (subst (λ k. SatisfiesBy k tables) (sym (same n)) h.0, satisfies-map tables f same ns h.1)

-- edits that keep all, and after which the check finds nothing, preserve
pub preserves-kept : (g h : QueryGraph) → EachOnce (numbers h.boxes) → Keeps g h → fault h ≡ None → ((tables : List Table) → Satisfies tables g.boxes → Satisfies tables h.boxes) → Preserves g h
preserves-kept g h u k f s =
    record {
      formed = (finds-none h u).0 f;
      bag = λ tables t. k.bag tables (of-satisfying.filled tables g.boxes t);
      bases = s;
      names = k.names;
      order = k.order;
    }
