-- Conditions of a box that are tested before all its quantifiers are bound.
use Rattle.std.specs.Prelude.{ℕ, ◌≡◌, ◌==◌, ◌&&◌, Bool, true, false, List, [], drop}
use Rattle.std.specs.List.{list_any}
use Rattle.list_laws.specs.Lists.{In}
use Rattle.qgm_core.specs.declared.node.Node.{Node}
use Rattle.qgm_core.specs.declared.owned.OwnedQuant.{OwnedQuant}
use Rattle.qgm_meaning.specs.Searches.{names_cond}
use Rattle.qgm_meaning.specs.Values.{Environment, truth}
use Rattle.qgm_terms.specs.Shown.{cond}
use Rattle.qgm_terms.specs.Terms.{Cond}
use Rattle.qgm_terms.specs.Wanted.{reads_cond}
pub use Rattle.box_exec.specs.Levels.{is_none}
use Rattle.box_exec.specs.Sources.{held_by}
use Rattle.box_exec.specs.declared.early.Early.{Early}
use Rattle.box_exec.specs.declared.under.Under.{Under}
use Rattle.box_exec.specs.declared.under.Under.TheVariants.{Kept, Open, Nothing}

-- a box is evaluated anew there
abbrev pub is_open : Under → Bool
is_open (Kept rows) = false
is_open (Open n behind) = true
is_open Nothing = false

-- a scalar, some or every of one of these stands in a condition
abbrev pub names_any : Cond → List OwnedQuant → Bool
names_any c rs = list_any (λ r. names_cond r.id c) rs

-- a condition reads one of these
abbrev pub reads_any : Cond → List OwnedQuant → Bool
reads_any c rs = list_any (λ r. reads_cond r.id c) rs

-- a condition of the box names no quantifier of it in a node, and reads none from the place on, in the order in which they are bound
pub record IsEarly (n : Node) (rs : List OwnedQuant) (e : Early) : Type 0 where
  pub stands : In (cond e.cond.now) n.parts.conds.items
  pub unnamed : names_any (cond e.cond.now) n.quants ≡ false
  pub unread : reads_any (cond e.cond.now) (drop e.place rs) ≡ false

-- one of these whose place this is rejects wholly
abbrev pub rejects : List Early → ℕ → Environment → Bool
rejects es k env = list_any (λ e. (e.place == k) && is_none (truth (held_by []) (cond e.cond.now) env).t) es
