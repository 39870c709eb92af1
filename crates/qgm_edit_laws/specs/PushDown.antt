-- A conjunct of a select that reads one of its quantifiers alone.
use Rattle.std.specs.Prelude.{ℕ, ◌≡◌, ◌++◌, true, false, List, ◌∷◌}
use Rattle.qgm_core.specs.Boxes.{overs_in}
use Rattle.qgm_core.specs.Kinds.{is_F}
use Rattle.list_laws.specs.Lists.{In, times}
use Rattle.qgm_core.specs.declared.kinds.BoxKind.TheVariants.{Select}
use Rattle.qgm_core.specs.declared.node.Node.{Node}
use Rattle.qgm_core.specs.declared.owned.OwnedQuant.{OwnedQuant}
use Rattle.qgm_terms.specs.Terms.{Cond}
use Rattle.qgm_terms.specs.Wanted.{any_in_cond, reads_cond, wanted}
use Rattle.qgm_terms.specs.declared.sought.Sought.TheVariants as sought

-- a select b has the conjunct p among ps and qs, which is node-free and reads columns of r alone; r is an F quantifier of b, and no other ranges over its box
pub record PushesFrom (bs : List Node) (b : Node) (ps : List Cond) (p : Cond) (qs : List Cond) (us : List OwnedQuant) (r : OwnedQuant) (vs : List OwnedQuant) : Type 0 where
  pub in_b : In b bs
  pub select_b : b.parts.kind ≡ Select
  pub split : b.quants ≡ us ++ r ∷ vs
  pub is_f : is_F r.kind ≡ true
  pub one_use : times r.over (overs_in bs) ≡ 1
  pub conds : b.parts.conds.items ≡ ps ++ p ∷ qs
  pub node_free : any_in_cond (wanted sought.Node) p ≡ false
  pub own : (q : ℕ) → reads_cond q p ≡ true → q ≡ r.id
