-- A conjunct is added to a box, or goes from it: when it may, and that the check of a graph finds nothing more then.
use Rattle.std.specs.Prelude.{ℕ, ◌≡◌, ◌&&◌, ◌==◌, ◌++◌, ◌⊎◌, true, false, List, ◌∷◌, map, None, [], ◌||◌}
use Rattle.std.specs.List.{list_all, list_any}
use Rattle.qgm_core.specs.Boxes.{QueryGraph, numbers, owns}
use Rattle.qgm_core.specs.Edits.{on_boxes}
use Rattle.qgm_core.specs.Kinds.{is_fed}
use Rattle.list_laws.specs.Lists.{EachOnce, In}
use Rattle.qgm_core.specs.declared.kinds.BoxKind.TheVariants.{OuterJoin, Select}
use Rattle.qgm_core.specs.declared.node.Node.{Node}
use Rattle.qgm_wellformed.specs.Shapes.{node_fits}
use Rattle.qgm_wellformed.specs.Types.{cond_fits, lookup_of, term_type}
use Rattle.qgm_wellformed.specs.WellFormed.{fault}
use Rattle.qgm_meaning.specs.Scope.{read_by}
use Rattle.qgm_meaning.specs.Searches.{looking, names_cond}
use Rattle.qgm_terms.specs.Named.{nodes_in_cond}
use Rattle.qgm_terms.specs.Substitution.{cell_at, substituted_cond}
use Rattle.qgm_terms.specs.Terms.{Cond}
use Rattle.qgm_terms.specs.Wanted.{any_in, any_in_cond, has_aggregate_cond, reads_at_cond, reads_cond, wanted}
use Rattle.qgm_terms.specs.declared.sought.Sought.TheVariants as sought
use Rattle.qgm_edit_laws.specs.Adds.{at}
use Rattle.qgm_edit_laws.specs.Graph.{nodes_in, reads_in}
use Rattle.qgm_edit_laws.specs.Conditioned.{conditioned}

-- n with one condition more, at the end
abbrev pub more : Cond → Node → Node
more p n = record n { parts = record n.parts { conds = record n.parts.conds { items = n.parts.conds.items ++ p ∷ [] } } }

-- the graph where p is added to n
abbrev pub put_conjunct : Node → Cond → QueryGraph → QueryGraph
put_conjunct n p g = on_boxes (map (at n.id (more p))) g

-- the graph where b has these conjuncts
abbrev pub with_conjuncts : Node → List Cond → QueryGraph → QueryGraph
with_conjuncts b cs g = on_boxes (map (at b.id (conditioned cs))) g

-- column k of q stands in a box, in whichever nodes
abbrev pub holds_column : ℕ → ℕ → Node → Type 0
holds_column q k n =
    (list_any (any_in (looking (λ r j. (r == q) && (j == k)) (λ r. false) (λ r. false) (λ r. true))) n.parts.head
    || list_any (any_in_cond (looking (λ r j. (r == q) && (j == k)) (λ r. false) (λ r. false) (λ r. true))) n.parts.conds.items) ≡ true

-- p may be added to n, a select that isn't fed, or an outer join: it is typed and holds no aggregate; its columns and the quantifiers of its nodes are of those that the box has in it, and are read there if they are read in p
pub record MayAddConjunct (g : QueryGraph) (n : Node) (p : Cond) : Type 0 where
  pub within : In n g.boxes
  pub kind : (n.parts.kind ≡ Select) ⊎ (n.parts.kind ≡ OuterJoin)
  pub not_fed : is_fed n.parts.role ≡ false
  pub typed : cond_fits (lookup_of g.boxes) p ≡ true
  pub unfolded : has_aggregate_cond p ≡ false
  pub nodes : list_all (node_fits n.quants) (nodes_in_cond p) ≡ true
  pub names : (q : ℕ) → names_cond q p ≡ true → nodes_in q n ≡ true
  pub columns : (q k : ℕ) → any_in_cond (looking (λ r j. (r == q) && (j == k)) (λ r. false) (λ r. false) (λ r. true)) p ≡ true → holds_column q k n
  pub reads : (q : ℕ) → reads_cond q p ≡ true → read_by n q ≡ true
  pub reads_at : (q k : ℕ) → reads_at_cond q k p ≡ true → reads_in q k n ≡ true

abbrev pub AddConjunctWellFormed : Type 0
AddConjunctWellFormed = (g : QueryGraph) → EachOnce (numbers g.boxes) → fault g ≡ None → (n : Node) (p : Cond) → MayAddConjunct g n p → fault (put_conjunct n p g) ≡ None

-- a condition p without scalars, somes and everys, on columns of q alone, is to be put into a select n that isn't fed, its cells for the columns: p is typed and holds no aggregate, and each cell has the type of its column
pub record PutsConjunct (g : QueryGraph) (n : Node) (q : ℕ) (p : Cond) : Type 0 where
  pub within : In n g.boxes
  pub select : n.parts.kind ≡ Select
  pub not_fed : is_fed n.parts.role ≡ false
  pub node_free : any_in_cond (wanted sought.Node) p ≡ false
  pub own : (x : ℕ) → reads_cond x p ≡ true → x ≡ q
  pub typed : cond_fits (lookup_of g.boxes) p ≡ true
  pub unfolded : has_aggregate_cond p ≡ false
  pub cells : (k : ℕ) → reads_at_cond q k p ≡ true → term_type (lookup_of g.boxes) (cell_at k n.parts.head) ≡ lookup_of g.boxes q k

-- so it may be added there
abbrev pub PutConjunctMay : Type 0
PutConjunctMay = (g : QueryGraph) → EachOnce (numbers g.boxes) → fault g ≡ None → (n : Node) (q : ℕ) (p : Cond) → PutsConjunct g n q p → MayAddConjunct g n (substituted_cond q n.parts.head p)

-- p, among the conjuncts of a select n, may go: it reads quantifiers of n alone
pub record MayDropConjunct (g : QueryGraph) (n : Node) (ps : List Cond) (p : Cond) (qs : List Cond) : Type 0 where
  pub within : In n g.boxes
  pub select : n.parts.kind ≡ Select
  pub conds : n.parts.conds.items ≡ ps ++ p ∷ qs
  pub own : (q : ℕ) → reads_cond q p ≡ true → owns q n ≡ true

abbrev pub DropConjunctWellFormed : Type 0
DropConjunctWellFormed = (g : QueryGraph) → EachOnce (numbers g.boxes) → fault g ≡ None → (n : Node) (ps : List Cond) (p : Cond) (qs : List Cond) → MayDropConjunct g n ps p qs → fault (with_conjuncts n (ps ++ qs) g) ≡ None
