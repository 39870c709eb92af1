-- What the check finds after an edit of a graph against which it finds nothing: nothing, at the edit's condition.
use Rattle.std.specs.Prelude.{ℕ, ◌≡◌, ◌==◌, ◌≤◌, ◌++◌, ◌||◌, nat_lt, true, false, List, ◌∷◌, length, None}
use Rattle.qgm_wellformed.specs.Columns.{columns_fit}
use Rattle.qgm_wellformed.specs.Shapes.{shape_fits}
use Rattle.qgm_wellformed.specs.Types.{lookup_of, term_type}
use Rattle.qgm_wellformed.specs.WellFormed.{fault}
use Rattle.qgm_core.specs.Boxes.{QueryGraph, numbers, width}
use Rattle.qgm_core.specs.Edits.{drop_quant, move_below, move_conjunct, move_quant, on_quant, put_cells, put_quant, put_range, redirect, reserve, set_distinct, substitute, with_quant, without_quant}
use Rattle.qgm_core.specs.Kinds.{is_F_or_S, is_S, is_enforce, is_fed, is_magic, is_permit, is_preserve}
use Rattle.list_laws.specs.Lists.{EachOnce, In}
use Rattle.qgm_core.specs.declared.kinds.BoxKind.TheVariants.{Select}
use Rattle.qgm_core.specs.declared.kinds.Distinct.{Distinct}
use Rattle.qgm_core.specs.declared.kinds.QuantKind.{QuantKind}
use Rattle.qgm_core.specs.declared.node.Node.{Node}
use Rattle.qgm_core.specs.declared.owned.OwnedQuant.{OwnedQuant}
use Rattle.qgm_meaning.specs.Scope.{loose}
use Rattle.qgm_terms.specs.Substitution.{cell_at}
use Rattle.qgm_terms.specs.Terms.{Cond, Term}
use Rattle.qgm_terms.specs.Wanted.{any_in_cond, reads_cond, wanted}
use Rattle.qgm_terms.specs.declared.sought.Sought.TheVariants as sought
use Rattle.qgm_edit_laws.specs.Adds.{at}
use Rattle.qgm_edit_laws.specs.Changes.{LosesQuant, PutsQuant, Redirects, Reparts, TurnsQuants}
use Rattle.qgm_edit_laws.specs.Checked.{own_seen}
use Rattle.qgm_edit_laws.specs.Graph.{Sound, nodes_in, reads_in}
use Rattle.qgm_edit_laws.specs.FedOpen.{FedOpen}
use Rattle.qgm_edit_laws.specs.Placed.{Below, place}
use Rattle.qgm_edit_laws.specs.Reforms.{FedAlone, types_at}

-- box n may be of this distinctness: a PERMIT box isn't the root, and no F or S quantifier ranges over it; a magic box is ENFORCE, a fed one PRESERVE
pub record MayBe (g : QueryGraph) (n : Node) (d : Distinct) : Type 0 where
  pub within : In n g.boxes
  pub not_root : is_permit d ≡ true → n.id ≡ g.root → ⊥
  pub unseen : is_permit d ≡ true → (m : Node) (r : OwnedQuant) → In m g.boxes → In r m.quants → r.over ≡ n.id → is_F_or_S r.kind ≡ false
  pub magic : is_magic n.parts.role ≡ true → is_enforce d ≡ true
  pub fed : is_fed n.parts.role ≡ true → is_preserve d ≡ true

-- the conjunct p of b may go to c, another select that isn't fed: it has no scalar, some or every, and reads what is bound in c or looked up in it; no fed box is left over a closed box
pub record MayMoveConjunct (g : QueryGraph) (b c : Node) (ps : List Cond) (p : Cond) (qs : List Cond) : Type 0 where
  pub in_b : In b g.boxes
  pub in_c : In c g.boxes
  pub apart : (c.id == b.id) ≡ false
  pub select_b : b.parts.kind ≡ Select
  pub select_c : c.parts.kind ≡ Select
  pub not_fed : is_fed c.parts.role ≡ false
  pub conds : b.parts.conds.items ≡ ps ++ p ∷ qs
  pub node_free : any_in_cond (wanted sought.Node) p ≡ false
  pub reads : (q : ℕ) → reads_cond q p ≡ true → (own_seen c.parts.kind c q || loose g.boxes c.id q) ≡ true
  pub fed_open : FedOpen (move_conjunct b.id (length ps) c.id g).boxes

-- quantifier r of o may range for this kind: o is scoped and has its shape then; for a scalar the box has a column, and where its rows count it isn't PERMIT
pub record MayTurn (g : QueryGraph) (o : Node) (r : OwnedQuant) (kind : QuantKind) : Type 0 where
  pub owned : In r o.quants
  pub turns : TurnsQuants g.boxes o (on_quant r.id (λ s. record s { kind = kind }))
  pub shape : shape_fits g.root g.boxes (on_quant r.id (λ s. record s { kind = kind }) o) ≡ true
  pub column : is_S kind ≡ true → (c : Node) → In c g.boxes → c.id ≡ r.over → nat_lt 0 (width c) ≡ true
  pub counted : is_F_or_S kind ≡ true → (c : Node) → In c g.boxes → c.id ≡ r.over → is_permit c.parts.distinct ≡ false

-- quantifier r may be put into o, a select, at place i: it has its shape then; for a scalar the box has a column, and where its rows count it isn't PERMIT
pub record MayAddQuant (g : QueryGraph) (o : Node) (i : ℕ) (r : OwnedQuant) : Type 0 where
  pub puts : PutsQuant g.boxes g.root o i r
  pub select : o.parts.kind ≡ Select
  pub shape : shape_fits g.root g.boxes (put_range i r o) ≡ true
  pub column : is_S r.kind ≡ true → (c : Node) → In c g.boxes → c.id ≡ r.over → nat_lt 0 (width c) ≡ true
  pub counted : is_F_or_S r.kind ≡ true → (c : Node) → In c g.boxes → c.id ≡ r.over → is_permit c.parts.distinct ≡ false

-- quantifier r of o, a select that isn't fed, may go: no box names it, and its box looks nothing up
pub record MayDropQuant (g : QueryGraph) (o : Node) (r : OwnedQuant) : Type 0 where
  pub loses : LosesQuant g.boxes o r.id
  pub owned : In r o.quants
  pub closed : (q : ℕ) → loose g.boxes r.over q ≡ false
  pub select : o.parts.kind ≡ Select
  pub not_fed : is_fed o.parts.role ≡ false

-- quantifier r of o, which isn't fed, may range over c: as its box, c looks nothing up, and it has columns of the same types; where its rows count it isn't PERMIT
pub record MayRedirect (g : QueryGraph) (o : Node) (r : OwnedQuant) (c : Node) : Type 0 where
  pub redirects : Redirects g.boxes g.root o r c
  pub closed : (q : ℕ) → loose g.boxes r.over q ≡ false
  pub types : types_at g.boxes c.id ≡ types_at g.boxes r.over
  pub not_fed : is_fed o.parts.role ≡ false
  pub counted : is_F_or_S r.kind ≡ true → is_permit c.parts.distinct ≡ false

-- quantifier r of o may go to b, another select, at place i: the graph is sound then, both have their shapes, and under the second quantifiers of fed boxes the first is looked up alone
pub record MayMoveQuant (g : QueryGraph) (o : Node) (r : OwnedQuant) (b : Node) (i : ℕ) : Type 0 where
  pub in_o : In o g.boxes
  pub owned : In r o.quants
  pub in_b : In b g.boxes
  pub apart : (b.id == o.id) ≡ false
  pub select_o : o.parts.kind ≡ Select
  pub select_b : b.parts.kind ≡ Select
  pub shape_o : shape_fits g.root g.boxes (without_quant r.id o) ≡ true
  pub shape_b : shape_fits g.root g.boxes (put_range i r b) ≡ true
  pub sound : Sound (move_quant r.id b.id i g).boxes g.root
  pub fed : FedAlone (move_quant r.id b.id i g).boxes

-- these cells may stand for the columns of q in n: they have the types of those that it reads, n has no scalar, some or every of q, and has columns and its shape then; no fed box is left over a closed box
pub record MaySubstitute (g : QueryGraph) (n : Node) (q : ℕ) (cells : List Term) : Type 0 where
  pub within : In n g.boxes
  pub parts : Reparts g.boxes (at n.id (put_cells q cells))
  pub no_node : nodes_in q n ≡ false
  pub types : (k : ℕ) → reads_in q k n ≡ true → term_type (lookup_of g.boxes) (cell_at k cells) ≡ lookup_of g.boxes q k
  pub columns : columns_fit g.boxes (put_cells q cells n) ≡ true
  pub shape : shape_fits g.root g.boxes (put_cells q cells n) ≡ true
  pub fed_open : FedOpen (substitute n.id q cells g).boxes

-- box c may stand just below box d
pub record MayMoveBelow (g : QueryGraph) (c : Node) (d : ℕ) : Type 0 where
  pub within : In c g.boxes
  pub below : Below g.boxes d c.id
  pub owners : (n : Node) (r : OwnedQuant) → In n g.boxes → In r n.quants → r.over ≡ c.id → place g.boxes n.id ≤ place g.boxes d

pub record EditsFormed (g : QueryGraph) : Type 0 where
  pub set_distinct : (n : Node) (d : Distinct) → MayBe g n d → fault (set_distinct n.id d g) ≡ None
  pub reserve : (n : Node) (m : ℕ) → In n g.boxes → fault (reserve n.id m g) ≡ None
  pub move_conjunct : (b c : Node) (ps : List Cond) (p : Cond) (qs : List Cond) → MayMoveConjunct g b c ps p qs → fault (move_conjunct b.id (length ps) c.id g) ≡ None
  pub put_quant : (o : Node) (r : OwnedQuant) (kind : QuantKind) → MayTurn g o r kind → fault (put_quant r.id kind g) ≡ None
  pub add_quant : (o : Node) (i : ℕ) (r : OwnedQuant) → MayAddQuant g o i r → fault (with_quant o.id i r g) ≡ None
  pub drop_quant : (o : Node) (r : OwnedQuant) → MayDropQuant g o r → fault (drop_quant r.id g) ≡ None
  pub redirect : (o : Node) (r : OwnedQuant) (c : Node) → MayRedirect g o r c → fault (redirect r.id c.id g) ≡ None
  pub move_quant : (o : Node) (r : OwnedQuant) (b : Node) (i : ℕ) → MayMoveQuant g o r b i → fault (move_quant r.id b.id i g) ≡ None
  pub substitute : (n : Node) (q : ℕ) (cells : List Term) → MaySubstitute g n q cells → fault (substitute n.id q cells g) ≡ None
  pub move_below : (c : Node) (d : ℕ) → MayMoveBelow g c d → fault (move_below c.id d g) ≡ None

abbrev pub EditsWellFormed : Type 0
EditsWellFormed = (g : QueryGraph) → EachOnce (numbers g.boxes) → fault g ≡ None → EditsFormed g
