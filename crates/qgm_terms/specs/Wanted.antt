-- What is looked for in expressions and conditions, and whether it stands in them.
use Rattle.std.specs.Prelude.{ℕ, List, [], ◌∷◌, ◌==◌, ◌&&◌, ◌||◌, Bool, true, false}
use Rattle.std.specs.Prelude as p
use Rattle.qgm_terms.specs.Gathered.{Search, gathered, gathered_arms, gathered_cond}
use Rattle.qgm_terms.specs.Terms.{Term, Arms, Cond, Link, Choice}
use Rattle.qgm_terms.specs.declared.sought.Sought.{Sought}
use Rattle.qgm_terms.specs.declared.sought.Sought.TheVariants.{Node, NodeOf, Aggregate, Row, Cell}

-- which columns, scalars and quantifier nodes are looked for; whether aggregates are; nodes that are not entered are not searched
pub record Wanted : Type 0 where
  pub column : ℕ → ℕ → Bool
  pub cell : ℕ → Bool
  pub node : ℕ → Bool
  pub enter : ℕ → Bool
  pub aggregate : Bool

abbrev pub found : Wanted → Search Bool
found s = record {
  at_column = s.column;
  at_scalar = s.cell;
  at_some = λ q b. s.node q || (s.enter q && b);
  at_every = λ q b. s.node q || (s.enter q && b);
  at_aggregate = λ b. s.aggregate || b;
}

-- whether one is found
abbrev pub any_in : Wanted → Term → Bool
any_in s = gathered false (λ x y. x || y) (found s)

abbrev pub any_in_arms : Wanted → Arms → Bool
any_in_arms s = gathered_arms false (λ x y. x || y) (found s)

abbrev pub any_in_cond : Wanted → Cond → Bool
any_in_cond s = gathered_cond false (λ x y. x || y) (found s)

-- of the operands behind a first one, and of conditions with their results
abbrev pub any_in_links : Wanted → List Link → Bool
any_in_links s [] = false
any_in_links s (l ∷ ls) = any_in s l.right || any_in_links s ls

abbrev pub any_in_choices : Wanted → List Choice → Bool
any_in_choices s [] = false
any_in_choices s (c ∷ cs) = any_in_cond s c.when || (any_in s c.then || any_in_choices s cs)

-- that of each search of the program
abbrev pub wanted : Sought → Wanted
wanted Node = record {
  column = λ r j. false;
  cell = λ r. true;
  node = λ r. true;
  enter = λ r. true;
  aggregate = false;
}
wanted (NodeOf q) = record {
  column = λ r j. false;
  cell = λ r. r == q;
  node = λ r. r == q;
  enter = λ r. true;
  aggregate = false;
}
wanted Aggregate = record {
  column = λ r j. false;
  cell = λ r. false;
  node = λ r. false;
  enter = λ r. true;
  aggregate = true;
}
wanted (Row q) = record {
  column = λ r j. r == q;
  cell = λ r. false;
  node = λ r. false;
  enter = λ r. p.not (r == q);
  aggregate = false;
}
wanted (Cell q k) = record {
  column = λ r j. (r == q) && (j == k);
  cell = λ r. false;
  node = λ r. false;
  enter = λ r. p.not (r == q);
  aggregate = false;
}

-- no scalar, some or every stands within
abbrev pub node_free : Term → Bool
node_free x = p.not (any_in (wanted Node) x)

abbrev pub node_free_cond : Cond → Bool
node_free_cond c = p.not (any_in_cond (wanted Node) c)

-- an aggregate stands within
abbrev pub has_aggregate : Term → Bool
has_aggregate = any_in (wanted Aggregate)

abbrev pub has_aggregate_cond : Cond → Bool
has_aggregate_cond = any_in_cond (wanted Aggregate)

-- the rows of q are looked up: a column of q stands within, and no some or every of q round it
abbrev pub reads : ℕ → Term → Bool
reads q = any_in (wanted (Row q))

abbrev pub reads_cond : ℕ → Cond → Bool
reads_cond q = any_in_cond (wanted (Row q))

-- of which column k
abbrev pub reads_at : ℕ → ℕ → Term → Bool
reads_at q k = any_in (wanted (Cell q k))

abbrev pub reads_at_cond : ℕ → ℕ → Cond → Bool
reads_at_cond q k = any_in_cond (wanted (Cell q k))
