-- How many nodes the cells and conditions of the boxes of a graph may have where the graph is built.
use Rattle.std.specs.Prelude.{ℕ}

abbrev pub most_nodes : ℕ
most_nodes = 4194304
