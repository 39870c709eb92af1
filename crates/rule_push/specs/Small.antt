-- How much a conjunct that goes down may grow.
use Rattle.std.specs.Prelude.{ℕ, ◌+◌, ◌-◌, ◌&&◌, nat_le, Bool, List}
use Rattle.qgm_core.specs.Boxes.{QueryGraph, box_of}
use Rattle.qgm_core.specs.declared.owned.OwnedQuant.{OwnedQuant}
use Rattle.qgm_term_size.specs.Levels.{cond_levels, put_levels}
use Rattle.qgm_term_size.specs.Size.{put_size}
use Rattle.qgm_terms.specs.Named.{columns_in_cond}
use Rattle.qgm_terms.specs.Substitution.{substituted_cond}
use Rattle.qgm_terms.specs.Terms.{Cond, Term}
use Rattle.qgm_terms.specs.declared.named.Column.{Column}
use Rattle.rule_facts.specs.Places.{in_box}

-- how many nodes more a conjunct may have as it arrives, and how many levels it and the cells that it takes may have together
abbrev pub most_nodes : ℕ
most_nodes = 1024

abbrev pub most_levels : ℕ
most_levels = 4096

-- with the cells of a head for the columns of q, a conjunct has so many nodes more
abbrev pub taken : ℕ → List Term → Cond → ℕ
taken q head p = put_size q head (columns_in_cond p)

-- a conjunct and the cells for these columns have few levels
abbrev pub is_shallow : ℕ → List Term → List Column → Cond → Bool
is_shallow q head columns p = nat_le (cond_levels p + put_levels q head columns) most_levels

-- at most so many nodes, and few levels
abbrev pub is_small_by : ℕ → ℕ → List Term → Cond → Bool
is_small_by most q head p = nat_le (taken q head p) most && is_shallow q head (columns_in_cond p) p

abbrev pub is_small : ℕ → List Term → Cond → Bool
is_small q head p = is_small_by most_nodes q head p

-- so it is with the cells of one head for the columns of r, and then with those of another for the columns of s
abbrev pub is_small_through : ℕ → List Term → ℕ → List Term → Cond → Bool
is_small_through r above s below p = is_small r above p && is_small_by (most_nodes - taken r above p) s below (substituted_cond r above p)

-- so it is with the cells of the box under s
abbrev pub is_small_into : QueryGraph → Cond → ℕ → OwnedQuant → Bool
is_small_into g p r s = in_box (λ n. is_small r n.parts.head p) (box_of s.over g)

abbrev pub is_small_below : QueryGraph → Cond → ℕ → List Term → OwnedQuant → Bool
is_small_below g p r head s = in_box (λ n. is_small_through r head s.id n.parts.head p) (box_of s.over g)
