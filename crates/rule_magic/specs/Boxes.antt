-- The boxes that absorbing makes.
use Rattle.std.specs.Prelude.{ℕ, suc, ◌++◌, pos, zero, Bool, true, false, List, [], ◌∷◌, map}
use Rattle.sql_value.specs.declared.order_key.SqlType.{SqlType}
use Rattle.qgm_terms.specs.Conjuncts.{Conjuncts}
use Rattle.qgm_terms.specs.Substitution.{substituted, substituted_cond}
use Rattle.qgm_terms.specs.Terms.{Cond, Term, arm, choose, col, compare, int, is_null, no_arm, same}
use Rattle.qgm_core.specs.Edits.{range}
use Rattle.qgm_core.specs.declared.kinds.BoxKind.{BoxKind}
use Rattle.qgm_core.specs.declared.kinds.BoxKind.TheVariants.{Group, OuterJoin, Select, SetOp}
use Rattle.qgm_core.specs.declared.kinds.Distinct.{Distinct}
use Rattle.qgm_core.specs.declared.kinds.Distinct.TheVariants.{Preserve}
use Rattle.qgm_core.specs.declared.kinds.QuantKind.TheVariants.{F}
use Rattle.qgm_core.specs.declared.kinds.Role.{Role}
use Rattle.qgm_core.specs.declared.kinds.Role.TheVariants.{Plain}
use Rattle.qgm_core.specs.declared.kinds.SetOperator.{SetOperator}
use Rattle.qgm_core.specs.declared.node.Node.{Node}
use Rattle.qgm_core.specs.declared.owned.OwnedQuant.{OwnedQuant}
use Rattle.qgm_core.specs.declared.parts.BoxParts.{BoxParts}
use Rattle.qgm_meaning.specs.Tags.{columns_from}
use Rattle.qgm_props.specs.Inferred.{is_count}

abbrev pub no_conds : Conjuncts
no_conds = record { items = []; spare = 0 }

-- a new box without a cell
abbrev pub new_parts : BoxKind → BoxParts
new_parts kind = record { kind = kind; distinct = Preserve; role = Plain; conds = no_conds; head = [] }

abbrev pub box_as : ℕ → BoxKind → Distinct → Role → List Cond → List Term → List OwnedQuant → Node
box_as b kind distinct role conds head quants = record {
  id = b;
  parts = record {
    kind = kind;
    distinct = distinct;
    role = role;
    conds = record { items = conds; spare = 0 };
    head = head;
  };
  quants = quants;
}

-- all columns of a, which has w, and of b, which has v
abbrev pub of_both : ℕ → ℕ → ℕ → ℕ → List Term
of_both a w b v = columns_from a 1 w ++ columns_from b 1 v

-- box b over m and x, by a and q: its head is all columns of both; it is fed where x is open
abbrev pub pair_box : ℕ → Role → ℕ → ℕ → ℕ → ℕ → ℕ → ℕ → Node
pair_box b role a m w q x v = box_as b Select Preserve role [] (of_both a w q v) (range a F m ∷ (range q F x ∷ []))

-- the v columns of p behind its first w
abbrev pub later : ℕ → ℕ → ℕ → List Term
later p w v = columns_from p (suc w) v

-- what named columns of q names those of p behind its first w
abbrev pub behind : ℕ → ℕ → ℕ → ℕ → List Term → List Term
behind q p w v head = map (substituted q (later p w v)) head

-- the first columns of p before these, which named columns of q
abbrev pub keyed : ℕ → ℕ → ℕ → ℕ → List Term → List Term
keyed q p w v head = columns_from p 1 w ++ behind q p w v head

-- box b, a group over x by p, with the first w columns of p as its first keys
abbrev pub keyed_box : ℕ → ℕ → ℕ → ℕ → ℕ → ℕ → List Term → ℕ → Node
keyed_box b keys q p w v head x = box_as b (Group keys) Preserve Plain [] (keyed q p w v head) (range p F x ∷ [])

-- column by column the same, from place k on
abbrev pub same_each : ℕ → ℕ → ℕ → ℕ → List Cond
same_each p q k zero = []
same_each p q k (suc w) = compare same (col p k) (col q k) ∷ same_each p q (suc k) w

-- box b, an outer join of m and of groups g of n aggregates behind its columns
abbrev pub joined_box : ℕ → ℕ → ℕ → ℕ → ℕ → ℕ → ℕ → Node
joined_box b p m q g w n = box_as b OuterJoin Preserve Plain (same_each p q 1 w) (columns_from p 1 w ++ later q w n) (range p F m ∷ (range q F g ∷ []))

-- a count is 0 where it is null
abbrev pub count_at : ℕ → ℕ → Bool → Term
count_at p k true = choose (arm (is_null (col p k)) (int (pos 0)) no_arm) (col p k)
count_at p k false = col p k

-- the aggregates, which are the columns of p from place k on
abbrev pub counted : ℕ → ℕ → List Term → List Term
counted p k [] = []
counted p k (x ∷ xs) = count_at p k (is_count x) ∷ counted p (suc k) xs

-- box b, a select over the outer join
abbrev pub counted_box : ℕ → ℕ → ℕ → List Term → ℕ → Node
counted_box b p w head x = box_as b Select Preserve Plain [] (columns_from p 1 w ++ counted p (suc w) head) (range p F x ∷ [])

-- ---- G2

-- c, whose first quantifier is now a, over the magic box: its w columns are c's first heads
abbrev pub absorbed_box : ℕ → OwnedQuant → ℕ → Node → Node
absorbed_box b a w c = record c { id = b; parts = record c.parts { head = columns_from a.id 1 w ++ c.parts.head }; quants = a ∷ c.quants }

-- ---- G4

-- box b, a set operation of x and y
abbrev pub set_box : ℕ → SetOperator → List SqlType → ℕ → ℕ → ℕ → ℕ → Node
set_box b form types l x r y = box_as b (SetOp form types) Preserve Plain [] [] (range l F x ∷ (range r F y ∷ []))

-- ---- G5

-- what named columns of l names those behind its first w, and what named columns of a names these first ones
abbrev pub led_term : ℕ → ℕ → ℕ → ℕ → Term → Term
led_term a l w v x = substituted a (columns_from l 1 w) (substituted l (later l w v) x)

abbrev pub led_cond : ℕ → ℕ → ℕ → ℕ → Cond → Cond
led_cond a l w v p = substituted_cond a (columns_from l 1 w) (substituted_cond l (later l w v) p)

-- and of r, whose box has the tags too
abbrev pub both_term : ℕ → ℕ → ℕ → ℕ → ℕ → ℕ → Term → Term
both_term a l w v r u x = substituted r (later r w u) (led_term a l w v x)

abbrev pub both_cond : ℕ → ℕ → ℕ → ℕ → ℕ → ℕ → Cond → Cond
both_cond a l w v r u p = substituted_cond r (later r w u) (led_cond a l w v p)

-- the outer join over a tagged left arm
abbrev pub left_box : ℕ → ℕ → ℕ → ℕ → ℕ → Node → List OwnedQuant → Node
left_box b a l w v c quants =
    record c {
      id = b;
      parts = record c.parts { conds = record c.parts.conds { items = map (led_cond a l w v) c.parts.conds.items }; head = columns_from l 1 w ++ map (led_term a l w v) c.parts.head };
      quants = quants;
    }

-- and over a tagged right arm
abbrev pub arms_box : ℕ → ℕ → ℕ → ℕ → ℕ → ℕ → ℕ → Node → List OwnedQuant → Node
arms_box b a l w v r u c quants =
    record c {
      id = b;
      parts =
          record c.parts {
            conds = record c.parts.conds { items = map (both_cond a l w v r u) c.parts.conds.items ++ same_each l r 1 w };
            head = columns_from l 1 w ++ map (both_term a l w v r u) c.parts.head;
          };
      quants = quants;
    }
