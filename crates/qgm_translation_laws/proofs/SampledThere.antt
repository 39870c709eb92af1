-- Each box of the sample graph is there for one thing.
use Rattle.std.proofs.Common.{inl, inr, ◌≡◌, ◌≤◌, ◌==◌, ◌∙◌, ℕ, Bool, true, false, cond, List, [], ◌∷◌, codes, pos, refl, ap, sym, subst, arith}
use Rattle.std.specs.Prelude.{◌⊎◌}
use Rattle.std.proofs.lemmas.Bool.{eqb-true}
use Rattle.shared_types.specs.declared.compare.CmpOp.TheVariants as op
use Rattle.sql_ast.specs.declared.word.SetFunction.TheVariants as function
use Rattle.sql_meaning.specs.ResolvedTrees.{Froms, From, Query, Test, Values}
use Rattle.sql_meaning.specs.ResolvedTrees as q
use Rattle.list_laws.specs.Lists.{In}
use Rattle.qgm_core.specs.declared.node.Node.{Node}
use Rattle.qgm_translation.specs.Leaves.{Leaf}
use Rattle.qgm_translation.specs.Maps.{Map}
use Rattle.qgm_translation.specs.Samples.{boxes, graph, query, sources}
use Rattle.qgm_translation.specs.Shown.{ShowsBox, Thing, key_frame, of_groups, of_operand, of_query, of_rows, refs, upper_leaves, uses}
use Rattle.qgm_translation.specs.There.{EachForOne, IsFor, IsNamed}

abbrev list : Values
list = q.one_value (q.column 0 0) (q.one_value q.count_all (q.one_value (q.aggregate function.Max false (q.column 0 3)) q.no_value))

abbrev joined : From
joined = q.left_joined (q.named (codes "T")) (q.named (codes "V")) 2 (q.compare (q.column 0 2) op.Eq (q.column 0 0))

abbrev from : Froms
from = q.one_from joined q.no_from

abbrev inner : Query
inner = q.block false (q.one_value (q.number (pos 1)) q.no_value) (q.one_from (q.named (codes "U")) q.no_from) (q.compare (q.column 0 1) op.Ge (q.column 1 1))

abbrev having : Test
having = q.compare q.count_all op.Ge (q.number (pos 1))

abbrev ls : List Leaf
ls = upper_leaves (key_frame 1 (0 ∷ []) 0 4) list having

abbrev what : ℕ → Thing
what b =
    cond (b == 1) (of_query query)
    (cond (b == 2) (of_groups from (q.exists inner) (0 ∷ []) ls)
    (cond (b == 3) (of_rows from (q.exists inner) (0 ∷ []) ls)
    (cond (b == 4) (of_operand joined)
    (cond (b == 5) (of_query inner)
    (cond (b == 6) (of_operand (q.named (codes "T")))
    (cond (b == 7) (of_operand (q.named (codes "U")))
    (of_operand (q.named (codes "V")))))))))

abbrev seen : ℕ → Map
seen b = cond (b == 5) (refs 3 1 4 ∷ []) []

abbrev For : ℕ → Thing → Map → Type 0
For = IsFor what seen

abbrev Shown : Node → Type 0
Shown n = ShowsBox sources For (what n.id) (seen n.id) n

abbrev AllShown : List Node → Type 0
AllShown [] = Unit {0}
AllShown (n ∷ ns) = Shown n × AllShown ns

each-of : (ns : List Node) → AllShown ns → (n : Node) → In n ns → Shown n
each-of [] a n i = absurd i
each-of (c ∷ cs) a n (inl e) = subst Shown e a.0
each-of (c ∷ cs) a n (inr i) = each-of cs a.1 n i

shown : AllShown boxes
shown = (
  record {
    kind = refl;
    plain = record { distinctness = refl; role = refl; numbered = (refl, refl) };
    key = tt;
    columns = refl;
    upper = record { kind = refl; groups = (refl, refl); subs = refl; conds = refl; head = refl };
  },
  (
    record { kind = refl; plain = record { distinctness = refl; role = refl; numbered = (refl, refl) }; conds = refl; quants = (refl, ((refl, refl), refl)) },
    (
      record {
        arguments = (refl, tt);
        rows = record {
          kind = refl;
          plain = record { distinctness = refl; role = refl; numbered = (refl, refl) };
          froms = ((refl, (refl, refl)), tt);
          subs = (refl, refl, refl, (refl, refl), refl);
          conds = refl;
          head = refl;
        };
      },
      (
        record {
          kind = refl;
          plain = record { distinctness = refl; role = refl; numbered = (refl, refl) };
          columns = refl;
          quants = (refl, refl, record { left = (refl, refl); right = (refl, refl); on = refl; conds = refl; head = refl });
        },
        (
          record { kind = refl; plain = record { distinctness = refl; role = refl; numbered = (refl, refl) }; froms = ((refl, (refl, refl)), tt); subs = refl; conds = refl; head = refl },
          (
            (refl, record { kind = refl; plain = record { distinctness = refl; role = refl; numbered = (refl, refl) }; froms = ((refl, (refl, refl)), tt); subs = refl; conds = refl; head = refl }),
            (
              (refl, record { kind = refl; named = refl; types = refl; plain = record { distinctness = refl; role = refl; numbered = (refl, refl) }; bare = (refl, refl); quants = refl }),
              ((refl, record { kind = refl; named = refl; types = refl; plain = record { distinctness = refl; role = refl; numbered = (refl, refl) }; bare = (refl, refl); quants = refl }), tt),
            ),
          ),
        ),
      ),
    ),
  ),
)

-- U's box alone is used twice
alone : (b : ℕ) → (uses b boxes ≤ 1) ⊎ IsNamed (what b)
alone b = elim (7 == b) as (λ c. (7 == b) ≡ c → (uses b boxes ≤ 1) ⊎ IsNamed (what b)) [
  | true ↦ (λ e. inr (codes "U", ap what (sym (eqb-true 7 b e))))
  | false ↦ (λ e. inl (one 2 b refl (λ i. one 3 b refl (λ j. one 4 b refl (λ k. one 5 b refl (λ l. one 6 b refl (λ t. rest b i j k l t e)))))))
] refl
  where
    by_case : (a b : ℕ) → uses a boxes ≡ 1 → (c : Bool) → (a == b) ≡ c → ((a == b) ≡ false → uses b boxes ≤ 1) → uses b boxes ≤ 1
    by_case a b e true same f = let x : uses b boxes ≡ 1 = ap (λ z. uses z boxes) (sym (eqb-true a b same)) ∙ e in omega arith
    by_case a b e false other f = f other

    one : (a b : ℕ) → uses a boxes ≡ 1 → ((a == b) ≡ false → uses b boxes ≤ 1) → uses b boxes ≤ 1
    one a b e f = by_case a b e (a == b) refl f

    last : (c : Bool) → cond {A = ℕ} c 1 0 ≤ 1
    last true = omega arith
    last false = omega arith

    rest : (b : ℕ) → (2 == b) ≡ false → (3 == b) ≡ false → (4 == b) ≡ false → (5 == b) ≡ false → (6 == b) ≡ false → (7 == b) ≡ false → uses b boxes ≤ 1
    rest b i j k l t u = let w = last (8 == b) in rw (i, j, k, l, t, u) omega arith

pub there : EachForOne sources query graph
there = record { what = what; seen = seen; root = (refl, refl); each = each-of boxes shown; alone = alone }
