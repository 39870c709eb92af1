use Rattle.std.proofs.Common.{◌≡◌, ◌++◌, ◌∙◌, List, [], ◌∷◌, length, map, ap, arith}
use Rattle.std.proofs.lemmas.Grind.{common_steps}
use Rattle.sql_value.specs.declared.order_key.SqlType.{SqlType}
use Rattle.qgm_core.specs.declared.kinds.Role.TheVariants.{Plain}
use Rattle.qgm_translation.specs.Lay.{column_types}
use Rattle.qgm_build_terms.specs.Setting.{shared_box}
use Rattle.qgm_build_terms.proofs.Stacked.{counted_more, put_last}
use Rattle.qgm_build_terms.proofs.store.put.Goals as goal

pub invariant_of-st-2 : goal.invariant_of-st-2
invariant_of-st-2 c =
    record {
      counted = counted_more c.args.st.now.made.items c.push.new.self.items (record { parts = record { kind = c.args.kind; distinct = c.distinct_of.result; role = Plain; conds = c.args.conds; head = c.args.head }; quants = c.args.quants }) c.args.st.now.left c.in_ok-left.left
          c.in_ok-push.ensures.items c.in_ok-left.ensures c.args.st.now.counted;
    }

pub returns : goal.returns
returns c =
    let top : c.len-id.result ≡ length c.args.st.now.made.items = grind (arith, common_steps, c.len-id.ensures) in (
      top,
      put_last c.args.kind c.args.distinct c.distinct_of.result c.args.conds c.args.head c.args.quants c.args.st.now.made.items c.push.new.self.items c.args.st.now.next_quant c.args.st.now.rows.items c.args.st.now.types.items c.add_types.new.out.items (map shared_box c.args.st.now.shared.items)
          c.requires.spare c.distinct_of.ensures c.in_ok-push.ensures.items (c.in_ok-add_types.ensures ∙ ap (λ (rows : List (List SqlType)). c.args.st.now.types.items ++ column_types rows c.args.kind c.args.head ∷ []) c.deref.ensures.value),
    )
