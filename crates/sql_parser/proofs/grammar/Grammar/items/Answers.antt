use Rattle.std.proofs.lemmas.Grind.{common_steps}
use Rattle.std.proofs.Common.{◌-◌, ◌∙◌, [], ◌∷◌, ◌++◌, length, ap, sym, refl, arith}
use Rattle.std.proofs.lemmas.Result.{err_from_is_err_and}
use Rattle.sql_text.specs.Tokens.{token_list}
use Rattle.sql_ast.specs.Shown as shown
use Rattle.sql_parser.specs.Read as read
use Rattle.sql_parser.specs.Words.{mapped}
use Rattle.sql_parser.proofs.Turns.{fails, one_more, no_more}
use Rattle.sql_parser.proofs.TurnsTables.{append_items, items_stop, no_more_items, next_item_of, item_one, items_begin, item_seen, items_seen}
use Rattle.sql_parser.proofs.grammar.Grammar.items.Goals as goal

pub items-init : goal.items-init
items-init g c =
    items_begin (read.expr c.args.self.now.depth) (read.cond c.args.self.now.depth) (read.query c.args.self.now.depth) (read.table c.args.self.now.depth) (token_list c.args.ts.now) (shown.item c.in_ok-item_first.item_first) c.in_ok-item_first.after_first.now c.in_ok-item_first.ensures
    ∙ ap (λ xs. mapped (append_items (shown.item_list xs)) (read.more_items (read.expr c.args.self.now.depth) (read.cond c.args.self.now.depth) (read.query c.args.self.now.depth) (read.table c.args.self.now.depth) (length c.in_ok-item_first.after_first.now - 0) (token_list c.in_ok-item_first.after_first.now)))
    (sym (c.in_ok-push.ensures.ok ∙ ap (λ xs. xs ++ c.in_ok-item_first.item_first ∷ []) c.new-items.ensures))

pub returns-in-None : goal.returns-in-None
returns-in-None g c =
    c.items.invariant
    ∙ ap (mapped (append_items (shown.item_list c.items.items))) (items_stop (read.expr c.args.self.now.depth) (read.cond c.args.self.now.depth) (read.query c.args.self.now.depth) (read.table c.args.self.now.depth) _ (token_list c.items.rest.now) c.in-None.ensures.none)
    ∙ no_more_items (shown.item_list c.items.items) (token_list c.items.rest.now)

pub returns-in_err-next-in-Some : goal.returns-in_err-next-in-Some
returns-in_err-next-in-Some g c =
    let p = err_from_is_err_and c.from_residual-in_err-next-in-Some.result c.from_residual-in_err-next-in-Some.ensures.1 in
    let e = one_more (λ n. mapped (append_items (shown.item_list c.items.items)) (read.more_items (read.expr c.args.self.now.depth) (read.cond c.args.self.now.depth) (read.query c.args.self.now.depth) (read.table c.args.self.now.depth) n (token_list c.items.rest.now))) _ c.items._turn c.items-test.true c.items.invariant in
    rw (p.1, p.2) (fails item_seen items_seen _ _ _ (λ none. e ∙ rw (c.in-Some.ensures.found, none) refl) c.in_err-next-in-Some.ensures)

pub items-preserved : goal.items-preserved
items-preserved g c =
    let e = one_more (λ n. mapped (append_items (shown.item_list c.items.items)) (read.more_items (read.expr c.args.self.now.depth) (read.cond c.args.self.now.depth) (read.query c.args.self.now.depth) (read.table c.args.self.now.depth) n (token_list c.items.rest.now))) _ c.items._turn c.items-test.true c.items.invariant in
    e ∙ rw (c.in-Some.ensures.found, c.in_ok-next-in-Some.ensures, c.in_ok-push-in-Some.ensures.ok, item_one c.items.items c.in_ok-next-in-Some.next) (next_item_of (shown.item_list c.items.items) (shown.item c.in_ok-next-in-Some.next) _)

pub returns : goal.returns
returns g c =
    no_more (λ n. mapped (append_items (shown.item_list c.items.items)) (read.more_items (read.expr c.args.self.now.depth) (read.cond c.args.self.now.depth) (read.query c.args.self.now.depth) (read.table c.args.self.now.depth) n (token_list c.items.rest.now))) _ c.items._turn c.items-test.false c.items.invariant
    ∙ no_more_items (shown.item_list c.items.items) (token_list c.items.rest.now)

pub item-requires-in-Some : goal.item-requires-in-Some
item-requires-in-Some g c = grind (arith, common_steps)
