use Rattle.rule_prune.proofs.drop_column.named.named_unless_all.Goals as goal

pub returns-then-all_among-clause-all : goal.returns-then-all_among-clause-all
returns-then-all_among-clause-all c = λ n k l m h. c.in_ok-quants.ensures.named k (c.all_among.ensures c.if-all_among.true k l m h)
