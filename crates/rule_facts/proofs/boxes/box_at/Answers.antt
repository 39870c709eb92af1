use Rattle.rule_facts.proofs.Numbered.{found_at}
use Rattle.rule_facts.proofs.boxes.box_at.Goals as goal

pub returns-then-nodes-i : goal.returns-then-nodes-i
returns-then-nodes-i c =
    found_at c.args.nodes.now c.requires c.args.b c.partition_point-i.result c.index-nodes-i-then-nodes-i.result c.index-nodes-i.result c.if-i-nodes.true c.index-nodes-i-then-nodes-i.is c.if-nodes-i.true
