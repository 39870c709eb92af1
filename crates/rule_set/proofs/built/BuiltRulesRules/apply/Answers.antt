use Rattle.std.proofs.Common.{subst, sym}
use Rattle.std.specs.Result.{OnOk}
use Rattle.rule_api.specs.declared.rule_id.RuleId.{RuleId}
use Rattle.rule_set.specs.Built.{built}
use Rattle.rule_set.proofs.built.BuiltRulesRules.apply.Goals as goal

pub returns-in-J1-clause-acts : goal.returns-in-J1-clause-acts
returns-in-J1-clause-acts c = subst (λ (r : RuleId). OnOk c.apply-in-J1.result ((built r).act c.args.place c.args.graph.now c.apply-in-J1.new.graph)) (sym c.in-J1.is) c.apply-in-J1.ensures.acts

pub returns-in-J2-clause-acts : goal.returns-in-J2-clause-acts
returns-in-J2-clause-acts c = subst (λ (r : RuleId). OnOk c.apply-in-J2.result ((built r).act c.args.place c.args.graph.now c.apply-in-J2.new.graph)) (sym c.in-J2.is) c.apply-in-J2.ensures.acts

pub returns-in-N1-clause-acts : goal.returns-in-N1-clause-acts
returns-in-N1-clause-acts c = subst (λ (r : RuleId). OnOk c.apply-in-N1.result ((built r).act c.args.place c.args.graph.now c.apply-in-N1.new.graph)) (sym c.in-N1.is) c.apply-in-N1.ensures.acts

pub returns-in-N2-clause-acts : goal.returns-in-N2-clause-acts
returns-in-N2-clause-acts c = subst (λ (r : RuleId). OnOk c.apply-in-N2.result ((built r).act c.args.place c.args.graph.now c.apply-in-N2.new.graph)) (sym c.in-N2.is) c.apply-in-N2.ensures.acts

pub returns-in-G1-clause-acts : goal.returns-in-G1-clause-acts
returns-in-G1-clause-acts c = subst (λ (r : RuleId). OnOk c.apply-in-G1.result ((built r).act c.args.place c.args.graph.now c.apply-in-G1.new.graph)) (sym c.in-G1.is) c.apply-in-G1.ensures.acts

pub returns-in-G2-clause-acts : goal.returns-in-G2-clause-acts
returns-in-G2-clause-acts c = subst (λ (r : RuleId). OnOk c.apply-in-G2.result ((built r).act c.args.place c.args.graph.now c.apply-in-G2.new.graph)) (sym c.in-G2.is) c.apply-in-G2.ensures.acts

pub returns-in-G3-clause-acts : goal.returns-in-G3-clause-acts
returns-in-G3-clause-acts c = subst (λ (r : RuleId). OnOk c.apply-in-G3.result ((built r).act c.args.place c.args.graph.now c.apply-in-G3.new.graph)) (sym c.in-G3.is) c.apply-in-G3.ensures.acts

pub returns-in-G4-clause-acts : goal.returns-in-G4-clause-acts
returns-in-G4-clause-acts c = subst (λ (r : RuleId). OnOk c.apply-in-G4.result ((built r).act c.args.place c.args.graph.now c.apply-in-G4.new.graph)) (sym c.in-G4.is) c.apply-in-G4.ensures.acts

pub returns-in-G5-clause-acts : goal.returns-in-G5-clause-acts
returns-in-G5-clause-acts c = subst (λ (r : RuleId). OnOk c.apply-in-G5.result ((built r).act c.args.place c.args.graph.now c.apply-in-G5.new.graph)) (sym c.in-G5.is) c.apply-in-G5.ensures.acts
