use Rattle.qgm_props.proofs.InferredKeys.{keys-exact}
use Rattle.qgm_props.proofs.KeyedBoxes.{keys-hold}
use Rattle.qgm_props.proofs.Monotone.{least}
use Rattle.qgm_props.proofs.Settled.{all-told, clean-fits, founded, inferred-holds}
use Rattle.qgm_props.proofs.Step.{step-holds}
use Rattle.qgm_props.proofs.FactsFit.{arms-fit, facts-fit, joined-fits}
use Rattle.qgm_props.proofs.laws.fact_laws.Goals as goal

pub returns-clause-least : goal.returns-clause-least
returns-clause-least c = least

pub returns-clause-step : goal.returns-clause-step
returns-clause-step c tables ns given known all fact h = step-holds tables ns known given all fact h

pub returns-clause-facts : goal.returns-clause-facts
returns-clause-facts c = inferred-holds

pub returns-clause-clean : goal.returns-clause-clean
returns-clause-clean c = clean-fits

pub returns-clause-told : goal.returns-clause-told
returns-clause-told c = all-told

pub returns-clause-founded : goal.returns-clause-founded
returns-clause-founded c = founded

pub returns-clause-keys : goal.returns-clause-keys
returns-clause-keys c tables ns given known all b ks h = keys-hold tables ns known given all b ks h

pub returns-clause-exact : goal.returns-clause-exact
returns-clause-exact c = keys-exact

pub returns-clause-fit : goal.returns-clause-fit
returns-clause-fit c = λ tables ns given env fit. facts-fit tables ns given env fit

pub returns-clause-arms : goal.returns-clause-arms
returns-clause-arms c = λ tables ns given n form types p q i e j k cp cq f env fit. arms-fit tables ns given n form types p q i e j k cp cq f env fit

pub returns-clause-joined : goal.returns-clause-joined
returns-clause-joined c = λ tables ns given b p d us i over vs xs x ys head here sure unread after env fit. joined-fits tables ns given b p d us i over vs xs x ys head here sure unread after env fit
