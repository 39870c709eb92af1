use Rattle.qgm_meaning.proofs.AsSets.{only-agree_as, replaced-as_set}
use Rattle.qgm_meaning.proofs.Seen.{reads-what_it_sees}
use Rattle.qgm_meaning.proofs.laws.permit_laws.Goals as goal

pub returns-clause-only_agree : goal.returns-clause-only_agree
returns-clause-only_agree c = λ tables g f passes sets o reads s b h env p. only-agree_as tables g f passes sets o reads s b h env p

pub returns-clause-replaced : goal.returns-clause-replaced
returns-clause-replaced c = λ tables g passes b n m o held id overs reads rm st sm h x hx env p. replaced-as_set tables g passes b n m o held id overs reads rm st sm h x hx env p

pub returns-clause-reads : goal.returns-clause-reads
returns-clause-reads c = reads-what_it_sees
