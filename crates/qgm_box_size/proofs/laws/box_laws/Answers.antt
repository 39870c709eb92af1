use Rattle.qgm_box_size.proofs.Nodes.{put-box, some-levels, some-size}
use Rattle.qgm_box_size.proofs.laws.box_laws.Goals as goal

pub returns-clause-put_size : goal.returns-clause-put_size
returns-clause-put_size c = λ q cells n. put-box q cells n

pub returns-clause-some_size : goal.returns-clause-some_size
returns-clause-some_size c = λ p ns. some-size p ns

pub returns-clause-some_levels : goal.returns-clause-some_levels
returns-clause-some_levels c = λ p ns. some-levels p ns
