use Rattle.row_bag.specs.Sets.{same_cells}
use Rattle.row_bag.proofs.Counts.{agree-from_alike}
use Rattle.qgm_meaning.proofs.Alikes.{only-alike}
use Rattle.qgm_meaning.proofs.Fitting.{hereditary}
use Rattle.qgm_meaning.proofs.Frames.{bag-framed}
use Rattle.qgm_meaning.proofs.Puts.{bag-put, inlined-first, truth-put, value-put}
use Rattle.qgm_meaning.specs.Meaning.{nothing}
use Rattle.qgm_meaning.proofs.Within.{loose-unfold}
use Rattle.qgm_meaning.specs.Scope.{loose}
use Rattle.std.proofs.Common.{ℕ, ◌≡◌, Bool, false, ap}
use Rattle.qgm_meaning.proofs.Replacing.{replaced}
use Rattle.qgm_meaning.proofs.Unfold.{only, unfold-bag}
use Rattle.qgm_meaning.proofs.laws.graph_laws.Goals as goal

pub returns-clause-unfold : goal.returns-clause-unfold
returns-clause-unfold c = λ tables g b n env o h. unfold-bag tables g.boxes b n env o h

pub returns-clause-only : goal.returns-clause-only
returns-clause-only c = λ tables g f o s b h env. only tables f g.boxes o s b h env

pub returns-clause-only_agree : goal.returns-clause-only_agree
returns-clause-only_agree c = λ tables g f passes o s b h env p. agree-from_alike same_cells (only-alike tables f passes g.boxes o s b h env p)

pub returns-clause-framed : goal.returns-clause-framed
returns-clause-framed c = λ tables g b d e h. bag-framed tables g.boxes b d e (record { rows = h })

pub returns-clause-closed : goal.returns-clause-closed
returns-clause-closed c = λ tables g b h d e. bag-framed tables g.boxes b d e (record { rows = λ q t. absurd (let f : loose g.boxes b q ≡ false = h q in let z : ⊥ = cc in z) })

pub returns-clause-looked : goal.returns-clause-looked
returns-clause-looked c = λ tables g b d e h. bag-framed tables g.boxes b d e (record { rows = λ q t. h q })

pub returns-clause-put : goal.returns-clause-put
returns-clause-put c = λ rows q cells x env u. value-put rows q cells x env _ (inlined-first rows q cells env) u

pub returns-clause-put_cond : goal.returns-clause-put_cond
returns-clause-put_cond c = λ rows q cells x env u. truth-put rows q cells x env _ (inlined-first rows q cells env) u

pub returns-clause-put_below : goal.returns-clause-put_below
returns-clause-put_below c = λ tables ns q cells b env naked clear. bag-put q cells naked tables ns clear b env _ (inlined-first nothing q cells env)

pub returns-clause-fits : goal.returns-clause-fits
returns-clause-fits c = λ f ns. hereditary f ns

pub returns-clause-loose_unfold : goal.returns-clause-loose_unfold
returns-clause-loose_unfold c = λ ns b n o h q. ap (λ (f : ℕ → Bool). f q) (loose-unfold ns b n o h)

pub returns-clause-replaced : goal.returns-clause-replaced
returns-clause-replaced c = λ tables g passes b n m o held id overs st sm h x hx env p. replaced tables g passes b n m o held id overs st sm h x hx env p
