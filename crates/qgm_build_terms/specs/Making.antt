-- What the making of boxes comes to.
use Rattle.std.specs.Prelude.{◌≡◌, ℕ, List, ◌++◌}
use Rattle.qgm_core.specs.declared.kinds.QuantKind.{QuantKind}
use Rattle.qgm_core.specs.declared.owned.OwnedQuant.{OwnedQuant}
use Rattle.qgm_translation.specs.Lay.{Boxes, Drawn, Laid, Step, drawn}

-- after boxes and quantifiers, a step comes to these boxes, and adds its quantifiers
pub record Takes (step : Step) (s : Boxes) (os : List OwnedQuant) (t : Boxes) (ps : List OwnedQuant) : Type 0 where
  pub boxes : t ≡ (step s).boxes
  pub quants : ps ≡ os ++ (step s).quants

-- what is left of a step comes to these boxes and quantifiers
pub record Leads (step : Step) (s : Boxes) (os : List OwnedQuant) (t : Boxes) (ps : List OwnedQuant) : Type 0 where
  pub boxes : (step s).boxes ≡ t
  pub quants : os ++ (step s).quants ≡ ps

-- a box is made, and these are the boxes then
abbrev pub Gives : Laid → ℕ → Boxes → Type 0
Gives r b t = (b ≡ r.top) × (t ≡ r.boxes)

abbrev pub top_at : ℕ → Boxes → Laid
top_at b s = record { boxes = s; top = b }

-- a quantifier over a box that was made
abbrev pub draws : QuantKind → ℕ → Step
draws kind b s = drawn kind (top_at b s)

abbrev pub after_subs : Boxes → List OwnedQuant → Drawn
after_subs s os = record { boxes = s; quants = os }
