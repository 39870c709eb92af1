-- What facts tell of a magic box is what is inferred of it.
use Rattle.std.proofs.Common.{ℕ, zero, suc, ◌≡◌, ◌&&◌, Bool, List, refl, ap₂}
use Rattle.qgm_core.specs.Boxes.{width}
use Rattle.qgm_core.specs.declared.node.Node.{Node}
use Rattle.qgm_props.specs.Inferred.{Facts, all_places, clean, error_free}
use Rattle.qgm_props.specs.Laws.{Tells}
use Rattle.rule_facts.specs.Told.{infers, told-is}
use Rattle.rule_magic.specs.Feeding.{is_faultless}

places-same : (w : ℕ) (s t : ℕ → Bool) → ((k : ℕ) → s k ≡ t k) → all_places w s ≡ all_places w t
places-same zero s t h = refl
places-same (suc w) s t h = ap₂ (λ x y. x && y) (h (suc w)) (places-same w s t h)

pub faultless-told : (bs : List Node) (known : Facts) → Tells known bs → (m : Node) → (known.clean m.id && all_places (width m) (known.error_free m.id)) ≡ is_faultless bs m
faultless-told bs known tells m = ap₂ (λ x y. x && y) (told-is bs known tells (clean m.id)) (places-same (width m) (known.error_free m.id) (λ k. infers bs (error_free m.id k)) (λ k. told-is bs known tells (error_free m.id k)))
