-- What boxes and quantifiers are of.
use Rattle.std.specs.Prelude.{ℕ, Bool, true, false, length}
use Rattle.qgm_core.specs.declared.kinds.BoxKind.{BoxKind}
use Rattle.qgm_core.specs.declared.kinds.BoxKind.TheVariants.{Base, Select, Group, SetOp, OuterJoin}
use Rattle.qgm_core.specs.declared.kinds.Distinct.{Distinct}
use Rattle.qgm_core.specs.declared.kinds.Distinct.TheVariants.{Enforce, Preserve, Permit}
use Rattle.qgm_core.specs.declared.kinds.QuantKind.{QuantKind}
use Rattle.qgm_core.specs.declared.kinds.QuantKind.TheVariants.{F, E, A, S}
use Rattle.qgm_core.specs.declared.kinds.Role.{Role}
use Rattle.qgm_core.specs.declared.kinds.Role.TheVariants.{Plain, Magic, Fed}

abbrev pub is_F : QuantKind → Bool
is_F F = true
is_F E = false
is_F A = false
is_F S = false

abbrev pub is_E : QuantKind → Bool
is_E F = false
is_E E = true
is_E A = false
is_E S = false

abbrev pub is_A : QuantKind → Bool
is_A F = false
is_A E = false
is_A A = true
is_A S = false

abbrev pub is_S : QuantKind → Bool
is_S F = false
is_S E = false
is_S A = false
is_S S = true

-- the rows themselves count, and not only which there are
abbrev pub is_F_or_S : QuantKind → Bool
is_F_or_S F = true
is_F_or_S E = false
is_F_or_S A = false
is_F_or_S S = true

abbrev pub is_enforce : Distinct → Bool
is_enforce Enforce = true
is_enforce Preserve = false
is_enforce Permit = false

abbrev pub is_preserve : Distinct → Bool
is_preserve Enforce = false
is_preserve Preserve = true
is_preserve Permit = false

abbrev pub is_permit : Distinct → Bool
is_permit Enforce = false
is_permit Preserve = false
is_permit Permit = true

abbrev pub is_plain : Role → Bool
is_plain Plain = true
is_plain Magic = false
is_plain Fed = false

abbrev pub is_magic : Role → Bool
is_magic Plain = false
is_magic Magic = true
is_magic Fed = false

abbrev pub is_fed : Role → Bool
is_fed Plain = false
is_fed Magic = false
is_fed Fed = true

abbrev pub is_base : BoxKind → Bool
is_base (Base table) = true
is_base Select = false
is_base (Group keys) = false
is_base (SetOp operator types) = false
is_base OuterJoin = false

abbrev pub is_select : BoxKind → Bool
is_select (Base table) = false
is_select Select = true
is_select (Group keys) = false
is_select (SetOp operator types) = false
is_select OuterJoin = false

-- how many columns a box of this kind has, with so many cells in its head
abbrev pub width_by : BoxKind → ℕ → ℕ
width_by (Base table) cells = length table.types
width_by Select cells = cells
width_by (Group keys) cells = cells
width_by (SetOp operator types) cells = length types
width_by OuterJoin cells = cells
