-- The pairs of columns that conditions equate, as the code has them.
use Rattle.std.specs.Prelude.{ℕ, ◌*◌, ◌%◌, ◌^◌, ◌==◌, ◌&&◌, Bool, bit_xor}
use Rattle.std.specs.HashSet.{HashSet, contains}
use Rattle.qgm_terms.specs.declared.named.Column.{Column}
use Rattle.rule_trans.specs.declared.column_pairs.ColumnPair.{ColumnPair}

abbrev pub same_pair : ColumnPair → ColumnPair → Bool
same_pair = λ p q. (p.quant == q.quant) && ((p.place == q.place) && ((p.other_quant == q.other_quant) && (p.other_place == q.other_place)))

-- one number of two
abbrev pub mix : ℕ → ℕ → ℕ
mix x y = bit_xor (x * 0x9e37_79b9_7f4a_7c15 % 2 ^ 64) y

-- what a hash is fed of a pair
abbrev pub mixed : ColumnPair → ℕ
mixed p = mix (mix (mix p.quant p.place) p.other_quant) p.other_place

module _ {S : Type 0} where
  -- a and c are a pair of these
  abbrev pub has : HashSet ColumnPair S → Column → Column → Bool
  has pairs a c = contains same_pair pairs (record { quant = a.quant; place = a.place; other_quant = c.quant; other_place = c.place })
