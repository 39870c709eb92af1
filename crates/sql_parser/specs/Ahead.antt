-- Looking ahead, past a bracket: what it holds, and what follows it.
use Rattle.std.specs.Prelude.{ℕ, zero, suc, Bool, true, false, not, ◌&&◌, List, [], ◌∷◌}
use Rattle.sql_text.specs.declared.key.Key.TheVariants as k
use Rattle.sql_text.specs.declared.token.Token.{Token}
use Rattle.sql_text.specs.declared.token.Token.TheVariants as t

-- the tokens after the bracket that closes `n` more than this many brackets that are open
abbrev pub after : ℕ → List Token → List Token
after n [] = []
after n (t.LeftParen ∷ ts) = after (suc n) ts
after zero (t.RightParen ∷ ts) = ts
after (suc n) (t.RightParen ∷ ts) = after n ts
after n (_ ∷ ts) = after n ts

-- what may follow a query in brackets
abbrev pub ends_query : List Token → Bool
ends_query (t.RightParen ∷ ts) = true
ends_query (t.Key k.Union ∷ ts) = true
ends_query (t.Key k.Except ∷ ts) = true
ends_query (t.Key k.Intersect ∷ ts) = true
ends_query _ = false

-- of the tokens after "(": the bracket holds a query
abbrev pub at_query : List Token → Bool
at_query (t.Key k.Select ∷ ts) = true
at_query (t.LeftParen ∷ ts) = at_query ts && ends_query (after 0 ts)
at_query _ = false

-- of the tokens after ")": what the bracket holds is an operand
abbrev pub goes_on : List Token → Bool
goes_on (t.Plus ∷ ts) = true
goes_on (t.Minus ∷ ts) = true
goes_on (t.Concat ∷ ts) = true
goes_on (t.Star ∷ ts) = true
goes_on (t.Slash ∷ ts) = true
goes_on (t.Compare op ∷ ts) = true
goes_on (t.Key k.Between ∷ ts) = true
goes_on (t.Key k.In ∷ ts) = true
goes_on (t.Key k.Like ∷ ts) = true
goes_on (t.Key k.Is ∷ ts) = true
goes_on (t.Key k.Not ∷ ts) = true
goes_on _ = false

-- a bracket stands first, and holds a condition
abbrev pub opens_cond : List Token → Bool
opens_cond (t.LeftParen ∷ ts) = not (goes_on (after 0 ts))
opens_cond _ = false
