-- What the proofs of the reader cite.
use Rattle.std.proofs.Common.{◌≡◌, ◌&&◌, ℕ, Bool, true, false, refl, sym, List, [], ◌∷◌, length, Option, Some, None, Result, Ok, Err, inl, inr, true≢false, nat_lt, lt-ltb, ltb-true}
use Rattle.std.specs.List.{list_all}
use Rattle.std.specs.Option.{option_map, unwrap_or}
use Rattle.std.specs.Result.{result_unwrap_or}
use Rattle.std.specs.Prelude.{Box, option_and_then}
use Rattle.std.specs.Box.{box_value}
use Rattle.std.specs.Borrow.{Bor}
use Rattle.std.specs.Char.{digit_value}
use Rattle.std.specs.Str.Parse.{AllDigits, ParsesUnsigned, digits_value, without_leading_plus}
use Rattle.clap.specs.Words.{App, is_simple, HasKind, Kinds, Row, Text, fault_of, is_simple_and_free, kind_of, subcommand_of, subcommand_rows}
use Rattle.clap.specs.declared.parser.matches.SubCommand.{SubCommand}
use Rattle.clap.specs.declared.parser.matches.ArgMatches.TheViews.{out-SubCommand}
use Rattle.clap.specs.declared.error.Error.{Error}
use Rattle.clap.specs.declared.error.ErrorKind.TheVariants.{OutOfMemory}
use Rattle.command_line.specs.Command.{gen_app, line_app, sql_app, table_app}
use Rattle.command_line.specs.Reading.{command_at, is_number, known_line, number}

-- ---- a number

digits_pass : (ds : List ℕ) → AllDigits 10 ds → list_all (λ d. nat_lt (digit_value d) 10) ds ≡ true
digits_pass [] h = refl
digits_pass (d ∷ ds) h = rw (lt-ltb (digit_value d) 10 h.0) (digits_pass ds h.1)

both : (a b : Bool) → (a && b) ≡ true → (a ≡ true) × (b ≡ true)
both true b e = (refl, e)
both false b e = absurd (true≢false (sym e))

digits_from : (ds : List ℕ) → list_all (λ d. nat_lt (digit_value d) 10) ds ≡ true → AllDigits 10 ds
digits_from [] e = tt
digits_from (d ∷ ds) e =
    let parts = both _ _ e in
    (ltb-true _ _ parts.0, digits_from ds parts.1)

pub number_read : {E : Type 0} (text : Text) (r : Result ℕ E) → ParsesUnsigned 64 10 text r → result_unwrap_or r 0 ≡ number text
unfolding number
number_read text (Ok n) h =
    let ds = without_leading_plus text in
    rw (lt-ltb 0 (length ds) h.0.0.0, digits_pass ds h.0.0.1, lt-ltb (digits_value 10 ds) 18446744073709551616 h.0.1) h.1
number_read text (Err e) h = go (is_number (without_leading_plus text)) refl
  where
    go : (b : Bool) → is_number (without_leading_plus text) ≡ b → 0 ≡ number text
    go false t = rw t refl
    go true t =
        let outer = both _ _ t in
        let inner = both _ _ outer.0 in
        absurd (h ((ltb-true _ _ inner.0, digits_from (without_leading_plus text) inner.1), ltb-true _ _ outer.1))

-- ---- a text

pub unwrap_now : (o : Option (Bor Text)) (d : Bor Text) → (unwrap_or o d).now ≡ unwrap_or (option_map (λ s. s.now) o) d.now
unwrap_now None d = refl
unwrap_now (Some s) d = refl

-- ---- the line

pub simple_line : is_simple_and_free line_app ≡ true
unfolding line_app table_app sql_app gen_app
simple_line = refl

pub is_simple_of : (a : App) → is_simple_and_free a ≡ true → is_simple a ≡ true
is_simple_of a e = (both _ _ e).0

-- a refusal for another cause than memory
pub refused : (a : App) (words : List Text) (e : Error) → a ≡ line_app → HasKind (fault_of a words) e → (kind_of e ≡ OutOfMemory → ⊥) → known_line words ≡ None
unfolding known_line
refused a words e is h other = go (fault_of line_app words) refl (rw is at h)
  where
    go : (ks : Kinds) → fault_of line_app words ≡ ks → HasKind (fault_of line_app words) e → known_line words ≡ None
    go [] same k =
        let none : HasKind [] e = rw same at k in
        elim none [ inl m ↦ absurd (other m) | inr z ↦ absurd z ]
    go (x ∷ xs) same k = rw same refl

-- the words are taken
pub taken : (a : App) (words : List Text) → a ≡ line_app → fault_of a words ≡ [] → known_line words ≡ option_and_then command_at (subcommand_of a words)
unfolding known_line
taken a words is free =
    let none : fault_of line_app words ≡ [] = rw is at free in
    rw (none, is) refl

-- the subcommand with its name and its matches
module _ {Z : Type 0} where
  pub whole : (sub : Option (Box SubCommand Z)) (name : Text) (rows : List Row) → option_map (λ b. (out-SubCommand (box_value b)).name.now) sub ≡ Some name
      → option_map (λ p. p.1) (subcommand_rows sub) ≡ Some rows → subcommand_rows sub ≡ Some (name, rows)
  whole None name rows e f = cc
  whole (Some b) name rows e f = cc

  pub nothing : (sub : Option (Box SubCommand Z)) → option_map (λ p. p.1) (subcommand_rows sub) ≡ None → subcommand_rows sub ≡ None
  nothing None e = refl
  nothing (Some b) e = cc
