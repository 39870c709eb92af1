-- What the tokens of a text are: a slice each, one after the other.
use Rattle.std.proofs.Common.{Vec, Global, ◌≡◌, refl, sym, ap, subst, inl, inr, ◌==◌, ◌∙◌, ℕ, zero, suc, ◌+◌, ◌-◌, ◌≤◌, Bool, true, false, ◌&&◌, not, List, [], ◌∷◌, ◌++◌, length, take, drop, arith}
use Rattle.std.specs.Prelude.{All, IfOk, Contains, Option, Some, None, Result, Ok, Err, if◌then◌else◌, nat_le, pos, encode_utf8, encode_utf8_all, IsUtf8}
use Rattle.std.proofs.lemmas.List.{append_assoc, append-nil, length-append, take_at, take-append-drop}
use Rattle.std.proofs.lemmas.Bool.{eqb-true}
use Rattle.std.proofs.lemmas.List.Elements.{All-cons}
use Rattle.std.proofs.lemmas.List.Sums.{prefix_len-le-length, sum_by-cons}
use Rattle.std.proofs.lemmas.Slice.Eq.{bytes_eq-Decides}
use Rattle.std.proofs.lemmas.Str.{len_utf8_bounds, length-encode, encodes-append, drop_past_char, chars_from_encodes, is_utf8-from_IsUtf8, IsUtf8-from_is_utf8}
use Rattle.std.specs.Str.{bytes_eq, chars, is_utf8}
use Rattle.shared_types.specs.declared.compare.CmpOp.TheVariants as op
use Rattle.sql_text.specs.declared.key.Key.{Key}
use Rattle.sql_text.specs.declared.token.Token.{Token}
use Rattle.sql_text.specs.declared.token.Token.TheVariants as t
use Rattle.sql_text.specs.declared.token.Spanned.{Spanned}
use Rattle.sql_text.specs.declared.refusal.LexRefusal.{LexRefusal}
use Rattle.sql_text.specs.Keys.{key_words}
use Rattle.sql_text.specs.Tokens.{Scanned, is_blank, is_letter, is_digit, in_word, word, folded, entry_of, key_in, key_word, key_or_name, word_token, word_length, starts_comment, comment_length, digits, digits_length, value, starts_like_letter, number, quoted, string, name_of_some, delimited_name, long_sign, short_sign, found_short, found_long, sign, first, width, widths, before, before_rest, and_then, tokens_at, tokens, Ascends, IsTextOf, StandsIn, GivesSeen}
use Rattle.sql_text.proofs.Numbers.{digits_again}
use Rattle.sql_text.proofs.InQuotes.{either, IsQuoted, quoted_is}

-- The sizes of characters and of their bytes.
pub width_some : (c : ℕ) → 1 ≤ width c
unfolding width
width_some c = (len_utf8_bounds c).0

width_is : (c : ℕ) → width c ≡ length (encode_utf8 c)
unfolding width
width_is c = sym (length-encode c)

pub widths_are : (cs : List ℕ) → widths cs ≡ length (encode_utf8_all cs)
widths_are [] = refl
widths_are (c ∷ cs) = rw (sum_by-cons width c cs, length-append (encode_utf8 c) (encode_utf8_all cs), width_is c, widths_are cs) refl

past_char : (c place : ℕ) (rest bytes : List ℕ) → drop place bytes ≡ encode_utf8_all (c ∷ rest) → drop (place + width c) bytes ≡ encode_utf8_all rest
unfolding width
past_char c place rest bytes h = drop_past_char bytes (encode_utf8_all rest) place c h

-- tokens before others
abbrev pub after : List Spanned → Result (List Spanned) ℕ → Result (List Spanned) ℕ
after spans (Ok others) = Ok (spans ++ others)
after spans (Err fault) = Err fault

after_before : (spans : List Spanned) (place : ℕ) (found : Option Token) (bytes : ℕ) (told : Result (List Spanned) ℕ) → after spans (before_rest place found bytes told) ≡ after (spans ++ before place found bytes []) told
after_before spans place None bytes (Ok others) = rw (append-nil spans) refl
after_before spans place (Some token) bytes (Ok others) = ap Ok (sym (append_assoc spans _ others))
after_before spans place found bytes (Err fault) = refl

pub tokens_passed : (place passed : ℕ) (cs : List ℕ) → tokens_at place passed cs ≡ tokens_at (place + widths (take passed cs)) 0 (drop passed cs)
tokens_passed place zero cs = let e : place + 0 ≡ place = omega arith in rw e refl
tokens_passed place (suc passed) [] = refl
tokens_passed place (suc passed) (c ∷ rest) =
    let w : widths (c ∷ take passed rest) ≡ width c + widths (take passed rest) = sum_by-cons width c (take passed rest) in
    let e : (place + width c) + widths (take passed rest) ≡ place + widths (c ∷ take passed rest) = omega (arith, w) in
    tokens_passed (place + width c) passed rest ∙ rw e refl

-- what was found, some characters, has these bytes
found_widths : (size c : ℕ) (rest : List ℕ) → 1 ≤ size → widths (take size (c ∷ rest)) ≡ width c + widths (take (size - 1) rest)
found_widths zero c rest h = absurd (omega arith)
found_widths (suc size) c rest h = let less : suc size - 1 ≡ size = omega arith in rw less (sum_by-cons width c (take size rest))

tokens_after : (place size c : ℕ) (rest : List ℕ) → 1 ≤ size → tokens_at (place + width c) (size - 1) rest ≡ tokens_at (place + widths (take size (c ∷ rest))) 0 (drop size (c ∷ rest))
tokens_after place zero c rest h = absurd (omega arith)
tokens_after place (suc size) c rest h =
    let less : suc size - 1 ≡ size = omega arith in
    let more : (place + width c) + widths (take size rest) ≡ place + widths (take (suc size) (c ∷ rest)) = omega (arith, sum_by-cons width c (take size rest)) in
    rw less (tokens_passed (place + width c) size rest ∙ rw more refl)

pub tokens_step : (spans : List Spanned) (place : ℕ) (cs : List ℕ) (found : Option Token × ℕ) → first cs ≡ Ok found → 1 ≤ found.1 → after spans (tokens_at place 0 cs) ≡ after (spans ++ before place found.0 (widths (take found.1 cs)) []) (tokens_at (place + widths (take found.1 cs)) 0 (drop found.1 cs))
tokens_step spans place [] found h size = absurd (cc)
tokens_step spans place (c ∷ rest) found h size =
    rw h (after_before spans place found.0 (widths (take found.1 (c ∷ rest))) _ ∙ ap (after (spans ++ before place found.0 (widths (take found.1 (c ∷ rest))) [])) (tokens_after place found.1 c rest size))

pub tokens_fault : (spans : List Spanned) (place fault : ℕ) (cs : List ℕ) → 1 ≤ length cs → first cs ≡ Err fault → after spans (tokens_at place 0 cs) ≡ Err fault
tokens_fault spans place fault [] some h = absurd (omega arith)
tokens_fault spans place fault (c ∷ rest) some h = rw h refl

pub tokens_end : (spans : List Spanned) (place : ℕ) (rest : List ℕ) → length rest ≡ 0 → after spans (tokens_at place 0 rest) ≡ Ok spans
tokens_end spans place [] h = ap Ok (append-nil spans)
tokens_end spans place (c ∷ rest) h = absurd (omega arith)

-- What stands first.
abbrev pub IsTextOfFound : Option Token → List ℕ → Type 0
IsTextOfFound None cs = Unit {0}
IsTextOfFound (Some token) cs = IsTextOf token cs

-- it has characters, and they are its text
abbrev pub IsFirst : List ℕ → Option Token × ℕ → Type 0
IsFirst cs found = (1 ≤ found.1) × (found.1 ≤ length cs) × IsTextOfFound found.0 (take found.1 cs)

is_found : (cs : List ℕ) (known found : Option Token × ℕ) → IsFirst cs known → ◌≡◌ {A = Scanned} (Ok known) (Ok found) → IsFirst cs found
is_found cs known found fact h = let e : known ≡ found = cc in subst (IsFirst cs) e fact

pair_is : (entry : List ℕ × Key) (letters : List ℕ) (key : Key) → entry.0 ≡ letters → entry.1 ≡ key → entry ≡ (letters, key)
pair_is entry letters key p q = λ i. (p i, q i)

key_at : (b : Bool) (entry : List ℕ × Key) (rest : List (List ℕ × Key)) (letters : List ℕ) (key : Key) → (b ≡ true → entry.0 ≡ letters) → (key_in (entry_of rest letters) ≡ Some key → Contains rest (letters, key)) → key_in (if b then Some entry else entry_of rest letters) ≡ Some key → Contains (entry ∷ rest) (letters, key)
key_at true entry rest letters key same others h = let e : entry.1 ≡ key = cc in (0, omega arith, pair_is entry letters key (same refl) e)
key_at false entry rest letters key same others h = let found = others h in (suc found.0, omega (arith, found.1), found.2)

key_text : (table : List (List ℕ × Key)) (letters : List ℕ) (key : Key) → key_in (entry_of table letters) ≡ Some key → Contains table (letters, key)
key_text [] letters key h = absurd (cc)
key_text (entry ∷ rest) letters key h = key_at (bytes_eq entry.0 letters) entry rest letters key (bytes_eq-Decides entry.0 letters).0 (key_text rest letters key) h

word_text : (cs letters : List ℕ) (told : Option Key) → key_word letters ≡ told → folded cs ≡ letters → IsTextOf (key_or_name told letters) cs
unfolding key_word
word_text cs letters None e h = inl h
word_text cs letters (Some key) e h = rw h (key_text key_words letters key e)

word_size : (c : ℕ) (rest : List ℕ) → is_letter c ≡ true → 1 ≤ word_length (c ∷ rest)
word_size c rest h = rw h (omega arith)

word_is : (c : ℕ) (rest : List ℕ) → is_letter c ≡ true → IsFirst (c ∷ rest) (Some (word_token (folded (word (c ∷ rest)))), word_length (c ∷ rest))
word_is c rest letter = (word_size c rest letter, prefix_len-le-length in_word (c ∷ rest), word_text (word (c ∷ rest)) (folded (word (c ∷ rest))) _ refl refl)

comment_size : (cs : List ℕ) → starts_comment cs ≡ true → 1 ≤ comment_length cs
comment_size [] h = absurd (cc)
comment_size (c ∷ []) h = absurd (cc)
comment_size (c ∷ d ∷ rest) h = both (c == 45) (d == 45) (λ e _. let dash : c ≡ 45 = eqb-true c 45 e in rw dash (omega arith)) h where
  both : {P : Type 0} (a b : Bool) → (a ≡ true → b ≡ true → P) → (a && b) ≡ true → P
  both true true f h = f refl refl
  both true false f h = absurd (cc)
  both false b f h = absurd (cc)

digits_size : (c : ℕ) (rest : List ℕ) → is_digit c ≡ true → 1 ≤ digits_length (c ∷ rest)
digits_size c rest h = rw h (omega arith)

number_is : (c : ℕ) (rest : List ℕ) (found : Option Token × ℕ) → is_digit c ≡ true → number (c ∷ rest) ≡ Ok found → IsFirst (c ∷ rest) found
number_is c rest found digit h =
    either (starts_like_letter (drop (digits_length (c ∷ rest)) (c ∷ rest))) _ _ _ (λ _ h. absurd (cc))
    (λ _ h. either (nat_le (value (digits (c ∷ rest))) 9223372036854775807) _ _ _
    (λ _ h. is_found (c ∷ rest) (Some (t.Number (pos (value (digits (c ∷ rest))))), digits_length (c ∷ rest)) found (digits_size c rest digit, prefix_len-le-length is_digit (c ∷ rest), (digits_again (c ∷ rest), refl)) h)
    (λ _ h. absurd (cc))
    h)
    h

string_is : (c : ℕ) (rest : List ℕ) (told : Result (List ℕ × ℕ) ℕ) (found : Option Token × ℕ) → c ≡ 39 → quoted 39 rest ≡ told → string told ≡ Ok found → IsFirst (c ∷ rest) found
string_is c rest (Ok q) found e read h =
    let (within, text) = quoted_is 39 rest q read in
    is_found (c ∷ rest) (Some (t.Str q.0), suc q.1) found (omega arith, omega (arith, within), rw (e, text) refl) h
string_is c rest (Err fault) found e read h = absurd (cc)

name_is : (c size : ℕ) (rest name : List ℕ) (found : Option Token × ℕ) → c ≡ 34 → IsQuoted 34 rest (name, size) → name_of_some name (suc size) ≡ Ok found → IsFirst (c ∷ rest) found
name_is c size rest [] found e is h = absurd (cc)
name_is c size rest (d ∷ ds) found e is h =
    is_found (c ∷ rest) (Some (t.Name (d ∷ ds)), suc size) found (omega arith, omega (arith, is.0), inr (rw (e, is.1) refl)) h

delimited_is : (c : ℕ) (rest : List ℕ) (told : Result (List ℕ × ℕ) ℕ) (found : Option Token × ℕ) → c ≡ 34 → quoted 34 rest ≡ told → delimited_name told ≡ Ok found → IsFirst (c ∷ rest) found
delimited_is c rest (Ok q) found e read h = name_is c q.1 rest q.0 found e (quoted_is 34 rest q read) h
delimited_is c rest (Err fault) found e read h = absurd (cc)

-- Signs.
known_sign : (known token : Token) (cs text : List ℕ) → cs ≡ text → IsTextOf known text → Some known ≡ Some token → IsTextOf token cs
known_sign known token cs text e fact h = let k : known ≡ token = cc in rw e (subst (λ token. IsTextOf token text) k fact)

short_text : (c : ℕ) (token : Token) → short_sign c ≡ Some token → IsTextOf token (c ∷ [])
short_text c token =
    either (c == 40) _ _ _ (is 40 t.LeftParen refl)
    (λ _. either (c == 41) _ _ _ (is 41 t.RightParen refl)
    (λ _. either (c == 44) _ _ _ (is 44 t.Comma refl)
    (λ _. either (c == 46) _ _ _ (is 46 t.Dot refl)
    (λ _. either (c == 42) _ _ _ (is 42 t.Star refl)
    (λ _. either (c == 43) _ _ _ (is 43 t.Plus refl)
    (λ _. either (c == 45) _ _ _ (is 45 t.Minus refl)
    (λ _. either (c == 47) _ _ _ (is 47 t.Slash refl)
    (λ _. either (c == 61) _ _ _ (is 61 (t.Compare op.Eq) refl)
    (λ _. either (c == 60) _ _ _ (is 60 (t.Compare op.Lt) refl)
    (λ _. either (c == 62) _ _ _ (is 62 (t.Compare op.Gt) refl)
    (λ _. either (c == 59) _ _ _ (is 59 t.Semicolon refl)
    (λ _ h. absurd (cc)))))))))))))
  where
    is : (sign : ℕ) (known : Token) → IsTextOf known (sign ∷ []) → (c == sign) ≡ true → Some known ≡ Some token → IsTextOf token (c ∷ [])
    is sign known fact same h = known_sign known token (c ∷ []) (sign ∷ []) (ap (λ b. b ∷ []) (eqb-true c sign same)) fact h

long_text : (c d : ℕ) (token : Token) → long_sign c d ≡ Some token → IsTextOf token (c ∷ d ∷ [])
long_text c d token =
    either (c == 60 && d == 62) _ _ _ (is 60 62 (t.Compare op.Ne) refl)
    (λ _. either (c == 60 && d == 61) _ _ _ (is 60 61 (t.Compare op.Le) refl)
    (λ _. either (c == 62 && d == 61) _ _ _ (is 62 61 (t.Compare op.Ge) refl)
    (λ _. either (c == 124 && d == 124) _ _ _ (is 124 124 t.Concat refl)
    (λ _ h. absurd (cc)))))
  where
    pair : (a b : Bool) (x y : ℕ) → (a ≡ true → c ≡ x) → (b ≡ true → d ≡ y) → (a && b) ≡ true → c ∷ d ∷ [] ≡ x ∷ y ∷ []
    pair true true x y f g h = rw (f refl, g refl) refl
    pair true false x y f g h = absurd (cc)
    pair false b x y f g h = absurd (cc)

    is : (x y : ℕ) (known : Token) → IsTextOf known (x ∷ y ∷ []) → (c == x && d == y) ≡ true → Some known ≡ Some token → IsTextOf token (c ∷ d ∷ [])
    is x y known fact same h = known_sign known token (c ∷ d ∷ []) (x ∷ y ∷ []) (pair (c == x) (d == y) x y (eqb-true c x) (eqb-true d y) same) fact h

short_is : (c : ℕ) (rest : List ℕ) (told : Option Token) (found : Option Token × ℕ) → short_sign c ≡ told → found_short told ≡ Ok found → IsFirst (c ∷ rest) found
short_is c rest None found read h = absurd (cc)
short_is c rest (Some token) found read h = is_found (c ∷ rest) (Some token, 1) found (omega arith, omega arith, short_text c token read) h

long_is : (c d : ℕ) (rest : List ℕ) (told : Option Token) (found : Option Token × ℕ) → long_sign c d ≡ told → found_long told c ≡ Ok found → IsFirst (c ∷ d ∷ rest) found
long_is c d rest None found read h = short_is c (d ∷ rest) (short_sign c) found refl h
long_is c d rest (Some token) found read h = is_found (c ∷ d ∷ rest) (Some token, 2) found (omega arith, omega arith, long_text c d token read) h

sign_is : (cs : List ℕ) (found : Option Token × ℕ) → sign cs ≡ Ok found → IsFirst cs found
sign_is [] found h = absurd (cc)
sign_is (c ∷ []) found h = short_is c [] (short_sign c) found refl h
sign_is (c ∷ d ∷ rest) found h = long_is c d rest (long_sign c d) found refl h

pub first_is : (cs : List ℕ) (found : Option Token × ℕ) → first cs ≡ Ok found → IsFirst cs found
first_is [] found h = absurd (cc)
first_is (c ∷ rest) found h =
    either (is_blank c) _ _ _ (λ _. is_found (c ∷ rest) (None, 1) found (omega arith, omega arith, tt))
    (λ _. either (starts_comment (c ∷ rest)) _ _ _ (λ dashes. is_found (c ∷ rest) (None, comment_length (c ∷ rest)) found (comment_size (c ∷ rest) dashes, prefix_len-le-length (λ c. not (c == 10)) (c ∷ rest), tt))
    (λ _. either (is_letter c) _ _ _ (λ letter. is_found (c ∷ rest) _ found (word_is c rest letter))
    (λ _. either (is_digit c) _ _ _ (λ digit. number_is c rest found digit)
    (λ _. either (c == 39) _ _ _ (λ e. string_is c rest (quoted 39 rest) found (eqb-true c 39 e) refl)
    (λ _. either (c == 34) _ _ _ (λ e. delimited_is c rest (quoted 34 rest) found (eqb-true c 34 e) refl)
    (λ _. sign_is (c ∷ rest) found))))))
    h

-- Places.
ascend_found : (place bytes start : ℕ) (found : Option Token) (others : List Spanned) (end : ℕ) → start ≤ place → 1 ≤ bytes → ((from : ℕ) → from ≤ place + bytes → Ascends from others end) → Ascends start (before place found bytes others) end
ascend_found place bytes start None others end low some rest = rest start (omega (arith, low))
ascend_found place bytes start (Some token) others end low some rest = (low, omega (arith, some), rest (place + bytes) (omega arith))

-- where tokens are, something was found, and others follow
rest_ok : (place : ℕ) (found : Option Token) (bytes : ℕ) (told : Result (List Spanned) ℕ) (spans : List Spanned) → before_rest place found bytes told ≡ Ok spans → (others : List Spanned) × (told ≡ Ok others) × (spans ≡ before place found bytes others)
rest_ok place found bytes (Ok others) spans h = (others, refl, cc)
rest_ok place found bytes (Err fault) spans h = absurd (cc)

and_then_ok : (place : ℕ) (cs : List ℕ) (told : Scanned) (following : ℕ → Result (List Spanned) ℕ) (spans : List Spanned) → and_then place cs told following ≡ Ok spans → (found : Option Token × ℕ) × (others : List Spanned) × (told ≡ Ok found) × (following found.1 ≡ Ok others) × (spans ≡ before place found.0 (widths (take found.1 cs)) others)
and_then_ok place cs (Ok found) following spans h = let others = rest_ok place found.0 (widths (take found.1 cs)) (following found.1) spans h in (found, others.0, refl, others.1, others.2)
and_then_ok place cs (Err fault) following spans h = absurd (cc)

pub tokens_ascend : (place passed start end : ℕ) (cs : List ℕ) (spans : List Spanned) → start ≤ place + widths (take passed cs) → place + widths cs ≤ end → tokens_at place passed cs ≡ Ok spans → Ascends start spans end
tokens_ascend place zero start end [] spans low high h = let e : spans ≡ [] = cc in rw e (omega arith)
tokens_ascend place (suc passed) start end [] spans low high h = let e : spans ≡ [] = cc in rw e (omega arith)
tokens_ascend place (suc passed) start end (c ∷ rest) spans low high h =
    tokens_ascend (place + width c) passed start end rest spans (omega (arith, low, sum_by-cons width c (take passed rest))) (omega (arith, high, sum_by-cons width c rest)) h
tokens_ascend place zero start end (c ∷ rest) spans low high h =
    let (found, others, read, following, e) = and_then_ok place (c ∷ rest) (first (c ∷ rest)) (λ size. tokens_at (place + width c) (size - 1) rest) spans h in
    let (some, within, text) = first_is (c ∷ rest) found read in
    let bytes : widths (take found.1 (c ∷ rest)) ≡ width c + widths (take (found.1 - 1) rest) = found_widths found.1 c rest some in
    rw e (ascend_found place (widths (take found.1 (c ∷ rest))) start found.0 others end (omega (arith, low)) (omega (arith, bytes, width_some c))
    (λ from h. tokens_ascend (place + width c) (found.1 - 1) from end rest others (omega (arith, h, bytes)) (omega (arith, high, sum_by-cons width c rest)) following))

-- Each token's text stands at its place.
take_written : (size : ℕ) (cs : List ℕ) → take (widths (take size cs)) (encode_utf8_all cs) ≡ encode_utf8_all (take size cs)
take_written size cs =
    let parts : encode_utf8_all cs ≡ encode_utf8_all (take size cs) ++ encode_utf8_all (drop size cs) = ap encode_utf8_all (sym (take-append-drop size cs)) ∙ encodes-append (take size cs) (drop size cs) in
    rw (widths_are (take size cs), parts) (take_at (encode_utf8_all (take size cs)) (encode_utf8_all (drop size cs)) (length (encode_utf8_all (take size cs))) refl)

stands_found : (bytes cs : List ℕ) (place size : ℕ) (found : Option Token) (others : List Spanned) → drop place bytes ≡ encode_utf8_all cs → IsTextOfFound found (take size cs) → All (StandsIn bytes) others → All (StandsIn bytes) (before place found (widths (take size cs)) others)
stands_found bytes cs place size None others here text rest = rest
stands_found bytes cs place size (Some token) others here text rest =
    let long : (place + widths (take size cs)) - place ≡ widths (take size cs) = omega arith in
    All-cons (StandsIn bytes) _ others (take size cs, text, rw (long, here) (take_written size cs)) rest

none_stand : (bytes : List ℕ) (spans : List Spanned) → spans ≡ [] → All (StandsIn bytes) spans
none_stand bytes spans e = rw e (λ k d low. absurd (omega arith))

pub tokens_stand : (bytes : List ℕ) (place passed : ℕ) (cs : List ℕ) (spans : List Spanned) → drop place bytes ≡ encode_utf8_all cs → tokens_at place passed cs ≡ Ok spans → All (StandsIn bytes) spans
tokens_stand bytes place zero [] spans here h = none_stand bytes spans (cc)
tokens_stand bytes place (suc passed) [] spans here h = none_stand bytes spans (cc)
tokens_stand bytes place (suc passed) (c ∷ rest) spans here h = tokens_stand bytes (place + width c) passed rest spans (past_char c place rest bytes here) h
tokens_stand bytes place zero (c ∷ rest) spans here h =
    let (found, others, read, following, e) = and_then_ok place (c ∷ rest) (first (c ∷ rest)) (λ size. tokens_at (place + width c) (size - 1) rest) spans h in
    let (some, within, text) = first_is (c ∷ rest) found read in
    rw e (stands_found bytes (c ∷ rest) place found.1 found.0 others here text
    (tokens_stand bytes (place + width c) (found.1 - 1) rest others (past_char c place rest bytes here) following))

-- The characters of the bytes.
pub utf8_tokens : (bytes cs : List ℕ) → IsUtf8 bytes → encode_utf8_all cs ≡ bytes → tokens bytes ≡ tokens_at 0 0 cs
utf8_tokens bytes cs valid e = rw (is_utf8-from_IsUtf8 bytes valid, ← chars_from_encodes cs bytes valid e) refl

not_utf8 : (b : Bool) (bytes : List ℕ) → is_utf8 bytes ≡ b → ¬ (IsUtf8 bytes) → (if b then tokens_at 0 0 (chars bytes) else Err 1) ≡ Err 1
not_utf8 true bytes e invalid = absurd (invalid (IsUtf8-from_is_utf8 bytes e))
not_utf8 false bytes e invalid = refl

pub not_utf8_tokens : (bytes : List ℕ) → ¬ (IsUtf8 bytes) → tokens bytes ≡ Err 1
not_utf8_tokens bytes invalid = not_utf8 (is_utf8 bytes) bytes refl invalid

-- What the code's answer says of the tokens.
abbrev Lexed : Type 0
Lexed = Result (Vec Spanned Global) LexRefusal

pub lexed : (bytes cs : List ℕ) (result : Lexed) → IsUtf8 bytes → encode_utf8_all cs ≡ bytes → GivesSeen (λ spans. spans.items) result (tokens_at 0 0 cs) → GivesSeen (λ spans. spans.items) result (tokens bytes)
lexed bytes cs result valid e h = subst (λ told. GivesSeen (λ spans. spans.items) result told) (sym (utf8_tokens bytes cs valid e)) h

pub lexed_ok : (result : Lexed) (told : Result (List Spanned) ℕ) → GivesSeen (λ spans. spans.items) result told → IfOk result (λ spans. told ≡ Ok spans.items)
lexed_ok (Ok spans) told h = h
lexed_ok (Err refusal) told h = tt

pub lexed_fault : (result : Lexed) (told : Result (List Spanned) ℕ) (refusal : LexRefusal) → GivesSeen (λ spans. spans.items) result told → result ≡ Err refusal → GivesSeen {X = Vec Spanned Global} (λ spans. spans.items) (Err refusal) told
lexed_fault result told refusal h same = subst (λ result. GivesSeen (λ spans. spans.items) result told) same h

pub lexed_ascend : (bytes cs : List ℕ) (result : Lexed) → encode_utf8_all cs ≡ bytes → GivesSeen (λ spans. spans.items) result (tokens_at 0 0 cs) → IfOk result (λ spans. Ascends 0 spans.items (length bytes))
lexed_ascend bytes cs (Ok spans) e h = let size : widths cs ≡ length bytes = widths_are cs ∙ ap length e in tokens_ascend 0 0 0 (length bytes) cs spans.items (omega arith) (omega (arith, size)) h
lexed_ascend bytes cs (Err refusal) e h = tt

pub lexed_stand : (bytes cs : List ℕ) (result : Lexed) → encode_utf8_all cs ≡ bytes → GivesSeen (λ spans. spans.items) result (tokens_at 0 0 cs) → IfOk result (λ spans. All (StandsIn bytes) spans.items)
lexed_stand bytes cs (Ok spans) e h = tokens_stand bytes 0 0 cs spans.items (sym e) h
lexed_stand bytes cs (Err refusal) e h = tt
