-- What a field of a VARCHAR column holds.
use Rattle.std.proofs.Common.{ℕ, ℤ, ◌≡◌, ◌∙◌, List, refl, true, false, if◌then◌else◌, Bool}
use Rattle.std.specs.Prelude.{IsUtf8, encode_utf8_all}
use Rattle.std.specs.Str.{bytes_eq, chars, is_utf8}
use Rattle.std.proofs.lemmas.Str.{chars_from_encodes, is_utf8-from_IsUtf8, IsUtf8-from_is_utf8}
use Rattle.sql_value.specs.declared.cell.Cell.TheVariants as cell
use Rattle.csv_tables.specs.declared.content.Content.{Content}
use Rattle.csv_tables.specs.declared.content.Content.TheVariants.{Holds, TooLong, BadUtf8}
use Rattle.csv_tables.specs.Cells.{null_text}
use Rattle.csv_tables.specs.Contents.{is_longer, text_content, unescaped, within_length}

pub text-null : (limit : ℤ) (bs : List ℕ) → bytes_eq bs null_text ≡ true → Holds cell.Null ≡ text_content limit bs
unfolding text_content
text-null limit bs same = rw same refl

invalid : (b : Bool) (bs : List ℕ) (x : Content) → is_utf8 bs ≡ b → ¬ (IsUtf8 bs) → BadUtf8 ≡ (if b then x else BadUtf8)
invalid true bs x e not = absurd (not (IsUtf8-from_is_utf8 bs e))
invalid false bs x e not = refl

pub text-invalid : (limit : ℤ) (bs : List ℕ) → bytes_eq bs null_text ≡ false → ¬ (IsUtf8 bs) → BadUtf8 ≡ text_content limit bs
unfolding text_content
text-invalid limit bs other not = rw other (invalid (is_utf8 bs) bs (within_length limit (unescaped (chars bs))) refl not)

text-sized : (limit : ℤ) (bs cs : List ℕ) → bytes_eq bs null_text ≡ false → IsUtf8 bs → encode_utf8_all cs ≡ bs → within_length limit (unescaped cs) ≡ text_content limit bs
unfolding text_content
text-sized limit bs cs other valid e = rw (other, is_utf8-from_IsUtf8 bs valid, ← chars_from_encodes cs bs valid e) refl

sized : (limit : ℤ) (text : List ℕ) (b : Bool) → is_longer text limit ≡ b → (if b then TooLong else Holds (cell.Text text)) ≡ within_length limit text
sized limit text b e = rw e refl

pub text-within : (limit : ℤ) (bs cs text : List ℕ) (b : Bool) → bytes_eq bs null_text ≡ false → IsUtf8 bs → encode_utf8_all cs ≡ bs → text ≡ unescaped cs → is_longer text limit ≡ b
    → (if b then TooLong else Holds (cell.Text text)) ≡ text_content limit bs
text-within limit bs cs text b other valid e is long = sized limit text b long ∙ rw is (text-sized limit bs cs other valid e)
