-- Rows that loops add, up to rows that aren't there.
use Rattle.std.proofs.Common.{ℕ, suc, zero, ◌≡◌, ◌<◌, ◌≤◌, ◌+◌, ◌++◌, Bool, true, false, cond, List, [], ◌∷◌, drop, get_or, length, slice_get, take, append_assoc, append-nil, add-one, drop-cons, sym, ◌∙◌, ap, subst, arith, Some}
use Rattle.std.proofs.lemmas.List.{take_all, take_more}
use Rattle.std.specs.List.{list_any}
use Rattle.row_bag.specs.Bags.{Alike, bind, keep, row, unit}
use Rattle.row_bag.specs.Joins.{or_else}
use Rattle.row_bag.specs.Verdict.{is_there}
use Rattle.row_bag.specs.declared.row.Row.{Row}
use Rattle.row_bag.proofs.Agreement.{alike-append, alike-bind, alike-keep, alike-keep_no, alike-refl, alike-same, alike-sym, alike-trans}
use Rattle.row_bag.proofs.Binds.{bind-append, keep-append, keep-keep, keep-yes}
use Rattle.row_bag.proofs.Levels.{least-yes}
use Rattle.row_bag.proofs.FoldLaws.{or_else-alike}
use Rattle.row_bag.proofs.Products.{or_else_any}
use Rattle.sql_value.specs.Level.{least}
use Rattle.sql_value.specs.declared.cell.Cell.{Cell}
use Rattle.sql_value.specs.declared.level.Level.{Level}
use Rattle.sql_value.specs.declared.level.Level.TheVariants.{No, Yes}
use Rattle.qgm_meaning.specs.Meaning.{once_if}
use Rattle.qgm_meaning.specs.Values.{Bag}
use Rattle.qgm_meaning.proofs.Alikes.{once_if-alike}

-- the elements from a place on
pub from : {X : Type 0} (xs : List X) (i : ℕ) (d : X) → i < length xs → drop i xs ≡ get_or xs i d ∷ drop (i + 1) xs
from xs i d l = drop-cons xs i d l ∙ ap (λ n. get_or xs i d ∷ drop n xs) (sym (add-one i))

pub at-place : {X : Type 0} (xs : List X) (i : ℕ) (x : X) → slice_get xs i ≡ Some x → (i < length xs) × (drop i xs ≡ x ∷ drop (i + 1) xs) × (get_or xs i x ≡ x)
at-place [] i x e = absurd (let z : ⊥ = cc in z)
at-place (y ∷ xs) zero x e = let d : y ≡ x = cc in (omega arith, ap (λ z. z ∷ xs) d, d)
at-place (y ∷ xs) (suc i) x e = let h = at-place xs i x e in (omega (arith, h.0), (h.1 ∙ ap (λ (n : ℕ). x ∷ drop n xs) (add-one i)) ∙ ap (λ (n : ℕ). x ∷ drop n (y ∷ xs)) (sym (add-one (suc i))), h.2)

given-more : (level : Level) (done : Bag) (r : Row (List Cell)) (f : List Cell → Bag) → keep level (bind (done ++ r ∷ []) f) ≡ keep level (bind done f) ++ keep (least level r.level) (f r.cells)
given-more level done r f =
    ap (keep level) (bind-append done (r ∷ []) f)
    ∙ keep-append level (bind done f) (bind (r ∷ []) f)
    ∙ ap (λ (b : Bag). keep level (bind done f) ++ b) (ap (keep level) (append-nil (keep r.level (f r.cells))) ∙ keep-keep level r.level (f r.cells))

-- one more of these rows has been gone through
pub each-more : (level : Level) (rows : Bag) (i : ℕ) (r : Row (List Cell)) (f : List Cell → Bag) (old sofar new : Bag) → i < length rows → r ≡ get_or rows i r
    → Alike sofar (old ++ keep level (bind (take i rows) f)) → Alike new (sofar ++ keep (least level r.level) (f r.cells)) → Alike new (old ++ keep level (bind (take (i + 1) rows) f))
each-more level rows i r f old sofar new inside at before added =
    let done = keep level (bind (take i rows) f) in
    let more = keep (least level r.level) (f r.cells) in
    let step : keep level (bind (take (i + 1) rows) f) ≡ done ++ more = ap (λ (b : Bag). keep level (bind b f)) (take_more rows i r inside ∙ ap (λ (s : Row (List Cell)). take i rows ++ s ∷ []) (sym at)) ∙ given-more level (take i rows) r f in
    alike-trans added (alike-trans (alike-append before (alike-refl more)) (alike-same (append_assoc old done more ∙ ap (λ (b : Bag). old ++ b) (sym step))))

-- one more of these rows, each at its own level, has been gone through
pub bind-more : (rows : Bag) (i : ℕ) (r : Row (List Cell)) (f : List Cell → Bag) (sofar new more : Bag) → i < length rows → r ≡ get_or rows i r
    → Alike sofar (bind (take i rows) f) → Alike more (f r.cells) → Alike new (sofar ++ keep r.level more) → Alike new (bind (take (i + 1) rows) f)
bind-more rows i r f sofar new more inside at before given added =
    let done = bind (take i rows) f in
    let step : bind (take (i + 1) rows) f ≡ done ++ keep r.level (f r.cells) =
    ap (λ (b : Bag). bind b f) (take_more rows i r inside ∙ ap (λ (s : Row (List Cell)). take i rows ++ s ∷ []) (sym at)) ∙ bind-append (take i rows) (r ∷ []) f ∙ ap (λ (b : Bag). done ++ b) (append-nil (keep r.level (f r.cells))) in
    alike-trans added (alike-trans (alike-append before (alike-keep r.level given)) (alike-same (sym step)))

-- all of these rows have been gone through
pub bind-all : (rows : Bag) (i : ℕ) (f : List Cell → Bag) (made : Bag) → length rows ≤ i → Alike made (bind (take i rows) f) → Alike made (bind rows f)
bind-all rows i f made l h = subst (λ (b : Bag). Alike made (bind b f)) (take_all i rows l) h

-- a head at no isn't there
pub head-absent : (level t : Level) (cells : List Cell) (out : Bag) → least level t ≡ No → Alike out (out ++ keep level (keep t (unit cells)))
head-absent level t cells out h =
    let none : Alike (keep level (keep t (unit cells))) [] = alike-trans (alike-same (keep-keep level t (unit cells) ∙ ap (λ (l : Level). keep l (unit cells)) h)) (alike-keep_no (unit cells)) in
    alike-trans (alike-same (sym (append-nil out))) (alike-append (alike-refl out) (alike-sym none))

pub head-there : (level t : Level) (cells : List Cell) (out : Bag) → Alike (out ++ row cells (least level t) ∷ []) (out ++ keep level (keep t (unit cells)))
head-there level t cells out = alike-same (ap (λ (l : Level). out ++ row cells (least level l) ∷ []) (sym (least-yes t)))

-- rows added to none, and each once where this is asked for
pub rows-once : (once : Bool) (before out rows made : Bag) → before ≡ [] → Alike out (before ++ keep Yes rows) → Alike made (once_if once out) → Alike made (once_if once rows)
rows-once once before out rows made e h k = alike-trans k (once_if-alike once (alike-trans h (alike-same (ap (λ (b : Bag). b ++ keep Yes rows) e ∙ keep-yes rows))))

-- loops over rows that are alike
pub bind-added : (level : Level) (f : List Cell → Bag) (rows others out new : Bag) → Alike rows others → Alike new (out ++ keep level (bind rows f)) → Alike new (out ++ keep level (bind others f))
bind-added level f rows others out new h k = alike-trans k (alike-append (alike-refl out) (alike-keep level (alike-bind h (λ c. alike-refl (f c)))))

-- all rows have been gone through
pub each-all : (level : Level) (rows others : Bag) (i : ℕ) (f : List Cell → Bag) (old new whole : Bag) → length rows ≤ i → Alike rows others → whole ≡ bind others f
    → Alike new (old ++ keep level (bind (take i rows) f)) → Alike new (old ++ keep level whole)
each-all level rows others i f old new whole l same is h =
    subst (λ (b : Bag). Alike new (old ++ keep level b)) (sym is)
    (bind-added level f rows others old new same (subst (λ (b : Bag). Alike new (old ++ keep level (bind b f))) (take_all i rows l) h))

-- these rows, one of which is there
pub some-there : (made rows others : Bag) → Alike made rows → list_any is_there made ≡ true → Alike made (or_else rows others)
some-there made rows others h there = alike-trans (alike-same (sym (or_else_any made others ∙ ap (λ (b : Bool). cond b made others) there))) (or_else-alike made rows others h)

-- others, where none of these is there
pub none-there : (made rows others : Bag) → Alike made rows → list_any is_there made ≡ false → Alike others (or_else rows others)
none-there made rows others h there = alike-trans (alike-same (sym (or_else_any made others ∙ ap (λ (b : Bool). cond b made others) there))) (or_else-alike made rows others h)
