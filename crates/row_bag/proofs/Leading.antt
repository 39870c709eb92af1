-- Tags before the cells of rows.
use Rattle.std.proofs.Common.{◌≡◌, ℕ, ◌+◌, nat_eq, cond, Bool, true, false, ◌&&◌, List, [], ◌∷◌, ◌++◌, take, drop, length, refl, ap, ap₂, sym, ◌∙◌, Decides}
use Rattle.std.proofs.lemmas.List.{take-append-drop}
use mathlib.Core.Path.{fun_ext}
use Rattle.sql_value.specs.declared.cell.Cell.{Cell}
use Rattle.sql_value.specs.declared.level.Level.{Level}
use Rattle.sql_value.specs.declared.level.Level.TheVariants.{No, Cardinality, Division, Overflow, Yes}
use Rattle.row_bag.specs.Bags.{Agree, Alike, bind, if_there, total, unit}
use Rattle.row_bag.specs.Sets.{grouped, multiplicity, of_group, once, same_cells}
use Rattle.row_bag.specs.declared.row.Row.{Row}
use Rattle.row_bag.proofs.Agreement.{alike-bind, alike-refl, alike-same, alike-trans}
use Rattle.row_bag.proofs.Binds.{bind-append, bind-bind, bind-unit, unit-bind}
use Rattle.row_bag.proofs.Counts.{agree-from_alike}
use Rattle.row_bag.proofs.Levels.{least-yes}
use Rattle.row_bag.proofs.SetLaws.{once-alike}
use Rattle.row_bag.proofs.TupleBags.{same_cells-decides}
use Rattle.row_bag.specs.AsSets.{stands}
use Rattle.row_bag.specs.Tags.{LedGroups, led, same_pair, tagged}
use Rattle.row_bag.proofs.Images.{multiplicity-image}
use Rattle.row_bag.proofs.Standing.{bind-standing, stands-once, stands-some}
use Rattle.row_bag.proofs.Tagging.{group-tagged, once-tagged, pair-decides, tagged-bind}

abbrev Tuple : Type 0
Tuple = List Cell

abbrev Rows : Type 0
Rows = List (Row Tuple)

-- ---- each tuple once, through a function that tells tuples apart

module _ {A B : Type 0} (same_a : A → A → Bool) (same_b : B → B → Bool) (g : A → B) (apart : (a b : A) → same_b (g a) (g b) ≡ same_a a b) where
  often : (c : A) (rs : List (Row A)) → multiplicity same_b (g c) (bind rs (λ a. unit (g a))) ≡ multiplicity same_a c rs
  often c rs = multiplicity-image same_b (g c) g rs ∙ ap (λ w. total ◌+◌ 0 w rs) (fun_ext (λ a. fun_ext (λ l. ap (λ b. cond b 1 0) (apart a c))))

  once-one : (c : A) (l : Level) (z : Bool) → if_there [] (λ d m. cond z (unit d) []) (g c) l ≡ bind (if_there [] (λ d m. cond z (unit d) []) c l) (λ a. unit (g a))
  once-one c l z = at l
    where
      one : (z : Bool) → cond z (unit (g c)) [] ≡ bind (cond z (unit c) []) (λ a. unit (g a))
      one true = sym (unit-bind c (λ a. unit (g a)))
      one false = refl

      at : (l : Level) → if_there [] (λ d m. cond z (unit d) []) (g c) l ≡ bind (if_there [] (λ d m. cond z (unit d) []) c l) (λ a. unit (g a))
      at No = refl
      at Cardinality = one z
      at Division = one z
      at Overflow = one z
      at Yes = one z

  fixed : {C : Type 0} (same : C → C → Bool) (rs : List (Row C)) (c : C) (l : Level) → if_there [] (λ d m. cond (nat_eq (multiplicity same d rs) 0) (unit d) []) c l ≡ if_there [] (λ d m. cond (nat_eq (multiplicity same c rs) 0) (unit d) []) c l
  fixed same rs c No = refl
  fixed same rs c Cardinality = refl
  fixed same rs c Division = refl
  fixed same rs c Overflow = refl
  fixed same rs c Yes = refl

  once-through : (rs : List (Row A)) → once same_b (bind rs (λ a. unit (g a))) ≡ bind (once same_a rs) (λ a. unit (g a))
  once-through [] = refl
  once-through (r ∷ rs) =
      ap₂ (λ (xs ys : List (Row B)). xs ++ ys)
      (ap (if_there [] (λ d m. cond (nat_eq (multiplicity same_b d (bind rs (λ a. unit (g a)))) 0) (unit d) []) (g r.cells)) (least-yes r.level)
      ∙ fixed same_b (bind rs (λ a. unit (g a))) (g r.cells) r.level
      ∙ ap (λ n. if_there [] (λ d m. cond (nat_eq n 0) (unit d) []) (g r.cells) r.level) (often r.cells rs)
      ∙ once-one r.cells r.level (nat_eq (multiplicity same_a r.cells rs) 0)
      ∙ ap (λ (xs : List (Row A)). bind xs (λ a. unit (g a))) (sym (fixed same_a rs r.cells r.level)))
      (once-through rs)
      ∙ sym (bind-append (if_there [] (λ d m. cond (nat_eq (multiplicity same_a d rs) 0) (unit d) []) r.cells r.level) (once same_a rs) (λ a. unit (g a)))

-- ---- tuples in two parts

taken : (xs ys : Tuple) → take (length xs) (xs ++ ys) ≡ xs
taken [] ys = refl
taken (x ∷ xs) ys = ap (λ (zs : Tuple). x ∷ zs) (taken xs ys)

left : (xs ys : Tuple) → drop (length xs) (xs ++ ys) ≡ ys
left [] ys = refl
left (x ∷ xs) ys = left xs ys

pub whole : (w : ℕ) (xs : Tuple) → take w xs ++ drop w xs ≡ xs
whole w xs = take-append-drop w xs

-- two tests of what is the same in the end
same-test : {P Q : Type 0} (x y : Bool) → Decides x P → Decides y Q → (P → Q) → (Q → P) → x ≡ y
same-test true true d e f g = refl
same-test true false d e f g = sym (e.1 (f (d.0 refl)))
same-test false true d e f g = d.1 (g (e.0 refl))
same-test false false d e f g = refl

abbrev same_parts : Tuple × Tuple → Tuple × Tuple → Bool
same_parts = same_pair same_cells same_cells

parts-decide : (a b : Tuple × Tuple) → Decides (same_parts a b) (a ≡ b)
parts-decide = pair-decides same_cells-decides same_cells-decides

same-lead : (w : ℕ) (v u a b : Tuple) → length v ≡ w → length u ≡ w → same_cells (v ++ a) (u ++ b) ≡ (same_cells v u && same_cells a b)
same-lead w v u a b lv lu = same-test (same_cells (v ++ a) (u ++ b)) (same_parts (v, a) (u, b)) (same_cells-decides (v ++ a) (u ++ b)) (parts-decide (v, a) (u, b))
    (λ e. ap₂ (λ (x y : Tuple). (x, y))
    (sym (ap (λ n. take n (v ++ a)) (sym lv) ∙ taken v a) ∙ ap (take w) e ∙ ap (λ n. take n (u ++ b)) (sym lu) ∙ taken u b)
    (sym (ap (λ n. drop n (v ++ a)) (sym lv) ∙ left v a) ∙ ap (drop w) e ∙ ap (λ n. drop n (u ++ b)) (sym lu) ∙ left u b))
    (λ e. ap (λ (p : Tuple × Tuple). p.0 ++ p.1) e)

abbrev split : ℕ → Tuple → Tuple × Tuple
split w c = (take w c, drop w c)

abbrev join : Tuple × Tuple → Tuple
join p = p.0 ++ p.1

split-apart : (w : ℕ) (a b : Tuple) → same_parts (split w a) (split w b) ≡ same_cells a b
split-apart w a b = same-test (same_parts (split w a) (split w b)) (same_cells a b) (parts-decide (split w a) (split w b)) (same_cells-decides a b)
    (λ e. sym (whole w a) ∙ ap join e ∙ whole w b)
    (λ e. ap (split w) e)

pub led-bind : {X : Type 0} (tags : Rows) (f : Tuple → Rows) (g : Tuple → List (Row X)) → bind (led tags f) g ≡ bind tags (λ u. bind (f u) (λ t. g (u ++ t)))
led-bind tags f g =
    bind-bind tags (λ u. bind (f u) (λ t. unit (u ++ t))) g
    ∙ ap (bind tags) (fun_ext (λ u. bind-bind (f u) (λ t. unit (u ++ t)) g ∙ ap (bind (f u)) (fun_ext (λ t. unit-bind (u ++ t) g))))

-- ---- groups

module _ (w : ℕ) (tags : Rows) (f : Tuple → Rows) (key : Tuple → Tuple) (made : Tuple → Rows → Tuple) (long : (tag : Tuple) → stands same_cells tag tags ≡ true → length tag ≡ w)
    (kept : (k : Tuple) (xs ys : Rows) → Agree same_cells xs ys → made k xs ≡ made k ys) where
  abbrev tags_once : Rows
  tags_once = once same_cells tags

  abbrev keys : Tuple → Rows
  keys u = bind (f u) (λ t. unit (key t))

  abbrev whole_key : Tuple → Tuple
  whole_key c = take w c ++ key (drop w c)

  -- what is given under a tag that stands there
  pub under : {X : Type 0} (f g : Tuple → List (Row X)) → ((u : Tuple) → length u ≡ w → stands same_cells u tags ≡ true → Alike (f u) (g u)) → Alike (bind tags_once f) (bind tags_once g)
  under f g h = bind-standing same_cells same_cells-decides tags_once f g (λ u s. let t = stands-once same_cells same_cells-decides u tags s in h u (long u t) t)

  pub take-lead : (u t : Tuple) → length u ≡ w → take w (u ++ t) ≡ u
  take-lead u t l = ap (λ n. take n (u ++ t)) (sym l) ∙ taken u t

  pub drop-lead : (u t : Tuple) → length u ≡ w → drop w (u ++ t) ≡ t
  drop-lead u t l = ap (λ n. drop n (u ++ t)) (sym l) ∙ left u t

  key-lead : (u t : Tuple) → length u ≡ w → whole_key (u ++ t) ≡ u ++ key t
  key-lead u t l = ap₂ (λ (x y : Tuple). x ++ key y) (take-lead u t l) (drop-lead u t l)

  keys-led : Alike (bind (led tags_once f) (λ c. unit (whole_key c))) (led tags_once keys)
  keys-led = alike-trans (alike-same (led-bind tags_once f (λ c. unit (whole_key c))))
      (under (λ u. bind (f u) (λ t. unit (whole_key (u ++ t)))) (λ u. bind (keys u) (λ k. unit (u ++ k)))
      (λ u l s. alike-same (ap (bind (f u)) (fun_ext (λ t. ap (λ (c : Tuple). unit c) (key-lead u t l) ∙ sym (unit-bind (key t) (λ k. unit (u ++ k))))) ∙ sym (bind-bind (f u) (λ t. unit (key t)) (λ k. unit (u ++ k))))))

  parts-led : (g : Tuple → Rows) → Alike (bind (led tags_once g) (λ c. unit (split w c))) (tagged tags_once g)
  parts-led g = alike-trans (alike-same (led-bind tags_once g (λ c. unit (split w c))))
      (under (λ u. bind (g u) (λ t. unit (split w (u ++ t)))) (λ u. bind (g u) (λ t. unit (u, t)))
      (λ u l s. alike-same (ap (bind (g u)) (fun_ext (λ t. ap₂ (λ (x y : Tuple). unit (x, y)) (take-lead u t l) (drop-lead u t l))))))

  joined : (rs : Rows) → bind (bind rs (λ c. unit (split w c))) (λ p. unit (join p)) ≡ rs
  joined rs =
      bind-bind rs (λ c. unit (split w c)) (λ p. unit (join p))
      ∙ ap (bind rs) (fun_ext (λ c. unit-bind (split w c) (λ p. unit (join p)) ∙ ap (λ (c : Tuple). unit c) (whole w c)))
      ∙ bind-unit rs

  once-led : Alike (once same_cells (bind (led tags_once f) (λ c. unit (whole_key c)))) (led tags_once (λ u. once same_cells (keys u)))
  once-led =
      alike-trans (once-alike same_cells same_cells-decides keys-led)
      (alike-trans (alike-same (sym (joined (once same_cells (led tags_once keys))) ∙ ap (λ (rs : List (Row (Tuple × Tuple))). bind rs (λ p. unit (join p))) (sym (once-through same_cells same_parts (split w) (split-apart w) (led tags_once keys)))))
      (alike-trans (alike-bind (alike-trans (once-alike same_parts parts-decide (parts-led keys)) (once-tagged same_cells same_cells-decides same_cells same_cells-decides tags keys)) (λ p. alike-refl (unit (join p))))
      (alike-same (tagged-bind tags_once (λ u. once same_cells (keys u)) (λ p. unit (join p))))))

  rest-of : Rows → Rows
  rest-of rs = bind rs (λ c. unit (drop w c))

  -- the rows of a group, without their tags
  group-led : (u k : Tuple) → length u ≡ w → stands same_cells u tags ≡ true → Alike (bind (of_group same_cells whole_key (u ++ k) (led tags_once f)) (λ c. unit (drop w c))) (of_group same_cells key k (f u))
  group-led u k lu s =
      alike-trans (alike-same (bind-bind (led tags_once f) (λ c. cond (same_cells (whole_key c) (u ++ k)) (unit c) []) (λ c. unit (drop w c))
      ∙ led-bind tags_once f (λ c. bind (cond (same_cells (whole_key c) (u ++ k)) (unit c) []) (λ c. unit (drop w c)))))
      (alike-trans (under (λ v. bind (f v) (λ t. bind (cond (same_cells (whole_key (v ++ t)) (u ++ k)) (unit (v ++ t)) []) (λ c. unit (drop w c))))
      (λ v. bind (f v) (λ t. bind (cond (same_parts (v, key t) (u, k)) (unit (v, t)) []) (λ p. unit p.1)))
      (λ v lv z. alike-same (ap (bind (f v)) (fun_ext (λ t.
      ap (λ (c : Tuple). bind (cond (same_cells c (u ++ k)) (unit (v ++ t)) []) (λ c. unit (drop w c))) (key-lead v t lv)
      ∙ ap (λ b. bind (cond b (unit (v ++ t)) []) (λ c. unit (drop w c))) (same-lead w v u (key t) k lv lu)
      ∙ one v t lv (same_parts (v, key t) (u, k)))))))
      (alike-trans (alike-same (sym (bind-bind (tagged tags_once f) (λ p. cond (same_parts (p.0, key p.1) (u, k)) (unit p) []) (λ p. unit p.1)
      ∙ tagged-bind tags_once f (λ p. bind (cond (same_parts (p.0, key p.1) (u, k)) (unit p) []) (λ p. unit p.1)))))
      (group-tagged same_cells same_cells-decides same_cells same_cells-decides key tags f u k (stands-some same_cells u tags s))))
    where
      one_of : Bool → Tuple → Tuple → List (Row (Tuple × Tuple))
      one_of b v t = cond b (unit (v, t)) []

      one : (v t : Tuple) → length v ≡ w → (b : Bool) → bind (cond b (unit (v ++ t)) []) (λ c. unit (drop w c)) ≡ bind (one_of b v t) (λ p. unit p.1)
      one v t lv true = unit-bind (v ++ t) (λ c. unit (drop w c)) ∙ ap (λ (c : Tuple). unit c) (drop-lead v t lv) ∙ sym (unit-bind (v, t) (λ (p : Tuple × Tuple). unit p.1))
      one v t lv false = refl

  whole_made : Tuple → Rows → Tuple
  whole_made k rows = take w k ++ made (drop w k) (bind rows (λ c. unit (drop w c)))

  pub grouped-led : Alike (grouped same_cells whole_key (λ k rows. take w k ++ made (drop w k) (bind rows (λ cells. unit (drop w cells)))) (led tags_once f)) (led tags_once (λ u. grouped same_cells key made (f u)))
  grouped-led =
      alike-trans (alike-bind once-led (λ k. alike-refl (unit (row_of k))))
      (alike-trans (alike-same (led-bind tags_once (λ u. once same_cells (keys u)) (λ k. unit (row_of k))))
      (under (λ u. bind (once same_cells (keys u)) (λ k. unit (row_of (u ++ k)))) (λ u. bind (grouped same_cells key made (f u)) (λ cells. unit (u ++ cells)))
      (λ u l s. alike-same (ap (bind (once same_cells (keys u))) (fun_ext (λ k.
      ap (λ (c : Tuple). unit c) (ap₂ (λ (x y : Tuple). x ++ made y (bind (of_group same_cells whole_key (u ++ k) (led tags_once f)) (λ c. unit (drop w c)))) (take-lead u k l) (drop-lead u k l)
      ∙ ap (λ (c : Tuple). u ++ c) (kept k (bind (of_group same_cells whole_key (u ++ k) (led tags_once f)) (λ c. unit (drop w c))) (of_group same_cells key k (f u)) (agree-from_alike same_cells (group-led u k l s))))
      ∙ sym (unit-bind (made k (of_group same_cells key k (f u))) (λ cells. unit (u ++ cells)))))
      ∙ sym (bind-bind (once same_cells (keys u)) (λ k. unit (made k (of_group same_cells key k (f u)))) (λ cells. unit (u ++ cells)))))))
    where
      row_of : Tuple → Tuple
      row_of k = take w k ++ made (drop w k) (bind (of_group same_cells whole_key k (led tags_once f)) (λ c. unit (drop w c)))

pub led-groups : LedGroups
led-groups = λ w tags f key made long kept. agree-from_alike same_cells (grouped-led w tags f key made long kept)
