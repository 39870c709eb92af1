-- What is made of the rows of a magic box before those of another.
use Rattle.std.proofs.Common.{◌≡◌, ℕ, suc, zero, ◌+◌, cond, true, List, [], ◌∷◌, ◌++◌, map, take, drop, length, Option, None, Some, refl, ap, ap₂, sym, ◌∙◌, subst, arith, eqb-true, length-append}
use Rattle.std.specs.List.{list_all}
use Rattle.std.proofs.lemmas.Bool.{eq-eqb}
use mathlib.Core.Path.{fun_ext}
use Rattle.sql_value.specs.Cells.{error_of, worst_of}
use Rattle.sql_value.specs.declared.cell.Cell.{Cell}
use Rattle.sql_value.specs.declared.cell.Kind.{Kind}
use Rattle.row_bag.specs.Aggregates.{folded}
use Rattle.row_bag.specs.AsSets.{stands}
use Rattle.row_bag.specs.Bags.{Alike, bind, unit}
use Rattle.row_bag.specs.Errors.{error_among, error_in}
use Rattle.row_bag.specs.Sets.{collapsed, distinct, error_or_bag, except, except_all, failed_cells, grouped, intersect, intersect_all, once, same_cells}
use Rattle.row_bag.specs.Tags.{led}
use Rattle.row_bag.proofs.Agreement.{alike-bind, alike-refl, alike-same, alike-sym, alike-trans}
use Rattle.row_bag.proofs.Copies.{errors-append}
use Rattle.row_bag.proofs.Counts.{agree-from_alike, alike-from_agree}
use Rattle.row_bag.proofs.Folds.{fold_map-append}
use Rattle.row_bag.proofs.SetLaws.{distinct-alike, except-alike, except_all-alike, grouped-alike, intersect-alike, intersect_all-alike}
use Rattle.row_bag.proofs.Standing.{bind-standing}
use Rattle.row_bag.proofs.TupleBags.{same_cells-decides}
use Rattle.row_bag.proofs.Worst.{worst-monoid}
use Rattle.qgm_core.specs.declared.kinds.SetOperator.{SetOperator}
use Rattle.qgm_core.specs.declared.kinds.SetOperator.TheVariants.{UnionAll, Union, IntersectAll, Intersect, ExceptAll, Except}
use Rattle.qgm_wellformed.specs.Shapes.{is_aggregate}
use Rattle.qgm_meaning.specs.Aggregated.{aggregate_of, taken_of}
use Rattle.qgm_meaning.specs.Meaning.{combined, fold_cell, grouped_rows, groups, key_cells, nothing}
use Rattle.qgm_meaning.specs.Tags.{tagged_key, tagged_row}
use Rattle.qgm_meaning.specs.Values.{Bag, Environment, bound, head_cells, row_of, value}
use Rattle.qgm_meaning.proofs.Alikes.{combined-alike, folds-alike}
use Rattle.qgm_meaning.proofs.Frames.{value-framed}
use Rattle.qgm_meaning.proofs.Tags.{groups-tagged}
use Rattle.qgm_props.proofs.EachClean.{clean-each}
use Rattle.qgm_props.proofs.Folds.{clean-among, none-among}
use Rattle.qgm_props.proofs.Rows.{clean-bind, each-bind, occurs-each}
use Rattle.qgm_terms.specs.Terms.{Term, int, text, null_int, null_text, col, scalar, both, minus_of, choose, count_all, fold}
use Rattle.rule_magic.specs.Boxes.{keyed}
use Rattle.rule_magic.specs.Own.{AllOwn, OfOwn}
use Rattle.rule_magic.specs.UnderTags.{AreTags, DistinctUnderTags, KeyedGroupsUnderTags, NoneAmong, SetsUnderTags}
use Rattle.qgm_meaning.proofs.LedSets.{Tuple, appended-led, distinct-led, drop-lead, take-lead, except-led, except_all-led, intersect-led, intersect_all-led, union-led}
use Rattle.rule_magic.proofs.TaggedKeys.{grouped-behind, key-behind, own-first, own-rest, own-take, own-drop}
use Rattle.rule_magic.proofs.TaggedWidths.{led-wide, wide-stands}

-- ---- errors

pub worst-nones : (a b : Option Kind) → a ≡ None → b ≡ None → worst_of a b ≡ None
worst-nones None b e f = f
worst-nones (Some k) b e f = absurd (let z : ⊥ = cc in z)

pub none-in_both : (xs ys : Tuple) → error_in xs ≡ None → error_in ys ≡ None → error_in (xs ++ ys) ≡ None
none-in_both xs ys e f = fold_map-append worst-monoid (λ (c : Cell). error_of c) xs ys ∙ worst-nones (error_in xs) (error_in ys) e f

pub uncollapsed : (w : ℕ) (o : Option Kind) (rows : Bag) → o ≡ None → error_or_bag (failed_cells w) o rows ≡ rows
uncollapsed w o rows h = ap (λ (o : Option Kind). error_or_bag (failed_cells w) o rows) h

-- ---- tags

module _ (w : ℕ) (tags : Bag) (are : AreTags w tags) where
  pub long : (u : Tuple) → stands same_cells u tags ≡ true → length u ≡ w
  long u s = wide-stands w tags are.wide u s

  pub tags-once : Alike tags (once same_cells tags)
  tags-once = alike-from_agree same_cells same_cells-decides are.each_once

  pub to-once : (f : Tuple → Bag) → Alike (led tags f) (led (once same_cells tags) f)
  to-once f = alike-bind tags-once (λ u. alike-refl (bind (f u) (λ t. unit (u ++ t))))

  -- under the tags that stand there
  pub led-standing : (f g : Tuple → Bag) → ((u : Tuple) → stands same_cells u tags ≡ true → Alike (f u) (g u)) → Alike (led tags f) (led tags g)
  led-standing f g h = bind-standing same_cells same_cells-decides tags (λ u. bind (f u) (λ t. unit (u ++ t))) (λ u. bind (g u) (λ t. unit (u ++ t))) (λ u s. alike-bind (h u s) (λ t. alike-refl (unit (u ++ t))))

  -- tagged rows of which none is an error by a test, which under each tag is none
  pub none-led : (held : Tuple → Option Kind) (f : Tuple → Bag) (held' : Tuple → Tuple → Option Kind) → ((u : Tuple) → stands same_cells u tags ≡ true → error_among (held' u) (f u) ≡ None)
      → ((u t : Tuple) → stands same_cells u tags ≡ true → stands same_cells t (f u) ≡ true → held' u t ≡ None → held (u ++ t) ≡ None) → error_among held (led tags f) ≡ None
  none-led held f held' h k = none-among held (led tags f)
      (clean-bind tags (λ u. bind (f u) (λ t. unit (u ++ t))) (clean-each tags are.clean) (λ u s. clean-bind (f u) (λ t. unit (u ++ t)) (clean-among (held' u) (f u) (h u s)).0 (λ t z. (refl, tt))))
      (each-bind (λ c. held c ≡ None) tags (λ u. bind (f u) (λ t. unit (u ++ t))) (λ u s. each-bind (λ c. held c ≡ None) (f u) (λ t. unit (u ++ t)) (λ t z.
      ((λ (y : true ≡ true). k u t s z (occurs-each (λ c. held' u c ≡ None) (f u) (clean-among (held' u) (f u) (h u s)).1 t z)), tt))))

  -- ---- DISTINCT

  pub distinct-under : (f : Tuple → Bag) → Alike (distinct same_cells (led tags f)) (led tags (λ u. distinct same_cells (f u)))
  distinct-under f =
      alike-trans (distinct-alike same_cells same_cells-decides (to-once f))
      (alike-trans (distinct-led w tags long f) (alike-sym (to-once (λ u. distinct same_cells (f u)))))

  -- ---- set operations

  none-both : (n m : ℕ) (xs ys : Tuple → Bag) → ((u : Tuple) → stands same_cells u tags ≡ true → error_among error_in (xs u ++ ys u) ≡ None) → error_among error_in (led tags xs ++ led tags ys) ≡ None
  none-both n m xs ys h =
      let left : (u : Tuple) → stands same_cells u tags ≡ true → error_among error_in (xs u) ≡ None = λ u s. (worst-parts (error_among error_in (xs u)) (error_among error_in (ys u)) (sym (both-errors (xs u) (ys u)) ∙ h u s)).0 in
      let right : (u : Tuple) → stands same_cells u tags ≡ true → error_among error_in (ys u) ≡ None = λ u s. (worst-parts (error_among error_in (xs u)) (error_among error_in (ys u)) (sym (both-errors (xs u) (ys u)) ∙ h u s)).1 in
      both-errors (led tags xs) (led tags ys)
      ∙ worst-nones (error_among error_in (led tags xs)) (error_among error_in (led tags ys))
      (none-led error_in xs (λ u t. error_in t) left (λ u t s z e. none-in_both u t (are.sound u s) e))
      (none-led error_in ys (λ u t. error_in t) right (λ u t s z e. none-in_both u t (are.sound u s) e))
    where
      both-errors : (us vs : Bag) → error_among error_in (us ++ vs) ≡ worst_of (error_among error_in us) (error_among error_in vs)
      both-errors us vs = errors-append us vs

      worst-parts : (a b : Option Kind) → worst_of a b ≡ None → (a ≡ None) × (b ≡ None)
      worst-parts None b e = (refl, e)
      worst-parts (Some j) None e = absurd (let z : ⊥ = cc in z)
      worst-parts (Some j) (Some k) e = absurd (let z : ⊥ = cc in z)

  module _ (n m : ℕ) (xs ys : Tuple → Bag) where
    -- an operation that isn't collapsed
    opened : (op : Bag → Bag → Bag) → ((xs ys cs ds : Bag) → Alike xs cs → Alike ys ds → Alike (op xs ys) (op cs ds))
        → ((fs gs : Tuple → Bag) → Alike (op (led (once same_cells tags) fs) (led (once same_cells tags) gs)) (led (once same_cells tags) (λ u. op (fs u) (gs u))))
        → ((u : Tuple) → stands same_cells u tags ≡ true → error_among error_in (xs u ++ ys u) ≡ None)
        → Alike (collapsed error_in (failed_cells m) (led tags xs ++ led tags ys) (op (led tags xs) (led tags ys))) (led tags (λ u. collapsed error_in (failed_cells n) (xs u ++ ys u) (op (xs u) (ys u))))
    opened op keeps under h =
        alike-trans (alike-same (uncollapsed m (error_among error_in (led tags xs ++ led tags ys)) (op (led tags xs) (led tags ys)) (none-both n m xs ys h)))
        (alike-trans (keeps (led tags xs) (led tags ys) (led (once same_cells tags) xs) (led (once same_cells tags) ys) (to-once xs) (to-once ys))
        (alike-trans (under xs ys)
        (alike-trans (alike-sym (to-once (λ u. op (xs u) (ys u))))
        (led-standing (λ u. op (xs u) (ys u)) (λ u. collapsed error_in (failed_cells n) (xs u ++ ys u) (op (xs u) (ys u)))
        (λ u s. alike-same (sym (uncollapsed n (error_among error_in (xs u ++ ys u)) (op (xs u) (ys u)) (h u s))))))))

    pub combined-under : (form : SetOperator) → ((u : Tuple) → stands same_cells u tags ≡ true → NoneAmong form (xs u) (ys u)) → Alike (combined form m (led tags xs) (led tags ys)) (led tags (λ u. combined form n (xs u) (ys u)))
    combined-under UnionAll h =
        alike-trans (combined-alike UnionAll m (to-once xs) (to-once ys)) (alike-trans (appended-led w tags long xs ys) (alike-sym (to-once (λ u. xs u ++ ys u))))
    combined-under Union h =
        alike-trans (combined-alike Union m (to-once xs) (to-once ys)) (alike-trans (union-led w tags long xs ys) (alike-sym (to-once (λ u. combined Union n (xs u) (ys u)))))
    combined-under IntersectAll h = opened (λ xs ys. intersect_all same_cells xs ys) (λ xs ys cs ds a b. intersect_all-alike same_cells same_cells-decides a b) (intersect_all-led w tags long) h
    combined-under Intersect h = opened (λ xs ys. intersect same_cells xs ys) (λ xs ys cs ds a b. intersect-alike same_cells same_cells-decides a b) (intersect-led w tags long) h
    combined-under ExceptAll h = opened (λ xs ys. except_all same_cells xs ys) (λ xs ys cs ds a b. except_all-alike same_cells same_cells-decides a b) (except_all-led w tags long) h
    combined-under Except h = opened (λ xs ys. except same_cells xs ys) (λ xs ys cs ds a b. except-alike same_cells same_cells-decides a b) (except-led w tags long) h

-- ---- groups go by their own quantifier alone

module _ (q : ℕ) where
  same-own : (x : Term) → OfOwn q x → (cells : Tuple) (d e : Environment) → value nothing x (bound q cells d) ≡ value nothing x (bound q cells e)
  same-own x h cells d e = value-framed nothing x (bound q cells d) (bound q cells e) (record { rows = λ r t. own-either r cells d e (eqb-true r q (h.own r t)) })
    where
      own-either : (r : ℕ) (cells : Tuple) (d e : Environment) → r ≡ q → row_of r (bound q cells d) ≡ row_of r (bound q cells e)
      own-either r cells d e i = subst (λ z. row_of z (bound q cells d) ≡ row_of z (bound q cells e)) (sym i) (ap (λ b. cond b cells (row_of q d)) (eq-eqb q q refl) ∙ sym (ap (λ b. cond b cells (row_of q e)) (eq-eqb q q refl)))

  heads-own : (xs : List Term) → AllOwn q xs → (cells : Tuple) (d e : Environment) → head_cells nothing xs (bound q cells d) ≡ head_cells nothing xs (bound q cells e)
  heads-own [] h cells d e = refl
  heads-own (x ∷ xs) h cells d e = ap₂ (λ (c : Cell) (cs : Tuple). c ∷ cs) (same-own x (own-first q x xs h) cells d e) (heads-own xs (own-rest q x xs h) cells d e)

  fold-own : (x : Term) → OfOwn q x → (rows : Bag) (d e : Environment) → fold_cell q d rows x ≡ fold_cell q e rows x
  fold-own (int n) h rows d e = refl
  fold-own (text s) h rows d e = refl
  fold-own null_int h rows d e = refl
  fold-own null_text h rows d e = refl
  fold-own (col r k) h rows d e = refl
  fold-own (scalar r) h rows d e = refl
  fold-own (both o x y) h rows d e = refl
  fold-own (minus_of x) h rows d e = refl
  fold-own (choose s x) h rows d e = refl
  fold-own count_all h rows d e = refl
  fold-own (fold f t x) h rows d e = ap (λ (g : Tuple → Cell). folded (aggregate_of f) (taken_of t) (bind rows (λ c. unit (g c))))
      (fun_ext (λ cells. same-own x (record { own = h.own; unbound = h.unbound }) cells d e))

  folds-own : (xs : List Term) → AllOwn q xs → (rows : Bag) (d e : Environment) → map (fold_cell q d rows) xs ≡ map (fold_cell q e rows) xs
  folds-own [] h rows d e = refl
  folds-own (x ∷ xs) h rows d e = ap₂ (λ (c : Cell) (cs : Tuple). c ∷ cs) (fold-own x (own-first q x xs h) rows d e) (folds-own xs (own-rest q x xs h) rows d e)

  pub keys-own : (k : ℕ) (head : List Term) → AllOwn q head → (d e : Environment) → key_cells k head q d ≡ key_cells k head q e
  keys-own k head h d e = fun_ext (λ cells. heads-own (take k head) (own-take q k head h) cells d e)

  pub groups-own : (k : ℕ) (head : List Term) → AllOwn q head → (rows : Bag) (d e : Environment) → groups k head q d rows ≡ groups k head q e rows
  groups-own zero head h rows d e = ap (λ (c : Tuple). unit c) (folds-own (drop 0 head) (own-drop q 0 head h) rows d e)
  groups-own (suc k) head h rows d e =
      ap₂ (λ (key : Tuple → Tuple) (f : Bag → Tuple). grouped same_cells key (λ c members. c ++ f members) rows) (keys-own (suc k) head h d e) (fun_ext (λ rows. folds-own (drop (suc k) head) (own-drop q (suc k) head h) rows d e))

-- ---- groups with keys

pub keyed-under : KeyedGroupsUnderTags
keyed-under = λ w v q p k head tags f d e are wide own folds none. agree-from_alike same_cells (
    let n : ℕ = w + k in
    let count : suc n ≡ w + suc k = omega arith in
    let none' : error_among (λ cells. error_in (key_cells (suc n) (keyed q p w v head) p d cells)) (led tags f) ≡ None = none-led w tags are (λ cells. error_in (key_cells (suc n) (keyed q p w v head) p d cells)) f (λ u t. error_in (key_cells (suc k) head q (e u) t)) none
    (λ u t s z h. ap error_in (key-lead w v q p k n head own folds count d (e u) u t (long w tags are u s) (wide-stands v (f u) (wide u) t z)) ∙ none-in_both u (key_cells (suc k) head q (e u) t) (are.sound u s) h) in
    alike-trans (alike-same (ap (λ i. grouped_rows i (keyed q p w v head) p d (led tags f)) (sym count) ∙ uncollapsed (length (keyed q p w v head)) (error_among (λ cells. error_in (key_cells (suc n) (keyed q p w v head) p d cells)) (led tags f)) (groups (suc n) (keyed q p w v head) p d (led tags f)) none'
    ∙ grouped-behind w v q p head own (suc k) folds (suc n) count d d (led tags f) (led-wide w v tags f are.wide wide)))
    (alike-trans (grouped-alike same_cells same_cells-decides (tagged_key w (suc k) head q d) (tagged_row w (suc k) head q d) (tagged-kept w k head q d) (to-once w tags are f))
    (alike-trans (alike-from_agree same_cells same_cells-decides (groups-tagged w tags f k head q d (long w tags are)))
    (alike-trans (alike-sym (to-once w tags are (λ u. groups (suc k) head q d (f u))))
    (led-standing w tags are (λ u. groups (suc k) head q d (f u)) (λ u. grouped_rows (suc k) head q (e u) (f u)) (λ u s.
    alike-same (groups-own q (suc k) head own (f u) d (e u) ∙ sym (uncollapsed (length head) (error_among (λ cells. error_in (key_cells (suc k) head q (e u) cells)) (f u)) (groups (suc k) head q (e u) (f u)) (none u s)))))))))
  where
    tagged-kept : (w k : ℕ) (head : List Term) (q : ℕ) (d : Environment) (key : Tuple) (xs ys : Bag) → Alike xs ys → tagged_row w (suc k) head q d key xs ≡ tagged_row w (suc k) head q d key ys
    tagged-kept w k head q d key xs ys h = ap (λ (c : Tuple). take w key ++ (drop w key ++ c)) (folds-alike q d (drop (suc k) head) (alike-bind h (λ c. alike-refl (unit (drop w c)))))

    key-lead : (w v q p k n : ℕ) (head : List Term) (own : AllOwn q head) (folds : list_all is_aggregate (drop (suc k) head) ≡ true) (count : suc n ≡ w + suc k) (d e : Environment) (u t : Tuple) → length u ≡ w → length t ≡ v
        → key_cells (suc n) (keyed q p w v head) p d (u ++ t) ≡ u ++ key_cells (suc k) head q e t
    key-lead w v q p k n head own folds count d e u t lu lt =
        key-behind w v q p head own (suc k) folds (suc n) count d e (u ++ t) (let a = length-append u t in omega (arith, a, lu, lt))
        ∙ ap₂ (λ (x y : Tuple). x ++ key_cells (suc k) head q e y) (take-lead w u t lu) (drop-lead w u t lu)

pub distinct-tags : DistinctUnderTags
distinct-tags = λ w tags f are. agree-from_alike same_cells (distinct-under w tags are f)

pub sets-tags : SetsUnderTags
sets-tags = λ w n m form tags xs ys are none. agree-from_alike same_cells (combined-under w tags are n m xs ys form none)
