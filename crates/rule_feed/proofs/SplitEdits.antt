-- Edits of a graph whose boxes stand above and below one.
use Rattle.std.proofs.Common.{ℕ, suc, ◌==◌, ◌≡◌, ◌≤◌, ◌+◌, ◌||◌, cond, not, Bool, true, false, List, [], ◌∷◌, ◌++◌, map, filter, insert, length, Option, Some, refl, sym, ap, ap₂, subst, ◌∙◌, eqb-true, inl, inr, arith}
use Rattle.std.specs.Prelude.{⊤}
use Rattle.std.specs.List.{list_any}
use Rattle.std.proofs.lemmas.Bool.{cases_Bool, eq-eqb, or_parts}
use Rattle.qgm_terms.specs.Terms.{Term}
use Rattle.qgm_core.specs.Boxes.{QueryGraph, is_box, is_quant, numbers, owns, put_below, quants_in, quants_of, range_in}
use Rattle.qgm_core.specs.Edits.{drop_quant, move_quant, on_boxes, put_cells, put_range, put_range_found, without_quant}
use Rattle.list_laws.specs.Lists.{EachOnce, In, change, first, holds, times, without}
use Rattle.qgm_core.specs.declared.node.Node.{Node}
use Rattle.qgm_core.specs.declared.owned.OwnedQuant.{OwnedQuant}
use Rattle.qgm_meaning.specs.Tags.{columns_from}
use Rattle.qgm_edit_laws.proofs.Levels.{some-in}
use Rattle.qgm_edit_laws.proofs.OneBoxSteps.{insert-last, without-left}
use Rattle.rule_feed.specs.FeedSteps.{moved_all, put_each, put_in, put_in_all, renamed_all}
use Rattle.rule_feed.specs.Turn.{before_first, failing, from_first}
use Rattle.rule_feed.proofs.FeedEditSteps.{holds-one, put-id, put-next}
use Rattle.rule_feed.proofs.SplitSteps.{put_all}
use Rattle.list_laws.proofs.Booleans.{clash}
use Rattle.list_laws.proofs.Membership.{any-from, append-one, eq-itself}

-- ---- the first that passes, behind others that don't

pub first-here : (t : Node → Bool) (above : List Node) (n : Node) (below : List Node) → list_any t above ≡ false → t n ≡ true → first t (above ++ n ∷ below) ≡ Some n
first-here t [] n below h e = ap (λ c. cond c (Some n) (first t below)) e
first-here t (x ∷ above) n below h e = let o = or_parts (t x) (list_any t above) h in ap (λ c. cond c (Some x) (first t (above ++ n ∷ below))) o.0 ∙ first-here t above n below o.1 e

pub change-here : (t : Node → Bool) (f : Node → Node) (above : List Node) (n : Node) (below : List Node) → list_any t above ≡ false → t n ≡ true → change t f (above ++ n ∷ below) ≡ above ++ f n ∷ below
change-here t f [] n below h e = ap (λ c. cond c (f n ∷ below) (n ∷ change t f below)) e
change-here t f (x ∷ above) n below h e =
    let o = or_parts (t x) (list_any t above) h in ap (λ c. cond c (f x ∷ (above ++ n ∷ below)) (x ∷ change t f (above ++ n ∷ below))) o.0 ∙ ap (λ z. x ∷ z) (change-here t f above n below o.1 e)

pub put-here : (t : Node → Bool) (s : Node) (above : List Node) (n : Node) (below : List Node) → list_any t above ≡ false → t n ≡ true → put_below t s (above ++ n ∷ below) ≡ above ++ n ∷ (s ∷ below)
put-here t s [] n below h e = ap (λ c. cond c (n ∷ (s ∷ below)) (n ∷ put_below t s below)) e
put-here t s (x ∷ above) n below h e =
    let o = or_parts (t x) (list_any t above) h in ap (λ c. cond c (x ∷ (s ∷ (above ++ n ∷ below))) (x ∷ put_below t s (above ++ n ∷ below))) o.0 ∙ ap (λ z. x ∷ z) (put-here t s above n below o.1 e)

-- one box further
pub change-next : (t : Node → Bool) (f : Node → Node) (above : List Node) (n m : Node) (below : List Node) → list_any t above ≡ false → t n ≡ false → t m ≡ true → change t f (above ++ n ∷ (m ∷ below)) ≡ above ++ n ∷ (f m ∷ below)
change-next t f [] n m below h e k = ap (λ c. cond c (f n ∷ (m ∷ below)) (n ∷ change t f (m ∷ below))) e ∙ ap (λ c. n ∷ cond c (f m ∷ below) (m ∷ change t f below)) k
change-next t f (x ∷ above) n m below h e k =
    let o = or_parts (t x) (list_any t above) h in ap (λ c. cond c (f x ∷ (above ++ n ∷ (m ∷ below))) (x ∷ change t f (above ++ n ∷ (m ∷ below)))) o.0 ∙ ap (λ z. x ∷ z) (change-next t f above n m below o.1 e k)

first-next : (t : Node → Bool) (above : List Node) (n m : Node) (below : List Node) → list_any t above ≡ false → t n ≡ false → t m ≡ true → first t (above ++ n ∷ (m ∷ below)) ≡ Some m
first-next t [] n m below h e k = ap (λ c. cond c (Some n) (first t (m ∷ below))) e ∙ ap (λ c. cond c (Some m) (first t below)) k
first-next t (x ∷ above) n m below h e k = let o = or_parts (t x) (list_any t above) h in ap (λ c. cond c (Some x) (first t (above ++ n ∷ (m ∷ below)))) o.0 ∙ first-next t above n m below o.1 e k

-- ---- quantifiers that go, one after the other

abbrev pub less : List OwnedQuant → List OwnedQuant → List OwnedQuant
less [] rs = rs
less (p ∷ ps) rs = less ps (without (is_quant p.id) rs)

-- each is there when it goes
abbrev pub There : List OwnedQuant → List OwnedQuant → Type 0
There [] rs = ⊤
There (p ∷ ps) rs = (first (is_quant p.id) rs ≡ Some p) × There ps (without (is_quant p.id) rs)

pub times-both : (z : ℕ) (xs ys : List OwnedQuant) → times z (map (λ (r : OwnedQuant). r.id) (xs ++ ys)) ≡ times z (map (λ (r : OwnedQuant). r.id) xs) + times z (map (λ (r : OwnedQuant). r.id) ys)
times-both z [] ys = omega arith
times-both z (x ∷ xs) ys = let h = times-both z xs ys in omega arith

none-before : (pre : List OwnedQuant) (x : OwnedQuant) (xs : List OwnedQuant) → times x.id (map (λ (r : OwnedQuant). r.id) (pre ++ x ∷ xs)) ≤ 1 → list_any (is_quant x.id) pre ≡ false
none-before [] x xs h = refl
none-before (y ∷ pre) x xs h = elim (cases_Bool (y.id == x.id)) [
  | inr e ↦ ap₂ (λ (a b : Bool). a || b) e (none-before pre x xs (omega arith))
  | inl e ↦ absurd (
      let a : ◌≡◌ {A = ℕ} (cond (y.id == x.id) 1 0) 1 = ap (λ b. cond {A = ℕ} b 1 0) e in
      let b = times-both x.id pre (x ∷ xs) in
      let c : ◌≡◌ {A = ℕ} (cond (x.id == x.id) 1 0) 1 = ap (λ b. cond {A = ℕ} b 1 0) (eq-itself x.id) in omega arith)
]

first-quant : (pre : List OwnedQuant) (x : OwnedQuant) (xs : List OwnedQuant) → list_any (is_quant x.id) pre ≡ false → first (is_quant x.id) (pre ++ x ∷ xs) ≡ Some x
first-quant [] x xs h = ap (λ c. cond c (Some x) (first (is_quant x.id) xs)) (eq-itself x.id)
first-quant (y ∷ pre) x xs h = let o = or_parts (y.id == x.id) (list_any (is_quant x.id) pre) h in ap (λ c. cond c (Some y) (first (is_quant x.id) (pre ++ x ∷ xs))) o.0 ∙ first-quant pre x xs o.1

pub less-is : (t : OwnedQuant → Bool) (pre from : List OwnedQuant) → ((z : ℕ) → times z (map (λ (r : OwnedQuant). r.id) (pre ++ from)) ≤ 1) → (less (filter t from) (pre ++ from) ≡ pre ++ failing t from) × There (filter t from) (pre ++ from)
less-is t pre [] h = (refl, tt)
less-is t pre (x ∷ xs) h = elim (cases_Bool (t x)) [
  | inl e ↦ (
      let none = none-before pre x xs (h x.id) in
      let gone : without (is_quant x.id) (pre ++ x ∷ xs) ≡ pre ++ xs = without-left x.id pre x xs none (eq-itself x.id) in
      let rec = less-is t pre xs (λ z. (let a = h z in let b = times-both z pre (x ∷ xs) in let c = times-both z pre xs in omega arith)) in
      let f : filter t (x ∷ xs) ≡ x ∷ filter t xs = ap (λ b. cond b (x ∷ filter t xs) (filter t xs)) e in
      let k : failing t (x ∷ xs) ≡ failing t xs = ap (λ b. cond (not b) (x ∷ failing t xs) (failing t xs)) e in (
        ap (λ ps. less ps (pre ++ x ∷ xs)) f ∙ ap (less (filter t xs)) gone ∙ rec.0 ∙ ap (λ z. pre ++ z) (sym k),
        subst (λ ps. There ps (pre ++ x ∷ xs)) (sym f) (first-quant pre x xs none, subst (λ z. There (filter t xs) z) (sym gone) rec.1),
      ))
  | inr e ↦ (
      let rec = less-is t (pre ++ x ∷ []) xs (λ z. subst (λ l. times z (map (λ (r : OwnedQuant). r.id) l) ≤ 1) (sym (append-one pre x xs)) (h z)) in
      let f : filter t (x ∷ xs) ≡ filter t xs = ap (λ b. cond b (x ∷ filter t xs) (filter t xs)) e in
      let k : failing t (x ∷ xs) ≡ x ∷ failing t xs = ap (λ b. cond (not b) (x ∷ failing t xs) (failing t xs)) e in (
        ap (λ ps. less ps (pre ++ x ∷ xs)) f ∙ ap (less (filter t xs)) (sym (append-one pre x xs)) ∙ rec.0 ∙ append-one pre x (failing t xs) ∙ ap (λ z. pre ++ z) (sym k),
        subst (λ ps. There ps (pre ++ x ∷ xs)) (sym f) (subst (λ z. There (filter t xs) z) (append-one pre x xs) rec.1),
      ))
]

pub insert-before : (t : OwnedQuant → Bool) (r : OwnedQuant) (rs : List OwnedQuant) → insert rs (length (before_first t rs)) r ≡ before_first t rs ++ r ∷ from_first t rs
insert-before t r [] = refl
insert-before t r (x ∷ rs) = elim (t x) as (λ b. insert (x ∷ rs) (length (cond b [] (x ∷ before_first t rs))) r ≡ cond b [] (x ∷ before_first t rs) ++ r ∷ cond b (x ∷ rs) (from_first t rs)) [
  | true ↦ refl
  | false ↦ ap (λ z. x ∷ z) (insert-before t r rs)
]

-- ---- quantifiers of box b move to box s just below it

module _ (g : QueryGraph) (above below : List Node) (b s : Node) (apart : (b.id == s.id) ≡ false) (new : list_any (is_box s.id) above ≡ false) where
  abbrev with_b : List OwnedQuant → Node
  with_b qs = record b { quants = qs }

  abbrev with_s : List OwnedQuant → Node
  with_s qs = record s { quants = qs }

  abbrev at : List OwnedQuant → List OwnedQuant → QueryGraph
  at qs ds = record g { boxes = above ++ with_b qs ∷ (with_s ds ∷ below) }

  move-one : (p : OwnedQuant) (qs ds : List OwnedQuant) → list_any (owns p.id) above ≡ false → first (is_quant p.id) qs ≡ Some p
      → move_quant p.id s.id (length (quants_of s.id (drop_quant p.id (at qs ds)))) (at qs ds) ≡ at (without (is_quant p.id) qs) (ds ++ p ∷ [])
  move-one p qs ds out there =
      ap (λ n. move_quant p.id s.id n (at qs ds)) last
      ∙ ap (λ (z : List Node). record g { boxes = z }) (
      ap₂ (λ (o : Option OwnedQuant) (z : List Node). put_range_found s.id (length ds) o z)
      (ap (range_in p.id) (first-here (owns p.id) above (with_b qs) (with_s ds ∷ below) out own) ∙ there) dropped
      ∙ change-next (is_box s.id) (put_range (length ds) p) above (with_b (without (is_quant p.id) qs)) (with_s ds) below new apart (eq-itself s.id)
      ∙ ap (λ z. above ++ with_b (without (is_quant p.id) qs) ∷ (with_s z ∷ below)) (insert-last ds p))
    where
      own : owns p.id (with_b qs) ≡ true
      own = by qs there
        where
          by : (rs : List OwnedQuant) → first (is_quant p.id) rs ≡ Some p → list_any (is_quant p.id) rs ≡ true
          by rs h = (let i = some-in (is_quant p.id) rs p h in any-from (is_quant p.id) p rs i.0 i.1)

      dropped : change (owns p.id) (without_quant p.id) (above ++ with_b qs ∷ (with_s ds ∷ below)) ≡ above ++ with_b (without (is_quant p.id) qs) ∷ (with_s ds ∷ below)
      dropped = change-here (owns p.id) (without_quant p.id) above (with_b qs) (with_s ds ∷ below) out own

      last : length (quants_of s.id (drop_quant p.id (at qs ds))) ≡ length ds
      last = ap (λ z. length (quants_in (first (is_box s.id) z))) dropped ∙ ap (λ z. length (quants_in z)) (first-next (is_box s.id) above (with_b (without (is_quant p.id) qs)) (with_s ds) below new apart (eq-itself s.id))

  pub moves : (ps qs ds : List OwnedQuant) → ((p : OwnedQuant) → In p ps → list_any (owns p.id) above ≡ false) → There ps qs → moved_all s.id ps (at qs ds) ≡ at (less ps qs) (ds ++ ps)
  moves [] qs ds out there = ap (at qs) (sym (end ds))
    where
      end : (xs : List OwnedQuant) → xs ++ [] ≡ xs
      end [] = refl
      end (x ∷ xs) = ap (λ z. x ∷ z) (end xs)
  moves (p ∷ ps) qs ds out there =
      ap (moved_all s.id ps) (move-one p qs ds (out p (inl refl)) there.0)
      ∙ moves ps (without (is_quant p.id) qs) (ds ++ p ∷ []) (λ x i. out x (inr i)) there.1
      ∙ ap (at (less ps (without (is_quant p.id) qs))) (append-one ds p ps)

-- ---- cells put in, box by box

module _ (q : ℕ) (cells : List Term) where
  put-from : (ids done : List ℕ) (g : QueryGraph) → EachOnce ids → ((b : ℕ) → In b ids → holds b done ≡ false) → EachOnce (numbers g.boxes) → put_each ids q cells (put_in_all done q cells g) ≡ put_in_all (done ++ ids) q cells g
  put-from [] done g o h u = ap (λ z. put_in_all z q cells g) (sym (end done))
    where
      end : (xs : List ℕ) → xs ++ [] ≡ xs
      end [] = refl
      end (x ∷ xs) = ap (λ z. x ∷ z) (end xs)
  put-from (b ∷ ids) done g o h u =
      ap (put_each ids q cells) (put-next q cells done b g u (h b (inl refl)))
      ∙ put-from ids (done ++ b ∷ []) g o.1 (λ x i. holds-one q cells x done b ∙ ap₂ (λ (c d : Bool). c || d) (h x (inr i)) (elim (cases_Bool (b == x)) [
        | inr e ↦ e
        | inl e ↦ absurd (let z : holds b ids ≡ true = any-from (λ (m : ℕ). m == b) x ids i (eq-eqb x b (sym (eqb-true b x e))) in clash (holds b ids) z o.0)
      ])) u
      ∙ ap (λ z. put_in_all z q cells g) (append-one done b ids)

  no-ids : (ns : List Node) → map (put_in [] q cells) ns ≡ ns
  no-ids [] = refl
  no-ids (n ∷ ns) = ap (λ z. n ∷ z) (no-ids ns)

  pub put-each-is : (ids : List ℕ) (g : QueryGraph) → EachOnce ids → EachOnce (numbers g.boxes) → put_each ids q cells g ≡ put_in_all ids q cells g
  put-each-is ids g o u = ap (λ (z : List Node). put_each ids q cells (record g { boxes = z })) (sym (no-ids g.boxes)) ∙ put-from ids [] g o (λ b i. refl) u

  pub numbers-put : (ids : List ℕ) (ns : List Node) → numbers (map (put_in ids q cells) ns) ≡ numbers ns
  numbers-put ids [] = refl
  numbers-put ids (n ∷ ns) = ap₂ (λ (x : ℕ) (xs : List ℕ). x ∷ xs) (put-id q cells ids n) (numbers-put ids ns)

-- what becomes of a box
abbrev pub renamed_in : List ℕ → ℕ → ℕ → List (ℕ × ℕ) → Node → Node
renamed_in ids q n ws y = cond (holds y.id ids) (put_all q n ws y) y

pub renamed-is : (ids : List ℕ) (q n : ℕ) (ws : List (ℕ × ℕ)) (g : QueryGraph) → EachOnce ids → EachOnce (numbers g.boxes) → renamed_all ids q n ws g ≡ on_boxes (map (renamed_in ids q n ws)) g
renamed-is ids q n [] g o u = ap (λ (z : List Node). record g { boxes = z }) (sym (as-is g.boxes))
  where
    as-is : (ns : List Node) → map (renamed_in ids q n []) ns ≡ ns
    as-is [] = refl
    as-is (y ∷ ns) = ap₂ (λ (x : Node) (xs : List Node). x ∷ xs) (elim (holds y.id ids) as (λ c. cond c y y ≡ y) [ true ↦ refl | false ↦ refl ]) (as-is ns)
renamed-is ids q n (w ∷ ws) g o u =
    ap (renamed_all ids q (n + w.1) ws) (put-each-is w.0 (columns_from q (suc n) w.1) ids g o u)
    ∙ renamed-is ids q (n + w.1) ws (put_in_all ids w.0 (columns_from q (suc n) w.1) g) o (subst EachOnce (sym (numbers-put w.0 (columns_from q (suc n) w.1) ids g.boxes)) u)
    ∙ ap (λ (z : List Node). record g { boxes = z }) (both g.boxes)
  where
    both : (ns : List Node) → map (renamed_in ids q (n + w.1) ws) (map (put_in ids w.0 (columns_from q (suc n) w.1)) ns) ≡ map (renamed_in ids q n (w ∷ ws)) ns
    both [] = refl
    both (y ∷ ns) = ap₂ (λ (x : Node) (xs : List Node). x ∷ xs) (elim (cases_Bool (holds y.id ids)) [
      | inl e ↦ (
          let now = ap (λ c. cond c (put_cells w.0 (columns_from q (suc n) w.1) y) y) e in
          ap (renamed_in ids q (n + w.1) ws) now ∙ ap (λ c. cond c (put_all q (n + w.1) ws (put_cells w.0 (columns_from q (suc n) w.1) y)) (put_cells w.0 (columns_from q (suc n) w.1) y)) e
          ∙ sym (ap (λ c. cond c (put_all q n (w ∷ ws) y) y) e))
      | inr e ↦ (
          let now = ap (λ c. cond c (put_cells w.0 (columns_from q (suc n) w.1) y) y) e in
          ap (renamed_in ids q (n + w.1) ws) now ∙ ap (λ c. cond c (put_all q (n + w.1) ws y) y) e ∙ sym (ap (λ c. cond c (put_all q n (w ∷ ws) y) y) e))
    ]) (both ns)
