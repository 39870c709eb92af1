-- Boxes that are visited, by the place at which they stand.
use Rattle.std.proofs.Common.{◌≡◌, ℕ, zero, suc, ◌==◌, ◌<◌, ◌≤◌, ◌+◌, ◌-◌, ◌++◌, Bool, true, false, List, [], ◌∷◌, Some, None, length, drop, get_or, refl, sym, ap, ◌∙◌, arith, cond, position, inl, inr, map, add-one, subst, eqb-true}
use Rattle.std.proofs.Math.Seq.{drop-append_seam, drop-cons}
use Rattle.std.proofs.lemmas.List.{append_assoc, append-nil}
use Rattle.std.proofs.lemmas.Bool.{cases_Bool, or_from, or_parts}
use Rattle.std.proofs.lemmas.List.Quantifiers.{position-Some}
use Rattle.std.specs.List.{list_any}
use Rattle.qgm_core.specs.Boxes.{is_box, numbers, overs_of, quants_in}
use Rattle.list_laws.specs.Lists.{EachOnce, each, first, holds}
use Rattle.qgm_core.specs.Walk.{levels, news, under, visit}
use Rattle.qgm_core.specs.declared.node.Node.{Node}
use Rattle.qgm_core.specs.declared.owned.OwnedQuant.{OwnedQuant}
use Rattle.qgm_core.proofs.First.{absent, is_first}

none_passes : (b : ℕ) (ns : List Node) → position (is_box b) ns ≡ None → list_any (is_box b) ns ≡ false
none_passes b ns e =
    elim (cases_Bool (list_any (is_box b) ns)) [
      | inl t ↦ absurd (absent (is_box b) ns e t)
      | inr t ↦ t
    ]

first_from : (b : ℕ) (ns : List Node) → list_any (is_box b) ns ≡ false → first (is_box b) ns ≡ None
first_from b [] h = refl
first_from b (n ∷ ns) h = let s = or_parts (n.id == b) (list_any (is_box b) ns) h in rw s.0 (first_from b ns s.1)

-- a box that doesn't stand here
pub first_none : (b : ℕ) (ns : List Node) → position (is_box b) ns ≡ None → first (is_box b) ns ≡ None
first_none b ns e = first_from b ns (none_passes b ns e)

-- a box that stands here
pub first_some : (b : ℕ) (ns : List Node) (i : ℕ) (d : Node) → position (is_box b) ns ≡ Some i → first (is_box b) ns ≡ Some (get_or ns i d)
first_some b ns i d e = (is_first (is_box b) ns i e).1 d

visit_from : (b : ℕ) (ns : List Node) (seen : List ℕ) → list_any (is_box b) ns ≡ false → visit ns b seen ≡ seen
visit_from b [] seen h = refl
visit_from b (n ∷ ns) seen h = let s = or_parts (n.id == b) (list_any (is_box b) ns) h in rw s.0 (visit_from b ns seen s.1)

visit_at : (b : ℕ) (ns : List Node) (i : ℕ) (d : Node) (seen : List ℕ) → i < length ns → is_box b (get_or ns i d) ≡ true → ((k : ℕ) → k < i → is_box b (get_or ns k d) ≡ false) →
    visit ns b seen ≡ cond (holds b seen) seen (each (visit (drop (suc i) ns)) (overs_of (get_or ns i d)) (seen ++ b ∷ []))
visit_at b [] i d seen h t n = absurd (omega arith)
visit_at b (x ∷ xs) zero d seen h t n = rw t refl
visit_at b (x ∷ xs) (suc i) d seen h t n = rw (n zero (omega arith)) (visit_at b xs i d seen (omega arith) t (λ k l. n (suc k) (omega arith)))

-- none that was seen
visit_seen : (b : ℕ) (ns : List Node) (i : ℕ) (seen : List ℕ) (d : Node) → position (is_box b) ns ≡ Some i → holds b seen ≡ true → visit ns b seen ≡ seen
visit_seen b ns i seen d e h = let at = position-Some (is_box b) ns i d e in visit_at b ns i d seen at.0 at.1 at.2 ∙ ap (λ (t : Bool). cond t seen (each (visit (drop (suc i) ns)) (overs_of (get_or ns i d)) (seen ++ b ∷ []))) h

-- one that wasn't, and then those under its quantifiers
visit_new : (b : ℕ) (ns : List Node) (i : ℕ) (d : Node) (seen : List ℕ) → position (is_box b) ns ≡ Some i → holds b seen ≡ false →
    visit ns b seen ≡ each (visit (drop (suc i) ns)) (overs_of (get_or ns i d)) (seen ++ b ∷ [])
visit_new b ns i d seen e h = let at = position-Some (is_box b) ns i d e in visit_at b ns i d seen at.0 at.1 at.2 ∙ ap (λ (t : Bool). cond t seen (each (visit (drop (suc i) ns)) (overs_of (get_or ns i d)) (seen ++ b ∷ []))) h

-- a level more
pub levels_next : (n k : ℕ) (boxes : List Node) (now seen : List ℕ) → k < n →
    levels (n - k) boxes now seen ≡ levels (n - (k + 1)) boxes (news seen (under boxes now)) (seen ++ news seen (under boxes now))
levels_next n k boxes now seen l =
    let e : n - k ≡ suc (n - (k + 1)) = omega (arith, l) in
    ap (λ (m : ℕ). levels m boxes now seen) e

-- the level after what was seen
pub levels_step : (n k end : ℕ) (boxes : List Node) (now seen after : List ℕ) → k < n → end ≡ length seen → after ≡ seen ++ news seen (under boxes now) →
    levels (n - (k + 1)) boxes (drop end after) after ≡ levels (n - k) boxes now seen
levels_step n k end boxes now seen after l e f =
    rw (f, e, drop-append_seam seen (news seen (under boxes now))) (sym (levels_next n k boxes now seen l))

-- the levels are done
pub levels_end : (n : ℕ) (boxes : List Node) (now seen : List ℕ) → levels (n - n) boxes now seen ≡ seen
levels_end n boxes now seen =
    let e : n - n ≡ 0 = omega arith in
    ap (λ (m : ℕ). levels m boxes now seen) e

-- the news of some, and then of others
news-append : (xs ys seen : List ℕ) → news seen (xs ++ ys) ≡ news seen xs ++ news (seen ++ news seen xs) ys
news-append [] ys seen = ap (λ (s : List ℕ). news s ys) (sym (append-nil seen))
news-append (b ∷ xs) ys seen =
    elim (holds b seen) as (λ t. cond t (news seen (xs ++ ys)) (b ∷ news (seen ++ b ∷ []) (xs ++ ys)) ≡ cond t (news seen xs) (b ∷ news (seen ++ b ∷ []) xs) ++ news (seen ++ cond t (news seen xs) (b ∷ news (seen ++ b ∷ []) xs)) ys) [
      | true ↦ news-append xs ys seen
      | false ↦ ap (λ (zs : List ℕ). b ∷ zs) (news-append xs ys (seen ++ b ∷ []))
          ∙ ap (λ (s : List ℕ). b ∷ (news (seen ++ b ∷ []) xs ++ news s ys)) (append_assoc seen (b ∷ []) (news (seen ++ b ∷ []) xs))
    ]

-- the news below a box come first, and then those below the boxes behind it
pub level-step : (boxes : List Node) (start seen after : List ℕ) (i b : ℕ) → i < length start → b ≡ get_or start i 0 → after ≡ seen ++ news seen (map (λ r. r.over) (quants_in (first (is_box b) boxes))) →
    after ++ news after (under boxes (drop (i + 1) start)) ≡ seen ++ news seen (under boxes (drop i start))
level-step boxes start seen after i b l e f =
    let rest = under boxes (drop (i + 1) start) in
    let here = map (λ (r : OwnedQuant). r.over) (quants_in (first (is_box b) boxes)) in
    let cut : drop i start ≡ b ∷ drop (i + 1) start = drop-cons start i 0 l ∙ ap (λ (x : ℕ). x ∷ drop (suc i) start) (sym e) ∙ ap (λ (j : ℕ). b ∷ drop j start) (sym (add-one i)) in
    ap (λ (s : List ℕ). s ++ news s rest) f
    ∙ append_assoc seen (news seen here) (news (seen ++ news seen here) rest)
    ∙ ap (λ (xs : List ℕ). seen ++ xs) (sym (news-append here rest seen))
    ∙ ap (λ (bs : List ℕ). seen ++ news seen (under boxes bs)) (sym cut)

-- a box that was seen is no news
pub news_seen : (b : ℕ) (bs seen : List ℕ) → holds b seen ≡ true → news seen (b ∷ bs) ≡ news seen bs
news_seen b bs seen h = rw h refl

-- one that wasn't goes behind those that were
pub news_new : (b : ℕ) (bs seen : List ℕ) → holds b seen ≡ false → seen ++ news seen (b ∷ bs) ≡ (seen ++ b ∷ []) ++ news (seen ++ b ∷ []) bs
news_new b bs seen h = rw h (sym (append_assoc seen (b ∷ []) (news (seen ++ b ∷ []) bs)))

-- ---- boxes at a place or behind it

unheld-behind : (x from : ℕ) (ns : List Node) → holds x (numbers ns) ≡ false → list_any (is_box x) (drop from ns) ≡ false
unheld-behind x zero [] h = refl
unheld-behind x (suc from) [] h = refl
unheld-behind x zero (n ∷ ns) h = let s = or_parts (n.id == x) (holds x (numbers ns)) h in or_from (n.id == x) (list_any (is_box x) ns) s.0 (unheld-behind x zero ns s.1)
unheld-behind x (suc from) (n ∷ ns) h = let s = or_parts (n.id == x) (holds x (numbers ns)) h in unheld-behind x from ns s.1

once-behind : (b : ℕ) (ns : List Node) (i from : ℕ) (d : Node) → EachOnce (numbers ns) → i < length ns → is_box b (get_or ns i d) ≡ true → i < from → list_any (is_box b) (drop from ns) ≡ false
once-behind b [] i from d o l t m = absurd (omega (arith, l))
once-behind b (n ∷ ns) i zero d o l t m = absurd (omega (arith, m))
once-behind b (n ∷ ns) zero (suc from) d o l t m = unheld-behind b from ns (subst (λ (x : ℕ). holds x (numbers ns) ≡ false) (eqb-true n.id b t) o.0)
once-behind b (n ∷ ns) (suc i) (suc from) d o l t m = once-behind b ns i from d o.1 (omega (arith, l)) t (omega (arith, m))

none-behind : (b from : ℕ) (ns : List Node) → list_any (is_box b) ns ≡ false → list_any (is_box b) (drop from ns) ≡ false
none-behind b zero ns h = h
none-behind b (suc from) [] h = refl
none-behind b (suc from) (n ∷ ns) h = none-behind b from ns (or_parts (n.id == b) (list_any (is_box b) ns) h).1

visit-skipped : (b from : ℕ) (ns : List Node) (d : Node) (seen : List ℕ) → ((k : ℕ) → k < from → is_box b (get_or ns k d) ≡ false) → visit (drop from ns) b seen ≡ visit ns b seen
visit-skipped b zero ns d seen h = refl
visit-skipped b (suc from) [] d seen h = refl
visit-skipped b (suc from) (n ∷ ns) d seen h =
    visit-skipped b from ns d seen (λ k l. h (suc k) (omega (arith, l)))
    ∙ sym (ap (λ (t : Bool). cond t (cond (holds b seen) seen (each (visit ns) (overs_of n) (seen ++ b ∷ []))) (visit ns b seen)) (h zero (omega arith)))

-- no box is visited that doesn't stand here
pub behind-none : (b from : ℕ) (ns : List Node) (seen : List ℕ) → position (is_box b) ns ≡ None → visit (drop from ns) b seen ≡ seen
behind-none b from ns seen e = visit_from b (drop from ns) seen (none-behind b from ns (none_passes b ns e))

-- none that stands before
pub behind-before : (b from : ℕ) (ns : List Node) (i : ℕ) (seen : List ℕ) → EachOnce (numbers ns) → position (is_box b) ns ≡ Some i → i < from → visit (drop from ns) b seen ≡ seen
behind-before b from [] i seen o e l = behind-none b from [] seen refl
behind-before b from (n ∷ ns) i seen o e l = let at = position-Some (is_box b) (n ∷ ns) i n e in visit_from b (drop from (n ∷ ns)) seen (once-behind b (n ∷ ns) i from n o at.0 at.1 l)

-- none that was seen
pub behind-seen : (b from : ℕ) (ns : List Node) (i : ℕ) (seen : List ℕ) → position (is_box b) ns ≡ Some i → from ≤ i → holds b seen ≡ true → visit (drop from ns) b seen ≡ seen
behind-seen b from [] i seen e l h = behind-none b from [] seen refl
behind-seen b from (n ∷ ns) i seen e l h =
    let at = position-Some (is_box b) (n ∷ ns) i n e in visit-skipped b from (n ∷ ns) n seen (λ k m. at.2 k (omega (arith, m, l))) ∙ visit_seen b (n ∷ ns) i seen n e h

-- one that wasn't, as far as its quantifiers
pub behind-start : (b from : ℕ) (ns : List Node) (i : ℕ) (d : Node) (seen after : List ℕ) (rs : List OwnedQuant) →
    position (is_box b) ns ≡ Some i → from ≤ i → holds b seen ≡ false → rs ≡ (get_or ns i d).quants → after ≡ seen ++ b ∷ [] →
    each (visit (drop (i + 1) ns)) (map (λ r. r.over) rs) after ≡ visit (drop from ns) b seen
behind-start b from ns i d seen after rs e l h g k =
    let at = position-Some (is_box b) ns i d e in
    let f : drop (i + 1) ns ≡ drop (suc i) ns = ap (λ (j : ℕ). drop j ns) (add-one i) in
    rw (f, g, k) (sym (visit-skipped b from ns d seen (λ k m. at.2 k (omega (arith, m, l))) ∙ visit_new b ns i d seen e h))
