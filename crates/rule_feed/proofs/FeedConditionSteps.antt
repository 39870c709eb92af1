-- What the code of G1's condition asks is the condition.
use Rattle.std.proofs.Common.{ℕ, zero, suc, ◌≡◌, ◌<◌, ◌+◌, ◌-◌, ◌&&◌, ◌||◌, cond, nat_le, not, Bool, true, false, List, [], ◌∷◌, refl, sym, ap, length, subst, ◌∙◌, inl, inr, arith}
use Rattle.std.specs.List.{list_all}
use Rattle.std.proofs.lemmas.Bool.{and_from, and_parts, cases_Bool, or_right}
use Rattle.qgm_core.specs.Free.{free_in}
use Rattle.qgm_core.specs.Kinds.{is_F}
use Rattle.list_laws.specs.Lists.{holds}
use Rattle.qgm_core.specs.declared.node.Node.{Node}
use Rattle.qgm_core.specs.declared.owned.OwnedQuant.{OwnedQuant}
use Rattle.qgm_props.specs.Inferred.{Facts}
use Rattle.qgm_props.specs.Under.{all_places}
use Rattle.qgm_wellformed.specs.WellFormed.{is_empty}
use Rattle.rule_facts.specs.Places.{is_plain_select}
use Rattle.rule_feed.specs.FeedCode as code
use Rattle.rule_feed.specs.FeedCode.{all_ready, feeds_by, fs, may_grow}
use Rattle.rule_feed.specs.FeedMay.{feeders, is_ready, is_single, may_feed, may_own, most_boxes}
use Rattle.rule_feed.specs.Knowing.{facts_in}

places-at : (n : ℕ) (t : ℕ → Bool) → 0 < n → all_places n t ≡ (t n && all_places (n - 1) t)
places-at n t l = subst (λ z. all_places z t ≡ (t z && all_places (z - 1) t)) (let e : suc (n - 1) ≡ n = omega arith in e) (ap (λ z. t (suc (n - 1)) && all_places z t) (let e : n - 1 ≡ suc (n - 1) - 1 = omega arith in e))

pub places-next : (w j : ℕ) (t : ℕ → Bool) → j < w → t (w - j) ≡ true → all_places (w - (j + 1)) t ≡ all_places (w - j) t
places-next w j t l h = sym (places-at (w - j) t (omega arith) ∙ ap (λ b. b && all_places (w - j - 1) t) h ∙ ap (λ z. all_places z t) (let e : w - j - 1 ≡ w - (j + 1) = omega arith in e))

pub all-ready : (ns : List Node) (known : Facts) (c : ℕ) (list : List OwnedQuant) → all_ready ns known c (free_in ns c) list ≡ list_all (is_ready ns known c) (feeders ns c list)
all-ready ns known c [] = refl
all-ready ns known c (q ∷ qs) = elim (feeds_by (free_in ns c) q) as (λ t. ((not t || is_ready ns known c q) && all_ready ns known c (free_in ns c) qs) ≡ list_all (is_ready ns known c) (cond t (q ∷ feeders ns c qs) (feeders ns c qs))) [
  | true ↦ ap (λ b. is_ready ns known c q && b) (all-ready ns known c qs)
  | false ↦ all-ready ns known c qs
]

pub may-feed : (ns : List Node) (n : Node) (r : OwnedQuant) → code.may_feed ns n.quants r ≡ may_feed ns (facts_in ns) n r
may-feed ns n r = elim (is_empty (free_in ns r.over)) as (λ t. code.told_if t (code.told ns n.quants r (free_in ns r.over)) ≡ (not t && (is_single ns (facts_in ns) r.over r && list_all (is_ready ns (facts_in ns) r.over) (feeders ns r.over n.quants)))) [
  | true ↦ refl
  | false ↦ ap (λ b. is_single ns (facts_in ns) r.over r && b) (all-ready ns (facts_in ns) r.over n.quants)
]

-- ---- by the code

pub may-feed-by : (ns : List Node) (qs : List OwnedQuant) (r : OwnedQuant) → is_empty (free_in ns r.over) ≡ false → code.told ns qs r (free_in ns r.over) ≡ code.may_feed ns qs r
may-feed-by ns qs r e = sym (ap (λ b. code.told_if b (code.told ns qs r (free_in ns r.over))) e)

pub not-open : (ns : List Node) (qs : List OwnedQuant) (r : OwnedQuant) → is_empty (free_in ns r.over) ≡ true → false ≡ code.may_feed ns qs r
not-open ns qs r e = sym (ap (λ b. code.told_if b (code.told ns qs r (free_in ns r.over))) e)

-- a plain select that may own is closed
pub own-closed : (ns : List Node) (n : Node) → may_grow ns n ≡ true → may_own ns n ≡ is_empty (free_in ns n.id)
own-closed ns n h =
    let a = and_parts (is_plain_select n) (nat_le (length ns) most_boxes) h in
    ap (λ b. b && (nat_le (length ns) most_boxes && is_empty (free_in ns n.id))) a.0 ∙ ap (λ b. b && is_empty (free_in ns n.id)) a.1

pub none-grows : (ns : List Node) (n : Node) → may_grow ns n ≡ false → may_own ns n ≡ false
none-grows ns n h = elim (cases_Bool (is_plain_select n)) [
  | inl p ↦ ap (λ b. b && (nat_le (length ns) most_boxes && is_empty (free_in ns n.id))) p ∙ ap (λ b. b && is_empty (free_in ns n.id)) (sym (ap (λ b. b && nat_le (length ns) most_boxes) p) ∙ h)
  | inr p ↦ ap (λ b. b && (nat_le (length ns) most_boxes && is_empty (free_in ns n.id))) p
]

-- where no column may be an error, those that are named are none
pub all-free : (w : ℕ) (free named : ℕ → Bool) → all_places w free ≡ true → all_places w (λ k. not (named k) || free k) ≡ true
all-free zero free named h = refl
all-free (suc w) free named h = let x = and_parts (free (suc w)) (all_places w free) h in and_from (not (named (suc w)) || free (suc w)) (all_places w (λ k. not (named k) || free k)) (or_right (not (named (suc w))) (free (suc w)) x.0) (all-free w free named x.1)

-- only the F feed
fs-ready : (ns : List Node) (known : Facts) (c : ℕ) (free : List ℕ) (rs : List OwnedQuant) → all_ready ns known c free (fs rs) ≡ all_ready ns known c free rs
fs-ready ns known c free [] = refl
fs-ready ns known c free (q ∷ qs) = elim (cases_Bool (is_F q.kind)) [
  | inl t ↦ ap (λ b. all_ready ns known c free (cond b (q ∷ fs qs) (fs qs))) t ∙ ap (λ b. (not (feeds_by free q) || is_ready ns known c q) && b) (fs-ready ns known c free qs)
  | inr f ↦ ap (λ b. all_ready ns known c free (cond b (q ∷ fs qs) (fs qs))) f ∙ fs-ready ns known c free qs ∙ sym (ap (λ b. (not (b && holds q.id free) || is_ready ns known c q) && all_ready ns known c free qs) f)
]

pub fs-feed : (ns : List Node) (n : Node) (r : OwnedQuant) → code.may_feed ns (fs n.quants) r ≡ may_feed ns (facts_in ns) n r
fs-feed ns n r = ap (λ b. code.told_if (is_empty (free_in ns r.over)) (is_single [] (facts_in ns) r.over r && b)) (fs-ready ns (facts_in ns) r.over (free_in ns r.over) n.quants) ∙ may-feed ns n r
