-- Quantifiers and facts found by their numbers.
use Rattle.std.proofs.Common.{◌≡◌, ℕ, ◌==◌, ◌<◌, ◌++◌, cond, ◌||◌, Bool, true, false, List, [], ◌∷◌, Option, Some, None, length, map, get_or, position, refl, sym, ◌∙◌, ap, eqb-true, inl, inr, take, arith, nat_lt, not, suc, ◌+◌}
use Rattle.std.proofs.Math.ListN.{set}
use Rattle.std.proofs.Math.Seq.{take-suc}
use Rattle.std.specs.List.{list_any, position_or_len}
use Rattle.std.specs.Option.{option_or}
use Rattle.std.proofs.lemmas.Bool.{cases_Bool, or_parts}
use Rattle.std.proofs.lemmas.List.{length-map}
use Rattle.list_laws.specs.Lists.{first}
use Rattle.qgm_core.specs.Boxes.{is_quant, owns, range_in}
use Rattle.qgm_core.specs.declared.node.Node.{Node}
use Rattle.qgm_core.specs.declared.owned.OwnedQuant.{OwnedQuant}
use Rattle.qgm_core.proofs.ByNumber.{read-set}
use Rattle.qgm_core.proofs.First.{absent, is_first}
use Rattle.qgm_props.specs.Table.{is_of}
use Rattle.qgm_props.specs.declared.facts.BoxFacts.{BoxFacts}

or-none : {X : Type 0} (o : Option X) → o ≡ option_or o None
or-none None = refl
or-none (Some x) = refl

or-or : {X : Type 0} (a b c : Option X) → option_or (option_or a b) c ≡ option_or a (option_or b c)
or-or None b c = refl
or-or (Some x) b c = refl

first-last : {X : Type 0} (p : X → Bool) (xs : List X) (x : X) → first p (xs ++ x ∷ []) ≡ option_or (first p xs) (cond (p x) (Some x) None)
first-last p [] x = refl
first-last p (y ∷ xs) x = elim (p y) as (λ t. cond t (Some y) (first p (xs ++ x ∷ [])) ≡ option_or (cond t (Some y) (first p xs)) (cond (p x) (Some x) None)) [
  | true ↦ refl
  | false ↦ first-last p xs x
]

-- one more is noted
pub noted-one : (old long : List (Option OwnedQuant)) (r : OwnedQuant) (v : Option OwnedQuant) → ((q : ℕ) → get_or long q None ≡ get_or old q None) → r.id < length long → v ≡ option_or (get_or long r.id None) (Some r)
    → (q : ℕ) → get_or (set long r.id v) q None ≡ option_or (get_or old q None) (cond (r.id == q) (Some r) None)
noted-one old long r v s l e q =
    read-set long r.id v None q l
    ∙ elim (cases_Bool (r.id == q)) [
      | inl t ↦ (
          ap (λ (b : Bool). cond b v (get_or long q None)) t ∙ e ∙ ap (λ (o : Option OwnedQuant). option_or o (Some r)) (s r.id)
          ∙ ap (λ (k : ℕ). option_or (get_or old k None) (Some r)) (eqb-true r.id q t) ∙ sym (ap (λ (b : Bool). option_or (get_or old q None) (cond b (Some r) None)) t))
      | inr f ↦ ap (λ (b : Bool). cond b v (get_or long q None)) f ∙ s q ∙ or-none (get_or old q None) ∙ sym (ap (λ (b : Bool). option_or (get_or old q None) (cond b (Some r) None)) f)
    ]

-- the quantifiers of a box, one after another
pub noted-last : (a : Option OwnedQuant) (rs : List OwnedQuant) (r : OwnedQuant) (q : ℕ) → option_or (option_or a (first (is_quant q) rs)) (cond (r.id == q) (Some r) None) ≡ option_or a (first (is_quant q) (rs ++ r ∷ []))
noted-last a rs r q = or-or a (first (is_quant q) rs) (cond (r.id == q) (Some r) None) ∙ ap (λ (o : Option OwnedQuant). option_or a o) (sym (first-last (is_quant q) rs r))

-- what a box doesn't own isn't found in it
not-owned : (q : ℕ) (rs : List OwnedQuant) → list_any (is_quant q) rs ≡ false → first (is_quant q) rs ≡ None
not-owned q [] f = refl
not-owned q (r ∷ rs) f = elim (r.id == q) as (λ t. (t || list_any (is_quant q) rs) ≡ false → cond t (Some r) (first (is_quant q) rs) ≡ None) [
  | true ↦ λ h. absurd (clash h)
  | false ↦ λ h. not-owned q rs h
] f
  where
    clash : true ≡ false → ⊥
    clash e = cc

is-owned : (q : ℕ) (rs : List OwnedQuant) (o : Option OwnedQuant) → list_any (is_quant q) rs ≡ true → option_or (first (is_quant q) rs) o ≡ first (is_quant q) rs
is-owned q [] o t = absurd cc
is-owned q (r ∷ rs) o t = elim (r.id == q) as (λ b. (b || list_any (is_quant q) rs) ≡ true → option_or (cond b (Some r) (first (is_quant q) rs)) o ≡ cond b (Some r) (first (is_quant q) rs)) [
  | true ↦ λ h. refl
  | false ↦ λ h. is-owned q rs o h
] t

-- the quantifiers of one box more
pub noted-box : (q : ℕ) (ns : List Node) (n : Node) → option_or (range_in q (first (owns q) ns)) (first (is_quant q) n.quants) ≡ range_in q (first (owns q) (ns ++ n ∷ []))
noted-box q [] n = elim (cases_Bool (owns q n)) [
  | inl t ↦ sym (ap (λ (b : Bool). range_in q (cond b (Some n) None)) t)
  | inr f ↦ not-owned q n.quants f ∙ sym (ap (λ (b : Bool). range_in q (cond b (Some n) None)) f)
]
noted-box q (m ∷ ns) n = elim (cases_Bool (owns q m)) [
  | inl t ↦ (
      ap (λ (b : Bool). option_or (range_in q (cond b (Some m) (first (owns q) ns))) (first (is_quant q) n.quants)) t ∙ is-owned q m.quants (first (is_quant q) n.quants) t
      ∙ sym (ap (λ (b : Bool). range_in q (cond b (Some m) (first (owns q) (ns ++ n ∷ [])))) t))
  | inr f ↦ (
      ap (λ (b : Bool). option_or (range_in q (cond b (Some m) (first (owns q) ns))) (first (is_quant q) n.quants)) f ∙ noted-box q ns n
      ∙ sym (ap (λ (b : Bool). range_in q (cond b (Some m) (first (owns q) (ns ++ n ∷ [])))) f))
]

-- ---- loops that note

pub noted-next : (old now after : List (Option OwnedQuant)) (rs : List OwnedQuant) (i : ℕ) (d : OwnedQuant) → i < length rs → ((q : ℕ) → get_or now q None ≡ option_or (get_or old q None) (first (is_quant q) (take i rs)))
    → ((q : ℕ) → get_or after q None ≡ option_or (get_or now q None) (cond ((get_or rs i d).id == q) (Some (get_or rs i d)) None)) → (q : ℕ) → get_or after q None ≡ option_or (get_or old q None) (first (is_quant q) (take (i + 1) rs))
noted-next old now after rs i d l h s q =
    let r = get_or rs i d in
    let e : suc i ≡ i + 1 = omega arith in
    s q ∙ ap (λ (o : Option OwnedQuant). option_or o (cond (r.id == q) (Some r) None)) (h q) ∙ noted-last (get_or old q None) (take i rs) r q
    ∙ ap (λ (ts : List OwnedQuant). option_or (get_or old q None) (first (is_quant q) ts)) (sym (take-suc rs i d l) ∙ ap (λ (k : ℕ). take k rs) e)

pub noted-box-next : (now after : List (Option OwnedQuant)) (ns : List Node) (i : ℕ) (n : Node) → i < length ns → n ≡ get_or ns i n → ((q : ℕ) → get_or now q None ≡ range_in q (first (owns q) (take i ns)))
    → ((q : ℕ) → get_or after q None ≡ option_or (get_or now q None) (first (is_quant q) n.quants)) → (q : ℕ) → get_or after q None ≡ range_in q (first (owns q) (take (i + 1) ns))
noted-box-next now after ns i n l is h s q =
    let e : suc i ≡ i + 1 = omega arith in
    s q ∙ ap (λ (o : Option OwnedQuant). option_or o (first (is_quant q) n.quants)) (h q) ∙ noted-box q (take i ns) n
    ∙ ap (λ (ts : List Node). range_in q (first (owns q) ts)) (ap (λ (m : Node). take i ns ++ m ∷ []) is ∙ sym (take-suc ns i n l) ∙ ap (λ (k : ℕ). take k ns) e)

-- ---- facts by the numbers of their boxes

place-facts : (b : ℕ) (ts : List BoxFacts) → position_or_len (λ x. x == b) (map (λ f. f.id) ts) ≡ position_or_len (is_of b) ts
place-facts b [] = refl
place-facts b (f ∷ ts) = ap (λ (k : ℕ). cond (not (f.id == b)) (1 + k) 0) (place-facts b ts)

pub position-facts : (b : ℕ) (ts : List BoxFacts) → position (λ x. x == b) (map (λ f. f.id) ts) ≡ position (is_of b) ts
position-facts b ts =
    ap (λ (k : ℕ). cond (nat_lt k (length (map (λ (f : BoxFacts). f.id) ts))) (Some k) None) (place-facts b ts)
    ∙ ap (λ (l : ℕ). cond (nat_lt (position_or_len (is_of b) ts) l) (Some (position_or_len (is_of b) ts)) None) (length-map ts (λ (f : BoxFacts). f.id))

none-first : (b : ℕ) (ts : List BoxFacts) → list_any (is_of b) ts ≡ false → first (is_of b) ts ≡ None
none-first b [] h = refl
none-first b (f ∷ ts) h = let s = or_parts (f.id == b) (list_any (is_of b) ts) h in rw s.0 (none-first b ts s.1)

pub fact-none : (b : ℕ) (ts : List BoxFacts) → position (is_of b) ts ≡ None → first (is_of b) ts ≡ None
fact-none b ts e = elim (cases_Bool (list_any (is_of b) ts)) [
  | inl t ↦ absurd (absent (is_of b) ts e t)
  | inr f ↦ none-first b ts f
]

pub fact-some : (b : ℕ) (ts : List BoxFacts) (i : ℕ) (d : BoxFacts) → position (is_of b) ts ≡ Some i → first (is_of b) ts ≡ Some (get_or ts i d)
fact-some b ts i d e = (is_first (is_of b) ts i e).1 d
