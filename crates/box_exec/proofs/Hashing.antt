-- Selects of kept rows, some of which are found by hashes.
use Rattle.std.proofs.Common.{ℕ, suc, zero, ◌≡◌, ◌<◌, ◌≤◌, ◌+◌, ◌++◌, ◌∷◌, ◌&&◌, ◌==◌, not, Bool, true, false, All, List, [], Option, Some, get_or, length, slice_get, refl, sym, ap, ap₂, subst, ◌∙◌, ◌⊎◌, inl, inr, arith}
use Rattle.std.specs.List.{list_any}
use Rattle.std.proofs.lemmas.Bool.{eq-eqb}
use Rattle.std.specs.Prelude.{IfSome}
use Rattle.std.proofs.lemmas.List.{get_or_default, length_push}
use Rattle.sql_value.specs.declared.truth.Truth.{Truth}
use Rattle.row_bag.specs.Bags.{Alike}
use Rattle.row_bag.specs.declared.tables.Table.{Table}
use Rattle.row_bag.proofs.Agreement.{alike-same}
use Rattle.qgm_core.specs.declared.node.Node.{Node}
use Rattle.qgm_core.specs.declared.owned.OwnedQuant.{OwnedQuant}
use Rattle.qgm_meaning.specs.Meaning.{bag_in, given, given_by, over_each, quant_rows}
use Rattle.qgm_meaning.specs.Values.{Bag, Environment, bound, truth}
use Rattle.qgm_terms.specs.Shown as shown
use Rattle.box_exec.specs.Early.{is_none, is_open, rejects}
use Rattle.box_exec.specs.Hashed.{AllIdleUnder, AllKept, KeptPlan, LeadsAt, rows_kept}
use Rattle.box_exec.specs.Indexed.{IsIdleIndex}
use Rattle.box_exec.specs.declared.idle_index.IdleIndex.{IdleIndex}
use Rattle.box_exec.specs.Lasting.{AllKeyed, KeyedAt}
use Rattle.box_exec.specs.Equalities.{IsKey, other_of, own_of}
use Rattle.box_exec.specs.Lookup.{Leads, RejectsBy}
use Rattle.box_exec.specs.Plans.{Bound, family, left_at, tables_of}
use Rattle.box_exec.specs.Ready.{Stands as Under_stands}
use Rattle.box_exec.specs.Sources.{held_by}
use Rattle.box_exec.specs.declared.boxes.At.{At}
use Rattle.box_exec.specs.declared.early.Early.{Early}
use Rattle.box_exec.specs.declared.lookup.Keyed.{Keyed}
use Rattle.box_exec.specs.declared.key.Key.{Key}
use Rattle.row_index.specs.declared.ways.Way.{Way}
use Rattle.box_exec.specs.declared.hashed.Whole.{Whole}
use Rattle.row_bag.specs.declared.operand.Operand.{Operand}
use Rattle.box_exec.specs.declared.under.Loop.{Loop}
use Rattle.box_exec.specs.declared.under.Under.{Under}
use Rattle.box_exec.specs.declared.under.Under.TheVariants.{Kept, Open, Nothing}
use Rattle.box_exec.proofs.Lookups.{some-is}
use Rattle.box_exec.proofs.Equalities.{apart-none}
use Rattle.box_exec.proofs.Rejections.{any-at}
use Rattle.box_exec.proofs.Quantifiers.{given-free, past-ranges}
use Rattle.list_laws.proofs.Booleans.{neither-left, neither-right}

-- ---- what stands under quantifiers

pub kept-alike : (tables : List Table) (memo : List (Option Operand)) (below : List Node) (b : ℕ) (u : Under) → Under_stands tables memo below b u → is_open u ≡ false → (env : Environment) → Alike (rows_kept u) (bag_in tables below b env)
kept-alike tables memo below b (Kept rows) s h env = s env
kept-alike tables memo below b (Open n behind) s h env = absurd (let z : ⊥ = cc in z)
kept-alike tables memo below b Nothing s h env = alike-same (sym (s env))

pub none-all : (p : Loop → Bool) (ls : List Loop) → list_any p ls ≡ false → All (λ l. p l ≡ false) ls
none-all p [] h k d l = absurd (omega (arith, l))
none-all p (x ∷ ls) h zero d l = neither-left (p x) (list_any p ls) h
none-all p (x ∷ ls) h (suc k) d l = none-all p ls (neither-right (p x) (list_any p ls) h) k d (omega (arith, l))

pub not-true : (b : Bool) → not b ≡ true → b ≡ false
not-true true h = absurd (let z : ⊥ = cc in z)
not-true false h = refl

-- ---- a select of kept rows

-- all quantifiers are bound
pub last-given : (w : Whole) → KeptPlan w → (place : ℕ) → length w.at.now.loops.now ≤ place → (env : Environment) → given (held_by w.subs.now) w.at.now.node.now env ≡ left_at w.at.now place env
last-given w plan place h env =
    let at = w.at.now in
    let s = quant_rows at.node.now (family at) in
    given-free (family at) at.node.now at.below.now w.subs.now env plan.fit (plan.subs env) ∙ sym (ap (λ (rs : List OwnedQuant). over_each rs s (given_by s at.node.now) env) (past-ranges at.loops.now place h))

-- the rows at a place
pub kept-at : (at : At) → Bound at → AllKept at.loops.now → (place : ℕ) (l : Loop) → place < length at.loops.now → l ≡ get_or at.loops.now place l → (env : Environment) → Alike (rows_kept l.under) (family at l.range.over env)
kept-at at plan kept place l inside is env =
    kept-alike (tables_of at) at.run.now.memo.now at.below.now l.range.over l.under (subst (λ (x : Loop). Under_stands (tables_of at) at.run.now.memo.now at.below.now x.range.over x.under) (sym is) (plan.stand place l inside))
    (subst (λ (x : Loop). is_open x.under ≡ false) (sym is) (kept place l inside)) env

-- a way through them
pub led : (at : At) (place : ℕ) (l : Loop) (rows : Bag) (env : Environment) (way : Way) → rows ≡ rows_kept l.under → LeadsAt at place l env way → Leads (rejects at.early.now (place + 1)) l.range.id rows env way
led at place l rows env way is leads = subst (λ (rs : Bag). Leads (rejects at.early.now (place + 1)) l.range.id rs env way) (sym is) leads

-- ---- what is made once of a select

-- a condition of the place is the key's
pub key-rejects : (es : List Early) (i : ℕ) (e : Early) (place q : ℕ) (key : Key) → i < length es → e ≡ get_or es i e → e.place ≡ place → IsKey q (shown.cond e.cond.now) key → RejectsBy (rejects es place) q key
key-rejects es i e place q key l at here is cells env own other apart =
    let no : is_none (truth (held_by []) (shown.cond e.cond.now) (bound q cells env)).t ≡ true =
    ap (λ (x : Truth). is_none x.t) (is (held_by []) cells env) ∙ apart-none key.by (own_of q (shown.term key.own.now) cells) (other_of (shown.term key.other.now) env) own other apart in
    any-at (λ (e : Early). (e.place == place) && is_none (truth (held_by []) (shown.cond e.cond.now) (bound q cells env)).t) es i e l at (ap₂ (λ (x y : Bool). x && y) (eq-eqb e.place place here) no)

pushed : {X : Type 0} (hs : List (Option X)) (o : Option X) (j : ℕ) (h : X) → slice_get (hs ++ o ∷ []) j ≡ Some (Some h) → (slice_get hs j ≡ Some (Some h)) ⊎ ((j ≡ length hs) × (o ≡ Some h))
pushed [] o zero h e = let it : o ≡ Some h = cc in inr (refl, it)
pushed [] o (suc j) h e = absurd (let z : ⊥ = cc in z)
pushed (x ∷ hs) o zero h e = inl e
pushed (x ∷ hs) o (suc j) h e = elim (pushed hs o j h e) [ inl a ↦ inl a | inr b ↦ inr (ap (λ n. suc n) b.0, b.1) ]

-- what is said of those that are made for the quantifiers is said of one more
pub made-more : {X : Type 0} (P : ℕ → Loop → X → Type 0) (ls : List Loop) (hs new : List (Option X)) (o : Option X) (i : ℕ) (l : Loop) → length hs ≡ i → i < length ls → l ≡ get_or ls i l → new ≡ hs ++ o ∷ [] → IfSome o (λ h. P i l h)
    → ((j : ℕ) (m : Loop) (h : X) → j < length ls → m ≡ get_or ls j m → slice_get hs j ≡ Some (Some h) → P j m h)
    → (j : ℕ) (m : Loop) (h : X) → j < length ls → m ≡ get_or ls j m → slice_get new j ≡ Some (Some h) → P j m h
made-more {X = X} P ls hs new o i l long inside is en made all j m h within it found =
    elim (pushed hs o j h (subst (λ (xs : List (Option X)). slice_get xs j ≡ Some (Some h)) en found)) [
      | inl before ↦ all j m h within it before
      | inr last ↦
          (let same : j ≡ i = last.0 ∙ long in
          let loop : l ≡ m = is ∙ get_or_default ls i l m inside ∙ ap (λ (n : ℕ). get_or ls n m) (sym same) ∙ sym it in
          subst (λ (n : ℕ). P n m h) (sym same)
          (subst (λ (x : Loop). P i x h) loop
          (some-is (λ h. P i l h) o h last.1 made)))
    ]

pub keyed-more : (es : List Early) (ls : List Loop) (hs new : List (Option Keyed)) (o : Option Keyed) (i : ℕ) (l : Loop) → length hs ≡ i → i < length ls → l ≡ get_or ls i l → new ≡ hs ++ o ∷ []
    → IfSome o (λ h. KeyedAt es i l h) → AllKeyed es ls hs → AllKeyed es ls new
keyed-more es ls hs new o i l long inside is en made all = made-more (λ i l h. KeyedAt es i l h) ls hs new o i l long inside is en made all

pub idle-more : (ls : List Loop) (xs new : List (Option IdleIndex)) (o : Option IdleIndex) (i : ℕ) (l : Loop) → length xs ≡ i → i < length ls → l ≡ get_or ls i l → new ≡ xs ++ o ∷ []
    → IfSome o (λ x. IsIdleIndex (rows_kept l.under) x) → AllIdleUnder ls xs → AllIdleUnder ls new
idle-more ls xs new o i l long inside is en made all j m within it x at =
    made-more (λ i l x. IsIdleIndex (rows_kept l.under) x) ls xs new o i l long inside is en made (λ k n y u v g. all k n u v y g) j m x within it at

pub one-longer : {X : Type 0} (hs new : List (Option X)) (o : Option X) (i : ℕ) → length hs ≡ i → new ≡ hs ++ o ∷ [] → length new ≡ i + 1
one-longer {X = X} hs new o i long en = ap (λ (xs : List (Option X)). length xs) en ∙ length_push hs o ∙ ap (λ n. n + 1) long
