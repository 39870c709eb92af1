-- Some table doesn't improve, so all that is inferred holds.
use Rattle.std.proofs.Common.{ℕ, zero, suc, ◌≡◌, ◌≢◌, ◌≤◌, ◌<◌, ◌==◌, true, false, List, [], ◌∷◌, map, length, Option, Some, None, slice_get, slice_set, Bool, eqb-true, refl, sym, ap, subst, ◌∙◌, arith, inl, inr, ◌⊎◌}
use Rattle.std.proofs.lemmas.Bool.{cases_Bool, eq-eqb}
use Rattle.row_bag.specs.declared.tables.Table.{Table}
use Rattle.qgm_core.specs.Boxes.{Ordered}
use Rattle.qgm_core.specs.Edits.{with_distinct}
use Rattle.list_laws.specs.Lists.{In}
use Rattle.qgm_core.specs.declared.kinds.Distinct.{Distinct}
use Rattle.qgm_core.specs.declared.node.Node.{Node}
use Rattle.qgm_props.specs.Holding.{Holds}
use Rattle.qgm_meaning.specs.Fits.{fits}
use Rattle.qgm_meaning.specs.Meaning.{bag_in, rows_of}
use Rattle.qgm_meaning.specs.Values.{Bag, Environment}
use Rattle.qgm_props.specs.Facts.{IsClean}
use Rattle.qgm_props.specs.Inferred.{Fact, Facts, Inferred, clean, clean_by, inferred_once, of_box, says}
use Rattle.qgm_props.specs.Laws.{KeyHolds, Premises, Tells}
use Rattle.qgm_props.specs.Table.{Improves, Stable, StableAt, begun, facts_of, gone, improved, nothing_of, unknown_in}
use Rattle.qgm_props.specs.declared.facts.BoxFacts.{BoxFacts}
use Rattle.qgm_props.proofs.Improving.{all-said, beside, closed, entry-at, same-or-less, unknown-set}
use Rattle.qgm_props.specs.Keys.{holds_key}
use Rattle.qgm_props.proofs.KeyRanks.{in-first}
use Rattle.qgm_props.proofs.KeyedBoxes.{keys-hold}
use Rattle.qgm_props.proofs.EachClean.{each-is-clean}
use Rattle.qgm_props.proofs.Fitted.{fits-in}
use Rattle.qgm_props.proofs.HeldBases.{satisfied}
use Rattle.qgm_props.proofs.Monotone.{least, once-below}
use Rattle.qgm_props.proofs.Partial.{HoldsIn, in-holds}
use Rattle.qgm_props.proofs.Step.{held-clean, step}

module _ (boxes : List Node) where
  -- a table in which less is unknown
  abbrev Better : List BoxFacts → Type 0
  Better table = (next : List BoxFacts) × (Improves boxes next × (unknown_in next < unknown_in table))

  at-place : (table : List BoxFacts) → Improves boxes table → (i : ℕ) → StableAt boxes table i ⊎ Better table
  at-place table before i = go (slice_get boxes i) (slice_get table i) refl refl
    where
      go : (o : Option Node) (p : Option BoxFacts) → slice_get boxes i ≡ o → slice_get table i ≡ p → StableAt boxes table i ⊎ Better table
      go None p e d = inl (λ m h a b. absurd (let z : ⊥ = (let w : None ≡ Some m = sym e ∙ a in cc) in z))
      go (Some n) None e d = inl (λ m h a b. absurd (let z : ⊥ = (let w : None ≡ Some h = sym d ∙ b in cc) in z))
      go (Some n) (Some f) e d = elim (same-or-less boxes (facts_of table) n f (entry-at boxes table i n f (beside boxes table before) e d)) [
        | inl s ↦ inl (λ m h a b.
            let v : n ≡ m = (let w : Some n ≡ Some m = sym e ∙ a in cc) in
            let u : f ≡ h = (let w : Some f ≡ Some h = sym d ∙ b in cc) in
            subst (λ (m : Node). improved boxes (facts_of table) m h ≡ h) v (subst (λ (h : BoxFacts). improved boxes (facts_of table) n h ≡ h) u s))
        | inr l ↦ inr (slice_set table i (improved boxes (facts_of table) n f), (gone table i n f before e d, (let s = unknown-set table i f (improved boxes (facts_of table) n f) d in omega (arith, l, s))))
      ]

  up-to : (table : List BoxFacts) → Improves boxes table → (j : ℕ) → ((i : ℕ) → i < j → StableAt boxes table i) ⊎ Better table
  up-to table before zero = inl (λ i h. absurd (let z : ⊥ = omega (arith, h) in z))
  up-to table before (suc j) = more (at-place table before j) (up-to table before j)
    where
      more : StableAt boxes table j ⊎ Better table → ((i : ℕ) → i < j → StableAt boxes table i) ⊎ Better table → ((i : ℕ) → i < suc j → StableAt boxes table i) ⊎ Better table
      more (inr b) below = inr b
      more (inl s) (inr b) = inr b
      more (inl s) (inl all) = inl (λ i h. elim (cases_Bool (i == j)) [
        | inl t ↦ subst (StableAt boxes table) (sym (eqb-true i j t)) s
        | inr f ↦ all i (let d = other i j f in omega (arith, d, h))
      ])
        where
          other : (i j : ℕ) → (i == j) ≡ false → i ≢ j
          other i j f e = let t = eq-eqb i j e in let z : true ≡ false = sym t ∙ f in cc

  found-within : {X : Type 0} (xs : List X) (i : ℕ) (x : X) → slice_get xs i ≡ Some x → i < length xs
  found-within [] i x e = absurd (let z : ⊥ = cc in z)
  found-within (y ∷ xs) zero x e = let p : length (y ∷ xs) ≡ suc (length xs) = refl in omega (arith, p)
  found-within (y ∷ xs) (suc i) x e = let p : length (y ∷ xs) ≡ suc (length xs) = refl in let r = found-within xs i x e in omega (arith, p, r)

  stable-or : (table : List BoxFacts) → Improves boxes table → Stable boxes table ⊎ Better table
  stable-or table before = elim (up-to table before (length boxes)) [
    | inl all ↦ inl (λ i m h a b. all i (found-within boxes i m a) m h a b)
    | inr b ↦ inr b
  ]

  settled : (fuel : ℕ) (table : List BoxFacts) → Improves boxes table → unknown_in table ≤ fuel → (last : List BoxFacts) × (Improves boxes last × Stable boxes last)
  settled zero table before h = elim (stable-or table before) [
    | inl s ↦ (table, (before, s))
    | inr b ↦ absurd (let l = b.1.0 in let m = b.1.1 in let z : ⊥ = omega (arith, h, m) in z)
  ]
  settled (suc fuel) table before h = elim (stable-or table before) [
    | inl s ↦ (table, (before, s))
    | inr b ↦ settled fuel b.0 b.1.0 (let m = b.1.1 in omega (arith, h, m))
  ]

-- the facts of a table that doesn't improve
pub all-told : (ns : List Node) → (known : Facts) × Tells known ns
all-told ns =
    let x = settled ns (unknown_in (map nothing_of ns)) (map nothing_of ns) begun (omega arith) in
    (facts_of x.0, λ fact. ((λ s. all-said ns (Inferred ns) (least ns) x.0 x.1.0 fact s), (λ h. h (facts_of x.0) (closed ns x.0 x.1.0 x.1.1))))

-- what is inferred is so by a sentence, of facts that are inferred
pub founded : (ns : List Node) (known : Facts) → Tells known ns → (fact : Fact) → Inferred ns fact → says (inferred_once ns known) fact ≡ true
founded ns known tells fact h = h (inferred_once ns known) (once-below ns (inferred_once ns known) known (λ f s. (tells f).1 (least ns known (λ g k. (tells g).0 k) f s)))

pub inferred-in : (partial : Bool) (tables : List Table) (ns : List Node) → Premises tables ns → (fact : Fact) → Inferred ns fact → HoldsIn partial tables ns fact
inferred-in partial tables ns given fact h =
    let x = settled ns (unknown_in (map nothing_of ns)) (map nothing_of ns) begun (omega arith) in
    all-said ns (HoldsIn partial tables ns) (λ known all fact k. step partial tables ns known given all fact k) x.0 x.1.0 fact (h (facts_of x.0) (closed ns x.0 x.1.0 x.1.1))

pub inferred-holds : (tables : List Table) (ns : List Node) → Premises tables ns → (fact : Fact) → Inferred ns fact → Holds tables ns fact
inferred-holds tables ns given fact h = in-holds tables ns fact (inferred-in false tables ns given fact h)

-- the sentence by which a box is clean
pub clean-said : (ns : List Node) (known : Facts) → Tells known ns → Ordered ns → (n : Node) → In n ns → Inferred ns (clean n.id) → clean_by ns known n.parts.kind n ≡ true
clean-said ns known tells o n i h =
    sym (ap (of_box false (λ n. clean_by ns known n.parts.kind n)) (in-first ns n o i)) ∙ founded ns known tells (clean n.id) h

pub clean-fits : (tables : List Table) (ns : List Node) → Premises tables ns → (n : Node) → In n ns → Inferred ns (clean n.id) → (d : Distinct) (env : Environment) → fits (bag_in tables ns) ns env ≡ true
    → IsClean (rows_of tables (with_distinct d n) (bag_in tables ns) env)
clean-fits tables ns given n i h d env fit =
    let k = all-told ns in
    let rows : Bag = rows_of tables (with_distinct d n) (bag_in tables ns) env in
    each-is-clean rows
    (held-clean true tables ns k.0 given (λ fact s. inferred-in true tables ns given fact ((k.1 fact).0 s)) n i env (fits-in tables ns given env fit) d n.parts.kind refl (satisfied tables ns n given.bases i)
    (λ q l. refl) (clean-said ns k.0 k.1 given.ordered n i h))

-- over the facts that are inferred keys hold
pub told-keys : (known : Facts) (ns : List Node) → Tells known ns → (b : ℕ) (ks : List ℕ) → holds_key known.at_most_one ns b ks ≡ true → KeyHolds ns b ks
told-keys known ns tells b ks h tables given = keys-hold tables ns known given (λ fact s. inferred-holds tables ns given fact ((tells fact).0 s)) b ks h
