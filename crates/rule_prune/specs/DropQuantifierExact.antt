-- The places of N2 are exactly those where it may fire.
use Rattle.std.proofs.Common.{ℕ, suc, ◌≡◌, ◌&&◌, ◌||◌, ◌++◌, ◌≤◌, not, cond, Bool, true, false, List, [], ◌∷◌, filter, length, refl, sym, ap, ◌∙◌, arith}
use Rattle.std.specs.Prelude.{◌↔◌}
use Rattle.std.specs.List.{list_any}
use Rattle.std.proofs.lemmas.Bool.{and_from, and_parts, le-leb, leb-true, not-true, or_from, or_parts}
use Rattle.qgm_core.specs.Boxes.{QueryGraph, is_box, numbers}
use Rattle.qgm_core.specs.Kinds.{is_F}
use Rattle.list_laws.specs.Lists.{EachOnce, In}
use Rattle.qgm_core.specs.declared.node.Node.{Node}
use Rattle.qgm_core.specs.declared.owned.OwnedQuant.{OwnedQuant}
use Rattle.qgm_wellformed.specs.Sentences.{WellFormed}
use Rattle.qgm_meaning.specs.Scope.{read_by}
use Rattle.qgm_props.specs.Inferred.{clean, exactly_one}
use Rattle.qgm_edit_laws.proofs.Levels.{some-in}
use Rattle.qgm_edit_laws.specs.DropQuants.{without_those}
use Rattle.rule_api.specs.Rules.{Ascending}
use Rattle.rule_api.specs.declared.place.Place.{Place}
use Rattle.rule_facts.specs.FedClosed.{any_fed_closed}
use Rattle.rule_facts.proofs.FedClosed.{fed-from, fed-to}
use Rattle.rule_facts.specs.Told.{infers, told}
use Rattle.rule_facts.specs.Places.{is_plain_select, plain-from, plain-to, quant-from, quant-to, quants-ascend}
use Rattle.rule_prune.specs.DropQuantifier.{MayDropQuantifier, drop_quantifier_pairs, is_one_row, is_read, many_F, may_drop_quantifier, may_have, others}
use Rattle.list_laws.proofs.Membership.{any-none, any-not}

-- ---- another F quantifier

module _ (p : OwnedQuant → Bool) where
  one-more : (us : List OwnedQuant) (r : OwnedQuant) (vs : List OwnedQuant) → p r ≡ true → length (filter p (us ++ r ∷ vs)) ≡ suc (length (filter p (us ++ vs)))
  one-more [] r vs h = ap (λ t. length (cond t (r ∷ filter p vs) (filter p vs))) h
  one-more (u ∷ us) r vs h = elim (p u) as (λ t. length (cond t (u ∷ filter p (us ++ r ∷ vs)) (filter p (us ++ r ∷ vs))) ≡ suc (length (cond t (u ∷ filter p (us ++ vs)) (filter p (us ++ vs))))) [
    | true ↦ ap suc (one-more us r vs h)
    | false ↦ one-more us r vs h
  ]

  any-counts : (xs : List OwnedQuant) → list_any p xs ≡ true → 1 ≤ length (filter p xs)
  any-counts [] h = absurd (let z : ⊥ = cc in z)
  any-counts (x ∷ xs) h = elim (p x) as (λ t. (t || list_any p xs) ≡ true → 1 ≤ length (cond t (x ∷ filter p xs) (filter p xs))) [
    | true ↦ λ h. (let e : length (x ∷ filter p xs) ≡ suc (length (filter p xs)) = refl in omega (arith, e))
    | false ↦ λ h. any-counts xs h
  ] h

  counts-any : (xs : List OwnedQuant) → 1 ≤ length (filter p xs) → list_any p xs ≡ true
  counts-any [] h = absurd (let e : length (filter p []) ≡ 0 = refl in omega (arith, h, e))
  counts-any (x ∷ xs) h = elim (p x) as (λ t. 1 ≤ length (cond t (x ∷ filter p xs) (filter p xs)) → (t || list_any p xs) ≡ true) [
    | true ↦ λ h. refl
    | false ↦ λ h. counts-any xs h
  ] h

another-from : (us : List OwnedQuant) (r : OwnedQuant) (vs : List OwnedQuant) → is_F r.kind ≡ true → many_F (us ++ r ∷ vs) ≡ true → list_any (λ (x : OwnedQuant). is_F x.kind) (us ++ vs) ≡ true
another-from us r vs f h =
    let l = leb-true 2 (length (filter (λ (x : OwnedQuant). is_F x.kind) (us ++ r ∷ vs))) h in
    let e = one-more (λ (x : OwnedQuant). is_F x.kind) us r vs f in
    counts-any (λ (x : OwnedQuant). is_F x.kind) (us ++ vs) (omega (arith, l, e))

another-to : (us : List OwnedQuant) (r : OwnedQuant) (vs : List OwnedQuant) → is_F r.kind ≡ true → list_any (λ (x : OwnedQuant). is_F x.kind) (us ++ vs) ≡ true → many_F (us ++ r ∷ vs) ≡ true
another-to us r vs f h =
    let l = any-counts (λ (x : OwnedQuant). is_F x.kind) (us ++ vs) h in
    let e = one-more (λ (x : OwnedQuant). is_F x.kind) us r vs f in
    le-leb 2 (length (filter (λ (x : OwnedQuant). is_F x.kind) (us ++ r ∷ vs))) (omega (arith, l, e))

-- ---- the places

module _ (g : QueryGraph) (b i j : ℕ) where
  abbrev place : Place
  place = record { at = b; i = i; j = j }

  abbrev stays : Node → OwnedQuant → Bool
  stays n r = not (any_fed_closed (without_those n (others r.id) g))

  exact-from : In (i, j) (drop_quantifier_pairs g b) → MayDropQuantifier (record { at = b; i = i; j = j }) g
  unfolding drop_quantifier_pairs
  exact-from h =
      let x = quant-from (may_drop_quantifier g) g b i j h in
      let a = and_parts (may_have x.n) (is_one_row g.boxes x.r && (not (is_read g.boxes x.n x.r.id) && stays x.n x.r)) x.passes in
      let c = and_parts (is_plain_select x.n) (many_F x.n.quants) a.0 in
      let d = and_parts (is_one_row g.boxes x.r) (not (is_read g.boxes x.n x.r.id) && stays x.n x.r) a.1 in
      let e = and_parts (is_F x.r.kind) (infers g.boxes (clean x.r.over) && infers g.boxes (exactly_one x.r.over)) d.0 in
      let f = and_parts (infers g.boxes (clean x.r.over)) (infers g.boxes (exactly_one x.r.over)) e.1 in
      let k = and_parts (not (is_read g.boxes x.n x.r.id)) (stays x.n x.r) d.1 in
      let o = or_parts (read_by x.n x.r.id) (list_any (λ y. read_by y x.r.id) g.boxes) (not-true (is_read g.boxes x.n x.r.id) k.0) in
      record {
        b = x.n;
        us = x.us;
        r = x.r;
        vs = x.vs;
        no_second = x.second;
        found = x.found;
        nth = x.nth;
        unread = record {
          within = (some-in (is_box b) g.boxes x.n x.found).0;
          select = (plain-from x.n c.0).0;
          plain = (plain-from x.n c.0).1;
          split = x.split;
          is_f = e.0;
          unread = λ n w. any-none (λ (y : Node). read_by y x.r.id) n g.boxes o.1 w;
          clean = (told g.boxes (clean x.r.over)).0 f.0;
          one = (told g.boxes (exactly_one x.r.over)).0 f.1;
          last = fed-from (without_those x.n (others x.r.id) g) (not-true (any_fed_closed (without_those x.n (others x.r.id) g)) k.1);
        };
        another = another-from x.us x.r x.vs e.0 (ap many_F (sym x.split) ∙ c.1);
      }

  exact-to : MayDropQuantifier (record { at = b; i = i; j = j }) g → In (i, j) (drop_quantifier_pairs g b)
  unfolding drop_quantifier_pairs
  exact-to m =
      let x = m.unread in
      quant-to (may_drop_quantifier g) g b i j m.b m.us m.r m.vs m.no_second m.found x.split m.nth
      (and_from (may_have m.b) (is_one_row g.boxes m.r && (not (is_read g.boxes m.b m.r.id) && stays m.b m.r))
      (and_from (is_plain_select m.b) (many_F m.b.quants) (plain-to m.b x.select x.plain) (ap many_F x.split ∙ another-to m.us m.r m.vs x.is_f m.another))
      (and_from (is_one_row g.boxes m.r) (not (is_read g.boxes m.b m.r.id) && stays m.b m.r)
      (and_from (is_F m.r.kind) (infers g.boxes (clean m.r.over) && infers g.boxes (exactly_one m.r.over)) x.is_f
      (and_from (infers g.boxes (clean m.r.over)) (infers g.boxes (exactly_one m.r.over)) ((told g.boxes (clean m.r.over)).1 x.clean) ((told g.boxes (exactly_one m.r.over)).1 x.one)))
      (and_from (not (is_read g.boxes m.b m.r.id)) (stays m.b m.r)
      (ap not (or_from (read_by m.b m.r.id) (list_any (λ y. read_by y m.r.id) g.boxes) (x.unread m.b x.within) (any-not (λ (y : Node). read_by y m.r.id) g.boxes x.unread)))
      (ap not (fed-to (without_those m.b (others m.r.id) g) x.last)))))

-- N2 has exactly the places where it may fire
pub drop_quantifier_exact : (g : QueryGraph) (b i j : ℕ) → EachOnce (numbers g.boxes) → WellFormed g → In (i, j) (drop_quantifier_pairs g b) ↔ MayDropQuantifier (record { at = b; i = i; j = j }) g
drop_quantifier_exact g b i j u w = (exact-from g b i j, exact-to g b i j)

-- in order
pub drop_quantifier_ascend : (g : QueryGraph) (b : ℕ) → Ascending (drop_quantifier_pairs g b)
unfolding drop_quantifier_pairs
drop_quantifier_ascend g b = quants-ascend (may_drop_quantifier g) g b
