-- The outer join of the magic box and groups: what is asked of it where it is made.
use Rattle.std.proofs.Common.{ℕ, suc, ◌≡◌, ◌≤◌, ◌+◌, ◌&&◌, ◌||◌, nat_lt, not, Bool, true, false, List, [], ◌∷◌, ◌++◌, map, length, Option, refl, sym, ap, ap₂, subst, ◌∙◌, inr, arith}
use Rattle.std.specs.Prelude.{slice_get}
use Rattle.std.specs.List.{list_all, list_any}
use Rattle.sql_value.specs.declared.order_key.SqlType.{SqlType}
use Rattle.qgm_core.specs.Boxes.{Ordered, ids_in, width}
use Rattle.qgm_core.specs.Kinds.{is_permit}
use Rattle.list_laws.specs.Lists.{In, times}
use Rattle.qgm_core.specs.declared.node.Node.{Node}
use Rattle.qgm_wellformed.specs.Shapes.{is_scalar}
use Rattle.qgm_wellformed.specs.Types.{Lookup, cond_fits, is_known, joined_column, term_type}
use Rattle.qgm_edit_laws.specs.Graph.{Sound}
use Rattle.qgm_edit_laws.specs.Rebuilds.{HasForm, MadeIn}
use Rattle.qgm_edit_laws.proofs.ShapedPut.{all-joined}
use Rattle.qgm_edit_laws.proofs.TypesBy.{found_by, via}
use Rattle.qgm_meaning.specs.Tags.{columns_from}
use Rattle.qgm_terms.specs.Terms.{Term}
use Rattle.qgm_terms.specs.Wanted.{reads, reads_at}
use Rattle.rule_magic.specs.Boxes.{joined_box, later, same_each}
use Rattle.rule_magic.proofs.AbsorbFacts.{read-columns}
use Rattle.rule_magic.proofs.AbsorbSelectFormed.{columns-long, found-suc, length-append, map-append, none-aggregate, none-names}
use Rattle.rule_magic.proofs.BehindColumns.{columns-typed}
use Rattle.rule_magic.proofs.FrontColumns.{front-columns, front-none, front-places, front-reads, front-unfolded, same-fits}
use Rattle.rule_magic.proofs.OuterFormed.{IsOuterOver, outer-form, outer-made, under-l, under-r}
use Rattle.rule_magic.proofs.PairFormed.{all-columns, read-at-columns}
use Rattle.list_laws.proofs.Booleans.{or-false}

pub nothing-more : {X : Type 0} (zs : List X) → zs ≡ zs ++ []
nothing-more [] = refl
nothing-more (z ∷ zs) = ap (λ (y : List _). z ∷ y) (nothing-more zs)

-- box n is the outer join of m and of groups
pub record IsJoined (hs : List Node) (look : ℕ → ℕ → Bool) (n m g : Node) (om oc len : ℕ) : Type 0 where
  pub ordered : Ordered hs
  pub once : (p : ℕ) → times p (ids_in hs) ≤ 1
  pub in_n : In n hs
  pub in_m : In m hs
  pub in_g : In g hs
  pub closed_m : (p : ℕ) → look m.id p ≡ false
  pub closed_g : (p : ℕ) → look g.id p ≡ false
  pub nothing : (p : ℕ) → look n.id p ≡ false
  pub wide : width g ≡ width m + len

module _ (hs : List Node) (look : ℕ → ℕ → Bool) (b om oc len : ℕ) (m g : Node) (is : IsJoined hs look (joined_box b om m.id oc g.id (width m) len) m g om oc len) where
  abbrev j : Node
  j = joined_box b om m.id oc g.id (width m) len

  abbrev first_cols : List Term
  first_cols = columns_from om 1 (width m)

  abbrev last_cols : List Term
  last_cols = later oc (width m) len

  -- the outer join but for the columns and the conditions of the magic box
  abbrev rest : Node
  rest = record j { parts = record j.parts { conds = record { items = []; spare = 0 }; head = later oc (width m) len } }

  joined_outer : IsOuterOver hs look j m g om oc
  joined_outer = record {
    ordered = is.ordered;
    once = is.once;
    in_n = is.in_n;
    in_left = is.in_m;
    in_right = is.in_g;
    closed_left = is.closed_m;
    closed_right = is.closed_g;
    nothing = is.nothing;
    an_outer = refl;
    quants = refl;
    reads = front-reads j rest om oc (width m) (width m) refl refl (λ p h. inr (read-columns p oc (suc (width m)) len (sym (or-false (list_any (reads p) last_cols)) ∙ h)));
    places = front-places j rest om oc (width m) (width m) refl refl (width m) (width g) (omega arith) (omega arith) (let e = is.wide in omega (arith, e))
        (λ p k h. (let x = read-at-columns p k oc (suc (width m)) len (sym (or-false (list_any (reads_at p k) last_cols)) ∙ h) in let lo = x.1 in let hi = x.2 in let e = is.wide in inr (x.0, (omega (arith, lo), omega (arith, hi, e)))));
    none = front-none j rest om oc (width m) (width m) refl refl (λ p. ap (λ b. b || false) (none-names p oc (suc (width m)) len));
  }

  pub joined-made : MadeIn hs look j
  joined-made = outer-made hs look j m g om oc joined_outer

  pub width-joined : width j ≡ width m + len
  width-joined = length-append first_cols last_cols ∙ ap₂ ◌+◌ (columns-long om 1 (width m)) (columns-long oc (suc (width m)) len)

  module _ (root : ℕ) (vs : Sound hs root) (T : ℕ → List (Option SqlType)) (M C : List (Option SqlType)) (T-m : T m.id ≡ M) (T-g : T g.id ≡ M ++ C) (long-m : length M ≡ width m) (long-c : length C ≡ len)
      (T-n : T b ≡ M ++ C) (known_m : list_all is_known M ≡ true) (known_c : list_all is_known C ≡ true) (plain_m : is_permit m.parts.distinct ≡ false) (plain_g : is_permit g.parts.distinct ≡ false) (scalar : is_scalar hs b ≡ true → nat_lt 0 (width j) ≡ true) where
    abbrev V : Lookup
    V = via T hs

    V-om : (k : ℕ) → V om (suc k) ≡ joined_column (slice_get (M ++ []) k)
    V-om k = ap (found_by T (suc k)) (under-l hs look j m g om oc joined_outer root vs T) ∙ found-suc T k m ∙ ap (λ (z : List (Option SqlType)). joined_column (slice_get z k)) (T-m ∙ nothing-more M)

    V-oc : (k : ℕ) → V oc (suc k) ≡ joined_column (slice_get (M ++ C) k)
    V-oc k = ap (found_by T (suc k)) (under-r hs look j m g om oc joined_outer root vs T) ∙ found-suc T k g ∙ ap (λ (z : List (Option SqlType)). joined_column (slice_get z k)) T-g

    typed-new : T b ≡ map (term_type V) (first_cols ++ last_cols)
    typed-new = T-n ∙ ap₂ (λ (y z : List (Option SqlType)). y ++ z)
        (sym (ap (λ z. map (term_type V) (columns_from om 1 z)) (sym long-m) ∙ columns-typed V om [] M [] V-om))
        (sym (ap₂ (λ y z. map (term_type V) (columns_from oc (suc y) z)) (sym long-m) (sym long-c) ∙ columns-typed V oc M C [] (λ k. V-oc k ∙ ap (λ (z : List (Option SqlType)). joined_column (slice_get (M ++ z) k)) (nothing-more C))))
        ∙ sym (map-append (term_type V) first_cols last_cols)

    pub joined-form : HasForm hs root T j
    joined-form = outer-form hs look j m g om oc joined_outer root vs T typed-new (ap (list_all is_known) T-n ∙ all-joined is_known M C known_m known_c)
        (subst (λ i. list_all (cond_fits V) (same_each om oc 1 i) ≡ true) long-m (same-fits V om oc [] M [] C V-om V-oc known_m))
        (front-columns j rest om oc (width m) (width m) refl refl (all-columns oc (suc (width m)) len)) (front-unfolded j rest om oc (width m) (width m) refl refl (ap (λ b. not b && true) (none-aggregate oc (suc (width m)) len)))
        refl refl plain_m plain_g scalar
