-- What is inferred holds in each environment that fits.
use Rattle.std.proofs.Common.{ℕ, ◌≡◌, ◌≤◌, ◌&&◌, cond, Bool, true, false, List, [], ◌∷◌, ◌++◌, length, None, refl, sym, ap, subst, ◌∙◌, inl}
use Rattle.std.specs.List.{list_all}
use Rattle.std.proofs.lemmas.Bool.{and_from, and_parts}
use mathlib.Core.Path.{fun_ext}
use Rattle.row_bag.specs.Bags.{bind, unit}
use Rattle.row_bag.specs.Errors.{error_among, error_in}
use Rattle.row_bag.specs.declared.tables.Table.{Table}
use Rattle.sql_value.specs.declared.cell.Cell.{Cell}
use Rattle.sql_value.specs.declared.order_key.SqlType.{SqlType}
use Rattle.qgm_core.specs.Kinds.{is_F, is_enforce}
use Rattle.list_laws.specs.Lists.{In}
use Rattle.qgm_core.specs.declared.kinds.BoxKind.TheVariants.{Select, SetOp}
use Rattle.qgm_core.specs.declared.kinds.SetOperator.{SetOperator}
use Rattle.qgm_core.specs.declared.kinds.Distinct.{Distinct}
use Rattle.qgm_core.specs.declared.node.Node.{Node}
use Rattle.qgm_core.specs.declared.owned.OwnedQuant.{OwnedQuant}
use Rattle.qgm_core.specs.declared.parts.BoxParts.{BoxParts}
use Rattle.qgm_meaning.specs.Exists.{each_box, some_box}
use Rattle.qgm_meaning.specs.Fits.{fits}
use Rattle.qgm_meaning.specs.Meaning.{Family, bag_in, given_by, over_each, quant_rows, rows_by}
use Rattle.qgm_meaning.specs.Rules.{as_E, as_F}
use Rattle.qgm_meaning.specs.Values.{Bag, Environment, all_true, bound, head_cells}
use Rattle.qgm_meaning.proofs.Joined.{over_each-append}
use Rattle.qgm_terms.specs.Terms.{Cond, Term, some}
use Rattle.qgm_props.specs.Facts.{IsClean}
use Rattle.qgm_props.specs.Inferred.{Fact, Facts, Inferred, all_under_F, at_most_one, clean, clean_under, cond_free, error_free, exactly_one, says}
use Rattle.qgm_props.specs.Laws.{FactsThere, Premises, Tells}
use Rattle.qgm_props.proofs.EachClean.{EachClean, clean-each, each-is-clean}
use Rattle.qgm_props.proofs.Environments.{rows-are}
use Rattle.qgm_props.proofs.Fitted.{fits-in}
use Rattle.qgm_props.proofs.Held.{no-error-read, ready}
use Rattle.qgm_props.proofs.InferredKeys.{keys-exact}
use Rattle.qgm_props.proofs.KeyTests.{two-key}
use Rattle.qgm_props.proofs.KeyedBoxes.{all-keyed}
use Rattle.qgm_props.proofs.Partial.{HoldsIn}
use Rattle.qgm_props.proofs.Rows.{clean-bind, clean-if, clean-keep}
use Rattle.qgm_props.proofs.Selects.{Ready, all-columns, all-rows, next-ready, skip-ready, under-bound}
use Rattle.qgm_props.proofs.Settled.{all-told, clean-said, inferred-in}
use Rattle.qgm_props.proofs.Terms.{SoundRows, all-decided, sound-bound}

module _ (tables : List Table) (ns : List Node) (given : Premises tables ns) where
  abbrev known : Facts
  known = (all-told ns).0

  tells : Tells known ns
  tells = (all-told ns).1

  all : (fact : Fact) → says known fact ≡ true → HoldsIn true tables ns fact
  all fact s = inferred-in true tables ns given fact ((tells fact).0 s)

  pub facts-fit : (env : Environment) → fits (bag_in tables ns) ns env ≡ true → FactsThere tables ns env
  facts-fit env fit = record {
    clean = λ b h. inferred-in true tables ns given (clean b) h env (fits-in tables ns given env fit) (λ q l. refl);
    error_free = λ b k h. inferred-in true tables ns given (error_free b k) h env (fits-in tables ns given env fit) (λ q l. refl);
    at_most_one = λ b h. inferred-in true tables ns given (at_most_one b) h env (fits-in tables ns given env fit) (λ q l. refl);
    exactly_one = λ b h. inferred-in true tables ns given (exactly_one b) h env (fits-in tables ns given env fit) (λ q l. refl);
    keys = λ b ks h. two-key ks (bag_in tables ns b env) (all-keyed true tables ns known given all b ks ((keys-exact known.at_most_one ns given.ordered b ks).1 (h known tells)) env (fits-in tables ns given env fit) (λ q l. refl));
  }

  pub arms-fit : (n : Node) (form : SetOperator) (types : List SqlType) (p q : OwnedQuant) (i : In n ns) → n.parts.kind ≡ SetOp form types → (j : In p n.quants) (k : In q n.quants)
      → Inferred ns (clean p.over) → Inferred ns (clean q.over) → ((k : ℕ) → 1 ≤ k → k ≤ length types → Inferred ns (error_free p.over k) × Inferred ns (error_free q.over k))
      → (env : Environment) → fits (bag_in tables ns) ns env ≡ true → error_among error_in (bag_in tables ns p.over env ++ bag_in tables ns q.over env) ≡ None
  arms-fit n form types p q i e j k cp cq f env fit =
      subst (λ z. error_among error_in (z ++ bag_in tables ns q.over env) ≡ None) (rows-are true tables ns known given all n i p j env)
      (subst (λ z. error_among error_in (quant_rows n (bag_in tables ns) p.id env ++ z) ≡ None) (rows-are true tables ns known given all n i q k env)
      (no-error-read true tables ns known given all n i env (fits-in tables ns given env fit) form types e (λ q h. refl) p q j k ((tells (clean p.over)).1 cp) ((tells (clean q.over)).1 cq)
      (λ m a b. (let h = f m a b in ((tells (error_free p.over m)).1 h.0, (tells (error_free q.over m)).1 h.1)))))

  -- what is given where all F quantifiers are bound is clean, and so it is for each combination of rows
  module _ (n : Node) (here : In n ns) (give : Environment → Bag) (each : (e : Environment) → Ready true tables ns known given all n here [] e → EachClean (give e)) where
    abbrev s : Family
    s = quant_rows n (bag_in tables ns)

    each-of : (rs : List OwnedQuant) (e : Environment) → Ready true tables ns known given all n here rs e → all_under_F known.clean rs ≡ true → EachClean (over_each rs s give e)
    each-of [] e ready c = each e ready
    each-of (r ∷ rs) e ready c = one (is_F r.kind) refl c (λ e ready c. each-of rs e ready c)
      where
        one : (b : Bool) → is_F r.kind ≡ b → cond b (known.clean r.over && all_under_F known.clean rs) (all_under_F known.clean rs) ≡ true
            → ((e : Environment) → Ready true tables ns known given all n here rs e → all_under_F known.clean rs ≡ true → EachClean (over_each rs s give e))
            → EachClean (cond b (bind (s r.id e) (λ cells. over_each rs s give (bound r.id cells e))) (over_each rs s give e))
        one true f c i =
            let a = and_parts (known.clean r.over) (all_under_F known.clean rs) c in
            clean-bind (s r.id e) (λ cells. over_each rs s give (bound r.id cells e))
            (clean-each (s r.id e) (subst IsClean (sym (rows-are true tables ns known given all n here r (ready.own r (inl refl)) e)) (all (clean r.over) a.0 e ready.fit (under-bound true tables ns known given all n here r rs e f ready))))
            (λ cells o. i (bound r.id cells e) (next-ready true tables ns known given all n here r rs e f ready cells o) a.1)
        one false f c i = i e (skip-ready true tables ns known given all n here r rs e f ready) c

  module _ (b : ℕ) (p : BoxParts) (d : Distinct) (us : List OwnedQuant) (i over : ℕ) (vs : List OwnedQuant) (xs : List Cond) (c : Cond) (ys : List Cond) (head : List Term)
      (here : In (some_box b p d us i over vs xs c ys head) ns) (sure : Inferred ns (clean b)) where
    abbrev N : Node
    N = some_box b p d us i over vs xs c ys head

    abbrev t : Family
    t = quant_rows N (bag_in tables ns)

    said : (all_under_F known.clean N.quants ≡ true) × (list_all (cond_free ns known false) N.parts.conds.items ≡ true)
    said = and_parts (all_under_F known.clean N.quants) (list_all (cond_free ns known false) N.parts.conds.items) (clean-said ns known tells given.ordered N here sure)

    opened : (xs : List Cond) → list_all (cond_free ns known false) (xs ++ some i c ∷ ys) ≡ true → (clean_under ns known i ≡ true) × (list_all (cond_free ns known false) (xs ++ c ∷ ys) ≡ true)
    opened [] h =
        let a = and_parts (cond_free ns known false (some i c)) (list_all (cond_free ns known false) ys) h in
        let e = and_parts (clean_under ns known i) (cond_free ns known false c) a.0 in
        (e.0, and_from (cond_free ns known false c) (list_all (cond_free ns known false) ys) e.1 a.1)
    opened (x ∷ xs) h =
        let a = and_parts (cond_free ns known false x) (list_all (cond_free ns known false) (xs ++ some i c ∷ ys)) h in
        let e = opened xs a.1 in
        (e.0, and_from (cond_free ns known false x) (list_all (cond_free ns known false) (xs ++ c ∷ ys)) a.0 e.1)

    module _ (unread : (q : ℕ) (cells : List Cell) (env : Environment) → t q (bound i cells env) ≡ t q env) (after : Distinct) where
      abbrev M : Node
      M = each_box b p after us i over vs xs c ys head

      inside : (e : Environment) → Ready true tables ns known given all N here [] e → EachClean (bind (t i e) (λ cells. given_by t M (bound i cells e)))
      inside e ready =
          let rows = all-rows true tables ns known given all N here e ready in
          let free = opened xs said.1 in
          clean-bind (t i e) (λ cells. given_by t M (bound i cells e)) (rows.clean i free.0) (λ cells o. (
          let same : (λ q. t q e) ≡ (λ q. t q (bound i cells e)) = fun_ext (λ q. sym (unread q cells e)) in
          let rows' : SoundRows ns known (λ q. t q (bound i cells e)) = subst (SoundRows ns known) same rows in
          clean-keep (all_true (λ q. t q (bound i cells e)) M.parts.conds.items (bound i cells e)).t (unit (head_cells (λ q. t q (bound i cells e)) head (bound i cells e)))
          (all-decided ns known (λ q. t q (bound i cells e)) rows' M.parts.conds.items (bound i cells e) (sound-bound ns known (λ q. t q e) rows i cells e (all-columns true tables ns known given all N here e [] ready) o) free.1).0 (refl, tt)))

      abbrev give : Environment → Bag
      give e = bind (t i e) (λ cells. given_by t M (bound i cells e))

      same-each : (env : Environment) → over_each N.quants t give env ≡ over_each M.quants t (given_by t M) env
      same-each env =
          ap (λ (k : Environment → Bag). k env) (over_each-append us (as_E i over ∷ vs) t give ∙ sym (over_each-append us vs t give))
          ∙ ap (λ (k : Environment → Bag). k env) (sym (over_each-append (us ++ vs) (as_F i over ∷ []) t (given_by t M)))

      pub joined-fits : (env : Environment) → fits (bag_in tables ns) ns env ≡ true → IsClean (rows_by Select tables M t env)
      joined-fits env fit =
          each-is-clean (rows_by Select tables M t env) (clean-if (is_enforce after) (over_each M.quants t (given_by t M) env)
          (subst EachClean (same-each env) (each-of N here give inside N.quants env (ready true tables ns known given all N here env (fits-in tables ns given env fit) (λ q l. refl)) said.0)))
