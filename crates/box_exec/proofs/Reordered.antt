-- A select over kept rows gives the same where its quantifiers are bound in another order.
use Rattle.std.proofs.Common.{ℕ, suc, zero, ◌≡◌, ◌<◌, ◌==◌, All, false, List, [], ◌∷◌, Some, get_or, length, refl, sym, ap, subst, ◌∙◌, ◌⊎◌, inl, inr, arith, eqb-true}
use Rattle.std.proofs.lemmas.Bool.{cases_Bool}
use Rattle.std.proofs.lemmas.List.{get_or_default}
use Rattle.row_bag.specs.Bags.{Alike}
use Rattle.row_bag.proofs.Agreement.{alike-same, alike-sym, alike-trans}
use Rattle.qgm_core.specs.Boxes.{is_quant}
use Rattle.qgm_core.specs.declared.owned.OwnedQuant.{OwnedQuant}
use Rattle.list_laws.specs.Lists.{In, first}
use Rattle.qgm_meaning.specs.Meaning.{given_by, quant_rows}
use Rattle.qgm_meaning.specs.Scope.{loose}
use Rattle.qgm_meaning.specs.Values.{Environment}
use Rattle.qgm_meaning.proofs.Frames.{any-framed, bag-framed, over_each-framed}
use Rattle.box_exec.specs.Hashed.{AllKept, rows_kept}
use Rattle.box_exec.specs.Lasting.{Reorders}
use Rattle.box_exec.specs.Plans.{Planned, family, ranges, tables_of}
use Rattle.box_exec.specs.Ready.{over_left}
use Rattle.box_exec.specs.declared.boxes.At.{At}
use Rattle.box_exec.specs.declared.under.Loop.{Loop}
use Rattle.box_exec.proofs.Hashing.{kept-at}
use Rattle.box_exec.proofs.Orders.{Goes, Steady, in-order, reordered-in}
use Rattle.box_exec.proofs.Quantifiers.{bound-of, quant-at}
use Rattle.box_exec.proofs.Rejections.{all-at, in-map-at}

-- the loop of a range
loop-in : (ls : List Loop) (t : OwnedQuant) → In t (ranges ls) → (l : Loop) × ((i : ℕ) × ((i < length ls) × (l ≡ get_or ls i l) × (l.range ≡ t)))
loop-in [] t i = elim i [ ]
loop-in (m ∷ ls) t i = elim i [
  | inl e ↦ (m, (zero, (omega arith, refl, e)))
  | inr j ↦ (let x = loop-in ls t j in let inside = x.1.1.0 in (x.0, (suc x.1.0, (omega (arith, inside), x.1.1.1, x.1.1.2))))
]

module _ (at : At) (plan : Planned at) where
  looks : (q : ℕ) → Goes (quant_rows at.node.now (family at) q)
  looks q d e h = alike-same (any-framed at.node.now (family at) (loose at.below.now) (λ b d e g. bag-framed (tables_of at) at.below.now b d e g) q d e (record { rows = λ x t. h x }))

  gives : Goes (given_by (quant_rows at.node.now (family at)) at.node.now)
  gives d e h = alike-same (over_each-framed at.node.now (family at) (loose at.below.now) (λ b d e g. bag-framed (tables_of at) at.below.now b d e g) [] d e (record { rows = λ x t. h x }))

  -- a quantifier over kept rows has the same rows in every environment
  steady : AllKept at.loops.now → (t : OwnedQuant) → In t at.node.now.quants → Steady (quant_rows at.node.now (family at)) looks t
  steady kept t i d e =
      let x = loop-in at.loops.now t (subst (In t) (sym plan.ranged) i) in
      let l = x.0 in
      let k = x.1.0 in
      let inside = x.1.1.0 in
      let is = x.1.1.1 in
      let rows : (env : Environment) → Alike (rows_kept l.under) (quant_rows at.node.now (family at) l.range.id env) = λ env.
      alike-trans (kept-at at (bound-of at plan) kept k l inside is env) (alike-same (sym (quant-at at plan k l inside is env))) in
      subst (λ (r : OwnedQuant). Alike (quant_rows at.node.now (family at) r.id d) (quant_rows at.node.now (family at) r.id e)) x.1.1.2
      (alike-trans (alike-sym (rows d)) (rows e))

  -- each has a number of its own
  apart : (r t : OwnedQuant) → In r at.node.now.quants → In t at.node.now.quants → ((r.id == t.id) ≡ false) ⊎ (r ≡ t)
  apart r t i j = elim (cases_Bool (r.id == t.id)) [
    | inl e ↦
        (let one = all-at (λ (x : OwnedQuant). first (is_quant x.id) at.node.now.quants ≡ Some x) r at.node.now.quants plan.fit.numbered i in
        let other = all-at (λ (x : OwnedQuant). first (is_quant x.id) at.node.now.quants ≡ Some x) t at.node.now.quants plan.fit.numbered j in
        let same : Some r ≡ Some t = sym one ∙ ap (λ (q : ℕ). first (is_quant q) at.node.now.quants) (eqb-true r.id t.id e) ∙ other in
        let is : r ≡ t = cc in
        inr is)
    | inr n ↦ inl n
  ]

  pub reordered-alike : AllKept at.loops.now → (rs : List OwnedQuant) → Reorders at.node.now.quants rs → (env : Environment)
      → Alike (over_left (tables_of at) at.node.now at.below.now rs env) (over_left (tables_of at) at.node.now at.below.now at.node.now.quants env)
  reordered-alike kept rs h env =
      alike-sym (in-order (quant_rows at.node.now (family at)) looks (given_by (quant_rows at.node.now (family at)) at.node.now) gives at.node.now.quants rs h apart (steady kept) env)

  -- those of loops in another order are found by their numbers
  pub reordered-own : (ls : List Loop) (rs : List OwnedQuant) → ranges ls ≡ rs → Reorders at.node.now.quants rs → All (λ l. first (is_quant l.range.id) at.node.now.quants ≡ Some l.range) ls
  reordered-own ls rs e h k d inside =
      let l = get_or ls k d in
      let here : In l.range (ranges ls) = in-map-at (λ (x : Loop). x.range) ls k l inside (get_or_default ls k d l inside) in
      all-at (λ (x : OwnedQuant). first (is_quant x.id) at.node.now.quants ≡ Some x) l.range at.node.now.quants plan.fit.numbered
      (reordered-in at.node.now.quants rs h l.range (subst (In l.range) e here))
