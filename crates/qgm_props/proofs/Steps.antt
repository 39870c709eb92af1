-- One entry improved.
use Rattle.std.proofs.Common.{ℕ, zero, suc, ◌≡◌, ◌<◌, List, [], ◌∷◌, length, Some, slice_get, slice_set, get_or, refl, sym, ap, subst, ◌∙◌, arith}
use Rattle.qgm_core.specs.declared.node.Node.{Node}
use Rattle.qgm_props.specs.Table.{Improves, StableAt, facts_of, gone, improved, unknown_in, unknown_of}
use Rattle.qgm_props.specs.declared.facts.BoxFacts.{BoxFacts}
use Rattle.qgm_props.proofs.Improving.{beside, entry-at, improved-less, unknown-set}

pub got : {X : Type 0} (xs : List X) (i : ℕ) (x : X) → i < length xs → x ≡ get_or xs i x → slice_get xs i ≡ Some x
got [] i x h e = absurd (let z : ⊥ = omega (arith, h) in z)
got {X} (y ∷ ys) zero x h e = ap (λ (z : X). Some z) (sym e)
got (y ∷ ys) (suc i) x h e = got ys i x (let p : length (y ∷ ys) ≡ suc (length ys) = refl in omega (arith, p, h)) e

module _ (nodes : List Node) (table seen : List BoxFacts) (i : ℕ) (n : Node) (f e g : BoxFacts) (before : Improves nodes table) (see : seen ≡ table)
    (within : i < length nodes) (inside : i < length table) (node : n ≡ get_or nodes i n) (old : f ≡ get_or table i f) (again : e ≡ get_or table i e) (made : g ≡ improved nodes (facts_of seen) n f) where
  node-at : slice_get nodes i ≡ Some n
  node-at = got nodes i n within node

  fact-at : slice_get table i ≡ Some f
  fact-at = got table i f inside old

  same-old : e ≡ f
  same-old = let w : Some e ≡ Some f = sym (got table i e inside again) ∙ fact-at in cc

  made-is : g ≡ improved nodes (facts_of table) n f
  made-is = subst (λ (t : List BoxFacts). g ≡ improved nodes (facts_of t) n f) see made

  pub step-improves : Improves nodes (slice_set table i g)
  step-improves = subst (λ (g : BoxFacts). Improves nodes (slice_set table i g)) (sym made-is) (gone table i n f before node-at fact-at)

  pub step-stable : g ≡ e → StableAt nodes table i
  step-stable same m h p q =
      let a : m ≡ n = (let w : Some m ≡ Some n = sym p ∙ node-at in cc) in
      let b : h ≡ f = (let w : Some h ≡ Some f = sym q ∙ fact-at in cc) in
      subst (λ (m : Node). improved nodes (facts_of table) m h ≡ h) (sym a) (subst (λ (h : BoxFacts). improved nodes (facts_of table) n h ≡ h) (sym b) (sym made-is ∙ same ∙ same-old))

  pub step-less : (g ≡ e → ⊥) → unknown_in (slice_set table i g) < unknown_in table
  step-less differs =
      let l = improved-less nodes (facts_of table) n f (entry-at nodes table i n f (beside nodes table before) node-at fact-at) (λ w. differs (made-is ∙ w ∙ sym same-old)) in
      let s = unknown-set table i f g fact-at in let m : unknown_of g ≡ unknown_of (improved nodes (facts_of table) n f) = ap unknown_of made-is in omega (arith, l, s, m)

  -- it is of the same box
  pub step-id : (get_or table i g).id ≡ g.id
  step-id = ap (λ (x : BoxFacts). x.id) (read table i f g inside old) ∙ sym (ap (λ (x : BoxFacts). x.id) made-is)
    where
      read : (xs : List BoxFacts) (i : ℕ) (x d : BoxFacts) → i < length xs → x ≡ get_or xs i x → get_or xs i d ≡ x
      read [] i x d h e = absurd (let z : ⊥ = omega (arith, h) in z)
      read (y ∷ ys) zero x d h e = sym e
      read (y ∷ ys) (suc i) x d h e = read ys i x d (let p : length (y ∷ ys) ≡ suc (length ys) = refl in omega (arith, p, h)) e
