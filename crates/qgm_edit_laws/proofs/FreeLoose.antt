-- What is free in a box is what it looks up.
use Rattle.std.proofs.Common.{ℕ, ◌==◌, ◌≡◌, ◌&&◌, ◌||◌, ◌≤◌, cond, not, Bool, true, false, List, [], ◌∷◌, Option, Some, None, refl, sym, ap, ◌∙◌, ◌⊎◌, inl, inr, arith}
use Rattle.std.specs.List.{list_any}
use Rattle.std.proofs.lemmas.Bool.{and_parts, cases_Bool, or_cases, or_left, or_right}
use Rattle.qgm_core.specs.Boxes.{is_quant, owns}
use Rattle.qgm_core.specs.Free.{IsFree, NamedBelow, Reaches, free_in, itself, through}
use Rattle.qgm_core.specs.Kinds.{is_F}
use Rattle.list_laws.specs.Lists.{In, first, holds}
use Rattle.qgm_core.specs.declared.kinds.BoxKind.{BoxKind}
use Rattle.qgm_core.specs.declared.kinds.BoxKind.TheVariants.{Base, Group, OuterJoin, Select, SetOp}
use Rattle.qgm_core.specs.declared.node.Node.{Node}
use Rattle.qgm_core.specs.declared.owned.OwnedQuant.{OwnedQuant}
use Rattle.qgm_wellformed.specs.Shapes.{only}
use Rattle.qgm_wellformed.specs.WellFormed.{is_empty}
use Rattle.qgm_wellformed.proofs.Below.{free-free}
use Rattle.qgm_wellformed.proofs.ClosedLaws.{finds-alone}
use Rattle.qgm_meaning.specs.Scope.{loose, loose_by, loose_each, looks_found, quant_looks, read_beyond, read_by, under_any}
use Rattle.qgm_edit_laws.specs.Graph.{Sound}
use Rattle.qgm_edit_laws.specs.Placed.{place}
use Rattle.qgm_edit_laws.proofs.Checked.{free-loose}
use Rattle.qgm_edit_laws.proofs.Formed.{free-read}
use Rattle.qgm_edit_laws.proofs.Levels.{some-in}
use Rattle.qgm_edit_laws.proofs.Ranks.{place-under}
use Rattle.qgm_edit_laws.proofs.Read.{read-named}
use Rattle.qgm_edit_laws.proofs.Scope.{above-owner, loose-within, touches, unfold-loose}
use Rattle.list_laws.proofs.Membership.{any-from, any-in, eq-itself}
use Rattle.list_laws.proofs.Booleans.{clash}

-- ---- what a box looks up it reads, or a box below it looks it up

module _ (n : Node) (under : ℕ → ℕ → Bool) (q : ℕ) where
  found-under : (x : ℕ) (o : Option OwnedQuant) → first (is_quant x) n.quants ≡ o → looks_found o under q ≡ true → under_any n.quants under q ≡ true
  found-under x None e t = absurd (cc t)
  found-under x (Some r) e t = any-from (λ (r : OwnedQuant). under r.over q) r n.quants (some-in (is_quant x) n.quants r e).0 t

  each-touched : (rs : List OwnedQuant) → loose_each rs n under q ≡ true → touches n under q ≡ true
  each-touched [] t = t
  each-touched (r ∷ rs) t = elim (is_F r.kind) as (λ f. cond f (quant_looks n under r.id q || (not (r.id == q) && loose_each rs n under q)) (loose_each rs n under q) ≡ true → touches n under q ≡ true) [
    | true ↦ λ t. elim (or_cases (quant_looks n under r.id q) (not (r.id == q) && loose_each rs n under q) t) [
      | inl a ↦ or_right (read_by n q) (under_any n.quants under q) (found-under r.id (first (is_quant r.id) n.quants) refl a)
      | inr a ↦ each-touched rs (and_parts (not (r.id == q)) (loose_each rs n under q) a).1
    ]
    | false ↦ λ t. each-touched rs t
  ] t

  beyond-touched : (own : List OwnedQuant) → (under_any n.quants under q || read_beyond own (read_by n) q) ≡ true → touches n under q ≡ true
  beyond-touched own t = elim (or_cases (under_any n.quants under q) (read_beyond own (read_by n) q) t) [
    | inl a ↦ or_right (read_by n q) (under_any n.quants under q) a
    | inr a ↦ or_left (read_by n q) (under_any n.quants under q) (and_parts (not (list_any (is_quant q) own)) (read_by n q) a).1
  ]

  pub looks-touched : (k : BoxKind) → loose_by k n under q ≡ true → touches n under q ≡ true
  looks-touched (Base t) h = absurd (cc h)
  looks-touched Select h = each-touched n.quants h
  looks-touched (Group k) h = beyond-touched _ h
  looks-touched (SetOp form types) h = or_right (read_by n q) (under_any n.quants under q) h
  looks-touched OuterJoin h = beyond-touched _ h

module _ (bs : List Node) (root : ℕ) (w : Sound bs root) where
  reach-place : (b c : ℕ) → Reaches bs b c → place bs b ≤ place bs c
  reach-place b c (itself x) = omega arith
  reach-place b c (through n r x i j k) = let l = place-under bs n r w.ordered i j in let h = reach-place r.over c k in omega arith

  looks-named : (b q : ℕ) → loose bs b q ≡ true → NamedBelow bs b q
  looks-named = loose-within (λ b q. NamedBelow bs b q) bs (λ n i under h q t. elim (or_cases (read_by n q) (under_any n.quants under q) (looks-touched n under q n.parts.kind t)) [
    | inl a ↦ (n, (i, (itself n.id, read-named q n a)))
    | inr a ↦ (let r = any-in (λ (r : OwnedQuant). under r.over q) n.quants a in let x = h r.0.over q r.1.1 in (x.0, (x.1.0, (through n r.0 x.0.id i r.1.0 x.1.1.0, x.1.1.1))))
  ])

  pub looks-free : (b q : ℕ) → loose bs b q ≡ true → IsFree bs b q
  looks-free b q t = (
    looks-named b q t,
    λ n i r. elim (cases_Bool (owns q n)) [
      | inr f ↦ f
      | inl y ↦ absurd (let l = above-owner bs root w b q t n i y in let h = reach-place b n.id r in omega arith)
    ],
  )

  pub free-looks : (b q : ℕ) → IsFree bs b q → loose bs b q ≡ true
  free-looks b q f = free-loose bs w.ordered root w b q (free-read (record { root = root; names = []; order = []; boxes = bs }) w b q f)

  -- the first alone is free in a box where it alone is looked up there
  pub alone-from : (b q : ℕ) → loose bs b q ≡ true → ((p : ℕ) → loose bs b p ≡ true → p ≡ q) → only q (free_in bs b) ≡ true
  alone-from b q t h = (finds-alone bs w.ordered b q).1 (looks-free b q t, λ p f. h p (free-looks b p f))

  pub alone-to : (b q : ℕ) → only q (free_in bs b) ≡ true → (loose bs b q ≡ true) × ((p : ℕ) → loose bs b p ≡ true → p ≡ q)
  alone-to b q t = let x = (finds-alone bs w.ordered b q).0 t in (free-looks b q x.0, λ p h. x.1 p (looks-free b p h))

  -- a box that isn't closed looks something up
  pub open-looks : (b : ℕ) → is_empty (free_in bs b) ≡ false → (q : ℕ) × (loose bs b q ≡ true)
  open-looks b h = let x = some-held (free_in bs b) h in (x.0, free-looks b x.0 ((free-free bs w.ordered b x.0).0 x.1))
    where
      some-held : (xs : List ℕ) → is_empty xs ≡ false → (p : ℕ) × (holds p xs ≡ true)
      some-held [] h = absurd (cc h)
      some-held (x ∷ xs) h = (x, or_left (x == x) (holds x xs) (eq-itself x))

  -- what is asked of a box in a sound graph
  pub looks-asked : (n : Node) → In n bs → (q : ℕ) → loose bs n.id q ≡ true → (owns q n ≡ false) × ((read_by n q ≡ true) ⊎ ((r : OwnedQuant) × (In r n.quants × (loose bs r.over q ≡ true))))
  looks-asked n i q t = (
    (elim (cases_Bool (owns q n)) [ inr f ↦ f | inl y ↦ absurd (clash (loose bs n.id q) t (w.settled n i q y)) ]),
    (elim (or_cases (read_by n q) (under_any n.quants (loose bs) q) (looks-touched n (loose bs) q n.parts.kind (ap (λ (h : ℕ → Bool). h q) (sym (unfold-loose bs n w.ordered i)) ∙ t))) [
      | inl a ↦ inl a
      | inr a ↦ inr (any-in (λ (r : OwnedQuant). loose bs r.over q) n.quants a)
    ]),
  )
