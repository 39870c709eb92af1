-- The edits in place of U2 come to its action, and can be taken back.
use Rattle.std.proofs.Common.{ℕ, ◌==◌, ◌≡◌, ◌||◌, cond, Bool, true, false, List, [], ◌∷◌, ◌++◌, Some, refl, sym, ap, ap₂, subst, ◌∙◌, eqb-true, ◌⊎◌, inl, inr, arith}
use Rattle.std.specs.List.{list_any}
use Rattle.std.proofs.lemmas.Bool.{cases_Bool, eq-eqb, or_parts}
use Rattle.qgm_core.specs.Boxes.{Ordered, QueryGraph, bare_box, box_of, has_box, ids_of, is_box, is_quant, owns}
use Rattle.qgm_core.specs.Edits.{drop_box, on_quant, put_range, range, redirect, with_terms}
use Rattle.list_laws.specs.Lists.{In, change, first, put_below, without}
use Rattle.qgm_core.specs.declared.kinds.QuantKind.TheVariants.{F}
use Rattle.qgm_core.specs.declared.node.Node.{Node}
use Rattle.qgm_core.specs.declared.owned.OwnedQuant.{OwnedQuant}
use Rattle.qgm_edit_laws.specs.Graph.{Sound}
use Rattle.rule_subquery.specs.ScalarToGroupLaws.{single_box, single_head, singled}
use Rattle.rule_subquery.specs.ScalarToGroupSteps.{empty_group, filled, no_conds, with_group}
use Rattle.qgm_edit_laws.proofs.Edits.{OnceEach, once-each}
use Rattle.qgm_edit_laws.proofs.Levels.{some-in}
use Rattle.qgm_edit_laws.proofs.OneBox.{owner-at}
use Rattle.qgm_edit_laws.proofs.Scope.{in-first, one-owner}
use Rattle.qgm_edit_laws.proofs.Turns.{first-own}
use Rattle.qgm_edit_laws.proofs.OneBoxSteps.{Sole, as-is, at-one, by-owner}
use Rattle.list_laws.proofs.Membership.{all-in, any-from, any-none, eq-false-sym, eq-itself, in-left}
use Rattle.list_laws.proofs.Booleans.{clash}
use Rattle.qgm_core.proofs.Reaching.{overs-held}
use Rattle.list_laws.proofs.Counting.{times-in}

-- ---- one among others

any-mid : (p : Node → Bool) (xs : List Node) (s : Node) (ys : List Node) → list_any p (xs ++ ys) ≡ false → p s ≡ false → list_any p (xs ++ s ∷ ys) ≡ false
any-mid p [] s ys h k = ap₂ (λ a b. a || b) k h
any-mid p (x ∷ xs) s ys h k = let e = or_parts (p x) (list_any p (xs ++ ys)) h in ap₂ (λ a b. a || b) e.0 (any-mid p xs s ys e.1 k)

any-begin : (p : Node → Bool) (xs ys : List Node) → list_any p (xs ++ ys) ≡ false → list_any p xs ≡ false
any-begin p [] ys h = refl
any-begin p (x ∷ xs) ys h = let e = or_parts (p x) (list_any p (xs ++ ys)) h in ap₂ (λ a b. a || b) e.0 (any-begin p xs ys e.1)

once-mid : (xs : List Node) (s : Node) (ys : List Node) → OnceEach (xs ++ ys) → has_box (xs ++ ys) s.id ≡ false → OnceEach (xs ++ s ∷ ys)
once-mid [] s ys o h = (h, o)
once-mid (x ∷ xs) s ys o h =
    let e = or_parts (x.id == s.id) (has_box (xs ++ ys) s.id) h in
    (any-mid (is_box x.id) xs s ys o.0 (eq-false-sym x.id s.id e.0), once-mid xs s ys o.1 e.1)

change-mid : (p : Node → Bool) (f : Node → Node) (xs : List Node) (s : Node) (ys : List Node) → list_any p xs ≡ false → p s ≡ true → change p f (xs ++ s ∷ ys) ≡ xs ++ f s ∷ ys
change-mid p f [] s ys h k = ap (λ t. cond t (f s ∷ ys) (s ∷ change p f ys)) k
change-mid p f (x ∷ xs) s ys h k =
    let e = or_parts (p x) (list_any p xs) h in
    ap (λ t. cond t (f x ∷ (xs ++ s ∷ ys)) (x ∷ change p f (xs ++ s ∷ ys))) e.0 ∙ ap (λ zs. x ∷ zs) (change-mid p f xs s ys e.1 k)

in-mid : (x : Node) (xs : List Node) (s : Node) (ys : List Node) → In x (xs ++ s ∷ ys) → (x ≡ s) ⊎ In x (xs ++ ys)
in-mid x [] s ys i = elim i [ inl e ↦ inl (sym e) | inr j ↦ inr j ]
in-mid x (y ∷ xs) s ys i = elim i [ inl e ↦ inr (inl e) | inr j ↦ elim (in-mid x xs s ys j) [ inl e ↦ inl e | inr k ↦ inr (inr k) ] ]

-- where b stands, and what is behind it
pub record Behind (b c : Node) (ns : List Node) : Type 0 where
  pub xs : List Node
  pub ys : List Node
  pub parted : ns ≡ xs ++ ys
  pub before : In b xs
  pub behind : In c ys
  pub put : (s : Node) → put_below (is_box b.id) s ns ≡ xs ++ s ∷ ys

module _ (g : QueryGraph) (w : Sound g.boxes g.root) (b : Node) (in-b : In b g.boxes) (r : OwnedQuant) (in-r : In r b.quants) (c : Node) (under : box_of r.over g ≡ Some c) where
  part : (ns : List Node) → Ordered ns → In b ns → first (is_box r.over) ns ≡ Some c → Behind b c ns
  part [] o i h = elim i [ ]
  part (n ∷ ns) o i h = elim (cases_Bool (n.id == b.id)) [
    | inl t ↦ (
        let same : Some n ≡ Some b = sym (in-first n (n ∷ ns) o (inl refl)) ∙ ap (λ z. first (is_box z) (n ∷ ns)) (eqb-true n.id b.id t) ∙ in-first b (n ∷ ns) o i in
        let is : n ≡ b = cc in
        let low : has_box ns r.over ≡ true = overs-here n ns o r (subst (λ (z : Node). In r z.quants) (sym is) in-r) in
        record {
          xs = n ∷ [];
          ys = ns;
          parted = refl;
          before = inl is;
          behind = (some-in (is_box r.over) ns c (later n ns o low h)).0;
          put = λ s. ap (λ (t : Bool). cond t (n ∷ (s ∷ ns)) (n ∷ put_below (is_box b.id) s ns)) t;
        })
    | inr e ↦ (
        let j : In b ns = elim i [ inl x ↦ absurd (clash (n.id == b.id) (eq-eqb n.id b.id (ap (λ (z : Node). z.id) x)) e) | inr j ↦ j ] in
        let k = part ns o.2 j (later n ns o (overs-held ns b r o.2 j in-r) h) in
        record {
          xs = n ∷ k.xs;
          ys = k.ys;
          parted = ap (λ zs. n ∷ zs) k.parted;
          before = inr k.before;
          behind = k.behind;
          put = λ s. ap (λ (t : Bool). cond t (n ∷ (s ∷ ns)) (n ∷ put_below (is_box b.id) s ns)) e ∙ ap (λ zs. n ∷ zs) (k.put s);
        })
  ]
    where
      later : (n : Node) (ns : List Node) → Ordered (n ∷ ns) → has_box ns r.over ≡ true → first (is_box r.over) (n ∷ ns) ≡ Some c → first (is_box r.over) ns ≡ Some c
      later n ns o low h = elim (cases_Bool (n.id == r.over)) [
        | inr f ↦ sym (ap (λ (t : Bool). cond t (Some n) (first (is_box r.over) ns)) f) ∙ h
        | inl t ↦ absurd (clash (has_box ns n.id) (subst (λ z. has_box ns z ≡ true) (sym (eqb-true n.id r.over t)) low) o.0)
      ]

      overs-here : (n : Node) (ns : List Node) → Ordered (n ∷ ns) → (x : OwnedQuant) → In x n.quants → has_box ns x.over ≡ true
      overs-here n ns o x k = all-in (λ (y : OwnedQuant). has_box ns y.over) x n.quants o.1 k

  pub stands : Behind b c g.boxes
  stands = part g.boxes w.ordered in-b under

  module _ (group : ℕ) (new_box : has_box g.boxes group ≡ false) where
    abbrev pub xs : List Node
    xs = stands.xs

    abbrev pub ys : List Node
    ys = stands.ys

    abbrev added : QueryGraph
    added = with_group b.id group g

    new-in : has_box (xs ++ ys) group ≡ false
    new-in = subst (λ z. has_box z group ≡ false) stands.parted new_box

    without-mid : (ks : List Node) (y : Node) (zs : List Node) → y.id ≡ group → has_box ks group ≡ false → without (is_box group) (ks ++ y ∷ zs) ≡ ks ++ zs
    without-mid [] y zs e h = ap (λ t. cond t zs (y ∷ without (is_box group) zs)) (eq-eqb y.id group e)
    without-mid (x ∷ ks) y zs e h =
        let k = or_parts (x.id == group) (has_box ks group) h in
        ap (λ t. cond t (ks ++ y ∷ zs) (x ∷ without (is_box group) (ks ++ y ∷ zs))) k.0 ∙ ap (λ ws. x ∷ ws) (without-mid ks y zs e k.1)

    -- the group goes again
    pub added-undone : drop_box group added ≡ g
    added-undone = ap (λ (z : List Node). record g { boxes = z }) (ap (without (is_box group)) (stands.put (bare_box group empty_group)) ∙ without-mid xs (bare_box group empty_group) ys refl (any-begin (is_box group) xs ys new-in) ∙ sym stands.parted)

    module _ (quant : ℕ) (new_quant : list_any (owns quant) g.boxes ≡ false) where
      abbrev s : Node
      s = single_box group quant c.id

      abbrev ranged : QueryGraph
      ranged = filled group quant c.id added

      ranged-is : ranged ≡ record g { boxes = xs ++ s ∷ ys }
      ranged-is = ap (λ (z : List Node). record g { boxes = z }) (
          ap (λ z. change (is_box group) (with_terms no_conds (single_head quant)) (change (is_box group) (put_range 0 (range quant F c.id)) z)) (stands.put (bare_box group empty_group))
          ∙ ap (change (is_box group) (with_terms no_conds (single_head quant))) (change-mid (is_box group) (put_range 0 (range quant F c.id)) xs (bare_box group empty_group) ys (any-begin (is_box group) xs ys new-in) (eq-itself group))
          ∙ change-mid (is_box group) (with_terms no_conds (single_head quant)) xs (put_range 0 (range quant F c.id) (bare_box group empty_group)) ys (any-begin (is_box group) xs ys new-in) (eq-itself group))

      own : owns r.id b ≡ true
      own = any-from (is_quant r.id) r b.quants in-r (eq-itself r.id)

      apart : (quant == r.id) ≡ false
      apart = elim (cases_Bool (quant == r.id)) [
        | inr f ↦ f
        | inl t ↦ absurd (clash (owns quant b) (subst (λ z. owns z b ≡ true) (sym (eqb-true quant r.id t)) own) (any-none (owns quant) b g.boxes new_quant in-b))
      ]

      -- U2's edits
      pub group-steps : redirect r.id group ranged ≡ singled xs ys group quant b c r g
      group-steps = ap (redirect r.id group) ranged-is ∙ ap (λ (z : List Node). record g { boxes = z })
          (owner-at r.id b (on_quant r.id (λ r. record r { over = group })) (xs ++ s ∷ ys)
          (once-mid xs s ys (subst OnceEach stands.parted (once-each g.boxes w.ordered)) new-in)
          (placed b xs stands.before) own
          (λ y i t. elim (in-mid y xs s ys i) [
            | inl e ↦ absurd (clash (owns r.id s) (subst (λ (z : Node). owns r.id z ≡ true) e t) (ap (λ a. a || false) apart))
            | inr j ↦ one-owner g.boxes g.root w r.id y b (subst (λ z. In y z) (sym stands.parted) j) in-b t own
          ]))
        where
          placed : (x : Node) (zs : List Node) → In x zs → In x (zs ++ s ∷ ys)
          placed x zs i = in-left x zs (s ∷ ys) i

      -- r ranges over its box again
      again : (rs : List OwnedQuant) → first (is_quant r.id) rs ≡ Some r → change (is_quant r.id) (λ x. record x { over = r.over }) (change (is_quant r.id) (λ x. record x { over = group }) rs) ≡ rs
      again [] h = refl
      again (x ∷ rs) h = elim (cases_Bool (x.id == r.id)) [
        | inl t ↦ (
            let e : Some x ≡ Some r = sym (ap (λ (b : Bool). cond b (Some x) (first (is_quant r.id) rs)) t) ∙ h in
            let is : r ≡ x = cc in
            ap (λ (b : Bool). change (is_quant r.id) (λ x. record x { over = r.over }) (cond b ((record x { over = group }) ∷ rs) (x ∷ change (is_quant r.id) (λ x. record x { over = group }) rs))) t
            ∙ ap (λ (b : Bool). cond b ((record x { over = r.over }) ∷ rs) ((record x { over = group }) ∷ change (is_quant r.id) (λ x. record x { over = r.over }) rs)) t
            ∙ ap (λ (z : OwnedQuant). (record x { over = z.over }) ∷ rs) is)
        | inr f ↦
            ap (λ (b : Bool). change (is_quant r.id) (λ x. record x { over = r.over }) (cond b ((record x { over = group }) ∷ rs) (x ∷ change (is_quant r.id) (λ x. record x { over = group }) rs))) f
            ∙ ap (λ (b : Bool). cond b ((record x { over = r.over }) ∷ change (is_quant r.id) (λ x. record x { over = group }) rs) (x ∷ change (is_quant r.id) (λ x. record x { over = r.over }) (change (is_quant r.id) (λ x. record x { over = group }) rs))) f
            ∙ ap (λ zs. x ∷ zs) (again rs (sym (ap (λ (b : Bool). cond b (Some x) (first (is_quant r.id) rs)) f) ∙ h))
      ]

      new-once : OnceEach (xs ++ s ∷ ys)
      new-once = once-mid xs s ys (subst OnceEach stands.parted (once-each g.boxes w.ordered)) new-in

      mine : (y : Node) → In y (xs ++ s ∷ ys) → owns r.id y ≡ true → y ≡ b
      mine y i t = elim (in-mid y xs s ys i) [
        | inl e ↦ absurd (clash (owns r.id s) (subst (λ (z : Node). owns r.id z ≡ true) e t) (ap (λ a. a || false) apart))
        | inr j ↦ one-owner g.boxes g.root w r.id y b (subst (λ z. In y z) (sym stands.parted) j) in-b t own
      ]

      sole : Sole b r.id (xs ++ s ∷ ys)
      sole = record {
        once = new-once;
        number = λ y i t. elim (in-mid y xs s ys i) [
          | inl e ↦ absurd (clash (has_box (xs ++ ys) group) (any-from (is_box group) b (xs ++ ys) (subst (λ z. In b z) stands.parted in-b) (eq-eqb b.id group (sym (eqb-true group b.id (subst (λ (z : Node). (z.id == b.id) ≡ true) e t))))) new-in)
          | inr j ↦ (let k : In y g.boxes = subst (λ z. In y z) (sym stands.parted) j in let a : Some y ≡ Some b = sym (in-first y g.boxes w.ordered k) ∙ ap (λ z. first (is_box z) g.boxes) (eqb-true y.id b.id t) ∙ in-first b g.boxes w.ordered in-b in cc)
        ];
        owner = mine;
      }

      pub redirect-undone : redirect r.id r.over (redirect r.id group ranged) ≡ ranged
      redirect-undone =
          ap (redirect r.id r.over) group-steps
          ∙ ap (λ (z : List Node). record g { boxes = z })
          (by-owner b r.id (on_quant r.id (λ x. record x { over = r.over })) (on_quant r.id (λ x. record x { over = group })) owned-then (xs ++ s ∷ ys) sole
          ∙ at-one b r.id (λ y. on_quant r.id (λ x. record x { over = r.over }) (on_quant r.id (λ x. record x { over = group }) y)) (λ y. y) (ap (λ rs. record b { quants = rs }) (again b.quants found)) (xs ++ s ∷ ys) sole
          ∙ as-is b r.id (xs ++ s ∷ ys))
          ∙ sym ranged-is
        where
          found : first (is_quant r.id) b.quants ≡ Some r
          found = first-own r b.quants (let a = times-in ids_of r.id b g.boxes in-b in let c = w.once r.id in omega arith) in-r

          still : (rs : List OwnedQuant) → list_any (is_quant r.id) (change (is_quant r.id) (λ x. record x { over = group }) rs) ≡ list_any (is_quant r.id) rs
          still [] = refl
          still (x ∷ rs) = elim (cases_Bool (x.id == r.id)) [
            | inl t ↦ ap (λ (b : Bool). list_any (is_quant r.id) (cond b ((record x { over = group }) ∷ rs) (x ∷ change (is_quant r.id) (λ x. record x { over = group }) rs))) t
            | inr f ↦ ap (λ (b : Bool). list_any (is_quant r.id) (cond b ((record x { over = group }) ∷ rs) (x ∷ change (is_quant r.id) (λ x. record x { over = group }) rs))) f ∙ ap (λ t. (x.id == r.id) || t) (still rs)
          ]

          owned-then : owns r.id (on_quant r.id (λ x. record x { over = group }) b) ≡ true
          owned-then = still b.quants ∙ own
