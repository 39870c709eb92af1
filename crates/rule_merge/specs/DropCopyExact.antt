-- The places of M2 are exactly those where it may fire.
use Rattle.std.proofs.Common.{ℕ, suc, zero, ◌==◌, ◌&&◌, ◌≡◌, not, true, false, List, [], ◌∷◌, length, Option, Some, None, refl, ap, ap₂, ◌∙◌, eqb-true, inl, inr}
use Rattle.std.specs.Prelude.{◌↔◌}
use Rattle.std.specs.List.{list_any}
use Rattle.std.proofs.lemmas.Bool.{and_from, and_parts, cases_Bool, eq-eqb, not-true}
use Rattle.qgm_core.specs.Boxes.{QueryGraph, box_of, is_box, width, numbers}
use Rattle.qgm_core.specs.Kinds.{is_F, is_fed, is_plain, is_preserve, is_select}
use Rattle.list_laws.specs.Lists.{In, first, EachOnce}
use Rattle.qgm_core.specs.declared.kinds.QuantKind.TheVariants.{F}
use Rattle.qgm_core.specs.declared.node.Node.{Node}
use Rattle.qgm_core.specs.declared.owned.OwnedQuant.{OwnedQuant}
use Rattle.qgm_terms.specs.Terms as t
use Rattle.qgm_terms.specs.Terms.{Cond, Term}
use Rattle.qgm_wellformed.specs.Sentences.{WellFormed}
use Rattle.qgm_edit_laws.specs.Ranges.{columns_from}
use Rattle.rule_api.specs.PickLaws.{once_exact, once_ascending}
use Rattle.rule_api.specs.Rules.{Ascending}
use Rattle.qgm_core.proofs.KindTests.{f-is, preserve-is, plain-is, select-is}
use Rattle.rule_merge.specs.DropCopy.{IsCopy, is_col, are_columns, gives_all, copies_by, no_cond, ranges_over, feeds, is_plain_copy, is_copy, copy_found, copies, may_go, MayDropCopy, drop_copy_pairs}
use Rattle.list_laws.proofs.Membership.{any-from, any-in, any-not, eq-itself}
use Rattle.list_laws.proofs.Booleans.{clash}

-- ---- the test says so

none-is : (cs : List Cond) → no_cond cs ≡ true → cs ≡ []
none-is [] h = refl
none-is (c ∷ cs) h = absurd (let q : ⊥ = cc in q)

pub col-is : (q k : ℕ) (x : Term) → is_col q k x ≡ true → x ≡ t.col q k
col-is q k (t.int n) h = absurd (let q : ⊥ = cc in q)
col-is q k (t.text s) h = absurd (let q : ⊥ = cc in q)
col-is q k t.null_int h = absurd (let q : ⊥ = cc in q)
col-is q k t.null_text h = absurd (let q : ⊥ = cc in q)
col-is q k (t.col p j) h = let a = and_parts (p == q) (j == k) h in ap₂ (λ u v. t.col u v) (eqb-true p q a.0) (eqb-true j k a.1)
col-is q k (t.scalar p) h = absurd (let q : ⊥ = cc in q)
col-is q k (t.both op a b) h = absurd (let q : ⊥ = cc in q)
col-is q k (t.minus_of a) h = absurd (let q : ⊥ = cc in q)
col-is q k (t.choose s a) h = absurd (let q : ⊥ = cc in q)
col-is q k t.count_all h = absurd (let q : ⊥ = cc in q)
col-is q k (t.fold f e a) h = absurd (let q : ⊥ = cc in q)

pub is-col : (q k : ℕ) → is_col q k (t.col q k) ≡ true
is-col q k = and_from (q == q) (k == k) (eq-itself q) (eq-itself k)

columns-are : (q k : ℕ) (xs : List Term) → are_columns q k xs ≡ true → xs ≡ columns_from q k (length xs)
columns-are q k [] h = refl
columns-are q k (x ∷ xs) h = let a = and_parts (is_col q k x) (are_columns q (suc k) xs) h in ap₂ (λ u v. u ∷ v) (col-is q k x a.0) (columns-are q (suc k) xs a.1)

are-columns : (q k w : ℕ) → are_columns q k (columns_from q k w) ≡ true
are-columns q k zero = refl
are-columns q k (suc w) = and_from (is_col q k (t.col q k)) (are_columns q (suc k) (columns_from q (suc k) w)) (is-col q k) (are-columns q (suc k) w)

as-many : (q k w : ℕ) → length (columns_from q k w) ≡ w
as-many q k zero = refl
as-many q k (suc w) = ap suc (as-many q (suc k) w)

-- what is asked of the quantifiers and the head
pub record Copying (boxes : List Node) (head : List Term) (quants : List OwnedQuant) (c : Node) (r : OwnedQuant) : Type 0 where
  pub alone : quants ≡ r ∷ []
  pub is_f : r.kind ≡ F
  pub under : first (is_box r.over) boxes ≡ Some c
  pub all_columns : head ≡ columns_from r.id 1 (width c)

all-from : (found : Option Node) (q : ℕ) (head : List Term) → gives_all found q head ≡ true → (c : Node) × ((found ≡ Some c) × (head ≡ columns_from q 1 (width c)))
all-from None q head h = absurd (let z : ⊥ = cc in z)
all-from (Some c) q head h =
    let a = and_parts (length head == width c) (are_columns q 1 head) h in
    (c, (refl, columns-are q 1 head a.1 ∙ ap (columns_from q 1) (eqb-true (length head) (width c) a.0)))

copying-from : (boxes : List Node) (head : List Term) (quants : List OwnedQuant) → copies_by boxes head quants ≡ true → (c : Node) × ((r : OwnedQuant) × Copying boxes head quants c r)
copying-from boxes head [] h = absurd (let z : ⊥ = cc in z)
copying-from boxes head (r ∷ []) h =
    let a = and_parts (is_F r.kind) (gives_all (first (is_box r.over) boxes) r.id head) h in
    let b = all-from (first (is_box r.over) boxes) r.id head a.1 in
    (b.0, (r, record { alone = refl; is_f = f-is r.kind a.0; under = b.1.0; all_columns = b.1.1 }))
copying-from boxes head (r ∷ (s ∷ rs)) h = absurd (let z : ⊥ = cc in z)

copying-to : (boxes : List Node) (head : List Term) (quants : List OwnedQuant) (c : Node) (r : OwnedQuant) → Copying boxes head quants c r → copies_by boxes head quants ≡ true
copying-to boxes head quants c r m =
    ap (copies_by boxes head) m.alone
    ∙ and_from (is_F r.kind) (gives_all (first (is_box r.over) boxes) r.id head) (ap is_F m.is_f)
    (ap (λ z. gives_all z r.id head) m.under
    ∙ and_from (length head == width c) (are_columns r.id 1 head) (eq-eqb (length head) (width c) (ap length m.all_columns ∙ as-many r.id 1 (width c))) (ap (are_columns r.id 1) m.all_columns ∙ are-columns r.id 1 (width c)))

unfed-from : (b : ℕ) (boxes : List Node) → list_any (feeds b) boxes ≡ false → (d : Node) (s : OwnedQuant) → In d boxes → In s d.quants → s.over ≡ b → is_fed d.parts.role ≡ false
unfed-from b boxes h d s i j e = elim (cases_Bool (is_fed d.parts.role)) [
  | inr f ↦ f
  | inl y ↦ absurd (clash (list_any (feeds b) boxes) (any-from (feeds b) d boxes i (and_from (is_fed d.parts.role) (ranges_over b d.quants) y (any-from (λ (r : OwnedQuant). r.over == b) s d.quants j (eq-eqb s.over b e)))) h)
]

unfed-to : (b : ℕ) (boxes : List Node) → ((d : Node) (s : OwnedQuant) → In d boxes → In s d.quants → s.over ≡ b → is_fed d.parts.role ≡ false) → list_any (feeds b) boxes ≡ false
unfed-to b boxes h = any-not (feeds b) boxes (λ d i. elim (cases_Bool (feeds b d)) [
  | inr f ↦ f
  | inl y ↦ (
      let a = and_parts (is_fed d.parts.role) (ranges_over b d.quants) y in
      let r = any-in (λ (r : OwnedQuant). r.over == b) d.quants a.1 in
      absurd (clash (is_fed d.parts.role) a.0 (h d r.0 i r.1.0 (eqb-true r.0.over b r.1.1))))
])

pub copy-from : (g : QueryGraph) (b : Node) → is_copy g b ≡ true → (c : Node) × ((r : OwnedQuant) × IsCopy g b c r)
copy-from g b h =
    let a1 = and_parts (is_plain_copy b && copies_by g.boxes b.parts.head b.quants) (not (list_any (feeds b.id) g.boxes)) h in
    let a2 = and_parts (is_plain_copy b) (copies_by g.boxes b.parts.head b.quants) a1.0 in
    let p1 = and_parts (is_select b.parts.kind && is_plain b.parts.role && is_preserve b.parts.distinct) (no_cond b.parts.conds.items) a2.0 in
    let p2 = and_parts (is_select b.parts.kind && is_plain b.parts.role) (is_preserve b.parts.distinct) p1.0 in
    let p3 = and_parts (is_select b.parts.kind) (is_plain b.parts.role) p2.0 in
    let m = copying-from g.boxes b.parts.head b.quants a2.1 in (
      m.0,
      (
        m.1.0,
        record {
          a_select = select-is b.parts.kind p3.0;
          plain = plain-is b.parts.role p3.1;
          preserves = preserve-is b.parts.distinct p2.1;
          alone = m.1.1.alone;
          is_f = m.1.1.is_f;
          under = m.1.1.under;
          no_conjunct = none-is b.parts.conds.items p1.1;
          all_columns = m.1.1.all_columns;
          unfed = unfed-from b.id g.boxes (not-true (list_any (feeds b.id) g.boxes) a1.1);
        },
      ),
    )

copy-to : (g : QueryGraph) (b c : Node) (r : OwnedQuant) → IsCopy g b c r → is_copy g b ≡ true
copy-to g b c r m =
    and_from (is_plain_copy b && copies_by g.boxes b.parts.head b.quants) (not (list_any (feeds b.id) g.boxes))
    (and_from (is_plain_copy b) (copies_by g.boxes b.parts.head b.quants)
    (and_from (is_select b.parts.kind && is_plain b.parts.role && is_preserve b.parts.distinct) (no_cond b.parts.conds.items)
    (and_from (is_select b.parts.kind && is_plain b.parts.role) (is_preserve b.parts.distinct)
    (and_from (is_select b.parts.kind) (is_plain b.parts.role) (ap is_select m.a_select) (ap is_plain m.plain)) (ap is_preserve m.preserves)) (ap no_cond m.no_conjunct))
    (copying-to g.boxes b.parts.head b.quants c r (record { alone = m.alone; is_f = m.is_f; under = m.under; all_columns = m.all_columns })))
    (ap not (unfed-to b.id g.boxes m.unfed))

pub found-from : (g : QueryGraph) (found : Option Node) → copy_found g found ≡ true → (b : Node) × ((c : Node) × ((r : OwnedQuant) × ((found ≡ Some b) × IsCopy g b c r)))
found-from g None h = absurd (let z : ⊥ = cc in z)
found-from g (Some b) h = let m = copy-from g b h in (b, (m.0, (m.1.0, (refl, m.1.1))))

may-from : (g : QueryGraph) (b : ℕ) → may_go g b ≡ true → ((b == g.root) ≡ false) × ((n : Node) × ((c : Node) × ((r : OwnedQuant) × ((box_of b g ≡ Some n) × IsCopy g n c r))))
may-from g b h = let a = and_parts (not (b == g.root)) (copies g b) h in (not-true (b == g.root) a.0, found-from g (box_of b g) a.1)

may-to : (g : QueryGraph) (b : ℕ) (n c : Node) (r : OwnedQuant) → (b == g.root) ≡ false → box_of b g ≡ Some n → IsCopy g n c r → may_go g b ≡ true
may-to g b n c r f e m = and_from (not (b == g.root)) (copies g b) (ap not f) (ap (copy_found g) e ∙ copy-to g n c r m)

-- M2 has exactly the places where it may fire
pub drop_copy_exact : (g : QueryGraph) (b i j : ℕ) → EachOnce (numbers g.boxes) → WellFormed g → In (i, j) (drop_copy_pairs g b) ↔ MayDropCopy (record { at = b; i = i; j = j }) g
unfolding drop_copy_pairs MayDropCopy
drop_copy_exact g b i j once w = (
  λ h. (let a = (once_exact (may_go g b) i j).0 h in let m = may-from g b a.1.1 in (a.1.0, a.0, m.0, m.1)),
  λ h. (once_exact (may_go g b) i j).1 (h.1, (h.0, (let m = h.3 in may-to g b m.0 m.1.0 m.1.1.0 h.2 m.1.1.1.0 m.1.1.1.1))),
)

-- in order
pub drop_copy_ascending : (g : QueryGraph) (b : ℕ) → Ascending (drop_copy_pairs g b)
unfolding drop_copy_pairs
drop_copy_ascending g b = once_ascending (may_go g b)

-- a place of M2 passes the test
pub drop_copy_given : (g : QueryGraph) (b i j : ℕ) → In (i, j) (drop_copy_pairs g b) → may_go g b ≡ true
unfolding drop_copy_pairs
drop_copy_given g b i j h = ((once_exact (may_go g b) i j).0 h).1.1
