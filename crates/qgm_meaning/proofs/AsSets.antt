-- A box gives the same where what its quantifiers give agrees, as sets where it reads it by some and every alone.
use Rattle.std.specs.Prelude.{⊤}
use Rattle.std.proofs.Common.{ℕ, ◌==◌, ◌≡◌, ◌&&◌, ◌||◌, cond, Bool, true, false, List, [], ◌∷◌, Some, refl, sym, ap, ap₂, subst, ◌∙◌, eqb-true, inl, inr}
use Rattle.std.specs.List.{list_any}
use Rattle.std.proofs.lemmas.Bool.{and_parts, cases_Bool, eq-eqb, or_left, or_right}
use mathlib.Core.Path.{fun_ext}
use Rattle.row_bag.specs.AsSets.{AgreeAsSets}
use Rattle.row_bag.proofs.Setting.{sets-from_alike, sets-trans}
use Rattle.row_bag.proofs.Deciding.{clean-alike}
use Rattle.row_bag.proofs.Some.{every-sets, some-sets}
use Rattle.row_bag.specs.Bags.{Alike, bind, keep, total, unit}
use Rattle.row_bag.specs.Sets.{same_cells}
use Rattle.row_bag.specs.Subqueries.{presence}
use Rattle.row_bag.specs.declared.tables.Table.{Table}
use Rattle.row_bag.proofs.Agreement.{alike-bind, alike-refl, alike-same, alike-trans}
use Rattle.row_bag.proofs.Counts.{agree-from_alike, alike-from_agree}
use Rattle.row_bag.proofs.TupleBags.{same_cells-decides}
use Rattle.row_bag.proofs.FoldLaws.{every-alike, scalar-alike, some-alike}
use Rattle.sql_value.specs.Arithmetic as a
use Rattle.sql_value.specs.Comparison as c
use Rattle.sql_value.specs.Truths as t
use Rattle.sql_value.specs.declared.cell.Cell.{Cell}
use Rattle.sql_value.specs.declared.truth.Truth.{Truth}
use Rattle.qgm_core.specs.Boxes.{QueryGraph, Ordered, all_over, box_of, has_box, is_box, is_quant}
use Rattle.qgm_core.specs.Kinds.{is_F, is_enforce}
use Rattle.list_laws.specs.Lists.{change, first}
use Rattle.qgm_core.specs.declared.kinds.BoxKind.{BoxKind}
use Rattle.qgm_core.specs.declared.kinds.BoxKind.TheVariants.{Base, Select, Group, SetOp, OuterJoin}
use Rattle.qgm_core.specs.declared.node.Node.{Node}
use Rattle.qgm_core.specs.declared.owned.OwnedQuant.{OwnedQuant}
use Rattle.qgm_meaning.specs.AsSets.{AgreeAs, AgreesBackAs, AllReadSets, ReadsSets, ReadsSetsBy, is_set, over_found, scalar_in, scalar_in_arms, scalar_in_cond}
use Rattle.qgm_meaning.specs.Laws.{AllStay, Stays}
use Rattle.qgm_meaning.specs.Meaning.{Family, bag, bag_in, given_by, over_each, quant_rows, rows_by, rows_found, rows_of}
use Rattle.qgm_meaning.specs.Replace.{replace}
use Rattle.qgm_meaning.specs.Values.{Bag, Environment, all_true, bound, chosen_at, compared, first_true, head_cells, operate, truth, value}
use Rattle.qgm_terms.specs.Terms.{Term, int, text, null_int, null_text, col, both, minus_of, choose, count_all, fold, scalar, Arms, no_arm, arm, Cond, always, compare, is_null, and, or, not, some, every}
use Rattle.qgm_meaning.proofs.Alikes.{AlikeAt, bind-within, once_if-alike, rows_by-alike}
use Rattle.qgm_meaning.proofs.Ranked.{GivenBack, lower, self-back}
use Rattle.qgm_meaning.proofs.Replacing.{held-change, ordered-change}
use Rattle.qgm_meaning.proofs.Unfold.{rows-local, unfold-bag}
use Rattle.list_laws.proofs.Booleans.{neither-left, neither-right}

-- as sets where it is enough
abbrev AlikeAs : Bool → Bag → Bag → Type 0
AlikeAs true xs ys = AgreeAsSets same_cells xs ys
AlikeAs false xs ys = Alike xs ys

-- ---- cells and conditions

module _ (sets : ℕ → Bool) (r s : ℕ → Bag) (h : (q : ℕ) → AlikeAs (sets q) (r q) (s q)) where
  as-bags : (q : ℕ) → sets q ≡ false → Alike (r q) (s q)
  as-bags q e = subst (λ (b : Bool). AlikeAs b (r q) (s q)) e (h q)

  as-sets : (q : ℕ) → sets q ≡ true → AgreeAsSets same_cells (r q) (s q)
  as-sets q e = subst (λ (b : Bool). AlikeAs b (r q) (s q)) e (h q)

  mutual
    value-sets : (x : Term) (env : Environment) → scalar_in sets x ≡ false → value r x env ≡ value s x env
    value-sets (int n) env u = refl
    value-sets (text w) env u = refl
    value-sets null_int env u = refl
    value-sets null_text env u = refl
    value-sets (col q k) env u = refl
    value-sets (both o x y) env u = ap₂ (operate o) (value-sets x env (neither-left (scalar_in sets x) (scalar_in sets y) u)) (value-sets y env (neither-right (scalar_in sets x) (scalar_in sets y) u))
    value-sets (minus_of x) env u = ap a.neg (value-sets x env u)
    value-sets (choose w x) env u = first_true-sets w _ _ env (neither-left (scalar_in_arms sets w) (scalar_in sets x) u) (value-sets x env (neither-right (scalar_in_arms sets w) (scalar_in sets x) u))
    value-sets count_all env u = refl
    value-sets (fold f t x) env u = refl
    value-sets (scalar q) env u = scalar-alike (r q) (s q) (as-bags q u)

    first_true-sets : (w : Arms) (x y : Cell) (env : Environment) → scalar_in_arms sets w ≡ false → x ≡ y → first_true r w x env ≡ first_true s w y env
    first_true-sets no_arm x y env u e = e
    first_true-sets (arm p z w) x y env u e =
        let rest = neither-right (scalar_in_cond sets p) (scalar_in sets z || scalar_in_arms sets w) u in
        ap (λ (l : Truth). chosen_at l.t (value r z env) (first_true r w x env)) (truth-sets p env (neither-left (scalar_in_cond sets p) (scalar_in sets z || scalar_in_arms sets w) u))
        ∙ ap₂ (chosen_at (truth s p env).t) (value-sets z env (neither-left (scalar_in sets z) (scalar_in_arms sets w) rest)) (first_true-sets w x y env (neither-right (scalar_in sets z) (scalar_in_arms sets w) rest) e)

    truth-sets : (p : Cond) (env : Environment) → scalar_in_cond sets p ≡ false → truth r p env ≡ truth s p env
    truth-sets always env u = refl
    truth-sets (compare sign x y) env u = ap₂ (compared sign) (value-sets x env (neither-left (scalar_in sets x) (scalar_in sets y) u)) (value-sets y env (neither-right (scalar_in sets x) (scalar_in sets y) u))
    truth-sets (is_null x) env u = ap c.is_null (value-sets x env u)
    truth-sets (and p q) env u = ap₂ t.and (truth-sets p env (neither-left (scalar_in_cond sets p) (scalar_in_cond sets q) u)) (truth-sets q env (neither-right (scalar_in_cond sets p) (scalar_in_cond sets q) u))
    truth-sets (or p q) env u = ap₂ t.or (truth-sets p env (neither-left (scalar_in_cond sets p) (scalar_in_cond sets q) u)) (truth-sets q env (neither-right (scalar_in_cond sets p) (scalar_in_cond sets q) u))
    truth-sets (not p) env u = ap t.negated (truth-sets p env u)
    truth-sets (some q p) env u =
        ap (λ (f : List Cell → Truth). total t.or (t.truth_of false) (λ cells level. t.and (presence level) (f cells)) (r q)) (fun_ext (λ cells. truth-sets p (bound q cells env) u))
        ∙ elim (cases_Bool (sets q)) [
          | inl e ↦ some-sets (λ cells. truth s p (bound q cells env)) (r q) (s q) (as-sets q e)
          | inr e ↦ some-alike (λ cells. truth s p (bound q cells env)) (r q) (s q) (as-bags q e)
        ]
    truth-sets (every q p) env u =
        ap (λ (f : List Cell → Truth). total t.and (t.truth_of true) (λ cells level. t.or (t.negated (presence level)) (f cells)) (r q)) (fun_ext (λ cells. truth-sets p (bound q cells env) u))
        ∙ elim (cases_Bool (sets q)) [
          | inl e ↦ every-sets (λ cells. truth s p (bound q cells env)) (r q) (s q) (as-sets q e)
          | inr e ↦ every-alike (λ cells. truth s p (bound q cells env)) (r q) (s q) (as-bags q e)
        ]

  all_true-sets : (ps : List Cond) (env : Environment) → list_any (scalar_in_cond sets) ps ≡ false → all_true r ps env ≡ all_true s ps env
  all_true-sets [] env u = refl
  all_true-sets (p ∷ ps) env u =
      ap₂ t.and (truth-sets p env (neither-left (scalar_in_cond sets p) (list_any (scalar_in_cond sets) ps) u)) (all_true-sets ps env (neither-right (scalar_in_cond sets p) (list_any (scalar_in_cond sets) ps) u))

  head-sets : (xs : List Term) (env : Environment) → list_any (scalar_in sets) xs ≡ false → head_cells r xs env ≡ head_cells s xs env
  head-sets [] env u = refl
  head-sets (x ∷ xs) env u =
      ap₂ (λ (c : Cell) (cs : List Cell). c ∷ cs) (value-sets x env (neither-left (scalar_in sets x) (list_any (scalar_in sets) xs) u)) (head-sets xs env (neither-right (scalar_in sets x) (list_any (scalar_in sets) xs) u))

-- ---- boxes

-- the families agree so at each quantifier, in the environments that pass
abbrev AlikeAsAt : (Environment → Bool) → (ℕ → Bool) → Family → Family → Type 0
AlikeAsAt passes sets f g = (q : ℕ) (env : Environment) → passes env ≡ true → AlikeAs (sets q) (f q env) (g q env)

all-bags : (passes : Environment → Bool) (sets : ℕ → Bool) (f g : Family) → ((q : ℕ) → sets q ≡ false) → AlikeAsAt passes sets f g → AlikeAt passes f g
all-bags passes sets f g none h q env p = subst (λ (b : Bool). AlikeAs b (f q env) (g q env)) (none q) (h q env p)

module _ (passes : Environment → Bool) (sets : ℕ → Bool) (n : Node) (heads : list_any (scalar_in sets) n.parts.head ≡ false) (conditions : list_any (scalar_in_cond sets) n.parts.conds.items ≡ false) where
  given-sets : (s s' : Family) (env : Environment) → ((q : ℕ) → AlikeAs (sets q) (s q env) (s' q env)) → given_by s n env ≡ given_by s' n env
  given-sets s s' env h =
      ap₂ (λ (l : Truth) (cells : List Cell). keep l.t (unit cells)) (all_true-sets sets (λ q. s q env) (λ q. s' q env) h n.parts.conds.items env conditions) (head-sets sets (λ q. s q env) (λ q. s' q env) h n.parts.head env heads)

  over_each-sets : (rs : List OwnedQuant) (s s' : Family) → ((q : ℕ) → list_any (λ r. is_F r.kind && is_quant q r) rs ≡ true → sets q ≡ false) → Stays passes s' rs → AlikeAsAt passes sets s s' → (env : Environment) → passes env ≡ true
      → Alike (over_each rs s (given_by s n) env) (over_each rs s' (given_by s' n) env)
  over_each-sets [] s s' bags y h env p = alike-same (given-sets s s' env (λ q. h q env p))
  over_each-sets (r ∷ rs) s s' bags y h env p =
      elim (is_F r.kind) as (λ t. is_F r.kind ≡ t → Alike
      (cond t (bind (s r.id env) (λ cells. over_each rs s (given_by s n) (bound r.id cells env))) (over_each rs s (given_by s n) env))
      (cond t (bind (s' r.id env) (λ cells. over_each rs s' (given_by s' n) (bound r.id cells env))) (over_each rs s' (given_by s' n) env))) [
        | true ↦ λ t. alike-trans
            (alike-bind (subst (λ (b : Bool). AlikeAs b (s r.id env) (s' r.id env)) (bags r.id (or_left (is_F r.kind && (r.id == r.id)) (list_any (λ x. is_F x.kind && is_quant r.id x) rs) (ap₂ (λ (x y : Bool). x && y) t (eq-eqb r.id r.id refl)))) (h r.id env p))
            (λ cells. alike-refl (over_each rs s (given_by s n) (bound r.id cells env))))
            (bind-within (s' r.id env) (λ cells. over_each rs s (given_by s n) (bound r.id cells env)) (λ cells. over_each rs s' (given_by s' n) (bound r.id cells env))
            (λ cells there. over_each-sets rs s s' later y.1 h (bound r.id cells env) (y.0 env cells t p there)))
        | false ↦ λ t. over_each-sets rs s s' later y.1 h env p
      ] refl
    where
      later : (q : ℕ) → list_any (λ r. is_F r.kind && is_quant q r) rs ≡ true → sets q ≡ false
      later q e = bags q (or_right (is_F r.kind && (r.id == q)) (list_any (λ x. is_F x.kind && is_quant q x) rs) e)

rows_by-sets : (passes : Environment → Bool) (sets : ℕ → Bool) (kind : BoxKind) (tables : List Table) (n : Node) (s s' : Family) → ReadsSetsBy kind sets n → Stays passes s' n.quants → AlikeAsAt passes (is_set sets n) s s' → (env : Environment) → passes env ≡ true
    → Alike (rows_by kind tables n s env) (rows_by kind tables n s' env)
rows_by-sets passes sets (Base name) tables n s s' reads y h env p = alike-refl (rows_by (Base name) tables n s env)
rows_by-sets passes sets Select tables n s s' reads y h env p = once_if-alike (is_enforce n.parts.distinct) (over_each-sets passes (is_set sets n) n reads.cells reads.conditions n.quants s s' reads.rows y h env p)
rows_by-sets passes sets (Group k) tables n s s' reads y h env p = rows_by-alike passes (Group k) tables n s s' y (all-bags passes (is_set sets n) s s' reads h) env p
rows_by-sets passes sets (SetOp form types) tables n s s' reads y h env p = rows_by-alike passes (SetOp form types) tables n s s' y (all-bags passes (is_set sets n) s s' reads h) env p
rows_by-sets passes sets OuterJoin tables n s s' reads y h env p = rows_by-alike passes OuterJoin tables n s s' y (all-bags passes (is_set sets n) s s' reads h) env p

-- ---- graphs

abbrev UnderAs : (Environment → Bool) → (ℕ → Bool) → List OwnedQuant → Family → Family → Type 0
UnderAs passes sets [] f g = ⊤
UnderAs passes sets (r ∷ rs) f g = ((env : Environment) → passes env ≡ true → AlikeAs (sets r.over) (f r.over env) (g r.over env)) × UnderAs passes sets rs f g

quant-sets : (passes : Environment → Bool) (sets : ℕ → Bool) (rs : List OwnedQuant) (f g : Family) → UnderAs passes sets rs f g → (q : ℕ) (env : Environment) → passes env ≡ true
    → AlikeAs (over_found sets (first (is_quant q) rs)) (rows_found (first (is_quant q) rs) f env) (rows_found (first (is_quant q) rs) g env)
quant-sets passes sets [] f g h q env p = alike-refl []
quant-sets passes sets (r ∷ rs) f g h q env p =
    elim (r.id == q) as (λ t. AlikeAs (over_found sets (cond t (Some r) (first (is_quant q) rs))) (rows_found (cond t (Some r) (first (is_quant q) rs)) f env) (rows_found (cond t (Some r) (first (is_quant q) rs)) g env)) [
      | true ↦ h.0 env p
      | false ↦ quant-sets passes sets rs f g h.1 q env p
    ]

under : (passes : Environment → Bool) (sets : ℕ → Bool) (ns : List Node) (f g : Family) (rs : List OwnedQuant) → all_over ns rs ≡ true
    → ((b : ℕ) → has_box ns b ≡ true → (env : Environment) → passes env ≡ true → AlikeAs (sets b) (f b env) (g b env)) → UnderAs passes sets rs f g
under passes sets ns f g [] all h = tt
under passes sets ns f g (r ∷ rs) all h =
    let parts = and_parts (has_box ns r.over) (all_over ns rs) all in
    (h r.over parts.0, under passes sets ns f g rs parts.1 h)

-- what agrees with what agrees as sets
before : (b : Bool) (xs ys zs : Bag) → Alike xs ys → AgreeAs b ys zs → AlikeAs b xs zs
before true xs ys zs h k = sets-trans same_cells (sets-from_alike same_cells same_cells-decides xs ys (clean-alike same_cells same_cells-decides h ∙ k.left_clean) h) k
before false xs ys zs h k = alike-trans h (alike-from_agree same_cells same_cells-decides k)

pub only-sets : (tables : List Table) (f : Family) (passes : Environment → Bool) (sets : ℕ → Bool) (ns : List Node) → Ordered ns → AllReadSets sets ns → AgreesBackAs passes sets tables f ns
    → (b : ℕ) → has_box ns b ≡ true → (env : Environment) → passes env ≡ true → AlikeAs (sets b) (bag_in tables ns b env) (f b env)
only-sets tables f passes sets [] o reads s b h env p = absurd (let z : ⊥ = cc in z)
only-sets tables f passes sets (n ∷ ns) o reads s b h env p =
    elim (cases_Bool (n.id == b)) [
      | inl t ↦
          let e : n.id ≡ b = eqb-true n.id b t in
          subst (λ (i : ℕ). AlikeAs (sets i) (bag_in tables (n ∷ ns) b env) (f i env)) e
          (before (sets n.id) (bag_in tables (n ∷ ns) b env) (rows_of tables n f env) (f n.id env)
          (alike-trans (alike-same (ap (λ (t : Bool). cond t (rows_of tables n (bag_in tables ns)) (bag_in tables ns b) env) t))
          (rows_by-sets passes sets n.parts.kind tables n (quant_rows n (bag_in tables ns)) (quant_rows n f) reads.0 s.0
          (quant-sets passes sets n.quants (bag_in tables ns) f (under passes sets ns (bag_in tables ns) f n.quants o.1 (λ b h env p. only-sets tables f passes sets ns o.2 reads.1 s.2 b h env p))) env p))
          (s.1 env p))
      | inr t ↦
          subst (λ (rows : Environment → Bag). AlikeAs (sets b) (rows env) (f b env)) (sym (lower (λ env. []) (rows_of tables) n ns b t))
          (only-sets tables f passes sets ns o.2 reads.1 s.2 b (subst (λ (t : Bool). (t || has_box ns b) ≡ true) t h) env p)
    ]

pub agree-as : (b : Bool) (xs ys : Bag) → AlikeAs b xs ys → AgreeAs b xs ys
agree-as true xs ys h = h
agree-as false xs ys h = agree-from_alike same_cells h

pub only-agree_as : (tables : List Table) (g : QueryGraph) (f : Family) (passes : Environment → Bool) (sets : ℕ → Bool) → Ordered g.boxes → AllReadSets sets g.boxes → AgreesBackAs passes sets tables f g.boxes
    → (b : ℕ) → has_box g.boxes b ≡ true → (env : Environment) → passes env ≡ true → AgreeAs (sets b) (bag tables g b env) (f b env)
only-agree_as tables g f passes sets o reads s b h env p = agree-as (sets b) (bag tables g b env) (f b env) (only-sets tables f passes sets g.boxes o reads s b h env p)

-- ---- a box in the place of another

reads-change : (sets : ℕ → Bool) (b : ℕ) (m : Node) (ns : List Node) → ReadsSets sets m → AllReadSets sets ns → AllReadSets sets (change (is_box b) (λ _. m) ns)
reads-change sets b m [] h reads = tt
reads-change sets b m (n ∷ ns) h reads = elim (n.id == b) as (λ t. AllReadSets sets (cond t (m ∷ ns) (n ∷ change (is_box b) (λ _. m) ns))) [
  | true ↦ (h, reads.1)
  | false ↦ (reads.0, reads-change sets b m ns h reads.1)
]

module _ (tables : List Table) (f : Family) (passes : Environment → Bool) (b : ℕ) where
  as-was : (n : Node) → (n.id == b) ≡ false → rows_of tables n f ≡ f n.id → (env : Environment) → AgreeAs (n.id == b) (rows_of tables n f env) (f n.id env)
  as-was n e s env = subst (λ (t : Bool). AgreeAs t (rows_of tables n f env) (f n.id env)) (sym e) (agree-from_alike same_cells (alike-same (ap (λ (h : Environment → Bag). h env) s)))

  back-rest : (ns : List Node) → has_box ns b ≡ false → GivenBack (λ env. []) (rows_of tables) (rows-local tables) f ns → AllStay passes f ns → AgreesBackAs passes (λ x. x == b) tables f ns
  back-rest [] away s st = tt
  back-rest (n ∷ ns) away s st = (st.0, (λ env p. as-was n (neither-left (n.id == b) (has_box ns b) away) s.0 env), back-rest ns (neither-right (n.id == b) (has_box ns b) away) s.1 st.1)

  back-set : (m : Node) (ns : List Node) → Ordered ns → m.id ≡ b → Stays passes (quant_rows m f) m.quants → ((env : Environment) → passes env ≡ true → AgreeAsSets same_cells (rows_of tables m f env) (f m.id env))
      → GivenBack (λ env. []) (rows_of tables) (rows-local tables) f ns → AllStay passes f ns → AgreesBackAs passes (λ x. x == b) tables f (change (is_box b) (λ _. m) ns)
  back-set m [] o e sm h s st = tt
  back-set m (n ∷ ns) o e sm h s st =
      elim (n.id == b) as (λ t. (n.id == b) ≡ t → AgreesBackAs passes (λ x. x == b) tables f (cond t (m ∷ ns) (n ∷ change (is_box b) (λ _. m) ns))) [
        | true ↦ λ t. (
          sm,
          (λ env p. subst (λ (t : Bool). AgreeAs t (rows_of tables m f env) (f m.id env)) (sym (eq-eqb m.id b e)) (h env p)),
          back-rest ns (subst (λ (x : ℕ). has_box ns x ≡ false) (eqb-true n.id b t) o.0) s.1 st.1,
        )
        | false ↦ λ t. (st.0, (λ env p. as-was n t s.0 env), back-set m ns o.2 e sm h s.1 st.1)
      ] refl

pub replaced-as_set : (tables : List Table) (g : QueryGraph) (passes : Environment → Bool) (b : ℕ) (n m : Node) → Ordered g.boxes → box_of b g ≡ Some n → m.id ≡ b → ((ns : List Node) → all_over ns n.quants ≡ true → all_over ns m.quants ≡ true)
    → AllReadSets (λ x. x == b) g.boxes → ReadsSets (λ x. x == b) m → AllStay passes (bag tables g) g.boxes → Stays passes (quant_rows m (bag tables g)) m.quants
    → ((env : Environment) → passes env ≡ true → AgreeAsSets same_cells (rows_of tables m (bag tables g) env) (rows_of tables n (bag tables g) env))
    → (x : ℕ) → has_box g.boxes x ≡ true → (env : Environment) → passes env ≡ true → AgreeAs (x == b) (bag tables (replace b m g) x env) (bag tables g x env)
replaced-as_set tables g passes b n m o held id overs reads rm st sm h x hx env p =
    only-agree_as tables (replace b m g) (bag tables g) passes (λ x. x == b) (ordered-change b n m g.boxes id held overs o) (reads-change (λ x. x == b) b m g.boxes rm reads)
    (back-set tables (bag tables g) passes b m g.boxes o id sm
    (λ env p. subst (λ (rows : Bag). AgreeAsSets same_cells (rows_of tables m (bag tables g) env) rows) (sym (unfold-bag tables g.boxes b n env o held) ∙ ap (λ (y : ℕ). bag tables g y env) (sym id)) (h env p))
    (self-back (λ env. []) (rows_of tables) (rows-local tables) g.boxes o) st) x (held-change b m x g.boxes id ∙ hx) env p
