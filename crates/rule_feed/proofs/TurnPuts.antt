-- A select whose quantifiers and conditions are turned may stand in its own place.
use Rattle.std.proofs.Common.{ℕ, ◌==◌, ◌≡◌, ◌&&◌, ◌||◌, ◌≤◌, ◌+◌, cond, not, Bool, true, false, List, [], ◌∷◌, ◌++◌, map, filter, refl, sym, ap, ap₂, subst, ◌∙◌, eqb-true, inl, inr, arith}
use Rattle.std.specs.List.{flat_map, list_all, list_any}
use Rattle.std.proofs.lemmas.Bool.{and_from, and_parts, cases_Bool}
use Rattle.qgm_terms.specs.Named.{columns_in, columns_in_cond, nodes_in, nodes_in_cond}
use Rattle.qgm_terms.specs.Terms.{Cond}
use Rattle.qgm_terms.specs.Wanted.{has_aggregate, has_aggregate_cond, reads, reads_cond}
use Rattle.qgm_terms.specs.declared.named.Column.{Column}
use Rattle.qgm_terms.specs.declared.named.QuantNode.{QuantNode}
use Rattle.qgm_terms.specs.declared.named.QuantNode.TheVariants as node
use Rattle.qgm_core.specs.Boxes.{ids_of, is_quant, owns}
use Rattle.qgm_core.specs.Kinds.{is_A, is_E, is_F, is_S}
use Rattle.list_laws.specs.Lists.{In, first, times}
use Rattle.qgm_core.specs.declared.kinds.BoxKind.TheVariants.{Select}
use Rattle.qgm_core.specs.declared.kinds.Role.TheVariants.{Plain}
use Rattle.qgm_core.specs.declared.node.Node.{Node}
use Rattle.qgm_core.specs.declared.owned.OwnedQuant.{OwnedQuant}
use Rattle.qgm_wellformed.specs.Columns.{columns_fit, columns_of, fits, box_under, places_fit}
use Rattle.qgm_wellformed.specs.Shapes.{is_unfolded, kind_fits, looks_up, node_fits, nodes_of, role_fits, columns_placed, shape_fits}
use Rattle.qgm_wellformed.specs.Types.{arms_agree, cond_fits, is_known, lookup_of, term_type, types_agree, types_of}
use Rattle.qgm_meaning.specs.Scope.{loose, loose_by, loose_each, loose_of, looks_found, quant_looks, read_by, under_any}
use Rattle.qgm_edit_laws.specs.Graph.{Sound}
use Rattle.qgm_edit_laws.specs.PutsBox.{PutsBox}
use Rattle.qgm_edit_laws.specs.Shaped.{Shaped, Typed}
use Rattle.qgm_edit_laws.proofs.BoxForms.{counted-seen, scalar-column}
use Rattle.qgm_edit_laws.proofs.ConjunctsOf.{all-both}
use Rattle.qgm_edit_laws.proofs.MovedLast.{each-walk, walk, walk-both}
use Rattle.qgm_edit_laws.proofs.PutsBox.{first-absent}
use Rattle.qgm_edit_laws.proofs.Scope.{unfold-loose}
use Rattle.qgm_edit_laws.proofs.ShapeParts.{ShapeParts, shape-from, shape-parts}
use Rattle.qgm_edit_laws.proofs.Turns.{each-turn, first-own}
use Rattle.list_laws.proofs.Booleans.{clash, same-truth}
use Rattle.list_laws.proofs.Counting.{in-times, times-in}
use Rattle.list_laws.proofs.Membership.{all-from, all-in, any-from, any-in, any-none, any-not, append-one, eq-itself, in-filter, in-right}
use Rattle.rule_feed.specs.Turn.{before_first, failing, from_first, turned_node, turned_quants}
use Rattle.rule_feed.proofs.TurnLists.{all-sifted, any-sifted, flat-sifted, in-turned, passing-from, times-turned, together, turned-in}

-- what is asked of any is asked alike of lists with the same members
any-members : (p : OwnedQuant → Bool) (xs ys : List OwnedQuant) → ((x : OwnedQuant) → In x xs → In x ys) → ((x : OwnedQuant) → In x ys → In x xs) → list_any p xs ≡ list_any p ys
any-members p xs ys to back = same-truth (list_any p xs) (list_any p ys)
    (λ h. let x = any-in p xs h in any-from p x.0 ys (to x.0 x.1.0) x.1.1)
    (λ h. let x = any-in p ys h in any-from p x.0 xs (back x.0 x.1.0) x.1.1)

-- ---- what is looked up, from quantifier to quantifier

module _ (A : ℕ → Bool) (q : ℕ) (t : OwnedQuant → Bool) where
  -- of closed quantifiers
  through : (ps zs : List OwnedQuant) (z : Bool) → ((r : OwnedQuant) → In r ps → (is_F r.kind ≡ true) × (A r.id ≡ false)) → walk A q (ps ++ zs) z ≡ (not (list_any (is_quant q) ps) && walk A q zs z)
  through [] zs z h = refl
  through (r ∷ ps) zs z h =
      ap₂ (λ f a. cond f (a || (not (r.id == q) && walk A q (ps ++ zs) z)) (walk A q (ps ++ zs) z)) (h r (inl refl)).0 (h r (inl refl)).1
      ∙ ap (λ b. not (r.id == q) && b) (through ps zs z (λ x i. h x (inr i)))
      ∙ joined (r.id == q) (list_any (is_quant q) ps) (walk A q zs z)
    where
      joined : (a b c : Bool) → (not a && (not b && c)) ≡ (not (a || b) && c)
      joined true b c = refl
      joined false b c = refl

  -- one that fails, before those that pass or behind: where it looks q up, none of these is q
  passed : (r : OwnedQuant) (ps zs : List OwnedQuant) (z : Bool) → ((r : OwnedQuant) → In r ps → (is_F r.kind ≡ true) × (A r.id ≡ false)) → (is_F r.kind ≡ true → A r.id ≡ true → list_any (is_quant q) ps ≡ false)
      → walk A q (ps ++ r ∷ zs) z ≡ walk A q (r ∷ (ps ++ zs)) z
  passed r ps zs z h away =
      through ps (r ∷ zs) z h ∙ by (is_F r.kind) (A r.id) (list_any (is_quant q) ps) (r.id == q) (walk A q zs z) away
      ∙ sym (ap (λ b. cond (is_F r.kind) (A r.id || (not (r.id == q) && b)) b) (through ps zs z h))
    where
      by : (f a n e w : Bool) → (f ≡ true → a ≡ true → n ≡ false) → (not n && cond f (a || (not e && w)) w) ≡ cond f (a || (not e && (not n && w))) (not n && w)
      by false a n e w h = refl
      by true true n e w h = ap (λ n. not n && true) (h refl refl)
      by true false true true w h = refl
      by true false true false w h = refl
      by true false false true w h = refl
      by true false false false w h = refl

  -- each that fails is so
  abbrev Away : List OwnedQuant → Type 0
  Away rs = (done : List OwnedQuant) (r : OwnedQuant) (rest : List OwnedQuant) → rs ≡ done ++ r ∷ rest → is_F r.kind ≡ true → A r.id ≡ true → list_any (is_quant q) (filter t rest) ≡ false

  walk-parts : (rs : List OwnedQuant) (z : Bool) → ((r : OwnedQuant) → In r rs → t r ≡ true → (is_F r.kind ≡ true) × (A r.id ≡ false)) → Away rs → walk A q (filter t rs ++ failing t rs) z ≡ walk A q rs z
  walk-parts [] z h away = refl
  walk-parts (r ∷ rs) z h away = elim (cases_Bool (t r)) [
    | inl e ↦ ap (λ c. walk A q (cond c (r ∷ filter t rs) (filter t rs) ++ cond (not c) (r ∷ failing t rs) (failing t rs)) z) e
        ∙ ap (λ b. cond (is_F r.kind) (A r.id || (not (r.id == q) && b)) b) (walk-parts rs z (λ x i. h x (inr i)) (λ done x rest e. away (r ∷ done) x rest (ap (λ z. r ∷ z) e)))
    | inr e ↦ ap (λ c. walk A q (cond c (r ∷ filter t rs) (filter t rs) ++ cond (not c) (r ∷ failing t rs) (failing t rs)) z) e
        ∙ passed r (filter t rs) (failing t rs) z (λ x i. (let k = in-filter t x rs i in h x (inr k.0) k.1)) (away [] r rs refl)
        ∙ ap (λ b. cond (is_F r.kind) (A r.id || (not (r.id == q) && b)) b) (walk-parts rs z (λ x i. h x (inr i)) (λ done x rest e. away (r ∷ done) x rest (ap (λ z. r ∷ z) e)))
  ]

  walk-turned : (rs : List OwnedQuant) (z : Bool) → ((r : OwnedQuant) → In r rs → t r ≡ true → (is_F r.kind ≡ true) × (A r.id ≡ false)) → Away rs → walk A q (turned_quants t rs) z ≡ walk A q rs z
  walk-turned rs z h away =
      walk-both A q (before_first t rs) (filter t rs ++ failing t (from_first t rs)) z
      ∙ ap (walk A q (before_first t rs)) (ap (λ ps. walk A q (ps ++ failing t (from_first t rs)) z) (sym (passing-from t rs))
      ∙ walk-parts (from_first t rs) z (λ x i. h x (subst (λ z. In x z) (together t rs) (in-right x (before_first t rs) (from_first t rs) i)))
      (λ done x rest e. away (before_first t rs ++ done) x rest (sym (together t rs) ∙ ap (λ z. before_first t rs ++ z) e ∙ sym (append-both (before_first t rs) done (x ∷ rest)))))
      ∙ sym (walk-both A q (before_first t rs) (from_first t rs) z) ∙ ap (λ rs. walk A q rs z) (together t rs)
    where
      append-both : (xs ys zs : List OwnedQuant) → (xs ++ ys) ++ zs ≡ xs ++ (ys ++ zs)
      append-both [] ys zs = refl
      append-both (x ∷ xs) ys zs = ap (λ z. x ∷ z) (append-both xs ys zs)

-- ---- numbers that stand twice

off : (a b : Bool) → b ≡ false → (a && b) ≡ false
off true b h = h
off false b h = refl

none-of : (q : ℕ) (rs : List OwnedQuant) → list_any (is_quant q) rs ≡ false → (y : OwnedQuant) → In y rs → is_quant q y ≡ false
none-of q rs h y i = any-none (is_quant q) y rs h i

pub counted : (q : ℕ) (x : OwnedQuant) (rs : List OwnedQuant) → In x rs → (x.id == q) ≡ true → 1 ≤ times q (map (λ (r : OwnedQuant). r.id) rs)
counted q x rs i z = subst (λ y. 1 ≤ times y (map (λ (r : OwnedQuant). r.id) rs)) (eqb-true x.id q z) (in-times (λ (r : OwnedQuant). r.id) x rs i)

times-two : (q : ℕ) (xs ys : List OwnedQuant) → times q (map (λ (r : OwnedQuant). r.id) (xs ++ ys)) ≡ times q (map (λ (r : OwnedQuant). r.id) xs) + times q (map (λ (r : OwnedQuant). r.id) ys)
times-two q [] ys = omega arith
times-two q (x ∷ xs) ys = let h = times-two q xs ys in omega arith

pub twice : (q : ℕ) (xs ys : List OwnedQuant) (a b : OwnedQuant) → In a xs → In b ys → (a.id == q) ≡ true → (b.id == q) ≡ true → times q (map (λ (r : OwnedQuant). r.id) (xs ++ ys)) ≤ 1 → ⊥
twice q xs ys a b i j u v h = let x = counted q a xs i u in let y = counted q b ys j v in let z = times-two q xs ys in (omega arith)

-- ---- the box

module _ (bs : List Node) (root : ℕ) (w : Sound bs root) (ty : Typed bs) (sh : Shaped bs root) (o : Node) (within : In o bs) (select : o.parts.kind ≡ Select) (plain : o.parts.role ≡ Plain)
    (t : OwnedQuant → Bool) (k : Cond → Bool) (rows : (r : OwnedQuant) → In r o.quants → t r ≡ true → (is_F r.kind ≡ true) × ((q : ℕ) → loose bs r.over q ≡ false)) where
  abbrev n : Node
  n = turned_node t k o

  abbrev L : ℕ → ℕ → Bool
  L = loose bs

  few : (q : ℕ) → times q (ids_of o) ≤ 1
  few q = let a = times-in ids_of q o bs within in let b = w.once q in omega arith

  few-n : (q : ℕ) → times q (ids_of n) ≤ 1
  few-n q = let a = few q in let b = times-turned t (λ (r : OwnedQuant). r.id) q o.quants in omega arith

  to-o : (r : OwnedQuant) → In r n.quants → In r o.quants
  to-o r i = in-turned t r o.quants i

  to-n : (r : OwnedQuant) → In r o.quants → In r n.quants
  to-n r i = turned-in t r o.quants i

  any-quants : (p : OwnedQuant → Bool) → list_any p n.quants ≡ list_any p o.quants
  any-quants p = any-members p n.quants o.quants to-o to-n

  pub first-same : (q : ℕ) → first (is_quant q) n.quants ≡ first (is_quant q) o.quants
  first-same q = elim (cases_Bool (list_any (is_quant q) o.quants)) [
    | inl h ↦ (
        let x = any-in (is_quant q) o.quants h in
        let e : x.0.id ≡ q = eqb-true x.0.id q x.1.1 in
        subst (λ z. first (is_quant z) n.quants ≡ first (is_quant z) o.quants) e (first-own x.0 n.quants (few-n x.0.id) (to-n x.0 x.1.0) ∙ sym (first-own x.0 o.quants (few x.0.id) x.1.0)))
    | inr h ↦ first-absent (is_quant q) n.quants (any-quants (is_quant q) ∙ h) ∙ sym (first-absent (is_quant q) o.quants h)
  ]

  -- ---- what it reads and looks up

  read-same : (q : ℕ) → read_by n q ≡ read_by o q
  read-same q = ap (λ b. list_any (reads q) o.parts.head || b) (any-sifted k (reads_cond q) o.parts.conds.items)

  found-same : (x q : ℕ) → quant_looks n L x q ≡ quant_looks o L x q
  found-same x q = ap (λ z. looks_found z L q) (first-same x)

  pub looks-r : (r : OwnedQuant) → In r o.quants → (q : ℕ) → quant_looks o L r.id q ≡ L r.over q
  looks-r r i q = ap (λ z. looks_found z L q) (first-own r o.quants (few r.id) i)

  -- none looks up one behind it that passes
  pub away : (q : ℕ) (done : List OwnedQuant) (r : OwnedQuant) (rest : List OwnedQuant) → o.quants ≡ done ++ r ∷ rest → is_F r.kind ≡ true → quant_looks o L r.id q ≡ true → list_any (is_quant q) (filter t rest) ≡ false
  away q done r rest e f h = any-not (is_quant q) (filter t rest) (λ x i. elim (cases_Bool (x.id == q)) [
    | inr z ↦ z
    | inl z ↦ absurd (
        let j = in-filter t x rest i in
        let in-o : In x o.quants = subst (λ z. In x z) (sym e) (in-right x done (r ∷ rest) (inr j.0)) in
        let owned : owns q o ≡ true = any-from (is_quant q) x o.quants in-o z in
        let none : list_any (is_quant q) done ≡ false = any-not (is_quant q) done (λ y iy. elim (cases_Bool (y.id == q)) [
          | inr z ↦ z
          | inl zy ↦ absurd (twice q done (r ∷ rest) y x iy (inr j.0) zy z (subst (λ l. times q (map (λ (r : OwnedQuant). r.id) l) ≤ 1) e (few q)))
        ]) in
        let loose-q : loose_each (done ++ r ∷ rest) o L q ≡ true = each-turn o L q done r rest f (any-not (λ y. is_F y.kind && is_quant q y) done (λ y iy. off (is_F y.kind) (is_quant q y) (none-of q done none y iy))) h in
        clash (loose bs o.id q) (ap (λ (l : ℕ → Bool). l q) (unfold-loose bs o w.ordered within) ∙ ap (λ k. loose_by k o L q) select ∙ ap (λ rs. loose_each rs o L q) e ∙ loose-q) (w.settled o within q owned))
  ])

  -- it has another number than those behind it
  pub twice-apart : (done : List OwnedQuant) (r : OwnedQuant) (rest : List OwnedQuant) (p : OwnedQuant) → o.quants ≡ done ++ r ∷ rest → In p rest → (p.id == r.id) ≡ false
  twice-apart done r rest p e i = elim (cases_Bool (p.id == r.id)) [
    | inr z ↦ z
    | inl z ↦ absurd (twice r.id (done ++ r ∷ []) rest r p (in-right r done (r ∷ []) (inl refl)) i (eq-itself r.id) z (subst (λ l. times r.id (map (λ (r : OwnedQuant). r.id) l) ≤ 1) (e ∙ sym (append-one done r rest)) (few r.id)))
  ]

  looks-same : (q : ℕ) → loose_of n L q ≡ loose_of o L q
  looks-same q =
      ap (λ k. loose_by k n L q) select
      ∙ each-walk (λ x. quant_looks o L x q) q n L (λ x. found-same x q) n.quants
      ∙ ap₂ (λ a b. walk (λ x. quant_looks o L x q) q n.quants (a || b)) (read-same q) (any-quants (λ r. L r.over q))
      ∙ walk-turned (λ x. quant_looks o L x q) q t o.quants (read_by o q || under_any o.quants L q) (λ r i h. ((rows r i h).0, looks-r r i q ∙ (rows r i h).1 q)) (away q)
      ∙ sym (each-walk (λ x. quant_looks o L x q) q o L (λ x. refl) o.quants) ∙ sym (ap (λ k. loose_by k o L q) select)

  -- ---- types, columns, shape

  abbrev cs : List Cond
  cs = o.parts.conds.items

  abbrev cs-n : List Cond
  cs-n = n.parts.conds.items

  types-n : types_agree bs n ≡ true
  types-n =
      let a = and_parts (list_all (λ x. is_known (term_type (lookup_of bs) x)) o.parts.head) (list_all (cond_fits (lookup_of bs)) cs && arms_agree (types_of bs) o.parts.kind o.quants) (ty o within) in
      let b = and_parts (list_all (cond_fits (lookup_of bs)) cs) (arms_agree (types_of bs) o.parts.kind o.quants) a.1 in
      and_from (list_all (λ x. is_known (term_type (lookup_of bs) x)) n.parts.head) (list_all (cond_fits (lookup_of bs)) cs-n && arms_agree (types_of bs) o.parts.kind n.quants) a.0
      (and_from (list_all (cond_fits (lookup_of bs)) cs-n) (arms_agree (types_of bs) o.parts.kind n.quants) (all-sifted k (cond_fits (lookup_of bs)) cs b.0) (ap (λ k. arms_agree (types_of bs) k n.quants) select))

  columns-n : columns_fit bs n ≡ true
  columns-n =
      let p : Column → Bool = λ (c : Column). fits c.place (box_under bs c.quant) in
      let a = and_parts (places_fit o.parts.kind) (list_all p (columns_of o)) (sh.columns o within) in
      let b = and_parts (list_all p (flat_map columns_in o.parts.head)) (list_all p (flat_map columns_in_cond cs)) (sym (all-both p (flat_map columns_in o.parts.head) (flat_map columns_in_cond cs)) ∙ a.1) in
      and_from (places_fit o.parts.kind) (list_all p (columns_of n)) a.0
      (all-both p (flat_map columns_in o.parts.head) (flat_map columns_in_cond cs-n)
      ∙ and_from (list_all p (flat_map columns_in o.parts.head)) (list_all p (flat_map columns_in_cond cs-n)) b.0 (flat-sifted k p columns_in_cond cs b.1))

  shape-o : ShapeParts root bs o
  shape-o = shape-parts root bs o (sh.shapes o within)

  nodes-n : list_all (node_fits n.quants) (nodes_of n) ≡ true
  nodes-n =
      let p : QuantNode → Bool = node_fits o.quants in
      let b = and_parts (list_all p (flat_map nodes_in o.parts.head)) (list_all p (flat_map nodes_in_cond cs)) (sym (all-both p (flat_map nodes_in o.parts.head) (flat_map nodes_in_cond cs)) ∙ shape-o.nodes) in
      let all : list_all p (nodes_of n) ≡ true =
      all-both p (flat_map nodes_in o.parts.head) (flat_map nodes_in_cond cs-n)
      ∙ and_from (list_all p (flat_map nodes_in o.parts.head)) (list_all p (flat_map nodes_in_cond cs-n)) b.0 (flat-sifted k p nodes_in_cond cs b.1) in
      all-from (node_fits n.quants) (nodes_of n) (λ x j. by x (all-in p x (nodes_of n) all j))
    where
      by : (x : QuantNode) → node_fits o.quants x ≡ true → node_fits n.quants x ≡ true
      by (node.Scalar q) h = any-quants (λ r. is_quant q r && is_S r.kind) ∙ h
      by (node.Some q) h = any-quants (λ r. is_quant q r && is_E r.kind) ∙ h
      by (node.Every q) h = any-quants (λ r. is_quant q r && is_A r.kind) ∙ h

  placed-n : columns_placed n ≡ true
  placed-n = all-from (λ (x : OwnedQuant). is_F x.kind || not (looks_up x.id n)) n.quants (λ x j.
      ap (λ z. is_F x.kind || not z) (read-same x.id) ∙ all-in (λ (x : OwnedQuant). is_F x.kind || not (looks_up x.id o)) x o.quants shape-o.placed (to-o x j))

  unfolded-n : is_unfolded n ≡ true
  unfolded-n =
      let a : kind_fits root bs o Select ≡ true = subst (λ k. kind_fits root bs o k ≡ true) select shape-o.kind in
      let b = and_parts (is_unfolded o) (role_fits root bs o o.parts.role) a in
      ap (λ z. not (list_any has_aggregate o.parts.head) && not z) (any-sifted k has_aggregate_cond cs) ∙ b.0

  shape-n : shape_fits root bs n ≡ true
  shape-n = shape-from root bs n (record {
    kind = subst (λ k. kind_fits root bs n k ≡ true) (sym select) (and_from (is_unfolded n) (role_fits root bs n o.parts.role) unfolded-n (subst (λ k. role_fits root bs n k ≡ true) (sym plain) refl));
    nodes = nodes-n;
    placed = placed-n;
    scalar = shape-o.scalar;
  })

  pub puts : PutsBox bs root o (turned_node t k)
  puts = record {
    within = within;
    id = λ y. refl;
    select = select;
    ids = λ q. times-turned t (λ (r : OwnedQuant). r.id) q o.quants;
    overs = λ b. times-turned t (λ (r : OwnedQuant). r.over) b o.quants;
    was = λ r j. (r, (to-o r j, (refl, refl)));
    looks = looks-same;
    wide = refl;
    stay = refl;
    magic = refl;
    types = types-n;
    columns = columns-n;
    shape = shape-n;
    scalars = λ z x j. scalar-column bs root ty sh o z x within (to-o x j);
    unseen = λ z x j. counted-seen bs root ty sh o z x within (to-o x j);
    permit = λ h. sh.unseen o within h;
  }
