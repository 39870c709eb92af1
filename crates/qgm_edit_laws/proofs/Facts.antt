-- Facts of rows pass along agreement, and what boxes ask for is looked up.
use Rattle.std.proofs.Common.{ℕ, ◌==◌, ◌≡◌, ◌≢◌, ◌&&◌, ◌||◌, ◌+◌, ◌≤◌, cond, Bool, true, false, List, [], ◌∷◌, map, None, refl, sym, ap, ap₂, subst, ◌∙◌, eqb-true, inl, inr, arith}
use Rattle.std.proofs.lemmas.Bool.{and_from, and_parts, cases_Bool, eq-eqb, or_left, or_right}
use Rattle.sql_value.specs.Level.{rank}
use Rattle.sql_value.specs.declared.cell.Cell.{Cell}
use Rattle.sql_value.specs.declared.level.Level.{Level}
use Rattle.sql_value.specs.declared.level.Level.TheVariants.{No, Cardinality, Division, Overflow, Yes}
use Rattle.row_bag.specs.Bags.{Agree, count, same_level, total}
use Rattle.row_bag.specs.Errors.{error_at}
use Rattle.row_bag.specs.Order.{cell_of}
use Rattle.row_bag.specs.Sets.{same_cells}
use Rattle.row_bag.specs.Verdict.{is_there}
use Rattle.row_bag.specs.declared.row.Row.{Row}
use Rattle.row_bag.proofs.Agreement.{sum-monoid}
use Rattle.row_bag.proofs.Counts.{total-agree}
use Rattle.row_bag.proofs.TupleBags.{same_cells-decides}
use Rattle.qgm_core.specs.Boxes.{Ordered, has_box}
use Rattle.list_laws.specs.Lists.{In}
use Rattle.qgm_core.specs.declared.node.Node.{Node}
use Rattle.qgm_core.specs.declared.owned.OwnedQuant.{OwnedQuant}
use Rattle.qgm_meaning.specs.Scope.{loose, loose_of, read_by, under_any}
use Rattle.qgm_meaning.specs.Values.{Bag}
use Rattle.qgm_edit_laws.specs.Facts.{Asks, FactsPass}
use Rattle.qgm_edit_laws.specs.Graph.{BareBy}
use Rattle.qgm_edit_laws.proofs.Scope.{touched-by}
use Rattle.list_laws.proofs.Membership.{all-in, any-from}

level-same : (a b : Level) → same_level a b ≡ true → a ≡ b
level-same No No h = refl
level-same No Cardinality h = absurd (let z : ⊥ = cc in z)
level-same No Division h = absurd (let z : ⊥ = cc in z)
level-same No Overflow h = absurd (let z : ⊥ = cc in z)
level-same No Yes h = absurd (let z : ⊥ = cc in z)
level-same Cardinality No h = absurd (let z : ⊥ = cc in z)
level-same Cardinality Cardinality h = refl
level-same Cardinality Division h = absurd (let z : ⊥ = cc in z)
level-same Cardinality Overflow h = absurd (let z : ⊥ = cc in z)
level-same Cardinality Yes h = absurd (let z : ⊥ = cc in z)
level-same Division No h = absurd (let z : ⊥ = cc in z)
level-same Division Cardinality h = absurd (let z : ⊥ = cc in z)
level-same Division Division h = refl
level-same Division Overflow h = absurd (let z : ⊥ = cc in z)
level-same Division Yes h = absurd (let z : ⊥ = cc in z)
level-same Overflow No h = absurd (let z : ⊥ = cc in z)
level-same Overflow Cardinality h = absurd (let z : ⊥ = cc in z)
level-same Overflow Division h = absurd (let z : ⊥ = cc in z)
level-same Overflow Overflow h = refl
level-same Overflow Yes h = absurd (let z : ⊥ = cc in z)
level-same Yes No h = absurd (let z : ⊥ = cc in z)
level-same Yes Cardinality h = absurd (let z : ⊥ = cc in z)
level-same Yes Division h = absurd (let z : ⊥ = cc in z)
level-same Yes Overflow h = absurd (let z : ⊥ = cc in z)
level-same Yes Yes h = refl

count-in : (r : Row (List Cell)) (rows : Bag) → In r rows → 1 ≤ count same_cells r.cells r.level rows
count-in r [] i = elim i [ ]
count-in r (x ∷ rows) i = elim i [
  | inl e ↦ (
      let t : (same_cells x.cells r.cells && same_level x.level r.level) ≡ true = subst (λ (z : Row (List Cell)). (same_cells x.cells z.cells && same_level x.level z.level) ≡ true) e (and_from (same_cells x.cells x.cells) (same_level x.level x.level) ((same_cells-decides x.cells x.cells).1 refl) (eq-eqb (rank x.level) (rank x.level) refl)) in
      let k : ◌≡◌ {A = ℕ} (cond (same_cells x.cells r.cells && same_level x.level r.level) 1 0) 1 = ap (λ (b : Bool). cond {A = ℕ} b 1 0) t in omega arith)
  | inr j ↦ (let h = count-in r rows j in omega arith)
]

in-count : (cells : List Cell) (level : Level) (rows : Bag) → 1 ≤ count same_cells cells level rows → (x : Row (List Cell)) × (In x rows × ((x.cells ≡ cells) × (x.level ≡ level)))
in-count cells level [] h = absurd (omega arith)
in-count cells level (x ∷ rows) h = elim (cases_Bool (same_cells x.cells cells && same_level x.level level)) [
  | inl t ↦ (let p = and_parts (same_cells x.cells cells) (same_level x.level level) t in (x, (inl refl, ((same_cells-decides x.cells cells).0 p.0, level-same x.level level p.1))))
  | inr f ↦ (
      let k : ◌≡◌ {A = ℕ} (cond (same_cells x.cells cells && same_level x.level level) 1 0) 0 = ap (λ (b : Bool). cond {A = ℕ} b 1 0) f in
      let r = in-count cells level rows (omega arith) in (r.0, (inr r.1.0, r.1.1)))
]

there-not-no : (level : Level) → is_there {T = List Cell} (record { cells = []; level = level }) ≡ true → level ≢ No
there-not-no No h e = absurd (let z : ⊥ = cc in z)
there-not-no Cardinality h e = let z : ⊥ = cc in z
there-not-no Division h e = let z : ⊥ = cc in z
there-not-no Overflow h e = let z : ⊥ = cc in z
there-not-no Yes h e = let z : ⊥ = cc in z

pub facts-pass : (xs ys : Bag) → Agree same_cells xs ys → FactsPass xs ys
facts-pass xs ys a =
    let totals : (f : List Cell → Level → ℕ) → total ◌+◌ 0 f xs ≡ total ◌+◌ 0 f ys = (λ f. total-agree same_cells same_cells-decides sum-monoid f xs ys a) in record {
      rows = back;
      clean = λ h r i. elim (cases_Bool (is_there r)) [ inl t ↦ h r (back r i t) | inr f ↦ gone r.level f ];
      error_free = λ k h r i t. h r (back r i t) t;
      not_null = λ k h r i t. h r (back r i t) t;
      key = λ columns h key. subst (λ z. z ≤ 1) (totals (λ cells level. cond (same_cells (map (λ k. cell_of k cells) columns) key) 1 0)) (h key);
      at_most_one = λ h. subst (λ z. z ≤ 1) (totals (λ cells level. 1)) h;
      exactly_one = λ h. sym (totals (λ cells level. 1)) ∙ h;
    }
  where
    gone : (level : Level) → is_there {T = List Cell} (record { cells = []; level = level }) ≡ false → error_at level ≡ None
    gone No f = refl
    gone Cardinality f = absurd (let z : ⊥ = cc in z)
    gone Division f = absurd (let z : ⊥ = cc in z)
    gone Overflow f = absurd (let z : ⊥ = cc in z)
    gone Yes f = refl

    back : (r : Row (List Cell)) → In r ys → is_there r ≡ true → In r xs
    back r i t =
        let same = a.counts r.cells r.level (there-not-no r.level t) in
        let many = count-in r ys i in
        let x = in-count r.cells r.level xs (omega arith) in
        let e : x.0 ≡ r = ap₂ (λ (c : List Cell) (l : Level). record { cells = c; level = l }) x.1.1.0 x.1.1.1 in
        subst (λ z. In z xs) e x.1.0

-- what boxes ask for is looked up
pub looks-stay : (look : ℕ → ℕ → Bool) (bs : List Node) → Ordered bs → ((n : Node) → In n bs → BareBy n.parts.kind n) → ((n : Node) → In n bs → Asks look n) → (b q : ℕ) → has_box bs b ≡ true → look b q ≡ true → loose bs b q ≡ true
looks-stay look [] o bare asks b q h t = absurd (let z : ⊥ = cc in z)
looks-stay look (n ∷ ns) o bare asks b q h t = by (λ c x y. looks-stay look ns o.2 (λ m i. bare m (inr i)) (λ m i. asks m (inr i)) c q x y)
  where
    by : ((c : ℕ) → has_box ns c ≡ true → look c q ≡ true → loose ns c q ≡ true) → loose (n ∷ ns) b q ≡ true
    by again = elim (cases_Bool (n.id == b)) [
      | inl e ↦ (
          let a = asks n (inl refl) q (subst (λ z. look z q ≡ true) (sym (eqb-true n.id b e)) t) in
          ap (λ (c : Bool). cond c (loose_of n (loose ns)) (loose ns b) q) e
          ∙ touched-by n.parts.kind n (loose ns) q (bare n (inl refl)) a.0 (elim a.1 [
            | inl r ↦ or_left (read_by n q) (under_any n.quants (loose ns) q) r
            | inr r ↦ or_right (read_by n q) (under_any n.quants (loose ns) q) (any-from (λ (s : OwnedQuant). loose ns s.over q) r.0 n.quants r.1.0 (again r.0.over (all-in (λ s. has_box ns s.over) r.0 n.quants o.1 r.1.0) r.1.1))
          ]))
      | inr f ↦ ap (λ (c : Bool). cond c (loose_of n (loose ns)) (loose ns b) q) f ∙ again b (subst (λ c. (c || has_box ns b) ≡ true) f h) t
    ]
