-- Counts that agree under the quantifiers of a box give the same count of it.
use Rattle.std.proofs.Common.{ℕ, ◌≡◌, ◌+◌, Bool, true, false, cond, List, [], ◌∷◌, refl, ap, ap₂, ◌∙◌, inl, inr, arith}
use Rattle.row_bag.specs.Bags.{if_there, total}
use Rattle.sql_value.specs.declared.cell.Cell.{Cell}
use Rattle.sql_value.specs.declared.level.Level.{Level}
use Rattle.sql_value.specs.declared.level.Level.TheVariants.{No, Cardinality, Division, Overflow, Yes}
use Rattle.qgm_core.specs.Kinds.{is_F}
use Rattle.list_laws.specs.Lists.{In}
use Rattle.qgm_core.specs.declared.kinds.BoxKind.{BoxKind}
use Rattle.qgm_core.specs.declared.kinds.BoxKind.TheVariants.{Base, Select, Group, SetOp, OuterJoin}
use Rattle.qgm_core.specs.declared.node.Node.{Node}
use Rattle.qgm_core.specs.declared.owned.OwnedQuant.{OwnedQuant}
use Rattle.qgm_meaning.specs.Meaning.{Family}
use Rattle.qgm_meaning.specs.Plain.{Counts, counted_by, under_each, under_others, under_rows}
use Rattle.qgm_meaning.specs.Values.{Bag, Environment, bound}

there-same : (f g : List Cell → Level → ℕ) → ((c : List Cell) (l : Level) → f c l ≡ g c l) → (c : List Cell) (l : Level) → if_there 0 f c l ≡ if_there 0 g c l
there-same f g h c No = refl
there-same f g h c Cardinality = h c Cardinality
there-same f g h c Division = h c Division
there-same f g h c Overflow = h c Overflow
there-same f g h c Yes = h c Yes

pub total-same : (f g : List Cell → Level → ℕ) → ((c : List Cell) (l : Level) → f c l ≡ g c l) → (rows : Bag) → total ◌+◌ 0 f rows ≡ total ◌+◌ 0 g rows
total-same f g h [] = refl
total-same f g h (r ∷ rows) = ap₂ (λ (x y : ℕ). x + y) (there-same f g h r.cells r.level) (total-same f g h rows)

-- two families of rows, and two of counts, say the same under each of these
abbrev pub SameBelow : List OwnedQuant → Family → Family → Counts → Counts → Type 0
SameBelow rs bags others count counts = (r : OwnedQuant) → In r rs → (env : Environment) → (bags r.over env ≡ others r.over env) × (count r.over env ≡ counts r.over env)

module _ (bags others : Family) (count counts : Counts) where
  pub each-same : (rs : List OwnedQuant) → SameBelow rs bags others count counts → (env : Environment) → under_each rs count env ≡ under_each rs counts env
  each-same [] h env = refl
  each-same (r ∷ rs) h env = ap₂ (λ (x y : ℕ). x + y) (h r (inl refl) env).1 (each-same rs (λ s i. h s (inr i)) env)

  others-same : (rs : List OwnedQuant) → SameBelow rs bags others count counts → (env : Environment) → under_others rs count env ≡ under_others rs counts env
  others-same [] h env = refl
  others-same (r ∷ rs) h env = ap₂ (λ (x y : ℕ). cond (is_F r.kind) 0 x + y) (h r (inl refl) env).1 (others-same rs (λ s i. h s (inr i)) env)

  pub rows-same : (rs all : List OwnedQuant) → SameBelow rs bags others count counts → SameBelow all bags others count counts → (env : Environment) → under_rows rs all bags count env ≡ under_rows rs all others counts env
  rows-same [] all h k env = others-same all k env
  rows-same (r ∷ rs) all h k env =
      let rest : (e : Environment) → under_rows rs all bags count e ≡ under_rows rs all others counts e = λ e. rows-same rs all (λ s i. h s (inr i)) k e in
      ap₂ (λ (x y : ℕ). cond (is_F r.kind) x y)
      (ap₂ (λ (x y : ℕ). x + y) (h r (inl refl) env).1
      (total-same (λ cells level. under_rows rs all bags count (bound r.id cells env)) (λ cells level. under_rows rs all others counts (bound r.id cells env)) (λ cells level. rest (bound r.id cells env)) (bags r.over env)
      ∙ ap (λ (rows : Bag). total ◌+◌ 0 (λ cells level. under_rows rs all others counts (bound r.id cells env)) rows) (h r (inl refl) env).0))
      (rest env)

  pub counted-same : (kind : BoxKind) (n : Node) → SameBelow n.quants bags others count counts → (env : Environment) → counted_by kind n bags count env ≡ counted_by kind n others counts env
  counted-same (Base table) n h env = refl
  counted-same Select n h env = ap (λ (x : ℕ). 1 + x) (rows-same n.quants n.quants h h env)
  counted-same (Group keys) n h env = ap (λ (x : ℕ). 1 + x) (each-same n.quants h env)
  counted-same (SetOp operator types) n h env = ap (λ (x : ℕ). 1 + x) (each-same n.quants h env)
  counted-same OuterJoin n h env = ap (λ (x : ℕ). 1 + x) (each-same n.quants h env)

-- ---- where nothing is counted below

there-zero : (c : List Cell) (l : Level) → ◌≡◌ {A = ℕ} (if_there 0 (λ (cells : List Cell) (level : Level). 0) c l) 0
there-zero c No = refl
there-zero c Cardinality = refl
there-zero c Division = refl
there-zero c Overflow = refl
there-zero c Yes = refl

total-zero : (rows : Bag) → ◌≡◌ {A = ℕ} (total ◌+◌ 0 (λ (cells : List Cell) (level : Level). 0) rows) 0
total-zero [] = refl
total-zero (r ∷ rows) = let h = there-zero r.cells r.level in let k = total-zero rows in omega (arith, h, k)

abbrev pub none : Counts
none b env = 0

each-zero : (rs : List OwnedQuant) (env : Environment) → under_each rs none env ≡ 0
each-zero [] env = refl
each-zero (r ∷ rs) env = let h = each-zero rs env in omega (arith, h)

if-zero : (b : Bool) → ◌≡◌ {A = ℕ} (cond b 0 0) 0
if-zero true = refl
if-zero false = refl

others-zero : (rs : List OwnedQuant) (env : Environment) → under_others rs none env ≡ 0
others-zero [] env = refl
others-zero (r ∷ rs) env = let h = others-zero rs env in let k = if-zero (is_F r.kind) in omega (arith, h, k)

rows-zero : (rs all : List OwnedQuant) (bags : Family) (env : Environment) → under_rows rs all bags none env ≡ 0
rows-zero [] all bags env = others-zero all env
rows-zero (r ∷ rs) all bags env =
    let rest : (e : Environment) → under_rows rs all bags none e ≡ 0 = λ e. rows-zero rs all bags e in
    ap₂ (λ (x y : ℕ). cond (is_F r.kind) x y)
    (ap (λ (x : ℕ). 0 + x) (total-same (λ cells level. under_rows rs all bags none (bound r.id cells env)) (λ cells level. 0) (λ cells level. rest (bound r.id cells env)) (bags r.over env) ∙ total-zero (bags r.over env)))
    (rest env)
    ∙ if-zero (is_F r.kind)

pub counted-one : (kind : BoxKind) (n : Node) (bags : Family) (env : Environment) → counted_by kind n bags none env ≡ 1
counted-one (Base table) n bags env = refl
counted-one Select n bags env = ap (λ (x : ℕ). 1 + x) (rows-zero n.quants n.quants bags env)
counted-one (Group keys) n bags env = ap (λ (x : ℕ). 1 + x) (each-zero n.quants env)
counted-one (SetOp operator types) n bags env = ap (λ (x : ℕ). 1 + x) (each-zero n.quants env)
counted-one OuterJoin n bags env = ap (λ (x : ℕ). 1 + x) (each-zero n.quants env)
