-- Small facts of a step that changes the select whose open box is fed.
use Rattle.std.proofs.Common.{ℕ, ◌≡◌, ◌&&◌, cond, Bool, true, false, List, [], ◌∷◌, map, refl, sym, ap, ap₂, subst, ◌∙◌, inl, inr}
use Rattle.std.proofs.lemmas.Bool.{and_from, and_parts, cases_Bool}
use Rattle.list_laws.specs.Lists.{In, holds}
use Rattle.list_laws.proofs.Booleans.{clash}
use Rattle.qgm_core.specs.Free.{free_in}
use Rattle.qgm_core.specs.Kinds.{is_F}
use Rattle.qgm_core.specs.declared.node.Node.{Node}
use Rattle.qgm_core.specs.declared.owned.OwnedQuant.{OwnedQuant}
use Rattle.qgm_meaning.specs.Scope.{loose}
use Rattle.qgm_wellformed.specs.WellFormed.{is_empty}
use Rattle.qgm_wellformed.proofs.Below.{free-free}
use Rattle.qgm_edit_laws.specs.Graph.{Sound}
use Rattle.qgm_edit_laws.proofs.FreeLoose.{looks-free, open-looks}
use Rattle.qgm_props.specs.Calm.{is_closed}
use Rattle.qgm_props.specs.Inferred.{all_under_F}

-- ---- boxes that look nothing up

none-held : (xs : List ℕ) (q : ℕ) → is_empty xs ≡ true → holds q xs ≡ true → ⊥
none-held [] q e h = let z : ⊥ = cc in z
none-held (x ∷ xs) q e h = let z : ⊥ = cc in z

module _ (bs : List Node) (root : ℕ) (w : Sound bs root) (b : ℕ) where
  pub closed-looks : is_closed bs b ≡ true → (q : ℕ) → loose bs b q ≡ false
  closed-looks e q = elim (cases_Bool (loose bs b q)) [ inr f ↦ f | inl t ↦ absurd (none-held (free_in bs b) q e ((free-free bs w.ordered b q).1 (looks-free bs root w b q t))) ]

  pub looks-closed : ((q : ℕ) → loose bs b q ≡ false) → is_closed bs b ≡ true
  looks-closed h = elim (cases_Bool (is_closed bs b)) [ inl t ↦ t | inr f ↦ absurd (let x = open-looks bs root w b f in clash (loose bs b x.0) x.1 (h x.0)) ]

-- something is looked up before and after, or before and after nothing
pub shut-looks : (bs hs : List Node) (root : ℕ) → Sound bs root → Sound hs root → (b : ℕ) → ((q : ℕ) → loose hs b q ≡ true → (k : ℕ) × (loose bs b k ≡ true)) → ((q : ℕ) → loose bs b q ≡ true → (k : ℕ) × (loose hs b k ≡ true)) → is_closed hs b ≡ is_closed bs b
shut-looks bs hs root w v b down up = elim (cases_Bool (is_closed hs b)) [
  | inl t ↦ t ∙ sym (looks-closed bs root w b (λ q. none bs hs v up q t))
  | inr f ↦ elim (cases_Bool (is_closed bs b)) [
    | inr e ↦ f ∙ sym e
    | inl t ↦ absurd (clash (is_closed hs b) (looks-closed hs root v b (λ q. none hs bs w down q t)) f)
  ]
]
  where
    none : (xs ys : List Node) → Sound ys root → ((q : ℕ) → loose xs b q ≡ true → (k : ℕ) × (loose ys b k ≡ true)) → (q : ℕ) → is_closed ys b ≡ true → loose xs b q ≡ false
    none xs ys y h q t = elim (cases_Bool (loose xs b q)) [ inr e ↦ e | inl e ↦ absurd (let x = h q e in clash (loose ys b x.0) x.1 (closed-looks ys root y b t x.0)) ]

-- ---- lists

pub F-in : (f : ℕ → Bool) (rs : List OwnedQuant) (r : OwnedQuant) → In r rs → is_F r.kind ≡ true → all_under_F f rs ≡ true → f r.over ≡ true
F-in f [] r i e h = elim i [ ]
F-in f (s ∷ rs) r i e h = elim i [
  | inl y ↦ (
      let z : is_F s.kind ≡ true = ap (λ (x : OwnedQuant). is_F x.kind) y ∙ e in
      subst (λ (x : OwnedQuant). f x.over ≡ true) y (and_parts (f s.over) (all_under_F f rs) (subst (λ b. cond b (f s.over && all_under_F f rs) (all_under_F f rs) ≡ true) z h)).0)
  | inr j ↦ F-in f rs r j e (rest (is_F s.kind) h)
]
  where
    rest : (b : Bool) → cond b (f s.over && all_under_F f rs) (all_under_F f rs) ≡ true → all_under_F f rs ≡ true
    rest true h = (and_parts (f s.over) (all_under_F f rs) h).1
    rest false h = h

pub F-from : (f : ℕ → Bool) (rs : List OwnedQuant) → ((r : OwnedQuant) → In r rs → is_F r.kind ≡ true → f r.over ≡ true) → all_under_F f rs ≡ true
F-from f [] h = refl
F-from f (r ∷ rs) h = one (is_F r.kind) refl (F-from f rs (λ s i. h s (inr i)))
  where
    one : (b : Bool) → is_F r.kind ≡ b → all_under_F f rs ≡ true → cond b (f r.over && all_under_F f rs) (all_under_F f rs) ≡ true
    one true e more = and_from (f r.over) (all_under_F f rs) (h r (inl refl) e) more
    one false e more = more

pub map-same : {X Y : Type 0} (f g : X → Y) (xs : List X) → ((x : X) → In x xs → f x ≡ g x) → map f xs ≡ map g xs
map-same {Y = Y} f g [] h = refl
map-same {Y = Y} f g (x ∷ xs) h = ap₂ (λ (a : Y) (b : List Y). a ∷ b) (h x (inl refl)) (map-same f g xs (λ y i. h y (inr i)))
