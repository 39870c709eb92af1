-- A chain of more views than there are passes one view twice, and so leads from a view to itself; and a chain that does so has no end.
use Rattle.std.proofs.Common.{◌≡◌, refl, sym, ap, ◌∙◌, subst, ℕ, ◌+◌, ◌≤◌, zero, suc, arith, Bool, true, false, ◌||◌, ◌&&◌, List, [], ◌∷◌, length, filter, map}
use Rattle.std.specs.Prelude.{⊤}
use Rattle.std.specs.List.{list_any, IsDistinct, AllByRecursion}
use Rattle.std.specs.Cmp.Lexicographic.{nat_list_eq_equiv, bytes_decides}
use Rattle.std.proofs.lemmas.Map.Made.{length-le_from_is_member}
use Rattle.std.proofs.lemmas.List.{length-map}
use Rattle.sql_catalog.specs.declared.reader.Reader.{Reader}
use Rattle.sql_ast.specs.Names.{same_name, contains}
use Rattle.sql_catalog.specs.Nesting.{reader_names, read_by, leads, is_recursive, nests_over}
use Rattle.sql_catalog.proofs.NameLaws.{any_same}
use Rattle.sql_catalog.proofs.NestingLaws.{any_filter, false_apart}

-- ---- tests

pub or_left : (a b : Bool) → a ≡ true → (a || b) ≡ true
or_left a b e = ap (λ t. t || b) e

pub or_right : (a b : Bool) → b ≡ true → (a || b) ≡ true
or_right true b e = refl
or_right false b e = e

pub or_either : {C : Type 0} (a b : Bool) → (a || b) ≡ true → (a ≡ true → C) → (b ≡ true → C) → C
or_either true b e f g = f refl
or_either false b e f g = g e

pub both : (a b : Bool) → a ≡ true → b ≡ true → (a && b) ≡ true
both a b e f = ap (λ t. t && b) e ∙ f

pub and_left : (a b : Bool) → (a && b) ≡ true → a ≡ true
and_left true b e = refl
and_left false b e = e

pub and_right : (a b : Bool) → (a && b) ≡ true → b ≡ true
and_right true b e = e
and_right false b e = false_apart e

pub same_truth : (a b : Bool) → (a ≡ true → b ≡ true) → (b ≡ true → a ≡ true) → a ≡ b
same_truth true b f g = sym (f refl)
same_truth false true f g = g refl
same_truth false false f g = refl

pub any_map : {A B : Type 0} (f : A → B) (p : B → Bool) (xs : List A) → list_any p (map f xs) ≡ list_any (λ x. p (f x)) xs
any_map f p [] = refl
any_map f p (x ∷ xs) = ap (λ b. p (f x) || b) (any_map f p xs)

pub any_more : {A : Type 0} (p q : A → Bool) → ((x : A) → p x ≡ true → q x ≡ true) → (xs : List A) → list_any p xs ≡ true → list_any q xs ≡ true
any_more p q f [] h = h
any_more p q f (x ∷ xs) h = or_either (p x) (list_any p xs) h (λ e. or_left (q x) (list_any q xs) (f x e)) (λ e. or_right (q x) (list_any q xs) (any_more p q f xs e))

-- ---- a view is among views: each test that it passes is passed by one of them

abbrev pub In : Reader → List Reader → Type 0
In v xs = (p : Reader → Bool) → p v ≡ true → list_any p xs ≡ true

pub pick : {C : Type 0} (p : Reader → Bool) (xs : List Reader) → list_any p xs ≡ true → ((v : Reader) → In v xs → p v ≡ true → C) → C
pick p [] h k = false_apart h
pick p (x ∷ xs) h k = or_either (p x) (list_any p xs) h
    (λ e. k x (λ q f. or_left (q x) (list_any q xs) f) e)
    (λ e. pick p xs e (λ v inside f. k v (λ q g. or_right (q x) (list_any q xs) (inside q g)) f))

pub in_filter : (t : Reader → Bool) (xs : List Reader) (v : Reader) → In v xs → t v ≡ true → In v (filter t xs)
in_filter t xs v inside e p f = any_filter t p xs ∙ inside (λ x. t x && p x) (both (t v) (p v) e f)

pub in_names : (xs : List Reader) (v : Reader) (q : List ℕ) → In v xs → same_name v.name q ≡ true → contains (reader_names xs) q ≡ true
in_names xs v q inside e = any_map (λ (w : Reader). w.name) (λ n. same_name n q) xs ∙ inside (λ (w : Reader). same_name w.name q) e

-- ---- chains

pub leads_now : (all : List Reader) (n : ℕ) (v : Reader) (x : List ℕ) → contains v.reads x ≡ true → leads all n v x ≡ true
leads_now all zero v x e = e
leads_now all (suc n) v x e = or_left (contains v.reads x) (list_any (λ w. leads all n w x) (read_by all v)) e

pub leads_more : (all : List Reader) (n : ℕ) (v : Reader) (x : List ℕ) → leads all n v x ≡ true → leads all (suc n) v x ≡ true
leads_more all zero v x e = or_left (contains v.reads x) (list_any (λ w. leads all zero w x) (read_by all v)) e
leads_more all (suc n) v x e = or_either (contains v.reads x) (list_any (λ w. leads all n w x) (read_by all v)) e
    (λ f. or_left (contains v.reads x) (list_any (λ w. leads all (suc n) w x) (read_by all v)) f)
    (λ f. or_right (contains v.reads x) (list_any (λ w. leads all (suc n) w x) (read_by all v))
    (any_more (λ w. leads all n w x) (λ w. leads all (suc n) w x) (λ w g. leads_more all n w x g) (read_by all v) f))

pub leads_up : (all : List Reader) (d n : ℕ) (v : Reader) (x : List ℕ) → leads all n v x ≡ true → leads all (d + n) v x ≡ true
leads_up all zero n v x e = let same : n ≡ zero + n = omega arith in subst (λ (m : ℕ). leads all m v x ≡ true) same e
leads_up all (suc d) n v x e = let same : suc (d + n) ≡ suc d + n = omega arith in subst (λ (m : ℕ). leads all m v x ≡ true) same (leads_more all (d + n) v x (leads_up all d n v x e))

-- a chain to a view, and one step on
pub leads_on : (all : List Reader) (m : ℕ) (p u : Reader) (x : List ℕ) → In u all → leads all m p u.name ≡ true → contains u.reads x ≡ true → leads all (suc m) p x ≡ true
leads_on all zero p u x inside l r =
    or_right (contains p.reads x) (list_any (λ w. leads all zero w x) (read_by all p))
    (in_filter (λ (w : Reader). contains p.reads w.name) all u inside l (λ w. leads all zero w x) r)
leads_on all (suc m) p u x inside l r = or_either (contains p.reads u.name) (list_any (λ w. leads all m w u.name) (read_by all p)) l
    (λ e. or_right (contains p.reads x) (list_any (λ w. leads all (suc m) w x) (read_by all p))
    (in_filter (λ (w : Reader). contains p.reads w.name) all u inside e (λ w. leads all (suc m) w x) (leads_now all (suc m) u x r)))
    (λ e. or_right (contains p.reads x) (list_any (λ w. leads all (suc m) w x) (read_by all p))
    (any_more (λ w. leads all m w u.name) (λ w. leads all (suc m) w x) (λ w h. leads_on all m w u x inside h r) (read_by all p) e))

-- ---- a chain from a view to itself has no end

pub turns : (all : List Reader) (n : ℕ) (v : Reader) → In v all → leads all n v v.name ≡ true → (k j : ℕ) (u : Reader) → leads all j u v.name ≡ true → nests_over all k u ≡ true
turns all n v inside self zero j u l = refl
turns all n v inside self (suc k) zero u l = in_filter (λ (w : Reader). contains u.reads w.name) all v inside l (nests_over all k) (turns all n v inside self k n v self)
turns all n v inside self (suc k) (suc j) u l = or_either (contains u.reads v.name) (list_any (λ w. leads all j w v.name) (read_by all u)) l
    (λ e. in_filter (λ (w : Reader). contains u.reads w.name) all v inside e (nests_over all k) (turns all n v inside self k n v self))
    (λ e. any_more (λ w. leads all j w v.name) (nests_over all k) (λ w h. turns all n v inside self k j w h) (read_by all u) e)

pub no_end : (all : List Reader) (k : ℕ) → is_recursive all ≡ true → list_any (nests_over all k) all ≡ true
no_end all k e = pick (λ (v : Reader). leads all (length all) v v.name) all e
    (λ v inside l. inside (nests_over all k) (turns all (length all) v inside l k (length all) v l))

-- ---- a chain of more views than there are passes a view twice

-- each view of a path is one of them, and leads to a name
abbrev pub Ahead : List Reader → ℕ → List ℕ → List Reader → Type 0
Ahead all m x [] = ⊤
Ahead all m x (p ∷ ps) = In p all × (leads all m p x ≡ true) × Ahead all m x ps

pub ahead_on : (all : List Reader) (m : ℕ) (u : Reader) (x : List ℕ) → In u all → contains u.reads x ≡ true → (path : List Reader) → Ahead all m u.name path → Ahead all (suc m) x path
ahead_on all m u x inside r [] a = a
ahead_on all m u x inside r (p ∷ ps) a = (a.0, leads_on all m p u x inside a.1 r, ahead_on all m u x inside r ps a.2)

pub closed : (all : List Reader) (d m : ℕ) (x : List ℕ) → d + m ≡ length all → (path : List Reader) → Ahead all m x path → contains (reader_names path) x ≡ true → is_recursive all ≡ true
closed all d m x sum [] a e = false_apart e
closed all d m x sum (p ∷ ps) a e = or_either (same_name p.name x) (contains (reader_names ps) x) e
    (λ h. a.0 (λ (v : Reader). leads all (length all) v v.name)
    (subst (λ (n : ℕ). leads all n p p.name ≡ true) sum (leads_up all d m p p.name (subst (λ (y : List ℕ). leads all m p y ≡ true) (sym ((bytes_decides p.name x).0 h)) a.1))))
    (λ h. closed all d m x sum ps a.2 h)

pub or_none : (a b : Bool) → (a || b) ≡ false → (a ≡ false) × (b ≡ false)
or_none true b e = false_apart (sym e)
or_none false b e = (refl, e)

pub apart : (x : List ℕ) (ns : List (List ℕ)) → contains ns x ≡ false → AllByRecursion (λ (y : List ℕ). same_name x y ≡ false) ns
apart x [] e = tt
apart x (n ∷ ns) e =
    let parts : (same_name n x ≡ false) × (contains ns x ≡ false) = or_none (same_name n x) (contains ns x) e
    in (nat_list_eq_equiv.symm x n ∙ parts.0, apart x ns parts.1)

pub distinct_more : (x : List ℕ) (ns : List (List ℕ)) → contains ns x ≡ false → IsDistinct same_name ns → IsDistinct same_name (x ∷ ns)
unfolding IsDistinct
distinct_more x ns e d = (apart x ns e, d)

pub distinct_none : IsDistinct same_name []
unfolding IsDistinct
distinct_none = tt

pub any_sides : (q : List ℕ) (ns : List (List ℕ)) → list_any (same_name q) ns ≡ contains ns q
any_sides q ns = any_same (same_name q) (λ n. same_name n q) (λ n. nat_list_eq_equiv.symm q n) ns

-- distinct names, each a view's, are at most as many as the views
pub few : (all : List Reader) (ns : List (List ℕ)) → IsDistinct same_name ns → ((q : List ℕ) → contains ns q ≡ true → contains (reader_names all) q ≡ true) → length ns ≤ length all
few all ns distinct known =
    subst (λ (n : ℕ). length ns ≤ n) (length-map all (λ (v : Reader). v.name))
    (length-le_from_is_member nat_list_eq_equiv ns (reader_names all) distinct
    (λ q h. any_sides q (reader_names all) ∙ known q (sym (any_sides q ns) ∙ h)))

pub named : (all : List Reader) (u : Reader) (path : List Reader) → In u all → ((q : List ℕ) → contains (reader_names path) q ≡ true → contains (reader_names all) q ≡ true) → (q : List ℕ) → contains (reader_names (u ∷ path)) q ≡ true → contains (reader_names all) q ≡ true
named all u path inside known q e = or_either (same_name u.name q) (contains (reader_names path) q) e (λ h. in_names all u q inside h) (λ h. known q h)

pub by_test : {C : Type 0} (b : Bool) → (b ≡ true → C) → (b ≡ false → C) → C
by_test true f g = f refl
by_test false f g = g refl

pub further : (all : List Reader) (k m : ℕ) (path : List Reader) (u : Reader) →
    In u all → Ahead all m u.name path → ((q : List ℕ) → contains (reader_names (u ∷ path)) q ≡ true → contains (reader_names all) q ≡ true) →
    IsDistinct same_name (reader_names (u ∷ path)) → length path ≡ m → m + k ≡ length all → nests_over all k u ≡ true → is_recursive all ≡ true
further all zero m path u inside a known distinct len sum over =
    let most : length (reader_names (u ∷ path)) ≤ length all = few all (reader_names (u ∷ path)) distinct known
    in let long : length (reader_names (u ∷ path)) ≡ length (u ∷ path) = length-map (u ∷ path) (λ (v : Reader). v.name)
    in absurd (omega arith)
further all (suc k) m path u inside a known distinct len sum over =
    pick (λ (w : Reader). contains u.reads w.name && nests_over all k w) all (sym (any_filter (λ (w : Reader). contains u.reads w.name) (nests_over all k) all) ∙ over)
    (λ w among h.
    let reads : contains u.reads w.name ≡ true = and_left (contains u.reads w.name) (nests_over all k w) h
    in let ahead : Ahead all (suc m) w.name (u ∷ path) = (inside, leads_now all (suc m) u w.name reads, ahead_on all m u w.name inside reads path a)
    in let left : k + suc m ≡ length all = omega arith
    in let next : suc m + k ≡ length all = omega arith
    in by_test (contains (reader_names (u ∷ path)) w.name)
    (λ t. closed all k (suc m) w.name left (u ∷ path) ahead t)
    (λ t. further all k (suc m) (u ∷ path) w among ahead (named all w (u ∷ path) among known)
    (distinct_more w.name (reader_names (u ∷ path)) t distinct) (ap suc len) next (and_right (contains u.reads w.name) (nests_over all k w) h)))

pub too_long : (all : List Reader) → list_any (nests_over all (length all)) all ≡ true → is_recursive all ≡ true
too_long all e = pick (nests_over all (length all)) all e
    (λ v inside h.
    let sum : zero + length all ≡ length all = omega arith
    in further all (length all) zero [] v inside tt (named all v [] inside (λ q f. false_apart f)) (distinct_more v.name [] refl distinct_none) refl sum h)

pub recursion : (all : List Reader) → list_any (nests_over all (length all)) all ≡ is_recursive all
recursion all = same_truth (list_any (nests_over all (length all)) all) (is_recursive all) (too_long all) (no_end all (length all))
