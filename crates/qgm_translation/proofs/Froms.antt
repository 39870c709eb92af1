-- The F quantifiers of a box go through the rows of a FROM, whose ON conditions are met at the end.
use Rattle.std.proofs.Common.{◌≡◌, ℕ, zero, suc, ◌+◌, ◌==◌, not, cond, true, false, List, [], ◌∷◌, ◌++◌, length, append_assoc, append-nil, refl, ap, ap₂, sym, ◌∙◌, subst, arith, Some}
use Rattle.std.specs.List.{list_all}
use Rattle.std.proofs.lemmas.Bool.{eq-eqb, and_parts, not-true}
use Rattle.std.proofs.lemmas.Grind.{common_steps}
use mathlib.Core.Path.{fun_ext}
use Rattle.row_bag.specs.Bags.{bind, keep, unit}
use Rattle.row_bag.specs.Order.{cell_of}
use Rattle.row_bag.proofs.Binds.{bind-bind, bind-keep, keep-and, keep-bind, keep-yes, unit-bind}
use Rattle.sql_meaning.specs.Groups.{no_group}
use Rattle.sql_meaning.specs.Joins.{kept, product}
use Rattle.sql_value.proofs.Laws.{and-commutative}
use Rattle.sql_value.specs.Truths as t
use Rattle.sql_value.specs.declared.cell.Cell.{Cell}
use Rattle.sql_value.specs.declared.truth.Truth.{Truth}
use Rattle.sql_meaning.specs.ResolvedMeaning as k
use Rattle.sql_meaning.specs.ResolvedTrees.{From, Froms, Query}
use Rattle.sql_meaning.specs.ResolvedTrees as q
use Rattle.qgm_meaning.specs.Values.{Bag, Environment, bound, row_of}
use Rattle.qgm_meaning.specs.Meaning.{Family, over_each, rows_found}
use Rattle.qgm_core.specs.declared.kinds.QuantKind.{QuantKind}
use Rattle.qgm_core.specs.declared.owned.OwnedQuant.{OwnedQuant}
use Rattle.list_laws.specs.Lists.{first}
use Rattle.qgm_core.specs.Kinds.{is_F}
use Rattle.qgm_core.specs.Boxes.{is_quant}
use Rattle.qgm_translation.proofs.Bridge.{rows_in}
use Rattle.qgm_translation.specs.Maps.{Frame, Map, Ref, column, fresh, fresh_in, is_apart, none_counted, nothing, ref_cell, seen, seen_in}
use Rattle.qgm_translation.specs.Leaves.{rest_of}
use Rattle.qgm_translation.specs.Shown.{Thing, of_operand, distinct_ids, first_id, refs}
use Rattle.qgm_translation.specs.Sources.{width}
use Rattle.qgm_translation.specs.Shown as w
use Rattle.qgm_translation.specs.Sources.{Sources, from_width}
use Rattle.qgm_translation.proofs.Things.{thing_rows}
use Rattle.qgm_translation.proofs.TermLaws.{row-same}
use Rattle.qgm_translation.proofs.Wide.{Wide, bind-all}

-- ---- numbers that aren't named

pub row-other : (n p : ℕ) (cells : List Cell) (env : Environment) → (p == n) ≡ false → row_of p (bound n cells env) ≡ row_of p env
row-other n p cells env h = rw (eqb-comm p n h) refl
  where
    eqb-comm : (p n : ℕ) → (p == n) ≡ false → (n == p) ≡ false
    eqb-comm p n h = grind (arith, common_steps)

ref-fresh : (n : ℕ) (cells : List Cell) (env : Environment) (r : Ref) → is_apart n r ≡ true → ref_cell (bound n cells env) r ≡ ref_cell env r
ref-fresh n cells env nothing h = refl
ref-fresh n cells env none_counted h = refl
ref-fresh n cells env (column p k) h = ap (cell_of k) (row-other n p cells env (not-true (p == n) h))

pub frame-fresh : (n : ℕ) (cells : List Cell) (env : Environment) (fr : Frame) → fresh_in n fr ≡ true → seen_in (bound n cells env) fr ≡ seen_in env fr
frame-fresh n cells env [] h = refl
frame-fresh n cells env (r ∷ fr) h = let p = and_parts (is_apart n r) (fresh_in n fr) h in ap₂ (λ a b. a ∷ b) (ref-fresh n cells env r p.0) (frame-fresh n cells env fr p.1)

pub map-fresh : (n : ℕ) (cells : List Cell) (env : Environment) (m : Map) → fresh n m ≡ true → seen (bound n cells env) m ≡ seen env m
map-fresh n cells env [] h = refl
map-fresh n cells env (fr ∷ m) h = let p = and_parts (fresh_in n fr) (fresh n m) h in ap₂ (λ a b. a ∷ b) (frame-fresh n cells env fr p.0) (map-fresh n cells env m p.1)

pub seen-append : (env : Environment) (a b : Frame) → seen_in env (a ++ b) ≡ seen_in env a ++ seen_in env b
seen-append env [] b = refl
seen-append env (r ∷ a) b = ap (λ z. ref_cell env r ∷ z) (seen-append env a b)

pub head-same : {X : Type 0} {x y : X} {xs ys : List X} → x ∷ xs ≡ y ∷ ys → x ≡ y
head-same {X} {x} {y} h = ap (λ z. elim z as (λ _. X) [ [] ↦ x | a ∷ b ↦ a ]) h

pub tail-same : {X : Type 0} {x y : X} {xs ys : List X} → x ∷ xs ≡ y ∷ ys → xs ≡ ys
tail-same {X} h = ap rest_of h

-- what two frames side by side show, they show each
pub both-same : (e d : Environment) (a b : Frame) → seen_in e (a ++ b) ≡ seen_in d (a ++ b) → (seen_in e a ≡ seen_in d a) × (seen_in e b ≡ seen_in d b)
both-same e d [] b h = (refl, h)
both-same e d (r ∷ a) b h = let p = both-same e d a b (tail-same h) in (ap₂ (λ x y. x ∷ y) (head-same h) p.0, p.1)

-- all columns of a quantifier are its row
shifted : (x : Cell) (r : List Cell) (j n : ℕ) (env : Environment) (q : ℕ) → seen_in (bound q (x ∷ r) env) (refs q (suc (suc j)) n) ≡ seen_in (bound q r env) (refs q (suc j) n)
shifted x r j zero env q = refl
shifted x r j (suc n) env q =
    ap₂ (λ a b. a ∷ b) (ap (cell_of (suc (suc j))) (row-same q (x ∷ r) env) ∙ sym (ap (cell_of (suc j)) (row-same q r env))) (shifted x r (suc j) n env q)

refs-all : (q : ℕ) (r : List Cell) (env : Environment) → seen_in (bound q r env) (refs q 1 (length r)) ≡ r
refs-all q [] env = refl
refs-all q (x ∷ r) env = ap₂ (λ a b. a ∷ b) (ap (cell_of 1) (row-same q (x ∷ r) env)) (shifted x r 0 (length r) env q ∙ refs-all q r env)

pub refs-seen : (q n : ℕ) (r : List Cell) (env : Environment) → length r ≡ n → seen_in (bound q r env) (refs q 1 n) ≡ r
refs-seen q n r env h = ap (λ j. seen_in (bound q r env) (refs q 1 j)) (sym h) ∙ refs-all q r env

-- ---- the quantifiers of a box give the bags of the boxes under them

module _ (s bag : Family) where
  abbrev pub HaveBags : List OwnedQuant → Type 0
  HaveBags [] = Unit {0}
  HaveBags (o ∷ os) = ((env : Environment) → s o.id env ≡ bag o.over env) × HaveBags os

gives-more : (bag : Family) (o : OwnedQuant) (ps os : List OwnedQuant) → list_all (λ p. not (o.id == p.id)) os ≡ true → HaveBags (rows_in ps bag) bag os → HaveBags (rows_in (o ∷ ps) bag) bag os
gives-more bag o ps [] h k = tt
gives-more bag o ps (p ∷ os) h k =
    let u = and_parts (not (o.id == p.id)) (list_all (λ p. not (o.id == p.id)) os) h in
    ((λ env. ap (λ b. rows_found (cond b (Some o) (first (is_quant p.id) ps)) bag env) (not-true (o.id == p.id) u.0) ∙ k.0 env), gives-more bag o ps os u.1 k.1)

pub gives : (bag : Family) (os : List OwnedQuant) → distinct_ids os ≡ true → HaveBags (rows_in os bag) bag os
gives bag [] h = tt
gives bag (o ∷ os) h =
    let u = and_parts (list_all (λ p. not (o.id == p.id)) os) (distinct_ids os) h in
    ((λ env. ap (λ b. rows_found (cond b (Some o) (first (is_quant o.id) os)) bag env) (eq-eqb o.id o.id refl)), gives-more bag o os os u.0 (gives bag os u.1))

-- ---- quantifiers that come, apart from each other and from what is seen

abbrev pub Unseen : Frame → Map → List OwnedQuant → Type 0
Unseen fr m [] = Unit {0}
Unseen fr m (o ∷ os) = (fresh_in o.id fr ≡ true) × (fresh o.id m ≡ true) × Unseen fr m os

fresh-append : (n : ℕ) (a b : Frame) → fresh_in n a ≡ true → fresh_in n b ≡ true → fresh_in n (a ++ b) ≡ true
fresh-append n [] b h k = k
fresh-append n (r ∷ a) b h k = let p = and_parts (is_apart n r) (fresh_in n a) h in rw p.0 (fresh-append n a b p.1 k)

pub fresh-refs : (n q k w : ℕ) → not (q == n) ≡ true → fresh_in n (refs q k w) ≡ true
fresh-refs n q k zero h = refl
fresh-refs n q k (suc w) h = rw h (fresh-refs n q (suc k) w h)

unseen-more : (fr : Frame) (m : Map) (o : OwnedQuant) (w : ℕ) (os : List OwnedQuant) → list_all (λ p. not (o.id == p.id)) os ≡ true → Unseen fr m os → Unseen (fr ++ refs o.id 1 w) m os
unseen-more fr m o w [] h k = tt
unseen-more fr m o w (p ∷ os) h k =
    let u = and_parts (not (o.id == p.id)) (list_all (λ p. not (o.id == p.id)) os) h in
    (fresh-append p.id fr (refs o.id 1 w) k.0 (fresh-refs p.id o.id 1 w u.0), k.1, unseen-more fr m o w os u.1 k.2)

pub unseen-first : (m : Map) (os : List OwnedQuant) → list_all (λ o. fresh o.id m) os ≡ true → Unseen [] m os
unseen-first m [] h = tt
unseen-first m (o ∷ os) h = let p = and_parts (fresh o.id m) (list_all (λ o. fresh o.id m) os) h in (refl, p.0, unseen-first m os p.1)

module _ (s bag : Family) where
  pub record Ready (fr : Frame) (m : Map) (os : List OwnedQuant) : Type 0 where
    pub distinct : distinct_ids os ≡ true
    pub unseen : Unseen fr m os
    pub gives : HaveBags s bag os

  pub ready-rest : (fr : Frame) (m : Map) (w : ℕ) (os : List OwnedQuant) → Ready fr m os → Ready (fr ++ refs (first_id os) 1 w) m (rest_of os)
  ready-rest fr m w [] r = record { distinct = refl; unseen = tt; gives = tt }
  ready-rest fr m w (o ∷ os) r =
      let u = and_parts (list_all (λ p. not (o.id == p.id)) os) (distinct_ids os) r.distinct in
      record { distinct = u.1; unseen = unseen-more fr m o w os u.0 r.unseen.2; gives = r.gives.1 }

pub kept-bind : (X : Bag) (on : List Cell → Truth) (then : List Cell → Bag) → bind (kept on X) then ≡ bind X (λ row. keep (on row).t (then row))
kept-bind X on then =
    bind-bind X (λ row. keep (on row).t (unit row)) then
    ∙ ap (bind X) (fun_ext (λ row. sym (keep-bind (on row).t (unit row) then) ∙ ap (keep (on row).t) (unit-bind row then)))

-- ---- a FROM

module _ (known : List ℕ → Bag) (sources : Sources) (s bag : Family) (give : Environment → Bag)
    (Below : ℕ → Thing → Map → Type 0)
    (bags : (b : ℕ) (thing : Thing) (m : Map) → Below b thing m → (env : Environment) → bag b env ≡ thing_rows known thing (seen env m))
    (wides : (b : ℕ) (x : From) (m : Map) → Below b (of_operand x) m → (scopes : k.Scopes) → Wide (from_width sources x) (k.from_rows known x scopes)) where
  abbrev past : From → List OwnedQuant → List OwnedQuant
  past = w.past sources

  abbrev frame : From → List OwnedQuant → Frame
  frame = w.frame sources

  abbrev Ok : From → Map → List OwnedQuant → Type 0
  Ok = w.ShowsFrom sources Below

  ready-past : (x : From) (fr : Frame) (m : Map) (os : List OwnedQuant) → Ready s bag fr m os → Ready s bag (fr ++ frame x os) m (past x os)
  ready-past (q.named name) fr m os r = ready-rest s bag fr m (sources.columns name) os r
  ready-past (q.derived query) fr m os r = ready-rest s bag fr m (width query) os r
  ready-past (q.crossed x y) fr m os r =
      subst (λ f. Ready s bag f m (past y (past x os))) (append_assoc fr (frame x os) (frame y (past x os))) (ready-past y (fr ++ frame x os) m (past x os) (ready-past x fr m os r))
  ready-past (q.joined x y p) fr m os r =
      subst (λ f. Ready s bag f m (past y (past x os))) (append_assoc fr (frame x os) (frame y (past x os))) (ready-past y (fr ++ frame x os) m (past x os) (ready-past x fr m os r))
  ready-past (q.left_joined x y n p) fr m os r = ready-rest s bag fr m (from_width sources x + n) os r

  -- how far the ON conditions are true of the rows that are bound
  module _ (scopes : k.Scopes) where
    abbrev pub on_truth : From → List OwnedQuant → Environment → Truth
    on_truth (q.named name) os env = t.truth_of true
    on_truth (q.derived query) os env = t.truth_of true
    on_truth (q.crossed x y) os env = t.and (on_truth x os env) (on_truth y (past x os) env)
    on_truth (q.joined x y p) os env =
        t.and (t.and (on_truth x os env) (on_truth y (past x os) env)) (k.truth known p (seen_in env (frame x os ++ frame y (past x os)) ∷ scopes) no_group)
    on_truth (q.left_joined x y n p) os env = t.truth_of true

    abbrev pub all_on_truth : Froms → List OwnedQuant → Environment → Truth
    all_on_truth q.no_from os env = t.truth_of true
    all_on_truth (q.one_from x xs) os env = t.and (on_truth x os env) (all_on_truth xs (past x os) env)

    on-same : (x : From) (os : List OwnedQuant) (e d : Environment) → seen_in e (frame x os) ≡ seen_in d (frame x os) → on_truth x os e ≡ on_truth x os d
    on-same (q.named name) os e d h = refl
    on-same (q.derived query) os e d h = refl
    on-same (q.crossed x y) os e d h =
        let p = both-same e d (frame x os) (frame y (past x os)) h in ap₂ t.and (on-same x os e d p.0) (on-same y (past x os) e d p.1)
    on-same (q.joined x y on) os e d h =
        let p = both-same e d (frame x os) (frame y (past x os)) h in
        ap₂ t.and (ap₂ t.and (on-same x os e d p.0) (on-same y (past x os) e d p.1)) (ap (λ row. k.truth known on (row ∷ scopes) no_group) h)
    on-same (q.left_joined x y n p) os e d h = refl

    -- X's rows, by its quantifiers, then what follows
    abbrev Through : (X : Bag) (on : Environment → Truth) (here : Frame) (now : List OwnedQuant) (later : List OwnedQuant) (fr : Frame) (m : Map) → Type 0
    Through X on here now later fr m =
        (then : List Cell → Bag) (env : Environment) → seen env m ≡ scopes
        → ((e : Environment) → seen e (fr ∷ m) ≡ seen env (fr ∷ m) → over_each later s give e ≡ keep (on e).t (then (seen_in e here)))
        → over_each now s give env ≡ bind X then

    product-bind : (X Y : Bag) (then : List Cell → Bag) → bind X (λ a. bind Y (λ b. then (a ++ b))) ≡ bind (product X Y) then
    product-bind X Y then =
        sym (bind-bind X (λ a. bind Y (λ b. unit (a ++ b))) then
        ∙ ap (bind X) (fun_ext (λ a. bind-bind Y (λ b. unit (a ++ b)) then ∙ ap (bind Y) (fun_ext (λ b. unit-bind (a ++ b) then)))))

    -- two operands, one after the other
    two : (X Y : Bag) (f g : Environment → Truth) (a b : Frame) (now mid later : List OwnedQuant) (fr : Frame) (m : Map)
        → ((e d : Environment) → seen_in e a ≡ seen_in d a → f e ≡ f d)
        → Through X f a now mid fr m → Through Y g b mid later (fr ++ a) m → Through (product X Y) (λ e. t.and (f e) (g e)) (a ++ b) now later fr m
    two X Y f g a b now mid later fr m same first second then env h last =
        first (λ r. bind Y (λ c. then (r ++ c))) env h
        (λ e k.
        second (λ c. keep (f e).t (then (seen_in e a ++ c))) e (tail-same k ∙ h)
        (λ d l.
        let p = both-same d e fr a (head-same l) in
        last d (ap₂ (λ x y. x ∷ y) (p.0) (tail-same l) ∙ k)
        ∙ ap₂ (λ z row. keep z.t (then row)) (and-commutative (f d) (g d) ∙ ap (t.and (g d)) (same d e p.1)) (seen-append d a b ∙ ap (λ z. z ++ seen_in d b) p.1)
        ∙ sym (keep-and (g d) (f e) (then (seen_in e a ++ seen_in d b))))
        ∙ sym (bind-keep (f e).t Y (λ c. then (seen_in e a ++ c))))
        ∙ product-bind X Y then

    one : (x : From) (n : ℕ) (os : List OwnedQuant) (fr : Frame) (m : Map) → from_width sources x ≡ n → Ready s bag fr m os → w.ShowsOne sources Below x m os
        → Through (k.from_rows known x scopes) (λ _. t.truth_of true) (refs (first_id os) 1 n) os (rest_of os) fr m
    one x n [] fr m wide r h then env see last = absurd h
    one x n (o ∷ os) fr m wide r h then env see last =
        ap (λ (kind : QuantKind). cond (is_F kind) (bind (s o.id env) (λ cells. over_each os s give (bound o.id cells env))) (over_each os s give env)) h.0
        ∙ ap (λ X. bind X (λ cells. over_each os s give (bound o.id cells env))) (r.gives.0 env ∙ bags o.over (of_operand x) m h.1 env ∙ ap (k.from_rows known x) see)
        ∙ bind-all (λ cells. length cells ≡ n) (k.from_rows known x scopes) (λ cells. over_each os s give (bound o.id cells env)) then (subst (λ z. Wide z (k.from_rows known x scopes)) wide (wides o.over x m h.1 scopes))
        (λ cells len. last (bound o.id cells env) (ap₂ (λ a b. a ∷ b) (frame-fresh o.id cells env fr r.unseen.0) (map-fresh o.id cells env m r.unseen.1))
        ∙ keep-yes (then (seen_in (bound o.id cells env) (refs o.id 1 n)))
        ∙ ap then (refs-seen o.id n cells env len))

    through : (x : From) (os : List OwnedQuant) (fr : Frame) (m : Map) → Ready s bag fr m os → Ok x m os → Through (k.from_rows known x scopes) (on_truth x os) (frame x os) os (past x os) fr m
    through (q.named name) os fr m r h = one (q.named name) (sources.columns name) os fr m refl r h
    through (q.derived query) os fr m r h = one (q.derived query) (width query) os fr m refl r h
    through (q.left_joined x y n p) os fr m r h = one (q.left_joined x y n p) (from_width sources x + n) os fr m refl r h
    through (q.crossed x y) os fr m r h =
        two (k.from_rows known x scopes) (k.from_rows known y scopes) (on_truth x os) (on_truth y (past x os)) (frame x os) (frame y (past x os)) os (past x os) (past y (past x os)) fr m (on-same x os)
        (through x os fr m r h.0) (through y (past x os) (fr ++ frame x os) m (ready-past x fr m os r) h.1)
    through (q.joined x y p) os fr m r h = λ then env see last.
        two (k.from_rows known x scopes) (k.from_rows known y scopes) (on_truth x os) (on_truth y (past x os)) (frame x os) (frame y (past x os)) os (past x os) (past y (past x os)) fr m (on-same x os)
        (through x os fr m r h.0) (through y (past x os) (fr ++ frame x os) m (ready-past x fr m os r) h.1)
        (λ row. keep (k.truth known p (row ∷ scopes) no_group).t (then row)) env see
        (λ e l. last e l ∙ sym (keep-and (t.and (on_truth x os e) (on_truth y (past x os) e)) (k.truth known p (seen_in e (frame x os ++ frame y (past x os)) ∷ scopes) no_group) (then (seen_in e (frame x os ++ frame y (past x os))))))
        ∙ sym (kept-bind (product (k.from_rows known x scopes) (k.from_rows known y scopes)) (λ row. k.truth known p (row ∷ scopes) no_group) then)

    pub through-all : (xs : Froms) (os : List OwnedQuant) (fr : Frame) (m : Map) → Ready s bag fr m os → w.ShowsFroms sources Below xs m os
        → Through (k.frames known xs scopes) (all_on_truth xs os) (w.frame_all sources xs os) os (w.past_all sources xs os) fr m
    through-all q.no_from os fr m r h = λ then env see last. last env refl ∙ keep-yes (then []) ∙ sym (unit-bind [] then)
    through-all (q.one_from x xs) os fr m r h =
        two (k.from_rows known x scopes) (k.frames known xs scopes) (on_truth x os) (all_on_truth xs (past x os)) (frame x os) (w.frame_all sources xs (past x os)) os (past x os) (w.past_all sources xs (past x os)) fr m (on-same x os)
        (through x os fr m r h.0) (through-all xs (past x os) (fr ++ frame x os) m (ready-past x fr m os r) h.1)

    -- after the FROM
    pub ready-all : (xs : Froms) (fr : Frame) (m : Map) (os : List OwnedQuant) → Ready s bag fr m os → Ready s bag (fr ++ w.frame_all sources xs os) m (w.past_all sources xs os)
    ready-all q.no_from fr m os r = subst (λ f. Ready s bag f m os) (sym (append-nil fr)) r
    ready-all (q.one_from x xs) fr m os r =
        subst (λ f. Ready s bag f m (w.past_all sources xs (past x os))) (append_assoc fr (frame x os) (w.frame_all sources xs (past x os)))
        (ready-all xs (fr ++ frame x os) m (past x os) (ready-past x fr m os r))
