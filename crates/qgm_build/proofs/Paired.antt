-- The boxes over groups and over pairs of boxes, and blocks from their parts.
use Rattle.std.proofs.Common.{◌≡◌, ℕ, suc, Bool, false, List, [], ◌∷◌, ◌++◌, length, map, ap, ap₂, refl, sym, ◌∙◌}
use Rattle.sql_value.specs.declared.order_key.SqlType.{SqlType}
use Rattle.sql_meaning.specs.ResolvedTrees.{From, Test, Values}
use Rattle.qgm_core.specs.declared.kinds.BoxKind.TheVariants.{Group, OuterJoin, Select, SetOp}
use Rattle.qgm_core.specs.declared.kinds.QuantKind.TheVariants.{F}
use Rattle.qgm_core.specs.declared.kinds.SetOperator.{SetOperator}
use Rattle.qgm_core.specs.declared.owned.OwnedQuant.{OwnedQuant}
use Rattle.qgm_terms.specs.Terms.{Cond, Term}
use Rattle.qgm_terms.specs.Terms as t
use Rattle.qgm_translation.specs.Folds.{folds_in}
use Rattle.qgm_translation.specs.Lay.{Boxes, Drawn, Laid, Step, drawn, in_turn, laying, pair_of, put, ranging}
use Rattle.qgm_translation.specs.Lay as l
use Rattle.qgm_translation.specs.Leaves.{Leaf, after, count, fold, list_leaves, sub, test_leaves}
use Rattle.qgm_translation.specs.Maps.{Frame, Map, column, ref_term}
use Rattle.qgm_translation.specs.Shown.{aggregate, argument_terms, columns_of, fold_refs, fold_terms, key_frame, no_slots, refs, taken, upper_leaves, upper_slots}
use Rattle.qgm_translation.specs.Sources.{Sources, from_width}
use Rattle.qgm_translation.specs.Terms.{cond, split, term, terms}
use Rattle.qgm_translation.specs.Typing.{typed_by}
use Rattle.qgm_translation.proofs.FoldsSame.{folds_append, test_same, values_same}
use Rattle.qgm_build_terms.specs.Making.{Gives, Takes, after_subs, draws, top_at}
use Rattle.qgm_build.proofs.Selected.{gives_at}

-- ---- subqueries among leaves don't count

pub fold_terms_folds : (u j : ℕ) (ls : List Leaf) → fold_terms u j (folds_in ls) ≡ fold_terms u j ls
fold_terms_folds u j [] = refl
fold_terms_folds u j (sub fr kind query ∷ ls) = fold_terms_folds u j ls
fold_terms_folds u j (fold f distinct x ∷ ls) = ap (λ zs. t.fold (aggregate f) (taken distinct) (t.col u j) ∷ zs) (fold_terms_folds u (suc j) ls)
fold_terms_folds u j (count ∷ ls) = ap (λ zs. t.count_all ∷ zs) (fold_terms_folds u j ls)

pub fold_refs_folds : (u j : ℕ) (ls : List Leaf) → fold_refs u j (folds_in ls) ≡ fold_refs u j ls
fold_refs_folds u j [] = refl
fold_refs_folds u j (sub fr kind query ∷ ls) = fold_refs_folds u j ls
fold_refs_folds u j (fold f distinct x ∷ ls) = ap (λ zs. column u j ∷ zs) (fold_refs_folds u (suc j) ls)
fold_refs_folds u j (count ∷ ls) = ap (λ zs. column u j ∷ zs) (fold_refs_folds u (suc j) ls)

pub arguments_folds : (w : Sources) (fr : Frame) (ls : List Leaf) → argument_terms w fr (folds_in ls) ≡ argument_terms w fr ls
arguments_folds w fr [] = refl
arguments_folds w fr (sub f kind query ∷ ls) = arguments_folds w fr ls
arguments_folds w fr (fold f distinct x ∷ ls) = ap (λ zs. term w fr [] no_slots x ∷ zs) (arguments_folds w fr ls)
arguments_folds w fr (count ∷ ls) = arguments_folds w fr ls

abbrev pub both_folds : Values → Test → List Leaf
both_folds list having = folds_in (list_leaves [] list) ++ folds_in (test_leaves [] having)

-- ---- groups

pub group_read : (k : Sources) (places : List ℕ) (ls : List Leaf) (rows n b : ℕ) (s s2 u : Boxes) (start quants : List OwnedQuant) (head : List Term) (conds : List Cond)
    → n ≡ length places → start ≡ [] → Takes (draws F rows) s start s2 quants → head ≡ columns_of s.quant 1 n ++ fold_terms s.quant (suc n) ls → conds ≡ []
    → Gives (put (Group n) false conds head quants s2) b u → Gives (l.group_box k (laying k) places ls (top_at rows s)) b u
group_read k places ls rows n b s s2 u start quants head conds ns st d hs cs give =
    gives_at (ap (λ z. put (Group n) false z head quants s2) cs ∙ ap₂ (λ (z : Boxes) (os : List OwnedQuant). put (Group n) false [] head os z) d.boxes (d.quants ∙ ap (λ (os : List OwnedQuant). os ++ (draws F rows s).quants) st)
    ∙ ap (λ z. put (Group n) false [] z (draws F rows s).quants (draws F rows s).boxes) hs
    ∙ ap (λ i. put (Group i) false [] (columns_of s.quant 1 i ++ fold_terms s.quant (suc i) ls) (draws F rows s).quants (draws F rows s).boxes) ns) give

-- the select over groups
pub upper_cells : (u j : ℕ) (fr : Frame) (list : Values) (having : Test) → fold_refs u j (both_folds list having) ≡ fold_refs u j (upper_leaves fr list having)
upper_cells u j fr list having =
    ap (fold_refs u j) (ap₂ (λ xs ys. xs ++ ys) (values_same [] fr list) (test_same [] fr having) ∙ sym (folds_append (list_leaves fr list) (test_leaves fr having))) ∙ fold_refs_folds u j (upper_leaves fr list having)

pub upper_read : (k : Sources) (m : Map) (distinct : Bool) (list : Values) (places : List ℕ) (n : ℕ) (having : Test) (u groups b : ℕ) (fr : Frame) (s v : Boxes) (subs subs2 subs3 start more quants : List OwnedQuant) (head : List Term) (conds : List Cond)
    → fr ≡ key_frame u places 0 n → subs2 ≡ subs → subs3 ≡ subs
    → head ≡ terms (laying k s) fr m (upper_slots u (suc (length places)) (upper_leaves fr list having) subs2) list
    → conds ≡ split (cond (laying k s) fr m (after (list_leaves fr list) (upper_slots u (suc (length places)) (upper_leaves fr list having) subs2)) having)
    → start ≡ [] → more ≡ start ++ record { id = u; kind = F; over = groups } ∷ [] → quants ≡ more ++ subs3
    → Gives (put Select distinct conds head quants s) b v → Gives (l.upper_box k (laying k) distinct list places n having m u groups (after_subs s subs)) b v
upper_read k m distinct list places n having u groups b fr s v subs subs2 subs3 start more quants head conds frs e f hs cs st ms qs give =
    let w : Sources = laying k s in
    let first : OwnedQuant = record { id = u; kind = F; over = groups } in
    let head_at : Frame → List OwnedQuant → List Term = λ fr os. terms w fr m (upper_slots u (suc (length places)) (upper_leaves fr list having) os) list in
    let conds_at : Frame → List OwnedQuant → List Cond = λ fr os. split (cond w fr m (after (list_leaves fr list) (upper_slots u (suc (length places)) (upper_leaves fr list having) os)) having) in
    let owned : quants ≡ first ∷ subs = qs ∙ ap₂ (λ (os ps : List OwnedQuant). os ++ ps) (ms ∙ ap (λ (os : List OwnedQuant). os ++ first ∷ []) st) f in
    gives_at (ap₂ (λ z os. put Select distinct z head os s) (cs ∙ ap₂ conds_at frs e) owned ∙ ap (λ z. put Select distinct (conds_at (key_frame u places 0 n) subs) z (first ∷ subs) s) (hs ∙ ap₂ head_at frs e)) give

-- ---- pairs

pub pair_ranging : (a b : ℕ) (s t u : Boxes) (begin ps os : List OwnedQuant) → Takes (draws F a) s begin t ps → Takes (draws F b) t ps u os → u ≡ ranging b (ranging a s)
pair_ranging a b s t u begin ps os d e = e.boxes ∙ ap (ranging b) d.boxes

pub pair_drawn : (a b : ℕ) (s t u : Boxes) (begin ps os : List OwnedQuant) → begin ≡ [] → Takes (draws F a) s begin t ps → Takes (draws F b) t ps u os → os ≡ pair_of s.quant a b
pair_drawn a b s t u begin ps os bg d e =
    e.quants ∙ ap₂ (λ (zs : List OwnedQuant) (z : Boxes). zs ++ (draws F b z).quants) (d.quants ∙ ap (λ (zs : List OwnedQuant). zs ++ (draws F a s).quants) bg) d.boxes

pub two_read : (k : Sources) (form : SetOperator) (n a b r : ℕ) (s s2 v : Boxes) (quants : List OwnedQuant) (types : List SqlType) (conds : List Cond) (head : List Term)
    → quants ≡ pair_of s.quant a b → s2 ≡ ranging b (ranging a s) → types ≡ map (typed_by s2.rows) (columns_of s.quant 1 n) → conds ≡ [] → head ≡ []
    → Gives (put (SetOp form types) false conds head quants s2) r v → Gives (l.two_box k (laying k) form n (top_at b) (top_at a s)) r v
two_read k form n a b r s s2 v quants types conds head qs ss ts cs hs give =
    gives_at (ap₂ (λ x y. put (SetOp form types) false x y quants s2) cs hs ∙ ap₂ (λ x (os : List OwnedQuant). put (SetOp form x) false [] [] os s2) ts qs
    ∙ ap (λ (z : Boxes). put (SetOp form (map (typed_by z.rows) (columns_of s.quant 1 n))) false [] [] (pair_of s.quant a b) z) ss) give

pub outer_read : (k : Sources) (m : Map) (x : From) (n : ℕ) (p : Test) (a b r : ℕ) (s s2 v : Boxes) (quants : List OwnedQuant) (fr fr2 fr3 : Frame) (conds : List Cond) (head : List Term)
    → quants ≡ pair_of s.quant a b → s2 ≡ ranging b (ranging a s) → fr ≡ refs s.quant 1 (from_width k x) ++ refs (suc s.quant) 1 n → fr2 ≡ fr → fr3 ≡ fr
    → conds ≡ split (cond (laying k s2) fr2 m no_slots p) → head ≡ map ref_term fr3
    → Gives (put OuterJoin false conds head quants s2) r v → Gives (l.outer_box k (laying k) x n p m (top_at b) (top_at a s)) r v
outer_read k m x n p a b r s s2 v quants fr fr2 fr3 conds head qs ss fs e f cs hs give =
    let whole : Frame = refs s.quant 1 (from_width k x) ++ refs (suc s.quant) 1 n in
    gives_at (ap₂ (λ x y. put OuterJoin false x y quants s2) (cs ∙ ap (λ z. split (cond (laying k s2) z m no_slots p)) (e ∙ fs)) (hs ∙ ap (map ref_term) (f ∙ fs))
    ∙ ap (λ (os : List OwnedQuant). put OuterJoin false (split (cond (laying k s2) whole m no_slots p)) (map ref_term whole) os s2) qs
    ∙ ap (λ (z : Boxes). put OuterJoin false (split (cond (laying k z) whole m no_slots p)) (map ref_term whole) (pair_of s.quant a b) z) ss) give

-- ---- operations over what is laid in turn

pub two_laid : (k : Sources) (form : SetOperator) (n a b : ℕ) (x y : Boxes → Laid) (s s1 s2 : Boxes) → Gives (x s) a s1 → Gives (y s1) b s2
    → l.two_box k (laying k) form n (top_at b) (top_at a s2) ≡ l.two_box k (laying k) form n y (x s)
two_laid k form n a b x y s s1 s2 g h =
    ap₂ (λ c (z : Boxes). l.two_box k (laying k) form n (top_at c) (top_at a z)) h.0 h.1
    ∙ ap₂ (λ c (z : Boxes). l.two_box k (laying k) form n y (record { boxes = z; top = c })) g.0 g.1

pub outer_laid : (k : Sources) (m : Map) (o : From) (n : ℕ) (p : Test) (a b : ℕ) (x y : Boxes → Laid) (s s1 s2 : Boxes) → Gives (x s) a s1 → Gives (y s1) b s2
    → l.outer_box k (laying k) o n p m (top_at b) (top_at a s2) ≡ l.outer_box k (laying k) o n p m y (x s)
outer_laid k m o n p a b x y s s1 s2 g h =
    ap₂ (λ c (z : Boxes). l.outer_box k (laying k) o n p m (top_at c) (top_at a z)) h.0 h.1
    ∙ ap₂ (λ c (z : Boxes). l.outer_box k (laying k) o n p m y (record { boxes = z; top = c })) g.0 g.1
