-- The selects over what was laid, from their heads and conditions.
use Rattle.std.specs.Prelude.{IfOk, IsOkAnd}
use Rattle.std.specs.Result.{OnOk}
use Rattle.std.proofs.Common.{◌≡◌, ℕ, Bool, false, Result, Ok, Err, List, [], ◌++◌, append-nil, map, ap, ap₂, subst, sym, ◌∙◌}
use Rattle.sql_meaning.specs.ResolvedTrees.{From, Froms, Test, Values}
use Rattle.sql_meaning.specs.ResolvedTrees as q
use Rattle.qgm_core.specs.declared.kinds.BoxKind.TheVariants.{Select}
use Rattle.qgm_core.specs.declared.owned.OwnedQuant.{OwnedQuant}
use Rattle.qgm_terms.specs.Terms.{Cond, Term}
use Rattle.qgm_translation.specs.Folds.{on_folds}
use Rattle.qgm_translation.specs.Lay.{Boxes, Drawn, Laid, box_named, flat_box, laying, put, select_box}
use Rattle.qgm_translation.specs.Leaves.{Leaf, Slots, list_leaves}
use Rattle.qgm_translation.specs.Maps.{Frame, Map, ref_term}
use Rattle.qgm_translation.specs.Shown.{all_leaves, conds_of, frame, frame_all, no_slots, on_leaves, ons, rows_list, slots_of, ungrouped_cells}
use Rattle.qgm_translation.specs.Sources.{Sources}
use Rattle.qgm_translation.specs.Terms.{terms}
use Rattle.qgm_translation.specs.Typing.{typed_by}
use Rattle.qgm_translation.proofs.FoldsSame.{on_same}
use Rattle.qgm_build_terms.specs.Making.{Gives, after_subs}
use Rattle.qgm_build_terms.specs.Written.{slots_from}
use Rattle.qgm_build_terms.proofs.Grouped.{ungrouped_folds}
use Rattle.qgm_build.proofs.Same.{all_leaves_same, frame_all_same, frame_same}

pub gives_at : {r q : Laid} {b : ℕ} {t : Boxes} → r ≡ q → Gives r b t → Gives q b t
gives_at e g = (g.0 ∙ ap (λ (z : Laid). z.top) e, g.1 ∙ ap (λ (z : Laid). z.boxes) e)

-- a box over quantifiers that were drawn is one over those that are to be drawn
pub gives_over : (box : List OwnedQuant → Drawn → Laid) {fs gs ps : List OwnedQuant} {t u : Boxes} {d : Drawn} {b : ℕ} → fs ≡ gs → ps ≡ d.quants → t ≡ d.boxes → Gives (box fs (after_subs t ps)) b u → Gives (box gs d) b u
gives_over box {fs} {gs} {ps} {t} {u} {d} {b} e f h g =
    gives_at (ap (λ (z : List OwnedQuant). box z (after_subs t ps)) e ∙ ap₂ (λ (z : Boxes) (os : List OwnedQuant). box gs (after_subs z os)) h f) g

module _ (k : Sources) (m : Map) (distinct : Bool) (from : Froms) (by : Test) (heads : Frame → List Leaf) (list : Sources → Frame → Slots → List Term) (s : Boxes) (fs subs : List OwnedQuant) where
  abbrev slots : Slots
  slots = slots_of (all_leaves k from by heads fs) subs

  pub select_read : (fr : Frame) (sl : Slots) (head : List Term) (conds : List Cond) (quants : List OwnedQuant) (b : ℕ) (t : Boxes)
      → fr ≡ frame_all k from fs → sl ≡ slots → head ≡ list (laying k s) fr sl → conds ≡ conds_of (laying k s) from by heads m fs sl → quants ≡ fs ++ subs
      → Gives (put Select distinct conds head quants s) b t → Gives (select_box k (laying k) distinct from by heads list m fs (after_subs s subs)) b t
  select_read fr sl head conds quants b t frs sls hs cs qs g =
      let h : head ≡ list (laying k s) (frame_all k from fs) slots = hs ∙ ap₂ (list (laying k s)) frs sls in
      let c : conds ≡ conds_of (laying k s) from by heads m fs slots = cs ∙ ap (conds_of (laying k s) from by heads m fs) sls in
      gives_at (ap (λ z. put Select distinct z head quants s) c ∙ ap₂ (λ z os. put Select distinct (conds_of (laying k s) from by heads m fs slots) z os s) h qs) g

  pub slots_same : slots_of (all_leaves (laying k s) from by heads fs) subs ≡ slots
  slots_same = ap (λ ls. slots_of ls subs) (all_leaves_same k (box_named s.shared) (typed_by s.rows) from by heads fs)

-- a block that isn't grouped
pub block_read : (k : Sources) (m : Map) (distinct : Bool) (list : Values) (from : Froms) (by : Test) (s : Boxes) (fs subs fs2 subs2 subs3 : List OwnedQuant) (head : List Term) (conds : List Cond) (quants : List OwnedQuant) (b : ℕ) (t : Boxes)
    → fs2 ≡ fs → subs2 ≡ subs → subs3 ≡ subs
    → head ≡ terms (laying k s) (frame_all (laying k s) from fs2) m (slots_of (all_leaves (laying k s) from by (λ fr. list_leaves fr list) fs2) subs2) list
    → conds ≡ conds_of (laying k s) from by (λ fr. list_leaves fr list) m fs2 (slots_of (all_leaves (laying k s) from by (λ fr. list_leaves fr list) fs2) subs2)
    → quants ≡ fs ++ subs3 → Gives (put Select distinct conds head quants s) b t
    → Gives (select_box k (laying k) distinct from by (λ fr. list_leaves fr list) (λ sources fr sl. terms sources fr m sl list) m fs (after_subs s subs)) b t
block_read k m distinct list from by s fs subs fs2 subs2 subs3 head conds quants b t e f g hs cs qs give =
    let heads : Frame → List Leaf = λ fr. list_leaves fr list in
    let w : Sources = laying k s in
    select_read k m distinct from by heads (λ sources fr sl. terms sources fr m sl list) s fs subs (frame_all w from fs) (slots_of (all_leaves w from by heads fs) subs) head conds quants b t
    (frame_all_same k (box_named s.shared) (typed_by s.rows) from fs) (slots_same k m distinct from by heads (λ sources fr sl. terms sources fr m sl list) s fs subs)
    (hs ∙ ap₂ (λ (os ps : List OwnedQuant). terms w (frame_all w from os) m (slots_of (all_leaves w from by heads os) ps) list) e f)
    (cs ∙ ap₂ (λ (os ps : List OwnedQuant). conds_of w from by heads m os (slots_of (all_leaves w from by heads os) ps)) e f)
    (qs ∙ ap (λ (ps : List OwnedQuant). fs ++ ps) g) give

-- the rows of a grouped block
pub rows_read : (k : Sources) (m : Map) (places : List ℕ) (ls : List Leaf) (from : Froms) (by : Test) (s : Boxes) (fs subs fs2 subs2 subs3 : List OwnedQuant) (fr : Frame) (head : List Term) (conds : List Cond) (quants : List OwnedQuant) (b : ℕ) (t : Boxes)
    → fs2 ≡ fs → subs2 ≡ subs → subs3 ≡ subs → fr ≡ frame_all k from fs
    → head ≡ rows_list (laying k s) places ls fr no_slots
    → conds ≡ conds_of (laying k s) from by (λ fr. []) m fs2 (slots_of (all_leaves (laying k s) from by (λ fr. []) fs2) subs2)
    → quants ≡ fs ++ subs3 → Gives (put Select false conds head quants s) b t
    → Gives (select_box k (laying k) false from by (λ fr. []) (λ sources. rows_list sources places ls) m fs (after_subs s subs)) b t
rows_read k m places ls from by s fs subs fs2 subs2 subs3 fr head conds quants b t e f g frs hs cs qs give =
    let heads : Frame → List Leaf = λ fr. [] in
    let w : Sources = laying k s in
    select_read k m false from by heads (λ sources. rows_list sources places ls) s fs subs fr (slots_of (all_leaves w from by heads fs) subs) head conds quants b t
    frs (slots_same k m false from by heads (λ sources. rows_list sources places ls) s fs subs) hs
    (cs ∙ ap₂ (λ (os ps : List OwnedQuant). conds_of w from by heads m os (slots_of (all_leaves w from by heads os) ps)) e f)
    (qs ∙ ap (λ (ps : List OwnedQuant). fs ++ ps) g) give

-- a select over one operand
pub flat_read : (k : Sources) (m : Map) (x : From) (s : Boxes) (fs subs fs2 fs3 subs2 subs3 : List OwnedQuant) (head : List Term) (conds : List Cond) (quants : List OwnedQuant) (b : ℕ) (t : Boxes)
    → fs2 ≡ fs → fs3 ≡ fs → subs2 ≡ subs → subs3 ≡ subs
    → head ≡ map ref_term (frame (laying k s) x fs2)
    → conds ≡ ons (laying k s) m x fs3 (slots_from subs2 (ungrouped_cells (on_folds x)))
    → quants ≡ fs ++ subs3 → Gives (put Select false conds head quants s) b t
    → Gives (flat_box k (laying k) x m fs (after_subs s subs)) b t
flat_read k m x s fs subs fs2 fs3 subs2 subs3 head conds quants b t e e2 f g hs cs qs give =
    let w : Sources = laying k s in
    let shared : List ℕ → ℕ = box_named s.shared in
    let typed = typed_by s.rows in
    let from : Froms = q.one_from x q.no_from in
    let by : Test = q.all q.no_test in
    let sl : Slots = slots_from subs (ungrouped_cells (on_folds x)) in
    let leaves : ungrouped_cells (on_folds x) ≡ ungrouped_cells (all_leaves k from by (λ fr. []) fs) =
    ap ungrouped_cells (sym (on_same k x fs)) ∙ ungrouped_folds (on_leaves k x fs) ∙ ap ungrouped_cells (sym (append-nil (on_leaves k x fs)) ∙ sym (append-nil (on_leaves k x fs ++ []))) in
    select_read k m false from by (λ fr. []) (λ sources fr sl. map ref_term fr) s fs subs (frame w x fs) sl head conds quants b t
    (frame_same k shared typed x fs ∙ sym (append-nil (frame k x fs))) (ap (slots_from subs) leaves)
    (hs ∙ ap (λ (os : List OwnedQuant). map ref_term (frame w x os)) e)
    (cs ∙ ap₂ (λ (os ps : List OwnedQuant). ons w m x os (slots_from ps (ungrouped_cells (on_folds x)))) e2 f ∙ sym (append-nil (ons w m x fs sl)) ∙ sym (append-nil (ons w m x fs sl ++ [])))
    (qs ∙ ap (λ (ps : List OwnedQuant). fs ++ ps) g) give

-- a box that is made of parts and quantifiers, by what holds of these
pub made_of : {W E : Type 0} (r : Result ℕ E) (parts : Result W E) (quants : Result (List OwnedQuant) E) (P : ℕ → W → List OwnedQuant → Type 0) (A B : W → Type 0) (S : List OwnedQuant → Type 0) (T : ℕ → Type 0)
    → IfOk r (λ b. IsOkAnd parts (λ made. IsOkAnd quants (λ qs. P b made qs))) → IfOk parts A → IfOk parts B → IfOk quants S
    → ((b : ℕ) (made : W) (qs : List OwnedQuant) → P b made qs → A made → B made → S qs → T b) → IfOk r T
made_of (Ok b) (Ok made) (Ok qs) P A B S T h a c s f = f b made qs h a c s
made_of (Ok b) (Ok made) (Err e) P A B S T h a c s f = absurd h
made_of (Ok b) (Err e) quants P A B S T h a c s f = absurd h
made_of (Err e) parts quants P A B S T h a c s f = tt

-- a box that is made of parts and quantifiers, by what holds of these and of the boxes that the quantifiers leave
pub made_on : {W E : Type 0} (r : Result ℕ E) (parts : Result W E) (quants : Result (List OwnedQuant) E) (P : ℕ → W → List OwnedQuant → Type 0) (A B : W → Type 0) (S : List OwnedQuant → Type 0) (Z : Type 0) (T : ℕ → Type 0)
    → IfOk r (λ b. IsOkAnd parts (λ made. IsOkAnd quants (λ qs. P b made qs))) → IfOk parts A → IfOk parts B → IfOk quants S → OnOk quants Z
    → ((b : ℕ) (made : W) (qs : List OwnedQuant) → P b made qs → A made → B made → S qs → Z → T b) → IfOk r T
made_on (Ok b) (Ok made) (Ok qs) P A B S Z T h a c s z f = f b made qs h a c s z
made_on (Ok b) (Ok made) (Err e) P A B S Z T h a c s z f = absurd h
made_on (Ok b) (Err e) quants P A B S Z T h a c s z f = absurd h
made_on (Err e) parts quants P A B S Z T h a c s z f = tt

-- what holds of a part that was used
pub part_of : {W V E : Type 0} (r : Result W E) (a : Result V E) (f : W → V) (P : V → Type 0) → IfOk r (λ w. IsOkAnd a (λ v. f w ≡ v)) → IfOk a P → IfOk r (λ w. P (f w))
part_of (Ok w) (Ok v) f P e p = subst P (sym e) p
part_of (Ok w) (Err x) f P e p = absurd e
part_of (Err x) a f P e p = tt

-- what holds of two parts that were used, the second of which was made after the first
pub parts_of : {W V U E : Type 0} (r : Result W E) (a : Result V E) (b : Result U E) (f : W → V) (g : W → U) (Z : Type 0) (Q : U → Type 0) (T : W → Type 0)
    → IfOk r (λ w. IsOkAnd a (λ v. f w ≡ v)) → IfOk r (λ w. IsOkAnd b (λ u. g w ≡ u)) → IfOk a (λ v. Z) → IfOk b Q → ((w : W) → Z → Q (g w) → T w) → IfOk r T
parts_of (Ok w) (Ok v) (Ok u) f g Z Q T d e z q h = h w z (subst Q (sym e) q)
parts_of (Ok w) (Ok v) (Err x) f g Z Q T d e z q h = absurd e
parts_of (Ok w) (Err x) b f g Z Q T d e z q h = absurd d
parts_of (Err x) a b f g Z Q T d e z q h = tt
