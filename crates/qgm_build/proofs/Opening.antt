-- Blocks, operands and joins from their parts in turn.
use Rattle.std.proofs.Common.{◌≡◌, ℕ, Bool, false, List, [], ◌++◌, map, length, suc, Option, pos, get_or, ap, ap₂, refl, sym, ◌∙◌}
use Rattle.sql_meaning.specs.ResolvedTrees.{From, Froms, Query, Test, Values}
use Rattle.sql_meaning.specs.ResolvedTrees as q
use Rattle.qgm_core.specs.declared.kinds.QuantKind.TheVariants.{F}
use Rattle.qgm_core.specs.declared.owned.OwnedQuant.{OwnedQuant}
use Rattle.qgm_terms.specs.Terms as t
use Rattle.qgm_terms.specs.Terms.{Term}
use Rattle.qgm_core.specs.declared.kinds.BoxKind.TheVariants.{Group, Select}
use Rattle.qgm_translation.specs.Folds.{folds_in}
use Rattle.qgm_translation.specs.Lay.{Boxes, Drawn, Laid, Step, drawn, in_turn, laying, put, ranging}
use Rattle.qgm_translation.specs.Lay as l
use Rattle.qgm_translation.specs.Leaves.{Leaf, list_leaves, test_leaves}
use Rattle.qgm_translation.specs.Maps.{Frame, nothing, ref_term}
use Rattle.qgm_translation.specs.Shown.{all_leaves, columns_of, conds_of, frame, frame_all, key_frame, key_places, padded, past, slots_of, upper_leaves}
use Rattle.qgm_translation.specs.Sources.{Sources}
use Rattle.qgm_translation.proofs.FoldsSame.{folds_append}
use Rattle.qgm_build.specs.Laying.{Opens, block_box, block_groups, block_subs, flat_box, flat_laid, from_step, froms_step, group_box, on_step, outer_of, query_laid, rows_box, rows_subs, told_at, upper_box, upper_laid}
use Rattle.qgm_build_terms.specs.Making.{Gives, Takes, after_subs, top_at}
use Rattle.qgm_build_terms.specs.declared.setting.Ground.{Ground}
use Rattle.qgm_build.proofs.Paired.{arguments_folds, both_folds, fold_terms_folds}
use Rattle.qgm_build.proofs.Selected.{gives_at, gives_over}
use Rattle.qgm_build.proofs.Taking.{takes_three}

top_is : {r : Laid} {b : ℕ} {s : Boxes} → Gives r b s → top_at b s ≡ r
top_is e = ap₂ top_at e.0 e.1

-- what is laid after a FROM
pub opens_from : (g : Ground) (from : Froms) (subs : Frame → List OwnedQuant → Step) (s s1 s2 : Boxes) (start fs fs2 fs3 begin ps : List OwnedQuant) (fr fr2 : Frame)
    → start ≡ [] → Takes (froms_step g from) s start s1 fs → fs2 ≡ fs → fs3 ≡ fs → fr ≡ frame_all (told_at g) from fs2 → fr2 ≡ fr → begin ≡ []
    → Takes (subs fr2 fs3) s1 begin s2 ps → Opens g from subs s fr fs ps s2
opens_from g from subs s s1 s2 start fs fs2 fs3 begin ps fr fr2 st d e2 e3 frs e4 bg u =
    let f : Drawn = froms_step g from s in
    let quants : fs ≡ f.quants = d.quants ∙ ap (λ (os : List OwnedQuant). os ++ f.quants) st in
    let frame_is : fr ≡ frame_all (told_at g) from f.quants = frs ∙ ap (frame_all (told_at g) from) (e2 ∙ quants) in
    let step : subs fr2 fs3 s1 ≡ subs (frame_all (told_at g) from f.quants) f.quants f.boxes =
    ap₂ (λ x (os : List OwnedQuant). subs x os s1) (e4 ∙ frame_is) (e3 ∙ quants) ∙ ap (subs (frame_all (told_at g) from f.quants) f.quants) d.boxes in
    record {
      quants = quants;
      frame = frame_is;
      subs = u.quants ∙ ap (λ (os : List OwnedQuant). os ++ (subs fr2 fs3 s1).quants) bg ∙ ap (λ (z : Drawn). z.quants) step;
      boxes = u.boxes ∙ ap (λ (z : Drawn). z.boxes) step;
    }

-- what is laid after a FROM, where its quantifiers and those of its subqueries are drawn from none
pub opens_parts : (g : Ground) (from : Froms) (subs : Frame → List OwnedQuant → Step) (s s1 s2 : Boxes) (fs ps : List OwnedQuant) (fr : Frame)
    → Takes (froms_step g from) s [] s1 fs → fr ≡ frame_all (told_at g) from fs → Takes (subs fr fs) s1 [] s2 ps → Opens g from subs s fr fs ps s2
opens_parts g from subs s s1 s2 fs ps fr d frs u = opens_from g from subs s s1 s2 [] fs fs fs [] ps fr fr refl d refl refl frs refl refl u

pub opens_seen : (g : Ground) (from : Froms) (subs : Frame → List OwnedQuant → Step) (s s2 : Boxes) (fr : Frame) (fs ps : List OwnedQuant) → Opens g from subs s fr fs ps s2 → fr ≡ frame_all (told_at g) from fs
opens_seen g from subs s s2 fr fs ps o = o.frame ∙ ap (frame_all (told_at g) from) (sym o.quants)

-- a block that isn't grouped
pub block_laid : (g : Ground) (distinct : Bool) (list : Values) (from : Froms) (by : Test) (s s2 u : Boxes) (fr : Frame) (fs ps : List OwnedQuant) (b : ℕ)
    → Opens g from (block_subs g list from by) s fr fs ps s2 → Gives (block_box g distinct list from by fs (after_subs s2 ps)) b u → Gives (query_laid g (q.block distinct list from by) s) b u
block_laid g distinct list from by s s2 u fr fs ps b o e = gives_over (block_box g distinct list from by) o.quants o.subs o.boxes e

-- the groups of a grouped block
pub groups_made : (g : Ground) (list : Values) (from : Froms) (by : Test) (keys : Option (List ℕ)) (places : List ℕ) (having : Test) (folds : List Leaf) (s s1 s2 s3 : Boxes) (fr : Frame) (fs ps : List OwnedQuant) (r b : ℕ)
    → places ≡ key_places keys → folds ≡ both_folds list having
    → Opens g from (rows_subs g from by) s fr fs ps s1 → Gives (rows_box g places folds from by fs (after_subs s1 ps)) r s2
    → Gives (group_box g places folds r s2) b s3 → Gives (block_groups g list from by (key_places keys) having s) b s3
groups_made g list from by keys places having folds s s1 s2 s3 fr fs ps r b at_keys are o rows groups =
    let k : Sources = told_at g in
    let ls : List Leaf = upper_leaves [] list having in
    let f : Drawn = froms_step g from s in
    let c : Drawn = rows_subs g from by (frame_all k from f.quants) f.quants f.boxes in
    let folds_are : folds ≡ folds_in ls = are ∙ sym (folds_append (list_leaves [] list) (test_leaves [] having)) in
    let rows_at : List ℕ → List Leaf → Laid = λ ks zs. rows_box g ks zs from by f.quants c in
    let conds = conds_of (laying k c.boxes) from by (λ fr. []) (outer_of g) f.quants (slots_of (all_leaves k from by (λ fr. []) f.quants) c.quants) in
    let seen : Frame = frame_all k from f.quants in
    let same_rows : rows_at places (folds_in ls) ≡ rows_at places ls =
    ap (λ (zs : List Term). put Select false conds (padded (t.int (pos 1)) (map (λ place. ref_term (get_or seen place nothing)) places ++ zs)) (f.quants ++ c.quants) c.boxes) (arguments_folds (laying k c.boxes) seen ls) in
    let below : top_at r s2 ≡ rows_at places ls = top_is (gives_over (rows_box g places folds from by) o.quants o.subs o.boxes rows) ∙ ap (rows_at places) folds_are ∙ same_rows in
    let group_at : List ℕ → List Leaf → Laid → Laid = λ ks zs x. l.group_box k (laying k) ks zs x in
    let same_groups : group_at places (folds_in ls) (rows_at places ls) ≡ group_at places ls (rows_at places ls) =
    let x : Laid = rows_at places ls in
    ap (λ (zs : List Term). put (Group (length places)) false [] (columns_of x.boxes.quant 1 (length places) ++ zs) (drawn F x).quants (drawn F x).boxes) (fold_terms_folds x.boxes.quant (suc (length places)) ls) in
    gives_at (ap₂ (λ zs (x : Laid). group_at places zs x) folds_are below ∙ same_groups ∙ ap (λ ks. block_groups g list from by ks having s) at_keys) groups

-- a grouped block
pub grouped_laid : (g : Ground) (distinct : Bool) (list : Values) (from : Froms) (by : Test) (keys : Option (List ℕ)) (places : List ℕ) (n : ℕ) (having : Test) (s s1 s2 : Boxes) (groups b : ℕ)
    → places ≡ key_places keys → Gives (block_groups g list from by (key_places keys) having s) groups s1
    → Gives (upper_laid g distinct list places n having (top_at groups s1)) b s2 → Gives (query_laid g (q.grouped distinct list from by keys n having) s) b s2
grouped_laid g distinct list from by keys places n having s s1 s2 groups b at_keys below top =
    let r : Laid = block_groups g list from by (key_places keys) having s in
    gives_at (ap (upper_laid g distinct list places n having) (top_is below) ∙ ap (λ ks. upper_laid g distinct list ks n having r) at_keys) top

-- the select over groups
pub upper_is : (g : Ground) (distinct : Bool) (list : Values) (places : List ℕ) (n : ℕ) (having : Test) (groups u b : ℕ) (s s1 s2 s3 : Boxes) (fr fr2 : Frame) (p : List OwnedQuant)
    → u ≡ s.quant → s1 ≡ ranging groups s → fr ≡ key_frame u places 0 n → fr2 ≡ fr
    → Takes (in_turn (l.list_subs (told_at g) (laying (told_at g)) (outer_of g) fr2 list) (l.test_subs (told_at g) (laying (told_at g)) (outer_of g) fr2 having)) s1 [] s2 p
    → Gives (upper_box g distinct list places n having u groups (after_subs s2 p)) b s3
    → Gives (upper_laid g distinct list places n having (top_at groups s)) b s3
upper_is g distinct list places n having groups u b s s1 s2 s3 fr fr2 p us ss frs e d give =
    let k : Sources = told_at g in
    let step : Frame → Step = λ x. in_turn (l.list_subs k (laying k) (outer_of g) x list) (l.test_subs k (laying k) (outer_of g) x having) in
    let up : Frame = key_frame s.quant places 0 n in
    let seen : fr2 ≡ up = e ∙ frs ∙ ap (λ i. key_frame i places 0 n) us in
    let at : step fr2 s1 ≡ step up (ranging groups s) = ap₂ (λ x (z : Boxes). step x z) seen ss in
    let subs : p ≡ (step up (ranging groups s)).quants = d.quants ∙ ap (λ (z : Drawn). z.quants) at in
    let boxes : s2 ≡ (step up (ranging groups s)).boxes = d.boxes ∙ ap (λ (z : Drawn). z.boxes) at in
    gives_at (ap (λ i. upper_box g distinct list places n having i groups (after_subs s2 p)) us ∙ ap₂ (λ (z : Boxes) (os : List OwnedQuant). upper_box g distinct list places n having s.quant groups (after_subs z os)) boxes subs) give

-- ---- operands

-- one operand, and what is laid after it
pub flat_made : (g : Ground) (x : From) (s s1 s2 s3 : Boxes) (start fs begin os0 ps : List OwnedQuant) (b : ℕ)
    → start ≡ [] → Takes (from_step g x) s start s1 fs → begin ≡ [] → os0 ≡ fs → Takes (on_step g x os0) s1 begin s2 ps
    → Gives (flat_box g x fs (after_subs s2 ps)) b s3 → Gives (flat_laid g x s) b s3
flat_made g x s s1 s2 s3 start fs begin os0 ps b st d bg oe u give =
    let f : Drawn = from_step g x s in
    let quants : fs ≡ f.quants = d.quants ∙ ap (λ (os : List OwnedQuant). os ++ f.quants) st in
    let step : on_step g x os0 s1 ≡ on_step g x f.quants f.boxes = ap₂ (λ (os : List OwnedQuant) (z : Boxes). on_step g x os z) (oe ∙ quants) d.boxes in
    gives_over (flat_box g x) quants (u.quants ∙ ap (λ (os : List OwnedQuant). os ++ (on_step g x os0 s1).quants) bg ∙ ap (λ (z : Drawn). z.quants) step) (u.boxes ∙ ap (λ (z : Drawn). z.boxes) step) give

abbrev pub joined_subs : Ground → From → From → Test → List OwnedQuant → Step
joined_subs g a b p os =
    in_turn (on_step g a os) (in_turn (on_step g b (past (told_at g) a os))
    (l.test_subs (told_at g) (laying (told_at g)) (outer_of g) (frame (told_at g) a os ++ frame (told_at g) b (past (told_at g) a os)) p))

pub joined_take : (g : Ground) (a b : From) (p : Test) (s s1 s2 s3 : Boxes) (os os1 begin p1 p2 p3 : List OwnedQuant) (fr fr2 : Frame)
    → Takes (on_step g a os) s begin s1 p1 → os1 ≡ past (told_at g) a os → Takes (on_step g b os1) s1 p1 s2 p2
    → fr ≡ frame (told_at g) a os ++ frame (told_at g) b (past (told_at g) a os) → fr2 ≡ fr
    → Takes (l.test_subs (told_at g) (laying (told_at g)) (outer_of g) fr2 p) s2 p2 s3 p3 → Takes (joined_subs g a b p os) s begin s3 p3
joined_take g a b p s s1 s2 s3 os os1 begin p1 p2 p3 fr fr2 d1 e d2 frs f d3 =
    let k : Sources = told_at g in
    let seen : Frame = frame k a os ++ frame k b (past k a os) in
    let d : Takes (on_step g b (past k a os)) s1 p1 s2 p2 = record { boxes = d2.boxes ∙ ap (λ (z : List OwnedQuant). (on_step g b z s1).boxes) e; quants = d2.quants ∙ ap (λ (z : List OwnedQuant). p1 ++ (on_step g b z s1).quants) e } in
    let u : Takes (l.test_subs k (laying k) (outer_of g) seen p) s2 p2 s3 p3 =
    record { boxes = d3.boxes ∙ ap (λ z. (l.test_subs k (laying k) (outer_of g) z p s2).boxes) (f ∙ frs); quants = d3.quants ∙ ap (λ z. p2 ++ (l.test_subs k (laying k) (outer_of g) z p s2).quants) (f ∙ frs) } in
    takes_three (on_step g a os) (on_step g b (past k a os)) (l.test_subs k (laying k) (outer_of g) seen p) d1 d u
