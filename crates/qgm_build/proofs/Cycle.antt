-- Queries, operands and joins from what was laid for their parts.
use Rattle.std.proofs.Common.{◌≡◌, ◌∙◌, ◌++◌, ℕ, Bool, List, [], Option, Result, Ok, Err, true, false, ap, refl, subst, sym}
use Rattle.std.specs.Prelude.{IfOk, IsOkAnd}
use Rattle.std.specs.Result.{OnOk, result_and}
use Rattle.std.proofs.lemmas.Result.{IfOk-weaker}
use Rattle.shared_types.specs.declared.memory.OutOfMemory.{OutOfMemory}
use Rattle.sql_ast.specs.declared.word.SetOperator.{SetOperator as Combined}
use Rattle.sql_meaning.specs.ResolvedTrees.{From, Froms, Query, Test, Values}
use Rattle.sql_meaning.specs.ResolvedTrees as q
use Rattle.qgm_core.specs.declared.kinds.QuantKind.TheVariants.{F}
use Rattle.qgm_core.specs.declared.kinds.SetOperator.{SetOperator}
use Rattle.qgm_core.specs.declared.owned.OwnedQuant.{OwnedQuant}
use Rattle.qgm_translation.specs.Lay.{Boxes, Step, box_named, in_turn, laying, ranging}
use Rattle.qgm_translation.specs.Lay as l
use Rattle.qgm_translation.specs.Leaves.{Leaf}
use Rattle.qgm_translation.specs.Maps.{Frame}
use Rattle.qgm_translation.specs.Shown.{common_form, form_of, frame, frame_all, key_frame, key_places, past}
use Rattle.qgm_build.specs.Laying.{Opens, all_on_step, block_box, block_subs, flat_box, flat_laid, from_step, froms_step, group_box, groups_laid, list_step, on_step, operand_laid, outer_box, outer_of, query_laid, rows_box, rows_subs, test_step, told_at, two_box, upper_box}
use Rattle.qgm_build.specs.Parts.{is_single, subs_step, upper_step}
use Rattle.qgm_build_terms.specs.Making.{Gives, Takes, after_subs, draws}
use Rattle.qgm_build_terms.specs.Written.{frame_of}
use Rattle.qgm_build_terms.specs.declared.setting.Ground.{Ground}
use Rattle.qgm_build_terms.specs.declared.setting.Seat.{Seat}
use Rattle.qgm_build.proofs.Opening.{block_laid, flat_made, grouped_laid, groups_made, joined_subs, joined_take, opens_parts, upper_is}
use Rattle.qgm_build.proofs.Paired.{both_folds, outer_laid, two_laid}
use Rattle.qgm_build.proofs.Selected.{gives_at}
use Rattle.qgm_build.proofs.Taking.{all_three, all_two, of_both, of_one, takes_both, takes_over, takes_three, value_of}

-- a set operation
pub pair_laid : (g : Ground) (made form : SetOperator) (n : ℕ) (x y : Query) (a b r : ℕ) (s s1 s2 u : Boxes) → made ≡ form → Gives (query_laid g x s) a s1 → Gives (query_laid g y s1) b s2
    → Gives (two_box g made n a b s2) r u → Gives (l.two_box (told_at g) (laying (told_at g)) form n (query_laid g y) (query_laid g x s)) r u
pair_laid g made form n x y a b r s s1 s2 u e d1 d2 give =
    gives_at (ap (λ z. two_box g z n a b s2) e ∙ two_laid (told_at g) form n a b (query_laid g x) (query_laid g y) s s1 s2 d1 d2) give

-- a LEFT JOIN
pub left_laid : (g : Ground) (x y : From) (n : ℕ) (p : Test) (a b r : ℕ) (s s1 s2 u : Boxes) → Gives (operand_laid g x s) a s1 → Gives (operand_laid g y s1) b s2
    → Gives (outer_box g x n p a b s2) r u → Gives (operand_laid g (q.left_joined x y n p) s) r u
left_laid g x y n p a b r s s1 s2 u d1 d2 give =
    gives_at (outer_laid (told_at g) (outer_of g) x n p a b (operand_laid g x) (operand_laid g y) s s1 s2 d1 d2) give

takes_at : (a b : Step) (s t : Boxes) (os ps : List OwnedQuant) → a ≡ b → Takes a s os t ps → Takes b s os t ps
takes_at a b s t os ps e d = record { boxes = d.boxes ∙ ap (λ (z : Step). (z s).boxes) e; quants = d.quants ∙ ap (λ (z : Step). os ++ (z s).quants) e }

-- ---- the same of an operand that is known to be one of these

pub left_is : (g : Ground) (o x y : From) (n : ℕ) (p : Test) (a b r : ℕ) (s s1 s2 u : Boxes) → o ≡ q.left_joined x y n p → Gives (operand_laid g x s) a s1 → Gives (operand_laid g y s1) b s2
    → Gives (outer_box g x n p a b s2) r u → Gives (operand_laid g o s) r u
left_is g o x y n p a b r s s1 s2 u is d1 d2 give = gives_at (ap (λ (z : From). operand_laid g z s) (sym is)) (left_laid g x y n p a b r s s1 s2 u d1 d2 give)

pub joined_step : (g : Ground) (x a b : From) (p : Test) (s s1 s2 s3 : Boxes) (os os0 os2 os1 begin p1 p2 p3 : List OwnedQuant) (fr fr2 : Frame) → x ≡ q.joined a b p → os0 ≡ os → os2 ≡ os
    → Takes (on_step g a os0) s begin s1 p1 → os1 ≡ past (told_at g) a os0 → Takes (on_step g b os1) s1 p1 s2 p2
    → fr ≡ frame (told_at g) a os2 ++ frame (told_at g) b (past (told_at g) a os2) → fr2 ≡ fr
    → Takes (l.test_subs (told_at g) (laying (told_at g)) (outer_of g) fr2 p) s2 p2 s3 p3 → Takes (on_step g x os) s begin s3 p3
joined_step g x a b p s s1 s2 s3 os os0 os2 os1 begin p1 p2 p3 fr fr2 is oe oe2 e1 past_is e2 frs fe e3 =
    takes_at (joined_subs g a b p os0) (on_step g x os) s s3 begin p3 (ap (joined_subs g a b p) oe ∙ ap (λ (z : From). on_step g z os) (sym is))
    (joined_take g a b p s s1 s2 s3 os0 os1 begin p1 p2 p3 fr fr2 e1 past_is e2 (frs ∙ ap (λ (os : List OwnedQuant). frame (told_at g) a os ++ frame (told_at g) b (past (told_at g) a os)) (oe2 ∙ sym oe)) fe e3)

pub joined_ok : {U V : Type 0} (g : Ground) (x a b : From) (p : Test) (s s1 s2 s3 : Boxes) (os os1 begin p1 p2 p3 : List OwnedQuant) (ra rb rc : Result U OutOfMemory) (fr : Result V OutOfMemory) (f : V → Frame) → x ≡ q.joined a b p
    → OnOk ra (Takes (on_step g a os) s begin s1 p1) → OnOk ra (os1 ≡ past (told_at g) a os) → OnOk rb (Takes (on_step g b os1) s1 p1 s2 p2)
    → IfOk fr (λ v. f v ≡ frame (told_at g) a os ++ frame (told_at g) b (past (told_at g) a os))
    → OnOk rc (IsOkAnd fr (λ v. Takes (l.test_subs (told_at g) (laying (told_at g)) (outer_of g) (f v) p) s2 p2 s3 p3))
    → OnOk (result_and (result_and ra rb) rc) (Takes (on_step g x os) s begin s3 p3)
joined_ok g x a b p s s1 s2 s3 os os1 begin p1 p2 p3 (Ok u) (Ok v) (Ok w) (Ok y) f is e1 pa e2 frs e3 =
    joined_step g x a b p s s1 s2 s3 os os os os1 begin p1 p2 p3 (f y) (f y) is refl refl e1 pa e2 frs refl e3
joined_ok g x a b p s s1 s2 s3 os os1 begin p1 p2 p3 (Ok u) (Ok v) (Ok w) (Err e) f is e1 pa e2 frs e3 = absurd e3
joined_ok g x a b p s s1 s2 s3 os os1 begin p1 p2 p3 (Ok u) (Ok v) (Err e) fr f is e1 pa e2 frs e3 = tt
joined_ok g x a b p s s1 s2 s3 os os1 begin p1 p2 p3 (Ok u) (Err e) rc fr f is e1 pa e2 frs e3 = tt
joined_ok g x a b p s s1 s2 s3 os os1 begin p1 p2 p3 (Err e) rb rc fr f is e1 pa e2 frs e3 = tt

pub crossed_ok : {U : Type 0} (g : Ground) (x a b : From) (s s1 s2 : Boxes) (os os1 begin p1 p2 : List OwnedQuant) (ra rb : Result U OutOfMemory) → x ≡ q.crossed a b
    → OnOk ra (Takes (on_step g a os) s begin s1 p1) → OnOk ra (os1 ≡ past (told_at g) a os) → OnOk rb (Takes (on_step g b os1) s1 p1 s2 p2) → OnOk (result_and ra rb) (Takes (on_step g x os) s begin s2 p2)
crossed_ok g x a b s s1 s2 os os1 begin p1 p2 (Ok u) (Ok v) is e pa f =
    takes_at (on_step g (q.crossed a b) os) (on_step g x os) s s2 begin p2 (ap (λ (z : From). on_step g z os) (sym is))
    (takes_both (on_step g a os) (on_step g b (past (told_at g) a os)) e (takes_at (on_step g b os1) (on_step g b (past (told_at g) a os)) s1 s2 p1 p2 (ap (on_step g b) pa) f))
crossed_ok g x a b s s1 s2 os os1 begin p1 p2 (Ok u) (Err e) is h pa f = tt
crossed_ok g x a b s s1 s2 os os1 begin p1 p2 (Err e) rb is h pa f = tt

pub past_crossed : {U : Type 0} (g : Ground) (x a b : From) (os os1 os2 : List OwnedQuant) (ra rb : Result U OutOfMemory) → x ≡ q.crossed a b
    → OnOk ra (os1 ≡ past (told_at g) a os) → OnOk rb (os2 ≡ past (told_at g) b os1) → OnOk (result_and ra rb) (os2 ≡ past (told_at g) x os)
past_crossed g x a b os os1 os2 (Ok u) (Ok v) is e f = f ∙ ap (past (told_at g) b) e ∙ ap (λ (z : From). past (told_at g) z os) (sym is)
past_crossed g x a b os os1 os2 (Ok u) (Err e) is h f = tt
past_crossed g x a b os os1 os2 (Err e) rb is h f = tt

pub past_joined : {U : Type 0} (g : Ground) (x a b : From) (p : Test) (os os1 os2 : List OwnedQuant) (ra rb rc : Result U OutOfMemory) → x ≡ q.joined a b p
    → OnOk ra (os1 ≡ past (told_at g) a os) → OnOk rb (os2 ≡ past (told_at g) b os1) → OnOk (result_and (result_and ra rb) rc) (os2 ≡ past (told_at g) x os)
past_joined g x a b p os os1 os2 (Ok u) (Ok v) (Ok w) is e f = f ∙ ap (past (told_at g) b) e ∙ ap (λ (z : From). past (told_at g) z os) (sym is)
past_joined g x a b p os os1 os2 (Ok u) (Ok v) (Err e) is h f = tt
past_joined g x a b p os os1 os2 (Ok u) (Err e) rc is h f = tt
past_joined g x a b p os os1 os2 (Err e) rb rc is h f = tt

-- ---- the subqueries of blocks

pub block_subs_made : {U : Type 0} (g : Ground) (x : Query) (distinct : Bool) (list : Values) (from : Froms) (by : Test) (fr fr2 : Frame) (fs fs2 : List OwnedQuant) (s s1 s2 s3 : Boxes) (begin p1 p2 p3 : List OwnedQuant) (a b d : Result U OutOfMemory) (w : U)
    → x ≡ q.block distinct list from by → fr2 ≡ fr → fs2 ≡ fs → begin ≡ [] → result_and (result_and a b) d ≡ Ok w
    → OnOk a (Takes (l.list_subs (told_at g) (laying (told_at g)) (outer_of g) fr2 list) s begin s1 p1) → OnOk b (Takes (all_on_step g from fs2) s1 p1 s2 p2)
    → OnOk d (Takes (l.test_subs (told_at g) (laying (told_at g)) (outer_of g) fr2 by) s2 p2 s3 p3) → Takes (subs_step g x fr fs) s [] s3 p3
block_subs_made g x distinct list from by fr fr2 fs fs2 s s1 s2 s3 begin p1 p2 p3 a b d w is e f bg ok h1 h2 h3 =
    let all = all_three a b d w ok h1 h2 h3 in
    subst (λ (y : Query). Takes (subs_step g y fr fs) s [] s3 p3) (sym is)
    (subst (λ (z : Frame). Takes (block_subs g list from by z fs) s [] s3 p3) e
    (subst (λ (os : List OwnedQuant). Takes (block_subs g list from by fr2 os) s [] s3 p3) f
    (subst (λ (os : List OwnedQuant). Takes (block_subs g list from by fr2 fs2) s os s3 p3) bg
    (takes_three (l.list_subs (told_at g) (laying (told_at g)) (outer_of g) fr2 list) (all_on_step g from fs2) (l.test_subs (told_at g) (laying (told_at g)) (outer_of g) fr2 by) all.0 all.1.0 all.1.1))))

pub rows_subs_made : {U : Type 0} (g : Ground) (x : Query) (distinct : Bool) (list : Values) (from : Froms) (by : Test) (keys : Option (List ℕ)) (n : ℕ) (having : Test) (fr fr2 : Frame) (fs fs2 : List OwnedQuant) (s s1 s2 : Boxes) (begin p1 p2 : List OwnedQuant) (a b : Result U OutOfMemory) (w : U)
    → x ≡ q.grouped distinct list from by keys n having → fr2 ≡ fr → fs2 ≡ fs → begin ≡ [] → result_and a b ≡ Ok w
    → OnOk a (Takes (all_on_step g from fs2) s begin s1 p1) → OnOk b (Takes (l.test_subs (told_at g) (laying (told_at g)) (outer_of g) fr2 by) s1 p1 s2 p2) → Takes (subs_step g x fr fs) s [] s2 p2
rows_subs_made g x distinct list from by keys n having fr fr2 fs fs2 s s1 s2 begin p1 p2 a b w is e f bg ok h1 h2 =
    let all = all_two a b w ok h1 h2 in
    subst (λ (y : Query). Takes (subs_step g y fr fs) s [] s2 p2) (sym is)
    (subst (λ (z : Frame). Takes (rows_subs g from by z fs) s [] s2 p2) e
    (subst (λ (os : List OwnedQuant). Takes (rows_subs g from by fr2 os) s [] s2 p2) f
    (subst (λ (os : List OwnedQuant). Takes (rows_subs g from by fr2 fs2) s os s2 p2) bg
    (takes_both (all_on_step g from fs2) (l.test_subs (told_at g) (laying (told_at g)) (outer_of g) fr2 by) all.0 all.1))))

pub upper_subs_made : {U : Type 0} (h : Seat) (x : Query) (distinct : Bool) (list : Values) (from : Froms) (by : Test) (keys : Option (List ℕ)) (n : ℕ) (having : Test) (s s1 s2 : Boxes) (begin p1 p2 : List OwnedQuant) (a b : Result U OutOfMemory) (w : U)
    → x ≡ q.grouped distinct list from by keys n having → begin ≡ [] → result_and a b ≡ Ok w
    → OnOk a (Takes (list_step h list) s begin s1 p1) → OnOk b (Takes (test_step h having) s1 p1 s2 p2) → Takes (upper_step h x) s [] s2 p2
upper_subs_made h x distinct list from by keys n having s s1 s2 begin p1 p2 a b w is bg ok h1 h2 =
    let all = all_two a b w ok h1 h2 in
    subst (λ (y : Query). Takes (upper_step h y) s [] s2 p2) (sym is)
    (subst (λ (os : List OwnedQuant). Takes (in_turn (list_step h list) (test_step h having)) s os s2 p2) bg (takes_both (list_step h list) (test_step h having) all.0 all.1))

-- ---- the same where memory may run out

pub block_ok : (g : Ground) (distinct : Bool) (list : Values) (from : Froms) (by : Test) (s s2 u : Boxes) (fr : Frame) (fs ps : List OwnedQuant) (x : Query) (r : Result ℕ OutOfMemory) → x ≡ q.block distinct list from by
    → Opens g from (block_subs g list from by) s fr fs ps s2 → IfOk r (λ b. Gives (block_box g distinct list from by fs (after_subs s2 ps)) b u) → IfOk r (λ b. Gives (query_laid g x s) b u)
block_ok g distinct list from by s s2 u fr fs ps x r is o give =
    IfOk-weaker r (λ b. Gives (block_box g distinct list from by fs (after_subs s2 ps)) b u) (λ b. Gives (query_laid g x s) b u)
    (λ b e. gives_at (ap (λ (y : Query). query_laid g y s) (sym is)) (block_laid g distinct list from by s s2 u fr fs ps b o e)) give

pub groups_ok : (g : Ground) (distinct : Bool) (list : Values) (from : Froms) (by : Test) (keys : Option (List ℕ)) (places : List ℕ) (n : ℕ) (having : Test) (folds : List Leaf) (s s1 s2 s3 : Boxes) (fr : Frame) (fs ps : List OwnedQuant) (rows : ℕ) (x : Query) (r : Result ℕ OutOfMemory)
    → x ≡ q.grouped distinct list from by keys n having → places ≡ key_places keys → folds ≡ both_folds list having
    → Opens g from (rows_subs g from by) s fr fs ps s1 → Gives (rows_box g places folds from by fs (after_subs s1 ps)) rows s2
    → IfOk r (λ b. Gives (group_box g places folds rows s2) b s3) → IfOk r (λ b. Gives (groups_laid g x s) b s3)
groups_ok g distinct list from by keys places n having folds s s1 s2 s3 fr fs ps rows x r is at_keys are o below give =
    IfOk-weaker r (λ b. Gives (group_box g places folds rows s2) b s3) (λ b. Gives (groups_laid g x s) b s3)
    (λ b e. gives_at (ap (λ (y : Query). groups_laid g y s) (sym is)) (groups_made g list from by keys places having folds s s1 s2 s3 fr fs ps rows b at_keys are o below e)) give

-- the select over groups, which were laid
pub grouped_ok : (g : Ground) (distinct : Bool) (list : Values) (from : Froms) (by : Test) (keys : Option (List ℕ)) (places : List ℕ) (n : ℕ) (having : Test) (groups u : ℕ) (s s1 s2 s3 s4 : Boxes) (h : Seat) (fr : Frame) (p : List OwnedQuant) (x : Query) (r : Result ℕ OutOfMemory)
    → x ≡ q.grouped distinct list from by keys n having → places ≡ key_places keys → Gives (groups_laid g x s) groups s1
    → u ≡ s1.quant → s2 ≡ ranging groups s1 → fr ≡ key_frame u places 0 n → frame_of h.frame.now ≡ fr → h.ground ≡ g
    → Takes (upper_step h x) s2 [] s3 p
    → IfOk r (λ b. Gives (upper_box g distinct list places n having u groups (after_subs s3 p)) b s4) → IfOk r (λ b. Gives (query_laid g x s) b s4)
grouped_ok g distinct list from by keys places n having groups u s s1 s2 s3 s4 h fr p x r is at_keys below us ss frs e at d give =
    let k : Ground → Frame → Step = λ (z : Ground) (y : Frame). in_turn (l.list_subs (told_at z) (laying (told_at z)) (outer_of z) y list) (l.test_subs (told_at z) (laying (told_at z)) (outer_of z) y having) in
    let seen : Takes (upper_step h (q.grouped distinct list from by keys n having)) s2 [] s3 p = subst (λ (y : Query). Takes (upper_step h y) s2 [] s3 p) is d in
    let here : Takes (k g (frame_of h.frame.now)) s2 [] s3 p = subst (λ (z : Ground). Takes (k z (frame_of h.frame.now)) s2 [] s3 p) at seen in
    IfOk-weaker r (λ b. Gives (upper_box g distinct list places n having u groups (after_subs s3 p)) b s4) (λ b. Gives (query_laid g x s) b s4)
    (λ b f. gives_at (ap (λ (y : Query). query_laid g y s) (sym is)) (grouped_laid g distinct list from by keys places n having s s1 s4 groups b at_keys (gives_at (ap (λ (y : Query). groups_laid g y s) is) below)
    (upper_is g distinct list places n having groups u b s1 s2 s3 s4 fr (frame_of h.frame.now) p us ss frs e here f))) give

pub pair_ok : (g : Ground) (made form : SetOperator) (n : ℕ) (z x y : Query) (s s1 s2 u : Boxes) (a b r : Result ℕ OutOfMemory)
    → ((t : Boxes) → query_laid g z t ≡ l.two_box (told_at g) (laying (told_at g)) form n (query_laid g y) (query_laid g x t)) → made ≡ form → IfOk a (λ i. Gives (query_laid g x s) i s1) → IfOk b (λ j. Gives (query_laid g y s1) j s2)
    → IfOk r (λ c. IsOkAnd a (λ i. IsOkAnd b (λ j. Gives (two_box g made n i j s2) c u))) → IfOk r (λ c. Gives (query_laid g z s) c u)
pair_ok g made form n z x y s s1 s2 u a b r is e d1 d2 give =
    of_both r a b (λ c i j. Gives (two_box g made n i j s2) c u) (λ i. Gives (query_laid g x s) i s1) (λ j. Gives (query_laid g y s1) j s2) (λ c. Gives (query_laid g z s) c u) give d1 d2
    (λ c i j f p q. gives_at (sym (is s)) (pair_laid g made form n x y i j c s s1 s2 u e p q f))

pub combine_ok : (g : Ground) (made : SetOperator) (op : Combined) (all : Bool) (n : ℕ) (z x y : Query) (s s1 s2 u : Boxes) (a b r : Result ℕ OutOfMemory)
    → z ≡ q.combine x op all n y → made ≡ form_of op all → IfOk a (λ i. Gives (query_laid g x s) i s1) → IfOk b (λ j. Gives (query_laid g y s1) j s2)
    → IfOk r (λ c. IsOkAnd a (λ i. IsOkAnd b (λ j. Gives (two_box g made n i j s2) c u))) → IfOk r (λ c. Gives (query_laid g z s) c u)
combine_ok g made op all n z x y s s1 s2 u a b r is e d1 d2 give =
    pair_ok g made (form_of op all) n z x y s s1 s2 u a b r (λ (t : Boxes). ap (λ (z : Query). query_laid g z t) is) e d1 d2 give

pub intersect_ok : (g : Ground) (made : SetOperator) (all : Bool) (n : ℕ) (z x y : Query) (s s1 s2 u : Boxes) (a b r : Result ℕ OutOfMemory)
    → z ≡ q.intersect x all n y → made ≡ common_form all → IfOk a (λ i. Gives (query_laid g x s) i s1) → IfOk b (λ j. Gives (query_laid g y s1) j s2)
    → IfOk r (λ c. IsOkAnd a (λ i. IsOkAnd b (λ j. Gives (two_box g made n i j s2) c u))) → IfOk r (λ c. Gives (query_laid g z s) c u)
intersect_ok g made all n z x y s s1 s2 u a b r is e d1 d2 give =
    pair_ok g made (common_form all) n z x y s s1 s2 u a b r (λ (t : Boxes). ap (λ (z : Query). query_laid g z t) is) e d1 d2 give

pub flat_ok : (g : Ground) (x : From) (s s1 s2 s3 : Boxes) (start fs begin os0 ps : List OwnedQuant) (r : Result ℕ OutOfMemory)
    → start ≡ [] → Takes (from_step g x) s start s1 fs → begin ≡ [] → os0 ≡ fs → Takes (on_step g x os0) s1 begin s2 ps
    → IfOk r (λ c. Gives (flat_box g x fs (after_subs s2 ps)) c s3) → IfOk r (λ c. Gives (flat_laid g x s) c s3)
flat_ok g x s s1 s2 s3 start fs begin os0 ps r st d bg oe u give =
    IfOk-weaker r (λ c. Gives (flat_box g x fs (after_subs s2 ps)) c s3) (λ c. Gives (flat_laid g x s) c s3) (λ c e. flat_made g x s s1 s2 s3 start fs begin os0 ps c st d bg oe u e) give

-- an operand that is one of the two joins
flat_same : (g : Ground) (x : From) (s : Boxes) → is_single x ≡ false → flat_laid g x s ≡ operand_laid g x s
flat_same g (q.named name) s is = cc
flat_same g (q.derived x) s is = cc
flat_same g (q.crossed x y) s is = refl
flat_same g (q.joined x y p) s is = refl
flat_same g (q.left_joined x y n p) s is = cc

pub flat_is : (g : Ground) (x : From) (s u : Boxes) (r : Result ℕ OutOfMemory) → is_single x ≡ false → IfOk r (λ c. Gives (flat_laid g x s) c u) → IfOk r (λ c. Gives (operand_laid g x s) c u)
flat_is g x s u r is give = IfOk-weaker r (λ c. Gives (flat_laid g x s) c u) (λ c. Gives (operand_laid g x s) c u) (λ c e. gives_at (flat_same g x s is) e) give

pub left_ok : (g : Ground) (o x y : From) (n : ℕ) (p : Test) (s s1 s2 u : Boxes) (a b r : Result ℕ OutOfMemory) → o ≡ q.left_joined x y n p
    → IfOk a (λ i. Gives (operand_laid g x s) i s1) → IfOk b (λ j. Gives (operand_laid g y s1) j s2)
    → IfOk r (λ c. IsOkAnd a (λ i. IsOkAnd b (λ j. Gives (outer_box g x n p i j s2) c u))) → IfOk r (λ c. Gives (operand_laid g o s) c u)
left_ok g o x y n p s s1 s2 u a b r is d1 d2 give =
    of_both r a b (λ c i j. Gives (outer_box g x n p i j s2) c u) (λ i. Gives (operand_laid g x s) i s1) (λ j. Gives (operand_laid g y s1) j s2) (λ c. Gives (operand_laid g o s) c u) give d1 d2
    (λ c i j e p2 q2. left_is g o x y n p i j c s s1 s2 u is p2 q2 e)

-- an operand that has one quantifier
single_take : (g : Ground) (o : From) (b : ℕ) (s t v : Boxes) (os ps : List OwnedQuant) → is_single o ≡ true → Gives (operand_laid g o s) b t → Takes (draws F b) t os v ps → Takes (from_step g o) s os v ps
single_take g (q.named name) b s t v os ps is e d = takes_over F (operand_laid g (q.named name)) e d
single_take g (q.derived x) b s t v os ps is e d = takes_over F (operand_laid g (q.derived x)) e d
single_take g (q.crossed x y) b s t v os ps is e d = cc
single_take g (q.joined x y p) b s t v os ps is e d = cc
single_take g (q.left_joined x y n p) b s t v os ps is e d = takes_over F (operand_laid g (q.left_joined x y n p)) e d

pub single_ok : (g : Ground) (o : From) (s t v : Boxes) (os ps : List OwnedQuant) (a : Result ℕ OutOfMemory) {U : Type 0} (r : Result U OutOfMemory) → is_single o ≡ true
    → IfOk a (λ b. Gives (operand_laid g o s) b t) → OnOk r (IsOkAnd a (λ b. Takes (draws F b) t os v ps)) → OnOk r (Takes (from_step g o) s os v ps)
single_ok g o s t v os ps a r is e d =
    of_one r a (λ b. Takes (draws F b) t os v ps) (λ b. Gives (operand_laid g o s) b t) (Takes (from_step g o) s os v ps) d e (λ b p f. single_take g o b s t v os ps is f p)

-- a block, from its parts
pub block_made : (g : Ground) (distinct : Bool) (list : Values) (from : Froms) (by : Test) (s s1 s2 u : Boxes) (fr : Frame) (fs ps : List OwnedQuant) (x : Query) (drawn : Result (List OwnedQuant) OutOfMemory) (r : Result ℕ OutOfMemory) → x ≡ q.block distinct list from by
    → IfOk drawn (λ z. Takes (froms_step g from) s [] s1 z) → IsOkAnd drawn (λ z. fs ≡ z) → fr ≡ frame_all (told_at g) from fs → Takes (subs_step g x fr fs) s1 [] s2 ps
    → IfOk r (λ b. Gives (block_box g distinct list from by fs (after_subs s2 ps)) b u) → IfOk r (λ b. Gives (query_laid g x s) b u)
block_made g distinct list from by s s1 s2 u fr fs ps x drawn r is d e frs t give =
    block_ok g distinct list from by s s2 u fr fs ps x r is
    (opens_parts g from (block_subs g list from by) s s1 s2 fs ps fr (value_of drawn fs (λ z. Takes (froms_step g from) s [] s1 z) e d) frs (subst (λ (y : Query). Takes (subs_step g y fr fs) s1 [] s2 ps) is t)) give

-- the rows of a grouped block, from their parts
pub rows_opened : (g : Ground) (distinct : Bool) (list : Values) (from : Froms) (by : Test) (keys : Option (List ℕ)) (n : ℕ) (having : Test) (s s1 s2 : Boxes) (fr : Frame) (fs ps : List OwnedQuant) (x : Query) (drawn : Result (List OwnedQuant) OutOfMemory)
    → x ≡ q.grouped distinct list from by keys n having
    → IfOk drawn (λ z. Takes (froms_step g from) s [] s1 z) → IsOkAnd drawn (λ z. fs ≡ z) → fr ≡ frame_all (told_at g) from fs → Takes (subs_step g x fr fs) s1 [] s2 ps → Opens g from (rows_subs g from by) s fr fs ps s2
rows_opened g distinct list from by keys n having s s1 s2 fr fs ps x drawn is d e frs t =
    opens_parts g from (rows_subs g from by) s s1 s2 fs ps fr (value_of drawn fs (λ z. Takes (froms_step g from) s [] s1 z) e d) frs (subst (λ (y : Query). Takes (subs_step g y fr fs) s1 [] s2 ps) is t)
