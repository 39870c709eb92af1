-- What is laid by what is known so far is what is laid where all is told beforehand by what is known at the end.
use Rattle.std.proofs.Common.{◌≡◌, ◌≤◌, ◌<◌, ℕ, suc, Bool, true, false, List, [], ◌∷◌, ◌++◌, map, length, refl, ap, ap₂, sym, ◌∙◌, subst, arith}
use Rattle.sql_ast.specs.declared.word.SetFunction.{SetFunction}
use Rattle.sql_meaning.specs.ResolvedTrees.{Value, Addends, Multipliers, Values, Arms, Choices, Test, Tests, From, Froms, Query}
use Rattle.sql_meaning.specs.ResolvedTrees as q
use Rattle.qgm_terms.specs.Terms.{Term}
use Rattle.qgm_core.specs.declared.kinds.QuantKind.{QuantKind}
use Rattle.qgm_core.specs.declared.kinds.QuantKind.TheVariants.{F, E, S}
use Rattle.qgm_core.specs.declared.owned.OwnedQuant.{OwnedQuant}
use Rattle.qgm_core.specs.declared.kinds.BoxKind.TheVariants.{Select, SetOp, OuterJoin}
use Rattle.qgm_core.specs.Kinds.{is_F}
use Rattle.qgm_translation.specs.Maps.{Frame, Map, ref_term}
use Rattle.qgm_translation.specs.Leaves.{Leaf, Slots, after, count, every_or_some, fold, leaves, list_leaves, sub, test_leaves}
use Rattle.qgm_translation.specs.Terms.{split}
use Rattle.qgm_translation.specs.Leaves as leaf
use Rattle.qgm_translation.specs.Terms as l
use Rattle.qgm_translation.specs.Shown.{over_in, uses, HasKey, PlainArguments, Thing, columns_of, fold_terms, key_frame, key_places, no_slots, of_groups, of_operand, of_query, of_rows, refs}
use Rattle.qgm_translation.specs.Shown as w
use Rattle.qgm_translation.specs.Sources.{Sources, from_width}
use Rattle.qgm_translation.specs.Lay.{Boxes, Laid, Drawn, Step, column_types, put, ranging, drawn, none, in_turn, over, pair_of}
use Rattle.qgm_core.specs.declared.kinds.SetOperator as forms
use Rattle.qgm_translation.specs.Lay as y
use Rattle.qgm_translation.specs.Lays as k
use Rattle.qgm_translation.specs.Buildable as b
use Rattle.qgm_translation.specs.Lays.{Counted, EachRanges, HeadUnder, Under, UnderIn, owned}
use Rattle.qgm_translation.proofs.Rows.{begins-trans}
use Rattle.qgm_translation.proofs.TermsUnder.{columns-under, slots-under, upper_slots-under}
use Rattle.qgm_translation.proofs.Numbers.{Rising, under-more, under_in-append, under_in-left, under_in-more, under_in-refs, under_in-right, under-keys}
use Rattle.qgm_translation.proofs.Made as mk
use Rattle.std.proofs.Common.{subst}
use Rattle.sql_value.specs.declared.order_key.SqlType.{SqlType}
use Rattle.qgm_translation.specs.Lay.{SharedBox, box_named, laying}
use Rattle.qgm_translation.specs.Lays.{Begins, Foretold, TypedUnder}
use Rattle.qgm_translation.specs.Shown.{rows_list}
use Rattle.qgm_translation.proofs.FromsSame.{all_leaves-same, conds-same, frame-same, frames-same, past-same, width-same}
use Rattle.qgm_translation.proofs.Grows.{Grown, Grows, all-on-grow, from-grows, froms-grow, grown-over, lay-grows, list-grow, on-grows, operand-grows, ranged, stays, test-grow, turn}
use Rattle.qgm_translation.proofs.LaidAll.{froms-laid, from-laid, laid, list-served, operand-laid, test-served, binds-nothing}
use Rattle.qgm_translation.proofs.Rows.{Further, further-trans, typed-begins}
use Rattle.qgm_translation.proofs.TermsSame.{cond-same, rows-same, terms-same}
use Rattle.qgm_translation.proofs.TermsUnder.{SlotsUnder, after-under, no_slots-under}

-- the boxes of these tables and views stand
pub record Stands (placed : List SharedBox) (s : Boxes) : Type 0 where
  pub counted : Counted s
  pub shared : s.shared ≡ placed

module _ (known sources : Sources) (has : List ℕ → Bool) (placed : List SharedBox) (R : List (List SqlType)) (foretold : Foretold known sources has placed R) where
  abbrev Ready : Boxes → Map → Type 0
  Ready = k.Ready sources has

  abbrev Keeps : Boxes → Boxes → Type 0
  Keeps = k.Keeps sources has

  abbrev Serves : Frame → Map → List Leaf → Step → Type 0
  Serves = mk.Serves sources has

  abbrev at : Boxes → Sources
  at s = laying known s

  abbrev same : Boxes → Sources
  same s = sources

  abbrev counts : (name : List ℕ) → known.columns name ≡ sources.columns name
  counts = foretold.counts

  stands-keeps : (a b : Boxes) → Keeps a b → Stands placed a → Stands placed b
  stands-keeps a b k t = record { counted = k.counted t.counted; shared = k.shared ∙ t.shared }

  agree : (s : Boxes) → Stands placed s → Begins s.rows R → (x : Term) → TypedUnder s.quant x → (laying known s).typed x ≡ sources.typed x
  agree s t b x u = sym (typed-begins s.quant b t.counted.rows x u) ∙ sym (foretold.typed x)

  agree-all : (s : Boxes) → Stands placed s → Begins s.rows R → (xs : List Term) → HeadUnder s.quant xs → map (laying known s).typed xs ≡ map sources.typed xs
  agree-all s t b [] u = refl
  agree-all s t b (x ∷ xs) u = ap₂ (λ z zs. z ∷ zs) (agree s t b x u.0) (agree-all s t b xs u.1)

  number-same : (name : List ℕ) (s : Boxes) → has name ≡ true → Stands placed s → box_named s.shared name ≡ sources.shared name
  number-same name s h t = ap (λ z. box_named z name) t.shared ∙ foretold.named name h

  back : {xs ys : List (List SqlType)} {p q : List SharedBox} → Further xs ys p q → Begins ys R → Begins xs R
  back h g = begins-trans h.rows g

  -- ---- steps

  -- a step makes what these leaves ask for, as it does where all is told beforehand
  pub record Agrees (fr : Frame) (m : Map) (ls : List Leaf) (a b : Step) : Type 0 where
    pub served : Serves fr m ls b
    pub grows : Grows a
    pub same : (s : Boxes) → Ready s (fr ∷ m) → Stands placed s → Begins (a s).boxes.rows R → a s ≡ b s

  nothing : {fr : Frame} {m : Map} → Agrees fr m [] none none
  nothing {fr} {m} = record { served = mk.nothing sources has; grows = stays; same = λ s r t g. refl }

  counted : {fr : Frame} {m : Map} → Agrees fr m (count ∷ []) none none
  counted {fr} {m} = record { served = mk.counted sources has; grows = stays; same = λ s r t g. refl }

  folded : {fr : Frame} {m : Map} (f : SetFunction) (d : Bool) (x : q.Value) → ((f : Frame) → leaves f x ≡ []) → Agrees fr m (fold f d x ∷ []) none none
  folded {fr} {m} f d x h = record { served = mk.folded sources has f d x h; grows = stays; same = λ s r t g. refl }

  both : {fr : Frame} {m : Map} {ls ks : List Leaf} {a b c d : Step} → Agrees fr m ls a b → Agrees fr m ks c d → Agrees fr m (ls ++ ks) (in_turn a c) (in_turn b d)
  both {fr} {m} {ls} {ks} {a} {b} {c} {d} h k = record {
    served = mk.both sources has h.served k.served;
    grows = turn h.grows k.grows;
    same = λ s r t g.
        let e = h.same s r t (back (k.grows.at (a s).boxes) g) in
        let made = h.served.at s r in
        let f = k.same (b s).boxes (mk.ready-keeps sources has s (b s).boxes (fr ∷ m) r made.keeps) (stands-keeps s (b s).boxes made.keeps t) (subst (λ (x : Drawn). Begins (c x.boxes).boxes.rows R) e g) in
        ap (λ (x : Drawn). record { boxes = (c x.boxes).boxes; quants = x.quants ++ (c x.boxes).quants }) e ∙ ap (λ (x : Drawn). record { boxes = x.boxes; quants = (b s).quants ++ x.quants }) f;
  }

  within : {fr g : Frame} {m : Map} {ls : List Leaf} {a b : Step} → ((n : ℕ) → UnderIn n fr → UnderIn n g) → Agrees g m ls a b → Agrees fr m ls a b
  within {fr} {g} {m} {ls} {a} {b} part h = record {
    served = mk.within sources has part h.served;
    grows = h.grows;
    same = λ s r t k. h.same s (record { known = r.known; sourced = r.sourced; under = (part s.quant r.under.0, r.under.1) }) t k;
  }

  -- where a step is said otherwise
  said : {fr : Frame} {m : Map} {ls : List Leaf} {a b c : Step} → c ≡ a → Agrees fr m ls a b → Agrees fr m ls c b
  said {fr} {m} {ls} {a} {b} {c} e h = subst (λ z. Agrees fr m ls z b) (sym e) h

  asked : {fr : Frame} {m : Map} (kind : QuantKind) (x : Query) (lay like : Boxes → Laid) → is_F kind ≡ false → ((s : Boxes) → Ready s (fr ∷ m) → k.Made sources has (of_query x) (fr ∷ m) s (like s)) → Grown lay
      → ((s : Boxes) → Ready s (fr ∷ m) → Stands placed s → Begins (lay s).boxes.rows R → lay s ≡ like s) → Agrees fr m (sub fr kind x ∷ []) (over kind lay) (over kind like)
  asked {fr} {m} kind x lay like e h grown f = record {
    served = mk.asked sources has kind x like e h;
    grows = grown-over kind grown;
    same = λ s r t g. ap (drawn kind) (f s r t (back (ranged (lay s).top (lay s).boxes) g));
  }

  -- ---- boxes

  select-same : (distinct : Bool) (from : Froms) (by : Test) (heads : Frame → List Leaf) (list : Sources → Frame → Slots → List Term) (m : Map) (fs : List OwnedQuant) (c : Drawn) → Stands placed c.boxes → Begins c.boxes.rows R
      → UnderIn c.boxes.quant (w.frame_all sources from fs) → Under c.boxes.quant m → SlotsUnder c.boxes.quant (w.slots_of (w.all_leaves sources from by heads fs) c.quants)
      → (let slots = w.slots_of (w.all_leaves sources from by heads fs) c.quants in list (at c.boxes) (w.frame_all sources from fs) slots ≡ list sources (w.frame_all sources from fs) slots)
      → y.select_box known at distinct from by heads list m fs c ≡ y.select_box sources same distinct from by heads list m fs c
  select-same distinct from by heads list m fs c t b u v h e =
      let slots = w.slots_of (w.all_leaves sources from by heads fs) c.quants in
      let said = ap (λ ls. w.slots_of ls c.quants) (all_leaves-same known sources counts from by heads fs) in
      ap₂ (λ conds head. put Select distinct conds head (fs ++ c.quants) c.boxes)
      (ap (w.conds_of (at c.boxes) from by heads m fs) said ∙ conds-same (at c.boxes) sources counts c.boxes.quant t.counted.some (agree c.boxes t b) m v from by heads fs slots u h)
      (ap₂ (list (at c.boxes)) (frames-same known sources counts from fs) said ∙ e)

  -- a select over a FROM whose quantifiers are the same
  selected : (distinct : Bool) (from : Froms) (by : Test) (heads : Frame → List Leaf) (list : Sources → Frame → Slots → List Term) (m : Map) (s : Boxes) (ls : List Leaf) (f d : Drawn) (step : List OwnedQuant → Step) (like : Step)
      → Ready s m → Stands placed s → f ≡ d → mk.MadeFroms sources has from m s d → Agrees (w.frame_all sources from d.quants) m ls (step d.quants) like → Begins (step f.quants f.boxes).boxes.rows R
      → ((c : Drawn) → Stands placed c.boxes → Begins c.boxes.rows R → UnderIn c.boxes.quant (w.frame_all sources from d.quants) → Under c.boxes.quant m → (slots : Slots) → SlotsUnder c.boxes.quant slots
      → list (at c.boxes) (w.frame_all sources from d.quants) slots ≡ list sources (w.frame_all sources from d.quants) slots)
      → y.select_box known at distinct from by heads list m f.quants (step f.quants f.boxes) ≡ y.select_box sources same distinct from by heads list m d.quants (like d.boxes)
  selected distinct from by heads list m s ls f d step like r t e a agrees g items =
      let ready = mk.ready-frame sources has d.boxes (w.frame_all sources from d.quants) m (mk.ready-keeps sources has s d.boxes m r a.keeps) a.under in
      let stands = stands-keeps s d.boxes a.keeps t in
      let b : Begins (step d.quants d.boxes).boxes.rows R = subst (λ (x : Drawn). Begins (step x.quants x.boxes).boxes.rows R) e g in
      let steps : step d.quants d.boxes ≡ like d.boxes = agrees.same d.boxes ready stands b in
      let c = like d.boxes in
      let subs = agrees.served.at d.boxes ready in
      let end = stands-keeps d.boxes c.boxes subs.keeps stands in
      let known_now = subst (λ (x : Drawn). Begins x.boxes.rows R) steps b in
      let u = under_in-more d.boxes.quant c.boxes.quant (w.frame_all sources from d.quants) subs.keeps.quants a.under in
      let v = under-more s.quant c.boxes.quant m (mk.keeps-trans sources has s d.boxes c.boxes a.keeps subs.keeps).quants r.under in
      let slots = w.slots_of (w.all_leaves sources from by heads d.quants) c.quants in
      let low = slots-under d.boxes.quant c.boxes.quant (w.all_leaves sources from by heads d.quants) c.quants subs.rising in
      ap (λ (x : Drawn). y.select_box known at distinct from by heads list m x.quants (step x.quants x.boxes)) e
      ∙ ap (y.select_box known at distinct from by heads list m d.quants) steps
      ∙ select-same distinct from by heads list m d.quants c end known_now u v low (items c end known_now u v slots low)

  -- two that are laid in turn
  pair-same : (x z xx zz : Boxes → Laid) (s : Boxes) → Grown z → (Begins (x s).boxes.rows R → x s ≡ xx s) → (Begins (z (xx s).boxes).boxes.rows R → z (xx s).boxes ≡ zz (xx s).boxes)
      → (G : Laid → Laid → Laid) → Begins (ranging (z (x s).boxes).top (ranging (x s).top (z (x s).boxes).boxes)).rows R
      → (G (x s) (z (x s).boxes) ≡ G (xx s) (zz (xx s).boxes)) × Begins (ranging (zz (xx s).boxes).top (ranging (xx s).top (zz (xx s).boxes).boxes)).rows R
  pair-same x z xx zz s grown f h G g =
      let a = x s in
      let first : Begins (z a.boxes).boxes.rows R = back (further-trans (ranged a.top (z a.boxes).boxes) (ranged (z a.boxes).top (ranging a.top (z a.boxes).boxes))) g in
      let e : x s ≡ xx s = f (back (grown.at a.boxes) first) in
      let i : z (xx s).boxes ≡ zz (xx s).boxes = h (subst (λ (l : Laid). Begins (z l.boxes).boxes.rows R) e first) in (
        ap (λ (l : Laid). G l (z l.boxes)) e ∙ ap (G (xx s)) i,
        subst (λ (l : Laid). Begins (ranging l.top (ranging (xx s).top l.boxes)).rows R) i (subst (λ (l : Laid). Begins (ranging (z l.boxes).top (ranging l.top (z l.boxes).boxes)).rows R) e g),
      )

  stands-ranging : (b : ℕ) (s : Boxes) → Stands placed s → Stands placed (ranging b s)
  stands-ranging b s t = stands-keeps s (ranging b s) (mk.keeps-ranging sources has b s) t

  two-last : (form : forms.SetOperator) (n : ℕ) (a b : Laid) → Stands placed b.boxes → Begins (ranging b.top (ranging a.top b.boxes)).rows R
      → y.two_box known at form n (λ s. b) a ≡ y.two_box sources same form n (λ s. b) a
  two-last form n a b t g =
      let c = ranging b.top (ranging a.top b.boxes) in
      ap (λ ts. put (SetOp form ts) false [] [] (pair_of b.boxes.quant a.top b.top) c)
      (agree-all c (stands-ranging b.top (ranging a.top b.boxes) (stands-ranging a.top b.boxes t)) g (columns_of b.boxes.quant 1 n) (columns-under c.quant b.boxes.quant 1 n (omega arith)))

  outer-last : (x : From) (n : ℕ) (on : Test) (m : Map) (a b : Laid) → Stands placed b.boxes → Under b.boxes.quant m → Begins (ranging b.top (ranging a.top b.boxes)).rows R
      → y.outer_box known at x n on m (λ s. b) a ≡ y.outer_box sources same x n on m (λ s. b) a
  outer-last x n on m a b t v g =
      let c = ranging b.top (ranging a.top b.boxes) in
      let stands = stands-ranging b.top (ranging a.top b.boxes) (stands-ranging a.top b.boxes t) in
      let frame : ℕ → Frame = λ i. refs b.boxes.quant 1 i ++ refs (suc b.boxes.quant) 1 n in
      let fr = frame (from_width sources x) in
      let u = under_in-append c.quant (refs b.boxes.quant 1 (from_width sources x)) (refs (suc b.boxes.quant) 1 n) (under_in-refs c.quant b.boxes.quant 1 (from_width sources x) (omega arith)) (under_in-refs c.quant (suc b.boxes.quant) 1 n (omega arith)) in
      ap (λ i. put OuterJoin false (split (l.cond (at c) (frame i) m no_slots on)) (map ref_term (frame i)) (pair_of b.boxes.quant a.top b.top) c) (width-same known sources counts x)
      ∙ ap (λ p. put OuterJoin false (split p) (map ref_term fr) (pair_of b.boxes.quant a.top b.top) c)
      (cond-same (at c) sources c.quant stands.counted.some (agree c stands g) fr m u (under-more b.boxes.quant c.quant m (omega arith) v) no_slots (no_slots-under c.quant) on)

  upper-last : (distinct : Bool) (list : Values) (places : List ℕ) (n : ℕ) (having : Test) (m : Map) (u : ℕ) (over : ℕ) (a : ℕ) (c : Drawn) → Stands placed c.boxes → Under c.boxes.quant m → u < c.boxes.quant → Rising a c.boxes.quant c.quants → Begins c.boxes.rows R
      → y.upper_box known at distinct list places n having m u over c ≡ y.upper_box sources same distinct list places n having m u over c
  upper-last distinct list places n having m u over a c t v low rising g =
      let fr = key_frame u places 0 n in
      let ls = w.upper_leaves fr list having in
      let s = w.upper_slots u (suc (length places)) ls c.quants in
      let under = under-keys c.boxes.quant u places 0 n low in
      let slots = upper_slots-under a c.boxes.quant u (suc (length places)) ls c.quants low rising in
      ap₂ (λ p head. put Select distinct (split p) head (record { id = u; kind = F; over = over } ∷ c.quants) c.boxes)
      (cond-same (at c.boxes) sources c.boxes.quant t.counted.some (agree c.boxes t g) fr m under v (after (list_leaves fr list) s) (after-under c.boxes.quant (list_leaves fr list) s slots) having)
      (terms-same (at c.boxes) sources c.boxes.quant t.counted.some (agree c.boxes t g) fr m under v s slots list)

  grouped-keeps : (from : Froms) (by : Test) (places : List ℕ) (list : Values) (having : Test) (m : Map) (s : Boxes) (d c : Drawn) → b.FitValues sources has list → b.FitTest sources has having → Under s.quant m → mk.MadeFroms sources has from m s d
      → mk.MadeSubs sources has m (w.all_leaves sources from by (λ fr. []) d.quants) d.boxes c
      → (let ks = w.upper_leaves [] list having in Keeps s (y.group_box sources same places ks (y.select_box sources same false from by (λ fr. []) (λ sources. rows_list sources places ks) m d.quants c)).boxes)
  grouped-keeps from by places list having m s d c h i u made subs =
      let ks = w.upper_leaves [] list having in
      let plain = mk.both sources has (list-served sources has m [] list h) (test-served sources has m [] having i) in
      let rows = y.select_box sources same false from by (λ fr. []) (λ sources. rows_list sources places ks) m d.quants c in
      (mk.groups-made sources has from by places ks ks m s rows refl u (mk.rows-made sources has from by places ks ks m s d c refl u plain.plain made subs)).keeps

  sets-same : (x z : Query) (form : forms.SetOperator) (n : ℕ) (m : Map) (s : Boxes) → b.Buildable sources has x → b.Buildable sources has z → Ready s m → Stands placed s → (Begins (y.lay known at x m s).boxes.rows R → y.lay known at x m s ≡ y.lay sources same x m s)
      → ((a : Boxes) → Ready a m → Stands placed a → Begins (y.lay known at z m a).boxes.rows R → y.lay known at z m a ≡ y.lay sources same z m a)
      → Begins (y.two_box known at form n (y.lay known at z m) (y.lay known at x m s)).boxes.rows R → y.two_box known at form n (y.lay known at z m) (y.lay known at x m s) ≡ y.two_box sources same form n (y.lay sources same z m) (y.lay sources same x m s)
  sets-same x z form n m s h i r t first second g =
      let a = y.lay sources same x m s in
      let b = y.lay sources same z m a.boxes in
      let one = laid sources has x m s h r in
      let ready = mk.ready-keeps sources has s a.boxes m r one.keeps in
      let stands = stands-keeps s a.boxes one.keeps t in
      let two = laid sources has z m a.boxes i ready in
      let both = pair-same (y.lay known at x m) (y.lay known at z m) (y.lay sources same x m) (y.lay sources same z m) s (lay-grows known at z m) first (second a.boxes ready stands)
      (λ a b. y.two_box known at form n (λ s. b) a) g in
      both.0 ∙ two-last form n a b (stands-keeps a.boxes b.boxes two.keeps stands) both.1

  outers-same : (x z : From) (n : ℕ) (on : Test) (m : Map) (s : Boxes) → b.FitFrom sources has x → b.FitFrom sources has z → Ready s m → Stands placed s → (Begins (y.lay_operand known at x m s).boxes.rows R → y.lay_operand known at x m s ≡ y.lay_operand sources same x m s)
      → ((a : Boxes) → Ready a m → Stands placed a → Begins (y.lay_operand known at z m a).boxes.rows R → y.lay_operand known at z m a ≡ y.lay_operand sources same z m a)
      → Begins (y.outer_box known at x n on m (y.lay_operand known at z m) (y.lay_operand known at x m s)).boxes.rows R
      → y.outer_box known at x n on m (y.lay_operand known at z m) (y.lay_operand known at x m s) ≡ y.outer_box sources same x n on m (y.lay_operand sources same z m) (y.lay_operand sources same x m s)
  outers-same x z n on m s h i r t first second g =
      let a = y.lay_operand sources same x m s in
      let b = y.lay_operand sources same z m a.boxes in
      let one = operand-laid sources has x m s h r in
      let ready = mk.ready-keeps sources has s a.boxes m r one.keeps in
      let stands = stands-keeps s a.boxes one.keeps t in
      let two = operand-laid sources has z m a.boxes i ready in
      let both = pair-same (y.lay_operand known at x m) (y.lay_operand known at z m) (y.lay_operand sources same x m) (y.lay_operand sources same z m) s (operand-grows known at z m) first (second a.boxes ready stands)
      (λ a b. y.outer_box known at x n on m (λ s. b) a) g in
      both.0 ∙ outer-last x n on m a b (stands-keeps a.boxes b.boxes two.keeps stands) (under-more a.boxes.quant b.boxes.quant m two.keeps.quants ready.under) both.1

  turn-same : (x z : From) (m : Map) (s : Boxes) → b.FitFrom sources has x → b.FitFrom sources has z → Ready s m → Stands placed s → (Begins (y.lay_from known at m x s).boxes.rows R → y.lay_from known at m x s ≡ y.lay_from sources same m x s)
      → ((a : Boxes) → Ready a m → Stands placed a → Begins (y.lay_from known at m z a).boxes.rows R → y.lay_from known at m z a ≡ y.lay_from sources same m z a) → Begins (in_turn (y.lay_from known at m x) (y.lay_from known at m z) s).boxes.rows R
      → in_turn (y.lay_from known at m x) (y.lay_from known at m z) s ≡ in_turn (y.lay_from sources same m x) (y.lay_from sources same m z) s
  turn-same x z m s h i r t first second g =
      let one = y.lay_from known at m x in
      let two = y.lay_from known at m z in
      let a = y.lay_from sources same m x s in
      let made = from-laid sources has m x s h r in
      let e = first (back ((from-grows known at m z).at (one s).boxes) g) in
      let f = second a.boxes (mk.ready-keeps sources has s a.boxes m r made.keeps) (stands-keeps s a.boxes made.keeps t) (subst (λ (d : Drawn). Begins (two d.boxes).boxes.rows R) e g) in
      ap (λ (d : Drawn). record { boxes = (two d.boxes).boxes; quants = d.quants ++ (two d.boxes).quants }) e ∙ ap (λ (d : Drawn). record { boxes = d.boxes; quants = a.quants ++ d.quants }) f

  crossed-agrees : (x z : From) (m : Map) (os : List OwnedQuant) {a b c d : Step} → Agrees (w.frame sources x os) m (w.on_leaves sources x os) a b → Agrees (w.frame sources z (w.past sources x os)) m (w.on_leaves sources z (w.past sources x os)) c d
      → Agrees (w.frame sources (q.crossed x z) os) m (w.on_leaves sources (q.crossed x z) os) (in_turn a c) (in_turn b d)
  crossed-agrees x z m os h k =
      let past = w.past sources x os in
      both (within (λ n u. under_in-left n (w.frame sources x os) (w.frame sources z past) u) h) (within (λ n u. under_in-right n (w.frame sources x os) (w.frame sources z past) u) k)

  joined-agrees : (x z : From) (p : Test) (m : Map) (os : List OwnedQuant) {a b c d e f : Step} → Agrees (w.frame sources x os) m (w.on_leaves sources x os) a b
      → Agrees (w.frame sources z (w.past sources x os)) m (w.on_leaves sources z (w.past sources x os)) c d
      → Agrees (w.frame sources (q.joined x z p) os) m (test_leaves (w.frame sources (q.joined x z p) os) p) e f
      → Agrees (w.frame sources (q.joined x z p) os) m (w.on_leaves sources (q.joined x z p) os) (in_turn a (in_turn c e)) (in_turn b (in_turn d f))
  joined-agrees x z p m os h k j =
      let past = w.past sources x os in
      both (within (λ n u. under_in-left n (w.frame sources x os) (w.frame sources z past) u) h) (both (within (λ n u. under_in-right n (w.frame sources x os) (w.frame sources z past) u) k) j)

  -- ---- the making

  mutual
    pub lay-same : (x : Query) (m : Map) (s : Boxes) → b.Buildable sources has x → Ready s m → Stands placed s → Begins (y.lay known at x m s).boxes.rows R → y.lay known at x m s ≡ y.lay sources same x m s
    lay-same (q.block distinct list from by) m s h r t g =
        let f = y.lay_froms known at m from s in
        let d = y.lay_froms sources same m from s in
        let fr = w.frame_all sources from d.quants in
        let step : List OwnedQuant → Step = λ os. in_turn (y.list_subs known at m (w.frame_all known from os) list) (in_turn (y.all_on_subs known at m from os) (y.test_subs known at m (w.frame_all known from os) by)) in
        let grow = turn (list-grow known at m (w.frame_all known from f.quants) list) (turn (all-on-grow known at m from f.quants) (test-grow known at m (w.frame_all known from f.quants) by)) in
        let e = froms-same m from s h.0 r t (back (grow.at f.boxes) g) in
        let frame = frames-same known sources counts from d.quants in
        let agrees = both (said (ap (λ z. y.list_subs known at m z list) frame) (list-agrees m fr list h.1)) (both (all-on-agrees m from d.quants h.0) (said (ap (λ z. y.test_subs known at m z by) frame) (test-agrees m fr by h.2))) in
        selected distinct from by (λ fr. list_leaves fr list) (λ sources fr s. l.terms sources fr m s list) m s _ f d step
        (in_turn (y.list_subs sources same m fr list) (in_turn (y.all_on_subs sources same m from d.quants) (y.test_subs sources same m fr by))) r t e (froms-laid sources has m from s h.0 r) agrees g
        (λ c t b u v slots low. terms-same (at c.boxes) sources c.boxes.quant t.counted.some (agree c.boxes t b) fr m u v slots low list)
    lay-same (q.grouped distinct list from by places n having) m s h r t g =
        let f = y.lay_froms known at m from s in
        let d = y.lay_froms sources same m from s in
        let fr = w.frame_all sources from d.quants in
        let ks = w.upper_leaves [] list having in
        let items : Sources → Frame → Slots → List Term = λ sources. rows_list sources (key_places places) ks in
        let step : List OwnedQuant → Step = λ os. in_turn (y.all_on_subs known at m from os) (y.test_subs known at m (w.frame_all known from os) by) in
        let rows_of = λ (f : Drawn). y.select_box known at false from by (λ fr. []) items m f.quants (step f.quants f.boxes) in
        let group : Laid → Laid = λ r. y.group_box known at (key_places places) ks r in
        let up : Laid → Frame = λ g. key_frame g.boxes.quant (key_places places) 0 n in
        let above : Laid → Drawn = λ g. in_turn (y.list_subs known at m (up g) list) (y.test_subs known at m (up g) having) (drawn F g).boxes in
        let upper : Laid → Laid = λ g. y.upper_box known at distinct list (key_places places) n having m g.boxes.quant g.top (above g) in
        let rows_one = rows_of f in
        let one = group rows_one in
        let grown : Begins (drawn F one).boxes.rows R = back ((turn (list-grow known at m (up one) list) (test-grow known at m (up one) having)).at (drawn F one).boxes) g in
        let lower : Begins (step f.quants f.boxes).boxes.rows R = back (further-trans (ranged rows_one.top rows_one.boxes) (ranged one.top one.boxes)) grown in
        let e = froms-same m from s h.0 r t (back ((turn (all-on-grow known at m from f.quants) (test-grow known at m (w.frame_all known from f.quants) by)).at f.boxes) lower) in
        let made = froms-laid sources has m from s h.0 r in
        let like = in_turn (y.all_on_subs sources same m from d.quants) (y.test_subs sources same m fr by) in
        let agrees = both (all-on-agrees m from d.quants h.0) (said (ap (λ z. y.test_subs known at m z by) (frames-same known sources counts from d.quants)) (test-agrees m fr by h.2)) in
        let rows : Laid = y.select_box sources same false from by (λ fr. []) items m d.quants (like d.boxes) in
        let rows_same : rows_one ≡ rows = selected false from by (λ fr. []) items m s _ f d step like r t e made agrees lower
        (λ c t b u v slots low. rows-same (at c.boxes) sources c.boxes.quant t.counted.some (agree c.boxes t b) fr u (key_places places) ks slots) in
        let two = group rows in
        let fine : k.Keeps sources has s two.boxes = grouped-keeps from by (key_places places) list having m s d (like d.boxes) h.1 h.3 r.under made (agrees.served.at d.boxes (mk.ready-frame sources has d.boxes fr m (mk.ready-keeps sources has s d.boxes m r made.keeps) made.under)) in
        let base = (drawn F two).boxes in
        let keeps = mk.keeps-trans sources has s two.boxes base fine (mk.keeps-ranging sources has two.top two.boxes) in
        let ready = mk.ready-frame sources has base (up two) m (mk.ready-keeps sources has s base m r keeps) (under-keys base.quant two.boxes.quant (key_places places) 0 n (omega arith)) in
        let stands = stands-keeps s base keeps t in
        let over_groups = both (list-agrees m (up two) list h.1) (test-agrees m (up two) having h.3) in
        let g_two : Begins (above two).boxes.rows R = subst (λ (r : Laid). Begins (above (group r)).boxes.rows R) rows_same g in
        let steps = over_groups.same base ready stands g_two in
        let c = in_turn (y.list_subs sources same m (up two) list) (y.test_subs sources same m (up two) having) base in
        let subs = over_groups.served.at base ready in
        ap (λ (r : Laid). upper (group r)) rows_same
        ∙ ap (y.upper_box known at distinct list (key_places places) n having m two.boxes.quant two.top) steps
        ∙ upper-last distinct list (key_places places) n having m two.boxes.quant two.top base.quant c (stands-keeps base c.boxes subs.keeps stands)
        (under-more s.quant c.boxes.quant m (mk.keeps-trans sources has s base c.boxes keeps subs.keeps).quants r.under)
        (let low : suc two.boxes.quant ≤ c.boxes.quant = subs.keeps.quants in omega arith) subs.rising (subst (λ (x : Drawn). Begins x.boxes.rows R) steps g_two)
    lay-same (q.combine x op all n z) m s h r t g = sets-same x z (w.form_of op all) n m s h.0 h.1 r t (λ b. lay-same x m s h.0 r t b) (λ a ready stands b. lay-same z m a h.1 ready stands b) g
    lay-same (q.intersect x all n z) m s h r t g = sets-same x z (w.common_form all) n m s h.0 h.1 r t (λ b. lay-same x m s h.0 r t b) (λ a ready stands b. lay-same z m a h.1 ready stands b) g

    pub operand-same : (x : From) (m : Map) (s : Boxes) → b.FitFrom sources has x → Ready s m → Stands placed s → Begins (y.lay_operand known at x m s).boxes.rows R → y.lay_operand known at x m s ≡ y.lay_operand sources same x m s
    operand-same (q.named name) m s h r t g = ap (λ j. record { boxes = s; top = j }) (number-same name s h t)
    operand-same (q.derived query) m s h r t g = lay-same query m s h r t g
    operand-same (q.crossed x z) m s h r t g =
        let froms = q.one_from (q.crossed x z) q.no_from in
        let f = in_turn (y.lay_from known at m x) (y.lay_from known at m z) s in
        let d = in_turn (y.lay_from sources same m x) (y.lay_from sources same m z) s in
        let step : List OwnedQuant → Step = λ os. in_turn (y.on_subs known at m x os) (y.on_subs known at m z (w.past known x os)) in
        let e = turn-same x z m s h.0 h.1 r t (λ b. from-same m x s h.0 r t b) (λ a ready stands b. from-same m z a h.1 ready stands b) (back ((turn (on-grows known at m x f.quants) (on-grows known at m z (w.past known x f.quants))).at f.boxes) g) in
        selected false froms (q.all q.no_test) (λ fr. []) (λ sources fr s. map ref_term fr) m s _ f d step (in_turn (y.on_subs sources same m x d.quants) (y.on_subs sources same m z (w.past sources x d.quants))) r t e
        (mk.froms-alone sources has (q.crossed x z) m s d (from-laid sources has m (q.crossed x z) s h r)) (within (λ n u. under_in-left n (w.frame sources (q.crossed x z) d.quants) [] u) (crossed-agrees x z m d.quants (on-agrees m x d.quants h.0) (said (ap (y.on_subs known at m z) (past-same known sources counts x d.quants)) (on-agrees m z (w.past sources x d.quants) h.1)))) g
        (λ c t b u v slots low. refl)
    operand-same (q.joined x z p) m s h r t g =
        let froms = q.one_from (q.joined x z p) q.no_from in
        let f = in_turn (y.lay_from known at m x) (y.lay_from known at m z) s in
        let d = in_turn (y.lay_from sources same m x) (y.lay_from sources same m z) s in
        let frame : List OwnedQuant → Frame = λ os. w.frame known x os ++ w.frame known z (w.past known x os) in
        let step : List OwnedQuant → Step = λ os. in_turn (y.on_subs known at m x os) (in_turn (y.on_subs known at m z (w.past known x os)) (y.test_subs known at m (frame os) p)) in
        let e = turn-same x z m s h.0 h.1 r t (λ b. from-same m x s h.0 r t b) (λ a ready stands b. from-same m z a h.1 ready stands b) (back ((turn (on-grows known at m x f.quants) (turn (on-grows known at m z (w.past known x f.quants)) (test-grow known at m (frame f.quants) p))).at f.boxes) g) in
        selected false froms (q.all q.no_test) (λ fr. []) (λ sources fr s. map ref_term fr) m s _ f d step
        (in_turn (y.on_subs sources same m x d.quants) (in_turn (y.on_subs sources same m z (w.past sources x d.quants)) (y.test_subs sources same m (w.frame sources x d.quants ++ w.frame sources z (w.past sources x d.quants)) p))) r t e
        (mk.froms-alone sources has (q.joined x z p) m s d (from-laid sources has m (q.joined x z p) s h r)) (within (λ n u. under_in-left n (w.frame sources (q.joined x z p) d.quants) [] u) (joined-agrees x z p m d.quants (on-agrees m x d.quants h.0) (said (ap (y.on_subs known at m z) (past-same known sources counts x d.quants)) (on-agrees m z (w.past sources x d.quants) h.1))
        (said (ap (λ fr. y.test_subs known at m fr p) (frame-same known sources counts (q.joined x z p) d.quants)) (test-agrees m (w.frame sources (q.joined x z p) d.quants) p h.2)))) g
        (λ c t b u v slots low. refl)
    operand-same (q.left_joined x z n p) m s h r t g = outers-same x z n p m s h.0 h.1 r t (λ b. operand-same x m s h.0 r t b) (λ a ready stands b. operand-same z m a h.1 ready stands b) g

    pub from-same : (m : Map) (x : From) (s : Boxes) → b.FitFrom sources has x → Ready s m → Stands placed s → Begins (y.lay_from known at m x s).boxes.rows R → y.lay_from known at m x s ≡ y.lay_from sources same m x s
    from-same m (q.named name) s h r t g = ap (λ j. drawn F (record { boxes = s; top = j })) (number-same name s h t)
    from-same m (q.derived query) s h r t g =
        let a = y.lay known at query m s in
        ap (drawn F) (lay-same query m s h r t (back (ranged a.top a.boxes) g))
    from-same m (q.crossed x z) s h r t g = turn-same x z m s h.0 h.1 r t (λ b. from-same m x s h.0 r t b) (λ a ready stands b. from-same m z a h.1 ready stands b) g
    from-same m (q.joined x z p) s h r t g = turn-same x z m s h.0 h.1 r t (λ b. from-same m x s h.0 r t b) (λ a ready stands b. from-same m z a h.1 ready stands b) g
    from-same m (q.left_joined x z n p) s h r t g =
        let a = y.outer_box known at x n p m (y.lay_operand known at z m) (y.lay_operand known at x m s) in
        ap (drawn F) (outers-same x z n p m s h.0 h.1 r t (λ b. operand-same x m s h.0 r t b) (λ a ready stands b. operand-same z m a h.1 ready stands b) (back (ranged a.top a.boxes) g))

    pub froms-same : (m : Map) (xs : Froms) (s : Boxes) → b.FitFroms sources has xs → Ready s m → Stands placed s → Begins (y.lay_froms known at m xs s).boxes.rows R → y.lay_froms known at m xs s ≡ y.lay_froms sources same m xs s
    froms-same m q.no_from s h r t g = refl
    froms-same m (q.one_from x xs) s h r t g =
        let one = y.lay_from known at m x in
        let two = y.lay_froms known at m xs in
        let a = y.lay_from sources same m x s in
        let made = from-laid sources has m x s h.0 r in
        let e = from-same m x s h.0 r t (back ((froms-grow known at m xs).at (one s).boxes) g) in
        let f = froms-same m xs a.boxes h.1 (mk.ready-keeps sources has s a.boxes m r made.keeps) (stands-keeps s a.boxes made.keeps t) (subst (λ (d : Drawn). Begins (two d.boxes).boxes.rows R) e g) in
        ap (λ (d : Drawn). record { boxes = (two d.boxes).boxes; quants = d.quants ++ (two d.boxes).quants }) e ∙ ap (λ (d : Drawn). record { boxes = d.boxes; quants = a.quants ++ d.quants }) f

    on-agrees : (m : Map) (x : From) (os : List OwnedQuant) → b.FitFrom sources has x → Agrees (w.frame sources x os) m (w.on_leaves sources x os) (y.on_subs known at m x os) (y.on_subs sources same m x os)
    on-agrees m (q.named name) os h = nothing
    on-agrees m (q.derived query) os h = nothing
    on-agrees m (q.crossed x z) os h = crossed-agrees x z m os (on-agrees m x os h.0) (said (ap (y.on_subs known at m z) (past-same known sources counts x os)) (on-agrees m z (w.past sources x os) h.1))
    on-agrees m (q.joined x z p) os h =
        joined-agrees x z p m os (on-agrees m x os h.0) (said (ap (y.on_subs known at m z) (past-same known sources counts x os)) (on-agrees m z (w.past sources x os) h.1))
        (said (ap (λ fr. y.test_subs known at m fr p) (frame-same known sources counts (q.joined x z p) os)) (test-agrees m (w.frame sources (q.joined x z p) os) p h.2))
    on-agrees m (q.left_joined x z n p) os h = nothing

    all-on-agrees : (m : Map) (xs : Froms) (os : List OwnedQuant) → b.FitFroms sources has xs → Agrees (w.frame_all sources xs os) m (w.all_on_leaves sources xs os) (y.all_on_subs known at m xs os) (y.all_on_subs sources same m xs os)
    all-on-agrees m q.no_from os h = nothing
    all-on-agrees m (q.one_from x xs) os h =
        let past = w.past sources x os in
        both (within (λ n u. under_in-left n (w.frame sources x os) (w.frame_all sources xs past) u) (on-agrees m x os h.0))
        (said (ap (y.all_on_subs known at m xs) (past-same known sources counts x os)) (within (λ n u. under_in-right n (w.frame sources x os) (w.frame_all sources xs past) u) (all-on-agrees m xs past h.1)))

    pub value-agrees : (m : Map) (fr : Frame) (x : Value) → b.FitValue sources has x → Agrees fr m (leaf.leaves fr x) (y.value_subs known at m fr x) (y.value_subs sources same m fr x)
    value-agrees m fr (q.number n) h = nothing
    value-agrees m fr (q.text x) h = nothing
    value-agrees m fr (q.null type) h = nothing
    value-agrees m fr (q.column scope place) h = nothing
    value-agrees m fr (q.sum x xs) h = both (value-agrees m fr x h.0) (addend-agrees m fr xs h.1)
    value-agrees m fr (q.product x xs) h = both (value-agrees m fr x h.0) (multiplier-agrees m fr xs h.1)
    value-agrees m fr (q.negative x) h = value-agrees m fr x h
    value-agrees m fr (q.searched xs last) h = both (arm-agrees m fr xs h.0) (value-agrees m fr last h.1)
    value-agrees m fr (q.simple x xs last) h = both (value-agrees m fr x h.0) (both (choice-agrees m fr xs h.1) (value-agrees m fr last h.2))
    value-agrees m fr (q.coalesce x xs) h = both (value-agrees m fr x h.0) (list-agrees m fr xs h.1)
    value-agrees m fr (q.null_if x y) h = both (value-agrees m fr x h.0) (value-agrees m fr y h.1)
    value-agrees m fr (q.scalar query) h = asked S query (y.lay known at query (fr ∷ m)) (y.lay sources same query (fr ∷ m)) refl (λ s r. laid sources has query (fr ∷ m) s h r) (lay-grows known at query (fr ∷ m)) (λ s r t g. lay-same query (fr ∷ m) s h r t g)
    value-agrees m fr q.count_all h = counted
    value-agrees m fr (q.aggregate f distinct x) h = folded f distinct x h

    pub addend-agrees : (m : Map) (fr : Frame) (x : Addends) → b.FitAddends sources has x → Agrees fr m (leaf.addend_leaves fr x) (y.addend_subs known at m fr x) (y.addend_subs sources same m fr x)
    addend-agrees m fr q.no_addend h = nothing
    addend-agrees m fr (q.one_addend op x xs) h = both (value-agrees m fr x h.0) (addend-agrees m fr xs h.1)

    pub multiplier-agrees : (m : Map) (fr : Frame) (x : Multipliers) → b.FitMultipliers sources has x → Agrees fr m (leaf.multiplier_leaves fr x) (y.multiplier_subs known at m fr x) (y.multiplier_subs sources same m fr x)
    multiplier-agrees m fr q.no_multiplier h = nothing
    multiplier-agrees m fr (q.one_multiplier op x xs) h = both (value-agrees m fr x h.0) (multiplier-agrees m fr xs h.1)

    pub list-agrees : (m : Map) (fr : Frame) (x : Values) → b.FitValues sources has x → Agrees fr m (leaf.list_leaves fr x) (y.list_subs known at m fr x) (y.list_subs sources same m fr x)
    list-agrees m fr q.no_value h = nothing
    list-agrees m fr (q.one_value x xs) h = both (value-agrees m fr x h.0) (list-agrees m fr xs h.1)

    pub arm-agrees : (m : Map) (fr : Frame) (x : Arms) → b.FitArms sources has x → Agrees fr m (leaf.arm_leaves fr x) (y.arm_subs known at m fr x) (y.arm_subs sources same m fr x)
    arm-agrees m fr q.no_arm h = nothing
    arm-agrees m fr (q.one_arm p x xs) h = both (test-agrees m fr p h.0) (both (value-agrees m fr x h.1) (arm-agrees m fr xs h.2))

    pub choice-agrees : (m : Map) (fr : Frame) (x : Choices) → b.FitChoices sources has x → Agrees fr m (leaf.choice_leaves fr x) (y.choice_subs known at m fr x) (y.choice_subs sources same m fr x)
    choice-agrees m fr q.no_choice h = nothing
    choice-agrees m fr (q.one_choice x y xs) h = both (value-agrees m fr x h.0) (both (value-agrees m fr y h.1) (choice-agrees m fr xs h.2))

    pub test-agrees : (m : Map) (fr : Frame) (x : Test) → b.FitTest sources has x → Agrees fr m (leaf.test_leaves fr x) (y.test_subs known at m fr x) (y.test_subs sources same m fr x)
    test-agrees m fr (q.all ps) h = tests-agrees m fr ps h
    test-agrees m fr (q.any ps) h = tests-agrees m fr ps h
    test-agrees m fr (q.negated p) h = test-agrees m fr p h
    test-agrees m fr (q.compare x op y) h = both (value-agrees m fr x h.0) (value-agrees m fr y h.1)
    test-agrees m fr (q.quantified x op each query) h = both (value-agrees m fr x h.0) (asked (every_or_some each) query (y.lay known at query (fr ∷ m)) (y.lay sources same query (fr ∷ m)) (binds-nothing sources has each) (λ s r. laid sources has query (fr ∷ m) s h.1 r) (lay-grows known at query (fr ∷ m)) (λ s r t g. lay-same query (fr ∷ m) s h.1 r t g))
    test-agrees m fr (q.between x y z) h = both (value-agrees m fr x h.0) (both (value-agrees m fr y h.1) (value-agrees m fr z h.2))
    test-agrees m fr (q.among x xs) h = both (value-agrees m fr x h.0) (list-agrees m fr xs h.1)
    test-agrees m fr (q.among_rows x query) h = both (value-agrees m fr x h.0) (asked E query (y.lay known at query (fr ∷ m)) (y.lay sources same query (fr ∷ m)) refl (λ s r. laid sources has query (fr ∷ m) s h.1 r) (lay-grows known at query (fr ∷ m)) (λ s r t g. lay-same query (fr ∷ m) s h.1 r t g))
    test-agrees m fr (q.like x y) h = both (value-agrees m fr x h.0) (value-agrees m fr y h.1)
    test-agrees m fr (q.is_null x) h = value-agrees m fr x h
    test-agrees m fr (q.exists query) h = asked E query (y.lay known at query (fr ∷ m)) (y.lay sources same query (fr ∷ m)) refl (λ s r. laid sources has query (fr ∷ m) s h r) (lay-grows known at query (fr ∷ m)) (λ s r t g. lay-same query (fr ∷ m) s h r t g)

    pub tests-agrees : (m : Map) (fr : Frame) (x : Tests) → b.FitTests sources has x → Agrees fr m (leaf.tests_leaves fr x) (y.tests_subs known at m fr x) (y.tests_subs sources same m fr x)
    tests-agrees m fr q.no_test h = nothing
    tests-agrees m fr (q.one_test p ps) h = both (test-agrees m fr p h.0) (tests-agrees m fr ps h.1)
