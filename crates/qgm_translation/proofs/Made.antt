-- What each step of the making gives.
use Rattle.std.proofs.Common.{inl, inr, ◌≡◌, ◌≤◌, ◌<◌, ◌||◌, cond, ℕ, suc, ◌+◌, ◌==◌, Bool, true, false, List, [], ◌∷◌, ◌++◌, map, length, get_or, pos, append_assoc, append-nil, refl, ap, ap₂, sym, ◌∙◌, subst, arith, Option}
use Rattle.std.proofs.lemmas.Bool.{ne_eqb, eq-eqb, eqb-true}
use Rattle.sql_ast.specs.declared.word.SetFunction.{SetFunction}
use Rattle.sql_meaning.specs.ResolvedTrees.{Value, Addends, Multipliers, Values, Arms, Choices, Test, Tests, From, Froms, Query}
use Rattle.sql_meaning.specs.ResolvedTrees as q
use Rattle.qgm_terms.specs.Terms.{Term, Cond, col, count_all, int}
use Rattle.qgm_terms.specs.Terms as t
use Rattle.qgm_core.specs.declared.kinds.QuantKind.{QuantKind}
use Rattle.qgm_core.specs.declared.kinds.QuantKind.TheVariants.{F}
use Rattle.qgm_core.specs.declared.kinds.BoxKind.{BoxKind}
use Rattle.qgm_core.specs.declared.node.Node.{Node}
use Rattle.qgm_core.specs.declared.owned.OwnedQuant.{OwnedQuant}
use Rattle.qgm_core.specs.declared.kinds.BoxKind.TheVariants.{Select, Group, SetOp, OuterJoin}
use Rattle.qgm_core.specs.Kinds.{is_F}
use Rattle.qgm_translation.specs.Maps.{Frame, Map, ref_term}
use Rattle.qgm_translation.specs.Maps as maps
use Rattle.qgm_translation.specs.Folds.{folds_in}
use Rattle.qgm_translation.specs.Leaves.{Leaf, Slots, after, count, fold, leaves, list_leaves, sub, test_leaves}
use Rattle.qgm_translation.specs.Terms.{split}
use Rattle.qgm_translation.specs.Terms as l
use Rattle.qgm_translation.specs.Shown.{over_in, uses, HasKey, PlainArguments, Thing, columns_of, fold_terms, key_frame, key_places, no_slots, of_groups, of_operand, of_query, of_rows, refs}
use Rattle.qgm_translation.specs.Shown as w
use Rattle.qgm_translation.specs.Sources.{Sources, from_width, froms_width, width}
use Rattle.qgm_translation.specs.There.{EachFor, IsFor, Notes, both_noted, noted, unnoted}
use Rattle.qgm_translation.proofs.Noted.{shows-there}
use Rattle.qgm_translation.specs.Lay.{Boxes, Laid, Drawn, Step, column_types, put, ranging, drawn, none, in_turn, over, pair_of}
use Rattle.qgm_core.specs.declared.kinds.SetOperator as forms
use Rattle.qgm_translation.specs.Lay as y
use Rattle.qgm_translation.specs.Lays as k
use Rattle.qgm_translation.specs.Lays.{Counted, EachRanges, HeadUnder, Under, UnderIn, owned}
use Rattle.qgm_translation.proofs.Rows.{Later, begins-more, begins-refl, begins-trans, each_has_types-later, each_ranges-append, each_ranges-later, get-last, length-one, ranges-later}
use Rattle.qgm_translation.proofs.TermsUnder.{groups-under, refs-under, rows-under, slots-under, terms-under, upper_slots-under}
use Rattle.std.specs.List.{list_any}
use Rattle.qgm_core.specs.Boxes.{is_quant}
use Rattle.qgm_translation.proofs.Numbers.{Rising, fresh-under, rising-append, rising-distinct, rising-fresh, rising-from, rising-in, any-cases, below-or, one-used, or-cases, over-append, stays-false, under-more, under_in-append, under_in-more, under_in-refs, under-keys}
use Rattle.qgm_meaning.specs.Scope.{loose}
use Rattle.qgm_translation.proofs.Loose.{shown-clear}
use Rattle.qgm_translation.proofs.Order.{low-more, low-not, shows-has, thing-over, thing-settled}
use Rattle.qgm_translation.proofs.Fills.{Fills, FillsAll, fills-crossed, fills-joined, fills-next, fills-none}

-- a box is there for what it is laid as, beside others
pub each-put : (sources : Sources) (what : ℕ → Thing) (seen : ℕ → Map) (n : Node) (ns : List Node) {X : Type 0} → w.ShowsBox sources (IsFor what seen) (what n.id) (seen n.id) n → (X → EachFor sources what seen ns) → X → EachFor sources what seen (n ∷ ns)
each-put sources what seen n ns h f x k (inl e) = subst (λ (z : Node). w.ShowsBox sources (IsFor what seen) (what z.id) (seen z.id) z) e h
each-put sources what seen n ns h f x k (inr i) = f x k i

named-for : (what : ℕ → Thing) (seen : ℕ → Map) (b : ℕ) (name : List ℕ) (other : Thing) (m : Map) → other ≡ of_operand (q.named name) → IsFor what seen b (of_operand (q.named name)) [] → IsFor what seen b other m
named-for what seen b name other m e h = subst (λ t. IsFor what seen b t m) (sym e) h

module _ (sources : Sources) (has : List ℕ → Bool) where
  abbrev pub Shows : List Node → ℕ → Thing → Map → Type 0
  Shows = w.Shows sources

  abbrev pub Keeps : Boxes → Boxes → Type 0
  Keeps = k.Keeps sources has

  abbrev pub Ready : Boxes → Map → Type 0
  Ready = k.Ready sources has

  abbrev pub Made : Thing → Map → Boxes → Laid → Type 0
  Made = k.Made sources has

  -- all is told beforehand
  abbrev pub same : Boxes → Sources
  same s = sources

  abbrev pub WhereFor : (s r : Boxes) → Notes s.box r.box → ((ℕ → Thing) → (ℕ → Map) → Type 0) → Type 0
  WhereFor = k.WhereFor sources has

  -- ---- what stays

  pub keeps-refl : (a : Boxes) → Keeps a a
  keeps-refl a = record {
    boxes = omega arith;
    quants = omega arith;
    order = λ o. o;
    kept = λ j l u. refl;
    owners = λ q l h. h;
    same = λ j thing m l h. h;
    rows = begins-refl a.rows;
    types = begins-refl a.types;
    counted = λ c. c;
    typed = λ c t. t;
    shared = refl;
  }

  pub ranging-later : (b : ℕ) (a : Boxes) → Later a (ranging b a)
  ranging-later b a = record { boxes = omega arith; quants = omega arith; rows = begins-more a.rows (get_or a.types b [] ∷ []); types = begins-refl a.types }

  pub keeps-ranging : (b : ℕ) (a : Boxes) → Keeps a (ranging b a)
  keeps-ranging b a = record {
    boxes = omega arith;
    quants = omega arith;
    order = λ o. record { low = o.low; ordered = o.ordered; settled = o.settled; bound = λ q h. (let x = o.bound q h in omega arith); once = o.once; unused = o.unused; named = o.named };
    kept = λ j l u. refl;
    owners = λ q l h. h;
    same = λ j thing m l h. h;
    rows = begins-more a.rows (get_or a.types b [] ∷ []);
    types = begins-refl a.types;
    counted = λ c. record { some = omega arith; rows = length-one a.rows (get_or a.types b []) a.quant c.rows; types = c.types };
    typed = λ c h. each_has_types-later a (ranging b a) c (ranging-later b a) a.made h;
    shared = refl;
  }

  pub keeps-trans : (a b c : Boxes) → Keeps a b → Keeps b c → Keeps a c
  keeps-trans a b c h k = record {
    boxes = (let x = h.boxes in let y = k.boxes in omega arith);
    quants = (let x = h.quants in let y = k.quants in omega arith);
    order = λ o. k.order (h.order o);
    kept = λ j l u. k.kept j (let x = h.boxes in omega arith) u ∙ h.kept j l u;
    owners = λ q l t. h.owners q l (k.owners q (let x = h.quants in omega arith) t);
    same = λ j thing m l s. k.same j thing m (let x = h.boxes in omega arith) (h.same j thing m l s);
    rows = begins-trans h.rows k.rows;
    types = begins-trans h.types k.types;
    counted = λ c. k.counted (h.counted c);
    typed = λ c t. k.typed (h.counted c) (h.typed c t);
    shared = k.shared ∙ h.shared;
  }

  pub later : (a b : Boxes) → Keeps a b → Later a b
  later a b k = record { boxes = k.boxes; quants = k.quants; rows = k.rows; types = k.types }

  -- ---- the types of the columns of quantifiers that are drawn

  pub ranged-append : (a b c : Boxes) (os ps : List OwnedQuant) → Keeps a b → Keeps b c → (Counted a → EachRanges b os) → (Counted b → EachRanges c ps) → Counted a → EachRanges c (os ++ ps)
  ranged-append a b c os ps h k f g d = each_ranges-append c os ps (each_ranges-later b c (h.counted d) (later b c k) os (f d)) (g (h.counted d))

  -- over what was laid
  pub ranged-one : (a b : Boxes) (kind : QuantKind) (top : ℕ) → Keeps a b → top < b.box → Counted a → EachRanges (ranging top b) (record { id = b.quant; kind = kind; over = top } ∷ [])
  ranged-one a b kind top h l c = (record { drawn = omega arith; laid = l; types = get-last b.rows (get_or b.types top []) b.quant (h.counted c).rows }, tt)

  pub ranged-two : (s a b : Boxes) (x y : ℕ) → Keeps s b → x < b.box → y < b.box → Counted s → EachRanges (ranging y (ranging x b)) (pair_of b.quant x y)
  ranged-two s a b x y h l k c =
      let d = ranging x b in
      let first = ranged-one s b F x h l c in
      let then = ranged-one s d F y (keeps-trans s b d h (keeps-ranging x b)) k c in
      (ranges-later d (ranging y d) ((keeps-ranging x b).counted (h.counted c)) (ranging-later y d) (record { id = b.quant; kind = F; over = x }) first.0, (then.0, tt))

  pub ready-keeps : (a b : Boxes) (m : Map) → Ready a m → Keeps a b → Ready b m
  ready-keeps a b m r k = record {
    known = λ name h. (let x = r.known name h in let y = k.boxes in omega arith);
    sourced = λ name h n. k.same (sources.shared name) (of_operand (q.named name)) n (r.known name h) (r.sourced name h n);
    under = under-more a.quant b.quant m k.quants r.under;
  }

  pub ready-frame : (a : Boxes) (fr : Frame) (m : Map) → Ready a m → UnderIn a.quant fr → Ready a (fr ∷ m)
  ready-frame a fr m r u = record { known = r.known; sourced = r.sourced; under = (u, r.under) }

  pub still : (thing : Thing) (m : Map) (s : Boxes) (r : Laid) (c : Boxes) → Made thing m s r → Keeps r.boxes c → Shows c.made r.top thing m
  still thing m s r c h k = k.same r.top thing m h.known h.shows

  -- ---- quantifiers that no box owns yet

  abbrev pub Free : Boxes → Boxes → List OwnedQuant → Type 0
  Free a b os = k.InOrder sources has a → (q : ℕ) → list_any (is_quant q) os ≡ true → owned q b.made ≡ false

  pub free-new : (a b : Boxes) → Keeps a b → k.InOrder sources has a → (q : ℕ) → b.quant ≤ q → owned q b.made ≡ false
  free-new a b h o q l = by_case (owned q b.made) (λ t. (h.order o).bound q t)
    where
      by_case : (x : Bool) → (x ≡ true → q < b.quant) → x ≡ false
      by_case true f = absurd (let t = f refl in omega arith)
      by_case false f = refl

  pub free-one : (a b : Boxes) (kind : QuantKind) (top : ℕ) → Keeps a b → Free a b (record { id = b.quant; kind = kind; over = top } ∷ [])
  free-one a b kind top h o q t = or-cases (b.quant == q) false t (λ e. let same = eqb-true b.quant q e in free-new a b h o q (omega arith)) (λ e. absurd (cc e))

  pub free-pair : (a b : Boxes) (x y : ℕ) → Keeps a b → Free a b (pair_of b.quant x y)
  free-pair a b x y h o q t =
      or-cases (b.quant == q) ((suc b.quant == q) || false) t (λ e. let same = eqb-true b.quant q e in free-new a b h o q (omega arith))
      (λ e. or-cases (suc b.quant == q) false e (λ e. let same = eqb-true (suc b.quant) q e in free-new a b h o q (omega arith)) (λ e. absurd (cc e)))

  pub free-append : (a b c : Boxes) (os ps : List OwnedQuant) → Keeps a b → Keeps b c → Rising a.quant b.quant os → Free a b os → Free b c ps → Free a c (os ++ ps)
  free-append a b c os ps h k r f g o q t =
      any-cases (is_quant q) os ps t (λ e. stays-false (owned q b.made) (owned q c.made) (k.owners q (rising-in a.quant b.quant q os r e).1) (f o q e)) (λ e. g (h.order o) q e)

  -- ---- how often boxes are used

  -- of the boxes that are made between a and b each has one use, by a box or by one of these quantifiers
  pub record Counts (a b : Boxes) (os : List OwnedQuant) : Type 0 where
    pub old : (j : ℕ) → j < a.box → k.Unshared sources has j → over_in j os ≡ 0
    pub new : k.InOrder sources has a → (j : ℕ) → a.box ≤ j → j < b.box → over_in j os + uses j b.made ≡ 1
    pub later : (j : ℕ) → b.box ≤ j → over_in j os ≡ 0

  pub unshared : (a : Boxes) → k.InOrder sources has a → (j : ℕ) → a.box ≤ j → k.Unshared sources has j
  unshared a o j l name h = ne_eqb (sources.shared name) j (λ (e : sources.shared name ≡ j). absurd (let x = o.named name h in omega arith))

  pub counts-none : (a : Boxes) → Counts a a []
  counts-none a = record { old = λ j l u. refl; new = λ o j l t. absurd (omega arith); later = λ j l. refl }

  pub counts-append : (a b c : Boxes) (os ps : List OwnedQuant) → Keeps a b → Keeps b c → Counts a b os → Counts b c ps → Counts a c (os ++ ps)
  counts-append a b c os ps h k f g = record {
    old = λ j l u. (let x = f.old j l u in let y = g.old j (let z = h.boxes in omega arith) u in let e = over-append j os ps in omega arith);
    new = λ o j l t. below-or j b.box
        (λ z. let u = unshared a o j l in let x = f.new o j l z in let y = g.old j z u in let v = k.kept j z u in let e = over-append j os ps in omega arith)
        (λ z. let x = f.later j z in let y = g.new (h.order o) j z t in let e = over-append j os ps in omega arith);
    later = λ j l. (let x = f.later j (let z = k.boxes in omega arith) in let y = g.later j l in let e = over-append j os ps in omega arith);
  }

  pub counts-one : (thing : Thing) (m : Map) (a : Boxes) (r : Laid) (id : ℕ) (kind : QuantKind) → Made thing m a r → Counts a r.boxes (record { id = id; kind = kind; over = r.top } ∷ [])
  counts-one thing m a r id kind h = record {
    old = λ j l u. ap (λ b. cond b 1 0 + 0) (h.top j l u);
    new = λ o j l t. one-used (r.top == j) (uses j r.boxes.made) (h.used o j l t);
    later = λ j l. ap (λ b. cond b 1 0 + 0) (ne_eqb r.top j (λ (e : r.top ≡ j). absurd (let x = h.known in omega arith)));
  }

  pub counts-ranging : (i : ℕ) (a b : Boxes) (os : List OwnedQuant) → Counts a b os → Counts a (ranging i b) os
  counts-ranging i a b os h = record { old = h.old; new = h.new; later = h.later }

  -- a box that is put on top
  pub made-put : (kind : BoxKind) (distinct : Bool) (conds : List Cond) (head : List Term) (quants : List OwnedQuant) (thing : Thing) (m : Map) (a s : Boxes) → Keeps a s → Rising a.quant s.quant quants → Free a s quants → Counts a s quants → (Counted a → EachRanges s quants) → (0 < s.quant → HeadUnder s.quant head)
      → w.ShowsBox sources (Shows s.made) thing m (y.plain_box s.box kind distinct conds head quants)
      → (notes : Notes a.box s.box) → WhereFor a s notes (λ what seen. w.ShowsBox sources (IsFor what seen) thing m (y.plain_box s.box kind distinct conds head quants))
      → Made thing m a (put kind distinct conds head quants s)
  made-put kind distinct conds head quants thing m a s k rising free counts ranged under h notes there =
      let n : Node = y.plain_box s.box kind distinct conds head quants in
      let r : Laid = put kind distinct conds head quants s in
      record {
        keeps = record {
          boxes = (let x = k.boxes in omega arith);
          quants = k.quants;
          order = λ o.
              let x = k.order o in
              record {
                low = (omega arith, low-more s.box (suc s.box) s.made (omega arith) x.low);
                ordered = (low-not s.box s.made x.low, thing-over sources s.made (Shows s.made) (λ b u p g. shows-has sources s.made b u p g) thing m n h, x.ordered);
                settled = ((λ q own. thing-settled sources q (loose s.made) (Shows s.made) (λ b u p g f. shown-clear sources q s.made b u p g f) thing m n h own), x.settled);
                bound = λ q t. or-cases (list_any (is_quant q) quants) (owned q s.made) t (λ e. (rising-in a.quant s.quant q quants rising e).1) (λ e. x.bound q e);
                unused = λ j l. (let z = counts.later j (omega arith) in let v = x.unused j (omega arith) in omega arith);
                named = λ name t. (let z = x.named name t in omega arith);
                once = (rising-distinct a.quant s.quant quants rising, (λ q own. free o q own), x.once);
              };
          kept = λ j l u. (let x = counts.old j l u in let z = k.kept j l u in omega arith);
          owners = λ q l t. or-cases (list_any (is_quant q) quants) (owned q s.made) t (λ e. absurd (let x = (rising-in a.quant s.quant q quants rising e).0 in omega arith)) (λ e. k.owners q l e);
          same = λ j t p l g.
              subst (λ own. w.Either own (w.ShowsBox sources (Shows s.made) t p n) (Shows s.made j t p)) (sym (ne_eqb s.box j (λ (e : s.box ≡ j). absurd (let x = k.boxes in omega arith)))) (k.same j t p l g);
          rows = k.rows;
          types = begins-trans k.types (begins-more s.types (column_types s.rows kind head ∷ []));
          counted = λ c. record { some = (k.counted c).some; rows = (k.counted c).rows; types = length-one s.types (column_types s.rows kind head) s.box (k.counted c).types };
          typed = λ c t.
              let d = k.counted c in
              let more : Later s r.boxes = record { boxes = omega arith; quants = omega arith; rows = begins-refl s.rows; types = begins-more s.types (column_types s.rows kind head ∷ []) } in (
                record {
                  laid = omega arith;
                  quants = each_ranges-later s r.boxes d more quants (ranged c);
                  head = under d.some;
                  types = get-last s.types (column_types s.rows kind head) s.box d.types;
                },
                each_has_types-later s r.boxes d more s.made (k.typed c t),
              );
          shared = k.shared;
        };
        known = omega arith;
        shows = subst (λ own. w.Either own (w.ShowsBox sources (Shows s.made) thing m n) (Shows s.made s.box thing m)) (sym (eq-eqb s.box s.box refl)) h;
        used = λ o j l t. below-or j s.box
            (λ z. (let v = counts.new o j l z in v) ∙ sym (ap (λ b. cond b 0 1) (ne_eqb s.box j (λ (e : s.box ≡ j). absurd (omega arith)))))
            (λ z. let v = counts.later j z in let u = (k.order o).unused j z in let e : over_in j quants + uses j s.made ≡ 0 = omega arith in let i : s.box ≡ j = omega arith in e ∙ sym (ap (λ b. cond b 0 1) (eq-eqb s.box j i)));
        top = λ j l u. ne_eqb s.box j (λ (e : s.box ≡ j). absurd (let x = k.boxes in omega arith));
        notes = λ other. both_noted a.box s.box (suc s.box) notes (noted s.box other m);
        there = λ other fit what seen are names.
            let x = there what seen are.0 names in
            (are.1, each-put sources what seen n s.made (shows-there sources (IsFor what seen) n thing m other what seen fit are.1 x.0) (λ f. x.1 f));
      }

  -- ---- the quantifiers of a FROM

  pub record MadeFrom (x : From) (m : Map) (s : Boxes) (r : Drawn) : Type 0 where
    pub keeps : Keeps s r.boxes
    pub rising : Rising s.quant r.boxes.quant r.quants
    pub free : Free s r.boxes r.quants
    pub counts : Counts s r.boxes r.quants
    pub ranged : Counted s → EachRanges r.boxes r.quants
    pub fills : Fills sources x r.quants
    pub under : UnderIn r.boxes.quant (w.frame sources x r.quants)
    pub shows : (c : Boxes) → Keeps r.boxes c → (more : List OwnedQuant) → w.ShowsFrom sources (Shows c.made) x m (r.quants ++ more)
    pub notes : Notes s.box r.boxes.box
    pub there : WhereFor s r.boxes notes (λ what seen. (more : List OwnedQuant) → w.ShowsFrom sources (IsFor what seen) x m (r.quants ++ more))

  pub record MadeFroms (x : Froms) (m : Map) (s : Boxes) (r : Drawn) : Type 0 where
    pub keeps : Keeps s r.boxes
    pub rising : Rising s.quant r.boxes.quant r.quants
    pub free : Free s r.boxes r.quants
    pub counts : Counts s r.boxes r.quants
    pub ranged : Counted s → EachRanges r.boxes r.quants
    pub fills : FillsAll sources x r.quants
    pub under : UnderIn r.boxes.quant (w.frame_all sources x r.quants)
    pub shows : (c : Boxes) → Keeps r.boxes c → (more : List OwnedQuant) → w.ShowsFroms sources (Shows c.made) x m (r.quants ++ more)
    pub notes : Notes s.box r.boxes.box
    pub there : WhereFor s r.boxes notes (λ what seen. (more : List OwnedQuant) → w.ShowsFroms sources (IsFor what seen) x m (r.quants ++ more))

  -- one quantifier over an operand
  pub from-one : (x : From) (n : ℕ) (m : Map) (s : Boxes) (r : Laid) → Made (of_operand x) m s r → Fills sources x (drawn F r).quants
      → w.frame sources x (drawn F r).quants ≡ refs r.boxes.quant 1 n
      → ((below : ℕ → Thing → Map → Type 0) (os : List OwnedQuant) → w.ShowsOne sources below x m os → w.ShowsFrom sources below x m os)
      → MadeFrom x m s (drawn F r)
  from-one x n m s r h fills frame one = record {
    keeps = keeps-trans s r.boxes (drawn F r).boxes h.keeps (keeps-ranging r.top r.boxes);
    rising = (h.keeps.quants, omega arith);
    free = free-one s r.boxes F r.top h.keeps;
    counts = counts-ranging r.top s r.boxes (drawn F r).quants (counts-one (of_operand x) m s r r.boxes.quant F h);
    ranged = ranged-one s r.boxes F r.top h.keeps h.known;
    fills = fills;
    under = subst (UnderIn (suc r.boxes.quant)) (sym frame) (under_in-refs (suc r.boxes.quant) r.boxes.quant 1 n (omega arith));
    shows = λ c k more. one (Shows c.made) ((drawn F r).quants ++ more) (refl, still (of_operand x) m s r c h (keeps-trans r.boxes (drawn F r).boxes c (keeps-ranging r.top r.boxes) k));
    notes = h.notes (of_operand x);
    there = λ what seen are names.
        let y = h.there (of_operand x) refl what seen are names in
        ((λ more. one (IsFor what seen) ((drawn F r).quants ++ more) (refl, y.0)), y.1);
  }

  pub from-both : (x y z : From) (m : Map) (s : Boxes) (a b : Drawn) → MadeFrom x m s a → MadeFrom y m a.boxes b → Fills sources z (a.quants ++ b.quants)
      → ((os : List OwnedQuant) → w.frame sources z os ≡ w.frame sources x os ++ w.frame sources y (w.past sources x os))
      → ((below : ℕ → Thing → Map → Type 0) (os : List OwnedQuant) → w.ShowsFrom sources below x m os × w.ShowsFrom sources below y m (w.past sources x os) → w.ShowsFrom sources below z m os)
      → MadeFrom z m s (record { boxes = b.boxes; quants = a.quants ++ b.quants })
  from-both x y z m s a b h k fills frame both = record {
    keeps = keeps-trans s a.boxes b.boxes h.keeps k.keeps;
    rising = rising-append s.quant a.boxes.quant b.boxes.quant a.quants b.quants h.rising k.rising;
    free = free-append s a.boxes b.boxes a.quants b.quants h.keeps k.keeps h.rising h.free k.free;
    counts = counts-append s a.boxes b.boxes a.quants b.quants h.keeps k.keeps h.counts k.counts;
    ranged = ranged-append s a.boxes b.boxes a.quants b.quants h.keeps k.keeps h.ranged k.ranged;
    fills = fills;
    under = subst (UnderIn b.boxes.quant) (sym (frame (a.quants ++ b.quants) ∙ ap₂ (λ f g. f ++ g) (h.fills.frame b.quants) (ap (w.frame sources y) (h.fills.past b.quants))))
        (under_in-append b.boxes.quant (w.frame sources x a.quants) (w.frame sources y b.quants) (under_in-more a.boxes.quant b.boxes.quant (w.frame sources x a.quants) k.keeps.quants h.under) k.under);
    shows = λ c g more. both (Shows c.made) (a.quants ++ b.quants ++ more) (
      subst (w.ShowsFrom sources (Shows c.made) x m) (sym (append_assoc a.quants b.quants more)) (h.shows c (keeps-trans a.boxes b.boxes c k.keeps g) (b.quants ++ more)),
      subst (w.ShowsFrom sources (Shows c.made) y m) (sym (ap (w.past sources x) (append_assoc a.quants b.quants more) ∙ h.fills.past (b.quants ++ more))) (k.shows c g more),
    );
    notes = both_noted s.box a.boxes.box b.boxes.box h.notes k.notes;
    there = λ what seen are names.
        let i = h.there what seen are.0 names in
        let j = k.there what seen are.1 names in (
          (λ more. both (IsFor what seen) (a.quants ++ b.quants ++ more) (
            subst (w.ShowsFrom sources (IsFor what seen) x m) (sym (append_assoc a.quants b.quants more)) (i.0 (b.quants ++ more)),
            subst (w.ShowsFrom sources (IsFor what seen) y m) (sym (ap (w.past sources x) (append_assoc a.quants b.quants more) ∙ h.fills.past (b.quants ++ more))) (j.0 more),
          )),
          λ f. j.1 (i.1 f),
        );
  }

  pub from-crossed : (x y : From) (m : Map) (s : Boxes) (a b : Drawn) → MadeFrom x m s a → MadeFrom y m a.boxes b → MadeFrom (q.crossed x y) m s (record { boxes = b.boxes; quants = a.quants ++ b.quants })
  from-crossed x y m s a b h k = from-both x y (q.crossed x y) m s a b h k (fills-crossed sources x y a.quants b.quants h.fills k.fills) (λ os. refl) (λ below os z. z)

  pub from-joined : (x y : From) (p : Test) (m : Map) (s : Boxes) (a b : Drawn) → MadeFrom x m s a → MadeFrom y m a.boxes b → MadeFrom (q.joined x y p) m s (record { boxes = b.boxes; quants = a.quants ++ b.quants })
  from-joined x y p m s a b h k = from-both x y (q.joined x y p) m s a b h k (fills-joined sources x y p a.quants b.quants h.fills k.fills) (λ os. refl) (λ below os z. z)

  pub froms-none : (m : Map) (s : Boxes) → MadeFroms q.no_from m s (none s)
  froms-none m s = record { keeps = keeps-refl s; rising = omega arith; free = λ o q t. absurd (cc t); counts = counts-none s; ranged = λ c. tt; fills = fills-none sources; under = tt; shows = λ c k more. tt; notes = unnoted s.box; there = λ what seen are names. ((λ more. tt), λ f. f) }

  pub froms-next : (x : From) (xs : Froms) (m : Map) (s : Boxes) (a b : Drawn) → MadeFrom x m s a → MadeFroms xs m a.boxes b → MadeFroms (q.one_from x xs) m s (record { boxes = b.boxes; quants = a.quants ++ b.quants })
  froms-next x xs m s a b h k = record {
    keeps = keeps-trans s a.boxes b.boxes h.keeps k.keeps;
    rising = rising-append s.quant a.boxes.quant b.boxes.quant a.quants b.quants h.rising k.rising;
    free = free-append s a.boxes b.boxes a.quants b.quants h.keeps k.keeps h.rising h.free k.free;
    counts = counts-append s a.boxes b.boxes a.quants b.quants h.keeps k.keeps h.counts k.counts;
    ranged = ranged-append s a.boxes b.boxes a.quants b.quants h.keeps k.keeps h.ranged k.ranged;
    fills = fills-next sources x xs a.quants b.quants h.fills k.fills;
    under = subst (UnderIn b.boxes.quant) (sym (ap₂ (λ f g. f ++ g) (h.fills.frame b.quants) (ap (w.frame_all sources xs) (h.fills.past b.quants))))
        (under_in-append b.boxes.quant (w.frame sources x a.quants) (w.frame_all sources xs b.quants) (under_in-more a.boxes.quant b.boxes.quant (w.frame sources x a.quants) k.keeps.quants h.under) k.under);
    shows = λ c g more. (
      subst (w.ShowsFrom sources (Shows c.made) x m) (sym (append_assoc a.quants b.quants more)) (h.shows c (keeps-trans a.boxes b.boxes c k.keeps g) (b.quants ++ more)),
      subst (w.ShowsFroms sources (Shows c.made) xs m) (sym (ap (w.past sources x) (append_assoc a.quants b.quants more) ∙ h.fills.past (b.quants ++ more))) (k.shows c g more),
    );
    notes = both_noted s.box a.boxes.box b.boxes.box h.notes k.notes;
    there = λ what seen are names.
        let i = h.there what seen are.0 names in
        let j = k.there what seen are.1 names in (
          (λ more. (
            subst (w.ShowsFrom sources (IsFor what seen) x m) (sym (append_assoc a.quants b.quants more)) (i.0 (b.quants ++ more)),
            subst (w.ShowsFroms sources (IsFor what seen) xs m) (sym (ap (w.past sources x) (append_assoc a.quants b.quants more) ∙ h.fills.past (b.quants ++ more))) (j.0 more),
          )),
          λ f. j.1 (i.1 f),
        );
  }

  -- an operand alone
  pub froms-alone : (x : From) (m : Map) (s : Boxes) (a : Drawn) → MadeFrom x m s a → MadeFroms (q.one_from x q.no_from) m s a
  froms-alone x m s a h = subst (λ os. MadeFroms (q.one_from x q.no_from) m s (record { boxes = a.boxes; quants = os })) (append-nil a.quants) (froms-next x q.no_from m s a (none a.boxes) h (froms-none m a.boxes))

  -- ---- the quantifiers of subqueries

  pub record MadeSubs (m : Map) (ls : List Leaf) (s : Boxes) (r : Drawn) : Type 0 where
    pub keeps : Keeps s r.boxes
    pub rising : Rising s.quant r.boxes.quant r.quants
    pub free : Free s r.boxes r.quants
    pub counts : Counts s r.boxes r.quants
    pub ranged : Counted s → EachRanges r.boxes r.quants
    pub shows : (c : Boxes) → Keeps r.boxes c → w.ShowsSubs sources (Shows c.made) m ls r.quants
    pub notes : Notes s.box r.boxes.box
    pub there : WhereFor s r.boxes notes (λ what seen. w.ShowsSubs sources (IsFor what seen) m ls r.quants)

  -- a step that makes what these leaves ask for, which see a frame or parts of it
  pub record Serves (fr : Frame) (m : Map) (ls : List Leaf) (step : Step) : Type 0 where
    pub plain : (f : Frame) → PlainArguments f ls
    pub at : (s : Boxes) → Ready s (fr ∷ m) → MadeSubs m ls s (step s)

  pub plain-append : (f : Frame) (a b : List Leaf) → PlainArguments f a → PlainArguments f b → PlainArguments f (a ++ b)
  plain-append f [] b h k = k
  plain-append f (sub g kind x ∷ a) b h k = plain-append f a b h k
  plain-append f (fold g d x ∷ a) b h k = (h.0, plain-append f a b h.1 k)
  plain-append f (count ∷ a) b h k = plain-append f a b h k

  pub subs-append : (below : ℕ → Thing → Map → Type 0) (m : Map) (a b : List Leaf) (os ps : List OwnedQuant) → w.ShowsSubs sources below m a os → w.ShowsSubs sources below m b ps → w.ShowsSubs sources below m (a ++ b) (os ++ ps)
  subs-append below m [] b os ps h k = subst (λ z. w.ShowsSubs sources below m b (z ++ ps)) (sym h) k
  subs-append below m (sub f kind x ∷ a) b [] ps h k = absurd h
  subs-append below m (sub f kind x ∷ a) b (o ∷ os) ps h k = (h.0, h.1, h.2, h.3, subs-append below m a b os ps h.4 k)
  subs-append below m (fold f d x ∷ a) b os ps h k = subs-append below m a b os ps h k
  subs-append below m (count ∷ a) b os ps h k = subs-append below m a b os ps h k

  pub nothing : {fr : Frame} {m : Map} → Serves fr m [] none
  nothing {fr} {m} = record { plain = λ f. tt; at = λ s r. record { keeps = keeps-refl s; rising = omega arith; free = λ o q t. absurd (cc t); counts = counts-none s; ranged = λ c. tt; shows = λ c k. refl; notes = unnoted s.box; there = λ what seen are names. (refl, λ f. f) } }

  pub counted : {fr : Frame} {m : Map} → Serves fr m (count ∷ []) none
  counted {fr} {m} = record { plain = λ f. tt; at = λ s r. record { keeps = keeps-refl s; rising = omega arith; free = λ o q t. absurd (cc t); counts = counts-none s; ranged = λ c. tt; shows = λ c k. refl; notes = unnoted s.box; there = λ what seen are names. (refl, λ f. f) } }

  pub folded : {fr : Frame} {m : Map} (f : SetFunction) (d : Bool) (x : q.Value) → ((f : Frame) → leaves f x ≡ []) → Serves fr m (fold f d x ∷ []) none
  folded {fr} {m} f d x h = record { plain = λ f. (h f, tt); at = λ s r. record { keeps = keeps-refl s; rising = omega arith; free = λ o q t. absurd (cc t); counts = counts-none s; ranged = λ c. tt; shows = λ c k. refl; notes = unnoted s.box; there = λ what seen are names. (refl, λ f. f) } }

  pub both : {fr : Frame} {m : Map} {ls ks : List Leaf} {a b : Step} → Serves fr m ls a → Serves fr m ks b → Serves fr m (ls ++ ks) (in_turn a b)
  both {fr} {m} {ls} {ks} {a} {b} h k = record {
    plain = λ f. plain-append f ls ks (h.plain f) (k.plain f);
    at = λ s r.
        let x = h.at s r in
        let y = k.at (a s).boxes (ready-keeps s (a s).boxes (fr ∷ m) r x.keeps) in
        record {
          keeps = keeps-trans s (a s).boxes (b (a s).boxes).boxes x.keeps y.keeps;
          rising = rising-append s.quant (a s).boxes.quant (b (a s).boxes).boxes.quant (a s).quants (b (a s).boxes).quants x.rising y.rising;
          free = free-append s (a s).boxes (b (a s).boxes).boxes (a s).quants (b (a s).boxes).quants x.keeps y.keeps x.rising x.free y.free;
          counts = counts-append s (a s).boxes (b (a s).boxes).boxes (a s).quants (b (a s).boxes).quants x.keeps y.keeps x.counts y.counts;
          ranged = ranged-append s (a s).boxes (b (a s).boxes).boxes (a s).quants (b (a s).boxes).quants x.keeps y.keeps x.ranged y.ranged;
          shows = λ c g. subs-append (Shows c.made) m ls ks (a s).quants (b (a s).boxes).quants (x.shows c (keeps-trans (a s).boxes (b (a s).boxes).boxes c y.keeps g)) (y.shows c g);
          notes = both_noted s.box (a s).boxes.box (b (a s).boxes).boxes.box x.notes y.notes;
          there = λ what seen are names.
              let i = x.there what seen are.0 names in
              let j = y.there what seen are.1 names in
              (subs-append (IsFor what seen) m ls ks (a s).quants (b (a s).boxes).quants i.0 j.0, λ f. j.1 (i.1 f));
        };
  }

  pub within : {fr g : Frame} {m : Map} {ls : List Leaf} {a : Step} → ((n : ℕ) → UnderIn n fr → UnderIn n g) → Serves g m ls a → Serves fr m ls a
  within {fr} {g} {m} {ls} {a} part h = record { plain = h.plain; at = λ s r. h.at s (record { known = r.known; sourced = r.sourced; under = (part s.quant r.under.0, r.under.1) }) }

  pub asked : {fr : Frame} {m : Map} (kind : QuantKind) (x : Query) (lay : Boxes → Laid) → is_F kind ≡ false → ((s : Boxes) → Ready s (fr ∷ m) → Made (of_query x) (fr ∷ m) s (lay s)) → Serves fr m (sub fr kind x ∷ []) (over kind lay)
  asked {fr} {m} kind x lay e h = record {
    plain = λ f. tt;
    at = λ s r.
        let made = h s r in
        let a = lay s in
        record {
          keeps = keeps-trans s a.boxes (drawn kind a).boxes made.keeps (keeps-ranging a.top a.boxes);
          rising = (made.keeps.quants, omega arith);
          free = free-one s a.boxes kind a.top made.keeps;
          counts = counts-ranging a.top s a.boxes (drawn kind a).quants (counts-one (of_query x) (fr ∷ m) s a a.boxes.quant kind made);
          ranged = ranged-one s a.boxes kind a.top made.keeps made.known;
          shows = λ c k. (refl, e, fresh-under a.boxes.quant (fr ∷ m) (under-more s.quant a.boxes.quant (fr ∷ m) made.keeps.quants r.under), still (of_query x) (fr ∷ m) s a c made (keeps-trans a.boxes (drawn kind a).boxes c (keeps-ranging a.top a.boxes) k), refl);
          notes = made.notes (of_query x);
          there = λ what seen are names.
              let y = made.there (of_query x) (inl refl) what seen are names in
              ((refl, e, fresh-under a.boxes.quant (fr ∷ m) (under-more s.quant a.boxes.quant (fr ∷ m) made.keeps.quants r.under), y.0, refl), y.1);
        };
  }

  -- ---- a select

  pub numbered-apart : (n k : ℕ) (m : Map) (os : List OwnedQuant) → Under n m → Rising n k os → w.Numbered m os
  numbered-apart n k m os u r = (rising-distinct n k os r, rising-fresh n k m os u r)

  -- the columns of a FROM are still seen when its subqueries were made
  pub frame-later : (from : Froms) (m : Map) (s : Boxes) (f c : Drawn) → MadeFroms from m s f → Keeps f.boxes c.boxes → UnderIn c.boxes.quant (w.frame_all sources from f.quants)
  frame-later from m s f c h k = under_in-more f.boxes.quant c.boxes.quant (w.frame_all sources from f.quants) k.quants h.under

  -- the box of a select
  abbrev pub select_node : Bool → Froms → Test → (Frame → List Leaf) → (Frame → Slots → List Term) → Map → List OwnedQuant → Drawn → Node
  select_node distinct from by heads list m fs c =
      let s = w.slots_of (w.all_leaves sources from by heads fs) c.quants in
      y.plain_box c.boxes.box Select distinct (w.conds_of sources from by heads m fs s) (list (w.frame_all sources from fs) s) (fs ++ c.quants)

  pub shows-select : (distinct : Bool) (from : Froms) (by : Test) (heads : Frame → List Leaf) (list : Frame → Slots → List Term) (m : Map) (s : Boxes) (f c : Drawn) → Under s.quant m
      → MadeFroms from m s f → MadeSubs m (w.all_leaves sources from by heads f.quants) f.boxes c
      → (below : ℕ → Thing → Map → Type 0) → w.ShowsFroms sources below from m (f.quants ++ c.quants) → w.ShowsSubs sources below m (w.all_leaves sources from by heads f.quants) c.quants
      → w.ShowsSelect sources below (w.distinct_of distinct) from by heads list m (select_node distinct from by heads list m f.quants c)
  shows-select distinct from by heads list m s f c u h k below froms subs =
      let all = f.quants ++ c.quants in
      let leaves_of : List OwnedQuant → List Leaf = w.all_leaves sources from by heads in
      let fr = h.fills.frame c.quants in
      let on = h.fills.leaves c.quants in
      let past = h.fills.past c.quants in
      let leaves_same : leaves_of all ≡ leaves_of f.quants = ap₂ (λ g ls. heads g ++ (ls ++ test_leaves g by)) fr on in
      let slots = w.slots_of (leaves_of f.quants) c.quants in
      let slots_same : w.slots_of (leaves_of all) (w.past_all sources from all) ≡ slots = ap₂ (w.slots_of) leaves_same past in
      let rising = rising-append s.quant f.boxes.quant c.boxes.quant f.quants c.quants h.rising k.rising in
      record {
        kind = refl;
        plain = record { distinctness = refl; role = refl; numbered = numbered-apart s.quant c.boxes.quant m all u rising };
        froms = froms;
        subs = subst (λ ls. w.ShowsSubs sources below m ls (w.past_all sources from all)) (sym leaves_same) (subst (w.ShowsSubs sources below m (leaves_of f.quants)) (sym past) subs);
        conds = sym (ap (w.conds_of sources from by heads m all) slots_same
            ∙ ap₂ (λ a b. a ++ b)
            (h.fills.ons m (after (heads (w.frame_all sources from all)) slots) c.quants ∙ ap (λ g. w.all_ons sources m from f.quants (after (heads g) slots)) fr)
            (ap₂ (λ g ls. split (l.cond sources g m (after ls (after (heads g) slots)) by)) fr on));
        head = sym (ap₂ list fr slots_same);
      }

  -- over the boxes that were made
  pub shows-made : (distinct : Bool) (from : Froms) (by : Test) (heads : Frame → List Leaf) (list : Frame → Slots → List Term) (m : Map) (s : Boxes) (f c : Drawn) → Under s.quant m
      → MadeFroms from m s f → MadeSubs m (w.all_leaves sources from by heads f.quants) f.boxes c
      → w.ShowsSelect sources (Shows c.boxes.made) (w.distinct_of distinct) from by heads list m (select_node distinct from by heads list m f.quants c)
  shows-made distinct from by heads list m s f c u h k =
      shows-select distinct from by heads list m s f c u h k (Shows c.boxes.made) (h.shows c.boxes k.keeps c.quants) (k.shows c.boxes (keeps-refl c.boxes))

  -- over boxes that are there for what lies within
  pub there-select : (distinct : Bool) (from : Froms) (by : Test) (heads : Frame → List Leaf) (list : Frame → Slots → List Term) (m : Map) (s : Boxes) (f c : Drawn) → Under s.quant m
      → (h : MadeFroms from m s f) (k : MadeSubs m (w.all_leaves sources from by heads f.quants) f.boxes c)
      → WhereFor s c.boxes (both_noted s.box f.boxes.box c.boxes.box h.notes k.notes) (λ what seen. w.ShowsSelect sources (IsFor what seen) (w.distinct_of distinct) from by heads list m (select_node distinct from by heads list m f.quants c))
  there-select distinct from by heads list m s f c u h k what seen are names =
      let i = h.there what seen are.0 names in
      let j = k.there what seen are.1 names in
      (shows-select distinct from by heads list m s f c u h k (IsFor what seen) (i.0 c.quants) j.0, λ f. j.1 (i.1 f))

  -- ---- boxes

  -- what is shown of one thing is shown of another
  pub shows-as : (t u : Thing) (m p : Map) (b : ℕ) → ((below : ℕ → Thing → Map → Type 0) (n : Node) → n.id ≡ b → w.ShowsBox sources below t m n → w.ShowsBox sources below u p n) → (ns : List Node) → Shows ns b t m → Shows ns b u p
  shows-as t u m p b to [] h = h
  shows-as t u m p b to (n ∷ ns) h = split-as (n.id == b) refl (shows-as t u m p b to ns) h
    where
      split-as : (own : Bool) → (n.id == b) ≡ own → (Shows ns b t m → Shows ns b u p) → w.Either own (w.ShowsBox sources (Shows ns) t m n) (Shows ns b t m)
          → w.Either own (w.ShowsBox sources (Shows ns) u p n) (Shows ns b u p)
      split-as true e later h = to (Shows ns) n (eqb-true n.id b e) h
      split-as false e later h = later h

  pub derived-made : (x : Query) (m : Map) (s : Boxes) (r : Laid) → Made (of_query x) m s r → Made (of_operand (q.derived x)) m s r
  derived-made x m s r h = record { keeps = h.keeps; known = h.known; shows = shows-as (of_query x) (of_operand (q.derived x)) m m r.top (λ below n e z. z) r.boxes.made h.shows; used = h.used; top = h.top; notes = h.notes; there = λ other fit. h.there other (inr (inl fit)) }

  pub named-made : (name : List ℕ) (m : Map) (s : Boxes) → has name ≡ true → Ready s m → Made (of_operand (q.named name)) m s (record { boxes = s; top = sources.shared name })
  named-made name m s h r = record { keeps = keeps-refl s; known = r.known name h; shows = r.sourced name h m; used = λ o j l t. absurd (omega arith); top = λ j l u. u name h; notes = λ other. unnoted s.box; there = λ other fit what seen are names. (named-for what seen (sources.shared name) name other m fit (names name h), λ f. f) }

  pub block-made : (distinct : Bool) (list : Values) (from : Froms) (by : Test) (m : Map) (s : Boxes) (f c : Drawn) → Under s.quant m → MadeFroms from m s f
      → MadeSubs m (w.all_leaves sources from by (λ fr. list_leaves fr list) f.quants) f.boxes c
      → Made (of_query (q.block distinct list from by)) m s (y.select_box sources same distinct from by (λ fr. list_leaves fr list) (λ sources fr s. l.terms sources fr m s list) m f.quants c)
  block-made distinct list from by m s f c u h k =
      let heads : Frame → List Leaf = λ fr. list_leaves fr list in
      let items : Frame → Slots → List Term = λ fr s. l.terms sources fr m s list in
      let slots = w.slots_of (w.all_leaves sources from by heads f.quants) c.quants in
      let n = select_node distinct from by heads items m f.quants c in
      made-put Select distinct n.parts.conds.items n.parts.head n.quants (of_query (q.block distinct list from by)) m s c.boxes (keeps-trans s f.boxes c.boxes h.keeps k.keeps)
      (rising-append s.quant f.boxes.quant c.boxes.quant f.quants c.quants h.rising k.rising) (free-append s f.boxes c.boxes f.quants c.quants h.keeps k.keeps h.rising h.free k.free) (counts-append s f.boxes c.boxes f.quants c.quants h.keeps k.keeps h.counts k.counts)
      (ranged-append s f.boxes c.boxes f.quants c.quants h.keeps k.keeps h.ranged k.ranged) (λ some. terms-under sources c.boxes.quant some (w.frame_all sources from f.quants) m (frame-later from m s f c h k.keeps) (under-more s.quant c.boxes.quant m (keeps-trans s f.boxes c.boxes h.keeps k.keeps).quants u) slots (slots-under f.boxes.quant c.boxes.quant (w.all_leaves sources from by heads f.quants) c.quants k.rising) list)
      (shows-made distinct from by heads items m s f c u h k) (both_noted s.box f.boxes.box c.boxes.box h.notes k.notes) (there-select distinct from by heads items m s f c u h k)

  abbrev pub Flat : (ℕ → Thing → Map → Type 0) → From → Map → Node → Type 0
  Flat below x m b = w.ShowsFlat sources below x m b

  pub flat-made : (x : From) (m : Map) (s : Boxes) (f c : Drawn) → ((below : ℕ → Thing → Map → Type 0) (b : Node) → Flat below x m b → w.ShowsOperand sources below x m b) → Under s.quant m → MadeFrom x m s f
      → MadeSubs m (w.on_leaves sources x f.quants) f.boxes c → Made (of_operand x) m s (y.flat_box sources same x m f.quants c)
  flat-made x m s f c to u h k =
      let heads : Frame → List Leaf = λ fr. [] in
      let items : Frame → Slots → List Term = λ fr s. map ref_term fr in
      let n = select_node false (q.one_from x q.no_from) (q.all q.no_test) heads items m f.quants c in
      let ls = w.on_leaves sources x f.quants in
      let first : MadeFroms (q.one_from x q.no_from) m s f = froms-alone x m s f h in
      let then : MadeSubs m (w.all_leaves sources (q.one_from x q.no_from) (q.all q.no_test) heads f.quants) f.boxes c = subst (λ z. MadeSubs m z f.boxes c) (sym (append-nil (ls ++ []) ∙ append-nil ls)) k in
      made-put Select false n.parts.conds.items n.parts.head n.quants (of_operand x) m s c.boxes (keeps-trans s f.boxes c.boxes h.keeps k.keeps)
      (rising-append s.quant f.boxes.quant c.boxes.quant f.quants c.quants h.rising k.rising) (free-append s f.boxes c.boxes f.quants c.quants h.keeps k.keeps h.rising h.free k.free) (counts-append s f.boxes c.boxes f.quants c.quants h.keeps k.keeps h.counts k.counts)
      (ranged-append s f.boxes c.boxes f.quants c.quants h.keeps k.keeps h.ranged k.ranged) (λ some. refs-under c.boxes.quant (w.frame sources x f.quants ++ []) (frame-later (q.one_from x q.no_from) m s f c (froms-alone x m s f h) k.keeps))
      (to (Shows c.boxes.made) n (shows-made false (q.one_from x q.no_from) (q.all q.no_test) heads items m s f c u first then)) (both_noted s.box f.boxes.box c.boxes.box first.notes then.notes)
      (λ what seen are names. let z = there-select false (q.one_from x q.no_from) (q.all q.no_test) heads items m s f c u first then what seen are names in (to (IsFor what seen) n z.0, z.1))

  pub outer-made : (x z : From) (n : ℕ) (on : Test) (m : Map) (s : Boxes) (a : Laid) (lay : Boxes → Laid) → Ready s m → Made (of_operand x) m s a → Made (of_operand z) m a.boxes (lay a.boxes)
      → from_width sources z ≡ n → ((fr : Frame) → test_leaves fr on ≡ []) → Made (of_operand (q.left_joined x z n on)) m s (y.outer_box sources same x n on m lay a)
  outer-made x z n on m s a lay r h k e none =
      let b = lay a.boxes in
      let c = ranging b.top (ranging a.top b.boxes) in
      let fr = refs b.boxes.quant 1 (from_width sources x) ++ refs (suc b.boxes.quant) 1 n in
      let os = pair_of b.boxes.quant a.top b.top in
      let grow = keeps-trans b.boxes (ranging a.top b.boxes) c (keeps-ranging a.top b.boxes) (keeps-ranging b.top (ranging a.top b.boxes)) in
      let later = keeps-trans s a.boxes b.boxes h.keeps k.keeps in
      let shows : (below : ℕ → Thing → Map → Type 0) → below a.top (of_operand x) m → below b.top (of_operand z) m → w.ShowsOuter sources below x z n on m (y.plain_box c.box OuterJoin false (split (l.cond sources fr m no_slots on)) (map ref_term fr) os)
      = λ below i j. record {
        kind = refl;
        plain = record { distinctness = refl; role = refl; numbered = numbered-apart b.boxes.quant c.quant m os (under-more s.quant b.boxes.quant m later.quants r.under) (omega arith, (omega arith, omega arith)) };
        columns = e;
        quants = (refl, refl, record { left = i; right = j; on = none fr; conds = refl; head = refl });
      } in
      made-put OuterJoin false (split (l.cond sources fr m no_slots on)) (map ref_term fr) os (of_operand (q.left_joined x z n on)) m s c (keeps-trans s b.boxes c later grow)
      (rising-from s.quant b.boxes.quant c.quant os later.quants (omega arith, (omega arith, omega arith))) (free-pair s b.boxes a.top b.top later)
      (counts-ranging b.top s (ranging a.top b.boxes) os (counts-ranging a.top s b.boxes os (counts-append s a.boxes b.boxes (record { id = b.boxes.quant; kind = F; over = a.top } ∷ []) (record { id = suc b.boxes.quant; kind = F; over = b.top } ∷ []) h.keeps k.keeps
      (counts-one (of_operand x) m s a b.boxes.quant F h) (counts-one (of_operand z) m a.boxes b (suc b.boxes.quant) F k))))
      (ranged-two s a.boxes b.boxes a.top b.top later (let z = h.known in let y = k.keeps.boxes in omega arith) k.known)
      (λ some. refs-under c.quant fr (under_in-append c.quant (refs b.boxes.quant 1 (from_width sources x)) (refs (suc b.boxes.quant) 1 n) (under_in-refs c.quant b.boxes.quant 1 (from_width sources x) (omega arith)) (under_in-refs c.quant (suc b.boxes.quant) 1 n (omega arith))))
      (shows (Shows c.made) (still (of_operand x) m s a c h (keeps-trans a.boxes b.boxes c k.keeps grow)) (still (of_operand z) m a.boxes b c k grow)) (both_noted s.box a.boxes.box b.boxes.box (h.notes (of_operand x)) (k.notes (of_operand z)))
      (λ what seen are names.
      let i = h.there (of_operand x) refl what seen are.0 names in
      let j = k.there (of_operand z) refl what seen are.1 names in
      (shows (IsFor what seen) i.0 j.0, λ f. j.1 (i.1 f)))

  pub two-made : (x z t : Query) (form : forms.SetOperator) (n : ℕ) (m : Map) (s : Boxes) (a : Laid) (lay : Boxes → Laid) → Ready s m → Made (of_query x) m s a → Made (of_query z) m a.boxes (lay a.boxes)
      → width x ≡ n → width z ≡ n
      → ((below : ℕ → Thing → Map → Type 0) (b : Node) → w.ShowsPair sources below form n x z m b → w.ShowsQuery sources below t m b) → Made (of_query t) m s (y.two_box sources same form n lay a)
  two-made x z t form n m s a lay r h k left right to =
      let b = lay a.boxes in
      let c = ranging b.top (ranging a.top b.boxes) in
      let os = pair_of b.boxes.quant a.top b.top in
      let kind = SetOp form (map sources.typed (w.columns_of b.boxes.quant 1 n)) in
      let grow = keeps-trans b.boxes (ranging a.top b.boxes) c (keeps-ranging a.top b.boxes) (keeps-ranging b.top (ranging a.top b.boxes)) in
      let later = keeps-trans s a.boxes b.boxes h.keeps k.keeps in
      let shows : (below : ℕ → Thing → Map → Type 0) → below a.top (of_query x) m → below b.top (of_query z) m → w.ShowsQuery sources below t m (y.plain_box c.box kind false [] [] os)
      = λ below i j. to below (y.plain_box c.box kind false [] [] os) (record {
        kind = refl;
        plain = record { distinctness = refl; role = refl; numbered = numbered-apart b.boxes.quant c.quant m os (under-more s.quant b.boxes.quant m later.quants r.under) (omega arith, (omega arith, omega arith)) };
        bare = (refl, refl);
        left = left;
        right = right;
        quants = (refl, refl, (i, j));
      }) in
      made-put kind false [] [] os (of_query t) m s c (keeps-trans s b.boxes c later grow)
      (rising-from s.quant b.boxes.quant c.quant os later.quants (omega arith, (omega arith, omega arith))) (free-pair s b.boxes a.top b.top later)
      (counts-ranging b.top s (ranging a.top b.boxes) os (counts-ranging a.top s b.boxes os (counts-append s a.boxes b.boxes (record { id = b.boxes.quant; kind = F; over = a.top } ∷ []) (record { id = suc b.boxes.quant; kind = F; over = b.top } ∷ []) h.keeps k.keeps
      (counts-one (of_query x) m s a b.boxes.quant F h) (counts-one (of_query z) m a.boxes b (suc b.boxes.quant) F k))))
      (ranged-two s a.boxes b.boxes a.top b.top later (let z = h.known in let y = k.keeps.boxes in omega arith) k.known) (λ some. tt)
      (shows (Shows c.made) (still (of_query x) m s a c h (keeps-trans a.boxes b.boxes c k.keeps grow)) (still (of_query z) m a.boxes b c k grow)) (both_noted s.box a.boxes.box b.boxes.box (h.notes (of_query x)) (k.notes (of_query z)))
      (λ what seen are names.
      let i = h.there (of_query x) (inl refl) what seen are.0 names in
      let j = k.there (of_query z) (inl refl) what seen are.1 names in
      (shows (IsFor what seen) i.0 j.0, λ f. j.1 (i.1 f)))

  -- ---- groups

  -- the arguments of aggregates are the same, wherever the columns of the groups are seen
  pub arguments-same : (fr : Frame) (ls : List Leaf) → w.argument_terms sources fr (folds_in ls) ≡ w.argument_terms sources fr ls
  arguments-same fr [] = refl
  arguments-same fr (sub f kind x ∷ ls) = arguments-same fr ls
  arguments-same fr (fold f d x ∷ ls) = ap (λ ts. l.term sources fr [] no_slots x ∷ ts) (arguments-same fr ls)
  arguments-same fr (count ∷ ls) = arguments-same fr ls

  pub folds-same : (q j : ℕ) (ls : List Leaf) → fold_terms q j (folds_in ls) ≡ fold_terms q j ls
  folds-same q j [] = refl
  folds-same q j (sub f kind x ∷ ls) = folds-same q j ls
  folds-same q j (fold f d x ∷ ls) = ap (λ ts. t.fold (w.aggregate f) (w.taken d) (col q j) ∷ ts) (folds-same q (suc j) ls)
  folds-same q j (count ∷ ls) = ap (λ ts. count_all ∷ ts) (folds-same q j ls)

  pub rows-made : (from : Froms) (by : Test) (places : List ℕ) (ks ls : List Leaf) (m : Map) (s : Boxes) (f c : Drawn) → folds_in ks ≡ folds_in ls → Under s.quant m → ((fr : Frame) → PlainArguments fr ls) → MadeFroms from m s f
      → MadeSubs m (w.all_leaves sources from by (λ fr. []) f.quants) f.boxes c
      → Made (of_rows from by places ls) m s (y.select_box sources same false from by (λ fr. []) (λ sources. w.rows_list sources places ks) m f.quants c)
  rows-made from by places ks ls m s f c alike u plain h k =
      let heads : Frame → List Leaf = λ fr. [] in
      let items : Frame → Slots → List Term = w.rows_list sources places ls in
      let n = select_node false from by heads items m f.quants c in
      let fr = w.frame_all sources from f.quants in
      let arguments : w.argument_terms sources fr ks ≡ w.argument_terms sources fr ls = sym (arguments-same fr ks) ∙ ap (w.argument_terms sources fr) alike ∙ arguments-same fr ls in
      let head : List Term → List Term = λ ts. w.padded (int (pos 1)) (map (λ place. ref_term (get_or fr place maps.nothing)) places ++ ts) in
      subst (λ ts. Made (of_rows from by places ls) m s (put Select false n.parts.conds.items (head ts) n.quants c.boxes)) (sym arguments)
      (made-put Select false n.parts.conds.items n.parts.head n.quants (of_rows from by places ls) m s c.boxes (keeps-trans s f.boxes c.boxes h.keeps k.keeps)
      (rising-append s.quant f.boxes.quant c.boxes.quant f.quants c.quants h.rising k.rising) (free-append s f.boxes c.boxes f.quants c.quants h.keeps k.keeps h.rising h.free k.free) (counts-append s f.boxes c.boxes f.quants c.quants h.keeps k.keeps h.counts k.counts)
      (ranged-append s f.boxes c.boxes f.quants c.quants h.keeps k.keeps h.ranged k.ranged) (λ some. rows-under sources c.boxes.quant some fr (frame-later from m s f c h k.keeps) places ls (w.slots_of (w.all_leaves sources from by heads f.quants) c.quants))
      (record { arguments = plain (w.frame_all sources from n.quants); rows = shows-made false from by heads items m s f c u h k }) (both_noted s.box f.boxes.box c.boxes.box h.notes k.notes)
      (λ what seen are names. let z = there-select false from by heads items m s f c u h k what seen are names in (record { arguments = plain (w.frame_all sources from n.quants); rows = z.0 }, z.1)))

  pub groups-made : (from : Froms) (by : Test) (places : List ℕ) (ks ls : List Leaf) (m : Map) (s : Boxes) (r : Laid) → folds_in ks ≡ folds_in ls → Under s.quant m → Made (of_rows from by places ls) m s r
      → Made (of_groups from by places ls) m s (y.group_box sources same places ks r)
  groups-made from by places ks ls m s r alike u h =
      let g = r.boxes.quant in
      let c = (drawn F r).boxes in
      let folds : fold_terms g (suc (length places)) ks ≡ fold_terms g (suc (length places)) ls = sym (folds-same g (suc (length places)) ks) ∙ ap (fold_terms g (suc (length places))) alike ∙ folds-same g (suc (length places)) ls in
      let shows : (below : ℕ → Thing → Map → Type 0) → below r.top (of_rows from by places ls) m → w.ShowsGroups sources below from by places ls m (y.plain_box c.box (Group (length places)) false [] (w.groups_list places ls g) (drawn F r).quants)
      = λ below i. record {
        kind = refl;
        plain = record { distinctness = refl; role = refl; numbered = numbered-apart g c.quant m (drawn F r).quants (under-more s.quant g m h.keeps.quants u) (omega arith, omega arith) };
        conds = refl;
        quants = (refl, (i, refl));
      } in
      subst (λ ts. Made (of_groups from by places ls) m s (put (Group (length places)) false [] (columns_of g 1 (length places) ++ ts) (drawn F r).quants c)) (sym folds)
      (made-put (Group (length places)) false [] (w.groups_list places ls g) (drawn F r).quants (of_groups from by places ls) m s c
      (keeps-trans s r.boxes c h.keeps (keeps-ranging r.top r.boxes)) (rising-from s.quant g c.quant (drawn F r).quants h.keeps.quants (omega arith, omega arith)) (free-one s r.boxes F r.top h.keeps)
      (counts-ranging r.top s r.boxes (drawn F r).quants (counts-one (of_rows from by places ls) m s r g F h)) (ranged-one s r.boxes F r.top h.keeps h.known)
      (λ some. groups-under c.quant g (length places) (suc (length places)) ls (omega arith))
      (shows (Shows c.made) (still (of_rows from by places ls) m s r c h (keeps-ranging r.top r.boxes))) (h.notes (of_rows from by places ls))
      (λ what seen are names. let z = h.there (of_rows from by places ls) refl what seen are names in (shows (IsFor what seen) z.0, z.1)))

  abbrev pub upper_leaves : Frame → Values → Test → List Leaf
  upper_leaves = w.upper_leaves

  pub upper-made : (distinct : Bool) (list : Values) (from : Froms) (by : Test) (places : Option (List ℕ)) (n : ℕ) (having : Test) (m : Map) (s : Boxes) (g : Laid) (c : Drawn) → Under s.quant m → HasKey places
      → froms_width sources from ≡ n
      → Made (of_groups from by (key_places places) (upper_leaves (key_frame g.boxes.quant (key_places places) 0 n) list having)) m s g
      → MadeSubs m (upper_leaves (key_frame g.boxes.quant (key_places places) 0 n) list having) (drawn F g).boxes c
      → Made (of_query (q.grouped distinct list from by places n having)) m s (y.upper_box sources same distinct list (key_places places) n having m g.boxes.quant g.top c)
  upper-made distinct list from by places n having m s g c u key e h k =
      let fr = key_frame g.boxes.quant (key_places places) 0 n in
      let ls = upper_leaves fr list having in
      let t = w.upper_slots g.boxes.quant (suc (length (key_places places))) ls c.quants in
      let one : List OwnedQuant = record { id = g.boxes.quant; kind = F; over = g.top } ∷ [] in
      let os = one ++ c.quants in
      let d = (drawn F g).boxes in
      let first = keeps-trans s g.boxes d h.keeps (keeps-ranging g.top g.boxes) in
      let rises : Rising s.quant d.quant one = (h.keeps.quants, omega arith) in
      let rising : Rising s.quant c.boxes.quant os = rising-append s.quant d.quant c.boxes.quant one c.quants rises k.rising in
      let conds : List Cond = split (l.cond sources fr m (after (list_leaves fr list) t) having) in
      let shows : (below : ℕ → Thing → Map → Type 0) → below g.top (of_groups from by (key_places places) ls) m → w.ShowsSubs sources below m ls c.quants → w.ShowsGrouped sources below distinct list from by places n having m (y.plain_box c.boxes.box Select distinct conds (l.terms sources fr m t list) os)
      = λ below i j. record {
        kind = refl;
        plain = record { distinctness = refl; role = refl; numbered = numbered-apart s.quant c.boxes.quant m os u rising };
        key = key;
        columns = e;
        upper = record { kind = refl; groups = i; subs = j; conds = refl; head = refl };
      } in
      made-put Select distinct conds (l.terms sources fr m t list) os (of_query (q.grouped distinct list from by places n having)) m s c.boxes
      (keeps-trans s d c.boxes first k.keeps) rising (free-append s d c.boxes one c.quants first k.keeps rises (free-one s g.boxes F g.top h.keeps) k.free)
      (counts-append s d c.boxes one c.quants first k.keeps (counts-ranging g.top s g.boxes one (counts-one (of_groups from by (key_places places) ls) m s g g.boxes.quant F h)) k.counts)
      (ranged-append s d c.boxes one c.quants first k.keeps (ranged-one s g.boxes F g.top h.keeps h.known) k.ranged)
      (λ some.
      let low : suc g.boxes.quant ≤ c.boxes.quant = k.keeps.quants in
      terms-under sources c.boxes.quant some fr m (under-keys c.boxes.quant g.boxes.quant (key_places places) 0 n (omega arith)) (under-more s.quant c.boxes.quant m (keeps-trans s d c.boxes first k.keeps).quants u) t
      (upper_slots-under d.quant c.boxes.quant g.boxes.quant (suc (length (key_places places))) ls c.quants (omega arith) k.rising) list)
      (shows (Shows c.boxes.made) (still (of_groups from by (key_places places) ls) m s g c.boxes h (keeps-trans g.boxes d c.boxes (keeps-ranging g.top g.boxes) k.keeps)) (k.shows c.boxes (keeps-refl c.boxes)))
      (both_noted s.box g.boxes.box c.boxes.box (h.notes (of_groups from by (key_places places) ls)) k.notes)
      (λ what seen are names.
      let i = h.there (of_groups from by (key_places places) ls) refl what seen are.0 names in
      let j = k.there what seen are.1 names in
      (shows (IsFor what seen) i.0 j.0, λ f. j.1 (i.1 f)))
