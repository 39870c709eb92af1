-- A split keeps the root's bag: M1 takes it back.
use Rattle.std.proofs.Common.{ℕ, ◌==◌, ◌≡◌, ◌||◌, cond, Bool, true, false, List, [], ◌∷◌, ◌++◌, map, refl, sym, ap, ap₂, subst, ◌∙◌, eqb-true, inl, inr}
use Rattle.std.specs.List.{list_any, list_all}
use Rattle.std.proofs.lemmas.Bool.{cases_Bool}
use Rattle.row_bag.specs.declared.tables.Table.{Table}
use Rattle.qgm_core.specs.Boxes.{has_box, overs_in}
use Rattle.qgm_core.specs.Edits.{range}
use Rattle.list_laws.specs.Lists.{In, times}
use Rattle.qgm_core.specs.declared.kinds.QuantKind.TheVariants.{F}
use Rattle.qgm_core.specs.declared.node.Node.{Node}
use Rattle.qgm_core.specs.declared.owned.OwnedQuant.{OwnedQuant}
use Rattle.qgm_meaning.specs.Meaning.{bag_in}
use Rattle.qgm_meaning.specs.Scope.{put_node}
use Rattle.qgm_meaning.specs.Searches.{bare, names_cond}
use Rattle.qgm_meaning.specs.Tags.{columns_from}
use Rattle.qgm_meaning.specs.Values.{Environment}
use Rattle.qgm_terms.specs.Terms.{Cond, Term}
use Rattle.qgm_terms.specs.Wanted.{any_in_cond}
use Rattle.qgm_edit_laws.specs.Graph.{Sound}
use Rattle.rule_merge.specs.Merged.{Merges, merge_node, merged}
use Rattle.qgm_edit_laws.proofs.Edits.{boxes_without, map-append}
use Rattle.rule_merge.proofs.MergeSelectMeans.{merge-bag}
use Rattle.qgm_edit_laws.proofs.Ranks.{same-box}
use Rattle.qgm_edit_laws.proofs.ShapePut.{bare-cell}
use Rattle.rule_feed.specs.Split.{MaySplit, SplitBags, heads, into, renamed_node, split_box, split_boxes, split_node, split_owner, strays}
use Rattle.rule_feed.proofs.FeedLists.{bare-columns}
use Rattle.rule_feed.proofs.SplitNames.{conds-back, heads-back}
use Rattle.list_laws.proofs.Booleans.{neither-left, neither-right}
use Rattle.qgm_core.proofs.Reaching.{in-has}
use Rattle.list_laws.proofs.Membership.{eq-false-sym, eq-itself, in-append, in-left, in-right, map-in, other}

bare-append : (xs ys : List Term) → list_all bare xs ≡ true → list_all bare ys ≡ true → list_all bare (xs ++ ys) ≡ true
bare-append [] ys h k = k
bare-append (x ∷ xs) ys h k = let u = Rattle.std.proofs.lemmas.Bool.and_parts (bare x) (list_all bare xs) h in Rattle.std.proofs.lemmas.Bool.and_from (bare x) (list_all bare (xs ++ ys)) u.0 (bare-append xs ys u.1 k)

bare-heads : (ws : List (ℕ × ℕ)) → list_all bare (heads ws) ≡ true
bare-heads [] = refl
bare-heads (p ∷ ws) = bare-append (columns_from p.0 1 p.1) (heads ws) (bare-columns p.0 p.1 1) (bare-heads ws)

any-split : (f : Cond → Bool) (xs ys : List Cond) → list_any f (xs ++ ys) ≡ false → list_any f xs ≡ false
any-split f [] ys h = refl
any-split f (x ∷ xs) ys h = ap₂ (λ (a b : Bool). a || b) (neither-left (f x) (list_any f (xs ++ ys)) h) (any-split f xs ys (neither-right (f x) (list_any f (xs ++ ys)) h))

module _ (xs ys : List Node) (root : ℕ) (b : Node) (ws : List (ℕ × ℕ)) (q s : ℕ) (us ps vs : List OwnedQuant) (rest taken : List Cond) (m : MaySplit xs ys b ws q s us ps vs rest taken)
    (w : Sound (split_boxes xs ys ws b.id q s us ps vs rest taken) root) (one : times s (overs_in (split_boxes xs ys ws b.id q s us ps vs rest taken)) ≡ 1) (ord : (y : Node) → In y (xs ++ ys) → (y.id == b.id) ≡ true → y ≡ b) where
  abbrev f : Node → Node
  f = split_node ws b.id q us (range q F s ∷ vs) rest

  abbrev hs : List Node
  hs = split_boxes xs ys ws b.id q s us ps vs rest taken

  abbrev nb : Node
  nb = split_owner ws q us (range q F s ∷ vs) rest b

  abbrev nc : Node
  nc = split_box s ws ps taken

  abbrev rq : OwnedQuant
  rq = range q F s

  f-b : (y : Node) → (y.id == b.id) ≡ true → f y ≡ split_owner ws q us (range q F s ∷ vs) rest y
  f-b y t = ap (λ (z : Bool). cond z (split_owner ws q us (range q F s ∷ vs) rest y) (renamed_node (into ws q) y)) t

  f-other : (y : Node) → (y.id == b.id) ≡ false → f y ≡ renamed_node (into ws q) y
  f-other y t = ap (λ (z : Bool). cond z (split_owner ws q us (range q F s ∷ vs) rest y) (renamed_node (into ws q) y)) t

  f-id : (y : Node) → (f y).id ≡ y.id
  f-id y = elim (cases_Bool (y.id == b.id)) [ inl t ↦ ap (λ (z : Node). z.id) (f-b y t) | inr t ↦ ap (λ (z : Node). z.id) (f-other y t) ]

  there : (y : Node) → In y (xs ++ ys) → In (f y) hs
  there y j = elim (in-append y xs ys j) [
    | inl a ↦ in-left (f y) (map f xs) (nc ∷ map f ys) (map-in f y xs a)
    | inr a ↦ in-right (f y) (map f xs) (nc ∷ map f ys) (inr (map-in f y ys a))
  ]

  merges : Merges hs nb nc us rq vs
  merges = record {
    in_b = subst (λ (z : Node). In z hs) (f-b b (eq-itself b.id)) (there b m.in_b);
    in_c = in-right nc (map f xs) (nc ∷ map f ys) (inl refl);
    split = refl;
    is_f = refl;
    over_c = refl;
    select_b = m.a_select;
    select_c = refl;
    one_use = one;
    not_enforced = refl;
    naked = λ y j u k r. bare-cell (heads ws) k (bare-heads ws);
  }

  -- what M1 makes of a box
  abbrev g : Node → Node
  g = merge_node b.id q nc (us ++ (ps ++ vs))

  back : (y : Node) → In y (xs ++ ys) → g (f y) ≡ y
  back y j = elim (cases_Bool (y.id == b.id)) [
    | inl t ↦ (
        let e = ord y j t in
        ap g (f-b y t) ∙ ap (λ (z : Bool). cond z (merged q nc (us ++ (ps ++ vs)) (split_owner ws q us (range q F s ∷ vs) rest y)) (put_node q (heads ws) (split_owner ws q us (range q F s ∷ vs) rest y))) t
        ∙ ap (λ (z : Node). merged q nc (us ++ (ps ++ vs)) (split_owner ws q us (range q F s ∷ vs) rest z)) e ∙ owner-back ∙ sym e)
    | inr t ↦ (
        let n = m.not_q y j in
        let u = m.fit y j in
        ap g (f-other y t) ∙ ap (λ (z : Bool). cond z (merged q nc (us ++ (ps ++ vs)) (renamed_node (into ws q) y)) (put_node q (heads ws) (renamed_node (into ws q) y))) t
        ∙ ap₂ (λ (h : List Term) (c : List Cond). record y { parts = record y.parts { head = h; conds = record y.parts.conds { items = c } } })
        (heads-back ws q y.parts.head n.0 u.0) (conds-back ws q y.parts.conds.items n.1 u.1))
  ]
    where
      owner-back : merged q nc (us ++ (ps ++ vs)) (split_owner ws q us (range q F s ∷ vs) rest b) ≡ b
      owner-back =
          let n = m.not_q b m.in_b in
          let u = m.fit b m.in_b in
          ap₂ (λ (h : List Term) (c : List Cond). record b { parts = record b.parts { head = h; conds = record b.parts.conds { items = c } }; quants = us ++ (ps ++ vs) })
          (heads-back ws q b.parts.head n.0 u.0)
          (ap (λ (z : List Cond). z ++ taken) (conds-back ws q rest (any-split (names_cond q) rest taken (subst (λ z. list_any (names_cond q) z ≡ false) m.conds n.1)) (any-split (any_in_cond (strays ws q)) rest taken (subst (λ z. list_any (any_in_cond (strays ws q)) z ≡ false) m.conds u.1))) ∙ sym m.conds)
          ∙ ap (λ (z : List OwnedQuant). record b { quants = z }) (sym m.quants)

  apart : (y : Node) → In y (xs ++ ys) → ((f y).id == s) ≡ false
  apart y j = ap (λ z. z == s) (f-id y) ∙ eq-false-sym s y.id (other (has_box (xs ++ ys)) s y.id m.new_s (in-has y (xs ++ ys) j))

  dropped-not : (n : Node) → (n.id == s) ≡ false → (ns : List Node) → boxes_without s (n ∷ ns) ≡ n ∷ boxes_without s ns
  dropped-not n h ns = ap (λ (t : Bool). cond t (boxes_without s ns) (n ∷ boxes_without s ns)) h

  without : (ks : List Node) → ((y : Node) → In y ks → In y (xs ++ ys)) → (ls : List Node) → boxes_without s (map f ks ++ ls) ≡ map f ks ++ boxes_without s ls
  without [] sub ls = refl
  without (k ∷ ks) sub ls = dropped-not (f k) (apart k (sub k (inl refl))) (map f ks ++ ls) ∙ ap (λ (z : List Node). f k ∷ z) (without ks (λ y j. sub y (inr j)) ls)

  without-all : (ks : List Node) → ((y : Node) → In y ks → In y (xs ++ ys)) → boxes_without s (map f ks) ≡ map f ks
  without-all [] sub = refl
  without-all (k ∷ ks) sub = dropped-not (f k) (apart k (sub k (inl refl))) (map f ks) ∙ ap (λ (z : List Node). f k ∷ z) (without-all ks (λ y j. sub y (inr j)))

  back-all : (ks : List Node) → ((y : Node) → In y ks → In y (xs ++ ys)) → map g (map f ks) ≡ ks
  back-all [] sub = refl
  back-all (k ∷ ks) sub = ap₂ (λ (a : Node) (b : List Node). a ∷ b) (back k (sub k (inl refl))) (back-all ks (λ y j. sub y (inr j)))

  gone : map g (boxes_without s hs) ≡ xs ++ ys
  gone =
      ap (map g) (without xs (λ y j. in-left y xs ys j) (nc ∷ map f ys)
      ∙ ap (λ (z : List Node). map f xs ++ z) (ap (λ (t : Bool). cond t (boxes_without s (map f ys)) (nc ∷ boxes_without s (map f ys))) (eq-itself s) ∙ without-all ys (λ y j. in-right y xs ys j)))
      ∙ map-append g (map f xs) (map f ys)
      ∙ ap₂ (λ (a c : List Node). a ++ c) (back-all xs (λ y j. in-left y xs ys j)) (back-all ys (λ y j. in-right y xs ys j))

  pub split-bag : (tables : List Table) (e : Environment) → bag_in tables hs root e ≡ bag_in tables (xs ++ ys) root e
  split-bag tables e = sym (merge-bag tables hs root w nb nc us rq vs merges e) ∙ ap (λ (z : List Node). bag_in tables z root e) gone

pub split-bags : SplitBags
split-bags = λ xs ys root b ws q s us ps vs rest taken o m w one tables e.
    split-bag xs ys root b ws q s us ps vs rest taken m w one (λ y j t. same-box (xs ++ ys) y b o j m.in_b (eqb-true y.id b.id t)) tables e
