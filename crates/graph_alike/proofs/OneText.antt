-- Graphs that differ in numbers alone have one text.
use Rattle.std.proofs.Common.{ℕ, suc, ◌≡◌, ◌++◌, Bool, List, [], ◌∷◌, None, refl, sym, ap, ap₂, ◌∙◌}
use Rattle.std.specs.Prelude.{codes, decimal}
use Rattle.std.specs.List.{flat_map}
use Rattle.graph_print.specs.GraphText.{box_line, box_lines, box_order, cell_line, closed_word, cond_line, cond_word, head_lines, kind_text, kind_word, lines_of, out_line, order_line, part_lines, quant_line, quant_order, text_of, type_word}
use Rattle.graph_print.specs.Places.{place_in}
use Rattle.graph_alike.proofs.Along.{Along, more, none, same-place}
use Rattle.graph_alike.proofs.LikeText.{like-cond-text, like-text, like-type}
use Rattle.graph_alike.proofs.Meeting.{Both, boxes-along, closed-met, first-at, found, lookups-met, met-ids, met-like, quants-along, second-at}
use Rattle.list_laws.specs.Lists.{EachOnce, In}
use Rattle.qgm_core.specs.Boxes.{QueryGraph, numbers}
use Rattle.qgm_core.specs.Free.{free}
use Rattle.qgm_core.specs.declared.kinds.BoxKind.{BoxKind}
use Rattle.qgm_core.specs.declared.kinds.BoxKind.TheVariants.{Base, Select, Group, SetOp, OuterJoin}
use Rattle.qgm_core.specs.declared.node.Node.{Node}
use Rattle.qgm_core.specs.declared.owned.OwnedQuant.{OwnedQuant}
use Rattle.qgm_terms.specs.Terms.{Cond, Term}
use Rattle.graph_alike.specs.Alike.{Like, LikeBox, LikeCond, LikeConds, LikeHeads, LikeQuants, Meets, OwnedAt, SameButNumbers, Stands}
use Rattle.graph_alike.specs.Alike as k
use Rattle.qgm_wellformed.specs.Types.{lookup_of}
use Rattle.qgm_wellformed.specs.WellFormed.{fault, is_empty}
use Rattle.qgm_edit_laws.proofs.Formed.{sound-checked}
use Rattle.graph_alike.specs.OneToOne.{AreOneToOne}

box-line-same : (a b : ℕ) (c d : Bool) (n m : Node) → a ≡ b → c ≡ d → n.parts.kind ≡ m.parts.kind → n.parts.distinct ≡ m.parts.distinct → n.parts.role ≡ m.parts.role → box_line a c n ≡ box_line b d m
unfolding box_line
box-line-same a b c d n m e f x y z =
    ap (λ u. codes "box " ++ decimal u ++ kind_text n.parts.kind n.parts.distinct n.parts.role ++ closed_word c ++ codes "\n") e
    ∙ ap (λ u. codes "box " ++ decimal b ++ kind_text n.parts.kind n.parts.distinct n.parts.role ++ closed_word u ++ codes "\n") f
    ∙ ap (λ u. codes "box " ++ decimal b ++ kind_text u n.parts.distinct n.parts.role ++ closed_word d ++ codes "\n") x
    ∙ ap₂ (λ u v. codes "box " ++ decimal b ++ kind_text m.parts.kind u v ++ closed_word d ++ codes "\n") y z

module _ (g h : QueryGraph) (w : Both g h) where
  abbrev S : ℕ → ℕ → Type 0
  S = Stands g h

  box-place : (a b : ℕ) → Meets g h a b → place_in (box_order g) a ≡ place_in (box_order h) b
  box-place a b c = same-place (Meets g h) w.one.boxes (box_order g) (box_order h) a b (boxes-along g h w) c

  quant-place : (q p : ℕ) → S q p → place_in (quant_order g) q ≡ place_in (quant_order h) p
  quant-place q p s = same-place S w.one.quants (quant_order g) (quant_order h) q p (quants-along g h w) s

  quant-word : (q p : ℕ) → S q p → decimal (place_in (quant_order g) q) ≡ decimal (place_in (quant_order h) p)
  quant-word q p s = ap decimal (quant-place q p s)

  quant-same : (o p : OwnedQuant) → o.kind ≡ p.kind → S o.id p.id → Meets g h o.over p.over → quant_line (box_order g) (quant_order g) o ≡ quant_line (box_order h) (quant_order h) p
  unfolding quant_line
  quant-same o p e s c =
      ap (λ u. codes "quant " ++ u ++ kind_word o.kind ++ decimal (place_in (box_order g) o.over) ++ codes "\n") (quant-word o.id p.id s)
      ∙ ap₂ (λ u v. codes "quant " ++ decimal (place_in (quant_order h) p.id) ++ kind_word u ++ decimal v ++ codes "\n") e (box-place o.over p.over c)

  quants-same : (os ps : List OwnedQuant) → LikeQuants S os ps → ((i : ℕ) (o p : OwnedQuant) → OwnedAt i o os → OwnedAt i p ps → Meets g h o.over p.over)
      → flat_map (quant_line (box_order g) (quant_order g)) os ≡ flat_map (quant_line (box_order h) (quant_order h)) ps
  quants-same [] [] l f = refl
  quants-same [] (p ∷ ps) l f = absurd l
  quants-same (o ∷ os) [] l f = absurd l
  quants-same (o ∷ os) (p ∷ ps) l f = ap₂ (λ u v. u ++ v) (quant-same o p l.0 l.1 (f 0 o p refl refl)) (quants-same os ps l.2 (λ i u v x y. f (suc i) u v x y))

  cond-same : (kind : BoxKind) (c d : Cond) → LikeCond S c d → cond_line (quant_order g) kind c ≡ cond_line (quant_order h) kind d
  unfolding cond_line
  cond-same kind c d l = ap (λ u. cond_word kind ++ u ++ codes "\n") (like-cond-text S (place_in (quant_order g)) (place_in (quant_order h)) quant-word c d l)

  conds-same : (kind : BoxKind) (cs ds : List Cond) → LikeConds S cs ds → flat_map (cond_line (quant_order g) kind) cs ≡ flat_map (cond_line (quant_order h) kind) ds
  conds-same kind [] [] l = refl
  conds-same kind [] (d ∷ ds) l = absurd l
  conds-same kind (c ∷ cs) [] l = absurd l
  conds-same kind (c ∷ cs) (d ∷ ds) l = ap₂ (λ u v. u ++ v) (cond-same kind c d l.0) (conds-same kind cs ds l.1)

  cell-same : (x y : Term) → Like S x y → cell_line (lookup_of g.boxes) (quant_order g) x ≡ cell_line (lookup_of h.boxes) (quant_order h) y
  unfolding cell_line
  cell-same x y l =
      ap₂ (λ u v. codes "head " ++ type_word u ++ codes " " ++ v ++ codes "\n") (like-type S (lookup_of g.boxes) (lookup_of h.boxes) (λ q p j s. lookups-met g h w q p j s) x y l)
      (like-text S (place_in (quant_order g)) (place_in (quant_order h)) quant-word x y l)

  cells-same : (xs ys : List Term) → LikeHeads S xs ys → flat_map (cell_line (lookup_of g.boxes) (quant_order g)) xs ≡ flat_map (cell_line (lookup_of h.boxes) (quant_order h)) ys
  cells-same [] [] l = refl
  cells-same [] (y ∷ ys) l = absurd l
  cells-same (x ∷ xs) [] l = absurd l
  cells-same (x ∷ xs) (y ∷ ys) l = ap₂ (λ u v. u ++ v) (cell-same x y l.0) (cells-same xs ys l.1)

  head-same : (kind : BoxKind) (xs ys : List Term) → LikeHeads S xs ys → head_lines (lookup_of g.boxes) (quant_order g) kind xs ≡ head_lines (lookup_of h.boxes) (quant_order h) kind ys
  head-same (Base table) xs ys l = refl
  head-same Select xs ys l = cells-same xs ys l
  head-same (Group keys) xs ys l = cells-same xs ys l
  head-same (SetOp form types) xs ys l = refl
  head-same OuterJoin xs ys l = cells-same xs ys l

  parts-same : (n m : Node) → In n g.boxes → In m h.boxes → Meets g h n.id m.id → LikeBox S n m
      → part_lines (lookup_of g.boxes) (box_order g) (quant_order g) n ≡ part_lines (lookup_of h.boxes) (box_order h) (quant_order h) m
  unfolding part_lines
  parts-same n m i j c l =
      ap₂ (λ u v. u ++ v)
      (ap₂ (λ u v. u ++ v) (quants-same n.quants m.quants l.quants (λ e o p x y. k.under n m e o p c i j x y))
      (conds-same n.parts.kind n.parts.conds.items m.parts.conds.items l.conds ∙ ap (λ z. flat_map (cond_line (quant_order h) z) m.parts.conds.items) l.kind))
      (head-same n.parts.kind n.parts.head m.parts.head l.head ∙ ap (λ z. head_lines (lookup_of h.boxes) (quant_order h) z m.parts.head) l.kind)

  lines-same : (a b : ℕ) → Meets g h a b → box_lines g a ≡ box_lines h b
  unfolding box_lines
  lines-same a b c =
      let f = found g h w a b c in
      let l = met-like g h w a b c in
      ap (lines_of g a) (first-at g h w a b c)
      ∙ ap₂ (λ u v. u ++ v) (box-line-same (place_in (box_order g) a) (place_in (box_order h) b) (is_empty (free a g)) (is_empty (free b h)) f.n f.m (box-place a b c) (closed-met g h w a b c) l.kind l.distinct l.role)
      (parts-same f.n f.m f.in_g f.in_h (met-ids g h w a b c) l)
      ∙ sym (ap (lines_of h b) (second-at g h w a b c))

  all-lines : (bs cs : List ℕ) → Along (Meets g h) bs cs → flat_map (box_lines g) bs ≡ flat_map (box_lines h) cs
  all-lines [] [] none = refl
  all-lines [] (c ∷ cs) l = elim l [ ]
  all-lines (b ∷ bs) [] l = elim l [ ]
  all-lines (b ∷ bs) (c ∷ cs) (more _ _ _ _ r l) = ap₂ (λ u v. u ++ v) (lines-same b c r) (all-lines bs cs l)

  pub one-text : text_of g ≡ text_of h
  one-text = ap₂ (λ u v. u ++ v) (ap₂ (λ u v. u ++ v) (ap out_line w.same.names) (ap order_line w.same.order)) (all-lines (box_order g) (box_order h) (boxes-along g h w))

-- of graphs in which the check finds nothing
pub checked-text : (g h : QueryGraph) → EachOnce (numbers g.boxes) → EachOnce (numbers h.boxes) → fault g ≡ None → fault h ≡ None → SameButNumbers g h → AreOneToOne g h → text_of g ≡ text_of h
checked-text g h u v a b s o =
    one-text g h (record {
      same = s;
      one = o;
      first_sound = ((sound-checked g u).0 a).0;
      second_sound = ((sound-checked h v).0 b).0;
    })
