-- What differs in numbers alone does so both ways.
use Rattle.std.proofs.Common.{ℕ, List, [], ◌∷◌, sym}
use Rattle.qgm_core.specs.Boxes.{QueryGraph}
use Rattle.qgm_core.specs.declared.node.Node.{Node}
use Rattle.qgm_core.specs.declared.owned.OwnedQuant.{OwnedQuant}
use Rattle.qgm_terms.specs.Terms.{Arms, Cond, Term}
use Rattle.graph_alike.specs.Alike.{Like, LikeArms, LikeBox, LikeCond, LikeConds, LikeHeads, LikeQuants, Meets, SameButNumbers, Stands}
use Rattle.graph_alike.specs.Alike as k
use Rattle.graph_alike.specs.OneToOne.{AreOneToOne}

pub meets-back : (g h : QueryGraph) (a b : ℕ) → Meets g h a b → Meets h g b a
meets-back g h _ _ k.roots = k.roots
meets-back g h _ _ (k.under n m i o p c x y u v) = k.under m n i p o (meets-back g h n.id m.id c) y x v u

pub stands-back : (g h : QueryGraph) (q p : ℕ) → Stands g h q p → Stands h g p q
stands-back g h _ _ (k.stands n m i o p c x y u v) = k.stands m n i p o (meets-back g h n.id m.id c) y x v u

module _ (R Q : ℕ → ℕ → Type 0) (back : (q p : ℕ) → R q p → Q p q) where
  mutual
    like-back : (x y : Term) → Like R x y → Like Q y x
    like-back _ _ (k.like_int n) = k.like_int n
    like-back _ _ (k.like_text x) = k.like_text x
    like-back _ _ k.like_null_int = k.like_null_int
    like-back _ _ k.like_null_text = k.like_null_text
    like-back _ _ (k.like_col q p j r) = k.like_col p q j (back q p r)
    like-back _ _ (k.like_scalar q p r) = k.like_scalar p q (back q p r)
    like-back _ _ (k.like_both op a b c d h i) = k.like_both op c d a b (like-back a c h) (like-back b d i)
    like-back _ _ (k.like_minus a c h) = k.like_minus c a (like-back a c h)
    like-back _ _ (k.like_choose s w a c h i) = k.like_choose w s c a (arms-back s w h) (like-back a c i)
    like-back _ _ k.like_count = k.like_count
    like-back _ _ (k.like_fold f e a c h) = k.like_fold f e c a (like-back a c h)

    arms-back : (s w : Arms) → LikeArms R s w → LikeArms Q w s
    arms-back _ _ k.like_no_arm = k.like_no_arm
    arms-back _ _ (k.like_arm c d a b s w h i j) = k.like_arm d c b a w s (cond-back c d h) (like-back a b i) (arms-back s w j)

    cond-back : (c d : Cond) → LikeCond R c d → LikeCond Q d c
    cond-back _ _ k.like_always = k.like_always
    cond-back _ _ (k.like_compare sign a b c d h i) = k.like_compare sign c d a b (like-back a c h) (like-back b d i)
    cond-back _ _ (k.like_is_null a c h) = k.like_is_null c a (like-back a c h)
    cond-back _ _ (k.like_and a b c d h i) = k.like_and c d a b (cond-back a c h) (cond-back b d i)
    cond-back _ _ (k.like_or a b c d h i) = k.like_or c d a b (cond-back a c h) (cond-back b d i)
    cond-back _ _ (k.like_not a c h) = k.like_not c a (cond-back a c h)
    cond-back _ _ (k.like_some q p a c r h) = k.like_some p q c a (back q p r) (cond-back a c h)
    cond-back _ _ (k.like_every q p a c r h) = k.like_every p q c a (back q p r) (cond-back a c h)

  heads-back : (xs ys : List Term) → LikeHeads R xs ys → LikeHeads Q ys xs
  heads-back [] [] h = tt
  heads-back [] (y ∷ ys) h = absurd h
  heads-back (x ∷ xs) [] h = absurd h
  heads-back (x ∷ xs) (y ∷ ys) h = (like-back x y h.0, heads-back xs ys h.1)

  conds-back : (xs ys : List Cond) → LikeConds R xs ys → LikeConds Q ys xs
  conds-back [] [] h = tt
  conds-back [] (y ∷ ys) h = absurd h
  conds-back (x ∷ xs) [] h = absurd h
  conds-back (x ∷ xs) (y ∷ ys) h = (cond-back x y h.0, conds-back xs ys h.1)

  quants-back : (os ps : List OwnedQuant) → LikeQuants R os ps → LikeQuants Q ps os
  quants-back [] [] h = tt
  quants-back [] (p ∷ ps) h = absurd h
  quants-back (o ∷ os) [] h = absurd h
  quants-back (o ∷ os) (p ∷ ps) h = (sym h.0, back o.id p.id h.1, quants-back os ps h.2)

  box-back : (n m : Node) → LikeBox R n m → LikeBox Q m n
  box-back n m l = record {
    kind = sym l.kind;
    distinct = sym l.distinct;
    role = sym l.role;
    head = heads-back n.parts.head m.parts.head l.head;
    conds = conds-back n.parts.conds.items m.parts.conds.items l.conds;
    quants = quants-back n.quants m.quants l.quants;
  }

pub same-back : (g h : QueryGraph) → SameButNumbers g h → AreOneToOne g h → SameButNumbers h g
same-back g h s o = record {
  alike = λ n m i j c. box-back (Stands g h) (Stands h g) (stands-back g h) m n (s.alike m n j i (meets-back h g n.id m.id c));
  met = λ n i. (let x = o.second n i in (x.0, (x.1.0, meets-back g h x.0.id n.id x.1.1)));
  names = sym s.names;
  order = sym s.order;
}

pub one-back : (g h : QueryGraph) → AreOneToOne g h → AreOneToOne h g
one-back g h o = record {
  boxes = record { one = λ a b c x y. o.boxes.other b c a (meets-back h g a b x) (meets-back h g a c y); other = λ a b c x y. o.boxes.one c a b (meets-back h g a c x) (meets-back h g b c y) };
  quants = record { one = λ a b c x y. o.quants.other b c a (stands-back h g a b x) (stands-back h g a c y); other = λ a b c x y. o.quants.one c a b (stands-back h g a c x) (stands-back h g b c y) };
  first = λ n i. (let x = o.second n i in (x.0, (x.1.0, meets-back g h x.0.id n.id x.1.1)));
  second = λ m i. (let x = o.first m i in (x.0, (x.1.0, meets-back g h m.id x.0.id x.1.1)));
}
