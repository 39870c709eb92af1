-- Expressions, boxes and graphs that differ in numbers alone.
use Rattle.std.specs.Prelude.{◌≡◌, ℕ, ℤ, zero, suc, List, [], ◌∷◌, ⊤}
use Rattle.qgm_core.specs.Boxes.{QueryGraph}
use Rattle.list_laws.specs.Lists.{In}
use Rattle.qgm_core.specs.declared.node.Node.{Node}
use Rattle.qgm_core.specs.declared.owned.OwnedQuant.{OwnedQuant}
use Rattle.qgm_terms.specs.Terms as t
use Rattle.qgm_terms.specs.Terms.{Aggregate, Arms, Cond, Sign, Taken, Term}
use Rattle.qgm_terms.specs.declared.tree.Op.{Op}

-- R: numbers that stand for one another
mutual
  pub data Like (R : ℕ → ℕ → Type 0) : Term → Term → Type 0 where
    like_int : (n : ℤ) → Like R (t.int n) (t.int n)
    like_text : (x : List ℕ) → Like R (t.text x) (t.text x)
    like_null_int : Like R t.null_int t.null_int
    like_null_text : Like R t.null_text t.null_text
    like_col : (q p k : ℕ) → R q p → Like R (t.col q k) (t.col p k)
    like_scalar : (q p : ℕ) → R q p → Like R (t.scalar q) (t.scalar p)
    like_both : (op : Op) (a b c d : Term) → Like R a c → Like R b d → Like R (t.both op a b) (t.both op c d)
    like_minus : (a c : Term) → Like R a c → Like R (t.minus_of a) (t.minus_of c)
    like_choose : (s w : Arms) (a c : Term) → LikeArms R s w → Like R a c → Like R (t.choose s a) (t.choose w c)
    like_count : Like R t.count_all t.count_all
    like_fold : (f : Aggregate) (e : Taken) (a c : Term) → Like R a c → Like R (t.fold f e a) (t.fold f e c)

  pub data LikeArms (R : ℕ → ℕ → Type 0) : Arms → Arms → Type 0 where
    like_no_arm : LikeArms R t.no_arm t.no_arm
    like_arm : (c d : Cond) (a b : Term) (s w : Arms) → LikeCond R c d → Like R a b → LikeArms R s w → LikeArms R (t.arm c a s) (t.arm d b w)

  pub data LikeCond (R : ℕ → ℕ → Type 0) : Cond → Cond → Type 0 where
    like_always : LikeCond R t.always t.always
    like_compare : (sign : Sign) (a b c d : Term) → Like R a c → Like R b d → LikeCond R (t.compare sign a b) (t.compare sign c d)
    like_is_null : (a c : Term) → Like R a c → LikeCond R (t.is_null a) (t.is_null c)
    like_and : (a b c d : Cond) → LikeCond R a c → LikeCond R b d → LikeCond R (t.and a b) (t.and c d)
    like_or : (a b c d : Cond) → LikeCond R a c → LikeCond R b d → LikeCond R (t.or a b) (t.or c d)
    like_not : (a c : Cond) → LikeCond R a c → LikeCond R (t.not a) (t.not c)
    like_some : (q p : ℕ) (a c : Cond) → R q p → LikeCond R a c → LikeCond R (t.some q a) (t.some p c)
    like_every : (q p : ℕ) (a c : Cond) → R q p → LikeCond R a c → LikeCond R (t.every q a) (t.every p c)

abbrev pub LikeHeads : (ℕ → ℕ → Type 0) → List Term → List Term → Type 0
LikeHeads R [] [] = ⊤
LikeHeads R [] (y ∷ ys) = ⊥
LikeHeads R (x ∷ xs) [] = ⊥
LikeHeads R (x ∷ xs) (y ∷ ys) = Like R x y × LikeHeads R xs ys

abbrev pub LikeConds : (ℕ → ℕ → Type 0) → List Cond → List Cond → Type 0
LikeConds R [] [] = ⊤
LikeConds R [] (y ∷ ys) = ⊥
LikeConds R (x ∷ xs) [] = ⊥
LikeConds R (x ∷ xs) (y ∷ ys) = LikeCond R x y × LikeConds R xs ys

-- ---- boxes at the same place of two graphs

-- the quantifier at a place, from 0
abbrev pub OwnedAt : ℕ → OwnedQuant → List OwnedQuant → Type 0
OwnedAt i o [] = ⊥
OwnedAt zero o (p ∷ os) = p ≡ o
OwnedAt (suc i) o (p ∷ os) = OwnedAt i o os

-- the boxes of two graphs that stand at one place: the roots, and those under quantifiers at one place of such boxes
pub data Meets (g h : QueryGraph) : ℕ → ℕ → Type 0 where
  roots : Meets g h g.root h.root
  under : (n k : Node) (i : ℕ) (o p : OwnedQuant) → Meets g h n.id k.id → In n g.boxes → In k h.boxes → OwnedAt i o n.quants → OwnedAt i p k.quants → Meets g h o.over p.over

-- the numbers of quantifiers at one place of such boxes
pub data Stands (g h : QueryGraph) : ℕ → ℕ → Type 0 where
  stands : (n k : Node) (i : ℕ) (o p : OwnedQuant) → Meets g h n.id k.id → In n g.boxes → In k h.boxes → OwnedAt i o n.quants → OwnedAt i p k.quants → Stands g h o.id p.id

abbrev pub LikeQuants : (ℕ → ℕ → Type 0) → List OwnedQuant → List OwnedQuant → Type 0
LikeQuants R [] [] = ⊤
LikeQuants R [] (p ∷ ps) = ⊥
LikeQuants R (o ∷ os) [] = ⊥
LikeQuants R (o ∷ os) (p ∷ ps) = (o.kind ≡ p.kind) × R o.id p.id × LikeQuants R os ps

-- two boxes differ in numbers alone
pub record LikeBox (R : ℕ → ℕ → Type 0) (n k : Node) : Type 0 where
  pub kind : n.parts.kind ≡ k.parts.kind
  pub distinct : n.parts.distinct ≡ k.parts.distinct
  pub role : n.parts.role ≡ k.parts.role
  pub head : LikeHeads R n.parts.head k.parts.head
  pub conds : LikeConds R n.parts.conds.items k.parts.conds.items
  pub quants : LikeQuants R n.quants k.quants

-- boxes at one place differ in numbers alone, each box of the first graph stands at a place of the second, and names and order are the same
pub record SameButNumbers (g h : QueryGraph) : Type 0 where
  pub alike : (n k : Node) → In n g.boxes → In k h.boxes → Meets g h n.id k.id → LikeBox (Stands g h) n k
  pub met : (n : Node) → In n g.boxes → (k : Node) × (In k h.boxes × Meets g h n.id k.id)
  pub names : g.names ≡ h.names
  pub order : g.order ≡ h.order
