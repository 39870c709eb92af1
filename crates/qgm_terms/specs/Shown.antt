-- The tree that an expression or a condition of the program holds.
use Rattle.std.specs.Prelude.{List, [], ◌∷◌, map}
use Rattle.qgm_terms.specs.declared.tree.Arm.{Arm}
use Rattle.qgm_terms.specs.declared.tree.Link.{Link}
use Rattle.qgm_terms.specs.declared.tree.Gc.{Gc, True, Compare', IsNull', All', Any', Not', Some', Every'}
use Rattle.qgm_terms.specs.declared.tree.Gc.{Row_of-Gc, end_of-Gc, more_of-Gc}
use Rattle.qgm_terms.specs.declared.tree.Gx.{Gx, Int, Text, NullInt, NullText, Col, Scalar, Chain', Neg', Case', CountAll, Fold'}
use Rattle.qgm_terms.specs.declared.tree.Gx.{Row_of-Link, end_of-Link, more_of-Link, Row_of-Arm, end_of-Arm, more_of-Arm}
use Rattle.qgm_terms.specs.declared.tree.Aggregate.{Aggregate}
use Rattle.qgm_terms.specs.declared.tree.Aggregate.TheVariants as f
use Rattle.qgm_terms.specs.declared.tree.Taken.{Taken}
use Rattle.qgm_terms.specs.declared.tree.Taken.TheVariants as e
use Rattle.qgm_terms.specs.declared.tree.Sign.{Sign}
use Rattle.qgm_terms.specs.declared.tree.Sign.TheVariants as s
use Rattle.qgm_terms.specs.Terms as t

abbrev pub aggregate : Aggregate → t.Aggregate
aggregate f.Single = t.single
aggregate f.Count = t.count
aggregate f.Sum = t.sum
aggregate f.Avg = t.avg
aggregate f.Min = t.least
aggregate f.Max = t.greatest

abbrev pub taken : Taken → t.Taken
taken e.All = t.all_of
taken e.Once = t.each_once

abbrev pub sign : Sign → t.Sign
sign s.Eq = t.equal
sign s.Ne = t.unequal
sign s.Lt = t.below
sign s.Le = t.at_most
sign s.Gt = t.above
sign s.Ge = t.at_least
sign s.Same = t.same
sign s.Like = t.like

abbrev mutual
  pub term : Gx → t.Term
  term (Int n) = t.int n
  term (Text s) = t.text s
  term NullInt = t.null_int
  term NullText = t.null_text
  term (Col q k) = t.col q k
  term (Scalar q) = t.scalar q
  term (Chain' _ a _ ls) = t.linked (term a) (row_links ls)
  term (Neg' _ a) = t.minus_of (term a)
  term (Case' _ s _ a) = t.choose (t.armed (row_choices s)) (term a)
  term CountAll = t.count_all
  term (Fold' g h _ a) = t.fold (aggregate g) (taken h) (term a)

  pub row_links : {n : _} → Row_of-Link n → List t.Link
  row_links end_of-Link = []
  row_links (more_of-Link op a ls) = (record { op = op; right = term a }) ∷ row_links ls

  pub row_choices : {n : _} → Row_of-Arm n → List t.Choice
  row_choices end_of-Arm = []
  row_choices (more_of-Arm c a s) = (record { when = cond c; then = term a }) ∷ row_choices s

  pub cond : Gc → t.Cond
  cond True = t.always
  cond (Compare' g _ a _ b) = t.compare (sign g) (term a) (term b)
  cond (IsNull' _ a) = t.is_null (term a)
  cond (All' _ a _ ps) = t.anded (cond a) (row_conds ps)
  cond (Any' _ a _ ps) = t.ored (cond a) (row_conds ps)
  cond (Not' _ a) = t.not (cond a)
  cond (Some' q _ a) = t.some q (cond a)
  cond (Every' q _ a) = t.every q (cond a)

  pub row_conds : {n : _} → Row_of-Gc n → List t.Cond
  row_conds end_of-Gc = []
  row_conds (more_of-Gc p ps) = cond p ∷ row_conds ps

-- ---- the same lists, as the code has them

abbrev pub link : Link → t.Link
link l = record { op = l.op; right = term l.right }

abbrev pub links : List Link → List t.Link
links ls = map link ls

abbrev pub choice : Arm → t.Choice
choice a = record { when = cond a.when; then = term a.then }

abbrev pub choices : List Arm → List t.Choice
choices s = map choice s

abbrev pub conds : List Gc → List t.Cond
conds ps = map cond ps

abbrev pub terms : List Gx → List t.Term
terms xs = map term xs
