-- J1 and J2 preserve, at a place.
use Rattle.std.proofs.Common.{ℕ, ◌≡◌, true, Some, refl, sym, subst}
use Rattle.qgm_core.specs.Boxes.{QueryGraph, box_of, is_box}
use Rattle.list_laws.specs.Lists.{In}
use Rattle.qgm_core.specs.declared.node.Node.{Node}
use Rattle.qgm_edit_laws.proofs.Levels.{some-in}
use Rattle.qgm_terms.specs.Terms.{Cond, Term, int, text, null_int, null_text, col, both, minus_of, choose, count_all, fold, scalar}
use Rattle.rule_api.specs.Rules.{Preserves}
use Rattle.rule_trans.specs.EqualLiteral.{is_literal}
use Rattle.rule_trans.specs.Follows.{IsConjunct, is_leaf}
use Rattle.rule_trans.specs.Laws.{EqualColumnsPreserves, EqualLiteralPreserves}
use Rattle.rule_trans.proofs.FollowsKeeps.{follows-preserves}
use Rattle.list_laws.proofs.Indexed.{get-in}

literal-leaf : (z : Term) → is_literal z ≡ true → is_leaf z ≡ true
literal-leaf (int n) h = refl
literal-leaf (text s) h = refl
literal-leaf null_int h = h
literal-leaf null_text h = h
literal-leaf (col q k) h = refl
literal-leaf (both o x y) h = h
literal-leaf (minus_of x) h = h
literal-leaf (choose s x) h = h
literal-leaf count_all h = h
literal-leaf (fold f t x) h = h
literal-leaf (scalar q) h = h

found-in : (g : QueryGraph) (b : ℕ) (n : Node) → box_of b g ≡ Some n → In n g.boxes
found-in g b n e = (some-in (is_box b) g.boxes n e).0

conjunct-in : (i : ℕ) (n : Node) (c : Cond) → IsConjunct i n c → In c n.parts.conds.items
conjunct-in i n c h = get-in h.0 n.parts.conds.items c h.1.1

pub equal-columns-preserves : EqualColumnsPreserves
equal-columns-preserves g h u w at x =
    let m = x.may in
    let f = m.implied in
    subst (λ z. Preserves g z) (sym x.after) (follows-preserves g u w m.known m.tells m.n m.p m.j m.q m.k (col m.s m.l) m.c m.d (record {
      within = found-in g at.at m.n f.found;
      kind = f.kind;
      not_fed = f.not_fed;
      leaf = refl;
      first = conjunct-in at.i m.n m.c f.first;
      second = conjunct-in at.j m.n m.d f.second;
      of_first = f.of_first;
      of_second = f.of_second;
      free = f.free;
    }))

pub equal-literal-preserves : EqualLiteralPreserves
equal-literal-preserves g h u w at x =
    let m = x.may in
    let f = m.implied in
    subst (λ z. Preserves g z) (sym x.after) (follows-preserves g u w m.known m.tells m.n m.p m.j m.q m.k m.z m.c m.d (record {
      within = found-in g at.at m.n f.found;
      kind = f.kind;
      not_fed = f.not_fed;
      leaf = literal-leaf m.z f.literal;
      first = conjunct-in at.i m.n m.c f.first;
      second = conjunct-in at.j m.n m.d f.second;
      of_first = f.of_first;
      of_second = f.of_second;
      free = f.free;
    }))
