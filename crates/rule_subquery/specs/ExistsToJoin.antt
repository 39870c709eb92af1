-- U1, EXISTS becomes a join: its condition, its places and its action.
use Rattle.std.specs.Prelude.{ℕ, suc, ◌≡◌, ◌++◌, false, List, [], ◌∷◌, length, Some, ◌==◌, ◌&&◌, ◌||◌, not, Bool, if◌then◌else◌}
use Rattle.std.specs.List.{list_any}
use Rattle.qgm_terms.specs.Terms.{Cond, some}
use Rattle.qgm_terms.specs.Terms as terms
use Rattle.qgm_core.specs.Boxes.{QueryGraph, box_of, width}
use Rattle.qgm_core.specs.Edits.{compact, on_box}
use Rattle.qgm_core.specs.declared.kinds.BoxKind.TheVariants.{Select}
use Rattle.qgm_core.specs.declared.kinds.Distinct.{Distinct}
use Rattle.qgm_core.specs.declared.kinds.Distinct.TheVariants.{Enforce, Permit}
use Rattle.qgm_core.specs.declared.kinds.QuantKind.TheVariants.{E}
use Rattle.qgm_core.specs.declared.kinds.Role.TheVariants.{Plain}
use Rattle.qgm_core.specs.declared.node.Node.{Node}
use Rattle.qgm_core.specs.declared.owned.OwnedQuant.{OwnedQuant}
use Rattle.qgm_core.specs.Kinds.{is_E, is_enforce, is_permit}
use Rattle.qgm_meaning.specs.Searches.{names, names_cond}
use Rattle.qgm_meaning.specs.Rules.{as_F}
use Rattle.qgm_props.specs.Inferred.{Inferred, at_most_one, clean}
use Rattle.qgm_props.specs.InferredKeys.{places_to}
use Rattle.qgm_props.specs.Laws.{KeyInferred}
use Rattle.qgm_edit_laws.specs.ConjunctsOf.{conjuncts}
use Rattle.qgm_edit_laws.specs.PermitToPreserve.{permit_to_preserve}
use Rattle.rule_api.specs.declared.place.Place.{Place}
use Rattle.rule_api.specs.Rules.{Pair}
use Rattle.rule_facts.specs.Told.{infers, infers_key}
use Rattle.rule_facts.specs.Places.{quant_pairs, is_plain_select}

-- ---- the condition

-- b, a plain select, has the E quantifier r between us and vs; its one node is the whole conjunct `some r c` between xs and ys
pub record HasExists (b : Node) (us : List OwnedQuant) (r : OwnedQuant) (vs : List OwnedQuant) (xs : List Cond) (c : Cond) (ys : List Cond) : Type 0 where
  pub select : b.parts.kind ≡ Select
  pub plain : b.parts.role ≡ Plain
  pub split : b.quants ≡ us ++ r ∷ vs
  pub is_e : r.kind ≡ E
  pub conds : b.parts.conds.items ≡ xs ++ some r.id c ∷ ys
  pub in_head : list_any (names r.id) b.parts.head ≡ false
  pub in_before : list_any (names_cond r.id) xs ≡ false
  pub in_cond : names_cond r.id c ≡ false
  pub in_behind : list_any (names_cond r.id) ys ≡ false

-- one of three holds, and so b's distinctness after it: b is ENFORCE, or PERMIT and inferred clean; r's box has at most one row; b has a key. Where only the last holds, b becomes ENFORCE
pub data ExistsFits (g : QueryGraph) (b : Node) (r : OwnedQuant) (d : Distinct) : Type 0 where
  enforced : b.parts.distinct ≡ Enforce → d ≡ Enforce → ExistsFits g b r d
  permitted : b.parts.distinct ≡ Permit → Inferred g.boxes (clean b.id) → d ≡ Permit → ExistsFits g b r d
  of_one : Inferred g.boxes (at_most_one r.over) → d ≡ b.parts.distinct → ExistsFits g b r d
  keyed : (b.parts.distinct ≡ Enforce → ⊥) → (b.parts.distinct ≡ Permit → Inferred g.boxes (clean b.id) → ⊥) → (Inferred g.boxes (at_most_one r.over) → ⊥)
      → KeyInferred g.boxes b.id (places_to (width b)) → d ≡ Enforce → ExistsFits g b r d

-- U1 may fire at quantifier i of such a box
pub record MayExistsToJoinAt (p : Place) (g : QueryGraph) (b : Node) (us : List OwnedQuant) (r : OwnedQuant) (vs : List OwnedQuant) (xs : List Cond) (c : Cond) (ys : List Cond) (d : Distinct) : Type 0 where
  pub no_second : p.j ≡ 0
  pub at : box_of p.at g ≡ Some b
  pub nth : p.i ≡ suc (length us)
  pub existing : HasExists b us r vs xs c ys
  pub fits : ExistsFits g b r d

unfoldable pub MayExistsToJoin : Place → QueryGraph → Type 0
MayExistsToJoin p g = (b : Node) × ((us : List OwnedQuant) × ((r : OwnedQuant) × ((vs : List OwnedQuant) × ((xs : List Cond) × ((c : Cond) × ((ys : List Cond) × ((d : Distinct) × MayExistsToJoinAt p g b us r vs xs c ys d)))))))

-- ---- the places

-- the conjunct is a some of q, within which q is no node
abbrev pub is_whole : ℕ → Cond → Bool
is_whole q terms.always = false
is_whole q (terms.compare sign x y) = false
is_whole q (terms.is_null x) = false
is_whole q (terms.and c d) = false
is_whole q (terms.or c d) = false
is_whole q (terms.not c) = false
is_whole q (some r c) = (r == q) && not (names_cond q c)
is_whole q (terms.every r c) = false

-- one of these is, and q is no node of the others
abbrev pub one_whole : ℕ → List Cond → Bool
one_whole q [] = false
one_whole q (x ∷ xs) = (is_whole q x && not (list_any (names_cond q) xs)) || (not (names_cond q x) && one_whole q xs)

-- each row is given once, or rows may be given more often
abbrev pub is_set : List Node → Node → Bool
is_set bs n = is_enforce n.parts.distinct || (is_permit n.parts.distinct && infers bs (clean n.id))

-- each E fits, whatever rows it has
abbrev pub each_fits : List Node → Node → Bool
each_fits bs n = is_set bs n || infers_key bs n.id (places_to (width n))

abbrev pub exists_fits : List Node → Node → OwnedQuant → Bool
exists_fits bs n r = is_set bs n || (infers bs (at_most_one r.over) || infers_key bs n.id (places_to (width n)))

-- what its distinctness is then: that of the box, and ENFORCE where only a key lets it fire
abbrev pub distinct_after : List Node → Node → OwnedQuant → Distinct
distinct_after bs n r = if is_set bs n || infers bs (at_most_one r.over) then n.parts.distinct else Enforce

-- of a plain select, r is an E, and its one node is a whole conjunct
abbrev pub is_joinable : Node → OwnedQuant → Bool
is_joinable n r = is_plain_select n && (is_E r.kind && (not (list_any (names r.id) n.parts.head) && one_whole r.id n.parts.conds.items))

abbrev pub may_exists_to_join : List Node → Node → OwnedQuant → Bool
may_exists_to_join bs n r = is_joinable n r && exists_fits bs n r

-- one of its quantifiers is so
abbrev pub any_joinable : Node → Bool
any_joinable n = list_any (is_joinable n) n.quants

-- the places of U1 at b
unfoldable pub exists_to_join_pairs : QueryGraph → ℕ → List Pair
exists_to_join_pairs g b = quant_pairs (may_exists_to_join g.boxes) g b

-- ---- the action

-- other conjuncts, other quantifiers and another distinctness
abbrev pub turned_box : Distinct → List Cond → List OwnedQuant → Node → Node
turned_box d conds quants y = record y { parts = record y.parts { distinct = d; conds = record y.parts.conds { items = conds } }; quants = quants }

-- c's conjuncts in the place of the conjunct of r, which is an F behind all others
abbrev pub joined_box : Distinct → List OwnedQuant → OwnedQuant → List OwnedQuant → List Cond → Cond → List Cond → Node → Node
joined_box d us r vs xs c ys = turned_box d (xs ++ (conjuncts c ++ ys)) ((us ++ vs) ++ as_F r.id r.over ∷ [])

-- c's conjuncts stand in the place of the conjunct, r is an F behind all others, r's box is no longer PERMIT; boxes that the root doesn't reach are gone; all else is as in g
abbrev pub exists_joined : QueryGraph → Node → List OwnedQuant → OwnedQuant → List OwnedQuant → List Cond → Cond → List Cond → Distinct → QueryGraph
exists_joined g b us r vs xs c ys d = compact (on_box b.id (joined_box d us r vs xs c ys) (permit_to_preserve r.over g))

unfoldable pub JoinsExists : Place → QueryGraph → QueryGraph → Type 0
JoinsExists p g h = (b : Node) × ((us : List OwnedQuant) × ((r : OwnedQuant) × ((vs : List OwnedQuant) × ((xs : List Cond) × ((c : Cond) × ((ys : List Cond) × ((d : Distinct) × (MayExistsToJoinAt p g b us r vs xs c ys d × (h ≡ exists_joined g b us r vs xs c ys d)))))))))
