-- Where a derived table ranges over a view's box, this box meets two.
use Rattle.std.proofs.Common.{inl, ◌≡◌, ◌≤◌, ◌==◌, ℕ, zero, suc, Bool, true, false, cond, List, codes, refl, sym, subst, ◌∙◌, arith, [], ◌∷◌}
use Rattle.qgm_core.specs.Edits.{range}
use Rattle.qgm_core.specs.declared.kinds.QuantKind.TheVariants.{F}
use Rattle.qgm_core.specs.declared.node.Node.{Node}
use Rattle.sql_meaning.specs.ResolvedTrees as q
use Rattle.qgm_translation.specs.Samples.{base, sources}
use Rattle.qgm_translation.specs.Shown.{Shows, ShowsBase, ShowsBox, ShowsQuery, of_operand, of_query, uses}
use Rattle.graph_alike.specs.Alike.{roots, under}
use Rattle.qgm_translation.specs.There.{EachForOne, IsFor}
use Rattle.qgm_translation_laws.specs.Reused.{Reused, apart, body, over_u, reusing, top, twice}

base-u : ShowsBase sources (Shows sources []) (codes "U") (base 7 (codes "U"))
base-u = record { kind = refl; named = refl; types = refl; plain = record { distinctness = refl; role = refl; numbered = (refl, refl) }; bare = (refl, refl); quants = refl }

-- each shows the body, over U's box
over-u : (b : ℕ) (ns : List Node) → Shows sources ns 7 (of_operand (q.named (codes "U"))) [] → ShowsQuery sources (Shows sources ns) body [] (over_u b)
over-u b ns u = record { kind = refl; plain = record { distinctness = refl; role = refl; numbered = (refl, refl) }; froms = ((refl, u), tt); subs = refl; conds = refl; head = refl }

shows-reusing : Shows sources reusing.boxes 1 (of_query twice) []
shows-reusing =
    let view = over-u 8 (base 7 (codes "U") ∷ []) (refl, base-u) in
    record { kind = refl; plain = record { distinctness = refl; role = refl; numbered = (refl, refl) }; froms = ((refl, (refl, view)), ((refl, view), tt)); subs = refl; conds = refl; head = refl }

shows-apart : Shows sources apart.boxes 1 (of_query twice) []
shows-apart =
    let view = over-u 8 (over_u 9 ∷ base 7 (codes "U") ∷ []) (refl, base-u) in
    let derived = over-u 9 (base 7 (codes "U") ∷ []) (refl, base-u) in
    record { kind = refl; plain = record { distinctness = refl; role = refl; numbered = (refl, refl) }; froms = ((refl, (refl, view)), ((refl, derived), tt)); subs = refl; conds = refl; head = refl }

-- the boxes that are used are those of names
alone-reusing : (b : ℕ) → ((name : List ℕ) → (sources.shared name == b) ≡ false) → uses b reusing.boxes ≤ 1
alone-reusing b h = let u = h (codes "U") in let v = h (codes "V") in rw (u, v) omega arith

-- and 9, which is used once
alone-apart : (b : ℕ) → ((name : List ℕ) → (sources.shared name == b) ≡ false) → uses b apart.boxes ≤ 1
alone-apart b h = let u = h (codes "U") in let v = h (codes "V") in let w = last (9 == b) in rw (u, v) omega arith
  where
    last : (c : Bool) → cond {A = ℕ} c 1 0 ≤ 1
    last true = omega arith
    last false = omega arith

-- it would be there for V and for W
two-things : EachForOne sources twice reusing → ⊥
two-things e =
    let n = top (range 1 F 8 ∷ range 2 F 8 ∷ []) in
    let h : ShowsQuery sources (IsFor e.what e.seen) twice [] (top (range 1 F 8 ∷ range 2 F 8 ∷ [])) = subst (λ z. ShowsBox sources (IsFor e.what e.seen) (of_query twice) z n) e.root.1 (subst (λ z. ShowsBox sources (IsFor e.what e.seen) z (e.seen 1) n) e.root.0 (e.each n (inl refl))) in
    let same : of_operand (q.named (codes "V")) ≡ of_operand (q.derived body) = sym h.froms.0.1.0 ∙ h.froms.1.0.1.0 in
    absurd (cc same)

pub reused : Reused
reused = record {
  first = record { shows = shows-reusing; named = refl; ordered = refl; used = refl; alone = alone-reusing };
  second = record { shows = shows-apart; named = refl; ordered = refl; used = refl; alone = alone-apart };
  ordered = ((refl, refl, (refl, refl, (refl, refl, tt))), (refl, refl, (refl, refl, (refl, refl, (refl, refl, tt)))));
  view = under (top (range 1 F 8 ∷ range 2 F 8 ∷ [])) (top (range 1 F 8 ∷ range 2 F 9 ∷ [])) zero (range 1 F 8) (range 1 F 8) roots (inl refl) (inl refl) refl refl;
  derived = under (top (range 1 F 8 ∷ range 2 F 8 ∷ [])) (top (range 1 F 8 ∷ range 2 F 9 ∷ [])) (suc zero) (range 2 F 8) (range 2 F 9) roots (inl refl) (inl refl) refl refl;
  refused = two-things;
}
