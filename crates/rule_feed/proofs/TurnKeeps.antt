-- Turning quantifiers and conditions of a select preserves.
use Rattle.std.proofs.Common.{ℕ, ◌==◌, ◌≡◌, Bool, true, false, List, [], ◌∷◌, ◌++◌, map, filter, None, refl, sym, ap, subst, ◌∙◌, inl, inr}
use Rattle.std.specs.List.{list_any}
use Rattle.std.proofs.lemmas.Bool.{cases_Bool}
use mathlib.Core.Path.{fun_ext}
use Rattle.row_bag.specs.Bags.{Agree, keep, unit}
use Rattle.row_bag.specs.Sets.{same_cells}
use Rattle.row_bag.specs.declared.tables.Table.{Table}
use Rattle.row_bag.proofs.Agreement.{alike-same, alike-trans}
use Rattle.row_bag.proofs.Counts.{agree-from_alike}
use Rattle.sql_value.specs.declared.cell.Cell.{Cell}
use Rattle.sql_value.specs.declared.level.Level.{Level}
use Rattle.qgm_terms.specs.Terms.{Cond}
use Rattle.qgm_core.specs.Boxes.{QueryGraph, is_quant, numbers}
use Rattle.qgm_core.specs.Edits.{on_boxes}
use Rattle.qgm_core.specs.Kinds.{is_F, is_enforce}
use Rattle.list_laws.specs.Lists.{EachOnce, In}
use Rattle.qgm_core.specs.declared.kinds.BoxKind.TheVariants.{Select}
use Rattle.qgm_core.specs.declared.kinds.Role.TheVariants.{Plain}
use Rattle.qgm_core.specs.declared.node.Node.{Node}
use Rattle.qgm_core.specs.declared.owned.OwnedQuant.{OwnedQuant}
use Rattle.qgm_meaning.specs.Meaning.{Family, bag_in, once_if, over_each, quant_rows, rows_by, rows_found, rows_of}
use Rattle.qgm_meaning.specs.Quantifiers.{Apart, LooksRows}
use Rattle.qgm_meaning.specs.Rules.{selecting}
use Rattle.qgm_meaning.specs.Scope.{loose, quant_looks}
use Rattle.qgm_meaning.specs.Values.{Bag, Environment, bound, head_cells}
use Rattle.qgm_meaning.proofs.Frames.{bag-framed, quant-framed}
use Rattle.qgm_meaning.proofs.Joined.{unread}
use Rattle.qgm_wellformed.specs.WellFormed.{fault}
use Rattle.qgm_edit_laws.specs.Adds.{at}
use Rattle.qgm_edit_laws.specs.Graph.{Sound}
use Rattle.qgm_edit_laws.specs.PutsBox.{PutsBox}
use Rattle.qgm_edit_laws.proofs.CheckedParts.{shaped, sound, typed}
use Rattle.qgm_edit_laws.proofs.PutsBox.{put-agrees}
use Rattle.rule_api.specs.Rules.{Preserves}
use Rattle.rule_facts.proofs.Actions.{preserves-put}
use Rattle.list_laws.proofs.Booleans.{clash}
use Rattle.list_laws.proofs.Membership.{any-from, eq-itself, in-filter, in-right}
use Rattle.rule_feed.specs.Turn.{TurnPreserves, before_first, failing, from_first, turned_node}
use Rattle.rule_feed.proofs.TurnLists.{passing-from, together}
use Rattle.rule_feed.proofs.TurnPuts.{away, first-same, looks-r, puts, twice-apart}
use Rattle.rule_feed.proofs.TurnRows.{MayTurn, rows-turned, true-sifted}

apart-each : (s : Family) (r : OwnedQuant) (ps : List OwnedQuant)
    → ((p : OwnedQuant) → In p ps → ((p.id == r.id) ≡ false) × (is_F r.kind ≡ true → is_F p.kind ≡ true → (cells : List Cell) (env : Environment) → (s p.id (bound r.id cells env) ≡ s p.id env) × (s r.id (bound p.id cells env) ≡ s r.id env)))
    → Apart s r ps
apart-each s r [] h = tt
apart-each s r (p ∷ ps) h = let a = h p (inl refl) in (a.0, a.1, apart-each s r ps (λ x i. h x (inr i)))

append-both : (xs ys zs : List OwnedQuant) → (xs ++ ys) ++ zs ≡ xs ++ (ys ++ zs)
append-both [] ys zs = refl
append-both (x ∷ xs) ys zs = ap (λ z. x ∷ z) (append-both xs ys zs)

module _ (g : QueryGraph) (u : EachOnce (numbers g.boxes)) (f : fault g ≡ None) (o : Node) (within : In o g.boxes) (select : o.parts.kind ≡ Select) (plain : o.parts.role ≡ Plain)
    (t : OwnedQuant → Bool) (k : Cond → Bool) (rows : (r : OwnedQuant) → In r o.quants → t r ≡ true → (is_F r.kind ≡ true) × ((q : ℕ) → loose g.boxes r.over q ≡ false)) where
  abbrev bs : List Node
  bs = g.boxes

  w : Sound bs g.root
  w = sound g u f

  abbrev n : Node
  n = turned_node t k o

  abbrev cs : List Cond
  cs = o.parts.conds.items

  abbrev us : List OwnedQuant
  us = before_first t o.quants

  abbrev rs : List OwnedQuant
  rs = from_first t o.quants

  m : PutsBox bs g.root o (turned_node t k)
  m = puts bs g.root w (typed g u f) (shaped g u f) o within select plain t k rows

  module _ (tables : List Table) where
    abbrev F : Family
    F = bag_in tables bs

    abbrev s : Family
    s = quant_rows o F

    looks : LooksRows s
    looks q d e h = quant-framed o F (loose bs) (bag-framed tables bs) q d e (record { rows = λ x t. h x })

    not-looked : (q r : ℕ) → quant_looks o (loose bs) q r ≡ false → (cells : List Cell) (env : Environment) → s q (bound r cells env) ≡ s q env
    not-looked q r h cells env = sym (quant-framed o F (loose bs) (bag-framed tables bs) q env (bound r cells env) (unread (quant_looks o (loose bs) q) r cells env h))

    -- a quantifier is apart from those behind it that pass
    apart-at : (done : List OwnedQuant) (r : OwnedQuant) (rest : List OwnedQuant) → o.quants ≡ done ++ r ∷ rest → Apart s r (filter t rest)
    apart-at done r rest e = apart-each s r (filter t rest) (λ p i. (
        let j = in-filter t p rest i in
        let in-p : In p o.quants = subst (λ z. In p z) (sym e) (in-right p done (r ∷ rest) (inr j.0)) in
        let in-r : In r o.quants = subst (λ z. In r z) (sym e) (in-right r done (r ∷ rest) (inl refl)) in (
          twice-apart bs g.root w (typed g u f) (shaped g u f) o within select plain t k rows done r rest p e j.0,
          λ fr fp cells env. (
            not-looked p.id r.id (looks-r bs g.root w (typed g u f) (shaped g u f) o within select plain t k rows p in-p r.id ∙ (rows p in-p j.1).1 r.id) cells env,
            not-looked r.id p.id (elim (cases_Bool (quant_looks o (loose bs) r.id p.id)) [
              | inr z ↦ z
              | inl z ↦ absurd (clash (list_any (is_quant p.id) (filter t rest)) (any-from (is_quant p.id) p (filter t rest) i (eq-itself p.id)) (away bs g.root w (typed g u f) (shaped g u f) o within select plain t k rows p.id done r rest e fr z))
            ]) cells env,
          ),
        )))

    may : (done ls : List OwnedQuant) → o.quants ≡ done ++ ls → MayTurn t s ls
    may done [] e = tt
    may done (r ∷ ls) e = ((λ z. apart-at done r ls e), may (done ++ r ∷ []) ls (e ∙ sym (append-both done (r ∷ []) ls)))

    abbrev R : List Cond → List OwnedQuant → Environment → Bag
    R ds qs env = rows_by Select tables (selecting o.id o.parts o.parts.distinct ds o.parts.head qs) s env

    same-conds : (qs : List OwnedQuant) (env : Environment) → R (failing k cs ++ filter k cs) qs env ≡ R cs qs env
    same-conds qs env = ap (λ (give : Environment → Bag). once_if (is_enforce o.parts.distinct) (over_each qs s give env))
        (fun_ext (λ e. ap (λ (l : Level). keep l (unit (head_cells (λ q. s q e) o.parts.head e))) (true-sifted (λ q. s q e) e k cs)))

    rows-n : (env : Environment) → rows_of tables n F env ≡ R (failing k cs ++ filter k cs) n.quants env
    rows-n env =
        ap (λ kind. rows_by kind tables n (quant_rows n F) env) select
        ∙ ap (λ (z : Family). rows_by Select tables n z env) (fun_ext (λ q. ap (λ z. rows_found z F) (first-same bs g.root w (typed g u f) (shaped g u f) o within select plain t k rows q)))

    rows-o : (env : Environment) → rows_of tables o F env ≡ R cs o.quants env
    rows-o env = ap (λ kind. rows_by kind tables o (quant_rows o F) env) select

    agrees : (env : Environment) → Agree same_cells (rows_of tables n F env) (rows_of tables o F env)
    agrees env = agree-from_alike same_cells (
        alike-trans (alike-same (rows-n env ∙ same-conds n.quants env ∙ ap (λ ps. R cs (us ++ (ps ++ failing t rs)) env) (sym (passing-from t o.quants))))
        (alike-trans (rows-turned t s looks tables o.id o.parts o.parts.distinct cs o.parts.head env us rs (may us rs (sym (together t o.quants))))
        (alike-same (ap (λ qs. R cs qs env) (together t o.quants) ∙ sym (rows-o env)))))

  pub turn-preserves-at : Preserves g (on_boxes (map (at o.id (turned_node t k))) g)
  turn-preserves-at = preserves-put g u f o (turned_node t k) m (λ tables s. put-agrees bs g.root w o (turned_node t k) m tables (λ env fit. agrees tables env))

pub turn-preserves : TurnPreserves
turn-preserves = λ g u f b i e p t k rows. turn-preserves-at g u f b i e p t k rows
