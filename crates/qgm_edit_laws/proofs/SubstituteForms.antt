-- The check finds nothing more where cells stand for the columns of a quantifier in a box.
use Rattle.std.proofs.Common.{ℕ, ◌==◌, ◌≡◌, ◌&&◌, cond, true, false, List, Option, None, refl, sym, ap, subst, ◌∙◌, eqb-true, inl, inr}
use Rattle.std.specs.List.{list_all, list_any}
use Rattle.std.proofs.lemmas.Bool.{and_parts, or_left, or_parts, or_right}
use mathlib.Core.Path.{fun_ext}
use Rattle.sql_value.specs.declared.order_key.SqlType.{SqlType}
use Rattle.qgm_core.specs.Boxes.{QueryGraph, numbers}
use Rattle.qgm_core.specs.Edits.{put_cells, substitute}
use Rattle.list_laws.specs.Lists.{EachOnce, In}
use Rattle.qgm_core.specs.declared.node.Node.{Node}
use Rattle.qgm_terms.specs.Substitution.{substituted, substituted_cond}
use Rattle.qgm_terms.specs.Terms.{Cond, Term}
use Rattle.qgm_terms.specs.Wanted.{reads_at, reads_at_cond}
use Rattle.qgm_wellformed.specs.Types.{Lookup, arms_agree, cond_fits, is_known, lookup_of, term_type, types_of}
use Rattle.qgm_wellformed.specs.WellFormed.{fault}
use Rattle.qgm_meaning.specs.Searches.{names, names_cond}
use Rattle.qgm_edit_laws.specs.FormedEdits.{MaySubstitute}
use Rattle.qgm_edit_laws.specs.FedOpen.{FedOpen}
use Rattle.qgm_edit_laws.specs.Shaped.{Shaped, Typed}
use Rattle.qgm_edit_laws.specs.Graph.{Sound}
use Rattle.qgm_edit_laws.proofs.Edits.{once-each}
use Rattle.qgm_edit_laws.proofs.Formed.{sound-checked}
use Rattle.qgm_edit_laws.proofs.OneBox.{at, change-at}
use Rattle.qgm_edit_laws.proofs.PartForms.{PartForm, parts-open}
use Rattle.qgm_edit_laws.proofs.PlacedOne.{g-cases}
use Rattle.qgm_edit_laws.proofs.PutTypes.{all-put, mixed, types-put, cond-mixed, term-mixed}
use Rattle.list_laws.proofs.Membership.{any-from, any-none}

-- the types of columns, of which those of q are looked up as all others are
mixed-same : (at : Lookup) (q : ℕ) (cells : List Term) → mixed at at q cells ≡ at
mixed-same at q cells = fun_ext (λ r. fun_ext (λ k. elim (r == q) as (λ b. (r == q) ≡ b → ◌≡◌ {A = Option SqlType} (cond b (at q k) (at r k)) (at r k)) [ true ↦ λ e. ap (λ z. at z k) (sym (eqb-true r q e)) | false ↦ λ e. refl ] refl))

module _ (g : QueryGraph) (u : EachOnce (numbers g.boxes)) (f : fault g ≡ None) (n : Node) (q : ℕ) (cells : List Term) (m : MaySubstitute g n q cells) where
  abbrev bs : List Node
  bs = g.boxes

  abbrev h : Node → Node
  h = at n.id (put_cells q cells)

  abbrev L : Lookup
  L = lookup_of bs

  ok : Sound bs g.root × Typed bs × Shaped bs g.root
  ok = (sound-checked g u).0 f

  no-nodes : (list_any (names q) n.parts.head ≡ false) × (list_any (names_cond q) n.parts.conds.items ≡ false)
  no-nodes = or_parts (list_any (names q) n.parts.head) (list_any (names_cond q) n.parts.conds.items) m.no_node

  cell-same : (x : Term) → In x n.parts.head → term_type L (substituted q cells x) ≡ term_type L x
  cell-same x i = term-mixed L L q cells x (any-none (names q) x n.parts.head no-nodes.0 i) (λ k t. m.types k (or_left (list_any (reads_at q k) n.parts.head) (list_any (reads_at_cond q k) n.parts.conds.items) (any-from (reads_at q k) x n.parts.head i t))) ∙ ap (λ at. term_type at x) (mixed-same L q cells)

  cond-same : (x : Cond) → In x n.parts.conds.items → cond_fits L (substituted_cond q cells x) ≡ cond_fits L x
  cond-same x i = cond-mixed L L q cells x (any-none (names_cond q) x n.parts.conds.items no-nodes.1 i) (λ k t. m.types k (or_right (list_any (reads_at q k) n.parts.head) (list_any (reads_at_cond q k) n.parts.conds.items) (any-from (reads_at_cond q k) x n.parts.conds.items i t))) ∙ ap (λ at. cond_fits at x) (mixed-same L q cells)

  form : PartForm bs g.root n (put_cells q cells n)
  form =
      let a = and_parts (list_all (λ x. is_known (term_type L x)) n.parts.head) (list_all (cond_fits L) n.parts.conds.items && arms_agree (types_of bs) n.parts.kind n.quants) (ok.1 n m.within) in
      record {
        stay = types-put L L q cells n.parts.kind n.parts.head cell-same;
        magic = refl;
        cells = all-put (λ x. is_known (term_type L x)) (λ x. is_known (term_type L x)) (substituted q cells) n.parts.head (λ x i. ap is_known (cell-same x i)) ∙ a.0;
        conds = all-put (cond_fits L) (cond_fits L) (substituted_cond q cells) n.parts.conds.items cond-same ∙ (and_parts (list_all (cond_fits L) n.parts.conds.items) (arms_agree (types_of bs) n.parts.kind n.quants) a.1).0;
        columns = m.columns;
        shape = m.shape;
        permit = ok.2.unseen n m.within;
      }

  pub substitute-formed : fault (substitute n.id q cells g) ≡ None
  substitute-formed =
      let e = change-at n.id (put_cells q cells) bs (once-each bs ok.0.ordered) in
      subst (λ z. fault (record g { boxes = z }) ≡ None) (sym e) (parts-open g u f h m.parts
      (λ y i. elim (g-cases bs ok.0.ordered n m.within (put_cells q cells) (λ y. refl) y i) [
        | inl d ↦ inr (subst (λ z. PartForm bs g.root z (h y)) (sym d.0) (subst (λ z. PartForm bs g.root n z) (sym d.1) form))
        | inr d ↦ inl d.1
      ])
      (subst FedOpen e m.fed_open))
