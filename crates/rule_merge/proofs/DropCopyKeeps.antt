-- M2 keeps what rules keep.
use Rattle.std.proofs.Common.{ℕ, ◌≡◌, cond, Bool, List, [], ◌∷◌, map, length, refl, sym, ap, subst, ◌∙◌, Some, None, ap₂}
use Rattle.row_bag.specs.declared.tables.Table.{Table}
use Rattle.qgm_core.specs.Boxes.{width, QueryGraph, is_quant}
use Rattle.qgm_core.specs.Kinds.{width_by}
use Rattle.qgm_core.specs.declared.node.Node.{Node}
use Rattle.qgm_core.specs.declared.owned.OwnedQuant.{OwnedQuant}
use Rattle.qgm_meaning.specs.Meaning.{bag_in, given_by, once_if, over_each, quant_rows, rows_by, rows_found}
use Rattle.qgm_meaning.specs.Values.{Environment, all_true, bound, head_cells, row_of}
use Rattle.qgm_meaning.specs.Widths.{Filled}
use Rattle.qgm_edit_laws.specs.Ranges.{moved, columns_from}
use Rattle.qgm_edit_laws.proofs.Edits.{boxes_without, without-one}
use Rattle.qgm_edit_laws.specs.Graph.{Sound}
use Rattle.std.specs.List.{list_any}
use Rattle.std.proofs.lemmas.Bool.{or_from}
use Rattle.row_bag.specs.Bags.{bind, keep, unit}
use Rattle.row_bag.proofs.Binds.{bind-unit, keep-yes}
use Rattle.list_laws.specs.Lists.{first, holds}
use Rattle.qgm_terms.specs.Terms.{Cond, Term}
use Rattle.qgm_terms.specs.Wanted.{reads, reads_cond}
use Rattle.qgm_edit_laws.specs.Keeps.{Keeps}
use Rattle.rule_merge.specs.Dropped.{MayDrop, dropped}
use Rattle.qgm_edit_laws.proofs.AllColumns.{columns-read, columns-row, length-columns, rows-alike}
use Rattle.qgm_edit_laws.proofs.Compact.{compact-bag, compact-sound}
use Rattle.rule_merge.proofs.DropCopyMeans.{Copies, moved-bag, moved-sound}
use Rattle.qgm_edit_laws.proofs.Scope.{unfold-bag}
use Rattle.qgm_core.specs.Edits.{compact}
use Rattle.qgm_core.specs.Free.{reached}
use Rattle.qgm_edit_laws.proofs.Widths.{filled-kept, wide, filled-map, filled-without}
use Rattle.list_laws.proofs.Membership.{eq-itself}
use Rattle.qgm_edit_laws.proofs.Rules.{same-agree}

pub filled-drop : (tables : List Table) (b c : ℕ) (ns : List Node) → Filled tables ns → Filled tables (map (moved b c) (boxes_without b ns))
filled-drop tables b c ns h = filled-map tables (moved b c) (λ n. refl) (boxes_without b ns) (filled-without tables b ns h)

module _ (g : QueryGraph) (w : Sound g.boxes g.root) (b c : Node) (r : OwnedQuant) (m : MayDrop g b c r) where
  pub copies : Copies g.boxes g.root b c r
  copies = record {
    in_b = m.in_b;
    in_c = m.in_c;
    a_select = m.a_select;
    alone = m.alone;
    is_f = m.is_f;
    over_c = m.over_c;
    not_root = m.not_root;
    reads_own = λ p f. or_from (list_any (reads p) b.parts.head) (list_any (reads_cond p) b.parts.conds.items) (ap (list_any (reads p)) m.all_columns ∙ columns-read r.id p 1 (width c) f) (ap (list_any (reads_cond p)) m.no_conds);
    widths = ap (λ k. width_by k (length b.parts.head)) m.a_select ∙ ap length m.all_columns ∙ length-columns r.id 1 (width c);
  }

  same-bag : (tables : List Table) → Filled tables g.boxes → (e : Environment) → bag_in tables g.boxes b.id e ≡ bag_in tables g.boxes c.id e
  same-bag tables filled e =
      let f = bag_in tables g.boxes in
      let s = quant_rows b f in
      unfold-bag tables g.boxes b w.ordered m.in_b e ∙ ap (λ k. rows_by k tables b s e) m.a_select
      ∙ ap (λ o. once_if o (over_each b.quants s (given_by s b) e)) m.not_enforced
      ∙ ap (λ z. over_each z s (given_by s b) e) m.alone
      ∙ ap (λ (t : Bool). cond t (bind (s r.id e) (λ v. given_by s b (bound r.id v e))) (given_by s b e)) m.is_f
      ∙ ap (λ rs. bind (rows_found (first (is_quant r.id) rs) f e) (λ v. given_by s b (bound r.id v e))) m.alone
      ∙ ap (λ (t : Bool). bind (rows_found (cond t (Some r) None) f e) (λ v. given_by s b (bound r.id v e))) (eq-itself r.id)
      ∙ ap (λ o. bind (f o e) (λ v. given_by s b (bound r.id v e))) m.over_c
      ∙ ap₂ (λ (conds : List Cond) (head : List Term). bind (f c.id e) (λ v. keep (all_true (λ q. s q (bound r.id v e)) conds (bound r.id v e)).t (unit (head_cells (λ q. s q (bound r.id v e)) head (bound r.id v e))))) m.no_conds m.all_columns
      ∙ rows-alike (λ x. keep x.level (keep (all_true (λ q. s q (bound r.id x.cells e)) [] (bound r.id x.cells e)).t (unit (head_cells (λ q. s q (bound r.id x.cells e)) (columns_from r.id 1 (width c)) (bound r.id x.cells e))))) (λ x. keep x.level (unit x.cells)) (f c.id e) (λ x i. ap (keep x.level) (
      keep-yes (unit (head_cells (λ q. s q (bound r.id x.cells e)) (columns_from r.id 1 (width c)) (bound r.id x.cells e)))
      ∙ ap (λ n. unit (head_cells (λ q. s q (bound r.id x.cells e)) (columns_from r.id 1 n) (bound r.id x.cells e))) (sym (wide g.boxes g.root w tables filled c m.in_c e x i))
      ∙ ap unit (columns-row (λ q. s q (bound r.id x.cells e)) r.id (bound r.id x.cells e) [] x.cells (ap (λ (t : Bool). cond t x.cells (row_of r.id e)) (eq-itself r.id)))))
      ∙ bind-unit (f c.id e)

  pub drop-keeps : Keeps g (dropped b c g)
  drop-keeps =
      let bs = map (moved b.id c.id) (boxes_without b.id g.boxes) in
      let n = moved-sound g.boxes g.root w b c r copies in
      subst (λ (z : List Node). Keeps g (compact (record g { boxes = map (moved b.id c.id) z }))) (without-one b.id g.boxes w.ordered) (record {
        well = compact-sound bs g.root n;
        bag = λ tables filled. same-agree (compact-bag bs g.root n tables [] ∙ moved-bag g.boxes g.root w b c r copies tables (same-bag tables filled) []);
        bases = λ tables filled. filled-kept tables (λ x. holds x (reached (g.root ∷ []) bs)) bs (filled-drop tables b.id c.id g.boxes filled);
        names = refl;
        order = refl;
      })
