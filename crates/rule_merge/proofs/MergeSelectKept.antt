-- M1 preserves.
use Rattle.std.proofs.Common.{ℕ, ◌==◌, ◌≡◌, cond, not, true, false, List, [], ◌∷◌, ◌++◌, map, None, refl, sym, ap, subst, eqb-true}
use Rattle.std.specs.List.{list_any}
use Rattle.std.proofs.lemmas.Bool.{and_parts, not-true}
use Rattle.row_bag.specs.declared.tables.Table.{Table}
use Rattle.qgm_wellformed.proofs.Faults.{finds-none}
use Rattle.qgm_wellformed.specs.Sentences.{WellFormed}
use Rattle.qgm_wellformed.specs.Shapes.{is_unfolded, kind_fits, role_fits}
use Rattle.qgm_wellformed.specs.WellFormed.{fault}
use Rattle.qgm_core.specs.Boxes.{QueryGraph, is_box, numbers}
use Rattle.qgm_core.specs.Free.{reached}
use Rattle.qgm_core.specs.Kinds.{is_F, is_enforce, is_magic, is_permit}
use Rattle.list_laws.specs.Lists.{EachOnce, In, holds, without}
use Rattle.qgm_core.specs.declared.kinds.BoxKind.TheVariants.{Select}
use Rattle.qgm_core.specs.declared.kinds.Role.{Role}
use Rattle.qgm_core.specs.declared.kinds.Role.TheVariants.{Plain, Magic, Fed}
use Rattle.qgm_core.specs.declared.node.Node.{Node}
use Rattle.qgm_core.specs.declared.owned.OwnedQuant.{OwnedQuant}
use Rattle.qgm_edit_laws.specs.Graph.{Sound, reads_in}
use Rattle.qgm_edit_laws.specs.Keeps.{Keeps}
use Rattle.rule_merge.specs.Merged.{Merges, merge_node, merged, merged_in}
use Rattle.rule_merge.specs.MergesDistinct.{MergesDistinct}
use Rattle.rule_merge.specs.MergesPermit.{MergesAny, MergesPermit}
use Rattle.rule_merge.specs.MergeShapes.{MergeFits}
use Rattle.qgm_edit_laws.specs.Shaped.{Shaped, Typed}
use Rattle.qgm_edit_laws.proofs.Edits.{without-one}
use Rattle.qgm_edit_laws.proofs.Formed.{sound-checked}
use Rattle.qgm_edit_laws.proofs.Levels.{some-in}
use Rattle.rule_merge.proofs.MergeSelectOfDistinct.{merge-distinct-keeps}
use Rattle.rule_merge.proofs.MergeSelectOfPermit.{merge-permit-keeps}
use Rattle.rule_merge.proofs.MergeSelectKeeps.{merge-keeps}
use Rattle.qgm_edit_laws.proofs.OwnShapes.{shape-parts}
use Rattle.rule_merge.proofs.MergeSelectFormed.{merge-any-formed, merge-distinct-formed, merge-formed}
use Rattle.qgm_edit_laws.proofs.WellFormedKept.{numbers-once}
use Rattle.qgm_meaning.specs.Satisfies.{Satisfies}
use Rattle.qgm_meaning.specs.Scope.{put_node}
use Rattle.qgm_meaning.specs.Searches.{bare}
use Rattle.qgm_terms.specs.Substitution.{cell_at}
use Rattle.qgm_terms.specs.Wanted.{has_aggregate, has_aggregate_cond}
use Rattle.rule_api.specs.Rules.{Preserves}
use Rattle.rule_merge.specs.MergeSelect.{IsMergeable, enforced, permitted, preserved}
use Rattle.rule_facts.proofs.Premises.{clean-of, clean-under, clean-without}
use Rattle.rule_merge.proofs.MergeSelectNodeFree.{bare-cell}
use Rattle.rule_facts.proofs.Preserved.{preserves-kept, satisfies-kept, satisfies-map, satisfies-without}

module _ (g : QueryGraph) (u : EachOnce (numbers g.boxes)) (w : WellFormed g) (b c : Node) (us : List OwnedQuant) (r : OwnedQuant) (vs : List OwnedQuant) (in-b : In b g.boxes) (m : IsMergeable g b c us r vs) where
  checked : Sound g.boxes g.root × Typed g.boxes × Shaped g.boxes g.root
  checked = (sound-checked g u).0 ((finds-none g u).1 w)

  sound : Sound g.boxes g.root
  sound = checked.0

  in-c : In c g.boxes
  in-c = (some-in (is_box r.over) g.boxes c m.under).0

  over-c : r.over ≡ c.id
  over-c = sym (eqb-true c.id r.over (some-in (is_box r.over) g.boxes c m.under).1)

  no-aggregate : list_any has_aggregate c.parts.head ≡ false
  no-aggregate =
      let a : kind_fits g.root g.boxes c Select ≡ true = subst (λ k. kind_fits g.root g.boxes c k ≡ true) m.select_c (shape-parts g.boxes g.root checked.2 c in-c).0 in
      let d = and_parts (is_unfolded c) (role_fits g.root g.boxes c c.parts.role) a in
      not-true (list_any has_aggregate c.parts.head) (and_parts (not (list_any has_aggregate c.parts.head)) (not (list_any has_aggregate_cond c.parts.conds.items)) d.0).0

  naked : (y : Node) → In y g.boxes → (y.id == b.id) ≡ false → (k : ℕ) → reads_in r.id k y ≡ true → bare (cell_at k c.parts.head) ≡ true
  naked y i f k h = bare-cell k c.parts.head no-aggregate (m.cells y i f k h)

  magic-of : (x : Role) → is_magic x ≡ true → x ≡ Magic
  magic-of Plain h = absurd (let z : ⊥ = cc in z)
  magic-of Magic h = refl
  magic-of Fed h = absurd (let z : ⊥ = cc in z)

  fits : MergeFits g b c us r vs
  fits = record {
    not_fed = m.not_fed;
    not_magic = ap is_magic m.plain_c;
    rows_alone = λ h. m.rows_alone (magic-of b.parts.role h);
    fed_open = m.fed_open;
  }

  abbrev h : QueryGraph
  h = merged_in b c us r vs g

  kind-same : (n : Node) → (merge_node b.id r.id c (us ++ (c.quants ++ vs)) n).parts.kind ≡ n.parts.kind
  kind-same n = elim (n.id == b.id) as (λ t. (λ (z : Node). z.parts.kind) (cond t (merged r.id c (us ++ (c.quants ++ vs)) n) (put_node r.id c.parts.head n)) ≡ n.parts.kind) [ true ↦ refl | false ↦ refl ]

  bases : (tables : List Table) → Satisfies tables g.boxes → Satisfies tables h.boxes
  bases tables s =
      let rest : List Node = without (is_box c.id) g.boxes in
      let bs : List Node = map (merge_node b.id r.id c (us ++ (c.quants ++ vs))) rest in
      satisfies-kept tables (λ x. holds x (reached (g.root ∷ []) bs)) bs
      (satisfies-map tables (merge_node b.id r.id c (us ++ (c.quants ++ vs))) kind-same rest
      (subst (λ z. Satisfies tables z) (without-one c.id g.boxes sound.ordered) (satisfies-without tables c.id g.boxes s)))

  from-keeps : Keeps g h → fault h ≡ None → Preserves g h
  from-keeps k f = preserves-kept g h (numbers-once h.boxes k.well.ordered) k f bases

  any : MergesAny g.boxes b c us r vs
  any = record {
    in_b = in-b;
    in_c = in-c;
    split = m.split;
    is_f = ap is_F m.is_f;
    over_c = over-c;
    select_b = m.select_b;
    select_c = m.select_c;
    one_use = m.one_use;
    naked = naked;
  }

  pub merge-preserves : Preserves g h
  merge-preserves = elim m.distinct [
    | preserved e ↦ (
        let d : Merges g.boxes b c us r vs = record {
          in_b = in-b;
          in_c = in-c;
          split = m.split;
          is_f = ap is_F m.is_f;
          over_c = over-c;
          select_b = m.select_b;
          select_c = m.select_c;
          one_use = m.one_use;
          not_enforced = ap is_enforce e;
          naked = naked;
        } in
        from-keeps (merge-keeps g sound b c us r vs d) (merge-formed g u ((finds-none g u).1 w) b c us r vs d fits))
    | enforced e ↦ (
        let d : MergesDistinct g.boxes b c us r vs = record {
          in_b = in-b;
          in_c = in-c;
          split = m.split;
          is_f = ap is_F m.is_f;
          over_c = over-c;
          select_b = m.select_b;
          select_c = m.select_c;
          one_use = m.one_use;
          enforced = ap is_enforce e;
          naked = naked;
        } in
        from-keeps (merge-distinct-keeps g sound b c us r vs d) (merge-distinct-formed g u ((finds-none g u).1 w) b c us r vs d fits))
    | permitted e i j ↦ (
        let d : MergesPermit g.boxes b c us r vs = record {
          any = any;
          permitted = ap is_permit e;
          clean = λ tables s env p. clean-of g.boxes g.root sound b in-b i tables s env p;
          clean_below = λ tables s env p. clean-without g.boxes g.root sound c in-c (clean-under g.boxes g.root sound b c us r vs in-b m.split m.select_b (ap is_F m.is_f) over-c i) tables s env p;
        } in
        let k = merge-permit-keeps g sound checked.2 b c us r vs d in
        record {
          formed = (finds-none h (numbers-once h.boxes k.well.ordered)).0 (merge-any-formed g u ((finds-none g u).1 w) b c us r vs any fits);
          bag = k.bag;
          bases = bases;
          names = k.names;
          order = k.order;
        })
  ]
