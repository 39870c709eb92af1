-- Small graphs on which P1 and U2 may fire, and one of which a column may go.
use Rattle.std.proofs.Common.{◌≡◌, false, refl, sym, ap, subst, ◌∙◌, inl, inr, arith}
use Rattle.sql_value.specs.declared.cell.Kind.TheVariants as kind
use Rattle.qgm_core.specs.Edits.{drop_column}
use Rattle.qgm_core.specs.Kinds.{is_fed}
use Rattle.list_laws.specs.Lists.{In}
use Rattle.qgm_core.specs.declared.kinds.BoxKind.TheVariants.{Select}
use Rattle.qgm_core.specs.declared.node.Node.{Node}
use Rattle.qgm_core.specs.declared.owned.OwnedQuant.{OwnedQuant}
use Rattle.qgm_edit_laws.specs.Asked.{Shortened, broad}
use Rattle.qgm_edit_laws.specs.Changes.{is_set_op}
use Rattle.qgm_edit_laws.specs.FormedAdds.{types_asked}
use Rattle.qgm_edit_laws.specs.Graph.{reads_in}
use Rattle.list_laws.proofs.Booleans.{clash}

-- the one quantifier over box 2 is 1, of a select
over-named : (o : Node) (r : OwnedQuant) → In o broad.boxes → In r o.quants → r.over ≡ 2 → (r.id ≡ 1) × (o.parts.kind ≡ Select)
over-named o r i j e = elim i [
  | inl x ↦ elim (subst (λ (z : Node). In r z.quants) (sym x) j) [
    | inl y ↦ (ap (λ (z : OwnedQuant). z.id) (sym y), ap (λ (z : Node). z.parts.kind) (sym x))
    | inr y ↦ elim y [ ]
  ]
  | inr k ↦ elim k [
    | inl x ↦ elim (subst (λ (z : Node). In r z.quants) (sym x) j) [
      | inl y ↦ absurd (let a : 3 ≡ 2 = ap (λ (z : OwnedQuant). z.over) y ∙ e in omega arith)
      | inr y ↦ elim y [ ]
    ]
    | inr l ↦ elim l [ inl x ↦ elim (subst (λ (z : Node). In r z.quants) (sym x) j) [ ] | inr z ↦ elim z [ ] ]
  ]
]

pub shortened-example : Shortened
shortened-example = record {
  checked = refl;
  may = record {
    loses = record {
      within = inr (inl refl);
      from_one = omega arith;
      column = omega arith;
      wide = refl;
      unread = λ n o r i j k e. subst (λ q. reads_in q 2 n ≡ false) (sym (over-named o r j k e).0) (unread n i);
      no_arm = λ o r i j e. ap is_set_op (over-named o r i j e).1;
    };
    unasked = λ n o r i j k e. subst (λ q. types_asked q 2 n ≡ false) (sym (over-named o r j k e).0) (unasked n i);
    not_fed = refl;
    no_key = omega arith;
    left = λ h. absurd (let z : ⊥ = cc in z);
    fed_open = λ n i f a d e. absurd (clash (is_fed n.parts.role) f (plain n i));
  };
  after = refl;
  same = refl;
}
  where
    unread : (n : Node) → In n broad.boxes → reads_in 1 2 n ≡ false
    unread n i = elim i [
      | inl x ↦ subst (λ z. reads_in 1 2 z ≡ false) x refl
      | inr j ↦ elim j [ inl x ↦ subst (λ z. reads_in 1 2 z ≡ false) x refl | inr k ↦ elim k [ inl x ↦ subst (λ z. reads_in 1 2 z ≡ false) x refl | inr z ↦ elim z [ ] ] ]
    ]

    unasked : (n : Node) → In n broad.boxes → types_asked 1 2 n ≡ false
    unasked n i = elim i [
      | inl x ↦ subst (λ z. types_asked 1 2 z ≡ false) x refl
      | inr j ↦ elim j [ inl x ↦ subst (λ z. types_asked 1 2 z ≡ false) x refl | inr k ↦ elim k [ inl x ↦ subst (λ z. types_asked 1 2 z ≡ false) x refl | inr z ↦ elim z [ ] ] ]
    ]

    plain : (n : Node) → In n (drop_column 2 2 broad).boxes → is_fed n.parts.role ≡ false
    plain n i = elim i [
      | inl x ↦ subst (λ (z : Node). is_fed z.parts.role ≡ false) x refl
      | inr j ↦ elim j [ inl x ↦ subst (λ (z : Node). is_fed z.parts.role ≡ false) x refl | inr k ↦ elim k [ inl x ↦ subst (λ (z : Node). is_fed z.parts.role ≡ false) x refl | inr z ↦ elim z [ ] ] ]
    ]
