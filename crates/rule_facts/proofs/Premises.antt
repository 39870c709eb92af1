-- A sound graph meets what inference asks, and what is inferred to be clean in it is, with DISTINCT and without.
use Rattle.std.proofs.Common.{ℕ, ◌≡◌, ◌&&◌, cond, Bool, true, false, List, [], ◌∷◌, ◌++◌, length, refl, sym, ap, subst, ◌∙◌, inl, inr, arith}
use Rattle.std.proofs.lemmas.Bool.{and_parts}
use Rattle.std.specs.List.{list_all}
use Rattle.row_bag.specs.AsSets.{is_clean}
use Rattle.row_bag.specs.declared.tables.Table.{Table}
use Rattle.qgm_core.specs.Boxes.{Ordered, has_box, ids_of, width}
use Rattle.qgm_core.specs.Edits.{with_distinct}
use Rattle.qgm_core.specs.Kinds.{is_F, width_by}
use Rattle.list_laws.specs.Lists.{In}
use Rattle.qgm_core.specs.declared.kinds.BoxKind.{BoxKind}
use Rattle.qgm_core.specs.declared.kinds.BoxKind.TheVariants.{Base, Select, Group, SetOp, OuterJoin}
use Rattle.qgm_core.specs.declared.kinds.Distinct.TheVariants.{Preserve}
use Rattle.qgm_core.specs.declared.node.Node.{Node}
use Rattle.qgm_core.specs.declared.owned.OwnedQuant.{OwnedQuant}
use Rattle.qgm_edit_laws.specs.Graph.{ArmsBy, Sound}
use Rattle.qgm_edit_laws.proofs.Levels.{owner-of}
use Rattle.qgm_edit_laws.proofs.Ranks.{has-in}
use Rattle.qgm_edit_laws.proofs.Scope.{in-first, unfold-bag}
use Rattle.qgm_meaning.specs.Fits.{fits}
use Rattle.qgm_meaning.specs.Meaning.{bag_in, rows_of}
use Rattle.qgm_meaning.specs.Satisfies.{Satisfies}
use Rattle.qgm_meaning.specs.Values.{Environment}
use Rattle.qgm_meaning.specs.Widths.{Arms, ArmsOf, Even, width_in}
use Rattle.qgm_meaning.proofs.Ranked.{unfold-rank}
use Rattle.qgm_props.specs.Inferred.{Facts, Inferred, all_under_F, clean, clean_by, cond_free, of_box}
use Rattle.qgm_props.specs.Laws.{Premises}
use Rattle.qgm_props.proofs.Settled.{all-told, clean-fits, founded}
use Rattle.list_laws.proofs.Counting.{each-once, times-in}

module _ (bs : List Node) (root : ℕ) (w : Sound bs root) where
  -- ---- arms have the width of their set operation

  arms-in : (ns : List Node) → Ordered ns → ((n : Node) → In n ns → In n bs) → (d : ℕ) (rs : List OwnedQuant) → list_all (λ r. has_box ns r.over) rs ≡ true
      → ((m : Node) (r : OwnedQuant) → In r rs → In m ns → m.id ≡ r.over → width m ≡ d) → Arms d ns rs
  arms-in ns o sub d [] h a = tt
  arms-in ns o sub d (r ∷ rs) h a =
      let p = and_parts (has_box ns r.over) (list_all (λ r. has_box ns r.over) rs) h in
      let x = has-in r.over ns p.0 in (
        ap (width_in ns) (sym x.1.1) ∙ unfold-rank 0 (λ n below. width n) (λ n f g s. refl) ns x.0.id x.0 o (in-first x.0 ns o x.1.0) ∙ a x.0 r (inl refl) x.1.0 x.1.1,
        arms-in ns o sub d rs p.1 (λ m s i. a m s (inr i)),
      )

  even-in : (ns : List Node) → Ordered ns → ((n : Node) → In n ns → In n bs) → Even ns
  even-in [] o sub = tt
  even-in (n ∷ ns) o sub = (by n.parts.kind (λ m r i j e. w.arms n m r (sub n (inl refl)) i (sub m (inr j)) e), even-in ns o.2 (λ m i. sub m (inr i)))
    where
      by : (k : BoxKind) → ((m : Node) (r : OwnedQuant) → In r n.quants → In m ns → m.id ≡ r.over → ArmsBy k (width m) (width_by k (length n.parts.head))) → ArmsOf k n ns
      by (Base table) a = tt
      by Select a = tt
      by (Group keys) a = tt
      by (SetOp form types) a = arms-in ns o.2 (λ m i. sub m (inr i)) (length types) n.quants o.1 a
      by OuterJoin a = tt

  pub premises : (tables : List Table) → Satisfies tables bs → Premises tables bs
  premises tables s = record {
    bases = s;
    ordered = w.ordered;
    apart = λ n i. each-once (ids_of n) (λ q. (let a = times-in ids_of q n bs i in let d = w.once q in omega arith));
    found = owner-of bs w.once;
    even = even-in bs w.ordered (λ n i. i);
  }

  -- ---- clean boxes

  pub clean-without : (n : Node) → In n bs → Inferred bs (clean n.id) → (tables : List Table) → Satisfies tables bs → (env : Environment) → fits (bag_in tables bs) bs env ≡ true
      → is_clean (rows_of tables (with_distinct Preserve n) (bag_in tables bs) env) ≡ true
  clean-without n i h tables s env p = clean-fits tables bs (premises tables s) n i h Preserve env p

  pub clean-of : (n : Node) → In n bs → Inferred bs (clean n.id) → (tables : List Table) → Satisfies tables bs → (env : Environment) → fits (bag_in tables bs) bs env ≡ true → is_clean (bag_in tables bs n.id env) ≡ true
  clean-of n i h tables s env p = ap is_clean (unfold-bag tables bs n w.ordered i env) ∙ clean-fits tables bs (premises tables s) n i h n.parts.distinct env p

  under-F : (f : ℕ → Bool) (us : List OwnedQuant) (r : OwnedQuant) (vs : List OwnedQuant) → is_F r.kind ≡ true → all_under_F f (us ++ r ∷ vs) ≡ true → f r.over ≡ true
  under-F f [] r vs t h = (and_parts (f r.over) (all_under_F f vs) (sym (ap (λ b. cond b (f r.over && all_under_F f vs) (all_under_F f vs)) t) ∙ h)).0
  under-F f (u ∷ us) r vs t h = under-F f us r vs t (elim (is_F u.kind) as (λ b. cond b (f u.over && all_under_F f (us ++ r ∷ vs)) (all_under_F f (us ++ r ∷ vs)) ≡ true → all_under_F f (us ++ r ∷ vs) ≡ true) [
    | true ↦ λ k. (and_parts (f u.over) (all_under_F f (us ++ r ∷ vs)) k).1
    | false ↦ λ k. k
  ] h)

  -- a select is inferred to be clean over clean F boxes alone
  pub clean-under : (b c : Node) (us : List OwnedQuant) (r : OwnedQuant) (vs : List OwnedQuant) → In b bs → b.quants ≡ us ++ r ∷ vs → b.parts.kind ≡ Select → is_F r.kind ≡ true → r.over ≡ c.id → Inferred bs (clean b.id) → Inferred bs (clean c.id)
  clean-under b c us r vs i split select t over h =
      let k = all-told bs in
      let known : Facts = k.0 in
      let said : clean_by bs known b.parts.kind b ≡ true = sym (ap (of_box false (λ n. clean_by bs known n.parts.kind n)) (in-first b bs w.ordered i)) ∙ founded bs known k.1 (clean b.id) h in
      let parts = and_parts (all_under_F known.clean b.quants) (list_all (cond_free bs known false) b.parts.conds.items) (subst (λ z. clean_by bs known z b ≡ true) select said) in
      let under : all_under_F known.clean (us ++ r ∷ vs) ≡ true = subst (λ z. all_under_F known.clean z ≡ true) split parts.0 in
      subst (λ z. Inferred bs (clean z)) over ((k.1 (clean r.over)).0 (under-F known.clean us r vs t under))
