-- A settled graph stays settled without the boxes that the root doesn't reach.
use Rattle.std.proofs.Common.{ℕ, ◌≡◌, Bool, true, List, [], ◌∷◌, sym, ap, subst, inl, inr}
use Rattle.std.proofs.lemmas.Bool.{cases_Bool}
use Rattle.list_laws.specs.Lists.{In, holds}
use Rattle.qgm_core.specs.Boxes.{QueryGraph, has_box}
use Rattle.qgm_core.specs.Edits.{compact}
use Rattle.qgm_core.specs.Free.{reached}
use Rattle.qgm_core.specs.declared.node.Node.{Node}
use Rattle.qgm_core.specs.declared.owned.OwnedQuant.{OwnedQuant}
use Rattle.qgm_core.proofs.Reaching.{in-has, overs-held}
use Rattle.qgm_meaning.specs.Scope.{loose}
use Rattle.qgm_edit_laws.specs.Graph.{Sound}
use Rattle.qgm_edit_laws.specs.Shaped.{Shaped}
use Rattle.qgm_edit_laws.proofs.Compact.{Drops, compact-sound, in-kept, kept, kept-in, reaches}
use Rattle.qgm_edit_laws.proofs.Rebuilt.{one-quant}
use Rattle.qgm_edit_laws.proofs.Scope.{only-loose, unfold-loose}
use Rattle.qgm_edit_laws.proofs.TypedKept.{found}
use Rattle.qgm_props.specs.Inferred.{Facts}
use Rattle.qgm_props.specs.Laws.{Tells}
use Rattle.qgm_props.proofs.Settled.{all-told}
use Rattle.rule_calm.specs.Settled.{IsFirm, IsSettled}
use Rattle.rule_calm.proofs.Framed.{Carried, Still, firm-stays, gone-covers, still-firm, told-closed}
use Rattle.rule_calm.proofs.RebuiltSettled.{carries, still-is-settled}
use Rattle.rule_calm.proofs.Shut.{shut-same}

module _ (g : QueryGraph) (w : Sound g.boxes g.root) (sh : Shaped g.boxes g.root) (s : IsSettled g) where
  abbrev keep : ℕ → Bool
  keep b = holds b (reached (g.root ∷ []) g.boxes)

  abbrev ks : List Node
  ks = kept keep g.boxes

  v : Sound ks g.root
  v = compact-sound g.boxes g.root w

  drops : Drops keep g.boxes g.root
  drops = reaches g.boxes g.root w.ordered

  same-loose : (b : ℕ) → has_box ks b ≡ true → (q : ℕ) → loose ks b q ≡ loose g.boxes b q
  same-loose b h q = ap (λ (k : ℕ → Bool). k q) (only-loose (loose g.boxes) ks v.ordered (λ n i. sym (unfold-loose g.boxes n w.ordered (in-kept keep n g.boxes i).0)) b h)

  stays : (n : Node) → In n g.boxes → keep n.id ≡ true → Still g.boxes ks keep n
  stays n i k =
      let j = kept-in keep n g.boxes i k in
      record {
        before = i;
        after = j;
        number = k;
        over = λ r l. drops.closed n r i k l;
        named = λ r h o. (
            let x = found ks g.root v n j r.id h in
            let y = in-kept keep x.owner g.boxes x.owner_in in
            let same : r ≡ x.quant = one-quant g.boxes w.once r x.quant o (x.owner, (y.0, x.quant_in)) (sym x.is_q) in
            (drops.closed x.owner r y.0 y.1 (subst (λ (z : OwnedQuant). In z x.owner.quants) (sym same) x.quant_in), (x.quant, ((x.owner, (x.owner_in, x.quant_in)), (x.is_q, ap (λ (z : OwnedQuant). z.over) (sym same))))));
        shut = shut-same g.boxes ks g.root w v n.id (same-loose n.id (in-has n ks j));
        shut_over = λ r l. shut-same g.boxes ks g.root w v r.over (same-loose r.over (overs-held ks n r v.ordered j l));
      }

  firm : (b : ℕ) → IsFirm g.boxes b → keep b ≡ true → IsFirm ks b
  firm = firm-stays g.boxes ks keep (λ u i k. inl (still-firm g.boxes ks keep u (stays u i k)))

  abbrev known : Facts
  known = (all-told ks).0

  tells : Tells known ks
  tells = (all-told ks).1

  carried : Carried s.known known keep
  carried = carries g.boxes ks g.root w v sh keep s.known known (told-closed ks known tells) s.each firm s.tells (λ n i. elim (cases_Bool (keep n.id)) [
    | inl k ↦ inl (stays n i k)
    | inr e ↦ inr (gone-covers g.boxes ks s.known known keep n e)
  ])

  pub compact-settled : IsSettled (compact g)
  compact-settled = record {
    known = known;
    tells = tells;
    each = λ n i. (let x = in-kept keep n g.boxes i in still-is-settled g.boxes ks g.root w v sh keep s.known known (told-closed ks known tells) s.each firm carried n (stays n x.0 x.1));
  }
