-- What the code of G1's last step finds in a graph, and what it makes of it.
use Rattle.std.proofs.Common.{ℕ, suc, ◌≡◌, ◌++◌, Bool, true, List, filter, Option, None, Some, sym, ap, subst, ◌∙◌}
use Rattle.std.specs.Prelude.{option_map}
use Rattle.qgm_terms.specs.Conjuncts.{Conjuncts}
use Rattle.qgm_terms.specs.Terms.{Term}
use Rattle.qgm_core.specs.Boxes.{QueryGraph, has_box, numbers}
use Rattle.qgm_core.specs.Edits.{conds_in, head_in, put_terms, redirect, set_distinct, spare_in}
use Rattle.list_laws.specs.Lists.{In}
use Rattle.qgm_core.specs.declared.kinds.Distinct.{Distinct}
use Rattle.qgm_core.specs.declared.node.Node.{Node}
use Rattle.qgm_core.specs.declared.owned.OwnedQuant.{OwnedQuant}
use Rattle.qgm_core.specs.declared.parts.BoxParts.{BoxParts}
use Rattle.qgm_meaning.specs.Tags.{columns_from}
use Rattle.rule_feed.specs.Feed.{Numbers}
use Rattle.rule_feed.specs.FeedSteps.{put_each}
use Rattle.rule_feed.specs.FillSteps.{distinct_in, with_fed, with_magic}
use Rattle.rule_feed.proofs.FeedEditSteps.{held-same}
use Rattle.list_laws.proofs.Membership.{in-filter, in-holds}

-- ---- parts of a box that is found

pub distinct-is : (p : BoxParts) (o : Option Node) → Some p ≡ option_map (λ (n : Node). n.parts) o → p.distinct ≡ distinct_in o
distinct-is p None h = absurd (let z : ⊥ = cc in z)
distinct-is p (Some n) h = let e : p ≡ n.parts = cc in ap (λ (p : BoxParts). p.distinct) e

pub head-is : (p : BoxParts) (o : Option Node) → Some p ≡ option_map (λ (n : Node). n.parts) o → p.head ≡ head_in o
head-is p None h = absurd (let z : ⊥ = cc in z)
head-is p (Some n) h = let e : p ≡ n.parts = cc in ap (λ (p : BoxParts). p.head) e

pub conds-is : (p : BoxParts) (o : Option Node) → Some p ≡ option_map (λ (n : Node). n.parts) o → p.conds ≡ record { items = conds_in o; spare = spare_in o }
conds-is p None h = absurd (let z : ⊥ = cc in z)
conds-is p (Some n) h = let e : p ≡ n.parts = cc in ap (λ (p : BoxParts). p.conds) e

-- ---- numbers of boxes

pub held-filtered : (t : ℕ → Bool) (ns : List Node) (ids : List ℕ) → ids ≡ filter t (numbers ns) → (b : ℕ) → In b ids → has_box ns b ≡ true
held-filtered t ns ids e b i =
    let j = in-filter t b (numbers ns) (subst (λ l. In b l) e i) in
    sym (held-same b ns) ∙ in-holds b (numbers ns) j.0

-- ---- what is made

module _ (g : QueryGraph) (b s q : ℕ) (i : OwnedQuant) (x : Numbers) where
  abbrev pub made : List Term → List Term → ℕ → ℕ → List ℕ → List ℕ → Distinct → Conjuncts → List Term → QueryGraph
  made picked cells many deep reached beside distinct conds head =
      redirect i.id x.d (put_terms b conds head (set_distinct i.over distinct
      (put_each beside i.id (columns_from i.id (suc many) deep) (put_each reached q cells (with_fed b i.over x (columns_from x.dm 1 many ++ columns_from x.dc 1 deep) (with_magic b s x.m x.mq picked g))))))

  pub made-same : (picked picked' cells cells' : List Term) (many many' deep deep' : ℕ) (reached reached' beside beside' : List ℕ) (distinct distinct' : Distinct) (conds conds' : Conjuncts) (head head' : List Term)
      → picked ≡ picked' → cells ≡ cells' → many ≡ many' → deep ≡ deep' → reached ≡ reached' → beside ≡ beside' → distinct ≡ distinct' → conds ≡ conds' → head ≡ head'
      → made picked cells many deep reached beside distinct conds head ≡ made picked' cells' many' deep' reached' beside' distinct' conds' head'
  made-same p p' c c' n n' v v' r r' o o' d d' k k' h h' ep ec en ev er eo ed ek eh =
      ap (λ z. made z c n v r o d k h) ep
      ∙ ap (λ z. made p' z n v r o d k h) ec
      ∙ ap (λ z. made p' c' z v r o d k h) en
      ∙ ap (λ z. made p' c' n' z r o d k h) ev
      ∙ ap (λ z. made p' c' n' v' z o d k h) er
      ∙ ap (λ z. made p' c' n' v' r' z d k h) eo
      ∙ ap (λ z. made p' c' n' v' r' o' z k h) ed
      ∙ ap (λ z. made p' c' n' v' r' o' d' z h) ek
      ∙ ap (λ z. made p' c' n' v' r' o' d' k' z) eh
