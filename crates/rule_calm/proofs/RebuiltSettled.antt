-- A settled graph of which a few boxes are made anew stays settled where these are, and where no more is inferred of them before than after.
use Rattle.std.proofs.Common.{ℕ, ◌≡◌, Bool, true, false, List, ◌⊎◌, ap, subst, ◌∙◌, inl, inr}
use Rattle.std.specs.List.{list_all}
use Rattle.list_laws.specs.Lists.{In}
use Rattle.list_laws.proofs.Booleans.{clash}
use Rattle.qgm_core.specs.Kinds.{is_S}
use Rattle.qgm_core.specs.declared.node.Node.{Node}
use Rattle.qgm_core.specs.declared.owned.OwnedQuant.{OwnedQuant}
use Rattle.qgm_core.proofs.Reaching.{in-has, overs-held}
use Rattle.qgm_wellformed.specs.Shapes.{node_fits, nodes_of}
use Rattle.qgm_edit_laws.specs.Graph.{Sound}
use Rattle.qgm_edit_laws.specs.Rebuilds.{Rebuilds, StaysIn}
use Rattle.qgm_edit_laws.specs.Shaped.{Shaped}
use Rattle.qgm_edit_laws.proofs.Ranks.{has-in, same-box}
use Rattle.qgm_edit_laws.proofs.Rebuilt.{looks-exact, rebuilt}
use Rattle.qgm_edit_laws.proofs.ShapeParts.{shape-parts}
use Rattle.qgm_props.specs.Inferred.{Closed, Facts}
use Rattle.qgm_props.specs.Laws.{Tells}
use Rattle.rule_calm.specs.Settled.{IsFirm, SettledBox, has_no_single}
use Rattle.rule_calm.proofs.Framed.{Carried, Covers, Still, back, back-carried, clean-still, firm-single, free-still, kept-clean, kept-free, known-clean, known-free, still-names, still-settled}
use Rattle.rule_calm.proofs.Shut.{shut-same}

-- the nodes of a box are of its own quantifiers
pub nodes-fit : (bs : List Node) (root : ℕ) → Shaped bs root → (n : Node) → In n bs → list_all (node_fits n.quants) (nodes_of n) ≡ true
nodes-fit bs root sh n i = (shape-parts root bs n (sh.shapes n i)).nodes

module _ (bs hs : List Node) (root : ℕ) (w : Sound bs root) (v : Sound hs root) (sh : Shaped bs root) (kept : ℕ → Bool) (f g : Facts) (closed : Closed hs g)
    (settled : (n : Node) → In n bs → SettledBox bs f root n) (firm : (b : ℕ) → IsFirm bs b → kept b ≡ true → IsFirm hs b) where
  -- the box under an S quantifier of a box that stays has at most one row after
  one-under : (n : Node) → Still bs hs kept n → (r : OwnedQuant) → In r n.quants → is_S r.kind ≡ true → g.at_most_one r.over ≡ true
  one-under n s r i t = firm-single hs v.ordered g closed r.over (firm r.over ((settled n s.before).scalars r i t) (s.over r i))

  -- so it is covered
  pub still-covers : (n : Node) → Still bs hs kept n → Covers bs hs f g kept n
  still-covers n s = record {
    clean = λ k x h. known-clean hs v.ordered g closed n s.after (clean-still bs hs root w v kept (back bs hs f g kept) g carried n (still-names bs hs kept n s) fit single ns h);
    error_free = λ c k x l h. known-free hs v.ordered g closed n s.after c l (free-still bs hs root w v kept (back bs hs f g kept) g carried n (still-names bs hs kept n s) fit single ns (carried.clean n.id s.number) c h);
  }
    where
      fit : list_all (node_fits n.quants) (nodes_of n) ≡ true
      fit = nodes-fit bs root sh n s.before

      ns : has_no_single n ≡ true
      ns = (settled n s.before).no_single

      single : (r : OwnedQuant) → In r n.quants → is_S r.kind ≡ true → g.at_most_one r.over ≡ true
      single = one-under n s

      carried : Carried (back bs hs f g kept) g kept
      carried = back-carried bs hs f g kept

  -- so the facts of kept boxes are carried, where the other boxes are covered
  pub carries : Tells f bs → ((n : Node) → In n bs → Still bs hs kept n ⊎ Covers bs hs f g kept n) → Carried f g kept
  carries tells each = record { clean = kept-clean bs hs f g kept w.ordered tells covers; error_free = kept-free bs hs f g kept w.ordered tells covers }
    where
      covers : (n : Node) → In n bs → Covers bs hs f g kept n
      covers n i = elim (each n i) [ inl s ↦ still-covers n s | inr x ↦ x ]

  -- and boxes that stay are settled
  pub still-is-settled : Carried f g kept → (n : Node) → Still bs hs kept n → SettledBox hs g root n
  still-is-settled c n s = still-settled bs hs root w v kept f g c n s (settled n s.before) (λ r i t. firm r.over ((settled n s.before).scalars r i t) (s.over r i)) (firm-single hs v.ordered g closed)

-- ---- where a graph is rebuilt

module _ (bs hs : List Node) (root : ℕ) (kept : ℕ → Bool) (look : ℕ → ℕ → Bool) (fresh : ℕ → Bool) (w : Sound bs root) (m : Rebuilds bs hs root kept look fresh) where
  v : Sound hs root
  v = rebuilt bs hs root kept look fresh w m

  stays-still : (n : Node) → In n hs → StaysIn bs hs kept look n → Still bs hs kept n
  stays-still n i s = record {
    before = s.within;
    after = i;
    number = s.number;
    over = λ r j. (s.over r j).0;
    named = s.named;
    shut = shut-same bs hs root w v n.id (λ q. looks-exact bs hs root kept look fresh w m n.id q (in-has n hs i) ∙ s.same q);
    shut_over = λ r j. shut-same bs hs root w v r.over (λ q. looks-exact bs hs root kept look fresh w m r.over q (overs-held hs n r v.ordered i j) ∙ (s.over r j).1 q);
  }

  -- a box after it is made, or stays
  pub after-still : (n : Node) → In n hs → fresh n.id ≡ false → Still bs hs kept n
  after-still n i e = elim (m.each n i) [ inl s ↦ stays-still n i s | inr t ↦ absurd (clash (fresh n.id) t e) ]

  -- and so is a kept box before it
  pub before-still : (n : Node) → In n bs → kept n.id ≡ true → fresh n.id ≡ false → Still bs hs kept n
  before-still n i k e =
      let x = has-in n.id hs (m.held n i k) in
      let s = after-still x.0 x.1.0 (ap fresh x.1.1 ∙ e) in
      subst (Still bs hs kept) (same-box bs x.0 n w.ordered s.before i x.1.1) s
