-- A firing of G1 keeps a graph settled.
use Rattle.std.proofs.Common.{ℕ, ◌≡◌, true, List, [], ◌∷◌, ◌++◌, map, None, sym, ap, subst, ◌∙◌, inl, inr}
use Rattle.std.proofs.lemmas.Bool.{cases_Bool}
use Rattle.list_laws.specs.Lists.{EachOnce}
use Rattle.list_laws.proofs.Booleans.{clash}
use Rattle.qgm_core.specs.Boxes.{QueryGraph, numbers}
use Rattle.qgm_core.specs.Edits.{compact, range}
use Rattle.qgm_core.specs.declared.kinds.QuantKind.TheVariants.{F}
use Rattle.qgm_core.specs.declared.node.Node.{Node}
use Rattle.qgm_core.specs.declared.owned.OwnedQuant.{OwnedQuant}
use Rattle.qgm_terms.specs.Terms.{Cond}
use Rattle.qgm_meaning.specs.Scope.{loose}
use Rattle.qgm_wellformed.specs.WellFormed.{fault}
use Rattle.qgm_wellformed.proofs.Faults.{finds-none}
use Rattle.qgm_edit_laws.specs.Graph.{Sound}
use Rattle.qgm_edit_laws.specs.Shaped.{Shaped, Typed}
use Rattle.qgm_edit_laws.proofs.CheckedParts.{shaped, sound, typed}
use Rattle.qgm_props.specs.Calm.{is_closed}
use Rattle.qgm_props.proofs.Settled.{all-told}
use Rattle.rule_api.specs.declared.place.Place.{Place}
use Rattle.rule_api.specs.declared.rule_id.RuleId.TheVariants.{G1}
use Rattle.rule_feed.specs.Feed.{fed_boxes}
use Rattle.rule_feed.specs.FeedActs as act
use Rattle.rule_feed.specs.FeedActs.{Feeds, FeedsAt, settled_node}
use Rattle.rule_feed.specs.FeedLaws.{FeedsOne}
use Rattle.rule_feed.specs.Split.{MaySplitSound, sizes_of, split_boxes}
use Rattle.rule_feed.proofs.FeedKeeps as keeps
use Rattle.rule_feed.proofs.FeedPlaced as placed
use Rattle.rule_feed.proofs.FeedSettled as feeding
use Rattle.rule_feed.proofs.FeedShaped.{feed-shaped}
use Rattle.rule_feed.proofs.FeedSound.{feed-sound}
use Rattle.rule_feed.proofs.SplitLooks as looks
use Rattle.rule_feed.proofs.SplitShaped.{split-shaped}
use Rattle.rule_feed.proofs.SplitSound as split
use Rattle.rule_feed.proofs.SplitTyped.{split-typed}
use Rattle.rule_calm.specs.Settled.{IsSettled}
use Rattle.rule_calm.specs.SettledKept.{KeepsSettled}
use Rattle.rule_calm.proofs.CompactSettled.{compact-settled}
use Rattle.rule_calm.proofs.FeedSettled.{feed-settled}
use Rattle.rule_calm.proofs.Shut.{shut-same}
use Rattle.rule_calm.proofs.SplitTurned.{split-all}
use Rattle.rule_calm.proofs.StepFacts.{closed-looks, looks-closed}

module _ (g : QueryGraph) (u : EachOnce (numbers g.boxes)) (f : fault g ≡ None) (p : Place) (h : QueryGraph) (b : Node) (us : List OwnedQuant) (r : OwnedQuant) (vs : List OwnedQuant) (a : FeedsAt p g h b us r vs) (settled : IsSettled g) where
  abbrev b1 : Node
  b1 = placed.b1 g u f p b us r vs a.may a.above a.below a.stands a.q a.s

  abbrev b2 : Node
  b2 = placed.b2 g u f p b us r vs a.may a.above a.below a.stands a.q a.s

  abbrev i : OwnedQuant
  i = placed.i g u f p b us r vs a.may a.above a.below a.stands a.q a.s

  abbrev ps : List OwnedQuant
  ps = placed.ps g u f p b us r vs a.may a.above a.below a.stands a.q a.s

  abbrev wide : OwnedQuant → ℕ
  wide = placed.wide g u f p b us r vs a.may a.above a.below a.stands a.q a.s

  abbrev xs : List Node
  xs = a.above ++ placed.b2 g u f p b us r vs a.may a.above a.below a.stands a.q a.s ∷ []

  abbrev ys : List Node
  ys = a.below

  abbrev before : List OwnedQuant
  before = act.before g.boxes (placed.b1 g u f p b us r vs a.may a.above a.below a.stands a.q a.s) r.over a.q a.s

  abbrev behind : List OwnedQuant
  behind = act.behind g.boxes (placed.b1 g u f p b us r vs a.may a.above a.below a.stands a.q a.s) r.over a.q a.s

  abbrev staying : List Cond
  staying = act.staying g.boxes (placed.b1 g u f p b us r vs a.may a.above a.below a.stands a.q a.s) r.over a.q a.s

  abbrev taken : List Cond
  taken = act.taken g.boxes (placed.b1 g u f p b us r vs a.may a.above a.below a.stands a.q a.s) r.over a.q a.s

  abbrev k : Node → Node
  k = act.after_split g.boxes (placed.b1 g u f p b us r vs a.may a.above a.below a.stands a.q a.s) r.over a.q a.s

  abbrev s' : Node
  s' = act.new_select g.boxes (placed.b1 g u f p b us r vs a.may a.above a.below a.stands a.q a.s) r.over a.q a.s

  abbrev hs : List Node
  hs = split_boxes xs ys (sizes_of wide ps) b2.id a.q a.s before ps behind staying taken

  abbrev b3 : Node
  b3 = keeps.b3 g u f p h b us r vs a

  abbrev g2 : QueryGraph
  g2 = record g { boxes = (a.above ++ placed.b2 g u f p b us r vs a.may a.above a.below a.stands a.q a.s ∷ []) ++ a.below }

  once2 : EachOnce (numbers g2.boxes)
  once2 = placed.once2 g u f p b us r vs a.may a.above a.below a.stands a.q a.s

  f2 : fault g2 ≡ None
  f2 = placed.f2 g u f p b us r vs a.may a.above a.below a.stands a.q a.s

  w2 : Sound g2.boxes g.root
  w2 = sound g2 once2 f2

  e1 : feeding.Settles g u f p b us r vs a.may (settled_node us r vs) i
  e1 = placed.e1 g u f p b us r vs a.may a.above a.below a.stands a.q a.s

  ms : MaySplitSound xs ys b2 wide a.q a.s before ps behind staying taken
  ms = placed.may-split g u f p b us r vs a.may a.above a.below a.stands a.q a.s a.new_s a.new_q

  w3 : Sound hs g.root
  w3 = keeps.sound3 g u f p h b us r vs a

  typed3 : Typed hs
  typed3 = split-typed xs ys g.root b2 wide a.q a.s before ps behind staying taken w2 (typed g2 once2 f2) ms

  shaped3 : Shaped hs g.root
  shaped3 = split-shaped xs ys g.root b2 wide a.q a.s before ps behind staying taken w2 (typed g2 once2 f2) (shaped g2 once2 f2) ms e1.plain

  -- b looks nothing up after the split
  closed-2 : is_closed g2.boxes b2.id ≡ true
  closed-2 = shut-same g.boxes g2.boxes g.root (sound g u f) w2 b2.id (placed.look2 g u f p b us r vs a.may a.above a.below a.stands a.q a.s b2.id) ∙ (ap (is_closed g.boxes) (e1.id b) ∙ a.may.closed)

  closed-3 : is_closed hs b2.id ≡ true
  closed-3 = looks-closed hs g.root w3 b2.id (λ y. elim (cases_Bool (loose hs b2.id y)) [
    | inr e ↦ e
    | inl e ↦ absurd (clash (looks.look xs ys g.root b2 wide a.q a.s before ps behind staying taken w2 ms b2.id y) (looks.less xs ys g.root b2 wide a.q a.s before ps behind staying taken w2 ms b2.id y e)
        (split.look-none xs ys g.root b2 wide a.q a.s before ps behind staying taken w2 ms b2.id y (closed-looks g2.boxes g.root w2 b2.id closed-2)))
  ])

  fed : FeedsOne (map k xs) (s' ∷ map k ys) g.root b3 s' (k a.c) (range a.q F a.s) i a.x
  fed = keeps.feeds g u f p h b us r vs a

  abbrev g4 : QueryGraph
  g4 = record g { boxes = fed_boxes (map k xs) (s' ∷ map k ys) b3 s' (k a.c) (range a.q F a.s) i a.x }

  w4 : Sound g4.boxes g.root
  w4 = feed-sound (map k xs) (s' ∷ map k ys) g.root w3 b3 s' (k a.c) (range a.q F a.s) i a.x fed

  shaped4 : Shaped g4.boxes g.root
  shaped4 = feed-shaped (map k xs) (s' ∷ map k ys) g.root w3 typed3 shaped3 b3 s' (k a.c) (range a.q F a.s) i a.x fed e1.plain

  settled-4 : IsSettled g4
  settled-4 = record {
    known = (all-told g4.boxes).0;
    tells = (all-told g4.boxes).1;
    each = feed-settled (map k xs) (s' ∷ map k ys) g.root w3 typed3 shaped3 b3 s' (k a.c) (range a.q F a.s) i a.x fed shaped4 e1.plain (all-told hs).0 (all-told hs).1 (split-all g u f p h b us r vs a settled) closed-3;
  }

  pub feed-is-settled : IsSettled h
  feed-is-settled = subst IsSettled (sym (a.after ∙ ap (λ (z : List Node). compact (record g { boxes = z })) (keeps.same-fed g u f p h b us r vs a))) (compact-settled g4 w4 shaped4 settled-4)

pub feed-keeps : KeepsSettled G1
unfolding Feeds
feed-keeps = λ p g h once wf s acts. feed-is-settled g once ((finds-none g once).1 wf) p h acts.0 acts.1.0 acts.1.1.0 acts.1.1.1.0 acts.1.1.1.1 s
