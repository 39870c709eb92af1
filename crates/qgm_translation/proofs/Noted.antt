-- What is noted of the boxes that are laid.
use Rattle.std.proofs.Common.{inl, inr, ◌≡◌, ◌≤◌, ◌<◌, ℕ, nat_lt, cond, Bool, false, [], refl, sym, subst, arith}
use Rattle.std.proofs.lemmas.Bool.{le-ltb, lt-ltb}
use Rattle.sql_meaning.specs.ResolvedTrees.{Query}
use Rattle.sql_meaning.specs.ResolvedTrees as q
use Rattle.qgm_core.specs.declared.node.Node.{Node}
use Rattle.qgm_translation.specs.Maps.{Map}
use Rattle.qgm_translation.specs.Shown as w
use Rattle.qgm_translation.specs.Shown.{ShowsBox, Thing, of_groups, of_operand, of_query, of_rows}
use Rattle.qgm_translation.specs.Sources.{Sources}
use Rattle.qgm_translation.specs.There.{AreFor, IsFor, LaidAs, Notes, both_noted, map_of, noted, unnoted}

module _ (sources : Sources) where
  pub as-itself : (thing : Thing) (m : Map) (b : ℕ) → LaidAs sources thing m b thing
  as-itself (of_query x) m b = inl refl
  as-itself (of_operand x) m b = refl
  as-itself (of_rows from by places ls) m b = refl
  as-itself (of_groups from by places ls) m b = refl

  module _ (below : ℕ → Thing → Map → Type 0) (n : Node) where
    -- a table or a view is shown through any map
    own-map : (thing : Thing) (m : Map) → ShowsBox sources below thing m n → ShowsBox sources below thing (map_of thing m) n
    own-map (of_query x) m h = h
    own-map (of_operand (q.named name)) m h = h
    own-map (of_operand (q.derived query)) m h = h
    own-map (of_operand (q.crossed x y)) m h = h
    own-map (of_operand (q.joined x y p)) m h = h
    own-map (of_operand (q.left_joined x y i p)) m h = h
    own-map (of_rows from by places ls) m h = h
    own-map (of_groups from by places ls) m h = h

    -- it shows what it is laid as
    shows-laid : (thing : Thing) (m : Map) (other : Thing) → LaidAs sources thing m n.id other → ShowsBox sources below thing m n → ShowsBox sources below other m n
    shows-laid (of_query x) m other (inl e) h = subst (λ t. ShowsBox sources below t m n) (sym e) h
    shows-laid (of_query x) m other (inr (inl e)) h = subst (λ t. ShowsBox sources below t m n) (sym e) h
    shows-laid (of_query x) m other (inr (inr v)) h =
        subst (λ t. ShowsBox sources below t m n) (sym v.is)
        (sym v.shared, subst (λ z. w.ShowsSource sources below v.name z n) (sym v.body) (subst (λ z. w.ShowsQuery sources below x z n) v.outermost h))
    shows-laid (of_operand x) m other e h = subst (λ t. ShowsBox sources below t m n) (sym e) h
    shows-laid (of_rows from by places ls) m other e h = subst (λ t. ShowsBox sources below t m n) (sym e) h
    shows-laid (of_groups from by places ls) m other e h = subst (λ t. ShowsBox sources below t m n) (sym e) h

    pub shows-there : (thing : Thing) (m : Map) (other : Thing) (what : ℕ → Thing) (seen : ℕ → Map) → LaidAs sources thing m n.id other → IsFor what seen n.id other m → ShowsBox sources below thing m n → ShowsBox sources below (what n.id) (seen n.id) n
    shows-there thing m other what seen fit there h =
        subst (λ t. ShowsBox sources below t (seen n.id) n) (sym there.0) (subst (λ z. ShowsBox sources below other z n) (sym there.1) (own-map other m (shows-laid thing m other fit h)))

-- ---- all that is noted is so of what is noted

-- a box, and what it is there for
pub record Note : Type 0 where
  pub thing : Thing
  pub map : Map

noted-up : (a b : ℕ) → Notes a b → a ≤ b
noted-up a b (unnoted c) = omega arith
noted-up a b (noted c thing m) = omega arith
noted-up a b (both_noted c d e x y) = (let i = noted-up c d x in let j = noted-up d e y in omega arith)

abbrev pub look : (a b : ℕ) → Notes a b → ℕ → Note → Note
look a b (unnoted c) j other = other
look a b (noted c thing m) j other = record { thing = thing; map = map_of thing m }
look a b (both_noted c d e x y) j other = cond (nat_lt j d) (look c d x j other) (look d e y j other)

are-noted : (other : Note) (what : ℕ → Thing) (seen : ℕ → Map) (a b : ℕ) (notes : Notes a b) → ((j : ℕ) → a ≤ j → j < b → (what j ≡ (look a b notes j other).thing) × (seen j ≡ (look a b notes j other).map)) → AreFor what seen a b notes
are-noted other what seen a b (unnoted c) f = tt
are-noted other what seen a b (noted c thing m) f = f c (omega arith) (omega arith)
are-noted other what seen a b (both_noted c d e x y) f =
    let i = noted-up c d x in
    let k = noted-up d e y in (
      are-noted other what seen c d x (λ j l t. subst (Is c d e x y j) (lt-ltb j d t) (f j l (omega arith))),
      are-noted other what seen d e y (λ j l t. subst (Is c d e x y j) (le-ltb j d l) (f j (omega arith) t)),
    )
  where
    Is : (c d e : ℕ) → Notes c d → Notes d e → ℕ → Bool → Type 0
    Is c d e x y j z = (what j ≡ (cond z (look c d x j other) (look d e y j other)).thing) × (seen j ≡ (cond z (look c d x j other) (look d e y j other)).map)

-- where nothing is noted
abbrev pub unread : Note
unread = record { thing = of_query (q.block false q.no_value q.no_from (q.all q.no_test)); map = [] }

abbrev pub whats : (n : ℕ) → Notes 0 n → ℕ → Thing
whats n notes j = (look 0 n notes j unread).thing

abbrev pub seens : (n : ℕ) → Notes 0 n → ℕ → Map
seens n notes j = (look 0 n notes j unread).map

pub all-noted : (n : ℕ) (notes : Notes 0 n) → AreFor (whats n notes) (seens n notes) 0 n notes
all-noted n notes = are-noted unread (whats n notes) (seens n notes) 0 n notes (λ j l t. (refl, refl))
