-- Graphs that class magic keeps as they are asked to be: calm, without `single`, and with firm boxes alone under S quantifiers.
use Rattle.std.specs.Prelude.{ℕ, ◌≡◌, ◌&&◌, Bool, true, false, List, []}
use Rattle.std.specs.List.{list_all}
use Rattle.list_laws.specs.Lists.{In}
use Rattle.qgm_terms.specs.Terms as t
use Rattle.qgm_terms.specs.Terms.{Term, int, text, null_int, null_text, col, scalar, both, minus_of, choose, count_all, fold, Arms, no_arm, arm, Cond, always, compare, is_null, and, or, not, some, every}
use Rattle.qgm_core.specs.Boxes.{QueryGraph}
use Rattle.qgm_core.specs.Kinds.{is_F, is_S}
use Rattle.qgm_core.specs.declared.kinds.BoxKind.TheVariants.{Group, Select}
use Rattle.qgm_core.specs.declared.kinds.Role.TheVariants.{Plain}
use Rattle.qgm_core.specs.declared.node.Node.{Node}
use Rattle.qgm_core.specs.declared.owned.OwnedQuant.{OwnedQuant}
use Rattle.qgm_props.specs.Calm.{calm_box, is_closed}
use Rattle.qgm_props.specs.Inferred.{Facts}
use Rattle.qgm_props.specs.Laws.{Tells}

-- ---- no `single`

abbrev pub not_single : t.Aggregate → Bool
not_single t.single = false
not_single t.count = true
not_single t.sum = true
not_single t.avg = true
not_single t.least = true
not_single t.greatest = true

-- no aggregate within is `single`
abbrev mutual
  pub single_free : Term → Bool
  single_free (int n) = true
  single_free (text s) = true
  single_free null_int = true
  single_free null_text = true
  single_free (col q k) = true
  single_free (scalar q) = true
  single_free (both o x y) = single_free x && single_free y
  single_free (minus_of x) = single_free x
  single_free (choose s x) = single_free_arms s && single_free x
  single_free count_all = true
  single_free (fold f d x) = not_single f && single_free x

  pub single_free_arms : Arms → Bool
  single_free_arms no_arm = true
  single_free_arms (arm p x s) = single_free_cond p && (single_free x && single_free_arms s)

  pub single_free_cond : Cond → Bool
  single_free_cond always = true
  single_free_cond (compare sign x y) = single_free x && single_free y
  single_free_cond (is_null x) = single_free x
  single_free_cond (and p q) = single_free_cond p && single_free_cond q
  single_free_cond (or p q) = single_free_cond p && single_free_cond q
  single_free_cond (not p) = single_free_cond p
  single_free_cond (some q p) = single_free_cond p
  single_free_cond (every q p) = single_free_cond p

abbrev pub has_no_single : Node → Bool
has_no_single n = list_all single_free n.parts.head && list_all single_free_cond n.parts.conds.items

-- ---- firm boxes

-- a box of exactly one row, whatever class magic does: a group without keys; a plain select without conditions over firm boxes, which ranges over closed boxes alone where it is closed itself
pub data IsFirm (boxes : List Node) : ℕ → Type 0 where
  grouped : (n : Node) (r : OwnedQuant) → In n boxes → In r n.quants → n.parts.kind ≡ Group 0 → IsFirm boxes n.id
  joined :
      (n : Node) → In n boxes → n.parts.kind ≡ Select → n.parts.role ≡ Plain → n.parts.conds.items ≡ []
      → ((r : OwnedQuant) → In r n.quants → is_F r.kind ≡ true → IsFirm boxes r.over)
      → (is_closed boxes n.id ≡ true → (r : OwnedQuant) → In r n.quants → is_closed boxes r.over ≡ true)
      → IsFirm boxes n.id

-- ---- settled graphs

-- of boxes and facts that are known of them
pub record SettledBox (boxes : List Node) (known : Facts) (root : ℕ) (n : Node) : Type 0 where
  pub calm : calm_box boxes known root n ≡ true
  pub no_single : has_no_single n ≡ true
  pub scalars : (r : OwnedQuant) → In r n.quants → is_S r.kind ≡ true → IsFirm boxes r.over

-- by what is inferred each box is settled
pub record IsSettled (g : QueryGraph) : Type 0 where
  pub known : Facts
  pub tells : Tells known g.boxes
  pub each : (n : Node) → In n g.boxes → SettledBox g.boxes known g.root n
