-- Rows under tags.
use Rattle.std.proofs.Common.{◌≡◌, ℕ, ◌+◌, min, Bool, true, false, cond, ◌&&◌, nat_eq, List, [], ◌∷◌, refl, ap, ap₂, sym, ◌∙◌, Decides}
use Rattle.std.proofs.lemmas.Bool.Decides.{Decides-and, Decides-like}
use mathlib.Core.Path.{fun_ext}
use Rattle.sql_value.specs.declared.level.Level.{Level}
use Rattle.sql_value.specs.declared.level.Level.TheVariants.{No, Cardinality, Division, Overflow, Yes}
use Rattle.sql_value.specs.Level.{least}
use Rattle.row_bag.specs.Bags.{Alike, bind, if_there, keep, same_level, total, unit}
use Rattle.row_bag.specs.Sets.{grouped, multiplicity, of_group, once}
use Rattle.row_bag.specs.declared.row.Row.{Row}
use Rattle.row_bag.proofs.Agreement.{alike-bind, alike-keep_no, alike-refl, alike-same, alike-trans, sum-monoid, total-bind, total-keep}
use Rattle.row_bag.proofs.Binds.{bind-bind, keep-keep, keep-yes, unit-bind}
use Rattle.row_bag.proofs.Counts.{agree-from_alike, alike-from_agree, count-total, hits}
use Rattle.row_bag.proofs.GreatestLevels.{total-once}
use Rattle.row_bag.proofs.Levels.{least-no}
use Rattle.row_bag.proofs.SetLaws.{count-once}
use Rattle.row_bag.specs.Tags.{TagLaws, same_pair, tagged, untagged}
use Rattle.row_bag.proofs.Images.{total-image}
use Rattle.row_bag.proofs.Standing.{bind-standing, stands-once, stands-some}

pub pair-decides : {U T : Type 0} {f : U → U → Bool} {g : T → T → Bool} → ((a b : U) → Decides (f a b) (a ≡ b)) → ((a b : T) → Decides (g a b) (a ≡ b)) → (a b : U × T) → Decides (same_pair f g a b) (a ≡ b)
pair-decides {f = f} {g = g} df dg a b = Decides-like (same_pair f g a b) (λ h i. (h.0 i, h.1 i)) (λ h. (ap (λ x. x.0) h, ap (λ x. x.1) h)) (Decides-and (f a.0 b.0) (g a.1 b.1) (df a.0 b.0) (dg a.1 b.1))

-- what stands before a bind may be bound first
pub tagged-bind : {U A B : Type 0} (m : List (Row U)) (c : U → List (Row A)) (f : U × A → List (Row B)) → bind (tagged m c) f ≡ bind m (λ u. bind (c u) (λ a. f (u, a)))
tagged-bind m c f =
    bind-bind m (λ u. bind (c u) (λ a. unit (u, a))) f
    ∙ ap (bind m) (fun_ext (λ u. bind-bind (c u) (λ a. unit (u, a)) f ∙ ap (bind (c u)) (fun_ext (λ a. unit-bind (u, a) f))))

none_of : {T : Type 0} (w : T → Level → ℕ) (rs : List (Row T)) → ((t : T) (l : Level) → w t l ≡ 0) → total ◌+◌ 0 w rs ≡ 0
none_of w [] h = refl
none_of {T} w (r ∷ rs) h = ap₂ (λ a b. a + b) (at r.cells r.level) (none_of w rs h)
  where
    at : (t : T) (l : Level) → if_there 0 w t l ≡ 0
    at t No = refl
    at t Cardinality = h t Cardinality
    at t Division = h t Division
    at t Overflow = h t Overflow
    at t Yes = h t Yes

module _ {U T : Type 0} (same : U → U → Bool) (dec : (a b : U) → Decides (same a b) (a ≡ b)) where
  -- a weight that is nothing but at one tag
  total-tagged : (w : U × T → Level → ℕ) (u : U) → ((v : U) (t : T) (l : Level) → same v u ≡ false → w (v, t) l ≡ 0) → (xs : List (Row U)) (c : U → List (Row T)) →
      total ◌+◌ 0 w (tagged (once same xs) c) ≡ cond (nat_eq (multiplicity same u xs) 0) 0 (total ◌+◌ 0 (λ t l. w (u, t) l) (c u))
  total-tagged w u z xs c =
      total-bind sum-monoid w (once same xs) (λ v. bind (c v) (λ t. unit (v, t)))
      ∙ total-once same dec sum-monoid (λ v l. total ◌+◌ 0 w (keep l (bind (c v) (λ t. unit (v, t))))) u
      (λ v l s. total-keep sum-monoid w l (bind (c v) (λ t. unit (v, t))) ∙ total-image (λ p k. if_there 0 w p (least l k)) (λ t. (v, t)) (c v)
      ∙ none_of (λ t k. if_there 0 w (v, t) (least l k)) (c v) (λ t k. zero v t (least l k) s)) xs
      ∙ ap (cond (nat_eq (multiplicity same u xs) 0) 0) (ap (total ◌+◌ 0 w) (keep-yes (bind (c u) (λ t. unit (u, t)))) ∙ total-image w (λ t. (u, t)) (c u))
    where
      zero : (v : U) (t : T) (l : Level) → same v u ≡ false → if_there 0 w (v, t) l ≡ 0
      zero v t No s = refl
      zero v t Cardinality s = z v t Cardinality s
      zero v t Division s = z v t Division s
      zero v t Overflow s = z v t Overflow s
      zero v t Yes s = z v t Yes s

once_case : (z b : Bool) (n : ℕ) → cond b (min 1 (cond z 0 n)) 0 ≡ cond z 0 (cond b (min 1 n) 0)
once_case true true n = refl
once_case true false n = refl
once_case false true n = refl
once_case false false n = refl

module _ {U K : Type 0} (same : U → U → Bool) (dec : (a b : U) → Decides (same a b) (a ≡ b)) (same_k : K → K → Bool) (dec_k : (a b : K) → Decides (same_k a b) (a ≡ b)) where
  -- the tuples of tagged rows, each once, are the tagged tuples
  pub once-tagged : (xs : List (Row U)) (keys : U → List (Row K)) → Alike (once (same_pair same same_k) (tagged (once same xs) keys)) (tagged (once same xs) (λ u. once same_k (keys u)))
  once-tagged xs keys = alike-from_agree (same_pair same same_k) (pair-decides dec dec_k) (record {
    counts = λ p l n.
        count-once (same_pair same same_k) (pair-decides dec dec_k) p l (tagged (once same xs) keys)
        ∙ ap (λ x. cond (same_level Yes l) (min 1 x) 0)
        (total-tagged same dec (λ q m. cond (same_pair same same_k q p) 1 0) p.0 (λ v t m s. ap (λ b. cond (b && same_k t p.1) 1 0) s) xs keys
        ∙ ap (λ b. cond (nat_eq (multiplicity same p.0 xs) 0) 0 (total ◌+◌ 0 (λ t m. cond (b && same_k t p.1) 1 0) (keys p.0))) ((dec p.0 p.0).1 refl))
        ∙ once_case (nat_eq (multiplicity same p.0 xs) 0) (same_level Yes l) (multiplicity same_k p.1 (keys p.0))
        ∙ ap (cond (nat_eq (multiplicity same p.0 xs) 0) 0) (sym (count-once same_k dec_k p.1 l (keys p.0)) ∙ count-total same_k p.1 l n (once same_k (keys p.0)))
        ∙ sym (count-total (same_pair same same_k) p l n (tagged (once same xs) (λ u. once same_k (keys u)))
        ∙ total-tagged same dec (hits (same_pair same same_k) p l) p.0 (λ v t m s. ap (λ b. cond ((b && same_k t p.1) && same_level m l) 1 0) s) xs (λ u. once same_k (keys u))
        ∙ ap (λ b. cond (nat_eq (multiplicity same p.0 xs) 0) 0 (total ◌+◌ 0 (λ t m. cond ((b && same_k t p.1) && same_level m l) 1 0) (once same_k (keys p.0)))) ((dec p.0 p.0).1 refl));
  })

  module _ {T : Type 0} (key : T → K) where
    weigh-second : (w : T → Level → ℕ) (u : U) (t : T) (m : Level) → if_there 0 (λ (p : U × T) l. w p.1 l) (u, t) m ≡ if_there 0 w t m
    weigh-second w u t No = refl
    weigh-second w u t Cardinality = refl
    weigh-second w u t Division = refl
    weigh-second w u t Overflow = refl
    weigh-second w u t Yes = refl

    picked : (w : T → Level → ℕ) (u : U) (t : T) (l : Level) (b : Bool) → total ◌+◌ 0 (λ (p : U × T) l. w p.1 l) (keep l (cond b (unit (u, t)) [])) ≡ total ◌+◌ 0 w (keep l (cond b (unit t) []))
    picked w u t l true = ap (λ x. x + 0) (weigh-second w u t (least l Yes))
    picked w u t l false = refl

    -- a group of tagged rows is the group of the rows of its tag
    pub group-tagged : (xs : List (Row U)) (c : U → List (Row T)) (u : U) (k : K) → nat_eq (multiplicity same u xs) 0 ≡ false →
        Alike (untagged (of_group (same_pair same same_k) (λ (p : U × T). (p.0, key p.1)) (u, k) (tagged (once same xs) c))) (of_group same_k key k (c u))
    group-tagged xs c u k n = record {
      sums = λ w.
          total-image w (λ (p : U × T). p.1) (of_group (same_pair same same_k) (λ (p : U × T). (p.0, key p.1)) (u, k) (tagged (once same xs) c))
          ∙ total-bind sum-monoid (λ (p : U × T) l. w p.1 l) (tagged (once same xs) c) (λ p. cond (same_pair same same_k (p.0, key p.1) (u, k)) (unit p) [])
          ∙ total-tagged same dec (λ p l. total ◌+◌ 0 (λ (p : U × T) l. w p.1 l) (keep l (cond (same_pair same same_k (p.0, key p.1) (u, k)) (unit p) []))) u
          (λ v t l s. ap (λ b. total ◌+◌ 0 (λ (p : U × T) l. w p.1 l) (keep l (cond (b && same_k (key t) k) (unit (v, t)) []))) s) xs c
          ∙ ap (λ b. cond b 0 (total ◌+◌ 0 (λ t l. total ◌+◌ 0 (λ (p : U × T) l. w p.1 l) (keep l (cond (same u u && same_k (key t) k) (unit (u, t)) []))) (c u))) n
          ∙ ap (λ b. total ◌+◌ 0 (λ t l. total ◌+◌ 0 (λ (p : U × T) l. w p.1 l) (keep l (cond (b && same_k (key t) k) (unit (u, t)) []))) (c u)) ((dec u u).1 refl)
          ∙ ap (λ v. total ◌+◌ 0 v (c u)) (fun_ext (λ t. fun_ext (λ l. picked w u t l (same_k (key t) k))))
          ∙ sym (total-bind sum-monoid w (c u) (λ t. cond (same_k (key t) k) (unit t) []));
    }

    -- grouping for each tag is grouping by the tag and the key
    pub grouped-tagged : (V : Type 0) (agg : K → List (Row T) → V) → ((k : K) (rs ss : List (Row T)) → Alike rs ss → agg k rs ≡ agg k ss) → (xs : List (Row U)) (c : U → List (Row T)) →
        Alike (grouped (same_pair same same_k) (λ (p : U × T). (p.0, key p.1)) (λ q rs. (q.0, agg q.1 (untagged rs))) (tagged (once same xs) c)) (tagged (once same xs) (λ u. grouped same_k key agg (c u)))
    grouped-tagged V agg h xs c =
        alike-trans
        (alike-bind (alike-trans (alike-same (ap (once (same_pair same same_k)) keys_same)) (once-tagged xs (λ u. bind (c u) (λ t. unit (key t)))))
        (λ q. alike-refl (unit (row_of q))))
        (alike-trans (alike-same (bind-bind (once same xs) (λ u. bind (keys u) (λ k. unit (u, k))) (λ q. unit (row_of q))))
        (bind-standing same dec (once same xs) _ _ (λ u s.
        alike-same (bind-bind (keys u) (λ k. unit (u, k)) (λ q. unit (row_of q))
        ∙ ap (bind (keys u)) (fun_ext (λ k.
        unit-bind (u, k) (λ q. unit (row_of q))
        ∙ ap (λ v. unit (u, v)) (h k (untagged (of_group (same_pair same same_k) (λ (p : U × T). (p.0, key p.1)) (u, k) (tagged (once same xs) c))) (of_group same_k key k (c u)) (group-tagged xs c u k (stands-some same u xs (stands-once same dec u xs s))))
        ∙ sym (unit-bind (agg k (of_group same_k key k (c u))) (λ v. unit (u, v)))))
        ∙ sym (bind-bind (keys u) (λ k. unit (agg k (of_group same_k key k (c u)))) (λ v. unit (u, v)))))))
      where
        keys : U → List (Row K)
        keys u = once same_k (bind (c u) (λ t. unit (key t)))

        row_of : U × K → U × V
        row_of q = (q.0, agg q.1 (untagged (of_group (same_pair same same_k) (λ (p : U × T). (p.0, key p.1)) q (tagged (once same xs) c))))

        keys_same : bind (tagged (once same xs) c) (λ (p : U × T). unit (p.0, key p.1)) ≡ tagged (once same xs) (λ u. bind (c u) (λ t. unit (key t)))
        keys_same =
            bind-bind (once same xs) (λ u. bind (c u) (λ t. unit (u, t))) (λ (p : U × T). unit (p.0, key p.1))
            ∙ ap (bind (once same xs)) (fun_ext (λ u.
            bind-bind (c u) (λ t. unit (u, t)) (λ (p : U × T). unit (p.0, key p.1))
            ∙ ap (bind (c u)) (fun_ext (λ t. unit-bind (u, t) (λ (p : U × T). unit (p.0, key p.1)) ∙ sym (unit-bind (key t) (λ k. unit (u, k)))))
            ∙ sym (bind-bind (c u) (λ t. unit (key t)) (λ k. unit (u, k)))))

module _ {T : Type 0} {U : Type 0} (same : U → U → Bool) (dec : (a b : U) → Decides (same a b) (a ≡ b)) where
  -- over the tuples of a bag, each once, a test for one picks what it gives
  pub joined-back : (c : U) (g : U → List (Row T)) (rs : List (Row U)) → nat_eq (multiplicity same c rs) 0 ≡ false → Alike (bind (once same rs) (λ k. keep (cond (same k c) Yes No) (g k))) (g c)
  joined-back c g rs n = record {
    sums = λ w.
        total-bind sum-monoid w (once same rs) (λ k. keep (cond (same k c) Yes No) (g k))
        ∙ total-once same dec sum-monoid (λ k l. total ◌+◌ 0 w (keep l (keep (cond (same k c) Yes No) (g k)))) c
        (λ k l t. ap (total ◌+◌ 0 w) (keep-keep l (cond (same k c) Yes No) (g k)) ∙ ap (λ b. total ◌+◌ 0 w (keep (least l (cond b Yes No)) (g k))) t
        ∙ ap (λ m. total ◌+◌ 0 w (keep m (g k))) (least-no l) ∙ (alike-keep_no (g k)).sums w) rs
        ∙ ap (λ b. cond b 0 (total ◌+◌ 0 w (keep Yes (keep (cond (same c c) Yes No) (g c))))) n
        ∙ ap (total ◌+◌ 0 w) (keep-yes (keep (cond (same c c) Yes No) (g c)) ∙ ap (λ b. keep (cond b Yes No) (g c)) ((dec c c).1 refl) ∙ keep-yes (g c));
  }

pub tag-laws : (U T K V : Type 0) (same : U → U → Bool) (dec : (a b : U) → Decides (same a b) (a ≡ b)) (same_k : K → K → Bool) (dec_k : (a b : K) → Decides (same_k a b) (a ≡ b)) → TagLaws U T K V same same_k
tag-laws U T K V same dec same_k dec_k = record {
  bound = λ tags f g. tagged-bind tags f g;
  once_each = λ tags f. agree-from_alike (same_pair same same_k) (once-tagged same dec same_k dec_k tags f);
  groups = λ tags f key made h. grouped-tagged same dec same_k dec_k key V made h tags f;
  joined_back = λ tags f u s. joined-back same dec u f tags (stands-some same u tags s);
}
