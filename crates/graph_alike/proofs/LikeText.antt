-- Expressions and conditions that differ in numbers alone have one text, one type, and names that stand for one another.
use Rattle.std.proofs.Common.{ℕ, ◌≡◌, ◌++◌, ◌&&◌, List, [], ◌∷◌, map, Option, refl, ap, ap₂, ◌∙◌}
use Rattle.std.specs.Prelude.{codes, decimal}
use Rattle.std.specs.List.{flat_map}
use Rattle.sql_value.specs.declared.order_key.SqlType.{SqlType}
use Rattle.graph_print.specs.TermText.{arms_text, cond_text, open_op, open_sign, open_aggregate, term_text}
use Rattle.graph_alike.proofs.Along.{Along, along-append, more, none}
use Rattle.qgm_terms.specs.Gathered.{listed_arms}
use Rattle.qgm_terms.specs.Named.{names, names_in, names_in_cond}
use Rattle.qgm_terms.specs.Terms.{Arms, Cond, Term}
use Rattle.graph_alike.specs.Alike.{Like, LikeArms, LikeCond, LikeConds, LikeHeads}
use Rattle.graph_alike.specs.Alike as k
use Rattle.qgm_wellformed.specs.Types.{Lookup, agree, aggregate_type, arms_fit, cond_fits, integer_if, is_integer, is_known, op_type, sign_fits, term_type, type_if}

module _ (R : ℕ → ℕ → Type 0) where
  -- ---- texts

  module _ (at to : ℕ → ℕ) (same : (q p : ℕ) → R q p → decimal (at q) ≡ decimal (to p)) where
    mutual
      pub like-text : (x y : Term) → Like R x y → term_text at x ≡ term_text to y
      like-text _ _ (k.like_int n) = refl
      like-text _ _ (k.like_text x) = refl
      like-text _ _ k.like_null_int = refl
      like-text _ _ k.like_null_text = refl
      like-text _ _ (k.like_col q p j r) = ap (λ z. codes "(col " ++ z ++ codes " " ++ decimal j ++ codes ")") (same q p r)
      like-text _ _ (k.like_scalar q p r) = ap (λ z. codes "(scalar " ++ z ++ codes ")") (same q p r)
      like-text _ _ (k.like_both op a b c d h i) = ap₂ (λ u v. open_op op ++ u ++ codes " " ++ v ++ codes ")") (like-text a c h) (like-text b d i)
      like-text _ _ (k.like_minus a c h) = ap (λ u. codes "(neg " ++ u ++ codes ")") (like-text a c h)
      like-text _ _ (k.like_choose s w a c h i) = ap₂ (λ u v. codes "(case " ++ u ++ codes "else " ++ v ++ codes ")") (like-arms-text s w h) (like-text a c i)
      like-text _ _ k.like_count = refl
      like-text _ _ (k.like_fold f e a c h) = ap (λ u. open_aggregate f e ++ u ++ codes ")") (like-text a c h)

      like-arms-text : (s w : Arms) → LikeArms R s w → arms_text at s ≡ arms_text to w
      like-arms-text _ _ k.like_no_arm = refl
      like-arms-text _ _ (k.like_arm c d a b s w h i j) =
          ap (λ u. u ++ codes " " ++ term_text at a ++ codes " " ++ arms_text at s) (like-cond-text c d h)
          ∙ ap₂ (λ u v. cond_text to d ++ codes " " ++ u ++ codes " " ++ v) (like-text a b i) (like-arms-text s w j)

      pub like-cond-text : (c d : Cond) → LikeCond R c d → cond_text at c ≡ cond_text to d
      like-cond-text _ _ k.like_always = refl
      like-cond-text _ _ (k.like_compare sign a b c d h i) = ap₂ (λ u v. open_sign sign ++ u ++ codes " " ++ v ++ codes ")") (like-text a c h) (like-text b d i)
      like-cond-text _ _ (k.like_is_null a c h) = ap (λ u. codes "(isnull " ++ u ++ codes ")") (like-text a c h)
      like-cond-text _ _ (k.like_and a b c d h i) = ap₂ (λ u v. codes "(and " ++ u ++ codes " " ++ v ++ codes ")") (like-cond-text a c h) (like-cond-text b d i)
      like-cond-text _ _ (k.like_or a b c d h i) = ap₂ (λ u v. codes "(or " ++ u ++ codes " " ++ v ++ codes ")") (like-cond-text a c h) (like-cond-text b d i)
      like-cond-text _ _ (k.like_not a c h) = ap (λ u. codes "(not " ++ u ++ codes ")") (like-cond-text a c h)
      like-cond-text _ _ (k.like_some q p a c r h) = ap₂ (λ u v. codes "(some " ++ u ++ codes " " ++ v ++ codes ")") (same q p r) (like-cond-text a c h)
      like-cond-text _ _ (k.like_every q p a c r h) = ap₂ (λ u v. codes "(every " ++ u ++ codes " " ++ v ++ codes ")") (same q p r) (like-cond-text a c h)

  -- ---- types

  module _ (at to : Lookup) (same : (q p j : ℕ) → R q p → at q j ≡ to p j) where
    mutual
      pub like-type : (x y : Term) → Like R x y → term_type at x ≡ term_type to y
      like-type _ _ (k.like_int n) = refl
      like-type _ _ (k.like_text x) = refl
      like-type _ _ k.like_null_int = refl
      like-type _ _ k.like_null_text = refl
      like-type _ _ (k.like_col q p j r) = same q p j r
      like-type _ _ (k.like_scalar q p r) = same q p 1 r
      like-type _ _ (k.like_both op a b c d h i) = ap₂ (λ u v. op_type op u v) (like-type a c h) (like-type b d i)
      like-type _ _ (k.like_minus a c h) = ap (λ u. integer_if (is_integer u)) (like-type a c h)
      like-type _ _ (k.like_choose s w a c h i) = ap₂ (λ u v. type_if u v) (ap (λ z. arms_fit at z s) (like-type a c i) ∙ like-arms (term_type to c) s w h) (like-type a c i)
      like-type _ _ k.like_count = refl
      like-type _ _ (k.like_fold f e a c h) = ap (λ u. aggregate_type f u) (like-type a c h)

      like-arms : (type : Option SqlType) (s w : Arms) → LikeArms R s w → arms_fit at type s ≡ arms_fit to type w
      like-arms type _ _ k.like_no_arm = refl
      like-arms type _ _ (k.like_arm c d a b s w h i j) =
          ap₂ (λ u v. u && v) (like-fits c d h) (ap₂ (λ u v. u && v) (ap (λ z. agree z type) (like-type a b i)) (like-arms type s w j))

      like-fits : (c d : Cond) → LikeCond R c d → cond_fits at c ≡ cond_fits to d
      like-fits _ _ k.like_always = refl
      like-fits _ _ (k.like_compare sign a b c d h i) = ap₂ (λ u v. sign_fits sign u v) (like-type a c h) (like-type b d i)
      like-fits _ _ (k.like_is_null a c h) = ap is_known (like-type a c h)
      like-fits _ _ (k.like_and a b c d h i) = ap₂ (λ u v. u && v) (like-fits a c h) (like-fits b d i)
      like-fits _ _ (k.like_or a b c d h i) = ap₂ (λ u v. u && v) (like-fits a c h) (like-fits b d i)
      like-fits _ _ (k.like_not a c h) = like-fits a c h
      like-fits _ _ (k.like_some q p a c r h) = like-fits a c h
      like-fits _ _ (k.like_every q p a c r h) = like-fits a c h

    pub like-types : (xs ys : List Term) → LikeHeads R xs ys → map (term_type at) xs ≡ map (term_type to) ys
    like-types [] [] h = refl
    like-types [] (y ∷ ys) h = absurd h
    like-types (x ∷ xs) [] h = absurd h
    like-types (x ∷ xs) (y ∷ ys) h = ap₂ (λ u v. u ∷ v) (like-type x y h.0) (like-types xs ys h.1)

  -- ---- names

  mutual
    like-names : (x y : Term) → Like R x y → Along R (names_in x) (names_in y)
    like-names _ _ (k.like_int n) = none
    like-names _ _ (k.like_text x) = none
    like-names _ _ k.like_null_int = none
    like-names _ _ k.like_null_text = none
    like-names _ _ (k.like_col q p j r) = more q p [] [] r none
    like-names _ _ (k.like_scalar q p r) = more q p [] [] r none
    like-names _ _ (k.like_both op a b c d h i) = along-append R (names_in a) (names_in c) (names_in b) (names_in d) (like-names a c h) (like-names b d i)
    like-names _ _ (k.like_minus a c h) = like-names a c h
    like-names _ _ (k.like_choose s w a c h i) = along-append R (listed_arms names s) (listed_arms names w) (names_in a) (names_in c) (like-arms-names s w h) (like-names a c i)
    like-names _ _ k.like_count = none
    like-names _ _ (k.like_fold f e a c h) = like-names a c h

    like-arms-names : (s w : Arms) → LikeArms R s w → Along R (listed_arms names s) (listed_arms names w)
    like-arms-names _ _ k.like_no_arm = none
    like-arms-names _ _ (k.like_arm c d a b s w h i j) =
        along-append R (names_in_cond c) (names_in_cond d) (names_in a ++ listed_arms names s) (names_in b ++ listed_arms names w) (like-cond-names c d h)
        (along-append R (names_in a) (names_in b) (listed_arms names s) (listed_arms names w) (like-names a b i) (like-arms-names s w j))

    like-cond-names : (c d : Cond) → LikeCond R c d → Along R (names_in_cond c) (names_in_cond d)
    like-cond-names _ _ k.like_always = none
    like-cond-names _ _ (k.like_compare sign a b c d h i) = along-append R (names_in a) (names_in c) (names_in b) (names_in d) (like-names a c h) (like-names b d i)
    like-cond-names _ _ (k.like_is_null a c h) = like-names a c h
    like-cond-names _ _ (k.like_and a b c d h i) = along-append R (names_in_cond a) (names_in_cond c) (names_in_cond b) (names_in_cond d) (like-cond-names a c h) (like-cond-names b d i)
    like-cond-names _ _ (k.like_or a b c d h i) = along-append R (names_in_cond a) (names_in_cond c) (names_in_cond b) (names_in_cond d) (like-cond-names a c h) (like-cond-names b d i)
    like-cond-names _ _ (k.like_not a c h) = like-cond-names a c h
    like-cond-names _ _ (k.like_some q p a c r h) = more q p (names_in_cond a) (names_in_cond c) r (like-cond-names a c h)
    like-cond-names _ _ (k.like_every q p a c r h) = more q p (names_in_cond a) (names_in_cond c) r (like-cond-names a c h)

  pub heads-names : (xs ys : List Term) → LikeHeads R xs ys → Along R (flat_map names_in xs) (flat_map names_in ys)
  heads-names [] [] h = none
  heads-names [] (y ∷ ys) h = absurd h
  heads-names (x ∷ xs) [] h = absurd h
  heads-names (x ∷ xs) (y ∷ ys) h = along-append R (names_in x) (names_in y) (flat_map names_in xs) (flat_map names_in ys) (like-names x y h.0) (heads-names xs ys h.1)

  pub conds-names : (xs ys : List Cond) → LikeConds R xs ys → Along R (flat_map names_in_cond xs) (flat_map names_in_cond ys)
  conds-names [] [] h = none
  conds-names [] (y ∷ ys) h = absurd h
  conds-names (x ∷ xs) [] h = absurd h
  conds-names (x ∷ xs) (y ∷ ys) h = along-append R (names_in_cond x) (names_in_cond y) (flat_map names_in_cond xs) (flat_map names_in_cond ys) (like-cond-names x y h.0) (conds-names xs ys h.1)
