-- Indexes of rows, some of which have no hash.
use Rattle.std.proofs.Common.{◌≡◌, ◌<◌, ◌==◌, ◌∙◌, ℕ, zero, suc, true, false, List, [], ◌∷◌, Option, Some, None, map, get_or, length, unwrap_or, refl, sym, ap, arith}
use Rattle.std.specs.List.{list_all}
use Rattle.std.proofs.lemmas.List.{length-map}
use Rattle.row_index.specs.Ways.{AreAsMany, AreMarks, Indexes, StandsAs, is_marked, mark}
use Rattle.row_index.specs.declared.rows.RowIndex.{RowIndex}

map-at : (f : Option ℕ → ℕ) (keys : List (Option ℕ)) (k : ℕ) (o : Option ℕ) → k < length keys → o ≡ get_or keys k o → get_or (map f keys) k 0 ≡ f o
map-at f [] k o l e = absurd (omega (arith, l))
map-at f (x ∷ keys) zero o l e = ap f (sym e)
map-at f (x ∷ keys) (suc k) o l e = map-at f keys k o (omega (arith, l)) e

marked : (keys : List (Option ℕ)) (marks : Option (List ℕ)) (k : ℕ) → AreMarks keys marks → k < length keys → None ≡ get_or keys k None → is_marked marks k ≡ true
marked keys None k m l e = absurd (none-at keys k m l e)
  where
    none-at : (keys : List (Option ℕ)) (k : ℕ) → list_all (λ o. mark o == 0) keys ≡ true → k < length keys → None ≡ get_or keys k None → ⊥
    none-at [] k m l e = omega (arith, l)
    none-at (None ∷ keys) zero m l e = cc
    none-at (Some h ∷ keys) zero m l e = cc
    none-at (None ∷ keys) (suc k) m l e = cc
    none-at (Some h ∷ keys) (suc k) m l e = none-at keys k m (omega (arith, l)) e
marked keys (Some marks) k m l e = ap (λ (xs : List ℕ). get_or xs k 0 == 1) m ∙ ap (λ (n : ℕ). n == 1) (map-at mark keys k None l e)

unmarked : (keys : List (Option ℕ)) (marks : Option (List ℕ)) (k x : ℕ) → AreMarks keys marks → k < length keys → Some x ≡ get_or keys k (Some x) → is_marked marks k ≡ false
unmarked keys None k x m l e = refl
unmarked keys (Some marks) k x m l e = ap (λ (xs : List ℕ). get_or xs k 0 == 1) m ∙ ap (λ (n : ℕ). n == 1) (map-at mark keys k (Some x) l e)

many : (keys : List (Option ℕ)) (marks : Option (List ℕ)) → AreMarks keys marks → AreAsMany marks (length keys)
many keys None m = tt
many keys (Some marks) m = ap (λ (xs : List ℕ). length xs) m ∙ length-map keys mark

pub indexed : (keys : List (Option ℕ)) (ix : RowIndex) → ix.hashes ≡ map (λ o. unwrap_or o 0) keys → AreMarks keys ix.marks → Indexes keys ix
indexed keys ix h m = record {
  hashes = ap (λ (xs : List ℕ). length xs) h ∙ length-map keys (λ o. unwrap_or o 0);
  marks = many keys ix.marks m;
  each = λ k o l e. at k o l e;
}
  where
    at : (k : ℕ) (o : Option ℕ) → k < length keys → o ≡ get_or keys k o → StandsAs ix k o
    at k None l e = marked keys ix.marks k m l e
    at k (Some x) l e = (ap (λ (xs : List ℕ). get_or xs k 0) h ∙ map-at (λ o. unwrap_or o 0) keys k (Some x) l e, unmarked keys ix.marks k x m l e)
