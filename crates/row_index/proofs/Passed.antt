-- Rows that a way passes over.
use Rattle.std.proofs.Common.{◌≡◌, ℕ, ◌<◌, ◌≤◌, ◌||◌, Bool, false, List, Option, Some, None, get_or, length, refl, ap₂, arith}
use Rattle.std.specs.Borrow.{Bor}
use Rattle.std.proofs.lemmas.Bool.{ne_eqb}
use Rattle.row_index.specs.Chains.{IsNextOf}
use Rattle.row_index.specs.Ways.{IsNextMarked, IsNextOwn, Spans, StandsBy, StandsFrom, has_hash, is_marked, place, sees, sees_by}
use Rattle.row_index.specs.declared.rows.RowIndex.{RowIndex}
use Rattle.row_index.specs.declared.ways.Cursor.{Cursor}
use Rattle.row_index.specs.declared.ways.Way.{Way}

-- ---- where it was looked for from a later place on, up to what was found

next-later : (numbers : List ℕ) (number from to place : ℕ) → from ≤ to → to ≤ place → IsNextOf numbers number from place → IsNextOf numbers number to place
next-later numbers number from to place up le n = record {
  low = le;
  within = n.within;
  own = n.own;
  others = λ k low under. n.others k (omega (arith, up, low)) under;
}

own-later : (hash : Option ℕ) (hashes : List ℕ) (from to at : ℕ) → from ≤ to → to ≤ at → IsNextOwn hash hashes from at → IsNextOwn hash hashes to at
own-later None hashes from to at up le n = n
own-later (Some h) hashes from to at up le n = next-later hashes h from to at up le n

marked-later : (marks : Option (List ℕ)) (end from to at : ℕ) → from ≤ to → to ≤ at → IsNextMarked marks end from at → IsNextMarked marks end to at
marked-later None end from to at up le n = n
marked-later (Some marks) end from to at up le n = next-later marks 1 from to at up le n

own-low : (hash : Option ℕ) (hashes : List ℕ) (from at : ℕ) → from ≤ length hashes → IsNextOwn hash hashes from at → from ≤ at
own-low None hashes from at le n = omega (arith, le, n)
own-low (Some h) hashes from at le n = n.low

marked-low : (marks : Option (List ℕ)) (end from at : ℕ) → from ≤ end → IsNextMarked marks end from at → from ≤ at
marked-low None end from at le n = omega (arith, le, n)
marked-low (Some marks) end from at le n = n.low

own-within : (hash : Option ℕ) (hashes : List ℕ) (from at : ℕ) → IsNextOwn hash hashes from at → at ≤ length hashes
own-within None hashes from at n = omega (arith, n)
own-within (Some h) hashes from at n = n.within

-- ---- what is passed over

not-hash : (hash : Option ℕ) (hashes : List ℕ) (from at k : ℕ) → k < length hashes → IsNextOwn hash hashes from at → from ≤ k → k < at → has_hash hash hashes k ≡ false
not-hash None hashes from at k inside n low under = refl
not-hash (Some h) hashes from at k inside n low under = ne_eqb (get_or hashes k 0) h (n.others k low under)

not-marked : (marks : Option (List ℕ)) (end from at k : ℕ) → IsNextMarked marks end from at → from ≤ k → k < at → is_marked marks k ≡ false
not-marked None end from at k n low under = refl
not-marked (Some marks) end from at k n low under = ne_eqb (get_or marks k 0) 1 (n.others k low under)

module _ (end : ℕ) (hash : Option ℕ) where
  -- looked for from the place to which a cursor has come
  pub stands-at : (o : Option (Bor RowIndex)) (from : ℕ) (c : Cursor) → Spans o end → from ≤ end → StandsBy o hash end from c → StandsBy o hash end (place c) c
  stands-at None from c spans le s =
      let own = s.0 in
      let marked = s.1 in
      (omega (arith, own, marked, le), marked)
  stands-at (Some ix) from c spans le s =
      let long = spans.0 in
      let low = own-low hash ix.now.hashes from c.own (omega (arith, long, le)) s.0 in
      let low' = marked-low ix.now.marks end from c.marked le s.1 in (
        own-later hash ix.now.hashes from (place c) c.own (omega (arith, low, low')) (omega arith) s.0,
        marked-later ix.now.marks end from (place c) c.marked (omega (arith, low, low')) (omega arith) s.1,
      )

  stands-within : (o : Option (Bor RowIndex)) (from : ℕ) (c : Cursor) → Spans o end → from ≤ end → StandsBy o hash end from c → (from ≤ place c) × (place c ≤ end)
  stands-within None from c spans le s = let own = s.0 in let marked = s.1 in (omega (arith, own, marked, le), omega (arith, own, marked, le))
  stands-within (Some ix) from c spans le s =
      let long = spans.0 in
      let low = own-low hash ix.now.hashes from c.own (omega (arith, long, le)) s.0 in
      let low' = marked-low ix.now.marks end from c.marked le s.1 in
      let top = own-within hash ix.now.hashes from c.own s.0 in
      (omega (arith, low, low'), omega (arith, top, long))

  stands-passed : (o : Option (Bor RowIndex)) (from : ℕ) (c : Cursor) → Spans o end → StandsBy o hash end from c → (k : ℕ) → from ≤ k → k < place c → sees_by o hash k ≡ false
  stands-passed None from c spans s k low under = let own = s.0 in absurd (omega (arith, own, low, under))
  stands-passed (Some ix) from c spans s k low under =
      let top = own-within hash ix.now.hashes from c.own s.0 in
      ap₂ (λ (a b : Bool). a || b) (not-hash hash ix.now.hashes from c.own k (omega (arith, top, under)) s.0 low (omega (arith, under))) (not-marked ix.now.marks end from c.marked k s.1 low (omega (arith, under)))

-- a cursor stands at the next place that its way sees, and a way passes over what it doesn't see
pub seen-low : (w : Way) (from : ℕ) (c : Cursor) → Spans w.index w.end → from ≤ w.end → StandsFrom w from c → from ≤ place c
seen-low w from c spans le s = (stands-within w.end w.hash w.index from c spans le s).0

pub seen-within : (w : Way) (from : ℕ) (c : Cursor) → Spans w.index w.end → from ≤ w.end → StandsFrom w from c → place c ≤ w.end
seen-within w from c spans le s = (stands-within w.end w.hash w.index from c spans le s).1

pub seen-passed : (w : Way) (from : ℕ) (c : Cursor) → Spans w.index w.end → StandsFrom w from c → (k : ℕ) → from ≤ k → k < place c → sees w k ≡ false
seen-passed w from c spans s k low under = stands-passed w.end w.hash w.index from c spans s k low under

pub seen-again : (w : Way) (from : ℕ) (c : Cursor) → Spans w.index w.end → from ≤ w.end → StandsFrom w from c → StandsFrom w (place c) c
seen-again w from c spans le s = stands-at w.end w.hash w.index from c spans le s
