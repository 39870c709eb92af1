-- Rows under tags.
use Rattle.std.specs.Prelude.{◌≡◌, ◌++◌, ◌&&◌, if◌then◌else◌, ℕ, Bool, true, List, [], take, drop, length}
use Rattle.sql_value.specs.declared.cell.Cell.{Cell}
use Rattle.sql_value.specs.declared.level.Level.TheVariants.{No, Yes}
use Rattle.row_bag.specs.Bags.{Agree, Alike, bind, keep, unit}
use Rattle.row_bag.specs.Joins.{or_else}
use Rattle.row_bag.specs.Sets.{grouped, once, same_cells}
use Rattle.row_bag.specs.declared.row.Row.{Row}
use Rattle.row_bag.specs.AsSets.{stands}
use Rattle.row_bag.specs.Filters.{passing}

-- for each tag the rows that f gives of it, each behind the tag
abbrev pub tagged : {U T : Type 0} → List (Row U) → (U → List (Row T)) → List (Row (U × T))
tagged tags f = bind tags (λ u. bind (f u) (λ t. unit (u, t)))

-- two tags, and two tuples behind them, are the same
abbrev pub same_pair : {U T : Type 0} → (U → U → Bool) → (T → T → Bool) → U × T → U × T → Bool
same_pair f g a b = f a.0 b.0 && g a.1 b.1

-- the rows without their tags
abbrev pub untagged : {U T : Type 0} → List (Row (U × T)) → List (Row T)
untagged rows = bind rows (λ p. unit p.1)

-- each tag before each of the rows that f gives of it, as one row
abbrev pub led : List (Row (List Cell)) → (List Cell → List (Row (List Cell))) → List (Row (List Cell))
led tags f = bind tags (λ tag. bind (f tag) (λ cells. unit (tag ++ cells)))

-- rows under tags, of which each is taken once
pub record TagLaws (U T K V : Type 0) (same : U → U → Bool) (same_key : K → K → Bool) : Type 0 where
  -- what is made of tagged rows is made under each tag
  pub bound : (tags : List (Row U)) (f : U → List (Row T)) (g : U × T → List (Row V)) → bind (tagged tags f) g ≡ bind tags (λ u. bind (f u) (λ t. g (u, t)))
  -- the tuples of tagged rows, each once, are under each tag its tuples, each once
  pub once_each :
      (tags : List (Row U)) (f : U → List (Row K))
      → Agree (same_pair same same_key) (once (same_pair same same_key) (tagged (once same tags) f)) (tagged (once same tags) (λ u. once same_key (f u)))
  -- a group by tag and key is, under each tag, the group by the key of the rows of this tag
  pub groups :
      (tags : List (Row U)) (f : U → List (Row T)) (key : T → K) (made : K → List (Row T) → V) → ((k : K) (xs ys : List (Row T)) → Alike xs ys → made k xs ≡ made k ys)
      → Alike (grouped (same_pair same same_key) (λ p. (p.0, key p.1)) (λ k rows. (k.0, made k.1 (untagged rows))) (tagged (once same tags) f)) (tagged (once same tags) (λ u. grouped same_key key made (f u)))
  -- the join back: of all tags the one that is the same gives its rows
  pub joined_back : (tags : List (Row U)) (f : U → List (Row T)) (u : U) → stands same u tags ≡ true → Alike (bind (once same tags) (λ v. keep (if same v u then Yes else No) (f v))) (f u)

-- of tags and rows in one tuple, where the tags have w cells: those that begin with a tag are the tag before its rows
abbrev pub LedBack : Type 0
LedBack =
    (w : ℕ) (tags : List (Row (List Cell))) (f : List Cell → List (Row (List Cell))) (tag : List Cell) → ((tag : List Cell) → stands same_cells tag tags ≡ true → length tag ≡ w)
    → stands same_cells tag tags ≡ true
    → Agree same_cells (passing (λ cells. if same_cells (take w cells) tag then Yes else No) (led (once same_cells tags) f)) (bind (f tag) (λ cells. unit (tag ++ cells)))

-- and grouped by tag and key they are, under each tag, the groups by key of its rows
abbrev pub LedGroups : Type 0
LedGroups =
    (w : ℕ) (tags : List (Row (List Cell))) (f : List Cell → List (Row (List Cell))) (key : List Cell → List Cell) (made : List Cell → List (Row (List Cell)) → List Cell)
    → ((tag : List Cell) → stands same_cells tag tags ≡ true → length tag ≡ w)
    → ((k : List Cell) (xs ys : List (Row (List Cell))) → Agree same_cells xs ys → made k xs ≡ made k ys)
    → Agree same_cells
    (grouped same_cells (λ cells. take w cells ++ key (drop w cells)) (λ k rows. take w k ++ made (drop w k) (bind rows (λ cells. unit (drop w cells)))) (led (once same_cells tags) f))
    (led (once same_cells tags) (λ tag. grouped same_cells key made (f tag)))

-- one row of each tag, also of one without rows: of the groups by tags alone that of the same tag, or where there is none what is made of nothing
abbrev pub LedWhole : Type 0
LedWhole =
    (w : ℕ) (tags : List (Row (List Cell))) (f : List Cell → List (Row (List Cell))) (made : List (Row (List Cell)) → List Cell)
    → ((tag : List Cell) → stands same_cells tag tags ≡ true → length tag ≡ w)
    → ((xs ys : List (Row (List Cell))) → Agree same_cells xs ys → made xs ≡ made ys)
    → Agree same_cells
    (bind (once same_cells tags) (λ tag.
    or_else
    (bind (grouped same_cells (take w) (λ k rows. k ++ made (bind rows (λ cells. unit (drop w cells)))) (led (once same_cells tags) f)) (λ cells. keep (if same_cells (take w cells) tag then Yes else No) (unit (tag ++ drop w cells))))
    (unit (tag ++ made []))))
    (led (once same_cells tags) (λ tag. unit (made (f tag))))
