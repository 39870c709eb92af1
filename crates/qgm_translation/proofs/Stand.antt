-- The rows that names stand for have the stated number of cells.
use Rattle.std.proofs.Common.{◌≡◌, ℕ, List, [], ◌∷◌, Option, Some, None, ap, sym, ◌∙◌, subst}
use Rattle.row_bag.specs.Tables.{bag_named}
use Rattle.row_bag.specs.declared.tables.Table.{Table}
use Rattle.sql_meaning.specs.Groups.{no_group}
use Rattle.sql_meaning.specs.Joins.{kept}
use Rattle.sql_meaning.specs.ResolvedMeaning as k
use Rattle.sql_meaning.specs.ResolvedMeaning.{Bag}
use Rattle.sql_meaning.specs.ResolvedTrees.{Query}
use Rattle.sql_meaning.specs.ResolvedTrees as q
use Rattle.sql_meaning.specs.ResolvedViews.{ViewTree, known_at, viewed}
use Rattle.qgm_meaning.specs.Widths as landed
use Rattle.qgm_translation.specs.Law.{Counts, StandFor}
use Rattle.qgm_translation.specs.Sources.{Sources, how_many_values, width}
use Rattle.qgm_translation.specs.Views.{AreViews, EvenBody, EvenSets, FilledByName}
use Rattle.qgm_translation.proofs.Bridge.{source-same}
use Rattle.qgm_translation.proofs.Views.{stand}
use Rattle.qgm_translation.proofs.Wide.{Wide, all-wide}
use Rattle.qgm_translation.proofs.Widths.{list-length, wide-combined, wide-if, wide-intersected, wide-selected}

wide-rows : (known : List ℕ → Bag) (x : Query) (s : k.Scopes) → EvenSets x → Wide (width x) (k.rows known x s)
wide-rows known (q.block distinct list from by) s h =
    wide-if (how_many_values list) distinct _
    (wide-selected (how_many_values list) (λ row. k.truth known by (row ∷ s) no_group) (λ row. k.cells known list (row ∷ s) no_group) (k.frames known from s) (λ row. list-length known list (row ∷ s) no_group))
wide-rows known (q.grouped distinct list from by places n having) s h =
    wide-if (how_many_values list) distinct _
    (wide-selected (how_many_values list) (λ one. k.truth known having (one.key ∷ s) one.group) (λ one. k.cells known list (one.key ∷ s) one.group)
    (k.groups places n (kept (λ row. k.truth known by (row ∷ s) no_group) (k.frames known from s))) (λ one. list-length known list (one.key ∷ s) one.group))
wide-rows known (q.combine x op all n y) s h =
    wide-combined n op all (k.rows known x s) (k.rows known y s) (subst (λ z. Wide z (k.rows known x s)) h.2 (wide-rows known x s h.0)) (subst (λ z. Wide z (k.rows known y s)) h.3 (wide-rows known y s h.1))
wide-rows known (q.intersect x all n y) s h = wide-intersected n all (k.rows known x s) (k.rows known y s) (subst (λ z. Wide z (k.rows known x s)) h.2 (wide-rows known x s h.0))

wide-source : (known : List ℕ → Bag) (tables : List Table) (sources : Sources) (name : List ℕ) (body : Option Query) → FilledByName sources.columns tables → Counts sources name body → EvenBody body
    → landed.Wide (sources.columns name) (viewed known tables name body)
wide-source known tables sources name None filled counts even = subst (landed.Wide (sources.columns name)) (source-same (bag_named tables name)) (filled name)
wide-source known tables sources name (Some body) filled counts even = all-wide (sources.columns name) (k.rows known body []) (subst (λ z. Wide z (k.rows known body [])) counts (wide-rows known body [] even))

pub names-stand : (views : List ViewTree) (tables : List Table) (deep : List ℕ → ℕ) (depth : ℕ) (sources : Sources) → AreViews views deep depth sources → FilledByName sources.columns tables
    → StandFor tables sources (known_at views tables depth)
names-stand views tables deep depth sources are filled =
    let fixed : (name : List ℕ) → known_at views tables depth name ≡ viewed (known_at views tables depth) tables name (sources.body name)
    = λ name. stand views tables deep depth are.nests are.shallow name ∙ ap (viewed (known_at views tables depth) tables name) (sym (are.bodies name)) in
    record {
      wide = λ name. subst (landed.Wide (sources.columns name)) (sym (fixed name)) (wide-source (known_at views tables depth) tables sources name (sources.body name) filled (are.counted name) (are.even name));
      views = fixed;
    }
