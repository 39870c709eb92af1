-- No step preserves all, and so do two steps that each do.
use Rattle.std.proofs.Common.{refl, ◌∙◌}
use Rattle.qgm_core.specs.Boxes.{QueryGraph}
use Rattle.qgm_wellformed.specs.Sentences.{WellFormed}
use Rattle.rule_api.specs.Rules.{Preserves}

pub preserves-itself : (g : QueryGraph) → WellFormed g → Preserves g g
preserves-itself g w = record { formed = w; bag = λ tables s. record { counts = λ c level l. refl }; bases = λ tables s. s; names = refl; order = refl }

pub preserves-chained : (f g h : QueryGraph) → Preserves f g → Preserves g h → Preserves f h
preserves-chained f g h a b =
    record {
      formed = b.formed;
      bag = λ tables s. record { counts = λ c level l. (b.bag tables (a.bases tables s)).counts c level l ∙ (a.bag tables s).counts c level l };
      bases = λ tables s. b.bases tables (a.bases tables s);
      names = b.names ∙ a.names;
      order = b.order ∙ a.order;
    }
