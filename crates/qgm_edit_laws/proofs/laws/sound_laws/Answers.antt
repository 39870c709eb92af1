use Rattle.std.proofs.Common.{[]}
use Rattle.qgm_edit_laws.proofs.Adds.{added-sound}
use Rattle.qgm_edit_laws.proofs.Changes.{changed-sound, parts-sound, same-bags}
use Rattle.qgm_edit_laws.proofs.Column.{dropped-column}
use Rattle.qgm_edit_laws.proofs.Compact.{nearly, nearly-bag, nearly-compact}
use Rattle.qgm_edit_laws.proofs.Facts.{facts-pass, looks-stay}
use Rattle.qgm_edit_laws.proofs.Interposed.{interposed-sound}
use Rattle.qgm_edit_laws.proofs.Edits.{once-each}
use Rattle.qgm_edit_laws.proofs.OneBox.{change-at, owner-at}
use Rattle.qgm_edit_laws.proofs.Scope.{one-owner}
use Rattle.qgm_edit_laws.proofs.Turns.{first-own}
use Rattle.qgm_edit_laws.proofs.Order.{order-bags, order-sound}
use Rattle.qgm_edit_laws.proofs.Quants.{less-nearly, less-sound, put-sound, redirect-nearly, redirect-sound, turned-sound}
use Rattle.qgm_edit_laws.proofs.Scoped.{bounded, few-ids, nearly-by, scoped-of, sound-of}
use Rattle.qgm_edit_laws.proofs.laws.sound_laws.Goals as goal

pub returns-clause-scope : goal.returns-clause-scope
returns-clause-scope c = record {
  bounds = λ look bs root l s. bounded look bs l.once s;
  nearly = nearly-by;
  scoped = scoped-of;
  is_nearly = nearly;
  is_sound = sound-of;
}

pub returns-clause-edits : goal.returns-clause-edits
returns-clause-edits c = λ bs root w. (
  record {
    changed = λ g m look s settled used. changed-sound bs root g w.ordered w.rooted m look s settled used;
    parts = λ g m. parts-sound bs root w g m;
    quant_put = λ o i r m. put-sound bs root w o i r m;
    quant_lost = λ o q m closed. less-sound bs root w o q m closed;
    quants_turned = λ o f m. turned-sound bs root w o f m;
    redirected = λ o r d m closed. redirect-sound bs root w o r d m closed;
    moved_below = λ n d i b o. order-sound bs root w n i d b o;
    column_dropped = λ b k m g e. dropped-column bs root w b k m g e;
  },
  record {
    quant_lost = λ o q m. less-nearly bs root w o q m;
    redirected = λ o r d m. redirect-nearly bs root w o r d m;
  },
)

pub returns-clause-added : goal.returns-clause-added
returns-clause-added c = λ xs ys root w. record { added = λ s m sc closed. added-sound xs ys root w s m sc closed; interposed = λ s o d r m. interposed-sound xs ys root w s o d r m }

pub returns-clause-compact : goal.returns-clause-compact
returns-clause-compact c = record { sound = λ g w. nearly-compact g.boxes g.root w; bag = λ g w tables. nearly-bag g.boxes g.root w tables [] }

pub returns-clause-bags : goal.returns-clause-bags
returns-clause-bags c = λ bs root w. record {
  changed = λ tables g id s h b held e. same-bags tables bs g id w.ordered s.ordered h b held e;
  moved_below = λ n d i b o tables x h e. order-bags bs root w n i d b o tables x h e;
}

pub returns-clause-facts : goal.returns-clause-facts
returns-clause-facts c = facts-pass

pub returns-clause-looks : goal.returns-clause-looks
returns-clause-looks c = looks-stay

pub returns-clause-places : goal.returns-clause-places
returns-clause-places c = record {
  box = λ bs o b f. change-at b f bs (once-each bs o);
  owner = λ bs root w q o f i h. owner-at q o f bs (once-each bs w.ordered) i h (λ y j k. one-owner bs root w q y o j i k h);
  quant = λ bs root w o r i j. first-own r o.quants (few-ids bs o r.id (w.once r.id) i) j;
}
