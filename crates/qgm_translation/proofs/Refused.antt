-- Right graphs and wrong ones.
use Rattle.std.proofs.Common.{refl}
use Rattle.qgm_translation.specs.Refused.{Refused}

pub refused : Refused
refused = record {
  not_in_built = record { kind = refl; plain = record { distinctness = refl; role = refl; numbered = (refl, refl) }; froms = ((refl, (refl, record { kind = refl; named = refl; types = refl; plain = record { distinctness = refl; role = refl; numbered = (refl, refl) }; bare = (refl, refl); quants = refl })), tt); subs = (refl, refl, refl, record { kind = refl; plain = record { distinctness = refl; role = refl; numbered = (refl, refl) }; froms = ((refl, (refl, record { kind = refl; named = refl; types = refl; plain = record { distinctness = refl; role = refl; numbered = (refl, refl) }; bare = (refl, refl); quants = refl })), tt); subs = refl; conds = refl; head = refl }, refl); conds = refl; head = refl };
  not_in_rows = refl;
  anti_join_refused = λ h. absurd (cc h.conds);
  anti_join_rows = refl;
  left_join_built = record { kind = refl; plain = record { distinctness = refl; role = refl; numbered = (refl, refl) }; froms = ((refl, record { kind = refl; plain = record { distinctness = refl; role = refl; numbered = (refl, refl) }; columns = refl; quants = (refl, refl, record { left = (refl, record { kind = refl; named = refl; types = refl; plain = record { distinctness = refl; role = refl; numbered = (refl, refl) }; bare = (refl, refl); quants = refl }); right = (refl, record { kind = refl; named = refl; types = refl; plain = record { distinctness = refl; role = refl; numbered = (refl, refl) }; bare = (refl, refl); quants = refl }); on = refl; conds = refl; head = refl }) }), tt); subs = refl; conds = refl; head = refl };
  left_join_rows = refl;
  filtered_join_refused = λ h. absurd (cc h.conds);
  filtered_join_rows = refl;
  having_built = record { kind = refl; plain = record { distinctness = refl; role = refl; numbered = (refl, refl) }; key = tt; columns = refl; upper = record { kind = refl; groups = record { kind = refl; plain = record { distinctness = refl; role = refl; numbered = (refl, refl) }; conds = refl; quants = (refl, (record { arguments = (refl, tt); rows = record { kind = refl; plain = record { distinctness = refl; role = refl; numbered = (refl, refl) }; froms = ((refl, (refl, record { kind = refl; named = refl; types = refl; plain = record { distinctness = refl; role = refl; numbered = (refl, refl) }; bare = (refl, refl); quants = refl })), tt); subs = refl; conds = refl; head = refl } }, refl)) }; subs = refl; conds = refl; head = refl } };
  having_rows = refl;
  having_below_refused = λ h. absurd (cc h.upper.conds);
  having_below_rows = refl;
  coalesced_built = record { kind = refl; plain = record { distinctness = refl; role = refl; numbered = (refl, refl) }; froms = ((refl, (refl, record { kind = refl; named = refl; types = refl; plain = record { distinctness = refl; role = refl; numbered = (refl, refl) }; bare = (refl, refl); quants = refl })), tt); subs = (refl, refl, refl, record { kind = refl; plain = record { distinctness = refl; role = refl; numbered = (refl, refl) }; froms = ((refl, (refl, record { kind = refl; named = refl; types = refl; plain = record { distinctness = refl; role = refl; numbered = (refl, refl) }; bare = (refl, refl); quants = refl })), tt); subs = refl; conds = refl; head = refl }, refl); conds = refl; head = refl };
  asked_twice_refused = λ h. absurd (cc h.subs.4);
  text_null_built = record { kind = refl; plain = record { distinctness = refl; role = refl; numbered = (refl, refl) }; froms = ((refl, (refl, record { kind = refl; named = refl; types = refl; plain = record { distinctness = refl; role = refl; numbered = (refl, refl) }; bare = (refl, refl); quants = refl })), tt); subs = refl; conds = refl; head = refl };
  integer_null_refused = λ h. absurd (cc h.head);
}
