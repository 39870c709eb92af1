use Rattle.std.proofs.Common.{◌≡◌, ◌∙◌, ap, sym, take}
use Rattle.std.specs.Prelude.{IsAscii, encode_utf8_all}
use Rattle.std.proofs.lemmas.Str.{encodes-IsAscii}
use Rattle.sql_value.proofs.character_string.CharacterString.ascii.Goals as goal

pub returns-in-Short-clause-utf8 : goal.returns-in-Short-clause-utf8
returns-in-Short-clause-utf8 c =
    let is = sym c.deref.ensures ∙ c.in-Short.is in
    let ascii : IsAscii (take c.in-Short.count c.in-Short.places) = rw is at c.self.invariant.1 in
    let seen : take c.in-Short.count c.in-Short.places ≡ c.args.self.now = rw is at c.self.view_is in
    sym (encodes-IsAscii (take c.in-Short.count c.in-Short.places) ascii) ∙ ap encode_utf8_all seen

pub returns-in-Long-clause-utf8 : goal.returns-in-Long-clause-utf8
returns-in-Long-clause-utf8 c =
    let is = sym c.deref.ensures ∙ c.in-Long.is in
    let ascii : IsAscii c.in-Long.bytes.value.items = rw is at c.self.invariant.1 in
    let seen : c.in-Long.bytes.value.items ≡ c.args.self.now = rw is at c.self.view_is in
    c.as_slice.ensures.value ∙ ap (λ v. v.items) c.deref-in-Long.ensures ∙ sym (encodes-IsAscii c.in-Long.bytes.value.items ascii) ∙ ap encode_utf8_all seen
