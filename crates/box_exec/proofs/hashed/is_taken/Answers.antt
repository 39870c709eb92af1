use Rattle.std.proofs.Common.{◌≡◌, ◌+◌, ◌∙◌, [], List, Option, Some, ap, false, option_map, slice_get, subst, sym}
use Rattle.std.specs.Borrow.{Bor}
use Rattle.std.proofs.lemmas.Result.{IfOk-weaker}
use Rattle.box_exec.specs.Asked.{keys_at, keys_made, shown_keys}
use Rattle.box_exec.specs.Bound.{env_of}
use Rattle.box_exec.specs.Early.{rejects}
use Rattle.box_exec.specs.Lookup.{RejectsBy}
use Rattle.box_exec.specs.Taken.{Match, takes}
use Rattle.box_exec.specs.declared.key.Key.{Key}
use Rattle.box_exec.specs.declared.lookup.Keyed.{Keyed}
use Rattle.box_exec.proofs.Asking.{untaken-rejects}
use Rattle.box_exec.proofs.Lasting.{keyed-at}
use Rattle.box_exec.proofs.Lookups.{some-is}
use Rattle.box_exec.proofs.Rejections.{all-at}
use Rattle.box_exec.proofs.hashed.is_taken.Goals as goal

pub returns-in-Some-clause-passed : goal.returns-in-Some-clause-passed
returns-in-Some-clause-passed c =
    let at = c.args.at.now in
    let k = c.in-Some.k.now in
    let i = c.args.i in
    let l = c.args.l.now in
    let env = env_of c.args.env.now in
    let found : slice_get at.keyed.now i ≡ Some (Some k) = some-is (λ (x : Bor Keyed). slice_get at.keyed.now i ≡ Some (Some x.now)) c.keyed_at.result c.in-Some.k c.in-Some.is c.keyed_at.ensures.there in
    let fits = (keyed-at at c.requires.bound i l c.requires.within c.requires.at k found).0 in
    IfOk-weaker c.takes.result _ _
    (λ b h. λ no. untaken-rejects (rejects at.early.now (i + 1)) l.range.id k.keys.items c.args.cells.now env (λ key j. all-at (RejectsBy (rejects at.early.now (i + 1)) l.range.id) key k.keys.items fits j)
    (subst (λ (ks : List Key). takes (shown_keys ks) l.range.id env c.args.cells.now ≡ false) c.deref.ensures.value (sym h ∙ no)))
    c.takes.ensures

pub returns-in-Some-clause-taken : goal.returns-in-Some-clause-taken
returns-in-Some-clause-taken c = λ shut.
    let ks = c.args.at.now.keyed.now in
    let k = c.in-Some.k.now in
    let q = c.args.l.now.range.id in
    let env = env_of c.args.env.now in
    let cells = c.args.cells.now in
    let here : shown_keys k.keys.items ≡ keys_at ks c.args.i = sym (ap (λ (o : Option (Bor Keyed)). keys_made (option_map (λ x. x.now) o)) c.in-Some.is) ∙ c.keyed_at.ensures.keys in
    IfOk-weaker c.takes.result _ _
    (λ b h. h ∙ ap (λ (xs : List Key). takes (shown_keys xs) q env cells) c.deref.ensures.value ∙ ap (λ (ms : List Match). takes ms q env cells) here)
    c.takes.ensures

pub returns-in-None-clause-taken : goal.returns-in-None-clause-taken
returns-in-None-clause-taken c = λ shut.
    let none : [] ≡ keys_at c.args.at.now.keyed.now c.args.i = sym (ap (λ (o : Option (Bor Keyed)). keys_made (option_map (λ x. x.now) o)) c.in-None.is) ∙ c.keyed_at.ensures.keys in
    ap (λ (ms : List Match). takes ms c.args.l.now.range.id (env_of c.args.env.now) c.args.cells.now) none
