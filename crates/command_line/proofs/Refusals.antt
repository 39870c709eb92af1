-- The same refusal of two calls.
use Rattle.std.proofs.Common.{◌≡◌, ap, Err}
use Rattle.std.specs.Prelude.{IsErrOf}

pub same_refusal : {A B E : Type 0} (e x : E) → IsErrOf {T = A} (Err e) x → IsErrOf {T = B} (Err e) x
same_refusal e x h = let is : e ≡ x = cc in ap Err is
