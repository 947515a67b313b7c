-- Errors that are handed on.
use Rattle.std.proofs.Common.{◌≡◌, ◌∙◌, sym, Ok, Err, OnOk}
use Rattle.std.specs.Prelude.{Result}
use Rattle.std.specs.Result.{IsErrAnd}

pub err_same : {T E : Type 0} (r : Result T E) (e f : E) → IsErrAnd r (λ x. x ≡ e) → r ≡ Err f → e ≡ f
err_same (Ok x) e f h is = absurd h
err_same {T} {E} (Err x) e f h is = sym h ∙ (let same : x ≡ f = cc in same)

pub on_ok : {T E : Type 0} (r : Result T E) (P Q : Type 0) → (P → Q) → OnOk r P → OnOk r Q
on_ok (Ok x) P Q f h = f h
on_ok (Err e) P Q f h = tt
