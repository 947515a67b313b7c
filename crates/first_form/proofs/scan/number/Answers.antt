use Rattle.std.proofs.Common.{◌≡◌, ◌≤◌, ℕ, length, get_or, subst, sym, Option, ◌<◌, ◌^◌, ◌≢◌}
use Rattle.std.specs.Option.{MatchOption}
use Rattle.std.specs.Fmt.{decimal}
use Rattle.std.specs.Str.Parse.{ParsesUnsigned}
use Rattle.first_form.proofs.scan.number.Goals.{else-digits-gt1-via-then-digits-gt1+else-digits-eq48, else-digits-gt1-via-else-digits-gt1}
use Rattle.first_form.proofs.Fronts.{at_none}
use Rattle.first_form.proofs.Factors.{not_written, number_read, err_of, ok_of, no_text}
use Rattle.first_form.proofs.scan.number.Goals as goal

pub returns-then-digits-eq48 : goal.returns-then-digits-eq48
returns-then-digits-eq48 c = not_written c.args.digits.now c.if-digits-gt1.true c.if-digits-eq48.true

pub returns-in_err-ok : goal.returns-in_err-ok
returns-in_err-ok c = at_none _ _ _ c.from_residual.ensures (no_text c.args.digits.now (err_of _ _ _ c.in_err-ok.ensures.value c.from_utf8.ensures.cases).1.0)

pub returns : goal.returns
returns c =
    let lead : get_or c.args.digits.now 0 0 ≡ 48 → length c.args.digits.now ≤ 1 =
    elim c.else-digits-gt1.branch [
      | else-digits-gt1-via-then-digits-gt1+else-digits-eq48 w ↦ λ z. absurd (w.if-digits-eq48.false z)
      | else-digits-gt1-via-else-digits-gt1 w ↦ λ z. w.if-digits-gt1.false
    ] in
    let text : c.in_ok-ok.field-0.now ≡ c.args.digits.now = (ok_of _ _ _ _ c.in_ok-ok.ensures.value c.from_utf8.ensures.cases).0 in
    let parsed : ParsesUnsigned 32 10 c.args.digits.now c.parse.result = rw (← text) c.parse.ensures.value.0 in
    let P : Option ℕ → Type 0 = λ o. MatchOption o ((n : ℕ) → n < 2 ^ 32 → c.args.digits.now ≢ decimal n) (λ n. c.args.digits.now ≡ decimal n) in
    subst P (sym c.ok-2.ensures.value) (number_read c.args.digits.now c.parse.result c.requires lead parsed)
