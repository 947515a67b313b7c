-- Numbers as they are written.
use Rattle.std.proofs.Common.{◌≡◌, ◌≢◌, ℕ, ◌^◌, ◌<◌, ◌≤◌, true, List, length, get_or, sym, ap, ◌∙◌, arith, rules, subst, None, Some, Result, Ok, Err, zero, suc}
use Rattle.std.proofs.lemmas.Fmt.{parse-decimal, decimal-digits_value, digits_decimal, decimal_digit, first_decimal, decimal_injective, IsAscii-decimal}
use Rattle.std.proofs.lemmas.Str.Parse.{IsNumeralModel, numerals_by_value, parse_digits}
use Rattle.std.specs.Char.{is_ascii_digit}
use Rattle.std.specs.Fmt.{decimal}
use Rattle.std.specs.List.{list_all}
use Rattle.std.specs.Option.{MatchOption}
use Rattle.std.specs.Result.{result_ok, MatchResult}
use Rattle.std.specs.Str.{IsUtf8}
use Rattle.std.proofs.lemmas.Option.{none-some, same_Some}
use Rattle.std.proofs.lemmas.Str.{IsUtf8-from_ascii}
use Rattle.std.specs.Str.Parse.{ParsesUnsigned, digits_value}
use Rattle.first_form.specs.Scans.{IsFactorAt, IsRun}
use Rattle.first_form.proofs.Fronts.{run_same}

-- all are digits
abbrev AreDigits : List ℕ → Type 0
AreDigits ds = list_all is_ascii_digit ds ≡ true

own : IsNumeralModel AreDigits (digits_value 10)
own = numerals_by_value AreDigits (search rules)

short_zero : (n : ℕ) (ds : List ℕ) → n < 2 ^ 32 → ds ≡ decimal n → get_or ds 0 0 ≡ 48 → length ds ≤ 1
short_zero zero ds small is lead = let e = is ∙ decimal_digit 0 (omega arith) in rw e (omega arith)
short_zero (suc n) ds small is lead =
    let first : 48 < get_or (decimal (suc n)) 0 0 = first_decimal (suc n) (omega arith) (omega arith) in
    let e : get_or (decimal (suc n)) 0 0 ≡ 48 = subst (λ (z : List ℕ). get_or z 0 0 ≡ 48) is lead in
    absurd (omega arith)

pub not_written : (ds : List ℕ) → 1 < length ds → get_or ds 0 0 ≡ 48 → (n : ℕ) → n < 2 ^ 32 → ds ≢ decimal n
not_written ds long lead n small is = let h = short_zero n ds small is lead in omega arith

-- what is parsed, where no zero leads
pub number_read : {E : Type 0} (ds : List ℕ) (r : Result ℕ E) → list_all is_ascii_digit ds ≡ true → (get_or ds 0 0 ≡ 48 → length ds ≤ 1) → ParsesUnsigned 32 10 ds r → MatchOption (result_ok r) ((n : ℕ) → n < 2 ^ 32 → ds ≢ decimal n) (λ n. ds ≡ decimal n)
number_read ds (Err e) digits lead h = λ n small is. let k : Err e ≡ Ok n = parse-decimal 32 n ds (Err e) small (omega arith) is h in cc
number_read {E = E} ds (Ok x) digits lead h =
    let k = parse_digits own {E = E} 32 ds (Ok x) h digits in
    let v : decimal (digits_value 10 ds) ≡ ds = decimal-digits_value own ds digits k.0.0 (λ z. omega (arith, lead z, k.0.0)) (omega (arith, k.0.1)) in
    sym v ∙ ap decimal (sym k.1)

pub factor_run : (bytes rest : List ℕ) (factor : ℕ) → IsFactorAt bytes factor rest → IsRun is_ascii_digit bytes (decimal factor) rest
factor_run bytes rest factor h = record {
  text = h.is;
  passes = digits_decimal own factor (let small = h.small in omega arith);
  ended = h.ended;
}

pub factor_same : (bytes digits behind rest : List ℕ) (factor : ℕ) → IsRun is_ascii_digit bytes digits behind → IsFactorAt bytes factor rest → digits ≡ decimal factor
factor_same bytes digits behind rest factor h k = (run_same is_ascii_digit bytes digits behind (decimal factor) rest h (factor_run bytes rest factor k)).names

pub large_not : (bytes digits behind : List ℕ) (read : ℕ) → IsRun is_ascii_digit bytes digits behind → digits ≡ decimal read → read < 2 ^ 32 → 1048576 < read → (factor : ℕ) (rest : List ℕ) → IsFactorAt bytes factor rest → ⊥
large_not bytes digits behind read h is fits large factor rest k =
    let small : factor ≤ 1048576 = k.small in
    let same : read ≡ factor = decimal_injective read factor (omega arith) (omega arith) (sym is ∙ factor_same bytes digits behind rest factor h k) in
    omega arith

pub err_of : {T E : Type 0} (r : Result T E) (P : T → Type 0) (Q : E → Type 0) → None ≡ result_ok r → MatchResult r P Q → (e : E) × Q e
err_of (Ok x) P Q is h = absurd (none-some x is)
err_of (Err e) P Q is h = (e, h)

pub ok_of : {T E : Type 0} (r : Result T E) (P : T → Type 0) (Q : E → Type 0) (x : T) → Some x ≡ result_ok r → MatchResult r P Q → P x
ok_of (Ok y) P Q x is h = subst P (same_Some y x (sym is)) h
ok_of (Err e) P Q x is h = absurd (none-some x (sym is))

pub no_text : (ds : List ℕ) → ¬ (IsUtf8 ds) → (n : ℕ) → n < 2 ^ 32 → ds ≢ decimal n
no_text ds none n small is = none (subst IsUtf8 (sym is) (IsUtf8-from_ascii (decimal n) (IsAscii-decimal n (omega arith))))
