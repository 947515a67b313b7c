-- A write in pieces: what stands on the stream after each.
use Rattle.std.proofs.Common.{◌≡◌, ℕ, ◌+◌, ◌<◌, ◌≤◌, List, ◌++◌, length, Option, None, Some, refl, ap, subst, ◌∙◌, append_assoc, length-append, arith}
use Rattle.std.specs.Prelude.{IfSome}
use Rattle.std.specs.Io.KnownBytes.{append_known}
use Rattle.host_io.specs.Told.{Told, FailsOut, FailsErr, FailsOutAfter, FailsErrAfter, LacksRoom, held, known_length, after_out, after_err}

-- a front of the bytes is on out, and nothing else changed
pub record IsOnOut (first now : Told) (bytes rest : List ℕ) : Type 0 where
  pub front : List ℕ
  pub parts : front ++ rest ≡ bytes
  pub told : now ≡ after_out first front

pub append_known-append_known : (known : Option (List ℕ)) (xs ys : List ℕ) → append_known (append_known known xs) ys ≡ append_known known (xs ++ ys)
append_known-append_known None xs ys = refl
append_known-append_known (Some zs) xs ys = rw append_assoc

pub after_out-after_out : (told : Told) (xs ys : List ℕ) → after_out (after_out told xs) ys ≡ after_out told (xs ++ ys)
after_out-after_out told xs ys = rw append_known-append_known

pub IsOnOut-more : (first now next : Told) (bytes rest piece left : List ℕ) → IsOnOut first now bytes rest → piece ++ left ≡ rest → next ≡ after_out now piece → IsOnOut first next bytes left
IsOnOut-more first now next bytes rest piece left so_far split wrote = record {
  front = so_far.front ++ piece;
  parts = append_assoc so_far.front piece left ∙ (ap (λ (xs : List ℕ). so_far.front ++ xs) split ∙ so_far.parts);
  told = wrote ∙ (ap (λ (t : Told). after_out t piece) so_far.told ∙ after_out-after_out first so_far.front piece);
}

known_length-append : (known : Option (List ℕ)) (bytes : List ℕ) → known_length (append_known known bytes) ≤ known_length known + length bytes
known_length-append None bytes = omega arith
known_length-append (Some xs) bytes = omega (arith, length-append xs bytes)

-- a front stands, so the room that is lacking for one byte more is lacking for all
lacks_more : (sure : Option ℕ) (before now : ℕ) (front rest bytes : List ℕ) → now ≤ before + length front → front ++ rest ≡ bytes → 0 < length rest → IfSome sure (λ room. room < now + 1) → IfSome sure (λ room. room < before + length bytes)
lacks_more None before now front rest bytes grown parts more lacks = tt
lacks_more (Some room) before now front rest bytes grown parts more lacks = omega (arith, grown, more, lacks, length-append front rest, ap length parts)

pub IsOnOut-fails : (first now next : Told) (bytes rest : List ℕ) → IsOnOut first now bytes rest → 0 < length rest → FailsOut now next → LacksRoom now 1 → FailsOutAfter first next bytes
IsOnOut-fails first now next bytes rest so_far more fails lacks = record {
  front = so_far.front;
  rest = rest;
  parts = so_far.parts;
  lacks_room = let grown = known_length-append first.out so_far.front in
      lacks_more first.sure_room (held first) (held (after_out first so_far.front)) so_far.front rest bytes (omega (arith, grown)) so_far.parts more (subst (λ (t : Told). LacksRoom t 1) so_far.told lacks);
  fails = subst (λ (t : Told). FailsOut t next) so_far.told fails;
}

-- a front of the bytes is on err, and nothing else changed
pub record IsOnErr (first now : Told) (bytes rest : List ℕ) : Type 0 where
  pub front : List ℕ
  pub parts : front ++ rest ≡ bytes
  pub told : now ≡ after_err first front

pub after_err-after_err : (told : Told) (xs ys : List ℕ) → after_err (after_err told xs) ys ≡ after_err told (xs ++ ys)
after_err-after_err told xs ys = rw append_known-append_known

pub IsOnErr-more : (first now next : Told) (bytes rest piece left : List ℕ) → IsOnErr first now bytes rest → piece ++ left ≡ rest → next ≡ after_err now piece → IsOnErr first next bytes left
IsOnErr-more first now next bytes rest piece left so_far split wrote = record {
  front = so_far.front ++ piece;
  parts = append_assoc so_far.front piece left ∙ (ap (λ (xs : List ℕ). so_far.front ++ xs) split ∙ so_far.parts);
  told = wrote ∙ (ap (λ (t : Told). after_err t piece) so_far.told ∙ after_err-after_err first so_far.front piece);
}

pub IsOnErr-fails : (first now next : Told) (bytes rest : List ℕ) → IsOnErr first now bytes rest → 0 < length rest → FailsErr now next → LacksRoom now 1 → FailsErrAfter first next bytes
IsOnErr-fails first now next bytes rest so_far more fails lacks = record {
  front = so_far.front;
  rest = rest;
  parts = so_far.parts;
  lacks_room = let grown = known_length-append first.err so_far.front in
      lacks_more first.sure_room (held first) (held (after_err first so_far.front)) so_far.front rest bytes (omega (arith, grown)) so_far.parts more (subst (λ (t : Told). LacksRoom t 1) so_far.told lacks);
  fails = subst (λ (t : Told). FailsErr t next) so_far.told fails;
}
