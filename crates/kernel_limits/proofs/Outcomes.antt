-- What an outcome tells where it is known.
use Rattle.std.proofs.Common.{◌≡◌, subst, Option, Some, None, Result, Ok, Err, OnOk, MatchOption}

pub match_none : {T : Type 0} (o : Option T) (P : Type 0) (Q : T → Type 0) → MatchOption o P Q → o ≡ None → P
match_none None P Q h e = h
match_none (Some x) P Q h e = absurd (cc)

pub match_some : {T : Type 0} (o : Option T) (x : T) (P : Type 0) (Q : T → Type 0) → MatchOption o P Q → o ≡ Some x → Q x
match_some {T} o x P Q h e = subst (λ (p : Option T). MatchOption p P Q) e h

-- what is known whatever comes
pub on_ok_known : {T E P : Type 0} (r : Result T E) → P → OnOk r P
on_ok_known (Ok x) h = h
on_ok_known (Err e) h = tt
