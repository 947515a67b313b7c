-- How a call on words of a form ends.
use Rattle.std.specs.Prelude.{◌≡◌, ◌⊎◌, ℕ, ◌≤◌, List}
use Rattle.std.proofs.Common.{refl, sym, subst, arith, inl, inr}
use Rattle.host_io.specs.Told.{Told}
use Rattle.loopw_core.specs.declared.words.Form.{Form}
use Rattle.loopw_core.specs.declared.words.Source.{Source}
use Rattle.loopw_core.specs.declared.stop.Stop.{Stop}
use Rattle.loopw_core.specs.declared.stop.Stop.TheVariants.{OutOfMemory, Unread, Refused}
use Rattle.loopw_core.specs.Ends.{Ends, Gives, Prepares, SaysOrNot, Stops, StopsAfter, Tells, WantsMemory}

pub ends_text : (status : ℕ) (old between new : Told) (form : Form) (sources : List Source) (text : List ℕ) → Prepares form old between sources text → Gives text status between new
    → Ends status old new form sources
ends_text status old between new form sources text prepares (inl given) = let is = given.0 in record {
  known = omega (arith, is);
  no_usage = λ e. omega (arith, is, e);
  done = λ e. record { between = between; text = text; prepares = prepares; written = given.1 };
  refused = λ e. absurd (omega (arith, is, e));
  read_fault = λ e. absurd (omega (arith, is, e));
  write_fault = λ e. absurd (omega (arith, is, e));
  no_memory = λ e. absurd (omega (arith, is, e));
}
ends_text status old between new form sources text prepares (inr failed) = let is = failed.0 in record {
  known = omega (arith, is);
  no_usage = λ e. omega (arith, is, e);
  done = λ e. absurd (omega (arith, is, e));
  refused = λ e. absurd (omega (arith, is, e));
  read_fault = λ e. absurd (omega (arith, is, e));
  write_fault = λ e. record { between = between; text = text; prepares = prepares; failed = failed.1 };
  no_memory = λ e. absurd (omega (arith, is, e));
}

wants : (old between new : Told) (form : Form) (sources : List Source) (stop : Stop) → Stops form old between sources stop → new ≡ between → WantsMemory old new form sources
wants old between new form sources stop stops same = record { stop = stop; cause = subst (λ (t : Told). Stops form old t sources stop) (sym same) stops }

one_of : (status first second most : ℕ) → first ≤ most → second ≤ most → (status ≡ first) ⊎ (status ≡ second) → status ≤ most
one_of status first second most f s (inl e) = omega (arith, f, e)
one_of status first second most f s (inr e) = omega (arith, s, e)

no_other : (status first second other : ℕ) → (status ≡ first) ⊎ (status ≡ second) → (other ≡ first → ⊥) → (other ≡ second → ⊥) → status ≡ other → ⊥
no_other status first second other (inl e) f s h = f (omega (arith, e, h))
no_other status first second other (inr e) f s h = s (omega (arith, e, h))

after_unread : (form : Form) (old new : Told) (sources : List Source) (name : List ℕ) → StopsAfter form old new sources (Unread name) → ⊥
after_unread form old new sources name after = after

pub ends_stop : (status : ℕ) (old between new : Told) (form : Form) (sources : List Source) (stop : Stop) → Stops form old between sources stop → Tells stop status between new
    → Ends status old new form sources
ends_stop status old between new form sources OutOfMemory stops told = let is = told.0 in record {
  known = omega (arith, is);
  no_usage = λ e. omega (arith, is, e);
  done = λ e. absurd (omega (arith, is, e));
  refused = λ e. absurd (omega (arith, is, e));
  read_fault = λ e. absurd (omega (arith, is, e));
  write_fault = λ e. absurd (omega (arith, is, e));
  no_memory = λ e. wants old between new form sources OutOfMemory stops told.1;
}
ends_stop status old between new form sources (Unread name) (inl at) told = record {
  known = one_of status 3 5 5 (omega arith) (omega arith) told.known;
  no_usage = λ e. no_other status 3 5 2 told.known (λ h. omega (arith, h)) (λ h. omega (arith, h)) e;
  done = λ e. absurd (no_other status 3 5 0 told.known (λ h. omega (arith, h)) (λ h. omega (arith, h)) e);
  refused = λ e. absurd (no_other status 3 5 1 told.known (λ h. omega (arith, h)) (λ h. omega (arith, h)) e);
  read_fault = λ e. record { between = between; name = name; cause = at; said = told.says e };
  write_fault = λ e. absurd (no_other status 3 5 4 told.known (λ h. omega (arith, h)) (λ h. omega (arith, h)) e);
  no_memory = λ e. wants old between new form sources (Unread name) (inl at) (told.silent e);
}
ends_stop status old between new form sources (Unread name) (inr after) told = absurd (after_unread form old between sources name after)
ends_stop status old between new form sources (Refused refusal word) stops told = record {
  known = one_of status 1 5 5 (omega arith) (omega arith) told.known;
  no_usage = λ e. no_other status 1 5 2 told.known (λ h. omega (arith, h)) (λ h. omega (arith, h)) e;
  done = λ e. absurd (no_other status 1 5 0 told.known (λ h. omega (arith, h)) (λ h. omega (arith, h)) e);
  refused = λ e. record { between = between; refusal = refusal; word = word; cause = stops; said = told.says e };
  read_fault = λ e. absurd (no_other status 1 5 3 told.known (λ h. omega (arith, h)) (λ h. omega (arith, h)) e);
  write_fault = λ e. absurd (no_other status 1 5 4 told.known (λ h. omega (arith, h)) (λ h. omega (arith, h)) e);
  no_memory = λ e. wants old between new form sources (Refused refusal word) stops (told.silent e);
}
