-- Files that were read, and why reading stops.
use Rattle.std.specs.Prelude.{◌≡◌, ◌⊎◌, ℕ, ◌+◌, ◌^◌, ◌≤◌, List, [], ◌∷◌, ◌++◌, length, Result, Ok, Err, true, false}
use Rattle.std.proofs.Common.{refl, sym, ap, subst, ◌∙◌, arith, inl, inr, true≢false}
use Rattle.host_io.specs.declared.host.ReadError.{ReadError}
use Rattle.host_io.specs.declared.host.ReadError.TheVariants.{TooLong, Failed as not_read}
use Rattle.host_io.specs.Told.{Told, IsFile, IsLongerThan, OpenMayFail, ReadsAtMost, Rose}
use Rattle.loopw_core.specs.declared.words.Source.{Source}
use Rattle.loopw_core.specs.declared.stop.Stop.{Stop}
use Rattle.loopw_core.specs.declared.stop.Stop.TheVariants.{OutOfMemory, Unread, Refused}
use Rattle.loopw_core.specs.Reading.{FailsIn, IsLongStop, IsUnreadStop, LongIn, ReadsAll, ReadsMore, ReadsOne, ReadsWhole, StopsAt, StopsIn, WantsIn}

pub long_stops : (old new : Told) (source : Source) (stop : Stop) → IsLongStop source stop → LongIn old new source.path → StopsIn old new source stop
long_stops old new source OutOfMemory is long = record { reads = long.one.reads; later = let e = long.one.no_fault in omega (arith, e) }
long_stops old new source (Unread name) is long = absurd is
long_stops old new source (Refused refusal word) is long = (is.0, (is.1, long))

pub unread_stops : (old new : Told) (source : Source) (stop : Stop) → IsUnreadStop source stop → FailsIn old new source.path → StopsIn old new source stop
unread_stops old new source OutOfMemory is fails = record { reads = fails.reads; later = fails.later }
unread_stops old new source (Unread name) is fails = (is, fails)
unread_stops old new source (Refused refusal word) is fails = absurd is

-- memory that was wanting after a whole read
pub whole_wants : (old new : Told) (path bytes : List ℕ) → ReadsWhole old new path bytes → WantsIn old new path
whole_wants old new path bytes whole = record { reads = whole.one.reads; later = let e = whole.one.no_fault in omega (arith, e) }

assoc : (xs ys zs : List (List ℕ)) → (xs ++ ys) ++ zs ≡ xs ++ (ys ++ zs)
assoc [] ys zs = refl
assoc (x ∷ xs) ys zs = ap (λ (l : List (List ℕ)). x ∷ l) (assoc xs ys zs)

pub more_after : (old between new : Told) (source : Source) (sources : List Source) (bytes : List ℕ) (before mid after : List (List ℕ)) → mid ≡ before ++ bytes ∷ []
    → ReadsWhole old between source.path bytes → ReadsMore between new sources mid after → ReadsMore old new (source ∷ sources) before after
more_after old between new source sources bytes before mid after pushed whole more = record {
  files = bytes ∷ more.files;
  added = more.added ∙ (ap (λ (l : List (List ℕ)). l ++ more.files) pushed ∙ assoc before (bytes ∷ []) more.files);
  read = (between, whole, more.read);
}

pub stops_after : (old between new : Told) (source : Source) (sources : List Source) (bytes : List ℕ) (stop : Stop) → ReadsWhole old between source.path bytes
    → StopsAt between new sources stop → StopsAt old new (source ∷ sources) stop
stops_after old between new source sources bytes stop whole later = inr (between, bytes, whole, later)

-- what reading under a name that is the path says of the path
pub whole_read : (old new : Told) (name path bytes listed : List ℕ) → name ≡ path → listed ≡ bytes → ReadsAtMost old new name (2 ^ 20 + 1) → new.read_faults ≡ old.read_faults
    → IsFile old name bytes → length bytes ≤ 2 ^ 20 → ReadsWhole old new path listed
whole_read old new name path bytes listed e l reads no_fault file short =
    subst (λ (p : List ℕ). ReadsWhole old new p listed) e
    (subst (λ (b : List ℕ). ReadsWhole old new name b) (sym l) (record { one = record { reads = reads; no_fault = no_fault }; file = file; short = short }))

pub long_read : (old new : Told) (name path : List ℕ) → name ≡ path → ReadsAtMost old new name (2 ^ 20 + 1) → new.read_faults ≡ old.read_faults → IsLongerThan old name (2 ^ 20) → LongIn old new path
long_read old new name path e reads no_fault longer = subst (LongIn old new) e (record { one = record { reads = reads; no_fault = no_fault }; longer = longer })

pub failed_read : (old new : Told) (name path : List ℕ) → name ≡ path → ReadsAtMost old new name (2 ^ 20 + 1) → Rose old.read_faults new.read_faults → old.read_faults ≤ new.read_faults → OpenMayFail old name → FailsIn old new path
failed_read old new name path e reads rose later cause = subst (FailsIn old new) e (record { reads = reads; rose = rose; later = later; cause = cause })

pub wanted_read : (old new : Told) (name path : List ℕ) → name ≡ path → ReadsAtMost old new name (2 ^ 20 + 1) → old.read_faults ≤ new.read_faults → WantsIn old new path
wanted_read old new name path e reads later = subst (WantsIn old new) e (record { reads = reads; later = later })

pub no_failure : {T : Type 0} (x : T) → Ok x ≡ Err not_read → ⊥
no_failure x e = let h : true ≡ false = cc in true≢false h

pub too_long_is_no_failure : {T : Type 0} (r : Result T ReadError) → r ≡ Err TooLong → r ≡ Err not_read → ⊥
too_long_is_no_failure r f e = let h : true ≡ false = cc in true≢false h

-- memory was wanting after the first file was read
pub wants_first : (old new : Told) (sources rest : List Source) (source : Source) (bytes : List ℕ) → sources ≡ source ∷ rest → ReadsWhole old new source.path bytes → StopsAt old new sources OutOfMemory
wants_first old new sources rest source bytes e whole = subst (λ (ss : List Source). StopsAt old new ss OutOfMemory) (sym e) (inl (whole_wants old new source.path bytes whole))
