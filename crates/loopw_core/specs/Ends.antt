-- What each status of the top call says of the host before and after the call.
use Rattle.std.specs.Prelude.{◌≡◌, ◌⊎◌, ℕ, ◌^◌, ◌≤◌, List, [], ◌∷◌, length, codes, Option, Some, MatchOption}
use Rattle.kernel_ir.specs.declared.fault.Refusal.{Refusal}
use Rattle.host_io.specs.Told.{Told, Rose, bytes_of, after_out, after_err, FailsOutAfter, FailsErrAfter}
use Rattle.refusal_lines.specs.Lines.{refusal_line}
use Rattle.first_form.specs.declared.form.FirstForm.{FirstForm}
use Rattle.first_form.specs.Form.{IsFile}
use Rattle.loopw_core.specs.declared.words.Form.{Form}
use Rattle.loopw_core.specs.declared.words.Source.{Source}
use Rattle.loopw_core.specs.declared.stop.Stop.{Stop}
use Rattle.loopw_core.specs.declared.stop.Stop.TheVariants.{OutOfMemory, Unread, Refused}
use Rattle.loopw_core.specs.Words.{form_of, sources_of}
use Rattle.loopw_core.specs.Lines.{read_fault_line}
use Rattle.loopw_core.specs.Written.{IsText, MayRefuse}
use Rattle.loopw_core.specs.Reading.{ReadsAll, StopsAt}

-- The line was written on err, or a front of it before a write failed; nothing else changed.
abbrev pub Says : Told → Told → List ℕ → Type 0
Says old new line = (new ≡ after_err old line) ⊎ FailsErrAfter old new line

-- The files were read, and this is the text for them.
pub record Prepares (form : Form) (old new : Told) (sources : List Source) (text : List ℕ) : Type 0 where
  pub files : List (List ℕ)
  pub read : ReadsAll old new sources files
  pub text_is : IsText form files text

-- All files were read, and what they hold may be refused.
pub record MayBeRefused (form : Form) (old new : Told) (sources : List Source) : Type 0 where
  pub files : List (List ℕ)
  pub read : ReadsAll old new sources files
  pub may : MayRefuse form files

-- All files were read, and then memory was wanting.
pub record WantsAfter (old new : Told) (sources : List Source) : Type 0 where
  pub files : List (List ℕ)
  pub read : ReadsAll old new sources files

-- why there is no text after all files were read
abbrev pub StopsAfter : Form → Told → Told → List Source → Stop → Type 0
StopsAfter form old new sources OutOfMemory = (new ≡ old) ⊎ WantsAfter old new sources
StopsAfter form old new sources (Unread name) = ⊥
StopsAfter form old new sources (Refused refusal word) = MayBeRefused form old new sources

-- why there is no text
abbrev pub Stops : Form → Told → Told → List Source → Stop → Type 0
Stops form old new sources stop = StopsAt old new sources stop ⊎ StopsAfter form old new sources stop

-- ---- what a status says

-- Either this status with its line said, or want of memory and nothing.
pub record SaysOrNot (status said : ℕ) (old new : Told) (line : List ℕ) : Type 0 where
  pub known : (status ≡ said) ⊎ (status ≡ 5)
  pub says : status ≡ said → Says old new line
  pub silent : status ≡ 5 → new ≡ old

-- how the status and what is said follow from what stopped
abbrev pub Tells : Stop → ℕ → Told → Told → Type 0
Tells OutOfMemory status old new = (status ≡ 5) × (new ≡ old)
Tells (Unread name) status old new = SaysOrNot status 3 old new (read_fault_line name)
Tells (Refused refusal word) status old new = SaysOrNot status 1 old new (refusal_line refusal word)

-- the text was written on out, or a front of it
abbrev pub Gives : List ℕ → ℕ → Told → Told → Type 0
Gives text status old new = ((status ≡ 0) × (new ≡ after_out old text)) ⊎ ((status ≡ 4) × FailsOutAfter old new text)

-- Out has grown by exactly the text.
pub record WritesText (old new : Told) (form : Form) (sources : List Source) : Type 0 where
  pub between : Told
  pub text : List ℕ
  pub prepares : Prepares form old between sources text
  pub written : new ≡ after_out between text

-- A write on out failed, and out has grown by a front of the text.
pub record FailsToWrite (old new : Told) (form : Form) (sources : List Source) : Type 0 where
  pub between : Told
  pub text : List ℕ
  pub prepares : Prepares form old between sources text
  pub failed : FailsOutAfter between new text

-- A rule refused, and its one line is said.
pub record IsRefused (old new : Told) (form : Form) (sources : List Source) : Type 0 where
  pub between : Told
  pub refusal : Refusal
  pub word : List ℕ
  pub cause : Stops form old between sources (Refused refusal word)
  pub said : Says between new (refusal_line refusal word)

-- A file could not be opened or read, which is said.
pub record FailsToRead (old new : Told) (form : Form) (sources : List Source) : Type 0 where
  pub between : Told
  pub name : List ℕ
  pub cause : StopsAt old between sources (Unread name)
  pub said : Says between new (read_fault_line name)

-- There was no memory, for the text or for the line that says why there is none, and nothing was written.
pub record WantsMemory (old new : Told) (form : Form) (sources : List Source) : Type 0 where
  pub stop : Stop
  pub cause : Stops form old new sources stop

-- What each status says, for words of this form.
pub record Ends (status : ℕ) (old new : Told) (form : Form) (sources : List Source) : Type 0 where
  pub known : status ≤ 5
  pub no_usage : status ≡ 2 → ⊥
  pub done : status ≡ 0 → WritesText old new form sources
  pub refused : status ≡ 1 → IsRefused old new form sources
  pub read_fault : status ≡ 3 → FailsToRead old new form sources
  pub write_fault : status ≡ 4 → FailsToWrite old new form sources
  pub no_memory : status ≡ 5 → WantsMemory old new form sources

-- The words are of a form, of which this holds with the files that they name.
pub record OfWords (words : List (List ℕ)) (holds : Form → List Source → Type 0) : Type 0 where
  pub form : Form
  pub form_is : form_of words ≡ Some form
  pub is : holds form (sources_of form words)

-- ---- well-formed kernels

-- The words are `write c KERNEL -`.
abbrev pub IsWrite : List (List ℕ) → List ℕ → Type 0
IsWrite words kernel = words ≡ codes "write" ∷ codes "c" ∷ kernel ∷ codes "-" ∷ []

-- The kernel file is told, and is a well-formed kernel of the one form of five lines.
pub record IsWellFormed (told : Told) (kernel : List ℕ) : Type 0 where
  pub bytes : List ℕ
  pub file : MatchOption told.files ⊥ (λ files. bytes_of files kernel ≡ Some bytes)
  pub short : length bytes ≤ 2 ^ 20
  pub form : FirstForm
  pub is : IsFile bytes form

-- Where the words name a well-formed kernel and no count of faults rose, all is done, or memory is wanting.
abbrev pub Completes : ℕ → Told → Told → List (List ℕ) → Type 0
Completes status old new words =
    (kernel : List ℕ) → IsWrite words kernel → IsWellFormed old kernel
    → (Rose old.read_faults new.read_faults → ⊥) → (Rose old.out_faults new.out_faults → ⊥)
    → (status ≡ 0) ⊎ (status ≡ 5)
