-- Which counts a call leaves as they were, and that a well-formed kernel is not refused.
use Rattle.std.specs.Prelude.{◌≡◌, ◌⊎◌, ℕ, zero, suc, ◌+◌, ◌^◌, ◌≤◌, ◌<◌, List, [], ◌∷◌, length, codes, Option, Some, None, MatchOption, IsSomeAnd}
use Rattle.std.proofs.Common.{refl, sym, ap, subst, ◌∙◌, arith, inl, inr}
use Rattle.kernel_ir.specs.declared.fault.Refusal.{Refusal}
use Rattle.kernel_ir.specs.declared.fault.Site.TheVariants as site
use Rattle.code_tree.specs.declared.code.Target.TheVariants.{C}
use Rattle.host_io.specs.Told.{Told, IsFile, IsLongerThan, ReadsAtMost, Rose, bytes_of, after_out}
use Rattle.first_form.specs.Form.{IsFile as IsKernelFile}
use Rattle.loopw_core.specs.declared.words.Form.{Form}
use Rattle.loopw_core.specs.declared.words.Form.TheVariants.{Write}
use Rattle.loopw_core.specs.declared.words.Source.{Source}
use Rattle.loopw_core.specs.declared.stop.Stop.{Stop}
use Rattle.loopw_core.specs.declared.stop.Stop.TheVariants.{OutOfMemory, Unread, Refused}
use Rattle.loopw_core.specs.Words.{form_of, sources_of}
use Rattle.loopw_core.specs.Written.{MayRefuse}
use Rattle.loopw_core.specs.Reading.{LongIn, ReadsAll, ReadsOne, ReadsWhole, StopsAt, StopsIn, WantsIn, FailsIn}
use Rattle.loopw_core.specs.Ends.{Completes, Ends, FailsToRead, FailsToWrite, IsRefused, IsWellFormed, IsWrite, MayBeRefused, Says, Stops, StopsAfter, WantsMemory, WritesText}

-- the two counts that saying a line leaves alone
says_reads : (old new : Told) (line : List ℕ) → Says old new line → new.read_faults ≡ old.read_faults
says_reads old new line (inl e) = ap (λ (t : Told). t.read_faults) e
says_reads old new line (inr f) = ap (λ (t : Told). t.read_faults) f.fails.rest

says_writes : (old new : Told) (line : List ℕ) → Says old new line → new.out_faults ≡ old.out_faults
says_writes old new line (inl e) = ap (λ (t : Told). t.out_faults) e
says_writes old new line (inr f) = ap (λ (t : Told). t.out_faults) f.fails.rest

reading_writes : (old new : Told) (name : List ℕ) (most : ℕ) → ReadsAtMost old new name most → new.out_faults ≡ old.out_faults
reading_writes old new name most (inl e) = ap (λ (t : Told). t.out_faults) e
reading_writes old new name most (inr r) = ap (λ (t : Told). t.out_faults) r.3.rest

-- reading all files leaves both
all_reads : (sources : List Source) (files : List (List ℕ)) (old new : Told) → ReadsAll old new sources files → new.read_faults ≡ old.read_faults
all_reads [] [] old new read = ap (λ (t : Told). t.read_faults) read
all_reads [] (bytes ∷ files) old new read = absurd read
all_reads (source ∷ sources) [] old new read = absurd read
all_reads (source ∷ sources) (bytes ∷ files) old new read = all_reads sources files read.0 new read.2 ∙ read.1.one.no_fault

all_writes : (sources : List Source) (files : List (List ℕ)) (old new : Told) → ReadsAll old new sources files → new.out_faults ≡ old.out_faults
all_writes [] [] old new read = ap (λ (t : Told). t.out_faults) read
all_writes [] (bytes ∷ files) old new read = absurd read
all_writes (source ∷ sources) [] old new read = absurd read
all_writes (source ∷ sources) (bytes ∷ files) old new read = all_writes sources files read.0 new read.2 ∙ reading_writes old read.0 source.path _ read.1.one.reads

stop_writes : (old new : Told) (source : Source) (stop : Stop) → StopsIn old new source stop → new.out_faults ≡ old.out_faults
stop_writes old new source OutOfMemory stops = reading_writes old new source.path _ stops.reads
stop_writes old new source (Unread name) stops = reading_writes old new source.path _ stops.1.reads
stop_writes old new source (Refused refusal word) stops = reading_writes old new source.path _ stops.1.1.one.reads

at_writes : (sources : List Source) (old new : Told) (stop : Stop) → StopsAt old new sources stop → new.out_faults ≡ old.out_faults
at_writes [] old new stop stops = absurd stops
at_writes (source ∷ sources) old new stop (inl now) = stop_writes old new source stop now
at_writes (source ∷ sources) old new stop (inr later) = at_writes sources later.0 new stop later.3 ∙ reading_writes old later.0 source.path _ later.2.one.reads

-- a refusal comes after reads without a fault
at_reads : (sources : List Source) (old new : Told) (refusal : Refusal) (word : List ℕ) → StopsAt old new sources (Refused refusal word) → new.read_faults ≡ old.read_faults
at_reads [] old new refusal word stops = absurd stops
at_reads (source ∷ sources) old new refusal word (inl now) = now.1.1.one.no_fault
at_reads (source ∷ sources) old new refusal word (inr later) = at_reads sources later.0 new refusal word later.3 ∙ later.2.one.no_fault

refused_reads : (form : Form) (sources : List Source) (old new : Told) (refusal : Refusal) (word : List ℕ) → Stops form old new sources (Refused refusal word) → new.read_faults ≡ old.read_faults
refused_reads form sources old new refusal word (inl at) = at_reads sources old new refusal word at
refused_reads form sources old new refusal word (inr after) = all_reads sources after.files old new after.read

after_writes : (form : Form) (sources : List Source) (old new : Told) (stop : Stop) → StopsAfter form old new sources stop → new.out_faults ≡ old.out_faults
after_writes form sources old new OutOfMemory (inl same) = ap (λ (t : Told). t.out_faults) same
after_writes form sources old new OutOfMemory (inr after) = all_writes sources after.files old new after.read
after_writes form sources old new (Unread name) after = absurd after
after_writes form sources old new (Refused refusal word) after = all_writes sources after.files old new after.read

stops_writes : (form : Form) (sources : List Source) (old new : Told) (stop : Stop) → Stops form old new sources stop → new.out_faults ≡ old.out_faults
stops_writes form sources old new stop (inl at) = at_writes sources old new stop at
stops_writes form sources old new stop (inr after) = after_writes form sources old new stop after

pub keeps_reads : (status : ℕ) (old new : Told) (form : Form) (sources : List Source) → Ends status old new form sources → (status ≡ 3 → ⊥) → (status ≡ 5 → ⊥) → new.read_faults ≡ old.read_faults
keeps_reads zero old new form sources ends three five = let d = ends.done refl in ap (λ (t : Told). t.read_faults) d.written ∙ all_reads sources d.prepares.files old d.between d.prepares.read
keeps_reads (suc zero) old new form sources ends three five = let r = ends.refused refl in says_reads r.between new _ r.said ∙ refused_reads form sources old r.between r.refusal r.word r.cause
keeps_reads (suc (suc zero)) old new form sources ends three five = absurd (ends.no_usage refl)
keeps_reads (suc (suc (suc zero))) old new form sources ends three five = absurd (three refl)
keeps_reads (suc (suc (suc (suc zero)))) old new form sources ends three five = let d = ends.write_fault refl in ap (λ (t : Told). t.read_faults) d.failed.fails.rest ∙ all_reads sources d.prepares.files old d.between d.prepares.read
keeps_reads (suc (suc (suc (suc (suc zero))))) old new form sources ends three five = absurd (five refl)
keeps_reads (suc (suc (suc (suc (suc (suc n)))))) old new form sources ends three five = let known = ends.known in absurd (omega (arith, known))

pub keeps_writes : (status : ℕ) (old new : Told) (form : Form) (sources : List Source) → Ends status old new form sources → (status ≡ 4 → ⊥) → new.out_faults ≡ old.out_faults
keeps_writes zero old new form sources ends four = let d = ends.done refl in ap (λ (t : Told). t.out_faults) d.written ∙ all_writes sources d.prepares.files old d.between d.prepares.read
keeps_writes (suc zero) old new form sources ends four = let r = ends.refused refl in says_writes r.between new _ r.said ∙ stops_writes form sources old r.between (Refused r.refusal r.word) r.cause
keeps_writes (suc (suc zero)) old new form sources ends four = absurd (ends.no_usage refl)
keeps_writes (suc (suc (suc zero))) old new form sources ends four = let f = ends.read_fault refl in says_writes f.between new _ f.said ∙ at_writes sources old f.between (Unread f.name) f.cause
keeps_writes (suc (suc (suc (suc zero)))) old new form sources ends four = absurd (four refl)
keeps_writes (suc (suc (suc (suc (suc zero))))) old new form sources ends four = let m = ends.no_memory refl in stops_writes form sources old new m.stop m.cause
keeps_writes (suc (suc (suc (suc (suc (suc n)))))) old new form sources ends four = let known = ends.known in absurd (omega (arith, known))

-- ---- a well-formed file is not refused

one_content : (found : Option (List ℕ)) (bytes : List ℕ) (most : ℕ) → found ≡ Some bytes → length bytes ≤ most → IsSomeAnd found (λ b. most < length b) → ⊥
one_content None bytes most e short longer = absurd longer
one_content (Some b) bytes most e short longer = let same : b ≡ bytes = cc in let lengths = ap length same in omega (arith, short, longer, lengths)

not_too_long : (files : Option (List (List ℕ × List ℕ))) (kernel bytes : List ℕ) (most : ℕ) → MatchOption files ⊥ (λ f. bytes_of f kernel ≡ Some bytes) → length bytes ≤ most
    → MatchOption files (Unit {0}) (λ f. IsSomeAnd (bytes_of f kernel) (λ b. most < length b)) → ⊥
not_too_long None kernel bytes most told short longer = absurd told
not_too_long (Some f) kernel bytes most told short longer = one_content (bytes_of f kernel) bytes most told short longer

same_content : (files : Option (List (List ℕ × List ℕ))) (kernel bytes other : List ℕ) → MatchOption files ⊥ (λ f. bytes_of f kernel ≡ Some bytes) → MatchOption files (Unit {0}) (λ f. bytes_of f kernel ≡ Some other) → bytes ≡ other
same_content None kernel bytes other told is = absurd told
same_content (Some f) kernel bytes other told is = let e = sym told ∙ is in cc

one_source : List ℕ → Source
one_source kernel = record { site = site.Kernel; path = kernel }

at_not : (old new : Told) (kernel : List ℕ) (refusal : Refusal) (word : List ℕ) → IsWellFormed old kernel → StopsAt old new (record { site = site.Kernel; path = kernel } ∷ []) (Refused refusal word) → ⊥
at_not old new kernel refusal word well (inl now) = not_too_long old.files kernel well.bytes (2 ^ 20) well.file well.short now.1.1.longer
at_not old new kernel refusal word well (inr later) = later.3

read_not : (files : List (List ℕ)) (old new : Told) (kernel : List ℕ) → IsWellFormed old kernel → ReadsAll old new (record { site = site.Kernel; path = kernel } ∷ []) files → MayRefuse (Write C) files → ⊥
read_not [] old new kernel well read may = absurd read
read_not (bytes ∷ []) old new kernel well read may =
    may well.form (subst (λ (b : List ℕ). IsKernelFile b well.form) (same_content old.files kernel well.bytes bytes well.file read.1.file) well.is)
read_not (bytes ∷ more ∷ files) old new kernel well read may = absurd read.2

cause_not : (old new : Told) (kernel : List ℕ) (refusal : Refusal) (word : List ℕ) → IsWellFormed old kernel → Stops (Write C) old new (record { site = site.Kernel; path = kernel } ∷ []) (Refused refusal word) → ⊥
cause_not old new kernel refusal word well (inl at) = at_not old new kernel refusal word well at
cause_not old new kernel refusal word well (inr after) = read_not after.files old new kernel well after.read after.may

unread_rose : (sources : List Source) (old new : Told) (name : List ℕ) → StopsAt old new sources (Unread name) → Rose old.read_faults new.read_faults
unread_rose [] old new name stops = absurd stops
unread_rose (source ∷ sources) old new name (inl now) = now.1.rose
unread_rose (source ∷ sources) old new name (inr later) = subst (λ (n : ℕ). Rose n new.read_faults) later.2.one.no_fault (unread_rose sources later.0 new name later.3)

pub completes : (status : ℕ) (old new : Told) (kernel : List ℕ) → Ends status old new (Write C) (record { site = site.Kernel; path = kernel } ∷ []) → IsWellFormed old kernel
    → (Rose old.read_faults new.read_faults → ⊥) → (Rose old.out_faults new.out_faults → ⊥) → (status ≡ 0) ⊎ (status ≡ 5)
completes zero old new kernel ends well reads writes = inl refl
completes (suc zero) old new kernel ends well reads writes = let r = ends.refused refl in absurd (cause_not old r.between kernel r.refusal r.word well r.cause)
completes (suc (suc zero)) old new kernel ends well reads writes = absurd (ends.no_usage refl)
completes (suc (suc (suc zero))) old new kernel ends well reads writes = let f = ends.read_fault refl in
    absurd (reads (subst (λ (n : ℕ). Rose old.read_faults n) (sym (says_reads f.between new _ f.said)) (unread_rose (record { site = site.Kernel; path = kernel } ∷ []) old f.between f.name f.cause)))
completes (suc (suc (suc (suc zero)))) old new kernel ends well reads writes = let d = ends.write_fault refl in
    absurd (writes (subst (λ (n : ℕ). Rose n new.out_faults) (all_writes (record { site = site.Kernel; path = kernel } ∷ []) d.prepares.files old d.between d.prepares.read) d.failed.fails.rose))
completes (suc (suc (suc (suc (suc zero))))) old new kernel ends well reads writes = inr refl
completes (suc (suc (suc (suc (suc (suc n)))))) old new kernel ends well reads writes = let known = ends.known in absurd (omega (arith, known))

write_words : (words : List (List ℕ)) (kernel : List ℕ) → IsWrite words kernel → form_of words ≡ Some (Write C)
write_words words kernel is = ap form_of is

write_sources : (words : List (List ℕ)) (kernel : List ℕ) → IsWrite words kernel → sources_of (Write C) words ≡ record { site = site.Kernel; path = kernel } ∷ []
write_sources words kernel is = ap (sources_of (Write C)) is

same_form : (words : List (List ℕ)) (kernel : List ℕ) (form : Form) → IsWrite words kernel → form_of words ≡ Some form → form ≡ Write C
same_form words kernel form is form_is = let e = sym (write_words words kernel is) ∙ form_is in cc

pub completes_words : (status : ℕ) (old new : Told) (words : List (List ℕ)) (form : Form) → form_of words ≡ Some form → Ends status old new form (sources_of form words) → Completes status old new words
completes_words status old new words form form_is ends = λ kernel is well reads writes.
    let for_c : Ends status old new (Write C) (sources_of (Write C) words) = subst (λ (f : Form). Ends status old new f (sources_of f words)) (same_form words kernel form is form_is) ends in
    completes status old new kernel (subst (Ends status old new (Write C)) (write_sources words kernel is) for_c) well reads writes

-- the usage line is not for words of a form
pub completes_usage : (status : ℕ) (old new : Told) (words : List (List ℕ)) → form_of words ≡ None → Completes status old new words
completes_usage status old new words none = λ kernel is well reads writes. absurd (let e = sym (write_words words kernel is) ∙ none in cc)
