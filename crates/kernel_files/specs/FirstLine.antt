-- The first line of a file that says something.
use Rattle.std.specs.Prelude.{ℕ, ◌+◌, nat_eq, Bool, true, false, ◌&&◌, ◌||◌, if◌then◌else◌, List, [], ◌∷◌, take, drop, bytes_eq, Option, Some, None, codes}
use Rattle.text_reader.specs.Bytes.{is_blank, is_feed, begins_word, is_word_byte}
use Rattle.kernel_ir.specs.declared.fault.Refusal.{Refusal}
use Rattle.kernel_ir.specs.declared.fault.Site.TheVariants.{Kernel}
use Rattle.kernel_ir.specs.Refusals.{refusal}

-- the line in which the first byte stands that is no blank and in no comment, and the text from that byte on
abbrev pub first_said : Bool → ℕ → List ℕ → Option (ℕ × List ℕ)
first_said comment line [] = None
first_said comment line (c ∷ cs) =
    if nat_eq c 10 then first_said false (line + 1) cs else
    if comment || nat_eq c 35 then first_said true line cs else
    if is_blank c (is_feed cs) then first_said false line cs else Some (line, c ∷ cs)

-- without the blanks at its front
abbrev pub behind_blanks : List ℕ → List ℕ
behind_blanks [] = []
behind_blanks (c ∷ cs) = if is_blank c (is_feed cs) then behind_blanks cs else c ∷ cs

abbrev pub begins_blank : List ℕ → Bool
begins_blank [] = false
begins_blank (c ∷ cs) = is_blank c (is_feed cs)

-- a line or a comment ends what is said
abbrev pub is_end : ℕ → Bool
is_end c = nat_eq c 10 || nat_eq c 35

abbrev pub ends : List ℕ → Bool
ends [] = true
ends (c ∷ cs) = is_end c

-- the line says 1 and no more
abbrev pub says_one : List ℕ → Bool
says_one [] = false
says_one (c ∷ cs) = nat_eq c 49 && ends (behind_blanks cs)

-- the line says `kernel 1`
abbrev pub says_kernel : List ℕ → Bool
says_kernel text = bytes_eq (take 6 text) (codes "kernel") && (begins_blank (drop 6 text) && says_one (behind_blanks (drop 6 text)))

abbrev pub word_front : List ℕ → List ℕ
word_front [] = []
word_front (c ∷ cs) = if is_word_byte c then c ∷ word_front cs else []

-- the first word of the line, and `-` where there is none
abbrev pub first_word : List ℕ → List ℕ
first_word [] = codes "-"
first_word (c ∷ cs) = if is_end c then codes "-" else if begins_word c then word_front (c ∷ cs) else first_word cs

-- a form that is not built, by its first word
abbrev pub not_built : ℕ → List ℕ → Refusal
not_built line word = record (refusal Kernel 5 (word ∷ []) []) { line = line }

abbrev pub line_form_refusal : Option (ℕ × List ℕ) → Option Refusal
line_form_refusal None = Some (not_built 0 (codes "-"))
line_form_refusal (Some said) = if says_kernel said.1 then None else Some (not_built said.0 (first_word said.1))

-- A file whose first line that says something is not `kernel 1` has another form.
abbrev pub form_refusal : List ℕ → Option Refusal
form_refusal bytes = line_form_refusal (first_said false 1 bytes)
