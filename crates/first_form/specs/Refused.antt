-- The line at which a file stops being of the form, and the word that the refusal keeps.
use Rattle.std.specs.Prelude.{◌≡◌, ℕ, ◌+◌, ◌<◌, ◌≤◌, Bool, not, ◌&&◌, ◌==◌, List, [], map, drop, length, codes, find, unwrap_or}
use Rattle.std.specs.Char.{is_ascii_digit}
use Rattle.std.specs.List.{take_while, slice_split}
use Rattle.first_form.specs.declared.form.FirstForm.{FirstForm}
use Rattle.first_form.specs.Names.{is_word_byte, is_word, is_kept}
use Rattle.first_form.specs.Form.{Begins}

-- The line, counted from 1, is the first one that differs from the form with the names that the lines before it fixed: those lines are there, and either this one is not, or it is a sixth.
pub record IsRefusedAt (bytes : List ℕ) (line : ℕ) (rest : List ℕ) : Type 0 where
  pub before : ℕ
  pub form : FirstForm
  pub counted : line ≡ before + 1
  pub few : before ≤ 5
  pub fits : Begins before form bytes rest
  pub differs : before < 5 → (other : FirstForm) (after : List ℕ) → Begins (before + 1) other bytes after → ⊥
  pub further : before ≡ 5 → rest ≡ [] → ⊥

-- the bytes up to the next line feed
abbrev pub first_line : List ℕ → List ℕ
first_line bytes = take_while (λ c. not (c == 10)) bytes

-- what follows the digits at the front
abbrev pub past_digits : List ℕ → List ℕ
past_digits bytes = drop (length (take_while is_ascii_digit bytes)) bytes

-- a name or a reserved word
abbrev pub is_shown : List ℕ → Bool
is_shown word = is_word word && not (is_kept word)

-- The first name or reserved word among the runs of letters, digits and `_`, a number at a run's front aside, or `-`.
abbrev pub shown_word : List ℕ → List ℕ
shown_word line = unwrap_or (find is_shown (map past_digits (slice_split (λ c. not (is_word_byte c)) line))) (codes "-")
