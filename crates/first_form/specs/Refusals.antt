-- What a refusal says of the file.
use Rattle.std.specs.Prelude.{◌≡◌, ℕ, List}
use Rattle.first_form.specs.declared.fault.FormFault.{FormFault}
use Rattle.first_form.specs.declared.fault.FormFault.TheVariants.{OutOfMemory, NotBuilt}
use Rattle.first_form.specs.Refused.{IsRefusedAt, first_line, shown_word}

-- The file stops being of the form at this line, and the word is the one that the refusal keeps of it.
pub record IsRefusedWith (bytes : List ℕ) (line : ℕ) (word : List ℕ) : Type 0 where
  pub rest : List ℕ
  pub stops : IsRefusedAt bytes line rest
  pub shown : word ≡ shown_word (first_line rest)

-- Want of memory says nothing of the file.
abbrev pub IsRefusal : List ℕ → FormFault → Type 0
IsRefusal bytes OutOfMemory = Unit {0}
IsRefusal bytes (NotBuilt line word) = IsRefusedWith bytes line word
