-- The line that says a refusal: `SITE: rule N Name: KEPT`.
use Rattle.std.specs.Prelude.{ℕ, ◌==◌, List, [], ◌∷◌, ◌++◌, codes, if◌then◌else◌}
use Rattle.std.specs.Fmt.{decimal}
use Rattle.kernel_ir.specs.declared.fault.Site.{Site}
use Rattle.kernel_ir.specs.declared.fault.Site.TheVariants.{Kernel, Script, Target, Args, Code, Schedule}
use Rattle.kernel_ir.specs.declared.fault.Refusal.{Refusal}
use Rattle.refusal_lines.specs.Rules.{rule_name}
use Rattle.refusal_lines.specs.Kept.{kept_words}

abbrev pub site_text : Site → List ℕ
site_text Kernel = codes "kernel"
site_text Script = codes "script"
site_text Target = codes "target"
site_text Args = codes "args"
site_text Code = codes "code"
site_text Schedule = codes "schedule"

-- line 0 stands for no line
abbrev pub line_text : ℕ → List ℕ
line_text line = if line == 0 then [] else codes " line " ++ decimal line

-- each text after a blank
abbrev pub spaced : List (List ℕ) → List ℕ
spaced [] = []
spaced (text ∷ texts) = codes " " ++ text ++ spaced texts

-- the command of a script, or the target, behind a blank, where there is one
abbrev pub word_text : List ℕ → List ℕ
word_text [] = []
word_text (c ∷ word) = codes " " ++ c ∷ word

-- SITE: rule N Name:
abbrev pub head_of : Site → ℕ → List ℕ → ℕ → List ℕ
head_of site line word number =
    site_text site ++ line_text line ++ word_text word ++ (codes ": rule " ++ decimal number ++ codes " ") ++ rule_name number ++ codes ":"

-- the line of a refusal with the word of its site, and its line feed
unfoldable pub refusal_line : Refusal → List ℕ → List ℕ
refusal_line r word = head_of r.site r.line word r.number ++ spaced (kept_words r) ++ codes "\n"
