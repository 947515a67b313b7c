-- Files in which no line is refused: nothing is wrong in any line.
use Rattle.std.proofs.Common.{◌≡◌, ℕ, ◌+◌, Bool, List, [], ◌∷◌, ◌++◌, length, slice_get, ap, refl, sym, ◌∙◌, append_assoc}
use Rattle.std.specs.Prelude.{Option, Some, None}
use Rattle.std.specs.Option.{option_or}
use Rattle.std.proofs.lemmas.List.{length-append}
use Rattle.kernel_grammar.specs.declared.file.Entry.{Entry}
use Rattle.kernel_grammar.specs.declared.file.KernelFile.{KernelFile}
use Rattle.kernel_names.specs.declared.declarations.Declarations.{Declarations}
use Rattle.kernel_names.specs.declared.limit.Limit.{Limit}
use Rattle.kernel_names.specs.declared.limit.LineFaults.{LineFaults}
use Rattle.kernel_names.specs.declared.said.Said.{Said}
use Rattle.kernel_names.specs.Ids.{ids_of, taken_behind}
use Rattle.kernel_names.specs.Said.{said_in}
use Rattle.kernel_names.specs.Roles.{declarations_of}
use Rattle.kernel_names.specs.Lines.{no_faults, first_faults, line_faults, faults_behind}
use Rattle.kernel_lines.specs.Refusals.{line_refusal}
use Rattle.kernel_files.specs.declared.files.ReadLines.{ReadLines}
use Rattle.kernel_files.specs.Files.{no_lines, entry_faults, entry_refusal, after_names, refusal_from, with_entry, lines_refusal}

-- ---- one line

abbrev faults_with : Option Limit → Option (List ℕ) → Option (List ℕ) → Option (List ℕ) → LineFaults
faults_with l u t s = record { limit = l; unknown = u; taken = t; shape = s }

none_with : (line : ℕ) (l : Option Limit) (u t s : Option (List ℕ)) → line_refusal line (faults_with l u t s) ≡ None → faults_with l u t s ≡ no_faults
none_with line None None None None h = refl
none_with line None None None (Some s) h = absurd (cc)
none_with line None None (Some t) s h = absurd (cc)
none_with line None (Some u) t s h = absurd (cc)
none_with line (Some l) u t s h = absurd (cc)

-- a line that is not refused has no fault
line_fine : (line : ℕ) (f : LineFaults) → line_refusal line f ≡ None → f ≡ no_faults
line_fine line f h = none_with line f.limit f.unknown f.taken f.shape h

fine_with : (l : Option Limit) (u t s : Option (List ℕ)) (g : LineFaults) → first_faults (faults_with l u t s) g ≡ no_faults → (faults_with l u t s ≡ no_faults) × (g ≡ no_faults)
fine_with None None None None g h = (refl, h)
fine_with (Some l) u t s g h = let e = ap (λ (f : LineFaults). f.limit) h in absurd (cc)
fine_with None (Some u) t s g h = let e = ap (λ (f : LineFaults). f.unknown) h in absurd (cc)
fine_with None None (Some t) s g h = let e = ap (λ (f : LineFaults). f.taken) h in absurd (cc)
fine_with None None None (Some s) g h = let e = ap (λ (f : LineFaults). f.shape) h in absurd (cc)

-- where the first of each of two is none, neither has a fault
pub both_fine : (f g : LineFaults) → first_faults f g ≡ no_faults → (f ≡ no_faults) × (g ≡ no_faults)
both_fine f g h = fine_with f.limit f.unknown f.taken f.shape g h

-- ---- whole files

pub either_none : {X : Type 0} (a b : Option X) → option_or a b ≡ None → (a ≡ None) × (b ≡ None)
either_none None b h = (refl, h)
either_none (Some x) b h = absurd (cc)

-- no line has a fault, in its names or else, behind those before it
abbrev pub AreFine : Declarations → List (List ℕ) → List Bool → List Said → ReadLines → List Entry → Type 0
AreFine D ids taken said k [] = Unit {0}
AreFine D ids taken said k (e ∷ es) =
    (line_faults said e.item ≡ no_faults) × ((entry_faults D ids taken k e.item ≡ no_faults) × AreFine D ids taken (said ++ said_in e.item) (with_entry D ids k e) es)

pub get_behind : {X : Type 0} (xs : List X) (y : X) (ys : List X) → slice_get (xs ++ y ∷ ys) (length xs) ≡ Some y
get_behind [] y ys = refl
get_behind (x ∷ xs) y ys = get_behind xs y ys

module _ (D : Declarations) (ids : List (List ℕ)) (taken : List Bool) where
  pub lines_fine : (front : List LineFaults) (said : List Said) (k : ReadLines) (es : List Entry)
      → refusal_from D ids taken (front ++ faults_behind said es) k (length front) es ≡ None → AreFine D ids taken said k es
  lines_fine front said k [] h = tt
  lines_fine front said k (e ∷ es) h =
      let f = line_faults said e.item in
      let rest = faults_behind (said ++ said_in e.item) es in
      let own = entry_faults D ids taken k e.item in
      let both = either_none (entry_refusal D ids taken (front ++ f ∷ rest) k (length front) e) (refusal_from D ids taken (front ++ f ∷ rest) (with_entry D ids k e) (length front + 1) es) h in
      let named = ap (λ (o : Option LineFaults). line_refusal e.line (after_names o own)) (sym (get_behind front f rest)) ∙ both.0 in
      let fine = both_fine f own (line_fine e.line (first_faults f own) named) in
      let next = ap (λ (ns : List LineFaults). refusal_from D ids taken ns (with_entry D ids k e) (length (front ++ f ∷ [])) es) (append_assoc front (f ∷ []) rest)
      ∙ (ap (λ (n : ℕ). refusal_from D ids taken (front ++ f ∷ rest) (with_entry D ids k e) n es) (length-append front (f ∷ [])) ∙ both.1) in
      (fine.0, (fine.1, lines_fine (front ++ f ∷ []) (said ++ said_in e.item) (with_entry D ids k e) es next))

pub file_fine : (file : KernelFile) → lines_refusal file ≡ None
    → AreFine (declarations_of file.entries) (ids_of file.entries) (taken_behind [] (ids_of file.entries)) [] no_lines file.entries
file_fine file h = lines_fine (declarations_of file.entries) (ids_of file.entries) (taken_behind [] (ids_of file.entries)) [] [] no_lines file.entries h
