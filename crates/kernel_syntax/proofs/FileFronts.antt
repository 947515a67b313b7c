-- Bytes with which a kernel file begins, by the tokens that begin one.
use Rattle.std.proofs.Common.{◌≡◌, ℕ, true, false, ◌==◌, List, [], ◌∷◌, ◌++◌, map, Option, Some, None, sym, ap, ◌∙◌, refl, subst, append_assoc, codes}
use Rattle.std.specs.List.{repeat}
use Rattle.std.proofs.lemmas.List.{append-nil}
use Rattle.std.proofs.lemmas.Bool.{false≢true}
use Rattle.kernel_grammar.specs.declared.file.KernelFile.{KernelFile}
use Rattle.kernel_grammar.specs.Lexicals.{Lexical, number, line_end, key, lexicals}
use Rattle.kernel_grammar.specs.Lines.{Line, line_text}
use Rattle.kernel_grammar.specs.Files.{File, lines_text, file_text, file_of, IsKernelFile}
use Rattle.kernel_expressions.specs.Settled.{Spells, Begins}
use Rattle.kernel_grammar.specs.Faults.{BeginsFile}
use Rattle.kernel_syntax.specs.TokenTexts.{IsTextOf, IsFrontOf, TakesBlank, IsWell, AreWell, spaced, spelled, is_ended, Writes}
use Rattle.kernel_syntax.proofs.TextFronts.{same_front}
use Rattle.kernel_syntax.proofs.SpelledTexts.{spelled_instead, spelled_behind, spelled_on, spelled_after}
use Rattle.kernel_syntax.proofs.TokenPlaces.{well_text, well_front}
use Rattle.kernel_syntax.proofs.MendedTokens.{mend, mend_joined, well_stays, well_joined, well_behind}
use Rattle.kernel_syntax.proofs.MendedFiles.{good_file}

file_in : (bytes : List ℕ) (text : List Lexical) → IsTextOf bytes text → (h : Spells file_text text) → IsKernelFile bytes (file_of h.tree)
file_in bytes text h k = record { tokens = h.tokens; are = h.are; file = record { tree = k.tree; spelled = k.spelled ∙ sym h.spelled; means = refl } }

-- The bytes are a text whose tokens are those of a file.
pub record IsFileText (bytes : List ℕ) : Type 0 where
  pub text : List Lexical
  pub is : IsTextOf bytes text
  pub file : Spells file_text text

pub file_out : (bytes : List ℕ) (syntax : KernelFile) → IsKernelFile bytes syntax → IsFileText bytes
file_out bytes syntax h = record { text = lexicals bytes h.tokens; is = record { tokens = h.tokens; are = h.are; spelled = refl }; file = record { tree = h.file.tree; spelled = h.file.spelled } }

-- ---- a file's text ends in a line's end

pub ended_behind : (xs : List Lexical) (y : Lexical) (ys : List Lexical) → is_ended (xs ++ y ∷ ys) ≡ is_ended (y ∷ ys)
ended_behind [] y ys = refl
ended_behind (x ∷ []) y ys = refl
ended_behind (x ∷ z ∷ xs) y ys = ended_behind (z ∷ xs) y ys

ended_more : (x : Lexical) (text : List Lexical) → is_ended text ≡ true → is_ended (x ∷ text) ≡ true
ended_more x [] h = absurd (false≢true h)
ended_more x (y ∷ text) h = h

lines_ended : (lines : List (Option Line)) → is_ended (line_end ∷ lines_text lines) ≡ true
lines_ended [] = refl
lines_ended (None ∷ lines) = lines_ended lines
lines_ended (Some line ∷ lines) = ended_behind (line_end ∷ line_text line) line_end (lines_text lines) ∙ lines_ended lines

file_ended : (file : File) → is_ended (file_text file) ≡ true
file_ended file = ended_behind (repeat file.before (line_end ∷ [])) (key "kernel") (number (codes "1") ∷ line_end ∷ lines_text file.lines) ∙ lines_ended file.lines

-- one more empty line
lines_more : (lines : List (Option Line)) → lines_text (lines ++ None ∷ []) ≡ lines_text lines ++ line_end ∷ []
lines_more [] = refl
lines_more (None ∷ lines) = ap (λ (z : List Lexical). line_end ∷ z) (lines_more lines)
lines_more (Some line ∷ lines) = ap (λ (z : List Lexical). line_text line ++ line_end ∷ z) (lines_more lines) ∙ sym (append_assoc (line_text line) (line_end ∷ lines_text lines) (line_end ∷ []))

file_more : (text : List Lexical) → Spells file_text text → Spells file_text (text ++ line_end ∷ [])
file_more text h =
    let lines = h.tree.lines in
    let front = repeat h.tree.before (line_end ∷ []) in
    let head : List Lexical → List Lexical = λ z. front ++ key "kernel" ∷ number (codes "1") ∷ line_end ∷ z in
    record {
      tree = record { before = h.tree.before; lines = lines ++ None ∷ [] };
      spelled = ap head (lines_more lines) ∙ sym (append_assoc front (key "kernel" ∷ number (codes "1") ∷ line_end ∷ lines_text lines) (line_end ∷ [])) ∙ ap (λ (z : List Lexical). z ++ line_end ∷ []) h.spelled;
    }

-- Tokens that are spelled well complete the front to a file, and the last ends a line.
record IsCompleted (front : List Lexical) : Type 0 where
  more : List Lexical
  is : Spells file_text (front ++ more)
  well : AreWell more
  ended : is_ended more ≡ true

completed_by : (front more : List Lexical) → Spells file_text (front ++ more) → AreWell more → IsCompleted front
completed_by front [] h w = record { more = line_end ∷ []; is = subst (λ (z : List Lexical). Spells file_text (z ++ line_end ∷ [])) (append-nil front) (file_more (front ++ []) h); well = (tt, tt); ended = refl }
completed_by front (x ∷ more) h w = record { more = x ∷ more; is = h; well = w; ended = sym (ended_behind front x more) ∙ ap is_ended (sym h.spelled) ∙ file_ended h.tree }

completed : (front : List Lexical) → AreWell front → Begins (Spells file_text) front → IsCompleted front
completed front w h =
    let good = good_file h.is.tree in
    let same : file_text good.0 ≡ front ++ map mend h.more = good.1.same ∙ ap (map mend) h.is.spelled ∙ mend_joined front h.more ∙ ap (λ (z : List Lexical). z ++ map mend h.more) (well_stays front w) in
    completed_by front (map mend h.more) (record { tree = good.0; spelled = same }) (well_behind front (map mend h.more) (subst AreWell same good.1.well))

file_from : (bytes more : List ℕ) (text : List Lexical) → IsTextOf (bytes ++ more) text → Spells file_text text → BeginsFile bytes
file_from bytes more text h k = record { more = more; syntax = file_of k.tree; is = file_in (bytes ++ more) text h k }

-- ---- a file begins with bytes whose tokens begin one

-- behind a token or a blank
pub file_behind : (front rest : List ℕ) (text : List Lexical) → TakesBlank front rest text → Begins (Spells file_text) text → BeginsFile front
file_behind front rest text h b =
    let c = completed text (well_front front rest text h.is) b in
    file_from front (32 ∷ spelled c.more) (text ++ c.more) (spelled_behind front rest text c.more h c.ended c.well) c.is

-- before another byte than a line feed
pub file_before : (front : List ℕ) (c : ℕ) (rest : List ℕ) (text : List Lexical) → (c == 10) ≡ false → IsFrontOf front (c ∷ rest) text → Begins (Spells file_text) text → BeginsFile front
file_before front c rest text e h b =
    let k = completed text (well_front front (c ∷ rest) text h) b in
    file_from front (32 ∷ spelled k.more) (text ++ k.more) (spelled_instead front c rest text k.more e h k.ended k.well) k.is

-- where the first bytes of a token stand there
pub file_on : (front : List ℕ) (c : ℕ) (begun rest others : List ℕ) (text : List Lexical) (x : Lexical) → IsFrontOf front (c ∷ rest) text → Writes x ((c ∷ begun) ++ others) → IsWell x → Begins (Spells file_text) (text ++ x ∷ []) → BeginsFile (front ++ c ∷ begun)
file_on front c begun rest others text x h writes w b =
    let k = completed (text ++ x ∷ []) (well_joined text (x ∷ []) (well_front front (c ∷ rest) text h) (w, tt)) b in
    file_from (front ++ c ∷ begun) (others ++ spaced x (spelled k.more)) (text ++ x ∷ k.more) (spelled_on front c begun rest others text x k.more h writes (ended_more x k.more k.ended) (w, k.well))
    (subst (Spells file_text) (append_assoc text (x ∷ []) k.more) k.is)

-- behind a whole text
pub file_after : (bytes : List ℕ) (text : List Lexical) → IsTextOf bytes text → Begins (Spells file_text) text → BeginsFile bytes
file_after bytes text h b =
    let c = completed text (well_text bytes text h) b in
    let k = spelled_after bytes text c.more h c.ended c.well in
    file_from bytes k.more (text ++ c.more) k.are c.is

-- ---- the tokens of a file that begins with bytes

-- Behind these tokens stands what completes them to a file.
pub record FileRest (text : List Lexical) (rest : List ℕ) : Type 0 where
  pub more : List Lexical
  pub are : IsTextOf rest more
  pub file : Spells file_text (text ++ more)

pub file_rest : (front : List ℕ) (c : ℕ) (rest more : List ℕ) (text : List Lexical) (syntax : KernelFile) → IsFrontOf front (c ∷ rest) text → IsKernelFile (front ++ c ∷ more) syntax → FileRest text (c ∷ more)
file_rest front c rest more text syntax h k =
    let f = file_out (front ++ c ∷ more) syntax k in
    let r = same_front front c rest more text f.text h f.is in
    record { more = r.more; are = r.are; file = subst (Spells file_text) r.split f.file }
