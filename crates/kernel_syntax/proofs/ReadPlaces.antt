-- What is read of bytes that are no text of tokens.
use Rattle.std.proofs.Common.{◌≡◌, ◌+◌, ◌-◌, ◌^◌, ◌≤◌, ◌<◌, ℕ, Bool, true, false, nat_lt, min, List, [], ◌++◌, length, take, drop, take_all, drop_of_length-le, sym, ap, ◌∙◌, refl, subst, arith}
use Rattle.std.proofs.lemmas.List.{append-nil}
use Rattle.std.proofs.lemmas.Bool.Decides.{nat_tests}
use Rattle.text_reader.specs.declared.form.Form.TheVariants.{Kernel}
use Rattle.text_reader.specs.declared.token.Token.{Token}
use Rattle.text_reader.specs.declared.place.Place.{Place}
use Rattle.text_reader.specs.Tokens.{IsTokensOf, last_end}
use Rattle.text_reader.specs.Progress.{IsReadTo, LacksLexeme}
use Rattle.text_reader.proofs.ReadOn.{read_end}
use Rattle.kernel_grammar.specs.Files.{file_text, file_of}
use Rattle.kernel_grammar.specs.declared.file.KernelFile.{KernelFile}
use Rattle.kernel_grammar.specs.Lexicals.{lexicals}
use Rattle.kernel_expressions.specs.Reads.{IsItem}
use Rattle.kernel_expressions.specs.Texts.{IsFit}
use Rattle.kernel_syntax.specs.Refused.{IsReadStuck, IsReadRefused}
use Rattle.kernel_syntax.proofs.Kernels.{lexicals-length}

-- The bytes are no text of tokens.
abbrev pub NoText : List ℕ → Type 0
NoText bytes = (tokens : List Token) → IsTokensOf Kernel bytes tokens → ⊥

stops_short : (bytes : List ℕ) (place : Place) (tokens : List Token) (b : Bool) → nat_lt place.at (length bytes) ≡ b → IsReadTo Kernel bytes (drop place.at bytes) place tokens → NoText bytes → place.at < length bytes
stops_short bytes place tokens true e h none = grind (arith, nat_tests)
stops_short bytes place tokens false e h none =
    let long : length bytes ≤ place.at = grind (arith, nat_tests) in
    absurd (none (tokens ++ last_end place) (read_end Kernel bytes place tokens (subst (λ (z : List ℕ). IsReadTo Kernel bytes z place tokens) (drop_of_length-le bytes long) h)))

pub stuck_so : (bytes : List ℕ) (place : Place) (tokens found : List Token) (two end : ℕ) → found ≡ tokens → length bytes < 2 ^ 32 - 1 → two ≡ min (place.at + 2) 18446744073709551615 → end ≡ min two (length bytes) → IsReadTo Kernel bytes (drop place.at bytes) place tokens → (place.at < length bytes → LacksLexeme Kernel (drop place.at bytes)) → NoText bytes → IsReadStuck bytes found (place.at, end)
stuck_so bytes place tokens found two end same few e f h longest none =
    let short = stops_short bytes place tokens (nat_lt place.at (length bytes)) refl h none in
    let bound : end ≡ min (place.at + 2) (length bytes) = omega (arith, few, e, f) in
    record {
      place = place;
      is = subst (λ (z : List Token). IsReadTo Kernel bytes (drop place.at bytes) place z) (sym same) h;
      none = longest short;
      short = short;
      bounds = ap (λ (n : ℕ). (place.at, n)) bound;
      no_file = λ file k. none k.tokens k.are;
    }

pub refused_so : (bytes : List ℕ) (tokens found : List Token) (at : ℕ) (left : ℕ × ℕ) (file : KernelFile) → found ≡ tokens → at ≡ length found → IsItem (IsFit (lexicals bytes tokens)) file_text file_of file (lexicals bytes tokens) → IsReadStuck bytes found left → IsReadRefused bytes found at left
refused_so bytes tokens found at left file same e h s =
    let all = lexicals bytes found in
    let whole : lexicals bytes tokens ≡ take at all = ap (lexicals bytes) (sym same) ∙ sym (take_all at all (omega (arith, e, lexicals-length bytes found))) in
    record {
      stuck = s;
      within = omega (arith, e, lexicals-length bytes found);
      begun = record { more = []; is = record { tree = h.tree; spelled = h.spelled ∙ whole ∙ sym (append-nil (take at all)) } };
      refused = λ short. absurd (omega (arith, short, e));
    }
