-- What stands at the front as a word is UTF-8.
use Rattle.std.proofs.Common.{◌≡◌, ◌<◌, ℕ, zero, suc, Bool, true, false, List, [], ◌∷◌, refl, arith}
use Rattle.std.specs.Prelude.{if◌then◌else◌}
use Rattle.std.specs.Str.{IsAscii, IsUtf8}
use Rattle.std.proofs.lemmas.Str.{IsUtf8-from_ascii}
use Rattle.std.proofs.lemmas.Bool.Decides.{nat_tests}
use Rattle.text_reader.specs.Bytes.{is_word_byte}
use Rattle.kernel_files.specs.FirstLine.{word_front}

small : (c : ℕ) → is_word_byte c ≡ true → c < 128
small c h = grind (arith, nat_tests, h)

ascii_if : (b : Bool) (c : ℕ) (cs : List ℕ) → (b ≡ true → c < 128) → IsAscii cs → IsAscii (if b then c ∷ cs else [])
ascii_if true c cs least rest zero = least refl
ascii_if true c cs least rest (suc i) = rest i
ascii_if false c cs least rest i = omega arith

ascii : (text : List ℕ) → IsAscii (word_front text)
ascii [] i = omega arith
ascii (c ∷ cs) i = ascii_if (is_word_byte c) c (word_front cs) (small c) (ascii cs) i

pub front_is_utf8 : (text : List ℕ) → IsUtf8 (word_front text)
front_is_utf8 text = IsUtf8-from_ascii (word_front text) (ascii text)
