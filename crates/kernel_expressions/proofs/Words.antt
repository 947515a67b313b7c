-- Words are UTF-8.
use Rattle.std.proofs.Common.{◌≡◌, ◌<◌, ℕ, zero, suc, true, List, [], ◌∷◌, arith}
use Rattle.std.specs.List.{list_all}
use Rattle.std.specs.Str.{IsAscii, IsUtf8}
use Rattle.std.proofs.lemmas.Str.{IsUtf8-from_ascii}
use Rattle.std.proofs.lemmas.Bool.{and_parts}
use Rattle.std.proofs.lemmas.Bool.Decides.{nat_tests}
use Rattle.text_reader.specs.declared.form.Form.TheVariants.{Kernel}
use Rattle.text_reader.specs.Bytes.{is_word_byte}
use Rattle.text_reader.specs.Spelling.{is_of_word, IsWord}

small : (c : ℕ) → is_word_byte c ≡ true → c < 128
small c h = grind (arith, nat_tests, h)

ascii : (text : List ℕ) → list_all (is_of_word Kernel) text ≡ true → IsAscii text
ascii [] h i = omega arith
ascii (c ∷ text) h zero = small c (and_parts (is_word_byte c) (list_all (is_of_word Kernel) text) h).0
ascii (c ∷ text) h (suc i) = ascii text (and_parts (is_word_byte c) (list_all (is_of_word Kernel) text) h).1 i

pub word_is_utf8 : (text : List ℕ) → IsWord Kernel text → IsUtf8 text
word_is_utf8 text h = IsUtf8-from_ascii text (ascii text h.bytes)
