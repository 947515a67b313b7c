-- From tokens to the bytes of a kernel file.
use Rattle.std.proofs.Common.{◌≡◌, ◌<◌, ◌-◌, ◌^◌, List, [], ◌∷◌, length, ℕ, suc, ap, refl, subst, ◌∙◌, arith}
use Rattle.text_reader.specs.declared.form.Form.TheVariants.{Kernel}
use Rattle.text_reader.specs.declared.token.Token.{Token}
use Rattle.text_reader.specs.Laws.{HasFewTokens, HasOneList}
use Rattle.text_reader.specs.Faults.{IsFaultAt, IsSyntaxFault}
use Rattle.text_reader.specs.Tokens.{IsTokensOf}
use Rattle.kernel_grammar.specs.declared.file.KernelFile.{KernelFile}
use Rattle.kernel_grammar.specs.Files.{file_text, file_of, IsKernelFile}
use Rattle.kernel_grammar.specs.Lexicals.{lexicals}
use Rattle.text_reader.specs.declared.fault.TextFault.{TextFault}
use Rattle.text_reader.specs.declared.fault.TextFault.TheVariants.{OutOfMemory, Syntax, Limit}
use Rattle.kernel_expressions.specs.Reads.{IsItem}
use Rattle.kernel_expressions.specs.Settled.{Spells}
use Rattle.kernel_syntax.specs.Refusals.{IfSyntax}
use Rattle.kernel_expressions.specs.Texts.{IsFit}

pub lexicals-length : (bytes : List ℕ) (tokens : List Token) → length (lexicals bytes tokens) ≡ length tokens
lexicals-length bytes [] = refl
lexicals-length bytes (token ∷ tokens) = ap suc (lexicals-length bytes tokens)

pub kernel_read : HasFewTokens → (bytes : List ℕ) (tokens : List Token) (file : KernelFile) → length bytes < 2 ^ 32 - 1 → IsTokensOf Kernel bytes tokens
    → IsItem (IsFit (lexicals bytes tokens)) file_text file_of file (lexicals bytes tokens) → IsKernelFile bytes file
kernel_read few bytes tokens file short are h = record {
  tokens = tokens;
  are = are;
  file = record {
    tree = h.tree;
    spelled = h.spelled;
    means = h.means (record { short = omega (arith, short, few Kernel bytes tokens are, lexicals-length bytes tokens) });
  };
}

pub if_syntax : (P Q : Type 0) (fault : TextFault) → (P → Q) → IfSyntax P fault → IfSyntax Q fault
if_syntax P Q OutOfMemory f h = tt
if_syntax P Q (Syntax line count) f h = f h
if_syntax P Q (Limit line) f h = tt

pub a_fault : (P : Type 0) (fault : TextFault) → P → IfSyntax P fault
a_fault P OutOfMemory h = tt
a_fault P (Syntax line count) h = h
a_fault P (Limit line) h = tt

-- tokens that are no file
pub no_kernel : HasOneList → (bytes : List ℕ) (tokens : List Token) → IsTokensOf Kernel bytes tokens → (Spells file_text (lexicals bytes tokens) → ⊥) → (file : KernelFile) → IsKernelFile bytes file → ⊥
no_kernel one bytes tokens are none file k = none (record { tree = k.file.tree; spelled = k.file.spelled ∙ ap (lexicals bytes) (one Kernel bytes k.tokens tokens k.are are) })

-- bytes that are no text of tokens
pub no_tokens : (bytes : List ℕ) (fault : TextFault) (line count : ℕ) → fault ≡ Syntax line count → IsSyntaxFault Kernel bytes fault → (file : KernelFile) → IsKernelFile bytes file → ⊥
no_tokens bytes fault line count e h file k = let j : IsFaultAt Kernel bytes line count = subst (IsSyntaxFault Kernel bytes) e h in j.none k.tokens k.are

-- bytes that are no text of tokens have none
pub no_text : (bytes : List ℕ) (fault : TextFault) (line count : ℕ) → fault ≡ Syntax line count → IsSyntaxFault Kernel bytes fault → (tokens : List Token) → IsTokensOf Kernel bytes tokens → ⊥
no_text bytes fault line count e h tokens k = let j : IsFaultAt Kernel bytes line count = subst (IsSyntaxFault Kernel bytes) e h in j.none tokens k
