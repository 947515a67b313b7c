-- The text of a code: the one spelling of it for its target.
use Rattle.std.specs.Prelude.{◌++◌, codes}
use Rattle.code_tree.specs.declared.code.Code.{Code}
use Rattle.text_writer.specs.Bytes.{Bytes}
use Rattle.code_text.specs.StatementText.{lines_of}
use Rattle.code_text.specs.PreludeText.{prelude_text}
use Rattle.code_text.specs.SignatureText.{signature_text}
use Rattle.code_text.specs.LaunchText.{title_text}
use Rattle.code_text.specs.OpeningText.{axis_lines, local_lines}

-- the frame to the local cells, the body one block deep, and the last brace
abbrev pub text_of : Code → Bytes
text_of code =
    title_text code code.target ++ prelude_text code.target ++ signature_text code ++ axis_lines code.target
    ++ local_lines code.target code.locals ++ (lines_of code code.body).at 1 ++ codes "}\n"
