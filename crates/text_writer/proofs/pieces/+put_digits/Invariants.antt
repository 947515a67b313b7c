-- A number falls when its last digit is cut off.
use Rattle.text_writer.proofs.pieces.+put_digits.Given as goal

abbrev pub decreases-put_digits : goal.decreases-put_digits
decreases-put_digits l = l.number
