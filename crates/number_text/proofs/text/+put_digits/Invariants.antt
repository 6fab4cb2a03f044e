-- `number_text::text::put_digits` calls itself with a smaller number.
use Rattle.number_text.proofs.text.+put_digits.Given as goal

abbrev pub decreases-put_digits : goal.decreases-put_digits
decreases-put_digits l = l.n
