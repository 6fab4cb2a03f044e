-- `number_text::text::put_digits` meets its contract: the last digit stands behind the others. Assumes nothing.
use Rattle.answers.proofs.Lending.{wrote_then, wrote_as}
use Rattle.number_text.proofs.Laws.{decimal_more}
use Rattle.number_text.proofs.text.+put_digits.Goals as goal

pub returns-clause-text : goal.returns-clause-text
returns-clause-text t c = wrote_as (decimal_more _ c.ranges.n.fits c.if-n-lt10.false) (wrote_then c.put_digits-last.ensures.text c.put_digit-2.ensures)
