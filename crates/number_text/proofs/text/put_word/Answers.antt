-- `number_text::text::put_word` meets its contract: the space and each four digits are put behind the last. Assumes nothing.
use Rattle.answers.proofs.Lending.{wrote_then, wrote_as}
use Rattle.number_text.proofs.Laws.{hexadecimal_word}
use Rattle.number_text.proofs.text.put_word.Goals as goal

pub returns-clause-text : goal.returns-clause-text
returns-clause-text c =
    wrote_then c.put-first.ensures
    (wrote_as (hexadecimal_word _)
    (wrote_then (wrote_then (wrote_then c.put_four-a.ensures.text c.put_four-b.ensures.text) c.put_four-c.ensures.text) c.put_four.ensures.text))
