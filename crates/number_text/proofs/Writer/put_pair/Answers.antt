-- `number_text::Writer::put_pair` meets its contract: the number is put, and the word behind it. Assumes nothing.
use Rattle.std.proofs.Common.{refl, arith}
use Rattle.answers.proofs.Lending.{wrote_then}
use Rattle.number_text.proofs.Putting.{had_room}
use Rattle.number_text.proofs.Writer.put_pair.Goals as goal

pub returns-then-has_room : goal.returns-then-has_room
returns-then-has_room c = had_room (omega arith) refl (omega arith) (wrote_then c.put_digits-second.ensures.text c.put_word-self.ensures.text)
