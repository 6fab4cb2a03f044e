-- `number_text::text::put_words` meets its contract: each word is put behind the last. Assumes nothing.
use Rattle.number_text.proofs.Words.{word_more}
use Rattle.number_text.proofs.text.put_words.Goals as goal

pub loop-word-preserved : goal.loop-word-preserved
loop-word-preserved c = word_more c.loop-word.invariant c.put_word-next.ensures.text c.put_word-next.ensures.room.0
