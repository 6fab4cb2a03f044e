-- `number_text::text::put_words`: the words that were gone through stand behind the offset.
use Rattle.number_text.proofs.Words.{PutWords}
use Rattle.number_text.proofs.text.put_words.Given as goal

abbrev pub invariant-loop-word : goal.invariant-loop-word
invariant-loop-word l = PutWords l.word-items l.word-index l.at l.fn.out l.out l.next
