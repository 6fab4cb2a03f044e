-- The refusals of nine words that ask for no call, by numbers that no paper has.
use Rattle.std.specs.Prelude.{ℕ, ℤ, pos, Result}
use Rattle.answers.specs.Answers.{Answer, refused, answer_by}
use Rattle.call_exports.specs.declared.call_asked.WordsError.{WordsError}
use Rattle.call_exports.specs.declared.call_asked.WordsError.TheVariants.{UnknownTag, WrongPart}

-- a tag that no call has, which is carried
abbrev pub unknown_tag : ℕ
unknown_tag = 1002

-- words that are not those of the call of their tag; 0 is carried
abbrev pub wrong_part : ℕ
wrong_part = 1003

abbrev pub words_number : WordsError → ℕ
words_number (UnknownTag tag) = unknown_tag
words_number WrongPart = wrong_part

abbrev pub words_value : WordsError → ℤ
words_value (UnknownTag tag) = pos tag
words_value WrongPart = pos 0

abbrev pub words_refusal : {A : Type 0} → WordsError → Answer A
words_refusal e = refused (words_number e) (words_value e)

-- what asking for a call by its words gave
abbrev pub asked_answer : {A : Type 0} → Result A WordsError → Answer A
asked_answer result = answer_by words_refusal result
