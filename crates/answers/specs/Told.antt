-- What an exported function tells C of an answer: a refusal's number, which is not 0, and what it carries in two's complement of 64 bits; or
-- twice 0.
use Rattle.std.specs.Prelude.{ℕ, ℤ, pos}
use Rattle.bits.specs.Signs.{word_of}
use Rattle.answers.specs.Answers.{Answer, accepted, refused}
use Rattle.answers.specs.declared.told.Refusal.{Refusal}

abbrev pub refusal_is : ℕ → ℤ → Refusal
refusal_is number value = record { number = number; carried = word_of 64 value }

abbrev pub refusal_in : {A : Type 0} → Answer A → Refusal
refusal_in (accepted a) = refusal_is 0 (pos 0)
refusal_in (refused number value) = refusal_is number value
