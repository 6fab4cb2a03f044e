-- What the exported function tells: 0 and the line's length; or a refusal's number, which is not 0, and what it carries in two's complement of 64 bits.
use Rattle.std.specs.Prelude.{List, ℕ, ℤ, length}
use Rattle.bits.specs.Signs.{word_of}
use Rattle.answers.specs.Answers.{Answer, accepted, refused}
use Rattle.line_exports.specs.declared.Written.{Written}

abbrev pub refused_line : ℕ → ℤ → Written
refused_line number value = record { number = number; value = word_of 64 value }

abbrev pub told_line : Answer (List ℕ) → Written
told_line (accepted text) = record { number = 0; value = length text }
told_line (refused number value) = refused_line number value
