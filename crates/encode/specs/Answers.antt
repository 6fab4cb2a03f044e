-- The result of encoding, in document 01's terms.
use Rattle.std.specs.Prelude.{List, ℕ, Result}
use Rattle.answers.specs.Answers.{Answer, through}
use Rattle.answers.specs.Errors.{answered}
use Rattle.answers.specs.declared.Error.{Error}

-- what encoding says, of the words in the run afterwards
abbrev pub encode_answer : {A : Type 0} → Result A Error → List ℕ → Answer (List ℕ)
encode_answer result words = through (λ _. words) (answered result)
