-- What the argument words of a call are, in document 01's terms.
use Rattle.std.specs.Prelude.{List, [], ◌∷◌, ℕ, Result}
use Rattle.answers.specs.Answers.{Answer, through}
use Rattle.answers.specs.Errors.{answered}
use Rattle.answers.specs.declared.Error.{Error}
use Rattle.encode.specs.declared.arguments.Arguments.{Arguments}

abbrev pub arguments_answer : Result Arguments Error → Answer (List ℕ)
arguments_answer result = through (λ a. a.r1 ∷ a.r2 ∷ a.r3 ∷ []) (answered result)
