-- Words compared with others.
use Rattle.std.specs.Prelude.{Bool, cond, List, ℕ, nat_eq, pos}
use Rattle.std.specs.Cmp.Lexicographic.{pointwise}
use Rattle.answers.specs.Answers.{Answer, refused}
use Rattle.call_exports.specs.Refusals.{wrong_part}

-- whether two runs of words are equal, word by word
abbrev pub same : List ℕ → List ℕ → Bool
same c d = pointwise nat_eq c d

-- the answer, if these are the value's own words
unfoldable pub of_parts : {A : Type 0} → List ℕ → List ℕ → Answer A → Answer A
of_parts c own answer = cond (same c own) answer (refused wrong_part (pos 0))
