-- What an operation gives: the thing asked for, or one of the papers' refusals, by its number and the value that it carries.
use Rattle.std.specs.Prelude.{cond, List, [], ◌∷◌, ℕ, eqb, ℤ, Result, Ok, Err}

pub data Answer (A : Type 0) : Type 0 where
  accepted : A → Answer A
  refused : ℕ → ℤ → Answer A

-- what an operation of the code gave, a value or an error of its layer, by what such an error is among the papers' refusals
abbrev pub answer_by : {A E : Type 0} → (E → Answer A) → Result A E → Answer A
answer_by refusal (Ok a) = accepted a
answer_by refusal (Err e) = refusal e

-- of a list of things that each have a number, the one whose number is the key; if there is none, what is given for that
abbrev pub choose : {A : Type 0} → (A → ℕ) → List A → Answer A → ℕ → Answer A
choose number [] otherwise key = otherwise
choose number (a ∷ rest) otherwise key = cond (eqb key (number a)) (accepted a) (choose number rest otherwise key)

-- what is accepted, turned into something else
abbrev pub through : {A B : Type 0} → (A → B) → Answer A → Answer B
through f (accepted a) = accepted (f a)
through f (refused number value) = refused number value

-- what is accepted, handed to a second step that may refuse it
abbrev pub and_then : {A B : Type 0} → Answer A → (A → Answer B) → Answer B
and_then (accepted a) f = f a
and_then (refused number value) f = refused number value
