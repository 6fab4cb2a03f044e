-- Document 01, "The four written words" and "What is turned back", and document 02, Change 5: encoding, for every typed call and every lent run.
use Rattle.std.specs.Prelude.{cond, List, ◌∷◌, ℕ, eqb, pos, length}
use Rattle.answers.specs.Answers.{Answer, refused, through, and_then}
use Rattle.function_ids.specs.FunctionIds.{function_number}
use Rattle.function_ids.specs.declared.FunctionId.{FunctionId}
use Rattle.words.specs.PowerStates.{write_power_state}
use Rattle.function.specs.Functions.{Function, function_id_of}
use Rattle.function.specs.declared.Call.{Call}
use Rattle.encode_definition.specs.Arguments.{arguments_by}

-- word 0 is the function number; its refusal comes before that of the arguments
abbrev pub with_number : Answer FunctionId → Answer (List ℕ) → Answer (List ℕ)
with_number number arguments = and_then number (λ id. through (λ words. function_number id ∷ words) arguments)

-- a call's four words, by the writer of its power state; refusal 14 is the number's, 31 that of a reset type
unfoldable pub words_by : {S : Type 0} → (S → Answer ℕ) → Call S → Answer (List ℕ)
words_by write f = with_number (function_id_of f) (arguments_by write f)

-- document 01's; 15 is the power state's
abbrev pub words_of : Function → Answer (List ℕ)
words_of f = words_by write_power_state f

-- four words for a lent run; refusal 17 first: a run not exactly four numbers long. The words of a call are four, as the run is (`three_arguments` in
-- proofs/Laws.antt), and so all that `left` leaves in it
abbrev pub in_four : Answer (List ℕ) → List ℕ → Answer (List ℕ)
in_four words run = cond (eqb (length run) 4) words (refused 17 (pos (length run)))

-- encoding: a call's words for a run
abbrev pub encode_of : Function → List ℕ → Answer (List ℕ)
encode_of f run = in_four (words_of f) run

-- a function number and arguments for a run
unfoldable pub written_of : Answer FunctionId → Answer (List ℕ) → List ℕ → Answer (List ℕ)
written_of number arguments run = in_four (with_number number arguments) run
