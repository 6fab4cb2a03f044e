-- Document 02, Change 1: the typed calls of a board that is set to the original power state. They are document 01's calls with a power state of the original
-- format in the place of 01's; a call that has none is the same in both.
use Rattle.answers.specs.Answers.{Answer}
use Rattle.function_ids.specs.declared.FunctionId.{FunctionId}
use Rattle.words.specs.declared.original_power_states.OriginalPowerState.{OriginalPowerState}
use Rattle.function.specs.Functions.{function_id_of}
use Rattle.function.specs.declared.Call.{Call}
use Rattle.function.specs.Stateless.{StatelessFunction, among}

abbrev pub OriginalFunction : Type 0
OriginalFunction = Call OriginalPowerState

-- the function number: in the form that document 01 says, and refusal 14 is its
abbrev pub original_id_of : OriginalFunction → Answer FunctionId
original_id_of f = function_id_of f

-- a call that has no power state, among those of the original format
abbrev pub original_of : StatelessFunction → OriginalFunction
original_of g = among g
