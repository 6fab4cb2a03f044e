-- Document 02, Change 1: decoding and encoding for boards that are set to the original power state, "as 01's but for the power states of suspend,
-- residency and count": document 01's by the reader and the writer of the original format. TwoFormats.antt says what differs, row by row.
use Rattle.std.specs.Prelude.{cond, List, ℕ, get_or}
use Rattle.answers.specs.Answers.{Answer, through, and_then}
use Rattle.function_ids.specs.FunctionIds.{read_function_id}
use Rattle.function_ids.specs.declared.FunctionId.{FunctionId}
use Rattle.function_ids.specs.CallTable.{Kind, power_state, is_same_kind, whole, rule_of, value_in}
use Rattle.words.specs.PowerStates.{read_power_state}
use Rattle.words.specs.OriginalPowerStates.{read_original_power_state, write_original_power_state}
use Rattle.words.specs.declared.original_power_states.OriginalPowerState.{OriginalPowerState}
use Rattle.function.specs.Functions.{Function}
use Rattle.function.specs.States.{with_state}
use Rattle.decode_definition.specs.Decode.{call_of, decode_by}
use Rattle.encode_definition.specs.Encode.{words_by, in_four}
use Rattle.original_calls.specs.OriginalFunctions.{OriginalFunction}

-- ---- decoding

-- memory protect looks at all of r1, as in document 01
abbrev pub original_decode_of : List ℕ → Answer OriginalFunction
original_decode_of regs = decode_by read_original_power_state whole regs

-- ---- the same by document 01's calls: each with 0 for the power state, which is then put in (`by_call` in TwoFormats.antt)

-- a call of document 01's with a power state as it was read: the call's refusal first
abbrev pub in_state : Answer Function → Answer OriginalPowerState → Answer OriginalFunction
in_state call state = and_then call (λ f. through (with_state f) state)

-- the values of the fields, with 0 for the power state: a word that document 01 accepts
abbrev pub stateless : (Kind → ℕ) → Kind → ℕ
stateless the kind = cond (is_same_kind kind power_state) 0 (the kind)

-- the call of a function, from the value of each kind of field: what document 01 says of the other fields, then the power state, with refusal 26 in
-- the place of 2. Where no power state is listed its value is 0, which is accepted and not used
abbrev pub original_call_of : FunctionId → (Kind → ℕ) → Answer OriginalFunction
original_call_of id the = in_state (call_of read_power_state id (stateless the)) (read_original_power_state (the power_state))

-- refusal 1 first, as document 01
unfoldable pub original_call_in : List ℕ → Answer OriginalFunction
original_call_in words = and_then (read_function_id (get_or words 0 0)) (λ id. original_call_of id (value_in (rule_of (get_or words 0 0)).fields words))

-- ---- encoding

-- the four words: refusal 27 of the power state's writer in the place of 15; the number's refusal, 14, comes first, as in document 01
abbrev pub original_words_of : OriginalFunction → Answer (List ℕ)
original_words_of f = words_by write_original_power_state f

-- for a lent run, 17 before all others, as in document 01
abbrev pub original_encode_of : OriginalFunction → List ℕ → Answer (List ℕ)
original_encode_of f run = in_four (original_words_of f) run
