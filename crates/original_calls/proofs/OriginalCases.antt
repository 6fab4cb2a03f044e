-- The cases of Change 1 hold. Assumes nothing.
use mathlib.Core.Path.{refl}
use Rattle.function_ids.specs.FunctionIds.{read_function_id}
use Rattle.function_ids.specs.CallTable.{rule_of}
use Rattle.words.specs.Mpidrs.{read_mpidr32, read_mpidr64, write_mpidr64}
use Rattle.words.specs.PowerStates.{read_power_state}
use Rattle.words.specs.OriginalPowerStates.{read_original_power_state, write_original_power_state}
use Rattle.words.specs.ResetTypes.{write_reset_type}
use Rattle.function.specs.Functions.{function_id_of}
use Rattle.decode_definition.specs.Decode.{call_in, decode_by}
use Rattle.encode_definition.specs.Arguments.{arguments_by}
use Rattle.encode_definition.specs.Encode.{words_by}
use Rattle.original_calls.specs.OriginalCases.{OriginalCases}

pub original_cases : OriginalCases
unfolding call_in decode_by rule_of read_function_id read_mpidr32 read_mpidr64 write_mpidr64 read_power_state write_reset_type function_id_of arguments_by words_by read_original_power_state write_original_power_state
original_cases = record {
  full = refl;
  full_written = refl;
  bit17 = refl;
  bit23 = refl;
  bit26 = refl;
  bit30 = refl;
  suspends = refl;
  suspends_01 = refl;
  mpidr_first = λ z. refl;
  state_next = λ z. refl;
  mpidr64_first = λ z. refl;
  length_first = refl;
  level_next = refl;
  mixed_forms = refl;
  vendor_type = refl;
  left_over = refl;
}
