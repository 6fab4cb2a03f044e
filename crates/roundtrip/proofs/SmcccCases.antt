-- The cases of Change 2's decoder hold. Assumes nothing.
use mathlib.Core.Path.{refl}
use Rattle.function_ids.specs.FunctionIds.{read_function_id}
use Rattle.function_ids.specs.CallTable.{rule_of}
use Rattle.function.specs.Functions.{function_id_of}
use Rattle.decode_definition.specs.Decode.{call_in, decode_by}
use Rattle.encode_definition.specs.Arguments.{arguments_by}
use Rattle.encode_definition.specs.Encode.{words_by}
use Rattle.roundtrip.specs.SmcccCases.{SmcccCases}

pub smccc_cases : SmcccCases
unfolding call_in decode_by rule_of read_function_id function_id_of arguments_by words_by
smccc_cases = record {
  lowest_high_bit = λ y z. refl;
  writes_0 = refl;
  high_half = λ y z. refl;
  lowest_bit = λ y z. refl;
  highest_low_bit = λ y z. refl;
  both_halves = λ y z. refl;
}
