-- The cases of leftovers hold. Assumes nothing.
use mathlib.Core.Path.{refl}
use Rattle.function_ids.specs.FunctionIds.{read_function_id}
use Rattle.function_ids.specs.CallTable.{rule_of}
use Rattle.words.specs.Mpidrs.{read_mpidr32, read_mpidr64, write_mpidr64}
use Rattle.function.specs.Functions.{function_id_of}
use Rattle.decode_definition.specs.Decode.{call_in, decode_by}
use Rattle.encode_definition.specs.Arguments.{arguments_by}
use Rattle.encode_definition.specs.Encode.{words_by}
use Rattle.roundtrip.specs.LeftoverCases.{LeftoverCases}

pub leftover_cases : LeftoverCases
unfolding call_in decode_by rule_of read_function_id read_mpidr32 read_mpidr64 write_mpidr64 function_id_of arguments_by words_by
leftover_cases = record {
  m1 = refl;
  m2 = refl;
  m3 = refl;
  m4 = refl;
  m9 = refl;
  m9_smccc = refl;
}
