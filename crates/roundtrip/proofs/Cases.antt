-- The cases M1 to M12 hold. Assumes nothing.
use mathlib.Core.Path.{refl}
use Rattle.codes.specs.Codes.{read_error_code, read_error_code64}
use Rattle.function_ids.specs.FunctionIds.{read_function_id}
use Rattle.function_ids.specs.CallTable.{rule_of}
use Rattle.words.specs.Mpidrs.{read_mpidr32, read_mpidr64, write_mpidr64}
use Rattle.words.specs.Versions.{read_version}
use Rattle.words.specs.PowerStates.{read_power_state}
use Rattle.words.specs.ResetTypes.{read_architectural_reset_type, read_reset_type}
use Rattle.function.specs.Functions.{function_id_of}
use Rattle.decode_definition.specs.Decode.{call_in, decode_by}
use Rattle.encode_definition.specs.Arguments.{arguments_by}
use Rattle.encode_definition.specs.Encode.{words_by}
use Rattle.roundtrip.specs.Cases.{Cases}

pub cases : Cases
unfolding call_in decode_by rule_of read_function_id read_mpidr32 read_mpidr64 write_mpidr64 read_power_state read_architectural_reset_type read_reset_type read_version read_error_code read_error_code64 function_id_of arguments_by words_by
cases = record {
  m1_reads = refl;
  m1_writes = refl;
  m2 = λ x y z. refl;
  m3_reads = refl;
  m3_writes = refl;
  m4 = λ y z. refl;
  m5 = λ y z. refl;
  m6_level = λ z. refl;
  m6_three = λ z. refl;
  m6_four = λ z. refl;
  m7_down = refl;
  m7_reserved = refl;
  m8_warm = refl;
  m8_other = refl;
  m8_vendor = refl;
  m9_reads = λ y z. refl;
  m9_writes = refl;
  m10_32 = refl;
  m10_64 = refl;
  m11 = refl;
  m12_read = refl;
  m12_reserved = refl;
}
