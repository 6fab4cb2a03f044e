-- The two formats differ in the word, in the six rows that have it, and in nothing else. Assumes nothing.
use mathlib.Core.Path.{◌≡◌, refl}
use mathlib.Core.List.{List}
use Prim.Native.Nat.{ℕ}
use Rattle.answers.specs.Answers.{Answer, accepted, through}
use Rattle.answers.proofs.Answering.{through_twice}
use Rattle.function_ids.specs.declared.FunctionId.{FunctionId}
use Rattle.function_ids.specs.declared.FunctionId.TheVariants as id
use Rattle.function_ids.specs.CallTable.{Kind, power_state, mpidr, whole, number_in}
use Rattle.words.specs.Mpidrs.{read_mpidr32, read_mpidr64}
use Rattle.words.specs.PowerStates.{read_power_state, write_power_state}
use Rattle.words.specs.OriginalPowerStates.{read_original_power_state, write_original_power_state}
use Rattle.words.specs.declared.entry_points.EntryPoint.{EntryPoint}
use Rattle.words.specs.declared.mpidrs.Mpidr.{Mpidr}
use Rattle.words.proofs.PowerStateLaws.{power_state_laws}
use Rattle.words.proofs.OriginalPowerStateLaws.{original_power_state_laws}
use Rattle.function.specs.Forms.{in_form, entry_form, mpidr_form}
use Rattle.function.specs.Functions.{function_id_of}
use Rattle.function.specs.declared.Call.{Call}
use Rattle.function.specs.declared.Call.TheVariants.{CpuSuspend, StatResidency, StatCount}
use Rattle.decode_definition.specs.Decode.{decode_by, decode_of}
use Rattle.encode_definition.specs.Arguments.{three, arguments_by}
use Rattle.encode_definition.specs.Encode.{with_number, words_by}
use Rattle.roundtrip.specs.Codec.{Registers}
use Rattle.original_calls.specs.OriginalCalls.{original_decode_of}
use Rattle.original_calls.specs.TwoFormats.{TheWord, SixRows, before_entry, after_mpidr, Same, WithoutState, TwoFormats}
use Rattle.original_calls.proofs.Elsewhere.{never, set_among, own, written_among, other}
use Rattle.original_calls.proofs.ByCalls.{residency, count, by_call}

the_word : TheWord
unfolding read_power_state read_original_power_state
the_word = record {
  extended_fields = refl;
  extended_elsewhere = λ word e. simp e;
  extended_above = power_state_laws.state_id_above;
  original_fields = refl;
  original_elsewhere = λ word e. simp e;
  original_above = original_power_state_laws.level_above;
}

-- ---- decoding

six_rows : (the : Kind → ℕ) → SixRows the
unfolding read_power_state
six_rows the = record {
  suspend32 = refl;
  suspend32_01 = refl;
  suspend64 = refl;
  suspend64_01 = refl;
  residency32 = residency (read_mpidr32 (the mpidr)) (read_original_power_state (the power_state));
  residency32_01 = refl;
  residency64 = residency (read_mpidr64 (the mpidr)) (read_original_power_state (the power_state));
  residency64_01 = refl;
  count32 = count (read_mpidr32 (the mpidr)) (read_original_power_state (the power_state));
  count32_01 = refl;
  count64 = count (read_mpidr64 (the mpidr)) (read_original_power_state (the power_state));
  count64_01 = refl;
}

decoded : (r : List ℕ) → Registers r → WithoutState (number_in r) → Same (original_decode_of r) (decode_of r)
decoded r h o = record {
  both = decode_by never whole r;
  of_here = set_among read_original_power_state whole r o;
  of_there = set_among read_power_state whole r o;
}

-- ---- encoding

-- the words of a call around its power state's word, by its number and its three words
module _ {S : Type 0} (write : S → Answer ℕ) (s : S) where
  around_state : (number : FunctionId) (around : ℕ → List ℕ) (g : Call S) → function_id_of g ≡ accepted number →
      arguments_by write g ≡ through around (write s) → words_by write g ≡ with_number (accepted number) (through around (write s))
  unfolding words_by
  around_state number around g i a = simp (i, a)

  suspend_words : (e : EntryPoint) → words_by write (CpuSuspend s e) ≡ with_number (accepted (in_form (entry_form e) id.CpuSuspend32 id.CpuSuspend64)) (through (before_entry e) (write s))
  unfolding function_id_of arguments_by
  suspend_words e = around_state _ (before_entry e) _ refl (through_twice _ three (write s))

  residency_words : (m : Mpidr) → words_by write (StatResidency m s) ≡ with_number (accepted (in_form (mpidr_form m.aff3) id.PsciStatResidency32 id.PsciStatResidency64)) (through (after_mpidr m) (write s))
  unfolding function_id_of arguments_by
  residency_words m = around_state _ (after_mpidr m) _ refl (through_twice _ three (write s))

  count_words : (m : Mpidr) → words_by write (StatCount m s) ≡ with_number (accepted (in_form (mpidr_form m.aff3) id.PsciStatCount32 id.PsciStatCount64)) (through (after_mpidr m) (write s))
  unfolding function_id_of arguments_by
  count_words m = around_state _ (after_mpidr m) _ refl (through_twice _ three (write s))

pub two_formats : TwoFormats
two_formats = record {
  the_word = the_word;
  six_rows = six_rows;
  by_call = by_call;
  suspend = λ s old e. record { original = suspend_words write_original_power_state s e; extended = suspend_words write_power_state old e };
  residency = λ s old m. record { original = residency_words write_original_power_state s m; extended = residency_words write_power_state old m };
  count = λ s old m. record { original = count_words write_original_power_state s m; extended = count_words write_power_state old m };
  six_numbers = refl;
  own = own;
  decoded = decoded;
  other = other;
  encoded = written_among write_original_power_state write_power_state;
}
