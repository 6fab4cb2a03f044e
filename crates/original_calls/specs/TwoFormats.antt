-- Document 02, Change 1: what differs between the two formats of a power state. Document 01 has the extended format. The word differs (1), and with it the
-- decoding (2) and the encoding (3) of suspend, residency and count; nothing else does (4). Proved in proofs/TwoFormats.antt.
use Rattle.std.specs.Prelude.{◌≡◌, false, List, [], ◌∷◌, ℕ, ◌<◌, pos}
use Rattle.bits.specs.Bits.{◌for◌, only}
use Rattle.answers.specs.Answers.{Answer, accepted, refused, through}
use Rattle.function_ids.specs.FunctionIds.{function_number}
use Rattle.function_ids.specs.declared.FunctionId.{FunctionId}
use Rattle.function_ids.specs.declared.FunctionId.TheVariants as id
use Rattle.function_ids.specs.CallTable.{Kind, power_state, entry, context, mpidr, call_table, number_in, kept01}
use Rattle.function_ids.specs.CallTableLaws.{numbers_with, NotAmong}
use Rattle.words.specs.EntryPoints.{entry_address, entry_context}
use Rattle.words.specs.Mpidrs.{read_mpidr32, read_mpidr64, write_mpidr64}
use Rattle.words.specs.PowerStates.{power_state_fields, read_power_state, write_power_state}
use Rattle.words.specs.OriginalPowerStates.{original_power_state_fields, read_original_power_state, write_original_power_state}
use Rattle.words.specs.declared.entry_points.EntryPoint.{EntryPoint}
use Rattle.words.specs.declared.entry_points.EntryPoint.TheVariants.{Entry32, Entry64}
use Rattle.words.specs.declared.mpidrs.Mpidr.{Mpidr}
use Rattle.words.specs.declared.power_states.PowerState.{PowerState}
use Rattle.words.specs.declared.power_states.PowerState.TheVariants.{StandbyOrRetention, PowerDown}
use Rattle.words.specs.declared.original_power_states.OriginalPowerState.{OriginalPowerState}
use Rattle.function.specs.Forms.{in_form, entry_form, mpidr_form}
use Rattle.function.specs.Functions.{Function}
use Rattle.function.specs.States.{with_state}
use Rattle.function.specs.Stateless.{StatelessFunction, function_of}
use Rattle.function.specs.declared.Call.TheVariants.{CpuSuspend, StatResidency, StatCount}
use Rattle.decode_definition.specs.RefusalOrders.{of_core_state}
use Rattle.decode_definition.specs.Decode.{call_of, decode_of}
use Rattle.encode_definition.specs.Encode.{with_number, words_of}
use Rattle.roundtrip.specs.Codec.{Registers}
use Rattle.original_calls.specs.OriginalFunctions.{OriginalFunction, original_of, original_id_of}
use Rattle.original_calls.specs.OriginalCalls.{original_call_of, original_call_in, original_decode_of, original_words_of}

-- 1. The word: its fields, what is refused when it is read, and what when it is written.
pub record TheWord : Type 0 where
  -- extended: bits 0–27 state ID, bit 30 power down
  pub extended_fields : power_state_fields ≡ 0 for 28 ∷ 30 for 1 ∷ []
  pub extended_elsewhere : (word : ℕ) → only power_state_fields word ≡ false → read_power_state word ≡ refused 2 (pos word)
  pub extended_above : (id : ℕ) → 0x0fffffff < id →
      (write_power_state (StandbyOrRetention id) ≡ refused 15 (pos id)) × (write_power_state (PowerDown id) ≡ refused 15 (pos id))
  -- original: bits 0–15 state ID, bit 16 power down, bits 24–25 level
  pub original_fields : original_power_state_fields ≡ 0 for 16 ∷ 16 for 1 ∷ 24 for 2 ∷ []
  pub original_elsewhere : (word : ℕ) → only original_power_state_fields word ≡ false → read_original_power_state word ≡ refused 26 (pos word)
  pub original_above : (s : OriginalPowerState) → 3 < s.level → write_original_power_state s ≡ refused 27 (pos s.level)

-- 2. Decoding: the six rows that have a power state, each beside document 01's. In residency and count the MPIDR is refused first.
pub record SixRows (the : Kind → ℕ) : Type 0 where
  pub suspend32 : original_call_of id.CpuSuspend32 the ≡ through (λ s. CpuSuspend s (Entry32 (the entry) (the context))) (read_original_power_state (the power_state))
  pub suspend32_01 : call_of read_power_state id.CpuSuspend32 the ≡ through (λ s. CpuSuspend s (Entry32 (the entry) (the context))) (read_power_state (the power_state))
  pub suspend64 : original_call_of id.CpuSuspend64 the ≡ through (λ s. CpuSuspend s (Entry64 (the entry) (the context))) (read_original_power_state (the power_state))
  pub suspend64_01 : call_of read_power_state id.CpuSuspend64 the ≡ through (λ s. CpuSuspend s (Entry64 (the entry) (the context))) (read_power_state (the power_state))
  pub residency32 : original_call_of id.PsciStatResidency32 the ≡ of_core_state StatResidency (read_mpidr32 (the mpidr)) (read_original_power_state (the power_state))
  pub residency32_01 : call_of read_power_state id.PsciStatResidency32 the ≡ of_core_state StatResidency (read_mpidr32 (the mpidr)) (read_power_state (the power_state))
  pub residency64 : original_call_of id.PsciStatResidency64 the ≡ of_core_state StatResidency (read_mpidr64 (the mpidr)) (read_original_power_state (the power_state))
  pub residency64_01 : call_of read_power_state id.PsciStatResidency64 the ≡ of_core_state StatResidency (read_mpidr64 (the mpidr)) (read_power_state (the power_state))
  pub count32 : original_call_of id.PsciStatCount32 the ≡ of_core_state StatCount (read_mpidr32 (the mpidr)) (read_original_power_state (the power_state))
  pub count32_01 : call_of read_power_state id.PsciStatCount32 the ≡ of_core_state StatCount (read_mpidr32 (the mpidr)) (read_power_state (the power_state))
  pub count64 : original_call_of id.PsciStatCount64 the ≡ of_core_state StatCount (read_mpidr64 (the mpidr)) (read_original_power_state (the power_state))
  pub count64_01 : call_of read_power_state id.PsciStatCount64 the ≡ of_core_state StatCount (read_mpidr64 (the mpidr)) (read_power_state (the power_state))

-- 3. Encoding: the same function number, and the same words around what the format's writer gives.
-- words 1 to 3 around a power state's word: in register 1 before an entry, in register 2 after an MPIDR
abbrev pub before_entry : EntryPoint → ℕ → List ℕ
before_entry e word = word ∷ entry_address e ∷ entry_context e ∷ []

abbrev pub after_mpidr : Mpidr → ℕ → List ℕ
after_mpidr m word = write_mpidr64 m ∷ word ∷ 0 ∷ []

-- a call of each format, with the power states s and old, has these words
pub record Alike (number : FunctionId) (around : ℕ → List ℕ) (f : OriginalFunction) (s : OriginalPowerState) (g : Function) (old : PowerState) : Type 0 where
  pub original : original_words_of f ≡ with_number (accepted number) (through around (write_original_power_state s))
  pub extended : words_of g ≡ with_number (accepted number) (through around (write_power_state old))

-- 4. Nothing else: a call in both types, or one refusal.
pub record Same (here : Answer OriginalFunction) (there : Answer Function) : Type 0 where
  pub both : Answer StatelessFunction
  pub of_here : here ≡ through original_of both
  pub of_there : there ≡ through function_of both

-- a function number whose call has no power state
abbrev pub WithoutState : ℕ → Type 0
WithoutState number = NotAmong (numbers_with power_state call_table) number

pub record TwoFormats : Type 0 where
  pub the_word : TheWord
  pub six_rows : (the : Kind → ℕ) → SixRows the
  -- decoding is so in every row: a call of document 01's with 0 for the power state, which is then put in
  pub by_call : (regs : List ℕ) → original_decode_of regs ≡ original_call_in (kept01 regs)
  pub suspend : (s : OriginalPowerState) (old : PowerState) (e : EntryPoint) →
      Alike (in_form (entry_form e) id.CpuSuspend32 id.CpuSuspend64) (before_entry e) (CpuSuspend s e) s (CpuSuspend old e) old
  pub residency : (s : OriginalPowerState) (old : PowerState) (m : Mpidr) →
      Alike (in_form (mpidr_form m.aff3) id.PsciStatResidency32 id.PsciStatResidency64) (after_mpidr m) (StatResidency m s) s (StatResidency m old) old
  pub count : (s : OriginalPowerState) (old : PowerState) (m : Mpidr) →
      Alike (in_form (mpidr_form m.aff3) id.PsciStatCount32 id.PsciStatCount64) (after_mpidr m) (StatCount m s) s (StatCount m old) old
  -- six function numbers have a power state
  pub six_numbers : numbers_with power_state call_table ≡ 0x84000001 ∷ 0xc4000001 ∷ 0x84000010 ∷ 0xc4000010 ∷ 0x84000011 ∷ 0xc4000011 ∷ []
  -- the other 19 calls go to document 01's and come back as they were, whatever the power state
  pub own : (g : StatelessFunction) (s : OriginalPowerState) → with_state (function_of g) s ≡ original_of g
  -- outside of the six numbers a register set is decoded as by document 01
  pub decoded : (regs : List ℕ) → Registers regs → WithoutState (number_in regs) → Same (original_decode_of regs) (decode_of regs)
  -- and a call with such a number is one of the 19, and is encoded as by document 01
  pub other : (f : OriginalFunction) (n : FunctionId) → original_id_of f ≡ accepted n → WithoutState (function_number n) → (g : StatelessFunction) × (f ≡ original_of g)
  pub encoded : (g : StatelessFunction) → original_words_of (original_of g) ≡ words_of (function_of g)
