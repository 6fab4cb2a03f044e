-- Outside the six numbers the codec is document 01's: there a register set is decoded to a call that has no power state, and such a call is among the
-- calls of every format. Assumes nothing.
use mathlib.Core.Path.{◌≡◌, refl, sym, ap}
use mathlib.Core.Bool.{Bool, true, false, cond}
use mathlib.Core.List.{List}
use Prim.Native.Nat.{ℕ}
use lib.Dec.{leb}
use lib.IntN.{pos}
use Rattle.answers.specs.Answers.{Answer, accepted, refused, through, and_then}
use Rattle.answers.proofs.Answering.{through_twice}
use Rattle.function_ids.specs.FunctionIds.{Form, narrow, wide, function_number, read_function_id}
use Rattle.function_ids.specs.declared.FunctionId.{FunctionId}
use Rattle.function_ids.specs.declared.FunctionId.TheVariants as id
use Rattle.function_ids.specs.CallTable.{Kind, mpidr, level, feature, mode, reset_type, off_type, Part, rule_of, look_of_number, number_in, kept_set, value_in}
use Rattle.function_ids.proofs.FunctionIdLaws.{function_number_is}
use Rattle.words.specs.Mpidrs.{read_mpidr32, read_mpidr64}
use Rattle.words.specs.PsciFeatures.{read_feature}
use Rattle.words.specs.ResetTypes.{read_reset_type}
use Rattle.words.specs.SuspendModes.{read_suspend_mode}
use Rattle.words.specs.SystemOff2Types.{read_system_off2_type}
use Rattle.words.specs.declared.mpidrs.Mpidr.{Mpidr}
use Rattle.words.specs.declared.original_power_states.OriginalPowerState.{OriginalPowerState}
use Rattle.function.specs.Forms.{in_form, entry_form, mpidr_form}
use Rattle.function.specs.Functions.{function_id_of}
use Rattle.function.specs.States.{with_state}
use Rattle.function.specs.Stateless.{StatelessFunction, no_state, among, function_of}
use Rattle.function.specs.declared.stateless.NoState.{NoState}
use Rattle.function.specs.declared.Call.{Call}
use Rattle.function.specs.declared.Call.TheVariants.{Version, CpuSuspend, CpuOff, CpuOn, AffinityInfo, Migrate, MigrateInfoType, MigrateInfoUpCpu, SystemOff, SystemOff2, SystemReset, SystemReset2, MemProtect, MemProtectCheckRange, Features, CpuFreeze, CpuDefaultSuspend, NodeHwState, SystemSuspend, SetSuspendMode, StatResidency, StatCount}
use Rattle.decode_definition.specs.RefusalOrders.{affinity_info}
use Rattle.decode_definition.specs.Decode.{call_of, call_in, decode_by}
use Rattle.encode_definition.specs.Arguments.{arguments_by}
use Rattle.encode_definition.specs.Encode.{words_by}
use Rattle.original_calls.specs.OriginalFunctions.{OriginalFunction, original_of}
use Rattle.original_calls.specs.TwoFormats.{WithoutState}

-- a reader that no word passes: there is no state to give
abbrev pub never : ℕ → Answer NoState
never word = refused 0 (pos 0)

-- ---- decoding

module _ {S : Type 0} (read : ℕ → Answer S) where
  level_among : (most lowest : ℕ) (m : Answer Mpidr) → ◌≡◌ {A = Answer (Call S)} (affinity_info most lowest m) (through among (affinity_info most lowest m))
  level_among most lowest m = tested (leb lowest most)
    where
      tested : (t : Bool) → ◌≡◌ {A = Answer (Call S)} (cond t (through (λ x. AffinityInfo x lowest) m) (refused 5 (pos lowest)))
          (through among (cond t (through (λ x. AffinityInfo x lowest) m) (refused 5 (pos lowest))))
      tested true = sym (through_twice _ among m)
      tested false = refl

  -- a function that has no power state has the same call in every format
  pub row_among : (f : FunctionId) (the : Kind → ℕ) → WithoutState (function_number f) → call_of read f the ≡ through among (call_of never f the)
  row_among id.PsciVersion the o = refl
  row_among id.CpuSuspend32 the o = absurd (o.0 refl)
  row_among id.CpuSuspend64 the o = absurd (o.1.0 refl)
  row_among id.CpuOff the o = refl
  row_among id.CpuOn32 the o = sym (through_twice _ among (read_mpidr32 (the mpidr)))
  row_among id.CpuOn64 the o = sym (through_twice _ among (read_mpidr64 (the mpidr)))
  row_among id.AffinityInfo32 the o = level_among 2 (the level) (read_mpidr32 (the mpidr))
  row_among id.AffinityInfo64 the o = level_among 3 (the level) (read_mpidr64 (the mpidr))
  row_among id.Migrate32 the o = sym (through_twice _ among (read_mpidr32 (the mpidr)))
  row_among id.Migrate64 the o = sym (through_twice _ among (read_mpidr64 (the mpidr)))
  row_among id.MigrateInfoType the o = refl
  row_among id.MigrateInfoUpCpu32 the o = refl
  row_among id.MigrateInfoUpCpu64 the o = refl
  row_among id.SystemOff the o = refl
  row_among id.SystemReset the o = refl
  row_among id.PsciFeatures the o = sym (through_twice _ among (read_feature (the feature)))
  row_among id.CpuFreeze the o = refl
  row_among id.CpuDefaultSuspend32 the o = refl
  row_among id.CpuDefaultSuspend64 the o = refl
  row_among id.NodeHwState32 the o = sym (through_twice _ among (read_mpidr32 (the mpidr)))
  row_among id.NodeHwState64 the o = sym (through_twice _ among (read_mpidr64 (the mpidr)))
  row_among id.SystemSuspend32 the o = refl
  row_among id.SystemSuspend64 the o = refl
  row_among id.PsciSetSuspendMode the o = sym (through_twice _ among (read_suspend_mode (the mode)))
  row_among id.PsciStatResidency32 the o = absurd (o.1.1.0 refl)
  row_among id.PsciStatResidency64 the o = absurd (o.1.1.1.0 refl)
  row_among id.PsciStatCount32 the o = absurd (o.1.1.1.1.0 refl)
  row_among id.PsciStatCount64 the o = absurd (o.1.1.1.1.1.0 refl)
  row_among id.SystemReset232 the o = sym (through_twice _ among (read_reset_type (the reset_type)))
  row_among id.SystemReset264 the o = sym (through_twice _ among (read_reset_type (the reset_type)))
  row_among id.MemProtect the o = refl
  row_among id.MemProtectCheckRange32 the o = refl
  row_among id.MemProtectCheckRange64 the o = refl
  row_among id.SystemOff232 the o = sym (through_twice _ among (read_system_off2_type (the off_type)))
  row_among id.SystemOff264 the o = sym (through_twice _ among (read_system_off2_type (the off_type)))

  number_among : (n : ℕ) (the : Kind → ℕ) → WithoutState n → (x : Answer FunctionId) → read_function_id n ≡ x →
      and_then x (λ f. call_of read f the) ≡ through among (and_then x (λ f. call_of never f the))
  number_among n the o (accepted f) e = row_among f the (rw (function_number_is n f e) o)
  number_among n the o (refused number value) e = refl

  -- and so has a register set, whichever part of r1 memory protect looks at
  pub set_among : (protect : Part) (r : List ℕ) → WithoutState (number_in r) → decode_by read protect r ≡ through among (decode_by never protect r)
  unfolding decode_by call_in
  set_among protect r o =
      number_among (number_in r) (value_in (rule_of (number_in r)).fields (kept_set (look_of_number protect) r)) o (read_function_id (number_in r)) refl

-- ---- the 19 calls

pub own : (g : StatelessFunction) (s : OriginalPowerState) → with_state (function_of g) s ≡ original_of g
own Version s = refl
own CpuOff s = refl
own (CpuOn x y) s = refl
own (AffinityInfo x y) s = refl
own (Migrate x) s = refl
own MigrateInfoType s = refl
own (MigrateInfoUpCpu x) s = refl
own SystemOff s = refl
own (SystemOff2 x y) s = refl
own SystemReset s = refl
own (SystemReset2 x y) s = refl
own (MemProtect x) s = refl
own (MemProtectCheckRange x) s = refl
own (Features x) s = refl
own CpuFreeze s = refl
own (CpuDefaultSuspend x) s = refl
own (NodeHwState x y) s = refl
own (SystemSuspend x) s = refl
own (SetSuspendMode x) s = refl
own (CpuSuspend x y) s = no_state x
own (StatResidency x y) s = no_state y
own (StatCount x y) s = no_state y

-- the words of such a call are the same by every writer
module _ {A B : Type 0} (write : A → Answer ℕ) (other : B → Answer ℕ) where
  pub written_among : (g : StatelessFunction) → words_by write (among g) ≡ words_by other (among g)
  unfolding words_by arguments_by function_id_of
  written_among Version = refl
  written_among CpuOff = refl
  written_among (CpuOn x y) = refl
  written_among (AffinityInfo x y) = refl
  written_among (Migrate x) = refl
  written_among MigrateInfoType = refl
  written_among (MigrateInfoUpCpu x) = refl
  written_among SystemOff = refl
  written_among (SystemOff2 x y) = refl
  written_among SystemReset = refl
  written_among (SystemReset2 x y) = refl
  written_among (MemProtect x) = refl
  written_among (MemProtectCheckRange x) = refl
  written_among (Features x) = refl
  written_among CpuFreeze = refl
  written_among (CpuDefaultSuspend x) = refl
  written_among (NodeHwState x y) = refl
  written_among (SystemSuspend x) = refl
  written_among (SetSuspendMode x) = refl
  written_among (CpuSuspend x y) = no_state x
  written_among (StatResidency x y) = no_state y
  written_among (StatCount x y) = no_state y

-- ---- a call that has a power state has one of the six numbers

-- a number in one of two forms is none of some only if neither form's is among them
either_form : (form : Form) (x y f : FunctionId) → accepted (in_form form x y) ≡ accepted f → (function_number f ≡ function_number x → ⊥) → (function_number f ≡ function_number y → ⊥) → ⊥
either_form narrow x y f e a b = a (let s : f ≡ x = cc in ap function_number s)
either_form wide x y f e a b = b (let s : f ≡ y = cc in ap function_number s)

pub other : (f : OriginalFunction) (n : FunctionId) → function_id_of f ≡ accepted n → WithoutState (function_number n) → (g : StatelessFunction) × (f ≡ original_of g)
unfolding function_id_of
other (CpuSuspend s e) n q o = absurd (either_form (entry_form e) id.CpuSuspend32 id.CpuSuspend64 n q o.0 o.1.0)
other (StatResidency m s) n q o = absurd (either_form (mpidr_form m.aff3) id.PsciStatResidency32 id.PsciStatResidency64 n q o.1.1.0 o.1.1.1.0)
other (StatCount m s) n q o = absurd (either_form (mpidr_form m.aff3) id.PsciStatCount32 id.PsciStatCount64 n q o.1.1.1.1.0 o.1.1.1.1.1.0)
other Version n e o = (Version, refl)
other CpuOff n e o = (CpuOff, refl)
other (CpuOn x y) n e o = (CpuOn x y, refl)
other (AffinityInfo x y) n e o = (AffinityInfo x y, refl)
other (Migrate x) n e o = (Migrate x, refl)
other MigrateInfoType n e o = (MigrateInfoType, refl)
other (MigrateInfoUpCpu x) n e o = (MigrateInfoUpCpu x, refl)
other SystemOff n e o = (SystemOff, refl)
other (SystemOff2 x y) n e o = (SystemOff2 x y, refl)
other SystemReset n e o = (SystemReset, refl)
other (SystemReset2 x y) n e o = (SystemReset2 x y, refl)
other (MemProtect x) n e o = (MemProtect x, refl)
other (MemProtectCheckRange x) n e o = (MemProtectCheckRange x, refl)
other (Features x) n e o = (Features x, refl)
other CpuFreeze n e o = (CpuFreeze, refl)
other (CpuDefaultSuspend x) n e o = (CpuDefaultSuspend x, refl)
other (NodeHwState x y) n e o = (NodeHwState x y, refl)
other (SystemSuspend x) n e o = (SystemSuspend x, refl)
other (SetSuspendMode x) n e o = (SetSuspendMode x, refl)
