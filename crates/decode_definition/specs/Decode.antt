-- Document 01, "The typed call" and "What is turned back": decoding, for every four registers; and document 02's Change 2, decoding in which
-- memory protect looks at the low half of r1. Where each field stands and which bits it takes is said by the table of calls alone; here it is
-- asked for by its kind. The reader of the power state is a parameter: a board may be set to another format (document 02, Change 1).
use Rattle.std.specs.Prelude.{true, false, not, List, ℕ, eqb, get_or}
use Rattle.answers.specs.Answers.{Answer, accepted, through, and_then}
use Rattle.function_ids.specs.FunctionIds.{read_function_id}
use Rattle.function_ids.specs.declared.FunctionId.{FunctionId}
use Rattle.function_ids.specs.declared.FunctionId.TheVariants as id
use Rattle.function_ids.specs.CallTable.{Kind, power_state, entry, context, mpidr, level, feature, mode, reset_type, off_type, cookie, range_base, range_length, memory_protect, Part, low_half, whole, rule_of, look_of_number, kept_set, value_in}
use Rattle.words.specs.Mpidrs.{read_mpidr32, read_mpidr64}
use Rattle.words.specs.PowerStates.{read_power_state}
use Rattle.words.specs.ResetTypes.{read_reset_type}
use Rattle.words.specs.PsciFeatures.{read_feature}
use Rattle.words.specs.SuspendModes.{read_suspend_mode}
use Rattle.words.specs.SystemOff2Types.{read_system_off2_type}
use Rattle.words.specs.declared.entry_points.EntryPoint.TheVariants.{Entry32, Entry64}
use Rattle.words.specs.declared.cookies.Cookie.TheVariants.{Cookie32, Cookie64}
use Rattle.words.specs.declared.mem_protect_ranges.MemProtectRange.TheVariants.{Range32, Range64}
use Rattle.function.specs.Functions.{Function}
use Rattle.function.specs.declared.Call.{Call}
use Rattle.function.specs.declared.Call.TheVariants.{Version, CpuSuspend, CpuOff, CpuOn, Migrate, MigrateInfoType, MigrateInfoUpCpu, SystemOff, SystemOff2, SystemReset, SystemReset2, MemProtect, MemProtectCheckRange, Features, CpuFreeze, CpuDefaultSuspend, NodeHwState, SystemSuspend, SetSuspendMode, StatResidency, StatCount}
use Rattle.decode_definition.specs.RefusalOrders.{affinity_info}
use Rattle.decode_definition.specs.RefusalOrders.{of_core_state}

module _ {S : Type 0} (read : ℕ → Answer S) where
  -- the call of a function, from the value of each kind of field
  abbrev pub call_of : FunctionId → (Kind → ℕ) → Answer (Call S)
  call_of id.PsciVersion the = accepted Version
  call_of id.CpuSuspend32 the = through (λ s. CpuSuspend s (Entry32 (the entry) (the context))) (read (the power_state))
  call_of id.CpuSuspend64 the = through (λ s. CpuSuspend s (Entry64 (the entry) (the context))) (read (the power_state))
  call_of id.CpuOff the = accepted CpuOff
  call_of id.CpuOn32 the = through (λ m. CpuOn m (Entry32 (the entry) (the context))) (read_mpidr32 (the mpidr))
  call_of id.CpuOn64 the = through (λ m. CpuOn m (Entry64 (the entry) (the context))) (read_mpidr64 (the mpidr))
  call_of id.AffinityInfo32 the = affinity_info 2 (the level) (read_mpidr32 (the mpidr))
  call_of id.AffinityInfo64 the = affinity_info 3 (the level) (read_mpidr64 (the mpidr))
  call_of id.Migrate32 the = through Migrate (read_mpidr32 (the mpidr))
  call_of id.Migrate64 the = through Migrate (read_mpidr64 (the mpidr))
  call_of id.MigrateInfoType the = accepted MigrateInfoType
  call_of id.MigrateInfoUpCpu32 the = accepted (MigrateInfoUpCpu true)
  call_of id.MigrateInfoUpCpu64 the = accepted (MigrateInfoUpCpu false)
  call_of id.SystemOff the = accepted SystemOff
  call_of id.SystemReset the = accepted SystemReset
  call_of id.PsciFeatures the = through Features (read_feature (the feature))
  call_of id.CpuFreeze the = accepted CpuFreeze
  call_of id.CpuDefaultSuspend32 the = accepted (CpuDefaultSuspend (Entry32 (the entry) (the context)))
  call_of id.CpuDefaultSuspend64 the = accepted (CpuDefaultSuspend (Entry64 (the entry) (the context)))
  call_of id.NodeHwState32 the = through (λ m. NodeHwState m (the level)) (read_mpidr32 (the mpidr))
  call_of id.NodeHwState64 the = through (λ m. NodeHwState m (the level)) (read_mpidr64 (the mpidr))
  call_of id.SystemSuspend32 the = accepted (SystemSuspend (Entry32 (the entry) (the context)))
  call_of id.SystemSuspend64 the = accepted (SystemSuspend (Entry64 (the entry) (the context)))
  call_of id.PsciSetSuspendMode the = through SetSuspendMode (read_suspend_mode (the mode))
  call_of id.PsciStatResidency32 the = of_core_state StatResidency (read_mpidr32 (the mpidr)) (read (the power_state))
  call_of id.PsciStatResidency64 the = of_core_state StatResidency (read_mpidr64 (the mpidr)) (read (the power_state))
  call_of id.PsciStatCount32 the = of_core_state StatCount (read_mpidr32 (the mpidr)) (read (the power_state))
  call_of id.PsciStatCount64 the = of_core_state StatCount (read_mpidr64 (the mpidr)) (read (the power_state))
  call_of id.SystemReset232 the = through (λ t. SystemReset2 t (Cookie32 (the cookie))) (read_reset_type (the reset_type))
  call_of id.SystemReset264 the = through (λ t. SystemReset2 t (Cookie64 (the cookie))) (read_reset_type (the reset_type))
  call_of id.MemProtect the = accepted (MemProtect (not (eqb (the memory_protect) 0)))
  call_of id.MemProtectCheckRange32 the = accepted (MemProtectCheckRange (Range32 (the range_base) (the range_length)))
  call_of id.MemProtectCheckRange64 the = accepted (MemProtectCheckRange (Range64 (the range_base) (the range_length)))
  call_of id.SystemOff232 the = through (λ t. SystemOff2 t (Cookie32 (the cookie))) (read_system_off2_type (the off_type))
  call_of id.SystemOff264 the = through (λ t. SystemOff2 t (Cookie64 (the cookie))) (read_system_off2_type (the off_type))

  -- the call of a register set of which only the function number and its fields are kept; refusal 1 first
  unfoldable pub call_in : List ℕ → Answer (Call S)
  call_in words = and_then (read_function_id (get_or words 0 0)) (λ id. call_of id (value_in (rule_of (get_or words 0 0)).fields words))

  -- decoding, by the part of r1 that memory protect looks at
  unfoldable pub decode_by : Part → List ℕ → Answer (Call S)
  decode_by protect regs = call_in (kept_set (look_of_number protect) regs)

-- document 01's
abbrev pub decode_of : List ℕ → Answer Function
decode_of regs = decode_by read_power_state whole regs

-- Change 2's, by the SMC Calling Convention (DEN0028), which gives a 32-bit call only low halves: memory protect's was the one high half that
-- counted (`low_halves` in TwoDecodings.antt)
abbrev pub decode_smccc : List ℕ → Answer Function
decode_smccc regs = decode_by read_power_state low_half regs
