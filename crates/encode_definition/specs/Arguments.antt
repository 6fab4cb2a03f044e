-- Document 01, "The four written words": the fields stand in their registers, all other bits are zero. The writer of the power state is a parameter: a
-- board may be set to another format (document 02, Change 1).
use Rattle.std.specs.Prelude.{List, [], ◌∷◌, ℕ, get_or}
use Rattle.answers.specs.Answers.{Answer, accepted, through}
use Rattle.words.specs.Mpidrs.{write_mpidr64}
use Rattle.words.specs.PowerStates.{write_power_state}
use Rattle.words.specs.ResetTypes.{write_reset_type}
use Rattle.words.specs.EntryPoints.{entry_address, entry_context}
use Rattle.words.specs.PsciFeatures.{feature_number}
use Rattle.words.specs.SuspendModes.{suspend_mode_number}
use Rattle.words.specs.SystemOff2Types.{system_off2_number}
use Rattle.words.specs.Cookies.{cookie_word}
use Rattle.words.specs.MemProtectRanges.{base_word, length_word}
use Rattle.words.specs.Flags.{flag_word}
use Rattle.function.specs.Functions.{Function}
use Rattle.function.specs.declared.Call.{Call}
use Rattle.function.specs.declared.Call.TheVariants.{Version, CpuSuspend, CpuOff, CpuOn, AffinityInfo, Migrate, MigrateInfoType, MigrateInfoUpCpu, SystemOff, SystemOff2, SystemReset, SystemReset2, MemProtect, MemProtectCheckRange, Features, CpuFreeze, CpuDefaultSuspend, NodeHwState, SystemSuspend, SetSuspendMode, StatResidency, StatCount}

-- the fields of a call, from register 1 on. A level is written unchecked; a power state may be refused by its writer, and a vendor type above
-- 0x7fffffff is refusal 31, of its writer (document 02, Change 5)
abbrev pub fields_of : {S : Type 0} → (S → Answer ℕ) → Call S → Answer (List ℕ)
fields_of write Version = accepted []
fields_of write (CpuSuspend state entry) = through (λ w. w ∷ entry_address entry ∷ entry_context entry ∷ []) (write state)
fields_of write CpuOff = accepted []
fields_of write (CpuOn mpidr entry) = accepted (write_mpidr64 mpidr ∷ entry_address entry ∷ entry_context entry ∷ [])
fields_of write (AffinityInfo mpidr level) = accepted (write_mpidr64 mpidr ∷ level ∷ [])
fields_of write (Migrate mpidr) = accepted (write_mpidr64 mpidr ∷ [])
fields_of write MigrateInfoType = accepted []
fields_of write (MigrateInfoUpCpu is32bit) = accepted []
fields_of write SystemOff = accepted []
fields_of write (SystemOff2 off_type cookie) = accepted (system_off2_number off_type ∷ cookie_word cookie ∷ [])
fields_of write SystemReset = accepted []
fields_of write (SystemReset2 reset_type cookie) = through (λ w. w ∷ cookie_word cookie ∷ []) (write_reset_type reset_type)
fields_of write (MemProtect enabled) = accepted (flag_word enabled ∷ [])
fields_of write (MemProtectCheckRange range) = accepted (base_word range ∷ length_word range ∷ [])
fields_of write (Features feature) = accepted (feature_number feature ∷ [])
fields_of write CpuFreeze = accepted []
fields_of write (CpuDefaultSuspend entry) = accepted (entry_address entry ∷ entry_context entry ∷ [])
fields_of write (NodeHwState mpidr level) = accepted (write_mpidr64 mpidr ∷ level ∷ [])
fields_of write (SystemSuspend entry) = accepted (entry_address entry ∷ entry_context entry ∷ [])
fields_of write (SetSuspendMode mode) = accepted (suspend_mode_number mode ∷ [])
fields_of write (StatResidency mpidr state) = through (λ w. write_mpidr64 mpidr ∷ w ∷ []) (write state)
fields_of write (StatCount mpidr state) = through (λ w. write_mpidr64 mpidr ∷ w ∷ []) (write state)

-- three words of some fields, and zeros where they are lacking
abbrev pub three : List ℕ → List ℕ
three fields = get_or fields 0 0 ∷ get_or fields 1 0 ∷ get_or fields 2 0 ∷ []

-- words 1 to 3 of a call
unfoldable pub arguments_by : {S : Type 0} → (S → Answer ℕ) → Call S → Answer (List ℕ)
arguments_by write f = through three (fields_of write f)

-- document 01's: a state ID above 0x0fffffff is refusal 15, of its writer
abbrev pub arguments_of : Function → Answer (List ℕ)
arguments_of f = arguments_by write_power_state f
