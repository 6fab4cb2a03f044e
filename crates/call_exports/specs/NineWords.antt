-- The nine words of a call, by the parts of its power state, which its format has.
use Rattle.std.specs.Prelude.{List, [], ◌∷◌, ◌++◌, ℕ}
use Rattle.function.specs.Functions.{Function}
use Rattle.function.specs.declared.Call.{Call}
use Rattle.function.specs.declared.Call.TheVariants as call
use Rattle.words.specs.Flags.{flag_word}
use Rattle.words.specs.PsciFeatures.{feature_number}
use Rattle.words.specs.SuspendModes.{suspend_mode_number}
use Rattle.call_exports.specs.Parts.{CallPart, ◌within◌, tag, values_of, nine, mpidr_parts, power_state_parts, entry_parts, cookie_parts, range_parts, reset_type_parts}

-- the tag, which is the index in the enum Call; the parts of its fields in their order
abbrev pub parts_by : {S : Type 0} → (S → List CallPart) → Call S → List CallPart
parts_by state_parts call.Version = tag 0 ∷ []
parts_by state_parts (call.CpuSuspend state entry) = tag 1 ∷ state_parts state ++ entry_parts entry
parts_by state_parts call.CpuOff = tag 2 ∷ []
parts_by state_parts (call.CpuOn mpidr entry) = tag 3 ∷ mpidr_parts mpidr ++ entry_parts entry
parts_by state_parts (call.AffinityInfo mpidr level) = tag 4 ∷ mpidr_parts mpidr ++ level within 32 ∷ []
parts_by state_parts (call.Migrate mpidr) = tag 5 ∷ mpidr_parts mpidr
parts_by state_parts call.MigrateInfoType = tag 6 ∷ []
parts_by state_parts (call.MigrateInfoUpCpu is32bit) = tag 7 ∷ flag_word is32bit within 1 ∷ []
parts_by state_parts call.SystemOff = tag 8 ∷ []
parts_by state_parts (call.SystemOff2 off_type cookie) = tag 9 ∷ 0 within 1 ∷ cookie_parts cookie
parts_by state_parts call.SystemReset = tag 10 ∷ []
parts_by state_parts (call.SystemReset2 reset_type cookie) = tag 11 ∷ reset_type_parts reset_type ++ cookie_parts cookie
parts_by state_parts (call.MemProtect enabled) = tag 12 ∷ flag_word enabled within 1 ∷ []
parts_by state_parts (call.MemProtectCheckRange range) = tag 13 ∷ range_parts range
parts_by state_parts (call.Features feature) = tag 14 ∷ feature_number feature within 32 ∷ []
parts_by state_parts call.CpuFreeze = tag 15 ∷ []
parts_by state_parts (call.CpuDefaultSuspend entry) = tag 16 ∷ entry_parts entry
parts_by state_parts (call.NodeHwState mpidr level) = tag 17 ∷ mpidr_parts mpidr ++ level within 32 ∷ []
parts_by state_parts (call.SystemSuspend entry) = tag 18 ∷ entry_parts entry
parts_by state_parts (call.SetSuspendMode mode) = tag 19 ∷ suspend_mode_number mode within 1 ∷ []
parts_by state_parts (call.StatResidency mpidr state) = tag 20 ∷ mpidr_parts mpidr ++ state_parts state
parts_by state_parts (call.StatCount mpidr state) = tag 21 ∷ mpidr_parts mpidr ++ state_parts state

unfoldable pub nine_words_by : {S : Type 0} → (S → List CallPart) → Call S → List ℕ
nine_words_by state_parts f = nine (values_of (parts_by state_parts f))

-- of document 01's calls
abbrev pub call_parts : Function → List CallPart
call_parts f = parts_by power_state_parts f

abbrev pub nine_words : Function → List ℕ
nine_words f = nine_words_by power_state_parts f
