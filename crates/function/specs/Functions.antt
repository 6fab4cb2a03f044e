-- Document 01, "The typed call" and "The four written words": its calls, and the function number of a typed call, whatever the format of its power state.
use Rattle.answers.specs.Answers.{Answer, accepted}
use Rattle.function_ids.specs.declared.FunctionId.{FunctionId}
use Rattle.function_ids.specs.declared.FunctionId.TheVariants as id
use Rattle.words.specs.declared.power_states.PowerState.{PowerState}
use Rattle.function.specs.Forms.{in_form, entry_form, cookie_form, range_form, flag_form, mpidr_form, on_number}
use Rattle.function.specs.declared.Call.{Call}
use Rattle.function.specs.declared.Call.TheVariants.{Version, CpuSuspend, CpuOff, CpuOn, AffinityInfo, Migrate, MigrateInfoType, MigrateInfoUpCpu, SystemOff, SystemOff2, SystemReset, SystemReset2, MemProtect, MemProtectCheckRange, Features, CpuFreeze, CpuDefaultSuspend, NodeHwState, SystemSuspend, SetSuspendMode, StatResidency, StatCount}

-- document 01's calls have a power state of the extended format
abbrev pub Function : Type 0
Function = Call PowerState

unfoldable pub function_id_of : {S : Type 0} → Call S → Answer FunctionId
function_id_of Version = accepted id.PsciVersion
function_id_of (CpuSuspend state entry) = accepted (in_form (entry_form entry) id.CpuSuspend32 id.CpuSuspend64)
function_id_of CpuOff = accepted id.CpuOff
function_id_of (CpuOn mpidr entry) = on_number (mpidr_form mpidr.aff3) (entry_form entry)
function_id_of (AffinityInfo mpidr level) = accepted (in_form (mpidr_form mpidr.aff3) id.AffinityInfo32 id.AffinityInfo64)
function_id_of (Migrate mpidr) = accepted (in_form (mpidr_form mpidr.aff3) id.Migrate32 id.Migrate64)
function_id_of MigrateInfoType = accepted id.MigrateInfoType
function_id_of (MigrateInfoUpCpu is32bit) = accepted (in_form (flag_form is32bit) id.MigrateInfoUpCpu32 id.MigrateInfoUpCpu64)
function_id_of SystemOff = accepted id.SystemOff
function_id_of (SystemOff2 off_type cookie) = accepted (in_form (cookie_form cookie) id.SystemOff232 id.SystemOff264)
function_id_of SystemReset = accepted id.SystemReset
function_id_of (SystemReset2 reset_type cookie) = accepted (in_form (cookie_form cookie) id.SystemReset232 id.SystemReset264)
function_id_of (MemProtect enabled) = accepted id.MemProtect
function_id_of (MemProtectCheckRange range) = accepted (in_form (range_form range) id.MemProtectCheckRange32 id.MemProtectCheckRange64)
function_id_of (Features feature) = accepted id.PsciFeatures
function_id_of CpuFreeze = accepted id.CpuFreeze
function_id_of (CpuDefaultSuspend entry) = accepted (in_form (entry_form entry) id.CpuDefaultSuspend32 id.CpuDefaultSuspend64)
function_id_of (NodeHwState mpidr level) = accepted (in_form (mpidr_form mpidr.aff3) id.NodeHwState32 id.NodeHwState64)
function_id_of (SystemSuspend entry) = accepted (in_form (entry_form entry) id.SystemSuspend32 id.SystemSuspend64)
function_id_of (SetSuspendMode mode) = accepted id.PsciSetSuspendMode
function_id_of (StatResidency mpidr state) = accepted (in_form (mpidr_form mpidr.aff3) id.PsciStatResidency32 id.PsciStatResidency64)
function_id_of (StatCount mpidr state) = accepted (in_form (mpidr_form mpidr.aff3) id.PsciStatCount32 id.PsciStatCount64)
