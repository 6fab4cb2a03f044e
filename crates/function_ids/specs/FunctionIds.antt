-- Document 01, "The typed call": the 35 function numbers.
use Rattle.std.specs.Prelude.{List, [], ◌∷◌, ℕ, ◌+◌, pos}
use Rattle.answers.specs.Answers.{Answer, refused, choose}
use Rattle.function_ids.specs.declared.FunctionId.{FunctionId}
use Rattle.function_ids.specs.declared.FunctionId.TheVariants.{PsciVersion, CpuSuspend32, CpuSuspend64, CpuOff, CpuOn32, CpuOn64, AffinityInfo32, AffinityInfo64, Migrate32, Migrate64, MigrateInfoType, MigrateInfoUpCpu32, MigrateInfoUpCpu64, SystemOff, SystemReset, PsciFeatures, CpuFreeze, CpuDefaultSuspend32, CpuDefaultSuspend64, NodeHwState32, NodeHwState64, SystemSuspend32, SystemSuspend64, PsciSetSuspendMode, PsciStatResidency32, PsciStatResidency64, PsciStatCount32, PsciStatCount64, SystemReset232, SystemReset264, MemProtect, MemProtectCheckRange32, MemProtectCheckRange64, SystemOff232, SystemOff264}

-- Number 0x84000000 + n is the 32-bit form, 0xc4000000 + n the 64-bit form.
pub data Form : Type 0 where
  narrow : Form
  wide : Form

abbrev pub form32 : ℕ → ℕ
form32 n = 0x84000000 + n

abbrev pub form64 : ℕ → ℕ
form64 n = 0xc4000000 + n

abbrev pub function_number : FunctionId → ℕ
function_number PsciVersion = form32 0x00
function_number CpuSuspend32 = form32 0x01
function_number CpuSuspend64 = form64 0x01
function_number CpuOff = form32 0x02
function_number CpuOn32 = form32 0x03
function_number CpuOn64 = form64 0x03
function_number AffinityInfo32 = form32 0x04
function_number AffinityInfo64 = form64 0x04
function_number Migrate32 = form32 0x05
function_number Migrate64 = form64 0x05
function_number MigrateInfoType = form32 0x06
function_number MigrateInfoUpCpu32 = form32 0x07
function_number MigrateInfoUpCpu64 = form64 0x07
function_number SystemOff = form32 0x08
function_number SystemReset = form32 0x09
function_number PsciFeatures = form32 0x0a
function_number CpuFreeze = form32 0x0b
function_number CpuDefaultSuspend32 = form32 0x0c
function_number CpuDefaultSuspend64 = form64 0x0c
function_number NodeHwState32 = form32 0x0d
function_number NodeHwState64 = form64 0x0d
function_number SystemSuspend32 = form32 0x0e
function_number SystemSuspend64 = form64 0x0e
function_number PsciSetSuspendMode = form32 0x0f
function_number PsciStatResidency32 = form32 0x10
function_number PsciStatResidency64 = form64 0x10
function_number PsciStatCount32 = form32 0x11
function_number PsciStatCount64 = form64 0x11
function_number SystemReset232 = form32 0x12
function_number SystemReset264 = form64 0x12
function_number MemProtect = form32 0x13
function_number MemProtectCheckRange32 = form32 0x14
function_number MemProtectCheckRange64 = form64 0x14
function_number SystemOff232 = form32 0x15
function_number SystemOff264 = form64 0x15

-- all of them, in the order of the table
abbrev pub functions : List FunctionId
functions =
    PsciVersion ∷ CpuSuspend32 ∷ CpuSuspend64 ∷ CpuOff ∷ CpuOn32 ∷ CpuOn64 ∷ AffinityInfo32 ∷
    AffinityInfo64 ∷ Migrate32 ∷ Migrate64 ∷ MigrateInfoType ∷ MigrateInfoUpCpu32 ∷ MigrateInfoUpCpu64 ∷
    SystemOff ∷ SystemReset ∷ PsciFeatures ∷ CpuFreeze ∷ CpuDefaultSuspend32 ∷ CpuDefaultSuspend64 ∷
    NodeHwState32 ∷ NodeHwState64 ∷ SystemSuspend32 ∷ SystemSuspend64 ∷ PsciSetSuspendMode ∷
    PsciStatResidency32 ∷ PsciStatResidency64 ∷ PsciStatCount32 ∷ PsciStatCount64 ∷ SystemReset232 ∷
    SystemReset264 ∷ MemProtect ∷ MemProtectCheckRange32 ∷ MemProtectCheckRange64 ∷ SystemOff232 ∷
    SystemOff264 ∷ []

-- refusal 1: an unknown function number
unfoldable pub read_function_id : ℕ → Answer FunctionId
read_function_id word = choose function_number functions (refused 1 (pos word)) word
