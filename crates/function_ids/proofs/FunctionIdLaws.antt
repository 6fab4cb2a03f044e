-- Reading and writing a function number invert each other. Assumes nothing.
use mathlib.Core.Path.{◌≡◌, refl, sym, ap, ◌∙◌}
use mathlib.Core.Bool.{Bool, true}
use Prim.Native.Nat.{ℕ}
use lib.IntN.{pos}
use Rattle.answers.specs.Answers.{accepted}
use Rattle.answers.specs.Inverses.{Any}
use Rattle.answers.proofs.Answering.{same_accepted}
use Rattle.answers.proofs.Choosing.{numbered_is, numbered_writes, numbered_reads, every, every_chosen}
use Rattle.function_ids.specs.FunctionIds.{functions, function_number, read_function_id}
use Rattle.function_ids.specs.FunctionIdLaws.{FunctionIdLaws}
use Rattle.function_ids.specs.declared.FunctionId.{FunctionId}
use Rattle.function_ids.specs.declared.FunctionId.TheVariants.{PsciVersion, CpuSuspend32, CpuSuspend64, CpuOff, CpuOn32, CpuOn64, AffinityInfo32, AffinityInfo64, Migrate32, Migrate64, MigrateInfoType, MigrateInfoUpCpu32, MigrateInfoUpCpu64, SystemOff, SystemReset, PsciFeatures, CpuFreeze, CpuDefaultSuspend32, CpuDefaultSuspend64, NodeHwState32, NodeHwState64, SystemSuspend32, SystemSuspend64, PsciSetSuspendMode, PsciStatResidency32, PsciStatResidency64, PsciStatCount32, PsciStatCount64, SystemReset232, SystemReset264, MemProtect, MemProtectCheckRange32, MemProtectCheckRange64, SystemOff232, SystemOff264}

-- a word that is read as a function is that function's number
pub function_number_is : (word : ℕ) (f : FunctionId) → read_function_id word ≡ accepted f → function_number f ≡ word
unfolding read_function_id
function_number_is word f q = numbered_is function_number functions 1 word f q

-- and each function is read from its number
pub function_back : (f : FunctionId) → read_function_id (function_number f) ≡ accepted f
unfolding read_function_id
function_back PsciVersion = refl
function_back CpuSuspend32 = refl
function_back CpuSuspend64 = refl
function_back CpuOff = refl
function_back CpuOn32 = refl
function_back CpuOn64 = refl
function_back AffinityInfo32 = refl
function_back AffinityInfo64 = refl
function_back Migrate32 = refl
function_back Migrate64 = refl
function_back MigrateInfoType = refl
function_back MigrateInfoUpCpu32 = refl
function_back MigrateInfoUpCpu64 = refl
function_back SystemOff = refl
function_back SystemReset = refl
function_back PsciFeatures = refl
function_back CpuFreeze = refl
function_back CpuDefaultSuspend32 = refl
function_back CpuDefaultSuspend64 = refl
function_back NodeHwState32 = refl
function_back NodeHwState64 = refl
function_back SystemSuspend32 = refl
function_back SystemSuspend64 = refl
function_back PsciSetSuspendMode = refl
function_back PsciStatResidency32 = refl
function_back PsciStatResidency64 = refl
function_back PsciStatCount32 = refl
function_back PsciStatCount64 = refl
function_back SystemReset232 = refl
function_back SystemReset264 = refl
function_back MemProtect = refl
function_back MemProtectCheckRange32 = refl
function_back MemProtectCheckRange64 = refl
function_back SystemOff232 = refl
function_back SystemOff264 = refl

-- so no two functions have one number
pub same_number : (f g : FunctionId) → function_number f ≡ function_number g → f ≡ g
same_number f g e = same_accepted (sym (function_back f) ∙ ap read_function_id e ∙ function_back g)

-- and what a computed test finds of all functions holds of each
pub every_function : (test : FunctionId → Bool) → every test functions ≡ true → (f : FunctionId) → test f ≡ true
unfolding read_function_id
every_function test e f = every_chosen test function_number functions 1 (pos (function_number f)) (function_number f) f e (function_back f)

pub function_id_laws : FunctionIdLaws
unfolding read_function_id
function_id_laws = record {
  writes_back = numbered_writes function_number functions 1 Any;
  reads_back = numbered_reads function_number functions 1 Any function_back;
}
