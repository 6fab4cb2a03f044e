-- The cores that a typed call names. Document 02, Change 6: "A typed call with an MPIDR needs every core of the group it names, at level 0 except
-- in affinity info", and "Node hardware state counts as level 0".
use Rattle.std.specs.Prelude.{ℕ, Option, None, Some}
use Rattle.words.specs.declared.mpidrs.Mpidr.{Mpidr}
use Rattle.function.specs.declared.Call.{Call}
use Rattle.function.specs.declared.Call.TheVariants.{Version, CpuSuspend, CpuOff, CpuOn, AffinityInfo, Migrate, MigrateInfoType, MigrateInfoUpCpu, SystemOff, SystemOff2, SystemReset, SystemReset2, MemProtect, MemProtectCheckRange, Features, CpuFreeze, CpuDefaultSuspend, NodeHwState, SystemSuspend, SetSuspendMode, StatResidency, StatCount}
use Rattle.function.specs.declared.named_cores.CoreGroup.{CoreGroup}

abbrev pub group : Mpidr → ℕ → CoreGroup
group mpidr level = record { mpidr = mpidr; level = level }

unfoldable pub named_cores : {S : Type 0} → Call S → Option CoreGroup
named_cores Version = None
named_cores (CpuSuspend state entry) = None
named_cores CpuOff = None
named_cores (CpuOn mpidr entry) = Some (group mpidr 0)
named_cores (AffinityInfo mpidr level) = Some (group mpidr level)
named_cores (Migrate mpidr) = Some (group mpidr 0)
named_cores MigrateInfoType = None
named_cores (MigrateInfoUpCpu is32bit) = None
named_cores SystemOff = None
named_cores (SystemOff2 off_type cookie) = None
named_cores SystemReset = None
named_cores (SystemReset2 reset_type cookie) = None
named_cores (MemProtect enabled) = None
named_cores (MemProtectCheckRange range) = None
named_cores (Features feature) = None
named_cores CpuFreeze = None
named_cores (CpuDefaultSuspend entry) = None
named_cores (NodeHwState mpidr level) = Some (group mpidr 0)
named_cores (SystemSuspend entry) = None
named_cores (SetSuspendMode mode) = None
named_cores (StatResidency mpidr state) = Some (group mpidr 0)
named_cores (StatCount mpidr state) = Some (group mpidr 0)
