-- Document 02, Change 1: a call in another format of the power state.
use Rattle.function.specs.declared.Call.{Call}
use Rattle.function.specs.declared.Call.TheVariants.{Version, CpuSuspend, CpuOff, CpuOn, AffinityInfo, Migrate, MigrateInfoType, MigrateInfoUpCpu, SystemOff, SystemOff2, SystemReset, SystemReset2, MemProtect, MemProtectCheckRange, Features, CpuFreeze, CpuDefaultSuspend, NodeHwState, SystemSuspend, SetSuspendMode, StatResidency, StatCount}

-- a call with what its power state is turned into; a call that has none as it is
abbrev pub map_state : {A B : Type 0} → (A → B) → Call A → Call B
map_state turn Version = Version
map_state turn (CpuSuspend state entry) = CpuSuspend (turn state) entry
map_state turn CpuOff = CpuOff
map_state turn (CpuOn mpidr entry) = CpuOn mpidr entry
map_state turn (AffinityInfo mpidr level) = AffinityInfo mpidr level
map_state turn (Migrate mpidr) = Migrate mpidr
map_state turn MigrateInfoType = MigrateInfoType
map_state turn (MigrateInfoUpCpu is32bit) = MigrateInfoUpCpu is32bit
map_state turn SystemOff = SystemOff
map_state turn (SystemOff2 off_type cookie) = SystemOff2 off_type cookie
map_state turn SystemReset = SystemReset
map_state turn (SystemReset2 reset_type cookie) = SystemReset2 reset_type cookie
map_state turn (MemProtect enabled) = MemProtect enabled
map_state turn (MemProtectCheckRange range) = MemProtectCheckRange range
map_state turn (Features feature) = Features feature
map_state turn CpuFreeze = CpuFreeze
map_state turn (CpuDefaultSuspend entry) = CpuDefaultSuspend entry
map_state turn (NodeHwState mpidr level) = NodeHwState mpidr level
map_state turn (SystemSuspend entry) = SystemSuspend entry
map_state turn (SetSuspendMode mode) = SetSuspendMode mode
map_state turn (StatResidency mpidr state) = StatResidency mpidr (turn state)
map_state turn (StatCount mpidr state) = StatCount mpidr (turn state)

-- a call with this power state in the place of its own; a call that has none as it is
abbrev pub with_state : {A B : Type 0} → Call A → B → Call B
with_state f state = map_state (λ _. state) f
