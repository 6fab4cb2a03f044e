-- The value that parts stand for, each part cut to its slot. Where a part has no room in its slot, or is a number that no feature has, or a word past the
-- parts is not zero, the value's own nine words are others than those asked with: the refusal `wrong_part`.
use Rattle.std.specs.Prelude.{cond, List, ℕ, eqb, get_or, None, Some}
use Rattle.answers.specs.Answers.{Answer, accepted, refused}
use Rattle.words.specs.Mpidrs.{mpidr_of}
use Rattle.words.specs.PsciFeatures.{read_feature}
use Rattle.words.specs.declared.mpidrs.Mpidr.{Mpidr}
use Rattle.words.specs.declared.power_states.PowerState.{PowerState}
use Rattle.words.specs.declared.power_states.PowerState.TheVariants.{StandbyOrRetention, PowerDown}
use Rattle.words.specs.declared.reset_types.ArchitecturalResetType.TheVariants.{SystemWarmReset}
use Rattle.words.specs.declared.reset_types.ResetType.{ResetType}
use Rattle.words.specs.declared.reset_types.ResetType.TheVariants.{Architectural, VendorSpecific}
use Rattle.words.specs.declared.cookies.Cookie.{Cookie}
use Rattle.words.specs.declared.cookies.Cookie.TheVariants.{Cookie32, Cookie64}
use Rattle.words.specs.declared.entry_points.EntryPoint.{EntryPoint}
use Rattle.words.specs.declared.entry_points.EntryPoint.TheVariants.{Entry32, Entry64}
use Rattle.words.specs.declared.mem_protect_ranges.MemProtectRange.{MemProtectRange}
use Rattle.words.specs.declared.mem_protect_ranges.MemProtectRange.TheVariants.{Range32, Range64}
use Rattle.words.specs.declared.psci_features.PsciFeature.{PsciFeature}
use Rattle.words.specs.declared.psci_features.PsciFeature.TheVariants.{SmcccVersion}
use Rattle.words.specs.declared.suspend_modes.SuspendMode.{SuspendMode}
use Rattle.words.specs.declared.suspend_modes.SuspendMode.TheVariants.{PlatformCoordinated, OsInitiated}
use Rattle.call_exports.specs.LowBits.{low, byte}

-- 0 for the first of two things, any other number for the second
abbrev pub either : {A : Type 0} → ℕ → A → A → A
either part x y = cond (eqb part 0) x y

-- parts 1 to 5, in every call that has an MPIDR
abbrev pub mpidr_in : List ℕ → Mpidr
mpidr_in c = mpidr_of (byte (get_or c 5 0)) (byte (get_or c 4 0)) (byte (get_or c 3 0)) (either (get_or c 1 0) None (Some (byte (get_or c 2 0))))

abbrev pub power_state_in : ℕ → ℕ → PowerState
power_state_in down id = either down (StandbyOrRetention (low id)) (PowerDown (low id))

abbrev pub entry_in : ℕ → ℕ → ℕ → EntryPoint
entry_in form address context = either form (Entry32 (low address) (low context)) (Entry64 address context)

abbrev pub cookie_in : ℕ → ℕ → Cookie
cookie_in form word = either form (Cookie32 (low word)) (Cookie64 word)

abbrev pub range_in : ℕ → ℕ → ℕ → MemProtectRange
range_in form base extent = either form (Range32 (low base) (low extent)) (Range64 base extent)

abbrev pub reset_type_in : ℕ → ℕ → ResetType
reset_type_in vendor word = either vendor (Architectural SystemWarmReset) (VendorSpecific (low word))

-- what is accepted; for a refusal this one
abbrev pub accepted_or : {A : Type 0} → A → Answer A → A
accepted_or other (accepted a) = a
accepted_or other (refused number value) = other

-- the feature of that number; where none has it, one whose number is another
abbrev pub feature_in : ℕ → PsciFeature
feature_in number = accepted_or SmcccVersion (read_feature (low number))

abbrev pub mode_in : ℕ → SuspendMode
mode_in number = either number PlatformCoordinated OsInitiated
