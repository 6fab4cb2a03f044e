-- The value of the parts of a value is that value, where each part fits its slot. Assumes nothing.
use mathlib.Core.Path.{◌≡◌, refl, ap, ap₂, ◌∙◌}
use mathlib.Core.Bool.{Bool, true, false, not}
use mathlib.Core.List.{List, [], ◌∷◌, ◌++◌}
use Prim.Native.Nat.{ℕ, ◌^◌, ◌<◌}
use native.Mathlib.Nat.{mod-eq_of_lt}
use lib.Dec.{eqb}
use Rattle.std.specs.Prelude.{Option, None, Some}
use Rattle.words.specs.Flags.{flag_word}
use Rattle.words.specs.Mpidrs.{aff3_number}
use Rattle.words.specs.EntryPoints.{entry_address, entry_context}
use Rattle.words.specs.Cookies.{cookie_word}
use Rattle.words.specs.MemProtectRanges.{base_word, length_word}
use Rattle.words.specs.PsciFeatures.{feature_number, read_feature}
use Rattle.words.specs.SuspendModes.{suspend_mode_number}
use Rattle.words.specs.declared.mpidrs.Mpidr.{Mpidr}
use Rattle.words.specs.declared.power_states.PowerState.{PowerState}
use Rattle.words.specs.declared.power_states.PowerState.TheVariants.{StandbyOrRetention, PowerDown}
use Rattle.words.specs.declared.reset_types.ArchitecturalResetType.TheVariants.{SystemWarmReset}
use Rattle.words.specs.declared.reset_types.ResetType.{ResetType}
use Rattle.words.specs.declared.reset_types.ResetType.TheVariants.{Architectural, VendorSpecific}
use Rattle.words.specs.declared.cookies.Cookie.{Cookie}
use Rattle.words.specs.declared.cookies.Cookie.TheVariants.{Cookie32, Cookie64}
use Rattle.words.specs.declared.entry_points.EntryPoint.{EntryPoint}
use Rattle.words.specs.declared.entry_points.EntryPoint.TheVariants.{Entry32, Entry64}
use Rattle.words.specs.declared.mem_protect_ranges.MemProtectRange.{MemProtectRange}
use Rattle.words.specs.declared.mem_protect_ranges.MemProtectRange.TheVariants.{Range32, Range64}
use Rattle.words.specs.declared.psci_features.PsciFeature.{PsciFeature}
use Rattle.words.specs.declared.psci_features.PsciFeature.TheVariants.{SmcccVersion}
use Rattle.words.specs.declared.suspend_modes.SuspendMode.{SuspendMode}
use Rattle.words.specs.declared.suspend_modes.SuspendMode.TheVariants.{PlatformCoordinated, OsInitiated}
use Rattle.words.proofs.WordLaws.{word_laws}
use Rattle.function.specs.Forms.{mpidr_form, entry_form, cookie_form, range_form}
use Rattle.call_exports.specs.LowBits.{low, byte}
use Rattle.call_exports.specs.Parts.{CallPart, ◌within◌, Fit, values_of, form_part, down_part, state_id, vendor_part, vendor_type, mpidr_parts, power_state_parts, entry_parts, cookie_parts, range_parts, reset_type_parts}
use Rattle.call_exports.specs.FromParts.{either, accepted_or, mpidr_in, power_state_in, entry_in, cookie_in, range_in, reset_type_in, feature_in, mode_in}

-- parts, and others behind them, fit where both do
pub first_fit : (ps qs : List CallPart) → Fit (ps ++ qs) → Fit ps
first_fit [] qs h = tt
first_fit (p ∷ ps) qs h = (h.0, first_fit ps qs h.1)

pub last_fit : (ps qs : List CallPart) → Fit (ps ++ qs) → Fit qs
last_fit [] qs h = h
last_fit (p ∷ ps) qs h = last_fit ps qs h.1

pub both_fit : (ps qs : List CallPart) → Fit ps → Fit qs → Fit (ps ++ qs)
both_fit [] qs h g = g
both_fit (p ∷ ps) qs h g = (h.0, both_fit ps qs h.1 g)

-- what is made of two values that are each the value of their parts
pub of_both : {A B C : Type 0} (make : A → B → C) (ps qs : List CallPart) {a a' : A} {b b' : B} → Fit (ps ++ qs) → (Fit ps → a ≡ a') → (Fit qs → b ≡ b') → make a b ≡ make a' b'
of_both make ps qs h f g = ap₂ make (f (first_fit ps qs h)) (g (last_fit ps qs h))

aff3_own : (a : Option ℕ) → aff3_number a < 2 ^ 8 → either (form_part (mpidr_form a)) None (Some (byte (aff3_number a))) ≡ a
aff3_own None h = refl
aff3_own (Some b) h = ap Some (mod-eq_of_lt h)

-- parts 1 to 5, behind a tag
pub mpidr_own : (m : Mpidr) → Fit (mpidr_parts m) → mpidr_in (0 ∷ values_of (mpidr_parts m)) ≡ m
mpidr_own m h = rw (mod-eq_of_lt h.1.1.1.1.0, mod-eq_of_lt h.1.1.1.0, mod-eq_of_lt h.1.1.0, aff3_own m.aff3 h.1.0)

pub power_state_own : (s : PowerState) → Fit (power_state_parts s) → power_state_in (down_part s) (state_id s) ≡ s
power_state_own (StandbyOrRetention id) h = ap StandbyOrRetention (mod-eq_of_lt h.1.0)
power_state_own (PowerDown id) h = ap PowerDown (mod-eq_of_lt h.1.0)

pub entry_own : (e : EntryPoint) → Fit (entry_parts e) → entry_in (form_part (entry_form e)) (entry_address e) (entry_context e) ≡ e
entry_own (Entry32 address context) h = ap₂ Entry32 (mod-eq_of_lt h.1.0) (mod-eq_of_lt h.1.1.0)
entry_own (Entry64 address context) h = refl

pub cookie_own : (c : Cookie) → Fit (cookie_parts c) → cookie_in (form_part (cookie_form c)) (cookie_word c) ≡ c
cookie_own (Cookie32 word) h = ap Cookie32 (mod-eq_of_lt h.1.0)
cookie_own (Cookie64 word) h = refl

pub range_own : (r : MemProtectRange) → Fit (range_parts r) → range_in (form_part (range_form r)) (base_word r) (length_word r) ≡ r
range_own (Range32 base extent) h = ap₂ Range32 (mod-eq_of_lt h.1.0) (mod-eq_of_lt h.1.1.0)
range_own (Range64 base extent) h = refl

pub reset_type_own : (t : ResetType) → Fit (reset_type_parts t) → reset_type_in (vendor_part t) (vendor_type t) ≡ t
reset_type_own (Architectural SystemWarmReset) h = refl
reset_type_own (VendorSpecific word) h = ap VendorSpecific (mod-eq_of_lt h.1.0)

pub level_own : (level : ℕ) → Fit (level within 32 ∷ []) → low level ≡ level
level_own level h = mod-eq_of_lt h.0

pub mode_own : (m : SuspendMode) → mode_in (suspend_mode_number m) ≡ m
mode_own PlatformCoordinated = refl
mode_own OsInitiated = refl

pub flag_own : (b : Bool) → not (eqb (flag_word b) 0) ≡ b
flag_own true = refl
flag_own false = refl

pub feature_own : (f : PsciFeature) → Fit (feature_number f within 32 ∷ []) → feature_in (feature_number f) ≡ f
feature_own f h = ap (accepted_or SmcccVersion) (ap read_feature (mod-eq_of_lt h.0) ∙ word_laws.feature_reads_back f (feature_number f) tt refl)
