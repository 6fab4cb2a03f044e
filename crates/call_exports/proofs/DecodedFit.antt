-- The parts of a decoded call fit their slots: those of each field as it was read, and so of each of the 35 rows. Assumes nothing.
use mathlib.Core.Path.{◌≡◌, refl, subst}
use mathlib.Core.Bool.{Bool, true, false, cond, not}
use mathlib.Core.List.{List, [], ◌∷◌}
use Prim.Native.Nat.{ℕ, ◌^◌, ◌<◌}
use native.Mathlib.Omega.{arith}
use lib.Dec.{eqb, leb, ltb, lit<}
use lib.IntN.{pos}
use borrow.Author.Tests.{ltb-true}
use Rattle.bits.specs.Bits.{bits, only}
use Rattle.answers.specs.Answers.{Answer, accepted, refused, through}
use Rattle.answers.proofs.Answering.{passed, at_once_or_through}
use Rattle.function_ids.specs.FunctionIds.{Form, narrow, wide, function_number}
use Rattle.function_ids.specs.declared.FunctionId.{FunctionId}
use Rattle.function_ids.specs.declared.FunctionId.TheVariants as id
use Rattle.function_ids.proofs.FunctionIdLaws.{every_function}
use Rattle.function_ids.specs.CallTable.{Part, low_half, whole, rule_of, look_of_number, value_in}
use Rattle.words.specs.Flags.{flag_word}
use Rattle.words.specs.Mpidrs.{mpidr32, mpidr64, fields32, fields64, read_mpidr32, read_mpidr64}
use Rattle.words.specs.PowerStates.{power_state_fields, state_id_field, power_down_field, read_power_state}
use Rattle.words.specs.PsciFeatures.{feature_number, read_feature}
use Rattle.words.specs.SuspendModes.{suspend_mode_number, read_suspend_mode}
use Rattle.words.specs.SystemOff2Types.{read_system_off2_type}
use Rattle.words.specs.ResetTypes.{vendor_field, vendor_type_field, read_architectural_reset_type, read_reset_type}
use Rattle.words.specs.declared.mpidrs.Mpidr.{Mpidr}
use Rattle.words.specs.declared.power_states.PowerState.{PowerState}
use Rattle.words.specs.declared.power_states.PowerState.TheVariants.{StandbyOrRetention, PowerDown}
use Rattle.words.specs.declared.reset_types.ResetType.{ResetType}
use Rattle.words.specs.declared.reset_types.ResetType.TheVariants.{Architectural, VendorSpecific}
use Rattle.words.specs.declared.cookies.Cookie.TheVariants.{Cookie32, Cookie64}
use Rattle.words.specs.declared.entry_points.EntryPoint.TheVariants.{Entry32, Entry64}
use Rattle.words.specs.declared.psci_features.PsciFeature.{PsciFeature}
use Rattle.words.specs.declared.psci_features.PsciFeature.TheVariants.{PsciFunction, SmcccVersion}
use Rattle.words.specs.declared.suspend_modes.SuspendMode.{SuspendMode}
use Rattle.words.specs.declared.suspend_modes.SuspendMode.TheVariants.{PlatformCoordinated, OsInitiated}
use Rattle.function.specs.Functions.{Function}
use Rattle.function.specs.declared.Call.{Call}
use Rattle.function.specs.declared.Call.TheVariants.{AffinityInfo}
use Rattle.decode_definition.specs.RefusalOrders.{affinity_info, of_core_state}
use Rattle.decode_definition.specs.Decode.{call_of, decode_by, decode_of, decode_smccc}
use Rattle.roundtrip.specs.Codec.{Registers}
use Rattle.roundtrip.proofs.TwoCodecs.{by_rows}
use Rattle.roundtrip.proofs.Rows.{FitsLook, mpidr_at}
use Rattle.call_exports.specs.Parts.{CallPart, ◌within◌, Fit, mpidr_parts, power_state_parts, entry_parts, cookie_parts, reset_type_parts}
use Rattle.call_exports.specs.NineWords.{parts_by, call_parts}
use Rattle.call_exports.proofs.OwnParts.{both_fit}

-- ---- a field as it was read

pub mpidr_fits : (form : Form) (word : ℕ) (m : Mpidr) → mpidr_at form word ≡ accepted m → Fit (mpidr_parts m)
unfolding read_mpidr32 read_mpidr64
mpidr_fits narrow word m e =
    subst (λ (x : Mpidr). Fit (mpidr_parts x)) (passed (only fields32 word) (mpidr32 word) m 3 (pos word) e).1
    (lit< tt, (lit< tt, (omega arith, (omega arith, (omega arith, tt)))))
mpidr_fits wide word m e =
    subst (λ (x : Mpidr). Fit (mpidr_parts x)) (passed (only fields64 word) (mpidr64 word) m 4 (pos word) e).1
    (lit< tt, (omega arith, (omega arith, (omega arith, (omega arith, tt)))))

pub power_state_fits : (word : ℕ) (s : PowerState) → read_power_state word ≡ accepted s → Fit (power_state_parts s)
unfolding read_power_state
power_state_fits word s e = subst (λ (x : PowerState). Fit (power_state_parts x)) (passed (only power_state_fields word) _ s 2 (pos word) e).1 (either_type (eqb (bits power_down_field word) 1))
  where
    either_type : (t : Bool) → Fit (power_state_parts (cond t (PowerDown (bits state_id_field word)) (StandbyOrRetention (bits state_id_field word))))
    either_type true = (lit< tt, (omega arith, tt))
    either_type false = (lit< tt, (omega arith, tt))

pub reset_type_fits : (word : ℕ) (t : ResetType) → read_reset_type word ≡ accepted t → Fit (reset_type_parts t)
unfolding read_reset_type
reset_type_fits word t e =
    at_once_or_through (eqb (bits vendor_field word) 1) (VendorSpecific (bits vendor_type_field word)) t Architectural (read_architectural_reset_type word) e
    (λ v q. subst (λ (x : ResetType). Fit (reset_type_parts x)) q (lit< tt, (omega arith, tt)))
    (λ a p q. subst (λ (x : ResetType). Fit (reset_type_parts x)) q (lit< tt, (lit< tt, tt)))

pub feature_fits : (f : PsciFeature) → feature_number f < 2 ^ 32
feature_fits (PsciFunction f) = ltb-true _ _ (every_function (λ (g : FunctionId). ltb (function_number g) (2 ^ 32)) refl f)
feature_fits SmcccVersion = lit< tt

pub mode_fits : (m : SuspendMode) → suspend_mode_number m < 2 ^ 1
mode_fits PlatformCoordinated = lit< tt
mode_fits OsInitiated = lit< tt

pub flag_fits : (b : Bool) → flag_word b < 2 ^ 1
flag_fits true = lit< tt
flag_fits false = lit< tt

-- ---- the rows

-- whatever the format of the power state, where the parts of a state that was read fit their slots
module _ {S : Type 0} (read : ℕ → Answer S) (parts : S → List CallPart) (state_fits : (word : ℕ) (s : S) → read word ≡ accepted s → Fit (parts s)) where
  -- what is accepted has parts that fit
  abbrev FitAnswer : Answer (Call S) → Type 0
  FitAnswer (accepted f) = Fit (parts_by parts f)
  FitAnswer (refused number value) = Unit {0}

  read_fits : {A : Type 0} (call : A → Call S) (x : Answer A) → ((a : A) → x ≡ accepted a → Fit (parts_by parts (call a))) → FitAnswer (through call x)
  read_fits call (accepted a) f = f a refl
  read_fits call (refused number value) f = tt

  level_fits : (form : Form) (most word level : ℕ) → level < 2 ^ 32 → FitAnswer (affinity_info most level (mpidr_at form word))
  level_fits form most word level h = tested (leb level most)
    where
      tested : (t : Bool) → FitAnswer (cond t (through (λ m. AffinityInfo m level) (mpidr_at form word)) (refused 5 (pos level)))
      tested true = read_fits (λ m. AffinityInfo m level) (mpidr_at form word) (λ m e. (lit< tt, both_fit (mpidr_parts m) (level within 32 ∷ []) (mpidr_fits form word m e) (h, tt)))
      tested false = tt

  core_state_fits : (call : Mpidr → S → Call S) (form : Form) (word state : ℕ) →
      ((m : Mpidr) (s : S) → Fit (mpidr_parts m) → Fit (parts s) → Fit (parts_by parts (call m s))) →
      FitAnswer (of_core_state call (mpidr_at form word) (read state))
  core_state_fits call form word state f = met (mpidr_at form word) (mpidr_fits form word)
    where
      met : (x : Answer Mpidr) → ((m : Mpidr) → x ≡ accepted m → Fit (mpidr_parts m)) → FitAnswer (of_core_state call x (read state))
      met (accepted m) g = read_fits (call m) (read state) (λ s e. f m s (g m refl) (state_fits state s e))
      met (refused number value) g = tt

  -- whichever part of r1 memory protect looks at
  fit_row : (protect : Part) (f : FunctionId) (a b c : ℕ) →
      FitsLook (look_of_number protect (function_number f) 1) a → FitsLook (look_of_number protect (function_number f) 2) b → FitsLook (look_of_number protect (function_number f) 3) c →
      FitAnswer (call_of read f (value_in (rule_of (function_number f)).fields (function_number f ∷ a ∷ b ∷ c ∷ [])))
  unfolding rule_of
  fit_row protect id.PsciVersion a b c p q s = (lit< tt, tt)
  fit_row protect id.CpuSuspend32 a b c p q s = read_fits _ (read a) (λ x e. (lit< tt, both_fit (parts x) (entry_parts (Entry32 b c)) (state_fits a x e) (lit< tt, (q, (s, tt)))))
  fit_row protect id.CpuSuspend64 a b c p q s = read_fits _ (read a) (λ x e. (lit< tt, both_fit (parts x) (entry_parts (Entry64 b c)) (state_fits a x e) (lit< tt, (q, (s, tt)))))
  fit_row protect id.CpuOff a b c p q s = (lit< tt, tt)
  fit_row protect id.CpuOn32 a b c p q s = read_fits _ (mpidr_at narrow a) (λ m e. (lit< tt, both_fit (mpidr_parts m) (entry_parts (Entry32 b c)) (mpidr_fits narrow a m e) (lit< tt, (q, (s, tt)))))
  fit_row protect id.CpuOn64 a b c p q s = read_fits _ (mpidr_at wide a) (λ m e. (lit< tt, both_fit (mpidr_parts m) (entry_parts (Entry64 b c)) (mpidr_fits wide a m e) (lit< tt, (q, (s, tt)))))
  fit_row protect id.AffinityInfo32 a b c p q s = level_fits narrow 2 a b q
  fit_row protect id.AffinityInfo64 a b c p q s = level_fits wide 3 a b q
  fit_row protect id.Migrate32 a b c p q s = read_fits _ (mpidr_at narrow a) (λ m e. (lit< tt, mpidr_fits narrow a m e))
  fit_row protect id.Migrate64 a b c p q s = read_fits _ (mpidr_at wide a) (λ m e. (lit< tt, mpidr_fits wide a m e))
  fit_row protect id.MigrateInfoType a b c p q s = (lit< tt, tt)
  fit_row protect id.MigrateInfoUpCpu32 a b c p q s = (lit< tt, (lit< tt, tt))
  fit_row protect id.MigrateInfoUpCpu64 a b c p q s = (lit< tt, (lit< tt, tt))
  fit_row protect id.SystemOff a b c p q s = (lit< tt, tt)
  fit_row protect id.SystemReset a b c p q s = (lit< tt, tt)
  fit_row protect id.PsciFeatures a b c p q s = read_fits _ (read_feature a) (λ x e. (lit< tt, (feature_fits x, tt)))
  fit_row protect id.CpuFreeze a b c p q s = (lit< tt, tt)
  fit_row protect id.CpuDefaultSuspend32 a b c p q s = (lit< tt, (lit< tt, (p, (q, tt))))
  fit_row protect id.CpuDefaultSuspend64 a b c p q s = (lit< tt, (lit< tt, (p, (q, tt))))
  fit_row protect id.NodeHwState32 a b c p q s = read_fits _ (mpidr_at narrow a) (λ m e. (lit< tt, both_fit (mpidr_parts m) (b within 32 ∷ []) (mpidr_fits narrow a m e) (q, tt)))
  fit_row protect id.NodeHwState64 a b c p q s = read_fits _ (mpidr_at wide a) (λ m e. (lit< tt, both_fit (mpidr_parts m) (b within 32 ∷ []) (mpidr_fits wide a m e) (q, tt)))
  fit_row protect id.SystemSuspend32 a b c p q s = (lit< tt, (lit< tt, (p, (q, tt))))
  fit_row protect id.SystemSuspend64 a b c p q s = (lit< tt, (lit< tt, (p, (q, tt))))
  fit_row protect id.PsciSetSuspendMode a b c p q s = read_fits _ (read_suspend_mode a) (λ m e. (lit< tt, (mode_fits m, tt)))
  fit_row protect id.PsciStatResidency32 a b c p q s = core_state_fits _ narrow a b (λ m x h g. (lit< tt, both_fit (mpidr_parts m) (parts x) h g))
  fit_row protect id.PsciStatResidency64 a b c p q s = core_state_fits _ wide a b (λ m x h g. (lit< tt, both_fit (mpidr_parts m) (parts x) h g))
  fit_row protect id.PsciStatCount32 a b c p q s = core_state_fits _ narrow a b (λ m x h g. (lit< tt, both_fit (mpidr_parts m) (parts x) h g))
  fit_row protect id.PsciStatCount64 a b c p q s = core_state_fits _ wide a b (λ m x h g. (lit< tt, both_fit (mpidr_parts m) (parts x) h g))
  fit_row protect id.SystemReset232 a b c p q s = read_fits _ (read_reset_type a) (λ t e. (lit< tt, both_fit (reset_type_parts t) (cookie_parts (Cookie32 b)) (reset_type_fits a t e) (lit< tt, (q, tt))))
  fit_row protect id.SystemReset264 a b c p q s = read_fits _ (read_reset_type a) (λ t e. (lit< tt, both_fit (reset_type_parts t) (cookie_parts (Cookie64 b)) (reset_type_fits a t e) (lit< tt, (q, tt))))
  fit_row protect id.MemProtect a b c p q s = (lit< tt, (flag_fits (not (eqb a 0)), tt))
  fit_row protect id.MemProtectCheckRange32 a b c p q s = (lit< tt, (lit< tt, (p, (q, tt))))
  fit_row protect id.MemProtectCheckRange64 a b c p q s = (lit< tt, (lit< tt, (p, (q, tt))))
  fit_row protect id.SystemOff232 a b c p q s = read_fits _ (read_system_off2_type a) (λ t e. (lit< tt, (lit< tt, (lit< tt, (q, tt)))))
  fit_row protect id.SystemOff264 a b c p q s = read_fits _ (read_system_off2_type a) (λ t e. (lit< tt, (lit< tt, (lit< tt, (q, tt)))))

  pub decoded_fit : (protect : Part) (r : List ℕ) (f : Call S) → Registers r → decode_by read protect r ≡ accepted f → Fit (parts_by parts f)
  decoded_fit protect r f h d = by_rows read protect (λ x words. FitAnswer x) (fit_row protect) r f h d

-- by document 01's decoder and by Change 2's
pub fit_of_01 : (r : List ℕ) (f : Function) → Registers r → decode_of r ≡ accepted f → Fit (call_parts f)
fit_of_01 r f h d = decoded_fit read_power_state power_state_parts power_state_fits whole r f h d

pub fit_of_smccc : (r : List ℕ) (f : Function) → Registers r → decode_smccc r ≡ accepted f → Fit (call_parts f)
fit_of_smccc r f h d = decoded_fit read_power_state power_state_parts power_state_fits low_half r f h d
