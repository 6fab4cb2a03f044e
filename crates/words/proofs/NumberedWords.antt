-- Words that are one of a few numbers, read and written back: each value is read from its number, and the laws of `choose` do the rest. Assumes nothing.
use mathlib.Core.Path.{◌≡◌, refl, sym, ap, ◌∙◌}
use Prim.Native.Nat.{ℕ}
use borrow.Author.Tests.{eqb-true, ne_eqb}
use Rattle.bits.proofs.Picks.{if_false}
use Rattle.answers.specs.Answers.{accepted, through}
use Rattle.answers.specs.Inverses.{WritesBack, ReadsBack, always, Word32, Any}
use Rattle.answers.proofs.Answering.{not_accepted, at_once_or_through}
use Rattle.answers.proofs.Choosing.{numbered_writes, numbered_reads}
use Rattle.answers.proofs.Inverting.{writes_always, reads_always}
use Rattle.function_ids.specs.FunctionIds.{function_number, read_function_id}
use Rattle.function_ids.proofs.FunctionIdLaws.{function_number_is, function_back}
use Rattle.function_ids.specs.declared.FunctionId.{FunctionId}
use Rattle.words.specs.HwStates.{hw_state_number, hw_states, read_hw_state}
use Rattle.words.specs.PsciFeatures.{feature_number, read_feature}
use Rattle.words.specs.SuspendModes.{suspend_mode_number, suspend_modes, read_suspend_mode}
use Rattle.words.specs.SystemOff2Types.{system_off2_number, system_off2_types, read_system_off2_type}
use Rattle.words.specs.declared.hw_states.HwState.{HwState}
use Rattle.words.specs.declared.hw_states.HwState.TheVariants.{On, Off, Standby}
use Rattle.words.specs.declared.psci_features.PsciFeature.{PsciFeature}
use Rattle.words.specs.declared.psci_features.PsciFeature.TheVariants.{PsciFunction, SmcccVersion}
use Rattle.words.specs.declared.suspend_modes.SuspendMode.{SuspendMode}
use Rattle.words.specs.declared.suspend_modes.SuspendMode.TheVariants.{PlatformCoordinated, OsInitiated}
use Rattle.words.specs.declared.system_off2_types.SystemOff2Type.{SystemOff2Type}
use Rattle.words.specs.declared.system_off2_types.SystemOff2Type.TheVariants.{HibernateOff}

off_type_back : (t : SystemOff2Type) → read_system_off2_type (system_off2_number t) ≡ accepted t
unfolding read_system_off2_type
off_type_back HibernateOff = refl

pub off_type_writes_back : WritesBack Word32 read_system_off2_type (always system_off2_number)
unfolding read_system_off2_type
off_type_writes_back = numbered_writes system_off2_number system_off2_types 6 Word32

pub off_type_reads_back : ReadsBack Any (always system_off2_number) read_system_off2_type
unfolding read_system_off2_type
off_type_reads_back = numbered_reads system_off2_number system_off2_types 6 Any off_type_back

mode_back : (m : SuspendMode) → read_suspend_mode (suspend_mode_number m) ≡ accepted m
unfolding read_suspend_mode
mode_back PlatformCoordinated = refl
mode_back OsInitiated = refl

pub mode_writes_back : WritesBack Word32 read_suspend_mode (always suspend_mode_number)
unfolding read_suspend_mode
mode_writes_back = numbered_writes suspend_mode_number suspend_modes 8 Word32

pub mode_reads_back : ReadsBack Any (always suspend_mode_number) read_suspend_mode
unfolding read_suspend_mode
mode_reads_back = numbered_reads suspend_mode_number suspend_modes 8 Any mode_back

hw_state_back : (s : HwState) → read_hw_state (hw_state_number s) ≡ accepted s
unfolding read_hw_state
hw_state_back On = refl
hw_state_back Off = refl
hw_state_back Standby = refl

pub hw_state_writes_back : WritesBack Word32 read_hw_state (always hw_state_number)
unfolding read_hw_state
hw_state_writes_back = numbered_writes hw_state_number hw_states 12 Word32

pub hw_state_reads_back : ReadsBack Any (always hw_state_number) read_hw_state
unfolding read_hw_state
hw_state_reads_back = numbered_reads hw_state_number hw_states 12 Any hw_state_back

-- ---- a feature: a function number, or the one number that is none

feature_is : (word : ℕ) (f : PsciFeature) → read_feature word ≡ accepted f → feature_number f ≡ word
unfolding read_feature
feature_is word f q =
    at_once_or_through _ SmcccVersion f PsciFunction (read_function_id word) q
    (λ t e. ap feature_number (sym e) ∙ sym (eqb-true word 0x80000000 t))
    (λ i p e. ap feature_number (sym e) ∙ function_number_is word i p)

pub feature_writes_back : WritesBack Word32 read_feature (always feature_number)
feature_writes_back = writes_always read_feature feature_number Word32 (λ word f h q. feature_is word f q)

-- no function has the number of the SMCCC version: no function is read from it
not_smccc : (f : FunctionId) → function_number f ≡ 0x80000000 → ⊥
unfolding read_function_id
not_smccc f e = not_accepted (ap read_function_id (sym e) ∙ function_back f)

feature_back : (f : PsciFeature) → read_feature (feature_number f) ≡ accepted f
unfolding read_feature
feature_back SmcccVersion = refl
feature_back (PsciFunction i) = sym (if_false _ _ (ne_eqb (function_number i) 0x80000000 (not_smccc i)) (sym (ap (through PsciFunction) (function_back i))))

pub feature_reads_back : ReadsBack Any (always feature_number) read_feature
feature_reads_back = reads_always read_feature feature_number Any (λ f h. feature_back f)
