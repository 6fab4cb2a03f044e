-- The call of each function by its registers, worked out from the table of calls: what each arm of `decode` computes. Assumes nothing.
use mathlib.Core.Path.{◌≡◌, refl, ap, sym, ◌∙◌}
use mathlib.Core.Bool.{Bool, true, false, not}
use mathlib.Core.List.{List}
use Prim.Native.Nat.{ℕ, ◌%◌, ◌^◌}
use lib.Dec.{eqb}
use lib.ListN.{get_or}
use Rattle.answers.specs.Answers.{Answer, accepted, through}
use Rattle.function_ids.specs.FunctionIds.{function_number}
use Rattle.function_ids.specs.declared.FunctionId.{FunctionId}
use Rattle.function_ids.specs.declared.FunctionId.TheVariants as id
use Rattle.function_ids.specs.CallTable.{whole, rule_of, number_in}
use Rattle.words.specs.Mpidrs.{read_mpidr32, read_mpidr64}
use Rattle.words.specs.ResetTypes.{read_reset_type}
use Rattle.words.specs.PsciFeatures.{read_feature}
use Rattle.words.specs.SuspendModes.{read_suspend_mode}
use Rattle.words.specs.SystemOff2Types.{read_system_off2_type}
use Rattle.words.specs.declared.entry_points.EntryPoint.TheVariants.{Entry32, Entry64}
use Rattle.words.specs.declared.cookies.Cookie.TheVariants.{Cookie32, Cookie64}
use Rattle.words.specs.declared.mem_protect_ranges.MemProtectRange.TheVariants.{Range32, Range64}
use Rattle.function.specs.declared.Call.{Call}
use Rattle.function.specs.declared.Call.TheVariants.{Version, CpuSuspend, CpuOff, CpuOn, Migrate, MigrateInfoType, MigrateInfoUpCpu, SystemOff, SystemOff2, SystemReset, SystemReset2, MemProtect, MemProtectCheckRange, Features, CpuFreeze, CpuDefaultSuspend, NodeHwState, SystemSuspend, SetSuspendMode, StatResidency, StatCount}
use Rattle.decode_definition.specs.RefusalOrders.{affinity_info}
use Rattle.decode_definition.specs.RefusalOrders.{of_core_state}
use Rattle.decode_definition.specs.Decode.{decode_by}
use Rattle.decode_definition.proofs.Laws.{zero_kept, known_of, known_is}

-- the low 32 bits
abbrev low : ℕ → ℕ
low x = x % 2 ^ 32

module _ {S : Type 0} (read : ℕ → Answer S) where
  abbrev pub row_call : FunctionId → ℕ → ℕ → ℕ → Answer (Call S)
  row_call id.PsciVersion r1 r2 r3 = accepted Version
  row_call id.CpuSuspend32 r1 r2 r3 = through (λ s. CpuSuspend s (Entry32 (low r2) (low r3))) (read (low r1))
  row_call id.CpuSuspend64 r1 r2 r3 = through (λ s. CpuSuspend s (Entry64 r2 r3)) (read (low r1))
  row_call id.CpuOff r1 r2 r3 = accepted CpuOff
  row_call id.CpuOn32 r1 r2 r3 = through (λ m. CpuOn m (Entry32 (low r2) (low r3))) (read_mpidr32 (low r1))
  row_call id.CpuOn64 r1 r2 r3 = through (λ m. CpuOn m (Entry64 r2 r3)) (read_mpidr64 r1)
  row_call id.AffinityInfo32 r1 r2 r3 = affinity_info 2 (low r2) (read_mpidr32 (low r1))
  row_call id.AffinityInfo64 r1 r2 r3 = affinity_info 3 (low r2) (read_mpidr64 r1)
  row_call id.Migrate32 r1 r2 r3 = through Migrate (read_mpidr32 (low r1))
  row_call id.Migrate64 r1 r2 r3 = through Migrate (read_mpidr64 r1)
  row_call id.MigrateInfoType r1 r2 r3 = accepted MigrateInfoType
  row_call id.MigrateInfoUpCpu32 r1 r2 r3 = accepted (MigrateInfoUpCpu true)
  row_call id.MigrateInfoUpCpu64 r1 r2 r3 = accepted (MigrateInfoUpCpu false)
  row_call id.SystemOff r1 r2 r3 = accepted SystemOff
  row_call id.SystemReset r1 r2 r3 = accepted SystemReset
  row_call id.PsciFeatures r1 r2 r3 = through Features (read_feature (low r1))
  row_call id.CpuFreeze r1 r2 r3 = accepted CpuFreeze
  row_call id.CpuDefaultSuspend32 r1 r2 r3 = accepted (CpuDefaultSuspend (Entry32 (low r1) (low r2)))
  row_call id.CpuDefaultSuspend64 r1 r2 r3 = accepted (CpuDefaultSuspend (Entry64 r1 r2))
  row_call id.NodeHwState32 r1 r2 r3 = through (λ m. NodeHwState m (low r2)) (read_mpidr32 (low r1))
  row_call id.NodeHwState64 r1 r2 r3 = through (λ m. NodeHwState m (low r2)) (read_mpidr64 r1)
  row_call id.SystemSuspend32 r1 r2 r3 = accepted (SystemSuspend (Entry32 (low r1) (low r2)))
  row_call id.SystemSuspend64 r1 r2 r3 = accepted (SystemSuspend (Entry64 r1 r2))
  row_call id.PsciSetSuspendMode r1 r2 r3 = through SetSuspendMode (read_suspend_mode (low r1))
  row_call id.PsciStatResidency32 r1 r2 r3 = of_core_state StatResidency (read_mpidr32 (low r1)) (read (low r2))
  row_call id.PsciStatResidency64 r1 r2 r3 = of_core_state StatResidency (read_mpidr64 r1) (read (low r2))
  row_call id.PsciStatCount32 r1 r2 r3 = of_core_state StatCount (read_mpidr32 (low r1)) (read (low r2))
  row_call id.PsciStatCount64 r1 r2 r3 = of_core_state StatCount (read_mpidr64 r1) (read (low r2))
  row_call id.SystemReset232 r1 r2 r3 = through (λ t. SystemReset2 t (Cookie32 (low r2))) (read_reset_type (low r1))
  row_call id.SystemReset264 r1 r2 r3 = through (λ t. SystemReset2 t (Cookie64 r2)) (read_reset_type (low r1))
  row_call id.MemProtect r1 r2 r3 = accepted (MemProtect (not (eqb r1 0)))
  row_call id.MemProtectCheckRange32 r1 r2 r3 = accepted (MemProtectCheckRange (Range32 (low r1) (low r2)))
  row_call id.MemProtectCheckRange64 r1 r2 r3 = accepted (MemProtectCheckRange (Range64 r1 r2))
  row_call id.SystemOff232 r1 r2 r3 = through (λ t. SystemOff2 t (Cookie32 (low r2))) (read_system_off2_type (low r1))
  row_call id.SystemOff264 r1 r2 r3 = through (λ t. SystemOff2 t (Cookie64 r2)) (read_system_off2_type (low r1))

  pub known_row : (f : FunctionId) (r1 r2 r3 : ℕ) → known_of read f r1 r2 r3 ≡ row_call f r1 r2 r3
  unfolding known_of rule_of
  known_row id.PsciVersion r1 r2 r3 = refl
  known_row id.CpuSuspend32 r1 r2 r3 = refl
  known_row id.CpuSuspend64 r1 r2 r3 = refl
  known_row id.CpuOff r1 r2 r3 = refl
  known_row id.CpuOn32 r1 r2 r3 = refl
  known_row id.CpuOn64 r1 r2 r3 = refl
  known_row id.AffinityInfo32 r1 r2 r3 = refl
  known_row id.AffinityInfo64 r1 r2 r3 = refl
  known_row id.Migrate32 r1 r2 r3 = refl
  known_row id.Migrate64 r1 r2 r3 = refl
  known_row id.MigrateInfoType r1 r2 r3 = refl
  known_row id.MigrateInfoUpCpu32 r1 r2 r3 = refl
  known_row id.MigrateInfoUpCpu64 r1 r2 r3 = refl
  known_row id.SystemOff r1 r2 r3 = refl
  known_row id.SystemReset r1 r2 r3 = refl
  known_row id.PsciFeatures r1 r2 r3 = refl
  known_row id.CpuFreeze r1 r2 r3 = refl
  known_row id.CpuDefaultSuspend32 r1 r2 r3 = refl
  known_row id.CpuDefaultSuspend64 r1 r2 r3 = refl
  known_row id.NodeHwState32 r1 r2 r3 = refl
  known_row id.NodeHwState64 r1 r2 r3 = refl
  known_row id.SystemSuspend32 r1 r2 r3 = refl
  known_row id.SystemSuspend64 r1 r2 r3 = refl
  known_row id.PsciSetSuspendMode r1 r2 r3 = refl
  known_row id.PsciStatResidency32 r1 r2 r3 = refl
  known_row id.PsciStatResidency64 r1 r2 r3 = refl
  known_row id.PsciStatCount32 r1 r2 r3 = refl
  known_row id.PsciStatCount64 r1 r2 r3 = refl
  known_row id.SystemReset232 r1 r2 r3 = refl
  known_row id.SystemReset264 r1 r2 r3 = refl
  known_row id.MemProtect r1 r2 r3 = ap (λ (t : Bool). accepted (MemProtect (not t))) (zero_kept (eqb r1 0))
  known_row id.MemProtectCheckRange32 r1 r2 r3 = refl
  known_row id.MemProtectCheckRange64 r1 r2 r3 = refl
  known_row id.SystemOff232 r1 r2 r3 = refl
  known_row id.SystemOff264 r1 r2 r3 = refl

  -- an answer that is a function's row is what the registers with that function's number decode to
  pub decoded : (id : FunctionId) (regs : List ℕ) (number : ℕ) → number ≡ number_in regs → number ≡ function_number id → (answer : Answer (Call S)) →
      answer ≡ row_call id (get_or regs 1 0) (get_or regs 2 0) (get_or regs 3 0) → answer ≡ decode_by read whole regs
  decoded id regs number e p answer q = q ∙ sym (known_row id _ _ _) ∙ known_is read id regs (sym e ∙ p)
