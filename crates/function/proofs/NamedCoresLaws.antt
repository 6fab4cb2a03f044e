-- The laws of the cores that a call names: both at once, call by call, for its function in either form. Assumes nothing.
use mathlib.Core.Path.{◌≡◌, refl, sym, ap, subst, ◌∙◌}
use mathlib.Core.Logic.{◌⊎◌, inl, inr, ⊎_elim}
use Prim.Native.Nat.{ℕ}
use Rattle.std.specs.Prelude.{Option, None, Some}
use Rattle.answers.specs.Answers.{Answer, accepted, refused}
use Rattle.function_ids.specs.FunctionIds.{Form, narrow, wide}
use Rattle.function_ids.specs.CallTable.{rule_of}
use Rattle.function_ids.specs.declared.FunctionId.{FunctionId}
use Rattle.function_ids.specs.declared.FunctionId.TheVariants as id
use Rattle.words.specs.declared.mpidrs.Mpidr.{Mpidr}
use Rattle.function.specs.Forms.{in_form, entry_form, cookie_form, range_form, flag_form, mpidr_form, on_number}
use Rattle.function.specs.Functions.{function_id_of}
use Rattle.function.specs.NamedCores.{named_cores, group}
use Rattle.function.specs.NamedCoresLaws.{NamedCoresLaws, names, lists_mpidr}
use Rattle.function.specs.declared.Call.{Call}
use Rattle.function.specs.declared.Call.TheVariants.{Version, CpuSuspend, CpuOff, CpuOn, AffinityInfo, Migrate, MigrateInfoType, MigrateInfoUpCpu, SystemOff, SystemOff2, SystemReset, SystemReset2, MemProtect, MemProtectCheckRange, Features, CpuFreeze, CpuDefaultSuspend, NodeHwState, SystemSuspend, SetSuspendMode, StatResidency, StatCount}
use Rattle.function.specs.declared.named_cores.CoreGroup.{CoreGroup}

-- the level of named cores, 0 for none
abbrev level_of : Option CoreGroup → ℕ
level_of None = 0
level_of (Some cores) = cores.level

-- what the laws say of named cores and a function
record Agree (cores : Option CoreGroup) (n : FunctionId) : Type 0 where
  listed : names cores ≡ lists_mpidr n
  level : (level_of cores ≡ 0) ⊎ ((n ≡ id.AffinityInfo32) ⊎ (n ≡ id.AffinityInfo64))

-- the same of a call's answer to which function it is
abbrev AgreeWith : Option CoreGroup → Answer FunctionId → Type 0
AgreeWith cores (accepted n) = Agree cores n
AgreeWith cores (refused number value) = Unit {0}

module _ {cores : Option CoreGroup} where
  at_0 : {n : FunctionId} → names cores ≡ lists_mpidr n → level_of cores ≡ 0 → Agree cores n
  at_0 p z = record { listed = p; level = inl z }

  form_agrees : (form : Form) {a b : FunctionId} → Agree cores a → Agree cores b → Agree cores (in_form form a b)
  form_agrees narrow p q = p
  form_agrees wide p q = q

  cpu_on : (mpidr entry : Form) → Agree cores id.CpuOn32 → Agree cores id.CpuOn64 → AgreeWith cores (on_number mpidr entry)
  cpu_on narrow narrow p q = p
  cpu_on narrow wide p q = tt
  cpu_on wide narrow p q = tt
  cpu_on wide wide p q = q

agree : {S : Type 0} (f : Call S) → AgreeWith (named_cores f) (function_id_of f)
unfolding named_cores function_id_of rule_of
agree Version = at_0 refl refl
agree (CpuSuspend state entry) = form_agrees (entry_form entry) (at_0 refl refl) (at_0 refl refl)
agree CpuOff = at_0 refl refl
agree (CpuOn m entry) = cpu_on (mpidr_form m.aff3) (entry_form entry) (at_0 refl refl) (at_0 refl refl)
agree (AffinityInfo m level) =
    form_agrees (mpidr_form m.aff3) (record { listed = refl; level = inr (inl refl) }) (record { listed = refl; level = inr (inr refl) })
agree (Migrate m) = form_agrees (mpidr_form m.aff3) (at_0 refl refl) (at_0 refl refl)
agree MigrateInfoType = at_0 refl refl
agree (MigrateInfoUpCpu is32bit) = form_agrees (flag_form is32bit) (at_0 refl refl) (at_0 refl refl)
agree SystemOff = at_0 refl refl
agree (SystemOff2 off_type cookie) = form_agrees (cookie_form cookie) (at_0 refl refl) (at_0 refl refl)
agree SystemReset = at_0 refl refl
agree (SystemReset2 reset_type cookie) = form_agrees (cookie_form cookie) (at_0 refl refl) (at_0 refl refl)
agree (MemProtect enabled) = at_0 refl refl
agree (MemProtectCheckRange range) = form_agrees (range_form range) (at_0 refl refl) (at_0 refl refl)
agree (Features feature) = at_0 refl refl
agree CpuFreeze = at_0 refl refl
agree (CpuDefaultSuspend entry) = form_agrees (entry_form entry) (at_0 refl refl) (at_0 refl refl)
agree (NodeHwState m level) = form_agrees (mpidr_form m.aff3) (at_0 refl refl) (at_0 refl refl)
agree (SystemSuspend entry) = form_agrees (entry_form entry) (at_0 refl refl) (at_0 refl refl)
agree (SetSuspendMode mode) = at_0 refl refl
agree (StatResidency m state) = form_agrees (mpidr_form m.aff3) (at_0 refl refl) (at_0 refl refl)
agree (StatCount m state) = form_agrees (mpidr_form m.aff3) (at_0 refl refl) (at_0 refl refl)

agreed : {S : Type 0} (f : Call S) (n : FunctionId) → function_id_of f ≡ accepted n → Agree (named_cores f) n
agreed f n e = subst (AgreeWith (named_cores f)) e (agree f)

other_level : {S : Type 0} (f : Call S) (n : FunctionId) (m : Mpidr) (level : ℕ) → function_id_of f ≡ accepted n → named_cores f ≡ Some (group m level) →
    (level ≡ 0 → ⊥) → (n ≡ id.AffinityInfo32) ⊎ (n ≡ id.AffinityInfo64)
other_level f n m level e q other = ⊎_elim (λ z. absurd (other (sym (ap level_of q) ∙ z))) (λ x. x) (agreed f n e).level

pub named_cores_laws : NamedCoresLaws
named_cores_laws = record { by_the_table = λ f n e. (agreed f n e).listed; other_level = other_level }
