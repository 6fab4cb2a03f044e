-- What a reader expects of the cores that a call names: there are some exactly where the table of calls lists an MPIDR, and their level is 0
-- outside affinity info. The format of a power state has no part in it. Of a CPU on of mixed form, which has no function number, nothing is said here.
use Rattle.std.specs.Prelude.{◌≡◌, Bool, true, false, not, ◌⊎◌, ℕ, Option, None, Some}
use Rattle.answers.specs.Answers.{accepted}
use Rattle.function_ids.specs.FunctionIds.{function_number}
use Rattle.function_ids.specs.CallTable.{mpidr, rule_of}
use Rattle.function_ids.specs.CallTableLaws.{lacks}
use Rattle.function_ids.specs.declared.FunctionId.{FunctionId}
use Rattle.function_ids.specs.declared.FunctionId.TheVariants.{AffinityInfo32, AffinityInfo64}
use Rattle.words.specs.declared.mpidrs.Mpidr.{Mpidr}
use Rattle.function.specs.Functions.{function_id_of}
use Rattle.function.specs.NamedCores.{named_cores, group}
use Rattle.function.specs.declared.Call.{Call}
use Rattle.function.specs.declared.named_cores.CoreGroup.{CoreGroup}

-- whether some cores are named
abbrev pub names : Option CoreGroup → Bool
names None = false
names (Some cores) = true

-- whether the table of calls lists an MPIDR for a function
abbrev pub lists_mpidr : FunctionId → Bool
lists_mpidr n = not (lacks mpidr (rule_of (function_number n)).fields)

pub record NamedCoresLaws : Type 1 where
  pub by_the_table : {S : Type 0} (f : Call S) (n : FunctionId) → function_id_of f ≡ accepted n → names (named_cores f) ≡ lists_mpidr n
  -- a level that is not 0 is one of affinity info
  pub other_level : {S : Type 0} (f : Call S) (n : FunctionId) (m : Mpidr) (level : ℕ) → function_id_of f ≡ accepted n → named_cores f ≡ Some (group m level) →
      (level ≡ 0 → ⊥) → (n ≡ AffinityInfo32) ⊎ (n ≡ AffinityInfo64)
