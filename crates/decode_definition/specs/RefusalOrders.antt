-- Document 01, "What is turned back": the order of refusals in the calls of which two fields may be refused.
use Rattle.std.specs.Prelude.{cond, ℕ, leb, pos}
use Rattle.answers.specs.Answers.{Answer, refused, through, and_then}
use Rattle.words.specs.declared.mpidrs.Mpidr.{Mpidr}
use Rattle.function.specs.declared.Call.{Call}
use Rattle.function.specs.declared.Call.TheVariants.{AffinityInfo}

-- refusal 5: affinity info's level, before its MPIDR
abbrev pub affinity_info : {S : Type 0} → ℕ → ℕ → Answer Mpidr → Answer (Call S)
affinity_info most lowest m = cond (leb lowest most) (through (λ x. AffinityInfo x lowest) m) (refused 5 (pos lowest))

-- two fields by register: the MPIDR is refused before the power state, whichever format that has
abbrev pub of_core_state : {State Call : Type 0} → (Mpidr → State → Call) → Answer Mpidr → Answer State → Answer Call
of_core_state call m s = and_then m (λ x. through (call x) s)
