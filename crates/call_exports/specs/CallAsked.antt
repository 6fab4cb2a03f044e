-- The call that nine words stand for.
use Rattle.std.specs.Prelude.{not, List, [], ◌∷◌, ℕ, eqb, pos, get_or}
use Rattle.answers.specs.Answers.{Answer, accepted, refused, choose, through, and_then}
use Rattle.words.specs.declared.power_states.PowerState.{PowerState}
use Rattle.words.specs.declared.system_off2_types.SystemOff2Type.TheVariants.{HibernateOff}
use Rattle.function.specs.Functions.{Function}
use Rattle.function.specs.declared.Call.{Call}
use Rattle.function.specs.declared.Call.TheVariants as call
use Rattle.call_exports.specs.LowBits.{low}
use Rattle.call_exports.specs.Refusals.{unknown_tag}
use Rattle.call_exports.specs.SameWords.{of_parts}
use Rattle.call_exports.specs.FromParts.{mpidr_in, power_state_in, entry_in, cookie_in, range_in, reset_type_in, feature_in, mode_in}
use Rattle.call_exports.specs.NineWords.{nine_words}

-- a call by its tag
pub record Tagged (S : Type 0) : Type 0 where
  pub tag : ℕ
  pub call : Call S

infix 80 ◌is◌
abbrev pub ◌is◌ : {S : Type 0} → ℕ → Call S → Tagged S
tag is call = record { tag = tag; call = call }

-- by the suspend of nine words, and by the power state behind an MPIDR in them, which each format has
abbrev pub calls : {S : Type 0} → (List ℕ → Call S) → (List ℕ → S) → List ℕ → List (Tagged S)
calls suspended behind c =
    0 is call.Version
    ∷ 1 is suspended c
    ∷ 2 is call.CpuOff
    ∷ 3 is (call.CpuOn (mpidr_in c) (entry_in (get_or c 6 0) (get_or c 7 0) (get_or c 8 0)))
    ∷ 4 is (call.AffinityInfo (mpidr_in c) (low (get_or c 6 0)))
    ∷ 5 is (call.Migrate (mpidr_in c))
    ∷ 6 is call.MigrateInfoType
    ∷ 7 is (call.MigrateInfoUpCpu (not (eqb (get_or c 1 0) 0)))
    ∷ 8 is call.SystemOff
    ∷ 9 is (call.SystemOff2 HibernateOff (cookie_in (get_or c 2 0) (get_or c 3 0)))
    ∷ 10 is call.SystemReset
    ∷ 11 is (call.SystemReset2 (reset_type_in (get_or c 1 0) (get_or c 2 0)) (cookie_in (get_or c 3 0) (get_or c 4 0)))
    ∷ 12 is (call.MemProtect (not (eqb (get_or c 1 0) 0)))
    ∷ 13 is (call.MemProtectCheckRange (range_in (get_or c 1 0) (get_or c 2 0) (get_or c 3 0)))
    ∷ 14 is (call.Features (feature_in (get_or c 1 0)))
    ∷ 15 is call.CpuFreeze
    ∷ 16 is (call.CpuDefaultSuspend (entry_in (get_or c 1 0) (get_or c 2 0) (get_or c 3 0)))
    ∷ 17 is (call.NodeHwState (mpidr_in c) (low (get_or c 6 0)))
    ∷ 18 is (call.SystemSuspend (entry_in (get_or c 1 0) (get_or c 2 0) (get_or c 3 0)))
    ∷ 19 is (call.SetSuspendMode (mode_in (get_or c 1 0)))
    ∷ 20 is (call.StatResidency (mpidr_in c) (behind c))
    ∷ 21 is (call.StatCount (mpidr_in c) (behind c))
    ∷ []

-- the call of a tag, its parts cut to their slots
unfoldable pub call_at_by : {S : Type 0} → (List ℕ → Call S) → (List ℕ → S) → List ℕ → ℕ → Answer (Call S)
call_at_by suspended behind c tag = through (λ t. t.call) (choose (λ t. t.tag) (calls suspended behind c) (refused unknown_tag (pos tag)) tag)

-- of document 01's calls: a suspend has its entry behind two parts
abbrev pub suspended_in : List ℕ → Function
suspended_in c = call.CpuSuspend (power_state_in (get_or c 1 0) (get_or c 2 0)) (entry_in (get_or c 3 0) (get_or c 4 0) (get_or c 5 0))

abbrev pub state_behind : List ℕ → PowerState
state_behind c = power_state_in (get_or c 6 0) (get_or c 7 0)

abbrev pub call_at : List ℕ → ℕ → Answer Function
call_at c tag = call_at_by suspended_in state_behind c tag

-- the call that nine words stand for, by the words of each call and by the call of each tag: of any calls that have nine words
unfoldable pub asked_by : {Call : Type 0} → (Call → List ℕ) → (List ℕ → ℕ → Answer Call) → List ℕ → Answer Call
asked_by words at c = and_then (at c (get_or c 0 0)) (λ f. of_parts c (words f) (accepted f))

-- of document 01's calls
abbrev pub call_asked : List ℕ → Answer Function
call_asked c = asked_by nine_words call_at c
