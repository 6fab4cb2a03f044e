-- The words of a call whose parts fit their slots ask for that call, and only they do. Assumes nothing.
use mathlib.Core.Path.{◌≡◌, refl, ap}
use mathlib.Core.List.{List, [], ◌∷◌, ◌++◌}
use Prim.Native.Nat.{ℕ}
use lib.ListN.{get_or}
use Rattle.answers.specs.Answers.{accepted}
use Rattle.words.specs.declared.system_off2_types.SystemOff2Type.TheVariants.{HibernateOff}
use Rattle.words.specs.declared.entry_points.EntryPoint.{EntryPoint}
use Rattle.words.specs.declared.mpidrs.Mpidr.{Mpidr}
use Rattle.function.specs.Functions.{Function}
use Rattle.function.specs.declared.Call.{Call}
use Rattle.function.specs.declared.Call.TheVariants as call
use Rattle.call_exports.specs.Parts.{CallPart, ◌within◌, tag, values_of, nine, Fit, mpidr_parts, power_state_parts, entry_parts, cookie_parts, reset_type_parts}
use Rattle.call_exports.specs.NineWords.{parts_by, nine_words_by, call_parts, nine_words}
use Rattle.call_exports.specs.CallAsked.{call_at_by, suspended_in, state_behind, call_at, asked_by, call_asked}
use Rattle.call_exports.proofs.CallAskedLaws.{own_words, only_own}
use Rattle.call_exports.proofs.OwnParts.{of_both, mpidr_own, power_state_own, level_own, entry_own, cookie_own, range_own, reset_type_own, feature_own, mode_own, flag_own}

-- whatever the format of the power state, where the parts of a state stand for it in a suspend and behind an MPIDR
module _ {S : Type 0} (parts : S → List CallPart) (suspended : List ℕ → Call S) (behind : List ℕ → S)
    (suspend_own : (s : S) (e : EntryPoint) → Fit (parts s ++ entry_parts e) → suspended (nine (values_of (tag 1 ∷ parts s ++ entry_parts e))) ≡ call.CpuSuspend s e)
    (behind_own : (n : ℕ) (m : Mpidr) (s : S) → Fit (parts s) → behind (nine (values_of (tag n ∷ mpidr_parts m ++ parts s))) ≡ s) where
  -- the call at the tag of a call's own words
  pub found : (f : Call S) → Fit (parts_by parts f) → call_at_by suspended behind (nine_words_by parts f) (get_or (nine_words_by parts f) 0 0) ≡ accepted f
  unfolding call_at_by nine_words_by
  found call.Version h = refl
  found (call.CpuSuspend state entry) h = ap accepted (suspend_own state entry h.1)
  found call.CpuOff h = refl
  found (call.CpuOn mpidr entry) h = ap accepted (of_both call.CpuOn (mpidr_parts mpidr) (entry_parts entry) h.1 (mpidr_own mpidr) (entry_own entry))
  found (call.AffinityInfo mpidr level) h = ap accepted (of_both call.AffinityInfo (mpidr_parts mpidr) (level within 32 ∷ []) h.1 (mpidr_own mpidr) (level_own level))
  found (call.Migrate mpidr) h = ap accepted (ap call.Migrate (mpidr_own mpidr h.1))
  found call.MigrateInfoType h = refl
  found (call.MigrateInfoUpCpu is32bit) h = ap accepted (ap call.MigrateInfoUpCpu (flag_own is32bit))
  found call.SystemOff h = refl
  found (call.SystemOff2 HibernateOff cookie) h = ap accepted (ap (call.SystemOff2 HibernateOff) (cookie_own cookie h.1.1))
  found call.SystemReset h = refl
  found (call.SystemReset2 reset_type cookie) h =
      ap accepted (of_both call.SystemReset2 (reset_type_parts reset_type) (cookie_parts cookie) h.1 (reset_type_own reset_type) (cookie_own cookie))
  found (call.MemProtect enabled) h = ap accepted (ap call.MemProtect (flag_own enabled))
  found (call.MemProtectCheckRange range) h = ap accepted (ap call.MemProtectCheckRange (range_own range h.1))
  found (call.Features feature) h = ap accepted (ap call.Features (feature_own feature h.1))
  found call.CpuFreeze h = refl
  found (call.CpuDefaultSuspend entry) h = ap accepted (ap call.CpuDefaultSuspend (entry_own entry h.1))
  found (call.NodeHwState mpidr level) h = ap accepted (of_both call.NodeHwState (mpidr_parts mpidr) (level within 32 ∷ []) h.1 (mpidr_own mpidr) (level_own level))
  found (call.SystemSuspend entry) h = ap accepted (ap call.SystemSuspend (entry_own entry h.1))
  found (call.SetSuspendMode mode) h = ap accepted (ap call.SetSuspendMode (mode_own mode))
  found (call.StatResidency mpidr state) h = ap accepted (of_both call.StatResidency (mpidr_parts mpidr) (parts state) h.1 (mpidr_own mpidr) (behind_own 20 mpidr state))
  found (call.StatCount mpidr state) h = ap accepted (of_both call.StatCount (mpidr_parts mpidr) (parts state) h.1 (mpidr_own mpidr) (behind_own 21 mpidr state))

  pub own_call_by : (f : Call S) → Fit (parts_by parts f) → asked_by (nine_words_by parts) (call_at_by suspended behind) (nine_words_by parts f) ≡ accepted f
  own_call_by f h = own_words (nine_words_by parts) (call_at_by suspended behind) f (found f h)

pub own_call : (f : Function) → Fit (call_parts f) → call_asked (nine_words f) ≡ accepted f
own_call =
    own_call_by power_state_parts suspended_in state_behind
    (λ s e h. of_both call.CpuSuspend (power_state_parts s) (entry_parts e) h (power_state_own s) (entry_own e))
    (λ n m s h. power_state_own s h)

pub only_call : (c : List ℕ) (f : Function) → call_asked c ≡ accepted f → c ≡ nine_words f
only_call c f e = only_own nine_words call_at c f e
