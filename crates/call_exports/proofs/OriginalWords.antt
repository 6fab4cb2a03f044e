-- The parts of a power state of the original format stand for it, and fit their slots where it was read of a word. Assumes nothing.
use mathlib.Core.Path.{◌≡◌, subst}
use Prim.Native.Nat.{ℕ}
use native.Mathlib.Nat.{mod-eq_of_lt}
use native.Mathlib.Omega.{arith}
use lib.Dec.{eqb}
use lib.IntN.{pos}
use Rattle.bits.specs.Bits.{bits, only}
use Rattle.answers.specs.Answers.{accepted}
use Rattle.answers.proofs.Answering.{passed}
use Rattle.words.specs.OriginalPowerStates.{power_down_field, original_power_state_fields, read_original_power_state}
use Rattle.words.specs.declared.original_power_states.OriginalPowerState.{OriginalPowerState}
use Rattle.call_exports.specs.Parts.{Fit}
use Rattle.call_exports.specs.OriginalWords.{original_state_parts, OriginalStateOwn}
use Rattle.call_exports.proofs.DecodedFit.{flag_fits}
use Rattle.call_exports.proofs.OwnParts.{flag_own}

pub original_state_own : OriginalStateOwn
original_state_own s h = rw (flag_own s.power_down, mod-eq_of_lt h.1.0, mod-eq_of_lt h.1.1.0)

pub original_state_fits : (word : ℕ) (s : OriginalPowerState) → read_original_power_state word ≡ accepted s → Fit (original_state_parts s)
unfolding read_original_power_state
original_state_fits word s e =
    subst (λ (x : OriginalPowerState). Fit (original_state_parts x)) (passed (only original_power_state_fields word) _ s 26 (pos word) e).1
    (flag_fits (eqb (bits power_down_field word) 1), (omega arith, (omega arith, tt)))
