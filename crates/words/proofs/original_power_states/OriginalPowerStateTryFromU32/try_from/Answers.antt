-- `OriginalPowerState::try_from` meets its contract: its masks are those of the fields, and of what stands outside them. Assumes nothing.
use mathlib.Core.Path.{◌≡◌, refl, ap}
use mathlib.Core.Bool.{not}
use mathlib.Core.List.{[], ◌∷◌}
use Prim.Native.Nat.{ℕ, zero, suc, ◌*◌, ◌/◌, ◌<◌}
use native.Mathlib.Omega.{arith}
use lib.Bits.{bit_and}
use lib.Dec.{lit<, eqb}
use Rattle.answers.specs.Answers.{accepted}
use Rattle.bits.specs.Bits.{bits}
use Rattle.words.specs.OriginalPowerStates.{read_original_power_state, original_power_state_of, original_power_state_fields, state_id_field, power_down_field, level_field}
use Rattle.words.specs.declared.original_power_states.OriginalPowerState.{OriginalPowerState}
use Rattle.bits.proofs.Masks.{masked, outside, none_outside, some_outside}
use Rattle.bits.proofs.Picks.{if_true, if_false}
use Rattle.words.proofs.original_power_states.OriginalPowerStateTryFromU32.try_from.Goals as goal

-- the power down bit, by its mask and as a field
power_down_bit : (word : ℕ) → not (eqb (bit_and word 65536) 0) ≡ eqb (bits power_down_field word) 1
power_down_bit word = flag (bits power_down_field word) (bit_and word 65536) (omega arith) (omega (arith, masked (power_down_field ∷ []) 0 tt word))
  where
    flag : (bit n : ℕ) → bit < 2 → n ≡ bit * 65536 → not (eqb n 0) ≡ eqb bit 1
    flag zero n h e = rw e
    flag (suc zero) n h e = rw e
    flag (suc (suc bit)) n h e = absurd (omega arith)

-- the state ID, by its mask and as a field
state_id_bits : (word : ℕ) → bit_and word 65535 ≡ bits state_id_field word
state_id_bits word = omega (arith, masked (state_id_field ∷ []) 0 tt word)

-- the fields as the code takes them, from a word that has no bit above the level
taken : (word : ℕ) → word / 16777216 ≡ bits level_field word →
    ◌≡◌ {A = OriginalPowerState} (record { state_id = bit_and word 65535; power_down = not (eqb (bit_and word 65536) 0); level = word / 16777216 })
    (original_power_state_of (bits state_id_field word) (bits power_down_field word) (bits level_field word))
taken word l = rw (power_down_bit word, ← l, state_id_bits word)

pub returns-then-value-ne0 : goal.returns-then-value-ne0
unfolding read_original_power_state
returns-then-value-ne0 c = if_false _ _ (some_outside 32 original_power_state_fields tt (lit< tt) c.args.value c.ranges.value.fits c.if-value-ne0.true) refl

pub returns : goal.returns
unfolding read_original_power_state
returns c =
    let word : ℕ = c.args.value in
    let e = outside 32 original_power_state_fields tt (lit< tt) word c.ranges.value.fits in
    let l : word / 16777216 ≡ bits level_field word = omega (arith, c.if-value-ne0.false) in
    if_true _ _ (none_outside 32 original_power_state_fields tt (lit< tt) word c.ranges.value.fits c.if-value-ne0.false) (ap accepted (taken word l))
