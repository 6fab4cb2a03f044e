-- `PowerState::try_from` meets its contract: its masks are those of the fields, and of what stands outside them. Assumes nothing.
use mathlib.Core.Path.{◌≡◌, refl, ap}
use mathlib.Core.Bool.{true, false}
use mathlib.Core.List.{[], ◌∷◌}
use Prim.Native.Nat.{ℕ}
use native.Mathlib.Omega.{arith}
use lib.Bits.{bit_and}
use lib.Dec.{lit<, eqb}
use borrow.Author.Tests.{eq-eqb, ne_eqb}
use Rattle.answers.specs.Answers.{accepted}
use Rattle.bits.specs.Bits.{◌for◌, bits}
use Rattle.words.specs.PowerStates.{read_power_state, power_state_fields}
use Rattle.words.specs.declared.power_states.PowerState.TheVariants.{StandbyOrRetention, PowerDown}
use Rattle.bits.proofs.Masks.{masked, none_outside, some_outside}
use Rattle.bits.proofs.Picks.{if_true, if_false}
use Rattle.words.proofs.power_states.PowerStateTryFromU32.try_from.Goals as goal

state_id_bits : (word : ℕ) → bit_and word 0x0fffffff ≡ bits (0 for 28) word
state_id_bits word = omega (arith, masked (0 for 28 ∷ []) 0 tt word)

power_down_bit : (word : ℕ) → (bit_and word 0x40000000 ≡ 0 → ⊥) → eqb (bits (30 for 1) word) 1 ≡ true
power_down_bit word h = eq-eqb (bits (30 for 1) word) 1 (omega (arith, masked (30 for 1 ∷ []) 0 tt word))

standby : (word : ℕ) → bit_and word 0x40000000 ≡ 0 → eqb (bits (30 for 1) word) 1 ≡ false
standby word h = ne_eqb (bits (30 for 1) word) 1 (λ q. omega (arith, masked (30 for 1 ∷ []) 0 tt word))

pub returns-then-value-ne0 : goal.returns-then-value-ne0
unfolding read_power_state
returns-then-value-ne0 c = if_false _ _ (some_outside 32 power_state_fields tt (lit< tt) c.args.value c.ranges.value.fits c.if-value-ne0.true) refl

pub returns-then-value-ne0-2 : goal.returns-then-value-ne0-2
unfolding read_power_state
returns-then-value-ne0-2 c =
    let word : ℕ = c.args.value in
    if_true _ _ (none_outside 32 power_state_fields tt (lit< tt) word c.ranges.value.fits c.if-value-ne0.false)
    (ap accepted (if_true _ _ (power_down_bit word c.if-value-ne0-2.true) (ap PowerDown (state_id_bits word))))

pub returns-else-value-ne0-2 : goal.returns-else-value-ne0-2
unfolding read_power_state
returns-else-value-ne0-2 c =
    let word : ℕ = c.args.value in
    if_true _ _ (none_outside 32 power_state_fields tt (lit< tt) word c.ranges.value.fits c.if-value-ne0.false)
    (ap accepted (if_false _ _ (standby word c.if-value-ne0-2.false) (ap StandbyOrRetention (state_id_bits word))))
