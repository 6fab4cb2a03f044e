-- `PowerState::word` meets its contract. Assumes nothing.
use mathlib.Core.Path.{◌≡◌, ap}
use mathlib.Core.List.{[], ◌∷◌}
use Prim.Native.Nat.{ℕ, ◌/◌, ◌%◌, ◌^◌, ◌<◌}
use native.Mathlib.Omega.{arith}
use lib.Bits.{bit_or}
use lib.Dec.{lit<}
use borrow.Author.Tests.{le-leb}
use Rattle.answers.specs.Answers.{accepted}
use Rattle.bits.specs.Bits.{◌for◌, put}
use Rattle.words.specs.PowerStates.{power_state_fields}
use Rattle.bits.proofs.Masks.{outside, or_low}
use Rattle.bits.proofs.Picks.{if_true}
use Rattle.words.proofs.power_states.PowerState.word.Goals as goal

in_place : (bit id : ℕ) → bit % 2 ^ 30 ≡ 0 → id < 2 ^ 28 → bit_or bit id ≡ put power_state_fields (id ∷ bit / 2 ^ 30 ∷ [])
in_place bit id z h = omega (arith, or_low 30 bit id z (omega arith))

pub returns-else-state_id-ne0 : goal.returns-else-state_id-ne0
returns-else-state_id-ne0 c =
    let e = outside 32 (0 for 28 ∷ []) tt (lit< tt) c.args.state_id c.ranges.state_id.fits in
    if_true _ _ (le-leb c.args.state_id 0x0fffffff (omega arith)) (ap accepted (in_place c.args.state_type_bit c.args.state_id c.requires (omega arith)))
