-- `u32::try_from` of an original power state meets its contract. Assumes nothing.
use mathlib.Core.Path.{◌≡◌, refl, ap}
use mathlib.Core.List.{[], ◌∷◌}
use Prim.Native.Nat.{ℕ, ◌*◌, ◌%◌, ◌<◌}
use native.Mathlib.Omega.{arith}
use lib.Bits.{bit_or}
use lib.Dec.{lit<}
use borrow.Author.Tests.{le-leb, lt-leb}
use Rattle.answers.specs.Answers.{accepted}
use Rattle.bits.specs.Bits.{◌for◌, put}
use Rattle.words.specs.OriginalPowerStates.{write_original_power_state, original_power_state_fields}
use Rattle.bits.proofs.Masks.{outside, or_low}
use Rattle.bits.proofs.Picks.{if_true, if_false}
use Rattle.words.proofs.original_power_states.U32TryFromOriginalPowerState.try_from.Goals as goal

-- the fields put together: a level and a state ID, without and with the power down bit
standby : (level id : ℕ) → level < 4 → id < 65536 → bit_or (level * 16777216 % 4294967296) id ≡ put original_power_state_fields (id ∷ 0 ∷ level ∷ [])
standby level id h g =
    let e = or_low 16 (level * 16777216 % 4294967296) id (omega arith) (omega arith) in
    omega arith

power_down_bit : (level id : ℕ) → level < 4 → id < 65536 → bit_or (bit_or (level * 16777216 % 4294967296) 65536) id ≡ put original_power_state_fields (id ∷ 1 ∷ level ∷ [])
power_down_bit level id h g =
    let e = or_low 24 (level * 16777216 % 4294967296) 65536 (omega arith) (omega arith) in
    let f = or_low 16 (bit_or (level * 16777216 % 4294967296) 65536) id (omega arith) (omega arith) in
    omega arith

pub returns-then-level-ne0 : goal.returns-then-level-ne0
unfolding write_original_power_state
returns-then-level-ne0 c =
    let s = c.args.state in
    let e = outside 8 (0 for 2 ∷ []) tt (lit< tt) s.level (omega arith) in
    if_false _ _ (lt-leb s.level 3 (omega arith)) refl

pub returns-then-state : goal.returns-then-state
unfolding write_original_power_state
returns-then-state c =
    let s = c.args.state in
    let e = outside 8 (0 for 2 ∷ []) tt (lit< tt) s.level (omega arith) in
    if_true _ _ (le-leb s.level 3 (omega arith)) (simp (c.if-state.true, c.from-high.ensures, c.from-low.ensures) (ap accepted (power_down_bit s.level s.state_id (omega arith) (omega arith))))

pub returns-else-state : goal.returns-else-state
unfolding write_original_power_state
returns-else-state c =
    let s = c.args.state in
    let e = outside 8 (0 for 2 ∷ []) tt (lit< tt) s.level (omega arith) in
    if_true _ _ (le-leb s.level 3 (omega arith)) (simp (c.if-state.false, c.from-high.ensures, c.from-low.ensures) (ap accepted (standby s.level s.state_id (omega arith) (omega arith))))
