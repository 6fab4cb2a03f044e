-- What the mask of the bits outside the fields tells of a whole word. Assumes nothing.
use mathlib.Core.Path.{◌≡◌, refl, sym}
use Prim.Native.Nat.{ℕ, ◌^◌, ◌<◌}
use lib.Bits.{bit_and}
use lib.Dec.{lit<}
use lib.IntN.{pos}
use Rattle.answers.specs.Answers.{accepted, refused}
use Rattle.words.specs.Mpidrs.{read_mpidr64, mpidr64, mbz_bits64, fields64}
use Rattle.bits.proofs.Masks.{none_outside, some_outside}
use Rattle.bits.proofs.Picks.{if_true, if_false}

pub whole_refused : (word : ℕ) → word < 2 ^ 64 → (bit_and word mbz_bits64 ≡ 0 → ⊥) → read_mpidr64 word ≡ refused 4 (pos word)
unfolding read_mpidr64
whole_refused word h some = sym (if_false _ _ (some_outside 64 fields64 tt (lit< tt) word h some) refl)

pub whole_passed : (word : ℕ) → word < 2 ^ 64 → bit_and word mbz_bits64 ≡ 0 → read_mpidr64 word ≡ accepted (mpidr64 word)
unfolding read_mpidr64
whole_passed word h none = sym (if_true _ _ (none_outside 64 fields64 tt (lit< tt) word h none) refl)
