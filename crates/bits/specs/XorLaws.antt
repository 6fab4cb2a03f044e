-- What exclusive or means, bit by bit, and that it undoes itself. Stated here of the toolchain's `bit_xor`, which `^` in code is; proved in proofs/Xor.antt.
use Rattle.std.specs.Prelude.{◌≡◌, ℕ}
use Rattle.std.specs.Int.Bits.{bit_xor}
use Rattle.bits.specs.Bits.{bit}

pub record XorLaws : Type 0 where
  -- a bit is 0 where the two words have the same bit, and 1 where they have not
  pub same_bit : (j x y : ℕ) → bit j x ≡ bit j y → bit j (bit_xor x y) ≡ 0
  pub other_bit : (j x y : ℕ) → (bit j x ≡ bit j y → ⊥) → bit j (bit_xor x y) ≡ 1
  -- so no bit differs only between equal words
  pub none_differs : (x y : ℕ) → bit_xor x y ≡ 0 → x ≡ y
  -- the second word once more gives the first back
  pub undone : (x y : ℕ) → bit_xor (bit_xor x y) y ≡ x
