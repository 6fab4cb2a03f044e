-- Exclusive or: field by field, and so bit by bit; it is zero exactly on equal words, and undoes itself. Assumes nothing.
use mathlib.Core.Path.{◌≡◌, refl, ap, ◌∙◌}
use Prim.Native.Nat.{ℕ, zero, suc, ◌/◌, ◌%◌, ◌^◌, ◌<◌}
use native.Mathlib.Nat.{div-add-mod', mod-lt}
use native.Mathlib.Omega.{arith}
use lib.Arith.{bin_ind}
use lib.Bits.{bit_xor, differ, and_le_l, and_le_r, xor_add_and, xor_comm, xor_mod, xor_self, xor_shr, xor_step}
use lib.Pow.{pow_pos}
use Rattle.bits.specs.Bits.{Field, ◌for◌, bits, bit}
use Rattle.bits.specs.XorLaws.{XorLaws}

-- where no bit differs, two words are equal; the kit's `xor_self` is the converse
pub xor_none : (a b : ℕ) → bit_xor a b ≡ 0 → a ≡ b
xor_none a b z = omega (arith, xor_add_and a b, and_le_l a b, and_le_r a b)

-- what stands in a field is the exclusive or of what stands there
pub xor_field : (f : Field) (x y : ℕ) → bits f (bit_xor x y) ≡ bit_xor (bits f x) (bits f y)
xor_field f x y = rw (xor_shr x y f.lo) (xor_mod (x / 2 ^ f.lo) (y / 2 ^ f.lo) f.count)

pub xor_bit : (j x y : ℕ) → bit j (bit_xor x y) ≡ bit_xor (bit j x) (bit j y)
xor_bit j x y = xor_field (j for 1) x y

-- ---- single bits

binary : (j x : ℕ) → bit j x < 2
binary j x = mod-lt (x / 2 ^ j) (pow_pos 1)

others : (a b : ℕ) → a < 2 → b < 2 → (a ≡ b → ⊥) → bit_xor a b ≡ 1
others zero zero p q h = absurd (h refl)
others zero (suc zero) p q h = refl
others (suc zero) zero p q h = refl
others (suc zero) (suc zero) p q h = absurd (h refl)
others (suc (suc a)) b p q h = absurd (omega arith)
others zero (suc (suc b)) p q h = absurd (omega arith)
others (suc zero) (suc (suc b)) p q h = absurd (omega arith)

digit : (a b : ℕ) → a < 2 → b < 2 → differ (bit_xor a b) b ≡ a
digit zero zero p q = refl
digit zero (suc zero) p q = refl
digit (suc zero) zero p q = refl
digit (suc zero) (suc zero) p q = refl
digit (suc (suc a)) b p q = absurd (omega arith)
digit zero (suc (suc b)) p q = absurd (omega arith)
digit (suc zero) (suc (suc b)) p q = absurd (omega arith)

-- ---- the laws

-- the second word once more gives the first back
pub xor_cancel : (x y : ℕ) → bit_xor (bit_xor x y) y ≡ x
xor_cancel =
    bin_ind (λ (x : ℕ). (y : ℕ) → bit_xor (bit_xor x y) y ≡ x) xor_self
    (λ x ih y. xor_step (bit_xor x y) y ∙ rw (xor_shr x y 1, xor_mod x y 1, ih (y / 2), digit (x % 2) (y % 2) (mod-lt x (pow_pos 1)) (mod-lt y (pow_pos 1))) (div-add-mod' x 2))

-- and from the other side
pub xor_back : (x y : ℕ) → bit_xor y (bit_xor x y) ≡ x
xor_back x y = xor_comm y (bit_xor x y) ∙ xor_cancel x y

pub xor_laws : XorLaws
xor_laws = record {
  same_bit = λ j x y e. xor_bit j x y ∙ ap (λ (b : ℕ). bit_xor b (bit j y)) e ∙ xor_self (bit j y);
  other_bit = λ j x y o. xor_bit j x y ∙ others (bit j x) (bit j y) (binary j x) (binary j y) o;
  none_differs = xor_none;
  undone = xor_cancel;
}
