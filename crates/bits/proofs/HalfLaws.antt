-- What the two parts of a number, `a * 2 ^ k + b`, tell of its fields and of the bits that a mask leaves: `a` stands from bit k up, `b` below.
-- Assumes nothing.
use mathlib.Core.Path.{◌≡◌, sym, ap, ap₂, ◌∙◌}
use Prim.Native.Nat.{ℕ, ◌+◌, ◌-◌, ◌*◌, ◌/◌, ◌%◌, ◌^◌, ◌<◌}
use native.Mathlib.Nat.{zero-mul, zero-div, zero-mod}
use native.Mathlib.Omega.{arith}
use lib.Bits.{bit_and, bit_or, and_block, and_le_l, and_le_r, and_lt, or_add_and}
use lib.Pow.{high, low, field, mod-mod-pow, shr-shr}
use Rattle.bits.specs.Bits.{Field, ◌for◌, bits}

-- a field that ends d bits below bit k is the lower part's; k is d more than the field's end
pub low_field : (f : Field) (d a b : ℕ) → b < 2 ^ (d + (f.count + f.lo)) → bits f (a * 2 ^ (d + (f.count + f.lo)) + b) ≡ bits f b
low_field f d a b h =
    let k : ℕ = f.count + f.lo in
    let n : ℕ = a * 2 ^ (d + k) + b in
    sym (field n f.count f.lo)
    ∙ ap (λ (x : ℕ). x / 2 ^ f.lo) (sym (mod-mod-pow n d k) ∙ ap (λ (x : ℕ). x % 2 ^ k) (low a (d + k) h))
    ∙ field b f.count f.lo

-- a field from bit k up is the upper part's, k bits lower there
pub high_field : (k lo count a b : ℕ) → b < 2 ^ k → bits ((k + lo) for count) (a * 2 ^ k + b) ≡ bits (lo for count) a
high_field k lo count a b h =
    ap (λ (x : ℕ). x % 2 ^ count) (sym (shr-shr (a * 2 ^ k + b) k lo) ∙ ap (λ (x : ℕ). x / 2 ^ lo) (high a k h))

-- `a | b` is zero exactly where both are
pub or_none : (a b : ℕ) → bit_or a b ≡ 0 → (a ≡ 0) × (b ≡ 0)
or_none a b z = (omega (arith, or_add_and a b, and_le_r a b), omega (arith, or_add_and a b, and_le_l a b))

none_or : (a b : ℕ) → a ≡ 0 → b ≡ 0 → bit_or a b ≡ 0
none_or a b p q = omega (arith, or_add_and a b)

-- whether the parts have a bit of a mask's parts, and whether the number has a bit of the mask
pub none_in_parts : (k a b m n : ℕ) → b < 2 ^ k → n < 2 ^ k → bit_or (bit_and a m) (bit_and b n) ≡ 0 → bit_and (a * 2 ^ k + b) (m * 2 ^ k + n) ≡ 0
none_in_parts k a b m n h g z =
    let o = or_none (bit_and a m) (bit_and b n) z in
    and_block k a m b n h g ∙ ap₂ (λ (x y : ℕ). x * 2 ^ k + y) o.0 o.1 ∙ ap (λ (x : ℕ). x + 0) (zero-mul (2 ^ k))

pub some_in_parts : (k a b m n : ℕ) → b < 2 ^ k → n < 2 ^ k → (bit_or (bit_and a m) (bit_and b n) ≡ 0 → ⊥) → bit_and (a * 2 ^ k + b) (m * 2 ^ k + n) ≡ 0 → ⊥
some_in_parts k a b m n h g some z =
    let e : bit_and a m * 2 ^ k + bit_and b n ≡ 0 = sym (and_block k a m b n h g) ∙ z in
    let l : bit_and b n < 2 ^ k = and_lt k b n h g in
    some (none_or (bit_and a m) (bit_and b n)
    (sym (high (bit_and a m) k l) ∙ ap (λ (x : ℕ). x / 2 ^ k) e ∙ zero-div (2 ^ k))
    (sym (low (bit_and a m) k l) ∙ ap (λ (x : ℕ). x % 2 ^ k) e ∙ zero-mod (2 ^ k)))

-- the complements of two halves are the halves of the complement
pub complements : (upper lower : ℕ) → upper < 2 ^ 32 → lower < 2 ^ 32 → (2 ^ 32 - 1 - upper) * 2 ^ 32 + (2 ^ 32 - 1 - lower) ≡ 2 ^ 64 - 1 - (upper * 2 ^ 32 + lower)
complements upper lower h g = omega arith
