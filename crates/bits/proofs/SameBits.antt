-- The low n bits of two numbers are the same where their remainders by 2 ^ n are, and only there.
-- Assumes nothing.
use mathlib.Core.Path.{◌≡◌, ◌∙◌, sym, ap}
use mathlib.Core.Logic.{⊎_elim}
use Prim.Native.Nat.{ℕ, zero, suc, ◌+◌, ◌*◌, ◌/◌, ◌%◌, ◌^◌, ◌<◌}
use native.Mathlib.Omega.{arith}
use native.Mathlib.Nat.{mod-one, mod-lt, eq-or-lt_of_le, le_of_suc-le-suc, not-suc-le-zero}
use native.Mathlib.Numerals.{one-add}
use Rattle.bits.specs.Bits.{bit}
use lib.Pow.{mod-pow-add, high, low, pow_pos}

-- the bits below n of two numbers are the same
abbrev pub SameBits : ℕ → ℕ → ℕ → Type 0
SameBits n x y = (j : ℕ) → j < n → bit j x ≡ bit j y

-- the low n + 1 bits are bit n above the low n
split : (n x : ℕ) → x % 2 ^ suc n ≡ bit n x * 2 ^ n + x % 2 ^ n
split n x = rw one-add at (mod-pow-add x 1 n)

pub bits_mod : (n x y : ℕ) → SameBits n x y → x % 2 ^ n ≡ y % 2 ^ n
bits_mod zero x y h = mod-one x ∙ sym (mod-one y)
bits_mod (suc n) x y h =
    let a : bit n x ≡ bit n y = h n (omega arith) in
    let b : x % 2 ^ n ≡ y % 2 ^ n = bits_mod n x y (λ j k. h j (omega arith)) in
    split n x ∙ ap (λ (m : ℕ). m * 2 ^ n + x % 2 ^ n) a ∙ ap (λ (m : ℕ). bit n y * 2 ^ n + m) b ∙ sym (split n y)

pub mod_bits : (n x y : ℕ) → x % 2 ^ n ≡ y % 2 ^ n → SameBits n x y
mod_bits zero x y e j h = absurd (not-suc-le-zero h)
mod_bits (suc n) x y e j h =
    let s : bit n x * 2 ^ n + x % 2 ^ n ≡ bit n y * 2 ^ n + y % 2 ^ n = sym (split n x) ∙ e ∙ split n y in
    let a : bit n x ≡ bit n y =
    sym (high (bit n x) n (mod-lt x (pow_pos n))) ∙ ap (λ (m : ℕ). m / 2 ^ n) s ∙ high (bit n y) n (mod-lt y (pow_pos n)) in
    let b : x % 2 ^ n ≡ y % 2 ^ n =
    sym (low (bit n x) n (mod-lt x (pow_pos n))) ∙ ap (λ (m : ℕ). m % 2 ^ n) s ∙ low (bit n y) n (mod-lt y (pow_pos n)) in
    ⊎_elim (λ t. rw t a) (λ t. mod_bits n x y b j t) (eq-or-lt_of_le (le_of_suc-le-suc h))
