-- No bit is inside but those that are looked at, in any codec. Assumes nothing.
use mathlib.Core.Path.{◌≡◌, subst}
use mathlib.Core.Logic.{inl, inr}
use Prim.Native.Nat.{ℕ, zero, suc, ◌*◌, ◌%◌, ◌^◌, ◌<◌, ◌≤◌}
use native.Mathlib.Omega.{arith}
use native.Mathlib.Nat.{mod-eq_of_lt, pow-suc}
use lib.Dec.{eqb}
use lib.Pow.{pow_mono, pow_pos}
use borrow.Author.Tests.{eqb-true}
use Rattle.bits.proofs.Picks.{choice}
use Rattle.function_ids.specs.CallTable.{Part, low_half, whole, part_of, Look, nothing, value, zero_or_not, keep}
use Rattle.roundtrip.specs.Codec.{Codec, width, InField, Inside, kept_register, InsideLaws}

-- a bit of the low half is kept there
low_bit : (j : ℕ) → j < 32 → 0 < 2 ^ j % 2 ^ 32
low_bit j h =
    let p : 0 < 2 ^ j = pow_pos j in
    let double : 2 ^ suc j ≡ 2 ^ j * 2 = pow-suc 2 j in
    let top : 2 ^ suc j ≤ 2 ^ 32 = pow_mono h in
    let below : 2 ^ j < 2 ^ 32 = omega arith in
    omega (arith, mod-eq_of_lt below)

part_bit : (part : Part) (j : ℕ) → j < width part → 0 < part_of part (2 ^ j)
part_bit low_half j h = low_bit j h
part_bit whole j h = pow_pos j

field_bit : (k : Look) (j : ℕ) → InField k j → 0 < keep k (2 ^ j)
field_bit nothing j h = absurd h
field_bit (value part) j h = part_bit part j h
field_bit (zero_or_not part) j h =
    choice (λ (n : ℕ). 0 < n) (eqb (part_of part (2 ^ j)) 0)
    (λ t. absurd (omega (arith, part_bit part j h, eqb-true (part_of part (2 ^ j)) 0 t)))
    (λ t. omega arith)

pub inside_laws : (c : Codec) → InsideLaws c
inside_laws c = record { looked_at = at; none = nowhere }
  where
    at : (number i j : ℕ) → Inside c number i j → 0 < kept_register c number i (2 ^ j)
    at number zero j (inl (p, q)) = low_bit j q
    at number zero j (inr (p, q)) = absurd (omega arith)
    at number (suc i) j (inl (p, q)) = absurd (omega arith)
    at number (suc i) j (inr (p, q)) = field_bit (c.look number (suc i)) j q

    nowhere : (number i j : ℕ) → 0 < i → c.look number i ≡ nothing → Inside c number i j → ⊥
    nowhere number i j p e (inl (q, h)) = absurd (omega arith)
    nowhere number i j p e (inr (q, h)) = subst (λ (k : Look). InField k j) e h
