-- What the halves of a register tell of the core that it names, and of the bits that must be zero. Assumes nothing.
use mathlib.Core.Path.{◌≡◌, refl, sym, ap, ap₂, ◌∙◌}
use mathlib.Core.Bool.{true, false}
use mathlib.Core.List.{[], ◌∷◌}
use Prim.Native.Nat.{ℕ, ◌+◌, ◌-◌, ◌*◌, ◌/◌, ◌%◌, ◌^◌, ◌<◌}
use native.Mathlib.Nat.{div-one}
use native.Mathlib.Omega.{arith}
use lib.Bits.{bit_and, bit_or, and_block}
use lib.Dec.{lit<}
use Rattle.std.specs.Prelude.{Some}
use Rattle.bits.specs.Bits.{◌for◌, get, only}
use Rattle.bits.specs.Halves.{register_of}
use Rattle.bits.specs.declared.halves.Halves.{Halves}
use Rattle.bits.proofs.HalfLaws.{low_field, high_field, none_in_parts, some_in_parts, complements}
use Rattle.bits.proofs.Masks.{field_kept, none_outside, some_outside}
use Rattle.words.specs.Mpidrs.{mpidr_of, mpidr64, fields64, mbz_bits64, mbz_halves64}

-- the masks of the halves are the two halves of MBZ_BITS_64
pub mbz_halves : register_of mbz_halves64 ≡ mbz_bits64
mbz_halves = refl

-- affinities 0 to 2 stand in the lower half, affinity 3 in the upper one
pub affinities : (upper lower : ℕ) → lower < 2 ^ 32 → mpidr_of (lower % 2 ^ 8) (lower / 2 ^ 8 % 2 ^ 8) (lower / 2 ^ 16 % 2 ^ 8) (Some (upper % 2 ^ 8)) ≡ mpidr64 (upper * 2 ^ 32 + lower)
affinities upper lower fits =
    let a0 = low_field (0 for 8) 24 upper lower fits in
    let a1 = low_field (8 for 8) 16 upper lower fits in
    let a2 = low_field (16 for 8) 8 upper lower fits in
    let a3 = high_field 32 0 8 upper lower fits in
    let l = div-one lower in
    let u = div-one upper in
    cc

-- clearing the other bits leaves each affinity
kept : (word mask : ℕ) → get fields64 mask ≡ 0xff ∷ 0xff ∷ 0xff ∷ 0xff ∷ [] → mpidr64 (bit_and word mask) ≡ mpidr64 word
kept word mask full =
    let a0 = field_kept (0 for 8) word mask (cc) in
    let a1 = field_kept (8 for 8) word mask (cc) in
    let a2 = field_kept (16 for 8) word mask (cc) in
    let a3 = field_kept (32 for 8) word mask (cc) in
    cc

-- a register, its halves, and masks that are the two halves of MBZ_BITS_64
module _ (register : ℕ) (halves masks : Halves) (split : register_of halves ≡ register) (mbz : register_of masks ≡ mbz_bits64) (low : halves.lower < 2 ^ 32) (low_mask : masks.lower < 2 ^ 32) where
  pub no_mbz_bit : register < 2 ^ 64 → bit_or (bit_and halves.upper masks.upper) (bit_and halves.lower masks.lower) ≡ 0 → only fields64 register ≡ true
  no_mbz_bit fits none =
      none_outside 64 fields64 tt (lit< tt) register fits
      (ap₂ bit_and (sym split) (sym mbz) ∙ none_in_parts 32 halves.upper halves.lower masks.upper masks.lower low low_mask none)

  pub mbz_bit : register < 2 ^ 64 → (bit_or (bit_and halves.upper masks.upper) (bit_and halves.lower masks.lower) ≡ 0 → ⊥) → only fields64 register ≡ false
  mbz_bit fits some =
      some_outside 64 fields64 tt (lit< tt) register fits
      (λ none. some_in_parts 32 halves.upper halves.lower masks.upper masks.lower low low_mask some (ap₂ bit_and split mbz ∙ none))

  pub cleared : masks.upper < 2 ^ 32 → mpidr64 (bit_and halves.upper (2 ^ 32 - 1 - masks.upper) * 2 ^ 32 + bit_and halves.lower (2 ^ 32 - 1 - masks.lower)) ≡ mpidr64 register
  cleared high-mask =
      ap mpidr64
      (sym (and_block 32 halves.upper (2 ^ 32 - 1 - masks.upper) halves.lower (2 ^ 32 - 1 - masks.lower) low (omega arith))
      ∙ ap₂ bit_and split (complements masks.upper masks.lower high-mask low_mask ∙ ap (λ (x : ℕ). 2 ^ 64 - 1 - x) mbz))
      ∙ kept register (2 ^ 64 - 1 - mbz_bits64) refl
