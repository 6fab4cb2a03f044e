-- Two's complement worked out: the sign facts over the width, and std's casts by them, once for every width. Assumes nothing.
use mathlib.Core.Path.{◌≡◌, refl}
use mathlib.Core.Bool.{Bool, true, false, cond}
use Prim.Native.Nat.{ℕ, suc, ◌+◌, ◌-◌, ◌*◌, ◌≤◌, ◌^◌}
use native.Mathlib.Nat.{pow-suc}
use native.Mathlib.Omega.{arith}
use lib.Dec.{ltb}
use lib.IntN.{ℤ, pos, negsuc}
use mir.Syntax.{Width, w8, w16, w32, w64, w128}
use mir.Val.{bits, hbits, to_z, of_z}
use borrow.Author.Tests.{le-ltb, ltb-false}
use Rattle.std.proofs.lemmas.Bool.Decides.{nat_tests}
use Rattle.bits.specs.Signs.{signed, word_of, fits_in}
use Rattle.bits.specs.SignLaws.{SignLaws}

-- ---- the sign facts, over the width

-- a number that fits is read back from its word
signed_back : (k : ℕ) (z : ℤ) → fits_in (suc k) z ≡ true → z ≡ signed (suc k) (word_of (suc k) z)
signed_back k (pos n) fit = grind (arith, nat_tests)
signed_back k (negsuc n) fit = let p : 2 ^ suc k ≡ 2 ^ k * 2 = pow-suc 2 k in grind (arith, nat_tests)

pub sign_laws : SignLaws
sign_laws = record { signed_back = signed_back; word_back = λ k word h. grind (arith, nat_tests) }

-- the words of k bits whose numbers don't fit in j bits lie between the lowest and the highest that do
pub beyond : (j k word : ℕ) → 2 ^ j ≤ word * 2 → word * 2 + 2 + 2 ^ j ≤ 2 ^ k * 2 → fits_in j (signed k word) ≡ false
beyond j k word lo hi = by_half (ltb (word * 2) (2 ^ k)) refl
  where
    by_half : (t : Bool) → ltb (word * 2) (2 ^ k) ≡ t → fits_in j (cond t (pos word) (negsuc (2 ^ k - suc word))) ≡ false
    by_half true e = le-ltb (word * 2) (2 ^ j) lo
    by_half false e =
        let h = ltb-false (word * 2) (2 ^ k) e in
        let l : 2 ^ j ≤ (2 ^ k - suc word) * 2 = omega arith in
        le-ltb ((2 ^ k - suc word) * 2) (2 ^ j) l

-- ---- std's casts, at its widths

halved : (w : Width) → 2 ^ bits w ≡ 2 ^ hbits w * 2
halved w8 = refl
halved w16 = refl
halved w32 = refl
halved w64 = refl
halved w128 = refl

-- `word.cast_signed()` is the number that the word stands for
pub cast_signed_is : (w : Width) (word : ℕ) → to_z w word ≡ signed (bits w) word
cast_signed_is w word = let p : 2 ^ bits w ≡ 2 ^ hbits w * 2 = halved w in grind (arith, nat_tests)

-- `number.cast_unsigned()` is the word that the number is written as
pub cast_unsigned_is : (w : Width) (z : ℤ) → of_z w z ≡ word_of (bits w) z
cast_unsigned_is w (pos n) = refl
cast_unsigned_is w (negsuc n) = refl
