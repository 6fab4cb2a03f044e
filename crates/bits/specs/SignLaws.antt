-- Two's complement of any width: the numbers that fit and the words stand for each other, one for one. Stated here, proved in
-- proofs/TwosComplement.antt.
use Rattle.std.specs.Prelude.{◌≡◌, true, ℕ, suc, ◌<◌, ◌^◌, ℤ}
use Rattle.bits.specs.Signs.{signed, word_of, fits_in}

pub record SignLaws : Type 0 where
  -- a number that fits in one bit or more is read back from its word
  pub signed_back : (k : ℕ) (z : ℤ) → fits_in (suc k) z ≡ true → z ≡ signed (suc k) (word_of (suc k) z)
  -- a word is written back from its number
  pub word_back : (k word : ℕ) → word < 2 ^ k → word_of k (signed k word) ≡ word
