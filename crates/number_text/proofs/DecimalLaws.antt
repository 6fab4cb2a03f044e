-- The decimal digits of a number read as that number. Assumes nothing.
use mathlib.Core.Bool.{Bool, true, false, cond}
use mathlib.Core.List.{List, [], ◌∷◌, ◌++◌}
use mathlib.Core.Path.{◌≡◌, refl, ◌∙◌}
use native.Mathlib.Omega.{arith}
use Prim.Native.Nat.{ℕ, zero, suc, ◌+◌, ◌*◌, ◌-◌, ◌/◌, ◌%◌, ◌^◌, ◌≤◌, ◌<◌}
use borrow.Author.Tests.{lt-ltb, ltb-true, ltb-false}
use lib.Dec.{ltb}
use Rattle.number_text.specs.Digits.{glyph}
use Rattle.number_text.specs.Text.{decimal_in}
use Rattle.number_text.specs.DecimalLaws.{DecimalLaws, read_decimal}

-- a digit below ten is its character less `0`
digit_back : (d : ℕ) → d < 10 → glyph d - 0x30 ≡ d
digit_back d h = rw (lt-ltb d 10 h) (omega arith)

-- one digit more
read_last : (before : ℕ) (digits : List ℕ) (last : ℕ) → read_decimal before (digits ++ (last ∷ [])) ≡ read_decimal before digits * 10 + (last - 0x30)
read_last before [] last = refl
read_last before (d ∷ ds) last = read_last (before * 10 + (d - 0x30)) ds last

chosen : (n : ℕ) (t : Bool) (digits : List ℕ) → ltb n 10 ≡ t → (10 ≤ n → read_decimal 0 digits ≡ n / 10) → read_decimal 0 (cond t (glyph n ∷ []) (digits ++ (glyph (n % 10) ∷ []))) ≡ n
chosen n true digits e h = omega (arith, digit_back n (ltb-true n 10 e))
chosen n false digits e h =
    read_last 0 digits (glyph (n % 10)) ∙ omega (arith, digit_back (n % 10) (omega arith), h (ltb-false n 10 e))

reads : (k n : ℕ) → n < 10 ^ k → read_decimal 0 (decimal_in k n) ≡ n
unfolding decimal_in
reads zero n h = omega arith
reads (suc k) n h = chosen n (ltb n 10) (decimal_in k (n / 10)) refl (λ more. reads k (n / 10) (omega arith))

pub decimal_laws : DecimalLaws
decimal_laws = record { enough = λ n h. reads _ n (omega arith) }
