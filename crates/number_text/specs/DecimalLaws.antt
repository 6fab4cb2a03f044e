-- What a reader expects of numbers as text: the digits that are printed read as the number, so that 20 of them are enough.
use Rattle.std.specs.Prelude.{List, [], ◌∷◌, ◌≡◌, ℕ, ◌+◌, ◌*◌, ◌-◌, ◌^◌, ◌<◌}
use Rattle.number_text.specs.Text.{decimal}

-- the number that decimal digits stand for, behind what stands before them: `0` is 0x30
abbrev pub read_decimal : ℕ → List ℕ → ℕ
read_decimal before [] = before
read_decimal before (digit ∷ digits) = read_decimal (before * 10 + (digit - 0x30)) digits

pub record DecimalLaws : Type 0 where
  pub enough : (n : ℕ) → n < 2 ^ 64 → read_decimal 0 (decimal n) ≡ n
