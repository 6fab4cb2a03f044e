-- The low bits of a word.
use Rattle.std.specs.Prelude.{ℕ, ◌%◌, ◌^◌}

abbrev pub low : ℕ → ℕ
low part = part % 2 ^ 32

abbrev pub half : ℕ → ℕ
half part = part % 2 ^ 16

abbrev pub byte : ℕ → ℕ
byte part = part % 2 ^ 8
