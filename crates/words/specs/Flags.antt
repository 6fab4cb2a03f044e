-- A flag as a word, 1 or 0: memory protect's (document 01, "The four written words"), and the power down bit of an original power state (document 02,
-- Change 1).
use Rattle.std.specs.Prelude.{Bool, true, false, ℕ}

abbrev pub flag_word : Bool → ℕ
flag_word true = 1
flag_word false = 0
