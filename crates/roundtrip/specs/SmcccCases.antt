-- Document 02, Change 2: the cases of its decoder, as one statement about the definitions.
use Rattle.std.specs.Prelude.{◌≡◌, Bool, true, false, [], ◌∷◌, ℕ}
use Rattle.answers.specs.Answers.{accepted}
use Rattle.function.specs.declared.Call.TheVariants.{MemProtect}
use Rattle.decode_definition.specs.Decode.{decode_smccc}
use Rattle.roundtrip.specs.Cases.{EncodesTo}

-- memory protect with this r1, whatever r2 and r3 hold, is enabled or not
abbrev pub Protects : ℕ → Bool → Type 0
Protects x enabled = (y z : ℕ) → decode_smccc (0x84000013 ∷ x ∷ y ∷ z ∷ []) ≡ accepted (MemProtect enabled)

pub record SmcccCases : Type 0 where
  -- r1 0x100000000: disabled; writes 0. Document 01's decoder says enabled (M9)
  pub lowest_high_bit : Protects 0x100000000 false
  pub writes_0 : EncodesTo (MemProtect false) (0x84000013 ∷ 0 ∷ 0 ∷ 0 ∷ [])
  -- all of the high half
  pub high_half : Protects 0xffffffff00000000 false
  -- the lowest and the highest bit of the low half, under a high half too
  pub lowest_bit : Protects 0x1 true
  pub highest_low_bit : Protects 0x80000000 true
  pub both_halves : Protects 0x100000001 true
