-- A register of 64 bits by its halves of 32 bits: document 02, Change 4.
use Rattle.std.specs.Prelude.{ℕ, ◌+◌, ◌*◌, ◌^◌}
use Rattle.bits.specs.declared.halves.Halves.{Halves}

-- the register that two halves make: the upper one times 2 to the 32nd, plus the lower one
abbrev pub register_of : Halves → ℕ
register_of h = h.upper * 2 ^ 32 + h.lower
