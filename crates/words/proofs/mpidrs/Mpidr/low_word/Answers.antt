-- `Mpidr::low_word` meets its contract: the three affinities have no bit in common. Assumes nothing.
use mathlib.Core.Path.{◌≡◌}
use mathlib.Core.List.{[], ◌∷◌}
use Prim.Native.Nat.{ℕ, ◌*◌, ◌%◌, ◌<◌}
use native.Mathlib.Omega.{arith}
use lib.Bits.{bit_or}
use Rattle.bits.specs.Bits.{put}
use Rattle.words.specs.Mpidrs.{fields32}
use Rattle.bits.proofs.Masks.{or_low}
use Rattle.words.proofs.mpidrs.Mpidr.low_word.Goals as goal

in_place : (a2 a1 a0 : ℕ) → a2 < 256 → a1 < 256 → a0 < 256 → bit_or (bit_or (a2 * 65536 % 4294967296) (a1 * 256 % 4294967296)) a0 ≡ put fields32 (a0 ∷ a1 ∷ a2 ∷ [])
in_place a2 a1 a0 h2 h1 h0 =
    let e = or_low 16 (a2 * 65536 % 4294967296) (a1 * 256 % 4294967296) (omega arith) (omega arith) in
    let f = or_low 8 (bit_or (a2 * 65536 % 4294967296) (a1 * 256 % 4294967296)) a0 (omega arith) (omega arith) in
    omega arith

pub returns : goal.returns
returns c =
    let m = c.args.self in
    simp (c.from.ensures, c.from-2.ensures, c.from-3.ensures) (in_place m.aff2 m.aff1 m.aff0 (omega arith) (omega arith) (omega arith))
