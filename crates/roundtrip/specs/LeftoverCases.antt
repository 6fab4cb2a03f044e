-- Document 02, Change 7: leftovers of document 01's cases, and of memory protect by either decoder, as one statement about the definitions.
use Rattle.std.specs.Prelude.{◌≡◌, [], ◌∷◌}
use Rattle.roundtrip.specs.Leftovers.{leftovers_by, zeros}
use Rattle.roundtrip.specs.Document01.{document01}
use Rattle.roundtrip.specs.Smccc.{smccc}

pub record LeftoverCases : Type 0 where
  -- M1: version looks at no register but r0
  pub m1 : leftovers_by document01 (0x84000000 ∷ 5 ∷ 6 ∷ 7 ∷ []) ≡ 0 ∷ 5 ∷ 6 ∷ 7 ∷ []
  -- M2: the high half of r0
  pub m2 : leftovers_by document01 (0xffffffff84000002 ∷ 0 ∷ 0 ∷ 0 ∷ []) ≡ 0xffffffff00000000 ∷ 0 ∷ 0 ∷ 0 ∷ []
  -- M3 writes itself
  pub m3 : leftovers_by document01 (0xc4000003 ∷ 0x100020304 ∷ 0x80000 ∷ 9 ∷ []) ≡ zeros
  -- M4 is refused: nothing of it is in a call
  pub m4 : leftovers_by document01 (0x84000003 ∷ 0x01000000 ∷ 1 ∷ 2 ∷ []) ≡ 0x84000003 ∷ 0x01000000 ∷ 1 ∷ 2 ∷ []
  -- M9: enabled by document 01, which writes 1; disabled by Change 2, which writes 0
  pub m9 : leftovers_by document01 (0x84000013 ∷ 0x100000000 ∷ 0 ∷ 0 ∷ []) ≡ 0 ∷ 0x100000001 ∷ 0 ∷ 0 ∷ []
  pub m9_smccc : leftovers_by smccc (0x84000013 ∷ 0x100000000 ∷ 0 ∷ 0 ∷ []) ≡ 0 ∷ 0x100000000 ∷ 0 ∷ 0 ∷ []
