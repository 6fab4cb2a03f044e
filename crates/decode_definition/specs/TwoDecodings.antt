-- Document 02, Change 2: where its decoding differs from document 01's, and that it is what DEN0028 asks for. Proved in
-- proofs/TwoDecodings.antt.
use Rattle.std.specs.Prelude.{◌≡◌, cond, List, [], ◌∷◌, map, ℕ, eqb, get_or, set}
use Rattle.function_ids.specs.FunctionIds.{narrow, function_number}
use Rattle.function_ids.specs.declared.FunctionId.TheVariants.{MemProtect}
use Rattle.function_ids.specs.CallTable.{low_half, part_of, rule_of, number_in}
use Rattle.decode_definition.specs.Decode.{decode_of, decode_smccc}

-- a set with r1's low half in place of r1
abbrev pub with_low_r1 : List ℕ → List ℕ
with_low_r1 regs = set regs 1 (part_of low_half (get_or regs 1 0))

-- r1's low half if a set's number is memory protect's, r1 itself if not
abbrev pub r1_read : List ℕ → ℕ
r1_read regs = cond (eqb (number_in regs) (function_number MemProtect)) (part_of low_half (get_or regs 1 0)) (get_or regs 1 0)

-- a set of four registers with that in place of r1
abbrev pub low_half_for_protect : List ℕ → List ℕ
low_half_for_protect regs = get_or regs 0 0 ∷ r1_read regs ∷ get_or regs 2 0 ∷ get_or regs 3 0 ∷ []

pub record TwoDecodings : Type 0 where
  -- every set whose function number is not memory protect's has the same answer
  pub elsewhere : (regs : List ℕ) → (number_in regs ≡ function_number MemProtect → ⊥) → decode_smccc regs ≡ decode_of regs
  -- memory protect's is document 01's of the set with r1's low half in place of r1
  pub of_protect : (regs : List ℕ) → number_in regs ≡ function_number MemProtect → decode_smccc regs ≡ decode_of (with_low_r1 regs)
  -- both at once
  pub by_01 : (regs : List ℕ) → decode_smccc regs ≡ decode_of (low_half_for_protect regs)
  -- DEN0028 gives a 32-bit call only low halves: no high half counts, of a number that no 64-bit call has
  pub low_halves : (regs : List ℕ) → (rule_of (number_in regs)).form ≡ narrow → decode_smccc regs ≡ decode_smccc (map (part_of low_half) regs)
