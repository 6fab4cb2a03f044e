-- Decoding by the kept words, and decoding of a known function by its registers. Assumes nothing.
use mathlib.Core.Path.{◌≡◌, refl, sym, ap, ◌∙◌}
use mathlib.Core.Bool.{Bool, true, false, cond}
use mathlib.Core.List.{List, [], ◌∷◌}
use Prim.Native.Nat.{ℕ}
use native.Mathlib.Nat.{mod-mod}
use lib.Dec.{eqb}
use lib.IntN.{pos}
use lib.ListN.{get_or}
use Rattle.answers.specs.Answers.{Answer, accepted, refused}
use Rattle.answers.proofs.Choosing.{NoneOf, none_chosen}
use Rattle.function_ids.specs.FunctionIds.{function_number, functions, read_function_id}
use Rattle.function_ids.proofs.FunctionIdLaws.{function_back}
use Rattle.function_ids.specs.declared.FunctionId.{FunctionId}
use Rattle.function_ids.specs.CallTable.{rule_of, whole, kept01, value_in, number_in}
use Rattle.function.specs.declared.Call.{Call}
use Rattle.decode_definition.specs.Decode.{call_of, call_in, decode_by}

-- a test for zero that is kept as 0 or 1 is still that test
pub zero_kept : (t : Bool) → eqb (cond t 0 1) 0 ≡ t
zero_kept true = refl
zero_kept false = refl

module _ {S : Type 0} (read : ℕ → Answer S) where
  -- the call of a known function by its three argument registers
  unfoldable pub known_of : FunctionId → ℕ → ℕ → ℕ → Answer (Call S)
  known_of id r1 r2 r3 = call_of read id (value_in (rule_of (function_number id)).fields (kept01 (function_number id ∷ r1 ∷ r2 ∷ r3 ∷ [])))

  -- a set that has a function's number is decoded as that function's registers
  pub known_is : (id : FunctionId) (regs : List ℕ) → number_in regs ≡ function_number id →
      known_of id (get_or regs 1 0) (get_or regs 2 0) (get_or regs 3 0) ≡ decode_by read whole regs
  unfolding known_of decode_by call_in
  known_is id regs p =
      let q : read_function_id (number_in regs) ≡ accepted id = ap read_function_id p ∙ function_back id in
      simp (q, sym p, mod-mod)

  -- a set that has no function's number is refused with its number
  pub unknown_is : (regs : List ℕ) (number : ℕ) → number ≡ number_in regs → NoneOf function_number (refused 1 (pos number)) (λ x. x) number Unit functions →
      refused 1 (pos number) ≡ decode_by read whole regs
  unfolding decode_by call_in read_function_id
  unknown_is regs number e none = simp (sym e, sym (none_chosen function_number (refused 1 (pos number)) (λ x. x) number functions none))
