-- The laws of the indexes of functions, each by one computed test of all functions or of all indexes. Assumes nothing.
use mathlib.Core.Path.{◌≡◌, refl, ap, ◌∙◌}
use mathlib.Core.Bool.{Bool, true, false, cond}
use Prim.Native.Nat.{ℕ, zero, suc, ◌<◌}
use native.Mathlib.Omega.{arith}
use lib.Dec.{eqb, ltb}
use borrow.Author.Tests.{eqb-true, eqb-false, ltb-true}
use Rattle.bits.proofs.Picks.{both_true}
use Rattle.function_ids.specs.FunctionIds.{function_number}
use Rattle.function_ids.specs.FunctionIndexes.{index_of, function_at}
use Rattle.function_ids.specs.FunctionIndexLaws.{FunctionIndexLaws}
use Rattle.function_ids.specs.declared.FunctionId.{FunctionId}
use Rattle.function_ids.proofs.FunctionIdLaws.{same_number, every_function}

-- whether all numbers below one pass a test
abbrev every_below : (ℕ → Bool) → ℕ → Bool
every_below test zero = true
every_below test (suc n) = cond (test n) (every_below test n) false

-- then each does
every_below_holds : (test : ℕ → Bool) (n : ℕ) → every_below test n ≡ true → (i : ℕ) → i < n → test i ≡ true
every_below_holds test zero e i h = absurd (omega arith)
every_below_holds test (suc n) e i h =
    let both = both_true (test n) (every_below test n) e in
    by_last (eqb i n) refl both.0 (every_below_holds test n both.1 i)
  where
    by_last : (t : Bool) → eqb i n ≡ t → test n ≡ true → (i < n → test i ≡ true) → test i ≡ true
    by_last true q last others = ap test (eqb-true i n q) ∙ last
    by_last false q last others = others (omega (arith, eqb-false i n q))

numbers_rise : (i j : ℕ) → i < j → j < 35 → function_number (function_at i) < function_number (function_at j)
unfolding function_at
numbers_rise i j less low =
    let test : ℕ → ℕ → Bool = λ j i. ltb (function_number (function_at i)) (function_number (function_at j)) in
    ltb-true _ _ (every_below_holds (test j) j (every_below_holds (λ k. every_below (test k) k) 35 refl j low) i less)

index_within : (f : FunctionId) → index_of f < 35
unfolding index_of
index_within f = ltb-true _ _ (every_function (λ g. ltb (index_of g) 35) refl f)

found_at_index : (f : FunctionId) → function_at (index_of f) ≡ f
unfolding function_at index_of
found_at_index f =
    same_number _ f (eqb-true _ _ (every_function (λ g. eqb (function_number (function_at (index_of g))) (function_number g)) refl f))

index_back : (i : ℕ) → i < 35 → index_of (function_at i) ≡ i
unfolding function_at index_of
index_back i h = eqb-true _ _ (every_below_holds (λ k. eqb (index_of (function_at k)) k) 35 refl i h)

pub function_index_laws : FunctionIndexLaws
function_index_laws = record {
  thirty_five = refl;
  numbers_rise = numbers_rise;
  index_within = index_within;
  found_at_index = found_at_index;
  index_back = index_back;
}
