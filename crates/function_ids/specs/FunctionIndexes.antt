-- The 35 functions in rising order of their numbers: the index of each, 0 to 34, and the function at an index. Document 02 counts functions so
-- in Changes 6, 8 and 12. The order of the table of calls is another: it goes by the low half, and has both forms of a call side by side.
use Rattle.std.specs.Prelude.{cond, List, [], ◌∷◌, ◌++◌, ℕ, ◌+◌, ◌%◌, ltb, get_or}
use Rattle.function_ids.specs.FunctionIds.{function_number, functions, form64}
use Rattle.function_ids.specs.declared.FunctionId.{FunctionId}
use Rattle.function_ids.specs.declared.FunctionId.TheVariants as id

-- how many of some functions have a smaller number
abbrev pub smaller : ℕ → List FunctionId → ℕ
smaller number [] = 0
smaller number (f ∷ fs) = cond (ltb (function_number f) number) 1 0 + smaller number fs

-- the index of a function: how many of the 35 have a smaller number
unfoldable pub index_of : FunctionId → ℕ
index_of f = smaller (function_number f) functions

-- those of some functions that are in the 32-bit form, and those that are in the 64-bit form, in their order: every number of the 32-bit form is
-- below those of the 64-bit form
abbrev pub narrow_among : List FunctionId → List FunctionId
narrow_among [] = []
narrow_among (f ∷ fs) = cond (ltb (function_number f) (form64 0)) (f ∷ narrow_among fs) (narrow_among fs)

abbrev pub wide_among : List FunctionId → List FunctionId
wide_among [] = []
wide_among (f ∷ fs) = cond (ltb (function_number f) (form64 0)) (wide_among fs) (f ∷ wide_among fs)

-- the functions in rising order of their numbers: the 32-bit forms, then the 64-bit ones
abbrev pub rising : List FunctionId
rising = narrow_among functions ++ wide_among functions

-- the function at an index, which is taken modulo 35
unfoldable pub function_at : ℕ → FunctionId
function_at index = get_or rising (index % 35) id.PsciVersion
