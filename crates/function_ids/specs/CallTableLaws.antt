-- What a reader expects of the table of calls: it has exactly the 35 function numbers, no call lists two fields in one register, kinds are
-- told apart, a kind is found only under the numbers that list it, and the parameter counts for memory protect alone.
use Rattle.std.specs.Prelude.{◌≡◌, Bool, true, false, cond, List, [], ◌∷◌, map, ℕ, eqb, length}
use Rattle.function_ids.specs.FunctionIds.{functions, function_number, form32, form64}
use Rattle.function_ids.specs.declared.FunctionId.TheVariants.{MemProtect}
use Rattle.function_ids.specs.CallTable.{Kind, is_same_kind, Listed, Row, one, both, call_table, numbers, Part, zero_or_not, rule_of, look_of_number, look01, value_in}

-- whether none of some fields stands in a register
abbrev pub free : ℕ → List Listed → Bool
free register [] = true
free register (f ∷ fs) = cond (eqb f.register register) false (free register fs)

-- whether no two of some fields stand in one register
abbrev pub apart : List Listed → Bool
apart [] = true
apart (f ∷ fs) = cond (free f.register fs) (apart fs) false

-- whether none of some fields is of a kind
abbrev pub lacks : Kind → List Listed → Bool
lacks kind [] = true
lacks kind (f ∷ fs) = cond (is_same_kind f.kind kind) false (lacks kind fs)

-- the function numbers of the rows that list a kind
abbrev pub numbers_with : Kind → List Row → List ℕ
numbers_with kind [] = []
numbers_with kind (one n fields ∷ rows) = cond (lacks kind fields) (numbers_with kind rows) (form32 n ∷ numbers_with kind rows)
numbers_with kind (both n fields ∷ rows) = cond (lacks kind fields) (numbers_with kind rows) (form32 n ∷ form64 n ∷ numbers_with kind rows)

-- a number is none of some numbers
abbrev pub NotAmong : List ℕ → ℕ → Type 0
NotAmong [] number = Unit {0}
NotAmong (n ∷ ns) number = (number ≡ n → ⊥) × NotAmong ns number

pub record CallTableLaws : Type 0 where
  pub the_table : map function_number functions ≡ numbers call_table
  pub thirty_five : length (numbers call_table) ≡ 35
  -- no call lists two fields in one register, so a field is named by its register
  pub one_field : (number : ℕ) → apart (rule_of number).fields ≡ true
  -- `is_same_kind` holds of a kind and itself, and of no two others
  pub same_kind : (k l : Kind) → is_same_kind k l ≡ true → k ≡ l
  pub own_kind : (k : Kind) → is_same_kind k k ≡ true
  -- a number that lists no field of a kind has the value 0 for it
  pub no_such_field : (kind : Kind) (words : List ℕ) (number : ℕ) → NotAmong (numbers_with kind call_table) number →
      value_in (rule_of number).fields words kind ≡ 0
  -- memory protect looks only at whether that part of r1 is zero
  pub protect_field : (protect : Part) → look_of_number protect (function_number MemProtect) 1 ≡ zero_or_not protect
  -- and every other number looks at what document 01 says, whichever part it is
  pub protect_alone : (protect : Part) (number register : ℕ) → (number ≡ function_number MemProtect → ⊥) → look_of_number protect number register ≡ look01 number register
