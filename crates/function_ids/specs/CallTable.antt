-- Document 01, "The typed call": the table of calls, and which bits of a register each kind of field takes; with document 02's Change 2, by
-- which the part of r1 that memory protect looks at is a parameter. Decoding, demand 3 and whatever reads fields later read these definitions.
use Rattle.std.specs.Prelude.{Bool, cond, List, [], ◌∷◌, ℕ, ◌%◌, ◌^◌, eqb, get_or}
use Rattle.function_ids.specs.FunctionIds.{Form, narrow, wide, form32, form64}

-- ---- the table

-- the kinds of fields
pub data Kind : Type 0 where
  power_state : Kind
  entry : Kind
  context : Kind
  mpidr : Kind
  level : Kind
  feature : Kind
  mode : Kind
  reset_type : Kind
  off_type : Kind
  cookie : Kind
  range_base : Kind
  range_length : Kind
  memory_protect : Kind

abbrev pub kind_number : Kind → ℕ
kind_number power_state = 0
kind_number entry = 1
kind_number context = 2
kind_number mpidr = 3
kind_number level = 4
kind_number feature = 5
kind_number mode = 6
kind_number reset_type = 7
kind_number off_type = 8
kind_number cookie = 9
kind_number range_base = 10
kind_number range_length = 11
kind_number memory_protect = 12

abbrev pub is_same_kind : Kind → Kind → Bool
is_same_kind k l = eqb (kind_number k) (kind_number l)

-- a field that is read: its register, and its kind
pub record Listed : Type 0 where
  pub register : ℕ
  pub kind : Kind

abbrev pub r1 : Kind → Listed
r1 kind = record { register = 1; kind = kind }

abbrev pub r2 : Kind → Listed
r2 kind = record { register = 2; kind = kind }

abbrev pub r3 : Kind → Listed
r3 kind = record { register = 3; kind = kind }

-- a row: n, and the fields read. `one` has the 32-bit form only, `both` (marked *) has both forms
pub data Row : Type 0 where
  one : ℕ → List Listed → Row
  both : ℕ → List Listed → Row

abbrev pub call_table : List Row
call_table =
    -- version
    one 0x00 [] ∷
    -- CPU suspend
    both 0x01 (r1 power_state ∷ r2 entry ∷ r3 context ∷ []) ∷
    -- CPU off
    one 0x02 [] ∷
    -- CPU on
    both 0x03 (r1 mpidr ∷ r2 entry ∷ r3 context ∷ []) ∷
    -- affinity info
    both 0x04 (r2 level ∷ r1 mpidr ∷ []) ∷
    -- migrate
    both 0x05 (r1 mpidr ∷ []) ∷
    -- migrate info type
    one 0x06 [] ∷
    -- migrate info up CPU
    both 0x07 [] ∷
    -- system off
    one 0x08 [] ∷
    -- system reset
    one 0x09 [] ∷
    -- features
    one 0x0a (r1 feature ∷ []) ∷
    -- CPU freeze
    one 0x0b [] ∷
    -- default suspend
    both 0x0c (r1 entry ∷ r2 context ∷ []) ∷
    -- node hardware state
    both 0x0d (r1 mpidr ∷ r2 level ∷ []) ∷
    -- system suspend
    both 0x0e (r1 entry ∷ r2 context ∷ []) ∷
    -- set suspend mode
    one 0x0f (r1 mode ∷ []) ∷
    -- residency
    both 0x10 (r1 mpidr ∷ r2 power_state ∷ []) ∷
    -- count
    both 0x11 (r1 mpidr ∷ r2 power_state ∷ []) ∷
    -- reset 2
    both 0x12 (r1 reset_type ∷ r2 cookie ∷ []) ∷
    -- memory protect
    one 0x13 (r1 memory_protect ∷ []) ∷
    -- check range
    both 0x14 (r1 range_base ∷ r2 range_length ∷ []) ∷
    -- off 2
    both 0x15 (r1 off_type ∷ r2 cookie ∷ []) ∷
    []

-- the function numbers of some rows
abbrev pub numbers : List Row → List ℕ
numbers [] = []
numbers (one n fields ∷ rows) = form32 n ∷ numbers rows
numbers (both n fields ∷ rows) = form32 n ∷ form64 n ∷ numbers rows

-- ---- the bits of a field

-- the low 32 bits of a register, or the whole register
pub data Part : Type 0 where
  low_half : Part
  whole : Part

abbrev pub part_of : Part → ℕ → ℕ
part_of low_half word = word % 2 ^ 32
part_of whole word = word

-- what is looked at in a register: nothing, the value of a part, or only whether a part is zero
pub data Look : Type 0 where
  nothing : Look
  value : Part → Look
  zero_or_not : Part → Look

-- the low 32 bits in the 32-bit form and the whole register in the 64-bit form
abbrev pub by_form : Form → Look
by_form narrow = value low_half
by_form wide = value whole

-- what a kind takes of its register in each form. `protect` is the part of r1 that memory protect looks at: the whole register in document 01,
-- the low half in Change 2
abbrev pub bits_of : Part → Form → Kind → Look
bits_of protect form mpidr = by_form form
bits_of protect form entry = by_form form
bits_of protect form context = by_form form
bits_of protect form cookie = by_form form
bits_of protect form range_base = by_form form
bits_of protect form range_length = by_form form
bits_of protect form power_state = value low_half
bits_of protect form level = value low_half
bits_of protect form feature = value low_half
bits_of protect form mode = value low_half
bits_of protect form reset_type = value low_half
bits_of protect form off_type = value low_half
bits_of protect form memory_protect = zero_or_not protect

-- ---- what the table says of a function number

-- the form of a number and its fields; a number that the table lacks has none
pub record Rule : Type 0 where
  pub form : Form
  pub fields : List Listed

abbrev pub rule : Form → List Listed → Rule
rule form fields = record { form = form; fields = fields }

abbrev pub rule_in : List Row → ℕ → Rule
rule_in [] number = rule narrow []
rule_in (one n fields ∷ rows) number = cond (eqb number (form32 n)) (rule narrow fields) (rule_in rows number)
rule_in (both n fields ∷ rows) number =
    cond (eqb number (form32 n)) (rule narrow fields) (cond (eqb number (form64 n)) (rule wide fields) (rule_in rows number))

unfoldable pub rule_of : ℕ → Rule
rule_of number = rule_in call_table number

-- what is looked at in a register under some fields
abbrev pub look_of_fields : Part → Form → List Listed → ℕ → Look
look_of_fields protect form [] register = nothing
look_of_fields protect form (f ∷ fs) register = cond (eqb f.register register) (bits_of protect form f.kind) (look_of_fields protect form fs register)

-- what a function number looks at in a register
abbrev pub look_of_number : Part → ℕ → ℕ → Look
look_of_number protect number register = look_of_fields protect (rule_of number).form (rule_of number).fields register

-- the same in document 01, and in Change 2
abbrev pub look01 : ℕ → ℕ → Look
look01 number register = look_of_number whole number register

abbrev pub look_smccc : ℕ → ℕ → Look
look_smccc number register = look_of_number low_half number register

-- what is kept of a register: the bits looked at, with 0 elsewhere, and 1 for a part that is not zero where only that counts
abbrev pub keep : Look → ℕ → ℕ
keep nothing word = 0
keep (value part) word = part_of part word
keep (zero_or_not part) word = cond (eqb (part_of part word) 0) 0 1

-- the function number of a register set: the low 32 bits of r0; its high half is ignored
abbrev pub number_in : List ℕ → ℕ
number_in regs = get_or regs 0 0 % 2 ^ 32

-- a register set with nothing but its function number and what that looks at
abbrev pub kept_set : (ℕ → ℕ → Look) → List ℕ → List ℕ
kept_set look regs =
    number_in regs ∷ keep (look (number_in regs) 1) (get_or regs 1 0) ∷ keep (look (number_in regs) 2) (get_or regs 2 0) ∷
    keep (look (number_in regs) 3) (get_or regs 3 0) ∷ []

-- the same in document 01, and in Change 2
abbrev pub kept01 : List ℕ → List ℕ
kept01 regs = kept_set look01 regs

abbrev pub kept_smccc : List ℕ → List ℕ
kept_smccc regs = kept_set look_smccc regs

-- the value of the field of a kind: the word in its register; 0 if there is no such field
abbrev pub value_in : List Listed → List ℕ → Kind → ℕ
value_in [] words kind = 0
value_in (f ∷ fs) words kind = cond (is_same_kind f.kind kind) (get_or words f.register 0) (value_in fs words kind)
