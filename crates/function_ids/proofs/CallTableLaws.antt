-- The laws of the table of calls. Assumes nothing.
use mathlib.Core.Path.{◌≡◌, refl, sym, ap, ◌∙◌}
use mathlib.Core.Bool.{Bool, true, false, cond}
use mathlib.Core.List.{List, [], ◌∷◌, map}
use Prim.Native.Nat.{ℕ}
use native.Mathlib.Omega.{arith}
use lib.Dec.{eqb}
use lib.ListN.{length, get_or}
use borrow.Author.Tests.{eqb-true, eq-eqb}
use Rattle.bits.proofs.Picks.{choice, both_true, other_true}
use Rattle.function_ids.specs.FunctionIds.{Form, functions, function_number, form32, form64, narrow, wide}
use Rattle.function_ids.specs.declared.FunctionId.TheVariants.{MemProtect}
use Rattle.function_ids.specs.CallTable.{Kind, power_state, entry, context, mpidr, level, feature, mode, reset_type, off_type, cookie, range_base, range_length, memory_protect, kind_number, is_same_kind, Listed, Row, one, both, call_table, numbers, Part, whole, zero_or_not, bits_of, Rule, rule, rule_in, rule_of, look_of_fields, look_of_number, look01, value_in}
use Rattle.function_ids.specs.CallTableLaws.{CallTableLaws, apart, lacks, numbers_with, NotAmong}

-- document 01's table has these numbers, and there are exactly 35
pub the_table : map function_number functions ≡ numbers call_table
the_table = refl

pub thirty_five : length (numbers call_table) ≡ 35
thirty_five = refl

-- ---- fields and registers

-- whether the fields of every row stand apart
abbrev all_apart : List Row → Bool
all_apart [] = true
all_apart (one n fields ∷ rows) = cond (apart fields) (all_apart rows) false
all_apart (both n fields ∷ rows) = cond (apart fields) (all_apart rows) false

either : (t : Bool) (x y : Rule) → apart x.fields ≡ true → apart y.fields ≡ true → apart (cond t x y).fields ≡ true
either t x y p q = choice (λ (r : Rule). apart r.fields ≡ true) t (λ e. p) (λ e. q)

-- then so do those of the rule of every number, which is one of the rows' or has no fields
in_rows : (rows : List Row) → all_apart rows ≡ true → (number : ℕ) → apart (rule_in rows number).fields ≡ true
in_rows [] h number = refl
in_rows (one n fields ∷ rows) h number =
    let p = both_true (apart fields) (all_apart rows) h in
    either (eqb number (form32 n)) (rule narrow fields) (rule_in rows number) p.0 (in_rows rows p.1 number)
in_rows (both n fields ∷ rows) h number =
    let p = both_true (apart fields) (all_apart rows) h in
    either (eqb number (form32 n)) (rule narrow fields) (cond (eqb number (form64 n)) (rule wide fields) (rule_in rows number)) p.0
    (either (eqb number (form64 n)) (rule wide fields) (rule_in rows number) p.0 (in_rows rows p.1 number))

one_field : (number : ℕ) → apart (rule_of number).fields ≡ true
unfolding rule_of
one_field number = in_rows call_table refl number

-- ---- kinds

-- a kind by its number
kind_at : ℕ → Kind
kind_at n =
    get_or
    (power_state ∷ entry ∷ context ∷ mpidr ∷ level ∷ feature ∷ mode ∷ reset_type ∷ off_type ∷ cookie ∷ range_base ∷ range_length ∷ memory_protect ∷ [])
    n power_state

told : (k : Kind) → kind_at (kind_number k) ≡ k
unfolding kind_at
told power_state = refl
told entry = refl
told context = refl
told mpidr = refl
told level = refl
told feature = refl
told mode = refl
told reset_type = refl
told off_type = refl
told cookie = refl
told range_base = refl
told range_length = refl
told memory_protect = refl

pub same_kind : (k l : Kind) → is_same_kind k l ≡ true → k ≡ l
same_kind k l h = sym (told k) ∙ ap kind_at (eqb-true (kind_number k) (kind_number l) h) ∙ told l

-- ---- the numbers that list a kind

module _ (kind : Kind) (number : ℕ) where
  -- a rule has no field of the kind
  abbrev Lacks : Rule → Type 0
  Lacks r = lacks kind r.fields ≡ true

  -- a row that lists the kind has other numbers, and one that does not lacks it
  one_row : (n : ℕ) (fields : List Listed) (rows : List Row) (t : Bool) → lacks kind fields ≡ t →
      NotAmong (cond t (numbers_with kind rows) (form32 n ∷ numbers_with kind rows)) number →
      (NotAmong (numbers_with kind rows) number → Lacks (rule_in rows number)) → Lacks (rule_in (one n fields ∷ rows) number)
  one_row n fields rows true e none later = choice Lacks (eqb number (form32 n)) (λ t. e) (λ t. later none)
  one_row n fields rows false e none later =
      choice Lacks (eqb number (form32 n)) (λ t. absurd (none.0 (eqb-true number (form32 n) t))) (λ t. later none.1)

  both_row : (n : ℕ) (fields : List Listed) (rows : List Row) (t : Bool) → lacks kind fields ≡ t →
      NotAmong (cond t (numbers_with kind rows) (form32 n ∷ form64 n ∷ numbers_with kind rows)) number →
      (NotAmong (numbers_with kind rows) number → Lacks (rule_in rows number)) → Lacks (rule_in (both n fields ∷ rows) number)
  both_row n fields rows true e none later =
      choice Lacks (eqb number (form32 n)) (λ t. e) (λ t. choice Lacks (eqb number (form64 n)) (λ u. e) (λ u. later none))
  both_row n fields rows false e none later =
      choice Lacks (eqb number (form32 n)) (λ t. absurd (none.0 (eqb-true number (form32 n) t)))
      (λ t. choice Lacks (eqb number (form64 n)) (λ u. absurd (none.1.0 (eqb-true number (form64 n) u))) (λ u. later none.1.1))

  lacks_in : (rows : List Row) → NotAmong (numbers_with kind rows) number → Lacks (rule_in rows number)
  lacks_in [] none = refl
  lacks_in (one n fields ∷ rows) none = one_row n fields rows (lacks kind fields) refl none (lacks_in rows)
  lacks_in (both n fields ∷ rows) none = both_row n fields rows (lacks kind fields) refl none (lacks_in rows)

zero_where_lacking : (kind : Kind) (words : List ℕ) (fields : List Listed) → lacks kind fields ≡ true → value_in fields words kind ≡ 0
zero_where_lacking kind words [] e = refl
zero_where_lacking kind words (f ∷ fs) e =
    let p = other_true (is_same_kind f.kind kind) (lacks kind fs) e in simp p.0 (zero_where_lacking kind words fs p.1)

pub no_such_field : (kind : Kind) (words : List ℕ) (number : ℕ) → NotAmong (numbers_with kind call_table) number → value_in (rule_of number).fields words kind ≡ 0
unfolding rule_of
no_such_field kind words number none = zero_where_lacking kind words (rule_of number).fields (lacks_in kind number call_table none)

-- ---- the part of r1 that memory protect looks at

module _ (protect : Part) (form : Form) where
  kind_alike : (k : Kind) → is_same_kind k memory_protect ≡ false → bits_of protect form k ≡ bits_of whole form k
  kind_alike power_state h = refl
  kind_alike entry h = refl
  kind_alike context h = refl
  kind_alike mpidr h = refl
  kind_alike level h = refl
  kind_alike feature h = refl
  kind_alike mode h = refl
  kind_alike reset_type h = refl
  kind_alike off_type h = refl
  kind_alike cookie h = refl
  kind_alike range_base h = refl
  kind_alike range_length h = refl
  kind_alike memory_protect h = let z : ◌≡◌ {A = ℕ} 0 1 = ap (λ (b : Bool). cond b 0 1) h in absurd (omega arith)

  fields_alike : (fields : List Listed) (register : ℕ) → lacks memory_protect fields ≡ true → look_of_fields protect form fields register ≡ look_of_fields whole form fields register
  fields_alike [] register h = refl
  fields_alike (f ∷ fs) register h =
      let p = other_true (is_same_kind f.kind memory_protect) (lacks memory_protect fs) h in
      simp (kind_alike f.kind p.0, fields_alike fs register p.1)

protect_field : (protect : Part) → look_of_number protect (function_number MemProtect) 1 ≡ zero_or_not protect
unfolding rule_of
protect_field protect = refl

-- memory protect's number is the one that lists its field
pub protect_alone : (protect : Part) (number register : ℕ) → (number ≡ function_number MemProtect → ⊥) → look_of_number protect number register ≡ look01 number register
unfolding rule_of
protect_alone protect number register other =
    fields_alike protect (rule_of number).form (rule_of number).fields register (lacks_in memory_protect number call_table (other, tt))

pub call_table_laws : CallTableLaws
call_table_laws = record {
  the_table = the_table;
  thirty_five = thirty_five;
  one_field = one_field;
  same_kind = same_kind;
  own_kind = λ k. eq-eqb (kind_number k) (kind_number k) refl;
  no_such_field = no_such_field;
  protect_field = protect_field;
  protect_alone = protect_alone;
}
