-- The two decodings differ in memory protect alone. Assumes nothing.
use mathlib.Core.Path.{◌≡◌, refl, sym, ap, subst, ◌∙◌}
use mathlib.Core.List.{List, [], ◌∷◌, map}
use Prim.Native.Nat.{ℕ, ◌^◌}
use native.Mathlib.Nat.{mod-mod}
use lib.Dec.{eqb}
use lib.ListN.{get_or, get_or-map}
use borrow.Author.Tests.{eqb-true, eqb-false}
use Rattle.bits.proofs.Picks.{choice}
use Rattle.function_ids.specs.FunctionIds.{narrow, function_number}
use Rattle.function_ids.specs.declared.FunctionId.TheVariants.{MemProtect}
use Rattle.function_ids.specs.CallTable.{Kind, power_state, entry, context, mpidr, level, feature, mode, reset_type, off_type, cookie, range_base, range_length, memory_protect, Listed, low_half, part_of, whole, Look, bits_of, rule_of, look_of_fields, look_of_number, keep, number_in, kept_set, kept01}
use Rattle.function_ids.proofs.CallTableLaws.{protect_alone}
use Rattle.words.specs.PowerStates.{read_power_state}
use Rattle.decode_definition.specs.Decode.{call_in, decode_by, decode_of, decode_smccc}
use Rattle.decode_definition.specs.TwoDecodings.{with_low_r1, low_half_for_protect, TwoDecodings}

-- what is kept decides
alike : (regs others : List ℕ) → kept_set (look_of_number low_half) regs ≡ kept01 others → decode_smccc regs ≡ decode_of others
unfolding decode_by
alike regs others e = ap (call_in read_power_state) e

elsewhere : (regs : List ℕ) → (number_in regs ≡ function_number MemProtect → ⊥) → decode_smccc regs ≡ decode_of regs
elsewhere regs other =
    let at : (i : ℕ) → look_of_number low_half (number_in regs) i ≡ look_of_number whole (number_in regs) i = λ i. protect_alone low_half (number_in regs) i other in
    alike regs regs (simp (at 1, at 2, at 3))

-- ---- memory protect

first_stays : (regs : List ℕ) → get_or (with_low_r1 regs) 0 0 ≡ get_or regs 0 0
first_stays [] = refl
first_stays (a ∷ []) = refl
first_stays (a ∷ b ∷ rest) = refl

second_low : (regs : List ℕ) → get_or (with_low_r1 regs) 1 0 ≡ part_of low_half (get_or regs 1 0)
second_low [] = refl
second_low (a ∷ []) = refl
second_low (a ∷ b ∷ rest) = refl

-- of memory protect's number, whatever r2 and r3 hold
protect_kept : (n x y z u v : ℕ) → function_number MemProtect ≡ n →
    n ∷ keep (look_of_number low_half n 1) x ∷ keep (look_of_number low_half n 2) y ∷ keep (look_of_number low_half n 3) z ∷ [] ≡
    n ∷ keep (look_of_number whole n 1) (part_of low_half x) ∷ keep (look_of_number whole n 2) u ∷ keep (look_of_number whole n 3) v ∷ []
unfolding rule_of
protect_kept n x y z u v e =
    subst (λ (m : ℕ). m ∷ keep (look_of_number low_half m 1) x ∷ keep (look_of_number low_half m 2) y ∷ keep (look_of_number low_half m 3) z ∷ [] ≡
    m ∷ keep (look_of_number whole m 1) (part_of low_half x) ∷ keep (look_of_number whole m 2) u ∷ keep (look_of_number whole m 3) v ∷ []) e refl

of_protect : (regs : List ℕ) → number_in regs ≡ function_number MemProtect → decode_smccc regs ≡ decode_of (with_low_r1 regs)
of_protect regs e =
    alike regs (with_low_r1 regs)
    (protect_kept (number_in regs) (get_or regs 1 0) (get_or regs 2 0) (get_or regs 3 0) (get_or (with_low_r1 regs) 2 0) (get_or (with_low_r1 regs) 3 0) (sym e)
    ∙ simp (first_stays regs, second_low regs))

-- decoding asks for four registers
pub four_only : (regs : List ℕ) → decode_of regs ≡ decode_of (get_or regs 0 0 ∷ get_or regs 1 0 ∷ get_or regs 2 0 ∷ get_or regs 3 0 ∷ [])
unfolding decode_by
four_only regs = refl

low_r1_only : (regs : List ℕ) → decode_of (with_low_r1 regs) ≡ decode_of (get_or regs 0 0 ∷ part_of low_half (get_or regs 1 0) ∷ get_or regs 2 0 ∷ get_or regs 3 0 ∷ [])
low_r1_only [] = four_only []
low_r1_only (a ∷ []) = four_only (a ∷ [])
low_r1_only (a ∷ b ∷ rest) = four_only (a ∷ part_of low_half b ∷ rest)

pub by_01 : (regs : List ℕ) → decode_smccc regs ≡ decode_of (low_half_for_protect regs)
by_01 regs =
    choice (λ (x : ℕ). decode_smccc regs ≡ decode_of (get_or regs 0 0 ∷ x ∷ get_or regs 2 0 ∷ get_or regs 3 0 ∷ []))
    (eqb (number_in regs) (function_number MemProtect))
    (λ e. of_protect regs (eqb-true (number_in regs) (function_number MemProtect) e) ∙ low_r1_only regs)
    (λ e. elsewhere regs (eqb-false (number_in regs) (function_number MemProtect) e) ∙ four_only regs)

-- ---- high halves

kind_low : (k : Kind) (x : ℕ) → keep (bits_of low_half narrow k) (part_of low_half x) ≡ keep (bits_of low_half narrow k) x
kind_low power_state x = mod-mod x (2 ^ 32)
kind_low entry x = mod-mod x (2 ^ 32)
kind_low context x = mod-mod x (2 ^ 32)
kind_low mpidr x = mod-mod x (2 ^ 32)
kind_low level x = mod-mod x (2 ^ 32)
kind_low feature x = mod-mod x (2 ^ 32)
kind_low mode x = mod-mod x (2 ^ 32)
kind_low reset_type x = mod-mod x (2 ^ 32)
kind_low off_type x = mod-mod x (2 ^ 32)
kind_low cookie x = mod-mod x (2 ^ 32)
kind_low range_base x = mod-mod x (2 ^ 32)
kind_low range_length x = mod-mod x (2 ^ 32)
kind_low memory_protect x = simp mod-mod

fields_low : (fields : List Listed) (register x : ℕ) → keep (look_of_fields low_half narrow fields register) (part_of low_half x) ≡ keep (look_of_fields low_half narrow fields register) x
fields_low [] register x = refl
fields_low (f ∷ fs) register x =
    choice (λ (k : Look). keep k (part_of low_half x) ≡ keep k x) (eqb f.register register) (λ e. kind_low f.kind x) (λ e. fields_low fs register x)

low_halves : (regs : List ℕ) → (rule_of (number_in regs)).form ≡ narrow → decode_smccc regs ≡ decode_smccc (map (part_of low_half) regs)
unfolding decode_by
low_halves regs form =
    let at : (i : ℕ) → get_or (map (part_of low_half) regs) i 0 ≡ part_of low_half (get_or regs i 0) = λ i. get_or-map (part_of low_half) regs i 0 in
    ap (call_in read_power_state) (simp (at 0, at 1, at 2, at 3, mod-mod, form, fields_low (rule_of (number_in regs)).fields))

pub two_decodings : TwoDecodings
two_decodings = record { elsewhere = elsewhere; of_protect = of_protect; by_01 = by_01; low_halves = low_halves }
