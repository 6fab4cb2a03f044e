-- Decoding in the original format by document 01's calls: each is decoded with 0 for the power state, which is then put in. Assumes nothing.
use mathlib.Core.Path.{◌≡◌, refl, sym, ap, fun_ext, ◌∙◌}
use mathlib.Core.Bool.{Bool, true, false}
use mathlib.Core.List.{List, [], ◌∷◌}
use Prim.Native.Nat.{ℕ}
use lib.Dec.{eqb}
use borrow.Author.Tests.{eqb-true, eqb-false}
use Rattle.bits.proofs.Picks.{choice}
use Rattle.answers.specs.Answers.{Answer, accepted, refused, through, and_then}
use Rattle.function_ids.specs.FunctionIds.{function_number, read_function_id}
use Rattle.function_ids.specs.declared.FunctionId.{FunctionId}
use Rattle.function_ids.specs.declared.FunctionId.TheVariants as id
use Rattle.function_ids.specs.CallTable.{Kind, power_state, mpidr, is_same_kind, call_table, rule_of, kept01, value_in, number_in}
use Rattle.function_ids.specs.CallTableLaws.{numbers_with, NotAmong}
use Rattle.function_ids.proofs.FunctionIdLaws.{function_back, function_number_is}
use Rattle.function_ids.proofs.CallTableLaws.{same_kind, no_such_field}
use Rattle.words.specs.Mpidrs.{read_mpidr32, read_mpidr64}
use Rattle.words.specs.PowerStates.{read_power_state}
use Rattle.words.specs.OriginalPowerStates.{read_original_power_state}
use Rattle.words.specs.declared.mpidrs.Mpidr.{Mpidr}
use Rattle.words.specs.declared.original_power_states.OriginalPowerState.{OriginalPowerState}
use Rattle.function.specs.Functions.{Function}
use Rattle.function.specs.Stateless.{StatelessFunction, function_of}
use Rattle.function.specs.declared.Call.TheVariants.{StatResidency, StatCount}
use Rattle.decode_definition.specs.RefusalOrders.{of_core_state}
use Rattle.decode_definition.specs.Decode.{call_of, call_in, decode_by}
use Rattle.original_calls.specs.OriginalFunctions.{original_of}
use Rattle.original_calls.specs.OriginalCalls.{in_state, stateless, original_call_of, original_call_in, original_decode_of}
use Rattle.original_calls.specs.TwoFormats.{WithoutState}
use Rattle.original_calls.proofs.Elsewhere.{never, row_among, own}

-- ---- the rows that have a power state

pub residency : (x : Answer Mpidr) (y : Answer OriginalPowerState) → in_state (of_core_state StatResidency x (read_power_state 0)) y ≡ of_core_state StatResidency x y
unfolding read_power_state
residency (accepted m) y = refl
residency (refused number value) y = refl

pub count : (x : Answer Mpidr) (y : Answer OriginalPowerState) → in_state (of_core_state StatCount x (read_power_state 0)) y ≡ of_core_state StatCount x y
unfolding read_power_state
count (accepted m) y = refl
count (refused number value) y = refl

-- a function's row is a call of document 01's with the power state put in
abbrev ByCall : FunctionId → (Kind → ℕ) → Type 0
ByCall f the = original_call_of f the ≡ call_of read_original_power_state f the

suspend32 : (the : Kind → ℕ) → ByCall id.CpuSuspend32 the
unfolding read_power_state
suspend32 the = refl

suspend64 : (the : Kind → ℕ) → ByCall id.CpuSuspend64 the
unfolding read_power_state
suspend64 the = refl

-- ---- the rows that have none

-- where the power state is 0, 0 in its place changes nothing
stateless_same : (the : Kind → ℕ) → the power_state ≡ 0 → stateless the ≡ the
stateless_same the e =
    fun_ext (λ k. choice (λ (n : ℕ). n ≡ the k) (is_same_kind k power_state) (λ t. sym (ap the (same_kind k power_state t) ∙ e)) (λ t. refl))

-- a call that has no power state stays as it is, whatever is put in
put_in : (x : Answer StatelessFunction) (s : OriginalPowerState) → in_state (through function_of x) (accepted s) ≡ through original_of x
put_in (accepted g) s = ap accepted (own g s)
put_in (refused number value) s = refl

-- the word 0 is one of the format's
put_in_0 : (x : Answer StatelessFunction) → in_state (through function_of x) (read_original_power_state 0) ≡ through original_of x
unfolding read_original_power_state
put_in_0 x = put_in x _

row_without : (f : FunctionId) (the : Kind → ℕ) → WithoutState (function_number f) → the power_state ≡ 0 → ByCall f the
row_without f the o z =
    ap (λ (w : ℕ). in_state (call_of read_power_state f (stateless the)) (read_original_power_state w)) z
    ∙ ap (λ (k : Kind → ℕ). in_state (call_of read_power_state f k) (read_original_power_state 0)) (stateless_same the z)
    ∙ ap (λ (c : Answer Function). in_state c (read_original_power_state 0)) (row_among read_power_state f the o)
    ∙ put_in_0 (call_of never f the)
    ∙ sym (row_among read_original_power_state f the o)

number_without : (n : ℕ) (the : Kind → ℕ) → WithoutState n → the power_state ≡ 0 → (x : Answer FunctionId) → read_function_id n ≡ x →
    and_then x (λ f. original_call_of f the) ≡ and_then x (λ f. call_of read_original_power_state f the)
number_without n the o z (accepted f) e = row_without f the (rw (function_number_is n f e) o) z
number_without n the o z (refused number value) e = refl

-- ---- every register set

-- a set is decoded so
abbrev Decoded : List ℕ → Type 0
Decoded regs = original_decode_of regs ≡ original_call_in (kept01 regs)

without : (regs : List ℕ) → WithoutState (number_in regs) → Decoded regs
unfolding decode_by call_in original_call_in
without regs o =
    sym (number_without (number_in regs) (value_in (rule_of (number_in regs)).fields (kept01 regs)) o (no_such_field power_state (kept01 regs) (number_in regs) o) (read_function_id (number_in regs)) refl)

-- a set of a function whose row is so for all values of its fields
with_row : (f : FunctionId) → ((the : Kind → ℕ) → ByCall f the) → (regs : List ℕ) → number_in regs ≡ function_number f → Decoded regs
unfolding decode_by call_in original_call_in
with_row f row regs p =
    let q : read_function_id (number_in regs) ≡ accepted f = ap read_function_id p ∙ function_back f in
    rw q (sym (row (value_in (rule_of (number_in regs)).fields (kept01 regs))))

either : {A : Type 0} (t : Bool) → (t ≡ true → A) → (t ≡ false → A) → A
either true here there = here refl
either false here there = there refl

-- what is so of each of some numbers, and of those that are none of them
abbrev Each : (ℕ → Type 0) → List ℕ → Type 0
Each So [] = Unit {0}
Each So (n ∷ ns) = So n × Each So ns

each_or_none : (So : Type 0) (n : ℕ) (ns : List ℕ) → Each (λ m. n ≡ m → So) ns → (NotAmong ns n → So) → So
each_or_none So n [] each none = none tt
each_or_none So n (m ∷ ms) each none =
    either (eqb n m) (λ t. each.0 (eqb-true n m t)) (λ t. each_or_none So n ms each.1 (λ later. none (eqb-false n m t, later)))

pub by_call : (regs : List ℕ) → original_decode_of regs ≡ original_call_in (kept01 regs)
by_call regs =
    each_or_none (Decoded regs) (number_in regs) (numbers_with power_state call_table) (
      with_row id.CpuSuspend32 suspend32 regs,
      (
        with_row id.CpuSuspend64 suspend64 regs,
        (
          with_row id.PsciStatResidency32 (λ the. residency (read_mpidr32 (the mpidr)) (read_original_power_state (the power_state))) regs,
          (
            with_row id.PsciStatResidency64 (λ the. residency (read_mpidr64 (the mpidr)) (read_original_power_state (the power_state))) regs,
            (
              with_row id.PsciStatCount32 (λ the. count (read_mpidr32 (the mpidr)) (read_original_power_state (the power_state))) regs,
              (with_row id.PsciStatCount64 (λ the. count (read_mpidr64 (the mpidr)) (read_original_power_state (the power_state))) regs, tt),
            ),
          ),
        ),
      ),
    )
    (without regs)
