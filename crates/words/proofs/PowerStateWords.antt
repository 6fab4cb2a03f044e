-- A power state's word, read and written back; a state ID above the mask is not written. Assumes nothing.
use mathlib.Core.Path.{◌≡◌, refl, sym, ap, ◌∙◌}
use mathlib.Core.Bool.{Bool, true, false, cond}
use mathlib.Core.List.{List, [], ◌∷◌}
use Prim.Native.Nat.{ℕ, ◌<◌, ◌^◌}
use native.Mathlib.Omega.{arith}
use lib.Dec.{eqb, lit<}
use lib.IntN.{pos}
use lib.ListN.{get_or}
use borrow.Author.Tests.{le-leb, lt-leb, leb-true, eqb-true, eqb-false}
use Rattle.bits.specs.Bits.{bits, put, cut_to}
use Rattle.bits.proofs.Picks.{if_true, if_false}
use Rattle.answers.specs.Answers.{accepted, refused}
use Rattle.answers.specs.Inverses.{WritesBack, ReadsBack, Word32, Any}
use Rattle.answers.proofs.Answering.{passed}
use Rattle.answers.proofs.FieldWords.{Put, fields_write, fields_read}
use Rattle.words.specs.PowerStates.{power_state_fields, state_id_field, power_down_field, with_state_id, read_power_state, write_power_state}
use Rattle.words.specs.declared.power_states.PowerState.{PowerState}
use Rattle.words.specs.declared.power_states.PowerState.TheVariants.{StandbyOrRetention, PowerDown}

-- the power state that the values of its fields make
abbrev make : List ℕ → PowerState
make vs = cond (eqb (get_or vs 1 0) 1) (PowerDown (get_or vs 0 0)) (StandbyOrRetention (get_or vs 0 0))

-- a state ID that has its field's size is written
with_id : (power_down id : ℕ) → id < 2 ^ 28 → with_state_id power_down id ≡ accepted (put power_state_fields (id ∷ power_down ∷ []))
with_id power_down id h = sym (if_true _ _ (le-leb id 0x0fffffff (omega arith)) refl)

-- either state type of a word is written as it stood
as_it_stood : (word : ℕ) (t : Bool) → eqb (bits power_down_field word) 1 ≡ t
    → write_power_state (cond t (PowerDown (bits state_id_field word)) (StandbyOrRetention (bits state_id_field word))) ≡ accepted (cut_to power_state_fields word)
unfolding write_power_state
as_it_stood word true e =
    let b : 1 ≡ bits power_down_field word = sym (eqb-true (bits power_down_field word) 1 e) in
    ap (λ (n : ℕ). with_state_id n (bits state_id_field word)) b ∙ with_id (bits power_down_field word) (bits state_id_field word) (omega arith)
as_it_stood word false e =
    let n = eqb-false (bits power_down_field word) 1 e in
    let b : 0 ≡ bits power_down_field word = omega arith in
    ap (λ (n : ℕ). with_state_id n (bits state_id_field word)) b ∙ with_id (bits power_down_field word) (bits state_id_field word) (omega arith)

pub power_state_writes_back : WritesBack Word32 read_power_state write_power_state
unfolding read_power_state
power_state_writes_back = fields_write power_state_fields make 2 Word32 write_power_state (λ word. as_it_stood word (eqb (bits power_down_field word) 1) refl)

-- what is written of a state type and a state ID
with_written : (power_down id word : ℕ) → power_down < 2 → with_state_id power_down id ≡ accepted word → Put power_state_fields make 2 (make (id ∷ power_down ∷ [])) word
with_written power_down id word h q =
    let o = passed _ (put power_state_fields (id ∷ power_down ∷ [])) word 15 (pos id) q in
    let l = leb-true id 0x0fffffff o.0 in
    let m : id < 2 ^ 28 = omega arith in
    (id ∷ power_down ∷ [], ((m, (h, tt)), (o.1, refl)))

written : (s : PowerState) (word : ℕ) → Any s → write_power_state s ≡ accepted word → Put power_state_fields make 2 s word
unfolding write_power_state
written (StandbyOrRetention id) word h q = with_written 0 id word (lit< tt) q
written (PowerDown id) word h q = with_written 1 id word (lit< tt) q

pub power_state_reads_back : ReadsBack Any write_power_state read_power_state
unfolding read_power_state
power_state_reads_back = fields_read power_state_fields make 2 Any write_power_state tt written

pub state_id_above : (id : ℕ) → 0x0fffffff < id →
    (write_power_state (StandbyOrRetention id) ≡ refused 15 (pos id)) × (write_power_state (PowerDown id) ≡ refused 15 (pos id))
unfolding write_power_state
state_id_above id h = let t = lt-leb id 0x0fffffff h in (sym (if_false _ _ t refl), sym (if_false _ _ t refl))
