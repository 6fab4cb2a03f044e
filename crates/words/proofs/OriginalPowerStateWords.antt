-- An original power state's word, read and written back; a level above 3 is not written. Assumes nothing.
use mathlib.Core.Path.{◌≡◌, refl, sym, ap}
use mathlib.Core.Bool.{Bool, true, false}
use mathlib.Core.List.{List, [], ◌∷◌}
use Prim.Native.Nat.{ℕ, zero, suc, ◌<◌, ◌≤◌, ◌^◌}
use native.Mathlib.Omega.{arith}
use lib.Dec.{eqb, lit<}
use lib.IntN.{pos}
use lib.ListN.{get_or}
use borrow.Author.Tests.{le-leb, lt-leb, leb-true}
use Rattle.bits.specs.Bits.{bits, put}
use Rattle.bits.proofs.Picks.{if_true, if_false}
use Rattle.answers.specs.Answers.{accepted, refused}
use Rattle.answers.specs.Inverses.{WritesBack, ReadsBack, Word32}
use Rattle.answers.proofs.Answering.{passed}
use Rattle.answers.proofs.FieldWords.{Put, fields_write, fields_read}
use Rattle.words.specs.Flags.{flag_word}
use Rattle.words.specs.OriginalPowerStateLaws.{Id16}
use Rattle.words.specs.OriginalPowerStates.{original_power_state_fields, state_id_field, power_down_field, level_field, original_power_state_of, read_original_power_state, write_original_power_state}
use Rattle.words.specs.declared.original_power_states.OriginalPowerState.{OriginalPowerState}

-- the power state that the values of its fields make
abbrev make : List ℕ → OriginalPowerState
make vs = original_power_state_of (get_or vs 0 0) (get_or vs 1 0) (get_or vs 2 0)

-- a bit read as a flag and written again
bit_back : (bit : ℕ) → bit < 2 → flag_word (eqb bit 1) ≡ bit
bit_back zero h = refl
bit_back (suc zero) h = refl
bit_back (suc (suc bit)) h = absurd (omega arith)

flag_back : (down : Bool) → eqb (flag_word down) 1 ≡ down
flag_back true = refl
flag_back false = refl

flag_fits : (down : Bool) → flag_word down < 2
flag_fits true = lit< tt
flag_fits false = lit< tt

pub original_writes_back : WritesBack Word32 read_original_power_state write_original_power_state
unfolding read_original_power_state write_original_power_state
original_writes_back =
    fields_write original_power_state_fields make 26 Word32 write_original_power_state
    (λ word.
    let l : bits level_field word ≤ 3 = omega arith in
    let b : bits power_down_field word < 2 = omega arith in
    sym (if_true _ _ (le-leb (bits level_field word) 3 l)
    (ap (λ (n : ℕ). accepted (put original_power_state_fields (bits state_id_field word ∷ n ∷ bits level_field word ∷ []))) (sym (bit_back (bits power_down_field word) b)))))

written : (s : OriginalPowerState) (word : ℕ) → Id16 s → write_original_power_state s ≡ accepted word → Put original_power_state_fields make 26 s word
unfolding write_original_power_state
written s word h q =
    let o = passed _ (put original_power_state_fields (s.state_id ∷ flag_word s.power_down ∷ s.level ∷ [])) word 27 (pos s.level) q in
    let l = leb-true s.level 3 o.0 in
    let m : s.level < 2 ^ 2 = omega arith in
    (s.state_id ∷ flag_word s.power_down ∷ s.level ∷ [], ((h, (flag_fits s.power_down, (m, tt))), (o.1, ap (λ (b : Bool). record { state_id = s.state_id; power_down = b; level = s.level }) (flag_back s.power_down))))

pub original_reads_back : ReadsBack Id16 write_original_power_state read_original_power_state
unfolding read_original_power_state
original_reads_back = fields_read original_power_state_fields make 26 Id16 write_original_power_state tt written

pub level_above : (s : OriginalPowerState) → 3 < s.level → write_original_power_state s ≡ refused 27 (pos s.level)
unfolding write_original_power_state
level_above s h = sym (if_false _ _ (lt-leb s.level 3 h) refl)
