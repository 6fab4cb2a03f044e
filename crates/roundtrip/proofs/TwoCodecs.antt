-- The law of the codec of any format of the power state, that what it accepts has the kept words for its words; its instances for document 01's codec and
-- Change 2's, and with it demand 3 of them and the theorems on leftovers. Assumes nothing.
use mathlib.Core.Path.{◌≡◌, refl, subst}
use mathlib.Core.List.{List, [], ◌∷◌}
use Prim.Native.Nat.{ℕ, ◌^◌, ◌<◌}
use native.Mathlib.Omega.{arith}
use lib.Dec.{eqb}
use lib.ListN.{get_or}
use Rattle.answers.specs.Answers.{Answer, accepted}
use Rattle.answers.specs.Inverses.{WritesBack, Word32}
use Rattle.answers.proofs.Answering.{came_then}
use Rattle.function_ids.specs.FunctionIds.{function_number, read_function_id}
use Rattle.function_ids.specs.declared.FunctionId.{FunctionId}
use Rattle.function_ids.proofs.FunctionIdLaws.{function_number_is}
use Rattle.function_ids.specs.CallTable.{Part, low_half, whole, part_of, Look, nothing, value, zero_or_not, rule_of, look_of_number, keep, number_in, kept_set, value_in}
use Rattle.words.specs.PowerStates.{read_power_state, write_power_state}
use Rattle.words.proofs.PowerStateLaws.{power_state_laws}
use Rattle.function.specs.declared.Call.{Call}
use Rattle.decode_definition.specs.Decode.{call_of, call_in, decode_by}
use Rattle.encode_definition.specs.Encode.{words_by}
use Rattle.roundtrip.specs.Codec.{Codec, ByTable, Registers, Demand3}
use Rattle.roundtrip.specs.Document01.{document01, ByTableOf01, Demand3Of01, LeftoversOf01}
use Rattle.roundtrip.specs.Smccc.{smccc, ByTableOfSmccc, Demand3OfSmccc, LeftoversOfSmccc}
use Rattle.roundtrip.proofs.Demand3.{small, demand3}
use Rattle.roundtrip.proofs.LeftoverLaws.{leftovers}
use Rattle.roundtrip.proofs.Rows.{WritesBackAs, FitsLook, row_law}

fit : (k : Look) (x : ℕ) → x < 2 ^ 64 → FitsLook k (keep k x)
fit nothing x h = refl
fit (value low_half) x h = omega arith
fit (value whole) x h = h
fit (zero_or_not part) x h = small (eqb (part_of part x) 0)

module _ {S : Type 0} (read : ℕ → Answer S) where
  -- the call of a number that is a function's, at kept words
  abbrev pub CallAt : FunctionId → ℕ → ℕ → ℕ → ℕ → Answer (Call S)
  CallAt f n a b c = call_of read f (value_in (rule_of n).fields (n ∷ a ∷ b ∷ c ∷ []))

  -- whichever part of r1 memory protect looks at: what is so of the answer of each of the 35 rows and the words it is of, is so of what a register set is
  -- decoded to and the words kept of it
  module _ (protect : Part) (So : Answer (Call S) → List ℕ → Type 0) (each : (f : FunctionId) (a b c : ℕ) →
      FitsLook (look_of_number protect (function_number f) 1) a → FitsLook (look_of_number protect (function_number f) 2) b → FitsLook (look_of_number protect (function_number f) 3) c →
      So (CallAt f (function_number f) a b c) (function_number f ∷ a ∷ b ∷ c ∷ [])) where
    number_law : (f : FunctionId) (n a b c : ℕ) → function_number f ≡ n →
        FitsLook (look_of_number protect n 1) a → FitsLook (look_of_number protect n 2) b → FitsLook (look_of_number protect n 3) c → So (CallAt f n a b c) (n ∷ a ∷ b ∷ c ∷ [])
    number_law f n a b c e =
        subst (λ (m : ℕ). FitsLook (look_of_number protect m 1) a → FitsLook (look_of_number protect m 2) b → FitsLook (look_of_number protect m 3) c → So (CallAt f m a b c) (m ∷ a ∷ b ∷ c ∷ [])) e
        (each f a b c)

    pub by_rows : (r : List ℕ) (f : Call S) → Registers r → decode_by read protect r ≡ accepted f → So (accepted f) (kept_set (look_of_number protect) r)
    unfolding decode_by call_in
    by_rows r f h d =
        let kept = kept_set (look_of_number protect) r in
        let o = came_then (read_function_id (number_in r)) (λ id. call_of read id (value_in (rule_of (number_in r)).fields kept)) f d in
        subst (λ (x : Answer (Call S)). So x kept) o.1.1
        (number_law o.0 (number_in r) _ _ _ (function_number_is (number_in r) o.0 o.1.0) (fit (look_of_number protect (number_in r) 1) (get_or r 1 0) (h.fits 1))
        (fit (look_of_number protect (number_in r) 2) (get_or r 2 0) (h.fits 2)) (fit (look_of_number protect (number_in r) 3) (get_or r 3 0) (h.fits 3)))

  module _ (write : S → Answer ℕ) (back : WritesBack Word32 read write) (protect : Part) where
    -- the codec of a format of the power state, by the part of r1 that memory protect looks at
    abbrev pub of_format : Codec
    of_format = record { Call = Call S; decode = decode_by read protect; words = words_by write; look = look_of_number protect }

    pub by_table_of_format : ByTable of_format
    unfolding decode_by
    by_table_of_format = record {
      call = call_in read;
      decodes = λ r. refl;
      writes = λ r f h d. by_rows protect (WritesBackAs write) (row_law read write back protect) r f h d;
    }

    pub demand3_of_format : Demand3 of_format
    demand3_of_format = demand3 of_format by_table_of_format

pub by_table_of_01 : ByTableOf01
by_table_of_01 = by_table_of_format read_power_state write_power_state power_state_laws.power_state_writes_back whole

pub by_table_of_smccc : ByTableOfSmccc
by_table_of_smccc = by_table_of_format read_power_state write_power_state power_state_laws.power_state_writes_back low_half

pub demand3_of_01 : Demand3Of01
demand3_of_01 = demand3 document01 by_table_of_01

pub demand3_of_smccc : Demand3OfSmccc
demand3_of_smccc = demand3 smccc by_table_of_smccc

pub leftovers_of_01 : LeftoversOf01
leftovers_of_01 = leftovers document01 by_table_of_01

pub leftovers_of_smccc : LeftoversOfSmccc
leftovers_of_smccc = leftovers smccc by_table_of_smccc
