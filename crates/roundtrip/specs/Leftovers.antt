-- Document 02, Change 7, about any codec: decoding gives "the call with four leftover words, each the register exclusive-or the encoded word", and writing
-- with the leftovers restores the registers. Stated here, proved of any codec with the one law in proofs/LeftoverLaws.antt.
use Rattle.std.specs.Prelude.{◌≡◌, List, [], ◌∷◌, ℕ, ◌<◌, length, get_or}
use Rattle.std.specs.Int.Bits.{bit_xor}
use Rattle.answers.specs.Answers.{Answer, accepted, refused, through}
use Rattle.roundtrip.specs.Codec.{Codec, Registers, bit, encode_by, reworded_by}

-- four words, each exclusive-or its partner
abbrev pub xor_each : List ℕ → List ℕ → List ℕ
xor_each a b =
    bit_xor (get_or a 0 0) (get_or b 0 0) ∷ bit_xor (get_or a 1 0) (get_or b 1 0) ∷ bit_xor (get_or a 2 0) (get_or b 2 0) ∷ bit_xor (get_or a 3 0) (get_or b 3 0) ∷ []

-- what is accepted; otherwise these words
abbrev pub or_else : List ℕ → Answer (List ℕ) → List ℕ
or_else otherwise (accepted words) = words
or_else otherwise (refused number value) = otherwise

abbrev pub zeros : List ℕ
zeros = 0 ∷ 0 ∷ 0 ∷ 0 ∷ []

-- all 256 bits of two sets are the same
abbrev pub BitForBit : List ℕ → List ℕ → Type 0
BitForBit r s = (i j : ℕ) → i < 4 → j < 64 → bit j (get_or r i 0) ≡ bit j (get_or s i 0)

module _ (c : Codec) where
  -- what decoding ignores of a set: each register exclusive-or the encoded word of its call; or the set's refusal
  abbrev pub ignored_by : List ℕ → Answer (List ℕ)
  ignored_by regs = through (xor_each regs) (reworded_by c regs)

  -- the leftover words beside the decoder's answer. Those of a refused set, which the papers leave free, are its registers: nothing of it is in a call
  abbrev pub leftovers_by : List ℕ → List ℕ
  leftovers_by regs = or_else regs (ignored_by regs)

  -- writing any call with any leftovers into a lent run: encoding's refusals, or each encoded word exclusive-or its leftover
  abbrev pub encode_with_by : c.Call → List ℕ → List ℕ → Answer (List ℕ)
  encode_with_by f leftovers run = through (λ words. xor_each words leftovers) (encode_by c f run)

  -- of an accepted set r, its call f, and any lent run of four numbers
  pub record OfSet (r : List ℕ) (f : c.Call) (run : List ℕ) : Type 0 where
    -- the leftovers are what decoding ignores
    pub given : ignored_by r ≡ accepted (leftovers_by r)
    -- writing the call with its leftovers gives the registers back
    pub restores : encode_with_by f (leftovers_by r) run ≡ accepted r
    -- a leftover's bit is 0 where the register has the bit that encoding writes, and 1 where it has the other one
    pub same_bit : (words : List ℕ) → encode_by c f run ≡ accepted words → (i j : ℕ) → i < 4 →
        bit j (get_or r i 0) ≡ bit j (get_or words i 0) → bit j (get_or (leftovers_by r) i 0) ≡ 0
    pub other_bit : (words : List ℕ) → encode_by c f run ≡ accepted words → (i j : ℕ) → i < 4 →
        (bit j (get_or r i 0) ≡ bit j (get_or words i 0) → ⊥) → bit j (get_or (leftovers_by r) i 0) ≡ 1
    -- the leftovers are all zero exactly when the set is its own encoding
    pub own : leftovers_by r ≡ zeros → encode_by c f run ≡ accepted r
    pub none : encode_by c f run ≡ accepted r → leftovers_by r ≡ zeros

  -- of two accepted sets r and s and their calls f and g: the calls and the leftovers are the same exactly when all 256 bits are
  pub record OfPair (r s : List ℕ) (f g : c.Call) : Type 0 where
    pub bits : f ≡ g → leftovers_by r ≡ leftovers_by s → BitForBit r s
    pub call : BitForBit r s → f ≡ g
    pub leftovers : BitForBit r s → leftovers_by r ≡ leftovers_by s

  pub record Leftovers : Type 0 where
    pub of_set : (r : List ℕ) (f : c.Call) → length r ≡ 4 → Registers r → c.decode r ≡ accepted f → (run : List ℕ) → length run ≡ 4 → OfSet r f run
    pub of_pair : (r s : List ℕ) (f g : c.Call) → Registers r → Registers s → c.decode r ≡ accepted f → c.decode s ≡ accepted g → OfPair r s f g
