-- Leftovers of any codec with the one law: exclusive or with the kept words. Assumes nothing.
use mathlib.Core.Path.{◌≡◌, refl, sym, ap, ◌∙◌}
use mathlib.Core.List.{List, [], ◌∷◌}
use Prim.Native.Nat.{ℕ, zero, suc, ◌^◌, ◌<◌}
use native.Mathlib.Omega.{arith}
use native.Mathlib.Nat.{mod-eq_of_lt}
use lib.Bits.{bit_xor, xor_lt, xor_self, xor_zero_r}
use lib.Dec.{eqb}
use lib.ListN.{length, get_or}
use borrow.Author.Tests.{eq-eqb}
use Rattle.bits.proofs.SameBits.{bits_mod}
use Rattle.bits.proofs.Xor.{xor_none, xor_cancel, xor_back, xor_laws}
use Rattle.answers.specs.Answers.{accepted, through}
use Rattle.answers.proofs.Answering.{same_accepted}
use Rattle.function_ids.specs.CallTable.{low_half, whole, part_of, Look, nothing, value, zero_or_not, keep, number_in, kept_set}
use Rattle.roundtrip.specs.Codec.{Codec, Registers, bit, encode_by, ByTable}
use Rattle.roundtrip.proofs.Demand3.{small}
use Rattle.roundtrip.specs.Leftovers.{xor_each, or_else, zeros, BitForBit, ignored_by, leftovers_by, OfSet, OfPair, Leftovers}

-- ---- four words

-- four words with the same elements are the same
pub four_alike : (r s : List ℕ) → length r ≡ 4 → length s ≡ 4 → ((i : ℕ) → i < 4 → get_or r i 0 ≡ get_or s i 0) → r ≡ s
four_alike r s h k e = sym (of_four r h) ∙ rw (e 0 (omega arith), e 1 (omega arith), e 2 (omega arith), e 3 (omega arith)) (of_four s k)
  where
    of_four : (l : List ℕ) → length l ≡ 4 → get_or l 0 0 ∷ get_or l 1 0 ∷ get_or l 2 0 ∷ get_or l 3 0 ∷ [] ≡ l
    of_four [] h = absurd (omega arith)
    of_four (p ∷ []) h = absurd (omega arith)
    of_four (p ∷ q ∷ []) h = absurd (omega arith)
    of_four (p ∷ q ∷ r ∷ []) h = absurd (omega arith)
    of_four (p ∷ q ∷ r ∷ s ∷ []) h = refl
    of_four (p ∷ q ∷ r ∷ s ∷ t ∷ u) h = absurd (omega arith)

each_at : (a b : List ℕ) (i : ℕ) → i < 4 → get_or (xor_each a b) i 0 ≡ bit_xor (get_or a i 0) (get_or b i 0)
each_at a b zero h = refl
each_at a b (suc zero) h = refl
each_at a b (suc (suc zero)) h = refl
each_at a b (suc (suc (suc zero))) h = refl
each_at a b (suc (suc (suc (suc i)))) h = absurd (omega arith)

zero_at : (i : ℕ) → i < 4 → get_or zeros i 0 ≡ 0
zero_at zero h = refl
zero_at (suc zero) h = refl
zero_at (suc (suc zero)) h = refl
zero_at (suc (suc (suc zero))) h = refl
zero_at (suc (suc (suc (suc i)))) h = absurd (omega arith)

-- words exclusive-or what a set leaves over beside them: the set
each_back : (r w : List ℕ) → length r ≡ 4 → xor_each w (xor_each r w) ≡ r
each_back r w h =
    four_alike (xor_each w (xor_each r w)) r refl h
    (λ i p. each_at w (xor_each r w) i p ∙ ap (bit_xor (get_or w i 0)) (each_at r w i p) ∙ xor_back (get_or r i 0) (get_or w i 0))

each_self : (r : List ℕ) → xor_each r r ≡ zeros
each_self r = four_alike (xor_each r r) zeros refl refl (λ i p. each_at r r i p ∙ xor_self (get_or r i 0) ∙ sym (zero_at i p))

each_none : (r w : List ℕ) → length r ≡ 4 → length w ≡ 4 → xor_each r w ≡ zeros → r ≡ w
each_none r w h k e =
    four_alike r w h k
    (λ i p. xor_none (get_or r i 0) (get_or w i 0) (sym (each_at r w i p) ∙ ap (λ (x : List ℕ). get_or x i 0) e ∙ zero_at i p))

-- beside zeros all is left over
pub each_zero : (r : List ℕ) → length r ≡ 4 → xor_each r zeros ≡ r
each_zero r h =
    four_alike (xor_each r zeros) r refl h
    (λ i p. each_at r zeros i p ∙ ap (bit_xor (get_or r i 0)) (zero_at i p) ∙ xor_zero_r (get_or r i 0))

-- ---- what is kept

keep_fits : (k : Look) (x : ℕ) → x < 2 ^ 64 → keep k x < 2 ^ 64
keep_fits nothing x h = omega arith
keep_fits (value low_half) x h = omega arith
keep_fits (value whole) x h = h
keep_fits (zero_or_not part) x h = omega (arith, small (eqb (part_of part x) 0))

-- of registers of 64 bits words of 64 bits are kept
pub kept_fits : (look : ℕ → ℕ → Look) (r : List ℕ) → Registers r → (i : ℕ) → i < 4 → get_or (kept_set look r) i 0 < 2 ^ 64
kept_fits look r h zero p = omega arith
kept_fits look r h (suc zero) p = keep_fits (look (number_in r) 1) (get_or r 1 0) (h.fits 1)
kept_fits look r h (suc (suc zero)) p = keep_fits (look (number_in r) 2) (get_or r 2 0) (h.fits 2)
kept_fits look r h (suc (suc (suc zero))) p = keep_fits (look (number_in r) 3) (get_or r 3 0) (h.fits 3)
kept_fits look r h (suc (suc (suc (suc i)))) p = absurd (omega arith)

-- registers of 64 bits with the same bits are the same
same_words : (r s : List ℕ) → Registers r → Registers s → BitForBit r s → (i : ℕ) → i < 4 → get_or r i 0 ≡ get_or s i 0
same_words r s h k e i p = sym (mod-eq_of_lt (h.fits i)) ∙ bits_mod 64 (get_or r i 0) (get_or s i 0) (λ j q. e i j p q) ∙ mod-eq_of_lt (k.fits i)

-- ---- the theorems

module _ (c : Codec) (by : ByTable c) where
  abbrev kept : List ℕ → List ℕ
  kept r = kept_set c.look r

  module _ (r : List ℕ) (f : c.Call) (h : Registers r) (d : c.decode r ≡ accepted f) where
    -- what is ignored is what differs from the kept words
    ignored : ignored_by c r ≡ accepted (xor_each r (kept r))
    ignored = simp (d, by.writes r f h d)

    left_over : leftovers_by c r ≡ xor_each r (kept r)
    left_over = ap (or_else r) ignored

    leftover_at : (i : ℕ) → i < 4 → get_or (leftovers_by c r) i 0 ≡ bit_xor (get_or r i 0) (get_or (kept r) i 0)
    leftover_at i p = ap (λ (x : List ℕ). get_or x i 0) left_over ∙ each_at r (kept r) i p

    -- and has 64 bits
    pub leftovers_fit : (i : ℕ) → i < 4 → get_or (leftovers_by c r) i 0 < 2 ^ 64
    leftovers_fit i p = rw (leftover_at i p) (xor_lt 64 (get_or r i 0) (get_or (kept r) i 0) (h.fits i) (kept_fits c.look r h i p))

    of_set : length r ≡ 4 → (run : List ℕ) → length run ≡ 4 → OfSet c r f run
    of_set l run four =
        let w : encode_by c f run ≡ accepted (kept r) = simp (eq-eqb (length run) 4 four) (by.writes r f h d) in
        let own_words : (words : List ℕ) → encode_by c f run ≡ accepted words → leftovers_by c r ≡ xor_each r words =
        λ words e. left_over ∙ ap (xor_each r) (same_accepted (sym w ∙ e)) in
        let at : (words : List ℕ) → encode_by c f run ≡ accepted words → (i : ℕ) → i < 4 → get_or (leftovers_by c r) i 0 ≡ bit_xor (get_or r i 0) (get_or words i 0) =
        λ words e i p. ap (λ (x : List ℕ). get_or x i 0) (own_words words e) ∙ each_at r words i p in
        record {
          given = ignored ∙ ap accepted (sym left_over);
          restores =
              ap (through (λ (words : List ℕ). xor_each words (leftovers_by c r))) w
              ∙ ap (λ (x : List ℕ). accepted (xor_each (kept r) x)) left_over
              ∙ ap accepted (each_back r (kept r) l);
          same_bit = λ words e i j p b. ap (bit j) (at words e i p) ∙ xor_laws.same_bit j (get_or r i 0) (get_or words i 0) b;
          other_bit = λ words e i j p b. ap (bit j) (at words e i p) ∙ xor_laws.other_bit j (get_or r i 0) (get_or words i 0) b;
          own = λ z. w ∙ ap accepted (sym (each_none r (kept r) l refl (sym left_over ∙ z)));
          none = λ o. own_words r o ∙ each_self r;
        }

  module _ (r s : List ℕ) (f g : c.Call) (h : Registers r) (k : Registers s) (d : c.decode r ≡ accepted f) (e : c.decode s ≡ accepted g) where
    -- a kept word and its leftover tell the register
    pub same_register : (i : ℕ) → i < 4 → get_or (kept r) i 0 ≡ get_or (kept s) i 0 → get_or (leftovers_by c r) i 0 ≡ get_or (leftovers_by c s) i 0 → get_or r i 0 ≡ get_or s i 0
    same_register i p same left =
        sym (xor_cancel (get_or r i 0) (get_or (kept r) i 0))
        ∙ ap (λ (x : ℕ). bit_xor x (get_or (kept r) i 0)) (sym (leftover_at r f h d i p) ∙ left ∙ leftover_at s g k e i p)
        ∙ ap (bit_xor (bit_xor (get_or s i 0) (get_or (kept s) i 0))) same
        ∙ xor_cancel (get_or s i 0) (get_or (kept s) i 0)

    of_pair : OfPair c r s f g
    of_pair =
        let words : f ≡ g → kept r ≡ kept s = λ x. same_accepted (sym (by.writes r f h d) ∙ ap c.words x ∙ by.writes s g k e) in
        let alike : BitForBit r s → kept r ≡ kept s =
        λ b. let at = same_words r s h k b in rw (at 0 (omega arith), at 1 (omega arith), at 2 (omega arith), at 3 (omega arith)) in
        let each : BitForBit r s → xor_each r (kept r) ≡ xor_each s (kept r) =
        λ b. let at = same_words r s h k b in rw (at 0 (omega arith), at 1 (omega arith), at 2 (omega arith), at 3 (omega arith)) in
        record {
          bits = λ x y i j p q. ap (bit j) (same_register i p (ap (λ (z : List ℕ). get_or z i 0) (words x)) (ap (λ (z : List ℕ). get_or z i 0) y));
          call = λ b. same_accepted (sym d ∙ by.decodes r ∙ ap by.call (alike b) ∙ sym (by.decodes s) ∙ e);
          leftovers = λ b. left_over r f h d ∙ each b ∙ ap (xor_each s) (alike b) ∙ sym (left_over s g k e);
        }

  pub leftovers : Leftovers c
  leftovers = record { of_set = λ r f l h d. of_set r f h d l; of_pair = of_pair }
