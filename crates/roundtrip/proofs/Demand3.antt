-- Demand 3 of any codec with the one law. Assumes nothing.
use mathlib.Core.Path.{◌≡◌, refl, sym, ap, ◌∙◌}
use mathlib.Core.Bool.{Bool, true, false, cond}
use mathlib.Core.List.{List}
use mathlib.Core.Logic.{inl, inr}
use Prim.Native.Nat.{ℕ, zero, suc, ◌^◌, ◌<◌, ◌≤◌}
use native.Mathlib.Omega.{arith}
use native.Mathlib.Nat.{mod-eq_of_lt, mod-mod, div-eq_of_lt, lt_of_lt_of_le}
use lib.Dec.{eqb}
use lib.ListN.{length, get_or}
use lib.Pow.{pow_mono}
use borrow.Author.Tests.{eqb-true, eqb-false, eq-eqb, ne_eqb}
use Rattle.bits.proofs.Picks.{choice}
use Rattle.bits.proofs.SameBits.{bits_mod, mod_bits}
use Rattle.answers.specs.Answers.{Answer, accepted}
use Rattle.answers.specs.Lent.{left}
use Rattle.answers.proofs.Answering.{same_accepted}
use Rattle.answers.proofs.Lending.{fronted_all}
use Rattle.function_ids.specs.CallTable.{Part, low_half, whole, part_of, Look, nothing, value, zero_or_not, keep, number_in, kept_set}
use Rattle.roundtrip.specs.Codec.{Codec, encode_by, ByTable, Registers, bit, width, InField, AgreeIn, Agree, Inside, words_in, OfOne, OfTwo, Demand3}

-- ---- what is kept of a register

pub small : (t : Bool) → cond t 0 1 < 2
small true = omega arith
small false = omega arith

twice : (part : Part) (t : Bool) → keep (zero_or_not part) (cond t 0 1) ≡ cond t 0 1
twice low_half true = refl
twice low_half false = refl
twice whole true = refl
twice whole false = refl

keep_keep : (k : Look) (x : ℕ) → keep k (keep k x) ≡ keep k x
keep_keep nothing x = refl
keep_keep (value low_half) x = mod-mod x (2 ^ 32)
keep_keep (value whole) x = refl
keep_keep (zero_or_not part) x = twice part (eqb (part_of part x) 0)

-- registers that agree in a field are kept alike
agree_keep : (k : Look) (x y : ℕ) → x < 2 ^ 64 → y < 2 ^ 64 → AgreeIn k x y → keep k x ≡ keep k y
agree_keep nothing x y p q h = refl
agree_keep (value low_half) x y p q h = bits_mod 32 x y h
agree_keep (value whole) x y p q h = sym (mod-eq_of_lt p) ∙ bits_mod 64 x y h ∙ mod-eq_of_lt q
agree_keep (zero_or_not part) x y p q h =
    choice (λ (n : ℕ). n ≡ keep (zero_or_not part) y) (eqb (part_of part x) 0)
    (λ t. simp (eq-eqb (part_of part y) 0 (h.0 (eqb-true (part_of part x) 0 t))))
    (λ t. simp (ne_eqb (part_of part y) 0 (λ e. eqb-false (part_of part x) 0 t (h.1 e))))

zero_kept : (part : Part) (x : ℕ) → keep (zero_or_not part) x ≡ 0 → part_of part x ≡ 0
zero_kept part x =
    choice (λ (n : ℕ). n ≡ 0 → part_of part x ≡ 0) (eqb (part_of part x) 0) (λ t e. eqb-true (part_of part x) 0 t) (λ t e. absurd (omega arith))

-- and registers that are kept alike agree
keep_agree : (k : Look) (x y : ℕ) → keep k x ≡ keep k y → AgreeIn k x y
keep_agree nothing x y h = tt
keep_agree (value low_half) x y h = mod_bits 32 x y h
keep_agree (value whole) x y h = λ j t. ap (bit j) h
keep_agree (zero_or_not part) x y h = (
  (λ e. zero_kept part y (sym h ∙ simp (eq-eqb (part_of part x) 0 e))),
  (λ e. zero_kept part x (h ∙ simp (eq-eqb (part_of part y) 0 e))),
)

below : (part : Part) (x : ℕ) → x < 2 ^ 64 → part_of part x < 2 ^ width part
below low_half x h = omega arith
below whole x h = h

one_below : (part : Part) → 2 ≤ 2 ^ width part
one_below low_half = omega arith
one_below whole = omega arith

-- bits from a bound on are zero
high_zero : (n x j : ℕ) → x < 2 ^ n → n ≤ j → bit j x ≡ 0
high_zero n x j h o = rw (div-eq_of_lt (lt_of_lt_of_le h (pow_mono o)))

at_least : (n j : ℕ) → (j < n → ⊥) → n ≤ j
at_least n j o = omega arith

-- what is kept has no bit outside the field
keep_clear : (k : Look) (x j : ℕ) → x < 2 ^ 64 → (InField k j → ⊥) → bit j (keep k x) ≡ 0
keep_clear nothing x j h o = high_zero 0 0 j (omega arith) (omega arith)
keep_clear (value part) x j h o = high_zero (width part) (part_of part x) j (below part x h) (at_least (width part) j o)
keep_clear (zero_or_not part) x j h o =
    high_zero (width part) (keep (zero_or_not part) x) j (lt_of_lt_of_le (small (eqb (part_of part x) 0)) (one_below part)) (at_least (width part) j o)

-- ---- the theorem

module _ (c : Codec) (by : ByTable c) where
  kept : List ℕ → List ℕ
  kept r = kept_set c.look r

  -- what is kept twice is kept once
  kept_kept : (r : List ℕ) → kept (kept r) ≡ kept r
  unfolding kept
  kept_kept r = simp (mod-mod, keep_keep)

  -- the kept words are read as the set
  reads : (r : List ℕ) → c.decode (kept r) ≡ c.decode r
  unfolding kept
  reads r = by.decodes (kept r) ∙ ap by.call (kept_kept r) ∙ sym (by.decodes r)

  agree_kept : (r s : List ℕ) → Registers r → Registers s → Agree c r s → kept r ≡ kept s
  unfolding kept
  agree_kept r s h k a =
      let at : (i : ℕ) → 0 < i → i < 4 → keep (c.look (number_in r) i) (get_or r i 0) ≡ keep (c.look (number_in r) i) (get_or s i 0) =
      λ i p q. agree_keep (c.look (number_in r) i) _ _ (h.fits i) (k.fits i) (a.fields i p q) in
      rw (at 1 (omega arith) (omega arith), at 2 (omega arith) (omega arith), at 3 (omega arith) (omega arith), a.number)

  -- a set that agrees with another is read as that is: accepted as the same call, or refused alike
  pub read_alike : (r s : List ℕ) → Registers r → Registers s → Agree c r s → c.decode s ≡ c.decode r
  read_alike r s h k a = sym (reads s) ∙ ap c.decode (sym (agree_kept r s h k a)) ∙ reads r

  kept_agree : (r s : List ℕ) → kept r ≡ kept s → Agree c r s
  unfolding kept
  kept_agree r s e =
      let n : number_in r ≡ number_in s = ap (λ (w : List ℕ). get_or w 0 0) e in
      let at : (i : ℕ) → get_or (kept r) i 0 ≡ get_or (kept s) i 0 = λ i. ap (λ (w : List ℕ). get_or w i 0) e in
      record {
        number = n;
        fields = λ i p q. keep_agree (c.look (number_in r) i) _ _ (three i p q (at 1) (at 2) (at 3) ∙ ap (λ (m : ℕ). keep (c.look m i) (get_or s i 0)) (sym n));
      }
    where
      three : (i : ℕ) → 0 < i → i < 4 →
          keep (c.look (number_in r) 1) (get_or r 1 0) ≡ keep (c.look (number_in s) 1) (get_or s 1 0) →
          keep (c.look (number_in r) 2) (get_or r 2 0) ≡ keep (c.look (number_in s) 2) (get_or s 2 0) →
          keep (c.look (number_in r) 3) (get_or r 3 0) ≡ keep (c.look (number_in s) 3) (get_or s 3 0) →
          keep (c.look (number_in r) i) (get_or r i 0) ≡ keep (c.look (number_in s) i) (get_or s i 0)
      three zero p q x y z = absurd (omega arith)
      three (suc zero) p q x y z = x
      three (suc (suc zero)) p q x y z = y
      three (suc (suc (suc zero))) p q x y z = z
      three (suc (suc (suc (suc i)))) p q x y z = absurd (omega arith)

  module _ (r : List ℕ) (f : c.Call) (h : Registers r) (d : c.decode r ≡ accepted f) (run : List ℕ) (l : length run ≡ 4) where
    -- the kept words are accepted for the run
    in_run : encode_by c f run ≡ accepted (kept r)
    unfolding kept
    in_run = simp (eq-eqb (length run) 4 l) (by.writes r f h d)

    -- they are four, and so all that is left
    words_are : words_in c f run ≡ kept r
    unfolding kept
    words_are = ap (λ (a : Answer (List ℕ)). left a run) in_run ∙ fronted_all (kept_set c.look r) run (sym l)

  positive : {i : ℕ} → 0 < suc i
  positive = omega arith

  -- the kept words are zero outside
  kept_clear : (r : List ℕ) → Registers r → (i j : ℕ) → i < 4 → (Inside c (number_in (kept r)) i j → ⊥) → bit j (get_or (kept r) i 0) ≡ 0
  unfolding kept
  kept_clear r h zero j p o = high_zero 32 (number_in r) j (omega arith) (at_least 32 j (λ q. o (inl (refl, q))))
  kept_clear r h (suc zero) j p o = keep_clear (c.look (number_in r) 1) (get_or r 1 0) j (h.fits 1) (λ q. o (inr (positive, simp mod-mod q)))
  kept_clear r h (suc (suc zero)) j p o = keep_clear (c.look (number_in r) 2) (get_or r 2 0) j (h.fits 2) (λ q. o (inr (positive, simp mod-mod q)))
  kept_clear r h (suc (suc (suc zero))) j p o = keep_clear (c.look (number_in r) 3) (get_or r 3 0) j (h.fits 3) (λ q. o (inr (positive, simp mod-mod q)))
  kept_clear r h (suc (suc (suc (suc i)))) j p o = absurd (omega arith)

  of_one : (r : List ℕ) (f : c.Call) → Registers r → c.decode r ≡ accepted f → (run : List ℕ) → length run ≡ 4 → OfOne c f run
  unfolding kept
  of_one r f h d run l =
      let w : words_in c f run ≡ kept r = words_are r f h d run l in
      record {
        written = in_run r f h d run l ∙ ap accepted (sym w);
        again = ap c.decode w ∙ reads r ∙ d;
        clear = λ i j p o. ap (λ (x : List ℕ). bit j (get_or x i 0)) w ∙ kept_clear r h i j p (λ q. o (rw w q));
      }

  of_two : (r s : List ℕ) (f g : c.Call) → Registers r → Registers s → c.decode r ≡ accepted f → c.decode s ≡ accepted g →
      (run other : List ℕ) → length run ≡ 4 → length other ≡ 4 → OfTwo c r s f g run other
  unfolding kept
  of_two r s f g h k d e run other l m =
      let w : words_in c f run ≡ kept r = words_are r f h d run l in
      let v : words_in c g other ≡ kept s = words_are s g k e other m in
      let back : kept r ≡ kept s → f ≡ g = λ x. same_accepted (sym d ∙ sym (reads r) ∙ ap c.decode x ∙ reads s ∙ e) in
      let same : f ≡ g → kept r ≡ kept s =
      λ x. same_accepted (sym (by.writes r f h d) ∙ ap c.words x ∙ by.writes s g k e) in
      record {
        agree = λ x. kept_agree r s (same x);
        equal = λ a. back (agree_kept r s h k a);
        same = λ x. w ∙ same x ∙ sym v;
        back = λ x. back (sym w ∙ x ∙ v);
      }

  pub demand3 : Demand3 c
  demand3 = record { of_one = of_one; of_two = of_two }
