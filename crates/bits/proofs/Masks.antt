-- What a mask leaves of a word, said by fields: the laws that relate `&` in the code to the fields of `specs/Bits.antt`, for every mask and width.
-- Assumes nothing.
use mathlib.Core.Path.{◌≡◌, sym, ap, ap₂, ◌∙◌, subst}
use mathlib.Core.Bool.{Bool, true, false, ◌&&◌}
use mathlib.Core.List.{List, [], ◌∷◌}
use Prim.Native.Nat.{ℕ, zero, suc, ◌+◌, ◌-◌, ◌*◌, ◌/◌, ◌%◌, ◌^◌, ◌≤◌, ◌<◌, min}
use native.Mathlib.Nat.{add_comm, add-zero, zero-add, zero-mul, mul_assoc, mod-lt, mod-mod, pow-suc, add-mul}
use native.Mathlib.Omega.{arith}
use lib.Dec.{T, leb, leb→le}
use lib.Bits.{bit_and, bit_or, or_shifted, and_block, and_high, and_zero_r, and_zero_l, and_step, and_mod, and_shr, and_mask}
use lib.Pow.{pow_pos, pow-add, split, high_ones}
use borrow.Author.Tests.{eq-eqb, ne_eqb}
use Rattle.bits.specs.Bits.{Field, ◌for◌, bits, mask_of, cut_to, only}

-- a mask with a part above bit k and a part below
and_parts : (word k high low : ℕ) → low < 2 ^ k → bit_and word (high * 2 ^ k + low) ≡ bit_and (word / 2 ^ k) high * 2 ^ k + bit_and (word % 2 ^ k) low
and_parts word k high low h =
    ap (λ (x : ℕ). bit_and x (high * 2 ^ k + low)) (sym (split word k))
    ∙ and_block k (word / 2 ^ k) high (word % 2 ^ k) low (mod-lt word (pow_pos k)) h

and_above : (word k high : ℕ) → bit_and word (high * 2 ^ k) ≡ bit_and (word / 2 ^ k) high * 2 ^ k
and_above word k high =
    ap (bit_and word) (sym (add-zero (high * 2 ^ k))) ∙ and_parts word k high 0 (pow_pos k)
    ∙ ap (λ (x : ℕ). bit_and (word / 2 ^ k) high * 2 ^ k + x) (and_zero_r (word % 2 ^ k))
    ∙ add-zero (bit_and (word / 2 ^ k) high * 2 ^ k)

and_below : (word k low : ℕ) → low < 2 ^ k → bit_and word low ≡ bit_and (word % 2 ^ k) low
and_below word k low h =
    ap (bit_and word) (sym (zero-add low) ∙ ap (λ (x : ℕ). x + low) (sym (zero-mul (2 ^ k)))) ∙ and_parts word k 0 low h
    ∙ ap (λ (x : ℕ). x * 2 ^ k + bit_and (word % 2 ^ k) low) (and_zero_r (word / 2 ^ k))
    ∙ ap (λ (x : ℕ). x + bit_and (word % 2 ^ k) low) (zero-mul (2 ^ k)) ∙ zero-add (bit_and (word % 2 ^ k) low)

and_add : (word k high low : ℕ) → low < 2 ^ k → bit_and word (high * 2 ^ k + low) ≡ bit_and word (high * 2 ^ k) + bit_and word low
and_add word k high low h = and_parts word k high low h ∙ sym (ap₂ ◌+◌ (and_above word k high) (and_below word k low h))

-- one field's mask
and_field : (word lo count : ℕ) → bit_and word ((2 ^ count - 1) * 2 ^ lo) ≡ bits (lo for count) word * 2 ^ lo
and_field word lo count = ap (bit_and word) (sym (high_ones count lo)) ∙ and_high word count lo

-- the fields stand in rising order from bit k up, and none overlap
abbrev pub rising : ℕ → List Field → Bool
rising k [] = true
rising k (f ∷ fs) = leb k f.lo && rising (f.lo + f.count) fs

pub both : (a b : Bool) → T (a && b) → T a × T b
both true b t = (tt, t)
both false b t = absurd t

-- fields from bit k up: their mask is a multiple of 2 ^ k
high_part : List Field → ℕ → ℕ
high_part [] k = 0
high_part (f ∷ fs) k = (2 ^ f.count - 1) * 2 ^ (f.lo - k) + high_part fs (f.lo + f.count) * 2 ^ (f.lo + f.count - k)

pub pow_split : (k n : ℕ) → k ≤ n → 2 ^ (n - k) * 2 ^ k ≡ 2 ^ n
pow_split k n h = sym (pow-add 2 (n - k) k) ∙ ap (◌^◌ 2) (omega arith)

is_high : (fs : List Field) (k : ℕ) → T (rising k fs) → mask_of fs ≡ high_part fs k * 2 ^ k
unfolding high_part
is_high [] k t = sym (zero-mul (2 ^ k))
is_high (f ∷ fs) k t =
    let h : k ≤ f.lo = leb→le k f.lo (both (leb k f.lo) (rising (f.lo + f.count) fs) t).0 in
    let g : k ≤ f.lo + f.count = omega arith in
    ap₂ (λ (x y : ℕ). (2 ^ f.count - 1) * x + y) (sym (pow_split k f.lo h))
    (is_high fs (f.lo + f.count) (both (leb k f.lo) (rising (f.lo + f.count) fs) t).1
    ∙ ap (λ (x : ℕ). high_part fs (f.lo + f.count) * x) (sym (pow_split k (f.lo + f.count) g)))
    ∙ ap₂ ◌+◌ (sym (mul_assoc (2 ^ f.count - 1) (2 ^ (f.lo - k)) (2 ^ k))) (sym (mul_assoc (high_part fs (f.lo + f.count)) (2 ^ (f.lo + f.count - k)) (2 ^ k)))
    ∙ sym (add-mul ((2 ^ f.count - 1) * 2 ^ (f.lo - k)) (high_part fs (f.lo + f.count) * 2 ^ (f.lo + f.count - k)) (2 ^ k))

field_below : (lo count : ℕ) → (2 ^ count - 1) * 2 ^ lo < 2 ^ (lo + count)
field_below lo count =
    subst (λ (x : ℕ). x < 2 ^ (lo + count)) (high_ones count lo)
    (subst (λ (n : ℕ). 2 ^ n - 2 ^ lo < 2 ^ (lo + count)) (add_comm lo count)
    (let p = pow_pos (lo + count) in let q = pow_pos lo in omega arith))

-- `word & mask` keeps the mask's fields
pub masked : (fs : List Field) (k : ℕ) → T (rising k fs) → (word : ℕ) → bit_and word (mask_of fs) ≡ cut_to fs word
masked [] k t word = and_zero_r word
masked (f ∷ fs) k t word =
    let r : T (rising (f.lo + f.count) fs) = (both (leb k f.lo) (rising (f.lo + f.count) fs) t).1 in
    let n : ℕ = f.lo + f.count in
    let e : mask_of fs ≡ high_part fs n * 2 ^ n = is_high fs n r in
    ap (bit_and word) (add_comm ((2 ^ f.count - 1) * 2 ^ f.lo) (mask_of fs) ∙ ap (λ (x : ℕ). x + (2 ^ f.count - 1) * 2 ^ f.lo) e)
    ∙ and_add word n (high_part fs n) ((2 ^ f.count - 1) * 2 ^ f.lo) (field_below f.lo f.count)
    ∙ ap₂ ◌+◌ (ap (bit_and word) (sym e) ∙ masked fs n r word) (and_field word f.lo f.count)
    ∙ add_comm (cut_to fs word) (bits f word * 2 ^ f.lo)

-- each digit of a word goes to the mask or to its complement
digit_parts : (d m : ℕ) → d < 2 → m < 2 → min d (1 - m) + min d m ≡ d
digit_parts d m h g = omega arith

-- a word is what a mask leaves of it and what the mask's complement leaves
pub and_complement : (k mask word : ℕ) → mask < 2 ^ k → word < 2 ^ k → bit_and word (2 ^ k - 1 - mask) + bit_and word mask ≡ word
and_complement zero mask word h g =
    let z : word ≡ 0 = omega arith in
    subst (λ (x : ℕ). bit_and x (2 ^ 0 - 1 - mask) + bit_and x mask ≡ x) (sym z) (ap₂ ◌+◌ (and_zero_l (2 ^ 0 - 1 - mask)) (and_zero_l mask))
and_complement (suc k) mask word h g =
    let p : 2 ^ suc k ≡ 2 ^ k * 2 = pow-suc 2 k in
    let hm : mask / 2 < 2 ^ k = omega arith in
    let hw : word / 2 < 2 ^ k = omega arith in
    let e : (2 ^ suc k - 1 - mask) / 2 ≡ 2 ^ k - 1 - mask / 2 = omega arith in
    let o : (2 ^ suc k - 1 - mask) % 2 ≡ 1 - mask % 2 = omega arith in
    let ih : bit_and (word / 2) (2 ^ k - 1 - mask / 2) + bit_and (word / 2) (mask / 2) ≡ word / 2 = and_complement k (mask / 2) (word / 2) hm hw in
    let d : min (word % 2) (1 - mask % 2) + min (word % 2) (mask % 2) ≡ word % 2 = digit_parts (word % 2) (mask % 2) (omega arith) (omega arith) in
    ap₂ ◌+◌ (and_step word (2 ^ suc k - 1 - mask) ∙ ap₂ (λ (x y : ℕ). bit_and (word / 2) x * 2 + min (word % 2) y) e o) (and_step word mask)
    ∙ omega arith

-- a word of k bits is what stands outside the fields, and the fields. The mask of what stands outside is the complement of the fields' mask
pub outside : (k : ℕ) (fs : List Field) → T (rising 0 fs) → mask_of fs < 2 ^ k → (word : ℕ) → word < 2 ^ k → bit_and word (2 ^ k - 1 - mask_of fs) + cut_to fs word ≡ word
outside k fs t h word g =
    ap (λ (x : ℕ). bit_and word (2 ^ k - 1 - mask_of fs) + x) (sym (masked fs 0 t word)) ∙ and_complement k (mask_of fs) word h g

-- a test of the bits outside the fields, and what `only` says
pub none_outside : (k : ℕ) (fs : List Field) → T (rising 0 fs) → mask_of fs < 2 ^ k → (word : ℕ) → word < 2 ^ k → bit_and word (2 ^ k - 1 - mask_of fs) ≡ 0 → only fs word ≡ true
none_outside k fs t h word g z = let e = outside k fs t h word g in eq-eqb (cut_to fs word) word (omega arith)

pub some_outside : (k : ℕ) (fs : List Field) → T (rising 0 fs) → mask_of fs < 2 ^ k → (word : ℕ) → word < 2 ^ k → (bit_and word (2 ^ k - 1 - mask_of fs) ≡ 0 → ⊥) → only fs word ≡ false
some_outside k fs t h word g z = let e = outside k fs t h word g in ne_eqb (cut_to fs word) word (λ q. z (omega arith))

-- `a | b`, where a has no bit below bit k and b none from it up
pub or_low : (k a b : ℕ) → a % 2 ^ k ≡ 0 → b < 2 ^ k → bit_or a b ≡ a + b
or_low k a b z h =
    let s = split a k in
    let e : a / 2 ^ k * 2 ^ k ≡ a = omega arith in
    subst (λ (x : ℕ). bit_or x b ≡ x + b) e (or_shifted (a / 2 ^ k) k b h)

-- a field that a mask has whole is the same after it
pub field_kept : (f : Field) (word mask : ℕ) → bits f mask ≡ 2 ^ f.count - 1 → bits f (bit_and word mask) ≡ bits f word
field_kept f word mask e =
    ap (λ (x : ℕ). x % 2 ^ f.count) (and_shr word mask f.lo) ∙ and_mod (word / 2 ^ f.lo) (mask / 2 ^ f.lo) f.count
    ∙ ap (bit_and (bits f word)) e ∙ and_mask (bits f word) f.count ∙ mod-mod (word / 2 ^ f.lo) (2 ^ f.count)
