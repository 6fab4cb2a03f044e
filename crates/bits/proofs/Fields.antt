-- A word put together from its fields' values reads back as those values, and has no other bit. For every list of fields in rising order. Assumes nothing.
use mathlib.Core.Path.{◌≡◌, refl, sym, ap, ap₂, ◌∙◌, subst}
use mathlib.Core.Bool.{true}
use mathlib.Core.List.{List, [], ◌∷◌}
use Prim.Native.Nat.{ℕ, ◌+◌, ◌-◌, ◌*◌, ◌/◌, ◌%◌, ◌^◌, ◌≤◌, ◌<◌}
use native.Mathlib.Nat.{add_comm, add_assoc, zero-add, zero-mul, mul_assoc, add-mul}
use native.Mathlib.Omega.{arith}
use lib.Arith.{digits_lt}
use lib.Dec.{T, leb, leb→le, lit<}
use lib.Pow.{pow-add, pow_mono, high, low}
use borrow.Author.Tests.{eq-eqb}
use Rattle.bits.specs.Bits.{Field, ◌for◌, bits, get, put, cut_to, only}
use Rattle.bits.proofs.Masks.{rising, both, pow_split}

-- there is a value for each field, and each fits its field
abbrev pub FitFields : List Field → List ℕ → Type 0
FitFields [] [] = Unit
FitFields [] (v ∷ vs) = ⊥
FitFields (f ∷ fs) [] = ⊥
FitFields (f ∷ fs) (v ∷ vs) = (v < 2 ^ f.count) × FitFields fs vs

-- each field of the word has its value
abbrev pub Holds : List Field → List ℕ → ℕ → Type 0
Holds [] vs word = Unit
Holds (f ∷ fs) [] word = Unit
Holds (f ∷ fs) (v ∷ vs) word = (bits f word ≡ v) × Holds fs vs word

-- what stands from bit k up, as a number of its own
above : List Field → List ℕ → ℕ → ℕ
above [] vs k = 0
above (f ∷ fs) [] k = 0
above (f ∷ fs) (v ∷ vs) k = v * 2 ^ (f.lo - k) + above fs vs (f.lo + f.count) * 2 ^ (f.lo + f.count - k)

first : (k : ℕ) (f : Field) (fs : List Field) → T (rising k (f ∷ fs)) → k ≤ f.lo
first k f fs t = leb→le k f.lo (both (leb k f.lo) (rising (f.lo + f.count) fs) t).0

later : (k : ℕ) (f : Field) (fs : List Field) → T (rising k (f ∷ fs)) → T (rising (f.lo + f.count) fs)
later k f fs t = (both (leb k f.lo) (rising (f.lo + f.count) fs) t).1

is_above : (fs : List Field) (vs : List ℕ) (k : ℕ) → T (rising k fs) → put fs vs ≡ above fs vs k * 2 ^ k
unfolding above
is_above [] vs k t = sym (zero-mul (2 ^ k))
is_above (f ∷ fs) [] k t = sym (zero-mul (2 ^ k))
is_above (f ∷ fs) (v ∷ vs) k t =
    let h : k ≤ f.lo = first k f fs t in
    let g : k ≤ f.lo + f.count = omega arith in
    ap₂ ◌+◌
    (ap (λ (x : ℕ). v * x) (sym (pow_split k f.lo h)) ∙ sym (mul_assoc v (2 ^ (f.lo - k)) (2 ^ k)))
    (is_above fs vs (f.lo + f.count) (later k f fs t)
    ∙ ap (λ (x : ℕ). above fs vs (f.lo + f.count) * x) (sym (pow_split k (f.lo + f.count) g))
    ∙ sym (mul_assoc (above fs vs (f.lo + f.count)) (2 ^ (f.lo + f.count - k)) (2 ^ k)))
    ∙ sym (add-mul (v * 2 ^ (f.lo - k)) (above fs vs (f.lo + f.count) * 2 ^ (f.lo + f.count - k)) (2 ^ k))

-- one field, with something below it and something above it
one : (lo count under v over : ℕ) → under < 2 ^ lo → v < 2 ^ count → bits (lo for count) (under + (v * 2 ^ lo + over * 2 ^ (lo + count))) ≡ v
one lo count under v over h g =
    ap (λ (x : ℕ). x / 2 ^ lo % 2 ^ count)
    (ap (λ (x : ℕ). under + (v * 2 ^ lo + x)) (ap (λ (x : ℕ). over * x) (ap (◌^◌ 2) (add_comm lo count) ∙ pow-add 2 count lo) ∙ sym (mul_assoc over (2 ^ count) (2 ^ lo)))
    ∙ add_comm under (v * 2 ^ lo + over * 2 ^ count * 2 ^ lo)
    ∙ ap (λ (x : ℕ). x + under) (add_comm (v * 2 ^ lo) (over * 2 ^ count * 2 ^ lo) ∙ sym (add-mul (over * 2 ^ count) v (2 ^ lo))))
    ∙ ap (λ (x : ℕ). x % 2 ^ count) (high (over * 2 ^ count + v) lo h)
    ∙ low over count g

reads_from : (fs : List Field) (vs : List ℕ) (k under : ℕ) → T (rising k fs) → FitFields fs vs → under < 2 ^ k → Holds fs vs (under + put fs vs)
reads_from [] vs k under t fit h = tt
reads_from (f ∷ fs) [] k under t fit h = tt
reads_from (f ∷ fs) (v ∷ vs) k under t fit h =
    let p : 2 ^ k ≤ 2 ^ f.lo = pow_mono (first k f fs t) in
    let u : under < 2 ^ f.lo = omega arith in
    let e : put fs vs ≡ above fs vs (f.lo + f.count) * 2 ^ (f.lo + f.count) = is_above fs vs (f.lo + f.count) (later k f fs t) in (
      ap (λ (x : ℕ). bits f (under + (v * 2 ^ f.lo + x))) e ∙ one f.lo f.count under v (above fs vs (f.lo + f.count)) u fit.0,
      subst (Holds fs vs) (add_assoc under (v * 2 ^ f.lo) (put fs vs))
          (reads_from fs vs (f.lo + f.count) (under + v * 2 ^ f.lo) (later k f fs t) fit.1 (room f.lo f.count under v u fit.0)),
    )
  where
    room : (lo count under v : ℕ) → under < 2 ^ lo → v < 2 ^ count → under + v * 2 ^ lo < 2 ^ (lo + count)
    room lo count under v h g =
        let e : 2 ^ (lo + count) ≡ 2 ^ count * 2 ^ lo = ap (◌^◌ 2) (add_comm lo count) ∙ pow-add 2 count lo in
        let l : v * 2 ^ lo + under < 2 ^ count * 2 ^ lo = digits_lt g h in
        omega arith

pub put_reads : (fs : List Field) (vs : List ℕ) → T (rising 0 fs) → FitFields fs vs → Holds fs vs (put fs vs)
put_reads fs vs t fit = subst (Holds fs vs) (zero-add (put fs vs)) (reads_from fs vs 0 0 t fit (lit< tt))

got : (fs : List Field) (vs : List ℕ) (word : ℕ) → FitFields fs vs → Holds fs vs word → get fs word ≡ vs
got [] [] word fit r = refl
got [] (v ∷ vs) word fit r = absurd fit
got (f ∷ fs) [] word fit r = absurd fit
got (f ∷ fs) (v ∷ vs) word fit r = ap₂ ◌∷◌ r.0 (got fs vs word fit.1 r.1)

pub put_get : (fs : List Field) (vs : List ℕ) → T (rising 0 fs) → FitFields fs vs → get fs (put fs vs) ≡ vs
put_get fs vs t fit = got fs vs (put fs vs) fit (put_reads fs vs t fit)

pub put_only : (fs : List Field) (vs : List ℕ) → T (rising 0 fs) → FitFields fs vs → only fs (put fs vs) ≡ true
put_only fs vs t fit = eq-eqb (cut_to fs (put fs vs)) (put fs vs) (ap (put fs) (put_get fs vs t fit))
