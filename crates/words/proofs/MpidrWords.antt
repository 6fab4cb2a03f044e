-- A core address's words of 32 and of 64 bits, read and written back, and what becomes of affinity 3. Assumes nothing.
use mathlib.Core.Path.{◌≡◌, refl, sym, ap, ◌∙◌}
use mathlib.Core.List.{List, [], ◌∷◌}
use Prim.Native.Nat.{ℕ, ◌<◌, ◌^◌}
use lib.Dec.{eqb, lit<}
use lib.IntN.{pos}
use lib.ListN.{get_or}
use borrow.Author.Tests.{eqb-true}
use Rattle.std.specs.Prelude.{Option, None, Some}
use Rattle.bits.specs.Bits.{◌for◌, bits, cut_to, only}
use Rattle.answers.specs.Answers.{accepted}
use Rattle.answers.specs.Inverses.{WritesBack, ReadsBack, always, Word32, Word64}
use Rattle.answers.proofs.Answering.{passed}
use Rattle.answers.proofs.FieldWords.{Put, read_put, fields_write, fields_read}
use Rattle.words.specs.MpidrLaws.{Without3, With3}
use Rattle.words.specs.Mpidrs.{mpidr_of, mpidr32, mpidr64, fields32, fields64, low_word, aff3_number, read_mpidr32, read_mpidr64, write_mpidr32, write_mpidr64}
use Rattle.words.specs.declared.mpidrs.Mpidr.{Mpidr}

-- the core addresses that the values of the fields make
abbrev make32 : List ℕ → Mpidr
make32 vs = mpidr_of (get_or vs 0 0) (get_or vs 1 0) (get_or vs 2 0) None

abbrev make64 : List ℕ → Mpidr
make64 vs = mpidr_of (get_or vs 0 0) (get_or vs 1 0) (get_or vs 2 0) (Some (get_or vs 3 0))

-- ---- 32 bits

pub mpidr32_writes_back : WritesBack Word32 read_mpidr32 write_mpidr32
unfolding read_mpidr32 write_mpidr32
mpidr32_writes_back = fields_write fields32 make32 3 Word32 write_mpidr32 (λ word. refl)

written32 : (m : Mpidr) (word : ℕ) → Without3 m → write_mpidr32 m ≡ accepted word → Put fields32 make32 3 m word
unfolding write_mpidr32
written32 m word h q =
    let o = passed (eqb (aff3_number m.aff3) 0) (low_word m) word 13 (pos (aff3_number m.aff3)) q in
    (m.aff0 ∷ m.aff1 ∷ m.aff2 ∷ [], ((h.0.0, (h.0.1, (h.0.2, tt))), (o.1, ap (mpidr_of m.aff0 m.aff1 m.aff2) (sym h.1))))

pub mpidr32_reads_back : ReadsBack Without3 write_mpidr32 read_mpidr32
unfolding read_mpidr32
mpidr32_reads_back = fields_read fields32 make32 3 Without3 write_mpidr32 tt written32

-- affinity 3 present and 0 reads back absent
pub aff3_zero : (a0 a1 a2 : ℕ) → a0 < 2 ^ 8 → a1 < 2 ^ 8 → a2 < 2 ^ 8 → (word : ℕ) →
    write_mpidr32 (mpidr_of a0 a1 a2 (Some 0)) ≡ accepted word → read_mpidr32 word ≡ accepted (mpidr_of a0 a1 a2 None)
unfolding read_mpidr32 write_mpidr32
aff3_zero a0 a1 a2 h0 h1 h2 word q =
    let e : word ≡ low_word (mpidr_of a0 a1 a2 (Some 0)) = cc in
    ap read_mpidr32 e ∙ read_put fields32 make32 3 (a0 ∷ a1 ∷ a2 ∷ []) tt (h0, (h1, (h2, tt)))

-- a core address that 32 bits are read as has no affinity 3, and is written in 64 bits as the same number
pub mpidr32_wide : (word : ℕ) (m : Mpidr) → read_mpidr32 word ≡ accepted m → (m.aff3 ≡ None) × (write_mpidr64 m ≡ word)
unfolding read_mpidr32 write_mpidr64
mpidr32_wide word m q =
    let o = passed (only fields32 word) (mpidr32 word) m 3 (pos word) q in
    (ap (λ (x : Mpidr). x.aff3) (sym o.1), ap write_mpidr64 (sym o.1) ∙ eqb-true (cut_to fields32 word) word o.0)

-- ---- 64 bits

-- a core address that 64 bits are read as has affinity 3, and is written as that word
pub mpidr64_wide : (word : ℕ) (m : Mpidr) → read_mpidr64 word ≡ accepted m → ((byte : ℕ) × (m.aff3 ≡ Some byte)) × (write_mpidr64 m ≡ word)
unfolding read_mpidr64 write_mpidr64
mpidr64_wide word m q =
    let o = passed (only fields64 word) (mpidr64 word) m 4 (pos word) q in
    ((bits (32 for 8) word, ap (λ (x : Mpidr). x.aff3) (sym o.1)), ap write_mpidr64 (sym o.1) ∙ eqb-true (cut_to fields64 word) word o.0)

pub mpidr64_writes_back : WritesBack Word64 read_mpidr64 (always write_mpidr64)
unfolding read_mpidr64 write_mpidr64
mpidr64_writes_back = fields_write fields64 make64 4 Word64 (always write_mpidr64) (λ word. refl)

written64 : (m : Mpidr) (word : ℕ) → With3 m → always write_mpidr64 m ≡ accepted word → Put fields64 make64 4 m word
unfolding write_mpidr64
written64 m word h q =
    let byte : ℕ = h.1.0 in
    let e : m.aff3 ≡ Some byte = h.1.1.1 in
    let p : write_mpidr64 (mpidr_of m.aff0 m.aff1 m.aff2 (Some byte)) ≡ write_mpidr64 m = ap (λ (a : Option ℕ). write_mpidr64 (mpidr_of m.aff0 m.aff1 m.aff2 a)) (sym e) in
    let w : write_mpidr64 m ≡ word = cc in
    (m.aff0 ∷ m.aff1 ∷ m.aff2 ∷ byte ∷ [], ((h.0.0, (h.0.1, (h.0.2, (h.1.1.0, tt)))), (p ∙ w, ap (mpidr_of m.aff0 m.aff1 m.aff2) (sym e))))

pub mpidr64_reads_back : ReadsBack With3 (always write_mpidr64) read_mpidr64
unfolding read_mpidr64
mpidr64_reads_back = fields_read fields64 make64 4 With3 (always write_mpidr64) tt written64

-- affinity 3 absent reads back as 0
pub aff3_absent : (a0 a1 a2 : ℕ) → a0 < 2 ^ 8 → a1 < 2 ^ 8 → a2 < 2 ^ 8 →
    read_mpidr64 (write_mpidr64 (mpidr_of a0 a1 a2 None)) ≡ accepted (mpidr_of a0 a1 a2 (Some 0))
unfolding read_mpidr64 write_mpidr64
aff3_absent a0 a1 a2 h0 h1 h2 = read_put fields64 make64 4 (a0 ∷ a1 ∷ a2 ∷ 0 ∷ []) tt (h0, (h1, (h2, (lit< tt, tt))))
