-- An architectural reset type's word and a reset type's, read and written back; a vendor type above 0x7fffffff is not written. Assumes nothing.
use mathlib.Core.Path.{◌≡◌, refl, sym, ap, ◌∙◌}
use mathlib.Core.List.{[], ◌∷◌}
use Prim.Native.Nat.{ℕ, ◌<◌, ◌^◌}
use native.Mathlib.Omega.{arith}
use lib.IntN.{pos}
use borrow.Author.Tests.{le-leb, lt-leb, leb-true, eq-eqb, eqb-true}
use Rattle.bits.specs.Bits.{bits, put}
use Rattle.bits.proofs.Picks.{if_true, if_false}
use Rattle.answers.specs.Answers.{accepted, refused}
use Rattle.answers.specs.Inverses.{WritesBack, ReadsBack, Apart, always, Word32, Any}
use Rattle.answers.proofs.Answering.{passed, at_once_or_through}
use Rattle.answers.proofs.Choosing.{numbered_is, numbered_writes, numbered_reads}
use Rattle.answers.proofs.Inverting.{reads_apart}
use Rattle.words.specs.ResetTypes.{architectural_number, architectural_types, vendor_field, vendor_type_field, reset_type_fields, read_architectural_reset_type, read_reset_type, write_reset_type}
use Rattle.words.specs.declared.reset_types.ArchitecturalResetType.{ArchitecturalResetType}
use Rattle.words.specs.declared.reset_types.ArchitecturalResetType.TheVariants.{SystemWarmReset}
use Rattle.words.specs.declared.reset_types.ResetType.TheVariants.{Architectural, VendorSpecific}

architectural_back : (t : ArchitecturalResetType) → read_architectural_reset_type (architectural_number t) ≡ accepted t
unfolding read_architectural_reset_type
architectural_back SystemWarmReset = refl

pub architectural_writes_back : WritesBack Word32 read_architectural_reset_type (always architectural_number)
unfolding read_architectural_reset_type
architectural_writes_back = numbered_writes architectural_number architectural_types 7 Word32

pub architectural_reads_back : ReadsBack Any (always architectural_number) read_architectural_reset_type
unfolding read_architectural_reset_type
architectural_reads_back = numbered_reads architectural_number architectural_types 7 Any architectural_back

-- a vendor type that has its field's size is written beside the bit that marks it
pub vendor_written : (t : ℕ) → t < 2 ^ 31 → write_reset_type (VendorSpecific t) ≡ accepted (put reset_type_fields (t ∷ 1 ∷ []))
unfolding write_reset_type
vendor_written t h = sym (if_true _ _ (le-leb t _ (omega arith)) (ap accepted (omega arith)))

-- a word of 32 bits with bit 31 set is the vendor type of its lower bits
vendor_is : (word : ℕ) → word < 2 ^ 32 → bits vendor_field word ≡ 1 → write_reset_type (VendorSpecific (bits vendor_type_field word)) ≡ accepted word
vendor_is word h e =
    let w : put reset_type_fields (bits vendor_type_field word ∷ 1 ∷ []) ≡ word = omega arith in
    vendor_written (bits vendor_type_field word) (omega arith) ∙ ap accepted w

pub reset_type_writes_back : WritesBack Word32 read_reset_type write_reset_type
unfolding read_reset_type read_architectural_reset_type write_reset_type
reset_type_writes_back word t h q =
    at_once_or_through _ (VendorSpecific (bits vendor_type_field word)) t Architectural (read_architectural_reset_type word) q
    (λ v e. ap write_reset_type (sym e) ∙ vendor_is word h (eqb-true (bits vendor_field word) 1 v))
    (λ a p e. ap write_reset_type (sym e) ∙ ap accepted (numbered_is architectural_number architectural_types 7 word a p))

-- what a vendor type is written as reads as that type
vendor_back : (t : ℕ) → t < 2 ^ 31 → read_reset_type (put reset_type_fields (t ∷ 1 ∷ [])) ≡ accepted (VendorSpecific t)
unfolding read_reset_type
vendor_back t h =
    let word : ℕ = put reset_type_fields (t ∷ 1 ∷ []) in
    let b : bits vendor_field word ≡ 1 = omega arith in
    let l : bits vendor_type_field word ≡ t = omega arith in
    sym (if_true _ _ (eq-eqb (bits vendor_field word) 1 b) (ap (λ (n : ℕ). accepted (VendorSpecific n)) (sym l)))

architectural_type_back : (t : ArchitecturalResetType) → read_reset_type (architectural_number t) ≡ accepted (Architectural t)
unfolding read_reset_type read_architectural_reset_type
architectural_type_back SystemWarmReset = refl

pub reset_type_reads_back : ReadsBack Any write_reset_type read_reset_type
unfolding write_reset_type
reset_type_reads_back (Architectural t) word h q =
    let e : word ≡ architectural_number t = cc in
    ap read_reset_type e ∙ architectural_type_back t
reset_type_reads_back (VendorSpecific t) word h q =
    let o = passed _ _ word 31 (pos t) q in
    let l = leb-true t _ o.0 in
    let e : word ≡ put reset_type_fields (t ∷ 1 ∷ []) = omega (arith, o.1) in
    ap read_reset_type e ∙ vendor_back t (omega arith)

pub reset_types_apart : Apart write_reset_type
reset_types_apart = reads_apart read_reset_type write_reset_type reset_type_reads_back

pub vendor_type_above : (t : ℕ) → 0x7fffffff < t → write_reset_type (VendorSpecific t) ≡ refused 31 (pos t)
unfolding write_reset_type
vendor_type_above t h = sym (if_false _ _ (lt-leb t _ h) refl)
