-- Document 01, "The typed call": reset type: bit 31 set means vendor type in bits 0–30; otherwise only 0. Writing a vendor type sets bit 31.
use Rattle.std.specs.Prelude.{cond, List, [], ◌∷◌, ℕ, leb, eqb, pos}
use Rattle.bits.specs.Bits.{Field, ◌for◌, bits, put}
use Rattle.answers.specs.Answers.{Answer, accepted, refused, choose, through}
use Rattle.words.specs.declared.reset_types.ArchitecturalResetType.{ArchitecturalResetType}
use Rattle.words.specs.declared.reset_types.ArchitecturalResetType.TheVariants.{SystemWarmReset}
use Rattle.words.specs.declared.reset_types.ResetType.{ResetType}
use Rattle.words.specs.declared.reset_types.ResetType.TheVariants.{Architectural, VendorSpecific}

abbrev pub architectural_number : ArchitecturalResetType → ℕ
architectural_number SystemWarmReset = 0

abbrev pub architectural_types : List ArchitecturalResetType
architectural_types = SystemWarmReset ∷ []

unfoldable pub read_architectural_reset_type : ℕ → Answer ArchitecturalResetType
read_architectural_reset_type word = choose architectural_number architectural_types (refused 7 (pos word)) word

abbrev pub vendor_field : Field
vendor_field = 31 for 1

abbrev pub vendor_type_field : Field
vendor_type_field = 0 for 31

abbrev pub reset_type_fields : List Field
reset_type_fields = vendor_type_field ∷ vendor_field ∷ []

unfoldable pub read_reset_type : ℕ → Answer ResetType
read_reset_type word =
    cond (eqb (bits vendor_field word) 1)
    (accepted (VendorSpecific (bits vendor_type_field word)))
    (through Architectural (read_architectural_reset_type word))

-- document 02, Change 5: a vendor type above 0x7fffffff is refused, and carried
unfoldable pub write_reset_type : ResetType → Answer ℕ
write_reset_type (Architectural t) = accepted (architectural_number t)
write_reset_type (VendorSpecific t) = cond (leb t 0x7fffffff) (accepted (put reset_type_fields (t ∷ 1 ∷ []))) (refused 31 (pos t))
