-- Document 01, "Single words": what each reader of a reset type accepts writes back, and what each writer gives reads back. Document 02, Change 5:
-- no two reset types share a word; what is not written stands at the end.
use Rattle.std.specs.Prelude.{◌≡◌, ℕ, ◌<◌, pos}
use Rattle.answers.specs.Answers.{refused}
use Rattle.answers.specs.Inverses.{WritesBack, ReadsBack, Apart, always, Word32, Any}
use Rattle.words.specs.ResetTypes.{architectural_number, read_architectural_reset_type, read_reset_type, write_reset_type}
use Rattle.words.specs.declared.reset_types.ResetType.TheVariants.{VendorSpecific}

pub record ResetTypeLaws : Type 0 where
  pub architectural_writes_back : WritesBack Word32 read_architectural_reset_type (always architectural_number)
  pub architectural_reads_back : ReadsBack Any (always architectural_number) read_architectural_reset_type
  pub reset_type_writes_back : WritesBack Word32 read_reset_type write_reset_type
  pub reset_type_reads_back : ReadsBack Any write_reset_type read_reset_type
  -- two reset types that the writer accepts and that are written as one word are equal
  pub reset_types_apart : Apart write_reset_type
  -- a vendor type of more than 31 bits is not written
  pub vendor_type_above : (t : ℕ) → 0x7fffffff < t → write_reset_type (VendorSpecific t) ≡ refused 31 (pos t)
