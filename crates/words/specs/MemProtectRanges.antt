-- Document 01, "The four written words": a range's base and length as words, whatever its form.
use Rattle.std.specs.Prelude.{ℕ}
use Rattle.words.specs.declared.mem_protect_ranges.MemProtectRange.{MemProtectRange}
use Rattle.words.specs.declared.mem_protect_ranges.MemProtectRange.TheVariants.{Range32, Range64}

abbrev pub base_word : MemProtectRange → ℕ
base_word (Range32 base extent) = base
base_word (Range64 base extent) = base

abbrev pub length_word : MemProtectRange → ℕ
length_word (Range32 base extent) = extent
length_word (Range64 base extent) = extent
