-- Document 01, "The four written words": the form of a typed call, by the part of it that the form follows.
use Rattle.std.specs.Prelude.{ℕ, Bool, true, false, pos, Option, None, Some}
use Rattle.answers.specs.Answers.{Answer, accepted, refused}
use Rattle.function_ids.specs.FunctionIds.{Form, narrow, wide}
use Rattle.function_ids.specs.declared.FunctionId.{FunctionId}
use Rattle.function_ids.specs.declared.FunctionId.TheVariants as id
use Rattle.words.specs.declared.entry_points.EntryPoint.{EntryPoint}
use Rattle.words.specs.declared.entry_points.EntryPoint.TheVariants.{Entry32, Entry64}
use Rattle.words.specs.declared.cookies.Cookie.{Cookie}
use Rattle.words.specs.declared.cookies.Cookie.TheVariants.{Cookie32, Cookie64}
use Rattle.words.specs.declared.mem_protect_ranges.MemProtectRange.{MemProtectRange}
use Rattle.words.specs.declared.mem_protect_ranges.MemProtectRange.TheVariants.{Range32, Range64}

-- one of two things, by the form
abbrev pub in_form : {A : Type 0} → Form → A → A → A
in_form narrow in32 in64 = in32
in_form wide in32 in64 = in64

-- the form follows the entry, cookie or range; migrate info up CPU has a flag for it;
-- the other MPIDR calls take it from whether affinity 3 is present
abbrev pub entry_form : EntryPoint → Form
entry_form (Entry32 address context) = narrow
entry_form (Entry64 address context) = wide

abbrev pub cookie_form : Cookie → Form
cookie_form (Cookie32 cookie) = narrow
cookie_form (Cookie64 cookie) = wide

abbrev pub range_form : MemProtectRange → Form
range_form (Range32 base length) = narrow
range_form (Range64 base length) = wide

abbrev pub flag_form : Bool → Form
flag_form true = narrow
flag_form false = wide

abbrev pub mpidr_form : Option ℕ → Form
mpidr_form None = narrow
mpidr_form (Some byte) = wide

-- refusal 14: CPU on whose MPIDR and entry differ in form
abbrev pub on_number : Form → Form → Answer FunctionId
on_number narrow narrow = accepted id.CpuOn32
on_number narrow wide = refused 14 (pos 0)
on_number wide narrow = refused 14 (pos 0)
on_number wide wide = accepted id.CpuOn64
