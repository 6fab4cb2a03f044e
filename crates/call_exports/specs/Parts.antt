-- The parts that the fields of a call are handed over in, each in a slot of so many bits; nine words are a tag, its parts, then zeros.
use Rattle.std.specs.Prelude.{List, [], ◌∷◌, map, ℕ, ◌<◌, ◌^◌, get_or}
use Rattle.function_ids.specs.FunctionIds.{Form, narrow, wide}
use Rattle.words.specs.Mpidrs.{aff3_number}
use Rattle.words.specs.declared.mpidrs.Mpidr.{Mpidr}
use Rattle.words.specs.declared.power_states.PowerState.{PowerState}
use Rattle.words.specs.declared.power_states.PowerState.TheVariants.{StandbyOrRetention, PowerDown}
use Rattle.words.specs.declared.reset_types.ResetType.{ResetType}
use Rattle.words.specs.declared.reset_types.ResetType.TheVariants.{Architectural, VendorSpecific}
use Rattle.words.specs.EntryPoints.{entry_address, entry_context}
use Rattle.words.specs.declared.cookies.Cookie.{Cookie}
use Rattle.words.specs.declared.entry_points.EntryPoint.{EntryPoint}
use Rattle.words.specs.declared.mem_protect_ranges.MemProtectRange.{MemProtectRange}
use Rattle.function.specs.Forms.{entry_form, cookie_form, range_form, mpidr_form}
use Rattle.words.specs.Cookies.{cookie_word}
use Rattle.words.specs.MemProtectRanges.{base_word, length_word}

-- a part: its value, and how many bits its slot has
pub record CallPart : Type 0 where
  pub value : ℕ
  pub bits : ℕ

infix 80 ◌within◌
abbrev pub ◌within◌ : ℕ → ℕ → CallPart
value within bits = record { value = value; bits = bits }

-- a call's tag, in front of its parts: a whole word
abbrev pub tag : ℕ → CallPart
tag n = n within 64

abbrev pub values_of : List CallPart → List ℕ
values_of parts = map (λ (p : CallPart). p.value) parts

-- each part has room in its slot
abbrev pub Fit : List CallPart → Type 0
Fit [] = Unit {0}
Fit (p ∷ ps) = (p.value < 2 ^ p.bits) × Fit ps

-- the first nine of some words, and zeros for those that are lacking
abbrev pub nine : List ℕ → List ℕ
nine l = get_or l 0 0 ∷ get_or l 1 0 ∷ get_or l 2 0 ∷ get_or l 3 0 ∷ get_or l 4 0 ∷ get_or l 5 0 ∷ get_or l 6 0 ∷ get_or l 7 0 ∷ get_or l 8 0 ∷ []

-- 0 for the 32-bit form, 1 for the 64-bit form
abbrev pub form_part : Form → ℕ
form_part narrow = 0
form_part wide = 1

-- so many bits has a word of that form
abbrev pub form_bits : Form → ℕ
form_bits narrow = 32
form_bits wide = 64

-- whether affinity 3 is there, then affinities 3 to 0
abbrev pub mpidr_parts : Mpidr → List CallPart
mpidr_parts m = form_part (mpidr_form m.aff3) within 1 ∷ aff3_number m.aff3 within 8 ∷ m.aff2 within 8 ∷ m.aff1 within 8 ∷ m.aff0 within 8 ∷ []

-- 1 for power down; the state ID
abbrev pub down_part : PowerState → ℕ
down_part (StandbyOrRetention id) = 0
down_part (PowerDown id) = 1

abbrev pub state_id : PowerState → ℕ
state_id (StandbyOrRetention id) = id
state_id (PowerDown id) = id

abbrev pub power_state_parts : PowerState → List CallPart
power_state_parts s = down_part s within 1 ∷ state_id s within 32 ∷ []

-- the form, the address, the context
abbrev pub entry_parts : EntryPoint → List CallPart
entry_parts e = form_part (entry_form e) within 1 ∷ entry_address e within form_bits (entry_form e) ∷ entry_context e within form_bits (entry_form e) ∷ []

-- the form, the cookie
abbrev pub cookie_parts : Cookie → List CallPart
cookie_parts c = form_part (cookie_form c) within 1 ∷ cookie_word c within form_bits (cookie_form c) ∷ []

-- the form, the base, the length
abbrev pub range_parts : MemProtectRange → List CallPart
range_parts r = form_part (range_form r) within 1 ∷ base_word r within form_bits (range_form r) ∷ length_word r within form_bits (range_form r) ∷ []

-- 1 for a vendor's; its type
abbrev pub vendor_part : ResetType → ℕ
vendor_part (Architectural t) = 0
vendor_part (VendorSpecific t) = 1

abbrev pub vendor_type : ResetType → ℕ
vendor_type (Architectural t) = 0
vendor_type (VendorSpecific t) = t

abbrev pub reset_type_parts : ResetType → List CallPart
reset_type_parts t = vendor_part t within 1 ∷ vendor_type t within 32 ∷ []
