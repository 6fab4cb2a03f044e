-- Document 01, "The typed call": off type: only 1.
use Rattle.std.specs.Prelude.{List, [], ◌∷◌, ℕ, pos}
use Rattle.answers.specs.Answers.{Answer, accepted, refused, choose}
use Rattle.words.specs.declared.system_off2_types.SystemOff2Type.{SystemOff2Type}
use Rattle.words.specs.declared.system_off2_types.SystemOff2Type.TheVariants.{HibernateOff}

abbrev pub system_off2_number : SystemOff2Type → ℕ
system_off2_number HibernateOff = 1

abbrev pub system_off2_types : List SystemOff2Type
system_off2_types = HibernateOff ∷ []

unfoldable pub read_system_off2_type : ℕ → Answer SystemOff2Type
read_system_off2_type word = choose system_off2_number system_off2_types (refused 6 (pos word)) word
