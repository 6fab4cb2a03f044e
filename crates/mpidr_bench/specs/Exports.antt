-- What the benchmark is handed of a reader's answer: affinities 0 to 3.
use Rattle.std.specs.Prelude.{List, [], ◌∷◌, ℕ}
use Rattle.words.specs.Mpidrs.{aff3_number}
use Rattle.words.specs.declared.mpidrs.Mpidr.{Mpidr}

abbrev pub affinity_words : Mpidr → List ℕ
affinity_words m = m.aff0 ∷ m.aff1 ∷ m.aff2 ∷ aff3_number m.aff3 ∷ []
