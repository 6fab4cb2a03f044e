-- Words that are put one behind another. Assumes nothing.
use mathlib.Core.List.{List, [], ◌∷◌, ◌++◌}
use mathlib.Core.Path.{◌≡◌, ◌∙◌}
use native.Mathlib.Numerals.{add-one}
use native.Mathlib.Omega.{arith}
use Prim.Native.Nat.{ℕ, zero, suc, ◌+◌, ◌*◌}
use lib.ListN.{length, get_or}
use Rattle.answers.specs.Lent.{Wrote}
use Rattle.answers.proofs.Lending.{wrote_then, wrote_long}
use Rattle.number_text.specs.Text.{space, word_text}

-- the first so many, each after a space
abbrev pub words_to : List ℕ → ℕ → List ℕ
words_to words zero = []
words_to words (suc k) = words_to words k ++ (space ∷ word_text (get_or words k 0))

-- they stand behind an offset
pub record PutWords (words : List ℕ) (k at : ℕ) (run last : List ℕ) (next : ℕ) : Type 0 where
  pub text : Wrote run at (words_to words k) last next
  pub behind : next ≡ at + 17 * k
  pub long : length last ≡ length run

-- one word more
pub word_more : {words run mid last : List ℕ} {k at next end : ℕ} → PutWords words k at run mid next → Wrote mid next (space ∷ word_text (get_or words k 0)) last end → end ≡ next + 17
    → PutWords words (k + 1) at run last end
word_more {k = k} p w e =
    rw (add-one k) (record { text = wrote_then p.text w; behind = omega (arith, p.behind, e); long = wrote_long w ∙ p.long })
