-- Leftovers beside what a decoder answered, and writing with leftovers: what the code's steps give, of the words of any codec. Assumes nothing.
use mathlib.Core.Path.{◌≡◌, refl, sym, ap, ◌∙◌}
use mathlib.Core.Bool.{Bool, true, false, cond}
use mathlib.Core.List.{List, [], ◌∷◌}
use Prim.Native.Nat.{ℕ}
use native.Mathlib.Omega.{arith}
use lib.Bits.{bit_xor}
use lib.Dec.{eqb}
use lib.IntN.{ℤ, pos}
use lib.ListN.{length, get_or, set}
use borrow.Author.Tests.{eq-eqb, ne_eqb}
use Rattle.std.specs.Prelude.{Result, Ok, Err, ⊤}
use Rattle.answers.specs.declared.Error.{Error}
use Rattle.answers.specs.Answers.{Answer, accepted, refused, through, and_then}
use Rattle.answers.specs.Lent.{Writes, itself, left}
use Rattle.answers.proofs.Answering.{not_accepted, same_accepted}
use Rattle.answers.proofs.Lending.{fronted_all, turned_back, put_down}
use Rattle.encode_definition.specs.Encode.{in_four}
use Rattle.encode_definition.proofs.Laws.{run_of_four}
use Rattle.encode.specs.Answers.{encode_answer}
use Rattle.roundtrip.specs.Codec.{Codec, reworded_by}
use Rattle.roundtrip.specs.Leftovers.{xor_each, or_else, zeros, leftovers_by}
use Rattle.roundtrip.proofs.LeftoverLaws.{each_zero}

-- ---- beside what a decoder answered

-- what encoding leaves of four zeros: the words, or the zeros
pub words_or_zeros : (words : Answer (List ℕ)) (said : Result ⊤ Error) (last : List ℕ) → Writes itself (in_four words zeros) zeros (encode_answer said last) last → last ≡ or_else zeros words
words_or_zeros (accepted words) (Ok u) last w = same_accepted w.says
words_or_zeros (accepted words) (Err e) last w = not_accepted w.says
words_or_zeros (refused number value) said last w = w.leaves

-- beside those, what is left over; of a refused set all of it
beside_words : (regs : List ℕ) → length regs ≡ 4 → (words : Answer (List ℕ)) → xor_each regs (or_else zeros words) ≡ or_else regs (through (xor_each regs) words)
beside_words regs l (accepted words) = refl
beside_words regs l (refused number value) = each_zero regs l

-- so what a decoder gave, handed on, and the leftovers beside it
pub beside : (c : Codec) (regs : List ℕ) → length regs ≡ 4 → {given answer : Answer c.Call} {leftovers : List ℕ} → given ≡ c.decode regs → answer ≡ given →
    leftovers ≡ xor_each regs (or_else zeros (and_then given c.words)) → (answer ≡ c.decode regs) × (leftovers ≡ leftovers_by c regs)
beside c regs l d same e = (
  same ∙ d,
  e ∙ ap (λ (x : Answer c.Call). xor_each regs (or_else zeros (and_then x c.words))) d ∙ beside_words regs l (reworded_by c regs),
)

-- ---- writing with leftovers

abbrev with_leftovers : List ℕ → Answer (List ℕ) → Answer (List ℕ)
with_leftovers leftovers words = through (λ w. xor_each w leftovers) words

-- the word at an index exclusive-or its leftover, and the four of a run
abbrev put_word : List ℕ → List ℕ → ℕ → List ℕ
put_word leftovers run i = set run i (bit_xor (get_or run i 0) (get_or leftovers i 0))

four_put : (leftovers run : List ℕ) → length run ≡ 4 → put_word leftovers (put_word leftovers (put_word leftovers (put_word leftovers run 0) 1) 2) 3 ≡ xor_each run leftovers
four_put leftovers [] h = absurd (omega arith)
four_put leftovers (p ∷ []) h = absurd (omega arith)
four_put leftovers (p ∷ q ∷ []) h = absurd (omega arith)
four_put leftovers (p ∷ q ∷ r ∷ []) h = absurd (omega arith)
four_put leftovers (p ∷ q ∷ r ∷ s ∷ []) h = refl
four_put leftovers (p ∷ q ∷ r ∷ s ∷ t ∷ u) h = absurd (omega arith)

-- what `put_back` gives, by the case that it is in
module _ (said : Result ⊤ Error) (leftovers run : List ℕ) where
  abbrev pub PutBack : Answer (List ℕ) → List ℕ → Type 0
  PutBack answer last = Writes itself (with_leftovers leftovers (in_four (encode_answer said run) run)) run answer last

  pub other_length : (length run ≡ 4 → ⊥) → PutBack (refused 17 (pos (length run))) run
  other_length h = turned_back itself (simp (ne_eqb (length run) 4 h))

  module _ (h : length run ≡ 4) where
    pub nothing_put : {number : ℕ} {value : ℤ} → encode_answer said run ≡ refused number value → PutBack (refused number value) run
    nothing_put e = turned_back itself (simp (eq-eqb (length run) 4 h, e))

    pub all_put : (last : List ℕ) → {u : ⊤} → said ≡ Ok u → last ≡ put_word leftovers (put_word leftovers (put_word leftovers (put_word leftovers run 0) 1) 2) 3 → PutBack (accepted last) last
    all_put last {u} ok e =
        let x : last ≡ xor_each run leftovers = e ∙ four_put leftovers run h in
        put_down itself (simp (eq-eqb (length run) 4 h, ok) (ap accepted (sym x))) (sym (fronted_all last run (ap length x ∙ sym h)))

-- a test made twice is made once
tested_twice : {A : Type 0} (t : Bool) (x y : A) → cond t (cond t x y) y ≡ cond t x y
tested_twice true x y = refl
tested_twice false x y = refl

-- after encoding: each word exclusive-or its leftover, or encoding's refusal
module _ (words : Answer (List ℕ)) (leftovers run mid : List ℕ) (said : Result ⊤ Error) (l : length mid ≡ length run) (first : Writes itself (in_four words run) run (encode_answer said mid) mid) where
  again : in_four (encode_answer said mid) mid ≡ in_four words run
  again =
      ap (λ (a : Answer (List ℕ)). in_four a mid) first.says
      ∙ ap (λ (n : ℕ). cond (eqb n 4) (in_four words run) (refused 17 (pos n))) l
      ∙ tested_twice (eqb (length run) 4) words (refused 17 (pos (length run)))

  -- what is written is all of the run; after a refusal of encoding the run is as it was
  same_left : (a : Answer (List ℕ)) → in_four words run ≡ a → left (with_leftovers leftovers a) mid ≡ left (with_leftovers leftovers a) run
  same_left (accepted w) e =
      let four = run_of_four words run w e in
      fronted_all (xor_each w leftovers) mid (sym (l ∙ four)) ∙ sym (fronted_all (xor_each w leftovers) run (sym four))
  same_left (refused number value) e = first.leaves ∙ ap (λ (a : Answer (List ℕ)). left a run) e

  pub put_after : (answer : Answer (List ℕ)) (last : List ℕ) → PutBack said leftovers mid answer last →
      Writes itself (with_leftovers leftovers (in_four words run)) run answer last
  put_after answer last w = record {
    says = w.says ∙ ap (with_leftovers leftovers) again;
    leaves = w.leaves ∙ ap (λ (a : Answer (List ℕ)). left (with_leftovers leftovers a) mid) again ∙ same_left (in_four words run) refl;
  }
