-- Decoding, then encoding into a lent run, by any codec; what a success leaves is read as the registers were: demand 3, of one run of the program.
-- Assumes nothing.
use mathlib.Core.Path.{◌≡◌, sym, ap, ◌∙◌}
use mathlib.Core.List.{List}
use Prim.Native.Nat.{ℕ}
use lib.IntN.{ℤ}
use lib.ListN.{length}
use borrow.Author.Tests.{eq-eqb}
use Rattle.std.specs.Prelude.{Result, Ok, Err, OnOk, ⊤}
use Rattle.answers.specs.declared.Error.{Error}
use Rattle.answers.specs.Answers.{Answer, accepted, refused, and_then}
use Rattle.answers.specs.Lent.{Writes, itself}
use Rattle.answers.proofs.Answering.{same_accepted, came_then}
use Rattle.answers.proofs.Lending.{turned_back, writes_as}
use Rattle.encode_definition.proofs.Laws.{run_of_four}
use Rattle.encode.specs.Answers.{encode_answer}
use Rattle.roundtrip.specs.Codec.{Codec, encode_by, reworded_by, recode_by, Registers, Demand3}

module _ (c : Codec) (regs run : List ℕ) where
  -- for a run of four, recoding gives the call's words
  pub in_words : length run ≡ 4 → recode_by c regs run ≡ reworded_by c regs
  in_words l = simp (eq-eqb (length run) 4 l)

  -- a call that was decoded: what encoding it says and leaves
  pub encoded : (f : c.Call) (r : Result ⊤ Error) (last : List ℕ) → c.decode regs ≡ accepted f →
      Writes itself (encode_by c f run) run (encode_answer r last) last → Writes itself (recode_by c regs run) run (encode_answer r last) last
  encoded f r last d e = writes_as itself (sym (ap (λ (x : Answer c.Call). and_then x (λ g. encode_by c g run)) d)) e

  -- registers that are refused: the refusal is the answer, and the run stays
  pub not_decoded : {number : ℕ} {value : ℤ} → c.decode regs ≡ refused number value → Writes itself (recode_by c regs run) run (refused number value) run
  not_decoded e = turned_back itself (ap (λ (x : Answer c.Call). and_then x (λ g. encode_by c g run)) e)

  -- a run that was written is read again as the registers were, by a codec of which demand 3 holds
  pub read_again : Demand3 c → (r : Result ⊤ Error) (last : List ℕ) → Registers regs →
      Writes itself (recode_by c regs run) run (encode_answer r last) last → OnOk r (c.decode last ≡ c.decode regs)
  read_again d3 (Err error) last h e = tt
  read_again d3 (Ok u) last h e =
      let o = came_then (c.decode regs) (λ f. encode_by c f run) last (sym e.says) in
      let one = d3.of_one regs o.0 h o.1.0 run (run_of_four (c.words o.0) run last o.1.1) in
      ap c.decode (same_accepted (sym o.1.1 ∙ one.written)) ∙ one.again ∙ sym o.1.0
