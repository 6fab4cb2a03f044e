-- The cases of writing a call in the order of its refusals, and what each leaves in the run. Assumes nothing.
use mathlib.Core.Path.{◌≡◌, refl, sym, ap, ◌∙◌}
use mathlib.Core.List.{List, ◌∷◌}
use Prim.Native.Nat.{ℕ, suc}
use lib.Dec.{eqb}
use lib.IntN.{ℤ, pos}
use lib.ListN.{length}
use borrow.Author.Tests.{eqb-true, eq-eqb, ne_eqb}
use Rattle.answers.specs.Answers.{Answer, accepted, refused}
use Rattle.answers.specs.Lent.{Writes, itself}
use Rattle.answers.proofs.Answering.{handed_on, came_through}
use Rattle.answers.proofs.Lending.{fronted_all, turned_back, put_down}
use Rattle.function_ids.specs.FunctionIds.{function_number}
use Rattle.function_ids.specs.declared.FunctionId.{FunctionId}
use Rattle.function.specs.Functions.{function_id_of}
use Rattle.function.specs.declared.Call.{Call}
use Rattle.encode_definition.specs.Arguments.{fields_of, three, arguments_by}
use Rattle.encode_definition.specs.Encode.{with_number, in_four, written_of, words_by}

-- what is accepted for a run is accepted for a run of four
pub run_of_four : (words : Answer (List ℕ)) (run four : List ℕ) → in_four words run ≡ accepted four → length run ≡ 4
run_of_four words run four e = eqb-true (length run) 4 (handed_on (eqb (length run) 4) words four 17 (pos (length run)) e).0

-- encoding is the writing of a call's number and arguments
pub written_call : {S : Type 0} (write : S → Answer ℕ) (f : Call S) (run : List ℕ) → written_of (function_id_of f) (arguments_by write f) run ≡ in_four (words_by write f) run
unfolding written_of words_by
written_call write f run = refl

-- a call's arguments are three
pub three_arguments : {S : Type 0} (write : S → Answer ℕ) (f : Call S) (words : List ℕ) → arguments_by write f ≡ accepted words → length words ≡ 3
unfolding arguments_by
three_arguments write f words e = let fields = came_through three (fields_of write f) words e in ap length (sym fields.1.1)

module _ (number : Answer FunctionId) (arguments : Answer (List ℕ)) (run : List ℕ) where
  -- what a writing says, and what it leaves in the run
  abbrev pub Gives : Answer (List ℕ) → List ℕ → Type 0
  Gives answer last = Writes itself (written_of number arguments run) run answer last

  -- another length is refused first
  pub wrong_length : (length run ≡ 4 → ⊥) → Gives (refused 17 (pos (length run))) run
  unfolding written_of
  wrong_length h = turned_back itself (simp (ne_eqb (length run) 4 h))

  module _ (h : length run ≡ 4) where
    pub no_number : {n : ℕ} {value : ℤ} → number ≡ refused n value → Gives (refused n value) run
    unfolding written_of
    no_number i = turned_back itself (simp (eq-eqb (length run) 4 h, i))

    module _ {id : FunctionId} (i : number ≡ accepted id) where
      pub no_arguments : {n : ℕ} {value : ℤ} → arguments ≡ refused n value → Gives (refused n value) run
      unfolding written_of
      no_arguments j = turned_back itself (simp (eq-eqb (length run) 4 h, i, j))

      -- the words are four as the run is, and so all that is left in it
      pub all_left : {words last : List ℕ} → arguments ≡ accepted words → length words ≡ 3 → last ≡ function_number id ∷ words → Gives (accepted last) last
      unfolding written_of
      all_left {words} {last} j three e =
          put_down itself (simp (eq-eqb (length run) 4 h, i, j, e)) (sym (fronted_all last run (ap length e ∙ ap suc three ∙ sym h)))

-- what is written of a number that is sure and of arguments is written of a call that has them
pub of_parts : {number : Answer FunctionId} {arguments given : Answer (List ℕ)} {id : FunctionId} {run last : List ℕ} {said : Answer (List ℕ)} →
    number ≡ accepted id → arguments ≡ given → Writes itself (written_of (accepted id) given run) run said last →
    Writes itself (in_four (with_number number arguments) run) run said last
unfolding written_of
of_parts i a e = simp (i, a) e
