-- `leftover_exports::psci_encode_with_leftovers` meets its contract: what encoding said of the call that was asked for is told. Assumes nothing.
use mathlib.Core.Path.{◌≡◌, refl, ap, ◌∙◌}
use mathlib.Core.List.{List}
use Prim.Native.Nat.{ℕ}
use Rattle.std.specs.Prelude.{Result, Ok, Err, ⊤}
use Rattle.answers.specs.Answers.{Answer, and_then}
use Rattle.answers.specs.Errors.{answered}
use Rattle.answers.specs.Lent.{itself}
use Rattle.answers.specs.Told.{refusal_in}
use Rattle.answers.specs.declared.Error.{Error}
use Rattle.answers.proofs.Lending.{writes_as}
use Rattle.answers.proofs.Telling.{retold}
use Rattle.encode.specs.Answers.{encode_answer}
use Rattle.function.specs.Functions.{Function}
use Rattle.roundtrip.specs.Document01.{document01}
use Rattle.roundtrip.specs.Leftovers.{encode_with_by}
use Rattle.leftover_exports.proofs.psci_encode_with_leftovers.Goals as goal

told_alike : (said : Result ⊤ Error) (last : List ℕ) → refusal_in (answered said) ≡ refusal_in (encode_answer said last)
told_alike (Ok u) last = refl
told_alike (Err e) last = refl

pub returns-in-Ok : goal.returns-in-Ok
returns-in-Ok c = record {
  writes =
      retold
      (writes_as itself (ap (λ (x : Answer Function). and_then x (λ f. encode_with_by document01 f c.args.leftovers.now c.args.out.now)) c.in-Ok.ensures)
      c.encode_with_leftovers.ensures.writes)
      (c.from.ensures ∙ told_alike c.encode_with_leftovers.result c.encode_with_leftovers.new.out);
}
