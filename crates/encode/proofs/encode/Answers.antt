-- `encode::encode` meets its contract: the refusals in their order, and then the writing. Assumes nothing.
use mathlib.Core.Path.{sym, ap, ◌∙◌}
use Rattle.answers.specs.Lent.{itself}
use Rattle.answers.proofs.Lending.{writes_as}
use Rattle.answers.specs.Errors.{answered}
use Rattle.std.proofs.lemmas.Result.{err_from_is_err_and}
use Rattle.encode_definition.specs.Encode.{words_by}
use Rattle.encode_definition.proofs.Laws.{written_call, no_number, of_parts}
use Rattle.encode.proofs.encode.Goals as goal

pub returns-in_err-function_id : goal.returns-in_err-function_id
returns-in_err-function_id g c =
    let passed = err_from_is_err_and c.from_residual.result c.from_residual.ensures.1 in
    record {
      writes =
          rw (passed.1, passed.2)
          (writes_as itself (written_call g.S.StateFormat.write _ _) (no_number _ _ _ c.if-length-ne-RUN.false (sym c.function_id.ensures ∙ ap answered c.in_err-function_id.was)));
    }

pub returns : goal.returns
unfolding words_by
returns g c =
    let number = sym c.function_id.ensures ∙ ap answered c.in_ok-function_id.was in
    record { writes = of_parts number (sym c.argument_words.ensures) c.write_numbered.ensures.writes }
