-- `encode::write_numbered` meets its contract: the refusals in their order, and then the four words. Assumes nothing.
use mathlib.Core.Path.{refl, sym, ap, ◌∙◌}
use borrow.Author.Rules.{rules}
use Rattle.std.proofs.lemmas.Result.{err_from_is_err_and}
use Rattle.encode_definition.proofs.Laws.{wrong_length, no_arguments, all_left}
use Rattle.encode.specs.ArgumentAnswers.{arguments_answer}
use Rattle.encode.proofs.write_numbered.Goals as goal

pub returns-then-length-ne-RUN : goal.returns-then-length-ne-RUN
returns-then-length-ne-RUN c = record { writes = wrong_length _ _ _ c.if-length-ne-RUN.true }

pub returns-in_err-arguments : goal.returns-in_err-arguments
returns-in_err-arguments c =
    let passed = err_from_is_err_and c.from_residual.result c.from_residual.ensures.1 in
    record { writes = rw (passed.1, passed.2) (no_arguments _ _ _ (search rules) refl (ap arguments_answer c.in_err-arguments.was)) }

pub returns : goal.returns
returns c =
    record { writes = all_left _ _ _ (search rules) refl (ap arguments_answer c.in_ok-arguments.was) refl (rw (sym c.requires) (c.store.ensures ∙ c.words.ensures)) }
