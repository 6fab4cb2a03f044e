-- `leftover_exports::decode_both` meets its contract. Assumes nothing.
use mathlib.Core.Path.{sym, ap, ◌∙◌}
use borrow.Author.Rules.{rules}
use Rattle.roundtrip.specs.Codec.{codec_of}
use Rattle.roundtrip.specs.Leftovers.{xor_each}
use Rattle.leftover_exports.proofs.Laws.{told_ignored}
use Rattle.leftover_exports.proofs.decode_both.Goals as goal

pub returns-in-Ok-clause-leftovers : goal.returns-in-Ok-clause-leftovers
returns-in-Ok-clause-leftovers g c =
    told_ignored (codec_of g.C.Codec.decoding g.C.Codec.words g.C.Codec.look) c.decode.ensures.demand3 c.args.regs.now (search rules) c.in-Ok.function
    (sym c.in-Ok.ensures.decodes) (search rules) c.accepted_words.ensures (c.xor_each.ensures ∙ ap (xor_each c.args.regs.now) c.words_of.ensures)
