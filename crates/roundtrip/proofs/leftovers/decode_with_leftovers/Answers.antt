-- `leftovers::decode_with_leftovers` meets its contract. Assumes nothing.
use mathlib.Core.Path.{refl, ap, ◌∙◌}
use borrow.Author.Rules.{rules}
use Rattle.roundtrip.specs.Codec.{codec_of}
use Rattle.roundtrip.specs.Leftovers.{xor_each}
use Rattle.roundtrip.proofs.PuttingBack.{beside}
use Rattle.roundtrip.proofs.leftovers.decode_with_leftovers.Goals as goal

pub returns-clause-leftovers : goal.returns-clause-leftovers
returns-clause-leftovers g c =
    let codec = codec_of g.C.Codec.decoding g.C.Codec.words g.C.Codec.look in
    (beside codec c.args.regs (search rules) c.decode-answer.ensures.decodes refl (c.xor_each-leftovers.ensures ∙ ap (xor_each c.args.regs) c.words_or_zeros.ensures)).1
