-- `decode::decode_smccc` meets its contract: document 01's decoder on the set with r1's low half for memory protect. Assumes nothing.
use mathlib.Core.Path.{sym, ap, ◌∙◌}
use Rattle.decode_definition.specs.Decode.{decode_of}
use Rattle.decode_definition.proofs.TwoDecodings.{by_01}
use Rattle.decode.proofs.decode_smccc.Goals as goal

pub returns : goal.returns
returns c = c.decode.ensures ∙ ap decode_of c.low_half_for_protect.ensures ∙ sym (by_01 c.args.regs)
