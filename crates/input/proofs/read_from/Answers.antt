-- `input::read_from` meets its contract: what stands before the offset stays, and what was read stands behind it. Assumes nothing.
use Rattle.std.proofs.Common.{arith, length-take-le}
use borrow.Rule.Slice.PartMut.{take_put}
use Rattle.input.proofs.Onward.{read_behind}
use Rattle.input.proofs.read_from.Goals as goal

pub returns-in-Ok-clause-front : goal.returns-in-Ok-clause-front
returns-in-Ok-clause-front g c = take_put _ _ c.args.buf.now _ (omega (arith, c.requires))

pub returns-in-Ok-clause-bytes : goal.returns-in-Ok-clause-bytes
returns-in-Ok-clause-bytes g c =
    read_behind _ _ _ c.read.new.buf _ c.args.from c.in-Ok.more (length-take-le _ c.args.buf.now (omega (arith, c.requires)))
    c.in-Ok.ensures.bound.0 c.in-Ok.ensures.bytes.0

pub returns-in-Err-clause-front : goal.returns-in-Err-clause-front
returns-in-Err-clause-front g c = take_put _ _ c.args.buf.now _ (omega (arith, c.requires))
