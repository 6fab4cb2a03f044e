-- `input::read_all` meets its contract: each read goes on where the last ended. Assumes nothing.
use borrow.Author.Rules.{rules}
use Rattle.input.proofs.Onward.{read_on}
use Rattle.input.proofs.read_all.Goals as goal

pub loop-size-preserved : goal.loop-size-preserved
loop-size-preserved g c =
    let read = c.in_ok-next.ensures in
    (search rules, read_on _ _ _ c.loop-size.buf _ c.loop-size.size _ read.onward read.front c.loop-size.invariant.1 read.bytes)
