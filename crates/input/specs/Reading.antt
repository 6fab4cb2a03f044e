-- What reading into lent bytes promises, and what it leaves free. A reader's `read` fails or answers at most as many bytes as there are, as std's
-- trait `Read` has it; where std knows the bytes that a reader has left, as of bytes in memory, `read` gives them in their order. Of standard input it
-- knows none. There these are free: which bytes stand before the size; what the size is; and whether a read failed. Of every reader it is free which
-- bytes stand after the size, where reads may have changed them too, and when a read fails. A program that reads nothing of standard input keeps this
-- promise: that what is read is the input is seen by running.
use Rattle.std.specs.Prelude.{◌≡◌, List, ℕ, ◌≤◌, ◌<◌, length, take, Option, Result, Ok, Err, IfOk, IfErr}
use Rattle.std.specs.Io.KnownBytes.{Consumes, IsAtEnd}
use Rattle.input.specs.declared.ReadFailed.{ReadFailed}

-- how many bytes were read, before a read that failed too
abbrev pub size_read : Result ℕ ReadFailed → ℕ
size_read (Ok size) = size
size_read (Err failed) = failed.size

-- of the bytes that the reader has left before and after, where they are known, of the lent bytes before and after, and of what is given
pub record Reading (had has : Option (List ℕ)) (before after : List ℕ) (r : Result ℕ ReadFailed) : Type 0 where
  -- the lent bytes are as many as they were
  pub as_many : length after ≡ length before
  -- the size is within them
  pub within : IfOk r (λ size. size ≤ length after)
  -- a read that failed had room left to read to, behind what was read before it; so into no bytes at all no read fails
  pub room : IfErr r (λ failed. failed.size < length after)
  -- what was read stands in front, and the reader has lost just that, also where a read failed
  pub read : Consumes had has (take (size_read r) after)
  -- fewer bytes than there is room for only where the reader has no more
  pub end : IfOk r (λ size. size < length after → IsAtEnd has)
