-- What is said over the link, seen without pages, tables or heads.
use Rattle.std.specs.Prelude.{ℕ, List, Option, Result}
use Rattle.v4l_const.specs.declared.errno.Errno.{Errno}
use Rattle.v4l_const.specs.declared.errno.Errno.TheVariants.{Einval, Enotty, Emsgsize, Eopnotsupp}
use Rattle.vm_frame.specs.declared.mem.Held.{Held}
use Rattle.vm_wire.specs.declared.command.CmdFault.{CmdFault}
use Rattle.vm_wire.specs.declared.command.CmdFault.TheVariants.{Short, UnknownCmd, UnknownIoctl, Room}
use Rattle.vm_wire.specs.declared.command.Command.{Command}

-- what a chain on the queue of commands asks: nothing that can be answered, since its table has a
-- fault or there is no room for a status; or else the command that its bytes spell, or their first
-- fault
pub data Ask : Type 0 where
  Unusable : Ask
  Judged : Result Command CmdFault → Ask

-- a chain that waits for the device: who posted it, and what it asks
pub record Request : Type 0 where
  pub who : ℕ
  pub asks : Ask

-- a chain that the device has finished: who posted it, and the bytes that the device wrote
pub record Reply : Type 0 where
  pub who : ℕ
  pub bytes : List ℕ

-- what a chain on the queue of commands brings: its request, the bytes behind its command, and its
-- memories
pub record Posting : Type 0 where
  pub request : Request
  pub behind : List ℕ
  pub held : List Held

-- what goes back: a reply, and memories
pub record Returning : Type 0 where
  pub reply : Reply
  pub held : List Held

-- what a command that is no command is refused with
abbrev pub errno_of_fault : CmdFault → Errno
errno_of_fault Short = Einval
errno_of_fault UnknownCmd = Eopnotsupp
errno_of_fault UnknownIoctl = Enotty
errno_of_fault Room = Emsgsize
