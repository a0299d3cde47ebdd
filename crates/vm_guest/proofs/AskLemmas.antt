-- The lines that a reader gives are ones for the driver, and a refusal tells its errno.
use Rattle.std.proofs.Common.{◌≡◌, ℕ, ◌≤◌, ◌<◌, ◌^◌, Bool, true, false, List, [], ◌∷◌, Some, All, length, refl, ap, ◌∙◌, arith}
use Rattle.std.proofs.lemmas.List.Elements.{All-weaker}
use Rattle.std.proofs.lemmas.Nat.{from_le_bytes-to_le_bytes_4}
use Rattle.v4l_const.specs.Errno.{errno_number, errno_of}
use Rattle.v4l_const.specs.declared.errno.Errno.{Errno}
use Rattle.v4l_const.specs.declared.errno.Errno.TheVariants.{Enoent, Eio, Ebadf, Eagain, Enomem, Eacces, Efault, Ebusy, Einval, Enotty, Edeadlk, Emsgsize, Eopnotsupp}
use Rattle.vm_local.specs.declared.call.Call.{Call}
use Rattle.vm_local.specs.declared.call.Call.TheVariants.{OpenHandle, CloseHandle, QueryCap, EnumFmt, GFmt, TryFmt, SFmt, EnumInput, GInput, SInput, ReqBufs, QueryBuf, UAlloc, QBuf, StreamOn, StreamOff, DqBuf, Mmap, Munmap, Peek, Hash, Poke, Fill, Subscribe, Unsubscribe, DqEvent}
use Rattle.vm_log.specs.Answers.{AsksFew}
use Rattle.vm_script.specs.Reading.{InRange, IsReadKind, IsReadLine, IsReadProcess, opens, opens_in}
use Rattle.vm_script.specs.Script.{ProcessLines}
use Rattle.vm_script.specs.declared.line.Line.{Line}
use Rattle.vm_script.specs.declared.line.LineKind.{LineKind}
use Rattle.vm_script.specs.declared.line.LineKind.TheVariants.{OnHandle, Raw}
use Rattle.vm_wire.specs.Wire.{response_bytes}
use Rattle.vm_wire.specs.declared.response.Response.TheVariants.{Refused}
use Rattle.vm_guest.specs.Orderly.{IsFitKind, IsFitProcess}
use Rattle.vm_guest.specs.Raw.{errno_told}

-- a read that is read asks for few bytes
asks_few : (call : Call) → InRange call → AsksFew call
asks_few (Peek m off len) range = range.3
asks_few (OpenHandle nonblock) range = tt
asks_few CloseHandle range = tt
asks_few QueryCap range = tt
asks_few (EnumFmt t i) range = tt
asks_few (GFmt t) range = tt
asks_few (TryFmt t f w h) range = tt
asks_few (SFmt t f w h) range = tt
asks_few (EnumInput i) range = tt
asks_few GInput range = tt
asks_few (SInput i) range = tt
asks_few (ReqBufs t m n) range = tt
asks_few (QueryBuf t i) range = tt
asks_few (UAlloc u len off) range = tt
asks_few (QBuf t i user used ts) range = tt
asks_few (StreamOn t) range = tt
asks_few (StreamOff t) range = tt
asks_few (DqBuf t) range = tt
asks_few (Mmap m t i ro) range = tt
asks_few (Munmap m) range = tt
asks_few (Hash m) range = tt
asks_few (Poke m off bytes) range = tt
asks_few (Fill m seed) range = tt
asks_few (Subscribe e) range = tt
asks_few (Unsubscribe e) range = tt
asks_few DqEvent range = tt

read_kind_fits : (names : List (List ℕ)) (echo : List ℕ) (what : LineKind) → IsReadKind names echo what → IsFitKind (length names) what
read_kind_fits names echo (OnHandle h call) read = (read.within, asks_few call read.range)
read_kind_fits names echo (Raw chain) read = absurd read

-- a line opens one handle at most
opens_few : (what : LineKind) → opens what ≤ 1
opens_few (OnHandle h (OpenHandle nonblock)) = omega arith
opens_few (OnHandle h CloseHandle) = omega arith
opens_few (OnHandle h QueryCap) = omega arith
opens_few (OnHandle h (EnumFmt t i)) = omega arith
opens_few (OnHandle h (GFmt t)) = omega arith
opens_few (OnHandle h (TryFmt t f w n)) = omega arith
opens_few (OnHandle h (SFmt t f w n)) = omega arith
opens_few (OnHandle h (EnumInput i)) = omega arith
opens_few (OnHandle h GInput) = omega arith
opens_few (OnHandle h (SInput i)) = omega arith
opens_few (OnHandle h (ReqBufs t m n)) = omega arith
opens_few (OnHandle h (QueryBuf t i)) = omega arith
opens_few (OnHandle h (UAlloc u len off)) = omega arith
opens_few (OnHandle h (QBuf t i user used ts)) = omega arith
opens_few (OnHandle h (StreamOn t)) = omega arith
opens_few (OnHandle h (StreamOff t)) = omega arith
opens_few (OnHandle h (DqBuf t)) = omega arith
opens_few (OnHandle h (Mmap m t i ro)) = omega arith
opens_few (OnHandle h (Munmap m)) = omega arith
opens_few (OnHandle h (Peek m off len)) = omega arith
opens_few (OnHandle h (Hash m)) = omega arith
opens_few (OnHandle h (Poke m off bytes)) = omega arith
opens_few (OnHandle h (Fill m seed)) = omega arith
opens_few (OnHandle h (Subscribe e)) = omega arith
opens_few (OnHandle h (Unsubscribe e)) = omega arith
opens_few (OnHandle h DqEvent) = omega arith
opens_few (Raw chain) = omega arith

opens_in_few : (ls : List Line) → opens_in ls ≤ length ls
opens_in_few [] = omega arith
opens_in_few (l ∷ ls) = let rest = opens_in_few ls in let here = opens_few l.what in omega (arith, rest, here)

-- a process that is read is one for the driver
pub read_fits : (p : ProcessLines) → IsReadProcess p → IsFitProcess p
read_fits p read = record {
  limit = read.limit;
  named = let few = opens_in_few p.lines in let opened = read.opened in omega (arith, few, opened);
  each = All-weaker (IsReadLine p.handles) (λ (l : Line). IsFitKind (length p.handles) l.what)
      (λ l is. read_kind_fits p.handles l.echo l.what is.what) p.lines read.each;
}

-- the bytes of a refusal tell the errno with its number
number_told : (n : ℕ) → n < 2 ^ 32 → errno_told (response_bytes (Refused n)) ≡ errno_of n
number_told n small = ap errno_of (from_le_bytes-to_le_bytes_4 n small)

errno_small : (e : Errno) → errno_number e < 2 ^ 32
errno_small Enoent = omega arith
errno_small Eio = omega arith
errno_small Ebadf = omega arith
errno_small Eagain = omega arith
errno_small Enomem = omega arith
errno_small Eacces = omega arith
errno_small Efault = omega arith
errno_small Ebusy = omega arith
errno_small Einval = omega arith
errno_small Enotty = omega arith
errno_small Edeadlk = omega arith
errno_small Emsgsize = omega arith
errno_small Eopnotsupp = omega arith

errno_again : (e : Errno) → errno_of (errno_number e) ≡ Some e
errno_again Enoent = refl
errno_again Eio = refl
errno_again Ebadf = refl
errno_again Eagain = refl
errno_again Enomem = refl
errno_again Eacces = refl
errno_again Efault = refl
errno_again Ebusy = refl
errno_again Einval = refl
errno_again Enotty = refl
errno_again Edeadlk = refl
errno_again Emsgsize = refl
errno_again Eopnotsupp = refl

-- a refusal tells its errno
pub refusal_told : (e : Errno) → errno_told (response_bytes (Refused (errno_number e))) ≡ Some e
refusal_told e = number_told (errno_number e) (errno_small e) ∙ errno_again e
