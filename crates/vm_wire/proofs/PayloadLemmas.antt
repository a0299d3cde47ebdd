-- How many bytes a call carries: read from the front of longer bytes, it is the same.
use Rattle.std.proofs.Common.{◌≡◌, ℕ, ◌≤◌, ◌++◌, List, length, take, sym}
use Rattle.std.proofs.lemmas.List.{length-take-le}
use Rattle.v4l_const.specs.declared.ioctl_code.IoctlCode.{IoctlCode}
use Rattle.vm_wire.specs.Payload.{payload_need, HasItsLength}
use Rattle.vm_wire.proofs.CodeLemmas.{size_fits}

-- a payload with bytes behind it needs its own
pub need_before : (code : IoctlCode) (payload behind : List ℕ) → HasItsLength code payload → payload_need code (payload ++ behind) ≡ length payload
need_before code payload behind sized = sym sized

-- the bytes that are needed of longer ones are a payload of its length
pub need_of_front : (code : IoctlCode) (bytes : List ℕ) → payload_need code bytes ≤ length bytes → HasItsLength code (take (payload_need code bytes) bytes)
need_of_front code bytes long = length-take-le (payload_need code bytes) bytes long

-- no payload is longer than a format's
pub need_fits : (code : IoctlCode) (bytes : List ℕ) → payload_need code bytes ≤ 208
need_fits code bytes = size_fits code
