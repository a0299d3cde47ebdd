-- How many bytes a call carries.
use Rattle.std.specs.Prelude.{ℕ, ◌≡◌, List, length}
use Rattle.v4l_const.specs.IoctlCode.{payload_size}
use Rattle.v4l_const.specs.declared.ioctl_code.IoctlCode.{IoctlCode}

-- How many bytes a call needs for its payload, which these bytes begin with: those of its record or
-- number. The record of a call has one size, whatever the type in it is.
abbrev pub payload_need : IoctlCode → List ℕ → ℕ
payload_need code bytes = payload_size code

-- the payload has just the bytes that its call, and the type in it, need
abbrev pub HasItsLength : IoctlCode → List ℕ → Type 0
HasItsLength code payload = length payload ≡ payload_need code payload
