-- The numbers of the calls that are sent, and the bytes that each carries.
use Rattle.std.specs.Prelude.{ℕ, List, [], ◌∷◌, Option, find, ◌==◌}
use Rattle.v4l_const.specs.declared.ioctl_code.IoctlCode.{IoctlCode}
use Rattle.v4l_const.specs.declared.ioctl_code.IoctlCode.TheVariants.{QueryCap, EnumFmt, GFmt, SFmt, ReqBufs, QueryBuf, QBuf, StreamOn, StreamOff, EnumInput, GInput, SInput, TryFmt, SubscribeEvent, UnsubscribeEvent}

-- Source: Linux, videodev2.h: the number within the group 'V'
abbrev pub ioctl_number : IoctlCode → ℕ
ioctl_number QueryCap = 0
ioctl_number EnumFmt = 2
ioctl_number GFmt = 4
ioctl_number SFmt = 5
ioctl_number ReqBufs = 8
ioctl_number QueryBuf = 9
ioctl_number QBuf = 15
ioctl_number StreamOn = 18
ioctl_number StreamOff = 19
ioctl_number EnumInput = 26
ioctl_number GInput = 38
ioctl_number SInput = 39
ioctl_number TryFmt = 64
ioctl_number SubscribeEvent = 90
ioctl_number UnsubscribeEvent = 91

-- the size of the record, or of the number, that the call carries both ways
-- Source: Linux, videodev2.h, at 64 bits
abbrev pub payload_size : IoctlCode → ℕ
payload_size QueryCap = 104
payload_size EnumFmt = 64
payload_size GFmt = 208
payload_size SFmt = 208
payload_size ReqBufs = 20
payload_size QueryBuf = 88
payload_size QBuf = 88
payload_size StreamOn = 4
payload_size StreamOff = 4
payload_size EnumInput = 80
payload_size GInput = 4
payload_size SInput = 4
payload_size TryFmt = 208
payload_size SubscribeEvent = 32
payload_size UnsubscribeEvent = 32

abbrev pub ioctls : List IoctlCode
ioctls =
    QueryCap ∷ EnumFmt ∷ GFmt ∷ SFmt ∷ ReqBufs ∷ QueryBuf ∷ QBuf ∷ StreamOn ∷ StreamOff ∷
    EnumInput ∷ GInput ∷ SInput ∷ TryFmt ∷ SubscribeEvent ∷ UnsubscribeEvent ∷ []

-- the call that has a number
abbrev pub ioctl_of : ℕ → Option IoctlCode
ioctl_of n = find (λ code. n == ioctl_number code) ioctls
