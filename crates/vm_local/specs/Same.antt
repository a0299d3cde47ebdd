-- When two replies are the same, and what is free in a reply.
use Rattle.std.specs.Prelude.{ℕ, Bool, true, false, ◌==◌, ◌&&◌}
use Rattle.std.specs.Str.{bytes_eq}
use Rattle.v4l_const.specs.Errno.{errno_number}
use Rattle.v4l_format.specs.declared.fmt.Fmt.{Fmt}
use Rattle.vm_local.specs.declared.reply.Reply.{Reply}
use Rattle.vm_local.specs.declared.reply.Reply.TheVariants.{Done, Refused, Caps, Code, Format, InputName, InputIs, Count, Buf, Pages, Frame, Mapped, Bytes, Digest, Event}

abbrev pub same_format : Fmt → Fmt → Bool
same_format f g = (f.code.0 == g.code.0) && ((f.width == g.width) && (f.height == g.height))

-- two replies are the same: of one kind, with the same in each field
abbrev pub same_reply : Reply → Reply → Bool
same_reply Done Done = true
same_reply (Refused e) (Refused e') = errno_number e == errno_number e'
same_reply (Caps all device) (Caps all' device') = (all == all') && (device == device')
same_reply (Code f) (Code f') = f.0 == f'.0
same_reply (Format f line size) (Format f' line' size') =
    same_format f f' && ((line == line') && (size == size'))
same_reply (InputName i) (InputName i') = i == i'
same_reply (InputIs i) (InputIs i') = i == i'
same_reply (Count n) (Count n') = n == n'
same_reply (Buf len flags) (Buf len' flags') = (len == len') && (flags == flags')
same_reply (Pages n) (Pages n') = n == n'
same_reply (Frame i used seq ts flags) (Frame i' used' seq' ts' flags') =
    (i == i') && ((used == used') && ((seq == seq') && ((ts == ts') && (flags == flags'))))
same_reply (Mapped addr len) (Mapped addr' len') = (addr == addr') && (len == len')
same_reply (Bytes bytes) (Bytes bytes') = bytes_eq bytes bytes'
same_reply (Digest digest) (Digest digest') = bytes_eq digest digest'
same_reply (Event kind frame pending seq) (Event kind' frame' pending' seq') =
    (kind == kind') && ((frame == frame') && ((pending == pending') && (seq == seq')))
same_reply reply other = false

-- the address in a reply: it is free
abbrev pub address_in : Reply → ℕ
address_in (Mapped addr len) = addr
address_in reply = 0
