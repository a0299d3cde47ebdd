-- The bits of a buffer's flags.
-- Source: Linux V4L2, "Buffer Flags"
use Rattle.std.specs.Prelude.{ℕ}

abbrev pub mapped_flag : ℕ
mapped_flag = 0x1

abbrev pub queued_flag : ℕ
queued_flag = 0x2

abbrev pub done_flag : ℕ
done_flag = 0x4

abbrev pub error_flag : ℕ
error_flag = 0x40

abbrev pub monotonic_flag : ℕ
monotonic_flag = 0x2000

abbrev pub copy_flag : ℕ
copy_flag = 0x4000
