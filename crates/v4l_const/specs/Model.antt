-- What the model of a device decides.
use Rattle.std.specs.Prelude.{ℕ, ◌+◌, Bool, true, false, List, [], ◌∷◌, Option, Some, None, codes, if◌then◌else◌}
use Rattle.v4l_const.specs.declared.model.Model.{Model}
use Rattle.v4l_const.specs.declared.model.Model.TheVariants.{Capture, Convert}
use Rattle.v4l_const.specs.declared.numbers.TheConstants.{BUF_TYPE_CAPTURE, BUF_TYPE_OUTPUT, BUF_CAP_MMAP, BUF_CAP_USERPTR, BUF_CAP_ORPHANED_BUFS}
use Rattle.v4l_const.specs.BufFlags.{monotonic_flag, copy_flag}
use Rattle.v4l_const.specs.Caps.{video_capture_cap, video_m2m_cap, streaming_cap, device_caps_cap}

-- the buffer types of its queues, in the order in which the buffers of one frame are given back
-- (own)
abbrev pub queues : Model → List ℕ
queues Capture = BUF_TYPE_CAPTURE ∷ []
queues Convert = BUF_TYPE_OUTPUT ∷ BUF_TYPE_CAPTURE ∷ []

-- the queue whose buffers it reads (own)
abbrev pub source_queue : Model → Option ℕ
source_queue Capture = None
source_queue Convert = Some BUF_TYPE_OUTPUT

-- the queue whose buffers take its pictures (own)
abbrev pub picture_queue : Model → ℕ
picture_queue Capture = BUF_TYPE_CAPTURE
picture_queue Convert = BUF_TYPE_CAPTURE

-- its name (own)
abbrev pub card : Model → List ℕ
card Capture = codes "vmedia capture"
card Convert = codes "vmedia convert"

-- what it can do
abbrev pub device_capabilities : Model → ℕ
device_capabilities Capture = video_capture_cap + streaming_cap
device_capabilities Convert = video_m2m_cap + streaming_cap

-- the same, with the mark that it stands apart
abbrev pub capabilities : Model → ℕ
capabilities m = device_caps_cap + device_capabilities m

-- what its queues can do
abbrev pub buffer_capabilities : Model → ℕ
buffer_capabilities Capture = BUF_CAP_MMAP + BUF_CAP_USERPTR + BUF_CAP_ORPHANED_BUFS
buffer_capabilities Convert = BUF_CAP_MMAP + BUF_CAP_USERPTR + BUF_CAP_ORPHANED_BUFS

-- whether a picture's timestamp is that of its source picture (own)
abbrev pub copies_timestamps : Model → Bool
copies_timestamps Capture = false
copies_timestamps Convert = true

-- the flag that says where its timestamps come from
abbrev pub timestamp_flag : Model → ℕ
timestamp_flag m = if copies_timestamps m then copy_flag else monotonic_flag

-- whether it has inputs to choose from (own)
abbrev pub has_inputs : Model → Bool
has_inputs Capture = true
has_inputs Convert = false

-- whether it has events to subscribe to (own)
abbrev pub has_events : Model → Bool
has_events Capture = true
has_events Convert = false
