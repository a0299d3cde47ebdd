-- The records: the size of each, and at which offset each of its fields stands.
-- Source: Linux V4L2, videodev2.h, at 64 bits
use Rattle.std.specs.Prelude.{ℕ, List, [], ◌∷◌}
use Rattle.v4l_layout.specs.declared.field.Field.{Field}
use Rattle.v4l_layout.specs.declared.field.Value.{Value}
use Rattle.v4l_layout.specs.declared.field.Value.TheVariants.{Le32, Le64, Bytes16, Bytes32, Bytes64}
use Rattle.v4l_layout.specs.declared.capability.Capability.{Capability}
use Rattle.v4l_layout.specs.declared.fmt_desc.FmtDesc.{FmtDesc}
use Rattle.v4l_layout.specs.declared.format_rec.FormatRec.{FormatRec}
use Rattle.v4l_layout.specs.declared.request_buffers.RequestBuffers.{RequestBuffers}
use Rattle.v4l_layout.specs.declared.buffer_rec.BufferRec.{BufferRec}
use Rattle.v4l_layout.specs.declared.plane_rec.PlaneRec.{PlaneRec}
use Rattle.v4l_layout.specs.declared.event_rec.EventRec.{EventRec}
use Rattle.v4l_layout.specs.declared.subscription.Subscription.{Subscription}
use Rattle.v4l_layout.specs.declared.input_rec.InputRec.{InputRec}
use Rattle.v4l_layout.specs.Layout.{layout_bytes}

-- a value at an offset
abbrev pub place : ℕ → Value → Field
place at value = record { at = at; value = value }

-- struct v4l2_capability
abbrev pub capability_size : ℕ
capability_size = 104

unfoldable pub capability_fields : Capability → List Field
capability_fields r =
    place 0 (Bytes16 r.driver)
    ∷ place 16 (Bytes32 r.card)
    ∷ place 48 (Bytes32 r.bus_info)
    ∷ place 80 (Le32 r.version)
    ∷ place 84 (Le32 r.capabilities)
    ∷ place 88 (Le32 r.device_caps)
    ∷ []

abbrev pub capability_bytes : Capability → List ℕ
capability_bytes r = layout_bytes capability_size (capability_fields r)

-- struct v4l2_fmtdesc
abbrev pub fmtdesc_size : ℕ
fmtdesc_size = 64

unfoldable pub fmtdesc_fields : FmtDesc → List Field
fmtdesc_fields r =
    place 0 (Le32 r.index)
    ∷ place 4 (Le32 r.kind)
    ∷ place 8 (Le32 r.flags)
    ∷ place 12 (Bytes32 r.description)
    ∷ place 44 (Le32 r.pixelformat)
    ∷ []

abbrev pub fmtdesc_bytes : FmtDesc → List ℕ
fmtdesc_bytes r = layout_bytes fmtdesc_size (fmtdesc_fields r)

-- struct v4l2_format with struct v4l2_pix_format at 8
abbrev pub format_size : ℕ
format_size = 208

unfoldable pub format_fields : FormatRec → List Field
format_fields r =
    place 0 (Le32 r.kind)
    ∷ place 8 (Le32 r.width)
    ∷ place 12 (Le32 r.height)
    ∷ place 16 (Le32 r.pixelformat)
    ∷ place 20 (Le32 r.field)
    ∷ place 24 (Le32 r.bytesperline)
    ∷ place 28 (Le32 r.sizeimage)
    ∷ []

abbrev pub format_bytes : FormatRec → List ℕ
format_bytes r = layout_bytes format_size (format_fields r)

-- struct v4l2_requestbuffers
abbrev pub request_size : ℕ
request_size = 20

unfoldable pub request_fields : RequestBuffers → List Field
request_fields r =
    place 0 (Le32 r.count)
    ∷ place 4 (Le32 r.kind)
    ∷ place 8 (Le32 r.memory)
    ∷ place 12 (Le32 r.capabilities)
    ∷ []

abbrev pub request_bytes : RequestBuffers → List ℕ
request_bytes r = layout_bytes request_size (request_fields r)

-- struct v4l2_buffer
abbrev pub buffer_size : ℕ
buffer_size = 88

unfoldable pub buffer_fields : BufferRec → List Field
buffer_fields r =
    place 0 (Le32 r.index)
    ∷ place 4 (Le32 r.kind)
    ∷ place 8 (Le32 r.bytesused)
    ∷ place 12 (Le32 r.flags)
    ∷ place 16 (Le32 r.field)
    ∷ place 24 (Le64 r.seconds)
    ∷ place 32 (Le64 r.micros)
    ∷ place 40 (Bytes16 r.timecode)
    ∷ place 56 (Le32 r.sequence)
    ∷ place 60 (Le32 r.memory)
    ∷ place 64 (Le64 r.m)
    ∷ place 72 (Le32 r.length)
    ∷ place 76 (Le32 r.reserved2)
    ∷ place 80 (Le32 r.request_fd)
    ∷ []

abbrev pub buffer_bytes : BufferRec → List ℕ
buffer_bytes r = layout_bytes buffer_size (buffer_fields r)

-- struct v4l2_plane
abbrev pub plane_size : ℕ
plane_size = 64

unfoldable pub plane_fields : PlaneRec → List Field
plane_fields r =
    place 0 (Le32 r.bytesused)
    ∷ place 4 (Le32 r.length)
    ∷ place 8 (Le64 r.m)
    ∷ place 16 (Le32 r.data_offset)
    ∷ []

abbrev pub plane_bytes : PlaneRec → List ℕ
plane_bytes r = layout_bytes plane_size (plane_fields r)

-- struct v4l2_event
abbrev pub event_size : ℕ
event_size = 136

unfoldable pub event_fields : EventRec → List Field
event_fields r =
    place 0 (Le32 r.kind)
    ∷ place 8 (Bytes64 r.u)
    ∷ place 72 (Le32 r.pending)
    ∷ place 76 (Le32 r.sequence)
    ∷ place 80 (Le64 r.seconds)
    ∷ place 88 (Le64 r.nanos)
    ∷ place 96 (Le32 r.id)
    ∷ []

abbrev pub event_bytes : EventRec → List ℕ
event_bytes r = layout_bytes event_size (event_fields r)

-- struct v4l2_event_subscription
abbrev pub subscription_size : ℕ
subscription_size = 32

unfoldable pub subscription_fields : Subscription → List Field
subscription_fields r =
    place 0 (Le32 r.kind)
    ∷ place 4 (Le32 r.id)
    ∷ place 8 (Le32 r.flags)
    ∷ []

abbrev pub subscription_bytes : Subscription → List ℕ
subscription_bytes r = layout_bytes subscription_size (subscription_fields r)

-- struct v4l2_input
abbrev pub input_size : ℕ
input_size = 80

unfoldable pub input_fields : InputRec → List Field
input_fields r =
    place 0 (Le32 r.index)
    ∷ place 4 (Bytes32 r.name)
    ∷ place 36 (Le32 r.kind)
    ∷ []

abbrev pub input_bytes : InputRec → List ℕ
input_bytes r = layout_bytes input_size (input_fields r)
