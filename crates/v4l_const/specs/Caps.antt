-- The bits of a device's capabilities.
-- Source: Linux V4L2, "Device Capabilities Flags"
use Rattle.std.specs.Prelude.{ℕ}

abbrev pub video_capture_cap : ℕ
video_capture_cap = 0x1

abbrev pub video_capture_mplane_cap : ℕ
video_capture_mplane_cap = 0x1000

abbrev pub video_m2m_mplane_cap : ℕ
video_m2m_mplane_cap = 0x4000

abbrev pub video_m2m_cap : ℕ
video_m2m_cap = 0x8000

abbrev pub streaming_cap : ℕ
streaming_cap = 0x4000000

abbrev pub device_caps_cap : ℕ
device_caps_cap = 0x80000000
