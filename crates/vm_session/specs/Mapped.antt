-- The frames of a session that may be mapped, and from which offsets.
-- Source: own, after the Linux V4L2 interface, "Streaming I/O (Memory Mapping)".
use Rattle.std.specs.Prelude.{ℕ, ◌+◌, ◌==◌, if◌then◌else◌, List, [], ◌∷◌, find, slice_get, Option, None, Result}
use Rattle.std.specs.List.{flat_map}
use Rattle.std.specs.Option.{option_map, ok_or}
use Rattle.v4l_const.specs.declared.errno.Errno.{Errno}
use Rattle.v4l_const.specs.declared.errno.Errno.TheVariants.{Einval}
use Rattle.v4l_const.specs.declared.numbers.TheConstants.{MEMORY_MMAP}
use Rattle.v4l_const.specs.Model.{queues as types_of}
use Rattle.vm_wire.specs.Buffers.{buffer_offset}
use Rattle.vm_session.specs.State.{SessionQueue, SessionState, queue_of}
use Rattle.vm_session.specs.Buffers.{frame_tag}

pub record MappableFrame : Type 0 where
  pub offset : ℕ
  pub tag : ℕ
  pub len : ℕ

-- those of buffers with these lengths, from an index on; that of index 0 has the tag `first`
abbrev pub frames_from : ℕ → ℕ → ℕ → List ℕ → List MappableFrame
frames_from t first i [] = []
frames_from t first i (len ∷ lens) =
    let frame : MappableFrame = record { offset = buffer_offset t i; tag = first + i; len = len } in
    frame ∷ frames_from t first (i + 1) lens

-- those of a queue, if the device gave its buffers' memory
abbrev pub frames_of : ℕ → ℕ → SessionQueue → List MappableFrame
frames_of id t q =
    if q.kind == MEMORY_MMAP then frames_from t (frame_tag id q.first_frame) 0 q.lengths else []

-- those of all queues of the model
abbrev pub mappable_frames : SessionState → List MappableFrame
mappable_frames s = flat_map (λ t. frames_of s.id t (queue_of s t)) (types_of s.model)

-- the tag and the length of the one of these that is mapped from an offset
abbrev pub frame_at : ℕ → List MappableFrame → Option (ℕ × ℕ)
frame_at offset frames = option_map (λ f. (f.tag, f.len)) (find (λ f. f.offset == offset) frames)

abbrev pub frame_of : SessionState → ℕ → Result (ℕ × ℕ) Errno
frame_of s offset = ok_or (frame_at offset (mappable_frames s)) Einval

-- the length of buffer i, where the device gave its memory
abbrev pub given_length : SessionQueue → ℕ → Option ℕ
given_length q i = if q.kind == MEMORY_MMAP then slice_get q.lengths i else None
