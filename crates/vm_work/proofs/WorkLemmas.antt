-- A job whose picture was made is a job, and came back as it went out.
use Rattle.std.proofs.Common.{◌≡◌, ◌≤◌, ℕ, List, ◌++◌, length, take, drop, arith, ap, ◌∙◌, length-append, length-drop}
use Rattle.std.specs.Prelude.{Option, None, Some}
use Rattle.std.proofs.lemmas.List.{take_at, drop_at}
use Rattle.v4l_format.proofs.PictureLemmas.{length-pattern_picture, length-converted_picture}
use Rattle.v4l_format.specs.Fmt.{picture_size}
use Rattle.vm_frame.specs.Mem.{mem_bytes, mem_rest}
use Rattle.vm_frame.specs.declared.mem.Held.{Held}
use Rattle.vm_job.specs.Job.{IsJob, HasPicture, SameBehind, picture_of}
use Rattle.vm_job.specs.declared.spec.JobSpec.{JobSpec}

length-picture : (spec : JobSpec) (src : Option Held) → length (picture_of spec src) ≡ picture_size spec.dst
length-picture spec None = length-pattern_picture spec.input spec.seq spec.dst
length-picture spec (Some held) = length-converted_picture spec.src (mem_bytes held.mem) spec.dst

length-made : (made old : List ℕ) (n : ℕ) → length made ≡ n → n ≤ length old → length (made ++ drop n old) ≡ length old
length-made made old n size room =
    length-append made (drop n old) ∙ (rw (size, length-drop n old) (omega arith))

-- the picture stands in front of what was behind it
abbrev pub IsMade : JobSpec → Option Held → Held → Held → Type 0
IsMade spec src old new =
    mem_bytes new.mem ≡ picture_of spec src ++ drop (picture_size spec.dst) (mem_bytes old.mem)

pub made_size : (spec : JobSpec) (src : Option Held) (old new : Held) → picture_size spec.dst ≤ length (mem_bytes old.mem) → IsMade spec src old new → length (mem_bytes new.mem) ≡ length (mem_bytes old.mem)
made_size spec src old new room made =
    ap length made ∙ length-made (picture_of spec src) (mem_bytes old.mem) (picture_size spec.dst) (length-picture spec src) room

pub made_job : (spec : JobSpec) (src : Option Held) (old new : Held) → IsJob (record { spec = spec; src = src; dst = old }) → IsMade spec src old new → IsJob (record { spec = spec; src = src; dst = new })
made_job spec src old new job made = record {
  src_adjusted = job.src_adjusted;
  dst_adjusted = job.dst_adjusted;
  input = job.input;
  room = rw (made_size spec src old new job.room made) job.room;
  converts = job.converts;
  source = job.source;
}

pub made_picture : (spec : JobSpec) (src : Option Held) (old new : Held) → IsMade spec src old new → HasPicture (record { spec = spec; src = src; dst = new })
made_picture spec src old new made =
    ap (take (picture_size spec.dst)) made ∙ take_at (picture_of spec src) (drop (picture_size spec.dst) (mem_bytes old.mem)) (picture_size spec.dst) (length-picture spec src)

pub made_behind : (spec : JobSpec) (src : Option Held) (old new : Held) → picture_size spec.dst ≤ length (mem_bytes old.mem) → IsMade spec src old new → mem_rest new.mem ≡ mem_rest old.mem → new.queue ≡ old.queue → new.index ≡ old.index → SameBehind (picture_size spec.dst) old new
made_behind spec src old new room made rest queue index = record {
  queue = queue;
  index = index;
  rest = rest;
  size = made_size spec src old new room made;
  behind = ap (drop (picture_size spec.dst)) made ∙ drop_at (picture_of spec src) (drop (picture_size spec.dst) (mem_bytes old.mem)) (picture_size spec.dst) (length-picture spec src);
}
