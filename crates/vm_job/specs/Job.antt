-- Jobs: what is kept of every job, and which picture a job makes.
use Rattle.std.specs.Prelude.{◌≡◌, ◌≤◌, ◌<◌, ◌↔◌, ℕ, Bool, List, length, take, drop, Option, None, Some, IsSome, IfSome, IsFalse}
use Rattle.v4l_const.specs.declared.model.Model.TheVariants.{Convert}
use Rattle.v4l_format.specs.Fmt.{IsAdjusted, picture_size}
use Rattle.v4l_format.specs.Pattern.{patterns}
use Rattle.v4l_format.specs.Picture.{pattern_picture, converted_picture}
use Rattle.vm_frame.specs.Mem.{mem_bytes, mem_rest}
use Rattle.vm_frame.specs.declared.mem.Held.{Held}
use Rattle.vm_job.specs.declared.spec.JobSpec.{JobSpec}

-- a job: what it is to make, the memory of its source where it has one, and the memory of its
-- picture
pub record JobParts : Type 0 where
  pub spec : JobSpec
  pub src : Option Held
  pub dst : Held

-- a job that came back, and whether its picture was made
pub record DoneParts : Type 0 where
  pub job : JobParts
  pub good : Bool

-- a whole picture of the spec's source format, of the width and height of the picture to be made
pub record IsSource (spec : JobSpec) (held : Held) : Type 0 where
  pub whole : picture_size spec.src ≤ length (mem_bytes held.mem)
  pub width : spec.src.width ≡ spec.dst.width
  pub height : spec.src.height ≡ spec.dst.height

-- what is kept of every job: formats and an input that are offered, room for the picture, and a
-- source exactly where the job is a converter's
pub record IsJob (job : JobParts) : Type 0 where
  pub src_adjusted : IsAdjusted job.spec.src
  pub dst_adjusted : IsAdjusted job.spec.dst
  pub input : job.spec.input < length patterns
  pub room : picture_size job.spec.dst ≤ length (mem_bytes job.dst.mem)
  pub converts : IsSome job.src ↔ (job.spec.model ≡ Convert)
  pub source : IfSome job.src (IsSource job.spec)

-- the picture of a spec: that of its source, or of its input where there is no source
abbrev pub picture_of : JobSpec → Option Held → List ℕ
picture_of spec None = pattern_picture spec.input spec.seq spec.dst
picture_of spec (Some held) = converted_picture spec.src (mem_bytes held.mem) spec.dst

-- the picture stands at the front of the memory for it
abbrev pub HasPicture : JobParts → Type 0
HasPicture job =
    take (picture_size job.spec.dst) (mem_bytes job.dst.mem) ≡ picture_of job.spec job.src

-- a memory as it was but for its first n bytes
pub record SameBehind (n : ℕ) (old new : Held) : Type 0 where
  pub queue : new.queue ≡ old.queue
  pub index : new.index ≡ old.index
  pub rest : mem_rest new.mem ≡ mem_rest old.mem
  pub size : length (mem_bytes new.mem) ≡ length (mem_bytes old.mem)
  pub behind : drop n (mem_bytes new.mem) ≡ drop n (mem_bytes old.mem)

-- a job came back as it went out: with its spec and its memories, in which the bytes of the
-- picture alone may differ, and these in a good job alone
pub record CameBack (job : JobParts) (done : DoneParts) : Type 0 where
  pub spec : done.job.spec ≡ job.spec
  pub src : done.job.src ≡ job.src
  pub dst : SameBehind (picture_size job.spec.dst) job.dst done.job.dst
  pub bad : IsFalse done.good → done.job.dst ≡ job.dst
