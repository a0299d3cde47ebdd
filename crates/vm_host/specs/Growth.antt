-- What a device is at most after some steps.
use Rattle.std.specs.Prelude.{ℕ, ◌≡◌, ◌≤◌, ◌*◌, Option, Some, None, List, [], ◌∷◌, length, Contains, ⊤}
use Rattle.vm_link.specs.Queue.{Queue, out_heads}
use Rattle.vm_region.specs.Region.{map_count}
use Rattle.vm_session.specs.State.{SessionState}
use Rattle.vm_device.specs.Device.{DeviceState, session_of}
use Rattle.vm_host.specs.declared.waiting.Waiting.{Waiting}

-- a session, if it is live, made at most so many frames
abbrev pub MadeMost : ℕ → Option SessionState → Type 0
MadeMost n None = ⊤
MadeMost n (Some s) = s.made ≤ n

-- A device with places for so many sessions did n steps: it opened no more sessions, made no more
-- mappings and began no more jobs, and each live session made 32 times as many frames at most.
pub record HasDone (n places : ℕ) (d : DeviceState) : Type 0 where
  pub opens : d.opens ≡ places
  pub opened : length d.sessions ≤ n
  pub mapped : map_count d.region.journal ≤ n
  pub begun : d.begun ≤ n
  pub made : (id : ℕ) → MadeMost (32 * n) (session_of d id)

-- At most one call waits, and its chain is taken and not finished.
abbrev pub IsOneOut : List Waiting → Queue → Type 0
IsOneOut [] q = ⊤
IsOneOut (w ∷ []) q = Contains (out_heads q) w.head
IsOneOut (w ∷ (v ∷ ws)) q = ⊥
