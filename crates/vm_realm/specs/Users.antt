-- The user's own memories stay in the pages in which they were made, wherever they are; and each
-- memory is one that can be written.
use Rattle.std.specs.Prelude.{ℕ, ◌≡◌, List, All, Contains, length, take, Some}
use Rattle.std.specs.List.{filter_map}
use Rattle.vm_frame.specs.Mem.{mem_bytes, mem_rest}
use Rattle.vm_frame.specs.declared.mem.Held.{Held}
use Rattle.vm_frame.specs.declared.mem.Mem.{Mem}
use Rattle.vm_frame.specs.declared.mem.Mem.TheVariants.{OfUser}
use Rattle.vm_sg.specs.UserMemory.{user_memory}
use Rattle.vm_lease.specs.declared.lease_out.LeaseOut.{LeaseOut}
use Rattle.vm_local.specs.declared.bound.Bound.{Bound}
use Rattle.vm_local.specs.declared.bound.BoundKind.TheVariants.{User}
use Rattle.vm_local.specs.State.{LocalState}
use Rattle.vm_local.specs.Memory.{bytes_of}
use Rattle.vm_home.specs.Home.{home_of}
use Rattle.vm_home.specs.Moves.{memory_at, touched}
use Rattle.vm_log.specs.LegalLog.{lease_in}
use Rattle.vm_log.specs.declared.away.Away.TheVariants.{Sent}
use Rattle.vm_wire.specs.Message.{Posting, Returning}
use Rattle.vm_realm.specs.Inner.{Inner, driver_state, under_way}
use Rattle.vm_realm.specs.Places.{told_state, stopped_by, queued_held, job_held}
use Rattle.vm_realm.specs.Slice.{Slice}
use Rattle.vm_realm.specs.Slice.Out.{Asked, Told}

-- other bytes, as many as it has, can be in it where it lies
abbrev pub CanHold : Mem → Type 0
CanHold mem =
    (bytes : List ℕ) → length bytes ≡ length (mem_bytes mem) →
    (new : Mem) × (mem_bytes new ≡ bytes) × (mem_rest new ≡ mem_rest mem)

-- Where the number is that of a user's memory, this is one in the pages in which it was made; and
-- it is one that can be written, whichever it is.
pub record IsUsers (s : LocalState) (m : ℕ) (mem : Mem) : Type 0 where
  pub pages : (b : Bound) (line off : ℕ) → Contains s.bound b → b.memory ≡ m →
      b.kind ≡ User line off →
      mem_rest mem ≡ mem_rest (OfUser (user_memory line (length (bytes_of s m)) off))
  pub holds : CanHold mem

abbrev pub AreUsers : LocalState → List Held → Type 0
AreUsers s held = All (λ h. IsUsers s (memory_at s h.queue h.index) h.mem) held

-- So it is at home, in a lease, along with a call, with what a stopping call brings back, with
-- messages, in the session, and in its job.
pub record KeepsUsers (x : Slice) (v : Inner) : Type 0 where
  pub home : (m : ℕ) (mem : Mem) → home_of x.handle.log.home m ≡ Some mem →
      IsUsers (driver_state x) m mem
  pub lent : (entry : LeaseOut) → lease_in x.handle.log.away ≡ Some entry →
      IsUsers (driver_state x) (touched (driver_state x) entry.call) entry.mem.value
  pub along : (m : Posting) (number : ℕ) → x.out ≡ Asked m → x.handle.log.away ≡ Sent number →
      All (λ h. IsUsers (driver_state x) number h.mem) m.held
  pub back : (r : Returning) → x.out ≡ Told r →
      AreUsers v.before (take (stopped_by v.before v.executed) r.held)
  pub messages : AreUsers (told_state v) (filter_map (λ e. e.held) (under_way x))
  pub queued : AreUsers v.ahead (queued_held x.session)
  pub job : AreUsers v.ahead (job_held x.job)
