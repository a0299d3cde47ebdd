-- No step of the device takes the place of a session away, and none but an open adds one.
use Rattle.std.proofs.Common.{◌≡◌, ℕ, ◌≤◌, ◌<◌, Bool, true, false, Option, Some, None, Result, Ok, Err, List, [], ◌∷◌, length, refl, sym, subst, arith, inl, inr}
use Rattle.std.proofs.lemmas.List.{length-set, length-append}
use Rattle.v4l_const.specs.declared.errno.Errno.{Errno}
use Rattle.v4l_const.specs.declared.ioctl_code.IoctlCode.{IoctlCode}
use Rattle.vm_frame.specs.declared.mem.Held.{Held}
use Rattle.vm_job.specs.Job.{JobParts, DoneParts}
use Rattle.vm_region.specs.Region.{range_at}
use Rattle.vm_region.specs.declared.live_range.LiveRange.{LiveRange}
use Rattle.vm_wire.specs.declared.command.Command.{Command}
use Rattle.vm_wire.specs.declared.command.Command.TheVariants.{OpenSession, CloseSession, Ioctl, Map, Unmap}
use Rattle.vm_wire.specs.declared.event.EventMsg.{EventMsg}
use Rattle.vm_session.specs.Rows.{IoctlAnswer, ioctl_outcome}
use Rattle.vm_session.specs.State.{SessionState, opening_session}
use Rattle.vm_device.specs.Brought.{comes_with}
use Rattle.vm_device.specs.Device.{DeviceState, session_of}
use Rattle.vm_device.specs.Mappings.{frame_in}
use Rattle.vm_device.specs.Perform.{Answer, Performs, HasPlaceFor, MapsFound, UnmapsAt, opened, closed, called, called_with, in_session}
use Rattle.vm_device.specs.Stream.{Begins, Finishes, Sends}
use Rattle.vm_host.specs.Keeps.{IsSound}
use Rattle.vm_host.proofs.RiseLemmas.{to_higher}
use Rattle.vm_host.specs.declared.waiting.Waiting.{Waiting}

pub record Grows (d d' : DeviceState) : Type 0 where
  pub opens : d'.opens ≡ d.opens
  pub more : length d.sessions ≤ length d'.sessions
  pub few : length d.sessions ≤ d.opens → length d'.sessions ≤ d.opens

pub stays : (d : DeviceState) → Grows d d
stays d = record { opens = refl; more = omega arith; few = λ few. few }

-- where as many sessions are there
as_many : (d d' : DeviceState) → d'.opens ≡ d.opens → length d'.sessions ≡ length d.sessions → Grows d d'
as_many d d' opens count = record { opens = opens; more = omega (arith, count); few = λ few. omega (arith, count, few) }

after : (d : DeviceState) (a b : Answer) → a ≡ b → Grows d b.device → Grows d a.device
after d a b same grows = subst (λ (x : Answer). Grows d x.device) (sym same) grows

then_is : (d d' e : DeviceState) → d' ≡ e → Grows d e → Grows d d'
then_is d d' e same grows = subst (Grows d) (sym same) grows

-- ---- commands

opened_grows : (memory : Bool) (held : List Held) (d : DeviceState) → length d.sessions < d.opens → Grows d (opened memory held d).device
opened_grows false held d place = stays d
opened_grows true held d place =
    let pushed = length-append d.sessions (Some (opening_session d.model (length d.sessions)) ∷ []) in
    record { opens = refl; more = omega (arith, pushed); few = λ few. omega (arith, pushed, place) }

closed_grows : (d : DeviceState) (id : ℕ) (held : List Held) (o : Option SessionState) → Grows d (closed d id held o).device
closed_grows d id held None = stays d
closed_grows d id held (Some s) = as_many d (closed d id held (Some s)).device refl (length-set d.sessions id None)

called_grows : (d : DeviceState) (id : ℕ) (code : IoctlCode) (held : List Held) (o : Result IoctlAnswer Errno) → Grows d (called d id code held o).device
called_grows d id code held (Ok a) = as_many d (called d id code held (Ok a)).device refl (length-set d.sessions id (Some a.next))
called_grows d id code held (Err errno) = stays d

with_grows : (memory : Bool) (d : DeviceState) (id : ℕ) (s : SessionState) (code : IoctlCode) (payload : List ℕ) (held : List Held) (o : Result (List Held) Errno)
    → Grows d (called_with memory d id s code payload held o).device
with_grows memory d id s code payload held (Ok come) = called_grows d id code come (ioctl_outcome memory s code payload come)
with_grows memory d id s code payload held (Err errno) = stays d

in_session_grows : (memory : Bool) (d : DeviceState) (id : ℕ) (o : Option SessionState) (code : IoctlCode) (payload wire : List ℕ) (held : List Held)
    → Grows d (in_session memory d id o code payload wire held).device
in_session_grows memory d id None code payload wire held = stays d
in_session_grows memory d id (Some s) code payload wire held = with_grows memory d id s code payload held (comes_with s code payload wire held)

mapped_grows : (d : DeviceState) (held : List Held) (o : Result (ℕ × ℕ) Errno) (a : Answer) → MapsFound d held o a → Grows d a.device
mapped_grows d held (Err errno) a maps = after d a _ maps (stays d)
mapped_grows d held (Ok frame) a (inl lacks) = after d a _ lacks (stays d)
mapped_grows d held (Ok frame) a (inr maps) = after d a _ maps.3 (as_many d _ refl refl)

unmapped_grows : (d : DeviceState) (held : List Held) (addr : ℕ) (o : Option LiveRange) (a : Answer) → UnmapsAt d held addr o a → Grows d a.device
unmapped_grows d held addr None a unmaps = after d a _ unmaps (stays d)
unmapped_grows d held addr (Some r) a unmaps = after d a _ unmaps.2 (as_many d _ refl refl)

pub performs_grow : (d : DeviceState) (c : Command) (wire : List ℕ) (held : List Held) (a : Answer) → HasPlaceFor d c → Performs d c wire held a → Grows d a.device
performs_grow d OpenSession wire held a place does = after d a _ does.1 (opened_grows does.0 held d place)
performs_grow d (CloseSession id) wire held a place does = after d a _ does (closed_grows d id held (session_of d id))
performs_grow d (Ioctl id code payload) wire held a place does = after d a _ does.1 (in_session_grows does.0 d id (session_of d id) code payload wire held)
performs_grow d (Map id writable offset) wire held a place does = mapped_grows d held (frame_in (session_of d id) offset) a does
performs_grow d (Unmap addr) wire held a place does = unmapped_grows d held addr (range_at addr d.region.ranges) a does

-- ---- jobs and events

pub begins_grow : (d : DeviceState) (id : ℕ) (job : Option JobParts) (d' : DeviceState) → Begins d id job d' → Grows d d'
begins_grow d id None d' begins = then_is d d' d begins.1 (stays d)
begins_grow d id (Some job) d' begins = then_is d d' _ begins.1.5 (as_many d _ refl (length-set d.sessions id _))

pub finishes_grow : (d : DeviceState) (done : DoneParts) (d' : DeviceState) → Finishes d done d' → Grows d d'
finishes_grow d done d' finishes = then_is d d' _ finishes.3 (as_many d _ refl (length-set d.sessions done.job.spec.session _))

pub sends_grow : (d : DeviceState) (ids : List ℕ) (event : Option (EventMsg × Option Held)) (d' : DeviceState) → Sends d ids event d' → Grows d d'
sends_grow d [] event d' sends = then_is d d' d sends.1 (stays d)
sends_grow d (id ∷ ids) event d' sends = then_is d d' _ sends.4 (as_many d _ refl (length-set d.sessions id _))

-- ---- what is kept

-- the device grew, and the same calls wait
pub grown_sound : (d d' : DeviceState) (calls : List Waiting) → IsSound (record { device = d; waiting = calls }) → Grows d d' → IsSound (record { device = d'; waiting = calls })
grown_sound d d' calls sound grows = record {
  few = (let few = grows.few sound.few in let same = grows.opens in omega (arith, few, same));
  rising = to_higher 0 (length d.sessions) (length d'.sessions) calls grows.more sound.rising;
  calls = sound.calls;
}

pub grown_room : (d d' : DeviceState) (room : ℕ) → d.opens ≤ room → Grows d d' → d'.opens ≤ room
grown_room d d' room enough grows = (let same = grows.opens in omega (arith, enough, same))
