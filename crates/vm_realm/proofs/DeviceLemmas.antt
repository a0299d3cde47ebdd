-- What a command, a job and an event leave of what is queued, out and unsent in the device.
use Rattle.std.proofs.Common.{◌≡◌, ℕ, ◌+◌, ◌<◌, ◌≤◌, Bool, true, false, List, [], ◌∷◌, ◌++◌, Option, Some, None, Result, Ok, Err, length, get_or, refl, sym, ap, ◌∙◌, subst, arith, inl, inr}
use Rattle.std.specs.Prelude.{sum_by, ◌&&◌}
use Rattle.std.proofs.lemmas.Bool.{cases_lt, cond_both}
use Rattle.std.proofs.lemmas.List.{get_or_past}
use Rattle.std.proofs.lemmas.List.Sums.{sum_by-cons, sum_by-append, sum_by-set}
use Rattle.std.proofs.lemmas.Option.{none-some}
use Rattle.v4l_const.specs.declared.errno.Errno.{Errno}
use Rattle.v4l_const.specs.declared.errno.Errno.TheVariants.{Efault}
use Rattle.v4l_const.specs.declared.ioctl_code.IoctlCode.{IoctlCode}
use Rattle.v4l_const.specs.declared.ioctl_code.IoctlCode.TheVariants.{QueryCap, EnumFmt, GFmt, SFmt, ReqBufs, QueryBuf, QBuf, StreamOn, StreamOff, EnumInput, GInput, SInput, TryFmt, SubscribeEvent, UnsubscribeEvent}
use Rattle.v4l_layout.specs.declared.buffer_rec.BufferRec.{BufferRec}
use Rattle.vm_frame.specs.declared.mem.Held.{Held}
use Rattle.vm_region.specs.declared.live_range.LiveRange.{LiveRange}
use Rattle.vm_region.specs.Region.{range_at}
use Rattle.vm_wire.specs.Buffers.{buffer_in}
use Rattle.vm_wire.specs.declared.command.Command.{Command}
use Rattle.vm_wire.specs.declared.command.Command.TheVariants.{OpenSession, CloseSession, Ioctl, Map, Unmap}
use Rattle.vm_session.specs.State.{SessionState, opening_session}
use Rattle.vm_session.specs.Rows.{IoctlAnswer, ioctl_outcome}
use Rattle.vm_device.specs.Brought.{is_named, is_told, keeps_length, loaded, brought, comes_with}
use Rattle.vm_device.specs.Device.{DeviceState, session_of, with_session}
use Rattle.vm_device.specs.Mappings.{frame_in}
use Rattle.vm_device.specs.Perform.{Answer, opened, closed, called, called_with, in_session, MapsFound, UnmapsAt, Performs}
use Rattle.vm_realm.specs.Left.{queued_in}
use Rattle.vm_realm.proofs.SumLemmas.{sum_set_few}
use Rattle.vm_realm.proofs.QueuedLemmas.{queued, queues_by, outcome_few, opening_none}

abbrev pub all_queued : DeviceState → ℕ
all_queued d = sum_by queued_in d.sessions

-- the device has at most k queued buffers more, the same jobs and as many unsent events
pub record Adds (k : ℕ) (d d' : DeviceState) : Type 0 where
  pub queued : all_queued d' ≤ all_queued d + k
  pub jobs : d'.jobs ≡ d.jobs
  pub unsent : d'.unsent ≡ d.unsent

adds_none : (k : ℕ) (d : DeviceState) → Adds k d d
adds_none k d = record { queued = omega arith; jobs = refl; unsent = refl }

-- ---- sessions

pub session_few : (d : DeviceState) (id k : ℕ) (s t : SessionState) → session_of d id ≡ Some s → queued t ≤ queued s + k → all_queued (with_session d id t) ≤ all_queued d + k
session_few d id k s t is few =
    let was : queued_in (get_or d.sessions id None) ≡ queued s = ap queued_in is in
    sum_set_few queued_in d.sessions id k (Some t) None (omega (arith, few, was))

pub session_there : (d : DeviceState) (id : ℕ) (s : SessionState) → session_of d id ≡ Some s → id < length d.sessions
session_there d id s is = elim (cases_lt id (length d.sessions)) [ inl within ↦ within | inr past ↦ absurd (none-some s (sym (get_or_past d.sessions id None past) ∙ is)) ]

pub session_changes : (d : DeviceState) (id : ℕ) (s t : SessionState) → session_of d id ≡ Some s → all_queued (with_session d id t) + queued s ≡ all_queued d + queued t
session_changes d id s t is =
    let was : queued_in (get_or d.sessions id None) ≡ queued s = ap queued_in is in
    omega (arith, was, sum_by-set queued_in d.sessions id (Some t) None (session_there d id s is))

-- ---- commands

-- how many buffers a command queues, at most
abbrev pub brings : Command → ℕ
brings (Ioctl session QBuf payload) = 1
brings c = 0

brings_by : IoctlCode → ℕ
brings_by QBuf = 1
brings_by code = 0

brought_one : (s : SessionState) (b : BufferRec) (wire : List ℕ) (held come : List Held) → brought s b wire held ≡ Ok come → length come ≡ 1
brought_one s b wire [] come is = cc
brought_one s b wire (h ∷ []) come is =
    let P : Result (List Held) Errno → Type 0 = λ r. r ≡ Ok come → length come ≡ 1 in
    cond_both (is_named b h && (is_told b wire h.mem && keeps_length s b)) (Ok (record h { mem = loaded wire h.mem } ∷ [])) (Err Efault) P (λ t e. cc) (λ t e. cc) is
brought_one s b wire (h ∷ g ∷ hs) come is = cc

comes_few : (s : SessionState) (code : IoctlCode) (p wire : List ℕ) (held come : List Held) → comes_with s code p wire held ≡ Ok come → queues_by code come ≤ brings_by code
unfolding brings_by
comes_few s QueryCap p wire held come is = omega arith
comes_few s EnumFmt p wire held come is = omega arith
comes_few s GFmt p wire held come is = omega arith
comes_few s SFmt p wire held come is = omega arith
comes_few s ReqBufs p wire held come is = omega arith
comes_few s QueryBuf p wire held come is = omega arith
comes_few s QBuf p wire held come is = omega (arith, brought_one s (buffer_in p) wire held come is)
comes_few s StreamOn p wire held come is = omega arith
comes_few s StreamOff p wire held come is = omega arith
comes_few s EnumInput p wire held come is = omega arith
comes_few s GInput p wire held come is = omega arith
comes_few s SInput p wire held come is = omega arith
comes_few s TryFmt p wire held come is = omega arith
comes_few s SubscribeEvent p wire held come is = omega arith
comes_few s UnsubscribeEvent p wire held come is = omega arith

brings_is : (id : ℕ) (code : IoctlCode) (p : List ℕ) → brings (Ioctl id code p) ≡ brings_by code
unfolding brings_by
brings_is id QueryCap p = refl
brings_is id EnumFmt p = refl
brings_is id GFmt p = refl
brings_is id SFmt p = refl
brings_is id ReqBufs p = refl
brings_is id QueryBuf p = refl
brings_is id QBuf p = refl
brings_is id StreamOn p = refl
brings_is id StreamOff p = refl
brings_is id EnumInput p = refl
brings_is id GInput p = refl
brings_is id SInput p = refl
brings_is id TryFmt p = refl
brings_is id SubscribeEvent p = refl
brings_is id UnsubscribeEvent p = refl

open_adds : (memory : Bool) (held : List Held) (d : DeviceState) → Adds 0 d (opened memory held d).device
open_adds false held d = adds_none 0 d
open_adds true held d =
    let fresh : Option SessionState = Some (opening_session d.model (length d.sessions)) in
    let one : sum_by queued_in (d.sessions ++ fresh ∷ []) ≡ all_queued d + sum_by queued_in (fresh ∷ []) = sum_by-append queued_in d.sessions (fresh ∷ []) in
    record { queued = omega (arith, one, opening_none d.model, sum_by-cons queued_in fresh []); jobs = refl; unsent = refl }

close_adds : (d : DeviceState) (id : ℕ) (held : List Held) (o : Option SessionState) → Adds 0 d (closed d id held o).device
close_adds d id held None = adds_none 0 d
close_adds d id held (Some s) = record { queued = sum_set_few queued_in d.sessions id 0 None None (omega arith); jobs = refl; unsent = refl }

called_adds : (d : DeviceState) (id k : ℕ) (s : SessionState) (code : IoctlCode) (held : List Held) (r : Result IoctlAnswer Errno) → session_of d id ≡ Some s →
    ((a : IoctlAnswer) → r ≡ Ok a → queued a.next ≤ queued s + k) → Adds k d (called d id code held r).device
called_adds d id k s code held (Err errno) is few = adds_none k d
called_adds d id k s code held (Ok a) is few = record { queued = session_few d id k s a.next is (few a refl); jobs = refl; unsent = refl }

come_adds : (memory : Bool) (d : DeviceState) (id : ℕ) (s : SessionState) (code : IoctlCode) (p wire : List ℕ) (held : List Held) (r : Result (List Held) Errno) →
    session_of d id ≡ Some s → comes_with s code p wire held ≡ r → Adds (brings_by code) d (called_with memory d id s code p held r).device
come_adds memory d id s code p wire held (Err errno) is comes = adds_none (brings_by code) d
come_adds memory d id s code p wire held (Ok come) is comes =
    called_adds d id (brings_by code) s code come (ioctl_outcome memory s code p come) is
    (λ a out. omega (arith, outcome_few memory s code p come a out, comes_few s code p wire held come comes))

call_adds : (memory : Bool) (d : DeviceState) (id : ℕ) (code : IoctlCode) (p wire : List ℕ) (held : List Held) (o : Option SessionState) → session_of d id ≡ o →
    Adds (brings_by code) d (in_session memory d id o code p wire held).device
call_adds memory d id code p wire held None is = adds_none (brings_by code) d
call_adds memory d id code p wire held (Some s) is = come_adds memory d id s code p wire held (comes_with s code p wire held) is refl

map_adds : (d : DeviceState) (held : List Held) (r : Result (ℕ × ℕ) Errno) (a : Answer) → MapsFound d held r a → Adds 0 d a.device
map_adds d held (Err errno) a is = subst (λ x. Adds 0 d x.device) (sym is) (adds_none 0 d)
map_adds d held (Ok frame) a maps = elim maps [
  | inl is ↦ subst (λ x. Adds 0 d x.device) (sym is) (adds_none 0 d)
  | inr goes ↦ subst (λ x. Adds 0 d x.device) (sym goes.3) (record { queued = omega arith; jobs = refl; unsent = refl })
]

unmap_adds : (d : DeviceState) (held : List Held) (addr : ℕ) (o : Option LiveRange) (a : Answer) → UnmapsAt d held addr o a → Adds 0 d a.device
unmap_adds d held addr None a is = subst (λ x. Adds 0 d x.device) (sym is) (adds_none 0 d)
unmap_adds d held addr (Some r) a (region, unmaps, is) = subst (λ x. Adds 0 d x.device) (sym is) (record { queued = omega arith; jobs = refl; unsent = refl })

pub performs_adds : (d : DeviceState) (c : Command) (wire : List ℕ) (held : List Held) (a : Answer) → Performs d c wire held a → Adds (brings c) d a.device
performs_adds d OpenSession wire held a (memory, is) = subst (λ x. Adds 0 d x.device) (sym is) (open_adds memory held d)
performs_adds d (CloseSession id) wire held a is = subst (λ x. Adds 0 d x.device) (sym is) (close_adds d id held (session_of d id))
performs_adds d (Ioctl id code p) wire held a (memory, is) =
    subst (λ k. Adds k d a.device) (sym (brings_is id code p))
    (subst (λ x. Adds (brings_by code) d x.device) (sym is) (call_adds memory d id code p wire held (session_of d id) refl))
performs_adds d (Map id writable offset) wire held a maps = map_adds d held (frame_in (session_of d id) offset) a maps
performs_adds d (Unmap addr) wire held a unmaps = unmap_adds d held addr (range_at addr d.region.ranges) a unmaps
