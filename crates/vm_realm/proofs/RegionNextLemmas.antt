-- A step keeps what the region keeps: only a command that makes a mapping or gives one back changes it.
use Rattle.std.proofs.Common.{◌≡◌, ℕ, ◌<◌, ◌≤◌, Bool, true, false, List, [], ◌∷◌, Option, Some, None, map, refl, sym, ap, ◌∙◌, subst, arith, inl, inr}
use Rattle.std.specs.Prelude.{IfSome, Result, Ok, Err}
use Rattle.std.proofs.lemmas.Bool.{true≢false}
use Rattle.v4l_const.specs.declared.errno.Errno.{Errno}
use Rattle.v4l_const.specs.declared.ioctl_code.IoctlCode.{IoctlCode}
use Rattle.vm_frame.specs.declared.mem.Held.{Held}
use Rattle.vm_region.specs.Region.{range_of, range_at}
use Rattle.vm_region.specs.declared.live_range.LiveRange.{LiveRange}
use Rattle.vm_wire.specs.declared.command.Command.{Command}
use Rattle.vm_wire.specs.declared.command.Command.TheVariants.{OpenSession, CloseSession, Ioctl, Map, Unmap}
use Rattle.vm_wire.specs.declared.delivery.Delivery.{Delivery}
use Rattle.vm_wire.specs.declared.event.EventMsg.{EventMsg}
use Rattle.vm_wire.specs.Message.{Ask, Posting, Returning}
use Rattle.vm_wire.specs.Message.Ask.{Unusable, Judged}
use Rattle.vm_session.specs.State.{SessionState}
use Rattle.vm_session.specs.Buffers.{frame_tag}
use Rattle.vm_session.specs.Mapped.{frame_of}
use Rattle.vm_session.specs.Rows.{IoctlAnswer, ioctl_outcome}
use Rattle.vm_device.specs.Brought.{comes_with}
use Rattle.vm_device.specs.Device.{DeviceState, session_of}
use Rattle.vm_device.specs.Keeps.{IsSound as IsSoundDevice}
use Rattle.vm_device.specs.Mappings.{FitsSession, HasFrame, frame_in, pages_of}
use Rattle.vm_device.specs.Perform.{Answer, Performs, MapsFound, UnmapsAt, opened, closed, called, called_with, in_session, must_wait}
use Rattle.vm_device.specs.Stream.{Sends}
use Rattle.vm_device.proofs.FrameLemmas.{frame_found}
use Rattle.vm_host.specs.Part.{Part, Call as WaitingCall, Completed, ExecutedAsk, ExecutedCommand, ResumedCall, AnnouncedTo, call_for}
use Rattle.vm_realm.specs.declared.step.Step.{Step}
use Rattle.vm_realm.specs.declared.step.Step.TheVariants.{Issue, Execute, Resume, Begin, Finish, Announce, Collect, Pump, Lease, GiveBack}
use Rattle.vm_realm.specs.World.{WorldState}
use Rattle.vm_realm.specs.Steps.{Does, DoesExecute, Steps}
use Rattle.vm_realm.specs.Inner.{Inner}
use Rattle.vm_realm.specs.Laws.{does_command}
use Rattle.vm_realm.specs.Mapped.{Share}
use Rattle.vm_realm.specs.Sound.{IsSoundBy, all_shares}
use Rattle.vm_realm.proofs.JournalLemmas.{MapPages, deals}
use Rattle.vm_realm.proofs.ShareLemmas.{shares_pages, all_leave}
use Rattle.vm_realm.proofs.RegionLemmas.{RegionKeeps, maps_keep, unmaps_keep}

-- ---- a command

pub some_pages : (len : ℕ) → 1 ≤ len → 1 ≤ pages_of len
some_pages len some = omega (arith, some)

-- the command makes a mapping or gives one back
abbrev pub moves_mapping : Command → Bool
moves_mapping (Map id writable offset) = true
moves_mapping (Unmap addr) = true
moves_mapping c = false

open_left : (memory : Bool) (held : List Held) (d : DeviceState) → (opened memory held d).device.region ≡ d.region
open_left true held d = refl
open_left false held d = refl

close_left : (d : DeviceState) (id : ℕ) (held : List Held) (o : Option SessionState) → (closed d id held o).device.region ≡ d.region
close_left d id held None = refl
close_left d id held (Some s) = refl

called_left : (d : DeviceState) (id : ℕ) (code : IoctlCode) (held : List Held) (r : Result IoctlAnswer Errno) → (called d id code held r).device.region ≡ d.region
called_left d id code held (Ok a) = refl
called_left d id code held (Err e) = refl

come_left : (memory : Bool) (d : DeviceState) (id : ℕ) (s : SessionState) (code : IoctlCode) (p : List ℕ) (held : List Held) (r : Result (List Held) Errno) → (called_with memory d id s code p held r).device.region ≡ d.region
come_left memory d id s code p held (Ok come) = called_left d id code come (ioctl_outcome memory s code p come)
come_left memory d id s code p held (Err e) = refl

call_left : (memory : Bool) (d : DeviceState) (id : ℕ) (o : Option SessionState) (code : IoctlCode) (p wire : List ℕ) (held : List Held) → (in_session memory d id o code p wire held).device.region ≡ d.region
call_left memory d id None code p wire held = refl
call_left memory d id (Some s) code p wire held = come_left memory d id s code p held (comes_with s code p wire held)

pub region_left : (d : DeviceState) (c : Command) (wire : List ℕ) (held : List Held) (a : Answer) → moves_mapping c ≡ false → Performs d c wire held a → a.device.region ≡ d.region
region_left d OpenSession wire held a plain (memory, is) = ap (λ (x : Answer). x.device.region) is ∙ open_left memory held d
region_left d (CloseSession id) wire held a plain is = ap (λ (x : Answer). x.device.region) is ∙ close_left d id held (session_of d id)
region_left d (Ioctl id code p) wire held a plain (memory, is) = ap (λ (x : Answer). x.device.region) is ∙ call_left memory d id (session_of d id) code p wire held
region_left d (Map id writable offset) wire held a plain does = absurd (true≢false plain)
region_left d (Unmap addr) wire held a plain does = absurd (true≢false plain)

-- a frame that is found has pages, and so has its range where it is mapped
pub record IsFound (d : DeviceState) (id : ℕ) (s : SessionState) (tag len : ℕ) : Type 0 where
  pub made : ℕ
  pub tag_is : tag ≡ frame_tag id made
  pub below : made < s.made
  pub some : 1 ≤ pages_of len
  pub short : len ≤ 921600
  pub whole : IfSome (range_of tag d.region.ranges) (λ r. r.pages ≡ pages_of len)

pub found_in : (d : DeviceState) (id offset : ℕ) (s : SessionState) (frame : ℕ × ℕ) → IsSoundDevice d → session_of d id ≡ Some s → frame_of s offset ≡ Ok frame → IsFound d id s frame.0 frame.1
found_in d id offset s frame sound there is =
    let found : (k : ℕ) × HasFrame s k frame.1 × (frame.0 ≡ frame_tag s.id k) = frame_found s offset frame is in
    let fits : FitsSession id s d.region.ranges = sound.fits.live id s there in
    let tag : frame.0 ≡ frame_tag id found.0 = found.2 ∙ ap (λ i. frame_tag i found.0) (sound.ids id s there) in
    record {
      made = found.0;
      tag_is = tag;
      below = fits.framed.made found.0 frame.1 found.1;
      some = some_pages frame.1 (fits.framed.sized found.0 frame.1 found.1).0;
      short = (fits.framed.sized found.0 frame.1 found.1).1;
      whole = subst (λ t. IfSome (range_of t d.region.ranges) (λ r. r.pages ≡ pages_of frame.1)) (sym tag) (fits.pages found.0 frame.1 found.1);
    }

frame_keeps : (d : DeviceState) (id offset : ℕ) (held : List Held) (s : SessionState) (r : Result (ℕ × ℕ) Errno) (a : Answer) → IsSoundDevice d → RegionKeeps d.region → MapPages d.region.journal → session_of d id ≡ Some s → frame_of s offset ≡ r →
    MapsFound d held r a → RegionKeeps a.device.region
frame_keeps d id offset held s (Err errno) a sound keeps each there is found = subst (λ (x : Answer). RegionKeeps x.device.region) (sym found) keeps
frame_keeps d id offset held s (Ok frame) a sound keeps each there is (inl denied) = subst (λ (x : Answer). RegionKeeps x.device.region) (sym denied) keeps
frame_keeps d id offset held s (Ok frame) a sound keeps each there is (inr (addr, region, maps, after)) =
    let found : IsFound d id s frame.0 frame.1 = found_in d id offset s frame sound there is in
    subst (λ (x : Answer). RegionKeeps x.device.region) (sym after)
    (maps_keep (range_of frame.0 d.region.ranges) d.region region frame.0 (pages_of frame.1) addr keeps each found.some refl found.whole maps)

map_keeps : (d : DeviceState) (id offset : ℕ) (held : List Held) (o : Option SessionState) (a : Answer) → IsSoundDevice d → RegionKeeps d.region → MapPages d.region.journal → session_of d id ≡ o → MapsFound d held (frame_in o offset) a → RegionKeeps a.device.region
map_keeps d id offset held None a sound keeps each there found = subst (λ (x : Answer). RegionKeeps x.device.region) (sym found) keeps
map_keeps d id offset held (Some s) a sound keeps each there found = frame_keeps d id offset held s (frame_of s offset) a sound keeps each there refl found

unmap_keeps : (d : DeviceState) (addr : ℕ) (held : List Held) (o : Option LiveRange) (a : Answer) → RegionKeeps d.region → range_at addr d.region.ranges ≡ o → UnmapsAt d held addr o a → RegionKeeps a.device.region
unmap_keeps d addr held None a keeps is does = subst (λ (x : Answer). RegionKeeps x.device.region) (sym does) keeps
unmap_keeps d addr held (Some r) a keeps is (region, unmaps, after) = subst (λ (x : Answer). RegionKeeps x.device.region) (sym after) (unmaps_keep d.region region addr r keeps is unmaps)

pub performs_keep : (d : DeviceState) (c : Command) (wire : List ℕ) (held : List Held) (a : Answer) → IsSoundDevice d → RegionKeeps d.region → MapPages d.region.journal → Performs d c wire held a → RegionKeeps a.device.region
performs_keep d (Map id writable offset) wire held a sound keeps each does = map_keeps d id offset held (session_of d id) a sound keeps each refl does
performs_keep d (Unmap addr) wire held a sound keeps each does = unmap_keeps d addr held (range_at addr d.region.ranges) a keeps refl does
performs_keep d c wire held a sound keeps each does = subst RegionKeeps (sym (region_left d c wire held a refl does)) keeps

-- ---- the world

pub world_keeps : (w : WorldState) (rows : List (List Inner)) → IsSoundBy w rows → RegionKeeps w.host.device.region
world_keeps w rows sound = record { journal = sound.mapped.sound; live = sound.mapped.live; apart = sound.mapped.apart; low = sound.mapped.low }

-- each mapping that the journal tells of has pages
pub world_pages : (w : WorldState) (rows : List (List Inner)) → IsSoundBy w rows → MapPages w.host.device.region.journal
world_pages w rows sound =
    let ss : List Share = all_shares w rows 0 w.guest.processes in
    (deals 0 [] w.host.device.region.journal (map (λ s. s.mappings) ss) sound.mapped.lives (shares_pages 0 ss (all_leave w rows 0 sound)) sound.mapped.deals).pages

pub answer_keeps : (w : WorldState) (rows : List (List Inner)) (c : Command) (wire : List ℕ) (held : List Held) (a : Answer) → IsSoundBy w rows → Performs w.host.device c wire held a → RegionKeeps a.device.region
answer_keeps w rows c wire held a sound does = performs_keep w.host.device c wire held a sound.device.sound (world_keeps w rows sound) (world_pages w rows sound) does

-- ---- the steps that do no command

sends_left : (d : DeviceState) (ids : List ℕ) (event : Option (EventMsg × Option Held)) (d' : DeviceState) → Sends d ids event d' → d'.region ≡ d.region
sends_left d [] event d' (none, same) = ap (λ (x : DeviceState). x.region) same
sends_left d (id ∷ ids) event d' (s, there, some, oldest, same) = ap (λ (x : DeviceState). x.region) same

announced_left : (ids : List ℕ) (s s' : Part) (delivery : Delivery) → AnnouncedTo ids s delivery s' → s'.device.region ≡ s.device.region
announced_left [] s s' delivery does = absurd does
announced_left (id ∷ ids) s s' delivery (same, sends, calls) = sends_left s.device s.device.unsent (Some (delivery.msg, delivery.held)) s'.device sends

-- they leave the region
pub same_region : (w w' : WorldState) (s : Step) → does_command s ≡ false → Does s w w' → w'.host.device.region ≡ w.host.device.region
same_region w w' (Issue n) plain (g, left, posted, does, after) = ap (λ (u : WorldState). u.host.device.region) after
same_region w w' Execute plain does = absurd (true≢false plain)
same_region w w' (Resume session) plain does = absurd (true≢false plain)
same_region w w' (Begin session) plain (job, d, (ready, (s, entry, there, next, is, same)), after) =
    ap (λ (u : WorldState). u.host.device.region) after ∙ ap (λ (x : DeviceState). x.region) same
same_region w w' (Finish number) plain (done, (entry, d, out, back, (s, there, live, same), after)) =
    ap (λ (u : WorldState). u.host.device.region) after ∙ ap (λ (x : DeviceState). x.region) same
same_region w w' Announce plain (delivery, host, does, after) =
    ap (λ (u : WorldState). u.host.device.region) after ∙ announced_left w.host.device.unsent w.host host delivery does
same_region w w' Collect plain (g, left, posted, does, after) = ap (λ (u : WorldState). u.host.device.region) after
same_region w w' Pump plain (g, left, posted, does, after) = ap (λ (u : WorldState). u.host.device.region) after
same_region w w' (Lease n) plain (leased, g, does, after) = ap (λ (u : WorldState). u.host.device.region) after
same_region w w' (GiveBack n) plain (entry, lease, out, back, after) = ap (λ (u : WorldState). u.host.device.region) after

-- ---- those that do one

completed_keeps : (w : WorldState) (rows : List (List Inner)) (m : Posting) (c : Command) (r : Returning) (d : DeviceState) → IsSoundBy w rows → Completed m c w.host.device r d → RegionKeeps d.region
completed_keeps w rows m c r d sound (a, does, told, after) = subst (λ (x : DeviceState). RegionKeeps x.region) (sym after) (answer_keeps w rows c m.behind m.held a sound does)

command_keeps : (w : WorldState) (rows : List (List Inner)) (b : Bool) (m : Posting) (c : Command) (out : Option Returning) (host : Part) → IsSoundBy w rows → ExecutedCommand b m c w.host out host → RegionKeeps host.device.region
command_keeps w rows true m c out host sound (none, (session, named, after)) = subst (λ (x : Part). RegionKeeps x.device.region) (sym after) (world_keeps w rows sound)
command_keeps w rows false m c out host sound (r, d, completed, told, after) = subst (λ (x : Part). RegionKeeps x.device.region) (sym after) (completed_keeps w rows m c r d sound completed)

ask_keeps : (w : WorldState) (rows : List (List Inner)) (ask : Ask) (m : Posting) (out : Option Returning) (host : Part) → IsSoundBy w rows → ExecutedAsk ask m w.host out host → RegionKeeps host.device.region
ask_keeps w rows Unusable m out host sound (told, same) = subst (λ (x : Part). RegionKeeps x.device.region) (sym same) (world_keeps w rows sound)
ask_keeps w rows (Judged (Err f)) m out host sound (told, same) = subst (λ (x : Part). RegionKeeps x.device.region) (sym same) (world_keeps w rows sound)
ask_keeps w rows (Judged (Ok c)) m out host sound does = command_keeps w rows (must_wait w.host.device c) m c out host sound does

execute_keeps : (w w' : WorldState) (rows : List (List Inner)) (ms : List Posting) → IsSoundBy w rows → DoesExecute ms w w' → RegionKeeps w'.host.device.region
execute_keeps w w' rows [] sound does = absurd does
execute_keeps w w' rows (m ∷ ms) sound (out, host, does, after) = subst (λ (u : WorldState). RegionKeeps u.host.device.region) (sym after) (ask_keeps w rows m.request.asks m out host sound does)

resume_keeps : (w : WorldState) (rows : List (List Inner)) (o : Option WaitingCall) (r : Returning) (host : Part) → IsSoundBy w rows → ResumedCall o w.host r host → RegionKeeps host.device.region
resume_keeps w rows None r host sound does = absurd does
resume_keeps w rows (Some call) r host sound (c, d, asks, completed, after) = subst (λ (x : Part). RegionKeeps x.device.region) (sym after) (completed_keeps w rows call.posting c r d sound completed)

pub region_does : (w w' : WorldState) (rows : List (List Inner)) (s : Step) → IsSoundBy w rows → Does s w w' → RegionKeeps w'.host.device.region
region_does w w' rows Execute sound does = execute_keeps w w' rows w.requests sound does
region_does w w' rows (Resume session) sound (r, host, (rest, does), after) =
    subst (λ (u : WorldState). RegionKeeps u.host.device.region) (sym after) (resume_keeps w rows (call_for session w.host.calls) r host sound does)
region_does w w' rows s sound does = subst RegionKeeps (sym (same_region w w' s refl does)) (world_keeps w rows sound)

-- a step keeps what the region keeps
pub region_next : (w w' : WorldState) (s : Step) → (sound : (rows : List (List Inner)) × IsSoundBy w rows) → Steps w s w' → RegionKeeps w'.host.device.region
region_next w w' s (rows, sound) (may, does) = region_does w w' rows s sound does
