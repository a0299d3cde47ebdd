-- The device's part of each step, over what is said on the link. Nothing here reads the driver's
-- side, and no table, page or head is seen.
use Rattle.std.specs.Prelude.{ℕ, ◌≡◌, ◌==◌, ◌&&◌, Bool, true, false, not, List, [], ◌∷◌, ◌++◌, Option, Some, None, Result, Ok, Err, nat_lt, length, map, if◌then◌else◌}
use Rattle.std.specs.List.{filter, list_any}
use Rattle.std.specs.Option.{option_to_list}
use Rattle.vm_chain.specs.Chain.{writable_bytes}
use Rattle.vm_chain.specs.declared.desc.Desc.{Desc}
use Rattle.vm_chain.specs.declared.fault.ChainFault.{ChainFault}
use Rattle.vm_frame.specs.declared.mem.Held.{Held}
use Rattle.vm_link.specs.declared.parcel.Parcel.{Parcel}
use Rattle.vm_wire.specs.Event.{event_bytes}
use Rattle.vm_wire.specs.Message.{Ask, Posting, Returning}
use Rattle.vm_wire.specs.Message.Ask.{Unusable, Judged}
use Rattle.vm_wire.specs.Wire.{response_bytes}
use Rattle.vm_wire.specs.declared.command.Command.{Command}
use Rattle.vm_wire.specs.declared.command.CmdFault.{CmdFault}
use Rattle.vm_wire.specs.declared.delivery.Delivery.{Delivery}
use Rattle.vm_device.specs.Device.{DeviceState, session_of, is_ready, is_at_rest, ready_ids as ready_in}
use Rattle.vm_device.specs.Perform.{Answer, Performs, must_wait}
use Rattle.vm_device.specs.Stream.{Sends}
use Rattle.vm_host.specs.Chains.{Sent, chain_in, asked_by, behind, named_session, refusal_of_fault}
use Rattle.vm_host.specs.Host.{HostState}
use Rattle.vm_host.specs.Waiting.{put_in, found, taken_out}
use Rattle.vm_host.specs.declared.waiting.Waiting.{Waiting}

-- ---- what is said

-- what a chain with these descriptors, or with a fault, asks
abbrev pub ask_by : Result (List Desc) ChainFault → Parcel → Ask
ask_by (Err fault) p = Unusable
ask_by (Ok descs) p =
    if nat_lt (writable_bytes descs) 8 then Unusable else Judged (asked_by descs p.pages)

-- the bytes behind the command that a chain asks; none where it asks none
abbrev pub behind_asked : Result Command CmdFault → List Desc → Parcel → List ℕ
behind_asked (Ok c) descs p = behind c descs p.pages
behind_asked (Err f) descs p = []

abbrev pub behind_by : Result (List Desc) ChainFault → Parcel → List ℕ
behind_by (Err fault) p = []
behind_by (Ok descs) p = behind_asked (asked_by descs p.pages) descs p

-- what a parcel on the queue of commands says
abbrev pub posting_of : Parcel → Posting
posting_of p = record {
  request = record { who = p.who; asks = ask_by (chain_in p) p };
  behind = behind_by (chain_in p) p;
  held = p.held;
}

-- ---- the device, without chains

-- a call that waits for its session
pub record Call : Type 0 where
  pub session : ℕ
  pub posting : Posting

-- the device, and the calls that wait by rising session
pub record Part : Type 0 where
  pub device : DeviceState
  pub calls : List Call

abbrev pub call_of : Waiting → Call
call_of w = record { session = w.session; posting = posting_of w.parcel }

abbrev pub part_of : HostState → Part
part_of h = record { device = h.device; calls = map call_of h.waiting }

abbrev pub call_for : ℕ → List Call → Option Call
call_for session calls = found (λ c. c.session) session calls

-- ---- what can be done

-- a call of this session waits
abbrev pub waits : Part → ℕ → Bool
waits s session = list_any (λ c. c.session == session) s.calls

-- a job of the session can begin: none does while a call of it waits
abbrev pub can_begin : Part → ℕ → Bool
can_begin s session = not (waits s session) && is_ready (session_of s.device session)

-- a call of the session waits, and the session is quiet
abbrev pub can_resume : Part → ℕ → Bool
can_resume s session = waits s session && is_at_rest (session_of s.device session)

-- the sessions for which a job can begin, by rising id
abbrev pub ready_ids : Part → List ℕ
ready_ids s = filter (λ session. not (waits s session)) (ready_in s.device)

-- the sessions whose waiting call can go on, by rising id
abbrev pub resumable_ids : Part → List ℕ
resumable_ids s =
    filter (λ session. is_at_rest (session_of s.device session)) (map (λ c. c.session) s.calls)

-- ---- what is done

-- the reply of so many bytes that goes back for a posting
abbrev pub returning : Posting → List ℕ → List Held → Returning
returning m bytes held =
    record { reply = record { who = m.request.who; bytes = bytes }; held = held }

-- a posting's command is done, and answered
abbrev pub Completed : Posting → Command → DeviceState → Returning → DeviceState → Type 0
Completed m c d r d' =
    (a : Answer) × Performs d c m.behind m.held a ×
    (r ≡ returning m (response_bytes a.response) a.held) × (d' ≡ a.device)

-- a command that has to wait isn't answered yet
abbrev pub ExecutedCommand : Bool → Posting → Command → Part → Option Returning → Part → Type 0
ExecutedCommand true m c s out s' =
    (out ≡ None)
    × ((session : ℕ) × (named_session c ≡ Some session)
    × (s' ≡ record s {
      calls = put_in (λ w. w.session)
          (record { session = session; posting = m }) s.calls;
    }))
ExecutedCommand false m c s out s' =
    (r : Returning) × (d' : DeviceState) × Completed m c s.device r d' × (out ≡ Some r) ×
    (s' ≡ record s { device = d' })

abbrev pub ExecutedAsk : Ask → Posting → Part → Option Returning → Part → Type 0
ExecutedAsk Unusable m s out s' = (out ≡ Some (returning m [] m.held)) × (s' ≡ s)
ExecutedAsk (Judged (Err f)) m s out s' =
    (out ≡ Some (returning m (response_bytes (refusal_of_fault f)) m.held)) × (s' ≡ s)
ExecutedAsk (Judged (Ok c)) m s out s' = ExecutedCommand (must_wait s.device c) m c s out s'

-- What the device may come to with what was posted, and return for it; where nothing is returned,
-- the call waits.
abbrev pub Executed : Posting → Part → Option Returning → Part → Type 0
Executed m s out s' = ExecutedAsk m.request.asks m s out s'

-- The call of a session that waits is done, where the session is quiet.
abbrev pub ResumedCall : Option Call → Part → Returning → Part → Type 0
ResumedCall None s r s' = ⊥
ResumedCall (Some w) s r s' =
    (c : Command) × (d' : DeviceState) × (w.posting.request.asks ≡ Judged (Ok c)) ×
    Completed w.posting c s.device r d'
    × (s' ≡ record { device = d'; calls = taken_out (λ w. w.session) w.session s.calls })

abbrev pub Resumed : ℕ → Part → Returning → Part → Type 0
Resumed session s r s' =
    (is_at_rest (session_of s.device session) ≡ true) ×
    ResumedCall (call_for session s.calls) s r s'

-- The oldest event that is unsent is sent, if one is.
abbrev pub AnnouncedTo : List ℕ → Part → Delivery → Part → Type 0
AnnouncedTo [] s delivery s' = ⊥
AnnouncedTo (session ∷ sessions) s delivery s' =
    (delivery.session ≡ session) ×
    Sends s.device s.device.unsent (Some (delivery.msg, delivery.held)) s'.device
    × (s'.calls ≡ s.calls)

abbrev pub Announced : Part → Delivery → Part → Type 0
Announced s delivery s' = AnnouncedTo s.device.unsent s delivery s'

-- ---- what goes over the link

-- a chain goes back with just this: as many bytes were written, and it has these memories
abbrev pub Carries : Returning → Sent → Type 0
Carries r sent =
    (sent.used ≡ length r.reply.bytes) × (sent.parcel.held ≡ r.held) ×
    (sent.parcel.who ≡ r.reply.who)

-- a chain goes back exactly where something is returned, and with just that
abbrev pub CarriesIf : Option Returning → Option Sent → Type 0
CarriesIf None sent = sent ≡ None
CarriesIf (Some r) sent = (s : Sent) × (sent ≡ Some s) × Carries r s

-- A parcel that was taken is served as the device's part of the step says.
abbrev pub IsExecuted : HostState → Parcel → Option Sent → HostState → Type 0
IsExecuted h p sent h' =
    (out : Option Returning) × Executed (posting_of p) (part_of h) out (part_of h') ×
    CarriesIf out sent

-- The call of a session that waits goes on as the device's part of the step says.
abbrev pub IsResumed : ℕ → HostState → HostState → Type 0
IsResumed session h h' = (r : Returning) × Resumed session (part_of h) r (part_of h')

-- An event chain goes back as the device's part of the step says: it has the bytes of the event,
-- and its memory besides those that were there.
abbrev pub IsAnnounced : Parcel → HostState → Sent → HostState → Type 0
IsAnnounced p h sent h' =
    (delivery : Delivery) × Announced (part_of h) delivery (part_of h')
    × (sent.used ≡ length (event_bytes delivery.msg)) ×
    (sent.parcel.held ≡ p.held ++ option_to_list delivery.held)
