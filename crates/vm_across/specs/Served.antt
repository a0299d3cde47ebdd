-- The device's steps on the chains that the driver posts: each is the device's part of the step,
-- over what was sent, and what the device returns or sends is what comes back.
-- Source: own, after the VIRTIO 1.4 draft, "Media Device".
use Rattle.std.specs.Prelude.{ℕ, ◌≡◌, ◌<◌, List, [], Option, Some, None, Ok}
use Rattle.vm_chain.specs.declared.desc.Desc.{Desc}
use Rattle.vm_link.specs.Queue.{Queue, finished}
use Rattle.vm_link.specs.declared.link.Turn.TheVariants.{Did}
use Rattle.vm_link.specs.declared.parcel.Parcel.{Parcel}
use Rattle.vm_wire.specs.Message.{Returning}
use Rattle.vm_wire.specs.declared.delivery.Delivery.{Delivery}
use Rattle.vm_pump.specs.Pump.{session_of}
use Rattle.vm_host.specs.Chains.{Sent, chain_in}
use Rattle.vm_host.specs.Host.{HostState, waiting_for, with_call}
use Rattle.vm_host.specs.Part.{Executed, Resumed, Announced, part_of}
use Rattle.vm_host.specs.Steps.{Serves, Resumes, Announce}
use Rattle.vm_host.specs.declared.waiting.Waiting.{Waiting}
use Rattle.vm_guest.specs.Chain.{IsEventChain}
use Rattle.vm_guest.specs.Message.{Sending, Carries, posting_of}
use Rattle.vm_guest.specs.Orderly.{process_limit}
use Rattle.vm_across.specs.Across.{IsFit, ComesBack, BringsBack}

-- a call waits under the head of its chain, with the chain as it was posted
abbrev pub WaitsWith : ℕ → Parcel → HostState → HostState → Type 0
WaitsWith head p h h' =
    (session : ℕ) ×
    (h'.waiting ≡ with_call (record { session = session; head = head; parcel = p }) h.waiting)

-- A chain goes back exactly where something is returned, and says it. Else its call waits.
abbrev pub ComesBackIf : ℕ → Sending → ℕ → Parcel → HostState → HostState → Option Returning →
    Option Sent → Type 0
ComesBackIf n sending head p h h' None sent = (sent ≡ None) × WaitsWith head p h h'
ComesBackIf n sending head p h h' (Some r) sent =
    (s : Sent) × (sent ≡ Some s) × ComesBack n sending head s r × (h'.waiting ≡ h.waiting)

-- The device serves a process's chain by its part of the step, over what the process sent.
abbrev pub IsServed : Type 0
IsServed =
    (n head : ℕ) (sending : Sending) (p : Parcel) (h h' : HostState) (sent : Option Sent) →
    n < process_limit → IsFit sending → Carries n sending p →
    Serves (chain_in p) h p head sent h' →
    (out : Option Returning) × Executed (posting_of n sending) (part_of h) out (part_of h')
    × ComesBackIf n sending head p h h' out sent

-- A call that waited goes on by the device's part of the step, and its chain is finished with what
-- is returned.
abbrev pub IsResumed : Type 0
IsResumed =
    (session n : ℕ) (sending : Sending) (w : Waiting) (h h' : HostState) (q q' : Queue) →
    n < process_limit → IsFit sending → waiting_for session h.waiting ≡ Some w →
    Carries n sending w.parcel → Resumes session h q Did h' q' →
    (r : Returning) × (sent : Sent) × Resumed session (part_of h) r (part_of h')
    × ComesBack n sending w.head sent r
    × (q' ≡ finished q (record { head = w.head; used = sent.used; parcel = sent.parcel }))

-- whatever the device may send is of the session for which it is sent
abbrev pub SendsFit : HostState → HostState → Type 0
SendsFit h h' =
    (d : Delivery) → Announced (part_of h) d (part_of h') → session_of d.msg ≡ d.session

-- An event goes out by the device's part of the step, and its chain brings it.
abbrev pub IsAnnounced : Type 0
IsAnnounced =
    (k head : ℕ) (p : Parcel) (descs : List Desc) (h h' : HostState) (sent : Sent) →
    IsEventChain k [] p → chain_in p ≡ Ok descs → SendsFit h h' →
    Announce p descs head h sent h' →
    (d : Delivery) × Announced (part_of h) d (part_of h') × BringsBack k head sent d
