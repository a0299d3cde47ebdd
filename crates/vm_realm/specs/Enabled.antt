-- Which steps may come next in a world, and in which order they are listed.
use Rattle.std.specs.Prelude.{ℕ, Bool, true, false, ◌&&◌, ◌++◌, not, nat_lt, is_some, List, [], ◌∷◌, map}
use Rattle.std.specs.List.{filter}
use Rattle.vm_marks.specs.Marks.{places_of}
use Rattle.vm_device.specs.Device.{session_of, is_ready, is_at_rest, ready_ids}
use Rattle.vm_device.specs.Stream.{outstanding}
use Rattle.vm_host.specs.Part.{Part, call_for}
use Rattle.vm_guest.specs.Guest.{process_at, can_issue, can_lease}
use Rattle.vm_guest.specs.Process.{ProcessState, issuing, leasing, lease_out}
use Rattle.vm_realm.specs.declared.step.Step.{Step}
use Rattle.vm_realm.specs.declared.step.Step.TheVariants.{Issue, Execute, Resume, Begin, Finish, Announce, Collect, Pump, Lease, GiveBack}
use Rattle.vm_realm.specs.World.{WorldState, jobs_out}

abbrev pub is_some_of : {A : Type 0} → List A → Bool
is_some_of [] = false
is_some_of (x ∷ xs) = true

-- ---- one kind of step

-- a call of the session waits
abbrev pub waits : Part → ℕ → Bool
waits host session = is_some (call_for session host.calls)

-- a job of the session can begin: none does while a call of it waits
abbrev pub can_begin : Part → ℕ → Bool
can_begin host session = not (waits host session) && is_ready (session_of host.device session)

-- a call of the session waits, and the session is quiet
abbrev pub can_resume : Part → ℕ → Bool
can_resume host session = waits host session && is_at_rest (session_of host.device session)

-- an event is unsent, and a chain waits for it
abbrev pub can_announce : WorldState → Bool
can_announce w = is_some_of w.host.device.unsent && nat_lt 0 w.chains

-- the step may come next
abbrev pub is_enabled : WorldState → Step → Bool
is_enabled w (Issue p) = can_issue w.guest p
is_enabled w Execute = is_some_of w.requests
is_enabled w (Resume session) = can_resume w.host session
is_enabled w (Begin session) = can_begin w.host session
is_enabled w (Finish number) = is_some (outstanding w.host.device number)
is_enabled w Announce = can_announce w
is_enabled w Collect = is_some_of w.replies
is_enabled w Pump = is_some_of w.events
is_enabled w (Lease p) = can_lease w.guest p
is_enabled w (GiveBack p) = is_some (lease_out (process_at w.guest p))

-- ---- all of them

-- the step, where it may come next
abbrev pub listed : Bool → Step → List Step
listed true s = s ∷ []
listed false s = []

-- the places of the processes that pass the test
abbrev pub processes_that : (ProcessState → Bool) → WorldState → List ℕ
processes_that test w = places_of (map test w.guest.processes)

-- the sessions whose waiting call can go on, and those for which a job can begin, by rising id
abbrev pub resumable_ids : Part → List ℕ
resumable_ids host =
    filter (λ id. is_at_rest (session_of host.device id)) (map (λ c. c.session) host.calls)

abbrev pub beginning_ids : Part → List ℕ
beginning_ids host = filter (λ id. not (waits host id)) (ready_ids host.device)

-- The steps that may come next, in order: kind by kind, and within a kind by rising number of the
-- process, the session or the job.
abbrev pub enabled : WorldState → List Step
enabled w =
    map Issue (processes_that (λ p. is_some (issuing p)) w)
    ++ (listed (is_some_of w.requests) Execute
    ++ (map Resume (resumable_ids w.host)
    ++ (map Begin (beginning_ids w.host)
    ++ (map Finish (map (λ e. e.spec.number) (jobs_out w))
    ++ (listed (can_announce w) Announce
    ++ (listed (is_some_of w.replies) Collect
    ++ (listed (is_some_of w.events) Pump
    ++ (map Lease (processes_that (λ p. is_some (leasing p)) w)
    ++ map GiveBack (processes_that (λ p. is_some (lease_out p)) w)))))))))

-- a step that begins a line
abbrev pub begins_line : Step → Bool
begins_line (Issue p) = true
begins_line (Lease p) = true
begins_line s = false
