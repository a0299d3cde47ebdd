-- The list of steps has just those that may come next.
use Rattle.std.proofs.Common.{◌≡◌, ℕ, ◌<◌, Bool, true, false, not, List, [], ◌++◌, None, is_some, length, get_or, map, refl, sym, ◌∙◌, eqb}
use Rattle.std.specs.List.{All, Contains, find}
use Rattle.std.proofs.lemmas.Bool.{and_parts, and_from, false≢true}
use Rattle.std.proofs.lemmas.List.Elements.{All-nil, All-cons, All-append, All-map, All-filter, Contains-get_or, filter_passes, Contains-append_left, Contains-append_right}
use Rattle.vm_job.specs.declared.job_out.JobOut.{JobOut}
use Rattle.vm_device.specs.Device.{session_of, is_ready, is_at_rest, ready_ids}
use Rattle.vm_device.specs.Stream.{outstanding}
use Rattle.vm_host.specs.Part.{Part, Call}
use Rattle.vm_guest.specs.Guest.{process_at, no_process}
use Rattle.vm_guest.specs.Process.{ProcessState, issuing, leasing, lease_out}
use Rattle.vm_realm.specs.declared.step.Step.{Step}
use Rattle.vm_realm.specs.declared.step.Step.TheVariants.{Issue, Execute, Resume, Begin, Finish, Announce, Collect, Pump, Lease, GiveBack}
use Rattle.vm_realm.specs.World.{WorldState, jobs_out}
use Rattle.vm_realm.specs.Enabled.{is_some_of, waits, can_begin, can_resume, can_announce, is_enabled, listed, processes_that, resumable_ids, beginning_ids, enabled}
use Rattle.vm_realm.proofs.ListLemmas.{in_front, contains_map, contains_filter, found_in, finds_in, some_mapped, tested_at, placed, all_placed}

-- ---- of one kind

listed_in : (b : Bool) (s : Step) → b ≡ true → Contains (listed b s) s
listed_in true s may = in_front s []
listed_in false s may = absurd (false≢true may)

listed_all : (P : Step → Type 0) (b : Bool) (s : Step) → (b ≡ true → P s) → All P (listed b s)
listed_all P true s is = All-cons P s [] (is refl) (All-nil P)
listed_all P false s is = All-nil P

process_listed : (test : ProcessState → Bool) (w : WorldState) (n : ℕ) → test no_process ≡ false → test (process_at w.guest n) ≡ true → Contains (processes_that test w) n
process_listed test w n none passes =
    placed (map test w.guest.processes) n (tested_at test no_process none w.guest.processes n ∙ passes)

processes_pass : (P : ℕ → Type 0) (test : ProcessState → Bool) (w : WorldState) → test no_process ≡ false → ((n : ℕ) → test (process_at w.guest n) ≡ true → P n) → All P (processes_that test w)
processes_pass P test w none each =
    all_placed P (map test w.guest.processes) (λ n flag. each n (sym (tested_at test no_process none w.guest.processes n) ∙ flag))

resume_listed : (host : Part) (id : ℕ) → can_resume host id ≡ true → Contains (resumable_ids host) id
resume_listed host id may =
    let parts = and_parts (waits host id) (is_at_rest (session_of host.device id)) may in
    contains_filter (λ i. is_at_rest (session_of host.device i)) (map (λ c. c.session) host.calls) id parts.1
    (found_in (λ (c : Call). c.session) id host.calls parts.0)

waits_at : (host : Part) (k d : ℕ) → k < length (map (λ (c : Call). c.session) host.calls) → waits host (get_or (map (λ (c : Call). c.session) host.calls) k d) ≡ true
waits_at host k d within =
    let ids : List ℕ = map (λ (c : Call). c.session) host.calls in
    finds_in (λ (c : Call). c.session) (get_or ids k d) host.calls (Contains-get_or ids k d within)

resumes_can : (host : Part) → All (λ id. can_resume host id ≡ true) (resumable_ids host)
resumes_can host k d within =
    let rest : (i : ℕ) → Bool = λ i. is_at_rest (session_of host.device i) in
    let ids : List ℕ = map (λ (c : Call). c.session) host.calls in
    and_from (waits host (get_or (resumable_ids host) k d)) (is_at_rest (session_of host.device (get_or (resumable_ids host) k d)))
    (All-filter rest (λ i. waits host i ≡ true) ids (waits_at host) k d within)
    (filter_passes rest ids k d within)

begin_listed : (host : Part) (id : ℕ) → can_begin host id ≡ true → Contains (beginning_ids host) id
begin_listed host id may =
    let parts = and_parts (not (waits host id)) (is_ready (session_of host.device id)) may in
    contains_filter (λ i. not (waits host i)) (ready_ids host.device) id parts.0
    (placed (map is_ready host.device.sessions) id (tested_at is_ready None refl host.device.sessions id ∙ parts.1))

begins_can : (host : Part) → All (λ id. can_begin host id ≡ true) (beginning_ids host)
begins_can host k d within =
    let free : (i : ℕ) → Bool = λ i. not (waits host i) in
    let P : ℕ → Type 0 = λ i. is_ready (session_of host.device i) ≡ true in
    let ready : All P (ready_ids host.device) =
    all_placed P (map is_ready host.device.sessions) (λ i flag. sym (tested_at is_ready None refl host.device.sessions i) ∙ flag) in
    and_from (not (waits host (get_or (beginning_ids host) k d))) (is_ready (session_of host.device (get_or (beginning_ids host) k d)))
    (filter_passes free (ready_ids host.device) k d within)
    (All-filter free P (ready_ids host.device) ready k d within)

finish_listed : (w : WorldState) (n : ℕ) → is_some (outstanding w.host.device n) ≡ true → Contains (map (λ (e : JobOut). e.spec.number) (jobs_out w)) n
finish_listed w n may =
    found_in (λ (e : JobOut). e.spec.number) n (jobs_out w) (sym (some_mapped (λ (e : JobOut). e.spec) (find (λ (e : JobOut). eqb e.spec.number n) (jobs_out w))) ∙ may)

finishes_can : (w : WorldState) → All (λ n. is_some (outstanding w.host.device n) ≡ true) (map (λ (e : JobOut). e.spec.number) (jobs_out w))
finishes_can w k d within =
    let numbers : List ℕ = map (λ (e : JobOut). e.spec.number) (jobs_out w) in
    some_mapped (λ (e : JobOut). e.spec) (find (λ (e : JobOut). eqb e.spec.number (get_or numbers k d)) (jobs_out w))
    ∙ finds_in (λ (e : JobOut). e.spec.number) (get_or numbers k d) (jobs_out w) (Contains-get_or numbers k d within)

-- ---- all of them

abbrev issuers : WorldState → List ℕ
issuers w = processes_that (λ p. is_some (issuing p)) w

abbrev lenders : WorldState → List ℕ
lenders w = processes_that (λ p. is_some (leasing p)) w

abbrev borrowers : WorldState → List ℕ
borrowers w = processes_that (λ p. is_some (lease_out p)) w

abbrev numbers_out : WorldState → List ℕ
numbers_out w = map (λ e. e.spec.number) (jobs_out w)

-- what the list has behind each kind
abbrev from_leases : WorldState → List Step
from_leases w = map Lease (lenders w) ++ map GiveBack (borrowers w)

abbrev from_pump : WorldState → List Step
from_pump w = listed (is_some_of w.events) Pump ++ from_leases w

abbrev from_collect : WorldState → List Step
from_collect w = listed (is_some_of w.replies) Collect ++ from_pump w

abbrev from_announce : WorldState → List Step
from_announce w = listed (can_announce w) Announce ++ from_collect w

abbrev from_finish : WorldState → List Step
from_finish w = map Finish (numbers_out w) ++ from_announce w

abbrev from_begin : WorldState → List Step
from_begin w = map Begin (beginning_ids w.host) ++ from_finish w

abbrev from_resume : WorldState → List Step
from_resume w = map Resume (resumable_ids w.host) ++ from_begin w

abbrev from_execute : WorldState → List Step
from_execute w = listed (is_some_of w.requests) Execute ++ from_resume w

in_execute : (w : WorldState) (s : Step) → Contains (from_execute w) s → Contains (enabled w) s
in_execute w s there = Contains-append_right (map Issue (issuers w)) (from_execute w) s there

in_resume : (w : WorldState) (s : Step) → Contains (from_resume w) s → Contains (enabled w) s
in_resume w s there = in_execute w s (Contains-append_right (listed (is_some_of w.requests) Execute) (from_resume w) s there)

in_begin : (w : WorldState) (s : Step) → Contains (from_begin w) s → Contains (enabled w) s
in_begin w s there = in_resume w s (Contains-append_right (map Resume (resumable_ids w.host)) (from_begin w) s there)

in_finish : (w : WorldState) (s : Step) → Contains (from_finish w) s → Contains (enabled w) s
in_finish w s there = in_begin w s (Contains-append_right (map Begin (beginning_ids w.host)) (from_finish w) s there)

in_announce : (w : WorldState) (s : Step) → Contains (from_announce w) s → Contains (enabled w) s
in_announce w s there = in_finish w s (Contains-append_right (map Finish (numbers_out w)) (from_announce w) s there)

in_collect : (w : WorldState) (s : Step) → Contains (from_collect w) s → Contains (enabled w) s
in_collect w s there = in_announce w s (Contains-append_right (listed (can_announce w) Announce) (from_collect w) s there)

in_pump : (w : WorldState) (s : Step) → Contains (from_pump w) s → Contains (enabled w) s
in_pump w s there = in_collect w s (Contains-append_right (listed (is_some_of w.replies) Collect) (from_pump w) s there)

in_leases : (w : WorldState) (s : Step) → Contains (from_leases w) s → Contains (enabled w) s
in_leases w s there = in_pump w s (Contains-append_right (listed (is_some_of w.events) Pump) (from_leases w) s there)

pub lists_enabled : (w : WorldState) (s : Step) → is_enabled w s ≡ true → Contains (enabled w) s
lists_enabled w (Issue p) may =
    Contains-append_left (map Issue (issuers w)) (from_execute w) (Issue p)
    (contains_map Issue (issuers w) p (process_listed (λ p. is_some (issuing p)) w p refl may))
lists_enabled w Execute may =
    in_execute w Execute (Contains-append_left (listed (is_some_of w.requests) Execute) (from_resume w) Execute (listed_in (is_some_of w.requests) Execute may))
lists_enabled w (Resume id) may =
    in_resume w (Resume id) (Contains-append_left (map Resume (resumable_ids w.host)) (from_begin w) (Resume id)
    (contains_map Resume (resumable_ids w.host) id (resume_listed w.host id may)))
lists_enabled w (Begin id) may =
    in_begin w (Begin id) (Contains-append_left (map Begin (beginning_ids w.host)) (from_finish w) (Begin id)
    (contains_map Begin (beginning_ids w.host) id (begin_listed w.host id may)))
lists_enabled w (Finish n) may =
    in_finish w (Finish n) (Contains-append_left (map Finish (numbers_out w)) (from_announce w) (Finish n)
    (contains_map Finish (numbers_out w) n (finish_listed w n may)))
lists_enabled w Announce may =
    in_announce w Announce (Contains-append_left (listed (can_announce w) Announce) (from_collect w) Announce (listed_in (can_announce w) Announce may))
lists_enabled w Collect may =
    in_collect w Collect (Contains-append_left (listed (is_some_of w.replies) Collect) (from_pump w) Collect (listed_in (is_some_of w.replies) Collect may))
lists_enabled w Pump may =
    in_pump w Pump (Contains-append_left (listed (is_some_of w.events) Pump) (from_leases w) Pump (listed_in (is_some_of w.events) Pump may))
lists_enabled w (Lease p) may =
    in_leases w (Lease p) (Contains-append_left (map Lease (lenders w)) (map GiveBack (borrowers w)) (Lease p)
    (contains_map Lease (lenders w) p (process_listed (λ p. is_some (leasing p)) w p refl may)))
lists_enabled w (GiveBack p) may =
    in_leases w (GiveBack p) (Contains-append_right (map Lease (lenders w)) (map GiveBack (borrowers w)) (GiveBack p)
    (contains_map GiveBack (borrowers w) p (process_listed (λ p. is_some (lease_out p)) w p refl may)))

pub enabled_may_come : (w : WorldState) → All (λ s. is_enabled w s ≡ true) (enabled w)
enabled_may_come w =
    let P : Step → Type 0 = λ s. is_enabled w s ≡ true in
    let issues : All P (map Issue (issuers w)) =
    All-map P Issue (issuers w) (processes_pass (λ n. P (Issue n)) (λ p. is_some (issuing p)) w refl (λ n may. may)) in
    let executes : All P (listed (is_some_of w.requests) Execute) = listed_all P (is_some_of w.requests) Execute (λ may. may) in
    let resumes : All P (map Resume (resumable_ids w.host)) = All-map P Resume (resumable_ids w.host) (resumes_can w.host) in
    let begins : All P (map Begin (beginning_ids w.host)) = All-map P Begin (beginning_ids w.host) (begins_can w.host) in
    let finishes : All P (map Finish (numbers_out w)) = All-map P Finish (numbers_out w) (finishes_can w) in
    let announces : All P (listed (can_announce w) Announce) = listed_all P (can_announce w) Announce (λ may. may) in
    let collects : All P (listed (is_some_of w.replies) Collect) = listed_all P (is_some_of w.replies) Collect (λ may. may) in
    let pumps : All P (listed (is_some_of w.events) Pump) = listed_all P (is_some_of w.events) Pump (λ may. may) in
    let leases : All P (map Lease (lenders w)) =
    All-map P Lease (lenders w) (processes_pass (λ n. P (Lease n)) (λ p. is_some (leasing p)) w refl (λ n may. may)) in
    let returns : All P (map GiveBack (borrowers w)) =
    All-map P GiveBack (borrowers w) (processes_pass (λ n. P (GiveBack n)) (λ p. is_some (lease_out p)) w refl (λ n may. may)) in
    All-append P (map Issue (issuers w)) (from_execute w) issues
    (All-append P (listed (is_some_of w.requests) Execute) (from_resume w) executes
    (All-append P (map Resume (resumable_ids w.host)) (from_begin w) resumes
    (All-append P (map Begin (beginning_ids w.host)) (from_finish w) begins
    (All-append P (map Finish (numbers_out w)) (from_announce w) finishes
    (All-append P (listed (can_announce w) Announce) (from_collect w) announces
    (All-append P (listed (is_some_of w.replies) Collect) (from_pump w) collects
    (All-append P (listed (is_some_of w.events) Pump) (from_leases w) pumps
    (All-append P (map Lease (lenders w)) (map GiveBack (borrowers w)) leases returns))))))))
