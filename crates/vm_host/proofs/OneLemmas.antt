-- Where one call waits at most, its chain is out.
use Rattle.std.proofs.Common.{◌≡◌, ℕ, ◌==◌, ◌<◌, ◌∙◌, ◌++◌, Bool, true, false, Option, Some, None, Result, Ok, Err, List, [], ◌∷◌, length, map, nat_lt, refl, sym, subst, arith, ap, Contains, if◌then◌else◌}
use Rattle.std.specs.Prelude.{⊤, IfSome}
use Rattle.std.proofs.lemmas.Bool.Decides.{nat_tests}
use Rattle.std.proofs.lemmas.List.{map-append}
use Rattle.std.proofs.lemmas.List.Elements.{Contains-push}
use Rattle.vm_chain.specs.Chain.{writable_bytes}
use Rattle.vm_chain.specs.declared.desc.Desc.{Desc}
use Rattle.vm_chain.specs.declared.fault.ChainFault.{ChainFault}
use Rattle.vm_link.specs.Queue.{Queue, out_heads}
use Rattle.vm_link.specs.declared.chains.OutChain.{OutChain}
use Rattle.vm_link.specs.declared.link.Turn.{Turn}
use Rattle.vm_link.specs.declared.parcel.Parcel.{Parcel}
use Rattle.vm_wire.specs.declared.command.Command.{Command}
use Rattle.vm_wire.specs.declared.command.CmdFault.{CmdFault}
use Rattle.vm_device.specs.Device.{session_of, is_at_rest}
use Rattle.vm_device.specs.Perform.{must_wait}
use Rattle.vm_host.specs.Chains.{Sent, chain_in, asked_by, named_session}
use Rattle.vm_host.specs.Growth.{IsOneOut}
use Rattle.vm_host.specs.Host.{HostState, waiting_for, with_call, without_call, waits, is_waited_in}
use Rattle.vm_job.specs.Job.{JobParts}
use Rattle.vm_host.specs.Steps.{Announces, AnnouncesIf, Begins, BeginsUnless, Executes, IsAlone, IsOut, Resumes, ResumesCall, Serves, ServesAsked, ServesCommand, ServesRoom, moved_on}
use Rattle.vm_host.specs.declared.waiting.Waiting.{Waiting}
use Rattle.vm_host.proofs.DoneLemmas.{asks_all}

none : {A : Type 0} (xs : List A) → length xs ≡ 0 → xs ≡ []
none [] is = refl
none (x ∷ xs) is = cc

same_out : (calls calls' : List Waiting) (q : Queue) → calls' ≡ calls → IsOneOut calls q → IsOneOut calls' q
same_out calls calls' q same was = subst (λ ws. IsOneOut ws q) (sym same) was

none_out : (calls : List Waiting) (q : Queue) → calls ≡ [] → IsOneOut calls q
none_out calls q is = subst (λ ws. IsOneOut ws q) (sym is) tt

-- ---- a chain is served where no call waits

-- what is pushed to the chains that are out is among them
pushed : (outs : List OutChain) (c : OutChain) → Contains (map (λ (x : OutChain). x.head) (outs ++ c ∷ [])) c.head
pushed outs c = rw (map-append (λ (x : OutChain). x.head) outs (c ∷ [])) (Contains-push (map (λ (x : OutChain). x.head) outs) c.head)

waits_out : (h h' : HostState) (q q' : Queue) (ps : List Parcel) (p : Parcel) (session head count : ℕ) (sent : Option Sent) → h.waiting ≡ [] → sent ≡ None
    → h' ≡ record h { waiting = with_call (record { session = session; head = head; parcel = p }) h.waiting } → q' ≡ moved_on q ps head count sent → IsOneOut h'.waiting q'
waits_out h h' q q' ps p session head count sent alone waiting is moved =
    let call : Waiting = record { session = session; head = head; parcel = p } in
    let one : h'.waiting ≡ call ∷ [] = ap (λ (x : HostState). x.waiting) is ∙ ap (λ ws. with_call call ws) alone in
    let here : q' ≡ moved_on q ps head count None = moved ∙ ap (λ o. moved_on q ps head count o) waiting in
    subst (λ ws. IsOneOut ws q') (sym one) (subst (λ (x : Queue). Contains (out_heads x) head) (sym here) (pushed q.out (record { head = head; count = count })))

served_out : (o : Result (List Desc) ChainFault) (h h' : HostState) (q q' : Queue) (p : Parcel) (ps : List Parcel) (head count : ℕ) (sent : Option Sent) → h.waiting ≡ []
    → Serves o h p head sent h' → q' ≡ moved_on q ps head count sent → IsOneOut h'.waiting q'
served_out (Err fault) h h' q q' p ps head count sent alone does moved = none_out h'.waiting q' (ap (λ (x : HostState). x.waiting) does.1 ∙ alone)
served_out (Ok descs) h h' q q' p ps head count sent alone does moved = by_room (nat_lt (writable_bytes descs) 8) does
  where
    same : h' ≡ h → IsOneOut h'.waiting q'
    same is = none_out h'.waiting q' (ap (λ (x : HostState). x.waiting) is ∙ alone)

    by_wait : (b : Bool) (c : Command) → ServesCommand b h p head descs c sent h' → IsOneOut h'.waiting q'
    by_wait true c does = waits_out h h' q q' ps p does.1.0 head count sent alone does.0 does.1.2 moved
    by_wait false c does = none_out h'.waiting q' (ap (λ (x : HostState). x.waiting) does.4 ∙ alone)

    by_asked : (o : Result Command CmdFault) → ServesAsked o h p head descs sent h' → IsOneOut h'.waiting q'
    by_asked (Ok c) does = by_wait (must_wait h.device c) c does
    by_asked (Err f) does = same does.1

    by_room : (b : Bool) → ServesRoom b h p head descs sent h' → IsOneOut h'.waiting q'
    by_room true does = same does.1
    by_room false does = by_asked (asked_by descs p.pages) does

pub executes_out : (waiting : List Parcel) (h h' : HostState) (q q' : Queue) (turn : Turn) → length h.waiting ≡ 0 → Executes waiting h q turn h' q' → IsOneOut h'.waiting q'
executes_out [] h h' q q' turn alone executes = none_out h'.waiting q' (ap (λ (x : HostState). x.waiting) executes.1 ∙ none h.waiting alone)
executes_out (p ∷ ps) h h' q q' turn alone executes =
    served_out (chain_in p) h h' q q' p ps executes.1.0 (length p.table) executes.1.1 (none h.waiting alone) executes.1.3 executes.1.4

-- ---- a call goes on

only : (session : ℕ) (w : Waiting) (b : Bool) (v : Waiting) → (w.session == session) ≡ b → (if b then Some w else None) ≡ Some v → without_call v.session (w ∷ []) ≡ []
only session w true v is found =
    let same : w ≡ v = cc in
    let own : (w.session == v.session) ≡ true = grind (arith, nat_tests, same) in
    ap (λ b. if b then [] else w ∷ []) own
only session w false v is found = cc

resumed_none : (session : ℕ) (h h' : HostState) (q q' : Queue) (calls : List Waiting) (v : Waiting) → h.waiting ≡ calls → IsOneOut calls q → waiting_for session calls ≡ Some v
    → h'.waiting ≡ without_call v.session h.waiting → IsOneOut h'.waiting q'
resumed_none session h h' q q' [] v is was found rest = cc
resumed_none session h h' q q' (w ∷ []) v is was found rest =
    none_out h'.waiting q' (rest ∙ ap (λ ws. without_call v.session ws) is ∙ only session w (w.session == session) v refl found)
resumed_none session h h' q q' (w ∷ (u ∷ us)) v is was found rest = absurd was

pub resumes_out : (session : ℕ) (h h' : HostState) (q q' : Queue) (turn : Turn) → Resumes session h q turn h' q' → IsOneOut h.waiting q → IsOneOut h'.waiting q'
resumes_out session h h' q q' turn resumes was = by_both (is_at_rest (session_of h.device session)) (waiting_for session h.waiting) refl resumes
  where
    same : h' ≡ h → q' ≡ q → IsOneOut h'.waiting q'
    same is stays = subst (λ (x : Queue). IsOneOut h'.waiting x) (sym stays) (same_out h.waiting h'.waiting q (ap (λ (x : HostState). x.waiting) is) was)

    by_both : (b : Bool) (o : Option Waiting) → waiting_for session h.waiting ≡ o → ResumesCall b o h q turn h' q' → IsOneOut h'.waiting q'
    by_both true (Some w) found does = resumed_none session h h' q q' h.waiting w refl was found (ap (λ (x : HostState). x.waiting) does.1.3)
    by_both true None found does = same does.1 does.2
    by_both false (Some w) found does = same does.1 does.2
    by_both false None found does = same does.1 does.2

-- ---- what may be asked then

out_if : (b : Bool) (w : Waiting) (q : Queue) → Contains (out_heads q) w.head → IfSome (if b then Some w else None) (λ v. Contains (out_heads q) v.head)
out_if true w q there = there
out_if false w q there = tt

by_calls : (calls : List Waiting) (session : ℕ) (q : Queue) → IsOneOut calls q → IfSome (waiting_for session calls) (λ w. Contains (out_heads q) w.head)
by_calls [] session q was = tt
by_calls (w ∷ []) session q was = out_if (w.session == session) w q was
by_calls (w ∷ (v ∷ ws)) session q was = absurd was

pub is_out : (session : ℕ) (h : HostState) (q : Queue) → IsOneOut h.waiting q → IsOut session h q
is_out session h q was = by_calls h.waiting session q was

none_waits : (h : HostState) (o : Option ℕ) → h.waiting ≡ [] → IfSome o (λ session. waits h session ≡ false)
none_waits h None alone = tt
none_waits h (Some session) alone = ap (λ ws. is_waited_in ws session) alone

pub is_alone : (h : HostState) (waiting : List Parcel) → length h.waiting ≡ 0 → IsAlone h waiting
is_alone h waiting alone = asks_all (λ c. IfSome (named_session c) (λ session. waits h session ≡ false)) waiting (λ c. none_waits h (named_session c) (none h.waiting alone))

-- ---- jobs and events leave the calls that wait

begins_calls : (b : Bool) (id : ℕ) (h h' : HostState) (job : Option JobParts) → BeginsUnless b id h job h' → h'.waiting ≡ h.waiting
begins_calls true id h h' job does = ap (λ (x : HostState). x.waiting) does.1
begins_calls false id h h' job does = does.1

pub begins_out : (id : ℕ) (h h' : HostState) (job : Option JobParts) (q : Queue) → Begins id h job h' → IsOneOut h.waiting q → IsOneOut h'.waiting q
begins_out id h h' job q begins was = same_out h.waiting h'.waiting q (begins_calls (waits h id) id h h' job begins) was

announces_calls : (b : Bool) (ps : List Parcel) (h h' : HostState) (q q' : Queue) (turn : Turn) → AnnouncesIf b ps h q turn h' q' → h'.waiting ≡ h.waiting
announces_calls true (p ∷ ps) h h' q q' turn does = does.1.5.3
announces_calls true [] h h' q q' turn does = ap (λ (x : HostState). x.waiting) does.1
announces_calls false ps h h' q q' turn does = ap (λ (x : HostState). x.waiting) does.1

pub announces_out : (h h' : HostState) (q q' r r' : Queue) (turn : Turn) → Announces h q turn h' q' → r' ≡ r → IsOneOut h.waiting r → IsOneOut h'.waiting r'
announces_out h h' q q' r r' turn announces same was =
    subst (λ (x : Queue). IsOneOut h'.waiting x) (sym same) (same_out h.waiting h'.waiting r (announces_calls (nat_lt 0 (length h.device.unsent)) q.waiting h h' q q' turn announces) was)
