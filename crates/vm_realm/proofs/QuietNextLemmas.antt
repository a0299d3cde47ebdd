-- After each step at most one chain of each process is under way, and all event chains are there.
use Rattle.std.proofs.Common.{Bool, List, None, Option, Some, [], ap, arith, cond, eqb, false, if◌then◌else◌, inl, inr, length, length-append, nat_lt, refl, subst, sym, true, ℕ, ◌*◌, ◌++◌, ◌+◌, ◌<◌, ◌∙◌, ◌∷◌, ◌≡◌, ◌⊎◌}
use Rattle.std.proofs.lemmas.Bool.{cases_eq, cond-false, cond-true, eq-eqb, ne_eqb}
use Rattle.std.proofs.lemmas.List.{get_or-set_other, get_or-set_same, length-set, length_push}
use Rattle.std.proofs.lemmas.List.Elements.{filter-append}
use Rattle.std.proofs.lemmas.Option.{none-some, same_Some}
use Rattle.std.specs.List.{filter, find}
use Rattle.vm_exchange.specs.declared.way.Way.{Way}
use Rattle.vm_exchange.specs.declared.way.Way.TheVariants.{AnsweredHere, Crosses, TouchesMemory, Waits}
use Rattle.vm_guest.specs.Events.{settled}
use Rattle.vm_guest.specs.Guest.{GuestState, no_process, process_at, with_process}
use Rattle.vm_guest.specs.Lines.{Begins, BeginsCall, after_lease, returned_to}
use Rattle.vm_guest.specs.Message.{OfCall, OfRaw, Sending, posting_of}
use Rattle.vm_guest.specs.Part.{postings}
use Rattle.vm_guest.specs.Process.{ProcessState, handle_at, is_crossing, with_log}
use Rattle.vm_handle.specs.Handle.{way_from}
use Rattle.vm_host.specs.Part.{Call as WaitingCall}
use Rattle.vm_host.specs.Waiting.{put_in, taken_out}
use Rattle.vm_local.specs.declared.call.Call.{Call}
use Rattle.vm_log.specs.declared.leased.Leased.{Leased}
use Rattle.vm_log.specs.declared.leased.Leased.TheVariants.{Answered, Idle, Out as GoneOut}
use Rattle.vm_pump.specs.Pump.{handle_room}
use Rattle.vm_script.specs.declared.line.LineKind.{LineKind}
use Rattle.vm_script.specs.declared.line.LineKind.TheVariants.{OnHandle, Raw}
use Rattle.vm_wire.specs.Message.{Posting, Returning}
use Rattle.vm_realm.proofs.AfterLemmas.{IsAnnounced, IsAnsweredFirst, IsCollected, IsExecuted, IsGivenBack, IsIssued, IsKeptFirst, IsLeased, IsResumed, has_collected, is_announced, is_collected, is_executed, is_finished, is_given_back, is_issued, is_job_begun, is_leased_to, is_resumed, line_begun, reply_collected}
use Rattle.vm_realm.proofs.LendLemmas.{with_one}
use Rattle.vm_realm.proofs.PumpLiftLemmas.{pump_keeps}
use Rattle.vm_realm.specs.Slice.{replies_of, requests_of}
use Rattle.vm_realm.specs.SliceSteps.{TakesNone, told_by}
use Rattle.vm_realm.specs.Sound.{IsQuiet, IsSound, one_if, out_count}
use Rattle.vm_realm.specs.Steps.{Steps}
use Rattle.vm_realm.specs.World.{WorldState}
use Rattle.vm_realm.specs.declared.step.Step.{Step}
use Rattle.vm_realm.specs.declared.step.Step.TheVariants.{Announce, Begin, Collect, Execute, Finish, GiveBack, Issue, Lease, Pump, Resume}

-- ---- how many there are of a process

counted : {A : Type 0} (b : Bool) (x : A) (xs : List A) → length (cond b (x ∷ xs) xs) ≡ one_if b + length xs
counted true x xs = omega arith
counted false x xs = omega arith

first_counted : {A : Type 0} (p : A → Bool) (x : A) (xs : List A) → length (filter p (x ∷ xs)) ≡ one_if (p x) + length (filter p xs)
first_counted p x xs = counted (p x) x (filter p xs)

both_counted : {A : Type 0} (p : A → Bool) (xs ys : List A) → length (filter p (xs ++ ys)) ≡ length (filter p xs) + length (filter p ys)
both_counted p xs ys = ap length (filter-append p xs ys) ∙ length-append (filter p xs) (filter p ys)

last_counted : {A : Type 0} (p : A → Bool) (xs : List A) (x : A) → length (filter p (xs ++ x ∷ [])) ≡ length (filter p xs) + one_if (p x)
last_counted p xs x = omega (arith, both_counted p xs (x ∷ []), first_counted p x [])

put_counted : {A : Type 0} (p : A → Bool) (number : A → ℕ) (x : A) (xs : List A) → length (filter p (put_in number x xs)) ≡ length (filter p xs) + one_if (p x)
put_counted p number x [] = omega (arith, first_counted p x [])
put_counted {A = A} p number x (y ∷ ys) = by_test (nat_lt (number y) (number x)) (put_counted p number x ys)
  where
    by_test : (b : Bool) → length (filter p (put_in number x ys)) ≡ length (filter p ys) + one_if (p x) → length (filter p (if b then y ∷ put_in number x ys else x ∷ (y ∷ ys))) ≡ length (filter p (y ∷ ys)) + one_if (p x)
    by_test true rest = omega (arith, rest, first_counted p y (put_in number x ys), first_counted p y ys)
    by_test false rest = omega (arith, first_counted p x (y ∷ ys))

out_counted : {A : Type 0} (p : A → Bool) (number : A → ℕ) (k : ℕ) (x : A) (xs : List A) → find (λ y. eqb (number y) k) xs ≡ Some x → length (filter p (taken_out number k xs)) + one_if (p x) ≡ length (filter p xs)
out_counted p number k x [] finds = absurd (none-some x finds)
out_counted {A = A} p number k x (y ∷ ys) finds = by_test (eqb (number y) k) finds (λ rest. out_counted p number k x ys rest)
  where
    by_test : (b : Bool) → cond b (Some y) (find (λ z. eqb (number z) k) ys) ≡ Some x → (find (λ z. eqb (number z) k) ys ≡ Some x → length (filter p (taken_out number k ys)) + one_if (p x) ≡ length (filter p ys))
        → length (filter p (if b then ys else y ∷ taken_out number k ys)) + one_if (p x) ≡ length (filter p (y ∷ ys))
    by_test true finds rest =
        let same : ◌≡◌ {A = ℕ} (one_if (p y)) (one_if (p x)) = ap (λ z. one_if (p z)) (same_Some y x finds) in
        omega (arith, same, first_counted p y ys)
    by_test false finds rest = omega (arith, rest finds, first_counted p y ys, first_counted p y (taken_out number k ys))

-- ---- a process is exchanged

-- what a process has out, by what is on the link
abbrev out_with : List Posting → List WaitingCall → List Returning → ℕ → ℕ
out_with ms cs rs n =
    length (filter (λ (m : Posting). eqb m.request.who n) ms) + length (filter (λ (c : WaitingCall). eqb c.posting.request.who n) cs) + length (filter (λ (r : Returning). eqb r.reply.who n) rs)

-- a process in which nothing crosses, before and after
free_exchange : (w : WorldState) (n : ℕ) (q : ProcessState) → n < length w.guest.processes → is_crossing (process_at w.guest n).status ≡ false → is_crossing q.status ≡ false → IsQuiet w → IsQuiet (with_one w n q)
free_exchange w n q within before behind quiet = record {
  one = λ m. quiet.one m ∙ elim (cases_eq m n) [
    | inl same ↦ ap (λ i. one_if (is_crossing (process_at w.guest i).status)) same ∙ (ap one_if (before ∙ sym behind)
        ∙ sym (ap (λ i. one_if (is_crossing (process_at (with_process w.guest n q) i).status)) same ∙ ap (λ (p : ProcessState). one_if (is_crossing p.status)) (get_or-set_same w.guest.processes n q no_process within)))
    | inr other ↦ sym (ap (λ (p : ProcessState). one_if (is_crossing p.status)) (get_or-set_other w.guest.processes n m q no_process other))
  ];
  chains = quiet.chains;
  room = quiet.room ∙ ap (λ k. handle_room * k) (sym (length-set w.guest.processes n q));
}

-- ---- Issue

sends_call : (way : Way) (line h : ℕ) (call : Call) (p q : ProcessState) (sends : Option Sending) → BeginsCall way line h call p q sends → length (postings 0 sends) ≡ one_if (is_crossing q.status)
sends_call (Crosses c) line h call p q sends (along, handle, goes, after, sent) = ap (λ o. length (postings 0 o)) sent ∙ sym (ap (λ (r : ProcessState). one_if (is_crossing r.status)) after)
sends_call AnsweredHere line h call p q sends (handle, answers, after, sent) = ap (λ o. length (postings 0 o)) sent ∙ sym (ap (λ (r : ProcessState). one_if (is_crossing r.status)) after)
sends_call Waits line h call p q sends (after, sent) = ap (λ o. length (postings 0 o)) sent ∙ sym (ap (λ (r : ProcessState). one_if (is_crossing r.status)) after)
sends_call TouchesMemory line h call p q sends begins = absurd begins

sends_one : (line : ℕ) (what : LineKind) (p q : ProcessState) (sends : Option Sending) → Begins line what p q sends → length (postings 0 sends) ≡ one_if (is_crossing q.status)
sends_one line (OnHandle h call) p q sends begins = sends_call (way_from (handle_at p h) call) line h call p q sends begins
sends_one line (Raw chain) p q sends (after, sent) = ap (λ o. length (postings 0 o)) sent ∙ sym (ap (λ (r : ProcessState). one_if (is_crossing r.status)) after)

who_sends : (n : ℕ) (s : Sending) → (posting_of n s).request.who ≡ n
who_sends n (OfCall c along) = refl
who_sends n (OfRaw chain) = refl

posted_own : (n : ℕ) (o : Option Sending) → length (filter (λ (m : Posting). eqb m.request.who n) (postings n o)) ≡ length (postings 0 o)
posted_own n None = refl
posted_own n (Some s) = ap length (cond-true (eqb (posting_of n s).request.who n) (posting_of n s ∷ []) [] (eq-eqb (posting_of n s).request.who n (who_sends n s)))

pub posted_other : (n m : ℕ) (o : Option Sending) → ¬ (m ≡ n) → length (filter (λ (x : Posting). eqb x.request.who m) (postings n o)) ≡ 0
posted_other n m None other = refl
posted_other n m (Some s) other = ap length (cond-false (eqb (posting_of n s).request.who m) (posting_of n s ∷ []) [] (ne_eqb (posting_of n s).request.who m (λ same. other (sym same ∙ who_sends n s))))

issue_quiet : (w w' : WorldState) (n : ℕ) → IsQuiet w → IsIssued w n w' → IsQuiet w'
issue_quiet w w' n quiet i = subst IsQuiet (sym i.after) (record {
  one = λ m. elim (cases_eq m n) [ inl same ↦ subst (λ k. out_count v k ≡ one_if (is_crossing (process_at v.guest k).status)) (sym same) own | inr other ↦ others m other ];
  chains = quiet.chains;
  room = quiet.room ∙ ap (λ k. handle_room * k) (sym (length-set w.guest.processes n i.process));
})
  where
    v : WorldState
    v = line_begun w n i.process (postings n i.sends)

    own : out_count (line_begun w n i.process (postings n i.sends)) n ≡ one_if (is_crossing (process_at (with_process w.guest n i.process) n).status)
    own =
        let none : out_count w n ≡ 0 = quiet.one n ∙ ap (λ s. one_if (is_crossing s)) i.rest in
        let more = both_counted (λ (x : Posting). eqb x.request.who n) w.requests (postings n i.sends) in
        let sent = posted_own n i.sends in
        let one = sends_one i.statement.line i.statement.what (process_at w.guest n) i.process i.sends i.begins in
        let now : ◌≡◌ {A = ℕ} (one_if (is_crossing (process_at (with_process w.guest n i.process) n).status)) (one_if (is_crossing i.process.status)) = ap (λ (p : ProcessState). one_if (is_crossing p.status)) (get_or-set_same w.guest.processes n i.process no_process i.within) in
        omega (arith, none, more, sent, one, now)

    others : (m : ℕ) → ¬ (m ≡ n) → out_count (line_begun w n i.process (postings n i.sends)) m ≡ one_if (is_crossing (process_at (with_process w.guest n i.process) m).status)
    others m other =
        let was = quiet.one m in
        let more = both_counted (λ (x : Posting). eqb x.request.who m) w.requests (postings n i.sends) in
        let sent = posted_other n m i.sends other in
        let now : ◌≡◌ {A = ℕ} (one_if (is_crossing (process_at (with_process w.guest n i.process) m).status)) (one_if (is_crossing (process_at w.guest m).status)) = ap (λ (p : ProcessState). one_if (is_crossing p.status)) (get_or-set_other w.guest.processes n m i.process no_process other) in
        omega (arith, was, more, sent, now)

-- ---- Execute

execute_quiet : (w w' : WorldState) → IsQuiet w → IsExecuted w w' → IsQuiet w'
execute_quiet w w' quiet e = by_shape e.shape
  where
    asked : (n : ℕ) → length (requests_of w n) ≡ one_if (eqb e.posting.request.who n) + length (filter (λ (x : Posting). eqb x.request.who n) e.rest)
    asked n = ap (λ ms. length (filter (λ (x : Posting). eqb x.request.who n) ms)) e.first ∙ first_counted (λ (x : Posting). eqb x.request.who n) e.posting e.rest

    by_shape : IsAnsweredFirst w e.posting e.rest w' ⊎ IsKeptFirst w e.posting e.rest w' → IsQuiet w'
    by_shape (inl a) = subst IsQuiet (sym a.after) (record {
      one = λ n.
          let was = quiet.one n in
          let fewer = asked n in
          let more = last_counted (λ (x : Returning). eqb x.reply.who n) w.replies a.told in
          let same : ◌≡◌ {A = ℕ} (one_if (eqb a.told.reply.who n)) (one_if (eqb e.posting.request.who n)) = ap (λ i. one_if (eqb i n)) a.who in
          omega (arith, was, fewer, more, same);
      chains = quiet.chains;
      room = quiet.room;
    })
    by_shape (inr k) = subst IsQuiet (sym k.after) (record {
      one = λ n.
          let was = quiet.one n in
          let fewer = asked n in
          let more = put_counted (λ (x : WaitingCall). eqb x.posting.request.who n) (λ (y : WaitingCall). y.session) (record { session = k.session; posting = e.posting }) w.host.calls in
          omega (arith, was, fewer, more);
      chains = quiet.chains;
      room = quiet.room;
    })

-- ---- Resume

resume_quiet : (w w' : WorldState) (session : ℕ) → IsQuiet w → IsResumed w session w' → IsQuiet w'
resume_quiet w w' session quiet r = subst IsQuiet (sym r.after) (record {
  one = λ n.
      let was = quiet.one n in
      let fewer = out_counted (λ (x : WaitingCall). eqb x.posting.request.who n) (λ (y : WaitingCall). y.session) r.call.session r.call w.host.calls r.finds in
      let more = last_counted (λ (x : Returning). eqb x.reply.who n) w.replies (told_by r.call.posting r.answer) in
      omega (arith, was, fewer, more);
  chains = quiet.chains;
  room = quiet.room;
})

-- ---- Announce

announce_quiet : (w w' : WorldState) → IsQuiet w → IsAnnounced w w' → IsQuiet w'
announce_quiet w w' quiet a = subst IsQuiet (sym a.after) (record {
  one = quiet.one;
  chains = (let was = quiet.chains in let long = length_push w.events a.delivery in let free = a.free in omega (arith, was, long, free));
  room = quiet.room;
})

-- ---- Collect

collect_quiet : (w w' : WorldState) → IsQuiet w → IsCollected w w' → IsQuiet w'
collect_quiet w w' quiet c = subst IsQuiet (sym c.after) (record {
  one = λ m. elim (cases_eq m c.told.reply.who) [
    | inl same ↦ subst (λ k. out_count (reply_collected w g c.rest) k ≡ one_if (is_crossing (process_at g k).status)) (sym same) own
    | inr other ↦ others m other
  ];
  chains = quiet.chains;
  room = (has_collected w w' c).room ∙ (quiet.room ∙ ap (λ k. handle_room * k) (sym (has_collected w w' c).count));
})
  where
    g : GuestState
    g = settled c.statement.what (with_process w.guest c.told.reply.who c.process) c.told.reply.who

    fewer : (n : ℕ) → length (replies_of w n) ≡ one_if (eqb c.told.reply.who n) + length (filter (λ (x : Returning). eqb x.reply.who n) c.rest)
    fewer n = ap (λ rs. length (filter (λ (x : Returning). eqb x.reply.who n) rs)) c.first ∙ first_counted (λ (x : Returning). eqb x.reply.who n) c.told c.rest

    own : out_count (reply_collected w (settled c.statement.what (with_process w.guest c.told.reply.who c.process) c.told.reply.who) c.rest) c.told.reply.who
        ≡ one_if (is_crossing (process_at (settled c.statement.what (with_process w.guest c.told.reply.who c.process) c.told.reply.who) c.told.reply.who).status)
    own =
        let was : out_count w c.told.reply.who ≡ 1 = quiet.one c.told.reply.who ∙ ap (λ s. one_if (is_crossing s)) c.status in
        let less = fewer c.told.reply.who in
        let one : ◌≡◌ {A = ℕ} (one_if (eqb c.told.reply.who c.told.reply.who)) 1 = ap one_if (eq-eqb c.told.reply.who c.told.reply.who refl) in
        let now : ◌≡◌ {A = ℕ} (one_if (is_crossing (process_at (settled c.statement.what (with_process w.guest c.told.reply.who c.process) c.told.reply.who) c.told.reply.who).status)) 0 = ap (λ s. one_if (is_crossing s)) (has_collected w w' c).rest in
        omega (arith, was, less, one, now)

    others : (m : ℕ) → ¬ (m ≡ c.told.reply.who) → out_count (reply_collected w (settled c.statement.what (with_process w.guest c.told.reply.who c.process) c.told.reply.who) c.rest) m
        ≡ one_if (is_crossing (process_at (settled c.statement.what (with_process w.guest c.told.reply.who c.process) c.told.reply.who) m).status)
    others m other =
        let was = quiet.one m in
        let less = fewer m in
        let none : ◌≡◌ {A = ℕ} (one_if (eqb c.told.reply.who m)) 0 = ap one_if (ne_eqb c.told.reply.who m (λ same. other (sym same))) in
        let now : ◌≡◌ {A = ℕ} (one_if (is_crossing (process_at (settled c.statement.what (with_process w.guest c.told.reply.who c.process) c.told.reply.who) m).status)) (one_if (is_crossing (process_at w.guest m).status)) = ap (λ (p : ProcessState). one_if (is_crossing p.status)) ((has_collected w w' c).others m other) in
        omega (arith, was, less, none, now)

-- ---- Lease and GiveBack

leased_free : (leased : Leased) (q : ProcessState) → is_crossing q.status ≡ false → is_crossing (after_lease leased q).status ≡ false
leased_free (GoneOut lease) q free = refl
leased_free Answered q free = refl
leased_free Idle q free = free

lease_quiet : (w w' : WorldState) (n : ℕ) → IsQuiet w → IsLeased w n w' → IsQuiet w'
lease_quiet w w' n quiet l =
    let free : is_crossing (process_at w.guest n).status ≡ false = ap is_crossing l.rest in
    let p : ProcessState = with_log (process_at w.guest n) l.call.handle l.leases.0 in
    subst IsQuiet (sym l.after) (free_exchange w n l.process l.within free (ap (λ (q : ProcessState). is_crossing q.status) l.leases.2 ∙ leased_free l.leased p free) quiet)

give_back_quiet : (w w' : WorldState) (n : ℕ) → IsQuiet w → IsGivenBack w n w' → IsQuiet w'
give_back_quiet w w' n quiet b =
    subst IsQuiet (sym b.after) (free_exchange w n (returned_to (process_at w.guest n) (Some b.call) b.lease) b.within (ap is_crossing b.lent) refl quiet)

-- ---- each step

pub quiet_next : (w w' : WorldState) (s : Step) → IsSound w → TakesNone w s → Steps w s w' → IsQuiet w'
quiet_next w w' (Issue n) (rows, sound) none does = issue_quiet w w' n sound.quiet (is_issued w w' n none does)
quiet_next w w' Execute (rows, sound) none does = execute_quiet w w' sound.quiet (is_executed w w' does)
quiet_next w w' (Resume session) (rows, sound) none does = resume_quiet w w' session sound.quiet (is_resumed w w' session does)
quiet_next w w' (Begin session) (rows, sound) none does = subst IsQuiet (sym (is_job_begun w w' session does).after) (record { one = sound.quiet.one; chains = sound.quiet.chains; room = sound.quiet.room })
quiet_next w w' (Finish number) (rows, sound) none does = subst IsQuiet (sym (is_finished w w' number does).after) (record { one = sound.quiet.one; chains = sound.quiet.chains; room = sound.quiet.room })
quiet_next w w' Announce (rows, sound) none does = announce_quiet w w' sound.quiet (is_announced w w' does)
quiet_next w w' Collect (rows, sound) none does = collect_quiet w w' sound.quiet (is_collected w w' none does)
quiet_next w w' Pump sound none does = (pump_keeps w w' sound does).1.quiet
quiet_next w w' (Lease n) (rows, sound) none does = lease_quiet w w' n sound.quiet (is_leased_to w w' n does)
quiet_next w w' (GiveBack n) (rows, sound) none does = give_back_quiet w w' n sound.quiet (is_given_back w w' n does)
