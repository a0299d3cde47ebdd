-- One session with what is under way of it.
use Rattle.std.proofs.Common.{◌≡◌, inl, inr, ℕ, ◌&&◌, ◌||◌, ◌==◌, Bool, true, false, not, IsTrue, List, [], ◌∷◌, ◌++◌, map, Option, Some, None, refl, sym, ap, ◌∙◌, subst}
use Rattle.std.proofs.lemmas.Bool.{false≢true, true≢false, not-true, and_parts}
use Rattle.std.proofs.lemmas.List.{append_assoc}
use Rattle.v4l_const.specs.declared.errno.Errno.{Errno}
use Rattle.v4l_rules.specs.Refusals.{first_refusal}
use Rattle.vm_job.specs.Job.{JobParts, DoneParts, HasPicture, CameBack}
use Rattle.vm_wire.specs.declared.event.EventMsg.{EventMsg}
use Rattle.vm_wire.specs.declared.event.EventMsg.TheVariants.{Dequeued, Happened}
use Rattle.vm_local.specs.declared.call.Call.{Call}
use Rattle.vm_local.specs.declared.call.Call.TheVariants.{OpenHandle, CloseHandle, QueryCap, EnumFmt, GFmt, TryFmt, SFmt, EnumInput, GInput, SInput, ReqBufs, QueryBuf, UAlloc, QBuf, StreamOn, StreamOff, DqBuf, Mmap, Munmap, Peek, Hash, Poke, Fill, Subscribe, Unsubscribe, DqEvent}
use Rattle.vm_local.specs.declared.entry.Entry.{Entry}
use Rattle.vm_local.specs.declared.entry.Entry.TheVariants.{Called}
use Rattle.vm_local.specs.declared.reply.Reply.{Reply}
use Rattle.vm_local.specs.declared.reply.Reply.TheVariants.{Refused}
use Rattle.vm_local.specs.State.{LocalState}
use Rattle.std.specs.List.{filter}
use Rattle.vm_local.specs.declared.owed.Owed.{Owed as OwedEntry}
use Rattle.vm_local.specs.Queue.{with_buffers}
use Rattle.vm_local.specs.Record.{is_refusal}
use Rattle.vm_local.specs.Same.{address_in}
use Rattle.vm_local.specs.Calls.{Row, opened_anew, row_of, querycap_row, enumfmt_row, gfmt_row, tryfmt_row, sfmt_row, enuminput_row, ginput_row, sinput_row, reqbufs_row, querybuf_row, ualloc_row, qbuf_row, streamon_row, streamoff_row, dqbuf_row, mmap_row, munmap_row, read_row, hash_row, write_row, fill_row, subscribe_row, unsubscribe_row, dqevent_row}
use Rattle.vm_local.specs.Log.{IsCall, row_for, called, replay_from}
use Rattle.vm_local.proofs.KeptLemmas.{refused_call}
use Rattle.vm_local.proofs.StepLemmas.{answered_by}
use Rattle.vm_commute.specs.Commute.{may_cross, is_open, may_go_first, is_stopping, SameButFlags, SameButEvents}
use Rattle.vm_commute.proofs.ReachedLemmas.{reached_after}
use Rattle.vm_home.specs.Reached.{IsReached}
use Rattle.vm_session.specs.declared.running.Running.{Running}
use Rattle.vm_session.specs.declared.unsent.Unsent.{Unsent}
use Rattle.vm_session.specs.State.{SessionState, opening_session}
use Rattle.vm_session.specs.Sound.{IsSound}
use Rattle.vm_session.specs.Streaming.{can_begin, next_job, begun, events_of, finished, finished_by, with_returned, sent, sent_of}
use Rattle.vm_stands.specs.Stands.{Stands, IsNext, IsNextIf}
use Rattle.vm_exchange.specs.Messages.{flight_of, steps_of}
use Rattle.vm_stands.specs.Flight.{stops_queues, ahead_of, LeadAll}
use Rattle.vm_stands.specs.Ahead.{StopsNone, MayDeliver}
use Rattle.vm_stands.specs.Slice.{LeadWith, LeadAhead, IsSlice, GoesOn}
use Rattle.vm_stands.proofs.SeenLemmas.{seen, seen_stands}
use Rattle.vm_stands.proofs.FlightLemmas.{all_replay, leads_replay}
use Rattle.vm_stands.proofs.AheadLemmas.{flight_steps, in_turn, reached_all, one_replay, last_logged, first_logged, entry_model, refused_later, stopping_crosses, collects_refused}
use Rattle.vm_stands.proofs.SentLemmas.{sending_stands}
use Rattle.vm_stands.proofs.NextLemmas.{begins_next}
use Rattle.vm_stands.proofs.StayLemmas.{calls_next, events_next}
use Rattle.vm_stands.proofs.LawLemmas.{finishes}
use Rattle.vm_stands.proofs.FinishedLemmas.{Ends}
use Rattle.vm_stands.proofs.OverStepLemmas.{execution_leads}
use Rattle.vm_stands.proofs.OwnCallLemmas.{own_calls}

-- ---- what leads ahead

lead_append : (id : ℕ) (es fs : List Unsent) (s t u : LocalState) → LeadAll id s es t → LeadAll id t fs u → LeadAll id s (es ++ fs) u
lead_append id [] fs s t u first second = subst (λ x. LeadAll id x fs u) first second
lead_append id (e ∷ es) fs s t u first second = (first.0, first.1, lead_append id es fs first.0 t u first.2 second)

same_ahead : (id other : ℕ) (r : LocalState) (executed : Option Entry) (es fs : List Unsent) (s : LocalState) → other ≡ id → fs ≡ es → LeadAhead id r executed es s → LeadAhead other r executed fs s
same_ahead id other r executed es fs s ids same leads = subst (λ n. LeadAhead n r executed fs s) (sym ids) (subst (λ xs. LeadAhead id r executed xs s) (sym same) leads)

with_ahead : (id : ℕ) (r s : LocalState) (e : Entry) (es : List Unsent) (b : Bool) → stops_queues e ≡ b → LeadWith b id r e es s → ahead_of r (Some e) (map (λ x. x.msg) es) ≡ Some s
with_ahead id r s e es true is (u, all, last) =
    ap (λ xs. replay_from r xs) (last_logged r.model e (map (λ x. x.msg) es) is)
    ∙ (in_turn r u (flight_of r.model (map (λ x. x.msg) es)) (e ∷ []) (all_replay id r u es all) ∙ one_replay u s e last)
with_ahead id r s e es false is (u, first, all) =
    ap (λ xs. replay_from r xs) (first_logged r.model e (map (λ x. x.msg) es) is)
    ∙ (in_turn r u (e ∷ []) (flight_of r.model (map (λ x. x.msg) es)) (one_replay r u e first)
    ∙ (ap (λ m. replay_from u (flight_of m (map (λ x. x.msg) es))) (sym (entry_model r u e is first)) ∙ all_replay id u s es all))

lead_is : (id : ℕ) (r s : LocalState) (executed : Option Entry) (es : List Unsent) → LeadAhead id r executed es s → ahead_of r executed (map (λ x. x.msg) es) ≡ Some s
lead_is id r s None es leads = all_replay id r s es leads
lead_is id r s (Some e) es leads = with_ahead id r s e es (stops_queues e) refl leads

pub all_reached : (id : ℕ) (r s : LocalState) (es : List Unsent) → IsReached r → LeadAll id r es s → IsReached s
all_reached id r s es reached leads = reached_all (flight_of r.model (map (λ x. x.msg) es)) r s reached (all_replay id r s es leads)

with_reached : (id : ℕ) (r s : LocalState) (e : Entry) (es : List Unsent) (b : Bool) → IsReached r → LeadWith b id r e es s → IsReached s
with_reached id r s e es true reached (u, all, last) = reached_after u s e (all_reached id r u es reached all) last
with_reached id r s e es false reached (u, first, all) = all_reached id u s es (reached_after r u e reached first) all

lead_reached : (id : ℕ) (r s : LocalState) (executed : Option Entry) (es : List Unsent) → IsReached r → LeadAhead id r executed es s → IsReached s
lead_reached id r s None es reached leads = all_reached id r s es reached leads
lead_reached id r s (Some e) es reached leads = with_reached id r s e es (stops_queues e) reached leads

pub slice_is_ahead : (frames : List ℕ) (session : SessionState) (job : Option JobParts) (earlier : List Unsent) (executed : Option Entry) (r s : LocalState) →
    IsSlice frames session job earlier executed r s → ahead_of r executed (map (λ e. e.msg) (earlier ++ session.unsent)) ≡ Some s
slice_is_ahead frames session job earlier executed r s slice = lead_is session.id r s executed (earlier ++ session.unsent) slice.leads

-- ---- messages

returned_keeps : (s : SessionState) (msg : EventMsg) → ((with_returned s msg).unsent ≡ s.unsent) × ((with_returned s msg).id ≡ s.id)
returned_keeps s (Dequeued session b) = (refl, refl)
returned_keeps s (Happened session event) = (refl, refl)

pub slice_sends : (frames : List ℕ) (session : SessionState) (job : Option JobParts) (earlier : List Unsent) (executed : Option Entry) (r s : LocalState) (e : Unsent) (es : List Unsent) →
    IsSlice frames session job earlier executed r s → session.unsent ≡ e ∷ es → IsSound (sent session) →
    IsSlice frames (sent session) job (earlier ++ e ∷ []) executed r s
slice_sends frames session job earlier executed r s e es slice is sound =
    let rest : SessionState = record session { unsent = es } in
    let keeps : ((with_returned rest e.msg).unsent ≡ es) × ((with_returned rest e.msg).id ≡ session.id) = returned_keeps rest e.msg in
    let unsent : (sent session).unsent ≡ es = ap (λ us. (sent_of us session).unsent) is ∙ keeps.0 in
    let id : (sent session).id ≡ session.id = ap (λ us. (sent_of us session).id) is ∙ keeps.1 in
    let same : (earlier ++ e ∷ []) ++ (sent session).unsent ≡ earlier ++ session.unsent =
    append_assoc earlier (e ∷ []) (sent session).unsent ∙ ap (λ us. earlier ++ us) (ap (λ us. e ∷ us) unsent ∙ sym is) in
    record {
      reached = slice.reached;
      leads = same_ahead session.id (sent session).id r executed (earlier ++ session.unsent) ((earlier ++ e ∷ []) ++ (sent session).unsent) s id same slice.leads;
      stands = sending_stands frames session s slice.stands;
      sound = sound;
      owed = slice.owed;
      next = slice.next;
    }

delivered : (id : ℕ) (r s : LocalState) (executed : Option Entry) (e : Unsent) (es : List Unsent) → MayDeliver executed → LeadAhead id r executed (e ∷ es) s →
    (u : LocalState) × (replay_from r (steps_of r.model e.msg) ≡ Some u) × LeadAhead id u executed es s
delivered id r s None e es may (u, leads, all) = (u, leads_replay id r u e leads, all)
delivered id r s (Some d) e es may leads =
    let by : LeadWith true id r d (e ∷ es) s = subst (λ b. LeadWith b id r d (e ∷ es) s) may leads in
    let u : LocalState = by.1.0 in
    (u, leads_replay id r u e by.1.1, subst (λ b. LeadWith b id u d es s) (sym may) (by.0, by.1.2, by.2))

pub slice_delivers : (frames : List ℕ) (session : SessionState) (job : Option JobParts) (e : Unsent) (earlier : List Unsent) (executed : Option Entry) (r s : LocalState) →
    IsSlice frames session job (e ∷ earlier) executed r s → MayDeliver executed →
    (u : LocalState) × (replay_from r (steps_of r.model e.msg) ≡ Some u) × IsSlice frames session job earlier executed u s
slice_delivers frames session job e earlier executed r s slice may =
    let by : (u : LocalState) × (replay_from r (steps_of r.model e.msg) ≡ Some u) × LeadAhead session.id u executed (earlier ++ session.unsent) s =
    delivered session.id r s executed e (earlier ++ session.unsent) may slice.leads in (
      by.0,
      by.1,
      record {
        reached = reached_all (steps_of r.model e.msg) r by.0 slice.reached by.1;
        leads = by.2;
        stands = slice.stands;
        sound = slice.sound;
        owed = slice.owed;
        next = slice.next;
      },
    )

-- ---- jobs

next_if : (s t : LocalState) (o : Option JobParts) → ((job : JobParts) → IsNext s job → IsNext t job) → IsNextIf s o → IsNextIf t o
next_if s t None keeps next = tt
next_if s t (Some job) keeps next = keeps job next

pub slice_begins : (frames : List ℕ) (session : SessionState) (job : Option JobParts) (earlier : List Unsent) (executed : Option Entry) (r s : LocalState) (number : ℕ) →
    IsSlice frames session job earlier executed r s → can_begin session ≡ true → IsSound (begun session number) →
    (new : JobParts) × (next_job session number ≡ Some new) × IsSlice frames (begun session number) (Some new) earlier executed r s
slice_begins frames session job earlier executed r s number slice can sound =
    let there : IsReached s = lead_reached session.id r s executed (earlier ++ session.unsent) slice.reached slice.leads in
    let by : (new : JobParts) × (next_job session number ≡ Some new) × IsNext s new × Stands frames (begun session number) s =
    begins_next frames session s number slice.stands slice.sound there can in (
      by.0,
      by.1,
      record {
        reached = slice.reached;
        leads = slice.leads;
        stands = by.3;
        sound = sound;
        owed = slice.owed;
        next = by.2;
      },
    )

more_leads : (id : ℕ) (r s t : LocalState) (executed : Option Entry) (es fs : List Unsent) → StopsNone executed → LeadAhead id r executed es s → LeadAll id s fs t → LeadAhead id r executed (es ++ fs) t
more_leads id r s t None es fs none leads all = lead_append id es fs r s t leads all
more_leads id r s t (Some e) es fs none leads all =
    let by : LeadWith false id r e es s = subst (λ b. LeadWith b id r e es s) none leads in
    subst (λ b. LeadWith b id r e (es ++ fs) t) (sym none) (by.0, by.1, lead_append id es fs by.0 s t by.2 all)

-- a job came back
done_slice : (frames : List ℕ) (session : SessionState) (running : Running) (done : DoneParts) (earlier : List Unsent) (executed : Option Entry) (r t : LocalState) →
    IsReached r → session.running ≡ Some running → LeadAhead session.id r executed ((earlier ++ session.unsent) ++ events_of session running done) t →
    Stands frames (finished session done) t → t.owed ≡ [] → IsSound (finished session done) → IsSlice frames (finished session done) None earlier executed r t
done_slice frames session running done earlier executed r t reached is leads stands owed sound =
    let es : List Unsent = events_of session running done in
    let unsent : (finished session done).unsent ≡ session.unsent ++ es = ap (λ o. (finished_by o session done).unsent) is in
    let id : (finished session done).id ≡ session.id = ap (λ o. (finished_by o session done).id) is in
    let same : earlier ++ (finished session done).unsent ≡ (earlier ++ session.unsent) ++ es = ap (λ us. earlier ++ us) unsent ∙ sym (append_assoc earlier session.unsent es) in
    record {
      reached = reached;
      leads = same_ahead session.id (finished session done).id r executed ((earlier ++ session.unsent) ++ es) (earlier ++ (finished session done).unsent) t id same leads;
      stands = stands;
      sound = sound;
      owed = owed;
      next = tt;
    }

pub slice_finishes : (frames : List ℕ) (session : SessionState) (running : Running) (job : JobParts) (done : DoneParts) (earlier : List Unsent) (executed : Option Entry) (r s : LocalState) →
    IsSlice frames session (Some job) earlier executed r s → StopsNone executed → session.running ≡ Some running →
    CameBack job done → (IsTrue done.good → HasPicture done.job) → IsSound (finished session done) →
    (t : LocalState) × IsSlice frames (finished session done) None earlier executed r t
slice_finishes frames session running job done earlier executed r s slice none is back picture sound =
    let there : IsReached s = lead_reached session.id r s executed (earlier ++ session.unsent) slice.reached slice.leads in
    let ends : Ends frames session s running done = finishes frames session s running job done slice.stands slice.sound there slice.owed is slice.next back picture in (
      ends.0,
      done_slice frames session running done earlier executed r ends.0 slice.reached is
          (more_leads session.id r s ends.0 executed (earlier ++ session.unsent) (events_of session running done) none slice.leads ends.1) ends.2 ends.3 sound,
    )

pub slice_finishes_refused : (frames : List ℕ) (session : SessionState) (running : Running) (job : JobParts) (done : DoneParts) (earlier : List Unsent) (line : ℕ) (call : Call) (errno : Errno) (r s : LocalState) →
    IsSlice frames session (Some job) earlier (Some (Called line call (Refused errno))) r s → is_stopping call ≡ true → session.running ≡ Some running →
    CameBack job done → (IsTrue done.good → HasPicture done.job) → IsSound (finished session done) →
    (t : LocalState) × IsSlice frames (finished session done) None earlier (Some (Called line call (Refused errno))) r t
slice_finishes_refused frames session running job done earlier line call errno r s slice stops is back picture sound =
    let d : Entry = Called line call (Refused errno) in
    let under : List Unsent = earlier ++ session.unsent in
    let events : List Unsent = events_of session running done in
    let there : IsReached s = lead_reached session.id r s (Some d) under slice.reached slice.leads in
    let ends : Ends frames session s running done = finishes frames session s running job done slice.stands slice.sound there slice.owed is slice.next back picture in
    let t : LocalState = ends.0 in
    let by : LeadWith true session.id r d under s = subst (λ b. LeadWith b session.id r d under s) stops slice.leads in
    let same : s ≡ by.0 = refused_call by.0 line call errno s by.2 in
    let was : IsCall s line call (Refused errno) s = subst (λ x. IsCall x line call (Refused errno) s) (sym same) by.2 in
    let all : LeadAll session.id r under s = subst (λ x. LeadAll session.id r under x) (sym same) by.1 in
    let calls : IsCall t line call (Refused errno) t =
    refused_later (flight_of s.model (map (λ x. x.msg) events)) s t line call errno there (flight_steps s.model (map (λ x. x.msg) events))
    (all_replay session.id s t events ends.1) (stopping_crosses call stops) was in (
      t,
      done_slice frames session running done earlier (Some d) r t slice.reached is
          (subst (λ b. LeadWith b session.id r d (under ++ events) t) (sym stops) (t, lead_append session.id under events r s t all ends.1, calls)) ends.2 ends.3 sound,
    )

-- ---- calls

row_owed : (s : LocalState) (line addr : ℕ) (call : Call) → may_cross call ≡ true → is_open call ≡ false → is_stopping call ≡ false → (row_of s line addr call).next.owed ≡ s.owed
unfolding querycap_row enumfmt_row gfmt_row tryfmt_row sfmt_row enuminput_row ginput_row sinput_row reqbufs_row querybuf_row ualloc_row qbuf_row streamon_row streamoff_row dqbuf_row mmap_row munmap_row read_row hash_row write_row fill_row subscribe_row unsubscribe_row dqevent_row
row_owed s line addr (OpenHandle nonblock) may opens stop = absurd (true≢false opens)
row_owed s line addr CloseHandle may opens stop = absurd (true≢false stop)
row_owed s line addr QueryCap may opens stop = refl
row_owed s line addr (EnumFmt t i) may opens stop = refl
row_owed s line addr (GFmt t) may opens stop = refl
row_owed s line addr (TryFmt t f w h) may opens stop = refl
row_owed s line addr (SFmt t f w h) may opens stop = refl
row_owed s line addr (EnumInput i) may opens stop = refl
row_owed s line addr GInput may opens stop = refl
row_owed s line addr (SInput i) may opens stop = refl
row_owed s line addr (ReqBufs t m n) may opens stop = absurd (true≢false stop)
row_owed s line addr (QueryBuf t i) may opens stop = refl
row_owed s line addr (UAlloc u len off) may opens stop = absurd (false≢true may)
row_owed s line addr (QBuf t i user used ts) may opens stop = refl
row_owed s line addr (StreamOn t) may opens stop = refl
row_owed s line addr (StreamOff t) may opens stop = absurd (true≢false stop)
row_owed s line addr (DqBuf t) may opens stop = absurd (false≢true may)
row_owed s line addr (Mmap m t i ro) may opens stop = refl
row_owed s line addr (Munmap m) may opens stop = refl
row_owed s line addr (Peek m off len) may opens stop = absurd (false≢true may)
row_owed s line addr (Hash m) may opens stop = absurd (false≢true may)
row_owed s line addr (Poke m off bytes) may opens stop = absurd (false≢true may)
row_owed s line addr (Fill m seed) may opens stop = absurd (false≢true may)
row_owed s line addr (Subscribe e) may opens stop = refl
row_owed s line addr (Unsubscribe e) may opens stop = refl
row_owed s line addr DqEvent may opens stop = absurd (false≢true may)

call_owed : (s t : LocalState) (line : ℕ) (call : Call) (reply : Reply) → may_cross call ≡ true → is_open call ≡ false → is_stopping call ≡ false → IsCall s line call reply t → t.owed ≡ s.owed
unfolding called
call_owed s t line call reply may opens stop leads =
    let r : Row = row_for s line call reply in
    elim (answered_by (first_refusal r.refusals) r s reply t leads) as (λ _. t.owed ≡ s.owed) [
      | inl same ↦ ap (λ (x : LocalState). x.owed) same
      | inr went ↦ ap (λ (x : LocalState). x.owed) went.3 ∙ row_owed s line (address_in reply) call may opens stop
    ]

pub slice_executes : (frames more : List ℕ) (session served : SessionState) (job : Option JobParts) (earlier : List Unsent) (line : ℕ) (call : Call) (reply : Reply) (r s t : LocalState) →
    IsSlice frames session job earlier None r s → may_go_first call reply ≡ true → is_stopping call ≡ false → IsCall s line call reply t →
    Stands more served t → GoesOn session served →
    (first_reply : Reply) × (ahead : LocalState) × SameButFlags first_reply reply
    × IsSlice more served job earlier (Some (Called line call first_reply)) r ahead
slice_executes frames more session served job earlier line call reply r s t slice may never calls stands goes =
    let es : List Unsent = earlier ++ session.unsent in
    let there : IsReached s = lead_reached session.id r s None es slice.reached slice.leads in
    let parts : (may_cross call ≡ true) × ((not (is_open call) && (not (is_stopping call) || is_refusal reply)) ≡ true) =
    and_parts (may_cross call) (not (is_open call) && (not (is_stopping call) || is_refusal reply)) may in
    let opens : is_open call ≡ false = not-true (is_open call) (and_parts (not (is_open call)) (not (is_stopping call) || is_refusal reply) parts.1).0 in
    let by : (first_reply : Reply) × (between : LocalState) × (ahead : LocalState) × SameButFlags first_reply reply
    × IsCall r line call first_reply between × LeadAll session.id between es ahead × SameButEvents ahead t =
    execution_leads session.id line r s t call reply es slice.reached slice.leads may never calls in
    let e : Entry = Called line call by.0 in
    let ahead : LocalState = by.2 in
    let leads : LeadAhead session.id r (Some e) es ahead = subst (λ b. LeadWith b session.id r e es ahead) (sym never) (by.1, by.4, by.5) in (
      by.0,
      ahead,
      by.3,
      record {
        reached = slice.reached;
        leads = same_ahead session.id served.id r (Some e) es (earlier ++ served.unsent) ahead goes.id (ap (λ us. earlier ++ us) goes.unsent) leads;
        stands = seen_stands more served t ahead (ap (λ (x : LocalState). seen x) (sym by.6)) stands;
        sound = goes.sound;
        owed = ap (λ (x : LocalState). x.owed) by.6 ∙ (call_owed s t line call reply parts.0 opens never calls ∙ slice.owed);
        next = next_if s ahead job (λ j is. events_next t ahead j (sym by.6) (calls_next s t line call reply j there parts.0 opens never calls is)) slice.next;
      },
    )

pub slice_collects : (frames : List ℕ) (session : SessionState) (job : Option JobParts) (earlier : List Unsent) (line : ℕ) (call : Call) (reply : Reply) (r s : LocalState) →
    IsSlice frames session job earlier (Some (Called line call reply)) r s → is_stopping call ≡ false →
    (u : LocalState) × IsCall r line call reply u × IsSlice frames session job earlier None u s
slice_collects frames session job earlier line call reply r s slice never =
    let e : Entry = Called line call reply in
    let es : List Unsent = earlier ++ session.unsent in
    let by : LeadWith false session.id r e es s = subst (λ b. LeadWith b session.id r e es s) never slice.leads in (
      by.0,
      by.1,
      record {
        reached = reached_after r by.0 e slice.reached by.1;
        leads = by.2;
        stands = slice.stands;
        sound = slice.sound;
        owed = slice.owed;
        next = slice.next;
      },
    )

row_stopped : (s : LocalState) (line addr : ℕ) (call : Call) → is_stopping call ≡ true → s.owed ≡ [] → (row_of s line addr call).next.owed ≡ []
unfolding reqbufs_row streamoff_row with_buffers
row_stopped s line addr CloseHandle stops owed = refl
row_stopped s line addr (ReqBufs t m n) stops owed = ap (λ os. filter (λ (o : OwedEntry). not (o.queue == t)) os) owed
row_stopped s line addr (StreamOff t) stops owed = ap (λ os. filter (λ (o : OwedEntry). not (o.queue == t)) os) owed
row_stopped s line addr call stops owed = absurd (false≢true stops)

stopped_owed : (s t : LocalState) (line : ℕ) (call : Call) (reply : Reply) → is_stopping call ≡ true → s.owed ≡ [] → IsCall s line call reply t → t.owed ≡ []
unfolding called
stopped_owed s t line call reply stops owed leads =
    let r : Row = row_for s line call reply in
    elim (answered_by (first_refusal r.refusals) r s reply t leads) as (λ _. t.owed ≡ []) [
      | inl same ↦ ap (λ (x : LocalState). x.owed) same ∙ owed
      | inr went ↦ ap (λ (x : LocalState). x.owed) went.3 ∙ row_stopped s line (address_in reply) call stops owed
    ]

pub slice_stops : (frames more : List ℕ) (session served : SessionState) (earlier : List Unsent) (line : ℕ) (call : Call) (reply : Reply) (r s t : LocalState) →
    IsSlice frames session None earlier None r s → is_stopping call ≡ true → IsCall s line call reply t →
    Stands more served t → GoesOn session served →
    IsSlice more served None earlier (Some (Called line call reply)) r t
slice_stops frames more session served earlier line call reply r s t slice stops calls stands goes =
    let e : Entry = Called line call reply in
    let es : List Unsent = earlier ++ session.unsent in
    let leads : LeadAhead session.id r (Some e) es t = subst (λ b. LeadWith b session.id r e es t) (sym stops) (s, slice.leads, calls) in
    record {
      reached = slice.reached;
      leads = same_ahead session.id served.id r (Some e) es (earlier ++ served.unsent) t goes.id (ap (λ us. earlier ++ us) goes.unsent) leads;
      stands = stands;
      sound = goes.sound;
      owed = stopped_owed s t line call reply stops slice.owed calls;
      next = tt;
    }

pub slice_refuses : (frames : List ℕ) (session : SessionState) (job : Option JobParts) (earlier : List Unsent) (line : ℕ) (call : Call) (errno : Errno) (r s : LocalState) →
    IsSlice frames session job earlier None r s → is_stopping call ≡ true → IsCall s line call (Refused errno) s →
    IsSlice frames session job earlier (Some (Called line call (Refused errno))) r s
slice_refuses frames session job earlier line call errno r s slice stops calls = record {
  reached = slice.reached;
  leads = subst (λ b. LeadWith b session.id r (Called line call (Refused errno)) (earlier ++ session.unsent) s) (sym stops) (s, slice.leads, calls);
  stands = slice.stands;
  sound = slice.sound;
  owed = slice.owed;
  next = slice.next;
}

pub slice_collects_refused : (frames : List ℕ) (session : SessionState) (job : Option JobParts) (earlier : List Unsent) (line : ℕ) (call : Call) (errno : Errno) (r s : LocalState) →
    IsSlice frames session job earlier (Some (Called line call (Refused errno))) r s → is_stopping call ≡ true →
    IsCall r line call (Refused errno) r × IsSlice frames session job earlier None r s
slice_collects_refused frames session job earlier line call errno r s slice stops =
    let e : Entry = Called line call (Refused errno) in
    let es : List Unsent = earlier ++ session.unsent in
    let by : LeadWith true session.id r e es s = subst (λ b. LeadWith b session.id r e es s) stops slice.leads in
    let same : s ≡ by.0 = refused_call by.0 line call errno s by.2 in (
      (collects_refused r s line call errno (map (λ x. x.msg) es) slice.reached stops (lead_is session.id r s (Some e) es slice.leads)).0,
      record {
        reached = slice.reached;
        leads = subst (λ x. LeadAll session.id r es x) (sym same) by.1;
        stands = slice.stands;
        sound = slice.sound;
        owed = slice.owed;
        next = slice.next;
      },
    )

pub slice_collects_stopped : (frames : List ℕ) (session : SessionState) (job : Option JobParts) (line : ℕ) (call : Call) (reply : Reply) (r s : LocalState) →
    IsSlice frames session job [] (Some (Called line call reply)) r s → is_stopping call ≡ true → session.unsent ≡ [] →
    IsCall r line call reply s × IsSlice frames session job [] None s s
slice_collects_stopped frames session job line call reply r s slice stops none =
    let e : Entry = Called line call reply in
    let by : LeadWith true session.id r e [] s = subst (λ us. LeadWith true session.id r e us s) none (subst (λ b. LeadWith b session.id r e session.unsent s) stops slice.leads) in
    let calls : IsCall r line call reply s = subst (λ x. IsCall x line call reply s) by.1 by.2 in (
      calls,
      record {
        reached = reached_after r s e slice.reached calls;
        leads = subst (λ us. LeadAll session.id s us s) (sym none) refl;
        stands = slice.stands;
        sound = slice.sound;
        owed = slice.owed;
        next = slice.next;
      },
    )

pub slice_has_own_calls : (frames : List ℕ) (session : SessionState) (job : Option JobParts) (earlier : List Unsent) (line : ℕ) (call : Call) (reply : Reply) (r s u : LocalState) →
    IsSlice frames session job earlier None r s → may_cross call ≡ false → IsCall r line call reply u →
    (t : LocalState) × IsSlice frames session job earlier None u t
slice_has_own_calls frames session job earlier line call reply r s u slice own calls =
    let by : (ahead : LocalState) × LeadAll session.id u (earlier ++ session.unsent) ahead × Stands frames session ahead × (ahead.owed ≡ s.owed)
    × ((j : JobParts) → IsNext s j → IsNext ahead j) =
    own_calls frames session r s u line call reply earlier slice.stands slice.sound slice.reached slice.leads own calls in (
      by.0,
      record {
        reached = reached_after r u (Called line call reply) slice.reached calls;
        leads = by.1;
        stands = by.2;
        sound = slice.sound;
        owed = by.3 ∙ slice.owed;
        next = next_if s by.0 job by.4 slice.next;
      },
    )

-- ---- open

pub slice_opens : (id : ℕ) (s : LocalState) (nonblock : Bool) → Stands [] (opening_session s.model id) (opened_anew s nonblock) →
    IsReached (opened_anew s nonblock) → IsSound (opening_session s.model id) →
    IsSlice [] (opening_session s.model id) None [] None (opened_anew s nonblock) (opened_anew s nonblock)
slice_opens id s nonblock stands reached sound = record { reached = reached; leads = refl; stands = stands; sound = sound; owed = refl; next = tt }
