-- What the device keeps to after a call, of its fields.
use Rattle.std.proofs.Common.{◌≡◌, ℕ, ◌+◌, ◌*◌, ◌<◌, ◌≤◌, ◌==◌, Bool, true, false, not, if◌then◌else◌, Option, Some, None, List, [], ◌∷◌, ◌++◌, length, get_or, set, map, filter, replicate, refl, sym, ap, ◌∙◌, arith, subst, inl}
use Rattle.std.proofs.lemmas.List.{map-append, map-set, get_or-set_same, length-append, length-replicate}
use Rattle.std.proofs.lemmas.List.Sums.{sum_by-set, sum_by_push}
use Rattle.v4l_const.specs.declared.model.Model.{Model}
use Rattle.v4l_const.specs.declared.model.Model.TheVariants.{Capture, Convert}
use Rattle.vm_job.specs.declared.job_out.JobOut.{JobOut}
use Rattle.vm_job.specs.Entry.{IsOf}
use Rattle.vm_job.specs.Job.{JobParts, DoneParts}
use Rattle.vm_job.specs.declared.done_job.Stranger.{Stranger}
use Rattle.vm_job.specs.declared.spec.JobSpec.{JobSpec}
use Rattle.vm_session.specs.declared.running.Running.{Running}
use Rattle.vm_session.specs.State.{SessionState, opening_session, is_quiet}
use Rattle.vm_session.specs.Streaming.{can_begin, next_job, begun, finished, finished_by, outstanding as outstanding_in, IsStranger as IsStrangerIn, sent}
use Rattle.vm_device.specs.Device.{DeviceState, session_of, is_ready}
use Rattle.vm_device.specs.Perform.{is_busy}
use Rattle.vm_device.specs.Keeps.{IsSound}
use Rattle.vm_device.specs.Mappings.{FitsSessions}
use Rattle.vm_device.specs.Sessions.{one_if_there, count_there}
use Rattle.vm_device.specs.Stream.{outstanding, IsStranger, Finishes, events_more, with_done}
use Rattle.vm_device.proofs.FrameLemmas.{begun_follows, finished_follows, sent_follows}
use Rattle.vm_device.proofs.MappingLemmas.{fits_called, fits_closed, fits_opened}
use Rattle.vm_device.proofs.StepLemmas.{within, same_value, closed_sound, opened_sound, begun_sound, finished_sound, sent_sound, sent_keeps, room_for_events, IsRunning, out_in}

-- the marks after one session changed
pub marks_after : (xs : List (Option SessionState)) (flags : List Bool) (id : ℕ) (v : Option SessionState) → id < length xs → flags ≡ map is_ready xs
    → set flags id (is_ready (get_or (set xs id v) id None)) ≡ map is_ready (set xs id v)
marks_after xs flags id v inside marked =
    ap (λ o. set flags id (is_ready o)) (get_or-set_same xs id v None inside)
    ∙ ap (λ fs. set fs id (is_ready v)) marked ∙ sym (map-set is_ready xs id v)

-- as many sessions are live
pub count_after : (xs : List (Option SessionState)) (id : ℕ) (s t : SessionState) → get_or xs id None ≡ Some s → count_there (set xs id (Some t)) ≡ count_there xs
count_after xs id s t there =
    let sum = sum_by-set one_if_there xs id (Some t) None (within xs id s there) in
    let before : one_if_there (get_or xs id None) ≡ 1 = ap one_if_there there in
    omega (arith, sum, before)

-- ---- a job begins

pub fits_begun : (d : DeviceState) (id : ℕ) (s : SessionState) → IsSound d → session_of d id ≡ Some s → FitsSessions (set d.sessions id (Some (begun s d.begun))) d.region.ranges
fits_begun d id s sound there =
    fits_called d.sessions id s (begun s d.begun) d.region.ranges there (begun_follows s d.begun (sound.fits.live id s there).framed) (inl refl) sound.fits

pub begin_keeps : (d : DeviceState) (id : ℕ) (s t : SessionState) (job : JobParts) (entry : JobOut) (jobs : List JobOut) → IsSound d → session_of d id ≡ Some s
    → true ≡ can_begin s → next_job s d.begun ≡ Some job → t ≡ (if can_begin s then begun s d.begun else s) → IsOf entry job → jobs ≡ d.jobs ++ entry ∷ []
    → IsSound (record d { sessions = set d.sessions id (Some t); jobs = jobs; begun = d.begun + 1 })
begin_keeps d id s t job entry jobs sound there can is next of pushed =
    let after : t ≡ begun s d.begun = next ∙ ap (λ b. if b then begun s d.begun else s) (sym can) in
    rw (after, pushed) (begun_sound d id s job entry sound there (sym can) is of (fits_begun d id s sound there))

-- ---- an event is sent

pub send_keeps : (d : DeviceState) (id : ℕ) (ids : List ℕ) (s t : SessionState) → IsSound d → d.unsent ≡ id ∷ ids → session_of d id ≡ Some s → t ≡ sent s
    → IsSound (record d { sessions = set d.sessions id (Some t); unsent = ids })
send_keeps d id ids s t sound is there next =
    rw next
    (sent_sound d id ids s sound is there
    (fits_called d.sessions id s (sent s) d.region.ranges there (sent_follows s (sound.fits.live id s there).framed) (inl (sent_keeps s).2) sound.fits))

-- ---- a job comes back

pub finish_keeps : (d : DeviceState) (number : ℕ) (spec : JobSpec) (done : DoneParts) (sessions : List (Option SessionState)) (jobs : List JobOut) (unsent : List ℕ) (n : ℕ)
    → IsSound d → (run : IsRunning d number spec) → sessions ≡ set d.sessions spec.session (Some (finished run.session done)) → length (finished run.session done).unsent ≤ 64
    → jobs ≡ filter (λ e. not (e.spec.session == spec.session)) d.jobs → n ≡ events_more run.session done → unsent ≡ d.unsent ++ replicate n spec.session
    → IsSound (record d { sessions = sessions; jobs = jobs; unsent = unsent })
finish_keeps d number spec done sessions jobs unsent n sound run next few left count pushed =
    rw (next, left, pushed, count)
    (finished_sound d spec.session run.session run.job done sound run.live run.runs few
    (fits_called d.sessions spec.session run.session (finished run.session done) d.region.ranges run.live
    (finished_follows run.session done (sound.fits.live spec.session run.session run.live).framed) (inl (made_same run.session.running)) sound.fits))
  where
    made_same : (o : Option Running) → (finished_by o run.session done).made ≡ run.session.made
    made_same None = refl
    made_same (Some r) = refl

-- the events that it adds have room
pub finish_room : (d : DeviceState) (number : ℕ) (spec : JobSpec) (done : DoneParts) (n room : ℕ) → IsSound d → (run : IsRunning d number spec)
    → length (finished run.session done).unsent ≤ 64 → n ≡ events_more run.session done → 64 * count_there d.sessions ≤ room → length d.unsent + n ≤ room
finish_room d number spec done n room sound run few count most =
    let t = finished run.session done in
    let after = finish_keeps d number spec done (set d.sessions spec.session (Some t)) (filter (λ e. not (e.spec.session == spec.session)) d.jobs)
    (d.unsent ++ replicate n spec.session) n sound run refl few refl count refl in
    let all = room_for_events _ after in
    let same = count_after d.sessions spec.session run.session t run.live in
    let longer = length-append d.unsent (replicate n spec.session) in
    let added = length-replicate n spec.session in
    omega (arith, all, same, longer, added, most)

pub finishes : (d d' : DeviceState) (spec : JobSpec) (done : DoneParts) (n : ℕ) → outstanding d done.job.spec.number ≡ Some spec → (run : IsRunning d done.job.spec.number spec)
    → outstanding_in run.session done.job.spec.number ≡ Some done.job.spec → n ≡ events_more run.session done
    → d' ≡ record d {
      sessions = set d.sessions spec.session (Some (finished run.session done));
      jobs = filter (λ e. not (e.spec.session == spec.session)) d.jobs;
      unsent = d.unsent ++ replicate n spec.session;
    } → Finishes d done d'
finishes d d' spec done n is run awaited count after =
    let same : spec ≡ done.job.spec = same_value spec spec done.job.spec (sym (out_in d done.job.spec.number spec run) ∙ awaited) in
    let own : spec.session ≡ done.job.spec.session = ap (λ (x : JobSpec). x.session) same in
    let P : ℕ → Type 0 = λ id. (session_of d id ≡ Some run.session) × (d' ≡ with_done d id run.session done) in
    let here : P spec.session = (run.live, after ∙ rw count refl) in
    let there : P done.job.spec.session = subst P own here in
    (run.session, is ∙ ap Some same, there.0, there.1)

pub strange : (d : DeviceState) (spec : JobSpec) (done : DoneParts) (stranger : Stranger) → outstanding d done.job.spec.number ≡ Some spec → (run : IsRunning d done.job.spec.number spec)
    → IsStrangerIn run.session done stranger → IsStranger d done stranger
strange d spec done stranger is run other = record {
  back = other.done;
  spec = other.spec ∙ out_in d done.job.spec.number spec run ∙ sym is;
  differs = other.differs;
}

-- ---- a session is closed

pub close_keeps : (d : DeviceState) (id : ℕ) (s : SessionState) (sessions : List (Option SessionState)) → IsSound d → session_of d id ≡ Some s
    → is_busy (session_of d id) ≡ false → sessions ≡ set d.sessions id None → IsSound (record d { sessions = sessions })
close_keeps d id s sessions sound there idle next =
    rw next (closed_sound d id s sound there (quiet (is_quiet s) (sym (ap is_busy there) ∙ idle)) (fits_closed d.sessions id d.region.ranges sound.fits))
  where
    quiet : (b : Bool) → not b ≡ false → b ≡ true
    quiet true is = refl
    quiet false is = cc

pub count_closed : (xs : List (Option SessionState)) (id : ℕ) (s : SessionState) → get_or xs id None ≡ Some s → count_there (set xs id None) ≤ count_there xs
count_closed xs id s there =
    let sum = sum_by-set one_if_there xs id None None (within xs id s there) in
    omega (arith, sum)

-- ---- a session is opened

not_ready : (m : Model) (id : ℕ) → can_begin (opening_session m id) ≡ false
not_ready Capture id = refl
not_ready Convert id = refl

pub open_keeps : (d : DeviceState) (s : SessionState) (sessions : List (Option SessionState)) (unsent : List ℕ) → IsSound d → length d.sessions < d.opens
    → s ≡ opening_session d.model (length d.sessions) → sessions ≡ d.sessions ++ Some s ∷ [] → unsent ≡ d.unsent
    → IsSound (record d { sessions = sessions; unsent = unsent })
open_keeps d s sessions unsent sound room is next same =
    rw (next, is, same)
    (opened_sound d (opening_session d.model (length d.sessions)) sound room refl refl refl
    (fits_opened d.sessions d.model (length d.sessions) d.region.ranges refl sound.fits))

pub count_opened : (xs : List (Option SessionState)) (s : SessionState) → count_there (xs ++ Some s ∷ []) ≡ count_there xs + 1
count_opened xs s = sum_by_push one_if_there xs (Some s)

pub marks_opened : (xs : List (Option SessionState)) (flags : List Bool) (m : Model) (id : ℕ) (s : SessionState) → flags ≡ map is_ready xs → s ≡ opening_session m id
    → flags ++ false ∷ [] ≡ map is_ready (xs ++ Some s ∷ [])
marks_opened xs flags m id s marked is =
    ap (λ fs. fs ++ false ∷ []) marked
    ∙ ap (λ b. map is_ready xs ++ b ∷ []) (sym (ap can_begin is ∙ not_ready m id)) ∙ sym (map-append is_ready xs (Some s ∷ []))
