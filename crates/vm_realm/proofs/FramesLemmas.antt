-- In a sound world a frame of a session has two messages at most.
use Rattle.std.proofs.Common.{◌≡◌, ℕ, ◌+◌, ◌≤◌, Bool, false, List, [], ◌∷◌, ◌++◌, Option, Some, None, length, map, refl, sym, ap, ◌∙◌, subst, arith, length-append}
use Rattle.std.specs.Prelude.{◌&&◌}
use Rattle.std.specs.Option.{IfSome, option_to_list, option_map}
use Rattle.std.proofs.lemmas.Bool.{cond_both, cond-false, and_left}
use Rattle.std.proofs.lemmas.List.{length-map}
use Rattle.std.proofs.lemmas.Option.{IfSome_then}
use Rattle.v4l_const.specs.declared.model.Model.{Model}
use Rattle.v4l_const.specs.declared.model.Model.TheVariants.{Capture, Convert}
use Rattle.v4l_const.specs.Model.{queues as types_of, has_events}
use Rattle.v4l_layout.specs.declared.buffer_rec.BufferRec.{BufferRec}
use Rattle.vm_job.specs.Job.{DoneParts}
use Rattle.vm_session.specs.declared.running.Running.{Running}
use Rattle.vm_session.specs.declared.unsent.Unsent.{Unsent}
use Rattle.vm_session.specs.Sound.{taken_by}
use Rattle.vm_session.specs.State.{SessionState}
use Rattle.vm_session.specs.Streaming.{sync_events, src_events, dst_event, events_of, finished_by, returned}
use Rattle.vm_device.specs.Device.{session_of}
use Rattle.vm_device.specs.Stream.{events_more}
use Rattle.vm_local.specs.State.{LocalState}
use Rattle.vm_stands.specs.Stands.{Stands}
use Rattle.vm_realm.specs.World.{WorldState}
use Rattle.vm_realm.specs.Inner.{Inner}
use Rattle.vm_realm.specs.Slice.{Slice, session_in, slice_at}
use Rattle.vm_realm.specs.Sound.{IsSeated, IsSoundSlice, IsSoundBy, IsHandle, id_at, inner_at}
use Rattle.vm_realm.proofs.SumLemmas.{one_in, one_most}
use Rattle.vm_realm.proofs.DeviceLemmas.{session_there}

-- ---- its messages

sync_most : (s : SessionState) (good : Bool) → length (sync_events s good) ≤ 1
sync_most s good = cond_both (has_events s.model && good) _ [] (λ (es : List Unsent). length es ≤ 1) (λ t. omega arith) (λ t. omega arith)

sync_none : (s : SessionState) (good : Bool) → has_events s.model ≡ false → length (sync_events s good) ≡ 0
sync_none s good none = ap length (cond-false (has_events s.model && good) _ [] (and_left (has_events s.model) good none))

source_one : (s : SessionState) (r : Running) (done : DoneParts) (o : Option BufferRec) →
    length (option_to_list (option_map (λ b. returned s r done.good b b.bytesused done.job.src) o)) ≡ one_in o
source_one s r done None = refl
source_one s r done (Some b) = refl

taken_long : (o : Option BufferRec) (dst : BufferRec) → length (option_to_list o ++ dst ∷ []) ≡ one_in o + 1
taken_long None dst = refl
taken_long (Some src) dst = refl

messages_long : (s : SessionState) (r : Running) (done : DoneParts) → length (events_of s r done) ≡ length (sync_events s done.good) + (one_in r.src + 1)
messages_long s r done =
    length-append (sync_events s done.good) (src_events s r done ++ dst_event s r done ∷ [])
    ∙ ap (λ n. length (sync_events s done.good) + n) (length-append (src_events s r done) (dst_event s r done ∷ []) ∙ ap (λ n. n + 1) (source_one s r done r.src))

few_messages : (m : Model) (s : SessionState) (r : Running) (done : DoneParts) → s.model ≡ m → map (λ b. b.kind) (taken_by (Some r)) ≡ types_of m → length (events_of s r done) ≤ 2
few_messages Capture s r done is took =
    let one : length (taken_by (Some r)) ≡ 1 = sym (length-map (taken_by (Some r)) (λ (b : BufferRec). b.kind)) ∙ ap length took in
    omega (arith, messages_long s r done, one, taken_long r.src r.dst, sync_most s done.good)
few_messages Convert s r done is took =
    omega (arith, messages_long s r done, one_most r.src, sync_none s done.good (ap has_events is))

more_by : (o : Option Running) (s : SessionState) (done : DoneParts) → IfSome o (λ r. length (events_of s r done) ≤ 2) → length (finished_by o s done).unsent ≤ length s.unsent + 2
more_by None s done few = omega arith
more_by (Some r) s done few = omega (arith, few, length-append s.unsent (events_of s r done))

pub few_more : (frames : List ℕ) (s : SessionState) (t : LocalState) (done : DoneParts) → Stands frames s t → events_more s done ≤ 2
few_more frames s t done stands =
    let each : IfSome s.running (λ r. length (events_of s r done) ≤ 2) = IfSome_then s.running stands.took (λ r took. few_messages t.model s r done stands.model took) in
    omega (arith, more_by s.running s done each)

-- ---- the handle of a session

-- the session of an id is that of a handle
pub record SeatedAt (w : WorldState) (id : ℕ) (s : SessionState) : Type 0 where
  pub process : ℕ
  pub handle : ℕ
  pub is_handle : IsHandle w process handle
  pub id_is : id_at w process handle ≡ Some id
  pub session : (slice_at w process handle).session ≡ Some s

pub seated_at : (w : WorldState) (rows : List (List Inner)) (id : ℕ) (s : SessionState) → IsSoundBy w rows → session_of w.host.device id ≡ Some s → SeatedAt w id s
seated_at w rows id s sound is =
    let at : _ = sound.ids.there id (session_there w.host.device id s is) in
    record {
      process = at.0;
      handle = at.1;
      is_handle = at.2;
      id_is = at.3;
      session = ap (session_in w.host.device) at.3 ∙ is;
    }

pub session_few_more : (w : WorldState) (rows : List (List Inner)) (id : ℕ) (s : SessionState) (done : DoneParts) → IsSoundBy w rows → session_of w.host.device id ≡ Some s → events_more s done ≤ 2
session_few_more w rows id s done sound is =
    let at : SeatedAt w id s = seated_at w rows id s sound is in
    let x : Slice = slice_at w at.process at.handle in
    let v : Inner = inner_at w rows at.process at.handle in
    let slice : IsSoundSlice x v = sound.slices at.process at.handle at.is_handle in
    let seated : IsSeated (Some s) x v = subst (λ o. IsSeated o x v) at.session slice.seated in
    few_more v.frames s v.ahead done seated.stands
