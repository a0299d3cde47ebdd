-- A sound slice goes on being one where alone what lies between its session and its driver changes.
use Rattle.std.proofs.Common.{◌≡◌, ℕ, true, false, Bool, List, [], ◌∷◌, ◌++◌, Option, Some, None, IsSome, refl, sym, ap, ◌∙◌, subst}
use Rattle.std.specs.List.{filter_map}
use Rattle.std.specs.Prelude.{IfSome, All, Contains}
use Rattle.std.specs.Option.{option_map}
use Rattle.vm_job.specs.Job.{JobParts}
use Rattle.vm_wire.specs.Message.{Posting, Returning}
use Rattle.vm_wire.specs.declared.delivery.Delivery.{Delivery}
use Rattle.vm_local.specs.declared.call.Call.{Call}
use Rattle.vm_local.specs.declared.entry.Entry.{Entry}
use Rattle.vm_local.specs.declared.entry.Entry.TheVariants.{Called}
use Rattle.vm_local.specs.declared.reply.Reply.{Reply}
use Rattle.vm_local.specs.State.{LocalState}
use Rattle.vm_home.specs.Moves.{is_refusal, is_stopping}
use Rattle.vm_session.specs.State.{SessionState}
use Rattle.vm_session.specs.declared.unsent.Unsent.{Unsent}
use Rattle.vm_stands.specs.Flight.{LeadAll}
use Rattle.vm_realm.specs.Inner.{Inner, driver_state, id_in, under_way, unsent_in}
use Rattle.vm_realm.specs.Laws.{GoesOnSoundly}
use Rattle.vm_realm.specs.Places.{told_state, queued_held, job_held}
use Rattle.vm_realm.specs.Slice.{Slice, Out, id_ahead}
use Rattle.vm_realm.specs.Slice.Out.{Nowhere, Asked, Kept, Told, Astray}
use Rattle.vm_realm.specs.SliceSteps.{holds_back}
use Rattle.vm_realm.specs.Sound.{IsPosted, IsBefore, IsTold, IsOut, IsSeated, HoldsFew, spec_running, stopped_last, queue_told, IsSoundSlice}
use Rattle.vm_realm.specs.Users.{AreUsers}

pub append_none : {A : Type 0} (xs : List A) → xs ++ [] ≡ xs
append_none [] = refl
append_none (x ∷ xs) = ap (λ ys. x ∷ ys) (append_none xs)

-- a slice that is sound with the same frames goes on soundly
pub on_soundly : (x' : Slice) (v v' : Inner) → v'.frames ≡ v.frames → IsSoundSlice x' v' → GoesOnSoundly x' v
on_soundly x' v v' frames sound = (v', [], frames ∙ sym (append_none v.frames), sound)

-- the slice with other messages, another session and another job
abbrev pub moved : Slice → List Delivery → List Delivery → Option SessionState → Option JobParts → Slice
moved x held events session job = record x { held = held; events = events; session = session; job = job }

-- behind a stopping call that was done nothing is unsent, and no job runs
abbrev pub IsQuietBehind : Inner → Option SessionState → Option JobParts → Type 0
IsQuietBehind v session job =
    (line : ℕ) (call : Call) (reply : Reply) → v.executed ≡ Some (Called line call reply) → is_stopping call ≡ true → is_refusal reply ≡ false →
    (unsent_in session ≡ []) × (job ≡ None)

-- What is so of such a move: the messages that are under way are the same.
pub record IsMove (x : Slice) (v : Inner) (held events : List Delivery) (session : Option SessionState) (job : Option JobParts) : Type 0 where
  pub under : under_way (moved x held events session job) ≡ under_way x
  pub live : (m : Posting) → x.out ≡ Kept m → IsSome x.session → IsSome session
  pub quiet : IsQuietBehind v x.session x.job → IsQuietBehind v session job
  pub seated : IsSeated session (moved x held events session job) v
  pub named : IfSome session (λ s. id_ahead x.handle x.out ≡ Some s.id)
  pub runs : spec_running session ≡ option_map (λ j. j.spec) job
  pub holds : HoldsFew (holds_back x.handle.stage) held
  pub queued : AreUsers v.ahead (queued_held session)
  pub taken : AreUsers v.ahead (job_held job)

before_moved : (b : Bool) (x y : Slice) (before : LocalState) → id_in y ≡ id_in x → driver_state y ≡ driver_state x → under_way y ≡ under_way x → IsBefore b x before → IsBefore b y before
before_moved true x y before ids state under leads =
    subst (λ n. LeadAll n (driver_state y) (under_way y) before) (sym ids)
    (subst (λ s. LeadAll (id_in x) s (under_way y) before) (sym state) (subst (λ es. LeadAll (id_in x) (driver_state x) es before) (sym under) leads))
before_moved false x y before ids state under is = is ∙ sym state

abbrev pub posted_moved : (x : Slice) (held events : List Delivery) (session : Option SessionState) (job : Option JobParts) (m : Posting) → IsPosted x m → IsPosted (moved x held events session job) m
posted_moved x held events session job m posted = record {
  line = posted.line;
  call = posted.call;
  crossing = posted.crossing;
  along = posted.along;
  underway = posted.underway;
  crosses = posted.crosses;
  words = posted.words;
  first = posted.first;
  says = posted.says;
  memory = posted.memory;
}

told_moved : (x : Slice) (v : Inner) (held events : List Delivery) (session : Option SessionState) (job : Option JobParts) (r : Returning) → IsMove x v held events session job →
    IsTold x v r → IsTold (moved x held events session job) v r
told_moved x v held events session job r is told =
    let y : Slice = moved x held events session job in
    record {
      line = told.line;
      call = told.call;
      reply = told.reply;
      next = told.next;
      underway = told.underway;
      crosses = told.crosses;
      first = told.first;
      executed = told.executed;
      before = before_moved (is_stopping told.call) x y v.before refl refl is.under told.before;
      is_call = told.is_call;
      who = told.who;
      bytes = told.bytes;
      small = told.small;
      address = told.address;
      memories = told.memories;
      quiet = λ stops done. is.quiet (quiet_of told) told.line told.call told.reply told.executed stops done;
    }
  where
    quiet_of : IsTold x v r → IsQuietBehind v x.session x.job
    quiet_of told line call reply executed stops done =
        let same : Called told.line told.call told.reply ≡ Called line call reply = some_entry (sym told.executed ∙ executed) in
        told.quiet (ap is_stopping (call_same same) ∙ stops) (ap is_refusal (reply_same same) ∙ done)
      where
        some_entry : {e d : Entry} → Some e ≡ Some d → e ≡ d
        some_entry same = cc

        call_same : Called told.line told.call told.reply ≡ Called line call reply → told.call ≡ call
        call_same same = cc

        reply_same : Called told.line told.call told.reply ≡ Called line call reply → told.reply ≡ reply
        reply_same same = cc

out_moved : (x : Slice) (v : Inner) (held events : List Delivery) (session : Option SessionState) (job : Option JobParts) (o : Out) → x.out ≡ o → IsMove x v held events session job →
    IsOut o x v → IsOut o (moved x held events session job) v
out_moved x v held events session job Nowhere at is out = (record { executed = out.0.executed; before = out.0.before }, out.1)
out_moved x v held events session job (Asked m) at is out =
    (record { executed = out.0.executed; before = out.0.before }, posted_moved x held events session job m out.1)
out_moved x v held events session job (Kept m) at is out = (
  record { executed = out.0.executed; before = out.0.before },
  record {
    posted = posted_moved x held events session job m out.1.posted;
    stops = out.1.stops;
    live = is.live m at out.1.live;
  },
)
out_moved x v held events session job (Told r) at is out = told_moved x v held events session job r is out
out_moved x v held events session job Astray at is out = out

pub moved_sound : (x : Slice) (v : Inner) (held events : List Delivery) (session : Option SessionState) (job : Option JobParts) → IsSoundSlice x v → IsMove x v held events session job →
    IsSoundSlice (moved x held events session job) v
moved_sound x v held events session job sound is =
    let y : Slice = moved x held events session job in
    record {
      log = sound.log;
      handle = sound.handle;
      out = out_moved x v held events session job x.out refl is sound.out;
      seated = is.seated;
      named = is.named;
      runs = is.runs;
      still = subst (λ (es : List Unsent). All (λ e. ¬ Contains (stopped_last x) (queue_told x.handle.log.model e.msg)) es) (sym is.under) sound.still;
      held = is.holds;
      users = record {
        home = sound.users.home;
        lent = sound.users.lent;
        along = sound.users.along;
        back = sound.users.back;
        messages = subst (λ (es : List Unsent). AreUsers (told_state v) (filter_map (λ e. e.held) es)) (sym is.under) sound.users.messages;
        queued = is.queued;
        job = is.taken;
      };
    }
