-- Calls that the device does in a session, and that move no memory, keep a slice sound.
use Rattle.std.proofs.Common.{◌≡◌, inl, inr, ℕ, suc, ◌<◌, ◌^◌, true, false, Bool, List, [], ◌∷◌, ◌++◌, length, get_or, Option, Some, None, IsSome, refl, sym, ap, ◌∙◌, subst, arith, lit<, if◌then◌else◌, true≢false}
use Rattle.std.specs.List.{flat_map}
use Rattle.std.specs.Option.{option_map, option_to_list}
use Rattle.std.specs.Prelude.{Result, Ok, Err, take}
use Rattle.std.proofs.lemmas.Bool.{false≢true}
use Rattle.std.proofs.lemmas.Option.{none-some}
use Rattle.std.proofs.lemmas.List.Elements.{All-nil, All-weaker}
use Rattle.std.proofs.lemmas.List.{get_or-set_same}
use Rattle.v4l_const.specs.Errno.{errno_number}
use Rattle.v4l_const.specs.declared.errno.Errno.{Errno}
use Rattle.v4l_const.specs.declared.ioctl_code.IoctlCode.{IoctlCode}
use Rattle.v4l_const.specs.declared.ioctl_code.IoctlCode.TheVariants.{QueryCap as QueryCapCode, EnumFmt as EnumFmtCode, GFmt as GFmtCode, TryFmt as TryFmtCode, SFmt as SFmtCode, EnumInput as EnumInputCode, GInput as GInputCode, SInput as SInputCode, QueryBuf as QueryBufCode, StreamOn as StreamOnCode, SubscribeEvent as SubscribeCode, UnsubscribeEvent as UnsubscribeCode}
use Rattle.v4l_const.specs.Model.{queues as types_of}
use Rattle.v4l_rules.specs.Formats.{with_set_format_at}
use Rattle.v4l_rules.specs.Queues.{place_in}
use Rattle.v4l_rules.specs.Refusals.{first_refusal}
use Rattle.v4l_rules.proofs.SetLemmas.{set_keeps, formatted_keeps}
use Rattle.vm_frame.specs.declared.mem.Held.{Held}
use Rattle.vm_queue.specs.Buffers.{memories}
use Rattle.vm_wire.specs.Message.{Posting, Returning}
use Rattle.vm_wire.specs.Wire.{number_at, response_bytes}
use Rattle.vm_wire.specs.declared.command.Command.TheVariants.{Ioctl}
use Rattle.vm_wire.specs.declared.response.Response.{Response}
use Rattle.vm_wire.specs.declared.response.Response.TheVariants.{Refused as Denied, Opened, Answered}
use Rattle.vm_local.specs.declared.call.Call.{Call}
use Rattle.vm_local.specs.declared.call.Call.TheVariants.{QueryCap, EnumFmt, GFmt, TryFmt, SFmt, EnumInput, GInput, SInput, QueryBuf, StreamOn, Subscribe, Unsubscribe}
use Rattle.vm_local.specs.declared.entry.Entry.{Entry}
use Rattle.vm_local.specs.declared.entry.Entry.TheVariants.{Called}
use Rattle.vm_local.specs.declared.reply.Reply.{Reply}
use Rattle.vm_local.specs.declared.reply.Reply.TheVariants.{Refused}
use Rattle.vm_local.specs.State.{QueueState, LocalState, opening_queue as local_opening, queue_kind as local_kind, queue_of as local_queue, buffer_of}
use Rattle.vm_local.specs.Queue.{adjusted_for as local_adjusted, started as local_started}
use Rattle.vm_local.specs.Same.{address_in}
use Rattle.vm_local.specs.Steps.{number_of}
use Rattle.vm_local.specs.Calls.{row_of, querycap_row, enumfmt_row, gfmt_row, tryfmt_row, sfmt_row, enuminput_row, ginput_row, sinput_row, querybuf_row, streamon_row, subscribe_row, unsubscribe_row}
use Rattle.vm_local.specs.Log.{IsCall, row_for, called, after}
use Rattle.vm_local.proofs.KeptLemmas.{some_same}
use Rattle.vm_local.proofs.StepLemmas.{answered_by}
use Rattle.vm_commute.specs.Commute.{may_cross}
use Rattle.vm_commute.proofs.ReachedLemmas.{reached_after}
use Rattle.vm_home.specs.Moves.{memory_at, is_stopping, stops, made_by, ComeBack, ComeWith}
use Rattle.vm_home.specs.Reached.{IsReached}
use Rattle.vm_exchange.specs.declared.crossing.Crossing.{Crossing}
use Rattle.vm_exchange.specs.declared.way.Way.TheVariants.{Crosses, AnsweredHere}
use Rattle.vm_exchange.specs.Exchange.{way_of, from_open, asks, crossing, crossing_of, response_to}
use Rattle.vm_exchange.specs.Range.{AreWords}
use Rattle.vm_exchange.proofs.OutcomeLemmas.{outcome}
use Rattle.vm_handle.specs.Answers.{session_from}
use Rattle.vm_handle.specs.Handle.{HandleState, id_of, crossing_from}
use Rattle.vm_handle.specs.declared.stage.Stage.TheVariants.{Underway}
use Rattle.vm_session.specs.Buffers.{queued_memories, started}
use Rattle.vm_session.specs.Rows.{code_at, querycap_row as s_querycap, enumfmt_row as s_enumfmt, gfmt_row as s_gfmt, tryfmt_row as s_tryfmt, sfmt_row as s_sfmt, enuminput_row as s_enuminput, ginput_row as s_ginput, sinput_row as s_sinput, querybuf_row as s_querybuf, streamon_row as s_streamon, subscribe_row as s_subscribe, unsubscribe_row as s_unsubscribe, IoctlRow, IoctlAnswer, ioctl_row, refused_or, refusal_of, ioctl_outcome, held_after}
use Rattle.vm_session.specs.Sound.{IsSound as IsSoundSession}
use Rattle.vm_session.specs.State.{SessionQueue, SessionState, opening_queue, queue_kind, queue_of, adjusted_for}
use Rattle.vm_session.specs.declared.running.Running.{Running}
use Rattle.vm_session.specs.declared.unsent.Unsent.{Unsent}
use Rattle.vm_stands.specs.Laws.{frames_by, Along}
use Rattle.vm_stands.specs.Slice.{IsSlice, LeadWith, Goes}
use Rattle.vm_stands.proofs.AnswerLemmas.{nothing_back}
use Rattle.vm_stands.proofs.FormatLemmas.{set_long}
use Rattle.vm_stands.proofs.SliceCallLemmas.{slice_answers}
use Rattle.vm_device.specs.Brought.{comes_with}
use Rattle.vm_device.specs.Device.{DeviceState, session_of, with_session}
use Rattle.vm_device.specs.Perform.{Answer, called as called_session, called_with, in_session, refused}
use Rattle.vm_realm.specs.Inner.{Inner, driver_state, unsent_in}
use Rattle.vm_realm.specs.Laws.{GoesOnSoundly, CallsKeepSlice, is_plain}
use Rattle.vm_realm.specs.Places.{told_state, told_state_if, stopped_by as stopped_many, queued_held, job_held}
use Rattle.vm_realm.specs.Slice.{Slice, id_ahead, session_in, earlier_of}
use Rattle.vm_realm.specs.Slice.Out.{Told}
use Rattle.vm_realm.specs.SliceSteps.{IsFirst, IsServed, told_by}
use Rattle.vm_realm.specs.Sound.{IsBefore, IsSeated, spec_running, IsSoundSlice, IsWholeSlice}
use Rattle.vm_realm.specs.Users.{IsUsers, AreUsers}
use Rattle.vm_realm.proofs.KeepStateLemmas.{IsAlike, alike_back, lead_alike, held_alike}
use Rattle.vm_realm.proofs.KeepOutLemmas.{append_none, on_soundly}
use Rattle.vm_realm.proofs.KeepOwnLemmas.{told_held}
use Rattle.vm_realm.proofs.KeepFrameLemmas.{flat_set, take_none}
use Rattle.vm_realm.proofs.KeepReplyLemmas.{users_like, like_call}
use Rattle.vm_realm.proofs.KeepServeLemmas.{asked_same, done_sound}
use Rattle.vm_realm.proofs.KeepOpenLemmas.{IsOutside, outside, none_along, told_id, live_session, some_within}

-- ---- what the session does

pub is_plain_code : IoctlCode → Bool
is_plain_code QueryCapCode = true
is_plain_code EnumFmtCode = true
is_plain_code GFmtCode = true
is_plain_code TryFmtCode = true
is_plain_code SFmtCode = true
is_plain_code EnumInputCode = true
is_plain_code GInputCode = true
is_plain_code SInputCode = true
is_plain_code QueryBufCode = true
is_plain_code StreamOnCode = true
is_plain_code SubscribeCode = true
is_plain_code UnsubscribeCode = true
is_plain_code code = false

-- What it leaves of the session: its job, its messages and its memories.
pub record IsSame (s t : SessionState) : Type 0 where
  pub id : t.id ≡ s.id
  pub running : t.running ≡ s.running
  pub unsent : t.unsent ≡ s.unsent
  pub queued : queued_memories t.queues ≡ queued_memories s.queues

pub same_itself : (s : SessionState) → IsSame s s
same_itself s = record { id = refl; running = refl; unsent = refl; queued = refl }

flat_same : {A B : Type 0} (f : A → List B) (d : A) (xs ys : List A) → length ys ≡ length xs → ((p : ℕ) → f (get_or ys p d) ≡ f (get_or xs p d)) → flat_map f ys ≡ flat_map f xs
flat_same f d [] [] long each = refl
flat_same f d [] (y ∷ ys) long each = absurd (omega (arith, long))
flat_same f d (x ∷ xs) [] long each = absurd (omega (arith, long))
flat_same f d (x ∷ xs) (y ∷ ys) long each =
    (λ j. each 0 j ++ flat_same f d xs ys (omega (arith, long)) (λ p. each (suc p)) j)

row_same : (s : SessionState) (code : IoctlCode) (p : List ℕ) → is_plain_code code ≡ true → IsSame s (ioctl_row s code p []).next × ((ioctl_row s code p []).back ≡ [])
unfolding is_plain_code s_querycap s_enumfmt s_gfmt s_tryfmt s_sfmt s_enuminput s_ginput s_sinput s_querybuf s_streamon s_subscribe s_unsubscribe
row_same s QueryCapCode p plain = (same_itself s, refl)
row_same s EnumFmtCode p plain = (same_itself s, refl)
row_same s GFmtCode p plain = (same_itself s, refl)
row_same s TryFmtCode p plain = (same_itself s, refl)
row_same s SFmtCode p plain =
    let t : ℕ = number_at 0 p in
    let f : _ = adjusted_for s t (code_at 16 p) (number_at 8 p) (number_at 12 p) in (
      record {
        id = refl;
        running = refl;
        unsent = refl;
        queued = flat_same (λ (q : SessionQueue). memories q.queued) opening_queue s.queues (with_set_format_at queue_kind s.model s.queues t f) (set_long queue_kind s.model s.queues t f)
            (λ k. formatted_keeps queue_kind (λ (q : SessionQueue). memories q.queued) (λ q g. refl) s.model s.queues t f k);
      },
      refl,
    )
row_same s EnumInputCode p plain = (same_itself s, refl)
row_same s GInputCode p plain = (same_itself s, refl)
row_same s SInputCode p plain = (record { id = refl; running = refl; unsent = refl; queued = refl }, refl)
row_same s QueryBufCode p plain = (same_itself s, refl)
row_same s StreamOnCode p plain = (
  record {
    id = refl;
    running = refl;
    unsent = refl;
    queued = flat_set (λ (q : SessionQueue). memories q.queued) s.queues (place_in (types_of s.model) (number_at 0 p)) opening_queue (started (queue_of s (number_at 0 p))) refl;
  },
  refl,
)
row_same s SubscribeCode p plain = (same_itself s, refl)
row_same s UnsubscribeCode p plain = (same_itself s, refl)
row_same s code p plain = absurd (false≢true plain)

pub ok_same : {A B : Type 0} (a b : A) → ◌≡◌ {A = Result A B} (Ok a) (Ok b) → a ≡ b
ok_same a b is = cc

pub not_ok : {A B : Type 0} (e : B) (a : A) → ◌≡◌ {A = Result A B} (Err e) (Ok a) → ⊥
not_ok e a is = cc

pub outcome_row : (o : Option Errno) (r : IoctlRow) (a : IoctlAnswer) → refused_or o (record { payload = r.payload; back = r.back; next = r.next }) ≡ Ok a → (a.next ≡ r.next) × (a.back ≡ r.back)
outcome_row None r a is =
    let same : record { payload = r.payload; back = r.back; next = r.next } ≡ a = ok_same {A = IoctlAnswer} (record { payload = r.payload; back = r.back; next = r.next }) a is in
    (ap (λ (z : IoctlAnswer). z.next) (sym same), ap (λ (z : IoctlAnswer). z.back) (sym same))
outcome_row (Some e) r a is = absurd (not_ok {A = IoctlAnswer} e a is)

plain_same : (memory : Bool) (s : SessionState) (code : IoctlCode) (p : List ℕ) (a : IoctlAnswer) → is_plain_code code ≡ true → ioctl_outcome memory s code p [] ≡ Ok a → IsSame s a.next × (a.back ≡ [])
plain_same memory s code p a plain is =
    let by : (a.next ≡ (ioctl_row s code p []).next) × (a.back ≡ (ioctl_row s code p []).back) = outcome_row (refusal_of memory (ioctl_row s code p [])) (ioctl_row s code p []) a is in
    let same : IsSame s (ioctl_row s code p []).next × ((ioctl_row s code p []).back ≡ []) = row_same s code p plain in
    (subst (IsSame s) (sym by.0) same.0, by.1 ∙ same.1)

plain_comes : (s : SessionState) (code : IoctlCode) (p wire : List ℕ) (held : List Held) → is_plain_code code ≡ true → comes_with s code p wire held ≡ Ok held
unfolding is_plain_code
plain_comes s QueryCapCode p wire held plain = refl
plain_comes s EnumFmtCode p wire held plain = refl
plain_comes s GFmtCode p wire held plain = refl
plain_comes s TryFmtCode p wire held plain = refl
plain_comes s SFmtCode p wire held plain = refl
plain_comes s EnumInputCode p wire held plain = refl
plain_comes s GInputCode p wire held plain = refl
plain_comes s SInputCode p wire held plain = refl
plain_comes s QueryBufCode p wire held plain = refl
plain_comes s StreamOnCode p wire held plain = refl
plain_comes s SubscribeCode p wire held plain = refl
plain_comes s UnsubscribeCode p wire held plain = refl
plain_comes s code p wire held plain = absurd (false≢true plain)

plain_held : (code : IoctlCode) (held back : List Held) → is_plain_code code ≡ true → held_after code held back ≡ held ++ back
unfolding is_plain_code
plain_held QueryCapCode held back plain = refl
plain_held EnumFmtCode held back plain = refl
plain_held GFmtCode held back plain = refl
plain_held TryFmtCode held back plain = refl
plain_held SFmtCode held back plain = refl
plain_held EnumInputCode held back plain = refl
plain_held GInputCode held back plain = refl
plain_held SInputCode held back plain = refl
plain_held QueryBufCode held back plain = refl
plain_held StreamOnCode held back plain = refl
plain_held SubscribeCode held back plain = refl
plain_held UnsubscribeCode held back plain = refl
plain_held code held back plain = absurd (false≢true plain)

-- ---- the way of the call

pub record IsPlainWay (id : ℕ) (r : LocalState) (call : Call) (c : Crossing) : Type 0 where
  pub code : IoctlCode
  pub payload : List ℕ
  pub opened : r.opened ≡ true
  pub is : c ≡ record { command = Ioctl id code payload; user = None }
  pub plain : is_plain_code code ≡ true
  pub way : way_of id r call ≡ Crosses c

plain_from : (id : ℕ) (r : LocalState) (call : Call) (code : IoctlCode) (payload : List ℕ) (c : Crossing) → is_plain_code code ≡ true → way_of id r call ≡ from_open r (asks id code payload) →
    crossing_of id r call ≡ Some c → IsPlainWay id r call c
plain_from id r call code payload c plain way is = by_open r.opened refl (sym (ap crossing way) ∙ is)
  where
    by_open : (b : Bool) → r.opened ≡ b → crossing (if r.opened then asks id code payload else AnsweredHere) ≡ Some c → IsPlainWay id r call c
    by_open true open_now is =
        let here : Some (record { command = Ioctl id code payload; user = None }) ≡ Some c = sym (ap (λ b. crossing (if b then asks id code payload else AnsweredHere)) open_now) ∙ is in
        let same : record { command = Ioctl id code payload; user = None } ≡ c = some_same (record { command = Ioctl id code payload; user = None }) c c here in
        record {
          code = code;
          payload = payload;
          opened = open_now;
          is = sym same;
          plain = plain;
          way = way ∙ (ap (λ b. if b then asks id code payload else AnsweredHere) open_now ∙ ap (λ k. Crosses k) same);
        }
    by_open false shut is = absurd (none-some c (sym (ap (λ b. crossing (if b then asks id code payload else AnsweredHere)) shut) ∙ is))

plain_way : (id : ℕ) (r : LocalState) (call : Call) (c : Crossing) → is_plain call ≡ true → crossing_of id r call ≡ Some c → IsPlainWay id r call c
unfolding is_plain_code
plain_way id r QueryCap c plain is = plain_from id r QueryCap QueryCapCode _ c refl refl is
plain_way id r (EnumFmt t i) c plain is = plain_from id r (EnumFmt t i) EnumFmtCode _ c refl refl is
plain_way id r (GFmt t) c plain is = plain_from id r (GFmt t) GFmtCode _ c refl refl is
plain_way id r (TryFmt t f w h) c plain is = plain_from id r (TryFmt t f w h) TryFmtCode _ c refl refl is
plain_way id r (SFmt t f w h) c plain is = plain_from id r (SFmt t f w h) SFmtCode _ c refl refl is
plain_way id r (EnumInput i) c plain is = plain_from id r (EnumInput i) EnumInputCode _ c refl refl is
plain_way id r GInput c plain is = plain_from id r GInput GInputCode _ c refl refl is
plain_way id r (SInput i) c plain is = plain_from id r (SInput i) SInputCode _ c refl refl is
plain_way id r (QueryBuf t i) c plain is = plain_from id r (QueryBuf t i) QueryBufCode _ c refl refl is
plain_way id r (StreamOn t) c plain is = plain_from id r (StreamOn t) StreamOnCode _ c refl refl is
plain_way id r (Subscribe e) c plain is = plain_from id r (Subscribe e) SubscribeCode _ c refl refl is
plain_way id r (Unsubscribe e) c plain is = plain_from id r (Unsubscribe e) UnsubscribeCode _ c refl refl is
plain_way id r call c plain is = absurd (false≢true plain)

-- ---- the call in the handle

-- What is so of such a call.
pub record IsPlainCall (call : Call) : Type 0 where
  pub may : may_cross call ≡ true
  pub never : is_stopping call ≡ false
  pub nothing : (s : LocalState) → stops s call ≡ []
  pub none_made : (s : LocalState) → made_by s call ≡ []
  pub frames : (s : LocalState) → frames_by s call ≡ []
  pub first : (h : HandleState) → IsFirst h call
  pub session : (o : Option ℕ) (reply : Reply) (response : Response) → session_from o call reply response ≡ o
  pub along : (s : LocalState) (held : List Held) → Along s call held → held ≡ []
  pub goes : (s : LocalState) → Along s call []

plain_call : (call : Call) → is_plain call ≡ true → IsPlainCall call
plain_call QueryCap plain = record { may = refl; never = refl; nothing = λ s. refl; none_made = λ s. refl; frames = λ s. refl; first = λ h. tt; session = λ o r z. refl; along = λ s held is. is; goes = λ s. refl }
plain_call (EnumFmt t i) plain = record { may = refl; never = refl; nothing = λ s. refl; none_made = λ s. refl; frames = λ s. refl; first = λ h. tt; session = λ o r z. refl; along = λ s held is. is; goes = λ s. refl }
plain_call (GFmt t) plain = record { may = refl; never = refl; nothing = λ s. refl; none_made = λ s. refl; frames = λ s. refl; first = λ h. tt; session = λ o r z. refl; along = λ s held is. is; goes = λ s. refl }
plain_call (TryFmt t f w h) plain = record { may = refl; never = refl; nothing = λ s. refl; none_made = λ s. refl; frames = λ s. refl; first = λ h. tt; session = λ o r z. refl; along = λ s held is. is; goes = λ s. refl }
plain_call (SFmt t f w h) plain = record { may = refl; never = refl; nothing = λ s. refl; none_made = λ s. refl; frames = λ s. refl; first = λ h. tt; session = λ o r z. refl; along = λ s held is. is; goes = λ s. refl }
plain_call (EnumInput i) plain = record { may = refl; never = refl; nothing = λ s. refl; none_made = λ s. refl; frames = λ s. refl; first = λ h. tt; session = λ o r z. refl; along = λ s held is. is; goes = λ s. refl }
plain_call GInput plain = record { may = refl; never = refl; nothing = λ s. refl; none_made = λ s. refl; frames = λ s. refl; first = λ h. tt; session = λ o r z. refl; along = λ s held is. is; goes = λ s. refl }
plain_call (SInput i) plain = record { may = refl; never = refl; nothing = λ s. refl; none_made = λ s. refl; frames = λ s. refl; first = λ h. tt; session = λ o r z. refl; along = λ s held is. is; goes = λ s. refl }
plain_call (QueryBuf t i) plain = record { may = refl; never = refl; nothing = λ s. refl; none_made = λ s. refl; frames = λ s. refl; first = λ h. tt; session = λ o r z. refl; along = λ s held is. is; goes = λ s. refl }
plain_call (StreamOn t) plain = record { may = refl; never = refl; nothing = λ s. refl; none_made = λ s. refl; frames = λ s. refl; first = λ h. tt; session = λ o r z. refl; along = λ s held is. is; goes = λ s. refl }
plain_call (Subscribe e) plain = record { may = refl; never = refl; nothing = λ s. refl; none_made = λ s. refl; frames = λ s. refl; first = λ h. tt; session = λ o r z. refl; along = λ s held is. is; goes = λ s. refl }
plain_call (Unsubscribe e) plain = record { may = refl; never = refl; nothing = λ s. refl; none_made = λ s. refl; frames = λ s. refl; first = λ h. tt; session = λ o r z. refl; along = λ s held is. is; goes = λ s. refl }
plain_call call plain = absurd (false≢true plain)

plain_next : (s : LocalState) (line addr : ℕ) (call : Call) → is_plain call ≡ true → (u i : ℕ) → memory_at (row_of s line addr call).next u i ≡ memory_at s u i
unfolding querycap_row enumfmt_row gfmt_row tryfmt_row sfmt_row enuminput_row ginput_row sinput_row querybuf_row streamon_row subscribe_row unsubscribe_row
plain_next s line addr QueryCap plain u i = refl
plain_next s line addr (EnumFmt t k) plain u i = refl
plain_next s line addr (GFmt t) plain u i = refl
plain_next s line addr (TryFmt t f w h) plain u i = refl
plain_next s line addr (SFmt t f w h) plain u i =
    formatted_keeps local_kind (λ (q : QueueState). number_of (buffer_of q i)) (λ q g. refl) s.model s.queues t (local_adjusted s t f w h) (place_in (types_of s.model) u)
plain_next s line addr (EnumInput k) plain u i = refl
plain_next s line addr GInput plain u i = refl
plain_next s line addr (SInput k) plain u i = refl
plain_next s line addr (QueryBuf t k) plain u i = refl
plain_next s line addr (StreamOn t) plain u i =
    set_keeps local_opening (λ (q : QueueState). number_of (buffer_of q i)) s.queues (place_in (types_of s.model) t) (local_started (local_queue s t)) refl (place_in (types_of s.model) u)
plain_next s line addr (Subscribe e) plain u i = refl
plain_next s line addr (Unsubscribe e) plain u i = refl
plain_next s line addr call plain u i = absurd (false≢true plain)

plain_memory : (s t : LocalState) (line : ℕ) (call : Call) (reply : Reply) → is_plain call ≡ true → IsCall s line call reply t → (u i : ℕ) → memory_at t u i ≡ memory_at s u i
unfolding called
plain_memory s t line call reply plain leads u i =
    elim (answered_by (first_refusal (row_for s line call reply).refusals) (row_for s line call reply) s reply t leads) as (λ _. memory_at t u i ≡ memory_at s u i) [
      | inl same ↦ ap (λ z. memory_at z u i) same
      | inr w ↦ ap (λ z. memory_at z u i) w.3 ∙ plain_next s line (address_in reply) call plain u i
    ]

plain_row : (s : LocalState) (line addr : ℕ) (call : Call) → is_plain call ≡ true → address_in (row_of s line addr call).reply ≡ 0
unfolding querycap_row enumfmt_row gfmt_row tryfmt_row sfmt_row enuminput_row ginput_row sinput_row querybuf_row streamon_row subscribe_row unsubscribe_row
plain_row s line addr QueryCap plain = refl
plain_row s line addr (EnumFmt t i) plain = refl
plain_row s line addr (GFmt t) plain = refl
plain_row s line addr (TryFmt t f w h) plain = refl
plain_row s line addr (SFmt t f w h) plain = refl
plain_row s line addr (EnumInput i) plain = refl
plain_row s line addr GInput plain = refl
plain_row s line addr (SInput i) plain = refl
plain_row s line addr (QueryBuf t i) plain = refl
plain_row s line addr (StreamOn t) plain = refl
plain_row s line addr (Subscribe e) plain = refl
plain_row s line addr (Unsubscribe e) plain = refl
plain_row s line addr call plain = absurd (false≢true plain)

plain_address : (s t : LocalState) (line : ℕ) (call : Call) (reply : Reply) → is_plain call ≡ true → IsCall s line call reply t → address_in reply ≡ 0
plain_address s t line call reply plain leads =
    elim (outcome s line call reply t leads) as (λ _. address_in reply ≡ 0) [
      | inl refused ↦ ap address_in refused.1
      | inr done ↦ ap address_in done.1 ∙ plain_row s line (address_in reply) call plain
    ]

plain_leaves : (line : ℕ) (call : Call) (a : LocalState) → is_plain call ≡ true → (b : LocalState) (reply : Reply) → IsCall a line call reply b → ((u i : ℕ) → memory_at b u i ≡ memory_at a u i) × (address_in reply < 2 ^ 64)
plain_leaves line call a plain b reply leads =
    (plain_memory a b line call reply plain leads, subst (λ n. n < 2 ^ 64) (sym (plain_address a b line call reply plain leads)) (lit< tt))

pub come_none : (s t : LocalState) (call : Call) (reply : Reply) → ComeBack s t call [] → ComeWith s t call reply []
come_none s t call (Refused e) come = refl
come_none s t call reply come = come

-- ---- the slice

-- What is so where such a call is done in its session: what crosses back, and the slice that goes on.
pub record IsAnswered (x : Slice) (v : Inner) (s next : SessionState) (answer : Answer) (line : ℕ) (call : Call) : Type 0 where
  pub reply : Reply
  pub ahead : LocalState
  pub told : response_to s.id (driver_state x) call reply ≡ answer.response
  pub plain_told : (k : ℕ) → answer.response ≡ Opened k → ⊥
  pub held : answer.held ≡ []
  pub same : IsSame s next
  pub slice : IsSlice v.frames next x.job (earlier_of x) (Some (Called line call reply)) (driver_state x) ahead

pub answered_sound : (x : Slice) (v : Inner) (m : Posting) (s next : SessionState) (answer : Answer) (line : ℕ) (call : Call) → IsPlainCall call →
    ((b : LocalState) (reply : Reply) → IsCall (driver_state x) line call reply b → response_to s.id (driver_state x) call reply ≡ answer.response →
    ((u i : ℕ) → memory_at b u i ≡ memory_at (driver_state x) u i) × (address_in reply < 2 ^ 64)) → IsSoundSlice x v → IsOutside x v →
    x.handle.stage ≡ Underway line call → IsSome (crossing_from x.handle call) → m.request.who ≡ x.who → x.session ≡ Some s → x.handle.session ≡ Some s.id →
    IsSlice v.frames s x.job (earlier_of x) None (driver_state x) v.ahead → IsAnswered x v s next answer line call →
    GoesOnSoundly (record x { out = Told (told_by m answer); session = Some next }) v
answered_sound x v m s next answer line call p leaves sound is under crosses who session id slice a =
    let r : LocalState = driver_state x in
    let e : Entry = Called line call a.reply in
    let by : LeadWith false next.id r e (earlier_of x ++ next.unsent) a.ahead = subst (λ b. LeadWith b next.id r e (earlier_of x ++ next.unsent) a.ahead) p.never a.slice.leads in
    let u : LocalState = by.0 in
    let there : IsReached u = reached_after r u e is.reached by.1 in
    let reply : Returning = told_by m answer in
    let told : id_ahead x.handle (Told reply) ≡ Some s.id = told_id x line call reply under ∙ (p.session x.handle.session _ _ ∙ id) in
    let back : IsAlike v.ahead r = alike_back r v.ahead (lead_alike s.id r v.ahead (earlier_of x ++ s.unsent) is.reached slice.leads) in
    let on : IsAlike u a.ahead = lead_alike next.id u a.ahead (earlier_of x ++ next.unsent) there by.2 in
    let carry : (held : List Held) → AreUsers v.ahead held → AreUsers a.ahead held = λ held users.
    held_alike u a.ahead held on
    (All-weaker (λ (h : Held). IsUsers r (memory_at r h.queue h.index) h.mem) (λ (h : Held). IsUsers u (memory_at u h.queue h.index) h.mem)
    (λ h one. subst (λ n. IsUsers u n h.mem) (sym ((leaves u a.reply by.1 a.told).0 h.queue h.index))
    (users_like r u (memory_at r h.queue h.index) h.mem is.reached (like_call r u line call a.reply p.may by.1) one)) held (held_alike v.ahead r held back users)) in
    let w : Inner = record v { executed = Some e; before = r; ahead = a.ahead } in
    on_soundly (record x { out = Told reply; session = Some next }) v w refl (done_sound x v w reply (Some next) sound (record {
      told = record {
        line = line;
        call = call;
        reply = a.reply;
        next = u;
        underway = under;
        crosses = crosses;
        first = p.first x.handle;
        executed = refl;
        before = subst (λ b. IsBefore b (record x { out = Told reply; session = Some next }) r) (sym p.never) refl;
        is_call = by.1;
        who = who;
        bytes = ap response_bytes (sym a.told ∙ ap (λ k. response_to (id_of k) r call a.reply) (sym told));
        address = (leaves u a.reply by.1 a.told).1;
        small = λ k opens. absurd (a.plain_told k (sym a.told ∙ (ap (λ z. response_to (id_of z) r call a.reply) (sym told) ∙ opens)));
        memories = subst (ComeWith r u call a.reply) (sym a.held) (come_none r u call a.reply (nothing_back r u call (p.nothing r) (p.none_made u)));
        quiet = λ halts done. absurd (true≢false (sym halts ∙ p.never));
      };
      seated = a.slice;
      named = told ∙ ap Some (sym a.same.id);
      runs = ap (λ o. option_map (λ (z : Running). z.spec) o) a.same.running ∙ (ap spec_running (sym session) ∙ sound.runs);
      under = ap (λ (us : List Unsent). earlier_of x ++ us) a.same.unsent ∙ ap (λ o. earlier_of x ++ unsent_in o) (sym session);
      back = subst (λ hs. AreUsers r (take (stopped_many r (Some e)) hs)) (sym a.held) (subst (AreUsers r) (sym (take_none (stopped_many r (Some e)))) (All-nil _));
      messages = subst (λ z. AreUsers z (told_held x)) (sym (ap (λ b. told_state_if b w) p.never))
          (carry (told_held x) (subst (λ z. AreUsers z (told_held x)) (ap (λ k. told_state (record v { executed = k })) is.none) sound.users.messages));
      queued = subst (AreUsers a.ahead) (sym a.same.queued) (carry (queued_memories s.queues) (subst (λ o. AreUsers v.ahead (queued_held o)) session sound.users.queued));
      taken = carry (job_held x.job) sound.users.job;
    }))

-- ---- what the device answers

plain_served : (o : Result IoctlAnswer Errno) (x x' : Slice) (v : Inner) (m : Posting) (d : DeviceState) (s : SessionState) (code : IoctlCode) (payload : List ℕ) (line : ℕ) (call : Call) (memory : Bool) → ioctl_outcome memory s code payload [] ≡ o →
    is_plain call ≡ true → is_plain_code code ≡ true → IsSoundSlice x v → IsOutside x v → x.handle.stage ≡ Underway line call → IsSome (crossing_from x.handle call) → m.request.who ≡ x.who →
    x.session ≡ Some s → x.handle.session ≡ Some s.id → session_of d s.id ≡ Some s → IsSlice v.frames s x.job (earlier_of x) None (driver_state x) v.ahead → AreWords call →
    way_of s.id (driver_state x) call ≡ Crosses (record { command = Ioctl s.id code payload; user = None }) →
    x' ≡ record x { out = Told (told_by m (called_session d s.id code [] o)); session = session_in (called_session d s.id code [] o).device (id_ahead x.handle (Told (told_by m (called_session d s.id code [] o)))) } →
    IsWholeSlice x' → GoesOnSoundly x' v
plain_served (Err errno) x x' v m d s code payload line call memory is_outcome plain plain_code sound is under crosses who session id there slice words way after whole =
    let p : IsPlainCall call = plain_call call plain in
    let answer : Answer = refused errno [] d in
    let told : id_ahead x.handle (Told (told_by m answer)) ≡ Some s.id = told_id x line call (told_by m answer) under ∙ (p.session x.handle.session _ _ ∙ id) in
    let same : x' ≡ record x { out = Told (told_by m answer); session = Some s } = after ∙ ap (λ k. record x { out = Told (told_by m answer); session = k }) (ap (session_in d) told ∙ there) in
    let goes : Goes v.frames s x.job (earlier_of x) line call (driver_state x) v.ahead (Err errno) =
    subst (Goes v.frames s x.job (earlier_of x) line call (driver_state x) v.ahead) is_outcome
    (slice_answers v.frames s x.job (earlier_of x) line call memory [] code payload None (driver_state x) v.ahead slice p.may p.never words (p.goes (driver_state x)) way
    (λ a is_ok. absurd (not_ok {A = IoctlAnswer} errno a (sym is_outcome ∙ is_ok)))) in
    subst (λ z. GoesOnSoundly z v) (sym same) (answered_sound x v m s s answer line call p (λ b reply leads told. plain_leaves line call (driver_state x) plain b reply leads) sound is under crosses who session id slice (record {
      reply = goes.0;
      ahead = goes.1;
      told = goes.2;
      plain_told = λ k opens. denied_apart (errno_number errno) k opens;
      held = refl;
      same = same_itself s;
      slice = goes.3;
    }))
  where
    denied_apart : (n k : ℕ) → Denied n ≡ Opened k → ⊥
    denied_apart n k is = cc
plain_served (Ok a) x x' v m d s code payload line call memory is_outcome plain plain_code sound is under crosses who session id there slice words way after whole =
    let p : IsPlainCall call = plain_call call plain in
    let answer : Answer = called_session d s.id code [] (Ok a) in
    let told : id_ahead x.handle (Told (told_by m answer)) ≡ Some s.id = told_id x line call (told_by m answer) under ∙ (p.session x.handle.session _ _ ∙ id) in
    let live : session_in (with_session d s.id a.next) (id_ahead x.handle (Told (told_by m answer))) ≡ Some a.next =
    ap (session_in (with_session d s.id a.next)) told ∙ get_or-set_same d.sessions s.id (Some a.next) None (some_within d.sessions s.id s there) in
    let same : x' ≡ record x { out = Told (told_by m answer); session = Some a.next } = after ∙ ap (λ k. record x { out = Told (told_by m answer); session = k }) live in
    let own : IsSoundSession a.next = (subst IsWholeSlice same whole).session in
    let keeps : IsSame s a.next × (a.back ≡ []) = plain_same memory s code payload a plain_code is_outcome in
    let goes : Goes v.frames s x.job (earlier_of x) line call (driver_state x) v.ahead (Ok a) =
    subst (Goes v.frames s x.job (earlier_of x) line call (driver_state x) v.ahead) is_outcome
    (slice_answers v.frames s x.job (earlier_of x) line call memory [] code payload None (driver_state x) v.ahead slice p.may p.never words (p.goes (driver_state x)) way
    (λ b is_ok. subst (λ (z : IoctlAnswer). IsSoundSession z.next) (ok_same {A = IoctlAnswer} a b (sym is_outcome ∙ is_ok)) own)) in
    subst (λ z. GoesOnSoundly z v) (sym same) (answered_sound x v m s a.next answer line call p (λ b reply leads told. plain_leaves line call (driver_state x) plain b reply leads) sound is under crosses who session id slice (record {
      reply = goes.0;
      ahead = goes.1;
      told = goes.2;
      plain_told = λ k opens. answered_apart a.payload k opens;
      held = plain_held code [] a.back plain_code ∙ keeps.1;
      same = keeps.0;
      slice = subst (λ fs. IsSlice fs a.next x.job (earlier_of x) (Some (Called line call goes.0)) (driver_state x) goes.1) (ap (λ (ms : List ℕ). v.frames ++ ms) (p.frames v.ahead) ∙ append_none v.frames) goes.3;
    }))
  where
    answered_apart : (p : List ℕ) (k : ℕ) → Answered p ≡ Opened k → ⊥
    answered_apart p k is = cc

pub plain_keeps : CallsKeepSlice is_plain
plain_keeps x x' v m c d posted plain sound at asked device free served whole =
    let call : Call = posted.call in
    let r : LocalState = driver_state x in
    let p : IsPlainCall call = plain_call call plain in
    let is : IsOutside x v = outside x v m sound at in
    let way : IsPlainWay (id_of x.handle.session) r call posted.crossing = plain_way (id_of x.handle.session) r call posted.crossing plain posted.crosses in
    let live : (s : SessionState) × (x.session ≡ Some s) × (x.handle.session ≡ Some s.id) = live_session x v d sound is way.opened in
    let s : SessionState = live.0 in
    let named : id_of x.handle.session ≡ s.id = ap id_of live.2 in
    let there : session_of d s.id ≡ Some s = ap (session_in d) (sym live.2) ∙ (device.session ∙ live.1) in
    let command : c ≡ Ioctl s.id way.code way.payload = sym (asked_same x m c posted asked) ∙ (ap (λ (k : Crossing). k.command) way.is ∙ ap (λ n. Ioctl n way.code way.payload) named) in
    let does : IsServed m (Ioctl s.id way.code way.payload) d x x' = subst (λ k. IsServed m k d x x') command served in
    let none : m.held ≡ [] = none_along x m posted (p.along r (option_to_list posted.along) posted.memory) in
    let answer : does.0 ≡ called_session d s.id way.code [] (ioctl_outcome does.1.0 s way.code way.payload []) =
    does.1.1
    ∙ (ap (λ o. in_session does.1.0 d s.id o way.code way.payload m.behind m.held) there
    ∙ (ap (called_with does.1.0 d s.id s way.code way.payload m.held) (plain_comes s way.code way.payload m.behind m.held way.plain)
    ∙ ap (λ hs. called_session d s.id way.code hs (ioctl_outcome does.1.0 s way.code way.payload hs)) none)) in
    let slice : IsSlice v.frames s x.job (earlier_of x) v.executed r v.ahead = subst (λ o. IsSeated o x v) live.1 sound.seated in
    plain_served (ioctl_outcome does.1.0 s way.code way.payload []) x x' v m d s way.code way.payload posted.line call does.1.0 refl plain way.plain sound is posted.underway (subst IsSome (sym posted.crosses) refl)
    (ap (λ (q : Posting). q.request.who) posted.says) live.1 live.2 there (subst (λ e. IsSlice v.frames s x.job (earlier_of x) e r v.ahead) is.none slice) posted.words
    (subst (λ n. way_of n r call ≡ Crosses (record { command = Ioctl n way.code way.payload; user = None })) named (way.way ∙ ap (λ k. Crosses k) way.is))
    (does.2 ∙ ap (λ (a : Answer). record x { out = Told (told_by m a); session = session_in a.device (id_ahead x.handle (Told (told_by m a))) }) answer) whole
