-- A reply that is collected drops no memory, where its call stops no queue, gives no mapping back and makes none.
use Rattle.std.proofs.Common.{◌≡◌, ◌⊎◌, inl, inr, ℕ, ◌<◌, Bool, true, false, not, ◌&&◌, ◌==◌, List, [], ◌∷◌, ◌++◌, Option, Some, None, is_some, length, get_or, set, refl, sym, ap, ◌∙◌, subst, if◌then◌else◌, arith}
use Rattle.std.specs.List.{list_any}
use Rattle.std.proofs.lemmas.Bool.{false≢true, true≢false, cases_Bool}
use Rattle.std.proofs.lemmas.List.Elements.{All-head, All-tail, All-nil, All-append}
use Rattle.std.proofs.lemmas.Option.{none-some, same_Some}
use Rattle.v4l_const.specs.declared.errno.Errno.{Errno}
use Rattle.v4l_const.specs.declared.errno.Errno.TheVariants.{Ebadf}
use Rattle.v4l_const.specs.Model.{queues as types_of}
use Rattle.v4l_rules.specs.Queues.{place_in}
use Rattle.v4l_rules.specs.Refusals.{first_refusal}
use Rattle.v4l_rules.proofs.SetLemmas.{set_keeps, formatted_keeps}
use Rattle.vm_local.specs.declared.bound.Bound.{Bound}
use Rattle.vm_local.specs.declared.buffer.Buffer.{Buffer}
use Rattle.vm_local.specs.declared.call.Call.{Call}
use Rattle.vm_local.specs.declared.call.Call.TheVariants.{OpenHandle, CloseHandle, QueryCap, EnumFmt, GFmt, TryFmt, SFmt, EnumInput, GInput, SInput, ReqBufs, QueryBuf, UAlloc, QBuf, StreamOn, StreamOff, DqBuf, Mmap, Munmap, Peek, Hash, Poke, Fill, Subscribe, Unsubscribe, DqEvent}
use Rattle.vm_local.specs.declared.entry.Entry.{Entry}
use Rattle.vm_local.specs.declared.entry.Entry.TheVariants.{Called, Finish, Bad, Give}
use Rattle.vm_local.specs.declared.reply.Reply.{Reply}
use Rattle.vm_local.specs.State.{QueueState, LocalState, opening, opening_queue, queue_kind, queue_of, no_buffer, buffer_of}
use Rattle.vm_local.specs.Calls.{Row, row_of, querycap_row, enumfmt_row, gfmt_row, tryfmt_row, sfmt_row, enuminput_row, ginput_row, sinput_row, reqbufs_row, querybuf_row, ualloc_row, qbuf_row, streamon_row, streamoff_row, dqbuf_row, mmap_row, munmap_row, read_row, hash_row, write_row, fill_row, subscribe_row, unsubscribe_row, dqevent_row}
use Rattle.vm_local.specs.Kinds.{is_idle}
use Rattle.vm_local.specs.Live.{is_of_device}
use Rattle.vm_local.specs.Log.{row_for, called, after, replay_from}
use Rattle.vm_local.specs.Memory.{without_name}
use Rattle.vm_local.specs.Queue.{is_user_ptr, started, brought, queued_buffer, with_queued}
use Rattle.vm_local.specs.Same.{address_in}
use Rattle.vm_local.proofs.StepLemmas.{answered_by as answered_row}
use Rattle.vm_commute.specs.Commute.{is_step, AreSteps, may_cross}
use Rattle.vm_commute.proofs.EventsLemmas.{by_first as by_one}
use Rattle.vm_home.specs.Home.{is_kept}
use Rattle.vm_home.specs.Moves.{is_refusal}
use Rattle.vm_home.specs.Reached.{IsReached}
use Rattle.vm_home.proofs.FactLemmas.{Facts, facts_of, reached_after, Queues, queues_number}
use Rattle.vm_home.proofs.MoveLemmas.{Went, went}
use Rattle.vm_home.proofs.OwnLemmas.{IsChanged, changed_at, kind_kept}
use Rattle.vm_home.proofs.PlaceLemmas.{buffer_at, kind_at, HasAt, device_at, device_from, used_at, used_from}
use Rattle.vm_home.proofs.RowLemmas.{type_at, has_queue}
use Rattle.vm_home.proofs.StepLemmas.{steps_to}
use Rattle.vm_home.proofs.StillLemmas.{kept_cases, named_kept, device_kept, used_kept}
use Rattle.vm_local.proofs.CountLemmas.{within_of}
use Rattle.vm_realm.specs.Laws.{makes_name}
use Rattle.vm_realm.proofs.KeepStateLemmas.{step_idle}
use Rattle.vm_realm.proofs.PlaceLogLemmas.{asks_frames, refused_same, adds_leads}
use Rattle.vm_realm.proofs.PlaceOnceLemmas.{step_is, is_ahead}
use Rattle.vm_realm.proofs.PlaceFramesLemmas.{AddsSteps, add_steps, given_step, call_same}
use Rattle.vm_realm.proofs.PlaceLiveLemmas.{kept_or_new, live_log}
use Rattle.vm_realm.proofs.KeepCollectLemmas.{IsRead, collected, told_is}
use Rattle.vm_realm.proofs.ShareLemmas.{log_state}
use Rattle.vm_realm.specs.Inner.{Inner, driver_state}
use Rattle.vm_realm.specs.Places.{is_live}
use Rattle.vm_realm.specs.Slice.{Slice}
use Rattle.vm_realm.specs.SliceSteps.{Collects, IsFirst, all_delivered}
use Rattle.vm_realm.specs.Sound.{IsSoundSlice, IsTold}
use Rattle.vm_log.specs.LegalLog.{LogState, state_of}
use Rattle.vm_wire.specs.Wire.{response_of}
use Rattle.vm_wire.specs.declared.delivery.Delivery.{Delivery}
use Rattle.vm_exchange.specs.Messages.{made_by}
use Rattle.vm_handle.specs.Answers.{awoken, with_steps, with_given, with_reply, delivered}
use Rattle.vm_handle.specs.Handle.{HandleState, opens_session, has_opened, Keeps as HandleKeeps}
use Rattle.vm_handle.specs.declared.stage.Stage.TheVariants.{AtRest, Underway}
use Rattle.vm_local.specs.Log.{IsLegal}
use Rattle.vm_local.specs.Same.{same_reply}
use Rattle.vm_local.specs.declared.reply.Reply.TheVariants.{Done}
use Rattle.vm_local.proofs.SameLemmas.{same_reply_decides}
use Rattle.vm_stands.proofs.AheadLemmas.{one_after}
use Rattle.vm_stands.proofs.FlightLemmas.{made_steps}
use Rattle.vm_home.proofs.StillLemmas.{or_none}
use Rattle.std.proofs.Common.{append_assoc}
use Rattle.std.proofs.lemmas.List.{append-nil}

abbrev HasIt : LocalState → ℕ → Type 0
HasIt s m = is_kept s m ≡ true

-- ---- where no buffer and no name loses a memory

record KeepsAll (s t : LocalState) : Type 0 where
  opened : t.opened ≡ s.opened
  bound : t.bound ≡ s.bound
  device : (m : ℕ) → is_of_device s m ≡ true → is_of_device t m ≡ true
  used : (p i m : ℕ) → HasAt s.queues p i m → is_idle (buffer_at s.queues p i).state ≡ false → HasAt t.queues p i m × (is_idle (buffer_at t.queues p i).state ≡ false)

keeps_kept : (s t : LocalState) (m : ℕ) → KeepsAll s t → HasIt s m → HasIt t m
keeps_kept s t m keeps has = elim (kept_cases s m has) as (λ _. HasIt t m) [
  | inl named ↦ named_kept t m (ap (λ bs. list_any (λ (b : Bound). b.memory == m) bs) keeps.bound ∙ named)
  | inr rest ↦ elim rest.1 as (λ _. HasIt t m) [
    | inl device ↦ device_kept t m (keeps.opened ∙ rest.0) (keeps.device m device)
    | inr used ↦
        let x : _ = used_at s m used in
        let y : _ = keeps.used x.0 x.1 m x.2 x.3 in
        used_kept t m (keeps.opened ∙ rest.0) (used_from t x.0 x.1 m y.0 y.1)
  ]
]

-- ---- a step of the device

step_keeps : (s t : LocalState) (e : Entry) → IsReached s → is_step e ≡ true → after s e ≡ Some t → KeepsAll s t
step_keeps s t e reached step leads =
    let to : _ = steps_to s t e reached (step_is e step) leads in
    let f : Facts s = facts_of s reached in
    record {
      opened = to.opened;
      bound = to.bound;
      device = λ m device.
          let x : _ = device_at s m device in
          device_from t x.0 x.1 m (((to.less x.0).buffers x.1).memory ∙ x.2) (ap is_user_ptr (to.less x.0).kind ∙ x.3);
      used = λ p i m has busy.
          let types : List ℕ = types_of s.model in
          let within : p < length types = omega (arith, f.sound.long, has_queue s.queues p i (within_of (get_or s.queues p opening_queue).buffers i busy)) in
          let u : ℕ = get_or types p 0 in
          let place : place_in types u ≡ p = type_at s.model p within in
          let there : place_in (types_of t.model) u ≡ p = ap (λ k. place_in (types_of k) u) to.model ∙ place in
          let idle : is_idle (buffer_of (queue_of t u) i).state ≡ is_idle (buffer_of (queue_of s u) i).state = step_idle s t e u i step reached leads in
          let one : is_idle (buffer_at t.queues p i).state ≡ is_idle (buffer_of (queue_of t u) i).state = ap (λ k. is_idle (buffer_at t.queues k i).state) (sym there) in
          let two : is_idle (buffer_of (queue_of s u) i).state ≡ is_idle (buffer_at s.queues p i).state = ap (λ k. is_idle (buffer_at s.queues k i).state) place in
          (((to.less p).buffers i).memory ∙ has, one ∙ (idle ∙ (two ∙ busy)));
    }

same_state : (s t : LocalState) → ◌≡◌ {A = Option LocalState} (Some s) (Some t) → t ≡ s
same_state s t same = cc

pub steps_kept : (es : List Entry) (s t : LocalState) (m : ℕ) → AreSteps es → IsReached s → replay_from s es ≡ Some t → HasIt s m → HasIt t m
steps_kept [] s t m are reached leads has = subst (λ (x : LocalState). HasIt x m) (sym (same_state s t leads)) has
steps_kept (e ∷ es) s t m are reached leads has =
    let P : Entry → Type 0 = λ x. is_step x ≡ true in
    let by : _ = by_one s t e es leads in
    steps_kept es by.0 t m (All-tail P e es are) (reached_after s by.0 e reached by.1) by.2 (keeps_kept s by.0 m (step_keeps s by.0 e reached (All-head P e es are) by.1) has)

-- ---- a call that makes no name and gives none back

same_buffers : (s t : LocalState) → t.opened ≡ s.opened → t.bound ≡ s.bound → ((p : ℕ) → (get_or t.queues p opening_queue).memory ≡ (get_or s.queues p opening_queue).memory) →
    ((p : ℕ) → (get_or t.queues p opening_queue).buffers ≡ (get_or s.queues p opening_queue).buffers) → KeepsAll s t
same_buffers s t opened bound kinds buffers = record {
  opened = opened;
  bound = bound;
  device = λ m device.
      let x : _ = device_at s m device in
      device_from t x.0 x.1 m (ap (λ bs. (get_or bs x.1 no_buffer).memory) (buffers x.0) ∙ x.2) (ap is_user_ptr (kinds x.0) ∙ x.3);
  used = λ p i m has busy. (ap (λ bs. (get_or bs i no_buffer).memory) (buffers p) ∙ has, ap (λ bs. is_idle (get_or bs i no_buffer).state) (buffers p) ∙ busy);
}

queued_keeps : (s : LocalState) (u i : ℕ) (user : Option (List ℕ)) (used ts n : ℕ) → Queues s u i user n → KeepsAll s (with_queued s u i (brought s user) used ts)
unfolding queued_buffer
queued_keeps s u i user used ts n queues =
    let p : ℕ = place_in (types_of s.model) u in
    let q : QueueState = queue_of s u in
    let b : Buffer = queued_buffer s u (brought s user) used ts (buffer_of q i) in
    let v : QueueState = record q { buffers = set q.buffers i b; queued = q.queued ++ i ∷ [] } in
    let t : LocalState = with_queued s u i (brought s user) used ts in
    let at : (k j : ℕ) → IsChanged s.queues t.queues p i b k j = changed_at s.queues p i b v queues.inside refl in
    record {
      opened = refl;
      bound = refl;
      device = λ m device.
          let x : _ = device_at s m device in
          let kind : is_user_ptr (kind_at t.queues x.0) ≡ false = ap is_user_ptr (kind_kept s.queues p v refl x.0) ∙ x.3 in
          elim (at x.0 x.1) as (λ _. is_of_device t m ≡ true) [
            | inr other ↦ device_from t x.0 x.1 m (ap (λ (c : Buffer). c.memory) other.1 ∙ x.2) kind
            | inl here ↦
                let mine : is_user_ptr (kind_at s.queues p) ≡ false = subst (λ k. is_user_ptr (kind_at s.queues k) ≡ false) here.0 x.3 in
                let P : ℕ → ℕ → Type 0 = λ k j. HasAt s.queues k j m in
                let has : HasAt s.queues p i m = subst (λ j. P p j) here.1 (subst (λ k. P k x.1) here.0 x.2) in
                let same : n ≡ m = same_Some n m (sym (queues.device mine) ∙ has) in
                device_from t x.0 x.1 m (ap (λ (c : Buffer). c.memory) here.2 ∙ (queues.number ∙ ap (λ k. Some k) same)) kind
          ];
      used = λ k j m has busy. elim (at k j) as (λ _. HasAt t.queues k j m × (is_idle (buffer_at t.queues k j).state ≡ false)) [
        | inr other ↦ (ap (λ (c : Buffer). c.memory) other.1 ∙ has, ap (λ (c : Buffer). is_idle c.state) other.1 ∙ busy)
        | inl here ↦
            let P : ℕ → ℕ → Type 0 = λ a c. is_idle (buffer_at s.queues a c).state ≡ false in
            let now : is_idle (buffer_of q i).state ≡ false = subst (λ c. P p c) here.1 (subst (λ a. P a j) here.0 busy) in
            absurd (true≢false (sym queues.idle ∙ now))
      ];
    }

-- the call doesn't touch names
abbrev pub leaves_names : Call → Bool
leaves_names (OpenHandle nonblock) = false
leaves_names call = may_cross call && not (makes_name call)

plain_kept : (s : LocalState) (line addr : ℕ) (call : Call) (m : ℕ) → IsReached s → leaves_names call ≡ true → first_refusal (row_of s line addr call).refusals ≡ None → HasIt s m → HasIt (row_of s line addr call).next m
unfolding querycap_row enumfmt_row gfmt_row tryfmt_row sfmt_row enuminput_row ginput_row sinput_row querybuf_row qbuf_row streamon_row subscribe_row unsubscribe_row
plain_kept s line addr QueryCap m reached leaves pass has = has
plain_kept s line addr (EnumFmt t i) m reached leaves pass has = has
plain_kept s line addr (GFmt t) m reached leaves pass has = has
plain_kept s line addr (TryFmt t f w h) m reached leaves pass has = has
plain_kept s line addr (SFmt t f w h) m reached leaves pass has =
    let next : LocalState = (row_of s line addr (SFmt t f w h)).next in
    keeps_kept s next m (same_buffers s next refl refl
    (λ p. formatted_keeps queue_kind (λ (q : QueueState). q.memory) (λ q g. refl) s.model s.queues t _ p)
    (λ p. formatted_keeps queue_kind (λ (q : QueueState). q.buffers) (λ q g. refl) s.model s.queues t _ p)) has
plain_kept s line addr (EnumInput i) m reached leaves pass has = has
plain_kept s line addr GInput m reached leaves pass has = has
plain_kept s line addr (SInput i) m reached leaves pass has = has
plain_kept s line addr (QueryBuf t i) m reached leaves pass has = has
plain_kept s line addr (StreamOn t) m reached leaves pass has =
    let next : LocalState = (row_of s line addr (StreamOn t)).next in
    let p : ℕ = place_in (types_of s.model) t in
    keeps_kept s next m (same_buffers s next refl refl
    (λ k. set_keeps opening_queue (λ (q : QueueState). q.memory) s.queues p (started (queue_of s t)) refl k)
    (λ k. set_keeps opening_queue (λ (q : QueueState). q.buffers) s.queues p (started (queue_of s t)) refl k)) has
plain_kept s line addr (Subscribe e) m reached leaves pass has = has
plain_kept s line addr (Unsubscribe e) m reached leaves pass has = has
plain_kept s line addr (QBuf u i user used ts) m reached leaves pass has =
    let f : Facts s = facts_of s reached in
    let w : (n : ℕ) × Queues s u i user n = queues_number s u i user used ts f.sound f.owns pass in
    keeps_kept s (with_queued s u i (brought s user) used ts) m (queued_keeps s u i user used ts w.0 w.1) has
plain_kept s line addr call m reached leaves pass has = absurd (false≢true leaves)

pub call_kept : (s t : LocalState) (line : ℕ) (call : Call) (reply : Reply) (m : ℕ) → IsReached s → leaves_names call ≡ true → called s line call reply ≡ Some t → HasIt s m → HasIt t m
call_kept s t line call reply m reached leaves leads has = elim (cases_Bool (is_refusal reply)) as (λ _. HasIt t m) [
  | inl refused ↦ subst (λ (x : LocalState). HasIt x m) (sym (refused_same s t line call reply refused leads)) has
  | inr answers ↦
      let w : Went (row_for s line call reply) reply t = went s line call reply t answers leads in
      subst (λ (x : LocalState). HasIt x m) (sym w.next) (plain_kept s line (address_in reply) call m reached leaves w.pass has)
]

-- ---- a handle that was never opened has no names

if_shut : (b : Bool) (x y : Option Errno) → b ≡ false → (if not b then x else y) ≡ x
if_shut b x y h = rw h refl

-- a call is refused, or leaves it so, or is an open
abbrev BoundRow : LocalState → Row → Call → Type 0
BoundRow s r call = (first_refusal r.refusals ≡ Some Ebadf) ⊎ (((r.next.bound ≡ []) × (r.next.opened ≡ false)) ⊎ ((nonblock : Bool) × (call ≡ OpenHandle nonblock)))

bound_row : (s : LocalState) (line addr : ℕ) (call : Call) → s.opened ≡ false → s.bound ≡ [] → BoundRow s (row_of s line addr call) call
unfolding querycap_row enumfmt_row gfmt_row tryfmt_row sfmt_row enuminput_row ginput_row sinput_row reqbufs_row querybuf_row ualloc_row qbuf_row streamon_row streamoff_row dqbuf_row mmap_row munmap_row read_row hash_row write_row fill_row subscribe_row unsubscribe_row dqevent_row
bound_row s line addr (OpenHandle nonblock) h bare = inr (inr (nonblock, refl))
bound_row s line addr CloseHandle h bare = inl (if_shut s.opened (Some Ebadf) _ h)
bound_row s line addr QueryCap h bare = inl (if_shut s.opened (Some Ebadf) _ h)
bound_row s line addr (EnumFmt t i) h bare = inl (if_shut s.opened (Some Ebadf) _ h)
bound_row s line addr (GFmt t) h bare = inl (if_shut s.opened (Some Ebadf) _ h)
bound_row s line addr (TryFmt t f w v) h bare = inl (if_shut s.opened (Some Ebadf) _ h)
bound_row s line addr (SFmt t f w v) h bare = inl (if_shut s.opened (Some Ebadf) _ h)
bound_row s line addr (EnumInput i) h bare = inl (if_shut s.opened (Some Ebadf) _ h)
bound_row s line addr GInput h bare = inl (if_shut s.opened (Some Ebadf) _ h)
bound_row s line addr (SInput i) h bare = inl (if_shut s.opened (Some Ebadf) _ h)
bound_row s line addr (ReqBufs t m n) h bare = inl (if_shut s.opened (Some Ebadf) _ h)
bound_row s line addr (QueryBuf t i) h bare = inl (if_shut s.opened (Some Ebadf) _ h)
bound_row s line addr (UAlloc u len off) h bare = inl (if_shut s.opened (Some Ebadf) _ h)
bound_row s line addr (QBuf t i user used ts) h bare = inl (if_shut s.opened (Some Ebadf) _ h)
bound_row s line addr (StreamOn t) h bare = inl (if_shut s.opened (Some Ebadf) _ h)
bound_row s line addr (StreamOff t) h bare = inl (if_shut s.opened (Some Ebadf) _ h)
bound_row s line addr (DqBuf t) h bare = inl (if_shut s.opened (Some Ebadf) _ h)
bound_row s line addr (Mmap m t i ro) h bare = inl (if_shut s.opened (Some Ebadf) _ h)
bound_row s line addr (Subscribe v) h bare = inl (if_shut s.opened (Some Ebadf) _ h)
bound_row s line addr (Unsubscribe v) h bare = inl (if_shut s.opened (Some Ebadf) _ h)
bound_row s line addr DqEvent h bare = inl (if_shut s.opened (Some Ebadf) _ h)
bound_row s line addr (Munmap m) h bare = inr (inl (ap (λ bs. without_name bs m) bare, h))
bound_row s line addr (Peek m off len) h bare = inr (inl (bare, h))
bound_row s line addr (Hash m) h bare = inr (inl (bare, h))
bound_row s line addr (Poke m off bytes) h bare = inr (inl (bare, h))
bound_row s line addr (Fill m seed) h bare = inr (inl (bare, h))

abbrev IsBlank : LocalState → Type 0
IsBlank s = (s.opened ≡ false) × (s.bound ≡ [])

blank_after : (s t : LocalState) (e : Entry) → IsReached s → IsBlank s → opens_session e ≡ false → after s e ≡ Some t → IsBlank t
unfolding called
blank_after s t (Called line call reply) reached blank none goes =
    elim (answered_row (first_refusal (row_for s line call reply).refusals) (row_for s line call reply) s reply t goes) as (λ _. IsBlank t) [
      | inl same ↦ subst IsBlank (sym same) blank
      | inr done ↦ elim (bound_row s line (address_in reply) call blank.0 blank.1) as (λ _. IsBlank t) [
        | inl refused ↦ absurd (none-some Ebadf (sym done.0 ∙ refused))
        | inr rest ↦ elim rest as (λ _. IsBlank t) [
          | inl stays ↦ (ap (λ (x : LocalState). x.opened) done.3 ∙ stays.1, ap (λ (x : LocalState). x.bound) done.3 ∙ stays.0)
          | inr opens ↦
              let told : same_reply Done reply ≡ true = ap (λ c. same_reply (row_of s line (address_in reply) c).reply reply) (sym opens.1) ∙ done.2 in
              let is : Done ≡ reply = (same_reply_decides Done reply).0 told in
              let has : opens_session (Called line (OpenHandle opens.0) reply) ≡ true = ap (λ q. opens_session (Called line (OpenHandle opens.0) q)) (sym is) in
              absurd (false≢true (sym none ∙ (ap (λ c. opens_session (Called line c reply)) opens.1 ∙ has)))
        ]
      ]
    ]
blank_after s t Finish reached blank none goes = ((steps_to s t Finish reached tt goes).opened ∙ blank.0, (steps_to s t Finish reached tt goes).bound ∙ blank.1)
blank_after s t Bad reached blank none goes = ((steps_to s t Bad reached tt goes).opened ∙ blank.0, (steps_to s t Bad reached tt goes).bound ∙ blank.1)
blank_after s t Give reached blank none goes = ((steps_to s t Give reached tt goes).opened ∙ blank.0, (steps_to s t Give reached tt goes).bound ∙ blank.1)

blank_all : (es : List Entry) (s t : LocalState) → IsReached s → IsBlank s → has_opened es ≡ false → replay_from s es ≡ Some t → IsBlank t
blank_all [] s t reached blank none goes = subst IsBlank (sym (same_state s t goes)) blank
blank_all (e ∷ es) s t reached blank none goes =
    let by : _ = by_one s t e es goes in
    let parts : (opens_session e ≡ false) × (has_opened es ≡ false) = or_none (opens_session e) (has_opened es) none in
    blank_all es by.0 t (reached_after s by.0 e reached by.1) (blank_after s by.0 e reached blank parts.0 by.1) parts.1 by.2

-- it has no memory
pub blank_none : (h : HandleState) (m : ℕ) → HandleKeeps h.log h.session h.stage → h.session ≡ None → HasIt (state_of h.log) m → ⊥
blank_none h m keeps none has =
    let never : has_opened h.log.entries ≡ false = sym keeps.opened ∙ ap is_some none in
    let s : LocalState = state_of h.log in
    let blank : IsBlank s = blank_all h.log.entries (opening h.log.model) s (h.log.model, [], refl) (refl, refl) never (log_state h.log keeps.legal) in
    elim (kept_cases s m has) as (λ _. ⊥) [
      | inl named ↦ false≢true (sym (ap (λ bs. list_any (λ (b : Bound). b.memory == m) bs) blank.1) ∙ named)
      | inr rest ↦ true≢false (sym rest.0 ∙ blank.0)
    ]

-- ---- a reply is collected

-- what is held back is logged step by step
steps_then : (l k n : LogState) → AddsSteps l k → AddsSteps k n → AddsSteps l n
steps_then l k n first rest =
    (first.0 ++ rest.0, rest.1 ∙ (ap (λ es. es ++ rest.0) first.1 ∙ append_assoc l.entries first.0 rest.0), rest.2 ∙ first.2, All-append (λ x. is_step x ≡ true) first.0 rest.0 first.3 rest.3)

resting_steps : (h : HandleState) (d : Delivery) → h.stage ≡ AtRest → AddsSteps h.log (delivered h d.msg d.held).log × ((delivered h d.msg d.held).stage ≡ AtRest)
resting_steps h d rests =
    let stepped : LogState = with_steps h.log (made_by (state_of h.log).model d.msg) in
    let logged : HandleState = record h { log = with_given stepped d.held } in
    let same : awoken h.stage logged ≡ logged = ap (λ t. awoken t logged) rests in (
      subst (λ (k : HandleState). AddsSteps h.log k.log) (sym same) (given_step h.log stepped d.held (add_steps h.log (made_by (state_of h.log).model d.msg) (made_steps (state_of h.log).model d.msg))),
      ap (λ (k : HandleState). k.stage) same ∙ rests,
    )

all_steps : (h : HandleState) (ds : List Delivery) → h.stage ≡ AtRest → AddsSteps h.log (all_delivered h ds).log × ((all_delivered h ds).stage ≡ AtRest)
all_steps h [] rests = (([], sym (append-nil h.log.entries), refl, All-nil (λ x. is_step x ≡ true)), rests)
all_steps h (d ∷ ds) rests =
    let one : _ = resting_steps h d rests in
    let rest : _ = all_steps (delivered h d.msg d.held) ds one.1 in
    (steps_then h.log (delivered h d.msg d.held).log (all_delivered (delivered h d.msg d.held) ds).log one.0 rest.0, rest.1)

pub collect_rests : (x x' : Slice) → Collects x x' → x'.handle.stage ≡ AtRest
collect_rests x x' (line, call, c, r, reply, under, at, command, events, may, answer, after_it) =
    ap (λ (y : Slice). y.handle.stage) after_it ∙ (all_steps (with_reply x.handle line call reply (response_of c r.reply.bytes) r.held) x.held refl).1

stops_names : (call : Call) → asks_frames call ≡ true → makes_name call ≡ true
stops_names (ReqBufs u k n) asks = refl
stops_names call asks = absurd (false≢true asks)

leaves_or_opens : (call : Call) → may_cross call ≡ true → makes_name call ≡ false → (leaves_names call ≡ true) ⊎ ((nonblock : Bool) × (call ≡ OpenHandle nonblock))
leaves_or_opens (OpenHandle nonblock) crosses names = inr (nonblock, refl)
leaves_or_opens CloseHandle crosses names = absurd (true≢false names)
leaves_or_opens (ReqBufs t m n) crosses names = absurd (true≢false names)
leaves_or_opens (StreamOff t) crosses names = absurd (true≢false names)
leaves_or_opens (Mmap m t i ro) crosses names = absurd (true≢false names)
leaves_or_opens (Munmap m) crosses names = absurd (true≢false names)
leaves_or_opens (UAlloc u len off) crosses names = absurd (false≢true crosses)
leaves_or_opens (DqBuf t) crosses names = absurd (false≢true crosses)
leaves_or_opens (Peek m off len) crosses names = absurd (false≢true crosses)
leaves_or_opens (Hash m) crosses names = absurd (false≢true crosses)
leaves_or_opens (Poke m off bytes) crosses names = absurd (false≢true crosses)
leaves_or_opens (Fill m seed) crosses names = absurd (false≢true crosses)
leaves_or_opens DqEvent crosses names = absurd (false≢true crosses)
leaves_or_opens call crosses names = inl refl

pub collect_live : (x x' : Slice) (v v' : Inner) (m : ℕ) → IsSoundSlice x v → IsSoundSlice x' v' → Collects x x' → ((line : ℕ) (call : Call) → x.handle.stage ≡ Underway line call → makes_name call ≡ false) → is_live x v m ≡ true → is_live x' v' m ≡ true
collect_live x x' v v' m sound goes (line, call, c, r, reply, under, at, command, events, may, answer, after_it) names live =
    live_log x' v' m (steps_kept more.0 u (driver_state x') m more.3 reached (adds_leads logged.log x'.handle.log more.0 legal goes.log.legal more.1 more.2) by_call)
  where
    s : LocalState
    s = driver_state x

    read : IsRead x v line call r reply (response_of c r.reply.bytes)
    read = collected x v line call c r reply sound under at command events may answer

    logged : HandleState
    logged = with_reply x.handle line call reply (response_of c r.reply.bytes) r.held

    legal : IsLegal logged.log.model logged.log.entries
    legal = read.log_sound.legal

    u : LocalState
    u = state_of logged.log

    leads : called s line call reply ≡ Some u
    leads = one_after s u (Called line call reply) (adds_leads x.handle.log logged.log (Called line call reply ∷ []) sound.log.legal legal refl refl)

    start : IsReached s
    start = (is_ahead x v sound).reached

    reached : IsReached u
    reached = reached_after s u (Called line call reply) start leads

    more : AddsSteps logged.log x'.handle.log
    more = subst (λ (h : HandleState). AddsSteps logged.log h.log) (sym (ap (λ (y : Slice). y.handle) after_it)) (all_steps logged x.held refl).0

    has : HasIt s m
    has = elim (kept_or_new x v m sound live) as (λ _. HasIt s m) [
      | inl now ↦ now
      | inr new ↦ absurd (true≢false (sym (stops_names new.told.call new.asks) ∙ names new.told.line new.told.call new.told.underway))
    ]

    by_call : HasIt u m
    by_call = elim (leaves_or_opens call read.crosses (names line call under)) as (λ _. HasIt u m) [
      | inl leaves ↦ call_kept s u line call reply m start leaves leads has
      | inr opens ↦
          let t : IsTold x v r = told_is x v x.out r at sound.out in
          let same : t.call ≡ OpenHandle opens.0 = call_same t.line line t.call call (sym t.underway ∙ under) ∙ opens.1 in
          let none : x.handle.session ≡ None = subst (IsFirst x.handle) same t.first in
          absurd (blank_none x.handle m sound.handle none has)
    ]
