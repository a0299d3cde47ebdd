-- What is so of each state that a legal log leads to: it is sound, and each memory has one owner.
use Rattle.std.proofs.Common.{◌≡◌, ◌≢◌, ◌⊎◌, inl, inr, ℕ, zero, suc, ◌<◌, ◌+◌, Bool, true, false, not, ◌&&◌, ◌||◌, ◌==◌, List, [], ◌∷◌, ◌++◌, length, get_or, set, map, replicate, Option, Some, None, IsSome, refl, sym, ap, ◌∙◌, subst, arith, unwrap_or, add-one, if◌then◌else◌, get_or-set_same, get_or-set_other}
use Rattle.std.specs.List.{list_any, range_with_len}
use Rattle.std.specs.Option.{option_and_then}
use Rattle.std.proofs.lemmas.Bool.{false≢true, true≢false, eqb-true, or_cases, and_parts, not-false, ltb-true, cases_Bool, cases_eq}
use Rattle.std.proofs.lemmas.Option.{none-some}
use Rattle.v4l_const.specs.declared.errno.Errno.TheVariants.{Enomem}
use Rattle.v4l_const.specs.declared.model.Model.{Model}
use Rattle.v4l_const.specs.Model.{queues as types_of}
use Rattle.v4l_format.specs.Fmt.{picture_size}
use Rattle.v4l_rules.specs.Queues.{place_in}
use Rattle.v4l_rules.specs.Refusals.{first_refusal}
use Rattle.v4l_rules.proofs.SetLemmas.{set_keeps}
use Rattle.vm_local.specs.declared.bound.Bound.{Bound}
use Rattle.vm_local.specs.declared.bound.BoundKind.TheVariants.{User}
use Rattle.vm_local.specs.declared.bound.MemoryKind.{MemoryKind}
use Rattle.vm_local.specs.declared.bound.MemoryKind.TheVariants.{Mmap, UserPtr}
use Rattle.vm_local.specs.declared.buffer.Buffer.{Buffer}
use Rattle.vm_local.specs.declared.call.Call.{Call}
use Rattle.vm_local.specs.declared.call.Call.TheVariants.{OpenHandle, CloseHandle, ReqBufs, UAlloc, QBuf, StreamOff, Poke, Fill}
use Rattle.vm_local.specs.declared.entry.Entry.{Entry}
use Rattle.vm_local.specs.declared.entry.Entry.TheVariants.{Called, Finish, Bad, Give}
use Rattle.vm_local.specs.declared.owed.Owed.{Owed as OwedEntry}
use Rattle.vm_local.specs.declared.owed.OwedItem.{OwedItem}
use Rattle.vm_local.specs.declared.owed.OwedItem.TheVariants.{Buffer as OwedBuffer, Sync}
use Rattle.vm_local.specs.State.{QueueState, LocalState, opening, opening_queue, queue_of, no_buffer, buffer_of}
use Rattle.vm_local.specs.Same.{address_in}
use Rattle.vm_local.specs.Kinds.{is_idle, is_mapping_kind}
use Rattle.vm_local.specs.Memory.{named, is_user, memory_of, is_in_use, with_bound}
use Rattle.vm_local.specs.Queue.{is_user_ptr, stopped_queue, memory_kind, fresh_buffer, fresh_buffers, granted, with_buffers, brought, memory_from, queued_buffer, with_queued, can_finish}
use Rattle.vm_local.specs.Steps.{target, counted, sync_of, buffers_taken, item_given}
use Rattle.vm_local.specs.Calls.{Row, row_of, reqbufs_row, ualloc_row, qbuf_row, streamoff_row, write_row, fill_row}
use Rattle.vm_local.specs.Live.{IsBacked, is_of_device, is_named}
use Rattle.vm_local.specs.Log.{row_for, called, after, replay, replay_from}
use Rattle.vm_local.proofs.KeptLemmas.{some_same}
use Rattle.vm_local.proofs.LogLemmas.{replay_from_push}
use Rattle.vm_local.proofs.StepLemmas.{passes, answered_by, frame_made, frame_failed, finished_by, failed_by, given_by, Gave}
use Rattle.vm_home.specs.Reached.{IsReached, HasOneOwner}
use Rattle.vm_home.proofs.PlaceLemmas.{or_left, or_right, map_relates, buffer_at, kind_at, HasAt, used_from, IsLess, QueueRelates, Relates, less_same, queue_same, relates_less, relates_set, has_less, busy_less}
use Rattle.vm_home.proofs.RowLemmas.{IsSound, sound_of, has_queue, backed_at, device_made, is_user_named, bound_some, named_user, Stays, stays_row, frame_relates, given_there, given_relates, stopped_relates}
use Rattle.vm_home.proofs.OwnLemmas.{IsBusyAt, IsDeviceAt, Owns, OwnsAll, IsFree, owns_less, owns_bare, bare_at, owns_renewed, owns_queued, number_made, user_made}

-- ---- a buffer that may be queued

-- a call that queues a buffer, and that no refusal stops: the buffer, and the number of the memory that it has from then on
pub record Queues (s : LocalState) (t i : ℕ) (user : Option (List ℕ)) (n : ℕ) : Type 0 where
  pub opened : s.opened ≡ true
  pub inside : i < length (queue_of s t).buffers
  pub idle : is_idle (buffer_of (queue_of s t) i).state ≡ true
  pub number : memory_from (brought s user) (buffer_of (queue_of s t) i) ≡ Some n
  pub device : IsDeviceAt s.queues (place_in (types_of s.model) t) → HasAt s.queues (place_in (types_of s.model) t) i n
  pub named : is_user_ptr (queue_of s t).memory ≡ true → is_user_named s n ≡ true
  pub free : IsFree s.queues (is_user_named s) (place_in (types_of s.model) t) i n

pub queues_number : (s : LocalState) (t i : ℕ) (user : Option (List ℕ)) (used ts : ℕ) → IsSound s → OwnsAll s → first_refusal (qbuf_row s t i user used ts).refusals ≡ None →
    (n : ℕ) × Queues s t i user n
unfolding qbuf_row
queues_number s t i None used ts sound h pass =
    let so : (k : ℕ) → (get_or (qbuf_row s t i None used ts).refusals k (false, Enomem)).0 ≡ false = passes (qbuf_row s t i None used ts).refusals pass in
    let p : ℕ = place_in (types_of s.model) t in
    let q : QueueState = queue_of s t in
    let n : ℕ = unwrap_or (buffer_of q i).memory 0 in
    let inside : i < length q.buffers = ltb-true i (length q.buffers) (not-false _ (so 2)) in
    let device : IsDeviceAt s.queues p = so 5 in
    let has : HasAt s.queues p i n = device_made s sound t i inside device in
    let mine : (k j : ℕ) → HasAt s.queues k j n → (k ≡ p) × (j ≡ i) = λ k j a. let w : (p ≡ k) × (i ≡ j) = h.frames p i k j n device has a in (sym w.0, sym w.1) in (
      n,
      record {
        opened = not-false s.opened (so 0);
        inside = inside;
        idle = not-false _ (so 3);
        number = has;
        device = λ _. has;
        named = λ user. absurd (false≢true (sym device ∙ user));
        free = record {
          busy = λ k j _ a. mine k j a;
          frames = λ k j _ a. mine k j a;
          mine = λ _. mine;
          name = λ _. h.names p i n device has;
        };
      },
    )
queues_number s t i (Some u) used ts sound h pass =
    let so : (k : ℕ) → (get_or (qbuf_row s t i (Some u) used ts).refusals k (false, Enomem)).0 ≡ false = passes (qbuf_row s t i (Some u) used ts).refusals pass in
    let p : ℕ = place_in (types_of s.model) t in
    let q : QueueState = queue_of s t in
    let n : ℕ = memory_of (named s u) in
    let user : is_user_ptr q.memory ≡ true = not-false (is_user_ptr q.memory) (so 4) in
    let named : is_user_named s n ≡ true = named_user s.bound u n (not-false (is_user (named s u)) (so 6)) refl in
    let unused : is_in_use s n ≡ false = so 8 in (
      n,
      record {
        opened = not-false s.opened (so 0);
        inside = ltb-true i (length q.buffers) (not-false _ (so 2));
        idle = not-false _ (so 3);
        number = refl;
        device = λ device. absurd (false≢true (sym device ∙ user));
        named = λ _. named;
        free = record {
          busy = λ k j busy a. absurd (true≢false (sym (used_from s k j n a busy) ∙ unused));
          frames = λ k j device a. absurd (true≢false (sym named ∙ h.names k j n device a));
          mine = λ device. absurd (false≢true (sym device ∙ user));
          name = λ device. absurd (false≢true (sym device ∙ user));
        };
      },
    )

-- ---- each entry

owns_qbuf : (s : LocalState) (t i : ℕ) (user : Option (List ℕ)) (used ts n : ℕ) → Queues s t i user n → OwnsAll s → OwnsAll (with_queued s t i (brought s user) used ts)
unfolding queued_buffer
owns_qbuf s t i user used ts n queues h =
    let p : ℕ = place_in (types_of s.model) t in
    let q : QueueState = queue_of s t in
    let b : Buffer = queued_buffer s t (brought s user) used ts (buffer_of q i) in
    let v : QueueState = record q { buffers = set q.buffers i b; queued = q.queued ++ i ∷ [] } in
    owns_queued s.queues (is_user_named s) p i n b v queues.inside refl refl queues.number queues.free h

owns_reqbufs : (s : LocalState) (t m n : ℕ) → IsSound s → first_refusal (reqbufs_row s t m n).refusals ≡ None → OwnsAll s → OwnsAll (reqbufs_row s t m n).next
unfolding reqbufs_row with_buffers
owns_reqbufs s t m n sound pass h =
    let so : (k : ℕ) → (get_or (reqbufs_row s t m n).refusals k (false, Enomem)).0 ≡ false = passes (reqbufs_row s t m n).refusals pass in
    let p : ℕ = place_in (types_of s.model) t in
    let size : ℕ = picture_size (queue_of s t).format in
    let kind : MemoryKind = memory_kind m in
    let within : p < length s.queues = omega (arith, sound.long, ltb-true p (length (types_of s.model)) (not-false _ (so 1))) in
    let v : QueueState = record (stopped_queue (queue_of s t)) { memory = kind; buffers = fresh_buffers kind size (length s.memories) (granted n) } in
    owns_renewed s.queues (is_user_named s) p (length s.memories) size (granted n) kind v within refl refl (number_made s sound) (user_made s sound) h

owns_ualloc : (s : LocalState) (line : ℕ) (u : List ℕ) (len off : ℕ) → IsSound s → OwnsAll s → OwnsAll (ualloc_row s line u len off).next
unfolding ualloc_row
owns_ualloc s line u len off sound h =
    let b : Bound = record { name = u; memory = length s.memories; kind = User line off } in
    let t : LocalState = with_bound (record s { memories = s.memories ++ replicate len 0 ∷ [] }) b in
    record {
      has = h.has;
      busy = h.busy;
      frames = h.frames;
      names = λ p i m device a. elim (cases_Bool (is_user_named t m)) as (λ _. is_user_named t m ≡ false) [
        | inr not ↦ not
        | inl is ↦ elim (bound_some (λ c. not (is_mapping_kind c.kind) && c.memory == m) s.bound b is) as (λ _. is_user_named t m ≡ false) [
          | inl old ↦ absurd (true≢false (sym old ∙ h.names p i m device a))
          | inr new ↦ absurd (omega (arith, number_made s sound p i m a, eqb-true (length s.memories) m new))
        ]
      ];
    }

-- all queues are stopped, and one
pub closed_relates : (qs : List QueueState) → Relates IsLess qs (map stopped_queue qs)
closed_relates qs =
    map_relates (QueueRelates IsLess) stopped_queue opening_queue (queue_same IsLess less_same opening_queue) qs
    (λ k within. stopped_relates (get_or qs k opening_queue))

pub off_relates : (s : LocalState) (t : ℕ) → Relates IsLess s.queues (set s.queues (place_in (types_of s.model) t) (stopped_queue (queue_of s t)))
off_relates s t = relates_set IsLess less_same s.queues (place_in (types_of s.model) t) (stopped_queue (queue_of s t)) (stopped_relates (queue_of s t))

owns_stopped : (s : LocalState) (qs : List QueueState) → Relates IsLess s.queues qs → OwnsAll s → Owns qs (is_user_named s)
owns_stopped s qs less h = owns_less s.queues qs (is_user_named s) (is_user_named s) less (λ m is. is) h

owns_row : (s : LocalState) (line addr : ℕ) (call : Call) → IsSound s → first_refusal (row_of s line addr call).refusals ≡ None →
    (row_of s line addr call).waits ≡ false → OwnsAll s → OwnsAll (row_of s line addr call).next
unfolding qbuf_row streamoff_row write_row fill_row
owns_row s line addr (OpenHandle nonblock) sound pass go h = owns_bare _ _ (bare_at (types_of s.model))
owns_row s line addr CloseHandle sound pass go h = owns_stopped s (map stopped_queue s.queues) (closed_relates s.queues) h
owns_row s line addr (ReqBufs t m n) sound pass go h = owns_reqbufs s t m n sound pass h
owns_row s line addr (UAlloc u len off) sound pass go h = owns_ualloc s line u len off sound h
owns_row s line addr (QBuf t i user used ts) sound pass go h =
    let w : (n : ℕ) × Queues s t i user n = queues_number s t i user used ts sound h pass in
    owns_qbuf s t i user used ts w.0 w.1 h
owns_row s line addr (StreamOff t) sound pass go h = owns_stopped s _ (off_relates s t) h
owns_row s line addr (Poke m off bytes) sound pass go h = h
owns_row s line addr (Fill m seed) sound pass go h = h
owns_row s line addr call sound pass go h =
    let t : LocalState = (row_of s line addr call).next in
    let stays : Stays s t = stays_row s line addr call sound refl pass go in
    owns_less s.queues t.queues (is_user_named s) (is_user_named t) (relates_less s.queues t.queues stays.queues) stays.users h

owns_given : (s : LocalState) (t : ℕ) (item : OwedItem) (rest : List OwedEntry) → IsSound s → s.owed ≡ record { queue = t; item = item } ∷ rest →
    OwnsAll s → OwnsAll (item_given (record s { owed = rest }) t item)
owns_given s t (OwedBuffer i) rest sound owed h = owns_stopped s _ (given_relates s t i (given_there s t i rest sound owed)) h
owns_given s t (Sync frame) rest sound owed h =
    elim s.subscribed as (λ b. OwnsAll (if b then record s {
      owed = rest;
      events = s.events ++ (record { frame = frame; number = s.next_event }) ∷ [];
      next_event = counted s.next_event;
    } else record s { owed = rest })) [
      | true ↦ h
      | false ↦ h
    ]

owns_step : (s t : LocalState) (e : Entry) → IsSound s → OwnsAll s → after s e ≡ Some t → OwnsAll t
unfolding called
owns_step s t (Called line call reply) sound h leads =
    let r : Row = row_for s line call reply in
    elim (answered_by (first_refusal r.refusals) r s reply t leads) as (λ _. OwnsAll t) [
      | inl same ↦ subst OwnsAll (sym same) h
      | inr w ↦ subst OwnsAll (sym w.3) (owns_row s line (address_in reply) call sound w.0 w.1 h)
    ]
owns_step s t Finish sound h leads =
    let w : (can_finish s ≡ true) × (t ≡ frame_made s) = finished_by s t leads in
    subst OwnsAll (sym w.1) (owns_stopped s _ (relates_less s.queues _ (frame_relates s true (sync_of s ++ buffers_taken s) (picture_size (target s).format) sound w.0)) h)
owns_step s t Bad sound h leads =
    let w : (can_finish s ≡ true) × (t ≡ frame_failed s) = failed_by s t leads in
    subst OwnsAll (sym w.1) (owns_stopped s _ (relates_less s.queues _ (frame_relates s false (buffers_taken s) 0 sound w.0)) h)
owns_step s t Give sound h leads =
    let w : Gave s s.owed t = given_by s t leads in
    subst OwnsAll (sym w.3) (owns_given s w.0.queue w.0.item w.1 sound w.2 h)

-- ---- all states that legal logs lead to

-- what each entry of a legal log keeps
reached_by : (m : Model) (P : LocalState → Type 0) → ((first : List Entry) (s t : LocalState) (e : Entry) → replay m first ≡ Some s → P s → after s e ≡ Some t → P t) →
    (rest first : List Entry) (s t : LocalState) → replay m first ≡ Some s → P s → replay_from s rest ≡ Some t → P t
reached_by m P step [] first s t was h leads = subst P (some_same s t s leads) h
reached_by m P step (e ∷ es) first s t was h leads =
    elim (after s e) as (λ o. after s e ≡ o → option_and_then (λ u. replay_from u es) o ≡ Some t → P t) [
      | None ↦ λ is k. absurd (none-some t k)
      | Some u ↦ λ is k.
          let now : replay m (first ++ e ∷ []) ≡ Some u = replay_from_push (opening m) first e ∙ (ap (λ o. option_and_then (λ x. after x e) o) was ∙ is) in
          reached_by m P step es (first ++ e ∷ []) u t now (step first s u e was h is) k
    ] refl leads

-- what is so of each state that a legal log leads to
pub record Facts (s : LocalState) : Type 0 where
  pub sound : IsSound s
  pub owns : OwnsAll s

pub facts_of : (s : LocalState) → IsReached s → Facts s
facts_of s (m, log, leads) = record {
  sound = sound_of m log s leads;
  owns = reached_by m OwnsAll (λ first a b e was h goes. owns_step a b e (sound_of m first a was) h goes) log [] (opening m) s refl
      (owns_bare (opening m).queues (is_user_named (opening m)) (bare_at (types_of m))) leads;
}

-- the state of a legal log is one
pub reached_of : (m : Model) (log : List Entry) → IsSome (replay m log) → IsReached (unwrap_or (replay m log) (opening m))
reached_of m log legal =
    let known : (o : Option LocalState) → replay m log ≡ o → IsSome o → IsReached (unwrap_or o (opening m)) = λ o.
    elim o as (λ o. replay m log ≡ o → IsSome o → IsReached (unwrap_or o (opening m))) [
      | None ↦ λ is never. absurd (false≢true never)
      | Some s ↦ λ is some. (m, log, is)
    ] in
    known (replay m log) refl legal

pub reached_after : (s t : LocalState) (e : Entry) → IsReached s → after s e ≡ Some t → IsReached t
reached_after s t e (m, log, leads) goes =
    (m, log ++ e ∷ [], replay_from_push (opening m) log e ∙ (ap (λ o. option_and_then (λ x. after x e) o) leads ∙ goes))

-- ---- by type and index

type_of_place : (us : List ℕ) (t : ℕ) → place_in us t < length us → get_or us (place_in us t) 0 ≡ t
type_of_place [] t within = absurd (omega (arith, within))
type_of_place (u ∷ us) t within =
    elim (cases_Bool (u == t)) as (λ _. get_or (u ∷ us) (place_in (u ∷ us) t) 0 ≡ t) [
      | inl is ↦ rw is (eqb-true u t is)
      | inr not ↦ rw (not, add-one) (type_of_place us t (omega (arith, (rw not at within))))
    ]

-- two types of one place
pub same_type : (s : LocalState) (t u : ℕ) → IsSound s → place_in (types_of s.model) t < length s.queues → place_in (types_of s.model) t ≡ place_in (types_of s.model) u → t ≡ u
same_type s t u sound within same =
    let us : List ℕ = types_of s.model in
    let one : place_in us t < length us = omega (arith, within, sound.long) in
    let two : place_in us u < length us = omega (arith, one, same) in
    sym (type_of_place us t one) ∙ (ap (λ p. get_or us p 0) same ∙ type_of_place us u two)

has_within : (s : LocalState) (p i m : ℕ) → HasAt s.queues p i m → p < length s.queues
has_within s p i m has = some_queue s.queues p has
  where
    some_queue : (qs : List QueueState) (p : ℕ) → HasAt qs p i m → p < length qs
    some_queue [] p is = absurd (none-some m is)
    some_queue (q ∷ qs) zero is = omega arith
    some_queue (q ∷ qs) (suc p) is = omega (arith, some_queue qs p is)

pub one_owner : (s : LocalState) → IsReached s → HasOneOwner s
one_owner s reached =
    let f : Facts s = facts_of s reached in
    let us : List ℕ = types_of s.model in
    record {
      busy = λ t i u j m one two a b.
          let w : (place_in us t ≡ place_in us u) × (i ≡ j) = f.owns.busy (place_in us t) i (place_in us u) j m one two a b in
          (same_type s t u f.sound (has_within s (place_in us t) i m a) w.0, w.1);
      frames = λ t i u j m device a b.
          let w : (place_in us t ≡ place_in us u) × (i ≡ j) = f.owns.frames (place_in us t) i (place_in us u) j m device a b in
          (same_type s t u f.sound (has_within s (place_in us t) i m a) w.0, w.1);
    }
