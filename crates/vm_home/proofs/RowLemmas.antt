-- What a call that moves no memory, and a step of the device, leave of a handle's buffers and names.
use Rattle.std.proofs.Common.{◌≡◌, ◌⊎◌, inl, inr, ℕ, zero, suc, ◌<◌, Bool, true, false, not, ◌&&◌, ◌||◌, ◌==◌, cond, List, [], ◌∷◌, ◌++◌, length, get_or, set, filter, All, Option, Some, None, refl, sym, ap, ◌∙◌, subst, arith, is_some, unwrap_or, bytes_eq, eq-eqb, if◌then◌else◌}
use Rattle.std.specs.List.{list_any}
use Rattle.std.proofs.lemmas.Bool.{false≢true, eqb-true, or_cases, and_parts, and_from, not-true, not-false, ltb-true}
use Rattle.std.proofs.lemmas.List.Folds.{list_any-append}
use Rattle.std.proofs.lemmas.List.Elements.{All-head}
use Rattle.std.proofs.lemmas.List.Sums.{AllPass-from_list_all}
use Rattle.v4l_const.specs.declared.errno.Errno.TheVariants.{Enomem}
use Rattle.v4l_const.specs.declared.model.Model.{Model}
use Rattle.v4l_const.specs.declared.model.Model.TheVariants.{Capture, Convert}
use Rattle.v4l_const.specs.Model.{queues as types_of, picture_queue}
use Rattle.v4l_format.specs.declared.fmt.Fmt.{Fmt}
use Rattle.v4l_rules.specs.Queues.{place_in}
use Rattle.v4l_rules.specs.Refusals.{first_refusal}
use Rattle.v4l_rules.proofs.SetLemmas.{formatted_keeps}
use Rattle.vm_local.specs.declared.bound.Bound.{Bound}
use Rattle.vm_local.specs.declared.bound.BoundKind.TheVariants.{Mapping}
use Rattle.vm_local.specs.declared.bound.MemoryKind.{MemoryKind}
use Rattle.vm_local.specs.declared.bound.MemoryKind.TheVariants.{Mmap, UserPtr}
use Rattle.vm_local.specs.declared.buffer.Buffer.{Buffer}
use Rattle.vm_local.specs.declared.buffer.BufferState.TheVariants.{Queued, Owed, Done}
use Rattle.vm_local.specs.declared.call.Call.{Call}
use Rattle.vm_local.specs.declared.call.Call.TheVariants.{OpenHandle, CloseHandle, SFmt, ReqBufs, UAlloc, QBuf, StreamOn, StreamOff, DqBuf, Mmap as MapCall, Munmap, Poke, Fill}
use Rattle.vm_local.specs.declared.entry.Entry.{Entry}
use Rattle.vm_local.specs.declared.owed.Owed.{Owed as OwedEntry}
use Rattle.vm_local.specs.declared.owed.OwedItem.TheVariants.{Buffer as OwedBuffer}
use Rattle.vm_local.specs.State.{QueueState, LocalState, opening_queue, queue_kind, queue_of, with_queue, no_buffer, buffer_of}
use Rattle.vm_local.specs.Kinds.{is_idle, is_away, is_mapping_kind}
use Rattle.vm_local.specs.Memory.{named_in, is_user, memory_of, without_name, with_bound, unbound, is_in_use}
use Rattle.vm_local.specs.Queue.{is_empty, is_user_ptr, with_set_format, adjusted_for, made_idle, stopped_queue, started, taken_back, first_done, can_finish}
use Rattle.vm_local.specs.Steps.{head, head_buffer, target, taken, taken_buffer, with_used, with_target_used, heads_taken, next_timestamp, with_done}
use Rattle.vm_local.specs.Calls.{row_of, querycap_row, enumfmt_row, gfmt_row, tryfmt_row, sfmt_row, enuminput_row, ginput_row, sinput_row, reqbufs_row, querybuf_row, ualloc_row, qbuf_row, streamon_row, streamoff_row, dqbuf_row, mmap_row, munmap_row, read_row, hash_row, write_row, fill_row, subscribe_row, unsubscribe_row, dqevent_row}
use Rattle.vm_local.specs.Live.{IsMade, IsBacked, AreBacked, is_of_device, is_named, is_live}
use Rattle.vm_local.specs.Listed.{AreListed, IsThere, AreThere, IsOwedThere}
use Rattle.vm_local.specs.Log.{replay}
use Rattle.vm_local.proofs.StepLemmas.{passes}
use Rattle.vm_local.proofs.ListedLemmas.{sound_log, listed_log}
use Rattle.vm_local.proofs.ThereLemmas.{there_log}
use Rattle.vm_local.proofs.LiveLemmas.{backed_log, live_made}
use Rattle.vm_home.specs.Home.{is_kept}
use Rattle.vm_home.specs.Moves.{moves_memory}
use Rattle.vm_home.proofs.PlaceLemmas.{or_left, or_right, map_relates, buffer_at, kind_at, device_from, IsLess, IsStill, QueueRelates, Relates, less_same, still_same, relates_then, relates_set, relates_buffer, relates_kept}

-- ---- states that legal logs lead to

pub record IsSound (s : LocalState) : Type 0 where
  pub long : length s.queues ≡ length (types_of s.model)
  pub listed : AreListed s
  pub there : AreThere s
  pub backed : AreBacked s
  pub live : (m : ℕ) → is_live s m ≡ true → IsMade s m

pub sound_of : (m : Model) (log : List Entry) (s : LocalState) → replay m log ≡ Some s → IsSound s
sound_of m log s leads = record {
  long = (sound_log m log s leads).0;
  listed = listed_log m log s leads;
  there = there_log m log s leads;
  backed = backed_log m log s leads;
  live = live_made m log s leads;
}

-- the type at a place
pub type_at : (m : Model) (p : ℕ) → p < length (types_of m) → place_in (types_of m) (get_or (types_of m) p 0) ≡ p
type_at Capture zero within = refl
type_at Capture (suc p) within = absurd (omega (arith, within))
type_at Convert zero within = refl
type_at Convert (suc zero) within = refl
type_at Convert (suc (suc p)) within = absurd (omega (arith, within))

-- what is so of the queue of each type is so of each queue
pub each_queue : (s : LocalState) → IsSound s → (P : QueueState → Type 0) → ((t : ℕ) → P (queue_of s t)) → (p : ℕ) → p < length s.queues → P (get_or s.queues p opening_queue)
each_queue s sound P each p within =
    let Q : ℕ → Type 0 = λ k. P (get_or s.queues k opening_queue) in
    subst Q (type_at s.model p (omega (arith, within, sound.long))) (each (get_or (types_of s.model) p 0))

-- the first of a list of which all are so
first_of : (P : ℕ → Type 0) (xs : List ℕ) → is_empty xs ≡ false → All P xs → P (get_or xs 0 0)
first_of P [] some all = absurd (false≢true (sym some))
first_of P (x ∷ xs) some all = All-head P x xs all

-- ---- names

-- a name is bound to the memory, as the user's own
abbrev pub is_user_named : LocalState → ℕ → Bool
is_user_named s m = list_any (λ b. not (is_mapping_kind b.kind) && b.memory == m) s.bound

any_filtered : (test keep : Bound → Bool) (xs : List Bound) → list_any test (filter keep xs) ≡ true → list_any test xs ≡ true
any_filtered test keep [] some = some
any_filtered test keep (x ∷ xs) some =
    elim (keep x) as (λ k. list_any test (cond k (x ∷ filter keep xs) (filter keep xs)) ≡ true → (test x || list_any test xs) ≡ true) [
      | true ↦ λ is. elim (or_cases (test x) (list_any test (filter keep xs)) is) as (λ _. (test x || list_any test xs) ≡ true) [
        | inl here ↦ or_left (test x) (list_any test xs) here
        | inr rest ↦ or_right (test x) (list_any test xs) (any_filtered test keep xs rest)
      ]
      | false ↦ λ is. or_right (test x) (list_any test xs) (any_filtered test keep xs is)
    ] some

-- a name that passes where one was bound anew: that one, or one that was bound before
pub bound_some : (test : Bound → Bool) (bound : List Bound) (b : Bound) → list_any test (without_name bound b.name ++ b ∷ []) ≡ true →
    (list_any test bound ≡ true) ⊎ (test b ≡ true)
bound_some test bound b some =
    let kept : List Bound = without_name bound b.name in
    elim (or_cases (list_any test kept) (test b || false) (sym (list_any-append test kept (b ∷ [])) ∙ some)) as (λ _. (list_any test bound ≡ true) ⊎ (test b ≡ true)) [
      | inl old ↦ inl (any_filtered test _ bound old)
      | inr new ↦ elim (or_cases (test b) false new) as (λ _. (list_any test bound ≡ true) ⊎ (test b ≡ true)) [
        | inl is ↦ inr is
        | inr never ↦ absurd (false≢true never)
      ]
    ]

-- what a name stands for is bound
pub named_some : (bound : List Bound) (name : List ℕ) (m : ℕ) → is_some (named_in bound name) ≡ true → memory_of (named_in bound name) ≡ m →
    list_any (λ b. b.memory == m) bound ≡ true
named_some [] name m some is = absurd (false≢true some)
named_some (b ∷ bs) name m some is =
    elim (bytes_eq b.name name) as (λ k. is_some (if k then Some b else named_in bs name) ≡ true → memory_of (if k then Some b else named_in bs name) ≡ m → (b.memory == m || list_any (λ c. c.memory == m) bs) ≡ true) [
      | true ↦ λ has at. or_left (b.memory == m) (list_any (λ c. c.memory == m) bs) (eq-eqb b.memory m at)
      | false ↦ λ has at. or_right (b.memory == m) (list_any (λ c. c.memory == m) bs) (named_some bs name m has at)
    ] some is

pub named_user : (bound : List Bound) (name : List ℕ) (m : ℕ) → is_user (named_in bound name) ≡ true → memory_of (named_in bound name) ≡ m →
    list_any (λ b. not (is_mapping_kind b.kind) && b.memory == m) bound ≡ true
named_user [] name m user is = absurd (false≢true user)
named_user (b ∷ bs) name m user is =
    let test : Bound → Bool = λ c. not (is_mapping_kind c.kind) && c.memory == m in
    elim (bytes_eq b.name name) as (λ k. is_user (if k then Some b else named_in bs name) ≡ true → memory_of (if k then Some b else named_in bs name) ≡ m → (test b || list_any test bs) ≡ true) [
      | true ↦ λ has at. or_left (test b) (list_any test bs) (and_from (not (is_mapping_kind b.kind)) (b.memory == m) has (eq-eqb b.memory m at))
      | false ↦ λ has at. or_right (test b) (list_any test bs) (named_user bs name m has at)
    ] user is

-- ---- a call that moves no memory

-- The buffers are still where they were, the bytes of the memories stay, and no name stands for a memory that the handle
-- didn't have.
pub record Stays (s t : LocalState) : Type 0 where
  pub model : t.model ≡ s.model
  pub opened : t.opened ≡ s.opened
  pub queues : Relates IsStill s.queues t.queues
  pub memories : t.memories ≡ s.memories
  pub names : (m : ℕ) → is_named t m ≡ true → is_kept s m ≡ true
  pub users : (m : ℕ) → is_user_named t m ≡ true → is_user_named s m ≡ true

same_queues : (s : LocalState) → Relates IsStill s.queues s.queues
same_queues s p = relates_kept IsStill still_same (get_or s.queues p opening_queue) (get_or s.queues p opening_queue) refl refl

kept_named : (s : LocalState) (m : ℕ) → is_named s m ≡ true → is_kept s m ≡ true
kept_named s m is = or_left (is_named s m) (s.opened && (is_of_device s m || is_in_use s m)) is

-- only what memories don't know of is changed
stays_same : (s t : LocalState) → t.model ≡ s.model → t.opened ≡ s.opened → t.queues ≡ s.queues → t.memories ≡ s.memories → t.bound ≡ s.bound → Stays s t
stays_same s t model opened queues memories bound =
    let named_by : (test : Bound → Bool) → list_any test t.bound ≡ true → list_any test s.bound ≡ true = λ test is. ap (λ bs. list_any test bs) (sym bound) ∙ is in
    record {
      model = model;
      opened = opened;
      queues = subst (λ qs. Relates IsStill s.queues qs) (sym queues) (same_queues s);
      memories = memories;
      names = λ m is. kept_named s m (named_by (λ b. b.memory == m) is);
      users = λ m is. named_by (λ b. not (is_mapping_kind b.kind) && b.memory == m) is;
    }

-- the queues are changed
stays_queues : (s : LocalState) (qs : List QueueState) → Relates IsStill s.queues qs → Stays s (record s { queues = qs })
stays_queues s qs still = record {
  model = refl;
  opened = refl;
  queues = still;
  memories = refl;
  names = λ m is. kept_named s m is;
  users = λ m is. is;
}

stays_format : (s : LocalState) (t : ℕ) (f : Fmt) → Stays s (with_set_format s t f)
stays_format s t f =
    let qs : List QueueState = (with_set_format s t f).queues in
    stays_queues s qs (λ p. relates_kept IsStill still_same (get_or s.queues p opening_queue) (get_or qs p opening_queue)
    (formatted_keeps queue_kind (λ (q : QueueState). q.memory) (λ q g. refl) s.model s.queues t f p)
    (formatted_keeps queue_kind (λ (q : QueueState). q.buffers) (λ q g. refl) s.model s.queues t f p))

stays_started : (s : LocalState) (t : ℕ) → Stays s (with_queue s t (started (queue_of s t)))
stays_started s t =
    let p : ℕ = place_in (types_of s.model) t in
    stays_queues s (set s.queues p (started (queue_of s t)))
    (relates_set IsStill still_same s.queues p (started (queue_of s t)) (relates_kept IsStill still_same (queue_of s t) (started (queue_of s t)) refl refl))

still_taken : (b : Buffer) → b.state ≡ Done → IsStill b (made_idle b)
still_taken b is = record {
  less = record { memory = refl; idle = λ _. refl; away = λ away. absurd (false≢true away) };
  back = λ away. absurd (false≢true (sym (ap is_away is) ∙ away));
}

stays_taken_back : (s : LocalState) (t : ℕ) → IsSound s → is_empty (queue_of s t).done ≡ false → Stays s (with_queue s t (taken_back (queue_of s t)))
stays_taken_back s t sound some =
    let p : ℕ = place_in (types_of s.model) t in
    let q : QueueState = queue_of s t in
    let i : ℕ = first_done q in
    let is : IsThere Done q i = first_of (IsThere Done q) q.done some (sound.there.0 t).1 in
    stays_queues s (set s.queues p (taken_back q))
    (relates_set IsStill still_same s.queues p (taken_back q)
    (relates_buffer IsStill still_same q (taken_back q) i (made_idle (buffer_of q i)) refl refl (still_taken (buffer_of q i) is.1)))

-- a buffer of the device's has a memory
pub device_has : (s : LocalState) (kind : MemoryKind) (memory : Option ℕ) → is_user_ptr kind ≡ false → IsBacked s kind memory → memory ≡ Some (unwrap_or memory 0)
device_has s Mmap None device backed = absurd backed
device_has s Mmap (Some m) device backed = refl
device_has s UserPtr memory device backed = absurd (false≢true (sym device))

-- the buffers of a queue have memories that were made
pub backed_at : (s : LocalState) → IsSound s → (p i : ℕ) → p < length s.queues → i < length (get_or s.queues p opening_queue).buffers →
    IsBacked s (kind_at s.queues p) (buffer_at s.queues p i).memory
backed_at s sound p i within inside =
    let all : All (λ (b : Buffer). IsBacked s (kind_at s.queues p) b.memory) (get_or s.queues p opening_queue).buffers =
    sound.backed.0 p opening_queue within in
    all i no_buffer inside

-- a queue with a buffer is one of the handle's
pub has_queue : (qs : List QueueState) (p i : ℕ) → i < length (get_or qs p opening_queue).buffers → p < length qs
has_queue [] p i inside = absurd (omega (arith, inside))
has_queue (q ∷ qs) zero i inside = omega arith
has_queue (q ∷ qs) (suc p) i inside = omega (arith, has_queue qs p i inside)

-- the memory of a buffer of the device's
pub device_made : (s : LocalState) → IsSound s → (t i : ℕ) → i < length (queue_of s t).buffers → is_user_ptr (queue_of s t).memory ≡ false →
    (buffer_of (queue_of s t) i).memory ≡ Some (unwrap_or (buffer_of (queue_of s t) i).memory 0)
device_made s sound t i inside device =
    let p : ℕ = place_in (types_of s.model) t in
    device_has s (kind_at s.queues p) (buffer_at s.queues p i).memory device (backed_at s sound p i (has_queue s.queues p i inside) inside)

stays_bound : (s : LocalState) (b : Bound) → is_mapping_kind b.kind ≡ true → is_kept s b.memory ≡ true → Stays s (with_bound s b)
stays_bound s b maps kept = record {
  model = refl;
  opened = refl;
  queues = same_queues s;
  memories = refl;
  names = λ m is. elim (bound_some (λ c. c.memory == m) s.bound b is) as (λ _. is_kept s m ≡ true) [
    | inl old ↦ kept_named s m old
    | inr at ↦ subst (λ k. is_kept s k ≡ true) (eqb-true b.memory m at) kept
  ];
  users = λ m is. elim (bound_some (λ c. not (is_mapping_kind c.kind) && c.memory == m) s.bound b is) as (λ _. is_user_named s m ≡ true) [
    | inl old ↦ old
    | inr new ↦ absurd (false≢true (sym (ap not maps) ∙ (and_parts (not (is_mapping_kind b.kind)) (b.memory == m) new).0))
  ];
}

stays_unbound : (s : LocalState) (name : List ℕ) → Stays s (unbound s name)
stays_unbound s name = record {
  model = refl;
  opened = refl;
  queues = same_queues s;
  memories = refl;
  names = λ m is. kept_named s m (any_filtered (λ b. b.memory == m) _ s.bound is);
  users = λ m is. any_filtered (λ b. not (is_mapping_kind b.kind) && b.memory == m) _ s.bound is;
}

stays_mapped : (s : LocalState) (addr : ℕ) (m : List ℕ) (t i : ℕ) (ro : Bool) → IsSound s → first_refusal (mmap_row s addr m t i ro).refusals ≡ None →
    Stays s (mmap_row s addr m t i ro).next
unfolding mmap_row
stays_mapped s addr m t i ro sound pass =
    let so : (k : ℕ) → (get_or (mmap_row s addr m t i ro).refusals k (false, Enomem)).0 ≡ false = passes (mmap_row s addr m t i ro).refusals pass in
    let p : ℕ = place_in (types_of s.model) t in
    let b : Buffer = buffer_of (queue_of s t) i in
    let n : ℕ = unwrap_or b.memory 0 in
    let inside : i < length (queue_of s t).buffers = ltb-true i (length (queue_of s t).buffers) (not-false _ (so 2)) in
    let device : is_of_device s n ≡ true = device_from s p i n (device_made s sound t i inside (so 3)) (so 3) in
    let kept : is_kept s n ≡ true =
    or_right (is_named s n) (s.opened && (is_of_device s n || is_in_use s n))
    (and_from s.opened (is_of_device s n || is_in_use s n) (not-false s.opened (so 0)) (or_left (is_of_device s n) (is_in_use s n) device)) in
    stays_bound s (record { name = m; memory = n; kind = Mapping addr b.length (not ro) }) refl kept

pub stays_row : (s : LocalState) (line addr : ℕ) (call : Call) → IsSound s → moves_memory call ≡ false → first_refusal (row_of s line addr call).refusals ≡ None →
    (row_of s line addr call).waits ≡ false → Stays s (row_of s line addr call).next
unfolding querycap_row enumfmt_row gfmt_row tryfmt_row sfmt_row enuminput_row ginput_row sinput_row reqbufs_row querybuf_row ualloc_row qbuf_row streamon_row streamoff_row dqbuf_row munmap_row read_row hash_row write_row fill_row subscribe_row unsubscribe_row dqevent_row
stays_row s line addr (OpenHandle nonblock) sound still pass go = absurd (false≢true (sym still))
stays_row s line addr CloseHandle sound still pass go = absurd (false≢true (sym still))
stays_row s line addr (SFmt t f w h) sound still pass go = stays_format s t (adjusted_for s t f w h)
stays_row s line addr (ReqBufs t m n) sound still pass go = absurd (false≢true (sym still))
stays_row s line addr (UAlloc u len off) sound still pass go = absurd (false≢true (sym still))
stays_row s line addr (QBuf t i user used ts) sound still pass go = absurd (false≢true (sym still))
stays_row s line addr (StreamOn t) sound still pass go = stays_started s t
stays_row s line addr (StreamOff t) sound still pass go = absurd (false≢true (sym still))
stays_row s line addr (DqBuf t) sound still pass go = stays_taken_back s t sound go
stays_row s line addr (MapCall m t i ro) sound still pass go = stays_mapped s addr m t i ro sound pass
stays_row s line addr (Munmap m) sound still pass go = stays_unbound s m
stays_row s line addr (Poke m off bytes) sound still pass go = absurd (false≢true (sym still))
stays_row s line addr (Fill m seed) sound still pass go = absurd (false≢true (sym still))
stays_row s line addr call sound still pass go = stays_same s (row_of s line addr call).next refl refl refl refl refl

-- ---- the steps of the device

-- a frame took the head of each queue
relates_taken : (good : Bool) (ts : ℕ) (q : QueueState) → (buffer_of q (head q)).state ≡ Queued → QueueRelates IsStill q (taken good ts q)
relates_taken good ts q is =
    let b : Buffer = head_buffer q in
    relates_buffer IsStill still_same q (taken good ts q) (head q) (taken_buffer good q.next_sequence ts b) refl refl (record {
      less = record {
        memory = refl;
        idle = λ idle. absurd (false≢true (sym (ap is_idle is) ∙ idle));
        away = λ _. ap is_away is;
      };
      back = λ _. refl;
    })

pub ready_at : (s : LocalState) → IsSound s → can_finish s ≡ true → (p : ℕ) → p < length s.queues →
    (buffer_at s.queues p (head (get_or s.queues p opening_queue))).state ≡ Queued
ready_at s sound ready p within =
    let q : QueueState = get_or s.queues p opening_queue in
    let both : (q.streaming ≡ true) × (not (is_empty q.queued) ≡ true) =
    and_parts q.streaming (not (is_empty q.queued)) (AllPass-from_list_all (λ q. q.streaming && not (is_empty q.queued)) s.queues ready p opening_queue within) in
    let all : All (IsThere Queued q) q.queued = each_queue s sound (λ r. All (IsThere Queued r) r.queued) (λ t. (sound.there.0 t).0) p within in
    (first_of (IsThere Queued q) q.queued (not-true (is_empty q.queued) both.1) all).1

pub frame_relates : (s : LocalState) (good : Bool) (entries : List OwedEntry) (n : ℕ) → IsSound s → can_finish s ≡ true →
    Relates IsStill s.queues (with_target_used s n (heads_taken s good entries)).queues
frame_relates s good entries n sound ready =
    let f : QueueState → QueueState = taken good (next_timestamp s) in
    let x : LocalState = heads_taken s good entries in
    let u : ℕ = picture_queue s.model in
    let p : ℕ = place_in (types_of s.model) u in
    let i : ℕ = head (target s) in
    let b : Buffer = record (buffer_of (queue_of x u) i) { used = n } in
    let first : Relates IsStill s.queues x.queues =
    map_relates (QueueRelates IsStill) f opening_queue (relates_kept IsStill still_same opening_queue opening_queue refl refl) s.queues
    (λ k within. relates_taken good (next_timestamp s) (get_or s.queues k opening_queue) (ready_at s sound ready k within)) in
    relates_then s.queues x.queues (set x.queues p (with_used (queue_of x u) i n)) first
    (relates_set IsStill still_same x.queues p (with_used (queue_of x u) i n)
    (relates_buffer IsStill still_same (queue_of x u) (with_used (queue_of x u) i n) i b refl refl (record {
      less = record { memory = refl; idle = λ is. is; away = λ is. is };
      back = λ is. is;
    })))

-- the first thing owed, where it is a buffer
pub given_there : (s : LocalState) (t i : ℕ) (rest : List OwedEntry) → IsSound s → s.owed ≡ record { queue = t; item = OwedBuffer i } ∷ rest → IsThere Owed (queue_of s t) i
given_there s t i rest sound owed =
    let P : List OwedEntry → Type 0 = λ os. All (λ o. IsOwedThere s o.queue o.item) os in
    All-head (λ (o : OwedEntry). IsOwedThere s o.queue o.item) (record { queue = t; item = OwedBuffer i }) rest (subst P owed sound.there.1)

pub given_relates : (s : LocalState) (t i : ℕ) → IsThere Owed (queue_of s t) i →
    Relates IsLess s.queues (set s.queues (place_in (types_of s.model) t) (with_done (queue_of s t) i))
given_relates s t i is =
    let q : QueueState = queue_of s t in
    relates_set IsLess less_same s.queues (place_in (types_of s.model) t) (with_done q i)
    (relates_buffer IsLess less_same q (with_done q i) i (record (buffer_of q i) { state = Done }) refl refl (record {
      memory = refl;
      idle = λ idle. absurd (false≢true (sym (ap is_idle is.1) ∙ idle));
      away = λ away. absurd (false≢true away);
    }))

-- all buffers of a queue are Idle
pub stopped_relates : (q : QueueState) → QueueRelates IsLess q (stopped_queue q)
stopped_relates q = record {
  kind = refl;
  buffers = map_relates IsLess made_idle no_buffer (less_same no_buffer) q.buffers (λ k within. record {
    memory = refl;
    idle = λ _. refl;
    away = λ away. absurd (false≢true away);
  });
}
