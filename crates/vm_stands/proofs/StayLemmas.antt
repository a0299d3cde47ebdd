-- A job that runs goes on being the frame that is possible in the state.
use Rattle.std.proofs.Common.{◌≡◌, ◌≢◌, ◌⊎◌, inl, inr, ℕ, zero, suc, ◌<◌, ◌&&◌, Bool, true, false, not, List, [], ◌∷◌, ◌++◌, length, get_or, set, Option, Some, None, refl, sym, ap, ◌∙◌, subst, arith, get_or-set_same, get_or-set_other, if◌then◌else◌}
use Rattle.std.specs.Prelude.{slice_index}
use Rattle.std.specs.List.{list_all}
use Rattle.std.proofs.lemmas.Bool.{false≢true, true≢false, cases_eq, ltb-true, not-false}
use Rattle.std.proofs.lemmas.List.{set-get_or}
use Rattle.std.proofs.lemmas.List.Folds.{list_all-map, list_any_at}
use Rattle.v4l_const.specs.Model.{queues as types_of, source_queue, picture_queue}
use Rattle.v4l_format.specs.Fmt.{picture_size}
use Rattle.v4l_format.specs.Picture.{pattern_picture, converted_picture}
use Rattle.v4l_rules.specs.Queues.{place_in, has_type}
use Rattle.v4l_rules.specs.Refusals.{first_refusal}
use Rattle.v4l_rules.proofs.ModelLemmas.{has_target}
use Rattle.v4l_rules.proofs.SetLemmas.{set_keeps}
use Rattle.vm_frame.specs.declared.mem.Held.{Held}
use Rattle.vm_job.specs.Job.{JobParts}
use Rattle.vm_local.specs.declared.buffer.Buffer.{Buffer}
use Rattle.vm_local.specs.declared.buffer.BufferState.TheVariants.{Queued}
use Rattle.vm_local.specs.declared.call.Call.{Call}
use Rattle.vm_local.specs.declared.call.Call.TheVariants.{OpenHandle, CloseHandle, QueryCap, EnumFmt, GFmt, TryFmt, SFmt, EnumInput, GInput, SInput, ReqBufs, QueryBuf, UAlloc, QBuf, StreamOn, StreamOff, DqBuf, Mmap, Munmap, Peek, Hash, Poke, Fill, Subscribe, Unsubscribe, DqEvent}
use Rattle.vm_local.specs.declared.entry.Entry.TheVariants.{Give}
use Rattle.vm_local.specs.declared.reply.Reply.{Reply}
use Rattle.vm_local.specs.State.{QueueState, LocalState, opening_queue, queue_of, with_queue, no_buffer, buffer_of}
use Rattle.vm_local.specs.Kinds.{is_idle}
use Rattle.vm_local.specs.Memory.{bytes_of}
use Rattle.vm_local.specs.Same.{address_in}
use Rattle.vm_local.specs.Queue.{is_empty, has_buffers, is_streaming, can_finish, started, brought, queued_buffer, with_queued}
use Rattle.vm_local.specs.Calls.{Row, row_of, querycap_row, enumfmt_row, gfmt_row, tryfmt_row, sfmt_row, enuminput_row, ginput_row, sinput_row, querybuf_row, qbuf_row, streamon_row, mmap_row, munmap_row, subscribe_row, unsubscribe_row}
use Rattle.vm_local.specs.Listed.{IsThere}
use Rattle.vm_local.specs.Live.{is_of_device}
use Rattle.vm_local.specs.Log.{row_for, called, after, IsCall}
use Rattle.vm_local.specs.Steps.{head, head_buffer, number_of, target, picture_from}
use Rattle.vm_local.proofs.StepLemmas.{passes, answered_by}
use Rattle.vm_commute.specs.Commute.{may_cross, is_open, is_stopping, SameButEvents}
use Rattle.vm_commute.proofs.ReachedLemmas.{many_queues, ready_at, front_there}
use Rattle.vm_home.specs.Home.{IsMemory}
use Rattle.vm_home.specs.Moves.{memory_at}
use Rattle.vm_home.specs.Reached.{IsReached}
use Rattle.vm_stands.specs.Stands.{IsMemoryAt, IsHead, IsHeadIf, IsNext}
use Rattle.vm_stands.proofs.NextLemmas.{has_picture, has_source}
use Rattle.vm_stands.proofs.SeenLemmas.{seen_queue, seen, queue_alike, buffer_alike, device_alike}
use Rattle.vm_stands.proofs.GivenLemmas.{given_seen}
use Rattle.vm_stands.proofs.QBufLemmas.{IsQueueing, queueing_is, queued_device}

-- ---- what the next frame looks at

pub record IsNextAlike (s t : LocalState) : Type 0 where
  pub model : t.model ≡ s.model
  pub input : t.input ≡ s.input
  pub ready : can_finish t ≡ true
  pub format : (u : ℕ) → has_type s.model u ≡ true → (queue_of t u).format ≡ (queue_of s u).format
  pub sequence : (u : ℕ) → has_type s.model u ≡ true → (queue_of t u).next_sequence ≡ (queue_of s u).next_sequence
  pub first : (u : ℕ) → has_type s.model u ≡ true → head (queue_of t u) ≡ head (queue_of s u)
  pub memory : (u : ℕ) → has_type s.model u ≡ true → memory_at t u (head (queue_of s u)) ≡ memory_at s u (head (queue_of s u))
  pub bytes : (u : ℕ) → has_type s.model u ≡ true → bytes_of t (memory_at s u (head (queue_of s u))) ≡ bytes_of s (memory_at s u (head (queue_of s u)))
  pub device : (m : ℕ) → is_of_device t m ≡ true → is_of_device s m ≡ true

head_alike : (s t : LocalState) (u : ℕ) (h : Held) → IsNextAlike s t → has_type s.model u ≡ true → IsHead s u h → IsHead t u h
head_alike s t u h alike has is =
    let i : ℕ = head (queue_of s u) in
    let P : ℕ → Type 0 = λ m. IsMemory t m h.mem in
    let here : IsMemory t (memory_at s u i) h.mem = record {
      bytes = is.memory.bytes ∙ sym (alike.bytes u has);
      frame = λ device. is.memory.frame (alike.device (memory_at s u i) device);
    } in
    let there : IsMemoryAt t u i h = record { queue = is.queue; index = is.index; memory = subst P (sym (alike.memory u has)) here } in
    subst (λ j. IsMemoryAt t u j h) (sym (alike.first u has)) there

if_alike : (s t : LocalState) (o : Option ℕ) (h : Option Held) → IsNextAlike s t → ((u : ℕ) → o ≡ Some u → has_type s.model u ≡ true) → IsHeadIf s o h → IsHeadIf t o h
if_alike s t None h alike has is = is
if_alike s t (Some u) None alike has is = absurd is
if_alike s t (Some u) (Some h) alike has is = head_alike s t u h alike (has u refl) is

pub target_alike : {A : Type 0} (s t : LocalState) (part : QueueState → A) → t.model ≡ s.model →
    ((u : ℕ) → has_type s.model u ≡ true → part (queue_of t u) ≡ part (queue_of s u)) → part (target t) ≡ part (target s)
target_alike s t part model same = ap (λ m. part (queue_of t (picture_queue m))) model ∙ same (picture_queue s.model) (has_picture s.model)

pub picture_alike : (s t : LocalState) (o : Option ℕ) → IsNextAlike s t → ((u : ℕ) → o ≡ Some u → has_type s.model u ≡ true) → picture_from o t ≡ picture_from o s
picture_alike s t None alike has =
    let format : (target t).format ≡ (target s).format = target_alike s t (λ q. q.format) alike.model alike.format in
    let sequence : (target t).next_sequence ≡ (target s).next_sequence = target_alike s t (λ q. q.next_sequence) alike.model alike.sequence in
    λ j. pattern_picture (alike.input j) (sequence j) (format j)
picture_alike s t (Some u) alike has =
    let format : (target t).format ≡ (target s).format = target_alike s t (λ q. q.format) alike.model alike.format in
    let number : number_of (head_buffer (queue_of t u)) ≡ number_of (head_buffer (queue_of s u)) =
    ap (λ i. memory_at t u i) (alike.first u (has u refl)) ∙ alike.memory u (has u refl) in
    let bytes : bytes_of t (number_of (head_buffer (queue_of t u))) ≡ bytes_of s (number_of (head_buffer (queue_of s u))) =
    ap (λ m. bytes_of t m) number ∙ alike.bytes u (has u refl) in
    λ j. converted_picture (alike.format u (has u refl) j) (bytes j) (format j)

pub next_alike : (s t : LocalState) (job : JobParts) → IsNextAlike s t → IsNext s job → IsNext t job
next_alike s t job alike next =
    let source : (u : ℕ) → source_queue s.model ≡ Some u → has_type s.model u ≡ true = λ u is. has_source s.model u is in
    record {
      possible = alike.ready;
      picture = next.picture ∙ (sym (picture_alike s t (source_queue s.model) alike source) ∙ ap (λ m. picture_from (source_queue m) t) (sym alike.model));
      size = next.size ∙ ap (λ f. picture_size f) (sym (target_alike s t (λ q. q.format) alike.model alike.format));
      src = subst (λ m. IsHeadIf t (source_queue m) job.src) (sym alike.model) (if_alike s t (source_queue s.model) job.src alike source next.src);
      dst = subst (λ m. IsHead t (picture_queue m) job.dst) (sym alike.model) (head_alike s t (picture_queue s.model) job.dst alike (has_picture s.model) next.dst);
    }

-- ---- states that look the same

pub finish_seen : (s : LocalState) → can_finish (seen s) ≡ can_finish s
finish_seen s = list_all-map (λ (q : QueueState). q.streaming && not (is_empty q.queued)) seen_queue s.queues

pub next_seen : (s t : LocalState) (job : JobParts) → seen s ≡ seen t → IsNext s job → IsNext t job
next_seen s t job same next =
    let q : (u : ℕ) → seen_queue (queue_of t u) ≡ seen_queue (queue_of s u) = λ u. sym (queue_alike s t same u) in
    next_alike s t job (record {
      model = ap (λ (x : LocalState). x.model) (sym same);
      input = ap (λ (x : LocalState). x.input) (sym same);
      ready = sym (finish_seen t) ∙ (ap (λ x. can_finish x) (sym same) ∙ (finish_seen s ∙ next.possible));
      format = λ u has. ap (λ (x : QueueState). x.format) (q u);
      sequence = λ u has. ap (λ (x : QueueState). x.next_sequence) (q u);
      first = λ u has. ap (λ (x : QueueState). slice_index x.queued 0) (q u);
      memory = λ u has. ap (λ (b : Buffer). number_of b) (buffer_alike (queue_of t u) (queue_of s u) (q u) (head (queue_of s u)));
      bytes = λ u has. ap (λ (x : LocalState). bytes_of x (memory_at s u (head (queue_of s u)))) (sym same);
      device = λ m is. device_alike s t same m ∙ is;
    }) next

pub giving_next : (s t : LocalState) (job : JobParts) → IsReached s → after s Give ≡ Some t → IsNext s job → IsNext t job
giving_next s t job reached leads next = next_seen s t job (sym (given_seen s t reached leads)) next

pub events_next : (s t : LocalState) (job : JobParts) → SameButEvents s t → IsNext s job → IsNext t job
events_next s t job same next = next_seen s t job (ap (λ (x : LocalState). seen x) same) next

-- ---- calls

-- where a frame is possible, each queue streams and has a buffer queued
pub ready_is : (s : LocalState) (u : ℕ) → IsReached s → can_finish s ≡ true → has_type s.model u ≡ true → ((queue_of s u).streaming ≡ true) × (is_empty (queue_of s u).queued ≡ false)
ready_is s u reached ready has =
    let p : ℕ = place_in (types_of s.model) u in
    ready_at s.queues p opening_queue ready (omega (arith, ltb-true p (length (types_of s.model)) has, many_queues s reached))

pub first_there : (s : LocalState) (u : ℕ) → IsReached s → can_finish s ≡ true → has_type s.model u ≡ true → IsThere Queued (queue_of s u) (head (queue_of s u))
first_there s u reached ready has =
    let p : ℕ = place_in (types_of s.model) u in
    front_there s reached ready p opening_queue (omega (arith, ltb-true p (length (types_of s.model)) has, many_queues s reached))

pub target_streams : (s : LocalState) → IsReached s → can_finish s ≡ true → is_streaming s ≡ true
target_streams s reached ready =
    let p : ℕ = place_in (types_of s.model) (picture_queue s.model) in
    list_any_at (λ (q : QueueState). q.streaming) s.queues p opening_queue (omega (arith, has_target s.model, many_queues s reached))
    (ready_is s (picture_queue s.model) reached ready (has_picture s.model)).0

target_has : (s : LocalState) → IsReached s → can_finish s ≡ true → has_buffers s ≡ true
target_has s reached ready =
    let p : ℕ = place_in (types_of s.model) (picture_queue s.model) in
    list_any_at (λ (q : QueueState). not (is_empty q.buffers)) s.queues p opening_queue (omega (arith, has_target s.model, many_queues s reached))
    (some (target s).buffers (head (target s)) (first_there s (picture_queue s.model) reached ready (has_picture s.model)).0)
  where
    some : (bs : List Buffer) (i : ℕ) → i < length bs → not (is_empty bs) ≡ true
    some [] i within = absurd (omega (arith, within))
    some (b ∷ bs) i within = refl

all_set : {A : Type 0} (test : A → Bool) (d : A) (xs : List A) (i : ℕ) (y : A) → test y ≡ test (get_or xs i d) → list_all test (set xs i y) ≡ list_all test xs
all_set test d [] i y same = refl
all_set test d (x ∷ xs) zero y same = ap (λ b. b && list_all test xs) same
all_set test d (x ∷ xs) (suc i) y same = ap (λ b. test x && b) (all_set test d xs i y same)

pub empty_push : (xs : List ℕ) (x : ℕ) → is_empty (xs ++ x ∷ []) ≡ false
empty_push [] x = refl
empty_push (y ∷ ys) x = refl

first_push : (xs : List ℕ) (x : ℕ) → is_empty xs ≡ false → slice_index (xs ++ x ∷ []) 0 ≡ slice_index xs 0
first_push [] x some = absurd (true≢false some)
first_push (y ∷ ys) x some = refl

qbuf_next : (s : LocalState) (t i used ts : ℕ) (user : Option (List ℕ)) (job : JobParts) → IsReached s → IsQueueing s t i user used → IsNext s job →
    IsNext (with_queued s t i (brought s user) used ts) job
qbuf_next s t i used ts user job reached queueing next =
    let q : QueueState = queue_of s t in
    let b : Buffer = queued_buffer s t (brought s user) used ts (buffer_of q i) in
    let w : QueueState = record q { buffers = set q.buffers i b; queued = q.queued ++ i ∷ [] } in
    let y : LocalState = with_queued s t i (brought s user) used ts in
    let p : ℕ = place_in (types_of s.model) t in
    let within : p < length s.queues = omega (arith, ltb-true p (length (types_of s.model)) queueing.has, many_queues s reached) in
    let ready : (q.streaming ≡ true) × (is_empty q.queued ≡ false) = ready_is s t reached next.possible queueing.has in
    let test : QueueState → Bool = λ v. v.streaming && not (is_empty v.queued) in
    let same : test w ≡ test q = ap (λ e. q.streaming && not e) (empty_push q.queued i ∙ sym ready.1) in
    next_alike s y job (record {
      model = refl;
      input = refl;
      ready = all_set test opening_queue s.queues p w same ∙ next.possible;
      format = λ u has. set_keeps opening_queue (λ (v : QueueState). v.format) s.queues p w refl (place_in (types_of s.model) u);
      sequence = λ u has. set_keeps opening_queue (λ (v : QueueState). v.next_sequence) s.queues p w refl (place_in (types_of s.model) u);
      first = λ u has. set_keeps opening_queue head s.queues p w (first_push q.queued i ready.1) (place_in (types_of s.model) u);
      memory = λ u has. memory_same u has (cases_eq (place_in (types_of s.model) u) p);
      bytes = λ u has. refl;
      device = λ m is. sym (queued_device s t i used ts user queueing m) ∙ is;
    }) next
  where
    memory_same : (u : ℕ) → has_type s.model u ≡ true → (place_in (types_of s.model) u ≡ place_in (types_of s.model) t) ⊎ (place_in (types_of s.model) u ≢ place_in (types_of s.model) t) →
        memory_at (with_queued s t i (brought s user) used ts) u (head (queue_of s u)) ≡ memory_at s u (head (queue_of s u))
    memory_same u has (inr far) =
        let q : QueueState = queue_of s t in
        ap (λ (v : QueueState). number_of (buffer_of v (head (queue_of s u))))
        (get_or-set_other s.queues (place_in (types_of s.model) t) (place_in (types_of s.model) u)
        (record q { buffers = set q.buffers i (queued_buffer s t (brought s user) used ts (buffer_of q i)); queued = q.queued ++ i ∷ [] }) opening_queue far)
    memory_same u has (inl same) =
        let q : QueueState = queue_of s t in
        let b : Buffer = queued_buffer s t (brought s user) used ts (buffer_of q i) in
        let w : QueueState = record q { buffers = set q.buffers i b; queued = q.queued ++ i ∷ [] } in
        let p : ℕ = place_in (types_of s.model) t in
        let within : p < length s.queues = omega (arith, ltb-true p (length (types_of s.model)) queueing.has, many_queues s reached) in
        let here : queue_of s u ≡ q = ap (λ k. get_or s.queues k opening_queue) same in
        let there : IsThere Queued q (head q) = first_there s t reached next.possible queueing.has in
        let apart : head q ≢ i = λ is. true≢false (sym queueing.idle ∙ (ap (λ k. is_idle (buffer_of q k).state) (sym is) ∙ ap is_idle there.1)) in
        ap (λ k. number_of (buffer_of (get_or (set s.queues p w) k opening_queue) (head (queue_of s u)))) same
        ∙ (ap (λ (v : QueueState). number_of (buffer_of v (head (queue_of s u)))) (get_or-set_same s.queues p w opening_queue within)
        ∙ (ap (λ (v : QueueState). number_of (buffer_of w (head v))) here
        ∙ (ap (λ (c : Buffer). number_of c) (get_or-set_other q.buffers i (head q) b no_buffer apart)
        ∙ ap (λ (v : QueueState). number_of (buffer_of v (head v))) (sym here))))

-- a queue that streams is as it was
started_same : (q : QueueState) → q.streaming ≡ true → started q ≡ q
started_same q streams =
    ap (λ b. record q { streaming = true; next_sequence = if b then q.next_sequence else 0 }) streams ∙ ap (λ b. record q { streaming = b }) (sym streams)

streamon_same : (s : LocalState) (t : ℕ) → (queue_of s t).streaming ≡ true → with_queue s t (started (queue_of s t)) ≡ s
streamon_same s t streams =
    let p : ℕ = place_in (types_of s.model) t in
    ap (λ qs. record s { queues = qs }) (ap (λ q. set s.queues p q) (started_same (queue_of s t) streams) ∙ set-get_or s.queues p opening_queue)

row_next : (s : LocalState) (line addr : ℕ) (call : Call) (job : JobParts) → may_cross call ≡ true → is_open call ≡ false → is_stopping call ≡ false → IsReached s →
    first_refusal (row_of s line addr call).refusals ≡ None → IsNext s job → IsNext (row_of s line addr call).next job
unfolding querycap_row enumfmt_row gfmt_row tryfmt_row sfmt_row enuminput_row ginput_row sinput_row querybuf_row qbuf_row streamon_row mmap_row munmap_row subscribe_row unsubscribe_row
row_next s line addr (OpenHandle nonblock) job may opens stop reached pass next = absurd (true≢false opens)
row_next s line addr CloseHandle job may opens stop reached pass next = absurd (true≢false stop)
row_next s line addr QueryCap job may opens stop reached pass next = next
row_next s line addr (EnumFmt t i) job may opens stop reached pass next = next
row_next s line addr (GFmt t) job may opens stop reached pass next = next
row_next s line addr (TryFmt t f w h) job may opens stop reached pass next = next
row_next s line addr (SFmt t f w h) job may opens stop reached pass next =
    absurd (true≢false (sym (target_has s reached next.possible) ∙ passes (sfmt_row s t f w h).refusals pass 2))
row_next s line addr (EnumInput i) job may opens stop reached pass next = next
row_next s line addr GInput job may opens stop reached pass next = next
row_next s line addr (SInput i) job may opens stop reached pass next =
    absurd (true≢false (sym (target_streams s reached next.possible) ∙ passes (sinput_row s i).refusals pass 3))
row_next s line addr (ReqBufs t m n) job may opens stop reached pass next = absurd (true≢false stop)
row_next s line addr (QueryBuf t i) job may opens stop reached pass next = next
row_next s line addr (UAlloc u len off) job may opens stop reached pass next = absurd (false≢true may)
row_next s line addr (QBuf t i user used ts) job may opens stop reached pass next =
    qbuf_next s t i used ts user job reached (queueing_is s t i user used ts pass) next
row_next s line addr (StreamOn t) job may opens stop reached pass next =
    let has : has_type s.model t ≡ true = not-false _ (passes (streamon_row s t).refusals pass 1) in
    subst (λ x. IsNext x job) (sym (streamon_same s t (ready_is s t reached next.possible has).0)) next
row_next s line addr (StreamOff t) job may opens stop reached pass next = absurd (true≢false stop)
row_next s line addr (DqBuf t) job may opens stop reached pass next = absurd (false≢true may)
row_next s line addr (Mmap m t i ro) job may opens stop reached pass next = next_seen s (mmap_row s addr m t i ro).next job refl next
row_next s line addr (Munmap m) job may opens stop reached pass next = next_seen s (munmap_row s m).next job refl next
row_next s line addr (Peek m off len) job may opens stop reached pass next = absurd (false≢true may)
row_next s line addr (Hash m) job may opens stop reached pass next = absurd (false≢true may)
row_next s line addr (Poke m off bytes) job may opens stop reached pass next = absurd (false≢true may)
row_next s line addr (Fill m seed) job may opens stop reached pass next = absurd (false≢true may)
row_next s line addr (Subscribe e) job may opens stop reached pass next = next_seen s (subscribe_row s e).next job refl next
row_next s line addr (Unsubscribe e) job may opens stop reached pass next = next_seen s (unsubscribe_row s e).next job refl next
row_next s line addr DqEvent job may opens stop reached pass next = absurd (false≢true may)

pub calls_next : (s t : LocalState) (line : ℕ) (call : Call) (reply : Reply) (job : JobParts) → IsReached s → may_cross call ≡ true → is_open call ≡ false →
    is_stopping call ≡ false → IsCall s line call reply t → IsNext s job → IsNext t job
unfolding called
calls_next s t line call reply job reached may opens stop leads next =
    let r : Row = row_for s line call reply in
    elim (answered_by (first_refusal r.refusals) r s reply t leads) as (λ _. IsNext t job) [
      | inl same ↦ subst (λ x. IsNext x job) (sym same) next
      | inr went ↦ subst (λ x. IsNext x job) (sym went.3) (row_next s line (address_in reply) call job may opens stop reached went.0 next)
    ]
