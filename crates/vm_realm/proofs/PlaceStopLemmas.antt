-- A call that stops queues: the memories that come back were lent and are no more, and the fresh ones are behind all others.
use Rattle.std.proofs.Common.{◌≡◌, inl, inr, ℕ, zero, suc, ◌+◌, ◌<◌, ◌≤◌, Bool, true, false, not, ◌==◌, List, [], ◌∷◌, ◌++◌, length, get_or, map, take, drop, replicate, All, Some, refl, sym, ap, ◌∙◌, subst, arith, if◌then◌else◌, get_or-set_same, length-append}
use Rattle.std.specs.List.{flat_map, range_with_len}
use Rattle.std.proofs.lemmas.Bool.{false≢true, true≢false, cases_Bool, cond-true, cond-false, eqb-true, eqb-false, ne_eqb}
use Rattle.std.proofs.lemmas.List.{length-map, length-replicate, take_at, drop_at}
use Rattle.std.proofs.lemmas.List.Elements.{All-head}
use Rattle.v4l_const.specs.declared.errno.Errno.TheVariants.{Enomem}
use Rattle.v4l_const.specs.Model.{queues as types_of}
use Rattle.v4l_format.specs.Fmt.{picture_size}
use Rattle.v4l_rules.specs.Queues.{place_in}
use Rattle.vm_frame.specs.declared.mem.Held.{Held}
use Rattle.vm_mem.specs.Lists.{occurrences}
use Rattle.vm_local.specs.declared.bound.MemoryKind.{MemoryKind}
use Rattle.vm_local.specs.declared.bound.MemoryKind.TheVariants.{Mmap, UserPtr}
use Rattle.vm_local.specs.declared.buffer.BufferState.{BufferState}
use Rattle.vm_local.specs.declared.call.Call.{Call}
use Rattle.vm_local.specs.declared.call.Call.TheVariants.{CloseHandle, ReqBufs, StreamOff}
use Rattle.vm_local.specs.declared.reply.Reply.{Reply}
use Rattle.vm_local.specs.State.{QueueState, LocalState, opening_queue, queue_of, buffer_of}
use Rattle.vm_local.specs.Calls.{reqbufs_row, streamoff_row}
use Rattle.vm_local.specs.Kinds.{is_idle, is_away}
use Rattle.vm_local.specs.Listed.{once}
use Rattle.vm_local.specs.Log.{row_for, called}
use Rattle.vm_local.specs.Memory.{is_lent}
use Rattle.vm_local.specs.Queue.{is_user_ptr, is_owed, memory_kind, granted, fresh_buffer, fresh_buffers, fresh_memories, with_buffers, stopped, stopped_queue}
use Rattle.vm_local.proofs.StepLemmas.{passes}
use Rattle.vm_home.specs.Moves.{is_refusal, is_stopping, Place, places_on, queued_on, stops, made_on, made_by, memory_at, AreMemories, ComeBack, stopped_count}
use Rattle.vm_home.specs.Reached.{IsReached}
use Rattle.vm_home.proofs.ComeLemmas.{off_one, renewed, reqbufs_one}
use Rattle.vm_home.proofs.FactLemmas.{Facts, facts_of}
use Rattle.vm_home.proofs.MoveLemmas.{Went, went}
use Rattle.vm_home.proofs.PlaceLemmas.{buffer_at, HasAt, lent_at, lent_from, away_busy}
use Rattle.vm_home.proofs.StopLemmas.{number_at, is_among, memories_long, StopsTo, StopsOne, stops_one}
use Rattle.vm_realm.specs.Places.{numbers_in}
use Rattle.vm_realm.proofs.PlaceCountLemmas.{away_is, one_type, lent_count}
use Rattle.vm_realm.proofs.PlaceShutLemmas.{closed_lends}

-- ---- one queue is stopped

idle_away : (st : BufferState) → is_idle st ≡ true → is_away st ≡ true → ⊥
idle_away st idle away = true≢false (sym idle ∙ away_busy st away)

-- what is lent afterwards is that of a buffer of a queue that goes on
goes_on : (s t : LocalState) (ps : List Place) (m : ℕ) → StopsTo s t ps → is_lent t m ≡ true →
    (p : ℕ) × (i : ℕ) × (get_or t.queues p opening_queue ≡ get_or s.queues p opening_queue) × HasAt s.queues p i m × (is_away (buffer_at s.queues p i).state ≡ true)
goes_on s t ps m stop lent =
    let w : _ = lent_at t m lent in
    elim (stop.queues w.0) as (λ _. (p : ℕ) × (i : ℕ) × (get_or t.queues p opening_queue ≡ get_or s.queues p opening_queue) × HasAt s.queues p i m × (is_away (buffer_at s.queues p i).state ≡ true)) [
      | inl same ↦ (w.0, w.1, same, ap (λ (q : QueueState). (buffer_of q w.1).memory) (sym same) ∙ w.2, ap (λ (q : QueueState). is_away (buffer_of q w.1).state) (sym same) ∙ w.3)
      | inr at ↦ absurd (idle_away (buffer_at t.queues w.0 w.1).state (at.idle w.1) w.3)
    ]

parts : (a b c : Bool) → (a ≡ true → c ≡ true) → (b ≡ true → c ≡ true) → (b ≡ true → a ≡ true → ⊥) → (c ≡ true → b ≡ false → a ≡ true) → once a + once b ≡ once c
parts true true c first second apart all = absurd (apart refl refl)
parts true false c first second apart all = ap once (sym (first refl))
parts false true c first second apart all = ap once (sym (second refl))
parts false false true first second apart all = absurd (false≢true (all refl refl))
parts false false false first second apart all = refl

one_count : (s t : LocalState) (u m : ℕ) → IsReached s → StopsTo s t (queued_on s u ++ []) → occurrences m (map (number_at s) (queued_on s u ++ [])) + once (is_lent t m) ≡ once (is_lent s m)
one_count s t u m reached stop =
    ap (λ n. n + once (is_lent t m)) (one_type s u m reached) ∙ parts (is_among s ps m) (is_lent t m) (is_lent s m) queued going apart all
  where
    f : Facts s
    f = facts_of s reached

    ps : List Place
    ps = queued_on s u ++ []

    queued : is_among s ps m ≡ true → is_lent s m ≡ true
    queued among = let v : _ = stop.among m among in lent_from s v.0 v.1 m v.3 (ap is_away v.4)

    going : is_lent t m ≡ true → is_lent s m ≡ true
    going lent = let w : _ = goes_on s t ps m stop lent in lent_from s w.0 w.1 m w.3 w.4

    apart : is_lent t m ≡ true → is_among s ps m ≡ true → ⊥
    apart lent among =
        let w : _ = goes_on s t ps m stop lent in
        let v : _ = stop.among m among in
        let same : (v.0 ≡ w.0) × (v.1 ≡ w.1) =
        f.owns.busy v.0 v.1 w.0 w.1 m (ap is_idle v.4) (away_busy (buffer_at s.queues w.0 w.1).state w.4) v.3 w.3 in
        let idle : is_idle (buffer_at t.queues w.0 w.1).state ≡ true = subst (λ p. is_idle (buffer_at t.queues p w.1).state ≡ true) same.0 (v.2.idle w.1) in
        let away : is_away (buffer_at t.queues w.0 w.1).state ≡ true = ap (λ (q : QueueState). is_away (buffer_of q w.1).state) w.2 ∙ w.4 in
        idle_away (buffer_at t.queues w.0 w.1).state idle away

    all : is_lent s m ≡ true → is_lent t m ≡ false → is_among s ps m ≡ true
    all lent unlent =
        let w : _ = lent_at s m lent in
        elim (stop.queues w.0) as (λ _. is_among s ps m ≡ true) [
          | inl same ↦
              let now : is_lent t m ≡ true = lent_from t w.0 w.1 m (ap (λ (q : QueueState). (buffer_of q w.1).memory) same ∙ w.2)
              (ap (λ (q : QueueState). is_away (buffer_of q w.1).state) same ∙ w.3) in
              absurd (true≢false (sym now ∙ unlent))
          | inr at ↦ elim (away_is (buffer_at s.queues w.0 w.1).state w.3) as (λ _. is_among s ps m ≡ true) [
            | inl is ↦ at.listed w.1 m is w.2
            | inr owed ↦ absurd (at.settled w.1 owed)
          ]
        ]

-- ---- each of the calls

-- what comes back was lent, and what is lent still is the rest of it
pub stop_count : (s t : LocalState) (line : ℕ) (call : Call) (reply : Reply) (m : ℕ) → IsReached s → is_stopping call ≡ true → is_refusal reply ≡ false → called s line call reply ≡ Some t →
    All (λ u. is_owed s u ≡ false) (stops s call) → occurrences m (map (number_at s) (flat_map (queued_on s) (stops s call))) + once (is_lent t m) ≡ once (is_lent s m)
unfolding streamoff_row reqbufs_row
stop_count s t line CloseHandle reply m reached stopping answers leads settled =
    let w : Went (row_for s line CloseHandle reply) reply t = went s line CloseHandle reply t answers leads in
    let none : once (is_lent t m) ≡ 0 = ap (λ (x : LocalState). once (is_lent x m)) w.next ∙ ap once (closed_lends s m) in
    omega (arith, lent_count s m reached settled, none)
stop_count s t line (StreamOff u) reply m reached stopping answers leads settled =
    let w : Went (row_for s line (StreamOff u) reply) reply t = went s line (StreamOff u) reply t answers leads in
    let f : Facts s = facts_of s reached in
    let so : (k : ℕ) → (get_or (streamoff_row s u).refusals k (false, Enomem)).0 ≡ false = passes (streamoff_row s u).refusals w.pass in
    let rest : is_owed s u ≡ false = All-head (λ x. is_owed s x ≡ false) u [] settled in
    one_count s t u m reached (subst (λ x. StopsTo s x (queued_on s u ++ [])) (sym w.next) (stops_one s (stopped s u) u (stopped_queue (queue_of s u)) f (off_one s u f.sound (so 1)) rest))
stop_count s t line (ReqBufs u k n) reply m reached stopping answers leads settled =
    let w : Went (row_for s line (ReqBufs u k n) reply) reply t = went s line (ReqBufs u k n) reply t answers leads in
    let f : Facts s = facts_of s reached in
    let so : (j : ℕ) → (get_or (reqbufs_row s u k n).refusals j (false, Enomem)).0 ≡ false = passes (reqbufs_row s u k n).refusals w.pass in
    let rest : is_owed s u ≡ false = All-head (λ x. is_owed s x ≡ false) u [] settled in
    one_count s t u m reached (subst (λ x. StopsTo s x (queued_on s u ++ [])) (sym w.next)
    (stops_one s (with_buffers s u (memory_kind k) (granted n)) u (renewed s u k n) f (reqbufs_one s u k n f.sound (so 1)) rest))
stop_count s t line call reply m reached stopping answers leads settled = absurd (false≢true stopping)

-- ---- the fresh ones

length_range : (k n : ℕ) → length (range_with_len k n) ≡ n
length_range k zero = refl
length_range k (suc n) = omega (arith, length_range (k + 1) n)

fresh_long : (u first size n : ℕ) (kind : MemoryKind) →
    length (if is_user_ptr kind then [] else places_on u (range_with_len 0 (length (fresh_buffers kind size first n)))) ≡ length (fresh_memories kind size n)
fresh_long u first size n Mmap =
    let zeros : List ℕ = replicate size 0 in
    let few : length (fresh_buffers Mmap size first n) ≡ n = length-map (range_with_len first n) (λ k. fresh_buffer size (Some k)) ∙ length_range first n in
    length-map (range_with_len 0 (length (fresh_buffers Mmap size first n))) (λ i. record { queue = u; index = i })
    ∙ (length_range 0 (length (fresh_buffers Mmap size first n)) ∙ (few ∙ sym (length-replicate n zeros)))
fresh_long u first size n UserPtr = refl

reqbufs_long : (s : LocalState) (u k n : ℕ) (fresh : List Held) → Facts s → StopsOne s (with_buffers s u (memory_kind k) (granted n)) u (renewed s u k n) →
    AreMemories (with_buffers s u (memory_kind k) (granted n)) (made_on (with_buffers s u (memory_kind k) (granted n)) u) fresh →
    length (with_buffers s u (memory_kind k) (granted n)).memories ≡ length s.memories + length fresh
unfolding with_buffers
reqbufs_long s u k n fresh f one made =
    let kind : MemoryKind = memory_kind k in
    let size : ℕ = picture_size (queue_of s u).format in
    let first : ℕ = length s.memories in
    let t : LocalState = with_buffers s u kind (granted n) in
    let v : QueueState = renewed s u k n in
    let here : queue_of t u ≡ v = get_or-set_same s.queues (place_in (types_of s.model) u) v opening_queue one.within in
    let all : length t.memories ≡ first + length (fresh_memories kind size (granted n)) = length-append s.memories (fresh_memories kind size (granted n)) in
    let those : length (made_on t u) ≡ length (fresh_memories kind size (granted n)) =
    ap (λ (q : QueueState). length (if is_user_ptr q.memory then [] else places_on u (range_with_len 0 (length q.buffers)))) here ∙ fresh_long u first size (granted n) kind in
    omega (arith, all, those, memories_long t (made_on t u) fresh made)

-- as many memories as come fresh are made
pub stop_made : (s t : LocalState) (line : ℕ) (call : Call) (reply : Reply) (fresh : List Held) → IsReached s → is_stopping call ≡ true → is_refusal reply ≡ false → called s line call reply ≡ Some t →
    AreMemories t (made_by t call) fresh → length t.memories ≡ length s.memories + length fresh
unfolding reqbufs_row streamoff_row
stop_made s t line CloseHandle reply fresh reached stopping answers leads made =
    let w : Went (row_for s line CloseHandle reply) reply t = went s line CloseHandle reply t answers leads in
    let same : length t.memories ≡ length s.memories = ap (λ (x : LocalState). length x.memories) w.next in
    omega (arith, same, memories_long t [] fresh made)
stop_made s t line (StreamOff u) reply fresh reached stopping answers leads made =
    let w : Went (row_for s line (StreamOff u) reply) reply t = went s line (StreamOff u) reply t answers leads in
    let same : length t.memories ≡ length s.memories = ap (λ (x : LocalState). length x.memories) w.next in
    omega (arith, same, memories_long t [] fresh made)
stop_made s t line (ReqBufs u k n) reply fresh reached stopping answers leads made =
    let w : Went (row_for s line (ReqBufs u k n) reply) reply t = went s line (ReqBufs u k n) reply t answers leads in
    let f : Facts s = facts_of s reached in
    let so : (j : ℕ) → (get_or (reqbufs_row s u k n).refusals j (false, Enomem)).0 ≡ false = passes (reqbufs_row s u k n).refusals w.pass in
    let P : LocalState → Type 0 = λ x. length x.memories ≡ length s.memories + length fresh in
    subst P (sym w.next) (reqbufs_long s u k n fresh f (reqbufs_one s u k n f.sound (so 1)) (subst (λ (y : LocalState). AreMemories y (made_on y u) fresh) w.next made))
stop_made s t line call reply fresh reached stopping answers leads made = absurd (false≢true stopping)

-- ---- the numbers of what comes

pub back_numbers : (s : LocalState) (ps : List Place) (hs : List Held) → AreMemories s ps hs → numbers_in s hs ≡ map (number_at s) ps
back_numbers s [] [] are = refl
back_numbers s [] (h ∷ hs) are = absurd are
back_numbers s (p ∷ ps) [] are = absurd are
back_numbers s (p ∷ ps) (h ∷ hs) are = λ j. memory_at s (are.0 j) (are.1 j) ∷ back_numbers s ps hs are.3 j

pub split_come : (s t : LocalState) (call : Call) (held : List Held) → (come : ComeBack s t call held) → (take (stopped_count s call) held ≡ come.back) × (drop (stopped_count s call) held ≡ come.fresh)
split_come s t call held come =
    let n : ℕ = stopped_count s call in
    let size : length come.back ≡ n = memories_long s (flat_map (queued_on s) (stops s call)) come.back come.queued in (
      ap (λ hs. take n hs) come.ordered ∙ take_at come.back come.fresh n size,
      ap (λ hs. drop n hs) come.ordered ∙ drop_at come.back come.fresh n size,
    )

pub range_below : (k n m : ℕ) → m < k → occurrences m (range_with_len k n) ≡ 0
range_below k zero m below = refl
range_below k (suc n) m below =
    cond-false (k == m) (occurrences m (range_with_len (k + 1) n) + 1) (occurrences m (range_with_len (k + 1) n)) (ne_eqb k m (λ same. omega (arith, below, same)))
    ∙ range_below (k + 1) n m (omega (arith, below))

pub range_within : (k n m : ℕ) → k ≤ m → m < k + n → occurrences m (range_with_len k n) ≡ 1
range_within k zero m from below = absurd (omega (arith, from, below))
range_within k (suc n) m from below = elim (cases_Bool (k == m)) as (λ _. occurrences m (range_with_len k (suc n)) ≡ 1) [
  | inl is ↦
      cond-true (k == m) (occurrences m (range_with_len (k + 1) n) + 1) (occurrences m (range_with_len (k + 1) n)) is
      ∙ ap (λ j. j + 1) (range_below (k + 1) n m (omega (arith, eqb-true k m is)))
  | inr not ↦
      cond-false (k == m) (occurrences m (range_with_len (k + 1) n) + 1) (occurrences m (range_with_len (k + 1) n)) not
      ∙ range_within (k + 1) n m (omega (arith, from, eqb-false k m not)) (omega (arith, below))
]
