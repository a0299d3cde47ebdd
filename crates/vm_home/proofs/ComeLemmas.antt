-- The calls that stop queues: what comes with their replies is at home afterwards.
use Rattle.std.proofs.Common.{◌≡◌, inr, ℕ, zero, suc, ◌<◌, ◌+◌, ◌-◌, Bool, true, false, not, ◌||◌, ◌==◌, List, [], ◌∷◌, ◌++◌, length, get_or, map, replicate, All, Option, Some, None, refl, sym, ap, ◌∙◌, subst, arith, unwrap_or, take, drop, if◌then◌else◌, get_or-set_same, length-append}
use Rattle.std.specs.List.{list_any, flat_map, range_with_len}
use Rattle.std.proofs.lemmas.Bool.{false≢true, true≢false, ltb-true, not-false}
use Rattle.std.proofs.lemmas.List.{append-nil, take_at, drop_at, get_or_append_left, get_or-append-add, length-map, length-replicate}
use Rattle.std.proofs.lemmas.List.Elements.{All-head}
use Rattle.std.proofs.lemmas.List.Folds.{list_any-append, list_any_at}
use Rattle.v4l_const.specs.declared.errno.Errno.TheVariants.{Enomem}
use Rattle.v4l_const.specs.Model.{queues as types_of}
use Rattle.v4l_format.specs.Fmt.{picture_size}
use Rattle.v4l_rules.specs.Queues.{place_in, has_type}
use Rattle.vm_frame.specs.declared.mem.Held.{Held}
use Rattle.vm_frame.specs.declared.mem.Mem.{Mem}
use Rattle.vm_local.specs.declared.bound.MemoryKind.{MemoryKind}
use Rattle.vm_local.specs.declared.bound.MemoryKind.TheVariants.{Mmap, UserPtr}
use Rattle.vm_local.specs.declared.buffer.Buffer.{Buffer}
use Rattle.vm_local.specs.declared.buffer.BufferState.TheVariants.{Queued, Owed}
use Rattle.vm_local.specs.declared.call.Call.{Call}
use Rattle.vm_local.specs.declared.call.Call.TheVariants.{CloseHandle, ReqBufs, StreamOff}
use Rattle.vm_local.specs.declared.entry.Entry.TheVariants.{Called}
use Rattle.vm_local.specs.declared.reply.Reply.{Reply}
use Rattle.vm_local.specs.State.{QueueState, LocalState, opening_queue, queue_of, no_buffer, buffer_of}
use Rattle.vm_local.specs.Kinds.{is_idle}
use Rattle.vm_local.specs.Queue.{is_user_ptr, made_idle, stopped_queue, stopped, is_owed, memory_kind, fresh_buffer, fresh_buffers, fresh_memories, granted, with_buffers}
use Rattle.vm_local.specs.Steps.{number_of}
use Rattle.vm_local.specs.Calls.{closed, reqbufs_row, streamoff_row}
use Rattle.vm_local.specs.Log.{row_for, called}
use Rattle.vm_local.proofs.CountLemmas.{within_of}
use Rattle.vm_local.proofs.StepLemmas.{passes}
use Rattle.vm_home.specs.Home.{home_of, IsMemory, IsThere, AreInPlace}
use Rattle.vm_home.specs.Moves.{is_refusal, Place, places_on, queued_on, stops, is_stopping, made_on, made_by, AreMemories, ComeBack, put_back, stopped_count, home_with}
use Rattle.vm_home.specs.Reached.{IsReached}
use Rattle.vm_home.proofs.PlaceLemmas.{any_at, buffer_at, HasAt, IsLess, Relates, has_less, busy_less}
use Rattle.vm_home.proofs.RowLemmas.{IsSound, type_at, has_queue, stopped_relates}
use Rattle.vm_home.proofs.OwnLemmas.{fresh_memory, fresh_idle}
use Rattle.vm_home.proofs.FactLemmas.{Facts, facts_of, reached_after, closed_relates}
use Rattle.vm_home.proofs.MoveLemmas.{Went, went}
use Rattle.vm_home.proofs.DeviceLemmas.{kept_made}
use Rattle.vm_home.proofs.StopLemmas.{number_at, is_among, memories_long, put_long, with_back, StopsAt, StopsTo, HasNoOther, StopsOne, stopped_home, queued_among, among_queued, not_owed, stops_one}

idle_in : (bs : List Buffer) (i : ℕ) → is_idle (get_or (map made_idle bs) i no_buffer).state ≡ true
idle_in [] i = refl
idle_in (b ∷ bs) zero = refl
idle_in (b ∷ bs) (suc i) = idle_in bs i

-- a queue that was put at the place of a type that the model has
type_within : (s : LocalState) (u : ℕ) → IsSound s → not (has_type s.model u) ≡ false → place_in (types_of s.model) u < length s.queues
type_within s u sound has = omega (arith, sound.long, ltb-true (place_in (types_of s.model) u) (length (types_of s.model)) (not-false (has_type s.model u) has))

-- ---- nothing is made

-- no memories come that weren't queued
none_fresh : (s : LocalState) (fresh : List Held) → AreMemories s [] fresh → fresh ≡ []
none_fresh s [] is = refl
none_fresh s (h ∷ hs) is = absurd is

bare_home : (s t : LocalState) (ps : List Place) (back fresh : List Held) (home : List (Option Mem)) → Facts s → Facts t → StopsTo s t ps → t.memories ≡ s.memories →
    AreMemories s ps back → fresh ≡ [] → AreInPlace s None home → AreInPlace t None (with_back s back fresh home)
bare_home s t ps back fresh home f g stop same are none h =
    let put : List (Option Mem) = put_back s back home in
    let size : length t.memories ≡ length s.memories = ap (λ ms. length ms) same in
    let nothing : List (Option Mem) = [] in
    let long : length (with_back s back fresh home) ≡ length t.memories =
    ap (λ hs. length (with_back s back hs home)) none ∙ omega (arith, length-append put nothing, put_long s back home, h.places, size) in
    stopped_home s t ps back fresh home f stop are long (λ m past kept. absurd (omega (arith, past, size, kept_made t g.sound m kept))) h

-- ---- streamoff

pub off_one : (s : LocalState) (u : ℕ) → IsSound s → not (has_type s.model u) ≡ false → StopsOne s (stopped s u) u (stopped_queue (queue_of s u))
off_one s u sound has =
    let q : QueueState = queue_of s u in
    record {
      within = type_within s u sound has;
      queues = refl;
      idle = idle_in q.buffers;
      old = λ i m made is. (sym ((stopped_relates q).buffers i).memory ∙ is, refl);
      opened = refl;
      bound = refl;
      bytes = λ m made. refl;
    }

-- ---- close

pub closed_old : (s : LocalState) → HasNoOther s (closed s)
closed_old s =
    let vs : List QueueState = (closed s).queues in
    let less : Relates IsLess s.queues vs = closed_relates s.queues in
    record {
      less = λ p i m made has. (has_less s.queues vs less p i m has, (less p).kind, busy_less (buffer_at s.queues p i) (buffer_at vs p i) ((less p).buffers i));
      opened = λ never. absurd (false≢true never);
      bound = refl;
    }

close_stops : (s : LocalState) → Facts s → All (λ t. is_owed s t ≡ false) (types_of s.model) → StopsTo s (closed s) (flat_map (queued_on s) (types_of s.model))
close_stops s f settled =
    let t : LocalState = closed s in
    let types : List ℕ = types_of s.model in
    let ps : List Place = flat_map (queued_on s) types in
    let all : (m : ℕ) → is_among s ps m ≡ list_any (λ u. is_among s (queued_on s u) m) types = λ m. any_flat (λ p. number_at s p == m) (queued_on s) types in
    -- the type of a queue with a buffer that isn't Idle, and its place
    let type_of : (p i : ℕ) → is_idle (buffer_at s.queues p i).state ≡ false → (k : ℕ) × (k < length types) × (place_in types (get_or types k 0) ≡ p) = λ p i busy.
    let within : p < length types = omega (arith, f.sound.long, has_queue s.queues p i (within_of (get_or s.queues p opening_queue).buffers i busy)) in
    (p, within, type_at s.model p within) in
    let at : (p : ℕ) → StopsAt s t ps p = λ p. record {
      idle = λ i. closed_idle s.queues p i;
      settled = λ i owed.
          let w : _ = type_of p i (ap is_idle owed) in
          let P : ℕ → Type 0 = λ k. (buffer_at s.queues k i).state ≡ Owed in
          not_owed s (get_or types w.0 0) i f.sound (settled w.0 0 w.1) (subst P (sym w.2) owed);
      listed = λ i m queued has.
          let w : _ = type_of p i (ap is_idle queued) in
          let P : ℕ → Type 0 = λ k. (buffer_at s.queues k i).state ≡ Queued in
          let Q : ℕ → Type 0 = λ k. HasAt s.queues k i m in
          let here : is_among s (queued_on s (get_or types w.0 0)) m ≡ true = queued_among s (get_or types w.0 0) i m f.sound (subst P (sym w.2) queued) (subst Q (sym w.2) has) in
          all m ∙ list_any_at (λ u. is_among s (queued_on s u) m) types w.0 0 w.1 here;
    } in
    record {
      queues = λ p. inr (at p);
      among = λ m among.
          let k : (k : ℕ) × (is_among s (queued_on s (get_or types k 0)) m ≡ true) = any_at (λ u. is_among s (queued_on s u) m) 0 types (sym (all m) ∙ among) in
          let u : ℕ = get_or types k.0 0 in
          let w : _ = among_queued s u m f k.1 in
          (place_in types u, w.0, at (place_in types u), w.1, w.2);
      old = closed_old s;
      bytes = λ m made. refl;
    }
  where
    any_flat : {A B : Type 0} (test : B → Bool) (g : A → List B) (xs : List A) → list_any test (flat_map g xs) ≡ list_any (λ x. list_any test (g x)) xs
    any_flat test g [] = refl
    any_flat test g (x ∷ xs) = list_any-append test (g x) (flat_map g xs) ∙ ap (λ b. list_any test (g x) || b) (any_flat test g xs)

    closed_idle : (qs : List QueueState) (p i : ℕ) → is_idle (buffer_at (map stopped_queue qs) p i).state ≡ true
    closed_idle [] p i = refl
    closed_idle (q ∷ qs) zero i = idle_in q.buffers i
    closed_idle (q ∷ qs) (suc p) i = closed_idle qs p i

-- ---- reqbufs

-- a fresh buffer of the device's has the next number
fresh_has : (size first n i : ℕ) → i < n → (get_or (fresh_buffers Mmap size first n) i no_buffer).memory ≡ Some (first + i)
fresh_has size first zero i within = absurd (omega (arith, within))
fresh_has size first (suc n) zero within = ap (λ k. Some k) (omega arith)
fresh_has size first (suc n) (suc i) within = fresh_has size (first + 1) n i (omega (arith, within)) ∙ ap (λ k. Some k) (omega arith)

-- the memories of a queue's buffers from the k-th on, in the places behind
fresh_there : (t : LocalState) (u k n : ℕ) (fresh : List Held) → AreMemories t (places_on u (range_with_len k n)) fresh → (j : ℕ) → j < n →
    IsThere t (number_of (buffer_of (queue_of t u) (k + j))) (get_or (map (λ (h : Held). Some h.mem) fresh) j None)
fresh_there t u k zero fresh are j within = absurd (omega (arith, within))
fresh_there t u k (suc n) [] are j within = absurd are
fresh_there t u k (suc n) (h ∷ hs) are zero within =
    let P : ℕ → Type 0 = λ i. IsMemory t (number_of (buffer_of (queue_of t u) i)) h.mem in
    subst P (omega arith) are.2
fresh_there t u k (suc n) (h ∷ hs) are (suc j) within =
    let P : ℕ → Type 0 = λ i. IsThere t (number_of (buffer_of (queue_of t u) i)) (get_or (map (λ (h : Held). Some h.mem) hs) j None) in
    subst P (omega arith) (fresh_there t u (k + 1) n hs are.3 j (omega (arith, within)))

length_range : (k n : ℕ) → length (range_with_len k n) ≡ n
length_range k zero = refl
length_range k (suc n) = omega (arith, length_range (k + 1) n)

length_fresh : (size first n : ℕ) → length (fresh_buffers Mmap size first n) ≡ n
length_fresh size first n = length-map (range_with_len first n) (λ m. fresh_buffer size (Some m)) ∙ length_range first n

-- Memories of fresh buffers are as many as were made, and each is in the place of its number.
pub record AreFresh (t : LocalState) (first more : ℕ) (fresh : List Held) : Type 0 where
  pub long : length fresh ≡ more
  pub there : (j : ℕ) → j < more → IsThere t (first + j) (get_or (map (λ (h : Held). Some h.mem) fresh) j None)

fresh_by : (t : LocalState) (u first size n : ℕ) (kind : MemoryKind) (fresh : List Held) → (queue_of t u).buffers ≡ fresh_buffers kind size first n →
    AreMemories t (if is_user_ptr kind then [] else places_on u (range_with_len 0 (length (fresh_buffers kind size first n)))) fresh →
    AreFresh t first (length (fresh_memories kind size n)) fresh
fresh_by t u first size n Mmap fresh buffers are =
    let zeros : List ℕ = replicate size 0 in
    let made : length (fresh_memories Mmap size n) ≡ n = length-replicate n zeros in
    let those : AreMemories t (places_on u (range_with_len 0 n)) fresh =
    subst (λ k. AreMemories t (places_on u (range_with_len 0 k)) fresh) (length_fresh size first n) are in
    record {
      long = memories_long t (places_on u (range_with_len 0 n)) fresh those
          ∙ (length-map (range_with_len 0 n) (λ i. record { queue = u; index = i }) ∙ (length_range 0 n ∙ sym made));
      there = λ j within.
          let inside : j < n = omega (arith, within, made) in
          let number : number_of (buffer_of (queue_of t u) (0 + j)) ≡ first + j =
          ap (λ i. number_of (buffer_of (queue_of t u) i)) (omega arith)
          ∙ (ap (λ bs. number_of (get_or bs j no_buffer)) buffers ∙ ap (λ o. unwrap_or o 0) (fresh_has size first n j inside)) in
          let P : ℕ → Type 0 = λ k. IsThere t k (get_or (map (λ (h : Held). Some h.mem) fresh) j None) in
          subst P number (fresh_there t u 0 n fresh those j inside);
    }
fresh_by t u first size n UserPtr fresh buffers are = record {
  long = ap (λ hs. length hs) (none_fresh t fresh are);
  there = λ j within. absurd (omega (arith, within));
}

abbrev pub renewed : LocalState → ℕ → ℕ → ℕ → QueueState
renewed s u m n = record (stopped_queue (queue_of s u)) {
  memory = memory_kind m;
  buffers = fresh_buffers (memory_kind m) (picture_size (queue_of s u).format) (length s.memories) (granted n);
}

pub reqbufs_one : (s : LocalState) (u m n : ℕ) → IsSound s → not (has_type s.model u) ≡ false → StopsOne s (with_buffers s u (memory_kind m) (granted n)) u (renewed s u m n)
unfolding with_buffers
reqbufs_one s u m n sound has =
    let kind : MemoryKind = memory_kind m in
    let size : ℕ = picture_size (queue_of s u).format in
    let first : ℕ = length s.memories in
    record {
      within = type_within s u sound has;
      queues = refl;
      idle = fresh_idle kind size first (granted n);
      old = λ i k made is. absurd (omega (arith, made, (fresh_memory kind size first (granted n) i k is).0));
      opened = refl;
      bound = refl;
      bytes = λ k made. get_or_append_left s.memories (fresh_memories kind size (granted n)) [] k made;
    }

reqbufs_home : (s : LocalState) (u m n : ℕ) (back fresh : List Held) (home : List (Option Mem)) → Facts s → Facts (with_buffers s u (memory_kind m) (granted n)) →
    not (has_type s.model u) ≡ false → is_owed s u ≡ false → AreMemories s (queued_on s u ++ []) back →
    AreMemories (with_buffers s u (memory_kind m) (granted n)) (made_on (with_buffers s u (memory_kind m) (granted n)) u) fresh → AreInPlace s None home →
    AreInPlace (with_buffers s u (memory_kind m) (granted n)) None (with_back s back fresh home)
unfolding with_buffers
reqbufs_home s u m n back fresh home f g has settled are made h =
    let kind : MemoryKind = memory_kind m in
    let size : ℕ = picture_size (queue_of s u).format in
    let first : ℕ = length s.memories in
    let k : ℕ = granted n in
    let t : LocalState = with_buffers s u kind k in
    let v : QueueState = renewed s u m n in
    let here : queue_of t u ≡ v = get_or-set_same s.queues (place_in (types_of s.model) u) v opening_queue (type_within s u f.sound has) in
    let P : QueueState → Type 0 = λ q. AreMemories t (if is_user_ptr q.memory then [] else places_on u (range_with_len 0 (length q.buffers))) fresh in
    let new : AreFresh t first (length (fresh_memories kind size k)) fresh = fresh_by t u first size k kind fresh (ap (λ (q : QueueState). q.buffers) here) (subst P here made) in
    let put : List (Option Mem) = put_back s back home in
    let some : List (Option Mem) = map (λ (x : Held). Some x.mem) fresh in
    let size_put : length put ≡ first = put_long s back home ∙ h.places in
    let size_new : length some ≡ length (fresh_memories kind size k) = length-map fresh (λ (x : Held). Some x.mem) ∙ new.long in
    let all : length t.memories ≡ first + length (fresh_memories kind size k) = length-append s.memories (fresh_memories kind size k) in
    let long : length (put ++ some) ≡ length t.memories = omega (arith, length-append put some, size_put, size_new, all) in
    stopped_home s t (queued_on s u ++ []) back fresh home f (stops_one s t u (renewed s u m n) f (reqbufs_one s u m n f.sound has) settled) are long (λ j past kept.
    let within : j < length t.memories = kept_made t g.sound j kept in
    let i : ℕ = j - first in
    let is : first + i ≡ j = omega (arith, past) in
    let there : IsThere t (first + i) (get_or some i None) = new.there i (omega (arith, within, all, is)) in
    let at : home_of (put ++ some) (first + i) ≡ get_or some i None = ap (λ x. home_of (put ++ some) (x + i)) (sym size_put) ∙ get_or-append-add put some i None in
    let Q : Option Mem → Type 0 = λ o. IsThere t (first + i) o in
    let R : ℕ → Type 0 = λ x. IsThere t x (home_of (put ++ some) x) in
    subst R is (subst Q (sym at) there)) h

-- ---- all three

stop_back : (s t : LocalState) (line : ℕ) (call : Call) (reply : Reply) (held : List Held) (home : List (Option Mem)) → IsReached s → is_stopping call ≡ true →
    is_refusal reply ≡ false → called s line call reply ≡ Some t → (come : ComeBack s t call held) → AreInPlace s None home →
    AreInPlace t None (with_back s come.back come.fresh home)
unfolding streamoff_row reqbufs_row
stop_back s t line CloseHandle reply held home reached stopping answers leads come h =
    let w : Went (row_for s line CloseHandle reply) reply t = went s line CloseHandle reply t answers leads in
    let f : Facts s = facts_of s reached in
    let g : Facts t = facts_of t (reached_after s t (Called line CloseHandle reply) reached leads) in
    let stop : StopsTo s t (flat_map (queued_on s) (types_of s.model)) =
    subst (λ x. StopsTo s x (flat_map (queued_on s) (types_of s.model))) (sym w.next) (close_stops s f come.settled) in
    bare_home s t _ come.back come.fresh home f g stop (ap (λ (x : LocalState). x.memories) w.next) come.queued (none_fresh t come.fresh come.made) h
stop_back s t line (StreamOff u) reply held home reached stopping answers leads come h =
    let w : Went (row_for s line (StreamOff u) reply) reply t = went s line (StreamOff u) reply t answers leads in
    let f : Facts s = facts_of s reached in
    let g : Facts t = facts_of t (reached_after s t (Called line (StreamOff u) reply) reached leads) in
    let so : (k : ℕ) → (get_or (streamoff_row s u).refusals k (false, Enomem)).0 ≡ false = passes (streamoff_row s u).refusals w.pass in
    let settled : is_owed s u ≡ false = All-head (λ x. is_owed s x ≡ false) u [] come.settled in
    let stop : StopsTo s t (queued_on s u ++ []) = subst (λ x. StopsTo s x (queued_on s u ++ [])) (sym w.next) (stops_one s (stopped s u) u (stopped_queue (queue_of s u)) f (off_one s u f.sound (so 1)) settled) in
    bare_home s t _ come.back come.fresh home f g stop (ap (λ (x : LocalState). x.memories) w.next) come.queued (none_fresh t come.fresh come.made) h
stop_back s t line (ReqBufs u m n) reply held home reached stopping answers leads come h =
    let w : Went (row_for s line (ReqBufs u m n) reply) reply t = went s line (ReqBufs u m n) reply t answers leads in
    let f : Facts s = facts_of s reached in
    let g : Facts t = facts_of t (reached_after s t (Called line (ReqBufs u m n) reply) reached leads) in
    let so : (k : ℕ) → (get_or (reqbufs_row s u m n).refusals k (false, Enomem)).0 ≡ false = passes (reqbufs_row s u m n).refusals w.pass in
    let settled : is_owed s u ≡ false = All-head (λ x. is_owed s x ≡ false) u [] come.settled in
    let x : LocalState = with_buffers s u (memory_kind m) (granted n) in
    let made : AreMemories x (made_on x u) come.fresh = subst (λ y. AreMemories y (made_on y u) come.fresh) w.next come.made in
    subst (λ y. AreInPlace y None (with_back s come.back come.fresh home)) (sym w.next)
    (reqbufs_home s u m n come.back come.fresh home f (subst Facts w.next g) (so 1) settled come.queued made h)
stop_back s t line call reply held home reached stopping answers leads come h = absurd (false≢true stopping)

-- what came is split where the memories that were queued end
pub come_with : (s t : LocalState) (call : Call) (held : List Held) (home : List (Option Mem)) → (come : ComeBack s t call held) → home_with s call held home ≡ with_back s come.back come.fresh home
come_with s t call held home come =
    let n : ℕ = stopped_count s call in
    let size : length come.back ≡ n = memories_long s (flat_map (queued_on s) (stops s call)) come.back come.queued in
    let back : take n held ≡ come.back = ap (λ hs. take n hs) come.ordered ∙ take_at come.back come.fresh n size in
    let fresh : drop n held ≡ come.fresh = ap (λ hs. drop n hs) come.ordered ∙ drop_at come.back come.fresh n size in
    ap (λ hs. with_back s hs (drop n held) home) back ∙ ap (λ hs. with_back s come.back hs home) fresh

pub stop_home : (s t : LocalState) (line : ℕ) (call : Call) (reply : Reply) (held : List Held) (home : List (Option Mem)) → IsReached s → is_stopping call ≡ true →
    is_refusal reply ≡ false → called s line call reply ≡ Some t → ComeBack s t call held → AreInPlace s None home → AreInPlace t None (home_with s call held home)
stop_home s t line call reply held home reached stopping answers leads come h =
    subst (λ hs. AreInPlace t None hs) (sym (come_with s t call held home come)) (stop_back s t line call reply held home reached stopping answers leads come h)

-- no memory comes with the reply to another call
pub none_come : (s t : LocalState) (call : Call) (held : List Held) (home : List (Option Mem)) → is_stopping call ≡ false → ComeBack s t call held → (held ≡ []) × (home_with s call held home ≡ home)
none_come s t call held home other come =
    let back : come.back ≡ [] = none_fresh s come.back (subst (λ ps. AreMemories s ps come.back) (none_queued s call other) come.queued) in
    let fresh : come.fresh ≡ [] = none_fresh t come.fresh (subst (λ ps. AreMemories t ps come.fresh) (none_made t call other) come.made) in (
      come.ordered ∙ (ap (λ hs. hs ++ come.fresh) back ∙ fresh),
      come_with s t call held home come ∙ (ap (λ hs. with_back s hs come.fresh home) back ∙ (ap (λ hs. with_back s [] hs home) fresh ∙ append-nil home)),
    )
  where
    none_queued : (s : LocalState) (call : Call) → is_stopping call ≡ false → flat_map (queued_on s) (stops s call) ≡ []
    none_queued s CloseHandle other = absurd (true≢false other)
    none_queued s (ReqBufs t m n) other = absurd (true≢false other)
    none_queued s (StreamOff t) other = absurd (true≢false other)
    none_queued s call other = refl

    none_made : (t : LocalState) (call : Call) → is_stopping call ≡ false → made_by t call ≡ []
    none_made t (ReqBufs u m n) other = absurd (true≢false other)
    none_made t call other = refl
