-- What a plain queue keeps stays as it is posted to, taken from, finished and collected.
use Rattle.std.proofs.Common.{◌≡◌, ℕ, suc, ◌+◌, ◌^◌, ◌≤◌, ◌<◌, List, [], ◌∷◌, ◌++◌, length, sum_by, All, Contains, refl, ap, subst, not, ◌==◌, arith}
use Rattle.std.specs.List.{range_with_len}
use Rattle.std.specs.Result.{result_err, result_unwrap_or}
use Rattle.vm_chain.specs.Chain.{WalkedChain}
use Rattle.vm_chain.specs.Walk.{walk_of}
use Rattle.std.proofs.lemmas.List.{map-append, length_push}
use Rattle.std.proofs.lemmas.List.Elements.{All-nil, All-head, All-tail, All-push, All-filter}
use Rattle.std.proofs.lemmas.List.Sums.{sum_by-cons, sum_by_push}
use Rattle.std.proofs.lemmas.List.FromFn.{length-range_with_len}
use Rattle.vm_link.specs.declared.chains.DoneChain.{DoneChain}
use Rattle.vm_link.specs.declared.chains.OutChain.{OutChain}
use Rattle.vm_link.specs.declared.parcel.Finished.{Finished}
use Rattle.vm_link.specs.declared.parcel.Parcel.{Parcel}
use Rattle.vm_link.specs.declared.parcel.Taken.{Taken}
use Rattle.vm_link.specs.Parcel.{IsPostable, homes_of}
use Rattle.vm_mem.specs.Lists.{occurrences}
use Rattle.vm_mem.proofs.OccurrenceLemmas.{occurrences-append, occurrences-one}
use Rattle.vm_link.specs.PlainQueue.{IsSound}
use Rattle.vm_link.specs.Queue.{Queue, empty_queue, free_count, used_count, out_heads, done_heads, heads_of, posted, rest_of, TakesFirst, finished, count_at}
use Rattle.vm_link.proofs.HeadLemmas.{occurs, once}
use Rattle.vm_link.proofs.OutLemmas.{length-without, occurrences-moved, counts-without, some_at, length-le-sum}

-- how often a head stands among the free ones and those of the chains
three_counts : (head : ℕ) (free : List ℕ) (q : Queue)
    → occurrences head (free ++ heads_of q) ≡ occurrences head free + (occurrences head (out_heads q) + occurrences head (done_heads q))
three_counts head free q =
    grind (arith, occurrences-append head free (heads_of q), occurrences-append head (out_heads q) (done_heads q))

pub empty_sound : (size : ℕ) (free : List ℕ) → size < 2 ^ 16 → free ≡ range_with_len 0 size → IsSound free (empty_queue size)
empty_sound size free small all = record {
  small = small;
  fits = omega arith;
  whole = rw (all, length-range_with_len) (omega arith);
  apart = λ head. rw (three_counts head free (empty_queue size), all) (omega (arith, once head 0 size));
  postable = All-nil IsPostable;
  some_out = All-nil (λ (c : OutChain). 1 ≤ c.count);
  some_done = All-nil (λ (d : DoneChain). 1 ≤ d.count);
}

-- each parcel that waits has a descriptor
waiting_few : (waiting : List Parcel) → All IsPostable waiting → length waiting ≤ sum_by (λ p. length p.table) waiting
waiting_few [] postable = omega arith
waiting_few (p ∷ ps) postable =
    let here = All-head IsPostable p ps postable in
    let rest = waiting_few ps (All-tail IsPostable p ps postable) in
    let sums = sum_by-cons (λ (p : Parcel). length p.table) p ps in
    omega (arith, here.0, rest, sums)

-- each of the three lists is no longer than the descriptors that its chains have
pub list_lengths : (free : List ℕ) (q : Queue) → IsSound free q → length q.waiting + length q.out + length q.done ≤ used_count q
list_lengths free q sound =
    let waiting = waiting_few q.waiting sound.postable in
    let out = length-le-sum (λ (c : OutChain). c.count) q.out sound.some_out in
    let done = length-le-sum (λ (d : DoneChain). d.count) q.done sound.some_done in
    omega (arith, waiting, out, done)

pub posted_sound : (free : List ℕ) (q : Queue) (p : Parcel) → IsSound free q → IsPostable p → length p.table ≤ free_count q → IsSound free (posted q p)
posted_sound free q p sound postable room =
    let sums = sum_by_push (λ (p : Parcel). length p.table) q.waiting p in
    record {
      small = sound.small;
      fits = omega (arith, sums, sound.fits, room);
      whole = sound.whole;
      apart = sound.apart;
      postable = All-push IsPostable q.waiting p sound.postable postable;
      some_out = sound.some_out;
      some_done = sound.some_done;
    }

-- the head that lies on top of the stack of free ones names no chain
pub fresh_head : (free : List ℕ) (q : Queue) (head : ℕ) → IsSound (free ++ head ∷ []) q → ¬ Contains (heads_of q) head
fresh_head free q head sound there =
    let some : 1 ≤ occurrences head (heads_of q) = occurs head (heads_of q) there in
    let both = occurrences-append head (free ++ head ∷ []) (heads_of q) in
    let top = occurrences-append head free (head ∷ []) in
    let apart = sound.apart head in
    omega (arith, some, both, top, occurrences-one head, apart)

-- where a parcel waits a head is free
pub some_head_free : (free : List ℕ) (q : Queue) → IsSound free q → 1 ≤ length q.waiting → 1 ≤ length free
some_head_free free q sound waits =
    let lengths = list_lengths free q sound in
    omega (arith, lengths, waits, sound.fits, sound.whole)

pub taken_sound : (free : List ℕ) (q : Queue) (head : ℕ) (p : Parcel) (ps : List Parcel) → IsSound (free ++ head ∷ []) q → q.waiting ≡ p ∷ ps
    → IsSound free (record q { waiting = ps; out = q.out ++ record { head = head; count = length p.table } ∷ [] })
taken_sound free q head p ps sound first =
    let chain : OutChain = record { head = head; count = length p.table } in
    let new : Queue = record q { waiting = ps; out = q.out ++ chain ∷ [] } in
    let waiting : sum_by (λ (p : Parcel). length p.table) q.waiting ≡ length p.table + sum_by (λ (p : Parcel). length p.table) ps =
    rw first (sum_by-cons (λ (p : Parcel). length p.table) p ps) in
    let out = sum_by_push (λ (c : OutChain). c.count) q.out chain in
    let postable : All IsPostable (p ∷ ps) = subst (All IsPostable) first sound.postable in
    let whole = sound.whole in
    let free_more = length_push free head in
    let out_more = length_push q.out chain in
    record {
      small = sound.small;
      fits = omega (arith, waiting, out, sound.fits);
      whole = omega (arith, whole, free_more, out_more);
      apart = λ h.
          let before = three_counts h (free ++ head ∷ []) q in
          let after = three_counts h free new in
          let top = occurrences-append h free (head ∷ []) in
          let moved : occurrences h (out_heads new) ≡ occurrences h (out_heads q) + occurrences h (head ∷ []) =
          rw (map-append (λ (c : OutChain). c.head) q.out (chain ∷ [])) (occurrences-append h (out_heads q) (head ∷ [])) in
          let apart = sound.apart h in
          omega (arith, before, after, top, moved, apart);
      postable = All-tail IsPostable p ps postable;
      some_out = All-push (λ (c : OutChain). 1 ≤ c.count) q.out chain sound.some_out (All-head IsPostable p ps postable).0;
      some_done = sound.some_done;
    }

-- what was taken is what waited first, under a head that no chain has
pub takes_first : (free : List ℕ) (q now new : Queue) (before after : WalkedChain) (taken : Taken) (ps : List Parcel)
    → q ≡ now → IsSound (free ++ taken.head ∷ []) q → q.waiting ≡ taken.parcel ∷ ps
    → new ≡ record q { waiting = ps; out = q.out ++ record { head = taken.head; count = length taken.parcel.table } ∷ [] }
    → taken.fault ≡ result_err (walk_of taken.parcel.table 0 before.limit (homes_of taken.parcel))
    → after ≡ record before { descs = result_unwrap_or (walk_of taken.parcel.table 0 before.limit (homes_of taken.parcel)) [] }
    → TakesFirst now before taken new after
takes_first free q now new before after taken ps same sound first made fault chain =
    let rest : rest_of q.waiting ≡ ps = ap rest_of first in
    let here : TakesFirst q before taken new after = record {
      first = rw rest first;
      fresh = fresh_head free q taken.head sound;
      fault = fault;
      chain = chain;
      queue = rw rest made;
    } in
    subst (λ now. TakesFirst now before taken new after) same here

pub finished_sound : (free : List ℕ) (q : Queue) (done : Finished) → IsSound free q → Contains (out_heads q) done.head → IsSound free (finished q done)
finished_sound free q done sound there =
    let head = done.head in
    let chain : DoneChain = record { finished = done; count = count_at head q.out } in
    let some : 1 ≤ occurrences head (out_heads q) = occurs head (out_heads q) there in
    let one : occurrences head (out_heads q) ≡ 1 =
    let all = three_counts head free q in let apart = sound.apart head in omega (arith, some, all, apart) in
    let counts = counts-without head q.out one in
    let sums = sum_by_push (λ (d : DoneChain). d.count) q.done chain in
    let fewer = length-without head q.out in
    let more = length_push q.done chain in
    let whole = sound.whole in
    record {
      small = sound.small;
      fits = omega (arith, counts, sums, sound.fits);
      whole = omega (arith, whole, fewer, more, one);
      apart = λ h.
          let before = three_counts h free q in
          let after = three_counts h free (finished q done) in
          let left = occurrences-moved h head q.out one in
          let moved : occurrences h (done_heads (finished q done)) ≡ occurrences h (done_heads q) + occurrences h (head ∷ []) =
          rw (map-append (λ (d : DoneChain). d.finished.head) q.done (chain ∷ [])) (occurrences-append h (done_heads q) (head ∷ [])) in
          let apart = sound.apart h in
          omega (arith, before, after, left, moved, apart);
      postable = sound.postable;
      some_out = All-filter (λ (c : OutChain). not (c.head == head)) (λ (c : OutChain). 1 ≤ c.count) q.out sound.some_out;
      some_done = All-push (λ (d : DoneChain). 1 ≤ d.count) q.done chain sound.some_done (some_at head q.out some sound.some_out);
    }

pub collected_sound : (free : List ℕ) (q : Queue) (d : DoneChain) (ds : List DoneChain) → IsSound free q → q.done ≡ d ∷ ds
    → IsSound (free ++ d.finished.head ∷ []) (record q { done = ds })
collected_sound free q d ds sound first =
    let new : Queue = record q { done = ds } in
    let head = d.finished.head in
    let sums : sum_by (λ (d : DoneChain). d.count) q.done ≡ d.count + sum_by (λ (d : DoneChain). d.count) ds =
    rw first (sum_by-cons (λ (d : DoneChain). d.count) d ds) in
    let some : All (λ (d : DoneChain). 1 ≤ d.count) (d ∷ ds) = subst (All (λ (d : DoneChain). 1 ≤ d.count)) first sound.some_done in
    let whole = sound.whole in
    let free_more = length_push free head in
    let fewer : length q.done ≡ suc (length ds) = rw first refl in
    record {
      small = sound.small;
      fits = omega (arith, sums, sound.fits);
      whole = omega (arith, whole, free_more, fewer);
      apart = λ h.
          let before = three_counts h free q in
          let after = three_counts h (free ++ head ∷ []) new in
          let top = occurrences-append h free (head ∷ []) in
          let moved : occurrences h (done_heads q) ≡ occurrences h (head ∷ []) + occurrences h (done_heads new) =
          rw first (occurrences-append h (head ∷ []) (done_heads new)) in
          let apart = sound.apart h in
          omega (arith, before, after, top, moved, apart);
      postable = sound.postable;
      some_out = sound.some_out;
      some_done = All-tail (λ (d : DoneChain). 1 ≤ d.count) d ds some;
    }
