-- What those who use a link need of its lists.
use Rattle.std.proofs.Common.{◌≡◌, ◌≢◌, ℕ, ◌+◌, Option, Some, List, [], ◌∷◌, ◌++◌, length, sum_by, Contains, refl, sym, subst, arith}
use Rattle.std.proofs.lemmas.List.{map-append}
use Rattle.std.proofs.lemmas.List.Elements.{Contains-push}
use Rattle.std.proofs.lemmas.List.Sums.{sum_by-cons, sum_by_push}
use Rattle.vm_chain.specs.Chain.{WalkedChain}
use Rattle.vm_link.specs.declared.chains.DoneChain.{DoneChain}
use Rattle.vm_link.specs.declared.chains.OutChain.{OutChain}
use Rattle.vm_link.specs.declared.parcel.Finished.{Finished}
use Rattle.vm_link.specs.declared.parcel.Parcel.{Parcel}
use Rattle.vm_link.specs.declared.parcel.Taken.{Taken}
use Rattle.vm_link.specs.declared.link.QueueId.{QueueId}
use Rattle.vm_link.specs.declared.link.QueueId.TheVariants.{Command, Event}
use Rattle.vm_mem.specs.Lists.{occurrences}
use Rattle.vm_mem.proofs.OccurrenceLemmas.{occurrences-append}
use Rattle.vm_link.specs.Queue.{Queue, Queues, queue_at, with_queue, used_count, out_heads, done_heads, heads_of, posted, rest_of, taken_as, TakesFirst, Takes, count_at, without, finished, collected}
use Rattle.vm_link.proofs.HeadLemmas.{absent, occurs, stands}
use Rattle.vm_link.proofs.OutLemmas.{count_at-push, without-push, occurrences-without}

-- the queue that was put in a place is there
pub queue_at_with : (q : QueueId) (queue : Queue) (queues : Queues) → queue_at q (with_queue q queue queues) ≡ queue
queue_at_with Command queue queues = refl
queue_at_with Event queue queues = refl

-- the chain that a taken parcel makes
abbrev pub out_chain : Taken → OutChain
out_chain taken = record { head = taken.head; count = length taken.parcel.table }

-- where a parcel is taken, it is the one that waited first
pub takes_some : (old : Queue) (before : WalkedChain) (answer : Option Taken) (new : Queue) (after : WalkedChain) (taken : Taken)
    → Takes old before answer new after → answer ≡ Some taken → TakesFirst old before taken new after
takes_some old before answer new after taken takes some = subst (λ (o : Option Taken). Takes old before o new after) some takes

-- what is taken is out, so it may be finished
pub taken_is_out : (old : Queue) (before : WalkedChain) (taken : Taken) (new : Queue) (after : WalkedChain)
    → TakesFirst old before taken new after → Contains (out_heads new) taken.head
taken_is_out old before taken new after takes =
    let there : Contains (out_heads (taken_as old taken)) taken.head =
    rw (map-append (λ (c : OutChain). c.head) old.out (out_chain taken ∷ [])) (Contains-push (out_heads old) taken.head) in
    subst (λ (q : Queue). Contains (out_heads q) taken.head) (sym takes.queue) there

-- a queue whose first parcel was taken and finished at once
abbrev pub served : Queue → Finished → ℕ → Queue
served q done count = record q { waiting = rest_of q.waiting; done = q.done ++ record { finished = done; count = count } ∷ [] }

pub taken_then_finished : (old : Queue) (before : WalkedChain) (taken : Taken) (new : Queue) (after : WalkedChain) (done : Finished)
    → TakesFirst old before taken new after → done.head ≡ taken.head → finished new done ≡ served old done (length taken.parcel.table)
taken_then_finished old before taken new after done takes same =
    let all = absent taken.head (heads_of old) takes.fresh in
    let both = occurrences-append taken.head (out_heads old) (done_heads old) in
    let away : occurrences taken.head (out_heads old) ≡ 0 = omega (arith, all, both) in
    let out : without done.head (old.out ++ out_chain taken ∷ []) ≡ old.out = rw same (without-push old.out (out_chain taken) away) in
    let count : count_at done.head (old.out ++ out_chain taken ∷ []) ≡ length taken.parcel.table = rw same (count_at-push old.out (out_chain taken) away) in
    rw (takes.queue, out, count) refl

-- how many descriptors are used after each call
pub used_posted : (q : Queue) (parcel : Parcel) → used_count (posted q parcel) ≡ used_count q + length parcel.table
used_posted q parcel = omega (arith, sum_by_push (λ (p : Parcel). length p.table) q.waiting parcel)

pub used_served : (q : Queue) (parcel : Parcel) (ps : List Parcel) (done : Finished)
    → q.waiting ≡ parcel ∷ ps → used_count (served q done (length parcel.table)) ≡ used_count q
used_served q parcel ps done first =
    let before : sum_by (λ (p : Parcel). length p.table) q.waiting ≡ length parcel.table + sum_by (λ (p : Parcel). length p.table) (rest_of q.waiting) =
    rw first (sum_by-cons (λ (p : Parcel). length p.table) parcel ps) in
    let chain : DoneChain = record { finished = done; count = length parcel.table } in
    omega (arith, before, sum_by_push (λ (d : DoneChain). d.count) q.done chain)

pub used_collected : (q : Queue) (d : DoneChain) (ds : List DoneChain) → q.done ≡ d ∷ ds → used_count (collected q) + d.count ≡ used_count q
used_collected q d ds first =
    let before : sum_by (λ (d : DoneChain). d.count) q.done ≡ d.count + sum_by (λ (d : DoneChain). d.count) (rest_of q.done) =
    rw first (sum_by-cons (λ (d : DoneChain). d.count) d ds) in
    omega (arith, before)

-- a chain that is out stays out while others are posted, taken and finished
pub still_out_taken : (head : ℕ) (old : Queue) (before : WalkedChain) (taken : Taken) (new : Queue) (after : WalkedChain)
    → TakesFirst old before taken new after → Contains (out_heads old) head → Contains (out_heads new) head
still_out_taken head old before taken new after takes there =
    let pushed : out_heads new ≡ out_heads old ++ taken.head ∷ [] =
    rw takes.queue (map-append (λ (c : OutChain). c.head) old.out (out_chain taken ∷ [])) in
    let some = occurs head (out_heads old) there in
    let both = occurrences-append head (out_heads old) (taken.head ∷ []) in
    stands head (out_heads new) (rw pushed (omega (arith, some, both)))

pub still_out_finished : (head : ℕ) (q : Queue) (done : Finished) → Contains (out_heads q) head → head ≢ done.head → Contains (out_heads (finished q done)) head
still_out_finished head q done there other =
    let some = occurs head (out_heads q) there in
    let kept = occurrences-without head done.head q.out other in
    stands head (out_heads (finished q done)) (omega (arith, some, kept))

-- a head that is out is none under which a parcel is taken
pub taken_apart : (head : ℕ) (old : Queue) (before : WalkedChain) (taken : Taken) (new : Queue) (after : WalkedChain)
    → TakesFirst old before taken new after → Contains (out_heads old) head → head ≢ taken.head
taken_apart head old before taken new after takes there same =
    let some = occurs head (out_heads old) there in
    let both = occurrences-append head (out_heads old) (done_heads old) in
    let all : Contains (heads_of old) head = stands head (heads_of old) (omega (arith, some, both)) in
    takes.fresh (subst (Contains (heads_of old)) same all)
