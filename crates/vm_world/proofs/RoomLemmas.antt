-- Lemmas on the room on the queue of commands: each process has one chain on it at most, of two descriptors at most.
use Rattle.std.proofs.Common.{◌≡◌, ℕ, zero, suc, ◌+◌, ◌-◌, ◌*◌, ◌≤◌, ◌<◌, ◌==◌, Bool, true, false, List, [], ◌∷◌, length, map, ap, arith, inl, inr, if◌then◌else◌}
use Rattle.std.specs.List.{All, filter, sum_by}
use Rattle.std.proofs.lemmas.Bool.{cases_eq, eq-eqb}
use Rattle.std.proofs.lemmas.List.{length-map}
use Rattle.std.proofs.lemmas.List.Elements.{All-head, All-tail, All-weaker, All-map}
use Rattle.std.proofs.lemmas.List.Sums.{sum_by-le}
use Rattle.vm_link.specs.Queue.{Queue, Queues, used_count, free_count}
use Rattle.vm_link.specs.declared.chains.DoneChain.{DoneChain}
use Rattle.vm_link.specs.declared.parcel.Parcel.{Parcel}
use Rattle.vm_wire.specs.Message.{Posting, Returning}
use Rattle.vm_script.specs.Script.{ScriptLines}
use Rattle.vm_host.specs.Host.{HostState}
use Rattle.vm_host.specs.Part.{Call, call_of, posting_of as posting_in}
use Rattle.vm_host.specs.declared.waiting.Waiting.{Waiting}
use Rattle.vm_guest.specs.Guest.{GuestState, process_at}
use Rattle.vm_guest.specs.Message.{returning_of}
use Rattle.vm_guest.specs.Process.{is_crossing}
use Rattle.vm_realm.specs.Sound.{IsQuiet, one_if}
use Rattle.vm_realm.specs.World.{WorldState}
use Rattle.vm_world.specs.Carried.{IsPosted, IsBack, IsCarried, world_of}
use Rattle.vm_world.proofs.DeviceLemmas.{short_chain}

-- ---- how many there are of each number

abbrev of_number : {A : Type 0} → (A → ℕ) → List A → ℕ → ℕ
of_number f xs n = length (filter (λ x. f x == n) xs)

-- how many have a number below this one
abbrev below : {A : Type 0} → (A → ℕ) → List A → ℕ → ℕ
below f xs zero = 0
below f xs (suc n) = below f xs n + of_number f xs n

more_flag : {A : Type 0} (b : Bool) (x : A) (xs : List A) → length xs ≤ length (if b then x ∷ xs else xs)
more_flag true x xs = omega arith
more_flag false x xs = omega arith

below_more : {A : Type 0} (f : A → ℕ) (x : A) (xs : List A) (n : ℕ) → below f xs n ≤ below f (x ∷ xs) n
below_more f x xs zero = omega arith
below_more f x xs (suc n) = omega (arith, below_more f x xs n, more_flag (f x == n) x (filter (λ y. f y == n) xs))

below_one : {A : Type 0} (f : A → ℕ) (x : A) (xs : List A) (n : ℕ) → f x < n → below f xs n + 1 ≤ below f (x ∷ xs) n
below_one f x xs zero less = absurd (omega (arith, less))
below_one f x xs (suc n) less = elim (cases_eq (f x) n) [
  | inl same ↦
      let one : of_number f (x ∷ xs) n ≡ length (x ∷ filter (λ y. f y == n) xs) = ap (λ b. length (if b then x ∷ filter (λ y. f y == n) xs else filter (λ y. f y == n) xs)) (eq-eqb (f x) n same) in
      omega (arith, below_more f x xs n, one)
  | inr other ↦ omega (arith, below_one f x xs n (omega (arith, less, other)), more_flag (f x == n) x (filter (λ y. f y == n) xs))
]

all_below : {A : Type 0} (f : A → ℕ) (n : ℕ) (xs : List A) → All (λ x. f x < n) xs → length xs ≤ below f xs n
all_below f n [] each = omega arith
all_below f n (x ∷ xs) each =
    omega (arith, all_below f n xs (All-tail (λ y. f y < n) x xs each), below_one f x xs n (All-head (λ y. f y < n) x xs each))

-- ---- one chain of each process

abbrev who_asks : Posting → ℕ
who_asks m = m.request.who

abbrev who_waits : Call → ℕ
who_waits c = c.posting.request.who

abbrev who_hears : Returning → ℕ
who_hears r = r.reply.who

one_at_most : (b : Bool) → one_if b ≤ 1
one_at_most true = omega arith
one_at_most false = omega arith

so_few : (w : WorldState) → IsQuiet w → (n : ℕ) → below who_asks w.requests n + below who_waits w.host.calls n + below who_hears w.replies n ≤ n
so_few w quiet zero = omega arith
so_few w quiet (suc n) =
    let one = quiet.one n in
    let most = one_at_most (is_crossing (process_at w.guest n).status) in
    omega (arith, so_few w quiet n, one, most)

pub few_chains : (w : WorldState) → IsQuiet w → All (λ m. who_asks m < 16) w.requests → All (λ c. who_waits c < 16) w.host.calls → All (λ r. who_hears r < 16) w.replies
    → length w.requests + length w.host.calls + length w.replies ≤ 16
few_chains w quiet asks waits hears =
    omega (arith, so_few w quiet 16, all_below who_asks 16 w.requests asks, all_below who_waits 16 w.host.calls waits, all_below who_hears 16 w.replies hears)

-- ---- their descriptors

pub used_few : (script : ScriptLines) (g : GuestState) (h : HostState) (queues : Queues) → IsCarried g h queues → IsQuiet (world_of script g h queues) → used_count queues.command ≤ 32
used_few script g h queues carried quiet =
    let q : Queue = queues.command in
    let posted : Parcel → Type 0 = λ p. length p.table ≤ 2 in
    let requests : All (λ m. who_asks m < 16) (map posting_in q.waiting) =
    All-map (λ m. who_asks m < 16) posting_in q.waiting (All-weaker (IsPosted g) (λ (p : Parcel). p.who < 16) (λ p is. is.1.within) q.waiting carried.posted) in
    let calls : All (λ c. who_waits c < 16) (map call_of h.waiting) =
    All-map (λ c. who_waits c < 16) call_of h.waiting (All-weaker (λ (w : Waiting). IsPosted g w.parcel) (λ (w : Waiting). w.parcel.who < 16) (λ w is. is.1.within) h.waiting carried.waiting) in
    let replies : All (λ r. who_hears r < 16) (map (λ (d : DoneChain). returning_of d.finished) q.done) =
    All-map (λ r. who_hears r < 16) (λ (d : DoneChain). returning_of d.finished) q.done
    (All-weaker (IsBack g) (λ (d : DoneChain). d.finished.parcel.who < 16) (λ d is. is.1.within) q.done carried.back) in
    let few = few_chains (world_of script g h queues) quiet requests calls replies in
    let waiting : sum_by (λ (p : Parcel). length p.table) q.waiting ≤ length q.waiting * 2 =
    sum_by-le (λ (p : Parcel). length p.table) 2 q.waiting (All-weaker (IsPosted g) posted (λ p is. short_chain p.who is.0 p is.2) q.waiting carried.posted) in
    let kept : sum_by (λ (w : Waiting). length w.parcel.table) h.waiting ≤ length h.waiting * 2 =
    sum_by-le (λ (w : Waiting). length w.parcel.table) 2 h.waiting
    (All-weaker (λ (w : Waiting). IsPosted g w.parcel) (λ (w : Waiting). length w.parcel.table ≤ 2) (λ w is. short_chain w.parcel.who is.0 w.parcel is.2) h.waiting carried.waiting) in
    let done : sum_by (λ (d : DoneChain). d.count) q.done ≤ length q.done * 2 =
    sum_by-le (λ (d : DoneChain). d.count) 2 q.done (All-weaker (IsBack g) (λ (d : DoneChain). d.count ≤ 2) (λ d is. is.3) q.done carried.back) in
    omega (arith, few, waiting, kept, done, carried.out.total, length-map q.waiting posting_in, length-map h.waiting call_of, length-map q.done (λ (d : DoneChain). returning_of d.finished))

pub four_free : (script : ScriptLines) (g : GuestState) (h : HostState) (queues : Queues) → IsCarried g h queues → IsQuiet (world_of script g h queues) → 4 ≤ free_count queues.command
four_free script g h queues carried quiet = omega (arith, used_few script g h queues carried quiet, carried.room)
