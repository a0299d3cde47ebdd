-- What a queue keeps stays as its first buffer leaves it and as one comes home.
use Rattle.std.proofs.Common.{◌≡◌, ℕ, ◌+◌, ◌≤◌, ◌==◌, not, List, [], ◌∷◌, length, refl, subst, arith}
use Rattle.std.specs.Prelude.{All, IfSome}
use Rattle.std.proofs.lemmas.Grind.{common_steps}
use Rattle.std.proofs.lemmas.List.Elements.{All-head, All-tail}
use Rattle.std.proofs.lemmas.List.Sums.{length-filter, count_by-le-length}
use Rattle.v4l_format.specs.Fmt.{picture_size}
use Rattle.vm_frame.specs.Mem.{mem_bytes}
use Rattle.v4l_layout.specs.declared.buffer_rec.BufferRec.{BufferRec}
use Rattle.vm_frame.specs.declared.mem.Held.{Held}
use Rattle.vm_queue.specs.Buffers.{Buffers, popped_from, first_queued, settled}
use Rattle.vm_queue.specs.declared.queued.Queued.{Queued}
use Rattle.vm_session.specs.Sound.{IsSoundQueue}
use Rattle.vm_session.specs.State.{SessionQueue}

-- the queue over these buffers
abbrev pub over : SessionQueue → Buffers → SessionQueue
over q b = record q { kind = b.kind; queued = b.queued; out = b.out }

pub popped_over : (q : SessionQueue) (b : Buffers) (bs : List Queued) → b.queued ≡ bs → IsSoundQueue (over q b) → IsSoundQueue (over q (popped_from bs b))
popped_over q b [] is sound = sound
popped_over q b (x ∷ xs) is sound =
    let fits : Queued → Type 0 = λ b. picture_size q.format ≤ length (mem_bytes b.held.mem) in
    let few : length (x ∷ xs) + length b.out ≤ length q.lengths = subst (λ (bs : List Queued). length bs + length b.out ≤ length q.lengths) is sound.away in
    let all : All fits (x ∷ xs) = subst (λ (bs : List Queued). All fits bs) is sound.memories in
    record {
      adjusted = sound.adjusted;
      few = sound.few;
      away = grind (arith, common_steps, few);
      frames = sound.frames;
      buffers = sound.buffers;
      memories = All-tail fits x xs all;
    }

first_fits : (size : ℕ) (bs : List Queued) → All (λ (b : Queued). size ≤ length (mem_bytes b.held.mem)) bs
    → IfSome (first_queued (record { kind = 0; count = 0; length = 0; queued = bs; out = [] })) (λ (b : BufferRec × Held). size ≤ length (mem_bytes b.1.mem))
first_fits size [] all = tt
first_fits size (x ∷ xs) all = All-head (λ (b : Queued). size ≤ length (mem_bytes b.held.mem)) x xs all

pub popped_fits : (q : SessionQueue) (b : Buffers) → IsSoundQueue (over q b) → IfSome (first_queued b) (λ (x : BufferRec × Held). picture_size q.format ≤ length (mem_bytes x.1.mem))
popped_fits q b sound = first_fits (picture_size q.format) b.queued sound.memories

pub settled_over : (q : SessionQueue) (b : Buffers) (index : ℕ) → IsSoundQueue (over q b) → IsSoundQueue (over q (settled b index))
settled_over q b index sound =
    let few = sound.away in
    let counts = length-filter (λ i. not (i == index)) b.out in
    let less = count_by-le-length (λ i. not (i == index)) b.out in
    record {
      adjusted = sound.adjusted;
      few = sound.few;
      away = omega (arith, few, counts, less);
      frames = sound.frames;
      buffers = sound.buffers;
      memories = sound.memories;
    }

-- there are as many buffers as before
pub same_count : (b : Buffers) (bs : List Queued) → b.count ≡ (popped_from bs b).count
same_count b [] = refl
same_count b (x ∷ xs) = refl
