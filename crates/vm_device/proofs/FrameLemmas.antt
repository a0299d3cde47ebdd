-- The frames of a session: the one that is found at an offset, and what a call leaves of them.
use Rattle.std.proofs.Common.{◌≡◌, ℕ, zero, suc, ◌+◌, ◌<◌, ◌≤◌, ◌==◌, Bool, true, false, if◌then◌else◌, Option, Some, None, Ok, List, [], ◌∷◌, ◌++◌, get_or, set, map, replicate, refl, sym, ap, ◌∙◌, subst, arith, ◌⊎◌, inl, inr}
use Rattle.std.specs.Prelude.{⊤, IfSome, slice_get}
use Rattle.std.specs.List.{AllByRecursion, flat_map, find}
use Rattle.std.specs.Option.{option_map, ok_or}
use Rattle.std.proofs.lemmas.Bool.Decides.{nat_tests}
use Rattle.std.proofs.lemmas.List.Concat.{flat_map-cons}
use Rattle.std.proofs.Math.ListN.{get_or-map}
use Rattle.v4l_const.specs.declared.errno.Errno.TheVariants.{Einval}
use Rattle.v4l_const.specs.declared.four_cc.FourCc.{FourCc}
use Rattle.v4l_const.specs.declared.ioctl_code.IoctlCode.{IoctlCode}
use Rattle.v4l_const.specs.declared.ioctl_code.IoctlCode.TheVariants.{QueryCap, EnumFmt, GFmt, SFmt, TryFmt, EnumInput, GInput, SInput, ReqBufs, QueryBuf, QBuf, StreamOn, StreamOff, SubscribeEvent, UnsubscribeEvent}
use Rattle.v4l_const.specs.declared.model.Model.{Model}
use Rattle.v4l_const.specs.declared.numbers.TheConstants.{MEMORY_MMAP}
use Rattle.v4l_const.specs.Model.{queues as types_of, source_queue, picture_queue}
use Rattle.v4l_format.specs.declared.fmt.Fmt.{Fmt}
use Rattle.v4l_format.specs.Fmt.{IsAdjusted, picture_size}
use Rattle.v4l_format.proofs.FmtLemmas.{picture_size_most, picture_size_least}
use Rattle.v4l_rules.specs.Formats.{is_source, with_format_at, with_source_format, with_set_format_at}
use Rattle.v4l_rules.specs.Queues.{place_in}
use Rattle.v4l_rules.proofs.AdjustedLemmas.{first_is_adjusted, sized_adjusted, adjusted_from_adjusted}
use Rattle.v4l_rules.proofs.SetLemmas.{formatted_keeps}
use Rattle.v4l_layout.specs.declared.buffer_rec.BufferRec.{BufferRec}
use Rattle.vm_frame.specs.declared.mem.Held.{Held}
use Rattle.vm_job.specs.Job.{DoneParts}
use Rattle.vm_wire.specs.declared.event.EventMsg.{EventMsg}
use Rattle.vm_wire.specs.declared.event.EventMsg.TheVariants.{Dequeued, Happened}
use Rattle.vm_session.specs.declared.running.Running.{Running}
use Rattle.vm_session.specs.declared.unsent.Unsent.{Unsent}
use Rattle.vm_session.specs.Streaming.{begun, headless, counted, finished, finished_by, settled, sent, sent_of, with_returned}
use Rattle.vm_wire.specs.Buffers.{buffer_in}
use Rattle.vm_session.specs.State.{SessionState, SessionQueue, opening_queue, opening_session, queue_kind, queue_of, with_queue, adjusted_for, with_set_format}
use Rattle.vm_session.specs.Buffers.{frame_tag, frame_count, renewed_queue, with_buffers, queue_with, with_queued, started, stopped_queue}
use Rattle.vm_session.specs.Mapped.{MappableFrame, frame_at, frame_of, frames_from, frames_of, mappable_frames}
use Rattle.vm_session.specs.Rows.{ioctl_row, querycap_row, enumfmt_row, gfmt_row, tryfmt_row, sfmt_row, enuminput_row, ginput_row, sinput_row, reqbufs_row, querybuf_row, qbuf_row, streamon_row, streamoff_row, subscribe_row, unsubscribe_row}
use Rattle.vm_device.specs.Mappings.{queue_in, HasFrame, IsFramed}

-- ---- the frame at an offset

-- this is a frame of the session
abbrev pub IsOwn : SessionState → MappableFrame → Type 0
IsOwn s f = (k : ℕ) × HasFrame s k f.len × (f.tag ≡ frame_tag s.id k)

all_both : {A : Type 0} (P : A → Type 0) (xs ys : List A) → AllByRecursion P xs → AllByRecursion P ys → AllByRecursion P (xs ++ ys)
all_both P [] ys all more = more
all_both P (x ∷ xs) ys all more = (all.0, all_both P xs ys all.1 more)

-- those of a queue, from a buffer on
own_from : (s : SessionState) (place t : ℕ) → (queue_in s place).kind ≡ MEMORY_MMAP → (i : ℕ) (lens : List ℕ)
    → ((j len : ℕ) → slice_get lens j ≡ Some len → slice_get (queue_in s place).lengths (i + j) ≡ Some len)
    → AllByRecursion (IsOwn s) (frames_from t (frame_tag s.id (queue_in s place).first_frame) i lens)
own_from s place t given i [] there = tt
own_from s place t given i (len ∷ lens) there =
    let same : i + 0 ≡ i = omega arith in
    let P : ℕ → Type 0 = λ n. slice_get (queue_in s place).lengths n ≡ Some len in (
      ((queue_in s place).first_frame + i, record { place = place; i = i; given = given; number = refl; has = subst P same (there 0 len refl) }, omega arith),
      own_from s place t given (i + 1) lens
          (λ j l at. let next : i + suc j ≡ (i + 1) + j = omega arith in
          let Q : ℕ → Type 0 = λ n. slice_get (queue_in s place).lengths n ≡ Some l in
          subst Q next (there (suc j) l at)),
    )

-- those of a queue
own_in : (s : SessionState) (place t : ℕ) → AllByRecursion (IsOwn s) (frames_of s.id t (queue_in s place))
own_in s place t = by_kind ((queue_in s place).kind == MEMORY_MMAP) refl
  where
    fs : List MappableFrame
    fs = frames_from t (frame_tag s.id (queue_in s place).first_frame) 0 (queue_in s place).lengths

    by_kind : (b : Bool) → ((queue_in s place).kind == MEMORY_MMAP) ≡ b → AllByRecursion (IsOwn s) (if b then fs else [])
    by_kind false is = tt
    by_kind true is =
        let given : (queue_in s place).kind ≡ MEMORY_MMAP = grind (arith, nat_tests) in
        own_from s place t given 0 (queue_in s place).lengths (λ j len at. let none : 0 + j ≡ j = omega arith in
        let P : ℕ → Type 0 = λ n. slice_get (queue_in s place).lengths n ≡ Some len in subst P (sym none) at)

own_of : (s : SessionState) (types : List ℕ) → AllByRecursion (IsOwn s) (flat_map (λ t. frames_of s.id t (queue_of s t)) types)
own_of s [] = tt
own_of s (t ∷ types) =
    let frames : ℕ → List MappableFrame = λ t. frames_of s.id t (queue_of s t) in
    subst (AllByRecursion (IsOwn s)) (sym (flat_map-cons frames t types))
    (all_both (IsOwn s) (frames t) (flat_map frames types) (own_in s (place_in (types_of s.model) t) t) (own_of s types))

own_found : (s : SessionState) (offset : ℕ) (frame : ℕ × ℕ) (fs : List MappableFrame) → AllByRecursion (IsOwn s) fs → frame_at offset fs ≡ Some frame
    → (k : ℕ) × HasFrame s k frame.1 × (frame.0 ≡ frame_tag s.id k)
own_found s offset frame [] all at = cc
own_found s offset frame (f ∷ fs) all at = by_offset (f.offset == offset) at (λ rest. own_found s offset frame fs all.1 rest)
  where
    by_offset : (b : Bool) → option_map (λ f. (f.tag, f.len)) (if b then Some f else find (λ f. f.offset == offset) fs) ≡ Some frame
        → (frame_at offset fs ≡ Some frame → (k : ℕ) × HasFrame s k frame.1 × (frame.0 ≡ frame_tag s.id k)) → (k : ℕ) × HasFrame s k frame.1 × (frame.0 ≡ frame_tag s.id k)
    by_offset false at rest = rest at
    by_offset true at rest =
        let same : (f.tag, f.len) ≡ frame = cc in
        let P : ℕ × ℕ → Type 0 = λ x. (k : ℕ) × HasFrame s k x.1 × (x.0 ≡ frame_tag s.id k) in
        subst P same all.0

-- the frame that a session maps from an offset is one of its own
pub frame_found : (s : SessionState) (offset : ℕ) (frame : ℕ × ℕ) → frame_of s offset ≡ Ok frame → (k : ℕ) × HasFrame s k frame.1 × (frame.0 ≡ frame_tag s.id k)
frame_found s offset frame is = by_found (frame_at offset (mappable_frames s)) refl is
  where
    by_found : (o : Option (ℕ × ℕ)) → frame_at offset (mappable_frames s) ≡ o → ok_or o Einval ≡ Ok frame → (k : ℕ) × HasFrame s k frame.1 × (frame.0 ≡ frame_tag s.id k)
    by_found None at is = cc
    by_found (Some x) at is =
        let same : x ≡ frame = cc in
        own_found s offset frame (mappable_frames s) (own_of s (types_of s.model)) (at ∙ ap Some same)

-- ---- a session as it is opened

opening_queues_are : (m : Model) (id place : ℕ) → queue_in (opening_session m id) place ≡ opening_queue
opening_queues_are m id place = get_or-map (λ (t : ℕ). opening_queue) (types_of m) place 0

pub no_frames : (m : Model) (id k len : ℕ) → HasFrame (opening_session m id) k len → ⊥
no_frames m id k len has =
    let P : SessionQueue → Type 0 = λ q. slice_get q.lengths has.i ≡ Some len in
    let none : slice_get opening_queue.lengths has.i ≡ Some len = subst P (opening_queues_are m id has.place) has.has in
    cc

pub opening_framed : (m : Model) (id : ℕ) → IsFramed (opening_session m id)
opening_framed m id = record {
  formats = λ place. let P : SessionQueue → Type 0 = λ q. IsAdjusted q.format in subst P (sym (opening_queues_are m id place)) first_is_adjusted;
  made = λ k len has. absurd (no_frames m id k len has);
  sized = λ k len has. absurd (no_frames m id k len has);
  one = λ k len other has more. absurd (no_frames m id k len has);
}

-- ---- what a call leaves

-- Each frame of the session after a call was its own before, or is made now.
pub record Follows (s t : SessionState) : Type 0 where
  pub framed : IsFramed t
  pub more : s.made ≤ t.made
  pub few : t.made ≤ s.made + 32
  pub old_or_new : (k len : ℕ) → HasFrame t k len → HasFrame s k len ⊎ (s.made ≤ k)

-- Two queues have the same frames: where the device gave their memory the first one is the same, and so are the lengths.
abbrev pub SameFrames : SessionQueue → SessionQueue → Type 0
SameFrames p q =
    (q.kind ≡ p.kind) × (q.first_frame ≡ p.first_frame) × (q.kind ≡ MEMORY_MMAP → q.lengths ≡ p.lengths)

alike_has : (s t : SessionState) (place other k len i : ℕ) → SameFrames (queue_in s other) (queue_in t place)
    → (queue_in t place).kind ≡ MEMORY_MMAP → k ≡ (queue_in t place).first_frame + i → slice_get (queue_in t place).lengths i ≡ Some len → HasFrame s k len
alike_has s t place other k len i same given number has = record {
  place = other;
  i = i;
  given = sym same.0 ∙ given;
  number = number ∙ ap (λ n. n + i) same.1;
  has = sym (ap (λ xs. slice_get xs i) (same.2 given)) ∙ has;
}

-- where the queues have the same frames, so has the session
alike_follows : (s t : SessionState) → IsFramed s → t.made ≡ s.made → ((place : ℕ) → SameFrames (queue_in s place) (queue_in t place))
    → ((place : ℕ) → IsAdjusted (queue_in t place).format) → Follows s t
alike_follows s t framed made same formats = record {
  framed = record {
    formats = formats;
    made = λ k len has. subst (λ (n : ℕ). k < n) (sym made) (framed.made k len (was k len has));
    sized = λ k len has. framed.sized k len (was k len has);
    one = λ k len other has more. framed.one k len other (was k len has) (was k other more);
  };
  more = omega (arith, made);
  few = omega (arith, made);
  old_or_new = λ k len has. inl (was k len has);
}
  where
    was : (k len : ℕ) → HasFrame t k len → HasFrame s k len
    was k len has = alike_has s t has.place has.place k len has.i (same has.place) has.given has.number has.has

-- what of a queue its frames go by
abbrev pub frames_by : SessionQueue → ℕ × ℕ × List ℕ
frames_by q = (q.kind, q.first_frame, q.lengths)

same_frames : (p q : SessionQueue) → frames_by q ≡ frames_by p → SameFrames p q
same_frames p q same = (ap (λ x. x.0) same, ap (λ x. x.1) same, λ given. ap (λ x. x.2) same)

itself : (s : SessionState) → IsFramed s → Follows s s
itself s framed = alike_follows s s framed refl (λ place. (refl, refl, λ given. refl)) framed.formats

-- ---- a format is set

set_has : (P : SessionQueue → Type 0) (d : SessionQueue) (qs : List SessionQueue) (p : ℕ) (v : SessionQueue) → P v → ((i : ℕ) → P (get_or qs i d)) → (i : ℕ) → P (get_or (set qs p v) i d)
set_has P d [] p v here all i = all i
set_has P d (q ∷ qs) zero v here all zero = here
set_has P d (q ∷ qs) zero v here all (suc i) = all (suc i)
set_has P d (q ∷ qs) (suc p) v here all zero = all zero
set_has P d (q ∷ qs) (suc p) v here all (suc i) = set_has P d qs p v here (λ j. all (suc j)) i

abbrev HasFormats : List SessionQueue → Type 0
HasFormats qs = (place : ℕ) → IsAdjusted (get_or qs place opening_queue).format

one_format : (m : Model) (qs : List SessionQueue) (t : ℕ) (f : Fmt) → IsAdjusted f → HasFormats qs → HasFormats (with_format_at queue_kind m qs t f)
one_format m qs t f adjusted formats = set_has (λ q. IsAdjusted q.format) opening_queue qs (place_in (types_of m) t) _ adjusted formats

set_formats : (m : Model) (qs : List SessionQueue) (t : ℕ) (f : Fmt) → IsAdjusted f → HasFormats qs → HasFormats (with_set_format_at queue_kind m qs t f)
unfolding with_set_format_at
set_formats m qs t f adjusted formats = by_source (is_source m t)
  where
    by_source : (b : Bool) → HasFormats (if b then with_source_format queue_kind m qs t f else with_format_at queue_kind m qs t f)
    by_source false = one_format m qs t f adjusted formats
    by_source true =
        one_format m (with_format_at queue_kind m qs t f) (picture_queue m) _
        (sized_adjusted f _ adjusted (formats (place_in (types_of m) (picture_queue m))))
        (one_format m qs t f adjusted formats)

taken_adjusted : (s : SessionState) (t : ℕ) (f : FourCc) (w h : ℕ) → IsFramed s → IsAdjusted (adjusted_for s t f w h)
taken_adjusted s t f w h framed = adjusted_from_adjusted _ s.model t f w h (by_source (source_queue s.model))
  where
    by_source : (o : Option ℕ) → IfSome (option_map (λ source. (queue_of s source).format) o) IsAdjusted
    by_source None = tt
    by_source (Some source) = framed.formats (place_in (types_of s.model) source)

format_follows : (s : SessionState) (t : ℕ) (f : Fmt) → IsFramed s → IsAdjusted f → Follows s (with_set_format s t f)
format_follows s t f framed adjusted =
    alike_follows s (with_set_format s t f) framed refl
    (λ place. same_frames (queue_in s place) (queue_in (with_set_format s t f) place) (formatted_keeps queue_kind frames_by (λ q f. refl) s.model s.queues t f place))
    (set_formats s.model s.queues t f adjusted framed.formats)

-- ---- buffers are made

set_either : (qs : List SessionQueue) (p : ℕ) (v d : SessionQueue) (i : ℕ) → (get_or (set qs p v) i d ≡ v) ⊎ (get_or (set qs p v) i d ≡ get_or qs i d)
set_either [] p v d i = inr refl
set_either (q ∷ qs) zero v d zero = inl refl
set_either (q ∷ qs) zero v d (suc i) = inr refl
set_either (q ∷ qs) (suc p) v d zero = inr refl
set_either (q ∷ qs) (suc p) v d (suc i) = set_either qs p v d i

-- and where
set_at : (qs : List SessionQueue) (p : ℕ) (v d : SessionQueue) (i : ℕ) → ((i ≡ p) × (get_or (set qs p v) i d ≡ v)) ⊎ (get_or (set qs p v) i d ≡ get_or qs i d)
set_at [] p v d i = inr refl
set_at (q ∷ qs) zero v d zero = inl (refl, refl)
set_at (q ∷ qs) zero v d (suc i) = inr refl
set_at (q ∷ qs) (suc p) v d zero = inr refl
set_at (q ∷ qs) (suc p) v d (suc i) = elim (set_at qs p v d i) [
  | inl here ↦ inl (ap suc here.0, here.1)
  | inr there ↦ inr there
]

among : (n x i len : ℕ) → slice_get (replicate n x) i ≡ Some len → (i < n) × (len ≡ x)
among zero x i len at = cc
among (suc n) x zero len at = (omega arith, cc)
among (suc n) x (suc i) len at = let rest = among n x i len at in (omega (arith, rest.0), rest.1)

made_for : (m n : ℕ) → m ≡ MEMORY_MMAP → frame_count m n ≡ n
made_for m n given =
    let is : (m == MEMORY_MMAP) ≡ true = grind (arith, nat_tests) in
    ap (λ b. if b then n else 0) is

module _ (s : SessionState) (t m n : ℕ) (framed : IsFramed s) (few : n ≤ 32) where
  abbrev size : ℕ
  size = picture_size (queue_of s t).format

  -- a frame after the call is one from before, or one of those that are made
  from_before : (k len : ℕ) → HasFrame (with_buffers s t m n) k len → HasFrame s k len ⊎ ((s.made ≤ k) × (k < s.made + frame_count m n) × (len ≡ size))
  from_before k len has = elim (set_either s.queues (place_in (types_of s.model) t) (renewed_queue (queue_of s t) m n s.made) opening_queue has.place) [
    | inl new ↦
        let P : SessionQueue → Type 0 = λ q. (q.kind ≡ MEMORY_MMAP) × (k ≡ q.first_frame + has.i) × (slice_get q.lengths has.i ≡ Some len) in
        let here : P (renewed_queue (queue_of s t) m n s.made) = subst P new (has.given, has.number, has.has) in
        let inside = among n size has.i len here.2 in
        let count : frame_count m n ≡ n = made_for m n here.0 in
        inr (omega (arith, here.1), omega (arith, here.1, inside.0, count), inside.1)
    | inr old ↦ inl (alike_has s (with_buffers s t m n) has.place has.place k len has.i (same_frames (queue_in s has.place) (queue_in (with_buffers s t m n) has.place) (ap frames_by old)) has.given has.number has.has)
  ]

  buffers_follow : Follows s (with_buffers s t m n)
  buffers_follow = record {
    framed = record {
      formats = set_has (λ q. IsAdjusted q.format) opening_queue s.queues (place_in (types_of s.model) t) (renewed_queue (queue_of s t) m n s.made)
          (framed.formats (place_in (types_of s.model) t)) framed.formats;
      made = λ k len has. elim (from_before k len has) [
        | inl old ↦ let before = framed.made k len old in omega (arith, before)
        | inr new ↦ new.1
      ];
      sized = λ k len has. elim (from_before k len has) [
        | inl old ↦ framed.sized k len old
        | inr new ↦
            let adjusted = framed.formats (place_in (types_of s.model) t) in
            let least = picture_size_least (queue_of s t).format adjusted in
            let most = picture_size_most (queue_of s t).format adjusted in
            (omega (arith, least, new.2), omega (arith, most, new.2))
      ];
      one = λ k len other has more. both k len other (from_before k len has) (from_before k other more);
    };
    more = omega arith;
    few = omega (arith, few, count_most);
    old_or_new = λ k len has. elim (from_before k len has) [
      | inl old ↦ inl old
      | inr new ↦ inr new.0
    ];
  }
    where
      count_most : frame_count m n ≤ n
      count_most = by_kind (m == MEMORY_MMAP)
        where
          by_kind : (b : Bool) → (if b then n else 0) ≤ n
          by_kind true = omega arith
          by_kind false = omega arith

      both : (k len other : ℕ) → HasFrame s k len ⊎ ((s.made ≤ k) × (k < s.made + frame_count m n) × (len ≡ size))
          → HasFrame s k other ⊎ ((s.made ≤ k) × (k < s.made + frame_count m n) × (other ≡ size)) → len ≡ other
      both k len other (inl old) (inl more) = framed.one k len other old more
      both k len other (inl old) (inr new) = let before = framed.made k len old in absurd (omega (arith, before, new.0))
      both k len other (inr new) (inl old) = let before = framed.made k other old in absurd (omega (arith, before, new.0))
      both k len other (inr new) (inr more) = new.2 ∙ sym more.2

-- ---- a buffer is queued, a queue starts or stops

-- what is put there already stands
set_same : (xs : List ℕ) (i v : ℕ) → IfSome (slice_get xs i) (λ n. n ≡ v) → set xs i v ≡ xs
set_same [] i v same = refl
set_same (x ∷ xs) zero v same = ap (λ y. y ∷ xs) (sym same)
set_same (x ∷ xs) (suc i) v same = ap (λ ys. x ∷ ys) (set_same xs i v same)

-- a queue with the same frames and format is put in the place of another
put_alike : (s x : SessionState) (t : ℕ) (q : SessionQueue) → IsFramed s → x.made ≡ s.made → x.queues ≡ (with_queue s t q).queues
    → SameFrames (queue_of s t) q → q.format ≡ (queue_of s t).format → Follows s x
put_alike s x t q framed made put same format =
    alike_follows s x framed made
    (λ place. subst (λ (qs : List SessionQueue). SameFrames (queue_in s place) (get_or qs place opening_queue)) (sym put) (at place))
    (λ place. subst (λ (qs : List SessionQueue). IsAdjusted (get_or qs place opening_queue).format) (sym put) (adjusted place))
  where
    known : (place : ℕ) → ((place ≡ place_in (types_of s.model) t) × (get_or (set s.queues (place_in (types_of s.model) t) q) place opening_queue ≡ q)) ⊎ (get_or (set s.queues (place_in (types_of s.model) t) q) place opening_queue ≡ get_or s.queues place opening_queue)
        → SameFrames (queue_in s place) (queue_in (with_queue s t q) place)
    known place (inl here) = subst (λ (x : SessionQueue). SameFrames (queue_in s place) x) (sym here.1)
        (subst (λ (i : ℕ). SameFrames (queue_in s i) q) (sym here.0) same)
    known place (inr there) = subst (λ (x : SessionQueue). SameFrames (queue_in s place) x) (sym there) (refl, refl, λ given. refl)

    at : (place : ℕ) → SameFrames (queue_in s place) (queue_in (with_queue s t q) place)
    at = (λ place. known place (set_at s.queues (place_in (types_of s.model) t) q opening_queue place))

    adjusted : (place : ℕ) → IsAdjusted (queue_in (with_queue s t q) place).format
    adjusted = set_has (λ x. IsAdjusted x.format) opening_queue s.queues (place_in (types_of s.model) t) q
        (subst IsAdjusted (sym format) (framed.formats (place_in (types_of s.model) t))) framed.formats

put_follows : (s : SessionState) (t : ℕ) (q : SessionQueue) → IsFramed s → SameFrames (queue_of s t) q → q.format ≡ (queue_of s t).format → Follows s (with_queue s t q)
put_follows s t q framed same format = put_alike s (with_queue s t q) t q framed refl refl same format

-- a QBUF of a frame leaves its buffer's length
abbrev pub KeepsFrame : SessionState → BufferRec → Type 0
KeepsFrame s b = (queue_of s b.kind).kind ≡ MEMORY_MMAP → IfSome (slice_get (queue_of s b.kind).lengths b.index) (λ n. n ≡ b.length)

abbrev pub KeepsFrames : SessionState → IoctlCode → List ℕ → Type 0
KeepsFrames s QBuf p = KeepsFrame s (buffer_in p)
KeepsFrames s code p = ⊤

qbuf_follows : (s : SessionState) (b : BufferRec) (held : List Held) → IsFramed s → KeepsFrame s b → Follows s (with_queued s b held)
qbuf_follows s b held framed keeps =
    put_follows s b.kind (queue_with (queue_of s b.kind) b held) framed
    (refl, refl, λ given. set_same (queue_of s b.kind).lengths b.index b.length (keeps given)) refl

-- ---- each call

pub called_follows : (s : SessionState) (code : IoctlCode) (p : List ℕ) (held : List Held) → IsFramed s → KeepsFrames s code p → Follows s (ioctl_row s code p held).next
unfolding querycap_row enumfmt_row gfmt_row tryfmt_row sfmt_row enuminput_row ginput_row sinput_row reqbufs_row querybuf_row qbuf_row streamon_row streamoff_row subscribe_row unsubscribe_row
called_follows s QueryCap p held framed comes = itself s framed
called_follows s EnumFmt p held framed comes = itself s framed
called_follows s GFmt p held framed comes = itself s framed
called_follows s TryFmt p held framed comes = itself s framed
called_follows s SFmt p held framed comes = format_follows s _ _ framed (taken_adjusted s _ _ _ _ framed)
called_follows s EnumInput p held framed comes = itself s framed
called_follows s GInput p held framed comes = itself s framed
called_follows s SInput p held framed comes = alike_follows s _ framed refl (λ place. (refl, refl, λ given. refl)) framed.formats
called_follows s ReqBufs p held framed comes = buffers_follow s _ _ _ framed (omega arith)
called_follows s QueryBuf p held framed comes = itself s framed
called_follows s QBuf p held framed comes = qbuf_follows s (buffer_in p) held framed comes
called_follows s StreamOn p held framed comes = put_follows s _ (started (queue_of s _)) framed (refl, refl, λ given. refl) refl
called_follows s StreamOff p held framed comes = put_follows s _ (stopped_queue (queue_of s _)) framed (refl, refl, λ given. refl) refl
called_follows s SubscribeEvent p held framed comes = itself s framed
called_follows s UnsubscribeEvent p held framed comes = itself s framed

-- ---- frames come and go

-- what holds of each queue and what is made of it holds at each place
map_has : (P : SessionQueue → SessionQueue → Type 0) (f : SessionQueue → SessionQueue) (d : SessionQueue) (qs : List SessionQueue)
    → P d d → ((q : SessionQueue) → P q (f q)) → (i : ℕ) → P (get_or qs i d) (get_or (map f qs) i d)
map_has P f d [] none each i = none
map_has P f d (q ∷ qs) none each zero = each q
map_has P f d (q ∷ qs) none each (suc i) = map_has P f d qs none each i

-- each queue has the frames of before
each_follows : (s t : SessionState) (f : SessionQueue → SessionQueue) → IsFramed s → t.made ≡ s.made → t.queues ≡ map f s.queues
    → ((q : SessionQueue) → SameFrames q (f q)) → ((q : SessionQueue) → (f q).format ≡ q.format) → Follows s t
each_follows s t f framed made mapped same format =
    alike_follows s t framed made
    (λ place. subst (λ (qs : List SessionQueue). SameFrames (queue_in s place) (get_or qs place opening_queue)) (sym mapped)
    (map_has SameFrames f opening_queue s.queues (refl, refl, λ given. refl) same place))
    (λ place. subst (λ (qs : List SessionQueue). IsAdjusted (get_or qs place opening_queue).format) (sym mapped)
    (subst IsAdjusted (sym (map_has (λ p q. q.format ≡ p.format) f opening_queue s.queues refl format place)) (framed.formats place)))

pub begun_follows : (s : SessionState) (number : ℕ) → IsFramed s → Follows s (begun s number)
begun_follows s number framed = each_follows s (begun s number) headless framed refl refl (λ q. (refl, refl, λ given. refl)) (λ q. refl)

pub finished_follows : (s : SessionState) (done : DoneParts) → IsFramed s → Follows s (finished s done)
finished_follows s done framed = by_job s.running
  where
    by_job : (o : Option Running) → Follows s (finished_by o s done)
    by_job None = itself s framed
    by_job (Some r) = each_follows s (finished_by (Some r) s done) counted framed refl refl (λ q. (refl, refl, λ given. refl)) (λ q. refl)

pub sent_follows : (s : SessionState) → IsFramed s → Follows s (sent s)
sent_follows s framed = by_events s.unsent
  where
    framed_again : (x : SessionState) → x.made ≡ s.made → x.queues ≡ s.queues → Follows s x
    framed_again x made same = alike_follows s x framed made
        (λ place. subst (λ (qs : List SessionQueue). SameFrames (queue_in s place) (get_or qs place opening_queue)) (sym same) (refl, refl, λ given. refl))
        (λ place. subst (λ (qs : List SessionQueue). IsAdjusted (get_or qs place opening_queue).format) (sym same) (framed.formats place))

    by_msg : (es : List Unsent) (m : EventMsg) → Follows s (with_returned (record s { unsent = es }) m)
    by_msg es (Dequeued session b) =
        put_alike s (record (with_queue s b.kind (settled (queue_of s b.kind) b.index)) { unsent = es }) b.kind (settled (queue_of s b.kind) b.index)
        framed refl refl (refl, refl, λ given. refl) refl
    by_msg es (Happened session event) = framed_again (record s { unsent = es }) refl refl

    by_events : (es : List Unsent) → Follows s (sent_of es s)
    by_events [] = itself s framed
    by_events (e ∷ es) = by_msg es e.msg
