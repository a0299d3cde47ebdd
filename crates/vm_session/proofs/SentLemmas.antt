-- A session stays sound as its oldest event is sent.
use Rattle.std.proofs.Common.{◌≡◌, ℕ, zero, suc, ◌<◌, ◌≤◌, ◌==◌, ◌++◌, true, false, not, List, [], ◌∷◌, length, get_or, set, Option, refl, sym, ap, ◌∙◌, subst, arith, inl, inr}
use Rattle.std.specs.Prelude.{All}
use Rattle.std.specs.List.{filter, list_any}
use Rattle.std.proofs.lemmas.Bool.{cases_eq}
use Rattle.std.proofs.lemmas.Bool.Decides.{nat_tests}
use Rattle.std.proofs.lemmas.List.{length-set}
use Rattle.std.proofs.lemmas.List.Elements.{All-tail}
use Rattle.v4l_const.specs.Model.{queues as types_of, source_queue, picture_queue}
use Rattle.v4l_layout.specs.declared.buffer_rec.BufferRec.{BufferRec}
use Rattle.v4l_layout.specs.declared.event_rec.EventRec.{EventRec}
use Rattle.v4l_rules.proofs.SetLemmas.{set_keeps}
use Rattle.v4l_rules.specs.Queues.{place_in}
use Rattle.vm_frame.specs.declared.mem.Held.{Held}
use Rattle.vm_mem.specs.Lists.{occurrences}
use Rattle.vm_queue.specs.declared.queued.Queued.{Queued}
use Rattle.vm_wire.specs.declared.event.EventMsg.TheVariants.{Dequeued, Happened}
use Rattle.vm_session.specs.declared.unsent.Unsent.{Unsent}
use Rattle.vm_session.specs.Sound.{IsSound, indices_of, returning, taken_by, gives_back, ArePaired}
use Rattle.vm_session.specs.State.{SessionQueue, SessionState, opening_queue, queue_of}
use Rattle.vm_session.specs.Streaming.{settled, with_returned}
use Rattle.vm_session.proofs.OutLemmas.{index_cons, same_type}
use Rattle.vm_session.proofs.SoundLemmas.{one_place, set_case}
use Rattle.vm_session.proofs.StreamLemmas.{size_kept}

-- ---- a number is taken out of a list

none_goes : (n : ℕ) (xs : List ℕ) → occurrences n xs ≡ 0 → filter (λ i. not (i == n)) xs ≡ xs
none_goes n [] none = refl
none_goes n (x ∷ xs) none = elim (cases_eq x n) [
  | inl same ↦ absurd (grind (arith, nat_tests))
  | inr differs ↦
      let rest : filter (λ i. not (i == n)) xs ≡ xs = none_goes n xs (grind (arith, nat_tests)) in
      let apart : (x == n) ≡ false = grind (arith, nat_tests, differs) in
      rw (apart, rest) refl
]

-- where it stands at the front and nowhere else, the rest stays
front_goes : (n : ℕ) (xs : List ℕ) → occurrences n (n ∷ xs) ≤ 1 → filter (λ i. not (i == n)) (n ∷ xs) ≡ xs
front_goes n xs once =
    let same = same_type n in
    let none : occurrences n xs ≡ 0 = grind (arith, nat_tests, once) in
    rw same (none_goes n xs none)

in_front : (n : ℕ) (xs : List ℕ) → list_any (λ i. i == n) (n ∷ xs) ≡ true
in_front n xs = rw (same_type n) refl

-- a queue of which a buffer is out is there
put_there : (qs : List SessionQueue) (p : ℕ) (v : SessionQueue) (n : ℕ) (ns : List ℕ) → (get_or qs p opening_queue).out ≡ n ∷ ns
    → get_or (set qs p v) p opening_queue ≡ v
put_there [] p v n ns out = cc
put_there (q ∷ qs) zero v n ns out = refl
put_there (q ∷ qs) (suc p) v n ns out = put_there qs p v n ns out

behind : (s : SessionState) (e : Unsent) (es : List Unsent) → s.unsent ≡ e ∷ es → All (λ (e : Unsent). gives_back e ≡ true) s.unsent → All (λ (e : Unsent). gives_back e ≡ true) es
behind s e es oldest all =
    All-tail (λ (e : Unsent). gives_back e ≡ true) e es (subst (λ (es : List Unsent). All (λ (e : Unsent). gives_back e ≡ true) es) oldest all)

fewer : (s : SessionState) (e : Unsent) (es : List Unsent) → s.unsent ≡ e ∷ es → length s.unsent ≤ 64 → length es ≤ 64
fewer s e es oldest few = let sizes = ap (λ (es : List Unsent). length es) oldest in omega (arith, sizes, few)

-- ---- the oldest event gives a buffer back

module _ (s : SessionState) (session : ℕ) (b : BufferRec) (held : Option Held) (es : List Unsent)
    (oldest : s.unsent ≡ record { msg = Dequeued session b; held = held } ∷ es) (sound : IsSound s) where
  abbrev s' : SessionState
  s' = with_returned (record s { unsent = es }) (Dequeued session b)

  abbrev rest : List BufferRec
  rest = returning es ++ taken_by s.running

  out_before : (t : ℕ) → (queue_of s t).out ≡ indices_of t (b ∷ rest)
  out_before t = (sound.each t).out ∙ ap (λ (u : List Unsent). indices_of t (returning u ++ taken_by s.running)) oldest

  -- the buffer is out longest
  first_out : (queue_of s b.kind).out ≡ b.index ∷ indices_of b.kind rest
  first_out = out_before b.kind ∙ index_cons b.kind b rest true (same_type b.kind)

  pub is_out : list_any (λ i. i == b.index) (queue_of s b.kind).out ≡ true
  is_out = subst (λ xs. list_any (λ i. i == b.index) xs ≡ true) (sym first_out) (in_front b.index (indices_of b.kind rest))

  module _ (once : occurrences b.index (queue_of s b.kind).out ≤ 1) where
    own_out : (queue_of s' b.kind).out ≡ indices_of b.kind rest
    own_out =
        let q : SessionQueue = settled (queue_of s b.kind) b.index in
        let there = put_there s.queues (place_in (types_of s.model) b.kind) q b.index (indices_of b.kind rest) first_out in
        ap (λ (q : SessionQueue). q.out) there
        ∙ ap (λ xs. filter (λ i. not (i == b.index)) xs) first_out
        ∙ front_goes b.index (indices_of b.kind rest) (subst (λ xs. occurrences b.index xs ≤ 1) first_out once)

    other_out : (t : ℕ) → (b.kind == t) ≡ false → (queue_of s' t).out ≡ indices_of t rest
    other_out t apart =
        let P : SessionQueue → Type 0 = λ q. q.out ≡ indices_of t rest in
        set_case P opening_queue s.queues (place_in (types_of s.model) b.kind) (settled (queue_of s b.kind) b.index) (place_in (types_of s.model) t)
        (λ same within.
        let alike : t ≡ b.kind = one_place (types_of s.model) b.kind t same (subst (λ n. place_in (types_of s.model) b.kind < n) sound.queues within) in
        absurd (grind (arith, nat_tests, apart, alike)))
        (out_before t ∙ index_cons t b rest false apart)

    out_after : (t : ℕ) → (queue_of s' t).out ≡ indices_of t rest
    out_after t = elim (cases_eq b.kind t) [
      | inl same ↦ subst (λ n. (queue_of s' n).out ≡ indices_of n rest) same own_out
      | inr differs ↦ other_out t (grind (arith, nat_tests, differs))
    ]

    queued_kept : (t : ℕ) → (queue_of s' t).queued ≡ (queue_of s t).queued
    queued_kept t = set_keeps opening_queue (λ (q : SessionQueue). q.queued) s.queues (place_in (types_of s.model) b.kind) (settled (queue_of s b.kind) b.index) refl (place_in (types_of s.model) t)

    format_kept : (t : ℕ) → (queue_of s' t).format ≡ (queue_of s t).format
    format_kept t = set_keeps opening_queue (λ (q : SessionQueue). q.format) s.queues (place_in (types_of s.model) b.kind) (settled (queue_of s b.kind) b.index) refl (place_in (types_of s.model) t)

    pub returned_sound : IsSound s'
    returned_sound = record {
      queues = length-set s.queues (place_in (types_of s.model) b.kind) (settled (queue_of s b.kind) b.index) ∙ sound.queues;
      input = sound.input;
      size = size_kept s s' format_kept (picture_queue s.model) (source_queue s.model) sound.size;
      each = λ t. record {
        out = out_after t;
        kinds = subst (λ (bs : List Queued). All (λ (x : Queued). x.buffer.kind ≡ t) bs) (sym (queued_kept t)) (sound.each t).kinds;
      };
      paired = (subst ArePaired oldest sound.paired).1;
      eventless = λ no. behind s _ es oldest (sound.eventless no);
      few = fewer s _ es oldest sound.few;
    }

-- ---- the oldest event gives none back

pub told_sound : (s : SessionState) (session : ℕ) (event : EventRec) (held : Option Held) (es : List Unsent)
    → s.unsent ≡ record { msg = Happened session event; held = held } ∷ es → IsSound s → IsSound (with_returned (record s { unsent = es }) (Happened session event))
told_sound s session event held es oldest sound = record {
  queues = sound.queues;
  input = sound.input;
  size = sound.size;
  each = λ t. record {
    out = (sound.each t).out ∙ ap (λ (u : List Unsent). indices_of t (returning u ++ taken_by s.running)) oldest;
    kinds = (sound.each t).kinds;
  };
  paired = (subst ArePaired oldest sound.paired).1;
  eventless = λ no. behind s _ es oldest (sound.eventless no);
  few = fewer s _ es oldest sound.few;
}

pub returned_after : (s : SessionState) (session : ℕ) (b : BufferRec) (held : Option Held) (es : List Unsent)
    → s.unsent ≡ record { msg = Dequeued session b; held = held } ∷ es → IsSound s → occurrences b.index (queue_of s b.kind).out ≤ 1
    → (qs : List SessionQueue) → qs ≡ set s.queues (place_in (types_of s.model) b.kind) (settled (queue_of s b.kind) b.index)
    → IsSound (record s { queues = qs; unsent = es })
returned_after s session b held es oldest sound once qs is = rw is (returned_sound s session b held es oldest sound once)
