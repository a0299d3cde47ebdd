-- What a session that changes little goes on standing for.
use Rattle.std.proofs.Common.{◌≡◌, ◌==◌, ◌+◌, ℕ, true, List, [], ◌++◌, length, map, All, Option, Some, refl, sym, ap, ◌∙◌, subst, slice_get}
use Rattle.std.specs.Prelude.{IfSome}
use Rattle.std.specs.List.{list_any}
use Rattle.v4l_const.specs.Model.{queues as types_of}
use Rattle.v4l_layout.specs.declared.buffer_rec.BufferRec.{BufferRec}
use Rattle.vm_queue.specs.declared.queued.Queued.{Queued}
use Rattle.vm_local.specs.State.{LocalState}
use Rattle.vm_session.specs.declared.running.Running.{Running}
use Rattle.vm_session.specs.State.{SessionQueue, SessionState, queue_of as session_queue}
use Rattle.vm_session.specs.Sound.{taken_by}
use Rattle.vm_stands.specs.Stands.{of_type, waiting, IsRecordOf, IsMemoryAt, StandsOn, Stands}

-- a queue without the indices of those that are out
abbrev pub bare : SessionQueue → SessionQueue
bare q = record q { out = [] }

-- the other queue is the same, but that fewer may be out
pub record IsLessOut (q r : SessionQueue) : Type 0 where
  pub same : bare r ≡ bare q
  pub out : (i : ℕ) → list_any (λ j. j == i) r.out ≡ true → list_any (λ j. j == i) q.out ≡ true

pub less_itself : (q : SessionQueue) → IsLessOut q q
less_itself q = record { same = refl; out = λ i is. is }

-- the other session is the same, but for its unsent messages and that fewer buffers may be out
pub record IsLessAway (a b : SessionState) : Type 0 where
  pub model : b.model ≡ a.model
  pub input : b.input ≡ a.input
  pub made : b.made ≡ a.made
  pub running : b.running ≡ a.running
  pub count : length b.queues ≡ length a.queues
  pub each : (t : ℕ) → IsLessOut (session_queue a t) (session_queue b t)

same_waiting : (a b : SessionState) (t : ℕ) → IsLessAway a b → waiting b t ≡ waiting a t
same_waiting a b t less =
    ap (λ r. of_type t (taken_by r) ++ map (λ (x : Queued). x.buffer) (session_queue b t).queued) less.running
    ∙ ap (λ (q : SessionQueue). of_type t (taken_by a.running) ++ map (λ (x : Queued). x.buffer) q.queued) (less.each t).same

pub less_on : (frames : List ℕ) (a b : SessionState) (s : LocalState) (t : ℕ) → IsLessAway a b → StandsOn frames a s t → StandsOn frames b s t
less_on frames a b s t less on =
    let same : bare (session_queue b t) ≡ bare (session_queue a t) = (less.each t).same in
    let waits : waiting b t ≡ waiting a t = same_waiting a b t less in
    let R : List BufferRec → Type 0 = λ rs. All (IsRecordOf s t) rs in
    let M : List Queued → Type 0 = λ qs. All (λ x. IsMemoryAt s t x.buffer.index x.held) qs in
    record {
      format = ap (λ (q : SessionQueue). q.format) same ∙ on.format;
      kind = λ some. ap (λ (q : SessionQueue). q.kind) same ∙ on.kind some;
      lengths = ap (λ (q : SessionQueue). q.lengths) same ∙ on.lengths;
      streaming = ap (λ (q : SessionQueue). q.streaming) same ∙ on.streaming;
      sequence = ap (λ (q : SessionQueue). q.sequence) same ∙ on.sequence;
      order = ap (λ rs. map (λ (r : BufferRec). r.index) rs) waits ∙ on.order;
      records = subst R (sym waits) on.records;
      memories = subst M (sym (ap (λ (q : SessionQueue). q.queued) same)) on.memories;
      out = λ i is. on.out i ((less.each t).out i is);
      numbered = λ device i within.
          on.numbered device i within ∙ ap (λ (q : SessionQueue). slice_get frames (q.first_frame + i)) (sym same);
    }

pub less_stands : (frames : List ℕ) (a b : SessionState) (s : LocalState) → IsLessAway a b → Stands frames a s → Stands frames b s
less_stands frames a b s less stands =
    let T : Option Running → Type 0 = λ o. IfSome o (λ r. map (λ (x : BufferRec). x.kind) (taken_by (Some r)) ≡ types_of s.model) in
    record {
      opened = stands.opened;
      model = less.model ∙ stands.model;
      input = less.input ∙ stands.input;
      count = less.count ∙ stands.count;
      made = stands.made ∙ sym less.made;
      took = subst T (sym less.running) stands.took;
      each = λ t. less_on frames a b s t less (stands.each t);
    }
