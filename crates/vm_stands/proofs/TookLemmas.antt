-- The buffers that a running job took.
use Rattle.std.proofs.Common.{◌≡◌, ◌≢◌, inl, inr, ℕ, ◌+◌, ◌<◌, ◌==◌, ◌||◌, nat_lt, Bool, true, false, List, [], ◌∷◌, ◌++◌, length, get_or, map, drop, All, Option, Some, None, refl, sym, ap, ◌∙◌, subst, arith, eq-eqb, if◌then◌else◌}
use Rattle.std.specs.Prelude.{slice_index}
use Rattle.std.specs.Option.{option_to_list}
use Rattle.std.proofs.lemmas.Bool.{true≢false, eqb-true, cases_Bool}
use Rattle.std.proofs.lemmas.List.Elements.{All-head, All-tail, All-nil, All-cons}
use Rattle.v4l_const.specs.declared.model.Model.{Model}
use Rattle.v4l_const.specs.declared.model.Model.TheVariants.{Capture, Convert}
use Rattle.v4l_const.specs.declared.numbers.TheConstants.{BUF_TYPE_CAPTURE, BUF_TYPE_OUTPUT}
use Rattle.v4l_const.specs.Model.{queues as types_of}
use Rattle.v4l_layout.specs.declared.buffer_rec.BufferRec.{BufferRec}
use Rattle.v4l_rules.specs.Queues.{has_type}
use Rattle.vm_queue.specs.declared.queued.Queued.{Queued}
use Rattle.vm_local.specs.State.{LocalState, queue_of, buffer_of}
use Rattle.vm_local.specs.Listed.{times, once, AreListed, is_queued}
use Rattle.vm_local.specs.Steps.{head}
use Rattle.vm_local.proofs.CountLemmas.{times_cons}
use Rattle.vm_local.proofs.ListedLemmas.{listed_log}
use Rattle.vm_home.specs.Reached.{IsReached}
use Rattle.vm_session.specs.declared.running.Running.{Running}
use Rattle.vm_session.specs.State.{SessionState, queue_of as session_queue}
use Rattle.vm_session.specs.Sound.{taken_by}
use Rattle.vm_stands.specs.Stands.{of_type, waiting, IsRecordOf, StandsOn}

abbrev pub kinds_of : List BufferRec → List ℕ
kinds_of rs = map (λ (r : BufferRec). r.kind) rs

-- one record for each type of the model
abbrev pub OneEach : Model → List BufferRec → Type 0
OneEach m rs = kinds_of rs ≡ types_of m

one_only : (k : ℕ) (rs : List BufferRec) → kinds_of rs ≡ k ∷ [] → (b : BufferRec) × (rs ≡ b ∷ []) × (b.kind ≡ k)
one_only k [] is = absurd (omega (arith, ap (λ xs. length xs) is))
one_only k (b ∷ []) is = (b, refl, ap (λ xs. get_or xs 0 0) is)
one_only k (b ∷ c ∷ rs) is = absurd (omega (arith, ap (λ xs. length xs) is))

two_only : (k l : ℕ) (rs : List BufferRec) → kinds_of rs ≡ k ∷ l ∷ [] →
    (b : BufferRec) × (c : BufferRec) × (rs ≡ b ∷ c ∷ []) × (b.kind ≡ k) × (c.kind ≡ l)
two_only k l [] is = absurd (omega (arith, ap (λ xs. length xs) is))
two_only k l (b ∷ []) is = absurd (omega (arith, ap (λ xs. length xs) is))
two_only k l (b ∷ c ∷ []) is = (b, c, refl, ap (λ xs. get_or xs 0 0) is, ap (λ xs. get_or xs 1 0) is)
two_only k l (b ∷ c ∷ d ∷ rs) is = absurd (omega (arith, ap (λ xs. length xs) is))

-- what a camera's job took, and a converter's
pub took_one : (r : Running) → OneEach Capture (taken_by (Some r)) → (r.src ≡ None) × (r.dst.kind ≡ BUF_TYPE_CAPTURE)
took_one r is = by_src r.src is
  where
    by_src : (o : Option BufferRec) → kinds_of (option_to_list o ++ r.dst ∷ []) ≡ BUF_TYPE_CAPTURE ∷ [] → (o ≡ None) × (r.dst.kind ≡ BUF_TYPE_CAPTURE)
    by_src None kinds = (refl, ap (λ xs. get_or xs 0 0) kinds)
    by_src (Some b) kinds = absurd (omega (arith, ap (λ xs. length xs) kinds))

pub took_two : (r : Running) → OneEach Convert (taken_by (Some r)) →
    (b : BufferRec) × (r.src ≡ Some b) × (b.kind ≡ BUF_TYPE_OUTPUT) × (r.dst.kind ≡ BUF_TYPE_CAPTURE)
took_two r is = by_src r.src is
  where
    by_src : (o : Option BufferRec) → kinds_of (option_to_list o ++ r.dst ∷ []) ≡ BUF_TYPE_OUTPUT ∷ BUF_TYPE_CAPTURE ∷ [] →
        (b : BufferRec) × (o ≡ Some b) × (b.kind ≡ BUF_TYPE_OUTPUT) × (r.dst.kind ≡ BUF_TYPE_CAPTURE)
    by_src None kinds = absurd (omega (arith, ap (λ xs. length xs) kinds))
    by_src (Some b) kinds = (b, refl, ap (λ xs. get_or xs 0 0) kinds, ap (λ xs. get_or xs 1 0) kinds)

-- of one record, and of two, those of a type
pub one_here : (k t : ℕ) (b : BufferRec) (rs : List BufferRec) → rs ≡ b ∷ [] → b.kind ≡ k → (k == t) ≡ true → of_type t rs ≡ b ∷ []
one_here k t b rs all kind same = rw (all, kind, same) refl

one_not : (k t : ℕ) (b : BufferRec) (rs : List BufferRec) → rs ≡ b ∷ [] → b.kind ≡ k → (k == t) ≡ false → of_type t rs ≡ []
one_not k t b rs all kind other = rw (all, kind, other) refl

pub two_first : (k l t : ℕ) (b c : BufferRec) (rs : List BufferRec) → rs ≡ b ∷ c ∷ [] → b.kind ≡ k → c.kind ≡ l → (k == t) ≡ true → (l == t) ≡ false →
    of_type t rs ≡ b ∷ []
two_first k l t b c rs all one two same other = rw (all, one, two, same, other) refl

pub two_second : (k l t : ℕ) (b c : BufferRec) (rs : List BufferRec) → rs ≡ b ∷ c ∷ [] → b.kind ≡ k → c.kind ≡ l → (k == t) ≡ false → (l == t) ≡ true →
    of_type t rs ≡ c ∷ []
two_second k l t b c rs all one two other same = rw (all, one, two, other, same) refl

two_not : (k l t : ℕ) (b c : BufferRec) (rs : List BufferRec) → rs ≡ b ∷ c ∷ [] → b.kind ≡ k → c.kind ≡ l → (k == t) ≡ false → (l == t) ≡ false →
    of_type t rs ≡ []
two_not k l t b c rs all one two other never = rw (all, one, two, other, never) refl

-- what the types of a model tell of a type
pub capture_has : (t : ℕ) → has_type Capture t ≡ (BUF_TYPE_CAPTURE == t)
capture_has t = elim (BUF_TYPE_CAPTURE == t) as (λ b. nat_lt (if b then 0 else 0 + 1) 1 ≡ b) [ true ↦ refl | false ↦ refl ]

pub convert_has : (t : ℕ) → has_type Convert t ≡ ((BUF_TYPE_OUTPUT == t) || (BUF_TYPE_CAPTURE == t))
convert_has t =
    elim (BUF_TYPE_OUTPUT == t) as (λ a. nat_lt (if a then 0 else (if BUF_TYPE_CAPTURE == t then 0 else 0 + 1) + 1) 2 ≡ (a || (BUF_TYPE_CAPTURE == t))) [
      | true ↦ refl
      | false ↦ elim (BUF_TYPE_CAPTURE == t) as (λ b. nat_lt ((if b then 0 else 0 + 1) + 1) 2 ≡ b) [ true ↦ refl | false ↦ refl ]
    ]

apart_types : (t : ℕ) → (BUF_TYPE_OUTPUT == t) ≡ true → (BUF_TYPE_CAPTURE == t) ≡ false
apart_types t is = ap (λ u. BUF_TYPE_CAPTURE == u) (sym (eqb-true BUF_TYPE_OUTPUT t is))

-- of one type there is one, where the model has the type, and else none
pub one_of : (m : Model) (rs : List BufferRec) (t : ℕ) → OneEach m rs → has_type m t ≡ true → (b : BufferRec) × (of_type t rs ≡ b ∷ [])
one_of Capture rs t is has =
    let w : _ = one_only BUF_TYPE_CAPTURE rs is in
    (w.0, one_here BUF_TYPE_CAPTURE t w.0 rs w.1 w.2 (sym (capture_has t) ∙ has))
one_of Convert rs t is has =
    let w : _ = two_only BUF_TYPE_OUTPUT BUF_TYPE_CAPTURE rs is in
    elim (cases_Bool (BUF_TYPE_OUTPUT == t)) as (λ _. (b : BufferRec) × (of_type t rs ≡ b ∷ [])) [
      | inl same ↦ (w.0, two_first BUF_TYPE_OUTPUT BUF_TYPE_CAPTURE t w.0 w.1 rs w.2 w.3 w.4 same (apart_types t same))
      | inr other ↦ (
        w.1,
        two_second BUF_TYPE_OUTPUT BUF_TYPE_CAPTURE t w.0 w.1 rs w.2 w.3 w.4 other
            (ap (λ b. b || (BUF_TYPE_CAPTURE == t)) (sym other) ∙ (sym (convert_has t) ∙ has)),
      )
    ]

pub none_of : (m : Model) (rs : List BufferRec) (t : ℕ) → OneEach m rs → has_type m t ≡ false → of_type t rs ≡ []
none_of Capture rs t is hasnt =
    let w : _ = one_only BUF_TYPE_CAPTURE rs is in
    one_not BUF_TYPE_CAPTURE t w.0 rs w.1 w.2 (sym (capture_has t) ∙ hasnt)
none_of Convert rs t is hasnt =
    let w : _ = two_only BUF_TYPE_OUTPUT BUF_TYPE_CAPTURE rs is in
    let both : ((BUF_TYPE_OUTPUT == t) || (BUF_TYPE_CAPTURE == t)) ≡ false = sym (convert_has t) ∙ hasnt in
    let parts : _ = neither (BUF_TYPE_OUTPUT == t) (BUF_TYPE_CAPTURE == t) both in
    two_not BUF_TYPE_OUTPUT BUF_TYPE_CAPTURE t w.0 w.1 rs w.2 w.3 w.4 parts.0 parts.1
  where
    neither : (a b : Bool) → (a || b) ≡ false → (a ≡ false) × (b ≡ false)
    neither true b is = absurd (true≢false is)
    neither false b is = (refl, is)

-- ---- the buffer that was taken of a queue

-- the buffers that wait behind one that was taken
abbrev pub behind : SessionState → ℕ → List BufferRec
behind session t = map (λ (b : Queued). b.buffer) (session_queue session t).queued

-- the record of the buffer that was taken of a queue: that of the first buffer of the state's queue, which isn't among those
-- behind it
pub record IsTaken (session : SessionState) (s : LocalState) (t : ℕ) (b : BufferRec) : Type 0 where
  pub first : waiting session t ≡ b ∷ behind session t
  pub index : b.index ≡ head (queue_of s t)
  pub is : IsRecordOf s t b
  pub order : map (λ (r : BufferRec). r.index) (behind session t) ≡ drop 1 (queue_of s t).queued
  pub records : All (IsRecordOf s t) (behind session t)
  pub apart : All (λ (r : BufferRec). r.index ≢ head (queue_of s t)) (behind session t)

none_such : (h : ℕ) (rs : List BufferRec) → times (map (λ (r : BufferRec). r.index) rs) h ≡ 0 → All (λ (r : BufferRec). r.index ≢ h) rs
none_such h [] none = All-nil (λ (r : BufferRec). r.index ≢ h)
none_such h (r ∷ rs) none =
    let indices : List ℕ = map (λ (x : BufferRec). x.index) rs in
    let all : times (r.index ∷ indices) h ≡ once (r.index == h) + times indices h = times_cons r.index indices h in
    All-cons (λ (x : BufferRec). x.index ≢ h) r rs
    (λ same. let one : once (r.index == h) ≡ 1 = ap once (eq-eqb r.index h same) in absurd (omega (arith, one, all, none)))
    (none_such h rs (omega (arith, all, none)))

once_most : (b : Bool) → once b < 2
once_most true = omega arith
once_most false = omega arith

pub taken_is : (frames : List ℕ) (session : SessionState) (s : LocalState) (t : ℕ) (b : BufferRec) → IsReached s → StandsOn frames session s t →
    of_type t (taken_by session.running) ≡ b ∷ [] → IsTaken session s t b
taken_is frames session s t b (m, log, leads) on one =
    let first : waiting session t ≡ b ∷ behind session t = ap (λ rs. rs ++ behind session t) one in
    let records : All (IsRecordOf s t) (b ∷ behind session t) = subst (λ rs. All (IsRecordOf s t) rs) first on.records in
    let indices : List ℕ = map (λ (r : BufferRec). r.index) (behind session t) in
    let order : b.index ∷ indices ≡ (queue_of s t).queued = sym (ap (λ rs. map (λ (r : BufferRec). r.index) rs) first) ∙ on.order in
    let listed : AreListed s = listed_log m log s leads in
    let head : b.index ≡ head (queue_of s t) = ap (λ xs. slice_index xs 0) order in
    let few : times (b.index ∷ indices) b.index ≡ once (is_queued (buffer_of (queue_of s t) b.index).state) =
    ap (λ xs. times xs b.index) order ∙ (listed t b.index).0 in
    let here : once (b.index == b.index) ≡ 1 = ap once (eq-eqb b.index b.index refl) in
    let none : times indices b.index ≡ 0 =
    omega (arith, few, times_cons b.index indices b.index, here, once_most (is_queued (buffer_of (queue_of s t) b.index).state)) in
    record {
      first = first;
      index = head;
      is = All-head (IsRecordOf s t) b (behind session t) records;
      order = ap (λ xs. drop 1 xs) order;
      records = All-tail (IsRecordOf s t) b (behind session t) records;
      apart = subst (λ h. All (λ (r : BufferRec). r.index ≢ h) (behind session t)) head (none_such b.index (behind session t) none);
    }
