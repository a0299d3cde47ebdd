-- What is at home once a call is answered.
use Rattle.std.proofs.Common.{◌≡◌, inl, inr, ℕ, zero, suc, ◌+◌, ◌-◌, Bool, true, false, not, ◌||◌, ◌==◌, List, [], ◌++◌, length, get_or, take, drop, map, min, Option, Some, None, refl, sym, ap, ◌∙◌, subst, arith, if◌then◌else◌, get_or-set_same, length-append}
use Rattle.std.specs.List.{range_with_len}
use Rattle.std.proofs.lemmas.Bool.{true≢false, false≢true, cases_Bool, eqb-true}
use Rattle.std.proofs.lemmas.List.{append-nil}
use Rattle.std.proofs.lemmas.List.FromFn.{length-map-range_with_len}
use Rattle.v4l_const.specs.declared.errno.Errno.TheVariants.{Enomem}
use Rattle.v4l_format.specs.Fmt.{picture_size}
use Rattle.v4l_rules.specs.Queues.{place_in}
use Rattle.v4l_const.specs.Model.{queues as types_of}
use Rattle.vm_frame.specs.declared.mem.Held.{Held}
use Rattle.vm_frame.specs.declared.mem.Mem.{Mem}
use Rattle.vm_local.specs.declared.call.Call.{Call}
use Rattle.vm_local.specs.declared.call.Call.TheVariants.{OpenHandle, CloseHandle, ReqBufs, UAlloc, QBuf, StreamOff, Poke, Fill}
use Rattle.vm_local.specs.declared.entry.Entry.{Entry}
use Rattle.vm_local.specs.declared.entry.Entry.TheVariants.{Called}
use Rattle.vm_local.specs.declared.reply.Reply.{Reply}
use Rattle.vm_local.specs.declared.reply.Reply.TheVariants.{Done, Refused, Count}
use Rattle.vm_local.specs.State.{QueueState, LocalState, opening_queue, queue_of}
use Rattle.vm_local.specs.Queue.{is_user_ptr, memory_kind, fresh_buffer, fresh_buffers, granted, with_buffers}
use Rattle.vm_local.specs.Calls.{qbuf_row, reqbufs_row, opened_anew}
use Rattle.vm_local.specs.Log.{row_for, called, after}
use Rattle.vm_local.proofs.KeptLemmas.{refused_call}
use Rattle.vm_local.proofs.StepLemmas.{passes}
use Rattle.vm_home.specs.Home.{is_kept, AreInPlace, kept_only}
use Rattle.vm_home.specs.Moves.{is_refusal, goes_along, places_on, made_on, ComeBack, ComeWith, put_back, stopped_count, home_with}
use Rattle.vm_home.specs.Reached.{IsReached}
use Rattle.vm_home.proofs.FactLemmas.{facts_of}
use Rattle.vm_home.proofs.StillLemmas.{home_stays, leaves_call}
use Rattle.vm_home.proofs.MoveLemmas.{Went, went, opened_home}
use Rattle.vm_home.proofs.DeviceLemmas.{qbuf_home}
use Rattle.vm_home.proofs.StopLemmas.{memories_long}
use Rattle.vm_home.proofs.ComeLemmas.{stop_home, none_come, renewed, reqbufs_one}
use Rattle.vm_home.proofs.KeptLemmas.{kept_after, AreAlike, alike_back, alike_append, kept_alike, only_alike}
use Rattle.vm_home.proofs.ReplyLemmas.{may_cross}
use Rattle.vm_log.specs.Places.{fresh_from, is_opening, settled}

-- ---- where the memories that were made begin

fresh_long : (u m n size first : ℕ) → not (m == 1 || m == 2) ≡ false →
    length (if is_user_ptr (memory_kind m) then [] else places_on u (range_with_len 0 (length (fresh_buffers (memory_kind m) size first (granted n))))) ≡
    fresh_from (ReqBufs u m n) (Count (granted n))
fresh_long u m n size first kind = elim (cases_Bool (m == 1)) as (λ _. length (if is_user_ptr (memory_kind m) then [] else places_on u (range_with_len 0 (length (fresh_buffers (memory_kind m) size first (granted n))))) ≡ fresh_from (ReqBufs u m n) (Count (granted n))) [
  | inl one ↦
      let P : ℕ → Type 0 = λ k. length (if is_user_ptr (memory_kind k) then [] else places_on u (range_with_len 0 (length (fresh_buffers (memory_kind k) size first (granted n))))) ≡ fresh_from (ReqBufs u k n) (Count (granted n)) in
      let made : length (fresh_buffers (memory_kind 1) size first (granted n)) ≡ granted n = length-map-range_with_len (λ k. fresh_buffer size (Some k)) first (granted n) in
      let few : granted n ≡ min (granted n) 32 = omega arith in
      subst P (sym (eqb-true m 1 one))
      (length-map-range_with_len (λ i. record { queue = u; index = i }) 0 (length (fresh_buffers (memory_kind 1) size first (granted n))) ∙ (made ∙ few))
  | inr other ↦
      let P : ℕ → Type 0 = λ k. length (if is_user_ptr (memory_kind k) then [] else places_on u (range_with_len 0 (length (fresh_buffers (memory_kind k) size first (granted n))))) ≡ fresh_from (ReqBufs u k n) (Count (granted n)) in
      let two : (b : Bool) → not (m == 1 || b) ≡ false → b ≡ true = λ b. elim b as (λ b. not (m == 1 || b) ≡ false → b ≡ true) [ true ↦ λ _. refl | false ↦ λ k. absurd (true≢false (sym (rw other refl) ∙ k)) ] in
      subst P (sym (eqb-true m 2 (two (m == 2) kind))) refl
]

fresh_count : (s t : LocalState) (line : ℕ) (call : Call) (reply : Reply) (held : List Held) → IsReached s → is_refusal reply ≡ false → called s line call reply ≡ Some t →
    (come : ComeBack s t call held) → length come.fresh ≡ fresh_from call reply
unfolding reqbufs_row with_buffers
fresh_count s t line (ReqBufs u m n) reply held reached answers leads come =
    let w : Went (row_for s line (ReqBufs u m n) reply) reply t = went s line (ReqBufs u m n) reply t answers leads in
    let so : (k : ℕ) → (get_or (reqbufs_row s u m n).refusals k (false, Enomem)).0 ≡ false = passes (reqbufs_row s u m n).refusals w.pass in
    let size : ℕ = picture_size (queue_of s u).format in
    let v : QueueState = renewed s u m n in
    let here : queue_of (with_buffers s u (memory_kind m) (granted n)) u ≡ v =
    get_or-set_same s.queues (place_in (types_of s.model) u) v opening_queue (reqbufs_one s u m n (facts_of s reached).sound (so 1)).within in
    let P : QueueState → Type 0 = λ q. length (if is_user_ptr q.memory then [] else places_on u (range_with_len 0 (length q.buffers))) ≡ fresh_from (ReqBufs u m n) (Count (granted n)) in
    let those : length (made_on (with_buffers s u (memory_kind m) (granted n)) u) ≡ fresh_from (ReqBufs u m n) (Count (granted n)) =
    subst P (sym here) (fresh_long u m n size (length s.memories) (so 2)) in
    memories_long t (made_on t u) come.fresh come.made
    ∙ (ap (λ (x : LocalState). length (made_on x u)) w.next ∙ (those ∙ ap (λ r. fresh_from (ReqBufs u m n) r) (sym w.told)))
fresh_count s t line call reply held reached answers leads come = memories_long t [] come.fresh come.made

-- ---- the memories that come with a reply

-- with none of them all is as it was
with_none : (s : LocalState) (n : ℕ) (home : List (Option Mem)) → put_back s (take n []) home ++ map (λ (h : Held). Some h.mem) (drop n []) ≡ home
with_none s zero home = append-nil home
with_none s (suc n) home = append-nil home

abbrev pub placed : LocalState → ℕ → List Held → List (Option Mem) → List (Option Mem)
placed s n held home = put_back s (take n held) home ++ map (λ (h : Held). Some h.mem) (drop n held)

came : (s t : LocalState) (call : Call) (reply : Reply) (held : List Held) → is_refusal reply ≡ false → ComeWith s t call reply held → ComeBack s t call held
came s t call (Refused errno) held answers come = absurd (true≢false answers)
came s t call reply held answers come = come

none_came : (s t : LocalState) (call : Call) (reply : Reply) (held : List Held) → is_refusal reply ≡ true → ComeWith s t call reply held → held ≡ []
none_came s t call (Refused errno) held refused come = come
none_came s t call reply held refused come = absurd (false≢true refused)

-- all but those that were made are put back
pub placed_home : (s t : LocalState) (line : ℕ) (call : Call) (reply : Reply) (held : List Held) (home : List (Option Mem)) → IsReached s → called s line call reply ≡ Some t →
    ComeWith s t call reply held → placed s (length held - fresh_from call reply) held home ≡ home_with s call held home
placed_home s t line call reply held home reached leads come = elim (cases_Bool (is_refusal reply)) as (λ _. placed s (length held - fresh_from call reply) held home ≡ home_with s call held home) [
  | inl refused ↦
      let P : List Held → Type 0 = λ hs. placed s (length hs - fresh_from call reply) hs home ≡ home_with s call hs home in
      subst P (sym (none_came s t call reply held refused come)) (with_none s (length {A = Held} [] - fresh_from call reply) home ∙ sym (with_none s (stopped_count s call) home))
  | inr answers ↦
      let back : ComeBack s t call held = came s t call reply held answers come in
      let all : length held ≡ length back.back + length back.fresh = ap (λ hs. length hs) back.ordered ∙ length-append back.back back.fresh in
      let few : length back.fresh ≡ fresh_from call reply = fresh_count s t line call reply held reached answers leads back in
      let queued : length back.back ≡ stopped_count s call = memories_long s _ back.back back.queued in
      let count : length held - fresh_from call reply ≡ stopped_count s call = omega (arith, all, few, queued) in
      ap (λ n. placed s n held home) count
]

-- ---- an open

pub opens : (s t : LocalState) (line : ℕ) (call : Call) (reply : Reply) → is_opening call reply ≡ true → called s line call reply ≡ Some t → (nonblock : Bool) × (called s line (OpenHandle nonblock) Done ≡ Some t) × (t ≡ opened_anew s nonblock)
opens s t line (OpenHandle nonblock) Done is leads = (nonblock, leads, (went s line (OpenHandle nonblock) Done t refl leads).next)
opens s t line (OpenHandle nonblock) reply is leads = absurd (false≢true is)
opens s t line call reply is leads = absurd (false≢true is)

-- ---- each answer

-- what goes along with a call that isn't refused has been away until then
answered_home : (s t : LocalState) (line : ℕ) (call : Call) (reply : Reply) (held : List Held) (home : List (Option Mem)) → IsReached s → may_cross call ≡ true → is_opening call reply ≡ false →
    is_refusal reply ≡ false → called s line call reply ≡ Some t → ComeBack s t call held → AreInPlace s (goes_along s call) home → AreInPlace t None (home_with s call held home)
unfolding qbuf_row
answered_home s t line (OpenHandle nonblock) reply held home reached crosses other answers leads come h =
    let w : Went (row_for s line (OpenHandle nonblock) reply) reply t = went s line (OpenHandle nonblock) reply t answers leads in
    absurd (false≢true (sym other ∙ ap (λ r. is_opening (OpenHandle nonblock) r) w.told))
answered_home s t line CloseHandle reply held home reached crosses other answers leads come h =
    stop_home s t line CloseHandle reply held home reached refl answers leads come h
answered_home s t line (ReqBufs u m n) reply held home reached crosses other answers leads come h =
    stop_home s t line (ReqBufs u m n) reply held home reached refl answers leads come h
answered_home s t line (StreamOff u) reply held home reached crosses other answers leads come h =
    stop_home s t line (StreamOff u) reply held home reached refl answers leads come h
answered_home s t line (QBuf u i user used ts) reply held home reached crosses other answers leads come h =
    let call : Call = QBuf u i user used ts in
    let w : Went (row_for s line call reply) reply t = went s line call reply t answers leads in
    let done : called s line call Done ≡ Some t = subst (λ r. called s line call r ≡ Some t) w.told leads in
    let same : home_with s call held home ≡ home = (none_come s t call held home refl come).1 in
    subst (λ hs. AreInPlace t None hs) (sym same) (qbuf_home s t line u i user used ts home reached done h)
answered_home s t line (UAlloc u len off) reply held home reached crosses other answers leads come h = absurd (false≢true crosses)
answered_home s t line (Poke m off bytes) reply held home reached crosses other answers leads come h = absurd (false≢true crosses)
answered_home s t line (Fill m seed) reply held home reached crosses other answers leads come h = absurd (false≢true crosses)
answered_home s t line call reply held home reached crosses other answers leads come h =
    let same : home_with s call held home ≡ home = (none_come s t call held home refl come).1 in
    subst (λ hs. AreInPlace t None hs) (sym same) (home_stays s t None home (leaves_call s t line call reply reached refl leads) h)

refused_at : (s t : LocalState) (line : ℕ) (call : Call) (reply : Reply) → is_refusal reply ≡ true → called s line call reply ≡ Some t → t ≡ s
refused_at s t line call (Refused errno) is leads = refused_call s line call errno t leads
refused_at s t line call reply is leads = absurd (false≢true is)

-- the memories that come with a reply are at home
pub settled_home : (s t : LocalState) (line : ℕ) (call : Call) (reply : Reply) (held : List Held) (home : List (Option Mem)) (out : Option ℕ) → IsReached s → may_cross call ≡ true →
    (is_refusal reply ≡ true → out ≡ None) → (is_refusal reply ≡ false → out ≡ goes_along s call) → called s line call reply ≡ Some t → ComeWith s t call reply held →
    AreInPlace s out home → AreInPlace t None (settled s call reply held home)
settled_home s t line call reply held home out reached crosses stays goes leads come h = elim (cases_Bool (is_opening call reply)) as (λ _. AreInPlace t None (settled s call reply held home)) [
  | inl opening ↦
      let w : _ = opens s t line call reply opening leads in
      subst (λ b. AreInPlace t None (if b then [] else home_with s call held home)) (sym opening) (opened_home s t line w.0 w.1)
  | inr other ↦
      let P : Bool → Type 0 = λ b. AreInPlace t None (if b then [] else home_with s call held home) in
      subst P (sym other) (elim (cases_Bool (is_refusal reply)) as (λ _. AreInPlace t None (home_with s call held home)) [
        | inl refused ↦
            let same : home_with s call held home ≡ home = ap (λ hs. home_with s call hs home) (none_came s t call reply held refused come) ∙ with_none s (stopped_count s call) home in
            subst (λ x. AreInPlace x None (home_with s call held home)) (sym (refused_at s t line call reply refused leads))
            (subst (λ hs. AreInPlace s None hs) (sym same) (subst (λ o. AreInPlace s o home) (stays refused) h))
        | inr answers ↦
            answered_home s t line call reply held home reached crosses other answers leads (came s t call reply held answers come) (subst (λ o. AreInPlace s o home) (goes answers) h)
      ])
]

-- ---- what the handle has of it

-- of the memories that were made before, the handle has none anew
pub old_alike : (s t : LocalState) (e : Entry) (home : List (Option Mem)) → IsReached s → after s e ≡ Some t → length home ≡ length s.memories →
    AreAlike (λ m. is_kept t m ≡ true) (kept_only s home) home
old_alike s t e home reached leads long =
    only_alike s (λ m. is_kept t m ≡ true) home long (λ m made kept. kept_after s t e m reached leads made kept)

pub settled_kept : (s t : LocalState) (line : ℕ) (call : Call) (reply : Reply) (held : List Held) (home : List (Option Mem)) → IsReached s → called s line call reply ≡ Some t →
    length home ≡ length s.memories → kept_only t (settled s call reply held home) ≡ kept_only t (home_with s call held (kept_only s home))
settled_kept s t line call reply held home reached leads long = elim (cases_Bool (is_opening call reply)) as (λ _. kept_only t (settled s call reply held home) ≡ kept_only t (home_with s call held (kept_only s home))) [
  | inl opening ↦
      let w : _ = opens s t line call reply opening leads in
      subst (λ x. kept_only x (settled s call reply held home) ≡ kept_only x (home_with s call held (kept_only s home))) (sym w.2) refl
  | inr other ↦
      let P : ℕ → Type 0 = λ m. is_kept t m ≡ true in
      let n : ℕ = stopped_count s call in
      let alike : AreAlike P (home_with s call held (kept_only s home)) (home_with s call held home) =
      alike_append P _ _ (map (λ (h : Held). Some h.mem) (drop n held)) (alike_back P s (take n held) (kept_only s home) home (old_alike s t (Called line call reply) home reached leads long)) in
      let Q : Bool → Type 0 = λ b. kept_only t (if b then [] else home_with s call held home) ≡ kept_only t (home_with s call held (kept_only s home)) in
      subst Q (sym other) (sym (kept_alike t (home_with s call held (kept_only s home)) (home_with s call held home) alike.1))
]
