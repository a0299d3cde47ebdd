-- A handle that isn't opened has no buffers.
use Rattle.std.proofs.Common.{◌≡◌, ◌⊎◌, inl, inr, ℕ, zero, suc, Bool, false, List, [], ◌∷◌, get_or, map, Option, Some, None, refl, sym, ap, ◌∙◌, subst, slice_get, not, if◌then◌else◌, ◌≢◌, true≢false}
use Rattle.std.specs.Option.{option_map, option_and_then}
use Rattle.std.proofs.lemmas.List.Elements.{All-head, All-tail}
use Rattle.std.proofs.lemmas.Option.{none-some}
use Rattle.v4l_const.specs.declared.errno.Errno.{Errno}
use Rattle.v4l_const.specs.declared.errno.Errno.TheVariants.{Ebadf}
use Rattle.v4l_const.specs.declared.model.Model.{Model}
use Rattle.v4l_const.specs.declared.model.Model.TheVariants.{Capture, Convert}
use Rattle.v4l_const.specs.Model.{queues as types_of}
use Rattle.vm_local.specs.declared.buffer.Buffer.{Buffer}
use Rattle.vm_local.specs.declared.call.Call.{Call}
use Rattle.vm_local.specs.declared.call.Call.TheVariants.{OpenHandle, CloseHandle, QueryCap, EnumFmt, GFmt, TryFmt, SFmt, EnumInput, GInput, SInput, ReqBufs, QueryBuf, UAlloc, QBuf, StreamOn, StreamOff, DqBuf, Mmap, Munmap, Peek, Hash, Poke, Fill, Subscribe, Unsubscribe, DqEvent}
use Rattle.vm_local.specs.declared.entry.Entry.{Entry}
use Rattle.vm_local.specs.declared.entry.Entry.TheVariants.{Called, Finish, Bad, Give}
use Rattle.vm_local.specs.declared.owed.Owed.{Owed}
use Rattle.vm_local.specs.declared.reply.Reply.{Reply}
use Rattle.vm_local.specs.declared.reply.Reply.TheVariants.{Done}
use Rattle.vm_local.specs.State.{QueueState, LocalState, opening, opening_queue}
use Rattle.vm_local.specs.Same.{address_in}
use Rattle.vm_local.specs.Queue.{can_finish, is_empty}
use Rattle.vm_local.specs.Calls.{Row, row_of, querycap_row, enumfmt_row, gfmt_row, tryfmt_row, sfmt_row, enuminput_row, ginput_row, sinput_row, reqbufs_row, querybuf_row, ualloc_row, qbuf_row, streamon_row, streamoff_row, dqbuf_row, mmap_row, munmap_row, read_row, hash_row, write_row, fill_row, subscribe_row, unsubscribe_row, dqevent_row}
use Rattle.v4l_rules.specs.Refusals.{first_refusal}
use Rattle.v4l_rules.specs.Queues.{place_in}
use Rattle.vm_local.specs.Log.{row_for, called, after, replay, replay_from}
use Rattle.vm_local.specs.Owner.{owner_by, owner_of}
use Rattle.vm_local.specs.Opens.{NeverOpens}
use Rattle.vm_local.proofs.KeptLemmas.{some_same}
use Rattle.vm_local.proofs.SameLemmas.{same_reply_decides}
use Rattle.vm_local.proofs.StepLemmas.{answered_by, finished_by, failed_by, given_by, Gave}

-- not open, no buffer, nothing owed
abbrev pub IsShut : LocalState → Type 0
IsShut s = (s.opened ≡ false) × (s.queues ≡ map (λ (t : ℕ). opening_queue) (types_of s.model)) × (s.owed ≡ [])

-- the call is an open that was done, or to be done
abbrev IsOpen : Call → Reply → Type 0
IsOpen call reply = (nonblock : Bool) × (call ≡ OpenHandle nonblock) × (reply ≡ Done)

if_shut : (b : Bool) (x y : Option Errno) → b ≡ false → (if not b then x else y) ≡ x
if_shut b x y h = rw h refl

-- a call is refused, or keeps it so, or is an open
shut_row : (s : LocalState) (line addr : ℕ) (call : Call) → IsShut s →
    (first_refusal (row_of s line addr call).refusals ≡ Some Ebadf) ⊎ (IsShut (row_of s line addr call).next ⊎ IsOpen call (row_of s line addr call).reply)
unfolding querycap_row enumfmt_row gfmt_row tryfmt_row sfmt_row enuminput_row ginput_row sinput_row reqbufs_row querybuf_row ualloc_row qbuf_row streamon_row streamoff_row dqbuf_row mmap_row munmap_row read_row hash_row write_row fill_row subscribe_row unsubscribe_row dqevent_row
shut_row s line addr (OpenHandle nonblock) h = inr (inr (nonblock, refl, refl))
shut_row s line addr CloseHandle h = inl (if_shut s.opened (Some Ebadf) _ h.0)
shut_row s line addr QueryCap h = inl (if_shut s.opened (Some Ebadf) _ h.0)
shut_row s line addr (EnumFmt t i) h = inl (if_shut s.opened (Some Ebadf) _ h.0)
shut_row s line addr (GFmt t) h = inl (if_shut s.opened (Some Ebadf) _ h.0)
shut_row s line addr (TryFmt t f w v) h = inl (if_shut s.opened (Some Ebadf) _ h.0)
shut_row s line addr (SFmt t f w v) h = inl (if_shut s.opened (Some Ebadf) _ h.0)
shut_row s line addr (EnumInput i) h = inl (if_shut s.opened (Some Ebadf) _ h.0)
shut_row s line addr GInput h = inl (if_shut s.opened (Some Ebadf) _ h.0)
shut_row s line addr (SInput i) h = inl (if_shut s.opened (Some Ebadf) _ h.0)
shut_row s line addr (ReqBufs t m n) h = inl (if_shut s.opened (Some Ebadf) _ h.0)
shut_row s line addr (QueryBuf t i) h = inl (if_shut s.opened (Some Ebadf) _ h.0)
shut_row s line addr (UAlloc u len off) h = inl (if_shut s.opened (Some Ebadf) _ h.0)
shut_row s line addr (QBuf t i user used ts) h = inl (if_shut s.opened (Some Ebadf) _ h.0)
shut_row s line addr (StreamOn t) h = inl (if_shut s.opened (Some Ebadf) _ h.0)
shut_row s line addr (StreamOff t) h = inl (if_shut s.opened (Some Ebadf) _ h.0)
shut_row s line addr (DqBuf t) h = inl (if_shut s.opened (Some Ebadf) _ h.0)
shut_row s line addr (Mmap m t i ro) h = inl (if_shut s.opened (Some Ebadf) _ h.0)
shut_row s line addr (Munmap m) h = inr (inl h)
shut_row s line addr (Peek m off len) h = inr (inl h)
shut_row s line addr (Hash m) h = inr (inl h)
shut_row s line addr (Poke m off bytes) h = inr (inl h)
shut_row s line addr (Fill m seed) h = inr (inl h)
shut_row s line addr (Subscribe v) h = inl (if_shut s.opened (Some Ebadf) _ h.0)
shut_row s line addr (Unsubscribe v) h = inl (if_shut s.opened (Some Ebadf) _ h.0)
shut_row s line addr DqEvent h = inl (if_shut s.opened (Some Ebadf) _ h.0)

never_ready : (m : Model) (s : LocalState) → s.queues ≡ map (λ (t : ℕ). opening_queue) (types_of m) → can_finish s ≡ false
never_ready Capture s h = rw h refl
never_ready Convert s h = rw h refl

nothing : (o : Owed) (rest : List Owed) → [] ≡ o ∷ rest → ⊥
nothing o rest h = true≢false (ap (λ xs. is_empty xs) h)

-- a call that isn't an open that was done keeps it so
shut_call : (s t : LocalState) (line : ℕ) (call : Call) (reply : Reply) → IsShut s →
    ((nonblock : Bool) → Called line call reply ≢ Called line (OpenHandle nonblock) Done) → called s line call reply ≡ Some t → IsShut t
unfolding called
shut_call s t line call reply h other leads =
    let r : Row = row_for s line call reply in
    elim (answered_by (first_refusal r.refusals) r s reply t leads) as (λ _. IsShut t) [
      | inl same ↦ subst IsShut (sym same) h
      | inr w ↦ elim (shut_row s line (address_in reply) call h) as (λ _. IsShut t) [
        | inl refused ↦ absurd (none-some Ebadf (sym w.0 ∙ refused))
        | inr rest ↦ elim rest as (λ _. IsShut t) [
          | inl shut ↦ subst IsShut (sym w.3) shut
          | inr is ↦
              let said : reply ≡ Done = sym ((same_reply_decides r.reply reply).0 w.2) ∙ is.2 in
              absurd (other is.0 (ap (λ c. Called line c reply) is.1 ∙ ap (λ x. Called line (OpenHandle is.0) x) said))
        ]
      ]
    ]

shut_step : (s t : LocalState) (e : Entry) → IsShut s → ((line : ℕ) (nonblock : Bool) → e ≢ Called line (OpenHandle nonblock) Done) →
    after s e ≡ Some t → IsShut t
shut_step s t (Called line call reply) h other leads = shut_call s t line call reply h (other line) leads
shut_step s t Finish h other leads = absurd (true≢false (sym (finished_by s t leads).0 ∙ never_ready s.model s h.1))
shut_step s t Bad h other leads = absurd (true≢false (sym (failed_by s t leads).0 ∙ never_ready s.model s h.1))
shut_step s t Give h other leads =
    let gave : Gave s s.owed t = given_by s t leads in
    absurd (nothing gave.0 gave.1 (sym h.2 ∙ gave.2))

shut_log : (log : List Entry) (s t : LocalState) → NeverOpens log → IsShut s → replay_from s log ≡ Some t → IsShut t
shut_log [] s t never h leads = subst IsShut (some_same s t s leads) h
shut_log (e ∷ es) s t never h leads =
    let P : Entry → Type 0 = λ x. (line : ℕ) (nonblock : Bool) → x ≢ Called line (OpenHandle nonblock) Done in
    elim (after s e) as (λ o. after s e ≡ o → option_and_then (λ u. replay_from u es) o ≡ Some t → IsShut t) [
      | None ↦ λ was k. absurd (none-some t k)
      | Some u ↦ λ was k. shut_log es u t (All-tail P e es never) (shut_step s u e h (All-head P e es never) was) k
    ] refl leads

no_owner_in : (us : List ℕ) (p i : ℕ) → slice_get (get_or (map (λ (t : ℕ). opening_queue) us) p opening_queue).buffers i ≡ None
no_owner_in [] p i = refl
no_owner_in (u ∷ us) zero i = refl
no_owner_in (u ∷ us) (suc p) i = no_owner_in us p i

pub never_owned : (m : Model) (log : List Entry) (s : LocalState) → replay m log ≡ Some s → NeverOpens log → (t i : ℕ) → owner_of s t i ≡ None
never_owned m log s leads never t i =
    let shut : IsShut s = shut_log log (opening m) s never (refl, refl, refl) leads in
    let P : List QueueState → Type 0 = λ qs. option_map (λ (b : Buffer). owner_by b.state) (slice_get (get_or qs (place_in (types_of s.model) t) opening_queue).buffers i) ≡ None in
    subst P (sym shut.1) (ap (λ o. option_map (λ (b : Buffer). owner_by b.state) o) (no_owner_in (types_of s.model) (place_in (types_of s.model) t) i))
