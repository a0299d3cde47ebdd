-- While a handle isn't open nothing is owed, and no message is under way.
use Rattle.std.proofs.Common.{◌≡◌, ◌⊎◌, inl, inr, ℕ, ◌<◌, Bool, true, false, not, ◌&&◌, List, [], ◌∷◌, map, length, Option, Some, refl, sym, ap, ◌∙◌, subst, arith, if◌then◌else◌, true≢false}
use Rattle.std.specs.List.{list_all}
use Rattle.std.proofs.lemmas.Bool.{false≢true, cases_Bool}
use Rattle.std.proofs.lemmas.Option.{none-some}
use Rattle.v4l_const.specs.declared.errno.Errno.{Errno}
use Rattle.v4l_const.specs.declared.errno.Errno.TheVariants.{Ebadf}
use Rattle.v4l_const.specs.declared.model.Model.{Model}
use Rattle.v4l_const.specs.declared.model.Model.TheVariants.{Capture, Convert}
use Rattle.v4l_rules.specs.Refusals.{first_refusal}
use Rattle.vm_local.specs.declared.call.Call.{Call}
use Rattle.vm_local.specs.declared.call.Call.TheVariants.{OpenHandle, CloseHandle, QueryCap, EnumFmt, GFmt, TryFmt, SFmt, EnumInput, GInput, SInput, ReqBufs, QueryBuf, UAlloc, QBuf, StreamOn, StreamOff, DqBuf, Mmap, Munmap, Peek, Hash, Poke, Fill, Subscribe, Unsubscribe, DqEvent}
use Rattle.vm_local.specs.declared.entry.Entry.{Entry}
use Rattle.vm_local.specs.declared.entry.Entry.TheVariants.{Called, Finish, Bad, Give}
use Rattle.vm_local.specs.declared.owed.Owed.{Owed as OwedEntry}
use Rattle.vm_local.specs.declared.reply.Reply.{Reply}
use Rattle.vm_local.specs.State.{QueueState, LocalState, opening}
use Rattle.vm_local.specs.Same.{address_in}
use Rattle.vm_local.specs.Queue.{can_finish, is_empty, stopped_queue, with_buffers}
use Rattle.vm_local.specs.Calls.{Row, row_of, closed, querycap_row, enumfmt_row, gfmt_row, tryfmt_row, sfmt_row, enuminput_row, ginput_row, sinput_row, reqbufs_row, querybuf_row, ualloc_row, qbuf_row, streamon_row, streamoff_row, dqbuf_row, mmap_row, munmap_row, read_row, hash_row, write_row, fill_row, subscribe_row, unsubscribe_row, dqevent_row}
use Rattle.vm_local.specs.Log.{row_for, called, after, replay_from}
use Rattle.vm_local.proofs.KeptLemmas.{some_same}
use Rattle.vm_local.proofs.StepLemmas.{answered_by, finished_by, failed_by, given_by, Gave}
use Rattle.vm_commute.specs.Commute.{may_cross, is_step}
use Rattle.vm_commute.proofs.EventsLemmas.{by_first}
use Rattle.vm_commute.proofs.ReachedLemmas.{reached_after, some_queues}
use Rattle.vm_home.specs.Reached.{IsReached}
use Rattle.vm_session.specs.declared.unsent.Unsent.{Unsent}
use Rattle.vm_stands.specs.Flight.{GivesFirst, Leads, LeadAll}
use Rattle.vm_stands.proofs.AheadLemmas.{reached_all}
use Rattle.vm_stands.proofs.FlightLemmas.{made_steps}
use Rattle.vm_realm.proofs.KeepStateLemmas.{step_alike, steps_alike, lead_alike}

-- ---- what calls do to it

-- a call is refused by a handle that isn't open, or changes nothing of what is owed and of the queues, or opens it
abbrev pub ShutRow : LocalState → Row → Type 0
ShutRow s r = (first_refusal r.refusals ≡ Some Ebadf) ⊎ (((r.next.opened ≡ s.opened) × (r.next.queues ≡ s.queues) × (r.next.owed ≡ s.owed)) ⊎ (r.next.opened ≡ true))

if_shut : (b : Bool) (x y : Option Errno) → b ≡ false → (if not b then x else y) ≡ x
if_shut b x y h = rw h refl

pub shut_row : (s : LocalState) (line addr : ℕ) (call : Call) → s.opened ≡ false → ShutRow s (row_of s line addr call)
unfolding querycap_row enumfmt_row gfmt_row tryfmt_row sfmt_row enuminput_row ginput_row sinput_row reqbufs_row querybuf_row ualloc_row qbuf_row streamon_row streamoff_row dqbuf_row mmap_row munmap_row read_row hash_row write_row fill_row subscribe_row unsubscribe_row dqevent_row
shut_row s line addr (OpenHandle nonblock) h = inr (inr refl)
shut_row s line addr CloseHandle h = inl (if_shut s.opened (Some Ebadf) _ h)
shut_row s line addr QueryCap h = inl (if_shut s.opened (Some Ebadf) _ h)
shut_row s line addr (EnumFmt t i) h = inl (if_shut s.opened (Some Ebadf) _ h)
shut_row s line addr (GFmt t) h = inl (if_shut s.opened (Some Ebadf) _ h)
shut_row s line addr (TryFmt t f w v) h = inl (if_shut s.opened (Some Ebadf) _ h)
shut_row s line addr (SFmt t f w v) h = inl (if_shut s.opened (Some Ebadf) _ h)
shut_row s line addr (EnumInput i) h = inl (if_shut s.opened (Some Ebadf) _ h)
shut_row s line addr GInput h = inl (if_shut s.opened (Some Ebadf) _ h)
shut_row s line addr (SInput i) h = inl (if_shut s.opened (Some Ebadf) _ h)
shut_row s line addr (ReqBufs t m n) h = inl (if_shut s.opened (Some Ebadf) _ h)
shut_row s line addr (QueryBuf t i) h = inl (if_shut s.opened (Some Ebadf) _ h)
shut_row s line addr (UAlloc u len off) h = inl (if_shut s.opened (Some Ebadf) _ h)
shut_row s line addr (QBuf t i user used ts) h = inl (if_shut s.opened (Some Ebadf) _ h)
shut_row s line addr (StreamOn t) h = inl (if_shut s.opened (Some Ebadf) _ h)
shut_row s line addr (StreamOff t) h = inl (if_shut s.opened (Some Ebadf) _ h)
shut_row s line addr (DqBuf t) h = inl (if_shut s.opened (Some Ebadf) _ h)
shut_row s line addr (Mmap m t i ro) h = inl (if_shut s.opened (Some Ebadf) _ h)
shut_row s line addr (Munmap m) h = inr (inl (refl, refl, refl))
shut_row s line addr (Peek m off len) h = inr (inl (refl, refl, refl))
shut_row s line addr (Hash m) h = inr (inl (refl, refl, refl))
shut_row s line addr (Poke m off bytes) h = inr (inl (refl, refl, refl))
shut_row s line addr (Fill m seed) h = inr (inl (refl, refl, refl))
shut_row s line addr (Subscribe v) h = inl (if_shut s.opened (Some Ebadf) _ h)
shut_row s line addr (Unsubscribe v) h = inl (if_shut s.opened (Some Ebadf) _ h)
shut_row s line addr DqEvent h = inl (if_shut s.opened (Some Ebadf) _ h)

-- a call leaves a handle open or not, or opens it, or closes it
pub open_row : (s : LocalState) (line addr : ℕ) (call : Call) →
    ((row_of s line addr call).next.opened ≡ s.opened) ⊎ (((row_of s line addr call).next.opened ≡ true) ⊎ ((row_of s line addr call).next ≡ closed s))
unfolding querycap_row enumfmt_row gfmt_row tryfmt_row sfmt_row enuminput_row ginput_row sinput_row reqbufs_row querybuf_row ualloc_row qbuf_row streamon_row streamoff_row dqbuf_row mmap_row munmap_row read_row hash_row write_row fill_row subscribe_row unsubscribe_row dqevent_row with_buffers
open_row s line addr (OpenHandle nonblock) = inr (inl refl)
open_row s line addr CloseHandle = inr (inr refl)
open_row s line addr QueryCap = inl refl
open_row s line addr (EnumFmt t i) = inl refl
open_row s line addr (GFmt t) = inl refl
open_row s line addr (TryFmt t f w v) = inl refl
open_row s line addr (SFmt t f w v) = inl refl
open_row s line addr (EnumInput i) = inl refl
open_row s line addr GInput = inl refl
open_row s line addr (SInput i) = inl refl
open_row s line addr (ReqBufs t m n) = inl refl
open_row s line addr (QueryBuf t i) = inl refl
open_row s line addr (UAlloc u len off) = inl refl
open_row s line addr (QBuf t i user used ts) = inl refl
open_row s line addr (StreamOn t) = inl refl
open_row s line addr (StreamOff t) = inl refl
open_row s line addr (DqBuf t) = inl refl
open_row s line addr (Mmap m t i ro) = inl refl
open_row s line addr (Munmap m) = inl refl
open_row s line addr (Peek m off len) = inl refl
open_row s line addr (Hash m) = inl refl
open_row s line addr (Poke m off bytes) = inl refl
open_row s line addr (Fill m seed) = inl refl
open_row s line addr (Subscribe v) = inl refl
open_row s line addr (Unsubscribe v) = inl refl
open_row s line addr DqEvent = inl refl

-- ---- the invariant

-- nothing is owed, and no frame can be finished
abbrev pub IsBare : LocalState → Type 0
IsBare s = (s.owed ≡ []) × (can_finish s ≡ false)

abbrev pub IsBareShut : LocalState → Type 0
IsBareShut s = s.opened ≡ false → IsBare s

abbrev list_all_ready : List QueueState → Bool
list_all_ready qs = list_all (λ q. q.streaming && not (is_empty q.queued)) qs

stopped_unready : (qs : List QueueState) → 0 < length qs → list_all_ready (map stopped_queue qs) ≡ false
stopped_unready [] some = absurd (omega (arith, some))
stopped_unready (q ∷ qs) some = refl

bare_call : (s t : LocalState) (line : ℕ) (call : Call) (reply : Reply) → IsReached s → IsBareShut s → called s line call reply ≡ Some t → IsBareShut t
unfolding called
bare_call s t line call reply reached bare leads =
    let r : Row = row_for s line call reply in
    elim (answered_by (first_refusal r.refusals) r s reply t leads) as (λ _. IsBareShut t) [
      | inl same ↦ subst IsBareShut (sym same) bare
      | inr w ↦ subst IsBareShut (sym w.3) (elim (cases_Bool s.opened) as (λ _. IsBareShut r.next) [
        | inl was_open ↦ elim (open_row s line (address_in reply) call) as (λ _. IsBareShut r.next) [
          | inl stays ↦ λ shut. absurd (true≢false (sym was_open ∙ (sym stays ∙ shut)))
          | inr other ↦ elim other as (λ _. IsBareShut r.next) [
            | inl opens ↦ λ shut. absurd (true≢false (sym opens ∙ shut))
            | inr closes ↦ λ shut. subst IsBare (sym closes) (refl, stopped_unready s.queues (some_queues s reached))
          ]
        ]
        | inr shut_before ↦ elim (shut_row s line (address_in reply) call shut_before) as (λ _. IsBareShut r.next) [
          | inl refused ↦ absurd (none-some Ebadf (sym w.0 ∙ refused))
          | inr rest ↦ elim rest as (λ _. IsBareShut r.next) [
            | inl same ↦ λ shut. (same.2 ∙ (bare shut_before).0, ap list_all_ready same.1 ∙ (bare shut_before).1)
            | inr opens ↦ λ shut. absurd (true≢false (sym opens ∙ shut))
          ]
        ]
      ])
    ]

nothing : (o : OwedEntry) (rest : List OwedEntry) → [] ≡ o ∷ rest → ⊥
nothing o rest h = true≢false (ap (λ xs. is_empty xs) h)

-- no step of the device is made while it isn't open
pub no_step : (s t : LocalState) (e : Entry) → is_step e ≡ true → IsBare s → after s e ≡ Some t → ⊥
no_step s t (Called line call reply) step bare leads = false≢true step
no_step s t Finish step bare leads = true≢false (sym (finished_by s t leads).0 ∙ bare.1)
no_step s t Bad step bare leads = true≢false (sym (failed_by s t leads).0 ∙ bare.1)
no_step s t Give step bare leads =
    let gave : Gave s s.owed t = given_by s t leads in
    nothing gave.0 gave.1 (sym bare.0 ∙ gave.2)

bare_step : (s t : LocalState) (e : Entry) → is_step e ≡ true → IsReached s → IsBareShut s → after s e ≡ Some t → IsBareShut t
bare_step s t e step reached bare leads =
    λ shut. absurd (no_step s t e step (bare (sym (step_alike s t e step reached leads).opened ∙ shut)) leads)

bare_after : (s t : LocalState) (e : Entry) → IsReached s → IsBareShut s → after s e ≡ Some t → IsBareShut t
bare_after s t (Called line call reply) reached bare leads = bare_call s t line call reply reached bare leads
bare_after s t Finish reached bare leads = bare_step s t Finish refl reached bare leads
bare_after s t Bad reached bare leads = bare_step s t Bad refl reached bare leads
bare_after s t Give reached bare leads = bare_step s t Give refl reached bare leads

bare_all : (log : List Entry) (s t : LocalState) → IsReached s → IsBareShut s → replay_from s log ≡ Some t → IsBareShut t
bare_all [] s t reached bare leads = subst IsBareShut (some_same s t s leads) bare
bare_all (e ∷ es) s t reached bare leads =
    let by : _ = by_first s t e es leads in
    bare_all es by.0 t (reached_after s by.0 e reached by.1) (bare_after s by.0 e reached bare by.1) by.2

pub opening_bare : (m : Model) → IsBareShut (opening m)
opening_bare Capture = λ shut. (refl, refl)
opening_bare Convert = λ shut. (refl, refl)

pub shut_bare : (s : LocalState) → IsReached s → s.opened ≡ false → IsBare s
shut_bare s (m, log, leads) shut = bare_all log (opening m) s (m, [], refl) (opening_bare m) leads shut

-- ---- messages

pub none_first : (id : ℕ) (s : LocalState) (owed : List OwedEntry) (e : Unsent) → owed ≡ [] → GivesFirst id s owed e → ⊥
none_first id s owed e is gives = subst (λ os. GivesFirst id s os e) is gives

-- no message leads on from a handle that isn't open
pub shut_leads : (id : ℕ) (r s : LocalState) (es : List Unsent) → IsReached r → s.opened ≡ false → LeadAll id r es s → es ≡ []
shut_leads id r s [] reached shut leads = refl
shut_leads id r s (e ∷ es) reached shut leads =
    let first : Leads id r e leads.0 = leads.1 in
    let before : r.opened ≡ false = sym (lead_alike id r s (e ∷ es) reached leads).opened ∙ shut in
    let made : first.made.opened ≡ false = (steps_alike _ r first.made (made_steps r.model e.msg) reached first.making).opened ∙ before in
    let there : IsReached first.made = reached_all _ r first.made reached first.making in
    absurd (none_first id first.made first.made.owed e (shut_bare first.made there made).0 first.gives)

-- ---- a call that never crosses

own_row : (s : LocalState) (line addr : ℕ) (call : Call) → may_cross call ≡ false →
    ((row_of s line addr call).next.opened ≡ s.opened) × ((row_of s line addr call).next.owed ≡ s.owed)
unfolding ualloc_row dqbuf_row read_row hash_row write_row fill_row dqevent_row
own_row s line addr (UAlloc u len off) own = (refl, refl)
own_row s line addr (DqBuf t) own = (refl, refl)
own_row s line addr (Peek m off len) own = (refl, refl)
own_row s line addr (Hash m) own = (refl, refl)
own_row s line addr (Poke m off bytes) own = (refl, refl)
own_row s line addr (Fill m seed) own = (refl, refl)
own_row s line addr DqEvent own = (refl, refl)
own_row s line addr call own = absurd (true≢false own)

-- it leaves the handle open or not, and what is owed
pub own_leaves : (s t : LocalState) (line : ℕ) (call : Call) (reply : Reply) → may_cross call ≡ false → called s line call reply ≡ Some t →
    (t.opened ≡ s.opened) × (t.owed ≡ s.owed)
unfolding called
own_leaves s t line call reply own leads =
    let r : Row = row_for s line call reply in
    elim (answered_by (first_refusal r.refusals) r s reply t leads) as (λ _. (t.opened ≡ s.opened) × (t.owed ≡ s.owed)) [
      | inl same ↦ (ap (λ (x : LocalState). x.opened) same, ap (λ (x : LocalState). x.owed) same)
      | inr w ↦
          let by : _ = own_row s line (address_in reply) call own in
          (ap (λ (x : LocalState). x.opened) w.3 ∙ by.0, ap (λ (x : LocalState). x.owed) w.3 ∙ by.1)
    ]
