-- How one process takes an event, lends a memory and takes it back.
use Rattle.std.proofs.Common.{◌≡◌, ◌<◌, ◌+◌, ℕ, true, List, length, get_or, Option, Some, None, IfSome, refl, sym, ap, ◌∙◌, subst}
use Rattle.std.proofs.lemmas.Option.{slice_get_within}
use Rattle.vm_chain.specs.declared.desc.Desc.{Desc}
use Rattle.vm_home.specs.Moves.{touches_bytes}
use Rattle.vm_lease.specs.declared.lease_out.LeaseOut.{LeaseOut}
use Rattle.vm_link.specs.declared.parcel.Parcel.{Parcel}
use Rattle.vm_log.specs.LegalLog.{lease_in}
use Rattle.vm_handle.specs.Handle.{HandleState}
use Rattle.vm_guest.specs.Asking.{asked_by}
use Rattle.vm_guest.specs.Caller.{CanBegin, away_in}
use Rattle.vm_guest.specs.Orderly.{HasOrder, HasChains}
use Rattle.vm_guest.specs.Process.{ProcessState, current, current_call, next, leasing, some_if, is_lent, no_handle, handle_in, lease_on, lease_out}
use Rattle.vm_guest.specs.declared.asked.Asked.{Asked}
use Rattle.vm_guest.specs.declared.asked.Statement.{Statement}
use Rattle.vm_guest.specs.declared.status.Status.TheVariants.{AtRest, Lent}
use Rattle.vm_guest.proofs.CallerLemmas.{stands_at, chains_here, chains_waiting}
use Rattle.vm_guest.proofs.ProcessLemmas.{IsNext, is_next}
use Rattle.vm_guest.proofs.StatementLemmas.{current_within, can_begin, leasing_next}

-- ---- an event

within_all : (o : Option Asked) (n : ℕ) → ((a : Asked) → o ≡ Some a → a.handle < n) → IfSome o (λ a. a.handle < n)
within_all None n each = tt
within_all (Some a) n each = each a refl

-- the call that is asked is on one of the handles, whichever they are
pub asked_within : (p o : ProcessState) (hs : List HandleState) → p ≡ o → HasOrder o → length hs ≡ length p.handles → IfSome (current_call p) (λ a. a.handle < length hs)
asked_within p o hs same order long =
    within_all (current_call p) (length hs) (λ a is. subst (λ n. a.handle < n) (sym long) (current_within p a (subst HasOrder (sym same) order) is))

-- ---- a lease

-- The call that is begun by a lease.
pub record IsLeasing (p : ProcessState) (a : Asked) : Type 0 where
  pub statement : Statement
  pub next_is : next p ≡ Some statement
  pub asked : asked_by statement ≡ Some a
  pub rests : p.status ≡ AtRest
  pub at : current p ≡ Some statement
  pub touches : touches_bytes a.call ≡ true
  pub within : p.answered < length p.statements

pub leasing_is : (p o : ProcessState) (a : Asked) → p ≡ o → leasing o ≡ Some a → IsLeasing p a
leasing_is p o a same is =
    let w : _ = leasing_next p a (subst (λ x. leasing x ≡ Some a) (sym same) is) in
    let n : IsNext p w.0 = is_next p w.0 w.1 in
    record { statement = w.0; next_is = w.1; asked = w.2; rests = n.rests; at = n.at; touches = w.3; within = slice_get_within p.statements p.answered w.0 n.at }

pub may_lease : (p o : ProcessState) (a : Asked) → p ≡ o → HasOrder o → leasing o ≡ Some a → CanBegin p.handles a
may_lease p o a same order is =
    let w : IsLeasing p a = leasing_is p o a same is in
    can_begin p w.statement a (subst HasOrder (sym same) order) w.next_is w.asked

pub kept_out : (p o : ProcessState) (a : Asked) (hs : List HandleState) (chain : Option Parcel) (tables : List (List Desc)) → p ≡ o → leasing o ≡ Some a → HasChains p chain tables →
    HasChains (record p { handles = hs; status = Lent }) chain tables
kept_out p o a hs chain tables same is has =
    let w : IsLeasing p a = leasing_is p o a same is in
    (chains_waiting p w.statement hs chain tables w.rests w.at has).1

pub kept_refused : (p o : ProcessState) (a : Asked) (hs : List HandleState) (chain : Option Parcel) (tables : List (List Desc)) → p ≡ o → leasing o ≡ Some a → HasChains p chain tables →
    HasChains (record p { handles = hs; answered = p.answered + 1 }) chain tables
kept_refused p o a hs chain tables same is has =
    let w : IsLeasing p a = leasing_is p o a same is in
    subst (λ x. HasChains (record p { handles = hs; answered = p.answered + 1; status = x }) chain tables) (sym w.rests) (chains_here p w.statement hs chain tables w.rests w.at has)

-- ---- the lease comes back

-- what is out is that of the call's handle
pub out_is : (p o : ProcessState) (a : Asked) → p ≡ o → p.status ≡ Lent → current_call p ≡ Some a → lease_out o ≡ lease_in (away_in p.handles a.handle)
out_is p o a same lent asks = sym (ap lease_out same) ∙ (ap (λ x. some_if (is_lent x) (lease_on p (current_call p))) lent ∙ ap (λ c. lease_on p c) asks)

pub call_within : (p o : ProcessState) (a : Asked) → p ≡ o → HasOrder o → current_call o ≡ Some a → a.handle < length p.handles
call_within p o a same order asks = subst (λ (x : ProcessState). a.handle < length x.handles) (sym same) (current_within o a order asks)

-- what the call's handle has out
pub out_there : (p o : ProcessState) (a : Asked) (handle : HandleState) (out : Option LeaseOut) → p ≡ o → HasOrder o → p.status ≡ Lent → current_call o ≡ Some a →
    handle ≡ get_or p.handles a.handle handle → out ≡ lease_in handle.log.away → out ≡ lease_out o
out_there p o a handle out same order lent asks stands is =
    let inside : a.handle < length p.handles = call_within p o a same order asks in
    let there : handle ≡ handle_in p.handles a.handle = stands ∙ stands_at p.handles a.handle handle no_handle inside in
    is ∙ (ap (λ (h : HandleState). lease_in h.log.away) there ∙ sym (out_is p o a same lent (ap (λ x. current_call x) same ∙ asks)))
