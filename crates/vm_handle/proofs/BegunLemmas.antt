-- How many lines a handle has begun.
use Rattle.std.proofs.Common.{◌≡◌, ◌+◌, ◌∙◌, inl, inr, ℕ, false, List, [], Option, Some, None, refl, sym, ap, subst}
use Rattle.v4l_const.specs.declared.errno.Errno.{Errno}
use Rattle.v4l_rules.specs.Refusals.{first_refusal}
use Rattle.vm_frame.specs.declared.mem.Held.{Held}
use Rattle.vm_local.specs.declared.call.Call.{Call}
use Rattle.vm_home.specs.Moves.{goes_along}
use Rattle.vm_log.specs.LegalLog.{LogState, state_of, lease_in}
use Rattle.vm_log.specs.Answers.{with_line, Sends, Leases, IsDone}
use Rattle.vm_exchange.specs.Exchange.{IsAnswer}
use Rattle.vm_lease.specs.Lease.{LeaseParts, IsApplied, IsDoneOn, CameBackDone}
use Rattle.vm_wire.specs.declared.response.Response.{Response}
use Rattle.vm_local.specs.declared.call.Call.TheVariants.{OpenHandle}
use Rattle.vm_local.specs.declared.reply.Reply.{Reply}
use Rattle.vm_log.specs.declared.leased.Leased.TheVariants.{Out}
use Rattle.vm_exchange.specs.declared.way.Way.{Way}
use Rattle.vm_exchange.specs.declared.way.Way.TheVariants.{Crosses, AnsweredHere, Waits, TouchesMemory}
use Rattle.vm_handle.specs.declared.started.Started.{Started}
use Rattle.vm_handle.specs.Handle.{HandleState, way_from}
use Rattle.vm_handle.specs.Answers.{row_from, answered_by, with_sent, AnswersHere, AnswersWith, Starts, with_reply}

-- as many lines were begun, of as many
pub record SameLines (old new : LogState) : Type 0 where
  pub begun : new.begun ≡ old.begun
  pub lines : new.lines ≡ old.lines

by_equal : (old mid new : LogState) → new ≡ mid → SameLines old mid → SameLines old new
by_equal old mid new is same = subst (λ (x : LogState). SameLines old x) (sym is) same

pub sends_same : (o : Option ℕ) (l : LogState) (call : Call) (along : Option Held) (new : LogState) → Sends o l call along new → SameLines l new
sends_same None l call along new sends = by_equal l l new sends.1 (record { begun = refl; lines = refl })
sends_same (Some n) l call None new sends = absurd sends
sends_same (Some n) l call (Some held) new sends = by_equal l _ new sends.2 (record { begun = refl; lines = refl })

answered_same : (o : Option Errno) (l : LogState) (line : ℕ) (call : Call) → SameLines l (answered_by o l line call)
answered_same None l line call = record { begun = refl; lines = refl }
answered_same (Some e) l line call = record { begun = refl; lines = refl }

here_same : (l new : LogState) (line : ℕ) (call : Call) → AnswersHere l line call new → SameLines l new
here_same l new line call (inl is) = by_equal l _ new is (answered_same (first_refusal (row_from l line call).refusals) l line call)
here_same l new line call (inr lacks) = by_equal l _ new lacks.new_is (record { begun = refl; lines = refl })

-- one line more
pub record OneLine (old new : LogState) : Type 0 where
  pub begun : new.begun ≡ old.begun + 1
  pub lines : new.lines ≡ old.lines

one_of : (l new : LogState) → SameLines (with_line l) new → OneLine l new
one_of l new same = record { begun = same.begun; lines = same.lines }

pub starts_one : (way : Way) (h h' : HandleState) (line : ℕ) (call : Call) (out out' : List ℕ) (held held' : List Held) (started : Started) → Starts way h line call out held started h' out' held' → OneLine h.log h'.log
starts_one (Crosses c) h h' line call out out' held held' started goes =
    subst (λ (x : HandleState). OneLine h.log x.log) (sym goes.handle) (one_of h.log goes.log (sends_same (goes_along (state_of h.log) call) (with_line h.log) call goes.along goes.log goes.sends))
starts_one AnsweredHere h h' line call out out' held held' started stays =
    subst (λ (x : HandleState). OneLine h.log x.log) (sym stays.handle) (one_of h.log stays.log (here_same (with_line h.log) stays.log line call stays.answers))
starts_one Waits h h' line call out out' held held' started waits =
    subst (λ (x : HandleState). OneLine h.log x.log) (sym waits.1) (one_of h.log (with_line h.log) (record { begun = refl; lines = refl }))
starts_one TouchesMemory h h' line call out out' held held' started none = absurd none

-- ---- an open

-- no memory goes along with it
pub open_starts : (h h' : HandleState) (line : ℕ) (out out' : List ℕ) (held held' : List Held) (started : Started) → Starts (way_from h (OpenHandle false)) h line (OpenHandle false) out held started h' out' held' →
    held ≡ [] → (held' ≡ []) × OneLine h.log h'.log
open_starts h h' line out out' held held' started goes none =
    (goes.memories ∙ (ap (λ o. with_sent held o) goes.sends.0 ∙ none), starts_one (way_from h (OpenHandle false)) h h' line (OpenHandle false) out out' held held' started goes)

pub open_replied : (h new : HandleState) (line : ℕ) (response : Response) (held : List Held) → AnswersWith (state_of h.log) line (OpenHandle false) response [] → held ≡ [] →
    ((reply : Reply) → IsAnswer (state_of h.log) line (OpenHandle false) response reply → new ≡ with_reply h line (OpenHandle false) reply response held) → SameLines h.log new.log
open_replied h new line response held a none replies =
    subst (λ (x : HandleState). SameLines h.log x.log) (sym (replies a.reply (a.next, a.session, (a.is_call, a.told)))) (record { begun = refl; lines = refl })

-- ---- a lease

-- a lease whose work was done may be given back
pub may_give_back : (o : Option Errno) (l : LogState) (line : ℕ) (call : Call) (lease done : LeaseParts) (new : LogState) → Leases o l line call (Out lease) new → IsApplied lease done → IsDone (lease_in new.away) done
may_give_back (Some e) l line call lease done new leases applied = absurd leases
may_give_back None l line call lease done new out applied =
    let back : CameBackDone out.entry done = record {
      line = applied.line ∙ sym out.noted.0;
      call = applied.call ∙ sym out.noted.1;
      done = subst (λ x. IsDoneOn x out.entry.mem.value done.mem done.reply) (sym out.noted.1) (subst (λ m. IsDoneOn lease.call m done.mem done.reply) (sym out.noted.2) applied.done);
    } in
    subst (λ (x : LogState). IsDone (lease_in x.away) done) (sym out.left) back
