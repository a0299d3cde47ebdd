-- A message that is delivered brings no lease back and takes none out.
use Rattle.std.proofs.Common.{◌≡◌, ℕ, ◌≤◌, List, [], ◌∷◌, Option, Some, None, refl, ap, ◌∙◌, arith}
use Rattle.v4l_const.specs.declared.errno.Errno.{Errno}
use Rattle.v4l_rules.specs.Refusals.{first_refusal}
use Rattle.vm_frame.specs.declared.mem.Held.{Held}
use Rattle.vm_local.specs.declared.call.Call.{Call}
use Rattle.vm_local.specs.declared.entry.Entry.{Entry}
use Rattle.vm_log.specs.LegalLog.{LogState, lease_in, with_entry, state_of}
use Rattle.vm_log.specs.declared.away.Away.TheVariants.{Nothing}
use Rattle.vm_wire.specs.declared.event.EventMsg.{EventMsg}
use Rattle.vm_exchange.specs.Messages.{made_by}
use Rattle.vm_exchange.specs.declared.way.Way.{Way}
use Rattle.vm_exchange.specs.declared.way.Way.TheVariants.{Crosses, AnsweredHere, Waits, TouchesMemory}
use Rattle.vm_handle.specs.Handle.{HandleState, way_from}
use Rattle.vm_handle.specs.Answers.{row_from, answered_by, answered_here, with_steps, with_given, answered_at, awoken, delivered}
use Rattle.vm_handle.specs.declared.stage.Stage.{Stage}
use Rattle.vm_handle.specs.declared.stage.Stage.TheVariants.{AtRest, Underway, Waiting}
use Rattle.vm_realm.proofs.SumLemmas.{one_in}

abbrev pub lent_by : LogState → ℕ
lent_by l = one_in (lease_in l.away)

steps_away : (l : LogState) (es : List Entry) → (with_steps l es).away ≡ l.away
steps_away l [] = refl
steps_away l (e ∷ es) = steps_away (with_entry l e l.home) es

given_away : (l : LogState) (held : Option Held) → (with_given l held).away ≡ l.away
given_away l None = refl
given_away l (Some held) = refl

here_away : (o : Option Errno) (l : LogState) (line : ℕ) (call : Call) → (answered_by o l line call).away ≡ Nothing
here_away None l line call = refl
here_away (Some errno) l line call = refl

answered_lent : (way : Way) (h : HandleState) (line : ℕ) (call : Call) → lent_by (answered_at way h line call).log ≤ lent_by h.log
answered_lent AnsweredHere h line call =
    let none : lent_by (answered_here h.log line call) ≡ 0 =
    ap (λ a. one_in (lease_in a)) (here_away (first_refusal (row_from h.log line call).refusals) h.log line call) in
    omega (arith, none)
answered_lent (Crosses c) h line call = omega arith
answered_lent Waits h line call = omega arith
answered_lent TouchesMemory h line call = omega arith

awoken_lent : (stage : Stage) (h : HandleState) → lent_by (awoken stage h).log ≤ lent_by h.log
awoken_lent AtRest h = omega arith
awoken_lent (Underway line call) h = omega arith
awoken_lent (Waiting line call) h = answered_lent (way_from h call) h line call

pub delivered_lent : (h : HandleState) (msg : EventMsg) (held : Option Held) → lent_by (delivered h msg held).log ≤ lent_by h.log
delivered_lent h msg held =
    let logged : LogState = with_steps h.log (made_by (state_of h.log).model msg) in
    let same : (with_given logged held).away ≡ h.log.away = given_away logged held ∙ steps_away h.log (made_by (state_of h.log).model msg) in
    let lent : lent_by (with_given logged held) ≡ lent_by h.log = ap (λ a. one_in (lease_in a)) same in
    omega (arith, lent, awoken_lent h.stage (record h { log = with_given logged held }))
