use Rattle.std.proofs.Common.{◌<◌, ℕ, length, sym, subst}
use Rattle.vm_guest.specs.Guest.{GuestState}
use Rattle.vm_guest.specs.Process.{ProcessState}
use Rattle.vm_guest.specs.Orderly.{IsDriver}
use Rattle.vm_guest.specs.Queues.{CanBeAnswered}
use Rattle.vm_guest.proofs.GuestAnswerLemmas.{answered_within, answers_there, there_in_order, answered_at, answered_is_driver}
use Rattle.vm_guest.proofs.guest.Guest.answer.Goals as goal

pub index_mut-caller-requires : goal.index_mut-caller-requires
index_mut-caller-requires c =
    let within : c.args.p < length c.self.inside.callers.items = answered_within c.args.done c.args.p _ c.args.self.now c.self.view_is c.requires in
    subst (λ (n : ℕ). c.args.p < n) (sym c.self.inside.callers.ok.0) within

pub answer-requires-clause-orderly : goal.answer-requires-clause-orderly
answer-requires-clause-orderly c =
    there_in_order c.args.done c.args.p _ c.args.self.now c.index_mut-caller.result.now c.self.invariant.0 (answers_there c.args.done c.args.p _ c.args.self.now c.index_mut-caller.result.now c.self.view_is c.requires c.index_mut-caller.ensures.value) c.self.invariant.1

pub answer-requires-clause-can : goal.answer-requires-clause-can
answer-requires-clause-can c =
    let a = answers_there c.args.done c.args.p _ c.args.self.now c.index_mut-caller.result.now c.self.view_is c.requires c.index_mut-caller.ensures.value in
    subst (λ (x : ProcessState). CanBeAnswered x c.args.done) a.there c.requires

pub invariant_of-self : goal.invariant_of-self
invariant_of-self c =
    let a = answers_there c.args.done c.args.p _ c.args.self.now c.index_mut-caller.result.now c.self.view_is c.requires c.index_mut-caller.ensures.value in
    (c.self.invariant.0, answered_is_driver c.args.done c.args.p _ c.args.self.now c.index_mut-caller.result.now c.answer.new.self c.self.invariant.0 a c.answer.ensures (subst (λ (x : GuestState). IsDriver c.self.invariant.0 x) c.self.view_is c.self.invariant.1))

pub returns-clause-answers : goal.returns-clause-answers
returns-clause-answers c =
    let a = answers_there c.args.done c.args.p _ c.args.self.now c.index_mut-caller.result.now c.self.view_is c.requires c.index_mut-caller.ensures.value in
    answered_at c.args.done c.args.p _ c.args.self.now c.index_mut-caller.result.now c.answer.new.self a c.answer.ensures

pub returns-clause-driver : goal.returns-clause-driver
returns-clause-driver c = λ script driver.
    let a = answers_there c.args.done c.args.p _ c.args.self.now c.index_mut-caller.result.now c.self.view_is c.requires c.index_mut-caller.ensures.value in
    answered_is_driver c.args.done c.args.p _ c.args.self.now c.index_mut-caller.result.now c.answer.new.self script a c.answer.ensures driver
