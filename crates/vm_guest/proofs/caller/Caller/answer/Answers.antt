use Rattle.std.proofs.Common.{sym, ap, ◌∙◌}
use Rattle.vm_guest.specs.Process.{crossing_call}
use Rattle.vm_guest.proofs.CallerAnswerLemmas.{call_back, may_log, answers_call, kept_call, raw_back, raw_places, answers_raw, kept_raw}
use Rattle.vm_guest.proofs.caller.Caller.answer.Goals as goal
use Rattle.vm_guest.proofs.caller.Caller.answer.Goals.{in-Some, in-None}

pub answer_call-chain-requires : goal.answer_call-chain-requires
answer_call-chain-requires c =
    may_log _ c.args.self.now c.in-Some.asked c.args.done c.self.view_is c.requires.orderly
    (call_back _ c.args.self.now c.in-Some.asked c.args.done c.self.view_is c.requires.can (ap crossing_call c.self.view_is ∙ (sym c.crossing_call.ensures ∙ c.in-Some.is)))

pub invariant_of-self : goal.invariant_of-self
invariant_of-self c =
    elim c.match-crossing_call.branch [
      | in-Some w ↦ rw (w.self-inside-is, w.chain-is)
          (kept_call _ w.in-Some.asked c.args.done w.answer_call-chain.new.handles.items w.answer_call-chain.result c.self.inside.chain c.self.inside.tables.items
          (call_back _ c.args.self.now w.in-Some.asked c.args.done c.self.view_is c.requires.can (ap crossing_call c.self.view_is ∙ (sym c.crossing_call.ensures ∙ w.in-Some.is)))
          w.answer_call-chain.ensures.chain c.self.invariant)
      | in-None w ↦
          let back = raw_back _ c.args.self.now c.args.done c.self.view_is c.requires.can (ap crossing_call c.self.view_is ∙ (sym c.crossing_call.ensures ∙ w.in-None.is)) in
          rw (w.self-inside-is, w.chain-is)
          (kept_raw _ c.args.done _ w.answer_raw-chain.result c.self.inside.chain c.self.inside.tables.items w.index_mut-in-None.result.now w.answer_raw-chain.new.table back c.self.invariant
          w.index_mut-in-None.ensures.value (raw_places _ c.args.self.now c.args.done c.self.inside.chain c.self.inside.tables.items c.self.view_is c.requires.orderly back c.self.invariant).1
          w.answer_raw-chain.ensures.chain)
    ]

pub returns : goal.returns
returns c =
    elim c.match-crossing_call.branch [
      | in-Some w ↦ rw (w.self-inside-is)
          (answers_call _ c.args.self.now w.in-Some.asked c.args.done w.answer_call-chain.new.handles.items c.self.view_is
          (call_back _ c.args.self.now w.in-Some.asked c.args.done c.self.view_is c.requires.can (ap crossing_call c.self.view_is ∙ (sym c.crossing_call.ensures ∙ w.in-Some.is)))
          w.answer_call-chain.ensures.handles w.answer_call-chain.ensures.keeps)
      | in-None w ↦ rw (w.self-inside-is)
          (answers_raw _ c.args.self.now c.args.done w.answer_raw-chain.new.answer c.self.view_is (raw_back _ c.args.self.now c.args.done c.self.view_is c.requires.can (ap crossing_call c.self.view_is ∙ (sym c.crossing_call.ensures ∙ w.in-None.is))) w.answer_raw-chain.ensures.answer)
    ]
