use Rattle.std.proofs.Common.{◌≡◌, ◌∙◌, ℕ, [], List, IsSome, false, refl, ap, subst, sym, arith}
use Rattle.v4l_const.specs.declared.model.Model.TheVariants.{Capture}
use Rattle.vm_frame.specs.declared.mem.Held.{Held}
use Rattle.vm_local.specs.declared.call.Call.TheVariants.{OpenHandle, UAlloc}
use Rattle.vm_local.specs.declared.reply.Reply.TheVariants.{Done, Pages}
use Rattle.vm_local.specs.State.{LocalState}
use Rattle.vm_local.specs.Calls.{opened_anew, ualloc_row}
use Rattle.vm_local.specs.Log.{called, IsCall}
use Rattle.vm_home.specs.Moves.{ComeBack}
use Rattle.vm_log.specs.LegalLog.{LogState, fresh_log, state_of}
use Rattle.vm_log.specs.Answers.{with_line, replied}
use Rattle.vm_log.proofs.tests.lines_are_logged_with_their_replies.Goals as goal

-- an open is answered, and no memory comes with its reply
opened : (l : LogState) (held : List Held) → held ≡ [] → (next : LocalState) × IsCall (state_of l) 1 (OpenHandle false) Done next × ComeBack (state_of l) next (OpenHandle false) held
unfolding called
opened l held none = (opened_anew (state_of l) false, refl, record { settled = λ k d within. absurd (omega (arith, within)); back = []; fresh = []; ordered = none; queued = tt; made = tt })

-- the log with the open, and one more line
abbrev pub second : List Held → LogState
second held = with_line (replied (with_line (fresh_log Capture 3)) 1 (OpenHandle false) Done held)

makes : (held : List Held) (u : List ℕ) → IsSome (called (state_of (second held)) 2 (UAlloc u 16 0) (Pages 1))
unfolding called ualloc_row
makes held u = refl

pub reply-requires-clause-answer : goal.reply-requires-clause-answer
reply-requires-clause-answer g c = opened c.begin_line.new.self c.new-held.result.items c.new-held.ensures.items

pub allocate-requires-clause-legal : goal.allocate-requires-clause-legal
allocate-requires-clause-legal g c =
    let held : List Held = c.new-held.result.items in
    let is : c.begin_line-2.new.self ≡ second held =
    c.begin_line-2.ensures ∙ ap with_line (c.reply.ensures.log ∙ ap (λ (x : LogState). replied x 1 (OpenHandle false) Done held) (c.begin_line.ensures ∙ ap with_line c.in_ok-log.ensures)) in
    subst (λ (x : LogState). IsSome (called (state_of x) 2 (UAlloc c.in_ok-u.u 16 0) (Pages 1))) (sym is) (makes held c.in_ok-u.u)
