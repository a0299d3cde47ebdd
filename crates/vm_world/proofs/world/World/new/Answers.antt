use Rattle.std.proofs.Common.{◌≤◌, sym, ap, subst, ◌∙◌}
use Rattle.vm_host.specs.Host.{fresh_host}
use Rattle.vm_link.specs.Queue.{Queue}
use Rattle.vm_script.specs.Script.{ScriptLines}
use Rattle.vm_world.specs.Carried.{IsEmpty, command_room}
use Rattle.vm_world.proofs.FirstLemmas.{opening_kept}
use Rattle.vm_world.proofs.world.World.new.Goals as goal

pub invariant_of-result : goal.invariant_of-result
invariant_of-result g c =
    let host = c.in_ok-host.ensures ∙ (ap (λ (s : ScriptLines). fresh_host s.model c.count_handles.result) c.script.view_is ∙ ap (fresh_host c.args.script.model) c.count_handles.ensures) in
    opening_kept c.args.script c.in_ok-guest.guest c.in_ok-host.host (g.L.Link.queues c.post_event_chains.new.link) (g.L.Link.queues c.args.link).event.size
    c.requires.read c.in_ok-guest.ensures.fresh host
    (subst (λ (q : Queue). command_room ≤ q.size) (sym c.in_ok-post_event_chains.ensures.commands) c.requires.room)
    (subst IsEmpty (sym c.in_ok-post_event_chains.ensures.commands) c.requires.empty) c.in_ok-post_event_chains.ensures.posted
