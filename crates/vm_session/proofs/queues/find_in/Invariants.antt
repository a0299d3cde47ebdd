use Rattle.std.proofs.Common.{◌≡◌, ℕ, List, drop, get_or}
use Rattle.std.specs.List.{flat_map}
use Rattle.v4l_rules.specs.Queues.{place_in}
use Rattle.vm_session.specs.State.{SessionQueue, opening_queue}
use Rattle.vm_session.specs.Mapped.{MappableFrame, frames_of, frame_at}
use Rattle.vm_session.proofs.queues.find_in.Given as goal

-- what may be mapped of the queue of a type
abbrev pub frames_in : List SessionQueue → List ℕ → ℕ → ℕ → List MappableFrame
frames_in queues types id t = frames_of id t (get_or queues (place_in types t) opening_queue)

abbrev pub invariant-loop-kind : goal.invariant-loop-kind
invariant-loop-kind l =
    frame_at l.offset (flat_map (frames_in l.queues l.types l.id) l.types)
    ≡ frame_at l.offset (flat_map (frames_in l.queues l.types l.id) (drop l.kind-index l.types))
