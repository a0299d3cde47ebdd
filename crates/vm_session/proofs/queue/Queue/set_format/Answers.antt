use Rattle.std.proofs.Common.{◌≡◌, ◌≤◌, [], length, ap, ◌∙◌}
use Rattle.v4l_format.specs.Fmt.{picture_size}
use Rattle.vm_frame.specs.Mem.{mem_bytes}
use Rattle.vm_session.specs.State.{SessionQueue}
use Rattle.vm_session.proofs.SoundLemmas.{none_there, no_sizes}
use Rattle.vm_session.proofs.queue.Queue.set_format.Goals as goal

pub invariant_of-self : goal.invariant_of-self
invariant_of-self c =
    let before = c.self.invariant.0 in
    let none : c.self.inside.lengths.items ≡ [] = ap (λ (q : SessionQueue). q.lengths) c.self.view_is ∙ c.requires.no_buffers in (
      record {
        adjusted = c.requires.adjusted;
        few = before.few;
        away = before.away;
        frames = before.frames;
        buffers = no_sizes (λ n. picture_size c.args.format ≤ n) c.self.inside.lengths.items none;
        memories = none_there (λ b. picture_size c.args.format ≤ length (mem_bytes b.held.mem)) c.self.inside.buffers.queued c.self.inside.buffers.out c.self.inside.lengths.items before.away none;
      },
      c.self.invariant.1,
      c.self.invariant.2,
    )
