use Rattle.std.proofs.Common.{◌≡◌, ◌-◌, List, Option, Some, length, take, set, ap, ◌∙◌, arith}
use Rattle.vm_frame.specs.declared.mem.Mem.{Mem}
use Rattle.vm_local.specs.State.{LocalState}
use Rattle.vm_local.specs.Steps.{number_of}
use Rattle.vm_home.specs.Home.{HomeState}
use Rattle.vm_home.specs.Moves.{memory_at, put_back}
use Rattle.vm_log.proofs.HomeLemmas.{put_one}
use Rattle.vm_log.proofs.places.put_back.Goals as goal

pub loop-held-preserved : goal.loop-held-preserved
loop-held-preserved c =
    let s : LocalState = c.args.kept.now.local in
    let put : c.put_at.new.home.places ≡ set c.loop-held.home.places (memory_at s c.remove-first.result.queue c.remove-first.result.index) (Some c.remove-first.result.mem) =
    ap (λ (h : HomeState). h.places) c.put_at.ensures
    ∙ ap (λ n. set c.loop-held.home.places n (Some c.remove-first.result.mem)) (c.number_of-number.ensures ∙ ap number_of c.buffer_of.ensures) in
    let one : _ =
    put_one s c.loop-held.held.items c.remove-first.new.self.items c.remove-first.result c.args.fresh c.loop-held.home.places (omega (arith, c.loop-held-test.true, c.len.ensures))
    c.remove-first.ensures.value c.remove-first.ensures.by_index.2 in (
      ap (λ (hs : List (Option Mem)). put_back s (take (length c.remove-first.new.self.items - c.args.fresh) c.remove-first.new.self.items) hs) put ∙ (one.0 ∙ c.loop-held.invariant.0),
      one.1 ∙ c.loop-held.invariant.1,
      ap (λ (h : HomeState). h.room) c.put_at.ensures ∙ c.loop-held.invariant.2,
      c.remove-first.ensures.capacity ∙ c.loop-held.invariant.3,
    )
