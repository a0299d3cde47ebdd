use Rattle.std.proofs.Common.{◌≡◌, ◌∙◌, List, Option, None, Some, get_or, set, refl, sym}
use Rattle.vm_session.specs.State.{SessionState}
use Rattle.vm_device.specs.Sessions.{sessions_at}
use Rattle.vm_device.proofs.KeptLemmas.{lent, found_at}
use Rattle.slab.specs.Slab.{with_value}
use Rattle.vm_device.proofs.sessions.Sessions.get_mut.Goals as goal

pub returns : goal.returns
returns c =
    let slab = c.self.inside.slab in
    let keys = c.self.inside.keys.items in
    let stands : get_or keys c.args.id None ≡ Some c.in_ok-key.key = rw (← c.deref.ensures.value) (sym c.key_at.ensures ∙ c.in_ok-key.was) in
    let kept : SessionState → List (Option SessionState) = λ w. sessions_at (with_value slab c.in_ok-key.key w) keys in
    let put : SessionState → List (Option SessionState) = λ w. set (sessions_at slab keys) c.args.id (Some w) in
    let same : kept ≡ put = λ i w. lent slab keys c.in_ok-key.key c.args.id w c.self.invariant stands i in (
      rw (← c.self.view_is, same) refl,
      record { writes_back = tt; value = rw (← c.self.view_is) (c.get_mut.ensures.value ∙ sym (found_at slab keys c.in_ok-key.key c.args.id stands)) },
    )
