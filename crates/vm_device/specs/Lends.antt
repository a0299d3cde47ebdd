-- What the sessions end as, where a `&mut` to one of them is lent.
use Rattle.std.specs.Prelude.{ℕ, List, Option, Some, slice_set}
use Rattle.std.specs.Borrow.{LendsIf, Fml, MutBor}
use Rattle.vm_session.specs.State.{SessionState}
use Rattle.vm_session.specs.contracts.session.Session.{the_row as session_row}
use Rattle.vm_device.specs.contracts.sessions.Sessions.{the_row}

-- once the borrow ends, the session is what was left there; where there is none, all stay as they
-- are
abbrev pub LendsSession : MutBor (List (Option SessionState)) → ℕ → Option (MutBor SessionState) →
    Fml
LendsSession s id r = LendsIf the_row session_row s r (λ w. slice_set s.now id (Some w)) s.now
