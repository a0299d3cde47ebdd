-- Which logs are legal, and the state that they lead to.
use Rattle.std.specs.Prelude.{◌≡◌, ℕ, Bool, true, false, not, List, [], ◌∷◌, ◌&&◌, if◌then◌else◌, Option, Some, None, IsSome}
use Rattle.std.specs.Option.{option_and_then}
use Rattle.v4l_const.specs.declared.errno.Errno.{Errno}
use Rattle.v4l_const.specs.declared.errno.Errno.TheVariants.{Enomem}
use Rattle.v4l_const.specs.declared.model.Model.{Model}
use Rattle.v4l_rules.specs.Refusals.{first_refusal}
use Rattle.vm_local.specs.declared.call.Call.{Call}
use Rattle.vm_local.specs.declared.entry.Entry.{Entry}
use Rattle.vm_local.specs.declared.entry.Entry.TheVariants.{Called, Finish, Bad, Give}
use Rattle.vm_local.specs.declared.reply.Reply.{Reply}
use Rattle.vm_local.specs.declared.reply.Reply.TheVariants.{Refused}
use Rattle.vm_local.specs.State.{LocalState, opening}
use Rattle.vm_local.specs.Same.{same_reply, address_in}
use Rattle.vm_local.specs.Calls.{Row, row_of}
use Rattle.vm_local.specs.Steps.{finished, marked_bad, given}

-- ---- a call

-- the state after a call that is refused, or that no refusal stops: a want of memory changes
-- nothing
abbrev pub answered : Option Errno → Row → LocalState → Reply → Option LocalState
answered (Some e) row s reply = if same_reply (Refused e) reply then Some s else None
answered None row s reply =
    if row.may_lack_memory && same_reply (Refused Enomem) reply then Some s else (
    if not row.waits && same_reply row.reply reply then Some row.next else None)

abbrev pub row_for : LocalState → ℕ → Call → Reply → Row
row_for s line call reply = row_of s line (address_in reply) call

-- the state after a call of this script's line with this reply; none where the call can't have this
-- reply
unfoldable pub called : LocalState → ℕ → Call → Reply → Option LocalState
called s line call reply =
    answered (first_refusal (row_for s line call reply).refusals)
    (row_for s line call reply) s reply

-- the call has this reply, and leads to this state
abbrev pub IsCall : LocalState → ℕ → Call → Reply → LocalState → Type 0
IsCall s line call reply next = called s line call reply ≡ Some next

-- ---- a log

-- the state after an entry; none where the entry isn't legal
abbrev pub after : LocalState → Entry → Option LocalState
after s (Called line call reply) = called s line call reply
after s Finish = finished s
after s Bad = marked_bad s
after s Give = given s

abbrev pub replay_from : LocalState → List Entry → Option LocalState
replay_from s [] = Some s
replay_from s (e ∷ es) = option_and_then (λ t. replay_from t es) (after s e)

-- the state after a log from the opening on; none where an entry isn't legal
abbrev pub replay : Model → List Entry → Option LocalState
replay m log = replay_from (opening m) log

abbrev pub IsLegal : Model → List Entry → Type 0
IsLegal m log = IsSome (replay m log)

-- what a step leaves: the next state, and that it was done; or else all as it was, and that it
-- wasn't
abbrev pub Stepped : Option LocalState → LocalState → LocalState → Bool → Type 0
Stepped None old new done = (done ≡ false) × (new ≡ old)
Stepped (Some next) old new done = (done ≡ true) × (new ≡ next)
