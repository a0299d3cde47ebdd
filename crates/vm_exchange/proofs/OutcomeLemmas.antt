-- What a call that is answered so comes from.
use Rattle.std.proofs.Common.{◌≡◌, ◌⊎◌, inl, inr, ℕ, false, None, refl, sym}
use Rattle.v4l_const.specs.declared.errno.Errno.{Errno}
use Rattle.v4l_rules.specs.Refusals.{first_refusal}
use Rattle.vm_local.specs.declared.call.Call.{Call}
use Rattle.vm_local.specs.declared.reply.Reply.{Reply}
use Rattle.vm_local.specs.declared.reply.Reply.TheVariants.{Refused}
use Rattle.vm_local.specs.State.{LocalState}
use Rattle.vm_local.specs.Log.{row_for, called, IsCall}
use Rattle.vm_local.specs.Record.{is_refusal}
use Rattle.vm_local.proofs.SameLemmas.{same_reply_decides}
use Rattle.vm_local.proofs.StepLemmas.{done_by}

-- a call is refused, or no refusal applies and it has its row's reply
abbrev pub Outcome : LocalState → ℕ → Call → Reply → Type 0
Outcome s line call reply =
    ((e : Errno) × (reply ≡ Refused e))
    ⊎ ((first_refusal (row_for s line call reply).refusals ≡ None) × (reply ≡ (row_for s line call reply).reply))

done : (s : LocalState) (line : ℕ) (call : Call) (reply : Reply) (t : LocalState) → is_refusal reply ≡ false → IsCall s line call reply t → Outcome s line call reply
unfolding called
done s line call reply t is goes =
    let went = done_by (first_refusal (row_for s line call reply).refusals) (row_for s line call reply) s reply t is goes in
    inr (went.0, sym ((same_reply_decides (row_for s line call reply).reply reply).0 went.2))

pub outcome : (s : LocalState) (line : ℕ) (call : Call) (reply : Reply) (t : LocalState) → IsCall s line call reply t → Outcome s line call reply
outcome s line call (Refused e) t goes = inl (e, refl)
outcome s line call reply t goes = done s line call reply t refl goes
