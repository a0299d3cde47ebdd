-- Logs of handles that are never opened.
use Rattle.std.specs.Prelude.{ℕ, Bool, List, All, ◌≢◌}
use Rattle.vm_local.specs.declared.call.Call.TheVariants.{OpenHandle}
use Rattle.vm_local.specs.declared.entry.Entry.{Entry}
use Rattle.vm_local.specs.declared.entry.Entry.TheVariants.{Called}
use Rattle.vm_local.specs.declared.reply.Reply.TheVariants.{Done}

-- no entry of the log is an open that was done
abbrev pub NeverOpens : List Entry → Type 0
NeverOpens log =
    All (λ e. (line : ℕ) (nonblock : Bool) → e ≢ Called line (OpenHandle nonblock) Done) log
