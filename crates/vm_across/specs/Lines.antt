-- What a line sends is fit to be sent, and the chain that comes back for it is the one that the
-- driver collects.
use Rattle.std.specs.Prelude.{ℕ, Some}
use Rattle.vm_link.specs.declared.parcel.Parcel.{Parcel}
use Rattle.vm_script.specs.declared.line.LineKind.{LineKind}
use Rattle.vm_guest.specs.Lines.{Begins}
use Rattle.vm_guest.specs.Message.{Sending}
use Rattle.vm_guest.specs.Orderly.{IsFitKind}
use Rattle.vm_guest.specs.Process.{ProcessState}
use Rattle.vm_guest.specs.Queues.{IsChainFor}
use Rattle.vm_across.specs.Across.{IsFit, IsChainOf}

-- what a process sends for a line of its script is fit
abbrev pub SendsWhatIsFit : Type 0
SendsWhatIsFit =
    (handles line : ℕ) (what : LineKind) (p p' : ProcessState) (sending : Sending) →
    IsFitKind handles what → Begins line what p p' (Some sending) → IsFit sending

-- the chain with which a line was sent is the one that answers it
abbrev pub IsCollected : Type 0
IsCollected =
    (line n : ℕ) (what : LineKind) (p p' : ProcessState) (sending : Sending) (parcel : Parcel) →
    Begins line what p p' (Some sending) → IsChainOf n sending parcel → IsChainFor n what parcel
