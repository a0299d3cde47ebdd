-- What the driver does in each step, over messages. Nothing here reads the device's side.
use Rattle.std.specs.Prelude.{ℕ, ◌≡◌, Bool, true, false, List, [], Option, Some, None}
use Rattle.vm_lease.specs.Lease.{LeaseParts}
use Rattle.vm_log.specs.declared.leased.Leased.{Leased}
use Rattle.vm_log.specs.declared.leased.Leased.TheVariants.{Idle as Untouched}
use Rattle.vm_wire.specs.declared.delivery.Delivery.{Delivery}
use Rattle.vm_guest.specs.Events.{all_taken, settled}
use Rattle.vm_guest.specs.Guest.{GuestState, process_at, with_process}
use Rattle.vm_wire.specs.Message.{Returning}
use Rattle.vm_guest.specs.Message.{Sending}
use Rattle.vm_guest.specs.Lines.{Begins, AnsweredFor, LeasesCall, returned}
use Rattle.vm_guest.specs.Process.{ProcessState, leasing}
use Rattle.vm_guest.specs.declared.asked.Asked.{Asked}
use Rattle.vm_guest.specs.declared.asked.Statement.{Statement}

-- all of them, or none
abbrev pub all_if : {A : Type 0} → Bool → List A → List A
all_if true xs = xs
all_if false xs = []

-- ---- Issue

-- A process begins its next statement, behind the events that are taken first, and maybe sends
-- something.
pub record Issued (n : ℕ) (s : Statement) (g : GuestState) (events : List Delivery)
    (g' : GuestState) (sends : Option Sending) : Type 0 where
  pub process : ProcessState
  pub begins : Begins s.line s.what (process_at (all_taken g events) n) process sends
  pub after : g' ≡ with_process (all_taken g events) n process

-- ---- Collect

-- A process's statement is answered by what came back, behind the events that are taken first, and
-- what was held back for its handle is delivered.
pub record Collected (s : Statement) (g : GuestState) (events : List Delivery) (r : Returning)
    (g' : GuestState) : Type 0 where
  pub process : ProcessState
  pub answers : AnsweredFor s.line s.what (process_at (all_taken g events) r.reply.who) r process
  pub after : g' ≡ settled s.what
      (with_process (all_taken g events) r.reply.who process) r.reply.who

-- ---- Lease and GiveBack

-- A process begins the call that is asked by a lease, if it may.
abbrev pub LeasesFor : Option Asked → ℕ → GuestState → Leased → GuestState → Type 0
LeasesFor None n g leased g' = (leased ≡ Untouched) × (g' ≡ g)
LeasesFor (Some a) n g leased g' =
    (process : ProcessState) × LeasesCall a (process_at g n) leased process
    × (g' ≡ with_process g n process)

abbrev pub Leases : ℕ → GuestState → Leased → GuestState → Type 0
Leases n g leased g' = LeasesFor (leasing (process_at g n)) n g leased g'

-- a process's lease came back
abbrev pub given_back : ℕ → GuestState → LeaseParts → GuestState
given_back n g lease = with_process g n (returned (process_at g n) lease)
