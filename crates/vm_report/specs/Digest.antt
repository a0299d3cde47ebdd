-- What crossed, as bytes, and its digest.
use Rattle.std.specs.Prelude.{ℕ, List, [], ◌∷◌, ◌++◌, Option, Some, None, unwrap_or, flat_map}
use Rattle.sha2.specs.Sha256.{sha256}
use Rattle.v4l_const.specs.declared.model.Model.{Model}
use Rattle.vm_local.specs.declared.call.Call.{Call}
use Rattle.vm_local.specs.declared.entry.Entry.{Entry}
use Rattle.vm_local.specs.declared.entry.Entry.TheVariants.{Called, Finish, Bad, Give}
use Rattle.vm_local.specs.declared.reply.Reply.{Reply}
use Rattle.vm_local.specs.State.{LocalState, opening}
use Rattle.vm_local.specs.Log.{after}
use Rattle.vm_wire.specs.Wire.{response_bytes}
use Rattle.vm_exchange.specs.declared.crossing.Crossing.{Crossing}
use Rattle.vm_exchange.specs.Entries.{crossing_bytes}
use Rattle.vm_exchange.specs.Exchange.{crossing_of, response_to}
use Rattle.vm_report.specs.Logs.{HandleLog}

-- the command's bytes, with the entries of the user memory that goes along, and then the reply's,
-- where the call crosses from this state
abbrev pub wire_of_call : ℕ → LocalState → Option Crossing → Call → Reply → List ℕ
wire_of_call session s None call reply = []
wire_of_call session s (Some crossing) call reply =
    crossing_bytes crossing ++ response_bytes (response_to session s call reply)

abbrev pub wire_of : ℕ → LocalState → Entry → List ℕ
wire_of session s (Called line call reply) =
    wire_of_call session s (crossing_of session s call) call reply
wire_of session s Finish = []
wire_of session s Bad = []
wire_of session s Give = []

abbrev pub or_nothing : Option LocalState → (LocalState → List ℕ) → List ℕ
or_nothing None wires = []
or_nothing (Some s) wires = wires s

-- What crossed for a log from this state on, in order. Which calls cross depends on the state.
abbrev pub wires_from : ℕ → LocalState → List Entry → List ℕ
wires_from session s [] = []
wires_from session s (e ∷ es) =
    wire_of session s e ++ or_nothing (after s e) (λ t. wires_from session t es)

-- what crossed for one handle; a handle without a session has no command that names one
abbrev pub wires_of : Model → HandleLog → List ℕ
wires_of model h = wires_from (unwrap_or h.session 0) (opening model) h.entries

-- SHA-256 of what crossed for all handles, in printed order
abbrev pub digest_of : Model → List HandleLog → List ℕ
digest_of model handles = sha256 (flat_map (wires_of model) handles)
