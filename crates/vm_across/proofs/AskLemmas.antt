-- Lemmas on what a chain asks, by its walk and by the bytes that are read of it.
use Rattle.std.proofs.Common.{◌≡◌, ℕ, ◌≤◌, ◌<◌, Bool, true, false, nat_lt, List, [], length, drop, Result, Ok, Err, IfOk, refl, ap, ◌∙◌, subst, arith, if◌then◌else◌}
use Rattle.std.proofs.lemmas.Bool.Decides.{nat_tests}
use Rattle.vm_chain.specs.Chain.{writable_bytes}
use Rattle.vm_chain.specs.declared.desc.Desc.{Desc}
use Rattle.vm_chain.specs.declared.fault.ChainFault.{ChainFault}
use Rattle.vm_carrier.specs.Carrier.{readable_of}
use Rattle.vm_link.specs.declared.parcel.Parcel.{Parcel}
use Rattle.vm_wire.specs.Message.{Ask}
use Rattle.vm_wire.specs.Message.Ask.{Unusable, Judged}
use Rattle.vm_wire.specs.Wire.{Spells, judged, command_bytes, reply_size}
use Rattle.vm_wire.specs.declared.command.Command.{Command}
use Rattle.vm_wire.specs.declared.command.Command.TheVariants.{OpenSession, CloseSession, Ioctl, Map, Unmap}
use Rattle.vm_wire.specs.declared.command.CmdFault.{CmdFault}
use Rattle.vm_wire.proofs.DecidedLemmas.{judged_ok}
use Rattle.vm_host.specs.Chains.{chain_in, asked_by}
use Rattle.vm_host.specs.Part.{ask_by, behind_by, behind_asked as behind_in, posting_of as posting_in}
use Rattle.vm_guest.specs.Raw.{bytes_ask, behind_asked}
use Rattle.vm_across.proofs.WalkLemmas.{Fails}

-- a chain with a fault asks nothing
pub asks_nothing : (p : Parcel) → Fails (chain_in p) → posting_in p ≡ record { request = record { who = p.who; asks = Unusable }; behind = []; held = p.held }
asks_nothing p fails =
    ap (λ (o : Result (List Desc) ChainFault). record { request = record { who = p.who; asks = ask_by o p }; behind = behind_by o p; held = p.held }) fails.1

-- each reply has a status
pub some_reply : (c : Command) → 8 ≤ reply_size c
some_reply OpenSession = omega arith
some_reply (CloseSession session) = omega arith
some_reply (Ioctl session code payload) = omega arith
some_reply (Map session writable offset) = omega arith
some_reply (Unmap addr) = omega arith

-- what is asked by a chain with this room and these bytes
abbrev ask_with : Bool → Result Command CmdFault → Ask
ask_with small asked = if small then Unusable else Judged asked

-- a command is asked only where there is room for its reply
roomy : {X : Type 0} (bytes : List ℕ) (room : ℕ) (c : Command) → judged bytes room ≡ Ok c → nat_lt room 8 ≡ true → X
roomy bytes room c is small =
    let P : Result Command CmdFault → Type 0 = λ o. IfOk o (λ d. Spells bytes room d) in
    let spells : Spells bytes room c = subst P is (judged_ok bytes room (judged bytes room) refl) in
    let least = some_reply c in
    let fits : reply_size c ≤ room = spells.1 in
    let less : room < 8 = grind (arith, nat_tests, small) in
    absurd (omega (arith, least, fits, less))

-- the bytes behind what is asked are the same at both ends
behind_alike : (small : Bool) (asked : Result Command CmdFault) (bytes : List ℕ) (room : ℕ) (descs : List Desc) (p : Parcel) → nat_lt room 8 ≡ small
    → judged bytes room ≡ asked → readable_of descs p.pages ≡ bytes → behind_in asked descs p ≡ behind_asked (ask_with small asked) bytes
behind_alike false (Ok c) bytes room descs p is says reads = ap (λ bs. drop (length (command_bytes c)) bs) reads
behind_alike false (Err fault) bytes room descs p is says reads = refl
behind_alike true (Ok c) bytes room descs p is says reads = roomy bytes room c says is
behind_alike true (Err fault) bytes room descs p is says reads = refl

-- a chain that is walked asks what its bytes and its room do
pub asks_bytes : (p : Parcel) (descs : List Desc) (bytes : List ℕ) (room : ℕ) → chain_in p ≡ Ok descs → readable_of descs p.pages ≡ bytes → writable_bytes descs ≡ room
    → posting_in p ≡ record { request = record { who = p.who; asks = bytes_ask bytes room }; behind = behind_asked (bytes_ask bytes room) bytes; held = p.held }
asks_bytes p descs bytes room walked reads holds =
    let asked : asked_by descs p.pages ≡ judged bytes room = ap (λ bs. judged bs (writable_bytes descs)) reads ∙ ap (λ n. judged bytes n) holds in
    let asks : ask_by (chain_in p) p ≡ bytes_ask bytes room =
    ap (λ o. ask_by o p) walked ∙ ap (λ n. ask_with (nat_lt n 8) (asked_by descs p.pages)) holds ∙ ap (λ o. ask_with (nat_lt room 8) o) asked in
    let rest : behind_by (chain_in p) p ≡ behind_asked (bytes_ask bytes room) bytes =
    ap (λ o. behind_by o p) walked ∙ ap (λ o. behind_in o descs p) asked ∙ behind_alike (nat_lt room 8) (judged bytes room) bytes room descs p refl refl reads in
    ap (λ a. record { request = record { who = p.who; asks = a }; behind = behind_by (chain_in p) p; held = p.held }) asks
    ∙ ap (λ bs. record { request = record { who = p.who; asks = bytes_ask bytes room }; behind = bs; held = p.held }) rest
