-- Lemmas on a command that was read out of a chain.
use Rattle.std.proofs.Common.{◌≡◌, ℕ, ◌+◌, ◌-◌, ◌%◌, ◌≤◌, ◌<◌, ◌*◌, ◌^◌, Result, Ok, Err, IfOk, List, length, drop, filter, refl, sym, ap, ◌∙◌, subst, arith, sum_by}
use Rattle.std.proofs.lemmas.List.{length-drop}
use Rattle.std.proofs.lemmas.List.Sums.{sum_by-le}
use Rattle.std.proofs.lemmas.List.Filters.{sum_by-filter_both}
use Rattle.vm_carrier.specs.Carrier.{Fits}
use Rattle.vm_chain.specs.Chain.{writable_bytes}
use Rattle.vm_chain.specs.declared.desc.Desc.{Desc}
use Rattle.vm_chain.specs.Desc.{is_readable, is_writable}
use Rattle.vm_wire.specs.Payload.{HasItsLength}
use Rattle.vm_wire.specs.Wire.{Spells, command_bytes, MayFollow, payload_end}
use Rattle.vm_wire.specs.declared.command.Command.{Command}
use Rattle.vm_wire.specs.declared.command.Command.TheVariants.{OpenSession, CloseSession, Ioctl, Map, Unmap}
use Rattle.vm_wire.specs.declared.command.CmdFault.{CmdFault}
use Rattle.vm_wire.proofs.PayloadLemmas.{need_of_front}
use Rattle.vm_device.specs.Perform.{FitsCall}

-- a command that is spelled has a payload of its call's size
pub spelled_fits : (bytes : List ℕ) (room : ℕ) (c : Command) → Spells bytes room c → FitsCall c
spelled_fits bytes room OpenSession spells = tt
spelled_fits bytes room (CloseSession session) spells = tt
spelled_fits bytes room (Ioctl session code payload) spells =
    subst (HasItsLength code) (sym spells.0.4) (need_of_front code (drop 16 bytes) (omega (arith, spells.0.0, length-drop 16 bytes)))
spelled_fits bytes room (Map session writable offset) spells = tt
spelled_fits bytes room (Unmap addr) spells = tt

-- its bytes are all there
pub spelled_size : (bytes : List ℕ) (room : ℕ) (c : Command) → Spells bytes room c → length (command_bytes c) ≤ length bytes
spelled_size bytes room OpenSession spells = spells.0.0
spelled_size bytes room (CloseSession session) spells = spells.0.0
spelled_size bytes room (Ioctl session code payload) spells =
    let sized = spelled_fits bytes room (Ioctl session code payload) spells in
    omega (arith, spells.0.0, sized)
spelled_size bytes room (Map session writable offset) spells = spells.0.0
spelled_size bytes room (Unmap addr) spells = spells.0.0

-- and what stands behind them may
pub spelled_follow : (bytes : List ℕ) (room : ℕ) (c : Command) → Spells bytes room c → MayFollow c (drop (length (command_bytes c)) bytes)
spelled_follow bytes room OpenSession spells = tt
spelled_follow bytes room (CloseSession session) spells = tt
spelled_follow bytes room (Ioctl session code payload) spells = λ brings.
    let sized = spelled_fits bytes room (Ioctl session code payload) spells in
    let behind : length (drop (length (command_bytes (Ioctl session code payload))) bytes) ≡ length bytes - payload_end code bytes =
    omega (arith, sized, length-drop (length (command_bytes (Ioctl session code payload))) bytes) in
    ap (λ n. n % 16) behind ∙ spells.0.5 brings
spelled_follow bytes room (Map session writable offset) spells = tt
spelled_follow bytes room (Unmap addr) spells = tt

pub read_fits : (bytes : List ℕ) (room : ℕ) (d : Result Command CmdFault) → IfOk d (λ c. Spells bytes room c) → IfOk d FitsCall
read_fits bytes room (Ok c) spells = spelled_fits bytes room c spells
read_fits bytes room (Err f) spells = tt

pub read_size : (bytes bytes' : List ℕ) (room : ℕ) (d : Result Command CmdFault) → bytes' ≡ bytes → IfOk d (λ c. Spells bytes room c)
    → IfOk d (λ c. length (command_bytes c) ≤ length bytes')
read_size bytes bytes' room (Ok c) same spells = (let here = spelled_size bytes room c spells in rw same here)
read_size bytes bytes' room (Err f) same spells = tt

pub read_follow : (bytes bytes' : List ℕ) (room : ℕ) (d : Result Command CmdFault) → bytes ≡ bytes' → IfOk d (λ c. Spells bytes room c)
    → IfOk d (λ c. MayFollow c (drop (length (command_bytes c)) bytes'))
read_follow bytes bytes' room (Ok c) same spells =
    let P : List ℕ → Type 0 = λ bs. MayFollow c (drop (length (command_bytes c)) bs) in
    subst P same (spelled_follow bytes room c spells)
read_follow bytes bytes' room (Err f) same spells = tt

-- what may be written of a chain that was walked is little
pub writable_fits : (descs : List Desc) → Fits 64 descs → writable_bytes descs < 2 ^ 32
writable_fits descs fits =
    let all : sum_by (λ (d : Desc). d.len) descs ≤ length descs * 4096 =
    sum_by-le (λ (d : Desc). d.len) 4096 descs (λ k d within. let stays = fits.1 k d within in omega (arith, stays)) in
    let both : sum_by (λ (d : Desc). d.len) (filter is_writable descs) + sum_by (λ (d : Desc). d.len) (filter is_readable descs) ≡ sum_by (λ (d : Desc). d.len) descs =
    sum_by-filter_both is_writable is_readable (λ d. refl) (λ (d : Desc). d.len) descs in
    let few = fits.0 in
    omega (arith, all, both, few)
