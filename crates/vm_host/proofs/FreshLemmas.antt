-- What is asked of a device at first holds.
use Rattle.std.proofs.Common.{◌≡◌, ℕ, ◌+◌, ◌<◌, ◌≤◌, length, false, Option, Some, None, Result, Ok, Err, IfOk, IfSome, List, [], ◌∷◌, sym, subst, refl, arith}
use Rattle.std.specs.Prelude.{⊤}
use Rattle.v4l_const.specs.declared.model.Model.{Model}
use Rattle.vm_chain.specs.declared.desc.Desc.{Desc}
use Rattle.vm_chain.specs.declared.fault.ChainFault.{ChainFault}
use Rattle.vm_link.specs.declared.parcel.Parcel.{Parcel}
use Rattle.vm_wire.specs.declared.command.Command.{Command}
use Rattle.vm_wire.specs.declared.command.Command.TheVariants.{OpenSession, CloseSession, Ioctl, Map, Unmap}
use Rattle.vm_wire.specs.declared.command.CmdFault.{CmdFault}
use Rattle.vm_device.specs.Device.{fresh_device}
use Rattle.vm_device.specs.Perform.{HasPlaceFor, EachMadeFew}
use Rattle.vm_host.specs.Chains.{chain_in, asked_by, HasRoomFor, named_session}
use Rattle.vm_host.specs.Host.{HostState, fresh_host, waits}
use Rattle.vm_host.specs.Steps.{AsksOf, HasPlace, IsAlone, HasRoom}

place_for : (m : Model) (opens : ℕ) (c : Command) → 0 < opens → HasPlaceFor (fresh_device m opens) c
place_for m opens OpenSession some = some
place_for m opens (CloseSession id) some = tt
place_for m opens (Ioctl id code payload) some = tt
place_for m opens (Map id writable offset) some = omega arith
place_for m opens (Unmap addr) some = tt

by_command : (P : Command → Type 0) (o : Result Command CmdFault) → ((c : Command) → P c) → IfOk o P
by_command P (Ok c) all = all c
by_command P (Err f) all = tt

by_chain : (P : Command → Type 0) (p : Parcel) (o : Result (List Desc) ChainFault) → ((c : Command) → P c) → IfOk o (λ descs. IfOk (asked_by descs p.pages) P)
by_chain P p (Ok descs) all = by_command P (asked_by descs p.pages) all
by_chain P p (Err fault) all = tt

asks_all : (P : Command → Type 0) (waiting : List Parcel) → ((c : Command) → P c) → AsksOf P waiting
asks_all P [] all = tt
asks_all P (p ∷ ps) all = by_chain P p (chain_in p) all

pub fresh_place : (m : Model) (opens : ℕ) (h : HostState) (waiting : List Parcel) → 0 < opens → h ≡ fresh_host m opens → HasPlace h.device waiting
fresh_place m opens h waiting some is =
    subst (λ (x : HostState). HasPlace x.device waiting) (sym is) (asks_all (HasPlaceFor (fresh_device m opens)) waiting (λ c. place_for m opens c some))

none_waits : (m : Model) (opens : ℕ) (o : Option ℕ) → IfSome o (λ session. waits (fresh_host m opens) session ≡ false)
none_waits m opens None = tt
none_waits m opens (Some session) = refl

pub fresh_alone : (m : Model) (opens : ℕ) (h : HostState) (waiting : List Parcel) → h ≡ fresh_host m opens → IsAlone h waiting
fresh_alone m opens h waiting is =
    subst (λ (x : HostState). IsAlone x waiting) (sym is)
    (asks_all (λ c. IfSome (named_session c) (λ session. waits (fresh_host m opens) session ≡ false)) waiting (λ c. none_waits m opens (named_session c)))

pub fresh_frames : (m : Model) (opens : ℕ) (h : HostState) → h ≡ fresh_host m opens → EachMadeFew h.device
fresh_frames m opens h is = subst (λ (x : HostState). EachMadeFew x.device) (sym is) (λ id. tt)

-- ---- room

-- there is room for 64 memories behind those of the first chain, if there is one
abbrev pub is_roomy : List Parcel → Type 0
is_roomy [] = ⊤
is_roomy (p ∷ ps) = length p.held + 64 ≤ p.room

-- and so there is room for what its command may give back
pub roomy_room : (ps : List Parcel) → is_roomy ps → HasRoom ps
roomy_room [] roomy = tt
roomy_room (p ∷ ps) roomy =
    by_chain (HasRoomFor p) p (chain_in p) (λ c gives. roomy)
