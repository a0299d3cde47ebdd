-- Lemmas on what is written and read again.
use Rattle.std.proofs.Common.{ℕ, ◌≡◌, ◌≤◌, ◌%◌, ◌++◌, true, false, List, [], length, take, arith, refl, sym, ap, ◌∙◌, subst, length-append}
use Rattle.std.proofs.lemmas.Bool.Decides.{nat_tests}
use Rattle.std.proofs.lemmas.List.{take_at, append-nil}
use Rattle.std.proofs.Math.Seq.{take-length}
use Rattle.std.proofs.lemmas.Nat.{from_le_bytes-to_le_bytes_4, from_le_bytes-to_le_bytes_8}
use Rattle.v4l_const.specs.IoctlCode.{ioctl_number}
use Rattle.vm_wire.specs.Wire.{command_bytes, reply_size, Spells, IsCommand, MayFollow, response_bytes, Answers, ReadsBack}
use Rattle.vm_wire.specs.declared.command.TheConstants.{WIRE_ROOM}
use Rattle.vm_wire.specs.declared.response.Response.{Response}
use Rattle.vm_wire.specs.declared.response.Response.TheVariants.{Refused, Opened, Closed, Answered, Mapped, Unmapped}
use Rattle.vm_wire.specs.declared.command.Command.{Command}
use Rattle.vm_wire.specs.declared.command.Command.TheVariants.{OpenSession, CloseSession, Ioctl, Map, Unmap}
use Rattle.vm_wire.specs.Payload.{payload_need}
use Rattle.vm_wire.proofs.CodeLemmas.{code_fits}
use Rattle.vm_wire.proofs.PayloadLemmas.{need_before, need_fits}

-- what is written of a command spells it, with what may stand behind it
pub command_before : (c : Command) (behind : List ℕ) (room : ℕ) → IsCommand c → MayFollow c behind → reply_size c ≤ room → Spells (command_bytes c ++ behind) room c
command_before OpenSession behind room fits follows enough = ((omega arith, refl), enough)
command_before (CloseSession session) behind room fits follows enough = ((omega arith, refl, from_le_bytes-to_le_bytes_4 session fits), enough)
command_before (Ioctl session code payload) behind room fits follows enough =
    let need : payload_need code (payload ++ behind) ≡ length payload = need_before code payload behind fits.1 in (
      (
        omega (arith, need, length-append payload behind),
        refl,
        from_le_bytes-to_le_bytes_4 session fits.0,
        from_le_bytes-to_le_bytes_4 (ioctl_number code) (code_fits code),
        sym (take_at payload behind (payload_need code (payload ++ behind)) (sym need)),
        λ brings. ap (λ n. n % 16) (omega (arith, need, length-append payload behind)) ∙ follows brings,
      ),
      enough,
    )
command_before (Map session true offset) behind room fits follows enough =
    ((omega arith, refl, from_le_bytes-to_le_bytes_4 session fits.0, refl, from_le_bytes-to_le_bytes_4 offset fits.1), enough)
command_before (Map session false offset) behind room fits follows enough =
    ((omega arith, refl, from_le_bytes-to_le_bytes_4 session fits.0, refl, from_le_bytes-to_le_bytes_4 offset fits.1), enough)
command_before (Unmap addr) behind room fits follows enough = ((omega arith, refl, from_le_bytes-to_le_bytes_8 addr fits), enough)

none_follows : (c : Command) → MayFollow c []
none_follows OpenSession = tt
none_follows (CloseSession session) = tt
none_follows (Ioctl session code payload) = λ brings. refl
none_follows (Map session writable offset) = tt
none_follows (Unmap addr) = tt

-- what is written of a command spells it
pub command_again : (c : Command) (room : ℕ) → IsCommand c → reply_size c ≤ room → Spells (command_bytes c) room c
command_again c room fits enough =
    let P : List ℕ → Type 0 = λ bytes. Spells bytes room c in
    subst P (append-nil (command_bytes c)) (command_before c [] room fits (none_follows c) enough)

-- what is written of a command goes into its page
pub command_fits : (c : Command) → IsCommand c → length (command_bytes c) ≤ WIRE_ROOM
command_fits OpenSession fits = omega arith
command_fits (CloseSession session) fits = omega arith
command_fits (Ioctl session code payload) fits = omega (arith, fits.1, need_fits code payload)
command_fits (Map session writable offset) fits = omega arith
command_fits (Unmap addr) fits = omega arith

-- and so does its reply with status 0
pub room_fits : (c : Command) → IsCommand c → reply_size c ≤ WIRE_ROOM
room_fits OpenSession fits = omega arith
room_fits (CloseSession session) fits = omega arith
room_fits (Ioctl session code payload) fits = omega (arith, fits.1, need_fits code payload)
room_fits (Map session writable offset) fits = omega arith
room_fits (Unmap addr) fits = omega arith

refusal_fits : (c : Command) → 8 ≤ reply_size c
refusal_fits OpenSession = omega arith
refusal_fits (CloseSession session) = omega arith
refusal_fits (Ioctl session code payload) = omega arith
refusal_fits (Map session writable offset) = omega arith
refusal_fits (Unmap addr) = omega arith

-- a command's answer goes into the room of its reply with status 0
pub reply_fits : (c : Command) (r : Response) → Answers c r → length (response_bytes r) ≤ reply_size c
reply_fits c (Refused errno) fits = refusal_fits c
reply_fits OpenSession (Opened session) fits = omega arith
reply_fits (CloseSession s) Closed fits = omega arith
reply_fits (Ioctl s code payload) (Answered answer) fits = omega (arith, fits)
reply_fits (Map s writable offset) (Mapped addr len) fits = omega arith
reply_fits (Unmap addr) Unmapped fits = omega arith
reply_fits OpenSession Closed fits = absurd fits
reply_fits OpenSession (Answered answer) fits = absurd fits
reply_fits OpenSession (Mapped mapped len) fits = absurd fits
reply_fits OpenSession Unmapped fits = absurd fits
reply_fits (CloseSession s) (Opened session) fits = absurd fits
reply_fits (CloseSession s) (Answered answer) fits = absurd fits
reply_fits (CloseSession s) (Mapped mapped len) fits = absurd fits
reply_fits (CloseSession s) Unmapped fits = absurd fits
reply_fits (Ioctl s code payload) (Opened session) fits = absurd fits
reply_fits (Ioctl s code payload) Closed fits = absurd fits
reply_fits (Ioctl s code payload) (Mapped mapped len) fits = absurd fits
reply_fits (Ioctl s code payload) Unmapped fits = absurd fits
reply_fits (Map s writable offset) (Opened session) fits = absurd fits
reply_fits (Map s writable offset) Closed fits = absurd fits
reply_fits (Map s writable offset) (Answered answer) fits = absurd fits
reply_fits (Map s writable offset) Unmapped fits = absurd fits
reply_fits (Unmap addr) (Opened session) fits = absurd fits
reply_fits (Unmap addr) Closed fits = absurd fits
reply_fits (Unmap addr) (Answered answer) fits = absurd fits
reply_fits (Unmap addr) (Mapped mapped len) fits = absurd fits

-- what is written of a command's answer is read as it
pub response_again : (c : Command) (r : Response) → Answers c r → ReadsBack c r (response_bytes r)
response_again c (Refused errno) fits = (grind (arith, nat_tests, from_le_bytes-to_le_bytes_4), grind (arith, nat_tests, from_le_bytes-to_le_bytes_4))
response_again OpenSession (Opened session) fits = (omega arith, ap Opened (from_le_bytes-to_le_bytes_4 session fits))
response_again (CloseSession s) Closed fits = (omega arith, refl)
response_again (Ioctl s code payload) (Answered answer) fits =
    (grind (arith, fits), ap Answered (ap (λ n. take n answer) (sym fits) ∙ take-length answer))
response_again (Map s writable offset) (Mapped addr len) fits =
    (omega arith, grind (arith, from_le_bytes-to_le_bytes_8))
response_again (Unmap addr) Unmapped fits = (omega arith, refl)
response_again OpenSession Closed fits = absurd fits
response_again OpenSession (Answered answer) fits = absurd fits
response_again OpenSession (Mapped mapped len) fits = absurd fits
response_again OpenSession Unmapped fits = absurd fits
response_again (CloseSession s) (Opened session) fits = absurd fits
response_again (CloseSession s) (Answered answer) fits = absurd fits
response_again (CloseSession s) (Mapped mapped len) fits = absurd fits
response_again (CloseSession s) Unmapped fits = absurd fits
response_again (Ioctl s code payload) (Opened session) fits = absurd fits
response_again (Ioctl s code payload) Closed fits = absurd fits
response_again (Ioctl s code payload) (Mapped mapped len) fits = absurd fits
response_again (Ioctl s code payload) Unmapped fits = absurd fits
response_again (Map s writable offset) (Opened session) fits = absurd fits
response_again (Map s writable offset) Closed fits = absurd fits
response_again (Map s writable offset) (Answered answer) fits = absurd fits
response_again (Map s writable offset) Unmapped fits = absurd fits
response_again (Unmap addr) (Opened session) fits = absurd fits
response_again (Unmap addr) Closed fits = absurd fits
response_again (Unmap addr) (Answered answer) fits = absurd fits
response_again (Unmap addr) (Mapped mapped len) fits = absurd fits
