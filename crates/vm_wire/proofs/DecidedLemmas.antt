-- Bytes and room spell one command, or have one fault.
use Rattle.std.proofs.Common.{ℕ, ◌≡◌, ◌≢◌, ◌≤◌, ◌+◌, ◌-◌, ◌%◌, ◌==◌, ◌&&◌, ◌||◌, not, nat_lt, Bool, true, false, if◌then◌else◌, List, length, take, drop, Option, Some, None, Result, Ok, arith, refl, sym, ap, ◌∙◌, subst, inl, inr, IfOk, IfErr}
use Rattle.std.proofs.lemmas.Bool.{cases_eq, cases_lt}
use Rattle.std.proofs.lemmas.Bool.Decides.{nat_tests}
use Rattle.std.proofs.lemmas.List.{length-take-le, length-drop}
use Rattle.v4l_const.specs.IoctlCode.{ioctl_of}
use Rattle.v4l_const.specs.declared.ioctl_code.IoctlCode.{IoctlCode}
use Rattle.vm_wire.specs.Payload.{payload_need}
use Rattle.vm_wire.specs.Wire.{number_at, long_at, is_writable, Spells, sizes_fault, command_fault, command_at, ioctl_fault, ioctl_at, is_cut, brings_entries, IsDecided, judged, judged_by}
use Rattle.vm_wire.specs.declared.command.Command.{Command}
use Rattle.vm_wire.specs.declared.command.Command.TheVariants.{OpenSession, CloseSession, Ioctl, Map, Unmap}
use Rattle.vm_wire.specs.declared.command.CmdFault.{CmdFault}
use Rattle.vm_wire.specs.declared.command.CmdFault.TheVariants.{Short, UnknownCmd, Room}
use Rattle.vm_wire.proofs.CodeLemmas.{code_again, code_of_number}

whole_of : (len size over : ℕ) (brings : Bool) → (nat_lt len size || (brings && not (over == 0))) ≡ false → (size ≤ len) × (brings ≡ true → over ≡ 0)
whole_of len size over true whole = grind (arith, nat_tests)
whole_of len size over false whole = (grind (arith, nat_tests), λ e. cc)

not_cut : (len size over : ℕ) (brings : Bool) → size ≤ len → (brings ≡ true → over ≡ 0) → (nat_lt len size || (brings && not (over == 0))) ≡ false
not_cut len size over true long whole = let none : over ≡ 0 = whole refl in grind (arith, nat_tests)
not_cut len size over false long whole = grind (arith, nat_tests)

passes : (cut : Bool) (room size : ℕ) → (if cut then Some Short else (if nat_lt room size then Some Room else None)) ≡ None → (cut ≡ false) × (size ≤ room)
passes true room size fine = cc
passes false room size fine = (refl, grind (arith, nat_tests))

-- the IOCTL that bytes without a fault are is spelled
ioctl_spelled : (bytes : List ℕ) (room : ℕ) (o : Option IoctlCode) → ioctl_of (number_at 12 bytes) ≡ o → number_at 0 bytes ≡ 3
    → ioctl_fault o bytes room ≡ None → Spells bytes room (ioctl_at o bytes)
ioctl_spelled bytes room None finds number fine = cc
ioctl_spelled bytes room (Some code) finds number fine =
    let fits = passes (is_cut code bytes) room (8 + payload_need code (drop 16 bytes)) fine in
    let size : ℕ = 16 + payload_need code (drop 16 bytes) in
    let whole = whole_of (length bytes) size ((length bytes - size) % 16) (brings_entries code (take (payload_need code (drop 16 bytes)) (drop 16 bytes))) fits.0 in
    let sized : length (take (payload_need code (drop 16 bytes)) (drop 16 bytes)) ≡ payload_need code (drop 16 bytes) = length-take-le (payload_need code (drop 16 bytes)) (drop 16 bytes) (omega (arith, whole.0, length-drop (16) bytes)) in
    ((whole.0, number, refl, code_of_number (number_at 12 bytes) code finds, refl, whole.1), omega (arith, sized, fits.1))

-- the first fault where the number of the command is known and there
abbrev numbered_fault : ℕ → List ℕ → ℕ → Option CmdFault
numbered_fault n bytes room =
    if n == 1 then sizes_fault 8 16 bytes room
    else (if n == 2 then sizes_fault 16 8 bytes room
    else (if n == 3 then (if nat_lt (length bytes) 16 then Some Short else ioctl_fault (ioctl_of (number_at 12 bytes)) bytes room)
    else (if n == 4 then sizes_fault 24 24 bytes room
    else (if n == 5 then sizes_fault 16 8 bytes room
    else Some UnknownCmd))))

-- the command that bytes with this number are
abbrev numbered_command : ℕ → List ℕ → Command
numbered_command n bytes =
    if n == 1 then OpenSession
    else (if n == 2 then CloseSession (number_at 8 bytes)
    else (if n == 3 then ioctl_at (ioctl_of (number_at 12 bytes)) bytes
    else (if n == 4 then Map (number_at 8 bytes) (is_writable (number_at 12 bytes)) (number_at 16 bytes)
    else Unmap (long_at 8 bytes))))

-- a number that none has is a fault
numberless : {X : Type 0} (n : ℕ) (a b c d e f : X) → n ≢ 1 → n ≢ 2 → n ≢ 3 → n ≢ 4 → n ≢ 5
    → (if n == 1 then a else (if n == 2 then b else (if n == 3 then c else (if n == 4 then d else (if n == 5 then e else f))))) ≡ f
numberless n a b c d e f one two three four five = grind (arith, nat_tests)

long_enough : {X : Type 0} (len size : ℕ) (short long : X) → size ≤ len → (if nat_lt len size then short else long) ≡ long
long_enough len size short long fits = grind (arith, nat_tests)

not_short : (len size : ℕ) (rest : Option CmdFault) → (if nat_lt len size then Some Short else rest) ≡ None → (size ≤ len) × (rest ≡ None)
not_short len size rest fine = elim (cases_lt len size) [
  | inl short ↦ let P : Bool → Type 0 = λ b. (if b then Some Short else rest) ≡ None in grind (arith, nat_tests, fine)
  | inr long ↦ (long, sym (long_enough len size (Some Short) rest long) ∙ fine)
]

no_fault : {P : Type 0} (f : CmdFault) (o : Option CmdFault) → o ≡ Some f → o ≡ None → P
no_fault f o some none = absurd (let same : Some f ≡ None = sym some ∙ none in cc)

sizes_fit : (fields reply : ℕ) (bytes : List ℕ) (room : ℕ) → sizes_fault fields reply bytes room ≡ None → (fields ≤ length bytes) × (reply ≤ room)
sizes_fit fields reply bytes room fine =
    let long = not_short (length bytes) fields (if nat_lt room reply then Some Room else None) fine in
    (long.0, (passes false room reply long.1).1)

numbered_spelled : (n : ℕ) (bytes : List ℕ) (room : ℕ) → number_at 0 bytes ≡ n → numbered_fault n bytes room ≡ None → Spells bytes room (numbered_command n bytes)
numbered_spelled n bytes room is fine =
    let F : ℕ → Type 0 = λ k. numbered_fault k bytes room ≡ None in
    let S : ℕ → Type 0 = λ k. Spells bytes room (numbered_command k bytes) in
    elim (cases_eq n 1) as (λ x. Spells bytes room (numbered_command n bytes)) [
      | inl e ↦ let sizes = sizes_fit 8 16 bytes room (subst F e fine) in subst S (sym e) ((sizes.0, is ∙ e), sizes.1)
      | inr one ↦ elim (cases_eq n 2) as (λ x. Spells bytes room (numbered_command n bytes)) [
        | inl e ↦ let sizes = sizes_fit 16 8 bytes room (subst F e fine) in subst S (sym e) ((sizes.0, is ∙ e, refl), sizes.1)
        | inr two ↦ elim (cases_eq n 3) as (λ x. Spells bytes room (numbered_command n bytes)) [
          | inl e ↦
              let code : Option IoctlCode = ioctl_of (number_at 12 bytes) in
              let there = not_short (length bytes) 16 (ioctl_fault code bytes room) (subst F e fine) in
              subst S (sym e) (ioctl_spelled bytes room code refl (is ∙ e) there.1)
          | inr three ↦ elim (cases_eq n 4) as (λ x. Spells bytes room (numbered_command n bytes)) [
            | inl e ↦ let sizes = sizes_fit 24 24 bytes room (subst F e fine) in subst S (sym e) ((sizes.0, is ∙ e, refl, refl, refl), sizes.1)
            | inr four ↦ elim (cases_eq n 5) as (λ x. Spells bytes room (numbered_command n bytes)) [
              | inl e ↦ let sizes = sizes_fit 16 8 bytes room (subst F e fine) in subst S (sym e) ((sizes.0, is ∙ e, refl), sizes.1)
              | inr five ↦
                  let unknown : numbered_fault n bytes room ≡ Some UnknownCmd =
                  numberless n (sizes_fault 8 16 bytes room) (sizes_fault 16 8 bytes room)
                  (if nat_lt (length bytes) 16 then Some Short else ioctl_fault (ioctl_of (number_at 12 bytes)) bytes room)
                  (sizes_fault 24 24 bytes room) (sizes_fault 16 8 bytes room) (Some UnknownCmd) one two three four five in
                  no_fault UnknownCmd (numbered_fault n bytes room) unknown fine
            ]
          ]
        ]
      ]
    ]

-- bytes without a fault spell the command that they are
spells_at : (bytes : List ℕ) (room : ℕ) → command_fault bytes room ≡ None → Spells bytes room (command_at bytes)
spells_at bytes room fine =
    let long = not_short (length bytes) 8 (numbered_fault (number_at 0 bytes) bytes room) fine in
    numbered_spelled (number_at 0 bytes) bytes room refl long.1

-- where the number is known, and the bytes are enough for it
numbered : (n : ℕ) (bytes : List ℕ) (room : ℕ) (fault : Option CmdFault) (c : Command) → 8 ≤ length bytes → number_at 0 bytes ≡ n
    → numbered_fault n bytes room ≡ fault → numbered_command n bytes ≡ c → (command_fault bytes room ≡ fault) × (command_at bytes ≡ c)
numbered n bytes room fault c long is faulty same =
    let F : ℕ → Type 0 = λ k. numbered_fault k bytes room ≡ fault in
    let C : ℕ → Type 0 = λ k. numbered_command k bytes ≡ c in
    let skip = long_enough (length bytes) 8 (Some Short) (numbered_fault (number_at 0 bytes) bytes room) long in
    (skip ∙ subst F (sym is) faulty, subst C (sym is) same)

no_sizes_fault : (fields reply : ℕ) (bytes : List ℕ) (room : ℕ) → fields ≤ length bytes → reply ≤ room → sizes_fault fields reply bytes room ≡ None
no_sizes_fault fields reply bytes room long wide =
    long_enough (length bytes) fields (Some Short) (if nat_lt room reply then Some Room else None) long ∙ long_enough room reply (Some Room) None wide

-- a command that is spelled has no fault and is what the bytes are
spelled : (bytes : List ℕ) (room : ℕ) (c : Command) → Spells bytes room c → (command_fault bytes room ≡ None) × (command_at bytes ≡ c)
spelled bytes room OpenSession s = numbered 1 bytes room None OpenSession s.0.0 s.0.1 (no_sizes_fault 8 16 bytes room s.0.0 s.1) refl
spelled bytes room (CloseSession session) s =
    numbered 2 bytes room None (CloseSession session) (omega (arith, s.0.0)) s.0.1 (no_sizes_fault 16 8 bytes room s.0.0 s.1) (ap CloseSession s.0.2)
spelled bytes room (Ioctl session code payload) s =
    let found : ioctl_of (number_at 12 bytes) ≡ Some code = ap ioctl_of s.0.3 ∙ code_again code in
    let size : ℕ = 16 + payload_need code (drop 16 bytes) in
    let read : List ℕ = take (payload_need code (drop 16 bytes)) (drop 16 bytes) in
    let sized : length read ≡ payload_need code (drop 16 bytes) = length-take-le (payload_need code (drop 16 bytes)) (drop 16 bytes) (omega (arith, s.0.0, length-drop 16 bytes)) in
    let B : List ℕ → Type 0 = λ xs. brings_entries code xs ≡ true → (length bytes - size) % 16 ≡ 0 in
    let whole : is_cut code bytes ≡ false = not_cut (length bytes) size ((length bytes - size) % 16) (brings_entries code read) s.0.0 (subst B s.0.4 s.0.5) in
    let wide : 8 + payload_need code (drop 16 bytes) ≤ room = omega (arith, s.1, sized, ap length s.0.4) in
    let F : Option IoctlCode → Type 0 = λ o. ioctl_fault o bytes room ≡ None in
    let W : Bool → Type 0 = λ b. (if b then Some Short else (if nat_lt room (8 + payload_need code (drop 16 bytes)) then Some Room else None)) ≡ None in
    let fine : ioctl_fault (ioctl_of (number_at 12 bytes)) bytes room ≡ None = subst F (sym found) (subst W (sym whole) (long_enough room (8 + payload_need code (drop 16 bytes)) (Some Room) None wide)) in
    let C : Option IoctlCode → Type 0 = λ o. ioctl_at o bytes ≡ Ioctl session code payload in
    let same : Ioctl (number_at 8 bytes) code read ≡ Ioctl session code payload = ap (λ x. Ioctl x code read) s.0.2 ∙ ap (Ioctl session code) (sym s.0.4) in
    numbered 3 bytes room None (Ioctl session code payload) (omega (arith, s.0.0)) s.0.1
    (long_enough (length bytes) 16 (Some Short) (ioctl_fault (ioctl_of (number_at 12 bytes)) bytes room) (omega (arith, s.0.0)) ∙ fine)
    (subst C (sym found) same)
spelled bytes room (Map session writable offset) s =
    let same : Map (number_at 8 bytes) (is_writable (number_at 12 bytes)) (number_at 16 bytes) ≡ Map session writable offset =
    ap (λ x. Map x (is_writable (number_at 12 bytes)) (number_at 16 bytes)) s.0.2 ∙ (ap (λ w. Map session w (number_at 16 bytes)) s.0.3 ∙ ap (Map session writable) s.0.4) in
    numbered 4 bytes room None (Map session writable offset) (omega (arith, s.0.0)) s.0.1 (no_sizes_fault 24 24 bytes room s.0.0 s.1) same
spelled bytes room (Unmap addr) s =
    numbered 5 bytes room None (Unmap addr) (omega (arith, s.0.0)) s.0.1 (no_sizes_fault 16 8 bytes room s.0.0 s.1) (ap Unmap s.0.2)

judge : (bytes : List ℕ) (room : ℕ) (o : Option CmdFault) → command_fault bytes room ≡ o → IsDecided bytes room
judge bytes room None fine = inl (command_at bytes, (spells_at bytes room fine, (λ d s. sym (spelled bytes room d s).1), fine))
judge bytes room (Some f) faulty = inr (f, (faulty, λ c s. let none = (spelled bytes room c s).0 in cc))

pub decided : (bytes : List ℕ) (room : ℕ) → IsDecided bytes room
decided bytes room = judge bytes room (command_fault bytes room) refl

judge_ok : (bytes : List ℕ) (room : ℕ) (o : Option CmdFault) → command_fault bytes room ≡ o → IfOk (judged_by o (command_at bytes)) (λ c. Spells bytes room c)
judge_ok bytes room None fine = spells_at bytes room fine
judge_ok bytes room (Some f) faulty = tt

judge_err : (o : Option CmdFault) (c : Command) → IfErr (judged_by o c) (λ f. o ≡ Some f)
judge_err None c = tt
judge_err (Some f) c = refl

-- what is judged is spelled
pub judged_ok : (bytes : List ℕ) (room : ℕ) (r : Result Command CmdFault) → r ≡ judged bytes room → IfOk r (λ c. Spells bytes room c)
judged_ok bytes room r is = let P : Result Command CmdFault → Type 0 = λ x. IfOk x (λ c. Spells bytes room c) in subst P (sym is) (judge_ok bytes room (command_fault bytes room) refl)

-- a command that is spelled is what is judged
pub judged_only : (bytes : List ℕ) (room : ℕ) (r : Result Command CmdFault) → r ≡ judged bytes room → (c : Command) → Spells bytes room c → r ≡ Ok c
judged_only bytes room r is c s =
    let found = spelled bytes room c s in
    is ∙ (ap (λ o. judged_by o (command_at bytes)) found.0 ∙ ap Ok found.1)

-- a fault that is judged is the first
pub judged_fault : (bytes : List ℕ) (room : ℕ) (r : Result Command CmdFault) → r ≡ judged bytes room → IfErr r (λ f. command_fault bytes room ≡ Some f)
judged_fault bytes room r is =
    let P : Result Command CmdFault → Type 0 = λ x. IfErr x (λ f. command_fault bytes room ≡ Some f) in
    subst P (sym is) (judge_err (command_fault bytes room) (command_at bytes))

enough : (len size : ℕ) → size ≤ len → nat_lt len size ≡ false
enough len size long = grind (arith, nat_tests)

-- an IOCTL of `size` bytes that has all its bytes and its room is judged to be it
pub ioctl_judged : (bytes : List ℕ) (room : ℕ) (code : IoctlCode) (session size : ℕ) (payload : List ℕ) → ioctl_of (number_at 12 bytes) ≡ Some code
    → size ≡ payload_need code (drop 16 bytes) → 16 + size ≤ length bytes → false ≡ (brings_entries code (take (16 + size - 16) (drop 16 bytes)) && not ((length bytes - (16 + size)) % 16 == 0)) → 8 + size ≤ room
    → session ≡ number_at 8 bytes → payload ≡ take (16 + size - 16) (drop 16 bytes)
    → Ok (Ioctl session code payload) ≡ judged_by (ioctl_fault (ioctl_of (number_at 12 bytes)) bytes room) (ioctl_at (ioctl_of (number_at 12 bytes)) bytes)
ioctl_judged bytes room code session size payload found sized long whole wide is_session is_payload =
    let read : List ℕ = take (payload_need code (drop 16 bytes)) (drop 16 bytes) in
    let back : 16 + size - 16 ≡ payload_need code (drop 16 bytes) = omega (arith, sized) in
    let is_read : payload ≡ read = is_payload ∙ ap (λ n. take n (drop 16 bytes)) back in
    let N : ℕ → Type 0 = λ n. false ≡ (brings_entries code (take n (drop 16 bytes)) && not ((length bytes - (16 + size)) % 16 == 0)) in
    let M : ℕ → Type 0 = λ n. false ≡ (brings_entries code read && not ((length bytes - (16 + n)) % 16 == 0)) in
    let rest : Bool = brings_entries code read && not ((length bytes - (16 + payload_need code (drop 16 bytes))) % 16 == 0) in
    let here : nat_lt (length bytes) (16 + payload_need code (drop 16 bytes)) ≡ false = enough (length bytes) (16 + payload_need code (drop 16 bytes)) (omega (arith, long, sized)) in
    let uncut : is_cut code bytes ≡ false = ap (λ b. b || rest) here ∙ sym (subst M sized (subst N back whole)) in
    let W : Bool → Type 0 = λ b. (if b then Some Short else (if nat_lt room (8 + payload_need code (drop 16 bytes)) then Some Room else None)) ≡ None in
    let fine : ioctl_fault (Some code) bytes room ≡ None = subst W (sym uncut) (long_enough room (8 + payload_need code (drop 16 bytes)) (Some Room) None (omega (arith, wide, sized))) in
    let J : Option IoctlCode → Type 0 = λ o. Ok (Ioctl session code payload) ≡ judged_by (ioctl_fault o bytes room) (ioctl_at o bytes) in
    let same : Ioctl session code payload ≡ Ioctl (number_at 8 bytes) code read = ap (λ x. Ioctl x code payload) is_session ∙ ap (Ioctl (number_at 8 bytes) code) is_read in
    subst J (sym found) (ap Ok same ∙ sym (ap (λ o. judged_by o (ioctl_at (Some code) bytes)) fine))
