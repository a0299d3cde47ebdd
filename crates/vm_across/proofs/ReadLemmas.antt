-- Lemmas on what the device reads in the chains that processes post.
use Rattle.std.proofs.Common.{◌≡◌, ℕ, ◌+◌, ◌*◌, ◌^◌, ◌-◌, ◌≤◌, ◌<◌, ◌==◌, Bool, true, false, List, [], ◌∷◌, ◌++◌, length, take, drop, Option, None, Result, Ok, refl, sym, ap, ◌∙◌, subst, arith, length-append}
use Rattle.std.specs.Option.{option_to_list}
use Rattle.std.proofs.lemmas.Bool.Decides.{nat_tests}
use Rattle.std.proofs.lemmas.List.{take_at, drop_at}
use Rattle.vm_chain.specs.Chain.{writable_bytes}
use Rattle.vm_chain.specs.declared.desc.Desc.{Desc}
use Rattle.vm_chain.specs.declared.fault.ChainFault.{ChainFault}
use Rattle.vm_mem.specs.Page.{page_number}
use Rattle.vm_frame.specs.declared.mem.Held.{Held}
use Rattle.vm_carrier.specs.Carrier.{readable_of}
use Rattle.vm_link.specs.declared.parcel.Parcel.{Parcel}
use Rattle.vm_script.specs.declared.line.RawChain.{RawChain}
use Rattle.vm_script.specs.declared.line.RawChain.TheVariants.{Loop, Outside, Order, Zero, Addr, Indirect, Bytes}
use Rattle.vm_wire.specs.Message.Ask.{Judged}
use Rattle.vm_wire.specs.Wire.{judged, command_bytes}
use Rattle.vm_wire.specs.declared.command.Command.{Command}
use Rattle.vm_wire.specs.declared.command.Command.TheVariants.{OpenSession, CloseSession, Ioctl, Map, Unmap}
use Rattle.vm_wire.specs.declared.command.CmdFault.{CmdFault}
use Rattle.vm_wire.proofs.DecidedLemmas.{judged_only}
use Rattle.vm_wire.proofs.WireLemmas.{command_before, room_fits}
use Rattle.vm_exchange.specs.Entries.{bytes_behind, crossing_bytes}
use Rattle.vm_exchange.specs.declared.crossing.Crossing.{Crossing}
use Rattle.vm_handle.specs.Answers.{IsCrossing}
use Rattle.vm_device.specs.Perform.{gives_back}
use Rattle.vm_host.specs.Chains.{chain_in, asked_by, HasRoomFor}
use Rattle.vm_host.specs.Part.{posting_of as posting_in}
use Rattle.vm_guest.specs.Chain.{command_page, reply_page, reply_room, chain_table, chain_pages}
use Rattle.vm_guest.specs.Message.{Sending, OfCall, OfRaw, Carries, posting_of}
use Rattle.vm_guest.specs.Orderly.{process_limit}
use Rattle.vm_guest.specs.Raw.{raw_table, raw_bytes, bytes_table, bytes_ask, behind_asked, IsFitRaw}
use Rattle.vm_across.specs.Across.{IsFit}
use Rattle.vm_across.proofs.FrontLemmas.{below, read_both, read_one, reads, reads_writes}
use Rattle.vm_across.proofs.WalkLemmas.{walks_both, walks_read, Fails, fails_outside, fails_order, fails_zero, fails_indirect, fails_addr, fails_round}
use Rattle.vm_across.proofs.AskLemmas.{asks_nothing, asks_bytes}

-- a process's parcel, by all that it is
abbrev pub parcel_of : ℕ → List Desc → List ℕ → List ℕ → List Held → ℕ → Parcel
parcel_of n table command reply held room =
    record { who = n; table = table; pages = chain_pages n command reply; held = held; room = room }

-- its pages are two
pub apart : (n : ℕ) → (command_page n == reply_page n) ≡ false
apart n = below (command_page n) (reply_page n) (omega arith)

front_fits : (front behind : List ℕ) → length (front ++ behind) ≡ 4096 → length front ≤ 4096
front_fits front behind whole = omega (arith, whole, length-append front behind)

-- ---- a call

some_bytes : (c : Command) → 1 ≤ length (command_bytes c)
some_bytes OpenSession = omega arith
some_bytes (CloseSession session) = omega arith
some_bytes (Ioctl session code payload) = omega arith
some_bytes (Map session writable offset) = omega arith
some_bytes (Unmap addr) = omega arith

some_crossing : (c : Crossing) → 1 ≤ length (crossing_bytes c)
some_crossing c = omega (arith, some_bytes c.command, length-append (command_bytes c.command) (bytes_behind c.user))

-- what crosses is judged to be its command
pub crossing_judged : (c : Crossing) → IsCrossing c → judged (crossing_bytes c) reply_room ≡ Ok c.command
crossing_judged c fits =
    let room = room_fits c.command fits.0 in
    judged_only (crossing_bytes c) reply_room (judged (crossing_bytes c) reply_room) refl c.command
    (command_before c.command (bytes_behind c.user) reply_room fits.0 fits.1 (omega (arith, room)))

-- the walk of a call's chain finds its two descriptors
pub call_walked : (n : ℕ) (c : Crossing) (behind reply : List ℕ) (held : List Held) (room : ℕ) → length (crossing_bytes c ++ behind) ≡ 4096
    → chain_in (parcel_of n (chain_table n (length (crossing_bytes c))) (crossing_bytes c ++ behind) reply held room) ≡ Ok (chain_table n (length (crossing_bytes c)))
call_walked n c behind reply held room whole =
    walks_both (command_page n) (reply_page n) (length (crossing_bytes c)) reply_room (apart n) (some_crossing c) (front_fits (crossing_bytes c) behind whole) (omega arith) (omega arith)

-- and its bytes are read
pub call_bytes : (n : ℕ) (c : Crossing) (behind reply : List ℕ) → readable_of (chain_table n (length (crossing_bytes c))) (chain_pages n (crossing_bytes c ++ behind) reply) ≡ crossing_bytes c
call_bytes n c behind reply =
    read_both (command_page n) (reply_page n) (length (crossing_bytes c)) reply_room (crossing_bytes c ++ behind) reply ∙ take_at (crossing_bytes c) behind (length (crossing_bytes c)) refl

call_read : (n : ℕ) (c : Crossing) (along : Option Held) (behind reply : List ℕ) (room : ℕ) → IsCrossing c → length (crossing_bytes c ++ behind) ≡ 4096
    → posting_in (parcel_of n (chain_table n (length (crossing_bytes c))) (crossing_bytes c ++ behind) reply (option_to_list along) room) ≡ posting_of n (OfCall c along)
call_read n c along behind reply room fits whole =
    let p : Parcel = parcel_of n (chain_table n (length (crossing_bytes c))) (crossing_bytes c ++ behind) reply (option_to_list along) room in
    let asks : bytes_ask (crossing_bytes c) reply_room ≡ Judged (Ok c.command) = ap Judged (crossing_judged c fits) in
    let rest : drop (length (command_bytes c.command)) (crossing_bytes c) ≡ bytes_behind c.user = drop_at (command_bytes c.command) (bytes_behind c.user) (length (command_bytes c.command)) refl in
    asks_bytes p (chain_table n (length (crossing_bytes c))) (crossing_bytes c) reply_room (call_walked n c behind reply (option_to_list along) room whole) (call_bytes n c behind reply) refl
    ∙ ap (λ a. record { request = record { who = n; asks = a }; behind = behind_asked a (crossing_bytes c); held = option_to_list along }) asks
    ∙ ap (λ bs. record { request = record { who = n; asks = Judged (Ok c.command) }; behind = bs; held = option_to_list along }) rest

-- ---- a raw line

-- the chain of a raw line of some bytes is walked
raw_walked_if : (b : Bool) (n len room : ℕ) → (room == 0) ≡ b → 1 ≤ len → len ≤ 4096 → room ≤ 4096
    → chain_in (parcel_of n (bytes_table n len room) [] [] [] 0) ≡ Ok (bytes_table n len room)
raw_walked_if true n len room is some fits small =
    let here : bytes_table n len room ≡ reads (command_page n) len = rw is refl in
    let P : List Desc → Type 0 = λ t. chain_in (parcel_of n t [] [] [] 0) ≡ Ok t in
    subst P (sym here) (walks_read (command_page n) (reply_page n) len some fits)
raw_walked_if false n len room is some fits small =
    let here : bytes_table n len room ≡ reads_writes (command_page n) (reply_page n) len room = rw is refl in
    let P : List Desc → Type 0 = λ t. chain_in (parcel_of n t [] [] [] 0) ≡ Ok t in
    let least : 1 ≤ room = grind (arith, nat_tests, is) in
    subst P (sym here) (walks_both (command_page n) (reply_page n) len room (apart n) some fits least small)

raw_read_if : (b : Bool) (n len room : ℕ) (command reply : List ℕ) → (room == 0) ≡ b → readable_of (bytes_table n len room) (chain_pages n command reply) ≡ take len command
raw_read_if true n len room command reply is = rw is (read_one (command_page n) (reply_page n) len command reply)
raw_read_if false n len room command reply is = rw is (read_both (command_page n) (reply_page n) len room command reply)

raw_room_if : (b : Bool) (n len room : ℕ) → (room == 0) ≡ b → writable_bytes (bytes_table n len room) ≡ room
raw_room_if true n len room is = (let none : room ≡ 0 = grind (arith, nat_tests, is) in rw is (sym none))
raw_room_if false n len room is = rw is (omega arith)

pub raw_walked : (n : ℕ) (bytes behind reply : List ℕ) (room least : ℕ) → IsFitRaw (Bytes bytes room)
    → chain_in (parcel_of n (bytes_table n (length bytes) room) (bytes ++ behind) reply [] least) ≡ Ok (bytes_table n (length bytes) room)
raw_walked n bytes behind reply room least fits = raw_walked_if (room == 0) n (length bytes) room refl fits.0 (omega (arith, fits.1)) fits.2

pub raw_room : (n len room : ℕ) → writable_bytes (bytes_table n len room) ≡ room
raw_room n len room = raw_room_if (room == 0) n len room refl

bytes_read : (n : ℕ) (bytes behind reply : List ℕ) (room least : ℕ) → IsFitRaw (Bytes bytes room)
    → posting_in (parcel_of n (bytes_table n (length bytes) room) (bytes ++ behind) reply [] least) ≡ posting_of n (OfRaw (Bytes bytes room))
bytes_read n bytes behind reply room least fits =
    asks_bytes (parcel_of n (bytes_table n (length bytes) room) (bytes ++ behind) reply [] least) (bytes_table n (length bytes) room) bytes room (raw_walked n bytes behind reply room least fits)
    (raw_read_if (room == 0) n (length bytes) room (bytes ++ behind) reply refl ∙ take_at bytes behind (length bytes) refl) (raw_room n (length bytes) room)

-- the address of a raw line is in none of its process's pages
far : page_number (2 ^ 64 - 4096) ≡ 4503599627370495
far = refl

outside : (q : ℕ) → q < 4503599627370495 → (q == page_number (2 ^ 64 - 4096)) ≡ false
outside q less = below q (page_number (2 ^ 64 - 4096)) (omega (arith, less, far))

-- a raw line has bytes of its own
abbrev pub HasBytes : RawChain → Type 0
HasBytes (Bytes bytes room) = Unit {0}
HasBytes chain = ⊥

-- the chain of any other one has a fault
pub raw_fails : (n : ℕ) (chain : RawChain) (behind reply : List ℕ) (least : ℕ) → n < 16 → (HasBytes chain → ⊥)
    → Fails (chain_in (parcel_of n (raw_table n chain) (raw_bytes chain ++ behind) reply [] least))
raw_fails n Loop behind reply least few none = fails_round (command_page n) (reply_page n)
raw_fails n Outside behind reply least few none = fails_outside (command_page n) (reply_page n)
raw_fails n Order behind reply least few none = fails_order (command_page n) (reply_page n) (apart n)
raw_fails n Zero behind reply least few none = fails_zero (command_page n * 4096) (command_page n ∷ reply_page n ∷ [])
raw_fails n Addr behind reply least few none =
    fails_addr (2 ^ 64 - 4096) (command_page n) (reply_page n) (outside (command_page n) (omega (arith, few))) (outside (reply_page n) (omega (arith, few)))
raw_fails n Indirect behind reply least few none = fails_indirect (command_page n * 4096) (command_page n ∷ reply_page n ∷ [])
raw_fails n (Bytes bytes room) behind reply least few none = absurd (none tt)

raw_read : (n : ℕ) (chain : RawChain) (behind reply : List ℕ) (least : ℕ) → n < 16 → IsFitRaw chain
    → posting_in (parcel_of n (raw_table n chain) (raw_bytes chain ++ behind) reply [] least) ≡ posting_of n (OfRaw chain)
raw_read n Loop behind reply least few fits = asks_nothing (parcel_of n (raw_table n Loop) behind reply [] least) (raw_fails n Loop behind reply least few (λ has. has))
raw_read n Outside behind reply least few fits = asks_nothing (parcel_of n (raw_table n Outside) behind reply [] least) (raw_fails n Outside behind reply least few (λ has. has))
raw_read n Order behind reply least few fits = asks_nothing (parcel_of n (raw_table n Order) behind reply [] least) (raw_fails n Order behind reply least few (λ has. has))
raw_read n Zero behind reply least few fits = asks_nothing (parcel_of n (raw_table n Zero) behind reply [] least) (raw_fails n Zero behind reply least few (λ has. has))
raw_read n Addr behind reply least few fits = asks_nothing (parcel_of n (raw_table n Addr) behind reply [] least) (raw_fails n Addr behind reply least few (λ has. has))
raw_read n Indirect behind reply least few fits = asks_nothing (parcel_of n (raw_table n Indirect) behind reply [] least) (raw_fails n Indirect behind reply least few (λ has. has))
raw_read n (Bytes bytes room) behind reply least few fits = bytes_read n bytes behind reply room least fits

-- ---- the laws

pub is_read : (n : ℕ) (sending : Sending) (p : Parcel) → n < process_limit → IsFit sending → Carries n sending p → posting_in p ≡ posting_of n sending
is_read n (OfCall c along) p few fits carries =
    let P : Parcel → Type 0 = λ x. posting_in x ≡ posting_of n (OfCall c along) in
    subst P (sym carries.1.is) (call_read n c along carries.1.behind carries.1.reply carries.1.room carries.0 carries.1.whole_command)
is_read n (OfRaw chain) p few fits carries =
    let P : Parcel → Type 0 = λ x. posting_in x ≡ posting_of n (OfRaw chain) in
    subst P (sym carries.is) (raw_read n chain carries.behind carries.reply carries.room few fits)

one_command : (r : Result Command CmdFault) (c d : Command) → r ≡ Ok c → r ≡ Ok d → c ≡ d
one_command r c d is same = (let both : Ok c ≡ Ok d = sym is ∙ same in cc)

pub one_walk : (o : Result (List Desc) ChainFault) (descs table : List Desc) → o ≡ Ok descs → o ≡ Ok table → descs ≡ table
one_walk o descs table is same = (let both : Ok descs ≡ Ok table = sym is ∙ same in cc)

-- the command that is asked in a call's chain is the call's
call_command : (n : ℕ) (c : Crossing) (along : Option Held) (p : Parcel) (descs : List Desc) (d : Command) → Carries n (OfCall c along) p → chain_in p ≡ Ok descs
    → asked_by descs p.pages ≡ Ok d → d ≡ c.command
call_command n c along p descs d carries walked asked =
    let chain = carries.1 in
    let table : List Desc = chain_table n (length (crossing_bytes c)) in
    let found : descs ≡ table =
    one_walk (chain_in p) descs table walked (ap chain_in chain.is ∙ call_walked n c chain.behind chain.reply (option_to_list along) chain.room chain.whole_command) in
    let asks : asked_by descs p.pages ≡ Ok c.command =
    ap (λ ds. asked_by ds p.pages) found ∙ ap (λ (x : Parcel). asked_by table x.pages) chain.is ∙ ap (λ bs. judged bs reply_room) (call_bytes n c chain.behind chain.reply)
    ∙ crossing_judged c carries.0 in
    one_command (asked_by descs p.pages) d c.command asked asks

room_for : (held : List Held) (room : ℕ) → held ≡ [] → 64 ≤ room → length held + 64 ≤ room
room_for held room none roomy = (let empty : length held ≡ 0 = ap length none in omega (arith, empty, roomy))

pub has_room : (n : ℕ) (sending : Sending) (p : Parcel) (descs : List Desc) (c : Command) → n < process_limit → IsFit sending → Carries n sending p → chain_in p ≡ Ok descs
    → asked_by descs p.pages ≡ Ok c → HasRoomFor p c
has_room n (OfCall cr along) p descs c few fits carries walked asked = λ gives.
    let same : c ≡ cr.command = call_command n cr along p descs c carries walked asked in
    let alone : along ≡ None = fits (sym (ap gives_back same) ∙ gives) in
    let held : p.held ≡ [] = ap (λ (x : Parcel). x.held) carries.1.is ∙ ap option_to_list alone in
    let room : p.room ≡ carries.1.room = ap (λ (x : Parcel). x.room) carries.1.is in
    room_for p.held p.room held (omega (arith, room, carries.1.roomy))
has_room n (OfRaw chain) p descs c few fits carries walked asked = λ gives.
    let held : p.held ≡ [] = ap (λ (x : Parcel). x.held) carries.is in
    let room : p.room ≡ carries.room = ap (λ (x : Parcel). x.room) carries.is in
    room_for p.held p.room held (omega (arith, room, carries.roomy))
