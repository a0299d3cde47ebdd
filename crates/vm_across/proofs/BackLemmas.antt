-- Lemmas on what the driver reads in the chains that come back to processes.
use Rattle.std.proofs.Common.{◌≡◌, ℕ, ◌≤◌, ◌<◌, ◌==◌, Bool, true, false, List, [], ◌++◌, length, drop, Result, Ok, Err, refl, sym, ap, ◌∙◌, subst, arith}
use Rattle.std.specs.Option.{option_to_list}
use Rattle.std.proofs.lemmas.Bool.Decides.{nat_tests}
use Rattle.std.proofs.lemmas.List.{take_at}
use Rattle.vm_chain.specs.Chain.{writable_bytes}
use Rattle.vm_chain.specs.declared.desc.Desc.{Desc}
use Rattle.vm_chain.specs.declared.fault.ChainFault.{ChainFault}
use Rattle.vm_mem.specs.declared.page.Page.{Page}
use Rattle.vm_frame.specs.declared.mem.Held.{Held}
use Rattle.vm_carrier.specs.Carrier.{written}
use Rattle.vm_link.specs.declared.parcel.Parcel.{Parcel}
use Rattle.vm_script.specs.declared.line.RawChain.{RawChain}
use Rattle.vm_script.specs.declared.line.RawChain.TheVariants.{Loop, Outside, Order, Zero, Addr, Indirect, Bytes}
use Rattle.vm_exchange.specs.Entries.{crossing_bytes}
use Rattle.vm_host.specs.Chains.{Sent, chain_in, sent_with, sent_empty}
use Rattle.vm_guest.specs.Chain.{command_page, reply_page, reply_room, held_room, chain_table, chain_pages, IsChain}
use Rattle.vm_guest.specs.Message.{Sending, OfCall, OfRaw, Carries}
use Rattle.vm_guest.specs.Orderly.{process_limit}
use Rattle.vm_guest.specs.Raw.{raw_table, raw_bytes, bytes_table}
use Rattle.vm_across.specs.Across.{IsFit, table_of, ComesBack}
use Rattle.vm_across.proofs.FrontLemmas.{front_size, written_both, written_none}
use Rattle.vm_across.proofs.WalkLemmas.{Fails}
use Rattle.vm_across.proofs.ReadLemmas.{parcel_of, apart, call_walked, raw_walked, raw_room, raw_fails, one_walk}

-- ---- a chain that was posted

abbrev pub front_of : Sending → List ℕ
front_of (OfCall c along) = crossing_bytes c
front_of (OfRaw chain) = raw_bytes chain

abbrev pub held_of : Sending → List Held
held_of (OfCall c along) = option_to_list along
held_of (OfRaw chain) = []

abbrev pub posted : (n : ℕ) (sending : Sending) (p : Parcel) → Carries n sending p → IsChain n (table_of n sending) (front_of sending) (held_of sending) p
posted n (OfCall c along) p carries = carries.1
posted n (OfRaw chain) p carries = carries

-- ---- where a reply stands

-- A chain with these descriptors has these bytes written to the front of its reply's page.
abbrev IsPut : ℕ → List Desc → List ℕ → List ℕ → List ℕ → Type 0
IsPut n descs bytes command reply =
    (written descs bytes (chain_pages n command reply) ≡ chain_pages n command (bytes ++ drop (length bytes) reply)) × (length bytes ≤ 4096)

bytes_put : (b : Bool) (n len room : ℕ) (bytes command reply : List ℕ) → (room == 0) ≡ b → room ≤ 4096 → length bytes ≤ room → IsPut n (bytes_table n len room) bytes command reply
bytes_put true n len room bytes command reply is small fits =
    let none : length bytes ≤ 0 = (let zero_room : room ≡ 0 = grind (arith, nat_tests, is) in omega (arith, fits, zero_room)) in
    (rw is (written_none (command_page n) (reply_page n) len command reply bytes none), omega (arith, small, fits))
bytes_put false n len room bytes command reply is small fits =
    (rw is (written_both (command_page n) (reply_page n) len room command reply bytes (apart n) fits), omega (arith, small, fits))

never_walked : {X : Type 0} (o : Result (List Desc) ChainFault) (descs : List Desc) → Fails o → o ≡ Ok descs → X
never_walked o descs fails walked = absurd (let both : Err fails.0 ≡ Ok descs = sym fails.1 ∙ walked in cc)

-- in a raw line's chain, as far as it is walked at all
raw_put : (n : ℕ) (chain : RawChain) (bytes behind reply : List ℕ) (least : ℕ) (descs : List Desc) → n < 16 → IsFit (OfRaw chain)
    → chain_in (parcel_of n (raw_table n chain) (raw_bytes chain ++ behind) reply [] least) ≡ Ok descs → length bytes ≤ writable_bytes descs
    → IsPut n descs bytes (raw_bytes chain ++ behind) reply
raw_put n (Bytes sent room) bytes behind reply least descs few fits walked short =
    let command : List ℕ = sent ++ behind in
    let found : descs ≡ bytes_table n (length sent) room =
    one_walk (chain_in (parcel_of n (bytes_table n (length sent) room) command reply [] least)) descs (bytes_table n (length sent) room) walked (raw_walked n sent behind reply room least fits) in
    let holds : writable_bytes descs ≡ room = ap writable_bytes found ∙ raw_room n (length sent) room in
    let P : List Desc → Type 0 = λ ds. IsPut n ds bytes command reply in
    subst P (sym found) (bytes_put (room == 0) n (length sent) room bytes command reply refl fits.2 (omega (arith, short, holds)))
raw_put n Loop bytes behind reply least descs few fits walked short = never_walked _ descs (raw_fails n Loop behind reply least few (λ has. has)) walked
raw_put n Outside bytes behind reply least descs few fits walked short = never_walked _ descs (raw_fails n Outside behind reply least few (λ has. has)) walked
raw_put n Order bytes behind reply least descs few fits walked short = never_walked _ descs (raw_fails n Order behind reply least few (λ has. has)) walked
raw_put n Zero bytes behind reply least descs few fits walked short = never_walked _ descs (raw_fails n Zero behind reply least few (λ has. has)) walked
raw_put n Addr bytes behind reply least descs few fits walked short = never_walked _ descs (raw_fails n Addr behind reply least few (λ has. has)) walked
raw_put n Indirect bytes behind reply least descs few fits walked short = never_walked _ descs (raw_fails n Indirect behind reply least few (λ has. has)) walked

-- in each chain that is posted
put : (n : ℕ) (sending : Sending) (p : Parcel) (bytes : List ℕ) (descs : List Desc) → n < process_limit → IsFit sending → (carries : Carries n sending p) → chain_in p ≡ Ok descs
    → length bytes ≤ writable_bytes descs → IsPut n descs bytes (front_of sending ++ (posted n sending p carries).behind) (posted n sending p carries).reply
put n (OfCall c along) p bytes descs few fits carries walked short =
    let chain = carries.1 in
    let table : List Desc = chain_table n (length (crossing_bytes c)) in
    let found : descs ≡ table =
    one_walk (chain_in p) descs table walked (ap chain_in chain.is ∙ call_walked n c chain.behind chain.reply (option_to_list along) chain.room chain.whole_command) in
    let holds : writable_bytes descs ≡ reply_room = ap writable_bytes found in
    let small : length bytes ≤ reply_room = omega (arith, short, holds) in
    let command : List ℕ = crossing_bytes c ++ chain.behind in
    let P : List Desc → Type 0 = λ ds. IsPut n ds bytes command chain.reply in
    subst P (sym found) (written_both (command_page n) (reply_page n) (length (crossing_bytes c)) reply_room command chain.reply bytes (apart n) small, omega (arith, small))
put n (OfRaw chain) p bytes descs few fits carries walked short =
    raw_put n chain bytes carries.behind carries.reply carries.room descs few fits (sym (ap chain_in carries.is) ∙ walked) short

-- ---- the laws

-- the process's chain with these bytes at the front of its reply's page says them
came_back : (n head : ℕ) (sending : Sending) (command reply bytes : List ℕ) (held : List Held) (room : ℕ) → held_room ≤ room → length command ≡ 4096 → length reply ≡ 4096
    → length bytes ≤ 4096
    → ComesBack n sending head (record { used = length bytes; parcel = parcel_of n (table_of n sending) command (bytes ++ drop (length bytes) reply) held room })
    (record { reply = record { who = n; bytes = bytes }; held = held })
came_back n head sending command reply bytes held room roomy whole whole_reply small = record {
  chain = record {
    behind = command;
    reply = bytes ++ drop (length bytes) reply;
    room = room;
    is = refl;
    roomy = roomy;
    whole_command = whole;
    whole_reply = front_size bytes reply (omega (arith, small, whole_reply)) ∙ whole_reply;
  };
  says = ap (λ bs. record { reply = record { who = n; bytes = bs }; held = held }) (take_at bytes (drop (length bytes) reply) (length bytes) refl);
}

pub returned : (n head : ℕ) (sending : Sending) (p : Parcel) (descs : List Desc) (bytes : List ℕ) (held : List Held) → n < process_limit → IsFit sending → Carries n sending p
    → chain_in p ≡ Ok descs → length bytes ≤ writable_bytes descs
    → ComesBack n sending head (sent_with p descs bytes held) (record { reply = record { who = n; bytes = bytes }; held = held })
returned n head sending p descs bytes held few fits carries walked short =
    let chain = posted n sending p carries in
    let command : List ℕ = front_of sending ++ chain.behind in
    let writes = put n sending p bytes descs few fits carries walked short in
    let here : sent_with p descs bytes held
    ≡ record { used = length bytes; parcel = parcel_of n (table_of n sending) command (bytes ++ drop (length bytes) chain.reply) held chain.room } =
    ap (λ (x : Parcel). sent_with x descs bytes held) chain.is
    ∙ ap (λ (pages : List Page). record { used = length bytes; parcel = record (parcel_of n (table_of n sending) command chain.reply held chain.room) { pages = pages } }) writes.0 in
    let P : Sent → Type 0 = λ s. ComesBack n sending head s (record { reply = record { who = n; bytes = bytes }; held = held }) in
    subst P (sym here) (came_back n head sending command chain.reply bytes held chain.room chain.roomy chain.whole_command chain.whole_reply writes.1)

pub returned_empty : (n head : ℕ) (sending : Sending) (p : Parcel) → Carries n sending p
    → ComesBack n sending head (sent_empty p) (record { reply = record { who = n; bytes = [] }; held = p.held })
returned_empty n head sending p carries =
    let chain = posted n sending p carries in
    let P : Parcel → Type 0 = λ x. ComesBack n sending head (sent_empty x) (record { reply = record { who = n; bytes = [] }; held = x.held }) in
    subst P (sym chain.is)
    (came_back n head sending (front_of sending ++ chain.behind) chain.reply [] (held_of sending) chain.room chain.roomy chain.whole_command chain.whole_reply (omega arith))
