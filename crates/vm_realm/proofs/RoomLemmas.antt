-- In a sound world there is a place for what the first request adds, no call of its session waits, and few frames were made.
use Rattle.std.proofs.Common.{◌≡◌, ◌⊎◌, ℕ, zero, suc, ◌+◌, ◌*◌, ◌<◌, ◌≤◌, Bool, true, false, not, List, [], ◌∷◌, ◌++◌, Option, Some, None, Ok, length, is_some, replicate, refl, sym, ap, ◌∙◌, subst, arith, inl, inr, eqb, if◌then◌else◌, length-append}
use Rattle.std.specs.Prelude.{IfSome, sum_by}
use Rattle.std.specs.List.{All}
use Rattle.std.proofs.lemmas.Bool.{false≢true, true≢false, eq-eqb, ne_eqb, eqb-true}
use Rattle.std.proofs.lemmas.List.Sums.{sum_by-le, sum_by-cons}
use Rattle.std.proofs.lemmas.Option.{none-some, same_Some}
use Rattle.v4l_const.specs.IoctlCode.{payload_size}
use Rattle.v4l_const.specs.declared.ioctl_code.IoctlCode.TheVariants.{QueryCap as QueryCapCode, EnumFmt as EnumFmtCode, GFmt as GFmtCode, TryFmt as TryFmtCode, SFmt as SFmtCode, EnumInput as EnumInputCode, GInput as GInputCode, SInput as SInputCode, ReqBufs as ReqBufsCode, QueryBuf as QueryBufCode, StreamOn as StreamOnCode, StreamOff as StreamOffCode, SubscribeEvent as SubscribeCode, UnsubscribeEvent as UnsubscribeCode}
use Rattle.v4l_layout.specs.Records.{fmtdesc_bytes, format_bytes, input_bytes, request_bytes, buffer_bytes, subscription_bytes}
use Rattle.v4l_rules.specs.Refusals.{first_refusal}
use Rattle.vm_local.specs.declared.call.Call.{Call}
use Rattle.vm_local.specs.declared.call.Call.TheVariants.{OpenHandle, CloseHandle, QueryCap, EnumFmt, GFmt, TryFmt, SFmt, EnumInput, GInput, SInput, ReqBufs, QueryBuf, UAlloc, QBuf, StreamOn, StreamOff, DqBuf, Mmap, Munmap, Peek, Hash, Poke, Fill, Subscribe, Unsubscribe, DqEvent}
use Rattle.vm_local.specs.State.{LocalState}
use Rattle.vm_local.specs.Memory.{named}
use Rattle.vm_local.specs.Calls.{row_of}
use Rattle.vm_log.specs.LegalLog.{state_of}
use Rattle.vm_script.specs.Script.{ProcessLines}
use Rattle.vm_script.specs.declared.line.LineKind.{LineKind}
use Rattle.vm_script.specs.declared.line.LineKind.TheVariants.{OnHandle, Raw}
use Rattle.vm_wire.specs.Buffers.{buffer_offset, reqbufs_request, querybuf_request, subscription_request}
use Rattle.vm_wire.specs.Message.{Posting}
use Rattle.vm_wire.specs.Message.Ask.{Judged}
use Rattle.vm_wire.specs.Records.{fmt_desc_request, format_type_request, format_request, input_request}
use Rattle.vm_wire.specs.Wire.{le}
use Rattle.vm_wire.specs.declared.command.Command.{Command}
use Rattle.vm_wire.specs.declared.command.Command.TheVariants.{OpenSession, CloseSession, Ioctl, Map, Unmap}
use Rattle.vm_exchange.specs.Exchange.{sends, from_open, once_answered, qbuf_crossing, crossing, crossing_of, address_of}
use Rattle.vm_exchange.specs.declared.crossing.Crossing.{Crossing}
use Rattle.vm_exchange.specs.declared.way.Way.TheVariants.{Crosses, AnsweredHere}
use Rattle.vm_handle.specs.Handle.{HandleState, id_of}
use Rattle.vm_session.specs.State.{SessionState}
use Rattle.vm_device.specs.Device.{session_of}
use Rattle.vm_device.specs.Perform.{HasPlaceFor, MadeFew, EachMadeFew}
use Rattle.vm_host.specs.Chains.{named_session}
use Rattle.vm_host.specs.Part.{Call as WaitingCall, call_for}
use Rattle.vm_guest.specs.Guest.{no_process, process_at}
use Rattle.vm_guest.specs.Orderly.{IsFitProcess, no_lines}
use Rattle.vm_guest.specs.Process.{ProcessState, is_crossing, handle_at}
use Rattle.vm_realm.specs.World.{WorldState, statement_count, handle_count}
use Rattle.vm_realm.specs.Inner.{Inner}
use Rattle.vm_realm.specs.Enabled.{waits}
use Rattle.vm_realm.specs.Left.{left_of}
use Rattle.vm_realm.specs.Mapped.{Share}
use Rattle.vm_realm.specs.Slice.{out_at}
use Rattle.vm_realm.specs.Slice.Out.{Asked, Kept}
use Rattle.vm_realm.specs.SliceSteps.{IsFirst}
use Rattle.vm_realm.specs.Sound.{IsSoundBy, IsHandle, MadeWithin, NamesNone, id_at, shares_from, all_shares}
use Rattle.vm_realm.proofs.ListLemmas.{sums_alike}
use Rattle.vm_realm.proofs.PartLemmas.{find_in}
use Rattle.vm_realm.proofs.WaitingLemmas.{command_same}
use Rattle.vm_realm.proofs.ShareLemmas.{Has, has_share, share_at}
use Rattle.vm_realm.proofs.SessionLemmas.{NamesOwn, names_own, open_has, passed_way, never_crosses, few_sessions}
use Rattle.vm_realm.proofs.CommandLemmas.{IsFirstAsked, asked_first, asked_out, IsHandleAsked, handle_asked, IsOneKept, one_kept, raw_refused, raw_posted}
use Rattle.vm_realm.proofs.MappingCountLemmas.{few_mapped}

-- ---- few frames

limit_of : (ps : List ProcessLines) → All IsFitProcess ps → sum_by (λ p. length p.lines) ps ≤ length ps * 1024
limit_of ps all = sum_by-le (λ (p : ProcessLines). length p.lines) 1024 ps (λ k d within. (all k d within).limit)

few_statements : (w : WorldState) (rows : List (List Inner)) → IsSoundBy w rows → statement_count w.script ≤ 16384
few_statements w rows sound =
    let few : length w.script.processes ≤ 16 = sound.script.fit.few in
    omega (arith, few, limit_of w.script.processes sound.script.fit.each)

made_by : (left statements : ℕ) (o : Option SessionState) → statements ≤ 16384 → MadeWithin left statements o → MadeFew o
made_by left statements None few within = tt
made_by left statements (Some s) few within = omega (arith, few, within)

pub made_few : (w : WorldState) (rows : List (List Inner)) → IsSoundBy w rows → EachMadeFew w.host.device
made_few w rows sound id = made_by (left_of w) (statement_count w.script) (session_of w.host.device id) (few_statements w rows sound) (sound.within.frames id)

-- ---- no call of the session waits

-- a call that waits in a session is the one of its handle
pub waits_in : (w : WorldState) (rows : List (List Inner)) (id : ℕ) → IsSoundBy w rows → (call : WaitingCall) → call_for id w.host.calls ≡ Some call → (n : ℕ) × (h : ℕ) × IsHandle w n h × (out_at w n h ≡ Kept call.posting) × (id_at w n h ≡ Some id)
waits_in w rows id sound call is =
    let there : _ = find_in (λ (y : WaitingCall). eqb y.session id) w.host.calls call is in
    let one : _ = one_kept w rows call sound there.0 in
    let kept : IsOneKept w rows one.0 one.1 call = one.2 in
    (one.0, one.1, kept.named, kept.out, kept.id ∙ ap Some (eqb-true call.session id there.1))

none_waits : (w : WorldState) (id : ℕ) → ((call : WaitingCall) → call_for id w.host.calls ≡ Some call → ⊥) → waits w.host id ≡ false
none_waits w id never = by_call (call_for id w.host.calls) refl
  where
    by_call : (o : Option WaitingCall) → call_for id w.host.calls ≡ o → waits w.host id ≡ false
    by_call None is = ap is_some is
    by_call (Some call) is = absurd (never call is)

not_both : (m n : Posting) → Asked m ≡ Kept n → ⊥
not_both m n same = cc

-- of a handle whose request is out no call waits
own_alone : (w : WorldState) (rows : List (List Inner)) (h id : ℕ) (m : Posting) → IsSoundBy w rows → IsHandleAsked w rows h m → id_at w m.request.who h ≡ Some id → waits w.host id ≡ false
own_alone w rows h id m sound a own = none_waits w id (λ call is.
    let kept : _ = waits_in w rows id sound call is in
    let same : _ = sound.ids.once kept.0 kept.1 m.request.who h id kept.2 a.named kept.4 own in
    let here : out_at w m.request.who h ≡ Kept call.posting = subst (λ k. out_at w m.request.who k ≡ Kept call.posting) same.1 (subst (λ i. out_at w i kept.1 ≡ Kept call.posting) same.0 kept.3) in
    not_both m call.posting (sym a.out ∙ here))

if_some : (c : Command) (o : Option ℕ) (P : ℕ → Type 0) → named_session c ≡ o → ((id : ℕ) → named_session c ≡ Some id → P id) → IfSome o P
if_some c None P is each = tt
if_some c (Some id) P is each = each id is

past_id : (c : Command) (id : ℕ) → NamesNone c → named_session c ≡ Some id → 16384 ≤ id
past_id OpenSession id none is = absurd none
past_id (CloseSession k) id none is = subst (λ i. 16384 ≤ i) (same_Some k id is) none
past_id (Ioctl k code payload) id none is = subst (λ i. 16384 ≤ i) (same_Some k id is) none
past_id (Map k writable offset) id none is = subst (λ i. 16384 ≤ i) (same_Some k id is) none
past_id (Unmap addr) id none is = absurd none

alone_by : (w : WorldState) (rows : List (List Inner)) (m : Posting) (ms : List Posting) (c : Command) (what : LineKind) → IsSoundBy w rows → w.requests ≡ m ∷ ms → m.request.asks ≡ Judged (Ok c) → (first : IsFirstAsked w m ms) → first.statement.what ≡ what →
    (id : ℕ) → named_session c ≡ Some id → waits w.host id ≡ false
alone_by w rows m ms c (Raw chain) sound is asks first what id names =
    let posted : _ = raw_posted w rows m ms chain sound is first what in
    let asked : _ = raw_refused w rows m.request.who first.statement chain sound first.within first.now what c (sym (ap (λ (y : Posting). y.request.asks) posted) ∙ asks) in
    none_waits w id (λ call kept.
    let at : _ = waits_in w rows id sound call kept in
    let below = sound.ids.below at.0 at.1 id at.2 at.4 in
    omega (arith, below, past_id c id asked names, few_sessions w rows sound))
alone_by w rows m ms c (OnHandle h call) sound is asks first what id names =
    let a : IsHandleAsked w rows h m = handle_asked w rows m ms h call sound is first what in
    let hd : HandleState = handle_at (process_at w.guest m.request.who) h in
    let judged : a.posted.crossing.command ≡ c = sym (command_same c a.posted.crossing.command (sym asks ∙ ap (λ (y : Posting). y.request.asks) a.posted.says)) in
    let own : NamesOwn hd.session c = subst (NamesOwn hd.session) judged (names_own (state_of hd.log) hd.session a.posted.call a.posted.crossing (open_has hd (sound.slices m.request.who h a.named).handle) a.posted.crosses) in
    by_own a own
  where
    by_own : (a : IsHandleAsked w rows h m) → NamesOwn (handle_at (process_at w.guest m.request.who) h).session c → waits w.host id ≡ false
    by_own a (inl none) = absurd (none-some id (sym none ∙ names))
    by_own a (inr (k, session, named_k)) = own_alone w rows h id m sound a (a.own ∙ (session ∙ ap Some (same_Some k id (sym named_k ∙ names))))

pub is_alone : (w : WorldState) (rows : List (List Inner)) (m : Posting) (ms : List Posting) (c : Command) → IsSoundBy w rows → w.requests ≡ m ∷ ms → m.request.asks ≡ Judged (Ok c) → IfSome (named_session c) (λ id. waits w.host id ≡ false)
is_alone w rows m ms c sound is asks =
    let first : IsFirstAsked w m ms = asked_first w rows m ms sound is in
    if_some c (named_session c) (λ id. waits w.host id ≡ false) refl (alone_by w rows m ms c first.statement.what sound is asks first refl)

-- ---- an open alone is an OPEN

abbrev opening : Command → Bool
opening OpenSession = true
opening (CloseSession session) = false
opening (Ioctl session code payload) = false
opening (Map session writable offset) = false
opening (Unmap addr) = false

abbrev opens_handle : Call → Bool
opens_handle (OpenHandle nonblock) = true
opens_handle call = false

open_way : (s : LocalState) (c : Command) (x : Crossing) → opening c ≡ false → crossing (from_open s (sends c)) ≡ Some x → opening x.command ≡ false
open_way s c x none is = by_test s.opened is
  where
    by_test : (b : Bool) → crossing (if b then sends c else AnsweredHere) ≡ Some x → opening x.command ≡ false
    by_test true is = ap (λ (y : Crossing). opening y.command) (sym (same_Some (record { command = c; user = None }) x is)) ∙ none
    by_test false is = absurd (none-some x is)

qbuf_way : (s : LocalState) (id t i : ℕ) (user : Option (List ℕ)) (used ts : ℕ) (x : Crossing) → crossing (Crosses (qbuf_crossing id s t i user used ts)) ≡ Some x → opening x.command ≡ false
unfolding qbuf_crossing
qbuf_way s id t i user used ts x is = ap (λ (y : Crossing). opening y.command) (sym (same_Some (qbuf_crossing id s t i user used ts) x is))

opens_alike : (s : LocalState) (id : ℕ) (call : Call) (x : Crossing) → crossing_of id s call ≡ Some x → opens_handle call ≡ false → opening x.command ≡ false
opens_alike s id (OpenHandle nonblock) x is none = absurd (true≢false none)
opens_alike s id CloseHandle x is none = open_way s (CloseSession id) x refl is
opens_alike s id QueryCap x is none = open_way s (Ioctl id QueryCapCode (replicate (payload_size QueryCapCode) 0)) x refl is
opens_alike s id (EnumFmt t i) x is none = open_way s (Ioctl id EnumFmtCode (fmtdesc_bytes (fmt_desc_request t i))) x refl is
opens_alike s id (GFmt t) x is none = open_way s (Ioctl id GFmtCode (format_bytes (format_type_request t))) x refl is
opens_alike s id (TryFmt t f w h) x is none = open_way s (Ioctl id TryFmtCode (format_bytes (format_request t f w h))) x refl is
opens_alike s id (SFmt t f w h) x is none = open_way s (Ioctl id SFmtCode (format_bytes (format_request t f w h))) x refl is
opens_alike s id (EnumInput i) x is none = open_way s (Ioctl id EnumInputCode (input_bytes (input_request i))) x refl is
opens_alike s id GInput x is none = open_way s (Ioctl id GInputCode (replicate (payload_size GInputCode) 0)) x refl is
opens_alike s id (SInput i) x is none = open_way s (Ioctl id SInputCode (le i)) x refl is
opens_alike s id (ReqBufs t m n) x is none = open_way s (Ioctl id ReqBufsCode (request_bytes (reqbufs_request t m n))) x refl is
opens_alike s id (QueryBuf t i) x is none = open_way s (Ioctl id QueryBufCode (buffer_bytes (querybuf_request t i))) x refl is
opens_alike s id (UAlloc u len off) x is none = absurd (none-some x is)
opens_alike s id (QBuf t i user used ts) x is none =
    qbuf_way s id t i user used ts x (passed_way (first_refusal (row_of s 0 0 (QBuf t i user used ts)).refusals) (Crosses (qbuf_crossing id s t i user used ts)) x is).1
opens_alike s id (StreamOn t) x is none = open_way s (Ioctl id StreamOnCode (le t)) x refl is
opens_alike s id (StreamOff t) x is none = open_way s (Ioctl id StreamOffCode (le t)) x refl is
opens_alike s id (DqBuf t) x is none =
    absurd (never_crosses s (DqBuf t) x (passed_way (first_refusal (row_of s 0 0 (DqBuf t)).refusals) (once_answered s (DqBuf t)) x is).1)
opens_alike s id (Mmap m t i ro) x is none =
    let passed = passed_way (first_refusal (row_of s 0 0 (Mmap m t i ro)).refusals) (sends (Map id (not ro) (buffer_offset t i))) x is in
    ap (λ (y : Crossing). opening y.command) (sym (same_Some (record { command = Map id (not ro) (buffer_offset t i); user = None }) x passed.1))
opens_alike s id (Munmap m) x is none =
    let passed = passed_way (first_refusal (row_of s 0 0 (Munmap m)).refusals) (sends (Unmap (address_of (named s m)))) x is in
    ap (λ (y : Crossing). opening y.command) (sym (same_Some (record { command = Unmap (address_of (named s m)); user = None }) x passed.1))
opens_alike s id (Peek m off len) x is none = absurd (none-some x is)
opens_alike s id (Hash m) x is none = absurd (none-some x is)
opens_alike s id (Poke m off bytes) x is none = absurd (none-some x is)
opens_alike s id (Fill m seed) x is none = absurd (none-some x is)
opens_alike s id (Subscribe e) x is none = open_way s (Ioctl id SubscribeCode (subscription_bytes (subscription_request e))) x refl is
opens_alike s id (Unsubscribe e) x is none = open_way s (Ioctl id UnsubscribeCode (subscription_bytes (subscription_request e))) x refl is
opens_alike s id DqEvent x is none = absurd (none-some x is)

first_none : (h : HandleState) (call : Call) → IsFirst h call → opens_handle call ≡ true → h.session ≡ None
first_none h (OpenHandle nonblock) first opens = first
first_none h call first opens = absurd (false≢true opens)

-- the handle that asks for an OPEN has no session
open_none : (w : WorldState) (rows : List (List Inner)) (h : ℕ) (m : Posting) → IsHandleAsked w rows h m → m.request.asks ≡ Judged (Ok OpenSession) → (handle_at (process_at w.guest m.request.who) h).session ≡ None
open_none w rows h m a asks = by_call (opens_handle a.posted.call) refl
  where
    by_call : (b : Bool) → opens_handle a.posted.call ≡ b → (handle_at (process_at w.guest m.request.who) h).session ≡ None
    by_call true is = first_none (handle_at (process_at w.guest m.request.who) h) a.posted.call a.posted.first is
    by_call false is =
        let hd : HandleState = handle_at (process_at w.guest m.request.who) h in
        let judged : OpenSession ≡ a.posted.crossing.command = command_same OpenSession a.posted.crossing.command (sym asks ∙ ap (λ (y : Posting). y.request.asks) a.posted.says) in
        absurd (true≢false (ap opening judged ∙ opens_alike (state_of hd.log) (id_of hd.session) a.posted.call a.posted.crossing a.posted.crosses is))

-- ---- fewer sessions than handles

abbrev one_some : Option ℕ → ℕ
one_some None = 0
one_some (Some id) = 1

abbrev some_ids : List Share → ℕ
some_ids [] = 0
some_ids (s ∷ ss) = one_some s.id + some_ids ss

abbrev HasId : ℕ → List Share → Type 0
HasId id [] = ⊥
HasId id (s ∷ ss) = (s.id ≡ Some id) ⊎ HasId id ss

abbrev is_id : Option ℕ → ℕ → Bool
is_id None k = false
is_id (Some id) k = eqb id k

-- the shares with another id
abbrev without_id : ℕ → List Share → List Share
without_id k [] = []
without_id k (s ∷ ss) = if is_id s.id k then without_id k ss else s ∷ without_id k ss

kept_ids : (k : ℕ) (ss : List Share) → some_ids (without_id k ss) ≤ some_ids ss
kept_ids k [] = omega arith
kept_ids k (s ∷ ss) = by_test (is_id s.id k) (kept_ids k ss)
  where
    by_test : (b : Bool) → some_ids (without_id k ss) ≤ some_ids ss → some_ids (if b then without_id k ss else s ∷ without_id k ss) ≤ one_some s.id + some_ids ss
    by_test true rest = omega (arith, rest)
    by_test false rest = omega (arith, rest)

gone_ids : (k : ℕ) (ss : List Share) → HasId k ss → some_ids (without_id k ss) + 1 ≤ some_ids ss
gone_ids k [] has = absurd has
gone_ids k (s ∷ ss) (inl is) =
    let here : is_id s.id k ≡ true = ap (λ o. is_id o k) is ∙ eq-eqb k k refl in
    let one = ap one_some is in
    let gone = ap (λ b. some_ids (if b then without_id k ss else s ∷ without_id k ss)) here in
    omega (arith, one, gone, kept_ids k ss)
gone_ids k (s ∷ ss) (inr has) = by_test (is_id s.id k) refl (gone_ids k ss has)
  where
    some_one : (o : Option ℕ) → is_id o k ≡ true → one_some o ≡ 1
    some_one None is = absurd (false≢true is)
    some_one (Some id) is = refl

    by_test : (b : Bool) → is_id s.id k ≡ b → some_ids (without_id k ss) + 1 ≤ some_ids ss → some_ids (if b then without_id k ss else s ∷ without_id k ss) + 1 ≤ one_some s.id + some_ids ss
    by_test true is rest = omega (arith, rest)
    by_test false is rest = omega (arith, rest)

other_ids : (k id : ℕ) (ss : List Share) → ¬ (id ≡ k) → HasId id ss → HasId id (without_id k ss)
other_ids k id [] other has = absurd has
other_ids k id (s ∷ ss) other (inl is) =
    let stays : is_id s.id k ≡ false = ap (λ o. is_id o k) is ∙ ne_eqb id k other in
    subst (λ b. HasId id (if b then without_id k ss else s ∷ without_id k ss)) (sym stays) (inl is)
other_ids k id (s ∷ ss) other (inr has) = by_test (is_id s.id k) (other_ids k id ss other has)
  where
    by_test : (b : Bool) → HasId id (without_id k ss) → HasId id (if b then without_id k ss else s ∷ without_id k ss)
    by_test true rest = rest
    by_test false rest = inr rest

-- where each number below m is an id, so many shares have one
covered : (m : ℕ) (ss : List Share) → ((id : ℕ) → id < m → HasId id ss) → m ≤ some_ids ss
covered zero ss each = omega arith
covered (suc m) ss each =
    let rest = covered m (without_id m ss) (λ id below. other_ids m id ss (λ same. omega (arith, below, same)) (each id (omega (arith, below)))) in
    omega (arith, rest, gone_ids m ss (each m (omega arith)))

ids_few : (ss : List Share) → some_ids ss ≤ length ss
ids_few [] = omega arith
ids_few (s ∷ ss) = omega (arith, ids_few ss, one_most s.id)
  where
    one_most : (o : Option ℕ) → one_some o ≤ 1
    one_most None = omega arith
    one_most (Some id) = omega arith

-- where one has none, fewer do
ids_fewer : (x : Share) (ss : List Share) → Has x ss → x.id ≡ None → some_ids ss + 1 ≤ length ss
ids_fewer x [] has none = absurd has
ids_fewer x (s ∷ ss) (inl is) none =
    let nothing = ap one_some (ap (λ (y : Share). y.id) is ∙ none) in
    omega (arith, nothing, ids_few ss)
ids_fewer x (s ∷ ss) (inr has) none = omega (arith, ids_fewer x ss has none, one_most s.id)
  where
    one_most : (o : Option ℕ) → one_some o ≤ 1
    one_most None = omega arith
    one_most (Some id) = omega arith

has_id : (x : Share) (ss : List Share) (id : ℕ) → Has x ss → x.id ≡ Some id → HasId id ss
has_id x [] id has is = absurd has
has_id x (s ∷ ss) id (inl same) is = inl (ap (λ (y : Share). y.id) same ∙ is)
has_id x (s ∷ ss) id (inr has) is = inr (has_id x ss id has is)

-- there is a share for each handle of the script
from_long : (w : WorldState) (rows : List (List Inner)) (n h : ℕ) (hs : List HandleState) → length (shares_from w rows n h hs) ≡ length hs
from_long w rows n h [] = refl
from_long w rows n h (x ∷ hs) = ap suc (from_long w rows n (h + 1) hs)

shares_long : (w : WorldState) (rows : List (List Inner)) (n : ℕ) (ps : List ProcessState) → length (all_shares w rows n ps) ≡ sum_by (λ p. length p.handles) ps
shares_long w rows n [] = refl
shares_long w rows n (p ∷ ps) =
    let both : length (shares_from w rows n 0 p.handles ++ all_shares w rows (n + 1) ps) ≡ length (shares_from w rows n 0 p.handles) + length (all_shares w rows (n + 1) ps) = length-append (shares_from w rows n 0 p.handles) (all_shares w rows (n + 1) ps) in
    omega (arith, both, from_long w rows n 0 p.handles, shares_long w rows (n + 1) ps, sum_by-cons (λ (q : ProcessState). length q.handles) p ps)

handles_alike : (w : WorldState) (rows : List (List Inner)) → IsSoundBy w rows → sum_by (λ p. length p.handles) w.guest.processes ≡ handle_count w.script
handles_alike w rows sound =
    sums_alike (λ (p : ProcessState). length p.handles) (λ (p : ProcessLines). length p.handles) w.guest.processes w.script.processes no_process no_lines sound.lines.count (λ n within. (sound.lines.orderly n within).named)

-- there is a place for an OPEN
open_place : (w : WorldState) (rows : List (List Inner)) (h : ℕ) (m : Posting) → IsSoundBy w rows → IsHandleAsked w rows h m → m.request.asks ≡ Judged (Ok OpenSession) → length w.host.device.sessions < w.host.device.opens
open_place w rows h m sound a asks =
    let ss : List Share = all_shares w rows 0 w.guest.processes in
    let all = covered (length w.host.device.sessions) ss (λ id below.
    let at : _ = sound.ids.there id below in
    has_id (share_at w rows at.0 at.1) ss id (has_share w rows at.0 at.1 at.2) at.3) in
    let fewer = ids_fewer (share_at w rows m.request.who h) ss (has_share w rows m.request.who h a.named) (a.own ∙ open_none w rows h m a asks) in
    let opens : w.host.device.opens ≡ handle_count w.script = sound.device.opens in
    omega (arith, all, fewer, opens, shares_long w rows 0 w.guest.processes, handles_alike w rows sound)

-- ---- a place for what the first request adds

place_for : (w : WorldState) (rows : List (List Inner)) (m : Posting) (ms : List Posting) (c : Command) (what : LineKind) → IsSoundBy w rows → w.requests ≡ m ∷ ms → m.request.asks ≡ Judged (Ok c) → (first : IsFirstAsked w m ms) → first.statement.what ≡ what →
    HasPlaceFor w.host.device c
place_for w rows m ms OpenSession (OnHandle h call) sound is asks first what = open_place w rows h m sound (handle_asked w rows m ms h call sound is first what) asks
place_for w rows m ms OpenSession (Raw chain) sound is asks first what =
    let posted : _ = raw_posted w rows m ms chain sound is first what in
    absurd (raw_refused w rows m.request.who first.statement chain sound first.within first.now what OpenSession (sym (ap (λ (y : Posting). y.request.asks) posted) ∙ asks))
place_for w rows m ms (Map id writable offset) what_is sound is asks first what =
    few_mapped w rows m.request.who m sound first.within (asked_out w m ms is first) (ap is_crossing first.status)
place_for w rows m ms (CloseSession id) what_is sound is asks first what = tt
place_for w rows m ms (Ioctl id code payload) what_is sound is asks first what = tt
place_for w rows m ms (Unmap addr) what_is sound is asks first what = tt

pub has_place : (w : WorldState) (rows : List (List Inner)) (m : Posting) (ms : List Posting) (c : Command) → IsSoundBy w rows → w.requests ≡ m ∷ ms → m.request.asks ≡ Judged (Ok c) → HasPlaceFor w.host.device c
has_place w rows m ms c sound is asks =
    let first : IsFirstAsked w m ms = asked_first w rows m ms sound is in
    place_for w rows m ms c first.statement.what sound is asks first refl
