-- Lemmas on the calls on handles.
use Rattle.std.proofs.Common.{◌≡◌, ℕ, zero, suc, ◌+◌, ◌<◌, ◌≤◌, List, [], ◌∷◌, ◌++◌, Option, Some, None, length, take, drop, get_or, set, refl, sym, ap, ◌∙◌, subst, arith}
use Rattle.std.proofs.lemmas.List.{get_or-set_same, length-append}
use Rattle.std.specs.Prelude.{Result, Ok, Err, IsErr, IfOk, IfSome, OnOk, OnErr}
use Rattle.std.specs.Option.{option_to_list}
use Rattle.std.specs.Result.{IsOk}
use Rattle.v4l_rules.specs.Refusals.{first_refusal}
use Rattle.vm_frame.specs.declared.mem.Held.{Held}
use Rattle.vm_lease.specs.Lease.{LeaseParts}
use Rattle.vm_local.specs.declared.call.Call.{Call}
use Rattle.vm_local.specs.declared.reply.Reply.{Reply}
use Rattle.vm_link.specs.declared.parcel.Finished.{Finished}
use Rattle.vm_link.specs.declared.parcel.Parcel.{Parcel}
use Rattle.v4l_layout.specs.declared.short.Short.{Short}
use Rattle.vm_wire.specs.Wire.{response_of}
use Rattle.vm_wire.specs.declared.command.Command.{Command}
use Rattle.vm_wire.specs.declared.response.Response.{Response}
use Rattle.vm_log.specs.Answers.{with_line, Leases, given_back}
use Rattle.vm_log.specs.LegalLog.{state_of}
use Rattle.vm_log.specs.declared.leased.Leased.{Leased}
use Rattle.vm_exchange.specs.Entries.{crossing_bytes}
use Rattle.vm_exchange.specs.Exchange.{crossing, command_in, IsAnswer}
use Rattle.vm_exchange.specs.declared.crossing.Crossing.{Crossing}
use Rattle.vm_exchange.specs.declared.way.Way.{Way}
use Rattle.vm_exchange.specs.declared.way.Way.TheVariants.{Crosses, AnsweredHere, Waits, TouchesMemory}
use Rattle.vm_handle.specs.Answers.{Starts as StartsCall, IsCrossing, row_from, with_sent, with_reply}
use Rattle.vm_handle.specs.Handle.{HandleState, way_from, crossing_from}
use Rattle.vm_handle.specs.declared.started.Started.{Started}
use Rattle.vm_handle.specs.declared.started.Started.TheVariants.{Answered, Send, Wait}
use Rattle.vm_guest.specs.declared.asked.Asked.{Asked}
use Rattle.vm_guest.specs.Caller.{CanLog, Logs, LogsBy, Starts, StartsBy, LeasesIn, way_in, command_asked, with_returned}
use Rattle.vm_guest.specs.Chain.{IsHome, IsOwn, with_bytes, with_len, reply_bytes}
use Rattle.vm_guest.specs.Message.{OfCall, Carries}
use Rattle.vm_guest.specs.Process.{no_handle, handle_in}

-- what stands at a place of a list, whatever would stand past its end
stands_at : {A : Type 0} (xs : List A) (i : ℕ) (d e : A) → i < length xs → get_or xs i d ≡ get_or xs i e
stands_at [] i d e within = absurd (omega (arith, within))
stands_at (x ∷ xs) zero d e within = refl
stands_at (x ∷ xs) (suc i) d e within = stands_at xs i d e (omega (arith, within))

-- the handle that is found in a place
pub found_at : (handles : List HandleState) (at : ℕ) (handle : HandleState) → at < length handles → handle ≡ get_or handles at handle → handle ≡ handle_in handles at
found_at handles at handle within stands = stands ∙ stands_at handles at handle no_handle within

-- ---- a call that crosses stands in the chain

take_front : {A : Type 0} (xs ys : List A) → take (length xs) (xs ++ ys) ≡ xs
take_front [] ys = refl
take_front (x ∷ xs) ys = ap (λ zs. x ∷ zs) (take_front xs ys)

-- the front of a list in the place of as many others
whole_still : {A : Type 0} (xs ys : List A) → length xs ≤ length ys → length (xs ++ drop (length xs) ys) ≡ length ys
whole_still [] ys fits = refl
whole_still (x ∷ xs) [] fits = absurd (omega (arith, fits))
whole_still (x ∷ xs) (y ∷ ys) fits = ap suc (whole_still xs ys (omega (arith, fits)))

sent_memories : (along : Option Held) → with_sent [] along ≡ option_to_list along
sent_memories None = refl
sent_memories (Some held) = refl

-- the chain with a memory along, the length and the bytes
abbrev pub filled : Parcel → List Held → ℕ → List ℕ → Parcel
filled chain held len bytes = with_bytes (with_len (record chain { held = held }) len) bytes

pub own_filled : (p : ℕ) (chain : Parcel) (held : List Held) → IsHome p chain → IsOwn p (record chain { held = held })
own_filled p chain held home = (
  home.0,
  record {
    behind = home.1.behind;
    reply = home.1.reply;
    room = home.1.room;
    is = ap (λ (x : Parcel). record x { held = held }) home.1.is;
    roomy = home.1.roomy;
    whole_command = home.1.whole_command;
    whole_reply = home.1.whole_reply;
  },
)

pub own_len : (p len : ℕ) (chain : Parcel) → IsOwn p chain → IsOwn p (with_len chain len)
own_len p len chain own = (
  len,
  record {
    behind = own.1.behind;
    reply = own.1.reply;
    room = own.1.room;
    is = ap (λ (x : Parcel). with_len x len) own.1.is;
    roomy = own.1.roomy;
    whole_command = own.1.whole_command;
    whole_reply = own.1.whole_reply;
  },
)

-- the chain as it is with a memory along
pub own_after : (chain chain1 : Parcel) → ((p : ℕ) × IsHome p chain) → chain1 ≡ record chain { held = chain1.held } → (p : ℕ) × IsOwn p chain1
own_after chain chain1 home kept = (home.0, subst (λ (x : Parcel). IsOwn home.0 x) (sym kept) (own_filled home.0 chain chain1.held home.1))

pub own_long : (chain chain1 chain2 : Parcel) (len : ℕ) → ((p : ℕ) × IsHome p chain) → chain1 ≡ record chain { held = chain1.held } → chain2 ≡ with_len chain1 len → (p : ℕ) × IsOwn p chain2
own_long chain chain1 chain2 len home kept long =
    let own : (p : ℕ) × IsOwn p chain1 = own_after chain chain1 home kept in
    (own.0, subst (λ (x : Parcel). IsOwn own.0 x) (sym long) (own_len own.0 len chain1 own.1))

pub home_room : (p : ℕ) (chain : Parcel) → IsHome p chain → length chain.held < chain.room
home_room p chain home = subst (λ (x : Parcel). length x.held < x.room) (sym home.1.is) (omega (arith, home.1.roomy))

carried : (p : ℕ) (c : Crossing) (along : Option Held) (chain chain' : Parcel) → IsCrossing c → length (crossing_bytes c) ≤ 4096 → IsHome p chain →
    chain' ≡ filled chain (option_to_list along) (length (crossing_bytes c)) (crossing_bytes c) → Carries p (OfCall c along) chain'
carried p c along chain chain' fits small home is =
    let bytes : List ℕ = crossing_bytes c in (
      fits,
      record {
        behind = drop (length bytes) home.1.behind;
        reply = home.1.reply;
        room = home.1.room;
        is = is ∙ ap (λ (x : Parcel). filled x (option_to_list along) (length bytes) bytes) home.1.is;
        roomy = home.1.roomy;
        whole_command = whole_still bytes home.1.behind (omega (arith, small, home.1.whole_command)) ∙ home.1.whole_command;
        whole_reply = home.1.whole_reply;
      },
    )

-- ---- a call is begun

abbrev sent_len : ℕ → Started → ℕ
sent_len d Answered = d
sent_len d Wait = d
sent_len d (Send len) = len

-- a call that crosses
sends_by : (w : Way) (a : Asked) (handles : List HandleState) (handle' : HandleState) (chain chain' : Parcel) (len : ℕ) (out out' part : List ℕ) (held' : List Held) →
    StartsCall w (handle_in handles a.handle) a.line a.call out [] (Send len) handle' out' held' → IfSome (crossing w) (λ c. IsCrossing c) →
    part ≡ take len out' → length part ≤ 4096 → chain' ≡ filled chain held' len part → StartsBy w a handles chain (Send len) (set handles a.handle handle') chain'
sends_by (Crosses c) a handles handle' chain chain' len out out' part held' starts fits front small is =
    let bytes : List ℕ = crossing_bytes c in
    let count : len ≡ length bytes = ap (sent_len 0) starts.answer in
    let same : part ≡ bytes = front ∙ ap (take len) starts.bytes ∙ ap (λ n. take n (bytes ++ drop (length bytes) out)) count ∙ take_front bytes _ in
    let held : held' ≡ option_to_list starts.along = starts.memories ∙ sent_memories starts.along in
    let P : List ℕ → Type 0 = λ bs. length bs ≤ 4096 in
    let whole : chain' ≡ filled chain (option_to_list starts.along) (length bytes) bytes =
    is ∙ ap (λ hs. filled chain hs len part) held ∙ ap (λ n. filled chain (option_to_list starts.along) n part) count
    ∙ ap (λ bs. filled chain (option_to_list starts.along) (length bytes) bs) same in (
      starts.along,
      handle',
      record { log = starts.log; sends = starts.sends; after = starts.handle },
      refl,
      ap Send count,
      λ p home. carried p c starts.along chain chain' fits (subst P same small) home whole,
    )
sends_by AnsweredHere a handles handle' chain chain' len out out' part held' starts fits front small is = let none : Send len ≡ Answered = starts.answer in cc
sends_by Waits a handles handle' chain chain' len out out' part held' starts fits front small is = let none : Send len ≡ Wait = starts.0 in cc
sends_by TouchesMemory a handles handle' chain chain' len out out' part held' starts fits front small is = absurd starts

-- what crosses is no longer than the bytes that it was put in
small_by : (w : Way) (h h' : HandleState) (line : ℕ) (call : Call) (started : Started) (len : ℕ) (out out' : List ℕ) (held held' : List Held) →
    StartsCall w h line call out held started h' out' held' → started ≡ Send len → len ≤ length out'
small_by (Crosses c) h h' line call started len out out' held held' starts sent =
    let bytes : List ℕ = crossing_bytes c in
    let count : len ≡ length bytes = ap (sent_len 0) (sym sent ∙ starts.answer) in
    let whole : length out' ≡ length bytes + length (drop (length bytes) out) = ap length starts.bytes ∙ length-append bytes (drop (length bytes) out) in
    omega (arith, count, whole)
small_by AnsweredHere h h' line call started len out out' held held' starts sent = let none : Send len ≡ Answered = sym sent ∙ starts.answer in cc
small_by Waits h h' line call started len out out' held held' starts sent = let none : Send len ≡ Wait = sym sent ∙ starts.0 in cc
small_by TouchesMemory h h' line call started len out out' held held' starts sent = absurd starts

pub sent_small : (handle handle' : HandleState) (a : Asked) (started : Started) (len : ℕ) (out out' : List ℕ) (held held' : List Held) →
    StartsCall (way_from handle a.call) handle a.line a.call out held started handle' out' held' → started ≡ Send len → len ≤ length out'
sent_small handle handle' a started len out out' held held' starts sent =
    small_by (way_from handle a.call) handle handle' a.line a.call started len out out' held held' starts sent

-- what the handle has done as it was found, it has done as it stands
starts_there : (handles : List HandleState) (a : Asked) (handle handle' : HandleState) (started : Started) (out out' : List ℕ) (held held' : List Held) → handle ≡ handle_in handles a.handle →
    StartsCall (way_from handle a.call) handle a.line a.call out held started handle' out' held' →
    StartsCall (way_in handles a) (handle_in handles a.handle) a.line a.call out held started handle' out' held'
starts_there handles a handle handle' started out out' held held' same starts =
    subst (λ (x : HandleState). StartsCall (way_from x a.call) x a.line a.call out held started handle' out' held') same starts

fits_there : (handles : List HandleState) (a : Asked) (handle : HandleState) → handle ≡ handle_in handles a.handle → IfSome (crossing_from handle a.call) (λ c. IsCrossing c) →
    IfSome (crossing (way_in handles a)) (λ c. IsCrossing c)
fits_there handles a handle same fits = subst (λ (x : HandleState). IfSome (crossing_from x a.call) (λ c. IsCrossing c)) same fits

home_held : (chain : Parcel) (home : (p : ℕ) × IsHome p chain) → chain.held ≡ []
home_held chain home = ap (λ (x : Parcel). x.held) home.1.1.is

pub starts_sent : (handles : List HandleState) (a : Asked) (handle handle' : HandleState) (chain chain1 chain2 chain' : Parcel) (started : Started) (len : ℕ) (out out' part : List ℕ) →
    a.handle < length handles → handle ≡ get_or handles a.handle handle → ((p : ℕ) × IsHome p chain) →
    StartsCall (way_from handle a.call) handle a.line a.call out chain.held started handle' out' chain1.held → IfSome (crossing_from handle a.call) (λ c. IsCrossing c) →
    chain1 ≡ record chain { held = chain1.held } → started ≡ Send len → chain2 ≡ with_len chain1 len → part ≡ take len out' → length part ≤ 4096 → chain' ≡ with_bytes chain2 part →
    Starts a handles chain started (set handles a.handle handle') chain'
starts_sent handles a handle handle' chain chain1 chain2 chain' started len out out' part within stands home starts fits kept sent long front small is =
    let same : handle ≡ handle_in handles a.handle = found_at handles a.handle handle within stands in
    let there : StartsCall (way_in handles a) (handle_in handles a.handle) a.line a.call out [] (Send len) handle' out' chain1.held =
    subst (λ hs. StartsCall (way_in handles a) (handle_in handles a.handle) a.line a.call out hs (Send len) handle' out' chain1.held) (home_held chain home)
    (subst (λ s. StartsCall (way_in handles a) (handle_in handles a.handle) a.line a.call out chain.held s handle' out' chain1.held) sent
    (starts_there handles a handle handle' started out out' chain.held chain1.held same starts)) in
    subst (λ s. Starts a handles chain s (set handles a.handle handle') chain') (sym sent)
    (sends_by (way_in handles a) a handles handle' chain chain' len out out' part chain1.held there (fits_there handles a handle same fits) front small
    (is ∙ ap (λ (x : Parcel). with_bytes x part) long ∙ ap (λ (x : Parcel). with_bytes (with_len x len) part) kept))

-- a call that doesn't
stays_by : (w : Way) (a : Asked) (handles : List HandleState) (handle' : HandleState) (chain chain' : Parcel) (started : Started) (out out' : List ℕ) (held' : List Held) →
    StartsCall w (handle_in handles a.handle) a.line a.call out chain.held started handle' out' held' → ((len : ℕ) → started ≡ Send len → ⊥) → chain' ≡ record chain { held = held' } →
    StartsBy w a handles chain started (set handles a.handle handle') chain'
stays_by (Crosses c) a handles handle' chain chain' started out out' held' starts never is = absurd (never (length (crossing_bytes c)) starts.answer)
stays_by AnsweredHere a handles handle' chain chain' started out out' held' starts never is = (
  handle',
  record { log = starts.log; answers = starts.answers; after = starts.handle },
  refl,
  starts.answer,
  is ∙ ap (λ hs. record chain { held = hs }) starts.memories,
)
stays_by Waits a handles handle' chain chain' started out out' held' starts never is =
    (ap (set handles a.handle) starts.1, starts.0, is ∙ ap (λ hs. record chain { held = hs }) starts.3)
stays_by TouchesMemory a handles handle' chain chain' started out out' held' starts never is = absurd starts

pub starts_here : (handles : List HandleState) (a : Asked) (handle handle' : HandleState) (chain chain' : Parcel) (started : Started) (out out' : List ℕ) →
    a.handle < length handles → handle ≡ get_or handles a.handle handle →
    StartsCall (way_from handle a.call) handle a.line a.call out chain.held started handle' out' chain'.held →
    chain' ≡ record chain { held = chain'.held } → ((len : ℕ) → started ≡ Send len → ⊥) → Starts a handles chain started (set handles a.handle handle') chain'
starts_here handles a handle handle' chain chain' started out out' within stands starts kept never =
    let same : handle ≡ handle_in handles a.handle = found_at handles a.handle handle within stands in
    stays_by (way_in handles a) a handles handle' chain chain' started out out' chain'.held
    (starts_there handles a handle handle' started out out' chain.held chain'.held same starts) never kept

-- ---- a reply is logged

-- What came back for the handle that is asked, by its command.
pub record IsFound (handles : List HandleState) (a : Asked) (f : Finished) (handle : HandleState) (c : Command) (can : CanLog handles a f) : Type 0 where
  pub same : handle ≡ handle_in handles a.handle
  pub command : can.command ≡ c
  pub crosses : command_asked handles a ≡ Some c

some_is : {A : Type 0} (x y : A) → Some x ≡ Some y → x ≡ y
some_is x y same = cc

pub found : (handles : List HandleState) (a : Asked) (f : Finished) (handle : HandleState) (c : Command) (o : Option Command) (can : CanLog handles a f) → handle ≡ get_or handles a.handle handle →
    o ≡ command_in (crossing_from handle a.call) → o ≡ Some c → IsFound handles a f handle c can
found handles a f handle c o can stands asked is =
    let same : handle ≡ handle_in handles a.handle = found_at handles a.handle handle can.within stands in
    let crosses : command_asked handles a ≡ Some c = sym (subst (λ (h : HandleState). o ≡ command_in (crossing_from h a.call)) same asked) ∙ is in
    record { same = same; command = some_is can.command c (sym can.crossed ∙ crosses); crosses = crosses }

-- the command is there
pub crosses_there : (handles : List HandleState) (a : Asked) (f : Finished) (handle : HandleState) (o : Option Command) (can : CanLog handles a f) → handle ≡ get_or handles a.handle handle →
    o ≡ command_in (crossing_from handle a.call) → o ≡ Some can.command
crosses_there handles a f handle o can stands asked =
    let same : handle ≡ handle_in handles a.handle = found_at handles a.handle handle can.within stands in
    subst (λ (h : HandleState). o ≡ command_in (crossing_from h a.call)) same asked ∙ can.crossed

-- the reply is logged
pub logs_by : (handles : List HandleState) (a : Asked) (f : Finished) (handle handle' : HandleState) (c : Command) (response : Response) → handle ≡ handle_in handles a.handle →
    command_asked handles a ≡ Some c → response ≡ response_of c (reply_bytes f) →
    ((reply : Reply) → IsAnswer (state_of handle.log) a.line a.call response reply → handle' ≡ with_reply handle a.line a.call reply response f.parcel.held) →
    Logs handles a f (set handles a.handle handle')
logs_by handles a f handle handle' c response same crosses read logged =
    let L : Option Command → Type 0 = λ o. LogsBy o handles a f (set handles a.handle handle') in
    let H : HandleState → Type 0 = λ h. (reply : Reply) → IsAnswer (state_of h.log) a.line a.call response reply → handle' ≡ with_reply h a.line a.call reply response f.parcel.held in
    let R : Response → Type 0 = λ r. (reply : Reply) → IsAnswer (state_of (handle_in handles a.handle).log) a.line a.call r reply → handle' ≡ with_reply (handle_in handles a.handle) a.line a.call reply r f.parcel.held in
    let there = subst R read (subst H same logged) in
    subst L (sym crosses) (λ reply answer. ap (set handles a.handle) (there reply answer))

-- what is no error is an answer
pub is_ok : {A B : Type 0} (r : Result A B) → (IsErr r → ⊥) → IsOk r
is_ok (Ok x) never = refl
is_ok (Err e) never = absurd (never refl)

-- the response that was read is that of the bytes
pub read_as : (c : Command) (bs bs' : List ℕ) (r : Result Response Short) (response : Response) → bs ≡ bs' → IfOk r (λ x. x ≡ response_of c bs) → r ≡ Ok response → response ≡ response_of c bs'
read_as c bs bs' r response same reads is = subst (λ x. IfOk x (λ y. y ≡ response_of c bs)) is reads ∙ ap (response_of c) same

-- the handle in its place
pub put_there : (handles : List HandleState) (at : ℕ) (handle : HandleState) → at < length handles → handle_in (set handles at handle) at ≡ handle
put_there handles at handle within = get_or-set_same handles at handle no_handle within

-- ---- leases

pub leases_there : (handles : List HandleState) (a : Asked) (handle handle' : HandleState) (leased : Leased) → handle ≡ handle_in handles a.handle →
    Leases (first_refusal (row_from handle.log a.line a.call).refusals) (with_line handle.log) a.line a.call leased handle'.log → handle' ≡ record handle { log = handle'.log } →
    LeasesIn a handles leased (set handles a.handle handle')
leases_there handles a handle handle' leased same leases rest = (
  handle'.log,
  subst (λ (x : HandleState). Leases (first_refusal (row_from x.log a.line a.call).refusals) (with_line x.log) a.line a.call leased handle'.log) same leases,
  ap (set handles a.handle) (rest ∙ ap (λ (x : HandleState). record x { log = handle'.log }) same),
)

-- what stands in a place is put there again
put_again : {A : Type 0} (xs : List A) (i : ℕ) (d : A) → i < length xs → set xs i (get_or xs i d) ≡ xs
put_again [] i d within = absurd (omega (arith, within))
put_again (x ∷ xs) zero d within = refl
put_again (x ∷ xs) (suc i) d within = ap (λ ys. x ∷ ys) (put_again xs i d (omega (arith, within)))

on_ok : {A B P Q : Type 0} (r : Result A B) → (P → Q) → OnOk r P → OnOk r Q
on_ok (Ok x) then_so p = then_so p
on_ok (Err e) then_so p = tt

on_err : {A B P Q : Type 0} (r : Result A B) → (P → Q) → OnErr r P → OnErr r Q
on_err (Ok x) then_so p = tt
on_err (Err e) then_so p = then_so p

pub returned_there : {A B : Type 0} (r : Result A B) (handles : List HandleState) (at : ℕ) (handle handle' : HandleState) (lease : LeaseParts) → handle ≡ handle_in handles at →
    OnOk r (handle' ≡ record handle { log = given_back handle.log lease }) → OnOk r (set handles at handle' ≡ with_returned handles at lease)
returned_there r handles at handle handle' lease same =
    on_ok r (λ is. ap (set handles at) (is ∙ ap (λ (x : HandleState). record x { log = given_back x.log lease }) same))

pub refused_there : {A B : Type 0} (r : Result A B) (handles : List HandleState) (at : ℕ) (handle handle' : HandleState) → at < length handles → handle ≡ handle_in handles at →
    OnErr r (handle' ≡ handle) → OnErr r (set handles at handle' ≡ handles)
refused_there r handles at handle handle' within same =
    on_err r (λ is. ap (set handles at) (is ∙ same) ∙ put_again handles at no_handle within)
