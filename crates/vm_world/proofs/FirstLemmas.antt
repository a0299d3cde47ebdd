-- Lemmas on the world before the first line of its script, and on the event chains that are posted for it.
use Rattle.std.proofs.Common.{◌≡◌, ℕ, ◌+◌, ◌-◌, ◌≤◌, ◌<◌, List, [], length, map, take, get_or, refl, sym, ap, ◌∙◌, subst, arith}
use Rattle.std.specs.List.{All, sum_by}
use Rattle.std.proofs.lemmas.List.{length_push}
use Rattle.std.proofs.lemmas.List.Elements.{All-nil, All-push, All-weaker}
use Rattle.std.proofs.lemmas.List.Sums.{sum_by_more_le, sum_by-le}
use Rattle.vm_frame.specs.declared.mem.Held.{Held}
use Rattle.vm_link.specs.Parcel.{IsPostable}
use Rattle.vm_link.specs.Queue.{Queue, Queues, free_count, posted}
use Rattle.vm_link.specs.declared.chains.DoneChain.{DoneChain}
use Rattle.vm_link.specs.declared.chains.OutChain.{OutChain}
use Rattle.vm_link.specs.declared.parcel.Parcel.{Parcel}
use Rattle.vm_script.specs.Script.{ProcessLines, ScriptLines}
use Rattle.vm_host.specs.Host.{HostState, fresh_host}
use Rattle.vm_host.specs.Part.{call_of, posting_of as posting_in}
use Rattle.vm_host.specs.declared.waiting.Waiting.{Waiting}
use Rattle.vm_guest.specs.Chain.{IsEventChain}
use Rattle.vm_guest.specs.Guest.{GuestState}
use Rattle.vm_guest.specs.Message.{returning_of}
use Rattle.vm_guest.specs.Orderly.{IsFitProcess, IsFreshGuest}
use Rattle.vm_realm.specs.Sound.{IsRunnable, IsSound}
use Rattle.vm_realm.specs.World.{IsOpening, handle_count}
use Rattle.vm_realm.proofs.SoundAtFirstLemmas.{sound_at_first}
use Rattle.vm_world.specs.Carried.{IsEmpty, HasPosted, IsPosted, IsBack, IsOutAs, KeepsOut, IsCarried, WaitsForEvent, BringsOne, command_room, event_in, world_of}
use Rattle.vm_world.proofs.KindLemmas.{few_lines, few_handles}

-- ---- how many handles a script has

-- what a process adds is few, and so are all so far
pub handles_within : (script : ScriptLines) (ps : List ProcessLines) (i : ℕ) (p : ProcessLines) → IsRunnable script → ps ≡ script.processes → i < length ps → p ≡ get_or ps i p
    → (length p.handles ≤ 1024) × (sum_by (λ (q : ProcessLines). length q.handles) (take i ps) + length p.handles ≤ 16384)
handles_within script ps i p runs are within is =
    let each : All IsFitProcess ps = subst (All IsFitProcess) (sym are) runs.fit.each in
    let fit : IsFitProcess p = subst IsFitProcess (sym is) (each i p within) in
    let named = fit.named in
    let limit = fit.limit in
    let few = runs.fit.few in
    let count : length ps ≡ length script.processes = ap (λ (xs : List ProcessLines). length xs) are in
    let one : length p.handles ≡ length (get_or ps i p).handles = ap (λ (q : ProcessLines). length q.handles) is in
    let more = sum_by_more_le (λ (q : ProcessLines). length q.handles) ps i p within in
    (omega (arith, named, limit), omega (arith, few_lines ps each, few_handles ps each, few, count, one, more))

-- ---- the event chains

pub none_posted : (q : Queue) → IsEmpty q → HasPosted 0 q.size q
none_posted q empty = record {
  size_is = refl;
  waiting = subst (All WaitsForEvent) (sym empty.0) (All-nil WaitsForEvent);
  count_is = ap (λ (ps : List Parcel). length ps) empty.0;
  out = empty.1;
  done = empty.2;
}

table_one : (k : ℕ) (held : List Held) (p : Parcel) → IsEventChain k held p → length p.table ≡ 1
table_one k held p chain = ap (λ (x : Parcel). length x.table) chain.is

pub can_be_posted : (k : ℕ) (p : Parcel) → IsEventChain k [] p → IsPostable p
can_be_posted k p chain =
    let table = table_one k [] p chain in
    let pages : length p.pages ≡ 1 = ap (λ (x : Parcel). length x.pages) chain.is in
    (omega (arith, table), omega (arith, table), omega (arith, pages))

pub has_room : (k size n : ℕ) (q : Queue) (p : Parcel) → HasPosted k size q → k < size → IsEventChain n [] p → length p.table ≤ free_count q
has_room k size n q p has less chain =
    let one : (x : Parcel) → WaitsForEvent x → length x.table ≤ 1 = λ x waits. (let table = table_one waits.0 [] x waits.1 in omega (arith, table)) in
    let few = sum_by-le (λ (x : Parcel). length x.table) 1 q.waiting (All-weaker WaitsForEvent (λ (x : Parcel). length x.table ≤ 1) one q.waiting has.waiting) in
    let out : sum_by (λ (o : OutChain). o.count) q.out ≡ 0 = ap (λ (os : List OutChain). sum_by (λ (o : OutChain). o.count) os) has.out in
    let done : sum_by (λ (d : DoneChain). d.count) q.done ≡ 0 = ap (λ (ds : List DoneChain). sum_by (λ (d : DoneChain). d.count) ds) has.done in
    omega (arith, few, out, done, has.count_is, has.size_is, less, table_one n [] p chain)

pub one_more_posted : (k size : ℕ) (q q' : Queue) (p : Parcel) → HasPosted k size q → WaitsForEvent p → q' ≡ posted q p → HasPosted (k + 1) size q'
one_more_posted k size q q' p has waits is = subst (HasPosted (k + 1) size) (sym is) (record {
  size_is = has.size_is;
  waiting = All-push WaitsForEvent q.waiting p has.waiting waits;
  count_is = (let count = has.count_is in omega (arith, length_push q.waiting p, count));
  out = has.out;
  done = has.done;
})

-- ---- the world before its first line

-- no call waits, and no chain of one is taken
none_out : (out : List OutChain) (ws : List Waiting) → out ≡ [] → ws ≡ [] → KeepsOut out ws
none_out out ws no_chain no_call =
    let here : KeepsOut [] [] = record { each = All-nil (IsOutAs []); apart = tt; total = omega arith } in
    subst (λ os. KeepsOut os ws) (sym no_chain) (subst (KeepsOut []) (sym no_call) here)

pub opening_carried : (script : ScriptLines) (guest : GuestState) (host : HostState) (queues : Queues) (size : ℕ) → IsFreshGuest script guest
    → host ≡ fresh_host script.model (handle_count script) → command_room ≤ queues.command.size → IsEmpty queues.command → HasPosted 16 size queues.event
    → IsOpening script (world_of script guest host queues) × IsCarried guest host queues
opening_carried script guest host queues size fresh is room empty posts =
    let calls : host.waiting ≡ [] = ap (λ (h : HostState). h.waiting) is in (
      record {
        is = refl;
        guest = fresh;
        device = ap (λ (h : HostState). h.device) is;
        calls = ap (map call_of) calls;
        requests = ap (map posting_in) empty.0;
        replies = ap (map (λ (d : DoneChain). returning_of d.finished)) empty.2;
        chains = posts.count_is;
        events = ap (map event_in) posts.done;
      },
      record {
        room = room;
        posted = subst (All (IsPosted guest)) (sym empty.0) (All-nil (IsPosted guest));
        waiting = subst (All (λ (w : Waiting). IsPosted guest w.parcel)) (sym calls) (All-nil (λ (w : Waiting). IsPosted guest w.parcel));
        out = none_out queues.command.out host.waiting empty.1 calls;
        back = subst (All (IsBack guest)) (sym empty.2) (All-nil (IsBack guest));
        free = posts.waiting;
        brought = subst (All BringsOne) (sym posts.done) (All-nil BringsOne);
      },
    )

-- it is sound
pub opening_kept : (script : ScriptLines) (guest : GuestState) (host : HostState) (queues : Queues) (size : ℕ) → IsRunnable script → IsFreshGuest script guest
    → host ≡ fresh_host script.model (handle_count script) → command_room ≤ queues.command.size → IsEmpty queues.command → HasPosted 16 size queues.event
    → IsSound (world_of script guest host queues) × IsCarried guest host queues
opening_kept script guest host queues size runs fresh is room empty posts =
    let opening = opening_carried script guest host queues size fresh is room empty posts in
    (sound_at_first script (world_of script guest host queues) runs opening.0, opening.1)

-- the queues once one more is posted
pub posted_next : (k size : ℕ) (queues next : Queues) (p : Parcel) (c : Queue) → (queues.command ≡ c) × HasPosted k size queues.event → WaitsForEvent p
    → next ≡ record queues { event = posted queues.event p } → (next.command ≡ c) × HasPosted (k + 1) size next.event
posted_next k size queues next p c has waits is = (
  ap (λ (x : Queues). x.command) is ∙ has.0,
  one_more_posted k size queues.event next.event p has.1 waits (ap (λ (x : Queues). x.event) is),
)
