-- In a sound world a call that waits in the device is one that stops queues.
use Rattle.std.proofs.Common.{◌≡◌, ℕ, true, List, Some, Ok, refl, sym, ap, ◌∙◌, subst}
use Rattle.std.specs.List.{Contains}
use Rattle.std.proofs.lemmas.Bool.{false≢true, cond_both}
use Rattle.std.proofs.lemmas.List.Elements.{All-contains}
use Rattle.std.proofs.lemmas.Option.{none-some, same_Some}
use Rattle.vm_local.specs.declared.call.Call.{Call}
use Rattle.vm_local.specs.declared.call.Call.TheVariants.{CloseHandle, ReqBufs, StreamOff}
use Rattle.vm_local.specs.State.{LocalState}
use Rattle.vm_home.specs.Moves.{is_stopping}
use Rattle.vm_log.specs.LegalLog.{state_of}
use Rattle.vm_wire.specs.Message.{Ask, Posting}
use Rattle.vm_wire.specs.Message.Ask.{Judged}
use Rattle.vm_wire.specs.declared.command.Command.{Command}
use Rattle.vm_exchange.specs.Exchange.{from_open, sends, crossing, crossing_of}
use Rattle.vm_exchange.specs.declared.crossing.Crossing.{Crossing}
use Rattle.vm_exchange.specs.declared.way.Way.{Way}
use Rattle.vm_exchange.specs.declared.way.Way.TheVariants.{AnsweredHere}
use Rattle.vm_handle.specs.Handle.{id_of}
use Rattle.vm_host.specs.Part.{Call as WaitingCall}
use Rattle.vm_realm.specs.World.{WorldState}
use Rattle.vm_realm.specs.Inner.{Inner}
use Rattle.vm_realm.specs.Slice.{Slice, out_at, slice_at}
use Rattle.vm_realm.specs.Slice.Out.{Kept}
use Rattle.vm_realm.specs.Sound.{IsKept, IsOut, IsSoundSlice, IsSoundBy, IsHandle, id_at, inner_at}
use Rattle.vm_realm.proofs.DeviceLemmas.{brings}
use Rattle.vm_realm.proofs.PartLemmas.{BringsNone}

-- ---- the commands of calls that stop queues

by_open : (s : LocalState) (d : Command) (c : Crossing) → brings d ≡ 0 → crossing (from_open s (sends d)) ≡ Some c → brings c.command ≡ 0
by_open s d c none is =
    let P : Way → Type 0 = λ way. crossing way ≡ Some c → brings c.command ≡ 0 in
    cond_both s.opened (sends d) AnsweredHere P
    (λ t same. sym (ap (λ (x : Crossing). brings x.command) (same_Some _ c same)) ∙ none)
    (λ t same. absurd (none-some c same)) is

stopping_brings : (id : ℕ) (s : LocalState) (call : Call) (c : Crossing) → is_stopping call ≡ true → crossing_of id s call ≡ Some c → brings c.command ≡ 0
stopping_brings id s CloseHandle c stops is = by_open s _ c refl is
stopping_brings id s (ReqBufs t m n) c stops is = by_open s _ c refl is
stopping_brings id s (StreamOff t) c stops is = by_open s _ c refl is
stopping_brings id s call c stops is = absurd (false≢true stops)

-- ---- a call that waits

pub command_same : (c d : Command) → ◌≡◌ {A = Ask} (Judged (Ok c)) (Judged (Ok d)) → c ≡ d
command_same c d same = cc

kept_brings : (x : Slice) (v : Inner) (m : Posting) (c : Command) → x.out ≡ Kept m → IsSoundSlice x v → m.request.asks ≡ Judged (Ok c) → brings c ≡ 0
kept_brings x v m c out sound asks =
    let kept : IsKept x m = (subst (λ o. IsOut o x v) out sound.out).1 in
    let says : m.request.asks ≡ Judged (Ok kept.posted.crossing.command) = ap (λ (y : Posting). y.request.asks) kept.posted.says in
    let same : c ≡ kept.posted.crossing.command = command_same c kept.posted.crossing.command (sym asks ∙ says) in
    ap brings same ∙ stopping_brings (id_of x.handle.session) (state_of x.handle.log) kept.posted.call kept.posted.crossing kept.stops kept.posted.crosses

pub waits_none : (w : WorldState) (rows : List (List Inner)) (c : WaitingCall) → IsSoundBy w rows → Contains w.host.calls c → BringsNone c
waits_none w rows c sound there =
    let P : WaitingCall → Type 0 = λ x. (n : ℕ) × (h : ℕ) × IsHandle w n h × (out_at w n h ≡ Kept x.posting) × (id_at w n h ≡ Some x.session) in
    let own : P c = All-contains P w.host.calls c sound.said.waiting there in
    λ command asks. kept_brings (slice_at w own.0 own.1) (inner_at w rows own.0 own.1) c.posting command own.3 (sound.slices own.0 own.1 own.2) asks
