-- A step that moves no mapping leaves the share of its handle in the region, or lets it grow.
use Rattle.std.proofs.Common.{◌≡◌, ℕ, ◌<◌, ◌^◌, Bool, true, false, List, [], ◌∷◌, ◌++◌, Option, Some, None, is_some, refl, sym, ap, ◌∙◌, subst, inl, inr}
use Rattle.std.specs.Option.{option_to_list}
use Rattle.std.proofs.lemmas.Bool.{false≢true, true≢false}
use Rattle.std.proofs.lemmas.List.{append-nil}
use Rattle.v4l_const.specs.declared.errno.Errno.{Errno}
use Rattle.v4l_const.specs.declared.errno.Errno.TheVariants.{Enomem}
use Rattle.v4l_const.specs.declared.model.Model.{Model}
use Rattle.v4l_rules.specs.Refusals.{first_refusal}
use Rattle.vm_frame.specs.declared.mem.Held.{Held}
use Rattle.vm_home.specs.Moves.{is_stopping, touches_bytes}
use Rattle.vm_local.specs.declared.call.Call.{Call}
use Rattle.vm_local.specs.declared.call.Call.TheVariants.{Mmap, Munmap}
use Rattle.vm_local.specs.declared.entry.Entry.{Entry}
use Rattle.vm_local.specs.declared.entry.Entry.TheVariants.{Called}
use Rattle.vm_local.specs.declared.reply.Reply.{Reply}
use Rattle.vm_local.specs.declared.reply.Reply.TheVariants.{Refused}
use Rattle.vm_local.specs.State.{LocalState, opening}
use Rattle.vm_local.specs.Same.{address_in}
use Rattle.vm_local.specs.Calls.{row_of, mmap_row, munmap_row}
use Rattle.vm_local.specs.Log.{IsCall, after}
use Rattle.vm_log.specs.Answers.{with_line, answered_with, Sends, Leases, given_back}
use Rattle.vm_log.specs.LegalLog.{LogState, state_of}
use Rattle.vm_log.specs.declared.leased.Leased.{Leased}
use Rattle.vm_log.specs.declared.leased.Leased.TheVariants.{Answered, Out as LeaseOutOf, Idle}
use Rattle.vm_wire.specs.Message.{Posting, Returning}
use Rattle.vm_wire.specs.Wire.{response_bytes, response_of, Answers, ReadsBack}
use Rattle.vm_wire.specs.declared.command.Command.{Command}
use Rattle.vm_wire.specs.declared.delivery.Delivery.{Delivery}
use Rattle.vm_wire.specs.declared.response.Response.{Response}
use Rattle.vm_wire.specs.declared.response.Response.TheVariants.{Opened}
use Rattle.vm_wire.proofs.WireLemmas.{response_again}
use Rattle.vm_exchange.specs.declared.crossing.Crossing.{Crossing}
use Rattle.vm_exchange.specs.declared.way.Way.{Way}
use Rattle.vm_exchange.specs.declared.way.Way.TheVariants.{Crosses, AnsweredHere, Waits, TouchesMemory}
use Rattle.vm_exchange.specs.Exchange.{response_to, IsAnswer, unless_by}
use Rattle.vm_exchange.proofs.ReplyLemmas.{answer_fits}
use Rattle.vm_handle.specs.Answers.{AnswersHere, answered_by, row_from, with_reply, with_steps, with_given, awoken, delivered}
use Rattle.vm_handle.specs.Handle.{HandleState, id_of, way_from, crossing_from}
use Rattle.vm_handle.specs.declared.stage.Stage.TheVariants.{AtRest, Underway, Waiting}
use Rattle.vm_exchange.specs.Messages.{made_by}
use Rattle.vm_guest.specs.Lines.{waiting}
use Rattle.vm_realm.specs.declared.step.Step.{Step}
use Rattle.vm_realm.specs.declared.step.Step.TheVariants.{Issue, Execute, Resume, Begin, Finish, Announce, Collect, Pump, Lease, GiveBack}
use Rattle.vm_realm.specs.Inner.{Inner, driver_state, id_in}
use Rattle.vm_realm.specs.Laws.{does_command}
use Rattle.vm_realm.specs.Mapped.{mapping_by, mappings_from, mappings_of}
use Rattle.vm_realm.specs.Slice.{Slice, Out, id_ahead}
use Rattle.vm_realm.specs.Slice.Out.{Nowhere, Asked, Kept, Told, Astray}
use Rattle.vm_realm.specs.SliceSteps.{MayStart, StartsBy, holds_back, all_delivered, taken, Collects, SliceDoes}
use Rattle.vm_realm.specs.Sound.{IsBefore, IsTold, IsOut, IsSoundSlice, share_of}
use Rattle.vm_realm.proofs.KeepCollectLemmas.{IsRead, collected, told_is, line_same}
use Rattle.vm_realm.proofs.KeepLendLemmas.{lent_rests, rests_nowhere}
use Rattle.vm_realm.proofs.KeepReplyLemmas.{one_answer}
use Rattle.vm_realm.proofs.LiftLemmas.{LaterShare}
use Rattle.vm_realm.proofs.PumpLiftLemmas.{NoTell, behind_none, Silent, silent_same, silent_then, steps_silent, made_tells, given_silent, awoken_silent, delivered_silent, free_tells, delivered_free}
use Rattle.vm_realm.proofs.TakeLemmas.{delivered_session, delivered_ahead}

-- ---- calls that tell of mappings

-- the call may make a mapping, or give one back
abbrev pub tells : Call → Bool
tells (Mmap m t i ro) = true
tells (Munmap m) = true
tells call = false

pub untold : (s : LocalState) (call : Call) (reply : Reply) → tells call ≡ false → mapping_by s call reply ≡ []
untold s (Mmap m t i ro) reply plain = absurd (true≢false plain)
untold s (Munmap m) reply plain = absurd (true≢false plain)
untold s call reply plain = refl

pub refused_untold : (s : LocalState) (call : Call) (errno : Errno) → mapping_by s call (Refused errno) ≡ []
refused_untold s (Mmap m t i ro) errno = refl
refused_untold s (Munmap m) errno = refl
refused_untold s call errno = refl

pub tells_goes : (call : Call) → tells call ≡ true → is_stopping call ≡ false
tells_goes (Mmap m t i ro) is = refl
tells_goes (Munmap m) is = refl
tells_goes call is = absurd (false≢true is)

tells_touch : (call : Call) → touches_bytes call ≡ true → tells call ≡ false
tells_touch (Mmap m t i ro) touches = absurd (false≢true touches)
tells_touch (Munmap m) touches = absurd (false≢true touches)
tells_touch call touches = refl

-- ---- a call that was executed

pub some_of : {A : Type 0} (o : Option A) → is_some o ≡ true → (x : A) × (o ≡ Some x)
some_of None some = absurd (false≢true some)
some_of (Some x) some = (x, refl)

-- it is answered so, which the bytes of its reply tell
pub record IsReply (x : Slice) (v : Inner) (r : Returning) (line : ℕ) (call : Call) (c : Command) : Type 0 where
  pub reply : Reply
  pub executed : v.executed ≡ Some (Called line call reply)
  pub address : address_in reply < 2 ^ 64
  pub answer : IsAnswer (driver_state x) line call (response_of c r.reply.bytes) reply

reply_told : (x : Slice) (v : Inner) (r : Returning) (line : ℕ) (call : Call) (k : Crossing) → IsSoundSlice x v → (told : IsTold x v r) → told.line ≡ line → told.call ≡ call → is_stopping call ≡ false → crossing_from x.handle call ≡ Some k →
    IsReply x v r line call k.command
reply_told x v r line call k sound told same_line same_call goes crosses =
    let s : LocalState = driver_state x in
    let before : v.before ≡ s = subst (λ b. IsBefore b x v.before) (ap is_stopping same_call ∙ goes) told.before in
    let leads : IsCall s line call told.reply told.next = λ j. (subst (λ c. IsCall s line c told.reply told.next) same_call (subst (λ l. IsCall s l told.call told.reply told.next) same_line (subst (λ z. IsCall z told.line told.call told.reply told.next) before told.is_call))) j in
    let response : Response = response_to (id_in x) s call told.reply in
    let own : IsAnswer s line call response told.reply = (told.next, id_in x, (leads, refl)) in
    let small : (id : ℕ) → response ≡ Opened id → id < 2 ^ 32 = subst (λ c. (id : ℕ) → response_to (id_in x) s c told.reply ≡ Opened id → id < 2 ^ 32) same_call told.small in
    let fits : Answers k.command response = answer_fits (id_of x.handle.session) s line call k response told.reply sound.handle.range crosses own small told.address in
    let reads : ReadsBack k.command response (response_bytes response) = response_again k.command response fits in
    let bytes : r.reply.bytes ≡ response_bytes response = told.bytes ∙ ap (λ c. response_bytes (response_to (id_in x) s c told.reply)) same_call in
    let read : response_of k.command r.reply.bytes ≡ response = ap (response_of k.command) bytes ∙ reads.1 in
    record {
      reply = told.reply;
      executed = told.executed ∙ (λ j. Some (Called (same_line j) (same_call j) told.reply));
      address = told.address;
      answer = (told.next, id_in x, (leads, read));
    }

pub reply_of : (x : Slice) (v : Inner) (r : Returning) (line : ℕ) (call : Call) (k : Crossing) → IsSoundSlice x v → x.out ≡ Told r → x.handle.stage ≡ Underway line call → is_stopping call ≡ false → crossing_from x.handle call ≡ Some k →
    IsReply x v r line call k.command
reply_of x v r line call k sound at under goes crosses =
    let told : IsTold x v r = told_is x v x.out r at sound.out in
    let same : (told.line ≡ line) × (told.call ≡ call) = line_same told.line line told.call call (sym told.underway ∙ under) in
    reply_told x v r line call k sound told same.0 same.1 goes crosses

-- ---- the mappings of a share

-- where nothing more is told of mappings, they are those of the log
pub silent_mappings : (m : Model) (l l' : LogState) (old new : Option Entry) → Silent l l' → NoTell (option_to_list old) → NoTell (option_to_list new) → mappings_of m l'.entries new ≡ mappings_of m l.entries old
silent_mappings m l l' old new silent none none_then =
    behind_none (opening m) l'.entries (option_to_list new) none_then
    ∙ (ap (mappings_from (opening m)) silent.1
    ∙ (behind_none (opening m) l.entries silent.0 silent.2 ∙ sym (behind_none (opening m) l.entries (option_to_list old) none)))

pub none_tells : (o : Option Entry) → o ≡ None → NoTell (option_to_list o)
none_tells o is = subst (λ e. NoTell (option_to_list e)) (sym is) tt

pub one_tells : (o : Option Entry) (line : ℕ) (call : Call) (reply : Reply) → o ≡ Some (Called line call reply) → ((s : LocalState) → mapping_by s call reply ≡ []) → NoTell (option_to_list o)
one_tells o line call reply is none = subst (λ e. NoTell (option_to_list e)) (sym is) (none, tt)

-- of a handle whose call isn't out nothing is executed
nowhere_none : (x : Slice) (v : Inner) (o : Out) → o ≡ Nowhere → IsOut o x v → v.executed ≡ None
nowhere_none x v Nowhere at out = out.0.executed
nowhere_none x v (Asked m) at out = out.0.executed
nowhere_none x v (Kept m) at out = out.0.executed
nowhere_none x v (Told r) at out = absurd (other at)
  where
    other : Told r ≡ Nowhere → ⊥
    other at = cc
nowhere_none x v Astray at out = absurd out

asked_none : (x : Slice) (v : Inner) (o : Out) (m : Posting) → o ≡ Asked m → IsOut o x v → v.executed ≡ None
asked_none x v Nowhere m at out = out.0.executed
asked_none x v (Asked n) m at out = out.0.executed
asked_none x v (Kept n) m at out = out.0.executed
asked_none x v (Told r) m at out = absurd (other at)
  where
    other : Told r ≡ Asked m → ⊥
    other at = cc
asked_none x v Astray m at out = absurd out

-- ---- where the handle and its call stay

told_tells : (x x' : Slice) (v v' : Inner) (m : Model) (r : Returning) (b : Bool) → IsSoundSlice x v → IsSoundSlice x' v' → x'.handle ≡ x.handle → x.out ≡ Told r → x'.out ≡ Told r → (told : IsTold x v r) → tells told.call ≡ b → IsTold x' v' r →
    mappings_of m x'.handle.log.entries v'.executed ≡ mappings_of m x.handle.log.entries v.executed
told_tells x x' v v' m r false sound goes handle at at' told plain told' =
    let same : (told'.line ≡ told.line) × (told'.call ≡ told.call) = line_same told'.line told.line told'.call told.call (sym told'.underway ∙ (ap (λ (y : HandleState). y.stage) handle ∙ told.underway)) in
    let plain' : tells told'.call ≡ false = ap tells same.1 ∙ plain in
    ap (λ (y : HandleState). mappings_of m y.log.entries v'.executed) handle
    ∙ silent_mappings m x.handle.log x.handle.log v.executed v'.executed (silent_same x.handle.log)
    (one_tells v.executed told.line told.call told.reply told.executed (λ s. untold s told.call told.reply plain))
    (one_tells v'.executed told'.line told'.call told'.reply told'.executed (λ s. untold s told'.call told'.reply plain'))
told_tells x x' v v' m r true sound goes handle at at' told is told' =
    let k : (k : Crossing) × (crossing_from x.handle told.call ≡ Some k) = some_of (crossing_from x.handle told.call) told.crosses in
    let free : is_stopping told.call ≡ false = tells_goes told.call is in
    let one : IsReply x v r told.line told.call k.0.command = reply_of x v r told.line told.call k.0 sound at told.underway free k.1 in
    let two : IsReply x' v' r told.line told.call k.0.command = reply_of x' v' r told.line told.call k.0 goes at' (ap (λ (y : HandleState). y.stage) handle ∙ told.underway) free (ap (λ y. crossing_from y told.call) handle ∙ k.1) in
    let answer : IsAnswer (driver_state x) told.line told.call (response_of k.0.command r.reply.bytes) two.reply =
    subst (λ (y : HandleState). IsAnswer (state_of y.log) told.line told.call (response_of k.0.command r.reply.bytes) two.reply) handle two.answer in
    let reply : two.reply ≡ one.reply = one_answer (driver_state x) told.line told.call (response_of k.0.command r.reply.bytes) two.reply one.reply answer one.answer in
    let executed : v'.executed ≡ v.executed = two.executed ∙ (ap (λ q. Some (Called told.line told.call q)) reply ∙ sym one.executed) in
    λ j. mappings_of m (handle j).log.entries (executed j)

out_tells : (x x' : Slice) (v v' : Inner) (m : Model) (o : Out) → IsSoundSlice x v → IsSoundSlice x' v' → x'.handle ≡ x.handle → x.out ≡ o → x'.out ≡ o → IsOut o x v → IsOut o x' v' →
    mappings_of m x'.handle.log.entries v'.executed ≡ mappings_of m x.handle.log.entries v.executed
out_tells x x' v v' m Nowhere sound goes handle at at' out out' = λ j. mappings_of m (handle j).log.entries ((out'.0.executed ∙ sym out.0.executed) j)
out_tells x x' v v' m (Asked p) sound goes handle at at' out out' = λ j. mappings_of m (handle j).log.entries ((out'.0.executed ∙ sym out.0.executed) j)
out_tells x x' v v' m (Kept p) sound goes handle at at' out out' = λ j. mappings_of m (handle j).log.entries ((out'.0.executed ∙ sym out.0.executed) j)
out_tells x x' v v' m (Told r) sound goes handle at at' out out' = told_tells x x' v v' m r (tells out.call) sound goes handle at at' out refl out'
out_tells x x' v v' m Astray sound goes handle at at' out out' = absurd out

pub stays_later : (x x' : Slice) (v v' : Inner) (m : Model) (more : List ℕ) → IsSoundSlice x v → IsSoundSlice x' v' → x'.handle ≡ x.handle → x'.out ≡ x.out → v'.frames ≡ v.frames ++ more →
    LaterShare (share_of m x.handle v (id_ahead x.handle x.out)) (share_of m x'.handle v' (id_ahead x'.handle x'.out))
stays_later x x' v v' m more sound goes handle out frames = record {
  mappings = out_tells x x' v v' m x.out sound goes handle refl out sound.out (subst (λ o. IsOut o x' v') out goes.out);
  id = λ i own. (λ j. id_ahead (handle j) (out j)) ∙ own;
  more = more;
  frames = frames;
}

-- where the call begins to wait in the device
pub waits_later : (x x' : Slice) (v v' : Inner) (m : Model) (more : List ℕ) (p : Posting) → IsSoundSlice x v → IsSoundSlice x' v' → x' ≡ record x { out = Kept p } → x.out ≡ Asked p → v'.frames ≡ v.frames ++ more →
    LaterShare (share_of m x.handle v (id_ahead x.handle x.out)) (share_of m x'.handle v' (id_ahead x'.handle x'.out))
waits_later x x' v v' m more p sound goes after asked frames =
    let handle : x'.handle ≡ x.handle = ap (λ (y : Slice). y.handle) after in
    let kept : x'.out ≡ Kept p = ap (λ (y : Slice). y.out) after in
    let none : v.executed ≡ None = asked_none x v x.out p asked sound.out in
    let none_then : v'.executed ≡ None = (subst (λ o. IsOut o x' v') kept goes.out).0.executed in
    record {
      mappings = λ j. mappings_of m (handle j).log.entries ((none_then ∙ sym none) j);
      id = λ i own. (λ j. id_ahead (handle j) (kept j)) ∙ (sym (ap (id_ahead x.handle) asked) ∙ own);
      more = more;
      frames = frames;
    }

-- ---- where the log goes on in silence

silent_later : (x x' : Slice) (v v' : Inner) (m : Model) (more : List ℕ) → Silent x.handle.log x'.handle.log → NoTell (option_to_list v.executed) → NoTell (option_to_list v'.executed) → x'.handle.session ≡ x.handle.session → x.out ≡ Nowhere →
    id_ahead x'.handle x'.out ≡ x'.handle.session → v'.frames ≡ v.frames ++ more → LaterShare (share_of m x.handle v (id_ahead x.handle x.out)) (share_of m x'.handle v' (id_ahead x'.handle x'.out))
silent_later x x' v v' m more silent none none_then session at own frames = record {
  mappings = silent_mappings m x.handle.log x'.handle.log v.executed v'.executed silent none none_then;
  id = λ i is. own ∙ (session ∙ (sym (ap (id_ahead x.handle) at) ∙ is));
  more = more;
  frames = frames;
}

-- ---- a line

line_silent : (l : LogState) (line : ℕ) (call : Call) (reply : Reply) (log : LogState) → log.entries ≡ l.entries ++ Called line call reply ∷ [] → ((s : LocalState) → mapping_by s call reply ≡ []) → Silent l log
line_silent l line call reply log is none = (Called line call reply ∷ [], is, (none, tt))

mmap_refusals : (s : LocalState) (line : ℕ) (m : List ℕ) (t i : ℕ) (ro : Bool) → first_refusal (row_of s line 0 (Mmap m t i ro)).refusals ≡ first_refusal (row_of s 0 0 (Mmap m t i ro)).refusals
unfolding mmap_row
mmap_refusals s line m t i ro = refl

munmap_refusals : (s : LocalState) (line : ℕ) (m : List ℕ) → first_refusal (row_of s line 0 (Munmap m)).refusals ≡ first_refusal (row_of s 0 0 (Munmap m)).refusals
unfolding munmap_row
munmap_refusals s line m = refl

refuses : (o : Option Errno) (c : Crossing) → unless_by o (Crosses c) ≡ AnsweredHere → is_some o ≡ true
refuses (Some errno) c is = refl
refuses None c is = absurd (other is)
  where
    other : Crosses c ≡ AnsweredHere → ⊥
    other is = cc

-- the driver itself makes no mapping and gives none back
here_refuses : (h : HandleState) (line : ℕ) (call : Call) → tells call ≡ true → way_from h call ≡ AnsweredHere → is_some (first_refusal (row_from h.log line call).refusals) ≡ true
here_refuses h line (Mmap m t i ro) is way = ap is_some (mmap_refusals (state_of h.log) line m t i ro) ∙ refuses (first_refusal (row_of (state_of h.log) 0 0 (Mmap m t i ro)).refusals) _ way
here_refuses h line (Munmap m) is way = ap is_some (munmap_refusals (state_of h.log) line m) ∙ refuses (first_refusal (row_of (state_of h.log) 0 0 (Munmap m)).refusals) _ way
here_refuses h line call is way = absurd (false≢true is)

by_refusal : (o : Option Errno) (l : LogState) (line : ℕ) (call : Call) → (tells call ≡ true → is_some o ≡ true) → Silent l (answered_by o (with_line l) line call)
by_refusal (Some errno) l line call refuses = line_silent l line call (Refused errno) (answered_by (Some errno) (with_line l) line call) refl (λ s. refused_untold s call errno)
by_refusal None l line call refuses = line_silent l line call (row_from (with_line l) line call).reply (answered_by None (with_line l) line call) refl (λ s. untold s call _ (plain (tells call) refl))
  where
    plain : (b : Bool) → tells call ≡ b → tells call ≡ false
    plain true is = absurd (false≢true (refuses is))
    plain false is = is

here_silent : (h : HandleState) (line : ℕ) (call : Call) (log : LogState) → way_from h call ≡ AnsweredHere → AnswersHere (with_line h.log) line call log → Silent h.log log
here_silent h line call log way (inl is) =
    subst (Silent h.log) (sym is) (by_refusal (first_refusal (row_from (with_line h.log) line call).refusals) h.log line call (λ told. here_refuses h line call told way))
here_silent h line call log way (inr lacks) =
    subst (Silent h.log) (sym lacks.new_is) (line_silent h.log line call (Refused Enomem) (answered_with (with_line h.log) line call (Refused Enomem) (with_line h.log).home) refl (λ s. refused_untold s call Enomem))

sent_silent : (o : Option ℕ) (l : LogState) (call : Call) (along : Option Held) (log : LogState) → Sends o (with_line l) call along log → Silent l log
sent_silent None l call along log (none, same) = subst (Silent l) (sym same) (silent_same l)
sent_silent (Some number) l call None log sends = absurd sends
sent_silent (Some number) l call (Some held) log (queued, home, same) = subst (Silent l) (sym same) (silent_same l)

starts_later : (way : Way) (line : ℕ) (call : Call) (x x' : Slice) (v v' : Inner) (m : Model) (more : List ℕ) → IsSoundSlice x v → IsSoundSlice x' v' → MayStart x → way_from x.handle call ≡ way → StartsBy way line call x x' → v'.frames ≡ v.frames ++ more →
    LaterShare (share_of m x.handle v (id_ahead x.handle x.out)) (share_of m x'.handle v' (id_ahead x'.handle x'.out))
starts_later (Crosses c) line call x x' v v' m more sound goes may way (along, handle, out, after) frames =
    let at : x'.out ≡ Asked _ = ap (λ (y : Slice). y.out) after in
    let here : x'.handle ≡ record x.handle { log = out.log; stage = Underway line call } = ap (λ (y : Slice). y.handle) after ∙ out.after in
    silent_later x x' v v' m more (subst (Silent x.handle.log) (sym (ap (λ (y : HandleState). y.log) here)) (sent_silent _ x.handle.log call along out.log out.sends))
    (none_tells v.executed (nowhere_none x v x.out may.out sound.out)) (none_tells v'.executed (asked_none x' v' x'.out _ at goes.out)) (ap (λ (y : HandleState). y.session) here) may.out (ap (id_ahead x'.handle) at) frames
starts_later AnsweredHere line call x x' v v' m more sound goes may way (handle, itself, after) frames =
    let at : x'.out ≡ Nowhere = ap (λ (y : Slice). y.out) after ∙ may.out in
    let here : x'.handle ≡ record x.handle { log = itself.log } = ap (λ (y : Slice). y.handle) after ∙ itself.after in
    silent_later x x' v v' m more (subst (Silent x.handle.log) (sym (ap (λ (y : HandleState). y.log) here)) (here_silent x.handle line call itself.log way itself.answers))
    (none_tells v.executed (nowhere_none x v x.out may.out sound.out)) (none_tells v'.executed (nowhere_none x' v' x'.out at goes.out)) (ap (λ (y : HandleState). y.session) here) may.out (ap (id_ahead x'.handle) at) frames
starts_later Waits line call x x' v v' m more sound goes may way after frames =
    let at : x'.out ≡ Nowhere = ap (λ (y : Slice). y.out) after ∙ may.out in
    let here : x'.handle ≡ waiting x.handle line call = ap (λ (y : Slice). y.handle) after in
    silent_later x x' v v' m more (subst (Silent x.handle.log) (sym (ap (λ (y : HandleState). y.log) here)) (silent_same x.handle.log))
    (none_tells v.executed (nowhere_none x v x.out may.out sound.out)) (none_tells v'.executed (nowhere_none x' v' x'.out at goes.out)) (ap (λ (y : HandleState). y.session) here) may.out (ap (id_ahead x'.handle) at) frames
starts_later TouchesMemory line call x x' v v' m more sound goes may way does frames = absurd does

-- ---- a lease

lent_silent : (o : Option Errno) (l : LogState) (line : ℕ) (call : Call) (leased : Leased) (log : LogState) → Leases o (with_line l) line call leased log → Silent l log
lent_silent (Some errno) l line call Answered log is = subst (Silent l) (sym is) (line_silent l line call (Refused errno) (answered_with (with_line l) line call (Refused errno) (with_line l).home) refl (λ s. refused_untold s call errno))
lent_silent (Some errno) l line call (LeaseOutOf lease) log leases = absurd leases
lent_silent (Some errno) l line call Idle log leases = absurd leases
lent_silent None l line call (LeaseOutOf lease) log leases = subst (Silent l) (sym leases.left) (silent_same l)
lent_silent None l line call Answered log leases = absurd leases
lent_silent None l line call Idle log leases = absurd leases

log_later : (x x' : Slice) (v v' : Inner) (m : Model) (more : List ℕ) (log : LogState) → IsSoundSlice x v → IsSoundSlice x' v' → x.out ≡ Nowhere → Silent x.handle.log log → x' ≡ record x { handle = record x.handle { log = log } } → v'.frames ≡ v.frames ++ more →
    LaterShare (share_of m x.handle v (id_ahead x.handle x.out)) (share_of m x'.handle v' (id_ahead x'.handle x'.out))
log_later x x' v v' m more log sound goes nowhere silent after frames =
    let at : x'.out ≡ Nowhere = ap (λ (y : Slice). y.out) after ∙ nowhere in
    let here : x'.handle ≡ record x.handle { log = log } = ap (λ (y : Slice). y.handle) after in
    silent_later x x' v v' m more (subst (Silent x.handle.log) (sym (ap (λ (y : HandleState). y.log) here)) silent)
    (none_tells v.executed (nowhere_none x v x.out nowhere sound.out)) (none_tells v'.executed (nowhere_none x' v' x'.out at goes.out)) (ap (λ (y : HandleState). y.session) here) nowhere (ap (id_ahead x'.handle) at) frames

-- ---- a reply

resting_silent : (h : HandleState) (d : Delivery) → h.stage ≡ AtRest → Silent h.log (delivered h d.msg d.held).log
resting_silent h d rests =
    let stepped : LogState = with_steps h.log (made_by (state_of h.log).model d.msg) in
    let logged : HandleState = record h { log = with_given stepped d.held } in
    silent_then h.log stepped (awoken h.stage logged).log (steps_silent h.log (made_by (state_of h.log).model d.msg) (made_tells (state_of h.log).model d.msg))
    (silent_then stepped logged.log (awoken h.stage logged).log (given_silent stepped d.held) (awoken_silent h.stage logged (λ line call is. absurd (apart line call (sym rests ∙ is)))))
  where
    apart : (line : ℕ) (call : Call) → AtRest ≡ Waiting line call → ⊥
    apart line call is = cc

resting_rests : (h : HandleState) (d : Delivery) → h.stage ≡ AtRest → (delivered h d.msg d.held).stage ≡ AtRest
resting_rests h d rests = ap (λ t. (awoken t (record h { log = with_given (with_steps h.log (made_by (state_of h.log).model d.msg)) d.held })).stage) rests ∙ rests

all_silent : (h : HandleState) (ds : List Delivery) → h.stage ≡ AtRest → Silent h.log (all_delivered h ds).log
all_silent h [] rests = silent_same h.log
all_silent h (d ∷ ds) rests =
    silent_then h.log (delivered h d.msg d.held).log (all_delivered (delivered h d.msg d.held) ds).log (resting_silent h d rests) (all_silent (delivered h d.msg d.held) ds (resting_rests h d rests))

all_session : (h : HandleState) (ds : List Delivery) → (all_delivered h ds).session ≡ h.session
all_session h [] = refl
all_session h (d ∷ ds) = all_session (delivered h d.msg d.held) ds ∙ delivered_session h d.msg d.held

collect_later : (x x' : Slice) (v v' : Inner) (m : Model) (more : List ℕ) → IsSoundSlice x v → IsSoundSlice x' v' → Collects x x' → v'.frames ≡ v.frames ++ more →
    LaterShare (share_of m x.handle v (id_ahead x.handle x.out)) (share_of m x'.handle v' (id_ahead x'.handle x'.out))
collect_later x x' v v' m more sound goes (line, call, c, r, reply, under, at, command, events, may, answer, after) frames =
    let response : Response = response_of c r.reply.bytes in
    let read : IsRead x v line call r reply response = collected x v line call c r reply sound under at command events may answer in
    let logged : HandleState = with_reply x.handle line call reply response r.held in
    let here : x'.handle ≡ all_delivered logged x.held = ap (λ (y : Slice). y.handle) after in
    let out : x'.out ≡ Nowhere = ap (λ (y : Slice). y.out) after in
    let silent : Silent logged.log x'.handle.log = subst (Silent logged.log) (sym (ap (λ (y : HandleState). y.log) here)) (all_silent logged x.held refl) in
    let none : v'.executed ≡ None = nowhere_none x' v' x'.out out goes.out in
    record {
      mappings = silent_mappings m logged.log x'.handle.log None v'.executed silent tt (none_tells v'.executed none)
          ∙ (ap (mappings_from (opening m)) (append-nil logged.log.entries) ∙ ap (λ e. mappings_of m x.handle.log.entries e) (sym read.executed));
      id = λ i is. ap (id_ahead x'.handle) out ∙ (ap (λ (y : HandleState). y.session) here ∙ (all_session logged x.held ∙ (read.ids ∙ is)));
      more = more;
      frames = frames;
    }

-- ---- an event

take_later : (b : Bool) (d : Delivery) (ds : List Delivery) (x x' : Slice) (v v' : Inner) (m : Model) (more : List ℕ) → IsSoundSlice x v → IsSoundSlice x' v' → holds_back x.handle.stage ≡ b → x' ≡ taken b d ds x → v'.frames ≡ v.frames ++ more →
    LaterShare (share_of m x.handle v (id_ahead x.handle x.out)) (share_of m x'.handle v' (id_ahead x'.handle x'.out))
take_later true d ds x x' v v' m more sound goes holds after frames = stays_later x x' v v' m more sound goes (ap (λ (y : Slice). y.handle) after) (ap (λ (y : Slice). y.out) after) frames
take_later false d ds x x' v v' m more sound goes free after frames =
    let here : x'.handle ≡ delivered x.handle d.msg d.held = ap (λ (y : Slice). y.handle) after in
    let out : x'.out ≡ x.out = ap (λ (y : Slice). y.out) after in
    let free_then : holds_back x'.handle.stage ≡ false = ap (λ (y : HandleState). holds_back y.stage) here ∙ delivered_free x.handle d.msg d.held free in
    record {
      mappings = silent_mappings m x.handle.log x'.handle.log v.executed v'.executed (subst (Silent x.handle.log) (sym (ap (λ (y : HandleState). y.log) here)) (delivered_silent x.handle d.msg d.held sound.handle))
          (free_tells x v x.out free sound.out) (free_tells x' v' x'.out free_then goes.out);
      id = λ i is. (λ j. id_ahead (here j) (out j)) ∙ (delivered_ahead x.handle d.msg d.held x.out ∙ is);
      more = more;
      frames = frames;
    }

-- ---- each step but the device's

pub step_later : (s : Step) (x x' : Slice) (v v' : Inner) (m : Model) (more : List ℕ) → does_command s ≡ false → IsSoundSlice x v → IsSoundSlice x' v' → SliceDoes s x x' → v'.frames ≡ v.frames ++ more →
    LaterShare (share_of m x.handle v (id_ahead x.handle x.out)) (share_of m x'.handle v' (id_ahead x'.handle x'.out))
step_later (Issue n) x x' v v' m more plain sound goes (line, call, may, words, first, starts) frames = starts_later (way_from x.handle call) line call x x' v v' m more sound goes may refl starts frames
step_later Execute x x' v v' m more plain sound goes does frames = absurd (true≢false plain)
step_later (Resume session) x x' v v' m more plain sound goes does frames = absurd (true≢false plain)
step_later (Begin session) x x' v v' m more plain sound goes (s, number, job, there, kept, can, next, after) frames =
    stays_later x x' v v' m more sound goes (ap (λ (y : Slice). y.handle) after) (ap (λ (y : Slice). y.out) after) frames
step_later (Finish number) x x' v v' m more plain sound goes (s, job, done, there, is, back, picture, after) frames =
    stays_later x x' v v' m more sound goes (ap (λ (y : Slice). y.handle) after) (ap (λ (y : Slice). y.out) after) frames
step_later Announce x x' v v' m more plain sound goes (s, msg, held, there, oldest, after) frames =
    stays_later x x' v v' m more sound goes (ap (λ (y : Slice). y.handle) after) (ap (λ (y : Slice). y.out) after) frames
step_later Collect x x' v v' m more plain sound goes does frames = collect_later x x' v v' m more sound goes does frames
step_later Pump x x' v v' m more plain sound goes (d, ds, first, after) frames = take_later (holds_back x.handle.stage) d ds x x' v v' m more sound goes refl after frames
step_later (Lease n) x x' v v' m more plain sound goes (line, call, leased, log, may, leases, after) frames =
    log_later x x' v v' m more log sound goes may.out (lent_silent (first_refusal (row_from x.handle.log line call).refusals) x.handle.log line call leased log leases) after frames
step_later (GiveBack n) x x' v v' m more plain sound goes (entry, lease, lent, back, after) frames =
    let rest : (x.handle.stage ≡ AtRest) × (touches_bytes entry.call ≡ true) = lent_rests (id_of x.handle.session) (driver_state x) x.handle.log.away x.handle.log.unanswered x.handle.stage entry lent sound.handle.fits in
    let at : x.out ≡ Nowhere = rests_nowhere x v x.out rest.0 sound.out in
    let none : tells lease.call ≡ false = ap tells back.call ∙ tells_touch entry.call rest.1 in
    log_later x x' v v' m more (given_back x.handle.log lease) sound goes at (line_silent x.handle.log lease.line lease.call lease.reply (given_back x.handle.log lease) refl (λ s. untold s lease.call lease.reply none)) after frames
