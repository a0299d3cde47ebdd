-- Frames are made by a reqbufs alone, where the device does it.
use Rattle.std.proofs.Common.{◌≡◌, ◌⊎◌, inl, inr, ℕ, zero, suc, Bool, true, false, List, [], ◌∷◌, ◌++◌, Option, Some, None, is_some, length, replicate, get_or, append_assoc, refl, sym, ap, ◌∙◌, subst}
use Rattle.std.specs.Prelude.{slice_get}
use Rattle.std.specs.Option.{option_and_then}
use Rattle.std.proofs.lemmas.Bool.{false≢true, true≢false, cases_Bool, cases_eq, not-false}
use Rattle.std.proofs.lemmas.List.{append-nil}
use Rattle.std.proofs.lemmas.List.Elements.{All-append, All-cons, All-nil, All-head, All-tail}
use Rattle.std.proofs.lemmas.Option.{none-some, same_Some}
use Rattle.v4l_rules.specs.Refusals.{first_refusal}
use Rattle.vm_frame.specs.declared.mem.Held.{Held}
use Rattle.vm_local.specs.declared.call.Call.{Call}
use Rattle.vm_local.specs.declared.call.Call.TheVariants.{ReqBufs}
use Rattle.vm_local.specs.declared.entry.Entry.{Entry}
use Rattle.vm_local.specs.declared.entry.Entry.TheVariants.{Called, Give}
use Rattle.vm_local.specs.declared.reply.Reply.{Reply}
use Rattle.vm_local.specs.State.{LocalState}
use Rattle.vm_local.specs.Live.{is_of_device}
use Rattle.vm_local.specs.Log.{row_for, called, after, replay_from, IsLegal}
use Rattle.vm_local.specs.Same.{address_in}
use Rattle.vm_commute.specs.Commute.{is_step, AreSteps}
use Rattle.vm_home.specs.Moves.{is_refusal, is_stopping}
use Rattle.vm_home.specs.Reached.{IsReached}
use Rattle.vm_home.proofs.FactLemmas.{reached_after}
use Rattle.vm_home.proofs.MoveLemmas.{Went, went}
use Rattle.vm_log.specs.LegalLog.{LogState, state_of, with_entry}
use Rattle.vm_wire.specs.declared.delivery.Delivery.{Delivery}
use Rattle.vm_wire.specs.Message.{Posting, Returning}
use Rattle.vm_wire.specs.declared.command.Command.{Command}
use Rattle.vm_wire.specs.Wire.{response_of}
use Rattle.vm_exchange.specs.declared.way.Way.{Way}
use Rattle.vm_exchange.specs.declared.way.Way.TheVariants.{Crosses, AnsweredHere, Waits, TouchesMemory}
use Rattle.vm_exchange.specs.Messages.{made_by}
use Rattle.vm_handle.specs.Answers.{row_from, awoken, with_steps, with_given, with_reply, delivered}
use Rattle.vm_handle.specs.Handle.{HandleState, FitsStage, Keeps, way_from, id_of, is_dqbuf}
use Rattle.vm_handle.specs.declared.stage.Stage.TheVariants.{AtRest, Underway, Waiting}
use Rattle.vm_device.specs.Device.{DeviceState}
use Rattle.vm_device.specs.Perform.{must_wait}
use Rattle.vm_handle.proofs.StageLemmas.{waits_only}
use Rattle.vm_stands.proofs.FlightLemmas.{made_steps}
use Rattle.vm_stands.proofs.AheadLemmas.{one_after}
use Rattle.vm_stands.specs.Slice.{LeadWith}
use Rattle.vm_guest.specs.Guest.{handle_named, no_process}
use Rattle.vm_guest.specs.Process.{ProcessState, handle_at, no_handle}
use Rattle.vm_realm.specs.declared.step.Step.{Step}
use Rattle.vm_realm.specs.declared.step.Step.TheVariants.{Issue, Execute, Resume, Begin, Finish, Announce, Collect, Pump, Lease, GiveBack}
use Rattle.vm_realm.specs.World.{WorldState}
use Rattle.vm_realm.specs.Inner.{Inner, driver_state, under_way}
use Rattle.vm_realm.specs.Laws.{FramesAreMade, does_command}
use Rattle.vm_realm.specs.Slice.{Slice, Out, slice_at}
use Rattle.vm_realm.specs.Slice.Out.{Nowhere, Asked, Kept, Told, Astray}
use Rattle.vm_realm.specs.SliceSteps.{SliceDoes, all_delivered, StartsBy, MayStart, holds_back, taken, takes_all, TakesNone, IsServed, IsServedUnless, told_by}
use Rattle.vm_realm.specs.Sound.{IsSoundSlice, IsOut, IsTold, IsSound, IsHandle, IsWhole, inner_at}
use Rattle.vm_realm.specs.Steps.{Steps, Leads}
use Rattle.vm_realm.proofs.KeepCollectLemmas.{IsRead, collected, told_is}
use Rattle.vm_realm.proofs.KeepLendLemmas.{lent_rests, rests_nowhere}
use Rattle.vm_realm.proofs.LiftLemmas.{handles_stay}
use Rattle.vm_realm.proofs.LiftNextLemmas.{Lifts, lift_next, same_driver}
use Rattle.vm_realm.proofs.PumpingLemmas.{taking_is_pumping}
use Rattle.vm_realm.proofs.PumpLiftLemmas.{pump_keeps}
use Rattle.vm_realm.proofs.WholeNextLemmas.{whole_next}
use Rattle.vm_realm.proofs.PlaceLogLemmas.{asks_frames, frameless_makes, refused_same, Adds, adds_none, adds_leads, adds_makes, delivered_adds, all_add, here_adds, sent_adds, lent_adds, touches_asks}
use Rattle.vm_realm.proofs.PlaceMadeLemmas.{SameMade, steps_made, device_alike, messages_made, behind, row_frames, same_log, TellsFrames, TellsFrom, tells_frames, stopping_from, refused_alike}
use Rattle.vm_realm.proofs.PlaceOnceLemmas.{is_ahead, Executed, executed_is, Stopped, stopped_is}

abbrev HasFrame : LocalState → ℕ → Type 0
HasFrame s m = is_of_device s m ≡ true

-- a reqbufs was done, and its reply isn't collected
abbrev pub Made : Step → Inner → Type 0
Made s v =
    (line : ℕ) × (t : ℕ) × (k : ℕ) × (count : ℕ) × (reply : Reply) × (does_command s ≡ true)
    × (v.executed ≡ Some (Called line (ReqBufs t k count) reply))

reached_in : (x : Slice) (v : Inner) → IsSoundSlice x v → IsReached (driver_state x)
reached_in x v sound = (is_ahead x v sound).reached

-- ---- where nothing is executed

log_frames : (x x' : Slice) (v v' : Inner) (m : ℕ) → IsSoundSlice x v → IsSoundSlice x' v' → v.executed ≡ None → v'.executed ≡ None → Adds x.handle.log x'.handle.log → HasFrame v'.ahead m → HasFrame v.ahead m
log_frames x x' v v' m sound goes none none_then adds has =
    same_log x v m sound none ∙ adds_makes x.handle.log x'.handle.log m (reached_in x v sound) sound.log.legal goes.log.legal adds (sym (same_log x' v' m goes none_then) ∙ has)

pub nowhere_none : (x : Slice) (v : Inner) → x.out ≡ Nowhere → IsSoundSlice x v → v.executed ≡ None
nowhere_none x v at sound = (subst (λ o. IsOut o x v) at sound.out).0.executed

pub asked_none : (x : Slice) (v : Inner) (p : Posting) → x.out ≡ Asked p → IsSoundSlice x v → v.executed ≡ None
asked_none x v p at sound = (subst (λ o. IsOut o x v) at sound.out).0.executed

pub kept_none : (x : Slice) (v : Inner) (p : Posting) → x.out ≡ Kept p → IsSoundSlice x v → v.executed ≡ None
kept_none x v p at sound = (subst (λ o. IsOut o x v) at sound.out).0.executed

-- ---- where a reply is under way

pub call_same : (line other : ℕ) (call called : Call) → Underway line call ≡ Underway other called → call ≡ called
call_same line other call called same = cc

-- that of one call, in two slices whose logs have the same frames
told_frames : (x x' : Slice) (v v' : Inner) (r : Returning) (m : ℕ) (t : IsTold x v r) (t' : IsTold x' v' r) → IsSoundSlice x v → IsSoundSlice x' v' → x'.handle.stage ≡ x.handle.stage →
    TellsFrom x' v' (driver_state x) t'.call t'.reply m → HasFrame v'.ahead m → HasFrame v.ahead m
told_frames x x' v v' r m t t' sound goes stage from has =
    let same : t'.call ≡ t.call = call_same t'.line t.line t'.call t.call (sym t'.underway ∙ (stage ∙ t.underway)) in
    let alike : is_refusal t.reply ≡ is_refusal t'.reply = refused_alike x x' v v' r t t' in
    let tells : TellsFrames x v t.call t.reply m = tells_frames x v r t m sound in
    elim (cases_Bool (is_refusal t'.reply)) as (λ _. HasFrame v.ahead m) [
      | inl refused ↦ tells.refused (alike ∙ refused) ∙ (sym (from.refused refused) ∙ has)
      | inr answers ↦ tells.done (alike ∙ answers) ∙ (ap (λ c. is_of_device (behind (driver_state x) c) m) (sym same) ∙ (sym (from.done answers) ∙ has))
    ]

-- ---- where the handle and its call stay

pub stays_frames : (x x' : Slice) (v v' : Inner) (m : ℕ) → IsSoundSlice x v → IsSoundSlice x' v' → x'.handle ≡ x.handle → x'.out ≡ x.out → HasFrame v'.ahead m → HasFrame v.ahead m
stays_frames x x' v v' m sound goes handle out has = by_out x.out refl
  where
    adds : Adds x.handle.log x'.handle.log
    adds = subst (λ (h : HandleState). Adds x.handle.log h.log) (sym handle) (adds_none x.handle.log)

    by_out : (o : Out) → x.out ≡ o → HasFrame v.ahead m
    by_out Nowhere at = log_frames x x' v v' m sound goes (nowhere_none x v at sound) (nowhere_none x' v' (out ∙ at) goes) adds has
    by_out (Asked p) at = log_frames x x' v v' m sound goes (asked_none x v p at sound) (asked_none x' v' p (out ∙ at) goes) adds has
    by_out (Kept p) at = log_frames x x' v v' m sound goes (kept_none x v p at sound) (kept_none x' v' p (out ∙ at) goes) adds has
    by_out (Told r) at =
        let t : IsTold x v r = told_is x v x.out r at sound.out in
        let t' : IsTold x' v' r = told_is x' v' x'.out r (out ∙ at) goes.out in
        let tells : TellsFrames x' v' t'.call t'.reply m = tells_frames x' v' r t' m goes in
        let same : driver_state x' ≡ driver_state x = ap (λ (h : HandleState). state_of h.log) handle in
        told_frames x x' v v' r m t t' sound goes (ap (λ (h : HandleState). h.stage) handle) (record {
          refused = λ refused. tells.refused refused ∙ ap (λ (s : LocalState). is_of_device s m) same;
          done = λ answers. tells.done answers ∙ ap (λ (s : LocalState). is_of_device (behind s t'.call) m) same;
        }) has
    by_out Astray at = absurd (subst (λ o. IsOut o x v) at sound.out)

-- ---- an event

abbrev pub AddsSteps : LogState → LogState → Type 0
AddsSteps l l' = (more : List Entry) × (l'.entries ≡ l.entries ++ more) × (l'.model ≡ l.model) × AreSteps more

one_step : (e : Entry) → is_step e ≡ true → AreSteps (e ∷ [])
one_step e is = All-cons (λ x. is_step x ≡ true) e [] is (All-nil (λ x. is_step x ≡ true))

pub add_steps : (l : LogState) (es : List Entry) → AreSteps es → AddsSteps l (with_steps l es)
add_steps l [] are = ([], sym (append-nil l.entries), refl, are)
add_steps l (e ∷ es) are =
    let P : Entry → Type 0 = λ x. is_step x ≡ true in
    let rest : AddsSteps (with_entry l e l.home) (with_steps (with_entry l e l.home) es) = add_steps (with_entry l e l.home) es (All-tail P e es are) in
    (e ∷ rest.0, rest.1 ∙ append_assoc l.entries (e ∷ []) rest.0, rest.2, All-cons P e rest.0 (All-head P e es are) rest.3)

pub given_step : (l k : LogState) (held : Option Held) → AddsSteps l k → AddsSteps l (with_given k held)
given_step l k None adds =
    (adds.0 ++ Give ∷ [], ap (λ es. es ++ Give ∷ []) adds.1 ∙ append_assoc l.entries adds.0 (Give ∷ []), adds.2, All-append (λ x. is_step x ≡ true) adds.0 (Give ∷ []) adds.3 (one_step Give refl))
given_step l k (Some h) adds =
    (adds.0 ++ Give ∷ [], ap (λ es. es ++ Give ∷ []) adds.1 ∙ append_assoc l.entries adds.0 (Give ∷ []), adds.2, All-append (λ x. is_step x ≡ true) adds.0 (Give ∷ []) adds.3 (one_step Give refl))

underway_steps : (h : HandleState) (line : ℕ) (call : Call) (d : Delivery) → h.stage ≡ Underway line call → AddsSteps h.log (delivered h d.msg d.held).log × ((delivered h d.msg d.held).stage ≡ h.stage)
underway_steps h line call d under =
    let stepped : LogState = with_steps h.log (made_by (state_of h.log).model d.msg) in
    let logged : HandleState = record h { log = with_given stepped d.held } in
    let same : awoken h.stage logged ≡ logged = ap (λ t. awoken t logged) under in (
      subst (λ (k : HandleState). AddsSteps h.log k.log) (sym same) (given_step h.log stepped d.held (add_steps h.log (made_by (state_of h.log).model d.msg) (made_steps (state_of h.log).model d.msg))),
      ap (λ (k : HandleState). k.stage) same,
    )

waits_dqbuf : (h : HandleState) (line : ℕ) (call : Call) → Keeps h.log h.session h.stage → h.stage ≡ Waiting line call → is_dqbuf call ≡ true
waits_dqbuf h line call keeps is =
    waits_only (id_of h.session) (state_of h.log) call (subst (λ t. FitsStage (id_of h.session) (state_of h.log) h.log.away h.log.unanswered t) is keeps.fits).2

take_frames : (b : Bool) (x x' : Slice) (v v' : Inner) (d : Delivery) (ds : List Delivery) (m : ℕ) → holds_back x.handle.stage ≡ b → x' ≡ taken b d ds x → IsSoundSlice x v → IsSoundSlice x' v' → HasFrame v'.ahead m → HasFrame v.ahead m
take_frames true x x' v v' d ds m holds after sound goes has = stays_frames x x' v v' m sound goes (ap (λ (y : Slice). y.handle) after) (ap (λ (y : Slice). y.out) after) has
take_frames false x x' v v' d ds m free after sound goes has = by_out x.out refl
  where
    handle : x'.handle ≡ delivered x.handle d.msg d.held
    handle = ap (λ (y : Slice). y.handle) after

    out : x'.out ≡ x.out
    out = ap (λ (y : Slice). y.out) after

    adds : Adds x.handle.log x'.handle.log
    adds = subst (λ (h : HandleState). Adds x.handle.log h.log) (sym handle) (delivered_adds x.handle d.msg d.held (λ line call is. waits_dqbuf x.handle line call sound.handle is))

    by_out : (o : Out) → x.out ≡ o → HasFrame v.ahead m
    by_out Nowhere at = log_frames x x' v v' m sound goes (nowhere_none x v at sound) (nowhere_none x' v' (out ∙ at) goes) adds has
    by_out (Asked p) at = log_frames x x' v v' m sound goes (asked_none x v p at sound) (asked_none x' v' p (out ∙ at) goes) adds has
    by_out (Kept p) at = log_frames x x' v v' m sound goes (kept_none x v p at sound) (kept_none x' v' p (out ∙ at) goes) adds has
    by_out (Told r) at =
        let t : IsTold x v r = told_is x v x.out r at sound.out in
        let t' : IsTold x' v' r = told_is x' v' x'.out r (out ∙ at) goes.out in
        let steps : _ = underway_steps x.handle t.line t.call d t.underway in
        let more : AddsSteps x.handle.log x'.handle.log = subst (λ (h : HandleState). AddsSteps x.handle.log h.log) (sym handle) steps.0 in
        let stage : x'.handle.stage ≡ x.handle.stage = ap (λ (h : HandleState). h.stage) handle ∙ steps.1 in
        let stops : is_stopping t'.call ≡ true = not-false (is_stopping t'.call) (sym (ap holds_back (sym stage ∙ t'.underway)) ∙ free) in
        let reached : IsReached (driver_state x) = reached_in x v sound in
        let made : SameMade (driver_state x) (driver_state x') =
        steps_made more.0 (driver_state x) (driver_state x') more.3 reached (adds_leads x.handle.log x'.handle.log more.0 sound.log.legal goes.log.legal more.1 more.2) in
        told_frames x x' v v' r m t t' sound goes stage (stopping_from x' v' r t' (driver_state x) m made reached goes stops) has
    by_out Astray at = absurd (subst (λ o. IsOut o x v) at sound.out)

-- ---- a reply is collected

one_entry : (s t : LocalState) (e : Entry) → replay_from s (e ∷ []) ≡ Some t → after s e ≡ Some t
one_entry s t e leads = one_after s t e leads

entry_call : (l k : ℕ) (a b : Call) (p q : Reply) → Called l a p ≡ Called k b q → a ≡ b
entry_call l k a b p q same = cc

entry_reply : (l k : ℕ) (a b : Call) (p q : Reply) → Called l a p ≡ Called k b q → p ≡ q
entry_reply l k a b p q same = cc

pub entry_same : (l k : ℕ) (a b : Call) (p q : Reply) → Called l a p ≡ Called k b q → (a ≡ b) × (p ≡ q)
entry_same l k a b p q same = (entry_call l k a b p q same, entry_reply l k a b p q same)

collect_frames : (x x' : Slice) (v v' : Inner) (m : ℕ) → IsSoundSlice x v → IsSoundSlice x' v' → SliceDoes Collect x x' → HasFrame v'.ahead m → HasFrame v.ahead m
collect_frames x x' v v' m sound goes (line, call, c, r, reply, under, at, command, events, may, answer, after_it) has =
    let read : IsRead x v line call r reply (response_of c r.reply.bytes) = collected x v line call c r reply sound under at command events may answer in
    let logged : HandleState = with_reply x.handle line call reply (response_of c r.reply.bytes) r.held in
    let here : x'.handle ≡ all_delivered logged x.held = ap (λ (y : Slice). y.handle) after_it in
    let out : x'.out ≡ Nowhere = ap (λ (y : Slice). y.out) after_it in
    let legal : IsLegal logged.log.model logged.log.entries = read.log_sound.legal in
    let u : LocalState = state_of logged.log in
    let s : LocalState = driver_state x in
    let leads : called s line call reply ≡ Some u = one_after s u (Called line call reply) (adds_leads x.handle.log logged.log (Called line call reply ∷ []) sound.log.legal legal refl refl) in
    let reached : IsReached u = reached_after s u (Called line call reply) (reached_in x v sound) leads in
    let behind_it : HasFrame u m =
    adds_makes logged.log x'.handle.log m reached legal goes.log.legal (subst (λ (h : HandleState). Adds logged.log h.log) (sym here) (all_add logged x.held refl))
    (sym (same_log x' v' m goes (nowhere_none x' v' out goes)) ∙ has) in
    let t : IsTold x v r = told_is x v x.out r at sound.out in
    let same : (t.call ≡ call) × (t.reply ≡ reply) = entry_same t.line line t.call call t.reply reply (same_Some _ _ (sym t.executed ∙ read.executed)) in
    let tells : TellsFrames x v t.call t.reply m = tells_frames x v r t m sound in
    elim (cases_Bool (is_refusal reply)) as (λ _. HasFrame v.ahead m) [
      | inl refused ↦ tells.refused (ap is_refusal same.1 ∙ refused) ∙ subst (λ (k : LocalState). HasFrame k m) (refused_same s u line call reply refused leads) behind_it
      | inr answers ↦
          let w : Went (row_for s line call reply) reply u = went s line call reply u answers leads in
          tells.done (ap is_refusal same.1 ∙ answers)
          ∙ (ap (λ k. is_of_device (behind s k) m) same.0 ∙ (sym (row_frames s line (address_in reply) call m) ∙ subst (λ (k : LocalState). HasFrame k m) w.next behind_it))
    ]

-- ---- the device does a command

-- one that isn't a reqbufs makes none
tells_none : (x : Slice) (v : Inner) (r : Returning) (t : IsTold x v r) (m : ℕ) → IsSoundSlice x v → asks_frames t.call ≡ false → HasFrame v.ahead m → HasFrame (driver_state x) m
tells_none x v r t m sound plain has = elim (cases_Bool (is_stopping t.call)) as (λ _. HasFrame (driver_state x) m) [
  | inl stopping ↦
      let is : Stopped x v r t = stopped_is x v r t sound stopping in
      sym (device_alike (driver_state x) v.before m (messages_made is.id (driver_state x) v.before (under_way x) is.reached is.leads).alike)
      ∙ frameless_makes v.before v.ahead (Called t.line t.call t.reply) m is.before (inr plain) is.last has
  | inr goes ↦
      let s : LocalState = driver_state x in
      let e : Executed x v r t = executed_is x v r t sound in
      let leads : LeadWith false e.ahead.id s (Called t.line t.call t.reply) (under_way x) v.ahead =
      subst (λ b. LeadWith b e.ahead.id s (Called t.line t.call t.reply) (under_way x) v.ahead) goes e.leads in
      let between : IsReached leads.0 = reached_after s leads.0 (Called t.line t.call t.reply) e.ahead.reached leads.1 in
      frameless_makes s leads.0 (Called t.line t.call t.reply) m e.ahead.reached (inr plain) leads.1
      (sym (device_alike leads.0 v.ahead m (messages_made e.ahead.id leads.0 v.ahead (under_way x) between leads.2).alike) ∙ has)
]

asks_is : (line : ℕ) (call : Call) (reply : Reply) (s : Step) (v : Inner) → does_command s ≡ true → v.executed ≡ Some (Called line call reply) → asks_frames call ≡ true → Made s v
asks_is line (ReqBufs u k n) reply s v does executed asks = (line, u, k, n, reply, does, executed)
asks_is line call reply s v does executed asks = absurd (false≢true asks)

served_frames : (s : Step) (x x' : Slice) (v v' : Inner) (p : Posting) (c : Command) (d : DeviceState) (m : ℕ) → does_command s ≡ true → IsSoundSlice x v → IsSoundSlice x' v' → v.executed ≡ None → IsServed p c d x x' → HasFrame v'.ahead m →
    HasFrame v.ahead m ⊎ Made s v'
served_frames s x x' v v' p c d m does sound goes none (a, performs, after_it) has =
    let out : x'.out ≡ Told (told_by p a) = ap (λ (y : Slice). y.out) after_it in
    let t : IsTold x' v' (told_by p a) = told_is x' v' x'.out (told_by p a) out goes.out in
    elim (cases_Bool (asks_frames t.call)) as (λ _. HasFrame v.ahead m ⊎ Made s v') [
      | inl asks ↦ inr (asks_is t.line t.call t.reply s v' does t.executed asks)
      | inr plain ↦
          let same : driver_state x' ≡ driver_state x = ap (λ (y : Slice). state_of y.handle.log) after_it in
          inl (same_log x v m sound none ∙ subst (λ (k : LocalState). HasFrame k m) same (tells_none x' v' (told_by p a) t m goes plain has))
    ]

execute_frames : (b : Bool) (x x' : Slice) (v v' : Inner) (p : Posting) (c : Command) (d : DeviceState) (m : ℕ) → IsSoundSlice x v → IsSoundSlice x' v' → v.executed ≡ None → IsServedUnless b p c d x x' → HasFrame v'.ahead m → HasFrame v.ahead m ⊎ Made Execute v'
execute_frames true x x' v v' p c d m sound goes none after_it has =
    let handle : x'.handle ≡ x.handle = ap (λ (y : Slice). y.handle) after_it in
    inl (log_frames x x' v v' m sound goes none (kept_none x' v' p (ap (λ (y : Slice). y.out) after_it) goes) (subst (λ (h : HandleState). Adds x.handle.log h.log) (sym handle) (adds_none x.handle.log)) has)
execute_frames false x x' v v' p c d m sound goes none serves has = served_frames Execute x x' v v' p c d m refl sound goes none serves has

-- ---- a line

starts_frames : (way : Way) (line : ℕ) (call : Call) (x x' : Slice) (v v' : Inner) (m : ℕ) → IsSoundSlice x v → IsSoundSlice x' v' → MayStart x → way_from x.handle call ≡ way → StartsBy way line call x x' → HasFrame v'.ahead m → HasFrame v.ahead m
starts_frames (Crosses c) line call x x' v v' m sound goes may way (along, handle, goes_out, after_it) has =
    let here : x'.handle ≡ record x.handle { log = goes_out.log; stage = Underway line call } = ap (λ (y : Slice). y.handle) after_it ∙ goes_out.after in
    log_frames x x' v v' m sound goes (nowhere_none x v may.out sound) (asked_none x' v' _ (ap (λ (y : Slice). y.out) after_it) goes)
    (subst (λ (h : HandleState). Adds x.handle.log h.log) (sym here) (sent_adds _ x.handle.log call along goes_out.log goes_out.sends)) has
starts_frames AnsweredHere line call x x' v v' m sound goes may way (handle, itself, after_it) has =
    let here : x'.handle ≡ record x.handle { log = itself.log } = ap (λ (y : Slice). y.handle) after_it ∙ itself.after in
    log_frames x x' v v' m sound goes (nowhere_none x v may.out sound) (nowhere_none x' v' (ap (λ (y : Slice). y.out) after_it ∙ may.out) goes)
    (subst (λ (h : HandleState). Adds x.handle.log h.log) (sym here) (here_adds x.handle line call itself.log way itself.answers)) has
starts_frames Waits line call x x' v v' m sound goes may way after_it has =
    log_frames x x' v v' m sound goes (nowhere_none x v may.out sound) (nowhere_none x' v' (ap (λ (y : Slice). y.out) after_it ∙ may.out) goes)
    (subst (λ (y : Slice). Adds x.handle.log y.handle.log) (sym after_it) ([], sym (append-nil x.handle.log.entries), refl, tt)) has
starts_frames TouchesMemory line call x x' v v' m sound goes may way does has = absurd does

-- ---- each step

pub slice_frames : (s : Step) (x x' : Slice) (v v' : Inner) (m : ℕ) → IsSoundSlice x v → IsSoundSlice x' v' → SliceDoes s x x' → HasFrame v'.ahead m → HasFrame v.ahead m ⊎ Made s v'
slice_frames (Issue n) x x' v v' m sound goes (line, call, may, words, first, starts) has = inl (starts_frames (way_from x.handle call) line call x x' v v' m sound goes may refl starts has)
slice_frames Execute x x' v v' m sound goes (p, c, d, at, asks, is, does) has = execute_frames (must_wait d c) x x' v v' p c d m sound goes (asked_none x v p at sound) does has
slice_frames (Resume session) x x' v v' m sound goes (p, c, d, at, asks, is, rest, does) has = served_frames (Resume session) x x' v v' p c d m refl sound goes (kept_none x v p at sound) does has
slice_frames (Begin session) x x' v v' m sound goes (k, number, job, there, kept, can, next, after_it) has = inl (stays_frames x x' v v' m sound goes (ap (λ (y : Slice). y.handle) after_it) (ap (λ (y : Slice). y.out) after_it) has)
slice_frames (Finish number) x x' v v' m sound goes (k, job, done, there, is, back, picture, after_it) has = inl (stays_frames x x' v v' m sound goes (ap (λ (y : Slice). y.handle) after_it) (ap (λ (y : Slice). y.out) after_it) has)
slice_frames Announce x x' v v' m sound goes (k, msg, held, there, oldest, after_it) has = inl (stays_frames x x' v v' m sound goes (ap (λ (y : Slice). y.handle) after_it) (ap (λ (y : Slice). y.out) after_it) has)
slice_frames Collect x x' v v' m sound goes does has = inl (collect_frames x x' v v' m sound goes does has)
slice_frames Pump x x' v v' m sound goes (d, ds, first, after_it) has = inl (take_frames (holds_back x.handle.stage) x x' v v' d ds m refl after_it sound goes has)
slice_frames (Lease n) x x' v v' m sound goes (line, call, leased, log, may, leases, after_it) has =
    inl (log_frames x x' v v' m sound goes (nowhere_none x v may.out sound) (nowhere_none x' v' (ap (λ (y : Slice). y.out) after_it ∙ may.out) goes)
    (subst (λ (y : Slice). Adds x.handle.log y.handle.log) (sym after_it) (lent_adds (first_refusal (row_from x.handle.log line call).refusals) x.handle.log line call leased log leases)) has)
slice_frames (GiveBack n) x x' v v' m sound goes (entry, lease, lent, back, after_it) has =
    let rest : _ = lent_rests (id_of x.handle.session) (driver_state x) x.handle.log.away x.handle.log.unanswered x.handle.stage entry lent sound.handle.fits in
    let at : x.out ≡ Nowhere = rests_nowhere x v x.out rest.0 sound.out in
    let none : asks_frames lease.call ≡ false = ap asks_frames back.call ∙ touches_asks entry.call rest.1 in
    inl (log_frames x x' v v' m sound goes (nowhere_none x v at sound) (nowhere_none x' v' (ap (λ (y : Slice). y.out) after_it ∙ at) goes)
    (subst (λ (y : Slice). Adds x.handle.log y.handle.log) (sym after_it) (Called lease.line lease.call lease.reply ∷ [], refl, refl, (inr none, tt))) has)

-- ---- the world

pub handle_next : (w u : WorldState) (s : Step) (n h : ℕ) → IsSound w → TakesNone w s → Steps w s u → IsHandle w n h → IsHandle u n h
handle_next w u s n h (rows, sound) none does named =
    handles_stay w.script u w (same_driver w u s does (whole_next w u s (rows, sound) none does)) sound.lines n h named

pub handle_before : (w u : WorldState) (s : Step) (n h : ℕ) → IsSound w → TakesNone w s → Steps w s u → IsHandle u n h → IsHandle w n h
handle_before w u s n h (rows, sound) none does named =
    handles_stay w.script w u sound.lines (same_driver w u s does (whole_next w u s (rows, sound) none does)) n h named

next_frames : (w u : WorldState) (s : Step) (n h m : ℕ) (v v' : Inner) → IsSound w → TakesNone w s → Steps w s u → IsHandle w n h → IsSoundSlice (slice_at w n h) v → IsSoundSlice (slice_at u n h) v' → HasFrame v'.ahead m → HasFrame v.ahead m ⊎ Made s v'
next_frames w u s n h m v v' (rows, sound) none does named before goes has = by_lift (lift_next w u rows s sound none does whole)
  where
    whole : IsWhole u
    whole = whole_next w u s (rows, sound) none does

    there : IsHandle u n h
    there = handle_next w u s n h (rows, sound) none does named

    same : slice_at u n h ≡ slice_at w n h → HasFrame v.ahead m ⊎ Made s v'
    same is = inl (stays_frames (slice_at w n h) (slice_at u n h) v v' m before goes (ap (λ (y : Slice). y.handle) is) (ap (λ (y : Slice). y.out) is) has)

    by_lift : Lifts s w u rows → HasFrame v.ahead m ⊎ Made s v'
    by_lift (inr stays) = same (stays.slices n h there)
    by_lift (inl moved) = elim (cases_eq n moved.process) as (λ _. HasFrame v.ahead m ⊎ Made s v') [
      | inr apart ↦ same (moved.others n h (λ both. apart both.0))
      | inl one ↦ elim (cases_eq h moved.handle) as (λ _. HasFrame v.ahead m ⊎ Made s v') [
        | inr apart ↦ same (moved.others n h (λ both. apart both.1))
        | inl two ↦
            let P : ℕ → ℕ → Type 0 = λ i k. SliceDoes s (slice_at w i k) (slice_at u i k) in
            slice_frames s (slice_at w n h) (slice_at u n h) v v' m before goes (subst (λ k. P n k) (sym two) (subst (λ i. P i moved.handle) (sym one) moved.does)) has
      ]
    ]

none_made : (v : Inner) → Made Pump v → ⊥
none_made v (line, t, k, count, reply, does, executed) = false≢true does

-- events that are taken first make none
pumps_frames : (k : ℕ) (w u : WorldState) (n h m : ℕ) (v v' : Inner) → IsSound w → Leads w (replicate k Pump) u → IsHandle w n h → IsSoundSlice (slice_at w n h) v → IsSoundSlice (slice_at u n h) v' → HasFrame v'.ahead m → HasFrame v.ahead m
pumps_frames zero w u n h m v v' sound is named before goes has =
    let same : slice_at u n h ≡ slice_at w n h = ap (λ (y : WorldState). slice_at y n h) is in
    stays_frames (slice_at w n h) (slice_at u n h) v v' m before goes (ap (λ (y : Slice). y.handle) same) (ap (λ (y : Slice). y.out) same) has
pumps_frames (suc k) w u n h m v v' sound (next, does, rest) named before goes has =
    let then_sound : IsSound next = pump_keeps w next sound does in
    let there : IsHandle next n h = handle_next w next Pump n h sound (inl refl) does named in
    let between : IsSoundSlice (slice_at next n h) (inner_at next then_sound.0 n h) = then_sound.1.slices n h there in
    let later : HasFrame (inner_at next then_sound.0 n h).ahead m = pumps_frames k next u n h m (inner_at next then_sound.0 n h) v' then_sound rest there between goes has in
    elim (next_frames w next Pump n h m v (inner_at next then_sound.0 n h) sound (inl refl) does named before between later) as (λ _. HasFrame v.ahead m) [
      | inl had ↦ had
      | inr made ↦ absurd (none_made (inner_at next then_sound.0 n h) made)
    ]

pumps_handle : (k : ℕ) (w u : WorldState) (n h : ℕ) → IsSound w → Leads w (replicate k Pump) u → IsHandle w n h → IsHandle u n h
pumps_handle zero w u n h sound is named = subst (λ (y : WorldState). IsHandle y n h) (sym is) named
pumps_handle (suc k) w u n h sound (next, does, rest) named = pumps_handle k next u n h (pump_keeps w next sound does) rest (handle_next w next Pump n h sound (inl refl) does named)

pumps_before : (k : ℕ) (w u : WorldState) (n h : ℕ) → IsSound w → Leads w (replicate k Pump) u → IsHandle u n h → IsHandle w n h
pumps_before zero w u n h sound is named = subst (λ (y : WorldState). IsHandle y n h) is named
pumps_before (suc k) w u n h sound (next, does, rest) named = handle_before w next Pump n h sound (inl refl) does (pumps_before k next u n h (pump_keeps w next sound does) rest named)

pumps_sound : (k : ℕ) (w u : WorldState) → IsSound w → Leads w (replicate k Pump) u → IsSound u
pumps_sound zero w u sound is = subst IsSound (sym is) sound
pumps_sound (suc k) w u sound (next, does, rest) = pumps_sound k next u (pump_keeps w next sound does) rest

-- each step takes no event first behind some events
pub record Behind (w w' : WorldState) (s : Step) : Type 0 where
  pub between : WorldState
  pub count : ℕ
  pub leads : Leads w (replicate count Pump) between
  pub sound : IsSound between
  pub none : TakesNone between s
  pub does : Steps between s w'

pub behind_events : (w w' : WorldState) (s : Step) → IsSound w → Steps w s w' → Behind w w' s
behind_events w w' s sound does = by_takes (takes_all w s) refl
  where
    by_takes : (b : Bool) → takes_all w s ≡ b → Behind w w' s
    by_takes false none = record { between = w; count = 0; leads = refl; sound = sound; none = inl none; does = does }
    by_takes true takes =
        let by : _ = taking_is_pumping w w' s takes does in
        record { between = by.0; count = length w.events; leads = by.1; sound = pumps_sound (length w.events) w by.0 sound by.1; none = inr by.2; does = by.3 }

-- ---- a place that has no handle of the script's

get_none : {A : Type 0} (xs : List A) (i : ℕ) (d : A) → slice_get xs i ≡ None → get_or xs i d ≡ d
get_none [] i d is = refl
get_none (x ∷ xs) zero d is = absurd (none-some x (sym is))
get_none (x ∷ xs) (suc i) d is = get_none xs i d is

get_some : {A : Type 0} (xs : List A) (i : ℕ) (d y : A) → slice_get xs i ≡ Some y → get_or xs i d ≡ y
get_some [] i d y is = absurd (none-some y is)
get_some (x ∷ xs) zero d y is = same_Some x y is
get_some (x ∷ xs) (suc i) d y is = get_some xs i d y is

pub unnamed_handle : (ps : List ProcessState) (n h : ℕ) → option_and_then (λ (p : ProcessState). slice_get p.handles h) (slice_get ps n) ≡ None → handle_at (get_or ps n no_process) h ≡ no_handle
unnamed_handle ps n h none = by_process (slice_get ps n) refl none
  where
    by_process : (o : Option ProcessState) → slice_get ps n ≡ o → option_and_then (λ (p : ProcessState). slice_get p.handles h) o ≡ None → handle_at (get_or ps n no_process) h ≡ no_handle
    by_process None is none = ap (λ (p : ProcessState). handle_at p h) (get_none ps n no_process is)
    by_process (Some p) is none = ap (λ (q : ProcessState). handle_at q h) (get_some ps n no_process p is) ∙ get_none p.handles h no_handle none

pub option_none : {A : Type 0} (o : Option A) → is_some o ≡ false → o ≡ None
option_none None not = refl
option_none (Some x) not = absurd (true≢false not)

pub rests_none : (x : Slice) (v : Inner) (o : Out) → x.handle.stage ≡ AtRest → IsOut o x v → v.executed ≡ None
rests_none x v Nowhere rests out = out.0.executed
rests_none x v (Asked p) rests out = out.0.executed
rests_none x v (Kept p) rests out = out.0.executed
rests_none x v (Told r) rests out = absurd (apart out.line out.call (sym rests ∙ out.underway))
  where
    apart : (line : ℕ) (call : Call) → AtRest ≡ Underway line call → ⊥
    apart line call is = cc
rests_none x v Astray rests out = absurd out

bare_frames : (x x' : Slice) (v v' : Inner) (m : ℕ) → IsSoundSlice x v → IsSoundSlice x' v' → x.handle ≡ no_handle → x'.handle ≡ no_handle → HasFrame v'.ahead m → HasFrame v.ahead m
bare_frames x x' v v' m sound goes bare bare_then has =
    log_frames x x' v v' m sound goes (rests_none x v x.out (ap (λ (h : HandleState). h.stage) bare) sound.out) (rests_none x' v' x'.out (ap (λ (h : HandleState). h.stage) bare_then) goes.out)
    (subst (λ (h : HandleState). Adds x.handle.log h.log) (bare ∙ sym bare_then) (adds_none x.handle.log)) has

-- ---- all

lost : (b : Bool) → b ≡ false → b ≡ true → ⊥
lost b not is = true≢false (sym is ∙ not)

pub frames_made : FramesAreMade
frames_made w w' s n h m v v' sound does before goes lacks has = by_name (is_some (handle_named w.guest n h)) refl
  where
    at : Behind w w' s
    at = behind_events w w' s sound does

    by_name : (b : Bool) → is_some (handle_named w.guest n h) ≡ b → Made s v'
    by_name true named =
        let there : IsHandle at.between n h = pumps_handle at.count w at.between n h sound at.leads named in
        let inner : Inner = inner_at at.between at.sound.0 n h in
        let between : IsSoundSlice (slice_at at.between n h) inner = at.sound.1.slices n h there in
        elim (next_frames at.between w' s n h m inner v' at.sound at.none at.does there between goes has) as (λ _. Made s v') [
          | inr made ↦ made
          | inl had ↦ absurd (lost (is_of_device v.ahead m) lacks (pumps_frames at.count w at.between n h m v inner sound at.leads named before between had))
        ]
    by_name false unnamed =
        let here : (slice_at w n h).handle ≡ no_handle = unnamed_handle w.guest.processes n h (option_none (handle_named w.guest n h) unnamed) in
        let gone : is_some (handle_named w'.guest n h) ≡ false = elim (cases_Bool (is_some (handle_named w'.guest n h))) as (λ _. is_some (handle_named w'.guest n h) ≡ false) [
          | inr not ↦ not
          | inl named ↦
              let back : IsHandle w n h = pumps_before at.count w at.between n h sound at.leads (handle_before at.between w' s n h at.sound at.none at.does named) in
              absurd (lost (is_some (handle_named w.guest n h)) unnamed back)
        ] in
        let there : (slice_at w' n h).handle ≡ no_handle = unnamed_handle w'.guest.processes n h (option_none (handle_named w'.guest n h) gone) in
        absurd (lost (is_of_device v.ahead m) lacks (bare_frames (slice_at w n h) (slice_at w' n h) v v' m before goes here there has))
