-- Where the memories are a slice alone says, whatever is behind it.
use Rattle.std.proofs.Common.{◌≡◌, inl, inr, ℕ, true, false, List, [], ◌∷◌, ◌++◌, Some, None, refl, sym, ap, ◌∙◌, subst}
use Rattle.std.specs.List.{filter_map}
use Rattle.std.proofs.lemmas.Bool.{cases_Bool}
use Rattle.vm_frame.specs.declared.mem.Held.{Held}
use Rattle.vm_local.specs.declared.call.Call.{Call}
use Rattle.vm_local.specs.declared.call.Call.TheVariants.{UAlloc, Mmap}
use Rattle.vm_local.specs.declared.entry.Entry.TheVariants.{Called}
use Rattle.vm_local.specs.declared.reply.Reply.{Reply}
use Rattle.vm_local.specs.State.{LocalState}
use Rattle.vm_local.specs.Calls.{row_of, ualloc_row, mmap_row}
use Rattle.vm_local.specs.Log.{row_for, called}
use Rattle.vm_local.specs.Same.{address_in}
use Rattle.vm_home.specs.Moves.{is_refusal, is_stopping, memory_at, stopped_count}
use Rattle.vm_home.proofs.FactLemmas.{reached_after}
use Rattle.vm_home.proofs.MoveLemmas.{Went, went}
use Rattle.vm_handle.specs.declared.stage.Stage.TheVariants.{Underway}
use Rattle.vm_wire.specs.declared.delivery.Delivery.{Delivery}
use Rattle.vm_wire.specs.Message.{Returning}
use Rattle.vm_session.specs.declared.unsent.Unsent.{Unsent}
use Rattle.vm_stands.specs.Slice.{LeadAhead, LeadWith}
use Rattle.vm_realm.specs.Inner.{Inner, driver_state, unsent_in, under_way}
use Rattle.vm_realm.specs.Places.{lie_at, with_driver, told_numbers, places_of, numbers_in, call_numbers, told_state, told_state_if, stops_last, queued_held, job_held}
use Rattle.vm_realm.specs.Places.Spot.{HeldBack, OnLink, InSession, InJob}
use Rattle.vm_realm.specs.Slice.{Slice, Out}
use Rattle.vm_realm.specs.Slice.Out.{Nowhere, Asked, Kept, Told, Astray}
use Rattle.vm_realm.specs.Sound.{IsSoundSlice, IsOut, IsTold}
use Rattle.vm_realm.proofs.KeepCollectLemmas.{told_is}
use Rattle.vm_realm.proofs.PlaceFramesLemmas.{nowhere_none, asked_none, kept_none}
use Rattle.vm_realm.proofs.PlaceLogLemmas.{refused_same}
use Rattle.vm_realm.proofs.PlaceMadeLemmas.{refused_alike}
use Rattle.vm_realm.proofs.PlaceMessageLemmas.{memory_stays}
use Rattle.vm_realm.proofs.PlaceOnceLemmas.{IsAhead, is_ahead, same_end, Executed, executed_is, Stopped, stopped_is, none_told, none_comes}

-- ---- states whose buffers have the same memories

abbrev pub SameMemories : LocalState → LocalState → Type 0
SameMemories s t = (u i : ℕ) → memory_at t u i ≡ memory_at s u i

pub same_numbers : (s t : LocalState) (hs : List Held) → SameMemories s t → numbers_in t hs ≡ numbers_in s hs
same_numbers s t [] same = refl
same_numbers s t (h ∷ hs) same = λ j. same h.queue h.index j ∷ same_numbers s t hs same j

pub states_same : (s t : LocalState) → t ≡ s → SameMemories s t
states_same s t same u i = ap (λ (x : LocalState). memory_at x u i) same

-- what two inners of a slice have to agree on
pub record Agree (x : Slice) (v v' : Inner) : Type 0 where
  pub calls : call_numbers x.out x.handle.log.away v' ≡ call_numbers x.out x.handle.log.away v
  pub told : SameMemories (told_state v) (told_state v')
  pub ahead : SameMemories v.ahead v'.ahead

pub places_same : (x : Slice) (v v' : Inner) → Agree x v v' → places_of x v' ≡ places_of x v
places_same x v v' agree = λ j.
    with_driver x
    ++ (lie_at OnLink (agree.calls j)
    ++ (lie_at HeldBack (same_numbers (told_state v) (told_state v') (filter_map (λ (d : Delivery). d.held) x.held) agree.told j)
    ++ (lie_at OnLink (same_numbers (told_state v) (told_state v') (filter_map (λ (d : Delivery). d.held) x.events) agree.told j)
    ++ (lie_at InSession (same_numbers (told_state v) (told_state v') (filter_map (λ (e : Unsent). e.held) (unsent_in x.session)) agree.told j)
    ++ (lie_at InSession (same_numbers v.ahead v'.ahead (queued_held x.session) agree.ahead j)
    ++ lie_at InJob (same_numbers v.ahead v'.ahead (job_held x.job) agree.ahead j))))))

-- ---- where nothing was executed

quiet_agree : (x : Slice) (v v' : Inner) → IsSoundSlice x v → IsSoundSlice x v' → v.executed ≡ None → v'.executed ≡ None → call_numbers x.out x.handle.log.away v' ≡ call_numbers x.out x.handle.log.away v → Agree x v v'
quiet_agree x v v' sound goes none none_then calls =
    let is : IsAhead x v = is_ahead x v sound in
    let is' : IsAhead x v' = is_ahead x v' goes in
    let same : v'.ahead ≡ v.ahead = same_end is'.id is.id (driver_state x) v'.ahead v.ahead (under_way x) (subst (λ e. LeadAhead is'.id (driver_state x) e (under_way x) v'.ahead) none_then is'.leads)
    (subst (λ e. LeadAhead is.id (driver_state x) e (under_way x) v.ahead) none is.leads) in
    let told : told_state v ≡ v.ahead = ap (λ e. told_state_if (stops_last e) v) none in
    let told_then : told_state v' ≡ v'.ahead = ap (λ e. told_state_if (stops_last e) v') none_then in
    record {
      calls = calls;
      told = states_same (told_state v) (told_state v') (told_then ∙ (same ∙ sym told));
      ahead = states_same v.ahead v'.ahead same;
    }

-- ---- where a call was executed

call_same : (line other : ℕ) (call called : Call) → Underway line call ≡ Underway other called → call ≡ called
call_same line other call called same = cc

row_memories : (s : LocalState) (line addr : ℕ) (call : Call) (u i : ℕ) → memory_at (row_of s line addr call).next u i ≡ memory_at (row_of s 0 0 call).next u i
unfolding ualloc_row mmap_row
row_memories s line addr (UAlloc name len off) u i = refl
row_memories s line addr (Mmap name t k ro) u i = refl
row_memories s line addr call u i = refl

-- one call, refused or done from one state, leads to states with the same memories
call_memories : (s a b : LocalState) (line other : ℕ) (call : Call) (p q : Reply) → is_refusal p ≡ is_refusal q → called s line call p ≡ Some a → called s other call q ≡ Some b → SameMemories a b
call_memories s a b line other call p q alike one two u i = elim (cases_Bool (is_refusal p)) as (λ _. memory_at b u i ≡ memory_at a u i) [
  | inl refused ↦ states_same a b (refused_same s b other call q (sym alike ∙ refused) two ∙ sym (refused_same s a line call p refused one)) u i
  | inr answers ↦
      let w : Went (row_for s line call p) p a = went s line call p a answers one in
      let k : Went (row_for s other call q) q b = went s other call q b (sym alike ∙ answers) two in
      states_same (row_for s other call q).next b k.next u i
      ∙ (row_memories s other (address_in q) call u i
      ∙ (sym (row_memories s line (address_in p) call u i) ∙ sym (states_same (row_for s line call p).next a w.next u i)))
]

going_agree : (x : Slice) (v v' : Inner) (r : Returning) (t : IsTold x v r) (t' : IsTold x v' r) → IsSoundSlice x v → IsSoundSlice x v' → x.out ≡ Told r → t'.call ≡ t.call → is_stopping t.call ≡ false → Agree x v v'
going_agree x v v' r t t' sound goes out same ends =
    let s : LocalState = driver_state x in
    let ends_then : is_stopping t'.call ≡ false = ap is_stopping same ∙ ends in
    let e : Executed x v r t = executed_is x v r t sound in
    let e' : Executed x v' r t' = executed_is x v' r t' goes in
    let leads : LeadWith false e.ahead.id s (Called t.line t.call t.reply) (under_way x) v.ahead =
    subst (λ b. LeadWith b e.ahead.id s (Called t.line t.call t.reply) (under_way x) v.ahead) ends e.leads in
    let leads' : LeadWith false e'.ahead.id s (Called t'.line t'.call t'.reply) (under_way x) v'.ahead =
    subst (λ b. LeadWith b e'.ahead.id s (Called t'.line t'.call t'.reply) (under_way x) v'.ahead) ends_then e'.leads in
    let between : SameMemories leads.0 leads'.0 =
    call_memories s leads.0 leads'.0 t.line t'.line t.call t.reply t'.reply (refused_alike x x v v' r t t') leads.1 (subst (λ c. called s t'.line c t'.reply ≡ Some leads'.0) same leads'.1) in
    let ahead : SameMemories v.ahead v'.ahead = λ u i.
    memory_stays e'.ahead.id leads'.0 v'.ahead u i (under_way x) (reached_after s leads'.0 (Called t'.line t'.call t'.reply) e'.ahead.reached leads'.1) leads'.2
    ∙ (between u i ∙ sym (memory_stays e.ahead.id leads.0 v.ahead u i (under_way x) (reached_after s leads.0 (Called t.line t.call t.reply) e.ahead.reached leads.1) leads.2)) in
    let told : told_state v ≡ v.ahead = e.told ∙ ap (λ b. told_state_if b v) ends in
    let told_then : told_state v' ≡ v'.ahead = e'.told ∙ ap (λ b. told_state_if b v') ends_then in
    let nothing : told_numbers (stopped_count v.before t.call) v.before r.held ≡ [] = none_told (stopped_count v.before t.call) v.before r.held (none_comes v.before t.next t.call t.reply r.held ends t.memories) in
    let nothing_then : told_numbers (stopped_count v'.before t'.call) v'.before r.held ≡ [] = none_told (stopped_count v'.before t'.call) v'.before r.held (none_comes v'.before t'.next t'.call t'.reply r.held ends_then t'.memories) in
    record {
      calls = ap (λ o. call_numbers o x.handle.log.away v') out ∙ (e'.calls ∙ (nothing_then ∙ (sym nothing ∙ (sym e.calls ∙ sym (ap (λ o. call_numbers o x.handle.log.away v) out)))));
      told = λ u i. states_same v'.ahead (told_state v') told_then u i ∙ (ahead u i ∙ sym (states_same v.ahead (told_state v) told u i));
      ahead = ahead;
    }

stopping_agree : (x : Slice) (v v' : Inner) (r : Returning) (t : IsTold x v r) (t' : IsTold x v' r) → IsSoundSlice x v → IsSoundSlice x v' → x.out ≡ Told r → t'.call ≡ t.call → is_stopping t.call ≡ true → Agree x v v'
stopping_agree x v v' r t t' sound goes out same stops =
    let s : LocalState = driver_state x in
    let stops_then : is_stopping t'.call ≡ true = ap is_stopping same ∙ stops in
    let e : Executed x v r t = executed_is x v r t sound in
    let e' : Executed x v' r t' = executed_is x v' r t' goes in
    let is : Stopped x v r t = stopped_is x v r t sound stops in
    let is' : Stopped x v' r t' = stopped_is x v' r t' goes stops_then in
    let before : v'.before ≡ v.before = same_end is'.id is.id s v'.before v.before (under_way x) is'.leads is.leads in
    let last : called v.before t'.line t.call t'.reply ≡ Some v'.ahead =
    subst (λ c. called v.before t'.line c t'.reply ≡ Some v'.ahead) same (subst (λ k. called k t'.line t'.call t'.reply ≡ Some v'.ahead) before is'.last) in
    let told : told_state v ≡ v.before = e.told ∙ ap (λ b. told_state_if b v) stops in
    let told_then : told_state v' ≡ v'.before = e'.told ∙ ap (λ b. told_state_if b v') stops_then in
    let numbers : told_numbers (stopped_count v'.before t'.call) v'.before r.held ≡ told_numbers (stopped_count v.before t.call) v.before r.held =
    λ j. told_numbers (stopped_count (before j) (same j)) (before j) r.held in
    record {
      calls = ap (λ o. call_numbers o x.handle.log.away v') out ∙ (e'.calls ∙ (numbers ∙ (sym e.calls ∙ sym (ap (λ o. call_numbers o x.handle.log.away v) out))));
      told = states_same (told_state v) (told_state v') (told_then ∙ (before ∙ sym told));
      ahead = call_memories v.before v.ahead v'.ahead t.line t'.line t.call t.reply t'.reply (refused_alike x x v v' r t t') is.last last;
    }

pub inners_agree : (x : Slice) (v v' : Inner) → IsSoundSlice x v → IsSoundSlice x v' → Agree x v v'
inners_agree x v v' sound goes = by_out x.out refl
  where
    by_out : (o : Out) → x.out ≡ o → Agree x v v'
    by_out Nowhere at = quiet_agree x v v' sound goes (nowhere_none x v at sound) (nowhere_none x v' at goes)
        (ap (λ o. call_numbers o x.handle.log.away v') at ∙ sym (ap (λ o. call_numbers o x.handle.log.away v) at))
    by_out (Asked p) at = quiet_agree x v v' sound goes (asked_none x v p at sound) (asked_none x v' p at goes)
        (ap (λ o. call_numbers o x.handle.log.away v') at ∙ sym (ap (λ o. call_numbers o x.handle.log.away v) at))
    by_out (Kept p) at = quiet_agree x v v' sound goes (kept_none x v p at sound) (kept_none x v' p at goes)
        (ap (λ o. call_numbers o x.handle.log.away v') at ∙ sym (ap (λ o. call_numbers o x.handle.log.away v) at))
    by_out (Told r) at =
        let t : IsTold x v r = told_is x v x.out r at sound.out in
        let t' : IsTold x v' r = told_is x v' x.out r at goes.out in
        let same : t'.call ≡ t.call = call_same t'.line t.line t'.call t.call (sym t'.underway ∙ t.underway) in
        elim (cases_Bool (is_stopping t.call)) as (λ _. Agree x v v') [
          | inl stops ↦ stopping_agree x v v' r t t' sound goes at same stops
          | inr ends ↦ going_agree x v v' r t t' sound goes at same ends
        ]
    by_out Astray at = absurd (subst (λ o. IsOut o x v) at sound.out)

-- two inners of one slice have the memories at the same places
pub places_alone : (x : Slice) (v v' : Inner) → IsSoundSlice x v → IsSoundSlice x v' → places_of x v' ≡ places_of x v
places_alone x v v' sound goes = places_same x v v' (inners_agree x v v' sound goes)
