-- A call that crosses goes before the steps of the device.
use Rattle.std.proofs.Common.{◌≡◌, ◌⊎◌, inl, inr, ℕ, Bool, true, false, not, ◌&&◌, ◌||◌, List, [], ◌∷◌, Option, Some, None, refl, sym, ap, ◌∙◌, subst, if◌then◌else◌}
use Rattle.std.proofs.lemmas.Bool.{false≢true}
use Rattle.std.proofs.lemmas.Option.{none-some}
use Rattle.std.proofs.lemmas.List.Elements.{All-head, All-tail}
use Rattle.v4l_const.specs.declared.errno.Errno.{Errno}
use Rattle.v4l_const.specs.declared.errno.Errno.TheVariants.{Enomem}
use Rattle.v4l_const.specs.declared.model.Model.{Model}
use Rattle.v4l_rules.specs.Refusals.{first_refusal}
use Rattle.vm_local.specs.declared.call.Call.{Call}
use Rattle.vm_local.specs.declared.entry.Entry.{Entry}
use Rattle.vm_local.specs.declared.reply.Reply.{Reply}
use Rattle.vm_local.specs.declared.reply.Reply.TheVariants.{Refused, Buf}
use Rattle.vm_local.specs.State.{LocalState}
use Rattle.vm_local.specs.Same.{same_reply, address_in}
use Rattle.vm_local.specs.Calls.{Row, row_of}
use Rattle.vm_local.specs.Log.{answered, called, IsCall, after, replay, replay_from}
use Rattle.vm_local.specs.Record.{is_refusal}
use Rattle.vm_local.proofs.KeptLemmas.{no_refusal, refused_call, some_same}
use Rattle.vm_local.proofs.SameLemmas.{same_reply_decides}
use Rattle.vm_local.proofs.StepLemmas.{chosen_by, Went}
use Rattle.vm_commute.specs.Commute.{may_cross, is_open, is_stopping, may_go_first, is_step, AreSteps, without_flags, SameButFlags, without_events, GoesFirst}
use Rattle.vm_commute.proofs.EventsLemmas.{Follows, by_first, first_and_rest, steps_alike}
use Rattle.vm_commute.proofs.OutlineLemmas.{same_ways}
use Rattle.vm_commute.proofs.ReachedLemmas.{Reached, reached_after}
use Rattle.vm_commute.proofs.AnswerLemmas.{refusal_after, reply_after}
use Rattle.vm_commute.proofs.CallLemmas.{call_follows}

-- ---- replies

same_address : (r : Reply) → address_in (without_flags r) ≡ address_in r
same_address (Buf length flags) = refl
same_address r = refl

same_refusal : (r : Reply) → is_refusal (without_flags r) ≡ is_refusal r
same_refusal (Buf length flags) = refl
same_refusal r = refl

refused_itself : (e : Errno) → same_reply (Refused e) (Refused e) ≡ true
refused_itself e = (same_reply_decides (Refused e) (Refused e)).1 refl

never_refusal : (r : Reply) → ((e : Errno) → same_reply r (Refused e) ≡ false) → is_refusal r ≡ false
never_refusal (Refused e) none = absurd (false≢true (sym (none e) ∙ refused_itself e))
never_refusal r none = refl

never_lacks : (r : Reply) → is_refusal r ≡ false → same_reply (Refused Enomem) r ≡ false
never_lacks (Refused e) never = absurd (false≢true (sym never))
never_lacks r never = refl

-- the reply of a row is no refusal
no_row_refuses : (s : LocalState) (line addr : ℕ) (call : Call) → is_refusal (row_of s line addr call).reply ≡ false
no_row_refuses s line addr call = never_refusal (row_of s line addr call).reply (no_refusal s line addr call)

-- ---- an answer

and_false : (b : Bool) → (b && false) ≡ false
and_false true = refl
and_false false = refl

-- a call that no refusal stops, by whether memory was wanting
stays : (lacks goes : Bool) (u next t : LocalState) → lacks ≡ true → (if lacks then Some u else (if goes then Some next else None)) ≡ Some t → t ≡ u
stays true goes u next t is h = sym (some_same u t u h)
stays false goes u next t is h = absurd (false≢true is)

goes_on : (lacks waits same : Bool) (u next t : LocalState) → lacks ≡ false →
    (if lacks then Some u else (if not waits && same then Some next else None)) ≡ Some t → (waits ≡ false) × (same ≡ true) × (t ≡ next)
goes_on true waits same u next t is h = absurd (false≢true (sym is))
goes_on false true same u next t is h = absurd (none-some t h)
goes_on false false true u next t is h = (refl, refl, sym (some_same next t next h))
goes_on false false false u next t is h = absurd (none-some t h)

-- a call that is answered without a change is answered so from another state, where it is refused alike
still_answered : (refused : Option Errno) (r q : Row) (s u : LocalState) (reply : Reply) (next : LocalState) → q.may_lack_memory ≡ r.may_lack_memory →
    answered refused r u reply ≡ Some next → ((next ≡ u) × (answered refused q s reply ≡ Some s)) ⊎ Went refused r reply next
still_answered (Some e) r q s u reply next same h =
    let by : _ = chosen_by (same_reply (Refused e) reply) u next h in
    inl (by.1, ap (λ b. if b then Some s else None) by.0)
still_answered None r q s u reply next same h =
    let P : Bool → Type 0 = λ b. (if b && same_reply (Refused Enomem) reply then Some s else (if not q.waits && same_reply q.reply reply then Some q.next else None)) ≡ Some s in
    elim (r.may_lack_memory && same_reply (Refused Enomem) reply) as (λ b. (r.may_lack_memory && same_reply (Refused Enomem) reply) ≡ b →
    ((next ≡ u) × P q.may_lack_memory) ⊎ Went None r reply next) [
      | true ↦ λ is.
          let lacks : P r.may_lack_memory = ap (λ b. if b then Some s else (if not q.waits && same_reply q.reply reply then Some q.next else None)) is in
          inl (stays (r.may_lack_memory && same_reply (Refused Enomem) reply) (not r.waits && same_reply r.reply reply) u r.next next is h, subst P (sym same) lacks)
      | false ↦ λ is. let w : _ = goes_on (r.may_lack_memory && same_reply (Refused Enomem) reply) r.waits (same_reply r.reply reply) u r.next next is h in inr (refl, w.0, w.1, w.2)
    ] refl

-- a row's own reply answers the call
own_answer : (refused : Option Errno) (r : Row) (s : LocalState) → refused ≡ None → r.waits ≡ false → is_refusal r.reply ≡ false →
    answered refused r s r.reply ≡ Some r.next
own_answer (Some e) r s pass go never = absurd (none-some e (sym pass))
own_answer None r s pass go never =
    let itself : same_reply r.reply r.reply ≡ true = (same_reply_decides r.reply r.reply).1 refl in
    let P : Bool → Bool → Bool → Option LocalState = λ lacks waits same.
    if r.may_lack_memory && lacks then Some s else (if not waits && same then Some r.next else None) in
    ap (λ b. P b r.waits (same_reply r.reply r.reply)) (never_lacks r.reply never) ∙
    (ap (λ b. P false b (same_reply r.reply r.reply)) go ∙ (ap (λ b. P false false b) itself ∙
    ap (λ b. if b then Some s else Some r.next) (and_false r.may_lack_memory)))

-- ---- one step

-- the call before the step
abbrev GoesFirstOnce : LocalState → Entry → ℕ → Call → Reply → LocalState → Type 0
GoesFirstOnce s e line call reply next = (r : Reply) × (x : LocalState) × SameButFlags r reply × IsCall s line call r x × Follows x e next

first_of_both : (a b : Bool) → (a && b) ≡ true → (a ≡ true) × (b ≡ true)
first_of_both true b h = (refl, h)
first_of_both false b h = absurd (false≢true h)

not_true : (b : Bool) → not b ≡ true → b ≡ false
not_true true h = absurd (false≢true h)
not_true false h = refl

never_stops : (stops refused : Bool) → (not stops || refused) ≡ true → refused ≡ false → stops ≡ false
never_stops true true h none = none
never_stops true false h none = absurd (false≢true h)
never_stops false refused h none = refl

-- the call went as its row says
went_first : (s u : LocalState) (e : Entry) (line : ℕ) (call : Call) (reply : Reply) (next : LocalState) → may_go_first call reply ≡ true → is_step e ≡ true →
    Reached s → after s e ≡ Some u → Went (first_refusal (row_of u line (address_in reply) call).refusals) (row_of u line (address_in reply) call) reply next →
    GoesFirstOnce s e line call reply next
unfolding called
went_first s u e line call reply next may step reached leads went =
    let addr : ℕ = address_in reply in
    let r : Row = row_of s line addr call in
    let q : Row = row_of u line addr call in
    let kind : _ = first_of_both (may_cross call) (not (is_open call) && (not (is_stopping call) || is_refusal reply)) may in
    let parts : _ = first_of_both (not (is_open call)) (not (is_stopping call) || is_refusal reply) kind.1 in
    let own : q.reply ≡ reply = (same_reply_decides q.reply reply).0 went.2 in
    let done : is_refusal reply ≡ false = ap is_refusal (sym own) ∙ no_row_refuses u line addr call in
    let pass : first_refusal r.refusals ≡ None = sym (refusal_after s u e line addr call kind.0 step reached leads) ∙ went.0 in
    let flags : SameButFlags r.reply reply = sym (reply_after s u e line addr call kind.0 step reached leads) ∙ ap without_flags own in
    let address : addr ≡ address_in r.reply = sym (same_address reply) ∙ (ap address_in (sym flags) ∙ same_address r.reply) in
    let P : ℕ → Type 0 = λ a. answered (first_refusal (row_of s line a call).refusals) (row_of s line a call) s r.reply ≡ Some r.next in
    let follows : Follows r.next e q.next =
    call_follows s u e line addr call kind.0 (not_true (is_open call) parts.0) (never_stops (is_stopping call) (is_refusal reply) parts.1 done) pass step reached leads in (
      r.reply,
      r.next,
      flags,
      subst P address (own_answer (first_refusal r.refusals) r s pass (same_ways s u line addr call kind.0).0 (no_row_refuses s line addr call)),
      (follows.0, follows.1, follows.2 ∙ ap (λ (x : LocalState). without_events x) (sym went.3)),
    )

once : (s u : LocalState) (e : Entry) (line : ℕ) (call : Call) (reply : Reply) (next : LocalState) → may_go_first call reply ≡ true → is_step e ≡ true →
    Reached s → after s e ≡ Some u → IsCall u line call reply next → GoesFirstOnce s e line call reply next
unfolding called
once s u e line call reply next may step reached leads calls =
    let addr : ℕ = address_in reply in
    let r : Row = row_of s line addr call in
    let q : Row = row_of u line addr call in
    let crosses : may_cross call ≡ true = (first_of_both (may_cross call) _ may).0 in
    let same : first_refusal q.refusals ≡ first_refusal r.refusals = refusal_after s u e line addr call crosses step reached leads in
    elim (still_answered (first_refusal q.refusals) q r s u reply next (same_ways s u line addr call crosses).1 calls) as (λ _. GoesFirstOnce s e line call reply next) [
      | inl still ↦
          let P : Option Errno → Type 0 = λ o. answered o r s reply ≡ Some s in
          (reply, s, refl, subst P same still.1, (u, leads, ap (λ (x : LocalState). without_events x) (sym still.0)))
      | inr went ↦ went_first s u e line call reply next may step reached leads went
    ]

refused_once : (s u : LocalState) (e : Entry) (line : ℕ) (call : Call) (d : Errno) (next : LocalState) → is_step e ≡ true → Reached s → after s e ≡ Some u →
    may_cross call ≡ true → IsCall u line call (Refused d) next → IsCall s line call (Refused d) s
unfolding called
refused_once s u e line call d next step reached leads may calls =
    let r : Row = row_of s line 0 call in
    let q : Row = row_of u line 0 call in
    let same : first_refusal q.refusals ≡ first_refusal r.refusals = refusal_after s u e line 0 call may step reached leads in
    elim (still_answered (first_refusal q.refusals) q r s u (Refused d) next (same_ways s u line 0 call may).1 calls) as (λ _. answered (first_refusal r.refusals) r s (Refused d) ≡ Some s) [
      | inl still ↦
          let P : Option Errno → Type 0 = λ o. answered o r s (Refused d) ≡ Some s in
          subst P same still.1
      | inr went ↦ absurd (false≢true (sym (no_refusal u line 0 call d) ∙ went.2))
    ]

-- ---- many steps

-- a reply that is the same but for flags lets the call go first as well
may_as_well : (call : Call) (r reply : Reply) → SameButFlags r reply → may_go_first call reply ≡ true → may_go_first call r ≡ true
may_as_well call r reply flags may =
    let same : is_refusal r ≡ is_refusal reply = sym (same_refusal r) ∙ (ap is_refusal flags ∙ same_refusal reply) in
    ap (λ b. may_cross call && (not (is_open call) && (not (is_stopping call) || b))) same ∙ may

-- a step before others, before which the call goes
one_more : (s u : LocalState) (e : Entry) (es : List Entry) (line : ℕ) (call : Call) (reply : Reply) (next : LocalState) → AreSteps es →
    (g : GoesFirst u es line call reply next) → GoesFirstOnce s e line call g.first_reply g.between → GoesFirst s (e ∷ es) line call reply next
one_more s u e es line call reply next steps g (r, x, flags, calls, (y, leads, same)) =
    let t : _ = steps_alike es g.between y g.last steps same g.are_legal in record {
      first_reply = r;
      between = x;
      last = t.0;
      same_reply = flags ∙ g.same_reply;
      is_call = calls;
      are_legal = first_and_rest x y t.0 e es leads t.1;
      same_state = t.2 ∙ g.same_state;
    }

goes_first : (es : List Entry) (s u : LocalState) (line : ℕ) (call : Call) (reply : Reply) (next : LocalState) → Reached s → AreSteps es →
    replay_from s es ≡ Some u → may_go_first call reply ≡ true → IsCall u line call reply next → GoesFirst s es line call reply next
goes_first [] s u line call reply next reached steps leads may calls = record {
  first_reply = reply;
  between = next;
  last = next;
  same_reply = refl;
  is_call = subst (λ (x : LocalState). IsCall x line call reply next) (sym (some_same s u s leads)) calls;
  are_legal = refl;
  same_state = refl;
}
goes_first (e ∷ es) s u line call reply next reached steps leads may calls =
    let P : Entry → Type 0 = λ d. is_step d ≡ true in
    let by : _ = by_first s u e es leads in
    let one : P e = All-head P e es steps in
    let rest : AreSteps es = All-tail P e es steps in
    let g : GoesFirst by.0 es line call reply next = goes_first es by.0 u line call reply next (reached_after s by.0 e reached by.1) rest by.2 may calls in
    one_more s by.0 e es line call reply next rest g
    (once s by.0 e line call g.first_reply g.between (may_as_well call g.first_reply reply g.same_reply may) one reached by.1 g.is_call)

-- a call that is refused after steps is refused so before them
refused_first : (es : List Entry) (s u : LocalState) (line : ℕ) (call : Call) (d : Errno) (next : LocalState) → Reached s → AreSteps es →
    replay_from s es ≡ Some u → may_cross call ≡ true → IsCall u line call (Refused d) next → IsCall s line call (Refused d) s
refused_first [] s u line call d next reached steps leads may calls =
    let same : s ≡ u = some_same s u s leads in
    let P : LocalState → LocalState → Type 0 = λ x y. IsCall x line call (Refused d) y in
    subst (λ x. P x x) (sym same) (subst (λ y. P u y) (refused_call u line call d next calls) calls)
refused_first (e ∷ es) s u line call d next reached steps leads may calls =
    let P : Entry → Type 0 = λ x. is_step x ≡ true in
    let by : _ = by_first s u e es leads in
    refused_once s by.0 e line call d by.0 (All-head P e es steps) reached by.1 may
    (refused_first es by.0 u line call d next (reached_after s by.0 e reached by.1) (All-tail P e es steps) by.2 may calls)

pub refused_law : (m : Model) (log : List Entry) (s : LocalState) → replay m log ≡ Some s → (steps : List Entry) (u : LocalState) (line : ℕ) (call : Call) (d : Errno) (next : LocalState) →
    AreSteps steps → replay_from s steps ≡ Some u → may_cross call ≡ true → IsCall u line call (Refused d) next → IsCall s line call (Refused d) s
refused_law m log s leads steps u line call d next are stepped may calls = refused_first steps s u line call d next (m, log, leads) are stepped may calls

pub order_law : (m : Model) (log : List Entry) (s : LocalState) → replay m log ≡ Some s → (steps : List Entry) (u : LocalState) (line : ℕ) (call : Call) (reply : Reply) (next : LocalState) →
    AreSteps steps → replay_from s steps ≡ Some u → may_go_first call reply ≡ true → IsCall u line call reply next → GoesFirst s steps line call reply next
order_law m log s leads steps u line call reply next are stepped may calls = goes_first steps s u line call reply next (m, log, leads) are stepped may calls
