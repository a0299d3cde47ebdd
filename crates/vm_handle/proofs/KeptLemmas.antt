-- What holds of a handle still holds once one of its calls was made.
use Rattle.std.proofs.Common.{◌≡◌, ◌⊎◌, inl, inr, ℕ, ◌<◌, ◌^◌, Bool, true, false, not, ◌&&◌, List, [], ◌∷◌, ◌++◌, Option, Some, None, IsSome, refl, sym, ap, ◌∙◌, subst, lit<, if◌then◌else◌}
use Rattle.std.proofs.lemmas.Bool.{false≢true}
use Rattle.std.specs.Prelude.{is_some}
use Rattle.v4l_const.specs.declared.errno.Errno.{Errno}
use Rattle.v4l_const.specs.declared.errno.Errno.TheVariants.{Enomem}
use Rattle.v4l_const.specs.declared.model.Model.{Model}
use Rattle.v4l_const.specs.Model.{source_queue}
use Rattle.v4l_rules.specs.Refusals.{first_refusal}
use Rattle.vm_frame.specs.declared.mem.Held.{Held}
use Rattle.vm_frame.specs.declared.mem.Mem.{Mem}
use Rattle.vm_frame.specs.declared.mem.Mem.TheVariants.{OfUser}
use Rattle.vm_lease.specs.Lease.{LeaseParts}
use Rattle.vm_sg.specs.UserMemory.{user_memory}
use Rattle.vm_wire.specs.declared.event.EventMsg.{EventMsg}
use Rattle.vm_wire.specs.declared.event.EventMsg.TheVariants.{Dequeued, Happened}
use Rattle.vm_wire.specs.declared.response.Response.{Response}
use Rattle.vm_local.specs.declared.call.Call.{Call}
use Rattle.vm_local.specs.declared.call.Call.TheVariants.{UAlloc, QBuf, DqBuf, Peek, Hash, Poke, Fill}
use Rattle.vm_local.specs.declared.entry.Entry.{Entry}
use Rattle.vm_local.specs.declared.entry.Entry.TheVariants.{Called, Finish, Bad, Give}
use Rattle.vm_local.specs.declared.reply.Reply.{Reply}
use Rattle.vm_local.specs.declared.reply.Reply.TheVariants.{Refused}
use Rattle.vm_local.specs.State.{LocalState}
use Rattle.vm_local.specs.Calls.{row_of, read_row, hash_row, write_row, fill_row}
use Rattle.vm_local.specs.Log.{after, called, replay_from}
use Rattle.vm_local.specs.Record.{without_bytes}
use Rattle.vm_home.specs.Laws.{IsUnrefused}
use Rattle.vm_home.specs.Moves.{goes_along, moves_memory, is_refusal, touches_bytes}
use Rattle.vm_log.specs.LegalLog.{LogState, IsSound, state_of, with_entry, is_lent_to, lease_in}
use Rattle.vm_log.specs.Answers.{with_line, answered_with, replied, Sends, Leases, IsDone, given_back}
use Rattle.vm_log.specs.declared.away.Away.TheVariants.{Nothing}
use Rattle.vm_log.specs.declared.leased.Leased.{Leased}
use Rattle.vm_log.proofs.FreshLemmas.{fresh_sound}
use Rattle.vm_log.proofs.KeepLemmas.{refused_goes}
use Rattle.vm_log.proofs.OutLemmas.{may_answer, back_comes}
use Rattle.vm_log.proofs.SoundLemmas.{keeps_of, line_sound, called_sound, made_sound, replied_sound, stepped_sound, given_sound, sent_by_sound, leased_sound, back_sound}
use Rattle.vm_exchange.specs.declared.crossing.Crossing.{Crossing}
use Rattle.vm_exchange.specs.declared.way.Way.{Way}
use Rattle.vm_exchange.specs.declared.way.Way.TheVariants.{Crosses, AnsweredHere, Waits}
use Rattle.vm_exchange.specs.Exchange.{unless_by, way_of}
use Rattle.vm_exchange.specs.Messages.{is_marked, is_first, made_by}
use Rattle.vm_exchange.proofs.RangeLemmas.{after_in_range}
use Rattle.vm_exchange.proofs.ReplyLemmas.{here_answered}
use Rattle.vm_handle.specs.declared.stage.Stage.{Stage}
use Rattle.vm_handle.specs.declared.stage.Stage.TheVariants.{AtRest, Underway, Waiting}
use Rattle.vm_handle.specs.Handle.{HandleState, fresh_handle, id_of, way_from, opens_session, has_opened, is_dqbuf, FitsStage, Keeps, KeepsUnwoken}
use Rattle.vm_handle.specs.Messages.{GivesFirst, Delivers}
use Rattle.vm_handle.specs.Answers.{row_from, makes, answered_by, AnswersHere, AnswersWith, with_steps, with_given, answered_at, awoken, delivered}
use Rattle.vm_handle.proofs.LogLemmas.{IsReady, entry_leads, legal_more, opened_more}
use Rattle.vm_handle.proofs.StartLemmas.{Rests, rests, fresh_keeps, crosses_unrefused, sent_keeps}
use Rattle.vm_handle.proofs.HereLemmas.{IsHere, IsRowHere, refused_is_here, lacking_is_here, replied_is_here, ualloc_here, row_is_here}
use Rattle.vm_handle.proofs.AnswerLemmas.{made_is, here_keeps}
use Rattle.vm_handle.proofs.MessageLemmas.{first_goes, gives_buffer, gives_event, may_give}
use Rattle.vm_handle.proofs.DeliverLemmas.{or_false, made_goes_all, gives_there, delivered_keeps}
use Rattle.vm_handle.proofs.ReplyLemmas.{may_of, along_with, leased_keeps, gave_by}

-- It keeps what each handle does, and its memories are in their places.
pub record IsKept (h : HandleState) : Type 0 where
  pub keeps : Keeps h.log h.session h.stage
  pub sound : IsSound h.log

pub fresh_kept : (model : Model) (lines : ℕ) → IsKept (fresh_handle model lines)
fresh_kept model lines = record { keeps = fresh_keeps model lines; sound = fresh_sound model lines }

-- ---- a line is begun

rest_of : (h : HandleState) → IsKept h → h.log.unanswered ≡ false → Rests h.log.away h.stage
rest_of h kept answered = rests (id_of h.session) (state_of h.log) h.log.away h.log.unanswered h.stage answered kept.keeps.fits

begun_sound : (h : HandleState) → IsKept h → h.log.unanswered ≡ false → h.log.begun < h.log.lines → IsSound (with_line h.log)
begun_sound h kept answered more = line_sound h.log kept.sound (rest_of h kept answered).1 answered more

-- a call that takes a memory along isn't refused where it crosses
along_unrefused : (id : ℕ) (s : LocalState) (call : Call) (c : Crossing) (n : ℕ) → goes_along s call ≡ Some n → way_of id s call ≡ Crosses c → IsUnrefused s call
along_unrefused id s (QBuf t i user used ts) c n goes is = crosses_unrefused id s t i used ts user (QBuf t i user used ts) c is refl
along_unrefused id s call c n goes is = cc

pub kept_crossing : (h : HandleState) (line : ℕ) (call : Call) (c : Crossing) (along : Option Held) (log : LogState) → IsKept h → h.log.unanswered ≡ false → h.log.begun < h.log.lines →
    way_from h call ≡ Crosses c → Sends (goes_along (state_of h.log) call) (with_line h.log) call along log → IsKept (record h { log = log; stage = Underway line call })
kept_crossing h line call c along log kept answered more is sends = record {
  keeps = sent_keeps h.log log h.session h.stage line call c along kept.keeps answered is sends;
  sound = sent_by_sound (goes_along (state_of h.log) call) (with_line h.log) log call along refl (begun_sound h kept answered more) (rest_of h kept answered).1 refl
      (λ n goes. along_unrefused (id_of h.session) (state_of h.log) call c n goes is) sends;
}

pub kept_waiting : (h : HandleState) (line : ℕ) (call : Call) → IsKept h → h.log.unanswered ≡ false → h.log.begun < h.log.lines → way_from h call ≡ Waits →
    IsKept (record h { log = with_line h.log; stage = Waiting line call })
kept_waiting h line call kept answered more is = record {
  keeps = record { legal = kept.keeps.legal; range = kept.keeps.range; opened = kept.keeps.opened; fits = (refl, (rest_of h kept answered).1, is) };
  sound = begun_sound h kept answered more;
}

-- ---- a line is answered without the device

and_false : (a b : Bool) → b ≡ false → (a && b) ≡ false
and_false true b is = is
and_false false b is = refl

-- by its row's reply
row_sound : (id : ℕ) (l : LogState) (line : ℕ) (call : Call) → IsSound l → l.away ≡ Nothing → l.unanswered ≡ true → way_of id (state_of l) call ≡ AnsweredHere →
    first_refusal (row_from l line call).refusals ≡ None → ((u : List ℕ) (len off : ℕ) → call ≡ UAlloc u len off → ⊥) → IsSound (answered_with l line call (row_from l line call).reply l.home)
row_sound id l line call sound none begun here passed other =
    let is : IsRowHere (state_of l) line call = row_is_here id (state_of l) line call here passed other in
    called_sound l line call (row_from l line call).reply sound none begun is.here.goes (and_false (not (is_refusal (row_from l line call).reply)) (moves_memory call) is.stays)

none_more : {A : Type 0} (xs : List A) → xs ≡ xs ++ []
none_more [] = refl
none_more (x ∷ xs) = ap (λ ys. x ∷ ys) (none_more xs)

passed_sound : (id : ℕ) (l : LogState) (line : ℕ) (call : Call) → IsSound l → l.away ≡ Nothing → l.unanswered ≡ true → way_of id (state_of l) call ≡ AnsweredHere →
    first_refusal (row_from l line call).refusals ≡ None → IsSound (answered_with l line call (row_from l line call).reply (l.home ++ makes line call))
passed_sound id l line (UAlloc u len off) sound none begun here passed =
    let reply : Reply = (row_from l line (UAlloc u len off)).reply in
    made_sound l line (UAlloc u len off) reply (OfUser (user_memory line len off)) sound none begun (ualloc_here (state_of l) line len off u passed).goes
    (made_is (state_of l) line len off u reply (user_memory line len off) passed refl refl)
passed_sound id l line call sound none begun here passed =
    subst (λ hs. IsSound (answered_with l line call (row_from l line call).reply hs)) (none_more l.home)
    (row_sound id l line call sound none begun here passed (λ u len off same. cc))

answered_sound : (o : Option Errno) (id : ℕ) (l : LogState) (line : ℕ) (call : Call) → first_refusal (row_from l line call).refusals ≡ o → IsSound l → l.away ≡ Nothing → l.unanswered ≡ true →
    way_of id (state_of l) call ≡ AnsweredHere → IsSound (answered_by o l line call)
answered_sound (Some e) id l line call refuses sound none begun here = called_sound l line call (Refused e) sound none begun (refused_goes (state_of l) line call e refuses) refl
answered_sound None id l line call passed sound none begun here = passed_sound id l line call sound none begun here passed

here_sound : (id : ℕ) (l new : LogState) (line : ℕ) (call : Call) → IsSound l → l.away ≡ Nothing → l.unanswered ≡ true → way_of id (state_of l) call ≡ AnsweredHere →
    AnswersHere l line call new → IsSound new
here_sound id l new line call sound none begun here (inl is) =
    subst (λ (x : LogState). IsSound x) (sym is) (answered_sound (first_refusal (row_from l line call).refusals) id l line call refl sound none begun here)
here_sound id l new line call sound none begun here (inr lacks) =
    subst (λ (x : LogState). IsSound x) (sym lacks.new_is)
    (called_sound l line call (Refused Enomem) sound none begun (lacking_is_here (state_of l) line call lacks.unrefused lacks.may).goes refl)

pub kept_here : (h : HandleState) (line : ℕ) (call : Call) (log : LogState) → IsKept h → h.log.unanswered ≡ false → h.log.begun < h.log.lines → way_from h call ≡ AnsweredHere → line < 2 ^ 32 →
    AnswersHere (with_line h.log) line call log → IsKept (record h { log = log })
kept_here h line call log kept answered more here short answers =
    let rest : Rests h.log.away h.stage = rest_of h kept answered in
    record {
      keeps = subst (λ x. Keeps log h.session x) (sym rest.0)
          (here_keeps (with_line h.log) log h.session line call (record { legal = kept.keeps.legal; range = kept.keeps.range }) kept.keeps.opened short here answers);
      sound = here_sound (id_of h.session) (with_line h.log) log line call (begun_sound h kept answered more) rest.1 refl here answers;
    }

-- ---- a line is answered by the device

pub sound_replied : (h : HandleState) (line : ℕ) (call : Call) (response : Response) (held : List Held) → IsKept h → h.stage ≡ Underway line call →
    (a : AnswersWith (state_of h.log) line call response held) → IsSound (replied h.log line call a.reply held)
sound_replied h line call response held kept underway a =
    let id : ℕ = id_of h.session in
    let s : LocalState = state_of h.log in
    let fits : FitsStage id s h.log.away h.log.unanswered (Underway line call) = subst (λ x. FitsStage id s h.log.away h.log.unanswered x) underway kept.keeps.fits in
    replied_sound h.log line call a.reply held kept.sound fits.0 (may_of id s call fits.1) (along_with id s a.next line call a.reply h.log.away fits.1 fits.2 a.is_call)
    (may_answer h.log.model h.log.entries line call a.reply held a.next kept.keeps.legal a.is_call a.memories)

-- ---- leases

-- a line that touches a memory isn't refused by its number
touch_unrefused : (s : LocalState) (line : ℕ) (call : Call) → touches_bytes call ≡ true → first_refusal (row_of s line 0 call).refusals ≡ None → IsUnrefused s call
unfolding read_row hash_row write_row fill_row
touch_unrefused s line (Peek m off len) touches passed = λ l addr. passed
touch_unrefused s line (Hash m) touches passed = λ l addr. passed
touch_unrefused s line (Poke m off bytes) touches passed = λ l addr. passed
touch_unrefused s line (Fill m seed) touches passed = λ l addr. passed
touch_unrefused s line call touches passed = absurd (false≢true touches)

pub kept_leased : (h : HandleState) (line : ℕ) (call : Call) (leased : Leased) (log : LogState) → IsKept h → h.log.unanswered ≡ false → h.log.begun < h.log.lines → touches_bytes call ≡ true → line < 2 ^ 32 →
    Leases (first_refusal (row_from h.log line call).refusals) (with_line h.log) line call leased log → IsKept (record h { log = log })
kept_leased h line call leased log kept answered more touches short leases = record {
  keeps = leased_keeps h.log (with_line h.log) log h.session h.stage line call leased refl kept.keeps answered touches short leases;
  sound = leased_sound (first_refusal (row_from h.log line call).refusals) (with_line h.log) log line call leased refl (begun_sound h kept answered more) (rest_of h kept answered).1 refl touches
      (λ passed. touch_unrefused (state_of h.log) line call touches passed) leases;
}

pub kept_given_back : (h : HandleState) (lease : LeaseParts) → IsKept h → is_lent_to h.log.away lease.line ≡ true → IsDone (lease_in h.log.away) lease → IsKept (record h { log = given_back h.log lease })
kept_given_back h lease kept mine done = record {
  keeps = gave_by h.log h.session h.stage lease h.log.away refl kept.keeps (λ other. false≢true (sym other ∙ mine)) (λ _. done)
      (back_comes h.log.model h.log.entries lease (without_bytes (state_of h.log)) h.log.home h.log.away h.log.unanswered (keeps_of h.log kept.sound) mine done).0.goes;
  sound = back_sound h.log lease kept.sound mine done;
}

-- ---- a message is delivered

made_by_sound : (first marked : Bool) (l : LogState) → IsSound l → IsSome (replay_from (state_of l) (if first then (if marked then Bad else Finish) ∷ [] else [])) →
    IsSound (with_steps l (if first then (if marked then Bad else Finish) ∷ [] else []))
made_by_sound true true l sound goes = stepped_sound l Bad sound tt (first_goes (after (state_of l) Bad) (λ t. replay_from t []) goes) refl
made_by_sound true false l sound goes = stepped_sound l Finish sound tt (first_goes (after (state_of l) Finish) (λ t. replay_from t []) goes) refl
made_by_sound false marked l sound goes = sound

steps_sound : (m : Model) (l : LogState) (msg : EventMsg) → IsSound l → IsSome (replay_from (state_of l) (made_by m msg)) → IsSound (with_steps l (made_by m msg))
steps_sound m l (Happened session event) sound goes = made_by_sound true false l sound goes
steps_sound m l (Dequeued session b) sound goes = made_by_sound (is_first (source_queue m) m b) (is_marked m b) l sound goes

gift_sound : (l : LogState) (msg : EventMsg) (held : Option Held) → IsSound l → GivesFirst (state_of l) (state_of l).owed msg held → IsSound (with_given l held)
gift_sound l msg None sound gives =
    stepped_sound l Give sound tt (may_give (state_of l) msg None gives) (gives_event (state_of l) (state_of l).owed msg gives)
gift_sound l msg (Some held) sound gives =
    let is : _ = gives_buffer (state_of l) (state_of l).owed msg held gives in
    given_sound l held.mem sound is.0 is.1

-- ---- a dqbuf that waited

-- it is answered or waits
either_way : (o : Option Errno) (waits : Bool) (w : Way) → w ≡ unless_by o (if waits then Waits else AnsweredHere) → (w ≡ AnsweredHere) ⊎ (w ≡ Waits)
either_way None true w is = inr is
either_way None false w is = inl is
either_way (Some e) waits w is = inl is

dqbuf_free : (s : LocalState) (line t : ℕ) (r : Reply) → called s line (DqBuf t) r ≡ called s 0 (DqBuf t) r
unfolding called
dqbuf_free s line t r = refl

-- the line's number doesn't matter to it
dqbuf_keeps : (l : LogState) (session : Option ℕ) (line t : ℕ) (r : Reply) (home : List (Option Mem)) → IsReady l → is_some session ≡ has_opened l.entries → IsHere (state_of l) line (DqBuf t) r →
    Keeps (answered_with l line (DqBuf t) r home) session AtRest
dqbuf_keeps l session line t r home ready opened here =
    let s : LocalState = state_of l in
    let e : Entry = Called line (DqBuf t) r in
    let leads : called s 0 (DqBuf t) r ≡ Some (state_of (with_entry l e home)) = sym (dqbuf_free s line t r) ∙ entry_leads l e home ready.legal here.goes in
    record {
      legal = legal_more l.model l.entries e ready.legal here.goes;
      range = after_in_range s (state_of (with_entry l e home)) (Called 0 (DqBuf t) r) ready.range (lit< tt, subst (λ n. n < 2 ^ 64) (sym here.address) (lit< tt)) leads;
      opened = opened ∙ sym (opened_more l.entries e ∙ or_false (has_opened l.entries) (opens_session e) here.opens);
      fits = refl;
    }

dqbuf_answered : (o : Option Errno) (l : LogState) (session : Option ℕ) (line t : ℕ) → first_refusal (row_from l line (DqBuf t)).refusals ≡ o → IsReady l → is_some session ≡ has_opened l.entries →
    way_of (id_of session) (state_of l) (DqBuf t) ≡ AnsweredHere → Keeps (answered_by o l line (DqBuf t)) session AtRest
dqbuf_answered (Some e) l session line t refuses ready opened here =
    dqbuf_keeps l session line t (Refused e) l.home ready opened (refused_is_here (state_of l) line (DqBuf t) e refuses)
dqbuf_answered None l session line t passed ready opened here =
    dqbuf_keeps l session line t (row_from l line (DqBuf t)).reply (l.home ++ makes line (DqBuf t)) ready opened
    (replied_is_here (state_of l) line (DqBuf t) refl passed (here_answered (id_of session) (state_of l) line 0 (DqBuf t) here passed))

dqbuf_by : (w : Way) (h : HandleState) (line t : ℕ) → way_from h (DqBuf t) ≡ w → (w ≡ AnsweredHere) ⊎ (w ≡ Waits) → h.stage ≡ Waiting line (DqBuf t) → KeepsUnwoken h.log h.session (Waiting line (DqBuf t)) →
    IsSound h.log → IsKept (answered_at w h line (DqBuf t))
dqbuf_by w h line t is (inl here) waited keeps sound =
    let l : LogState = h.log in
    subst (λ x. IsKept (answered_at x h line (DqBuf t))) (sym here) (record {
      keeps = dqbuf_answered (first_refusal (row_from l line (DqBuf t)).refusals) l h.session line t refl (record { legal = keeps.legal; range = keeps.range }) keeps.opened (is ∙ here);
      sound = answered_sound (first_refusal (row_from l line (DqBuf t)).refusals) (id_of h.session) l line (DqBuf t) refl sound keeps.fits.1 keeps.fits.0 (is ∙ here);
    })
dqbuf_by w h line t is (inr waits) waited keeps sound =
    subst (λ x. IsKept (answered_at x h line (DqBuf t))) (sym waits) (record {
      keeps = subst (λ x. Keeps h.log h.session x) (sym waited)
          (record { legal = keeps.legal; range = keeps.range; opened = keeps.opened; fits = (keeps.fits.0, keeps.fits.1, is ∙ waits) });
      sound = sound;
    })

-- it is one that waits
waiting_kept : (h : HandleState) (line : ℕ) (call : Call) → is_dqbuf call ≡ true → h.stage ≡ Waiting line call → KeepsUnwoken h.log h.session (Waiting line call) → IsSound h.log →
    IsKept (answered_at (way_from h call) h line call)
waiting_kept h line (DqBuf t) dqbuf waited keeps sound =
    let s : LocalState = state_of h.log in
    dqbuf_by (way_from h (DqBuf t)) h line t refl
    (either_way (first_refusal (row_of s 0 0 (DqBuf t)).refusals) (row_of s 0 0 (DqBuf t)).waits (way_from h (DqBuf t)) refl) waited keeps sound
waiting_kept h line call dqbuf waited keeps sound = absurd (false≢true dqbuf)

awoken_kept : (stage : Stage) (h : HandleState) → h.stage ≡ stage → KeepsUnwoken h.log h.session stage → IsSound h.log → IsKept (awoken stage h)
awoken_kept AtRest h is keeps sound = record {
  keeps = subst (λ x. Keeps h.log h.session x) (sym is) (record { legal = keeps.legal; range = keeps.range; opened = keeps.opened; fits = keeps.fits });
  sound = sound;
}
awoken_kept (Underway line call) h is keeps sound = record {
  keeps = subst (λ x. Keeps h.log h.session x) (sym is) (record { legal = keeps.legal; range = keeps.range; opened = keeps.opened; fits = keeps.fits });
  sound = sound;
}
awoken_kept (Waiting line call) h is keeps sound = waiting_kept h line call keeps.fits.2 is keeps sound

pub kept_delivered : (h : HandleState) (msg : EventMsg) (held : Option Held) → IsKept h → Delivers (state_of h.log) msg held → IsKept (delivered h msg held)
kept_delivered h msg held kept may =
    let m : Model = (state_of h.log).model in
    let made : LogState = with_steps h.log (made_by m msg) in
    let steps : IsSound made = steps_sound m h.log msg kept.sound (made_goes_all (state_of h.log) msg may.legal) in
    let sound : IsSound (with_given made held) = gift_sound made msg held steps (gives_there h.log msg held kept.keeps.legal may) in
    awoken_kept h.stage (record h { log = with_given made held }) refl (delivered_keeps h.log h.session h.stage msg held kept.keeps may) sound
