-- With those of the job that is out, no more than 64 messages of a handle are under way.
use Rattle.std.proofs.Common.{◌≡◌, ℕ, ◌+◌, ◌≤◌, Bool, true, false, List, ◌++◌, Option, Some, None, length, refl, sym, ap, ◌∙◌, subst, arith, length-append}
use Rattle.std.specs.Prelude.{IsTrue}
use Rattle.std.proofs.lemmas.Option.{none-some}
use Rattle.v4l_const.specs.declared.errno.Errno.{Errno}
use Rattle.vm_job.specs.Job.{JobParts, DoneParts, CameBack, HasPicture}
use Rattle.vm_local.specs.declared.call.Call.{Call}
use Rattle.vm_local.specs.declared.entry.Entry.{Entry}
use Rattle.vm_local.specs.declared.entry.Entry.TheVariants.{Called}
use Rattle.vm_local.specs.declared.reply.Reply.{Reply}
use Rattle.vm_local.specs.declared.reply.Reply.TheVariants.{Refused}
use Rattle.vm_local.specs.State.{LocalState}
use Rattle.vm_local.proofs.KeptLemmas.{refused_call}
use Rattle.vm_commute.proofs.ReachedLemmas.{reached_after}
use Rattle.vm_home.specs.Moves.{is_refusal, is_stopping}
use Rattle.vm_home.specs.Reached.{IsReached}
use Rattle.vm_session.specs.State.{SessionState}
use Rattle.vm_session.specs.Streaming.{events_of}
use Rattle.vm_session.specs.declared.running.Running.{Running}
use Rattle.vm_session.specs.declared.unsent.Unsent.{Unsent}
use Rattle.vm_stands.specs.Ahead.{StopsNone}
use Rattle.vm_stands.specs.Slice.{LeadWith, LeadAhead, IsSlice}
use Rattle.vm_stands.proofs.LawLemmas.{finishes}
use Rattle.vm_realm.specs.Inner.{Inner, driver_state}
use Rattle.vm_realm.specs.Slice.{Slice, Out, earlier_of}
use Rattle.vm_realm.specs.Slice.Out.{Nowhere, Asked, Kept, Told, Astray}
use Rattle.vm_realm.specs.Sound.{IsOut, IsSeated, IsSoundSlice}
use Rattle.vm_realm.proofs.FewMessagesLemmas.{messages_left, all_lower, left_by}
use Rattle.vm_realm.proofs.KeepFrameLemmas.{ahead_reached, refusal_is}

-- ---- what may still come in the state ahead

ahead_lowers : (id : ℕ) (r s : LocalState) (executed : Option Entry) (es : List Unsent) → IsReached r → StopsNone executed → LeadAhead id r executed es s → length es + messages_left s ≤ 64
ahead_lowers id r s None es reached none leads = omega (arith, all_lower id es r s reached leads, left_by r.model r refl reached)
ahead_lowers id r s (Some e) es reached none leads =
    let by : LeadWith false id r e es s = subst (λ b. LeadWith b id r e es s) none leads in
    let there : IsReached by.0 = reached_after r by.0 e reached by.1 in
    omega (arith, all_lower id es by.0 s there by.2, left_by by.0.model by.0 refl there)

-- a stopping call that was refused leaves the state as it was
refused_lowers : (id line : ℕ) (r s : LocalState) (call : Call) (errno : Errno) (es : List Unsent) → IsReached r → is_stopping call ≡ true →
    LeadAhead id r (Some (Called line call (Refused errno))) es s → length es + messages_left s ≤ 64
refused_lowers id line r s call errno es reached halts leads =
    let e : Entry = Called line call (Refused errno) in
    let by : LeadWith true id r e es s = subst (λ b. LeadWith b id r e es s) halts leads in
    let same = ap messages_left (refused_call by.0 line call errno s by.2) in
    omega (arith, same, all_lower id es r by.0 reached by.1, left_by r.model r refl reached)

weighs : (x : Slice) (v : Inner) (s : SessionState) (job : JobParts) (o : Out) → IsOut o x v → x.job ≡ Some job →
    IsSlice v.frames s (Some job) (earlier_of x) v.executed (driver_state x) v.ahead → length (earlier_of x ++ s.unsent) + messages_left v.ahead ≤ 64
weighs x v s job o is has slice = by_out o is
  where
    plain : StopsNone v.executed → length (earlier_of x ++ s.unsent) + messages_left v.ahead ≤ 64
    plain none = ahead_lowers s.id (driver_state x) v.ahead v.executed (earlier_of x ++ s.unsent) slice.reached none slice.leads

    by_told : (line : ℕ) (call : Call) (reply : Reply) → v.executed ≡ Some (Called line call reply) → (is_stopping call ≡ true → is_refusal reply ≡ false → x.job ≡ None) →
        (halts refused : Bool) → is_stopping call ≡ halts → is_refusal reply ≡ refused → length (earlier_of x ++ s.unsent) + messages_left v.ahead ≤ 64
    by_told line call reply executed quiet false refused never any = plain (subst StopsNone (sym executed) never)
    by_told line call reply executed quiet true true halts refused =
        let by : (errno : Errno) × (reply ≡ Refused errno) = refusal_is reply refused in
        refused_lowers s.id line (driver_state x) v.ahead call by.0 (earlier_of x ++ s.unsent) slice.reached halts
        (subst (λ q. LeadAhead s.id (driver_state x) q (earlier_of x ++ s.unsent) v.ahead) (executed ∙ ap (λ q. Some (Called line call q)) by.1) slice.leads)
    by_told line call reply executed quiet true false halts done = absurd (none-some job (sym (quiet halts done) ∙ has))

    by_out : (o : Out) → IsOut o x v → length (earlier_of x ++ s.unsent) + messages_left v.ahead ≤ 64
    by_out Nowhere out = plain (subst StopsNone (sym out.0.executed) tt)
    by_out (Asked m) out = plain (subst StopsNone (sym out.0.executed) tt)
    by_out (Kept m) out = plain (subst StopsNone (sym out.0.executed) tt)
    by_out (Told m) out = by_told out.line out.call out.reply out.executed (λ halts done. (out.quiet halts done).1) (is_stopping out.call) (is_refusal out.reply) refl refl
    by_out Astray out = absurd out

-- ---- the job comes back

pub done_few : (x : Slice) (v : Inner) (s : SessionState) (r : Running) (job : JobParts) (done : DoneParts) → IsSoundSlice x v → x.session ≡ Some s → x.job ≡ Some job → s.running ≡ Some r →
    CameBack job done → (IsTrue done.good → HasPicture done.job) → length (earlier_of x) + length (s.unsent ++ events_of s r done) ≤ 64
done_few x v s r job done sound is has runs back picture =
    let slice : IsSlice v.frames s (Some job) (earlier_of x) v.executed (driver_state x) v.ahead =
    subst (λ j. IsSlice v.frames s j (earlier_of x) v.executed (driver_state x) v.ahead) has (subst (λ o. IsSeated o x v) is sound.seated) in
    let there : IsReached v.ahead = ahead_reached s.id (driver_state x) v.ahead v.executed (earlier_of x ++ s.unsent) slice.reached slice.leads in
    let ends = finishes v.frames s v.ahead r job done slice.stands slice.sound there slice.owed runs slice.next back picture in
    let more = all_lower s.id (events_of s r done) v.ahead ends.0 there ends.1 in
    omega (arith, weighs x v s job x.out sound.out has slice, more, length-append (earlier_of x) s.unsent, length-append s.unsent (events_of s r done))
