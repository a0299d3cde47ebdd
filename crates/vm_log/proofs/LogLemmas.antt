-- A legal log with one more entry.
use Rattle.std.proofs.Common.{◌≡◌, ℕ, ◌+◌, ◌*◌, ◌≤◌, ◌<◌, Bool, true, false, List, [], ◌∷◌, ◌++◌, length, Option, Some, None, IsSome, refl, sym, ap, ◌∙◌, subst, arith, unwrap_or, length-append}
use Rattle.std.specs.Option.{option_and_then}
use Rattle.std.proofs.lemmas.Bool.{false≢true}
use Rattle.v4l_const.specs.declared.model.Model.{Model}
use Rattle.vm_frame.specs.declared.mem.Mem.{Mem}
use Rattle.vm_local.specs.declared.call.Call.{Call}
use Rattle.vm_local.specs.declared.call.Call.TheVariants.{QBuf}
use Rattle.vm_local.specs.declared.entry.Entry.{Entry}
use Rattle.vm_local.specs.declared.entry.Entry.TheVariants.{Called}
use Rattle.vm_local.specs.declared.reply.Reply.{Reply}
use Rattle.vm_local.specs.State.{LocalState, opening}
use Rattle.vm_local.specs.Log.{after, replay, IsLegal}
use Rattle.vm_local.specs.Record.{without_bytes}
use Rattle.vm_local.proofs.LogLemmas.{replay_from_push}
use Rattle.vm_home.specs.Home.{AreInPlace}
use Rattle.vm_home.specs.ToCome.{entries_to_come, entries_added, IsStep}
use Rattle.vm_home.proofs.FactLemmas.{reached_of}
use Rattle.vm_home.proofs.LawLemmas.{call_few, step_one}
use Rattle.vm_log.specs.LegalLog.{state_after, number_away, IsAway, IsWithin, Keeps}
use Rattle.vm_log.specs.declared.away.Away.{Away}

some_of : {A : Type 0} (o : Option A) (d : A) → IsSome o → o ≡ Some (unwrap_or o d)
some_of None d some = absurd (false≢true some)
some_of (Some x) d some = refl

then_some : {A : Type 0} (o : Option A) (d : A) (f : A → Option A) → IsSome o → IsSome (f (unwrap_or o d)) → f (unwrap_or o d) ≡ Some (unwrap_or (option_and_then f o) d)
then_some None d f some goes = absurd (false≢true some)
then_some (Some x) d f some goes = some_of (f x) d goes

then_is : {A : Type 0} (o : Option A) (d : A) (f : A → Option A) → IsSome o → IsSome (f (unwrap_or o d)) → IsSome (option_and_then f o)
then_is None d f some goes = absurd (false≢true some)
then_is (Some x) d f some goes = goes

-- the state of the log leads to that of the longer one
pub leads : (m : Model) (log : List Entry) (e : Entry) → IsLegal m log → IsSome (after (state_after m log) e) → after (state_after m log) e ≡ Some (state_after m (log ++ e ∷ []))
leads m log e legal goes =
    then_some (replay m log) (opening m) (λ t. after t e) legal goes ∙ ap (λ o. Some (unwrap_or o (opening m))) (sym (replay_from_push (opening m) log e))

-- which is legal
pub legal_more : (m : Model) (log : List Entry) (e : Entry) → IsLegal m log → IsSome (after (state_after m log) e) → IsLegal m (log ++ e ∷ [])
legal_more m log e legal goes =
    subst (λ o. IsSome o) (sym (replay_from_push (opening m) log e)) (then_is (replay m log) (opening m) (λ t. after t e) legal goes)

-- what moves by the entry as a record does shows the new state
abbrev pub Moves : Entry → LocalState → LocalState → Type 0
Moves e kept moved = (s t : LocalState) → kept ≡ without_bytes s → after s e ≡ Some t → moved ≡ without_bytes t

-- what is kept of the longer log
pub keeps_more : (m : Model) (log items : List Entry) (e : Entry) (kept moved : LocalState) (home new : List (Option Mem)) (away left : Away) (was is : Bool) →
    items ≡ log ++ e ∷ [] → Keeps m log kept home away was → IsSome (after (state_after m log) e) → Moves e kept moved →
    AreInPlace (state_after m (log ++ e ∷ [])) (number_away (state_after m (log ++ e ∷ [])) left) new → IsAway (state_after m (log ++ e ∷ [])) left is →
    Keeps m items moved new left is
keeps_more m log items e kept moved home new away left was is same keeps goes moves placed out =
    subst (λ es. Keeps m es moved new left is) (sym same) (record {
      legal = legal_more m log e keeps.legal goes;
      shown = moves (state_after m log) (state_after m (log ++ e ∷ [])) keeps.shown (leads m log e keeps.legal goes);
      in_place = placed;
      out = out;
    })

-- ---- room

added_few : (call : Call) → entries_added call ≤ 3
added_few (QBuf t i user used ts) = omega arith
added_few call = omega arith

long_more : (log items : List Entry) (e : Entry) → items ≡ log ++ e ∷ [] → length items ≡ length log + 1
long_more log items e same = ap (λ es. length es) same ∙ length-append log (e ∷ [])

-- a line that is answered has three further entries to come
pub within_answered : (m : Model) (log items : List Entry) (line : ℕ) (call : Call) (reply : Reply) (lines begun : ℕ) →
    items ≡ log ++ Called line call reply ∷ [] → IsLegal m log → IsSome (after (state_after m log) (Called line call reply)) →
    IsWithin (state_after m log) (length log) lines begun true → IsWithin (state_after m items) (length items) lines begun false
within_answered m log items line call reply lines begun same legal goes within =
    let e : Entry = Called line call reply in
    let s : LocalState = state_after m log in
    let t : LocalState = state_after m (log ++ e ∷ []) in
    let few : (length t.memories ≤ length s.memories + 32) × (entries_to_come t ≤ entries_to_come s + entries_added call) =
    call_few s t line call reply (leads m log e legal goes) in
    let long : length items ≡ length log + 1 = long_more log items e same in
    let P : List Entry → Type 0 = λ es. IsWithin (state_after m es) (length items) lines begun false in
    subst P (sym same) (record {
      few = within.few;
      to_come = omega (arith, long, few.1, added_few call, within.to_come);
      made = omega (arith, few.0, within.made);
    })

-- a step of the device was to come
pub within_step : (m : Model) (log items : List Entry) (e : Entry) (lines begun : ℕ) (unanswered : Bool) →
    items ≡ log ++ e ∷ [] → IsLegal m log → IsStep e → IsSome (after (state_after m log) e) →
    IsWithin (state_after m log) (length log) lines begun unanswered → IsWithin (state_after m items) (length items) lines begun unanswered
within_step m log items e lines begun unanswered same legal step goes within =
    let s : LocalState = state_after m log in
    let t : LocalState = state_after m (log ++ e ∷ []) in
    let one : (length t.memories ≡ length s.memories) × (entries_to_come t + 1 ≤ entries_to_come s) =
    step_one s t e (reached_of m log legal) step (leads m log e legal goes) in
    let long : length items ≡ length log + 1 = long_more log items e same in
    let P : List Entry → Type 0 = λ es. IsWithin (state_after m es) (length items) lines begun unanswered in
    subst P (sym same) (record {
      few = within.few;
      to_come = omega (arith, long, one.1, within.to_come);
      made = omega (arith, one.0, within.made);
    })

-- there is room for it
pub room_for_step : (m : Model) (log : List Entry) (e : Entry) (lines begun : ℕ) (unanswered : Bool) →
    IsLegal m log → IsStep e → IsSome (after (state_after m log) e) →
    IsWithin (state_after m log) (length log) lines begun unanswered → length log < 4 * lines
room_for_step m log e lines begun unanswered legal step goes within =
    let s : LocalState = state_after m log in
    let t : LocalState = state_after m (log ++ e ∷ []) in
    let one : (length t.memories ≡ length s.memories) × (entries_to_come t + 1 ≤ entries_to_come s) =
    step_one s t e (reached_of m log legal) step (leads m log e legal goes) in
    omega (arith, one.1, within.to_come, within.few)
