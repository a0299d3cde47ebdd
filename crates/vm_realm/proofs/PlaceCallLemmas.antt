-- What a call that crosses and stops no queue does to the memories that are lent: that which goes along with it is lent then.
use Rattle.std.proofs.Common.{◌≡◌, inl, inr, ℕ, ◌+◌, Bool, true, false, [], ◌∷◌, Option, Some, None, refl, sym, ap, ◌∙◌, subst, arith}
use Rattle.std.specs.Prelude.{if◌then◌else◌}
use Rattle.std.proofs.lemmas.Bool.{false≢true, true≢false, cases_Bool, cases_eq, eq-eqb, ne_eqb}
use Rattle.vm_mem.specs.Lists.{occurrences}
use Rattle.vm_local.specs.declared.call.Call.{Call}
use Rattle.vm_local.specs.declared.call.Call.TheVariants.{OpenHandle, CloseHandle, ReqBufs, UAlloc, QBuf, StreamOff, Poke, Fill}
use Rattle.vm_local.specs.declared.reply.Reply.{Reply}
use Rattle.vm_local.specs.declared.reply.Reply.TheVariants.{Refused}
use Rattle.vm_local.specs.State.{LocalState}
use Rattle.vm_local.specs.Calls.{Row}
use Rattle.vm_local.specs.Listed.{once}
use Rattle.vm_local.specs.Log.{row_for, called}
use Rattle.vm_local.specs.Memory.{is_lent}
use Rattle.vm_local.specs.Same.{address_in}
use Rattle.vm_local.proofs.KeptLemmas.{refused_call}
use Rattle.vm_commute.specs.Commute.{may_cross}
use Rattle.vm_home.specs.Home.{is_kept}
use Rattle.vm_home.specs.Moves.{is_refusal, is_stopping, goes_along}
use Rattle.vm_home.specs.Reached.{IsReached}
use Rattle.vm_home.proofs.DeviceLemmas.{SendsTo, qbuf_sends, qbuf_kept}
use Rattle.vm_home.proofs.MoveLemmas.{Went, went, opened_bare}
use Rattle.vm_home.proofs.PlaceLemmas.{same_test, lent_used}
use Rattle.vm_home.proofs.StillLemmas.{LeavesHome, leaves_call, used_kept}
use Rattle.vm_log.specs.Answers.{AlongWith}
use Rattle.vm_log.specs.declared.away.Away.{Away}
use Rattle.vm_log.specs.declared.away.Away.TheVariants.{Nothing, Sent}
use Rattle.vm_realm.specs.Places.{sent_number}
use Rattle.vm_realm.proofs.PlaceShutLemmas.{shut_lends}

-- no memory is lent more but the one that was sent, and the handle has no others
pub record Crossed (r u : LocalState) (away : Away) : Type 0 where
  pub lent : (m : ℕ) → once (is_lent u m) ≡ once (is_lent r m) + occurrences m (sent_number away)
  pub kept : (m : ℕ) → is_kept u m ≡ true → is_kept r m ≡ true

crossed_same : (r u : LocalState) (away : Away) → away ≡ Nothing → ((m : ℕ) → is_lent u m ≡ is_lent r m) → ((m : ℕ) → is_kept u m ≡ true → is_kept r m ≡ true) → Crossed r u away
crossed_same r u away none lent kept = record {
  lent = λ m.
      let sent : occurrences m (sent_number away) ≡ 0 = ap (λ a. occurrences m (sent_number a)) none in
      let same : once (is_lent u m) ≡ once (is_lent r m) = ap once (lent m) in
      omega (arith, sent, same);
  kept = kept;
}

sent_one : (r u : LocalState) (n m : ℕ) → SendsTo r u n → is_lent r n ≡ false → once (is_lent u m) ≡ once (is_lent r m) + occurrences m (n ∷ [])
sent_one r u n m sends unlent = elim (cases_eq m n) as (λ _. once (is_lent u m) ≡ once (is_lent r m) + occurrences m (n ∷ [])) [
  | inl same ↦
      let here : occurrences m (n ∷ []) ≡ 1 = ap (λ b. if b then 0 + 1 else 0) (eq-eqb n m (sym same)) in
      let now : once (is_lent u m) ≡ 1 = ap (λ k. once (is_lent u k)) same ∙ ap once sends.mine in
      let was : once (is_lent r m) ≡ 0 = ap (λ k. once (is_lent r k)) same ∙ ap once unlent in
      omega (arith, here, now, was)
  | inr apart ↦
      let none : occurrences m (n ∷ []) ≡ 0 = ap (λ b. if b then 0 + 1 else 0) (ne_eqb n m (λ same. apart (sym same))) in
      let still : once (is_lent u m) ≡ once (is_lent r m) = ap once (same_test (is_lent u m) (is_lent r m) (sends.lent m apart) (sends.still m)) in
      omega (arith, none, still)
]

-- a call that isn't refused
crossed_done : (r u : LocalState) (line : ℕ) (call : Call) (reply : Reply) (away : Away) → IsReached r → may_cross call ≡ true → is_stopping call ≡ false → is_refusal reply ≡ false →
    called r line call reply ≡ Some u → AlongWith (goes_along r call) away reply → ((nonblock : Bool) → call ≡ OpenHandle nonblock → r.opened ≡ false) → Crossed r u away
crossed_done r u line (OpenHandle nonblock) reply away reached crosses goes answers leads along first =
    let w : Went (row_for r line (OpenHandle nonblock) reply) reply u = went r line (OpenHandle nonblock) reply u answers leads in
    let bare : (m : ℕ) → is_kept u m ≡ true → ⊥ = λ m kept. opened_bare r nonblock m (subst (λ (x : LocalState). is_kept x m ≡ true) w.next kept) in
    let open_now : u.opened ≡ true = ap (λ (x : LocalState). x.opened) w.next in
    let none : (m : ℕ) → is_lent u m ≡ false = λ m. elim (cases_Bool (is_lent u m)) as (λ _. is_lent u m ≡ false) [
      | inr not ↦ not
      | inl lent ↦ absurd (bare m (used_kept u m open_now (lent_used u m lent)))
    ] in
    crossed_same r u away along (λ m. none m ∙ sym (shut_lends r m reached (first nonblock refl))) (λ m kept. absurd (bare m kept))
crossed_done r u line CloseHandle reply away reached crosses goes answers leads along first = absurd (true≢false goes)
crossed_done r u line (ReqBufs t k n) reply away reached crosses goes answers leads along first = absurd (true≢false goes)
crossed_done r u line (StreamOff t) reply away reached crosses goes answers leads along first = absurd (true≢false goes)
crossed_done r u line (UAlloc name len off) reply away reached crosses goes answers leads along first = absurd (false≢true crosses)
crossed_done r u line (Poke name off bytes) reply away reached crosses goes answers leads along first = absurd (false≢true crosses)
crossed_done r u line (Fill name seed) reply away reached crosses goes answers leads along first = absurd (false≢true crosses)
crossed_done r u line (QBuf t i user used ts) reply away reached crosses goes answers leads along first =
    let call : Call = QBuf t i user used ts in
    let row : Row = row_for r line call reply in
    let w : Went row reply u = went r line call reply u answers leads in
    let found : _ = qbuf_sends r line (address_in reply) t i user used ts reached w.pass in
    let n : ℕ = found.0 in
    let sent : away ≡ Sent n = (subst (λ o. AlongWith o away reply) found.1.along along).0 in
    let sends : SendsTo r u n = subst (λ x. SendsTo r x n) (sym w.next) found.2 in
    record {
      lent = λ m. sent_one r u n m sends found.1.unlent ∙ ap (λ a. once (is_lent r m) + occurrences m (sent_number a)) (sym sent);
      kept = λ m kept. qbuf_kept r line (address_in reply) t i user used ts m reached w.pass (subst (λ (x : LocalState). is_kept x m ≡ true) w.next kept);
    }
crossed_done r u line call reply away reached crosses goes answers leads along first =
    let leaves : LeavesHome r u = leaves_call r u line call reply reached refl leads in
    crossed_same r u away along leaves.lent leaves.kept

-- no memory goes along with one that is refused
refused_away : (along : Option ℕ) (away : Away) (reply : Reply) → AlongWith along away reply → is_refusal reply ≡ true → away ≡ Nothing
refused_away None away reply with_it refused = with_it
refused_away (Some n) away reply with_it refused = absurd (true≢false (sym refused ∙ with_it.1))

pub refused_same : (r u : LocalState) (line : ℕ) (call : Call) (reply : Reply) → is_refusal reply ≡ true → called r line call reply ≡ Some u → u ≡ r
refused_same r u line call (Refused errno) refused leads = refused_call r line call errno u leads
refused_same r u line call reply refused leads = absurd (false≢true refused)

pub crossed : (r u : LocalState) (line : ℕ) (call : Call) (reply : Reply) (away : Away) → IsReached r → may_cross call ≡ true → is_stopping call ≡ false →
    called r line call reply ≡ Some u → AlongWith (goes_along r call) away reply → ((nonblock : Bool) → call ≡ OpenHandle nonblock → r.opened ≡ false) → Crossed r u away
crossed r u line call reply away reached crosses goes leads along first = elim (cases_Bool (is_refusal reply)) as (λ _. Crossed r u away) [
  | inr answers ↦ crossed_done r u line call reply away reached crosses goes answers leads along first
  | inl refused ↦
      let same : u ≡ r = refused_same r u line call reply refused leads in
      crossed_same r u away (refused_away (goes_along r call) away reply along refused) (λ m. ap (λ (x : LocalState). is_lent x m) same) (λ m kept. subst (λ (x : LocalState). is_kept x m ≡ true) same kept)
]
