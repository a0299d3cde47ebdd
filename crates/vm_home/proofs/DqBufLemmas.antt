-- A dqbuf whose queue has something done is answered.
use Rattle.std.proofs.Common.{◌≡◌, ℕ, zero, suc, ◌<◌, Bool, true, false, not, ◌&&◌, List, [], ◌∷◌, length, get_or, Some, None, refl, sym, ap, arith}
use Rattle.std.proofs.lemmas.Bool.{false≢true, lt-ltb}
use Rattle.v4l_const.specs.Model.{queues as types_of}
use Rattle.v4l_rules.specs.Queues.{place_in, has_type}
use Rattle.v4l_rules.specs.Refusals.{first_refusal}
use Rattle.vm_local.specs.declared.call.Call.TheVariants.{DqBuf}
use Rattle.vm_local.specs.State.{QueueState, LocalState, opening_queue, queue_of}
use Rattle.vm_local.specs.Queue.{is_empty, is_owed, can_finish}
use Rattle.vm_local.specs.Calls.{dqbuf_row}
use Rattle.vm_local.specs.Log.{called}
use Rattle.vm_home.specs.Reached.{IsReached}
use Rattle.vm_home.proofs.FactLemmas.{facts_of}
use Rattle.vm_home.proofs.PayloadLemmas.{if_not, plain_goes}

streams_within : (qs : List QueueState) (p : ℕ) → (get_or qs p opening_queue).streaming ≡ true → p < length qs
streams_within [] p streams = absurd (false≢true streams)
streams_within (q ∷ qs) zero streams = omega arith
streams_within (q ∷ qs) (suc p) streams = omega (arith, streams_within qs p streams)

never_again : (blocking empty : Bool) → empty ≡ false → (not blocking && empty) ≡ false
never_again true empty done = refl
never_again false empty done = done

never_locks : (blocking empty a b : Bool) → empty ≡ false → (blocking && empty && a && b) ≡ false
never_locks true true a b done = absurd (false≢true (sym done))
never_locks true false a b done = refl
never_locks false empty a b done = refl

pub dqbuf_goes : (s : LocalState) (line u : ℕ) → IsReached s → s.opened ≡ true → (queue_of s u).streaming ≡ true → is_empty (queue_of s u).done ≡ false →
    called s line (DqBuf u) (dqbuf_row s u).reply ≡ Some (dqbuf_row s u).next
unfolding called dqbuf_row
dqbuf_goes s line u reached opened streams done =
    let p : ℕ = place_in (types_of s.model) u in
    let within : p < length (types_of s.model) = omega (arith, streams_within s.queues p streams, (facts_of s reached).sound.long) in
    let has : has_type s.model u ≡ true = lt-ltb p (length (types_of s.model)) within in
    let pass : first_refusal (dqbuf_row s u).refusals ≡ None =
    if_not _ _ _ (ap not opened) (if_not _ _ _ (ap not has) (if_not _ _ _ (ap not streams)
    (if_not _ _ _ (never_again s.blocking (is_empty (queue_of s u).done) done)
    (if_not _ _ _ (never_locks s.blocking (is_empty (queue_of s u).done) (not (is_owed s u)) (not (can_finish s)) done) refl)))) in
    plain_goes (first_refusal (dqbuf_row s u).refusals) (dqbuf_row s u) s (dqbuf_row s u).reply pass refl done refl
