-- What a legal entry was, told by the state that it leads to.
use Rattle.std.proofs.Common.{◌≡◌, ◌⊎◌, inl, inr, ℕ, zero, suc, get_or, Bool, true, false, List, [], ◌∷◌, Option, Some, None, refl, sym, subst, ◌∙◌, ◌++◌, ◌&&◌, not, true≢false, if◌then◌else◌}
use Rattle.std.specs.Option.{option_and_then}
use Rattle.std.proofs.lemmas.Option.{none-some}
use Rattle.v4l_const.specs.declared.errno.Errno.{Errno}
use Rattle.v4l_const.specs.declared.errno.Errno.TheVariants.{Enomem}
use Rattle.v4l_format.specs.Fmt.{picture_size}
use Rattle.vm_local.specs.declared.entry.Entry.{Entry}
use Rattle.vm_local.specs.declared.owed.Owed.{Owed}
use Rattle.vm_local.specs.declared.reply.Reply.{Reply}
use Rattle.vm_local.specs.declared.reply.Reply.TheVariants.{Refused}
use Rattle.vm_local.specs.State.{LocalState}
use Rattle.vm_local.specs.Same.{same_reply}
use Rattle.vm_local.specs.Queue.{can_finish}
use Rattle.vm_local.specs.Calls.{Row}
use Rattle.vm_local.specs.Steps.{finished, marked_bad, given, given_from, item_given, target, with_picture, with_target_used, heads_taken, sync_of, buffers_taken}
use Rattle.v4l_rules.specs.Refusals.{first_refusal}
use Rattle.vm_local.specs.Log.{answered, after, replay_from}
use Rattle.vm_local.specs.Record.{is_refusal}
use Rattle.vm_local.proofs.KeptLemmas.{some_same}

-- what `if b then Some x else None` tells
pub chosen_by : {A : Type 0} (b : Bool) (x y : A) → (if b then Some x else None) ≡ Some y → (b ≡ true) × (y ≡ x)
chosen_by true x y h = (refl, sym (some_same x y x h))
chosen_by false x y h = absurd (none-some y h)

-- what a refusal that doesn't apply tells
not_so : {A : Type 0} (b : Bool) (x : A) (o : Option A) → (if b then Some x else o) ≡ None → (b ≡ false) × (o ≡ None)
not_so true x o h = absurd (none-some x (sym h))
not_so false x o h = (refl, h)

-- what it tells that no refusal applies: none of the tests holds
pub passes : (rs : List (Bool × Errno)) → first_refusal rs ≡ None → (k : ℕ) → (get_or rs k (false, Enomem)).0 ≡ false
passes [] h k = refl
passes (r ∷ rs) h zero = (not_so r.0 r.1 (first_refusal rs) h).0
passes (r ∷ rs) h (suc k) = passes rs (not_so r.0 r.1 (first_refusal rs) h).1 k

went : (waits same : Bool) (next t : LocalState) → (if not waits && same then Some next else None) ≡ Some t →
    (waits ≡ false) × (same ≡ true) × (t ≡ next)
went true same next t h = absurd (none-some t h)
went false true next t h = (refl, refl, sym (some_same next t next h))
went false false next t h = absurd (none-some t h)

-- the call leads to its row's next state: no refusal applies, it doesn't wait, and it has the row's reply
abbrev pub Went : Option Errno → Row → Reply → LocalState → Type 0
Went refused row reply t = (refused ≡ None) × (row.waits ≡ false) × (same_reply row.reply reply ≡ true) × (t ≡ row.next)

pub answered_by : (refused : Option Errno) (row : Row) (s : LocalState) (reply : Reply) (t : LocalState) → answered refused row s reply ≡ Some t →
    (t ≡ s) ⊎ Went refused row reply t
answered_by (Some e) row s reply t h = inl (chosen_by (same_reply (Refused e) reply) s t h).1
answered_by None row s reply t h =
    elim (row.may_lack_memory && same_reply (Refused Enomem) reply) as (λ b.
    (if b then Some s else (if not row.waits && same_reply row.reply reply then Some row.next else None)) ≡ Some t →
    (t ≡ s) ⊎ Went None row reply t) [
      | true ↦ λ k. inl (sym (some_same s t s k))
      | false ↦ λ k. let w : _ = went row.waits (same_reply row.reply reply) row.next t k in inr (refl, w.0, w.1, w.2)
    ] h

never_refused : (e : Errno) (reply : Reply) → is_refusal reply ≡ false → same_reply (Refused e) reply ≡ false
never_refused e (Refused d) done = absurd (true≢false done)
never_refused e reply done = refl

-- a call that isn't refused is done as its row says
pub done_by : (refused : Option Errno) (row : Row) (s : LocalState) (reply : Reply) (t : LocalState) → is_refusal reply ≡ false →
    answered refused row s reply ≡ Some t → Went refused row reply t
done_by (Some e) row s reply t done h =
    absurd (true≢false (sym (chosen_by (same_reply (Refused e) reply) s t h).0 ∙ never_refused e reply done))
done_by None row s reply t done h =
    let goes : Option LocalState = if not row.waits && same_reply row.reply reply then Some row.next else None in
    let P : Bool → Type 0 = λ g. (if row.may_lack_memory && g then Some s else goes) ≡ Some t in
    let passed : goes ≡ Some t =
    elim row.may_lack_memory as (λ b. (if b && false then Some s else goes) ≡ Some t → goes ≡ Some t) [ true ↦ λ k. k | false ↦ λ k. k ]
    (subst P (never_refused Enomem reply done) h) in
    let w : _ = went row.waits (same_reply row.reply reply) row.next t passed in (refl, w.0, w.1, w.2)

-- the state after a finished frame, and after a failed one
abbrev pub frame_made : LocalState → LocalState
frame_made s = with_picture s (with_target_used s (picture_size (target s).format) (heads_taken s true (sync_of s ++ buffers_taken s)))

abbrev pub frame_failed : LocalState → LocalState
frame_failed s = with_target_used s 0 (heads_taken s false (buffers_taken s))

pub finished_by : (s t : LocalState) → finished s ≡ Some t → (can_finish s ≡ true) × (t ≡ frame_made s)
unfolding finished
finished_by s t h = chosen_by (can_finish s) (frame_made s) t h

pub failed_by : (s t : LocalState) → marked_bad s ≡ Some t → (can_finish s ≡ true) × (t ≡ frame_failed s)
unfolding marked_bad
failed_by s t h = chosen_by (can_finish s) (frame_failed s) t h

-- something was owed, and it was given
abbrev pub Gave : LocalState → List Owed → LocalState → Type 0
Gave s owed t = (o : Owed) × (rest : List Owed) × (owed ≡ o ∷ rest) × (t ≡ item_given (record s { owed = rest }) o.queue o.item)

given_of : (s : LocalState) (owed : List Owed) (t : LocalState) → given_from s owed ≡ Some t → Gave s owed t
given_of s [] t h = absurd (none-some t h)
given_of s (o ∷ rest) t h = (o, rest, refl, sym (some_same _ t t h))

pub given_by : (s t : LocalState) → given s ≡ Some t → Gave s s.owed t
unfolding given
given_by s t h = given_of s s.owed t h

-- what each entry keeps, a legal log keeps
pub kept_by_all : (P : LocalState → Type 0) → ((s t : LocalState) (e : Entry) → P s → after s e ≡ Some t → P t) →
    (log : List Entry) (s t : LocalState) → P s → replay_from s log ≡ Some t → P t
kept_by_all P step [] s t start h = subst P (some_same s t s h) start
kept_by_all P step (e ∷ es) s t start h =
    let go : (o : Option LocalState) → after s e ≡ o → option_and_then (λ u. replay_from u es) o ≡ Some t → P t = λ o.
    elim o as (λ o. after s e ≡ o → option_and_then (λ u. replay_from u es) o ≡ Some t → P t) [
      | None ↦ λ was k. absurd (none-some t k)
      | Some u ↦ λ was k. kept_by_all P step es u t (step s u e start was) k
    ] in
    go (after s e) refl h
