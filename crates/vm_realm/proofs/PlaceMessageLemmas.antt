-- A message that gives a buffer takes its memory away from those that are lent, and no other message does.
use Rattle.std.proofs.Common.{◌≡◌, ◌≢◌, ◌⊎◌, inl, inr, ℕ, ◌+◌, Bool, true, false, List, [], ◌∷◌, Option, Some, None, map, refl, sym, ap, ◌∙◌, subst, arith, unwrap_or}
use Rattle.std.specs.Prelude.{if◌then◌else◌}
use Rattle.std.specs.List.{filter_map, cons_option}
use Rattle.std.specs.Option.{option_and_then}
use Rattle.std.proofs.lemmas.Bool.{false≢true, cases_Bool, cases_eq, eq-eqb, ne_eqb}
use Rattle.v4l_const.specs.declared.model.Model.{Model}
use Rattle.v4l_const.specs.Model.{queues as types_of, source_queue}
use Rattle.v4l_rules.specs.Queues.{place_in}
use Rattle.vm_frame.specs.declared.mem.Held.{Held}
use Rattle.vm_mem.specs.Lists.{occurrences}
use Rattle.vm_local.specs.declared.buffer.Buffer.{Buffer}
use Rattle.vm_local.specs.declared.buffer.BufferState.TheVariants.{Owed, Done as AsDone}
use Rattle.vm_local.specs.declared.entry.Entry.{Entry}
use Rattle.vm_local.specs.declared.entry.Entry.TheVariants.{Called, Finish, Bad, Give}
use Rattle.vm_local.specs.declared.owed.Owed.{Owed as OwedEntry}
use Rattle.vm_local.specs.declared.owed.OwedItem.{OwedItem}
use Rattle.vm_local.specs.declared.owed.OwedItem.TheVariants.{Buffer as OwedBuffer, Sync}
use Rattle.vm_local.specs.State.{LocalState, queue_of, buffer_of}
use Rattle.vm_local.specs.Kinds.{is_idle, is_away}
use Rattle.vm_local.specs.Listed.{once, IsThere as IsInState}
use Rattle.vm_local.specs.Log.{after, replay_from}
use Rattle.vm_local.specs.Memory.{is_lent}
use Rattle.vm_local.specs.Steps.{with_done, buffer_given, item_given}
use Rattle.vm_local.proofs.StepLemmas.{Gave, given_by}
use Rattle.vm_wire.specs.declared.event.EventMsg.{EventMsg}
use Rattle.vm_wire.specs.declared.event.EventMsg.TheVariants.{Dequeued, Happened}
use Rattle.vm_home.specs.Moves.{memory_at, owes_buffer}
use Rattle.vm_home.specs.Reached.{IsReached}
use Rattle.vm_home.specs.ToCome.{IsStep}
use Rattle.vm_commute.specs.Commute.{is_step, AreSteps}
use Rattle.vm_commute.proofs.EventsLemmas.{by_first as by_one}
use Rattle.vm_exchange.specs.Messages.{flight_of}
use Rattle.vm_stands.proofs.AheadLemmas.{flight_steps}
use Rattle.vm_stands.proofs.FlightLemmas.{all_replay}
use Rattle.std.proofs.lemmas.List.Elements.{All-head, All-tail}
use Rattle.vm_home.proofs.FactLemmas.{Facts, facts_of, reached_after}
use Rattle.vm_home.proofs.OwnLemmas.{IsChanged, changed_at}
use Rattle.vm_home.proofs.PlaceLemmas.{same_test, buffer_at, HasAt, lent_at, lent_from, lent_less, away_busy, Relates, IsLess}
use Rattle.vm_home.proofs.RowLemmas.{given_there, given_relates}
use Rattle.vm_home.proofs.StepLemmas.{steps_to, steps_memory}
use Rattle.vm_home.proofs.StillLemmas.{leaves_still}
use Rattle.vm_exchange.specs.Messages.{made_by, is_first, is_marked}
use Rattle.vm_session.specs.declared.unsent.Unsent.{Unsent}
use Rattle.vm_stands.specs.Flight.{GivesItem, GivesFirst, IsHeldAt, LeadAll}
use Rattle.vm_realm.specs.Places.{numbers_in}
use Rattle.vm_realm.proofs.PlaceLemmas.{joined}

-- ---- buffers keep their memories

same_state : (s t : LocalState) → ◌≡◌ {A = Option LocalState} (Some s) (Some t) → t ≡ s
same_state s t same = cc

step_is : (e : Entry) → is_step e ≡ true → IsStep e
step_is (Called line call reply) step = absurd (false≢true step)
step_is Finish step = tt
step_is Bad step = tt
step_is Give step = tt

memory_after : (es : List Entry) (s t : LocalState) (u i : ℕ) → AreSteps es → IsReached s → replay_from s es ≡ Some t → memory_at t u i ≡ memory_at s u i
memory_after [] s t u i are reached leads = ap (λ (x : LocalState). memory_at x u i) (same_state s t leads)
memory_after (e ∷ es) s t u i are reached leads =
    let P : Entry → Type 0 = λ x. is_step x ≡ true in
    let by : _ = by_one s t e es leads in
    memory_after es by.0 t u i (All-tail P e es are) (reached_after s by.0 e reached by.1) by.2
    ∙ steps_memory s by.0 u i (steps_to s by.0 e reached (step_is e (All-head P e es are)) by.1)

pub memory_stays : (id : ℕ) (r s : LocalState) (u i : ℕ) (es : List Unsent) → IsReached r → LeadAll id r es s → memory_at s u i ≡ memory_at r u i
memory_stays id r s u i es reached leads =
    memory_after (flight_of r.model (map (λ (e : Unsent). e.msg) es)) r s u i (flight_steps r.model (map (λ (e : Unsent). e.msg) es)) reached (all_replay id r s es leads)

-- ---- a buffer is given

same_number : (k m n : ℕ) → Some k ≡ Some m → Some k ≡ Some n → m ≡ n
same_number k m n one two = cc

-- its memory was lent and is no more; every other one is lent where it was
pub record GivesOne (s t : LocalState) (n : ℕ) : Type 0 where
  pub was : is_lent s n ≡ true
  pub gone : is_lent t n ≡ false
  pub others : (m : ℕ) → m ≢ n → is_lent t m ≡ is_lent s m

gives_one : (s : LocalState) (u i : ℕ) (rest : List OwedEntry) → IsReached s → s.owed ≡ record { queue = u; item = OwedBuffer i } ∷ rest →
    GivesOne s (buffer_given (record s { owed = rest }) u i) (memory_at s u i)
gives_one s u i rest reached owed = record { was = was; gone = gone; others = others }
  where
    f : Facts s
    f = facts_of s reached

    p : ℕ
    p = place_in (types_of s.model) u

    n : ℕ
    n = memory_at s u i

    new : LocalState
    new = buffer_given (record s { owed = rest }) u i

    c : Buffer
    c = record (buffer_of (queue_of s u) i) { state = AsDone }

    there : IsInState Owed (queue_of s u) i
    there = given_there s u i rest f.sound owed

    busy : is_idle (buffer_at s.queues p i).state ≡ false
    busy = ap is_idle there.1

    has : HasAt s.queues p i n
    has =
        let w : (m : ℕ) × HasAt s.queues p i m = f.owns.has p i busy in
        w.1 ∙ ap (λ m. Some m) (sym (ap (λ o. unwrap_or o 0) w.1))

    was : is_lent s n ≡ true
    was = lent_from s p i n has (ap is_away there.1)

    changed : (k j : ℕ) → IsChanged s.queues new.queues p i c k j
    changed = changed_at s.queues p i c (with_done (queue_of s u) i) there.0 refl

    less : Relates IsLess s.queues new.queues
    less = given_relates s u i there

    not_lent : is_lent new n ≡ true → ⊥
    not_lent lent =
        let x : _ = lent_at new n lent in
        elim (changed x.0 x.1) as (λ _. ⊥) [
          | inl here ↦ false≢true (ap (λ (b : Buffer). is_away b.state) (sym here.2) ∙ x.3)
          | inr other ↦
              let still : is_idle (buffer_at s.queues x.0 x.1).state ≡ false = away_busy (buffer_at s.queues x.0 x.1).state (ap (λ (b : Buffer). is_away b.state) (sym other.1) ∙ x.3) in
              let same : (x.0 ≡ p) × (x.1 ≡ i) = f.owns.busy x.0 x.1 p i n still busy (ap (λ (b : Buffer). b.memory) (sym other.1) ∙ x.2) has in
              other.0 same.0 same.1
        ]

    gone : is_lent new n ≡ false
    gone = elim (cases_Bool (is_lent new n)) as (λ _. is_lent new n ≡ false) [
      | inr not ↦ not
      | inl lent ↦ absurd (not_lent lent)
    ]

    others : (m : ℕ) → m ≢ n → is_lent new m ≡ is_lent s m
    others m apart = same_test (is_lent new m) (is_lent s m) (lent_less s new less m) (λ lent.
        let x : _ = lent_at s m lent in
        elim (changed x.0 x.1) as (λ _. is_lent new m ≡ true) [
          | inl here ↦
              let P : ℕ → ℕ → Type 0 = λ k j. HasAt s.queues k j m in
              let mine : HasAt s.queues p i m = subst (λ j. P p j) here.1 (subst (λ k. P k x.1) here.0 x.2) in
              absurd (apart (same_number n m n (sym has ∙ mine) refl))
          | inr other ↦ lent_from new x.0 x.1 m (ap (λ (b : Buffer). b.memory) other.1 ∙ x.2) (ap (λ (b : Buffer). is_away b.state) other.1 ∙ x.3)
        ])

one_fewer : (s t : LocalState) (n m : ℕ) → GivesOne s t n → once (is_lent s m) ≡ occurrences m (n ∷ []) + once (is_lent t m)
one_fewer s t n m gives = elim (cases_eq m n) as (λ _. once (is_lent s m) ≡ occurrences m (n ∷ []) + once (is_lent t m)) [
  | inl same ↦
      let here : occurrences m (n ∷ []) ≡ 1 = ap (λ b. if b then 0 + 1 else 0) (eq-eqb n m (sym same)) in
      let was : once (is_lent s m) ≡ 1 = ap (λ k. once (is_lent s k)) same ∙ ap once gives.was in
      let gone : once (is_lent t m) ≡ 0 = ap (λ k. once (is_lent t k)) same ∙ ap once gives.gone in
      omega (arith, here, was, gone)
  | inr apart ↦
      let none : occurrences m (n ∷ []) ≡ 0 = ap (λ b. if b then 0 + 1 else 0) (ne_eqb n m (λ same. apart (sym same))) in
      let still : once (is_lent t m) ≡ once (is_lent s m) = ap once (gives.others m apart) in
      omega (arith, none, still)
]

-- ---- a message

abbrev pub held_in : Option Held → List Held
held_in None = []
held_in (Some h) = h ∷ []

-- the step that made the frame leaves the memories where they are
one_step : (o : Option LocalState) (t : LocalState) → option_and_then (λ u. replay_from u []) o ≡ Some t → o ≡ Some t
one_step None t is = is
one_step (Some u) t is = is

frame_lent : (s t : LocalState) (e : Entry) (m : ℕ) → IsReached s → (e ≡ Finish) ⊎ (e ≡ Bad) → after s e ≡ Some t → (is_lent t m ≡ is_lent s m) × IsReached t
frame_lent s t e m reached (inl is) leads =
    let goes : after s Finish ≡ Some t = subst (λ d. after s d ≡ Some t) is leads in
    ((leaves_still s t Finish reached refl goes).lent m, reached_after s t Finish reached goes)
frame_lent s t e m reached (inr is) leads =
    let goes : after s Bad ≡ Some t = subst (λ d. after s d ≡ Some t) is leads in
    ((leaves_still s t Bad reached refl goes).lent m, reached_after s t Bad reached goes)

pub made_lent : (model : Model) (msg : EventMsg) (s u : LocalState) (m : ℕ) → IsReached s → replay_from s (made_by model msg) ≡ Some u → (is_lent u m ≡ is_lent s m) × IsReached u
made_lent model (Happened session event) s u m reached goes = frame_lent s u Finish m reached (inl refl) (one_step (after s Finish) u goes)
made_lent model (Dequeued session b) s u m reached goes = by_first (is_first (source_queue model) model b) (is_marked model b) goes
  where
    by_first : (first marked : Bool) → replay_from s (if first then (if marked then Bad else Finish) ∷ [] else []) ≡ Some u → (is_lent u m ≡ is_lent s m) × IsReached u
    by_first true true goes = frame_lent s u Bad m reached (inr refl) (one_step (after s Bad) u goes)
    by_first true false goes = frame_lent s u Finish m reached (inl refl) (one_step (after s Finish) u goes)
    by_first false marked goes =
        let same : u ≡ s = same_state s u goes in
        (ap (λ (x : LocalState). is_lent x m) same, subst IsReached (sym same) reached)

-- what is given first, by what is owed first
given_count : (id : ℕ) (s t : LocalState) (owed : List OwedEntry) (e : Unsent) (m : ℕ) → IsReached s → s.owed ≡ owed → GivesFirst id s owed e → after s Give ≡ Some t →
    once (is_lent s m) ≡ occurrences m (numbers_in s (held_in e.held)) + once (is_lent t m)
given_count id s t [] e m reached owed gives goes = absurd gives
given_count id s t (o ∷ rest) e m reached owed gives goes = by_item o.item refl gives
  where
    Counts : Option Held → Type 0
    Counts held = once (is_lent s m) ≡ occurrences m (numbers_in s (held_in held)) + once (is_lent t m)

    sync_stays : (frame : ℕ) → o.item ≡ Sync frame → is_lent t m ≡ is_lent s m
    sync_stays frame is =
        let none : owes_buffer s.owed ≡ false = ap owes_buffer owed ∙ ap (λ x. owes_buffer ((record { queue = o.queue; item = x }) ∷ rest)) is in
        (leaves_still s t Give reached none goes).lent m

    buffer_stays : (i : ℕ) → o.item ≡ OwedBuffer i → GivesOne s t (memory_at s o.queue i)
    buffer_stays i is =
        let first : s.owed ≡ record { queue = o.queue; item = OwedBuffer i } ∷ rest = owed ∙ ap (λ x. (record { queue = o.queue; item = x }) ∷ rest) is in
        subst (λ x. GivesOne s x (memory_at s o.queue i)) (sym (given_first first)) (gives_one s o.queue i rest reached first)
      where
        taken_first : List OwedEntry → LocalState
        taken_first [] = s
        taken_first (x ∷ xs) = item_given (record s { owed = xs }) x.queue x.item

        given_same : (d : OwedEntry) (ds : List OwedEntry) → d ∷ ds ≡ record { queue = o.queue; item = OwedBuffer i } ∷ rest →
            item_given (record s { owed = ds }) d.queue d.item ≡ buffer_given (record s { owed = rest }) o.queue i
        given_same d ds same =
            let f : List OwedEntry → LocalState = λ xs. taken_first xs in
            ap f same

        given_first : s.owed ≡ record { queue = o.queue; item = OwedBuffer i } ∷ rest → t ≡ buffer_given (record s { owed = rest }) o.queue i
        given_first first =
            let w : Gave s s.owed t = given_by s t goes in
            let same : w.0 ∷ w.1 ≡ record { queue = o.queue; item = OwedBuffer i } ∷ rest = sym w.2 ∙ first in
            w.3 ∙ given_same w.0 w.1 same

    held_counts : (i : ℕ) (held : Option Held) → GivesOne s t (memory_at s o.queue i) → IsHeldAt s o.queue i held → Counts held
    held_counts i None one at = absurd at
    held_counts i (Some h) one at =
        one_fewer s t (memory_at s o.queue i) m one ∙ ap (λ k. occurrences m (k ∷ []) + once (is_lent t m)) (sym (λ j. memory_at s (at.queue j) (at.index j)))

    by_item : (item : OwedItem) → o.item ≡ item → GivesItem id s o.queue item e → Counts e.held
    by_item (OwedBuffer i) is gives = held_counts i e.held (buffer_stays i is) gives.held
    by_item (Sync frame) is gives = subst Counts (sym gives.held) (omega (arith, ap once (sync_stays frame is)))

-- ---- messages

pub numbers_first : (s : LocalState) (m : ℕ) (o : Option Held) (hs : List Held) →
    occurrences m (numbers_in s (cons_option o hs)) ≡ occurrences m (numbers_in s (held_in o)) + occurrences m (numbers_in s hs)
numbers_first s m None hs = omega arith
numbers_first s m (Some h) hs = joined m (memory_at s h.queue h.index ∷ []) (numbers_in s hs)

numbers_later : (s t : LocalState) (o : Option Held) → ((u i : ℕ) → memory_at t u i ≡ memory_at s u i) → numbers_in t (held_in o) ≡ numbers_in s (held_in o)
numbers_later s t None same = refl
numbers_later s t (Some h) same = ap (λ n. n ∷ []) (same h.queue h.index)

-- the memories that messages give are as many as are lent in front of them and not behind them
pub messages_count : (id : ℕ) (s t : LocalState) (es : List Unsent) (m : ℕ) → IsReached s → LeadAll id s es t →
    once (is_lent s m) ≡ occurrences m (numbers_in t (filter_map (λ (e : Unsent). e.held) es)) + once (is_lent t m)
messages_count id s t [] m reached leads =
    let same : once (is_lent t m) ≡ once (is_lent s m) = ap (λ (x : LocalState). once (is_lent x m)) leads in
    omega (arith, same)
messages_count id s t (e ∷ es) m reached (u, first, rest) =
    let made : (is_lent first.made m ≡ is_lent s m) × IsReached first.made = made_lent s.model e.msg s first.made m reached first.making in
    let between : IsReached u = reached_after first.made u Give made.1 first.given in
    let one : once (is_lent first.made m) ≡ occurrences m (numbers_in first.made (held_in e.held)) + once (is_lent u m) =
    given_count id first.made u first.made.owed e m made.1 refl first.gives first.given in
    let more : once (is_lent u m) ≡ occurrences m (numbers_in t (filter_map (λ (d : Unsent). d.held) es)) + once (is_lent t m) = messages_count id u t es m between rest in
    let same : numbers_in t (held_in e.held) ≡ numbers_in first.made (held_in e.held) =
    numbers_later first.made t e.held (λ k i. memory_stays id u t k i es between rest ∙ steps_memory first.made u k i (steps_to first.made u Give made.1 tt first.given)) in
    let all : occurrences m (numbers_in t (filter_map (λ (d : Unsent). d.held) (e ∷ es))) ≡ occurrences m (numbers_in first.made (held_in e.held)) + occurrences m (numbers_in t (filter_map (λ (d : Unsent). d.held) es)) =
    numbers_first t m e.held (filter_map (λ (d : Unsent). d.held) es) ∙ ap (λ ns. occurrences m ns + occurrences m (numbers_in t (filter_map (λ (d : Unsent). d.held) es))) same in
    let was : once (is_lent first.made m) ≡ once (is_lent s m) = ap once made.0 in
    omega (arith, was, one, more, all)
