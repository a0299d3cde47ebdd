-- What a message gives.
use Rattle.std.proofs.Common.{◌≡◌, ◌⊎◌, inl, inr, ℕ, Bool, true, false, List, [], ◌∷◌, ◌++◌, Option, Some, None, IsSome, refl, sym, ap, ◌∙◌, subst, unwrap_or, if◌then◌else◌}
use Rattle.std.specs.Option.{option_and_then}
use Rattle.v4l_const.specs.declared.model.Model.{Model}
use Rattle.v4l_const.specs.Model.{source_queue}
use Rattle.vm_frame.specs.declared.mem.Held.{Held}
use Rattle.vm_wire.specs.declared.event.EventMsg.{EventMsg}
use Rattle.vm_wire.specs.declared.event.EventMsg.TheVariants.{Dequeued, Happened}
use Rattle.vm_local.specs.declared.entry.Entry.{Entry}
use Rattle.vm_local.specs.declared.entry.Entry.TheVariants.{Finish, Bad, Give}
use Rattle.vm_local.specs.declared.owed.Owed.{Owed}
use Rattle.vm_local.specs.declared.owed.OwedItem.{OwedItem}
use Rattle.vm_local.specs.declared.owed.OwedItem.TheVariants.{Buffer as OwedBuffer, Sync}
use Rattle.vm_local.specs.State.{LocalState}
use Rattle.vm_local.specs.Steps.{given, given_from}
use Rattle.vm_local.specs.Log.{after, replay_from}
use Rattle.vm_home.specs.Home.{IsMemory}
use Rattle.vm_home.specs.Moves.{is_buffer, owes_buffer, moves_at}
use Rattle.vm_home.specs.ToCome.{IsStep}
use Rattle.vm_log.specs.Answers.{number_in, number_owed}
use Rattle.vm_exchange.specs.Messages.{is_marked, is_first, frame_step, made_by, steps_of}
use Rattle.vm_handle.specs.Messages.{GivesItem, GivesFirst, state_made}

-- ---- what is given

item_buffer : (s : LocalState) (t : ℕ) (item : OwedItem) (msg : EventMsg) (held : Held) → GivesItem s t item msg (Some held) →
    (is_buffer item ≡ true) × IsMemory s (number_in s item t) held.mem
item_buffer s t (OwedBuffer i) (Dequeued session b) held gives = (refl, gives.4)
item_buffer s t (OwedBuffer i) (Happened session event) held gives = absurd gives
item_buffer s t (Sync frame) (Dequeued session b) held gives = absurd gives
item_buffer s t (Sync frame) (Happened session event) held gives = absurd gives

-- a buffer, with its memory
pub gives_buffer : (s : LocalState) (owed : List Owed) (msg : EventMsg) (held : Held) → GivesFirst s owed msg (Some held) →
    (owes_buffer owed ≡ true) × IsMemory s (number_owed s owed) held.mem
gives_buffer s [] msg held gives = absurd gives
gives_buffer s (o ∷ owed) msg held gives = item_buffer s o.queue o.item msg held gives

item_event : (s : LocalState) (t : ℕ) (item : OwedItem) (msg : EventMsg) → GivesItem s t item msg None → is_buffer item ≡ false
item_event s t (OwedBuffer i) (Dequeued session b) gives = absurd gives
item_event s t (OwedBuffer i) (Happened session event) gives = absurd gives
item_event s t (Sync frame) (Dequeued session b) gives = absurd gives
item_event s t (Sync frame) (Happened session event) gives = refl

-- an event
pub gives_event : (s : LocalState) (owed : List Owed) (msg : EventMsg) → GivesFirst s owed msg None → owes_buffer owed ≡ false
gives_event s [] msg gives = absurd gives
gives_event s (o ∷ owed) msg gives = item_event s o.queue o.item msg gives

-- what gives something can be logged
some_given : (s : LocalState) (owed : List Owed) (msg : EventMsg) (held : Option Held) → GivesFirst s owed msg held → IsSome (given_from s owed)
some_given s [] msg held gives = absurd gives
some_given s (o ∷ owed) msg held gives = refl

pub may_give : (s : LocalState) (msg : EventMsg) (held : Option Held) → GivesFirst s s.owed msg held → IsSome (after s Give)
unfolding given
may_give s msg held gives = some_given s s.owed msg held gives

-- ---- the step that made the frame

-- a step that makes a frame
abbrev pub Makes : Entry → Type 0
Makes e = (e ≡ Finish) ⊎ (e ≡ Bad)

frame_makes : (marked : Bool) → Makes (if marked then Bad else Finish)
frame_makes true = inr refl
frame_makes false = inl refl

one_step : (first : Bool) (x e : Entry) → Makes x → e ∷ [] ≡ (if first then x ∷ [] else []) → Makes e
one_step true x e makes is = subst Makes (sym (ap (λ (es : List Entry). head_or es x) is)) makes
  where
    head_or : List Entry → Entry → Entry
    head_or [] d = d
    head_or (e ∷ es) d = e
one_step false x e makes is = cc

pub made_makes : (m : Model) (msg : EventMsg) (e : Entry) → e ∷ [] ≡ made_by m msg → Makes e
made_makes m (Happened session event) e is = one_step true Finish e (inl refl) is
made_makes m (Dequeued session b) e is = one_step (is_first (source_queue m) m b) (frame_step m b) e (frame_makes (is_marked m b)) is

pub makes_step : (e : Entry) → Makes e → IsStep e
makes_step e (inl is) = subst IsStep (sym is) tt
makes_step e (inr is) = subst IsStep (sym is) tt

pub makes_stay : (s : LocalState) (e : Entry) → Makes e → moves_at s e ≡ false
makes_stay s e (inl is) = subst (λ x. moves_at s x ≡ false) (sym is) refl
makes_stay s e (inr is) = subst (λ x. moves_at s x ≡ false) (sym is) refl

-- the first of some steps can be logged
pub first_goes : (o : Option LocalState) (f : LocalState → Option LocalState) → IsSome (option_and_then f o) → IsSome o
first_goes None f some = some
first_goes (Some t) f some = refl

pub made_goes : (s : LocalState) (msg : EventMsg) (e : Entry) → e ∷ [] ≡ made_by s.model msg → IsSome (replay_from s (steps_of s.model msg)) → IsSome (after s e)
made_goes s msg e is legal =
    first_goes (after s e) (λ t. replay_from t (Give ∷ [])) (subst (λ (es : List Entry). IsSome (replay_from s (es ++ Give ∷ []))) (sym is) legal)

-- the state that it leads to
pub state_one : (s t : LocalState) (msg : EventMsg) (e : Entry) → e ∷ [] ≡ made_by s.model msg → after s e ≡ Some t → state_made s msg ≡ t
state_one s t msg e is goes =
    ap (λ (es : List Entry). unwrap_or (replay_from s es) s) (sym is) ∙ ap (λ o. unwrap_or (option_and_then (λ x. Some x) o) s) goes

pub state_none : (s : LocalState) (msg : EventMsg) → [] ≡ made_by s.model msg → state_made s msg ≡ s
state_none s msg is = ap (λ (es : List Entry). unwrap_or (replay_from s es) s) (sym is)
