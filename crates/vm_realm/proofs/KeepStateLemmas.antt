-- What the steps of the device leave of a state, and what the users' memories keep by it.
use Rattle.std.proofs.Common.{◌≡◌, ℕ, true, List, [], ◌∷◌, length, map, Some, refl, sym, ap, ◌∙◌, subst}
use Rattle.std.specs.Prelude.{Contains}
use Rattle.std.proofs.lemmas.List.Elements.{All-head, All-tail, All-weaker}
use Rattle.vm_frame.specs.Mem.{mem_rest}
use Rattle.vm_frame.specs.declared.mem.Held.{Held}
use Rattle.vm_frame.specs.declared.mem.Mem.{Mem}
use Rattle.vm_frame.specs.declared.mem.Mem.TheVariants.{OfUser}
use Rattle.vm_sg.specs.UserMemory.{user_memory}
use Rattle.vm_local.specs.declared.buffer.Buffer.{Buffer}
use Rattle.vm_local.specs.declared.call.Call.{Call}
use Rattle.vm_local.specs.declared.call.Call.TheVariants.{Peek, Hash, Poke, Fill}
use Rattle.vm_local.specs.declared.entry.Entry.{Entry}
use Rattle.vm_local.specs.State.{QueueState, LocalState, queue_of, buffer_of}
use Rattle.vm_local.specs.Memory.{named, memory_of, bytes_of}
use Rattle.vm_local.specs.Kinds.{is_idle}
use Rattle.vm_local.specs.Steps.{number_of}
use Rattle.vm_local.specs.Log.{after, replay_from}
use Rattle.vm_local.proofs.KeptLemmas.{some_same}
use Rattle.vm_commute.specs.Commute.{is_step, AreSteps}
use Rattle.vm_commute.proofs.EventsLemmas.{by_first}
use Rattle.vm_commute.proofs.KeptLemmas.{outline_kept}
use Rattle.vm_commute.proofs.OutlineLemmas.{drawn, outlined, outline, queue_drawn, buffer_drawn}
use Rattle.vm_commute.proofs.ReachedLemmas.{reached_after}
use Rattle.vm_home.specs.Moves.{memory_at, touched}
use Rattle.vm_home.specs.Reached.{IsReached}
use Rattle.vm_session.specs.declared.unsent.Unsent.{Unsent}
use Rattle.vm_exchange.specs.Messages.{flight_of}
use Rattle.vm_stands.specs.Flight.{LeadAll}
use Rattle.vm_stands.proofs.AheadLemmas.{flight_steps}
use Rattle.vm_stands.proofs.FlightLemmas.{all_replay}
use Rattle.vm_stands.proofs.LengthLemmas.{step_lengths}
use Rattle.vm_stands.proofs.SeenLemmas.{idle_seen}
use Rattle.vm_realm.specs.Users.{IsUsers, AreUsers}

-- ---- states alike

-- The states have the same model and names, and their memories are as long, where the buffers have
-- the same ones.
pub record IsAlike (s t : LocalState) : Type 0 where
  pub opened : t.opened ≡ s.opened
  pub model : t.model ≡ s.model
  pub bound : t.bound ≡ s.bound
  pub memory : (u i : ℕ) → memory_at t u i ≡ memory_at s u i
  pub long : (m : ℕ) → length (bytes_of t m) ≡ length (bytes_of s m)

pub alike_itself : (s : LocalState) → IsAlike s s
alike_itself s = record { opened = refl; model = refl; bound = refl; memory = λ u i. refl; long = λ m. refl }

pub alike_then : (s t u : LocalState) → IsAlike s t → IsAlike t u → IsAlike s u
alike_then s t u first second = record {
  opened = second.opened ∙ first.opened;
  model = second.model ∙ first.model;
  bound = second.bound ∙ first.bound;
  memory = λ k i. second.memory k i ∙ first.memory k i;
  long = λ m. second.long m ∙ first.long m;
}

pub alike_back : (s t : LocalState) → IsAlike s t → IsAlike t s
alike_back s t alike = record {
  opened = sym alike.opened;
  model = sym alike.model;
  bound = sym alike.bound;
  memory = λ k i. sym (alike.memory k i);
  long = λ m. sym (alike.long m);
}

pub step_alike : (s t : LocalState) (e : Entry) → is_step e ≡ true → IsReached s → after s e ≡ Some t → IsAlike s t
step_alike s t e step reached leads =
    let same : outline t ≡ outline s = outline_kept s t e step reached leads in
    let all : (u : ℕ) → outlined (queue_of t u) ≡ outlined (queue_of s u) = λ u. sym (queue_drawn t u) ∙ (ap (λ (x : LocalState). queue_of x u) same ∙ queue_drawn s u) in
    record {
      opened = ap (λ (x : LocalState). x.opened) same;
      model = ap (λ (x : LocalState). x.model) same;
      bound = ap (λ (x : LocalState). x.bound) same;
      memory = λ u i. ap (λ (b : Buffer). number_of b)
          (sym (buffer_drawn (queue_of t u) i) ∙ (ap (λ (q : QueueState). buffer_of q i) (all u) ∙ buffer_drawn (queue_of s u) i));
      long = λ m. step_lengths s t e m step reached leads;
    }

pub steps_alike : (es : List Entry) (s t : LocalState) → AreSteps es → IsReached s → replay_from s es ≡ Some t → IsAlike s t
steps_alike [] s t are reached leads = subst (IsAlike s) (some_same s t s leads) (alike_itself s)
steps_alike (e ∷ es) s t are reached leads =
    let P : Entry → Type 0 = λ x. is_step x ≡ true in
    let by : _ = by_first s t e es leads in
    alike_then s by.0 t (step_alike s by.0 e (All-head P e es are) reached by.1)
    (steps_alike es by.0 t (All-tail P e es are) (reached_after s by.0 e reached by.1) by.2)

-- messages lead so
pub lead_alike : (id : ℕ) (r s : LocalState) (es : List Unsent) → IsReached r → LeadAll id r es s → IsAlike r s
lead_alike id r s es reached leads =
    steps_alike (flight_of r.model (map (λ e. e.msg) es)) r s (flight_steps r.model (map (λ e. e.msg) es)) reached (all_replay id r s es leads)

-- ---- buffers that aren't Idle

-- a step leaves which buffers are Idle
pub step_idle : (s t : LocalState) (e : Entry) (u i : ℕ) → is_step e ≡ true → IsReached s → after s e ≡ Some t →
    is_idle (buffer_of (queue_of t u) i).state ≡ is_idle (buffer_of (queue_of s u) i).state
step_idle s t e u i step reached leads =
    let same : outline t ≡ outline s = outline_kept s t e step reached leads in
    let all : outlined (queue_of t u) ≡ outlined (queue_of s u) = sym (queue_drawn t u) ∙ (ap (λ (x : LocalState). queue_of x u) same ∙ queue_drawn s u) in
    let buffers : drawn (buffer_of (queue_of t u) i) ≡ drawn (buffer_of (queue_of s u) i) =
    sym (buffer_drawn (queue_of t u) i) ∙ (ap (λ (q : QueueState). buffer_of q i) all ∙ buffer_drawn (queue_of s u) i) in
    sym (idle_seen (buffer_of (queue_of t u) i).state) ∙ (ap (λ (b : Buffer). is_idle b.state) buffers ∙ idle_seen (buffer_of (queue_of s u) i).state)

pub steps_idle : (es : List Entry) (s t : LocalState) (u i : ℕ) → AreSteps es → IsReached s → replay_from s es ≡ Some t →
    is_idle (buffer_of (queue_of t u) i).state ≡ is_idle (buffer_of (queue_of s u) i).state
steps_idle [] s t u i are reached leads = ap (λ (x : LocalState). is_idle (buffer_of (queue_of x u) i).state) (sym (some_same s t s leads))
steps_idle (e ∷ es) s t u i are reached leads =
    let P : Entry → Type 0 = λ x. is_step x ≡ true in
    let by : _ = by_first s t e es leads in
    steps_idle es by.0 t u i (All-tail P e es are) (reached_after s by.0 e reached by.1) by.2 ∙ step_idle s by.0 e u i (All-head P e es are) reached by.1

pub lead_idle : (id : ℕ) (r s : LocalState) (es : List Unsent) (u i : ℕ) → IsReached r → LeadAll id r es s →
    is_idle (buffer_of (queue_of s u) i).state ≡ is_idle (buffer_of (queue_of r u) i).state
lead_idle id r s es u i reached leads =
    steps_idle (flight_of r.model (map (λ e. e.msg) es)) r s u i (flight_steps r.model (map (λ e. e.msg) es)) reached (all_replay id r s es leads)

-- ---- users' memories

pub users_alike : (s t : LocalState) (m : ℕ) (mem : Mem) → IsAlike s t → IsUsers s m mem → IsUsers t m mem
users_alike s t m mem alike users = record {
  pages = λ b line off there is kind.
      users.pages b line off (subst (λ bs. Contains bs b) alike.bound there) is kind
      ∙ ap (λ n. mem_rest (OfUser (user_memory line n off))) (sym (alike.long m));
  holds = users.holds;
}

pub held_alike : (s t : LocalState) (held : List Held) → IsAlike s t → AreUsers s held → AreUsers t held
held_alike s t held alike users =
    let P : Held → Type 0 = λ h. IsUsers s (memory_at s h.queue h.index) h.mem in
    let Q : Held → Type 0 = λ h. IsUsers t (memory_at t h.queue h.index) h.mem in
    All-weaker P Q (λ h is. subst (λ m. IsUsers t m h.mem) (sym (alike.memory h.queue h.index)) (users_alike s t (memory_at s h.queue h.index) h.mem alike is)) held users

-- the memory that a call touches
pub touched_alike : (s t : LocalState) (call : Call) → IsAlike s t → touched t call ≡ touched s call
touched_alike s t (Peek m off len) alike = ap (λ bs. memory_of (named (record s { bound = bs }) m)) alike.bound
touched_alike s t (Hash m) alike = ap (λ bs. memory_of (named (record s { bound = bs }) m)) alike.bound
touched_alike s t (Poke m off bytes) alike = ap (λ bs. memory_of (named (record s { bound = bs }) m)) alike.bound
touched_alike s t (Fill m seed) alike = ap (λ bs. memory_of (named (record s { bound = bs }) m)) alike.bound
touched_alike s t call alike = refl
