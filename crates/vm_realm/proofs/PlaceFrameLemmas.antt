-- The device's own steps make no frame: ahead of the driver's state none is there that the driver hasn't, unless a call was executed.
use Rattle.std.proofs.Common.{◌≡◌, ℕ, true, List, [], ◌∷◌, ◌++◌, Option, Some, None, map, sym, subst}
use Rattle.std.proofs.lemmas.Bool.{false≢true}
use Rattle.std.proofs.lemmas.List.Elements.{All-head, All-tail}
use Rattle.vm_local.specs.declared.entry.Entry.{Entry}
use Rattle.vm_local.specs.declared.entry.Entry.TheVariants.{Called, Finish, Bad, Give}
use Rattle.vm_local.specs.Live.{is_of_device}
use Rattle.vm_local.specs.Log.{replay_from}
use Rattle.vm_local.specs.State.{LocalState}
use Rattle.vm_home.specs.Reached.{IsReached}
use Rattle.vm_home.specs.ToCome.{IsStep}
use Rattle.vm_home.proofs.FactLemmas.{reached_after}
use Rattle.vm_home.proofs.PlaceLemmas.{device_less}
use Rattle.vm_home.proofs.StepLemmas.{StepsTo, steps_to}
use Rattle.vm_commute.specs.Commute.{is_step, AreSteps}
use Rattle.vm_commute.proofs.EventsLemmas.{by_first}
use Rattle.vm_exchange.specs.Messages.{flight_of}
use Rattle.vm_session.specs.State.{SessionState}
use Rattle.vm_session.specs.declared.unsent.Unsent.{Unsent}
use Rattle.vm_stands.specs.Flight.{LeadAll}
use Rattle.vm_stands.specs.Slice.{LeadAhead}
use Rattle.vm_stands.proofs.AheadLemmas.{flight_steps}
use Rattle.vm_stands.proofs.FlightLemmas.{all_replay}
use Rattle.vm_realm.specs.Inner.{Inner, driver_state, id_in}
use Rattle.vm_realm.specs.Slice.{Slice, earlier_of}
use Rattle.vm_realm.specs.Sound.{IsSoundSlice, IsSeated}

some_state : (s t : LocalState) → ◌≡◌ {A = Option LocalState} (Some s) (Some t) → s ≡ t
some_state s t same = cc

own_step : (e : Entry) → is_step e ≡ true → IsStep e
own_step (Called line call reply) is = absurd (false≢true is)
own_step Finish is = tt
own_step Bad is = tt
own_step Give is = tt

steps_make_none : (es : List Entry) (r s : LocalState) (m : ℕ) → AreSteps es → IsReached r → replay_from r es ≡ Some s → is_of_device s m ≡ true → is_of_device r m ≡ true
steps_make_none [] r s m steps reached leads has = subst (λ (x : LocalState). is_of_device x m ≡ true) (sym (some_state r s leads)) has
steps_make_none (e ∷ es) r s m steps reached leads has =
    let P : Entry → Type 0 = λ d. is_step d ≡ true in
    let by : _ = by_first r s e es leads in
    let moves : StepsTo r by.0 = steps_to r by.0 e reached (own_step e (All-head P e es steps)) by.1 in
    device_less r by.0 moves.less m (steps_make_none es by.0 s m (All-tail P e es steps) (reached_after r by.0 e reached by.1) by.2 has)

messages_make_none : (id : ℕ) (r s : LocalState) (es : List Unsent) (m : ℕ) → IsReached r → LeadAll id r es s → is_of_device s m ≡ true → is_of_device r m ≡ true
messages_make_none id r s es m reached leads has =
    steps_make_none (flight_of r.model (map (λ (e : Unsent). e.msg) es)) r s m (flight_steps r.model (map (λ (e : Unsent). e.msg) es)) reached (all_replay id r s es leads) has

ahead_makes_none : (id : ℕ) (r s : LocalState) (executed : Option Entry) (es : List Unsent) (m : ℕ) → executed ≡ None → IsReached r → LeadAhead id r executed es s → is_of_device s m ≡ true → is_of_device r m ≡ true
ahead_makes_none id r s executed es m none reached leads has = messages_make_none id r s es m reached (subst (λ o. LeadAhead id r o es s) none leads) has

seated_makes_none : (o : Option SessionState) (x : Slice) (v : Inner) (m : ℕ) → IsSeated o x v → v.executed ≡ None → is_of_device v.ahead m ≡ true → is_of_device (driver_state x) m ≡ true
seated_makes_none None x v m seated none has = ahead_makes_none (id_in x) (driver_state x) v.ahead v.executed (earlier_of x) m none seated.reached seated.leads has
seated_makes_none (Some s) x v m seated none has = ahead_makes_none s.id (driver_state x) v.ahead v.executed (earlier_of x ++ s.unsent) m none seated.reached seated.leads has

pub no_frame_ahead : (x : Slice) (v : Inner) (m : ℕ) → IsSoundSlice x v → v.executed ≡ None → is_of_device v.ahead m ≡ true → is_of_device (driver_state x) m ≡ true
no_frame_ahead x v m sound none has = seated_makes_none x.session x v m sound.seated none has
