-- After each step the journal is dealt from the handles' mappings again, and tells the live ranges.
use Rattle.std.proofs.Common.{◌≡◌, ◌⊎◌, ℕ, zero, suc, ◌+◌, ◌-◌, ◌<◌, ◌≤◌, ◌^◌, Bool, true, false, not, List, [], ◌∷◌, ◌++◌, Option, Some, None, length, get_or, set, map, refl, sym, ap, ◌∙◌, subst, arith, lit<, inl, inr, eqb, cond}
use Rattle.std.specs.Prelude.{IfSome, IsSome, Ok, slice_get, unwrap_or}
use Rattle.std.specs.Option.{option_map, option_to_list}
use Rattle.std.proofs.lemmas.Bool.{false≢true, cases_eq, cond-true, cond-false, eq-eqb, ne_eqb, eqb-true}
use Rattle.std.proofs.lemmas.List.{append-nil}
use Rattle.std.proofs.lemmas.List.Elements.{All-head, All-tail}
use Rattle.std.proofs.lemmas.Option.{none-some, same_Some, option_and_then_some, get_or_from_slice_get, slice_get-get_or}
use Rattle.v4l_const.specs.Errno.{errno_number}
use Rattle.v4l_const.specs.declared.errno.Errno.{Errno}
use Rattle.v4l_const.specs.declared.errno.Errno.TheVariants.{Enomem, Einval}
use Rattle.v4l_rules.specs.Refusals.{first_refusal}
use Rattle.vm_frame.specs.declared.mem.Held.{Held}
use Rattle.vm_region.specs.declared.entry.RegionEntry.{RegionEntry}
use Rattle.vm_region.specs.declared.entry.RegionEntry.TheVariants.{Map as MapEntry, Drop}
use Rattle.vm_region.specs.declared.live_range.LiveRange.{LiveRange}
use Rattle.vm_region.specs.Region.{RegionState, Changes, Maps, Unmaps, range_at, range_of}
use Rattle.vm_wire.specs.Buffers.{buffer_offset}
use Rattle.vm_wire.specs.Message.{Posting, Returning}
use Rattle.vm_wire.specs.Wire.{response_of, Answers}
use Rattle.vm_wire.specs.declared.command.Command.TheVariants.{OpenSession, Map, Unmap}
use Rattle.vm_wire.specs.declared.response.Response.{Response}
use Rattle.vm_wire.specs.declared.response.Response.TheVariants.{Refused as Denied, Mapped as MappedAt, Unmapped}
use Rattle.vm_wire.proofs.WireLemmas.{response_again}
use Rattle.vm_local.specs.declared.call.Call.{Call}
use Rattle.vm_local.specs.declared.call.Call.TheVariants.{Mmap, Munmap}
use Rattle.vm_local.specs.declared.entry.Entry.{Entry}
use Rattle.vm_local.specs.declared.entry.Entry.TheVariants.{Called, Finish, Bad, Give}
use Rattle.vm_local.specs.declared.reply.Reply.{Reply}
use Rattle.vm_local.specs.declared.reply.Reply.TheVariants.{Refused, Done, Mapped}
use Rattle.vm_local.specs.State.{LocalState, opening, queue_of, buffer_of}
use Rattle.vm_local.specs.Memory.{named, pages_of as call_pages}
use Rattle.vm_local.specs.Same.{address_in}
use Rattle.vm_local.specs.Calls.{row_of, munmap_row}
use Rattle.vm_local.specs.Log.{IsCall, after, replay, replay_from}
use Rattle.vm_commute.specs.Commute.{AreSteps, is_step}
use Rattle.vm_commute.proofs.ReachedLemmas.{reached_after}
use Rattle.vm_home.specs.Moves.{memory_at, is_refusal}
use Rattle.vm_home.specs.Reached.{IsReached}
use Rattle.vm_home.specs.ToCome.{IsStep}
use Rattle.vm_home.proofs.StepLemmas.{steps_to, steps_memory}
use Rattle.vm_log.specs.LegalLog.{state_of}
use Rattle.vm_exchange.specs.declared.crossing.Crossing.{Crossing}
use Rattle.vm_exchange.specs.Exchange.{address_of, crossing, crossing_of, way_of, response_to}
use Rattle.vm_exchange.specs.Messages.{flight_of}
use Rattle.vm_exchange.proofs.FitLemmas.{crossed_unrefused}
use Rattle.vm_exchange.proofs.OutcomeLemmas.{outcome}
use Rattle.vm_handle.specs.Handle.{HandleState, id_of, crossing_from}
use Rattle.vm_handle.specs.declared.stage.Stage.TheVariants.{Underway}
use Rattle.vm_session.specs.State.{SessionState}
use Rattle.vm_session.specs.Buffers.{frame_tag}
use Rattle.vm_session.specs.Mapped.{frame_of}
use Rattle.vm_session.specs.declared.unsent.Unsent.{Unsent}
use Rattle.vm_stands.specs.Flight.{LeadAll}
use Rattle.vm_stands.specs.Slice.{IsSlice}
use Rattle.vm_stands.proofs.AheadLemmas.{flight_steps}
use Rattle.vm_stands.proofs.FlightLemmas.{all_replay}
use Rattle.vm_stands.proofs.MapLemmas.{maps_alike}
use Rattle.vm_stands.proofs.SliceLemmas.{all_reached}
use Rattle.vm_stands.proofs.StillLemmas.{ways_stay}
use Rattle.vm_device.specs.Device.{DeviceState, session_of}
use Rattle.vm_device.specs.Mappings.{frame_in, pages_of}
use Rattle.vm_device.specs.Perform.{Answer, Performs, MapsFound, MapsFrame, MadeFew, UnmapsAt, refused}
use Rattle.vm_guest.specs.Guest.{GuestState, process_at, handle_named}
use Rattle.vm_guest.specs.Orderly.{IsDriver}
use Rattle.vm_guest.specs.Process.{handle_at}
use Rattle.vm_realm.specs.declared.step.Step.{Step}
use Rattle.vm_realm.specs.declared.step.Step.TheVariants.{Execute, Resume}
use Rattle.vm_realm.specs.World.{WorldState}
use Rattle.vm_realm.specs.Inner.{Inner, driver_state}
use Rattle.vm_realm.specs.Mapped.{Mapping as Telling, Life, life_at, lives_after, IsDealt, DealsFrom, mapping_by, mappings_from, mappings_of, Share, no_share, IsTagged, IsJournalOf}
use Rattle.vm_realm.specs.Mapped.Mapping.{Made, GivenBack}
use Rattle.vm_realm.specs.Slice.{Slice, Out, id_ahead, session_in, earlier_of, out_at, slice_at, SameElsewhere}
use Rattle.vm_realm.specs.Slice.Out.{Asked, Kept, Told}
use Rattle.vm_realm.specs.SliceSteps.{IsFirst, SliceDoes, told_by}
use Rattle.vm_realm.specs.Sound.{IsPosted, IsTold, IsSeated, IsSoundSlice, IsSoundBy, IsHandle, id_at, inner_at, share_of, all_shares}
use Rattle.vm_realm.specs.Steps.{Steps}
use Rattle.vm_realm.proofs.CommandLemmas.{Serves, ServesNone, ServesIf, execute_serves, resume_serves, kept_session, open_or_not, told_id}
use Rattle.vm_realm.proofs.DealLemmas.{get_set, get_other, get_map, same_elements, deals_more, Stand, share_for, place_of, all_stands, stands_of, shares_are, stand_at, StandsIn, stands_in}
use Rattle.vm_realm.proofs.GrowLemmas.{script_stays}
use Rattle.vm_realm.proofs.KeepCollectLemmas.{told_is, line_same}
use Rattle.vm_realm.proofs.KeepFrameLemmas.{refusal_is}
use Rattle.vm_realm.proofs.KeepMapLemmas.{low_map, map_open}
use Rattle.vm_realm.proofs.KeepOpenLemmas.{IsOutside, outside, live_session}
use Rattle.vm_realm.proofs.KeepReplyLemmas.{map_reply, never_denied}
use Rattle.vm_realm.proofs.KeepServeLemmas.{asked_same}
use Rattle.vm_realm.proofs.LiftLemmas.{LaterShare, same_share, shares_later, rows_with, inner_own, inner_other, handles_stay, shares_lift, journal_later}
use Rattle.vm_realm.proofs.PartLemmas.{find_in}
use Rattle.vm_realm.proofs.PlainCommandLemmas.{plain_command}
use Rattle.vm_realm.proofs.PumpLiftLemmas.{NoTell, silent_same}
use Rattle.vm_realm.proofs.RegionLemmas.{RegionKeeps}
use Rattle.vm_realm.proofs.RegionNextLemmas.{moves_mapping, region_left, IsFound, found_in, region_does, same_region}
use Rattle.vm_realm.proofs.RoomLemmas.{made_few}
use Rattle.vm_realm.proofs.ShareLemmas.{share_at, more_told, log_state, log_model}
use Rattle.vm_realm.proofs.ShareNextLemmas.{tells, untold, refused_untold, tells_goes, IsReply, reply_of, silent_mappings, none_tells, one_tells, stays_later, waits_later, step_later}

-- ---- buffers keep their memories

step_is : (e : Entry) → is_step e ≡ true → IsStep e
step_is (Called line call reply) step = absurd (false≢true step)
step_is Finish step = tt
step_is Bad step = tt
step_is Give step = tt

memory_after : (es : List Entry) (s t : LocalState) (u i : ℕ) → AreSteps es → IsReached s → replay_from s es ≡ Some t → memory_at t u i ≡ memory_at s u i
memory_after [] s t u i are reached leads = ap (λ x. memory_at x u i) (sym (same_Some s t leads))
memory_after (e ∷ es) s t u i are reached leads =
    let P : Entry → Type 0 = λ x. is_step x ≡ true in
    option_and_then_some (λ x. replay_from x es) (after s e) t leads (λ x first rest.
    memory_after es x t u i (All-tail P e es are) (reached_after s x e reached first) rest
    ∙ steps_memory s x u i (steps_to s x e reached (step_is e (All-head P e es are)) first))

memory_stays : (id : ℕ) (r s : LocalState) (u i : ℕ) (es : List Unsent) → IsReached r → LeadAll id r es s → memory_at s u i ≡ memory_at r u i
memory_stays id r s u i es reached leads =
    memory_after (flight_of r.model (map (λ e. e.msg) es)) r s u i (flight_steps r.model (map (λ e. e.msg) es)) reached (all_replay id r s es leads)

-- ---- lists of shares

-- in one place there is another share
record Swaps (ss ts : List Share) (k : ℕ) (s t : Share) : Type 0 where
  first : slice_get ss k ≡ Some s
  now : slice_get ts k ≡ Some t
  others : (j : ℕ) → ¬ (j ≡ k) → slice_get ts j ≡ slice_get ss j

-- of the same session, which may have made more frames
record GrownShare (s t : Share) : Type 0 where
  id : (i : ℕ) → s.id ≡ Some i → t.id ≡ Some i
  more : List ℕ
  frames : t.frames ≡ s.frames ++ more

grown_itself : (s t : Share) → t ≡ s → GrownShare s t
grown_itself s t is = record { id = λ i own. ap (λ (x : Share). x.id) is ∙ own; more = []; frames = ap (λ (x : Share). x.frames) is ∙ sym (append-nil s.frames) }

same_gets : {A : Type 0} (xs ys : List A) (j : ℕ) (d : A) → slice_get ys j ≡ slice_get xs j → get_or ys j d ≡ get_or xs j d
same_gets [] [] j d is = refl
same_gets [] (y ∷ ys) zero d is = absurd (none-some y (sym is))
same_gets [] (y ∷ ys) (suc j) d is = same_gets [] ys j d (is ∙ refl)
same_gets (x ∷ xs) [] zero d is = absurd (none-some x is)
same_gets (x ∷ xs) [] (suc j) d is = same_gets xs [] j d is
same_gets (x ∷ xs) (y ∷ ys) zero d is = same_Some y x is
same_gets (x ∷ xs) (y ∷ ys) (suc j) d is = same_gets xs ys j d is

all_grown : (ss ts : List Share) (k : ℕ) (s t : Share) → Swaps ss ts k s t → GrownShare s t → (j : ℕ) → GrownShare (get_or ss j no_share) (get_or ts j no_share)
all_grown ss ts k s t swaps grown j = elim (cases_eq j k) [
  | inl same ↦
      let first : get_or ss j no_share ≡ s = ap (λ i. get_or ss i no_share) same ∙ get_or_from_slice_get ss k s no_share swaps.first in
      let now : get_or ts j no_share ≡ t = ap (λ i. get_or ts i no_share) same ∙ get_or_from_slice_get ts k t no_share swaps.now in
      subst (λ x. GrownShare x (get_or ts j no_share)) (sym first) (subst (GrownShare s) (sym now) grown)
  | inr differs ↦ grown_itself (get_or ss j no_share) (get_or ts j no_share) (same_gets ss ts j no_share (swaps.others j differs))
]

swapped_mappings : (ss ts : List Share) (k : ℕ) (s t : Share) → Swaps ss ts k s t → map (λ x. x.mappings) ts ≡ set (map (λ x. x.mappings) ss) k t.mappings
swapped_mappings ss ts k s t swaps =
    let f : Share → List Telling = λ x. x.mappings in
    same_elements (map f ts) (set (map f ss) k t.mappings) (λ j. elim (cases_eq j k) [
      | inl same ↦
          let first : slice_get (map f ss) k ≡ Some s.mappings = get_map f ss k ∙ ap (option_map f) swaps.first in
          let now : slice_get (map f ts) k ≡ Some t.mappings = get_map f ts k ∙ ap (option_map f) swaps.now in
          ap (slice_get (map f ts)) same ∙ (now ∙ (sym (get_set (map f ss) k t.mappings s.mappings first) ∙ ap (slice_get (set (map f ss) k t.mappings)) (sym same)))
      | inr differs ↦
          get_map f ts j ∙ (ap (option_map f) (swaps.others j differs) ∙ (sym (get_map f ss j) ∙ sym (get_other (map f ss) k j t.mappings differs)))
    ])

in_front : (xs ys : List ℕ) (k m : ℕ) → slice_get xs k ≡ Some m → slice_get (xs ++ ys) k ≡ Some m
in_front [] ys k m is = absurd (none-some m is)
in_front (x ∷ xs) ys zero m is = is
in_front (x ∷ xs) ys (suc k) m is = in_front xs ys k m is

-- a range is tagged by the grown shares too
tagged_grown : (ss ts : List Share) (lives now : List Life) (r q : LiveRange) → ((j : ℕ) → GrownShare (get_or ss j no_share) (get_or ts j no_share)) → q.addr ≡ r.addr → q.tag ≡ r.tag → life_at r.addr now ≡ life_at r.addr lives → IsTagged ss lives r → IsTagged ts now q
tagged_grown ss ts lives now r q grown addr tag same t =
    let at : GrownShare (get_or ss t.life.handle no_share) (get_or ts t.life.handle no_share) = grown t.life.handle in
    record {
      life = t.life;
      id = t.id;
      made = t.made;
      small = t.small;
      lives_at = ap (λ a. life_at a now) addr ∙ (same ∙ t.lives_at);
      tag = tag ∙ t.tag;
      own = at.id t.id t.own;
      memory = ap (λ fs. slice_get fs t.made) at.frames ∙ in_front (get_or ss t.life.handle no_share).frames at.more t.made t.life.memory t.memory;
    }

-- the journal goes on with a mapping of the share in one place
journal_more : (ss ts : List Share) (old new : RegionState) (k : ℕ) (s t : Share) (e : RegionEntry) (m : Telling) → Swaps ss ts k s t → t.mappings ≡ s.mappings ++ m ∷ [] → new.journal ≡ old.journal ++ e ∷ [] → RegionKeeps new →
    (j : IsJournalOf ss old) → IsDealt k e m j.lives → ((addr : ℕ) (r : LiveRange) → range_at addr new.ranges ≡ Some r → IsTagged ts (lives_after k e m j.lives) r) → IsJournalOf ts new
journal_more ss ts old new k s t e m swaps more journal keeps j dealt tagged =
    let f : Share → List Telling = λ x. x.mappings in
    let at : slice_get (map f ss) k ≡ Some s.mappings = get_map f ss k ∙ ap (option_map f) swaps.first in
    let lists : map f ts ≡ set (map f ss) k (s.mappings ++ m ∷ []) = swapped_mappings ss ts k s t swaps ∙ ap (set (map f ss) k) more in
    record {
      lives = lives_after k e m j.lives;
      sound = keeps.journal;
      deals = subst (λ es. DealsFrom [] es (map f ts) (lives_after k e m j.lives)) (sym journal)
          (subst (λ ls. DealsFrom [] (old.journal ++ e ∷ []) ls (lives_after k e m j.lives)) (sym lists) (deals_more [] old.journal (map f ss) j.lives e k s.mappings m j.deals at dealt));
      live = keeps.live;
      apart = keeps.apart;
      low = keeps.low;
      tagged = tagged;
    }

-- ---- lives

life_where : (addr : ℕ) (lives : List Life) (l : Life) → life_at addr lives ≡ Some l → l.addr ≡ addr
life_where addr lives l is = eqb-true l.addr addr (find_in (λ (x : Life). eqb x.addr addr) lives l is).1

tag_same : (i j k l : ℕ) → k < 2 ^ 32 → l < 2 ^ 32 → frame_tag i k ≡ frame_tag j l → (i ≡ j) × (k ≡ l)
tag_same i j k l small other same = (omega (arith, small, other, same), omega (arith, small, other, same))

-- ---- the shares of two worlds

-- of one handle the share is another one, and the driver is the same
swapped : (w u : WorldState) (rows : List (List Inner)) (n h : ℕ) (v : Inner) → u.script ≡ w.script → u.guest ≡ w.guest → SameElsewhere n h w u → IsHandle w n h →
    Swaps (all_shares w rows 0 w.guest.processes) (all_shares u (rows_with w u rows n h v) 0 u.guest.processes) (place_of w.guest.processes n h) (share_at w rows n h) (share_of u.script.model (handle_at (process_at u.guest n) h) v (id_at u n h))
swapped w u rows n h v script guest others named = record {
  first = ap (λ ss. slice_get ss k) (shares_are w rows) ∙ (get_map (share_for w rows) (stands_of w) k ∙ ap (option_map (share_for w rows)) (stand_at w n h named));
  now = ap (λ ss. slice_get ss k) (shares_are u more) ∙ (get_map (share_for u more) (stands_of u) k ∙ (ap (option_map (share_for u more)) at_now ∙ own));
  others = λ j differs. by_stand j differs (slice_get (stands_of w) j) refl;
}
  where
    more : List (List Inner)
    more = rows_with w u rows n h v

    k : ℕ
    k = place_of w.guest.processes n h

    named_now : IsHandle u n h
    named_now = subst (λ (g : GuestState). IsSome (handle_named g n h)) (sym guest) named

    at_now : slice_get (stands_of u) (place_of w.guest.processes n h) ≡ Some (record { process = n; handle = h; state = handle_at (process_at u.guest n) h })
    at_now = ap (λ (g : GuestState). slice_get (stands_of u) (place_of g.processes n h)) (sym guest) ∙ stand_at u n h (subst (λ (g : GuestState). IsSome (handle_named g n h)) (sym guest) named)

    own : Some (share_for u (rows_with w u rows n h v) (record { process = n; handle = h; state = handle_at (process_at u.guest n) h })) ≡ Some (share_of u.script.model (handle_at (process_at u.guest n) h) v (id_at u n h))
    own = ap (λ y. Some (share_of u.script.model (handle_at (process_at u.guest n) h) y (id_at u n h))) (inner_own w u rows n h v (subst (λ (g : GuestState). IsSome (handle_named g n h)) (sym guest) named))

    other_share : (s : Stand) → IsHandle w s.process s.handle → ¬ ((s.process ≡ n) × (s.handle ≡ h)) → share_for u (rows_with w u rows n h v) s ≡ share_for w rows s
    other_share s there apart =
        let named_u : IsHandle u s.process s.handle = subst (λ (g : GuestState). IsSome (handle_named g s.process s.handle)) (sym guest) there in
        let same : slice_at u s.process s.handle ≡ slice_at w s.process s.handle = others s.process s.handle apart in
        let inner : inner_at u (rows_with w u rows n h v) s.process s.handle ≡ inner_at w rows s.process s.handle = inner_other w u rows n h v s.process s.handle named_u apart in
        λ j. share_of (script j).model s.state (inner j) (id_ahead (same j).handle (same j).out)

    by_stand : (j : ℕ) → ¬ (j ≡ place_of w.guest.processes n h) → (o : Option Stand) → slice_get (stands_of w) j ≡ o → slice_get (all_shares u (rows_with w u rows n h v) 0 u.guest.processes) j ≡ slice_get (all_shares w rows 0 w.guest.processes) j
    by_stand j differs o is =
        let before : slice_get (all_shares w rows 0 w.guest.processes) j ≡ option_map (share_for w rows) o =
        ap (λ ss. slice_get ss j) (shares_are w rows) ∙ (get_map (share_for w rows) (stands_of w) j ∙ ap (option_map (share_for w rows)) is) in
        let now : slice_get (all_shares u (rows_with w u rows n h v) 0 u.guest.processes) j ≡ option_map (share_for u (rows_with w u rows n h v)) o =
        ap (λ ss. slice_get ss j) (shares_are u (rows_with w u rows n h v)) ∙ (get_map (share_for u (rows_with w u rows n h v)) (stands_of u) j
        ∙ ap (option_map (share_for u (rows_with w u rows n h v))) (ap (λ (g : GuestState). slice_get (all_stands 0 g.processes) j) guest ∙ is)) in
        now ∙ (same_option o is ∙ sym before)
      where
        same_option : (o : Option Stand) → slice_get (stands_of w) j ≡ o → option_map (share_for u (rows_with w u rows n h v)) o ≡ option_map (share_for w rows) o
        same_option None is = refl
        same_option (Some s) is =
            let at : StandsIn w j s = stands_in w j s is in
            ap Some (other_share s at.named (λ both. differs (at.place ∙ (λ i. place_of w.guest.processes (both.0 i) (both.1 i)))))

-- ---- a command was served

-- what is so of the handle whose command was done
record IsOver (w u : WorldState) (rows : List (List Inner)) (n h : ℕ) (v' : Inner) : Type 0 where
  sound : IsSoundBy w rows
  serves : Serves w u rows n h
  goes : IsSoundSlice (slice_at u n h) v'
  more : List ℕ
  frames : v'.frames ≡ (inner_at w rows n h).frames ++ more

-- the handle is the same, and is told
same_handle : (w u : WorldState) (rows : List (List Inner)) (n h : ℕ) (v' : Inner) → (o : IsOver w u rows n h v') → (slice_at u n h).handle ≡ (slice_at w n h).handle
same_handle w u rows n h v' o = ap (λ (x : Slice). x.handle) o.serves.slice

told_out : (w u : WorldState) (rows : List (List Inner)) (n h : ℕ) (v' : Inner) → (o : IsOver w u rows n h v') → (slice_at u n h).out ≡ Told (told_by o.serves.message o.serves.answer)
told_out w u rows n h v' o = ap (λ (x : Slice). x.out) o.serves.slice

-- it keeps its session's id
id_stays : (w u : WorldState) (rows : List (List Inner)) (n h : ℕ) (v' : Inner) → (o : IsOver w u rows n h v') → (i : ℕ) → id_at w n h ≡ Some i → id_at u n h ≡ Some i
id_stays w u rows n h v' o i own = elim (open_or_not posted.call) [
  | inl opens ↦
      let none : hd.session ≡ None = subst (IsFirst hd) opens.1 posted.first in
      absurd (none-some i (sym none ∙ (sym o.serves.own ∙ own)))
  | inr other ↦
      (λ j. id_ahead (same_handle w u rows n h v' o j) (told_out w u rows n h v' o j))
      ∙ (told_id hd posted.line posted.call r posted.underway ∙ (kept_session hd.session posted.call (response_of OpenSession r.reply.bytes) other ∙ (sym o.serves.own ∙ own)))
]
  where
    posted : IsPosted (slice_at w n h) o.serves.message
    posted = o.serves.posted

    hd : HandleState
    hd = handle_at (process_at w.guest n) h

    r : Returning
    r = told_by o.serves.message o.serves.answer

over_id : (w u : WorldState) (rows : List (List Inner)) (n h : ℕ) (v' : Inner) → (o : IsOver w u rows n h v') → GrownShare (share_at w rows n h) (share_of u.script.model (handle_at (process_at u.guest n) h) v' (id_at u n h))
over_id w u rows n h v' o = record { id = id_stays w u rows n h v' o; more = o.more; frames = o.frames }

over_swaps : (w u : WorldState) (rows : List (List Inner)) (n h : ℕ) (v' : Inner) → (o : IsOver w u rows n h v') →
    Swaps (all_shares w rows 0 w.guest.processes) (all_shares u (rows_with w u rows n h v') 0 u.guest.processes) (place_of w.guest.processes n h) (share_at w rows n h) (share_of u.script.model (handle_at (process_at u.guest n) h) v' (id_at u n h))
over_swaps w u rows n h v' o = swapped w u rows n h v' o.serves.script o.serves.guest o.serves.others o.serves.named

over_driver : (w u : WorldState) (rows : List (List Inner)) (n h : ℕ) (v' : Inner) → (o : IsOver w u rows n h v') → IsDriver w.script u.guest
over_driver w u rows n h v' o = subst (IsDriver w.script) (sym o.serves.guest) o.sound.lines

-- where no mapping is told, and the region stays
still_served : (w u : WorldState) (rows : List (List Inner)) (n h : ℕ) (v' : Inner) → (o : IsOver w u rows n h v') → NoTell (option_to_list v'.executed) → u.host.device.region ≡ w.host.device.region →
    IsJournalOf (all_shares u (rows_with w u rows n h v') 0 u.guest.processes) u.host.device.region
still_served w u rows n h v' o none same =
    let x : Slice = slice_at w n h in
    let grown : GrownShare (share_at w rows n h) (share_of u.script.model (handle_at (process_at u.guest n) h) v' (id_at u n h)) = over_id w u rows n h v' o in
    let later : LaterShare (share_at w rows n h) (share_of u.script.model (handle_at (process_at u.guest n) h) v' (id_at u n h)) = record {
      mappings = (λ j. mappings_of (o.serves.script j).model (same_handle w u rows n h v' o j).log.entries v'.executed)
          ∙ silent_mappings w.script.model x.handle.log x.handle.log (inner_at w rows n h).executed v'.executed (silent_same x.handle.log) (none_tells (inner_at w rows n h).executed o.serves.nothing) none;
      id = grown.id;
      more = grown.more;
      frames = grown.frames;
    } in
    subst (IsJournalOf (all_shares u (rows_with w u rows n h v') 0 u.guest.processes)) (sym same)
    (journal_later (all_shares w rows 0 w.guest.processes) (all_shares u (rows_with w u rows n h v') 0 u.guest.processes) w.host.device.region
    (shares_lift w u rows n h v' o.sound.lines (over_driver w u rows n h v' o) o.serves.script o.serves.others (λ named. later)) o.sound.mapped)

-- ---- what the reply is

-- the device's response is the handle's reply
record IsSaid (w u : WorldState) (rows : List (List Inner)) (n h line : ℕ) (call : Call) (v' : Inner) (response : Response) : Type 0 where
  reply : Reply
  next : LocalState
  id : ℕ
  executed : v'.executed ≡ Some (Called line call reply)
  leads : IsCall (driver_state (slice_at w n h)) line call reply next
  told : response ≡ response_to id (driver_state (slice_at w n h)) call reply

said : (w u : WorldState) (rows : List (List Inner)) (n h line : ℕ) (call : Call) (v' : Inner) (k : Crossing) → (o : IsOver w u rows n h v') → (slice_at w n h).handle.stage ≡ Underway line call → tells call ≡ true → crossing_from (slice_at w n h).handle call ≡ Some k →
    Answers k.command o.serves.answer.response → IsSaid w u rows n h line call v' o.serves.answer.response
said w u rows n h line call v' k o under is crosses fits =
    let handle : (slice_at u n h).handle ≡ (slice_at w n h).handle = same_handle w u rows n h v' o in
    let r : Returning = told_by o.serves.message o.serves.answer in
    let reply : IsReply (slice_at u n h) v' r line call k.command = reply_of (slice_at u n h) v' r line call k o.goes (told_out w u rows n h v' o) (ap (λ (y : HandleState). y.stage) handle ∙ under) (tells_goes call is)
    (ap (λ y. crossing_from y call) handle ∙ crosses) in
    let read : response_of k.command r.reply.bytes ≡ o.serves.answer.response = (response_again k.command o.serves.answer.response fits).1 in
    record {
      reply = reply.reply;
      next = reply.answer.0;
      id = reply.answer.1;
      executed = reply.executed;
      leads = subst (λ (y : HandleState). IsCall (state_of y.log) line call reply.reply reply.answer.0) handle reply.answer.2.0;
      told = sym read ∙ (reply.answer.2.1 ∙ (λ j. response_to reply.answer.1 (state_of (handle j).log) call reply.reply));
    }

refusal_by : (id : ℕ) (s : LocalState) (call : Call) (reply : Reply) (n : ℕ) (b : Bool) → is_refusal reply ≡ b → Denied n ≡ response_to id s call reply → (errno : Errno) × (reply ≡ Refused errno)
refusal_by id s call reply n true is told = refusal_is reply is
refusal_by id s call reply n false is told = absurd (never_denied id s call reply n is (sym told))

-- what is refused tells of no mapping
denied_none : (w u : WorldState) (rows : List (List Inner)) (n h line : ℕ) (call : Call) (v' : Inner) (errno : ℕ) → IsSaid w u rows n h line call v' (Denied errno) → NoTell (option_to_list v'.executed)
denied_none w u rows n h line call v' errno is =
    let by : (e : Errno) × (is.reply ≡ Refused e) = refusal_by is.id (driver_state (slice_at w n h)) call is.reply errno (is_refusal is.reply) refl is.told in
    one_tells v'.executed line call is.reply is.executed (λ s. ap (mapping_by s call) by.1 ∙ refused_untold s call by.0)

denied_served : (w u : WorldState) (rows : List (List Inner)) (n h line : ℕ) (call : Call) (v' : Inner) (k : Crossing) (errno : Errno) (held : List Held) → (o : IsOver w u rows n h v') → (slice_at w n h).handle.stage ≡ Underway line call → tells call ≡ true →
    crossing_from (slice_at w n h).handle call ≡ Some k → (0 < errno_number errno) × (errno_number errno < 2 ^ 32) → o.serves.answer ≡ refused errno held w.host.device →
    IsJournalOf (all_shares u (rows_with w u rows n h v') 0 u.guest.processes) u.host.device.region
denied_served w u rows n h line call v' k errno held o under is crosses fits denied =
    let response : o.serves.answer.response ≡ Denied (errno_number errno) = ap (λ (a : Answer). a.response) denied in
    let told : IsSaid w u rows n h line call v' (Denied (errno_number errno)) =
    subst (IsSaid w u rows n h line call v') response (said w u rows n h line call v' k o under is crosses (subst (Answers k.command) (sym response) fits)) in
    still_served w u rows n h v' o (denied_none w u rows n h line call v' (errno_number errno) told) (ap (λ (d : DeviceState). d.region) o.serves.device ∙ ap (λ (a : Answer). a.device.region) denied)

-- the share has one mapping more
told_more : (w u : WorldState) (rows : List (List Inner)) (n h line : ℕ) (call : Call) (reply : Reply) (v' : Inner) (m : Telling) → (o : IsOver w u rows n h v') → v'.executed ≡ Some (Called line call reply) → mapping_by (driver_state (slice_at w n h)) call reply ≡ m ∷ [] →
    (share_of u.script.model (handle_at (process_at u.guest n) h) v' (id_at u n h)).mappings ≡ (share_at w rows n h).mappings ++ m ∷ []
told_more w u rows n h line call reply v' m o executed tells_one =
    let x : Slice = slice_at w n h in
    let model : x.handle.log.model ≡ w.script.model = log_model w rows n h o.sound o.serves.named in
    let legal = (o.sound.slices n h o.serves.named).log.legal in
    let leads : replay w.script.model x.handle.log.entries ≡ Some (driver_state x) = ap (λ k. replay k x.handle.log.entries) (sym model) ∙ log_state x.handle.log legal in
    let old : mappings_of w.script.model x.handle.log.entries (inner_at w rows n h).executed ≡ mappings_from (opening w.script.model) x.handle.log.entries =
    ap (λ e. mappings_of w.script.model x.handle.log.entries e) o.serves.nothing ∙ ap (mappings_from (opening w.script.model)) (append-nil x.handle.log.entries) in
    (λ j. mappings_of (o.serves.script j).model (same_handle w u rows n h v' o j).log.entries (executed j))
    ∙ (more_told (opening w.script.model) (driver_state x) x.handle.log.entries (Called line call reply) leads
    ∙ (λ j. sym old j ++ tells_one j))

-- ---- a mapping is given back

done_from : (s : LocalState) (line addr : ℕ) (name : List ℕ) → (row_of s line addr (Munmap name)).reply ≡ Done
unfolding munmap_row
done_from s line addr name = refl

unmapped_done : (s next : LocalState) (id line : ℕ) (name : List ℕ) (reply : Reply) → IsCall s line (Munmap name) reply next → Unmapped ≡ response_to id s (Munmap name) reply → reply ≡ Done
unmapped_done s next id line name reply leads told = elim (outcome s line (Munmap name) reply next leads) as (λ _. reply ≡ Done) [
  | inl denied ↦ absurd (apart (errno_number denied.0) (told ∙ ap (response_to id s (Munmap name)) denied.1))
  | inr came ↦ came.1 ∙ done_from s line (address_in reply) name
]
  where
    apart : (n : ℕ) → Unmapped ≡ Denied n → ⊥
    apart n is = cc

given_served : (w u : WorldState) (rows : List (List Inner)) (n h line : ℕ) (name : List ℕ) (v' : Inner) (k : Crossing) (addr : ℕ) (r : LiveRange) (region : RegionState) → (o : IsOver w u rows n h v') → (slice_at w n h).handle.stage ≡ Underway line (Munmap name) →
    crossing_from (slice_at w n h).handle (Munmap name) ≡ Some k → k.command ≡ Unmap addr → address_of (named (driver_state (slice_at w n h)) name) ≡ addr → range_at addr w.host.device.region.ranges ≡ Some r → Unmaps w.host.device.region addr r region →
    o.serves.answer.response ≡ Unmapped → u.host.device.region ≡ region → RegionKeeps u.host.device.region →
    IsJournalOf (all_shares u (rows_with w u rows n h v') 0 u.guest.processes) u.host.device.region
given_served w u rows n h line name v' k addr r region o under crosses command at there unmaps response same keeps =
    subst (IsJournalOf ts) (sym same) (journal_more ss ts w.host.device.region region (place_of w.guest.processes n h) (share_at w rows n h) t e m (over_swaps w u rows n h v' o) more unmaps.journal (subst RegionKeeps same keeps) j at tagged)
  where
    ss : List Share
    ss = all_shares w rows 0 w.guest.processes

    ts : List Share
    ts = all_shares u (rows_with w u rows n h v') 0 u.guest.processes

    t : Share
    t = share_of u.script.model (handle_at (process_at u.guest n) h) v' (id_at u n h)

    e : RegionEntry
    e = Drop addr (r.count - 1)

    m : Telling
    m = GivenBack (address_of (named (driver_state (slice_at w n h)) name))

    j : IsJournalOf (all_shares w rows 0 w.guest.processes) w.host.device.region
    j = o.sound.mapped

    fits : Answers k.command o.serves.answer.response
    fits = subst (λ c. Answers c o.serves.answer.response) (sym command) (subst (Answers (Unmap addr)) (sym response) tt)

    told : IsSaid w u rows n h line (Munmap name) v' Unmapped
    told = subst (IsSaid w u rows n h line (Munmap name) v') response (said w u rows n h line (Munmap name) v' k o under refl crosses fits)

    more : (share_of u.script.model (handle_at (process_at u.guest n) h) v' (id_at u n h)).mappings ≡ (share_at w rows n h).mappings ++ GivenBack (address_of (named (driver_state (slice_at w n h)) name)) ∷ []
    more =
        let done : told.reply ≡ Done = unmapped_done (driver_state (slice_at w n h)) told.next told.id line name told.reply told.leads told.told in
        told_more w u rows n h line (Munmap name) Done v' (GivenBack (address_of (named (driver_state (slice_at w n h)) name))) o (told.executed ∙ ap (λ q. Some (Called line (Munmap name) q)) done) refl

    grown : (i : ℕ) → GrownShare (get_or ss i no_share) (get_or ts i no_share)
    grown = all_grown ss ts (place_of w.guest.processes n h) (share_at w rows n h) t (over_swaps w u rows n h v' o) (over_id w u rows n h v' o)

    left : (b : Bool) (q : LiveRange) → cond b None (Some (record r { count = r.count - 1 })) ≡ Some q → IsTagged ts j.lives q
    left true q is = absurd (none-some q is)
    left false q is =
        subst (IsTagged ts j.lives) (same_Some (record r { count = r.count - 1 }) q is) (tagged_grown ss ts j.lives j.lives r (record r { count = r.count - 1 }) grown refl refl refl (j.tagged addr r there))

    tagged : (a : ℕ) (q : LiveRange) → range_at a region.ranges ≡ Some q → IsTagged ts j.lives q
    tagged a q is = elim (cases_eq a addr) [
      | inl own ↦ left (eqb (r.count - 1) 0) q (sym unmaps.here ∙ (ap (λ i. range_at i region.ranges) (sym own) ∙ is))
      | inr differs ↦ tagged_grown ss ts j.lives j.lives q q grown refl refl refl (j.tagged a q (sym (unmaps.elsewhere a differs) ∙ is))
    ]

-- ---- a mapping is made

pages_same : (len : ℕ) → call_pages len ≡ pages_of len
pages_same len = omega arith

mapped_again : (s next : LocalState) (id line addr len : ℕ) (name : List ℕ) (t i : ℕ) (ro : Bool) (reply : Reply) → IsCall s line (Mmap name t i ro) reply next → MappedAt addr len ≡ response_to id s (Mmap name t i ro) reply → reply ≡ Mapped addr len
mapped_again s next id line addr len name t i ro reply leads told = elim (outcome s line (Mmap name t i ro) reply next leads) as (λ _. reply ≡ Mapped addr len) [
  | inl denied ↦ absurd (apart addr len (errno_number denied.0) (told ∙ ap (response_to id s (Mmap name t i ro)) denied.1))
  | inr came ↦
      let is : reply ≡ Mapped (address_in reply) (buffer_of (queue_of s t) i).length = came.1 ∙ map_reply s line (address_in reply) name t i ro in
      is ∙ sym (both addr len (address_in reply) (buffer_of (queue_of s t) i).length (told ∙ ap (response_to id s (Mmap name t i ro)) is))
]
  where
    apart : (a l n : ℕ) → MappedAt a l ≡ Denied n → ⊥
    apart a l n is = cc

    both : (a l b m : ℕ) → MappedAt a l ≡ MappedAt b m → Mapped a l ≡ Mapped b m
    both a l b m is = (λ j. Mapped (first is j) (second is j))
      where
        first : MappedAt a l ≡ MappedAt b m → a ≡ b
        first is = cc

        second : MappedAt a l ≡ MappedAt b m → l ≡ m
        second is = cc

-- What is so of a frame of the handle's session that was mapped.
record IsFrame (w u : WorldState) (rows : List (List Inner)) (n h line : ℕ) (name : List ℕ) (t i : ℕ) (ro : Bool) (v' : Inner) (session made len addr : ℕ) (region : RegionState) : Type 0 where
  over : IsOver w u rows n h v'
  under : (slice_at w n h).handle.stage ≡ Underway line (Mmap name t i ro)
  crosses : (k : Crossing) × (crossing_from (slice_at w n h).handle (Mmap name t i ro) ≡ Some k) × (Answers k.command (MappedAt addr len))
  id : id_at w n h ≡ Some session
  small : made < 2 ^ 32
  memory : slice_get (inner_at w rows n h).frames made ≡ Some (memory_at (driver_state (slice_at w n h)) t i)
  maps : Maps (range_of (frame_tag session made) w.host.device.region.ranges) w.host.device.region (frame_tag session made) (pages_of len) addr region
  whole : IfSome (range_of (frame_tag session made) w.host.device.region.ranges) (λ r. r.pages ≡ pages_of len)
  response : over.serves.answer.response ≡ MappedAt addr len
  same : u.host.device.region ≡ region
  keeps : RegionKeeps u.host.device.region

-- no other handle's session has the id
alone : (w : WorldState) (rows : List (List Inner)) (n h i j : ℕ) → IsSoundBy w rows → IsHandle w n h → id_at w n h ≡ Some i → (get_or (all_shares w rows 0 w.guest.processes) j no_share).id ≡ Some i → j ≡ place_of w.guest.processes n h
alone w rows n h i j sound named own is = by_stand (slice_get (stands_of w) j) refl
  where
    at : (o : Option Stand) → slice_get (stands_of w) j ≡ o → slice_get (all_shares w rows 0 w.guest.processes) j ≡ option_map (share_for w rows) o
    at o there = ap (λ ss. slice_get ss j) (shares_are w rows) ∙ (get_map (share_for w rows) (stands_of w) j ∙ ap (option_map (share_for w rows)) there)

    none_there : {A : Type 0} (xs : List A) (k : ℕ) (d : A) → slice_get xs k ≡ None → get_or xs k d ≡ d
    none_there [] k d gone = refl
    none_there (x ∷ xs) zero d gone = absurd (none-some x (sym gone))
    none_there (x ∷ xs) (suc k) d gone = none_there xs k d gone

    by_stand : (o : Option Stand) → slice_get (stands_of w) j ≡ o → j ≡ place_of w.guest.processes n h
    by_stand None there =
        let none : get_or (all_shares w rows 0 w.guest.processes) j no_share ≡ no_share = none_there (all_shares w rows 0 w.guest.processes) j no_share (at None there) in
        absurd (none-some i (ap (λ (s : Share). s.id) (sym none) ∙ is))
    by_stand (Some s) there =
        let in_place : StandsIn w j s = stands_in w j s there in
        let share : get_or (all_shares w rows 0 w.guest.processes) j no_share ≡ share_for w rows s = get_or_from_slice_get (all_shares w rows 0 w.guest.processes) j (share_for w rows s) no_share (at (Some s) there) in
        let other : id_at w s.process s.handle ≡ Some i = ap (λ (x : Share). x.id) (sym share) ∙ is in
        let same : _ = sound.ids.once s.process s.handle n h i in_place.named named other own in
        in_place.place ∙ (λ q. place_of w.guest.processes (same.0 q) (same.1 q))

made_served : (o : Option LiveRange) (w u : WorldState) (rows : List (List Inner)) (n h line : ℕ) (name : List ℕ) (t i : ℕ) (ro : Bool) (v' : Inner) (session made len addr : ℕ) (region : RegionState) →
    IsFrame w u rows n h line name t i ro v' session made len addr region → range_of (frame_tag session made) w.host.device.region.ranges ≡ o →
    IsJournalOf (all_shares u (rows_with w u rows n h v') 0 u.guest.processes) u.host.device.region
made_served o w u rows n h line name t i ro v' session made len addr region f is =
    subst (IsJournalOf ts) (sym f.same) (by_range o is (subst (λ z. Maps z w.host.device.region (frame_tag session made) (pages_of len) addr region) is f.maps) (subst (λ z. IfSome z (λ r. r.pages ≡ pages_of len)) is f.whole))
  where
    ss : List Share
    ss = all_shares w rows 0 w.guest.processes

    ts : List Share
    ts = all_shares u (rows_with w u rows n h v') 0 u.guest.processes

    s : Share
    s = share_at w rows n h

    now : Share
    now = share_of u.script.model (handle_at (process_at u.guest n) h) v' (id_at u n h)

    k : ℕ
    k = place_of w.guest.processes n h

    mem : ℕ
    mem = memory_at (driver_state (slice_at w n h)) t i

    m : Telling
    m = Made addr (call_pages len) (memory_at (driver_state (slice_at w n h)) t i)

    j : IsJournalOf (all_shares w rows 0 w.guest.processes) w.host.device.region
    j = f.over.sound.mapped

    told : IsSaid w u rows n h line (Mmap name t i ro) v' (MappedAt addr len)
    told = subst (IsSaid w u rows n h line (Mmap name t i ro) v') f.response
        (said w u rows n h line (Mmap name t i ro) v' f.crosses.0 f.over f.under refl f.crosses.1 (subst (Answers f.crosses.0.command) (sym f.response) f.crosses.2))

    more : now.mappings ≡ s.mappings ++ m ∷ []
    more =
        let reply : told.reply ≡ Mapped addr len = mapped_again (driver_state (slice_at w n h)) told.next told.id line addr len name t i ro told.reply told.leads told.told in
        told_more w u rows n h line (Mmap name t i ro) (Mapped addr len) v' (Made addr (call_pages len) (memory_at (driver_state (slice_at w n h)) t i)) f.over
        (told.executed ∙ ap (λ q. Some (Called line (Mmap name t i ro) q)) reply) refl

    swaps : Swaps ss ts k s now
    swaps = over_swaps w u rows n h v' f.over

    grown : (q : ℕ) → GrownShare (get_or ss q no_share) (get_or ts q no_share)
    grown = all_grown ss ts k s now swaps (over_id w u rows n h v' f.over)

    first_is : get_or ss k no_share ≡ s
    first_is = get_or_from_slice_get ss k s no_share swaps.first

    keeps : RegionKeeps region
    keeps = subst RegionKeeps f.same f.keeps

    -- a range that lives is mapped again
    again : (r : LiveRange) → range_of (frame_tag session made) w.host.device.region.ranges ≡ Some r → r.pages ≡ pages_of len → addr ≡ r.addr →
        Changes w.host.device.region region (MapEntry addr (pages_of len) (r.count + 1)) addr (frame_tag session made) (Some (record r { count = r.count + 1 })) → IsJournalOf ts region
    again r of whole same changes =
        let by : _ = j.apart.by_tag (frame_tag session made) r of in
        let was : IsTagged ss j.lives r = j.tagged r.addr r by.1 in
        let tags : _ = tag_same was.id session was.made made was.small f.small (sym was.tag ∙ by.0) in
        let own : was.life.handle ≡ k = alone w rows n h session was.life.handle f.over.sound f.over.serves.named f.id (was.own ∙ ap Some tags.0) in
        let memory : was.life.memory ≡ mem =
        same_Some was.life.memory mem (sym was.memory ∙ ((λ q. slice_get (get_or ss (own q) no_share).frames (tags.1 q)) ∙ (ap (λ (z : Share). slice_get z.frames made) first_is ∙ f.memory))) in
        let address : was.life.addr ≡ addr = life_where r.addr j.lives was.life was.lives_at ∙ sym same in
        let some : 1 ≤ r.count = (j.apart.whole r.addr r by.1).1 in
        let off : eqb (r.count + 1) 1 ≡ false = ne_eqb (r.count + 1) 1 (λ one. omega (arith, one, some)) in
        let e : RegionEntry = MapEntry addr (pages_of len) (r.count + 1) in
        let lives : lives_after k e m j.lives ≡ j.lives = cond-false (eqb (r.count + 1) 1) (record { addr = addr; handle = k; memory = mem } ∷ j.lives) j.lives off in
        let life : life_at addr j.lives ≡ Some (record { addr = addr; handle = k; memory = mem }) =
        ap (λ a. life_at a j.lives) same ∙ (was.lives_at ∙ (λ q. Some (record { addr = address q; handle = own q; memory = memory q }))) in
        let dealt : IsDealt k e m j.lives = (refl, pages_same len, ap (life_at addr) lives ∙ life) in
        journal_more ss ts w.host.device.region region k s now e m swaps more changes.journal keeps j dealt (λ a q at.
        subst (λ ls. IsTagged ts ls q) (sym lives) (elim (cases_eq a addr) [
          | inl here ↦
              let new : record r { count = r.count + 1 } ≡ q = same_Some _ q (sym changes.here ∙ (ap (λ b. range_at b region.ranges) (sym here) ∙ at)) in
              subst (IsTagged ts j.lives) new (tagged_grown ss ts j.lives j.lives r (record r { count = r.count + 1 }) grown refl refl refl was)
          | inr differs ↦ tagged_grown ss ts j.lives j.lives q q grown refl refl refl (j.tagged a q (sym (changes.elsewhere a differs) ∙ at))
        ]))

    -- a range begins to live
    begins : Changes w.host.device.region region (MapEntry addr (pages_of len) 1) addr (frame_tag session made) (Some (record { addr = addr; pages = pages_of len; tag = frame_tag session made; count = 1 })) → IsJournalOf ts region
    begins changes =
        let e : RegionEntry = MapEntry addr (pages_of len) 1 in
        let new : Life = record { addr = addr; handle = k; memory = mem } in
        let lives : lives_after k e m j.lives ≡ new ∷ j.lives = cond-true (eqb 1 1) (new ∷ j.lives) j.lives refl in
        let life : life_at addr (new ∷ j.lives) ≡ Some new = cond-true (eqb addr addr) (Some new) (life_at addr j.lives) (eq-eqb addr addr refl) in
        let dealt : IsDealt k e m j.lives = (refl, pages_same len, ap (life_at addr) lives ∙ life) in
        let range : LiveRange = record { addr = addr; pages = pages_of len; tag = frame_tag session made; count = 1 } in
        let at_k : GrownShare (get_or ss k no_share) (get_or ts k no_share) = grown k in
        let own : (get_or ts k no_share).id ≡ Some session = at_k.id session (ap (λ (z : Share). z.id) first_is ∙ f.id) in
        let memory : slice_get (get_or ts k no_share).frames made ≡ Some mem =
        ap (λ fs. slice_get fs made) at_k.frames ∙ in_front (get_or ss k no_share).frames at_k.more made mem (ap (λ (z : Share). slice_get z.frames made) first_is ∙ f.memory) in
        let fresh : IsTagged ts (new ∷ j.lives) range = record {
          life = new;
          id = session;
          made = made;
          small = f.small;
          lives_at = life;
          tag = refl;
          own = own;
          memory = memory;
        } in
        journal_more ss ts w.host.device.region region k s now e m swaps more changes.journal keeps j dealt (λ a q at.
        subst (λ ls. IsTagged ts ls q) (sym lives) (elim (cases_eq a addr) [
          | inl here ↦ subst (IsTagged ts (new ∷ j.lives)) (same_Some range q (sym changes.here ∙ (ap (λ b. range_at b region.ranges) (sym here) ∙ at))) fresh
          | inr differs ↦
              let before : range_at a w.host.device.region.ranges ≡ Some q = sym (changes.elsewhere a differs) ∙ at in
              let apart : eqb addr q.addr ≡ false = ne_eqb addr q.addr (λ same. differs (sym (j.apart.by_address a q before).0 ∙ sym same)) in
              tagged_grown ss ts j.lives (new ∷ j.lives) q q grown refl refl (cond-false (eqb addr q.addr) (Some new) (life_at q.addr j.lives) apart) (j.tagged a q before)
        ]))

    by_range : (o : Option LiveRange) → range_of (frame_tag session made) w.host.device.region.ranges ≡ o → Maps o w.host.device.region (frame_tag session made) (pages_of len) addr region → IfSome o (λ r. r.pages ≡ pages_of len) → IsJournalOf ts region
    by_range None of maps whole = begins maps.1
    by_range (Some r) of maps whole = again r of whole maps.0 maps.1

-- ---- the call by its kind

-- a call that tells of no mapping leaves the region
plain_served : (w u : WorldState) (rows : List (List Inner)) (n h : ℕ) (v' : Inner) → (o : IsOver w u rows n h v') → tells o.serves.posted.call ≡ false → IsJournalOf (all_shares u (rows_with w u rows n h v') 0 u.guest.processes) u.host.device.region
plain_served w u rows n h v' o plain =
    let posted : IsPosted (slice_at w n h) o.serves.message = o.serves.posted in
    let at : (slice_at u n h).out ≡ Told (told_by o.serves.message o.serves.answer) = told_out w u rows n h v' o in
    let told : IsTold (slice_at u n h) v' (told_by o.serves.message o.serves.answer) = told_is (slice_at u n h) v' (slice_at u n h).out (told_by o.serves.message o.serves.answer) at o.goes.out in
    let same : (told.line ≡ posted.line) × (told.call ≡ posted.call) =
    line_same told.line posted.line told.call posted.call (sym told.underway ∙ (ap (λ (y : HandleState). y.stage) (same_handle w u rows n h v' o) ∙ posted.underway)) in
    let command : o.serves.command ≡ posted.crossing.command = sym (asked_same (slice_at w n h) o.serves.message o.serves.command posted o.serves.asks) in
    let moves : moves_mapping o.serves.command ≡ false = ap moves_mapping command ∙ plain_command (slice_at w n h).handle posted.call posted.crossing plain posted.crosses in
    still_served w u rows n h v' o (one_tells v'.executed told.line told.call told.reply told.executed (λ s. untold s told.call told.reply (ap tells same.1 ∙ plain)))
    (ap (λ (d : DeviceState). d.region) o.serves.device ∙ region_left w.host.device o.serves.command o.serves.message.behind o.serves.message.held o.serves.answer moves o.serves.performs)

-- a mapping is given back, where a range starts there
unmap_served : (w u : WorldState) (rows : List (List Inner)) (n h : ℕ) (v' : Inner) (name : List ℕ) (addr : ℕ) (r : Option LiveRange) → (o : IsOver w u rows n h v') → (slice_at w n h).handle.stage ≡ Underway o.serves.posted.line (Munmap name) →
    crossing_from (slice_at w n h).handle (Munmap name) ≡ Some o.serves.posted.crossing → o.serves.posted.crossing.command ≡ Unmap addr → address_of (named (driver_state (slice_at w n h)) name) ≡ addr → range_at addr w.host.device.region.ranges ≡ r →
    UnmapsAt w.host.device o.serves.message.held addr r o.serves.answer → RegionKeeps u.host.device.region → IsJournalOf (all_shares u (rows_with w u rows n h v') 0 u.guest.processes) u.host.device.region
unmap_served w u rows n h v' name addr None o under crosses command at there does keeps =
    denied_served w u rows n h o.serves.posted.line (Munmap name) v' o.serves.posted.crossing Einval o.serves.message.held o under refl crosses (lit< tt, lit< tt) does
unmap_served w u rows n h v' name addr (Some r) o under crosses command at there (region, unmaps, after) keeps =
    given_served w u rows n h o.serves.posted.line name v' o.serves.posted.crossing addr r region o under crosses command at there unmaps (ap (λ (a : Answer). a.response) after)
    (ap (λ (d : DeviceState). d.region) o.serves.device ∙ ap (λ (a : Answer). a.device.region) after) keeps

-- a frame is mapped, or refused for want of memory
frame_served : (w u : WorldState) (rows : List (List Inner)) (n h : ℕ) (v' : Inner) (name : List ℕ) (t i : ℕ) (ro : Bool) (session made len : ℕ) (k : Crossing) → (o : IsOver w u rows n h v') → (slice_at w n h).handle.stage ≡ Underway o.serves.posted.line (Mmap name t i ro) →
    crossing_from (slice_at w n h).handle (Mmap name t i ro) ≡ Some k → k.command ≡ Map session (not ro) (buffer_offset t i) → id_at w n h ≡ Some session → made < 2 ^ 32 → len ≤ 921600 →
    slice_get (inner_at w rows n h).frames made ≡ Some (memory_at (driver_state (slice_at w n h)) t i) → IfSome (range_of (frame_tag session made) w.host.device.region.ranges) (λ r. r.pages ≡ pages_of len) →
    MapsFrame w.host.device o.serves.message.held (frame_tag session made) len o.serves.answer → RegionKeeps u.host.device.region → IsJournalOf (all_shares u (rows_with w u rows n h v') 0 u.guest.processes) u.host.device.region
frame_served w u rows n h v' name t i ro session made len k o under crosses command id small short memory whole (inl denied) keeps =
    denied_served w u rows n h o.serves.posted.line (Mmap name t i ro) v' k Enomem o.serves.message.held o under refl crosses (lit< tt, lit< tt) denied
frame_served w u rows n h v' name t i ro session made len k o under crosses command id small short memory whole (inr (addr, region, maps, after)) keeps =
    let tag : ℕ = frame_tag session made in
    let low : addr < 2 ^ 64 = low_map (range_of tag w.host.device.region.ranges) w.host.device tag (pages_of len) addr region o.sound.mapped.low refl maps in
    let fits : Answers k.command (MappedAt addr len) = subst (λ c. Answers c (MappedAt addr len)) (sym command) (low, omega (arith, short)) in
    made_served (range_of tag w.host.device.region.ranges) w u rows n h o.serves.posted.line name t i ro v' session made len addr region (record {
      over = o;
      under = under;
      crosses = (k, crosses, fits);
      id = id;
      small = small;
      memory = memory;
      maps = maps;
      whole = whole;
      response = ap (λ (a : Answer). a.response) after;
      same = ap (λ (d : DeviceState). d.region) o.serves.device ∙ ap (λ (a : Answer). a.device.region) after;
      keeps = keeps;
    }) refl

map_served : (w u : WorldState) (rows : List (List Inner)) (n h : ℕ) (v' : Inner) (name : List ℕ) (t i : ℕ) (ro : Bool) → (o : IsOver w u rows n h v') → o.serves.posted.call ≡ Mmap name t i ro → RegionKeeps u.host.device.region →
    IsJournalOf (all_shares u (rows_with w u rows n h v') 0 u.guest.processes) u.host.device.region
map_served w u rows n h v' name t i ro o call keeps =
    let x : Slice = slice_at w n h in
    let v : Inner = inner_at w rows n h in
    let d : DeviceState = w.host.device in
    let m : Posting = o.serves.message in
    let posted : IsPosted x m = o.serves.posted in
    let r : LocalState = driver_state x in
    let sound : IsSoundSlice x v = o.sound.slices n h o.serves.named in
    let is : IsOutside x v = outside x v m sound o.serves.out in
    let crosses : crossing_from x.handle (Mmap name t i ro) ≡ Some posted.crossing = subst (λ k. crossing_from x.handle k ≡ Some posted.crossing) call posted.crosses in
    let map_crossing : ℕ → Crossing = λ n. record { command = Map n (not ro) (buffer_offset t i); user = None } in
    let way : (first_refusal (row_of r 0 0 (Mmap name t i ro)).refusals ≡ None) × (map_crossing (id_of x.handle.session) ≡ posted.crossing) =
    crossed_unrefused (first_refusal (row_of r 0 0 (Mmap name t i ro)).refusals) (map_crossing (id_of x.handle.session)) posted.crossing crosses in
    let live : (s : SessionState) × (x.session ≡ Some s) × (x.handle.session ≡ Some s.id) = live_session x v d sound is (map_open r name t i ro way.0) in
    let s : SessionState = live.0 in
    let id : id_at w n h ≡ Some s.id = o.serves.own ∙ live.2 in
    let there : session_of d s.id ≡ Some s = ap (session_in d) (sym id) ∙ live.1 in
    let slice : IsSlice v.frames s x.job (earlier_of x) None r v.ahead = subst (λ e. IsSlice v.frames s x.job (earlier_of x) e r v.ahead) is.none (subst (λ z. IsSeated z x v) live.1 sound.seated) in
    let reached : IsReached v.ahead = all_reached s.id r v.ahead (earlier_of x ++ s.unsent) is.reached slice.leads in
    let ahead_crosses : crossing_of (id_of x.handle.session) v.ahead (Mmap name t i ro) ≡ Some posted.crossing =
    ap crossing (ap (λ n. way_of n v.ahead (Mmap name t i ro)) (ap id_of live.2) ∙ (ways_stay s.id r v.ahead (Mmap name t i ro) (earlier_of x ++ s.unsent) is.reached slice.leads refl
    ∙ ap (λ n. way_of n r (Mmap name t i ro)) (ap id_of (sym live.2)))) ∙ crosses in
    let pass : first_refusal (row_of v.ahead 0 0 (Mmap name t i ro)).refusals ≡ None =
    (crossed_unrefused (first_refusal (row_of v.ahead 0 0 (Mmap name t i ro)).refusals) (map_crossing (id_of x.handle.session)) posted.crossing ahead_crosses).0 in
    let named_map : posted.crossing.command ≡ Map s.id (not ro) (buffer_offset t i) = ap (λ (k : Crossing). k.command) (sym way.1) ∙ ap (λ z. Map (id_of z) (not ro) (buffer_offset t i)) live.2 in
    let command : o.serves.command ≡ Map s.id (not ro) (buffer_offset t i) = sym (asked_same x m o.serves.command posted o.serves.asks) ∙ named_map in
    let does : Performs d (Map s.id (not ro) (buffer_offset t i)) m.behind m.held o.serves.answer = subst (λ k. Performs d k m.behind m.held o.serves.answer) command o.serves.performs in
    let frame : (before : ℕ) × (frame_of s (buffer_offset t i) ≡ Ok (frame_tag s.id before, (buffer_of (queue_of v.ahead t) i).length)) × ((buffer_of (queue_of v.ahead t) i).memory ≡ slice_get v.frames before) =
    maps_alike v.frames s 0 v.ahead name t i ro slice.stands reached pass in
    let before : ℕ = frame.0 in
    let len : ℕ = (buffer_of (queue_of v.ahead t) i).length in
    let found : IsFound d s.id s (frame_tag s.id before) len = found_in d s.id (buffer_offset t i) s (frame_tag s.id before, len) o.sound.device.sound there frame.1 in
    let few : MadeFew (Some s) = subst MadeFew there (made_few w rows o.sound s.id) in
    let same : before ≡ found.made = (let tags = found.tag_is in omega (arith, tags)) in
    let below : before < s.made = (let bound = found.below in omega (arith, same, bound)) in
    let small : before < 2 ^ 32 = omega (arith, below, few) in
    let long : before < length v.frames = (let made = slice.stands.made in omega (arith, below, made)) in
    let at : slice_get v.frames before ≡ Some (get_or v.frames before 0) = slice_get-get_or v.frames before 0 long in
    let ahead : memory_at v.ahead t i ≡ get_or v.frames before 0 = ap (λ z. unwrap_or z 0) (frame.2 ∙ at) in
    let memory : slice_get v.frames before ≡ Some (memory_at r t i) = at ∙ ap Some (sym ahead ∙ memory_stays s.id r v.ahead t i (earlier_of x ++ s.unsent) is.reached slice.leads) in
    let maps : MapsFound d m.held (Ok (frame_tag s.id before, len)) o.serves.answer =
    subst (λ z. MapsFound d m.held z o.serves.answer) (ap (λ z. frame_in z (buffer_offset t i)) there ∙ frame.1) does in
    frame_served w u rows n h v' name t i ro s.id before len posted.crossing o (posted.underway ∙ ap (Underway posted.line) call) crosses named_map id small found.short memory found.whole maps keeps

call_served : (call : Call) (w u : WorldState) (rows : List (List Inner)) (n h : ℕ) (v' : Inner) → (o : IsOver w u rows n h v') → o.serves.posted.call ≡ call → RegionKeeps u.host.device.region →
    IsJournalOf (all_shares u (rows_with w u rows n h v') 0 u.guest.processes) u.host.device.region
call_served (Mmap name t i ro) w u rows n h v' o call keeps = map_served w u rows n h v' name t i ro o call keeps
call_served (Munmap name) w u rows n h v' o call keeps =
    let x : Slice = slice_at w n h in
    let m : Posting = o.serves.message in
    let posted : IsPosted x m = o.serves.posted in
    let addr : ℕ = address_of (named (driver_state x) name) in
    let crosses : crossing_from x.handle (Munmap name) ≡ Some posted.crossing = subst (λ k. crossing_from x.handle k ≡ Some posted.crossing) call posted.crosses in
    let way : _ = crossed_unrefused (first_refusal (row_of (driver_state x) 0 0 (Munmap name)).refusals) (record { command = Unmap addr; user = None }) posted.crossing crosses in
    let named_unmap : posted.crossing.command ≡ Unmap addr = ap (λ (k : Crossing). k.command) (sym way.1) in
    let command : o.serves.command ≡ Unmap addr = sym (asked_same x m o.serves.command posted o.serves.asks) ∙ named_unmap in
    let does : Performs w.host.device (Unmap addr) m.behind m.held o.serves.answer = subst (λ k. Performs w.host.device k m.behind m.held o.serves.answer) command o.serves.performs in
    unmap_served w u rows n h v' name addr (range_at addr w.host.device.region.ranges) o (posted.underway ∙ ap (Underway posted.line) call) crosses named_unmap refl refl does keeps
call_served call w u rows n h v' o is keeps = plain_served w u rows n h v' o (ap tells is)

-- ---- the step

-- the handle that a step moved, with what is behind it then
pub record MovedOn (s : Step) (w u : WorldState) (rows : List (List Inner)) (n h : ℕ) (v' : Inner) : Type 0 where
  pub does : SliceDoes s (slice_at w n h) (slice_at u n h)
  pub others : SameElsewhere n h w u
  pub sound : IsSoundSlice (slice_at u n h) v'
  pub more : List ℕ
  pub frames : v'.frames ≡ (inner_at w rows n h).frames ++ more

-- where the region stays and the moved share is a later one
later_on : (w u : WorldState) (rows : List (List Inner)) (n h : ℕ) (v' : Inner) → IsSoundBy w rows → IsDriver w.script u.guest → u.script ≡ w.script → SameElsewhere n h w u → u.host.device.region ≡ w.host.device.region →
    (IsHandle w n h → LaterShare (share_at w rows n h) (share_of w.script.model (slice_at u n h).handle v' (id_at u n h))) → IsJournalOf (all_shares u (rows_with w u rows n h v') 0 u.guest.processes) u.host.device.region
later_on w u rows n h v' sound driver script others same later =
    subst (IsJournalOf (all_shares u (rows_with w u rows n h v') 0 u.guest.processes)) (sym same)
    (journal_later (all_shares w rows 0 w.guest.processes) (all_shares u (rows_with w u rows n h v') 0 u.guest.processes) w.host.device.region
    (shares_lift w u rows n h v' sound.lines driver script others
    (λ named. subst (λ m. LaterShare (share_at w rows n h) (share_of m (slice_at u n h).handle v' (id_at u n h))) (sym (ap (λ z. z.model) script)) (later (handles_stay w.script w u sound.lines driver n h named)))) sound.mapped)

-- of another handle than the moved one no call is done
never_same : (o : Out) (m : Posting) (r : Returning) → (o ≡ Asked m) ⊎ (o ≡ Kept m) → o ≡ Told r → ⊥
never_same o m r (inl asked) told = apart m r (sym asked ∙ told)
  where
    apart : (m : Posting) (r : Returning) → Asked m ≡ Told r → ⊥
    apart m r is = cc
never_same o m r (inr kept) told = apart m r (sym kept ∙ told)
  where
    apart : (m : Posting) (r : Returning) → Kept m ≡ Told r → ⊥
    apart m r is = cc

one_moved : (w u : WorldState) (rows : List (List Inner)) (n h i k : ℕ) → SameElsewhere n h w u → Serves w u rows i k → ¬ ((i ≡ n) × (k ≡ h)) → ⊥
one_moved w u rows n h i k others s apart =
    let same : slice_at u i k ≡ slice_at w i k = others i k apart in
    never_same (out_at w i k) s.message (told_by s.message s.answer) s.out (ap (λ (x : Slice). x.out) (sym same) ∙ ap (λ (x : Slice). x.out) s.slice)

served_on : (w u : WorldState) (rows : List (List Inner)) (n h i k : ℕ) (v' : Inner) (more : List ℕ) → IsSoundBy w rows → SameElsewhere n h w u → IsSoundSlice (slice_at u n h) v' → v'.frames ≡ (inner_at w rows n h).frames ++ more → Serves w u rows i k → RegionKeeps u.host.device.region →
    IsJournalOf (all_shares u (rows_with w u rows n h v') 0 u.guest.processes) u.host.device.region
served_on w u rows n h i k v' more sound others goes frames serves keeps = by_place (cases_eq i n) (cases_eq k h)
  where
    here : Serves w u rows n h → IsJournalOf (all_shares u (rows_with w u rows n h v') 0 u.guest.processes) u.host.device.region
    here s = call_served s.posted.call w u rows n h v' (record { sound = sound; serves = s; goes = goes; more = more; frames = frames }) refl keeps

    by_place : (i ≡ n) ⊎ ¬ (i ≡ n) → (k ≡ h) ⊎ ¬ (k ≡ h) → IsJournalOf (all_shares u (rows_with w u rows n h v') 0 u.guest.processes) u.host.device.region
    by_place (inl first) (inl second) = here (subst (λ z. Serves w u rows z h) first (subst (λ z. Serves w u rows i z) second serves))
    by_place (inr differs) second = absurd (one_moved w u rows n h i k others serves (λ both. differs both.0))
    by_place (inl first) (inr differs) = absurd (one_moved w u rows n h i k others serves (λ both. differs both.1))

none_on : (w u : WorldState) (rows : List (List Inner)) (n h : ℕ) (v' : Inner) (more : List ℕ) → IsSoundBy w rows → IsDriver w.script u.guest → u.script ≡ w.script → SameElsewhere n h w u → IsSoundSlice (slice_at u n h) v' → v'.frames ≡ (inner_at w rows n h).frames ++ more → ServesNone w u →
    IsJournalOf (all_shares u (rows_with w u rows n h v') 0 u.guest.processes) u.host.device.region
none_on w u rows n h v' more sound driver script others goes frames none =
    later_on w u rows n h v' sound driver script others (ap (λ (d : DeviceState). d.region) none.device) (λ named. by_slice named (none.slices n h))
  where
    by_slice : IsHandle w n h → (slice_at u n h ≡ slice_at w n h) ⊎ ((m : Posting) × (slice_at u n h ≡ record (slice_at w n h) { out = Kept m }) × (out_at w n h ≡ Asked m)) →
        LaterShare (share_at w rows n h) (share_of w.script.model (slice_at u n h).handle v' (id_at u n h))
    by_slice named (inl same) =
        stays_later (slice_at w n h) (slice_at u n h) (inner_at w rows n h) v' w.script.model more (sound.slices n h named) goes (ap (λ (x : Slice). x.handle) same) (ap (λ (x : Slice). x.out) same) frames
    by_slice named (inr (m, kept, asked)) =
        waits_later (slice_at w n h) (slice_at u n h) (inner_at w rows n h) v' w.script.model more m (sound.slices n h named) goes kept asked frames

by_served : (w u : WorldState) (rows : List (List Inner)) (n h : ℕ) (v' : Inner) (more : List ℕ) → IsSoundBy w rows → IsDriver w.script u.guest → u.script ≡ w.script → SameElsewhere n h w u → IsSoundSlice (slice_at u n h) v' → v'.frames ≡ (inner_at w rows n h).frames ++ more → ServesIf w u rows →
    RegionKeeps u.host.device.region → IsJournalOf (all_shares u (rows_with w u rows n h v') 0 u.guest.processes) u.host.device.region
by_served w u rows n h v' more sound driver script others goes frames (inl (i, k, serves)) keeps = served_on w u rows n h i k v' more sound others goes frames serves keeps
by_served w u rows n h v' more sound driver script others goes frames (inr none) keeps = none_on w u rows n h v' more sound driver script others goes frames none

-- After a step that moved a handle, with this behind it, the journal is that of all shares.
pub mapped_next : (s : Step) (w u : WorldState) (rows : List (List Inner)) (n h : ℕ) (v' : Inner) → IsSoundBy w rows → IsDriver w.script u.guest → Steps w s u → MovedOn s w u rows n h v' →
    IsJournalOf (all_shares u (rows_with w u rows n h v') 0 u.guest.processes) u.host.device.region
mapped_next Execute w u rows n h v' sound driver does m =
    by_served w u rows n h v' m.more sound driver (script_stays w u Execute does) m.others m.sound m.frames (execute_serves w u rows sound does.1) (region_does w u rows Execute sound does.1)
mapped_next (Resume session) w u rows n h v' sound driver does m =
    by_served w u rows n h v' m.more sound driver (script_stays w u (Resume session) does) m.others m.sound m.frames (resume_serves w u rows session sound does.1) (region_does w u rows (Resume session) sound does.1)
mapped_next s w u rows n h v' sound driver does m =
    later_on w u rows n h v' sound driver (script_stays w u s does) m.others (same_region w u s refl does.1)
    (λ named. step_later s (slice_at w n h) (slice_at u n h) (inner_at w rows n h) v' w.script.model m.more refl (sound.slices n h named) m.sound m.does m.frames)

-- ---- where no handle moves

-- each handle of the other world has the same share, with what was behind it
same_shares : (w u : WorldState) (rows more : List (List Inner)) → u.script ≡ w.script → ((n h : ℕ) → IsHandle u n h → slice_at u n h ≡ slice_at w n h) → ((n h : ℕ) → IsHandle u n h → inner_at u more n h ≡ inner_at w rows n h) →
    (n h : ℕ) → IsHandle u n h → LaterShare (share_at w rows n h) (share_at u more n h)
same_shares w u rows more script slices inners n h named =
    let same : slice_at u n h ≡ slice_at w n h = slices n h named in
    same_share (share_at w rows n h) (share_at u more n h) (λ j. share_of (script j).model (same j).handle (inners n h named j) (id_ahead (same j).handle (same j).out))

-- After a step that moved none the journal is that of the shares as they were.
pub mapped_same : (w u : WorldState) (rows more : List (List Inner)) → IsSoundBy w rows → IsDriver w.script u.guest → u.script ≡ w.script → ((n h : ℕ) → IsHandle u n h → slice_at u n h ≡ slice_at w n h) →
    ((n h : ℕ) → IsHandle u n h → inner_at u more n h ≡ inner_at w rows n h) → u.host.device.region ≡ w.host.device.region → IsJournalOf (all_shares u more 0 u.guest.processes) u.host.device.region
mapped_same w u rows more sound driver script slices inners same =
    subst (IsJournalOf (all_shares u more 0 u.guest.processes)) (sym same)
    (journal_later (all_shares w rows 0 w.guest.processes) (all_shares u more 0 u.guest.processes) w.host.device.region
    (shares_later w u rows more sound.lines driver (same_shares w u rows more script slices inners)) sound.mapped)
