-- Before the first line of a script the world is a sound one.
use Rattle.std.proofs.Common.{◌≡◌, ℕ, ◌*◌, ◌<◌, false, List, [], ◌∷◌, Option, Some, None, length, get_or, map, replicate, refl, sym, ap, ◌∙◌, subst, arith, inl, inr}
use Rattle.std.specs.Prelude.{slice_get}
use Rattle.std.specs.List.{All, Contains}
use Rattle.std.proofs.lemmas.Bool.{cases_lt}
use Rattle.std.proofs.lemmas.List.{get_or_past, get_or-replicate, length-replicate}
use Rattle.std.proofs.lemmas.List.Elements.{All-nil, All-cons}
use Rattle.std.proofs.lemmas.Option.{none-some}
use Rattle.v4l_const.specs.declared.model.Model.{Model}
use Rattle.vm_frame.specs.declared.mem.Held.{Held}
use Rattle.vm_local.specs.State.{opening}
use Rattle.vm_home.specs.Moves.{memory_at}
use Rattle.vm_region.specs.Region.{AreApart}
use Rattle.vm_script.specs.Script.{ScriptLines}
use Rattle.vm_wire.specs.Message.{Posting, Returning}
use Rattle.vm_handle.specs.Handle.{HandleState, fresh_handle}
use Rattle.vm_handle.specs.declared.stage.Stage.TheVariants.{Underway, AtRest as Resting}
use Rattle.vm_handle.proofs.KeptLemmas.{IsKept, fresh_kept}
use Rattle.vm_device.specs.Device.{DeviceState}
use Rattle.vm_device.proofs.MappingLemmas.{fits_nothing}
use Rattle.vm_device.proofs.StepLemmas.{fresh_sound}
use Rattle.vm_host.specs.Part.{Call as WaitingCall}
use Rattle.vm_pump.specs.Pump.{PumpState, handle_room}
use Rattle.vm_session.specs.declared.unsent.Unsent.{Unsent}
use Rattle.vm_guest.specs.Guest.{no_process, process_at, seat_of}
use Rattle.vm_guest.specs.Orderly.{IsDriver, IsFresh, fresh_at, lines_at}
use Rattle.vm_guest.specs.Process.{ProcessState, is_crossing, current, crossing, some_if, handle_at}
use Rattle.vm_guest.specs.declared.seat.Seat.{Seat}
use Rattle.vm_guest.specs.declared.asked.Statement.{Statement}
use Rattle.vm_guest.specs.declared.status.Status.TheVariants.{AtRest}
use Rattle.vm_guest.proofs.GuestFreshLemmas.{fresh_driver, few_handles}
use Rattle.vm_realm.specs.World.{WorldState, IsOpening, handle_count, statement_count}
use Rattle.vm_realm.specs.Inner.{inner_of, driver_state}
use Rattle.vm_realm.specs.Left.{left_of}
use Rattle.vm_realm.specs.Mapped.{Share, IsJournalOf}
use Rattle.vm_realm.specs.Slice.{Slice, id_ahead, requests_of, calls_of, replies_of, out_at, slice_with, slice_at}
use Rattle.vm_realm.specs.Slice.Out.{Nowhere, Asked, Kept, Told}
use Rattle.vm_realm.specs.Sound.{IsRunnable, IsSoundSlice, stopped_last, queue_told, AnswersRaws, IsLineOut, IsQuiet, AgreeOnIds, IsSaid, AreOfHandles, RiseFrom, IsDeviceFor, MadeWithin, IsWithin, IsSound, IsHandle, id_at, inner_at, one_if, share_of, all_shares}
use Rattle.vm_realm.specs.Users.{IsUsers, AreUsers}
use Rattle.vm_realm.proofs.OpeningLemmas.{opening_left}
use Rattle.vm_realm.proofs.LendLemmas.{nowhere}
use Rattle.vm_realm.proofs.ShareLemmas.{IsThere, is_there, Each, each_share}

-- ---- one handle

-- the slice of a handle before its first line
abbrev pub fresh_slice : ℕ → HandleState → Slice
fresh_slice n handle = record { who = n; handle = handle; out = Nowhere; held = []; events = []; session = None; job = None }

not_asked : (m : Posting) → Nowhere ≡ Asked m → ⊥
not_asked m same = cc

not_told : (r : Returning) → Nowhere ≡ Told r → ⊥
not_told r same = cc

fresh_is_sound : (n : ℕ) (model : Model) (lines : ℕ) → IsSoundSlice (fresh_slice n (fresh_handle model lines)) (inner_of (opening model))
fresh_is_sound n model lines =
    let kept : IsKept (fresh_handle model lines) = fresh_kept model lines in
    let x : Slice = fresh_slice n (fresh_handle model lines) in
    let none_used : AreUsers (opening model) [] = All-nil (λ (h : Held). IsUsers (opening model) (memory_at (opening model) h.queue h.index) h.mem) in
    record {
      log = kept.sound;
      handle = kept.keeps;
      out = (record { executed = refl; before = refl }, λ line call same. (let never : Resting ≡ Underway line call → ⊥ = λ is. cc in never same));
      seated = record {
        reached = (model, [], refl);
        leads = refl;
        shut = refl;
        owed = refl;
        none_runs = refl;
        unmade = λ none. refl;
      };
      named = tt;
      runs = refl;
      still = All-nil (λ (e : Unsent). ¬ Contains (stopped_last x) (queue_told model e.msg));
      held = refl;
      users = record {
        home = λ m mem there. absurd (none-some mem there);
        lent = λ entry out. absurd (none-some entry out);
        along = λ m number out. absurd (not_asked m out);
        back = λ r out. absurd (not_told r out);
        messages = none_used;
        queued = none_used;
        job = none_used;
      };
    }

-- ---- all handles

-- what is so of each handle before the first line
record IsFirst (w : WorldState) (script : ScriptLines) (n h : ℕ) : Type 0 where
  handle : handle_at (process_at w.guest n) h ≡ fresh_at script.model (lines_at script n) h
  slice : slice_at w n h ≡ fresh_slice n (fresh_at script.model (lines_at script n) h)

module _ (script : ScriptLines) (w : WorldState) (run : IsRunnable script) (first : IsOpening script w) where
  rest_at : (n : ℕ) → n < length w.guest.processes → (process_at w.guest n).status ≡ AtRest
  rest_at n within = (first.guest.fresh n within).status

  free_at : (n : ℕ) → is_crossing (process_at w.guest n).status ≡ false
  free_at n = elim (cases_lt n (length w.guest.processes)) [
    | inl within ↦ ap is_crossing (rest_at n within)
    | inr past ↦ ap (λ (p : ProcessState). is_crossing p.status) (get_or_past w.guest.processes n no_process past)
  ]

  none_held : w.guest.pump.held ≡ []
  none_held = ap (λ (p : PumpState). p.held) first.guest.pump

  first_at : (n h : ℕ) → IsHandle w n h → IsFirst w script n h
  first_at n h named =
      let there : IsThere w.guest n h (handle_at (process_at w.guest n) h) = is_there w n h named in
      let fresh : IsFresh script.model n (lines_at script n) (process_at w.guest n) = first.guest.fresh n there.process in
      let handle : handle_at (process_at w.guest n) h ≡ fresh_at script.model (lines_at script n) h = fresh.fresh h there.handle in
      let out : out_at w n h ≡ Nowhere = nowhere w n h (process_at w.guest n) (free_at n) in
      record {
        handle = handle;
        slice = λ j. slice_with w n (handle j) (out j);
      }

  id_none : (n h : ℕ) → IsHandle w n h → id_at w n h ≡ None
  id_none n h named = ap (λ (x : Slice). id_ahead x.handle x.out) (first_at n h named).slice

  never : (n h id : ℕ) → IsHandle w n h → id_at w n h ≡ Some id → ⊥
  never n h id named is = none-some id (sym (id_none n h named) ∙ is)

  slice_sound : (n h : ℕ) → IsHandle w n h → IsSoundSlice (slice_at w n h) (inner_at w [] n h)
  slice_sound n h named =
      subst (λ (x : Slice). IsSoundSlice x (inner_of (driver_state x))) (sym (first_at n h named).slice)
      (fresh_is_sound n script.model _)

  seat_none : (id : ℕ) → seat_of w.guest id ≡ None
  seat_none id =
      let all : seat_of w.guest id ≡ get_or (replicate (handle_count script) None) id None = ap (λ ss. get_or ss id None) first.guest.seats in
      elim (cases_lt id (handle_count script)) [
        | inl within ↦ all ∙ get_or-replicate (handle_count script) id None None within
        | inr past ↦ all ∙ get_or_past (replicate (handle_count script) None) id None (let long = length-replicate {A = Option Seat} (handle_count script) None in omega (arith, past, long))
      ]

  sessions_none : w.host.device.sessions ≡ []
  sessions_none = ap (λ (d : DeviceState). d.sessions) first.device

  ids_agree : AgreeOnIds w
  ids_agree = record {
    below = λ n h id named is. absurd (never n h id named is);
    there = λ id within. absurd (let few = ap length sessions_none in omega (arith, within, few));
    once = λ n h m k id named other is same. absurd (never n h id named is);
    seats = λ n h id named is. absurd (none-some id (sym (ap (λ (x : HandleState). x.session) (first_at n h named).handle) ∙ is));
    seated = λ id seat is. absurd (none-some seat (sym (seat_none id) ∙ is));
    places = ap length first.guest.seats ∙ (length-replicate (handle_count script) None ∙ ap handle_count (sym first.is));
  }

  device_sound : IsDeviceFor script w.host.device
  device_sound = subst (IsDeviceFor script) (sym first.device) (record {
    model = refl;
    opens = refl;
    sound = fresh_sound script.model (handle_count script) (let few = few_handles script run.fit in omega (arith, few)) fits_nothing;
  })

  no_ranges : AreApart []
  no_ranges = record {
    by_address = λ addr r is. absurd (none-some r is);
    by_tag = λ tag r is. absurd (none-some r is);
    whole = λ addr r is. absurd (none-some r is);
    apart = λ addr other r s is same differs. absurd (none-some r is);
  }

  no_mappings : Each (λ s. s.mappings ≡ []) (all_shares w [] 0 w.guest.processes)
  no_mappings = each_share (λ s. s.mappings ≡ []) w [] (λ n h named.
      ap (λ (x : HandleState). (share_of w.script.model x (inner_of (driver_state (slice_with w n x Nowhere))) None).mappings) (first_at n h named).handle)

  all_empty : (ss : List Share) → Each (λ s. s.mappings ≡ []) ss → All (λ ms. ms ≡ []) (map (λ s. s.mappings) ss)
  all_empty [] all = All-nil _
  all_empty (s ∷ ss) all = All-cons (λ ms. ms ≡ []) s.mappings (map (λ (t : Share). t.mappings) ss) all.0 (all_empty ss all.1)

  journal_first : IsJournalOf (all_shares w [] 0 w.guest.processes) w.host.device.region
  journal_first = subst (IsJournalOf (all_shares w [] 0 w.guest.processes)) (sym (ap (λ (d : DeviceState). d.region) first.device)) (record {
    lives = [];
    sound = tt;
    deals = (all_empty (all_shares w [] 0 w.guest.processes) no_mappings, refl);
    live = λ addr. refl;
    apart = no_ranges;
    low = λ tag r is. absurd (none-some r is);
    tagged = λ addr r is. absurd (none-some r is);
  })

  is_said : IsSaid w
  is_said = record {
    sent = subst (AreOfHandles w) (sym first.events) (All-nil _);
    held = subst (AreOfHandles w) (sym none_held) (All-nil _);
    rising = subst (RiseFrom 0) (sym first.calls) tt;
    waiting = subst (λ cs. All (λ (c : WaitingCall). (n : ℕ) × (h : ℕ) × IsHandle w n h × (out_at w n h ≡ Kept c.posting) × (id_at w n h ≡ Some c.session)) cs) (sym first.calls) (All-nil _);
  }

  none_crosses : (n : ℕ) → crossing (process_at w.guest n) ≡ None
  none_crosses n = ap (λ b. some_if b (current (process_at w.guest n))) (free_at n)

  none_answered : (n k : ℕ) (s : Statement) → slice_get (process_at w.guest n).statements k ≡ Some s → k < (process_at w.guest n).answered → ⊥
  none_answered n k s at before = elim (cases_lt n (length w.guest.processes)) [
    | inl within ↦ (let none = (first.guest.fresh n within).answered in omega (arith, none, before))
    | inr past ↦ (let none = ap (λ (p : ProcessState). p.answered) (get_or_past w.guest.processes n no_process past) in omega (arith, none, before))
  ]

  raws_answered : AnswersRaws w
  raws_answered = record {
    answered = λ n k s chain at what before. absurd (none_answered n k s at before);
    out = λ n. subst (IsLineOut w n) (sym (none_crosses n)) tt;
  }

  quiet_first : IsQuiet w
  quiet_first = record {
    one = λ n. (
        let asked = ap (λ ms. length (requests_of (record w { requests = ms }) n)) first.requests in
        let calls = ap (λ cs. length (calls_of (record w { host = record w.host { calls = cs } }) n)) first.calls in
        let told = ap (λ rs. length (replies_of (record w { replies = rs }) n)) first.replies in
        let free = ap one_if (free_at n) in
        omega (arith, asked, calls, told, free));
    chains = (let chains = first.chains in let events = ap length first.events in omega (arith, chains, events));
    room = ap (λ (p : PumpState). p.room) first.guest.pump ∙ ap (λ k. handle_room * k) (sym first.guest.count);
  }

  within_first : IsWithin w
  within_first = record {
    jobs = (
        let begun = ap (λ (d : DeviceState). d.begun) first.device in
        let lines = ap statement_count first.is in
        omega (arith, begun, lines, opening_left script w first));
    frames = λ id. subst (MadeWithin (left_of w) (statement_count w.script)) (sym (ap (λ ss. get_or ss id None) sessions_none)) tt;
  }

  pub sound_at_first : IsSound w
  sound_at_first = (
    [],
    record {
      script = subst IsRunnable (sym first.is) run;
      lines = subst (λ s. IsDriver s w.guest) (sym first.is) (fresh_driver script w.guest run.fit first.guest);
      slices = slice_sound;
      ids = ids_agree;
      device = subst (λ s. IsDeviceFor s w.host.device) (sym first.is) device_sound;
      mapped = journal_first;
      said = is_said;
      raws = raws_answered;
      quiet = quiet_first;
      within = within_first;
    },
  )
