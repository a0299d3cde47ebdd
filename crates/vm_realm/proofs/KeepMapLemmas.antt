-- A frame that is mapped keeps a slice sound.
use Rattle.std.proofs.Common.{◌≡◌, ◌⊎◌, inl, inr, ℕ, ◌<◌, ◌^◌, true, Bool, not, List, [], ◌++◌, Option, Some, None, IsSome, refl, sym, ap, ◌∙◌, subst, arith, lit<}
use Rattle.std.specs.Option.{option_to_list}
use Rattle.std.specs.Prelude.{Ok}
use Rattle.std.proofs.lemmas.Bool.{false≢true, not-false}
use Rattle.v4l_const.specs.Errno.{errno_number}
use Rattle.v4l_const.specs.declared.errno.Errno.TheVariants.{Enomem}
use Rattle.v4l_rules.specs.Refusals.{first_refusal}
use Rattle.vm_region.specs.Region.{RegionState, Maps, range_of}
use Rattle.vm_region.specs.declared.live_range.LiveRange.{LiveRange}
use Rattle.vm_wire.specs.Buffers.{buffer_offset}
use Rattle.vm_wire.specs.Message.{Posting}
use Rattle.vm_wire.specs.Message.Ask.{Judged}
use Rattle.vm_wire.specs.declared.command.Command.{Command}
use Rattle.vm_wire.specs.declared.command.Command.TheVariants.{Map}
use Rattle.vm_wire.specs.declared.response.Response.TheVariants.{Refused as Denied, Opened, Mapped as MappedAt}
use Rattle.vm_local.specs.declared.call.Call.{Call}
use Rattle.vm_local.specs.declared.call.Call.TheVariants.{Mmap}
use Rattle.vm_local.specs.declared.reply.Reply.{Reply}
use Rattle.vm_local.specs.declared.reply.Reply.TheVariants.{Refused, Mapped}
use Rattle.vm_local.specs.State.{LocalState, queue_of, buffer_of}
use Rattle.vm_local.specs.Same.{address_in}
use Rattle.vm_local.specs.Calls.{row_of, mmap_row}
use Rattle.vm_local.specs.Log.{IsCall, answered, row_for, called}
use Rattle.vm_local.proofs.StepLemmas.{passes, answered_by}
use Rattle.vm_home.specs.Moves.{memory_at}
use Rattle.vm_home.specs.Reached.{IsReached}
use Rattle.vm_exchange.specs.declared.crossing.Crossing.{Crossing}
use Rattle.vm_exchange.specs.Exchange.{crossing, crossing_of, way_of, response_to}
use Rattle.vm_exchange.proofs.FitLemmas.{crossed_unrefused}
use Rattle.vm_exchange.proofs.OutcomeLemmas.{outcome}
use Rattle.vm_handle.specs.Handle.{id_of, crossing_from}
use Rattle.vm_handle.specs.declared.stage.Stage.TheVariants.{Underway}
use Rattle.vm_session.specs.State.{SessionState}
use Rattle.vm_session.specs.Buffers.{frame_tag}
use Rattle.vm_session.specs.Mapped.{frame_of}
use Rattle.vm_stands.specs.Laws.{Along}
use Rattle.vm_stands.specs.Slice.{IsSlice}
use Rattle.vm_stands.proofs.AnswerLemmas.{done}
use Rattle.vm_stands.proofs.ApartLemmas.{slice_stays_apart}
use Rattle.vm_stands.proofs.MapLemmas.{maps_alike}
use Rattle.vm_stands.proofs.SliceLemmas.{all_reached}
use Rattle.vm_stands.proofs.StillLemmas.{ways_stay}
use Rattle.vm_device.specs.Device.{DeviceState, session_of}
use Rattle.vm_device.specs.Mappings.{frame_in, pages_of}
use Rattle.vm_device.specs.Perform.{Answer, MapsFound, MapsFrame, refused, with_region}
use Rattle.vm_realm.specs.Inner.{Inner, driver_state}
use Rattle.vm_realm.specs.Laws.{CallsKeepSlice, GoesOnSoundly, makes_mapping}
use Rattle.vm_realm.specs.Mapped.{AreLow}
use Rattle.vm_realm.specs.Slice.{Slice, id_ahead, session_in, earlier_of}
use Rattle.vm_realm.specs.Slice.Out.{Asked, Kept, Told}
use Rattle.vm_realm.specs.SliceSteps.{IsDeviceOf, IsServed, told_by}
use Rattle.vm_realm.specs.Sound.{IsPosted, IsSeated, IsSoundSlice}
use Rattle.vm_realm.proofs.KeepReplyLemmas.{map_reply}
use Rattle.vm_realm.proofs.KeepServeLemmas.{asked_same}
use Rattle.vm_realm.proofs.KeepOpenLemmas.{IsOutside, outside, none_along, told_id, live_session}
use Rattle.vm_realm.proofs.KeepPlainLemmas.{IsPlainCall, answered_sound, same_itself}
use Rattle.vm_realm.proofs.KeepUnmapLemmas.{same_session}

-- ---- the call

map_call : (name : List ℕ) (t i : ℕ) (ro : Bool) → IsPlainCall (Mmap name t i ro)
map_call name t i ro = record {
  may = refl;
  never = refl;
  nothing = λ s. refl;
  none_made = λ s. refl;
  frames = λ s. refl;
  first = λ h. tt;
  session = λ o r z. refl;
  along = λ s held is. is;
  goes = λ s. refl;
}

pub map_open : (s : LocalState) (name : List ℕ) (t i : ℕ) (ro : Bool) → first_refusal (row_of s 0 0 (Mmap name t i ro)).refusals ≡ None → s.opened ≡ true
unfolding mmap_row
map_open s name t i ro pass = not-false s.opened (passes (mmap_row s 0 name t i ro).refusals pass 0)

map_pass : (s : LocalState) (line addr : ℕ) (name : List ℕ) (t i : ℕ) (ro : Bool) → first_refusal (row_of s line addr (Mmap name t i ro)).refusals ≡ first_refusal (row_of s 0 0 (Mmap name t i ro)).refusals
unfolding mmap_row
map_pass s line addr name t i ro = refl

map_denied : (s : LocalState) (line : ℕ) (name : List ℕ) (t i : ℕ) (ro : Bool) → first_refusal (row_of s 0 0 (Mmap name t i ro)).refusals ≡ None → IsCall s line (Mmap name t i ro) (Refused Enomem) s
unfolding called mmap_row
map_denied s line name t i ro pass = ap (λ o. answered o (mmap_row s 0 name t i ro) s (Refused Enomem)) pass

map_done : (s : LocalState) (line addr len : ℕ) (name : List ℕ) (t i : ℕ) (ro : Bool) → first_refusal (row_of s 0 0 (Mmap name t i ro)).refusals ≡ None → (buffer_of (queue_of s t) i).length ≡ len →
    (next : LocalState) × IsCall s line (Mmap name t i ro) (Mapped addr len) next
unfolding called mmap_row
map_done s line addr len name t i ro pass long =
    let row : _ = mmap_row s addr name t i ro in
    (row.next, subst (λ n. called s line (Mmap name t i ro) (Mapped addr n) ≡ Some row.next) long (done (first_refusal row.refusals) row s pass refl refl))

map_next : (s : LocalState) (line addr : ℕ) (name : List ℕ) (t k : ℕ) (ro : Bool) (u i : ℕ) → memory_at (row_of s line addr (Mmap name t k ro)).next u i ≡ memory_at s u i
unfolding mmap_row
map_next s line addr name t k ro u i = refl

map_memory : (line : ℕ) (name : List ℕ) (t k : ℕ) (ro : Bool) (a b : LocalState) (reply : Reply) → IsCall a line (Mmap name t k ro) reply b → (u i : ℕ) → memory_at b u i ≡ memory_at a u i
unfolding called
map_memory line name t k ro a b reply leads u i =
    elim (answered_by (first_refusal (row_for a line (Mmap name t k ro) reply).refusals) (row_for a line (Mmap name t k ro) reply) a reply b leads) as (λ _. memory_at b u i ≡ memory_at a u i) [
      | inl same ↦ ap (λ z. memory_at z u i) same
      | inr w ↦ ap (λ z. memory_at z u i) w.3 ∙ map_next a line (address_in reply) name t k ro u i
    ]

address_same : (a l b n : ℕ) → MappedAt a l ≡ MappedAt b n → a ≡ b
address_same a l b n is = cc

-- the address that is told is the reply's
map_address : (line : ℕ) (name : List ℕ) (t k : ℕ) (ro : Bool) (id addr len : ℕ) (a b : LocalState) (reply : Reply) → addr < 2 ^ 64 → IsCall a line (Mmap name t k ro) reply b →
    response_to id a (Mmap name t k ro) reply ≡ MappedAt addr len → address_in reply < 2 ^ 64
map_address line name t k ro id addr len a b reply low leads told =
    elim (outcome a line (Mmap name t k ro) reply b leads) as (λ _. address_in reply < 2 ^ 64) [
      | inl refusing ↦ subst (λ q. address_in q < 2 ^ 64) (sym refusing.1) (lit< tt)
      | inr came ↦
          let is : reply ≡ Mapped (address_in reply) (buffer_of (queue_of a t) k).length = came.1 ∙ map_reply a line (address_in reply) name t k ro in
          let same : MappedAt (address_in reply) (buffer_of (queue_of a t) k).length ≡ MappedAt addr len = ap (response_to id a (Mmap name t k ro)) (sym is) ∙ told in
          subst (λ n. n < 2 ^ 64) (sym (address_same (address_in reply) (buffer_of (queue_of a t) k).length addr len same)) low
    ]

denied_address : (line : ℕ) (name : List ℕ) (t k : ℕ) (ro : Bool) (id : ℕ) (a b : LocalState) (reply : Reply) → IsCall a line (Mmap name t k ro) reply b →
    response_to id a (Mmap name t k ro) reply ≡ Denied (errno_number Enomem) → address_in reply < 2 ^ 64
denied_address line name t k ro id a b reply leads told =
    elim (outcome a line (Mmap name t k ro) reply b leads) as (λ _. address_in reply < 2 ^ 64) [
      | inl refusing ↦ subst (λ q. address_in q < 2 ^ 64) (sym refusing.1) (lit< tt)
      | inr came ↦
          let is : reply ≡ Mapped (address_in reply) (buffer_of (queue_of a t) k).length = came.1 ∙ map_reply a line (address_in reply) name t k ro in
          absurd (apart (address_in reply) (buffer_of (queue_of a t) k).length (errno_number Enomem) (ap (response_to id a (Mmap name t k ro)) (sym is) ∙ told))
    ]
  where
    apart : (n l e : ℕ) → MappedAt n l ≡ Denied e → ⊥
    apart n l e is = cc

-- each address at which the device maps goes over the wire
pub low_map : (o : Option LiveRange) (d : DeviceState) (tag pages addr : ℕ) (region : RegionState) → AreLow d.region.ranges → range_of tag d.region.ranges ≡ o → Maps o d.region tag pages addr region → addr < 2 ^ 64
low_map None d tag pages addr region low is maps = let inside = maps.0.inside in omega (arith, inside)
low_map (Some r) d tag pages addr region low is maps = let inside = low tag r is in let same = maps.0 in omega (arith, inside, same)

-- ---- the slice

-- What is so of a slice whose frame is to be mapped.
pub record IsMapping (x : Slice) (v : Inner) (m : Posting) (d : DeviceState) (s : SessionState) (line : ℕ) (name : List ℕ) (t i : ℕ) (ro : Bool) : Type 0 where
  pub sound : IsSoundSlice x v
  pub is : IsOutside x v
  pub under : x.handle.stage ≡ Underway line (Mmap name t i ro)
  pub crosses : IsSome (crossing_from x.handle (Mmap name t i ro))
  pub who : m.request.who ≡ x.who
  pub none : m.held ≡ []
  pub session : x.session ≡ Some s
  pub id : x.handle.session ≡ Some s.id
  pub there : session_of d s.id ≡ Some s
  pub slice : IsSlice v.frames s x.job (earlier_of x) None (driver_state x) v.ahead
  pub pass : first_refusal (row_of v.ahead 0 0 (Mmap name t i ro)).refusals ≡ None

mapped_as : (x x' : Slice) (v : Inner) (m : Posting) (d : DeviceState) (s : SessionState) (line : ℕ) (name : List ℕ) (t i : ℕ) (ro : Bool) (tag len : ℕ) (a : Answer) → AreLow d.region.ranges → IsMapping x v m d s line name t i ro →
    (buffer_of (queue_of v.ahead t) i).length ≡ len → MapsFrame d m.held tag len a →
    x' ≡ record x { out = Told (told_by m a); session = session_in a.device (id_ahead x.handle (Told (told_by m a))) } → GoesOnSoundly x' v
mapped_as x x' v m d s line name t i ro tag len a low h long (inl denied) after =
    let call : Call = Mmap name t i ro in
    let answer : Answer = refused Enomem m.held d in
    let told : id_ahead x.handle (Told (told_by m answer)) ≡ Some s.id = told_id x line call (told_by m answer) h.under ∙ h.id in
    let same : x' ≡ record x { out = Told (told_by m answer); session = Some s } =
    after ∙ (ap (λ (z : Answer). record x { out = Told (told_by m z); session = session_in z.device (id_ahead x.handle (Told (told_by m z))) }) denied
    ∙ ap (λ k. record x { out = Told (told_by m answer); session = k }) (ap (session_in d) told ∙ h.there)) in
    let goes : _ = slice_stays_apart v.frames s x.job (earlier_of x) line call (Refused Enomem) (driver_state x) v.ahead v.ahead h.slice refl (map_denied v.ahead line name t i ro h.pass) in
    subst (λ z. GoesOnSoundly z v) (sym same) (answered_sound x v m s s answer line call (map_call name t i ro)
    (λ b reply leads said. (map_memory line name t i ro (driver_state x) b reply leads, denied_address line name t i ro s.id (driver_state x) b reply leads said))
    h.sound h.is h.under h.crosses h.who h.session h.id h.slice (record {
      reply = goes.0;
      ahead = goes.1;
      told = sym goes.2;
      plain_told = λ k opens. apart (errno_number Enomem) k opens;
      held = h.none;
      same = same_itself s;
      slice = goes.3;
    }))
  where
    apart : (n k : ℕ) → Denied n ≡ Opened k → ⊥
    apart n k is = cc
mapped_as x x' v m d s line name t i ro tag len a low h long (inr (addr, region, maps, is)) after =
    let call : Call = Mmap name t i ro in
    let answer : Answer = record { response = MappedAt addr len; held = m.held; device = with_region d region } in
    let told : id_ahead x.handle (Told (told_by m answer)) ≡ Some s.id = told_id x line call (told_by m answer) h.under ∙ h.id in
    let same : x' ≡ record x { out = Told (told_by m answer); session = Some s } =
    after ∙ (ap (λ (z : Answer). record x { out = Told (told_by m z); session = session_in z.device (id_ahead x.handle (Told (told_by m z))) }) is
    ∙ ap (λ k. record x { out = Told (told_by m answer); session = k }) (ap (session_in (with_region d region)) told ∙ (same_session d region (Some s.id) ∙ h.there))) in
    let made : (next : LocalState) × IsCall v.ahead line call (Mapped addr len) next = map_done v.ahead line addr len name t i ro h.pass long in
    let goes : _ = slice_stays_apart v.frames s x.job (earlier_of x) line call (Mapped addr len) (driver_state x) v.ahead made.0 h.slice refl made.1 in
    subst (λ z. GoesOnSoundly z v) (sym same) (answered_sound x v m s s answer line call (map_call name t i ro)
    (λ b reply leads said. (
      map_memory line name t i ro (driver_state x) b reply leads,
      map_address line name t i ro s.id addr len (driver_state x) b reply (low_map (range_of tag d.region.ranges) d tag (pages_of len) addr region low refl maps) leads said,
    ))
    h.sound h.is h.under h.crosses h.who h.session h.id h.slice (record {
      reply = goes.0;
      ahead = goes.1;
      told = sym goes.2;
      plain_told = λ k opens. apart addr len k opens;
      held = h.none;
      same = same_itself s;
      slice = goes.3;
    }))
  where
    apart : (n l k : ℕ) → MappedAt n l ≡ Opened k → ⊥
    apart n l k is = cc

map_by : (call : Call) (x x' : Slice) (v : Inner) (m : Posting) (c : Command) (d : DeviceState) (posted : IsPosted x m) → posted.call ≡ call → makes_mapping call ≡ true → IsSoundSlice x v →
    (x.out ≡ Asked m) ⊎ (x.out ≡ Kept m) → m.request.asks ≡ Judged (Ok c) → IsDeviceOf x d → IsServed m c d x x' → GoesOnSoundly x' v
map_by (Mmap name t i ro) x x' v m c d posted call makes sound at asked device served =
    let r : LocalState = driver_state x in
    let is : IsOutside x v = outside x v m sound at in
    let crosses : crossing_from x.handle (Mmap name t i ro) ≡ Some posted.crossing = subst (λ k. crossing_from x.handle k ≡ Some posted.crossing) call posted.crosses in
    let map_crossing : ℕ → Crossing = λ n. record { command = Map n (not ro) (buffer_offset t i); user = None } in
    let way : (first_refusal (row_of r 0 0 (Mmap name t i ro)).refusals ≡ None) × (map_crossing (id_of x.handle.session) ≡ posted.crossing) =
    crossed_unrefused (first_refusal (row_of r 0 0 (Mmap name t i ro)).refusals) (map_crossing (id_of x.handle.session)) posted.crossing crosses in
    let live : (s : SessionState) × (x.session ≡ Some s) × (x.handle.session ≡ Some s.id) = live_session x v d sound is (map_open r name t i ro way.0) in
    let s : SessionState = live.0 in
    let there : session_of d s.id ≡ Some s = ap (session_in d) (sym live.2) ∙ (device.session ∙ live.1) in
    let slice : IsSlice v.frames s x.job (earlier_of x) None r v.ahead = subst (λ e. IsSlice v.frames s x.job (earlier_of x) e r v.ahead) is.none (subst (λ o. IsSeated o x v) live.1 sound.seated) in
    let reached : IsReached v.ahead = all_reached s.id r v.ahead (earlier_of x ++ s.unsent) is.reached slice.leads in
    let ahead_crosses : crossing_of (id_of x.handle.session) v.ahead (Mmap name t i ro) ≡ Some posted.crossing =
    ap crossing (ap (λ n. way_of n v.ahead (Mmap name t i ro)) (ap id_of live.2) ∙ (ways_stay s.id r v.ahead (Mmap name t i ro) (earlier_of x ++ s.unsent) is.reached slice.leads refl
    ∙ ap (λ n. way_of n r (Mmap name t i ro)) (ap id_of (sym live.2)))) ∙ crosses in
    let pass : first_refusal (row_of v.ahead 0 0 (Mmap name t i ro)).refusals ≡ None =
    (crossed_unrefused (first_refusal (row_of v.ahead 0 0 (Mmap name t i ro)).refusals) (map_crossing (id_of x.handle.session)) posted.crossing ahead_crosses).0 in
    let command : c ≡ Map s.id (not ro) (buffer_offset t i) = sym (asked_same x m c posted asked) ∙ (ap (λ (k : Crossing). k.command) (sym way.1) ∙ ap (λ o. Map (id_of o) (not ro) (buffer_offset t i)) live.2) in
    let does : IsServed m (Map s.id (not ro) (buffer_offset t i)) d x x' = subst (λ k. IsServed m k d x x') command served in
    let frame : (before : ℕ) × (frame_of s (buffer_offset t i) ≡ Ok (frame_tag s.id before, (buffer_of (queue_of v.ahead t) i).length)) × _ =
    maps_alike v.frames s 0 v.ahead name t i ro slice.stands reached pass in
    let len : ℕ = (buffer_of (queue_of v.ahead t) i).length in
    let found : MapsFound d m.held (Ok (frame_tag s.id frame.0, len)) does.0 =
    subst (λ o. MapsFound d m.held o does.0) (ap (λ o. frame_in o (buffer_offset t i)) there ∙ frame.1) does.1 in
    mapped_as x x' v m d s posted.line name t i ro (frame_tag s.id frame.0) len does.0 device.low (record {
      sound = sound;
      is = is;
      under = posted.underway ∙ ap (Underway posted.line) call;
      crosses = subst IsSome (sym crosses) refl;
      who = ap (λ (q : Posting). q.request.who) posted.says;
      none = none_along x m posted (subst (λ k. Along r k (option_to_list posted.along)) call posted.memory);
      session = live.1;
      id = live.2;
      there = there;
      slice = slice;
      pass = pass;
    }) refl found does.2
map_by call x x' v m c d posted is makes sound at asked device served = absurd (false≢true makes)

pub map_keeps : CallsKeepSlice makes_mapping
map_keeps x x' v m c d posted makes sound at asked device waits served whole = map_by posted.call x x' v m c d posted refl makes sound at asked device served
