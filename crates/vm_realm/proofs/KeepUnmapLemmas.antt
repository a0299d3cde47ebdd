-- A mapping that is given back keeps a slice sound, that of a closed handle too.
use Rattle.std.proofs.Common.{◌≡◌, ◌⊎◌, inl, inr, ℕ, ◌<◌, ◌^◌, true, not, List, [], ◌∷◌, ◌++◌, Option, Some, None, IsSome, refl, sym, ap, ◌∙◌, subst, lit<}
use Rattle.std.specs.List.{filter_map}
use Rattle.std.specs.Str.{bytes_eq}
use Rattle.std.specs.Option.{option_map, option_to_list}
use Rattle.std.specs.Prelude.{IfSome, Contains, Ok, take}
use Rattle.std.proofs.lemmas.Bool.{false≢true, not-false}
use Rattle.std.proofs.lemmas.List.Elements.{All-nil}
use Rattle.v4l_const.specs.declared.errno.Errno.TheVariants.{Einval}
use Rattle.v4l_rules.specs.Refusals.{first_refusal}
use Rattle.vm_frame.specs.declared.mem.Held.{Held}
use Rattle.vm_job.specs.Job.{JobParts}
use Rattle.vm_region.specs.Region.{RegionState, range_at}
use Rattle.vm_region.specs.declared.live_range.LiveRange.{LiveRange}
use Rattle.vm_wire.specs.Message.{Posting, Returning}
use Rattle.vm_wire.specs.Message.Ask.{Judged}
use Rattle.vm_wire.specs.declared.command.Command.{Command}
use Rattle.vm_wire.specs.declared.command.Command.TheVariants.{Unmap}
use Rattle.vm_wire.specs.declared.response.Response.TheVariants.{Opened, Unmapped}
use Rattle.vm_local.specs.declared.bound.Bound.{Bound}
use Rattle.vm_local.specs.declared.bound.BoundKind.{BoundKind}
use Rattle.vm_local.specs.declared.bound.BoundKind.TheVariants.{Mapping, User}
use Rattle.vm_local.specs.declared.call.Call.{Call}
use Rattle.vm_local.specs.declared.call.Call.TheVariants.{Munmap}
use Rattle.vm_local.specs.declared.entry.Entry.{Entry}
use Rattle.vm_local.specs.declared.entry.Entry.TheVariants.{Called}
use Rattle.vm_local.specs.declared.reply.Reply.{Reply}
use Rattle.vm_local.specs.declared.reply.Reply.TheVariants.{Done}
use Rattle.vm_local.specs.State.{LocalState}
use Rattle.vm_local.specs.Memory.{named, is_mapping, unbound}
use Rattle.vm_local.specs.Same.{address_in}
use Rattle.vm_local.specs.Calls.{row_of, munmap_row}
use Rattle.vm_local.specs.Log.{IsCall, row_for, called}
use Rattle.vm_local.proofs.StepLemmas.{passes, answered_by}
use Rattle.vm_home.specs.Moves.{memory_at, ComeBack}
use Rattle.vm_exchange.specs.declared.crossing.Crossing.{Crossing}
use Rattle.vm_exchange.specs.Exchange.{address_of, response_to}
use Rattle.vm_exchange.proofs.FitLemmas.{crossed_unrefused}
use Rattle.vm_exchange.proofs.OutcomeLemmas.{outcome}
use Rattle.vm_handle.specs.Handle.{id_of, crossing_from}
use Rattle.vm_handle.specs.declared.stage.Stage.TheVariants.{Underway}
use Rattle.vm_session.specs.State.{SessionState}
use Rattle.vm_session.specs.declared.unsent.Unsent.{Unsent}
use Rattle.vm_stands.specs.Flight.{LeadAll}
use Rattle.vm_stands.specs.Laws.{Along}
use Rattle.vm_stands.specs.Slice.{IsSlice}
use Rattle.vm_stands.proofs.AnswerLemmas.{done, nothing_back}
use Rattle.vm_stands.proofs.ApartLemmas.{slice_stays_apart}
use Rattle.vm_device.specs.Device.{DeviceState}
use Rattle.vm_device.specs.Perform.{Answer, UnmapsAt, with_region}
use Rattle.vm_realm.specs.Inner.{Inner, driver_state, unsent_in}
use Rattle.vm_realm.specs.Laws.{GoesOnSoundly, CallsKeepSlice, gives_mapping}
use Rattle.vm_realm.specs.Places.{job_held}
use Rattle.vm_realm.specs.Slice.{Slice, id_ahead, session_in, earlier_of}
use Rattle.vm_realm.specs.Slice.Out.{Asked, Kept, Told}
use Rattle.vm_realm.specs.SliceSteps.{IsDeviceOf, IsServed, told_by}
use Rattle.vm_realm.specs.Sound.{IsPosted, IsShut, IsSeated, IsSoundSlice}
use Rattle.vm_realm.specs.Users.{AreUsers}
use Rattle.vm_realm.proofs.KeepStateLemmas.{IsAlike, lead_alike}
use Rattle.vm_realm.proofs.KeepOutLemmas.{on_soundly}
use Rattle.vm_realm.proofs.KeepServeLemmas.{asked_same, done_sound}
use Rattle.vm_realm.proofs.KeepOpenLemmas.{IsOutside, outside, none_along, told_id, shut_none}
use Rattle.vm_realm.proofs.KeepPlainLemmas.{IsPlainCall, answered_sound, same_itself}
use Rattle.vm_realm.proofs.PartLemmas.{find_in}

-- ---- the call

unmap_call : (name : List ℕ) → IsPlainCall (Munmap name)
unmap_call name = record {
  may = refl;
  never = refl;
  nothing = λ s. refl;
  none_made = λ s. refl;
  frames = λ s. refl;
  first = λ h. tt;
  session = λ o r z. refl;
  along = λ s held is. is;
  goes = λ s. refl;
}

unmap_refusal : (s : LocalState) (line addr : ℕ) (name : List ℕ) → first_refusal (row_of s line addr (Munmap name)).refusals ≡ first_refusal ((not (is_mapping (named s name)), Einval) ∷ [])
unfolding munmap_row
unmap_refusal s line addr name = refl

-- a mapping that is bound may be given back
unmap_done : (s : LocalState) (line : ℕ) (name : List ℕ) → is_mapping (named s name) ≡ true → IsCall s line (Munmap name) Done (unbound s name)
unfolding called munmap_row
unmap_done s line name maps =
    done (first_refusal (munmap_row s name).refusals) (munmap_row s name) s (ap (λ b. first_refusal ((not b, Einval) ∷ [])) maps) refl refl

unmap_next : (s : LocalState) (line addr : ℕ) (name : List ℕ) (u i : ℕ) → memory_at (row_of s line addr (Munmap name)).next u i ≡ memory_at s u i
unfolding munmap_row
unmap_next s line addr name u i = refl

unmap_reply : (s : LocalState) (line addr : ℕ) (name : List ℕ) → address_in (row_of s line addr (Munmap name)).reply ≡ 0
unfolding munmap_row
unmap_reply s line addr name = refl

unmap_leaves : (line : ℕ) (name : List ℕ) (a b : LocalState) (reply : Reply) → IsCall a line (Munmap name) reply b → ((u i : ℕ) → memory_at b u i ≡ memory_at a u i) × (address_in reply ≡ 0)
unfolding called
unmap_leaves line name a b reply leads = (
  λ u i. elim (answered_by (first_refusal (row_for a line (Munmap name) reply).refusals) (row_for a line (Munmap name) reply) a reply b leads) as (λ _. memory_at b u i ≡ memory_at a u i) [
    | inl same ↦ ap (λ z. memory_at z u i) same
    | inr w ↦ ap (λ z. memory_at z u i) w.3 ∙ unmap_next a line (address_in reply) name u i
  ],
  elim (outcome a line (Munmap name) reply b leads) as (λ _. address_in reply ≡ 0) [
    | inl refused ↦ ap address_in refused.1
    | inr told ↦ ap address_in told.1 ∙ unmap_reply a line (address_in reply) name
  ],
)

-- ---- the mapping

-- the name is bound to a mapping, which has a range in the device
record IsMapped (s : LocalState) (name : List ℕ) (d : DeviceState) : Type 0 where
  maps : is_mapping (named s name) ≡ true
  lives : IsSome (range_at (address_of (named s name)) d.region.ranges)

mapped : (x : Slice) (name : List ℕ) (d : DeviceState) → IsDeviceOf x d → is_mapping (named (driver_state x) name) ≡ true → IsMapped (driver_state x) name d
mapped x name d device maps = by_name (named (driver_state x) name) refl maps
  where
    by_kind : (b : Bound) (kind : BoundKind) → b.kind ≡ kind → Contains (driver_state x).bound b → named (driver_state x) name ≡ Some b → is_mapping (Some b) ≡ true → IsMapped (driver_state x) name d
    by_kind b (Mapping addr len writable) kind there at maps = record {
      maps = ap is_mapping at ∙ maps;
      lives = subst (λ n. IsSome (range_at n d.region.ranges)) (sym (ap address_of at ∙ ap (λ k. address_of (Some (record b { kind = k }))) kind)) (device.ranges b addr len writable there kind);
    }
    by_kind b (User line off) kind there at maps = absurd (false≢true (sym (ap (λ k. is_mapping (Some (record b { kind = k }))) kind) ∙ maps))

    by_name : (o : Option Bound) → named (driver_state x) name ≡ o → is_mapping o ≡ true → IsMapped (driver_state x) name d
    by_name None at maps = absurd (false≢true maps)
    by_name (Some b) at maps =
        by_kind b b.kind refl (find_in (λ (z : Bound). bytes_eq z.name name) (driver_state x).bound b at).0 at maps

-- so it is given back
unmaps : (d : DeviceState) (held : List Held) (addr : ℕ) (o : Option LiveRange) (a : Answer) → IsSome o → UnmapsAt d held addr o a → (region : RegionState) × (a ≡ record { response = Unmapped; held = held; device = with_region d region })
unmaps d held addr None a some does = absurd (false≢true some)
unmaps d held addr (Some r) a some does = (does.0, does.2)

pub same_session : (d : DeviceState) (region : RegionState) (o : Option ℕ) → session_in (with_region d region) o ≡ session_in d o
same_session d region None = refl
same_session d region (Some id) = refl

-- ---- of a handle with a session, and of one without

abbrev unmap_answer : DeviceState → RegionState → List Held → Answer
unmap_answer d region held = record { response = Unmapped; held = held; device = with_region d region }

unmapped_apart : (k : ℕ) → Unmapped ≡ Opened k → ⊥
unmapped_apart k is = cc

seated_unmap : (x : Slice) (v : Inner) (m : Posting) (d : DeviceState) (region : RegionState) (line : ℕ) (name : List ℕ) (s : SessionState) → IsSoundSlice x v → IsOutside x v → x.handle.stage ≡ Underway line (Munmap name) →
    IsSome (crossing_from x.handle (Munmap name)) → m.request.who ≡ x.who → m.held ≡ [] → x.session ≡ Some s → IsSlice v.frames s x.job (earlier_of x) None (driver_state x) v.ahead →
    is_mapping (named (driver_state x) name) ≡ true → GoesOnSoundly (record x { out = Told (told_by m (unmap_answer d region m.held)); session = Some s }) v
seated_unmap x v m d region line name s sound is under crosses who none session slice maps =
    let r : LocalState = driver_state x in
    let on : IsAlike r v.ahead = lead_alike s.id r v.ahead (earlier_of x ++ s.unsent) is.reached slice.leads in
    let there : is_mapping (named v.ahead name) ≡ true = ap (λ bs. is_mapping (named (record r { bound = bs }) name)) on.bound ∙ maps in
    let goes : (first_reply : Reply) × (ahead : LocalState) × (response_to s.id v.ahead (Munmap name) Done ≡ response_to s.id r (Munmap name) first_reply)
    × IsSlice v.frames s x.job (earlier_of x) (Some (Called line (Munmap name) first_reply)) r ahead =
    slice_stays_apart v.frames s x.job (earlier_of x) line (Munmap name) Done r v.ahead (unbound v.ahead name) slice refl (unmap_done v.ahead line name there) in
    let id : x.handle.session ≡ Some s.id = sym is.own ∙ subst (λ o. IfSome o (λ z. id_ahead x.handle x.out ≡ Some z.id)) session sound.named in
    answered_sound x v m s s (unmap_answer d region m.held) line (Munmap name) (unmap_call name) (λ b reply leads told. ((unmap_leaves line name r b reply leads).0, subst (λ n. n < 2 ^ 64) (sym (unmap_leaves line name r b reply leads).1) (lit< tt))) sound is under crosses who session id slice (record {
      reply = goes.0;
      ahead = goes.1;
      told = sym goes.2;
      plain_told = λ k opens. unmapped_apart k opens;
      held = none;
      same = same_itself s;
      slice = goes.3;
    })

-- the slice law of a handle that is closed
shut_unmap : (x : Slice) (v : Inner) (m : Posting) (d : DeviceState) (region : RegionState) (line : ℕ) (name : List ℕ) → IsSoundSlice x v → IsOutside x v → x.handle.stage ≡ Underway line (Munmap name) →
    IsSome (crossing_from x.handle (Munmap name)) → m.request.who ≡ x.who → m.held ≡ [] → x.session ≡ None → IsShut x v →
    is_mapping (named (driver_state x) name) ≡ true → GoesOnSoundly (record x { out = Told (told_by m (unmap_answer d region m.held)); session = None }) v
shut_unmap x v m d region line name sound is under crosses who none session shut maps =
    let r : LocalState = driver_state x in
    let t : LocalState = unbound r name in
    let e : Entry = Called line (Munmap name) Done in
    let empty : (earlier_of x ≡ []) × (v.ahead ≡ r) = shut_none x v is shut in
    let reply : Returning = told_by m (unmap_answer d region m.held) in
    let told : id_ahead x.handle (Told reply) ≡ x.handle.session = told_id x line (Munmap name) reply under in
    let leads : IsCall r line (Munmap name) Done t = unmap_done r line name maps in
    let w : Inner = record v { executed = Some e; before = r; ahead = t } in
    on_soundly (record x { out = Told reply; session = None }) v w refl (done_sound x v w reply None sound (record {
      told = record {
        line = line;
        call = Munmap name;
        reply = Done;
        next = t;
        underway = under;
        crosses = crosses;
        first = tt;
        executed = refl;
        before = refl;
        is_call = leads;
        who = who;
        bytes = refl;
        address = lit< tt;
        small = λ k opens. absurd (unmapped_apart k opens);
        memories = subst (λ hs. ComeBack r t (Munmap name) hs) (sym none) (nothing_back r t (Munmap name) refl refl);
        quiet = λ halts over. absurd (false≢true halts);
      };
      seated = record {
        reached = is.reached;
        leads = (t, leads, subst (λ es. LeadAll (id_of (id_ahead x.handle (Told reply))) t es t) (sym empty.0) refl);
        shut = ap (λ (z : LocalState). z.opened) (sym empty.1) ∙ shut.shut;
        owed = ap (λ (z : LocalState). z.owed) (sym empty.1) ∙ shut.owed;
        none_runs = shut.none_runs;
        unmade = λ unnamed. shut.unmade (is.own ∙ (sym told ∙ unnamed));
      };
      named = tt;
      runs = ap (λ j. option_map (λ (k : JobParts). k.spec) j) (sym shut.none_runs);
      under = ap (λ k. earlier_of x ++ unsent_in k) (sym session);
      back = subst (λ hs. AreUsers r (take 0 hs)) (sym none) (All-nil _);
      messages = subst (AreUsers t) (sym (λ j. filter_map (λ (z : Unsent). z.held) (empty.0 j ++ unsent_in (session j)))) (All-nil _);
      queued = All-nil _;
      taken = subst (λ j. AreUsers t (job_held j)) (sym shut.none_runs) (All-nil _);
    }))

by_session : (o : Option SessionState) (x : Slice) (v : Inner) (m : Posting) (d : DeviceState) (region : RegionState) (line : ℕ) (name : List ℕ) → x.session ≡ o → IsSoundSlice x v → IsOutside x v →
    x.handle.stage ≡ Underway line (Munmap name) → IsSome (crossing_from x.handle (Munmap name)) → m.request.who ≡ x.who → m.held ≡ [] → IsSeated o x v → is_mapping (named (driver_state x) name) ≡ true →
    GoesOnSoundly (record x { out = Told (told_by m (unmap_answer d region m.held)); session = o }) v
by_session None x v m d region line name at sound is under crosses who none shut maps = shut_unmap x v m d region line name sound is under crosses who none at shut maps
by_session (Some s) x v m d region line name at sound is under crosses who none slice maps =
    seated_unmap x v m d region line name s sound is under crosses who none at (subst (λ e. IsSlice v.frames s x.job (earlier_of x) e (driver_state x) v.ahead) is.none slice) maps

unmap_by : (call : Call) (x x' : Slice) (v : Inner) (m : Posting) (c : Command) (d : DeviceState) (posted : IsPosted x m) → posted.call ≡ call → gives_mapping call ≡ true → IsSoundSlice x v →
    (x.out ≡ Asked m) ⊎ (x.out ≡ Kept m) → m.request.asks ≡ Judged (Ok c) → IsDeviceOf x d → IsServed m c d x x' → GoesOnSoundly x' v
unmap_by (Munmap name) x x' v m c d posted call gives sound at asked device served =
    let r : LocalState = driver_state x in
    let is : IsOutside x v = outside x v m sound at in
    let crosses : crossing_from x.handle (Munmap name) ≡ Some posted.crossing = subst (λ k. crossing_from x.handle k ≡ Some posted.crossing) call posted.crosses in
    let way : _ = crossed_unrefused (first_refusal (row_of r 0 0 (Munmap name)).refusals) (record { command = Unmap (address_of (named r name)); user = None }) posted.crossing crosses in
    let maps : is_mapping (named r name) ≡ true = not-false (is_mapping (named r name)) (passes ((not (is_mapping (named r name)), Einval) ∷ []) (sym (unmap_refusal r 0 0 name) ∙ way.0) 0) in
    let bound : IsMapped r name d = mapped x name d device maps in
    let command : c ≡ Unmap (address_of (named r name)) = sym (asked_same x m c posted asked) ∙ ap (λ (k : Crossing). k.command) (sym way.1) in
    let does : IsServed m (Unmap (address_of (named r name))) d x x' = subst (λ k. IsServed m k d x x') command served in
    let answer : (region : RegionState) × (does.0 ≡ unmap_answer d region m.held) = unmaps d m.held (address_of (named r name)) (range_at (address_of (named r name)) d.region.ranges) does.0 bound.lives does.1 in
    let under : x.handle.stage ≡ Underway posted.line (Munmap name) = posted.underway ∙ ap (Underway posted.line) call in
    let told : id_ahead x.handle (Told (told_by m (unmap_answer d answer.0 m.held))) ≡ x.handle.session = told_id x posted.line (Munmap name) (told_by m (unmap_answer d answer.0 m.held)) under in
    let stays : session_in (with_region d answer.0) (id_ahead x.handle (Told (told_by m (unmap_answer d answer.0 m.held)))) ≡ x.session =
    ap (session_in (with_region d answer.0)) told ∙ (same_session d answer.0 x.handle.session ∙ device.session) in
    let same : x' ≡ record x { out = Told (told_by m (unmap_answer d answer.0 m.held)); session = x.session } =
    does.2 ∙ (ap (λ (a : Answer). record x { out = Told (told_by m a); session = session_in a.device (id_ahead x.handle (Told (told_by m a))) }) answer.1
    ∙ ap (λ k. record x { out = Told (told_by m (unmap_answer d answer.0 m.held)); session = k }) stays) in
    subst (λ z. GoesOnSoundly z v) (sym same) (by_session x.session x v m d answer.0 posted.line name refl sound is under (subst IsSome (sym crosses) refl) (ap (λ (q : Posting). q.request.who) posted.says)
    (none_along x m posted (subst (λ k. Along r k (option_to_list posted.along)) call posted.memory)) sound.seated maps)
unmap_by call x x' v m c d posted is gives sound at asked device served = absurd (false≢true gives)

pub unmap_keeps : CallsKeepSlice gives_mapping
unmap_keeps x x' v m c d posted gives sound at asked device free served whole = unmap_by posted.call x x' v m c d posted refl gives sound at asked device served
