-- A step of the device follows each call that crosses as it comes before it.
use Rattle.std.proofs.Common.{◌≡◌, ℕ, ◌<◌, Bool, true, false, not, List, [], ◌∷◌, ◌++◌, length, get_or, set, Some, None, refl, sym, ap, ◌∙◌, arith, if◌then◌else◌}
use Rattle.std.specs.Option.{unwrap_or}
use Rattle.std.proofs.lemmas.Bool.{false≢true, ltb-true}
use Rattle.std.proofs.lemmas.List.{set-get_or}
use Rattle.v4l_const.specs.declared.four_cc.FourCc.{FourCc}
use Rattle.v4l_const.specs.declared.model.Model.{Model}
use Rattle.v4l_const.specs.Model.{queues as types_of, picture_queue}
use Rattle.v4l_format.specs.declared.fmt.Fmt.{Fmt}
use Rattle.v4l_rules.specs.Formats.{is_source, sized_as, with_format_at, with_source_format, with_set_format_at}
use Rattle.v4l_rules.specs.Queues.{place_in, has_type}
use Rattle.v4l_rules.specs.Refusals.{first_refusal}
use Rattle.vm_local.specs.declared.bound.Bound.{Bound}
use Rattle.vm_local.specs.declared.bound.BoundKind.TheVariants.{Mapping}
use Rattle.vm_local.specs.declared.buffer.Buffer.{Buffer}
use Rattle.vm_local.specs.declared.call.Call.{Call}
use Rattle.vm_local.specs.declared.call.Call.TheVariants.{OpenHandle, CloseHandle, QueryCap, EnumFmt, GFmt, TryFmt, SFmt, EnumInput, GInput, SInput, ReqBufs, QueryBuf, UAlloc, QBuf, StreamOn, StreamOff, DqBuf, Mmap as MapCall, Munmap, Peek, Hash, Poke, Fill, Subscribe, Unsubscribe, DqEvent}
use Rattle.vm_local.specs.declared.entry.Entry.{Entry}
use Rattle.vm_local.specs.declared.entry.Entry.TheVariants.{Called, Finish, Bad, Give}
use Rattle.vm_local.specs.State.{QueueState, LocalState, opening_queue, queue_kind, queue_of, with_queue, buffer_of}
use Rattle.vm_local.specs.Memory.{without_name}
use Rattle.vm_local.specs.Queue.{is_streaming, has_buffers, started, can_finish, adjusted_for, with_set_format}
use Rattle.vm_local.specs.Calls.{row_of, querycap_row, enumfmt_row, gfmt_row, tryfmt_row, sfmt_row, enuminput_row, ginput_row, sinput_row, querybuf_row, streamon_row, mmap_row, munmap_row, subscribe_row, unsubscribe_row}
use Rattle.vm_local.specs.Steps.{with_done}
use Rattle.vm_local.specs.Log.{after}
use Rattle.vm_local.proofs.StepLemmas.{passes, finished_by, failed_by}
use Rattle.vm_commute.specs.Commute.{is_step, may_cross, is_open, is_stopping, without_events}
use Rattle.vm_commute.proofs.PlaceLemmas.{changed, changed_twice, changed_keeps}
use Rattle.vm_commute.proofs.EventsLemmas.{Follows, step_alike}
use Rattle.vm_commute.proofs.OutlineLemmas.{outline, queue_drawn, same_adjusted_for}
use Rattle.vm_commute.proofs.ReachedLemmas.{Reached, many_queues, ready_at}
use Rattle.vm_commute.proofs.KeptLemmas.{outline_kept}
use Rattle.vm_commute.proofs.AnswerLemmas.{buffer_kept}
use Rattle.vm_commute.proofs.FollowLemmas.{formed, GivenAlike, give_formed, names_follow, still_never, bare_never}
use Rattle.vm_commute.proofs.QbufLemmas.{qbuf_follows}

-- the step leads to just this state
exactly : (s t : LocalState) (e : Entry) (next : LocalState) → after s e ≡ Some t → t ≡ next → Follows s e next
exactly s t e next leads same = (t, leads, ap (λ (x : LocalState). without_events x) same)

-- the step was no frame
no_frame : (s u : LocalState) (e : Entry) → is_step e ≡ true → after s e ≡ Some u → (can_finish s ≡ true → ⊥) → (P : Entry → Type 0) → P Give → P e
no_frame s u (Called line call reply) step leads never P give = absurd (false≢true step)
no_frame s u Finish step leads never P give = absurd (never (finished_by s u leads).0)
no_frame s u Bad step leads never P give = absurd (never (failed_by s u leads).0)
no_frame s u Give step leads never P give = give

-- ---- input

input_follows : (s u : LocalState) (e : Entry) (i : ℕ) → is_step e ≡ true → Reached s → after s e ≡ Some u → is_streaming s ≡ false →
    Follows (record s { input = i }) e (record u { input = i })
input_follows s u e i step reached leads still =
    let P : Entry → Type 0 = λ d. after s d ≡ Some u → Follows (record s { input = i }) d (record u { input = i }) in
    let names : u.bound ≡ s.bound = ap (λ (x : LocalState). x.bound) (outline_kept s u e step reached leads) in
    no_frame s u e step leads (still_never s reached still) P
    (λ given. exactly (record s { input = i }) (formed u (λ qs. qs) i s.bound) Give (record u { input = i })
    (give_formed s u (λ qs. qs) i s.bound reached given (λ t j there. refl))
    (ap (λ bs. record u { input = i; bound = bs }) (sym names))) leads

-- ---- formats

format_given : (s : LocalState) (qs : List QueueState) (t k i : ℕ) (f : Fmt) →
    changed opening_queue (λ q. with_done q i) k (with_format_at queue_kind s.model qs t f) ≡
    with_format_at queue_kind s.model (changed opening_queue (λ q. with_done q i) k qs) t f
format_given s qs t k i f = changed_twice opening_queue (λ q. with_done q i) (λ q. record q { format = f }) k (place_in (types_of s.model) t) qs (λ e. refl)

set_given : (s : LocalState) (t : ℕ) (f : Fmt) → GivenAlike s (λ qs. with_set_format_at queue_kind s.model qs t f)
unfolding with_set_format_at
set_given s t f u i there =
    let m : Model = s.model in
    let qs : List QueueState = s.queues in
    let k : ℕ = place_in (types_of m) u in
    let give : List QueueState → List QueueState = λ xs. changed opening_queue (λ q. with_done q i) k xs in
    let size : List QueueState → Fmt = λ xs. sized_as f (get_or xs (place_in (types_of m) (picture_queue m)) opening_queue).format in
    let sizes : size (give qs) ≡ size qs =
    ap (λ g. sized_as f g) (changed_keeps opening_queue (λ q. q.format) (λ q. with_done q i) k (place_in (types_of m) (picture_queue m)) qs refl) in
    let one : give (with_format_at queue_kind m qs t f) ≡ with_format_at queue_kind m (give qs) t f = format_given s qs t k i f in
    let two : give (with_source_format queue_kind m qs t f) ≡ with_source_format queue_kind m (give qs) t f =
    format_given s (with_format_at queue_kind m qs t f) (picture_queue m) k i (size qs) ∙
    (ap (λ xs. with_format_at queue_kind m xs (picture_queue m) (size qs)) one ∙
    ap (λ g. with_format_at queue_kind m (with_format_at queue_kind m (give qs) t f) (picture_queue m) g) (sym sizes)) in
    elim (is_source m t) as (λ b. give (if b then with_source_format queue_kind m qs t f else with_format_at queue_kind m qs t f) ≡
    (if b then with_source_format queue_kind m (give qs) t f else with_format_at queue_kind m (give qs) t f)) [ true ↦ two | false ↦ one ]

format_follows : (s u : LocalState) (e : Entry) (t : ℕ) (f : FourCc) (w h : ℕ) → is_step e ≡ true → Reached s → after s e ≡ Some u → has_buffers s ≡ false →
    Follows (with_set_format s t (adjusted_for s t f w h)) e (with_set_format u t (adjusted_for u t f w h))
format_follows s u e t f w h step reached leads bare =
    let same : outline u ≡ outline s = outline_kept s u e step reached leads in
    let models : u.model ≡ s.model = ap (λ (x : LocalState). x.model) same in
    let inputs : u.input ≡ s.input = ap (λ (x : LocalState). x.input) same in
    let names : u.bound ≡ s.bound = ap (λ (x : LocalState). x.bound) same in
    let g : Fmt = adjusted_for s t f w h in
    let takes : adjusted_for u t f w h ≡ g = sym (same_adjusted_for u t f w h) ∙ (ap (λ (x : LocalState). adjusted_for x t f w h) same ∙ same_adjusted_for s t f w h) in
    let set : Model → Fmt → ℕ → List Bound → LocalState = λ m k i bs. formed u (λ qs. with_set_format_at queue_kind m qs t k) i bs in
    let next : set u.model (adjusted_for u t f w h) u.input u.bound ≡ set s.model g s.input s.bound =
    ap (λ k. set u.model k u.input u.bound) takes ∙ (ap (λ m. set m g u.input u.bound) models ∙
    (ap (λ i. set s.model g i u.bound) inputs ∙ ap (λ bs. set s.model g s.input bs) names)) in
    let P : Entry → Type 0 = λ d. after s d ≡ Some u → Follows (with_set_format s t g) d (with_set_format u t (adjusted_for u t f w h)) in
    no_frame s u e step leads (bare_never s reached bare) P
    (λ given. exactly (with_set_format s t g) (set s.model g s.input s.bound) Give (with_set_format u t (adjusted_for u t f w h))
    (give_formed s u (λ qs. with_set_format_at queue_kind s.model qs t g) s.input s.bound reached given (set_given s t g)) (sym next)) leads

-- ---- streaming

-- a queue that streams is started already
started_already : (s : LocalState) (t : ℕ) → (queue_of s t).streaming ≡ true → with_queue s t (started (queue_of s t)) ≡ s
started_already s t streams =
    let p : ℕ = place_in (types_of s.model) t in
    let q : QueueState = queue_of s t in
    let same : started q ≡ q =
    ap (λ b. record q { streaming = true; next_sequence = if b then q.next_sequence else 0 }) streams ∙ ap (λ b. record q { streaming = b }) (sym streams) in
    ap (λ v. record s { queues = set s.queues p v }) same ∙ ap (λ qs. record s { queues = qs }) (set-get_or s.queues p opening_queue)

start_ready : (s u : LocalState) (e : Entry) (t : ℕ) → is_step e ≡ true → Reached s → after s e ≡ Some u → has_type s.model t ≡ true → can_finish s ≡ true →
    Follows (with_queue s t (started (queue_of s t))) e (with_queue u t (started (queue_of u t)))
start_ready s u e t step reached leads has ready =
    let p : ℕ = place_in (types_of s.model) t in
    let within : p < length s.queues = omega (arith, many_queues s reached, ltb-true p (length (types_of s.model)) has) in
    let streams : (queue_of s t).streaming ≡ true = (ready_at s.queues p opening_queue ready within).0 in
    let as_well : (queue_of u t).streaming ≡ true =
    ap (λ (q : QueueState). q.streaming) (sym (queue_drawn u t) ∙ (ap (λ (x : LocalState). queue_of x t) (outline_kept s u e step reached leads) ∙ queue_drawn s t)) ∙ streams in
    exactly (with_queue s t (started (queue_of s t))) u e (with_queue u t (started (queue_of u t)))
    (ap (λ (x : LocalState). after x e) (started_already s t streams) ∙ leads) (sym (started_already u t as_well))

start_follows : (s u : LocalState) (e : Entry) (t : ℕ) → is_step e ≡ true → Reached s → after s e ≡ Some u → has_type s.model t ≡ true →
    Follows (with_queue s t (started (queue_of s t))) e (with_queue u t (started (queue_of u t)))
start_follows s u (Called line call reply) t step reached leads has = absurd (false≢true step)
start_follows s u Finish t step reached leads has = start_ready s u Finish t step reached leads has (finished_by s u leads).0
start_follows s u Bad t step reached leads has = start_ready s u Bad t step reached leads has (failed_by s u leads).0
start_follows s u Give t step reached leads has =
    let same : outline u ≡ outline s = outline_kept s u Give step reached leads in
    let p : ℕ = place_in (types_of s.model) t in
    let go : Model → ℕ → List Bound → LocalState = λ m i bs. formed u (changed opening_queue started (place_in (types_of m) t)) i bs in
    let next : go u.model u.input u.bound ≡ go s.model s.input s.bound =
    ap (λ m. go m u.input u.bound) (ap (λ (x : LocalState). x.model) same) ∙
    (ap (λ i. go s.model i u.bound) (ap (λ (x : LocalState). x.input) same) ∙ ap (λ bs. go s.model s.input bs) (ap (λ (x : LocalState). x.bound) same)) in
    let alike : GivenAlike s (changed opening_queue started p) =
    λ k i there. changed_twice opening_queue (λ q. with_done q i) started (place_in (types_of s.model) k) p s.queues (λ e. refl) in
    exactly (with_queue s t (started (queue_of s t))) (go s.model s.input s.bound) Give (with_queue u t (started (queue_of u t)))
    (give_formed s u (changed opening_queue started p) s.input s.bound reached leads alike) (sym next)

-- ---- names

-- the names after a mapping of this buffer
abbrev mapped : List Bound → List ℕ → ℕ → Bool → Buffer → List Bound
mapped bs m addr ro b = without_name bs m ++ (record { name = m; memory = unwrap_or b.memory 0; kind = Mapping addr b.length (not ro) }) ∷ []

map_follows : (s u : LocalState) (e : Entry) (addr : ℕ) (m : List ℕ) (t i : ℕ) (ro : Bool) → is_step e ≡ true → Reached s → after s e ≡ Some u →
    Follows (record s { bound = mapped s.bound m addr ro (buffer_of (queue_of s t) i) }) e (record u { bound = mapped u.bound m addr ro (buffer_of (queue_of u t) i) })
map_follows s u e addr m t i ro step reached leads =
    let same : outline u ≡ outline s = outline_kept s u e step reached leads in
    let b : Buffer = buffer_of (queue_of s t) i in
    let c : Buffer = buffer_of (queue_of u t) i in
    let names : mapped u.bound m addr ro c ≡ mapped s.bound m addr ro b =
    ap (λ bs. mapped bs m addr ro c) (ap (λ (x : LocalState). x.bound) same) ∙ ap (λ (d : Buffer). mapped s.bound m addr ro d) (buffer_kept s u t i same) in
    exactly (record s { bound = mapped s.bound m addr ro b }) (record u { bound = mapped s.bound m addr ro b }) e (record u { bound = mapped u.bound m addr ro c })
    (names_follow s u e (mapped s.bound m addr ro b) step reached leads) (ap (λ bs. record u { bound = bs }) (sym names))

unmap_follows : (s u : LocalState) (e : Entry) (m : List ℕ) → is_step e ≡ true → Reached s → after s e ≡ Some u →
    Follows (record s { bound = without_name s.bound m }) e (record u { bound = without_name u.bound m })
unmap_follows s u e m step reached leads =
    let names : u.bound ≡ s.bound = ap (λ (x : LocalState). x.bound) (outline_kept s u e step reached leads) in
    exactly (record s { bound = without_name s.bound m }) (record u { bound = without_name s.bound m }) e (record u { bound = without_name u.bound m })
    (names_follow s u e (without_name s.bound m) step reached leads) (ap (λ bs. record u { bound = without_name bs m }) (sym names))

-- ---- all calls

not_not : (b : Bool) → not b ≡ false → b ≡ true
not_not true h = refl
not_not false h = absurd (false≢true (sym h))

-- a call that crosses and that no refusal stops, neither an open nor a stopping call
pub call_follows : (s u : LocalState) (e : Entry) (line addr : ℕ) (call : Call) → may_cross call ≡ true → is_open call ≡ false → is_stopping call ≡ false →
    first_refusal (row_of s line addr call).refusals ≡ None → is_step e ≡ true → Reached s → after s e ≡ Some u →
    Follows (row_of s line addr call).next e (row_of u line addr call).next
unfolding querycap_row enumfmt_row gfmt_row tryfmt_row sfmt_row enuminput_row ginput_row sinput_row querybuf_row streamon_row mmap_row munmap_row subscribe_row unsubscribe_row
call_follows s u e line addr (OpenHandle nonblock) may opens stops pass step reached leads = absurd (false≢true (sym opens))
call_follows s u e line addr CloseHandle may opens stops pass step reached leads = absurd (false≢true (sym stops))
call_follows s u e line addr QueryCap may opens stops pass step reached leads = (u, leads, refl)
call_follows s u e line addr (EnumFmt t i) may opens stops pass step reached leads = (u, leads, refl)
call_follows s u e line addr (GFmt t) may opens stops pass step reached leads = (u, leads, refl)
call_follows s u e line addr (TryFmt t f w h) may opens stops pass step reached leads = (u, leads, refl)
call_follows s u e line addr (SFmt t f w h) may opens stops pass step reached leads =
    format_follows s u e t f w h step reached leads (passes (sfmt_row s t f w h).refusals pass 2)
call_follows s u e line addr (EnumInput i) may opens stops pass step reached leads = (u, leads, refl)
call_follows s u e line addr GInput may opens stops pass step reached leads = (u, leads, refl)
call_follows s u e line addr (SInput i) may opens stops pass step reached leads =
    input_follows s u e i step reached leads (passes (sinput_row s i).refusals pass 3)
call_follows s u e line addr (ReqBufs t m n) may opens stops pass step reached leads = absurd (false≢true (sym stops))
call_follows s u e line addr (QueryBuf t i) may opens stops pass step reached leads = (u, leads, refl)
call_follows s u e line addr (UAlloc v len off) may opens stops pass step reached leads = absurd (false≢true may)
call_follows s u e line addr (QBuf t i user used ts) may opens stops pass step reached leads = qbuf_follows s u e t i user used ts pass step reached leads
call_follows s u e line addr (StreamOn t) may opens stops pass step reached leads =
    start_follows s u e t step reached leads (not_not (has_type s.model t) (passes (streamon_row s t).refusals pass 1))
call_follows s u e line addr (StreamOff t) may opens stops pass step reached leads = absurd (false≢true (sym stops))
call_follows s u e line addr (DqBuf t) may opens stops pass step reached leads = absurd (false≢true may)
call_follows s u e line addr (MapCall m t i ro) may opens stops pass step reached leads = map_follows s u e addr m t i ro step reached leads
call_follows s u e line addr (Munmap m) may opens stops pass step reached leads = unmap_follows s u e m step reached leads
call_follows s u e line addr (Peek m off len) may opens stops pass step reached leads = absurd (false≢true may)
call_follows s u e line addr (Hash m) may opens stops pass step reached leads = absurd (false≢true may)
call_follows s u e line addr (Poke m off bytes) may opens stops pass step reached leads = absurd (false≢true may)
call_follows s u e line addr (Fill m seed) may opens stops pass step reached leads = absurd (false≢true may)
call_follows s u e line addr (Subscribe v) may opens stops pass step reached leads = step_alike s (record s { subscribed = true }) u e step refl leads
call_follows s u e line addr (Unsubscribe v) may opens stops pass step reached leads = step_alike s (record s { subscribed = false }) u e step refl leads
call_follows s u e line addr DqEvent may opens stops pass step reached leads = absurd (false≢true may)
