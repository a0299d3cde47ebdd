-- What a handle keeps where a line is begun.
use Rattle.std.proofs.Common.{◌≡◌, ◌<◌, ◌≤◌, ◌^◌, ℕ, Bool, false, List, ◌++◌, drop, Option, Some, None, IsSome, IfSome, length, refl, sym, ap, ◌∙◌, subst, is_some}
use Rattle.std.proofs.lemmas.Bool.{false≢true}
use Rattle.v4l_const.specs.declared.model.Model.{Model}
use Rattle.v4l_const.specs.declared.errno.Errno.{Errno}
use Rattle.v4l_rules.specs.Refusals.{first_refusal}
use Rattle.vm_frame.specs.declared.mem.Held.{Held}
use Rattle.vm_local.specs.declared.call.Call.{Call}
use Rattle.vm_local.specs.declared.call.Call.TheVariants.{QBuf}
use Rattle.vm_local.specs.State.{LocalState}
use Rattle.vm_local.specs.Calls.{row_of}
use Rattle.vm_home.specs.Laws.{IsUnrefused}
use Rattle.vm_home.specs.Moves.{goes_along}
use Rattle.vm_log.specs.LegalLog.{LogState, fresh_log, state_of}
use Rattle.vm_log.specs.Answers.{with_line, Sends}
use Rattle.vm_log.specs.declared.away.Away.{Away}
use Rattle.vm_log.specs.declared.away.Away.TheVariants.{Nothing, Sent, Lent}
use Rattle.vm_exchange.specs.declared.crossing.Crossing.{Crossing}
use Rattle.vm_exchange.specs.declared.way.Way.TheVariants.{Crosses}
use Rattle.vm_exchange.specs.Entries.{crossing_bytes}
use Rattle.vm_exchange.specs.Exchange.{unless_by, crossing, way_of, crossing_of}
use Rattle.vm_exchange.specs.Range.{IsInRange}
use Rattle.vm_exchange.proofs.RangeLemmas.{opening_in_range}
use Rattle.vm_exchange.proofs.FitLemmas.{crossing_fits}
use Rattle.vm_handle.specs.declared.stage.Stage.{Stage}
use Rattle.vm_handle.specs.declared.stage.Stage.TheVariants.{AtRest, Underway, Waiting}
use Rattle.vm_handle.specs.declared.started.Started.TheVariants.{Send}
use Rattle.vm_handle.specs.Handle.{HandleState, id_of, way_from, has_opened, IsAlong, FitsStage, Keeps}
use Rattle.vm_handle.specs.Answers.{IsCrossing, Starts, with_sent}
use Rattle.vm_handle.proofs.LogLemmas.{IsReady}

-- ---- before the first line

pub fresh_keeps : (model : Model) (lines : ℕ) → Keeps (fresh_log model lines) None AtRest
fresh_keeps model lines = record { legal = refl; range = opening_in_range model; opened = refl; fits = refl }

-- ---- between two lines

abbrev pub Rests : Away → Stage → Type 0
Rests away stage = (stage ≡ AtRest) × (away ≡ Nothing)

pub rests : (id : ℕ) (s : LocalState) (away : Away) (unanswered : Bool) (stage : Stage) → unanswered ≡ false → FitsStage id s away unanswered stage → Rests away stage
rests id s Nothing unanswered AtRest answered fits = (refl, refl)
rests id s (Sent n) unanswered AtRest answered fits = absurd fits
rests id s (Lent entry) unanswered AtRest answered fits = absurd (false≢true (sym answered ∙ fits.0))
rests id s away unanswered (Underway line call) answered fits = absurd (false≢true (sym answered ∙ fits.0))
rests id s away unanswered (Waiting line call) answered fits = absurd (false≢true (sym answered ∙ fits.0))

-- ---- a call that crosses

pub crossed : (id : ℕ) (s : LocalState) (call : Call) (c : Crossing) → way_of id s call ≡ Crosses c → crossing_of id s call ≡ Some c
crossed id s call c is = ap crossing is

pub crossing_size : (id : ℕ) (s : LocalState) (call : Call) (c : Crossing) → id < 2 ^ 32 → IsInRange s → way_of id s call ≡ Crosses c → length (crossing_bytes c) ≤ 4096
crossing_size id s call c short range is = (crossing_fits id s call c short range (crossed id s call c is)).size

is_crossing_by : (o : Option Crossing) → ((c : Crossing) → o ≡ Some c → IsCrossing c) → IfSome o (λ c. IsCrossing c)
is_crossing_by None fits = tt
is_crossing_by (Some c) fits = fits c refl

pub is_crossing : (id : ℕ) (s : LocalState) (call : Call) → id < 2 ^ 32 → IsInRange s → IfSome (crossing_of id s call) (λ c. IsCrossing c)
is_crossing id s call short range =
    is_crossing_by (crossing_of id s call) (λ c is. ((crossing_fits id s call c short range is).command, (crossing_fits id s call c short range is).behind))

passed_by : (o : Option Errno) (x c : Crossing) → unless_by o (Crosses x) ≡ Crosses c → o ≡ None
passed_by None x c is = refl
passed_by (Some e) x c is = cc

-- a qbuf that crosses is refused by nothing
pub crosses_unrefused : (id : ℕ) (s : LocalState) (t i used ts : ℕ) (user : Option (List ℕ)) (call : Call) (c : Crossing) → way_of id s call ≡ Crosses c → call ≡ QBuf t i user used ts → IsUnrefused s call
crosses_unrefused id s t i used ts user call c is qbuf =
    let here : way_of id s (QBuf t i user used ts) ≡ Crosses c = subst (λ x. way_of id s x ≡ Crosses c) qbuf is in
    subst (λ x. IsUnrefused s x) (sym qbuf) (λ line addr. passed_by (first_refusal (row_of s 0 0 (QBuf t i user used ts)).refusals) _ c here)

some_crosses : (o : Option Crossing) (c : Crossing) → o ≡ Some c → IsSome o
some_crosses o c is = subst (λ x. IsSome x) (sym is) refl

-- the call is underway then
sent_by : (l log : LogState) (session : Option ℕ) (line : ℕ) (call : Call) (c : Crossing) (o : Option ℕ) (along : Option Held) → IsReady l → is_some session ≡ has_opened l.entries →
    l.away ≡ Nothing → way_of (id_of session) (state_of l) call ≡ Crosses c → goes_along (state_of l) call ≡ o → Sends o (with_line l) call along log → Keeps log session (Underway line call)
sent_by l log session line call c None along ready opened none is goes sends =
    subst (λ (x : LogState). Keeps x session (Underway line call)) (sym sends.1) (record {
      legal = ready.legal;
      range = ready.range;
      opened = opened;
      fits = (refl, some_crosses (crossing_of (id_of session) (state_of l) call) c (crossed (id_of session) (state_of l) call c is), subst (λ o. IsAlong o l.away) (sym goes) none);
    })
sent_by l log session line call c (Some n) None ready opened none is goes sends = absurd sends
sent_by l log session line call c (Some n) (Some held) ready opened none is goes sends =
    subst (λ (x : LogState). Keeps x session (Underway line call)) (sym sends.2) (record {
      legal = ready.legal;
      range = ready.range;
      opened = opened;
      fits = (refl, some_crosses (crossing_of (id_of session) (state_of l) call) c (crossed (id_of session) (state_of l) call c is), subst (λ o. IsAlong o (Sent n)) (sym goes) refl);
    })

pub sent_keeps : (l log : LogState) (session : Option ℕ) (stage : Stage) (line : ℕ) (call : Call) (c : Crossing) (along : Option Held) → Keeps l session stage → l.unanswered ≡ false →
    way_of (id_of session) (state_of l) call ≡ Crosses c → Sends (goes_along (state_of l) call) (with_line l) call along log → Keeps log session (Underway line call)
sent_keeps l log session stage line call c along keeps answered is sends =
    sent_by l log session line call c (goes_along (state_of l) call) along (record { legal = keeps.legal; range = keeps.range }) keeps.opened
    (rests (id_of session) (state_of l) l.away l.unanswered stage answered keeps.fits).1 is refl sends

-- the bytes, the memory that goes along and the handle are those of a call that crosses
pub goes_over : (h g : HandleState) (line : ℕ) (call : Call) (c : Crossing) (out out' : List ℕ) (held held' : List Held) (len : ℕ) (along : Option Held) (log : LogState) → h ≡ g → way_from h call ≡ Crosses c →
    Sends (goes_along (state_of h.log) call) (with_line h.log) call along log → len ≡ length (crossing_bytes c) → out' ≡ crossing_bytes c ++ drop (length (crossing_bytes c)) out → held' ≡ with_sent held along →
    Starts (way_from g call) g line call out held (Send len) (record { log = log; session = h.session; stage = Underway line call }) out' held'
goes_over h g line call c out out' held held' len along log seen is sends long bytes memories =
    let new : HandleState = record { log = log; session = h.session; stage = Underway line call } in
    subst (λ (x : HandleState). Starts (way_from x call) x line call out held (Send len) new out' held') seen
    (subst (λ w. Starts w h line call out held (Send len) new out' held') (sym is)
    (record { along = along; log = log; sends = sends; answer = ap (λ n. Send n) long; handle = refl; bytes = bytes; memories = memories }))
