-- What a handle keeps where a line is answered by the device, or by a lease that went out.
use Rattle.std.proofs.Common.{◌≡◌, ◌<◌, ◌^◌, ◌||◌, ◌&&◌, ◌↔◌, ℕ, Bool, true, false, not, List, set, ◌==◌, Option, Some, None, IsSome, Result, Ok, Err, IsErr, OnOk, OnErr, refl, sym, ap, ◌∙◌, subst, is_some, lit<, if◌then◌else◌}
use Rattle.std.proofs.lemmas.Bool.{false≢true}
use Rattle.std.proofs.lemmas.Option.{none-some}
use Rattle.v4l_const.specs.declared.errno.Errno.{Errno}
use Rattle.v4l_const.specs.declared.errno.Errno.TheVariants.{Enomem}
use Rattle.v4l_rules.specs.Refusals.{first_refusal}
use Rattle.vm_frame.specs.declared.mem.Held.{Held}
use Rattle.vm_frame.specs.Mem.{mem_bytes}
use Rattle.vm_frame.specs.declared.mem.Mem.{Mem}
use Rattle.vm_lease.specs.Lease.{LeaseParts, CameBackDone, reply_from}
use Rattle.vm_lease.specs.declared.lease_out.LeaseOut.{LeaseOut}
use Rattle.vm_wire.specs.declared.response.Response.{Response}
use Rattle.vm_local.specs.declared.call.Call.{Call}
use Rattle.vm_local.specs.declared.call.Call.TheVariants.{OpenHandle, UAlloc, QBuf, DqBuf, Peek, Hash, Poke, Fill, DqEvent}
use Rattle.vm_local.specs.declared.entry.Entry.{Entry}
use Rattle.vm_local.specs.declared.entry.Entry.TheVariants.{Called}
use Rattle.vm_local.specs.declared.reply.Reply.{Reply}
use Rattle.vm_local.specs.declared.reply.Reply.TheVariants.{Done, Refused}
use Rattle.vm_local.specs.State.{LocalState}
use Rattle.vm_local.specs.Same.{same_reply, address_in}
use Rattle.vm_local.specs.Calls.{Row, row_of, qbuf_row}
use Rattle.vm_local.specs.Log.{answered, called, IsCall}
use Rattle.vm_local.specs.Record.{without_bytes}
use Rattle.vm_home.specs.Moves.{is_refusal, goes_along, home_with, touches_bytes, touched}
use Rattle.vm_commute.specs.Commute.{may_cross}
use Rattle.vm_log.specs.LegalLog.{LogState, state_of, with_entry, MayFollow, lease_in, is_lent_to}
use Rattle.vm_log.specs.Answers.{with_line, replied, AlongWith, Leases, IsDone, given_back}
use Rattle.vm_log.specs.declared.away.Away.{Away}
use Rattle.vm_log.specs.declared.away.Away.TheVariants.{Nothing, Sent, Lent}
use Rattle.vm_log.specs.declared.leased.Leased.{Leased}
use Rattle.vm_log.specs.declared.leased.Leased.TheVariants.{Out, Answered, Idle}
use Rattle.vm_exchange.specs.declared.way.Way.TheVariants.{Crosses}
use Rattle.vm_exchange.specs.declared.crossing.Crossing.{Crossing}
use Rattle.vm_exchange.specs.Exchange.{unless_by, crossing, crossing_of, response_to, IsAnswer}
use Rattle.vm_exchange.proofs.RangeLemmas.{after_in_range}
use Rattle.vm_exchange.proofs.RecordLemmas.{same_answer}
use Rattle.vm_handle.specs.declared.stage.Stage.{Stage}
use Rattle.vm_handle.specs.declared.stage.Stage.TheVariants.{AtRest, Underway, Waiting}
use Rattle.vm_handle.specs.Handle.{HandleState, id_of, opens_session, has_opened, IsAlong, FitsStage, Keeps}
use Rattle.vm_handle.specs.Answers.{AnswersWith, session_from, with_reply}
use Rattle.vm_handle.proofs.StageLemmas.{dqbuf_stays}
use Rattle.vm_handle.proofs.LogLemmas.{IsReady, entry_leads, legal_more, ready_more, opened_more}
use Rattle.vm_handle.proofs.DeliverLemmas.{or_false}
use Rattle.vm_handle.proofs.HereLemmas.{refused_is_here}
use Rattle.vm_handle.proofs.AnswerLemmas.{answered_keeps}
use Rattle.vm_handle.proofs.StartLemmas.{Rests, rests}

-- ---- the reply that is read

-- the answer is one without its memories
pub is_answer : (s : LocalState) (line : ℕ) (call : Call) (response : Response) (held : List Held) (a : AnswersWith s line call response held) → IsAnswer s line call response a.reply
is_answer s line call response held a = (a.next, a.session, (a.is_call, a.told))

abbrev pub Reads : LocalState → Call → Response → Reply → Type 0
Reads kept call response r = (line : ℕ) (reply : Reply) → may_cross call ≡ true → IsAnswer kept line call response reply → r ≡ reply

pub read_is : (s kept : LocalState) (line : ℕ) (call : Call) (response : Response) (r reply : Reply) → kept ≡ without_bytes s → may_cross call ≡ true → Reads kept call response r →
    IsAnswer s line call response reply → r ≡ reply
read_is s kept line call response r reply shown crosses reads answer =
    reads line reply crosses (subst (λ (x : LocalState). IsAnswer x line call response reply) (sym shown) (same_answer s line call response reply crosses answer))

-- ---- what went along

no_refusal_by : (o : Option Errno) (row : Row) (s next : LocalState) (reply : Reply) → o ≡ None → row.may_lack_memory ≡ false → row.reply ≡ Done → answered o row s reply ≡ Some next → is_refusal reply ≡ false
no_refusal_by (Some e) row s next reply passed plenty done goes = cc
no_refusal_by None row s next (Refused e) passed plenty done goes =
    let P : Bool → Reply → Type 0 = λ b r. (if b && same_reply (Refused Enomem) (Refused e) then Some s else (if not row.waits && same_reply r (Refused e) then Some row.next else None)) ≡ Some next in
    absurd (none-some next (none_by row.waits row.next (subst (λ r. P false r) done (subst (λ b. P b row.reply) plenty goes))))
  where
    none_by : (waits : Bool) (t : LocalState) → (if not waits && false then Some t else None) ≡ Some next → None ≡ Some next
    none_by true t h = h
    none_by false t h = h
no_refusal_by None row s next reply passed plenty done goes = refl

passed_some : (o : Option Errno) (x : Crossing) → IsSome (crossing (unless_by o (Crosses x))) → o ≡ None
passed_some None x crosses = refl
passed_some (Some e) x crosses = absurd (false≢true crosses)

-- a qbuf that crosses isn't refused
qbuf_done : (id : ℕ) (s next : LocalState) (line t i used ts : ℕ) (user : Option (List ℕ)) (reply : Reply) → IsSome (crossing_of id s (QBuf t i user used ts)) →
    IsCall s line (QBuf t i user used ts) reply next → is_refusal reply ≡ false
unfolding called qbuf_row
qbuf_done id s next line t i used ts user reply crosses goes =
    no_refusal_by (first_refusal (qbuf_row s t i user used ts).refusals) (qbuf_row s t i user used ts) s next reply
    (passed_some (first_refusal (row_of s 0 0 (QBuf t i user used ts)).refusals) _ crosses) refl refl goes

along_by : (o : Option ℕ) (away : Away) (reply : Reply) → IsAlong o away → is_refusal reply ≡ false → AlongWith o away reply
along_by None away reply along done = along
along_by (Some n) away reply along done = (along, done)

pub along_with : (id : ℕ) (s next : LocalState) (line : ℕ) (call : Call) (reply : Reply) (away : Away) → IsSome (crossing_of id s call) → IsAlong (goes_along s call) away → IsCall s line call reply next →
    AlongWith (goes_along s call) away reply
along_with id s next line (QBuf t i user used ts) reply away crosses along goes =
    along_by (goes_along s (QBuf t i user used ts)) away reply along (qbuf_done id s next line t i used ts user reply crosses goes)
along_with id s next line call reply away crosses along goes = along

-- ---- the call that is underway

-- only a call of such a kind crosses
pub may_of : (id : ℕ) (s : LocalState) (call : Call) → IsSome (crossing_of id s call) → may_cross call ≡ true
may_of id s (UAlloc u len off) crosses = absurd (false≢true crosses)
may_of id s (DqBuf t) crosses = absurd (dqbuf_stays (first_refusal (row_of s 0 0 (DqBuf t)).refusals) (row_of s 0 0 (DqBuf t)).waits crosses)
may_of id s (Peek m off len) crosses = absurd (false≢true crosses)
may_of id s (Hash m) crosses = absurd (false≢true crosses)
may_of id s (Poke m off bytes) crosses = absurd (false≢true crosses)
may_of id s (Fill m seed) crosses = absurd (false≢true crosses)
may_of id s DqEvent crosses = absurd (false≢true crosses)
may_of id s call crosses = refl

-- its reply was read in the answer that it has
pub record IsRead (h : HandleState) (line : ℕ) (call : Call) (response : Response) (held : List Held) (r : Reply) : Type 0 where
  pub answer : AnswersWith (state_of h.log) line call response held
  pub is : r ≡ answer.reply
  pub crosses : IsSome (crossing_of (id_of h.session) (state_of h.log) call)
  pub along : IsAlong (goes_along (state_of h.log) call) h.log.away

pub is_read : (h g : HandleState) (line : ℕ) (call : Call) (response : Response) (held : List Held) (kept : LocalState) (told r : Reply) → h ≡ g → g.stage ≡ Underway line call →
    AnswersWith (state_of g.log) line call response held → Keeps h.log h.session h.stage → kept ≡ without_bytes (state_of h.log) → Reads kept call response told → r ≡ told →
    IsRead h line call response held r
is_read h g line call response held kept told r seen underway answers keeps shown reads same =
    let s : LocalState = state_of h.log in
    let a : AnswersWith s line call response held = subst (λ (x : HandleState). AnswersWith (state_of x.log) line call response held) (sym seen) answers in
    let stage : h.stage ≡ Underway line call = ap (λ (x : HandleState). x.stage) seen ∙ underway in
    let fits : FitsStage (id_of h.session) s h.log.away h.log.unanswered (Underway line call) =
    subst (λ x. FitsStage (id_of h.session) s h.log.away h.log.unanswered x) stage keeps.fits in
    record {
      answer = a;
      is = same ∙ read_is s kept line call response told a.reply shown (may_of (id_of h.session) s call fits.1) reads (is_answer s line call response held a);
      crosses = fits.1;
      along = fits.2;
    }

pub read_call : (h : HandleState) (line : ℕ) (call : Call) (response : Response) (held : List Held) (r : Reply) (w : IsRead h line call response held r) → IsCall (state_of h.log) line call r w.answer.next
read_call h line call response held r w = subst (λ x. IsCall (state_of h.log) line call x w.answer.next) (sym w.is) w.answer.is_call

pub read_along : (h : HandleState) (line : ℕ) (call : Call) (response : Response) (held : List Held) (r : Reply) → IsRead h line call response held r →
    AlongWith (goes_along (state_of h.log) call) h.log.away r
read_along h line call response held r w =
    along_with (id_of h.session) (state_of h.log) w.answer.next line call r h.log.away w.crosses w.along (read_call h line call response held r w)

-- any reply with this answer is the one that was read
pub one_reply : (h g : HandleState) (line : ℕ) (call : Call) (response : Response) (held : List Held) (kept : LocalState) (told r reply : Reply) → h ≡ g → kept ≡ without_bytes (state_of h.log) →
    Reads kept call response told → r ≡ told → IsRead h line call response held r → IsAnswer (state_of g.log) line call response reply → r ≡ reply
one_reply h g line call response held kept told r reply seen shown reads same w answer =
    same ∙ read_is (state_of h.log) kept line call response told reply shown (may_of (id_of h.session) (state_of h.log) call w.crosses) reads
    (subst (λ (x : HandleState). IsAnswer (state_of x.log) line call response reply) (sym seen) answer)

pub replied_view : (h g : HandleState) (new : LogState) (session : Option ℕ) (line : ℕ) (call : Call) (r reply : Reply) (response : Response) (held : List Held) → h ≡ g →
    new ≡ replied h.log line call r held → session ≡ session_from h.session call r response → r ≡ reply →
    record { log = new; session = session; stage = AtRest } ≡ with_reply g line call reply response held
replied_view h g new session line call r reply response held seen logged told is =
    ap (λ (l : LogState). record { log = l; session = session; stage = AtRest }) logged
    ∙ (ap (λ (x : Option ℕ). record { log = replied h.log line call r held; session = x; stage = AtRest }) told
    ∙ (ap (λ (x : HandleState). with_reply x line call r response held) seen ∙ ap (λ x. with_reply g line call x response held) is))

-- ---- once the device has answered

or_true : (a : Bool) → true ≡ (a || true)
or_true true = refl
or_true false = refl

or_nothing : (a : Bool) → a ≡ (a || false)
or_nothing true = refl
or_nothing false = refl

-- a session comes with an open that is answered ok
session_of_answer : (session : Option ℕ) (id line : ℕ) (s : LocalState) (call : Call) (reply : Reply) →
    is_some (session_from session call reply (response_to id s call reply)) ≡ (is_some session || opens_session (Called line call reply))
session_of_answer session id line s (OpenHandle nonblock) Done = or_true (is_some session)
session_of_answer session id line s (OpenHandle nonblock) reply = or_nothing (is_some session)
session_of_answer session id line s call reply = or_nothing (is_some session)

pub replied_keeps : (l new : LogState) (session : Option ℕ) (stage : Stage) (line : ℕ) (call : Call) (response : Response) (held : List Held) (r : Reply) (a : AnswersWith (state_of l) line call response held) →
    Keeps l session stage → r ≡ a.reply → line < 2 ^ 32 → address_in r < 2 ^ 64 → new ≡ replied l line call r held → Keeps new (session_from session call r response) AtRest
replied_keeps l new session stage line call response held r a keeps is short address logged =
    let s : LocalState = state_of l in
    let e : Entry = Called line call r in
    let call_is : IsCall s line call r a.next = subst (λ x. IsCall s line call x a.next) (sym is) a.is_call in
    let goes : IsSome (called s line call r) = subst (λ o. IsSome o) (sym call_is) refl in
    let told : response ≡ response_to a.session s call r = a.told ∙ ap (λ x. response_to a.session s call x) (sym is) in
    let more : IsReady (with_entry l e (home_with s call held l.home)) =
    ready_more l e (home_with s call held l.home) (record { legal = keeps.legal; range = keeps.range }) (short, address) goes in
    subst (λ (x : LogState). Keeps x (session_from session call r response) AtRest) (sym logged) (record {
      legal = more.legal;
      range = more.range;
      opened = ap (λ x. is_some (session_from session call r x)) told
          ∙ (session_of_answer session a.session line s call r
          ∙ (ap (λ b. b || opens_session e) keeps.opened ∙ sym (opened_more l.entries e)));
      fits = refl;
    })

-- ---- leases

leased_by : (l new : LogState) (session : Option ℕ) (line : ℕ) (call : Call) (leased : Leased) (o : Option Errno) → first_refusal (row_of (state_of l) line 0 call).refusals ≡ o → touches_bytes call ≡ true → IsReady l →
    is_some session ≡ has_opened l.entries → line < 2 ^ 32 → Leases o (with_line l) line call leased new → Keeps new session AtRest
leased_by l new session line call Answered (Some e) refuses touches ready opened short is =
    subst (λ (x : LogState). Keeps x session AtRest) (sym is)
    (answered_keeps (with_line l) session line call (Refused e) l.home (record { legal = ready.legal; range = ready.range }) opened short (refused_is_here (state_of l) line call e refuses))
leased_by l new session line call (Out lease) None passed touches ready opened short out =
    let same : out.entry.call ≡ call = out.noted.1 ∙ ap (λ (x : LeaseParts). x.call) out.lent_out in
    subst (λ (x : LogState). Keeps x session AtRest) (sym out.left)
    (record { legal = ready.legal; range = ready.range; opened = opened; fits = (refl, subst (λ x. touches_bytes x ≡ true) (sym same) touches) })
leased_by l new session line call (Out lease) (Some e) refuses touches ready opened short out = absurd out
leased_by l new session line call Idle (Some e) refuses touches ready opened short out = absurd out
leased_by l new session line call Answered None refuses touches ready opened short out = absurd out
leased_by l new session line call Idle None refuses touches ready opened short out = absurd out

pub leased_keeps : (l begun new : LogState) (session : Option ℕ) (stage : Stage) (line : ℕ) (call : Call) (leased : Leased) → begun ≡ with_line l → Keeps l session stage → l.unanswered ≡ false →
    touches_bytes call ≡ true → line < 2 ^ 32 → Leases (first_refusal (row_of (state_of begun) line 0 call).refusals) begun line call leased new → Keeps new session stage
leased_keeps l begun new session stage line call leased begins keeps answered touches short leases =
    let rest : Rests l.away stage = rests (id_of session) (state_of l) l.away l.unanswered stage answered keeps.fits in
    let here : Leases (first_refusal (row_of (state_of l) line 0 call).refusals) (with_line l) line call leased new =
    subst (λ (x : LogState). Leases (first_refusal (row_of (state_of x) line 0 call).refusals) x line call leased new) begins leases in
    subst (λ x. Keeps new session x) (sym rest.0) (leased_by l new session line call leased _ refl touches (record { legal = keeps.legal; range = keeps.range }) keeps.opened short here)

-- ---- a lease that comes back

no_address : (call : Call) (bytes : List ℕ) → address_in (reply_from call bytes) ≡ 0
no_address (Peek m off len) bytes = refl
no_address (Hash m) bytes = refl
no_address call bytes = refl

no_opening : (line : ℕ) (call : Call) (reply : Reply) → touches_bytes call ≡ true → opens_session (Called line call reply) ≡ false
no_opening line (OpenHandle nonblock) reply touches = absurd (false≢true touches)
no_opening line call reply touches = refl

-- it doesn't matter by which line
line_free : (s : LocalState) (line : ℕ) (call : Call) (reply : Reply) → touches_bytes call ≡ true → called s line call reply ≡ called s 0 call reply
unfolding called
line_free s line (Peek m off len) reply touches = refl
line_free s line (Hash m) reply touches = refl
line_free s line (Poke m off bytes) reply touches = refl
line_free s line (Fill m seed) reply touches = refl
line_free s line call reply touches = absurd (false≢true touches)

-- a lease that is out is of a handle at rest
lent_rests : (id : ℕ) (s : LocalState) (entry : LeaseOut) (unanswered : Bool) (stage : Stage) → FitsStage id s (Lent entry) unanswered stage → (stage ≡ AtRest) × (touches_bytes entry.call ≡ true)
lent_rests id s entry unanswered AtRest fits = (refl, fits.1)
lent_rests id s entry unanswered (Underway line call) fits = absurd (never_along (goes_along s call) fits.2)
  where
    never_along : (o : Option ℕ) → IsAlong o (Lent entry) → ⊥
    never_along None is = cc
    never_along (Some n) is = cc
lent_rests id s entry unanswered (Waiting line call) fits = let w : Lent entry ≡ Nothing = fits.1 in cc

pub not_false : (b : Bool) → (b ≡ false → ⊥) → b ≡ true
not_false true h = refl
not_false false h = absurd (h refl)

pub gave_by : (l : LogState) (session : Option ℕ) (stage : Stage) (lease : LeaseParts) (away : Away) → l.away ≡ away → Keeps l session stage →
    (is_lent_to away lease.line ≡ false → ⊥) → (is_lent_to away lease.line ≡ true → IsDone (lease_in away) lease) → MayFollow l (Called lease.line lease.call lease.reply) →
    Keeps (given_back l lease) session stage
gave_by l session stage lease Nothing is keeps mine done goes = absurd (mine refl)
gave_by l session stage lease (Sent n) is keeps mine done goes = absurd (mine refl)
gave_by l session stage lease (Lent entry) is keeps mine done goes =
    let s : LocalState = state_of l in
    let back : CameBackDone entry lease = done (not_false (entry.line == lease.line) mine) in
    let rest : (stage ≡ AtRest) × (touches_bytes entry.call ≡ true) =
    lent_rests (id_of session) s entry l.unanswered stage (subst (λ a. FitsStage (id_of session) s a l.unanswered stage) is keeps.fits) in
    let touches : touches_bytes lease.call ≡ true = subst (λ x. touches_bytes x ≡ true) (sym back.call) rest.1 in
    let address : address_in lease.reply ≡ 0 = ap (λ r. address_in r) back.done.replies ∙ no_address entry.call (mem_bytes entry.mem.value) in
    let e : Entry = Called lease.line lease.call lease.reply in
    let home : List (Option Mem) = set l.home (touched s lease.call) (Some lease.mem) in
    let leads : called s 0 lease.call lease.reply ≡ Some (state_of (with_entry l e home)) =
    sym (line_free s lease.line lease.call lease.reply touches) ∙ entry_leads l e home keeps.legal goes in
    subst (λ x. Keeps (given_back l lease) session x) (sym rest.0) (record {
      legal = legal_more l.model l.entries e keeps.legal goes;
      range = after_in_range s (state_of (with_entry l e home)) (Called 0 lease.call lease.reply) keeps.range (lit< tt, subst (λ n. n < 2 ^ 64) (sym address) (lit< tt)) leads;
      opened = keeps.opened ∙ sym (opened_more l.entries e ∙ or_false (has_opened l.entries) (opens_session e) (no_opening lease.line lease.call lease.reply touches));
      fits = refl;
    })

pub gave_keeps : {A B : Type 0} (l new : LogState) (session : Option ℕ) (stage : Stage) (lease : LeaseParts) (r : Result A B) → Keeps l session stage →
    (is_lent_to l.away lease.line ≡ true → IsDone (lease_in l.away) lease) → (IsErr r ↔ (is_lent_to l.away lease.line ≡ false)) →
    OnOk r (new ≡ given_back l lease) → OnOk r (MayFollow l (Called lease.line lease.call lease.reply)) → OnErr r (new ≡ l) → Keeps new session stage
gave_keeps l new session stage lease (Err e) keeps done other ok legal err = subst (λ (x : LogState). Keeps x session stage) (sym err) keeps
gave_keeps l new session stage lease (Ok x) keeps done other ok legal err =
    subst (λ (x : LogState). Keeps x session stage) (sym ok)
    (gave_by l session stage lease l.away refl keeps (λ is. false≢true (other.1 is)) done legal)
