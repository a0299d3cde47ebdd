-- What is logged of calls that are answered without the device.
use Rattle.std.proofs.Common.{◌≡◌, ◌≤◌, ◌<◌, ◌^◌, inl, inr, ℕ, true, List, [], ◌∷◌, ◌++◌, Option, Some, None, replicate, refl, sym, ap, ◌∙◌, subst, is_some, lit<}
use Rattle.std.proofs.lemmas.Bool.{false≢true}
use Rattle.v4l_const.specs.declared.errno.Errno.{Errno}
use Rattle.v4l_const.specs.declared.errno.Errno.TheVariants.{Enomem}
use Rattle.v4l_rules.specs.Refusals.{first_refusal}
use Rattle.vm_frame.specs.declared.mem.Mem.{Mem}
use Rattle.vm_frame.specs.declared.mem.Mem.TheVariants.{OfUser}
use Rattle.vm_frame.specs.Scatter.{scatter_bytes}
use Rattle.vm_frame.specs.User.{ScatteredPages}
use Rattle.vm_sg.specs.UserMemory.{user_memory}
use Rattle.vm_local.specs.declared.call.Call.{Call}
use Rattle.vm_local.specs.declared.call.Call.TheVariants.{UAlloc, DqBuf}
use Rattle.vm_local.specs.declared.entry.Entry.{Entry}
use Rattle.vm_local.specs.declared.entry.Entry.TheVariants.{Called}
use Rattle.vm_local.specs.declared.reply.Reply.{Reply}
use Rattle.vm_local.specs.declared.reply.Reply.TheVariants.{Refused}
use Rattle.vm_local.specs.State.{LocalState}
use Rattle.vm_local.specs.Calls.{row_of, ualloc_row, dqbuf_row}
use Rattle.vm_log.specs.LegalLog.{LogState, state_of, with_entry}
use Rattle.vm_log.specs.Answers.{answered_with, IsMadeBy}
use Rattle.vm_exchange.specs.declared.way.Way.{Way}
use Rattle.vm_exchange.specs.declared.way.Way.TheVariants.{AnsweredHere}
use Rattle.vm_exchange.specs.Exchange.{way_of}
use Rattle.vm_exchange.specs.Range.{HasWords}
use Rattle.vm_exchange.proofs.ReplyLemmas.{here_answered}
use Rattle.vm_handle.specs.declared.stage.Stage.TheVariants.{AtRest, Waiting}
use Rattle.vm_handle.specs.Handle.{HandleState, id_of, opens_session, has_opened, is_dqbuf, Keeps, KeepsUnwoken}
use Rattle.vm_handle.specs.Answers.{makes, row_from, answered_by, answered_here, AnswersHere, answered_at, awoken}
use Rattle.vm_handle.proofs.LogLemmas.{IsReady, ready_more, opened_more}
use Rattle.vm_handle.proofs.HereLemmas.{IsHere, here_kinds, refused_is_here, lacking_is_here, replied_is_here, ualloc_may}
use Rattle.vm_handle.proofs.UserLemmas.{ualloc_sizes, user_zero}
use Rattle.vm_handle.proofs.DeliverLemmas.{or_false}

-- the memory that is made has the bytes that the call asks for
pub made_is : (s : LocalState) (line len off : ℕ) (u : List ℕ) (r : Reply) (user : ScatteredPages) → first_refusal (row_of s line 0 (UAlloc u len off)).refusals ≡ None →
    r ≡ (row_of s line 0 (UAlloc u len off)).reply → user ≡ user_memory line len off → IsMadeBy (UAlloc u len off) r (scatter_bytes user.entries user.pages)
unfolding ualloc_row
made_is s line len off u r user passed replied made =
    let sizes : (1 ≤ len) × (len ≤ 925696) × (off ≤ 4095) = ualloc_sizes s line len off u passed in
    let zero : scatter_bytes user.entries user.pages ≡ replicate len 0 =
    subst (λ (m : ScatteredPages). scatter_bytes m.entries m.pages ≡ replicate len 0) (sym made) (user_zero line len off sizes.0 sizes.2) in
    subst (λ x. IsMadeBy (UAlloc u len off) x (scatter_bytes user.entries user.pages)) (sym replied) zero

-- so it is at home
pub made_here : (l new : LogState) (line len off : ℕ) (u : List ℕ) (r : Reply) (user : ScatteredPages) → first_refusal (row_from l line (UAlloc u len off)).refusals ≡ None →
    r ≡ (row_from l line (UAlloc u len off)).reply → user ≡ user_memory line len off →
    new ≡ answered_with l line (UAlloc u len off) r (l.home ++ Some (OfUser user) ∷ []) → AnswersHere l line (UAlloc u len off) new
made_here l new line len off u r user passed replied made is =
    let call : Call = UAlloc u len off in
    inl (is
    ∙ (ap (λ x. answered_with l line call x (l.home ++ Some (OfUser user) ∷ [])) replied
    ∙ (ap (λ m. answered_with l line call (row_from l line call).reply (l.home ++ Some (OfUser m) ∷ [])) made
    ∙ ap (λ o. answered_by o l line call) (sym passed))))

pub lacking_here : (l new : LogState) (line len off : ℕ) (u : List ℕ) → first_refusal (row_from l line (UAlloc u len off)).refusals ≡ None →
    new ≡ answered_with l line (UAlloc u len off) (Refused Enomem) l.home → AnswersHere l line (UAlloc u len off) new
lacking_here l new line len off u passed is = inr (record { unrefused = passed; may = ualloc_may (state_of l) line len off u; new_is = is })

pub refused_here : (l new : LogState) (line : ℕ) (call : Call) (e : Errno) → first_refusal (row_from l line call).refusals ≡ Some e →
    new ≡ answered_by (Some e) l line call → AnswersHere l line call new
refused_here l new line call e refuses is = inl (is ∙ ap (λ o. answered_by o l line call) (sym refuses))

-- ---- what is kept

-- the numbers of an entry that is answered here go over the wire
here_words : (s : LocalState) (line : ℕ) (call : Call) (r : Reply) → line < 2 ^ 32 → IsHere s line call r → HasWords (Called line call r)
here_words s line call r words here = (words, subst (λ n. n < 2 ^ 64) (sym here.address) (lit< tt))

-- a line that is answered with such a reply
pub answered_keeps : (l : LogState) (session : Option ℕ) (line : ℕ) (call : Call) (r : Reply) (home : List (Option Mem)) → IsReady l → is_some session ≡ has_opened l.entries →
    line < 2 ^ 32 → IsHere (state_of l) line call r → Keeps (answered_with l line call r home) session AtRest
answered_keeps l session line call r home ready opened words here =
    let e : Entry = Called line call r in
    let more : IsReady (with_entry l e home) = ready_more l e home ready (here_words (state_of l) line call r words here) here.goes in
    record {
      legal = more.legal;
      range = more.range;
      opened = opened ∙ sym (opened_more l.entries e ∙ or_false (has_opened l.entries) (opens_session e) here.opens);
      fits = refl;
    }

-- its row's reply, or its refusal
answered_by_keeps : (l : LogState) (session : Option ℕ) (line : ℕ) (call : Call) (o : Option Errno) → first_refusal (row_from l line call).refusals ≡ o → IsReady l → is_some session ≡ has_opened l.entries →
    line < 2 ^ 32 → way_of (id_of session) (state_of l) call ≡ AnsweredHere → Keeps (answered_by o l line call) session AtRest
answered_by_keeps l session line call (Some e) refuses ready opened words here =
    answered_keeps l session line call (Refused e) l.home ready opened words (refused_is_here (state_of l) line call e refuses)
answered_by_keeps l session line call None passed ready opened words here =
    answered_keeps l session line call (row_from l line call).reply (l.home ++ makes line call) ready opened words
    (replied_is_here (state_of l) line call (here_kinds (id_of session) (state_of l) line call here passed) passed (here_answered (id_of session) (state_of l) line 0 call here passed))

pub here_keeps : (l new : LogState) (session : Option ℕ) (line : ℕ) (call : Call) → IsReady l → is_some session ≡ has_opened l.entries → line < 2 ^ 32 →
    way_of (id_of session) (state_of l) call ≡ AnsweredHere → AnswersHere l line call new → Keeps new session AtRest
here_keeps l new session line call ready opened words here (inl is) =
    subst (λ (x : LogState). Keeps x session AtRest) (sym is) (answered_by_keeps l session line call _ refl ready opened words here)
here_keeps l new session line call ready opened words here (inr lacks) =
    subst (λ (x : LogState). Keeps x session AtRest) (sym lacks.new_is)
    (answered_keeps l session line call (Refused Enomem) l.home ready opened words (lacking_is_here (state_of l) line call lacks.unrefused lacks.may))

-- ---- a dqbuf that waited

never_lacks : (s : LocalState) (line : ℕ) (call : Call) → is_dqbuf call ≡ true → (row_of s line 0 call).may_lack_memory ≡ true → ⊥
unfolding dqbuf_row
never_lacks s line (DqBuf t) is may = false≢true may
never_lacks s line call is may = false≢true is

-- it is answered by its row
pub dqbuf_here : (l new : LogState) (line : ℕ) (call : Call) → is_dqbuf call ≡ true → AnswersHere l line call new → new ≡ answered_here l line call
dqbuf_here l new line call dqbuf (inl is) = is
dqbuf_here l new line call dqbuf (inr lacks) = absurd (never_lacks (state_of l) line call dqbuf lacks.may)

answered_at_here : (way : Way) (h : HandleState) (line : ℕ) (call : Call) (log : LogState) → way ≡ AnsweredHere → log ≡ answered_here h.log line call →
    record { log = log; session = h.session; stage = AtRest } ≡ answered_at way h line call
answered_at_here way h line call log here is =
    ap (λ (x : LogState). record { log = x; session = h.session; stage = AtRest }) is ∙ ap (λ w. answered_at w h line call) (sym here)

-- the dqbuf is answered
pub wakes : (l new : LogState) (session : Option ℕ) (line : ℕ) (call : Call) → KeepsUnwoken l session (Waiting line call) → way_of (id_of session) (state_of l) call ≡ AnsweredHere →
    AnswersHere l line call new →
    record { log = new; session = session; stage = AtRest } ≡ awoken (Waiting line call) (record { log = l; session = session; stage = Waiting line call })
wakes l new session line call keeps here answers =
    answered_at_here (way_of (id_of session) (state_of l) call) (record { log = l; session = session; stage = Waiting line call }) line call new here
    (dqbuf_here l new line call keeps.fits.2 answers)
