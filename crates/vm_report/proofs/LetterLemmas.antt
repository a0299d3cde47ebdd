-- The letters of the formats that a call's reply tells are visible.
use Rattle.std.proofs.Common.{◌≡◌, ℕ, zero, suc, ◌==◌, Bool, true, false, List, [], ◌∷◌, Option, Some, None, IsSome, get_or, cond, refl, ap, sym, subst}
use Rattle.std.specs.List.{AllByRecursion}
use Rattle.std.specs.Option.{option_and_then}
use Rattle.v4l_const.specs.declared.errno.Errno.{Errno}
use Rattle.v4l_const.specs.declared.four_cc.FourCc.{FourCc}
use Rattle.v4l_const.specs.declared.model.Model.{Model}
use Rattle.v4l_const.specs.declared.model.Model.TheVariants.{Capture, Convert}
use Rattle.v4l_format.specs.declared.fmt.Fmt.{Fmt}
use Rattle.v4l_format.specs.declared.format_row.FormatRow.{FormatRow}
use Rattle.v4l_format.specs.Fmt.{IsAdjusted}
use Rattle.v4l_format.specs.FormatRow.{grey, single_planar, formats_of, row_in, row_of as format_row_of}
use Rattle.v4l_rules.specs.Refusals.{first_refusal}
use Rattle.vm_local.specs.declared.call.Call.{Call}
use Rattle.vm_local.specs.declared.call.Call.TheVariants.{OpenHandle, CloseHandle, QueryCap, EnumFmt, GFmt, TryFmt, SFmt, EnumInput, GInput, SInput, ReqBufs, QueryBuf, UAlloc, QBuf, StreamOn, StreamOff, DqBuf, Mmap, Munmap, Peek, Hash, Poke, Fill, Subscribe, Unsubscribe, DqEvent}
use Rattle.vm_local.specs.declared.entry.Entry.{Entry}
use Rattle.vm_local.specs.declared.entry.Entry.TheVariants.{Called, Finish, Bad, Give}
use Rattle.vm_local.specs.declared.reply.Reply.{Reply}
use Rattle.vm_local.specs.declared.reply.Reply.TheVariants.{Refused}
use Rattle.vm_local.specs.State.{LocalState, opening}
use Rattle.vm_local.specs.Same.{address_in}
use Rattle.vm_local.specs.Calls.{row_of, querycap_row, enumfmt_row, gfmt_row, tryfmt_row, sfmt_row, enuminput_row, ginput_row, sinput_row, reqbufs_row, querybuf_row, ualloc_row, qbuf_row, streamon_row, streamoff_row, dqbuf_row, mmap_row, munmap_row, read_row, hash_row, write_row, fill_row, subscribe_row, unsubscribe_row, dqevent_row}
use Rattle.vm_local.specs.Log.{called, row_for, IsCall, IsLegal, after, replay_from}
use Rattle.vm_exchange.specs.Range.{IsInRange, HasWords, IsOffered}
use Rattle.vm_exchange.proofs.OfferLemmas.{reply_offered}
use Rattle.vm_exchange.proofs.RangeLemmas.{after_in_range, opening_in_range}
use Rattle.vm_report.specs.Lent.{IsLettered}
use Rattle.vm_report.specs.Printed.{IsCode, HasLetters}
use Rattle.vm_report.specs.Text.{code_text}
use Rattle.vm_report.proofs.KindLemmas.{Answer, IsRefusal, IsReply, answer}

-- ---- the table of formats

abbrev AreLettered : List FormatRow → Type 0
AreLettered rows = AllByRecursion (λ r. IsCode r.code) rows

grey_lettered : IsCode grey.code
unfolding code_text
grey_lettered = refl

table_lettered : AreLettered single_planar
unfolding code_text
table_lettered = (refl, (refl, (refl, (refl, (refl, (refl, tt))))))

lettered_in : (rows : List FormatRow) (code : FourCc) → AreLettered rows → IsCode (row_in rows code).code
lettered_in [] code all = grey_lettered
lettered_in (r ∷ rows) code all = by_test (r.code.0 == code.0) (lettered_in rows code all.1)
  where
    by_test : (b : Bool) → IsCode (row_in rows code).code → IsCode (cond b r (row_in rows code)).code
    by_test true rest = all.0
    by_test false rest = rest

lettered_at : (rows : List FormatRow) (i : ℕ) → AreLettered rows → IsCode (get_or rows i grey).code
lettered_at [] i all = grey_lettered
lettered_at (r ∷ rows) zero all = all.0
lettered_at (r ∷ rows) (suc i) all = lettered_at rows i all.1

offered_lettered : (m : Model) (i : ℕ) → IsCode (get_or (formats_of m) i grey).code
offered_lettered Capture i = lettered_at single_planar i table_lettered
offered_lettered Convert i = lettered_at single_planar i table_lettered

adjusted_lettered : (f : Fmt) → IsAdjusted f → IsCode f.code
unfolding format_row_of
adjusted_lettered f adjusted = subst IsCode adjusted.known (lettered_in single_planar f.code table_lettered)

-- ---- the replies of the table of calls

row_lettered : (s : LocalState) (line addr : ℕ) (call : Call) → IsOffered call (row_of s line addr call).reply → HasLetters (row_of s line addr call).reply
unfolding querycap_row enumfmt_row gfmt_row tryfmt_row sfmt_row enuminput_row ginput_row sinput_row reqbufs_row querybuf_row ualloc_row qbuf_row streamon_row streamoff_row dqbuf_row mmap_row munmap_row read_row hash_row write_row fill_row subscribe_row unsubscribe_row dqevent_row
row_lettered s line addr (OpenHandle nonblock) offered = tt
row_lettered s line addr CloseHandle offered = tt
row_lettered s line addr QueryCap offered = tt
row_lettered s line addr (EnumFmt t i) offered = offered_lettered s.model i
row_lettered s line addr (GFmt t) offered = adjusted_lettered _ offered
row_lettered s line addr (TryFmt t f w h) offered = adjusted_lettered _ offered
row_lettered s line addr (SFmt t f w h) offered = adjusted_lettered _ offered
row_lettered s line addr (EnumInput i) offered = tt
row_lettered s line addr GInput offered = tt
row_lettered s line addr (SInput i) offered = tt
row_lettered s line addr (ReqBufs t m n) offered = tt
row_lettered s line addr (QueryBuf t i) offered = tt
row_lettered s line addr (UAlloc u len off) offered = tt
row_lettered s line addr (QBuf t i user used ts) offered = tt
row_lettered s line addr (StreamOn t) offered = tt
row_lettered s line addr (StreamOff t) offered = tt
row_lettered s line addr (DqBuf t) offered = tt
row_lettered s line addr (Mmap m t i ro) offered = tt
row_lettered s line addr (Munmap m) offered = tt
row_lettered s line addr (Peek m off len) offered = tt
row_lettered s line addr (Hash m) offered = tt
row_lettered s line addr (Poke m off bytes) offered = tt
row_lettered s line addr (Fill m seed) offered = tt
row_lettered s line addr (Subscribe e) offered = tt
row_lettered s line addr (Unsubscribe e) offered = tt
row_lettered s line addr DqEvent offered = tt

-- what a call answers has visible letters
pub letters_where : (s t : LocalState) (line : ℕ) (call : Call) (reply : Reply) → IsInRange s → IsCall s line call reply t → HasLetters reply
unfolding called
letters_where s t line call reply range is = by_answer (answer (first_refusal (row_for s line call reply).refusals) (row_for s line call reply) s t reply is)
  where
    offered : IsOffered call reply
    offered = reply_offered s t line call reply range is

    by_answer : Answer (first_refusal (row_for s line call reply).refusals) (row_for s line call reply) reply → HasLetters reply
    by_answer (IsRefusal e same) = rw same tt
    by_answer (IsReply none same) =
        let at : IsOffered call (row_of s line (address_in reply) call).reply = subst (λ r. IsOffered call r) same offered in
        subst HasLetters (sym same) (row_lettered s line (address_in reply) call at)

-- ---- a legal log

entry_lettered : (s t : LocalState) (e : Entry) → IsInRange s → after s e ≡ Some t → IsLettered e
entry_lettered s t (Called line call reply) range comes = letters_where s t line call reply range comes
entry_lettered s t Finish range comes = tt
entry_lettered s t Bad range comes = tt
entry_lettered s t Give range comes = tt

lettered_from : (s : LocalState) (es : List Entry) → IsInRange s → AllByRecursion HasWords es → IsSome (replay_from s es) → AllByRecursion IsLettered es
lettered_from s [] range words legal = tt
lettered_from s (e ∷ es) range words legal = by_state (after s e) refl legal (λ t range'. lettered_from t es range' words.1)
  where
    by_state : (o : Option LocalState) → after s e ≡ o → IsSome (option_and_then (λ t. replay_from t es) o)
        → ((t : LocalState) → IsInRange t → IsSome (replay_from t es) → AllByRecursion IsLettered es) → AllByRecursion IsLettered (e ∷ es)
    by_state None is legal' rest = cc
    by_state (Some t) is legal' rest = (entry_lettered s t e range is, rest t (after_in_range s t e range words.0 is) legal')

pub legal_lettered : (model : Model) (log : List Entry) → AllByRecursion HasWords log → IsLegal model log → AllByRecursion IsLettered log
legal_lettered model log words legal = lettered_from (opening model) log (opening_in_range model) words legal
