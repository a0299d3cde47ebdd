-- Only a mmap and a munmap send a command that makes a mapping or gives one back.
use Rattle.std.proofs.Common.{◌≡◌, ℕ, Bool, true, false, List, replicate, Option, Some, None, refl, subst, if◌then◌else◌}
use Rattle.std.proofs.lemmas.Bool.{true≢false}
use Rattle.std.proofs.lemmas.Option.{none-some, same_Some}
use Rattle.v4l_const.specs.IoctlCode.{payload_size}
use Rattle.v4l_const.specs.declared.ioctl_code.IoctlCode.TheVariants.{QueryCap as QueryCapCode, EnumFmt as EnumFmtCode, GFmt as GFmtCode, TryFmt as TryFmtCode, SFmt as SFmtCode, EnumInput as EnumInputCode, GInput as GInputCode, SInput as SInputCode, ReqBufs as ReqBufsCode, QueryBuf as QueryBufCode, StreamOn as StreamOnCode, StreamOff as StreamOffCode, SubscribeEvent as SubscribeCode, UnsubscribeEvent as UnsubscribeCode}
use Rattle.v4l_layout.specs.Records.{fmtdesc_bytes, format_bytes, input_bytes, request_bytes, buffer_bytes, subscription_bytes}
use Rattle.v4l_rules.specs.Refusals.{first_refusal}
use Rattle.vm_local.specs.declared.call.Call.{Call}
use Rattle.vm_local.specs.declared.call.Call.TheVariants.{OpenHandle, CloseHandle, QueryCap, EnumFmt, GFmt, TryFmt, SFmt, EnumInput, GInput, SInput, ReqBufs, QueryBuf, UAlloc, QBuf, StreamOn, StreamOff, DqBuf, Mmap, Munmap, Peek, Hash, Poke, Fill, Subscribe, Unsubscribe, DqEvent}
use Rattle.vm_local.specs.State.{LocalState}
use Rattle.vm_local.specs.Calls.{row_of, qbuf_row}
use Rattle.vm_wire.specs.Buffers.{reqbufs_request, querybuf_request, subscription_request}
use Rattle.vm_wire.specs.Records.{fmt_desc_request, format_type_request, format_request, input_request}
use Rattle.vm_wire.specs.Wire.{le}
use Rattle.vm_wire.specs.declared.command.Command.{Command}
use Rattle.vm_wire.specs.declared.command.Command.TheVariants.{OpenSession, CloseSession, Ioctl}
use Rattle.vm_exchange.specs.Exchange.{sends, from_open, unless_by, once_answered, qbuf_crossing, crossing, crossing_of}
use Rattle.vm_exchange.specs.declared.crossing.Crossing.{Crossing}
use Rattle.vm_exchange.specs.declared.way.Way.TheVariants.{Crosses, AnsweredHere}
use Rattle.vm_log.specs.LegalLog.{state_of}
use Rattle.vm_handle.specs.Handle.{HandleState, id_of, crossing_from}
use Rattle.vm_realm.proofs.RegionNextLemmas.{moves_mapping}
use Rattle.vm_realm.proofs.SessionLemmas.{passed_way, never_crosses}
use Rattle.vm_realm.proofs.ShareNextLemmas.{tells}

abbrev sending : Command → Crossing
sending c = record { command = c; user = None }

opened_plain : (s : LocalState) (c : Command) (x : Crossing) → moves_mapping c ≡ false → crossing (from_open s (sends c)) ≡ Some x → moves_mapping x.command ≡ false
opened_plain s c x plain is = by_open s.opened is
  where
    by_open : (b : Bool) → crossing (if b then sends c else AnsweredHere) ≡ Some x → moves_mapping x.command ≡ false
    by_open true is = subst (λ (y : Crossing). moves_mapping y.command ≡ false) (same_Some (sending c) x is) plain
    by_open false is = absurd (none-some x is)

qbuf_plain : (s : LocalState) (session t i : ℕ) (user : Option (List ℕ)) (used ts : ℕ) (x : Crossing) →
    crossing (unless_by (first_refusal (qbuf_row s t i user used ts).refusals) (Crosses (qbuf_crossing session s t i user used ts))) ≡ Some x → moves_mapping x.command ≡ false
unfolding qbuf_row qbuf_crossing
qbuf_plain s session t i user used ts x is =
    let passed = passed_way (first_refusal (qbuf_row s t i user used ts).refusals) (Crosses (qbuf_crossing session s t i user used ts)) x is in
    subst (λ (y : Crossing). moves_mapping y.command ≡ false) (same_Some (qbuf_crossing session s t i user used ts) x passed.1) refl

plain_way : (session : ℕ) (s : LocalState) (call : Call) (x : Crossing) → tells call ≡ false → crossing_of session s call ≡ Some x → moves_mapping x.command ≡ false
plain_way session s (OpenHandle nonblock) x plain is = subst (λ (y : Crossing). moves_mapping y.command ≡ false) (same_Some (sending OpenSession) x is) refl
plain_way session s CloseHandle x plain is = opened_plain s (CloseSession session) x refl is
plain_way session s QueryCap x plain is = opened_plain s (Ioctl session QueryCapCode (replicate (payload_size QueryCapCode) 0)) x refl is
plain_way session s (EnumFmt t i) x plain is = opened_plain s (Ioctl session EnumFmtCode (fmtdesc_bytes (fmt_desc_request t i))) x refl is
plain_way session s (GFmt t) x plain is = opened_plain s (Ioctl session GFmtCode (format_bytes (format_type_request t))) x refl is
plain_way session s (TryFmt t f w h) x plain is = opened_plain s (Ioctl session TryFmtCode (format_bytes (format_request t f w h))) x refl is
plain_way session s (SFmt t f w h) x plain is = opened_plain s (Ioctl session SFmtCode (format_bytes (format_request t f w h))) x refl is
plain_way session s (EnumInput i) x plain is = opened_plain s (Ioctl session EnumInputCode (input_bytes (input_request i))) x refl is
plain_way session s GInput x plain is = opened_plain s (Ioctl session GInputCode (replicate (payload_size GInputCode) 0)) x refl is
plain_way session s (SInput i) x plain is = opened_plain s (Ioctl session SInputCode (le i)) x refl is
plain_way session s (ReqBufs t m n) x plain is = opened_plain s (Ioctl session ReqBufsCode (request_bytes (reqbufs_request t m n))) x refl is
plain_way session s (QueryBuf t i) x plain is = opened_plain s (Ioctl session QueryBufCode (buffer_bytes (querybuf_request t i))) x refl is
plain_way session s (UAlloc u len off) x plain is = absurd (none-some x is)
plain_way session s (QBuf t i user used ts) x plain is = qbuf_plain s session t i user used ts x is
plain_way session s (StreamOn t) x plain is = opened_plain s (Ioctl session StreamOnCode (le t)) x refl is
plain_way session s (StreamOff t) x plain is = opened_plain s (Ioctl session StreamOffCode (le t)) x refl is
plain_way session s (DqBuf t) x plain is = absurd (never_crosses s (DqBuf t) x (passed_way (first_refusal (row_of s 0 0 (DqBuf t)).refusals) (once_answered s (DqBuf t)) x is).1)
plain_way session s (Mmap m t i ro) x plain is = absurd (true≢false plain)
plain_way session s (Munmap m) x plain is = absurd (true≢false plain)
plain_way session s (Peek m off len) x plain is = absurd (none-some x is)
plain_way session s (Hash m) x plain is = absurd (none-some x is)
plain_way session s (Poke m off bytes) x plain is = absurd (none-some x is)
plain_way session s (Fill m seed) x plain is = absurd (none-some x is)
plain_way session s (Subscribe e) x plain is = opened_plain s (Ioctl session SubscribeCode (subscription_bytes (subscription_request e))) x refl is
plain_way session s (Unsubscribe e) x plain is = opened_plain s (Ioctl session UnsubscribeCode (subscription_bytes (subscription_request e))) x refl is
plain_way session s DqEvent x plain is = absurd (none-some x is)

pub plain_command : (h : HandleState) (call : Call) (k : Crossing) → tells call ≡ false → crossing_from h call ≡ Some k → moves_mapping k.command ≡ false
plain_command h call k plain is = plain_way (id_of h.session) (state_of h.log) call k plain is
