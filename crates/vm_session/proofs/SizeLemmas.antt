-- The answer to a call has as many bytes as its request.
use Rattle.std.proofs.Common.{◌≡◌, ℕ, Bool, List, [], Option, Some, None, Result, Ok, Err, length, refl, sym, ap, ◌∙◌}
use Rattle.v4l_const.specs.declared.errno.Errno.{Errno}
use Rattle.v4l_const.specs.declared.ioctl_code.IoctlCode.{IoctlCode}
use Rattle.v4l_const.specs.declared.ioctl_code.IoctlCode.TheVariants.{QueryCap, EnumFmt, GFmt, SFmt, ReqBufs, QueryBuf, QBuf, StreamOn, StreamOff, EnumInput, GInput, SInput, TryFmt, SubscribeEvent, UnsubscribeEvent}
use Rattle.vm_frame.specs.declared.mem.Held.{Held}
use Rattle.vm_wire.specs.Payload.{HasItsLength}
use Rattle.vm_wire.proofs.BufferLemmas.{reqbufs_answer_length, querybuf_answer_length, qbuf_answer_length, subscription_length}
use Rattle.vm_wire.proofs.RecordLemmas.{capability_length, fmt_desc_answer_length, format_answer_length, input_answer_length}
use Rattle.vm_session.specs.State.{SessionState}
use Rattle.vm_session.specs.Rows.{IoctlRow, IoctlAnswer, ioctl_row, ioctl_outcome, outcome_of, refused_or, refusal_of, querycap_row, enumfmt_row, gfmt_row, tryfmt_row, sfmt_row, enuminput_row, ginput_row, sinput_row, reqbufs_row, querybuf_row, qbuf_row, streamon_row, streamoff_row, subscribe_row, unsubscribe_row}

abbrev payload_in : Result IoctlAnswer Errno → List ℕ
payload_in (Ok a) = a.payload
payload_in (Err e) = []

-- what isn't refused is what the row has
payload_of_row : (o : Option Errno) (x a : IoctlAnswer) → refused_or o x ≡ Ok a → x.payload ≡ a.payload
payload_of_row None x a is = ap payload_in is
payload_of_row (Some e) x a is = cc

sized_row : (memory : Bool) (r : IoctlRow) (n : ℕ) (a : IoctlAnswer) → length r.payload ≡ n →
    outcome_of memory r ≡ Ok a → length a.payload ≡ n
sized_row memory r n a size is =
    sym (ap (λ p. length p) (payload_of_row (refusal_of memory r) _ a is)) ∙ size

pub answer_length : (memory : Bool) (s : SessionState) (code : IoctlCode) (payload : List ℕ) (held : List Held) (a : IoctlAnswer) →
    HasItsLength code payload → ioctl_outcome memory s code payload held ≡ Ok a → length a.payload ≡ length payload
unfolding querycap_row enumfmt_row gfmt_row tryfmt_row sfmt_row enuminput_row ginput_row sinput_row reqbufs_row querybuf_row qbuf_row streamon_row streamoff_row subscribe_row unsubscribe_row
answer_length memory s QueryCap p held a sized is =
    sized_row memory (ioctl_row s QueryCap p held) 104 a (capability_length s.model) is ∙ sym sized
answer_length memory s EnumFmt p held a sized is =
    sized_row memory (ioctl_row s EnumFmt p held) 64 a (fmt_desc_answer_length _ _ _) is ∙ sym sized
answer_length memory s GFmt p held a sized is =
    sized_row memory (ioctl_row s GFmt p held) 208 a (format_answer_length _ _) is ∙ sym sized
answer_length memory s TryFmt p held a sized is =
    sized_row memory (ioctl_row s TryFmt p held) 208 a (format_answer_length _ _) is ∙ sym sized
answer_length memory s SFmt p held a sized is =
    sized_row memory (ioctl_row s SFmt p held) 208 a (format_answer_length _ _) is ∙ sym sized
answer_length memory s EnumInput p held a sized is =
    sized_row memory (ioctl_row s EnumInput p held) 80 a (input_answer_length _) is ∙ sym sized
answer_length memory s GInput p held a sized is =
    sized_row memory (ioctl_row s GInput p held) 4 a refl is ∙ sym sized
answer_length memory s SInput p held a sized is =
    sized_row memory (ioctl_row s SInput p held) 4 a refl is ∙ sym sized
answer_length memory s ReqBufs p held a sized is =
    sized_row memory (ioctl_row s ReqBufs p held) 20 a (reqbufs_answer_length _ _ _ _) is ∙ sym sized
answer_length memory s QueryBuf p held a sized is =
    sized_row memory (ioctl_row s QueryBuf p held) 88 a (querybuf_answer_length _ _ _ _ _) is ∙ sym sized
answer_length memory s QBuf p held a sized is =
    sized_row memory (ioctl_row s QBuf p held) 88 a (qbuf_answer_length _) is ∙ sym sized
answer_length memory s StreamOn p held a sized is =
    sized_row memory (ioctl_row s StreamOn p held) 4 a refl is ∙ sym sized
answer_length memory s StreamOff p held a sized is =
    sized_row memory (ioctl_row s StreamOff p held) 4 a refl is ∙ sym sized
answer_length memory s SubscribeEvent p held a sized is =
    sized_row memory (ioctl_row s SubscribeEvent p held) 32 a (subscription_length _) is ∙ sym sized
answer_length memory s UnsubscribeEvent p held a sized is =
    sized_row memory (ioctl_row s UnsubscribeEvent p held) 32 a (subscription_length _) is ∙ sym sized
