-- The replies that calls may have are ones that the device offers.
use Rattle.std.proofs.Common.{◌≡◌, inl, inr, ℕ, None, sym, subst}
use Rattle.v4l_rules.specs.Refusals.{first_refusal}
use Rattle.vm_local.specs.declared.call.Call.{Call}
use Rattle.vm_local.specs.declared.call.Call.TheVariants.{GFmt, TryFmt, SFmt, QueryBuf, QBuf}
use Rattle.vm_local.specs.declared.reply.Reply.{Reply}
use Rattle.vm_local.specs.State.{LocalState}
use Rattle.vm_local.specs.Same.{address_in}
use Rattle.vm_local.specs.Calls.{row_of, querycap_row, enumfmt_row, gfmt_row, tryfmt_row, sfmt_row, enuminput_row, ginput_row, sinput_row, reqbufs_row, querybuf_row, ualloc_row, qbuf_row, streamon_row, streamoff_row, dqbuf_row, mmap_row, munmap_row, read_row, hash_row, write_row, fill_row, subscribe_row, unsubscribe_row, dqevent_row}
use Rattle.vm_local.specs.Log.{IsCall}
use Rattle.vm_exchange.specs.Range.{IsInRange, IsOffered}
use Rattle.vm_exchange.proofs.RangeLemmas.{adjusted_for_offered, queue_in_range}
use Rattle.vm_exchange.proofs.OutcomeLemmas.{outcome}
use Rattle.vm_exchange.proofs.WayLemmas.{told_index, queued_index}

row_offered : (s : LocalState) (line addr : ℕ) (call : Call) → IsInRange s → first_refusal (row_of s line addr call).refusals ≡ None → IsOffered call (row_of s line addr call).reply
unfolding querycap_row enumfmt_row gfmt_row tryfmt_row sfmt_row enuminput_row ginput_row sinput_row reqbufs_row querybuf_row ualloc_row qbuf_row streamon_row streamoff_row dqbuf_row mmap_row munmap_row read_row hash_row write_row fill_row subscribe_row unsubscribe_row dqevent_row
row_offered s line addr (GFmt t) range passed = (queue_in_range s t range).format
row_offered s line addr (TryFmt t f w h) range passed = adjusted_for_offered s t f w h range
row_offered s line addr (SFmt t f w h) range passed = adjusted_for_offered s t f w h range
row_offered s line addr (QueryBuf t i) range passed = told_index s line addr t i range passed
row_offered s line addr (QBuf t i user used ts) range passed = queued_index s line addr t i used ts user range passed
row_offered s line addr call range passed = tt

pub reply_offered : (s t : LocalState) (line : ℕ) (call : Call) (reply : Reply) → IsInRange s → IsCall s line call reply t → IsOffered call reply
reply_offered s t line call reply range goes =
    elim (outcome s line call reply t goes) as (λ _. IsOffered call reply) [
      | inl refused ↦ subst (λ (r : Reply). IsOffered call r) (sym refused.1) tt
      | inr done ↦ subst (λ (r : Reply). IsOffered call r) (sym done.1) (row_offered s line (address_in reply) call range done.0)
    ]
