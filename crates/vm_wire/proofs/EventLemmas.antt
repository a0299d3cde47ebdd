-- Messages: bytes spell at most one, and what is written of one spells it.
use Rattle.std.proofs.Common.{ℕ, ◌≡◌, ◌+◌, ◌++◌, List, [], length, drop, replicate, length-append, append_assoc, arith, refl, sym, ◌∙◌, subst}
use Rattle.std.proofs.lemmas.List.{length-replicate}
use Rattle.std.proofs.lemmas.Nat.{from_le_bytes-to_le_bytes_4}
use Rattle.v4l_layout.specs.Layout.{ReadsAs}
use Rattle.v4l_layout.specs.Records.{buffer_bytes, buffer_fields, event_fields, event_bytes as event_record_bytes}
use Rattle.v4l_layout.specs.declared.buffer_rec.BufferRec.{BufferRec}
use Rattle.v4l_layout.specs.declared.event_rec.EventRec.{EventRec}
use Rattle.v4l_layout.proofs.Laid.{length_laid, laid_reads_back}
use Rattle.vm_wire.specs.Event.{event_bytes, event_size, SpellsEvent, IsEvent}
use Rattle.vm_wire.specs.declared.event.EventMsg.{EventMsg}
use Rattle.vm_wire.specs.declared.event.EventMsg.TheVariants.{Dequeued, Happened}

one_buffer : (bytes : List ℕ) (r s : BufferRec) → ReadsAs bytes (buffer_fields r) → ReadsAs bytes (buffer_fields s) → r ≡ s
unfolding buffer_fields
one_buffer bytes r s hr hs = λ i. record {
  index = (sym hr.0 ∙ hs.0) i;
  kind = (sym hr.1.0 ∙ hs.1.0) i;
  bytesused = (sym hr.1.1.0 ∙ hs.1.1.0) i;
  flags = (sym hr.1.1.1.0 ∙ hs.1.1.1.0) i;
  field = (sym hr.1.1.1.1.0 ∙ hs.1.1.1.1.0) i;
  seconds = (sym hr.1.1.1.1.1.0 ∙ hs.1.1.1.1.1.0) i;
  micros = (sym hr.1.1.1.1.1.1.0 ∙ hs.1.1.1.1.1.1.0) i;
  timecode = (sym hr.1.1.1.1.1.1.1.0 ∙ hs.1.1.1.1.1.1.1.0) i;
  sequence = (sym hr.1.1.1.1.1.1.1.1.0 ∙ hs.1.1.1.1.1.1.1.1.0) i;
  memory = (sym hr.1.1.1.1.1.1.1.1.1.0 ∙ hs.1.1.1.1.1.1.1.1.1.0) i;
  m = (sym hr.1.1.1.1.1.1.1.1.1.1.0 ∙ hs.1.1.1.1.1.1.1.1.1.1.0) i;
  length = (sym hr.1.1.1.1.1.1.1.1.1.1.1.0 ∙ hs.1.1.1.1.1.1.1.1.1.1.1.0) i;
  reserved2 = (sym hr.1.1.1.1.1.1.1.1.1.1.1.1.0 ∙ hs.1.1.1.1.1.1.1.1.1.1.1.1.0) i;
  request_fd = (sym hr.1.1.1.1.1.1.1.1.1.1.1.1.1.0 ∙ hs.1.1.1.1.1.1.1.1.1.1.1.1.1.0) i;
}

one_event_record : (bytes : List ℕ) (r s : EventRec) → ReadsAs bytes (event_fields r) → ReadsAs bytes (event_fields s) → r ≡ s
unfolding event_fields
one_event_record bytes r s hr hs = λ i. record {
  kind = (sym hr.0 ∙ hs.0) i;
  u = (sym hr.1.0 ∙ hs.1.0) i;
  pending = (sym hr.1.1.0 ∙ hs.1.1.0) i;
  sequence = (sym hr.1.1.1.0 ∙ hs.1.1.1.0) i;
  seconds = (sym hr.1.1.1.1.0 ∙ hs.1.1.1.1.0) i;
  nanos = (sym hr.1.1.1.1.1.0 ∙ hs.1.1.1.1.1.0) i;
  id = (sym hr.1.1.1.1.1.1.0 ∙ hs.1.1.1.1.1.1.0) i;
}

-- bytes spell at most one message
pub one_message : (bytes : List ℕ) (d e : EventMsg) → SpellsEvent bytes d → SpellsEvent bytes e → d ≡ e
one_message bytes (Dequeued session buffer) (Dequeued session' buffer') hd he =
    λ i. Dequeued ((sym hd.2 ∙ he.2) i) (one_buffer (drop 8 bytes) buffer buffer' hd.3 he.3 i)
one_message bytes (Dequeued session buffer) (Happened session' event') hd he = absurd (let same : 1 ≡ 2 = sym hd.1 ∙ he.1 in omega (arith, same))
one_message bytes (Happened session event) (Dequeued session' buffer') hd he = absurd (let same : 2 ≡ 1 = sym hd.1 ∙ he.1 in omega (arith, same))
one_message bytes (Happened session event) (Happened session' event') hd he =
    λ i. Happened ((sym hd.2 ∙ he.2) i) (one_event_record (drop 8 bytes) event event' hd.3 he.3 i)

-- what is written of a message spells it, whatever stands behind it
pub event_again : (e : EventMsg) (behind : List ℕ) → IsEvent e → SpellsEvent (event_bytes e ++ behind) e
event_again (Dequeued session buffer) behind fits =
    let planes : List ℕ = replicate 512 0 in
    let laid : length (buffer_bytes buffer) ≡ 88 = omega (arith, length_laid 88 0 (buffer_fields buffer) fits.1) in
    let R : List ℕ → Type 0 = λ b. ReadsAs b (buffer_fields buffer) in
    let reads : ReadsAs ((buffer_bytes buffer ++ planes) ++ behind) (buffer_fields buffer) =
    subst R (sym (append_assoc (buffer_bytes buffer) planes behind)) (laid_reads_back 88 0 [] (planes ++ behind) (buffer_fields buffer) refl fits.1) in
    let long : length ((buffer_bytes buffer ++ planes) ++ behind) ≡ 88 + (512 + length behind) =
    simp length-append (omega (arith, laid, length-replicate {A = ℕ} 512 0)) in
    (omega (arith, long), refl, from_le_bytes-to_le_bytes_4 session fits.0, reads)
event_again (Happened session event) behind fits =
    let laid : length (event_record_bytes event) ≡ 136 = omega (arith, length_laid 136 0 (event_fields event) fits.1) in
    let long : length (event_record_bytes event ++ behind) ≡ 136 + length behind = simp length-append (omega (arith, laid)) in
    (omega (arith, long), refl, from_le_bytes-to_le_bytes_4 session fits.0, laid_reads_back 136 0 [] behind (event_fields event) refl fits.1)

-- where these bytes stand in front of others, they are spelled
pub written_again : (e : EventMsg) (behind now : List ℕ) → IsEvent e → now ≡ event_bytes e ++ behind → SpellsEvent now e
written_again e behind now fits written = let P : List ℕ → Type 0 = λ b. SpellsEvent b e in subst P (sym written) (event_again e behind fits)

-- they are as many as its size says
pub message_size : (e : EventMsg) → IsEvent e → length (event_bytes e) ≡ event_size e
message_size (Dequeued session buffer) fits =
    let laid : length (buffer_bytes buffer) ≡ 88 = omega (arith, length_laid 88 0 (buffer_fields buffer) fits.1) in
    let long : length (buffer_bytes buffer ++ replicate 512 0) ≡ 600 = simp length-append (omega (arith, laid, length-replicate {A = ℕ} 512 0)) in
    omega (arith, long)
message_size (Happened session event) fits = omega (arith, length_laid 136 0 (event_fields event) fits.1)
