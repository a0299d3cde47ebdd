-- The calls that stop nothing, but for that which queues a buffer.
use Rattle.std.proofs.Common.{◌≡◌, ℕ, ◌<◌, ◌==◌, ◌||◌, nat_lt, Bool, true, false, not, List, [], ◌∷◌, length, get_or, refl, sym, ap, ◌∙◌, subst, arith}
use Rattle.std.proofs.lemmas.Bool.{not-false, ltb-true}
use Rattle.v4l_const.specs.declared.errno.Errno.TheVariants.{Ebadf, Einval, Ebusy}
use Rattle.v4l_const.specs.declared.four_cc.FourCc.{FourCc}
use Rattle.v4l_const.specs.Model.{queues as types_of, has_events}
use Rattle.v4l_format.specs.FormatRow.{formats_of, grey}
use Rattle.v4l_layout.specs.Records.{capability_bytes, fmtdesc_bytes, format_bytes, buffer_bytes}
use Rattle.v4l_rules.specs.Queues.{place_in, has_type}
use Rattle.v4l_rules.specs.Refusals.{first_refusal, no_type, no_inputs, no_input}
use Rattle.vm_local.specs.declared.buffer.Buffer.{Buffer}
use Rattle.vm_local.specs.declared.call.Call.TheVariants.{QueryCap, EnumFmt, GFmt, TryFmt, SFmt, EnumInput, GInput, SInput, QueryBuf, StreamOn, Subscribe, Unsubscribe}
use Rattle.vm_local.specs.State.{LocalState, queue_of, with_queue, buffer_of}
use Rattle.vm_local.specs.Queue.{is_empty, has_buffers, is_streaming, adjusted_for, with_set_format, started}
use Rattle.vm_local.specs.Calls.{querycap_row, enumfmt_row, gfmt_row, tryfmt_row, sfmt_row, enuminput_row, ginput_row, sinput_row, querybuf_row, streamon_row, subscribe_row, unsubscribe_row}
use Rattle.vm_local.proofs.StepLemmas.{passes}
use Rattle.vm_commute.proofs.ReachedLemmas.{many_queues}
use Rattle.vm_home.specs.Reached.{IsReached}
use Rattle.vm_wire.specs.Buffers.{querybuf_answer}
use Rattle.vm_wire.specs.Records.{capability_of, fmt_desc_answer, format_answer}
use Rattle.vm_wire.specs.Wire.{le}
use Rattle.vm_wire.specs.declared.response.Response.TheVariants.{Answered}
use Rattle.vm_exchange.specs.Exchange.{memory_number}
use Rattle.vm_session.specs.State.{SessionState, queue_of as session_queue, with_queue as session_with_queue, queue_has_buffers, has_buffers as session_has, is_streaming as session_streams, adjusted_for as session_adjusted, with_set_format as session_with_format}
use Rattle.vm_session.specs.Buffers.{started as session_started}
use Rattle.vm_session.specs.Rows as S
use Rattle.vm_session.specs.Sound.{IsSound}
use Rattle.vm_stands.specs.Stands.{StandsOn, Stands}
use Rattle.vm_stands.specs.Laws.{IsServed}
use Rattle.vm_stands.proofs.AlikeLemmas.{many_alike, some_alike, has_alike, streams_alike, adjusted_alike, length_alike}
use Rattle.vm_stands.proofs.AnswerLemmas.{IsAlike, by_row, nothing_back, no_frames}
use Rattle.vm_stands.proofs.FormatLemmas.{set_stands, started_stands, input_stands}
use Rattle.vm_stands.proofs.SeenLemmas.{seen_stands}

querycap_alike : (frames : List ℕ) (session : SessionState) (s : LocalState) → Stands frames session s → IsAlike frames session s QueryCap (querycap_row s) (S.querycap_row session)
unfolding querycap_row S.querycap_row
querycap_alike frames session s stands = record {
  refusals = rw (stands.opened) refl;
  lacks = refl;
  waits = refl;
  told = refl;
  done = λ pass. record {
    payload = ap (λ m. Answered (capability_bytes (capability_of m))) (sym stands.model);
    back = nothing_back s s QueryCap refl refl;
    stands = no_frames frames session s stands;
  };
}

pub querycap_served : IsServed QueryCap S.querycap_row
querycap_served frames session line s memory stands sound reached =
    by_row frames session line s QueryCap (querycap_row s) (S.querycap_row session) memory (λ reply. refl) (querycap_alike frames session s stands)

enumfmt_alike : (frames : List ℕ) (session : SessionState) (s : LocalState) (t i : ℕ) → Stands frames session s →
    IsAlike frames session s (EnumFmt t i) (enumfmt_row s t i) (S.enumfmt_row session t i)
unfolding enumfmt_row S.enumfmt_row
enumfmt_alike frames session s t i stands =
    let m : s.model ≡ session.model = sym stands.model in
    record {
      refusals = λ j. first_refusal ((not (stands.opened j), Ebadf) ∷ no_type (m j) t ∷ (not (nat_lt i (length (formats_of (m j)))), Einval) ∷ []);
      lacks = refl;
      waits = refl;
      told = refl;
      done = λ pass. record {
        payload = ap (λ m. Answered (fmtdesc_bytes (fmt_desc_answer t i (get_or (formats_of m) i grey).code))) m;
        back = nothing_back s s (EnumFmt t i) refl refl;
        stands = no_frames frames session s stands;
      };
    }

pub enumfmt_served : (t i : ℕ) → IsServed (EnumFmt t i) (λ session. S.enumfmt_row session t i)
enumfmt_served t i frames session line s memory stands sound reached =
    by_row frames session line s (EnumFmt t i) (enumfmt_row s t i) (S.enumfmt_row session t i) memory (λ reply. refl) (enumfmt_alike frames session s t i stands)

gfmt_alike : (frames : List ℕ) (session : SessionState) (s : LocalState) (t : ℕ) → Stands frames session s →
    IsAlike frames session s (GFmt t) (gfmt_row s t) (S.gfmt_row session t)
unfolding gfmt_row S.gfmt_row
gfmt_alike frames session s t stands =
    let m : s.model ≡ session.model = sym stands.model in
    record {
      refusals = λ j. first_refusal ((not (stands.opened j), Ebadf) ∷ no_type (m j) t ∷ []);
      lacks = refl;
      waits = refl;
      told = refl;
      done = λ pass. record {
        payload = ap (λ f. Answered (format_bytes (format_answer t f))) (sym (stands.each t).format);
        back = nothing_back s s (GFmt t) refl refl;
        stands = no_frames frames session s stands;
      };
    }

pub gfmt_served : (t : ℕ) → IsServed (GFmt t) (λ session. S.gfmt_row session t)
gfmt_served t frames session line s memory stands sound reached =
    by_row frames session line s (GFmt t) (gfmt_row s t) (S.gfmt_row session t) memory (λ reply. refl) (gfmt_alike frames session s t stands)

tryfmt_alike : (frames : List ℕ) (session : SessionState) (s : LocalState) (t : ℕ) (f : FourCc) (w h : ℕ) → Stands frames session s →
    IsAlike frames session s (TryFmt t f w h) (tryfmt_row s t f w h) (S.tryfmt_row session t f w h)
unfolding tryfmt_row S.tryfmt_row
tryfmt_alike frames session s t f w h stands =
    let m : s.model ≡ session.model = sym stands.model in
    record {
      refusals = λ j. first_refusal ((not (stands.opened j), Ebadf) ∷ no_type (m j) t ∷ []);
      lacks = refl;
      waits = refl;
      told = refl;
      done = λ pass. record {
        payload = ap (λ x. Answered (format_bytes (format_answer t x))) (adjusted_alike frames session s t f w h stands);
        back = nothing_back s s (TryFmt t f w h) refl refl;
        stands = no_frames frames session s stands;
      };
    }

pub tryfmt_served : (t : ℕ) (f : FourCc) (w h : ℕ) → IsServed (TryFmt t f w h) (λ session. S.tryfmt_row session t f w h)
tryfmt_served t f w h frames session line s memory stands sound reached =
    by_row frames session line s (TryFmt t f w h) (tryfmt_row s t f w h) (S.tryfmt_row session t f w h) memory (λ reply. refl) (tryfmt_alike frames session s t f w h stands)

sfmt_alike : (frames : List ℕ) (session : SessionState) (s : LocalState) (t : ℕ) (f : FourCc) (w h : ℕ) → Stands frames session s → IsSound session →
    IsAlike frames session s (SFmt t f w h) (sfmt_row s t f w h) (S.sfmt_row session t f w h)
unfolding sfmt_row S.sfmt_row
sfmt_alike frames session s t f w h stands sound =
    let m : s.model ≡ session.model = sym stands.model in
    let buffers : has_buffers s ≡ session_has session = sym (has_alike frames session s stands sound) in
    let same : adjusted_for s t f w h ≡ session_adjusted session t f w h = adjusted_alike frames session s t f w h stands in
    let x : SessionState = session_with_format session t (session_adjusted session t f w h) in
    record {
      refusals = λ j. first_refusal ((not (stands.opened j), Ebadf) ∷ no_type (m j) t ∷ (buffers j, Ebusy) ∷ []);
      lacks = refl;
      waits = refl;
      told = refl;
      done = λ pass. record {
        payload = ap (λ x. Answered (format_bytes (format_answer t x))) same;
        back = nothing_back s (with_set_format s t (adjusted_for s t f w h)) (SFmt t f w h) refl refl;
        stands = no_frames frames x (with_set_format s t (adjusted_for s t f w h))
            (subst (λ g. Stands frames x (with_set_format s t g)) (sym same) (set_stands frames session s t (session_adjusted session t f w h) stands sound));
      };
    }

pub sfmt_served : (t : ℕ) (f : FourCc) (w h : ℕ) → IsServed (SFmt t f w h) (λ session. S.sfmt_row session t f w h)
sfmt_served t f w h frames session line s memory stands sound reached =
    by_row frames session line s (SFmt t f w h) (sfmt_row s t f w h) (S.sfmt_row session t f w h) memory (λ reply. refl) (sfmt_alike frames session s t f w h stands sound)

enuminput_alike : (frames : List ℕ) (session : SessionState) (s : LocalState) (i : ℕ) → Stands frames session s →
    IsAlike frames session s (EnumInput i) (enuminput_row s i) (S.enuminput_row session i)
unfolding enuminput_row S.enuminput_row
enuminput_alike frames session s i stands =
    let m : s.model ≡ session.model = sym stands.model in
    record {
      refusals = λ j. first_refusal ((not (stands.opened j), Ebadf) ∷ no_inputs (m j) ∷ no_input i ∷ []);
      lacks = refl;
      waits = refl;
      told = refl;
      done = λ pass. record {
        payload = refl;
        back = nothing_back s s (EnumInput i) refl refl;
        stands = no_frames frames session s stands;
      };
    }

pub enuminput_served : (i : ℕ) → IsServed (EnumInput i) (λ session. S.enuminput_row session i)
enuminput_served i frames session line s memory stands sound reached =
    by_row frames session line s (EnumInput i) (enuminput_row s i) (S.enuminput_row session i) memory (λ reply. refl) (enuminput_alike frames session s i stands)

ginput_alike : (frames : List ℕ) (session : SessionState) (s : LocalState) → Stands frames session s → IsAlike frames session s GInput (ginput_row s) (S.ginput_row session)
unfolding ginput_row S.ginput_row
ginput_alike frames session s stands =
    let m : s.model ≡ session.model = sym stands.model in
    record {
      refusals = λ j. first_refusal ((not (stands.opened j), Ebadf) ∷ no_inputs (m j) ∷ []);
      lacks = refl;
      waits = refl;
      told = refl;
      done = λ pass. record {
        payload = ap (λ n. Answered (le n)) (sym stands.input);
        back = nothing_back s s GInput refl refl;
        stands = no_frames frames session s stands;
      };
    }

pub ginput_served : IsServed GInput S.ginput_row
ginput_served frames session line s memory stands sound reached =
    by_row frames session line s GInput (ginput_row s) (S.ginput_row session) memory (λ reply. refl) (ginput_alike frames session s stands)

sinput_alike : (frames : List ℕ) (session : SessionState) (s : LocalState) (i : ℕ) → Stands frames session s → IsSound session →
    IsAlike frames session s (SInput i) (sinput_row s i) (S.sinput_row session i)
unfolding sinput_row S.sinput_row
sinput_alike frames session s i stands sound =
    let m : s.model ≡ session.model = sym stands.model in
    let streams : is_streaming s ≡ session_streams session = sym (streams_alike frames session s stands sound) in
    record {
      refusals = λ j. first_refusal ((not (stands.opened j), Ebadf) ∷ no_inputs (m j) ∷ no_input i ∷ (streams j, Ebusy) ∷ []);
      lacks = refl;
      waits = refl;
      told = refl;
      done = λ pass. record {
        payload = refl;
        back = nothing_back s (record s { input = i }) (SInput i) refl refl;
        stands = no_frames frames (record session { input = i }) (record s { input = i }) (input_stands frames session s i stands);
      };
    }

pub sinput_served : (i : ℕ) → IsServed (SInput i) (λ session. S.sinput_row session i)
sinput_served i frames session line s memory stands sound reached =
    by_row frames session line s (SInput i) (sinput_row s i) (S.sinput_row session i) memory (λ reply. refl) (sinput_alike frames session s i stands sound)

-- ---- a buffer is told of

pub within_some : (bs : List Buffer) (i : ℕ) → nat_lt i (length bs) ≡ true → is_empty bs ≡ false
within_some [] i is = absurd (omega (arith, ltb-true i 0 is))
within_some (b ∷ bs) i is = refl

querybuf_alike : (frames : List ℕ) (session : SessionState) (s : LocalState) (t i : ℕ) → Stands frames session s →
    IsAlike frames session s (QueryBuf t i) (querybuf_row s t i) (S.querybuf_row session t i)
unfolding querybuf_row S.querybuf_row
querybuf_alike frames session s t i stands =
    let m : s.model ≡ session.model = sym stands.model in
    let on : StandsOn frames session s t = stands.each t in
    let many : length (queue_of s t).buffers ≡ length (session_queue session t).lengths = sym (many_alike frames session s t on) in
    record {
      refusals = λ j. first_refusal ((not (stands.opened j), Ebadf) ∷ no_type (m j) t ∷ (not (nat_lt i (many j)), Einval) ∷ []);
      lacks = refl;
      waits = refl;
      told = refl;
      done = λ pass.
          let inside : nat_lt i (length (queue_of s t).buffers) ≡ true = not-false _ (passes (querybuf_row s t i).refusals pass 2) in
          let kind : memory_number (queue_of s t).memory ≡ (session_queue session t).kind = sym (on.kind (within_some (queue_of s t).buffers i inside)) in
          let size : (buffer_of (queue_of s t) i).length ≡ get_or (session_queue session t).lengths i 0 = sym (length_alike frames session s t i on) in
          record {
            payload = λ j. Answered (buffer_bytes (querybuf_answer (m j) t i (kind j) (size j)));
            back = nothing_back s s (QueryBuf t i) refl refl;
            stands = no_frames frames session s stands;
          };
    }

pub querybuf_served : (t i : ℕ) → IsServed (QueryBuf t i) (λ session. S.querybuf_row session t i)
querybuf_served t i frames session line s memory stands sound reached =
    by_row frames session line s (QueryBuf t i) (querybuf_row s t i) (S.querybuf_row session t i) memory (λ reply. refl) (querybuf_alike frames session s t i stands)

-- ---- a queue starts

not_not : (b : Bool) → not (not b) ≡ b
not_not true = refl
not_not false = refl

streamon_alike : (frames : List ℕ) (session : SessionState) (s : LocalState) (t : ℕ) → Stands frames session s → IsReached s →
    IsAlike frames session s (StreamOn t) (streamon_row s t) (S.streamon_row session t)
unfolding streamon_row S.streamon_row
streamon_alike frames session s t stands reached =
    let m : s.model ≡ session.model = sym stands.model in
    let on : StandsOn frames session s t = stands.each t in
    let bare : is_empty (queue_of s t).buffers ≡ not (queue_has_buffers (session_queue session t)) =
    sym (ap not (some_alike frames session s t on) ∙ not_not (is_empty (queue_of s t).buffers)) in
    record {
      refusals = λ j. first_refusal ((not (stands.opened j), Ebadf) ∷ no_type (m j) t ∷ (bare j, Einval) ∷ []);
      lacks = refl;
      waits = refl;
      told = refl;
      done = λ pass.
          let has : has_type s.model t ≡ true = not-false _ (passes (streamon_row s t).refusals pass 1) in
          let within : place_in (types_of s.model) t < length s.queues =
          omega (arith, ltb-true (place_in (types_of s.model) t) (length (types_of s.model)) has, many_queues s reached) in
          record {
            payload = refl;
            back = nothing_back s (with_queue s t (started (queue_of s t))) (StreamOn t) refl refl;
            stands = no_frames frames (session_with_queue session t (session_started (session_queue session t))) (with_queue s t (started (queue_of s t)))
                (started_stands frames session s t stands within);
          };
    }

pub streamon_served : (t : ℕ) → IsServed (StreamOn t) (λ session. S.streamon_row session t)
streamon_served t frames session line s memory stands sound reached =
    by_row frames session line s (StreamOn t) (streamon_row s t) (S.streamon_row session t) memory (λ reply. refl) (streamon_alike frames session s t stands reached)

-- ---- events, of which the handle alone keeps what it wants

subscribed_stands : (frames : List ℕ) (session : SessionState) (s : LocalState) (b : Bool) → Stands frames session s → Stands frames session (record s { subscribed = b })
subscribed_stands frames session s b stands = seen_stands frames session s (record s { subscribed = b }) refl stands

subscribe_alike : (frames : List ℕ) (session : SessionState) (s : LocalState) (e : ℕ) → Stands frames session s →
    IsAlike frames session s (Subscribe e) (subscribe_row s e) (S.subscribe_row session e)
unfolding subscribe_row S.subscribe_row
subscribe_alike frames session s e stands =
    let m : s.model ≡ session.model = sym stands.model in
    record {
      refusals = λ j. first_refusal ((not (stands.opened j), Ebadf) ∷ (not (has_events (m j)) || not (e == 4), Einval) ∷ []);
      lacks = refl;
      waits = refl;
      told = refl;
      done = λ pass. record {
        payload = refl;
        back = nothing_back s (record s { subscribed = true }) (Subscribe e) refl refl;
        stands = no_frames frames session (record s { subscribed = true }) (subscribed_stands frames session s true stands);
      };
    }

pub subscribe_served : (e : ℕ) → IsServed (Subscribe e) (λ session. S.subscribe_row session e)
subscribe_served e frames session line s memory stands sound reached =
    by_row frames session line s (Subscribe e) (subscribe_row s e) (S.subscribe_row session e) memory (λ reply. refl) (subscribe_alike frames session s e stands)

unsubscribe_alike : (frames : List ℕ) (session : SessionState) (s : LocalState) (e : ℕ) → Stands frames session s →
    IsAlike frames session s (Unsubscribe e) (unsubscribe_row s e) (S.unsubscribe_row session e)
unfolding unsubscribe_row S.unsubscribe_row
unsubscribe_alike frames session s e stands =
    let m : s.model ≡ session.model = sym stands.model in
    record {
      refusals = λ j. first_refusal ((not (stands.opened j), Ebadf) ∷ (not (has_events (m j)) || not (e == 0 || e == 4), Einval) ∷ []);
      lacks = refl;
      waits = refl;
      told = refl;
      done = λ pass. record {
        payload = refl;
        back = nothing_back s (record s { subscribed = false }) (Unsubscribe e) refl refl;
        stands = no_frames frames session (record s { subscribed = false }) (subscribed_stands frames session s false stands);
      };
    }

pub unsubscribe_served : (e : ℕ) → IsServed (Unsubscribe e) (λ session. S.unsubscribe_row session e)
unsubscribe_served e frames session line s memory stands sound reached =
    by_row frames session line s (Unsubscribe e) (unsubscribe_row s e) (S.unsubscribe_row session e) memory (λ reply. refl) (unsubscribe_alike frames session s e stands)
