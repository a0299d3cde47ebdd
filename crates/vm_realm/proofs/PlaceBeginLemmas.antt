-- A line that is begun, and queues no buffer and makes no memory, leaves all memories at their places.
use Rattle.std.proofs.Common.{◌≡◌, ◌⊎◌, inl, inr, ℕ, true, false, List, [], ◌∷◌, ◌++◌, Option, Some, None, is_some, get_or, set, refl, sym, ap, ◌∙◌, subst}
use Rattle.std.proofs.lemmas.Bool.{false≢true, true≢false, cond-true}
use Rattle.std.proofs.lemmas.List.{append-nil}
use Rattle.v4l_const.specs.declared.errno.Errno.{Errno}
use Rattle.v4l_const.specs.declared.errno.Errno.TheVariants.{Enomem}
use Rattle.v4l_rules.specs.Refusals.{first_refusal}
use Rattle.vm_frame.specs.declared.mem.Held.{Held}
use Rattle.vm_frame.specs.declared.mem.Mem.{Mem}
use Rattle.vm_local.specs.declared.call.Call.{Call}
use Rattle.vm_local.specs.declared.call.Call.TheVariants.{QBuf, UAlloc, DqBuf, DqEvent}
use Rattle.vm_local.specs.declared.entry.Entry.TheVariants.{Called}
use Rattle.vm_local.specs.declared.reply.Reply.{Reply}
use Rattle.vm_local.specs.declared.reply.Reply.TheVariants.{Refused}
use Rattle.vm_local.specs.State.{LocalState}
use Rattle.vm_local.specs.Log.{called, IsLegal}
use Rattle.vm_home.specs.Home.{is_kept, home_of, kept_only}
use Rattle.vm_home.specs.Moves.{goes_along}
use Rattle.vm_home.specs.Reached.{IsReached}
use Rattle.vm_home.proofs.DeviceLemmas.{kept_made}
use Rattle.vm_home.proofs.FactLemmas.{facts_of}
use Rattle.vm_home.proofs.KeptLemmas.{kept_at}
use Rattle.vm_log.specs.LegalLog.{LogState, state_of}
use Rattle.vm_log.specs.Answers.{with_line, answered_with, Sends}
use Rattle.vm_log.specs.declared.away.Away.TheVariants.{Nothing}
use Rattle.vm_exchange.specs.declared.way.Way.{Way}
use Rattle.vm_exchange.specs.declared.way.Way.TheVariants.{Crosses, AnsweredHere, Waits, TouchesMemory}
use Rattle.vm_handle.specs.Answers.{row_from, answered_by, AnswersHere}
use Rattle.vm_handle.specs.Handle.{HandleState, way_from, id_of}
use Rattle.vm_handle.proofs.HereLemmas.{is_here, here_kinds}
use Rattle.vm_script.specs.declared.line.LineKind.{LineKind}
use Rattle.vm_script.specs.declared.line.LineKind.TheVariants.{OnHandle, Raw}
use Rattle.vm_guest.specs.Guest.{process_at, no_process}
use Rattle.vm_guest.specs.Lines.{Begins, BeginsCall}
use Rattle.vm_guest.specs.Message.{Sending}
use Rattle.vm_guest.specs.Process.{ProcessState, handle_at, with_handle}
use Rattle.vm_stands.proofs.AheadLemmas.{one_after}
use Rattle.vm_realm.specs.World.{WorldState}
use Rattle.vm_realm.specs.Laws.{moves_begun}
use Rattle.vm_realm.proofs.AfterLemmas.{IsIssued}
use Rattle.vm_realm.proofs.KeepTakeLemmas.{dqbuf_alike}
use Rattle.vm_realm.proofs.KeepIssueLemmas.{dqevent_alike}
use Rattle.vm_realm.proofs.PlaceDropLemmas.{set_either, handle_either}
use Rattle.vm_realm.proofs.PlaceLogLemmas.{adds_leads, refused_same}
use Rattle.vm_realm.proofs.PlaceSameLemmas.{SameMemories, states_same}

-- ---- logs

-- what is at home of the memories that the handle has stays, and no memory is sent
pub record LogStill (l l' : LogState) : Type 0 where
  pub home : (m : ℕ) → is_kept (state_of l') m ≡ true → is_some (home_of l'.home m) ≡ is_some (home_of l.home m)
  pub memories : SameMemories (state_of l) (state_of l')
  pub away : l.away ≡ Nothing → l'.away ≡ Nothing

-- where both are legal
abbrev pub Still : LogState → LogState → Type 0
Still l l' = IsLegal l.model l.entries → IsLegal l'.model l'.entries → IsReached (state_of l') → LogStill l l'

still_same : (l : LogState) → Still l l
still_same l legal legal' reached = record { home = λ m kept. refl; memories = λ u i. refl; away = λ none. none }

still_line : (l : LogState) → Still l (with_line l)
still_line l legal legal' reached = record { home = λ m kept. refl; memories = λ u i. refl; away = λ none. none }

kept_home : (s : LocalState) (home : List (Option Mem)) (m : ℕ) → IsReached s → is_kept s m ≡ true → is_some (home_of (kept_only s home) m) ≡ is_some (home_of home m)
kept_home s home m reached kept =
    ap is_some (kept_at s home m (kept_made s (facts_of s reached).sound m kept)) ∙ ap is_some (cond-true (is_kept s m) (home_of home m) None kept)

-- a call that is answered here, and leaves the buffers' memories
still_answered : (l : LogState) (line : ℕ) (call : Call) (reply : Reply) (home : List (Option Mem)) → home ≡ l.home → ((u : LocalState) → called (state_of l) line call reply ≡ Some u → SameMemories (state_of l) u) →
    Still l (answered_with (with_line l) line call reply home)
still_answered l line call reply home same memories legal legal' reached =
    let l' : LogState = answered_with (with_line l) line call reply home in
    record {
      home = λ m kept. kept_home (state_of l') home m reached kept ∙ ap (λ hs. is_some (home_of hs m)) same;
      memories = memories (state_of l') (one_after (state_of l) (state_of l') (Called line call reply) (adds_leads l l' (Called line call reply ∷ []) legal legal' refl refl));
      away = λ none. refl;
    }

refused_memories : (l : LogState) (line : ℕ) (call : Call) (errno : Errno) (u : LocalState) → called (state_of l) line call (Refused errno) ≡ Some u → SameMemories (state_of l) u
refused_memories l line call errno u leads = states_same (state_of l) u (refused_same (state_of l) u line call (Refused errno) refl leads)

still_row : (o : Option Errno) (l : LogState) (h line : ℕ) (call : Call) → moves_begun (OnHandle h call) ≡ false → (o ≡ None → is_here call ≡ true) → Still l (answered_by o (with_line l) line call)
still_row (Some errno) l h line call moves here = still_answered l line call (Refused errno) l.home refl (refused_memories l line call errno)
still_row None l h line (UAlloc name len off) moves here = absurd (true≢false moves)
still_row None l h line (DqBuf t) moves here = still_answered l line (DqBuf t) (row_from (with_line l) line (DqBuf t)).reply (l.home ++ []) (append-nil l.home) (λ u leads. (dqbuf_alike (state_of l) u line t _ leads).memory)
still_row None l h line DqEvent moves here = still_answered l line DqEvent (row_from (with_line l) line DqEvent).reply (l.home ++ []) (append-nil l.home) (λ u leads. (dqevent_alike (state_of l) u line _ leads).memory)
still_row None l h line call moves here = absurd (false≢true (here refl))

still_here : (k : HandleState) (h line : ℕ) (call : Call) (log : LogState) → way_from k call ≡ AnsweredHere → moves_begun (OnHandle h call) ≡ false → AnswersHere (with_line k.log) line call log → Still k.log log
still_here k h line call log way moves (inl is) =
    subst (Still k.log) (sym is) (still_row (first_refusal (row_from (with_line k.log) line call).refusals) k.log h line call moves (λ passes. here_kinds (id_of k.session) (state_of k.log) line call way passes))
still_here k h line call log way moves (inr lacks) =
    subst (Still k.log) (sym lacks.new_is) (still_answered k.log line call (Refused Enomem) k.log.home refl (refused_memories k.log line call Enomem))

-- no memory goes along with it
still_sent : (s : LocalState) (l : LogState) (h : ℕ) (call : Call) (along : Option Held) (log : LogState) → moves_begun (OnHandle h call) ≡ false → Sends (goes_along s call) (with_line l) call along log → Still l log
still_sent s l h (QBuf t i user used ts) along log moves sends = absurd (true≢false moves)
still_sent s l h call along log moves (none, same) = subst (Still l) (sym same) (still_line l)

-- ---- handles

still_put : (p : ProcessState) (h k : ℕ) (x : HandleState) → Still (handle_at p h).log x.log → Still (handle_at p k).log (handle_at (with_handle p h x) k).log
still_put p h k x still = elim (handle_either p h k x) as (λ _. Still (handle_at p k).log (handle_at (with_handle p h x) k).log) [
  | inl here ↦ subst (λ (y : HandleState). Still (handle_at p k).log y.log) (sym here.1) (subst (λ i. Still (handle_at p i).log x.log) (sym here.0) still)
  | inr other ↦ subst (λ (y : HandleState). Still (handle_at p k).log y.log) (sym other) (still_same (handle_at p k).log)
]

still_call : (way : Way) (line h k : ℕ) (call : Call) (p p' : ProcessState) (sends : Option Sending) → way_from (handle_at p h) call ≡ way → moves_begun (OnHandle h call) ≡ false → BeginsCall way line h call p p' sends →
    Still (handle_at p k).log (handle_at p' k).log
still_call (Crosses c) line h k call p p' sends way moves (along, handle, goes, after, sent) =
    subst (λ (q : ProcessState). Still (handle_at p k).log (handle_at q k).log) (sym after)
    (still_put p h k handle (subst (λ (y : HandleState). Still (handle_at p h).log y.log) (sym goes.after) (still_sent (state_of (handle_at p h).log) (handle_at p h).log h call along goes.log moves goes.sends)))
still_call AnsweredHere line h k call p p' sends way moves (handle, itself, after, sent) =
    subst (λ (q : ProcessState). Still (handle_at p k).log (handle_at q k).log) (sym after)
    (still_put p h k handle (subst (λ (y : HandleState). Still (handle_at p h).log y.log) (sym itself.after) (still_here (handle_at p h) h line call itself.log way moves itself.answers)))
still_call Waits line h k call p p' sends way moves (after, sent) =
    subst (λ (q : ProcessState). Still (handle_at p k).log (handle_at q k).log) (sym after) (still_put p h k _ (still_line (handle_at p h).log))
still_call TouchesMemory line h k call p p' sends way moves begins = absurd begins

pub issued_still : (w u : WorldState) (n : ℕ) (i : IsIssued w n u) (j k : ℕ) → moves_begun i.statement.what ≡ false → Still (handle_at (process_at w.guest j) k).log (handle_at (process_at u.guest j) k).log
issued_still w u n i j k moves = subst (λ (y : WorldState). Still (handle_at (process_at w.guest j) k).log (handle_at (process_at y.guest j) k).log) (sym i.after) (by_process (set_either w.guest.processes n j i.process no_process))
  where
    p : ProcessState
    p = process_at w.guest n

    by_what : (what : LineKind) → i.statement.what ≡ what → Still (handle_at p k).log (handle_at i.process k).log
    by_what (OnHandle h call) is =
        still_call (way_from (handle_at p h) call) i.statement.line h k call p i.process i.sends refl (sym (ap moves_begun is) ∙ moves)
        (subst (λ x. Begins i.statement.line x p i.process i.sends) is i.begins)
    by_what (Raw chain) is =
        let after : _ = (subst (λ x. Begins i.statement.line x p i.process i.sends) is i.begins).0 in
        subst (λ (q : ProcessState). Still (handle_at p k).log (handle_at q k).log) (sym after) (still_same (handle_at p k).log)

    by_process : ((j ≡ n) × (get_or (set w.guest.processes n i.process) j no_process ≡ i.process)) ⊎ (get_or (set w.guest.processes n i.process) j no_process ≡ get_or w.guest.processes j no_process) →
        Still (handle_at (process_at w.guest j) k).log (handle_at (get_or (set w.guest.processes n i.process) j no_process) k).log
    by_process (inl here) =
        subst (λ (q : ProcessState). Still (handle_at (process_at w.guest j) k).log (handle_at q k).log) (sym here.1)
        (subst (λ a. Still (handle_at (process_at w.guest a) k).log (handle_at i.process k).log) (sym here.0) (by_what i.statement.what refl))
    by_process (inr other) =
        subst (λ (q : ProcessState). Still (handle_at (process_at w.guest j) k).log (handle_at q k).log) (sym other) (still_same (handle_at (process_at w.guest j) k).log)
