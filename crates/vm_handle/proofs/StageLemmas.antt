-- A step of the device leaves what a handle waits for: a call that is underway crosses from the state after it too.
use Rattle.std.proofs.Common.{◌≡◌, ℕ, Bool, true, false, Option, Some, None, IsSome, refl, sym, subst, if◌then◌else◌}
use Rattle.std.proofs.lemmas.Bool.{false≢true}
use Rattle.v4l_const.specs.declared.errno.Errno.{Errno}
use Rattle.v4l_rules.specs.Refusals.{first_refusal}
use Rattle.vm_local.specs.declared.call.Call.{Call}
use Rattle.vm_local.specs.declared.call.Call.TheVariants.{OpenHandle, CloseHandle, QueryCap, EnumFmt, GFmt, TryFmt, SFmt, EnumInput, GInput, SInput, ReqBufs, QueryBuf, UAlloc, QBuf, StreamOn, StreamOff, DqBuf, Mmap, Munmap, Peek, Hash, Poke, Fill, Subscribe, Unsubscribe, DqEvent}
use Rattle.vm_local.specs.declared.entry.Entry.{Entry}
use Rattle.vm_local.specs.declared.entry.Entry.TheVariants.{Called, Finish, Bad, Give}
use Rattle.vm_local.specs.State.{LocalState}
use Rattle.vm_local.specs.Calls.{row_of}
use Rattle.vm_local.specs.Log.{after}
use Rattle.vm_home.specs.Reached.{IsReached}
use Rattle.vm_home.specs.ToCome.{IsStep}
use Rattle.vm_home.proofs.StepLemmas.{steps_to}
use Rattle.vm_commute.specs.Commute.{is_step}
use Rattle.vm_commute.proofs.AnswerLemmas.{refusal_after}
use Rattle.vm_log.specs.declared.away.Away.{Away}
use Rattle.vm_log.proofs.StepLemmas.{steps_leave_along}
use Rattle.vm_exchange.specs.declared.way.Way.{Way}
use Rattle.vm_exchange.specs.declared.way.Way.TheVariants.{AnsweredHere, Waits}
use Rattle.vm_exchange.specs.Exchange.{unless_by, crossing, crossing_of, way_of}
use Rattle.vm_handle.specs.declared.stage.Stage.{Stage}
use Rattle.vm_handle.specs.declared.stage.Stage.TheVariants.{AtRest, Underway, Waiting}
use Rattle.vm_handle.specs.Handle.{IsAlong, FitsStage, is_dqbuf, FitsUnwoken}

step_is : (e : Entry) → IsStep e → is_step e ≡ true
step_is (Called line call reply) step = absurd step
step_is Finish step = refl
step_is Bad step = refl
step_is Give step = refl

-- ---- a call that crosses

open_still : (a b : Bool) (w v : Way) → b ≡ a → IsSome (crossing (if a then w else AnsweredHere)) → IsSome (crossing v) → IsSome (crossing (if b then v else AnsweredHere))
open_still true b w v same crosses goes = rw same goes
open_still false b w v same crosses goes = absurd (false≢true crosses)

unrefused_still : (o p : Option Errno) (w v : Way) → p ≡ o → IsSome (crossing (unless_by o w)) → IsSome (crossing v) → IsSome (crossing (unless_by p v))
unrefused_still None p w v same crosses goes = rw same goes
unrefused_still (Some e) p w v same crosses goes = absurd (false≢true crosses)

-- a dqbuf never does
pub dqbuf_stays : (o : Option Errno) (waits : Bool) → IsSome (crossing (unless_by o (if waits then Waits else AnsweredHere))) → ⊥
dqbuf_stays None true crosses = false≢true crosses
dqbuf_stays None false crosses = false≢true crosses
dqbuf_stays (Some e) waits crosses = false≢true crosses

-- ---- a call that waits

open_no_wait : (a : Bool) (c : Way) → (if a then c else AnsweredHere) ≡ Waits → c ≡ Waits
open_no_wait true c waits = waits
open_no_wait false c waits = cc

unrefused_no_wait : (o : Option Errno) (c : Way) → unless_by o c ≡ Waits → c ≡ Waits
unrefused_no_wait None c waits = waits
unrefused_no_wait (Some e) c waits = cc

-- only a dqbuf waits
pub waits_only : (id : ℕ) (s : LocalState) (call : Call) → way_of id s call ≡ Waits → is_dqbuf call ≡ true
waits_only id s (DqBuf t) waits = refl
waits_only id s (OpenHandle nonblock) waits = cc
waits_only id s (UAlloc u len off) waits = cc
waits_only id s (QBuf t i user used ts) waits = let w : _ = unrefused_no_wait (first_refusal (row_of s 0 0 (QBuf t i user used ts)).refusals) _ waits in cc
waits_only id s (Mmap m t i ro) waits = let w : _ = unrefused_no_wait (first_refusal (row_of s 0 0 (Mmap m t i ro)).refusals) _ waits in cc
waits_only id s (Munmap m) waits = let w : _ = unrefused_no_wait (first_refusal (row_of s 0 0 (Munmap m)).refusals) _ waits in cc
waits_only id s (Peek m off len) waits = cc
waits_only id s (Hash m) waits = cc
waits_only id s (Poke m off bytes) waits = cc
waits_only id s (Fill m seed) waits = cc
waits_only id s DqEvent waits = cc
waits_only id s CloseHandle waits = let w : _ = open_no_wait s.opened _ waits in cc
waits_only id s QueryCap waits = let w : _ = open_no_wait s.opened _ waits in cc
waits_only id s (EnumFmt t i) waits = let w : _ = open_no_wait s.opened _ waits in cc
waits_only id s (GFmt t) waits = let w : _ = open_no_wait s.opened _ waits in cc
waits_only id s (TryFmt t f w h) waits = let x : _ = open_no_wait s.opened _ waits in cc
waits_only id s (SFmt t f w h) waits = let x : _ = open_no_wait s.opened _ waits in cc
waits_only id s (EnumInput i) waits = let w : _ = open_no_wait s.opened _ waits in cc
waits_only id s GInput waits = let w : _ = open_no_wait s.opened _ waits in cc
waits_only id s (SInput i) waits = let w : _ = open_no_wait s.opened _ waits in cc
waits_only id s (ReqBufs t m n) waits = let w : _ = open_no_wait s.opened _ waits in cc
waits_only id s (QueryBuf t i) waits = let w : _ = open_no_wait s.opened _ waits in cc
waits_only id s (StreamOn t) waits = let w : _ = open_no_wait s.opened _ waits in cc
waits_only id s (StreamOff t) waits = let w : _ = open_no_wait s.opened _ waits in cc
waits_only id s (Subscribe x) waits = let w : _ = open_no_wait s.opened _ waits in cc
waits_only id s (Unsubscribe x) waits = let w : _ = open_no_wait s.opened _ waits in cc

-- a stage that fits, fits so
pub unwoken : (id : ℕ) (s : LocalState) (away : Away) (unanswered : Bool) (stage : Stage) → FitsStage id s away unanswered stage → FitsUnwoken id s away unanswered stage
unwoken id s away unanswered AtRest fits = fits
unwoken id s away unanswered (Underway line call) fits = fits
unwoken id s away unanswered (Waiting line call) fits = (fits.0, fits.1, waits_only id s call fits.2)

-- ---- steps of the device

module _ (id : ℕ) (s t : LocalState) (e : Entry) (is : IsReached s) (step : IsStep e) (goes : after s e ≡ Some t) where
  opened : t.opened ≡ s.opened
  opened = (steps_to s t e is step goes).opened

  pub crossing_still : (call : Call) → IsSome (crossing_of id s call) → IsSome (crossing_of id t call)
  crossing_still (OpenHandle nonblock) crosses = refl
  crossing_still CloseHandle crosses = open_still s.opened t.opened _ _ opened crosses refl
  crossing_still QueryCap crosses = open_still s.opened t.opened _ _ opened crosses refl
  crossing_still (EnumFmt u i) crosses = open_still s.opened t.opened _ _ opened crosses refl
  crossing_still (GFmt u) crosses = open_still s.opened t.opened _ _ opened crosses refl
  crossing_still (TryFmt u f w h) crosses = open_still s.opened t.opened _ _ opened crosses refl
  crossing_still (SFmt u f w h) crosses = open_still s.opened t.opened _ _ opened crosses refl
  crossing_still (EnumInput i) crosses = open_still s.opened t.opened _ _ opened crosses refl
  crossing_still GInput crosses = open_still s.opened t.opened _ _ opened crosses refl
  crossing_still (SInput i) crosses = open_still s.opened t.opened _ _ opened crosses refl
  crossing_still (ReqBufs u m n) crosses = open_still s.opened t.opened _ _ opened crosses refl
  crossing_still (QueryBuf u i) crosses = open_still s.opened t.opened _ _ opened crosses refl
  crossing_still (UAlloc u len off) crosses = absurd (false≢true crosses)
  crossing_still (QBuf u i user used ts) crosses =
      unrefused_still (first_refusal (row_of s 0 0 (QBuf u i user used ts)).refusals) (first_refusal (row_of t 0 0 (QBuf u i user used ts)).refusals) _ _
      (refusal_after s t e 0 0 (QBuf u i user used ts) refl (step_is e step) is goes) crosses refl
  crossing_still (StreamOn u) crosses = open_still s.opened t.opened _ _ opened crosses refl
  crossing_still (StreamOff u) crosses = open_still s.opened t.opened _ _ opened crosses refl
  crossing_still (DqBuf u) crosses = absurd (dqbuf_stays (first_refusal (row_of s 0 0 (DqBuf u)).refusals) (row_of s 0 0 (DqBuf u)).waits crosses)
  crossing_still (Mmap m u i ro) crosses =
      unrefused_still (first_refusal (row_of s 0 0 (Mmap m u i ro)).refusals) (first_refusal (row_of t 0 0 (Mmap m u i ro)).refusals) _ _
      (refusal_after s t e 0 0 (Mmap m u i ro) refl (step_is e step) is goes) crosses refl
  crossing_still (Munmap m) crosses =
      unrefused_still (first_refusal (row_of s 0 0 (Munmap m)).refusals) (first_refusal (row_of t 0 0 (Munmap m)).refusals) _ _
      (refusal_after s t e 0 0 (Munmap m) refl (step_is e step) is goes) crosses refl
  crossing_still (Peek m off len) crosses = absurd (false≢true crosses)
  crossing_still (Hash m) crosses = absurd (false≢true crosses)
  crossing_still (Poke m off bytes) crosses = absurd (false≢true crosses)
  crossing_still (Fill m seed) crosses = absurd (false≢true crosses)
  crossing_still (Subscribe x) crosses = open_still s.opened t.opened _ _ opened crosses refl
  crossing_still (Unsubscribe x) crosses = open_still s.opened t.opened _ _ opened crosses refl
  crossing_still DqEvent crosses = absurd (false≢true crosses)

  -- ---- the stage

  pub stage_still : (away : Away) (unanswered : Bool) (stage : Stage) → FitsUnwoken id s away unanswered stage → FitsUnwoken id t away unanswered stage
  stage_still away unanswered AtRest fits = fits
  stage_still away unanswered (Underway line call) fits =
      (fits.0, crossing_still call fits.1, subst (λ o. IsAlong o away) (sym (steps_leave_along s t e call is step goes)) fits.2)
  stage_still away unanswered (Waiting line call) fits = fits
