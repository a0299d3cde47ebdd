-- A call that crossed is answered: where the memories are then.
use Rattle.std.proofs.Common.{◌≡◌, inl, inr, ℕ, zero, suc, Bool, true, false, List, [], ◌∷◌, ◌++◌, take, drop, map, Option, Some, None, refl, sym, ap, ◌∙◌, subst}
use Rattle.std.proofs.lemmas.Bool.{false≢true, true≢false, cases_Bool}
use Rattle.std.proofs.lemmas.List.{append-nil}
use Rattle.std.proofs.lemmas.Option.{none-some}
use Rattle.vm_frame.specs.declared.mem.Held.{Held}
use Rattle.vm_frame.specs.declared.mem.Mem.{Mem}
use Rattle.vm_local.specs.declared.call.Call.{Call}
use Rattle.vm_local.specs.declared.call.Call.TheVariants.{OpenHandle, CloseHandle, ReqBufs, UAlloc, QBuf, StreamOff, Poke, Fill}
use Rattle.vm_local.specs.declared.reply.Reply.{Reply}
use Rattle.vm_local.specs.declared.reply.Reply.TheVariants.{Done, Refused}
use Rattle.vm_local.specs.State.{LocalState}
use Rattle.vm_local.specs.Calls.{qbuf_row, opened_anew}
use Rattle.vm_local.specs.Log.{row_for, called}
use Rattle.vm_local.proofs.KeptLemmas.{refused_call}
use Rattle.vm_home.specs.Home.{AreInPlace, kept_only}
use Rattle.vm_home.specs.Moves.{is_refusal, moves_memory, goes_along, is_stopping, ComeBack, ComeWith, put_back, stopped_count, home_with}
use Rattle.vm_home.specs.Reached.{IsReached}
use Rattle.vm_home.proofs.StillLemmas.{home_stays, leaves_call}
use Rattle.vm_home.proofs.MoveLemmas.{Went, went, opened_home}
use Rattle.vm_home.proofs.DeviceLemmas.{qbuf_home}
use Rattle.vm_home.proofs.ComeLemmas.{stop_home, none_come}
use Rattle.vm_home.proofs.KeptLemmas.{kept_home}

-- the call may cross: it neither makes user memory nor writes to a memory
abbrev pub may_cross : Call → Bool
may_cross (UAlloc u len off) = false
may_cross (Poke m off bytes) = false
may_cross (Fill m seed) = false
may_cross call = true

-- with no memories all is as it was
home_with_none : (s : LocalState) (call : Call) (home : List (Option Mem)) → home_with s call [] home ≡ home
home_with_none s call home =
    let n : ℕ = stopped_count s call in
    ap (λ hs. put_back s hs home ++ map (λ (h : Held). Some h.mem) (drop n [])) (take_none n)
    ∙ (ap (λ hs. home ++ map (λ (h : Held). Some h.mem) hs) (drop_none n) ∙ append-nil home)
  where
    take_none : (n : ℕ) → take {A = Held} n [] ≡ []
    take_none zero = refl
    take_none (suc n) = refl

    drop_none : (n : ℕ) → drop {A = Held} n [] ≡ []
    drop_none zero = refl
    drop_none (suc n) = refl

-- no memory comes with a refusal, and those else of the call come back with another reply
come_back : (s t : LocalState) (call : Call) (reply : Reply) (held : List Held) → is_refusal reply ≡ false → ComeWith s t call reply held → ComeBack s t call held
come_back s t call (Refused errno) held answers come = absurd (true≢false answers)
come_back s t call reply held answers come = come

refused_home : (s t : LocalState) (line : ℕ) (call : Call) (reply : Reply) (held : List Held) (home : List (Option Mem)) → is_refusal reply ≡ true →
    called s line call reply ≡ Some t → ComeWith s t call reply held → (t ≡ s) × (home_with s call held home ≡ home)
refused_home s t line call (Refused errno) held home is leads come =
    (refused_call s line call errno t leads, ap (λ hs. home_with s call hs home) come ∙ home_with_none s call home)
refused_home s t line call reply held home is leads come = absurd (false≢true is)

-- a call that isn't refused
answered_home : (s t : LocalState) (line : ℕ) (call : Call) (reply : Reply) (held : List Held) (home : List (Option Mem)) → IsReached s → may_cross call ≡ true →
    is_refusal reply ≡ false → called s line call reply ≡ Some t → ComeBack s t call held → AreInPlace s (goes_along s call) home →
    AreInPlace t None (kept_only t (home_with s call held home))
unfolding qbuf_row
answered_home s t line (OpenHandle nonblock) reply held home reached crosses answers leads come h =
    let w : Went (row_for s line (OpenHandle nonblock) reply) reply t = went s line (OpenHandle nonblock) reply t answers leads in
    let done : called s line (OpenHandle nonblock) Done ≡ Some t = subst (λ r. called s line (OpenHandle nonblock) r ≡ Some t) w.told leads in
    let none : kept_only (opened_anew s nonblock) (home_with s (OpenHandle nonblock) held home) ≡ [] = refl in
    let same : kept_only t (home_with s (OpenHandle nonblock) held home) ≡ [] = ap (λ x. kept_only x (home_with s (OpenHandle nonblock) held home)) w.next ∙ none in
    subst (λ hs. AreInPlace t None hs) (sym same) (opened_home s t line nonblock done)
answered_home s t line CloseHandle reply held home reached crosses answers leads come h =
    kept_home t None _ (stop_home s t line CloseHandle reply held home reached refl answers leads come h)
answered_home s t line (ReqBufs u m n) reply held home reached crosses answers leads come h =
    kept_home t None _ (stop_home s t line (ReqBufs u m n) reply held home reached refl answers leads come h)
answered_home s t line (StreamOff u) reply held home reached crosses answers leads come h =
    kept_home t None _ (stop_home s t line (StreamOff u) reply held home reached refl answers leads come h)
answered_home s t line (QBuf u i user used ts) reply held home reached crosses answers leads come h =
    let call : Call = QBuf u i user used ts in
    let w : Went (row_for s line call reply) reply t = went s line call reply t answers leads in
    let done : called s line call Done ≡ Some t = subst (λ r. called s line call r ≡ Some t) w.told leads in
    let same : home_with s call held home ≡ home = (none_come s t call held home refl come).1 in
    kept_home t None _ (subst (λ hs. AreInPlace t None hs) (sym same) (qbuf_home s t line u i user used ts home reached done h))
answered_home s t line (UAlloc u len off) reply held home reached crosses answers leads come h = absurd (false≢true crosses)
answered_home s t line (Poke m off bytes) reply held home reached crosses answers leads come h = absurd (false≢true crosses)
answered_home s t line (Fill m seed) reply held home reached crosses answers leads come h = absurd (false≢true crosses)
answered_home s t line call reply held home reached crosses answers leads come h =
    let same : home_with s call held home ≡ home = (none_come s t call held home refl come).1 in
    kept_home t None _ (subst (λ hs. AreInPlace t None hs) (sym same) (home_stays s t None home (leaves_call s t line call reply reached refl leads) h))

-- The memories that come with a reply are at home, and with them those that the handle still has. A call that took a memory
-- along isn't refused.
pub reply_home : (s t : LocalState) (line : ℕ) (call : Call) (reply : Reply) (held : List Held) (home : List (Option Mem)) → IsReached s → may_cross call ≡ true →
    ((m : ℕ) → goes_along s call ≡ Some m → is_refusal reply ≡ false) → called s line call reply ≡ Some t → ComeWith s t call reply held →
    AreInPlace s (goes_along s call) home → AreInPlace t None (kept_only t (home_with s call held home))
reply_home s t line call reply held home reached crosses along leads come h =
    elim (cases_Bool (is_refusal reply)) as (λ _. AreInPlace t None (kept_only t (home_with s call held home))) [
      | inr answers ↦ answered_home s t line call reply held home reached crosses answers leads (come_back s t call reply held answers come) h
      | inl refused ↦
          let w : (t ≡ s) × (home_with s call held home ≡ home) = refused_home s t line call reply held home refused leads come in
          let stays : AreInPlace s None home = elim (goes_along s call) as (λ o. ((m : ℕ) → o ≡ Some m → is_refusal reply ≡ false) → AreInPlace s o home → AreInPlace s None home) [
            | None ↦ λ _ k. k
            | Some m ↦ λ never k. absurd (true≢false (sym refused ∙ never m refl))
          ] along h in
          let P : LocalState → Type 0 = λ x. AreInPlace x None (kept_only x (home_with s call held home)) in
          let Q : List (Option Mem) → Type 0 = λ hs. AreInPlace s None (kept_only s hs) in
          subst P (sym w.0) (subst Q (sym w.1) (kept_home s None home stays))
    ]
