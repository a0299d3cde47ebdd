-- What a row of the session comes to, where it is like the handle's.
use Rattle.std.proofs.Common.{◌≡◌, ℕ, ◌&&◌, Bool, true, false, not, List, [], ◌++◌, All, Option, Some, None, refl, sym, ap, ◌∙◌, subst, if◌then◌else◌}
use Rattle.std.proofs.lemmas.Bool.{true≢false}
use Rattle.std.proofs.lemmas.List.{append-nil}
use Rattle.std.proofs.lemmas.List.Elements.{All-nil}
use Rattle.v4l_const.specs.declared.errno.Errno.{Errno}
use Rattle.v4l_const.specs.declared.errno.Errno.TheVariants.{Enomem}
use Rattle.v4l_rules.specs.Refusals.{first_refusal}
use Rattle.vm_wire.specs.declared.response.Response.TheVariants.{Answered}
use Rattle.vm_local.specs.declared.call.Call.{Call}
use Rattle.vm_local.specs.declared.reply.Reply.{Reply}
use Rattle.vm_local.specs.declared.reply.Reply.TheVariants.{Refused}
use Rattle.vm_local.specs.State.{LocalState}
use Rattle.vm_local.specs.Same.{same_reply}
use Rattle.vm_local.specs.Calls.{Row}
use Rattle.vm_local.specs.Record.{is_refusal}
use Rattle.vm_local.specs.Log.{answered, row_for, called, IsCall}
use Rattle.vm_local.proofs.SameLemmas.{same_reply_decides}
use Rattle.vm_home.specs.Moves.{stops, made_by, queued_on, AreMemories, ComeBack}
use Rattle.vm_local.specs.Queue.{is_owed}
use Rattle.std.specs.List.{flat_map}
use Rattle.vm_exchange.specs.Exchange.{response_to}
use Rattle.vm_session.specs.State.{SessionState}
use Rattle.vm_session.specs.Rows.{IoctlRow, IoctlAnswer, refused_or, or_no_memory, outcome_of}
use Rattle.vm_stands.specs.Stands.{Stands}
use Rattle.vm_stands.specs.Laws.{frames_by, AnswersAs}

same_self : (r : Reply) → same_reply r r ≡ true
same_self r = (same_reply_decides r r).1 refl

other_reply : (e : Errno) (reply : Reply) → is_refusal reply ≡ false → same_reply (Refused e) reply ≡ false
other_reply e (Refused d) never = absurd (true≢false never)
other_reply e reply never = refl

-- what the table makes legal
refused_by : (o : Option Errno) (row : Row) (s : LocalState) (e : Errno) → o ≡ Some e → answered o row s (Refused e) ≡ Some s
refused_by o row s e some = rw (some, same_self (Refused e)) refl

lacking : (o : Option Errno) (row : Row) (s : LocalState) → o ≡ None → row.may_lack_memory ≡ true → answered o row s (Refused Enomem) ≡ Some s
lacking o row s none may = rw (none, may) refl

pub done : (o : Option Errno) (row : Row) (s : LocalState) → o ≡ None → row.waits ≡ false → is_refusal row.reply ≡ false → answered o row s row.reply ≡ Some row.next
done o row s none waits told =
    ap (λ p. answered p row s row.reply) none
    ∙ (ap (λ b. if row.may_lack_memory && b then Some s else (if not row.waits && same_reply row.reply row.reply then Some row.next else None)) (other_reply Enomem row.reply told)
    ∙ (never row.may_lack_memory ∙ (ap (λ b. if not b && same_reply row.reply row.reply then Some row.next else None) waits
    ∙ ap (λ b. if b then Some row.next else None) (same_self row.reply))))
  where
    never : (b : Bool) → (if b && false then Some s else (if not row.waits && same_reply row.reply row.reply then Some row.next else None))
        ≡ (if not row.waits && same_reply row.reply row.reply then Some row.next else None)
    never true = refl
    never false = refl

-- what a call that isn't refused comes to
pub record IsDoneAlike (frames : List ℕ) (session : SessionState) (s : LocalState) (call : Call) (row : Row) (served : IoctlRow) : Type 0 where
  pub payload : response_to session.id s call row.reply ≡ Answered served.payload
  pub back : ComeBack s row.next call served.back
  pub stands : Stands (frames ++ frames_by s call) served.next row.next

-- a row of the session is like the handle's
pub record IsAlike (frames : List ℕ) (session : SessionState) (s : LocalState) (call : Call) (row : Row) (served : IoctlRow) : Type 0 where
  pub refusals : first_refusal row.refusals ≡ first_refusal served.refusals
  pub lacks : row.may_lack_memory ≡ served.may_lack_memory
  pub waits : row.waits ≡ false
  pub told : is_refusal row.reply ≡ false
  pub done : first_refusal row.refusals ≡ None → IsDoneAlike frames session s call row served

pub by_row : (frames : List ℕ) (session : SessionState) (line : ℕ) (s : LocalState) (call : Call) (row : Row) (served : IoctlRow) (memory : Bool) →
    ((reply : Reply) → row_for s line call reply ≡ row) → IsAlike frames session s call row served → AnswersAs frames session line s call (outcome_of memory served)
unfolding called
by_row frames session line s call row served memory is alike = known (first_refusal served.refusals) refl (served.may_lack_memory && not memory) refl
  where
    answer : IoctlAnswer
    answer = record { payload = served.payload; back = served.back; next = served.next }

    call_is : (reply : Reply) (t : LocalState) → answered (first_refusal row.refusals) row s reply ≡ Some t → IsCall s line call reply t
    call_is reply t leads = ap (λ r. answered (first_refusal r.refusals) r s reply) (is reply) ∙ leads

    known : (o : Option Errno) → first_refusal served.refusals ≡ o → (b : Bool) → (served.may_lack_memory && not memory) ≡ b →
        AnswersAs frames session line s call (refused_or (or_no_memory o b) answer)
    known (Some e) some b lacks = call_is (Refused e) s (refused_by (first_refusal row.refusals) row s e (alike.refusals ∙ some))
    known None none true lacks =
        call_is (Refused Enomem) s (lacking (first_refusal row.refusals) row s (alike.refusals ∙ none) (alike.lacks ∙ first served.may_lack_memory (not memory) lacks))
      where
        first : (a b : Bool) → (a && b) ≡ true → a ≡ true
        first true b both = refl
        first false b both = both
    known None none false lacks =
        let pass : first_refusal row.refusals ≡ None = alike.refusals ∙ none in
        let d : IsDoneAlike frames session s call row served = alike.done pass in
        (row.reply, row.next, call_is row.reply row.next (done (first_refusal row.refusals) row s pass alike.waits alike.told), d.payload, d.back, d.stands)

-- where the refusals are alike, a call is refused alike
pub by_refusals : (line : ℕ) (s : LocalState) (call : Call) (row : Row) (served : IoctlRow) (e : Errno) → ((reply : Reply) → row_for s line call reply ≡ row) →
    first_refusal row.refusals ≡ first_refusal served.refusals → first_refusal served.refusals ≡ Some e → IsCall s line call (Refused e) s
unfolding called
by_refusals line s call row served e is alike some =
    ap (λ r. answered (first_refusal r.refusals) r s (Refused e)) (is (Refused e)) ∙ refused_by (first_refusal row.refusals) row s e (alike ∙ some)

-- ---- calls that stop nothing

pub nothing_back : (s t : LocalState) (call : Call) → stops s call ≡ [] → made_by t call ≡ [] → ComeBack s t call []
nothing_back s t call none made = record {
  settled = subst (λ ts. All (λ u. is_owed s u ≡ false) ts) (sym none) (All-nil (λ u. is_owed s u ≡ false));
  back = [];
  fresh = [];
  ordered = refl;
  queued = subst (λ ts. AreMemories s (flat_map (queued_on s) ts) []) (sym none) tt;
  made = subst (λ ps. AreMemories t ps []) (sym made) tt;
}

pub no_frames : (frames : List ℕ) (x : SessionState) (t : LocalState) → Stands frames x t → Stands (frames ++ []) x t
no_frames frames x t stands = subst (λ fs. Stands fs x t) (sym (append-nil frames)) stands
