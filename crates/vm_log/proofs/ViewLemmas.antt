-- A log as it is seen, with one more entry or a memory that goes out.
use Rattle.std.proofs.Common.{◌≡◌, inl, inr, ℕ, ◌<◌, ◌++◌, Bool, true, false, List, [], ◌∷◌, length, get_or, set, Option, None, IsSome, refl, sym, ap, ◌∙◌, subst, arith, if◌then◌else◌, get_or-set_same, get_or-set_other, length-set}
use Rattle.std.proofs.lemmas.Bool.{cases_eq, cases_lt}
use Rattle.std.proofs.lemmas.List.{ext_get_or, get_or_past}
use Rattle.v4l_const.specs.declared.model.Model.{Model}
use Rattle.vm_frame.specs.declared.mem.Mem.{Mem}
use Rattle.vm_local.specs.declared.call.Call.{Call}
use Rattle.vm_local.specs.declared.entry.Entry.{Entry}
use Rattle.vm_local.specs.declared.entry.Entry.TheVariants.{Called}
use Rattle.vm_local.specs.declared.reply.Reply.{Reply}
use Rattle.vm_local.specs.State.{LocalState}
use Rattle.vm_local.specs.Log.{after, IsLegal}
use Rattle.vm_home.specs.Home.{home_of, is_kept, kept_only}
use Rattle.vm_home.proofs.FactLemmas.{reached_of}
use Rattle.vm_home.proofs.KeptLemmas.{AreAlike, alike_set, alike_append, kept_long, kept_at, kept_alike}
use Rattle.vm_log.specs.LegalLog.{LogState, state_after, with_entry}
use Rattle.vm_log.specs.Answers.{answered_with}
use Rattle.vm_log.specs.declared.away.Away.{Away}
use Rattle.vm_log.specs.declared.away.Away.TheVariants.{Nothing}
use Rattle.vm_log.proofs.LogLemmas.{leads}
use Rattle.vm_log.proofs.SettleLemmas.{old_alike}

-- ---- one more entry

pub logged_view : (h g : LogState) (items : List Entry) (e : Entry) (raw : List (Option Mem)) (f : LogState → List (Option Mem)) → h ≡ g → items ≡ h.entries ++ e ∷ [] →
    kept_only (state_after h.model (h.entries ++ e ∷ [])) raw ≡ kept_only (state_after h.model (h.entries ++ e ∷ [])) (f h) →
    record h { entries = items; home = kept_only (state_after h.model items) raw } ≡ with_entry g e (f g)
logged_view h g items e raw f seen same kept =
    let P : List Entry → Type 0 = λ es. record h { entries = es; home = kept_only (state_after h.model es) raw } ≡ with_entry h e (f h) in
    let new : record h { entries = items; home = kept_only (state_after h.model items) raw } ≡ with_entry h e (f h) =
    subst P (sym same) (ap (λ hs. record h { entries = h.entries ++ e ∷ []; home = hs }) kept) in
    new ∙ ap (λ (x : LogState). with_entry x e (f x)) seen

pub answered_view : (h g : LogState) (items : List Entry) (line : ℕ) (call : Call) (reply : Reply) (raw : List (Option Mem)) (away : Away) (f : LogState → List (Option Mem)) → h ≡ g →
    items ≡ h.entries ++ Called line call reply ∷ [] → away ≡ Nothing →
    kept_only (state_after h.model (h.entries ++ Called line call reply ∷ [])) raw ≡ kept_only (state_after h.model (h.entries ++ Called line call reply ∷ [])) (f h) →
    record h { entries = items; home = kept_only (state_after h.model items) raw; away = away; unanswered = false } ≡ answered_with g line call reply (f g)
answered_view h g items line call reply raw away f seen same none kept =
    ap (λ (a : Away). record h { entries = items; home = kept_only (state_after h.model items) raw; away = a; unanswered = false }) none
    ∙ ap (λ (x : LogState). record x { away = Nothing; unanswered = false }) (logged_view h g items (Called line call reply) raw f seen same kept)

-- ---- of the memories that the handle has

-- none was made before that it had not
old_kept : (m : Model) (log : List Entry) (e : Entry) (raw : List (Option Mem)) → IsLegal m log → IsSome (after (state_after m log) e) → length raw ≡ length (state_after m log).memories →
    AreAlike (λ k. is_kept (state_after m (log ++ e ∷ [])) k ≡ true) (kept_only (state_after m log) raw) raw
old_kept m log e raw legal goes long = old_alike (state_after m log) (state_after m (log ++ e ∷ [])) e raw (reached_of m log legal) (leads m log e legal goes) long

pub same_kept : (m : Model) (log : List Entry) (e : Entry) (raw : List (Option Mem)) → IsLegal m log → IsSome (after (state_after m log) e) → length raw ≡ length (state_after m log).memories →
    kept_only (state_after m (log ++ e ∷ [])) raw ≡ kept_only (state_after m (log ++ e ∷ [])) (kept_only (state_after m log) raw)
same_kept m log e raw legal goes long =
    sym (kept_alike (state_after m (log ++ e ∷ [])) (kept_only (state_after m log) raw) raw (old_kept m log e raw legal goes long).1)

pub added_kept : (m : Model) (log : List Entry) (e : Entry) (raw more : List (Option Mem)) → IsLegal m log → IsSome (after (state_after m log) e) → length raw ≡ length (state_after m log).memories →
    kept_only (state_after m (log ++ e ∷ [])) (raw ++ more) ≡ kept_only (state_after m (log ++ e ∷ [])) (kept_only (state_after m log) raw ++ more)
added_kept m log e raw more legal goes long =
    let t : LocalState = state_after m (log ++ e ∷ []) in
    let both : AreAlike (λ k. is_kept t k ≡ true) (kept_only (state_after m log) raw ++ more) (raw ++ more) = alike_append (λ k. is_kept t k ≡ true) _ _ more (old_kept m log e raw legal goes long) in
    sym (kept_alike t (kept_only (state_after m log) raw ++ more) (raw ++ more) both.1)

pub put_kept : (m : Model) (log : List Entry) (e : Entry) (raw : List (Option Mem)) (n : ℕ) (mem : Option Mem) → IsLegal m log → IsSome (after (state_after m log) e) →
    length raw ≡ length (state_after m log).memories →
    kept_only (state_after m (log ++ e ∷ [])) (set raw n mem) ≡ kept_only (state_after m (log ++ e ∷ [])) (set (kept_only (state_after m log) raw) n mem)
put_kept m log e raw n mem legal goes long =
    let t : LocalState = state_after m (log ++ e ∷ []) in
    let both : AreAlike (λ k. is_kept t k ≡ true) (set (kept_only (state_after m log) raw) n mem) (set raw n mem) = alike_set (λ k. is_kept t k ≡ true) _ _ n mem (old_kept m log e raw legal goes long) in
    sym (kept_alike t (set (kept_only (state_after m log) raw) n mem) (set raw n mem) both.1)

-- ---- a memory that goes out

pub out_kept : (s : LocalState) (raw : List (Option Mem)) (n : ℕ) → kept_only s (set raw n None) ≡ set (kept_only s raw) n None
out_kept s raw n =
    ext_get_or None (kept_only s (set raw n None)) (set (kept_only s raw) n None) (kept_long s (set raw n None) ∙ (sym (kept_long s raw) ∙ sym (length-set (kept_only s raw) n None)))
    (λ k within.
    let inside : k < length s.memories = omega (arith, within, kept_long s (set raw n None)) in
    kept_at s (set raw n None) k inside ∙ (elim (cases_eq k n) as (λ _. (if is_kept s k then home_of (set raw n None) k else None) ≡ get_or (set (kept_only s raw) n None) k None) [
      | inl same ↦
          subst (λ j. (if is_kept s k then home_of (set raw j None) k else None) ≡ get_or (set (kept_only s raw) j None) k None) same
          (none_of (is_kept s k) (home_of (set raw k None) k) (gone raw k) ∙ sym (gone (kept_only s raw) k))
      | inr apart ↦
          ap (λ o. if is_kept s k then o else None) (get_or-set_other raw n k None None apart)
          ∙ (sym (kept_at s raw k inside) ∙ sym (get_or-set_other (kept_only s raw) n k None None apart))
    ]))
  where
    gone : (xs : List (Option Mem)) (k : ℕ) → get_or (set xs k None) k None ≡ None
    gone xs k = elim (cases_lt k (length xs)) as (λ _. get_or (set xs k None) k None ≡ None) [
      | inl within ↦ get_or-set_same xs k None None within
      | inr past ↦ get_or_past (set xs k None) k None (omega (arith, past, length-set xs k None))
    ]

    none_of : (b : Bool) (o : Option Mem) → o ≡ None → (if b then o else None) ≡ None
    none_of true o is = is
    none_of false o is = refl

-- what was at home of a memory that the handle has
pub there_kept : (s : LocalState) (raw : List (Option Mem)) (n : ℕ) → n < length s.memories → is_kept s n ≡ true → home_of (kept_only s raw) n ≡ home_of raw n
there_kept s raw n made kept = kept_at s raw n made ∙ ap (λ b. if b then home_of raw n else None) kept

pub sent_view : (h g : LogState) (raw : List (Option Mem)) (away : Away) (n : ℕ) → h ≡ g → kept_only (state_after h.model h.entries) raw ≡ set h.home n None →
    record h { home = kept_only (state_after h.model h.entries) raw; away = away } ≡ record g { home = set g.home n None; away = away }
sent_view h g raw away n seen kept =
    ap (λ hs. record h { home = hs; away = away }) kept ∙ ap (λ (x : LogState). record x { home = set x.home n None; away = away }) seen
