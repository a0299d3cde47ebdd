-- What the handles have to do with the region: each handle's share, and that its mappings are live.
use Rattle.std.proofs.Common.{◌≡◌, ◌⊎◌, ℕ, zero, suc, ◌+◌, ◌<◌, ◌≤◌, Bool, true, false, List, [], ◌∷◌, ◌++◌, Option, Some, None, length, map, is_some, unwrap_or, refl, sym, ap, ◌∙◌, subst, arith, inl, inr, append_assoc}
use Rattle.std.specs.Prelude.{slice_get, IsSome}
use Rattle.std.specs.List.{Contains}
use Rattle.std.specs.Option.{option_and_then, option_to_list}
use Rattle.std.proofs.lemmas.Bool.{false≢true}
use Rattle.std.proofs.lemmas.List.{append-nil}
use Rattle.std.proofs.lemmas.Option.{none-some, same_Some, get_or_from_slice_get, slice_get_within}
use Rattle.v4l_const.specs.declared.model.Model.{Model}
use Rattle.vm_home.specs.Moves.{is_stopping}
use Rattle.vm_home.specs.Reached.{IsReached}
use Rattle.vm_local.specs.declared.bound.Bound.{Bound}
use Rattle.vm_local.specs.declared.bound.BoundKind.TheVariants.{Mapping}
use Rattle.vm_local.specs.declared.call.Call.{Call}
use Rattle.vm_local.specs.declared.call.Call.TheVariants.{CloseHandle, StreamOff, ReqBufs}
use Rattle.vm_local.specs.declared.entry.Entry.{Entry}
use Rattle.vm_local.specs.declared.entry.Entry.TheVariants.{Called}
use Rattle.vm_local.specs.declared.reply.Reply.{Reply}
use Rattle.vm_local.specs.State.{LocalState, opening}
use Rattle.vm_local.specs.Log.{after, called, replay, replay_from, IsLegal}
use Rattle.vm_log.specs.LegalLog.{LogState, state_of}
use Rattle.vm_handle.specs.Handle.{HandleState}
use Rattle.vm_region.specs.Region.{range_at}
use Rattle.vm_wire.specs.Message.{Returning}
use Rattle.vm_guest.specs.Guest.{GuestState, no_process, process_at, handle_named}
use Rattle.vm_guest.specs.Process.{ProcessState, handle_at, no_handle}
use Rattle.vm_realm.specs.World.{WorldState}
use Rattle.vm_realm.specs.Inner.{Inner, driver_state}
use Rattle.vm_realm.specs.Mapped.{Mapping as Told, mapping_by, mapping_at, mappings_from, mappings_of, Share}
use Rattle.vm_realm.specs.Slice.{Slice, Out, slice_at}
use Rattle.vm_realm.specs.Slice.Out.{Nowhere, Asked, Kept, Told as TheTold, Astray}
use Rattle.vm_realm.specs.Sound.{IsTold, IsBefore, IsOut, IsSoundSlice, IsSoundBy, IsHandle, id_at, inner_at, share_of, shares_from, all_shares}
use Rattle.vm_realm.proofs.NamesLemmas.{names_at, made_at, given_at, HavePages, made_both, given_both, pages_both, Covers, entry_covers, log_covers, one_bound}
use Rattle.vm_realm.proofs.JournalLemmas.{all_made, all_given, AllPages, range_there}

-- ---- a handle of the script

-- its process and it are there
pub record IsThere (g : GuestState) (n h : ℕ) (x : HandleState) : Type 0 where
  pub process : n < length g.processes
  pub handle : h < length (process_at g n).handles
  pub is : handle_at (process_at g n) h ≡ x

there_in : (g : GuestState) (n h : ℕ) (o : Option ProcessState) (x : HandleState) → slice_get g.processes n ≡ o → option_and_then (λ (p : ProcessState). slice_get p.handles h) o ≡ Some x → IsThere g n h x
there_in g n h None x at is = absurd (none-some x is)
there_in g n h (Some p) x at is =
    let same : process_at g n ≡ p = get_or_from_slice_get g.processes n p no_process at in
    record {
      process = slice_get_within g.processes n p at;
      handle = subst (λ (q : ProcessState). h < length q.handles) (sym same) (slice_get_within p.handles h x is);
      is = ap (λ (q : ProcessState). handle_at q h) same ∙ get_or_from_slice_get p.handles h x no_handle is;
    }

pub named_there : (g : GuestState) (n h : ℕ) (x : HandleState) → handle_named g n h ≡ Some x → IsThere g n h x
named_there g n h x is = there_in g n h (slice_get g.processes n) x refl is

pub some_named : (o : Option HandleState) → is_some o ≡ true → (x : HandleState) × (o ≡ Some x)
some_named None some = absurd (false≢true some)
some_named (Some x) some = (x, refl)

pub is_there : (w : WorldState) (n h : ℕ) → IsHandle w n h → IsThere w.guest n h (handle_at (process_at w.guest n) h)
is_there w n h named =
    let x : _ = some_named (handle_named w.guest n h) named in
    let there : IsThere w.guest n h x.0 = named_there w.guest n h x.0 x.1 in
    record { process = there.process; handle = there.handle; is = refl }

-- ---- the shares

abbrev pub share_at : WorldState → List (List Inner) → ℕ → ℕ → Share
share_at w rows n h = share_of w.script.model (handle_at (process_at w.guest n) h) (inner_at w rows n h) (id_at w n h)

abbrev pub Each : (Share → Type 0) → List Share → Type 0
Each P [] = Unit {0}
Each P (s ∷ ss) = P s × Each P ss

each_both : (P : Share → Type 0) (xs ys : List Share) → Each P xs → Each P ys → Each P (xs ++ ys)
each_both P [] ys all more = more
each_both P (x ∷ xs) ys all more = (all.0, each_both P xs ys all.1 more)

each_from : (P : Share → Type 0) (w : WorldState) (rows : List (List Inner)) → ((n h : ℕ) → IsHandle w n h → P (share_at w rows n h)) → (n h : ℕ) (hs : List HandleState) →
    ((i : ℕ) (x : HandleState) → slice_get hs i ≡ Some x → handle_named w.guest n (h + i) ≡ Some x) → Each P (shares_from w rows n h hs)
each_from P w rows all n h [] at = tt
each_from P w rows all n h (x ∷ hs) at =
    let start : h + 0 ≡ h = omega arith in
    let next : (i : ℕ) → h + suc i ≡ (h + 1) + i = λ i. omega arith in
    let here : handle_named w.guest n h ≡ Some x = subst (λ k. handle_named w.guest n k ≡ Some x) start (at 0 x refl) in
    let is : handle_at (process_at w.guest n) h ≡ x = (named_there w.guest n h x here).is in (
      subst (λ y. P (share_of w.script.model y (inner_at w rows n h) (id_at w n h))) is (all n h (ap is_some here)),
      each_from P w rows all n (h + 1) hs (λ i y is. subst (λ k. handle_named w.guest n k ≡ Some y) (next i) (at (suc i) y is)),
    )

each_in : (P : Share → Type 0) (w : WorldState) (rows : List (List Inner)) → ((n h : ℕ) → IsHandle w n h → P (share_at w rows n h)) → (n : ℕ) (ps : List ProcessState) →
    ((i : ℕ) (p : ProcessState) → slice_get ps i ≡ Some p → slice_get w.guest.processes (n + i) ≡ Some p) → Each P (all_shares w rows n ps)
each_in P w rows all n [] at = tt
each_in P w rows all n (p ∷ ps) at =
    let start : n + 0 ≡ n = omega arith in
    let next : (i : ℕ) → n + suc i ≡ (n + 1) + i = λ i. omega arith in
    let here : slice_get w.guest.processes n ≡ Some p = subst (λ k. slice_get w.guest.processes k ≡ Some p) start (at 0 p refl) in
    let none : (i : ℕ) → i ≡ 0 + i = λ i. omega arith in
    each_both P (shares_from w rows n 0 p.handles) (all_shares w rows (n + 1) ps)
    (each_from P w rows all n 0 p.handles (λ i x is.
    ap (λ o. option_and_then (λ (q : ProcessState). slice_get q.handles (0 + i)) o) here ∙ subst (λ k. slice_get p.handles k ≡ Some x) (none i) is))
    (each_in P w rows all (n + 1) ps (λ i q is. subst (λ k. slice_get w.guest.processes k ≡ Some q) (next i) (at (suc i) q is)))

-- what holds of the share of each handle holds of each share
pub each_share : (P : Share → Type 0) (w : WorldState) (rows : List (List Inner)) → ((n h : ℕ) → IsHandle w n h → P (share_at w rows n h)) → Each P (all_shares w rows 0 w.guest.processes)
each_share P w rows all =
    let none : (i : ℕ) → i ≡ 0 + i = λ i. omega arith in
    each_in P w rows all 0 w.guest.processes (λ i p is. subst (λ k. slice_get w.guest.processes k ≡ Some p) (none i) is)

-- ---- the share of one handle is there

abbrev pub Has : Share → List Share → Type 0
Has x [] = ⊥
Has x (s ∷ ss) = (s ≡ x) ⊎ Has x ss

has_first : (x : Share) (xs ys : List Share) → Has x xs → Has x (xs ++ ys)
has_first x [] ys has = absurd has
has_first x (s ∷ ss) ys (inl is) = inl is
has_first x (s ∷ ss) ys (inr rest) = inr (has_first x ss ys rest)

has_second : (x : Share) (xs ys : List Share) → Has x ys → Has x (xs ++ ys)
has_second x [] ys has = has
has_second x (s ∷ ss) ys has = inr (has_second x ss ys has)

has_from : (w : WorldState) (rows : List (List Inner)) (n h : ℕ) (hs : List HandleState) (i : ℕ) (x : HandleState) → slice_get hs i ≡ Some x →
    Has (share_of w.script.model x (inner_at w rows n (h + i)) (id_at w n (h + i))) (shares_from w rows n h hs)
has_from w rows n h [] i x at = absurd (none-some x at)
has_from w rows n h (y ∷ hs) zero x at =
    let start : h ≡ h + 0 = omega arith in
    inl (λ j. share_of w.script.model (same_Some y x at j) (inner_at w rows n (start j)) (id_at w n (start j)))
has_from w rows n h (y ∷ hs) (suc i) x at =
    let next : (h + 1) + i ≡ h + suc i = omega arith in
    inr (subst (λ k. Has (share_of w.script.model x (inner_at w rows n k) (id_at w n k)) (shares_from w rows n (h + 1) hs)) next (has_from w rows n (h + 1) hs i x at))

has_in : (w : WorldState) (rows : List (List Inner)) (n : ℕ) (ps : List ProcessState) (i h : ℕ) (p : ProcessState) (x : HandleState) → slice_get ps i ≡ Some p → slice_get p.handles h ≡ Some x →
    Has (share_of w.script.model x (inner_at w rows (n + i) h) (id_at w (n + i) h)) (all_shares w rows n ps)
has_in w rows n [] i h p x at is = absurd (none-some p at)
has_in w rows n (q ∷ ps) zero h p x at is =
    let start : n ≡ n + 0 = omega arith in
    let none : 0 + h ≡ h = omega arith in
    let here : slice_get q.handles h ≡ Some x = ap (λ (r : ProcessState). slice_get r.handles h) (same_Some q p at) ∙ is in
    let there : Has (share_of w.script.model x (inner_at w rows n h) (id_at w n h)) (shares_from w rows n 0 q.handles) =
    subst (λ k. Has (share_of w.script.model x (inner_at w rows n k) (id_at w n k)) (shares_from w rows n 0 q.handles)) none (has_from w rows n 0 q.handles h x here) in
    has_first _ (shares_from w rows n 0 q.handles) (all_shares w rows (n + 1) ps)
    (subst (λ k. Has (share_of w.script.model x (inner_at w rows k h) (id_at w k h)) (shares_from w rows n 0 q.handles)) start there)
has_in w rows n (q ∷ ps) (suc i) h p x at is =
    let next : (n + 1) + i ≡ n + suc i = omega arith in
    let there : Has (share_of w.script.model x (inner_at w rows ((n + 1) + i) h) (id_at w ((n + 1) + i) h)) (all_shares w rows (n + 1) ps) = has_in w rows (n + 1) ps i h p x at is in
    has_second (share_of w.script.model x (inner_at w rows (n + suc i) h) (id_at w (n + suc i) h)) (shares_from w rows n 0 q.handles) (all_shares w rows (n + 1) ps)
    (subst (λ k. Has (share_of w.script.model x (inner_at w rows k h) (id_at w k h)) (all_shares w rows (n + 1) ps)) next there)

has_by : (w : WorldState) (rows : List (List Inner)) (n h : ℕ) (o : Option ProcessState) (x : HandleState) → slice_get w.guest.processes n ≡ o → option_and_then (λ (p : ProcessState). slice_get p.handles h) o ≡ Some x →
    Has (share_of w.script.model x (inner_at w rows n h) (id_at w n h)) (all_shares w rows 0 w.guest.processes)
has_by w rows n h None x at is = absurd (none-some x is)
has_by w rows n h (Some p) x at is =
    let none : 0 + n ≡ n = omega arith in
    subst (λ k. Has (share_of w.script.model x (inner_at w rows k h) (id_at w k h)) (all_shares w rows 0 w.guest.processes)) none (has_in w rows 0 w.guest.processes n h p x at is)

pub has_share : (w : WorldState) (rows : List (List Inner)) (n h : ℕ) → IsHandle w n h → Has (share_at w rows n h) (all_shares w rows 0 w.guest.processes)
has_share w rows n h named =
    let x : _ = some_named (handle_named w.guest n h) named in
    let is : handle_at (process_at w.guest n) h ≡ x.0 = (named_there w.guest n h x.0 x.1).is in
    subst (λ y. Has (share_of w.script.model y (inner_at w rows n h) (id_at w n h)) (all_shares w rows 0 w.guest.processes)) (sym is)
    (has_by w rows n h (slice_get w.guest.processes n) x.0 refl x.1)

-- ---- all of them together

-- so many are told as mapped there, and not as given back
abbrev pub Leaves : ℕ → ℕ → List Told → Type 0
Leaves addr k ms = (given_at addr ms + k ≤ made_at addr ms) × HavePages ms

pub shares_pages : (addr : ℕ) (ss : List Share) → Each (λ s. Leaves addr 0 s.mappings) ss → AllPages (map (λ s. s.mappings) ss)
shares_pages addr [] all = tt
shares_pages addr (s ∷ ss) all = (all.0.1, shares_pages addr ss all.1)

shares_less : (addr : ℕ) (ss : List Share) → Each (λ s. Leaves addr 0 s.mappings) ss → all_given addr (map (λ s. s.mappings) ss) ≤ all_made addr (map (λ s. s.mappings) ss)
shares_less addr [] all = omega arith
shares_less addr (s ∷ ss) all = omega (arith, all.0.0, shares_less addr ss all.1)

shares_leave : (addr k : ℕ) (x : Share) (ss : List Share) → Each (λ s. Leaves addr 0 s.mappings) ss → Has x ss → Leaves addr k x.mappings →
    all_given addr (map (λ s. s.mappings) ss) + k ≤ all_made addr (map (λ s. s.mappings) ss)
shares_leave addr k x [] all has more = absurd has
shares_leave addr k x (s ∷ ss) all (inl is) more =
    let given = ap (λ (y : Share). given_at addr y.mappings) is in
    let made = ap (λ (y : Share). made_at addr y.mappings) is in
    omega (arith, given, made, more.0, shares_less addr ss all.1)
shares_leave addr k x (s ∷ ss) all (inr rest) more = omega (arith, all.0.0, shares_leave addr k x ss all.1 rest more)

-- ---- the share of a sound slice

-- what the log tells, and with it what the executed call does
log_leaves : (addr : ℕ) (m : Model) (log : List Entry) (s : LocalState) → replay m log ≡ Some s → Leaves addr (names_at addr s.bound) (mappings_from (opening m) log)
log_leaves addr m log s leads =
    let covers : Covers addr (opening m) s (mappings_from (opening m) log) = log_covers addr log (opening m) s (m, [], refl) leads in
    (let names = covers.names in omega (arith, names), covers.pages)

pub more_told : (s u : LocalState) (log : List Entry) (e : Entry) → replay_from s log ≡ Some u → mappings_from s (log ++ e ∷ []) ≡ mappings_from s log ++ mapping_at u e
more_told s u [] e leads = append-nil (mapping_at s e) ∙ ap (λ x. mapping_at x e) (same_Some s u leads)
more_told s u (d ∷ ds) e leads = by_after (after s d) refl leads (λ t goes. more_told t u ds e goes)
  where
    by_after : (o : Option LocalState) → after s d ≡ o → option_and_then (λ t. replay_from t ds) o ≡ Some u → ((t : LocalState) → replay_from t ds ≡ Some u → mappings_from t (ds ++ e ∷ []) ≡ mappings_from t ds ++ mapping_at u e) →
        mapping_at s d ++ mappings_from (unwrap_or (after s d) s) (ds ++ e ∷ []) ≡ (mapping_at s d ++ mappings_from (unwrap_or (after s d) s) ds) ++ mapping_at u e
    by_after None is leads more = absurd (none-some u leads)
    by_after (Some t) is leads more =
        subst (λ x. mapping_at s d ++ mappings_from x (ds ++ e ∷ []) ≡ (mapping_at s d ++ mappings_from x ds) ++ mapping_at u e) (sym (ap (λ o. unwrap_or o s) is))
        (ap (λ ms. mapping_at s d ++ ms) (more t leads) ∙ sym (append_assoc (mapping_at s d) (mappings_from t ds) (mapping_at u e)))

legal_state : (m : Model) (log : List Entry) (o : Option LocalState) → replay m log ≡ o → is_some o ≡ true → replay m log ≡ Some (unwrap_or (replay m log) (opening m))
legal_state m log None is legal = absurd (false≢true legal)
legal_state m log (Some s) is legal = is ∙ ap Some (sym (ap (λ o. unwrap_or o (opening m)) is))

pub log_state : (l : LogState) → IsLegal l.model l.entries → replay l.model l.entries ≡ Some (state_of l)
log_state l legal = legal_state l.model l.entries (replay l.model l.entries) refl legal

pub stopping_tells : (s : LocalState) (call : Call) (reply : Reply) → is_stopping call ≡ true → mapping_by s call reply ≡ []
stopping_tells s CloseHandle reply stops = refl
stopping_tells s (ReqBufs t m n) reply stops = refl
stopping_tells s (StreamOff t) reply stops = refl
stopping_tells s call reply stops = absurd (false≢true stops)

-- what the executed call tells
executed_leaves : (addr : ℕ) (x : Slice) (v : Inner) (line : ℕ) (call : Call) (reply : Reply) (next : LocalState) (b : Bool) → IsReached (driver_state x) → is_stopping call ≡ b → IsBefore b x v.before → called v.before line call reply ≡ Some next →
    (given_at addr (mapping_at (driver_state x) (Called line call reply)) ≤ made_at addr (mapping_at (driver_state x) (Called line call reply)) + names_at addr (driver_state x).bound)
    × HavePages (mapping_at (driver_state x) (Called line call reply))
executed_leaves addr x v line call reply next true reached stops before goes =
    let none : mapping_by (driver_state x) call reply ≡ [] = stopping_tells (driver_state x) call reply stops in (
      (let given = ap (given_at addr) none in omega (arith, given)),
      subst HavePages (sym none) tt,
    )
executed_leaves addr x v line call reply next false reached stops before goes =
    let here : called (driver_state x) line call reply ≡ Some next = subst (λ s. called s line call reply ≡ Some next) before goes in
    let covers : Covers addr (driver_state x) next (mapping_at (driver_state x) (Called line call reply)) = entry_covers addr (driver_state x) next (Called line call reply) reached here in
    ((let names = covers.names in omega (arith, names)), covers.pages)

told_leaves : (addr : ℕ) (x : Slice) (v : Inner) (r : Returning) → IsSoundSlice x v → IsTold x v r → Leaves addr 0 (mappings_of x.handle.log.model x.handle.log.entries v.executed)
told_leaves addr x v r sound told =
    let m : Model = x.handle.log.model in
    let es : List Entry = x.handle.log.entries in
    let s : LocalState = driver_state x in
    let e : Entry = Called told.line told.call told.reply in
    let leads : replay m es ≡ Some s = log_state x.handle.log sound.log.legal in
    let first : Leaves addr (names_at addr s.bound) (mappings_from (opening m) es) = log_leaves addr m es s leads in
    let more = executed_leaves addr x v told.line told.call told.reply told.next (is_stopping told.call) (m, es, leads) refl told.before told.is_call in
    let all : mappings_of m es v.executed ≡ mappings_from (opening m) es ++ mapping_at s e =
    ap (λ o. mappings_from (opening m) (es ++ option_to_list o)) told.executed ∙ more_told (opening m) s es e leads in
    subst (Leaves addr 0) (sym all) (
      (let a = first.0 in let b = more.0 in omega (arith, a, b, made_both addr (mappings_from (opening m) es) (mapping_at s e), given_both addr (mappings_from (opening m) es) (mapping_at s e))),
      pages_both (mappings_from (opening m) es) (mapping_at s e) first.1 more.1,
    )

-- where nothing is executed, the names that are bound are left
pub none_leaves : (addr : ℕ) (x : Slice) (v : Inner) → IsSoundSlice x v → v.executed ≡ None → Leaves addr (names_at addr (driver_state x).bound) (mappings_of x.handle.log.model x.handle.log.entries v.executed)
none_leaves addr x v sound none =
    let m : Model = x.handle.log.model in
    let es : List Entry = x.handle.log.entries in
    let all : mappings_of m es v.executed ≡ mappings_from (opening m) es =
    ap (λ o. mappings_from (opening m) (es ++ option_to_list o)) none ∙ ap (mappings_from (opening m)) (append-nil es) in
    subst (Leaves addr (names_at addr (driver_state x).bound)) (sym all) (log_leaves addr m es (driver_state x) (log_state x.handle.log sound.log.legal))

fewer : (addr k : ℕ) (ms : List Told) → Leaves addr k ms → Leaves addr 0 ms
fewer addr k ms leaves = ((let more = leaves.0 in omega (arith, more)), leaves.1)

slice_leaves : (addr : ℕ) (x : Slice) (v : Inner) (o : Out) → IsSoundSlice x v → IsOut o x v → Leaves addr 0 (mappings_of x.handle.log.model x.handle.log.entries v.executed)
slice_leaves addr x v Nowhere sound out = fewer addr (names_at addr (driver_state x).bound) (mappings_of x.handle.log.model x.handle.log.entries v.executed) (none_leaves addr x v sound out.0.executed)
slice_leaves addr x v (Asked m) sound out = fewer addr (names_at addr (driver_state x).bound) (mappings_of x.handle.log.model x.handle.log.entries v.executed) (none_leaves addr x v sound out.0.executed)
slice_leaves addr x v (Kept m) sound out = fewer addr (names_at addr (driver_state x).bound) (mappings_of x.handle.log.model x.handle.log.entries v.executed) (none_leaves addr x v sound out.0.executed)
slice_leaves addr x v (TheTold r) sound out = told_leaves addr x v r sound out
slice_leaves addr x v Astray sound out = absurd out

-- ---- the world

-- a handle's log is of the script's model
pub log_model : (w : WorldState) (rows : List (List Inner)) (n h : ℕ) → IsSoundBy w rows → IsHandle w n h → (handle_at (process_at w.guest n) h).log.model ≡ w.script.model
log_model w rows n h sound named =
    let there : IsThere w.guest n h (handle_at (process_at w.guest n) h) = is_there w n h named in
    ((sound.lines.orderly n there.process).each h there.handle).model

share_leaves : (w : WorldState) (rows : List (List Inner)) (addr k n h : ℕ) → IsSoundBy w rows → IsHandle w n h →
    Leaves addr k (mappings_of (handle_at (process_at w.guest n) h).log.model (handle_at (process_at w.guest n) h).log.entries (inner_at w rows n h).executed) → Leaves addr k (share_at w rows n h).mappings
share_leaves w rows addr k n h sound named leaves =
    subst (λ m. Leaves addr k (mappings_of m (handle_at (process_at w.guest n) h).log.entries (inner_at w rows n h).executed)) (log_model w rows n h sound named) leaves

pub all_leave : (w : WorldState) (rows : List (List Inner)) (addr : ℕ) → IsSoundBy w rows → Each (λ s. Leaves addr 0 s.mappings) (all_shares w rows 0 w.guest.processes)
all_leave w rows addr sound =
    each_share (λ s. Leaves addr 0 s.mappings) w rows (λ n h named.
    let slice : IsSoundSlice (slice_at w n h) (inner_at w rows n h) = sound.slices n h named in
    share_leaves w rows addr 0 n h sound named (slice_leaves addr (slice_at w n h) (inner_at w rows n h) (slice_at w n h).out slice slice.out))

-- a mapping that a handle's name is bound to is live in the region
pub mapping_live : (w : WorldState) (rows : List (List Inner)) (n h : ℕ) → IsSoundBy w rows → IsHandle w n h → (inner_at w rows n h).executed ≡ None → (b : Bound) (addr len : ℕ) (writable : Bool) →
    Contains (driver_state (slice_at w n h)).bound b → b.kind ≡ Mapping addr len writable → IsSome (range_at addr w.host.device.region.ranges)
mapping_live w rows n h sound named none b addr len writable bound kind =
    let slice : IsSoundSlice (slice_at w n h) (inner_at w rows n h) = sound.slices n h named in
    let names : ℕ = names_at addr (driver_state (slice_at w n h)).bound in
    let some : 1 ≤ names = one_bound addr len writable (driver_state (slice_at w n h)).bound b bound kind in
    let ss : List Share = all_shares w rows 0 w.guest.processes in
    let all : Each (λ s. Leaves addr 0 s.mappings) ss = all_leave w rows addr sound in
    let mine : Leaves addr names (share_at w rows n h).mappings = share_leaves w rows addr names n h sound named (none_leaves addr (slice_at w n h) (inner_at w rows n h) slice none) in
    let more = shares_leave addr names (share_at w rows n h) ss all (has_share w rows n h named) mine in
    range_there addr w.host.device.region (map (λ s. s.mappings) ss) sound.mapped.lives sound.mapped.sound sound.mapped.deals sound.mapped.live (shares_pages addr ss all) (omega (arith, more, some))
