-- The journal tells of fewer mappings than a script may have lines, where one of them is still on its way to the device.
use Rattle.std.proofs.Common.{◌≡◌, ◌⊎◌, ℕ, zero, suc, ◌+◌, ◌*◌, ◌<◌, ◌≤◌, Bool, true, false, List, [], ◌∷◌, ◌++◌, Option, Some, None, length, take, map, set, is_some, refl, sym, ap, ◌∙◌, subst, arith, inl, inr, eqb, if◌then◌else◌, length-append}
use Rattle.std.specs.Prelude.{slice_get, unwrap_or}
use Rattle.std.specs.List.{All}
use Rattle.std.specs.Option.{option_and_then, option_to_list}
use Rattle.std.proofs.lemmas.Bool.{false≢true, cases_eq, cond-true, cond-false, eq-eqb, ne_eqb}
use Rattle.std.proofs.lemmas.List.Elements.{All-head, All-tail, All-get_or}
use Rattle.std.proofs.lemmas.Option.{none-some, same_Some, option_and_then_some, slice_get_within}
use Rattle.v4l_const.specs.declared.model.Model.{Model}
use Rattle.vm_local.specs.declared.call.Call.{Call}
use Rattle.vm_local.specs.declared.call.Call.TheVariants.{Mmap, Munmap}
use Rattle.vm_local.specs.declared.entry.Entry.{Entry}
use Rattle.vm_local.specs.declared.entry.Entry.TheVariants.{Called, Finish, Bad, Give}
use Rattle.vm_local.specs.declared.reply.Reply.{Reply}
use Rattle.vm_local.specs.declared.reply.Reply.TheVariants.{Done, Mapped}
use Rattle.vm_local.specs.State.{LocalState, opening}
use Rattle.vm_local.specs.Log.{after}
use Rattle.vm_region.specs.declared.entry.RegionEntry.{RegionEntry}
use Rattle.vm_region.specs.declared.entry.RegionEntry.TheVariants.{Map, Drop}
use Rattle.vm_region.specs.Region.{map_count}
use Rattle.vm_script.specs.Lines.{call_on, numbered, lines_of, calls_of}
use Rattle.vm_script.specs.declared.line.Line.{Line}
use Rattle.vm_script.specs.declared.line.LineKind.{LineKind}
use Rattle.vm_script.specs.declared.line.LineKind.TheVariants.{OnHandle, Raw}
use Rattle.vm_wire.specs.Message.{Posting, Returning}
use Rattle.vm_handle.specs.Handle.{HandleState}
use Rattle.vm_guest.specs.Asking.{statement_of, statements_of, asked_by, asked_in}
use Rattle.vm_guest.specs.Guest.{process_at, handle_named}
use Rattle.vm_guest.specs.Orderly.{IsOrderly, IsFitProcess, lines_at, no_lines}
use Rattle.vm_guest.specs.Process.{ProcessState, begun, is_at_rest as rests, is_crossing, current, current_call, crossing_call, some_if, handle_at}
use Rattle.vm_guest.specs.declared.asked.Asked.{Asked as AskedCall}
use Rattle.vm_guest.specs.declared.asked.Statement.{Statement}
use Rattle.vm_guest.specs.declared.status.Status.{Status}
use Rattle.vm_guest.specs.declared.status.Status.TheVariants.{AtRest, Crossing, Blocked, Lent}
use Rattle.vm_realm.specs.World.{WorldState}
use Rattle.vm_realm.specs.Inner.{Inner}
use Rattle.vm_realm.specs.Mapped.{Mapping as Telling, Life, IsDealt, DealsFrom, lives_after, mapping_by, mappings_from, mappings_of, Share}
use Rattle.vm_realm.specs.Mapped.Mapping.{Made, GivenBack}
use Rattle.vm_realm.specs.Slice.{Out, is_on, out_of, out_at, slice_at}
use Rattle.vm_realm.specs.Slice.Out.{Nowhere, Asked, Kept, Told, Astray}
use Rattle.vm_realm.specs.Sound.{IsOut, IsSoundBy, IsHandle, id_at, inner_at, one_if, share_of, shares_from, all_shares}
use Rattle.vm_realm.proofs.ShareLemmas.{IsThere, named_there, is_there, share_at}

-- ---- mappings that are told

abbrev pub mades : List Telling → ℕ
mades [] = 0
mades (Made at pages memory ∷ ms) = 1 + mades ms
mades (GivenBack at ∷ ms) = mades ms

abbrev pub all_mades : List (List Telling) → ℕ
all_mades [] = 0
all_mades (ms ∷ lists) = mades ms + all_mades lists

mades_both : (ms ns : List Telling) → mades (ms ++ ns) ≡ mades ms + mades ns
mades_both [] ns = omega arith
mades_both (Made at pages memory ∷ ms) ns = omega (arith, mades_both ms ns)
mades_both (GivenBack at ∷ ms) ns = mades_both ms ns

-- ---- the journal tells of those of the lists

swap_mades : (k : ℕ) (lists : List (List Telling)) (ms ns : List Telling) → slice_get lists k ≡ Some ms → all_mades (set lists k ns) + mades ms ≡ all_mades lists + mades ns
swap_mades k [] ms ns is = absurd (none-some ms is)
swap_mades zero (x ∷ lists) ms ns is = let same = ap mades (same_Some x ms is) in omega (arith, same)
swap_mades (suc k) (x ∷ lists) ms ns is = let rest = swap_mades k lists ms ns is in omega (arith, rest)

dealt_one : (k : ℕ) (e : RegionEntry) (m : Telling) (ms : List Telling) (es : List RegionEntry) (lives : List Life) → IsDealt k e m lives → map_count (e ∷ es) + mades ms ≡ map_count es + mades (m ∷ ms)
dealt_one k (Map at pages count) (Made here size memory) ms es lives dealt = omega arith
dealt_one k (Map at pages count) (GivenBack here) ms es lives dealt = absurd dealt
dealt_one k (Drop at count) (Made here size memory) ms es lives dealt = absurd dealt
dealt_one k (Drop at count) (GivenBack here) ms es lives dealt = refl

empty_mades : (lists : List (List Telling)) → All (λ ms. ms ≡ []) lists → all_mades lists ≡ 0
empty_mades [] none = refl
empty_mades (ms ∷ lists) none =
    let here = ap mades (All-head (λ (ns : List Telling). ns ≡ []) ms lists none) in
    omega (arith, here, empty_mades lists (All-tail (λ (ns : List Telling). ns ≡ []) ms lists none))

deals_mades : (lives : List Life) (es : List RegionEntry) (lists : List (List Telling)) (last : List Life) → DealsFrom lives es lists last → map_count es ≡ all_mades lists
deals_mades lives [] lists last (none, same) = sym (empty_mades lists none)
deals_mades lives (e ∷ es) lists last (k, m, ms, is, dealt, goes) =
    let rest = deals_mades (lives_after k e m lives) es (set lists k ms) last goes in
    omega (arith, rest, swap_mades k lists (m ∷ ms) ms is, dealt_one k e m ms es lives dealt)

-- ---- a log tells of no more than it has calls

one_told : (s : LocalState) (call : Call) (reply : Reply) → mades (mapping_by s call reply) ≤ 1
one_told s (Mmap m t i ro) (Mapped at len) = omega arith
one_told s (Mmap m t i ro) reply = omega arith
one_told s (Munmap m) Done = omega arith
one_told s (Munmap m) reply = omega arith
one_told s call reply = omega arith

log_tells : (s : LocalState) (es : List Entry) → mades (mappings_from s es) ≤ length (calls_of es)
log_tells s [] = omega arith
log_tells s (Called line call reply ∷ es) =
    let rest = log_tells (unwrap_or (after s (Called line call reply)) s) es in
    omega (arith, rest, one_told s call reply, mades_both (mapping_by s call reply) (mappings_from (unwrap_or (after s (Called line call reply)) s) es))
log_tells s (Finish ∷ es) = log_tells (unwrap_or (after s Finish) s) es
log_tells s (Bad ∷ es) = log_tells (unwrap_or (after s Bad) s) es
log_tells s (Give ∷ es) = log_tells (unwrap_or (after s Give) s) es

one_call : (e : Entry) → length (calls_of (e ∷ [])) ≤ 1
one_call (Called line call reply) = omega arith
one_call Finish = omega arith
one_call Bad = omega arith
one_call Give = omega arith

calls_both : (es fs : List Entry) → length (calls_of (es ++ fs)) ≡ length (calls_of es) + length (calls_of fs)
calls_both [] fs = omega arith
calls_both (Called line call reply ∷ es) fs = omega (arith, calls_both es fs)
calls_both (Finish ∷ es) fs = calls_both es fs
calls_both (Bad ∷ es) fs = calls_both es fs
calls_both (Give ∷ es) fs = calls_both es fs

abbrev one_in : Option Entry → ℕ
one_in None = 0
one_in (Some e) = 1

executed_few : (o : Option Entry) → length (calls_of (option_to_list o)) ≤ one_in o
executed_few None = omega arith
executed_few (Some e) = one_call e

all_tell : (m : Model) (log : List Entry) (executed : Option Entry) → mades (mappings_of m log executed) ≤ length (calls_of log) + one_in executed
all_tell m log executed = omega (arith, log_tells (opening m) (log ++ option_to_list executed), calls_both log (option_to_list executed), executed_few executed)

-- ---- lines on handles

lines_first : (h : ℕ) (l : Line) (ls : List Line) → length (lines_of h (l ∷ ls)) ≡ length (numbered l.number (call_on h l.what)) + length (lines_of h ls)
lines_first h l ls = length-append (numbered l.number (call_on h l.what)) (lines_of h ls)

lines_more : (h k j : ℕ) (ls : List Line) → k ≤ j → length (lines_of h (take k ls)) ≤ length (lines_of h (take j ls))
lines_more h zero j ls le = omega arith
lines_more h (suc k) zero ls le = absurd (omega (arith, le))
lines_more h (suc k) (suc j) [] le = omega arith
lines_more h (suc k) (suc j) (l ∷ ls) le =
    let rest = lines_more h k j ls (omega (arith, le)) in
    omega (arith, rest, lines_first h l (take k ls), lines_first h l (take j ls))

own_line : (h : ℕ) (l : Line) (a : AskedCall) → asked_by (statement_of l) ≡ Some a → eqb a.handle h ≡ true → length (numbered l.number (call_on h l.what)) ≡ 1
own_line h l a asks own = by_kind l.what asks
  where
    handle_same : (n i : ℕ) (call : Call) (b : AskedCall) → ◌≡◌ {A = Option AskedCall} (Some (record { line = n; handle = i; call = call })) (Some b) → i ≡ b.handle
    handle_same n i call b same = cc

    by_kind : (what : LineKind) → asked_in l.number what ≡ Some a → length (numbered l.number (call_on h what)) ≡ 1
    by_kind (Raw chain) asks = absurd (none-some a asks)
    by_kind (OnHandle i call) asks =
        let same : i ≡ a.handle = handle_same l.number i call a asks in
        ap (λ o. length (numbered l.number o)) (cond-true (eqb i h) (Some call) None (ap (λ k. eqb k h) same ∙ own))

line_adds : (h k : ℕ) (ls : List Line) (s : Statement) (a : AskedCall) → slice_get (statements_of ls) k ≡ Some s → asked_by s ≡ Some a → eqb a.handle h ≡ true → length (lines_of h (take (suc k) ls)) ≡ length (lines_of h (take k ls)) + 1
line_adds h k [] s a is asks own = absurd (none-some s is)
line_adds h zero (l ∷ ls) s a is asks own =
    let mine : asked_by (statement_of l) ≡ Some a = ap asked_by (same_Some (statement_of l) s is) ∙ asks in
    omega (arith, lines_first h l [], own_line h l a mine own)
line_adds h (suc k) (l ∷ ls) s a is asks own =
    let rest = line_adds h k ls s a is asks own in
    omega (arith, rest, lines_first h l (take (suc k) ls), lines_first h l (take k ls))

-- the lines on so many handles from one on
abbrev pub lines_sum : ℕ → ℕ → List Line → ℕ
lines_sum h zero ls = 0
lines_sum h (suc k) ls = length (lines_of h ls) + lines_sum (h + 1) k ls

abbrev ons : ℕ → ℕ → ℕ → LineKind → ℕ
ons number h zero what = 0
ons number h (suc k) what = length (numbered number (call_on h what)) + ons number (h + 1) k what

sum_none : (h k : ℕ) → lines_sum h k [] ≡ 0
sum_none h zero = refl
sum_none h (suc k) = omega (arith, sum_none (h + 1) k)

sum_first : (h k : ℕ) (l : Line) (ls : List Line) → lines_sum h k (l ∷ ls) ≡ ons l.number h k l.what + lines_sum h k ls
sum_first h zero l ls = refl
sum_first h (suc k) l ls = omega (arith, lines_first h l ls, sum_first (h + 1) k l ls)

raw_ons : (number h k : ℕ) (chain : _) → ons number h k (Raw chain) ≡ 0
raw_ons number h zero chain = refl
raw_ons number h (suc k) chain = omega (arith, raw_ons number (h + 1) k chain)

past_ons : (number h k i : ℕ) (call : Call) → i < h → ons number h k (OnHandle i call) ≡ 0
past_ons number h zero i call past = refl
past_ons number h (suc k) i call past =
    let off = ap (λ o. length (numbered number o)) (cond-false (eqb i h) (Some call) None (ne_eqb i h (λ same. omega (arith, past, same)))) in
    omega (arith, off, past_ons number (h + 1) k i call (omega (arith, past)))

call_ons : (number h k i : ℕ) (call : Call) → ons number h k (OnHandle i call) ≤ 1
call_ons number h zero i call = omega arith
call_ons number h (suc k) i call = elim (cases_eq i h) [
  | inl same ↦
      let on = ap (λ o. length (numbered number o)) (cond-true (eqb i h) (Some call) None (eq-eqb i h same)) in
      omega (arith, on, past_ons number (h + 1) k i call (omega (arith, same)))
  | inr other ↦
      let off = ap (λ o. length (numbered number o)) (cond-false (eqb i h) (Some call) None (ne_eqb i h other)) in
      omega (arith, off, call_ons number (h + 1) k i call)
]

one_on : (number h k : ℕ) (what : LineKind) → ons number h k what ≤ 1
one_on number h k (OnHandle i call) = call_ons number h k i call
one_on number h k (Raw chain) = omega (arith, raw_ons number h k chain)

-- each line is on one handle at most
lines_few : (h k : ℕ) (ls : List Line) → lines_sum h k ls ≤ length ls
lines_few h k [] = omega (arith, sum_none h k)
lines_few h k (l ∷ ls) = omega (arith, sum_first h k l ls, one_on l.number h k l.what, lines_few h k ls)

-- ---- a handle

told_on : (b : Bool) (o : Out) (r : Returning) → (if b then o else Nowhere) ≡ Told r → b ≡ true
told_on true o r is = refl
told_on false o r is = absurd (not_told r is)
  where
    not_told : (r : Returning) → Nowhere ≡ Told r → ⊥
    not_told r is = cc

-- its log and its executed call are of lines that were begun
record IsBegun (w : WorldState) (rows : List (List Inner)) (n h : ℕ) : Type 0 where
  few : mades (share_at w rows n h).mappings ≤ length (lines_of h (take (begun (process_at w.guest n)) (lines_at w.script n).lines))

answered_few : (w : WorldState) (rows : List (List Inner)) (n h : ℕ) → IsSoundBy w rows → IsHandle w n h →
    mades (share_at w rows n h).mappings ≤ length (lines_of h (take (process_at w.guest n).answered (lines_at w.script n).lines)) + one_in (inner_at w rows n h).executed
answered_few w rows n h sound named =
    let there : IsThere w.guest n h (handle_at (process_at w.guest n) h) = is_there w n h named in
    let hd : HandleState = handle_at (process_at w.guest n) h in
    let each = (sound.lines.orderly n there.process).each h there.handle in
    let calls = ap length each.calls in
    omega (arith, calls, all_tell w.script.model hd.log.entries (inner_at w rows n h).executed)

begun_more : (p : ProcessState) → p.answered ≤ begun p
begun_more p = by_rest (rests p.status)
  where
    by_rest : (b : Bool) → p.answered ≤ (if b then p.answered else p.answered + 1)
    by_rest true = omega arith
    by_rest false = omega arith

crossing_begun : (s : Status) (k : ℕ) → is_crossing s ≡ true → (if rests s then k else k + 1) ≡ suc k
crossing_begun AtRest k is = absurd (false≢true is)
crossing_begun Crossing k is = omega arith
crossing_begun Blocked k is = omega arith
crossing_begun Lent k is = omega arith

none_begun : (w : WorldState) (rows : List (List Inner)) (n h : ℕ) → IsSoundBy w rows → IsHandle w n h → (inner_at w rows n h).executed ≡ None → IsBegun w rows n h
none_begun w rows n h sound named none =
    let few = answered_few w rows n h sound named in
    let zero_more = ap one_in none in
    record { few = omega (arith, few, zero_more, lines_more h (process_at w.guest n).answered (begun (process_at w.guest n)) (lines_at w.script n).lines (begun_more (process_at w.guest n))) }

asked_here : (b : Bool) (o : Option AskedCall) (h : ℕ) → is_on (some_if b o) h ≡ true → (b ≡ true) × ((a : AskedCall) × (o ≡ Some a) × (eqb a.handle h ≡ true))
asked_here true (Some a) h on = (refl, (a, refl, on))
asked_here true None h on = absurd (false≢true on)
asked_here false o h on = absurd (false≢true on)

told_begun : (w : WorldState) (rows : List (List Inner)) (n h : ℕ) (r : Returning) (e : Entry) → IsSoundBy w rows → IsHandle w n h → out_at w n h ≡ Told r → (inner_at w rows n h).executed ≡ Some e → IsBegun w rows n h
told_begun w rows n h r e sound named out executed =
    let p : ProcessState = process_at w.guest n in
    let ls : List Line = (lines_at w.script n).lines in
    let there : IsThere w.guest n h (handle_at p h) = is_there w n h named in
    let orderly : IsOrderly w.script.model (lines_at w.script n) p = sound.lines.orderly n there.process in
    let on : is_on (crossing_call p) h ≡ true = told_on (is_on (crossing_call p) h) (out_of w n) r out in
    let here : _ = asked_here (is_crossing p.status) (current_call p) h on in
    let a : AskedCall = here.1.0 in
    let came : begun p ≡ suc p.answered = crossing_begun p.status p.answered here.0 in
    let few = answered_few w rows n h sound named in
    let one = ap one_in executed in
    option_and_then_some asked_by (current p) a here.1.1 (λ s now asks.
    let adds = line_adds h p.answered ls s a (ap (λ ss. slice_get ss p.answered) (sym orderly.statements) ∙ now) asks here.1.2 in
    let all = ap (λ k. length (lines_of h (take k ls))) came in
    record { few = omega (arith, few, one, adds, all) })

out_begun : (w : WorldState) (rows : List (List Inner)) (n h : ℕ) (o : Out) → IsSoundBy w rows → IsHandle w n h → out_at w n h ≡ o → IsOut o (slice_at w n h) (inner_at w rows n h) → IsBegun w rows n h
out_begun w rows n h Nowhere sound named out is = none_begun w rows n h sound named is.0.executed
out_begun w rows n h (Asked m) sound named out is = none_begun w rows n h sound named is.0.executed
out_begun w rows n h (Kept m) sound named out is = none_begun w rows n h sound named is.0.executed
out_begun w rows n h (Told r) sound named out is = told_begun w rows n h r _ sound named out is.executed
out_begun w rows n h Astray sound named out is = absurd is

-- of a process whose request is first nothing is executed
asked_none : (w : WorldState) (rows : List (List Inner)) (n h : ℕ) (m : Posting) → IsSoundBy w rows → IsHandle w n h → out_of w n ≡ Asked m → (inner_at w rows n h).executed ≡ None
asked_none w rows n h m sound named out = by_on (is_on (crossing_call (process_at w.guest n)) h) refl
  where
    by_on : (b : Bool) → is_on (crossing_call (process_at w.guest n)) h ≡ b → (inner_at w rows n h).executed ≡ None
    by_on true is =
        let here : out_at w n h ≡ Asked m = ap (λ b. if b then out_of w n else Nowhere) is ∙ out in
        (subst (λ o. IsOut o (slice_at w n h) (inner_at w rows n h)) here (sound.slices n h named).out).0.executed
    by_on false is =
        let here : out_at w n h ≡ Nowhere = ap (λ b. if b then out_of w n else Nowhere) is in
        (subst (λ o. IsOut o (slice_at w n h) (inner_at w rows n h)) here (sound.slices n h named).out).0.executed

-- ---- a process

sum_from : (w : WorldState) (rows : List (List Inner)) (xs : List Line) (n h : ℕ) (hs : List HandleState) → ((k : ℕ) → IsHandle w n k → mades (share_at w rows n k).mappings ≤ length (lines_of k xs)) →
    ((i : ℕ) (x : HandleState) → slice_get hs i ≡ Some x → handle_named w.guest n (h + i) ≡ Some x) → all_mades (map (λ s. s.mappings) (shares_from w rows n h hs)) ≤ lines_sum h (length hs) xs
sum_from w rows xs n h [] each at = omega arith
sum_from w rows xs n h (x ∷ hs) each at =
    let start : h + 0 ≡ h = omega arith in
    let next : (i : ℕ) → h + suc i ≡ (h + 1) + i = λ i. omega arith in
    let here : handle_named w.guest n h ≡ Some x = subst (λ k. handle_named w.guest n k ≡ Some x) start (at 0 x refl) in
    let is : handle_at (process_at w.guest n) h ≡ x = (named_there w.guest n h x here).is in
    let first : mades (share_of w.script.model x (inner_at w rows n h) (id_at w n h)).mappings ≤ length (lines_of h xs) =
    subst (λ y. mades (share_of w.script.model y (inner_at w rows n h) (id_at w n h)).mappings ≤ length (lines_of h xs)) is (each h (ap is_some here)) in
    omega (arith, first, sum_from w rows xs n (h + 1) hs each (λ i y is. subst (λ k. handle_named w.guest n k ≡ Some y) (next i) (at (suc i) y is)))

process_sum : (w : WorldState) (rows : List (List Inner)) (xs : List Line) (n : ℕ) (p : ProcessState) → slice_get w.guest.processes n ≡ Some p → ((k : ℕ) → IsHandle w n k → mades (share_at w rows n k).mappings ≤ length (lines_of k xs)) →
    all_mades (map (λ s. s.mappings) (shares_from w rows n 0 p.handles)) ≤ length xs
process_sum w rows xs n p is each =
    let none : (i : ℕ) → i ≡ 0 + i = λ i. omega arith in
    let sum = sum_from w rows xs n 0 p.handles each (λ i x at.
    ap (λ o. option_and_then (λ (q : ProcessState). slice_get q.handles (0 + i)) o) is ∙ subst (λ k. slice_get p.handles k ≡ Some x) (none i) at) in
    omega (arith, sum, lines_few 0 (length p.handles) xs)

-- ---- all processes

both_mades : (xs ys : List Share) → all_mades (map (λ s. s.mappings) (xs ++ ys)) ≡ all_mades (map (λ s. s.mappings) xs) + all_mades (map (λ s. s.mappings) ys)
both_mades [] ys = omega arith
both_mades (x ∷ xs) ys = omega (arith, both_mades xs ys)

-- how often the number is one of so many from n on
abbrev ones : ℕ → ℕ → ℕ → ℕ
ones at n zero = 0
ones at n (suc k) = one_if (eqb n at) + ones at (n + 1) k

ones_there : (at n k i : ℕ) → n + i ≡ at → i < k → 1 ≤ ones at n k
ones_there at n zero i is within = absurd (omega (arith, within))
ones_there at n (suc k) zero is within =
    let here = ap one_if (eq-eqb n at (omega (arith, is))) in
    omega (arith, here)
ones_there at n (suc k) (suc i) is within = omega (arith, ones_there at (n + 1) k i (omega (arith, is)) (omega (arith, within)))

sum_in : (w : WorldState) (rows : List (List Inner)) (at n : ℕ) (ps : List ProcessState) →
    ((i : ℕ) (p : ProcessState) → slice_get w.guest.processes i ≡ Some p → all_mades (map (λ s. s.mappings) (shares_from w rows i 0 p.handles)) + one_if (eqb i at) ≤ 1024) →
    ((i : ℕ) (p : ProcessState) → slice_get ps i ≡ Some p → slice_get w.guest.processes (n + i) ≡ Some p) → all_mades (map (λ s. s.mappings) (all_shares w rows n ps)) + ones at n (length ps) ≤ 1024 * length ps
sum_in w rows at n [] each there = omega arith
sum_in w rows at n (p ∷ ps) each there =
    let start : n + 0 ≡ n = omega arith in
    let next : (i : ℕ) → n + suc i ≡ (n + 1) + i = λ i. omega arith in
    let here : slice_get w.guest.processes n ≡ Some p = subst (λ k. slice_get w.guest.processes k ≡ Some p) start (there 0 p refl) in
    let first = each n p here in
    let rest = sum_in w rows at (n + 1) ps each (λ i q is. subst (λ k. slice_get w.guest.processes k ≡ Some q) (next i) (there (suc i) q is)) in
    omega (arith, first, rest, both_mades (shares_from w rows n 0 p.handles) (all_shares w rows (n + 1) ps))

take_few : (k : ℕ) (ls : List Line) → (length (take k ls) ≤ k) × (length (take k ls) ≤ length ls)
take_few zero ls = (omega arith, omega arith)
take_few (suc k) [] = (omega arith, omega arith)
take_few (suc k) (l ∷ ls) = let rest : _ = take_few k ls in (omega (arith, rest.0), omega (arith, rest.1))

-- where the first request is of a process, the journal tells of fewer mappings than there may be
pub few_mapped : (w : WorldState) (rows : List (List Inner)) (at : ℕ) (m : Posting) → IsSoundBy w rows → at < length w.guest.processes → out_of w at ≡ Asked m → is_crossing (process_at w.guest at).status ≡ true → map_count w.host.device.region.journal < 16384
few_mapped w rows at m sound within out crosses =
    let all = deals_mades [] w.host.device.region.journal (map (λ s. s.mappings) (all_shares w rows 0 w.guest.processes)) sound.mapped.lives sound.mapped.deals in
    let none : (i : ℕ) → i ≡ 0 + i = λ i. omega arith in
    let sum = sum_in w rows at 0 w.guest.processes (λ i p is. each_few i p is (cases_eq i at)) (λ i p is. subst (λ k. slice_get w.guest.processes k ≡ Some p) (none i) is) in
    let one = ones_there at 0 (length w.guest.processes) at (omega arith) within in
    let few : length w.guest.processes ≤ 16 = sound.lines.few in
    omega (arith, all, sum, one, few)
  where
    lines_limit : (i : ℕ) → i < length w.guest.processes → length (lines_at w.script i).lines ≤ 1024
    lines_limit i there =
        let fit : IsFitProcess (lines_at w.script i) = All-get_or IsFitProcess w.script.processes i no_lines (omega (arith, there, sound.lines.count)) sound.script.fit.each in
        fit.limit

    each_few : (i : ℕ) (p : ProcessState) → slice_get w.guest.processes i ≡ Some p → (i ≡ at) ⊎ ¬ (i ≡ at) → all_mades (map (λ s. s.mappings) (shares_from w rows i 0 p.handles)) + one_if (eqb i at) ≤ 1024
    each_few i p is (inr other) =
        let q : ProcessState = process_at w.guest i in
        let ls : List Line = (lines_at w.script i).lines in
        let there : i < length w.guest.processes = slice_get_within w.guest.processes i p is in
        let sum = process_sum w rows (take (begun q) ls) i p is (λ k named. (out_begun w rows i k (out_at w i k) sound named refl (sound.slices i k named).out).few) in
        let off = ap one_if (ne_eqb i at other) in
        omega (arith, sum, off, (take_few (begun q) ls).1, lines_limit i there)
    each_few i p is (inl same) =
        let q : ProcessState = process_at w.guest i in
        let ls : List Line = (lines_at w.script i).lines in
        let there : i < length w.guest.processes = slice_get_within w.guest.processes i p is in
        let here : out_of w i ≡ Asked m = ap (out_of w) same ∙ out in
        let came : begun q ≡ suc q.answered = crossing_begun q.status q.answered (ap (λ k. is_crossing (process_at w.guest k).status) same ∙ crosses) in
        let sum = process_sum w rows (take q.answered ls) i p is (λ k named.
        (let few = answered_few w rows i k sound named in
        let zero_more = ap one_in (asked_none w rows i k m sound named here) in
        omega (arith, few, zero_more))) in
        let on = ap one_if (eq-eqb i at same) in
        omega (arith, sum, on, (take_few q.answered ls).0, came, (sound.lines.orderly i there).within, lines_limit i there)
