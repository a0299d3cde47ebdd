-- What the driver's functions find in its lists.
use Rattle.std.proofs.Common.{◌≡◌, ◌<◌, ◌≤◌, ◌+◌, ◌^◌, ◌&&◌, ℕ, zero, suc, true, false, List, [], ◌∷◌, length, take, nat_lt, is_some, slice_get, Bool, cond, Option, Some, None, get_or, set, inl, inr, refl, sym, ap, subst, ◌∙◌, arith}
use Rattle.std.specs.Option.{unwrap_or}
use Rattle.std.proofs.lemmas.List.{get_or_past, get_or_read, set-get_or, length-map}
use Rattle.std.proofs.lemmas.Bool.{cases_lt, lt-ltb, le-ltb}
use Rattle.std.proofs.lemmas.Option.{get_or_from_slice_get, slice_get_past, slice_get_within, unwrap_or-slice_get}
use Rattle.vm_script.specs.Script.{ScriptLines}
use Rattle.vm_script.specs.declared.line.Line.{Line}
use Rattle.vm_guest.specs.Asking.{statements_of}
use Rattle.vm_guest.specs.Events.{is_overtaken}
use Rattle.vm_guest.specs.Guest.{GuestState, no_process, process_in, process_at, with_process}
use Rattle.vm_guest.specs.Orderly.{HasOrder, AreInOrder, IsDriver, IsSeat, lines_at, is_raw_statement, is_raw_answered, is_raw_at}
use Rattle.vm_guest.specs.Process.{ProcessState, begun, is_at_rest, crossing_call}
use Rattle.vm_guest.specs.declared.asked.Asked.{Asked}
use Rattle.vm_guest.specs.declared.asked.Statement.{Statement}
use Rattle.vm_guest.specs.declared.seat.Seat.{Seat}

-- ---- what is found, and what isn't

pub found_process : (processes : List ProcessState) (n : ℕ) (p : ProcessState) → Some p ≡ slice_get processes n → process_in processes n ≡ p
found_process processes n p found = get_or_from_slice_get processes n p no_process (sym found)

pub no_process_in : (processes : List ProcessState) (n : ℕ) → None ≡ slice_get processes n → process_in processes n ≡ no_process
no_process_in processes n none = sym (unwrap_or-slice_get processes n no_process) ∙ ap (λ (o : Option ProcessState). unwrap_or o no_process) (sym none)

-- ---- the driver's processes are orderly

pub driver_in_order : (script : ScriptLines) (g : GuestState) → IsDriver script g → AreInOrder g.processes
driver_in_order script g driver = λ n within. (script.model, lines_at script n, driver.orderly n within)

pub driver_order : (script : ScriptLines) (g : GuestState) (n : ℕ) → IsDriver script g → n < length g.processes → HasOrder (process_at g n)
driver_order script g n driver within = (script.model, lines_at script n, driver.orderly n within)

-- ---- a process that is read

pub read_process : (processes : List ProcessState) (n : ℕ) (p : ProcessState) → n < length processes → p ≡ get_or processes n p → process_in processes n ≡ p
read_process processes n p within is = sym (get_or_read processes n p within is no_process)

pub past_process : (processes : List ProcessState) (n : ℕ) → length processes ≤ n → process_in processes n ≡ no_process
past_process processes n past = get_or_past processes n no_process past

-- where a process is as before, so are all
pub same_processes : (g : GuestState) (n : ℕ) (p : ProcessState) → process_at g n ≡ p → with_process g n p ≡ g
same_processes g n p is = ap (λ (xs : List ProcessState). record g { processes = xs }) (ap (λ (x : ProcessState). set g.processes n x) (sym is) ∙ set-get_or g.processes n no_process)

-- ---- how many lines a process has

begun_by : (status : Bool) (n : ℕ) → n ≤ cond status n (n + 1)
begun_by true n = omega arith
begun_by false n = omega arith

pub few_begun : (p : ProcessState) → HasOrder p → begun p < 2 ^ 32
few_begun p order = let within = order.2.within in let limit = order.2.fit.limit in omega arith

pub few_answered : (p : ProcessState) → HasOrder p → p.answered < 2 ^ 32
few_answered p order = let most = begun_by (is_at_rest p.status) p.answered in let few = few_begun p order in omega arith

-- ---- an event is told

-- the process of a seat is orderly
pub seat_order : (processes : List ProcessState) (seat : Seat) (p : ProcessState) → AreInOrder processes → IsSeat processes seat → p ≡ get_or processes seat.process p → HasOrder p
seat_order processes seat p orderly within at =
    subst (λ (x : ProcessState). HasOrder x) (read_process processes seat.process p within.0 at) (orderly seat.process within.0)

-- what is held back is told by the call that is on its way, where the process is found
pub overtaken_by : (processes : List ProcessState) (seat : Seat) (p : ProcessState) (o : Option Asked) → Some p ≡ slice_get processes seat.process → o ≡ crossing_call p →
    is_overtaken o seat.handle ≡ is_overtaken (crossing_call (process_in processes seat.process)) seat.handle
overtaken_by processes seat p o found is =
    ap (λ (x : Option Asked). is_overtaken x seat.handle) (is ∙ sym (ap crossing_call (found_process processes seat.process p found)))

pub overtaken_nowhere : (processes : List ProcessState) (seat : Seat) → None ≡ slice_get processes seat.process → false ≡ is_overtaken (crossing_call (process_in processes seat.process)) seat.handle
overtaken_nowhere processes seat none = sym (ap (λ (p : ProcessState). is_overtaken (crossing_call p) seat.handle) (no_process_in processes seat.process none))

-- ---- answered raw lines

nat_lt_suc : (k n : ℕ) → nat_lt (suc k) (suc n) ≡ nat_lt k n
nat_lt_suc k n = elim (cases_lt k n) as (λ _. nat_lt (suc k) (suc n) ≡ nat_lt k n) [
  | inl w ↦ lt-ltb (suc k) (suc n) (omega arith) ∙ sym (lt-ltb k n w)
  | inr w ↦ le-ltb (suc k) (suc n) (omega arith) ∙ sym (le-ltb k n w)
]

pub none_past : (k n : ℕ) → (nat_lt k n && is_raw_statement None) ≡ false
none_past k n = elim (nat_lt k n) as (λ (b : Bool). (b && is_raw_statement None) ≡ false) [ true ↦ refl | false ↦ refl ]

raw_in_lines : (ls : List Line) (n k : ℕ) → is_raw_at (take n ls) k ≡ (nat_lt k n && is_raw_statement (slice_get (statements_of ls) k))
raw_in_lines [] zero k = sym (none_past k 0)
raw_in_lines [] (suc n) k = sym (none_past k (suc n))
raw_in_lines (l ∷ ls) zero k = let e : nat_lt k 0 ≡ false = le-ltb k 0 (omega arith) in rw e refl
raw_in_lines (l ∷ ls) (suc n) zero = let e : nat_lt 0 (suc n) ≡ true = lt-ltb 0 (suc n) (omega arith) in rw e refl
raw_in_lines (l ∷ ls) (suc n) (suc k) =
    raw_in_lines ls n k ∙ ap (λ (b : Bool). b && is_raw_statement (slice_get (statements_of ls) k)) (sym (nat_lt_suc k n))

raw_past : (p : ProcessState) (lines : List Line) (k : ℕ) → p.statements ≡ statements_of lines → length lines ≤ k → is_raw_answered p k ≡ false
raw_past p lines k same past =
    let long : length p.statements ≤ k = rw (same, length-map) past in
    rw (slice_get_past p.statements k long) (none_past k p.answered)

pub raw_is_answered : (p : ProcessState) (k : ℕ) → HasOrder p → is_some (get_or p.raws k None) ≡ is_raw_answered p k
raw_is_answered p k order =
    let o = order.2 in
    let lines : List Line = order.1.lines in
    elim (cases_lt k (length p.raws)) as (λ _. is_some (get_or p.raws k None) ≡ is_raw_answered p k) [
      | inl w ↦ o.raws k w ∙ (raw_in_lines lines p.answered k ∙ ap (λ (xs : List Statement). nat_lt k p.answered && is_raw_statement (slice_get xs k)) (sym o.statements))
      | inr w ↦ ap is_some (get_or_past p.raws k None w) ∙ sym (raw_past p lines k o.statements (rw (← o.all_raws) w))
    ]

-- the process that is read in the driver's list is the one in the place
pub stands_in : (g w : GuestState) (n : ℕ) (p : ProcessState) → g ≡ w → n < length w.processes → p ≡ get_or g.processes n p → process_at w n ≡ p
stands_in g w n p same within at =
    sym (ap (λ (x : GuestState). process_at x n) same) ∙ read_process g.processes n p (subst (λ (x : GuestState). n < length x.processes) (sym same) within) at

-- ---- a process that is looked up

pub found_order : (script : ScriptLines) (g : GuestState) (n : ℕ) (p : ProcessState) → IsDriver script g → Some p ≡ slice_get g.processes n → HasOrder p
found_order script g n p driver found =
    subst (λ (x : ProcessState). HasOrder x) (found_process g.processes n p found) (driver_order script g n driver (slice_get_within g.processes n p (sym found)))

pub found_at : (g w : GuestState) (n : ℕ) (p : ProcessState) → g ≡ w → Some p ≡ slice_get g.processes n → process_at w n ≡ p
found_at g w n p same found = sym (ap (λ (x : GuestState). process_at x n) same) ∙ found_process g.processes n p found

pub none_at : (g w : GuestState) (n : ℕ) → g ≡ w → None ≡ slice_get g.processes n → process_at w n ≡ no_process
none_at g w n same none = sym (ap (λ (x : GuestState). process_at x n) same) ∙ no_process_in g.processes n none
