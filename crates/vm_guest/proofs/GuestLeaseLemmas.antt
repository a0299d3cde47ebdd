-- A line that touches a memory's bytes is begun and answered.
use Rattle.std.proofs.Common.{◌≡◌, ◌<◌, ◌≤◌, ◌^◌, ◌↔◌, ℕ, Bool, true, false, length, get_or, Option, Some, Result, Ok, Err, IsErr, OnOk, OnErr, refl, sym, ap, subst, ◌∙◌}
use Rattle.vm_lease.specs.Lease.{LeaseParts}
use Rattle.vm_log.specs.Answers.{IsDone}
use Rattle.vm_log.specs.declared.leased.Leased.{Leased}
use Rattle.vm_script.specs.Script.{ScriptLines}
use Rattle.vm_guest.specs.Guest.{GuestState, process_at, with_process}
use Rattle.vm_guest.specs.Lines.{LeasesCall, returned}
use Rattle.vm_guest.specs.Orderly.{IsDriver}
use Rattle.vm_guest.specs.Process.{ProcessState, leasing, lease_out, is_lent_for}
use Rattle.vm_guest.specs.Steps.{LeasesFor, Leases, given_back}
use Rattle.vm_guest.specs.declared.asked.Asked.{Asked}
use Rattle.vm_guest.proofs.GuestLemmas.{past_process, read_process, same_processes, stands_in}
use Rattle.vm_guest.proofs.OrderlyLemmas.{leasing_within, leases_driver, given_back_driver}

pub leases_some : (n : ℕ) (g : GuestState) (a : Asked) (leased : Leased) (p : ProcessState) (g' : GuestState) → leasing (process_at g n) ≡ Some a → LeasesCall a (process_at g n) leased p →
    g' ≡ with_process g n p → Leases n g leased g'
leases_some n g a leased p g' is call after = subst (λ (o : Option Asked). LeasesFor o n g leased g') (sym is) (p, call, after)

pub lent_past : (n : ℕ) (g : GuestState) (line : ℕ) → length g.processes ≤ n → is_lent_for (process_at g n) line ≡ false
lent_past n g line past = ap (λ (p : ProcessState). is_lent_for p line) (past_process g.processes n past)

-- ---- the process in its place

-- a process that leases is there
pub leases_within : (n : ℕ) (g w : GuestState) (a : Asked) → g ≡ w → leasing (process_at w n) ≡ Some a → n < length g.processes
leases_within n g w a same is = subst (λ (x : GuestState). n < length x.processes) (sym same) (leasing_within w n a is)

pub leases_there : (n : ℕ) (g w : GuestState) (p : ProcessState) (a : Asked) → g ≡ w → p ≡ get_or g.processes n p → leasing (process_at w n) ≡ Some a → leasing p ≡ Some a
leases_there n g w p a same at is = ap leasing (sym (stands_in g w n p same (leasing_within w n a is) at)) ∙ is

pub leases_at : (n : ℕ) (g w : GuestState) (p : ProcessState) (a : Asked) (leased : Leased) (p' : ProcessState) → g ≡ w → n < length g.processes → p ≡ get_or g.processes n p → Some a ≡ leasing p →
    LeasesCall a p leased p' → Leases n w leased (with_process g n p')
leases_at n g w p a leased p' same within at is call =
    let there = read_process g.processes n p within at in
    let here : Leases n g leased (with_process g n p') =
    leases_some n g a leased p' (with_process g n p') (ap leasing there ∙ sym is) (subst (λ (x : ProcessState). LeasesCall a x leased p') (sym there) call) refl in
    subst (λ (x : GuestState). Leases n x leased (with_process g n p')) same here

pub leases_is_driver : (script : ScriptLines) (n : ℕ) (g w : GuestState) (p : ProcessState) (a : Asked) (leased : Leased) (p' : ProcessState) → g ≡ w → n < length g.processes → p ≡ get_or g.processes n p →
    Some a ≡ leasing p → a.line < 2 ^ 32 → LeasesCall a p leased p' → IsDriver script w → IsDriver script (with_process g n p')
leases_is_driver script n g w p a leased p' same within at is short call driver =
    let there = read_process g.processes n p within at in
    leases_driver script g n a leased p' (subst (λ (x : GuestState). IsDriver script x) (sym same) driver) (ap leasing there ∙ sym is) short (subst (λ (x : ProcessState). LeasesCall a x leased p') (sym there) call)

-- ---- a lease comes back

-- The lease went to the process in its place, and this came of it.
pub record GivesBack (n : ℕ) (g w : GuestState) (p : ProcessState) (lease : LeaseParts) (result : Result (Unit {0}) LeaseParts) (p' : ProcessState) : Type 0 where
  pub same : g ≡ w
  pub within : n < length w.processes
  pub there : process_at w n ≡ p
  pub other : IsErr result ↔ (is_lent_for p lease.line ≡ false)
  pub ok : OnOk result (p' ≡ returned p lease)
  pub err : OnErr result (p' ≡ p)

not_false : (b : Bool) → ¬ (b ≡ false) → b ≡ true
not_false true false_is = refl
not_false false false_is = absurd (false_is refl)

pub gave_ok : (n : ℕ) (g w : GuestState) (p : ProcessState) (lease : LeaseParts) (result : Result (Unit {0}) LeaseParts) (p' : ProcessState) → GivesBack n g w p lease result p' → OnOk result (with_process g n p' ≡ given_back n w lease)
gave_ok n g w p lease (Ok u) p' b =
    ap (λ (x : ProcessState). with_process g n x) (b.ok ∙ ap (λ (x : ProcessState). returned x lease) (sym b.there)) ∙ ap (λ (x : GuestState). with_process x n (returned (process_at w n) lease)) b.same
gave_ok n g w p lease (Err l) p' b = tt

pub gave_err : (n : ℕ) (g w : GuestState) (p : ProcessState) (lease : LeaseParts) (result : Result (Unit {0}) LeaseParts) (p' : ProcessState) → GivesBack n g w p lease result p' → OnErr result (with_process g n p' ≡ w)
gave_err n g w p lease (Ok u) p' b = tt
gave_err n g w p lease (Err l) p' b =
    ap (λ (x : GuestState). with_process x n p') b.same ∙ same_processes w n p' (b.there ∙ sym b.err)

pub gave_is_driver : (script : ScriptLines) (n : ℕ) (g w : GuestState) (p : ProcessState) (lease : LeaseParts) (result : Result (Unit {0}) LeaseParts) (p' : ProcessState) → GivesBack n g w p lease result p' →
    (is_lent_for (process_at w n) lease.line ≡ true → IsDone (lease_out (process_at w n)) lease) → IsDriver script w → IsDriver script (with_process g n p')
gave_is_driver script n g w p lease (Ok u) p' b done driver =
    let lent : is_lent_for (process_at w n) lease.line ≡ true =
    ap (λ (x : ProcessState). is_lent_for x lease.line) b.there ∙ not_false (is_lent_for p lease.line) (λ false_is. (let e = b.other.1 false_is in cc)) in
    subst (λ (x : GuestState). IsDriver script x) (sym (gave_ok n g w p lease (Ok u) p' b)) (given_back_driver script w n lease driver lent (done lent))
gave_is_driver script n g w p lease (Err l) p' b done driver =
    subst (λ (x : GuestState). IsDriver script x) (sym (gave_err n g w p lease (Err l) p' b)) driver

pub gives_back : (n : ℕ) (g w : GuestState) (p : ProcessState) (lease : LeaseParts) (result : Result (Unit {0}) LeaseParts) (p' : ProcessState) → g ≡ w → n < length g.processes → p ≡ get_or g.processes n p →
    IsErr result ↔ (is_lent_for p lease.line ≡ false) → OnOk result (p' ≡ returned p lease) → OnErr result (p' ≡ p) → GivesBack n g w p lease result p'
gives_back n g w p lease result p' same within at other ok err =
    let within' : n < length w.processes = subst (λ (x : GuestState). n < length x.processes) same within in
    record { same = same; within = within'; there = stands_in g w n p same within' at; other = other; ok = ok; err = err }

-- the process may take it
pub may_take_back : (n : ℕ) (g w : GuestState) (p : ProcessState) (lease : LeaseParts) → g ≡ w → n < length g.processes → p ≡ get_or g.processes n p →
    (is_lent_for (process_at w n) lease.line ≡ true → IsDone (lease_out (process_at w n)) lease) → is_lent_for p lease.line ≡ true → IsDone (lease_out p) lease
may_take_back n g w p lease same within at done =
    let within' : n < length w.processes = subst (λ (x : GuestState). n < length x.processes) same within in
    subst (λ (x : ProcessState). is_lent_for x lease.line ≡ true → IsDone (lease_out x) lease) (stands_in g w n p same within' at) done

pub gave_other : (n : ℕ) (g w : GuestState) (p : ProcessState) (lease : LeaseParts) (result : Result (Unit {0}) LeaseParts) (p' : ProcessState) → GivesBack n g w p lease result p' →
    IsErr result ↔ (is_lent_for (process_at w n) lease.line ≡ false)
gave_other n g w p lease result p' b = subst (λ (x : ProcessState). IsErr result ↔ (is_lent_for x lease.line ≡ false)) (sym b.there) b.other
