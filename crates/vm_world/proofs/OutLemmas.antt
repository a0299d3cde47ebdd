-- Lemmas on the chains that are taken and not finished: they are those of the calls that wait.
use Rattle.std.proofs.Common.{◌≡◌, ◌≢◌, ℕ, suc, ◌+◌, ◌-◌, ◌≤◌, ◌==◌, Bool, true, false, not, nat_lt, List, [], ◌∷◌, ◌++◌, length, map, Option, Some, None, refl, sym, ap, ◌∙◌, subst, arith, if◌then◌else◌}
use Rattle.std.specs.List.{All, Contains, find, sum_by}
use Rattle.std.specs.Option.{option_map_or, option_or}
use Rattle.std.proofs.lemmas.Bool.{eq-eqb, ne_eqb, eqb-true}
use Rattle.std.proofs.lemmas.List.Elements.{All-head, All-tail, All-nil, All-cons, All-weaker}
use Rattle.std.proofs.lemmas.List.Folds.{find-append}
use Rattle.std.proofs.lemmas.List.Sums.{sum_by-cons, sum_by_push}
use Rattle.vm_link.specs.Queue.{count_at, without}
use Rattle.vm_link.specs.declared.chains.OutChain.{OutChain}
use Rattle.vm_host.specs.Host.{with_call, without_call, waiting_for}
use Rattle.vm_host.specs.declared.waiting.Waiting.{Waiting}
use Rattle.vm_world.specs.Carried.{ApartFrom, HaveOwnHeads, IsOutAs, KeepsOut}

-- ---- lists of calls that wait

abbrev count_of : Waiting → ℕ
count_of w = length w.parcel.table

abbrev counts : List Waiting → ℕ
counts ws = sum_by (λ w. length w.parcel.table) ws

put_if : (P : Waiting → Type 0) (b : Bool) (c w : Waiting) (ws put : List Waiting) → P c → All P (w ∷ ws) → All P put → All P (if b then w ∷ put else c ∷ (w ∷ ws))
put_if P true c w ws put one each rest = All-cons P w put (All-head P w ws each) rest
put_if P false c w ws put one each rest = All-cons P c (w ∷ ws) one each

-- what holds of a call and of those that wait holds of all once it waits too
pub all_with : (P : Waiting → Type 0) (c : Waiting) (ws : List Waiting) → P c → All P ws → All P (with_call c ws)
all_with P c [] one each = All-cons P c [] one (All-nil P)
all_with P c (w ∷ ws) one each = put_if P (nat_lt w.session c.session) c w ws (with_call c ws) one each (all_with P c ws one (All-tail P w ws each))

out_if : (P : Waiting → Type 0) (b : Bool) (w : Waiting) (ws out : List Waiting) → All P (w ∷ ws) → All P out → All P (if b then ws else w ∷ out)
out_if P true w ws out each rest = All-tail P w ws each
out_if P false w ws out each rest = All-cons P w out (All-head P w ws each) rest

pub all_without : (P : Waiting → Type 0) (session : ℕ) (ws : List Waiting) → All P ws → All P (without_call session ws)
all_without P session [] each = All-nil P
all_without P session (w ∷ ws) each = out_if P (w.session == session) w ws (without_call session ws) each (all_without P session ws (All-tail P w ws each))

-- the call that is found is one of those that wait
found_flag : (P : Waiting → Type 0) (b : Bool) (v w : Waiting) (o : Option Waiting) → P v → (o ≡ Some w → P w) → (if b then Some v else o) ≡ Some w → P w
found_flag P true v w o first rest at = let same : v ≡ w = cc in subst P same first
found_flag P false v w o first rest at = rest at

pub found_all : (P : Waiting → Type 0) (session : ℕ) (ws : List Waiting) (w : Waiting) → All P ws → waiting_for session ws ≡ Some w → P w
found_all P session [] w each is = cc
found_all P session (v ∷ vs) w each is =
    found_flag P (v.session == session) v w (waiting_for session vs) (All-head P v vs each) (found_all P session vs w (All-tail P v vs each)) is

-- it is of the session
session_flag : (b : Bool) (session : ℕ) (v w : Waiting) (o : Option Waiting) → (v.session == session) ≡ b → (o ≡ Some w → w.session ≡ session) → (if b then Some v else o) ≡ Some w → w.session ≡ session
session_flag true session v w o flag rest at = let same : v ≡ w = cc in ap (λ (x : Waiting). x.session) (sym same) ∙ eqb-true v.session session flag
session_flag false session v w o flag rest at = rest at

pub found_session : (session : ℕ) (ws : List Waiting) (w : Waiting) → waiting_for session ws ≡ Some w → w.session ≡ session
found_session session [] w is = cc
found_session session (v ∷ vs) w is = session_flag (v.session == session) session v w (waiting_for session vs) refl (found_session session vs w) is

with_flag : (b : Bool) (c w : Waiting) (ws put : List Waiting) → counts put ≡ count_of c + counts ws → counts (if b then w ∷ put else c ∷ (w ∷ ws)) ≡ count_of c + counts (w ∷ ws)
with_flag true c w ws put rest = omega (arith, sum_by-cons count_of w put, sum_by-cons count_of w ws, rest)
with_flag false c w ws put rest = sum_by-cons count_of c (w ∷ ws)

counts_with : (c : Waiting) (ws : List Waiting) → counts (with_call c ws) ≡ count_of c + counts ws
counts_with c [] = omega (arith, sum_by-cons count_of c [])
counts_with c (w ∷ ws) = with_flag (nat_lt w.session c.session) c w ws (with_call c ws) (counts_with c ws)

without_flag : (b : Bool) (v w : Waiting) (o : Option Waiting) (vs out : List Waiting) → (o ≡ Some w → counts out + count_of w ≡ counts vs) → (if b then Some v else o) ≡ Some w
    → counts (if b then vs else v ∷ out) + count_of w ≡ counts (v ∷ vs)
without_flag true v w o vs out rest at =
    let same : v ≡ w = cc in
    let count : count_of v ≡ count_of w = ap count_of same in
    omega (arith, sum_by-cons count_of v vs, count)
without_flag false v w o vs out rest at = (let less = rest at in omega (arith, sum_by-cons count_of v vs, sum_by-cons count_of v out, less))

counts_without : (session : ℕ) (ws : List Waiting) (w : Waiting) → waiting_for session ws ≡ Some w → counts (without_call session ws) + count_of w ≡ counts ws
counts_without session [] w is = cc
counts_without session (v ∷ vs) w is = without_flag (v.session == session) v w (waiting_for session vs) vs (without_call session vs) (counts_without session vs w) is

-- ---- no two have one head

abbrev differs : ℕ → Waiting → Type 0
differs head w = w.head ≢ head

own_flag : (b : Bool) (c w : Waiting) (ws put : List Waiting) → ApartFrom c.head (w ∷ ws) → HaveOwnHeads (w ∷ ws) → ApartFrom w.head put → HaveOwnHeads put → HaveOwnHeads (if b then w ∷ put else c ∷ (w ∷ ws))
own_flag true c w ws put apart own first rest = (first, rest)
own_flag false c w ws put apart own first rest = (apart, own)

own_with : (c : Waiting) (ws : List Waiting) → ApartFrom c.head ws → HaveOwnHeads ws → HaveOwnHeads (with_call c ws)
own_with c [] apart own = (All-nil (differs c.head), tt)
own_with c (w ∷ ws) apart own =
    own_flag (nat_lt w.session c.session) c w ws (with_call c ws) apart own
    (all_with (differs w.head) c ws (λ same. All-head (differs c.head) w ws apart (sym same)) own.0)
    (own_with c ws (All-tail (differs c.head) w ws apart) own.1)

own_out_flag : (b : Bool) (w : Waiting) (ws out : List Waiting) → HaveOwnHeads ws → ApartFrom w.head out → HaveOwnHeads out → HaveOwnHeads (if b then ws else w ∷ out)
own_out_flag true w ws out own first rest = own
own_out_flag false w ws out own first rest = (first, rest)

own_without : (session : ℕ) (ws : List Waiting) → HaveOwnHeads ws → HaveOwnHeads (without_call session ws)
own_without session [] own = tt
own_without session (w ∷ ws) own =
    own_out_flag (w.session == session) w ws (without_call session ws) own.1 (all_without (differs w.head) session ws own.0) (own_without session ws own.1)

apart_flag : (b : Bool) (v w : Waiting) (o : Option Waiting) (vs out : List Waiting) → ApartFrom v.head vs → (o ≡ Some w → differs w.head v) → (o ≡ Some w → ApartFrom w.head out)
    → (if b then Some v else o) ≡ Some w → ApartFrom w.head (if b then vs else v ∷ out)
apart_flag true v w o vs out own first rest at = let same : v ≡ w = cc in subst (λ (x : Waiting). ApartFrom x.head vs) same own
apart_flag false v w o vs out own first rest at = All-cons (differs w.head) v out (first at) (rest at)

-- the call that is found is apart from the others
apart_without : (session : ℕ) (ws : List Waiting) (w : Waiting) → HaveOwnHeads ws → waiting_for session ws ≡ Some w → ApartFrom w.head (without_call session ws)
apart_without session [] w own is = cc
apart_without session (v ∷ vs) w own is =
    apart_flag (v.session == session) v w (waiting_for session vs) vs (without_call session vs) own.0
    (λ at same. found_all (differs v.head) session vs w own.0 at (sym same)) (apart_without session vs w own.1) is

-- ---- chains by their heads

abbrev is_at : ℕ → OutChain → Bool
is_at head o = o.head == head

abbrev heads_in : List OutChain → List ℕ
heads_in out = map (λ o. o.head) out

head_first : (head : ℕ) (o : OutChain) (os : List OutChain) → (o.head == head) ≡ true → Contains (heads_in (o ∷ os)) head
head_first head o os flag = (0, omega arith, eqb-true o.head head flag)

head_behind : (head : ℕ) (o : OutChain) (os : List OutChain) → Contains (heads_in os) head → Contains (heads_in (o ∷ os)) head
head_behind head o os at = (suc at.0, omega (arith, at.1), at.2)

head_flag : (b : Bool) (head : ℕ) (o c : OutChain) (os : List OutChain) → (o.head == head) ≡ b → (find (is_at head) os ≡ Some c → Contains (heads_in os) head)
    → (if b then Some o else find (is_at head) os) ≡ Some c → Contains (heads_in (o ∷ os)) head
head_flag true head o c os flag rest at = head_first head o os flag
head_flag false head o c os flag rest at = head_behind head o os (rest at)

found_head : (head : ℕ) (out : List OutChain) (c : OutChain) → find (is_at head) out ≡ Some c → Contains (heads_in out) head
found_head head [] c is = cc
found_head head (o ∷ os) c is = head_flag (o.head == head) head o c os refl (found_head head os c) is

none_flag : (b : Bool) (head : ℕ) (o : OutChain) (os : List OutChain) → (o.head == head) ≡ b → ¬ Contains (heads_in (o ∷ os)) head → find (is_at head) os ≡ None
    → (if b then Some o else find (is_at head) os) ≡ None
none_flag true head o os flag never rest = absurd (never (head_first head o os flag))
none_flag false head o os flag never rest = rest

none_at : (head : ℕ) (out : List OutChain) → ¬ Contains (heads_in out) head → find (is_at head) out ≡ None
none_at head [] never = refl
none_at head (o ∷ os) never = none_flag (o.head == head) head o os refl never (none_at head os (λ at. never (head_behind head o os at)))

still_flag : (b : Bool) (head gone : ℕ) (o : OutChain) (os left : List OutChain) → head ≢ gone → (o.head == gone) ≡ b → find (is_at head) left ≡ find (is_at head) os
    → find (is_at head) (if not b then o ∷ left else left) ≡ (if o.head == head then Some o else find (is_at head) os)
still_flag true head gone o os left other flag rest =
    let differ : (o.head == head) ≡ false = ne_eqb o.head head (λ same. other (sym same ∙ eqb-true o.head gone flag)) in
    rest ∙ sym (ap (λ b. if b then Some o else find (is_at head) os) differ)
still_flag false head gone o os left other flag rest = ap (λ x. if o.head == head then Some o else x) rest

-- another one is still found once this one is gone
found_still : (head gone : ℕ) (out : List OutChain) → head ≢ gone → find (is_at head) (without gone out) ≡ find (is_at head) out
found_still head gone [] other = refl
found_still head gone (o ∷ os) other = still_flag (o.head == gone) head gone o os (without gone os) other refl (found_still head gone os other)

abbrev own_count : OutChain → ℕ
own_count o = o.count

abbrev all_counts : List OutChain → ℕ
all_counts out = sum_by (λ o. o.count) out

abbrev count_in : Option OutChain → ℕ
count_in o = option_map_or (λ (c : OutChain). c.count) o 0

fewer_flag : (b : Bool) (o : OutChain) (os left : List OutChain) → all_counts left ≤ all_counts os → all_counts (if not b then o ∷ left else left) ≤ all_counts (o ∷ os)
fewer_flag true o os left rest = omega (arith, rest, sum_by-cons own_count o os)
fewer_flag false o os left rest = omega (arith, rest, sum_by-cons own_count o os, sum_by-cons own_count o left)

fewer : (head : ℕ) (out : List OutChain) → all_counts (without head out) ≤ all_counts out
fewer head [] = omega arith
fewer head (o ∷ os) = fewer_flag (o.head == head) o os (without head os) (fewer head os)

counted_flag : (b : Bool) (o : OutChain) (x : Option OutChain) (os left : List OutChain) → all_counts left ≤ all_counts os → all_counts left + count_in x ≤ all_counts os
    → all_counts (if not b then o ∷ left else left) + count_in (if b then Some o else x) ≤ all_counts (o ∷ os)
counted_flag true o x os left less rest = omega (arith, less, sum_by-cons own_count o os)
counted_flag false o x os left less rest = omega (arith, rest, sum_by-cons own_count o os, sum_by-cons own_count o left)

counted : (head : ℕ) (out : List OutChain) → all_counts (without head out) + count_at head out ≤ all_counts out
counted head [] = omega arith
counted head (o ∷ os) = counted_flag (o.head == head) o (find (is_at head) os) os (without head os) (fewer head os) (counted head os)

-- ---- the calls' chains

pub is_out : (out : List OutChain) (w : Waiting) → IsOutAs out w → Contains (heads_in out) w.head
is_out out w is = found_head w.head out (record { head = w.head; count = length w.parcel.table }) is

still_out : (out : List OutChain) (c : OutChain) (w : Waiting) → IsOutAs out w → IsOutAs (out ++ c ∷ []) w
still_out out c w is = find-append (is_at w.head) out (c ∷ []) ∙ ap (λ o. option_or o (find (is_at w.head) (c ∷ []))) is

-- a call whose chain was taken under a fresh head waits
pub waits_out : (out : List OutChain) (ws : List Waiting) (c : Waiting) → KeepsOut out ws → ¬ Contains (heads_in out) c.head
    → KeepsOut (out ++ record { head = c.head; count = length c.parcel.table } ∷ []) (with_call c ws)
waits_out out ws c keeps fresh =
    let o : OutChain = record { head = c.head; count = length c.parcel.table } in
    let apart : ApartFrom c.head ws =
    All-weaker (IsOutAs out) (λ (w : Waiting). w.head ≢ c.head) (λ w is same. fresh (subst (λ n. Contains (heads_in out) n) same (is_out out w is))) ws keeps.each in
    let here : (if c.head == c.head then Some o else None) ≡ Some o = ap (λ b. if b then Some o else None) (eq-eqb c.head c.head refl) in
    let new : IsOutAs (out ++ o ∷ []) c =
    find-append (is_at c.head) out (o ∷ []) ∙ ap (λ x. option_or x (find (is_at c.head) (o ∷ []))) (none_at c.head out fresh) ∙ here in
    record {
      each = all_with (IsOutAs (out ++ o ∷ [])) c ws new (All-weaker (IsOutAs out) (IsOutAs (out ++ o ∷ [])) (λ w is. still_out out o w is) ws keeps.each);
      apart = own_with c ws apart keeps.apart;
      total = omega (arith, keeps.total, counts_with c ws, sum_by_push (λ (x : OutChain). x.count) out o);
    }

-- how many descriptors the chain of a call has
pub count_out : (out : List OutChain) (w : Waiting) → IsOutAs out w → count_at w.head out ≡ length w.parcel.table
count_out out w is = ap count_in is

-- a call that waited goes on, and its chain is finished
pub goes_on_out : (out : List OutChain) (ws : List Waiting) (session : ℕ) (w : Waiting) → KeepsOut out ws → waiting_for session ws ≡ Some w
    → KeepsOut (without w.head out) (without_call session ws)
goes_on_out out ws session w keeps found =
    let rest : List Waiting = without_call session ws in
    let each : All (IsOutAs out) rest = all_without (IsOutAs out) session ws keeps.each in
    let apart : ApartFrom w.head rest = apart_without session ws w keeps.apart found in
    let count : count_at w.head out ≡ length w.parcel.table = count_out out w (found_all (IsOutAs out) session ws w keeps.each found) in
    record {
      each = λ k d within. found_still _ w.head out (apart k d within) ∙ each k d within;
      apart = own_without session ws keeps.apart;
      total = omega (arith, keeps.total, counted w.head out, count, counts_without session ws w found);
    }
