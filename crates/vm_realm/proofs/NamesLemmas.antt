-- How many names of a handle are bound to the range at an address: no more than its log mapped there and didn't give back.
use Rattle.std.proofs.Common.{◌≡◌, ◌⊎◌, ℕ, zero, suc, ◌+◌, ◌≤◌, Bool, true, false, not, List, [], ◌∷◌, ◌++◌, Option, Some, None, length, refl, sym, ap, ◌∙◌, subst, arith, inl, inr, eqb, cond, if◌then◌else◌}
use Rattle.std.specs.Prelude.{◌&&◌, unwrap_or, bytes_eq}
use Rattle.std.specs.List.{filter, Contains}
use Rattle.std.specs.Option.{option_and_then}
use Rattle.std.proofs.lemmas.Bool.{false≢true, not-false, cond-true, eq-eqb, eqb-true, and_parts}
use Rattle.std.proofs.lemmas.Option.{none-some}
use Rattle.v4l_rules.specs.Refusals.{first_refusal}
use Rattle.vm_local.specs.declared.bound.Bound.{Bound}
use Rattle.vm_local.specs.declared.bound.BoundKind.{BoundKind}
use Rattle.vm_local.specs.declared.bound.BoundKind.TheVariants.{Mapping, User}
use Rattle.vm_local.specs.declared.buffer.Buffer.{Buffer}
use Rattle.vm_local.specs.declared.call.Call.{Call}
use Rattle.vm_local.specs.declared.call.Call.TheVariants.{OpenHandle, CloseHandle, QueryCap, EnumFmt, GFmt, TryFmt, SFmt, EnumInput, GInput, SInput, ReqBufs, QueryBuf, UAlloc, QBuf, StreamOn, StreamOff, DqBuf, Mmap, Munmap, Peek, Hash, Poke, Fill, Subscribe, Unsubscribe, DqEvent}
use Rattle.vm_local.specs.declared.entry.Entry.{Entry}
use Rattle.vm_local.specs.declared.entry.Entry.TheVariants.{Called, Finish, Bad, Give}
use Rattle.vm_local.specs.declared.owed.OwedItem.{OwedItem}
use Rattle.vm_local.specs.declared.owed.OwedItem.TheVariants.{Buffer as OwedBuffer, Sync}
use Rattle.vm_local.specs.declared.reply.Reply.{Reply}
use Rattle.vm_local.specs.declared.reply.Reply.TheVariants.{Done, Refused, Mapped}
use Rattle.vm_local.specs.State.{LocalState, queue_of, buffer_of}
use Rattle.vm_local.specs.Kinds.{is_mapping_kind}
use Rattle.vm_local.specs.Memory.{named_in, named, is_mapping, without_name, pages_of}
use Rattle.vm_local.specs.Queue.{with_buffers}
use Rattle.vm_local.specs.Same.{address_in}
use Rattle.vm_local.specs.Calls.{row_of, querycap_row, enumfmt_row, gfmt_row, tryfmt_row, sfmt_row, enuminput_row, ginput_row, sinput_row, reqbufs_row, querybuf_row, ualloc_row, qbuf_row, streamon_row, streamoff_row, dqbuf_row, mmap_row, munmap_row, read_row, hash_row, write_row, fill_row, subscribe_row, unsubscribe_row, dqevent_row}
use Rattle.vm_local.specs.Steps.{counted, item_given}
use Rattle.vm_local.specs.Log.{row_for, called, after, replay_from}
use Rattle.vm_local.proofs.StepLemmas.{passes, answered_by, done_by, Went, finished_by, failed_by, given_by}
use Rattle.vm_local.proofs.KeptLemmas.{some_same}
use Rattle.vm_home.specs.Moves.{memory_at}
use Rattle.vm_home.specs.Reached.{IsReached}
use Rattle.vm_home.proofs.FactLemmas.{reached_after}
use Rattle.vm_exchange.specs.Exchange.{address_of, address_of_kind}
use Rattle.vm_realm.specs.Mapped.{Mapping as Told, mapping_by, mapping_at, mappings_from}
use Rattle.vm_realm.specs.Mapped.Mapping.{Made, GivenBack}
use Rattle.vm_realm.proofs.FormatLemmas.{mapped_pages}

-- ---- what is counted

abbrev pub one_if_at : ℕ → ℕ → ℕ
one_if_at addr at = cond (eqb at addr) 1 0

-- the name is bound to the range at the address
abbrev pub one_at : ℕ → BoundKind → ℕ
one_at addr (Mapping at len writable) = one_if_at addr at
one_at addr (User line off) = 0

abbrev pub names_at : ℕ → List Bound → ℕ
names_at addr [] = 0
names_at addr (b ∷ bs) = one_at addr b.kind + names_at addr bs

-- how many mappings are told there, and how many that were given back
abbrev pub made_at : ℕ → List Told → ℕ
made_at addr [] = 0
made_at addr (Made at pages memory ∷ ms) = one_if_at addr at + made_at addr ms
made_at addr (GivenBack at ∷ ms) = made_at addr ms

abbrev pub given_at : ℕ → List Told → ℕ
given_at addr [] = 0
given_at addr (Made at pages memory ∷ ms) = given_at addr ms
given_at addr (GivenBack at ∷ ms) = one_if_at addr at + given_at addr ms

-- each mapping that is told has pages
abbrev pub HavePages : List Told → Type 0
HavePages [] = Unit {0}
HavePages (Made at pages memory ∷ ms) = (1 ≤ pages) × HavePages ms
HavePages (GivenBack at ∷ ms) = HavePages ms

pub made_both : (addr : ℕ) (ms ns : List Told) → made_at addr (ms ++ ns) ≡ made_at addr ms + made_at addr ns
made_both addr [] ns = omega arith
made_both addr (Made at pages memory ∷ ms) ns = omega (arith, made_both addr ms ns)
made_both addr (GivenBack at ∷ ms) ns = made_both addr ms ns

pub given_both : (addr : ℕ) (ms ns : List Told) → given_at addr (ms ++ ns) ≡ given_at addr ms + given_at addr ns
given_both addr [] ns = omega arith
given_both addr (Made at pages memory ∷ ms) ns = given_both addr ms ns
given_both addr (GivenBack at ∷ ms) ns = omega (arith, given_both addr ms ns)

pub pages_both : (ms ns : List Told) → HavePages ms → HavePages ns → HavePages (ms ++ ns)
pages_both [] ns first rest = rest
pages_both (Made at pages memory ∷ ms) ns first rest = (first.0, pages_both ms ns first.1 rest)
pages_both (GivenBack at ∷ ms) ns first rest = pages_both ms ns first rest

-- ---- names

names_append : (addr : ℕ) (bs cs : List Bound) → names_at addr (bs ++ cs) ≡ names_at addr bs + names_at addr cs
names_append addr [] cs = omega arith
names_append addr (b ∷ bs) cs = omega (arith, names_append addr bs cs)

kept_names : (addr : ℕ) (p : Bound → Bool) (bs : List Bound) → names_at addr (filter p bs) ≤ names_at addr bs
kept_names addr p [] = omega arith
kept_names addr p (b ∷ bs) = by_test (p b) (kept_names addr p bs)
  where
    by_test : (k : Bool) → names_at addr (filter p bs) ≤ names_at addr bs → names_at addr (cond k (b ∷ filter p bs) (filter p bs)) ≤ names_at addr (b ∷ bs)
    by_test true rest = omega (arith, rest)
    by_test false rest = omega (arith, rest)

-- a name that is bound anew adds what it is bound to
bound_more : (addr : ℕ) (bs : List Bound) (b : Bound) → names_at addr (without_name bs b.name ++ b ∷ []) ≤ names_at addr bs + one_at addr b.kind
bound_more addr bs b = omega (arith, names_append addr (without_name bs b.name) (b ∷ []), kept_names addr (λ c. not (bytes_eq c.name b.name)) bs)

mapping_one : (addr : ℕ) (kind : BoundKind) → is_mapping_kind kind ≡ true → one_if_at addr (address_of_kind kind) ≡ one_at addr kind
mapping_one addr (Mapping at len writable) is = refl
mapping_one addr (User line off) is = absurd (false≢true is)

-- a name that is unbound takes away what it was bound to
bound_less : (addr : ℕ) (bs : List Bound) (name : List ℕ) → is_mapping (named_in bs name) ≡ true → names_at addr (without_name bs name) + one_if_at addr (address_of (named_in bs name)) ≤ names_at addr bs
bound_less addr [] name is = absurd (false≢true is)
bound_less addr (b ∷ bs) name is = by_name (bytes_eq b.name name) is (bound_less addr bs name) (kept_names addr (λ c. not (bytes_eq c.name name)) bs)
  where
    by_name : (k : Bool) → is_mapping (cond k (Some b) (named_in bs name)) ≡ true
        → (is_mapping (named_in bs name) ≡ true → names_at addr (without_name bs name) + one_if_at addr (address_of (named_in bs name)) ≤ names_at addr bs)
        → names_at addr (without_name bs name) ≤ names_at addr bs
        → names_at addr (cond (not k) (b ∷ without_name bs name) (without_name bs name)) + one_if_at addr (address_of (cond k (Some b) (named_in bs name))) ≤ names_at addr (b ∷ bs)
    by_name true is rest few = omega (arith, few, mapping_one addr b.kind is)
    by_name false is rest few = omega (arith, rest is)

-- ---- a call

-- what a call binds at most
abbrev pub binds : ℕ → ℕ → Call → ℕ
binds addr at (Mmap m t i ro) = one_if_at addr at
binds addr at call = 0

row_names : (addr : ℕ) (s : LocalState) (line at : ℕ) (call : Call) → names_at addr (row_of s line at call).next.bound ≤ names_at addr s.bound + binds addr at call
unfolding querycap_row enumfmt_row gfmt_row tryfmt_row sfmt_row enuminput_row ginput_row sinput_row reqbufs_row querybuf_row ualloc_row qbuf_row streamon_row streamoff_row dqbuf_row mmap_row munmap_row read_row hash_row write_row fill_row subscribe_row unsubscribe_row dqevent_row with_buffers
row_names addr s line at (OpenHandle nonblock) = omega arith
row_names addr s line at CloseHandle = omega arith
row_names addr s line at QueryCap = omega arith
row_names addr s line at (EnumFmt t i) = omega arith
row_names addr s line at (GFmt t) = omega arith
row_names addr s line at (TryFmt t f w h) = omega arith
row_names addr s line at (SFmt t f w h) = omega arith
row_names addr s line at (EnumInput i) = omega arith
row_names addr s line at GInput = omega arith
row_names addr s line at (SInput i) = omega arith
row_names addr s line at (ReqBufs t m n) = omega arith
row_names addr s line at (QueryBuf t i) = omega arith
row_names addr s line at (UAlloc u len off) = omega (arith, bound_more addr s.bound (record { name = u; memory = length s.memories; kind = User line off }))
row_names addr s line at (QBuf t i user used ts) = omega arith
row_names addr s line at (StreamOn t) = omega arith
row_names addr s line at (StreamOff t) = omega arith
row_names addr s line at (DqBuf t) = omega arith
row_names addr s line at (Mmap m t i ro) =
    bound_more addr s.bound (record { name = m; memory = unwrap_or (buffer_of (queue_of s t) i).memory 0; kind = Mapping at (buffer_of (queue_of s t) i).length (not ro) })
row_names addr s line at (Munmap m) = omega (arith, kept_names addr (λ c. not (bytes_eq c.name m)) s.bound)
row_names addr s line at (Peek m off len) = omega arith
row_names addr s line at (Hash m) = omega arith
row_names addr s line at (Poke m off bytes) = omega arith
row_names addr s line at (Fill m seed) = omega arith
row_names addr s line at (Subscribe e) = omega arith
row_names addr s line at (Unsubscribe e) = omega arith
row_names addr s line at DqEvent = omega arith

-- ---- what an entry tells

-- the mappings that are told cover the names that come and go
pub record Covers (addr : ℕ) (s t : LocalState) (ms : List Told) : Type 0 where
  pub names : given_at addr ms + names_at addr t.bound ≤ made_at addr ms + names_at addr s.bound
  pub pages : HavePages ms

covers_less : (addr : ℕ) (s t : LocalState) → names_at addr t.bound ≤ names_at addr s.bound → Covers addr s t []
covers_less addr s t less = record { names = omega (arith, less); pages = tt }

covers_same : (addr : ℕ) (s t : LocalState) → t.bound ≡ s.bound → Covers addr s t []
covers_same addr s t same = covers_less addr s t (let few = ap (names_at addr) same in omega (arith, few))

-- a call of another kind, or with a reply of another kind, tells nothing
mapped_told : (s : LocalState) (addr at len : ℕ) (m : List ℕ) (t i : ℕ) (ro : Bool) (line : ℕ) (u : LocalState) → IsReached s → Went (first_refusal (mmap_row s at m t i ro).refusals) (mmap_row s at m t i ro) (Mapped at len) u →
    Covers addr s u (Made at (pages_of len) (memory_at s t i) ∷ [])
unfolding mmap_row
mapped_told s addr at len m t i ro line u reached went =
    let b : Buffer = buffer_of (queue_of s t) i in
    let same : (eqb at at && eqb b.length len) ≡ true = went.2 in
    let long : b.length ≡ len = eqb-true b.length len (and_parts (eqb at at) (eqb b.length len) same).1 in
    let some : 1 ≤ pages_of b.length = mapped_pages s at m t i ro reached went.0 in
    let pages : 1 ≤ pages_of len = subst (λ n. 1 ≤ pages_of n) long some in
    let few = row_names addr s line at (Mmap m t i ro) in
    let now = ap (λ (x : LocalState). names_at addr x.bound) went.3 in
    record { names = omega (arith, few, now); pages = (pages, tt) }

mmap_covers : (addr : ℕ) (s u : LocalState) (line : ℕ) (m : List ℕ) (t i : ℕ) (ro : Bool) (reply : Reply) → IsReached s → called s line (Mmap m t i ro) reply ≡ Some u → Covers addr s u (mapping_by s (Mmap m t i ro) reply)
unfolding called mmap_row
mmap_covers addr s u line m t i ro (Mapped at len) reached goes =
    mapped_told s addr at len m t i ro line u reached (done_by (first_refusal (mmap_row s at m t i ro).refusals) (mmap_row s at m t i ro) s (Mapped at len) u refl goes)
mmap_covers addr s u line m t i ro (Refused e) reached goes = by_answer (answered_by (first_refusal (mmap_row s 0 m t i ro).refusals) (mmap_row s 0 m t i ro) s (Refused e) u goes)
  where
    by_answer : (u ≡ s) ⊎ Went (first_refusal (mmap_row s 0 m t i ro).refusals) (mmap_row s 0 m t i ro) (Refused e) u → Covers addr s u []
    by_answer (inl same) = covers_same addr s u (ap (λ (x : LocalState). x.bound) same)
    by_answer (inr went) = absurd (false≢true went.2)
mmap_covers addr s u line m t i ro reply reached goes = by_answer (answered_by (first_refusal (mmap_row s 0 m t i ro).refusals) (mmap_row s 0 m t i ro) s reply u goes)
  where
    by_answer : (u ≡ s) ⊎ Went (first_refusal (mmap_row s 0 m t i ro).refusals) (mmap_row s 0 m t i ro) reply u → Covers addr s u []
    by_answer (inl same) = covers_same addr s u (ap (λ (x : LocalState). x.bound) same)
    by_answer (inr went) = absurd (false≢true went.2)

munmap_less : (addr : ℕ) (s u : LocalState) (line at : ℕ) (m : List ℕ) (reply : Reply) → (u ≡ s) ⊎ Went (first_refusal (munmap_row s m).refusals) (munmap_row s m) reply u → names_at addr u.bound ≤ names_at addr s.bound
munmap_less addr s u line at m reply (inl same) = let now = ap (λ (x : LocalState). names_at addr x.bound) same in omega (arith, now)
munmap_less addr s u line at m reply (inr went) =
    let now = ap (λ (x : LocalState). names_at addr x.bound) went.3 in
    let few = row_names addr s line at (Munmap m) in
    omega (arith, now, few)

munmap_covers : (addr : ℕ) (s u : LocalState) (line : ℕ) (m : List ℕ) (reply : Reply) → called s line (Munmap m) reply ≡ Some u → Covers addr s u (mapping_by s (Munmap m) reply)
unfolding called munmap_row
munmap_covers addr s u line m Done goes =
    let went : Went (first_refusal (munmap_row s m).refusals) (munmap_row s m) Done u = done_by (first_refusal (munmap_row s m).refusals) (munmap_row s m) s Done u refl goes in
    let mapping : is_mapping (named s m) ≡ true = not-false (is_mapping (named s m)) (passes (munmap_row s m).refusals went.0 0) in
    let less = bound_less addr s.bound m mapping in
    let now = ap (λ (x : LocalState). names_at addr x.bound) went.3 in
    record { names = omega (arith, less, now); pages = tt }
munmap_covers addr s u line m reply goes =
    covers_less addr s u (munmap_less addr s u line (address_in reply) m reply (answered_by (first_refusal (munmap_row s m).refusals) (munmap_row s m) s reply u goes))

-- any other call binds nothing and tells nothing
other_covers : (addr : ℕ) (s u : LocalState) (line : ℕ) (call : Call) (reply : Reply) → binds addr (address_in reply) call ≡ 0 → called s line call reply ≡ Some u → Covers addr s u []
unfolding called
other_covers addr s u line call reply none goes =
    elim (answered_by (first_refusal (row_for s line call reply).refusals) (row_for s line call reply) s reply u goes) as (λ _. Covers addr s u []) [
      | inl same ↦ covers_same addr s u (ap (λ (x : LocalState). x.bound) same)
      | inr went ↦ covers_less addr s u (let now = ap (λ (x : LocalState). names_at addr x.bound) went.3 in omega (arith, now, none, row_names addr s line (address_in reply) call))
    ]

call_covers : (addr : ℕ) (s u : LocalState) (line : ℕ) (call : Call) (reply : Reply) → IsReached s → called s line call reply ≡ Some u → Covers addr s u (mapping_by s call reply)
call_covers addr s u line (Mmap m t i ro) reply reached goes = mmap_covers addr s u line m t i ro reply reached goes
call_covers addr s u line (Munmap m) reply reached goes = munmap_covers addr s u line m reply goes
call_covers addr s u line call reply reached goes = other_covers addr s u line call reply refl goes

item_bound : (s : LocalState) (t : ℕ) (item : OwedItem) → (item_given s t item).bound ≡ s.bound
item_bound s t (OwedBuffer i) = refl
item_bound s t (Sync frame) =
    elim s.subscribed as (λ b. (if b then record s { events = s.events ++ (record { frame = frame; number = s.next_event }) ∷ []; next_event = counted s.next_event } else s).bound ≡ s.bound) [
      | true ↦ refl
      | false ↦ refl
    ]

pub entry_covers : (addr : ℕ) (s u : LocalState) (e : Entry) → IsReached s → after s e ≡ Some u → Covers addr s u (mapping_at s e)
entry_covers addr s u (Called line call reply) reached goes = call_covers addr s u line call reply reached goes
entry_covers addr s u Finish reached goes = covers_same addr s u (ap (λ (x : LocalState). x.bound) (finished_by s u goes).1)
entry_covers addr s u Bad reached goes = covers_same addr s u (ap (λ (x : LocalState). x.bound) (failed_by s u goes).1)
entry_covers addr s u Give reached goes =
    let gave = given_by s u goes in
    covers_same addr s u (ap (λ (x : LocalState). x.bound) gave.3 ∙ item_bound (record s { owed = gave.1 }) gave.0.queue gave.0.item)

-- ---- a log

covers_then : (addr : ℕ) (s t u : LocalState) (ms ns : List Told) → Covers addr s t ms → Covers addr t u ns → Covers addr s u (ms ++ ns)
covers_then addr s t u ms ns first rest = record {
  names = omega (arith, first.names, rest.names, made_both addr ms ns, given_both addr ms ns);
  pages = pages_both ms ns first.pages rest.pages;
}

pub log_covers : (addr : ℕ) (es : List Entry) (s u : LocalState) → IsReached s → replay_from s es ≡ Some u → Covers addr s u (mappings_from s es)
log_covers addr [] s u reached goes = covers_same addr s u (ap (λ (x : LocalState). x.bound) (sym (some_same s u u goes)))
log_covers addr (e ∷ es) s u reached goes = by_after (after s e) refl goes (λ t next rest. log_covers addr es t u next rest)
  where
    by_after : (o : Option LocalState) → after s e ≡ o → option_and_then (λ t. replay_from t es) o ≡ Some u
        → ((t : LocalState) → IsReached t → replay_from t es ≡ Some u → Covers addr t u (mappings_from t es)) → Covers addr s u (mapping_at s e ++ mappings_from (unwrap_or (after s e) s) es)
    by_after None is goes more = absurd (none-some u goes)
    by_after (Some t) is goes more =
        let rest : Covers addr t u (mappings_from t es) = more t (reached_after s t e reached is) goes in
        subst (λ x. Covers addr s u (mapping_at s e ++ mappings_from x es)) (sym (ap (λ o. unwrap_or o s) is))
        (covers_then addr s t u (mapping_at s e) (mappings_from t es) (entry_covers addr s t e reached is) rest)

-- ---- a name that is bound

-- where one is bound to the range, some are
pub one_bound : (addr len : ℕ) (writable : Bool) (bs : List Bound) (b : Bound) → Contains bs b → b.kind ≡ Mapping addr len writable → 1 ≤ names_at addr bs
one_bound addr len writable [] b there kind = absurd (omega (arith, there.1))
one_bound addr len writable (x ∷ bs) b (zero, within, is) kind =
    let one : one_at addr x.kind ≡ 1 = ap (λ (c : Bound). one_at addr c.kind) is ∙ (ap (one_at addr) kind ∙ cond-true (eqb addr addr) 1 0 (eq-eqb addr addr refl)) in
    omega (arith, one)
one_bound addr len writable (x ∷ bs) b (suc k, within, is) kind =
    let rest = one_bound addr len writable bs b (k, omega (arith, within), is) kind in
    omega (arith, rest)
