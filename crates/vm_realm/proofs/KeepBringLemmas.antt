-- What goes along with a QBUF is what the device is brought by it.
use Rattle.std.proofs.Common.{◌≡◌, inl, inr, ℕ, ◌≤◌, ◌&&◌, ◌==◌, true, false, Bool, not, List, [], ◌∷◌, length, map, Option, Some, None, refl, sym, ap, ◌∙◌, subst, arith, if◌then◌else◌, true≢false, eqb-true, eq-eqb, slice_get}
use Rattle.std.specs.Option.{option_map_or}
use Rattle.std.specs.Prelude.{IfSome, Result, Ok, Err, Contains, is_some, nat_le, nat_lt, sum_by}
use Rattle.std.proofs.lemmas.Bool.{false≢true, not-false, and_from, cases_Bool}
use Rattle.std.proofs.lemmas.Bool.Decides.{nat_tests}
use Rattle.std.proofs.lemmas.List.Elements.{All-head}
use Rattle.std.proofs.lemmas.List.FromFn.{length-map-range_with_len}
use Rattle.v4l_const.specs.declared.errno.Errno.{Errno}
use Rattle.v4l_const.specs.declared.errno.Errno.TheVariants.{Efault}
use Rattle.v4l_const.specs.declared.numbers.TheConstants.{MEMORY_MMAP, MEMORY_USERPTR}
use Rattle.v4l_format.specs.Fmt.{picture_size}
use Rattle.v4l_format.proofs.FmtLemmas.{picture_size_least}
use Rattle.v4l_layout.specs.declared.buffer_rec.BufferRec.{BufferRec}
use Rattle.v4l_rules.specs.Queues.{place_in}
use Rattle.v4l_const.specs.Model.{queues as types_of}
use Rattle.v4l_rules.specs.Refusals.{first_refusal}
use Rattle.vm_mem.specs.declared.page.Page.{Page}
use Rattle.vm_frame.specs.declared.scatter.SgEntry.{SgEntry}
use Rattle.vm_frame.specs.declared.mem.Held.{Held}
use Rattle.vm_frame.specs.declared.mem.Mem.{Mem}
use Rattle.vm_frame.specs.declared.mem.Mem.TheVariants.{OfFrame, OfUser}
use Rattle.vm_frame.specs.Mem.{mem_bytes, mem_rest}
use Rattle.vm_frame.specs.Mem.MemRest.{Tagged, Scattered}
use Rattle.vm_frame.specs.Scatter.{first_fault, scatter_fault}
use Rattle.vm_frame.specs.User.{ScatteredPages, Places}
use Rattle.vm_sg.specs.UserMemory.{user_memory, user_entries, user_pages, page_count, entry_of}
use Rattle.vm_sg.specs.Wire.{entries_in}
use Rattle.vm_local.specs.declared.bound.Bound.{Bound}
use Rattle.vm_local.specs.declared.bound.BoundKind.{BoundKind}
use Rattle.vm_local.specs.declared.bound.BoundKind.TheVariants.{Mapping, User}
use Rattle.vm_local.specs.declared.bound.MemoryKind.{MemoryKind}
use Rattle.vm_local.specs.declared.bound.MemoryKind.TheVariants.{Mmap as MmapKind, UserPtr}
use Rattle.vm_local.specs.declared.call.Call.TheVariants.{QBuf}
use Rattle.vm_local.specs.State.{LocalState, queue_of}
use Rattle.vm_local.specs.Kinds.{is_mapping_kind}
use Rattle.vm_local.specs.Memory.{named, is_user, memory_of, bytes_of}
use Rattle.vm_local.specs.Queue.{is_user_ptr}
use Rattle.vm_local.specs.Calls.{row_of, qbuf_row}
use Rattle.vm_local.proofs.KeptLemmas.{some_same}
use Rattle.vm_local.proofs.StepLemmas.{passes}
use Rattle.vm_home.specs.Home.{IsMemory, is_frame}
use Rattle.vm_home.specs.Moves.{goes_along}
use Rattle.vm_home.specs.Reached.{IsReached}
use Rattle.vm_home.proofs.FactLemmas.{Facts, facts_of, Queues, queues_number}
use Rattle.vm_home.proofs.PlaceLemmas.{HasAt, device_from}
use Rattle.vm_exchange.specs.declared.user_place.UserPlace.{UserPlace}
use Rattle.vm_exchange.specs.Entries.{bytes_behind}
use Rattle.vm_exchange.specs.Exchange.{user_of_kind, user_bound, user_named, memory_number}
use Rattle.vm_exchange.specs.Range.{IsInRange}
use Rattle.vm_exchange.proofs.AgainLemmas.{again}
use Rattle.vm_exchange.proofs.FitLemmas.{IsPlace, user_place}
use Rattle.vm_exchange.proofs.RangeLemmas.{queue_in_range}
use Rattle.vm_session.specs.State.{SessionQueue, SessionState, queue_of as session_queue}
use Rattle.vm_session.specs.Buffers.{memory_kind as held_kind, IsTold, ComesWith}
use Rattle.vm_session.specs.Mapped.{given_length}
use Rattle.vm_stands.proofs.QBufLemmas.{IsQueueing, queueing_is}
use Rattle.vm_device.specs.Brought.{is_named, is_told, keeps_length, loaded, brought}
use Rattle.vm_realm.specs.Users.{IsUsers}
use Rattle.vm_realm.proofs.PartLemmas.{find_in}
use Rattle.vm_realm.proofs.UserPagesLemmas.{no_fault, all_named}

-- ---- what the device looks at

-- The entries that stand on the wire are the memory's own, and the device finds nothing wrong with them. A frame
-- has none.
abbrev pub IsLoaded : List ℕ → Mem → Type 0
IsLoaded wire (OfFrame frame) = Unit {0}
IsLoaded wire (OfUser user) =
    (entries_in wire ≡ user.entries) × (length user.entries ≤ 249) × (scatter_fault user.entries user.pages ≡ None)
    × (sum_by (λ e. e.len) user.entries ≡ length (mem_bytes (OfUser user)))

loads_same : (wire : List ℕ) (mem : Mem) → IsLoaded wire mem → loaded wire mem ≡ mem
loads_same wire (OfFrame frame) is = refl
loads_same wire (OfUser user) is = λ j. OfUser (record { entries = is.0 j; pages = user.pages })

all_three : (a b c d : Bool) → a ≡ true → b ≡ true → c ≡ true → d ≡ true → (a && (b && (c && d))) ≡ true
all_three a b c d na nb nc nd = rw (na, nb, nc, nd) refl

told_is : (b : BufferRec) (wire : List ℕ) (mem : Mem) → held_kind mem ≡ b.memory → length (mem_bytes mem) ≡ b.length → IsLoaded wire mem → is_told b wire mem ≡ true
told_is b wire (OfFrame frame) kind size is = and_from (b.memory == MEMORY_MMAP) (length frame.bytes == b.length) (eq-eqb b.memory MEMORY_MMAP (sym kind)) (eq-eqb (length frame.bytes) b.length size)
told_is b wire (OfUser user) kind size is =
    let es : List SgEntry = user.entries in
    let mine : (b.memory == MEMORY_USERPTR) ≡ true = eq-eqb b.memory MEMORY_USERPTR (sym kind) in
    let few : nat_le (length es) 249 ≡ true = grind (arith, nat_tests, is.1) in
    let fine : not (is_some (scatter_fault es user.pages)) ≡ true = ap (λ o. not (is_some o)) is.2 in
    let sum : (sum_by (λ (e : SgEntry). e.len) es == b.length) ≡ true = eq-eqb (sum_by (λ (e : SgEntry). e.len) es) b.length (is.3 ∙ size) in
    subst (λ (xs : List SgEntry). (b.memory == MEMORY_USERPTR && (nat_le (length xs) 249 && (not (is_some (scatter_fault xs user.pages)) && sum_by (λ (e : SgEntry). e.len) xs == b.length))) ≡ true) (sym is.0)
    (all_three _ _ _ _ mine few fine sum)

length_kept : (q : SessionQueue) (i n : ℕ) → (q.kind ≡ MEMORY_MMAP → IfSome (slice_get q.lengths i) (λ k. k ≡ n)) → option_map_or (λ k. k == n) (given_length q i) true ≡ true
length_kept q i n frame = by_kind (q.kind == MEMORY_MMAP) refl
  where
    by_some : (o : Option ℕ) → IfSome o (λ k. k ≡ n) → option_map_or (λ k. k == n) o true ≡ true
    by_some None is = refl
    by_some (Some k) is = eq-eqb k n is

    by_kind : (b : Bool) → (q.kind == MEMORY_MMAP) ≡ b → option_map_or (λ k. k == n) (if b then slice_get q.lengths i else None) true ≡ true
    by_kind true at = by_some (slice_get q.lengths i) (frame (eqb-true q.kind MEMORY_MMAP at))
    by_kind false at = refl

-- what the record tells of is brought as it came
pub is_brought : (s : SessionState) (b : BufferRec) (wire : List ℕ) (h : Held) → ComesWith s b (h ∷ []) → IsLoaded wire h.mem → brought s b wire (h ∷ []) ≡ Ok (h ∷ [])
is_brought s b wire h comes is =
    let told : IsTold b h = All-head (IsTold b) h [] comes.told in
    let mine : is_named b h ≡ true = and_from (h.queue == b.kind) (h.index == b.index) (eq-eqb h.queue b.kind told.queue) (eq-eqb h.index b.index told.index) in
    let same : is_told b wire h.mem ≡ true = told_is b wire h.mem told.kind told.size is in
    let long : keeps_length s b ≡ true = length_kept (session_queue s b.kind) b.index b.length comes.frame in
    let all : (is_named b h && (is_told b wire h.mem && keeps_length s b)) ≡ true = and_from _ _ mine (and_from _ _ same long) in
    let come : Result (List Held) Errno = Ok (record h { mem = loaded wire h.mem } ∷ []) in
    ap (λ (k : Bool). if k then come else Err Efault) all ∙ ap (λ (m : Mem). Ok (record h { mem = m } ∷ [])) (loads_same wire h.mem is)

-- ---- a user's memory

-- the name stands for a user's memory
pub record IsNamedUser (s : LocalState) (u : List ℕ) : Type 0 where
  pub bound : Bound
  pub line : ℕ
  pub off : ℕ
  pub named : named s u ≡ Some bound
  pub there : Contains s.bound bound
  pub kind : bound.kind ≡ User line off

named_user : (s : LocalState) (u : List ℕ) → is_user (named s u) ≡ true → IsNamedUser s u
named_user s u is = by_found (named s u) refl is
  where
    by_kind : (k : BoundKind) → not (is_mapping_kind k) ≡ true → (line : ℕ) × (off : ℕ) × (k ≡ User line off)
    by_kind (Mapping addr len writable) is = absurd (false≢true is)
    by_kind (User line off) is = (line, off, refl)

    by_found : (o : Option Bound) → named s u ≡ o → is_user o ≡ true → IsNamedUser s u
    by_found None at is = absurd (false≢true is)
    by_found (Some b) at is =
        let k : (line : ℕ) × (off : ℕ) × (b.kind ≡ User line off) = by_kind b.kind is in
        record { bound = b; line = k.0; off = k.1; named = at; there = (find_in _ s.bound b at).0; kind = k.2 }

-- the memory lies where a user's memory was made
placed : (mem : Mem) (line len off : ℕ) → mem_rest mem ≡ mem_rest (OfUser (user_memory line len off)) →
    (user : ScatteredPages) × (mem ≡ OfUser user) × (user.entries ≡ user_entries line len off)
    × (map (λ (page : Page). page.number) user.pages ≡ map (λ (page : Page). page.number) (user_pages line (page_count len off)))
placed (OfFrame frame) line len off is = absurd (apart frame.tag _ is)
  where
    apart : (n : ℕ) (p : Places) → Tagged n ≡ Scattered p → ⊥
    apart n p is = cc
placed (OfUser user) line len off is =
    let same : record { entries = user.entries; numbers = map (λ (page : Page). page.number) user.pages }
    ≡ record { entries = user_entries line len off; numbers = map (λ (page : Page). page.number) (user_pages line (page_count len off)) } = scattered _ _ is in
    (user, refl, ap (λ (p : Places). p.entries) same, ap (λ (p : Places). p.numbers) same)
  where
    scattered : (p q : Places) → Scattered p ≡ Scattered q → p ≡ q
    scattered p q is = cc

-- its entries go over the wire, and the device finds nothing wrong with them
user_loaded : (mem : Mem) (place : UserPlace) → IsPlace place → 1 ≤ place.length → length (mem_bytes mem) ≡ place.length →
    mem_rest mem ≡ mem_rest (OfUser (user_memory place.line place.length place.off)) → IsLoaded (bytes_behind (Some place)) mem
user_loaded mem place within some long rest =
    let p : _ = placed mem place.line place.length place.off rest in
    let user : ScatteredPages = p.0 in
    let es : List SgEntry = user_entries place.line place.length place.off in
    let read : entries_in (bytes_behind (Some place)) ≡ es = again place within.0 within.1 within.2 in
    let count : length es ≡ page_count place.length place.off = length-map-range_with_len (entry_of place.line place.length place.off) 0 (page_count place.length place.off) in
    let few : length user.entries ≤ 249 = subst (λ (xs : List SgEntry). length xs ≤ 249) (sym p.2) (omega (arith, count, within.1, within.2)) in
    let fine : scatter_fault user.entries user.pages ≡ None =
    (λ j. first_fault (p.3 j) [] (p.2 j)) ∙ no_fault place.line place.length place.off some within.2 in
    let sum : sum_by (λ (e : SgEntry). e.len) user.entries ≡ length (mem_bytes (OfUser user)) =
    ap (λ (xs : List SgEntry). sum_by (λ (e : SgEntry). e.len) xs) p.2 ∙ (all_named place.line place.length place.off some within.2 ∙ (sym long ∙ ap (λ (m : Mem). length (mem_bytes m)) p.1)) in
    subst (IsLoaded (bytes_behind (Some place))) (sym p.1) (read ∙ sym p.2, few, fine, sum)

-- ---- a buffer that may be queued

-- the memory that goes along is of the queue's kind, and the device finds nothing wrong with it
pub record IsComing (s : LocalState) (t : ℕ) (user : Option (List ℕ)) (mem : Mem) : Type 0 where
  pub kind : held_kind mem ≡ memory_number (queue_of s t).memory
  pub is_loaded : IsLoaded (bytes_behind (user_named s user)) mem

frame_kind : (kind : MemoryKind) (mem : Mem) → is_user_ptr kind ≡ false → is_frame mem ≡ true → held_kind mem ≡ memory_number kind
frame_kind MmapKind (OfFrame frame) device is = refl
frame_kind MmapKind (OfUser user) device is = absurd (false≢true is)
frame_kind UserPtr mem device is = absurd (true≢false device)

frame_loaded : (wire : List ℕ) (mem : Mem) → is_frame mem ≡ true → IsLoaded wire mem
frame_loaded wire (OfFrame frame) is = tt
frame_loaded wire (OfUser user) is = absurd (false≢true is)

user_kind : (kind : MemoryKind) (user : ScatteredPages) → is_user_ptr kind ≡ true → held_kind (OfUser user) ≡ memory_number kind
user_kind MmapKind user users = absurd (false≢true users)
user_kind UserPtr user users = refl

-- the name of the user's memory is bound
names_user : (s : LocalState) (t i used ts : ℕ) (u : List ℕ) → first_refusal (row_of s 0 0 (QBuf t i (Some u) used ts)).refusals ≡ None → is_user (named s u) ≡ true
unfolding qbuf_row
names_user s t i used ts u pass = not-false _ (passes (qbuf_row s t i (Some u) used ts).refusals pass 6)

coming_frame : (s : LocalState) (t i used ts : ℕ) (user : Option (List ℕ)) (n : ℕ) (mem : Mem) → IsReached s → first_refusal (row_of s 0 0 (QBuf t i user used ts)).refusals ≡ None →
    goes_along s (QBuf t i user used ts) ≡ Some n → IsMemory s n mem → is_user_ptr (queue_of s t).memory ≡ false → IsComing s t user mem
coming_frame s t i used ts user n mem reached pass goes is device =
    let f : Facts s = facts_of s reached in
    let w : (k : ℕ) × Queues s t i user k = queues_number s t i user used ts f.sound f.owns pass in
    let same : w.0 ≡ n = some_same w.0 n n (sym w.1.number ∙ goes) in
    let has : HasAt s.queues (place_in (types_of s.model) t) i n = subst (HasAt s.queues (place_in (types_of s.model) t) i) same (w.1.device device) in
    let frame : is_frame mem ≡ true = is.frame (device_from s (place_in (types_of s.model) t) i n has device) in
    record { kind = frame_kind (queue_of s t).memory mem device frame; is_loaded = frame_loaded _ mem frame }

coming_user : (s : LocalState) (t i used ts : ℕ) (user : Option (List ℕ)) (n : ℕ) (mem : Mem) → IsInRange s → first_refusal (row_of s 0 0 (QBuf t i user used ts)).refusals ≡ None →
    goes_along s (QBuf t i user used ts) ≡ Some n → IsMemory s n mem → IsUsers s n mem → is_user_ptr (queue_of s t).memory ≡ true → IsComing s t user mem
coming_user s t i used ts None n mem range pass goes is users own =
    absurd (true≢false (sym own ∙ (queueing_is s t i None used ts pass).named))
coming_user s t i used ts (Some u) n mem range pass goes is users own =
    let q : IsQueueing s t i (Some u) used = queueing_is s t i (Some u) used ts pass in
    let nu : IsNamedUser s u = named_user s u (names_user s t i used ts u pass) in
    let number : nu.bound.memory ≡ n = ap memory_of (sym nu.named) ∙ some_same (memory_of (named s u)) n n goes in
    let len : ℕ = length (bytes_of s n) in
    let place : UserPlace = record { line = nu.line; length = len; off = nu.off } in
    let at : user_named s (Some u) ≡ Some place =
    ap (user_bound s) nu.named ∙ (λ j. user_of_kind (nu.kind j) (length (bytes_of s (number j)))) in
    let within : IsPlace place = subst (λ o. IfSome o IsPlace) at (user_place s (Some u) range) in
    let least : 256 ≤ picture_size (queue_of s t).format = picture_size_least (queue_of s t).format (queue_in_range s t range).format in
    let enough : nat_lt (length (bytes_of s (memory_of (named s u)))) (picture_size (queue_of s t).format) ≡ false = q.long in
    let known : length (bytes_of s (memory_of (named s u))) ≡ len = ap (λ k. length (bytes_of s k)) (some_same (memory_of (named s u)) n n goes) in
    let some : 1 ≤ len = grind (arith, nat_tests, least, enough, known) in
    let rest : mem_rest mem ≡ mem_rest (OfUser (user_memory nu.line len nu.off)) = users.pages nu.bound nu.line nu.off nu.there number nu.kind in
    let p : _ = placed mem nu.line len nu.off rest in
    record {
      kind = ap held_kind p.1 ∙ user_kind (queue_of s t).memory p.0 own;
      is_loaded = subst (λ o. IsLoaded (bytes_behind o) mem) (sym at) (user_loaded mem place within some (ap (λ (bs : List ℕ). length bs) is.bytes) rest);
    }

pub coming : (s : LocalState) (t i used ts : ℕ) (user : Option (List ℕ)) (n : ℕ) (mem : Mem) → IsReached s → IsInRange s → first_refusal (row_of s 0 0 (QBuf t i user used ts)).refusals ≡ None →
    goes_along s (QBuf t i user used ts) ≡ Some n → IsMemory s n mem → IsUsers s n mem → IsComing s t user mem
coming s t i used ts user n mem reached range pass goes is users =
    elim (cases_Bool (is_user_ptr (queue_of s t).memory)) as (λ _. IsComing s t user mem) [
      | inl own ↦ coming_user s t i used ts user n mem range pass goes is users own
      | inr device ↦ coming_frame s t i used ts user n mem reached pass goes is device
    ]
