-- A memory can have other bytes, as many as it has.
use Rattle.std.proofs.Common.{◌≡◌, ◌≢◌, inl, inr, ℕ, zero, suc, ◌+◌, ◌-◌, ◌*◌, ◌<◌, ◌≤◌, Bool, true, false, nat_lt, List, [], ◌∷◌, ◌++◌, Option, Some, None, length, map, take, drop, replicate, refl, sym, ap, ◌∙◌, subst, arith, eqb, rules, if◌then◌else◌, ◌%◌}
use Rattle.std.specs.Prelude.{All, unwrap_or}
use Rattle.std.specs.List.{find, flat_map, range_with_len}
use Rattle.std.specs.Option.{option_map_or}
use Rattle.std.proofs.lemmas.Bool.{false≢true, true≢false, cases_eq, cases_lt, cond-true, cond-false, eq-eqb, ne_eqb, lt-ltb}
use Rattle.std.proofs.lemmas.List.{drop_all, drop-drop, length-replicate, places, get_or_past}
use Rattle.std.proofs.lemmas.List.Elements.{All-nil, All-cons, All-get_or}
use Rattle.std.proofs.lemmas.List.FromFn.{length-map-range_with_len}
use Rattle.std.proofs.lemmas.Option.{none-some, same_Some}
use Rattle.v4l_const.specs.Model.{queues as types_of}
use Rattle.v4l_rules.specs.Queues.{place_in}
use Rattle.vm_mem.specs.Page.{page_number, place_in_page}
use Rattle.vm_mem.specs.Seeded.{seeded}
use Rattle.vm_mem.specs.declared.page.Page.{Page}
use Rattle.vm_frame.specs.Mem.{mem_bytes, mem_rest}
use Rattle.vm_frame.specs.Mem.MemRest.{Scattered}
use Rattle.vm_frame.specs.Scatter.{page_bytes, entry_bytes}
use Rattle.vm_frame.specs.declared.mem.Held.{Held}
use Rattle.vm_frame.specs.declared.mem.Mem.{Mem}
use Rattle.vm_frame.specs.declared.mem.Mem.TheVariants.{OfFrame, OfUser}
use Rattle.vm_frame.specs.declared.scatter.SgEntry.{SgEntry}
use Rattle.vm_sg.specs.UserMemory.{entry_of, number_of, page_count, page_of, place_on, user_entries, user_memory}
use Rattle.vm_lease.specs.Lease.{bytes_left}
use Rattle.vm_lease.specs.declared.lease_out.LeaseOut.{LeaseOut}
use Rattle.vm_log.specs.LegalLog.{LogState, IsSound as IsSoundLog, IsAway, state_of, lease_in}
use Rattle.vm_log.specs.declared.away.Away.{Away}
use Rattle.vm_log.specs.declared.away.Away.TheVariants.{Nothing, Sent, Lent}
use Rattle.vm_local.specs.Calls.{write_row}
use Rattle.vm_local.specs.Live.{IsBacked, is_of_device}
use Rattle.vm_local.specs.Memory.{bytes_of}
use Rattle.vm_local.specs.Queue.{is_user_ptr}
use Rattle.vm_local.specs.State.{LocalState, QueueState, opening_queue, no_buffer, queue_of, buffer_of}
use Rattle.vm_local.specs.declared.bound.MemoryKind.{MemoryKind}
use Rattle.vm_local.specs.declared.bound.MemoryKind.TheVariants.{Mmap as MmapKind, UserPtr}
use Rattle.vm_local.specs.declared.buffer.Buffer.{Buffer}
use Rattle.vm_local.specs.declared.call.Call.{Call}
use Rattle.vm_local.specs.declared.call.Call.TheVariants.{Peek, Hash, Poke, Fill, ReqBufs}
use Rattle.vm_local.proofs.StepLemmas.{passes}
use Rattle.vm_home.specs.Home.{is_frame}
use Rattle.vm_home.specs.Laws.{IsUnrefused}
use Rattle.vm_home.specs.Moves.{memory_at, touches_bytes, touched, places_on, AreMemories, made_by}
use Rattle.vm_home.specs.Reached.{IsReached}
use Rattle.vm_home.proofs.FactLemmas.{facts_of}
use Rattle.vm_home.proofs.PlaceLemmas.{device_from}
use Rattle.vm_handle.proofs.UserLemmas.{user_zero}
use Rattle.vm_realm.specs.Users.{CanHold}

pub hold_frame : (mem : Mem) → is_frame mem ≡ true → CanHold mem
hold_frame (OfFrame frame) is = λ bytes long. (OfFrame (record frame { bytes = bytes }), refl, refl)
hold_frame (OfUser user) is = absurd (false≢true is)

pub hold_like : (old new : Mem) → mem_rest new ≡ mem_rest old → length (mem_bytes new) ≡ length (mem_bytes old) → CanHold old → CanHold new
hold_like old new rest size holds = λ bytes long. (let by : _ = holds bytes (long ∙ size) in (by.0, by.1, by.2 ∙ sym rest))

-- ---- a user's memory

drop_zeros : (n : ℕ) (xs : List ℕ) → drop n (replicate n 0 ++ xs) ≡ xs
drop_zeros zero xs = refl
drop_zeros (suc n) xs = drop_zeros n xs

take_again : (n : ℕ) (xs : List ℕ) → take n (take n xs) ≡ take n xs
take_again zero xs = refl
take_again (suc n) [] = refl
take_again (suc n) (x ∷ xs) = ap (λ ys. x ∷ ys) (take_again n xs)

front_rest : (n : ℕ) (xs : List ℕ) → take n xs ++ drop n xs ≡ xs
front_rest zero xs = refl
front_rest (suc n) [] = refl
front_rest (suc n) (x ∷ xs) = ap (λ ys. x ∷ ys) (front_rest n xs)

place_later : (off i : ℕ) → place_on off (suc i) ≡ 0
place_later off i = cond-false (eqb (suc i) 0) off 0 (ne_eqb (suc i) 0 (λ same. omega (arith, same)))

-- its pages have these bytes, each entry's in the page of its own
module _ (line len off : ℕ) (in_page : off ≤ 4095) (b : List ℕ) (long : length b ≡ len) where
  -- where the bytes of the a-th page begin
  abbrev begins_at : ℕ → ℕ
  begins_at a = 4096 * a + place_on off a - off

  abbrev chunk : ℕ → List ℕ
  chunk a = take (entry_of line len off a).len (drop (begins_at a) b)

  abbrev page : ℕ → Page
  page a = record { number = number_of line (page_count len off) a; bytes = replicate (place_on off a) 0 ++ chunk a }

  abbrev pages : List Page
  pages = map page (range_with_len 0 (page_count len off))

  place_small : (i : ℕ) → place_on off i ≤ 4095
  place_small zero = in_page
  place_small (suc i) = omega (arith, place_later off i)

  -- its page is found by its number
  found : (a n i : ℕ) → a ≤ i → i < a + n → a + n ≤ page_count len off → page_bytes (map page (range_with_len a n)) (number_of line (page_count len off) i) ≡ (page i).bytes
  found a zero i from to within = absurd (omega (arith, from, to))
  found a (suc n) i from to within = elim (cases_eq a i) [
    | inl same ↦ here same
    | inr apart ↦ there apart (found (a + 1) n i (omega (arith, from, apart)) (omega (arith, to)) (omega (arith, within)))
  ]
    where
      rest : List Page
      rest = map page (range_with_len (a + 1) n)

      k : ℕ
      k = number_of line (page_count len off) i

      here : a ≡ i → page_bytes (page a ∷ rest) k ≡ (page i).bytes
      here same = ap (λ o. option_map_or (λ (p : Page). p.bytes) o []) (cond-true (eqb (page a).number k) (Some (page a)) (find (λ (p : Page). eqb p.number k) rest) (eq-eqb (page a).number k (ap (number_of line (page_count len off)) same)))
          ∙ ap (λ j. (page j).bytes) same

      there : a ≢ i → page_bytes rest k ≡ (page i).bytes → page_bytes (page a ∷ rest) k ≡ (page i).bytes
      there apart later = ap (λ o. option_map_or (λ (p : Page). p.bytes) o []) (cond-false (eqb (page a).number k) (Some (page a)) (find (λ (p : Page). eqb p.number k) rest) (ne_eqb (page a).number k (λ same. apart (omega (arith, same, from, to, within)))))
          ∙ later

  entry_is : (i : ℕ) → i < page_count len off → entry_bytes pages (entry_of line len off i) ≡ chunk i
  entry_is i within =
      let count : ℕ = page_count len off in
      let e : SgEntry = entry_of line len off i in
      let small : place_on off i ≤ 4095 = place_small i in
      let number : page_number e.start ≡ number_of line count i = omega (arith, small) in
      let place : place_in_page e.start ≡ place_on off i = omega (arith, small) in
      let bytes : page_bytes pages (page_number e.start) ≡ replicate (place_on off i) 0 ++ chunk i =
      ap (page_bytes pages) number ∙ found 0 count i (omega arith) (omega (arith, within)) (omega arith) in
      ap (λ xs. take e.len (drop (place_in_page e.start) xs)) bytes
      ∙ (ap (λ n. take e.len (drop n (replicate (place_on off i) 0 ++ chunk i))) place
      ∙ (ap (take e.len) (drop_zeros (place_on off i) (chunk i)) ∙ take_again e.len (drop (begins_at i) b)))

  -- behind the bytes of a page come those of the next one
  next_page : (a : ℕ) → a < page_count len off → drop (begins_at a + (entry_of line len off a).len) b ≡ drop (begins_at (a + 1)) b
  next_page a within =
      let e : SgEntry = entry_of line len off a in
      let small : place_on off a ≤ 4095 = place_small a in
      let over : off ≤ 4096 * a + place_on off a = enough a in
      let front : place_on off (a + 1) ≡ 0 = next_front a in
      elim (cases_lt (begins_at a + e.len) len) as (λ _. drop (begins_at a + e.len) b ≡ drop (begins_at (a + 1)) b) [
        | inl more ↦ ap (λ n. drop n b) (omega (arith, more, small, over, front))
        | inr past ↦ drop_all (begins_at a + e.len) b (omega (arith, past, long)) ∙ sym (drop_all (begins_at (a + 1)) b (omega (arith, past, small, over, front, long)))
      ]
    where
      enough : (a : ℕ) → off ≤ 4096 * a + place_on off a
      enough zero = omega arith
      enough (suc a) = omega (arith, in_page)

      next_front : (a : ℕ) → place_on off (a + 1) ≡ 0
      next_front a = ap (place_on off) (let same : a + 1 ≡ suc a = omega arith in same) ∙ place_later off a

  rest_is : (a k : ℕ) → a + k ≡ page_count len off → flat_map (entry_bytes pages) (map (entry_of line len off) (range_with_len a k)) ≡ drop (begins_at a) b
  rest_is a zero ends = sym (drop_all (begins_at a) b (omega (arith, ends, long, at_end a ends)))
    where
      at_end : (a : ℕ) → a + 0 ≡ page_count len off → len ≤ 4096 * a + place_on off a - off
      at_end zero ends = omega (arith, ends)
      at_end (suc a) ends = omega (arith, ends)
  rest_is a (suc k) ends =
      let e : SgEntry = entry_of line len off a in
      let within : a < page_count len off = omega (arith, ends) in
      (λ j. entry_is a within j ++ rest_is (a + 1) k (omega (arith, ends)) j)
      ∙ (ap (λ xs. chunk a ++ xs) (sym (next_page a within) ∙ sym (drop-drop e.len (begins_at a) b)) ∙ front_rest e.len (drop (begins_at a) b))

  numbers_are : (xs : List ℕ) → map (λ (p : Page). p.number) (map page xs) ≡ map (λ (p : Page). p.number) (map (page_of line (page_count len off)) xs)
  numbers_are [] = refl
  numbers_are (x ∷ xs) = ap (λ ys. number_of line (page_count len off) x ∷ ys) (numbers_are xs)

  pub filled : (new : Mem) × (mem_bytes new ≡ b) × (mem_rest new ≡ mem_rest (OfUser (user_memory line len off)))
  filled =
      let first : begins_at 0 ≡ 0 = omega arith in (
        OfUser (record { entries = user_entries line len off; pages = pages }),
        rest_is 0 (page_count len off) (omega arith) ∙ ap (λ n. drop n b) first,
        ap (λ ns. Scattered (record { entries = user_entries line len off; numbers = ns })) (numbers_are (range_with_len 0 (page_count len off))),
      )

pub hold_user : (line len off : ℕ) → 1 ≤ len → off ≤ 4095 → CanHold (OfUser (user_memory line len off))
hold_user line len off some in_page = λ bytes long.
    filled line len off in_page bytes (long ∙ (ap (λ (xs : List ℕ). length xs) (user_zero line len off some in_page) ∙ length-replicate len 0))

-- ---- a line that touches a memory

written_long : (at : ℕ) (s b : List ℕ) → at + length s ≤ length b → length (take at b ++ (s ++ drop (at + length s) b)) ≡ length b
written_long at s b ends = search (rules, places)

seeded_long : (seed n : ℕ) → length (seeded seed n) ≡ n
seeded_long seed n = length-map-range_with_len (λ i. (7 * i + seed) % 256) 0 n

-- leaves it as many bytes as it had
pub left_same : (s : LocalState) (call : Call) (old : List ℕ) → touches_bytes call ≡ true → IsUnrefused s call → old ≡ bytes_of s (touched s call) → length (bytes_left call old) ≡ length old
unfolding write_row
left_same s (Peek m off len) old touches passed is = refl
left_same s (Hash m) old touches passed is = refl
left_same s (Fill m seed) old touches passed is = seeded_long seed (length old)
left_same s (Poke m off bytes) old touches passed is =
    let fits : nat_lt (length (bytes_of s (touched s (Poke m off bytes)))) (off + length bytes) ≡ false = passes (write_row s m off bytes).refusals (passed 0 0) 1 in
    let size = ap (λ (xs : List ℕ). length xs) is in
    written_long off bytes old (elim (cases_lt (length old) (off + length bytes)) [
      | inl short ↦ absurd (true≢false (sym (lt-ltb (length (bytes_of s (touched s (Poke m off bytes)))) (off + length bytes) (omega (arith, short, size))) ∙ fits))
      | inr enough ↦ enough
    ])
left_same s call old touches passed is = absurd (false≢true touches)

lent_is : (a : Away) (entry : LeaseOut) → lease_in a ≡ Some entry → a ≡ Lent entry
lent_is Nothing entry is = absurd (none-some entry is)
lent_is (Sent number) entry is = absurd (none-some entry is)
lent_is (Lent other) entry is = ap Lent (same_Some other entry is)

-- so does the one whose lease is out
pub lent_left : (l : LogState) (entry : LeaseOut) → IsSoundLog l → lease_in l.away ≡ Some entry → length (bytes_left entry.call (mem_bytes entry.mem.value)) ≡ length (mem_bytes entry.mem.value)
lent_left l entry sound lent =
    let s : LocalState = state_of l in
    let out : IsAway s (Lent entry) l.unanswered = subst (λ a. IsAway s a l.unanswered) (lent_is l.away entry lent) sound.out in
    left_same s entry.call (mem_bytes entry.mem.value) out.1 out.2 out.3.bytes

-- ---- memories that the device makes

backed_has : (s : LocalState) (kind : MemoryKind) (o : Option ℕ) → is_user_ptr kind ≡ false → IsBacked s kind o → (m : ℕ) × (o ≡ Some m)
backed_has s MmapKind None device backed = absurd backed
backed_has s MmapKind (Some m) device backed = (m, refl)
backed_has s UserPtr o device backed = absurd (true≢false device)

-- a buffer of a queue whose memory isn't the user's has a frame
made_at : (s : LocalState) (t i : ℕ) → IsReached s → is_user_ptr (queue_of s t).memory ≡ false → i < length (queue_of s t).buffers → is_of_device s (memory_at s t i) ≡ true
made_at s t i reached device within =
    let p : ℕ = place_in (types_of s.model) t in
    let P : QueueState → Type 0 = λ q. All (λ (c : Buffer). IsBacked s q.memory c.memory) q.buffers in
    let there : p < length s.queues = elim (cases_lt p (length s.queues)) [
      | inl inside ↦ inside
      | inr past ↦ absurd (let none = ap (λ (q : QueueState). length q.buffers) (get_or_past s.queues p opening_queue past) in omega (arith, none, within))
    ] in
    let all : P (queue_of s t) = All-get_or P s.queues p opening_queue there (facts_of s reached).sound.backed.0 in
    let one : IsBacked s (queue_of s t).memory (buffer_of (queue_of s t) i).memory = All-get_or (λ (c : Buffer). IsBacked s (queue_of s t).memory c.memory) (queue_of s t).buffers i no_buffer within all in
    let has : (m : ℕ) × ((buffer_of (queue_of s t) i).memory ≡ Some m) = backed_has s (queue_of s t).memory (buffer_of (queue_of s t) i).memory device one in
    let number : memory_at s t i ≡ has.0 = ap (λ o. unwrap_or o 0) has.1 in
    subst (λ n. is_of_device s n ≡ true) (sym number) (device_from s p i has.0 has.1 device)

made_places : (s : LocalState) (t a n : ℕ) (held : List Held) → IsReached s → is_user_ptr (queue_of s t).memory ≡ false → a + n ≤ length (queue_of s t).buffers → AreMemories s (places_on t (range_with_len a n)) held →
    All (λ (h : Held). CanHold h.mem) held
made_places s t a zero [] reached device within are = All-nil (λ (h : Held). CanHold h.mem)
made_places s t a zero (h ∷ hs) reached device within are = absurd are
made_places s t a (suc n) [] reached device within are = absurd are
made_places s t a (suc n) (h ∷ hs) reached device within (queue, index, is, rest) =
    All-cons (λ (k : Held). CanHold k.mem) h hs (hold_frame h.mem (is.frame (made_at s t a reached device (omega (arith, within))))) (made_places s t (a + 1) n hs reached device (omega (arith, within)) rest)

none_made : (s : LocalState) (held : List Held) → AreMemories s [] held → All (λ (h : Held). CanHold h.mem) held
none_made s [] are = All-nil (λ (h : Held). CanHold h.mem)
none_made s (h ∷ hs) are = absurd are

-- those that are made for a call can be written
pub made_hold : (s : LocalState) (call : Call) (held : List Held) → IsReached s → AreMemories s (made_by s call) held → All (λ (h : Held). CanHold h.mem) held
made_hold s (ReqBufs t m n) held reached are = by_kind (is_user_ptr (queue_of s t).memory) refl are
  where
    by_kind : (b : Bool) → is_user_ptr (queue_of s t).memory ≡ b → AreMemories s (if b then [] else places_on t (range_with_len 0 (length (queue_of s t).buffers))) held → All (λ (h : Held). CanHold h.mem) held
    by_kind true own are = none_made s held are
    by_kind false device are = made_places s t 0 (length (queue_of s t).buffers) held reached device (omega arith) are
made_hold s call held reached are = none_made s held are
