-- The format of each queue of a handle is one that the device offers, so that what is mapped has pages.
use Rattle.std.proofs.Common.{◌≡◌, ℕ, zero, suc, ◌<◌, ◌≤◌, Bool, true, false, not, List, [], ◌∷◌, ◌++◌, Option, Some, None, length, get_or, set, map, refl, sym, ap, subst, arith, inl, inr, if◌then◌else◌}
use Rattle.std.specs.Prelude.{IfSome, ◌||◌}
use Rattle.std.specs.Option.{option_map}
use Rattle.std.proofs.lemmas.Bool.{not-false, ltb-true}
use Rattle.v4l_const.specs.declared.four_cc.FourCc.{FourCc}
use Rattle.v4l_const.specs.Model.{queues as types_of, source_queue, picture_queue}
use Rattle.v4l_format.specs.declared.fmt.Fmt.{Fmt}
use Rattle.v4l_format.specs.Fmt.{IsAdjusted, picture_size}
use Rattle.v4l_format.proofs.FmtLemmas.{picture_size_least}
use Rattle.v4l_rules.specs.Formats.{is_source, source_format, with_format_at, with_set_format_at, with_source_format}
use Rattle.v4l_rules.specs.Queues.{place_in}
use Rattle.v4l_rules.specs.Refusals.{first_refusal}
use Rattle.v4l_rules.proofs.AdjustedLemmas.{adjusted_from_adjusted, first_is_adjusted, sized_adjusted}
use Rattle.vm_local.specs.declared.call.Call.{Call}
use Rattle.vm_local.specs.declared.call.Call.TheVariants.{OpenHandle, CloseHandle, QueryCap, EnumFmt, GFmt, TryFmt, SFmt, EnumInput, GInput, SInput, ReqBufs, QueryBuf, UAlloc, QBuf, StreamOn, StreamOff, DqBuf, Mmap, Munmap, Peek, Hash, Poke, Fill, Subscribe, Unsubscribe, DqEvent}
use Rattle.vm_local.specs.declared.entry.Entry.{Entry}
use Rattle.vm_local.specs.declared.entry.Entry.TheVariants.{Called, Finish, Bad, Give}
use Rattle.vm_local.specs.declared.owed.Owed.{Owed}
use Rattle.vm_local.specs.declared.owed.OwedItem.{OwedItem}
use Rattle.vm_local.specs.declared.owed.OwedItem.TheVariants.{Buffer as OwedBuffer, Sync}
use Rattle.vm_local.specs.State.{QueueState, LocalState, opening, opening_queue, queue_kind, queue_of, buffer_of}
use Rattle.vm_local.specs.Kinds.{is_idle}
use Rattle.vm_local.specs.Same.{address_in}
use Rattle.vm_local.specs.Memory.{pages_of}
use Rattle.vm_local.specs.Queue.{adjusted_for, with_set_format, stopped_queue, with_buffers, is_user_ptr}
use Rattle.vm_local.specs.Calls.{Row, row_of, querycap_row, enumfmt_row, gfmt_row, tryfmt_row, sfmt_row, enuminput_row, ginput_row, sinput_row, reqbufs_row, querybuf_row, ualloc_row, qbuf_row, streamon_row, streamoff_row, dqbuf_row, mmap_row, munmap_row, read_row, hash_row, write_row, fill_row, subscribe_row, unsubscribe_row, dqevent_row}
use Rattle.vm_local.specs.Steps.{counted, target, heads_taken, taken, next_timestamp, with_target_used, sync_of, buffers_taken, item_given}
use Rattle.vm_local.specs.Log.{row_for, called, after}
use Rattle.vm_local.proofs.StepLemmas.{passes, answered_by, finished_by, failed_by, given_by, kept_by_all}
use Rattle.vm_home.specs.Reached.{IsReached}
use Rattle.vm_stands.specs.Laws.{is_held}
use Rattle.vm_stands.proofs.LengthLemmas.{lengths_are}

-- ---- queues

abbrev pub AreAdjusted : List QueueState → Type 0
AreAdjusted qs = (p : ℕ) → IsAdjusted (get_or qs p opening_queue).format

first_are_adjusted : (types : List ℕ) → AreAdjusted (map (λ t. opening_queue) types)
first_are_adjusted [] p = first_is_adjusted
first_are_adjusted (t ∷ ts) zero = first_is_adjusted
first_are_adjusted (t ∷ ts) (suc p) = first_are_adjusted ts p

set_adjusted : (qs : List QueueState) (p : ℕ) (q : QueueState) → AreAdjusted qs → IsAdjusted q.format → AreAdjusted (set qs p q)
set_adjusted [] p q each one i = each i
set_adjusted (x ∷ qs) zero q each one zero = one
set_adjusted (x ∷ qs) zero q each one (suc i) = each (suc i)
set_adjusted (x ∷ qs) (suc p) q each one zero = each zero
set_adjusted (x ∷ qs) (suc p) q each one (suc i) = set_adjusted qs p q (λ j. each (suc j)) one i

map_adjusted : (f : QueueState → QueueState) → ((q : QueueState) → (f q).format ≡ q.format) → (qs : List QueueState) → AreAdjusted qs → AreAdjusted (map f qs)
map_adjusted f keeps [] each i = each i
map_adjusted f keeps (q ∷ qs) each zero = subst IsAdjusted (sym (keeps q)) (each zero)
map_adjusted f keeps (q ∷ qs) each (suc i) = map_adjusted f keeps qs (λ j. each (suc j)) i

-- ---- states

abbrev pub HasAdjusted : LocalState → Type 0
HasAdjusted s = AreAdjusted s.queues

at_type : (s : LocalState) (t : ℕ) → HasAdjusted s → IsAdjusted (queue_of s t).format
at_type s t each = each (place_in (types_of s.model) t)

put_adjusted : (s : LocalState) (t : ℕ) (q : QueueState) → HasAdjusted s → q.format ≡ (queue_of s t).format → AreAdjusted (set s.queues (place_in (types_of s.model) t) q)
put_adjusted s t q each same = set_adjusted s.queues (place_in (types_of s.model) t) q each (subst IsAdjusted (sym same) (at_type s t each))

source_offered : (o : Option ℕ) (s : LocalState) → HasAdjusted s → IfSome (option_map (λ source. (queue_of s source).format) o) IsAdjusted
source_offered None s each = tt
source_offered (Some source) s each = at_type s source each

taken_offered : (s : LocalState) (t : ℕ) (f : FourCc) (w h : ℕ) → HasAdjusted s → IsAdjusted (adjusted_for s t f w h)
taken_offered s t f w h each = adjusted_from_adjusted (source_format queue_kind s.model s.queues) s.model t f w h (source_offered (source_queue s.model) s each)

set_format_adjusted : (s : LocalState) (t : ℕ) (f : Fmt) → HasAdjusted s → IsAdjusted f → HasAdjusted (with_set_format s t f)
unfolding with_set_format_at
set_format_adjusted s t f each offered = chosen (is_source s.model t)
  where
    one : AreAdjusted (with_format_at queue_kind s.model s.queues t f)
    one = set_adjusted s.queues (place_in (types_of s.model) t) _ each offered

    chosen : (b : Bool) → AreAdjusted (if b then with_source_format queue_kind s.model s.queues t f else with_format_at queue_kind s.model s.queues t f)
    chosen false = one
    chosen true =
        let pictures : ℕ = place_in (types_of s.model) (picture_queue s.model) in
        set_adjusted (with_format_at queue_kind s.model s.queues t f) pictures _ one
        (sized_adjusted f (queue_of s (picture_queue s.model)).format offered (at_type s (picture_queue s.model) each))

buffers_adjusted : (s : LocalState) (t : ℕ) (kind : _) (n : ℕ) → HasAdjusted s → HasAdjusted (with_buffers s t kind n)
unfolding with_buffers
buffers_adjusted s t kind n each = put_adjusted s t _ each refl

row_adjusted : (s : LocalState) (line addr : ℕ) (call : Call) → HasAdjusted s → HasAdjusted (row_of s line addr call).next
unfolding querycap_row enumfmt_row gfmt_row tryfmt_row sfmt_row enuminput_row ginput_row sinput_row reqbufs_row querybuf_row ualloc_row qbuf_row streamon_row streamoff_row dqbuf_row mmap_row munmap_row read_row hash_row write_row fill_row subscribe_row unsubscribe_row dqevent_row
row_adjusted s line addr (OpenHandle nonblock) each = first_are_adjusted (types_of s.model)
row_adjusted s line addr CloseHandle each = map_adjusted stopped_queue (λ q. refl) s.queues each
row_adjusted s line addr QueryCap each = each
row_adjusted s line addr (EnumFmt t i) each = each
row_adjusted s line addr (GFmt t) each = each
row_adjusted s line addr (TryFmt t f w h) each = each
row_adjusted s line addr (SFmt t f w h) each = set_format_adjusted s t (adjusted_for s t f w h) each (taken_offered s t f w h each)
row_adjusted s line addr (EnumInput i) each = each
row_adjusted s line addr GInput each = each
row_adjusted s line addr (SInput i) each = each
row_adjusted s line addr (ReqBufs t m n) each = buffers_adjusted s t _ _ each
row_adjusted s line addr (QueryBuf t i) each = each
row_adjusted s line addr (UAlloc u len off) each = each
row_adjusted s line addr (QBuf t i user used ts) each = put_adjusted s t _ each refl
row_adjusted s line addr (StreamOn t) each = put_adjusted s t _ each refl
row_adjusted s line addr (StreamOff t) each = put_adjusted s t _ each refl
row_adjusted s line addr (DqBuf t) each = put_adjusted s t _ each refl
row_adjusted s line addr (Mmap m t i ro) each = each
row_adjusted s line addr (Munmap m) each = each
row_adjusted s line addr (Peek m off len) each = each
row_adjusted s line addr (Hash m) each = each
row_adjusted s line addr (Poke m off bytes) each = each
row_adjusted s line addr (Fill m seed) each = each
row_adjusted s line addr (Subscribe e) each = each
row_adjusted s line addr (Unsubscribe e) each = each
row_adjusted s line addr DqEvent each = each

-- ---- the device's own steps

heads_adjusted : (s : LocalState) (good : Bool) (entries : List Owed) → HasAdjusted s → HasAdjusted (heads_taken s good entries)
heads_adjusted s good entries each = map_adjusted (taken good (next_timestamp s)) (λ q. refl) s.queues each

used_adjusted : (s next : LocalState) (n : ℕ) → HasAdjusted next → HasAdjusted (with_target_used s n next)
used_adjusted s next n each = put_adjusted next (picture_queue s.model) _ each refl

item_adjusted : (s : LocalState) (t : ℕ) (item : OwedItem) → HasAdjusted s → HasAdjusted (item_given s t item)
item_adjusted s t (OwedBuffer i) each = put_adjusted s t _ each refl
item_adjusted s t (Sync frame) each =
    elim s.subscribed as (λ b. HasAdjusted (if b then record s { events = s.events ++ (record { frame = frame; number = s.next_event }) ∷ []; next_event = counted s.next_event } else s)) [
      | true ↦ each
      | false ↦ each
    ]

-- ---- entries

after_adjusted : (s t : LocalState) (e : Entry) → HasAdjusted s → after s e ≡ Some t → HasAdjusted t
unfolding called
after_adjusted s t (Called line call reply) each goes =
    let r : Row = row_for s line call reply in
    elim (answered_by (first_refusal r.refusals) r s reply t goes) as (λ _. HasAdjusted t) [
      | inl stays ↦ subst HasAdjusted (sym stays) each
      | inr went ↦ subst HasAdjusted (sym went.3) (row_adjusted s line (address_in reply) call each)
    ]
after_adjusted s t Finish each goes =
    subst HasAdjusted (sym (finished_by s t goes).1) (used_adjusted s (heads_taken s true (sync_of s ++ buffers_taken s)) (picture_size (target s).format) (heads_adjusted s true (sync_of s ++ buffers_taken s) each))
after_adjusted s t Bad each goes =
    subst HasAdjusted (sym (failed_by s t goes).1) (used_adjusted s (heads_taken s false (buffers_taken s)) 0 (heads_adjusted s false (buffers_taken s) each))
after_adjusted s t Give each goes =
    let gave = given_by s t goes in
    subst HasAdjusted (sym gave.3) (item_adjusted (record s { owed = gave.1 }) gave.0.queue gave.0.item each)

pub adjusted_are : (s : LocalState) → IsReached s → HasAdjusted s
adjusted_are s (m, log, leads) = kept_by_all HasAdjusted after_adjusted log (opening m) s (first_are_adjusted (types_of m)) leads

-- ---- what is mapped

some_pages : (n : ℕ) → 1 ≤ n → 1 ≤ pages_of n
some_pages n some = omega (arith, some)

-- a buffer that can be mapped has pages
pub mapped_pages : (s : LocalState) (addr : ℕ) (m : List ℕ) (t i : ℕ) (ro : Bool) → IsReached s → first_refusal (mmap_row s addr m t i ro).refusals ≡ None → 1 ≤ pages_of (buffer_of (queue_of s t) i).length
unfolding mmap_row
mapped_pages s addr m t i ro reached passed =
    let inside : i < length (queue_of s t).buffers = ltb-true i (length (queue_of s t).buffers) (not-false _ (passes (mmap_row s addr m t i ro).refusals passed 2)) in
    let given : is_user_ptr (queue_of s t).memory ≡ false = passes (mmap_row s addr m t i ro).refusals passed 3 in
    let held : is_held (queue_of s t) i ≡ true = ap (λ b. not b || not (is_idle (buffer_of (queue_of s t) i).state)) given in
    let least = picture_size_least (queue_of s t).format (at_type s t (adjusted_are s reached)) in
    let fits = (lengths_are s reached).fits t i inside held in
    some_pages (buffer_of (queue_of s t) i).length (omega (arith, least, fits))
