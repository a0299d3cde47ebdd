-- Entries that move no memory leave the memories at home in their places.
use Rattle.std.proofs.Common.{◌≡◌, ◌⊎◌, inl, inr, ℕ, ◌<◌, Bool, true, false, ◌&&◌, ◌||◌, List, [], ◌∷◌, ◌++◌, length, get_or, set, drop, Option, Some, None, refl, sym, ap, ◌∙◌, subst, arith, unwrap_or, if◌then◌else◌, get_or-set_other, length-set}
use Rattle.std.proofs.lemmas.Bool.{false≢true, true≢false, or_cases, and_parts, and_from, cases_eq}
use Rattle.v4l_const.specs.Model.{queues as types_of, picture_queue}
use Rattle.v4l_format.specs.Fmt.{picture_size}
use Rattle.v4l_rules.specs.Queues.{place_in}
use Rattle.v4l_rules.specs.Refusals.{first_refusal}
use Rattle.v4l_rules.proofs.ModelLemmas.{has_target}
use Rattle.vm_frame.specs.declared.mem.Mem.{Mem}
use Rattle.vm_local.specs.declared.buffer.BufferState.TheVariants.{Queued}
use Rattle.vm_local.specs.declared.call.Call.{Call}
use Rattle.vm_local.specs.declared.entry.Entry.{Entry}
use Rattle.vm_local.specs.declared.entry.Entry.TheVariants.{Called, Finish, Bad, Give}
use Rattle.vm_local.specs.declared.owed.Owed.{Owed as OwedEntry}
use Rattle.vm_local.specs.declared.owed.OwedItem.{OwedItem}
use Rattle.vm_local.specs.declared.owed.OwedItem.TheVariants.{Buffer as OwedBuffer, Sync}
use Rattle.vm_local.specs.declared.reply.Reply.{Reply}
use Rattle.vm_local.specs.declared.reply.Reply.TheVariants.{Refused}
use Rattle.vm_local.specs.State.{LocalState}
use Rattle.vm_local.specs.Same.{address_in}
use Rattle.vm_local.specs.Kinds.{is_away, is_idle}
use Rattle.vm_local.specs.Memory.{bytes_of, is_just, is_lent, is_in_use}
use Rattle.vm_local.specs.Queue.{can_finish}
use Rattle.vm_local.specs.Steps.{number_of, head, head_buffer, target, next_picture, with_target_used, heads_taken, sync_of, buffers_taken, counted, item_given}
use Rattle.vm_local.specs.Calls.{Row}
use Rattle.vm_local.specs.Live.{is_of_device, is_named}
use Rattle.vm_local.specs.Log.{row_for, called, after}
use Rattle.vm_local.proofs.KeptLemmas.{refused_call}
use Rattle.vm_local.proofs.StepLemmas.{answered_by, frame_made, frame_failed, finished_by, failed_by, given_by, Gave}
use Rattle.vm_home.specs.Home.{home_of, is_kept, is_out, IsThere, IsInPlace, AreInPlace}
use Rattle.vm_home.specs.Moves.{is_buffer, owes_buffer, moves_memory, moves_at}
use Rattle.vm_home.specs.Reached.{IsReached}
use Rattle.vm_home.proofs.PlaceLemmas.{or_left, or_right, buffer_at, HasAt, lent_from, IsLess, IsStill, Relates, relates_less, lent_still, used_less, device_less}
use Rattle.vm_home.proofs.RowLemmas.{IsSound, Stays, stays_row, ready_at, frame_relates}
use Rattle.vm_home.proofs.FactLemmas.{Facts, facts_of}

-- ---- what it says that a memory is in its place

away_of : (a k : Bool) (s : LocalState) (m : ℕ) (mem : Option Mem) → a ≡ true → IsInPlace a k s m mem → mem ≡ None
away_of true k s m mem is h = h
away_of false k s m mem is h = absurd (false≢true is)

there_of : (a k : Bool) (s : LocalState) (m : ℕ) (mem : Option Mem) → a ≡ false → k ≡ true → IsInPlace a k s m mem → IsThere s m mem
there_of true k s m mem is kept h = absurd (true≢false is)
there_of false true s m mem is kept h = h
there_of false false s m mem is kept h = absurd (false≢true kept)

in_place_of : (a k : Bool) (s : LocalState) (m : ℕ) (mem : Option Mem) → (a ≡ true → mem ≡ None) → (a ≡ false → k ≡ true → IsThere s m mem) → IsInPlace a k s m mem
in_place_of true k s m mem away there = away refl
in_place_of false true s m mem away there = there refl refl
in_place_of false false s m mem away there = tt

-- one that is out isn't at home
pub out_away : (s : LocalState) (out : Option ℕ) (home : List (Option Mem)) (m : ℕ) → AreInPlace s out home → is_out s out m ≡ true → home_of home m ≡ None
out_away s out home m h is = away_of (is_out s out m) (is_kept s m) s m (home_of home m) is (h.each m)

-- one that the handle has else is
pub kept_there : (s : LocalState) (out : Option ℕ) (home : List (Option Mem)) (m : ℕ) → AreInPlace s out home → is_out s out m ≡ false → is_kept s m ≡ true → IsThere s m (home_of home m)
kept_there s out home m h is kept = there_of (is_out s out m) (is_kept s m) s m (home_of home m) is kept (h.each m)

-- and there is no more to be shown
pub in_places : (s : LocalState) (out : Option ℕ) (home : List (Option Mem)) → length home ≡ length s.memories →
    ((m : ℕ) → is_out s out m ≡ true → home_of home m ≡ None) →
    ((m : ℕ) → is_out s out m ≡ false → is_kept s m ≡ true → IsThere s m (home_of home m)) → AreInPlace s out home
in_places s out home long away there = record {
  places = long;
  each = λ m. in_place_of (is_out s out m) (is_kept s m) s m (home_of home m) (away m) (there m);
}

-- ---- what the handle has

-- the handle has a memory where a name is bound to it, or where it is that of a buffer
pub kept_cases : (s : LocalState) (m : ℕ) → is_kept s m ≡ true →
    (is_named s m ≡ true) ⊎ ((s.opened ≡ true) × ((is_of_device s m ≡ true) ⊎ (is_in_use s m ≡ true)))
kept_cases s m kept = elim (or_cases (is_named s m) (s.opened && (is_of_device s m || is_in_use s m)) kept) as (λ _. (is_named s m ≡ true) ⊎ ((s.opened ≡ true) × ((is_of_device s m ≡ true) ⊎ (is_in_use s m ≡ true)))) [
  | inl named ↦ inl named
  | inr rest ↦
      let both : (s.opened ≡ true) × ((is_of_device s m || is_in_use s m) ≡ true) = and_parts s.opened (is_of_device s m || is_in_use s m) rest in
      inr (both.0, or_cases (is_of_device s m) (is_in_use s m) both.1)
]

pub named_kept : (s : LocalState) (m : ℕ) → is_named s m ≡ true → is_kept s m ≡ true
named_kept s m is = or_left (is_named s m) (s.opened && (is_of_device s m || is_in_use s m)) is

pub device_kept : (s : LocalState) (m : ℕ) → s.opened ≡ true → is_of_device s m ≡ true → is_kept s m ≡ true
device_kept s m opened is =
    or_right (is_named s m) (s.opened && (is_of_device s m || is_in_use s m))
    (and_from s.opened (is_of_device s m || is_in_use s m) opened (or_left (is_of_device s m) (is_in_use s m) is))

pub used_kept : (s : LocalState) (m : ℕ) → s.opened ≡ true → is_in_use s m ≡ true → is_kept s m ≡ true
used_kept s m opened is =
    or_right (is_named s m) (s.opened && (is_of_device s m || is_in_use s m))
    (and_from s.opened (is_of_device s m || is_in_use s m) opened (or_right (is_of_device s m) (is_in_use s m) is))

-- where buffers become less, and names stand for no other memories, so does what the handle has
pub kept_less : (s t : LocalState) → (t.opened ≡ true → s.opened ≡ true) → Relates IsLess s.queues t.queues →
    ((m : ℕ) → is_named t m ≡ true → is_kept s m ≡ true) → (m : ℕ) → is_kept t m ≡ true → is_kept s m ≡ true
kept_less s t opened less names m kept = elim (kept_cases t m kept) as (λ _. is_kept s m ≡ true) [
  | inl named ↦ names m named
  | inr rest ↦ elim rest.1 as (λ _. is_kept s m ≡ true) [
    | inl device ↦ device_kept s m (opened rest.0) (device_less s t less m device)
    | inr used ↦ used_kept s m (opened rest.0) (used_less s t less m used)
  ]
]

-- a memory as another state has it, where it has the same bytes
pub same_there : (s t : LocalState) (m : ℕ) (mem : Option Mem) → bytes_of t m ≡ bytes_of s m → (is_of_device t m ≡ true → is_of_device s m ≡ true) → IsThere s m mem → IsThere t m mem
same_there s t m None bytes device h = absurd h
same_there s t m (Some mem) bytes device h = record { bytes = h.bytes ∙ sym bytes; frame = λ is. h.frame (device is) }

-- ---- where all stays

-- The same memories are with the device, the handle has no others than it had, and those that aren't with the device have
-- the bytes that they had.
pub record LeavesHome (s t : LocalState) : Type 0 where
  pub lent : (m : ℕ) → is_lent t m ≡ is_lent s m
  pub kept : (m : ℕ) → is_kept t m ≡ true → is_kept s m ≡ true
  pub device : (m : ℕ) → is_of_device t m ≡ true → is_of_device s m ≡ true
  pub size : length t.memories ≡ length s.memories
  pub bytes : (m : ℕ) → is_lent s m ≡ false → bytes_of t m ≡ bytes_of s m

pub or_none : (a b : Bool) → (a || b) ≡ false → (a ≡ false) × (b ≡ false)
or_none true b is = absurd (true≢false is)
or_none false b is = (refl, is)

pub not_out : (s : LocalState) (out : Option ℕ) (m : ℕ) → is_out s out m ≡ false → (is_lent s m ≡ false) × (is_just out m ≡ false)
not_out s out m is = or_none (is_lent s m) (is_just out m) is

pub home_stays : (s t : LocalState) (out : Option ℕ) (home : List (Option Mem)) → LeavesHome s t → AreInPlace s out home → AreInPlace t out home
home_stays s t out home leaves h =
    let same : (m : ℕ) → is_out t out m ≡ is_out s out m = λ m. ap (λ b. b || is_just out m) (leaves.lent m) in
    in_places t out home (h.places ∙ sym leaves.size) (λ m is. out_away s out home m h (sym (same m) ∙ is)) (λ m is kept.
    let no : is_out s out m ≡ false = sym (same m) ∙ is in
    same_there s t m (home_of home m) (leaves.bytes m (not_out s out m no).0) (leaves.device m)
    (kept_there s out home m h no (leaves.kept m kept)))

leaves_same : (s : LocalState) → LeavesHome s s
leaves_same s = record { lent = λ m. refl; kept = λ m is. is; device = λ m is. is; size = refl; bytes = λ m _. refl }

pub leaves_stays : (s t : LocalState) → Stays s t → LeavesHome s t
leaves_stays s t stays =
    let less : Relates IsLess s.queues t.queues = relates_less s.queues t.queues stays.queues in
    record {
      lent = lent_still s t stays.queues;
      kept = kept_less s t (λ is. sym stays.opened ∙ is) less stays.names;
      device = device_less s t less;
      size = ap (λ ms. length ms) stays.memories;
      bytes = λ m _. ap (λ ms. get_or ms m []) stays.memories;
    }

-- the steps that take a frame
leaves_frame : (s : LocalState) (good : Bool) (entries : List OwedEntry) (n : ℕ) (memories : List (List ℕ)) → IsSound s → can_finish s ≡ true →
    length memories ≡ length s.memories → ((m : ℕ) → is_lent s m ≡ false → get_or memories m [] ≡ bytes_of s m) →
    LeavesHome s (record (with_target_used s n (heads_taken s good entries)) { memories = memories })
leaves_frame s good entries n memories sound ready size bytes =
    let t : LocalState = record (with_target_used s n (heads_taken s good entries)) { memories = memories } in
    let still : Relates IsStill s.queues t.queues = frame_relates s good entries n sound ready in
    let less : Relates IsLess s.queues t.queues = relates_less s.queues t.queues still in
    record {
      lent = lent_still s t still;
      kept = kept_less s t (λ is. is) less (λ m is. named_kept s m is);
      device = device_less s t less;
      size = size;
      bytes = bytes;
    }

-- the memory that a frame's picture is written to is with the device
pub target_lent : (s : LocalState) → Facts s → can_finish s ≡ true → is_lent s (number_of (head_buffer (target s))) ≡ true
target_lent s facts ready =
    let u : ℕ = picture_queue s.model in
    let p : ℕ = place_in (types_of s.model) u in
    let i : ℕ = head (target s) in
    let within : p < length s.queues = omega (arith, facts.sound.long, has_target s.model) in
    let queued : (buffer_at s.queues p i).state ≡ Queued = ready_at s facts.sound ready p within in
    let w : (m : ℕ) × HasAt s.queues p i m = facts.owns.has p i (ap is_idle queued) in
    let is : number_of (head_buffer (target s)) ≡ w.0 = ap (λ o. unwrap_or o 0) w.1 in
    subst (λ m. is_lent s m ≡ true) (sym is) (lent_from s p i w.0 w.1 (ap is_away queued))

pub leaves_made : (s : LocalState) → Facts s → can_finish s ≡ true → LeavesHome s (frame_made s)
leaves_made s facts ready =
    let n : ℕ = number_of (head_buffer (target s)) in
    let size : ℕ = picture_size (target s).format in
    let picture : List ℕ = next_picture s ++ drop size (bytes_of s n) in
    leaves_frame s true (sync_of s ++ buffers_taken s) size (set s.memories n picture) facts.sound ready (length-set s.memories n picture) (λ m unlent.
    elim (cases_eq m n) as (λ _. get_or (set s.memories n picture) m [] ≡ bytes_of s m) [
      | inl is ↦ absurd (true≢false (sym (target_lent s facts ready) ∙ (ap (λ k. is_lent s k) (sym is) ∙ unlent)))
      | inr apart ↦ get_or-set_other s.memories n m picture [] apart
    ])

pub leaves_failed : (s : LocalState) → Facts s → can_finish s ≡ true → LeavesHome s (frame_failed s)
leaves_failed s facts ready = leaves_frame s false (buffers_taken s) 0 s.memories facts.sound ready refl (λ m _. refl)

leaves_sync : (s : LocalState) (t : ℕ) (item : OwedItem) (rest : List OwedEntry) → is_buffer item ≡ false → LeavesHome s (item_given (record s { owed = rest }) t item)
leaves_sync s t (OwedBuffer i) rest not = absurd (true≢false not)
leaves_sync s t (Sync frame) rest not =
    elim s.subscribed as (λ b. LeavesHome s (if b then record s {
      owed = rest;
      events = s.events ++ (record { frame = frame; number = s.next_event }) ∷ [];
      next_event = counted s.next_event;
    } else record s { owed = rest })) [
      | true ↦ record { lent = λ m. refl; kept = λ m is. is; device = λ m is. is; size = refl; bytes = λ m _. refl }
      | false ↦ record { lent = λ m. refl; kept = λ m is. is; device = λ m is. is; size = refl; bytes = λ m _. refl }
    ]

-- a call that moves no memory
pub leaves_call : (s t : LocalState) (line : ℕ) (call : Call) (reply : Reply) → IsReached s → moves_memory call ≡ false → called s line call reply ≡ Some t → LeavesHome s t
unfolding called
leaves_call s t line call reply reached still leads =
    let r : Row = row_for s line call reply in
    elim (answered_by (first_refusal r.refusals) r s reply t leads) as (λ _. LeavesHome s t) [
      | inl same ↦ subst (LeavesHome s) (sym same) (leaves_same s)
      | inr w ↦ subst (LeavesHome s) (sym w.3) (leaves_stays s r.next (stays_row s line (address_in reply) call (facts_of s reached).sound still w.0 w.1))
    ]

-- and each entry that moves none
pub leaves_still : (s t : LocalState) (e : Entry) → IsReached s → moves_at s e ≡ false → after s e ≡ Some t → LeavesHome s t
leaves_still s t (Called line call (Refused errno)) reached still leads = subst (LeavesHome s) (sym (refused_call s line call errno t leads)) (leaves_same s)
leaves_still s t Finish reached still leads =
    let w : (can_finish s ≡ true) × (t ≡ frame_made s) = finished_by s t leads in
    subst (LeavesHome s) (sym w.1) (leaves_made s (facts_of s reached) w.0)
leaves_still s t Bad reached still leads =
    let w : (can_finish s ≡ true) × (t ≡ frame_failed s) = failed_by s t leads in
    subst (LeavesHome s) (sym w.1) (leaves_failed s (facts_of s reached) w.0)
leaves_still s t Give reached still leads =
    let w : Gave s s.owed t = given_by s t leads in
    subst (LeavesHome s) (sym w.3) (leaves_sync s w.0.queue w.0.item w.1 (ap owes_buffer (sym w.2) ∙ still))
leaves_still s t (Called line call reply) reached still leads = leaves_call s t line call reply reached still leads

pub still : (s t : LocalState) (e : Entry) (out : Option ℕ) (home : List (Option Mem)) → IsReached s → moves_at s e ≡ false → after s e ≡ Some t →
    AreInPlace s out home → AreInPlace t out home
still s t e out home reached moves leads = home_stays s t out home (leaves_still s t e reached moves leads)
