-- A memory goes to the device with its buffer, and is given back.
use Rattle.std.proofs.Common.{◌≡◌, ◌≢◌, inl, inr, ℕ, ◌<◌, Bool, true, false, ◌||◌, ◌==◌, List, [], ◌∷◌, ◌++◌, length, get_or, set, Option, Some, None, refl, sym, ap, ◌∙◌, subst, arith, unwrap_or, get_or-set_same, get_or-set_other, length-set, eq-eqb}
use Rattle.std.specs.List.{list_any}
use Rattle.std.proofs.lemmas.Bool.{false≢true, true≢false, cases_Bool, cases_eq}
use Rattle.v4l_const.specs.Model.{queues as types_of}
use Rattle.v4l_rules.specs.Queues.{place_in}
use Rattle.v4l_rules.specs.Refusals.{first_refusal}
use Rattle.vm_frame.specs.declared.mem.Mem.{Mem}
use Rattle.vm_local.specs.declared.buffer.Buffer.{Buffer}
use Rattle.vm_local.specs.declared.buffer.BufferState.TheVariants.{Owed, Done as AsDone}
use Rattle.vm_local.specs.declared.call.Call.{Call}
use Rattle.vm_local.specs.declared.call.Call.TheVariants.{QBuf}
use Rattle.vm_local.specs.declared.entry.Entry.TheVariants.{Give}
use Rattle.vm_local.specs.declared.owed.Owed.{Owed as OwedEntry}
use Rattle.vm_local.specs.declared.owed.OwedItem.TheVariants.{Buffer as OwedBuffer}
use Rattle.vm_local.specs.declared.reply.Reply.TheVariants.{Done}
use Rattle.vm_local.specs.State.{QueueState, LocalState, queue_of, buffer_of}
use Rattle.vm_local.specs.Kinds.{is_idle, is_away}
use Rattle.vm_local.specs.Listed.{IsThere as IsInState}
use Rattle.vm_local.specs.Live.{is_of_device, is_named, is_live}
use Rattle.vm_local.specs.Memory.{is_just, is_lent, is_in_use}
use Rattle.vm_local.specs.Queue.{is_user_ptr, brought, queued_buffer, with_queued}
use Rattle.vm_local.specs.Steps.{number_of, with_done, buffer_given, given, given_from}
use Rattle.vm_local.specs.Calls.{row_of, qbuf_row}
use Rattle.vm_local.specs.Log.{row_for, called, after}
use Rattle.vm_local.proofs.KeptLemmas.{some_same}
use Rattle.vm_home.specs.Home.{home_of, is_kept, is_out, IsMemory, IsThere, AreInPlace}
use Rattle.vm_home.specs.Moves.{goes_along}
use Rattle.vm_home.specs.Reached.{IsReached}
use Rattle.vm_home.proofs.PlaceLemmas.{or_left, or_right, fails, buffer_at, HasAt, lent_at, lent_from, used_at, used_from, device_at, device_from, away_busy, IsLess, Relates, lent_less, device_less}
use Rattle.vm_home.proofs.RowLemmas.{IsSound, given_there, given_relates}
use Rattle.vm_home.proofs.OwnLemmas.{user_named, IsChanged, changed_at, kind_kept, number_made}
use Rattle.vm_home.proofs.FactLemmas.{Facts, facts_of, Queues, queues_number}
use Rattle.vm_home.proofs.StillLemmas.{out_away, kept_there, in_places, kept_cases, named_kept, device_kept, used_kept, kept_less, same_there, not_out}
use Rattle.vm_home.proofs.MoveLemmas.{Went, went, or_bare, just_other}

-- ---- a buffer is queued

or_both : (a b : Bool) → a ≡ false → b ≡ false → (a || b) ≡ false
or_both true b one two = absurd (true≢false one)
or_both false b one two = two

out_less : (a b c : Bool) → (a ≡ true → b ≡ true) → (a || c) ≡ true → (b || c) ≡ true
out_less true b c implies is = or_left b c (implies refl)
out_less false b c implies is = or_right b c is

-- what the handle has was made
pub kept_made : (s : LocalState) → IsSound s → (m : ℕ) → is_kept s m ≡ true → m < length s.memories
kept_made s sound m kept = sound.live m (elim (kept_cases s m kept) as (λ _. is_live s m ≡ true) [
  | inl named ↦ or_right (is_in_use s m) (is_of_device s m || is_named s m) (or_right (is_of_device s m) (is_named s m) named)
  | inr rest ↦ elim rest.1 as (λ _. is_live s m ≡ true) [
    | inl device ↦ or_right (is_in_use s m) (is_of_device s m || is_named s m) (or_left (is_of_device s m) (is_named s m) device)
    | inr used ↦ or_left (is_in_use s m) (is_of_device s m || is_named s m) used
  ]
])

-- The memory that goes along with a call that queues a buffer, where no refusal stops it: it isn't with the device, the
-- handle has it, and it was made.
pub record AlongIs (s : LocalState) (call : Call) (m : ℕ) : Type 0 where
  pub along : goes_along s call ≡ Some m
  pub unlent : is_lent s m ≡ false
  pub kept : is_kept s m ≡ true
  pub made : m < length s.memories

queues_unlent : (s : LocalState) (t i : ℕ) (user : Option (List ℕ)) (n : ℕ) → Queues s t i user n → is_lent s n ≡ false
queues_unlent s t i user n queues = elim (cases_Bool (is_lent s n)) as (λ _. is_lent s n ≡ false) [
  | inr unlent ↦ unlent
  | inl lent ↦
      let w : _ = lent_at s n lent in
      let busy : is_idle (buffer_at s.queues w.0 w.1).state ≡ false = away_busy (buffer_at s.queues w.0 w.1).state w.3 in
      let same : (w.0 ≡ place_in (types_of s.model) t) × (w.1 ≡ i) = queues.free.busy w.0 w.1 busy w.2 in
      let P : ℕ → ℕ → Type 0 = λ p j. is_idle (buffer_at s.queues p j).state ≡ false in
      let now : is_idle (buffer_of (queue_of s t) i).state ≡ false = subst (λ j. P (place_in (types_of s.model) t) j) same.1 (subst (λ p. P p w.1) same.0 busy) in
      absurd (true≢false (sym queues.idle ∙ now))
]

queues_kept : (s : LocalState) (t i : ℕ) (user : Option (List ℕ)) (n : ℕ) → Queues s t i user n → is_kept s n ≡ true
queues_kept s t i user n queues = elim (cases_Bool (is_user_ptr (queue_of s t).memory)) as (λ _. is_kept s n ≡ true) [
  | inl users ↦ named_kept s n (user_named s n (queues.named users))
  | inr device ↦ device_kept s n queues.opened (device_from s (place_in (types_of s.model) t) i n (queues.device device) device)
]

-- and so it is at home
pub along_home : (s : LocalState) (call : Call) (m : ℕ) (home : List (Option Mem)) → AlongIs s call m → AreInPlace s None home → IsThere s m (home_of home m)
along_home s call m home along h = kept_there s None home m h (ap (λ b. b || false) along.unlent) along.kept

-- The memory with this number goes to the device with its buffer; of the others each is where it was, and the handle has no
-- others than it had.
pub record SendsTo (s t : LocalState) (n : ℕ) : Type 0 where
  pub mine : is_lent t n ≡ true
  pub lent : (m : ℕ) → m ≢ n → is_lent t m ≡ true → is_lent s m ≡ true
  pub still : (m : ℕ) → is_lent s m ≡ true → is_lent t m ≡ true
  pub device : (m : ℕ) → m ≢ n → is_of_device t m ≡ true → is_of_device s m ≡ true
  pub used : (m : ℕ) → m ≢ n → is_in_use t m ≡ true → is_in_use s m ≡ true
  pub opened : t.opened ≡ s.opened
  pub bound : t.bound ≡ s.bound
  pub memories : t.memories ≡ s.memories

queues_send : (s : LocalState) (u i : ℕ) (user : Option (List ℕ)) (used ts n : ℕ) → Queues s u i user n → SendsTo s (with_queued s u i (brought s user) used ts) n
unfolding queued_buffer
queues_send s u i user used ts n queues =
    let p : ℕ = place_in (types_of s.model) u in
    let q : QueueState = queue_of s u in
    let b : Buffer = queued_buffer s u (brought s user) used ts (buffer_of q i) in
    let v : QueueState = record q { buffers = set q.buffers i b; queued = q.queued ++ i ∷ [] } in
    let t : LocalState = with_queued s u i (brought s user) used ts in
    let at : (k j : ℕ) → IsChanged s.queues t.queues p i b k j = changed_at s.queues p i b v queues.inside refl in
    let at_place : buffer_at t.queues p i ≡ b = elim (at p i) as (λ _. buffer_at t.queues p i ≡ b) [
      | inl here ↦ here.2
      | inr other ↦ absurd (other.0 refl refl)
    ] in
    -- at any other place is what was there
    let has_old : (k j m : ℕ) → m ≢ n → HasAt t.queues k j m → (buffer_at t.queues k j ≡ buffer_at s.queues k j) × HasAt s.queues k j m = λ k j m apart has.
    elim (at k j) as (λ _. (buffer_at t.queues k j ≡ buffer_at s.queues k j) × HasAt s.queues k j m) [
      | inl here ↦ absurd (apart (some_same m n 0 (sym has ∙ (ap (λ (c : Buffer). c.memory) here.2 ∙ queues.number))))
      | inr other ↦ (other.1, ap (λ (c : Buffer). c.memory) (sym other.1) ∙ has)
    ] in
    record {
      mine = lent_from t p i n (ap (λ (c : Buffer). c.memory) at_place ∙ queues.number) (ap (λ (c : Buffer). is_away c.state) at_place);
      lent = λ m apart is.
          let x : _ = lent_at t m is in
          let y : _ = has_old x.0 x.1 m apart x.2 in
          lent_from s x.0 x.1 m y.1 (ap (λ (c : Buffer). is_away c.state) (sym y.0) ∙ x.3);
      still = λ m is.
          let x : _ = lent_at s m is in
          elim (at x.0 x.1) as (λ _. is_lent t m ≡ true) [
            | inr other ↦ lent_from t x.0 x.1 m (ap (λ (c : Buffer). c.memory) other.1 ∙ x.2) (ap (λ (c : Buffer). is_away c.state) other.1 ∙ x.3)
            | inl here ↦
                let busy : is_idle (buffer_at s.queues x.0 x.1).state ≡ false = away_busy (buffer_at s.queues x.0 x.1).state x.3 in
                let P : ℕ → ℕ → Type 0 = λ k j. is_idle (buffer_at s.queues k j).state ≡ false in
                let now : is_idle (buffer_of q i).state ≡ false = subst (λ j. P p j) here.1 (subst (λ k. P k x.1) here.0 busy) in
                absurd (true≢false (sym queues.idle ∙ now))
          ];
      device = λ m apart is.
          let x : _ = device_at t m is in
          device_from s x.0 x.1 m (has_old x.0 x.1 m apart x.2).1 (ap is_user_ptr (sym (kind_kept s.queues p v refl x.0)) ∙ x.3);
      used = λ m apart is.
          let x : _ = used_at t m is in
          let y : _ = has_old x.0 x.1 m apart x.2 in
          used_from s x.0 x.1 m y.1 (ap (λ (c : Buffer). is_idle c.state) (sym y.0) ∙ x.3);
      opened = refl;
      bound = refl;
      memories = refl;
    }

-- the handle has no memories that it didn't have
sends_kept : (s t : LocalState) (n m : ℕ) → SendsTo s t n → m ≢ n → is_kept t m ≡ true → is_kept s m ≡ true
sends_kept s t n m sends apart kept = elim (kept_cases t m kept) as (λ _. is_kept s m ≡ true) [
  | inl named ↦ named_kept s m (ap (λ bs. list_any (λ b. b.memory == m) bs) (sym sends.bound) ∙ named)
  | inr rest ↦ elim rest.1 as (λ _. is_kept s m ≡ true) [
    | inl device ↦ device_kept s m (sym sends.opened ∙ rest.0) (sends.device m apart device)
    | inr used ↦ used_kept s m (sym sends.opened ∙ rest.0) (sends.used m apart used)
  ]
]

sends_home : (s t : LocalState) (n : ℕ) (home : List (Option Mem)) → SendsTo s t n → AreInPlace s (Some n) home → AreInPlace t None home
sends_home s t n home sends h =
    in_places t None home (h.places ∙ ap (λ ms. length ms) (sym sends.memories))
    (λ m out. elim (cases_eq m n) as (λ _. home_of home m ≡ None) [
      | inl same ↦ out_away s (Some n) home m h (or_right (is_lent s m) (is_just (Some n) m) (eq-eqb n m (sym same)))
      | inr apart ↦ out_away s (Some n) home m h (or_left (is_lent s m) (is_just (Some n) m) (sends.lent m apart (sym (or_bare (is_lent t m)) ∙ out)))
    ])
    (λ m out kept.
    let unlent : is_lent t m ≡ false = (not_out t None m out).0 in
    let apart : m ≢ n = λ same. true≢false (sym sends.mine ∙ (ap (λ k. is_lent t k) (sym same) ∙ unlent)) in
    let before : is_out s (Some n) m ≡ false = or_both (is_lent s m) (is_just (Some n) m) (fails (is_lent s m) (is_lent t m) (sends.still m) unlent) (just_other n m apart) in
    same_there s t m (home_of home m) (ap (λ ms. get_or ms m []) sends.memories) (sends.device m apart)
    (kept_there s (Some n) home m h before (sends_kept s t n m sends apart kept)))

-- what a call does that queues a buffer
pub qbuf_sends : (s : LocalState) (line addr u i : ℕ) (user : Option (List ℕ)) (used ts : ℕ) → IsReached s →
    first_refusal (row_of s line addr (QBuf u i user used ts)).refusals ≡ None →
    (n : ℕ) × AlongIs s (QBuf u i user used ts) n × SendsTo s (row_of s line addr (QBuf u i user used ts)).next n
unfolding qbuf_row
qbuf_sends s line addr u i user used ts reached pass =
    let f : Facts s = facts_of s reached in
    let w : (n : ℕ) × Queues s u i user n = queues_number s u i user used ts f.sound f.owns pass in
    let kept : is_kept s w.0 ≡ true = queues_kept s u i user w.0 w.1 in (
      w.0,
      record { along = w.1.number; unlent = queues_unlent s u i user w.0 w.1; kept = kept; made = kept_made s f.sound w.0 kept },
      queues_send s u i user used ts w.0 w.1,
    )

-- the buffer and its memory are with the device
pub qbuf_home : (s t : LocalState) (line u i : ℕ) (user : Option (List ℕ)) (used ts : ℕ) (home : List (Option Mem)) → IsReached s →
    called s line (QBuf u i user used ts) Done ≡ Some t → AreInPlace s (goes_along s (QBuf u i user used ts)) home → AreInPlace t None home
qbuf_home s t line u i user used ts home reached leads placed =
    let call : Call = QBuf u i user used ts in
    let w : Went (row_for s line call Done) Done t = went s line call Done t refl leads in
    let found : _ = qbuf_sends s line 0 u i user used ts reached w.pass in
    let h : AreInPlace s (Some found.0) home = subst (λ o. AreInPlace s o home) found.1.along placed in
    subst (λ (x : LocalState). AreInPlace x None home) (sym w.next) (sends_home s (row_for s line call Done).next found.0 home found.2 h)

-- and the handle has no memories that it didn't have
pub qbuf_kept : (s : LocalState) (line addr u i : ℕ) (user : Option (List ℕ)) (used ts m : ℕ) → IsReached s →
    first_refusal (row_of s line addr (QBuf u i user used ts)).refusals ≡ None → is_kept (row_of s line addr (QBuf u i user used ts)).next m ≡ true → is_kept s m ≡ true
qbuf_kept s line addr u i user used ts m reached pass kept =
    let found : _ = qbuf_sends s line addr u i user used ts reached pass in
    elim (cases_eq m found.0) as (λ _. is_kept s m ≡ true) [
      | inl same ↦ subst (λ k. is_kept s k ≡ true) (sym same) found.1.kept
      | inr apart ↦ sends_kept s (row_of s line addr (QBuf u i user used ts)).next found.0 m found.2 apart kept
    ]

-- ---- a buffer is given

-- the first thing owed is this buffer, whose memory has this number
pub record GivesBack (s : LocalState) (u i n : ℕ) : Type 0 where
  pub rest : List OwedEntry
  pub owed : s.owed ≡ record { queue = u; item = OwedBuffer i } ∷ rest
  pub number : n ≡ number_of (buffer_of (queue_of s u) i)

-- the buffer is with the device, and so is its memory
gives_at : (s : LocalState) (u i n : ℕ) → Facts s → GivesBack s u i n →
    IsInState Owed (queue_of s u) i × HasAt s.queues (place_in (types_of s.model) u) i n
gives_at s u i n f gives =
    let there : IsInState Owed (queue_of s u) i = given_there s u i gives.rest f.sound gives.owed in
    let w : (m : ℕ) × HasAt s.queues (place_in (types_of s.model) u) i m = f.owns.has (place_in (types_of s.model) u) i (ap is_idle there.1) in
    let is : n ≡ w.0 = gives.number ∙ ap (λ o. unwrap_or o 0) w.1 in
    (there, w.1 ∙ ap (λ m. Some m) (sym is))

pub given_lent : (s : LocalState) (u i n : ℕ) → IsReached s → GivesBack s u i n → (is_lent s n ≡ true) × (n < length s.memories)
given_lent s u i n reached gives =
    let f : Facts s = facts_of s reached in
    let at : IsInState Owed (queue_of s u) i × HasAt s.queues (place_in (types_of s.model) u) i n = gives_at s u i n f gives in
    (lent_from s (place_in (types_of s.model) u) i n at.1 (ap is_away at.0.1), number_made s f.sound (place_in (types_of s.model) u) i n at.1)

given_first : (s t : LocalState) (u i : ℕ) (rest : List OwedEntry) → s.owed ≡ record { queue = u; item = OwedBuffer i } ∷ rest → after s Give ≡ Some t →
    t ≡ buffer_given (record s { owed = rest }) u i
unfolding given
given_first s t u i rest owed leads =
    let first : given_from s s.owed ≡ Some (buffer_given (record s { owed = rest }) u i) = ap (λ os. given_from s os) owed in
    some_same t (buffer_given (record s { owed = rest }) u i) t (sym leads ∙ first)

pub given_home : (s t : LocalState) (u i n : ℕ) (mem : Mem) (out : Option ℕ) (home : List (Option Mem)) → IsReached s → GivesBack s u i n → after s Give ≡ Some t →
    IsMemory s n mem → is_just out n ≡ false → AreInPlace s out home → AreInPlace t out (set home n (Some mem))
given_home s t u i n mem out home reached gives leads is apart_out h =
    let f : Facts s = facts_of s reached in
    let p : ℕ = place_in (types_of s.model) u in
    let q : QueueState = queue_of s u in
    let at : IsInState Owed q i × HasAt s.queues p i n = gives_at s u i n f gives in
    let v : QueueState = with_done q i in
    let c : Buffer = record (buffer_of q i) { state = AsDone } in
    let new : LocalState = buffer_given (record s { owed = gives.rest }) u i in
    let goes : t ≡ new = given_first s t u i gives.rest gives.owed leads in
    let less : Relates IsLess s.queues new.queues = given_relates s u i at.0 in
    let changed : (k j : ℕ) → IsChanged s.queues new.queues p i c k j = changed_at s.queues p i c v at.0.0 refl in
    let busy_at : is_idle (buffer_at s.queues p i).state ≡ false = ap is_idle at.0.1 in
    let unlent : is_lent new n ≡ false = elim (cases_Bool (is_lent new n)) as (λ _. is_lent new n ≡ false) [
      | inr no_more ↦ no_more
      | inl lent ↦
          let x : _ = lent_at new n lent in
          elim (changed x.0 x.1) as (λ _. is_lent new n ≡ false) [
            | inl here ↦ absurd (false≢true (ap (λ (b : Buffer). is_away b.state) (sym here.2) ∙ x.3))
            | inr other ↦
                let busy : is_idle (buffer_at s.queues x.0 x.1).state ≡ false = away_busy (buffer_at s.queues x.0 x.1).state (ap (λ (b : Buffer). is_away b.state) (sym other.1) ∙ x.3) in
                let same : (x.0 ≡ p) × (x.1 ≡ i) = f.owns.busy x.0 x.1 p i n busy busy_at (ap (λ (b : Buffer). b.memory) (sym other.1) ∙ x.2) at.1 in
                absurd (other.0 same.0 same.1)
          ]
    ] in
    let still_lent : (m : ℕ) → m ≢ n → is_lent s m ≡ true → is_lent new m ≡ true = λ m apart lent.
    let x : _ = lent_at s m lent in
    elim (changed x.0 x.1) as (λ _. is_lent new m ≡ true) [
      | inl here ↦
          let P : ℕ → ℕ → Type 0 = λ k j. HasAt s.queues k j m in
          let has : HasAt s.queues p i m = subst (λ j. P p j) here.1 (subst (λ k. P k x.1) here.0 x.2) in
          absurd (apart (some_same m n 0 (sym has ∙ at.1)))
      | inr other ↦ lent_from new x.0 x.1 m (ap (λ (b : Buffer). b.memory) other.1 ∙ x.2) (ap (λ (b : Buffer). is_away b.state) other.1 ∙ x.3)
    ] in
    let within : n < length home = omega (arith, h.places, number_made s f.sound p i n at.1) in
    let back : List (Option Mem) = set home n (Some mem) in
    let not_n : (m : ℕ) → is_out new out m ≡ true → m ≢ n = λ m is_gone same.
    true≢false (sym (ap (λ k. is_out new out k) (sym same) ∙ is_gone) ∙ or_both (is_lent new n) (is_just out n) unlent apart_out) in
    subst (λ (x : LocalState). AreInPlace x out back) (sym goes) (in_places new out back (length-set home n (Some mem) ∙ h.places)
    (λ m gone.
    let apart : m ≢ n = not_n m gone in
    get_or-set_other home n m (Some mem) None apart ∙ out_away s out home m h (out_less (is_lent new m) (is_lent s m) (is_just out m) (lent_less s new less m) gone))
    (λ m here kept. elim (cases_eq m n) as (λ _. IsThere new m (home_of back m)) [
      | inl same ↦
          let P : ℕ → Type 0 = λ k. IsThere new k (home_of back k) in
          let Q : Option Mem → Type 0 = λ o. IsThere new n o in
          subst P (sym same) (subst Q (sym (get_or-set_same home n (Some mem) None within)) (same_there s new n (Some mem) refl (device_less s new less n) is))
      | inr apart ↦
          let Q : Option Mem → Type 0 = λ o. IsThere new m o in
          let before : is_out s out m ≡ false = or_both (is_lent s m) (is_just out m) (fails (is_lent s m) (is_lent new m) (still_lent m apart) (not_out new out m here).0) (not_out new out m here).1 in
          let was : is_kept s m ≡ true = kept_less s new (λ o. o) less (λ k named. named_kept s k named) m kept in
          subst Q (sym (get_or-set_other home n m (Some mem) None apart)) (same_there s new m (home_of home m) refl (device_less s new less m) (kept_there s out home m h before was))
    ]))
