-- What is mapped fits the sessions, whatever command is done.
use Rattle.std.proofs.Common.{◌≡◌, ◌≢◌, ℕ, zero, suc, ◌+◌, ◌-◌, ◌^◌, ◌<◌, ◌≤◌, ◌==◌, Bool, true, false, if◌then◌else◌, Option, Some, None, Result, Ok, Err, List, [], ◌∷◌, ◌++◌, length, get_or, set, refl, sym, ap, ◌∙◌, subst, arith, ◌⊎◌, inl, inr}
use Rattle.std.specs.Prelude.{◌↔◌, IfSome, IfOk, IsErr, OnOk, OnErr}
use Rattle.std.proofs.lemmas.Bool.{cases_eq}
use Rattle.std.proofs.lemmas.List.{length-append, length-set}
use Rattle.v4l_const.specs.declared.errno.Errno.{Errno}
use Rattle.v4l_const.specs.declared.model.Model.{Model}
use Rattle.vm_mem.specs.declared.memory.Memory.{Memory}
use Rattle.vm_region.specs.Region.{RegionState, Maps, Unmaps, range_at, range_of}
use Rattle.vm_region.specs.declared.live_range.LiveRange.{LiveRange}
use Rattle.vm_session.specs.State.{SessionState, opening_session}
use Rattle.vm_session.specs.Buffers.{frame_tag}
use Rattle.vm_device.specs.Mappings.{HasFrame, HasPages, FitsSession, FitsSessions, pages_of}
use Rattle.vm_device.specs.Perform.{MadeFew}
use Rattle.vm_device.proofs.FrameLemmas.{Follows, no_frames, opening_framed}

-- ---- the sessions change

-- nothing is mapped at first
pub fits_nothing : FitsSessions [] []
fits_nothing = record {
  live = λ id s at. cc;
  unopened = λ id k past small. refl;
}

push_cases : (ss : List (Option SessionState)) (o : Option SessionState) (id : ℕ) (s : SessionState) → get_or (ss ++ o ∷ []) id None ≡ Some s
    → (get_or ss id None ≡ Some s) ⊎ ((id ≡ length ss) × (o ≡ Some s))
push_cases [] o zero s at = inr (refl, at)
push_cases [] o (suc id) s at = cc
push_cases (x ∷ ss) o zero s at = inl at
push_cases (x ∷ ss) o (suc id) s at = elim (push_cases ss o id s at) [
  | inl old ↦ inl old
  | inr new ↦ inr (ap suc new.0, new.1)
]

-- a session is opened
pub fits_opened : (ss : List (Option SessionState)) (m : Model) (id : ℕ) (ranges : List LiveRange) → id ≡ length ss → FitsSessions ss ranges → FitsSessions (ss ++ Some (opening_session m id) ∷ []) ranges
fits_opened ss m id ranges next fits = record {
  live = λ j s at. elim (push_cases ss (Some (opening_session m id)) j s at) [
    | inl old ↦ fits.live j s old
    | inr new ↦
        let same : opening_session m id ≡ s = cc in
        let here : FitsSession j (opening_session m id) ranges = record {
          framed = opening_framed m id;
          pages = λ k len has. absurd (no_frames m id k len has);
          unmade = λ k made small. fits.unopened j k (omega (arith, new.0)) small;
        } in
        subst (λ (x : SessionState). FitsSession j x ranges) same here
  ];
  unopened = λ j k past small. fits.unopened j k (let more = length-append ss (Some (opening_session m id) ∷ []) in omega (arith, past, more)) small;
}

set_cases : (ss : List (Option SessionState)) (id : ℕ) (o : Option SessionState) (j : ℕ) (s : SessionState) → get_or (set ss id o) j None ≡ Some s
    → (get_or ss j None ≡ Some s) ⊎ ((j ≡ id) × (o ≡ Some s))
set_cases [] id o j s at = inl at
set_cases (x ∷ ss) zero o zero s at = inr (refl, at)
set_cases (x ∷ ss) zero o (suc j) s at = inl at
set_cases (x ∷ ss) (suc id) o zero s at = inl at
set_cases (x ∷ ss) (suc id) o (suc j) s at = elim (set_cases ss id o j s at) [
  | inl old ↦ inl old
  | inr new ↦ inr (ap suc new.0, new.1)
]

-- a session is closed: what is mapped stays, and fits those that are left
pub fits_closed : (ss : List (Option SessionState)) (id : ℕ) (ranges : List LiveRange) → FitsSessions ss ranges → FitsSessions (set ss id None) ranges
fits_closed ss id ranges fits = record {
  live = λ j s at. elim (set_cases ss id None j s at) [
    | inl old ↦ fits.live j s old
    | inr new ↦ (let gone : None ≡ Some s = new.1 in cc)
  ];
  unopened = λ j k past small. fits.unopened j k (let same = length-set ss id None in omega (arith, past, same)) small;
}

-- a session is called, and goes on as another
pub fits_called : (ss : List (Option SessionState)) (id : ℕ) (s t : SessionState) (ranges : List LiveRange) → get_or ss id None ≡ Some s → Follows s t → (t.made ≡ s.made) ⊎ (t.made ≤ 2 ^ 32)
    → FitsSessions ss ranges → FitsSessions (set ss id (Some t)) ranges
fits_called ss id s t ranges there follows few fits = record {
  live = λ j u at. elim (set_cases ss id (Some t) j u at) [
    | inl old ↦ fits.live j u old
    | inr new ↦
        let same : t ≡ u = cc in
        let P : ℕ → Type 0 = λ i. FitsSession i t ranges in
        subst (λ (x : SessionState). FitsSession j x ranges) same (subst P (sym new.0) here)
  ];
  unopened = λ j k past small. fits.unopened j k (let same = length-set ss id (Some t) in omega (arith, past, same)) small;
}
  where
    was : FitsSession id s ranges
    was = fits.live id s there

    pages : (k len : ℕ) → HasFrame t k len → HasFrame s k len ⊎ (s.made ≤ k) → HasPages ranges (frame_tag id k) len
    pages k len has (inl old) = was.pages k len old
    pages k len has (inr new) =
        let below = follows.framed.made k len has in
        let small : (t.made ≡ s.made) ⊎ (t.made ≤ 2 ^ 32) → k < t.made → k < 2 ^ 32 = λ made below. elim made [
          | inl same ↦ absurd (omega (arith, same, below, new))
          | inr few ↦ omega (arith, few, below)
        ] in
        let none = was.unmade k new (small few below) in
        subst (λ (o : Option LiveRange). IfSome o (λ r. r.pages ≡ pages_of len)) (sym none) tt

    here : FitsSession id t ranges
    here = record {
      framed = follows.framed;
      pages = λ k len has. pages k len has (follows.old_or_new k len has);
      unmade = λ k made small. was.unmade k (let more = follows.more in omega (arith, made, more)) small;
    }

-- ---- the region changes

-- two frames of one tag are one
one_frame : (i j k l : ℕ) → k < 2 ^ 32 → l < 2 ^ 32 → frame_tag i k ≡ frame_tag j l → (i ≡ j) × (k ≡ l)
one_frame i j k l small other same = (omega (arith, small, other, same), omega (arith, small, other, same))

session_alike : (s t : SessionState) → Some s ≡ Some t → s ≡ t
session_alike s t same = cc

-- A range of a frame's tag is there now, with the frame's pages, and those of other tags stay.
record IsMapped (id k len : ℕ) (old new : List LiveRange) : Type 0 where
  range : LiveRange
  there : range_of (frame_tag id k) new ≡ Some range
  whole : range.pages ≡ pages_of len
  others : (tag : ℕ) → tag ≢ frame_tag id k → range_of tag new ≡ range_of tag old

-- the frame was mapped by the region
is_mapped : (old new : RegionState) (id k len addr : ℕ) (o : Option LiveRange) → range_of (frame_tag id k) old.ranges ≡ o → HasPages old.ranges (frame_tag id k) len
    → Maps o old (frame_tag id k) (pages_of len) addr new → IsMapped id k len old.ranges new.ranges
is_mapped old new id k len addr (Some r) was whole maps = record {
  range = record r { count = r.count + 1 };
  there = maps.1.tagged;
  whole = subst (λ (o : Option LiveRange). IfSome o (λ r. r.pages ≡ pages_of len)) was whole;
  others = maps.1.tagged_otherwise;
}
is_mapped old new id k len addr None was whole maps = record {
  range = record { addr = addr; pages = pages_of len; tag = frame_tag id k; count = 1 };
  there = maps.1.tagged;
  whole = refl;
  others = maps.1.tagged_otherwise;
}

-- each live session made few frames
abbrev pub HaveMadeFew : List (Option SessionState) → Type 0
HaveMadeFew ss = (id : ℕ) (s : SessionState) → get_or ss id None ≡ Some s → s.made < 2 ^ 32

pub few_made : (ss : List (Option SessionState)) → ((id : ℕ) → MadeFew (get_or ss id None)) → HaveMadeFew ss
few_made ss few id s at = let made : s.made < 2 ^ 32 - 32 = subst MadeFew at (few id) in omega (arith, made)

-- a frame is mapped
pub fits_mapped : (ss : List (Option SessionState)) (old new : RegionState) (id k len addr : ℕ) (s : SessionState) → FitsSessions ss old.ranges → HaveMadeFew ss
    → get_or ss id None ≡ Some s → HasFrame s k len → Maps (range_of (frame_tag id k) old.ranges) old (frame_tag id k) (pages_of len) addr new → FitsSessions ss new.ranges
fits_mapped ss old new id k len addr s fits few there has maps = record {
  live = λ j u at. record {
    framed = (fits.live j u at).framed;
    pages = λ l n own. elim (cases_eq (frame_tag j l) (frame_tag id k)) [
      | inl same ↦
          let both = one_frame j id l k (omega (arith, few j u at, (fits.live j u at).framed.made l n own)) small same in
          let one : u ≡ s = session_alike u s (sym at ∙ ap (λ i. get_or ss i None) both.0 ∙ there) in
          let P : SessionState → Type 0 = λ x. HasFrame x l n in
          let Q : ℕ → Type 0 = λ m. HasFrame s m n in
          let length_same : len ≡ n = was.framed.one k len n has (subst Q both.1 (subst P one own)) in
          subst (λ (o : Option LiveRange). IfSome o (λ r. r.pages ≡ pages_of n)) (sym (ap (λ tag. range_of tag new.ranges) same ∙ mapped.there)) (mapped.whole ∙ ap pages_of length_same)
      | inr differs ↦ subst (λ (o : Option LiveRange). IfSome o (λ r. r.pages ≡ pages_of n)) (sym (mapped.others (frame_tag j l) differs)) ((fits.live j u at).pages l n own)
    ];
    unmade = λ l made tiny. mapped.others (frame_tag j l)
        (λ same. let both = one_frame j id l k tiny small same in
        let one : u ≡ s = session_alike u s (sym at ∙ ap (λ i. get_or ss i None) both.0 ∙ there) in
        let most : s.made ≤ l = subst (λ (x : SessionState). x.made ≤ l) one made in
        absurd (omega (arith, most, both.1, below)))
        ∙ (fits.live j u at).unmade l made tiny;
  };
  unopened = λ j l past tiny. mapped.others (frame_tag j l)
      (λ same. let both = one_frame j id l k tiny small same in
      absurd (omega (arith, past, both.0, within ss id s there)))
      ∙ fits.unopened j l past tiny;
}
  where
    within : (ss : List (Option SessionState)) (id : ℕ) (s : SessionState) → get_or ss id None ≡ Some s → id < length ss
    within [] id s at = cc
    within (x ∷ ss) zero s at = omega arith
    within (x ∷ ss) (suc id) s at = let rest = within ss id s at in omega (arith, rest)

    was : FitsSession id s old.ranges
    was = fits.live id s there

    below : k < s.made
    below = was.framed.made k len has

    small : k < 2 ^ 32
    small = omega (arith, below, few id s there)

    mapped : IsMapped id k len old.ranges new.ranges
    mapped = is_mapped old new id k len addr (range_of (frame_tag id k) old.ranges) refl (was.pages k len has) maps

-- a mapping is given back: each range keeps its pages while it lives
pub fits_unmapped : (ss : List (Option SessionState)) (old new : RegionState) (addr : ℕ) (r : LiveRange) → FitsSessions ss old.ranges → range_of r.tag old.ranges ≡ Some r
    → Unmaps old addr r new → FitsSessions ss new.ranges
fits_unmapped ss old new addr r fits own unmaps = record {
  live = λ j u at. record {
    framed = (fits.live j u at).framed;
    pages = λ k len has. pages (frame_tag j k) len ((fits.live j u at).pages k len has);
    unmade = λ k made small. none (frame_tag j k) ((fits.live j u at).unmade k made small);
  };
  unopened = λ j k past small. none (frame_tag j k) (fits.unopened j k past small);
}
  where
    none : (tag : ℕ) → range_of tag old.ranges ≡ None → range_of tag new.ranges ≡ None
    none tag is = elim (cases_eq tag r.tag) [
      | inl same ↦ (let gone : None ≡ Some r = sym is ∙ ap (λ t. range_of t old.ranges) same ∙ own in cc)
      | inr differs ↦ unmaps.tagged_otherwise tag differs ∙ is
    ]

    lives : (len count : ℕ) (b : Bool) → r.pages ≡ pages_of len → IfSome (if b then None else Some (record r { count = count })) (λ x. x.pages ≡ pages_of len)
    lives len count true whole = tt
    lives len count false whole = whole

    pages : (tag len : ℕ) → HasPages old.ranges tag len → HasPages new.ranges tag len
    pages tag len whole = elim (cases_eq tag r.tag) [
      | inl same ↦
          let P : Option LiveRange → Type 0 = λ o. IfSome o (λ x. x.pages ≡ pages_of len) in
          let before : P (Some r) = subst P (ap (λ t. range_of t old.ranges) same ∙ own) whole in
          subst P (sym (ap (λ t. range_of t new.ranges) same ∙ unmaps.tagged)) (lives len (r.count - 1) (r.count - 1 == 0) before)
      | inr differs ↦ subst (λ (o : Option LiveRange). IfSome o (λ x. x.pages ≡ pages_of len)) (sym (unmaps.tagged_otherwise tag differs)) whole
    ]

-- ---- what the region's calls leave

-- whether the region had memory or not, what is mapped fits
pub map_fits : (ss : List (Option SessionState)) (old new : RegionState) (id k len : ℕ) (s : SessionState) (result : Result ℕ Memory) → FitsSessions ss old.ranges → HaveMadeFew ss
    → get_or ss id None ≡ Some s → HasFrame s k len
    → IfOk result (λ addr. Maps (range_of (frame_tag id k) old.ranges) old (frame_tag id k) (pages_of len) addr new) → OnErr result (new ≡ old) → FitsSessions ss new.ranges
map_fits ss old new id k len s (Ok addr) fits few there has ok err = fits_mapped ss old new id k len addr s fits few there has ok
map_fits ss old new id k len s (Err e) fits few there has ok err = subst (λ (x : RegionState). FitsSessions ss x.ranges) (sym err) fits

-- whether a range started there or not, what is mapped fits
pub unmap_fits : (ss : List (Option SessionState)) (old new : RegionState) (addr : ℕ) (result : Result (Unit {0}) Errno) → FitsSessions ss old.ranges
    → IsErr result ↔ (range_at addr old.ranges ≡ None) → IfSome (range_at addr old.ranges) (λ r. range_of r.tag old.ranges ≡ Some r)
    → OnOk result (IfSome (range_at addr old.ranges) (λ r. Unmaps old addr r new)) → OnErr result (new ≡ old) → FitsSessions ss new.ranges
unmap_fits ss old new addr (Err e) fits refused own ok err = subst (λ (x : RegionState). FitsSessions ss x.ranges) (sym err) fits
unmap_fits ss old new addr (Ok done) fits refused own ok err = known (range_at addr old.ranges) refl own ok
  where
    known : (o : Option LiveRange) → range_at addr old.ranges ≡ o → IfSome o (λ r. range_of r.tag old.ranges ≡ Some r) → IfSome o (λ r. Unmaps old addr r new) → FitsSessions ss new.ranges
    known None is own ok = (let failed : false ≡ true = refused.1 is in cc)
    known (Some r) is own ok = fits_unmapped ss old new addr r fits own ok
