-- What the device is asked can be done: each command has an answer.
use Rattle.std.proofs.Common.{◌≡◌, ◌≢◌, ℕ, ◌-◌, Bool, true, false, not, List, [], ◌∷◌, ◌++◌, Option, Some, None, Result, Ok, Err, refl, sym, ap, ◌∙◌, inl, eqb, if◌then◌else◌}
use Rattle.std.specs.Prelude.{◌&&◌, IfSome}
use Rattle.std.specs.List.{filter}
use Rattle.std.specs.Option.{option_to_list}
use Rattle.std.proofs.lemmas.Bool.{false≢true, cond-true, cond-false, eq-eqb, ne_eqb}
use Rattle.std.proofs.lemmas.Option.{same_Some}
use Rattle.v4l_const.specs.declared.errno.Errno.{Errno}
use Rattle.v4l_const.specs.declared.errno.Errno.TheVariants.{Enomem}
use Rattle.vm_frame.specs.declared.mem.Held.{Held}
use Rattle.vm_region.specs.Region.{RegionState, Changes, Unmaps, recounted, range_at, range_of, AreApart}
use Rattle.vm_region.specs.declared.entry.RegionEntry.{RegionEntry}
use Rattle.vm_region.specs.declared.entry.RegionEntry.TheVariants.{Drop}
use Rattle.vm_region.specs.declared.live_range.LiveRange.{LiveRange}
use Rattle.vm_wire.specs.declared.command.Command.{Command}
use Rattle.vm_wire.specs.declared.command.Command.TheVariants.{OpenSession, CloseSession, Ioctl, Map as MapFrame, Unmap}
use Rattle.vm_wire.specs.declared.response.Response.TheVariants.{Unmapped}
use Rattle.vm_device.specs.Device.{DeviceState, session_of}
use Rattle.vm_device.specs.Mappings.{frame_in}
use Rattle.vm_device.specs.Perform.{Answer, Performs, MapsFound, UnmapsAt, opened, closed, in_session, refused, with_region}

-- ---- ranges by a key

-- the first range that has it
abbrev seek : (LiveRange → ℕ) → ℕ → List LiveRange → Option LiveRange
seek key k [] = None
seek key k (r ∷ rs) = if eqb (key r) k then Some r else seek key k rs

abbrev addr_of : LiveRange → ℕ
addr_of r = r.addr

abbrev tag_of : LiveRange → ℕ
tag_of r = r.tag

seek_at : (addr : ℕ) (rs : List LiveRange) → range_at addr rs ≡ seek addr_of addr rs
seek_at addr [] = refl
seek_at addr (r ∷ rs) = ap (λ o. if eqb r.addr addr then Some r else o) (seek_at addr rs)

seek_of : (tag : ℕ) (rs : List LiveRange) → range_of tag rs ≡ seek tag_of tag rs
seek_of tag [] = refl
seek_of tag (r ∷ rs) = ap (λ o. if eqb r.tag tag then Some r else o) (seek_of tag rs)

module _ (key : LiveRange → ℕ) (keep : LiveRange → Bool) where
  -- where none that has it is kept, none is found
  seek_gone : (k : ℕ) (rs : List LiveRange) → ((r : LiveRange) → eqb (key r) k ≡ true → keep r ≡ false) → seek key k (filter keep rs) ≡ None
  seek_gone k [] drops = refl
  seek_gone k (r ∷ rs) drops = by_tests (eqb (key r) k) refl (keep r) refl (seek_gone k rs drops)
    where
      by_tests : (a : Bool) → eqb (key r) k ≡ a → (b : Bool) → keep r ≡ b → seek key k (filter keep rs) ≡ None → seek key k (if b then r ∷ filter keep rs else filter keep rs) ≡ None
      by_tests a is false gone rest = rest
      by_tests true is true stays rest = absurd (false≢true (sym (drops r is) ∙ stays))
      by_tests false is true stays rest = cond-false (eqb (key r) k) (Some r) (seek key k (filter keep rs)) is ∙ rest

  -- where the one that is found is kept, it is found then
  seek_kept : (k : ℕ) (rs : List LiveRange) → ((r : LiveRange) → seek key k rs ≡ Some r → keep r ≡ true) → seek key k (filter keep rs) ≡ seek key k rs
  seek_kept k [] keeps = refl
  seek_kept k (r ∷ rs) keeps =
      by_tests (eqb (key r) k) refl (keep r) refl (λ other. seek_kept k rs (λ x is. keeps x (cond-false (eqb (key r) k) (Some r) (seek key k rs) other ∙ is)))
    where
      by_tests : (a : Bool) → eqb (key r) k ≡ a → (b : Bool) → keep r ≡ b → (eqb (key r) k ≡ false → seek key k (filter keep rs) ≡ seek key k rs) →
          seek key k (if b then r ∷ filter keep rs else filter keep rs) ≡ seek key k (r ∷ rs)
      by_tests true is true stays rest = cond-true (eqb (key r) k) (Some r) (seek key k (filter keep rs)) is ∙ sym (cond-true (eqb (key r) k) (Some r) (seek key k rs) is)
      by_tests true is false gone rest = absurd (false≢true (sym gone ∙ keeps r (cond-true (eqb (key r) k) (Some r) (seek key k rs) is)))
      by_tests false is true stays rest =
          cond-false (eqb (key r) k) (Some r) (seek key k (filter keep rs)) is ∙ (rest is ∙ sym (cond-false (eqb (key r) k) (Some r) (seek key k rs) is))
      by_tests false is false gone rest = rest is ∙ sym (cond-false (eqb (key r) k) (Some r) (seek key k rs) is)

-- ---- a range comes in the place of another

abbrev apart_from : ℕ → ℕ → LiveRange → Bool
apart_from addr tag r = not (eqb r.addr addr) && not (eqb r.tag tag)

apart_by : (a b : Bool) → a ≡ false → b ≡ false → (not a && not b) ≡ true
apart_by a b first second = λ j. not (first j) && not (second j)

-- in front it has the same address and tag
abbrev HasBoth : ℕ → ℕ → Option LiveRange → Type 0
HasBoth addr tag now = IfSome now (λ r. (r.addr ≡ addr) × (r.tag ≡ tag))

front_own : (key : LiveRange → ℕ) (k : ℕ) (now : Option LiveRange) (rs : List LiveRange) → IfSome now (λ r. key r ≡ k) → seek key k rs ≡ None → seek key k (option_to_list now ++ rs) ≡ now
front_own key k None rs same none = none
front_own key k (Some r) rs same none = cond-true (eqb (key r) k) (Some r) (seek key k rs) (eq-eqb (key r) k same)

front_other : (key : LiveRange → ℕ) (k other : ℕ) (now : Option LiveRange) (rs : List LiveRange) → IfSome now (λ r. key r ≡ k) → other ≢ k → seek key other (option_to_list now ++ rs) ≡ seek key other rs
front_other key k other None rs same apart = refl
front_other key k other (Some r) rs same apart = cond-false (eqb (key r) other) (Some r) (seek key other rs) (ne_eqb (key r) other (λ is. apart (sym is ∙ same)))

has_addr : (addr tag : ℕ) (now : Option LiveRange) → HasBoth addr tag now → IfSome now (λ r. r.addr ≡ addr)
has_addr addr tag None both = tt
has_addr addr tag (Some r) both = both.0

has_tag : (addr tag : ℕ) (now : Option LiveRange) → HasBoth addr tag now → IfSome now (λ r. r.tag ≡ tag)
has_tag addr tag None both = tt
has_tag addr tag (Some r) both = both.1

-- the ranges with this one in the place of the one at an address
changed : (d : RegionState) (entry : RegionEntry) (addr : ℕ) (r : LiveRange) (now : Option LiveRange) → AreApart d.ranges → range_at addr d.ranges ≡ Some r → HasBoth addr r.tag now →
    (region : RegionState) × Changes d region entry addr r.tag now
changed d entry addr r now apart found both = (
  region,
  record {
    journal = refl;
    here = seek_at addr region.ranges ∙ front_own addr_of addr now left (has_addr addr r.tag now both) (seek_gone addr_of keep addr d.ranges gone_addr);
    tagged = seek_of r.tag region.ranges ∙ front_own tag_of r.tag now left (has_tag addr r.tag now both) (seek_gone tag_of keep r.tag d.ranges gone_tag);
    elsewhere = λ other differs.
        seek_at other region.ranges ∙ (front_other addr_of addr other now left (has_addr addr r.tag now both) differs
        ∙ (seek_kept addr_of keep other d.ranges (kept_addr other differs) ∙ sym (seek_at other d.ranges)));
    tagged_otherwise = λ other differs.
        seek_of other region.ranges ∙ (front_other tag_of r.tag other now left (has_tag addr r.tag now both) differs
        ∙ (seek_kept tag_of keep other d.ranges (kept_tag other differs) ∙ sym (seek_of other d.ranges)));
  },
)
  where
    keep : LiveRange → Bool
    keep = apart_from addr r.tag

    left : List LiveRange
    left = filter keep d.ranges

    region : RegionState
    region = record { journal = d.journal ++ entry ∷ []; ranges = option_to_list now ++ filter keep d.ranges }

    own : (r.addr ≡ addr) × (range_of r.tag d.ranges ≡ Some r)
    own = apart.by_address addr r found

    gone_addr : (x : LiveRange) → eqb x.addr addr ≡ true → keep x ≡ false
    gone_addr x is = ap (λ b. not b && not (eqb x.tag r.tag)) is

    none_by : (a b : Bool) → b ≡ true → (not a && not b) ≡ false
    none_by true b is = refl
    none_by false b is = ap not is

    gone_tag : (x : LiveRange) → eqb x.tag r.tag ≡ true → keep x ≡ false
    gone_tag x is = none_by (eqb x.addr addr) (eqb x.tag r.tag) is

    kept_addr : (other : ℕ) → other ≢ addr → (x : LiveRange) → seek addr_of other d.ranges ≡ Some x → keep x ≡ true
    kept_addr other differs x is =
        let by : (x.addr ≡ other) × (range_of x.tag d.ranges ≡ Some x) = apart.by_address other x (seek_at other d.ranges ∙ is) in
        apart_by (eqb x.addr addr) (eqb x.tag r.tag) (ne_eqb x.addr addr (λ same. differs (sym by.0 ∙ same)))
        (ne_eqb x.tag r.tag (λ same.
        let one : x ≡ r = same_Some x r (sym by.1 ∙ (ap (λ t. range_of t d.ranges) same ∙ own.1)) in
        differs (sym by.0 ∙ (ap addr_of one ∙ own.0))))

    kept_tag : (other : ℕ) → other ≢ r.tag → (x : LiveRange) → seek tag_of other d.ranges ≡ Some x → keep x ≡ true
    kept_tag other differs x is =
        let by : (x.tag ≡ other) × (range_at x.addr d.ranges ≡ Some x) = apart.by_tag other x (seek_of other d.ranges ∙ is) in
        apart_by (eqb x.addr addr) (eqb x.tag r.tag)
        (ne_eqb x.addr addr (λ same.
        let one : x ≡ r = same_Some x r (sym by.1 ∙ (ap (λ a. range_at a d.ranges) same ∙ found)) in
        differs (sym by.0 ∙ ap tag_of one)))
        (ne_eqb x.tag r.tag (λ same. differs (sym by.0 ∙ same)))

recounted_both : (count : ℕ) (r : LiveRange) (addr : ℕ) → r.addr ≡ addr → HasBoth addr r.tag (recounted count r)
recounted_both count r addr same = by_test (eqb count 0)
  where
    by_test : (b : Bool) → HasBoth addr r.tag (if b then None else Some (record r { count = count }))
    by_test true = tt
    by_test false = (same, refl)

-- ---- an answer

maps_some : (d : DeviceState) (held : List Held) (frame : Result (ℕ × ℕ) Errno) → (a : Answer) × MapsFound d held frame a
maps_some d held (Ok frame) = (refused Enomem held d, inl refl)
maps_some d held (Err errno) = (refused errno held d, refl)

unmaps_some : (d : DeviceState) (held : List Held) (addr : ℕ) (o : Option LiveRange) → AreApart d.region.ranges → range_at addr d.region.ranges ≡ o → (a : Answer) × UnmapsAt d held addr o a
unmaps_some d held addr None apart found = (_, refl)
unmaps_some d held addr (Some r) apart found =
    let own : _ = apart.by_address addr r found in
    let now : (region : RegionState) × Unmaps d.region addr r region =
    changed d.region (Drop addr (r.count - 1)) addr r (recounted (r.count - 1) r) apart found (recounted_both (r.count - 1) r addr own.0) in
    (record { response = Unmapped; held = held; device = with_region d now.0 }, (now.0, now.1, refl))

pub performs_some : (d : DeviceState) (c : Command) (wire : List ℕ) (held : List Held) → AreApart d.region.ranges → (a : Answer) × Performs d c wire held a
performs_some d OpenSession wire held apart = (opened true held d, (true, refl))
performs_some d (CloseSession id) wire held apart = (closed d id held (session_of d id), refl)
performs_some d (Ioctl id code payload) wire held apart = (in_session true d id (session_of d id) code payload wire held, (true, refl))
performs_some d (MapFrame id writable offset) wire held apart = maps_some d held (frame_in (session_of d id) offset)
performs_some d (Unmap addr) wire held apart = unmaps_some d held addr (range_at addr d.region.ranges) apart refl
