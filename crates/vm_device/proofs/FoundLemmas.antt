-- The frame that is to be mapped.
use Rattle.std.proofs.Common.{◌≡◌, ℕ, ◌≤◌, Option, Some, None, Ok, List, get_or, refl, sym, ap, ◌∙◌, subst}
use Rattle.vm_region.specs.declared.live_range.LiveRange.{LiveRange}
use Rattle.vm_session.specs.State.{SessionState}
use Rattle.vm_session.specs.Buffers.{frame_tag}
use Rattle.vm_device.specs.Mappings.{HasFrame, HasPages, FitsSessions, frame_in}
use Rattle.vm_device.proofs.FrameLemmas.{frame_found}

-- The frame that is found is one of a live session, has a picture's length, and fits its range, if it has one.
pub record IsFound (ss : List (Option SessionState)) (ranges : List LiveRange) (id : ℕ) (frame : ℕ × ℕ) : Type 0 where
  pub session : SessionState
  pub k : ℕ
  pub live : get_or ss id None ≡ Some session
  pub has : HasFrame session k frame.1
  pub tag : frame.0 ≡ frame_tag id k
  pub some : 1 ≤ frame.1
  pub small : frame.1 ≤ 921600
  pub pages : HasPages ranges frame.0 frame.1

pub is_found : (ss : List (Option SessionState)) (ranges : List LiveRange) (id offset : ℕ) (frame : ℕ × ℕ)
    → ((i : ℕ) (s : SessionState) → get_or ss i None ≡ Some s → s.id ≡ i) → FitsSessions ss ranges → frame_in (get_or ss id None) offset ≡ Ok frame → IsFound ss ranges id frame
is_found ss ranges id offset frame ids fits is = known (get_or ss id None) refl is
  where
    known : (o : Option SessionState) → get_or ss id None ≡ o → frame_in o offset ≡ Ok frame → IsFound ss ranges id frame
    known None at is = cc
    known (Some s) at is =
        let own = frame_found s offset frame is in
        let fit = fits.live id s at in
        let tag : frame.0 ≡ frame_tag id own.0 = own.2 ∙ ap (λ n. frame_tag n own.0) (ids id s at) in
        let sized = fit.framed.sized own.0 frame.1 own.1 in
        record {
          session = s;
          k = own.0;
          live = at;
          has = own.1;
          tag = tag;
          some = sized.0;
          small = sized.1;
          pages = subst (λ (t : ℕ). HasPages ranges t frame.1) (sym tag) (fit.pages own.0 frame.1 own.1);
        }
