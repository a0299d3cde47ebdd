-- Queues that are seen as queues of another kind: the rules say the same of both.
use Rattle.std.proofs.Common.{◌≡◌, ℕ, Bool, true, false, List, map, get_or, set, Option, Some, None, refl, sym, ap, ◌∙◌, if◌then◌else◌}
use Rattle.std.specs.Option.{option_map}
use Rattle.std.proofs.lemmas.List.{map-set}
use Rattle.std.proofs.Math.ListN.{get_or-map}
use Rattle.v4l_const.specs.declared.four_cc.FourCc.{FourCc}
use Rattle.v4l_const.specs.declared.model.Model.{Model}
use Rattle.v4l_const.specs.Model.{queues as types_of, source_queue, picture_queue}
use Rattle.v4l_format.specs.declared.fmt.Fmt.{Fmt}
use Rattle.v4l_rules.specs.Formats.{adjusted_from, is_source, sized_as, taken_format, with_format_at, with_set_format_at, with_source_format}
use Rattle.v4l_rules.specs.Queues.{QueueKind, place_in, queue_at}

-- a queue of one kind is seen as one of another, with the same format, and begins as that begins
pub record Sees {Q R : Type 0} (kind : QueueKind Q) (other : QueueKind R) (see : Q → R) : Type 0 where
  pub opening : see kind.opening ≡ other.opening
  pub format : (q : Q) → other.format (see q) ≡ kind.format q
  pub reformatted : (q : Q) (f : Fmt) → other.reformatted (see q) f ≡ see (kind.reformatted q f)

module _ {Q R : Type 0} (kind : QueueKind Q) (other : QueueKind R) (see : Q → R) (sees : Sees kind other see) (m : Model) where
  pub queue_seen : (qs : List Q) (t : ℕ) → queue_at other m (map see qs) t ≡ see (queue_at kind m qs t)
  queue_seen qs t =
      ap (λ d. get_or (map see qs) (place_in (types_of m) t) d) (sym sees.opening)
      ∙ get_or-map see qs (place_in (types_of m) t) kind.opening

  format_seen : (qs : List Q) (t : ℕ) → other.format (queue_at other m (map see qs) t) ≡ kind.format (queue_at kind m qs t)
  format_seen qs t = ap other.format (queue_seen qs t) ∙ sees.format (queue_at kind m qs t)

  pub taken_seen : (qs : List Q) (t : ℕ) (f : FourCc) (w h : ℕ) → taken_format other m (map see qs) t f w h ≡ taken_format kind m qs t f w h
  taken_seen qs t f w h = ap (λ o. adjusted_from o m t f w h) (source_seen (source_queue m))
    where
      source_seen : (o : Option ℕ) → option_map (λ source. other.format (queue_at other m (map see qs) source)) o
          ≡ option_map (λ source. kind.format (queue_at kind m qs source)) o
      source_seen None = refl
      source_seen (Some source) = ap (λ f. Some f) (format_seen qs source)

  reformatted_seen : (qs : List Q) (t : ℕ) (f : Fmt) → with_format_at other m (map see qs) t f ≡ map see (with_format_at kind m qs t f)
  reformatted_seen qs t f =
      let p : ℕ = place_in (types_of m) t in
      ap (λ q. set (map see qs) p (other.reformatted q f)) (queue_seen qs t)
      ∙ ap (λ q. set (map see qs) p q) (sees.reformatted (queue_at kind m qs t) f)
      ∙ sym (map-set see qs p (kind.reformatted (queue_at kind m qs t) f))

  pub set_seen : (qs : List Q) (t : ℕ) (f : Fmt) → with_set_format_at other m (map see qs) t f ≡ map see (with_set_format_at kind m qs t f)
  unfolding with_set_format_at
  set_seen qs t f = both (is_source m t)
    where
      both : (b : Bool) → (if b then with_source_format other m (map see qs) t f else with_format_at other m (map see qs) t f)
          ≡ map see (if b then with_source_format kind m qs t f else with_format_at kind m qs t f)
      both false = reformatted_seen qs t f
      both true =
          ap (λ g. with_format_at other m (with_format_at other m (map see qs) t f) (picture_queue m) (sized_as f g)) (format_seen qs (picture_queue m))
          ∙ ap (λ rs. with_format_at other m rs (picture_queue m) (sized_as f (kind.format (queue_at kind m qs (picture_queue m))))) (reformatted_seen qs t f)
          ∙ reformatted_seen (with_format_at kind m qs t f) (picture_queue m) (sized_as f (kind.format (queue_at kind m qs (picture_queue m))))
