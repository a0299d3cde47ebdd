-- The formats that queues take, whatever else their records keep. Source: own.
use Rattle.std.specs.Prelude.{ℕ, Bool, false, List, ◌==◌, if◌then◌else◌, Option, Some, None}
use Rattle.std.specs.Option.{option_map, option_map_or}
use Rattle.v4l_const.specs.declared.four_cc.FourCc.{FourCc}
use Rattle.v4l_const.specs.declared.model.Model.{Model}
use Rattle.v4l_const.specs.Model.{source_queue, picture_queue}
use Rattle.v4l_format.specs.declared.fmt.Fmt.{Fmt}
use Rattle.v4l_format.specs.Fmt.{adjusted}
use Rattle.v4l_format.specs.FormatRow.{grey}
use Rattle.v4l_rules.specs.Queues.{QueueKind, queue_at, with_queue_at}

-- GREY 64 by 48, the format that a queue begins with
abbrev pub first_format : Fmt
first_format = record { code = grey.code; width = 64; height = 48 }

-- a format with the size of another
abbrev pub sized_as : Fmt → Fmt → Fmt
sized_as size f = record { code = f.code; width = size.width; height = size.height }

-- ---- what a queue takes

-- the format of the source queue, where the model has one
abbrev pub source_format : {Q : Type 0} → QueueKind Q → Model → List Q → Option Fmt
source_format kind m qs =
    option_map (λ source. kind.format (queue_at kind m qs source)) (source_queue m)

-- The format that the queue of type t takes where it is asked for this one, by the format of the
-- source queue. A picture that is made from a source picture has its size, whatever is asked for.
abbrev pub adjusted_from : Option Fmt → Model → ℕ → FourCc → ℕ → ℕ → Fmt
adjusted_from None m t f w h = adjusted f w h
adjusted_from (Some source) m t f w h =
    if t == picture_queue m then sized_as source (adjusted f w h) else adjusted f w h

abbrev pub taken_format : {Q : Type 0} → QueueKind Q → Model → List Q → ℕ → FourCc → ℕ → ℕ → Fmt
taken_format kind m qs t f w h = adjusted_from (source_format kind m qs) m t f w h

-- ---- setting a format

-- the device reads the buffers of the queue of this type
abbrev pub is_source : Model → ℕ → Bool
is_source m t = option_map_or (λ source. source == t) (source_queue m) false

-- the queues with another format on the queue of this type alone
abbrev pub with_format_at : {Q : Type 0} → QueueKind Q → Model → List Q → ℕ → Fmt → List Q
with_format_at kind m qs t f = with_queue_at m qs t (kind.reformatted (queue_at kind m qs t) f)

-- the same where that queue is a source: the pictures that are made from its own get their size
abbrev pub with_source_format : {Q : Type 0} → QueueKind Q → Model → List Q → ℕ → Fmt → List Q
with_source_format kind m qs t f =
    with_format_at kind m (with_format_at kind m qs t f) (picture_queue m)
    (sized_as f (kind.format (queue_at kind m qs (picture_queue m))))

-- the queues where the format of the queue of this type was set
unfoldable pub with_set_format_at : {Q : Type 0} → QueueKind Q → Model → List Q → ℕ → Fmt → List Q
with_set_format_at kind m qs t f =
    if is_source m t then with_source_format kind m qs t f else with_format_at kind m qs t f
