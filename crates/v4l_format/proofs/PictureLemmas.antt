-- Whole pictures: how long they are, their bytes, and copies.
use Rattle.std.proofs.Common.{◌≡◌, ◌<◌, ◌≤◌, ℕ, List, length, take, slice_index, arith, ap, sym, refl, ◌∙◌}
use Rattle.std.proofs.lemmas.List.{length-take-le, get_or-take}
use Rattle.std.proofs.lemmas.List.FromFn.{length-map-range_with_len, get_or-map-range_with_len, fill_by_all}
use Rattle.v4l_format.proofs.CopyLemmas.{carried_back}
use Rattle.v4l_format.specs.declared.fmt.Fmt.{Fmt}
use Rattle.v4l_format.specs.declared.carried.Carried.{Carried}
use Rattle.v4l_format.specs.declared.sample_order.SampleOrder.{SampleOrder}
use Rattle.v4l_format.specs.declared.sample_order.SampleOrder.TheVariants.{Grey, Yuyv, Uyvy, Nv12, Yu12, Rgb3}
use Rattle.v4l_format.specs.declared.triple.Triple.{Triple}
use Rattle.v4l_format.specs.Fmt.{IsAdjusted, order_of, picture_size}
use Rattle.v4l_format.specs.Picture.{carried_at, pixel_at, pattern_byte_at, converted_byte_at, pattern_picture, converted_picture}
use Rattle.v4l_format.specs.SampleOrder.{colours_of}
use Rattle.v4l_format.specs.Triple.{component_of, turned}

pub length-pattern_picture : (input seq : ℕ) (f : Fmt) → length (pattern_picture input seq f) ≡ picture_size f
unfolding pattern_picture
length-pattern_picture input seq f = length-map-range_with_len (pattern_byte_at input seq f) 0 (picture_size f)

pub length-converted_picture : (from : Fmt) (bytes : List ℕ) (to : Fmt) → length (converted_picture from bytes to) ≡ picture_size to
unfolding converted_picture
length-converted_picture from bytes to = length-map-range_with_len (converted_byte_at from bytes to) 0 (picture_size to)

pub slice_index-pattern_picture : (input seq : ℕ) (f : Fmt) (i : ℕ) → i < picture_size f → slice_index (pattern_picture input seq f) i ≡ pattern_byte_at input seq f i
unfolding pattern_picture
slice_index-pattern_picture input seq f i low = get_or-map-range_with_len (pattern_byte_at input seq f) 0 (picture_size f) i i 0 low (omega arith)

pub slice_index-converted_picture : (from : Fmt) (bytes : List ℕ) (to : Fmt) (i : ℕ) → i < picture_size to → slice_index (converted_picture from bytes to) i ≡ converted_byte_at from bytes to i
unfolding converted_picture
slice_index-converted_picture from bytes to i low = get_or-map-range_with_len (converted_byte_at from bytes to) 0 (picture_size to) i i 0 low (omega arith)

-- these, for upper crates' proofs
pub ruleset pictures = (length-pattern_picture, length-converted_picture, slice_index-pattern_picture, slice_index-converted_picture)

-- the colours of one format need no turning
same_colours : (o : SampleOrder) (t : Triple) → turned (colours_of o) (colours_of o) t ≡ t
same_colours Grey t = refl
same_colours Yuyv t = refl
same_colours Uyvy t = refl
same_colours Nv12 t = refl
same_colours Yu12 t = refl
same_colours Rgb3 t = refl

converted_byte_same : (f : Fmt) (bytes : List ℕ) (i : ℕ) → IsAdjusted f → i < picture_size f → converted_byte_at f bytes f i ≡ slice_index bytes i
converted_byte_same f bytes i adjusted low =
    let carried : Carried = carried_at f i in
    ap (λ t. component_of t carried.component) (same_colours (order_of f) (pixel_at f bytes carried.x carried.y))
    ∙ carried_back (order_of f) f.width f.height bytes i adjusted.width.even adjusted.height.even low

pub converted_to_same : (f : Fmt) (bytes : List ℕ) → IsAdjusted f → picture_size f ≤ length bytes → converted_picture f bytes f ≡ take (picture_size f) bytes
unfolding converted_picture
converted_to_same f bytes adjusted whole =
    sym (fill_by_all (converted_byte_at f bytes f) (take (picture_size f) bytes) (picture_size f) 0
    (length-take-le (picture_size f) bytes whole)
    (λ k low. get_or-take (picture_size f) bytes k 0 low ∙ sym (converted_byte_same f bytes k adjusted low)))
