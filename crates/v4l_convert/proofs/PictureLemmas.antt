-- A converted picture is its planes, one behind the other.
use Rattle.std.proofs.Common.{◌≡◌, ◌≢◌, ◌<◌, ◌≤◌, ℕ, ◌+◌, ◌*◌, ◌/◌, ◌%◌, List, ◌++◌, length, take, drop, map, slice_index, arith, ap, subst, sym, refl, ◌∙◌}
use Rattle.std.proofs.lemmas.List.{length-append, length-take-le, get_or-take}
use Rattle.std.proofs.lemmas.List.FromFn.{fill_by_all}
use Rattle.v4l_format.specs.declared.colours.Colours.TheVariants.{Ycbcr}
use Rattle.std.specs.List.{range_with_len}
use Rattle.v4l_convert.specs.declared.line_kind.LineKind.{LineKind}
use Rattle.v4l_convert.specs.declared.line_kind.LineKind.TheVariants.{Luma, Chroma, BlueChroma, RedChroma}
use Rattle.v4l_format.specs.declared.fmt.Fmt.{Fmt}
use Rattle.v4l_format.specs.declared.sample_order.SampleOrder.{SampleOrder}
use Rattle.v4l_format.proofs.PictureLemmas.{converted_to_same}
use Rattle.v4l_format.specs.Fmt.{IsAdjusted, order_of, picture_size}
use Rattle.v4l_format.specs.Picture.{converted_picture}
use Rattle.v4l_format.specs.SampleOrder.{carried_by, colours_of, picture_bytes, pixel_in}
use Rattle.v4l_format.specs.Triple.{component_of, turned}
use Rattle.v4l_format.specs.declared.sample_order.SampleOrder.TheVariants.{Grey, Yuyv, Uyvy, Nv12, Yu12, Rgb3}
use Rattle.v4l_format.proofs.CarriedLemmas.{square_area}
use Rattle.std.proofs.Math.Nat.{mul_comm}
use Rattle.v4l_convert.proofs.LineLemmas.{length_lines, joined_more}
use Rattle.v4l_convert.specs.Lines.{converted_plane, kind_at, plane_size, planes_of}
use Rattle.v4l_convert.proofs.PlaneLemmas.{byte_at, luma_plane, nv12_picture, yu12_picture, luma_area, packed_area, primaries_area, grey_picture, yuyv_picture, uyvy_picture, rgb3_picture}

-- the picture by its order and size
abbrev pub picture_of : SampleOrder → SampleOrder → ℕ → ℕ → List ℕ → List ℕ
picture_of s t w h bytes = map (byte_at s t w h bytes) (range_with_len 0 (picture_bytes t w h))

-- the same where the formats give the sizes
unfoldable picture_by : SampleOrder → SampleOrder → ℕ → ℕ → ℕ → ℕ → List ℕ → List ℕ
picture_by s t w h v k bytes =
    map (λ i. component_of (turned (colours_of s) (colours_of t) (pixel_in s w h bytes (carried_by t v k i).x (carried_by t v k i).y)) (carried_by t v k i).component) (range_with_len 0 (picture_bytes t v k))

by_formats : (from to : Fmt) (bytes : List ℕ) → converted_picture from bytes to ≡ picture_by (order_of from) (order_of to) from.width from.height to.width to.height bytes
unfolding converted_picture picture_by
by_formats from to bytes = refl

by_size : (s t : SampleOrder) (w h : ℕ) (bytes : List ℕ) → picture_by s t w h w h bytes ≡ picture_of s t w h bytes
unfolding picture_by
by_size s t w h bytes = refl

by_same : (s s' t t' : SampleOrder) (w w' h h' v v' k k' : ℕ) (bytes : List ℕ) → s ≡ s' → t ≡ t' → w ≡ w' → h ≡ h' → v ≡ v' → k ≡ k' → picture_by s t w h v k bytes ≡ picture_by s' t' w' h' v' k' bytes
by_same s s' t t' w w' h h' v v' k k' bytes p q a b c d = cc

pub picture_is : (from to : Fmt) (bytes : List ℕ) (s t : SampleOrder) (w h : ℕ) → order_of from ≡ s → order_of to ≡ t → from.width ≡ w → to.width ≡ w → from.height ≡ h → to.height ≡ h → converted_picture from bytes to ≡ picture_of s t w h bytes
picture_is from to bytes s t w h p q a b c d =
    by_formats from to bytes ∙ by_same _ _ _ _ _ _ _ _ _ _ _ _ bytes p q a c b d ∙ by_size s t w h bytes

pub has_plane : (t : SampleOrder) → 0 < length (planes_of t)
has_plane Grey = omega arith
has_plane Yuyv = omega arith
has_plane Uyvy = omega arith
has_plane Nv12 = omega arith
has_plane Yu12 = omega arith
has_plane Rgb3 = omega arith

-- the sizes of planes
pub first_size : (t : SampleOrder) (w h : ℕ) → w % 2 ≡ 0 → t ≢ Nv12 → t ≢ Yu12 → plane_size w h (kind_at t 0) ≡ picture_bytes t w h
first_size Grey w h even p q = luma_area w h even
first_size Yuyv w h even p q = packed_area w h even
first_size Uyvy w h even p q = packed_area w h even
first_size Nv12 w h even p q = absurd (p refl)
first_size Yu12 w h even p q = absurd (q refl)
first_size Rgb3 w h even p q = primaries_area w h even

pub chroma_size : (w h : ℕ) → w % 2 ≡ 0 → h % 2 ≡ 0 → plane_size w h Luma + plane_size w h Chroma ≡ w * h * 3 / 2
chroma_size w h even_w even_h =
    let luma : 2 * (w / 2) * (h / 1) ≡ w * h = luma_area w h even_w in
    let size : 2 * (w / 2) * (h / 1) + 2 * (w / 2) * (h / 2) ≡ w * h * 3 / 2 = omega (arith, luma, square_area w h even_w even_h, mul_comm (h / 2) (w / 2)) in
    size

pub blue_red_size : (w h : ℕ) → w % 2 ≡ 0 → h % 2 ≡ 0 → plane_size w h Luma + plane_size w h BlueChroma + plane_size w h RedChroma ≡ w * h * 3 / 2
blue_red_size w h even_w even_h =
    let luma : 2 * (w / 2) * (h / 1) ≡ w * h = luma_area w h even_w in
    let size : 2 * (w / 2) * (h / 1) + 1 * (w / 2) * (h / 2) + 1 * (w / 2) * (h / 2) ≡ w * h * 3 / 2 = omega (arith, luma, square_area w h even_w even_h, mul_comm (h / 2) (w / 2)) in
    size

pub first_within : (t : SampleOrder) (w h : ℕ) → w % 2 ≡ 0 → h % 2 ≡ 0 → plane_size w h (kind_at t 0) ≤ picture_bytes t w h
first_within Grey w h even_w even_h = omega (arith, luma_area w h even_w)
first_within Yuyv w h even_w even_h = omega (arith, packed_area w h even_w)
first_within Uyvy w h even_w even_h = omega (arith, packed_area w h even_w)
first_within Nv12 w h even_w even_h = omega (arith, luma_area w h even_w)
first_within Yu12 w h even_w even_h = omega (arith, luma_area w h even_w)
first_within Rgb3 w h even_w even_h = omega (arith, primaries_area w h even_w)

pub one_picture : (s t : SampleOrder) (w h : ℕ) (bytes : List ℕ) → w % 2 ≡ 0 → t ≢ Nv12 → t ≢ Yu12 → converted_plane s w h bytes (kind_at t 0) ≡ picture_of s t w h bytes
one_picture s Grey w h bytes even p q = grey_picture s w h bytes even
one_picture s Yuyv w h bytes even p q = yuyv_picture s w h bytes even
one_picture s Uyvy w h bytes even p q = uyvy_picture s w h bytes even
one_picture s Nv12 w h bytes even p q = absurd (p refl)
one_picture s Yu12 w h bytes even p q = absurd (q refl)
one_picture s Rgb3 w h bytes even p q = rgb3_picture s w h bytes even

-- the picture is written, and the rest is as it was
pub finished : (from to : Fmt) (bytes old now picture : List ℕ) (s t : SampleOrder) (n : ℕ) → order_of from ≡ s → order_of to ≡ t → from.width ≡ to.width → from.height ≡ to.height → picture ≡ picture_of s t to.width to.height bytes → n ≡ picture_bytes t to.width to.height → now ≡ picture ++ drop n old → now ≡ converted_picture from bytes to ++ drop (picture_size to) old
finished from to bytes old now picture s t n p q a b whole size is =
    let same : picture ≡ converted_picture from bytes to = whole ∙ sym (picture_is from to bytes s t to.width to.height p q a refl b refl) in
    let end : n ≡ picture_size to = size ∙ ap (λ o. picture_bytes o to.width to.height) (sym q) in
    is ∙ ap (λ xs. xs ++ drop n old) same ∙ ap (λ m. converted_picture from bytes to ++ drop m old) end

-- a picture of the same format and size is copied
pub same_size : (from to : Fmt) → order_of from ≡ order_of to → from.width ≡ to.width → from.height ≡ to.height → picture_size from ≡ picture_size to
same_size from to p a b = cc

pub own_picture : (from to : Fmt) (bytes old now : List ℕ) → order_of from ≡ order_of to → from.width ≡ to.width → from.height ≡ to.height → IsAdjusted to → picture_size from ≤ length bytes → now ≡ take (picture_size to) bytes ++ drop (picture_size to) old → now ≡ converted_picture from bytes to ++ drop (picture_size to) old
own_picture from to bytes old now p a b adjusted whole is =
    let there : picture_size to ≤ length bytes = subst (λ n. n ≤ length bytes) (same_size from to p a b) whole in
    let same : converted_picture from bytes to ≡ take (picture_size to) bytes =
    picture_is from to bytes (order_of to) (order_of to) to.width to.height p refl a refl b refl
    ∙ sym (picture_is to to bytes (order_of to) (order_of to) to.width to.height refl refl refl refl refl refl)
    ∙ converted_to_same to bytes adjusted there in
    is ∙ ap (λ xs. xs ++ drop (picture_size to) old) (sym same)

-- a plane lies in what holds the picture
pub first_room : (f : Fmt) (t : SampleOrder) (len : ℕ) → order_of f ≡ t → f.width % 2 ≡ 0 → f.height % 2 ≡ 0 → picture_size f ≤ len → 0 + plane_size f.width f.height (kind_at t 0) ≤ len
first_room f t len p even_w even_h room =
    let all : picture_bytes t f.width f.height ≤ len = subst (λ o. picture_bytes o f.width f.height ≤ len) p room in
    omega (arith, all, first_within t f.width f.height even_w even_h)

chroma_room_at : (w h len r : ℕ) → w % 2 ≡ 0 → h % 2 ≡ 0 → w * h * 3 / 2 ≤ len → r ≡ 0 + plane_size w h Luma → r + plane_size w h Chroma ≤ len
chroma_room_at w h len r even_w even_h room is = omega (arith, chroma_size w h even_w even_h)

pub chroma_room : (f : Fmt) (t : SampleOrder) (len now r : ℕ) → order_of f ≡ t → t ≡ Nv12 → f.width % 2 ≡ 0 → f.height % 2 ≡ 0 → picture_size f ≤ len → now ≡ len → r ≡ 0 + plane_size f.width f.height (kind_at t 0) → r + plane_size f.width f.height (kind_at t 1) ≤ now
chroma_room f t len now r p q even_w even_h room same =
    let all : picture_bytes t f.width f.height ≤ now = subst (λ n. picture_bytes t f.width f.height ≤ n) (sym same) (subst (λ o. picture_bytes o f.width f.height ≤ len) p room) in
    subst (λ o. picture_bytes o f.width f.height ≤ now → r ≡ 0 + plane_size f.width f.height (kind_at o 0) → r + plane_size f.width f.height (kind_at o 1) ≤ now) (sym q)
    (λ within is. chroma_room_at f.width f.height now r even_w even_h within is) all

blue_room_at : (w h len r : ℕ) → w % 2 ≡ 0 → h % 2 ≡ 0 → w * h * 3 / 2 ≤ len → r ≡ 0 + plane_size w h Luma → r + plane_size w h BlueChroma ≤ len
blue_room_at w h len r even_w even_h room is = omega (arith, blue_red_size w h even_w even_h)

pub blue_room : (f : Fmt) (t : SampleOrder) (len now r : ℕ) → order_of f ≡ t → t ≡ Yu12 → f.width % 2 ≡ 0 → f.height % 2 ≡ 0 → picture_size f ≤ len → now ≡ len → r ≡ 0 + plane_size f.width f.height (kind_at t 0) → r + plane_size f.width f.height (kind_at t 1) ≤ now
blue_room f t len now r p q even_w even_h room same =
    let all : picture_bytes t f.width f.height ≤ now = subst (λ n. picture_bytes t f.width f.height ≤ n) (sym same) (subst (λ o. picture_bytes o f.width f.height ≤ len) p room) in
    subst (λ o. picture_bytes o f.width f.height ≤ now → r ≡ 0 + plane_size f.width f.height (kind_at o 0) → r + plane_size f.width f.height (kind_at o 1) ≤ now) (sym q)
    (λ within is. blue_room_at f.width f.height now r even_w even_h within is) all

red_room_at : (w h len r e : ℕ) → w % 2 ≡ 0 → h % 2 ≡ 0 → w * h * 3 / 2 ≤ len → r ≡ 0 + plane_size w h Luma → e ≡ r + plane_size w h BlueChroma → e + plane_size w h RedChroma ≤ len
red_room_at w h len r e even_w even_h room is end = omega (arith, blue_red_size w h even_w even_h)

pub red_room : (f : Fmt) (t : SampleOrder) (len now r e : ℕ) → order_of f ≡ t → t ≡ Yu12 → f.width % 2 ≡ 0 → f.height % 2 ≡ 0 → picture_size f ≤ len → now ≡ len → r ≡ 0 + plane_size f.width f.height (kind_at t 0) → e ≡ r + plane_size f.width f.height (kind_at t 1) → e + plane_size f.width f.height (kind_at t 2) ≤ now
red_room f t len now r e p q even_w even_h room same =
    let all : picture_bytes t f.width f.height ≤ now = subst (λ n. picture_bytes t f.width f.height ≤ n) (sym same) (subst (λ o. picture_bytes o f.width f.height ≤ len) p room) in
    subst (λ o. picture_bytes o f.width f.height ≤ now → r ≡ 0 + plane_size f.width f.height (kind_at o 0) → e ≡ r + plane_size f.width f.height (kind_at o 1) → e + plane_size f.width f.height (kind_at o 2) ≤ now) (sym q)
    (λ within is end. red_room_at f.width f.height now r e even_w even_h within is end) all

-- a plane of this kind was written at `start`
abbrev pub IsWritten : SampleOrder → ℕ → ℕ → List ℕ → ℕ → List ℕ → List ℕ → LineKind → Type 0
IsWritten s w h bytes start old now kind =
    now ≡ take start old ++ (converted_plane s w h bytes kind ++ drop (start + plane_size w h kind) old)

pub one_plane : (from to : Fmt) (bytes old now : List ℕ) (s t : SampleOrder) → order_of from ≡ s → order_of to ≡ t → from.width ≡ to.width → from.height ≡ to.height → to.width % 2 ≡ 0 → t ≢ Nv12 → t ≢ Yu12 → IsWritten s to.width to.height bytes 0 old now (kind_at t 0) → now ≡ converted_picture from bytes to ++ drop (picture_size to) old
one_plane from to bytes old now s t p q a b even apart aside is =
    let size = plane_size to.width to.height (kind_at t 0) in
    let same : 0 + size ≡ size = omega arith in
    finished from to bytes old now (converted_plane s to.width to.height bytes (kind_at t 0)) s t size p q a b
    (one_picture s t to.width to.height bytes even apart aside) (first_size t to.width to.height even apart aside)
    (is ∙ ap (λ m. converted_plane s to.width to.height bytes (kind_at t 0) ++ drop m old) same)

first_of : (s : SampleOrder) (w h : ℕ) (bytes old now : List ℕ) (kind : LineKind) (r : ℕ) → r ≡ 0 + plane_size w h kind → IsWritten s w h bytes 0 old now kind → now ≡ converted_plane s w h bytes kind ++ drop r old
first_of s w h bytes old now kind r e is = is ∙ ap (λ m. converted_plane s w h bytes kind ++ drop m old) (sym e)

two_planes_at : (from to : Fmt) (bytes old one now : List ℕ) (s : SampleOrder) (r : ℕ) → order_of from ≡ s → order_of to ≡ Nv12 → from.width ≡ to.width → from.height ≡ to.height → to.width % 2 ≡ 0 → to.height % 2 ≡ 0 → r ≡ 0 + plane_size to.width to.height Luma → IsWritten s to.width to.height bytes 0 old one Luma → IsWritten s to.width to.height bytes r one now Chroma → now ≡ converted_picture from bytes to ++ drop (picture_size to) old
two_planes_at from to bytes old one now s r p q a b even_w even_h e first second =
    let w = to.width in
    let h = to.height in
    let long : length (converted_plane s w h bytes Luma) ≡ r = length_lines s Luma w h bytes (h / 1) ∙ omega (arith, e) in
    finished from to bytes old now (converted_plane s w h bytes Luma ++ converted_plane s w h bytes Chroma) s Nv12 (r + plane_size w h Chroma) p q a b
    (nv12_picture s w h bytes even_w even_h) (omega (arith, e, chroma_size w h even_w even_h))
    (joined_more old one now _ _ r (plane_size w h Chroma) (first_of s w h bytes old one Luma r e first) long second)

pub two_planes : (from to : Fmt) (bytes old one now : List ℕ) (s t : SampleOrder) (r : ℕ) → order_of from ≡ s → order_of to ≡ t → t ≡ Nv12 → from.width ≡ to.width → from.height ≡ to.height → to.width % 2 ≡ 0 → to.height % 2 ≡ 0 → r ≡ 0 + plane_size to.width to.height (kind_at t 0) → IsWritten s to.width to.height bytes 0 old one (kind_at t 0) → IsWritten s to.width to.height bytes r one now (kind_at t 1) → now ≡ converted_picture from bytes to ++ drop (picture_size to) old
two_planes from to bytes old one now s t r p q o a b even_w even_h e first second =
    two_planes_at from to bytes old one now s r p (q ∙ o) a b even_w even_h
    (e ∙ ap (λ k. 0 + plane_size to.width to.height (kind_at k 0)) o)
    (subst (λ k. IsWritten s to.width to.height bytes 0 old one (kind_at k 0)) o first)
    (subst (λ k. IsWritten s to.width to.height bytes r one now (kind_at k 1)) o second)

three_planes_at : (from to : Fmt) (bytes old one two now : List ℕ) (s : SampleOrder) (r v : ℕ) → order_of from ≡ s → order_of to ≡ Yu12 → from.width ≡ to.width → from.height ≡ to.height → to.width % 2 ≡ 0 → to.height % 2 ≡ 0 → r ≡ 0 + plane_size to.width to.height Luma → v ≡ r + plane_size to.width to.height BlueChroma → IsWritten s to.width to.height bytes 0 old one Luma → IsWritten s to.width to.height bytes r one two BlueChroma → IsWritten s to.width to.height bytes v two now RedChroma → now ≡ converted_picture from bytes to ++ drop (picture_size to) old
three_planes_at from to bytes old one two now s r v p q a b even_w even_h e e' first second third =
    let w = to.width in
    let h = to.height in
    let luma = converted_plane s w h bytes Luma in
    let blue = converted_plane s w h bytes BlueChroma in
    let long : length luma ≡ r = length_lines s Luma w h bytes (h / 1) ∙ omega (arith, e) in
    let longer : length (luma ++ blue) ≡ v = length-append luma blue ∙ omega (arith, long, e', length_lines s BlueChroma w h bytes (h / 2)) in
    let joined : two ≡ (luma ++ blue) ++ drop v old =
    joined_more old one two luma blue r (plane_size w h BlueChroma) (first_of s w h bytes old one Luma r e first) long second ∙ ap (λ m. (luma ++ blue) ++ drop m old) (sym e') in
    finished from to bytes old now ((luma ++ blue) ++ converted_plane s w h bytes RedChroma) s Yu12 (v + plane_size w h RedChroma) p q a b
    (yu12_picture s w h bytes even_w even_h) (omega (arith, e, e', blue_red_size w h even_w even_h))
    (joined_more old two now (luma ++ blue) _ v (plane_size w h RedChroma) joined longer third)

pub three_planes : (from to : Fmt) (bytes old one two now : List ℕ) (s t : SampleOrder) (r v : ℕ) → order_of from ≡ s → order_of to ≡ t → t ≡ Yu12 → from.width ≡ to.width → from.height ≡ to.height → to.width % 2 ≡ 0 → to.height % 2 ≡ 0 → r ≡ 0 + plane_size to.width to.height (kind_at t 0) → v ≡ r + plane_size to.width to.height (kind_at t 1) → IsWritten s to.width to.height bytes 0 old one (kind_at t 0) → IsWritten s to.width to.height bytes r one two (kind_at t 1) → IsWritten s to.width to.height bytes v two now (kind_at t 2) → now ≡ converted_picture from bytes to ++ drop (picture_size to) old
three_planes from to bytes old one two now s t r v p q o a b even_w even_h e e' first second third =
    three_planes_at from to bytes old one two now s r v p (q ∙ o) a b even_w even_h
    (e ∙ ap (λ k. 0 + plane_size to.width to.height (kind_at k 0)) o)
    (e' ∙ ap (λ k. r + plane_size to.width to.height (kind_at k 1)) o)
    (subst (λ k. IsWritten s to.width to.height bytes 0 old one (kind_at k 0)) o first)
    (subst (λ k. IsWritten s to.width to.height bytes r one two (kind_at k 1)) o second)
    (subst (λ k. IsWritten s to.width to.height bytes v two now (kind_at k 2)) o third)

-- the plane of Y is copied where both pictures begin with it
luma_is : (s : SampleOrder) (w h : ℕ) (bytes : List ℕ) → ((y x i : ℕ) → i ≡ y * w + x → slice_index bytes i ≡ (turned (colours_of s) Ycbcr (pixel_in s w h bytes x y)).0) → w % 2 ≡ 0 → w * h ≤ length bytes → converted_plane s w h bytes Luma ≡ take (w * h) bytes
luma_is s w h bytes there even room =
    luma_plane (slice_index bytes) s w h bytes even (λ y x i low down is. there y x i is)
    ∙ sym (fill_by_all (slice_index bytes) (take (w * h) bytes) (w * h) 0 (length-take-le (w * h) bytes room) (λ k low. get_or-take (w * h) bytes k 0 low))

luma_copied : (s : SampleOrder) (w h : ℕ) (bytes : List ℕ) → kind_at s 0 ≡ Luma → w % 2 ≡ 0 → w * h ≤ length bytes → converted_plane s w h bytes Luma ≡ take (w * h) bytes
luma_copied Grey w h bytes p even room = luma_is Grey w h bytes (λ y x i is. ap (slice_index bytes) is) even room
luma_copied Yuyv w h bytes p even room = cc
luma_copied Uyvy w h bytes p even room = cc
luma_copied Nv12 w h bytes p even room = luma_is Nv12 w h bytes (λ y x i is. ap (slice_index bytes) is) even room
luma_copied Yu12 w h bytes p even room = luma_is Yu12 w h bytes (λ y x i is. ap (slice_index bytes) is) even room
luma_copied Rgb3 w h bytes p even room = cc

pub area_within : (t : SampleOrder) (w h n : ℕ) → picture_bytes t w h ≤ n → w * h ≤ n
area_within Grey w h n p = p
area_within Yuyv w h n p = omega arith
area_within Uyvy w h n p = omega arith
area_within Nv12 w h n p = omega arith
area_within Yu12 w h n p = omega arith
area_within Rgb3 w h n p = omega arith

pub luma_end : (t : SampleOrder) (w h : ℕ) → kind_at t 0 ≡ Luma → w % 2 ≡ 0 → w * h ≡ 0 + plane_size w h (kind_at t 0)
luma_end t w h p even =
    let all : 0 + plane_size w h Luma ≡ w * h = omega (arith, luma_area w h even) in
    sym all ∙ ap (λ k. 0 + plane_size w h k) (sym p)

pub first_copied : (s t : SampleOrder) (w h : ℕ) (bytes old now : List ℕ) → kind_at s 0 ≡ Luma → kind_at t 0 ≡ Luma → w % 2 ≡ 0 → w * h ≤ length bytes → now ≡ take (w * h) bytes ++ drop (w * h) old → IsWritten s w h bytes 0 old now (kind_at t 0)
first_copied s t w h bytes old now p q even room is =
    is ∙ ap (λ xs. xs ++ drop (w * h) old) (sym (luma_copied s w h bytes p even room))
    ∙ ap (λ m. converted_plane s w h bytes Luma ++ drop m old) (luma_end t w h q even)
    ∙ ap (λ k. converted_plane s w h bytes k ++ drop (0 + plane_size w h (kind_at t 0)) old) (sym q)
