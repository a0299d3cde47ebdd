-- Pixels and their colours. The conversions are this project's own: BT.601 in parts of 256, with
-- divisions that round down.
use Rattle.std.specs.Prelude.{ℕ, ◌+◌, ◌-◌, ◌*◌, ◌/◌, min, ℤ, pos, negsuc, ◌+ℤ◌, ◌-ℤ◌, ◌*ℤ◌}
use Rattle.v4l_format.specs.declared.colours.Colours.{Colours}
use Rattle.v4l_format.specs.declared.colours.Colours.TheVariants.{Ycbcr, Rgb}
use Rattle.v4l_format.specs.declared.component.Component.{Component}
use Rattle.v4l_format.specs.declared.component.Component.TheVariants.{Y, Cb, Cr, R, G, B}
use Rattle.v4l_format.specs.declared.triple.Triple.{Triple}
use Rattle.v4l_format.specs.SampleOrder.{triple}

-- a component of a pixel
abbrev pub component_of : Triple → Component → ℕ
component_of t Y = t.0
component_of t Cb = t.1
component_of t Cr = t.2
component_of t R = t.0
component_of t G = t.1
component_of t B = t.2

-- Y, Cb and Cr of a red, green and blue
abbrev pub ycbcr_of : Triple → Triple
ycbcr_of t = triple
    ((66 * t.0 + 129 * t.1 + 25 * t.2 + 128) / 256 + 16)
    ((32896 + 112 * t.2 - 38 * t.0 - 74 * t.1) / 256)
    ((32896 + 112 * t.0 - 94 * t.1 - 18 * t.2) / 256)

-- a 256th, rounded down and brought into 0 to 255
abbrev pub brought : ℤ → ℕ
brought (pos n) = min 255 (n / 256)
brought (negsuc n) = 0

-- red, green and blue of a Y, Cb and Cr
abbrev pub red_of : ℕ → ℕ → ℕ
red_of y cr = brought (pos 298 *ℤ (pos y -ℤ pos 16) +ℤ pos 409 *ℤ (pos cr -ℤ pos 128) +ℤ pos 128)

abbrev pub green_of : ℕ → ℕ → ℕ → ℕ
green_of y cb cr =
    brought (pos 298 *ℤ (pos y -ℤ pos 16) -ℤ pos 100 *ℤ (pos cb -ℤ pos 128) -ℤ pos 208 *ℤ
    (pos cr -ℤ pos 128) +ℤ pos 128)

abbrev pub blue_of : ℕ → ℕ → ℕ
blue_of y cb = brought (pos 298 *ℤ (pos y -ℤ pos 16) +ℤ pos 516 *ℤ (pos cb -ℤ pos 128) +ℤ pos 128)

abbrev pub rgb_of : Triple → Triple
rgb_of t = triple (red_of t.0 t.2) (green_of t.0 t.1 t.2) (blue_of t.0 t.1)

-- a pixel turned from the one colours into the other
abbrev pub turned : Colours → Colours → Triple → Triple
turned Ycbcr Ycbcr t = t
turned Ycbcr Rgb t = rgb_of t
turned Rgb Ycbcr t = ycbcr_of t
turned Rgb Rgb t = t
