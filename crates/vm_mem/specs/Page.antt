-- Where bytes lie in the pages of a guest: the byte at an address is in the page whose number is
-- the address over 4096.
use Rattle.std.specs.Prelude.{ℕ, ◌+◌, ◌/◌, ◌%◌, Bool, ◌==◌, ◌&&◌, nat_le}

-- the number of the page that an address lies in
abbrev pub page_number : ℕ → ℕ
page_number address = address / 4096

-- the place of an address in its page
abbrev pub place_in_page : ℕ → ℕ
place_in_page address = address % 4096

-- `len` bytes from `start` on begin in the page numbered `number`, and don't go past its end
abbrev pub lies_in_page : ℕ → ℕ → ℕ → Bool
lies_in_page start len number =
    (number == page_number start) && nat_le (place_in_page start + len) 4096
