-- The memory of a user that a line of a script makes: pages of zeros, and the entries that name its
-- bytes in them. Source: own.
use Rattle.std.specs.Prelude.{ℕ, ◌+◌, ◌-◌, ◌*◌, ◌==◌, if◌then◌else◌, min, List, map, replicate}
use Rattle.std.specs.Int.{div_ceil}
use Rattle.std.specs.List.{range_with_len}
use Rattle.vm_mem.specs.declared.page.Page.{Page}
use Rattle.vm_frame.specs.declared.scatter.SgEntry.{SgEntry}
use Rattle.vm_frame.specs.User.{ScatteredPages}

-- how many pages hold `len` bytes of which the first stands at `off` in its page
abbrev pub page_count : ℕ → ℕ → ℕ
page_count len off = div_ceil (len + off) 4096

-- The number of the i-th of so many pages. Each line of a script has 227 numbers of its own from
-- 0x100000 on, and its pages run backwards.
abbrev pub number_of : ℕ → ℕ → ℕ → ℕ
number_of line count i = 1048576 + 227 * line + (count - 1 - i)

-- that page, of zeros
abbrev pub page_of : ℕ → ℕ → ℕ → Page
page_of line count i = record { number = number_of line count i; bytes = replicate 4096 0 }

-- the place in the i-th page where the memory's bytes begin
abbrev pub place_on : ℕ → ℕ → ℕ
place_on off i = if i == 0 then off else 0

-- the memory's bytes in the i-th page: to the page's end, or to the memory's own
abbrev pub entry_of : ℕ → ℕ → ℕ → ℕ → SgEntry
entry_of line len off i = record {
  start = 4096 * number_of line (page_count len off) i + place_on off i;
  len = min (4096 - place_on off i) (len + off - (4096 * i + place_on off i));
}

abbrev pub user_entries : ℕ → ℕ → ℕ → List SgEntry
user_entries line len off = map (entry_of line len off) (range_with_len 0 (page_count len off))

abbrev pub user_pages : ℕ → ℕ → List Page
user_pages line count = map (page_of line count) (range_with_len 0 count)

-- the memory of `len` bytes that a line makes
abbrev pub user_memory : ℕ → ℕ → ℕ → ScatteredPages
user_memory line len off = record {
  entries = user_entries line len off;
  pages = user_pages line (page_count len off);
}
