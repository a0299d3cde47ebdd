-- A chain as its user sees it: how many descriptors it may have, and those that it has.
use Rattle.std.specs.Prelude.{ℕ, ◌^◌, ◌<◌, ◌≤◌, List, All, length, filter, sum_by}
use Rattle.vm_chain.specs.declared.desc.Desc.{Desc}
use Rattle.vm_chain.specs.Desc.{is_readable, is_writable}

pub record WalkedChain : Type 0 where
  pub limit : ℕ
  pub descs : List Desc

-- a chain has room for as many descriptors as it may have, and each of them lies in one page, so
-- that the sums of their lengths fit
pub record IsRoomy (limit capacity : ℕ) (descs : List Desc) : Type 0 where
  pub few : limit < 2 ^ 16
  pub within : length descs ≤ limit
  pub reserved : limit ≤ capacity
  pub in_one_page : All (λ d. d.len ≤ 4096) descs

-- how many bytes the device may read
abbrev pub readable_bytes : List Desc → ℕ
readable_bytes descs = sum_by (λ d. d.len) (filter is_readable descs)

-- how many bytes the device may write
abbrev pub writable_bytes : List Desc → ℕ
writable_bytes descs = sum_by (λ d. d.len) (filter is_writable descs)
