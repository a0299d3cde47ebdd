-- What goes over the link: a table of descriptors, the pages that they name, and the memories that
-- move with them.
use Rattle.std.specs.Prelude.{ℕ, ◌≤◌, List, length, map}
use Rattle.vm_chain.specs.declared.desc.Desc.{Desc}
use Rattle.vm_frame.specs.declared.mem.Held.{Held}
use Rattle.vm_mem.specs.declared.page.Page.{Page}

-- Who posts it, its table and its pages, and the memories with the number of those that there is
-- room for.
pub record ParcelState : Type 0 where
  pub who : ℕ
  pub table : List Desc
  pub pages : List Page
  pub held : List Held
  pub room : ℕ

-- the numbers of its pages
abbrev pub homes_of : ParcelState → List ℕ
homes_of parcel = map (λ page. page.number) parcel.pages

-- it has one to four descriptors, and at most four pages
abbrev pub IsPostable : ParcelState → Type 0
IsPostable parcel =
    (1 ≤ length parcel.table) × (length parcel.table ≤ 4) × (length parcel.pages ≤ 4)
