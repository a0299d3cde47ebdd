-- A user's memory: what its type keeps of its entries and pages.
use Rattle.std.specs.Prelude.{ℕ, ◌≡◌, ◌≤◌, List, All, length, None}
use Rattle.vm_mem.specs.declared.page.Page.{Page}
use Rattle.vm_frame.specs.declared.scatter.SgEntry.{SgEntry}
use Rattle.vm_frame.specs.Scatter.{scatter_fault}

pub record ScatteredPages : Type 0 where
  pub entries : List SgEntry
  pub pages : List Page

-- the entries have no fault on the pages, there are few of both, and each page is whole
pub record IsSound (entries : List SgEntry) (pages : List Page) : Type 0 where
  pub no_fault : scatter_fault entries pages ≡ None
  pub few_entries : length entries ≤ 249
  pub few_pages : length pages ≤ 227
  pub whole : All (λ page. length page.bytes ≡ 4096) pages

-- what a user's memory is besides its bytes: where they lie
pub record Places : Type 0 where
  pub entries : List SgEntry
  pub numbers : List ℕ
