-- Scatter lists: the bytes that their entries name, and what may be wrong with an entry.
-- Source: own, after the VIRTIO 1.4 draft, "Media Device".
use Rattle.std.specs.Prelude.{ℕ, ◌+◌, ◌==◌, ◌&&◌, Bool, not, nat_lt, if◌then◌else◌, List, [], ◌∷◌, ◌++◌, take, drop, map, find, Option, None, Some}
use Rattle.std.specs.List.{flat_map, list_any}
use Rattle.std.specs.Option.{option_map_or, option_or}
use Rattle.vm_mem.specs.Page.{page_number, place_in_page, lies_in_page}
use Rattle.vm_mem.specs.declared.page.Page.{Page}
use Rattle.vm_frame.specs.declared.scatter.SgEntry.{SgEntry}
use Rattle.vm_frame.specs.declared.scatter.SgFault.{SgFault}
use Rattle.vm_frame.specs.declared.scatter.SgFault.TheVariants.{Outside, ZeroLen, Twice}

-- the bytes of the page with a number, of the first one where several have it
abbrev pub page_bytes : List Page → ℕ → List ℕ
page_bytes pages number =
    option_map_or (λ page. page.bytes) (find (λ page. page.number == number) pages) []

-- the bytes that an entry names
abbrev pub entry_bytes : List Page → SgEntry → List ℕ
entry_bytes pages e =
    take e.len (drop (place_in_page e.start) (page_bytes pages (page_number e.start)))

-- the bytes that entries name, joined
abbrev pub scatter_bytes : List SgEntry → List Page → List ℕ
scatter_bytes entries pages = flat_map (entry_bytes pages) entries

-- two entries have an address in common
abbrev pub meets : SgEntry → SgEntry → Bool
meets e f = nat_lt e.start (f.start + f.len) && nat_lt f.start (e.start + e.len)

-- what is wrong with an entry behind `earlier` ones, where there are the pages with these numbers
abbrev pub entry_fault : List ℕ → List SgEntry → SgEntry → Option SgFault
entry_fault numbers earlier e =
    if e.len == 0 then Some ZeroLen
    else (if not (list_any (lies_in_page e.start e.len) numbers) then Some Outside
    else (if list_any (meets e) earlier then Some Twice
    else None))

-- the first entry's fault, behind `earlier` entries
abbrev pub first_fault : List ℕ → List SgEntry → List SgEntry → Option SgFault
first_fault numbers earlier [] = None
first_fault numbers earlier (e ∷ es) =
    option_or (entry_fault numbers earlier e) (first_fault numbers (earlier ++ e ∷ []) es)

abbrev pub scatter_fault : List SgEntry → List Page → Option SgFault
scatter_fault entries pages = first_fault (map (λ page. page.number) pages) [] entries
