-- The sums of the lengths of a chain's descriptors fit a u32.
use Rattle.std.proofs.Common.{◌+◌, ◌*◌, ◌^◌, ◌<◌, ◌≤◌, ◌≡◌, List, All, length, sum_by, refl, arith}
use Rattle.std.proofs.lemmas.List.Sums.{sum_by-le}
use Rattle.std.proofs.lemmas.List.Filters.{sum_by-filter_both}
use Rattle.vm_chain.specs.declared.desc.Desc.{Desc}
use Rattle.vm_chain.specs.Desc.{is_readable, is_writable}
use Rattle.vm_chain.specs.Chain.{readable_bytes, writable_bytes}

both_fit : (descs : List Desc) → All (λ d. d.len ≤ 4096) descs → length descs < 2 ^ 16 → readable_bytes descs + writable_bytes descs < 2 ^ 32
both_fit descs short few =
    let all : sum_by (λ (d : Desc). d.len) descs ≤ length descs * 4096 = sum_by-le (λ (d : Desc). d.len) 4096 descs short in
    let both : writable_bytes descs + readable_bytes descs ≡ sum_by (λ (d : Desc). d.len) descs =
    sum_by-filter_both is_writable is_readable (λ d. refl) (λ (d : Desc). d.len) descs in
    omega arith

pub readable_fits : (descs : List Desc) → All (λ d. d.len ≤ 4096) descs → length descs < 2 ^ 16 → readable_bytes descs < 2 ^ 32
readable_fits descs short few = let both = both_fit descs short few in omega arith

pub writable_fits : (descs : List Desc) → All (λ d. d.len ≤ 4096) descs → length descs < 2 ^ 16 → writable_bytes descs < 2 ^ 32
writable_fits descs short few = let both = both_fit descs short few in omega arith
