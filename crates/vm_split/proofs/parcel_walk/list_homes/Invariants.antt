use Rattle.std.proofs.Common.{◌≡◌, length, take, map}
use Rattle.vm_mem.specs.declared.page.Page.{Page}
use Rattle.vm_split.proofs.parcel_walk.list_homes.Given as goal

abbrev pub invariant-loop-place : goal.invariant-loop-place
invariant-loop-place l = record {
  numbers : take l.place l.homes ≡ map (λ (page : Page). page.number) (take l.place l.pages);
  size : length l.homes ≡ length l.fn.homes;
}
