use Rattle.std.proofs.Common.{rules}
use Rattle.vm_carrier.proofs.CarrierLemmas.{put_counted, put_past}
use Rattle.vm_carrier.proofs.carrier.put_bytes.Goals as goal

pub returns-then-place-pages : goal.returns-then-place-pages
returns-then-place-pages c =
    put_counted c.args.pages.now c.args.number c.args.at c.place_of-place.result c.args.bytes.now c.put_in.new.page c.index-pages-place.result c.place_of-place.ensures (search rules) (search rules)

pub returns-else-place-pages : goal.returns-else-place-pages
returns-else-place-pages c = put_past c.args.pages.now c.args.number c.args.at c.place_of-place.result c.args.bytes.now c.place_of-place.ensures (search rules)
