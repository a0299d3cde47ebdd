use Rattle.std.proofs.Common.{◌≡◌, ◌<◌, ◌∙◌, length, arith}
use Rattle.std.proofs.lemmas.List.Elements.{All-set}
use Rattle.vm_mem.specs.declared.page.Page.{Page}
use Rattle.vm_frame.proofs.PageLemmas.{place_of, found, missing, set_here, set_others, numbers_after_set}
use Rattle.vm_frame.proofs.PasteLemmas.{length_written, nothing_written}
use Rattle.vm_frame.proofs.page_parts.write_page.Goals as goal

pub copy_in-requires : goal.copy_in-requires
copy_in-requires c =
    let there : place_of c.args.pages.now c.args.number < length c.args.pages.now = rw (← c.place_of-place.ensures) c.if-place-pages.true in
    let page = found c.args.pages.now c.args.number c.index-pages-place.result there in
    rw (c.place_of-place.ensures, ← page.0) c.requires.within

pub returns-then-place-pages-clause-here : goal.returns-then-place-pages-clause-here
returns-then-place-pages-clause-here c =
    let there : place_of c.args.pages.now c.args.number < length c.args.pages.now = rw (← c.place_of-place.ensures) c.if-place-pages.true in
    let page = found c.args.pages.now c.args.number c.index-pages-place.result there in
    let bytes = rw (c.place_of-place.ensures, ← page.0) at c.copy_in.ensures.bytes in
    let number = rw (c.place_of-place.ensures, page.1) at c.copy_in.ensures.rest in
    rw (c.place_of-place.ensures) (set_here c.args.pages.now c.args.number c.copy_in.new.self there number ∙ bytes)

pub returns-then-place-pages-clause-others : goal.returns-then-place-pages-clause-others
returns-then-place-pages-clause-others c other apart =
    let there : place_of c.args.pages.now c.args.number < length c.args.pages.now = rw (← c.place_of-place.ensures) c.if-place-pages.true in
    let page = found c.args.pages.now c.args.number c.index-pages-place.result there in
    let number = rw (c.place_of-place.ensures, page.1) at c.copy_in.ensures.rest in
    rw (c.place_of-place.ensures) (set_others c.args.pages.now c.args.number other c.copy_in.new.self there number apart)

pub returns-then-place-pages-clause-numbers : goal.returns-then-place-pages-clause-numbers
returns-then-place-pages-clause-numbers c =
    numbers_after_set c.args.pages.now c.place_of-place.result c.copy_in.new.self c.index-pages-place.result c.copy_in.ensures.rest

pub returns-then-place-pages-clause-whole : goal.returns-then-place-pages-clause-whole
returns-then-place-pages-clause-whole c =
    let there : place_of c.args.pages.now c.args.number < length c.args.pages.now = rw (← c.place_of-place.ensures) c.if-place-pages.true in
    let page = found c.args.pages.now c.args.number c.index-pages-place.result there in
    let within = rw (page.0, ← c.place_of-place.ensures) at c.requires.within in
    let size : length c.copy_in.new.self.bytes ≡ 4096 = rw c.copy_in.ensures.bytes
    (length_written _ c.args.at c.args.from.now within ∙ c.requires.whole c.place_of-place.result c.index-pages-place.result c.if-place-pages.true) in
    All-set (λ (page : Page). length page.bytes ≡ 4096) c.args.pages.now c.place_of-place.result c.copy_in.new.self size c.requires.whole

pub returns-else-place-pages-clause-here : goal.returns-else-place-pages-clause-here
returns-else-place-pages-clause-here c =
    let none = missing c.args.pages.now c.args.number (rw (← c.place_of-place.ensures) c.if-place-pages.false) in
    let within = rw none at c.requires.within in
    rw none (nothing_written c.args.at c.args.from.now (omega arith))
