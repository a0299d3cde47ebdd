use Rattle.std.proofs.Common.{◌≡◌, ℕ, List, [], ◌∷◌, ◌++◌, length, take, drop, get_or, sym, ap, ◌∙◌, subst, arith}
use Rattle.vm_mem.specs.declared.page.Page.{Page}
use Rattle.vm_wire.specs.Event.{SpellsEvent}
use Rattle.vm_guest.specs.Chain.{no_page}
use Rattle.vm_guest.proofs.ByHandLemmas.{front_of}
use Rattle.vm_guest.proofs.tests.device.event_parcel.Goals as goal

pub returns-clause-brings : goal.returns-clause-brings
returns-clause-brings c =
    let P : List ℕ → Type 0 = λ bytes. SpellsEvent bytes c.args.msg.now in
    let first = ap (λ (ps : List Page). take 608 (get_or ps 0 no_page).bytes) (c.push_reserved-2.ensures.items ∙ ap (λ (ps : List Page). ps ++ c.copy_in.new.self ∷ []) c.in_ok-pages.ensures.items) in
    let size : length c.encode_event.new.out ≡ 608 = omega (arith, c.encode_event.auto.out) in
    let whole = first ∙ ap (take 608) c.copy_in.ensures.bytes ∙ front_of c.encode_event.new.out _ size in
    subst P (sym whole) c.encode_event.ensures.reads_back
