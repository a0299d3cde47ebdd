use Rattle.vm_sg.proofs.UserLemmas.{user_is_sound}
use Rattle.vm_sg.proofs.user_memory.of_user.Goals as goal

pub invariant_of-result : goal.invariant_of-result
invariant_of-result c =
    let sound = user_is_sound c.args.line c.args.len c.args.off c.requires.some c.requires.in_a_page c.requires.small in
    (rw (c.in_ok-entries.ensures.items, c.in_ok-pages.ensures, c.pages_of-count.ensures.value) sound, c.in_ok-entries.ensures.room)
