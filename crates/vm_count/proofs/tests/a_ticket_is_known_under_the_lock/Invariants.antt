use Rattle.vm_count.proofs.tests.a_ticket_is_known_under_the_lock.Given as goal

-- the count that was just made
abbrev pub ghosts-two_tickets : goal.ghosts-two_tickets
ghosts-two_tickets g a = record { table = a.count }
