use Rattle.vm_host.proofs.chains.+follow.Given as goal

abbrev pub decreases-follow : goal.decreases-follow
decreases-follow l = l.most
