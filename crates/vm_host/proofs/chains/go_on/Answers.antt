use Rattle.std.proofs.Common.{◌≡◌, ◌++◌, Ok, ap, sym, ◌∙◌}
use Rattle.vm_chain.specs.Walk.{visits}
use Rattle.vm_link.specs.Parcel.{homes_of}
use Rattle.vm_link.specs.declared.parcel.Parcel.{Parcel}
use Rattle.vm_host.proofs.FollowLemmas.{seen, walk_seen}
use Rattle.vm_host.proofs.chains.go_on.Goals as goal

pub complete_waited-requires-clause-chain : goal.complete_waited-requires-clause-chain
complete_waited-requires-clause-chain c =
    let table : c.deref.result.now ≡ c.args.parcel.now.table = c.deref.ensures.value ∙ ap (λ (p : Parcel). p.table) c.parcel.view_is in
    let listed : c.as_slice.result.now ≡ seen (visits c.deref.result.now 65 0) =
    c.as_slice.ensures.value ∙ c.follow.ensures.descs ∙ ap (λ ds. ds ++ seen (visits c.deref.result.now 65 0)) c.clear.ensures.items in
    let all = listed ∙ ap (λ t. seen (visits t 65 0)) table
    ∙ walk_seen c.args.parcel.now.table (homes_of c.args.parcel.now) c.requires.waited.descs c.requires.waited.walked in
    c.requires.waited.walked ∙ ap Ok (sym all)
