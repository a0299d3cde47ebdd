use Rattle.std.proofs.Common.{◌≡◌, ◌<◌, ◌++◌, ◌∷◌, [], slice_get, Some, None, sym, ap, ◌∙◌, arith, append_assoc, refl}
use Rattle.std.proofs.lemmas.List.{append-nil}
use Rattle.std.proofs.lemmas.Grind.{common_steps}
use Rattle.vm_chain.specs.Desc.{following}
use Rattle.vm_host.proofs.FollowLemmas.{seen_none, seen_last, seen_more}
use Rattle.vm_host.proofs.chains.+follow.Goals as goal

pub returns-in_default-clause-descs : goal.returns-in_default-clause-descs
returns-in_default-clause-descs t c =
    let none : slice_get c.args.table.now c.args.at ≡ None = sym c.desc_at.ensures ∙ c.in_default.is in
    sym (append-nil c.args.descs.now.items) ∙ ap (λ ds. c.args.descs.now.items ++ ds) (sym (seen_none c.args.table.now c.args.most c.args.at none))

pub returns-in-Some-following-clause-descs : goal.returns-in-Some-following-clause-descs
returns-in-Some-following-clause-descs t c =
    let there : slice_get c.args.table.now c.args.at ≡ Some c.in-Some.desc = sym c.desc_at.ensures ∙ c.in-Some.is in
    let more : following c.in-Some.desc ≡ Some c.in-Some-following.next = sym c.following.ensures ∙ c.in-Some-following.is in
    let some : 0 < c.args.most = grind (arith, common_steps) in
    let step = seen_more c.args.table.now c.args.most c.args.at c.in-Some-following.next c.in-Some.desc some there more in
    rw (c.follow.ensures.descs, c.push_reserved.ensures.items, step) (append_assoc c.args.descs.now.items (c.in-Some.desc ∷ []) _)

pub returns-in_default-following-clause-descs : goal.returns-in_default-following-clause-descs
returns-in_default-following-clause-descs t c =
    let there : slice_get c.args.table.now c.args.at ≡ Some c.in-Some.desc = sym c.desc_at.ensures ∙ c.in-Some.is in
    let last : following c.in-Some.desc ≡ None = sym c.following.ensures ∙ c.in_default-following.is in
    let some : 0 < c.args.most = grind (arith, common_steps) in
    let step = seen_last c.args.table.now c.args.most c.args.at c.in-Some.desc some there last in
    rw (c.push_reserved.ensures.items, step) refl
