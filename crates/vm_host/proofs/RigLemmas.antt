-- What is asked of a chain that is posted where no other waits.
use Rattle.std.proofs.Common.{◌≡◌, ℕ, ◌+◌, ◌≤◌, ◌++◌, Result, Ok, List, [], ◌∷◌, length, map, refl, sym, subst, arith, ap, Contains, ◌∙◌}
use Rattle.vm_chain.specs.Chain.{readable_bytes, writable_bytes}
use Rattle.vm_chain.specs.Walk.{walk_of}
use Rattle.vm_chain.specs.declared.desc.Desc.{Desc}
use Rattle.vm_link.specs.Parcel.{homes_of}
use Rattle.vm_link.specs.Queue.{Queue, out_heads, posted, collected}
use Rattle.vm_link.specs.declared.chains.OutChain.{OutChain}
use Rattle.vm_link.specs.declared.parcel.Parcel.{Parcel}
use Rattle.vm_host.specs.Chains.{chain_limit}
use Rattle.vm_host.specs.Growth.{IsOneOut}
use Rattle.vm_host.specs.Host.{HostState}
use Rattle.vm_host.specs.Steps.{HasRoom, HasRoomForOne, IsReadyForEvent, TakesEvent}
use Rattle.vm_host.specs.declared.waiting.Waiting.{Waiting}
use Rattle.vm_host.proofs.FreshLemmas.{roomy_room}

only_one : (ps : List Parcel) (p : Parcel) → length ps ≡ 0 → ps ++ p ∷ [] ≡ p ∷ []
only_one [] p is = refl
only_one (x ∷ xs) p is = cc

pub posted_room : (q : Queue) (p : Parcel) → length q.waiting ≡ 0 → length p.held + 64 ≤ p.room → HasRoom (posted q p).waiting
posted_room q p empty roomy = subst HasRoom (sym (only_one q.waiting p empty)) (roomy_room (p ∷ []) roomy)

pub posted_one : (q : Queue) (p : Parcel) → length q.waiting ≡ 0 → length p.held + 1 ≤ p.room → HasRoomForOne (posted q p).waiting
posted_one q p empty roomy = subst HasRoomForOne (sym (only_one q.waiting p empty)) roomy

pub posted_takes : (h : HostState) (q : Queue) (p : Parcel) → length q.waiting ≡ 0 → TakesEvent p → IsReadyForEvent h (posted q p).waiting
posted_takes h q p empty takes = subst (IsReadyForEvent h) (sym (only_one q.waiting p empty)) (λ unsent. takes)

-- the same chains are out
pub same_outs : (calls : List Waiting) (q r : Queue) → r.out ≡ q.out → IsOneOut calls q → IsOneOut calls r
same_outs [] q r same was = tt
same_outs (w ∷ []) q r same was = subst (λ (outs : List OutChain). Contains (map (λ (c : OutChain). c.head) outs) w.head) (sym same) was
same_outs (w ∷ (v ∷ ws)) q r same was = absurd was

-- ---- a chain for an event

abbrev event_desc : Desc
event_desc = record { addr = 73728; len = 608; flags = 2; next = 0 }

pub takes_event : (table : List Desc) (homes : List ℕ) → table ≡ event_desc ∷ [] → homes ≡ 18 ∷ []
    → (descs : List Desc) × (walk_of table 0 chain_limit homes ≡ Ok descs) × (readable_bytes descs ≡ 0) × (608 ≤ writable_bytes descs)
unfolding walk_of
takes_event table homes is at =
    let walked : walk_of table 0 chain_limit homes ≡ Ok (event_desc ∷ []) = rw (is, at) (refl {a = Ok (event_desc ∷ [])}) in
    (event_desc ∷ [], walked, refl, omega arith)
