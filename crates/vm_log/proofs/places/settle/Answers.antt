use Rattle.std.proofs.Common.{◌≡◌, ◌-◌, ◌++◌, ℕ, Bool, List, [], Option, Some, length, map, take, ap, sym, subst, ◌∙◌, arith, length-drop, if◌then◌else◌}
use Rattle.vm_frame.specs.declared.mem.Held.{Held}
use Rattle.vm_frame.specs.declared.mem.Mem.{Mem}
use Rattle.vm_local.specs.State.{LocalState}
use Rattle.vm_home.specs.Home.{HomeState}
use Rattle.vm_home.specs.Moves.{put_back, home_with}
use Rattle.vm_home.proofs.StopLemmas.{put_long}
use Rattle.vm_log.proofs.SettleLemmas.{placed, placed_home}
use Rattle.vm_log.proofs.HomeLemmas.{put_shown}
use Rattle.vm_log.proofs.places.settle.Goals as goal

pub add_all-requires : goal.add_all-requires
add_all-requires c =
    let n : ℕ = length c.args.held.now.items - c.fresh_from.result in
    let long : length c.put_back.new.home.places ≡ length c.args.home.now.places =
    ap (λ (h : HomeState). length h.places) c.put_back.ensures.home ∙ put_long c.args.kept.now.local (take n c.args.held.now.items) c.args.home.now.places in
    let few : length c.put_back.new.held.items ≡ length c.args.held.now.items - n = ap (λ (hs : List Held). length hs) c.put_back.ensures.held ∙ length-drop n c.args.held.now.items in
    let room : c.put_back.new.home.room ≡ c.args.home.now.room = ap (λ (h : HomeState). h.room) c.put_back.ensures.home in
    omega (arith, long, few, room, c.requires, c.fresh_from.ensures.few)

pub returns-else-is_opening-clause-home : goal.returns-else-is_opening-clause-home
returns-else-is_opening-clause-home c =
    let held : List Held = c.args.held.now.items in
    let home : List (Option Mem) = c.args.home.now.places in
    λ s t line reached shown leads come.
    let n : ℕ = length held - c.fresh_from.result in
    let back : c.put_back.new.home.places ≡ put_back s (take n held) home =
    ap (λ (h : HomeState). h.places) c.put_back.ensures.home
    ∙ (ap (λ (x : LocalState). put_back x (take n held) home) shown ∙ put_shown s (take n held) home) in
    let all : c.add_all.new.home.places ≡ placed s n held home =
    ap (λ (h : HomeState). h.places) c.add_all.ensures.home
    ∙ (ap (λ (hs : List (Option Mem)). hs ++ map (λ (h : Held). Some h.mem) c.put_back.new.held.items) back
    ∙ ap (λ (hs : List Held). put_back s (take n held) home ++ map (λ (h : Held). Some h.mem) hs) c.put_back.ensures.held) in
    let those : placed s n held home ≡ home_with s c.args.call.now held home =
    ap (λ k. placed s (length held - k) held home) c.fresh_from.ensures.value ∙ placed_home s t line c.args.call.now c.args.reply.now held home reached leads come in
    let P : Bool → Type 0 = λ b. c.add_all.new.home.places ≡ (if b then [] else home_with s c.args.call.now held home) in
    subst P (sym c.if-is_opening.false ∙ c.is_opening.ensures) (all ∙ those)
