use Rattle.std.specs.Prelude.{◌≤◌, ◌+◌, [], ◌∷◌, All}
use Rattle.std.proofs.lemmas.List.Elements.{All-cons, All-nil}
use Rattle.vm_chain.specs.declared.desc.Desc.{Desc}
use Rattle.vm_mem.specs.Page.{place_in_page}
use Rattle.vm_carrier.proofs.tests.what_is_readable_is_joined_and_a_reply_is_spread.Goals as goal

abbrev stays : Desc → Type 0
stays d = place_in_page d.addr + d.len ≤ 4096

four_stay : (a b c d : Desc) → stays a → stays b → stays c → stays d → All stays (a ∷ b ∷ c ∷ d ∷ [])
four_stay a b c d ha hb hc hd =
    All-cons stays a (b ∷ c ∷ d ∷ []) ha (All-cons stays b (c ∷ d ∷ []) hb (All-cons stays c (d ∷ []) hc (All-cons stays d [] hd (All-nil stays))))

pub spread-requires : goal.spread-requires
spread-requires g c =
    four_stay c.desc.result c.desc-2.result c.desc-3.result c.desc-4.result c.desc.ensures c.desc-2.ensures c.desc-3.ensures c.desc-4.ensures
