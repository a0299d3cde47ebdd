-- A sound world can go on: the parts that vm_realm proves, put together.
use Rattle.vm_realm.specs.Laws.{SoundCanGoOn}
use Rattle.vm_realm.specs.Slice.{slice_at}
use Rattle.vm_realm.specs.Sound.{inner_at}
use Rattle.vm_realm.proofs.CanTakeLemmas.{can_take_all, room_there}
use Rattle.vm_realm.proofs.FewMessagesLemmas.{held_few}
use Rattle.vm_realm.proofs.CanCollectLemmas.{can_collect}
use Rattle.vm_realm.proofs.RoomLemmas.{made_few, is_alone, has_place}

pub can_go_on : SoundCanGoOn
can_go_on = λ w sound. record {
  events = can_take_all (room_there (λ w rows n h sound named. held_few (slice_at w n h) (inner_at w rows n h) (sound.slices n h named))) w sound;
  reply = λ r rs is. can_collect w sound.0 r rs sound.1 is;
  place = λ m ms command is asks. has_place w sound.0 m ms command sound.1 is asks;
  alone = λ m ms command is asks. is_alone w sound.0 m ms command sound.1 is asks;
  frames = made_few w sound.0 sound.1;
}
