use Rattle.vm_world.proofs.RequiresLemmas.{has_place, is_alone, has_room_for, its_chain_is_out, is_ready_for, has_room_for_one, can_issue_here, can_collect_here, can_pump}
use Rattle.vm_world.proofs.laws.the_ends_have_what_they_ask.Goals as goal

pub returns : goal.returns
returns c = λ script g h queues carried quiet can. (
  record {
    place = has_place script g h queues can;
    alone = is_alone script g h queues can;
    room = has_room_for g h queues carried;
    frames = can.frames;
    out = λ session. its_chain_is_out session g h queues carried;
    ready = is_ready_for g h queues carried;
    one = has_room_for_one g h queues carried;
  },
  record {
    issue = λ n. can_issue_here n script g h queues carried quiet can;
    collect = can_collect_here script g h queues carried can;
    pump = can_pump script g h queues carried can;
  },
)
