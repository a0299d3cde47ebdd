-- What tests make by hand at the device's end of the link.
use Rattle.std.specs.Prelude.{ℕ, ◌≡◌, ◌≤◌, All, length, List, [], ◌∷◌, ◌++◌, slice_index_or, slice_set}
use Rattle.vm_link.specs.Queue.{Queue, rest_of}
use Rattle.vm_link.specs.declared.chains.DoneChain.{DoneChain}
use Rattle.vm_link.specs.declared.parcel.Finished.{Finished}
use Rattle.vm_link.specs.declared.parcel.Parcel.{Parcel}
use Rattle.vm_wire.specs.Wire.{response_bytes}
use Rattle.vm_wire.specs.declared.delivery.Delivery.{Delivery}
use Rattle.vm_wire.specs.declared.response.Response.{Response}
use Rattle.vm_guest.specs.Chain.{IsHome, reply_bytes, with_front, no_page}
use Rattle.vm_guest.specs.Guest.{GuestState}
use Rattle.vm_guest.specs.Queues.{CameBack, Brings}

-- the queue once the chain that waited first came back under this head as this parcel
abbrev pub came_back : Queue → ℕ → ℕ → Parcel → ℕ → Queue
came_back q head used parcel count = record q {
  waiting = rest_of q.waiting;
  done = q.done ++ record {
    finished = record { head = head; used = used; parcel = parcel };
    count = count;
  } ∷ [];
}

-- a process's chain with these bytes at the front of the page for its reply
abbrev pub with_reply : Parcel → List ℕ → Parcel
with_reply parcel bytes =
    record parcel {
      pages = slice_set parcel.pages 1
          (with_front (slice_index_or parcel.pages 1 no_page) bytes);
    }

-- Just one chain came back: it is an event chain, with an event of this session.
pub record BringsOne (session : ℕ) (chains : List DoneChain) : Type 0 where
  pub chain : DoneChain
  pub only : chains ≡ chain ∷ []
  pub back : CameBack chain
  pub event : Delivery
  pub brings : Brings chain.finished event
  pub of : event.session ≡ session

-- Just one chain came back: it is a process's, with this reply.
pub record Replies (p : ℕ) (response : Response) (chains : List DoneChain) : Type 0 where
  pub chain : DoneChain
  pub only : chains ≡ chain ∷ []
  pub home : IsHome p chain.finished.parcel
  pub bytes : reply_bytes chain.finished ≡ response_bytes response

-- At most so many events are held back, all of session 1, and there is room for 96.
pub record HoldsFew (held : ℕ) (g : GuestState) : Type 0 where
  pub few : length g.pump.held ≤ held
  pub room : 96 ≤ g.pump.room
  pub first : All (λ d. d.session ≡ 1) g.pump.held
