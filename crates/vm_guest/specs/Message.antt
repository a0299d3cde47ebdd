-- What is said on the queue of commands, without pages, tables or heads.
use Rattle.std.specs.Prelude.{ℕ, [], length, Option, Ok}
use Rattle.std.specs.Option.{option_to_list}
use Rattle.vm_frame.specs.declared.mem.Held.{Held}
use Rattle.vm_link.specs.declared.parcel.Finished.{Finished}
use Rattle.vm_link.specs.declared.parcel.Parcel.{Parcel}
use Rattle.vm_script.specs.declared.line.RawChain.{RawChain}
use Rattle.vm_wire.specs.Message.{Posting, Returning}
use Rattle.vm_wire.specs.Message.Ask.{Judged}
use Rattle.vm_exchange.specs.Entries.{bytes_behind, crossing_bytes}
use Rattle.vm_exchange.specs.declared.crossing.Crossing.{Crossing}
use Rattle.vm_handle.specs.Answers.{IsCrossing}
use Rattle.vm_guest.specs.Chain.{chain_table, IsChain, reply_bytes}
use Rattle.vm_guest.specs.Raw.{raw_table, raw_bytes, raw_ask, raw_behind}

-- What a process sends: a call that crosses, with the memory that goes along, if one does; or a raw
-- line's chain.
pub data Sending : Type 0 where
  OfCall : Crossing → Option Held → Sending
  OfRaw : RawChain → Sending

-- what is said by what a process sends
abbrev pub posting_of : ℕ → Sending → Posting
posting_of p (OfCall c along) = record {
  request = record { who = p; asks = Judged (Ok c.command) };
  behind = bytes_behind c.user;
  held = option_to_list along;
}
posting_of p (OfRaw chain) = record {
  request = record { who = p; asks = raw_ask chain };
  behind = raw_behind chain;
  held = [];
}

-- The parcel is the process's chain with what it sends. The numbers of a command fit into their
-- fields.
abbrev pub Carries : ℕ → Sending → Parcel → Type 0
Carries p (OfCall c along) parcel =
    IsCrossing c
    × IsChain p (chain_table p (length (crossing_bytes c))) (crossing_bytes c)
    (option_to_list along) parcel
Carries p (OfRaw chain) parcel = IsChain p (raw_table p chain) (raw_bytes chain) [] parcel

-- what a chain that came back says
abbrev pub returning_of : Finished → Returning
returning_of f =
    record { reply = record { who = f.parcel.who; bytes = reply_bytes f }; held = f.parcel.held }
