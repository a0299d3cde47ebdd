-- The places of memories at a call.
use Rattle.std.specs.Prelude.{ℕ, ◌≡◌, Bool, true, false, List, [], Option, None, length, min, if◌then◌else◌, ◌==◌}
use Rattle.vm_frame.specs.declared.mem.Held.{Held}
use Rattle.vm_frame.specs.declared.mem.Mem.{Mem}
use Rattle.vm_local.specs.declared.call.Call.{Call}
use Rattle.vm_local.specs.declared.call.Call.TheVariants.{OpenHandle, ReqBufs}
use Rattle.vm_local.specs.declared.reply.Reply.{Reply}
use Rattle.vm_local.specs.declared.reply.Reply.TheVariants.{Done, Count}
use Rattle.vm_local.specs.State.{LocalState}
use Rattle.vm_home.specs.Home.{home_of, is_kept}
use Rattle.vm_home.specs.Moves.{home_with}

-- how many memories were made that come with a reply
abbrev pub fresh_from : Call → Reply → ℕ
fresh_from (ReqBufs t m n) (Count made) = if m == 1 then min made 32 else 0
fresh_from call reply = 0

abbrev pub is_opening : Call → Reply → Bool
is_opening (OpenHandle nonblock) Done = true
is_opening call reply = false

-- with the memories that come with a reply; a handle that is opened begins with none
abbrev pub settled : LocalState → Call → Reply → List Held → List (Option Mem) → List (Option Mem)
settled s call reply held home = if is_opening call reply then [] else home_with s call held home

-- only memories that the handle has no more are dropped
pub record LetsGo (s : LocalState) (old new : List (Option Mem)) : Type 0 where
  pub places : length new ≡ length old
  pub kept : (m : ℕ) → is_kept s m ≡ true → home_of new m ≡ home_of old m
  pub gone : (m : ℕ) → home_of old m ≡ None → home_of new m ≡ None
