-- How the device may answer an open.
use Rattle.std.proofs.Common.{ℕ, false, [], refl, arith}
use Rattle.v4l_const.specs.declared.errno.Errno.TheVariants.{Enomem}
use Rattle.vm_wire.specs.declared.response.Response.TheVariants.{Refused as Denied, Opened}
use Rattle.vm_local.specs.declared.call.Call.TheVariants.{OpenHandle}
use Rattle.vm_local.specs.declared.reply.Reply.TheVariants.{Done, Refused}
use Rattle.vm_local.specs.State.{LocalState}
use Rattle.vm_local.specs.Calls.{opened_anew}
use Rattle.vm_local.specs.Log.{called}
use Rattle.vm_handle.specs.Answers.{AnswersWith}

-- that it opened a session
pub opened : (s : LocalState) (line id : ℕ) → AnswersWith s line (OpenHandle false) (Opened id) []
unfolding called
opened s line id = record {
  reply = Done;
  next = opened_anew s false;
  session = id;
  is_call = refl;
  told = refl;
  memories = record { settled = λ k d within. absurd (omega (arith, within)); back = []; fresh = []; ordered = refl; queued = tt; made = tt };
}

-- that memory is wanting
pub denied : (s : LocalState) (line : ℕ) → AnswersWith s line (OpenHandle false) (Denied 12) []
unfolding called
denied s line = record { reply = Refused Enomem; next = s; session = 0; is_call = refl; told = refl; memories = refl }
