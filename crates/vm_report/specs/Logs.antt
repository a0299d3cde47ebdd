-- What a run leaves: each handle's log, each raw line's, the region's journal, and the digest of
-- what crossed.
use Rattle.std.specs.Prelude.{ℕ, List, Option, map}
use Rattle.v4l_const.specs.declared.errno.Errno.{Errno}
use Rattle.vm_local.specs.declared.entry.Entry.{Entry}
use Rattle.vm_region.specs.declared.entry.RegionEntry.{RegionEntry}
use Rattle.vm_script.specs.declared.line.RawChain.{RawChain}

-- One handle: its process, its name, the session's id where an open was answered ok, and its log.
pub record HandleLog : Type 0 where
  pub process : ℕ
  pub name : List ℕ
  pub session : Option ℕ
  pub entries : List Entry

-- One raw line: its process, its number, the chain that it posts, and the errno with which it is
-- refused.
pub record RawLog : Type 0 where
  pub process : ℕ
  pub line : ℕ
  pub chain : RawChain
  pub errno : Errno

-- The handles and the raw lines in printed order, the region's journal, and the digest.
pub record Logs : Type 0 where
  pub handles : List HandleLog
  pub raws : List RawLog
  pub journal : List RegionEntry
  pub wire : List ℕ

abbrev pub ids_of : Logs → List (Option ℕ)
ids_of logs = map (λ h. h.session) logs.handles
