-- A script that a reader gave is one that the world runs.
use Rattle.std.proofs.Common.{ℕ, ◌+◌, List, [], ◌∷◌, All}
use Rattle.std.proofs.lemmas.List.Elements.{All-weaker, All-head, All-tail}
use Rattle.vm_local.specs.declared.call.Call.{Call}
use Rattle.vm_local.specs.declared.call.Call.TheVariants.{OpenHandle, EnumFmt, GFmt, TryFmt, SFmt, EnumInput, SInput, ReqBufs, QueryBuf, QBuf, StreamOn, StreamOff, Mmap, Subscribe, Unsubscribe}
use Rattle.vm_exchange.specs.Range.{AreWords}
use Rattle.vm_script.specs.Reading.{InRange, Fits, InOrder, IsReadLine, IsReadKind, IsReadProcess, IsReadScript, opens}
use Rattle.vm_script.specs.Script.{ProcessLines, ScriptLines}
use Rattle.vm_script.specs.declared.line.Line.{Line}
use Rattle.vm_script.specs.declared.line.LineKind.{LineKind}
use Rattle.vm_script.specs.declared.line.LineKind.TheVariants.{OnHandle, Raw}
use Rattle.vm_guest.specs.Orderly.{IsFitProcess}
use Rattle.vm_guest.proofs.AskLemmas.{read_fits}
use Rattle.vm_realm.specs.Sound.{IsRunnable, CanRun, FitsOpened, OpenInOrder}

range_words : (call : Call) → InRange call → AreWords call
range_words (EnumFmt t i) range = (range.0, range.1)
range_words (GFmt t) range = range
range_words (TryFmt t f w h) range = (range.0, range.1, range.2, range.3)
range_words (SFmt t f w h) range = (range.0, range.1, range.2, range.3)
range_words (EnumInput i) range = range
range_words (SInput i) range = range
range_words (ReqBufs t m n) range = (range.0, range.1, range.2)
range_words (QueryBuf t i) range = (range.0, range.1)
range_words (QBuf t i user used ts) range = (range.0, range.1, range.3, range.4)
range_words (StreamOn t) range = range
range_words (StreamOff t) range = range
range_words (Mmap m t i ro) range = (range.1, range.2)
range_words (Subscribe e) range = range
range_words (Unsubscribe e) range = range
range_words call range = tt

kind_runs : (names : List (List ℕ)) (echo : List ℕ) (what : LineKind) → IsReadKind names echo what → CanRun what
kind_runs names echo (OnHandle h call) read = range_words call read.range
kind_runs names echo (Raw chain) read = absurd read

fits_opened : (opened : ℕ) (what : LineKind) → Fits opened what → FitsOpened opened what
fits_opened opened (OnHandle h (OpenHandle nonblock)) fits = fits
fits_opened opened (OnHandle h call) fits = fits
fits_opened opened (Raw chain) fits = tt

order_opens : (names : List (List ℕ)) (opened : ℕ) (ls : List Line) → InOrder opened ls → All (IsReadLine names) ls → OpenInOrder opened ls
order_opens names opened [] order read = tt
order_opens names opened (l ∷ ls) order read =
    (fits_opened opened l.what order.0, (All-head (IsReadLine names) l ls read).number, order_opens names (opened + opens l.what) ls order.1 (All-tail (IsReadLine names) l ls read))

-- a script that a reader gave can be run
pub read_runnable : (script : ScriptLines) → IsReadScript script → IsRunnable script
read_runnable script read = record {
  fit = record { few = read.few; each = All-weaker IsReadProcess IsFitProcess read_fits script.processes read.each };
  each = All-weaker IsReadProcess (λ (p : ProcessLines). All (λ (l : Line). CanRun l.what) p.lines)
      (λ p is. All-weaker (IsReadLine p.handles) (λ (l : Line). CanRun l.what) (λ l at. kind_runs p.handles l.echo l.what at.what) p.lines is.each) script.processes read.each;
  opens = All-weaker IsReadProcess (λ (p : ProcessLines). OpenInOrder 0 p.lines)
      (λ p is. order_opens p.handles 0 p.lines is.order is.each) script.processes read.each;
}
