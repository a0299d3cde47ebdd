use Rattle.std.proofs.Common.{◌≡◌, ℕ, ◌+◌, List, ◌++◌, flat_map, drop, map, subst, ap, ◌∙◌}
use Rattle.std.specs.List.{AllByRecursion}
use Rattle.sha2.specs.Hashers.{Holds256}
use Rattle.sha2.specs.Sha256.{sha256}
use Rattle.vm_local.specs.Log.{IsLegal}
use Rattle.vm_local.specs.State.{opening}
use Rattle.vm_exchange.specs.Range.{HasWords}
use Rattle.vm_report.specs.declared.lent.HandleText.{HandleText}
use Rattle.vm_report.specs.Digest.{wires_from, wires_of}
use Rattle.vm_report.specs.Lent.{log_in}
use Rattle.vm_report.proofs.DigestLemmas.{all_behind, handles_more, next_has, none_left, all_hashed}
use Rattle.vm_report.proofs.digest.wire_digest.Goals as goal

pub hash_log-requires : goal.hash_log-requires
hash_log-requires c =
    (next_has (λ (h : HandleText). IsLegal c.args.model h.entries.now) c.args.handles.now c.loop-handle.handle-index c.handle-item.result c.loop-handle-test.true c.handle-item.is
    c.loop-handle.invariant.legal).0

pub loop-handle-preserved : goal.loop-handle-preserved
loop-handle-preserved c =
    let i : ℕ = c.loop-handle.handle-index in
    let hashed : List ℕ = c.loop-handle.invariant.hashed in
    let P : ℕ → Type 0 = λ session. Holds256 c.hash_log.new.hasher (hashed ++ wires_from session (opening c.args.model) c.handle-item.result.entries.now) in
    record {
      hashed = hashed ++ wires_of c.args.model (log_in c.handle-item.result);
      holds = subst P c.unwrap_or-session.ensures (c.in_ok-hash_log.ensures.holds hashed c.loop-handle.invariant.holds);
      all_of = handles_more (wires_of c.args.model) log_in c.args.handles.now i c.handle-item.result hashed c.loop-handle-test.true c.handle-item.is c.loop-handle.invariant.all_of;
      legal = (next_has (λ (h : HandleText). IsLegal c.args.model h.entries.now) c.args.handles.now i c.handle-item.result c.loop-handle-test.true c.handle-item.is
          c.loop-handle.invariant.legal).1;
      words = all_behind (λ (h : HandleText). AllByRecursion HasWords h.entries.now) c.args.handles.now i c.handle-item.result c.loop-handle-test.true c.handle-item.is
          c.in_ok-hash_log.ensures.words c.loop-handle.invariant.words;
    }

pub returns : goal.returns
returns c =
    let ends = all_hashed (wires_of c.args.model) log_in c.args.handles.now c.loop-handle.handle-index c.loop-handle.invariant.hashed c.loop-handle-test.false c.loop-handle.invariant.all_of in
    record {
      digest = c.finalize.ensures c.loop-handle.invariant.hashed c.loop-handle.invariant.holds ∙ ap sha256 ends;
      words = c.loop-handle.invariant.words (none_left (λ (h : HandleText). AllByRecursion HasWords h.entries.now) c.args.handles.now c.loop-handle.handle-index c.loop-handle-test.false);
    }
