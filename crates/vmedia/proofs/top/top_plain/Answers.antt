-- Each status has its cause, by the ending that has it.
use Rattle.std.proofs.Common.{map}
use Rattle.std.specs.String.{string_bytes}
use Rattle.vmedia.specs.Top.{outside}
use Rattle.vmedia.proofs.EndsLemmas.{ends_usage, ends_bad_words, ends_run, ends_read, ends_script, ends_source, ends_reads_well, ends_sink, ends_writes_well, ends_memory, ends_complete, ends_bulk, ends_faulty}
use Rattle.vmedia.proofs.top.top_plain.Goals as goal

pub returns-clause-usage : goal.returns-clause-usage
returns-clause-usage g c =
    ends_usage (map string_bytes c.args.words.now)
    (outside (g.S.Source.left c.args.src.now) (g.S.Source.faults c.args.src.now) (g.K.Sink.held c.args.sink.now) (g.K.Sink.faults c.args.sink.now) (g.E.Engine.faults c.args.engine.now))
    (outside (g.S.Source.left c.serve.new.src) (g.S.Source.faults c.serve.new.src) (g.K.Sink.held c.serve.new.sink) (g.K.Sink.faults c.serve.new.sink) (g.E.Engine.faults c.serve.new.engine))
    c.status.result (c.serve.result, c.status.ensures, c.serve.ensures.ends)

pub returns-clause-bad_words : goal.returns-clause-bad_words
returns-clause-bad_words g c =
    ends_bad_words (map string_bytes c.args.words.now)
    (outside (g.S.Source.left c.args.src.now) (g.S.Source.faults c.args.src.now) (g.K.Sink.held c.args.sink.now) (g.K.Sink.faults c.args.sink.now) (g.E.Engine.faults c.args.engine.now))
    (outside (g.S.Source.left c.serve.new.src) (g.S.Source.faults c.serve.new.src) (g.K.Sink.held c.serve.new.sink) (g.K.Sink.faults c.serve.new.sink) (g.E.Engine.faults c.serve.new.engine))
    c.status.result (c.serve.result, c.status.ensures, c.serve.ensures.ends)

pub returns-clause-run : goal.returns-clause-run
returns-clause-run g c =
    ends_run (map string_bytes c.args.words.now)
    (outside (g.S.Source.left c.args.src.now) (g.S.Source.faults c.args.src.now) (g.K.Sink.held c.args.sink.now) (g.K.Sink.faults c.args.sink.now) (g.E.Engine.faults c.args.engine.now))
    (outside (g.S.Source.left c.serve.new.src) (g.S.Source.faults c.serve.new.src) (g.K.Sink.held c.serve.new.sink) (g.K.Sink.faults c.serve.new.sink) (g.E.Engine.faults c.serve.new.engine))
    c.status.result (c.serve.result, c.status.ensures, c.serve.ensures.ends)

pub returns-clause-read : goal.returns-clause-read
returns-clause-read g c =
    ends_read (map string_bytes c.args.words.now)
    (outside (g.S.Source.left c.args.src.now) (g.S.Source.faults c.args.src.now) (g.K.Sink.held c.args.sink.now) (g.K.Sink.faults c.args.sink.now) (g.E.Engine.faults c.args.engine.now))
    (outside (g.S.Source.left c.serve.new.src) (g.S.Source.faults c.serve.new.src) (g.K.Sink.held c.serve.new.sink) (g.K.Sink.faults c.serve.new.sink) (g.E.Engine.faults c.serve.new.engine))
    c.status.result (c.serve.result, c.status.ensures, c.serve.ensures.ends)

pub returns-clause-script : goal.returns-clause-script
returns-clause-script g c =
    ends_script (map string_bytes c.args.words.now)
    (outside (g.S.Source.left c.args.src.now) (g.S.Source.faults c.args.src.now) (g.K.Sink.held c.args.sink.now) (g.K.Sink.faults c.args.sink.now) (g.E.Engine.faults c.args.engine.now))
    (outside (g.S.Source.left c.serve.new.src) (g.S.Source.faults c.serve.new.src) (g.K.Sink.held c.serve.new.sink) (g.K.Sink.faults c.serve.new.sink) (g.E.Engine.faults c.serve.new.engine))
    c.status.result (c.serve.result, c.status.ensures, c.serve.ensures.ends)

pub returns-clause-source : goal.returns-clause-source
returns-clause-source g c =
    ends_source (map string_bytes c.args.words.now)
    (outside (g.S.Source.left c.args.src.now) (g.S.Source.faults c.args.src.now) (g.K.Sink.held c.args.sink.now) (g.K.Sink.faults c.args.sink.now) (g.E.Engine.faults c.args.engine.now))
    (outside (g.S.Source.left c.serve.new.src) (g.S.Source.faults c.serve.new.src) (g.K.Sink.held c.serve.new.sink) (g.K.Sink.faults c.serve.new.sink) (g.E.Engine.faults c.serve.new.engine))
    c.status.result (c.serve.result, c.status.ensures, c.serve.ensures.ends)

pub returns-clause-reads_well : goal.returns-clause-reads_well
returns-clause-reads_well g c =
    ends_reads_well (map string_bytes c.args.words.now)
    (outside (g.S.Source.left c.args.src.now) (g.S.Source.faults c.args.src.now) (g.K.Sink.held c.args.sink.now) (g.K.Sink.faults c.args.sink.now) (g.E.Engine.faults c.args.engine.now))
    (outside (g.S.Source.left c.serve.new.src) (g.S.Source.faults c.serve.new.src) (g.K.Sink.held c.serve.new.sink) (g.K.Sink.faults c.serve.new.sink) (g.E.Engine.faults c.serve.new.engine))
    c.status.result (c.serve.result, c.status.ensures, c.serve.ensures.ends)

pub returns-clause-sink : goal.returns-clause-sink
returns-clause-sink g c =
    ends_sink (map string_bytes c.args.words.now)
    (outside (g.S.Source.left c.args.src.now) (g.S.Source.faults c.args.src.now) (g.K.Sink.held c.args.sink.now) (g.K.Sink.faults c.args.sink.now) (g.E.Engine.faults c.args.engine.now))
    (outside (g.S.Source.left c.serve.new.src) (g.S.Source.faults c.serve.new.src) (g.K.Sink.held c.serve.new.sink) (g.K.Sink.faults c.serve.new.sink) (g.E.Engine.faults c.serve.new.engine))
    c.status.result (c.serve.result, c.status.ensures, c.serve.ensures.ends)

pub returns-clause-writes_well : goal.returns-clause-writes_well
returns-clause-writes_well g c =
    ends_writes_well (map string_bytes c.args.words.now)
    (outside (g.S.Source.left c.args.src.now) (g.S.Source.faults c.args.src.now) (g.K.Sink.held c.args.sink.now) (g.K.Sink.faults c.args.sink.now) (g.E.Engine.faults c.args.engine.now))
    (outside (g.S.Source.left c.serve.new.src) (g.S.Source.faults c.serve.new.src) (g.K.Sink.held c.serve.new.sink) (g.K.Sink.faults c.serve.new.sink) (g.E.Engine.faults c.serve.new.engine))
    c.status.result (c.serve.result, c.status.ensures, c.serve.ensures.ends)

pub returns-clause-memory : goal.returns-clause-memory
returns-clause-memory g c =
    ends_memory (map string_bytes c.args.words.now)
    (outside (g.S.Source.left c.args.src.now) (g.S.Source.faults c.args.src.now) (g.K.Sink.held c.args.sink.now) (g.K.Sink.faults c.args.sink.now) (g.E.Engine.faults c.args.engine.now))
    (outside (g.S.Source.left c.serve.new.src) (g.S.Source.faults c.serve.new.src) (g.K.Sink.held c.serve.new.sink) (g.K.Sink.faults c.serve.new.sink) (g.E.Engine.faults c.serve.new.engine))
    c.status.result (c.serve.result, c.status.ensures, c.serve.ensures.ends)

pub returns-clause-complete : goal.returns-clause-complete
returns-clause-complete g c =
    ends_complete (map string_bytes c.args.words.now)
    (outside (g.S.Source.left c.args.src.now) (g.S.Source.faults c.args.src.now) (g.K.Sink.held c.args.sink.now) (g.K.Sink.faults c.args.sink.now) (g.E.Engine.faults c.args.engine.now))
    (outside (g.S.Source.left c.serve.new.src) (g.S.Source.faults c.serve.new.src) (g.K.Sink.held c.serve.new.sink) (g.K.Sink.faults c.serve.new.sink) (g.E.Engine.faults c.serve.new.engine))
    c.status.result (c.serve.result, c.status.ensures, c.serve.ensures.ends)

pub returns-clause-bulk : goal.returns-clause-bulk
returns-clause-bulk g c =
    ends_bulk (map string_bytes c.args.words.now)
    (outside (g.S.Source.left c.args.src.now) (g.S.Source.faults c.args.src.now) (g.K.Sink.held c.args.sink.now) (g.K.Sink.faults c.args.sink.now) (g.E.Engine.faults c.args.engine.now))
    (outside (g.S.Source.left c.serve.new.src) (g.S.Source.faults c.serve.new.src) (g.K.Sink.held c.serve.new.sink) (g.K.Sink.faults c.serve.new.sink) (g.E.Engine.faults c.serve.new.engine))
    c.status.result (c.serve.result, c.status.ensures, c.serve.ensures.ends)

pub returns-clause-faulty : goal.returns-clause-faulty
returns-clause-faulty g c =
    ends_faulty (map string_bytes c.args.words.now)
    (outside (g.S.Source.left c.args.src.now) (g.S.Source.faults c.args.src.now) (g.K.Sink.held c.args.sink.now) (g.K.Sink.faults c.args.sink.now) (g.E.Engine.faults c.args.engine.now))
    (outside (g.S.Source.left c.serve.new.src) (g.S.Source.faults c.serve.new.src) (g.K.Sink.held c.serve.new.sink) (g.K.Sink.faults c.serve.new.sink) (g.E.Engine.faults c.serve.new.engine))
    c.status.result (c.serve.result, c.status.ensures, c.serve.ensures.ends)
