use Rattle.std.proofs.Common.{◌≡◌, ◌≤◌, length, drop}
use Rattle.v4l_layout.proofs.Laid.{put_all}
use Rattle.v4l_layout.proofs.write.write_fields.Given as goal

abbrev pub invariant-loop-field : goal.invariant-loop-field
invariant-loop-field l = record {
  same : put_all l.out (drop l.field-index l.fields) ≡ put_all l.initial.out l.fields;
  long : l.size ≤ length l.out;
}
