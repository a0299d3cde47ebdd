use Rattle.std.proofs.Common.{ℕ, List, [], drop, refl, sym, subst, arith}
use Rattle.v4l_layout.specs.declared.field.Value.TheVariants.{Byte}
use Rattle.v4l_layout.specs.Layout.{ReadsAs}
use Rattle.v4l_layout.proofs.Laid.{field_within, all_written, laid_reads_back}
use Rattle.v4l_layout.proofs.write.write_fields.Goals as goal

-- src/write.rt:46:9
pub put-requires : goal.put-requires
put-requires c =
    omega (arith, field_within c.args.size 0 c.args.fields.now c.loop-field.field-index (record { at = 0; value = Byte 0 }) c.requires c.loop-field-test.true)

-- src/write.rt:34:1
pub returns-clause-ok : goal.returns-clause-ok
returns-clause-ok c =
    all_written c.args.size c.loop-field.field-index c.args.out.now c.fill.new.self c.loop-field.out c.args.fields.now
    c.if-out-size.false (c.fill.ensures.after (λ y e. e)) c.loop-field.invariant.same c.loop-field-test.false c.requires

-- src/write.rt:34:1
pub returns-clause-reads_back : goal.returns-clause-reads_back
returns-clause-reads_back c =
    subst (λ (t : List ℕ). ReadsAs t c.args.fields.now) (sym (returns-clause-ok c))
    (laid_reads_back c.args.size 0 [] (drop c.args.size c.args.out.now) c.args.fields.now refl c.requires)
