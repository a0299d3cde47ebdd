use Rattle.std.proofs.Common.{ℕ, ◌≡◌, ◌++◌, drop, subst}
use Rattle.vm_wire.specs.Wire.{le, pad}
use Rattle.vm_wire.proofs.WrittenLemmas.{six_numbers}
use Rattle.vm_wire.proofs.command.put_map.Goals as goal

pub returns-clause-bytes : goal.returns-clause-bytes
returns-clause-bytes c =
    let F : ℕ → Type 0 = λ flags. c.put32-4.new.b ≡ (le 4 ++ pad ++ le c.args.session ++ le flags ++ le c.args.offset ++ pad) ++ drop 24 c.args.out.now in
    let written : F c.mapping_flags.result =
    six_numbers c.args.out.now c.put_head.new.out c.put32.new.b c.put32-2.new.b c.put32-3.new.b c.put32-4.new.b
    4 c.args.session c.mapping_flags.result c.args.offset
    c.put_head.ensures c.put32.ensures c.put32-2.ensures c.put32-3.ensures c.put32-4.ensures in
    subst F c.mapping_flags.ensures written
