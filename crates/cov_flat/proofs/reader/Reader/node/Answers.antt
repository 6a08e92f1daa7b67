use Rattle.std.proofs.Common.{ap}
use Rattle.cov_syntax.specs.declared.program.Program.{Program}
use Rattle.cov_modules.specs.Things.{Instance, named}
use Rattle.cov_paths.specs.declared.target.Target.TheVariants as target
use Rattle.cov_flat.specs.Parts.{here}
use Rattle.cov_flat.proofs.StopLemmas.{node_variable, node_define, target_is}
use Rattle.cov_flat.proofs.reader.Reader.node.Goals as goal

pub returns-in-Some-Variable : goal.returns-in-Some-Variable
returns-in-Some-Variable c =
    let p : Program = c.args.self.now.p.now in
    let x : Instance = here p c.args.self.now.number in
    node_variable p c.in-Some-Variable.i (named p x c.args.path.now) c.args.path.now
    (c.variables_have_places.ensures p c.requires.scoped.flattenable c.requires.scoped.sound c.in-Some-Variable.i)
    (target_is p c.named.result c.in-Some-Variable.field-0 (target.Variable c.in-Some-Variable.i) (named p x c.as_slice.result.now) (named p x c.args.path.now)
    c.in-Some-Variable.is c.in-Some-Variable.field-0-is (ap (named p x) c.as_slice.ensures) c.named.ensures)

pub returns-in-Some-Define : goal.returns-in-Some-Define
returns-in-Some-Define c =
    let p : Program = c.args.self.now.p.now in
    let x : Instance = here p c.args.self.now.number in
    node_define p c.in-Some-Define.i (named p x c.args.path.now) c.args.path.now
    (c.defines_have_places.ensures p c.requires.scoped.flattenable c.requires.scoped.sound c.in-Some-Define.i)
    (target_is p c.named.result c.in-Some-Define.field-0 (target.Define c.in-Some-Define.i) (named p x c.as_slice.result.now) (named p x c.args.path.now)
    c.in-Some-Define.is c.in-Some-Define.field-0-is (ap (named p x) c.as_slice.ensures) c.named.ensures)
