use Rattle.std.proofs.Common.{◌≡◌, ◌∙◌, ℕ, ap, sym, Option, Some, None}
use Rattle.cov_syntax.specs.declared.program.Program.{Program}
use Rattle.cov_syntax.specs.declared.tree.Node.{Node, out-Node}
use Rattle.cov_modules.specs.Names.{Dotted}
use Rattle.cov_modules.specs.Things.{Thing, Instance, named, path_layer}
use Rattle.cov_modules.specs.FlatLists.{target_of}
use Rattle.cov_paths.specs.declared.target.Target.TheVariants as target
use Rattle.cov_paths.specs.Targets.{IsNamed}
use Rattle.cov_flat.specs.Parts.{here}
use Rattle.cov_flat.proofs.StopLemmas.{number_variable, thing_variable, target_is, path_at}
use Rattle.cov_flat.proofs.reader.Reader.variable.Goals as goal

pub returns-in-Some-Variable : goal.returns-in-Some-Variable
returns-in-Some-Variable c =
    let p : Program = c.args.self.now.p.now in
    let x : Instance = here p c.args.self.now.number in
    let i : ℕ = c.in-Some-Variable.i in
    let at : Node → Option Thing = λ (m : Node). elim (path_layer (out-Node m)) [ Some path ↦ named p x path | None ↦ None ] in
    let path : named p x c.as_slice.result.now ≡ target_of p x c.args.target.now = ap (named p x) c.as_slice.ensures
    ∙ sym (ap at c.in-Path.is ∙ ap (λ (o : Option Dotted). elim o [ Some path ↦ named p x path | None ↦ None ]) (path_at c.in-Path.path)) in
    let is : IsNamed p (Some (target.Variable i)) (target_of p x c.args.target.now)
    = target_is p c.named.result c.in-Some-Variable.field-0 (target.Variable i) (named p x c.as_slice.result.now) (target_of p x c.args.target.now) c.in-Some-Variable.is c.in-Some-Variable.field-0-is path c.named.ensures in
    record {
      number = number_variable p i (target_of p x c.args.target.now) (c.variables_have_places.ensures p c.requires.scoped.flattenable c.requires.scoped.sound i) is;
      thing = thing_variable p i (target_of p x c.args.target.now) (c.variables_have_places.ensures p c.requires.scoped.flattenable c.requires.scoped.sound i) is;
    }
