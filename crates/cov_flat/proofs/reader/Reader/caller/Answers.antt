use Rattle.std.proofs.Common.{◌≡◌, ◌<◌, Some, length, sym, subst}
use Rattle.std.specs.Prelude.{slice_get}
use Rattle.cov_syntax.specs.declared.program.Program.{Program}
use Rattle.cov_stops.specs.Table.{StopTable}
use Rattle.cov_flat.proofs.EntryLemmas.{entry_there, caller_there, caller_is, declared_behind}
use Rattle.cov_flat.proofs.reader.Reader.caller.Goals as goal

pub entry-requires : goal.entry-requires
entry-requires c =
    subst (λ (t : StopTable). c.args.self.now.number < length t.entries) (sym c.stops.ensures)
    (entry_there c.args.self.now.p.now c.args.self.now.scopes.now.own.stops c.args.self.now.number c.requires.scoped.scopes.stops c.requires.there)

pub returns-clause-reader : goal.returns-clause-reader
returns-clause-reader c =
    let p : Program = c.args.self.now.p.now in
    let got : slice_get c.args.self.now.scopes.now.own.stops.entries c.args.self.now.number ≡ Some c.entry.result
    = subst (λ (t : StopTable). slice_get t.entries c.args.self.now.number ≡ Some c.entry.result) c.stops.ensures c.entry.ensures in
    record { scoped = c.requires.scoped; there = caller_there p c.args.self.now.scopes.now.own.stops c.args.self.now.number c.requires.scoped.scopes.stops c.requires.there c.entry.result got }

pub returns-clause-caller : goal.returns-clause-caller
returns-clause-caller c =
    let p : Program = c.args.self.now.p.now in
    let got : slice_get c.args.self.now.scopes.now.own.stops.entries c.args.self.now.number ≡ Some c.entry.result
    = subst (λ (t : StopTable). slice_get t.entries c.args.self.now.number ≡ Some c.entry.result) c.stops.ensures c.entry.ensures in
    caller_is p c.args.self.now.scopes.now.own.stops c.args.self.now.number c.requires.scoped.scopes.stops c.requires.there c.entry.result got

pub returns-clause-before : goal.returns-clause-before
returns-clause-before c h =
    let p : Program = c.args.self.now.p.now in
    let got : slice_get c.args.self.now.scopes.now.own.stops.entries c.args.self.now.number ≡ Some c.entry.result
    = subst (λ (t : StopTable). slice_get t.entries c.args.self.now.number ≡ Some c.entry.result) c.stops.ensures c.entry.ensures in
    (declared_behind p c.args.self.now.scopes.now.own.stops c.args.self.now.number c.requires.scoped.scopes.stops c.requires.there c.entry.result got h).0
