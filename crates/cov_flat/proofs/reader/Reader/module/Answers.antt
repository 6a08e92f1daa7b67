use Rattle.std.proofs.Common.{◌≡◌, ◌<◌, Some, length, sym, subst}
use Rattle.std.specs.Prelude.{slice_get}
use Rattle.std.proofs.lemmas.Option.{slice_get_within}
use Rattle.cov_syntax.specs.declared.program.Program.{Program}
use Rattle.cov_stops.specs.Table.{StopTable, TellsStop}
use Rattle.cov_flat.specs.Reading.{stop_at}
use Rattle.cov_flat.proofs.EntryLemmas.{entry_there, entry_tells}
use Rattle.cov_flat.proofs.reader.Reader.module.Goals as goal

pub entry-entry-requires : goal.entry-entry-requires
entry-entry-requires c =
    subst (λ (t : StopTable). c.args.self.now.number < length t.entries) (sym c.stops.ensures)
    (entry_there c.args.self.now.p.now c.args.self.now.scopes.now.own.stops c.args.self.now.number c.requires.scoped.scopes.stops c.requires.there)

pub get-requires : goal.get-requires
get-requires c =
    let p : Program = c.args.self.now.p.now in
    let got : slice_get c.args.self.now.scopes.now.own.stops.entries c.args.self.now.number ≡ Some c.entry-entry.result
    = subst (λ (t : StopTable). slice_get t.entries c.args.self.now.number ≡ Some c.entry-entry.result) c.stops.ensures c.entry-entry.ensures in
    let tells : TellsStop p c.args.self.now.scopes.now.own.stops c.args.self.now.number c.entry-entry.result (stop_at p c.args.self.now.number)
    = entry_tells p c.args.self.now.scopes.now.own.stops c.args.self.now.number c.requires.scoped.scopes.stops c.requires.there c.entry-entry.result got in
    slice_get_within p.modules c.entry-entry.result.«module» (stop_at p c.args.self.now.number).here.from tells.«module»

pub returns : goal.returns
returns c =
    let p : Program = c.args.self.now.p.now in
    let got : slice_get c.args.self.now.scopes.now.own.stops.entries c.args.self.now.number ≡ Some c.entry-entry.result
    = subst (λ (t : StopTable). slice_get t.entries c.args.self.now.number ≡ Some c.entry-entry.result) c.stops.ensures c.entry-entry.ensures in
    let tells : TellsStop p c.args.self.now.scopes.now.own.stops c.args.self.now.number c.entry-entry.result (stop_at p c.args.self.now.number)
    = entry_tells p c.args.self.now.scopes.now.own.stops c.args.self.now.number c.requires.scoped.scopes.stops c.requires.there c.entry-entry.result got in
    cc (c.get.ensures, tells.«module»)
