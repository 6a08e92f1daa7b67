use Rattle.std.proofs.Common.{◌≡◌, ◌<◌, ◌∙◌, Some, length, sym, ap, subst}
use Rattle.std.specs.Prelude.{slice_get}
use Rattle.std.proofs.lemmas.Option.{slice_get_within}
use Rattle.cov_syntax.specs.declared.program.ModuleTree.{ModuleTree}
use Rattle.cov_syntax.specs.declared.program.Program.{Program}
use Rattle.cov_modules.specs.Things.{Instance}
use Rattle.cov_modules.specs.Walk.{Stop}
use Rattle.cov_stops.specs.Table.{StopTable, IsDeclaredAt}
use Rattle.cov_flat.specs.Reading.{stop_at}
use Rattle.cov_flat.proofs.EntryLemmas.{entry_there, declared_behind, made_name}
use Rattle.cov_flat.proofs.reader.Reader.declaration.Goals as goal

pub entry-entry-requires : goal.entry-entry-requires
entry-entry-requires c =
    subst (λ (t : StopTable). c.args.self.now.number < length t.entries) (sym c.stops.ensures)
    (entry_there c.args.self.now.p.now c.args.self.now.scopes.now.own.stops c.args.self.now.number c.requires.reader.scoped.scopes.stops c.requires.reader.there)

pub get-requires : goal.get-requires
get-requires c =
    let p : Program = c.args.self.now.p.now in
    let s : Stop = stop_at p c.args.self.now.number in
    let got : slice_get c.args.self.now.scopes.now.own.stops.entries c.args.self.now.number ≡ Some c.entry-entry.result
    = subst (λ (t : StopTable). slice_get t.entries c.args.self.now.number ≡ Some c.entry-entry.result) c.stops.ensures c.entry-entry.ensures in
    let found : IsDeclaredAt p c.entry-entry.result.section s
    = (declared_behind p c.args.self.now.scopes.now.own.stops c.args.self.now.number c.requires.reader.scoped.scopes.stops c.requires.reader.there c.entry-entry.result got c.requires.declared).1 in
    let same : s.caller.from ≡ c.module.result.now = sym (c.module.ensures ∙ ap (λ (x : Instance). x.from) c.caller.ensures.caller) in
    subst (λ (m : ModuleTree). c.entry-entry.result.section < length m.sections) same (slice_get_within s.caller.from.sections c.entry-entry.result.section _ found.there)

pub returns : goal.returns
returns c =
    let p : Program = c.args.self.now.p.now in
    let s : Stop = stop_at p c.args.self.now.number in
    let got : slice_get c.args.self.now.scopes.now.own.stops.entries c.args.self.now.number ≡ Some c.entry-entry.result
    = subst (λ (t : StopTable). slice_get t.entries c.args.self.now.number ≡ Some c.entry-entry.result) c.stops.ensures c.entry-entry.ensures in
    let found : IsDeclaredAt p c.entry-entry.result.section s
    = (declared_behind p c.args.self.now.scopes.now.own.stops c.args.self.now.number c.requires.reader.scoped.scopes.stops c.requires.reader.there c.entry-entry.result got c.requires.declared).1 in
    let same : c.module.result.now ≡ s.caller.from = c.module.ensures ∙ ap (λ (x : Instance). x.from) c.caller.ensures.caller in
    let at : slice_get s.caller.from.sections c.entry-entry.result.section ≡ Some c.get.result.now
    = subst (λ (m : ModuleTree). slice_get m.sections c.entry-entry.result.section ≡ Some c.get.result.now) same c.get.ensures in
    record {
      name = found.name;
      from = found.from;
      place = found.place;
      is = cc (at, found.there);
      named = made_name p s.caller (record { name = found.name; from = found.from; given = s.given }) s found.made;
    }
