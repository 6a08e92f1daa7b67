use Rattle.std.proofs.Common.{◌≡◌, Some, length, sym, ap, ◌∙◌, arith}
use Rattle.cov_paths.specs.declared.item.Item.{Item}
use Rattle.cov_paths.proofs.Giving.{own-module-below}
use Rattle.cov_paths.proofs.Naming.{own-none, small-variable, own-variable, small-define, own-define, small-child, own-instance}
use Rattle.cov_paths.proofs.own_names.OwnNames.own.Goals as goal

pub get-requires : goal.get-requires
get-requires c =
    let below = own-module-below c.args.p.now c.args.self.now.stops c.requires.names.stops c.args.k c.requires.there c.entry-entry.result c.entry-entry.ensures in
    let count : length c.args.self.now.modules ≡ length c.args.p.now.modules = c.requires.names.scopes.count in
    omega arith

pub returns-in-None : goal.returns-in-None
returns-in-None c = own-none c.args.p.now c.requires.sound c.args.self.now c.requires.names c.args.k c.requires.there c.entry-entry.result c.entry-entry.ensures c.get.result.now c.get.ensures c.args.name (sym c.item.ensures ∙ c.in-None.is)

pub overflow_add-number : goal.overflow_add-number
overflow_add-number c =
    let small = small-variable c.args.p.now c.requires.sound c.args.self.now c.requires.names c.args.k c.requires.there c.entry-entry.result c.entry-entry.ensures c.get.result.now c.get.ensures c.args.name c.in-Some-Variable.rank
    (sym c.item.ensures ∙ c.in-Some-Variable.is ∙ ap (λ (x : Item). Some x) c.in-Some-Variable.field-0-is) in
    omega arith

pub overflow_cast-result : goal.overflow_cast-result
overflow_cast-result c =
    let small = small-variable c.args.p.now c.requires.sound c.args.self.now c.requires.names c.args.k c.requires.there c.entry-entry.result c.entry-entry.ensures c.get.result.now c.get.ensures c.args.name c.in-Some-Variable.rank
    (sym c.item.ensures ∙ c.in-Some-Variable.is ∙ ap (λ (x : Item). Some x) c.in-Some-Variable.field-0-is) in
    omega arith

pub returns-in-Some-Variable : goal.returns-in-Some-Variable
returns-in-Some-Variable c = own-variable c.args.p.now c.requires.sound c.args.self.now c.requires.names c.args.k c.requires.there c.entry-entry.result c.entry-entry.ensures c.get.result.now c.get.ensures c.args.name c.in-Some-Variable.rank
    (sym c.item.ensures ∙ c.in-Some-Variable.is ∙ ap (λ (x : Item). Some x) c.in-Some-Variable.field-0-is)

pub overflow_add-number-in-Some-Define : goal.overflow_add-number-in-Some-Define
overflow_add-number-in-Some-Define c =
    let small = small-define c.args.p.now c.requires.sound c.args.self.now c.requires.names c.args.k c.requires.there c.entry-entry.result c.entry-entry.ensures c.get.result.now c.get.ensures c.args.name c.get-in-Some-Define.result.now c.get-in-Some-Define.ensures c.in-Some-Define.rank
    (sym c.item.ensures ∙ c.in-Some-Define.is ∙ ap (λ (x : Item). Some x) c.in-Some-Define.field-0-is) in
    omega arith

pub overflow_cast-result-in-Some-Define : goal.overflow_cast-result-in-Some-Define
overflow_cast-result-in-Some-Define c =
    let small = small-define c.args.p.now c.requires.sound c.args.self.now c.requires.names c.args.k c.requires.there c.entry-entry.result c.entry-entry.ensures c.get.result.now c.get.ensures c.args.name c.get-in-Some-Define.result.now c.get-in-Some-Define.ensures c.in-Some-Define.rank
    (sym c.item.ensures ∙ c.in-Some-Define.is ∙ ap (λ (x : Item). Some x) c.in-Some-Define.field-0-is) in
    omega arith

pub returns-in-Some-Define : goal.returns-in-Some-Define
returns-in-Some-Define c = own-define c.args.p.now c.requires.sound c.args.self.now c.requires.names c.args.k c.requires.there c.entry-entry.result c.entry-entry.ensures c.get.result.now c.get.ensures c.args.name c.get-in-Some-Define.result.now c.get-in-Some-Define.ensures c.in-Some-Define.rank
    (sym c.item.ensures ∙ c.in-Some-Define.is ∙ ap (λ (x : Item). Some x) c.in-Some-Define.field-0-is)

pub overflow_add-place : goal.overflow_add-place
overflow_add-place c =
    let few = c.requires.names.stops.few_children in
    let small = small-child c.args.p.now c.requires.sound c.args.self.now c.requires.names c.args.k c.requires.there c.entry-entry.result c.entry-entry.ensures c.get.result.now c.get.ensures c.args.name c.in-Some-Instance.rank
    (sym c.item.ensures ∙ c.in-Some-Instance.is ∙ ap (λ (x : Item). Some x) c.in-Some-Instance.field-0-is) in
    omega arith

pub overflow_cast-place-in-Some-Instance : goal.overflow_cast-place-in-Some-Instance
overflow_cast-place-in-Some-Instance c =
    let few = c.requires.names.stops.few_children in
    let small = small-child c.args.p.now c.requires.sound c.args.self.now c.requires.names c.args.k c.requires.there c.entry-entry.result c.entry-entry.ensures c.get.result.now c.get.ensures c.args.name c.in-Some-Instance.rank
    (sym c.item.ensures ∙ c.in-Some-Instance.is ∙ ap (λ (x : Item). Some x) c.in-Some-Instance.field-0-is) in
    omega arith

pub child-requires : goal.child-requires
child-requires c = small-child c.args.p.now c.requires.sound c.args.self.now c.requires.names c.args.k c.requires.there c.entry-entry.result c.entry-entry.ensures c.get.result.now c.get.ensures c.args.name c.in-Some-Instance.rank
    (sym c.item.ensures ∙ c.in-Some-Instance.is ∙ ap (λ (x : Item). Some x) c.in-Some-Instance.field-0-is)

pub returns-in-Some-Instance : goal.returns-in-Some-Instance
returns-in-Some-Instance c = own-instance c.args.p.now c.requires.sound c.args.self.now c.requires.names c.args.k c.requires.there c.entry-entry.result c.entry-entry.ensures c.get.result.now c.get.ensures c.args.name c.in-Some-Instance.rank
    (sym c.item.ensures ∙ c.in-Some-Instance.is ∙ ap (λ (x : Item). Some x) c.in-Some-Instance.field-0-is)
    c.child.result c.child.ensures
