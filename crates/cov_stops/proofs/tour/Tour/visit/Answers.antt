use Rattle.std.proofs.Common.{◌≡◌, ◌+◌, ◌++◌, ◌∷◌, [], List, map, length, reverse, slice_set, count_by, sym, ap, ◌∙◌, arith}
use Rattle.std.proofs.lemmas.List.{reverse-append, reverse-reverse}
use Rattle.cov_syntax.specs.declared.program.Program.{Program}
use Rattle.cov_syntax.specs.declared.program.Section.{Section}
use Rattle.cov_modules.specs.Modules.{module_names}
use Rattle.cov_stops.specs.Counted.{is_variable, is_define}
use Rattle.cov_stops.specs.Coming.{put_off_from, no_number}
use Rattle.cov_stops.specs.Touring.{entry_of}
use Rattle.cov_stops.proofs.RoomLemmas.{room, vars-fit, defines-fit}
use Rattle.cov_stops.proofs.TourLemmas.{same-tour, next-sections, next-items, tour-next}
use Rattle.cov_stops.proofs.tour.Tour.visit.Goals as goal

pub note-requires : goal.note-requires
note-requires c = let self = c.args.self.now in
    room c.args.p.now c.requires.flattenable c.requires.sound self.entries self.children c.args.x (reverse self.put_off) self.vars self.defines c.requires.next

pub overflow_add-self : goal.overflow_add-self
overflow_add-self c =
    let self = c.args.self.now in
    let same = next-sections c.args.p.now self.entries self.children c.args.x (reverse self.put_off) self.vars self.defines c.requires.next c.get.result.now c.get.ensures ∙ sym c.as_slice-sections.ensures in
    let fit = vars-fit c.args.p.now c.requires.flattenable c.requires.sound self.entries self.children c.args.x (reverse self.put_off) self.vars self.defines c.requires.next c.as_slice-sections.result.now same in
    let vars : c.note.new.self.vars ≡ self.vars = ap (λ t. t.vars) c.in_ok-note.ensures in
    omega (arith, fit, vars, c.variables.ensures)

pub overflow_add-self-2 : goal.overflow_add-self-2
overflow_add-self-2 c =
    let self = c.args.self.now in
    let same = next-sections c.args.p.now self.entries self.children c.args.x (reverse self.put_off) self.vars self.defines c.requires.next c.get.result.now c.get.ensures ∙ sym c.as_slice-sections.ensures in
    let fit = defines-fit c.args.p.now c.requires.flattenable c.requires.sound self.entries self.children c.args.x (reverse self.put_off) self.vars self.defines c.requires.next c.as_slice-sections.result.now same in
    omega (arith, fit, c.defines.ensures)

pub overflow_add-self-3 : goal.overflow_add-self-3
overflow_add-self-3 c =
    let self = c.args.self.now in
    let same = next-sections c.args.p.now self.entries self.children c.args.x (reverse self.put_off) self.vars self.defines c.requires.next c.get.result.now c.get.ensures ∙ sym c.as_slice-sections.ensures in
    let fit = defines-fit c.args.p.now c.requires.flattenable c.requires.sound self.entries self.children c.args.x (reverse self.put_off) self.vars self.defines c.requires.next c.as_slice-sections.result.now same in
    let defines : c.note.new.self.defines ≡ self.defines = ap (λ t. t.defines) c.in_ok-note.ensures in
    omega (arith, fit, defines, c.defines.ensures)

pub returns-clause-touring : goal.returns-clause-touring
returns-clause-touring c =
    let self = c.args.self.now in
    let p : Program = c.args.p.now in
    let t = c.requires.next in
    let ss : List Section = t.coming.0.stop.here.from.sections in
    let same : ss ≡ c.as_slice-sections.result.now = next-sections p self.entries self.children c.args.x (reverse self.put_off) self.vars self.defines t c.get.result.now c.get.ensures ∙ sym c.as_slice-sections.ensures in
    let children : c.note.new.self.children ≡ slice_set self.children c.args.x.place (length self.entries) = ap (λ t. t.children) c.in_ok-note.ensures in
    let put_off : c.note.new.self.put_off ≡ self.put_off = ap (λ t. t.put_off) c.in_ok-note.ensures in
    let items : c.put_off_all.new.below ≡ put_off_from (module_names p) (length self.entries) 0 (length self.children) ss =
    c.in_ok-put_off_all.ensures.below ∙ next-items p c.args.modules.now c.len-number.result self.entries self.children c.note.new.self.children c.args.x.place ss c.as_slice-sections.result.now c.requires.modules c.len-number.ensures children same in
    let v : self.vars + count_by is_variable ss ≡ c.note.new.self.vars + c.variables.result =
    sym (ap (λ k. k + c.variables.result) (ap (λ t. t.vars) c.in_ok-note.ensures) ∙ ap (λ k. self.vars + k) (c.variables.ensures ∙ sym (ap (count_by is_variable) same))) in
    let d : self.defines + (c.args.x.defines + count_by is_define ss) ≡ c.note.new.self.defines + (c.args.x.defines + c.defines.result) =
    sym (ap (λ k. k + (c.args.x.defines + c.defines.result)) (ap (λ t. t.defines) c.in_ok-note.ensures) ∙ ap (λ k. self.defines + (c.args.x.defines + k)) (c.defines.ensures ∙ sym (ap (count_by is_define) same))) in
    same-tour p
    (self.entries ++ entry_of c.args.x self.vars self.defines (length self.children) ∷ []) c.note.new.self.entries
    (slice_set self.children c.args.x.place (length self.entries) ++ map no_number (put_off_from (module_names p) (length self.entries) 0 (length self.children) ss)) c.put_off_all.new.children
    (put_off_from (module_names p) (length self.entries) 0 (length self.children) ss ++ reverse self.put_off) (reverse c.put_first.new.stack)
    (self.vars + count_by is_variable ss) (c.note.new.self.vars + c.variables.result)
    (self.defines + (c.args.x.defines + count_by is_define ss)) (c.note.new.self.defines + (c.args.x.defines + c.defines.result))
    (sym (ap (λ t. t.entries) c.in_ok-note.ensures))
    (sym (c.in_ok-put_off_all.ensures.children ∙ ap (λ xs. xs ++ map no_number c.put_off_all.new.below) children ∙ ap (λ xs. slice_set self.children c.args.x.place (length self.entries) ++ map no_number xs) items))
    (sym (ap reverse c.in_ok-put_first.ensures
    ∙ ap (λ xs. reverse (xs ++ reverse c.put_off_all.new.below)) put_off
    ∙ reverse-append self.put_off (reverse c.put_off_all.new.below)
    ∙ ap (λ xs. xs ++ reverse self.put_off) (reverse-reverse c.put_off_all.new.below ∙ items)))
    v d
    (tour-next p c.requires.sound self.entries self.children c.args.x (reverse self.put_off) self.vars self.defines t)
