-- The texts of sections, one behind another.
use Rattle.std.proofs.Common.{◌≡◌, ℕ, suc, ◌+◌, ◌<◌, ◌++◌, List, [], ◌∷◌, length, take, get_or, codes, refl, sym, ◌∙◌, ap, subst, arith, append_assoc, append-nil}
use Rattle.std.proofs.Math.Seq.{take-suc}
use Rattle.cov_coverage.specs.declared.names.NamedSignal.{NamedSignal}
use Rattle.cov_coverage.specs.Puts.{Puts}
use Rattle.cov_coverage.specs.Sections.{AreSignalSections, IsSignalSection, IsUncoveredState, none, more, titled_states}
use Rattle.cov_coverage.proofs.Standing.{Stands, states_are}
use Rattle.cov_cubes.specs.Models.{states_of_slot}
use Rattle.cov_logic.specs.Formula.{Formula}
use Rattle.cov_model.specs.declared.model.Model.{Model}
use Rattle.cov_claims.specs.Covering.{IsCoveredState}
use Rattle.cov_report.specs.SpecLines.{signal_line}
use Rattle.cov_sym.specs.declared.sys.Sys.{Sys}
use Rattle.cov_syntax.specs.declared.tree.Expr.{Expr}

-- three texts behind another
three : (old a b c x y z : List ℕ) → a ≡ old ++ x → b ≡ a ++ y → c ≡ b ++ z → c ≡ old ++ (x ++ (y ++ z))
three old a b c x y z p q r =
    r ∙ ap (λ l. l ++ z) (q ∙ ap (λ l. l ++ y) p) ∙ append_assoc (old ++ x) y z ∙ append_assoc old x (y ++ z)

pub section_put : (limit : ℕ) (m : Model) (f : Formula Expr) (named : NamedSignal) (old sys1 sys2 : Sys) (n : ℕ) (t0 t1 t2 t3 : List ℕ)
    → Stands m old sys1 n (IsCoveredState m named.signal f) → Stands m old sys2 n (IsUncoveredState m named.signal f) → t1 ≡ t0 ++ signal_line named.name
    → t2 ≡ t1 ++ titled_states limit m (codes "covered") (states_of_slot m sys1 n) → t3 ≡ t2 ++ titled_states limit m (codes "uncovered") (states_of_slot m sys2 n)
    → Puts t0 t3 (IsSignalSection limit m f named)
section_put limit m f named old sys1 sys2 n t0 t1 t2 t3 h k p q r =
    let x : List ℕ = titled_states limit m (codes "covered") (states_of_slot m sys1 n) in
    let y : List ℕ = titled_states limit m (codes "uncovered") (states_of_slot m sys2 n) in
    record {
      text = signal_line named.name ++ (x ++ y);
      is = record {
        covered = states_of_slot m sys1 n;
        are_covered = states_are m old sys1 n (IsCoveredState m named.signal f) h;
        uncovered = states_of_slot m sys2 n;
        are_uncovered = states_are m old sys2 n (IsUncoveredState m named.signal f) k;
        is = refl;
      };
      puts = three t0 t1 t2 t3 (signal_line named.name) x y p q r;
    }

-- ---- one section after another

pub no_section : (limit : ℕ) (m : Model) (f : Formula Expr) (old : List ℕ) → Puts old old (AreSignalSections limit m f [])
no_section limit m f old = record { text = []; is = none; puts = sym (append-nil old) }

pub one_section_more : (limit : ℕ) (m : Model) (f : Formula Expr) (signals : List NamedSignal) (i : ℕ) (q : NamedSignal) (t0 t1 t2 : List ℕ) → i < length signals → q ≡ get_or signals i q
    → Puts t0 t1 (AreSignalSections limit m f (take i signals)) → Puts t1 t2 (IsSignalSection limit m f q) → Puts t0 t2 (AreSignalSections limit m f (take (i + 1) signals))
one_section_more limit m f signals i q t0 t1 t2 lt at h k =
    let next : i + 1 ≡ suc i = omega arith in
    let more_is : take (i + 1) signals ≡ take i signals ++ q ∷ [] =
    ap (λ j. take j signals) next ∙ take-suc signals i q lt ∙ ap (λ (z : NamedSignal). take i signals ++ z ∷ []) (sym at) in
    record {
      text = h.text ++ k.text;
      is = subst (λ (l : List NamedSignal). AreSignalSections limit m f l (h.text ++ k.text)) (sym more_is) (more (take i signals) q h.text k.text h.is k.is);
      puts = k.puts ∙ ap (λ l. l ++ k.text) h.puts ∙ append_assoc t0 h.text k.text;
    }
