-- Evidence is told from its text.
use Rattle.std.proofs.Common.{◌≡◌, ◌≢◌, ℕ, true, false, IsTrue, List, [], ◌∷◌, ◌++◌, refl, sym, ap, ◌∙◌, codes, decimal, arith}
use Rattle.std.proofs.lemmas.Bool.{and_parts}
use Rattle.std.proofs.lemmas.Fmt.{decimal_injective}
use Rattle.std.proofs.lemmas.Slice.Eq.{bytes_eq-Decides}
use Rattle.cov_syntax.specs.Tokens.{Text}
use Rattle.cov_model.specs.declared.model.Lasso.{Lasso}
use Rattle.cov_model.specs.declared.model.Model.{Model}
use Rattle.cov_model.specs.States.{State, is_typed}
use Rattle.cov_model.specs.WellFormed.{IsWellFormed}
use Rattle.cov_show.specs.Cubes.{shown_vars}
use Rattle.cov_show.specs.States.{state_text}
use Rattle.cov_evid.specs.declared.ending.Ending.{Ending}
use Rattle.cov_evid.specs.declared.ending.Ending.TheVariants as ending
use Rattle.cov_claims.specs.declared.evidence.Claim.{Claim}
use Rattle.cov_claims.specs.declared.evidence.Claim.TheVariants as claim
use Rattle.cov_claims.specs.declared.evidence.Evidence.{Evidence}
use Rattle.cov_evid.specs.Cursors.{AreSole, IsShortLasso, IsSoleClaim, IsSoleEvidence}
use Rattle.cov_evid.specs.Spelling.{IsProper, are_typed, claim_lines, ending_line, evidence_lines, lasso_lines, state_lines}
use Rattle.cov_evid.proofs.StateLaws.{no_ending}
use Rattle.cov_evid.proofs.Texts.{has_lines, one_text}

-- ---- lists of lines

-- none of the lines is this one
abbrev AreOther : Text → List Text → Type 0
AreOther w [] = Unit {0}
AreOther w (l ∷ ls) = (l ≢ w) × AreOther w ls

record Cut (xs ys us vs : List Text) : Type 0 where
  before : xs ≡ ys
  after : us ≡ vs

cut_at : (w : Text) (xs ys us vs : List Text) → AreOther w xs → AreOther w ys → xs ++ w ∷ us ≡ ys ++ w ∷ vs → Cut xs ys us vs
cut_at w [] [] us vs h k e = record { before = refl; after = cc }
cut_at w [] (y ∷ ys) us vs h k e = absurd (k.0 cc)
cut_at w (x ∷ xs) [] us vs h k e = absurd (h.0 cc)
cut_at w (x ∷ xs) (y ∷ ys) us vs h k e =
    let first : x ≡ y = cc in
    let rest : xs ++ w ∷ us ≡ ys ++ w ∷ vs = cc in
    let c = cut_at w xs ys us vs h.1 k.1 rest in
    let same : xs ≡ ys = c.before in
    record { before = cc; after = c.after }

others : (m : Model) (e : Ending) (ss : List State) → IsTrue (are_typed m ss) → AreOther (ending_line e) (state_lines m ss)
others m e [] h = tt
others m e (s ∷ ss) h =
    let p = and_parts (is_typed m s) (are_typed m ss) h in
    (λ same. let no : true ≡ false = sym ((bytes_eq-Decides (state_text (shown_vars m) s) (ending_line e)).1 same) ∙ no_ending m s e p.0 in absurd cc, others m e ss p.1)

one_list : (m : Model) (ts ss : List State) → IsTrue (are_typed m ts) → AreSole m ss → state_lines m ts ≡ state_lines m ss → ts ≡ ss
one_list m [] [] h k e = refl
one_list m [] (s ∷ ss) h k e = absurd cc
one_list m (t ∷ ts) [] h k e = absurd cc
one_list m (t ∷ ts) (s ∷ ss) h k e =
    let p = and_parts (is_typed m t) (are_typed m ts) h in
    let text : state_text (shown_vars m) t ≡ state_text (shown_vars m) s = cc in
    let rest : state_lines m ts ≡ state_lines m ss = cc in
    let first : t ≡ s = k.0.only t p.0 text in
    let same : ts ≡ ss = one_list m ts ss p.1 k.1 rest in
    cc

-- ---- parts of evidence

same_lasso : (k l : Lasso) → k.stem ≡ l.stem → k.turn ≡ l.turn → k ≡ l
same_lasso k l s t = ap (λ (x : List State). record k { stem = x }) s ∙ ap (λ (x : List State). record l { turn = x }) t

same_evidence : (d e : Evidence) → d.claim ≡ e.claim → d.spec ≡ e.spec → d.lasso ≡ e.lasso → d ≡ e
same_evidence d e c s l =
    let one : Evidence = record d { claim = e.claim } in
    let two : Evidence = record e { lasso = d.lasso } in
    let first : d ≡ one = ap (λ (x : Claim). record d { claim = x }) c in
    let second : one ≡ two = ap (λ (x : ℕ). record one { spec = x }) s in
    let third : two ≡ e = ap (λ (x : Lasso). record e { lasso = x }) l in
    first ∙ second ∙ third

one_lasso : (m : Model) (k l : Lasso) → IsTrue (are_typed m k.stem) → IsTrue (are_typed m k.turn) → IsShortLasso m l → lasso_lines m k ≡ lasso_lines m l → k ≡ l
one_lasso m k l hs ht s e =
    let lines : state_lines m k.stem ++ ending_line ending.Turn ∷ (state_lines m k.turn ++ ending_line ending.End ∷ [])
    ≡ state_lines m l.stem ++ ending_line ending.Turn ∷ (state_lines m l.turn ++ ending_line ending.End ∷ []) = cc in
    let c = cut_at (ending_line ending.Turn) (state_lines m k.stem) (state_lines m l.stem) (state_lines m k.turn ++ ending_line ending.End ∷ []) (state_lines m l.turn ++ ending_line ending.End ∷ [])
    (others m ending.Turn k.stem hs) (others m ending.Turn l.stem s.stem) lines in
    let d = cut_at (ending_line ending.End) (state_lines m k.turn) (state_lines m l.turn) [] [] (others m ending.End k.turn ht) (others m ending.End l.turn s.turn) c.after in
    let stem : k.stem ≡ l.stem = one_list m k.stem l.stem hs s.sole_stem c.before in
    let turn : k.turn ≡ l.turn = one_list m k.turn l.turn ht s.sole_turn d.before in
    same_lasso k l stem turn

record Claimed (m : Model) (d c : Claim) (ks ls : List Text) : Type 0 where
  claims : claim_lines m d ≡ claim_lines m c
  lassos : ks ≡ ls

claim_cut : (m : Model) (d c : Claim) (ks ls : List Text) → claim_lines m d ++ ks ≡ claim_lines m c ++ ls → Claimed m d c ks ls
claim_cut m (claim.Mutant q at) (claim.Mutant r s) ks ls e = record { claims = cc; lassos = cc }
claim_cut m (claim.Mutant q at) (claim.Occurrence n) ks ls e = absurd (let first : ◌≡◌ {A = ℕ} 115 111 = cc in omega arith)
claim_cut m (claim.Occurrence n) (claim.Mutant r s) ks ls e = absurd (let first : ◌≡◌ {A = ℕ} 111 115 = cc in omega arith)
claim_cut m (claim.Occurrence n) (claim.Occurrence k) ks ls e = record { claims = cc; lassos = cc }

pub sole_evidence : (m : Model) (e : Evidence) → IsWellFormed m → IsProper m e → IsSoleClaim m e.claim → IsShortLasso m e.lasso → IsSoleEvidence m e
sole_evidence m e w p c l = record { only = λ d q same. by d q (one_text (evidence_lines m d) (evidence_lines m e) (has_lines m d w q) (has_lines m e w p) same) }
  where
    by : (d : Evidence) → IsProper m d → evidence_lines m d ≡ evidence_lines m e → d ≡ e
    by d q lines =
        let numbers : (codes "spec " ++ decimal d.spec) ≡ (codes "spec " ++ decimal e.spec) = cc in
        let texts : decimal d.spec ≡ decimal e.spec = cc in
        let spec : d.spec ≡ e.spec = decimal_injective d.spec e.spec (omega (arith, q.spec.1)) (omega (arith, p.spec.1)) texts in
        let rest : claim_lines m d.claim ++ lasso_lines m d.lasso ≡ claim_lines m e.claim ++ lasso_lines m e.lasso = cc in
        let parts = claim_cut m d.claim e.claim (lasso_lines m d.lasso) (lasso_lines m e.lasso) rest in
        let claims : d.claim ≡ e.claim = c.only d.claim q.claim parts.claims in
        let lassos : d.lasso ≡ e.lasso = one_lasso m d.lasso e.lasso q.stem q.turn l parts.lassos in
        same_evidence d e claims spec lassos
