-- Lemmas on what a text is read as.
use Rattle.std.proofs.Common.{◌≡◌, ◌⊎◌, ℕ, Bool, List, length, Option, Some, None, Result, Ok, Err, IfErr, refl, sym, inl, inr, subst}
use Rattle.std.specs.Result.{IsErrAnd}
use Rattle.cov_syntax.specs.declared.fault.ModelFault.{ModelFault}
use Rattle.cov_syntax.specs.declared.fault.Refused.TheVariants as refused
use Rattle.cov_syntax.specs.declared.program.Program.{Program}
use Rattle.cov_syntax.specs.declared.token.Token.{Token}
use Rattle.cov_syntax.specs.Lexemes.{lexemes_of}
use Rattle.cov_syntax.specs.Limits.{IsShallow}
use Rattle.cov_syntax.specs.Programs.{ReadsText}
use Rattle.cov_syntax.specs.Tokens.{tokens}
use Rattle.cov_model.specs.declared.model.Model.{Model}
use Rattle.cov_model.specs.Accepted.{kinds}
use Rattle.cov_modules.specs.Flatten.{flat}
use Rattle.cov_top.specs.Accepting.{IsReadAs, TellsProgramFault}
use Rattle.cov_top.specs.Reading.{IsAccepted, IsGrammarFault, IsProgramFault, IsProgramText, IsTextFault}
use Rattle.cov_first_fault.specs.FirstFault.{IsFirstFault}
use Rattle.cov_first_fault.proofs.FirstFaults.{no_fault, one_fault}
use Rattle.cov_grammar.proofs.ModuleCompleteness.{one_program}
use Rattle.cov_top.specs.Run.{IsReportWith, IsTextReport}
use Rattle.cov_jobs.specs.declared.fault.JobFault.{JobFault}
use Rattle.cov_jobs.specs.declared.fault.JobFault.TheVariants as job
use Rattle.cov_jobs.specs.Faults.{IsJobFault}
use Rattle.cov_space.specs.Meters.{MeterOf}
use Rattle.cov_top.specs.Stops.{IsReplayStop, IsTextStop, of_job}
use Rattle.cov_top.specs.declared.refusal.NoReport.{NoReport}
use Rattle.cov_top.specs.declared.refusal.NoReport.TheVariants as no_report
use Rattle.cov_words.specs.Words.{evidence_name}
use Rattle.cov_words.specs.declared.job.Job.{Job}

-- a program with a fault has no model
faulty : (p : Program) (f : ModelFault) → TellsProgramFault p (refused.Fault f) → (unsettled m : Model) → flat p ≡ Ok unsettled → kinds unsettled ≡ Ok m → ⊥
faulty p f (inl e) unsettled m flat kinds = absurd cc
faulty p f (inr (n, e, k)) unsettled m flat kinds = absurd cc

-- the one program that reads a text has a fault, so the text has it
pub program-fault : (text : List ℕ) (found : List Token) (p : Program) (f : ModelFault) → tokens text ≡ Ok found → ReadsText text found p → IsShallow (lexemes_of text found)
    → ((q : Program) → IsProgramText text q → q ≡ p) → TellsProgramFault p (refused.Fault f) → IsTextFault text f
program-fault text found p f cut reads shallow only fault = record {
  refused = λ q m a. faulty p f fault a.unsettled m (subst (λ r. flat r ≡ Ok a.unsettled) (only q a.reads) a.flat) a.kinds;
  cause = inr (inr (record { program = p; reads = record { found = found; cut = cut; reads = reads; shallow = shallow }; cause = fault }));
}

one-list : (o : Result (List Token) ModelFault) (a b : List Token) → o ≡ Ok a → o ≡ Ok b → a ≡ b
one-list o a b e f = cc

-- where one program alone reads the tokens, one alone reads the text
pub one-program : (text : List ℕ) (found : List Token) (p : Program) → tokens text ≡ Ok found
    → ((q : Program) → ReadsText text found q → IsShallow (lexemes_of text found) → p ≡ q) → (q : Program) → IsProgramText text q → q ≡ p
one-program text found p cut only q r =
    let same : r.found ≡ found = one-list (tokens text) r.found found r.cut cut in
    sym (only q (subst (λ ts. ReadsText text ts q) same r.reads) (subst (λ ts. IsShallow (lexemes_of text ts)) same r.shallow))

one-model : (p : Program) (u v c m : Model) → flat p ≡ Ok u → flat p ≡ Ok v → kinds u ≡ Ok c → kinds v ≡ Ok m → m ≡ c
one-model p u v c m e f g h = cc

-- a text is accepted as no other model than the one that its one program has
pub only-model : (text : List ℕ) (p : Program) (c : Model) → IsAccepted text p c → ((q : Program) → IsProgramText text q → q ≡ p) → (q : Program) (m : Model) → IsAccepted text q m → m ≡ c
only-model text p c acc only q m a =
    one-model p acc.unsettled a.unsettled c m acc.flat (subst (λ r. flat r ≡ Ok a.unsettled) (only q a.reads) a.flat) acc.kinds a.kinds

-- the report on what is read is one on its text
pub text-report : (j : Job) (text : List ℕ) (m : Model) → IsReadAs text m → (evidence : Option (List ℕ)) (passes : Bool) (shown : List ℕ) → IsReportWith j evidence m passes shown
    → IsTextReport j text evidence passes shown
text-report j text m r evidence passes shown is = record { program = r.program; model = m; accepted = r.accepted; only = only-model text r.program m r.accepted r.only; is = is }

-- why what is read has no report
pub text-stop : (j : Job) (text : List ℕ) (m : Model) → IsReadAs text m → evidence_name j ≡ None → (evidence : Option (List ℕ)) (old new : MeterOf) (f : JobFault) → IsJobFault j m old new f
    → IsTextStop j text evidence old new (of_job f)
text-stop j text m r alone evidence old new (job.Asked a) h = (
  record { program = r.program; model = m; accepted = r.accepted; only = only-model text r.program m r.accepted r.only; asked = h.0 },
  h.1,
)
text-stop j text m r alone evidence old new (job.Nodes full) h = record {
  program = r.program;
  model = m;
  accepted = r.accepted;
  only = only-model text r.program m r.accepted r.only;
  unasked = h.0;
  diagrams = alone;
  out = h.1;
}
text-stop j text m r alone evidence old new job.Memory h = h

-- the exit of a job that has no report
pub stop-exit : {X : Type 0} (answer : Result X NoReport) (stop : NoReport → Type 0) (f : JobFault) → IsErrAnd answer (λ e. e ≡ of_job f) → stop (of_job f) → IfErr answer stop
stop-exit (Ok x) stop f is h = tt
stop-exit (Err e) stop f is h = subst stop (sym is) h

-- why evidence that is read on a model gives no verdict
pub replay-stop : (j : Job) (text : List ℕ) (m : Model) → IsReadAs text m → (bytes : List ℕ) (old new : MeterOf) (reason : NoReport) → new ≡ old → IsReplayStop m bytes reason
    → IsTextStop j text (Some bytes) old new reason
replay-stop j text m r bytes old new (no_report.Evidence f) kept h = (
  record {
    program = r.program;
    model = m;
    accepted = r.accepted;
    only = only-model text r.program m r.accepted r.only;
    text = bytes;
    is = refl;
    fault = h.0;
    unspelled = h.1;
  },
  kept,
)
replay-stop j text m r bytes old new (no_report.Fault f) kept h = absurd h
replay-stop j text m r bytes old new (no_report.Asked a) kept h = absurd h
replay-stop j text m r bytes old new (no_report.Nodes full) kept h = absurd h
replay-stop j text m r bytes old new no_report.Memory kept h = kept

-- ---- the fault of a text

unread : (text : List ℕ) (found : List Token) (f : ModelFault) → tokens text ≡ Ok found → IsFirstFault (length text) (lexemes_of text found) f → (p : Program) → IsProgramText text p → ⊥
unread text found f cut first p r =
    let same : r.found ≡ found = one-list (tokens text) r.found found r.cut cut in
    let reads = subst (λ ts. ReadsText text ts p) same r.reads in
    let shallow = subst (λ ts. IsShallow (lexemes_of text ts)) same r.shallow in
    no_fault p.modules reads.modules shallow first

-- no program reads the tokens of a text, and this is the first fault in them
pub grammar-fault : (text : List ℕ) (found : List Token) (f : ModelFault) → tokens text ≡ Ok found → IsFirstFault (length text) (lexemes_of text found) f → IsTextFault text f
grammar-fault text found f cut first = record {
  refused = λ p m a. unread text found f cut first p a.reads;
  cause = inr (inl (record { found = found; cut = cut; first = first }));
}

same-grammar : (text : List ℕ) (f g : ModelFault) → IsGrammarFault text f → IsGrammarFault text g → f ≡ g
same-grammar text f g a b =
    let same : a.found ≡ b.found = one-list (tokens text) a.found b.found a.cut b.cut in
    one_fault (subst (λ ts. IsFirstFault (length text) (lexemes_of text ts) f) same a.first) b.first

program-causes : (p : Program) (f g : ModelFault) → (flat p ≡ Err f) ⊎ ((m : Model) × (flat p ≡ Ok m) × (kinds m ≡ Err f))
    → (flat p ≡ Err g) ⊎ ((m : Model) × (flat p ≡ Ok m) × (kinds m ≡ Err g)) → f ≡ g
program-causes p f g (inl a) (inl b) = cc
program-causes p f g (inl a) (inr (n, b, k)) = absurd cc
program-causes p f g (inr (m, a, h)) (inl b) = absurd cc
program-causes p f g (inr (m, a, h)) (inr (n, b, k)) = let same : m ≡ n = cc in cc

same-program : (text : List ℕ) (f g : ModelFault) → IsProgramFault text f → IsProgramFault text g → f ≡ g
same-program text f g a b =
    let found : a.reads.found ≡ b.reads.found = one-list (tokens text) a.reads.found b.reads.found a.reads.cut b.reads.cut in
    let same : a.program ≡ b.program = one_program (subst (λ ts. ReadsText text ts a.program) found a.reads.reads) b.reads.reads in
    program-causes b.program f g
    (subst (λ (p : Program). (flat p ≡ Err f) ⊎ ((m : Model) × (flat p ≡ Ok m) × (kinds m ≡ Err f))) same a.cause) b.cause

no-cut : {X : Type 0} (text : List ℕ) (found : List Token) (f : ModelFault) → tokens text ≡ Ok found → tokens text ≡ Err f → X
no-cut text found f a b = absurd cc

by-causes : (text : List ℕ) (f g : ModelFault) → (tokens text ≡ Err f) ⊎ (IsGrammarFault text f ⊎ IsProgramFault text f)
    → (tokens text ≡ Err g) ⊎ (IsGrammarFault text g ⊎ IsProgramFault text g) → f ≡ g
by-causes text f g (inl a) (inl b) = cc
by-causes text f g (inl a) (inr (inl b)) = no-cut text b.found f b.cut a
by-causes text f g (inl a) (inr (inr b)) = no-cut text b.reads.found f b.reads.cut a
by-causes text f g (inr (inl a)) (inl b) = no-cut text a.found g a.cut b
by-causes text f g (inr (inl a)) (inr (inl b)) = same-grammar text f g a b
by-causes text f g (inr (inl a)) (inr (inr b)) = absurd (unread text a.found f a.cut a.first b.program b.reads)
by-causes text f g (inr (inr a)) (inl b) = no-cut text a.reads.found g a.reads.cut b
by-causes text f g (inr (inr a)) (inr (inl b)) = absurd (unread text b.found g b.cut b.first a.program a.reads)
by-causes text f g (inr (inr a)) (inr (inr b)) = same-program text f g a b

-- a text has at most one fault
pub one-text-fault : (text : List ℕ) (f g : ModelFault) → IsTextFault text f → IsTextFault text g → f ≡ g
one-text-fault text f g a b = by-causes text f g a.cause b.cause
